use Rattle.mesh.specs.Meshes.{lent}
use Rattle.job.proofs.Refusing.{pin_written}
use Rattle.job.proofs.job.set_pin.Goals as goal

pub returns-clause-after : goal.returns-clause-after
returns-clause-after c = pin_written c.args.pin (lent c.args.mesh.now) c.args.s c.set_pin.new.half_edges c.set_pin.ensures
