use Rattle.std.proofs.Common.{length, ap, ◌∙◌}
use Rattle.mesh.specs.Meshes.{seen}
use Rattle.text.proofs.Prints.{face_line_is}
use Rattle.text.proofs.report.face_length.Goals as goal

pub returns : goal.returns
returns c = c.line_length.ensures.exact ∙ ap length (face_line_is (seen c.args.roomy.mesh) c.args.face c.origins.result c.origins.ensures)
