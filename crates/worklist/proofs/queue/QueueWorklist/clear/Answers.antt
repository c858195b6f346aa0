use Rattle.std.proofs.Common.{arith}
use Rattle.worklist.specs.Orders.{limit}
use Rattle.worklist.proofs.Listings.{kept_none}
use Rattle.worklist.proofs.queue.QueueWorklist.clear.Goals as goal

pub invariant_of-self : goal.invariant_of-self
invariant_of-self g c =
    let e = c.clear.ensures in
    let k = kept_none limit c.clear.new.self.items e.items in
    record { room = omega (arith, e.capacity, c.args.self.now.room); alone = k.alone; wide = k.wide; told = k.told }
