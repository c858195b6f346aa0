use Rattle.std.proofs.Common.{arith}
use Rattle.worklist.specs.Orders.{limit}
use Rattle.worklist.proofs.Listings.{kept_none}
use Rattle.worklist.proofs.queue.Queue.new.Goals as goal

pub invariant_of-result : goal.invariant_of-result
invariant_of-result g c =
    let e = c.in_ok-numbers.ensures in
    let k = kept_none limit c.in_ok-numbers.numbers.items e.items in
    record { room = omega (arith, e.capacity); alone = k.alone; wide = k.wide; told = k.told }
