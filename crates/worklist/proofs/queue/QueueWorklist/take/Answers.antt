use Rattle.std.proofs.Common.{arith}
use Rattle.worklist.specs.Marked.{told_first}
use Rattle.worklist.proofs.queue.QueueWorklist.take.Goals as goal

pub bounds-self-k : goal.bounds-self-k
bounds-self-k g c =
    let q = c.args.self.now in
    let small = told_first q.listed q.numbers.items c.in_ok-k.k c.pop_front.new.self.items q.told c.in_ok-k.ensures.items in
    omega (arith, small, q.wide)
