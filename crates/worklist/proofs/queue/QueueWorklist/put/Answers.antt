use Rattle.std.proofs.Common.{sym, subst, arith}
use Rattle.worklist.specs.Orders.{limit}
use Rattle.worklist.proofs.Listings.{Kept, has_room, kept_put}
use Rattle.worklist.proofs.queue.QueueWorklist.put.Goals as goal

pub push-requires : goal.push-requires
push-requires g c =
    let q = c.args.self.now in
    let few = has_room limit q.listed q.numbers.items c.args.k (record { alone = q.alone; wide = q.wide; told = q.told }) c.if-not-mark.ensures.value in
    record { room = omega (arith, few, q.numbers.ok.0, q.room) }

pub invariant_of-self-2 : goal.invariant_of-self-2
invariant_of-self-2 g c =
    let q = c.args.self.now in
    let m = c.if-not-mark.ensures in
    let e = c.push.ensures in
    let put = kept_put limit q.listed q.numbers.items c.args.k c.push.new.numbers.items (record { alone = q.alone; wide = q.wide; told = q.told })
    m.value (g.met.E.End.lawful.inserts _ _ _ e.items) in
    let k = subst (λ t. Kept limit t c.push.new.numbers.items) (sym m.after) put in
    record { room = omega (arith, e.capacity, q.room); alone = k.alone; wide = k.wide; told = k.told }
