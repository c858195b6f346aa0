use Rattle.std.proofs.Common.{◌≡◌, ◌<◌, length, take, ap, ◌∙◌, ap₂, arith}
use Rattle.std.specs.Slice.Iter.{iter_rest}
use Rattle.std.specs.Iterator.Adapters.{take_source, take_count}
use Rattle.cost.specs.Costs.{misfits}
use Rattle.cost.specs.Misfits.{misfits_next, misfits_end, face_small}
use Rattle.cost.proofs.misfit.MisfitCost.face_part.Goals as goal

pub loop-reading-init : goal.loop-reading-init
loop-reading-init g c =
    let i = c.into_iter-reading-iterator.result in
    let same = c.into_iter-reading-iterator.ensures.into_iter_gives in
    let count : take_count i ≡ 4096 = omega (arith, ap take_count same, c.take-reading-items.ensures.count) in
    let rest : iter_rest (take_source i) ≡ g.R.Readings.list c.args.self.now.readings =
    ap (λ j. iter_rest (take_source j)) same ∙ ap iter_rest c.take-reading-items.ensures.source ∙ c.iter.ensures.rest ∙ c.lent.ensures.value in
    (tt, tt, omega (arith, ap₂ (λ n l. misfits c.args.face.a c.args.face.b c.args.face.c (take n l)) count rest))

pub overflow_add-sum : goal.overflow_add-sum
overflow_add-sum g c =
    let i = c.loop-reading.reading-iterator in
    let j = c.next.new.self in
    let s = c.in-Some.ensures.steps in
    omega (arith, c.loop-reading.invariant.2, c.misfit-sum.ensures.value, misfits_next c.args.face.a c.args.face.b c.args.face.c (take_count i) (take_count j) c.in-Some.reading.now (iter_rest (take_source i)) (iter_rest (take_source j)) s.0 s.1, face_small c.args.face.a c.args.face.b c.args.face.c (g.R.Readings.list c.args.self.now.readings))

pub loop-reading-preserved : goal.loop-reading-preserved
loop-reading-preserved g c =
    let i = c.loop-reading.reading-iterator in
    let j = c.next.new.self in
    let s = c.in-Some.ensures.steps in
    (tt, tt, omega (arith, c.loop-reading.invariant.2, c.misfit-sum.ensures.value, misfits_next c.args.face.a c.args.face.b c.args.face.c (take_count i) (take_count j) c.in-Some.reading.now (iter_rest (take_source i)) (iter_rest (take_source j)) s.0 s.1))

pub returns : goal.returns
returns g c =
    let i = c.loop-reading.reading-iterator in
    let none : 0 < take_count i → length (iter_rest (take_source i)) ≡ 0 = λ h. (c.in-None.ensures.steps h).0 in
    record { value = omega (arith, c.loop-reading.invariant.2, misfits_end c.args.face.a c.args.face.b c.args.face.c (take_count i) (iter_rest (take_source i)) none) }
