use Rattle.std.proofs.Common.{◌≡◌, ◌+◌, take}
use Rattle.std.specs.Slice.Iter.{iter_rest}
use Rattle.std.specs.Iterator.Adapters.{take_source, take_count}
use Rattle.cost.specs.Costs.{misfits}
use Rattle.cost.proofs.misfit.MisfitCost.face_part.Given as goal

-- the sum so far, and what the readings left to look at will add
abbrev pub invariant-loop-reading : goal.invariant-loop-reading
invariant-loop-reading g l =
    (goal.iterator-loop-reading g).can_next l.reading-iterator
    × (goal.iterator-loop-reading g).is_finite l.reading-iterator
    × (l.sum + misfits l.face.a l.face.b l.face.c (take (take_count l.reading-iterator) (iter_rest (take_source l.reading-iterator)))
    ≡ misfits l.face.a l.face.b l.face.c (take 4096 (g.R.Readings.list l.self.readings)))
