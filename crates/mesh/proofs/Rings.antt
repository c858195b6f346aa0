-- next and previous go round a face: each undoes the other, three steps come home, and none leaves the faces in use.
use Rattle.std.proofs.Common.{◌≡◌, ℕ, ◌+◌, ◌-◌, ◌*◌, ◌<◌, arith}
use Rattle.std.proofs.lemmas.Bool.Decides.{nat_tests}
use Rattle.mesh.specs.Meshes.{Mesh, used, next, previous}

pub next_below : (s k : ℕ) → s < 3 * k → next s < 3 * k
unfolding next
next_below s k h = grind (arith, nat_tests)

pub previous_below : (s k : ℕ) → s < 3 * k → previous s < 3 * k
unfolding previous
previous_below s k h = grind (arith, nat_tests)

pub next_previous : (s : ℕ) → next (previous s) ≡ s
unfolding next previous
next_previous s = grind (arith, nat_tests)

pub previous_next : (s : ℕ) → previous (next s) ≡ s
unfolding next previous
previous_next s = grind (arith, nat_tests)

pub next_thrice : (s : ℕ) → next (next (next s)) ≡ s
unfolding next
next_thrice s = grind (arith, nat_tests)

-- the next half-edge is in use, and so is the one before
pub next_used : (m : Mesh) (s : ℕ) → s < used m → next s < used m
next_used m s h = let k = next_below s (2 * (m.header.count - 3)) (omega arith) in omega arith

pub previous_used : (m : Mesh) (s : ℕ) → s < used m → previous s < used m
previous_used m s h = let k = previous_below s (2 * (m.header.count - 3)) (omega arith) in omega arith

-- the half-edges of face f follow one another
pub next_first : (f : ℕ) → next (3 * f) ≡ 3 * f + 1
unfolding next
next_first f = grind (arith, nat_tests)

pub next_second : (f : ℕ) → next (3 * f + 1) ≡ 3 * f + 2
unfolding next
next_second f = grind (arith, nat_tests)

pub next_third : (f : ℕ) → next (3 * f + 2) ≡ 3 * f
unfolding next
next_third f = grind (arith, nat_tests)
