-- What the twin of a half-edge tells of its number.
use Rattle.std.proofs.Common.{◌≡◌, ℕ, Bool, true, false, cond, Some, None, ◌==◌, refl}
use Rattle.mesh.specs.declared.HalfEdge.{HalfEdge}
use Rattle.mesh.specs.Meshes.{no_twin, twin_if_any}

by_test : (t k : ℕ) (b : Bool) → Some k ≡ cond b None (Some t) → (k ≡ t) × (b ≡ false)
by_test t k true e = absurd (cc)
by_test t k false e = (cc, refl)

pub twin_some : (h : HalfEdge) (k : ℕ) → Some k ≡ twin_if_any h → (k ≡ h.twin) × ((h.twin == no_twin) ≡ false)
twin_some h k e = by_test h.twin k (h.twin == no_twin) e

none_by_test : (t : ℕ) (b : Bool) → None ≡ cond b None (Some t) → b ≡ true
none_by_test t true e = refl
none_by_test t false e = absurd (cc)

pub twin_none : (h : HalfEdge) → None ≡ twin_if_any h → (h.twin == no_twin) ≡ true
twin_none h e = none_by_test h.twin (h.twin == no_twin) e
