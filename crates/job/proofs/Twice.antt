-- Two flips of one edge leave the mesh's cost as it was.
use Rattle.std.proofs.Common.{◌≡◌, ℕ, ◌<◌, true, false, sym, ap, ◌∙◌, ⊎_elim, arith}
use Rattle.std.proofs.lemmas.Bool.{not_from_true, eq-eqb, cases_Bool, cond-true, cond-false}
use Rattle.arith.specs.Ranges.{sum}
use Rattle.arith.proofs.Sums.{sum_same}
use Rattle.arith.proofs.Reindexing.{Permutes, sum_permuted}
use Rattle.mesh.specs.Geometry.{checked}
use Rattle.mesh.specs.Meshes.{Mesh, next, previous, used, vertex, twin_of, has_twin}
use Rattle.mesh.specs.Sound.{Sound}
use Rattle.mesh.proofs.Rings.{next_used, previous_used}
use Rattle.editing.proofs.Quadrilaterals.{not_none}
use Rattle.editing.proofs.FlipSound.{Flippable, flippable_known}
use Rattle.editing.proofs.Exchange.{exchange, ex_home, ex_next, ex_previous, ex_below, ex_none, twice, twice_is, sound_twice, at_twice}
use Rattle.cost.specs.Costs.{Parts, LawfulCost, end, edge_cost, total}
use Rattle.job.specs.Quads.{face_at, side_at, TwoFlipsCost}
use Rattle.tiling.proofs.Across.{twinned}
use Rattle.job.proofs.Sides.{lone, has_one, sides_twice}
use Rattle.job.proofs.Quads.{faces_thrice}

module _ (K : Parts) (lawful : LawfulCost K) (m : Mesh) (σ : Sound m) (s t : ℕ) (φ : Flippable m s t) where
  abbrev m₂ : Mesh
  m₂ = twice m σ s t φ

  abbrev π : ℕ → ℕ
  π x = exchange s t x

  exchanged : Permutes (used m) π π
  exchanged =
      let below = ex_below m σ s t φ.edge in
      let home : (x : ℕ) → x < used m → π (π x) ≡ x = λ x l. ex_home m σ s t φ.edge x in
      record { below = below; below_back = below; there = home; back = home }

  end_there : (x : ℕ) → x < used m → end m₂ (π x) ≡ end m x
  end_there x l = ap (λ h. checked (vertex m h.origin)) (at_twice m σ s t φ x l)

  end_next : (x : ℕ) → x < used m → end m₂ (next (π x)) ≡ end m (next x)
  end_next x l = ap (end m₂) (sym (ex_next m σ s t φ.edge x)) ∙ end_there (next x) (next_used m x l)

  end_previous : (x : ℕ) → x < used m → end m₂ (previous (π x)) ≡ end m (previous x)
  end_previous x l = ap (end m₂) (sym (ex_previous m σ s t φ.edge x)) ∙ end_there (previous x) (previous_used m x l)

  -- each half-edge costs what its counterpart did
  face_there : (x : ℕ) → x < used m → face_at K m₂ (π x) ≡ face_at K m x
  face_there x l = λ i. K.face (end_there x l i) (end_next x l i) (end_previous x l i)

  twin_there : (x : ℕ) → x < used m → twin_of m₂ (π x) ≡ π (twin_of m x)
  twin_there x l = ap (λ h. h.twin) (at_twice m σ s t φ x l)

  side_there : (x : ℕ) → x < used m → side_at K m₂ (π x) ≡ side_at K m x
  side_there x l = ⊎_elim by_twin by_none (cases_Bool (has_twin m x))
    where
      by_none : has_twin m x ≡ false → side_at K m₂ (π x) ≡ side_at K m x
      by_none e =
          let e₂ : has_twin m₂ (π x) ≡ false = not_from_true _ (eq-eqb _ _ (twin_there x l ∙ ap π (lone m x e) ∙ ex_none m σ s t φ.edge)) in
          cond-false (has_twin m₂ (π x)) _ 0 e₂ ∙ sym (cond-false (has_twin m x) _ 0 e)

      by_twin : has_twin m x ≡ true → side_at K m₂ (π x) ≡ side_at K m x
      by_twin e =
          let u = twin_of m x in
          let below : u < used m = σ.twins x l (twinned m σ x e) in
          let e₂ : has_twin m₂ (π x) ≡ true = has_one m₂ (π x) (λ z. not_none m σ (π u) (ex_below m σ s t φ.edge u below) (sym (twin_there x l) ∙ z)) in
          let across = ap (λ y. end m₂ (previous y)) (twin_there x l) ∙ end_previous u below in
          let cost : edge_cost K m₂ (π x) ≡ edge_cost K m x = λ i. K.edge (end_there x l i) (end_next x l i) (end_previous x l i) (across i) in
          cond-true (has_twin m₂ (π x)) _ 0 e₂ ∙ cost ∙ sym (cond-true (has_twin m x) _ 0 e)

  same_sum : (f g : ℕ → ℕ) → ((x : ℕ) → x < used m → f (π x) ≡ g x) → sum f (used m) ≡ sum g (used m)
  same_sum f g e = sym (sum_permuted f (used m) π π exchanged) ∙ sum_same (λ x. f (π x)) g (used m) e

  same_cost : total K m₂ ≡ total K m
  unfolding total
  same_cost =
      let F = same_sum (face_at K m₂) (face_at K m) face_there in
      let E = same_sum (side_at K m₂) (side_at K m) side_there in
      omega (arith, F, E, faces_thrice K lawful m₂, faces_thrice K lawful m, sides_twice K lawful m₂ (sound_twice m σ s t φ), sides_twice K lawful m σ)

pub two_flips_cost : TwoFlipsCost
two_flips_cost K lawful m s σ e =
    let t = twin_of m s in
    let φ = flippable_known m σ s e in
    ap (total K) (twice_is m σ s t φ) ∙ same_cost K lawful m σ s t φ
