-- The cost of the interior edges as a sum over half-edges: each edge is counted from both its half-edges.
use Rattle.std.proofs.Common.{◌≡◌, ℕ, ◌+◌, ◌*◌, ◌<◌, true, false, cond, ◌&&◌, ltb, ◌≢◌, sym, refl, ap, ◌∙◌, ⊎_elim, arith}
use Rattle.std.proofs.lemmas.Bool.{not_from_false, not-false, ne_eqb, eqb-true, lt-ltb, le-ltb, cases_Bool, cases_lt, cond-true, cond-false}
use Rattle.arith.specs.Ranges.{sum}
use Rattle.arith.proofs.Sums.{sum_same, sum_sum}
use Rattle.arith.proofs.Reindexing.{masked, sum_permuted, sum_selected}
use Rattle.mesh.specs.Meshes.{Mesh, next, previous, no_twin, used, half, vertex, twin_of, has_twin, is_edge_number, interior}
use Rattle.mesh.specs.Sound.{Sound}
use Rattle.mesh.specs.Geometry.{checked}
use Rattle.editing.proofs.Quadrilaterals.{Edge, edge_of, clear}
use Rattle.tiling.proofs.Across.{across, twinned, twin_back, across_yes, across_no, across_below, across_twice}
use Rattle.cost.specs.Costs.{Parts, LawfulCost, end, edge_cost, edge_sum}
use Rattle.job.specs.Quads.{side_at}

-- a half-edge has no twin, or one
pub lone : (m : Mesh) (x : ℕ) → has_twin m x ≡ false → twin_of m x ≡ no_twin
lone m x e = eqb-true (twin_of m x) no_twin (not-false _ e)

pub has_one : (m : Mesh) (x : ℕ) → twin_of m x ≢ no_twin → has_twin m x ≡ true
has_one m x ne = not_from_false _ (ne_eqb (twin_of m x) no_twin ne)

module _ (K : Parts) (lawful : LawfulCost K) (m : Mesh) (σ : Sound m) where
  abbrev N : ℕ
  N = used m

  abbrev E : ℕ → ℕ
  E = edge_cost K m

  -- the edge of x as its twin sees it
  edge_at : (x : ℕ) → x < N → has_twin m x ≡ true → Edge m x (twin_of m x)
  edge_at x l e = edge_of m σ x (twin_of m x) l (σ.twins x l (twinned m σ x e)) refl

  pub same_edge : (x : ℕ) → x < N → has_twin m x ≡ true → E (twin_of m x) ≡ E x
  same_edge x l e =
      let t = twin_of m x in
      let ε = edge_at x l e in
      let at : ℕ → ℕ → ℕ → ℕ → ℕ = λ a b c d. K.edge (checked (vertex m a)) (checked (vertex m b)) (checked (vertex m c)) (checked (vertex m d)) in
      (λ i. at (ε.head i) (ε.tail i) (half m (previous t)).origin (half m (previous (ε.back i))).origin)
      ∙ lawful.lawful_edge.edge_reverses (end m x) (end m (next x)) (end m (previous x)) (end m (previous t))

  -- a sum may be taken across
  pub sum_across : (f : ℕ → ℕ) → sum (λ x. f (across m x)) N ≡ sum f N
  sum_across f = sum_permuted f N (across m) (across m)
      (record { below = across_below m σ; below_back = across_below m σ; there = across_twice m σ; back = across_twice m σ })

  -- from either half-edge the edge costs the same
  pub side_across : (x : ℕ) → x < N → side_at K m (across m x) ≡ side_at K m x
  side_across x l = ⊎_elim
      (λ e. ap (side_at K m) (across_yes m σ x e)
      ∙ cond-true (has_twin m (twin_of m x)) (E (twin_of m x)) 0 (twin_back m σ x l e).1
      ∙ same_edge x l e ∙ sym (cond-true (has_twin m x) (E x) 0 e))
      (λ e. ap (side_at K m) (across_no m σ x e))
      (cases_Bool (has_twin m x))

  -- each edge at its lower half-edge
  abbrev low : ℕ → ℕ
  low = masked (is_edge_number m) E

  -- a half-edge with a twin is the lower one, or its twin is
  side_is : (x : ℕ) → x < N → side_at K m x ≡ low x + low (across m x)
  side_is x l = ⊎_elim by_twin by_none (cases_Bool (has_twin m x))
    where
      by_none : has_twin m x ≡ false → side_at K m x ≡ low x + low (across m x)
      by_none e =
          let z : low x ≡ 0 = ap (λ b. cond (b && ltb x (twin_of m x)) (E x) 0) e in
          let y : low (across m x) ≡ 0 = ap low (across_no m σ x e) ∙ z in
          omega (arith, cond-false (has_twin m x) (E x) 0 e)

      by_twin : has_twin m x ≡ true → side_at K m x ≡ low x + low (across m x)
      by_twin e =
          let t = twin_of m x in
          let ε = edge_at x l e in
          let here : low x ≡ cond (ltb x t) (E x) 0 = ap (λ b. cond (b && ltb x t) (E x) 0) e in
          let there : low (across m x) ≡ cond (ltb t x) (E x) 0 =
          ap low (across_yes m σ x e)
          ∙ (λ i. cond ((twin_back m σ x l e).1 i && ltb t (ε.back i)) (same_edge x l e i) 0) in
          let all = cond-true (has_twin m x) (E x) 0 e in
          ⊎_elim
          (λ h. omega (arith, here, there, all, cond-true (ltb x t) (E x) 0 (lt-ltb x t h), cond-false (ltb t x) (E x) 0 (le-ltb t x (omega arith))))
          (λ h. let ne = (clear m σ x t ε).apart in
          let k : t < x = ⊎_elim (λ j. j) (λ j. absurd (ne (omega arith))) (cases_lt t x) in
          omega (arith, here, there, all, cond-false (ltb x t) (E x) 0 (le-ltb x t h), cond-true (ltb t x) (E x) 0 (lt-ltb t x k)))
          (cases_lt x t)

  -- the sum over half-edges counts each edge twice
  pub sides_twice : sum (side_at K m) N ≡ 2 * edge_sum K m
  unfolding edge_sum interior
  sides_twice =
      let s = sum_same (side_at K m) (λ x. low x + low (across m x)) N side_is ∙ sum_sum low (λ x. low (across m x)) N in
      omega (arith, s, sum_across low, sum_selected E (is_edge_number m) N)
