-- Sums over half-edges, taken across to their twins or on to the next half-edge.
use Rattle.std.proofs.Common.{◌≡◌, ℕ, ◌+◌, ◌<◌, Bool, true, false, cond, ◌≢◌, sym, ap, ◌∙◌, subst, ⊎_elim, arith}
use Rattle.std.proofs.lemmas.Bool.{not-true, not_from_false, ne_eqb, eqb-false, cases_Bool, cond-true, cond-false}
use Rattle.arith.specs.Ranges.{sum}
use Rattle.arith.proofs.Sums.{sum_same, sum_sum}
use Rattle.arith.proofs.Reindexing.{masked, sum_permuted}
use Rattle.mesh.specs.Meshes.{Mesh, next, previous, no_twin, used, twin_of, has_twin}
use Rattle.mesh.specs.Sound.{Sound}
use Rattle.mesh.proofs.Rings.{next_used, previous_used, next_previous, previous_next}

-- f over the half-edges without a twin
abbrev pub alone : Mesh → (ℕ → ℕ) → ℕ → ℕ
alone m f x = cond (has_twin m x) 0 (f x)

-- across a half-edge: its twin, or itself where it has none
abbrev pub across : Mesh → ℕ → ℕ
across m x = cond (has_twin m x) (twin_of m x) x

module _ (m : Mesh) (σ : Sound m) where
  pub twinned : (x : ℕ) → has_twin m x ≡ true → twin_of m x ≢ no_twin
  twinned x e = eqb-false (twin_of m x) no_twin (not-true _ e)

  -- no half-edge in use has the number that stands for none
  not_none : (x : ℕ) → x < used m → x ≢ no_twin
  not_none x l e = omega (arith, σ.count.1)

  -- a twin has a twin, the half-edge itself
  pub twin_back : (x : ℕ) → x < used m → has_twin m x ≡ true → (twin_of m x < used m) × (has_twin m (twin_of m x) ≡ true) × (twin_of m (twin_of m x) ≡ x)
  twin_back x l e =
      let ne = twinned x e in
      let back = σ.paired x l ne in
      (σ.twins x l ne, not_from_false _ (ne_eqb _ _ (λ z. not_none x l (sym back ∙ z))), back)

  pub across_yes : (x : ℕ) → has_twin m x ≡ true → across m x ≡ twin_of m x
  across_yes x e = cond-true (has_twin m x) (twin_of m x) x e

  pub across_no : (x : ℕ) → has_twin m x ≡ false → across m x ≡ x
  across_no x e = cond-false (has_twin m x) (twin_of m x) x e

  pub across_below : (x : ℕ) → x < used m → across m x < used m
  across_below x l = ⊎_elim
      (λ e. subst (λ (y : ℕ). y < used m) (sym (across_yes x e)) (twin_back x l e).0)
      (λ e. subst (λ (y : ℕ). y < used m) (sym (across_no x e)) l)
      (cases_Bool (has_twin m x))

  pub across_twice : (x : ℕ) → x < used m → across m (across m x) ≡ x
  across_twice x l = ⊎_elim
      (λ e. let b = twin_back x l e in ap (across m) (across_yes x e) ∙ across_yes (twin_of m x) b.1 ∙ b.2)
      (λ e. ap (across m) (across_no x e) ∙ across_no x e)
      (cases_Bool (has_twin m x))

  -- where g sees on each half-edge with a twin what f sees on the twin, their sums over these are equal
  pub sum_across : (f g : ℕ → ℕ) → ((x : ℕ) → x < used m → has_twin m x ≡ true → f (twin_of m x) ≡ g x) →
      sum (masked (has_twin m) f) (used m) ≡ sum (masked (has_twin m) g) (used m)
  sum_across f g same =
      sym (sum_permuted (masked (has_twin m) f) (used m) (across m) (across m)
      (record { below = across_below; below_back = across_below; there = across_twice; back = across_twice }))
      ∙ sum_same (λ x. masked (has_twin m) f (across m x)) (masked (has_twin m) g) (used m)
      (λ x l. ⊎_elim
      (λ e. ap (masked (has_twin m) f) (across_yes x e)
      ∙ cond-true (has_twin m (twin_of m x)) (f (twin_of m x)) 0 (twin_back x l e).1
      ∙ same x l e ∙ sym (cond-true (has_twin m x) (g x) 0 e))
      (λ e. ap (masked (has_twin m) f) (across_no x e) ∙ cond-false (has_twin m x) (f x) 0 e ∙ sym (cond-false (has_twin m x) (g x) 0 e))
      (cases_Bool (has_twin m x)))

  -- a sum is one over the half-edges with a twin, and one over those without
  pub sum_parted : (f : ℕ → ℕ) → sum f (used m) ≡ sum (masked (has_twin m) f) (used m) + sum (alone m f) (used m)
  sum_parted f =
      sum_same f (λ x. masked (has_twin m) f x + alone m f x) (used m) (λ x l. either (has_twin m x) (f x))
      ∙ sum_sum (masked (has_twin m) f) (alone m f) (used m)
    where
      either : (b : Bool) (n : ℕ) → n ≡ cond b n 0 + cond b 0 n
      either true n = omega arith
      either false n = omega arith

-- a sum may be taken on to the next half-edge
pub sum_next : (m : Mesh) (f : ℕ → ℕ) → sum (λ x. f (next x)) (used m) ≡ sum f (used m)
sum_next m f =
    sum_permuted f (used m) next previous
    (record { below = next_used m; below_back = previous_used m; there = λ x l. previous_next x; back = λ x l. next_previous x })
