-- Each of the four borders is one half-edge: what a sum over the half-edges without a twin comes to.
use Rattle.std.proofs.Common.{◌≡◌, ℕ, zero, suc, ◌+◌, ◌*◌, ◌<◌, Bool, true, false, cond, not, eqb, ◌≢◌, sym, refl, ap, ◌∙◌, subst, ⊎_elim, arith}
use Rattle.std.proofs.lemmas.Bool.{not-true, eq-eqb, ne_eqb, eqb-false, cases_eq, cond-false}
use Rattle.arith.specs.Ranges.{sum, tally}
use Rattle.arith.proofs.Sums.{sum_same, sum_sum, sum_times}
use Rattle.mesh.specs.Meshes.{Mesh, next, used, half, has_twin}
use Rattle.mesh.specs.Sound.{Sound}
use Rattle.tiling.specs.Crossings.{bit}
use Rattle.tiling.proofs.Across.{alone, sum_across, sum_parted, sum_next}
use Rattle.tiling.proofs.Borders.{corner_after, alone_runs}

-- ---- corners in turn

after_three : corner_after 3 ≡ 0
after_three = refl

after_other : (v : ℕ) → v ≢ 3 → corner_after v ≡ v + 1
after_other v n = cond-false (eqb v 3) 0 (v + 1) (ne_eqb v 3 n)

-- different corners are followed by different ones
same_after : (u v : ℕ) → eqb (corner_after u) (corner_after v) ≡ eqb u v
same_after u v = ⊎_elim
    (λ e. eq-eqb _ _ (ap corner_after e) ∙ sym (eq-eqb u v e))
    (λ n. ne_eqb _ _ (apart n) ∙ sym (ne_eqb u v n))
    (cases_eq u v)
  where
    apart : u ≢ v → corner_after u ≢ corner_after v
    apart n z = ⊎_elim
        (λ e. let f = ap corner_after e in let g = after_other v (λ k. n (e ∙ sym k)) in omega arith)
        (λ k. ⊎_elim
        (λ e. let f = ap corner_after e in let g = after_other u k in omega arith)
        (λ j. let f = after_other u k in let g = after_other v j in n (omega arith))
        (cases_eq v 3))
        (cases_eq u 3)

-- a count of half-edges without a twin, as a sum
alone_count : (m : Mesh) (n : ℕ) → tally (λ s. not (has_twin m s)) n ≡ sum (alone m (λ x. 1)) n
alone_count m zero = refl
alone_count m (suc n) = by (has_twin m n) (alone_count m n)
  where
    by : (b : Bool) → tally (λ s. not (has_twin m s)) n ≡ sum (alone m (λ x. 1)) n →
        cond (not b) (suc (tally (λ s. not (has_twin m s)) n)) (tally (λ s. not (has_twin m s)) n) ≡ sum (alone m (λ x. 1)) n + cond b 0 1
    by true e = omega arith
    by false e = omega arith

module _ (m : Mesh) (σ : Sound m) where
  -- whether half-edge x starts, and whether it ends, at vertex v
  abbrev starts : ℕ → ℕ → ℕ
  starts v x = bit (eqb (half m x).origin v)

  abbrev ends : ℕ → ℕ → ℕ
  ends v x = starts v (next x)

  -- as many borders end at a vertex as start there, since as many half-edges do, and as many with a twin
  balanced : (v : ℕ) → sum (alone m (starts v)) (used m) ≡ sum (alone m (ends v)) (used m)
  balanced v =
      let twins = sum_across m σ (starts v) (ends v)
      (λ x l e. ap (λ o. bit (eqb o v)) (σ.opposite x l (eqb-false _ _ (not-true _ e))).0) in
      omega (arith, sum_parted m σ (starts v), sum_parted m σ (ends v), sum_next m (starts v), twins)

  -- what holds of a half-edge without a twin decides its summand
  alone_same : (f g : ℕ → ℕ) (x : ℕ) → (has_twin m x ≡ false → f x ≡ g x) → alone m f x ≡ alone m g x
  alone_same f g x e = by (has_twin m x) e
    where
      by : (b : Bool) → (b ≡ false → f x ≡ g x) → cond b 0 (f x) ≡ cond b 0 (g x)
      by true h = refl
      by false h = h refl

  abbrev borders : ℕ → ℕ
  borders v = sum (alone m (starts v)) (used m)

  -- as many borders start at the next corner
  borders_after : (v : ℕ) → borders (corner_after v) ≡ borders v
  borders_after v =
      balanced (corner_after v)
      ∙ sum_same (alone m (ends (corner_after v))) (alone m (starts v)) (used m)
      (λ x l. alone_same (ends (corner_after v)) (starts v) x (λ e.
      let r = alone_runs m σ x l e in
      ap (λ o. bit (eqb o (corner_after v))) r.3 ∙ ap bit (same_after r.0 v) ∙ sym (ap (λ o. bit (eqb o v)) r.2)))

  -- a border starts at one of the four corners
  one_corner : (v : ℕ) → v < 4 → bit (eqb v 0) + bit (eqb v 1) + bit (eqb v 2) + bit (eqb v 3) ≡ 1
  one_corner v l = ⊎_elim
      (λ e. ap (λ u. bit (eqb u 0) + bit (eqb u 1) + bit (eqb u 2) + bit (eqb u 3)) e)
      (λ a. ⊎_elim
      (λ e. ap (λ u. bit (eqb u 0) + bit (eqb u 1) + bit (eqb u 2) + bit (eqb u 3)) e)
      (λ b. ⊎_elim
      (λ e. ap (λ u. bit (eqb u 0) + bit (eqb u 1) + bit (eqb u 2) + bit (eqb u 3)) e)
      (λ c. let e : v ≡ 3 = omega arith in ap (λ u. bit (eqb u 0) + bit (eqb u 1) + bit (eqb u 2) + bit (eqb u 3)) e)
      (cases_eq v 2)) (cases_eq v 1)) (cases_eq v 0)

  -- four borders, as many from each corner: one from each
  pub one_each : (borders 0 ≡ 1) × (borders 1 ≡ 1) × (borders 2 ≡ 1) × (borders 3 ≡ 1)
  one_each =
      let all = sum_same (alone m (λ x. 1)) (λ x. alone m (starts 0) x + alone m (starts 1) x + alone m (starts 2) x + alone m (starts 3) x) (used m)
      (λ x l. part x l (has_twin m x) refl) in
      let s₁ = sum_sum (λ x. alone m (starts 0) x + alone m (starts 1) x + alone m (starts 2) x) (alone m (starts 3)) (used m) in
      let s₂ = sum_sum (λ x. alone m (starts 0) x + alone m (starts 1) x) (alone m (starts 2)) (used m) in
      let s₃ = sum_sum (alone m (starts 0)) (alone m (starts 1)) (used m) in
      let n = alone_count m (used m) in
      let f = σ.four in
      let b₁ : borders 1 ≡ borders 0 = borders_after 0 in
      let b₂ : borders 2 ≡ borders 1 = borders_after 1 in
      let b₃ : borders 3 ≡ borders 2 = borders_after 2 in
      (omega arith, omega arith, omega arith, omega arith)
    where
      part : (x : ℕ) → x < used m → (b : Bool) → has_twin m x ≡ b →
          cond b 0 1 ≡ cond b 0 (starts 0 x) + cond b 0 (starts 1 x) + cond b 0 (starts 2 x) + cond b 0 (starts 3 x)
      part x l true e = refl
      part x l false e =
          let r = alone_runs m σ x l e in
          sym (ap (λ o. bit (eqb o 0) + bit (eqb o 1) + bit (eqb o 2) + bit (eqb o 3)) r.2 ∙ one_corner r.0 r.1)

  -- a sum over the borders, by the corners that they start from
  pub sum_borders : (f F : ℕ → ℕ) →
      ((x : ℕ) → x < used m → (v : ℕ) → (half m x).origin ≡ v → (half m (next x)).origin ≡ corner_after v → f x ≡ F v) →
      sum (alone m f) (used m) ≡ F 0 + F 1 + F 2 + F 3
  sum_borders f F same =
      let by_corner : ℕ → ℕ → ℕ = λ v x. F v * alone m (starts v) x in
      let all = sum_same (alone m f) (λ x. by_corner 0 x + by_corner 1 x + by_corner 2 x + by_corner 3 x) (used m) (λ x l. part x l (has_twin m x) refl) in
      let s₁ = sum_sum (λ x. by_corner 0 x + by_corner 1 x + by_corner 2 x) (by_corner 3) (used m) in
      let s₂ = sum_sum (λ x. by_corner 0 x + by_corner 1 x) (by_corner 2) (used m) in
      let s₃ = sum_sum (by_corner 0) (by_corner 1) (used m) in
      let once : (v : ℕ) → borders v ≡ 1 → sum (by_corner v) (used m) ≡ F v =
      λ v e. sum_times (F v) (alone m (starts v)) (used m) ∙ ap (λ n. F v * n) e ∙ omega arith in
      let t₀ = once 0 one_each.0 in
      let t₁ = once 1 one_each.1 in
      let t₂ = once 2 one_each.2 in
      let t₃ = once 3 one_each.3 in
      omega arith
    where
      at : (u : ℕ) → u < 4 → F u ≡ F 0 * bit (eqb u 0) + F 1 * bit (eqb u 1) + F 2 * bit (eqb u 2) + F 3 * bit (eqb u 3)
      at u l = ⊎_elim
          (λ e. spot 0 u e (omega arith))
          (λ a. ⊎_elim (λ e. spot 1 u e (omega arith)) (λ b. ⊎_elim (λ e. spot 2 u e (omega arith)) (λ c. spot 3 u (omega arith) (omega arith)) (cases_eq u 2)) (cases_eq u 1)) (cases_eq u 0)
        where
          spot : (k u : ℕ) → u ≡ k → F k ≡ F 0 * bit (eqb k 0) + F 1 * bit (eqb k 1) + F 2 * bit (eqb k 2) + F 3 * bit (eqb k 3) →
              F u ≡ F 0 * bit (eqb u 0) + F 1 * bit (eqb u 1) + F 2 * bit (eqb u 2) + F 3 * bit (eqb u 3)
          spot k u e h = subst (λ (w : ℕ). F w ≡ F 0 * bit (eqb w 0) + F 1 * bit (eqb w 1) + F 2 * bit (eqb w 2) + F 3 * bit (eqb w 3)) (sym e) h

      part : (x : ℕ) → x < used m → (b : Bool) → has_twin m x ≡ b →
          cond b 0 (f x) ≡ F 0 * cond b 0 (starts 0 x) + F 1 * cond b 0 (starts 1 x) + F 2 * cond b 0 (starts 2 x) + F 3 * cond b 0 (starts 3 x)
      part x l true e = omega arith
      part x l false e =
          let r = alone_runs m σ x l e in
          same x l r.0 r.2 r.3 ∙ at r.0 r.1
          ∙ sym (ap (λ o. F 0 * bit (eqb o 0) + F 1 * bit (eqb o 1) + F 2 * bit (eqb o 2) + F 3 * bit (eqb o 3)) r.2)
