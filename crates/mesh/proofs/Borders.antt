-- A point strictly inside the rectangle lies on no border, so the half-edge it lies on has a twin.
use Rattle.std.proofs.Common.{◌≡◌, ℕ, zero, suc, ◌+◌, ◌*◌, ◌<◌, Bool, true, false, cond, ◌&&◌, ◌||◌, eqb, ◌≢◌, ◌⊎◌, ℤ, pos, negsuc, ◌-ℤ◌, ◌*ℤ◌, nat_abs, ◌<ℤ◌, Some, None, sym, refl, ap, ◌∙◌, subst, inl, inr, ⊎_elim, arith}
use lib.IntN.{zero-*ℤ}
use borrow.Author.Differences.{ints}
use Rattle.std.proofs.lemmas.Bool.{and_parts, or_cases, eqb-true}
use Rattle.arith.proofs.Bound.{abs_product}
use Rattle.arith.proofs.Ring.{sums}
use Rattle.mesh.specs.declared.Header.{Header}
use Rattle.mesh.specs.declared.Point.{Point}
use Rattle.mesh.specs.Geometry.{orientation, is_zero}
use Rattle.mesh.specs.Meshes.{Mesh, next, no_twin, used, faces, origin_point, twin_of}
use Rattle.mesh.specs.Sound.{Sound, on_border, along_border, strictly_inside}
use Rattle.mesh.specs.Edits.{on_line, crossed}
use Rattle.mesh.proofs.Decide.{inside_known, T_true}
use Rattle.mesh.proofs.Orientations.{orientation_rotates}
use Rattle.mesh.proofs.Rings.{next_first, next_second, next_third}

pub is_zero_known : (z : ℤ) → is_zero z ≡ true → z ≡ pos 0
is_zero_known (pos n) e = ap pos (eqb-true n 0 e)
is_zero_known (negsuc n) e = let z : ◌≡◌ {A = ℕ} 0 1 = cc in absurd (omega arith)

zero_product : (m n : ℕ) → m * n ≡ 0 → (m ≡ 0) ⊎ (n ≡ 0)
zero_product zero n e = inl refl
zero_product (suc m) zero e = inr refl
zero_product (suc m) (suc n) e = absurd (omega arith)

abs_zero : (z : ℤ) → nat_abs z ≡ 0 → z ≡ pos 0
abs_zero (pos n) e = ap pos e
abs_zero (negsuc n) e = absurd (omega arith)

zero_factor : (u v : ℤ) → u *ℤ v ≡ pos 0 → (v ≡ pos 0 → ⊥) → u ≡ pos 0
zero_factor u v e ne =
    ⊎_elim (abs_zero u) (λ z. absurd (ne (abs_zero v z))) (zero_product (nat_abs u) (nat_abs v) (sym (abs_product u v) ∙ ap nat_abs e))

-- of x y − u v = 0 with x = 0 and v not 0, the factor u is 0
right_column : (x y u v : ℤ) → x *ℤ y -ℤ u *ℤ v ≡ pos 0 → x ≡ pos 0 → (v ≡ pos 0 → ⊥) → u ≡ pos 0
right_column x y u v e z ne =
    let p : x *ℤ y ≡ pos 0 = ap (λ t. t *ℤ y) z ∙ zero-*ℤ y in
    zero_factor u v (omega (arith, sums)) ne

left_column : (x y u v : ℤ) → x *ℤ y -ℤ u *ℤ v ≡ pos 0 → u ≡ pos 0 → (y ≡ pos 0 → ⊥) → x ≡ pos 0
left_column x y u v e z ne =
    let p : u *ℤ v ≡ pos 0 = ap (λ t. t *ℤ v) z ∙ zero-*ℤ v in
    zero_factor x y (omega (arith, sums)) ne

both_zero : (x y u v : ℤ) → x ≡ pos 0 → u ≡ pos 0 → x *ℤ y -ℤ u *ℤ v ≡ pos 0
both_zero x y u v p q =
    let r : x *ℤ y ≡ pos 0 = ap (λ t. t *ℤ y) p ∙ zero-*ℤ y in
    let s : u *ℤ v ≡ pos 0 = ap (λ t. t *ℤ v) q ∙ zero-*ℤ v in
    omega (arith, sums)

-- where a and b stand equally far east, and w does not, w lies on their line only if they are one point
off_meridian : (a b c w : Point) → a.east ≡ b.east → (w.east ≡ a.east → ⊥) → orientation a b w ≡ pos 0 → orientation a b c ≡ pos 0
unfolding orientation
off_meridian a b c w e off z =
    let x : pos b.east -ℤ pos a.east ≡ pos 0 = omega (arith, ints) in
    let u = right_column (pos b.east -ℤ pos a.east) (pos w.north -ℤ pos a.north) (pos b.north -ℤ pos a.north) (pos w.east -ℤ pos a.east) z x
    (λ v. off (omega (arith, ints))) in
    both_zero (pos b.east -ℤ pos a.east) (pos c.north -ℤ pos a.north) (pos b.north -ℤ pos a.north) (pos c.east -ℤ pos a.east) x u

-- the same where they stand equally far north
off_parallel : (a b c w : Point) → a.north ≡ b.north → (w.north ≡ a.north → ⊥) → orientation a b w ≡ pos 0 → orientation a b c ≡ pos 0
unfolding orientation
off_parallel a b c w e off z =
    let u : pos b.north -ℤ pos a.north ≡ pos 0 = omega (arith, ints) in
    let x = left_column (pos b.east -ℤ pos a.east) (pos w.north -ℤ pos a.north) (pos b.north -ℤ pos a.north) (pos w.east -ℤ pos a.east) z u
    (λ v. off (omega (arith, ints))) in
    both_zero (pos b.east -ℤ pos a.east) (pos c.north -ℤ pos a.north) (pos b.north -ℤ pos a.north) (pos c.east -ℤ pos a.east) x u

-- one of four tests passed
pub one_of_four : (p q r s : Bool) → (p || q || r || s) ≡ true → ((((p ≡ true) ⊎ (q ≡ true)) ⊎ (r ≡ true)) ⊎ (s ≡ true))
one_of_four p q r s t = ⊎_elim (λ u. inl (⊎_elim (λ v. inl (or_cases p q v)) inr (or_cases (p || q) r u))) inr (or_cases (p || q || r) s t)

-- two numbers that both equal a third
pub both_eq : (x y z : ℕ) → (eqb x z && eqb y z) ≡ true → (x ≡ z) × (y ≡ z)
both_eq x y z e = let p = and_parts (eqb x z) (eqb y z) e in (eqb-true x z p.0, eqb-true y z p.1)

-- a side along a border, with a point strictly inside on its line, bounds no face
pub border_flat :
    (h : Header) (a b c w : Point) → on_border h a b ≡ true → strictly_inside h w ≡ true → orientation a b w ≡ pos 0 → orientation a b c ≡ pos 0
border_flat h a b c w o i z =
    let k = inside_known h w i in
    let west = eqb a.east 0 && eqb b.east 0 in
    let east = eqb a.east h.width && eqb b.east h.width in
    let south = eqb a.north 0 && eqb b.north 0 in
    let north = eqb a.north h.depth && eqb b.north h.depth in
    let on_meridian : (e : ℕ) → (eqb a.east e && eqb b.east e) ≡ true → (w.east ≡ e → ⊥) → orientation a b c ≡ pos 0 =
    λ e t off. let p = both_eq a.east b.east e t in off_meridian a b c w (p.0 ∙ sym p.1) (λ q. off (q ∙ p.0)) z in
    let on_parallel : (n : ℕ) → (eqb a.north n && eqb b.north n) ≡ true → (w.north ≡ n → ⊥) → orientation a b c ≡ pos 0 =
    λ n t off. let p = both_eq a.north b.north n t in off_parallel a b c w (p.0 ∙ sym p.1) (λ q. off (q ∙ p.0)) z in
    ⊎_elim
    (⊎_elim
    (⊎_elim
    (λ t. on_meridian 0 t (λ q. omega arith))
    (λ t. on_meridian h.width t (λ q. omega arith))
    )
    (λ t. on_parallel 0 t (λ q. omega arith))
    )
    (λ t. on_parallel h.depth t (λ q. omega arith))
    (one_of_four west east south north o)

cut_cases :
    (b₀ b₁ b₂ : Bool) (x y z s : ℕ) → cond b₀ (Some x) (cond b₁ (Some y) (cond b₂ (Some z) None)) ≡ Some s →
    ((b₀ ≡ true) × (x ≡ s)) ⊎ (((b₁ ≡ true) × (y ≡ s)) ⊎ ((b₂ ≡ true) × (z ≡ s)))
cut_cases true b₁ b₂ x y z s e = inl (refl, cc)
cut_cases false true b₂ x y z s e = inr (inl (refl, cc))
cut_cases false false true x y z s e = inr (inr (refl, cc))
cut_cases false false false x y z s e = let d : ◌≡◌ {A = ℕ} 0 1 = cc in absurd (omega arith)

module _ (m : Mesh) (σ : Sound m) (w : Point) (inside : strictly_inside m.header w ≡ true) where
  -- c is the third corner of the face of s
  inner_side : (s : ℕ) (c : Point) → s < used m → on_line m w s ≡ true → pos 0 <ℤ orientation (origin_point m s) (origin_point m (next s)) c → twin_of m s ≢ no_twin
  inner_side s c h on turns lone =
      let b = T_true (along_border m s) ((σ.border s h).0 lone) in
      let z = is_zero_known (orientation (origin_point m s) (origin_point m (next s)) w) on in
      let flat = border_flat m.header (origin_point m s) (origin_point m (next s)) c w b inside z in
      omega (arith, ints)

  abbrev p : ℕ → Point
  p s = origin_point m s

  -- the half-edge that the new vertex cuts has a twin
  pub crossed_inner : (f s : ℕ) → f < faces m → crossed m w f ≡ Some s → (s < used m) × (twin_of m s ≢ no_twin)
  unfolding crossed
  crossed_inner f s h e =
      let turns = σ.faces_turn f h in
      let P : ℕ → Type 0 = λ x. (x < used m) × (twin_of m x ≢ no_twin) in
      ⊎_elim
      (λ q. subst P q.1 (
        omega arith,
        inner_side (3 * f) (p (3 * f + 2)) (omega arith) q.0
            (subst (λ (x : ℕ). pos 0 <ℤ orientation (p (3 * f)) (p x) (p (3 * f + 2))) (sym (next_first f)) turns),
      ))
      (⊎_elim
      (λ q. subst P q.1 (
        omega arith,
        inner_side (3 * f + 1) (p (3 * f)) (omega arith) q.0
            (subst (λ (x : ℕ). pos 0 <ℤ orientation (p (3 * f + 1)) (p x) (p (3 * f))) (sym (next_second f))
            (subst (λ (z : ℤ). pos 0 <ℤ z) (sym (orientation_rotates (p (3 * f)) (p (3 * f + 1)) (p (3 * f + 2)))) turns)),
      ))
      (λ q. subst P q.1 (
        omega arith,
        inner_side (3 * f + 2) (p (3 * f + 1)) (omega arith) q.0
            (subst (λ (x : ℕ). pos 0 <ℤ orientation (p (3 * f + 2)) (p x) (p (3 * f + 1))) (sym (next_third f))
            (subst (λ (z : ℤ). pos 0 <ℤ z) (orientation_rotates (p (3 * f + 2)) (p (3 * f)) (p (3 * f + 1))) turns)),
      )))
      (cut_cases (on_line m w (3 * f)) (on_line m w (3 * f + 1)) (on_line m w (3 * f + 2)) (3 * f) (3 * f + 1) (3 * f + 2) s e)
