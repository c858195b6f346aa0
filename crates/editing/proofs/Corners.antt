-- Where a point that a face owns lies, as the signs of orientations.
use Rattle.std.proofs.Common.{◌≡◌, zero, suc, Bool, true, false, ◌&&◌, ◌||◌, [], ◌∷◌, ℤ, pos, negsuc, ◌+ℤ◌, ◌-ℤ◌, ◌*ℤ◌, ◌<ℤ◌, sym, refl, ap, ◌∙◌, subst, arith}
use lib.IntN.{*ℤ-zero}
use borrow.Author.Differences.{ints}
use Rattle.std.proofs.lemmas.Bool.{both_ways}
use Rattle.arith.proofs.Ring.{sums, ◌⊕◌, ◌⊖◌, ◌⊗◌, ring}
use Rattle.mesh.specs.declared.Point.{Point}
use Rattle.mesh.specs.Geometry.{orientation, positive, is_zero, admits}
use Rattle.mesh.proofs.Orientations.{coordinates, e, n, o, orientation_rotates}

-- ---- signs

-- a number that is admitted and not 0 is above 0
above_zero : (z : ℤ) (k : Bool) → (positive z || (is_zero z && k)) ≡ true → (z ≡ pos 0 → ⊥) → pos 0 <ℤ z
above_zero (pos zero) k t ne = absurd (ne refl)
above_zero (pos (suc i)) k t ne = omega (arith, ints)
above_zero (negsuc i) k t ne = absurd (both_ways false refl t)

-- a product of numbers above 0
pub product_above : (a b : ℤ) → pos 0 <ℤ a → pos 0 <ℤ b → pos 0 <ℤ (a *ℤ b)
product_above (pos zero) b h k = absurd h.lt
product_above (negsuc a) b h k = absurd h.lt
product_above (pos (suc a)) (pos zero) h k = absurd k.lt
product_above (pos (suc a)) (negsuc b) h k = absurd k.lt
product_above (pos (suc a)) (pos (suc b)) h k = omega (arith, ints)

-- of a product above 0, and a factor above 0, the other factor is above 0
factor_above : (x d : ℤ) → pos 0 <ℤ (x *ℤ d) → pos 0 <ℤ d → pos 0 <ℤ x
factor_above x (pos zero) h k = absurd k.lt
factor_above x (negsuc d) h k = absurd k.lt
factor_above (pos zero) (pos (suc d)) h k = absurd (omega (arith, ints))
factor_above (pos (suc x)) (pos (suc d)) h k = omega (arith, ints)
factor_above (negsuc x) (pos (suc d)) h k = absurd (omega (arith, ints))

-- x d = a b with d, a and b above 0
factor_positive : (x d a b : ℤ) → x *ℤ d ≡ a *ℤ b → pos 0 <ℤ d → pos 0 <ℤ a → pos 0 <ℤ b → pos 0 <ℤ x
factor_positive x d a b q h k l = factor_above x d (subst (λ (z : ℤ). pos 0 <ℤ z) (sym q) (product_above a b k l)) h

-- x d = 0 with d above 0
factor_zero : (x d : ℤ) → x *ℤ d ≡ pos 0 → pos 0 <ℤ d → x ≡ pos 0
factor_zero x (pos zero) q h = absurd h.lt
factor_zero x (negsuc d) q h = absurd h.lt
factor_zero (pos zero) (pos (suc d)) q h = refl
factor_zero (pos (suc x)) (pos (suc d)) q h = absurd (omega (arith, ints))
factor_zero (negsuc x) (pos (suc d)) q h = absurd (omega (arith, ints))

-- a y + b z = 0 where both y and z are 0
no_sum : (a b y z : ℤ) → y ≡ pos 0 → z ≡ pos 0 → a *ℤ y +ℤ b *ℤ z ≡ pos 0
no_sum a b y z p q =
    let r : a *ℤ y ≡ pos 0 = ap (λ t. a *ℤ t) p ∙ *ℤ-zero a in
    let s : b *ℤ z ≡ pos 0 = ap (λ t. b *ℤ t) q ∙ *ℤ-zero b in
    omega (arith, sums)

-- ---- points

-- two of the lines of a face meet in its corner only
pub at_corner :
    (a b c w : Point) → pos 0 <ℤ orientation a b c → orientation a b w ≡ pos 0 → orientation b c w ≡ pos 0 → (w.east ≡ b.east) × (w.north ≡ b.north)
unfolding orientation
at_corner a b c w turns p q =
    let l = coordinates (a ∷ b ∷ c ∷ w ∷ []) in
    let x = ring l ((e 3 ⊖ e 1) ⊗ o 0 1 2) ((e 2 ⊖ e 1) ⊗ o 0 1 3 ⊕ (e 0 ⊖ e 1) ⊗ o 1 2 3) tt in
    let y = ring l ((n 3 ⊖ n 1) ⊗ o 0 1 2) ((n 2 ⊖ n 1) ⊗ o 0 1 3 ⊕ (n 0 ⊖ n 1) ⊗ o 1 2 3) tt in
    let D = orientation a b c in
    let u = factor_zero (pos w.east -ℤ pos b.east) D (x ∙ no_sum (pos c.east -ℤ pos b.east) (pos a.east -ℤ pos b.east) (orientation a b w) (orientation b c w) p q) turns in
    let v = factor_zero (pos w.north -ℤ pos b.north) D (y ∙ no_sum (pos c.north -ℤ pos b.north) (pos a.north -ℤ pos b.north) (orientation a b w) (orientation b c w) p q) turns in
    (omega (arith, ints), omega (arith, ints))

-- a point that a → b admits, and not on its line, lies left of it
pub off_line : (a b w : Point) → admits a b w ≡ true → is_zero (orientation a b w) ≡ false → pos 0 <ℤ orientation a b w
off_line a b w t f =
    above_zero (orientation a b w) _ t (λ z. both_ways (is_zero (orientation a b w)) f (ap is_zero z))

-- the two points are one
abbrev pub SamePlace : Point → Point → Type 0
SamePlace a b = (a.east ≡ b.east) × (a.north ≡ b.north)

module _ (p q r w : Point) (turns : pos 0 <ℤ orientation p q r) (on : orientation p q w ≡ pos 0) where
  -- w on the line of p → q, and not q, lies left of q → r
  pub left_of_next : admits q r w ≡ true → (SamePlace w q → ⊥) → pos 0 <ℤ orientation q r w
  left_of_next t ne = above_zero (orientation q r w) _ t (λ z. ne (at_corner p q r w turns on z))

  -- and, not p, left of r → p
  pub left_of_previous : admits r p w ≡ true → (SamePlace w p → ⊥) → pos 0 <ℤ orientation r p w
  left_of_previous t ne =
      above_zero (orientation r p w) _ t
      (λ z. ne (at_corner r p q w (subst (λ (x : ℤ). pos 0 <ℤ x) (orientation_rotates r p q) turns) z on))

  -- the same beyond p → q, where u is the third corner
  module _ (u : Point) (other : pos 0 <ℤ orientation q p u) where
    -- a product by 0 goes
    drops : (x y z c : ℤ) → x ≡ y +ℤ c *ℤ z → z ≡ pos 0 → x ≡ y
    drops x y z c k l = let m : c *ℤ z ≡ pos 0 = ap (λ t. c *ℤ t) l ∙ *ℤ-zero c in omega (arith, sums)

    -- (p, u, w) turns as (r, p, w) does
    pub beyond_first : pos 0 <ℤ orientation r p w → pos 0 <ℤ orientation p u w
    unfolding orientation
    beyond_first h =
        let k = ring (coordinates (p ∷ q ∷ r ∷ w ∷ u ∷ [])) (o 0 4 3 ⊗ o 0 1 2) (o 2 0 3 ⊗ o 1 0 4 ⊕ o 0 4 2 ⊗ o 0 1 3) tt in
        factor_positive (orientation p u w) (orientation p q r) (orientation r p w) (orientation q p u)
        (drops _ (orientation r p w *ℤ orientation q p u) (orientation p q w) (orientation p u r) k on) turns h other

    -- (u, q, w) turns as (q, r, w) does
    pub beyond_second : pos 0 <ℤ orientation q r w → pos 0 <ℤ orientation u q w
    unfolding orientation
    beyond_second h =
        let k = ring (coordinates (p ∷ q ∷ r ∷ w ∷ u ∷ [])) (o 4 1 3 ⊗ o 0 1 2) (o 1 2 3 ⊗ o 1 0 4 ⊕ o 1 2 4 ⊗ o 0 1 3) tt in
        factor_positive (orientation u q w) (orientation p q r) (orientation q r w) (orientation q p u)
        (drops _ (orientation q r w *ℤ orientation q p u) (orientation p q w) (orientation q r u) k on) turns h other
