-- How large the value of an expression can be, where no variable's is above m
--     bounded m ρ within a : nat_abs (ev ρ a) ≤ size m a, where `size` computes
use Rattle.std.proofs.Common.{◌≡◌, ℕ, zero, suc, ◌+◌, ◌*◌, ◌^◌, ◌≤◌, List, [], ◌∷◌, ℤ, pos, negsuc, ◌+ℤ◌, ◌-ℤ◌, ◌*ℤ◌, neg_ℤ, nat_abs, refl, le_refl, mul-le-mul, arith, w64, SFits}
use borrow.Author.Differences.{ints}
use Rattle.arith.proofs.Ring.{Ex, var, con, ◌⊕◌, ◌⊖◌, ◌⊗◌, ev, at}

abbrev pub size : ℕ → Ex → ℕ
size m (var i) = m
size m (con z) = nat_abs z
size m (a ⊕ b) = size m a + size m b
size m (a ⊖ b) = size m a + size m b
size m (a ⊗ b) = size m a * size m b

abbrev pub Within : ℕ → List ℤ → Type 0
Within m [] = Unit {0}
Within m (z ∷ ρ) = (nat_abs z ≤ m) × Within m ρ

abs_neg : (n : ℕ) → nat_abs (neg_ℤ (pos n)) ≡ n
abs_neg zero = refl
abs_neg (suc n) = refl

pub abs_product : (x y : ℤ) → nat_abs (x *ℤ y) ≡ nat_abs x * nat_abs y
abs_product (pos a) (pos b) = refl
abs_product (pos a) (negsuc b) = abs_neg (a * suc b)
abs_product (negsuc a) (pos b) = abs_neg (suc a * b)
abs_product (negsuc a) (negsuc b) = refl

pub abs_sum : (x y : ℤ) → nat_abs (x +ℤ y) ≤ nat_abs x + nat_abs y
abs_sum x y = omega (arith, ints)

pub abs_difference : (x y : ℤ) → nat_abs (x -ℤ y) ≤ nat_abs x + nat_abs y
abs_difference x y = omega (arith, ints)

-- a length in the plan by an area, the difference of two such products, and one more on top of it
pub small_product : (p q : ℤ) → nat_abs p ≤ 32767 → nat_abs q ≤ 2 ^ 32 → nat_abs (p *ℤ q) ≤ 32767 * 2 ^ 32
small_product p q hp hq = rw (abs_product p q) (mul-le-mul hp hq)

pub fits_product : (p q : ℤ) → nat_abs p ≤ 32767 → nat_abs q ≤ 2 ^ 32 → SFits w64 (p *ℤ q)
fits_product p q hp hq = let h = small_product p q hp hq in omega (arith, ints)

pub small_determinant : (p q r s : ℤ) → nat_abs p ≤ 32767 → nat_abs q ≤ 2 ^ 32 → nat_abs r ≤ 32767 → nat_abs s ≤ 2 ^ 32 → nat_abs (p *ℤ q -ℤ r *ℤ s) ≤ 2 ^ 49
small_determinant p q r s hp hq hr hs =
    omega (arith, abs_difference (p *ℤ q) (r *ℤ s), small_product p q hp hq, small_product r s hr hs)

pub fits_determinant : (p q r s : ℤ) → nat_abs p ≤ 32767 → nat_abs q ≤ 2 ^ 32 → nat_abs r ≤ 32767 → nat_abs s ≤ 2 ^ 32 → SFits w64 (p *ℤ q -ℤ r *ℤ s)
fits_determinant p q r s hp hq hr hs = let h = small_determinant p q r s hp hq hr hs in omega (arith, ints)

pub fits_sum : (s p q : ℤ) → nat_abs s ≤ 2 ^ 49 → nat_abs p ≤ 32767 → nat_abs q ≤ 2 ^ 32 → SFits w64 (s +ℤ p *ℤ q)
fits_sum s p q hs hp hq =
    let h = small_product p q hp hq in
    let k = abs_sum s (p *ℤ q) in
    omega (arith, ints)

at_within : (m : ℕ) (ρ : List ℤ) → Within m ρ → (i : ℕ) → nat_abs (at ρ i) ≤ m
at_within m [] w i = omega arith
at_within m (z ∷ ρ) w zero = w.0
at_within m (z ∷ ρ) w (suc i) = at_within m ρ w.1 i

module _ (m : ℕ) (ρ : List ℤ) (w : Within m ρ) where
  pub bounded : (a : Ex) → nat_abs (ev ρ a) ≤ size m a
  bounded (var i) = at_within m ρ w i
  bounded (con z) = le_refl (nat_abs z)
  bounded (a ⊕ b) = let h = bounded a in let k = bounded b in omega (arith, abs_sum (ev ρ a) (ev ρ b))
  bounded (a ⊖ b) = let h = bounded a in let k = bounded b in omega (arith, abs_difference (ev ρ a) (ev ρ b))
  bounded (a ⊗ b) = rw (abs_product (ev ρ a) (ev ρ b)) (mul-le-mul (bounded a) (bounded b))
