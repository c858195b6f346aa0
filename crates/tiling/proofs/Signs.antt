-- Signs of integers and of their products.
use Rattle.std.proofs.Common.{◌≡◌, Bool, true, false, ◌⊎◌, [], ◌∷◌, ℤ, pos, negsuc, ◌-ℤ◌, ◌*ℤ◌, ◌≤ℤ◌, ◌<ℤ◌, refl, inl, inr, arith}
use lib.IntN.{*ℤ_comm}
use lib.Signed.{lt_z}
use borrow.Author.Differences.{ints, same_in, same_out, Apart-out, sum_is_lem, neg_is, lt_out, le_out, below_in, at_most_in, lt-true, lt-false, le-true, le-false, true_is_lt, false_is_lt, true_is_le, false_is_le}
use Rattle.arith.proofs.Ring.{var, con, ◌⊖◌, ◌⊗◌, ring}
use Rattle.editing.proofs.Corners.{product_above}

-- sums, differences and their order, with products as atoms, for `omega`
pub ruleset orders = (same_out, same_in, Apart-out, sum_is_lem, neg_is, lt_out, le_out, below_in, at_most_in, lt-true, lt-false, le-true, le-false, true_is_lt, false_is_lt, true_is_le, false_is_le)

-- cases by which of two numbers is the smaller
pub cases_ltZ : (a b : ℤ) → (a <ℤ b) ⊎ (b ≤ℤ a)
cases_ltZ a b = by (lt_z a b) refl
  where
    by : (t : Bool) → lt_z a b ≡ t → (a <ℤ b) ⊎ (b ≤ℤ a)
    by true e = inl (omega (arith, orders))
    by false e = inr (omega (arith, orders))

-- ---- the sign of a product, named by its factors: above 0, below 0, from 0 up, up to 0

-- minus a factor is minus the product, which gives the other cases from two
opposite : (a b : ℤ) → a *ℤ (pos 0 -ℤ b) ≡ pos 0 -ℤ a *ℤ b
opposite a b = ring (a ∷ b ∷ []) (var 0 ⊗ (con (pos 0) ⊖ var 1)) (con (pos 0) ⊖ var 0 ⊗ var 1) tt

-- the first above 0, the second below
pub above_below : (a b : ℤ) → pos 0 <ℤ a → b <ℤ pos 0 → (a *ℤ b) <ℤ pos 0
above_below a b h k =
    let m = product_above a (pos 0 -ℤ b) h (omega (arith, orders)) in
    let e = opposite a b in
    omega (arith, orders)

-- both below 0
pub below_below : (a b : ℤ) → a <ℤ pos 0 → b <ℤ pos 0 → pos 0 <ℤ (a *ℤ b)
below_below a b h k =
    let m = above_below (pos 0 -ℤ b) a (omega (arith, orders)) h in
    let e = opposite a b in
    let f = *ℤ_comm a (pos 0 -ℤ b) in
    omega (arith, orders)

-- both from 0 up
pub from_from : (a b : ℤ) → pos 0 ≤ℤ a → pos 0 ≤ℤ b → pos 0 ≤ℤ (a *ℤ b)
from_from (negsuc a) b h k = absurd h.le
from_from (pos a) (negsuc b) h k = absurd k.le
from_from (pos a) (pos b) h k = omega (arith, ints)

-- the first from 0 up, the second up to 0
pub from_upto : (a b : ℤ) → pos 0 ≤ℤ a → b ≤ℤ pos 0 → (a *ℤ b) ≤ℤ pos 0
from_upto a b h k =
    let m = from_from a (pos 0 -ℤ b) h (omega (arith, orders)) in
    let e = opposite a b in
    omega (arith, orders)

-- the first up to 0, the second from 0 up
pub upto_from : (a b : ℤ) → a ≤ℤ pos 0 → pos 0 ≤ℤ b → (a *ℤ b) ≤ℤ pos 0
upto_from a b h k = rw (*ℤ_comm a b) (from_upto b a k h)

-- both up to 0
pub upto_upto : (a b : ℤ) → a ≤ℤ pos 0 → b ≤ℤ pos 0 → pos 0 ≤ℤ (a *ℤ b)
upto_upto a b h k =
    let m = upto_from a (pos 0 -ℤ b) h (omega (arith, orders)) in
    let e = opposite a b in
    omega (arith, orders)
