-- One step of a loop over 0, 1, .., n - 1 that chooses numbers or sums over them.
use Rattle.std.proofs.Common.{◌≡◌, ℕ, zero, suc, ◌+◌, ◌*◌, ◌<◌, ◌≤◌, Bool, true, false, cond, List, [], ◌∷◌, ◌++◌, ap, suc-mul, add-one, arith}
use Rattle.arith.specs.Ranges.{select, sum, sum_over}

-- the next number passes
pub select_yes : (test : ℕ → Bool) (n : ℕ) → test n ≡ true → select test (n + 1) ≡ select test n ++ (n ∷ [])
select_yes test n e = rw add-one (ap (λ b. cond b (select test n ++ (n ∷ [])) (select test n)) e)

-- the next number does not pass
pub select_no : (test : ℕ → Bool) (n : ℕ) → test n ≡ false → select test (n + 1) ≡ select test n
select_no test n e = rw add-one (ap (λ b. cond b (select test n ++ (n ∷ [])) (select test n)) e)

-- one more summand at the end of a list
pub sum_over_push : (f : ℕ → ℕ) (xs : List ℕ) (x : ℕ) → sum_over f (xs ++ (x ∷ [])) ≡ sum_over f xs + f x
sum_over_push f [] x = omega arith
sum_over_push f (y ∷ xs) x = let e = sum_over_push f xs x in omega arith

-- n summands, none above b
pub sum_bounded : (f : ℕ → ℕ) (b n : ℕ) → ((k : ℕ) → k < n → f k ≤ b) → sum f n ≤ n * b
sum_bounded f b zero h = omega arith
sum_bounded f b (suc n) h = omega (arith, sum_bounded f b n (λ k l. h k (omega arith)), h n (omega arith), suc-mul n b)

-- at most n summands, none above b
pub sum_over_bounded : (f : ℕ → ℕ) (test : ℕ → Bool) (b : ℕ) → ((k : ℕ) → f k ≤ b) → (n : ℕ) → sum_over f (select test n) ≤ n * b
sum_over_bounded f test b h zero = omega arith
sum_over_bounded f test b h (suc n) = by (test n) (sum_over_bounded f test b h n)
  where
    by : (t : Bool) → sum_over f (select test n) ≤ n * b → sum_over f (cond t (select test n ++ (n ∷ [])) (select test n)) ≤ suc n * b
    by true r = omega (arith, sum_over_push f (select test n) n, h n, suc-mul n b)
    by false r = omega (arith, suc-mul n b)

-- a chosen number's share is bounded if each number's is
pub chosen_bounded : (f : ℕ → ℕ) (test : ℕ → Bool) (b : ℕ) → ((k : ℕ) → f k ≤ b) → (k : ℕ) → cond (test k) (f k) 0 ≤ b
chosen_bounded f test b h k = by (test k)
  where
    by : (t : Bool) → cond t (f k) 0 ≤ b
    by true = h k
    by false = omega arith
