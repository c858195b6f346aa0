-- Tests, counts, choices and sums over the numbers below n, in rising order.
use Rattle.std.specs.Prelude.{ℕ, zero, suc, ◌+◌, Bool, true, false, cond, ◌&&◌, List, [], ◌∷◌, ◌++◌, Some, None, Option}

-- 0, 1, .., n - 1
abbrev pub upto : ℕ → List ℕ
upto zero = []
upto (suc n) = upto n ++ (n ∷ [])

-- each number below n passes
abbrev pub every : (ℕ → Bool) → ℕ → Bool
every test zero = true
every test (suc n) = every test n && test n

-- how many numbers below n pass
abbrev pub tally : (ℕ → Bool) → ℕ → ℕ
tally test zero = 0
tally test (suc n) = cond (test n) (suc (tally test n)) (tally test n)

-- the numbers below n that pass
abbrev pub select : (ℕ → Bool) → ℕ → List ℕ
select test zero = []
select test (suc n) = cond (test n) (select test n ++ (n ∷ [])) (select test n)

abbrev pub or_else : Option ℕ → Bool → ℕ → Option ℕ
or_else (Some k) passes n = Some k
or_else None true n = Some n
or_else None false n = None

-- the lowest number below n that passes
abbrev pub first : (ℕ → Bool) → ℕ → Option ℕ
first test zero = None
first test (suc n) = or_else (first test n) (test n) n

-- f 0 + f 1 + .. + f (n - 1)
abbrev pub sum : (ℕ → ℕ) → ℕ → ℕ
sum f zero = 0
sum f (suc n) = sum f n + f n

-- the sum of f over a list
abbrev pub sum_over : (ℕ → ℕ) → List ℕ → ℕ
sum_over f [] = 0
sum_over f (x ∷ xs) = f x + sum_over f xs
