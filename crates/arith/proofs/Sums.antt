-- Finite sums: equal summands, sums of sums, multiples.
use Rattle.std.proofs.Common.{◌≡◌, ℕ, zero, suc, ◌+◌, ◌*◌, ◌<◌, Bool, true, false, cond, List, [], ◌∷◌, ◌++◌, sym, refl, ap, ◌∙◌, ap₂, mul-add, arith}
use Rattle.arith.specs.Ranges.{select, sum, sum_over}
use Rattle.arith.proofs.Rising.{sum_over_push}

-- summands that are equal below n
pub sum_same : (f g : ℕ → ℕ) (n : ℕ) → ((k : ℕ) → k < n → f k ≡ g k) → sum f n ≡ sum g n
sum_same f g zero e = refl
sum_same f g (suc n) e = ap₂ (λ x y. x + y) (sum_same f g n (λ k l. e k (omega arith))) (e n (omega arith))

pub sum_sum : (f g : ℕ → ℕ) (n : ℕ) → sum (λ k. f k + g k) n ≡ sum f n + sum g n
sum_sum f g zero = refl
sum_sum f g (suc n) = let e = sum_sum f g n in omega arith

pub sum_times : (w : ℕ) (f : ℕ → ℕ) (n : ℕ) → sum (λ k. w * f k) n ≡ w * sum f n
sum_times w f zero = omega arith
sum_times w f (suc n) = ap (λ x. x + w * f n) (sum_times w f n) ∙ sym (mul-add w (sum f n) (f n))

-- the same over the chosen numbers below n
pub sum_over_same : (f g : ℕ → ℕ) (test : ℕ → Bool) (n : ℕ) → ((k : ℕ) → k < n → test k ≡ true → f k ≡ g k) →
    sum_over f (select test n) ≡ sum_over g (select test n)
sum_over_same f g test zero e = refl
sum_over_same f g test (suc n) e = by (test n) refl (sum_over_same f g test n (λ k l t. e k (omega arith) t))
  where
    by : (b : Bool) → test n ≡ b → sum_over f (select test n) ≡ sum_over g (select test n) →
        sum_over f (cond b (select test n ++ (n ∷ [])) (select test n)) ≡ sum_over g (cond b (select test n ++ (n ∷ [])) (select test n))
    by true t r = sum_over_push f (select test n) n ∙ ap₂ (λ x y. x + y) r (e n (omega arith) t) ∙ sym (sum_over_push g (select test n) n)
    by false t r = r

pub sum_over_sum : (f g : ℕ → ℕ) (xs : List ℕ) → sum_over (λ k. f k + g k) xs ≡ sum_over f xs + sum_over g xs
sum_over_sum f g [] = refl
sum_over_sum f g (x ∷ xs) = let e = sum_over_sum f g xs in omega arith

pub sum_over_times : (w : ℕ) (f : ℕ → ℕ) (xs : List ℕ) → sum_over (λ k. w * f k) xs ≡ w * sum_over f xs
sum_over_times w f [] = omega arith
sum_over_times w f (x ∷ xs) = ap (λ y. w * f x + y) (sum_over_times w f xs) ∙ sym (mul-add w (f x) (sum_over f xs))
