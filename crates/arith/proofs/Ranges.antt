-- What the tests over the numbers below n tell.
use Rattle.std.proofs.Common.{◌≡◌, ℕ, zero, suc, ◌<◌, ◌≤◌, Bool, true, false, cond, ◌⊎◌, Some, None, Option, sym, refl, ap, ap₂, subst, ◌∙◌, inl, inr, arith, ⊎_elim}
use native.Mathlib.Decide.{dec_lt}
use Rattle.std.proofs.lemmas.Bool.{and_parts, and_from}
use Rattle.arith.specs.Ranges.{every, tally, or_else, first}

-- a number below suc n is below n, or n itself
pub last_or_below : (k n : ℕ) → k < suc n → (k < n) ⊎ (k ≡ n)
last_or_below k n h = elim (dec_lt k n) [ yes l ↦ inl l | no l ↦ inr (omega arith) ]

module _ (test : ℕ → Bool) where
  -- each one passes
  pub every_at : (n : ℕ) → every test n ≡ true → (k : ℕ) → k < n → test k ≡ true
  every_at zero e k l = absurd (omega arith)
  every_at (suc n) e k l =
      let p = and_parts (every test n) (test n) e in
      ⊎_elim (λ b. every_at n p.0 k b) (λ s. ap test s ∙ p.1) (last_or_below k n l)

  pub every_from : (n : ℕ) → ((k : ℕ) → k < n → test k ≡ true) → every test n ≡ true
  every_from zero f = refl
  every_from (suc n) f = and_from _ _ (every_from n (λ k l. f k (omega arith))) (f n (omega arith))

  tally_next : (n : ℕ) (b : Bool) → tally test n ≤ n → cond b (suc (tally test n)) (tally test n) ≤ suc n
  tally_next n true h = omega arith
  tally_next n false h = omega arith

  -- no more pass than there are
  pub tally_le : (n : ℕ) → tally test n ≤ n
  tally_le zero = omega arith
  tally_le (suc n) = tally_next n (test n) (tally_le n)

  -- one that passes where none before it does is the first
  pub first_found : (i n : ℕ) → i < n → first test i ≡ None → test i ≡ true → first test n ≡ Some i
  first_found i zero l e t = absurd (omega arith)
  first_found i (suc n) l e t =
      ⊎_elim
      (λ b. ap (λ o. or_else o (test n) n) (first_found i n b e t))
      (λ s. subst (λ (j : ℕ). first test (suc j) ≡ Some i) s (ap₂ (λ o b. or_else o b i) e t))
      (last_or_below i n l)

  first_next : (n : ℕ) (o : Option ℕ) (b : Bool) (k : ℕ) → or_else o b n ≡ Some k → (o ≡ Some k) ⊎ ((b ≡ true) × (n ≡ k))
  first_next n (Some j) b k e = inl e
  first_next n None true k e = inr (refl, cc)
  first_next n None false k e = let d : ◌≡◌ {A = ℕ} 0 1 = cc in absurd (omega arith)

  -- the first that passes is one that passes
  pub first_passes : (n k : ℕ) → first test n ≡ Some k → (k < n) × (test k ≡ true)
  first_passes zero k e = let d : ◌≡◌ {A = ℕ} 0 1 = cc in absurd (omega arith)
  first_passes (suc n) k e =
      ⊎_elim (λ f. let p = first_passes n k f in (omega arith, p.1))
      (λ p. (omega (arith, p.1), ap test (sym p.1) ∙ p.0))
      (first_next n (first test n) (test n) k e)
