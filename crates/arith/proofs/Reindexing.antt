-- Finite sums: summed the other way round, over few indices, and re-indexed by a permutation.
use Rattle.std.proofs.Common.{◌≡◌, ℕ, zero, suc, ◌+◌, ◌*◌, ◌<◌, Bool, true, false, cond, ◌||◌, eqb, List, [], ◌∷◌, ◌++◌, sym, refl, ap, ◌∙◌, ap₂, ⊎_elim, arith}
use Rattle.std.proofs.lemmas.Bool.{eq-eqb, ne_eqb, eqb-true, cases_eq, cond-true, cond-false}
use Rattle.arith.specs.Ranges.{select, tally, sum, sum_over}
use Rattle.arith.proofs.Rising.{sum_over_push}
use Rattle.arith.proofs.Sums.{sum_same, sum_sum}

-- f where the test passes, else 0
abbrev pub masked : (ℕ → Bool) → (ℕ → ℕ) → ℕ → ℕ
masked test f k = cond (test k) (f k) 0

pub sum_none : (n : ℕ) → sum (λ k. 0) n ≡ 0
sum_none zero = refl
sum_none (suc n) = omega (arith, sum_none n)

-- rows first or columns first
pub sum_swap : (f : ℕ → ℕ → ℕ) (n m : ℕ) → sum (λ i. sum (λ j. f i j) m) n ≡ sum (λ j. sum (λ i. f i j) n) m
sum_swap f zero m = sym (sum_none m)
sum_swap f (suc n) m =
    ap (λ x. x + sum (λ j. f n j) m) (sum_swap f n m) ∙ sym (sum_sum (λ j. sum (λ i. f i j) n) (λ j. f n j) m)

-- the sum of what stands at k alone
pub sum_one : (f : ℕ → ℕ) (n k : ℕ) → k < n → sum (masked (eqb k) f) n ≡ f k
sum_one f zero k h = absurd (omega arith)
sum_one f (suc n) k h = ⊎_elim
    (λ e. let none = sum_same (masked (eqb k) f) (λ j. 0) n (λ j l. cond-false (eqb k j) (f j) 0 (ne_eqb k j (λ same. omega arith))) in
    let here = cond-true (eqb k n) (f n) 0 (eq-eqb k n e) in
    let same = ap f e in
    omega (arith, none, sum_none n, here, same))
    (λ ne. let here = cond-false (eqb k n) (f n) 0 (ne_eqb k n ne) in omega (arith, sum_one f n k (omega arith), here))
    (cases_eq k n)

-- π and σ undo each other below n
pub record Permutes (n : ℕ) (π σ : ℕ → ℕ) : Type 0 where
  pub below : (k : ℕ) → k < n → π k < n
  pub below_back : (k : ℕ) → k < n → σ k < n
  pub there : (k : ℕ) → k < n → σ (π k) ≡ k
  pub back : (k : ℕ) → k < n → π (σ k) ≡ k

-- the order of the summands does not matter: both are the sum over i and j of f j where j is π i
pub sum_permuted : (f : ℕ → ℕ) (n : ℕ) (π σ : ℕ → ℕ) → Permutes n π σ → sum (λ i. f (π i)) n ≡ sum f n
sum_permuted f n π σ p =
    sum_same (λ i. f (π i)) (λ i. sum (masked (eqb (π i)) f) n) n (λ i l. sym (sum_one f n (π i) (p.below i l)))
    ∙ sum_swap (λ i j. masked (eqb (π i)) f j) n n
    ∙ sum_same (λ j. sum (λ i. masked (eqb (π i)) f j) n) f n (λ j l. column j l)
  where
    column : (j : ℕ) → j < n → sum (λ i. masked (eqb (π i)) f j) n ≡ f j
    column j l =
        sum_same (λ i. masked (eqb (π i)) f j) (masked (eqb (σ j)) (λ i. f j)) n
        (λ i h. ap (λ b. cond b (f j) 0) (same i h))
        ∙ sum_one (λ i. f j) n (σ j) (p.below_back j l)
      where
        same : (i : ℕ) → i < n → eqb (π i) j ≡ eqb (σ j) i
        same i h = ⊎_elim
            (λ e. eq-eqb (π i) j e ∙ sym (eq-eqb (σ j) i (ap σ (sym e) ∙ p.there i h)))
            (λ ne. ne_eqb (π i) j ne ∙ sym (ne_eqb (σ j) i (λ e. ne (ap π (sym e) ∙ p.back j l))))
            (cases_eq (π i) j)

-- a count as a sum
tally_sum : (test : ℕ → Bool) (n : ℕ) → tally test n ≡ sum (masked test (λ k. 1)) n
tally_sum test zero = refl
tally_sum test (suc n) = by (test n) (tally_sum test n)
  where
    by : (b : Bool) → tally test n ≡ sum (masked test (λ k. 1)) n → cond b (suc (tally test n)) (tally test n) ≡ sum (masked test (λ k. 1)) n + cond b 1 0
    by true e = omega arith
    by false e = omega arith

-- a test that goes with the permutation passes equally often
pub tally_permuted : (old new : ℕ → Bool) (n : ℕ) (π σ : ℕ → ℕ) → Permutes n π σ → ((k : ℕ) → k < n → new (π k) ≡ old k) → tally new n ≡ tally old n
tally_permuted old new n π σ p h =
    tally_sum new n
    ∙ sym (sum_permuted (masked new (λ k. 1)) n π σ p)
    ∙ sum_same (λ k. masked new (λ j. 1) (π k)) (masked old (λ k. 1)) n (λ k l. ap (λ b. cond b 1 0) (h k l))
    ∙ sym (tally_sum old n)

-- ---- few indices

abbrev pub member : List ℕ → ℕ → Bool
member [] k = false
member (d ∷ ds) k = eqb d k || member ds k

-- numbers below n, none twice
abbrev pub Few : ℕ → List ℕ → Type 0
Few n [] = Unit {0}
Few n (d ∷ ds) = (d < n) × (member ds d ≡ false) × Few n ds

-- the sum over the listed indices alone
pub sum_few : (f : ℕ → ℕ) (n : ℕ) (ds : List ℕ) → Few n ds → sum (masked (member ds) f) n ≡ sum_over f ds
sum_few f n [] few = sum_none n
sum_few f n (d ∷ ds) few =
    sum_same (masked (member (d ∷ ds)) f) (λ k. masked (eqb d) f k + masked (member ds) f k) n
    (λ k l. apart k (eqb d k) (member ds k) (λ e. ap (member ds) (sym (eqb-true d k e)) ∙ few.1))
    ∙ sum_sum (masked (eqb d) f) (masked (member ds) f) n
    ∙ ap₂ (λ x y. x + y) (sum_one f n d few.0) (sum_few f n ds few.2)
  where
    apart : (k : ℕ) (a b : Bool) → (a ≡ true → b ≡ false) → cond (a || b) (f k) 0 ≡ cond a (f k) 0 + cond b (f k) 0
    apart k true b only = let none = cond-false b (f k) 0 (only refl) in omega arith
    apart k false b only = omega arith

-- the listed indices, and the rest
pub sum_split : (f : ℕ → ℕ) (n : ℕ) (ds : List ℕ) → Few n ds → sum f n ≡ sum_over f ds + sum (λ k. cond (member ds k) 0 (f k)) n
sum_split f n ds few =
    sum_same f (λ k. masked (member ds) f k + cond (member ds k) 0 (f k)) n (λ k l. either k (member ds k))
    ∙ sum_sum (masked (member ds) f) (λ k. cond (member ds k) 0 (f k)) n
    ∙ ap (λ x. x + sum (λ k. cond (member ds k) 0 (f k)) n) (sum_few f n ds few)
  where
    either : (k : ℕ) (b : Bool) → f k ≡ cond b (f k) 0 + cond b 0 (f k)
    either k true = omega arith
    either k false = omega arith

-- summands that differ at the listed indices only
pub sum_differs : (f g : ℕ → ℕ) (n : ℕ) (ds : List ℕ) → Few n ds → ((k : ℕ) → k < n → member ds k ≡ false → f k ≡ g k) →
    sum f n + sum_over g ds ≡ sum g n + sum_over f ds
sum_differs f g n ds few same =
    let rest = sum_same (λ k. cond (member ds k) 0 (f k)) (λ k. cond (member ds k) 0 (g k)) n (λ k l. off k (member ds k) (same k l)) in
    omega (arith, rest, sum_split f n ds few, sum_split g n ds few)
  where
    off : (k : ℕ) (b : Bool) → (b ≡ false → f k ≡ g k) → cond b 0 (f k) ≡ cond b 0 (g k)
    off k true e = refl
    off k false e = e refl

-- the chosen numbers below n, as a sum over all of them
pub sum_selected : (f : ℕ → ℕ) (test : ℕ → Bool) (n : ℕ) → sum_over f (select test n) ≡ sum (masked test f) n
sum_selected f test zero = refl
sum_selected f test (suc n) = by (test n) (sum_selected f test n)
  where
    by : (b : Bool) → sum_over f (select test n) ≡ sum (masked test f) n →
        sum_over f (cond b (select test n ++ (n ∷ [])) (select test n)) ≡ sum (masked test f) n + cond b (f n) 0
    by true r = omega (arith, sum_over_push f (select test n) n, r)
    by false r = omega (arith, r)

-- three by three
pub sum_thirds : (f : ℕ → ℕ) (n : ℕ) → sum f (3 * n) ≡ sum (λ k. f (3 * k) + f (3 * k + 1) + f (3 * k + 2)) n
sum_thirds f zero = refl
sum_thirds f (suc n) =
    let e : 3 * suc n ≡ suc (suc (suc (3 * n))) = omega arith in
    let one : suc (3 * n) ≡ 3 * n + 1 = omega arith in
    let two : suc (suc (3 * n)) ≡ 3 * n + 2 = omega arith in
    ap (sum f) e
    ∙ (λ i. sum_thirds f n i + f (3 * n) + f (one i) + f (two i))
    ∙ omega arith
