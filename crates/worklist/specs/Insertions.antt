-- What a number put in at one place of a list changes: what is listed, how many, that they are different and below a bound.
use Rattle.std.specs.Prelude.{◌≡◌, ℕ, suc, ◌<◌, Bool, true, false, not, ◌||◌, List, [], ◌∷◌, ◌++◌, length, ◌==◌, ◌≢◌, nat_lt, refl}
use Rattle.std.proofs.Common.{sym, ap, ◌∙◌, ⊎_elim, arith}
use Rattle.std.proofs.lemmas.List.{length-append}
use Rattle.std.proofs.lemmas.Bool.{both_ways, and_parts, and_from, or_cases, or_parts, or_left, not-true, not_from_false, eqb-true, eqb-false, eq-eqb, ne_eqb, ltb-true}
use Rattle.worklist.specs.Orders.{Inserted, among, different, below}

-- the law of `||` that two puts in a row need
pub or_swap : (a b c : Bool) → (a || (b || c)) ≡ (b || (a || c))
or_swap true true c = refl
or_swap true false c = refl
or_swap false b c = refl

-- what is listed once k stands between two parts
among_between : (front back : List ℕ) (k j : ℕ) → among (front ++ (k ∷ back)) j ≡ (k == j || among (front ++ back) j)
among_between [] back k j = refl
among_between (x ∷ front) back k j =
    ap (λ b. (x == j) || b) (among_between front back k j) ∙ or_swap (x == j) (k == j) (among (front ++ back) j)

-- a new number leaves them different
different_between : (front back : List ℕ) (k : ℕ) → different (front ++ back) ≡ true → among (front ++ back) k ≡ false
    → different (front ++ (k ∷ back)) ≡ true
different_between [] back k d new = and_from _ _ (not_from_false _ new) d
different_between (x ∷ front) back k d new =
    let p = and_parts (not (among (front ++ back) x)) (different (front ++ back)) d in
    let q = or_parts (x == k) (among (front ++ back) k) new in
    let other = ap (λ b. b || among (front ++ back) x) (ne_eqb k x (λ e. eqb-false x k q.0 (sym e))) in
    and_from _ _
    (not_from_false _ (among_between front back k x ∙ other ∙ not-true _ p.0))
    (different_between front back k p.1 q.1)

-- and below n, if it is
below_between : (n : ℕ) (front back : List ℕ) (k : ℕ) → below n (front ++ back) ≡ true → nat_lt k n ≡ true
    → below n (front ++ (k ∷ back)) ≡ true
below_between n [] back k b l = and_from _ _ l b
below_between n (x ∷ front) back k b l =
    let p = and_parts (nat_lt x n) (below n (front ++ back)) b in and_from _ _ p.0 (below_between n front back k p.1 l)

module _ {xs ys : List ℕ} {k : ℕ} (i : Inserted xs k ys) where
  -- what waits after an insertion
  pub among_inserted : (j : ℕ) → among ys j ≡ (k == j || among xs j)
  among_inserted j =
      ap (λ zs. among zs j) i.after
      ∙ among_between i.front i.back k j
      ∙ sym (ap (λ zs. (k == j) || among zs j) i.before)

  -- the number itself
  pub among_inserted_same : among ys k ≡ true
  among_inserted_same = among_inserted k ∙ or_left (k == k) (among xs k) (eq-eqb k k refl)

  -- any other number
  pub among_inserted_other : (j : ℕ) → (j ≢ k) → among ys j ≡ among xs j
  among_inserted_other j ne = among_inserted j ∙ ap (λ b. b || among xs j) (ne_eqb k j (λ e. ne (sym e)))

  -- how many wait after an insertion
  pub length_inserted : length ys ≡ suc (length xs)
  length_inserted =
      omega (arith, ap length i.after, ap length i.before, length-append i.front (k ∷ i.back), length-append i.front i.back)

  -- a new number leaves those that wait different
  pub different_inserted : different xs ≡ true → among xs k ≡ false → different ys ≡ true
  different_inserted d new =
      ap different i.after
      ∙ different_between i.front i.back k (sym (ap different i.before) ∙ d) (sym (ap (λ zs. among zs k) i.before) ∙ new)

  -- and below n, if it is
  pub below_inserted : (n : ℕ) → below n xs ≡ true → nat_lt k n ≡ true → below n ys ≡ true
  below_inserted n b l =
      ap (below n) i.after ∙ below_between n i.front i.back k (sym (ap (below n) i.before) ∙ b) l

-- a listed number is below the bound of the list
pub below_among : (n : ℕ) (xs : List ℕ) (k : ℕ) → below n xs ≡ true → among xs k ≡ true → k < n
below_among n [] k b m = absurd (both_ways false refl m)
below_among n (x ∷ xs) k b m =
    let p = and_parts (nat_lt x n) (below n xs) b in
    ⊎_elim
    (λ e. let same = eqb-true x k e in let l = ltb-true x n p.0 in omega arith)
    (λ e. below_among n xs k p.1 e)
    (or_cases (x == k) (among xs k) m)
