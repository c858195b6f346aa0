-- The numbers that a table marks, where its first entry is the mark of i; and tables that mark exactly the numbers of a list.
use Rattle.std.specs.Prelude.{◌≡◌, ℕ, zero, suc, ◌+◌, ◌<◌, ◌≤◌, Bool, true, false, ◌||◌, List, [], ◌∷◌, length, ◌==◌, nat_lt, slice_index_or, slice_set, refl}
use Rattle.std.proofs.Common.{sym, ap, ◌∙◌, ⊎_elim, arith}
use Rattle.std.proofs.Math.ListN.{get_or-eq_default}
use Rattle.std.proofs.lemmas.Bool.{both_ways, and_from, or_left, or_right, not_from_false, eq-eqb, ne_eqb, lt-ltb, le-ltb, cases_lt, cond-true, cond-false}
use Rattle.worklist.specs.Orders.{among, different, below, insert, marked}

-- no number below i is marked
among_marked_before : (i : ℕ) (t : List Bool) (k : ℕ) → k < i → among (marked i t) k ≡ false
among_marked_before i [] k l = refl
among_marked_before i (true ∷ t) k l =
    ap (λ b. b || among (marked (suc i) t) k) (ne_eqb i k (λ e. omega arith)) ∙ among_marked_before (suc i) t k (omega arith)
among_marked_before i (false ∷ t) k l = among_marked_before (suc i) t k (omega arith)

-- the table's entries say which numbers are marked
among_marked_from : (i : ℕ) (t : List Bool) (n k : ℕ) → k ≡ i + n → among (marked i t) k ≡ slice_index_or t n false
among_marked_from i [] n k e = refl
among_marked_from i (true ∷ t) zero k e = or_left (i == k) (among (marked (suc i) t) k) (eq-eqb i k (omega arith))
among_marked_from i (false ∷ t) zero k e = among_marked_before (suc i) t k (omega arith)
among_marked_from i (true ∷ t) (suc n) k e =
    ap (λ b. b || among (marked (suc i) t) k) (ne_eqb i k (λ f. omega arith)) ∙ among_marked_from (suc i) t n k (omega arith)
among_marked_from i (false ∷ t) (suc n) k e = among_marked_from (suc i) t n k (omega arith)

-- and so in a table of all numbers
pub among_marked : (t : List Bool) (k : ℕ) → among (marked 0 t) k ≡ slice_index_or t k false
among_marked t k = among_marked_from 0 t k k (omega arith)

-- marked numbers are different
pub different_marked : (i : ℕ) (t : List Bool) → different (marked i t) ≡ true
different_marked i [] = refl
different_marked i (true ∷ t) =
    and_from _ _ (not_from_false _ (among_marked_before (suc i) t i (omega arith))) (different_marked (suc i) t)
different_marked i (false ∷ t) = different_marked (suc i) t

-- and below the table's end
below_marked_from : (i : ℕ) (t : List Bool) (n : ℕ) → n ≡ i + length t → below n (marked i t) ≡ true
below_marked_from i [] n e = refl
below_marked_from i (true ∷ t) n e =
    and_from _ _ (lt-ltb i n (omega arith)) (below_marked_from (suc i) t n (omega arith))
below_marked_from i (false ∷ t) n e = below_marked_from (suc i) t n (omega arith)

-- and so in a table of n numbers
pub below_marked : (n : ℕ) (t : List Bool) → length t ≡ n → below n (marked 0 t) ≡ true
below_marked n t w = below_marked_from 0 t n (omega arith)

-- the table t says of each number whether it is listed
abbrev pub Told : List Bool → List ℕ → Type 0
Told t xs = (k : ℕ) → slice_index_or t k false ≡ among xs k

-- so each listed number is below the table's end
pub told_small : (t : List Bool) (xs : List ℕ) (k : ℕ) → Told t xs → among xs k ≡ true → k < length t
told_small t xs k told m =
    ⊎_elim (λ l. l) (λ past. absurd (both_ways (among xs k) (sym (told k) ∙ get_or-eq_default t false past) m))
    (cases_lt k (length t))

-- and so is the first one
pub told_first : (t : List Bool) (xs : List ℕ) (k : ℕ) (ys : List ℕ) → Told t xs → xs ≡ k ∷ ys → k < length t
told_first t xs k ys told e = told_small t xs k told (ap (λ zs. among zs k) e ∙ or_left (k == k) (among ys k) (eq-eqb k k refl))

-- numbers that are each below n
below_each : (n : ℕ) (xs : List ℕ) → ((k : ℕ) → among xs k ≡ true → k < n) → below n xs ≡ true
below_each n [] h = refl
below_each n (x ∷ xs) h =
    and_from _ _
    (lt-ltb x n (h x (or_left (x == x) (among xs x) (eq-eqb x x refl))))
    (below_each n xs (λ k m. h k (or_right (x == k) (among xs k) m)))

-- as those are that a table of n numbers tells
pub below_told : (n : ℕ) (t : List Bool) (xs : List ℕ) → length t ≡ n → Told t xs → below n xs ≡ true
below_told n t xs w told = below_each n xs (λ k m. omega (arith, told_small t xs k told m))

-- a table with no mark marks nothing
pub marked_none : (i : ℕ) (t : List Bool) → ((k : ℕ) → k < length t → slice_index_or t k false ≡ false) → marked i t ≡ []
marked_none i [] h = refl
marked_none i (true ∷ t) h = absurd (both_ways true (h 0 (omega arith)) refl)
marked_none i (false ∷ t) h = marked_none (suc i) t (λ k l. h (suc k) (omega arith))

-- a table marks at most as many numbers as it has entries
pub length_marked : (i : ℕ) (t : List Bool) → length (marked i t) ≤ length t
length_marked i [] = omega arith
length_marked i (true ∷ t) = let l = length_marked (suc i) t in omega arith
length_marked i (false ∷ t) = let l = length_marked (suc i) t in omega arith

-- a number below all marked ones goes first
insert_marked : (i : ℕ) (t : List Bool) (k : ℕ) → k < i → insert k (marked i t) ≡ k ∷ marked i t
insert_marked i [] k l = refl
insert_marked i (true ∷ t) k l = cond-true (nat_lt k i) _ _ (lt-ltb k i l)
insert_marked i (false ∷ t) k l = insert_marked (suc i) t k (omega arith)

-- a new mark puts its number in rising order
marked_set_from : (i : ℕ) (t : List Bool) (n k : ℕ) → k ≡ i + n → n < length t → slice_index_or t n false ≡ false
    → marked i (slice_set t n true) ≡ insert k (marked i t)
marked_set_from i [] n k e l u = absurd (omega arith)
marked_set_from i (true ∷ t) zero k e l u = absurd (both_ways true u refl)
marked_set_from i (false ∷ t) zero k e l u =
    let same : i ≡ k = omega arith in ap (λ j. j ∷ marked (suc i) t) same ∙ sym (insert_marked (suc i) t k (omega arith))
marked_set_from i (true ∷ t) (suc n) k e l u =
    ap (λ js. i ∷ js) (marked_set_from (suc i) t n k (omega arith) (omega arith) u)
    ∙ sym (cond-false (nat_lt k i) _ _ (le-ltb k i (omega arith)))
marked_set_from i (false ∷ t) (suc n) k e l u = marked_set_from (suc i) t n k (omega arith) (omega arith) u

-- and so in a table of all numbers
pub marked_set : (t : List Bool) (k : ℕ) → k < length t → slice_index_or t k false ≡ false → marked 0 (slice_set t k true) ≡ insert k (marked 0 t)
marked_set t k l u = marked_set_from 0 t k k (omega arith) l u

-- the lowest marked number is the first, and the rest are left once its mark is taken back
marked_first_from : (i : ℕ) (t : List Bool) (n k : ℕ) → k ≡ i + n → ((j : ℕ) → j < n → slice_index_or t j false ≡ false) → slice_index_or t n false ≡ true
    → marked i t ≡ k ∷ marked i (slice_set t n false)
marked_first_from i [] n k e none m = absurd (both_ways false refl m)
marked_first_from i (true ∷ t) zero k e none m = let same : i ≡ k = omega arith in ap (λ j. j ∷ marked (suc i) t) same
marked_first_from i (false ∷ t) zero k e none m = absurd (both_ways false refl m)
marked_first_from i (true ∷ t) (suc n) k e none m = absurd (both_ways true (none 0 (omega arith)) refl)
marked_first_from i (false ∷ t) (suc n) k e none m =
    marked_first_from (suc i) t n k (omega arith) (λ j l. none (suc j) (omega arith)) m

-- and so in a table of all numbers
pub marked_first : (t : List Bool) (k : ℕ) → ((j : ℕ) → j < k → slice_index_or t j false ≡ false) → slice_index_or t k false ≡ true
    → marked 0 t ≡ k ∷ marked 0 (slice_set t k false)
marked_first t k none m = marked_first_from 0 t k k (omega arith) none m
