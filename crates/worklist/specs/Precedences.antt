-- Where each order puts a number, and so which precedence it keeps.
use Rattle.std.specs.Prelude.{◌≡◌, ℕ, ◌<◌, true, false, List, [], ◌∷◌, ◌++◌, Some, Option, ◌==◌, nat_lt, refl}
use Rattle.std.proofs.Common.{sym, subst, ◌∙◌, ⊎_elim, le_refl, arith}
use Rattle.std.proofs.lemmas.Bool.{both_ways, or_cases, or_left, or_right, eqb-true, eq-eqb, ltb-true, ltb-false, leb-true, le-leb, cond_both}
use Rattle.worklist.specs.Orders.{LawfulOrder, among, fifo, lifo, lowest, insert}
use Rattle.worklist.specs.Histories.{Precedence, Keeps, first_come, last_come, least}
use Rattle.worklist.specs.Lawful.{fifo_lawful, lifo_lawful, lowest_lawful}
use Rattle.worklist.specs.Insertions.{among_inserted}
use Rattle.worklist.specs.HistoriesLemmas.{Sorted, keeps}

-- each listed number has a moment, below n
abbrev Before : (ℕ → Option ℕ) → ℕ → List ℕ → Type 0
Before s n xs = (j : ℕ) → among xs j ≡ true → (u : ℕ) × (s j ≡ Some u) × (u < n)

first_listed : (x : ℕ) (xs : List ℕ) → among (x ∷ xs) x ≡ true
first_listed x xs = or_left (x == x) (among xs x) (eq-eqb x x refl)

-- one number alone is in order
sorted_one : (P : Precedence) (s : ℕ → Option ℕ) (k : ℕ) → Sorted P s (k ∷ [])
sorted_one P s k = (λ j t u m a b. absurd (both_ways false refl m), tt)

-- at the end: after all that came before it
fifo_places : (s : ℕ → Option ℕ) (n : ℕ) (xs : List ℕ) (k : ℕ) → s k ≡ Some n → Before s n xs → Sorted first_come s xs → Sorted first_come s (xs ++ (k ∷ []))
fifo_places s n [] k new old q = sorted_one first_come s k
fifo_places s n (x ∷ xs) k new old q = (
  λ j t u m a b. ⊎_elim
      (λ e. let same = eqb-true k j e in
      let w = old x (first_listed x xs) in
      let f = w.1 in
      let last : u ≡ n = cc in
      let earlier : t ≡ w.0 = cc in
      le-leb t u (omega (arith, w.2)))
      (λ e. q.0 j t u e a b)
      (or_cases (k == j) (among xs j) (sym (among_inserted (fifo_lawful.inserts xs k (xs ++ (k ∷ [])) refl) j) ∙ m)),
  fifo_places s n xs k new (λ j m. old j (or_right (x == j) (among xs j) m)) q.1,
)

-- at the front: before all that came before it
lifo_places : (s : ℕ → Option ℕ) (n : ℕ) (xs : List ℕ) (k : ℕ) → s k ≡ Some n → Before s n xs → Sorted last_come s xs → Sorted last_come s (k ∷ xs)
lifo_places s n xs k new old q = (
  λ j t u m a b. let w = old j m in
      let f = w.1 in
      let last : t ≡ n = cc in
      let earlier : u ≡ w.0 = cc in
      le-leb u t (omega (arith, w.2)),
  q,
)

-- before the first number above it: all after that are above it too
lowest_places : (s : ℕ → Option ℕ) (n : ℕ) (xs : List ℕ) (k : ℕ) → s k ≡ Some n → Before s n xs → Sorted least s xs → Sorted least s (insert k xs)
lowest_places s n [] k new old q = sorted_one least s k
lowest_places s n (x ∷ xs) k new old q =
    let rest = lowest_places s n xs k new (λ j m. old j (or_right (x == j) (among xs j) m)) q.1 in
    let w = old x (first_listed x xs) in
    cond_both (nat_lt k x) _ _ (Sorted least s)
    (λ e. (
      λ j t u m a b. let l = ltb-true k x e in
          ⊎_elim
          (λ f. le-leb k j (omega (arith, eqb-true x j f)))
          (λ f. le-leb k j (omega (arith, leb-true x j (q.0 j w.0 u f w.1 b))))
          (or_cases (x == j) (among xs j) m),
      q,
    ))
    (λ e. (
      λ j t u m a b. let l = ltb-false k x e in
          ⊎_elim
          (λ f. le-leb x j (omega (arith, eqb-true k j f)))
          (λ f. q.0 j t u f a b)
          (or_cases (k == j) (among xs j) (sym (among_inserted (lowest_lawful.inserts xs k (insert k xs) refl) j) ∙ m)),
      rest,
    ))

-- an order under which a put makes one list keeps a precedence if that list is sorted where the old one was
keeps_by : (F : List ℕ → ℕ → List ℕ) (P : Precedence) → LawfulOrder (λ xs k ys. ys ≡ F xs k) → ((k t : ℕ) → P k t k t ≡ true)
    → ((s : ℕ → Option ℕ) (n : ℕ) (xs : List ℕ) (k : ℕ) → s k ≡ Some n → Before s n xs → Sorted P s xs → Sorted P s (F xs k))
    → Keeps (λ xs k ys. ys ≡ F xs k) P
keeps_by F P lawful even sorted = keeps _ P (record {
  lawful = lawful;
  even = even;
  places = λ s n xs k ys new old q e. subst (Sorted P s) (sym e) (sorted s n xs k new old q);
})

-- first in, first out
pub fifo_keeps : Keeps fifo first_come
fifo_keeps = keeps_by (λ xs k. xs ++ (k ∷ [])) first_come fifo_lawful (λ k t. le-leb t t (le_refl t)) fifo_places

-- last in, first out
pub lifo_keeps : Keeps lifo last_come
lifo_keeps = keeps_by (λ xs k. k ∷ xs) last_come lifo_lawful (λ k t. le-leb t t (le_refl t)) lifo_places

-- lowest number first
pub lowest_keeps : Keeps lowest least
lowest_keeps = keeps_by (λ xs k. insert k xs) least lowest_lawful (λ k t. le-leb k k (le_refl k)) lowest_places
