-- Different numbers beside a table that says which are listed.
use Rattle.std.proofs.Common.{◌≡◌, ℕ, zero, suc, ◌<◌, Bool, true, false, not, ◌||◌, eqb, ltb, List, [], ◌∷◌, ◌++◌, length, get_or, set, replicate, sym, refl, ap, ◌∙◌, ⊎_elim, arith}
use Rattle.std.specs.List.{AllByRecursion, IsDistinct, list_any}
use Rattle.std.proofs.lemmas.List.{get_or-set_other, get_or-set_same, length-set, length-replicate}
use Rattle.std.proofs.lemmas.Map.Steps.{length-le_from_distinct_below}
use Rattle.std.proofs.lemmas.Bool.{and_parts, and_from, and_left, and_right, or_cases, or_left, or_right, or_parts, not-true, not_from_true, not_from_false, eqb-true, eqb-false, eq-eqb, ne_eqb, lt-ltb, le-ltb, ltb-true, cases_eq}
use Rattle.worklist.specs.Orders.{limit, Order, Inserted, Put, among, different, unmarked}
use Rattle.worklist.specs.Lawful.{lifo_lawful}
use Rattle.worklist.specs.Insertions.{among_inserted_same, among_inserted_other, different_inserted}
use Rattle.worklist.specs.Marked.{Told, told_small}

-- what `unmarked` tests
pub unmarked_parts : (t : List Bool) (k : ℕ) → true ≡ unmarked t k → (k < length t) × (get_or t k false ≡ false)
unmarked_parts t k new =
    let p = and_parts (ltb k (length t)) (not (get_or t k false)) (sym new) in (ltb-true k (length t) p.0, not-true _ p.1)

-- what is among two lists joined
pub among_append : (xs ys : List ℕ) (k : ℕ) → among (xs ++ ys) k ≡ (among xs k || among ys k)
among_append [] ys k = refl
among_append (x ∷ xs) ys k = ap (λ b. eqb x k || b) (among_append xs ys k) ∙ regroup (eqb x k)
  where
    regroup : (a : Bool) → (a || (among xs k || among ys k)) ≡ ((a || among xs k) || among ys k)
    regroup true = refl
    regroup false = refl

-- what a put answers that goes by the mark
pub put_answers : (Q : Order) (t : List Bool) (xs : List ℕ) (k : ℕ) (r : Bool) (ys : List ℕ) → length t ≡ limit → Told t xs → r ≡ unmarked t k
    → (r ≡ true → Q xs k ys) → (r ≡ false → ys ≡ xs) → Put Q xs k r ys
put_answers Q t xs k r ys wide told e put not_put = record {
  listed = λ m. refused (and_right _ _ (not_from_true _ (told k ∙ m)));
  large = λ l. refused (and_left _ _ (le-ltb k (length t) (omega arith)));
  fresh = λ l m. let y = e ∙ and_from _ _ (lt-ltb k (length t) (omega arith)) (not_from_false _ (told k ∙ m)) in (y, put y);
}
  where
    refused : unmarked t k ≡ false → (r ≡ false) × (ys ≡ xs)
    refused u = let n = e ∙ u in (n, not_put n)

-- what a queue keeps of its table and its numbers, as its ghost fields after `room` have it
pub record Kept (n : ℕ) (t : List Bool) (xs : List ℕ) : Type 0 where
  pub alone : different xs ≡ true
  pub wide : length t ≡ n
  pub told : Told t xs

-- the table after one entry is written
told_set : (t : List Bool) (xs ys : List ℕ) (k : ℕ) (b : Bool) → k < length t → Told t xs → among ys k ≡ b
    → ((j : ℕ) → (j ≡ k → ⊥) → among xs j ≡ among ys j) → Told (set t k b) ys
told_set t xs ys k b l told here others j =
    ⊎_elim
    (λ e. ap (λ m. get_or (set t k b) m false) e ∙ get_or-set_same t k b false l ∙ sym (ap (among ys) e ∙ here))
    (λ ne. get_or-set_other t k j b false ne ∙ told j ∙ others j ne)
    (cases_eq j k)

-- a table in which nothing is marked
unmarked_all : (n j : ℕ) → get_or (replicate n false) j false ≡ false
unmarked_all zero j = refl
unmarked_all (suc n) zero = refl
unmarked_all (suc n) (suc j) = unmarked_all n j

-- nothing waits, and nothing is marked
pub kept_none : (n : ℕ) (xs : List ℕ) → xs ≡ [] → Kept n (replicate n false) xs
kept_none n xs e = record {
  alone = ap different e;
  wide = length-replicate n false;
  told = λ j. unmarked_all n j ∙ sym (ap (λ l. among l j) e);
}

-- an unmarked number is put somewhere, and marked
pub kept_put : (n : ℕ) (t : List Bool) (xs : List ℕ) (k : ℕ) (ys : List ℕ) → Kept n t xs → true ≡ unmarked t k → Inserted xs k ys
    → Kept n (set t k true) ys
kept_put n t xs k ys q new i =
    let p = unmarked_parts t k new in record {
      alone = different_inserted i q.alone (sym (q.told k) ∙ p.1);
      wide = length-set t k true ∙ q.wide;
      told = told_set t xs ys k true p.0 q.told (among_inserted_same i) (λ j ne. sym (among_inserted_other i j ne));
    }

-- as the library has it that numbers are different
listed : (xs : List ℕ) (k : ℕ) → list_any (eqb k) xs ≡ true → among xs k ≡ true
listed [] k m = m
listed (x ∷ xs) k m =
    ⊎_elim
    (λ e. or_left (eqb x k) (among xs k) (eq-eqb x k (sym (eqb-true k x e))))
    (λ r. or_right (eqb x k) (among xs k) (listed xs k r))
    (or_cases (eqb k x) (list_any (eqb k) xs) m)

others : (xs : List ℕ) (x : ℕ) → among xs x ≡ false → AllByRecursion (λ y. eqb x y ≡ false) xs
others [] x absent = tt
others (y ∷ xs) x absent =
    let p = or_parts (eqb y x) (among xs x) absent in
    (ne_eqb x y (λ e. eqb-false y x p.0 (sym e)), others xs x p.1)

distinct : (xs : List ℕ) → different xs ≡ true → IsDistinct eqb xs
unfolding IsDistinct
distinct [] d = tt
distinct (x ∷ xs) d =
    let p = and_parts (not (among xs x)) (different xs) d in (others xs x (not-true _ p.0), distinct xs p.1)

-- so a queue finds room for an unmarked number
pub has_room : (n : ℕ) (t : List Bool) (xs : List ℕ) (k : ℕ) → Kept n t xs → true ≡ unmarked t k → length xs < n
has_room n t xs k q new =
    let more = kept_put n t xs k (k ∷ xs) q new (lifo_lawful.inserts xs k (k ∷ xs) refl) in
    length-le_from_distinct_below (k ∷ xs) n (distinct (k ∷ xs) more.alone)
    (λ j m. let l = told_small (set t k true) (k ∷ xs) j more.told (listed (k ∷ xs) j m) in let w = more.wide in omega arith)
