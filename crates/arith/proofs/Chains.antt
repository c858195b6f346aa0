-- What a chain of iterators over the numbers below n answers.
use Rattle.std.proofs.Common.{◌≡◌, ℕ, zero, suc, ◌+◌, ◌<◌, Bool, true, false, cond, ◌&&◌, ◌||◌, List, [], ◌∷◌, ◌++◌, length, Some, None, Option, is_some, refl, ap, ap₂, ◌∙◌, map, filter, length-append, arith}
use Rattle.std.specs.List.{list_all, list_any, find, range_with_len, sum_by, fold}
use Rattle.std.specs.Option.{option_or, option_map}
use denote.Param.Members.{Mut}
use denote.Ref.{Bor}
use Rattle.std.specs.Fn.{Called, CalledAt}
use Rattle.std.specs.Bool.{⊤}
use Rattle.std.specs.Iterator.{ChecksAll, ChecksAny, FindsItem, Drains}
use Rattle.std.specs.Iterator.Adapters.{map_source, map_callee, map_steps}
use Rattle.std.specs.Iterator.Runs.{EachRunFrom}
use Rattle.std.specs.declared.iter.Map.{Map}
use Rattle.std.specs.declared.ops.Range.{Range}
use Rattle.std.proofs.iter.Yields.{nat_range_steps}
use Rattle.std.proofs.lemmas.Iterator.{YieldsList, YieldsList-from_range, YieldsList-from_map}
use Rattle.std.proofs.lemmas.Iterator.Consumers.{sum_by_from_yields_List, fits_by_from_yields_list}
use Rattle.std.proofs.lemmas.Iterator.Search.{all_from_yields_List, any_from_yields_List, find_from_yields_List}
use Rattle.std.proofs.lemmas.List.Folds.{list_all-append, find-append}
use Rattle.std.proofs.lemmas.List.Elements.{filter-append}
use Rattle.std.proofs.lemmas.List.Sums.{sum_by-append}
use Rattle.arith.specs.Ranges.{upto, every, tally, first, or_else, sum}

range_more : (a n : ℕ) → range_with_len a (suc n) ≡ range_with_len a n ++ ((a + n) ∷ [])
range_more a zero = let e : a + 0 ≡ a = omega arith in rw e refl
range_more a (suc n) = let e : a + 1 + n ≡ a + suc n = omega arith in ap (λ l. a ∷ l) (range_more (a + 1) n ∙ rw e refl)

-- the library's list of the numbers below n
pub range_upto : (n : ℕ) → range_with_len 0 n ≡ upto n
range_upto zero = refl
range_upto (suc n) = let e : 0 + n ≡ n = omega arith in range_more 0 n ∙ rw e (ap (λ l. l ++ (n ∷ [])) (range_upto n))

module _ (test : ℕ → Bool) where
  all_upto : (n : ℕ) → list_all test (upto n) ≡ every test n
  all_upto zero = refl
  all_upto (suc n) = list_all-append test (upto n) (n ∷ []) ∙ ap₂ ◌&&◌ (all_upto n) (last (test n))
    where
      last : (b : Bool) → (b && true) ≡ b
      last true = refl
      last false = refl

  pub all_range : (n : ℕ) → list_all test (range_with_len 0 n) ≡ every test n
  all_range n = ap (list_all test) (range_upto n) ∙ all_upto n

  find_upto : (n : ℕ) → find test (upto n) ≡ first test n
  find_upto zero = refl
  find_upto (suc n) = find-append test (upto n) (n ∷ []) ∙ ap (λ o. option_or o (cond (test n) (Some n) None)) (find_upto n) ∙ last (first test n) (test n)
    where
      last : (o : Option ℕ) (b : Bool) → option_or o (cond b (Some n) None) ≡ or_else o b n
      last (Some k) b = refl
      last None true = refl
      last None false = refl

  pub find_range : (n : ℕ) → find test (range_with_len 0 n) ≡ first test n
  find_range n = ap (find test) (range_upto n) ∙ find_upto n

  any_found : (xs : List ℕ) → list_any test xs ≡ is_some (find test xs)
  any_found [] = refl
  any_found (x ∷ xs) = by (test x) (any_found xs)
    where
      by : (b : Bool) → list_any test xs ≡ is_some (find test xs) → (b || list_any test xs) ≡ is_some (cond b (Some x) (find test xs))
      by true e = refl
      by false e = e

  pub any_range : (n : ℕ) → list_any test (range_with_len 0 n) ≡ is_some (first test n)
  any_range n = any_found (range_with_len 0 n) ∙ ap is_some (find_range n)

  count_upto : (n : ℕ) → length (filter test (upto n)) ≡ tally test n
  count_upto zero = refl
  count_upto (suc n) = ap length (filter-append test (upto n) (n ∷ [])) ∙ length-append (filter test (upto n)) (filter test (n ∷ [])) ∙ last (test n) (count_upto n)
    where
      last : (b : Bool) → length (filter test (upto n)) ≡ tally test n → length (filter test (upto n)) + length (cond b (n ∷ []) []) ≡ cond b (suc (tally test n)) (tally test n)
      last true e = omega arith
      last false e = omega arith

  pub count_range : (n : ℕ) → length (filter test (range_with_len 0 n)) ≡ tally test n
  count_range n = ap (λ l. length (filter test l)) (range_upto n) ∙ count_upto n

sum_upto : (f : ℕ → ℕ) (n : ℕ) → sum_by f (upto n) ≡ sum f n
sum_upto f zero = refl
sum_upto f (suc n) = sum_by-append f (upto n) (n ∷ []) ∙ (let e = sum_upto f n in omega arith)

pub sum_range : (f : ℕ → ℕ) (n : ℕ) → sum_by f (range_with_len 0 n) ≡ sum f n
sum_range f n = ap (sum_by f) (range_upto n) ∙ sum_upto f n

abbrev range : ℕ → Range ℕ
range n = record { start = 0; end = n }

-- the numbers that an iterator over those below n gives
pub below : (n : ℕ) → YieldsList nat_range_steps (λ x. x) (range n) (range_with_len 0 n)
below n = YieldsList-from_range 0 n n refl (omega arith)

-- a chain that ends in `all`, `any` or `find`, where the closure computes a test
module _ {F : Type 0} {f : F} (u : Range ℕ) (test : ℕ → Bool) (n : ℕ) where
  pub every_from_all : {g : Mut F (ℕ × Unit {0}) Bool} (r : Bool) → ChecksAll nat_range_steps g (range n) f r u →
      ((x : ℕ) (b : Bool) (q : F) → Called g f (x, tt) b q → (q ≡ f) × (b ≡ test x)) → r ≡ every test n
  every_from_all r ran closure = all_from_yields_List test u f r ran (below n) closure ∙ all_range test n

  pub first_from_any : {g : Mut F (ℕ × Unit {0}) Bool} (r : Bool) → ChecksAny nat_range_steps g (range n) f r u →
      ((x : ℕ) (b : Bool) (q : F) → Called g f (x, tt) b q → (q ≡ f) × (b ≡ test x)) → r ≡ is_some (first test n)
  first_from_any r ran closure = any_from_yields_List test u f r ran (below n) closure ∙ any_range test n

  pub first_from_find : {g : Mut F (Bor ℕ × Unit {0}) Bool} (r : Option ℕ) → FindsItem nat_range_steps g (range n) f r u →
      ((x : ℕ) (b : Bool) (q : F) → CalledAt g f x b q → (q ≡ f) × (b ≡ test x)) → r ≡ first test n
  first_from_find r ran closure = same r ∙ find_from_yields_List test u f r ran (below n) closure ∙ find_range test n
    where
      same : (o : Option ℕ) → o ≡ option_map (λ x. x) o
      same None = refl
      same (Some x) = refl

-- a chain that ends in `map` and `sum`, where the closure computes f
module _ {F : Type 0} (g : Mut F (ℕ × Unit {0}) ℕ) {s : Map (Range ℕ) F} {callee : F} (f : ℕ → ℕ) (n : ℕ) (source : map_source s ≡ range n) (at : map_callee s ≡ callee)
    (closure : (x r : ℕ) (q : F) → Called g callee (x, tt) r q → (q ≡ callee) × (r ≡ f x)) where
  given : YieldsList (map_steps nat_range_steps g) (λ x. x) s (map f (range_with_len 0 n))
  given = YieldsList-from_map g f (YieldsList-from_range 0 n n source (omega arith)) at closure

  pub sum_fits : (top : ℕ) → sum f n < top → EachRunFrom (map_steps nat_range_steps g) s (λ p. fold (λ a x. a + x) 0 p.items < top)
  sum_fits top h = fits_by_from_yields_list f (range_with_len 0 n) s top given (rw (sum_range f n) h)

  pub sum_from_chain : (r : ℕ) → ((xs : List ℕ) × (⊤ → Drains (map_steps nat_range_steps g) s xs) × (r ≡ fold (λ a x. a + x) 0 xs)) → r ≡ sum f n
  sum_from_chain r ran = sum_by_from_yields_List f (range_with_len 0 n) s r ran given ∙ sum_range f n
