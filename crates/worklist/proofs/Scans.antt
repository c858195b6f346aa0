-- What a scan for the lowest number finds, and what a put and a take keep.
use Rattle.std.proofs.Common.{cond, ltb, drop, option_map, position, Option, Some, None, refl, ◌≡◌, ℕ, ◌+◌, ◌-◌, ◌<◌, ◌≤◌, min, Bool, true, false, List, length, get_or, set, sym, ap, ◌∙◌, ⊎_elim, arith}
use Rattle.std.proofs.lemmas.List.{length-set, get_or-drop, get_or-set_same, get_or-set_other}
use Rattle.std.proofs.Math.ListN.{get_or-eq_default}
use Rattle.std.specs.List.{position_or_len}
use Rattle.std.proofs.lemmas.List.Quantifiers.{position-Some}
use Rattle.std.proofs.lemmas.List.Sums.{fails_before_first}
use Rattle.std.proofs.lemmas.Bool.{ltb-false, cases_eq, cases_lt}
use Rattle.worklist.specs.Orders.{limit, marked, unmarked}
use Rattle.worklist.specs.declared.lowest.Lowest.{Lowest}
use Rattle.worklist.specs.Insertions.{length_inserted}
use Rattle.worklist.specs.Lawful.{lowest_lawful}
use Rattle.worklist.specs.Marked.{told_small, among_marked, marked_set, marked_first}
use Rattle.worklist.proofs.Listings.{unmarked_parts}

-- the ghost fields of `Lowest` as one fact
pub record Tallied (t : List Bool) (count from : ℕ) : Type 0 where
  pub wide : length t ≡ limit
  pub counted : count ≡ length (marked 0 t)
  pub passed : (j : ℕ) → j < from → get_or t j false ≡ false

-- nothing is marked before `from`, so an entry is unmarked if it is where it lies behind
unmarked_at : (l : Lowest) (j : ℕ) → (l.from ≤ j → get_or (drop l.from l.listed) (j - l.from) false ≡ false) → get_or l.listed j false ≡ false
unmarked_at l j behind =
    ⊎_elim (l.passed j)
    (λ h. ap (λ i. get_or l.listed i false) (omega arith) ∙ sym (get_or-drop l.from l.listed (j - l.from) false) ∙ behind h)
    (cases_lt j l.from)

-- the scan stops at the lowest mark
pub scan_found : (l : Lowest) (k : ℕ) → Some k ≡ option_map (λ n. l.from + n) (position (λ m. m) (drop l.from l.listed))
    → (get_or l.listed k false ≡ true) × ((j : ℕ) → j < k → get_or l.listed j false ≡ false)
scan_found l k e = by (position (λ m. m) (drop l.from l.listed)) refl e
  where
    by : (o : Option ℕ) → position (λ m. m) (drop l.from l.listed) ≡ o → Some k ≡ option_map (λ n. l.from + n) o
        → (get_or l.listed k false ≡ true) × ((j : ℕ) → j < k → get_or l.listed j false ≡ false)
    by (Some n) is f =
        let at : k ≡ l.from + n = cc in
        let p = position-Some (λ m. m) (drop l.from l.listed) n false is in (
          ap (λ i. get_or l.listed i false) at ∙ sym (get_or-drop l.from l.listed n false) ∙ p.1,
          λ j h. unmarked_at l j (λ from. p.2 (j - l.from) (omega arith)),
        )
    by None is f = absurd (let z : ◌≡◌ {A = ℕ} 0 1 = cc in omega arith)

-- or there is none
pub scan_none : (l : Lowest) → None ≡ option_map (λ n. l.from + n) (position (λ m. m) (drop l.from l.listed))
    → (j : ℕ) → get_or l.listed j false ≡ false
scan_none l e j =
    unmarked_at l j
    (λ h. ⊎_elim
    (λ in_rest. fails_before_first (λ m. m) rest (j - l.from) false (omega (arith, past (ltb first (length rest)) refl e)))
    (λ behind. get_or-eq_default rest false behind)
    (cases_lt (j - l.from) (length rest)))
  where
    rest : List Bool
    rest = drop l.from l.listed

    first : ℕ
    first = position_or_len (λ m. m) rest

    past : (b : Bool) → ltb first (length rest) ≡ b → None ≡ option_map (λ n. l.from + n) (cond b (Some first) None) → length rest ≤ first
    past true is f = absurd (let z : ◌≡◌ {A = ℕ} 0 1 = cc in omega arith)
    past false is f = ltb-false first (length rest) is

-- a put marks k, counts it and lowers `from` to it
pub tallied_put : (l : Lowest) (k : ℕ) → true ≡ unmarked l.listed k → Tallied (set l.listed k true) (l.count + 1) (min l.from k)
tallied_put l k new =
    let p = unmarked_parts l.listed k new in
    let one = length_inserted (lowest_lawful.inserts _ k _ (marked_set l.listed k p.0 p.1)) in record {
      wide = length-set l.listed k true ∙ l.wide;
      counted = omega (arith, one, l.counted);
      passed = λ j h. get_or-set_other l.listed k j true false (λ same. omega arith) ∙ l.passed j (omega arith);
    }

-- a take unmarks the lowest number k, and scans on behind it
pub tallied_take : (l : Lowest) (k : ℕ) → ((j : ℕ) → j < k → get_or l.listed j false ≡ false) → get_or l.listed k false ≡ true
    → Tallied (set l.listed k false) (l.count - 1) (k + 1)
tallied_take l k none m =
    let small = told_small l.listed (marked 0 l.listed) k (λ j. sym (among_marked l.listed j)) (among_marked l.listed k ∙ m) in
    let one = ap length (marked_first l.listed k none m) in record {
      wide = length-set l.listed k false ∙ l.wide;
      counted = omega (arith, one, l.counted);
      passed = λ j h.
          ⊎_elim
          (λ same. ap (λ i. get_or (set l.listed k false) i false) same ∙ get_or-set_same l.listed k false false small)
          (λ ne. get_or-set_other l.listed k j false false ne ∙ none j (omega arith))
          (cases_eq j k);
    }
