-- Facts about the values of a line.
use Rattle.std.proofs.Common.{◌≡◌, ℕ, suc, ◌+◌, ◌<◌, ◌≤◌, Bool, false, eqb, List, [], ◌∷◌, ◌++◌, length, get_or, take, drop, set, Some, None, Ok, Err, Option, Result, Bor, sym, refl, ap, ◌∙◌, append_assoc, zero-add, add-one, arith}
use Rattle.std.specs.Fn.{CalledAt, Mut}
use Rattle.std.specs.Iterator.{Yields}
use Rattle.std.specs.Iterator.Adapters.{enumerate_source, enumerate_count, enumerate_steps}
use Rattle.std.specs.List.{enumerate_from}
use Rattle.std.specs.Slice.Iter.{split_rest, split_done, split_callee, split_steps}
use Rattle.std.proofs.lemmas.Iterator.{YieldsList}
use Rattle.std.proofs.lemmas.Iterator.Consumers.{YieldsList-at, YieldsList-from_enumerate, YieldsList-turn, YieldsList-end}
use Rattle.std.proofs.lemmas.Iterator.Splits.{YieldsList-from_slice_split}
use Rattle.std.proofs.lemmas.List.FromFn.{length-enumerate_from, get_or-enumerate_from}
use Rattle.std.proofs.lemmas.List.{append-nil, get_or_default, take_all, take_more_set, at_drop_more, at_drop_all}
use Rattle.std.proofs.lemmas.Bool.{eq-eqb}
use Rattle.text.specs.declared.LineFault.{LineFault}
use Rattle.text.specs.Pieces.{pieces}
use Rattle.text.specs.Values.{value, bad_field, value_first, values_from, values}

-- ---- a reader that goes from field to field

-- values that are read already, before those that a reader gives
abbrev pub prepended : List ℕ → Result (List ℕ) LineFault → Result (List ℕ) LineFault
prepended vs (Ok ws) = Ok (vs ++ ws)
prepended vs (Err fault) = Err fault

prepended_first : (vs : List ℕ) (field v : ℕ) (r : Result (List ℕ) LineFault) → prepended vs (value_first field (Some v) r) ≡ prepended (vs ++ (v ∷ [])) r
prepended_first vs field v (Ok ws) = ap Ok (sym (append_assoc vs (v ∷ []) ws))
prepended_first vs field v (Err fault) = refl

-- after i fields, the values in `out` and those of the fields that are left are all
abbrev pub Reading : List (List ℕ) → List ℕ → ℕ → Type 0
Reading fs out i = values_from 1 fs ≡ prepended (take i out) (values_from (i + 1) (drop i fs))

pub reading_more : (fs : List (List ℕ)) (out : List ℕ) (i v : ℕ) → i < length fs → i < length out → value (get_or fs i []) ≡ Some v → Reading fs out i → Reading fs (set out i v) (i + 1)
reading_more fs out i v h k e r =
    r
    ∙ ap (prepended (take i out)) (at_drop_more (values_from (i + 1)) fs i [] h ∙ ap (λ o. value_first (i + 1) o (values_from (suc (i + 1)) (drop (i + 1) fs))) e)
    ∙ prepended_first (take i out) (i + 1) v (values_from (suc (i + 1)) (drop (i + 1) fs))
    ∙ ap (λ vs. prepended vs (values_from (suc (i + 1)) (drop (i + 1) fs))) (sym (take_more_set out i v k))
    ∙ ap (λ n. prepended (take (i + 1) (set out i v)) (values_from n (drop (i + 1) fs))) (sym (add-one (i + 1)))

pub reading_stop : (fs : List (List ℕ)) (out : List ℕ) (i : ℕ) → i < length fs → value (get_or fs i []) ≡ None → Reading fs out i → values_from 1 fs ≡ Err (bad_field (i + 1))
reading_stop fs out i h e r =
    r ∙ ap (prepended (take i out)) (at_drop_more (values_from (i + 1)) fs i [] h ∙ ap (λ o. value_first (i + 1) o (values_from (suc (i + 1)) (drop (i + 1) fs))) e)

pub reading_all : (fs : List (List ℕ)) (out : List ℕ) (i : ℕ) → length fs ≤ i → length out ≤ i → Reading fs out i → values_from 1 fs ≡ Ok out
reading_all fs out i h k r =
    r ∙ ap (prepended (take i out)) (at_drop_all (values_from (i + 1)) fs i h) ∙ ap Ok (append-nil (take i out) ∙ take_all i out k)

-- ---- a `for` over the fields and their places

fields_of :
    {F : Type 0} (g : Mut F (Bor ℕ × Unit {0}) Bool) {s : _} {f : F} (parts : _) (line : List ℕ) →
    enumerate_source s ≡ parts → enumerate_count s ≡ 0 → split_rest parts ≡ line → split_done parts ≡ false → split_callee parts ≡ f →
    ((x : ℕ) (b : Bool) (h : F) → CalledAt g f x b h → (h ≡ f) × (b ≡ eqb x 32)) →
    YieldsList (enumerate_steps (split_steps g)) (λ p. (p.0, p.1.now)) s (enumerate_from 0 (pieces 32 line))
unfolding pieces
fields_of g parts line source count rest done closure spaces =
    YieldsList-from_enumerate (YieldsList-at source (YieldsList-from_slice_split g (λ b. eqb b 32) line rest done closure spaces)) count

-- the turn after those that yielded xs
pub field_turn :
    {F : Type 0} {g : Mut F (Bor ℕ × Unit {0}) Bool} {s : _} {f : F} (xs : List (ℕ × Bor (List ℕ))) (t : _) → Yields (enumerate_steps (split_steps g)) s xs t →
    (r : Option (ℕ × Bor (List ℕ))) (u : _) → enumerate_steps (split_steps g) t r u → (parts : _) (line : List ℕ) →
    enumerate_source s ≡ parts → enumerate_count s ≡ 0 → split_rest parts ≡ line → split_done parts ≡ false → split_callee parts ≡ f →
    ((x : ℕ) (b : Bool) (h : F) → CalledAt g f x b h → (h ≡ f) × (b ≡ eqb x 32)) →
    (x : ℕ × Bor (List ℕ)) → r ≡ Some x → (length xs < length (pieces 32 line)) × (x.0 ≡ length xs) × (x.1.now ≡ get_or (pieces 32 line) (length xs) [])
field_turn {g = g} xs t yields r u next parts line source count rest done closure spaces x e =
    let fs = pieces 32 line in
    let turn = YieldsList-turn (fields_of g parts line source count rest done closure spaces) xs t yields r u x e next in
    let within : length xs < length fs = omega (arith, turn.0, length-enumerate_from 0 fs) in
    let both = turn.1 ∙ get_or-enumerate_from 0 fs (length xs) (x.0, x.1.now) within in
    (within, ap (λ p. p.0) both ∙ zero-add (length xs), ap (λ p. p.1) both ∙ get_or_default fs (length xs) x.1.now [] within)

pub fields_end :
    {F : Type 0} {g : Mut F (Bor ℕ × Unit {0}) Bool} {s : _} {f : F} (xs : List (ℕ × Bor (List ℕ))) (t : _) → Yields (enumerate_steps (split_steps g)) s xs t →
    (r : Option (ℕ × Bor (List ℕ))) (u : _) → enumerate_steps (split_steps g) t r u → (parts : _) (line : List ℕ) →
    enumerate_source s ≡ parts → enumerate_count s ≡ 0 → split_rest parts ≡ line → split_done parts ≡ false → split_callee parts ≡ f →
    ((x : ℕ) (b : Bool) (h : F) → CalledAt g f x b h → (h ≡ f) × (b ≡ eqb x 32)) →
    r ≡ None → length xs ≡ length (pieces 32 line)
fields_end {g = g} xs t yields r u next parts line source count rest done closure spaces e =
    (YieldsList-end (fields_of g parts line source count rest done closure spaces) xs t yields r u e next).1 ∙ length-enumerate_from 0 (pieces 32 line)

-- ---- the count

pub values_read : (n : ℕ) (line : List ℕ) → length (pieces 32 line) ≡ n → values n line ≡ values_from 1 (pieces 32 line)
unfolding values
values_read n line h = rw (eq-eqb (length (pieces 32 line)) n h)
