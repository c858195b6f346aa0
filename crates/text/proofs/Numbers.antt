-- Facts about the number in a field.
use Rattle.std.proofs.Common.{◌≡◌, ℕ, ◌-◌, ◌<◌, ◌≤◌, Bool, true, false, cond, ◌&&◌, ◌⊎◌, List, [], ◌∷◌, length, get_or, take, drop, Some, None, Ok, Err, Result, refl, ap, ◌∙◌, inl, inr, zero-add, arith}
use Rattle.std.specs.Option.{ok_or}
use Rattle.std.proofs.lemmas.Slice.{first_rest}
use Rattle.std.proofs.lemmas.Bool.Decides.{nat_tests}
use Rattle.mesh.specs.declared.Refusal.{Refusal}
use Rattle.mesh.specs.declared.Refusal.TheVariants.{Values}
use Rattle.text.specs.Values.{is_digit, all_digits, read_on, well_written, value}

-- what is known of a test by its result
pub cond_ok : (b : Bool) (n d : ℕ) → ◌≡◌ {A = Result ℕ Refusal} (Ok d) (cond b (Ok n) (Err Values)) → (b ≡ true) × (d ≡ n)
cond_ok true n d e = (refl, cc)
cond_ok false n d e = let z : ◌≡◌ {A = ℕ} 0 1 = cc in absurd (omega arith)

pub cond_err : (b : Bool) (n : ℕ) (f : Refusal) → ◌≡◌ {A = Result ℕ Refusal} (Err f) (cond b (Ok n) (Err Values)) → (b ≡ false) × (f ≡ Values)
cond_err true n f e = let z : ◌≡◌ {A = ℕ} 0 1 = cc in absurd (omega arith)
cond_err false n f e = (refl, cc)

-- when a field is refused before its digits are read
pub value_empty : value [] ≡ None
unfolding value
value_empty = refl

pub value_long : (b : ℕ) (bs : List ℕ) → 4 < length bs → value (b ∷ bs) ≡ None
unfolding value
value_long b bs h = let t : well_written (b ∷ bs) ≡ false = grind (arith, nat_tests) in rw t

pub value_padded : (b : ℕ) (bs : List ℕ) → b ≡ 48 → 0 < length bs → value (b ∷ bs) ≡ None
unfolding value
value_padded b bs e h = let t : well_written (b ∷ bs) ≡ false = grind (arith, nat_tests) in rw t

-- and else
pub value_read : (b : ℕ) (bs : List ℕ) → length bs ≤ 4 → (b ≡ 48 → length bs ≡ 0) → value (b ∷ bs) ≡ cond (is_digit b && all_digits bs) (Some (read_on (b - 48) bs)) None
unfolding value
value_read b bs h alone =
    let t : well_written (b ∷ bs) ≡ (is_digit b && all_digits bs) = grind (arith, nat_tests) in
    rw (t, zero-add)

-- the same with the field taken apart as the code does
abbrev pub rest_of : List ℕ → List ℕ
rest_of xs = take (length xs - 1) (drop 1 xs)

pub field_empty : (xs : List ℕ) → length xs < 1 → value xs ≡ None
field_empty [] h = value_empty
field_empty (x ∷ xs) h = absurd (omega arith)

pub field_refused : (xs : List ℕ) → 0 < length xs → (4 < length (rest_of xs)) ⊎ ((get_or xs 0 0 ≡ 48) × (0 < length (rest_of xs))) → value xs ≡ None
field_refused xs h (inl long) = ap value (first_rest xs 0 h) ∙ value_long _ _ long
field_refused xs h (inr padded) = ap value (first_rest xs 0 h) ∙ value_padded _ _ padded.0 padded.1

pub field_read :
    (xs : List ℕ) → 0 < length xs → length (rest_of xs) ≤ 4 → (((get_or xs 0 0 ≡ 48) × (length (rest_of xs) ≤ 0)) ⊎ (get_or xs 0 0 ≡ 48 → ⊥)) →
    value xs ≡ cond (is_digit (get_or xs 0 0) && all_digits (rest_of xs)) (Some (read_on (get_or xs 0 0 - 48) (rest_of xs))) None
field_read xs h short (inl alone) = ap value (first_rest xs 0 h) ∙ value_read _ _ short (λ _. omega arith)
field_read xs h short (inr other) = ap value (first_rest xs 0 h) ∙ value_read _ _ short (λ e. absurd (other e))

pub ok_or_cond : (b : Bool) (n : ℕ) → ok_or (cond b (Some n) None) Values ≡ cond b (Ok n) (Err Values)
ok_or_cond true n = refl
ok_or_cond false n = refl
