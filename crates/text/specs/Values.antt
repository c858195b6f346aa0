-- The numbers of a value line.
use Rattle.std.specs.Prelude.{ℕ, suc, ◌+◌, ◌-◌, ◌*◌, Bool, true, cond, not, ◌&&◌, ◌||◌, List, [], ◌∷◌, length, Some, None, Ok, Err, Option, Result, ◌==◌, nat_le, slice_index}
use Rattle.mesh.specs.declared.Refusal.TheVariants.{Values}
use Rattle.text.specs.declared.LineFault.{LineFault}
use Rattle.text.specs.Pieces.{pieces}

abbrev pub is_digit : ℕ → Bool
is_digit b = nat_le 48 b && nat_le b 57

abbrev pub all_digits : List ℕ → Bool
all_digits [] = true
all_digits (b ∷ bs) = is_digit b && all_digits bs

-- the number that digits write after n
abbrev pub read_on : ℕ → List ℕ → ℕ
read_on n [] = n
read_on n (b ∷ bs) = read_on (10 * n + (b - 48)) bs

-- one to five digits, and 0 first only if it stands alone
abbrev pub well_written : List ℕ → Bool
well_written field =
    nat_le 1 (length field) && nat_le (length field) 5
    && all_digits field
    && (length field == 1 || not (slice_index field 0 == 48))

-- the number in a field
unfoldable pub value : List ℕ → Option ℕ
value field = cond (well_written field) (Some (read_on 0 field)) None

abbrev pub bad_field : ℕ → LineFault
bad_field field = record { field = field; refusal = Values }

abbrev pub value_first : ℕ → Option ℕ → Result (List ℕ) LineFault → Result (List ℕ) LineFault
value_first field None rest = Err (bad_field field)
value_first field (Some v) (Ok vs) = Ok (v ∷ vs)
value_first field (Some v) (Err fault) = Err fault

-- the values of fields that are numbered from `field` on, or the first bad one from the left
abbrev pub values_from : ℕ → List (List ℕ) → Result (List ℕ) LineFault
values_from field [] = Ok []
values_from field (f ∷ fs) = value_first field (value f) (values_from (suc field) fs)

-- the values of a line of n fields; a wrong count is a fault of the whole line
unfoldable pub values : ℕ → List ℕ → Result (List ℕ) LineFault
values n line = cond (length (pieces 32 line) == n) (values_from 1 (pieces 32 line)) (Err (bad_field 0))
