-- Small files and what they ask for.
use Rattle.std.proofs.Common.{◌≡◌, ℕ, List, [], ◌∷◌, ◌++◌, Some, None, Ok, Err, codes, refl}
use Rattle.std.specs.Fmt.{digits}
use Rattle.job.specs.declared.Call.TheVariants.{Lay, Add}
use Rattle.mesh.specs.Edits.{half_edge}
use Rattle.mesh.specs.Meshes.{mesh}
use Rattle.mesh.specs.declared.Refusal.TheVariants.{Names, Values, Buffer}
use Rattle.text.specs.Lines.{plan_names, columns, plan, vertex, east_north_height}
use Rattle.text.specs.Pieces.{pieces}
use Rattle.text.specs.Printing.{faces_text, fault_text, printed, buffer_after}
use Rattle.text.specs.Scripts.{Script, ends, stops, asks, script}
use Rattle.text.specs.Values.{value, values, bad_field}

-- ---- fields

pieces_example : pieces 32 (codes " a  b") ≡ codes "" ∷ (codes "a" ∷ (codes "" ∷ (codes "b" ∷ [])))
unfolding pieces
pieces_example = refl

zero_alone : value (codes "0") ≡ Some 0
unfolding value
zero_alone = refl

zero_first : value (codes "05") ≡ None
unfolding value
zero_first = refl

largest : value (codes "99999") ≡ Some 99999
unfolding value
largest = refl

six_digits : value (codes "100000") ≡ None
unfolding value
six_digits = refl

no_digits : value (codes "") ≡ None
unfolding value
no_digits = refl

-- the count goes before a bad value, and the first bad value before the next
too_many : values 3 (codes "1 x 3 4") ≡ Err (bad_field 0)
unfolding values value pieces
too_many = refl

first_bad : values 3 (codes "1 x y") ≡ Err (bad_field 2)
unfolding values value pieces
first_bad = refl

-- ---- files

lines : List (List ℕ) → List ℕ
lines [] = []
lines (l ∷ ls) = l ++ (10 ∷ lines ls)

laid : Script → Script
laid rest = asks (Lay (record { width = 9; depth = 8; sw = 1; se = 2; ne = 3; nw = 4 })) rest

values_line : List ℕ
values_line = codes "9 8 1 2 3 4"

-- the columns may stand in any order
two_adds :
    script (lines (plan_names ∷ (values_line ∷ (codes "height east north" ∷ (codes "5 6 7" ∷ (codes "0 1 2" ∷ []))))))
    ≡ laid (asks (Add (east_north_height 6 7 5)) (asks (Add (east_north_height 1 2 0)) ends))
unfolding script values value pieces columns plan vertex lines laid values_line
two_adds = refl

no_adds : script (lines (plan_names ∷ (values_line ∷ (codes "east north height" ∷ [])))) ≡ laid ends
unfolding script values value pieces columns plan vertex lines laid values_line
no_adds = refl

empty_file : script [] ≡ stops 1 0 Names
unfolding script pieces
empty_file = refl

only_names : script (lines (plan_names ∷ [])) ≡ stops 2 0 Values
unfolding script values value pieces columns plan lines
only_names = refl

bad_plan : script (lines (plan_names ∷ (codes "9 8 1 2 03 4" ∷ []))) ≡ stops 2 5 Values
unfolding script values value pieces columns plan lines
bad_plan = refl

-- the lay is made before line 3 is read
no_columns : script (lines (plan_names ∷ (values_line ∷ []))) ≡ laid (stops 3 0 Names)
unfolding script values value pieces columns plan lines laid values_line
no_columns = refl

unended : script (lines (plan_names ∷ (values_line ∷ (codes "east north height" ∷ (codes "5 6 7" ∷ [])))) ++ codes "5 6 7") ≡ laid (asks (Add (east_north_height 5 6 7)) (stops 5 0 Values))
unfolding script values value pieces columns plan vertex lines laid values_line
unended = refl

empty_line : script (lines (plan_names ∷ (values_line ∷ (codes "east north height" ∷ ([] ∷ []))))) ≡ laid (stops 4 0 Values)
unfolding script values value pieces columns plan vertex lines laid values_line
empty_line = refl

-- ---- prints

fault_example : fault_text (record { line = 12; field = 3; refusal = Values }) ≡ lines (codes "line field number" ∷ (codes "12 3 13" ∷ []))
unfolding fault_text digits lines
fault_example = refl

-- the two faces of a rectangle
faces_example :
    faces_text (mesh (record { width = 9; depth = 8; count = 4 }) []
    (half_edge 0 65535 0 ∷ (half_edge 1 65535 0 ∷ (half_edge 2 3 0 ∷ (half_edge 0 2 0 ∷ (half_edge 2 65535 0 ∷ (half_edge 3 65535 0 ∷ [])))))))
    ≡ lines (codes "a b c" ∷ (codes "0 1 2" ∷ (codes "0 2 3" ∷ [])))
unfolding faces_text digits lines
faces_example = refl

print_example : printed (codes "ab") (codes "xyz") ≡ Ok 2
unfolding printed
print_example = refl

print_kept : buffer_after (codes "ab") (codes "xyz") ≡ codes "abz"
unfolding buffer_after
print_kept = refl

print_short : printed (codes "abcd") (codes "xyz") ≡ Err Buffer
unfolding printed
print_short = refl
