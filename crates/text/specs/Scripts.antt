-- What a file asks for.
use Rattle.std.specs.Prelude.{ℕ, suc, cond, List, [], ◌∷◌, Some, None, Ok, Err, Option, Result}
use Rattle.std.specs.Str.{bytes_eq}
use Rattle.job.specs.declared.Call.{Call}
use Rattle.job.specs.declared.Call.TheVariants.{Lay, Add}
use Rattle.mesh.specs.declared.Refusal.{Refusal}
use Rattle.mesh.specs.declared.Refusal.TheVariants.{Names, Values}
use Rattle.text.specs.declared.Fault.{Fault}
use Rattle.text.specs.declared.LineFault.{LineFault}
use Rattle.text.specs.declared.names.Columns.{Columns}
use Rattle.text.specs.Lines.{plan_names, columns, plan, vertex}
use Rattle.text.specs.Pieces.{pieces}

-- the calls in order, and the fault that ends the file, if it has one;
-- the lay stands on line 2, and the i-th add, from 1, on line i + 3
pub record Script : Type 0 where
  pub calls : List Call
  pub ending : Option Fault

-- ---- parts of a script

-- the file is read to its end
abbrev pub ends : Script
ends = record { calls = []; ending = None }

-- the file ends with a fault
abbrev pub halts : Fault → Script
halts f = record { calls = []; ending = Some f }

abbrev pub stops : ℕ → ℕ → Refusal → Script
stops line field refusal = halts (record { line = line; field = field; refusal = refusal })

abbrev pub asks : Call → Script → Script
asks a s = record { calls = a ∷ s.calls; ending = s.ending }

-- the call that a value line makes, and then the rest
abbrev pub asked : {A : Type 0} → (A → Call) → ℕ → Result A LineFault → Script → Script
asked ask line (Ok x) rest = asks (ask x) rest
asked ask line (Err fault) rest = stops line fault.field fault.refusal

-- ---- line by line: the last piece of a text is what stands after its last line end

abbrev pub left_over : ℕ → List ℕ → Script
left_over line [] = ends
left_over line (b ∷ bs) = stops line 0 Values

abbrev pub from_vertices : Columns → ℕ → List (List ℕ) → Script
from_vertices order line [] = ends
from_vertices order line (last ∷ []) = left_over line last
from_vertices order line (one ∷ (two ∷ more)) = asked Add line (vertex order one) (from_vertices order (suc line) (two ∷ more))

abbrev pub by_columns : Option Columns → List (List ℕ) → Script
by_columns None more = stops 3 0 Names
by_columns (Some order) more = from_vertices order 4 more

abbrev pub from_columns : List (List ℕ) → Script
from_columns [] = stops 3 0 Names
from_columns (last ∷ []) = stops 3 0 Names
from_columns (one ∷ (two ∷ more)) = by_columns (columns one) (two ∷ more)

abbrev pub from_plan : List (List ℕ) → Script
from_plan [] = stops 2 0 Values
from_plan (last ∷ []) = stops 2 0 Values
from_plan (one ∷ (two ∷ more)) = asked Lay 2 (plan one) (from_columns (two ∷ more))

abbrev pub from_names : List (List ℕ) → Script
from_names [] = stops 1 0 Names
from_names (last ∷ []) = stops 1 0 Names
from_names (one ∷ (two ∷ more)) = cond (bytes_eq one plan_names) (from_plan (two ∷ more)) (stops 1 0 Names)

unfoldable pub script : List ℕ → Script
script bytes = from_names (pieces 10 bytes)
