-- What a load answers and leaves: the calls of the script, one after the other, up to the first refusal.
use Rattle.std.specs.Prelude.{◌≡◌, ℕ, zero, suc, ◌+◌, ◌-◌, List, [], ◌∷◌, take, replicate, Some, None, Ok, Err, Option, Result}
use Rattle.std.specs.Result.{result_map_both}
use Rattle.mesh.specs.declared.Refusal.{Refusal}
use Rattle.cost.specs.Costs.{Parts}
use Rattle.worklist.specs.Orders.{Order}
use Rattle.job.specs.declared.Call.{Call}
use Rattle.job.specs.declared.Answer.{Answer}
use Rattle.job.specs.declared.Answer.TheVariants.{Refused, Laid, Added, Flipped, Pinned, Unpinned}
use Rattle.job.specs.Rule.{State, state, Rule}
use Rattle.text.specs.declared.Fault.{Fault}
use Rattle.mesh.specs.Meshes.{Mesh, no_vertex, no_half_edge}
use Rattle.text.specs.Printing.{fault_text, printed, buffer_after, reported, buffer_reported}
use Rattle.text.specs.Scripts.{Script, script}

abbrev pub fault : ℕ → ℕ → Refusal → Fault
fault line field refusal = record { line = line; field = field; refusal = refusal }

-- the line of the call that follows n calls: line 2 for the lay, line n + 3 for the n-th add
abbrev pub line_of : ℕ → ℕ
line_of zero = 2
line_of (suc n) = n + 4

-- what holds of a refused call, and of a taken one
abbrev pub Either : Answer → (Refusal → Type 0) → Type 0 → Type 0
Either (Refused r) P Q = P r
Either (Laid cost) P Q = Q
Either (Added number) P Q = Q
Either (Flipped before after) P Q = Q
Either (Pinned number) P Q = Q
Either (Unpinned number) P Q = Q

-- from s, after n calls, with these calls to go and this ending
abbrev pub Carried : Parts → Order → ℕ → State → ℕ → List Call → Option Fault → Result ℕ Fault → State → Type 0
Carried K Q lookahead s n [] None r s' = (r ≡ Ok (n - 1)) × (s' ≡ s)
Carried K Q lookahead s n [] (Some f) r s' = (r ≡ Err f) × (s' ≡ s)
Carried K Q lookahead s n (c ∷ cs) ending r s' =
    (a : Answer) × (t : State) × Rule K Q lookahead s c a t
    × Either a (λ e. (r ≡ Err (fault (line_of n) 0 e)) × (s' ≡ t)) (Carried K Q lookahead t (suc n) cs ending r s')

-- from s, after n calls, with this script to go; the answer is the number of vertices added
pub record Loads (K : Parts) (Q : Order) (lookahead : ℕ) (s : State) (n : ℕ) (todo : Script) (r : Result ℕ Fault) (s' : State) : Type 0 where
  pub carried : Carried K Q lookahead s n todo.calls todo.ending r s'

-- ---- a load and what is told of it

-- after the load's answer r, with the mesh m, a text is put into the buffer: the report of the mesh, or that of the fault
abbrev pub Told : Result ℕ Fault → Mesh → List ℕ → Result ℕ Refusal → List ℕ → Type 0
Told (Ok added) m before a after = (a ≡ reported m before) × (after ≡ buffer_reported m before)
Told (Err f) m before a after = (a ≡ printed (fault_text f) before) × (after ≡ buffer_after (fault_text f) before)

-- a spot file is loaded from s, and the outcome told in the buffer
pub record Drapes (K : Parts) (Q : Order) (lookahead : ℕ) (s : State) (text before : List ℕ) (a : Result ℕ Refusal) (after : List ℕ) (s' : State) : Type 0 where
  pub answer : Result ℕ Fault
  pub loads : Loads K Q lookahead s 0 (script text) answer s'
  pub told : Told answer s'.mesh before a after

-- memory with nothing in it, and nothing that waits
abbrev pub blank : State
blank = state (record { width = 0; depth = 0; count = 0 }) (replicate 1024 no_vertex) (replicate 6126 no_half_edge) []

-- what is told of a spot file that is loaded from blank memory: the text, or why there is none
pub record Draped (K : Parts) (Q : Order) (lookahead : ℕ) (text : List ℕ) (told : Result (List ℕ) Refusal) : Type 0 where
  pub answer : Result ℕ Refusal
  pub after : List ℕ
  pub left : State
  pub drapes : Drapes K Q lookahead blank text (replicate 32768 0) answer after left
  pub is : told ≡ result_map_both (λ n. take n after) (λ e. e) answer
