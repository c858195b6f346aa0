-- The calls as one relation: what each answers and leaves, for every memory and every worklist.
use Rattle.std.specs.Prelude.{◌≡◌, ℕ, ◌+◌, Bool, cond, not, ◌&&◌, ◌||◌, List, [], ◌∷◌, ◌++◌, length, is_some, Some, None, Ok, Err, Option, Result, nat_le, nat_lt}
use Rattle.mesh.specs.declared.Header.{Header}
use Rattle.mesh.specs.declared.Vertex.{Vertex}
use Rattle.mesh.specs.declared.HalfEdge.{HalfEdge}
use Rattle.mesh.specs.declared.Plan.{Plan}
use Rattle.mesh.specs.declared.Refusal.{Refusal}
use Rattle.mesh.specs.declared.Refusal.TheVariants.{Unsound}
use Rattle.mesh.specs.Geometry.{place}
use Rattle.mesh.specs.Meshes.{Mesh, mesh, used, half, interior, owner}
use Rattle.mesh.specs.Sound.{Sound, is_sound, extent_fits, strictly_inside, is_occupied}
use Rattle.mesh.specs.Edits.{laid, added}
use Rattle.editing.specs.Flips.{is_interior, edge_number, is_free, convex, flipped, pinned}
use Rattle.mesh.specs.Refusals.{number}
use Rattle.cost.specs.Costs.{Parts, face_sum, edge_sum, total}
use Rattle.worklist.specs.Orders.{Order, Refilled}
use Rattle.job.specs.declared.Call.{Call}
use Rattle.job.specs.declared.Call.TheVariants.{Lay, Add, Flip, Pin, Unpin}
use Rattle.job.specs.declared.Answer.{Answer}
use Rattle.job.specs.declared.Answer.TheVariants.{Refused, Laid, Added, Flipped, Pinned, Unpinned}

-- all that a call finds and leaves: the caller's memory and the numbers that wait
pub record State : Type 0 where
  pub mesh : Mesh
  pub waiting : List ℕ

abbrev pub state_of : Mesh → List ℕ → State
state_of m ws = record { mesh = m; waiting = ws }

abbrev pub state : Header → List Vertex → List HalfEdge → List ℕ → State
state h vs hs ws = state_of (mesh h vs hs) ws

-- ---- refusals

abbrev pub heights_fit : Plan → Bool
heights_fit p = nat_le p.sw 32767 && nat_le p.se 32767 && nat_le p.ne 32767 && nat_le p.nw 32767

-- the lists have no place for four vertices or six half-edges
abbrev pub too_short : Mesh → Bool
too_short m = nat_lt (length m.vertices) 4 || nat_lt (length m.half_edges) 6

-- the mesh cannot have one more vertex with its six half-edges
abbrev pub is_full : Mesh → Bool
is_full m = nat_le 1024 m.header.count || nat_le (length m.vertices) m.header.count || nat_lt (length m.half_edges) (used m + 6)

-- what speaks against editing the edge of half-edge s by hand
abbrev pub edge_faults : Mesh → ℕ → List (ℕ × Bool)
edge_faults m s = (4, not (is_sound m)) ∷ (9, not (is_interior m s)) ∷ []

-- what speaks against a call, by number, in the order of checking
unfoldable pub faults : Mesh → Call → List (ℕ × Bool)
faults m (Lay p) =
    (1, not (extent_fits p.width p.depth))
    ∷ (2, not (heights_fit p))
    ∷ (3, too_short m)
    ∷ []
faults m (Add w) =
    (4, not (is_sound m))
    ∷ (2, nat_lt 32767 w.height)
    ∷ (5, not (strictly_inside m.header (place w)))
    ∷ (6, is_occupied m (place w))
    ∷ (7, is_full m)
    ∷ (8, not (is_some (owner m (place w))))
    ∷ []
faults m (Flip s) = edge_faults m s ++ ((10, not (is_free (half m s).pin)) ∷ (11, not (convex m s)) ∷ [])
faults m (Pin s) = edge_faults m s ++ ((10, not (is_free (half m s).pin)) ∷ [])
faults m (Unpin s) = edge_faults m s ++ ((10, is_free (half m s).pin) ∷ [])

abbrev pub first_fault : List (ℕ × Bool) → Option ℕ
first_fault [] = None
first_fault (f ∷ fs) = cond f.1 (Some f.0) (first_fault fs)

-- the number of the refusal, or none if the call is taken
unfoldable pub refusal : Mesh → Call → Option ℕ
refusal m c = first_fault (faults m c)

-- ---- the rule

-- a taken call but pin writes m' and refills the worklist
abbrev pub Writes : Order → Mesh → State → Type 0
Writes Q m' s' = (s'.mesh ≡ m') × Refilled Q (interior m') s'.waiting

-- what a taken call answers and leaves
abbrev pub Taken : Parts → Order → ℕ → State → Call → Answer → State → Type 0
Taken K Q lookahead s (Lay p) a s' = (a ≡ Laid (total K (laid s.mesh p))) × Writes Q (laid s.mesh p) s'
Taken K Q lookahead s (Add w) a s' = (a ≡ Added s.mesh.header.count) × Writes Q (added s.mesh w) s'
Taken K Q lookahead s (Flip k) a s' = (a ≡ Flipped (total K s.mesh) (total K (flipped s.mesh k))) × Writes Q (flipped s.mesh k) s'
Taken K Q lookahead s (Pin k) a s' =
    (a ≡ Pinned (edge_number s.mesh k)) × (s' ≡ record { mesh = pinned 1 s.mesh k; waiting = s.waiting })
Taken K Q lookahead s (Unpin k) a s' = (a ≡ Unpinned (edge_number s.mesh k)) × Writes Q (pinned 0 s.mesh k) s'

-- a refused call answers its refusal and changes nothing
abbrev pub RefusedBy : ℕ → State → Answer → State → Type 0
RefusedBy n s a s' = (r : Refusal) × (number r ≡ n) × (a ≡ Refused r) × (s' ≡ s)

abbrev pub Decided : Option ℕ → Parts → Order → ℕ → State → Call → Answer → State → Type 0
Decided (Some n) K Q lookahead s c a s' = RefusedBy n s a s'
Decided None K Q lookahead s c a s' = Taken K Q lookahead s c a s'

-- from s, the call c may answer a and leave s'
pub record Rule (K : Parts) (Q : Order) (lookahead : ℕ) (s : State) (c : Call) (a : Answer) (s' : State) : Type 0 where
  pub decided : Decided (refusal s.mesh c) K Q lookahead s c a s'

-- ---- what follows for soundness

-- a refused call leaves a sound mesh sound, and every taken call leaves a sound mesh
abbrev pub KeepsSound : Mesh → Answer → Mesh → Type 0
KeepsSound m (Refused r) m' = Sound m → Sound m'
KeepsSound m (Laid cost) m' = Sound m'
KeepsSound m (Added number) m' = Sound m'
KeepsSound m (Flipped before after) m' = Sound m'
KeepsSound m (Pinned number) m' = Sound m'
KeepsSound m (Unpinned number) m' = Sound m'

-- ---- how the calls return it

-- what a call returns, as an answer
abbrev pub answered : {X : Type 0} → (X → Answer) → Result X Refusal → Answer
answered answer (Ok x) = answer x
answered answer (Err r) = Refused r

-- what the checks before a call return: its refusal, or what they found if there is none
abbrev pub Checked : {X : Type 0} → Option ℕ → Result X Refusal → (X → Type 0) → Type 0
Checked o (Ok x) Found = (o ≡ None) × Found x
Checked o (Err r) Found = o ≡ Some (number r)

-- what the question for the cost answers: the sum over faces and the sum over interior edges, or that the mesh is unsound
unfoldable pub asked : Parts → Mesh → Result (ℕ × ℕ) Refusal
asked K m = cond (is_sound m) (Ok (face_sum K m, edge_sum K m)) (Err Unsound)
