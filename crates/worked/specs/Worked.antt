-- Worked examples: a 4 by 4 rectangle, with fold, first in first out and lookahead 2.
use Rattle.std.specs.Prelude.{◌≡◌, ℕ, List, [], ◌∷◌, map, replicate, None, nat_eq}
use Rattle.arith.specs.Ranges.{upto, select}
use Rattle.mesh.specs.declared.Point.{Point}
use Rattle.mesh.specs.declared.Vertex.{Vertex}
use Rattle.mesh.specs.declared.Plan.{Plan}
use Rattle.mesh.specs.declared.Refusal.{Refusal}
use Rattle.mesh.specs.Geometry.{point}
use Rattle.mesh.specs.Meshes.{Mesh, used, faces, half, face_owns, no_vertex, no_half_edge, no_twin}
use Rattle.mesh.specs.Edits.{half_edge, laid}
use Rattle.mesh.specs.Refusals.{number}
use Rattle.cost.specs.declared.misfit.Reading.{Reading}
use Rattle.cost.specs.Costs.{fold, misfit, face_cost}
use Rattle.worklist.specs.Orders.{fifo}
use Rattle.job.specs.declared.Call.{Call}
use Rattle.job.specs.declared.Call.TheVariants.{Lay, Add, Flip, Pin, Unpin}
use Rattle.job.specs.declared.Answer.{Answer}
use Rattle.job.specs.declared.Answer.TheVariants.{Refused, Laid, Added, Flipped, Pinned, Unpinned}
use Rattle.job.specs.Rule.{State, state, Rule, refusal}

-- ---- what the examples speak of

-- the faces that own a point
abbrev pub owners : Mesh → Point → List ℕ
owners m w = select (face_owns m w) (faces m)

-- the corners of all faces, in order
abbrev pub origins : Mesh → List ℕ
origins m = map (λ s. (half m s).origin) (upto (used m))

abbrev pub at : ℕ → ℕ → ℕ → Vertex
at e n h = record { east = e; north = n; height = h }

abbrev pub reading : ℕ → ℕ → ℕ → Reading
reading e n h = record { east = e; north = n; height = h }

-- a rectangle w wide and 4 deep, with height h at its northwest corner and 0 at the others
abbrev pub plan : ℕ → ℕ → Plan
plan w h = record { width = w; depth = 4; sw = 0; se = 0; ne = 0; nw = h }

-- the rule allows this answer and this state, and no other
pub record Exactly (s : State) (c : Call) (a : Answer) (s' : State) : Type 0 where
  pub allowed : Rule fold fifo 2 s c a s'
  pub alone : (b : Answer) (t : State) → Rule fold fifo 2 s c b t → (b ≡ a) × (t ≡ s')

-- the call is refused by number n
abbrev pub Refuses : State → Call → ℕ → Type 0
Refuses s c n = (r : Refusal) × (number r ≡ n) × Exactly s c (Refused r) s

-- ---- the states

-- memory with room for v vertices and h half-edges, all zero
abbrev pub zeros : ℕ → ℕ → State
zeros v h = state (record { width = 0; depth = 0; count = 0 }) (replicate v no_vertex) (replicate h no_half_edge) []

-- room for five vertices
abbrev pub blank : State
blank = zeros 5 12

-- the rectangle laid, with its northwest corner at height 4
abbrev pub square : State
square =
    state (record { width = 4; depth = 4; count = 4 })
    (at 0 0 0 ∷ at 4 0 0 ∷ at 4 4 0 ∷ at 0 4 4 ∷ no_vertex ∷ [])
    (half_edge 0 no_twin 0
    ∷ half_edge 1 no_twin 0
    ∷ half_edge 2 3 0
    ∷ half_edge 0 2 0
    ∷ half_edge 2 no_twin 0
    ∷ half_edge 3 no_twin 0
    ∷ replicate 6 no_half_edge)
    (2 ∷ [])

-- the same with its diagonal pinned
abbrev pub square_pinned : State
square_pinned =
    state (record { width = 4; depth = 4; count = 4 })
    (at 0 0 0 ∷ at 4 0 0 ∷ at 4 4 0 ∷ at 0 4 4 ∷ no_vertex ∷ [])
    (half_edge 0 no_twin 0
    ∷ half_edge 1 no_twin 0
    ∷ half_edge 2 3 1
    ∷ half_edge 0 2 1
    ∷ half_edge 2 no_twin 0
    ∷ half_edge 3 no_twin 0
    ∷ replicate 6 no_half_edge)
    (2 ∷ [])

-- then with a vertex at (1, 2) of height 3
abbrev pub dotted : State
dotted =
    state (record { width = 4; depth = 4; count = 5 })
    (at 0 0 0 ∷ at 4 0 0 ∷ at 4 4 0 ∷ at 0 4 4 ∷ at 1 2 3 ∷ [])
    (half_edge 0 no_twin 0
    ∷ half_edge 1 no_twin 0
    ∷ half_edge 2 3 0
    ∷ half_edge 0 2 0
    ∷ half_edge 2 8 0
    ∷ half_edge 4 10 0
    ∷ half_edge 2 no_twin 0
    ∷ half_edge 3 11 0
    ∷ half_edge 4 4 0
    ∷ half_edge 3 no_twin 0
    ∷ half_edge 0 5 0
    ∷ half_edge 4 7 0
    ∷ [])
    (2 ∷ 4 ∷ 5 ∷ 7 ∷ [])

-- then with half-edge 2 flipped
abbrev pub crossed : State
crossed =
    state (record { width = 4; depth = 4; count = 5 })
    (at 0 0 0 ∷ at 4 0 0 ∷ at 4 4 0 ∷ at 0 4 4 ∷ at 1 2 3 ∷ [])
    (half_edge 1 no_twin 0
    ∷ half_edge 2 8 0
    ∷ half_edge 4 3 0
    ∷ half_edge 1 2 0
    ∷ half_edge 4 10 0
    ∷ half_edge 0 no_twin 0
    ∷ half_edge 2 no_twin 0
    ∷ half_edge 3 11 0
    ∷ half_edge 4 1 0
    ∷ half_edge 3 no_twin 0
    ∷ half_edge 0 4 0
    ∷ half_edge 4 7 0
    ∷ [])
    (1 ∷ 2 ∷ 4 ∷ 7 ∷ [])

-- or with a vertex at (2, 2) of height 0, on the diagonal
abbrev pub halved : State
halved =
    state (record { width = 4; depth = 4; count = 5 })
    (at 0 0 0 ∷ at 4 0 0 ∷ at 4 4 0 ∷ at 0 4 4 ∷ at 2 2 0 ∷ [])
    (half_edge 4 8 0
    ∷ half_edge 1 no_twin 0
    ∷ half_edge 2 9 0
    ∷ half_edge 0 6 0
    ∷ half_edge 4 11 0
    ∷ half_edge 3 no_twin 0
    ∷ half_edge 4 3 0
    ∷ half_edge 0 no_twin 0
    ∷ half_edge 1 0 0
    ∷ half_edge 4 2 0
    ∷ half_edge 2 no_twin 0
    ∷ half_edge 3 4 0
    ∷ [])
    (0 ∷ 2 ∷ 3 ∷ 4 ∷ [])

-- and that with the diagonal pinned
abbrev pub halved_pinned : State
halved_pinned =
    state (record { width = 4; depth = 4; count = 5 })
    (at 0 0 0 ∷ at 4 0 0 ∷ at 4 4 0 ∷ at 0 4 4 ∷ at 2 2 0 ∷ [])
    (half_edge 4 8 0
    ∷ half_edge 1 no_twin 0
    ∷ half_edge 2 9 1
    ∷ half_edge 0 6 1
    ∷ half_edge 4 11 0
    ∷ half_edge 3 no_twin 0
    ∷ half_edge 4 3 1
    ∷ half_edge 0 no_twin 0
    ∷ half_edge 1 0 0
    ∷ half_edge 4 2 1
    ∷ half_edge 2 no_twin 0
    ∷ half_edge 3 4 0
    ∷ [])
    (0 ∷ 2 ∷ 3 ∷ 4 ∷ [])

-- ---- the examples

pub record Worked : Type 0 where
  -- lay
  pub lays : Exactly blank (Lay (plan 4 4)) (Laid 64) square
  pub lay_narrow : Refuses blank (Lay (plan 1 4)) 1
  pub lay_widest : refusal blank.mesh (Lay (plan 32767 4)) ≡ None
  pub lay_too_wide : Refuses blank (Lay (plan 32768 4)) 1
  pub lay_too_high : Refuses blank (Lay (plan 4 32768)) 2
  pub lay_too_short : Refuses (zeros 3 12) (Lay (plan 4 4)) 3
  -- who owns a point
  pub middle : owners square.mesh (point 2 2) ≡ 0 ∷ []
  pub northwest : owners square.mesh (point 0 4) ≡ 1 ∷ []
  pub east_border : owners square.mesh (point 4 2) ≡ []
  -- add in a face
  pub adds : Exactly square (Add (at 1 2 3)) (Added 4) dotted
  pub faces_after_add : origins dotted.mesh ≡ 0 ∷ 1 ∷ 2 ∷ 0 ∷ 2 ∷ 4 ∷ 2 ∷ 3 ∷ 4 ∷ 3 ∷ 0 ∷ 4 ∷ []
  -- add on an edge
  pub adds_on_edge : Exactly square (Add (at 2 2 0)) (Added 4) halved
  pub faces_after_add_on_edge : origins halved.mesh ≡ 4 ∷ 1 ∷ 2 ∷ 0 ∷ 4 ∷ 3 ∷ 4 ∷ 0 ∷ 1 ∷ 4 ∷ 2 ∷ 3 ∷ []
  -- adds that are refused
  pub add_unsound : Refuses blank (Add (at 1 2 3)) 4
  pub add_too_high : Refuses square (Add (at 2 2 32768)) 2
  pub add_on_border : Refuses square (Add (at 4 2 0)) 5
  pub add_again : Refuses dotted (Add (at 1 2 3)) 6
  pub add_sixth : Refuses dotted (Add (at 3 3 0)) 7
  -- flip
  pub flips : Exactly dotted (Flip 2) (Flipped 144 96) crossed
  pub faces_after_flip : origins crossed.mesh ≡ 1 ∷ 2 ∷ 4 ∷ 1 ∷ 4 ∷ 0 ∷ 2 ∷ 3 ∷ 4 ∷ 3 ∷ 0 ∷ 4 ∷ []
  pub flip_on_border : Refuses dotted (Flip 0) 9
  pub flip_not_in_use : Refuses dotted (Flip 12) 9
  pub flip_not_convex : Refuses dotted (Flip 4) 11
  pub flip_unsound : Refuses blank (Flip 2) 4
  -- pin and unpin
  pub pins : Exactly square (Pin 2) (Pinned 2) square_pinned
  pub pins_by_twin : Exactly square (Pin 3) (Pinned 2) square_pinned
  pub pin_pinned : Refuses square_pinned (Pin 3) 10
  pub flip_pinned : Refuses square_pinned (Flip 2) 10
  pub unpins : Exactly square_pinned (Unpin 3) (Unpinned 2) square
  pub unpin_free : Refuses square (Unpin 2) 10
  pub adds_on_pinned_edge : Exactly square_pinned (Add (at 2 2 0)) (Added 4) halved_pinned
  pub pinned_after_add : select (λ s. nat_eq (half halved_pinned.mesh s).pin 1) 12 ≡ 2 ∷ 3 ∷ 6 ∷ 9 ∷ []
  -- what a reading costs the face that owns it, and what it costs the other
  pub misfit_owned : face_cost (misfit (reading 1 1 5 ∷ [])) square.mesh 0 ≡ 25
  pub misfit_not_owned : face_cost (misfit (reading 1 1 5 ∷ [])) square.mesh 1 ≡ 0
  -- with the northwest corner at height 3 the face lies 3/4 high there, which is rounded down
  pub misfit_rounded : face_cost (misfit (reading 0 1 2 ∷ [])) (laid blank.mesh (plan 4 3)) 1 ≡ 4
