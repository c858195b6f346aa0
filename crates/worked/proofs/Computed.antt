-- The worked examples, by computation.
use Rattle.std.proofs.Common.{◌≡◌, ℕ, List, [], ◌∷◌, ◌++◌, refl, subst, append_assoc, append-nil}
use Rattle.mesh.specs.declared.Refusal.{Refusal}
use Rattle.mesh.specs.declared.Refusal.TheVariants.{Extent, Height, TooShort, Unsound, Outside, Occupied, Full, NotInterior, PinState, NotConvex}
use Rattle.mesh.specs.Geometry.{orientation}
use Rattle.mesh.specs.Meshes.{next, previous, interior, owner}
use Rattle.mesh.specs.Sound.{is_sound, is_occupied}
use Rattle.mesh.specs.Edits.{moved, laid, added, split_face, split_edge}
use Rattle.mesh.specs.Edits as edits
use Rattle.editing.specs.Flips.{convex, turned, flipped, pinned}
use Rattle.mesh.specs.Refusals.{number}
use Rattle.cost.specs.Costs.{fold, total, face_sum, edge_sum, weight, face_owns, face_height, misfit_at}
use Rattle.worklist.specs.Orders.{fifo, Puts, Refilled}
use Rattle.job.specs.declared.Call.{Call}
use Rattle.job.specs.declared.Call.TheVariants.{Lay, Add, Flip, Unpin}
use Rattle.job.specs.declared.Answer.{Answer}
use Rattle.job.specs.declared.Answer.TheVariants.{Refused, Laid, Added, Flipped, Unpinned}
use Rattle.job.specs.Rule.{State, Decided, Rule, faults, refusal}
use Rattle.job.proofs.Only.{rule_only, fifo_functional}
use Rattle.worked.specs.Worked.{Worked, Exactly, Refuses, at, plan, blank, square, square_pinned, dotted, crossed, halved, halved_pinned}

-- first in, first out: what is put waits in that order
fifo_puts : (ks xs : List ℕ) → Puts fifo xs ks (xs ++ ks)
fifo_puts [] xs = append-nil xs
fifo_puts (k ∷ ks) xs = (
  xs ++ (k ∷ []),
  refl,
  subst (λ (v : List ℕ). Puts fifo (xs ++ (k ∷ [])) ks v) (append_assoc xs (k ∷ []) ks) (fifo_puts ks (xs ++ (k ∷ []))),
)

fifo_refilled : (ks : List ℕ) → Refilled fifo ks ks
fifo_refilled ks = fifo_puts ks []

exactly : (s : State) (c : Call) (a : Answer) (s' : State) → Decided (refusal s.mesh c) fold fifo 2 s c a s' → Exactly s c a s'
exactly s c a s' d =
    let r : Rule fold fifo 2 s c a s' = record { decided = d } in
    record { allowed = r; alone = λ b t q. rule_only fold fifo fifo_functional 2 s c b a t s' q r }

refuses : (s : State) (c : Call) (r : Refusal) → Decided (refusal s.mesh c) fold fifo 2 s c (Refused r) s → Refuses s c (number r)
refuses s c r d = (r, refl, exactly s c (Refused r) s d)

-- the definitions that the examples compute with
unfoldable everything : ℕ
unfolding orientation next previous interior owner is_sound is_occupied moved laid added edits.crossed split_face split_edge convex turned flipped pinned total face_sum edge_sum weight face_owns face_height misfit_at faults refusal
everything = 0

lays : Exactly blank (Lay (plan 4 4)) (Laid 64) square
unfolding everything
lays = exactly _ _ _ _ (refl, (refl, fifo_refilled (2 ∷ [])))

adds : Exactly square (Add (at 1 2 3)) (Added 4) dotted
unfolding everything
adds = exactly _ _ _ _ (refl, (refl, fifo_refilled (2 ∷ 4 ∷ 5 ∷ 7 ∷ [])))

adds_on_edge : Exactly square (Add (at 2 2 0)) (Added 4) halved
unfolding everything
adds_on_edge = exactly _ _ _ _ (refl, (refl, fifo_refilled (0 ∷ 2 ∷ 3 ∷ 4 ∷ [])))

flips : Exactly dotted (Flip 2) (Flipped 144 96) crossed
unfolding everything
flips = exactly _ _ _ _ (refl, (refl, fifo_refilled (1 ∷ 2 ∷ 4 ∷ 7 ∷ [])))

unpins : Exactly square_pinned (Unpin 3) (Unpinned 2) square
unfolding everything
unpins = exactly _ _ _ _ (refl, (refl, fifo_refilled (2 ∷ [])))

adds_on_pinned_edge : Exactly square_pinned (Add (at 2 2 0)) (Added 4) halved_pinned
unfolding everything
adds_on_pinned_edge = exactly _ _ _ _ (refl, (refl, fifo_refilled (0 ∷ 2 ∷ 3 ∷ 4 ∷ [])))

pub square_cost : 64 ≡ total fold square.mesh
unfolding everything
square_cost = refl

pub worked : Worked
unfolding everything
worked = record {
  lays = lays;
  lay_narrow = refuses _ _ Extent (Extent, refl, refl, refl);
  lay_widest = refl;
  lay_too_wide = refuses _ _ Extent (Extent, refl, refl, refl);
  lay_too_high = refuses _ _ Height (Height, refl, refl, refl);
  lay_too_short = refuses _ _ TooShort (TooShort, refl, refl, refl);
  middle = refl;
  northwest = refl;
  east_border = refl;
  adds = adds;
  faces_after_add = refl;
  adds_on_edge = adds_on_edge;
  faces_after_add_on_edge = refl;
  add_unsound = refuses _ _ Unsound (Unsound, refl, refl, refl);
  add_too_high = refuses _ _ Height (Height, refl, refl, refl);
  add_on_border = refuses _ _ Outside (Outside, refl, refl, refl);
  add_again = refuses _ _ Occupied (Occupied, refl, refl, refl);
  add_sixth = refuses _ _ Full (Full, refl, refl, refl);
  flips = flips;
  faces_after_flip = refl;
  flip_on_border = refuses _ _ NotInterior (NotInterior, refl, refl, refl);
  flip_not_in_use = refuses _ _ NotInterior (NotInterior, refl, refl, refl);
  flip_not_convex = refuses _ _ NotConvex (NotConvex, refl, refl, refl);
  flip_unsound = refuses _ _ Unsound (Unsound, refl, refl, refl);
  pins = exactly _ _ _ _ (refl, refl);
  pins_by_twin = exactly _ _ _ _ (refl, refl);
  pin_pinned = refuses _ _ PinState (PinState, refl, refl, refl);
  flip_pinned = refuses _ _ PinState (PinState, refl, refl, refl);
  unpins = unpins;
  unpin_free = refuses _ _ PinState (PinState, refl, refl, refl);
  adds_on_pinned_edge = adds_on_pinned_edge;
  pinned_after_add = refl;
  misfit_owned = refl;
  misfit_not_owned = refl;
  misfit_rounded = refl;
}
