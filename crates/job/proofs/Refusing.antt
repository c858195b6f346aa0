-- A call's refusal by what its tests answer, and its rule by its refusal.
use Rattle.std.proofs.Common.{◌≡◌, ℕ, Bool, true, false, cond, not, ltb, List, [], ◌∷◌, ◌++◌, is_some, IsErrAnd, Some, None, Option, Result, sym, refl, ap, ◌∙◌, subst, ap₂, arith}
use Rattle.std.specs.Option.{ok_or}
use Rattle.std.proofs.lemmas.Bool.{both_ways, and_parts, ltb-true, eq-eqb}
use Rattle.std.proofs.lemmas.Result.{err_from_is_err_and}
use Rattle.mesh.specs.declared.Plan.{Plan}
use Rattle.mesh.specs.declared.Vertex.{Vertex}
use Rattle.mesh.specs.declared.HalfEdge.{HalfEdge}
use Rattle.mesh.specs.declared.Refusal.{Refusal}
use Rattle.mesh.specs.declared.Refusal.TheVariants.{Unowned}
use Rattle.mesh.specs.Geometry.{place}
use Rattle.mesh.specs.Meshes.{Mesh, used, half, twin_of, has_twin, interior, owner}
use Rattle.mesh.specs.Sound.{Sound, is_sound, extent_fits, strictly_inside, is_occupied}
use Rattle.mesh.specs.Edits.{laid, added, added_in}
use Rattle.editing.specs.Flips.{is_interior, is_free, convex, edge_number, turned, with_half_edges, flipped, with_pin, pinned}
use Rattle.mesh.specs.Refusals.{number}
use Rattle.cost.specs.Costs.{Parts, total}
use Rattle.worklist.specs.Orders.{Order, Refilled}
use Rattle.job.specs.declared.Call.{Call}
use Rattle.job.specs.declared.Call.TheVariants.{Lay, Add, Flip, Pin, Unpin}
use Rattle.job.specs.declared.Answer.{Answer}
use Rattle.job.specs.declared.Answer.TheVariants.{Refused, Laid, Added, Flipped, Pinned, Unpinned}
use Rattle.job.specs.Checks.{Addable, Editable}
use Rattle.job.specs.Rule.{State, Rule, Decided, Taken, heights_fit, too_short, is_full, edge_faults, faults, refusal, first_fault, Checked}

-- what a test answers where the code asked it of y, which is x
pub asked : {A B : Type 0} (test : A → B) {x y : A} {b c : B} → y ≡ x → b ≡ test y → b ≡ c → test x ≡ c
asked test same answers is = ap test (sym same) ∙ sym answers ∙ is

-- the refusal of a lay, by what its tests answer
pub lay_refusal :
    (m : Mesh) (p : Plan) {x y z : Bool} → extent_fits p.width p.depth ≡ x → heights_fit p ≡ y → too_short m ≡ z →
    refusal m (Lay p) ≡ first_fault ((1, not x) ∷ (2, not y) ∷ (3, z) ∷ [])
unfolding refusal faults
lay_refusal m p e f g = λ i. first_fault ((1, not (e i)) ∷ (2, not (f i)) ∷ (3, g i) ∷ [])

-- the refusal of an add
pub add_refusal :
    (m : Mesh) (w : Vertex) {u v x y z : Bool} {o : Option ℕ} → is_sound m ≡ u → ltb 32767 w.height ≡ v →
    strictly_inside m.header (place w) ≡ x → is_occupied m (place w) ≡ y → is_full m ≡ z → owner m (place w) ≡ o →
    refusal m (Add w) ≡ first_fault ((4, not u) ∷ (2, v) ∷ (5, not x) ∷ (6, y) ∷ (7, z) ∷ (8, not (is_some o)) ∷ [])
unfolding refusal faults
add_refusal m w e f g h j k = λ i. first_fault ((4, not (e i)) ∷ (2, f i) ∷ (5, not (g i)) ∷ (6, h i) ∷ (7, j i) ∷ (8, not (is_some (k i))) ∷ [])

-- what the checks of an add return, once nothing but the want of a face can speak against it
pub add_checked : (m : Mesh) (w : Vertex) (o : Option ℕ) → refusal m (Add w) ≡ first_fault ((8, not (is_some o)) ∷ []) → ((f : ℕ) → o ≡ Some f → Addable m w f) →
    Checked (refusal m (Add w)) (ok_or o Unowned) (Addable m w)
add_checked m w None e found = e
add_checked m w (Some f) e found = (e, found f refl)

-- the refusal of any edit by hand
pub edge_refusal : (m : Mesh) (s : ℕ) {x y : Bool} → is_sound m ≡ x → is_interior m s ≡ y → first_fault (edge_faults m s) ≡ first_fault ((4, not x) ∷ (9, not y) ∷ [])
edge_refusal m s e f = λ i. first_fault ((4, not (e i)) ∷ (9, not (f i)) ∷ [])

pub editable : (m : Mesh) (s : ℕ) → Sound m → is_interior m s ≡ true → Editable m s
editable m s σ e =
    let p = and_parts (ltb s (used m)) (has_twin m s) e in
    record { sound = σ; within = ltb-true _ _ p.0; twinned = λ none. both_ways (has_twin m s) (ap not (eq-eqb _ _ none)) p.1 }

-- the first fault of two lists: of the first, if it has one
fault_first : (fs gs : List (ℕ × Bool)) (n : ℕ) → first_fault fs ≡ Some n → first_fault (fs ++ gs) ≡ Some n
fault_first [] gs n e = let z : ◌≡◌ {A = ℕ} 0 1 = cc in absurd (omega arith)
fault_first (f ∷ fs) gs n e = by f.1 e (fault_first fs gs n)
  where
    by : (b : Bool) → cond b (Some f.0) (first_fault fs) ≡ Some n → (first_fault fs ≡ Some n → first_fault (fs ++ gs) ≡ Some n) →
        cond b (Some f.0) (first_fault (fs ++ gs)) ≡ Some n
    by true h r = h
    by false h r = r h

-- else of the second
fault_rest : (fs gs : List (ℕ × Bool)) → first_fault fs ≡ None → first_fault (fs ++ gs) ≡ first_fault gs
fault_rest [] gs e = refl
fault_rest (f ∷ fs) gs e = by f.1 e (fault_rest fs gs)
  where
    by : (b : Bool) → cond b (Some f.0) (first_fault fs) ≡ None → (first_fault fs ≡ None → first_fault (fs ++ gs) ≡ first_fault gs) →
        cond b (Some f.0) (first_fault (fs ++ gs)) ≡ first_fault gs
    by true h r = let z : ◌≡◌ {A = ℕ} 0 1 = cc in absurd (omega arith)
    by false h r = r h

-- what else speaks against a pin, and against an unpin
abbrev pin_faults : Mesh → ℕ → List (ℕ × Bool)
pin_faults m s = (10, not (is_free (half m s).pin)) ∷ []

abbrev unpin_faults : Mesh → ℕ → List (ℕ × Bool)
unpin_faults m s = (10, is_free (half m s).pin) ∷ []

module _ (m : Mesh) (s n : ℕ) (e : first_fault (edge_faults m s) ≡ Some n) where
  -- an edge that cannot be edited by hand at all
  pub pin_no_edge : refusal m (Pin s) ≡ Some n
  unfolding refusal faults
  pin_no_edge = fault_first (edge_faults m s) (pin_faults m s) n e

  pub unpin_no_edge : refusal m (Unpin s) ≡ Some n
  unfolding refusal faults
  unpin_no_edge = fault_first (edge_faults m s) (unpin_faults m s) n e

module _ (m : Mesh) (s : ℕ) {x : Bool} (e : first_fault (edge_faults m s) ≡ None) (free : is_free (half m s).pin ≡ x) where
  -- an edge that can, by its pin
  pub pin_refusal : refusal m (Pin s) ≡ first_fault ((10, not x) ∷ [])
  unfolding refusal faults
  pin_refusal = fault_rest (edge_faults m s) (pin_faults m s) e ∙ λ i. first_fault ((10, not (free i)) ∷ [])

  pub unpin_refusal : refusal m (Unpin s) ≡ first_fault ((10, x) ∷ [])
  unfolding refusal faults
  unpin_refusal = fault_rest (edge_faults m s) (unpin_faults m s) e ∙ λ i. first_fault ((10, free i) ∷ [])

-- what speaks against a pin speaks against a flip
pub flip_no_pin : (m : Mesh) (s n : ℕ) → refusal m (Pin s) ≡ Some n → refusal m (Flip s) ≡ Some n
unfolding refusal faults
flip_no_pin m s n e = fault_first (faults m (Pin s)) ((11, not (convex m s)) ∷ []) n e

-- else the quadrilateral decides
pub flip_refusal : (m : Mesh) (s : ℕ) {y : Bool} → refusal m (Pin s) ≡ None → convex m s ≡ y → refusal m (Flip s) ≡ first_fault ((11, not y) ∷ [])
unfolding refusal faults
flip_refusal m s e f = fault_rest (faults m (Pin s)) ((11, not (convex m s)) ∷ []) e ∙ λ i. first_fault ((11, not (f i)) ∷ [])

-- the exit of a `?` after an earlier check
pub exits : {X : Type 0} (o : Option ℕ) (r : Result X Refusal) (q : Refusal) (Found : X → Type 0) → IsErrAnd r (λ y. y ≡ q) → o ≡ Some (number q) → Checked o r Found
exits o r q Found by e =
    let p = err_from_is_err_and r by in
    subst (λ x. Checked o x Found) (sym p.1) (e ∙ ap (λ y. Some (number y)) (sym p.2))

module _ (K : Parts) (Q : Order) (lookahead : ℕ) (s : State) (c : Call) where
  pub refused : (r : Refusal) → refusal s.mesh c ≡ Some (number r) → Rule K Q lookahead s c (Refused r) s
  refused r e = record { decided = subst (λ (o : Option ℕ). Decided o K Q lookahead s c (Refused r) s) (sym e) (r, refl, refl, refl) }

  pub taken : (a : Answer) (u : State) → refusal s.mesh c ≡ None → Taken K Q lookahead s c a u → Rule K Q lookahead s c a u
  taken a u e t = record { decided = subst (λ (o : Option ℕ). Decided o K Q lookahead s c a u) (sym e) t }

module _ (K : Parts) (Q : Order) (lookahead : ℕ) (s u : State) where
  -- a lay that was taken, by what its code did
  pub lay_taken :
      (p : Plan) (n : ℕ) → refusal s.mesh (Lay p) ≡ None → u.mesh ≡ laid s.mesh p →
      Refilled Q (interior u.mesh) u.waiting → n ≡ total K u.mesh → Rule K Q lookahead s (Lay p) (Laid n) u
  lay_taken p n free written refilled cost =
      taken K Q lookahead s (Lay p) (Laid n) u free
      (ap Laid (cost ∙ ap (total K) written), (written, subst (λ (m : Mesh). Refilled Q (interior m) u.waiting) written refilled))

  -- a flip that was taken
  pub flip_taken :
      (k x y : ℕ) → refusal s.mesh (Flip k) ≡ None → u.mesh ≡ flipped s.mesh k → Refilled Q (interior u.mesh) u.waiting →
      x ≡ total K s.mesh → y ≡ total K u.mesh → Rule K Q lookahead s (Flip k) (Flipped x y) u
  flip_taken k x y free written refilled before after =
      taken K Q lookahead s (Flip k) (Flipped x y) u free
      (ap₂ Flipped before (after ∙ ap (total K) written), (written, subst (λ (m : Mesh). Refilled Q (interior m) u.waiting) written refilled))

  -- a pin
  pub pin_taken :
      (k x : ℕ) → refusal s.mesh (Pin k) ≡ None → u.mesh ≡ pinned 1 s.mesh k → u.waiting ≡ s.waiting →
      x ≡ edge_number s.mesh k → Rule K Q lookahead s (Pin k) (Pinned x) u
  pin_taken k x free written same number =
      taken K Q lookahead s (Pin k) (Pinned x) u free (ap Pinned number, λ i. record { mesh = written i; waiting = same i })

  -- an unpin
  pub unpin_taken :
      (k x : ℕ) → refusal s.mesh (Unpin k) ≡ None → u.mesh ≡ pinned 0 s.mesh k → Refilled Q (interior u.mesh) u.waiting →
      x ≡ edge_number s.mesh k → Rule K Q lookahead s (Unpin k) (Unpinned x) u
  unpin_taken k x free written refilled number =
      taken K Q lookahead s (Unpin k) (Unpinned x) u free
      (ap Unpinned number, (written, subst (λ (m : Mesh). Refilled Q (interior m) u.waiting) written refilled))

  -- an add that was taken, in face f
  pub add_taken :
      (w : Vertex) (f : ℕ) → refusal s.mesh (Add w) ≡ None → owner s.mesh (place w) ≡ Some f →
      u.mesh ≡ added_in s.mesh w (Some f) → Refilled Q (interior u.mesh) u.waiting →
      Rule K Q lookahead s (Add w) (Added s.mesh.header.count) u
  unfolding added
  add_taken w f free owned written refilled =
      let e : u.mesh ≡ added s.mesh w = written ∙ ap (added_in s.mesh w) (sym owned) in
      taken K Q lookahead s (Add w) (Added s.mesh.header.count) u free
      (refl, (e, subst (λ (m : Mesh). Refilled Q (interior m) u.waiting) e refilled))

-- the memory after a flip, and after a pin
pub flip_written : (m : Mesh) (s : ℕ) (hs : List HalfEdge) → hs ≡ turned m.half_edges s (twin_of m s) → with_half_edges m hs ≡ flipped m s
unfolding flipped
flip_written m s hs e = ap (with_half_edges m) e

pub pin_written :
    (p : ℕ) (m : Mesh) (s : ℕ) (hs : List HalfEdge) → hs ≡ with_pin p (with_pin p m.half_edges s) (twin_of m s) → with_half_edges m hs ≡ pinned p m s
unfolding pinned
pin_written p m s hs e = ap (with_half_edges m) e
