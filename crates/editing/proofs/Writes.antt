-- What stands at each index after half-edges were written.
use Rattle.std.proofs.Common.{◌≡◌, ℕ, zero, suc, ◌<◌, Bool, true, false, cond, eqb, List, [], ◌∷◌, length, get_or, set, sym, refl, ap, ◌∙◌, arith}
use Rattle.std.proofs.lemmas.List.{length-set, get_or-set_same, get_or-set_other}
use Rattle.std.proofs.lemmas.Bool.{ne_eqb}
use Rattle.mesh.specs.declared.HalfEdge.{HalfEdge}
use Rattle.mesh.specs.Meshes.{half_at, no_half_edge, no_twin}
use Rattle.mesh.specs.Edits.{half_edge, moved}

-- ---- writes at distinct indices

pub record Write : Type 0 where
  pub index : ℕ
  pub entry : HalfEdge

abbrev pub write : ℕ → HalfEdge → Write
write i h = record { index = i; entry = h }

-- the last write stands first
abbrev pub written : List HalfEdge → List Write → List HalfEdge
written l [] = l
written l (w ∷ ws) = set (written l ws) w.index w.entry

-- none of them writes at i
abbrev pub Apart : ℕ → List Write → Type 0
Apart i [] = Unit {0}
Apart i (w ∷ ws) = (i ≡ w.index → ⊥) × Apart i ws

-- no two write at one index, and none outside a list of length n
abbrev pub Distinct : ℕ → List Write → Type 0
Distinct n [] = Unit {0}
Distinct n (w ∷ ws) = (w.index < n) × Apart w.index ws × Distinct n ws

abbrev pub nth_write : List Write → ℕ → Write
nth_write ws k = get_or ws k (write 0 no_half_edge)

-- writes keep the length
pub length_written : (l : List HalfEdge) (ws : List Write) → length (written l ws) ≡ length l
length_written l [] = refl
length_written l (w ∷ ws) = length-set (written l ws) w.index w.entry ∙ length_written l ws

-- elsewhere stands what stood
pub read_else : (l : List HalfEdge) (ws : List Write) (j : ℕ) → Apart j ws → half_at (written l ws) j ≡ half_at l j
read_else l [] j a = refl
read_else l (w ∷ ws) j a = get_or-set_other (written l ws) w.index j w.entry no_half_edge a.0 ∙ read_else l ws j a.1

apart_at : (i : ℕ) (ws : List Write) (k : ℕ) → Apart i ws → k < length ws → (nth_write ws k).index ≡ i → ⊥
apart_at i [] k a h e = omega arith
apart_at i (w ∷ ws) zero a h e = a.0 (sym e)
apart_at i (w ∷ ws) (suc k) a h e = apart_at i ws k a.1 (omega arith) e

-- at each index that is written stands what was written there
pub read_at :
    (l : List HalfEdge) (ws : List Write) → Distinct (length l) ws → (k : ℕ) → k < length ws →
    half_at (written l ws) (nth_write ws k).index ≡ (nth_write ws k).entry
read_at l [] d k h = absurd (omega arith)
read_at l (w ∷ ws) d zero h = get_or-set_same (written l ws) w.index w.entry no_half_edge (rw (length_written l ws) d.0)
read_at l (w ∷ ws) d (suc k) h =
    get_or-set_other (written l ws) w.index (nth_write ws k).index w.entry no_half_edge (apart_at w.index ws k d.1 (omega arith))
    ∙ read_at l ws d.2 k (omega arith)

-- ---- one half-edge moved

module _ (hs : List HalfEdge) (h : HalfEdge) (to : ℕ) where
  abbrev t : ℕ
  t = h.twin

  abbrev there : List HalfEdge
  there = set hs to h

  abbrev linked_list : Bool → List HalfEdge
  linked_list b = cond b there (set there t (half_edge (half_at there t).origin to (half_at there t).pin))

  -- the list stays as long
  pub length_moved : length (moved hs h to) ≡ length hs
  unfolding moved
  length_moved = by (eqb t no_twin)
    where
      by : (b : Bool) → length (linked_list b) ≡ length hs
      by true = length-set hs to h
      by false = simp length-set

  -- what stands at the new place, at the twin, and elsewhere
  pub moved_there : to < length hs → (to ≡ h.twin → ⊥) → half_at (moved hs h to) to ≡ h
  unfolding moved
  moved_there l ne = by (eqb t no_twin)
    where
      by : (b : Bool) → half_at (linked_list b) to ≡ h
      by true = get_or-set_same hs to h no_half_edge l
      by false = get_or-set_other there t to _ no_half_edge ne ∙ get_or-set_same hs to h no_half_edge l

  pub moved_else : (j : ℕ) → (j ≡ to → ⊥) → (j ≡ h.twin → ⊥) → half_at (moved hs h to) j ≡ half_at hs j
  unfolding moved
  moved_else j ne nt = by (eqb t no_twin)
    where
      by : (b : Bool) → half_at (linked_list b) j ≡ half_at hs j
      by true = get_or-set_other hs to j h no_half_edge ne
      by false = get_or-set_other there t j _ no_half_edge nt ∙ get_or-set_other hs to j h no_half_edge ne

  pub moved_twin :
      h.twin < length hs → (h.twin ≡ no_twin → ⊥) → (h.twin ≡ to → ⊥) →
      half_at (moved hs h to) h.twin ≡ half_edge (half_at hs h.twin).origin to (half_at hs h.twin).pin
  unfolding moved
  moved_twin l some ne =
      let e = get_or-set_other hs to t h no_half_edge ne in
      ap (λ b. half_at (linked_list b) t) (ne_eqb t no_twin some)
      ∙ get_or-set_same there t _ no_half_edge (simp length-set l)
      ∙ ap (λ x. half_edge x.origin to x.pin) e
