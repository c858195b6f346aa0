-- A pin keeps a mesh sound, and an unpin undoes it.
use Rattle.std.proofs.Common.{◌≡◌, ℕ, ◌+◌, ◌*◌, ◌<◌, ◌≤◌, cond, not, T, eqb, ◌≢◌, List, length, ℤ, pos, ◌<ℤ◌, sym, refl, ap, ◌∙◌, subst, ⊎_elim, arith}
use Rattle.std.proofs.lemmas.Bool.{eq-eqb, ne_eqb, eqb-true, cases_eq, cond_both}
use Rattle.std.proofs.lemmas.List.{get_or-set_same, get_or-set_other, length-set, ext_get_or}
use Rattle.mesh.specs.declared.HalfEdge.{HalfEdge}
use Rattle.mesh.specs.declared.Point.{Point}
use Rattle.mesh.specs.Geometry.{orientation, place}
use Rattle.mesh.specs.Meshes.{Mesh, next, no_twin, no_half_edge, used, half_at, half, vertex, twin_of, has_twin}
use Rattle.mesh.specs.Sound.{Sound, EachTwin, along_border, on_border}
use Rattle.mesh.proofs.Rings.{next_used}
use Rattle.mesh.specs.Edits.{half_edge}
use Rattle.editing.specs.Flips.{with_pin, with_half_edges, pinned}
use Rattle.editing.specs.FlipLaws.{PinKeepsSound, UnpinRestores, PinLaws}
use Rattle.editing.proofs.Quadrilaterals.{Edge, edge_of, not_none}
use Rattle.editing.proofs.Standing.{same_half}
use Rattle.editing.proofs.FlipSound.{interior_edge}
use Rattle.editing.proofs.Tallies.{tally_same}

-- h, with the pin p if it stands at s = j
abbrev repinned : ℕ → ℕ → ℕ → HalfEdge → HalfEdge
repinned p s j h = half_edge h.origin h.twin (cond (eqb j s) p h.pin)

with_pin_at : (p : ℕ) (hs : List HalfEdge) (s j : ℕ) → j < length hs → half_at (with_pin p hs s) j ≡ repinned p s j (half_at hs j)
with_pin_at p hs s j l =
    ⊎_elim
    (λ e. subst (λ (x : ℕ). half_at (with_pin p hs x) j ≡ repinned p x j (half_at hs j)) e
    (rw (eq-eqb j j refl) (get_or-set_same hs j _ no_half_edge l)))
    (λ ne. get_or-set_other hs s j _ no_half_edge ne ∙ sym (rw (ne_eqb j s ne) refl))
    (cases_eq j s)

-- both halves of s and t get the pin p
abbrev pins_at : ℕ → List HalfEdge → ℕ → ℕ → List HalfEdge
pins_at p hs s t = with_pin p (with_pin p hs s) t

abbrev repin : ℕ → ℕ → ℕ → ℕ → HalfEdge → HalfEdge
repin p s t j h = repinned p t j (repinned p s j h)

pins_length : (p : ℕ) (hs : List HalfEdge) (s t : ℕ) → length (pins_at p hs s t) ≡ length hs
pins_length p hs s t = length-set (with_pin p hs s) t _ ∙ length-set hs s _

pins_all : (p : ℕ) (hs : List HalfEdge) (s t j : ℕ) → j < length hs → half_at (pins_at p hs s t) j ≡ repin p s t j (half_at hs j)
pins_all p hs s t j l =
    with_pin_at p (with_pin p hs s) t j (omega (arith, length-set hs s (half_edge (half_at hs s).origin (half_at hs s).twin p)))
    ∙ ap (repinned p t j) (with_pin_at p hs s j l)

-- off s and t, and past the end, nothing changes
pins_other : (p : ℕ) (hs : List HalfEdge) (s t j : ℕ) → j ≢ s → j ≢ t → half_at (pins_at p hs s t) j ≡ half_at hs j
pins_other p hs s t j n k = get_or-set_other (with_pin p hs s) t j _ no_half_edge k ∙ get_or-set_other hs s j _ no_half_edge n

module _ (m : Mesh) (σ : Sound m) (s t : ℕ) (ε : Edge m s t) (p : ℕ) where
  abbrev pub P : Mesh
  P = with_half_edges m (pins_at p m.half_edges s t)

  pub pinned_is : pinned p m s ≡ P
  unfolding pinned
  pinned_is = ap (λ x. with_half_edges m (pins_at p m.half_edges s x)) ε.is

  in_list : (x : ℕ) → x < used m → x < length m.half_edges
  in_list x l = omega (arith, σ.half_edges_fit)

  all_at : (x : ℕ) → x < used m → half P x ≡ repin p s t x (half m x)
  all_at x l = pins_all p m.half_edges s t x (in_list x l)

  origin_same : (x : ℕ) → x < used m → (half P x).origin ≡ (half m x).origin
  origin_same x l = ap (λ h. h.origin) (all_at x l)

  twin_same : (x : ℕ) → x < used m → twin_of P x ≡ twin_of m x
  twin_same x l = ap (λ h. h.twin) (all_at x l)

  pin_is : (x : ℕ) → x < used m → (half P x).pin ≡ cond (eqb x t) p (cond (eqb x s) p (half m x).pin)
  pin_is x l = ap (λ h. h.pin) (all_at x l)

  pin_s : (half P s).pin ≡ p
  pin_s = pin_is s ε.here ∙ cond_both (eqb s t) p _ (λ (v : ℕ). v ≡ p) (λ _. refl) (λ _. rw (eq-eqb s s refl) refl)

  pin_t : (half P t).pin ≡ p
  pin_t = pin_is t ε.there ∙ rw (eq-eqb t t refl) refl

  pin_other : (x : ℕ) → x ≢ s → x ≢ t → (half P x).pin ≡ (half m x).pin
  pin_other x n k = ap (λ h. h.pin) (pins_other p m.half_edges s t x n k)

  each_twin : (Q : ℕ → ℕ → Type 0) → ((x w : ℕ) → Edge m x w → Q x w) → EachTwin P Q
  each_twin Q h x l ne =
      let has : twin_of m x ≢ no_twin = λ z. ne (twin_same x l ∙ z) in
      subst (Q x) (sym (twin_same x l)) (h x (twin_of m x) (edge_of m σ x (twin_of m x) l (σ.twins x l has) refl))

  -- the two halves of an edge still have one pin
  agree : (x w : ℕ) → Edge m x w → (half P w).pin ≡ (half P x).pin
  agree x w e =
      ⊎_elim
      (λ z. ap (λ y. (half P y).pin) (sym e.is ∙ ap (twin_of m) z ∙ ε.is) ∙ pin_t ∙ sym (ap (λ y. (half P y).pin) z ∙ pin_s))
      (λ n. ⊎_elim
      (λ z. ap (λ y. (half P y).pin) (sym e.is ∙ ap (twin_of m) z ∙ ε.back) ∙ pin_s ∙ sym (ap (λ y. (half P y).pin) z ∙ pin_t))
      (λ k.
      pin_other w (λ z. k (sym e.back ∙ ap (twin_of m) z ∙ ε.is)) (λ z. n (sym e.back ∙ ap (twin_of m) z ∙ ε.back))
      ∙ e.pins ∙ sym (pin_other x n k))
      (cases_eq x t))
      (cases_eq x s)

  abbrev at : ℕ → Point
  at v = place (vertex m v)

  face_same : (i j k : ℕ) → i < used m → j < used m → k < used m →
      orientation (at (half m i).origin) (at (half m j).origin) (at (half m k).origin) ≡ orientation (at (half P i).origin) (at (half P j).origin) (at (half P k).origin)
  face_same i j k li lj lk =
      sym (ap (λ v. orientation (at v) (at (half P j).origin) (at (half P k).origin)) (origin_same i li)
      ∙ ap (λ v. orientation (at (half m i).origin) (at v) (at (half P k).origin)) (origin_same j lj)
      ∙ ap (λ v. orientation (at (half m i).origin) (at (half m j).origin) (at v)) (origin_same k lk))

  along_same : (x : ℕ) → x < used m → along_border P x ≡ along_border m x
  along_same x l =
      ap (λ v. on_border m.header (at v) (at (half P (next x)).origin)) (origin_same x l)
      ∙ ap (λ v. on_border m.header (at (half m x).origin) (at v)) (origin_same (next x) (next_used m x l))

  pub sound_pinned : p ≤ 1 → Sound P
  sound_pinned h = record {
    width = σ.width;
    depth = σ.depth;
    count = σ.count;
    vertices_fit = σ.vertices_fit;
    half_edges_fit = subst (λ (n : ℕ). used m ≤ n) (sym (pins_length p m.half_edges s t)) σ.half_edges_fit;
    southwest = σ.southwest;
    southeast = σ.southeast;
    northeast = σ.northeast;
    northwest = σ.northwest;
    inside = σ.inside;
    heights = σ.heights;
    origins = λ x l. subst (λ (v : ℕ). v < m.header.count) (sym (origin_same x l)) (σ.origins x l);
    twins = each_twin (λ x w. w < used m) (λ x w e. e.there);
    pins = λ x l. subst (λ (v : ℕ). v ≤ 1) (sym (pin_is x l))
        (cond_both (eqb x t) p _ (λ (v : ℕ). v ≤ 1) (λ _. h)
        (λ _. cond_both (eqb x s) p (half m x).pin (λ (v : ℕ). v ≤ 1) (λ _. h) (λ _. σ.pins x l)));
    faces_turn = λ f l.
        subst (λ (z : ℤ). pos 0 <ℤ z) (face_same (3 * f) (3 * f + 1) (3 * f + 2) (omega arith) (omega arith) (omega arith)) (σ.faces_turn f l);
    paired = each_twin (λ x w. twin_of P w ≡ x) (λ x w e. twin_same w e.there ∙ e.back);
    opposite = each_twin (λ x w. ((half P w).origin ≡ (half P (next x)).origin) × ((half P (next w)).origin ≡ (half P x).origin)) (λ x w e. (
      origin_same w e.there ∙ e.head ∙ sym (origin_same (next x) (next_used m x e.here)),
      origin_same (next w) (next_used m w e.there) ∙ e.tail ∙ sym (origin_same x e.here),
    ));
    pins_agree = each_twin (λ x w. (half P w).pin ≡ (half P x).pin) agree;
    border = λ x l. (
      (λ z. subst T (sym (along_same x l)) ((σ.border x l).0 (sym (twin_same x l) ∙ z))),
      (λ w. twin_same x l ∙ (σ.border x l).1 (subst T (along_same x l) w)),
    );
    border_unpinned = λ x l z.
        let lone = sym (twin_same x l) ∙ z in
        pin_other x
        (λ w. not_none m σ t ε.there (sym ε.is ∙ ap (twin_of m) (sym w) ∙ lone))
        (λ w. not_none m σ s ε.here (sym ε.back ∙ ap (twin_of m) (sym w) ∙ lone))
        ∙ σ.border_unpinned x l lone;
    four =
        tally_same (λ x. not (has_twin P x)) (λ x. not (has_twin m x)) (used m) (λ x l. ap (λ w. not (not (eqb w no_twin))) (twin_same x l))
        ∙ σ.four;
  }

pub pin_keeps_sound : PinKeepsSound
pin_keeps_sound m s p σ e h =
    let t = twin_of m s in
    let ε = interior_edge m σ s e in
    subst Sound (sym (pinned_is m σ s t ε p)) (sound_pinned m σ s t ε p h)

module _ (m : Mesh) (σ : Sound m) (s t : ℕ) (ε : Edge m s t) (free : (half m s).pin ≡ 0) where
  abbrev m₁ : Mesh
  m₁ = P m σ s t ε 1

  σ₁ : Sound m₁
  σ₁ = sound_pinned m σ s t ε 1 (omega arith)

  ε₁ : Edge m₁ s t
  ε₁ = edge_of m₁ σ₁ s t ε.here ε.there (twin_same m σ s t ε 1 s ε.here ∙ ε.is)

  abbrev m₂ : Mesh
  m₂ = P m₁ σ₁ s t ε₁ 0

  same : (x : ℕ) → x < used m → (half m₂ x).pin ≡ (half m x).pin → half m₂ x ≡ half m x
  same x l e =
      same_half (half m₂ x) (half m x)
      (origin_same m₁ σ₁ s t ε₁ 0 x l ∙ origin_same m σ s t ε 1 x l)
      (twin_same m₁ σ₁ s t ε₁ 0 x l ∙ twin_same m σ s t ε 1 x l) e

  restored_at : (x : ℕ) → half m₂ x ≡ half m x
  restored_at x =
      ⊎_elim
      (λ z. subst (λ (y : ℕ). half m₂ y ≡ half m y) (sym z) (same s ε.here (pin_s m₁ σ₁ s t ε₁ 0 ∙ sym free)))
      (λ n. ⊎_elim
      (λ z. subst (λ (y : ℕ). half m₂ y ≡ half m y) (sym z) (same t ε.there (pin_t m₁ σ₁ s t ε₁ 0 ∙ sym free ∙ sym ε.pins)))
      (λ k. pins_other 0 m₁.half_edges s t x n k ∙ pins_other 1 m.half_edges s t x n k)
      (cases_eq x t))
      (cases_eq x s)

  restored : pinned 0 (pinned 1 m s) s ≡ m
  restored =
      ap (λ x. pinned 0 x s) (pinned_is m σ s t ε 1) ∙ pinned_is m₁ σ₁ s t ε₁ 0
      ∙ ap (with_half_edges m) (ext_get_or no_half_edge m₂.half_edges m.half_edges
      (pins_length 0 m₁.half_edges s t ∙ pins_length 1 m.half_edges s t) (λ x _. restored_at x))

pub unpin_restores : UnpinRestores
unpin_restores m s σ e f = restored m σ s (twin_of m s) (interior_edge m σ s e) (eqb-true _ 0 f)

pub pin_laws : PinLaws
pin_laws = record { pin_keeps_sound = pin_keeps_sound; unpin_restores = unpin_restores }
