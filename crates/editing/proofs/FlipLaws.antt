-- The laws of flips and pins, from what stands at each place.
use Rattle.std.proofs.Common.{◌≡◌, ℕ, ◌<◌, ◌≤◌, true, not, ◌&&◌, ltb, ◌≢◌, List, length, ℤ, pos, ◌<ℤ◌, sym, refl, ap, ◌∙◌, subst, ⊎_elim}
use Rattle.std.proofs.lemmas.Bool.{ne_eqb, lt-ltb, and_from, cases_eq, cases_lt}
use Rattle.std.proofs.lemmas.List.{ext_get_or}
use Rattle.mesh.specs.declared.HalfEdge.{HalfEdge}
use Rattle.mesh.specs.declared.Point.{Point}
use Rattle.mesh.specs.Geometry.{orientation, positive, place}
use Rattle.mesh.specs.Meshes.{Mesh, next, previous, no_twin, no_half_edge, used, half_at, half, vertex, origin_point, twin_of, has_twin}
use Rattle.mesh.specs.Sound.{Sound}
use Rattle.mesh.proofs.Decide.{T_true}
use Rattle.mesh.proofs.Orientations.{orientation_rotates}
use Rattle.mesh.specs.Edits.{half_edge}
use Rattle.editing.specs.Flips.{is_interior, is_free, convex, is_flippable, turned, with_half_edges, flipped}
use Rattle.editing.specs.FlipLaws.{EitherHalf, FlipKeepsSound, FlippableAgain, FourFlips}
use Rattle.editing.proofs.Relabelling.{relabel, cycle_swapped}
use Rattle.editing.proofs.Quadrilaterals.{Edge, clear, edge_swapped, edge_of, not_none, next_next, turns_at}
use Rattle.editing.proofs.Standing.{from, after, from_other, same_half, turned_at, turned_past, turned_length}
use Rattle.editing.proofs.FlipSound.{M, flipped_is, label_below, label_home, each, s_stays, t_stays, origin_at, twin_at, pin_at, from_s, from_t, new_s, new_t, new_a, new_b, new_c, new_d, sound_turned, interior_edge, Flippable, flippable_known}

-- ---- what stands where

-- the half-edge at x has moved to its new label, and so has its twin
pub flipped_at :
    (m : Mesh) → Sound m → (s : ℕ) → is_interior m s ≡ true → (x : ℕ) → x < used m →
    half (flipped m s) (relabel s (twin_of m s) x) ≡ after m s (twin_of m s) x
unfolding flipped
flipped_at m σ s e x l = turned_at m σ s (twin_of m s) (interior_edge m σ s e) x l

-- entries past those in use, header, vertices and length stay
pub flipped_past : (m : Mesh) → Sound m → (s : ℕ) → is_interior m s ≡ true → (x : ℕ) → used m ≤ x → half (flipped m s) x ≡ half m x
unfolding flipped
flipped_past m σ s e x l = turned_past m σ s (twin_of m s) (interior_edge m σ s e) x l

pub flipped_header : (m : Mesh) (s : ℕ) → (flipped m s).header ≡ m.header
unfolding flipped
flipped_header m s = refl

pub flipped_vertices : (m : Mesh) (s : ℕ) → (flipped m s).vertices ≡ m.vertices
unfolding flipped
flipped_vertices m s = refl

pub flipped_length : (m : Mesh) → Sound m → (s : ℕ) → is_interior m s ≡ true → length (flipped m s).half_edges ≡ length m.half_edges
unfolding flipped
flipped_length m σ s e = turned_length m σ s (twin_of m s) (interior_edge m σ s e)

-- ---- soundness

pub flip_keeps_sound : FlipKeepsSound
flip_keeps_sound m s σ e =
    let t = twin_of m s in
    let φ = flippable_known m σ s e in
    subst Sound (sym (flipped_is m σ s t φ.edge)) (sound_turned m σ s t φ.edge φ.one φ.two)

-- ---- either half-edge

-- two lists that agree at every label, and past those in use, are one
same_turned :
    (m : Mesh) (σ : Sound m) (s t : ℕ) (ε : Edge m s t) (l₁ l₂ : List HalfEdge) → length l₁ ≡ length l₂ →
    ((x : ℕ) → x < used m → half_at l₁ (relabel s t x) ≡ half_at l₂ (relabel s t x)) → ((x : ℕ) → used m ≤ x → half_at l₁ x ≡ half_at l₂ x) → l₁ ≡ l₂
same_turned m σ s t ε l₁ l₂ n h k =
    ext_get_or no_half_edge l₁ l₂ n (λ y _. ⊎_elim (λ u. each m σ s t ε (λ z. half_at l₁ z ≡ half_at l₂ z) h y u) (k y) (cases_lt y (used m)))

module _ (m : Mesh) (σ : Sound m) (s t : ℕ) (ε : Edge m s t) where
  abbrev η : Edge m t s
  η = edge_swapped m s t ε

  label_swapped : (x : ℕ) → relabel t s x ≡ relabel s t x
  label_swapped x = cycle_swapped (next s) (previous t) (next t) (previous s) x (clear m σ s t ε).different

  from_swapped : (x : ℕ) → from m t s x ≡ from m s t x
  from_swapped x =
      ⊎_elim
      (λ e. ap (from m t s) e ∙ from_t m σ t s η ∙ sym (ap (from m s t) e ∙ from_s m σ s t ε))
      (λ n. ⊎_elim
      (λ e. ap (from m t s) e ∙ from_s m σ t s η ∙ sym (ap (from m s t) e ∙ from_t m σ s t ε))
      (λ k. from_other m t s x k n ∙ sym (from_other m s t x n k))
      (cases_eq x t))
      (cases_eq x s)

  after_swapped : (x : ℕ) → after m t s x ≡ after m s t x
  after_swapped x =
      ap (λ v. half_edge v (relabel t s (twin_of m x)) (half m x).pin) (from_swapped x)
      ∙ ap (λ w. half_edge (from m s t x) w (half m x).pin) (label_swapped (twin_of m x))

  turned_swapped : turned m.half_edges t s ≡ turned m.half_edges s t
  turned_swapped =
      same_turned m σ s t ε (turned m.half_edges t s) (turned m.half_edges s t)
      (turned_length m σ t s η ∙ sym (turned_length m σ s t ε))
      (λ x u. ap (half_at (turned m.half_edges t s)) (sym (label_swapped x)) ∙ turned_at m σ t s η x u ∙ after_swapped x ∙ sym (turned_at m σ s t ε x u))
      (λ x u. turned_past m σ t s η x u ∙ sym (turned_past m σ s t ε x u))

  pub flip_swapped : flipped m t ≡ flipped m s
  flip_swapped = flipped_is m σ t s η ∙ ap (with_half_edges m) turned_swapped ∙ sym (flipped_is m σ s t ε)

pub either_half : EitherHalf
either_half m s σ e = flip_swapped m σ s (twin_of m s) (flippable_known m σ s e).edge

-- ---- once more

positive_from : (z : ℤ) → pos 0 <ℤ z → positive z ≡ true
positive_from z h = T_true _ h.lt

module _ (m : Mesh) (σ : Sound m) (s t : ℕ) (φ : Flippable m s t) where
  abbrev ε : Edge m s t
  ε = φ.edge

  -- the mesh after the flip
  abbrev pub N : Mesh
  N = M m σ s t ε

  pub sound_again : Sound N
  sound_again = sound_turned m σ s t ε φ.one φ.two

  twin_again : twin_of N s ≡ t
  twin_again = ap (twin_of N) (sym (s_stays m σ s t ε)) ∙ twin_at m σ s t ε s ε.here ∙ ap (relabel s t) ε.is ∙ t_stays m σ s t ε

  pin_again : (half N s).pin ≡ (half m s).pin
  pin_again = ap (λ x. (half N x).pin) (sym (s_stays m σ s t ε)) ∙ pin_at m σ s t ε s ε.here

  abbrev at : ℕ → Point
  at v = place (vertex m v)

  abbrev origin : ℕ → ℕ
  origin x = (half m x).origin

  turn : (i j k u v w : ℕ) → (half N i).origin ≡ u → (half N j).origin ≡ v → (half N k).origin ≡ w → pos 0 <ℤ orientation (at u) (at v) (at w) →
      pos 0 <ℤ orientation (origin_point N i) (origin_point N j) (origin_point N k)
  turn i j k u v w p q r h =
      subst (λ (z : ℤ). pos 0 <ℤ z)
      (sym (ap (λ x. orientation (at x) (at (half N j).origin) (at (half N k).origin)) p
      ∙ ap (λ x. orientation (at u) (at x) (at (half N k).origin)) q
      ∙ ap (λ x. orientation (at u) (at v) (at x)) r))
      h

  -- the old faces, read from another corner
  old_s : pos 0 <ℤ orientation (at (origin (next s))) (at (origin (previous s))) (at (origin (next t)))
  old_s =
      subst (λ (z : ℤ). pos 0 <ℤ z)
      (sym (orientation_rotates (at (origin s)) (at (origin (next s))) (at (origin (next (next s)))))
      ∙ ap (λ x. orientation (at (origin (next s))) (at (origin x)) (at (origin s))) (next_next s)
      ∙ ap (λ v. orientation (at (origin (next s))) (at (origin (previous s))) (at v)) (sym ε.tail))
      (turns_at m σ s ε.here)

  old_t : pos 0 <ℤ orientation (at (origin (next t))) (at (origin (previous t))) (at (origin (next s)))
  old_t =
      subst (λ (z : ℤ). pos 0 <ℤ z)
      (sym (orientation_rotates (at (origin t)) (at (origin (next t))) (at (origin (next (next t)))))
      ∙ ap (λ x. orientation (at (origin (next t))) (at (origin x)) (at (origin t))) (next_next t)
      ∙ ap (λ v. orientation (at (origin (next t))) (at (origin (previous t))) (at v)) ε.head)
      (turns_at m σ t ε.there)

  pub again : Flippable N s t
  again = record {
    edge = edge_of N sound_again s t ε.here ε.there twin_again;
    free = ap is_free pin_again ∙ φ.free;
    one = turn (previous t) (next s) (previous s) (origin (next s)) (origin (previous s)) (origin (next t)) (new_b m σ s t ε) (new_a m σ s t ε) (new_d m σ s t ε) old_s;
    two = turn (previous s) s (previous t) (origin (next t)) (origin (previous t)) (origin (next s)) (new_d m σ s t ε) (new_s m σ s t ε) (new_b m σ s t ε) old_t;
  }

pub flippable_from : (m : Mesh) → Sound m → (s t : ℕ) → Flippable m s t → is_flippable m s ≡ true
unfolding convex
flippable_from m σ s t φ =
    let has : has_twin m s ≡ true = ap not (ne_eqb (twin_of m s) no_twin (λ z. not_none m σ t φ.edge.there (sym φ.edge.is ∙ z))) in
    let e : twin_of m s ≡ t = φ.edge.is in
    let one = positive_from _ φ.one in
    let two = positive_from _ φ.two in
    and_from (is_interior m s && is_free (half m s).pin) (convex m s)
    (and_from (is_interior m s) (is_free (half m s).pin) (and_from (ltb s (used m)) (has_twin m s) (lt-ltb _ _ φ.edge.here) has) φ.free)
    (and_from _ _
    (ap (λ x. positive (orientation (origin_point m (previous x)) (origin_point m (next s)) (origin_point m (previous s)))) e ∙ one)
    (ap (λ x. positive (orientation (origin_point m (previous s)) (origin_point m s) (origin_point m (previous x)))) e ∙ two))

pub flippable_again : FlippableAgain
flippable_again m s σ e =
    let t = twin_of m s in
    let φ = flippable_known m σ s e in
    subst (λ (n : Mesh). is_flippable n s ≡ true) (sym (flipped_is m σ s t φ.edge))
    (flippable_from (N m σ s t φ) (sound_again m σ s t φ) s t (again m σ s t φ))

-- ---- four flips

-- one flip of the edge of s and t, with n half-edges in use
pub record Step (n : ℕ) (m m' : Mesh) (s t : ℕ) : Type 0 where
  pub twin : (x : ℕ) → x < n → twin_of m' (relabel s t x) ≡ relabel s t (twin_of m x)
  pub pin : (x : ℕ) → x < n → (half m' (relabel s t x)).pin ≡ (half m x).pin
  pub origin : (x : ℕ) → x < n → x ≢ s → x ≢ t → (half m' (relabel s t x)).origin ≡ (half m x).origin
  pub origin_s : (half m' s).origin ≡ (half m (previous t)).origin
  pub origin_t : (half m' t).origin ≡ (half m (previous s)).origin
  pub origin_a : (half m' (next s)).origin ≡ (half m (previous s)).origin
  pub origin_b : (half m' (previous t)).origin ≡ (half m (next s)).origin
  pub origin_c : (half m' (next t)).origin ≡ (half m (previous t)).origin
  pub origin_d : (half m' (previous s)).origin ≡ (half m (next t)).origin
  pub past : (x : ℕ) → n ≤ x → half m' x ≡ half m x
  pub size : length m'.half_edges ≡ length m.half_edges

pub step : (m : Mesh) (σ : Sound m) (s t : ℕ) (φ : Flippable m s t) → Step (used m) m (N m σ s t φ) s t
step m σ s t φ =
    let ε = φ.edge in
    record {
      twin = twin_at m σ s t ε;
      pin = pin_at m σ s t ε;
      origin = λ x l n k. origin_at m σ s t ε x l ∙ from_other m s t x n k;
      origin_s = new_s m σ s t ε;
      origin_t = new_t m σ s t ε;
      origin_a = new_a m σ s t ε;
      origin_b = new_b m σ s t ε;
      origin_c = new_c m σ s t ε;
      origin_d = new_d m σ s t ε;
      past = turned_past m σ s t ε;
      size = turned_length m σ s t ε;
    }

module _ (m : Mesh) (σ : Sound m) (s t : ℕ) (ε : Edge m s t) (m₁ m₂ m₃ m₄ : Mesh) (f₁ : Step (used m) m m₁ s t) (f₂ : Step (used m) m₁ m₂ s t) (f₃ : Step (used m) m₂ m₃ s t) (f₄ : Step (used m) m₃ m₄ s t) where
  abbrev ρ : ℕ → ℕ
  ρ x = relabel s t x

  below : (x : ℕ) → x < used m → ρ x < used m
  below = label_below m σ s t ε

  home : (x : ℕ) → ρ (ρ (ρ (ρ x))) ≡ x
  home = label_home m σ s t ε

  -- only s has the label s, only t the label t
  not_s : (x : ℕ) → x ≢ s → ρ x ≢ s
  not_s x n z = n (sym (home x) ∙ ap (λ y. ρ (ρ (ρ y))) (z ∙ sym (s_stays m σ s t ε)) ∙ home s)

  not_t : (x : ℕ) → x ≢ t → ρ x ≢ t
  not_t x n z = n (sym (home x) ∙ ap (λ y. ρ (ρ (ρ y))) (z ∙ sym (t_stays m σ s t ε)) ∙ home t)

  twin_home : (x : ℕ) → x < used m → twin_of m₄ x ≡ twin_of m x
  twin_home x l =
      let l₁ = below x l in
      let l₂ = below _ l₁ in
      let l₃ = below _ l₂ in
      ap (twin_of m₄) (sym (home x)) ∙ f₄.twin (ρ (ρ (ρ x))) l₃ ∙ ap ρ (f₃.twin (ρ (ρ x)) l₂) ∙ ap (λ y. ρ (ρ y)) (f₂.twin (ρ x) l₁)
      ∙ ap (λ y. ρ (ρ (ρ y))) (f₁.twin x l) ∙ home (twin_of m x)

  pin_home : (x : ℕ) → x < used m → (half m₄ x).pin ≡ (half m x).pin
  pin_home x l =
      let l₁ = below x l in
      let l₂ = below _ l₁ in
      let l₃ = below _ l₂ in
      ap (λ y. (half m₄ y).pin) (sym (home x)) ∙ f₄.pin (ρ (ρ (ρ x))) l₃ ∙ f₃.pin (ρ (ρ x)) l₂ ∙ f₂.pin (ρ x) l₁ ∙ f₁.pin x l

  origin_home : (x : ℕ) → x < used m → (half m₄ x).origin ≡ (half m x).origin
  origin_home x l =
      ⊎_elim
      (λ e. subst (λ (y : ℕ). (half m₄ y).origin ≡ (half m y).origin) (sym e)
      (f₄.origin_s ∙ f₃.origin_b ∙ f₂.origin_a ∙ f₁.origin_d ∙ ε.tail))
      (λ n. ⊎_elim
      (λ e. subst (λ (y : ℕ). (half m₄ y).origin ≡ (half m y).origin) (sym e)
      (f₄.origin_t ∙ f₃.origin_d ∙ f₂.origin_c ∙ f₁.origin_b ∙ sym ε.head))
      (λ k.
      let l₁ = below x l in
      let l₂ = below _ l₁ in
      let l₃ = below _ l₂ in
      let n₁ = not_s x n in
      let n₂ = not_s _ n₁ in
      let k₁ = not_t x k in
      let k₂ = not_t _ k₁ in
      ap (λ y. (half m₄ y).origin) (sym (home x))
      ∙ f₄.origin (ρ (ρ (ρ x))) l₃ (not_s _ n₂) (not_t _ k₂) ∙ f₃.origin (ρ (ρ x)) l₂ n₂ k₂ ∙ f₂.origin (ρ x) l₁ n₁ k₁ ∙ f₁.origin x l n k)
      (cases_eq x t))
      (cases_eq x s)

  four_home : m₄.half_edges ≡ m.half_edges
  four_home =
      ext_get_or no_half_edge m₄.half_edges m.half_edges (f₄.size ∙ f₃.size ∙ f₂.size ∙ f₁.size) (λ x _. ⊎_elim
      (λ l. same_half (half m₄ x) (half m x) (origin_home x l) (twin_home x l) (pin_home x l))
      (λ l. f₄.past x l ∙ f₃.past x l ∙ f₂.past x l ∙ f₁.past x l)
      (cases_lt x (used m)))

flips_home : (m : Mesh) → Sound m → (s t : ℕ) → Flippable m s t → flipped (flipped (flipped (flipped m s) s) s) s ≡ m
flips_home m σ s t φ =
    let m₁ = N m σ s t φ in
    let σ₁ = sound_again m σ s t φ in
    let φ₁ = again m σ s t φ in
    let m₂ = N m₁ σ₁ s t φ₁ in
    let σ₂ = sound_again m₁ σ₁ s t φ₁ in
    let φ₂ = again m₁ σ₁ s t φ₁ in
    let m₃ = N m₂ σ₂ s t φ₂ in
    let σ₃ = sound_again m₂ σ₂ s t φ₂ in
    let φ₃ = again m₂ σ₂ s t φ₂ in
    let m₄ = N m₃ σ₃ s t φ₃ in
    ap (λ x. flipped (flipped (flipped x s) s) s) (flipped_is m σ s t φ.edge)
    ∙ ap (λ x. flipped (flipped x s) s) (flipped_is m₁ σ₁ s t φ₁.edge)
    ∙ ap (λ x. flipped x s) (flipped_is m₂ σ₂ s t φ₂.edge)
    ∙ flipped_is m₃ σ₃ s t φ₃.edge
    ∙ ap (with_half_edges m)
    (four_home m σ s t φ.edge m₁ m₂ m₃ m₄ (step m σ s t φ) (step m₁ σ₁ s t φ₁) (step m₂ σ₂ s t φ₂) (step m₃ σ₃ s t φ₃))

pub four_flips : FourFlips
four_flips m s σ e = flips_home m σ s (twin_of m s) (flippable_known m σ s e)
