-- Two flips of one edge exchange its two faces, half-edge by half-edge.
use Rattle.std.proofs.Common.{◌≡◌, ℕ, ◌<◌, cond, eqb, ◌≢◌, sym, refl, ap, ◌∙◌, subst, ⊎_elim}
use Rattle.std.proofs.lemmas.Bool.{eq-eqb, ne_eqb, cases_eq}
use Rattle.mesh.specs.Meshes.{Mesh, next, previous, no_twin, used, half, twin_of}
use Rattle.mesh.specs.Sound.{Sound}
use Rattle.mesh.proofs.Rings.{next_used, previous_used, next_previous}
use Rattle.mesh.specs.Edits.{half_edge}
use Rattle.editing.specs.FlipLaws.{Face, TwoFlips, FlipLaws}
use Rattle.editing.specs.Flips.{flipped}
use Rattle.editing.proofs.Relabelling.{relabel, Different, at_a, at_b, at_c, at_d, stays}
use Rattle.editing.proofs.Quadrilaterals.{Edge, Outside, outside_next, Clear, clear, not_none, next_next}
use Rattle.editing.proofs.Standing.{same_half}
use Rattle.editing.proofs.FlipSound.{flipped_is, label_below, label_home, s_stays, t_stays, Flippable, flippable_known}
use Rattle.editing.proofs.FlipLaws.{N, sound_again, again, Step, step, either_half, flip_keeps_sound, flippable_again, four_flips}

-- which of the six half-edges of the faces of s and t x is, if any
pub data Place (s t x : ℕ) : Type 0 where
  at_s : x ≡ s → Place s t x
  at_t : x ≡ t → Place s t x
  after_s : x ≡ next s → Place s t x
  after_t : x ≡ next t → Place s t x
  before_s : x ≡ previous s → Place s t x
  before_t : x ≡ previous t → Place s t x
  elsewhere : Outside s t x → Place s t x

pub place : (s t x : ℕ) → Place s t x
place s t x =
    ⊎_elim at_s (λ n₁. ⊎_elim at_t (λ n₂. ⊎_elim after_s (λ n₃. ⊎_elim after_t (λ n₄. ⊎_elim before_s (λ n₅. ⊎_elim before_t
    (λ n₆. elsewhere (record { not_s = n₁; not_t = n₂; off = record { off_a = n₃; off_b = n₆; off_c = n₄; off_d = n₅ } }))
    (cases_eq x (previous t))) (cases_eq x (previous s))) (cases_eq x (next t))) (cases_eq x (next s))) (cases_eq x t)) (cases_eq x s)

-- each half-edge of one face becomes the one of the other; the rest stay
unfoldable pub exchange : ℕ → ℕ → ℕ → ℕ
exchange s t x = cond (eqb x s) t (cond (eqb x t) s (relabel s t (relabel s t x)))

module _ (m : Mesh) (σ : Sound m) (s t : ℕ) (ε : Edge m s t) where
  abbrev ρ : ℕ → ℕ
  ρ x = relabel s t x

  abbrev π : ℕ → ℕ
  π x = exchange s t x

  abbrev κ : Clear m s t
  κ = clear m σ s t ε

  pub ex_s : π s ≡ t
  unfolding exchange
  ex_s = rw (eq-eqb s s refl) refl

  pub ex_t : π t ≡ s
  unfolding exchange
  ex_t = rw (ne_eqb t s (λ e. κ.apart (sym e)), eq-eqb t t refl) refl

  -- away from the edge itself the exchange is two steps of the relabelling
  pub ex_two : (x : ℕ) → x ≢ s → x ≢ t → π x ≡ ρ (ρ x)
  unfolding exchange
  ex_two x n k = rw (ne_eqb x s n, ne_eqb x t k) refl

  abbrev δ : Different (next s) (previous t) (next t) (previous s)
  δ = κ.different

  ex_after_s : π (next s) ≡ next t
  ex_after_s =
      ex_two (next s) (λ e. κ.s_off.off_a (sym e)) (λ e. κ.t_off.off_a (sym e)) ∙ ap ρ (at_a _ _ _ _ δ) ∙ at_b _ _ _ _ δ

  ex_after_t : π (next t) ≡ next s
  ex_after_t =
      ex_two (next t) (λ e. κ.s_off.off_c (sym e)) (λ e. κ.t_off.off_c (sym e)) ∙ ap ρ (at_c _ _ _ _ δ) ∙ at_d _ _ _ _ δ

  ex_before_s : π (previous s) ≡ previous t
  ex_before_s =
      ex_two (previous s) (λ e. κ.s_off.off_d (sym e)) (λ e. κ.t_off.off_d (sym e)) ∙ ap ρ (at_d _ _ _ _ δ) ∙ at_a _ _ _ _ δ

  ex_before_t : π (previous t) ≡ previous s
  ex_before_t =
      ex_two (previous t) (λ e. κ.s_off.off_b (sym e)) (λ e. κ.t_off.off_b (sym e)) ∙ ap ρ (at_b _ _ _ _ δ) ∙ at_c _ _ _ _ δ

  pub ex_off : (x : ℕ) → Outside s t x → π x ≡ x
  ex_off x o = ex_two x o.not_s o.not_t ∙ ap ρ (stays _ _ _ _ x o.off) ∙ stays _ _ _ _ x o.off

  -- the exchange undoes itself
  pub ex_home : (x : ℕ) → π (π x) ≡ x
  ex_home x = by (place s t x)
    where
      by : Place s t x → π (π x) ≡ x
      by (at_s e) = ap (λ y. π (π y)) e ∙ ap π ex_s ∙ ex_t ∙ sym e
      by (at_t e) = ap (λ y. π (π y)) e ∙ ap π ex_t ∙ ex_s ∙ sym e
      by (after_s e) = ap (λ y. π (π y)) e ∙ ap π ex_after_s ∙ ex_after_t ∙ sym e
      by (after_t e) = ap (λ y. π (π y)) e ∙ ap π ex_after_t ∙ ex_after_s ∙ sym e
      by (before_s e) = ap (λ y. π (π y)) e ∙ ap π ex_before_s ∙ ex_before_t ∙ sym e
      by (before_t e) = ap (λ y. π (π y)) e ∙ ap π ex_before_t ∙ ex_before_s ∙ sym e
      by (elsewhere o) = ap π (ex_off x o) ∙ ex_off x o

  -- it keeps the way round a face
  pub ex_next : (x : ℕ) → π (next x) ≡ next (π x)
  ex_next x = by (place s t x)
    where
      there : (y z : ℕ) → x ≡ y → π y ≡ z → π (next y) ≡ next z → π (next x) ≡ next (π x)
      there y z e p q = ap (λ w. π (next w)) e ∙ q ∙ sym (ap next (ap π e ∙ p))

      by : Place s t x → π (next x) ≡ next (π x)
      by (at_s e) = there s t e ex_s ex_after_s
      by (at_t e) = there t s e ex_t ex_after_t
      by (after_s e) = there (next s) (next t) e ex_after_s (ap π (next_next s) ∙ ex_before_s ∙ sym (next_next t))
      by (after_t e) = there (next t) (next s) e ex_after_t (ap π (next_next t) ∙ ex_before_t ∙ sym (next_next s))
      by (before_s e) = there (previous s) (previous t) e ex_before_s (ap π (next_previous s) ∙ ex_s ∙ sym (next_previous t))
      by (before_t e) = there (previous t) (previous s) e ex_before_t (ap π (next_previous t) ∙ ex_t ∙ sym (next_previous s))
      by (elsewhere o) = ex_off (next x) (outside_next s t x o) ∙ sym (ap next (ex_off x o))

  pub ex_previous : (x : ℕ) → π (previous x) ≡ previous (π x)
  ex_previous x = ap π (sym (next_next x)) ∙ ex_next (next x) ∙ ap next (ex_next x) ∙ next_next (π x)

  pub ex_below : (x : ℕ) → x < used m → π x < used m
  ex_below x l = ⊎_elim
      (λ e. subst (λ (y : ℕ). y < used m) (sym (ap π e ∙ ex_s)) ε.there)
      (λ n. ⊎_elim
      (λ e. subst (λ (y : ℕ). y < used m) (sym (ap π e ∙ ex_t)) ε.here)
      (λ k. subst (λ (y : ℕ). y < used m) (sym (ex_two x n k)) (label_below m σ s t ε _ (label_below m σ s t ε x l)))
      (cases_eq x t))
      (cases_eq x s)

  -- what has no twin has none after
  pub ex_none : π no_twin ≡ no_twin
  ex_none =
      let ne : (y : ℕ) → y < used m → no_twin ≢ y = λ y l z. not_none m σ y l (sym z) in
      ex_off no_twin (record {
        not_s = ne s ε.here;
        not_t = ne t ε.there;
        off = record {
          off_a = ne (next s) (next_used m s ε.here);
          off_b = ne (previous t) (previous_used m t ε.there);
          off_c = ne (next t) (next_used m t ε.there);
          off_d = ne (previous s) (previous_used m s ε.here);
        };
      })

  module _ (m₁ m₂ : Mesh) (f₁ : Step (used m) m m₁ s t) (f₂ : Step (used m) m₁ m₂ s t) where
    -- the twin of a half-edge that is not s or t is neither
    not_edge : (x y z : ℕ) → x < used m → y < used m → twin_of m y ≡ z → x ≢ z → twin_of m x ≢ y
    not_edge x y z l h e ne f =
        let has : twin_of m x ≢ no_twin = λ none. not_none m σ y h (sym f ∙ none) in
        ne (sym (σ.paired x l has) ∙ ap (twin_of m) f ∙ e)

    -- where s stood, t stands, and the other way round
    half_s : half m₂ (π s) ≡ half_edge (half m s).origin (π (twin_of m s)) (half m s).pin
    half_s =
        let stay = t_stays m σ s t ε in
        let twin₁ : twin_of m₁ t ≡ s = ap (twin_of m₁) (sym stay) ∙ f₁.twin t ε.there ∙ ap ρ ε.back ∙ s_stays m σ s t ε in
        let twin₂ : twin_of m₂ t ≡ s = ap (twin_of m₂) (sym stay) ∙ f₂.twin t ε.there ∙ ap ρ twin₁ ∙ s_stays m σ s t ε in
        let pin₁ = ap (λ y. (half m₁ y).pin) (sym stay) ∙ f₁.pin t ε.there in
        let pin₂ = ap (λ y. (half m₂ y).pin) (sym stay) ∙ f₂.pin t ε.there in
        ap (half m₂) ex_s
        ∙ same_half (half m₂ t) (half_edge (half m s).origin (π (twin_of m s)) (half m s).pin)
        (f₂.origin_t ∙ f₁.origin_d ∙ ε.tail)
        (twin₂ ∙ sym (ap π ε.is ∙ ex_t))
        (pin₂ ∙ pin₁ ∙ ε.pins)

    half_t : half m₂ (π t) ≡ half_edge (half m t).origin (π (twin_of m t)) (half m t).pin
    half_t =
        let stay = s_stays m σ s t ε in
        let twin₁ : twin_of m₁ s ≡ t = ap (twin_of m₁) (sym stay) ∙ f₁.twin s ε.here ∙ ap ρ ε.is ∙ t_stays m σ s t ε in
        let twin₂ : twin_of m₂ s ≡ t = ap (twin_of m₂) (sym stay) ∙ f₂.twin s ε.here ∙ ap ρ twin₁ ∙ t_stays m σ s t ε in
        let pin₁ = ap (λ y. (half m₁ y).pin) (sym stay) ∙ f₁.pin s ε.here in
        let pin₂ = ap (λ y. (half m₂ y).pin) (sym stay) ∙ f₂.pin s ε.here in
        ap (half m₂) ex_t
        ∙ same_half (half m₂ s) (half_edge (half m t).origin (π (twin_of m t)) (half m t).pin)
        (f₂.origin_s ∙ f₁.origin_b ∙ sym ε.head)
        (twin₂ ∙ sym (ap π ε.back ∙ ex_s))
        (pin₂ ∙ pin₁ ∙ sym ε.pins)

    -- only s has the label s, only t the label t
    not_s : (x : ℕ) → x ≢ s → ρ x ≢ s
    not_s x n z = n (sym (label_home m σ s t ε x) ∙ ap (λ y. ρ (ρ (ρ y))) (z ∙ sym (s_stays m σ s t ε)) ∙ label_home m σ s t ε s)

    not_t : (x : ℕ) → x ≢ t → ρ x ≢ t
    not_t x n z = n (sym (label_home m σ s t ε x) ∙ ap (λ y. ρ (ρ (ρ y))) (z ∙ sym (t_stays m σ s t ε)) ∙ label_home m σ s t ε t)

    half_other : (x : ℕ) → x < used m → x ≢ s → x ≢ t → half m₂ (π x) ≡ half_edge (half m x).origin (π (twin_of m x)) (half m x).pin
    half_other x l n k =
        let l₁ = label_below m σ s t ε x l in
        let two = ex_two (twin_of m x) (not_edge x s t l ε.here ε.is k) (not_edge x t s l ε.there ε.back n) in
        ap (half m₂) (ex_two x n k)
        ∙ same_half (half m₂ (ρ (ρ x))) (half_edge (half m x).origin (π (twin_of m x)) (half m x).pin)
        (f₂.origin (ρ x) l₁ (not_s x n) (not_t x k) ∙ f₁.origin x l n k)
        (f₂.twin (ρ x) l₁ ∙ ap ρ (f₁.twin x l) ∙ sym two)
        (f₂.pin (ρ x) l₁ ∙ f₁.pin x l)

    -- after two flips each half-edge stands where its counterpart stood, and so does its twin
    pub twice_at : (x : ℕ) → x < used m → half m₂ (π x) ≡ half_edge (half m x).origin (π (twin_of m x)) (half m x).pin
    twice_at x l = ⊎_elim
        (λ e. subst (λ (y : ℕ). half m₂ (π y) ≡ half_edge (half m y).origin (π (twin_of m y)) (half m y).pin) (sym e) half_s)
        (λ n. ⊎_elim
        (λ e. subst (λ (y : ℕ). half m₂ (π y) ≡ half_edge (half m y).origin (π (twin_of m y)) (half m y).pin) (sym e) half_t)
        (λ k. half_other x l n k)
        (cases_eq x t))
        (cases_eq x s)

    origin_twice : (x : ℕ) → x < used m → (half m₂ (π x)).origin ≡ (half m x).origin
    origin_twice x l = ap (λ h. h.origin) (twice_at x l)

    -- so the faces are the same
    faces_there : (a b c : ℕ) → Face m a b c → (x : ℕ) × (x < used m) × ((half m₂ x).origin ≡ a) × ((half m₂ (next x)).origin ≡ b) × ((half m₂ (previous x)).origin ≡ c)
    faces_there a b c f =
        let x = f.0 in
        let l = f.1 in (
          π x,
          ex_below x l,
          origin_twice x l ∙ f.2,
          ap (λ y. (half m₂ y).origin) (sym (ex_next x)) ∙ origin_twice (next x) (next_used m x l) ∙ f.3,
          ap (λ y. (half m₂ y).origin) (sym (ex_previous x)) ∙ origin_twice (previous x) (previous_used m x l) ∙ f.4,
        )

    origin_back : (x : ℕ) → x < used m → (half m (π x)).origin ≡ (half m₂ x).origin
    origin_back x l = sym (ap (λ y. (half m₂ y).origin) (sym (ex_home x)) ∙ origin_twice (π x) (ex_below x l))

    faces_back : (a b c : ℕ) → (x : ℕ) × (x < used m) × ((half m₂ x).origin ≡ a) × ((half m₂ (next x)).origin ≡ b) × ((half m₂ (previous x)).origin ≡ c) → Face m a b c
    faces_back a b c f =
        let x = f.0 in
        let l = f.1 in (
          π x,
          ex_below x l,
          origin_back x l ∙ f.2,
          ap (λ y. (half m y).origin) (sym (ex_next x)) ∙ origin_back (next x) (next_used m x l) ∙ f.3,
          ap (λ y. (half m y).origin) (sym (ex_previous x)) ∙ origin_back (previous x) (previous_used m x l) ∙ f.4,
        )

-- ---- two flips

module _ (m : Mesh) (σ : Sound m) (s t : ℕ) (φ : Flippable m s t) where
  -- the mesh after one flip, and after two
  abbrev pub once : Mesh
  once = N m σ s t φ

  abbrev pub twice : Mesh
  twice = N once (sound_again m σ s t φ) s t (again m σ s t φ)

  pub twice_is : flipped (flipped m s) s ≡ twice
  twice_is =
      ap (λ w. flipped w s) (flipped_is m σ s t φ.edge)
      ∙ flipped_is once (sound_again m σ s t φ) s t (again m σ s t φ).edge

  pub sound_twice : Sound twice
  sound_twice = sound_again once (sound_again m σ s t φ) s t (again m σ s t φ)

  pub at_twice : (x : ℕ) → x < used m → half twice (exchange s t x) ≡ half_edge (half m x).origin (exchange s t (twin_of m x)) (half m x).pin
  at_twice = twice_at m σ s t φ.edge once twice (step m σ s t φ) (step once (sound_again m σ s t φ) s t (again m σ s t φ))

  same_faces : (a b c : ℕ) → (Face m a b c → Face twice a b c) × (Face twice a b c → Face m a b c)
  same_faces a b c =
      let f₁ = step m σ s t φ in
      let f₂ = step once (sound_again m σ s t φ) s t (again m σ s t φ) in
      (faces_there m σ s t φ.edge once twice f₁ f₂ a b c, faces_back m σ s t φ.edge once twice f₁ f₂ a b c)

two_flips : TwoFlips
two_flips m s σ e a b c =
    let t = twin_of m s in
    let φ = flippable_known m σ s e in
    subst (λ (w : Mesh). (Face m a b c → Face w a b c) × (Face w a b c → Face m a b c)) (sym (twice_is m σ s t φ)) (same_faces m σ s t φ a b c)

-- ---- the laws together

pub flip_laws : FlipLaws
flip_laws = record {
  either_half = either_half;
  flip_keeps_sound = flip_keeps_sound;
  flippable_again = flippable_again;
  two_flips = two_flips;
  four_flips = four_flips;
}
