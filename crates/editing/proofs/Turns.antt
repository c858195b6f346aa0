-- A face may be read from any of its half-edges; the ends of a half-edge differ; its twin is neither itself nor the next one.
use Rattle.std.proofs.Common.{◌≡◌, ℕ, ◌+◌, ◌*◌, ◌/◌, ◌<◌, ◌≤◌, ◌≢◌, ◌⊎◌, ℤ, pos, ◌<ℤ◌, sym, ap, ◌∙◌, subst, ap₂, inl, inr, ⊎_elim, arith}
use borrow.Author.Differences.{ints}
use Rattle.std.proofs.lemmas.Bool.{cases_eq}
use Rattle.std.proofs.lemmas.Bool.Decides.{nat_tests}
use Rattle.mesh.specs.declared.Point.{Point}
use Rattle.mesh.specs.Geometry.{orientation, place}
use Rattle.mesh.specs.Meshes.{Mesh, next, previous, used, half, vertex, origin_point, twin_of, no_twin}
use Rattle.mesh.specs.Sound.{Sound}
use Rattle.mesh.proofs.Orientations.{flat, orientation_rotates}
use Rattle.mesh.proofs.Rings.{next_first, next_second, next_third, next_thrice, next_previous, previous_next, next_used}

-- s is a half-edge of face f
abbrev pub InFace : ℕ → ℕ → Type 0
InFace f s = (3 * f ≤ s) × (s < 3 * f + 3)

-- the one before is two steps on
pub previous_is : (s : ℕ) → previous s ≡ next (next s)
previous_is s = sym (next_thrice (previous s)) ∙ ap (λ x. next (next x)) (next_previous s)

-- different half-edges are followed by different ones
pub next_injective : (x y : ℕ) → next x ≡ next y → x ≡ y
next_injective x y e = sym (previous_next x) ∙ ap previous e ∙ previous_next y

-- the next one belongs to the same face
pub next_same_face : (s : ℕ) → next s / 3 ≡ s / 3
unfolding next
next_same_face s = grind (arith, nat_tests)

-- the same three points
pub same_turn :
    (a b c a' b' c' : Point) → a ≡ a' → b ≡ b' → c ≡ c' → pos 0 <ℤ orientation a' b' c' → pos 0 <ℤ orientation a b c
same_turn a b c a' b' c' p q r h =
    subst (λ (x : Point). pos 0 <ℤ orientation x b c) (sym p)
    (subst (λ (x : Point). pos 0 <ℤ orientation a' x c) (sym q) (subst (λ (x : Point). pos 0 <ℤ orientation a' b' x) (sym r) h))

-- the three half-edges of a face
places : (f s : ℕ) → InFace f s → (s ≡ 3 * f) ⊎ ((s ≡ 3 * f + 1) ⊎ (s ≡ 3 * f + 2))
places f s h =
    ⊎_elim inl (λ a. inr (⊎_elim inl (λ b. inr (omega arith)) (cases_eq s (3 * f + 1)))) (cases_eq s (3 * f))

module _ (m : Mesh) where
  abbrev P : ℕ → Point
  P s = origin_point m s

  -- the face of s turns, read from s
  abbrev pub Turns : ℕ → Type 0
  Turns s = pos 0 <ℤ orientation (P s) (P (next s)) (P (next (next s)))

  -- the next half-edge of a face that turns
  pub turns_next : (s : ℕ) → Turns s → Turns (next s)
  turns_next s h =
      subst (λ (x : ℕ). pos 0 <ℤ orientation (P (next s)) (P (next (next s))) (P x)) (sym (next_thrice s))
      (subst (λ (z : ℤ). pos 0 <ℤ z) (sym (orientation_rotates (P s) (P (next s)) (P (next (next s))))) h)

  abbrev Face : ℕ → Type 0
  Face f = pos 0 <ℤ orientation (P (3 * f)) (P (3 * f + 1)) (P (3 * f + 2))

  nexts : (f : ℕ) → next (next (3 * f)) ≡ 3 * f + 2
  nexts f = ap next (next_first f) ∙ next_second f

  same_face : (f : ℕ) → orientation (P (3 * f)) (P (next (3 * f))) (P (next (next (3 * f)))) ≡ orientation (P (3 * f)) (P (3 * f + 1)) (P (3 * f + 2))
  same_face f = ap₂ (λ (x y : ℕ). orientation (P (3 * f)) (P x) (P y)) (next_first f) (nexts f)

  -- from any of its half-edges to the face, and back
  pub face_turns_from : (f s : ℕ) → InFace f s → Turns s → Face f
  face_turns_from f s i h =
      subst (λ (z : ℤ). pos 0 <ℤ z) (same_face f)
      (⊎_elim
      (λ e. subst Turns e h)
      (⊎_elim
      (λ e. subst Turns (next_third f) (turns_next (3 * f + 2) (subst Turns (next_second f) (turns_next (3 * f + 1) (subst Turns e h)))))
      (λ e. subst Turns (next_third f) (turns_next (3 * f + 2) (subst Turns e h))))
      (places f s i))

  pub face_turns_at : (f s : ℕ) → InFace f s → Face f → Turns s
  face_turns_at f s i h =
      let first : Turns (3 * f) = subst (λ (z : ℤ). pos 0 <ℤ z) (sym (same_face f)) h in
      let second : Turns (3 * f + 1) = subst Turns (next_first f) (turns_next (3 * f) first) in
      ⊎_elim
      (λ e. subst Turns (sym e) first)
      (⊎_elim
      (λ e. subst Turns (sym e) second)
      (λ e. subst Turns (sym e) (subst Turns (next_second f) (turns_next (3 * f + 1) second))))
      (places f s i)

  module _ (σ : Sound m) where
    -- in a sound mesh every half-edge turns
    pub turns : (s : ℕ) → s < used m → Turns s
    turns s h = face_turns_at (s / 3) s (omega arith, omega arith) (σ.faces_turn (s / 3) (omega arith))

    -- the half-edges in use are few
    pub used_small : used m ≤ 6126
    used_small = omega (arith, σ.count.1)

    -- a half-edge ends at another vertex than it starts from
    pub ends_differ : (s : ℕ) → s < used m → (half m s).origin ≢ (half m (next s)).origin
    ends_differ s h e =
        let p : P s ≡ P (next s) = ap (λ v. place (vertex m v)) e in
        let z = subst (λ (x : Point). pos 0 <ℤ orientation (P s) x (P (next (next s)))) (sym p) (turns s h) in
        let f = flat (P s) (P (next (next s))) in
        omega (arith, ints)

    -- a half-edge in use is no missing twin
    twin_some : (s x : ℕ) → x < used m → twin_of m s ≡ x → twin_of m s ≢ no_twin
    twin_some s x l e z = omega (arith, used_small)

    -- the twin's twin is the half-edge itself
    pub twin_back : (s x : ℕ) → s < used m → x < used m → twin_of m s ≡ x → twin_of m x ≡ s
    twin_back s x h l e = subst (λ (y : ℕ). twin_of m y ≡ s) e (σ.paired s h (twin_some s x l e))

    -- the twin runs the other way
    pub twin_opposite : (s x : ℕ) → s < used m → x < used m → twin_of m s ≡ x → ((half m x).origin ≡ (half m (next s)).origin) × ((half m (next x)).origin ≡ (half m s).origin)
    twin_opposite s x h l e =
        subst (λ (y : ℕ). ((half m y).origin ≡ (half m (next s)).origin) × ((half m (next y)).origin ≡ (half m s).origin)) e (σ.opposite s h (twin_some s x l e))

    -- the twin is neither the half-edge itself nor the next one
    pub twin_not_self : (s : ℕ) → s < used m → twin_of m s ≢ s
    twin_not_self s h e = ends_differ s h (twin_opposite s s h h e).0

    pub twin_not_next : (s : ℕ) → s < used m → twin_of m s ≢ next s
    twin_not_next s h e =
        let l = next_used m s h in
        let k = next_used m (next s) l in
        ends_differ (next (next s)) k ((twin_opposite s (next s) h l e).1 ∙ ap (λ x. (half m x).origin) (sym (next_thrice s)))
