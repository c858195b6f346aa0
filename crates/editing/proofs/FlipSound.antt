-- A flip keeps a mesh sound, and the edge may be flipped again.
use Rattle.std.proofs.Common.{◌≡◌, ℕ, ◌*◌, ◌<◌, ◌≤◌, Bool, true, cond, not, ◌&&◌, T, eqb, ltb, ◌≢◌, ◌↔◌, ℤ, pos, ◌<ℤ◌, sym, refl, ap, ◌∙◌, subst, ⊎_elim, arith}
use lib.Signed.{lt_z_yes}
use Rattle.std.proofs.lemmas.Bool.{eq-eqb, ne_eqb, eqb-false, ltb-true, not-true, and_parts, cases_eq, cond_both}
use Rattle.arith.proofs.Reindexing.{tally_permuted}
use Rattle.mesh.specs.declared.Point.{Point}
use Rattle.mesh.specs.Geometry.{orientation, positive, place}
use Rattle.mesh.specs.Meshes.{Mesh, next, previous, no_twin, used, half, vertex, origin_point, twin_of, has_twin}
use Rattle.mesh.specs.Sound.{Sound, on_border, along_border, EachTwin}
use Rattle.mesh.proofs.Decide.{true_T, T_true}
use Rattle.mesh.proofs.Orientations.{orientation_rotates}
use Rattle.mesh.proofs.Rings.{next_previous, previous_next, next_first, next_second, next_used, previous_used}
use Rattle.editing.specs.Flips.{is_interior, is_free, convex, is_flippable, turned, with_half_edges, flipped}
use Rattle.editing.proofs.Relabelling.{relabel, Different, Which, is_a, is_b, is_c, is_d, is_off, which, stays, at_a, at_b, at_c, at_d, four_steps, injective, cycle_below}
use Rattle.editing.proofs.Quadrilaterals.{Edge, Outside, Clear, clear, edge_of, edge_swapped, not_none, next_next, previous_previous, turns_at}
use Rattle.editing.proofs.Turns.{Turns, turns_next}
use Rattle.editing.proofs.Standing.{from, from_other, turned_at, turned_length}
use Rattle.editing.proofs.Sides.{in_rectangle, inner_diagonal}

-- the edge of an interior half-edge
pub interior_edge : (m : Mesh) → Sound m → (s : ℕ) → is_interior m s ≡ true → Edge m s (twin_of m s)
interior_edge m σ s e =
    let p = and_parts (ltb s (used m)) (has_twin m s) e in
    let l = ltb-true s (used m) p.0 in
    edge_of m σ s (twin_of m s) l (σ.twins s l (eqb-false (twin_of m s) no_twin (not-true (eqb (twin_of m s) no_twin) p.1))) refl

positive_known : (z : ℤ) → positive z ≡ true → pos 0 <ℤ z
positive_known z e = lt_z_yes (true_T _ e)

module _ (m : Mesh) (σ : Sound m) (s t : ℕ) (ε : Edge m s t) where
  -- the mesh after the flip
  abbrev pub M : Mesh
  M = with_half_edges m (turned m.half_edges s t)

  pub flipped_is : flipped m s ≡ M
  unfolding flipped
  flipped_is = ap (λ x. with_half_edges m (turned m.half_edges s x)) ε.is

  -- the outer four, which move on a → b → c → d → a
  abbrev a : ℕ
  a = next s

  abbrev b : ℕ
  b = previous t

  abbrev c : ℕ
  c = next t

  abbrev d : ℕ
  d = previous s

  abbrev ρ : ℕ → ℕ
  ρ x = relabel s t x

  abbrev origin : ℕ → ℕ
  origin x = (half m x).origin

  abbrev origin' : ℕ → ℕ
  origin' x = (half M x).origin

  κ : Clear m s t
  κ = clear m σ s t ε

  δ : Different a b c d
  δ = κ.different

  la : a < used m
  la = next_used m s ε.here

  lb : b < used m
  lb = previous_used m t ε.there

  lc : c < used m
  lc = next_used m t ε.there

  ld : d < used m
  ld = previous_used m s ε.here

  -- ---- labels

  pub label_below : (x : ℕ) → x < used m → ρ x < used m
  label_below x l = cycle_below a b c d δ (used m) x la lb lc ld l

  pub label_home : (x : ℕ) → ρ (ρ (ρ (ρ x))) ≡ x
  label_home = four_steps a b c d δ

  -- what holds at every label holds everywhere
  pub each : (P : ℕ → Type 0) → ((x : ℕ) → x < used m → P (ρ x)) → (y : ℕ) → y < used m → P y
  each P h y l = subst P (label_home y) (h (ρ (ρ (ρ y))) (label_below _ (label_below _ (label_below y l))))

  none_stays : ρ no_twin ≡ no_twin
  none_stays = stays a b c d no_twin (record {
    off_a = λ z. not_none m σ a la (sym z);
    off_b = λ z. not_none m σ b lb (sym z);
    off_c = λ z. not_none m σ c lc (sym z);
    off_d = λ z. not_none m σ d ld (sym z);
  })

  pub s_stays : ρ s ≡ s
  s_stays = stays a b c d s κ.s_off

  pub t_stays : ρ t ≡ t
  t_stays = stays a b c d t κ.t_off

  pub origin_at : (x : ℕ) → x < used m → origin' (ρ x) ≡ from m s t x
  origin_at x l = ap (λ h. h.origin) (turned_at m σ s t ε x l)

  pub twin_at : (x : ℕ) → x < used m → twin_of M (ρ x) ≡ ρ (twin_of m x)
  twin_at x l = ap (λ h. h.twin) (turned_at m σ s t ε x l)

  pub pin_at : (x : ℕ) → x < used m → (half M (ρ x)).pin ≡ (half m x).pin
  pin_at x l = ap (λ h. h.pin) (turned_at m σ s t ε x l)

  lone : (x : ℕ) → x < used m → twin_of M (ρ x) ≡ no_twin → twin_of m x ≡ no_twin
  lone x l z = injective a b c d δ _ _ (sym (twin_at x l) ∙ z ∙ sym none_stays)

  alone : (x : ℕ) → x < used m → twin_of m x ≡ no_twin → twin_of M (ρ x) ≡ no_twin
  alone x l z = twin_at x l ∙ ap ρ z ∙ none_stays

  -- what holds of every pair of twins before, at their new labels
  each_twin : (P : ℕ → ℕ → Type 0) → ((x w : ℕ) → Edge m x w → P (ρ x) (ρ w)) → EachTwin M P
  each_twin P h = each (λ y. twin_of M y ≢ no_twin → P y (twin_of M y)) (λ x l ne.
      let has : twin_of m x ≢ no_twin = λ z. ne (alone x l z) in
      subst (P (ρ x)) (sym (twin_at x l)) (h x (twin_of m x) (edge_of m σ x (twin_of m x) l (σ.twins x l has) refl)))

  -- ---- origins

  pub from_s : from m s t s ≡ origin b
  from_s = rw (ne_eqb s t κ.apart, eq-eqb s s refl) refl

  pub from_t : from m s t t ≡ origin d
  from_t = rw (eq-eqb t t refl) refl

  pub new_s : origin' s ≡ origin b
  new_s = ap origin' (sym s_stays) ∙ origin_at s ε.here ∙ from_s

  pub new_t : origin' t ≡ origin d
  new_t = ap origin' (sym t_stays) ∙ origin_at t ε.there ∙ from_t

  pub new_a : origin' a ≡ origin d
  new_a = ap origin' (sym (at_d a b c d δ)) ∙ origin_at d ld ∙ from_other m s t d (λ z. κ.s_off.off_d (sym z)) (λ z. κ.t_off.off_d (sym z))

  pub new_b : origin' b ≡ origin a
  new_b = ap origin' (sym (at_a a b c d δ)) ∙ origin_at a la ∙ from_other m s t a (λ z. κ.s_off.off_a (sym z)) (λ z. κ.t_off.off_a (sym z))

  pub new_c : origin' c ≡ origin b
  new_c = ap origin' (sym (at_b a b c d δ)) ∙ origin_at b lb ∙ from_other m s t b (λ z. κ.s_off.off_b (sym z)) (λ z. κ.t_off.off_b (sym z))

  pub new_d : origin' d ≡ origin c
  new_d = ap origin' (sym (at_c a b c d δ)) ∙ origin_at c lc ∙ from_other m s t c (λ z. κ.s_off.off_c (sym z)) (λ z. κ.t_off.off_c (sym z))

  new_outside : (j : ℕ) → j < used m → Outside s t j → origin' j ≡ origin j
  new_outside j l o = ap origin' (sym (stays a b c d j o.off)) ∙ origin_at j l ∙ from_other m s t j o.not_s o.not_t

  before : (j y : ℕ) → next j ≡ y → j ≡ previous y
  before j y z = sym (previous_next j) ∙ ap previous z

  outside_next : (j : ℕ) → Outside s t j → Outside s t (next j)
  outside_next j o = record {
    not_s = λ z. o.off.off_d (before j s z);
    not_t = λ z. o.off.off_b (before j t z);
    off = record {
      off_a = λ z. o.not_s (before j a z ∙ previous_next s);
      off_b = λ z. o.off.off_c (before j b z ∙ previous_previous t);
      off_c = λ z. o.not_t (before j c z ∙ previous_next t);
      off_d = λ z. o.off.off_a (before j d z ∙ previous_previous s);
    };
  }

  data Place (x : ℕ) : Type 0 where
    at_s : x ≡ s → Place x
    at_t : x ≡ t → Place x
    at_four : x ≢ s → x ≢ t → Which a b c d x → Place x

  place_of : (x : ℕ) → Place x
  place_of x = ⊎_elim at_s (λ n. ⊎_elim at_t (λ k. at_four n k (which a b c d x)) (cases_eq x t)) (cases_eq x s)

  -- where half-edge x ends after the flip
  abbrev to : ℕ → ℕ
  to x = cond (eqb x t) (origin b) (cond (eqb x s) (origin d) (origin (next x)))

  to_s : to s ≡ origin d
  to_s = rw (ne_eqb s t κ.apart, eq-eqb s s refl) refl

  to_t : to t ≡ origin b
  to_t = rw (eq-eqb t t refl) refl

  to_other : (x : ℕ) → x ≢ s → x ≢ t → to x ≡ origin (next x)
  to_other x n k = rw (ne_eqb x t k, ne_eqb x s n) refl

  ends : (x : ℕ) → x < used m → Place x → origin' (next (ρ x)) ≡ to x
  ends x l (at_s e) = subst (λ (y : ℕ). origin' (next (ρ y)) ≡ to y) (sym e) (ap (λ y. origin' (next y)) s_stays ∙ new_a ∙ sym to_s)
  ends x l (at_t e) = subst (λ (y : ℕ). origin' (next (ρ y)) ≡ to y) (sym e) (ap (λ y. origin' (next y)) t_stays ∙ new_c ∙ sym to_t)
  ends x l (at_four n k (is_a e)) =
      ap (λ y. origin' (next y)) (ap ρ e ∙ at_a a b c d δ) ∙ ap origin' (next_previous t) ∙ new_t
      ∙ sym (to_other x n k ∙ ap (λ y. origin (next y)) e ∙ ap origin (next_next s))
  ends x l (at_four n k (is_b e)) =
      ap (λ y. origin' (next y)) (ap ρ e ∙ at_b a b c d δ) ∙ ap origin' (next_next t) ∙ new_b
      ∙ sym (to_other x n k ∙ ap (λ y. origin (next y)) e ∙ ap origin (next_previous t) ∙ ε.head)
  ends x l (at_four n k (is_c e)) =
      ap (λ y. origin' (next y)) (ap ρ e ∙ at_c a b c d δ) ∙ ap origin' (next_previous s) ∙ new_s
      ∙ sym (to_other x n k ∙ ap (λ y. origin (next y)) e ∙ ap origin (next_next t))
  ends x l (at_four n k (is_d e)) =
      ap (λ y. origin' (next y)) (ap ρ e ∙ at_d a b c d δ) ∙ ap origin' (next_next s) ∙ new_d
      ∙ sym (to_other x n k ∙ ap (λ y. origin (next y)) e ∙ ap origin (next_previous s) ∙ sym ε.tail)
  ends x l (at_four n k (is_off f)) =
      ap (λ y. origin' (next y)) (stays a b c d x f)
      ∙ new_outside (next x) (next_used m x l) (outside_next x (record { not_s = n; not_t = k; off = f }))
      ∙ sym (to_other x n k)

  end_at : (x : ℕ) → x < used m → origin' (next (ρ x)) ≡ to x
  end_at x l = ends x l (place_of x)

  -- twins still run opposite ways
  meets : (x w : ℕ) → Edge m x w → from m s t w ≡ to x
  meets x w e =
      ⊎_elim
      (λ z. ap (from m s t) (sym e.is ∙ ap (twin_of m) z ∙ ε.is) ∙ from_t ∙ sym (ap to z ∙ to_s))
      (λ n. ⊎_elim
      (λ z. ap (from m s t) (sym e.is ∙ ap (twin_of m) z ∙ ε.back) ∙ from_s ∙ sym (ap to z ∙ to_t))
      (λ k. from_other m s t w
      (λ z. k (sym e.back ∙ ap (twin_of m) z ∙ ε.is))
      (λ z. n (sym e.back ∙ ap (twin_of m) z ∙ ε.back))
      ∙ e.head ∙ sym (to_other x n k))
      (cases_eq x t))
      (cases_eq x s)

  -- ---- the two new faces

  module _ (one : pos 0 <ℤ orientation (origin_point m b) (origin_point m a) (origin_point m d)) (two : pos 0 <ℤ orientation (origin_point m d) (origin_point m s) (origin_point m b)) where
    abbrev at : ℕ → Point
    at v = place (vertex m v)

    turns_by : (i u v w : ℕ) → origin' i ≡ u → origin' (next i) ≡ v → origin' (next (next i)) ≡ w → pos 0 <ℤ orientation (at u) (at v) (at w) → Turns M i
    turns_by i u v w p q r h =
        subst (λ (z : ℤ). pos 0 <ℤ z)
        (sym (ap (λ x. orientation (at x) (at (origin' (next i))) (at (origin' (next (next i))))) p
        ∙ ap (λ x. orientation (at u) (at x) (at (origin' (next (next i))))) q
        ∙ ap (λ x. orientation (at u) (at v) (at x)) r))
        h

    turns_s : Turns M s
    turns_s = turns_by s (origin b) (origin d) (origin s) new_s new_a (ap origin' (next_next s) ∙ new_d ∙ ε.tail)
        (subst (λ (z : ℤ). pos 0 <ℤ z) (orientation_rotates (at (origin b)) (at (origin d)) (at (origin s))) two)

    turns_t : Turns M t
    turns_t = turns_by t (origin d) (origin b) (origin a) new_t new_c (ap origin' (next_next t) ∙ new_b)
        (subst (λ (z : ℤ). pos 0 <ℤ z) (orientation_rotates (at (origin d)) (at (origin b)) (at (origin a))) one)

    turns_outside : (i : ℕ) → i < used m → Outside s t i → Turns M i
    turns_outside i l o =
        let l' = next_used m i l in
        let o' = outside_next i o in
        turns_by i (origin i) (origin (next i)) (origin (next (next i))) (new_outside i l o) (new_outside (next i) l' o')
        (new_outside (next (next i)) (next_used m (next i) l') (outside_next (next i) o'))
        (turns_at m σ i l)

    turns : (i : ℕ) → i < used m → Place i → Turns M i
    turns i l (at_s e) = subst (Turns M) (sym e) turns_s
    turns i l (at_t e) = subst (Turns M) (sym e) turns_t
    turns i l (at_four n k (is_a e)) = subst (Turns M) (sym e) (turns_next M s turns_s)
    turns i l (at_four n k (is_b e)) = subst (Turns M) (next_next t ∙ sym e) (turns_next M c (turns_next M t turns_t))
    turns i l (at_four n k (is_c e)) = subst (Turns M) (sym e) (turns_next M t turns_t)
    turns i l (at_four n k (is_d e)) = subst (Turns M) (next_next s ∙ sym e) (turns_next M a (turns_next M s turns_s))
    turns i l (at_four n k (is_off f)) = turns_outside i l (record { not_s = n; not_t = k; off = f })

    -- ---- the border

    abbrev Agrees : ℕ → Type 0
    Agrees y = (twin_of M y ≡ no_twin) ↔ T (along_border M y)

    abbrev along : ℕ → ℕ → Bool
    along u v = on_border m.header (at u) (at v)

    in_border : (x u v : ℕ) → x < used m → from m s t x ≡ u → to x ≡ v → (twin_of m x ≡ no_twin) ↔ T (along u v) → Agrees (ρ x)
    in_border x u v l p q h =
        let e : along_border M (ρ x) ≡ along u v =
        ap (λ y. along y (origin' (next (ρ x)))) (origin_at x l ∙ p) ∙ ap (along u) (end_at x l ∙ q) in
        ((λ z. subst T (sym e) (h.0 (lone x l z))), (λ w. alone x l (h.1 (subst T e w))))

    inside : (x : ℕ) → x < used m → ((vertex m (origin x)).east ≤ m.header.width) × ((vertex m (origin x)).north ≤ m.header.depth)
    inside x l = in_rectangle m σ (origin x) (σ.origins x l)

    border_at : (x : ℕ) → x < used m → Place x → Agrees (ρ x)
    border_at x l (at_s e) =
        subst (λ (y : ℕ). Agrees (ρ y)) (sym e) (in_border s (origin b) (origin d) ε.here from_s to_s (
          (λ z. absurd (not_none m σ t ε.there (sym ε.is ∙ z))),
          (λ w. absurd (inner_diagonal m.header (at (origin b)) (at (origin a)) (at (origin d)) (at (origin s)) (inside a la) (inside s ε.here) one two (T_true _ w))),
        ))
    border_at x l (at_t e) =
        subst (λ (y : ℕ). Agrees (ρ y)) (sym e) (in_border t (origin d) (origin b) ε.there from_t to_t (
          (λ z. absurd (not_none m σ s ε.here (sym ε.back ∙ z))),
          (λ w. absurd (inner_diagonal m.header (at (origin d)) (at (origin s)) (at (origin b)) (at (origin a)) (inside s ε.here) (inside a la) two one (T_true _ w))),
        ))
    border_at x l (at_four n k f) = in_border x (origin x) (origin (next x)) l (from_other m s t x n k) (to_other x n k) (σ.border x l)

    -- ---- all of it

    from_below : (x : ℕ) → x < used m → from m s t x < m.header.count
    from_below x l =
        cond_both (eqb x t) (origin d) _ (λ (v : ℕ). v < m.header.count) (λ _. σ.origins d ld)
        (λ _. cond_both (eqb x s) (origin b) (origin x) (λ (v : ℕ). v < m.header.count) (λ _. σ.origins b lb) (λ _. σ.origins x l))

    lone_test : (x : ℕ) → x < used m → not (has_twin M (ρ x)) ≡ not (has_twin m x)
    lone_test x l = ap (λ y. not (not y)) (⊎_elim
        (λ z. eq-eqb _ _ (alone x l z) ∙ sym (eq-eqb _ _ z))
        (λ n. ne_eqb _ _ (λ z. n (lone x l z)) ∙ sym (ne_eqb _ _ n))
        (cases_eq (twin_of m x) no_twin))

    pub sound_turned : Sound M
    sound_turned = record {
      width = σ.width;
      depth = σ.depth;
      count = σ.count;
      vertices_fit = σ.vertices_fit;
      half_edges_fit = subst (λ (n : ℕ). used m ≤ n) (sym (turned_length m σ s t ε)) σ.half_edges_fit;
      southwest = σ.southwest;
      southeast = σ.southeast;
      northeast = σ.northeast;
      northwest = σ.northwest;
      inside = σ.inside;
      heights = σ.heights;
      origins = each (λ y. origin' y < m.header.count) (λ x l. subst (λ (v : ℕ). v < m.header.count) (sym (origin_at x l)) (from_below x l));
      twins = each_twin (λ y w. w < used m) (λ x w e. label_below w e.there);
      pins = each (λ y. (half M y).pin ≤ 1) (λ x l. subst (λ (v : ℕ). v ≤ 1) (sym (pin_at x l)) (σ.pins x l));
      faces_turn = λ f l.
          let i : 3 * f < used m = omega arith in
          rw (← next_second f, ← next_first f) (turns (3 * f) i (place_of (3 * f)));
      paired = each_twin (λ y w. twin_of M w ≡ y) (λ x w e. twin_at w e.there ∙ ap ρ e.back);
      opposite = each_twin (λ y w. (origin' w ≡ origin' (next y)) × (origin' (next w) ≡ origin' y)) (λ x w e. (
        origin_at w e.there ∙ meets x w e ∙ sym (end_at x e.here),
        end_at w e.there ∙ sym (meets w x (edge_swapped m x w e)) ∙ sym (origin_at x e.here),
      ));
      pins_agree = each_twin (λ y w. (half M w).pin ≡ (half M y).pin) (λ x w e. pin_at w e.there ∙ e.pins ∙ sym (pin_at x e.here));
      border = each Agrees (λ x l. border_at x l (place_of x));
      border_unpinned = each (λ y. twin_of M y ≡ no_twin → (half M y).pin ≡ 0) (λ x l z. pin_at x l ∙ σ.border_unpinned x l (lone x l z));
      four =
          tally_permuted (λ x. not (has_twin m x)) (λ x. not (has_twin M x)) (used m) ρ (λ x. ρ (ρ (ρ x)))
          (record {
            below = label_below;
            below_back = λ x l. label_below _ (label_below _ (label_below x l));
            there = λ x l. label_home x;
            back = λ x l. label_home x;
          })
          lone_test
          ∙ σ.four;
    }

-- ---- an edge that may be flipped

pub record Flippable (m : Mesh) (s t : ℕ) : Type 0 where
  pub edge : Edge m s t
  pub free : is_free (half m s).pin ≡ true
  pub one : pos 0 <ℤ orientation (origin_point m (previous t)) (origin_point m (next s)) (origin_point m (previous s))
  pub two : pos 0 <ℤ orientation (origin_point m (previous s)) (origin_point m s) (origin_point m (previous t))

pub flippable_known : (m : Mesh) → Sound m → (s : ℕ) → is_flippable m s ≡ true → Flippable m s (twin_of m s)
unfolding convex
flippable_known m σ s e =
    let p = and_parts (is_interior m s && is_free (half m s).pin) (convex m s) e in
    let q = and_parts (is_interior m s) (is_free (half m s).pin) p.0 in
    let t = twin_of m s in
    let c = and_parts
    (positive (orientation (origin_point m (previous t)) (origin_point m (next s)) (origin_point m (previous s))))
    (positive (orientation (origin_point m (previous s)) (origin_point m s) (origin_point m (previous t)))) p.1 in
    record { edge = interior_edge m σ s q.0; free = q.1; one = positive_known _ c.0; two = positive_known _ c.1 }
