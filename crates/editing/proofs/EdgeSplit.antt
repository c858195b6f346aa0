-- An edge cut at a new vertex on it leaves a sound mesh.
use Rattle.std.proofs.Common.{◌≡◌, ℕ, ◌+◌, ◌-◌, ◌*◌, ◌/◌, ◌<◌, ◌≤◌, true, ◌≢◌, ◌⊎◌, List, [], ◌∷◌, length, ℤ, pos, ◌<ℤ◌, sym, refl, ap, ◌∙◌, subst, inl, inr, ⊎_elim, arith, lit<}
use Rattle.std.proofs.lemmas.Bool.{cases_eq, cases_lt}
use Rattle.mesh.specs.declared.Point.{Point}
use Rattle.mesh.specs.declared.Vertex.{Vertex}
use Rattle.mesh.specs.declared.HalfEdge.{HalfEdge}
use Rattle.mesh.specs.Geometry.{orientation, place}
use Rattle.mesh.specs.Meshes.{Mesh, next, previous, no_twin, used, faces, half_at, half, origin_point, twin_of}
use Rattle.mesh.specs.Sound.{Sound, strictly_inside}
use Rattle.mesh.proofs.Orientations.{orientation_rotates}
use Rattle.mesh.proofs.Rings.{next_thrice, next_used}
use Rattle.mesh.specs.Edits.{half_edge, split_edge, with_vertex}
use Rattle.editing.proofs.Writes.{Write, write, written, Distinct, length_written, read_at, read_else}
use Rattle.editing.proofs.Sixes.{six_places, next_0, next_1, next_2, next_3, next_4, next_5, new_faces}
use Rattle.editing.proofs.Turns.{previous_is, next_injective, next_same_face, same_turn, face_turns_from, ends_differ, used_small, twin_back, twin_opposite, twin_not_self, twin_not_next}
use Rattle.editing.proofs.Moves.{Moves, two_moved, length_two, held_first, held_second, held_else}
use Rattle.editing.proofs.Splits.{Fresh, fresh_twin, end_at, Split, point_kept, point_new, split_sound}

module _ (m : Mesh) (σ : Sound m) (w : Vertex) (low : w.height ≤ 32767) (inner : strictly_inside m.header (place w) ≡ true)
    (few : m.header.count < 1024) (vertex_room : m.header.count < length m.vertices) (room : used m + 6 ≤ length m.half_edges)
    (s : ℕ) (in_use : s < used m) (some : twin_of m s ≢ no_twin) where
  abbrev hs : List HalfEdge
  hs = m.half_edges

  abbrev n : ℕ
  n = used m

  abbrev v : ℕ
  v = m.header.count

  abbrev t : ℕ
  t = twin_of m s

  abbrev b : ℕ
  b = next s

  abbrev c : ℕ
  c = next t

  abbrev pin : ℕ
  pin = (half m s).pin

  abbrev L : List HalfEdge
  L = two_moved hs b c (n + 1) (n + 4)

  abbrev ws : List Write
  ws =
      write (n + 5) (half_edge (half_at hs (previous t)).origin c 0)
      ∷ write (n + 3) (half_edge v s pin)
      ∷ write (n + 2) (half_edge (half_at hs (previous s)).origin b 0)
      ∷ write n (half_edge v t pin)
      ∷ write c (half_edge v (n + 5) 0)
      ∷ write b (half_edge v (n + 2) 0)
      ∷ write t (half_edge (half_at hs t).origin n pin)
      ∷ write s (half_edge (half_at hs s).origin (n + 3) pin)
      ∷ []

  abbrev hs' : List HalfEdge
  hs' = written L ws

  -- ---- the four half-edges s, t, b and c are in use and differ

  t_used : t < n
  t_used = σ.twins s in_use some

  b_used : b < n
  b_used = next_used m s in_use

  c_used : c < n
  c_used = next_used m t t_used

  bb_used : next b < n
  bb_used = next_used m b b_used

  cc_used : next c < n
  cc_used = next_used m c c_used

  back : twin_of m t ≡ s
  back = σ.paired s in_use some

  -- s runs from p to q, t from q to p
  starts : (half m t).origin ≡ (half m b).origin
  starts = (σ.opposite s in_use some).0

  ends : (half m c).origin ≡ (half m s).origin
  ends = (σ.opposite s in_use some).1

  next_differs : (i : ℕ) → i < n → next i ≢ i
  next_differs i h e = ends_differ m σ i h (ap (λ x. (half m x).origin) (sym e))

  t≢s : t ≢ s
  t≢s = twin_not_self m σ s in_use

  b≢s : b ≢ s
  b≢s = next_differs s in_use

  c≢t : c ≢ t
  c≢t = next_differs t t_used

  b≢t : b ≢ t
  b≢t e = twin_not_next m σ s in_use (sym e)

  c≢s : c ≢ s
  c≢s e = twin_not_next m σ t t_used (back ∙ sym e)

  c≢b : c ≢ b
  c≢b e = t≢s (next_injective t s e)

  -- the ones after s and t move
  moves : Moves m b c (n + 1) (n + 4)
  moves = record {
    room = room;
    first = b_used;
    second = c_used;
    apart = c≢b;
    unpaired = λ e.
        ends_differ m σ (next b) bb_used
        (sym (twin_opposite m σ b c b_used c_used e).0 ∙ ends ∙ ap (λ x. (half m x).origin) (sym (next_thrice s)));
    first_new = (omega arith, omega arith);
    second_new = (omega arith, omega arith);
    apart_new = λ e. omega arith;
  }

  long : n + 6 ≤ length L
  long = omega (arith, room, length_two m σ b c (n + 1) (n + 4) moves)

  -- ---- what stands where

  -- the eight other writes are at eight indices
  distinct : Distinct (length L) ws
  distinct =
      let y = long in
      let tu = t_used in
      let bu = b_used in
      let cu = c_used in (
        omega arith,
        ((λ e. omega arith), ((λ e. omega arith), ((λ e. omega arith), ((λ e. omega arith), ((λ e. omega arith), ((λ e. omega arith), ((λ e. omega arith), tt))))))),
        (
          omega arith,
          ((λ e. omega arith), ((λ e. omega arith), ((λ e. omega arith), ((λ e. omega arith), ((λ e. omega arith), ((λ e. omega arith), tt)))))),
          (
            omega arith,
            ((λ e. omega arith), ((λ e. omega arith), ((λ e. omega arith), ((λ e. omega arith), ((λ e. omega arith), tt))))),
            (
              omega arith,
              ((λ e. omega arith), ((λ e. omega arith), ((λ e. omega arith), ((λ e. omega arith), tt)))),
              (
                omega arith,
                (c≢b, (c≢t, (c≢s, tt))),
                (
                  omega arith,
                  (b≢t, (b≢s, tt)),
                  (
                    omega arith,
                    (t≢s, tt),
                    (omega arith, tt, tt),
                  ),
                ),
              ),
            ),
          ),
        ),
      )

  at_5 : half_at hs' (n + 5) ≡ half_edge (half m (next c)).origin c 0
  at_5 = read_at L ws distinct 0 (lit< tt) ∙ ap (λ x. half_edge (half m x).origin c 0) (previous_is t)

  at_3 : half_at hs' (n + 3) ≡ half_edge v s pin
  at_3 = read_at L ws distinct 1 (lit< tt)

  at_2 : half_at hs' (n + 2) ≡ half_edge (half m (next b)).origin b 0
  at_2 = read_at L ws distinct 2 (lit< tt) ∙ ap (λ x. half_edge (half m x).origin b 0) (previous_is s)

  at_0 : half_at hs' n ≡ half_edge v t pin
  at_0 = read_at L ws distinct 3 (lit< tt)

  at_c : half_at hs' c ≡ half_edge v (n + 5) 0
  at_c = read_at L ws distinct 4 (lit< tt)

  at_b : half_at hs' b ≡ half_edge v (n + 2) 0
  at_b = read_at L ws distinct 5 (lit< tt)

  at_t : half_at hs' t ≡ half_edge (half m t).origin n pin
  at_t = read_at L ws distinct 6 (lit< tt)

  at_s : half_at hs' s ≡ half_edge (half m s).origin (n + 3) pin
  at_s = read_at L ws distinct 7 (lit< tt)

  at_1 : half_at hs' (n + 1) ≡ half_at L (n + 1)
  at_1 =
      let tu = t_used in
      let bu = b_used in
      let cu = c_used in
      read_else L ws (n + 1) ((λ e. omega arith), ((λ e. omega arith), ((λ e. omega arith), ((λ e. omega arith), ((λ e. omega arith), ((λ e. omega arith), ((λ e. omega arith), ((λ e. omega arith), tt))))))))

  at_4 : half_at hs' (n + 4) ≡ half_at L (n + 4)
  at_4 =
      let tu = t_used in
      let bu = b_used in
      let cu = c_used in
      read_else L ws (n + 4) ((λ e. omega arith), ((λ e. omega arith), ((λ e. omega arith), ((λ e. omega arith), ((λ e. omega arith), ((λ e. omega arith), ((λ e. omega arith), ((λ e. omega arith), tt))))))))

  abbrev Stays : ℕ → Type 0
  Stays i = (i ≡ s → ⊥) × (i ≡ t → ⊥)

  at_else : (i : ℕ) → i < n → (i ≡ b → ⊥) → (i ≡ c → ⊥) → Stays i → half_at hs' i ≡ half_at L i
  at_else i h p q st =
      read_else L ws i ((λ e. omega arith), ((λ e. omega arith), ((λ e. omega arith), ((λ e. omega arith), (q, (p, (st.1, (st.0, tt))))))))

  -- ---- origins

  -- the moved half-edges keep their origins, and so do all but those after s and t
  origin_1 : (half_at hs' (n + 1)).origin ≡ (half m b).origin
  origin_1 = ap (λ h. h.origin) at_1 ∙ (held_first m σ b c (n + 1) (n + 4) moves).origin

  origin_4 : (half_at hs' (n + 4)).origin ≡ (half m c).origin
  origin_4 = ap (λ h. h.origin) at_4 ∙ (held_second m σ b c (n + 1) (n + 4) moves).origin

  origin_else : (i : ℕ) → i < n → (i ≡ b → ⊥) → (i ≡ c → ⊥) → (half_at hs' i).origin ≡ (half m i).origin
  origin_else i h p q =
      ⊎_elim
      (λ e. subst (λ (x : ℕ). (half_at hs' x).origin ≡ (half m x).origin) (sym e) (ap (λ x. x.origin) at_s))
      (λ a. ⊎_elim
      (λ e. subst (λ (x : ℕ). (half_at hs' x).origin ≡ (half m x).origin) (sym e) (ap (λ x. x.origin) at_t))
      (λ d. ap (λ x. x.origin) (at_else i h p q (a, d)) ∙ (held_else m σ b c (n + 1) (n + 4) moves i h p q).origin)
      (cases_eq i t))
      (cases_eq i s)

  -- where each half-edge of the four faces ends
  end_s : (half_at hs' (next s)).origin ≡ v
  end_s = ap (λ h. h.origin) at_b

  end_t : (half_at hs' (next t)).origin ≡ v
  end_t = ap (λ h. h.origin) at_c

  end_b : (half_at hs' (next b)).origin ≡ (half m (next b)).origin
  end_b = origin_else (next b) bb_used (next_differs b b_used) (λ e. b≢t (next_injective b t e))

  end_c : (half_at hs' (next c)).origin ≡ (half m (next c)).origin
  end_c = origin_else (next c) cc_used (λ e. c≢s (next_injective c s e)) (next_differs c c_used)

  end_0 : (half_at hs' (next n)).origin ≡ (half m t).origin
  end_0 = end_at hs' n (n + 1) (half m t).origin (next_0 (m.header.count - 3)) (origin_1 ∙ sym starts)

  end_1 : (half_at hs' (next (n + 1))).origin ≡ (half m (next b)).origin
  end_1 = end_at hs' (n + 1) (n + 2) (half m (next b)).origin (next_1 (m.header.count - 3)) (ap (λ h. h.origin) at_2)

  end_2 : (half_at hs' (next (n + 2))).origin ≡ v
  end_2 = end_at hs' (n + 2) n v (next_2 (m.header.count - 3)) (ap (λ h. h.origin) at_0)

  end_3 : (half_at hs' (next (n + 3))).origin ≡ (half m s).origin
  end_3 = end_at hs' (n + 3) (n + 4) (half m s).origin (next_3 (m.header.count - 3)) (origin_4 ∙ ends)

  end_4 : (half_at hs' (next (n + 4))).origin ≡ (half m (next c)).origin
  end_4 = end_at hs' (n + 4) (n + 5) (half m (next c)).origin (next_4 (m.header.count - 3)) (ap (λ h. h.origin) at_5)

  end_5 : (half_at hs' (next (n + 5))).origin ≡ v
  end_5 = end_at hs' (n + 5) (n + 3) v (next_5 (m.header.count - 3)) (ap (λ h. h.origin) at_3)

  end_else : (i : ℕ) → i < n → Stays i → (half_at hs' (next i)).origin ≡ (half m (next i)).origin
  end_else i h st =
      origin_else (next i) (next_used m i h) (λ e. st.0 (next_injective i s e)) (λ e. st.1 (next_injective i t e))

  -- ---- the new half-edges, as four pairs of twins

  low_origin : (i : ℕ) → i < n → (half m i).origin ≤ v
  low_origin i h = omega (arith, σ.origins i h)

  abbrev FreshAt : ℕ → Type 0
  FreshAt j = Fresh m hs' j

  fresh_s : FreshAt s
  fresh_s = fresh_twin m hs' s (n + 3) (half m s).origin v pin at_s at_3 end_s end_3 (omega arith) (σ.pins s in_use) (low_origin s in_use) (inr refl)

  fresh_3 : FreshAt (n + 3)
  fresh_3 = fresh_twin m hs' (n + 3) s v (half m s).origin pin at_3 at_s end_3 end_s (omega arith) (σ.pins s in_use) (omega arith) (inl refl)

  fresh_t : FreshAt t
  fresh_t = fresh_twin m hs' t n (half m t).origin v pin at_t at_0 end_t end_0 (omega arith) (σ.pins s in_use) (low_origin t t_used) (inr refl)

  fresh_0 : FreshAt n
  fresh_0 = let tu = t_used in fresh_twin m hs' n t v (half m t).origin pin at_0 at_t end_0 end_t (omega arith) (σ.pins s in_use) (omega arith) (inl refl)

  fresh_b : FreshAt b
  fresh_b = fresh_twin m hs' b (n + 2) v (half m (next b)).origin 0 at_b at_2 end_b end_2 (omega arith) (omega arith) (omega arith) (inl refl)

  fresh_2 : FreshAt (n + 2)
  fresh_2 = let bu = b_used in fresh_twin m hs' (n + 2) b (half m (next b)).origin v 0 at_2 at_b end_2 end_b (omega arith) (omega arith) (low_origin (next b) bb_used) (inr refl)

  fresh_c : FreshAt c
  fresh_c = fresh_twin m hs' c (n + 5) v (half m (next c)).origin 0 at_c at_5 end_c end_5 (omega arith) (omega arith) (omega arith) (inl refl)

  fresh_5 : FreshAt (n + 5)
  fresh_5 = let cu = c_used in fresh_twin m hs' (n + 5) c (half m (next c)).origin v 0 at_5 at_c end_5 end_c (omega arith) (omega arith) (low_origin (next c) cc_used) (inr refl)

  abbrev Covered : ℕ → Type 0
  Covered j = (j ≡ n + 1) ⊎ ((j ≡ n + 4) ⊎ (((j < n) × (j ≡ b → ⊥) × (j ≡ c → ⊥) × Stays j) ⊎ Fresh m hs' j))

  fresh_at : (j i : ℕ) → FreshAt i → j ≡ i → Covered j
  fresh_at j i φ e = inr (inr (inr (subst FreshAt (sym e) φ)))

  -- each half-edge in use moved, stayed or is new
  covers : (j : ℕ) → j < n + 6 → Covered j
  covers j h =
      ⊎_elim
      (λ l. ⊎_elim (fresh_at j b fresh_b)
      (λ p. ⊎_elim (fresh_at j c fresh_c)
      (λ q. ⊎_elim (fresh_at j s fresh_s)
      (λ a. ⊎_elim (fresh_at j t fresh_t) (λ d. inr (inr (inl (l, p, q, (a, d))))) (cases_eq j t))
      (cases_eq j s)) (cases_eq j c)) (cases_eq j b))
      (λ l. ⊎_elim (fresh_at j n fresh_0) (⊎_elim inl (⊎_elim (fresh_at j (n + 2) fresh_2) (⊎_elim (fresh_at j (n + 3) fresh_3) (⊎_elim (λ e. inr (inl e)) (fresh_at j (n + 5) fresh_5)))))
      (six_places n j l h))
      (cases_lt j n)

  -- s and t alone do not stay, and are twins
  stays_twin : (i : ℕ) → i < n → Stays i → Stays (twin_of m i)
  stays_twin i h st = (
    (λ e. st.1 (sym (twin_back m σ i s h in_use e))),
    (λ e. st.0 (sym (twin_back m σ i t h t_used e) ∙ back)),
  )

  gone : (i : ℕ) → Stays i ⊎ (twin_of m i ≢ no_twin)
  gone i =
      ⊎_elim
      (λ e. inr (λ z. some (ap (λ x. twin_of m x) (sym e) ∙ z)))
      (λ a. ⊎_elim
      (λ e. inr (λ z. let y : s ≡ no_twin = sym back ∙ ap (λ x. twin_of m x) (sym e) ∙ z in omega (arith, used_small m σ)))
      (λ d. inl (a, d))
      (cases_eq i t))
      (cases_eq i s)

  -- ---- the faces, with p → q the edge, r and u the third corners left and right of it

  abbrev p : Point
  p = origin_point m s

  abbrev q : Point
  q = origin_point m b

  abbrev r : Point
  r = origin_point m (next b)

  abbrev u : Point
  u = origin_point m (next c)

  module _ (rp : pos 0 <ℤ orientation r p (place w)) (qr : pos 0 <ℤ orientation q r (place w))
      (pu : pos 0 <ℤ orientation p u (place w)) (uq : pos 0 <ℤ orientation u q (place w)) where
    abbrev m' : Mesh
    m' = with_vertex m w hs'

    abbrev P : ℕ → Point
    P i = origin_point m' i

    kept_point : (j i : ℕ) → i < n → (half_at hs' j).origin ≡ (half m i).origin → P j ≡ origin_point m i
    kept_point = point_kept m σ w vertex_room hs'

    new_point : (j : ℕ) → (half_at hs' j).origin ≡ v → P j ≡ place w
    new_point = point_new m σ w vertex_room hs'

    turned : (x y z : Point) → pos 0 <ℤ orientation x y z → pos 0 <ℤ orientation y z x
    turned x y z h = subst (λ (k : ℤ). pos 0 <ℤ k) (sym (orientation_rotates x y z)) h

    -- (p, w, r), (q, w, u), (w, q, r), (w, p, u)
    turns_s : pos 0 <ℤ orientation (P s) (P (next s)) (P (next (next s)))
    turns_s =
        same_turn (P s) (P b) (P (next b)) p (place w) r
        (kept_point s s in_use (ap (λ x. x.origin) at_s)) (new_point b end_s) (kept_point (next b) (next b) bb_used end_b)
        (turned r p (place w) rp)

    turns_t : pos 0 <ℤ orientation (P t) (P (next t)) (P (next (next t)))
    turns_t =
        same_turn (P t) (P c) (P (next c)) q (place w) u
        (kept_point t b b_used (ap (λ x. x.origin) at_t ∙ starts)) (new_point c end_t) (kept_point (next c) (next c) cc_used end_c)
        (turned u q (place w) uq)

    turns_0 : pos 0 <ℤ orientation (P n) (P (n + 1)) (P (n + 2))
    turns_0 =
        same_turn (P n) (P (n + 1)) (P (n + 2)) (place w) q r
        (new_point n (ap (λ x. x.origin) at_0)) (kept_point (n + 1) b b_used origin_1) (kept_point (n + 2) (next b) bb_used (ap (λ x. x.origin) at_2))
        (turned r (place w) q (turned q r (place w) qr))

    turns_3 : pos 0 <ℤ orientation (P (n + 3)) (P (n + 4)) (P (n + 5))
    turns_3 =
        same_turn (P (n + 3)) (P (n + 4)) (P (n + 5)) (place w) p u
        (new_point (n + 3) (ap (λ x. x.origin) at_3)) (kept_point (n + 4) s in_use (origin_4 ∙ ends)) (kept_point (n + 5) (next c) cc_used (ap (λ x. x.origin) at_5))
        (turned u (place w) p (turned p u (place w) pu))

    -- the other faces have their points
    still : (g i : ℕ) → g < faces m → g ≢ s / 3 → g ≢ t / 3 → (3 * g ≤ i) × (i < 3 * g + 3) → P i ≡ origin_point m i
    still g i h a d l =
        let eb = next_same_face s in
        let ec = next_same_face t in
        kept_point i i (omega arith) (origin_else i (omega arith)
        (λ e. a (let z : i / 3 ≡ s / 3 = ap (λ x. x / 3) e ∙ eb in omega arith))
        (λ e. d (let z : i / 3 ≡ t / 3 = ap (λ x. x / 3) e ∙ ec in omega arith)))

    -- every face turns
    turning : (g : ℕ) → g < faces m + 2 → pos 0 <ℤ orientation (P (3 * g)) (P (3 * g + 1)) (P (3 * g + 2))
    turning g h =
        ⊎_elim
        (λ e. face_turns_from m' g s (omega arith, omega arith) turns_s)
        (λ a. ⊎_elim
        (λ e. face_turns_from m' g t (omega arith, omega arith) turns_t)
        (λ d. ⊎_elim
        (λ l.
        same_turn (P (3 * g)) (P (3 * g + 1)) (P (3 * g + 2)) (origin_point m (3 * g)) (origin_point m (3 * g + 1)) (origin_point m (3 * g + 2))
        (still g (3 * g) l a d (omega arith, omega arith)) (still g (3 * g + 1) l a d (omega arith, omega arith)) (still g (3 * g + 2) l a d (omega arith, omega arith))
        (σ.faces_turn g l))
        (λ l. new_faces m P g l h turns_0 turns_3)
        (cases_lt g (faces m)))
        (cases_eq g (t / 3)))
        (cases_eq g (s / 3))

    split : Split m w hs' b c (n + 1) (n + 4) Stays
    split = record {
      moves = moves;
      length_same = length_written L ws ∙ length_two m σ b c (n + 1) (n + 4) moves;
      at_first = at_1;
      at_second = at_4;
      at_else = at_else;
      end_first = end_1;
      end_second = end_4;
      end_else = λ i h _ _ st. end_else i h st;
      stays_first = (b≢s, b≢t);
      stays_second = (c≢s, c≢t);
      stays_twin = λ i h st _. stays_twin i h st;
      gone = λ i h. gone i;
      fresh_first = fresh_b;
      fresh_second = fresh_c;
      covers = covers;
      turning = turning;
    }

    -- the two faces cut in four
    pub split_edge_sound : Sound (with_vertex m w (split_edge m.half_edges s (used m) m.header.count))
    unfolding split_edge
    split_edge_sound = split_sound m σ w low inner few vertex_room hs' b c (n + 1) (n + 4) Stays split
