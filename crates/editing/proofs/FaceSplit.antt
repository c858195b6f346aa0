-- A face cut at a new vertex inside it leaves a sound mesh.
use Rattle.std.proofs.Common.{◌≡◌, ℕ, ◌+◌, ◌-◌, ◌*◌, ◌<◌, ◌≤◌, true, ◌⊎◌, List, [], ◌∷◌, length, pos, ◌<ℤ◌, sym, refl, ap, ◌∙◌, subst, inl, inr, ⊎_elim, arith, lit<}
use Rattle.std.proofs.lemmas.Bool.{cases_eq, cases_lt}
use Rattle.mesh.specs.declared.Point.{Point}
use Rattle.mesh.specs.declared.Vertex.{Vertex}
use Rattle.mesh.specs.declared.HalfEdge.{HalfEdge}
use Rattle.mesh.specs.Geometry.{orientation, place}
use Rattle.mesh.specs.Meshes.{Mesh, next, used, faces, half_at, half, origin_point}
use Rattle.mesh.specs.Sound.{Sound, strictly_inside}
use Rattle.mesh.proofs.Rings.{next_second, next_third, next_used}
use Rattle.mesh.specs.Edits.{half_edge, split_face, with_vertex}
use Rattle.editing.proofs.Writes.{Write, write, written, Distinct, length_written, read_at, read_else}
use Rattle.editing.proofs.Sixes.{six_places, next_0, next_1, next_2, next_3, next_4, next_5, new_faces}
use Rattle.editing.proofs.Turns.{next_injective, same_turn, twin_not_next}
use Rattle.editing.proofs.Moves.{Moves, two_moved, length_two, held_first, held_second, held_else}
use Rattle.editing.proofs.Splits.{Fresh, fresh_twin, end_at, Split, point_kept, point_new, split_sound}

module _ (m : Mesh) (σ : Sound m) (w : Vertex) (low : w.height ≤ 32767) (inner : strictly_inside m.header (place w) ≡ true)
    (few : m.header.count < 1024) (vertex_room : m.header.count < length m.vertices) (room : used m + 6 ≤ length m.half_edges)
    (f : ℕ) (in_use : f < faces m) where
  abbrev hs : List HalfEdge
  hs = m.half_edges

  abbrev n : ℕ
  n = used m

  abbrev v : ℕ
  v = m.header.count

  abbrev s : ℕ
  s = 3 * f

  abbrev b : ℕ
  b = 3 * f + 1

  abbrev c : ℕ
  c = 3 * f + 2

  abbrev L : List HalfEdge
  L = two_moved hs b c n (n + 3)

  abbrev ws : List Write
  ws =
      write (n + 5) (half_edge v (n + 1) 0)
      ∷ write (n + 4) (half_edge (half_at hs s).origin c 0)
      ∷ write (n + 2) (half_edge v b 0)
      ∷ write (n + 1) (half_edge (half_at hs c).origin (n + 5) 0)
      ∷ write c (half_edge v (n + 4) 0)
      ∷ write b (half_edge (half_at hs b).origin (n + 2) 0)
      ∷ []

  abbrev hs' : List HalfEdge
  hs' = written L ws

  c_used : c < n
  c_used = omega arith

  -- the second and third half-edge move
  moves : Moves m b c n (n + 3)
  moves = record {
    room = room;
    first = omega arith;
    second = omega arith;
    apart = λ e. omega arith;
    unpaired = λ e. twin_not_next m σ b (omega arith) (e ∙ sym (next_second f));
    first_new = (omega arith, omega arith);
    second_new = (omega arith, omega arith);
    apart_new = λ e. omega arith;
  }

  long : n + 6 ≤ length L
  long = omega (arith, room, length_two m σ b c n (n + 3) moves)

  -- ---- what stands where

  -- the six other writes are at six indices
  distinct : Distinct (length L) ws
  distinct =
      let z = c_used in
      let y = long in (
        omega arith,
        ((λ e. omega arith), ((λ e. omega arith), ((λ e. omega arith), ((λ e. omega arith), ((λ e. omega arith), tt))))),
        (
          omega arith,
          ((λ e. omega arith), ((λ e. omega arith), ((λ e. omega arith), ((λ e. omega arith), tt)))),
          (
            omega arith,
            ((λ e. omega arith), ((λ e. omega arith), ((λ e. omega arith), tt))),
            (
              omega arith,
              ((λ e. omega arith), ((λ e. omega arith), tt)),
              (
                omega arith,
                ((λ e. omega arith), tt),
                (omega arith, tt, tt),
              ),
            ),
          ),
        ),
      )

  at_5 : half_at hs' (n + 5) ≡ half_edge v (n + 1) 0
  at_5 = read_at L ws distinct 0 (lit< tt)

  at_4 : half_at hs' (n + 4) ≡ half_edge (half_at hs s).origin c 0
  at_4 = read_at L ws distinct 1 (lit< tt)

  at_2 : half_at hs' (n + 2) ≡ half_edge v b 0
  at_2 = read_at L ws distinct 2 (lit< tt)

  at_1 : half_at hs' (n + 1) ≡ half_edge (half_at hs c).origin (n + 5) 0
  at_1 = read_at L ws distinct 3 (lit< tt)

  at_c : half_at hs' c ≡ half_edge v (n + 4) 0
  at_c = read_at L ws distinct 4 (lit< tt)

  at_b : half_at hs' b ≡ half_edge (half_at hs b).origin (n + 2) 0
  at_b = read_at L ws distinct 5 (lit< tt)

  at_0 : half_at hs' n ≡ half_at L n
  at_0 =
      let z = c_used in
      read_else L ws n ((λ e. omega arith), ((λ e. omega arith), ((λ e. omega arith), ((λ e. omega arith), ((λ e. omega arith), ((λ e. omega arith), tt))))))

  at_3 : half_at hs' (n + 3) ≡ half_at L (n + 3)
  at_3 =
      let z = c_used in
      read_else L ws (n + 3) ((λ e. omega arith), ((λ e. omega arith), ((λ e. omega arith), ((λ e. omega arith), ((λ e. omega arith), ((λ e. omega arith), tt))))))

  at_else : (i : ℕ) → i < n → (i ≡ b → ⊥) → (i ≡ c → ⊥) → half_at hs' i ≡ half_at L i
  at_else i h p q =
      read_else L ws i ((λ e. omega arith), ((λ e. omega arith), ((λ e. omega arith), ((λ e. omega arith), (q, (p, tt))))))

  -- ---- origins

  -- the moved half-edges keep their origins, and so do all but the third
  origin_0 : (half_at hs' n).origin ≡ (half m b).origin
  origin_0 = ap (λ h. h.origin) at_0 ∙ (held_first m σ b c n (n + 3) moves).origin

  origin_3 : (half_at hs' (n + 3)).origin ≡ (half m c).origin
  origin_3 = ap (λ h. h.origin) at_3 ∙ (held_second m σ b c n (n + 3) moves).origin

  origin_else : (i : ℕ) → i < n → (i ≡ c → ⊥) → (half_at hs' i).origin ≡ (half m i).origin
  origin_else i h q =
      ⊎_elim
      (λ e. subst (λ (x : ℕ). (half_at hs' x).origin ≡ (half m x).origin) (sym e) (ap (λ x. x.origin) at_b))
      (λ p. ap (λ x. x.origin) (at_else i h p q) ∙ (held_else m σ b c n (n + 3) moves i h p q).origin)
      (cases_eq i b)

  -- ---- the new half-edges, as three pairs of twins

  low_origin : (i : ℕ) → i < n → (half m i).origin ≤ v
  low_origin i h = omega (arith, σ.origins i h)

  -- where each half-edge of the three faces ends
  end_b : (half_at hs' (next b)).origin ≡ v
  end_b = end_at hs' b c v (next_second f) (ap (λ h. h.origin) at_c)

  end_c : (half_at hs' (next c)).origin ≡ (half m s).origin
  end_c = let z = c_used in end_at hs' c s (half m s).origin (next_third f) (origin_else s (omega arith) (λ e. omega arith))

  end_0 : (half_at hs' (next n)).origin ≡ (half m c).origin
  end_0 = end_at hs' n (n + 1) (half m c).origin (next_0 (m.header.count - 3)) (ap (λ h. h.origin) at_1)

  end_1 : (half_at hs' (next (n + 1))).origin ≡ v
  end_1 = end_at hs' (n + 1) (n + 2) v (next_1 (m.header.count - 3)) (ap (λ h. h.origin) at_2)

  end_2 : (half_at hs' (next (n + 2))).origin ≡ (half m b).origin
  end_2 = end_at hs' (n + 2) n (half m b).origin (next_2 (m.header.count - 3)) origin_0

  end_3 : (half_at hs' (next (n + 3))).origin ≡ (half m s).origin
  end_3 = end_at hs' (n + 3) (n + 4) (half m s).origin (next_3 (m.header.count - 3)) (ap (λ h. h.origin) at_4)

  end_4 : (half_at hs' (next (n + 4))).origin ≡ v
  end_4 = end_at hs' (n + 4) (n + 5) v (next_4 (m.header.count - 3)) (ap (λ h. h.origin) at_5)

  end_5 : (half_at hs' (next (n + 5))).origin ≡ (half m c).origin
  end_5 = end_at hs' (n + 5) (n + 3) (half m c).origin (next_5 (m.header.count - 3)) origin_3

  abbrev FreshAt : ℕ → Type 0
  FreshAt j = Fresh m hs' j

  fresh_b : FreshAt b
  fresh_b = let z = c_used in fresh_twin m hs' b (n + 2) (half m b).origin v 0 at_b at_2 end_b end_2 (omega arith) (omega arith) (low_origin b (omega arith)) (inr refl)

  fresh_2 : FreshAt (n + 2)
  fresh_2 = let z = c_used in fresh_twin m hs' (n + 2) b v (half m b).origin 0 at_2 at_b end_2 end_b (omega arith) (omega arith) (omega arith) (inl refl)

  fresh_c : FreshAt c
  fresh_c = let z = c_used in fresh_twin m hs' c (n + 4) v (half m s).origin 0 at_c at_4 end_c end_4 (omega arith) (omega arith) (omega arith) (inl refl)

  fresh_4 : FreshAt (n + 4)
  fresh_4 = let z = c_used in fresh_twin m hs' (n + 4) c (half m s).origin v 0 at_4 at_c end_4 end_c (omega arith) (omega arith) (low_origin s (omega arith)) (inr refl)

  fresh_1 : FreshAt (n + 1)
  fresh_1 = let z = c_used in fresh_twin m hs' (n + 1) (n + 5) (half m c).origin v 0 at_1 at_5 end_1 end_5 (omega arith) (omega arith) (low_origin c z) (inr refl)

  fresh_5 : FreshAt (n + 5)
  fresh_5 = let z = c_used in fresh_twin m hs' (n + 5) (n + 1) v (half m c).origin 0 at_5 at_1 end_5 end_1 (omega arith) (omega arith) (omega arith) (inl refl)

  abbrev Stays : ℕ → Type 0
  Stays i = Unit {0}

  abbrev Covered : ℕ → Type 0
  Covered j = (j ≡ n) ⊎ ((j ≡ n + 3) ⊎ (((j < n) × (j ≡ b → ⊥) × (j ≡ c → ⊥) × Stays j) ⊎ Fresh m hs' j))

  fresh_at : (j i : ℕ) → FreshAt i → j ≡ i → Covered j
  fresh_at j i φ e = inr (inr (inr (subst FreshAt (sym e) φ)))

  -- each half-edge in use moved, stayed or is new
  covers : (j : ℕ) → j < n + 6 → Covered j
  covers j h =
      ⊎_elim
      (λ l. ⊎_elim (fresh_at j b fresh_b) (λ p. ⊎_elim (fresh_at j c fresh_c) (λ q. inr (inr (inl (l, p, q, tt)))) (cases_eq j c)) (cases_eq j b))
      (λ l. ⊎_elim inl (⊎_elim (fresh_at j (n + 1) fresh_1) (⊎_elim (fresh_at j (n + 2) fresh_2) (⊎_elim (λ e. inr (inl e)) (⊎_elim (fresh_at j (n + 4) fresh_4) (fresh_at j (n + 5) fresh_5)))))
      (six_places n j l h))
      (cases_lt j n)

  end_else : (i : ℕ) → i < n → (i ≡ b → ⊥) → (half_at hs' (next i)).origin ≡ (half m (next i)).origin
  end_else i h p = origin_else (next i) (next_used m i h) (λ e. p (next_injective i b (e ∙ sym (next_second f))))

  -- ---- the faces

  module _ (ab : pos 0 <ℤ orientation (origin_point m s) (origin_point m b) (place w))
      (bc : pos 0 <ℤ orientation (origin_point m b) (origin_point m c) (place w))
      (ca : pos 0 <ℤ orientation (origin_point m c) (origin_point m s) (place w)) where
    abbrev P : ℕ → Point
    P i = origin_point (with_vertex m w hs') i

    kept_point : (j i : ℕ) → i < n → (half_at hs' j).origin ≡ (half m i).origin → P j ≡ origin_point m i
    kept_point = point_kept m σ w vertex_room hs'

    new_point : (j : ℕ) → (half_at hs' j).origin ≡ v → P j ≡ place w
    new_point = point_new m σ w vertex_room hs'

    -- (b, c, w) and (c, a, w)
    turns_0 : pos 0 <ℤ orientation (P n) (P (n + 1)) (P (n + 2))
    turns_0 =
        let z = c_used in
        same_turn (P n) (P (n + 1)) (P (n + 2)) (origin_point m b) (origin_point m c) (place w)
        (kept_point n b (omega arith) origin_0) (kept_point (n + 1) c z (ap (λ x. x.origin) at_1)) (new_point (n + 2) (ap (λ x. x.origin) at_2)) bc

    turns_3 : pos 0 <ℤ orientation (P (n + 3)) (P (n + 4)) (P (n + 5))
    turns_3 =
        let z = c_used in
        same_turn (P (n + 3)) (P (n + 4)) (P (n + 5)) (origin_point m c) (origin_point m s) (place w)
        (kept_point (n + 3) c z origin_3) (kept_point (n + 4) s (omega arith) (ap (λ x. x.origin) at_4)) (new_point (n + 5) (ap (λ x. x.origin) at_5)) ca

    -- every face turns
    turning : (g : ℕ) → g < faces m + 2 → pos 0 <ℤ orientation (P (3 * g)) (P (3 * g + 1)) (P (3 * g + 2))
    turning g h =
        let z = c_used in
        ⊎_elim
        (λ e. subst (λ (x : ℕ). pos 0 <ℤ orientation (P (3 * x)) (P (3 * x + 1)) (P (3 * x + 2))) (sym e)
        (same_turn (P s) (P b) (P c) (origin_point m s) (origin_point m b) (place w)
        (kept_point s s (omega arith) (origin_else s (omega arith) (λ x. omega arith)))
        (kept_point b b (omega arith) (origin_else b (omega arith) (λ x. omega arith)))
        (new_point c (ap (λ x. x.origin) at_c)) ab))
        (λ ne. ⊎_elim
        (λ l.
        let still : (i : ℕ) → i < n → (i ≡ c → ⊥) → P i ≡ origin_point m i = λ i u q. kept_point i i u (origin_else i u q) in
        same_turn (P (3 * g)) (P (3 * g + 1)) (P (3 * g + 2)) (origin_point m (3 * g)) (origin_point m (3 * g + 1)) (origin_point m (3 * g + 2))
        (still (3 * g) (omega arith) (λ x. omega arith)) (still (3 * g + 1) (omega arith) (λ x. omega arith)) (still (3 * g + 2) (omega arith) (λ x. ne (omega arith)))
        (σ.faces_turn g l))
        (λ l. new_faces m P g l h turns_0 turns_3)
        (cases_lt g (faces m)))
        (cases_eq g f)

    split : Split m w hs' b c n (n + 3) Stays
    split = record {
      moves = moves;
      length_same = length_written L ws ∙ length_two m σ b c n (n + 3) moves;
      at_first = at_0;
      at_second = at_3;
      at_else = λ i h p q _. at_else i h p q;
      end_first = end_0 ∙ ap (λ x. (half m x).origin) (sym (next_second f));
      end_second = end_3 ∙ ap (λ x. (half m x).origin) (sym (next_third f));
      end_else = λ i h p q _. end_else i h p;
      stays_first = tt;
      stays_second = tt;
      stays_twin = λ i h _ some. tt;
      gone = λ i h. inl tt;
      fresh_first = fresh_b;
      fresh_second = fresh_c;
      covers = covers;
      turning = turning;
    }

    -- the face cut in three
    pub split_face_sound : Sound (with_vertex m w (split_face m.half_edges (3 * f) (used m) m.header.count))
    unfolding split_face
    split_face_sound = split_sound m σ w low inner few vertex_room hs' b c n (n + 3) Stays split
