-- A mesh with one more vertex is sound, if two half-edges moved, those round the new vertex are twins in pairs, and all others are as before.
use Rattle.std.proofs.Common.{◌≡◌, ℕ, ◌+◌, ◌*◌, ◌<◌, ◌≤◌, true, false, not, T, eqb, ◌≢◌, ◌⊎◌, ◌↔◌, List, length, pos, ◌<ℤ◌, sym, ap, ◌∙◌, subst, ap₂, inl, inr, ⊎_elim, arith}
use Rattle.std.proofs.lemmas.List.{length-set, get_or-set_same, get_or-set_other}
use Rattle.std.proofs.lemmas.Bool.{both_ways, and_left, and_right, or_from, eq-eqb, ne_eqb, cases_eq}
use Rattle.arith.specs.Ranges.{tally}
use Rattle.mesh.specs.declared.Header.{Header}
use Rattle.mesh.specs.declared.Point.{Point}
use Rattle.mesh.specs.declared.Vertex.{Vertex}
use Rattle.mesh.specs.declared.HalfEdge.{HalfEdge}
use Rattle.mesh.specs.Geometry.{orientation, place}
use Rattle.mesh.specs.Meshes.{Mesh, next, no_twin, no_vertex, used, faces, half_at, half, vertex, origin_point, twin_of, has_twin}
use Rattle.mesh.specs.Sound.{Sound, Stands, on_border, along_border, strictly_inside}
use Rattle.mesh.proofs.Decide.{inside_known, T_true}
use Rattle.mesh.proofs.Rings.{next_used}
use Rattle.mesh.specs.Edits.{half_edge, with_vertex}
use Rattle.editing.proofs.Moves.{Moves, Held, after_moves, two_moved, to_first, to_second, to_else, held_first, held_second, held_else}
use Rattle.editing.proofs.Tallies.{tally_moved}

-- ---- what a split gives

-- half-edge j starts or ends at the new vertex, and agrees with its twin
pub record Fresh (m : Mesh) (hs : List HalfEdge) (j : ℕ) : Type 0 where
  pub below : (half_at hs j).twin < used m + 6
  pub back : (half_at hs (half_at hs j).twin).twin ≡ j
  pub starts : (half_at hs (half_at hs j).twin).origin ≡ (half_at hs (next j)).origin
  pub ends : (half_at hs (next (half_at hs j).twin)).origin ≡ (half_at hs j).origin
  pub agree : (half_at hs (half_at hs j).twin).pin ≡ (half_at hs j).pin
  pub pin : (half_at hs j).pin ≤ 1
  pub origin : (half_at hs j).origin ≤ m.header.count
  pub touches : ((half_at hs j).origin ≡ m.header.count) ⊎ ((half_at hs (next j)).origin ≡ m.header.count)

-- of two new half-edges between x and y that are twins, the first
pub fresh_twin :
    (m : Mesh) (hs : List HalfEdge) (j k x y p : ℕ) → half_at hs j ≡ half_edge x k p → half_at hs k ≡ half_edge y j p →
    (half_at hs (next j)).origin ≡ y → (half_at hs (next k)).origin ≡ x → k < used m + 6 → p ≤ 1 → x ≤ m.header.count →
    (x ≡ m.header.count) ⊎ (y ≡ m.header.count) → Fresh m hs j
fresh_twin m hs j k x y p hj hk nj nk l low ox t =
    let e : (half_at hs j).twin ≡ k = ap (λ h. h.twin) hj in
    let o : (half_at hs j).origin ≡ x = ap (λ h. h.origin) hj in
    let q : (half_at hs j).pin ≡ p = ap (λ h. h.pin) hj in
    record {
      below = omega arith;
      back = ap (λ i. (half_at hs i).twin) e ∙ ap (λ h. h.twin) hk;
      starts = ap (λ i. (half_at hs i).origin) e ∙ ap (λ h. h.origin) hk ∙ sym nj;
      ends = ap (λ i. (half_at hs (next i)).origin) e ∙ nk ∙ sym o;
      agree = ap (λ i. (half_at hs i).pin) e ∙ ap (λ h. h.pin) hk ∙ sym q;
      pin = omega arith;
      origin = omega arith;
      touches = ⊎_elim (λ z. inl (o ∙ z)) (λ z. inr (nj ∙ z)) t;
    }

-- where half-edge i ends, if next i is k
pub end_at : (hs : List HalfEdge) (i k x : ℕ) → next i ≡ k → (half_at hs k).origin ≡ x → (half_at hs (next i)).origin ≡ x
end_at hs i k x e o = ap (λ y. (half_at hs y).origin) e ∙ o

-- half-edges b and c moved to b' and c'; those that stay and did not move stand where they stood
pub record Split (m : Mesh) (w : Vertex) (hs : List HalfEdge) (b c b' c' : ℕ) (stays : ℕ → Type 0) : Type 0 where
  pub moves : Moves m b c b' c'
  pub length_same : length hs ≡ length m.half_edges
  pub at_first : half_at hs b' ≡ half_at (two_moved m.half_edges b c b' c') b'
  pub at_second : half_at hs c' ≡ half_at (two_moved m.half_edges b c b' c') c'
  pub at_else : (i : ℕ) → i < used m → (i ≡ b → ⊥) → (i ≡ c → ⊥) → stays i → half_at hs i ≡ half_at (two_moved m.half_edges b c b' c') i
  pub end_first : (half_at hs (next b')).origin ≡ (half m (next b)).origin
  pub end_second : (half_at hs (next c')).origin ≡ (half m (next c)).origin
  pub end_else : (i : ℕ) → i < used m → (i ≡ b → ⊥) → (i ≡ c → ⊥) → stays i → (half_at hs (next i)).origin ≡ (half m (next i)).origin
  pub stays_first : stays b
  pub stays_second : stays c
  pub stays_twin : (i : ℕ) → i < used m → stays i → twin_of m i ≢ no_twin → stays (twin_of m i)
  pub gone : (i : ℕ) → i < used m → stays i ⊎ (twin_of m i ≢ no_twin)
  pub fresh_first : Fresh m hs b
  pub fresh_second : Fresh m hs c
  pub covers : (j : ℕ) → j < used m + 6 → (j ≡ b') ⊎ ((j ≡ c') ⊎ (((j < used m) × (j ≡ b → ⊥) × (j ≡ c → ⊥) × stays j) ⊎ Fresh m hs j))
  pub turning :
      (g : ℕ) → g < faces m + 2 →
      pos 0 <ℤ orientation (origin_point (with_vertex m w hs) (3 * g)) (origin_point (with_vertex m w hs) (3 * g + 1)) (origin_point (with_vertex m w hs) (3 * g + 2))

-- ---- borders

-- a half-edge with an end strictly inside runs along no border
inner_start : (h : Header) (a b : Point) → strictly_inside h a ≡ true → on_border h a b ≡ false
inner_start h a b i =
    let k = inside_known h a i in
    or_from _ _ (or_from _ _ (or_from _ _
    (and_left _ _ (ne_eqb a.east 0 (λ e. omega arith)))
    (and_left _ _ (ne_eqb a.east h.width (λ e. omega arith))))
    (and_left _ _ (ne_eqb a.north 0 (λ e. omega arith))))
    (and_left _ _ (ne_eqb a.north h.depth (λ e. omega arith)))

inner_end : (h : Header) (a b : Point) → strictly_inside h b ≡ true → on_border h a b ≡ false
inner_end h a b i =
    let k = inside_known h b i in
    or_from _ _ (or_from _ _ (or_from _ _
    (and_right (eqb a.east 0) _ (ne_eqb b.east 0 (λ e. omega arith)))
    (and_right (eqb a.east h.width) _ (ne_eqb b.east h.width (λ e. omega arith))))
    (and_right (eqb a.north 0) _ (ne_eqb b.north 0 (λ e. omega arith))))
    (and_right (eqb a.north h.depth) _ (ne_eqb b.north h.depth (λ e. omega arith)))

-- two numbers that equal k together
eqb_agree : (x y k : ℕ) → (x ≡ k → y ≡ k) → (y ≡ k → x ≡ k) → eqb x k ≡ eqb y k
eqb_agree x y k f g =
    ⊎_elim (λ e. eq-eqb x k e ∙ sym (eq-eqb y k (f e))) (λ ne. ne_eqb x k ne ∙ sym (ne_eqb y k (λ e. ne (g e)))) (cases_eq x k)

-- ---- the facts of soundness at half-edge j
record Good (m : Mesh) (j : ℕ) : Type 0 where
  origin : (half m j).origin < m.header.count
  pin : (half m j).pin ≤ 1
  twin : twin_of m j ≢ no_twin → twin_of m j < used m
  paired : twin_of m j ≢ no_twin → twin_of m (twin_of m j) ≡ j
  opposite : twin_of m j ≢ no_twin → ((half m (twin_of m j)).origin ≡ (half m (next j)).origin) × ((half m (next (twin_of m j))).origin ≡ (half m j).origin)
  agree : twin_of m j ≢ no_twin → (half m (twin_of m j)).pin ≡ (half m j).pin
  border : (twin_of m j ≡ no_twin) ↔ T (along_border m j)
  unpinned : twin_of m j ≡ no_twin → (half m j).pin ≡ 0

module _ (m : Mesh) (σ : Sound m) (w : Vertex) (vertex_room : m.header.count < length m.vertices) (hs : List HalfEdge) where
  -- the new vertex stands last, the others where they stood
  vertex_new : vertex (with_vertex m w hs) m.header.count ≡ w
  vertex_new = get_or-set_same m.vertices m.header.count w no_vertex vertex_room

  vertex_kept : (v : ℕ) → v < m.header.count → vertex (with_vertex m w hs) v ≡ vertex m v
  vertex_kept v h = get_or-set_other m.vertices m.header.count v w no_vertex (λ e. omega arith)

  -- so points are kept where origins are
  pub point_kept : (j i : ℕ) → i < used m → (half_at hs j).origin ≡ (half m i).origin → origin_point (with_vertex m w hs) j ≡ origin_point m i
  point_kept j i h e = ap (λ v. place (vertex (with_vertex m w hs) v)) e ∙ ap place (vertex_kept (half m i).origin (σ.origins i h))

  pub point_new : (j : ℕ) → (half_at hs j).origin ≡ m.header.count → origin_point (with_vertex m w hs) j ≡ place w
  point_new j e = ap (λ v. place (vertex (with_vertex m w hs) v)) e ∙ ap place vertex_new

module _ (m : Mesh) (σ : Sound m) (w : Vertex) (low : w.height ≤ 32767) (inner : strictly_inside m.header (place w) ≡ true)
    (few : m.header.count < 1024) (vertex_room : m.header.count < length m.vertices)
    (hs : List HalfEdge) (b c b' c' : ℕ) (stays : ℕ → Type 0) (δ : Split m w hs b c b' c' stays) where
  abbrev m' : Mesh
  m' = with_vertex m w hs

  abbrev μ : Moves m b c b' c'
  μ = δ.moves

  abbrev to : ℕ → ℕ
  to = after_moves b c b' c'

  -- half-edge i of before stands at j
  record Kept (i j : ℕ) : Type 0 where
    below : j < used m + 6
    held : Held m to (half m' j) i
    end : (half m' (next j)).origin ≡ (half m (next i)).origin

  abbrev Holds : HalfEdge → ℕ → Type 0
  Holds h i = Held m to h i

  -- each half-edge that stays stands where the moves put it
  kept : (i : ℕ) → i < used m → stays i → Kept i (to i)
  kept i h st =
      ⊎_elim
      (λ e. subst (λ (x : ℕ). Kept x (to x)) (sym e) (subst (λ (y : ℕ). Kept b y) (sym (to_first m σ b c b' c' μ)) record {
        below = μ.first_new.1;
        held = subst (λ (x : HalfEdge). Holds x b) (sym δ.at_first) (held_first m σ b c b' c' μ);
        end = δ.end_first;
      }))
      (λ nb. ⊎_elim
      (λ e. subst (λ (x : ℕ). Kept x (to x)) (sym e) (subst (λ (y : ℕ). Kept c y) (sym (to_second m σ b c b' c' μ)) record {
        below = μ.second_new.1;
        held = subst (λ (x : HalfEdge). Holds x c) (sym δ.at_second) (held_second m σ b c b' c' μ);
        end = δ.end_second;
      }))
      (λ nc. subst (λ (y : ℕ). Kept i y) (sym (to_else m σ b c b' c' μ i nb nc)) record {
        below = omega arith;
        held = subst (λ (x : HalfEdge). Holds x i) (sym (δ.at_else i h nb nc st)) (held_else m σ b c b' c' μ i h nb nc);
        end = δ.end_else i h nb nc st;
      })
      (cases_eq i c))
      (cases_eq i b)

  -- no index in use is the number for no twin
  small : used m + 6 ≤ 6126
  small = omega (arith, σ.count.0)

  used_new : used m' ≡ used m + 6
  used_new = omega (arith, σ.count.0)

  module _ (i : ℕ) (h : i < used m) (st : stays i) where
    abbrev j : ℕ
    j = to i

    abbrev t : ℕ
    t = twin_of m i

    k : Kept i j
    k = kept i h st

    -- its twin stays too
    kept_twin : t ≢ no_twin → Kept t (to t)
    kept_twin some = kept t (σ.twins i h some) (δ.stays_twin i h st some)

    twin_is : t ≢ no_twin → twin_of m' j ≡ to t
    twin_is some = k.held.twin some

    -- it has a twin now where it had one
    lone_back : twin_of m' j ≡ no_twin → t ≡ no_twin
    lone_back e = ⊎_elim (λ z. z) (λ some. absurd (omega (arith, small, twin_is some, (kept_twin some).below))) (cases_eq t no_twin)

    some_back : twin_of m' j ≢ no_twin → t ≢ no_twin
    some_back ne z = ne (k.held.lone z)

    -- and runs along a border as before
    along_same : along_border m' j ≡ along_border m i
    along_same =
        ap₂ (λ x y. on_border m.header x y) (point_kept m σ w vertex_room hs j i h k.held.origin) (point_kept m σ w vertex_room hs (next j) (next i) (next_used m i h) k.end)

    good_kept : Good m' j
    good_kept = record {
      origin = omega (arith, k.held.origin, σ.origins i h);
      pin = omega (arith, k.held.pin, σ.pins i h);
      twin = λ ne. let some = some_back ne in omega (arith, twin_is some, (kept_twin some).below, used_new);
      paired = λ ne.
          let some = some_back ne in
          let back = σ.paired i h some in
          ap (λ x. twin_of m' x) (twin_is some) ∙ (kept_twin some).held.twin (λ z. omega (arith, small)) ∙ ap to back;
      opposite = λ ne.
          let some = some_back ne in
          let o = σ.opposite i h some in (
            ap (λ x. (half m' x).origin) (twin_is some) ∙ (kept_twin some).held.origin ∙ o.0 ∙ sym k.end,
            ap (λ x. (half m' (next x)).origin) (twin_is some) ∙ (kept_twin some).end ∙ o.1 ∙ sym k.held.origin,
          );
      agree = λ ne.
          let some = some_back ne in
          ap (λ x. (half m' x).pin) (twin_is some) ∙ (kept_twin some).held.pin ∙ σ.pins_agree i h some ∙ sym k.held.pin;
      border = (
        (λ l. subst T (sym along_same) ((σ.border i h).0 (lone_back l))),
        (λ a. k.held.lone ((σ.border i h).1 (subst T along_same a))),
      );
      unpinned = λ l. k.held.pin ∙ σ.border_unpinned i h (lone_back l);
    }

    -- it counts among those without a twin as before
    lone_same : not (has_twin m' j) ≡ not (has_twin m i)
    lone_same = ap (λ x. not (not x)) (eqb_agree (twin_of m' j) t no_twin lone_back k.held.lone)

  module _ (j : ℕ) (φ : Fresh m hs j) where
    some_fresh : twin_of m' j ≢ no_twin
    some_fresh e = omega (arith, small, φ.below)

    -- a new half-edge runs along no border
    fresh_inner : along_border m' j ≡ false
    fresh_inner =
        ⊎_elim
        (λ e. ap (λ x. on_border m.header x (origin_point m' (next j))) (point_new m σ w vertex_room hs j e) ∙ inner_start m.header (place w) (origin_point m' (next j)) inner)
        (λ e. ap (λ x. on_border m.header (origin_point m' j) x) (point_new m σ w vertex_room hs (next j) e) ∙ inner_end m.header (origin_point m' j) (place w) inner)
        φ.touches

    good_fresh : Good m' j
    good_fresh = record {
      origin = omega (arith, φ.origin);
      pin = φ.pin;
      twin = λ _. omega (arith, φ.below, used_new);
      paired = λ _. φ.back;
      opposite = λ _. (φ.starts, φ.ends);
      agree = λ _. φ.agree;
      border = ((λ l. absurd (some_fresh l)), (λ a. absurd (both_ways (along_border m' j) fresh_inner (T_true (along_border m' j) a))));
      unpinned = λ l. absurd (some_fresh l);
    }

    -- and has a twin
    fresh_counted : not (has_twin m' j) ≡ false
    fresh_counted = ap (λ x. not (not x)) (ne_eqb (twin_of m' j) no_twin some_fresh)

  good_at : (i j : ℕ) → i < used m → stays i → to i ≡ j → Good m' j
  good_at i j h st e = subst (λ (x : ℕ). Good m' x) e (good_kept i h st)

  lone_at : (i j : ℕ) → i < used m → stays i → to i ≡ j → not (has_twin m' j) ≡ not (has_twin m i)
  lone_at i j h st e = subst (λ (x : ℕ). not (has_twin m' x) ≡ not (has_twin m i)) e (lone_same i h st)

  -- every half-edge in use is one that stays or a new one
  good : (j : ℕ) → j < used m' → Good m' j
  good j h =
      ⊎_elim (λ e. good_at b j μ.first δ.stays_first (to_first m σ b c b' c' μ ∙ sym e))
      (⊎_elim (λ e. good_at c j μ.second δ.stays_second (to_second m σ b c b' c' μ ∙ sym e))
      (⊎_elim (λ s. good_at j j s.0 s.3 (to_else m σ b c b' c' μ j s.1 s.2)) (good_fresh j)))
      (δ.covers j (omega (arith, used_new)))

  -- those without a twin, below the old end and above it
  same_below : (k : ℕ) → k < used m → (k ≡ b → ⊥) → (k ≡ c → ⊥) → not (has_twin m' k) ≡ not (has_twin m k)
  same_below k h nb nc =
      let stands : stays k → not (has_twin m' k) ≡ not (has_twin m k) = λ st. lone_at k k h st (to_else m σ b c b' c' μ k nb nc) in
      ⊎_elim (λ e. absurd (omega (arith, μ.first_new.0)))
      (⊎_elim (λ e. absurd (omega (arith, μ.second_new.0)))
      (⊎_elim (λ s. stands s.3)
      (λ φ. ⊎_elim stands (λ some. fresh_counted k φ ∙ sym (ap (λ x. not (not x)) (ne_eqb (twin_of m k) no_twin some))) (δ.gone k h))))
      (δ.covers k (omega arith))

  none_above : (k : ℕ) → used m ≤ k → k < used m + 6 → (k ≡ b' → ⊥) → (k ≡ c' → ⊥) → not (has_twin m' k) ≡ false
  none_above k l h nb nc =
      ⊎_elim (λ e. absurd (nb e)) (⊎_elim (λ e. absurd (nc e)) (⊎_elim (λ s. absurd (omega (arith, s.0))) (fresh_counted k)))
      (δ.covers k h)

  four_left : tally (λ s. not (has_twin m' s)) (used m') ≡ 4
  four_left =
      ap (tally (λ s. not (has_twin m' s))) used_new
      ∙ tally_moved (λ s. not (has_twin m s)) (λ s. not (has_twin m' s)) (used m) (used m + 6) b c b' c'
      μ.first μ.second μ.apart μ.first_new.0 μ.first_new.1 μ.second_new.0 μ.second_new.1 μ.apart_new
      (fresh_counted b δ.fresh_first) (fresh_counted c δ.fresh_second)
      (lone_at b b' μ.first δ.stays_first (to_first m σ b c b' c' μ)) (lone_at c c' μ.second δ.stays_second (to_second m σ b c b' c' μ))
      same_below none_above
      ∙ σ.four

  -- a fact of every vertex in use
  each_vertex : (Q : Vertex → Type 0) (v : ℕ) → v < m'.header.count → (v < m.header.count → Q (vertex m v)) → Q w → Q (vertex m' v)
  each_vertex Q v h old new =
      ⊎_elim
      (λ e. subst Q (sym (ap (vertex m') e ∙ vertex_new m σ w vertex_room hs)) new)
      (λ ne. let l : v < m.header.count = omega arith in subst Q (sym (vertex_kept m σ w vertex_room hs v l)) (old l))
      (cases_eq v m.header.count)

  -- a corner stands where it stood
  stood : (v x y : ℕ) → v < 4 → Stands m v x y → Stands m' v x y
  stood v x y h s = let e = vertex_kept m σ w vertex_room hs v (omega (arith, σ.count.0)) in (ap (λ u. u.east) e ∙ s.0, ap (λ u. u.north) e ∙ s.1)

  pub split_sound : Sound (with_vertex m w hs)
  split_sound = record {
    width = σ.width;
    depth = σ.depth;
    count = (omega (arith, σ.count.0), omega arith);
    vertices_fit = simp length-set (omega arith);
    half_edges_fit = omega (arith, δ.length_same, μ.room, used_new);
    southwest = stood 0 0 0 (omega arith) σ.southwest;
    southeast = stood 1 m.header.width 0 (omega arith) σ.southeast;
    northeast = stood 2 m.header.width m.header.depth (omega arith) σ.northeast;
    northwest = stood 3 0 m.header.depth (omega arith) σ.northwest;
    inside = λ v l h.
        each_vertex (λ u. (0 < u.east) × (u.east < m.header.width) × (0 < u.north) × (u.north < m.header.depth)) v h (σ.inside v l) (inside_known m.header (place w) inner);
    heights = λ v h. each_vertex (λ u. u.height ≤ 32767) v h (σ.heights v) low;
    origins = λ s h. (good s h).origin;
    twins = λ s h. (good s h).twin;
    pins = λ s h. (good s h).pin;
    faces_turn = λ g h. δ.turning g (omega (arith, σ.count.0));
    paired = λ s h. (good s h).paired;
    opposite = λ s h. (good s h).opposite;
    pins_agree = λ s h. (good s h).agree;
    border = λ s h. (good s h).border;
    border_unpinned = λ s h. (good s h).unpinned;
    four = four_left;
  }
