-- The test of soundness decides soundness, and what its first parts tell already.
use Rattle.std.proofs.Common.{◌≡◌, ℕ, zero, suc, ◌-◌, ◌*◌, ◌<◌, ◌≤◌, Bool, true, false, not, ◌&&◌, ◌||◌, T, eqb, ltb, leb, ◌≢◌, ◌↔◌, length, sym, refl, ap, ◌∙◌, ⊎_elim, arith}
use mathlib.Core.Bool.{beq}
use lib.Signed.{lt_z_yes}
use Rattle.std.proofs.lemmas.Bool.{both_ways, and_parts, and_from, not-false, eqb-true, leb-true, ltb-true, eq-eqb, ne_eqb, le-leb, lt-ltb, cases_lt, cases_Bool}
use Rattle.arith.specs.Ranges.{every, tally}
use Rattle.arith.proofs.Ranges.{every_at, every_from}
use Rattle.mesh.specs.declared.Header.{Header}
use Rattle.mesh.specs.declared.Point.{Point}
use Rattle.mesh.specs.Geometry.{InPlan, place}
use Rattle.mesh.specs.Meshes.{Mesh, next, no_twin, used, faces, half, vertex, twin_of, has_twin}
use Rattle.mesh.specs.Sound.{Sound, Roomy, Placed, Stands, extent_fits, lists_fit, stands_at, strictly_inside, corners_stand, vertex_fits, origin_fits, pin_fits, along_border, border_agrees, twins_agree, twin_fits, face_turns, is_placed, is_joined, is_sound}

-- ---- tests

pub true_T : (b : Bool) → b ≡ true → T b
true_T true e = tt
true_T false e = absurd (both_ways false refl e)

pub T_true : (b : Bool) → T b → b ≡ true
T_true true t = refl
T_true false t = elim t [ ]

and4 : (a b c d : Bool) → (a && b && c && d) ≡ true → (a ≡ true) × (b ≡ true) × (c ≡ true) × (d ≡ true)
and4 a b c d e =
    let p = and_parts (a && b && c) d e in
    let q = and_parts (a && b) c p.0 in
    let r = and_parts a b q.0 in
    (r.0, r.1, q.1, p.1)

from4 : (a b c d : Bool) → a ≡ true → b ≡ true → c ≡ true → d ≡ true → (a && b && c && d) ≡ true
from4 a b c d p q r s = and_from (a && b && c) d (and_from (a && b) c (and_from a b p q) r) s

-- `has_twin` is the test that there is no twin, turned
agree_iff : (e o : Bool) → beq (not e) (not o) ≡ true → (e ≡ true → o ≡ true) × (o ≡ true → e ≡ true)
agree_iff true true t = ((λ x. x), (λ x. x))
agree_iff true false t = absurd (both_ways false refl t)
agree_iff false true t = absurd (both_ways false refl t)
agree_iff false false t = ((λ x. x), (λ x. x))

iff_agree : (e o : Bool) → (e ≡ true → o ≡ true) → (o ≡ true → e ≡ true) → beq (not e) (not o) ≡ true
iff_agree true true f g = refl
iff_agree true false f g = f refl
iff_agree false true f g = g refl
iff_agree false false f g = refl

-- one of two, where the first fails
other : (a b : Bool) → (a || b) ≡ true → a ≡ false → b ≡ true
other true b e f = absurd (both_ways true f refl)
other false b e f = e

one_of : (a b : Bool) → (a ≡ false → b ≡ true) → (a || b) ≡ true
one_of true b f = refl
one_of false b f = f refl

-- ---- what the first parts tell

pub extent_known : (w d : ℕ) → extent_fits w d ≡ true → ((2 ≤ w) × (w ≤ 32767)) × ((2 ≤ d) × (d ≤ 32767))
extent_known w d e =
    let p = and4 (leb 2 w) (leb w 32767) (leb 2 d) (leb d 32767) e in
    ((leb-true _ _ p.0, leb-true _ _ p.1), (leb-true _ _ p.2, leb-true _ _ p.3))

pub roomy_known : (m : Mesh) → lists_fit m.header (length m.vertices) (length m.half_edges) ≡ true → Roomy m
roomy_known m e =
    let c = m.header.count in
    let p = and4 (leb 4 c) (leb c 1024) (leb c (length m.vertices)) (leb (6 * (c - 3)) (length m.half_edges)) e in
    record {
      some = leb-true _ _ p.0;
      few = leb-true _ _ p.1;
      vertices_fit = leb-true _ _ p.2;
      half_edges_fit = leb-true _ _ p.3;
    }

stood : (m : Mesh) (w : Point) (v : ℕ) → stands_at m w v ≡ true → Stands m v w.east w.north
stood m w v e =
    let p = and_parts (eqb (vertex m v).east w.east) (eqb (vertex m v).north w.north) e in
    (eqb-true _ _ p.0, eqb-true _ _ p.1)

standing : (m : Mesh) (w : Point) (v : ℕ) → Stands m v w.east w.north → stands_at m w v ≡ true
standing m w v s = and_from _ _ (eq-eqb _ _ s.0) (eq-eqb _ _ s.1)

pub inside_known : (h : Header) (w : Point) → strictly_inside h w ≡ true → (0 < w.east) × (w.east < h.width) × (0 < w.north) × (w.north < h.depth)
inside_known h w e =
    let p = and4 (ltb 0 w.east) (ltb w.east h.width) (ltb 0 w.north) (ltb w.north h.depth) e in
    (ltb-true _ _ p.0, ltb-true _ _ p.1, ltb-true _ _ p.2, ltb-true _ _ p.3)

record Corners (m : Mesh) : Type 0 where
  southwest : Stands m 0 0 0
  southeast : Stands m 1 m.header.width 0
  northeast : Stands m 2 m.header.width m.header.depth
  northwest : Stands m 3 0 m.header.depth

corners_known : (m : Mesh) → corners_stand m ≡ true → Corners m
corners_known m e =
    let w = m.header.width in
    let d = m.header.depth in
    let sw : Point = record { east = 0; north = 0 } in
    let se : Point = record { east = w; north = 0 } in
    let ne : Point = record { east = w; north = d } in
    let nw : Point = record { east = 0; north = d } in
    let p = and4 (stands_at m sw 0) (stands_at m se 1) (stands_at m ne 2) (stands_at m nw 3) e in
    record {
      southwest = stood m sw 0 p.0;
      southeast = stood m se 1 p.1;
      northeast = stood m ne 2 p.2;
      northwest = stood m nw 3 p.3;
    }

vertex_known : (m : Mesh) (v : ℕ) → vertex_fits m v ≡ true → 4 ≤ v →
    (0 < (vertex m v).east) × ((vertex m v).east < m.header.width) × (0 < (vertex m v).north) × ((vertex m v).north < m.header.depth)
vertex_known m v e h =
    let p = and_parts (leb (vertex m v).height 32767) (ltb v 4 || strictly_inside m.header (place (vertex m v))) e in
    inside_known m.header (place (vertex m v))
    (other (ltb v 4) (strictly_inside m.header (place (vertex m v))) p.1 (le_ltb' v 4 h))
  where
    le_ltb' : (a b : ℕ) → b ≤ a → ltb a b ≡ false
    le_ltb' a b l = ⊎_elim (λ t. absurd (omega (arith, ltb-true a b t))) (λ f. f) (cases_Bool (ltb a b))

-- a vertex in use stands in the rectangle
pub in_plan_known : (m : Mesh) → extent_fits m.header.width m.header.depth ≡ true → corners_stand m ≡ true →
    every (vertex_fits m) m.header.count ≡ true → (v : ℕ) → v < m.header.count → InPlan (place (vertex m v))
in_plan_known m e c vs v h =
    let x = extent_known _ _ e in
    let k = corners_known m c in
    ⊎_elim
    (λ l. at_corner v l x k)
    (λ l. let i = vertex_known m v (every_at (vertex_fits m) m.header.count vs v h) l in (omega (arith, i.1, x.0.1), omega (arith, i.3, x.1.1)))
    (cases_lt v 4)
  where
    at_corner : (u : ℕ) → u < 4 → ((2 ≤ m.header.width) × (m.header.width ≤ 32767)) × ((2 ≤ m.header.depth) × (m.header.depth ≤ 32767)) → Corners m → InPlan (place (vertex m u))
    at_corner zero l x k = (omega (arith, k.southwest.0), omega (arith, k.southwest.1))
    at_corner (suc zero) l x k = (omega (arith, k.southeast.0, x.0.1), omega (arith, k.southeast.1))
    at_corner (suc (suc zero)) l x k = (omega (arith, k.northeast.0, x.0.1), omega (arith, k.northeast.1, x.1.1))
    at_corner (suc (suc (suc zero))) l x k = (omega (arith, k.northwest.0), omega (arith, k.northwest.1, x.1.1))
    at_corner (suc (suc (suc (suc u)))) l x k = absurd (omega arith)

and5 : (a b c d e : Bool) → (a && b && c && d && e) ≡ true → (a ≡ true) × (b ≡ true) × (c ≡ true) × (d ≡ true) × (e ≡ true)
and5 a b c d e h =
    let p = and_parts (a && b && c && d) e h in
    let q = and4 a b c d p.0 in
    (q.0, q.1, q.2, q.3, p.1)

from5 : (a b c d e : Bool) → a ≡ true → b ≡ true → c ≡ true → d ≡ true → e ≡ true → (a && b && c && d && e) ≡ true
from5 a b c d e p q r s t = and_from (a && b && c && d) e (from4 a b c d p q r s) t

module _ (m : Mesh) where
  abbrev extent : Bool
  extent = extent_fits m.header.width m.header.depth

  abbrev lists : Bool
  lists = lists_fit m.header (length m.vertices) (length m.half_edges)

  abbrev vertices : Bool
  vertices = every (vertex_fits m) m.header.count

  abbrev origins : Bool
  origins = every (origin_fits m) (used m)

  abbrev pins : Bool
  pins = every (pin_fits m) (used m)

  abbrev borders : Bool
  borders = every (border_agrees m) (used m)

  abbrev twins : Bool
  twins = every (twin_fits m) (used m)

  abbrev turns : Bool
  turns = every (face_turns m) (faces m)

  abbrev four : Bool
  four = eqb (tally (λ s. not (has_twin m s)) (used m)) 4

  origin_known : origins ≡ true → (s : ℕ) → s < used m → (half m s).origin < m.header.count
  origin_known e s h = ltb-true _ _ (every_at (origin_fits m) (used m) e s h)

  pub placed_from : extent ≡ true → lists ≡ true → corners_stand m ≡ true → vertices ≡ true → origins ≡ true → Placed m
  placed_from e l c vs o = record { roomy = roomy_known m l; origins = origin_known o; in_plan = in_plan_known m e c vs }

  -- the twin, where there is one
  twin_known : twins ≡ true → (s : ℕ) → s < used m → twin_of m s ≢ no_twin → (twin_of m s < used m) × (twins_agree m s (twin_of m s) ≡ true)
  twin_known e s h ne =
      let a = ltb (twin_of m s) (used m) in
      let b = twins_agree m s (twin_of m s) in
      let lone : not (has_twin m s) ≡ false = ap (λ x. not (not x)) (ne_eqb (twin_of m s) no_twin ne) in
      let p = and_parts a b (other (not (has_twin m s)) (a && b) (every_at (twin_fits m) (used m) e s h) lone) in
      (ltb-true _ _ p.0, p.1)

  agreed : (s t : ℕ) → twins_agree m s t ≡ true → (twin_of m t ≡ s) × ((half m t).origin ≡ (half m (next s)).origin) × ((half m (next t)).origin ≡ (half m s).origin) × ((half m t).pin ≡ (half m s).pin)
  agreed s t e =
      let p = and4 (eqb (twin_of m t) s) (eqb (half m t).origin (half m (next s)).origin) (eqb (half m (next t)).origin (half m s).origin) (eqb (half m t).pin (half m s).pin) e in
      (eqb-true _ _ p.0, eqb-true _ _ p.1, eqb-true _ _ p.2, eqb-true _ _ p.3)

  pin_known : pins ≡ true → (s : ℕ) → s < used m → ((half m s).pin ≤ 1) × (twin_of m s ≡ no_twin → (half m s).pin ≡ 0)
  pin_known e s h =
      let p = and_parts (leb (half m s).pin 1) (has_twin m s || eqb (half m s).pin 0) (every_at (pin_fits m) (used m) e s h) in
      (leb-true _ _ p.0, (λ lone. eqb-true _ _ (other (has_twin m s) (eqb (half m s).pin 0) p.1 (ap not (eq-eqb (twin_of m s) no_twin lone)))))

  border_known : borders ≡ true → (s : ℕ) → s < used m → (twin_of m s ≡ no_twin) ↔ T (along_border m s)
  border_known e s h =
      let p = agree_iff (eqb (twin_of m s) no_twin) (along_border m s) (every_at (border_agrees m) (used m) e s h) in
      ((λ lone. true_T _ (p.0 (eq-eqb _ _ lone))), (λ b. eqb-true _ _ (p.1 (T_true _ b))))

  pub sound_known : is_sound m ≡ true → Sound m
  unfolding is_sound
  sound_known e =
      let b = and_parts (is_placed m) (is_joined m) e in
      let p = and5 extent lists (corners_stand m) vertices origins b.0 in
      let j = and5 pins borders twins turns four b.1 in
      let x = extent_known m.header.width m.header.depth p.0 in
      let r = roomy_known m p.1 in
      let c = corners_known m p.2 in
      let v = every_at (vertex_fits m) m.header.count p.3 in
      record {
        width = x.0;
        depth = x.1;
        count = (r.some, r.few);
        vertices_fit = r.vertices_fit;
        half_edges_fit = r.half_edges_fit;
        southwest = c.southwest;
        southeast = c.southeast;
        northeast = c.northeast;
        northwest = c.northwest;
        inside = λ k l h. vertex_known m k (v k h) l;
        heights = λ k h. leb-true _ _ (and_parts (leb (vertex m k).height 32767) (ltb k 4 || strictly_inside m.header (place (vertex m k))) (v k h)).0;
        origins = origin_known p.4;
        twins = λ s h ne. (twin_known j.2 s h ne).0;
        pins = λ s h. (pin_known j.0 s h).0;
        faces_turn = λ f h. lt_z_yes (true_T _ (every_at (face_turns m) (faces m) j.3 f h));
        paired = λ s h ne. (agreed s (twin_of m s) (twin_known j.2 s h ne).1).0;
        opposite = λ s h ne. let a = agreed s (twin_of m s) (twin_known j.2 s h ne).1 in (a.1, a.2);
        pins_agree = λ s h ne. (agreed s (twin_of m s) (twin_known j.2 s h ne).1).3;
        border = border_known j.1;
        border_unpinned = λ s h. (pin_known j.0 s h).1;
        four = eqb-true _ _ j.4;
      }

  -- ---- the other way

  vertex_passes : Sound m → (v : ℕ) → v < m.header.count → vertex_fits m v ≡ true
  vertex_passes σ v h =
      and_from (leb (vertex m v).height 32767) (ltb v 4 || strictly_inside m.header (place (vertex m v))) (le-leb _ _ (σ.heights v h))
      (one_of (ltb v 4) (strictly_inside m.header (place (vertex m v))) (λ big.
      let i = σ.inside v (⊎_elim (λ l. absurd (both_ways _ big (lt-ltb v 4 l))) (λ l. l) (cases_lt v 4)) h in
      from4 _ _ _ _ (lt-ltb _ _ i.0) (lt-ltb _ _ i.1) (lt-ltb _ _ i.2) (lt-ltb _ _ i.3)))

  pin_passes : Sound m → (s : ℕ) → s < used m → pin_fits m s ≡ true
  pin_passes σ s h =
      and_from (leb (half m s).pin 1) (has_twin m s || eqb (half m s).pin 0) (le-leb _ _ (σ.pins s h))
      (one_of (has_twin m s) (eqb (half m s).pin 0) (λ lone. eq-eqb _ _ (σ.border_unpinned s h (eqb-true _ _ (not-false _ lone)))))

  border_passes : Sound m → (s : ℕ) → s < used m → border_agrees m s ≡ true
  border_passes σ s h =
      let b = σ.border s h in
      iff_agree (eqb (twin_of m s) no_twin) (along_border m s) (λ e. T_true _ (b.0 (eqb-true _ _ e))) (λ e. eq-eqb _ _ (b.1 (true_T _ e)))

  twin_passes : Sound m → (s : ℕ) → s < used m → twin_fits m s ≡ true
  twin_passes σ s h =
      one_of (not (has_twin m s)) (ltb (twin_of m s) (used m) && twins_agree m s (twin_of m s)) (λ has.
      let ne : twin_of m s ≢ no_twin = λ e. both_ways (not (has_twin m s)) has (ap (λ x. not (not x)) (eq-eqb (twin_of m s) no_twin e)) in
      and_from (ltb (twin_of m s) (used m)) (twins_agree m s (twin_of m s)) (lt-ltb _ _ (σ.twins s h ne))
      (from4 _ _ _ _ (eq-eqb _ _ (σ.paired s h ne)) (eq-eqb _ _ (σ.opposite s h ne).0) (eq-eqb _ _ (σ.opposite s h ne).1) (eq-eqb _ _ (σ.pins_agree s h ne))))

  pub sound_passes : Sound m → is_sound m ≡ true
  unfolding is_sound
  sound_passes σ =
      and_from (is_placed m) (is_joined m)
      (from5 extent lists (corners_stand m) vertices origins
      (from4 _ _ _ _ (le-leb _ _ σ.width.0) (le-leb _ _ σ.width.1) (le-leb _ _ σ.depth.0) (le-leb _ _ σ.depth.1))
      (from4 _ _ _ _ (le-leb _ _ σ.count.0) (le-leb _ _ σ.count.1) (le-leb _ _ σ.vertices_fit) (le-leb _ _ σ.half_edges_fit))
      (from4 _ _ _ _ (standing m _ 0 σ.southwest) (standing m _ 1 σ.southeast) (standing m _ 2 σ.northeast) (standing m _ 3 σ.northwest))
      (every_from (vertex_fits m) m.header.count (vertex_passes σ))
      (every_from (origin_fits m) (used m) (λ s h. lt-ltb _ _ (σ.origins s h))))
      (from5 pins borders twins turns four
      (every_from (pin_fits m) (used m) (pin_passes σ))
      (every_from (border_agrees m) (used m) (border_passes σ))
      (every_from (twin_fits m) (used m) (twin_passes σ))
      (every_from (face_turns m) (faces m) (λ f h. T_true _ (σ.faces_turn f h).lt))
      (eq-eqb _ _ σ.four))

-- a test that equals the test of soundness decides soundness
pub decided : (m : Mesh) (r : Bool) → r ≡ is_sound m → (T r → Sound m) × (Sound m → T r)
decided m r e = ((λ t. sound_known m (sym e ∙ T_true r t)), (λ σ. true_T r (e ∙ sound_passes m σ)))
