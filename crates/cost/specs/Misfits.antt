-- Misfit: what the corners of a face weigh at a point that it owns, and that the cost is lawful.
use Rattle.std.specs.Prelude.{◌≡◌, ℕ, zero, suc, ◌+◌, ◌*◌, ◌/◌, ◌^◌, ◌<◌, ◌≤◌, Bool, true, false, cond, ◌&&◌, ◌||◌, List, [], ◌∷◌, length, take, ℤ, pos, negsuc, ◌+ℤ◌, nat_le, unsigned_abs, refl}
use Rattle.std.proofs.Common.{add-one, arith, mul-le-mul, mul-le-mul_right, sym, ap, ap₂, ◌∙◌}
use Rattle.std.proofs.Math.Nat.{div-le_of_le-mul}
use Rattle.std.proofs.lemmas.Int.{ints}
use Rattle.std.proofs.lemmas.List.{length-take, nil_from_length}
use Rattle.std.proofs.lemmas.Bool.{both_ways, and_parts, leb-true, ltb-true}
use Rattle.arith.proofs.Ring.{◌⊕◌, ring}
use Rattle.mesh.specs.declared.Point.{Point}
use Rattle.mesh.specs.declared.checked.CheckedVertex.{CheckedVertex}
use Rattle.mesh.specs.Geometry.{orientation, positive, is_zero, keeps, admits, owns}
use Rattle.mesh.proofs.Orientations.{coordinates, o, orientation_rotates}
use Rattle.cost.specs.declared.misfit.Reading.{Reading}
use Rattle.cost.specs.Costs.{LawfulCost, plan_point, reading_point, weight, face_owns, face_height, square_gap, counts, misfit_at, misfits, misfit}
use Rattle.cost.specs.Lawful.{area_bounded, square_gap_bounded}

-- ---- weights

-- the triangles of a point and the three sides make up the face
triangles : (a b c w : Point) → orientation b c w +ℤ orientation c a w +ℤ orientation a b w ≡ orientation a b c
unfolding orientation
triangles a b c w = ring (coordinates (a ∷ b ∷ c ∷ w ∷ [])) (o 1 2 3 ⊕ o 2 0 3 ⊕ o 0 1 3) (o 0 1 2) tt

-- an admitted point has no orientation below 0
admitted : (z : ℤ) (k : Bool) → (positive z || (is_zero z && k)) ≡ true → z ≡ pos (unsigned_abs z)
admitted (pos n) k e = refl
admitted (negsuc n) k e = absurd (both_ways false refl e)

positive_known : (z : ℤ) → positive z ≡ true → (z ≡ pos (unsigned_abs z)) × (0 < unsigned_abs z)
positive_known (pos n) e = (refl, ltb-true 0 n e)
positive_known (negsuc n) e = absurd (both_ways false refl e)

-- at a point that the face owns the weights of the corners add up to the face's
pub weights_add :
    (a b c : CheckedVertex) (w : Point) → face_owns a b c w ≡ true →
    (0 < weight a b (plan_point c)) × (weight b c w + weight c a w + weight a b w ≡ weight a b (plan_point c))
unfolding face_owns weight
weights_add a b c w e =
    let A = plan_point a in
    let B = plan_point b in
    let C = plan_point c in
    let p = and_parts (positive (orientation A B C) && admits A B w && admits B C w) (admits C A w) e in
    let q = and_parts (positive (orientation A B C) && admits A B w) (admits B C w) p.0 in
    let r = and_parts (positive (orientation A B C)) (admits A B w) q.0 in
    let whole = positive_known (orientation A B C) r.0 in
    (whole.1, omega (arith, ints, triangles A B C w, whole.0, admitted (orientation A B w) (keeps A B) r.1, admitted (orientation B C w) (keeps B C) q.1, admitted (orientation C A w) (keeps C A) p.1))

pub weight_small : (a b c : CheckedVertex) → weight a b (plan_point c) ≤ 2 ^ 32
unfolding weight orientation
weight_small a b c = area_bounded a b c

-- a height by a weight is at most a height by the face's
pub product_small : (a b c : CheckedVertex) (x h u v : ℕ) → x ≡ h → h ≤ 32767 → u ≡ v → v ≤ weight a b (plan_point c) → x * u ≤ 32767 * 2 ^ 32
product_small a b c x h u v e low f part = let small = weight_small a b c in mul-le-mul {n₂ = 32767} {m₂ = 2 ^ 32} (omega arith) (omega arith)

-- what the corners' heights come to, each by its weight
pub weighed_small : (x y z u v w k : ℕ) → x ≤ 32767 → y ≤ 32767 → z ≤ 32767 → u + v + w ≡ k → x * u + y * v + z * w ≤ k * 32767
weighed_small x y z u v w k hx hy hz e = omega (arith, mul-le-mul_right {m = x} {n = 32767} u hx, mul-le-mul_right {m = y} {n = 32767} v hy, mul-le-mul_right {m = z} {n = 32767} w hz)

-- the face lies no higher than its corners may
pub height_low : (a b c : CheckedVertex) (w : Point) → face_owns a b c w ≡ true → face_height a b c w ≤ 32767
unfolding face_height
height_low a b c w e =
    div-le_of_le-mul (weight a b (plan_point c))
    (weighed_small a.height b.height c.height (weight b c w) (weight c a w) (weight a b w) (weight a b (plan_point c)) a.low b.low c.low (weights_add a b c w e).1)

-- ---- what one reading adds

-- a reading that counts, and one that does not
pub misfit_counted : (a b c : CheckedVertex) (g : Reading) → counts a b c g ≡ true → misfit_at a b c g ≡ square_gap g.height (face_height a b c (reading_point g))
unfolding misfit_at
misfit_counted a b c g e = ap (λ t. cond t (square_gap g.height (face_height a b c (reading_point g))) 0) e

pub misfit_uncounted : (a b c : CheckedVertex) (g : Reading) → counts a b c g ≡ false → misfit_at a b c g ≡ 0
unfolding misfit_at
misfit_uncounted a b c g e = ap (λ t. cond t (square_gap g.height (face_height a b c (reading_point g))) 0) e

pub misfit_small : (a b c : CheckedVertex) (g : Reading) → misfit_at a b c g ≤ 1073676289
misfit_small a b c g = by (counts a b c g) refl
  where
    by : (t : Bool) → counts a b c g ≡ t → misfit_at a b c g ≤ 1073676289
    by true e =
        let p = and_parts (nat_le g.height 32767) (face_owns a b c (reading_point g)) e in
        rw (misfit_counted a b c g e) (square_gap_bounded g.height (face_height a b c (reading_point g)) (leb-true g.height 32767 p.0) (height_low a b c (reading_point g) p.1))
    by false e = omega (arith, misfit_uncounted a b c g e)

-- ---- sums over the readings

module _ (a b c : CheckedVertex) where
  -- a loop's step: the next reading comes off the list
  pub misfits_next : (n m : ℕ) (g : Reading) (xs ys : List Reading) → xs ≡ g ∷ ys → m + 1 ≡ n → misfits a b c (take n xs) ≡ misfit_at a b c g + misfits a b c (take m ys)
  misfits_next n m g xs ys e f = ap₂ (λ k l. misfits a b c (take k l)) (sym f ∙ add-one m) e

  -- and its end: no reading is left
  pub misfits_end : (n : ℕ) (xs : List Reading) → (0 < n → length xs ≡ 0) → misfits a b c (take n xs) ≡ 0
  misfits_end zero xs h = refl
  misfits_end (suc n) xs h = ap (λ l. misfits a b c (take (suc n) l)) (nil_from_length xs (h (omega arith)))

  misfits_small : (gs : List Reading) → misfits a b c gs ≤ length gs * 1073676289
  misfits_small [] = omega arith
  misfits_small (g ∷ gs) = omega (arith, misfit_small a b c g, misfits_small gs)

  -- the face part is at most 2^48
  pub face_small : (gs : List Reading) → misfits a b c (take 4096 gs) ≤ 2 ^ 48
  face_small gs = let e = length-take 4096 gs in omega (arith, misfits_small (take 4096 gs))

-- ---- the face may be named from any corner

and_turns : (p x y z : Bool) → (p && y && z && x) ≡ (p && x && y && z)
and_turns false x y z = refl
and_turns true true true true = refl
and_turns true true true false = refl
and_turns true true false z = refl
and_turns true false true true = refl
and_turns true false true false = refl
and_turns true false false z = refl

owns_rotates : (a b c w : Point) → owns b c a w ≡ owns a b c w
owns_rotates a b c w =
    ap (λ z. positive z && admits b c w && admits c a w && admits a b w) (orientation_rotates a b c)
    ∙ and_turns (positive (orientation a b c)) (admits a b w) (admits b c w) (admits c a w)

pub weight_rotates : (a b c : CheckedVertex) → weight b c (plan_point a) ≡ weight a b (plan_point c)
unfolding weight
weight_rotates a b c = ap unsigned_abs (orientation_rotates (plan_point a) (plan_point b) (plan_point c))

face_owns_rotates : (a b c : CheckedVertex) (w : Point) → face_owns b c a w ≡ face_owns a b c w
unfolding face_owns
face_owns_rotates a b c w = owns_rotates (plan_point a) (plan_point b) (plan_point c) w

height_rotates : (a b c : CheckedVertex) (w : Point) → face_height b c a w ≡ face_height a b c w
unfolding face_height
height_rotates a b c w = ap₂ (λ x y. x / y) (omega arith) (weight_rotates a b c)

pub misfit_rotates : (a b c : CheckedVertex) (g : Reading) → misfit_at b c a g ≡ misfit_at a b c g
unfolding misfit_at
misfit_rotates a b c g =
    ap₂ (λ t h. cond (nat_le g.height 32767 && t) (square_gap g.height h) 0) (face_owns_rotates a b c (reading_point g)) (height_rotates a b c (reading_point g))

misfits_rotate : (a b c : CheckedVertex) (gs : List Reading) → misfits b c a gs ≡ misfits a b c gs
misfits_rotate a b c [] = refl
misfits_rotate a b c (g ∷ gs) = ap₂ (λ x y. x + y) (misfit_rotates a b c g) (misfits_rotate a b c gs)

pub misfit_lawful : (gs : List Reading) → LawfulCost (misfit gs)
misfit_lawful gs = record {
  lawful_face = record { face_bounded = λ a b c. face_small a b c gs; face_rotates = λ a b c. misfits_rotate a b c (take 4096 gs) };
  lawful_edge = record { edge_bounded = λ a b l r. omega arith; edge_reverses = λ a b l r. refl };
}
