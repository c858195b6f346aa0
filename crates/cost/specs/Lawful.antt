-- The costs are lawful, and how large fold's numbers grow.
use Rattle.std.specs.Prelude.{◌≡◌, ℕ, ◌+◌, ◌-◌, ◌*◌, ◌^◌, ◌≤◌, min, List, [], ◌∷◌, ℤ, pos, unsigned_abs, refl}
use Rattle.std.proofs.Common.{ap, ap₂, arith, le_trans, lit≤, mul-le-mul}
use Rattle.std.proofs.lemmas.Int.{ints}
use Rattle.arith.proofs.Ring.{Ex, var, ◌⊕◌, ◌⊖◌, ◌⊗◌, ring}
use Rattle.arith.proofs.Bound.{bounded}
use Rattle.mesh.specs.declared.checked.CheckedVertex.{CheckedVertex}
use Rattle.cost.specs.Costs.{Parts, LawfulCost, fold, length, square_gap, joint, scaled, capped, area, volume, distance}

-- the area and the volume as expressions, over the offsets of the other corners from the first
abbrev area_of : Ex → Ex → Ex → Ex → Ex
area_of eb nb ec nc = eb ⊗ nc ⊖ nb ⊗ ec

abbrev volume_of : Ex → Ex → Ex → Ex → Ex → Ex → Ex → Ex → Ex → Ex
volume_of eb nb hb el nl hl er nr hr = hb ⊗ area_of el nl er nr ⊖ hl ⊗ area_of eb nb er nr ⊕ hr ⊗ area_of eb nb el nl

-- the numbers of some vertices; coordinate k of vertex b less that of vertex a
abbrev numbers : List CheckedVertex → List ℤ
numbers [] = []
numbers (a ∷ l) = pos a.east ∷ pos a.north ∷ pos a.height ∷ numbers l

abbrev offset : ℕ → ℕ → ℕ → Ex
offset k a b = var (3 * b + k) ⊖ var (3 * a + k)

abbrev volume_at : ℕ → ℕ → ℕ → ℕ → Ex
volume_at a b l r =
    volume_of
    (offset 0 a b) (offset 1 a b) (offset 2 a b)
    (offset 0 a l) (offset 1 a l) (offset 2 a l)
    (offset 0 a r) (offset 1 a r) (offset 2 a r)

pub volume_reverses : (a b l r : CheckedVertex) → volume b a r l ≡ volume a b l r
volume_reverses a b l r = ring (numbers (a ∷ b ∷ l ∷ r ∷ [])) (volume_at 1 0 3 2) (volume_at 0 1 2 3) tt

-- ---- bounds

pub distance_bounded : (x y : ℕ) → x ≤ 32767 → y ≤ 32767 → unsigned_abs (distance x y) ≤ 32767
distance_bounded x y h k = omega (arith, ints)

abbrev offsets : CheckedVertex → List CheckedVertex → List ℤ
offsets a [] = []
offsets a (b ∷ l) = distance a.east b.east ∷ distance a.north b.north ∷ distance a.height b.height ∷ offsets a l

pub area_bounded : (a b c : CheckedVertex) → unsigned_abs (area a b c) ≤ 2 ^ 32
area_bounded a b c =
    let h =
    bounded 32767 (offsets a (b ∷ c ∷ []))
    (omega (arith, ints, a.easting, a.northing, a.low, b.easting, b.northing, b.low, c.easting, c.northing, c.low))
    (area_of (var 0) (var 1) (var 3) (var 4)) in
    le_trans h (lit≤ tt)

pub volume_bounded : (a b l r : CheckedVertex) → unsigned_abs (volume a b l r) ≤ 2 ^ 48
volume_bounded a b l r =
    let h =
    bounded 32767 (offsets a (b ∷ l ∷ r ∷ []))
    (omega (arith, ints, a.easting, a.northing, a.low, b.easting, b.northing, b.low, l.easting, l.northing, l.low, r.easting, r.northing, r.low))
    (volume_of (var 0) (var 1) (var 2) (var 3) (var 4) (var 5) (var 6) (var 7) (var 8)) in
    le_trans h (lit≤ tt)

pub fold_lawful : LawfulCost fold
fold_lawful = record {
  lawful_face = record { face_bounded = λ a b c. omega arith; face_rotates = λ a b c. refl };
  lawful_edge = record { edge_bounded = volume_bounded; edge_reverses = λ a b l r. ap unsigned_abs (volume_reverses a b l r) };
}

-- ---- length, and the costs made of costs

pub square_gap_bounded : (x y : ℕ) → x ≤ 32767 → y ≤ 32767 → square_gap x y ≤ 1073676289
square_gap_bounded x y h k = let low : (x - y) + (y - x) ≤ 32767 = omega arith in mul-le-mul low low

square_gap_swaps : (x y : ℕ) → square_gap x y ≡ square_gap y x
square_gap_swaps x y = let e : (x - y) + (y - x) ≡ (y - x) + (x - y) = omega arith in ap₂ ◌*◌ e e

pub length_lawful : LawfulCost length
length_lawful = record {
  lawful_face = record { face_bounded = λ a b c. omega arith; face_rotates = λ a b c. refl };
  lawful_edge = record {
    edge_bounded = λ a b l r.
        omega (arith, square_gap_bounded a.east b.east a.easting b.easting, square_gap_bounded a.north b.north a.northing b.northing);
    edge_reverses = λ a b l r. ap₂ ◌+◌ (square_gap_swaps b.east a.east) (square_gap_swaps b.north a.north);
  };
}

capped_bounded : (x : ℕ) → capped x ≤ 2 ^ 48
capped_bounded x = omega arith

pub joint_lawful : {K L : Parts} → LawfulCost K → LawfulCost L → LawfulCost (joint K L)
joint_lawful {K} {L} k l = record {
  lawful_face = record {
    face_bounded = λ a b c. capped_bounded (K.face a b c + L.face a b c);
    face_rotates = λ a b c. ap₂ (λ x y. capped (x + y)) (k.lawful_face.face_rotates a b c) (l.lawful_face.face_rotates a b c);
  };
  lawful_edge = record {
    edge_bounded = λ a b u v. capped_bounded (K.edge a b u v + L.edge a b u v);
    edge_reverses = λ a b u v. ap₂ (λ x y. capped (x + y)) (k.lawful_edge.edge_reverses a b u v) (l.lawful_edge.edge_reverses a b u v);
  };
}

pub scaled_lawful : (w : ℕ) {K : Parts} → LawfulCost K → LawfulCost (scaled w K)
scaled_lawful w {K} k = record {
  lawful_face = record {
    face_bounded = λ a b c. capped_bounded (min w 16 * K.face a b c);
    face_rotates = λ a b c. ap (λ x. capped (min w 16 * x)) (k.lawful_face.face_rotates a b c);
  };
  lawful_edge = record {
    edge_bounded = λ a b u v. capped_bounded (min w 16 * K.edge a b u v);
    edge_reverses = λ a b u v. ap (λ x. capped (min w 16 * x)) (k.lawful_edge.edge_reverses a b u v);
  };
}
