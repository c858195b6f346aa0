-- What one face adds to the crossings: a side that comes down past a point counts 1, one that goes up counts -1, and a face's three sides sum to whether it owns the point.
use Rattle.std.proofs.Common.{◌≡◌, ◌+◌, ◌<◌, ◌≤◌, Bool, true, false, not, ◌&&◌, ℤ, pos, ◌-ℤ◌, ◌*ℤ◌, ◌≤ℤ◌, ◌<ℤ◌, sym, refl, ap, ◌∙◌, ⊎_elim, arith}
use lib.IntN.{*ℤ-zero}
use lib.Signed.{le_z}
use Rattle.std.proofs.lemmas.Bool.{cases_lt, le-leb, lt-leb, and_parts, and_from}
use Rattle.mesh.specs.declared.Point.{Point}
use Rattle.mesh.specs.Geometry.{orientation, positive, admits, owns}
use Rattle.mesh.proofs.Orientations.{orientation_rotates}
use Rattle.editing.proofs.Corners.{product_above}
use Rattle.tiling.specs.Crossings.{is_up, descends, ascends, bit}
use Rattle.tiling.proofs.Signs.{orders, cases_ltZ, above_below, below_below, from_from, from_upto, upto_from, upto_upto}
use Rattle.tiling.proofs.Sides.{rise, run, plane, orientation_back, orientation_sum, balance, orientation_level, admitted, admitted_from, admitted_north, admits_left, admits_south, admits_west}

-- ---- a side read backwards

-- the tests of the ends change places
ends_swapped : (p q s t : Bool) → s ≡ t → (p && not q && s) ≡ (not q && p && t)
ends_swapped true true s t h = refl
ends_swapped true false s t h = h
ends_swapped false true s t h = refl
ends_swapped false false s t h = refl

-- a number from 0 up is minus one up to 0
sign_turned : (y z : ℤ) → y ≡ pos 0 -ℤ z → le_z (pos 0) y ≡ le_z z (pos 0)
sign_turned y z h = ⊎_elim
    (λ l. let p : false ≡ le_z (pos 0) y = omega (arith, orders) in let q : false ≡ le_z z (pos 0) = omega (arith, orders) in sym p ∙ q)
    (λ l. let p : true ≡ le_z (pos 0) y = omega (arith, orders) in let q : true ≡ le_z z (pos 0) = omega (arith, orders) in sym p ∙ q)
    (cases_ltZ (pos 0) z)

-- a side comes down past w where its twin goes up
pub turned_back : (x y w : Point) → descends y x w ≡ ascends x y w
turned_back x y w = ends_swapped (is_up w y) (is_up w x) _ _ (sign_turned (orientation y x w) (orientation x y w) (orientation_back x y w))

-- ---- a side, by which of its ends are up
module _ (x y w : Point) where
  -- both: the side does not pass w
  both_up : w.north ≤ x.north → w.north ≤ y.north → (bit (descends x y w) ≡ 0) × (bit (ascends x y w) ≡ 0)
  both_up p q = rw (le-leb w.north x.north p, le-leb w.north y.north q) (refl, refl)

  -- none: nor does it
  none_up : x.north < w.north → y.north < w.north → (bit (descends x y w) ≡ 0) × (bit (ascends x y w) ≡ 0)
  none_up p q = rw (lt-leb w.north x.north p, lt-leb w.north y.north q) (refl, refl)

  -- the first: it may come down past w
  first_up : w.north ≤ x.north → y.north < w.north → (bit (descends x y w) ≡ bit (le_z (pos 0) (orientation x y w))) × (bit (ascends x y w) ≡ 0)
  first_up p q = rw (le-leb w.north x.north p, lt-leb w.north y.north q) (refl, refl)

  -- the last: it may go up past w
  last_up : x.north < w.north → w.north ≤ y.north → (bit (descends x y w) ≡ 0) × (bit (ascends x y w) ≡ bit (le_z (orientation x y w) (pos 0)))
  last_up p q = rw (lt-leb w.north x.north p, le-leb w.north y.north q) (refl, refl)

-- ---- counting

-- a test that cannot hold counts 0
no_bit : (b : Bool) → (b ≡ true → ⊥) → bit b ≡ 0
no_bit true h = absurd (h refl)
no_bit false h = refl

-- how b counts: as the side that may come down past w, with the orientation s, less the one that may go up, with t
counted :
    (b : Bool) (s t : ℤ) → (b ≡ true → (pos 0 ≤ℤ s) × (pos 0 <ℤ t)) → (pos 0 ≤ℤ s → pos 0 <ℤ t → b ≡ true) → (s <ℤ pos 0 → t ≤ℤ pos 0 → ⊥)
    → bit b + bit (le_z t (pos 0)) ≡ bit (le_z (pos 0) s)
counted b s t only if never = ⊎_elim
    (λ h. let p : false ≡ le_z (pos 0) s = omega (arith, orders) in ⊎_elim
    (λ k. let q : false ≡ le_z t (pos 0) = omega (arith, orders) in let r = no_bit b (λ y. let z = only y in omega (arith, orders)) in omega (arith, r, ap bit p, ap bit q))
    (λ k. absurd (never h k))
    (cases_ltZ (pos 0) t))
    (λ h. let p : true ≡ le_z (pos 0) s = omega (arith, orders) in ⊎_elim
    (λ k. let q : false ≡ le_z t (pos 0) = omega (arith, orders) in omega (arith, ap bit (if h k), ap bit p, ap bit q))
    (λ k. let q : true ≡ le_z t (pos 0) = omega (arith, orders) in let r = no_bit b (λ y. let z = only y in omega (arith, orders)) in omega (arith, r, ap bit p, ap bit q))
    (cases_ltZ (pos 0) t))
    (cases_ltZ s (pos 0))

-- the face's sides sum to whether it owns w
abbrev Counts : Point → Point → Point → Point → Type 0
Counts a b c w =
    bit (owns a b c w) + (bit (ascends a b w) + bit (ascends b c w) + bit (ascends c a w))
    ≡ bit (descends a b w) + bit (descends b c w) + bit (descends c a w)

-- the tests of `owns` from the next corner
tests_rotate : (d p q r : Bool) → (d && q && r && p) ≡ (d && p && q && r)
tests_rotate false p q r = refl
tests_rotate true true true true = refl
tests_rotate true true true false = refl
tests_rotate true true false r = refl
tests_rotate true false true true = refl
tests_rotate true false true false = refl
tests_rotate true false false r = refl

-- the count may start at any corner
rotated : (a b c w : Point) → Counts b c a w → Counts a b c w
rotated a b c w h =
    let k : owns b c a w ≡ owns a b c w =
    ap (λ z. positive z && admits b c w && admits c a w && admits a b w) (orientation_rotates a b c)
    ∙ tests_rotate (positive (orientation a b c)) (admits a b w) (admits b c w) (admits c a w) in
    omega (arith, ap bit k)

-- an owned point is admitted by each side
owned : (a b c w : Point) → owns a b c w ≡ true → (admits a b w ≡ true) × (admits b c w ≡ true) × (admits c a w ≡ true)
owned a b c w t = let p = and_parts _ _ t in let q = and_parts _ _ p.0 in let r = and_parts _ _ q.0 in (r.1, q.1, p.1)

-- ---- a face, by which of its corners are up
module _ (a b c : Point) (turns : pos 0 <ℤ orientation a b c) where
  -- the face turns the same way from its next corner
  turns_next : pos 0 <ℤ orientation b c a
  turns_next = rw (orientation_rotates a b c) turns

  -- and from the one before
  turns_previous : pos 0 <ℤ orientation c a b
  turns_previous = rw (← orientation_rotates c a b) turns

  -- a level side below the face does not run west
  not_below : b.north ≡ a.north → b.east < a.east → a.north ≤ c.north → ⊥
  not_below p q r =
      let e = orientation_level a b c p in
      let f = upto_from (run a b) (rise a c) (omega (arith, plane)) (omega (arith, plane)) in
      omega (arith, orders)

  -- and one above it does
  above : b.north ≡ a.north → c.north < a.north → b.east < a.east
  above p q = ⊎_elim (λ l. l)
      (λ l.
      let e = orientation_level a b c p in
      let f = from_upto (run a b) (rise a c) (omega (arith, plane)) (omega (arith, plane)) in
      absurd (omega (arith, orders)))
      (cases_lt b.east a.east)

module _ (a b c w : Point) (turns : pos 0 <ℤ orientation a b c) where
  -- a point that each side admits is owned
  owner : admits a b w ≡ true → admits b c w ≡ true → admits c a w ≡ true → owns a b c w ≡ true
  owner p q r =
      let t : true ≡ positive (orientation a b c) = omega (arith, orders) in
      and_from _ _ (and_from _ _ (and_from _ _ (sym t) p) q) r

  -- a level side below the face does not admit w at its own height
  not_level : a.north ≡ w.north → b.north ≡ w.north → w.north ≤ c.north → admits a b w ≡ true → ⊥
  not_level p q r t = ⊎_elim
      (λ h.
      let e = orientation_level a b w (omega arith) in
      let f : rise a w ≡ pos 0 = omega (arith, plane) in
      let g = ap (λ z. run a b *ℤ z) f ∙ *ℤ-zero (run a b) in
      omega (arith, orders))
      (λ h. not_below a b c turns (omega arith) (h.2 (omega arith)) (omega arith))
      (admitted a b w t)

module _ (a b c w : Point) (turns : pos 0 <ℤ orientation a b c) where
  -- with every corner up, a point left of a → b is not owned: c is level with w, and so is b or a
  not_left : w.north ≤ a.north → w.north ≤ b.north → w.north ≤ c.north → pos 0 <ℤ orientation a b w → admits b c w ≡ true → admits c a w ≡ true → ⊥
  not_left p q r A t u =
      let bal = balance a b c w in
      let x : pos 0 ≤ℤ rise w a = omega (arith, plane) in
      let y : pos 0 ≤ℤ rise w b = omega (arith, plane) in
      let z : pos 0 ≤ℤ rise w c = omega (arith, plane) in
      let f = from_from (orientation a b w) (rise w c) (omega (arith, orders)) z in
      let g = from_from (orientation b c w) (rise w a) (admitted_from b c w t) x in
      let h = from_from (orientation c a w) (rise w b) (admitted_from c a w u) y in
      let k : c.north ≡ w.north = ⊎_elim
      (λ l. let m = product_above (orientation a b w) (rise w c) A l in absurd (omega (arith, orders)))
      (λ l. omega (arith, plane))
      (cases_ltZ (pos 0) (rise w c)) in
      ⊎_elim
      (λ C. not_level b c a w (turns_next a b c turns) (⊎_elim
      (λ l. let m = product_above (orientation c a w) (rise w b) C l in absurd (omega (arith, orders)))
      (λ l. omega (arith, plane))
      (cases_ltZ (pos 0) (rise w b))) k p t)
      (λ v. not_level c a b w (turns_previous a b c turns) k (let l = v.1 in omega arith) q u)
      (admitted c a w u)

module _ (a b c w : Point) (turns : pos 0 <ℤ orientation a b c) where
  -- no corner up: the corners cannot balance about a point inside
  count_none : a.north < w.north → b.north < w.north → c.north < w.north → Counts a b c w
  count_none p q r =
      let own = no_bit (owns a b c w) (λ t.
      let i = owned a b c w t in
      let A = admitted_from a b w i.0 in
      let B = admitted_from b c w i.1 in
      let C = admitted_from c a w i.2 in
      let sum = orientation_sum a b c w in
      let bal = balance a b c w in
      let x : rise w a <ℤ pos 0 = omega (arith, plane) in
      let y : rise w b <ℤ pos 0 = omega (arith, plane) in
      let z : rise w c <ℤ pos 0 = omega (arith, plane) in
      let f = from_upto (orientation a b w) (rise w c) A (omega (arith, orders)) in
      let g = from_upto (orientation b c w) (rise w a) B (omega (arith, orders)) in
      let h = from_upto (orientation c a w) (rise w b) C (omega (arith, orders)) in
      ⊎_elim
      (λ l. let m = above_below (orientation a b w) (rise w c) l z in omega (arith, orders))
      (λ l. ⊎_elim
      (λ k. let m = above_below (orientation b c w) (rise w a) k x in omega (arith, orders))
      (λ k. let m = above_below (orientation c a w) (rise w b) (omega (arith, orders)) y in omega (arith, orders))
      (cases_ltZ (pos 0) (orientation b c w)))
      (cases_ltZ (pos 0) (orientation a b w))) in
      let e = none_up a b w p q in
      let f = none_up b c w q r in
      let g = none_up c a w r p in
      omega arith

  -- every corner up: the point lies left of some side
  count_all : w.north ≤ a.north → w.north ≤ b.north → w.north ≤ c.north → Counts a b c w
  count_all p q r =
      let own = no_bit (owns a b c w) (λ t.
      let i = owned a b c w t in
      let sum = orientation_sum a b c w in
      ⊎_elim
      (λ l. not_left a b c w turns p q r l i.1 i.2)
      (λ l. ⊎_elim
      (λ k. not_left b c a w (turns_next a b c turns) q r p k i.2 i.0)
      (λ k. not_left c a b w (turns_previous a b c turns) r p q (omega (arith, orders)) i.0 i.1)
      (cases_ltZ (pos 0) (orientation b c w)))
      (cases_ltZ (pos 0) (orientation a b w))) in
      let e = both_up a b w p q in
      let f = both_up b c w q r in
      let g = both_up c a w r p in
      omega arith

  -- a alone up: a → b comes down, and c → a goes up
  count_one : w.north ≤ a.north → b.north < w.north → c.north < w.north → Counts a b c w
  count_one p q r =
      let sum = orientation_sum a b c w in
      let bal = balance a b c w in
      let x : pos 0 ≤ℤ rise w a = omega (arith, plane) in
      let y : rise w b <ℤ pos 0 = omega (arith, plane) in
      let z : rise w c <ℤ pos 0 = omega (arith, plane) in
      let k = counted (owns a b c w) (orientation a b w) (orientation c a w)
      (λ t. let i = owned a b c w t in (admitted_from a b w i.0, admitted_north c a w i.2 (omega arith)))
      (λ A C. owner a b c w turns
      (admits_south a b w A (omega arith))
      (admits_left b c w (⊎_elim (λ l. l)
      (λ l.
      let f = from_upto (orientation a b w) (rise w c) A (omega (arith, orders)) in
      let g = upto_from (orientation b c w) (rise w a) l x in
      let h = above_below (orientation c a w) (rise w b) C y in
      absurd (omega (arith, orders)))
      (cases_ltZ (pos 0) (orientation b c w))))
      (admits_left c a w C))
      (λ A C.
      let f = below_below (orientation a b w) (rise w c) A z in
      let g = from_from (orientation b c w) (rise w a) (omega (arith, orders)) x in
      let h = upto_upto (orientation c a w) (rise w b) C (omega (arith, orders)) in
      omega (arith, orders)) in
      let e = first_up a b w p q in
      let f = none_up b c w q r in
      let g = last_up c a w r p in
      omega arith

  -- a and b up: b → c comes down, and c → a goes up
  count_two : w.north ≤ a.north → w.north ≤ b.north → c.north < w.north → Counts a b c w
  count_two p q r =
      let sum = orientation_sum a b c w in
      let bal = balance a b c w in
      let x : pos 0 ≤ℤ rise w a = omega (arith, plane) in
      let y : pos 0 ≤ℤ rise w b = omega (arith, plane) in
      let z : rise w c <ℤ pos 0 = omega (arith, plane) in
      let k = counted (owns a b c w) (orientation b c w) (orientation c a w)
      (λ t. let i = owned a b c w t in (admitted_from b c w i.1, admitted_north c a w i.2 (omega arith)))
      (λ B C. owner a b c w turns (top B C) (admits_south b c w B (omega arith)) (admits_left c a w C))
      (λ B C.
      let f = above_below (orientation a b w) (rise w c) (omega (arith, orders)) z in
      let g = upto_from (orientation b c w) (rise w a) (omega (arith, orders)) x in
      let h = upto_from (orientation c a w) (rise w b) C y in
      omega (arith, orders)) in
      let e = both_up a b w p q in
      let f = first_up b c w q r in
      let g = last_up c a w r p in
      omega arith
    where
      -- w left of the other two sides is admitted by the top one: on its line, it is level with b
      top : pos 0 ≤ℤ orientation b c w → pos 0 <ℤ orientation c a w → admits a b w ≡ true
      top B C =
          let bal = balance a b c w in
          let x : pos 0 ≤ℤ rise w a = omega (arith, plane) in
          let y : pos 0 ≤ℤ rise w b = omega (arith, plane) in
          let z : rise w c <ℤ pos 0 = omega (arith, plane) in
          let g = from_from (orientation b c w) (rise w a) B x in
          let h = from_from (orientation c a w) (rise w b) (omega (arith, orders)) y in
          let A : pos 0 ≤ℤ orientation a b w = ⊎_elim
          (λ l. let f = below_below (orientation a b w) (rise w c) l z in absurd (omega (arith, orders)))
          (λ l. l)
          (cases_ltZ (orientation a b w) (pos 0)) in
          ⊎_elim
          (λ l. admits_south a b w A l)
          (λ l. ⊎_elim (admits_left a b w)
          (λ k.
          let f = upto_upto (orientation a b w) (rise w c) k (omega (arith, orders)) in
          let m : b.north ≡ a.north = ⊎_elim
          (λ v. let u = product_above (orientation c a w) (rise w b) C v in absurd (omega (arith, orders)))
          (λ v. omega (arith, plane))
          (cases_ltZ (pos 0) (rise w b)) in
          admits_west a b w A m (above a b c turns m (omega arith)))
          (cases_ltZ (pos 0) (orientation a b w)))
          (cases_lt b.north a.north)

-- A face owns a point if its sides come down past the point once more than they go up; else they do both equally often.
pub crossing :
    (a b c w : Point) → pos 0 <ℤ orientation a b c
    → bit (owns a b c w) + (bit (ascends a b w) + bit (ascends b c w) + bit (ascends c a w)) ≡ bit (descends a b w) + bit (descends b c w) + bit (descends c a w)
crossing a b c w turns =
    let next = turns_next a b c turns in
    let previous = turns_previous a b c turns in
    ⊎_elim
    (λ p. ⊎_elim
    (λ q. ⊎_elim
    (λ r. count_none a b c w turns p q r)
    (λ r. rotated a b c w (rotated b c a w (count_one c a b w previous r p q)))
    (cases_lt c.north w.north))
    (λ q. ⊎_elim
    (λ r. rotated a b c w (count_one b c a w next q r p))
    (λ r. rotated a b c w (count_two b c a w next q r p))
    (cases_lt c.north w.north))
    (cases_lt b.north w.north))
    (λ p. ⊎_elim
    (λ q. ⊎_elim
    (λ r. count_one a b c w turns p q r)
    (λ r. rotated a b c w (rotated b c a w (count_two c a b w previous r p q)))
    (cases_lt c.north w.north))
    (λ q. ⊎_elim
    (λ r. count_two a b c w turns p q r)
    (λ r. count_all a b c w turns p q r)
    (cases_lt c.north w.north))
    (cases_lt b.north w.north))
    (cases_lt a.north w.north)
