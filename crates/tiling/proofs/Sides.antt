-- A point against the sides of a face: laws of the three orientations, and what it means that a side admits the point.
use Rattle.std.proofs.Common.{◌≡◌, zero, suc, ◌+◌, ◌<◌, ◌≤◌, Bool, true, false, ◌&&◌, ◌||◌, eqb, ltb, ◌⊎◌, [], ◌∷◌, ℤ, pos, negsuc, ◌+ℤ◌, ◌-ℤ◌, ◌*ℤ◌, ◌≤ℤ◌, ◌<ℤ◌, refl, ap, ◌∙◌, inl, inr, ⊎_elim, arith}
use lib.IntN.{zero-*ℤ}
use borrow.Author.Differences.{up, down, ints}
use Rattle.std.proofs.lemmas.Bool.{both_ways, ltb-true, eqb-true, lt-ltb, eq-eqb, and_parts, and_from, or_cases, or_left, or_right}
use Rattle.arith.proofs.Ring.{con, ◌⊕◌, ◌⊖◌, ◌⊗◌, ring}
use Rattle.mesh.specs.declared.Point.{Point}
use Rattle.mesh.specs.Geometry.{orientation, positive, is_zero, keeps, admits}
use Rattle.mesh.proofs.Orientations.{coordinates, n, o}
use Rattle.tiling.proofs.Signs.{orders}

-- how far v lies north of w
unfoldable pub rise : Point → Point → ℤ
rise w v = pos v.north -ℤ pos w.north

-- how far v lies east of w
unfoldable pub run : Point → Point → ℤ
run w v = pos v.east -ℤ pos w.east

-- `rise` for `omega`
pub rise_is : (w v : Point) → up (rise w v) + w.north ≡ down (rise w v) + v.north
unfolding rise
rise_is w v = omega (arith, ints)

-- `run` for `omega`
pub run_is : (w v : Point) → up (run w v) + w.east ≡ down (run w v) + v.east
unfolding run
run_is w v = omega (arith, ints)

-- `orders`, and what the coordinates say, for `omega`
pub ruleset plane = (orders, rise_is, run_is)

-- ---- orientations

-- a side read backwards changes the sign
pub orientation_back : (a b w : Point) → orientation b a w ≡ pos 0 -ℤ orientation a b w
unfolding orientation
orientation_back a b w = ring (coordinates (a ∷ b ∷ w ∷ [])) (o 1 0 2) (con (pos 0) ⊖ o 0 1 2) tt

-- the areas that w has with the sides sum to the face's
pub orientation_sum : (a b c w : Point) → orientation a b w +ℤ orientation b c w +ℤ orientation c a w ≡ orientation a b c
unfolding orientation
orientation_sum a b c w = ring (coordinates (a ∷ b ∷ c ∷ w ∷ [])) (o 0 1 3 ⊕ o 1 2 3 ⊕ o 2 0 3) (o 0 1 2) tt

-- weighted with them, the corners balance about w
pub balance : (a b c w : Point) → orientation a b w *ℤ rise w c +ℤ orientation b c w *ℤ rise w a +ℤ orientation c a w *ℤ rise w b ≡ pos 0
unfolding orientation rise
balance a b c w =
    ring (coordinates (a ∷ b ∷ c ∷ w ∷ []))
    (o 0 1 3 ⊗ (n 2 ⊖ n 3) ⊕ o 1 2 3 ⊗ (n 0 ⊖ n 3) ⊕ o 2 0 3 ⊗ (n 1 ⊖ n 3)) (con (pos 0)) tt

-- the area over a level side is its length by the height
pub orientation_level : (a b c : Point) → b.north ≡ a.north → orientation a b c ≡ run a b *ℤ rise a c
unfolding orientation rise run
orientation_level a b c h =
    let z : pos b.north -ℤ pos a.north ≡ pos 0 = omega (arith, ints) in
    let m = ap (λ x. x *ℤ (pos c.east -ℤ pos a.east)) z ∙ zero-*ℤ (pos c.east -ℤ pos a.east) in
    omega (arith, orders)

-- ---- points that a side admits

-- the half-open rule, taken apart
rule_parts : (z : ℤ) (k : Bool) → (positive z || (is_zero z && k)) ≡ true → (pos 0 <ℤ z) ⊎ ((z ≡ pos 0) × (k ≡ true))
rule_parts (pos zero) k t = inr (refl, t)
rule_parts (pos (suc i)) k t = inl (omega (arith, ints))
rule_parts (negsuc i) k t = absurd (both_ways false refl t)

-- and put together
rule_from : (z : ℤ) (k : Bool) → pos 0 ≤ℤ z → (z ≡ pos 0 → k ≡ true) → (positive z || (is_zero z && k)) ≡ true
rule_from (pos zero) k h t = t refl
rule_from (pos (suc i)) k h t = or_left (ltb 0 (suc i)) _ (lt-ltb 0 (suc i) (omega arith))
rule_from (negsuc i) k h t = absurd h.le

module _ (x y w : Point) where
  -- a side that keeps its points does not run north, and if level it runs west
  kept : keeps x y ≡ true → (y.north ≤ x.north) × (y.north ≡ x.north → y.east < x.east)
  kept t = ⊎_elim south west (or_cases _ _ t)
    where
      south : ltb y.north x.north ≡ true → (y.north ≤ x.north) × (y.north ≡ x.north → y.east < x.east)
      south h = let l = ltb-true y.north x.north h in (omega arith, λ q. absurd (omega arith))

      west : (eqb y.north x.north && ltb y.east x.east) ≡ true → (y.north ≤ x.north) × (y.north ≡ x.north → y.east < x.east)
      west h =
          let p = and_parts _ _ h in
          let q = eqb-true y.north x.north p.0 in
          let l = ltb-true y.east x.east p.1 in
          (omega arith, λ _. l)

  -- an admitted point lies left of the side, or on its line if the side keeps it
  pub admitted : admits x y w ≡ true → (pos 0 <ℤ orientation x y w) ⊎ ((orientation x y w ≡ pos 0) × (y.north ≤ x.north) × (y.north ≡ x.north → y.east < x.east))
  admitted t = ⊎_elim inl (λ h. let k = kept h.1 in inr (h.0, k.0, k.1)) (rule_parts (orientation x y w) _ t)

  -- so not right of it
  pub admitted_from : admits x y w ≡ true → pos 0 ≤ℤ orientation x y w
  admitted_from t = ⊎_elim (λ h. omega (arith, orders)) (λ h. let k = h.0 in omega (arith, orders)) (admitted t)

  -- and left of a side that runs north
  pub admitted_north : admits x y w ≡ true → x.north < y.north → pos 0 <ℤ orientation x y w
  admitted_north t p = ⊎_elim (λ h. h) (λ h. absurd (let k = h.1 in omega arith)) (admitted t)

  -- a side admits what lies left of it
  pub admits_left : pos 0 <ℤ orientation x y w → admits x y w ≡ true
  admits_left h = rule_from (orientation x y w) _ (omega (arith, orders)) (λ q. absurd (omega (arith, orders)))

  -- a side that runs south admits its line too
  pub admits_south : pos 0 ≤ℤ orientation x y w → y.north < x.north → admits x y w ≡ true
  admits_south h p = rule_from (orientation x y w) _ h (λ _. or_left _ _ (lt-ltb y.north x.north p))

  -- and so does one that runs west
  pub admits_west : pos 0 ≤ℤ orientation x y w → y.north ≡ x.north → y.east < x.east → admits x y w ≡ true
  admits_west h p q =
      rule_from (orientation x y w) _ h
      (λ _. or_right _ _ (and_from _ _ (eq-eqb y.north x.north p) (lt-ltb y.east x.east q)))
