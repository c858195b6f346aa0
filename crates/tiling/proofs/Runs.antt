-- Which way a side runs that lies along a border, with its face on the left.
use Rattle.std.proofs.Common.{◌≡◌, zero, suc, ◌<◌, ◌≤◌, ℤ, pos, negsuc, ◌-ℤ◌, ◌*ℤ◌, ◌≤ℤ◌, ◌<ℤ◌, ap, ◌∙◌, arith}
use lib.IntN.{zero-*ℤ, *ℤ-zero}
use borrow.Author.Differences.{ints}
use Rattle.mesh.specs.declared.Point.{Point}
use Rattle.mesh.specs.Geometry.{orientation}

-- ---- the sign of a factor

above_right : (x y : ℤ) → pos 0 <ℤ (x *ℤ y) → pos 0 ≤ℤ y → pos 0 <ℤ x
above_right (pos zero) y h g = let z = zero-*ℤ y in absurd (omega (arith, ints))
above_right (pos (suc a)) y h g = omega (arith, ints)
above_right (negsuc a) (pos n) h g = absurd (omega (arith, ints))
above_right (negsuc a) (negsuc n) h g = absurd (omega (arith, ints))

above_left : (x y : ℤ) → pos 0 <ℤ (x *ℤ y) → y ≤ℤ pos 0 → x <ℤ pos 0
above_left (pos a) (pos zero) h g = let z = *ℤ-zero (pos a) in absurd (omega (arith, ints))
above_left (pos a) (pos (suc n)) h g = absurd (omega (arith, ints))
above_left (pos a) (negsuc n) h g = absurd (omega (arith, ints))
above_left (negsuc a) y h g = omega (arith, ints)

below_right : (x y : ℤ) → (x *ℤ y) <ℤ pos 0 → pos 0 ≤ℤ y → x <ℤ pos 0
below_right (pos a) (pos n) h g = absurd (omega (arith, ints))
below_right (pos a) (negsuc n) h g = absurd (omega (arith, ints))
below_right (negsuc a) y h g = omega (arith, ints)

below_left : (x y : ℤ) → (x *ℤ y) <ℤ pos 0 → y ≤ℤ pos 0 → pos 0 <ℤ x
below_left (pos zero) y h g = let z = zero-*ℤ y in absurd (omega (arith, ints))
below_left (pos (suc a)) y h g = omega (arith, ints)
below_left (negsuc a) (pos zero) h g = let z = *ℤ-zero (negsuc a) in absurd (omega (arith, ints))
below_left (negsuc a) (pos (suc n)) h g = absurd (omega (arith, ints))
below_left (negsuc a) (negsuc n) h g = absurd (omega (arith, ints))

-- ---- a determinant with a 0 in it

less_none : (p q : ℤ) → q ≡ pos 0 → pos 0 <ℤ (p -ℤ q) → pos 0 <ℤ p
less_none p q e h = omega (arith, ints)

none_less : (p q : ℤ) → p ≡ pos 0 → pos 0 <ℤ (p -ℤ q) → q <ℤ pos 0
none_less p q e h = omega (arith, ints)

-- ---- the sides

module _ (a b c : Point) (turns : pos 0 <ℤ orientation a b c) where
  abbrev e : ℤ
  e = pos b.east -ℤ pos a.east

  abbrev n : ℤ
  n = pos b.north -ℤ pos a.north

  abbrev e' : ℤ
  e' = pos c.east -ℤ pos a.east

  abbrev n' : ℤ
  n' = pos c.north -ℤ pos a.north

  is : pos 0 <ℤ (e *ℤ n' -ℤ n *ℤ e')
  unfolding orientation
  is = turns

  upright : a.east ≡ b.east → (n *ℤ e') <ℤ pos 0
  upright s =
      let z : e ≡ pos 0 = omega (arith, ints) in
      none_less (e *ℤ n') (n *ℤ e') (ap (λ t. t *ℤ n') z ∙ zero-*ℤ n') is

  level : a.north ≡ b.north → pos 0 <ℤ (e *ℤ n')
  level s =
      let z : n ≡ pos 0 = omega (arith, ints) in
      less_none (e *ℤ n') (n *ℤ e') (ap (λ t. t *ℤ e') z ∙ zero-*ℤ e') is

  -- the face lies east of it
  pub runs_south : a.east ≡ b.east → a.east ≤ c.east → b.north < a.north
  runs_south s l = let h = below_right n e' (upright s) (omega (arith, ints)) in omega (arith, ints)

  -- west of it
  pub runs_north : a.east ≡ b.east → c.east ≤ a.east → a.north < b.north
  runs_north s l = let h = below_left n e' (upright s) (omega (arith, ints)) in omega (arith, ints)

  -- north of it
  pub runs_east : a.north ≡ b.north → a.north ≤ c.north → a.east < b.east
  runs_east s l = let h = above_right e n' (level s) (omega (arith, ints)) in omega (arith, ints)

  -- south of it
  pub runs_west : a.north ≡ b.north → c.north ≤ a.north → b.east < a.east
  runs_west s l = let h = above_left e n' (level s) (omega (arith, ints)) in omega (arith, ints)
