-- How a ray from a point crosses the sides of a face. It runs west from a little east and much less south of the point: a side's end is up if it lies no further south than the point.
use Rattle.std.specs.Prelude.{ℕ, Bool, cond, not, ◌&&◌, pos, int_le, nat_le}
use Rattle.mesh.specs.declared.Point.{Point}
use Rattle.mesh.specs.Geometry.{orientation}

abbrev pub is_up : Point → Point → Bool
is_up w v = nat_le w.north v.north

-- the side x → y comes down past w, with w on its left or on its line
abbrev pub descends : Point → Point → Point → Bool
descends x y w = is_up w x && not (is_up w y) && int_le (pos 0) (orientation x y w)

-- it goes up past w, with w on its right or on its line
abbrev pub ascends : Point → Point → Point → Bool
ascends x y w = not (is_up w x) && is_up w y && int_le (orientation x y w) (pos 0)

-- 1 for yes, 0 for no
abbrev pub bit : Bool → ℕ
bit b = cond b 1 0
