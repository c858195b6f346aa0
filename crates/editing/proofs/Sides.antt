-- The two ends of an edge that may be made by a flip do not lie on one border, since the quadrilateral has a corner on either side.
use Rattle.std.proofs.Common.{◌≡◌, ℕ, zero, suc, ◌<◌, ◌≤◌, true, ◌&&◌, ◌||◌, eqb, [], ◌∷◌, ℤ, pos, negsuc, ◌-ℤ◌, ◌*ℤ◌, ◌≤ℤ◌, ◌<ℤ◌, sym, ap, ◌∙◌, subst, ⊎_elim, arith}
use lib.IntN.{zero-*ℤ, *ℤ-zero}
use borrow.Author.Differences.{ints}
use Rattle.std.proofs.lemmas.Bool.{or_cases}
use Rattle.arith.proofs.Ring.{var, con, ◌⊖◌, ◌⊗◌, ring, sums}
use Rattle.mesh.specs.declared.Header.{Header}
use Rattle.mesh.specs.declared.Point.{Point}
use Rattle.mesh.specs.Geometry.{orientation}
use Rattle.mesh.specs.Meshes.{Mesh, vertex}
use Rattle.mesh.specs.Sound.{Sound, on_border}
use Rattle.mesh.proofs.Borders.{both_eq}

-- ---- signs

sign_after : (x y : ℤ) → pos 0 <ℤ (x *ℤ y) → pos 0 ≤ℤ x → pos 0 <ℤ y
sign_after (pos a) (pos zero) h g = absurd (omega (arith, ints))
sign_after (pos a) (pos (suc n)) h g = omega (arith, ints)
sign_after (pos a) (negsuc n) h g = absurd (omega (arith, ints))
sign_after (negsuc a) y h g = absurd (omega (arith, ints))

sign_before : (x y : ℤ) → pos 0 <ℤ (x *ℤ y) → x ≤ℤ pos 0 → y <ℤ pos 0
sign_before (pos zero) y h g = let z = zero-*ℤ y in absurd (omega (arith, ints))
sign_before (pos (suc a)) y h g = absurd (omega (arith, ints))
sign_before (negsuc a) (pos n) h g = absurd (omega (arith, ints))
sign_before (negsuc a) (negsuc n) h g = omega (arith, ints)

first_product : (x y z w : ℤ) → w ≡ pos 0 → pos 0 <ℤ (x *ℤ y -ℤ z *ℤ w) → pos 0 <ℤ (x *ℤ y)
first_product x y z w e h =
    let k : z *ℤ w ≡ pos 0 = ap (λ u. z *ℤ u) e ∙ *ℤ-zero z in
    let j : x *ℤ y -ℤ z *ℤ w ≡ x *ℤ y = omega (arith, sums) in
    subst (λ (u : ℤ). pos 0 <ℤ u) j h

second_product : (x y z e f : ℤ) → y ≡ pos 0 → pos 0 <ℤ (x *ℤ y -ℤ z *ℤ (e -ℤ f)) → pos 0 <ℤ (z *ℤ (f -ℤ e))
second_product x y z e f n h =
    let k : x *ℤ y ≡ pos 0 = ap (λ u. x *ℤ u) n ∙ *ℤ-zero x in
    let r : z *ℤ (f -ℤ e) ≡ pos 0 -ℤ z *ℤ (e -ℤ f) =
    ring (z ∷ e ∷ f ∷ []) (var 0 ⊗ (var 2 ⊖ var 1)) (con (pos 0) ⊖ var 0 ⊗ (var 1 ⊖ var 2)) tt in
    let j : x *ℤ y -ℤ z *ℤ (e -ℤ f) ≡ z *ℤ (f -ℤ e) = omega (arith, sums) in
    subst (λ (u : ℤ). pos 0 <ℤ u) j h

-- ---- q lies on one side of the line of u and r

east_of : (u q r : Point) → u.east ≡ r.east → u.east ≤ q.east → pos 0 <ℤ orientation u q r → u.north < r.north
unfolding orientation
east_of u q r e l h =
    let x = pos q.east -ℤ pos u.east in
    let y = pos r.north -ℤ pos u.north in
    let k = sign_after x y (first_product x y (pos q.north -ℤ pos u.north) (pos r.east -ℤ pos u.east) (omega (arith, ints)) h) (omega (arith, ints)) in
    omega (arith, ints)

west_of : (u q r : Point) → u.east ≡ r.east → q.east ≤ u.east → pos 0 <ℤ orientation u q r → r.north < u.north
unfolding orientation
west_of u q r e l h =
    let x = pos q.east -ℤ pos u.east in
    let y = pos r.north -ℤ pos u.north in
    let k = sign_before x y (first_product x y (pos q.north -ℤ pos u.north) (pos r.east -ℤ pos u.east) (omega (arith, ints)) h) (omega (arith, ints)) in
    omega (arith, ints)

north_of : (u q r : Point) → u.north ≡ r.north → u.north ≤ q.north → pos 0 <ℤ orientation u q r → r.east < u.east
unfolding orientation
north_of u q r e l h =
    let z = pos q.north -ℤ pos u.north in
    let k = sign_after z (pos u.east -ℤ pos r.east)
    (second_product (pos q.east -ℤ pos u.east) (pos r.north -ℤ pos u.north) z (pos r.east) (pos u.east) (omega (arith, ints)) h) (omega (arith, ints)) in
    omega (arith, ints)

south_of : (u q r : Point) → u.north ≡ r.north → q.north ≤ u.north → pos 0 <ℤ orientation u q r → u.east < r.east
unfolding orientation
south_of u q r e l h =
    let z = pos q.north -ℤ pos u.north in
    let k = sign_before z (pos u.east -ℤ pos r.east)
    (second_product (pos q.east -ℤ pos u.east) (pos r.north -ℤ pos u.north) z (pos r.east) (pos u.east) (omega (arith, ints)) h) (omega (arith, ints)) in
    omega (arith, ints)

-- ---- the border

-- a vertex in use lies in the rectangle
pub in_rectangle : (m : Mesh) → Sound m → (v : ℕ) → v < m.header.count → ((vertex m v).east ≤ m.header.width) × ((vertex m v).north ≤ m.header.depth)
in_rectangle m σ zero l = (omega (arith, σ.southwest.0), omega (arith, σ.southwest.1))
in_rectangle m σ (suc zero) l = (omega (arith, σ.southeast.0), omega (arith, σ.southeast.1))
in_rectangle m σ (suc (suc zero)) l = (omega (arith, σ.northeast.0), omega (arith, σ.northeast.1))
in_rectangle m σ (suc (suc (suc zero))) l = (omega (arith, σ.northwest.0), omega (arith, σ.northwest.1))
in_rectangle m σ (suc (suc (suc (suc v)))) l =
    let i = σ.inside (suc (suc (suc (suc v)))) (omega arith) l in (omega (arith, i.1), omega (arith, i.3))

abbrev In : Header → Point → Type 0
In h p = (p.east ≤ h.width) × (p.north ≤ h.depth)

-- q and p lie on two sides of the line of u and r, which is then no border
pub inner_diagonal :
    (h : Header) (u q r p : Point) → In h q → In h p → pos 0 <ℤ orientation u q r → pos 0 <ℤ orientation r p u → on_border h u r ≡ true → ⊥
inner_diagonal h u q r p iq ip one two e =
    let west = eqb u.east 0 && eqb r.east 0 in
    let east = eqb u.east h.width && eqb r.east h.width in
    let south = eqb u.north 0 && eqb r.north 0 in
    let north = eqb u.north h.depth && eqb r.north h.depth in
    ⊎_elim
    (λ e₁. ⊎_elim
    (λ e₂. ⊎_elim on_west on_east (or_cases west east e₂))
    on_south (or_cases (west || east) south e₁))
    on_north (or_cases (west || east || south) north e)
  where
    on_west : (eqb u.east 0 && eqb r.east 0) ≡ true → ⊥
    on_west t =
        let b = both_eq u.east r.east 0 t in
        let k = east_of u q r (b.0 ∙ sym b.1) (omega arith) one in
        omega (arith, east_of r p u (b.1 ∙ sym b.0) (omega arith) two)

    on_east : (eqb u.east h.width && eqb r.east h.width) ≡ true → ⊥
    on_east t =
        let b = both_eq u.east r.east h.width t in
        let k = west_of u q r (b.0 ∙ sym b.1) (omega arith) one in
        omega (arith, west_of r p u (b.1 ∙ sym b.0) (omega arith) two)

    on_south : (eqb u.north 0 && eqb r.north 0) ≡ true → ⊥
    on_south t =
        let b = both_eq u.north r.north 0 t in
        let k = north_of u q r (b.0 ∙ sym b.1) (omega arith) one in
        omega (arith, north_of r p u (b.1 ∙ sym b.0) (omega arith) two)

    on_north : (eqb u.north h.depth && eqb r.north h.depth) ≡ true → ⊥
    on_north t =
        let b = both_eq u.north r.north h.depth t in
        let k = south_of u q r (b.0 ∙ sym b.1) (omega arith) one in
        omega (arith, south_of r p u (b.1 ∙ sym b.0) (omega arith) two)
