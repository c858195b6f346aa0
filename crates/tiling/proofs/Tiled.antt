-- Every sound mesh tiles its rectangle: the crossings of all faces leave those of the four borders, and these leave one.
use Rattle.std.proofs.Common.{◌≡◌, ℕ, zero, suc, ◌+◌, ◌*◌, ◌<◌, ◌≤◌, Bool, true, false, not, ◌&&◌, eqb, ◌≢◌, [], ◌∷◌, ℤ, pos, negsuc, ◌-ℤ◌, ◌*ℤ◌, ◌≤ℤ◌, ◌<ℤ◌, Some, None, Option, sym, refl, ap, ◌∙◌, ap₂, ⊎_elim, arith}
use lib.IntN.{zero-*ℤ}
use lib.Signed.{le_z}
use borrow.Author.Differences.{ints}
use Rattle.std.proofs.lemmas.Bool.{not-true, eqb-false, ne_eqb, cases_eq, cases_Bool, or_from, le-leb, lt-leb}
use Rattle.arith.specs.Ranges.{sum, first, or_else}
use Rattle.arith.proofs.Ranges.{first_passes}
use Rattle.arith.proofs.Sums.{sum_same, sum_sum}
use Rattle.arith.proofs.Reindexing.{masked, Few, sum_thirds, sum_split}
use Rattle.mesh.specs.declared.Point.{Point}
use Rattle.mesh.specs.Geometry.{orientation, place, point}
use Rattle.mesh.specs.Meshes.{Mesh, next, used, faces, vertex, origin_point, has_twin, face_owns, owner}
use Rattle.mesh.specs.Sound.{Sound}
use Rattle.mesh.proofs.Decide.{T_true, true_T}
use Rattle.mesh.proofs.Rings.{next_first, next_second, next_third}
use Rattle.tiling.specs.Crossings.{is_up, descends, ascends, bit}
use Rattle.tiling.specs.Tiles.{OnGround, Owns, EverySoundMeshTiles}
use Rattle.tiling.proofs.Across.{alone, sum_across, sum_parted}
use Rattle.tiling.proofs.Borders.{corner_after}
use Rattle.tiling.proofs.Rounds.{sum_borders}
use Rattle.tiling.proofs.Crossed.{crossing, turned_back}

module _ (m : Mesh) (σ : Sound m) (w : Point) where
  abbrev P : ℕ → Point
  P x = origin_point m x

  -- what half-edge x adds to the crossings
  abbrev down : ℕ → ℕ
  down x = bit (descends (P x) (P (next x)) w)

  abbrev up : ℕ → ℕ
  up x = bit (ascends (P x) (P (next x)) w)

  -- how many faces own w
  abbrev owners : ℕ
  owners = sum (λ f. bit (face_owns m w f)) (faces m)

  -- the crossings of one face
  face_crossing : (f : ℕ) → f < faces m →
      bit (face_owns m w f) + (up (3 * f) + up (3 * f + 1) + up (3 * f + 2)) ≡ down (3 * f) + down (3 * f + 1) + down (3 * f + 2)
  face_crossing f l =
      let a = P (3 * f) in
      let b = P (3 * f + 1) in
      let c = P (3 * f + 2) in
      let n₁ = ap P (next_first f) in
      let n₂ = ap P (next_second f) in
      let n₃ = ap P (next_third f) in
      (λ i. bit (face_owns m w f) + (bit (ascends a (n₁ i) w) + bit (ascends b (n₂ i) w) + bit (ascends c (n₃ i) w)))
      ∙ crossing a b c w (σ.faces_turn f l)
      ∙ sym (λ i. bit (descends a (n₁ i) w) + bit (descends b (n₂ i) w) + bit (descends c (n₃ i) w))

  -- of all faces
  all_crossings : owners + sum up (used m) ≡ sum down (used m)
  all_crossings =
      let e : used m ≡ 3 * faces m = omega arith in
      let u = ap (sum up) e ∙ sum_thirds up (faces m) in
      let d = ap (sum down) e ∙ sum_thirds down (faces m) in
      let s = sum_sum (λ f. bit (face_owns m w f)) (λ f. up (3 * f) + up (3 * f + 1) + up (3 * f + 2)) (faces m) in
      let t = sum_same (λ f. bit (face_owns m w f) + (up (3 * f) + up (3 * f + 1) + up (3 * f + 2))) (λ f. down (3 * f) + down (3 * f + 1) + down (3 * f + 2)) (faces m) face_crossing in
      omega (arith, u, d, s, t)

  -- twins cancel: what comes down on one side goes up on the other
  twins_cancel : sum (masked (has_twin m) down) (used m) ≡ sum (masked (has_twin m) up) (used m)
  twins_cancel = sum_across m σ down up (λ x l e.
      let k = σ.opposite x l (eqb-false _ _ (not-true _ e)) in
      let at : ℕ → Point = λ v. place (vertex m v) in
      (λ i. bit (descends (at (k.0 i)) (at (k.1 i)) w))
      ∙ ap bit (turned_back (P x) (P (next x)) w))

  -- so only the borders count
  border_crossings : owners + sum (alone m up) (used m) ≡ sum (alone m down) (used m)
  border_crossings = omega (arith, all_crossings, twins_cancel, sum_parted m σ up, sum_parted m σ down)

  abbrev corner : ℕ → Point
  corner v = place (vertex m v)

  abbrev D : ℕ → ℕ
  D v = bit (descends (corner v) (corner (corner_after v)) w)

  abbrev U : ℕ → ℕ
  U v = bit (ascends (corner v) (corner (corner_after v)) w)

  borders_down : sum (alone m down) (used m) ≡ D 0 + D 1 + D 2 + D 3
  borders_down = sum_borders m σ down D (λ x l v e f. λ i. bit (descends (corner (e i)) (corner (f i)) w))

  borders_up : sum (alone m up) (used m) ≡ U 0 + U 1 + U 2 + U 3
  borders_up = sum_borders m σ up U (λ x l v e f. λ i. bit (ascends (corner (e i)) (corner (f i)) w))

-- ---- the four borders

up_yes : (w v : Point) → w.north ≤ v.north → is_up w v ≡ true
up_yes w v h = le-leb w.north v.north h

up_no : (w v : Point) → v.north < w.north → is_up w v ≡ false
up_no w v h = lt-leb w.north v.north h

-- two ends on one level are crossed neither way
level_down : (x y w : Point) (b : Bool) → is_up w x ≡ b → is_up w y ≡ b → bit (descends x y w) ≡ 0
level_down x y w true p q = ap₂ (λ a b. bit (a && not b && le_z (pos 0) (orientation x y w))) p q
level_down x y w false p q = ap₂ (λ a b. bit (a && not b && le_z (pos 0) (orientation x y w))) p q

level_up : (x y w : Point) (b : Bool) → is_up w x ≡ b → is_up w y ≡ b → bit (ascends x y w) ≡ 0
level_up x y w true p q = ap₂ (λ a b. bit (not a && b && le_z (orientation x y w) (pos 0))) p q
level_up x y w false p q = ap₂ (λ a b. bit (not a && b && le_z (orientation x y w) (pos 0))) p q

not_up_to : (z : ℤ) → pos 0 <ℤ z → le_z z (pos 0) ≡ false
not_up_to z h = ⊎_elim (λ e. absurd (let k : z ≤ℤ pos 0 = record { le = true_T _ e } in omega (arith, ints))) (λ e. e) (cases_Bool (le_z z (pos 0)))

up_from : (z : ℤ) → pos 0 ≤ℤ z → le_z (pos 0) z ≡ true
up_from z h = T_true _ h.le

-- the signs of the two determinants
product_below : (h y : ℤ) → pos 0 <ℤ h → y <ℤ pos 0 → (h *ℤ y) <ℤ pos 0
product_below (pos zero) y p q = absurd p.lt
product_below (negsuc a) y p q = absurd p.lt
product_below (pos (suc a)) (pos b) p q = absurd (omega (arith, ints))
product_below (pos (suc a)) (negsuc b) p q = omega (arith, ints)

product_upto : (h y : ℤ) → h ≤ℤ pos 0 → pos 0 ≤ℤ y → (h *ℤ y) ≤ℤ pos 0
product_upto (pos zero) y p q = let z = zero-*ℤ y in omega (arith, ints)
product_upto (pos (suc a)) y p q = absurd (omega (arith, ints))
product_upto (negsuc a) (pos b) p q = omega (arith, ints)
product_upto (negsuc a) (negsuc b) p q = absurd (omega (arith, ints))

none_less_below : (p q : ℤ) → p ≡ pos 0 → q <ℤ pos 0 → pos 0 <ℤ (p -ℤ q)
none_less_below p q e h = omega (arith, ints)

none_less_upto : (p q : ℤ) → p ≡ pos 0 → q ≤ℤ pos 0 → pos 0 ≤ℤ (p -ℤ q)
none_less_upto p q e h = omega (arith, ints)

module _ (W H : ℕ) (w : Point) (l : w.east < W) (a : 0 < w.north) (b : w.north ≤ H) where
  -- w lies left of the east border, which goes up
  east_turn : pos 0 <ℤ orientation (point W 0) (point W H) w
  unfolding orientation
  east_turn =
      let z : pos W -ℤ pos W ≡ pos 0 = omega (arith, ints) in
      none_less_below ((pos W -ℤ pos W) *ℤ (pos w.north -ℤ pos 0)) ((pos H -ℤ pos 0) *ℤ (pos w.east -ℤ pos W))
      (ap (λ t. t *ℤ (pos w.north -ℤ pos 0)) z ∙ zero-*ℤ (pos w.north -ℤ pos 0))
      (product_below (pos H -ℤ pos 0) (pos w.east -ℤ pos W) (omega (arith, ints)) (omega (arith, ints)))

  -- and not right of the west border, which comes down
  west_turn : pos 0 ≤ℤ orientation (point 0 H) (point 0 0) w
  unfolding orientation
  west_turn =
      none_less_upto ((pos 0 -ℤ pos 0) *ℤ (pos w.north -ℤ pos H)) ((pos 0 -ℤ pos H) *ℤ (pos w.east -ℤ pos 0))
      (zero-*ℤ (pos w.north -ℤ pos H))
      (product_upto (pos 0 -ℤ pos H) (pos w.east -ℤ pos 0) (omega (arith, ints)) (omega (arith, ints)))

  east_down : bit (descends (point W 0) (point W H) w) ≡ 0
  east_down = ap (λ t. bit (t && not (is_up w (point W H)) && le_z (pos 0) (orientation (point W 0) (point W H) w))) (up_no w (point W 0) a)

  east_up : bit (ascends (point W 0) (point W H) w) ≡ 0
  east_up =
      (λ i. bit (not (up_no w (point W 0) a i) && up_yes w (point W H) b i && not_up_to (orientation (point W 0) (point W H) w) east_turn i))

  west_down : bit (descends (point 0 H) (point 0 0) w) ≡ 1
  west_down =
      (λ i. bit (up_yes w (point 0 H) b i && not (up_no w (point 0 0) a i) && up_from (orientation (point 0 H) (point 0 0) w) west_turn i))

  west_up : bit (ascends (point 0 H) (point 0 0) w) ≡ 0
  west_up = ap (λ t. bit (not t && is_up w (point 0 0) && le_z (orientation (point 0 H) (point 0 0) w) (pos 0))) (up_yes w (point 0 H) b)

module _ (m : Mesh) (σ : Sound m) (w : Point) (g : OnGround m w) where
  abbrev W : ℕ
  W = m.header.width

  abbrev H : ℕ
  H = m.header.depth

  at : (v e n : ℕ) → (vertex m v).east ≡ e → (vertex m v).north ≡ n → place (vertex m v) ≡ point e n
  at v e n p q = λ i. record { east = p i; north = q i }

  sw : place (vertex m 0) ≡ point 0 0
  sw = at 0 0 0 σ.southwest.0 σ.southwest.1

  se : place (vertex m 1) ≡ point W 0
  se = at 1 W 0 σ.southeast.0 σ.southeast.1

  ne : place (vertex m 2) ≡ point W H
  ne = at 2 W H σ.northeast.0 σ.northeast.1

  nw : place (vertex m 3) ≡ point 0 H
  nw = at 3 0 H σ.northwest.0 σ.northwest.1

  -- exactly one face owns w
  once : owners m σ w ≡ 1
  once =
      let l = g.west_of_border in
      let a = g.north_of_border in
      let b = g.not_beyond in
      let d₀ = (λ i. bit (descends (sw i) (se i) w)) ∙ level_down (point 0 0) (point W 0) w false (up_no w (point 0 0) a) (up_no w (point W 0) a) in
      let d₁ = (λ i. bit (descends (se i) (ne i) w)) ∙ east_down W H w l a b in
      let d₂ = (λ i. bit (descends (ne i) (nw i) w)) ∙ level_down (point W H) (point 0 H) w true (up_yes w (point W H) b) (up_yes w (point 0 H) b) in
      let d₃ = (λ i. bit (descends (nw i) (sw i) w)) ∙ west_down W H w l a b in
      let u₀ = (λ i. bit (ascends (sw i) (se i) w)) ∙ level_up (point 0 0) (point W 0) w false (up_no w (point 0 0) a) (up_no w (point W 0) a) in
      let u₁ = (λ i. bit (ascends (se i) (ne i) w)) ∙ east_up W H w l a b in
      let u₂ = (λ i. bit (ascends (ne i) (nw i) w)) ∙ level_up (point W H) (point 0 H) w true (up_yes w (point W H) b) (up_yes w (point 0 H) b) in
      let u₃ = (λ i. bit (ascends (nw i) (sw i) w)) ∙ west_up W H w l a b in
      omega (arith, border_crossings m σ w, borders_down m σ w, borders_up m σ w, d₀, d₁, d₂, d₃, u₀, u₁, u₂, u₃)

-- ---- a sum of ones that is 1

none_parts : (o : Option ℕ) (b : Bool) (n : ℕ) → or_else o b n ≡ None → (o ≡ None) × (b ≡ false)
none_parts (Some k) b n e = absurd (let z : ◌≡◌ {A = ℕ} 0 1 = cc in omega arith)
none_parts None true n e = absurd (let z : ◌≡◌ {A = ℕ} 0 1 = cc in omega arith)
none_parts None false n e = (refl, refl)

-- where none is found, none passes
none_passes : (test : ℕ → Bool) (n : ℕ) → first test n ≡ None → sum (λ k. bit (test k)) n ≡ 0
none_passes test zero e = refl
none_passes test (suc n) e =
    let p = none_parts (first test n) (test n) n e in omega (arith, none_passes test n p.0, ap bit p.1)

-- two that pass make 2
two_pass : (test : ℕ → Bool) (n f g : ℕ) → f < n → g < n → f ≢ g → test f ≡ true → test g ≡ true → 2 ≤ sum (λ k. bit (test k)) n
two_pass test n f g lf lg apart p q =
    let few : Few n (f ∷ g ∷ []) = (lf, or_from (eqb g f) false (ne_eqb g f (λ e. apart (sym e))) refl, (lg, refl, tt)) in
    omega (arith, sum_split (λ k. bit (test k)) n (f ∷ g ∷ []) few, ap bit p, ap bit q)

-- the first owner, if there is one
pub owner_owns : (m : Mesh) (w : Point) (f : ℕ) → owner m w ≡ Some f → Owns m w f
unfolding owner
owner_owns m w f e = first_passes (face_owns m w) (faces m) f e

pub owner_found : (m : Mesh) → Sound m → (w : Point) → OnGround m w → (f : ℕ) × (owner m w ≡ Some f)
unfolding owner
owner_found m σ w g = by (first (face_owns m w) (faces m)) refl
  where
    by : (o : Option ℕ) → first (face_owns m w) (faces m) ≡ o → (f : ℕ) × (first (face_owns m w) (faces m) ≡ Some f)
    by (Some f) e = (f, e)
    by None e = absurd (omega (arith, once m σ w g, none_passes (face_owns m w) (faces m) e))

pub tiles : EverySoundMeshTiles
tiles m σ w g =
    let o = owner_found m σ w g in
    let f = owner_owns m w o.0 o.1 in
    record {
      face = o.0;
      owns = f;
      alone = λ h k. ⊎_elim (λ e. e)
          (λ apart. absurd (omega (arith, once m σ w g, two_pass (face_owns m w) (faces m) h o.0 k.0 f.0 apart k.1 f.1)))
          (cases_eq h o.0);
    }
