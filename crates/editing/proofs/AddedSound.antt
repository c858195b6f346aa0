-- A new vertex in the face that owns its point keeps a sound mesh sound.
use Rattle.std.proofs.Common.{◌≡◌, ℕ, zero, suc, ◌+◌, ◌*◌, ◌<◌, ◌≤◌, Bool, true, false, cond, ◌&&◌, length, pos, ◌<ℤ◌, is_some, Some, None, Option, sym, refl, ap, ◌∙◌, subst, arith, ⊎_elim}
use Rattle.std.proofs.lemmas.Bool.{both_ways, and_parts, and_from, eq-eqb}
use Rattle.arith.specs.Ranges.{first, or_else}
use Rattle.arith.proofs.Ranges.{first_passes, last_or_below}
use Rattle.mesh.specs.declared.Point.{Point}
use Rattle.mesh.specs.declared.Vertex.{Vertex}
use Rattle.mesh.specs.Geometry.{orientation, positive, admits, place}
use Rattle.mesh.specs.Meshes.{Mesh, next, used, faces, half, vertex, origin_point, twin_of, face_owns, owner}
use Rattle.mesh.specs.Sound.{Sound, strictly_inside, stands_at, is_occupied}
use Rattle.mesh.proofs.Rings.{next_first, next_second, next_third, next_thrice, next_used}
use Rattle.mesh.specs.Edits.{on_line, crossed, split_at, with_vertex, added_in, added}
use Rattle.editing.specs.AddLaws.{AddKeepsSound}
use Rattle.mesh.proofs.Borders.{crossed_inner}
use Rattle.mesh.proofs.Borders.{is_zero_known}
use Rattle.editing.proofs.Corners.{SamePlace, off_line, left_of_next, left_of_previous, beyond_first, beyond_second}
use Rattle.editing.proofs.Turns.{same_turn, turns}
use Rattle.editing.proofs.FaceSplit.{split_face_sound}
use Rattle.editing.proofs.EdgeSplit.{split_edge_sound}

-- ---- no vertex stands there

-- a search that ends with none found none
neither : (o : Option ℕ) (b : Bool) (n : ℕ) → is_some (or_else o b n) ≡ false → (is_some o ≡ false) × (b ≡ false)
neither (Some k) b n e = absurd (both_ways true e refl)
neither None true n e = absurd (both_ways true e refl)
neither None false n e = (refl, refl)

none_passes : (test : ℕ → Bool) (n : ℕ) → is_some (first test n) ≡ false → (k : ℕ) → k < n → test k ≡ false
none_passes test zero e k h = absurd (omega arith)
none_passes test (suc n) e k h =
    let p = neither (first test n) (test n) n e in
    ⊎_elim (none_passes test n p.0 k) (λ z. ap test z ∙ p.1) (last_or_below k n h)

-- no vertex in use stands at w
unoccupied : (m : Mesh) (w : Point) → is_occupied m w ≡ false → (v : ℕ) → v < m.header.count → SamePlace w (place (vertex m v)) → ⊥
unfolding is_occupied
unoccupied m w e v h s =
    both_ways (stands_at m w v) (none_passes (stands_at m w) m.header.count e v h)
    (and_from _ _ (eq-eqb (vertex m v).east w.east (sym s.0)) (eq-eqb (vertex m v).north w.north (sym s.1)))

-- ---- which half-edge is crossed

-- the half-edge that is chosen among three passes its test; where none is, none does
chosen :
    (b₀ b₁ b₂ : Bool) (x y z s : ℕ) (Q : ℕ → Type 0) → cond b₀ (Some x) (cond b₁ (Some y) (cond b₂ (Some z) None)) ≡ Some s →
    (b₀ ≡ true → Q x) → (b₁ ≡ true → Q y) → (b₂ ≡ true → Q z) → Q s
chosen true b₁ b₂ x y z s Q e f g h = let i : x ≡ s = cc in subst Q i (f refl)
chosen false true b₂ x y z s Q e f g h = let i : y ≡ s = cc in subst Q i (g refl)
chosen false false true x y z s Q e f g h = let i : z ≡ s = cc in subst Q i (h refl)
chosen false false false x y z s Q e f g h = let d : ◌≡◌ {A = ℕ} 0 1 = cc in absurd (omega arith)

unchosen :
    (b₀ b₁ b₂ : Bool) (x y z : ℕ) → cond b₀ (Some x) (cond b₁ (Some y) (cond b₂ (Some z) None)) ≡ None →
    (b₀ ≡ false) × (b₁ ≡ false) × (b₂ ≡ false)
unchosen true b₁ b₂ x y z e = let d : ◌≡◌ {A = ℕ} 0 1 = cc in absurd (omega arith)
unchosen false true b₂ x y z e = let d : ◌≡◌ {A = ℕ} 0 1 = cc in absurd (omega arith)
unchosen false false true x y z e = let d : ◌≡◌ {A = ℕ} 0 1 = cc in absurd (omega arith)
unchosen false false false x y z e = (refl, refl, refl)

module _ (m : Mesh) (w : Vertex) (f : ℕ) (σ : Sound m) (low : w.height ≤ 32767) (inner : strictly_inside m.header (place w) ≡ true)
    (free : is_occupied m (place w) ≡ false) (few : m.header.count < 1024) (vertex_room : m.header.count < length m.vertices)
    (room : used m + 6 ≤ length m.half_edges) (in_use : f < faces m) (owned : face_owns m (place w) f ≡ true) where
  abbrev P : ℕ → Point
  P s = origin_point m s

  abbrev W : Point
  W = place w

  -- w lies left of half-edge s, or on its line
  abbrev Admits : ℕ → Type 0
  Admits s = admits (P s) (P (next s)) W ≡ true

  -- ... of each half-edge of the face
  record Admitted : Type 0 where
    at_0 : Admits (3 * f)
    at_1 : Admits (3 * f + 1)
    at_2 : Admits (3 * f + 2)

  admitted : Admitted
  admitted =
      let a = P (3 * f) in
      let b = P (3 * f + 1) in
      let c = P (3 * f + 2) in
      let p = and_parts (positive (orientation a b c) && admits a b W && admits b c W) (admits c a W) owned in
      let q = and_parts (positive (orientation a b c) && admits a b W) (admits b c W) p.0 in
      let r = and_parts (positive (orientation a b c)) (admits a b W) q.0 in
      record {
        at_0 = subst (λ (x : ℕ). admits a (P x) W ≡ true) (sym (next_first f)) r.1;
        at_1 = subst (λ (x : ℕ). admits b (P x) W ≡ true) (sym (next_second f)) q.1;
        at_2 = subst (λ (x : ℕ). admits c (P x) W ≡ true) (sym (next_third f)) p.1;
      }

  -- w stands apart from each origin
  apart : (s : ℕ) → s < used m → SamePlace W (P s) → ⊥
  apart s h = unoccupied m W free (half m s).origin (σ.origins s h)

  -- w on the line of s, half-edge of the face, and so on the edge
  record OnEdge (s : ℕ) : Type 0 where
    on : on_line m W s ≡ true
    after : Admits (next s)
    before : Admits (next (next s))

  -- the half-edge that is crossed
  crossed_at : (s : ℕ) → crossed m W f ≡ Some s → OnEdge s
  unfolding crossed
  crossed_at s e =
      let e₀ = next_first f in
      let e₁ = next_second f in
      let e₂ = next_third f in
      let A : ℕ → Type 0 = λ x. Admits x in
      let α = admitted in
      chosen (on_line m W (3 * f)) (on_line m W (3 * f + 1)) (on_line m W (3 * f + 2)) (3 * f) (3 * f + 1) (3 * f + 2) s OnEdge e
      (λ o. record { on = o; after = subst A (sym e₀) α.at_1; before = subst A (sym (ap next e₀ ∙ e₁)) α.at_2 })
      (λ o. record { on = o; after = subst A (sym e₁) α.at_2; before = subst A (sym (ap next e₁ ∙ e₂)) α.at_0 })
      (λ o. record { on = o; after = subst A (sym e₂) α.at_0; before = subst A (sym (ap next e₂ ∙ e₀)) α.at_1 })

  uncrossed : crossed m W f ≡ None → (on_line m W (3 * f) ≡ false) × (on_line m W (3 * f + 1) ≡ false) × (on_line m W (3 * f + 2) ≡ false)
  unfolding crossed
  uncrossed e = unchosen (on_line m W (3 * f)) (on_line m W (3 * f + 1)) (on_line m W (3 * f + 2)) (3 * f) (3 * f + 1) (3 * f + 2) e

  -- w on no line of the face, and w on one
  cut_face : crossed m W f ≡ None → Sound (with_vertex m w (split_at m.half_edges f None (used m) m.header.count))
  cut_face e =
      let o = uncrossed e in
      let α = admitted in
      let left : (s : ℕ) → Admits s → on_line m W s ≡ false → pos 0 <ℤ orientation (P s) (P (next s)) W = λ s a z. off_line (P s) (P (next s)) W a z in
      split_face_sound m σ w low inner few vertex_room room f in_use
      (subst (λ (x : ℕ). pos 0 <ℤ orientation (P (3 * f)) (P x) W) (next_first f) (left (3 * f) α.at_0 o.0))
      (subst (λ (x : ℕ). pos 0 <ℤ orientation (P (3 * f + 1)) (P x) W) (next_second f) (left (3 * f + 1) α.at_1 o.1))
      (subst (λ (x : ℕ). pos 0 <ℤ orientation (P (3 * f + 2)) (P x) W) (next_third f) (left (3 * f + 2) α.at_2 o.2))

  cut_edge : (s : ℕ) → crossed m W f ≡ Some s → Sound (with_vertex m w (split_at m.half_edges f (Some s) (used m) m.header.count))
  cut_edge s e =
      let i = crossed_inner m σ W inner f s in_use e in
      let l = next_used m s i.0 in
      let κ = crossed_at s e in
      let t = twin_of m s in
      let tu = σ.twins s i.0 i.1 in
      let opp = σ.opposite s i.0 i.1 in
      let p = P s in
      let q = P (next s) in
      let r = P (next (next s)) in
      let u = P (next (next t)) in
      let pqr = turns m σ s i.0 in
      let on = is_zero_known (orientation p q W) κ.on in
      let qr = left_of_next p q r W pqr on κ.after (apart (next s) l) in
      let before = subst (λ (x : ℕ). admits r (P x) W ≡ true) (next_thrice s) κ.before in
      let rp = left_of_previous p q r W pqr on before (apart s i.0) in
      let point_at : (x y : ℕ) → (half m x).origin ≡ (half m y).origin → P x ≡ P y = λ x y z. ap (λ v. place (vertex m v)) z in
      let qpu = same_turn q p u (P t) (P (next t)) u (sym (point_at t (next s) opp.0)) (sym (point_at (next t) s opp.1)) refl (turns m σ t tu) in
      split_edge_sound m σ w low inner few vertex_room room s i.0 i.1 rp qr
      (beyond_first p q r W pqr on u qpu rp) (beyond_second p q r W pqr on u qpu qr)

  added_at : (o : Option ℕ) → crossed m W f ≡ o → Sound (with_vertex m w (split_at m.half_edges f o (used m) m.header.count))
  added_at None e = cut_face e
  added_at (Some s) e = cut_edge s e

-- the owner is a face that owns the point
pub add_keeps_sound : AddKeepsSound
unfolding owner added
add_keeps_sound m w f σ low inner free few vertex_room room e =
    let p = first_passes (face_owns m (place w)) (faces m) f e in
    subst (λ (o : Option ℕ). Sound (added_in m w o)) (sym e)
    (added_at m w f σ low inner free few vertex_room room p.0 p.1 (crossed m (place w) f) refl)
