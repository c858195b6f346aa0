-- A flip changes the cost of a mesh by as much as that of its quadrilateral.
use Rattle.std.proofs.Common.{◌≡◌, ℕ, ◌+◌, ◌<◌, Bool, true, false, cond, ◌≢◌, sym, ap, ◌∙◌, subst, ⊎_elim, arith}
use Rattle.std.proofs.lemmas.Bool.{both_ways, not_from_true, eq-eqb, cases_Bool, cond-true, cond-false}
use Rattle.arith.proofs.Sums.{sum_same}
use Rattle.arith.proofs.Reindexing.{member, sum_differs}
use Rattle.mesh.specs.Geometry.{checked}
use Rattle.mesh.specs.Meshes.{Mesh, next, previous, no_twin, used, half, vertex, twin_of, has_twin}
use Rattle.mesh.specs.Sound.{Sound}
use Rattle.mesh.proofs.Rings.{next_used, previous_used}
use Rattle.mesh.specs.Edits.{half_edge}
use Rattle.editing.proofs.Relabelling.{relabel, stays}
use Rattle.editing.proofs.Quadrilaterals.{Edge, Outside, outside_next, outside_previous, edge_of, not_none}
use Rattle.editing.proofs.Standing.{from_other, turned_at}
use Rattle.editing.proofs.FlipSound.{M, flipped_is, label_below, label_home, s_stays, t_stays, twin_at, flippable_known}
use Rattle.editing.proofs.FlipLaws.{flip_keeps_sound}
use Rattle.cost.specs.Costs.{Parts, LawfulCost, end, edge_cost, face_sum, edge_sum, total}
use Rattle.job.specs.Quads.{face_at, side_at, quad_cost, FlipIsLocal}
use Rattle.tiling.proofs.Across.{across, across_yes, across_no, twinned}
use Rattle.job.proofs.Sides.{lone, has_one}
use Rattle.job.proofs.Quads.{six, six_few, six_outside, face_thrice, faces_thrice, five, edges_part}

module _ (K : Parts) (lawful : LawfulCost K) (m : Mesh) (σ : Sound m) (s t : ℕ) (ε : Edge m s t) (σ' : Sound (M m σ s t ε)) where
  abbrev m' : Mesh
  m' = M m σ s t ε

  abbrev ρ : ℕ → ℕ
  ρ x = relabel s t x

  abbrev inner : ℕ → Bool
  inner = member (six s t)

  -- outside the quadrilateral a half-edge stays where it is
  still : (x : ℕ) → x < used m → Outside s t x → half m' x ≡ half_edge (half m x).origin (ρ (twin_of m x)) (half m x).pin
  still x l o =
      ap (half m') (sym (stays _ _ _ _ x o.off))
      ∙ turned_at m σ s t ε x l
      ∙ ap (λ v. half_edge v (ρ (twin_of m x)) (half m x).pin) (from_other m s t x o.not_s o.not_t)

  end_still : (x : ℕ) → x < used m → Outside s t x → end m' x ≡ end m x
  end_still x l o = ap (λ h. checked (vertex m h.origin)) (still x l o)

  face_still : (x : ℕ) → x < used m → Outside s t x → face_at K m' x ≡ face_at K m x
  face_still x l o =
      let n = end_still (next x) (next_used m x l) (outside_next s t x o) in
      let p = end_still (previous x) (previous_used m x l) (outside_previous s t x o) in
      λ i. K.face (end_still x l o i) (n i) (p i)

  -- a twin in the quadrilateral stays in it
  inner_moves : (u : ℕ) → inner u ≡ true → inner (ρ u) ≡ true
  inner_moves u e = ⊎_elim (λ y. y)
      (λ n. let o = six_outside s t (ρ u) n in
      let fixed = stays _ _ _ _ (ρ u) o.off in
      let home : u ≡ ρ u = sym (label_home m σ s t ε u) ∙ ap (λ y. ρ (ρ y)) fixed ∙ ap ρ fixed ∙ fixed in
      absurd (both_ways (inner u) (ap inner home ∙ n) e))
      (cases_Bool (inner (ρ u)))

  -- none stays none
  none_moves : ρ no_twin ≡ no_twin
  none_moves =
      let ne : (y : ℕ) → y < used m → no_twin ≢ y = λ y l z. not_none m σ y l (sym z) in
      stays _ _ _ _ no_twin (record {
        off_a = ne (next s) (next_used m s ε.here);
        off_b = ne (previous t) (previous_used m t ε.there);
        off_c = ne (next t) (next_used m t ε.there);
        off_d = ne (previous s) (previous_used m s ε.here);
      })

  pub edge' : Edge m' s t
  edge' =
      edge_of m' σ' s t ε.here ε.there
      (ap (twin_of m') (sym (s_stays m σ s t ε)) ∙ twin_at m σ s t ε s ε.here ∙ ap ρ ε.is ∙ t_stays m σ s t ε)

  module _ (x : ℕ) (l : x < used m) (o : Outside s t x) where
    twin_moves : twin_of m' x ≡ ρ (twin_of m x)
    twin_moves = ap (λ h. h.twin) (still x l o)

    -- a half-edge with no twin costs nothing, before and after
    side_alone : has_twin m x ≡ false → (side_at K m' x ≡ side_at K m x) × (across m' x ≡ across m x)
    side_alone e =
        let e' : has_twin m' x ≡ false = not_from_true _ (eq-eqb _ _ (twin_moves ∙ ap ρ (lone m x e) ∙ none_moves)) in
        (cond-false (has_twin m' x) _ 0 e' ∙ sym (cond-false (has_twin m x) _ 0 e), across_no m' σ' x e' ∙ sym (across_no m σ x e))

    module _ (e : has_twin m x ≡ true) where
      twin_below : twin_of m x < used m
      twin_below = σ.twins x l (twinned m σ x e)

      e' : has_twin m' x ≡ true
      e' = has_one m' x (λ z. not_none m σ _ (label_below m σ s t ε (twin_of m x) twin_below) (sym twin_moves ∙ z))

      -- one whose twin lies outside too costs what it did
      side_still : inner (twin_of m x) ≡ false → (side_at K m' x ≡ side_at K m x) × (across m' x ≡ across m x)
      side_still f =
          let far = six_outside s t (twin_of m x) f in
          let same : twin_of m' x ≡ twin_of m x = twin_moves ∙ stays _ _ _ _ (twin_of m x) far.off in
          let n = end_still (next x) (next_used m x l) (outside_next s t x o) in
          let p = end_still (previous x) (previous_used m x l) (outside_previous s t x o) in
          let q = ap (λ y. end m' (previous y)) same ∙ end_still (previous (twin_of m x)) (previous_used m (twin_of m x) twin_below) (outside_previous s t (twin_of m x) far) in
          let cost : edge_cost K m' x ≡ edge_cost K m x = λ i. K.edge (end_still x l o i) (n i) (p i) (q i) in
          (cond-true (has_twin m' x) _ 0 e' ∙ cost ∙ sym (cond-true (has_twin m x) _ 0 e), across_yes m' σ' x e' ∙ same ∙ sym (across_yes m σ x e))

      -- one whose twin lies inside is not counted here
      leads_in : inner (twin_of m x) ≡ true → (inner (across m' x) ≡ true) × (inner (across m x) ≡ true)
      leads_in i =
          (ap inner (across_yes m' σ' x e' ∙ twin_moves) ∙ inner_moves (twin_of m x) i, ap inner (across_yes m σ x e) ∙ i)

  abbrev far : Mesh → ℕ → ℕ
  far n x = cond (inner x) 0 (cond (inner (across n x)) 0 (side_at K n x))

  same_far : (x : ℕ) → (side_at K m' x ≡ side_at K m x) × (across m' x ≡ across m x) → far m' x ≡ far m x
  same_far x e = λ i. cond (inner x) 0 (cond (inner (e.1 i)) 0 (e.0 i))

  none_far : (x : ℕ) → (inner (across m' x) ≡ true) × (inner (across m x) ≡ true) → far m' x ≡ far m x
  none_far x e = ap (λ b. cond (inner x) 0 (cond b 0 (side_at K m' x))) e.0 ∙ sym (ap (λ b. cond (inner x) 0 (cond b 0 (side_at K m x))) e.1)

  -- what lies beyond the quadrilateral costs what it did
  far_still : (x : ℕ) → x < used m → far m' x ≡ far m x
  far_still x l = ⊎_elim
      (λ i. cond-true (inner x) 0 _ i ∙ sym (cond-true (inner x) 0 _ i))
      (λ n. let o = six_outside s t x n in
      ⊎_elim
      (λ e. ⊎_elim (λ i. none_far x (leads_in x l o e i)) (λ f. same_far x (side_still x l o e f)) (cases_Bool (inner (twin_of m x))))
      (λ e. same_far x (side_alone x l o e))
      (cases_Bool (has_twin m x)))
      (cases_Bool (inner x))

  pub edges_local : edge_sum K m' + five K lawful m σ s t ε ≡ edge_sum K m + five K lawful m' σ' s t edge'
  edges_local =
      omega (arith, edges_part K lawful m σ s t ε, edges_part K lawful m' σ' s t edge', sum_same (far m') (far m) (used m) far_still)

  pub faces_local : face_sum K m' + (face_at K m s + face_at K m t) ≡ face_sum K m + (face_at K m' s + face_at K m' t)
  faces_local =
      omega (
        arith,
        faces_thrice K lawful m,
        faces_thrice K lawful m',
        sum_differs (face_at K m') (face_at K m) (used m) (six s t) (six_few K lawful m σ s t ε) (λ x l n. face_still x l (six_outside s t x n)),
        face_thrice K lawful m s,
        face_thrice K lawful m t,
        face_thrice K lawful m' s,
        face_thrice K lawful m' t,
      )

-- the quadrilateral with its edge's two half-edges
quad_at : (K : Parts) (m : Mesh) (s t : ℕ) → twin_of m s ≡ t →
    quad_cost K m s ≡ face_at K m s + face_at K m t + (side_at K m s + side_at K m (next s) + side_at K m (previous s) + side_at K m (next t) + side_at K m (previous t))
unfolding quad_cost
quad_at K m s t e =
    ap (λ t. face_at K m s + face_at K m t + (side_at K m s + side_at K m (next s) + side_at K m (previous s) + side_at K m (next t) + side_at K m (previous t))) e

pub flip_is_local : FlipIsLocal
unfolding total
flip_is_local K lawful m s σ e =
    let t = twin_of m s in
    let ε = (flippable_known m σ s e).edge in
    let n = M m σ s t ε in
    let same = flipped_is m σ s t ε in
    let σ' : Sound n = subst Sound same (flip_keeps_sound m s σ e) in
    let before = quad_at K m s t ε.is in
    let after = quad_at K n s t (edge' K lawful m σ s t ε σ').is in
    let local : total K n + quad_cost K m s ≡ total K m + quad_cost K n s =
    omega (arith, edges_local K lawful m σ s t ε σ', faces_local K lawful m σ s t ε σ', before, after) in
    subst (λ (w : Mesh). total K w + quad_cost K m s ≡ total K m + quad_cost K w s) (sym same) local
