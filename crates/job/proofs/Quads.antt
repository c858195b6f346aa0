-- A mesh's cost, parted into that of one quadrilateral and the rest.
use Rattle.std.proofs.Common.{◌≡◌, ℕ, ◌+◌, ◌*◌, ◌<◌, Bool, true, false, cond, eqb, ◌≢◌, List, [], ◌∷◌, sym, refl, ap, ◌∙◌, ⊎_elim, arith}
use Rattle.std.proofs.lemmas.Bool.{or_from, or_parts, or_left, or_right, eq-eqb, ne_eqb, eqb-false, cases_Bool, cond-true, cond-false}
use Rattle.arith.specs.Ranges.{sum, sum_over}
use Rattle.arith.proofs.Sums.{sum_same, sum_sum, sum_times}
use Rattle.arith.proofs.Reindexing.{masked, member, Few, sum_few, sum_split, sum_thirds}
use Rattle.mesh.specs.Meshes.{Mesh, next, previous, used, faces, twin_of, has_twin}
use Rattle.mesh.specs.Sound.{Sound}
use Rattle.mesh.proofs.Rings.{next_used, previous_used, next_previous, previous_next, next_first, next_second, next_third}
use Rattle.editing.proofs.Quadrilaterals.{Edge, Outside, clear, next_next}
use Rattle.cost.specs.Costs.{Parts, LawfulCost, end, face_cost, face_sum, edge_sum}
use Rattle.job.specs.Quads.{face_at, side_at}
use Rattle.tiling.proofs.Across.{across, across_yes, across_twice}
use Rattle.job.proofs.Sides.{has_one, sum_across, side_across, sides_twice}

-- the six half-edges of the faces of s and t
abbrev pub six : ℕ → ℕ → List ℕ
six s t = s ∷ next s ∷ previous s ∷ t ∷ next t ∷ previous t ∷ []

-- the rest of the mesh
pub outside_six : (s t x : ℕ) → Outside s t x → member (six s t) x ≡ false
outside_six s t x o =
    let not : (y : ℕ) → x ≢ y → eqb y x ≡ false = λ y ne. ne_eqb y x (λ e. ne (sym e)) in
    or_from _ _ (not s o.not_s)
    (or_from _ _ (not (next s) o.off.off_a)
    (or_from _ _ (not (previous s) o.off.off_d)
    (or_from _ _ (not t o.not_t)
    (or_from _ _ (not (next t) o.off.off_c)
    (or_from _ _ (not (previous t) o.off.off_b) refl)))))

pub six_outside : (s t x : ℕ) → member (six s t) x ≡ false → Outside s t x
six_outside s t x e =
    let other : (y : ℕ) → eqb y x ≡ false → x ≢ y = λ y f z. eqb-false y x f (sym z) in
    let p₁ = or_parts (eqb s x) _ e in
    let p₂ = or_parts (eqb (next s) x) _ p₁.1 in
    let p₃ = or_parts (eqb (previous s) x) _ p₂.1 in
    let p₄ = or_parts (eqb t x) _ p₃.1 in
    let p₅ = or_parts (eqb (next t) x) _ p₄.1 in
    let p₆ = or_parts (eqb (previous t) x) _ p₅.1 in
    record {
      not_s = other s p₁.0;
      not_t = other t p₄.0;
      off = record {
        off_a = other (next s) p₂.0;
        off_b = other (previous t) p₆.0;
        off_c = other (next t) p₅.0;
        off_d = other (previous s) p₃.0;
      };
    }

module _ (K : Parts) (lawful : LawfulCost K) (m : Mesh) where
  -- a face costs the same from each of its half-edges
  face_next : (x : ℕ) → face_at K m (next x) ≡ face_at K m x
  face_next x =
      (λ i. K.face (end m (next x)) (end m (next_next x i)) (end m (previous_next x i)))
      ∙ lawful.lawful_face.face_rotates (end m x) (end m (next x)) (end m (previous x))

  pub face_thrice : (x : ℕ) → face_at K m x + face_at K m (next x) + face_at K m (previous x) ≡ 3 * face_at K m x
  face_thrice x =
      let last : face_at K m (previous x) ≡ face_at K m x = sym (face_next (previous x)) ∙ ap (face_at K m) (next_previous x) in
      omega (arith, face_next x, last)

  face_is : (f : ℕ) → face_at K m (3 * f) ≡ face_cost K m f
  face_is f =
      let last : previous (3 * f) ≡ 3 * f + 2 = ap previous (sym (next_third f)) ∙ previous_next (3 * f + 2) in
      λ i. K.face (end m (3 * f)) (end m (next_first f i)) (end m (last i))

  -- the sum over half-edges counts each face three times
  pub faces_thrice : sum (face_at K m) (used m) ≡ 3 * face_sum K m
  unfolding face_sum
  faces_thrice =
      let e : used m ≡ 3 * faces m = omega arith in
      ap (sum (face_at K m)) e
      ∙ sum_thirds (face_at K m) (faces m)
      ∙ sum_same (λ k. face_at K m (3 * k) + face_at K m (3 * k + 1) + face_at K m (3 * k + 2)) (λ k. 3 * face_cost K m k) (faces m)
      (λ k l. omega (arith, face_is k, ap (face_at K m) (sym (next_first k)) ∙ face_next (3 * k), ap (face_at K m) (sym (next_second k)) ∙ face_next (3 * k + 1)))
      ∙ sum_times 3 (face_cost K m) (faces m)

module _ (K : Parts) (lawful : LawfulCost K) (m : Mesh) (σ : Sound m) (s t : ℕ) (ε : Edge m s t) where
  abbrev N : ℕ
  N = used m

  abbrev T : ℕ → ℕ
  T = side_at K m

  abbrev inner : ℕ → Bool
  inner = member (six s t)

  pub six_few : Few N (six s t)
  six_few =
      let c = clear m σ s t ε in
      let not : (x y : ℕ) → x ≢ y → eqb y x ≡ false = λ x y ne. ne_eqb y x (λ e. ne (sym e)) in
      let δ = c.different in (
        ε.here,
        or_from _ _ (not s (next s) c.s_off.off_a) (or_from _ _ (not s (previous s) c.s_off.off_d) (or_from _ _ (not s t c.apart) (or_from _ _ (not s (next t) c.s_off.off_c) (or_from _ _ (not s (previous t) c.s_off.off_b) refl)))),
        (
          next_used m s ε.here,
          or_from _ _ (not (next s) (previous s) δ.ad) (or_from _ _ (not (next s) t (λ e. c.t_off.off_a (sym e))) (or_from _ _ (not (next s) (next t) δ.ac) (or_from _ _ (not (next s) (previous t) δ.ab) refl))),
          (
            previous_used m s ε.here,
            or_from _ _ (not (previous s) t (λ e. c.t_off.off_d (sym e))) (or_from _ _ (not (previous s) (next t) (λ e. δ.cd (sym e))) (or_from _ _ (not (previous s) (previous t) (λ e. δ.bd (sym e))) refl)),
            (
              ε.there,
              or_from _ _ (not t (next t) c.t_off.off_c) (or_from _ _ (not t (previous t) c.t_off.off_b) refl),
              (
                next_used m t ε.there,
                or_from _ _ (not (next t) (previous t) (λ e. δ.bc (sym e))) refl,
                (previous_used m t ε.there, refl, tt),
              ),
            ),
          ),
        ),
      )

  -- what a half-edge of the quadrilateral adds whose twin lies outside it
  abbrev leaving : ℕ → ℕ
  leaving x = cond (inner (across m x)) 0 (T x)

  -- what a half-edge outside adds whose twin lies in the quadrilateral, and one whose twin does not
  abbrev entering : ℕ → ℕ
  entering x = cond (inner x) 0 (cond (inner (across m x)) (T x) 0)

  abbrev pub beyond : ℕ → ℕ
  beyond x = cond (inner x) 0 (cond (inner (across m x)) 0 (T x))

  -- seen from their twins, the half-edges that lead in are those that lead out
  entering_leaving : sum entering N ≡ sum_over leaving (six s t)
  entering_leaving =
      sym (sum_across K lawful m σ entering)
      ∙ sum_same (λ x. entering (across m x)) (masked inner leaving) N
      (λ x l. (λ i. cond (inner (across m x)) 0 (cond (inner (across_twice m σ x l i)) (side_across K lawful m σ x l i) 0))
      ∙ turn (inner (across m x)) (inner x) (T x))
      ∙ sum_few leaving N (six s t) six_few
    where
      turn : (a b : Bool) (n : ℕ) → cond a 0 (cond b n 0) ≡ cond b (cond a 0 n) 0
      turn true true n = refl
      turn true false n = refl
      turn false true n = refl
      turn false false n = refl

  -- an outer half-edge leads out, or has no twin and costs nothing
  leads_out : (y : ℕ) → Outside s t (twin_of m y) → leaving y ≡ T y
  leads_out y o = ⊎_elim
      (λ e. cond-false (inner (across m y)) 0 (T y) (ap inner (across_yes m σ y e) ∙ outside_six s t (twin_of m y) o))
      (λ e. let none : T y ≡ 0 = cond-false (has_twin m y) _ 0 e in same (inner (across m y)) (T y) none)
      (cases_Bool (has_twin m y))
    where
      same : (b : Bool) (n : ℕ) → n ≡ 0 → cond b 0 n ≡ n
      same true n e = sym e
      same false n e = refl

  -- the edge itself does not
  stays_in : (x y : ℕ) → twin_of m x ≡ y → has_twin m x ≡ true → inner y ≡ true → leaving x ≡ 0
  stays_in x y e h i = cond-true (inner (across m x)) 0 (T x) (ap inner (across_yes m σ x h ∙ e) ∙ i)

  -- the five edges of the quadrilateral
  abbrev pub five : ℕ
  five = T s + T (next s) + T (previous s) + T (next t) + T (previous t)

  -- the cost of all edges: twice the five, and what lies beyond
  pub edges_part : 2 * edge_sum K m ≡ 2 * five + sum beyond N
  edges_part =
      let c = clear m σ s t ε in
      let hs : has_twin m s ≡ true = has_one m s (λ z. ne t ε.there (sym ε.is ∙ z)) in
      let ht : has_twin m t ≡ true = has_one m t (λ z. ne s ε.here (sym ε.back ∙ z)) in
      let in_t : inner t ≡ true = or_right (eqb s t) _ (or_right (eqb (next s) t) _ (or_right (eqb (previous s) t) _ (or_left (eqb t t) (member (next t ∷ previous t ∷ []) t) (eq-eqb t t refl)))) in
      let in_s : inner s ≡ true = or_left (eqb s s) (member (next s ∷ previous s ∷ t ∷ next t ∷ previous t ∷ []) s) (eq-eqb s s refl) in
      let other : T t ≡ T s = sym (ap T (across_yes m σ s hs ∙ ε.is)) ∙ side_across K lawful m σ s ε.here in
      let outer =
      sum_same (λ x. cond (inner x) 0 (T x)) (λ x. entering x + beyond x) N (λ x l. either (inner x) (inner (across m x)) (T x))
      ∙ sum_sum entering beyond N in
      omega (
        arith,
        sides_twice K lawful m σ,
        sum_split T N (six s t) six_few,
        outer,
        entering_leaving,
        other,
        stays_in s t ε.is hs in_t,
        stays_in t s ε.back ht in_s,
        leads_out (next s) c.a_far,
        leads_out (previous s) c.d_far,
        leads_out (next t) c.c_far,
        leads_out (previous t) c.b_far,
      )
    where
      either : (a b : Bool) (n : ℕ) → cond a 0 n ≡ cond a 0 (cond b n 0) + cond a 0 (cond b 0 n)
      either true b n = refl
      either false true n = omega arith
      either false false n = omega arith

      ne : (x : ℕ) → x < N → x ≢ 65535
      ne x l e = omega (arith, σ.count.1)
