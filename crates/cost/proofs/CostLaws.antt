-- The laws of the costs.
use Rattle.std.proofs.Common.{◌≡◌, ℕ, ◌+◌, ◌-◌, ◌*◌, ◌/◌, ◌≤◌, Bool, true, false, leb, List, [], ◌∷◌, ◌++◌, length, pos, nat_abs, sym, refl, ap, ◌∙◌, ap₂, ⊎_elim, mul-div_cancel, arith}
use Rattle.std.proofs.lemmas.List.{length-append, take_all}
use Rattle.std.proofs.lemmas.Bool.{and_parts}
use Rattle.arith.proofs.Ring.{con, ring}
use Rattle.mesh.specs.declared.checked.CheckedVertex.{CheckedVertex}
use Rattle.mesh.specs.Geometry.{orientation}
use Rattle.mesh.proofs.Orientations.{coordinates, o}
use Rattle.cost.specs.declared.misfit.Reading.{Reading}
use Rattle.cost.specs.Costs.{end, plan_point, reading_point, weight, face_owns, face_height, square_gap, counts, misfit_at, misfits, misfit}
use Rattle.cost.specs.Laws.{MisfitAdds, Confirms, CornerAddsNothing, CostLaws}
use Rattle.cost.specs.Misfits.{weights_add, weight_rotates, misfit_counted, misfit_uncounted, misfit_rotates}
use Rattle.cost.proofs.Multiples.{total_adds, joint_adds, scaled_multiplies}

-- ---- lists of readings

misfits_append : (a b c : CheckedVertex) (gs hs : List Reading) → misfits a b c (gs ++ hs) ≡ misfits a b c gs + misfits a b c hs
misfits_append a b c [] hs = omega arith
misfits_append a b c (g ∷ gs) hs = omega (arith, misfits_append a b c gs hs)

-- at most 4,096 readings are all looked at
all_looked_at : (a b c : CheckedVertex) (gs : List Reading) → length gs ≤ 4096 → (misfit gs).face a b c ≡ misfits a b c gs
all_looked_at a b c gs h = ap (misfits a b c) (take_all 4096 gs h)

face_adds : (a b c : CheckedVertex) (gs hs : List Reading) → length gs + length hs ≤ 4096 → (misfit (gs ++ hs)).face a b c ≡ (misfit gs).face a b c + (misfit hs).face a b c
face_adds a b c gs hs h =
    let e = length-append gs hs in
    omega (arith, all_looked_at a b c (gs ++ hs) (omega arith), misfits_append a b c gs hs, all_looked_at a b c gs (omega arith), all_looked_at a b c hs (omega arith))

misfit_adds : MisfitAdds
misfit_adds gs hs m h =
    total_adds (misfit (gs ++ hs)) (misfit gs) (misfit hs) m
    (λ f l. face_adds (end m (3 * f)) (end m (3 * f + 1)) (end m (3 * f + 2)) gs hs h)
    (λ s l t. refl)

-- ---- a reading at a corner

-- seen from its own corner, the other two weigh nothing
no_weight_before : (a b : CheckedVertex) → weight a b (plan_point a) ≡ 0
unfolding weight orientation
no_weight_before a b = ap nat_abs (ring (coordinates (plan_point a ∷ plan_point b ∷ [])) (o 0 1 0) (con (pos 0)) tt)

no_weight_after : (a c : CheckedVertex) → weight c a (plan_point a) ≡ 0
unfolding weight orientation
no_weight_after a c = ap nat_abs (ring (coordinates (plan_point a ∷ plan_point c ∷ [])) (o 1 0 0) (con (pos 0)) tt)

-- the face has the corner's height there
corner_height : (a b c : CheckedVertex) → face_owns a b c (plan_point a) ≡ true → face_height a b c (plan_point a) ≡ a.height
unfolding face_height
corner_height a b c e =
    let above = (weights_add a b c (plan_point a) e).0 in
    (λ i. (a.height * weight_rotates a b c i + b.height * no_weight_after a c i + c.height * no_weight_before a b i) / weight a b (plan_point c))
    ∙ ap (λ n. n / weight a b (plan_point c)) (omega arith)
    ∙ mul-div_cancel a.height above

square_none : (x y : ℕ) → x ≡ y → square_gap x y ≡ 0
square_none x y e = let z : (x - y) + (y - x) ≡ 0 = omega arith in ap₂ (λ m n. m * n) z z

confirmed : (a b c : CheckedVertex) (g : Reading) → Confirms g a → misfit_at a b c g ≡ 0
confirmed a b c g at = by (counts a b c g) refl
  where
    place : reading_point g ≡ plan_point a
    place = λ i. record { east = at.0 i; north = at.1 i }

    by : (t : Bool) → counts a b c g ≡ t → misfit_at a b c g ≡ 0
    by false e = misfit_uncounted a b c g e
    by true e =
        let p = and_parts (leb g.height 32767) (face_owns a b c (reading_point g)) e in
        misfit_counted a b c g e
        ∙ square_none g.height (face_height a b c (reading_point g))
        (at.2 ∙ sym (ap (face_height a b c) place ∙ corner_height a b c (ap (face_owns a b c) (sym place) ∙ p.1)))

corner_adds_nothing : CornerAddsNothing
corner_adds_nothing a b c g gs hs h corner =
    let none : misfit_at a b c g ≡ 0 =
    ⊎_elim (confirmed a b c g)
    (⊎_elim (λ at. sym (misfit_rotates a b c g) ∙ confirmed b c a g at) (λ at. misfit_rotates c a b g ∙ confirmed c a b g at))
    corner in
    let e = length-append gs hs in
    let d = length-append gs (g ∷ hs) in
    omega (arith, none, all_looked_at a b c (gs ++ (g ∷ hs)) (omega arith), misfits_append a b c gs (g ∷ hs), all_looked_at a b c (gs ++ hs) (omega arith), misfits_append a b c gs hs)

pub cost_laws : CostLaws
cost_laws = record {
  joint_adds = joint_adds;
  scaled_multiplies = scaled_multiplies;
  misfit_adds = misfit_adds;
  corner_adds_nothing = corner_adds_nothing;
}
