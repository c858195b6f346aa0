use Rattle.std.proofs.Common.{◌≡◌, true, false, leb, sym, ap, ◌∙◌, arith}
use Rattle.std.proofs.lemmas.Bool.{and_from, and_left, and_right, le-leb, lt-leb}
use Rattle.cost.specs.Costs.{reading_point, face_owns, face_height, counts, square_gap}
use Rattle.cost.specs.Misfits.{misfit_counted, misfit_uncounted}
use Rattle.cost.proofs.misfit.Reading.misfit.Goals as goal
use Rattle.cost.proofs.misfit.Reading.misfit.Goals.{then-self-gt-HIGHEST-via-then-self-gt-HIGHEST, then-self-gt-HIGHEST-via-else-self-gt-HIGHEST+then-not-owns}

pub returns-then-self-gt-HIGHEST : goal.returns-then-self-gt-HIGHEST
returns-then-self-gt-HIGHEST c =
    let g = c.args.self in
    let a = c.args.face.a in
    let b = c.args.face.b in
    let d = c.args.face.c in
    let no : counts a b d g ≡ false = elim c.then-self-gt-HIGHEST.branch [
      | then-self-gt-HIGHEST-via-then-self-gt-HIGHEST w ↦ and_left _ (face_owns a b d (reading_point g)) (lt-leb g.height 32767 (omega (arith, w.if-self-gt-HIGHEST.true)))
      | then-self-gt-HIGHEST-via-else-self-gt-HIGHEST+then-not-owns w ↦ and_right (leb g.height 32767) _ (ap (face_owns a b d) (sym c.point-w.ensures) ∙ sym w.owns.ensures ∙ w.if-not-owns.true)
    ] in
    record { value = sym (misfit_uncounted a b d g no); small = omega arith }

pub returns : goal.returns
returns c =
    let g = c.args.self in
    let a = c.args.face.a in
    let b = c.args.face.b in
    let d = c.args.face.c in
    let yes : counts a b d g ≡ true = and_from _ _ (le-leb g.height 32767 (omega arith)) (ap (face_owns a b d) (sym c.point-w.ensures) ∙ sym c.owns.ensures ∙ c.if-not-owns.false) in
    let gap = ap (square_gap g.height) (c.height_at.ensures.value ∙ ap (face_height a b d) c.point-w.ensures) in
    record { value = omega (arith, c.square_gap.ensures.value, gap, misfit_counted a b d g yes); small = c.square_gap.ensures.small }
