use Rattle.std.proofs.Common.{◌<◌, length, inl, inr, arith}
use Rattle.std.proofs.lemmas.Bool.{ltb-true, ltb-false}
use Rattle.std.proofs.lemmas.Result.{err_from_is_err_and}
use Rattle.text.proofs.Numbers.{cond_ok, cond_err, field_empty, field_refused, field_read, ok_or_cond}
use Rattle.text.proofs.fields.value.Goals as goal
use Rattle.text.proofs.fields.value.Goals.{then-rest-gt4-via-then-rest-gt4, then-rest-gt4-via-else-rest-gt4+then-rest-gt0}

pub returns-in_default : goal.returns-in_default
returns-in_default c = rw (field_empty c.args.field.now (omega (arith, ltb-true)))

pub returns-then-rest-gt4 : goal.returns-then-rest-gt4
returns-then-rest-gt4 c =
    let some : 0 < length c.args.field.now = omega (arith, ltb-false) in
    elim c.then-rest-gt4.branch [
      | then-rest-gt4-via-then-rest-gt4 w ↦ rw (field_refused c.args.field.now some (inl w.if-rest-gt4.true))
      | then-rest-gt4-via-else-rest-gt4+then-rest-gt0 w ↦ rw (field_refused c.args.field.now some (inr w.if-rest-gt0.true))
    ]

pub returns-in_err-digit : goal.returns-in_err-digit
returns-in_err-digit c =
    let xs = c.args.field.now in
    let some : 0 < length xs = omega (arith, ltb-false) in
    let p = err_from_is_err_and c.from_residual.result c.from_residual.ensures.1 in
    let d = cond_err _ _ _ c.in_err-digit.ensures in
    let e = field_read xs some c.if-rest-gt4.false c.if-rest-gt0.either in
    rw (p.1, p.2, e, d.0, d.1)

pub returns : goal.returns
returns c =
    let xs = c.args.field.now in
    let some : 0 < length xs = omega (arith, ltb-false) in
    let d = cond_ok _ _ _ c.in_ok-digit.ensures in
    let e = field_read xs some c.if-rest-gt4.false c.if-rest-gt0.either in
    rw (c.read_on.ensures, e, d.0, d.1, ok_or_cond)
