use Rattle.std.proofs.Common.{◌≡◌, ◌+◌, Some, None, Err, length, sym, ap, ◌∙◌, arith, rules, tests}
use Rattle.std.proofs.lemmas.List.{length_push}
use Rattle.text.specs.Pieces.{pieces}
use Rattle.text.specs.Values.{value}
use Rattle.mesh.specs.declared.Refusal.TheVariants.{Values}
use Rattle.text.proofs.Exits.{exits, was_ok, was_err}
use Rattle.text.proofs.LineValues.{field_turn, fields_end, reading_more, reading_stop, reading_all}
use Rattle.text.proofs.fields.read_fields.Goals as goal

pub overflow_cast-field : goal.overflow_cast-field
overflow_cast-field c =
    let at = field_turn c.loop-i.yielded _ c.loop-i.yielded_by _ _ c.next.ensures.steps c.split.result c.args.line.now (cc) (cc) c.split.ensures.rest c.split.ensures.done c.split.ensures.closure (λ x b h k. search (rules, tests)) (c.in-Some.i, c.in-Some.bytes) c.in-Some.is in
    omega (arith, at.0, at.1, c.requires.few, c.requires.count)

pub overflow_add-field : goal.overflow_add-field
overflow_add-field c =
    let at = field_turn c.loop-i.yielded _ c.loop-i.yielded_by _ _ c.next.ensures.steps c.split.result c.args.line.now (cc) (cc) c.split.ensures.rest c.split.ensures.done c.split.ensures.closure (λ x b h k. search (rules, tests)) (c.in-Some.i, c.in-Some.bytes) c.in-Some.is in
    omega (arith, at.0, at.1, c.requires.few, c.requires.count)

pub offset_bounds-out-i : goal.offset_bounds-out-i
offset_bounds-out-i c =
    let at = field_turn c.loop-i.yielded _ c.loop-i.yielded_by _ _ c.next.ensures.steps c.split.result c.args.line.now (cc) (cc) c.split.ensures.rest c.split.ensures.done c.split.ensures.closure (λ x b h k. search (rules, tests)) (c.in-Some.i, c.in-Some.bytes) c.in-Some.is in
    omega (arith, at.0, at.1, c.requires.few, c.requires.count)

pub bounds-out-i : goal.bounds-out-i
bounds-out-i c =
    let at = field_turn c.loop-i.yielded _ c.loop-i.yielded_by _ _ c.next.ensures.steps c.split.result c.args.line.now (cc) (cc) c.split.ensures.rest c.split.ensures.done c.split.ensures.closure (λ x b h k. search (rules, tests)) (c.in-Some.i, c.in-Some.bytes) c.in-Some.is in
    omega (arith, at.0, at.1, c.requires.few, c.requires.count)

pub returns-in_err-out : goal.returns-in_err-out
returns-in_err-out c =
    let at = field_turn c.loop-i.yielded _ c.loop-i.yielded_by _ _ c.next.ensures.steps c.split.result c.args.line.now (cc) (cc) c.split.ensures.rest c.split.ensures.done c.split.ensures.closure (λ x b h k. search (rules, tests)) (c.in-Some.i, c.in-Some.bytes) c.in-Some.is in
    let fs = pieces 32 c.args.line.now in
    let f = c.in_err-out.field-0.0 in
    let e = was_err (λ r. record { field = c.in-Some.i + 1; refusal = r }) c.value.result c.map_err.result c.map_err.ensures.cases (λ r h k. search rules) f c.in_err-out.was in
    let none : value c.in-Some.bytes.now ≡ None = grind arith in
    let same : e.0 ≡ Values = grind arith in
    exits _ _ _ f c.from_residual.ensures.1
    (reading_stop fs c.loop-i.out (length c.loop-i.yielded) at.0 (ap value (sym at.2) ∙ none) c.loop-i.invariant
    ∙ ap Err (rw (← at.1, ← same) (sym e.2)))

pub loop-i-preserved : goal.loop-i-preserved
loop-i-preserved c =
    let at = field_turn c.loop-i.yielded _ c.loop-i.yielded_by _ _ c.next.ensures.steps c.split.result c.args.line.now (cc) (cc) c.split.ensures.rest c.split.ensures.done c.split.ensures.closure (λ x b h k. search (rules, tests)) (c.in-Some.i, c.in-Some.bytes) c.in-Some.is in
    let fs = pieces 32 c.args.line.now in
    let v = c.in_ok-out.field-0 in
    let read = was_ok _ c.value.result c.map_err.result c.map_err.ensures.cases v c.in_ok-out.was in
    let some : value c.in-Some.bytes.now ≡ Some v = grind arith in
    rw (length_push c.loop-i.yielded (c.in-Some.i, c.in-Some.bytes), at.1)
    (reading_more fs c.loop-i.out (length c.loop-i.yielded) v at.0 (omega (arith, at.0, c.requires.count)) (ap value (sym at.2) ∙ some) c.loop-i.invariant)

pub returns : goal.returns
returns c =
    let n = fields_end c.loop-i.yielded _ c.loop-i.yielded_by _ _ c.next.ensures.steps c.split.result c.args.line.now (cc) (cc) c.split.ensures.rest c.split.ensures.done c.split.ensures.closure (λ x b h k. search (rules, tests)) c.in-None.is in
    reading_all (pieces 32 c.args.line.now) c.loop-i.out (length c.loop-i.yielded) (omega (arith, n)) (omega (arith, n, c.requires.count)) c.loop-i.invariant
