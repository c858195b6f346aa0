use Rattle.std.proofs.Common.{sym, ap, ◌∙◌}
use Rattle.std.proofs.lemmas.Bool.{not-true, not-false}
use Rattle.text.specs.Lines.{plan_names}
use Rattle.text.specs.Scripts.{halts}
use Rattle.text.proofs.Exits.{exits, ne_bytes}
use Rattle.text.proofs.Scripts.{names_unended, names_wrong, names_right}
use Rattle.text.proofs.load.names_line.Goals as goal

pub returns-in_err-names : goal.returns-in_err-names
returns-in_err-names c =
    let none = c.in_err-names.ensures in
    exits _ _ _ c.in_err-names.field-0.0 c.from_residual.ensures.1 (names_unended c.args.text.now none.1 ∙ ap halts (sym none.0))

pub returns-then-ne : goal.returns-then-ne
returns-then-ne c =
    let cut = c.in_ok-names.ensures in
    names_wrong c.args.text.now c.in_ok-names.names.now c.in_ok-names.rest.now cut.0 cut.1 (not-true _ (sym (ne_bytes c.in_ok-names.names.now c.as_slice.result.now plan_names _ c.as_slice.ensures c.ne.ensures) ∙ c.if-ne.true))
    ∙ ap halts (sym c.of_line.ensures)

pub returns : goal.returns
returns c =
    let cut = c.in_ok-names.ensures in
    names_right c.args.text.now c.in_ok-names.names.now c.in_ok-names.rest.now cut.0 cut.1 (not-false _ (sym (ne_bytes c.in_ok-names.names.now c.as_slice.result.now plan_names _ c.as_slice.ensures c.ne.ensures) ∙ c.if-ne.false))
