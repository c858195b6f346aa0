use Rattle.std.proofs.Common.{◌≡◌, Some, None, sym, ap, ◌∙◌, arith}
use Rattle.text.specs.Pieces.{pieces}
use Rattle.text.specs.Scripts.{halts, by_columns}
use Rattle.text.proofs.Exits.{exits}
use Rattle.text.proofs.Scripts.{columns_unended, columns_line}
use Rattle.text.proofs.load.columns_line.Goals as goal

pub returns-in_err-names : goal.returns-in_err-names
returns-in_err-names c =
    let none = c.in_err-names.ensures in
    exits _ _ _ c.in_err-names.field-0.0 c.from_residual.ensures.1 (columns_unended c.args.text.now none.1 ∙ ap halts (sym none.0))

pub returns-in_err-columns : goal.returns-in_err-columns
returns-in_err-columns c =
    let cut = c.in_ok-names.ensures in
    let rest = c.in_ok-names.rest.now in
    let none : c.named_columns.result ≡ None = grind arith in
    let same : c.in_err-columns.field-0.0 ≡ c.of_line.result = grind arith in
    exits _ _ _ c.in_err-columns.field-0.0 c.from_residual-in_err-columns.ensures.1
    (columns_line c.args.text.now c.in_ok-names.names.now rest cut.0 cut.1
    ∙ ap (λ o. by_columns o (pieces 10 rest)) (sym c.named_columns.ensures ∙ none) ∙ ap halts (sym (same ∙ c.of_line.ensures)))

pub returns : goal.returns
returns c =
    let cut = c.in_ok-names.ensures in
    let rest = c.in_ok-names.rest.now in
    let some : c.named_columns.result ≡ Some c.in_ok-columns.columns = grind arith in
    columns_line c.args.text.now c.in_ok-names.names.now rest cut.0 cut.1
    ∙ ap (λ o. by_columns o (pieces 10 rest)) (sym c.named_columns.ensures ∙ some)
