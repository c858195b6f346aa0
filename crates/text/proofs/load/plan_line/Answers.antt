use Rattle.std.proofs.Common.{sym, ap, ◌∙◌, rules}
use Rattle.job.specs.declared.Call.TheVariants.{Lay}
use Rattle.text.specs.Loads.{fault}
use Rattle.text.specs.Pieces.{pieces}
use Rattle.text.specs.Scripts.{halts, asked, from_columns}
use Rattle.text.proofs.Exits.{exits, was_ok, was_err}
use Rattle.text.proofs.Scripts.{plan_unended, plan_line}
use Rattle.text.proofs.load.plan_line.Goals as goal

pub returns-in_err-one : goal.returns-in_err-one
returns-in_err-one c =
    let none = c.in_err-one.ensures in
    exits _ _ _ c.in_err-one.field-0.0 c.from_residual.ensures.1 (plan_unended c.args.text.now none.1 ∙ ap halts (sym none.0))

pub returns-in_err-plan : goal.returns-in_err-plan
returns-in_err-plan c =
    let cut = c.in_ok-one.ensures in
    let rest = c.in_ok-one.rest.now in
    let f = c.in_err-plan.field-0.0 in
    let e = was_err (λ g. fault 2 g.field g.refusal) c.read_plan.result c.map_err.result c.map_err.ensures.cases (λ g h k. search rules) f c.in_err-plan.was in
    exits _ _ _ f c.from_residual-in_err-plan.ensures.1
    (plan_line c.args.text.now c.in_ok-one.one.now rest cut.0 cut.1
    ∙ ap (λ r. asked Lay 2 r (from_columns (pieces 10 rest))) (sym c.read_plan.ensures ∙ e.1)
    ∙ ap halts (sym e.2))

pub returns : goal.returns
returns c =
    let cut = c.in_ok-one.ensures in
    let rest = c.in_ok-one.rest.now in
    let plan = c.in_ok-plan.plan in
    let e = was_ok _ c.read_plan.result c.map_err.result c.map_err.ensures.cases plan c.in_ok-plan.was in
    plan_line c.args.text.now c.in_ok-one.one.now rest cut.0 cut.1
    ∙ ap (λ r. asked Lay 2 r (from_columns (pieces 10 rest))) (sym c.read_plan.ensures ∙ e)
