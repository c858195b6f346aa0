use Rattle.std.proofs.Common.{sym, ◌∙◌}
use Rattle.std.proofs.lemmas.Bool.{not-true, not-false}
use Rattle.mesh.specs.Meshes.{seen}
use Rattle.job.proofs.Refusing.{exits, unpin_no_edge, unpin_refusal}
use Rattle.job.proofs.checks.check_unpin.Goals as goal

pub returns-in_err-check_edge : goal.returns-in_err-check_edge
returns-in_err-check_edge c =
    let m = seen c.args.mesh in
    exits _ _ c.in_err-check_edge.field-0.0 _ c.from_residual.ensures.1 (unpin_no_edge m c.args.s _ c.in_err-check_edge.ensures)

pub returns-then-not-is_pinned : goal.returns-then-not-is_pinned
returns-then-not-is_pinned c = unpin_refusal (seen c.args.mesh) c.args.s c.in_ok-check_edge.ensures.0 (not-false _ (sym c.is_pinned.ensures ∙ c.if-not-is_pinned.true))

pub returns : goal.returns
returns c =
    let edge = c.in_ok-check_edge.ensures in
    (unpin_refusal (seen c.args.mesh) c.args.s edge.0 (not-true _ (sym c.is_pinned.ensures ∙ c.if-not-is_pinned.false)), edge.1)
