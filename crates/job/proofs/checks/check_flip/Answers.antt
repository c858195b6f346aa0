use Rattle.mesh.specs.declared.MeshRef.{MeshRef}
use Rattle.editing.specs.Flips.{convex}
use Rattle.mesh.specs.Meshes.{seen}
use Rattle.job.proofs.Refusing.{asked, exits, flip_no_pin, flip_refusal}
use Rattle.job.proofs.checks.check_flip.Goals as goal

pub returns-in_err-check_pin : goal.returns-in_err-check_pin
returns-in_err-check_pin c =
    exits _ _ c.in_err-check_pin.field-0.0 _ c.from_residual.ensures.1
    (flip_no_pin (seen c.args.mesh) c.args.s _ c.in_err-check_pin.ensures)

pub returns-then-not-is_convex : goal.returns-then-not-is_convex
returns-then-not-is_convex c =
    flip_refusal (seen c.args.mesh) c.args.s c.in_ok-check_pin.ensures.0 (asked (λ (r : MeshRef). convex (seen r) c.args.s) c.placed.ensures c.is_convex.ensures c.if-not-is_convex.true)

pub returns : goal.returns
returns c =
    let edge = c.in_ok-check_pin.ensures in
    (flip_refusal (seen c.args.mesh) c.args.s edge.0 (asked (λ (r : MeshRef). convex (seen r) c.args.s) c.placed.ensures c.is_convex.ensures c.if-not-is_convex.false), edge.1)
