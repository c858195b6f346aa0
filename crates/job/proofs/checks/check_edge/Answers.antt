use Rattle.std.proofs.Common.{Some, sym, refl, ap, ◌∙◌, subst}
use Rattle.mesh.specs.declared.MeshRef.{MeshRef}
use Rattle.mesh.specs.Meshes.{seen}
use Rattle.mesh.specs.Refusals.{number}
use Rattle.mesh.specs.Sound.{Sound}
use Rattle.editing.specs.Flips.{is_interior}
use Rattle.job.proofs.Refusing.{asked, exits, edge_refusal, editable}
use Rattle.job.proofs.checks.check_edge.Goals as goal

pub returns-in_err-sound : goal.returns-in_err-sound
returns-in_err-sound c =
    exits _ _ c.in_err-sound.field-0.0 _ c.from_residual.ensures.1
    (edge_refusal (seen c.args.mesh) c.args.s (sym c.in_err-sound.ensures.test) refl ∙ ap (λ r. Some (number r)) (sym c.in_err-sound.ensures.cases))

pub returns-then-not-is_interior : goal.returns-then-not-is_interior
returns-then-not-is_interior c =
    edge_refusal (seen c.args.mesh) c.args.s (sym c.in_ok-sound.ensures.test)
    (asked (λ (r : MeshRef). is_interior (seen r) c.args.s) (c.roomy.ensures ∙ c.in_ok-sound.ensures.cases) c.is_interior.ensures c.if-not-is_interior.true)

pub returns : goal.returns
returns c =
    let same = c.in_ok-sound.ensures.cases in
    let inner = asked (λ (r : MeshRef). is_interior (seen r) c.args.s) (c.roomy.ensures ∙ same) c.is_interior.ensures c.if-not-is_interior.false in (
      edge_refusal (seen c.args.mesh) c.args.s (sym c.in_ok-sound.ensures.test) inner,
      editable (seen c.args.mesh) c.args.s (subst (λ (r : MeshRef). Sound (seen r)) same c.in_ok-sound.sound.sound) inner,
    )
