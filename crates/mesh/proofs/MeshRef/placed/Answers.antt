use Rattle.std.proofs.Common.{sym, ap, ◌∙◌}
use Rattle.arith.specs.Ranges.{every}
use Rattle.mesh.specs.declared.MeshRef.{MeshRef}
use Rattle.mesh.specs.Meshes.{seen, used}
use Rattle.mesh.specs.Sound.{corners_stand, vertex_fits, origin_fits}
use Rattle.mesh.proofs.Decide.{placed_from}
use Rattle.mesh.proofs.MeshRef.placed.Goals as goal

pub invariant_of-result : goal.invariant_of-result
invariant_of-result c =
    let same = c.in_ok-roomy.ensures.same in
    record {
      placed = placed_from (seen c.args.self)
          (sym c.extent_fits.ensures ∙ c.if-not-extent_fits.false)
          (sym c.in_ok-roomy.ensures.shown)
          (ap (λ (m : MeshRef). corners_stand (seen m)) (sym same) ∙ sym c.corners_stand.ensures ∙ c.if-corners_stand.true)
          (ap (λ (m : MeshRef). every (vertex_fits (seen m)) (seen m).header.count) (sym same) ∙ sym c.vertices_fit.ensures ∙ c.if-vertices_fit.true)
          (ap (λ (m : MeshRef). every (origin_fits (seen m)) (used (seen m))) (sym same) ∙ sym c.origins_fit.ensures ∙ c.if-origins_fit.true);
    }
