use Rattle.std.proofs.Common.{Ok, sym, ap₂, ◌∙◌}
use Rattle.std.proofs.lemmas.Bool.{cond-true, cond-false}
use Rattle.std.proofs.lemmas.Result.{err_from_is_err_and}
use Rattle.mesh.specs.declared.MeshRef.{MeshRef}
use Rattle.mesh.specs.Meshes.{seen}
use Rattle.cost.specs.Costs.{face_sum, edge_sum}
use Rattle.cost.proofs.CostLaws.{cost_laws}
use Rattle.job.specs.Rule.{asked}
use Rattle.job.proofs.job.Job.cost.Goals as goal

pub returns-in_err-sound : goal.returns-in_err-sound
unfolding asked
returns-in_err-sound g c =
    let p = err_from_is_err_and c.from_residual.result c.from_residual.ensures.1 in
    record { laws = cost_laws; sums = rw (p.1, p.2, c.in_err-sound.ensures.cases) (sym (cond-false _ _ _ (sym c.in_err-sound.ensures.test))) }

pub returns : goal.returns
unfolding asked
returns g c =
    let K = g.C.Cost.parts c.args.self.now.cost in
    let same = c.indexed-mesh.ensures ∙ c.in_ok-sound.ensures.cases in
    record {
      laws = cost_laws;
      sums = ap₂ (λ x y. Ok (x, y)) c.face_sum-faces.ensures.value c.edge_sum-edges.ensures.value
          ∙ ap₂ (λ (r q : MeshRef). Ok (face_sum K (seen r), edge_sum K (seen q))) same same
          ∙ sym (cond-true _ _ _ (sym c.in_ok-sound.ensures.test));
    }
