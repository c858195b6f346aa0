use Rattle.std.proofs.Common.{◌^◌, ap, ◌∙◌, arith, rules, tests}
use Rattle.arith.specs.Ranges.{sum}
use Rattle.arith.proofs.Chains.{sum_fits, sum_from_chain}
use Rattle.arith.proofs.Rising.{sum_bounded}
use Rattle.mesh.specs.declared.MeshRef.{MeshRef}
use Rattle.mesh.specs.Meshes.{seen, faces}
use Rattle.cost.specs.Costs.{face_cost, face_sum}
use Rattle.cost.proofs.Sums.{face_cost_bounded}
use Rattle.cost.proofs.face_sum.Goals as goal

pub sum-requires-clause-fits : goal.sum-requires-clause-fits
sum-requires-clause-fits g c =
    let K = g.C.Cost.parts c.args.cost.now in
    let m = seen c.args.mesh.mesh in
    let n = c.faces.result in
    let small = sum_bounded (face_cost K m) (2 ^ 48) n (λ f _. face_cost_bounded K (g.met.C.Cost.lawful c.args.cost.now) m f) in
    let few = c.faces.ensures ∙ ap (λ (r : MeshRef). faces (seen r)) c.roomy.ensures in
    sum_fits _ (face_cost K m) n c.map.ensures.source c.map.ensures.closure (λ x r q k. search (rules, tests)) (2 ^ 64)
    (omega (arith, small, few, c.args.mesh.indexed.roomy.few))

pub returns : goal.returns
unfolding face_sum
returns g c =
    let F = face_cost (g.C.Cost.parts c.args.cost.now) (seen c.args.mesh.mesh) in
    let few = c.faces.ensures ∙ ap (λ (r : MeshRef). faces (seen r)) c.roomy.ensures in
    record {
      value = sum_from_chain _ F c.faces.result c.map.ensures.source c.map.ensures.closure (λ x r q k. search (rules, tests)) c.sum.result c.sum.ensures.ran
          ∙ ap (sum F) few;
    }
