use Rattle.std.proofs.Common.{ℕ, ◌^◌, if◌then◌else◌, sym, ap, ◌∙◌, arith, rules, tests}
use Rattle.arith.specs.Ranges.{sum}
use Rattle.arith.proofs.Chains.{sum_fits, sum_from_chain}
use Rattle.arith.proofs.Reindexing.{sum_selected}
use Rattle.arith.proofs.Rising.{sum_bounded, chosen_bounded}
use Rattle.mesh.specs.declared.MeshRef.{MeshRef}
use Rattle.mesh.specs.Meshes.{seen, used, is_edge_number, interior}
use Rattle.cost.specs.Costs.{edge_cost, edge_sum}
use Rattle.cost.proofs.Sums.{edge_cost_bounded}
use Rattle.cost.proofs.edge_sum.Goals as goal

pub sum-requires-clause-fits : goal.sum-requires-clause-fits
sum-requires-clause-fits g c =
    let K = g.C.Cost.parts c.args.cost.now in
    let m = seen c.args.mesh.mesh in
    let n = c.used.result in
    let F : ℕ → ℕ = λ s. (if is_edge_number m s then edge_cost K m s else 0) in
    let small = sum_bounded F (2 ^ 48) n (λ s _. chosen_bounded (edge_cost K m) (is_edge_number m) (2 ^ 48) (edge_cost_bounded K (g.met.C.Cost.lawful c.args.cost.now) m) s) in
    let few = c.used.ensures ∙ ap (λ (r : MeshRef). used (seen r)) c.roomy.ensures in
    sum_fits _ F n c.map.ensures.source c.map.ensures.closure (λ x r q k. search (rules, tests)) (2 ^ 64)
    (omega (arith, small, few, c.args.mesh.indexed.roomy.few))

pub returns : goal.returns
unfolding edge_sum interior
returns g c =
    let K = g.C.Cost.parts c.args.cost.now in
    let m = seen c.args.mesh.mesh in
    let F : ℕ → ℕ = λ s. (if is_edge_number m s then edge_cost K m s else 0) in
    let few = c.used.ensures ∙ ap (λ (r : MeshRef). used (seen r)) c.roomy.ensures in
    record {
      value = sum_from_chain _ F c.used.result c.map.ensures.source c.map.ensures.closure (λ x r q k. search (rules, tests)) c.sum.result c.sum.ensures.ran
          ∙ ap (sum F) few ∙ sym (sum_selected (edge_cost K m) (is_edge_number m) (used m));
    }
