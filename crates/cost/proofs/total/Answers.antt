use Rattle.std.proofs.Common.{arith}
use Rattle.mesh.specs.Meshes.{seen}
use Rattle.cost.specs.Costs.{total}
use Rattle.cost.proofs.Sums.{face_sum_bounded, edge_sum_bounded}
use Rattle.cost.proofs.total.Goals as goal

pub overflow_add-result : goal.overflow_add-result
overflow_add-result g c =
    let K = g.C.Cost.parts c.args.cost.now in
    let law = g.met.C.Cost.lawful c.args.cost.now in
    let m = seen c.args.mesh.mesh in
    omega (arith, c.face_sum-of_faces.ensures.value, c.edge_sum-of_edges.ensures.value, face_sum_bounded K law m c.args.mesh.indexed, edge_sum_bounded K law m c.args.mesh.indexed)

pub returns : goal.returns
unfolding total
returns g c = record { value = omega (arith, c.face_sum-of_faces.ensures.value, c.edge_sum-of_edges.ensures.value) }
