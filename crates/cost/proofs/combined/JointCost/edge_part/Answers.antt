use Rattle.std.proofs.Common.{arith}
use Rattle.cost.proofs.combined.JointCost.edge_part.Goals as goal

pub overflow_add-sum : goal.overflow_add-sum
overflow_add-sum g c =
    let first = (g.met.A.Cost.lawful c.args.self.now.first).lawful_edge.edge_bounded c.args.edge.from c.args.edge.to c.args.edge.left c.args.edge.right in
    let second = (g.met.B.Cost.lawful c.args.self.now.second).lawful_edge.edge_bounded c.args.edge.from c.args.edge.to c.args.edge.left c.args.edge.right in
    omega (arith, c.edge_part.ensures.value, c.edge_part-2.ensures.value)
