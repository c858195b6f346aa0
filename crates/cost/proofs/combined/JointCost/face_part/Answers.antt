use Rattle.std.proofs.Common.{arith}
use Rattle.cost.proofs.combined.JointCost.face_part.Goals as goal

pub overflow_add-sum : goal.overflow_add-sum
overflow_add-sum g c =
    let first = (g.met.A.Cost.lawful c.args.self.now.first).lawful_face.face_bounded c.args.face.a c.args.face.b c.args.face.c in
    let second = (g.met.B.Cost.lawful c.args.self.now.second).lawful_face.face_bounded c.args.face.a c.args.face.b c.args.face.c in
    omega (arith, c.face_part.ensures.value, c.face_part-2.ensures.value)
