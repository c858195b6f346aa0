use Rattle.std.proofs.Common.{◌∙◌, w64, SFits, rules}
use Rattle.std.proofs.lemmas.Int.{to_z-of_z}
use Rattle.mesh.specs.Geometry.{orientation}
use Rattle.mesh.proofs.geometry.Side.orientation.Goals as goal

pub returns : goal.returns
unfolding orientation
returns c =
    let f : SFits w64 c.determinant.result = search rules in
    let p : SFits w64 c.difference.result = search rules in
    let q : SFits w64 c.difference-2.result = search rules in
    let r : SFits w64 c.difference-3.result = search rules in
    let s : SFits w64 c.difference-4.result = search rules in
    let e = simp to_z-of_z at c.determinant.ensures in
    to_z-of_z w64 c.determinant.result f ∙ (cc)
