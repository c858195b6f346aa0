use Rattle.std.proofs.Common.{◌≡◌, ap, ap₂, ◌∙◌, w64, to_z, of_z, SFits, rules}
use Rattle.std.proofs.lemmas.Int.{to_z-of_z}
use Rattle.mesh.specs.Geometry.{orientation}
use Rattle.cost.specs.Costs.{plan_point, area}
use Rattle.cost.specs.Lawful.{area_bounded}
use Rattle.cost.proofs.corners.Face.area.Goals as goal

value : (c : goal.After-orientation) → to_z w64 (of_z w64 c.orientation.result) ≡ area c.args.self.a c.args.self.b c.args.self.c
unfolding orientation
value c =
    let f : SFits w64 c.orientation.result = search rules in
    to_z-of_z w64 c.orientation.result f ∙ c.orientation.ensures
    ∙ ap₂ (λ p q. orientation p q c.point.result) c.side.ensures.from c.side.ensures.to
    ∙ ap (orientation (plan_point c.args.self.a) (plan_point c.args.self.b)) c.point.ensures

pub returns-clause-value : goal.returns-clause-value
returns-clause-value c = value c

pub returns-clause-small : goal.returns-clause-small
returns-clause-small c = rw (value c) (area_bounded c.args.self.a c.args.self.b c.args.self.c)
