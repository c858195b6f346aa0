use Rattle.std.proofs.Common.{ap, ap₂, ◌∙◌, w64, SFits, unsigned_abs, rules}
use Rattle.std.proofs.lemmas.Int.{to_z-of_z}
use Rattle.mesh.specs.Geometry.{orientation}
use Rattle.cost.specs.Costs.{weight}
use Rattle.cost.proofs.misfit.weight.Goals as goal

pub returns : goal.returns
unfolding weight
returns c =
    let f : SFits w64 c.orientation.result = search rules in
    c.unsigned_abs.ensures.value ∙ ap unsigned_abs (to_z-of_z w64 c.orientation.result f ∙ c.orientation.ensures
    ∙ ap₂ (λ p q. orientation p q c.args.w) c.side.ensures.from c.side.ensures.to)
