use Rattle.std.proofs.Common.{◌≡◌, ℕ, ◌+◌, ◌*◌, cond, Some, None, Option, ap, ◌∙◌, refl, arith, rules, tests}
use Rattle.std.proofs.lemmas.Iterator.{YieldsList-from_range}
use Rattle.std.proofs.lemmas.Iterator.Search.{find_from_yields_List}
use Rattle.std.specs.Option.{option_map}
use Rattle.mesh.specs.Meshes.{seen}
use Rattle.mesh.specs.Edits.{crossed, on_line}
use Rattle.mesh.proofs.views.PlacedMesh.crossed.Goals as goal

same : (o : Option ℕ) → o ≡ option_map (λ x. x) o
same None = refl
same (Some x) = refl

pub returns : goal.returns
unfolding crossed
returns c =
    let s = 3 * c.args.f in
    let test = on_line (seen c.args.self.mesh) c.args.w in
    let next : s + 1 + 1 ≡ s + 2 = omega arith in
    same c.find.result
    ∙ find_from_yields_List test _ _ c.find.result c.find.ensures.ran (YieldsList-from_range s (s + 3) 3 refl (omega arith)) (λ x b q k. search (rules, tests))
    ∙ ap (λ k. cond (test s) (Some s) (cond (test (s + 1)) (Some (s + 1)) (cond (test k) (Some k) None))) next
