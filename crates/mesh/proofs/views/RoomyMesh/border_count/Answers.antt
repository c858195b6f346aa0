use Rattle.std.proofs.Common.{ℕ, Bool, not, ap, ◌∙◌, arith, rules, tests}
use Rattle.std.proofs.lemmas.Iterator.{YieldsList-from_range}
use Rattle.std.proofs.lemmas.Iterator.Consumers.{count_from_yields_List, YieldsList-from_filter}
use Rattle.arith.specs.Ranges.{tally}
use Rattle.arith.proofs.Chains.{count_range}
use Rattle.mesh.specs.Meshes.{seen, has_twin}
use Rattle.mesh.proofs.views.RoomyMesh.border_count.Goals as goal

pub returns : goal.returns
returns c =
    let test : ℕ → Bool = λ s. not (has_twin (seen c.args.self.mesh) s) in
    count_from_yields_List c.filter.result c.count.result c.count.ensures.ran
    (YieldsList-from_filter _ test (YieldsList-from_range 0 c.used.result c.used.result c.filter.ensures.source (omega arith)) c.filter.ensures.closure (λ x r q k. search (rules, tests)))
    ∙ count_range test c.used.result ∙ ap (tally test) c.used.ensures
