use Rattle.std.proofs.Common.{ℕ, Result, subst}
use Rattle.mesh.specs.declared.Refusal.{Refusal}
use Rattle.job.specs.declared.Call.TheVariants.{Lay}
use Rattle.job.specs.declared.Answer.TheVariants.{Laid}
use Rattle.mesh.specs.Meshes.{lent}
use Rattle.job.specs.Rule.{state_of, Rule, answered}
use Rattle.job.proofs.Counts.{lay_count}
use Rattle.text.proofs.Exits.{was_ok}
use Rattle.text.proofs.load.load.Goals as goal

pub add_lines-requires : goal.add_lines-requires
add_lines-requires g c =
    let s = state_of (lent c.args.mesh.now) (g.L.Worklist.waiting c.args.job.now.worklist) in
    let t = state_of (lent c.lay.new.mesh) (g.L.Worklist.waiting c.lay.new.self.worklist) in
    let K = g.C.Cost.parts c.args.job.now.cost in
    let Q = g.L.Worklist.order in
    let la = c.args.job.now.lookahead in
    let x = c.in_ok-map_err.field-0 in
    let p = was_ok _ c.lay.result c.map_err.result c.map_err.ensures.cases x c.in_ok-map_err.was in
    let rule : Rule K Q la s (Lay c.in_ok-plan.plan) (Laid x) t =
    subst (λ (r : Result ℕ Refusal). Rule K Q la s (Lay c.in_ok-plan.plan) (answered Laid r) t) p c.lay.ensures.rule in
    lay_count K Q la s t c.in_ok-plan.plan x rule
