use Rattle.std.proofs.Common.{sym, ap, ◌∙◌, subst}
use Rattle.mesh.specs.Meshes.{Mesh, seen, lent, interior}
use Rattle.mesh.specs.Sound.{Sound}
use Rattle.cost.specs.Costs.{total}
use Rattle.worklist.specs.Orders.{Refilled}
use Rattle.job.specs.declared.Call.TheVariants.{Lay}
use Rattle.job.specs.Rule.{state_of, refusal}
use Rattle.job.proofs.Refusing.{lay_taken}
use Rattle.job.proofs.Soundness.{lay_found}
use Rattle.job.proofs.job.Job.lay.Goals as goal

pub invariant_of-laid : goal.invariant_of-laid
invariant_of-laid g c =
    let free = ap (λ (m : Mesh). refusal m (Lay c.args.plan)) (sym c.as_ref.ensures) ∙ c.in_ok-check_lay.ensures.0 in
    record { sound = subst Sound (sym (c.as_ref-2.ensures ∙ c.lay.ensures.after)) (lay_found (lent c.args.mesh.now) c.args.plan free) }

pub returns-clause-rule : goal.returns-clause-rule
returns-clause-rule g c =
    let t = g.L.Worklist in
    let K = g.C.Cost.parts c.args.self.now.cost in
    let free = ap (λ (m : Mesh). refusal m (Lay c.args.plan)) (sym c.as_ref.ensures) ∙ c.in_ok-check_lay.ensures.0 in
    lay_taken K t.order c.args.self.now.lookahead
    (state_of (lent c.args.mesh.now) (t.waiting c.args.self.now.worklist)) (state_of (lent c.lay.new.mesh) (t.waiting c.refill.new.worklist))
    c.args.plan c.total.result free c.lay.ensures.after
    (subst (λ (m : Mesh). Refilled t.order (interior m) (t.waiting c.refill.new.worklist)) (ap seen c.roomy.ensures ∙ c.as_ref-2.ensures) c.refill.ensures)
    (c.total.ensures.value ∙ ap (total K) (ap seen c.indexed.ensures ∙ c.as_ref-2.ensures))
