use Rattle.std.proofs.Common.{sym, ap, ◌∙◌, subst}
use Rattle.mesh.specs.Meshes.{Mesh, seen, lent, interior}
use Rattle.mesh.specs.Sound.{Sound}
use Rattle.worklist.specs.Orders.{Refilled}
use Rattle.job.specs.declared.Call.TheVariants.{Unpin}
use Rattle.job.specs.Rule.{state_of, refusal}
use Rattle.job.proofs.Refusing.{unpin_taken}
use Rattle.job.proofs.Soundness.{unpin_sound}
use Rattle.job.proofs.job.Job.unpin.Goals as goal

pub invariant_of-sound : goal.invariant_of-sound
invariant_of-sound g c =
    let m = lent c.args.mesh.now in
    let free = ap (λ (m : Mesh). refusal m (Unpin c.args.s)) (sym c.as_ref.ensures) ∙ c.in_ok-check_unpin.ensures.0 in
    record { sound = subst Sound (sym (c.as_ref-2.ensures ∙ c.set_pin-freed.ensures.after)) (unpin_sound m c.args.s free) }

pub returns-clause-rule : goal.returns-clause-rule
returns-clause-rule g c =
    let t = g.L.Worklist in
    let m = lent c.args.mesh.now in
    unpin_taken (g.C.Cost.parts c.args.self.now.cost) t.order c.args.self.now.lookahead
    (state_of m (t.waiting c.args.self.now.worklist)) (state_of (lent c.set_pin-freed.new.mesh) (t.waiting c.refill.new.worklist))
    c.args.s c.set_pin-freed.result
    (ap (λ (m : Mesh). refusal m (Unpin c.args.s)) (sym c.as_ref.ensures) ∙ c.in_ok-check_unpin.ensures.0)
    c.set_pin-freed.ensures.after
    (subst (λ (m : Mesh). Refilled t.order (interior m) (t.waiting c.refill.new.worklist)) (ap seen c.roomy.ensures ∙ c.as_ref-2.ensures) c.refill.ensures)
    c.set_pin-freed.ensures.number
