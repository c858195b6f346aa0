use Rattle.std.proofs.Common.{sym, ap, ◌∙◌, subst}
use Rattle.mesh.specs.Meshes.{Mesh, seen, lent, interior}
use Rattle.mesh.specs.Sound.{Sound}
use Rattle.cost.specs.Costs.{total}
use Rattle.worklist.specs.Orders.{Refilled}
use Rattle.editing.specs.Flips.{with_half_edges}
use Rattle.editing.proofs.Exchange.{flip_laws}
use Rattle.job.specs.declared.Call.TheVariants.{Flip}
use Rattle.job.specs.Rule.{state_of, refusal}
use Rattle.job.proofs.Refusing.{flip_taken, flip_written}
use Rattle.job.proofs.Soundness.{flip_sound}
use Rattle.job.proofs.Local.{flip_is_local}
use Rattle.job.proofs.Twice.{two_flips_cost}
use Rattle.job.proofs.job.Job.flip.Goals as goal

pub returns-in_err-check_flip-clause-laws : goal.returns-in_err-check_flip-clause-laws
returns-in_err-check_flip-clause-laws g c = flip_laws

pub returns-in_err-check_flip-clause-cost_laws : goal.returns-in_err-check_flip-clause-cost_laws
returns-in_err-check_flip-clause-cost_laws g c = record { flip_is_local = flip_is_local; two_flips_cost = two_flips_cost }

pub invariant_of-flipped : goal.invariant_of-flipped
invariant_of-flipped g c =
    let m = lent c.args.mesh.now in
    let free = ap (λ (m : Mesh). refusal m (Flip c.args.s)) (sym c.as_ref-view.ensures) ∙ c.in_ok-check_flip.ensures.0 in
    let written = flip_written m c.args.s c.flip.new.half_edges c.flip.ensures in
    record { sound = subst Sound (sym (c.as_ref.ensures ∙ written)) (flip_sound m c.args.s free) }

pub returns-clause-laws : goal.returns-clause-laws
returns-clause-laws g c = flip_laws

pub returns-clause-cost_laws : goal.returns-clause-cost_laws
returns-clause-cost_laws g c = record { flip_is_local = flip_is_local; two_flips_cost = two_flips_cost }

pub returns-clause-rule : goal.returns-clause-rule
returns-clause-rule g c =
    let t = g.L.Worklist in
    let K = g.C.Cost.parts c.args.self.now.cost in
    let m = lent c.args.mesh.now in
    let free = ap (λ (m : Mesh). refusal m (Flip c.args.s)) (sym c.as_ref-view.ensures) ∙ c.in_ok-check_flip.ensures.0 in
    flip_taken K t.order c.args.self.now.lookahead
    (state_of m (t.waiting c.args.self.now.worklist)) (state_of (with_half_edges m c.flip.new.half_edges) (t.waiting c.refill.new.worklist))
    c.args.s c.total-before.result c.total-after.result free
    (flip_written m c.args.s c.flip.new.half_edges c.flip.ensures)
    (subst (λ (m : Mesh). Refilled t.order (interior m) (t.waiting c.refill.new.worklist)) (ap seen c.roomy-2.ensures ∙ c.as_ref.ensures) c.refill.ensures)
    (c.total-before.ensures.value ∙ ap (total K) (ap seen c.indexed.ensures ∙ c.as_ref-view.ensures))
    (c.total-after.ensures.value ∙ ap (total K) (ap seen c.indexed-2.ensures ∙ c.as_ref.ensures))
