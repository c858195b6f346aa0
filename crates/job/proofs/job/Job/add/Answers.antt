use Rattle.std.proofs.Common.{◌≡◌, None, sym, ap, ◌∙◌, subst}
use Rattle.std.proofs.lemmas.Result.{err_from_is_err_and}
use Rattle.mesh.specs.Meshes.{Mesh, seen, lent, interior}
use Rattle.mesh.specs.Sound.{Sound}
use Rattle.worklist.specs.Orders.{Refilled}
use Rattle.job.specs.declared.Call.TheVariants.{Add}
use Rattle.job.specs.declared.Answer.TheVariants.{Refused}
use Rattle.job.specs.Checks.{Addable}
use Rattle.job.specs.Rule.{state_of, refusal}
use Rattle.job.proofs.Refusing.{refused, add_taken}
use Rattle.job.proofs.Soundness.{add_sound}
use Rattle.job.proofs.Owned.{never_unowned}
use Rattle.job.proofs.job.Job.add.Goals as goal

-- a refused add
pub returns-in_err-f-clause-owned : goal.returns-in_err-f-clause-owned
returns-in_err-f-clause-owned g c =
    let t = g.L.Worklist in
    let K = g.C.Cost.parts c.args.self.now.cost in
    let why = c.in_err-f.field-0.0 in
    let before = state_of (lent c.args.mesh.now) (t.waiting c.args.self.now.worklist) in
    let fault = ap (λ (m : Mesh). refusal m (Add c.args.w)) (sym c.as_ref.ensures) ∙ c.in_err-f.ensures in
    let p = err_from_is_err_and c.from_residual.result c.from_residual.ensures.1 in
    rw (p.1, p.2) (never_unowned K t.order c.args.self.now.lookahead before before c.args.w (Refused why)
    (refused K t.order c.args.self.now.lookahead before (Add c.args.w) why fault))

pub invariant_of-added : goal.invariant_of-added
invariant_of-added g c =
    let m = lent c.args.mesh.now in
    let found = subst (λ (m : Mesh). (refusal m (Add c.args.w) ≡ None) × Addable m c.args.w c.in_ok-f.f) c.as_ref.ensures c.in_ok-f.ensures in
    record { sound = subst Sound (sym (c.as_ref-2.ensures ∙ c.add.ensures.after)) (add_sound m c.args.w c.in_ok-f.f found.0 found.1.owned) }

pub returns-clause-rule : goal.returns-clause-rule
returns-clause-rule g c =
    let t = g.L.Worklist in
    let found = subst (λ (m : Mesh). (refusal m (Add c.args.w) ≡ None) × Addable m c.args.w c.in_ok-f.f) c.as_ref.ensures c.in_ok-f.ensures in
    add_taken (g.C.Cost.parts c.args.self.now.cost) t.order c.args.self.now.lookahead
    (state_of (lent c.args.mesh.now) (t.waiting c.args.self.now.worklist)) (state_of (lent c.add.new.mesh) (t.waiting c.refill.new.worklist))
    c.args.w c.in_ok-f.f found.0 found.1.owned c.add.ensures.after
    (subst (λ (m : Mesh). Refilled t.order (interior m) (t.waiting c.refill.new.worklist)) (ap seen c.roomy.ensures ∙ c.as_ref-2.ensures) c.refill.ensures)
