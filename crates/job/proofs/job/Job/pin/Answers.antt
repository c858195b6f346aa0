use Rattle.std.proofs.Common.{sym, refl, ap, ◌∙◌}
use Rattle.mesh.specs.Meshes.{Mesh, lent}
use Rattle.editing.proofs.Pins.{pin_laws}
use Rattle.job.specs.declared.Call.TheVariants.{Pin}
use Rattle.job.specs.declared.Answer.TheVariants.{Pinned}
use Rattle.job.specs.Rule.{state_of, refusal}
use Rattle.job.proofs.Refusing.{pin_taken}
use Rattle.job.proofs.Soundness.{keeps_sound}
use Rattle.job.proofs.job.Job.pin.Goals as goal

pub returns-in_err-check_pin-clause-laws : goal.returns-in_err-check_pin-clause-laws
returns-in_err-check_pin-clause-laws g c = pin_laws

pub returns : goal.returns
returns g c =
    let t = g.L.Worklist in
    let K = g.C.Cost.parts c.args.self.now.cost in
    let before = state_of (lent c.args.mesh.now) (t.waiting c.args.self.now.worklist) in
    let after = state_of (lent c.set_pin.new.mesh) (t.waiting c.args.self.now.worklist) in
    let rule =
    pin_taken K t.order c.args.self.now.lookahead before after c.args.s c.set_pin.result
    (ap (λ (m : Mesh). refusal m (Pin c.args.s)) (sym c.as_ref.ensures) ∙ c.in_ok-check_pin.ensures.0)
    c.set_pin.ensures.after refl c.set_pin.ensures.number in
    record {
      laws = pin_laws;
      rule = rule;
      sound = keeps_sound K t.order c.args.self.now.lookahead before after (Pin c.args.s) (Pinned c.set_pin.result) rule;
      loan = c.set_pin.ensures.loan;
      settings = record { cost = refl; lookahead = refl };
    }
