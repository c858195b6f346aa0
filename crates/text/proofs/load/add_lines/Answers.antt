use Rattle.std.proofs.Common.{◌≡◌, ℕ, ◌+◌, length, Err, Result, sym, refl, ap, ◌∙◌, subst, arith, rules}
use Rattle.mesh.specs.declared.Refusal.{Refusal}
use Rattle.std.proofs.lemmas.Bool.Decides.{nat_tests}
use Rattle.job.specs.declared.Call.TheVariants.{Add}
use Rattle.job.specs.declared.Answer.TheVariants.{Refused, Added}
use Rattle.mesh.specs.Meshes.{lent}
use Rattle.job.specs.Rule.{state_of, Rule, answered}
use Rattle.text.specs.declared.Fault.{Fault}
use Rattle.text.specs.Pieces.{pieces}
use Rattle.text.specs.Scripts.{from_vertices}
use Rattle.text.specs.Loads.{fault, Loads}
use Rattle.text.proofs.Exits.{err_is, was_ok, was_err}
use Rattle.text.proofs.Loads.{at_first, stopped, finished, refused_add, one_more, same_job}
use Rattle.mesh.proofs.Loans.{then_loan}
use Rattle.job.proofs.JobSettings.{then_settings}
use Rattle.text.proofs.load.add_lines.Goals as goal

pub loop-rest-init : goal.loop-rest-init
loop-rest-init g c = (at_first _ _ _ _ _ _ c.requires, record { header = refl; vertices = refl; half_edges = refl }, record { cost = refl; lookahead = refl })

pub overflow_add-line : goal.overflow_add-line
overflow_add-line g c = omega (arith, c.loop-rest.invariant.0.few)

pub overflow_add-added : goal.overflow_add-added
overflow_add-added g c = omega (arith, c.loop-rest.invariant.0.few)

pub returns-in_err-w : goal.returns-in_err-w
returns-in_err-w g c =
    let inv = c.loop-rest.invariant in
    let f = c.in_err-w.field-0.0 in
    let e = err_is c.from_residual.result f c.from_residual.ensures.1 in
    let s₀ = state_of (lent c.args.mesh.now) (g.L.Worklist.waiting c.args.job.now.worklist) in
    let s = state_of (lent c.loop-rest.mesh) (g.L.Worklist.waiting c.loop-rest.job.worklist) in
    let K = g.C.Cost.parts c.args.job.now.cost in
    let Q = g.L.Worklist.order in
    let la = c.args.job.now.lookahead in
    record {
      loads =
          subst (λ (r : Result ℕ Fault). Loads K Q la s₀ 1 (from_vertices c.args.columns 4 (pieces 10 c.args.text.now)) r s) (sym e)
          (stopped K Q la s₀ c.args.columns c.args.text.now s c.loop-rest.added c.loop-rest.rest.now inv.0 f c.in_err-w.ensures.asked);
      loan = inv.1;
      settings = inv.2;
    }

pub returns-in_err-map_err : goal.returns-in_err-map_err
returns-in_err-map_err g c =
    let inv = c.loop-rest.invariant in
    let f = c.in_err-map_err.field-0.0 in
    let e = err_is c.from_residual-in_err-map_err.result f c.from_residual-in_err-map_err.ensures.1 in
    let s₀ = state_of (lent c.args.mesh.now) (g.L.Worklist.waiting c.args.job.now.worklist) in
    let s = state_of (lent c.loop-rest.mesh) (g.L.Worklist.waiting c.loop-rest.job.worklist) in
    let t = state_of (lent c.add.new.mesh) (g.L.Worklist.waiting c.add.new.self.worklist) in
    let K = g.C.Cost.parts c.args.job.now.cost in
    let Q = g.L.Worklist.order in
    let la = c.args.job.now.lookahead in
    let line = c.loop-rest.added + 4 in
    let p = was_err (λ r. fault line 0 r) c.add.result c.map_err.result c.map_err.ensures.cases (λ r h k. search rules) f c.in_err-map_err.was in
    let rule = same_job (ap g.C.Cost.parts inv.2.cost) inv.2.lookahead c.add.ensures.rule in
    let rule' : Rule K Q la s (Add c.in_ok-w.w) (Refused p.0) t =
    subst (λ (r : Result ℕ Refusal). Rule K Q la s (Add c.in_ok-w.w) (answered Added r) t) p.1 rule in
    record {
      loads =
          subst (λ (r : Result ℕ Fault). Loads K Q la s₀ 1 (from_vertices c.args.columns 4 (pieces 10 c.args.text.now)) r t) (sym (e ∙ ap Err p.2))
          (refused_add K Q la s₀ c.args.columns c.args.text.now s c.loop-rest.added c.loop-rest.rest.now inv.0
          c.in_ok-w.w c.in_ok-w.after.now c.in_ok-w.ensures.asked p.0 t rule');
      loan = then_loan inv.1 c.add.ensures.loan;
      settings = then_settings inv.2 c.add.ensures.settings;
    }

pub loop-rest-preserved : goal.loop-rest-preserved
loop-rest-preserved g c =
    let inv = c.loop-rest.invariant in
    let s₀ = state_of (lent c.args.mesh.now) (g.L.Worklist.waiting c.args.job.now.worklist) in
    let s = state_of (lent c.loop-rest.mesh) (g.L.Worklist.waiting c.loop-rest.job.worklist) in
    let t = state_of (lent c.add.new.mesh) (g.L.Worklist.waiting c.add.new.self.worklist) in
    let K = g.C.Cost.parts c.args.job.now.cost in
    let Q = g.L.Worklist.order in
    let la = c.args.job.now.lookahead in
    let line = c.loop-rest.added + 4 in
    let v = c.in_ok-map_err.field-0 in
    let p = was_ok _ c.add.result c.map_err.result c.map_err.ensures.cases v c.in_ok-map_err.was in
    let rule = same_job (ap g.C.Cost.parts inv.2.cost) inv.2.lookahead c.add.ensures.rule in
    let rule' : Rule K Q la s (Add c.in_ok-w.w) (Added v) t =
    subst (λ (r : Result ℕ Refusal). Rule K Q la s (Add c.in_ok-w.w) (answered Added r) t) p rule in (
      one_more K Q la s₀ c.args.columns c.args.text.now s c.loop-rest.added c.loop-rest.rest.now inv.0
          c.in_ok-w.w c.in_ok-w.after.now c.in_ok-w.ensures.asked v t rule',
      then_loan inv.1 c.add.ensures.loan,
      then_settings inv.2 c.add.ensures.settings,
    )

pub returns : goal.returns
returns g c =
    let inv = c.loop-rest.invariant in
    let none : length c.loop-rest.rest.now ≡ 0 = grind (arith, nat_tests) in
    record {
      loads = finished _ _ _ _ c.args.columns c.args.text.now _ c.loop-rest.added c.loop-rest.rest.now inv.0 none;
      loan = inv.1;
      settings = inv.2;
    }
