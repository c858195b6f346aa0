use Rattle.std.proofs.Common.{◌≡◌, ℕ, ◌+◌, ◌<◌, true, false, sym, subst, arith, rules}
use Rattle.arith.specs.Ranges.{select}
use Rattle.mesh.specs.Meshes.{seen, used, interior, is_edge_number}
use Rattle.worklist.specs.Orders.{Refilled}
use Rattle.worklist.proofs.Refills.{refill_put, refill_skip}
use Rattle.job.proofs.job.refill.Goals as goal
use Rattle.job.proofs.job.refill.Goals.{then-waits, else-waits}

pub loop-s-preserved : goal.loop-s-preserved
loop-s-preserved g c =
    let t = g.L.Worklist in
    let test = is_edge_number (seen c.args.mesh.mesh) in
    let s = c.loop-s.s in
    let old = t.waiting c.loop-s.worklist in
    elim c.if-waits.branch [
      | then-waits w ↦
          let low : s < 6126 = omega (arith, c.loop-s-test.true, c.used-s-end.ensures, c.args.mesh.roomy.few) in
          let yes : test s ≡ true = search rules in
          let more = refill_put t.order g.met.L.Worklist.lawful test s old _ (t.waiting w.put.new.self) low yes c.loop-s.invariant w.put.ensures.after in
          subst (λ l. Refilled t.order (select test (s + 1)) (t.waiting l)) (sym w.worklist-is) more.1
      | else-waits w ↦
          let no : test s ≡ false = search rules in
          subst (λ l. Refilled t.order (select test (s + 1)) (t.waiting l)) (sym w.worklist-is) (refill_skip t.order test s old no c.loop-s.invariant)
    ]

pub returns : goal.returns
unfolding interior
returns g c =
    let t = g.L.Worklist in
    let m = seen c.args.mesh.mesh in
    let all : c.loop-s.s ≡ used m = omega arith in
    subst (λ (n : ℕ). Refilled t.order (select (is_edge_number m) n) (t.waiting c.loop-s.worklist)) all c.loop-s.invariant
