use Rattle.std.proofs.Common.{arith}
use Rattle.worklist.specs.Marked.{marked_none, marked_first}
use Rattle.worklist.proofs.Scans.{scan_found, scan_none, tallied_take}
use Rattle.worklist.proofs.lowest.LowestWorklist.take.Goals as goal

pub returns-in_err-k : goal.returns-in_err-k
returns-in_err-k c =
    let l = c.args.self.now in
    let none = marked_none 0 l.listed (λ j h. scan_none l c.in_err-k.ensures.value j) in
    rw c.from_residual-in_err-k.ensures (record { after = (none, none) })

pub invariant_of-self-2 : goal.invariant_of-self-2
invariant_of-self-2 c =
    let l = c.args.self.now in
    let f = scan_found l c.in_ok-k.k c.in_ok-k.ensures.value in
    let t = tallied_take l c.in_ok-k.k f.1 f.0 in
    record { wide = t.wide; counted = omega (arith, t.counted, c.in_ok-left.ensures); passed = t.passed }

pub returns : goal.returns
returns c =
    let l = c.args.self.now in
    let f = scan_found l c.in_ok-k.k c.in_ok-k.ensures.value in
    record { after = marked_first l.listed c.in_ok-k.k f.1 f.0 }
