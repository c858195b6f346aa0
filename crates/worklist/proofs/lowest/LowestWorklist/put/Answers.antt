use Rattle.std.proofs.Common.{true, false, refl, sym, ap, ◌∙◌, arith}
use Rattle.std.proofs.lemmas.Bool.{both_ways}
use Rattle.worklist.specs.Orders.{lowest, marked}
use Rattle.worklist.specs.Marked.{among_marked, length_marked, marked_set}
use Rattle.worklist.proofs.Listings.{put_answers, unmarked_parts}
use Rattle.worklist.proofs.Scans.{tallied_put}
use Rattle.worklist.proofs.lowest.LowestWorklist.put.Goals as goal

pub returns-then-not-mark : goal.returns-then-not-mark
returns-then-not-mark c =
    let l = c.args.self.now in
    let m = c.if-not-mark.ensures in
    record {
      after = put_answers lowest l.listed _ c.args.k false _ l.wide (λ j. sym (among_marked l.listed j)) m.value
          (λ yes. absurd (both_ways false refl yes)) (λ no. ap (marked 0) m.after);
    }

pub overflow_add-self : goal.overflow_add-self
overflow_add-self c = let l = c.args.self.now in omega (arith, length_marked 0 l.listed, l.wide, l.counted)

pub invariant_of-self-2 : goal.invariant_of-self-2
invariant_of-self-2 c =
    let m = c.if-not-mark.ensures in
    let t = tallied_put c.args.self.now c.args.k m.value in
    rw (m.after, c.min-self.ensures) (record { wide = t.wide; counted = t.counted; passed = t.passed })

pub returns : goal.returns
returns c =
    let l = c.args.self.now in
    let m = c.if-not-mark.ensures in
    let p = unmarked_parts l.listed c.args.k m.value in
    record {
      after = put_answers lowest l.listed _ c.args.k true _ l.wide (λ j. sym (among_marked l.listed j)) m.value
          (λ yes. ap (marked 0) m.after ∙ marked_set l.listed c.args.k p.0 p.1) (λ no. absurd (both_ways true no refl));
    }
