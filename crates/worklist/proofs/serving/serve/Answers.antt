use Rattle.std.proofs.Common.{vec_items, ◌∙◌, arith}
use Rattle.std.proofs.lemmas.Grind.{common_steps}
use Rattle.std.proofs.lemmas.List.{take_all}
use Rattle.worklist.specs.HistoriesLemmas.{steps_more, steps_fair}
use Rattle.worklist.proofs.serving.serve.Goals as goal

pub loop-ask-preserved : goal.loop-ask-preserved
loop-ask-preserved g c =
    let i = c.loop-ask.invariant in
    let a = c.answer_one.ensures in
    let p = c.push_reserved.ensures in
    record {
      count = omega (arith, p.len, i.count);
      room = omega (arith, p.capacity, i.room);
      answers = grind (arith, common_steps, i.answers, a.answers, p.items);
      happens = steps_more g.L.Worklist.order (g.L.Worklist.waiting c.args.worklist.now)
          (vec_items c.loop-ask.events) (g.L.Worklist.waiting c.loop-ask.worklist)
          c.answer_one.result (g.L.Worklist.waiting c.answer_one.new.worklist)
          (vec_items c.push_reserved.new.self)
          p.items i.happens a.happens;
    }

pub returns : goal.returns
returns g c =
    let i = c.loop-ask.invariant in
    record {
      served = record {
        answers = i.answers ∙ take_all c.loop-ask.ask-index c.args.asks.now c.loop-ask-test.false;
        happens = i.happens;
        fair = steps_fair _ _ g.met.L.Ordered.keeps _ _ _ i.happens;
      };
    }
