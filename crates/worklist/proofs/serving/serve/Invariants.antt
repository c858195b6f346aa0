use Rattle.std.proofs.Common.{◌≡◌, ◌≤◌, length, take, map, vec_items, vec_len, vec_capacity}
use Rattle.worklist.specs.Histories.{asking, Steps}
use Rattle.worklist.proofs.serving.serve.Given as goal

abbrev pub invariant-loop-ask : goal.invariant-loop-ask
invariant-loop-ask g l = record {
  count : vec_len l.events ≡ l.ask-index;
  room : length l.asks ≤ vec_capacity l.events;
  answers : map asking (vec_items l.events) ≡ take l.ask-index l.asks;
  happens : Steps g.L.Worklist.order (g.L.Worklist.waiting l.initial.worklist) (vec_items l.events) (g.L.Worklist.waiting l.worklist);
}
