use Rattle.std.proofs.Common.{◌-◌, ◌≤◌, length}
use Rattle.drape.proofs.read_some.Given as goal

abbrev pub invariant_loop_at : goal.invariant-loop-at
invariant_loop_at g l = l.at ≤ length l.buffer

abbrev pub decreases_loop_at : goal.decreases-loop-at
decreases_loop_at g l = length l.initial.buffer - l.at
