use Rattle.std.proofs.Common.{length}
use Rattle.text.specs.Pieces.{pieces}
use Rattle.text.proofs.LineValues.{Reading}
use Rattle.text.proofs.fields.read_fields.Given as goal

abbrev pub invariant-loop-i : goal.invariant-loop-i
invariant-loop-i l = Reading (pieces 32 l.line) l.out (length l.yielded)
