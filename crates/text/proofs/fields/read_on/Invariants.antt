use Rattle.std.proofs.Common.{◌≡◌, ◌+◌, ◌^◌, ◌<◌, drop}
use Rattle.text.specs.Values.{all_digits, read_on}
use Rattle.text.proofs.fields.read_on.Given as goal

-- what is left to read gives the same as the whole, and the number so far has i + 1 digits
abbrev pub invariant-loop-b : goal.invariant-loop-b
invariant-loop-b l =
    (read_on l.n (drop l.b-index l.digits) ≡ read_on l.initial.n l.digits)
    × (all_digits (drop l.b-index l.digits) ≡ all_digits l.digits)
    × (l.n < 10 ^ (l.b-index + 1))
