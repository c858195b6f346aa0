use Rattle.std.proofs.Common.{arith}
use Rattle.text.proofs.Figures.{length_line, line_parts}
use Rattle.text.proofs.Overs.{put_more, put_same}
use Rattle.text.proofs.printing.Printer.put_line.Goals as goal

pub put-requires-3 : goal.put-requires-3
put-requires-3 c = omega (arith, length_line c.args.a c.args.b c.args.c)

pub returns-clause-put : goal.returns-clause-put
returns-clause-put c =
    let whole = length_line c.args.a c.args.b c.args.c in
    let p₂ = put_more (omega arith) c.put_number.ensures.put c.put.ensures.put in
    let p₃ = put_more (omega arith) p₂ c.put_number-2.ensures.put in
    let p₄ = put_more (omega arith) p₃ c.put-2.ensures.put in
    let p₅ = put_more (omega arith) p₄ c.put_number-3.ensures.put in
    put_same (line_parts c.args.a c.args.b c.args.c) (put_more (omega arith) p₅ c.put-3.ensures.put)
