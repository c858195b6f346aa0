use Rattle.std.proofs.Common.{eqb, arith, rules, tests}
use Rattle.std.proofs.lemmas.Iterator.{YieldsList-from_slice}
use Rattle.std.proofs.lemmas.Iterator.Consumers.{YieldsList-from_filter, count_from_yields_List}
use Rattle.std.proofs.lemmas.List.Sums.{length-filter}
use Rattle.text.proofs.Cuts.{length_pieces}
use Rattle.text.proofs.pieces.piece_count.Goals as goal

pub returns : goal.returns
returns c =
    let n = count_from_yields_List c.filter.result c.count.result c.count.ensures.ran
    (YieldsList-from_filter _ (λ b. eqb b c.args.separator) (YieldsList-from_slice c.args.bytes.now cc) c.filter.ensures.closure (λ x r q k. search (rules, tests)))
    in
    omega (arith, n, length-filter (λ b. eqb b c.args.separator) c.args.bytes.now, length_pieces c.args.separator c.args.bytes.now)
