use Rattle.std.proofs.Common.{◌<◌, ◌≤◌, length, sym, arith, rules}
use Rattle.text.specs.Printing.{fault_text}
use Rattle.text.proofs.Overs.{put_more}
use Rattle.text.proofs.Prints.{printed_short, after_short, answer_put, buffer_put, fault_parts, length_fault}
use Rattle.text.proofs.report.fault_line.Goals as goal

pub returns-then-buffer-line_length : goal.returns-then-buffer-line_length
returns-then-buffer-line_length c =
    let e = length_fault c.args.fault c.number-number.result c.number-number.ensures in
    let h : length c.args.buffer.now < length (fault_text c.args.fault) = omega (arith, c.line_length.ensures.exact) in
    record {
      answer = sym (printed_short (fault_text c.args.fault) c.args.buffer.now h);
      buffer = sym (after_short (fault_text c.args.fault) c.args.buffer.now h);
    }

pub returns : goal.returns
returns c =
    let e = fault_parts c.args.fault c.number-number.result c.number-number.ensures in
    let n = length_fault c.args.fault c.number-number.result c.number-number.ensures in
    let h : length (fault_text c.args.fault) ≤ length c.args.buffer.now = omega (arith, c.line_length.ensures.exact) in
    let p = put_more (omega arith) c.put.ensures.put c.put_line.ensures.put in
    let b = buffer_put (fault_text c.args.fault) e h p in
    record { answer = answer_put (fault_text c.args.fault) e h p; buffer = search rules }
