use Rattle.std.proofs.Common.{◌≡◌, ◌+◌, ◌≤◌, ◌++◌, length, sym, ap, ◌∙◌, arith, rules}
use Rattle.mesh.specs.Meshes.{seen, faces}
use Rattle.std.proofs.lemmas.List.{length-append}
use Rattle.text.specs.Printing.{face_line, face_lines}
use Rattle.text.proofs.Overs.{put_more, put_same}
use Rattle.text.proofs.Prints.{faces_names, faces_parts, length_faces, face_lines_more, face_line_is, face_lines_below}
use Rattle.text.proofs.report.write_faces.Goals as goal

pub put-requires : goal.put-requires
put-requires c = omega (arith, length_faces (seen c.args.roomy.mesh))

pub put_line-requires : goal.put_line-requires
put_line-requires c =
    let m = seen c.args.roomy.mesh in
    let f = c.loop-f.f in
    let line = face_line_is m f c.origins.result c.origins.ensures in
    let more = ap length (face_lines_more m f) ∙ length-append (face_lines m f) (face_line m f) in
    let below = face_lines_below m (f + 1) (faces m) (omega arith) in
    omega (arith, length_faces m, ap length line, c.loop-f.invariant.put.end, c.loop-f.invariant.put.kept, c.put.ensures.put.end, c.put.ensures.put.kept)

pub loop-f-preserved : goal.loop-f-preserved
loop-f-preserved c =
    let m = seen c.args.roomy.mesh in
    let f = c.loop-f.f in
    let line = face_line_is m f c.origins.result c.origins.ensures in
    let below = face_lines_below m f (faces m) (omega arith) in
    let fits : c.loop-f.printer.at ≤ length c.put.new.self.buffer.now = omega (arith, length_faces m, c.loop-f.invariant.put.end, c.put.ensures.put.end, c.put.ensures.put.kept) in
    let whole = ap (λ bs. face_lines m f ++ bs) line ∙ sym (face_lines_more m f) in
    record {
      same = c.put_line.ensures.same ∙ c.loop-f.invariant.same;
      put = put_same whole (put_more fits c.loop-f.invariant.put c.put_line.ensures.put);
    }

pub returns : goal.returns
returns c =
    let m = seen c.args.roomy.mesh in
    let all : c.loop-f.f ≡ faces m = omega arith in
    let fits : c.put.new.self.at ≤ length c.args.buffer.now = omega (arith, length_faces m) in
    let q = put_more fits c.put.ensures.put c.loop-f.invariant.put in
    let r = put_same (ap (λ n. faces_names ++ face_lines m n) all ∙ sym (faces_parts m)) q in
    let b = r.buffer in
    record { end = omega (arith, r.end); buffer = search rules }
