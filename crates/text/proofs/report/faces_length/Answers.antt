use Rattle.std.proofs.Common.{◌≡◌, ℕ, ◌^◌, length, ap, ◌∙◌, arith, rules, tests}
use Rattle.arith.specs.Ranges.{sum}
use Rattle.arith.proofs.Chains.{sum_fits, sum_from_chain}
use Rattle.mesh.specs.declared.MeshRef.{MeshRef}
use Rattle.mesh.specs.Meshes.{Mesh, seen, faces}
use Rattle.text.specs.Printing.{face_line}
use Rattle.text.proofs.Prints.{length_faces, lines_sum, lines_bounded}
use Rattle.text.proofs.report.faces_length.Goals as goal

-- the closure asks for the line of a face of this mesh
abbrev line : Mesh → ℕ → ℕ
line m f = length (face_line m f)

pub sum-lines-requires-clause-fits : goal.sum-lines-requires-clause-fits
sum-lines-requires-clause-fits c =
    let same : c.roomy-roomy.result.mesh ≡ c.args.placed.mesh = c.roomy-roomy.ensures in
    let m = seen c.roomy-roomy.result.mesh in
    let few = ap (sum (line m)) c.faces.ensures ∙ ap (λ (r : MeshRef). sum (line (seen r)) (faces (seen r))) same in
    sum_fits _ (line m) c.faces.result c.map.ensures.source c.map.ensures.closure (λ x r q k. search (rules, tests)) (2 ^ 64)
    (omega (arith, few, lines_bounded (seen c.args.placed.mesh) c.args.placed.placed))

value : (c : goal.After-sum-lines) → c.sum-lines.result ≡ sum (line (seen c.args.placed.mesh)) (faces (seen c.args.placed.mesh))
value c =
    let same : c.roomy-roomy.result.mesh ≡ c.args.placed.mesh = c.roomy-roomy.ensures in
    let m = seen c.roomy-roomy.result.mesh in
    sum_from_chain _ (line m) c.faces.result c.map.ensures.source c.map.ensures.closure (λ x r q k. search (rules, tests)) c.sum-lines.result c.sum-lines.ensures.ran
    ∙ ap (sum (line m)) c.faces.ensures ∙ ap (λ (r : MeshRef). sum (line (seen r)) (faces (seen r))) same

pub overflow_add-result : goal.overflow_add-result
overflow_add-result c = omega (arith, value c, lines_bounded (seen c.args.placed.mesh) c.args.placed.placed)

pub returns : goal.returns
returns c = let m = seen c.args.placed.mesh in omega (arith, value c, length_faces m, lines_sum m (faces m))
