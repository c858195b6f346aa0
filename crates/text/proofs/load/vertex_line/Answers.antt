use Rattle.std.proofs.Common.{suc, sym, ap, ◌∙◌, rules}
use Rattle.job.specs.declared.Call.TheVariants.{Add}
use Rattle.text.specs.Loads.{fault}
use Rattle.text.specs.Pieces.{pieces}
use Rattle.text.specs.Scripts.{halts, asked, from_vertices}
use Rattle.text.proofs.Exits.{exits, was_ok, was_err}
use Rattle.text.proofs.Scripts.{vertices_unended, vertices_line}
use Rattle.text.proofs.load.vertex_line.Goals as goal

pub returns-in_err-one-clause-asked : goal.returns-in_err-one-clause-asked
returns-in_err-one-clause-asked c =
    let none = c.in_err-one.ensures in
    exits _ _ _ c.in_err-one.field-0.0 c.from_residual.ensures.1
    (vertices_unended c.args.columns c.args.line c.args.text.now c.requires none.1 ∙ ap halts (sym none.0))

pub returns-in_err-vertex-clause-asked : goal.returns-in_err-vertex-clause-asked
returns-in_err-vertex-clause-asked c =
    let cut = c.in_ok-one.ensures in
    let rest = c.in_ok-one.rest.now in
    let columns = c.args.columns in
    let line = c.args.line in
    let f = c.in_err-vertex.field-0.0 in
    let e = was_err (λ g. fault line g.field g.refusal) c.read_vertex.result c.map_err.result c.map_err.ensures.cases (λ g h k. search rules) f c.in_err-vertex.was in
    exits _ _ _ f c.from_residual-in_err-vertex.ensures.1
    (vertices_line columns line c.args.text.now c.in_ok-one.one.now rest cut.0 cut.1
    ∙ ap (λ r. asked Add line r (from_vertices columns (suc line) (pieces 10 rest))) (sym c.read_vertex.ensures ∙ e.1)
    ∙ ap halts (sym e.2))

pub returns-clause-asked : goal.returns-clause-asked
returns-clause-asked c =
    let cut = c.in_ok-one.ensures in
    let rest = c.in_ok-one.rest.now in
    let columns = c.args.columns in
    let line = c.args.line in
    let vertex = c.in_ok-vertex.vertex in
    let e = was_ok _ c.read_vertex.result c.map_err.result c.map_err.ensures.cases vertex c.in_ok-vertex.was in
    vertices_line columns line c.args.text.now c.in_ok-one.one.now rest cut.0 cut.1
    ∙ ap (λ r. asked Add line r (from_vertices columns (suc line) (pieces 10 rest))) (sym c.read_vertex.ensures ∙ e)
