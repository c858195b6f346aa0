use Rattle.std.proofs.Common.{◌≡◌, length, take, sym, subst, ap, replicate, Ok, Err, refl, ◌∙◌, arith}
use Rattle.std.proofs.lemmas.List.{take_at}
use Rattle.std.proofs.lemmas.Result.{err_from_is_err_and}
use Rattle.cost.specs.Costs.{fold}
use Rattle.worklist.specs.Orders.{fifo}
use Rattle.mesh.specs.declared.Refusal.{Refusal}
use Rattle.mesh.specs.declared.Vertex.{Vertex}
use Rattle.mesh.specs.declared.HalfEdge.{HalfEdge}
use Rattle.mesh.specs.Meshes.{no_vertex, no_half_edge}
use Rattle.text.specs.declared.draping.NotDraped.TheVariants.{Refused}
use Rattle.text.specs.Loads.{Draped}
use Rattle.text.proofs.Loads.{from_blank}
use Rattle.text.proofs.draping.draped.Goals as goal

-- what the default values are
vertex_is : (v : Vertex) → (v.east ≡ 0) × ((v.north ≡ 0) × (v.height ≡ 0)) → v ≡ no_vertex
vertex_is v z = λ i. record { east = z.0 i; north = z.1.0 i; height = z.1.1 i }

half_edge_is : (h : HalfEdge) → (h.origin ≡ 0) × ((h.twin ≡ 0) × (h.pin ≡ 0)) → h ≡ no_half_edge
half_edge_is h z = λ i. record { origin = z.0 i; twin = z.1.0 i; pin = z.1.1 i }

pub returns-in_err-length-clause-refused : goal.returns-in_err-length-clause-refused
returns-in_err-length-clause-refused c =
    let vertices = c.deref_mut.ensures.value ∙ c.in_ok-vertices.ensures.items_if_clones_equal (λ y e. e) ∙ ap (replicate 1024) (vertex_is _ c.default.ensures) in
    let half_edges = c.deref_mut-2.ensures.value ∙ c.in_ok-half_edges.ensures.items_if_clones_equal (λ y e. e) ∙ ap (replicate 6126) (half_edge_is _ c.default-2.ensures) in
    let output : c.deref_mut-3.result.now ≡ replicate 32768 0 = c.deref_mut-3.ensures.value ∙ c.in_ok-output.ensures.items_if_clones_equal (λ y e. e) in
    let why = c.in_err-length.field-0.0 in
    let told : Draped fold fifo 2 c.args.text.now (Err why) = record {
      answer = Err why;
      after = c.drape.new.buffer;
      left = _;
      drapes = from_blank fold fifo 2 c.args.text.now c.default-header.ensures vertices half_edges c.in_ok-new.ensures.empty output c.in_err-length.ensures.drapes;
      is = refl;
    } in
    let p = err_from_is_err_and c.from_residual-in_err-length.result c.from_residual-in_err-length.ensures.1 in
    rw p.1 (λ refusal e.
    let same : why ≡ refusal = (let whole : Refused why ≡ Refused refusal = sym p.2 ∙ e in cc) in
    subst (λ (r : Refusal). Draped fold fifo 2 c.args.text.now (Err r)) same told)

pub returns-clause-told : goal.returns-clause-told
returns-clause-told c =
    let vertices = c.deref_mut.ensures.value ∙ c.in_ok-vertices.ensures.items_if_clones_equal (λ y e. e) ∙ ap (replicate 1024) (vertex_is _ c.default.ensures) in
    let half_edges = c.deref_mut-2.ensures.value ∙ c.in_ok-half_edges.ensures.items_if_clones_equal (λ y e. e) ∙ ap (replicate 6126) (half_edge_is _ c.default-2.ensures) in
    let output : c.deref_mut-3.result.now ≡ replicate 32768 0 = c.deref_mut-3.ensures.value ∙ c.in_ok-output.ensures.items_if_clones_equal (λ y e. e) in
    let long : length c.drape.new.buffer ≡ c.in_ok-output.output.len = omega arith in
    record {
      answer = Ok c.in_ok-length.length;
      after = c.drape.new.buffer;
      left = _;
      drapes = from_blank fold fifo 2 c.args.text.now c.default-header.ensures vertices half_edges c.in_ok-new.ensures.empty output c.in_ok-length.ensures.drapes;
      is = ap Ok (c.truncate.ensures.items ∙ ap (take c.in_ok-length.length) (take_at c.drape.new.buffer _ c.in_ok-output.output.len long));
    }
