use Rattle.std.proofs.Common.{◌≡◌, ◌<◌, sym, ap, ap₂, ◌∙◌, arith}
use Rattle.mesh.specs.Meshes.{lent, seen, used, twin_of}
use Rattle.mesh.specs.Geometry.{place}
use Rattle.mesh.specs.declared.MeshRef.{MeshRef}
use Rattle.mesh.specs.Edits.{crossed}
use Rattle.mesh.proofs.Borders.{crossed_inner}
use Rattle.mesh.proofs.edits.add.Goals as goal

-- the half-edge that is cut lies within those in use, and its twin too
inner : (c : goal.After-row_known-1) → (c.in-Some.s < c.used-n.result) × (twin_of (lent c.args.mesh.now) c.in-Some.s < c.used-n.result)
inner c =
    let m = lent c.args.mesh.now in
    let seen_is : seen c.placed.result.mesh ≡ m = ap seen c.placed.ensures ∙ c.as_ref.ensures in
    let n_is : c.used-n.result ≡ used m = c.used-n.ensures ∙ ap (λ (r : MeshRef). used (seen r)) c.roomy.ensures ∙ ap used c.as_ref.ensures in
    let i = crossed_inner m c.requires.sound (place c.args.w) c.requires.inside c.args.f c.in-Some.s c.requires.within
    (sym (c.in-Some.ensures ∙ ap₂ (λ n q. crossed n q c.args.f) seen_is c.point.ensures)) in
    let t : twin_of m c.in-Some.s < used m = c.requires.sound.twins c.in-Some.s i.0 i.1 in
    (omega (arith, i.0), omega (arith, t))

pub split_edge-requires-clause-within : goal.split_edge-requires-clause-within
split_edge-requires-clause-within c = (inner c).0

pub split_edge-requires-clause-twin : goal.split_edge-requires-clause-twin
split_edge-requires-clause-twin c = (inner c).1
