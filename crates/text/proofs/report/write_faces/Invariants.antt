use Rattle.std.proofs.Common.{◌≡◌}
use Rattle.mesh.specs.Meshes.{seen}
use Rattle.text.specs.Printing.{face_lines, Put}
use Rattle.text.proofs.report.write_faces.Given as goal

abbrev pub invariant-loop-f : goal.invariant-loop-f
invariant-loop-f l = record {
  same : l.printer.buffer.ghost_name ≡ l.initial.printer.buffer.ghost_name;
  put : Put l.initial.printer.buffer.now l.initial.printer.at (face_lines (seen l.roomy.mesh) l.f) l.printer.buffer.now l.printer.at;
}
