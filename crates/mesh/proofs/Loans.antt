-- A mesh that stays lent over two calls.
use Rattle.std.proofs.Common.{◌∙◌}
use Rattle.mesh.specs.declared.MeshMut.{MeshMut}
use Rattle.mesh.specs.Meshes.{SameLoan}

pub then_loan : {a b c : MeshMut} → SameLoan a b → SameLoan b c → SameLoan a c
then_loan p q = record { header = q.header ∙ p.header; vertices = q.vertices ∙ p.vertices; half_edges = q.half_edges ∙ p.half_edges }
