use Rattle.std.proofs.Common.{◌≡◌, true, false, ◌&&◌, sym, ap, ap₂, ◌∙◌}
use Rattle.mesh.specs.declared.MeshRef.{MeshRef}
use Rattle.mesh.specs.Meshes.{seen}
use Rattle.mesh.specs.Sound.{is_sound, is_joined}
use Rattle.mesh.proofs.Decide.{sound_known, decided}
use Rattle.mesh.proofs.MeshRef.sound.Goals as goal

pub returns-in_default-clause-test : goal.returns-in_default-clause-test
unfolding is_sound
returns-in_default-clause-test c = ap (λ b. b && is_joined (seen c.args.self)) c.in_default.ensures.shown

pub returns-in_default-clause-decides : goal.returns-in_default-clause-decides
returns-in_default-clause-decides c = decided (seen c.args.self) false (returns-in_default-clause-test c)

pub returns-then-not-is_joined-clause-test : goal.returns-then-not-is_joined-clause-test
unfolding is_sound
returns-then-not-is_joined-clause-test c =
    ap₂ ◌&&◌ c.in-Some.ensures.shown
    (sym c.if-not-is_joined.true ∙ c.is_joined.ensures ∙ ap (λ (m : MeshRef). is_joined (seen m)) c.in-Some.ensures.same)

pub returns-then-not-is_joined-clause-decides : goal.returns-then-not-is_joined-clause-decides
returns-then-not-is_joined-clause-decides c = decided (seen c.args.self) false (returns-then-not-is_joined-clause-test c)

passes : (c : goal.Else-not-is_joined) → true ≡ is_sound (seen c.args.self)
unfolding is_sound
passes c =
    ap₂ ◌&&◌ c.in-Some.ensures.shown
    (sym c.if-not-is_joined.false ∙ c.is_joined.ensures ∙ ap (λ (m : MeshRef). is_joined (seen m)) c.in-Some.ensures.same)

pub invariant_of-result : goal.invariant_of-result
invariant_of-result c = record { sound = sound_known (seen c.args.self) (sym (passes c)) }

pub returns-clause-test : goal.returns-clause-test
unfolding is_sound
returns-clause-test c =
    ap₂ ◌&&◌ c.in-Some.ensures.shown
    (sym c.if-not-is_joined.false ∙ c.is_joined.ensures ∙ ap (λ (m : MeshRef). is_joined (seen m)) c.in-Some.ensures.same)
