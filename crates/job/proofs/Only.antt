-- Where the order of waiting is a function, the rule leaves nothing open.
use Rattle.std.proofs.Common.{◌≡◌, ℕ, List, [], ◌∷◌, Some, None, Option, sym, ap, ◌∙◌, subst}
use Rattle.mesh.specs.Meshes.{Mesh, interior}
use Rattle.mesh.proofs.Numbers.{number_injective}
use Rattle.cost.specs.Costs.{Parts}
use Rattle.worklist.specs.Orders.{Order, Puts, fifo}
use Rattle.job.specs.declared.Call.{Call}
use Rattle.job.specs.declared.Call.TheVariants.{Lay, Add, Flip, Pin, Unpin}
use Rattle.job.specs.declared.Answer.{Answer}
use Rattle.job.specs.declared.Answer.TheVariants.{Refused}
use Rattle.job.specs.Rule.{State, Writes, Taken, RefusedBy, Decided, Rule, refusal}

-- putting a number may make one list only
abbrev pub Functional : Order → Type 0
Functional Q = (xs : List ℕ) (k : ℕ) (ys zs : List ℕ) → Q xs k ys → Q xs k zs → ys ≡ zs

pub fifo_functional : Functional fifo
fifo_functional xs k ys zs p q = p ∙ sym q

pub puts_only : (Q : Order) → Functional Q → (ks xs ys zs : List ℕ) → Puts Q xs ks ys → Puts Q xs ks zs → ys ≡ zs
puts_only Q f [] xs ys zs p q = p ∙ sym q
puts_only Q f (k ∷ ks) xs ys zs p q =
    puts_only Q f ks p.0 ys zs p.2 (subst (λ (v : List ℕ). Puts Q v ks zs) (f xs k q.0 p.0 q.1 p.1) q.2)

-- the same answer, and the same state left
abbrev pub Same : Answer → State → Answer → State → Type 0
Same a u b v = (a ≡ b) × (u ≡ v)

pub same_state : (u v : State) → u.mesh ≡ v.mesh → u.waiting ≡ v.waiting → u ≡ v
same_state u v p q = λ i. record { mesh = p i; waiting = q i }

pub writes_only : (Q : Order) → Functional Q → (m : Mesh) (u v : State) → Writes Q m u → Writes Q m v → u ≡ v
writes_only Q f m u v p q =
    same_state u v (p.0 ∙ sym q.0) (puts_only Q f (interior m) [] u.waiting v.waiting p.1 q.1)

pub refused_only : (n : ℕ) (s : State) (a b : Answer) (u v : State) → RefusedBy n s a u → RefusedBy n s b v → Same a u b v
refused_only n s a b u v x y =
    (x.2 ∙ ap Refused (number_injective x.0 y.0 (x.1 ∙ sym y.1)) ∙ sym y.2, x.3 ∙ sym y.3)

module _ (K : Parts) (Q : Order) (f : Functional Q) (lookahead : ℕ) (s : State) where
  -- one clause for each call
  taken_only : (c : Call) (a b : Answer) (u v : State) → Taken K Q lookahead s c a u → Taken K Q lookahead s c b v → Same a u b v
  taken_only (Lay p) a b u v x y = (x.0 ∙ sym y.0, writes_only Q f _ u v x.1 y.1)
  taken_only (Add w) a b u v x y = (x.0 ∙ sym y.0, writes_only Q f _ u v x.1 y.1)
  taken_only (Flip k) a b u v x y = (x.0 ∙ sym y.0, writes_only Q f _ u v x.1 y.1)
  taken_only (Pin k) a b u v x y = (x.0 ∙ sym y.0, x.1 ∙ sym y.1)
  taken_only (Unpin k) a b u v x y = (x.0 ∙ sym y.0, writes_only Q f _ u v x.1 y.1)

  decided_only :
      (o : Option ℕ) (c : Call) (a b : Answer) (u v : State) → Decided o K Q lookahead s c a u → Decided o K Q lookahead s c b v → Same a u b v
  decided_only (Some n) c a b u v x y = refused_only n s a b u v x y
  decided_only None c a b u v x y = taken_only c a b u v x y

  -- one answer and one state
  pub rule_only : (c : Call) (a b : Answer) (u v : State) → Rule K Q lookahead s c a u → Rule K Q lookahead s c b v → Same a u b v
  rule_only c a b u v x y = decided_only (refusal s.mesh c) c a b u v x.decided y.decided
