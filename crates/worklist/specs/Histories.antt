-- Histories: whole lists of puts and takes, and what a record of them says of the order of waiting.
use Rattle.std.specs.Prelude.{◌≡◌, ℕ, Bool, true, false, cond, not, ◌&&◌, List, [], ◌∷◌, length, map, is_some, Some, None, Option, ◌==◌, nat_le, nat_lt}
use Rattle.worklist.specs.declared.serving.Ask.{Ask}
use Rattle.worklist.specs.declared.serving.Ask.TheVariants.{Clear, Put, Take}
use Rattle.worklist.specs.declared.serving.Event.{Event}
use Rattle.worklist.specs.declared.serving.Event.TheVariants.{Cleared, Offered, Took}
use Rattle.worklist.specs.Orders.{limit, Order, TakenFirst}
use Rattle.worklist.specs.Orders as orders

-- one event on a worklist in which xs wait, after which ys do
abbrev pub Step : Order → List ℕ → Event → List ℕ → Type 0
Step Q xs Cleared ys = ys ≡ []
Step Q xs (Offered k r) ys = orders.Put Q xs k r ys
Step Q xs (Took o) ys = TakenFirst xs o ys

-- one event after the other
abbrev pub Steps : Order → List ℕ → List Event → List ℕ → Type 0
Steps Q xs [] ys = ys ≡ xs
Steps Q xs (e ∷ es) ys = (ws : List ℕ) × Step Q xs e ws × Steps Q ws es ys

-- what an event answers to
abbrev pub asking : Event → Ask
asking Cleared = Clear
asking (Offered k r) = Put k
asking (Took o) = Take

-- the events of the past, the latest first, led from an empty worklist to one in which xs wait
abbrev pub Led : Order → List Event → List ℕ → Type 0
Led Q [] xs = xs ≡ []
Led Q (e ∷ past) xs = (ws : List ℕ) × Led Q past ws × Step Q ws e xs

-- from the record alone, the latest first: since which moment k waits, as the number of events before its put
abbrev pub since : List Event → ℕ → Option ℕ
since [] k = None
since (Cleared ∷ past) k = None
since (Offered j true ∷ past) k = cond (j == k) (Some (length past)) (since past k)
since (Offered j false ∷ past) k = since past k
since (Took (Some j) ∷ past) k = cond (j == k) None (since past k)
since (Took None ∷ past) k = since past k

-- of two numbers that wait, k put at the moment t and j put at the moment u: k is not handed back after j
abbrev pub Precedence : Type 0
Precedence = ℕ → ℕ → ℕ → ℕ → Bool

-- the one put earlier
abbrev pub first_come : Precedence
first_come k t j u = nat_le t u

-- the one put later
abbrev pub last_come : Precedence
last_come k t j u = nat_le u t

-- the lower one
abbrev pub least : Precedence
least k t j u = nat_le k j

-- what an event has to be after the past, whatever the worklist does inside: exactly the numbers below the limit that do
-- not wait are put, nothing is handed back only if nothing waits, and what is handed back waits and comes before all
-- that wait
abbrev pub Due : Precedence → List Event → Event → Type 0
Due P past Cleared = Unit {0}
Due P past (Offered k r) = r ≡ (nat_lt k limit && not (is_some (since past k)))
Due P past (Took None) = (k : ℕ) → since past k ≡ None
Due P past (Took (Some k)) = (t : ℕ) × (since past k ≡ Some t) × ((j u : ℕ) → since past j ≡ Some u → P k t j u ≡ true)

-- each event is due after the past and the events before it
abbrev pub Fair : Precedence → List Event → List Event → Type 0
Fair P past [] = Unit {0}
Fair P past (e ∷ es) = Due P past e × Fair P (e ∷ past) es

-- a worklist of the order Q, from the empty one on, does what is due under P
abbrev pub Keeps : Order → Precedence → Type 0
Keeps Q P = (past : List Event) (xs : List ℕ) (e : Event) (ys : List ℕ) → Led Q past xs → Step Q xs e ys → Due P past e

-- the events es answer to the asks and lead from xs to ys, and each is due, whatever past led to xs
pub record Served (Q : Order) (P : Precedence) (xs : List ℕ) (asks : List Ask) (es : List Event) (ys : List ℕ) : Type 0 where
  pub answers : map asking es ≡ asks
  pub happens : Steps Q xs es ys
  pub fair : (past : List Event) → Led Q past xs → Fair P past es
