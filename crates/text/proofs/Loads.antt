-- The steps of a load.
use Rattle.std.proofs.Common.{◌≡◌, ℕ, suc, ◌+◌, ◌-◌, ◌≤◌, List, length, Ok, Err, Result, sym, refl, subst, add-one, arith, [], replicate}
use Rattle.mesh.specs.declared.Refusal.{Refusal}
use Rattle.cost.specs.Costs.{Parts}
use Rattle.worklist.specs.Orders.{Order}
use Rattle.mesh.specs.declared.HalfEdge.{HalfEdge}
use Rattle.mesh.specs.declared.Header.{Header}
use Rattle.mesh.specs.declared.Vertex.{Vertex}
use Rattle.mesh.specs.Meshes.{no_vertex, no_half_edge}
use Rattle.job.proofs.Counts.{add_count}
use Rattle.job.specs.declared.Call.{Call}
use Rattle.job.specs.declared.Call.TheVariants.{Add}
use Rattle.job.specs.declared.Answer.{Answer}
use Rattle.job.specs.declared.Answer.TheVariants.{Refused, Added}
use Rattle.job.specs.Rule.{State, state, Rule}
use Rattle.text.specs.declared.Fault.{Fault}
use Rattle.text.specs.declared.names.Columns.{Columns}
use Rattle.text.specs.Pieces.{pieces}
use Rattle.text.specs.Scripts.{Script, ends, halts, asks, from_vertices}
use Rattle.text.proofs.Scripts.{vertices_none}
use Rattle.text.specs.Loads.{fault, line_of, Loads, Drapes, blank}

module _ (K : Parts) (Q : Order) (lookahead : ℕ) (s : State) (n : ℕ) where
  -- the same script in other words
  pub same_script : (x y : Script) (r : Result ℕ Fault) (s' : State) → x ≡ y → Loads K Q lookahead s n y r s' → Loads K Q lookahead s n x r s'
  same_script x y r s' e l = subst (λ (z : Script). Loads K Q lookahead s n z r s') (sym e) l

  pub halted : (f : Fault) → Loads K Q lookahead s n (halts f) (Err f) s
  halted f = record { carried = (refl, refl) }

  pub ended : Loads K Q lookahead s n ends (Ok (n - 1)) s
  ended = record { carried = (refl, refl) }

  -- the next call is refused
  pub refused_call : (c : Call) (rest : Script) (e : Refusal) (t : State) → Rule K Q lookahead s c (Refused e) t →
      Loads K Q lookahead s n (asks c rest) (Err (fault (line_of n) 0 e)) t
  refused_call c rest e t r = record { carried = (Refused e, t, r, (refl, refl)) }

  -- the next call is taken
  pub added_call : (c : Call) (rest : Script) (v : ℕ) (t : State) → Rule K Q lookahead s c (Added v) t →
      (r : Result ℕ Fault) (s' : State) → Loads K Q lookahead t (suc n) rest r s' → Loads K Q lookahead s n (asks c rest) r s'
  added_call c rest v t rule r s' l = record { carried = (Added v, t, rule, l.carried) }

-- the rule of a job whose cost and lookahead are unchanged
pub same_job : {K K' : Parts} {Q : Order} {la la' : ℕ} {s t : State} {c : Call} {a : Answer} → K' ≡ K → la' ≡ la → Rule K' Q la' s c a t → Rule K Q la s c a t
same_job {K} {K'} {Q} {la} {la'} {s} {t} {c} {a} p q r =
    subst (λ (n : ℕ). Rule K Q n s c a t) q (subst (λ (k : Parts). Rule k Q la' s c a t) p r)

-- ---- the lines after the third, of which some are done

module _ (K : Parts) (Q : Order) (lookahead : ℕ) (s₀ : State) (columns : Columns) (text : List ℕ) where
  -- whatever the rest of the text comes to from here, the whole text comes to from the start
  pub record Midway (s : State) (added : ℕ) (rest : List ℕ) : Type 0 where
    pub onward : (r : Result ℕ Fault) (s' : State) →
        Loads K Q lookahead s (added + 1) (from_vertices columns (added + 4) (pieces 10 rest)) r s' →
        Loads K Q lookahead s₀ 1 (from_vertices columns 4 (pieces 10 text)) r s'
    pub counted : s.mesh.header.count ≡ added + 4
    pub few : added ≤ 1020

  pub at_first : s₀.mesh.header.count ≡ 4 → Midway s₀ 0 text
  at_first e = record { onward = λ r s' l. l; counted = e; few = omega arith }

  abbrev Whole : Result ℕ Fault → State → Type 0
  Whole r s' = Loads K Q lookahead s₀ 1 (from_vertices columns 4 (pieces 10 text)) r s'

  module _ (s : State) (added : ℕ) (rest : List ℕ) (mid : Midway s added rest) where
    pub stopped : (f : Fault) → from_vertices columns (added + 4) (pieces 10 rest) ≡ halts f → Whole (Err f) s
    stopped f e = mid.onward (Err f) s (same_script K Q lookahead s (added + 1) _ _ (Err f) s e (halted K Q lookahead s (added + 1) f))

    pub finished : length rest ≡ 0 → Whole (Ok added) s
    finished h =
        let less : added + 1 - 1 ≡ added = omega arith in
        mid.onward (Ok added) s
        (same_script K Q lookahead s (added + 1) _ _ (Ok added) s (vertices_none columns (added + 4) rest h)
        (subst (λ (n : ℕ). Loads K Q lookahead s (added + 1) ends (Ok n) s) less (ended K Q lookahead s (added + 1))))

    module _ (w : Vertex) (rest' : List ℕ) (asked : from_vertices columns (added + 4) (pieces 10 rest) ≡ asks (Add w) (from_vertices columns (suc (added + 4)) (pieces 10 rest'))) where
      abbrev tail : Script
      tail = from_vertices columns (suc (added + 4)) (pieces 10 rest')

      pub refused_add : (e : Refusal) (t : State) → Rule K Q lookahead s (Add w) (Refused e) t → Whole (Err (fault (added + 4) 0 e)) t
      refused_add e t rule =
          let at : line_of (added + 1) ≡ added + 4 = rw add-one in
          mid.onward (Err (fault (added + 4) 0 e)) t
          (same_script K Q lookahead s (added + 1) _ _ _ t asked
          (subst (λ (n : ℕ). Loads K Q lookahead s (added + 1) (asks (Add w) tail) (Err (fault n 0 e)) t) at
          (refused_call K Q lookahead s (added + 1) (Add w) tail e t rule)))

      pub one_more : (v : ℕ) (t : State) → Rule K Q lookahead s (Add w) (Added v) t → Midway t (added + 1) rest'
      one_more v t rule =
          let k = add_count K Q lookahead s t w v rule in
          let n : added + 1 + 1 ≡ suc (added + 1) = omega arith in
          let line : added + 1 + 4 ≡ suc (added + 4) = omega arith in
          record {
            onward = λ r s' l.
                mid.onward r s'
                (same_script K Q lookahead s (added + 1) _ _ r s' asked
                (added_call K Q lookahead s (added + 1) (Add w) tail v t rule r s'
                (subst (λ (i : ℕ). Loads K Q lookahead t (suc (added + 1)) (from_vertices columns i (pieces 10 rest')) r s') line
                (subst (λ (i : ℕ). Loads K Q lookahead t i (from_vertices columns (added + 1 + 4) (pieces 10 rest')) r s') n l))));
            counted = omega (arith, k.0, mid.counted);
            few = omega (arith, k.1, mid.counted);
          }

-- ---- blank memory

pub from_blank :
    (K : Parts) (Q : Order) (lookahead : ℕ) (text : List ℕ) {h : Header} {vs : List Vertex} {hs : List HalfEdge} {ws out after : List ℕ} {a : Result ℕ Refusal} {s' : State} →
    (h.width ≡ 0) × ((h.depth ≡ 0) × (h.count ≡ 0)) → vs ≡ replicate 1024 no_vertex → hs ≡ replicate 6126 no_half_edge → ws ≡ [] → out ≡ replicate 32768 0 →
    Drapes K Q lookahead (state h vs hs ws) text out a after s' → Drapes K Q lookahead blank text (replicate 32768 0) a after s'
from_blank K Q lookahead text {h} {vs} {hs} {ws} {out} {after} {a} {s'} z v e w o d =
    let header : h ≡ record { width = 0; depth = 0; count = 0 } = λ i. record { width = z.0 i; depth = z.1.0 i; count = z.1.1 i } in
    let s : state h vs hs ws ≡ blank = cc in
    subst (λ (t : State). Drapes K Q lookahead t text (replicate 32768 0) a after s') s (subst (λ (bs : List ℕ). Drapes K Q lookahead (state h vs hs ws) text bs a after s') o d)
