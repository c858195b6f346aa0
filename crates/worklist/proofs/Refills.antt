-- What a caller needs who empties a lawful worklist and puts numbers in, one after the other.
use Rattle.std.proofs.Common.{◌≡◌, ℕ, zero, suc, ◌+◌, ◌<◌, ◌≤◌, Bool, true, false, cond, ◌||◌, eqb, List, [], ◌∷◌, ◌++◌, length, sym, refl, ap, ◌∙◌, subst, le_refl, arith}
use Rattle.std.proofs.Math.Bool.{or_assoc, or-false}
use Rattle.arith.proofs.Rising.{select_yes, select_no}
use Rattle.arith.specs.Ranges.{select}
use Rattle.worklist.specs.Orders.{limit, Order, LawfulOrder, Put, Puts, Refilled, among}
use Rattle.worklist.specs.Lawful.{fifo_lawful}
use Rattle.worklist.specs.Insertions.{or_swap, among_inserted, among_inserted_other, length_inserted}

-- one more put at the end of a row of puts
pub puts_push : (Q : Order) (xs ks ys : List ℕ) (k : ℕ) (zs : List ℕ) → Puts Q xs ks ys → Q ys k zs → Puts Q xs (ks ++ (k ∷ [])) zs
puts_push Q xs [] ys k zs e q = (zs, subst (λ l. Q l k zs) e q, refl)
puts_push Q xs (j ∷ ks) ys k zs p q = (p.0, p.1, puts_push Q p.0 ks ys k zs p.2 q)

module _ (Q : Order) (lawful : LawfulOrder Q) where
  -- what waits after a row of puts
  pub puts_among_from : (xs ks ys : List ℕ) → Puts Q xs ks ys → (k : ℕ) → among ys k ≡ (among ks k || among xs k)
  puts_among_from xs [] ys e k = ap (λ l. among l k) e
  puts_among_from xs (j ∷ ks) ys p k =
      puts_among_from p.0 ks ys p.2 k
      ∙ ap (λ b. among ks k || b) (among_inserted (lawful.inserts xs j p.0 p.1) k)
      ∙ or_swap (among ks k) (eqb j k) (among xs k)
      ∙ sym (or_assoc (eqb j k) (among ks k) (among xs k))

  -- after a refill exactly the numbers put in wait
  pub puts_among : (ks ys : List ℕ) → Puts Q [] ks ys → (k : ℕ) → among ys k ≡ among ks k
  puts_among ks ys p k = puts_among_from [] ks ys p k ∙ or-false (among ks k)

  -- how many wait after a row of puts
  pub puts_length : (xs ks ys : List ℕ) → Puts Q xs ks ys → length ys ≡ length ks + length xs
  puts_length xs [] ys e = omega (arith, ap length e)
  puts_length xs (j ∷ ks) ys p =
      omega (arith, puts_length p.0 ks ys p.2, length_inserted (lawful.inserts xs j p.0 p.1))

-- no number from n up is among the chosen ones below n
pub select_above : (test : ℕ → Bool) (n k : ℕ) → n ≤ k → among (select test n) k ≡ false
select_above test zero k h = refl
select_above test (suc n) k h = by (test n) (select_above test n k (omega arith))
  where
    by : (b : Bool) → among (select test n) k ≡ false → among (cond b (select test n ++ (n ∷ [])) (select test n)) k ≡ false
    by true r = among_inserted_other (fifo_lawful.inserts (select test n) n _ refl) k (λ e. omega arith) ∙ r
    by false r = r

-- a number n is not among the chosen ones below n
pub select_fresh : (test : ℕ → Bool) (n : ℕ) → among (select test n) n ≡ false
select_fresh test n = select_above test n n (le_refl n)

-- a refill's step where the next number passes: it is put
pub refill_put : (Q : Order) → LawfulOrder Q → (test : ℕ → Bool) (n : ℕ) (xs : List ℕ) (r : Bool) (ys : List ℕ) → n < limit → test n ≡ true
    → Refilled Q (select test n) xs → Put Q xs n r ys → (r ≡ true) × Refilled Q (select test (n + 1)) ys
refill_put Q lawful test n xs r ys small e p put =
    let new = put.fresh small (puts_among Q lawful (select test n) xs p n ∙ select_fresh test n) in (
      new.0,
      subst (λ ks. Refilled Q ks ys) (sym (select_yes test n e)) (puts_push Q [] (select test n) xs n ys p new.1),
    )

-- a refill's step where it does not
pub refill_skip : (Q : Order) (test : ℕ → Bool) (n : ℕ) (xs : List ℕ) → test n ≡ false → Refilled Q (select test n) xs → Refilled Q (select test (n + 1)) xs
refill_skip Q test n xs e p = subst (λ ks. Refilled Q ks xs) (sym (select_no test n e)) p
