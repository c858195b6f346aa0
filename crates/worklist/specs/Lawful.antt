-- Each of the three orders puts a number in at one place and leaves the rest in their order.
use Rattle.std.specs.Prelude.{◌≡◌, ℕ, Bool, true, false, cond, List, [], ◌∷◌, ◌++◌, nat_lt, refl}
use Rattle.std.proofs.Common.{sym, ap, ◌∙◌, append-nil}
use Rattle.worklist.specs.Orders.{LawfulOrder, Inserted, fifo, lifo, lowest, insert}

-- an order under which a put makes one list, with the number at one place
lawful_by : (F : List ℕ → ℕ → List ℕ) → ((xs : List ℕ) (k : ℕ) → Inserted xs k (F xs k)) → LawfulOrder (λ xs k ys. ys ≡ F xs k)
lawful_by F inserts = record {
  inserts = λ xs k ys e.
      let i = inserts xs k in record { front = i.front; back = i.back; before = i.before; after = e ∙ i.after };
  somewhere = λ xs k small new. (F xs k, refl);
}

-- at the end
pub fifo_lawful : LawfulOrder fifo
fifo_lawful =
    lawful_by (λ xs k. xs ++ (k ∷ []))
    (λ xs k. record { front = xs; back = []; before = sym (append-nil xs); after = refl })

-- at the front
pub lifo_lawful : LawfulOrder lifo
lifo_lawful = lawful_by (λ xs k. k ∷ xs) (λ xs k. record { front = []; back = xs; before = refl; after = refl })

-- before the first number above it
insert_inserts : (xs : List ℕ) (k : ℕ) → Inserted xs k (insert k xs)
insert_inserts [] k = record { front = []; back = []; before = refl; after = refl }
insert_inserts (x ∷ xs) k = by (nat_lt k x) (insert_inserts xs k)
  where
    by : (b : Bool) → Inserted xs k (insert k xs) → Inserted (x ∷ xs) k (cond b (k ∷ (x ∷ xs)) (x ∷ insert k xs))
    by true i = record { front = []; back = x ∷ xs; before = refl; after = refl }
    by false i =
        record { front = x ∷ i.front; back = i.back; before = ap (λ l. x ∷ l) i.before; after = ap (λ l. x ∷ l) i.after }

-- in rising order
pub lowest_lawful : LawfulOrder lowest
lowest_lawful = lawful_by (λ xs k. insert k xs) insert_inserts
