-- What a record of events says of a lawful worklist, and of what it hands back.
use Rattle.std.specs.Prelude.{◌≡◌, ℕ, suc, ◌+◌, ◌<◌, Bool, true, false, cond, not, ◌&&◌, ◌||◌, List, [], ◌∷◌, ◌++◌, length, take, map, is_some, Some, None, Option, ◌==◌, nat_lt, slice_index_or, refl}
use Rattle.std.proofs.Common.{sym, ap, subst, ◌∙◌, ⊎_elim, arith}
use Rattle.std.proofs.lemmas.List.{take_more}
use Rattle.std.proofs.lemmas.Bool.{both_ways, and_parts, and_from, and_left, and_right, and_cases, or_cases, or_left, or_right, not-true, not-false, not_from_true, not_from_false, eqb-true, eq-eqb, ne_eqb, ltb-true, ltb-false, lt-ltb, le-ltb, cases_Bool, cases_lt, cond-true, cond-false}
use Rattle.worklist.specs.Orders.{limit, Order, LawfulOrder, Inserted, Put, among, different}
use Rattle.worklist.specs.declared.serving.Ask.{Ask}
use Rattle.worklist.specs.declared.serving.Ask.TheVariants.{Clear}
use Rattle.worklist.specs.declared.serving.Event.{Event}
use Rattle.worklist.specs.declared.serving.Event.TheVariants.{Cleared, Offered, Took}
use Rattle.worklist.specs.Histories.{Step, Steps, Led, asking, since, Precedence, Fair, Keeps}
use Rattle.worklist.specs.Insertions.{among_inserted, different_inserted}

-- what a put answers
put_answer : {Q : Order} {xs ys : List ℕ} {k : ℕ} {r : Bool} → Put Q xs k r ys → r ≡ (nat_lt k limit && not (among xs k))
put_answer {Q} {xs} {ys} {k} {r} put =
    ⊎_elim
    (λ e. (put.listed e).0 ∙ sym (and_right (nat_lt k limit) _ (not_from_true _ e)))
    (λ e. ⊎_elim
    (λ l. (put.fresh l e).0 ∙ sym (and_from _ _ (lt-ltb k limit l) (not_from_false _ e)))
    (λ l. (put.large l).0 ∙ sym (and_left _ _ (le-ltb k limit l)))
    (cases_lt k limit))
    (cases_Bool (among xs k))

-- what a put that answers yes did
put_yes : {Q : Order} {xs ys : List ℕ} {k : ℕ} → Put Q xs k true ys → (k < limit) × (among xs k ≡ false) × Q xs k ys
put_yes {Q} {xs} {ys} {k} put =
    let p = and_parts (nat_lt k limit) (not (among xs k)) (sym (put_answer put)) in
    let small = ltb-true k limit p.0 in
    let absent = not-true _ p.1 in
    (small, absent, (put.fresh small absent).1)

-- a put that answers no leaves the worklist as it was
put_no : {Q : Order} {xs ys : List ℕ} {k : ℕ} → Put Q xs k false ys → ys ≡ xs
put_no {Q} {xs} {ys} {k} put =
    ⊎_elim
    (λ l. (put.large (ltb-false k limit l)).1)
    (λ e. (put.listed (not-false _ e)).1)
    (and_cases (nat_lt k limit) (not (among xs k)) (sym (put_answer put)))

-- the record of the past says of each number whether it waits in xs
pub record Tells (past : List Event) (xs : List ℕ) : Type 0 where
  pub apart : different xs ≡ true
  pub waits : (k : ℕ) → among xs k ≡ is_some (since past k)

-- nothing waits, and the record says so
tells_none : (past : List Event) (xs : List ℕ) → xs ≡ [] → ((k : ℕ) → since past k ≡ None) → Tells past xs
tells_none past xs e none =
    record { apart = ap different e; waits = λ k. ap (λ zs. among zs k) e ∙ sym (ap is_some (none k)) }

-- k is put at one place
tells_put : (past : List Event) (ws xs : List ℕ) (k : ℕ) → Tells past ws → Inserted ws k xs → among ws k ≡ false → Tells (Offered k true ∷ past) xs
tells_put past ws xs k t i new =
    record {
      apart = different_inserted i t.apart new;
      waits = λ j. among_inserted i j ∙ (ap (λ b. (k == j) || b) (t.waits j) ∙ by (k == j) (since past j));
    }
  where
    by : (b : Bool) (o : Option ℕ) → (b || is_some o) ≡ is_some (cond b (Some (length past)) o)
    by true o = refl
    by false o = refl

-- the first number is taken
tells_take : (past : List Event) (ws xs : List ℕ) (k : ℕ) → Tells past ws → ws ≡ k ∷ xs → Tells (Took (Some k) ∷ past) xs
tells_take past ws xs k t e =
    let p = and_parts (not (among xs k)) (different xs) (sym (ap different e) ∙ t.apart) in
    record {
      apart = p.1;
      waits = λ j.
          by j (k == j) (λ same. ap (among xs) (sym (eqb-true k j same)) ∙ not-true _ p.0) (sym (ap (λ zs. among zs j) e) ∙ t.waits j);
    }
  where
    by : (j : ℕ) (b : Bool) → (b ≡ true → among xs j ≡ false) → (b || among xs j) ≡ is_some (since past j) → among xs j ≡ is_some (cond b None (since past j))
    by j true gone w = gone refl
    by j false gone w = w

-- of a lawful worklist that began empty the record says what waits
pub led_tells : (Q : Order) → LawfulOrder Q → (past : List Event) (xs : List ℕ) → Led Q past xs → Tells past xs
led_tells Q lawful [] xs e = tells_none [] xs e (λ k. refl)
led_tells Q lawful (Cleared ∷ past) xs l = tells_none (Cleared ∷ past) xs l.2 (λ k. refl)
led_tells Q lawful (Offered k true ∷ past) xs l =
    let y = put_yes l.2 in
    tells_put past l.0 xs k (led_tells Q lawful past l.0 l.1) (lawful.inserts l.0 k xs y.2) y.1
led_tells Q lawful (Offered k false ∷ past) xs l =
    let t = led_tells Q lawful past l.0 l.1 in
    let e = put_no l.2 in
    record { apart = ap different e ∙ t.apart; waits = λ j. ap (λ zs. among zs j) e ∙ t.waits j }
led_tells Q lawful (Took (Some k) ∷ past) xs l =
    tells_take past l.0 xs k (led_tells Q lawful past l.0 l.1) l.2
led_tells Q lawful (Took None ∷ past) xs l =
    let t = led_tells Q lawful past l.0 l.1 in
    let e = l.2.1 ∙ sym l.2.0 in
    record { apart = ap different e ∙ t.apart; waits = λ j. ap (λ zs. among zs j) e ∙ t.waits j }

-- a moment of the past, or the present one
past_put : (b : Bool) (n t : ℕ) (o : Option ℕ) → (o ≡ Some t → t < n) → cond b (Some n) o ≡ Some t → t < suc n
past_put true n t o h e = let same : t ≡ n = cc in omega arith
past_put false n t o h e = omega (arith, h e)

past_take : (b : Bool) (n t : ℕ) (o : Option ℕ) → (o ≡ Some t → t < n) → cond b None o ≡ Some t → t < suc n
past_take true n t o h e = absurd (let z : ◌≡◌ {A = ℕ} 0 1 = cc in omega arith)
past_take false n t o h e = omega (arith, h e)

-- what waits was put at a moment of the past
pub since_past : (past : List Event) (k t : ℕ) → since past k ≡ Some t → t < length past
since_past [] k t e = absurd (let z : ◌≡◌ {A = ℕ} 0 1 = cc in omega arith)
since_past (Cleared ∷ past) k t e = absurd (let z : ◌≡◌ {A = ℕ} 0 1 = cc in omega arith)
since_past (Offered j true ∷ past) k t e = past_put (j == k) (length past) t (since past k) (since_past past k t) e
since_past (Offered j false ∷ past) k t e = omega (arith, since_past past k t e)
since_past (Took (Some j) ∷ past) k t e = past_take (j == k) (length past) t (since past k) (since_past past k t) e
since_past (Took None ∷ past) k t e = omega (arith, since_past past k t e)

-- by the moments s, each number of the list comes before those after it
abbrev pub Sorted : Precedence → (ℕ → Option ℕ) → List ℕ → Type 0
Sorted P s [] = Unit {0}
Sorted P s (x ∷ xs) = ((j t u : ℕ) → among xs j ≡ true → s x ≡ Some t → s j ≡ Some u → P x t j u ≡ true) × Sorted P s xs

-- only the moments of the listed numbers matter
sorted_same : (P : Precedence) (s r : ℕ → Option ℕ) (xs : List ℕ) → ((j : ℕ) → among xs j ≡ true → r j ≡ s j) → Sorted P s xs → Sorted P r xs
sorted_same P s r [] same q = tt
sorted_same P s r (x ∷ xs) same q = (
  λ j t u m a b. q.0 j t u m
      (sym (same x (or_left (x == x) (among xs x) (eq-eqb x x refl))) ∙ a)
      (sym (same j (or_right (x == j) (among xs j) m)) ∙ b),
  sorted_same P s r xs (λ j m. same j (or_right (x == j) (among xs j) m)) q.1,
)

-- what an order owes to keep a precedence: a number put at the moment n, after all that wait, goes where it belongs
pub record Apt (Q : Order) (P : Precedence) : Type 0 where
  pub lawful : LawfulOrder Q
  pub even : (k t : ℕ) → P k t k t ≡ true
  pub places : (s : ℕ → Option ℕ) (n : ℕ) (xs : List ℕ) (k : ℕ) (ys : List ℕ) → s k ≡ Some n
      → ((j : ℕ) → among xs j ≡ true → (u : ℕ) × (s j ≡ Some u) × (u < n)) → Sorted P s xs → Q xs k ys → Sorted P s ys

some_of : (o : Option ℕ) → is_some o ≡ true → (t : ℕ) × (o ≡ Some t)
some_of (Some t) e = (t, refl)
some_of None e = absurd (both_ways false refl e)

none_of : (o : Option ℕ) → is_some o ≡ false → o ≡ None
none_of (Some t) e = absurd (both_ways true e refl)
none_of None e = refl

-- a number that is not listed differs from one that is
differs : (xs : List ℕ) (k j : ℕ) → among xs k ≡ false → among xs j ≡ true → (k == j) ≡ false
differs xs k j n m = ne_eqb k j (λ e. both_ways (among xs j) (ap (among xs) (sym e) ∙ n) m)

module _ (Q : Order) (P : Precedence) (apt : Apt Q P) where
  -- what waits is in the order of the precedence, by the moments of the record
  pub led_sorted : (past : List Event) (xs : List ℕ) → Led Q past xs → Sorted P (since past) xs
  led_sorted [] xs e = subst (Sorted P (since [])) (sym e) tt
  led_sorted (Cleared ∷ past) xs l = subst (Sorted P (since (Cleared ∷ past))) (sym l.2) tt
  led_sorted (Offered k true ∷ past) xs l =
      let ws = l.0 in
      let y = put_yes l.2 in
      let t = led_tells Q apt.lawful past ws l.1 in
      let n = length past in
      let s = since (Offered k true ∷ past) in
      let same : (j : ℕ) → among ws j ≡ true → s j ≡ since past j =
      λ j m. cond-false (k == j) (Some n) (since past j) (differs ws k j y.1 m) in
      apt.places s n ws k xs
      (cond-true (k == k) (Some n) (since past k) (eq-eqb k k refl))
      (λ j m. let o = some_of (since past j) (sym (t.waits j) ∙ m) in (o.0, same j m ∙ o.1, since_past past j o.0 o.1))
      (sorted_same P (since past) s ws same (led_sorted past ws l.1))
      y.2
  led_sorted (Offered k false ∷ past) xs l =
      subst (Sorted P (since past)) (sym (put_no l.2)) (led_sorted past l.0 l.1)
  led_sorted (Took (Some k) ∷ past) xs l =
      let t = led_tells Q apt.lawful past l.0 l.1 in
      let p = and_parts (not (among xs k)) (different xs) (sym (ap different l.2) ∙ t.apart) in
      let q : Sorted P (since past) (k ∷ xs) = subst (Sorted P (since past)) l.2 (led_sorted past l.0 l.1) in
      sorted_same P (since past) (since (Took (Some k) ∷ past)) xs
      (λ j m. cond-false (k == j) None (since past j) (differs xs k j (not-true _ p.0) m))
      q.1
  led_sorted (Took None ∷ past) xs l = subst (Sorted P (since (Took None ∷ past))) (sym l.2.1) tt

  -- each event is due
  pub keeps : Keeps Q P
  keeps past xs Cleared ys l step = tt
  keeps past xs (Offered k r) ys l step =
      put_answer step ∙ ap (λ b. nat_lt k limit && not b) ((led_tells Q apt.lawful past xs l).waits k)
  keeps past xs (Took None) ys l step =
      λ k. none_of (since past k) (sym ((led_tells Q apt.lawful past xs l).waits k) ∙ ap (λ zs. among zs k) step.0)
  keeps past xs (Took (Some k)) ys l step =
      let t = led_tells Q apt.lawful past xs l in
      let listed : (j : ℕ) → among xs j ≡ (k == j || among ys j) = λ j. ap (λ zs. among zs j) step in
      let q : Sorted P (since past) (k ∷ ys) = subst (Sorted P (since past)) step (led_sorted past xs l) in
      let o = some_of (since past k) (sym (t.waits k) ∙ (listed k ∙ or_left (k == k) (among ys k) (eq-eqb k k refl))) in (
        o.0,
        o.1,
        λ j u f. ⊎_elim
            (λ e. let same = eqb-true k j e in let at = o.1 in let moment : u ≡ o.0 = cc in cc (apt.even k o.0))
            (λ m. q.0 j o.0 u m o.1 f)
            (or_cases (k == j) (among ys j) (sym (listed j) ∙ (t.waits j ∙ ap is_some f))),
      )

-- one more event at the end
pub steps_more : (Q : Order) (xs : List ℕ) (es : List Event) (ys : List ℕ) (e : Event) (zs : List ℕ) (all : List Event)
    → all ≡ es ++ (e ∷ []) → Steps Q xs es ys → Step Q ys e zs → Steps Q xs all zs
steps_more Q xs es ys e zs all is steps step =
    subst (λ ds. Steps Q xs ds zs) (sym is) (push xs es steps)
  where
    push : (ws : List ℕ) (ds : List Event) → Steps Q ws ds ys → Steps Q ws (ds ++ (e ∷ [])) zs
    push ws [] same = (zs, subst (λ l. Step Q l e zs) same step, refl)
    push ws (d ∷ ds) rest = (rest.0, rest.1, push rest.0 ds rest.2)

-- which answers to the next ask
pub asked_more : (asks : List Ask) (i : ℕ) (es : List Event) (e : Event) (all : List Event)
    → i < length asks → all ≡ es ++ (e ∷ []) → map asking es ≡ take i asks → asking e ≡ slice_index_or asks i Clear
    → map asking all ≡ take (i + 1) asks
asked_more asks i es e all l is front last =
    ap (map asking) is ∙ (push es ∙ (ap (λ before. before ++ (asking e ∷ [])) front ∙ (ap (λ a. take i asks ++ (a ∷ [])) last ∙ sym (take_more asks i Clear l))))
  where
    push : (ds : List Event) → map asking (ds ++ (e ∷ [])) ≡ map asking ds ++ (asking e ∷ [])
    push [] = refl
    push (d ∷ ds) = ap (λ rest. asking d ∷ rest) (push ds)

-- under an order that keeps a precedence each of a row of events is due
pub steps_fair : (Q : Order) (P : Precedence) → Keeps Q P → (xs : List ℕ) (es : List Event) (ys : List ℕ) → Steps Q xs es ys
    → (past : List Event) → Led Q past xs → Fair P past es
steps_fair Q P k xs [] ys steps past l = tt
steps_fair Q P k xs (e ∷ es) ys steps past l =
    (k past xs e steps.0 l steps.1, steps_fair Q P k steps.0 es ys steps.2 (e ∷ past) (xs, l, steps.1))
