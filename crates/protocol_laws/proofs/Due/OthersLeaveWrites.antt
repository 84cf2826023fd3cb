-- What records of others leave of a transaction's writes: whether one stands, and where the last one was undone; and whose writes a going back undoes.
use Rattle.std.proofs.Common.{◌≡◌, refl, sym, ap, ◌∙◌, ℕ, zero, suc, ◌<◌, ◌≤◌, ⊎_elim, Bool, true, false, cond, ◌||◌, ◌==◌, List, [], ◌∷◌, ◌++◌, map, take, Option, Some, None, eqb-true, arith}
use Rattle.std.specs.List.{AllByRecursion, filter, list_any}
use Rattle.std.proofs.lemmas.Bool.{both_ways, or_cases, or_parts, cond-false, false_from_ne_true}
use Rattle.clv_base.specs.declared.names.TxId.{TxId}
use Rattle.clv_base.specs.declared.logs.LogRecord.{LogRecord}
use Rattle.clv_base.specs.declared.logs.LogRecord.TheVariants.{Update, Clr, Prepare, Commit, Abort, End, Restart, Add, Unadd, Forgotten, Check}
use Rattle.clv_base.specs.declared.changes.Change.TheVariants.{Sets, Adds}
use Rattle.clv_base.specs.Orders.{tx_same, nat_in}
use Rattle.clv_base.specs.Logs.{StandingUpdate, standing, standing_from, without_newest, is_undo_of, wrote_in, has_standing, last_place_from, undone_lsn}
use Rattle.clv_base.specs.Undo.{newest_lsns, is_at}
use Rattle.clv_base.proofs.SameNames.{tx_true}
use Rattle.law_base.proofs.Lists.{all_mono, all_both}
use Rattle.law_base.proofs.Standing.{standing_append, has_write, Falls, falls_weaker, falls_without}
use Rattle.protocol_laws.specs.Order.{undone_in}

-- ---- whether a write stands

without_other : (x tx : TxId) (ws : List StandingUpdate) → tx_same x tx ≡ false → has_write (without_newest tx ws) x ≡ has_write ws x
without_other x tx [] o = refl
without_other x tx (w ∷ ws) o = at (tx_same tx w.tx) refl (without_other x tx ws o)
  where
    at : (b : Bool) → tx_same tx w.tx ≡ b → has_write (without_newest tx ws) x ≡ has_write ws x → has_write (cond b ws (w ∷ without_newest tx ws)) x ≡ has_write (w ∷ ws) x
    at true s e = ap (λ c. c || has_write ws x) (sym o ∙ ap (tx_same x) (tx_true tx w.tx s))
    at false s e = ap (λ c. tx_same x w.tx || c) e

stands_from : (x : TxId) (n : ℕ) (more : List LogRecord) (ws : List StandingUpdate) → wrote_in more x ≡ false → undone_in more x ≡ false → has_write (standing_from n more ws) x ≡ has_write ws x
stands_from x n [] ws w u = refl
stands_from x n (Update tx k b a ∷ rs) ws w u =
    let p = or_parts (tx_same x tx) (wrote_in rs x) w in
    stands_from x (suc n) rs (record { lsn = n; tx = tx; key = k; change = Sets b a } ∷ ws) p.1 u ∙ ap (λ c. c || has_write ws x) p.0
stands_from x n (Add tx k by ∷ rs) ws w u =
    let p = or_parts (tx_same x tx) (wrote_in rs x) w in
    stands_from x (suc n) rs (record { lsn = n; tx = tx; key = k; change = Adds by } ∷ ws) p.1 u ∙ ap (λ c. c || has_write ws x) p.0
stands_from x n (Clr tx next k a ∷ rs) ws w u = let p = or_parts (tx_same x tx) (undone_in rs x) u in stands_from x (suc n) rs (without_newest tx ws) w p.1 ∙ without_other x tx ws p.0
stands_from x n (Unadd tx next k by ∷ rs) ws w u = let p = or_parts (tx_same x tx) (undone_in rs x) u in stands_from x (suc n) rs (without_newest tx ws) w p.1 ∙ without_other x tx ws p.0
stands_from x n (Prepare tx home ps ∷ rs) ws w u = stands_from x (suc n) rs ws w u
stands_from x n (Commit tx parts ∷ rs) ws w u = stands_from x (suc n) rs ws w u
stands_from x n (Abort tx ∷ rs) ws w u = stands_from x (suc n) rs ws w u
stands_from x n (End tx ∷ rs) ws w u = stands_from x (suc n) rs ws w u
stands_from x n (Restart run epoch ∷ rs) ws w u = stands_from x (suc n) rs ws w u
stands_from x n (Forgotten ∷ rs) ws w u = stands_from x (suc n) rs ws w u
stands_from x n (Check run' epoch' upto base ∷ rs) ws w u = stands_from x (suc n) rs ws w u

pub stands_more : (log more : List LogRecord) (x : TxId) → wrote_in more x ≡ false → undone_in more x ≡ false → has_standing (log ++ more) x ≡ has_standing log x
stands_more log more x w u = ap (λ ws. has_write ws x) (standing_append 0 log more []) ∙ stands_from x _ more (standing log) w u

-- ---- where the last one was undone

last_none : (n : ℕ) (so_far : Option ℕ) (test : LogRecord → Bool) (more : List LogRecord) → list_any test more ≡ false → last_place_from n so_far test more ≡ so_far
last_none n so_far test [] e = refl
last_none n so_far test (r ∷ rs) e =
    let p = or_parts (test r) (list_any test rs) e in
    last_none (suc n) (cond (test r) (Some n) so_far) test rs p.1 ∙ cond-false (test r) (Some n) so_far p.0

last_more : (n : ℕ) (so_far : Option ℕ) (test : LogRecord → Bool) (log more : List LogRecord) → list_any test more ≡ false → last_place_from n so_far test (log ++ more) ≡ last_place_from n so_far test log
last_more n so_far test [] more e = last_none n so_far test more e
last_more n so_far test (r ∷ rs) more e = last_more (suc n) (cond (test r) (Some n) so_far) test rs more e

pub rolled_more : (log more : List LogRecord) (x : TxId) → undone_in more x ≡ false → undone_lsn (log ++ more) x ≡ undone_lsn log x
rolled_more log more x u = last_more 0 None (is_undo_of x) log more u

-- ---- whose writes a going back undoes

falling_from : (n : ℕ) (rs : List LogRecord) (ws : List StandingUpdate) → Falls n ws → (m : ℕ) × Falls m (standing_from n rs ws)
falling_from n [] ws f = (n, f)
falling_from n (Update tx k b a ∷ rs) ws f = falling_from (suc n) rs (record { lsn = n; tx = tx; key = k; change = Sets b a } ∷ ws) (omega arith, f)
falling_from n (Add tx k by ∷ rs) ws f = falling_from (suc n) rs (record { lsn = n; tx = tx; key = k; change = Adds by } ∷ ws) (omega arith, f)
falling_from n (Clr tx next k a ∷ rs) ws f = falling_from (suc n) rs (without_newest tx ws) (falls_weaker n (suc n) (without_newest tx ws) (omega arith) (falls_without tx n ws f))
falling_from n (Unadd tx next k by ∷ rs) ws f = falling_from (suc n) rs (without_newest tx ws) (falls_weaker n (suc n) (without_newest tx ws) (omega arith) (falls_without tx n ws f))
falling_from n (Prepare tx home ps ∷ rs) ws f = falling_from (suc n) rs ws (falls_weaker n (suc n) ws (omega arith) f)
falling_from n (Commit tx parts ∷ rs) ws f = falling_from (suc n) rs ws (falls_weaker n (suc n) ws (omega arith) f)
falling_from n (Abort tx ∷ rs) ws f = falling_from (suc n) rs ws (falls_weaker n (suc n) ws (omega arith) f)
falling_from n (End tx ∷ rs) ws f = falling_from (suc n) rs ws (falls_weaker n (suc n) ws (omega arith) f)
falling_from n (Restart run epoch ∷ rs) ws f = falling_from (suc n) rs ws (falls_weaker n (suc n) ws (omega arith) f)
falling_from n (Forgotten ∷ rs) ws f = falling_from (suc n) rs ws (falls_weaker n (suc n) ws (omega arith) f)
falling_from n (Check run' epoch' upto base ∷ rs) ws f = falling_from (suc n) rs ws (falls_weaker n (suc n) ws (omega arith) f)

all_below : (n : ℕ) (ws : List StandingUpdate) → Falls n ws → AllByRecursion (λ w. w.lsn < n) ws
all_below n [] f = tt
all_below n (w ∷ ws) f = let below : w.lsn < n = f.0 in (f.0, all_mono _ _ (λ v l. omega (arith, below, l)) ws (all_below w.lsn ws f.1))

abbrev lsns_of : TxId → List StandingUpdate → List ℕ
lsns_of tx ws = map (λ w. w.lsn) (filter (λ w. tx_same tx w.tx) ws)

in_taken : (k n : ℕ) (ns : List ℕ) → nat_in k (take n ns) ≡ true → nat_in k ns ≡ true
in_taken k zero ns e = absurd (both_ways false refl e)
in_taken k (suc n) [] e = absurd (both_ways false refl e)
in_taken k (suc n) (x ∷ xs) e = ⊎_elim (λ h. ap (λ c. c || nat_in k xs) h) (λ h. more (k == x) (in_taken k n xs h)) (or_cases (k == x) (nat_in k (take n xs)) e)
  where
    more : (b : Bool) → nat_in k xs ≡ true → (b || nat_in k xs) ≡ true
    more true i = refl
    more false i = i

-- those of its own in writes, where the newest is or isn't of them
abbrev with_own : Bool → StandingUpdate → TxId → List StandingUpdate → List ℕ
with_own b w tx ws = map (λ v. v.lsn) (cond b (w ∷ filter (λ v. tx_same tx v.tx) ws) (filter (λ v. tx_same tx v.tx) ws))

not_above : (k n : ℕ) (tx : TxId) (ws : List StandingUpdate) → Falls n ws → n ≤ k → nat_in k (lsns_of tx ws) ≡ false
not_above k n tx [] f l = refl
not_above k n tx (w ∷ ws) f l = let below : w.lsn < n = f.0 in at below (tx_same tx w.tx) (not_above k w.lsn tx ws f.1 (omega (arith, below, l)))
  where
    at : w.lsn < n → (b : Bool) → nat_in k (lsns_of tx ws) ≡ false → nat_in k (with_own b w tx ws) ≡ false
    at below true e = ap (λ c. c || nat_in k (lsns_of tx ws)) (false_from_ne_true _ (λ s. let q = eqb-true k w.lsn s in absurd (omega (arith, below, l, q)))) ∙ e
    at below false e = e

own_lsns : (n : ℕ) (tx : TxId) (ws : List StandingUpdate) → Falls n ws → AllByRecursion (λ v. nat_in v.lsn (lsns_of tx ws) ≡ true → tx_same tx v.tx ≡ true) ws
own_lsns n tx [] f = tt
own_lsns n tx (w ∷ ws) f = (head (tx_same tx w.tx) refl, all_mono _ _ (λ v p. later v p.0 p.1 (tx_same tx w.tx)) ws (all_both _ _ ws (all_below w.lsn ws f.1) (own_lsns w.lsn tx ws f.1)))
  where
    head : (b : Bool) → tx_same tx w.tx ≡ b → nat_in w.lsn (with_own b w tx ws) ≡ true → b ≡ true
    head true s e = refl
    head false s e = absurd (both_ways _ (not_above w.lsn w.lsn tx ws f.1 (omega arith)) e)

    later : (v : StandingUpdate) → v.lsn < w.lsn → (nat_in v.lsn (lsns_of tx ws) ≡ true → tx_same tx v.tx ≡ true) → (b : Bool) → nat_in v.lsn (with_own b w tx ws) ≡ true → tx_same tx v.tx ≡ true
    later v l own true e = ⊎_elim (λ s. let q = eqb-true v.lsn w.lsn s in absurd (omega (arith, l, q))) (λ h. own h) (or_cases (v.lsn == w.lsn) (nat_in v.lsn (lsns_of tx ws)) e)
    later v l own false e = own e

pub own_newest : (k : ℕ) (tx : TxId) (log : List LogRecord) → AllByRecursion (λ w. is_at (newest_lsns k tx (standing log)) w ≡ true → tx_same tx w.tx ≡ true) (standing log)
own_newest k tx log =
    let f = falling_from 0 log [] tt in
    all_mono _ _ (λ w own e. own (in_taken w.lsn k (lsns_of tx (standing log)) e)) (standing log) (own_lsns f.0 tx (standing log) f.1)
