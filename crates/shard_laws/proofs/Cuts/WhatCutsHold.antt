-- What a cut of the log holds: the COMMITs below it, and the writes of those that it commits.
use Rattle.std.proofs.Common.{◌≡◌, ℕ, zero, suc, ◌+◌, ◌≤◌, ◌<◌, Bool, true, false, cond, ◌||◌, List, [], ◌∷◌, ◌++◌, length, Option, Some, ◌==◌, refl, sym, ap, subst, ◌∙◌, eqb-true, arith, append_assoc}
use Rattle.std.specs.List.{filter, list_any}
use Rattle.std.proofs.lemmas.Bool.{both_ways, cond-false, false_from_ne_true}
use Rattle.clv_base.specs.declared.names.TxId.{TxId}
use Rattle.clv_base.specs.declared.logs.LogRecord.{LogRecord}
use Rattle.clv_base.specs.declared.logs.LogRecord.TheVariants.{Update, Clr, Prepare, Commit, Abort, End, Restart, Add, Unadd, Forgotten, Check}
use Rattle.clv_base.specs.Orders.{tx_same}
use Rattle.clv_base.specs.Maps.{KeyMap, map_get, with_pairs}
use Rattle.clv_base.specs.Logs.{StandingUpdate, standing, standing_from, committed_in, is_commit_of, base_of, fold_at}
use Rattle.clv_base.proofs.SameNames.{tx_true}
use Rattle.law_base.proofs.Lists.{all_of}
use Rattle.law_base.proofs.Running.{top_value, fold_same}
use Rattle.law_base.proofs.Standing.{standing_append}
use Rattle.law_base.proofs.Commits.{CommitBefore, commit_durable, durable_parts, committed_keeps}
pub use Rattle.shard_laws.proofs.Keeping.WhatOneShardKeeps.{of_kept}
use Rattle.shard_laws.proofs.Keeping.WhatOneShardKeeps.{View, Past, Kept}
use Rattle.protocol_laws.specs.Order.{moves, Open_at, Tidy}
use Rattle.std.proofs.Common.{append-nil}
use Rattle.std.specs.Prelude.{take, drop}
use Rattle.std.proofs.lemmas.List.{take-append-drop}
use Rattle.clv_base.specs.Logs.{place_from, changed, with_change, fold_writes, fold_updates, standing_after, without_newest}
use Rattle.clv_base.proofs.Folding.{get_set}
use Rattle.law_base.proofs.Bases.{get_pairs}

-- ---- COMMITs below the cut

pub taken_there : (n c : ℕ) (test : LogRecord → Bool) (xs : List LogRecord) (k : ℕ) → place_from n test xs ≡ Some k → k < n + c → list_any test (take c xs) ≡ true
taken_there n c test [] k e l = absurd cc
taken_there n zero test (x ∷ xs) k e l = absurd (below n k test (x ∷ xs) e (omega arith))
  where
    at_least : (n k : ℕ) (test : LogRecord → Bool) (b : Bool) (o : Option ℕ) → cond b (Some n) o ≡ Some k → (o ≡ Some k → n < k) → n ≤ k
    at_least n k test true o e ih = let s : n ≡ k = cc in omega arith
    at_least n k test false o e ih = let l = ih e in omega arith

    above : (n k : ℕ) (test : LogRecord → Bool) (ys : List LogRecord) → place_from n test ys ≡ Some k → n ≤ k
    above n k test [] e = absurd cc
    above n k test (y ∷ ys) e = at_least n k test (test y) (place_from (suc n) test ys) e (λ f. let l = above (suc n) k test ys f in omega arith)

    below : (n k : ℕ) (test : LogRecord → Bool) (ys : List LogRecord) → place_from n test ys ≡ Some k → k < n → ⊥
    below n k test ys e l = let m = above n k test ys e in omega arith
taken_there n (suc c) test (x ∷ xs) k e l = at (test x) e (taken_there (suc n) c test xs k)
  where
    at : (b : Bool) → cond b (Some n) (place_from (suc n) test xs) ≡ Some k → (place_from (suc n) test xs ≡ Some k → k < suc n + c → list_any test (take c xs) ≡ true) → (b || list_any test (take c xs)) ≡ true
    at true e ih = refl
    at false e ih = ih e (omega arith)

pub taken_place : (n c : ℕ) (test : LogRecord → Bool) (xs : List LogRecord) (k : ℕ) → list_any test (take c xs) ≡ true → place_from n test xs ≡ Some k → k < n + c
taken_place n zero test [] k e f = absurd (both_ways false refl e)
taken_place n (suc c) test [] k e f = absurd (both_ways false refl e)
taken_place n zero test (x ∷ xs) k e f = absurd (both_ways false refl e)
taken_place n (suc c) test (x ∷ xs) k e f = at (test x) e f (taken_place (suc n) c test xs k)
  where
    at : (b : Bool) → (b || list_any test (take c xs)) ≡ true → cond b (Some n) (place_from (suc n) test xs) ≡ Some k → (list_any test (take c xs) ≡ true → place_from (suc n) test xs ≡ Some k → k < suc n + c) → k < n + suc c
    at true e f ih = let s : n ≡ k = cc in omega arith
    at false e f ih = let l = ih e f in omega arith

pub cut_keeps : (c : ℕ) (log : List LogRecord) (t : TxId) → committed_in (take c log) t ≡ true → committed_in log t ≡ true
cut_keeps c log t e = subst (λ l. committed_in l t ≡ true) (take-append-drop c log) (committed_keeps (take c log) (drop c log) t e)

-- what is durable is below the cut
pub durable_cut : (d c : ℕ) (log : List LogRecord) (t : TxId) → d ≤ c → commit_durable log d t ≡ true → committed_in (take c log) t ≡ true
durable_cut d c log t le h = let m = durable_parts log d t h in let l = m.2 in taken_there 0 c (is_commit_of t) log m.0 m.1 (omega arith)

-- and what stands before a COMMIT below it
pub before_cut : (c : ℕ) (log : List LogRecord) (p t : TxId) → CommitBefore log p t → committed_in (take c log) t ≡ true → committed_in (take c log) p ≡ true
before_cut c log p t (n, m, e, f, l) h = let k = taken_place 0 c (is_commit_of t) log m h f in taken_there 0 c (is_commit_of p) log n e (omega arith)

-- ---- the writes of those that are kept

without_case : (keep : TxId → Bool) (t : TxId) (w : StandingUpdate) (ws : List StandingUpdate) (b : Bool) → tx_same t w.tx ≡ b → keep t ≡ false → filter (of_kept keep) (without_newest t ws) ≡ filter (of_kept keep) ws → filter (of_kept keep) (cond b ws (w ∷ without_newest t ws)) ≡ filter (of_kept keep) (w ∷ ws)
without_case keep t w ws true e out ih = sym (cond-false (keep w.tx) (w ∷ filter (of_kept keep) ws) (filter (of_kept keep) ws) (subst (λ z. keep z ≡ false) (tx_true t w.tx e) out))
without_case keep t w ws false e out ih = ap (λ l. cond (keep w.tx) (w ∷ l) l) ih

pub without_other : (keep : TxId → Bool) (t : TxId) (ws : List StandingUpdate) → keep t ≡ false → filter (of_kept keep) (without_newest t ws) ≡ filter (of_kept keep) ws
without_other keep t [] out = refl
without_other keep t (w ∷ ws) out = without_case keep t w ws (tx_same t w.tx) refl out (without_other keep t ws out)

-- a write of one that passes changes the map as it changes the fold
top_filter : (floor : KeyMap) (keep : TxId → Bool) (k : ℕ) (w : StandingUpdate) (ws : List StandingUpdate) (m : KeyMap) → map_get k m ≡ top_value floor k (filter (of_kept keep) ws) → (map_get w.key m ≡ top_value floor w.key (filter (of_kept keep) ws))
    → map_get k (cond (keep w.tx) (with_change w.key w.change m) m) ≡ top_value floor k (filter (of_kept keep) (w ∷ ws))
top_filter floor keep k w ws m e own = at (keep w.tx)
  where
    here : (b : Bool) → (k == w.key) ≡ b
        → cond b (changed w.change (map_get w.key m)) (map_get k m) ≡ cond b (changed w.change (top_value floor k (filter (of_kept keep) ws))) (top_value floor k (filter (of_kept keep) ws))
    here true q = ap (changed w.change) (own ∙ ap (λ j. top_value floor j (filter (of_kept keep) ws)) (sym (eqb-true k w.key q)))
    here false q = e

    at : (b : Bool) → map_get k (cond b (with_change w.key w.change m) m) ≡ top_value floor k (cond b (w ∷ filter (of_kept keep) ws) (filter (of_kept keep) ws))
    at true = get_set k w.key (changed w.change (map_get w.key m)) m ∙ here (k == w.key) refl
    at false = e

pub fold_values : (keep : TxId → Bool) (ws : List StandingUpdate) (m : KeyMap) (k : ℕ) → map_get k (fold_writes keep ws m) ≡ top_value m k (filter (of_kept keep) ws)
fold_values keep [] m k = refl
fold_values keep (w ∷ ws) m k = top_filter m keep k w ws (fold_writes keep ws m) (fold_values keep ws m k) (fold_values keep ws m w.key)

-- the values that the writes of those that pass leave of what the log begins with
pub updates_values : (keep : TxId → Bool) (log : List LogRecord) (k : ℕ) → map_get k (fold_updates keep log []) ≡ top_value (base_of log) k (filter (of_kept keep) (standing log))
updates_values keep log k =
    fold_values keep (standing log) (with_pairs (base_of log) []) k
    ∙ ap (λ v. fold_at k v (filter (of_kept keep) (standing log))) (get_pairs (base_of log) k)

pub fold_alike : (f k : TxId → Bool) (log : List LogRecord) (m : KeyMap) → ((t : TxId) → f t ≡ k t) → fold_updates f log m ≡ fold_updates k log m
fold_alike f k log m e = fold_same f k (standing log) (with_pairs (base_of log) m) (all_of _ (λ w. e w.tx) (standing log))

-- ---- no record after the cut moves one that the cut commits

pub tidy_later : (before xs ys : List LogRecord) → Tidy before (xs ++ ys) → Tidy (before ++ xs) ys
tidy_later before [] ys t = subst (λ l. Tidy l ys) (sym (append-nil before)) t
tidy_later before (x ∷ xs) ys t = subst (λ l. Tidy l ys) (append_assoc before (x ∷ []) xs) (tidy_later (before ++ x ∷ []) xs ys t.1)

pub earlier_open : (before more : List LogRecord) (t : TxId) → committed_in (before ++ more) t ≡ false → committed_in before t ≡ false
earlier_open before more t e = false_from_ne_true _ (λ h. both_ways _ e (committed_keeps before more t h))

-- records that move none of those that the first log commits leave their writes
pub same_after : (cut before rs : List LogRecord) (n : ℕ) (ws : List StandingUpdate) → ((t : TxId) → committed_in before t ≡ false → committed_in cut t ≡ false) → Tidy before rs → filter (of_kept (committed_in cut)) (standing_from n rs ws) ≡ filter (of_kept (committed_in cut)) ws
same_after cut before [] n ws h t = refl
same_after cut before (r ∷ rs) n ws h t =
    same_after cut (before ++ r ∷ []) rs (suc n) (standing_after n r ws) (λ u e. h u (earlier_open before (r ∷ []) u e)) t.1 ∙ one r t.0
  where
    one : (r : LogRecord) → Open_at before (moves r) → filter (of_kept (committed_in cut)) (standing_after n r ws) ≡ filter (of_kept (committed_in cut)) ws
    one (Update tx key b a) o = cond-false (committed_in cut tx) _ (filter (of_kept (committed_in cut)) ws) (h tx o)
    one (Clr tx undo_next key a) o = without_other (committed_in cut) tx ws (h tx o)
    one (Prepare tx home ps) o = refl
    one (Commit tx ps) o = refl
    one (Abort tx) o = refl
    one (End tx) o = refl
    one (Restart run epoch) o = refl
    one (Add tx key by) o = cond-false (committed_in cut tx) _ (filter (of_kept (committed_in cut)) ws) (h tx o)
    one (Unadd tx undo_next key by) o = without_other (committed_in cut) tx ws (h tx o)
    one Forgotten o = refl
    one (Check run' epoch' upto base) o = refl

pub standing_cut : (c : ℕ) (log : List LogRecord) → Tidy [] log → filter (of_kept (committed_in (take c log))) (standing log) ≡ filter (of_kept (committed_in (take c log))) (standing (take c log))
standing_cut c log t =
    let whole : take c log ++ drop c log ≡ log = take-append-drop c log in
    ap (λ l. filter (of_kept (committed_in (take c log))) (standing l)) (sym whole)
    ∙ ap (filter (of_kept (committed_in (take c log)))) (standing_append 0 (take c log) (drop c log) [])
    ∙ same_after (take c log) (take c log) (drop c log) (0 + length (take c log)) (standing (take c log)) (λ u e. e) (tidy_later [] (take c log) (drop c log) (subst (Tidy []) (sym whole) t))

-- the map that the cut stands for, key by key
pub cut_values : (g : Past) (v : View) (c k : ℕ) → Kept g v → v.durable ≤ c
    → map_get k (fold_updates (committed_in (take c v.log)) (take c v.log) []) ≡ top_value g.floor k (filter (of_kept (committed_in (take c v.log))) (standing v.log))
cut_values g v c k h le =
    updates_values (committed_in (take c v.log)) (take c v.log) k
    ∙ ap (λ base. top_value base k (filter (of_kept (committed_in (take c v.log))) (standing (take c v.log)))) (h.floor_done c le)
    ∙ ap (top_value g.floor k) (sym (standing_cut c v.log h.tidy))
