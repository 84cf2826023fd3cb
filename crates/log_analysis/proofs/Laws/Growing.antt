-- What one more record at the end of a log says of a transaction.
use Rattle.std.proofs.Common.{◌≡◌, ℕ, suc, ◌+◌, ◌-◌, Bool, true, false, cond, ◌||◌, List, [], ◌∷◌, ◌++◌, length, nat_lt, Option, Some, None, refl, sym, ap, ◌∙◌, arith}
use Rattle.std.proofs.lemmas.Bool.{both_ways, false_from_ne_true}
use Rattle.std.proofs.lemmas.Bool.Decides.{nat_tests}
use Rattle.std.specs.List.{list_any, filter}
use Rattle.clv_base.specs.declared.names.TxId.{TxId}
use Rattle.clv_base.specs.declared.logs.LogRecord.{LogRecord}
use Rattle.clv_base.specs.declared.logs.LogRecord.TheVariants.{Update, Clr, Prepare, Commit, Abort, End, Restart, Add, Unadd, Forgotten, Check}
use Rattle.clv_base.specs.declared.changes.Change.TheVariants.{Sets, Adds}
use Rattle.clv_base.specs.Orders.{Table, tx_same}
use Rattle.clv_base.specs.Logs.{StandingUpdate, is_update_of, is_undo_of, is_prepare_of, is_commit_of, is_abort_of, is_end_of, is_record_of, place_from, standing, standing_after, without_newest}
use Rattle.clv_base.proofs.SameNames.{tx_true}
use Rattle.law_base.proofs.Standing.{count_writes, counts_some, counts_without, counts_other, has_write, has_without, standing_push}
use Rattle.log_analysis.specs.Facts.{TxFacts, first_place, standing_count, facts_of, facts_with, known, Knows}

-- ---- of a list with one more at its end

pub any_push : (test : LogRecord → Bool) (log : List LogRecord) (r : LogRecord) → list_any test (log ++ r ∷ []) ≡ cond (test r) true (list_any test log)
any_push test [] r = any_one (test r)
  where
    any_one : (b : Bool) → b || false ≡ cond b true false
    any_one true = refl
    any_one false = refl
any_push test (h ∷ log) r = ap (λ b. test h || b) (any_push test log r) ∙ raised (test h) (test r) (list_any test log)
  where
    raised : (a b c : Bool) → a || cond b true c ≡ cond b true (a || c)
    raised true true c = refl
    raised true false c = refl
    raised false b c = refl

place_raised : (n : ℕ) (here there : Bool) (m : ℕ) (o : Option ℕ) → cond here (Some n) (cond there (first_place m o) o) ≡ cond there (first_place m (cond here (Some n) o)) (cond here (Some n) o)
place_raised n true true m o = refl
place_raised n true false m o = refl
place_raised n false there m o = refl

pub place_push : (n : ℕ) (test : LogRecord → Bool) (log : List LogRecord) (r : LogRecord) (m : ℕ) → m ≡ n + length log → place_from n test (log ++ r ∷ []) ≡ cond (test r) (first_place m (place_from n test log)) (place_from n test log)
place_push n test [] r m at = ap (λ k. cond (test r) (Some k) None) (let e : n ≡ m = omega arith in e)
place_push n test (h ∷ log) r m at =
    let rest : m ≡ suc n + length log = omega arith in
    ap (λ o. cond (test h) (Some n) o) (place_push (suc n) test log r m rest) ∙ place_raised n (test h) (test r) m (place_from (suc n) test log)

-- ---- how many writes stand

count_own : (t : TxId) (ws : List StandingUpdate) → count_writes t (without_newest t ws) ≡ count_writes t ws - 1
count_own t ws = at (has_write ws t) refl
  where
    none_but_none : (n : ℕ) → nat_lt 0 n ≡ false → n ≡ 0
    none_but_none n e = grind (arith, nat_tests)

    at : (b : Bool) → has_write ws t ≡ b → count_writes t (without_newest t ws) ≡ count_writes t ws - 1
    at true e = let one = counts_without t ws e in omega arith
    at false e = let none : count_writes t ws ≡ 0 = none_but_none (count_writes t ws) (sym (counts_some t ws) ∙ e) in
        let still : count_writes t (without_newest t ws) ≡ 0 = none_but_none (count_writes t (without_newest t ws)) (sym (counts_some t (without_newest t ws)) ∙ false_from_ne_true _ (λ s. both_ways _ e (has_without t t ws s))) in
        omega arith

count_undone : (t tx : TxId) (ws : List StandingUpdate) → count_writes t (without_newest tx ws) ≡ cond (tx_same t tx) (count_writes t ws - 1) (count_writes t ws)
count_undone t tx ws = at (tx_same t tx) refl
  where
    at : (b : Bool) → tx_same t tx ≡ b → count_writes t (without_newest tx ws) ≡ cond b (count_writes t ws - 1) (count_writes t ws)
    at true e = ap (λ u. count_writes t (without_newest u ws)) (sym (tx_true t tx e)) ∙ count_own t ws
    at false e = counts_other t tx ws e

count_written : (t : TxId) (w : StandingUpdate) (ws : List StandingUpdate) → count_writes t (w ∷ ws) ≡ cond (tx_same t w.tx) (count_writes t ws + 1) (count_writes t ws)
count_written t w ws = at (tx_same t w.tx)
  where
    at : (b : Bool) → length (cond b (w ∷ filter (λ v. tx_same t v.tx) ws) (filter (λ v. tx_same t v.tx) ws)) ≡ cond b (count_writes t ws + 1) (count_writes t ws)
    at true = omega arith
    at false = refl

count_after : (n : ℕ) (r : LogRecord) (t : TxId) (ws : List StandingUpdate)
    → count_writes t (standing_after n r ws) ≡ cond (is_update_of t r) (count_writes t ws + 1) (cond (is_undo_of t r) (count_writes t ws - 1) (count_writes t ws))
count_after n (Update tx key before after) t ws = count_written t (record { lsn = n; tx = tx; key = key; change = Sets before after }) ws
count_after n (Clr tx undo_next key after) t ws = count_undone t tx ws
count_after n (Prepare tx home predecessors) t ws = refl
count_after n (Commit tx parts) t ws = refl
count_after n (Abort tx) t ws = refl
count_after n (End tx) t ws = refl
count_after n (Restart run epoch) t ws = refl
count_after n (Add tx key by) t ws = count_written t (record { lsn = n; tx = tx; key = key; change = Adds by }) ws
count_after n (Unadd tx undo_next key by) t ws = count_undone t tx ws
count_after n Forgotten t ws = refl
count_after n (Check run' epoch' upto base) t ws = refl

pub count_push : (log : List LogRecord) (r : LogRecord) (t : TxId)
    → standing_count (log ++ r ∷ []) t ≡ cond (is_update_of t r) (standing_count log t + 1) (cond (is_undo_of t r) (standing_count log t - 1) (standing_count log t))
count_push log r t = ap (count_writes t) (standing_push log r) ∙ count_after (length log) r t (standing log)

-- ---- all that a log says

module _ (log : List LogRecord) (r : LogRecord) (t : TxId) where
  at_end : length log ≡ 0 + length log
  at_end = omega arith

  pushed : facts_of (log ++ r ∷ []) t
      ≡ (record {
        first_update = cond (is_update_of t r) (first_place (length log) (facts_of log t).first_update) (facts_of log t).first_update;
        standing = cond (is_update_of t r) ((facts_of log t).standing + 1) (cond (is_undo_of t r) ((facts_of log t).standing - 1) (facts_of log t).standing);
        prepare = cond (is_prepare_of t r) (first_place (length log) (facts_of log t).prepare) (facts_of log t).prepare;
        commit = cond (is_commit_of t r) (first_place (length log) (facts_of log t).commit) (facts_of log t).commit;
        is_aborted = cond (is_abort_of t r) true (facts_of log t).is_aborted;
        is_ended = cond (is_end_of t r) true (facts_of log t).is_ended;
      })
  pushed =
      rw (
        place_push 0 (is_update_of t) log r (length log) at_end,
        count_push log r t,
        place_push 0 (is_prepare_of t) log r (length log) at_end,
        place_push 0 (is_commit_of t) log r (length log) at_end,
        any_push (is_abort_of t) log r,
        any_push (is_end_of t) log r,
      )
      refl

by_kind : (n : ℕ) (r : LogRecord) (t : TxId) (f : TxFacts) → (record {
  first_update = cond (is_update_of t r) (first_place n f.first_update) f.first_update;
  standing = cond (is_update_of t r) (f.standing + 1) (cond (is_undo_of t r) (f.standing - 1) f.standing);
  prepare = cond (is_prepare_of t r) (first_place n f.prepare) f.prepare;
  commit = cond (is_commit_of t r) (first_place n f.commit) f.commit;
  is_aborted = cond (is_abort_of t r) true f.is_aborted;
  is_ended = cond (is_end_of t r) true f.is_ended;
}) ≡ cond (is_record_of t r) (facts_with n r f) f
by_kind n (Update tx key before after) t f = elim (tx_same t tx) as (λ b. ◌≡◌ {A = TxFacts} (record f { first_update = cond b (first_place n f.first_update) f.first_update; standing = cond b (f.standing + 1) f.standing }) (cond b (facts_with n (Update tx key before after) f) f)) [ true ↦ refl | false ↦ refl ]
by_kind n (Clr tx undo_next key after) t f = elim (tx_same t tx) as (λ b. ◌≡◌ {A = TxFacts} (record f { standing = cond b (f.standing - 1) f.standing }) (cond b (facts_with n (Clr tx undo_next key after) f) f)) [ true ↦ refl | false ↦ refl ]
by_kind n (Prepare tx home predecessors) t f = elim (tx_same t tx) as (λ b. ◌≡◌ {A = TxFacts} (record f { prepare = cond b (first_place n f.prepare) f.prepare }) (cond b (facts_with n (Prepare tx home predecessors) f) f)) [ true ↦ refl | false ↦ refl ]
by_kind n (Commit tx parts) t f = elim (tx_same t tx) as (λ b. ◌≡◌ {A = TxFacts} (record f { commit = cond b (first_place n f.commit) f.commit }) (cond b (facts_with n (Commit tx parts) f) f)) [ true ↦ refl | false ↦ refl ]
by_kind n (Abort tx) t f = elim (tx_same t tx) as (λ b. ◌≡◌ {A = TxFacts} (record f { is_aborted = cond b true f.is_aborted }) (cond b (facts_with n (Abort tx) f) f)) [ true ↦ refl | false ↦ refl ]
by_kind n (End tx) t f = elim (tx_same t tx) as (λ b. ◌≡◌ {A = TxFacts} (record f { is_ended = cond b true f.is_ended }) (cond b (facts_with n (End tx) f) f)) [ true ↦ refl | false ↦ refl ]
by_kind n (Restart run epoch) t f = refl
by_kind n (Add tx key by) t f = elim (tx_same t tx) as (λ b. ◌≡◌ {A = TxFacts} (record f { first_update = cond b (first_place n f.first_update) f.first_update; standing = cond b (f.standing + 1) f.standing }) (cond b (facts_with n (Add tx key by) f) f)) [ true ↦ refl | false ↦ refl ]
by_kind n (Unadd tx undo_next key by) t f = elim (tx_same t tx) as (λ b. ◌≡◌ {A = TxFacts} (record f { standing = cond b (f.standing - 1) f.standing }) (cond b (facts_with n (Unadd tx undo_next key by) f) f)) [ true ↦ refl | false ↦ refl ]
by_kind n Forgotten t f = refl
by_kind n (Check run' epoch' upto base) t f = refl

pub facts_push : (log : List LogRecord) (r : LogRecord) (t : TxId) → facts_of (log ++ r ∷ []) t ≡ cond (is_record_of t r) (facts_with (length log) r (facts_of log t)) (facts_of log t)
facts_push log r t = pushed log r t ∙ by_kind (length log) r t (facts_of log t)

-- a table grows with its log
pub knows_push : (m w : Table TxFacts) (log : List LogRecord) (n : ℕ) (r : LogRecord) → ((t : TxId) → known w t ≡ cond (is_record_of t r) (facts_with n r (known m t)) (known m t)) → length log ≡ n → Knows m log → Knows w (log ++ r ∷ [])
knows_push m w log n r set at knows t =
    set t ∙ ap (λ k. cond (is_record_of t r) (facts_with k r (known m t)) (known m t)) (sym at) ∙ ap (λ f. cond (is_record_of t r) (facts_with (length log) r f) f) (knows t) ∙ sym (facts_push log r t)
