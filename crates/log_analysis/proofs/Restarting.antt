-- The records of a restart change neither who is in doubt nor what is coordinated again.
use Rattle.std.proofs.Common.{◌≡◌, ℕ, Bool, true, false, cond, not, ◌&&◌, ◌||◌, ◌==◌, List, [], ◌∷◌, ◌++◌, map, Option, Some, None, ⊎_elim, refl, sym, ap, ◌∙◌}
use Rattle.std.specs.List.{filter, list_any, list_all}
use Rattle.std.proofs.lemmas.Bool.{cases_Bool, both_ways, or_cases}
use Rattle.std.proofs.lemmas.List.Folds.{list_any-append, list_all-append}
use Rattle.clv_base.specs.declared.names.TxId.{TxId}
use Rattle.clv_base.specs.declared.logs.LogRecord.{LogRecord}
use Rattle.clv_base.specs.declared.logs.LogRecord.TheVariants.{Update, Clr, Prepare, Commit, Abort, End, Restart, Add, Unadd, Forgotten, Check}
use Rattle.clv_base.specs.Orders.{Table, tx_same, tx_in, tx_insert, tx_put}
use Rattle.clv_base.specs.declared.changes.Change.{Change}
use Rattle.clv_base.specs.declared.changes.Change.TheVariants.{Sets, Adds}
use Rattle.clv_base.specs.Logs.{StandingUpdate, is_commit_of, is_abort_of, is_end_of, committed_in, aborted_in, ended_in, prepare_of, doubt_by, in_doubt_from, in_doubt, is_winner, writers, standing}
use Rattle.clv_base.specs.Undo.{clrs_of, compensation, newest_lsn}
use Rattle.clv_base.specs.Restarts.{losers, restart_records, log_after_restart, home_by, homes_of, pairs_of_listed, restored_pairs, unended_with, unended_in}
use Rattle.clv_base.proofs.SameNames.{tx_true, insert_keeps, insert_has}
use Rattle.log_analysis.proofs.Laws.Bools.{and_first, and_second, and_both, all_same}
use Rattle.law_base.proofs.Names.{in_flipped}
use Rattle.log_analysis.proofs.Doubted.{filter_same}
use Rattle.log_analysis.specs.Restarting.{KeepsDoubt, KeepsHomes, KeepsPairs, KeepsUnended}
use Rattle.law_base.proofs.Bools.{by_bool as both, not_true, or_false}

-- of a restart's kinds
abbrev is_restarts : LogRecord → Bool
is_restarts (Update tx key before after) = false
is_restarts (Clr tx undo_next key after) = true
is_restarts (Prepare tx home predecessors) = false
is_restarts (Commit tx parts) = false
is_restarts (Abort tx) = true
is_restarts (End tx) = false
is_restarts (Restart run epoch) = true
is_restarts (Add tx key by) = false
is_restarts (Unadd tx undo_next key by) = true
is_restarts Forgotten = false
is_restarts (Check run' epoch' upto base) = false

abbrev AreRestarts : List LogRecord → Type 0
AreRestarts rest = list_all is_restarts rest ≡ true

none_passes : (test : LogRecord → Bool) → ((r : LogRecord) → is_restarts r ≡ true → test r ≡ false) → (rest : List LogRecord) → AreRestarts rest → list_any test rest ≡ false
none_passes test fails [] kinds = refl
none_passes test fails (r ∷ rs) kinds =
    ap (λ b. b || list_any test rs) (fails r (and_first (is_restarts r) (list_all is_restarts rs) kinds)) ∙ none_passes test fails rs (and_second (is_restarts r) (list_all is_restarts rs) kinds)

no_commit : (t : TxId) (r : LogRecord) → is_restarts r ≡ true → is_commit_of t r ≡ false
no_commit t (Commit tx parts) kind = absurd cc
no_commit t (Update tx key before after) kind = refl
no_commit t (Clr tx undo_next key after) kind = refl
no_commit t (Prepare tx home predecessors) kind = refl
no_commit t (Abort tx) kind = refl
no_commit t (End tx) kind = refl
no_commit t (Restart run epoch) kind = refl
no_commit t (Add tx key by) kind = refl
no_commit t (Unadd tx undo_next key by) kind = refl
no_commit t Forgotten kind = refl
no_commit t (Check run' epoch' upto base) kind = refl

no_end : (t : TxId) (r : LogRecord) → is_restarts r ≡ true → is_end_of t r ≡ false
no_end t (End tx) kind = absurd cc
no_end t (Update tx key before after) kind = refl
no_end t (Clr tx undo_next key after) kind = refl
no_end t (Prepare tx home predecessors) kind = refl
no_end t (Commit tx parts) kind = refl
no_end t (Abort tx) kind = refl
no_end t (Restart run epoch) kind = refl
no_end t (Add tx key by) kind = refl
no_end t (Unadd tx undo_next key by) kind = refl
no_end t Forgotten kind = refl
no_end t (Check run' epoch' upto base) kind = refl

-- ---- behind a log

module _ (log rest : List LogRecord) (kinds : AreRestarts rest) where
  committed_same : (t : TxId) → committed_in (log ++ rest) t ≡ committed_in log t
  committed_same t = list_any-append (is_commit_of t) log rest ∙ ap (λ b. committed_in log t || b) (none_passes (is_commit_of t) (no_commit t) rest kinds) ∙ or_false (committed_in log t)

  ended_same : (t : TxId) → ended_in (log ++ rest) t ≡ ended_in log t
  ended_same t = list_any-append (is_end_of t) log rest ∙ ap (λ b. ended_in log t || b) (none_passes (is_end_of t) (no_end t) rest kinds) ∙ or_false (ended_in log t)

prepare_none : (rest : List LogRecord) (t : TxId) → AreRestarts rest → prepare_of rest t ≡ None
prepare_none [] t kinds = refl
prepare_none (Prepare tx home predecessors ∷ rs) t kinds = absurd cc
prepare_none (Update tx key before after ∷ rs) t kinds = absurd cc
prepare_none (Commit tx parts ∷ rs) t kinds = absurd cc
prepare_none (End tx ∷ rs) t kinds = absurd cc
prepare_none (Add tx key by ∷ rs) t kinds = absurd cc
prepare_none (Forgotten ∷ rs) t kinds = absurd cc
prepare_none (Check run' epoch' upto base ∷ rs) t kinds = absurd cc
prepare_none (_ ∷ rs) t kinds = prepare_none rs t kinds

prepare_same : (log rest : List LogRecord) (t : TxId) → AreRestarts rest → prepare_of (log ++ rest) t ≡ prepare_of log t
prepare_same [] rest t kinds = prepare_none rest t kinds
prepare_same (Prepare tx home predecessors ∷ rs) rest t kinds = ap (cond (tx_same t tx) (Some (home, predecessors))) (prepare_same rs rest t kinds)
prepare_same (_ ∷ rs) rest t kinds = prepare_same rs rest t kinds

-- ---- COMMITs that are coordinated again

unended_none : (log rest : List LogRecord) → AreRestarts rest → unended_in log rest ≡ []
unended_none log [] kinds = refl
unended_none log (Prepare tx home predecessors ∷ rs) kinds = absurd cc
unended_none log (Update tx key before after ∷ rs) kinds = absurd cc
unended_none log (Commit tx parts ∷ rs) kinds = absurd cc
unended_none log (End tx ∷ rs) kinds = absurd cc
unended_none log (Add tx key by ∷ rs) kinds = absurd cc
unended_none log (Forgotten ∷ rs) kinds = absurd cc
unended_none log (Check run' epoch' upto base ∷ rs) kinds = absurd cc
unended_none log (_ ∷ rs) kinds = unended_none log rs kinds

unended_before : (log rs rest : List LogRecord) → AreRestarts rest → unended_in log (rs ++ rest) ≡ unended_in log rs
unended_before log [] rest kinds = unended_none log rest kinds
unended_before log (Commit tx parts ∷ rs) rest kinds = ap (unended_with log tx parts) (unended_before log rs rest kinds)
unended_before log (_ ∷ rs) rest kinds = unended_before log rs rest kinds

unended_with_same : (long short : List LogRecord) → ((t : TxId) → ended_in long t ≡ ended_in short t) → (tx : TxId) (parts : List ℕ) (rest : Table (List ℕ)) → unended_with long tx parts rest ≡ unended_with short tx parts rest
unended_with_same long short same tx [] rest = refl
unended_with_same long short same tx (p ∷ ps) rest = ap (λ b. cond b rest (tx_put tx (p ∷ ps) rest)) (same tx)

unended_by_same : (long short : List LogRecord) → ((t : TxId) → ended_in long t ≡ ended_in short t) → (rs : List LogRecord) → unended_in long rs ≡ unended_in short rs
unended_by_same long short same [] = refl
unended_by_same long short same (Commit tx parts ∷ rs) = ap (unended_with long tx parts) (unended_by_same long short same rs) ∙ unended_with_same long short same tx parts (unended_in short rs)
unended_by_same long short same (_ ∷ rs) = unended_by_same long short same rs

-- ---- who is in doubt

abbrev Spared : List LogRecord → List TxId → Type 0
Spared rest txs = (t : TxId) → tx_in t txs ≡ true → aborted_in rest t ≡ false

module _ (shard : ℕ) (log rest : List LogRecord) (kinds : AreRestarts rest) where
  doubt_case : (home c a g all : Bool) → not home && not c && not (a || g) && all ≡ (not home && not c && not a && all) && not g
  doubt_case true c a g all = refl
  doubt_case false true a g all = refl
  doubt_case false false true g all = refl
  doubt_case false false false true true = refl
  doubt_case false false false true false = refl
  doubt_case false false false false true = refl
  doubt_case false false false false false = refl

  doubt_longer : (tx : TxId) (home : ℕ) (ps so_far : List TxId) → doubt_by (log ++ rest) shard tx home ps so_far ≡ doubt_by log shard tx home ps so_far && not (aborted_in rest tx)
  doubt_longer tx home ps so_far =
      ap (λ c. not (shard == home) && not c && not (aborted_in (log ++ rest) tx) && list_all (λ p. committed_in (log ++ rest) p || tx_in p so_far) ps) (committed_same log rest kinds tx)
      ∙ ap (λ a. not (shard == home) && not (committed_in log tx) && not a && list_all (λ p. committed_in (log ++ rest) p || tx_in p so_far) ps) (list_any-append (is_abort_of tx) log rest)
      ∙ ap (λ b. not (shard == home) && not (committed_in log tx) && not (aborted_in log tx || aborted_in rest tx) && b)
      (all_same (λ p. committed_in (log ++ rest) p || tx_in p so_far) (λ p. committed_in log p || tx_in p so_far) (λ p. ap (λ b. b || tx_in p so_far) (committed_same log rest kinds p)) ps)
      ∙ doubt_case (shard == home) (committed_in log tx) (aborted_in log tx) (aborted_in rest tx) (list_all (λ p. committed_in log p || tx_in p so_far) ps)

  stays : (rs : List LogRecord) (so_far : List TxId) (u : TxId) → tx_in u so_far ≡ true → tx_in u (in_doubt_from log shard rs so_far) ≡ true
  stays [] so_far u e = e
  stays (Prepare tx home ps ∷ rs) so_far u e =
      stays rs (cond (doubt_by log shard tx home ps so_far) (tx_insert tx so_far) so_far) u
      (both (λ b. tx_in u (cond b (tx_insert tx so_far) so_far) ≡ true) (doubt_by log shard tx home ps so_far) (λ _. insert_keeps tx u so_far e) (λ _. e))
  stays (_ ∷ rs) so_far u e = stays rs so_far u e

  doubted_same : (rs : List LogRecord) (so_far : List TxId) → Spared rest (in_doubt_from log shard rs so_far) → in_doubt_from (log ++ rest) shard rs so_far ≡ in_doubt_from log shard rs so_far
  doubted_same [] so_far spared = refl
  doubted_same (Prepare tx home ps ∷ rs) so_far spared =
      ap (λ b. in_doubt_from (log ++ rest) shard rs (cond b (tx_insert tx so_far) so_far)) (doubt_longer tx home ps so_far)
      ∙ both (λ b. Spared rest (in_doubt_from log shard rs (cond b (tx_insert tx so_far) so_far))
      → in_doubt_from (log ++ rest) shard rs (cond (b && not (aborted_in rest tx)) (tx_insert tx so_far) so_far) ≡ in_doubt_from log shard rs (cond b (tx_insert tx so_far) so_far))
      (doubt_by log shard tx home ps so_far)
      (λ _ s. ap (λ a. in_doubt_from (log ++ rest) shard rs (cond (not a) (tx_insert tx so_far) so_far)) (s tx (stays rs (tx_insert tx so_far) tx (insert_has tx so_far))) ∙ doubted_same rs (tx_insert tx so_far) s)
      (λ _ s. doubted_same rs so_far s) spared
  doubted_same (Update tx key before after ∷ rs) so_far spared = doubted_same rs so_far spared
  doubted_same (Clr tx undo_next key after ∷ rs) so_far spared = doubted_same rs so_far spared
  doubted_same (Commit tx parts ∷ rs) so_far spared = doubted_same rs so_far spared
  doubted_same (Abort tx ∷ rs) so_far spared = doubted_same rs so_far spared
  doubted_same (End tx ∷ rs) so_far spared = doubted_same rs so_far spared
  doubted_same (Restart run epoch ∷ rs) so_far spared = doubted_same rs so_far spared
  doubted_same (Add tx key by ∷ rs) so_far spared = doubted_same rs so_far spared
  doubted_same (Unadd tx undo_next key by ∷ rs) so_far spared = doubted_same rs so_far spared
  doubted_same (Forgotten ∷ rs) so_far spared = doubted_same rs so_far spared
  doubted_same (Check run' epoch' upto base ∷ rs) so_far spared = doubted_same rs so_far spared

-- a restart's own records doubt nobody
doubted_none : (log : List LogRecord) (shard : ℕ) (rest : List LogRecord) (so_far : List TxId) → AreRestarts rest → in_doubt_from log shard rest so_far ≡ so_far
doubted_none log shard [] so_far kinds = refl
doubted_none log shard (Prepare tx home predecessors ∷ rs) so_far kinds = absurd cc
doubted_none log shard (Update tx key before after ∷ rs) so_far kinds = absurd cc
doubted_none log shard (Commit tx parts ∷ rs) so_far kinds = absurd cc
doubted_none log shard (End tx ∷ rs) so_far kinds = absurd cc
doubted_none log shard (Add tx key by ∷ rs) so_far kinds = absurd cc
doubted_none log shard (Forgotten ∷ rs) so_far kinds = absurd cc
doubted_none log shard (Check run' epoch' upto base ∷ rs) so_far kinds = absurd cc
doubted_none log shard (_ ∷ rs) so_far kinds = doubted_none log shard rs so_far kinds

doubted_before : (log : List LogRecord) (shard : ℕ) (rs rest : List LogRecord) (so_far : List TxId) → AreRestarts rest → in_doubt_from log shard (rs ++ rest) so_far ≡ in_doubt_from log shard rs so_far
doubted_before log shard [] rest so_far kinds = doubted_none log shard rest so_far kinds
doubted_before log shard (Prepare tx home ps ∷ rs) rest so_far kinds = doubted_before log shard rs rest (cond (doubt_by log shard tx home ps so_far) (tx_insert tx so_far) so_far) kinds
doubted_before log shard (_ ∷ rs) rest so_far kinds = doubted_before log shard rs rest so_far kinds

-- ---- the records that a restart writes

aborts_kinds : (ts : List TxId) → AreRestarts (map (λ t. Abort t) ts)
aborts_kinds [] = refl
aborts_kinds (t ∷ ts) = aborts_kinds ts

kind_of : (tx : TxId) (next : Option ℕ) (key : ℕ) (change : Change) → is_restarts (compensation tx next key change) ≡ true
kind_of tx next key (Sets before after) = refl
kind_of tx next key (Adds by) = refl

no_abort_of : (t tx : TxId) (next : Option ℕ) (key : ℕ) (change : Change) → is_abort_of t (compensation tx next key change) ≡ false
no_abort_of t tx next key (Sets before after) = refl
no_abort_of t tx next key (Adds by) = refl

clrs_kinds : (set : List TxId) (ws : List StandingUpdate) → AreRestarts (clrs_of set ws)
clrs_kinds set [] = refl
clrs_kinds set (w ∷ ws) =
    both (λ b. AreRestarts (cond b (compensation w.tx (newest_lsn w.tx ws) w.key w.change ∷ clrs_of set ws) (clrs_of set ws))) (tx_in w.tx set)
    (λ _. ap (λ k. k && list_all is_restarts (clrs_of set ws)) (kind_of w.tx (newest_lsn w.tx ws) w.key w.change) ∙ clrs_kinds set ws) (λ _. clrs_kinds set ws)

joined_kinds : (xs ys : List LogRecord) → AreRestarts xs → AreRestarts ys → AreRestarts (xs ++ ys)
joined_kinds xs ys a b = list_all-append is_restarts xs ys ∙ and_both (list_all is_restarts xs) (list_all is_restarts ys) a b

aborts_abort : (t : TxId) (ts : List TxId) → aborted_in (map (λ u. Abort u) ts) t ≡ list_any (tx_same t) ts
aborts_abort t [] = refl
aborts_abort t (u ∷ us) = ap (λ b. tx_same t u || b) (aborts_abort t us)

clrs_abort : (t : TxId) (set : List TxId) (ws : List StandingUpdate) → aborted_in (clrs_of set ws) t ≡ false
clrs_abort t set [] = refl
clrs_abort t set (w ∷ ws) =
    both (λ b. aborted_in (cond b (compensation w.tx (newest_lsn w.tx ws) w.key w.change ∷ clrs_of set ws) (clrs_of set ws)) t ≡ false) (tx_in w.tx set)
    (λ _. ap (λ a. a || aborted_in (clrs_of set ws) t) (no_abort_of t w.tx (newest_lsn w.tx ws) w.key w.change) ∙ clrs_abort t set ws) (λ _. clrs_abort t set ws)

in_filtered : (test : TxId → Bool) (t : TxId) (xs : List TxId) → tx_in t (filter test xs) ≡ true → (test t ≡ true) × (tx_in t xs ≡ true)
in_filtered test t [] e = absurd cc
in_filtered test t (x ∷ xs) e =
    both (λ b. test x ≡ b → tx_in t (cond b (x ∷ filter test xs) (filter test xs)) ≡ true → (test t ≡ true) × (tx_same x t || tx_in t xs ≡ true)) (test x)
    (λ _ passes h. ⊎_elim (λ s. (ap test (sym (tx_true x t s)) ∙ passes, ap (λ b. b || tx_in t xs) s)) (λ m. later (in_filtered test t xs m)) (or_cases (tx_same x t) (tx_in t (filter test xs)) h))
    (λ _ _ h. later (in_filtered test t xs h)) refl e
  where
    later : (test t ≡ true) × (tx_in t xs ≡ true) → (test t ≡ true) × (tx_same x t || tx_in t xs ≡ true)
    later p = (p.0, both (λ b. b || tx_in t xs ≡ true) (tx_same x t) (λ _. refl) (λ _. p.1))

module _ (shard run epoch : ℕ) (found : List LogRecord) where
  abbrev aborted : List TxId
  aborted = filter (λ t. not (aborted_in found t)) (losers shard found)

  abbrev aborts : List LogRecord
  aborts = map (λ t. Abort t) aborted

  abbrev clrs : List LogRecord
  clrs = clrs_of (losers shard found) (standing found)

  written_kinds : AreRestarts (restart_records shard found run epoch)
  written_kinds = joined_kinds (aborts ++ clrs) (Restart run epoch ∷ []) (joined_kinds aborts clrs (aborts_kinds aborted) (clrs_kinds (losers shard found) (standing found))) refl

  written_abort : (t : TxId) → aborted_in (restart_records shard found run epoch) t ≡ tx_in t aborted
  written_abort t =
      list_any-append (is_abort_of t) (aborts ++ clrs) (Restart run epoch ∷ []) ∙ or_false (aborted_in (aborts ++ clrs) t) ∙ list_any-append (is_abort_of t) aborts clrs
      ∙ ap (λ b. aborted_in aborts t || b) (clrs_abort t (losers shard found) (standing found)) ∙ or_false (aborted_in aborts t) ∙ aborts_abort t aborted ∙ in_flipped t aborted

  loser_undoubted : (t : TxId) → tx_in t (losers shard found) ≡ true → tx_in t (in_doubt shard found) ≡ false
  loser_undoubted t e = or_second (committed_in found t) (tx_in t (in_doubt shard found)) (not_true (is_winner shard found t) (in_filtered (λ u. not (is_winner shard found u)) t (writers (standing found)) e).0)
    where
      or_second : (a b : Bool) → a || b ≡ false → b ≡ false
      or_second true b e = absurd cc
      or_second false b e = e

  spares : Spared (restart_records shard found run epoch) (in_doubt shard found)
  spares t doubted =
      ⊎_elim
      (λ a. absurd (both_ways _ (loser_undoubted t (in_filtered (λ u. not (aborted_in found u)) t (losers shard found) (sym (written_abort t) ∙ a)).1) doubted))
      (λ n. n) (cases_Bool (aborted_in (restart_records shard found run epoch) t))

  abbrev after : List LogRecord
  after = log_after_restart shard found run epoch

  doubt_kept : in_doubt shard after ≡ in_doubt shard found
  doubt_kept =
      doubted_before after shard found (restart_records shard found run epoch) [] written_kinds
      ∙ doubted_same shard found (restart_records shard found run epoch) written_kinds found [] spares

  homes_same : (txs : List TxId) → homes_of after txs ≡ homes_of found txs
  homes_same [] = refl
  homes_same (t ∷ ts) =
      ap (λ (o : Option (ℕ × List TxId)). (t, home_by o) ∷ homes_of after ts) (prepare_same found (restart_records shard found run epoch) t written_kinds)
      ∙ ap (λ (hs : List (TxId × ℕ)). (t, home_by (prepare_of found t)) ∷ hs) (homes_same ts)

  listed_same : (t : TxId) (o : Option (ℕ × List TxId)) → pairs_of_listed after t o ≡ pairs_of_listed found t o
  listed_same t None = refl
  listed_same t (Some p) =
      ap (map (λ q. (t, q)))
      (filter_same (λ q. not (committed_in after q)) (λ q. not (committed_in found q)) (λ q. ap not (committed_same found (restart_records shard found run epoch) written_kinds q)) p.1)

  pairs_same : (txs : List TxId) → restored_pairs after txs ≡ restored_pairs found txs
  pairs_same [] = refl
  pairs_same (t ∷ ts) =
      ap (λ o. pairs_of_listed after t o ++ restored_pairs after ts) (prepare_same found (restart_records shard found run epoch) t written_kinds)
      ∙ ap (λ ps. ps ++ restored_pairs after ts) (listed_same t (prepare_of found t)) ∙ ap (λ ps. pairs_of_listed found t (prepare_of found t) ++ ps) (pairs_same ts)

  unended_kept : unended_in after after ≡ unended_in found found
  unended_kept =
      unended_before after found (restart_records shard found run epoch) written_kinds
      ∙ unended_by_same after found (ended_same found (restart_records shard found run epoch) written_kinds) found

pub keeps_doubt : KeepsDoubt
keeps_doubt shard run epoch found = doubt_kept shard run epoch found

pub keeps_homes : KeepsHomes
keeps_homes shard run epoch found =
    homes_same shard run epoch found (in_doubt shard (log_after_restart shard found run epoch)) ∙ ap (homes_of found) (doubt_kept shard run epoch found)

pub keeps_pairs : KeepsPairs
keeps_pairs shard run epoch found =
    pairs_same shard run epoch found (in_doubt shard (log_after_restart shard found run epoch)) ∙ ap (restored_pairs found) (doubt_kept shard run epoch found)

pub keeps_unended : KeepsUnended
keeps_unended shard run epoch found = unended_kept shard run epoch found
