-- Who is in doubt in a log is prepared among its records, and neither committed nor aborted.
use Rattle.std.proofs.Common.{◌≡◌, ◌⊎◌, inl, inr, ⊎_elim, refl, sym, subst, ℕ, true, false, cond, Bool, not, ◌&&◌, ◌||◌, ◌==◌, List, [], ◌∷◌, ◌<◌, length, arith}
use Rattle.std.specs.List.{list_all}
use Rattle.std.proofs.lemmas.Bool.{both_ways, and_parts, not-true, or_left, or_right}
use Rattle.clv_base.specs.declared.names.TxId.{TxId}
use Rattle.clv_base.specs.declared.logs.LogRecord.{LogRecord}
use Rattle.clv_base.specs.declared.logs.LogRecord.TheVariants.{Update, Clr, Prepare, Commit, Abort, End, Restart, Add, Unadd, Forgotten, Check}
use Rattle.clv_base.specs.Orders.{tx_same, tx_in, tx_insert}
use Rattle.clv_base.specs.Logs.{committed_in, aborted_in, prepared_in, doubt_by, in_doubt_from, in_doubt, is_prepare_of}
use Rattle.clv_base.proofs.SameNames.{tx_self, in_insert}
use Rattle.clv_base.specs.LogRules.{log_of}
use Rattle.clv_base.specs.FileRules.{may_open}
use Rattle.clv_base.specs.Restarts.{greatest_run, run_after}
use Rattle.protocol_laws.proofs.LogsInOrder.{runs_in_order}
use Rattle.protocol_laws.proofs.LogsInOrder.OneRecordMore.{own_prepare}
use Rattle.protocol_laws.proofs.LogsInOrder.RunsAreOfRestarts.{record_fits}
use Rattle.history_cases.proofs.OldRuns.{below_next_run}
use Rattle.history_laws.proofs.Logs.FoundLogsInOrder.{found_in_order}

abbrev pub Undecided : List LogRecord → List LogRecord → TxId → Type 0
Undecided log rs t = (prepared_in rs t ≡ true) × (committed_in log t ≡ false) × (aborted_in log t ≡ false)

doubts_undecided : (log : List LogRecord) (shard : ℕ) (rs : List LogRecord) (sf : List TxId) (t : TxId) → tx_in t (in_doubt_from log shard rs sf) ≡ true → (tx_in t sf ≡ true) ⊎ Undecided log rs t
doubts_undecided log shard [] sf t i = inl i
doubts_undecided log shard (Prepare tx home ps ∷ rs) sf t i = at (doubt_by log shard tx home ps sf) refl (doubts_undecided log shard rs (cond (doubt_by log shard tx home ps sf) (tx_insert tx sf) sf) t i)
  where
    own : doubt_by log shard tx home ps sf ≡ true → t ≡ tx → Undecided log (Prepare tx home ps ∷ rs) t
    own d e =
        let a = and_parts (not (shard == home) && not (committed_in log tx) && not (aborted_in log tx)) (list_all (λ p. committed_in log p || tx_in p sf) ps) d in
        let b = and_parts (not (shard == home) && not (committed_in log tx)) (not (aborted_in log tx)) a.0 in
        let c = and_parts (not (shard == home)) (not (committed_in log tx)) b.0 in
        subst (Undecided log (Prepare tx home ps ∷ rs)) (sym e) (or_left (tx_same tx tx) (prepared_in rs tx) (tx_self tx), not-true _ c.1, not-true _ b.1)

    at : (b : Bool) → doubt_by log shard tx home ps sf ≡ b → (tx_in t (cond b (tx_insert tx sf) sf) ≡ true) ⊎ Undecided log rs t → (tx_in t sf ≡ true) ⊎ Undecided log (Prepare tx home ps ∷ rs) t
    at b d (inr u) = inr (or_right (tx_same t tx) (prepared_in rs t) u.0, u.1, u.2)
    at false d (inl j) = inl j
    at true d (inl j) = ⊎_elim (λ e. inr (own d e)) (λ k. inl k) (in_insert tx t sf j)
doubts_undecided log shard (Update tx k b a ∷ rs) sf t i = doubts_undecided log shard rs sf t i
doubts_undecided log shard (Clr tx u k a ∷ rs) sf t i = doubts_undecided log shard rs sf t i
doubts_undecided log shard (Commit tx ps ∷ rs) sf t i = doubts_undecided log shard rs sf t i
doubts_undecided log shard (Abort tx ∷ rs) sf t i = doubts_undecided log shard rs sf t i
doubts_undecided log shard (End tx ∷ rs) sf t i = doubts_undecided log shard rs sf t i
doubts_undecided log shard (Restart run epoch ∷ rs) sf t i = doubts_undecided log shard rs sf t i
doubts_undecided log shard (Add tx k by ∷ rs) sf t i = doubts_undecided log shard rs sf t i
doubts_undecided log shard (Unadd tx u k by ∷ rs) sf t i = doubts_undecided log shard rs sf t i
doubts_undecided log shard (Forgotten ∷ rs) sf t i = doubts_undecided log shard rs sf t i
doubts_undecided log shard (Check run' epoch' upto base ∷ rs) sf t i = doubts_undecided log shard rs sf t i

pub doubt_undecided : (shard : ℕ) (log : List LogRecord) (t : TxId) → tx_in t (in_doubt shard log) ≡ true → Undecided log log t
doubt_undecided shard log t i = ⊎_elim (λ j. absurd (both_ways false refl j)) (λ u. u) (doubts_undecided log shard log [] t i)

pub doubt_prepared : (shard : ℕ) (log : List LogRecord) (t : TxId) → tx_in t (in_doubt shard log) ≡ true → prepared_in log t ≡ true
doubt_prepared shard log t i = (doubt_undecided shard log t i).0

-- who was in doubt when a log was opened is of an earlier run
pub doubted_is_old : (splits : List ℕ) (before : List (List LogRecord)) (n : ℕ) (m : may_open splits before ≡ true) (l : n < length before) (t : TxId) → tx_in t (in_doubt n (log_of before n)) ≡ true → t.run < run_after before
doubted_is_old splits before n m l t i =
    let log = log_of before n in
    let f = record_fits (greatest_run log) t (is_prepare_of t) (own_prepare t) log (runs_in_order n log (found_in_order splits before n m l)) (doubt_prepared n log t i) in
    let g = below_next_run before n in
    omega (arith, f, g)
