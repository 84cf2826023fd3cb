-- What the log says of a home's requests: whose COMMIT it may write, and which COMMITs await their END.
use Rattle.std.proofs.Common.{◌≡◌, sym, ◌∙◌, ℕ, false, List, [], ◌∷◌, ◌++◌, Some, None}
use Rattle.std.proofs.lemmas.Bool.{cond-true, cond-false, or_from}
use Rattle.std.proofs.lemmas.List.Folds.{list_any-append}
use Rattle.clv_base.specs.declared.names.TxId.{TxId}
use Rattle.clv_base.specs.declared.logs.LogRecord.{LogRecord}
use Rattle.clv_base.specs.declared.logs.LogRecord.TheVariants.{Update, Clr, Prepare, Commit, Abort, End, Restart, Add, Unadd, Forgotten, Check}
use Rattle.clv_base.specs.declared.state.Request.{Request}
use Rattle.clv_base.specs.declared.state.RequestState.TheVariants.{Undecided, Committed}
use Rattle.clv_base.specs.Orders.{Table, tx_same, tx_get}
use Rattle.clv_base.specs.Logs.{committed_in, prepared_in, ended_in, prepare_of, commit_parts, is_end_of}
use Rattle.clv_base.proofs.SameNames.{tx_self}
use Rattle.law_base.proofs.Commits.{parts_keep}
use Rattle.shard_laws.proofs.Order.ChangesKeepOrder.{prepare_same}
use Rattle.clv_base.proofs.Folding.{or_left as or_false_left, or_right as or_false_right}

-- an undecided one is of this run, and a PREPARE of it names this shard; a commit that awaits its parts has its COMMIT, and no END
pub record Ruled (shard run : ℕ) (log : List LogRecord) (t : TxId) (q : Request) : Type 0 where
  pub undecided : q.state ≡ Undecided → (t.run ≡ run) × ((p : ℕ × List TxId) → prepare_of log t ≡ Some p → p.0 ≡ shard)
  pub committed : (p : ℕ) (ps : List ℕ) → q.state ≡ Committed (p ∷ ps) → q.is_ended ≡ false → (commit_parts log t ≡ Some (p ∷ ps)) × (ended_in log t ≡ false)

abbrev pub Rulings : ℕ → ℕ → Table Request → List LogRecord → Type 0
Rulings shard run requests log = (t : TxId) (q : Request) → tx_get t requests ≡ Some q → Ruled shard run log t q

-- ---- more records

pub parts_new : (log : List LogRecord) (t : TxId) (ps : List ℕ) → committed_in log t ≡ false → commit_parts (log ++ Commit t ps ∷ []) t ≡ Some ps
parts_new [] t ps e = cond-true (tx_same t t) (Some ps) None (tx_self t)
parts_new (Commit tx parts ∷ rs) t ps e = cond-false (tx_same t tx) (Some parts) (commit_parts (rs ++ Commit t ps ∷ []) t) (or_false_left _ _ e) ∙ parts_new rs t ps (or_false_right (tx_same t tx) _ e)
parts_new (Update tx k b a ∷ rs) t ps e = parts_new rs t ps e
parts_new (Clr tx u k a ∷ rs) t ps e = parts_new rs t ps e
parts_new (Prepare tx home qs ∷ rs) t ps e = parts_new rs t ps e
parts_new (Abort tx ∷ rs) t ps e = parts_new rs t ps e
parts_new (End tx ∷ rs) t ps e = parts_new rs t ps e
parts_new (Restart run epoch ∷ rs) t ps e = parts_new rs t ps e
parts_new (Add tx k by ∷ rs) t ps e = parts_new rs t ps e
parts_new (Unadd tx u k by ∷ rs) t ps e = parts_new rs t ps e
parts_new (Forgotten ∷ rs) t ps e = parts_new rs t ps e
parts_new (Check run' epoch' upto base ∷ rs) t ps e = parts_new rs t ps e

pub unended_more : (log more : List LogRecord) (t : TxId) → ended_in log t ≡ false → ended_in more t ≡ false → ended_in (log ++ more) t ≡ false
unended_more log more t e f = list_any-append (is_end_of t) log more ∙ or_from _ _ e f

pub ruled_more : (shard run : ℕ) (log more : List LogRecord) (t : TxId) (q : Request) → (q.state ≡ Undecided → prepared_in more t ≡ false) → ended_in more t ≡ false → Ruled shard run log t q → Ruled shard run (log ++ more) t q
ruled_more shard run log more t q unprepared unended r = record {
  undecided = λ u. let x = r.undecided u in (x.0, λ p e. x.1 p (sym (prepare_same log more t (unprepared u)) ∙ e));
  committed = λ p ps e n. let x = r.committed p ps e n in (parts_keep log more t (p ∷ ps) x.0, unended_more log more t x.1 unended);
}

pub rulings_more : (shard run : ℕ) (requests : Table Request) (log more : List LogRecord) → ((t : TxId) → prepared_in more t ≡ false) → ((t : TxId) → ended_in more t ≡ false) → Rulings shard run requests log → Rulings shard run requests (log ++ more)
rulings_more shard run requests log more unprepared unended r t q e = ruled_more shard run log more t q (λ u. unprepared t) (unended t) (r t q e)

-- another request of the same state
pub ruled_alike : (shard run : ℕ) (log : List LogRecord) (t : TxId) (q w : Request) → w.state ≡ q.state → w.is_ended ≡ q.is_ended → Ruled shard run log t q → Ruled shard run log t w
ruled_alike shard run log t q w s n r = record { undecided = λ u. r.undecided (sym s ∙ u); committed = λ p ps e f. r.committed p ps (sym s ∙ e) (sym n ∙ f) }

-- one that is neither
pub ruled_other : (shard run : ℕ) (log : List LogRecord) (t : TxId) (w : Request) → (w.state ≡ Undecided → ⊥) → ((ps : List ℕ) → w.state ≡ Committed ps → ⊥) → Ruled shard run log t w
ruled_other shard run log t w u c = record { undecided = λ e. absurd (u e); committed = λ p ps e n. absurd (c (p ∷ ps) e) }
