-- When an index is that of the records so far.
use Rattle.std.proofs.Common.{◌≡◌, ℕ, ◌≤◌, List, [], length}
use Rattle.clv_base.specs.declared.names.TxId.{TxId}
use Rattle.clv_base.specs.declared.logs.LogRecord.{LogRecord}
use Rattle.clv_base.specs.Orders.{tx_in}
use Rattle.clv_base.specs.Logs.{base_of, wrote_in, committed_in, standing, newest_of}
use Rattle.clv_base.specs.LogRules.{last_restart, above_restarts, before_restart, listed_in}
use Rattle.log_analysis.specs.Facts.{Knows, first_update_lsn}
use Rattle.log_rules.specs.declared.index.Index.{Index}
use Rattle.log_rules.specs.Writes.{top_at, adds_at, value_at, shares_at, newest_by}
use Rattle.log_rules.specs.Listers.{listers_in, Descends}
use Rattle.log_rules.specs.Rules.{is_above, is_before}
use Rattle.log_rules.proofs.Doubt.{bars}
use Rattle.log_rules.proofs.Links.{Linked}
use Rattle.log_rules.proofs.Standing.{top_set, adds_over, top_value, shares_of, lsn_of}

-- where the last RESTART stands
pub record SplitsAt (at : ℕ) (log : List LogRecord) : Type 0 where
  pub within : at ≤ length log
  pub place : at ≡ length (before_restart [] log)
  pub before : (t : TxId) → is_before at (first_update_lsn log t) ≡ wrote_in (before_restart [] log) t

pub record IsIndexOf (shard : ℕ) (x : Index) (log : List LogRecord) : Type 0 where
  pub here : x.shard ≡ shard
  pub last : x.last ≡ last_restart log
  pub above : (run epoch : ℕ) → above_restarts run epoch log ≡ is_above run epoch x.last
  pub restart_at : SplitsAt x.restart_at log
  pub facts : Knows x.facts log
  pub tops : (k : ℕ) → top_at x.writes k ≡ top_set k (standing log)
  pub adds : (k : ℕ) → adds_at x.writes k ≡ adds_over k (standing log)
  pub values : (k : ℕ) → value_at x.writes k ≡ top_value (base_of log) k (standing log)
  pub newest : (t : TxId) → newest_by x.writes t ≡ lsn_of (newest_of t (standing log))
  pub linked : Linked x.writes (standing log)
  pub shares : (k : ℕ) → shares_at x.writes k ≡ shares_of (committed_in log) k (standing log)
  pub descends : Descends x.listers
  pub listers : (q t : TxId) → tx_in t (listers_in x.listers q) ≡ tx_in q (listed_in log t)
  pub barring : (t : TxId) → tx_in t x.barring ≡ bars shard log t
