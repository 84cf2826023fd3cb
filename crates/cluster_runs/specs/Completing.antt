-- What the history tells of the transactions of a session that went through.
use Rattle.std.specs.Prelude.{◌≡◌, ⊤, ℕ, suc, ◌<◌, ◌≤◌, true, List, [], ◌∷◌, ◌++◌, map, length, Option, Some, None, slice_get}
use Rattle.std.specs.List.{AllByRecursion}
use Rattle.clv_base.specs.declared.names.TxId.{TxId}
use Rattle.clv_base.specs.declared.causes.AbortCause.TheVariants.{Died}
use Rattle.clv_base.specs.FileRules.{may_open}
use Rattle.clv_base.specs.Shards.{shard_count}
use Rattle.clv_base.specs.Journals.{History, own}
use Rattle.clv_base.specs.History.{acknowledged_in, acts_in}
use Rattle.io_model.specs.Sides.{Stories}
use Rattle.history_replay.specs.Entries.{Kept}
use Rattle.script_lang.specs.declared.actions.Ending.TheVariants as line
use Rattle.script_lang.specs.Bodies.{Body}
use Rattle.script_lang.specs.Following.{all_acts}
use Rattle.script_runs.specs.Acts.{answers_in, next_of, numbered}
use Rattle.script_runs.specs.declared.ends.TryEnd.TheVariants as end
use Rattle.script_runs.specs.TriesLaws.{all_parts}
use Rattle.script_runs.specs.Tries.{Try}
use Rattle.script_runs.specs.Sessions.{Transaction, tries_of, entries_of, session_entries}
use Rattle.cluster_runs.specs.Drained.{WasDrained}
use Rattle.cluster_runs.specs.Histories.{entries}
use Rattle.cluster_runs.specs.PromisedSessions.{Went, Begun}
use Rattle.cluster_runs.specs.Promises.{RunPromised}

-- the history tells of the acknowledgement, and of what the transaction did: what its lines ask for, under these answers, on each shard that it meets
pub record IsAcknowledged (splits : List ℕ) (h : History) (body : Body) (t : Try) : Type 0 where
  pub told : acknowledged_in h t.tx ≡ true
  pub acts : numbered (acts_in t.tx h) ≡ all_parts splits 1 (all_acts body.actions (answers_in t.acts))

-- how a transaction of this many tries ended, by its last one
pub data HasEnded (splits : List ℕ) (h : History) (most : Option ℕ) (body : Body) (count : ℕ) (last : Try) : Type 0 where
  -- its line `commit` was done
  acknowledged : body.ending ≡ line.Commit → last.end ≡ end.Acknowledged → IsAcknowledged splits h body last → HasEnded splits h most body count last
  -- it had nothing to commit
  empty : body.ending ≡ line.Commit → last.end ≡ end.Empty → next_of body.actions [] ≡ None → HasEnded splits h most body count last
  -- its line `abort` was done, after all that stands before it
  by_line : body.ending ≡ line.Abort → last.end ≡ end.Asked → next_of body.actions last.acts ≡ None → HasEnded splits h most body count last
  -- as many tries as are wanted were aborted, the last of which died: an older transaction was in its way
  given_up : (older : TxId) → last.end ≡ end.Aborted (Died older) → most ≡ Some count → HasEnded splits h most body count last

pub record TransactionEnded (splits : List ℕ) (h : History) (most : Option ℕ) (tr : Transaction) : Type 0 where
  pub front : List Try
  pub last : Try
  pub tries_are : tr.tries ≡ front ++ last ∷ []
  pub ended : HasEnded splits h most tr.body (length tr.tries) last

-- each transaction of the session has ended so, and what its walker made of the session is their tries
pub record SessionEnded (splits : List ℕ) (h : History) (walker : ℕ) (most : Option ℕ) (bodies : List Body) : Type 0 where
  pub transactions : List Transaction
  pub bodies_are : map (λ tr. tr.body) transactions ≡ bodies
  pub each : AllByRecursion (TransactionEnded splits h most) transactions
  pub entries_are : session_entries (own walker h) ≡ entries_of (tries_of transactions)

-- at least one try is wanted
abbrev pub IsWanted : Option ℕ → Type 0
IsWanted None = ⊤
IsWanted (Some n) = 1 ≤ n

-- where a session of a run went through, behind a drain that settled each shard, each of its transactions has ended
abbrev pub SessionsHaveEnded : Type 0
SessionsHaveEnded =
    (splits : List ℕ) (before now : ℕ → Option Stories) (counts counts_now : ℕ → ℕ) (most : Option ℕ) (script : List (List Body)) (went : ℕ → Went) (kept : Kept) (k : ℕ) (bodies : List Body)
    → IsWanted most → may_open splits kept.found ≡ true → RunPromised splits before now counts counts_now most script went kept
    → slice_get script k ≡ Some bodies → went k ≡ Begun None → ((n : ℕ) → n < shard_count splits → WasDrained n kept) → SessionEnded splits (entries kept) (suc k) most bodies
