-- An UPDATE or ADD more, and the records of an undo, leave the places of the COMMITs.
use Rattle.std.proofs.Common.{◌≡◌, ℕ, Bool, true, false, cond, List, [], ◌∷◌, ◌++◌, map, Option, Some, None, refl, ◌∙◌}
use Rattle.std.specs.List.{list_any, filter}
use Rattle.clv_base.specs.declared.names.TxId.{TxId}
use Rattle.clv_base.specs.declared.logs.LogRecord.{LogRecord}
use Rattle.clv_base.specs.declared.logs.LogRecord.TheVariants.{Abort}
use Rattle.clv_base.specs.declared.changes.Change.{Change}
use Rattle.clv_base.specs.declared.changes.Change.TheVariants.{Sets, Adds}
use Rattle.clv_base.specs.Logs.{StandingUpdate, is_commit_of, commit_lsn, has_standing}
use Rattle.clv_base.specs.Undo.{is_of, aborts_of, clrs_by, clrs_of, newest_lsn, compensation}
use Rattle.clv_base.specs.OneShard.{update_of}
use Rattle.shard_ops.specs.declared.plan.Write.{Write}
use Rattle.shard_ops.specs.Effects.{log_after}
use Rattle.law_base.proofs.Logs.{place_more as place_from-more}

update_alone : (t tx : TxId) (key : ℕ) (c : Change) → list_any (is_commit_of t) (update_of tx key c ∷ []) ≡ false
update_alone t tx key (Sets before after) = refl
update_alone t tx key (Adds by) = refl

pub commit_lsn-log_after : (t tx : TxId) (write : Option Write) (log : List LogRecord) → commit_lsn (log_after tx write log) t ≡ commit_lsn log t
commit_lsn-log_after t tx None log = refl
commit_lsn-log_after t tx (Some w) log = place_from-more 0 (is_commit_of t) log (update_of tx w.key w.change ∷ []) (update_alone t tx w.key w.change)

-- ---- the records of an undo

aborts_alone : (t : TxId) (ts : List TxId) → list_any (is_commit_of t) (map (λ u. Abort u) ts) ≡ false
aborts_alone t [] = refl
aborts_alone t (u ∷ us) = aborts_alone t us

clrs_alone : (t : TxId) (gone : StandingUpdate → Bool) (ws : List StandingUpdate) → list_any (is_commit_of t) (clrs_by gone ws) ≡ false
clrs_alone t gone [] = refl
clrs_alone t gone (w ∷ ws) = at (gone w) w.change (clrs_alone t gone ws)
  where
    at : (b : Bool) (c : Change) → list_any (is_commit_of t) (clrs_by gone ws) ≡ false
        → list_any (is_commit_of t) (cond b (compensation w.tx (newest_lsn w.tx ws) w.key c ∷ clrs_by gone ws) (clrs_by gone ws)) ≡ false
    at true (Sets before after) more = more
    at true (Adds by) more = more
    at false c more = more

pub commit_lsn-back : (t : TxId) (gone : StandingUpdate → Bool) (ws : List StandingUpdate) (log : List LogRecord) → commit_lsn (log ++ clrs_by gone ws) t ≡ commit_lsn log t
commit_lsn-back t gone ws log = place_from-more 0 (is_commit_of t) log (clrs_by gone ws) (clrs_alone t gone ws)

pub commit_lsn-undone : (t : TxId) (set : List TxId) (ws : List StandingUpdate) (log : List LogRecord) → commit_lsn (log ++ aborts_of log set ++ clrs_of set ws) t ≡ commit_lsn log t
commit_lsn-undone t set ws log =
    commit_lsn-back t (is_of set) ws (log ++ aborts_of log set)
    ∙ place_from-more 0 (is_commit_of t) log (aborts_of log set) (aborts_alone t (filter (has_standing log) set))
