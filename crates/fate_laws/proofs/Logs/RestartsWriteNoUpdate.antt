-- Who wrote in a log: a restart writes no UPDATE, and what a front of the log has stands in it.
use Rattle.std.proofs.Common.{◌≡◌, refl, subst, ◌∙◌, ℕ, true, false, not, map, List, [], ◌∷◌, take-append-drop}
use Rattle.std.specs.Prelude.{take, drop}
use Rattle.std.specs.List.{filter}
use Rattle.std.proofs.lemmas.Bool.{or_from}
use Rattle.clv_base.specs.declared.names.TxId.{TxId}
use Rattle.clv_base.specs.declared.logs.LogRecord.{LogRecord}
use Rattle.clv_base.specs.declared.logs.LogRecord.TheVariants.{Abort, Restart}
use Rattle.clv_base.specs.Logs.{standing, wrote_in, aborted_in}
use Rattle.clv_base.specs.Undo.{clrs_of}
use Rattle.clv_base.specs.Restarts.{losers, undo_records, restart_records}
use Rattle.shard_laws.proofs.Keeping.RecordsAndFrontsKeep.{wrote_keeps, wrote_append}
use Rattle.shard_laws.proofs.Keeping.RecordsOfAnUndo.{undo_writes}
use Rattle.law_base.proofs.Lists.{all_append}
use Rattle.law_base.proofs.Logs.{IsUndo, aborts_undo, clrs_undo}
use Rattle.protocol_laws.specs.Growth.{IsPrefixOf}

pub restart_writes_none : (shard : ℕ) (log : List LogRecord) (run epoch : ℕ) (t : TxId) → wrote_in (restart_records shard log run epoch) t ≡ false
restart_writes_none shard log run epoch t =
    wrote_append (undo_records shard log) (Restart run epoch ∷ []) t
    ∙ or_from _ _
    (undo_writes t (undo_records shard log)
    (all_append IsUndo (map (λ u. Abort u) (filter (λ u. not (aborted_in log u)) (losers shard log))) (clrs_of (losers shard log) (standing log))
    (aborts_undo (filter (λ u. not (aborted_in log u)) (losers shard log))) (clrs_undo (losers shard log) (standing log)))) refl

-- what a front of a log has stands in it
pub wrote_take : (n : ℕ) (log : List LogRecord) (t : TxId) → wrote_in (take n log) t ≡ true → wrote_in log t ≡ true
wrote_take n log t w = subst (λ l. wrote_in l t ≡ true) (take-append-drop n log) (wrote_keeps (take n log) (drop n log) t w)

pub wrote_grown : (xs ys : List LogRecord) (t : TxId) → IsPrefixOf xs ys → wrote_in xs t ≡ true → wrote_in ys t ≡ true
wrote_grown xs ys t p w = subst (λ z. wrote_in z t ≡ true) p.1 (wrote_keeps xs p.0 t w)
