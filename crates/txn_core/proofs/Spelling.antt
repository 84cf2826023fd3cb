-- What each change here leaves of the spellings.
use Rattle.std.proofs.Common.{◌≡◌, ◌<◌, ◌^◌, ℕ, Bool, true, refl, sym, subst, [], ◌∷◌, ◌++◌, length, None}
use Rattle.std.proofs.lemmas.Bool.{and_from}
use Rattle.clv_base.specs.declared.names.TxId.{TxId}
use Rattle.clv_base.specs.declared.logs.LogRecord.{LogRecord}
use Rattle.clv_base.specs.declared.state.Held.{Held}
use Rattle.clv_base.specs.FileRules.{has_spelling}
use Rattle.clv_base.specs.Orders.{Table}
use Rattle.clv_base.specs.State.{Local}
use Rattle.clv_base.specs.Undo.{roll_back, release_parts}
use Rattle.clv_base.specs.OneShard.{purge, close_part}
use Rattle.protocol_laws.specs.Spelled.{IsSpelled}
use Rattle.protocol_laws.proofs.Laws.{aborts_keep, closings_keep, ends_keep, records_keep, purges_keep}
use Rattle.txn_core.specs.Sound.{FewUndecided}

pub spelled_same : (l m : Local) → l ≡ m → IsSpelled m → IsSpelled l
spelled_same l m e s = subst IsSpelled (sym e) s

pub spelled_parts : (parts : Table Held) (l : Local) → IsSpelled l → IsSpelled (record l { parts = parts })
spelled_parts parts l s = record { log = s.log; holders = s.holders; predecessors = s.predecessors; values = s.values }

pub spelled_more : (r : LogRecord) (l : Local) → has_spelling r ≡ true → IsSpelled l → IsSpelled (record l { log = l.log ++ r ∷ [] })
spelled_more r l h s =
    let t = records_keep (r ∷ []) l (and_from (has_spelling r) true h refl) s in record { log = t.log; holders = t.holders; predecessors = t.predecessors; values = t.values }

pub spelled_closed : (tx : TxId) (home : ℕ) (one : Bool) (l : Local) → home < 16 → FewUndecided l.log l.pairs → IsSpelled l → IsSpelled (close_part tx home one l)
spelled_closed tx home one l h few s = closings_keep tx home one l h (few tx) s

pub spelled_finished : (tx : TxId) (l : Local) → IsSpelled l → IsSpelled (purge (release_parts (tx ∷ []) None l))
spelled_finished tx l s = purges_keep (release_parts (tx ∷ []) None l) (ends_keep (tx ∷ []) None l s)

pub spelled_aborted : (tx : TxId) (l : Local) → length l.log < 2 ^ 64 → IsSpelled l → IsSpelled (purge (roll_back tx l))
spelled_aborted tx l short s = purges_keep (roll_back tx l) (aborts_keep tx l short s)
