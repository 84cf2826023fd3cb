-- The state after a restart, of its parts.
use Rattle.std.proofs.Common.{◌≡◌, ◌≤◌, ◌∙◌, ap, ℕ, true, List, []}
use Rattle.std.specs.List.{list_all}
use Rattle.clv_base.specs.declared.names.TxId.{TxId}
use Rattle.clv_base.specs.declared.logs.LogRecord.{LogRecord}
use Rattle.clv_base.specs.declared.state.Held.{Held}
use Rattle.clv_base.specs.FileRules.{has_spelling}
use Rattle.clv_base.specs.Orders.{Table, tx_in}
use Rattle.clv_base.specs.Locks.{Locks}
use Rattle.clv_base.specs.Logs.{in_doubt}
use Rattle.clv_base.specs.Needs.{Records}
use Rattle.clv_base.specs.State.{Local}
use Rattle.clv_base.specs.Restarts.{local_after}
use Rattle.protocol_laws.specs.Resting.{RestartsEndAtRest}
use Rattle.protocol_laws.proofs.Laws.{restarts_are_spelled}
use Rattle.txn_core.specs.Sound.{owed_by, IsKept}
use Rattle.txn_core.specs.State.{AreSettled}
use Rattle.law_base.proofs.Sets.{doubts_rise}
use Rattle.shard_restoring.proofs.Listed.{few_restored}
use Rattle.shard_restoring.proofs.Kept.{restored_sound}

module _ (shard epoch : ℕ) (log : List LogRecord) where
  abbrev l : Local
  l = local_after shard epoch log

  -- equal parts make the state
  pub local_is : (rs : Records) (locks : Locks) (parts : Table Held) (pairs : List (TxId × TxId)) (rest : List LogRecord)
      → rs ≡ l.records → locks ≡ l.locks → parts ≡ l.parts → pairs ≡ l.pairs → rest ≡ log
      → ◌≡◌ {A = Local} (record { records = rs; locks = locks; parts = parts; pairs = pairs; log = rest; epoch = epoch }) l
  local_is rs locks parts pairs rest r k h p g =
      let state : Records → Locks → Table Held → List (TxId × TxId) → List LogRecord → Local = λ a b c d e. record { records = a; locks = b; parts = c; pairs = d; log = e; epoch = epoch } in
      ap (λ (x : Records). state x locks parts pairs rest) r ∙ ap (λ (x : Locks). state l.records x parts pairs rest) k ∙ ap (λ (x : Table Held). state l.records l.locks x pairs rest) h
      ∙ ap (λ (x : List (TxId × TxId)). state l.records l.locks l.parts x rest) p ∙ ap (λ (x : List LogRecord). state l.records l.locks l.parts l.pairs x) g

  pub kept_is : RestartsEndAtRest → list_all has_spelling log ≡ true → (ss : List TxId) (commits : Table ℕ) (room : ℕ) → ((t : TxId) → tx_in t ss ≡ tx_in t (in_doubt shard log)) → owed_by (λ t. tx_in t ss) log ≤ room
      → AreSettled commits log → IsKept commits l room
  kept_is rest spelled ss commits room same enough settled = record {
    settled = settled;
    sound = restored_sound shard epoch log ss room same enough;
    ghosts = (rest shard 0 epoch 0 log []).1;
    few = few_restored log spelled (in_doubt shard log) (doubts_rise shard log);
    spelled = restarts_are_spelled shard epoch log spelled;
  }
