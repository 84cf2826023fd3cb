-- The promise over all histories, in one place.
use Rattle.std.specs.Prelude.{◌≡◌, ◌⊎◌, ℕ, ◌<◌, Bool, true, false, List, ◌∷◌, ◌++◌}
use Rattle.clv_base.specs.declared.names.TxId.{TxId}
use Rattle.clv_base.specs.declared.logs.LogRecord.{LogRecord}
use Rattle.clv_base.specs.declared.causes.AbortCause.{AbortCause}
use Rattle.clv_base.specs.declared.events.Entry.{Entry}
use Rattle.clv_base.specs.Orders.{tx_in}
use Rattle.clv_base.specs.Maps.{replay_map, replay_answers}
use Rattle.clv_base.specs.Shards.{shard_count}
use Rattle.clv_base.specs.Logs.{stands, in_doubt, committed_somewhere}
use Rattle.clv_base.specs.LogRules.{log_of}
use Rattle.clv_base.specs.FileRules.{may_open}
use Rattle.clv_base.specs.Journals.{History, final_of}
use Rattle.clv_base.specs.History.{Legal, IsSettled, CauseStands, Waits, logs_left, acknowledged_in, has_request, serial_acts, serial_answers}
use Rattle.history_laws.specs.Openings.{LegalFrom}
use Rattle.history_laws.specs.Continuing.{IsSublistOf, GoesOn, serial_now, serial_left}
use Rattle.history_laws.specs.Ordering.{AreInSessionOrder}
use Rattle.history_laws.specs.Outcomes.{aborted_in_history}
use Rattle.history_laws.specs.Places.{transactions_of, StandsBefore, predecessors_on}
use Rattle.fate_laws.specs.Members.{is_member}
use Rattle.fate_laws.specs.Causes.{TellsCause, IsOfAnother}
use Rattle.fate_laws.specs.Waiting.{WithoutRequest, WithRequest, WaitsThrough, birth_waiting}
use Rattle.headline_laws.specs.SettlingHere.{live_pairs_of_all}

-- what a legal history h over these splits promises, from the logs found to the logs at the end, where a crash keeps what the choice says of what is in
-- flight. Its members are the transactions with a COMMIT left at their home, and the acknowledged ones
pub record Promised (splits : List ℕ) (before : List (List LogRecord)) (h : History) (after : List (List LogRecord)) (choice : ℕ → Bool) : Type 0 where
  -- answers and map: the members replay one after another to the answers that they were told, and to the map that the logs left stand for
  pub answers : replay_answers (stands before) (serial_acts (serial_left splits before h after choice)) ≡ serial_answers (serial_left splits before h after choice)
  pub map : replay_map (stands before) (serial_acts (serial_left splits before h after choice)) ≡ stands (logs_left splits before h after choice)
  -- nothing acknowledged is ever lost: each acknowledged transaction is a member
  pub acknowledged : (t : TxId) → acknowledged_in h t ≡ true → is_member splits before h after choice t ≡ true
  -- and the members by what is durable now stay members of every history that goes on from this one, whatever a later crash keeps
  pub stay :
      (h' : History) (after' : List (List LogRecord)) (later : ℕ → Bool) → Legal splits before h' after' → GoesOn splits before h after h' after'
      → IsSublistOf (serial_now splits before h after) (serial_left splits before h' after' later)
  -- recoverable: whose write a member violated, on any shard, is a member before it, or was in doubt there and is committed in the logs found
  pub predecessors :
      (n : ℕ) (t p : TxId) → n < shard_count splits → is_member splits before h after choice t ≡ true → tx_in p (predecessors_on before h after n t) ≡ true
      → StandsBefore p t (transactions_of (serial_left splits before h after choice)) ⊎ ((tx_in p (in_doubt n (log_of before n)) ≡ true) × (committed_somewhere before p ≡ true))
  -- sessions: the members of one session stand in the order of their serials
  pub sessions : AreInSessionOrder (serial_left splits before h after choice)
  -- causes: each cause that a transaction is told stands, and nobody is told both of success and of an abort
  pub causes :
      (so_far rest : History) (e : ℕ × Entry) (t : TxId) (cause : AbortCause) → so_far ++ e ∷ rest ≡ h → TellsCause (e.1).event (e.1).outcome t cause
      → CauseStands before so_far after e t cause × IsOfAnother t cause
  pub one_outcome : (t : TxId) → acknowledged_in h t ≡ true → aborted_in_history h t ≡ false
  -- waits: who has made no request waits for younger ones, for ones that have, or for ones in doubt at opening; who has made it for earlier ones; so no
  -- wait comes round
  pub waits :
      (t u : TxId) (w : Waits splits h (final_of before h after) t u)
      → (has_request t h ≡ false → WithoutRequest splits before h (final_of before h after) (birth_waiting w) u) × (has_request t h ≡ true → WithRequest splits before h t u)
  pub no_cycle : (t : TxId) → WaitsThrough splits h (final_of before h after) t t → ⊥
  -- settled: where nothing is left to do, the live records of all shards are the map
  pub settled : IsSettled splits before h after → live_pairs_of_all splits before h after ≡ stands (logs_left splits before h after choice)
  -- opened again: the logs left may be opened, and so may the logs at the end, with what failed restarts added
  pub opens : may_open splits (logs_left splits before h after choice) ≡ true
  pub opens_at_the_end : may_open splits after ≡ true

-- every legal history from logs that may be opened keeps the promise, whatever a crash keeps
abbrev pub Promise : Type 0
Promise =
    (splits : List ℕ) (before : List (List LogRecord)) (h : History) (after : List (List LogRecord)) (choice : ℕ → Bool)
    → LegalFrom splits before h after → Promised splits before h after choice
