-- What the records of all shards hold where nothing is left to do.
use Rattle.std.specs.Prelude.{◌≡◌, ℕ, ◌<◌, Bool, false, List, []}
use Rattle.clv_base.specs.declared.names.TxId.{TxId}
use Rattle.clv_base.specs.declared.causes.Vote.TheVariants.{Read}
use Rattle.clv_base.specs.declared.logs.LogRecord.{LogRecord}
use Rattle.clv_base.specs.declared.messages.Message.TheVariants.{Vote as VoteMessage}
use Rattle.clv_base.specs.declared.events.Outcome.TheVariants.{Sent}
use Rattle.clv_base.specs.declared.events.Entry.{Entry}
use Rattle.clv_base.specs.Maps.{KeyMap}
use Rattle.clv_base.specs.Logs.{has_standing, in_doubt, stands}
use Rattle.clv_base.specs.LogRules.{log_of}
use Rattle.clv_base.specs.Needs.{live_pairs}
use Rattle.clv_base.specs.Shards.{shard_count}
use Rattle.clv_base.specs.Journals.{History, final_of}
use Rattle.clv_base.specs.History.{IsAmong, IsSettled, logs_left}
use Rattle.history_laws.specs.Openings.{LegalFrom}
use Rattle.headline_laws.specs.Shares.{in_turn}

-- of whom a shard voted read on no write stands there
abbrev pub ReadersWroteNothing : List ℕ → List (List LogRecord) → History → List (List LogRecord) → Type 0
ReadersWroteNothing splits before h after =
    (n k home : ℕ) (e : Entry) (t : TxId) → n < shard_count splits → IsAmong k e h → e.outcome ≡ Sent (VoteMessage home t n Read) → has_standing (final_of before h after n).local.log t ≡ false

-- the live records of all shards, one shard after another
abbrev pub live_pairs_of_all : List ℕ → List (List LogRecord) → History → List (List LogRecord) → KeyMap
live_pairs_of_all splits before h after = in_turn (λ n. live_pairs (final_of before h after n).local.records) 0 (shard_count splits)

-- where the history is settled, and of those voted read on nothing stands, they are the map that the logs left stand for, whatever a crash would keep
abbrev pub SettledIsTheMapWhereReadersWroteNothing : Type 0
SettledIsTheMapWhereReadersWroteNothing =
    (splits : List ℕ) (before : List (List LogRecord)) (h : History) (after : List (List LogRecord)) (choice : ℕ → Bool)
    → LegalFrom splits before h after → ReadersWroteNothing splits before h after → IsSettled splits before h after
    → live_pairs_of_all splits before h after ≡ stands (logs_left splits before h after choice)

-- where a history is settled, nothing is in doubt in what is left, whatever a crash would keep: the next opening finds nothing in doubt
abbrev pub SettledOpensClear : Type 0
SettledOpensClear =
    (splits : List ℕ) (before : List (List LogRecord)) (h : History) (after : List (List LogRecord)) (choice : ℕ → Bool) (n : ℕ)
    → LegalFrom splits before h after → IsSettled splits before h after → n < shard_count splits
    → in_doubt n (log_of (logs_left splits before h after choice) n) ≡ []
