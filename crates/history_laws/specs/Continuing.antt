-- Histories that go on from others, and what their serial histories keep.
use Rattle.std.specs.Prelude.{◌≡◌, ⊤, ℕ, ◌<◌, Bool, false, List, [], ◌∷◌}
use Rattle.clv_base.specs.declared.logs.LogRecord.{LogRecord}
use Rattle.clv_base.specs.declared.events.Event.{Event}
use Rattle.clv_base.specs.declared.events.Event.TheVariants.{Restart}
use Rattle.clv_base.specs.declared.events.Outcome.{Outcome}
use Rattle.clv_base.specs.declared.events.Outcome.TheVariants.{Up}
use Rattle.clv_base.specs.declared.events.Entry.{Entry}
use Rattle.clv_base.specs.Shards.{shard_count}
use Rattle.clv_base.specs.LogRules.{log_of}
use Rattle.clv_base.specs.Restarts.{run_after}
use Rattle.clv_base.specs.Journals.{History, journal_of, up_to_restart}
use Rattle.clv_base.specs.History.{Legal, Member, serial, logs_left}
use Rattle.protocol_laws.specs.Growth.{IsPrefixOf}
use Rattle.history_laws.specs.Openings.{LegalFrom}

-- the first list is the second with elements left out: those that are in both stand in the same order
pub data IsSublistOf {A : Type 0} : List A → List A → Type 0 where
  nothing : IsSublistOf [] []
  also : (x : A) {xs ys : List A} → IsSublistOf xs ys → IsSublistOf (x ∷ xs) (x ∷ ys)
  only : (y : A) {xs ys : List A} → IsSublistOf xs ys → IsSublistOf xs (y ∷ ys)

-- at each restart among the entries both logs at the end were the same, up to its RESTART
abbrev pub SameAtRestart : ℕ → List LogRecord → List LogRecord → Event → Outcome → Type 0
SameAtRestart run log log' Restart (Up epoch) = up_to_restart run epoch log ≡ up_to_restart run epoch log'
SameAtRestart run log log' _ _ = ⊤

abbrev pub SameAtRestarts : ℕ → List LogRecord → List LogRecord → List Entry → Type 0
SameAtRestarts run log log' [] = ⊤
SameAtRestarts run log log' (e ∷ es) = SameAtRestart run log log' e.event e.outcome × SameAtRestarts run log log' es

-- a history with its logs at the end goes on from another: on each shard its journal begins with the other's, whose restarts left
-- the same logs in both
pub record GoesOn (splits : List ℕ) (before : List (List LogRecord)) (h : History) (after : List (List LogRecord)) (h' : History) (after' : List (List LogRecord)) : Type 0 where
  pub journals : (n : ℕ) → n < shard_count splits → IsPrefixOf (journal_of n h) (journal_of n h')
  pub restarts : (n : ℕ) → n < shard_count splits → SameAtRestarts (run_after before) (log_of after n) (log_of after' n) (journal_of n h)

-- the members by what is durable now
abbrev pub serial_now : List ℕ → List (List LogRecord) → History → List (List LogRecord) → List Member
serial_now splits before h after = serial (logs_left splits before h after (λ n. false)) h

-- those by what a crash leaves
abbrev pub serial_left : List ℕ → List (List LogRecord) → History → List (List LogRecord) → (ℕ → Bool) → List Member
serial_left splits before h after choice = serial (logs_left splits before h after choice) h

-- members stay members, at the same points, with the same operations and answers, whatever a later crash keeps of what is in flight
abbrev pub NeverTakenBack : Type 0
NeverTakenBack =
    (splits : List ℕ) (before : List (List LogRecord)) (h : History) (after : List (List LogRecord)) (h' : History) (after' : List (List LogRecord)) (choice : ℕ → Bool)
    → LegalFrom splits before h after → Legal splits before h' after' → GoesOn splits before h after h' after'
    → IsSublistOf (serial_now splits before h after) (serial_left splits before h' after' choice)
