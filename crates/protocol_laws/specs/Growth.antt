-- A log only grows.
use Rattle.std.specs.Prelude.{◌≡◌, Bool, true, false, List, ◌++◌, Option, Some, None}
use Rattle.clv_base.specs.declared.logs.LogRecord.{LogRecord}
use Rattle.clv_base.specs.declared.events.Event.{Event}
use Rattle.clv_base.specs.declared.events.Event.TheVariants.{Restart}
use Rattle.clv_base.specs.declared.events.Outcome.{Outcome}
use Rattle.clv_base.specs.declared.events.Entry.{Entry}
use Rattle.clv_base.specs.State.{Shard}
use Rattle.clv_base.specs.Events.{Does, happen}
use Rattle.clv_base.specs.Journals.{after_entry}

-- the second list is the first with more behind it
abbrev pub IsPrefixOf : {A : Type 0} → List A → List A → Type 0
IsPrefixOf {A} xs ys = (rest : List A) × (xs ++ rest ≡ ys)

-- where there is a next state, its log is the state's with more behind it
pub data LogGrows (s : Shard) : Option Shard → Type 0 where
  nothing : LogGrows s None
  grown : {t : Shard} → IsPrefixOf s.local.log t.local.log → LogGrows s (Some t)

-- no event takes a record out of the log or changes one
abbrev pub LogOnlyGrows : Type 0
LogOnlyGrows = (s t : Shard) (e : Event) (o : Outcome) → happen s e ≡ Does o t → IsPrefixOf s.local.log t.local.log

abbrev pub is_restart : Event → Bool
is_restart Restart = true
is_restart _ = false

-- no entry but a restart's takes a record out of the log or changes one: the state after it has the log before it, with more behind it
abbrev pub EntriesKeepLogs : Type 0
EntriesKeepLogs = (log : List LogRecord) (s : Shard) (e : Entry) → is_restart e.event ≡ false → IsPrefixOf s.local.log (after_entry log s e).local.log
