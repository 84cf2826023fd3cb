-- What the worked histories share: two shards, their keys, and how an entry is written down.
use Rattle.std.specs.Prelude.{ℕ, List, [], ◌∷◌}
use Rattle.clv_base.specs.declared.names.TxId.{TxId}
use Rattle.clv_base.specs.declared.names.Birth.{Birth}
use Rattle.clv_base.specs.declared.logs.LogRecord.{LogRecord}
use Rattle.clv_base.specs.declared.events.Event.{Event}
use Rattle.clv_base.specs.declared.events.Outcome.{Outcome}
use Rattle.clv_base.specs.declared.events.Entry.{Entry}

-- keys below 5 are on shard 0, the others on shard 1; neither was used before
abbrev pub splits : List ℕ
splits = 5 ∷ []

abbrev pub new_logs : List (List LogRecord)
new_logs = [] ∷ [] ∷ []

-- the first transaction of a session in a run, born at a stamp
abbrev pub tx : ℕ → ℕ → TxId
tx run session = record { run = run; session = session; serial = 1 }

abbrev pub born : ℕ → ℕ → Birth
born session stamp = record { stamp = stamp; session = session; serial = 1 }

abbrev pub writer : TxId
writer = tx 1 1

-- an entry of shard 0, and one of shard 1
abbrev pub noted : ℕ → ℕ → Event → Outcome → Entry
noted stamp walker e o = record { stamp = stamp; walker = walker; event = e; outcome = o }

abbrev pub on_0 : ℕ → ℕ → Event → Outcome → ℕ × Entry
on_0 stamp walker e o = (0, noted stamp walker e o)

abbrev pub on_1 : ℕ → ℕ → Event → Outcome → ℕ × Entry
on_1 stamp walker e o = (1, noted stamp walker e o)
