-- The map after a history's acknowledged transactions, one after another.
use Rattle.std.specs.Prelude.{cond, List, [], ◌∷◌, ◌++◌, map, Option, Some, None}
use Rattle.clv_base.specs.declared.names.TxId.{TxId}
use Rattle.clv_base.specs.Maps.{KeyMap, Acts, replay_map}
use Rattle.clv_base.specs.Logs.{stands}
use Rattle.clv_base.specs.Journals.{History}
use Rattle.clv_base.specs.History.{acknowledged_in, acts_in, request_of}
use Rattle.history_replay.specs.Entries.{Kept, entries_of}

-- the acts of a transaction with their numbers, in the history's order
abbrev pub numbered_acts : TxId → History → Acts
numbered_acts t h = map (λ p. (p.0, p.1)) (acts_in t h)

-- those of the transaction whose request an entry is, if it is acknowledged
abbrev pub acts_at : History → Option TxId → List Acts
acts_at h None = []
acts_at h (Some t) = cond (acknowledged_in h t) (numbered_acts t h ∷ []) []

-- of the acknowledged transactions among the requests of the second history, in the order of the requests
abbrev pub acknowledged_acts : History → History → List Acts
acknowledged_acts h [] = []
acknowledged_acts h (e ∷ es) = acts_at h (request_of (e.1).event (e.1).outcome) ++ acknowledged_acts h es

-- from the map that the logs found stand for, the map after all of them
abbrev pub replayed : Kept → KeyMap
replayed kept = replay_map (stands kept.found) (acknowledged_acts (entries_of kept.journals) (entries_of kept.journals))
