-- Laws of the entries of all shards.
use Rattle.std.specs.Prelude.{◌≡◌, List, [], ◌∷◌}
use Rattle.clv_base.specs.declared.events.Entry.{Entry}
use Rattle.clv_base.specs.Journals.{journal_of}
use Rattle.history_replay.specs.Entries.{entries_of, on_shard}

-- of one shard they are its journal's
abbrev pub OneShardsEntries : Type 0
OneShardsEntries = (journal : List Entry) → entries_of (journal ∷ []) ≡ on_shard 0 journal

-- and its journal is what it was
abbrev pub OneShardsJournal : Type 0
OneShardsJournal = (journal : List Entry) → journal_of 0 (entries_of (journal ∷ [])) ≡ journal
