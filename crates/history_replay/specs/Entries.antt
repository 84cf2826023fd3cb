-- The entries of all shards together.
use Rattle.std.specs.Prelude.{ℕ, suc, cond, List, [], ◌∷◌, map}
use Rattle.clv_base.specs.declared.logs.LogRecord.{LogRecord}
use Rattle.clv_base.specs.declared.events.Entry.{Entry}
use Rattle.clv_base.specs.Journals.{History, comes_before}

-- what is kept of a run: each shard's journal, and its log as opening found it, from shard 0
pub record Kept : Type 0 where
  pub journals : List (List Entry)
  pub found : List (List LogRecord)

-- an entry before the first of a history that doesn't come before it, with the rest after it
abbrev pub placed : ℕ × Entry → (History → History) → History → History
placed e rest [] = e ∷ rest []
placed e rest (f ∷ fs) = cond (comes_before f e) (f ∷ placed e rest fs) (e ∷ rest (f ∷ fs))

-- two histories merged, by stamp, then shard
abbrev pub merged : History → History → History
merged [] fs = fs
merged (e ∷ es) fs = placed e (merged es) fs

-- a journal's entries with their shard
abbrev pub on_shard : ℕ → List Entry → History
on_shard n journal = map (λ e. (n, e)) journal

abbrev pub merged_from : ℕ → List (List Entry) → History
merged_from n [] = []
merged_from n (j ∷ js) = merged (on_shard n j) (merged_from (suc n) js)

-- the entries of all journals with their shards, by stamp, then shard
abbrev pub entries_of : List (List Entry) → History
entries_of journals = merged_from 0 journals
