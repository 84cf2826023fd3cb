-- Writes that are to go, among those that stand in a log: those of a set of transactions, or some by another test.
use Rattle.std.specs.Prelude.{◌≡◌, Bool, true, List}
use Rattle.std.specs.List.{AllByRecursion, filter}
use Rattle.clv_base.specs.declared.names.TxId.{TxId}
use Rattle.clv_base.specs.Logs.{StandingUpdate}
use Rattle.clv_base.specs.Needs.{Records, found_at, is_there}
use Rattle.clv_base.specs.Undo.{is_of}

abbrev pub writes_of : List TxId → List StandingUpdate → List StandingUpdate
writes_of set ws = filter (is_of set) ws

-- each of them has a record at its key, live or a ghost
abbrev pub HaveRecordsBy : (StandingUpdate → Bool) → List StandingUpdate → Records → Type 0
HaveRecordsBy gone ws rs = AllByRecursion (λ w. gone w ≡ true → is_there (found_at w.key rs) ≡ true) ws

abbrev pub HaveRecords : List TxId → List StandingUpdate → Records → Type 0
HaveRecords set ws rs = HaveRecordsBy (is_of set) ws rs
