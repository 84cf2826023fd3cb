-- What a log says of a transaction.
use Rattle.std.specs.Prelude.{◌≡◌, ℕ, ◌+◌, ◌-◌, true, false, List, [], ◌∷◌, length, Option, Some, None, unwrap_or}
use Rattle.std.specs.List.{filter}
use Rattle.clv_base.specs.declared.names.TxId.{TxId}
use Rattle.clv_base.specs.declared.logs.LogRecord.{LogRecord}
use Rattle.clv_base.specs.declared.logs.LogRecord.TheVariants.{Update, Clr, Prepare, Commit, Abort, End, Restart, Add, Unadd, Forgotten, Check}
use Rattle.clv_base.specs.Logs.{is_update_of, place_from, standing, prepare_lsn, commit_lsn, aborted_in, ended_in}
use Rattle.clv_base.specs.Orders.{Table, tx_same, tx_get}
pub use Rattle.log_analysis.specs.declared.facts.TxFacts.{TxFacts}

-- the LSN of the transaction's first UPDATE or ADD
abbrev pub first_update_lsn : List LogRecord → TxId → Option ℕ
first_update_lsn log tx = place_from 0 (is_update_of tx) log

-- how many of its UPDATEs and ADDs stand
abbrev pub standing_count : List LogRecord → TxId → ℕ
standing_count log tx = length (filter (λ w. tx_same tx w.tx) (standing log))

-- all that a log says of a transaction
abbrev pub facts_of : List LogRecord → TxId → TxFacts
facts_of log tx =
    record {
      first_update = first_update_lsn log tx;
      standing = standing_count log tx;
      prepare = prepare_lsn log tx;
      commit = commit_lsn log tx;
      is_aborted = aborted_in log tx;
      is_ended = ended_in log tx;
    }

abbrev pub nothing_known : TxFacts
nothing_known = record { first_update = None; standing = 0; prepare = None; commit = None; is_aborted = false; is_ended = false }

-- what a table of such facts has for a transaction
abbrev pub known : Table TxFacts → TxId → TxFacts
known m tx = unwrap_or (tx_get tx m) nothing_known

-- a table in which what is known of one transaction stands before the rows
abbrev pub with_newest : Option (TxId × TxFacts) → Table TxFacts → Table TxFacts
with_newest None rows = rows
with_newest (Some newest) rows = newest ∷ rows

-- the table has what the log says of each transaction
abbrev pub Knows : Table TxFacts → List LogRecord → Type 0
Knows m log = (tx : TxId) → known m tx ≡ facts_of log tx

-- so do tables, one for each log
abbrev pub KnowAll : List (Table TxFacts) → List (List LogRecord) → Type 0
KnowAll [] [] = Unit {0}
KnowAll [] (log ∷ logs) = ⊥
KnowAll (m ∷ ms) [] = ⊥
KnowAll (m ∷ ms) (log ∷ logs) = Knows m log × KnowAll ms logs

-- the place so far, or this one
abbrev pub first_place : ℕ → Option ℕ → Option ℕ
first_place n so_far = Some (unwrap_or so_far n)

-- with one more UPDATE or ADD of the transaction, at n, and with any record of it
abbrev pub facts_with_write : ℕ → TxFacts → TxFacts
facts_with_write n f = record f { first_update = first_place n f.first_update; standing = f.standing + 1 }

abbrev pub facts_with : ℕ → LogRecord → TxFacts → TxFacts
facts_with n (Update tx key before after) f = facts_with_write n f
facts_with n (Clr tx undo_next key after) f = record f { standing = f.standing - 1 }
facts_with n (Prepare tx home predecessors) f = record f { prepare = first_place n f.prepare }
facts_with n (Commit tx parts) f = record f { commit = first_place n f.commit }
facts_with n (Abort tx) f = record f { is_aborted = true }
facts_with n (End tx) f = record f { is_ended = true }
facts_with n (Restart run epoch) f = f
facts_with n (Add tx key by) f = facts_with_write n f
facts_with n (Unadd tx undo_next key by) f = record f { standing = f.standing - 1 }
facts_with n Forgotten f = f
facts_with n (Check run' epoch' upto base) f = f
