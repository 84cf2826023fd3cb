-- Worked examples: a run that put 10 at the key 5, and the opening of its checkpoint by the next one; and checkpoints that keep the rules or break one.
use Rattle.std.specs.Prelude.{◌≡◌, List, [], ◌∷◌, ◌++◌, Some, None, Ok}
use Rattle.clv_base.specs.declared.names.TxId.{TxId}
use Rattle.clv_base.specs.declared.values.Value.TheVariants.{Num}
use Rattle.clv_base.specs.declared.logs.LogRecord.{LogRecord}
use Rattle.clv_base.specs.declared.logs.LogRecord.TheVariants.{Update, Prepare, Commit, Restart, Forgotten, Check}
use Rattle.clv_base.specs.declared.shard_log.FileRecord.{FileRecord}
use Rattle.clv_base.specs.declared.shard_log.FileRecord.TheVariants.{Plain, Begin, Base, Checked}
use Rattle.clv_base.specs.LogRules.{disorder}
use Rattle.clv_base.specs.Checkpoints.{check, check_records, log_in_file}

abbrev pub put_by : TxId
put_by = record { run = 1; session = 1; serial = 1 }

abbrev pub a_log : List LogRecord
a_log = Restart 1 0 ∷ Update put_by 5 None (Some (Num 10)) ∷ Commit put_by [] ∷ []

abbrev pub its_checkpoint : List LogRecord
its_checkpoint = Check 1 0 3 ((5, Num 10) ∷ []) ∷ Forgotten ∷ Forgotten ∷ []

abbrev pub its_file : List FileRecord
its_file = Begin 1 0 3 ∷ Base 5 (Num 10) ∷ Checked ∷ []

abbrev pub opened_next : List LogRecord
opened_next = Check 1 0 3 ((5, Num 10) ∷ []) ∷ Forgotten ∷ Forgotten ∷ Restart 2 0 ∷ []

abbrev pub ARow : Type 0
ARow =
    (check 0 a_log ≡ its_checkpoint) × (check_records 0 a_log ≡ its_file)
    × (log_in_file (Begin 1 0 3 ∷ Base 5 (Num 10) ∷ Checked ∷ Plain (Restart 2 0) ∷ []) ≡ Ok opened_next) × (disorder 0 opened_next ≡ None)

-- two that are in doubt over a restart, the second over what the first wrote
abbrev pub first_by : TxId
first_by = record { run = 1; session = 1; serial = 2 }

abbrev pub second_by : TxId
second_by = record { run = 1; session = 2; serial = 1 }

abbrev pub in_doubt_log : List LogRecord
in_doubt_log =
    Restart 1 0 ∷ Update first_by 5 None (Some (Num 1)) ∷ Prepare first_by 1 [] ∷ Update second_by 5 (Some (Num 1)) (Some (Num 2)) ∷ Prepare second_by 1 (first_by ∷ []) ∷ Restart 2 0 ∷ []

abbrev pub in_doubt_part : List LogRecord
in_doubt_part =
    Check 2 0 6 [] ∷ Update first_by 5 None (Some (Num 1)) ∷ Prepare first_by 1 [] ∷ Update second_by 5 (Some (Num 1)) (Some (Num 2)) ∷ Prepare second_by 1 (first_by ∷ []) ∷ Forgotten ∷ []

-- a checkpoint that keeps nothing of one whom a PREPARE lists
abbrev pub let_go_by : TxId
let_go_by = record { run = 2; session = 1; serial = 1 }

abbrev pub one_let_go : List LogRecord
one_let_go = Check 2 0 3 [] ∷ Update second_by 5 None (Some (Num 2)) ∷ Prepare second_by 1 (let_go_by ∷ []) ∷ []

-- logs of checkpoints in order, and where others break a rule, as the place in the file: with places too few, pairs out of order, a write over one that isn't
-- prepared, a RESTART that isn't above, and a COMMIT of the one that was let go
abbrev pub PartRow : Type 0
PartRow =
    (check 0 in_doubt_log ≡ in_doubt_part) × (disorder 0 in_doubt_part ≡ None) × (disorder 0 (in_doubt_part ++ Restart 2 1 ∷ []) ≡ None)
    × (disorder 0 (in_doubt_part ++ Restart 2 0 ∷ []) ≡ Some 6) × (disorder 0 (Check 2 0 3 [] ∷ Forgotten ∷ []) ≡ Some 0)
    × (disorder 0 (Check 2 0 2 ((6, Num 1) ∷ (5, Num 1) ∷ []) ∷ Forgotten ∷ []) ≡ Some 0)
    × (disorder 0 (Check 2 0 4 [] ∷ Update first_by 5 None (Some (Num 1)) ∷ Update second_by 5 (Some (Num 1)) (Some (Num 2)) ∷ Prepare second_by 1 [] ∷ []) ≡ Some 1)
    × (disorder 0 one_let_go ≡ None) × (disorder 0 (one_let_go ++ Commit let_go_by (1 ∷ []) ∷ []) ≡ Some 4)
