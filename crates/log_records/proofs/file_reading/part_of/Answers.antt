use Rattle.std.proofs.Common.{rules, refl}
use Rattle.log_records.specs.FileReading.{part_fields_at}
use Rattle.log_records.proofs.UnknownKinds.{unknown_part}
use Rattle.log_records.proofs.file_reading.part_of.Goals as goal

pub returns-in-0 : goal.returns-in-0
unfolding part_fields_at
returns-in-0 c = rw c.in-0.is c.begin_of.ensures

pub returns-in-1 : goal.returns-in-1
unfolding part_fields_at
returns-in-1 c = rw c.in-1.is c.base_of.ensures

pub returns-in-2 : goal.returns-in-2
unfolding part_fields_at
returns-in-2 c = rw c.in-2.is c.keep_of.ensures

pub returns-in-3 : goal.returns-in-3
unfolding part_fields_at
returns-in-3 c = rw c.in-3.is refl

pub returns-in_default : goal.returns-in_default
returns-in_default c = let h = c.in_default in unknown_part c.args.kind c.args.bytes.now (search rules) (search rules) (search rules) (search rules)
