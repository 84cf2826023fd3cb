use Rattle.std.proofs.Common.{rules}
use Rattle.record_stream.specs.Scanning.{fields_at}
use Rattle.record_stream.proofs.UnknownKinds.{unknown_kind}
use Rattle.record_stream.proofs.records.fields_at.Goals as goal

pub returns-in-1 : goal.returns-in-1
unfolding fields_at
returns-in-1 c = rw c.in-1.is c.update_at.ensures

pub returns-in-2 : goal.returns-in-2
unfolding fields_at
returns-in-2 c = rw c.in-2.is c.clr_at.ensures

pub returns-in-3 : goal.returns-in-3
unfolding fields_at
returns-in-3 c = rw c.in-3.is c.prepare_at.ensures

pub returns-in-4 : goal.returns-in-4
unfolding fields_at
returns-in-4 c = rw c.in-4.is c.commit_at.ensures

pub returns-in-5 : goal.returns-in-5
unfolding fields_at
returns-in-5 c = rw c.in-5.is c.any_name_at.ensures

pub returns-in-6 : goal.returns-in-6
unfolding fields_at
returns-in-6 c = rw c.in-6.is c.any_name_at-in-6.ensures

pub returns-in-7 : goal.returns-in-7
unfolding fields_at
returns-in-7 c = rw c.in-7.is c.restart_at.ensures

pub returns-in-8 : goal.returns-in-8
unfolding fields_at
returns-in-8 c = rw c.in-8.is c.add_at.ensures

pub returns-in-9 : goal.returns-in-9
unfolding fields_at
returns-in-9 c = rw c.in-9.is c.unadd_at.ensures

pub returns-in_default : goal.returns-in_default
returns-in_default c = let h = c.in_default in unknown_kind c.args.kind c.args.bytes.now (search rules) (search rules) (search rules) (search rules) (search rules) (search rules) (search rules) (search rules) (search rules)
