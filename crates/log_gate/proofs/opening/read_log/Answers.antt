use Rattle.std.specs.Option.{option_map}
use Rattle.std.proofs.lemmas.Result.{err_from_is_err_and}
use Rattle.log_gate.proofs.BothFound.{settled_rested, settled_long, long_yet, second_unsettled, no_choice, records_bad, records_good}
use Rattle.log_gate.proofs.opening.read_log.Goals as goal

pub returns-in_err-len1-clause-told : goal.returns-in_err-len1-clause-told
returns-in_err-len1-clause-told g c =
    let p = err_from_is_err_and c.from_residual-in_err-len1.result c.from_residual-in_err-len1.ensures.1 in
    rw (p.1, p.2) (second_unsettled c.args.shard (option_map (λ h. h.now.splits) c.args.agreed) _ _ _ _ (settled_rested _ _ c.in_ok-len0.len0 c.in_ok-len0.ensures.told) c.in_err-len1.ensures.told)

pub read_choice-requires-clause-len0 : goal.read_choice-requires-clause-len0
read_choice-requires-clause-len0 g c = settled_long _ _ c.in_ok-len0.len0 c.in_ok-len0.ensures.told

pub read_choice-requires-clause-len1 : goal.read_choice-requires-clause-len1
read_choice-requires-clause-len1 g c = settled_long _ _ c.in_ok-len1.len1 c.in_ok-len1.ensures.told

pub returns-in_err-choice-clause-told : goal.returns-in_err-choice-clause-told
returns-in_err-choice-clause-told g c =
    let p = err_from_is_err_and c.from_residual-in_err-choice.result c.from_residual-in_err-choice.ensures.1 in
    rw (p.1, p.2)
    (no_choice c.args.shard (option_map (λ h. h.now.splits) c.args.agreed) _ _ _ _ _ _ (settled_rested _ _ c.in_ok-len0.len0 c.in_ok-len0.ensures.told) (settled_rested _ _ c.in_ok-len1.len1 c.in_ok-len1.ensures.told)
    c.in_err-choice.ensures.looks0 c.in_err-choice.ensures.looks1 c.in_err-choice.field-0.0 c.in_err-choice.ensures.found)

pub read_chosen-requires-clause-len0 : goal.read_chosen-requires-clause-len0
read_chosen-requires-clause-len0 g c = long_yet _ _ c.in_ok-len0.len0 c.in_ok-choice.ensures.looks0 (settled_long _ _ c.in_ok-len0.len0 c.in_ok-len0.ensures.told)

pub read_chosen-requires-clause-len1 : goal.read_chosen-requires-clause-len1
read_chosen-requires-clause-len1 g c = long_yet _ _ c.in_ok-len1.len1 c.in_ok-choice.ensures.looks1 (settled_long _ _ c.in_ok-len1.len1 c.in_ok-len1.ensures.told)

pub returns-in_err-records-clause-told : goal.returns-in_err-records-clause-told
returns-in_err-records-clause-told g c =
    let p = err_from_is_err_and c.from_residual-in_err-records.result c.from_residual-in_err-records.ensures.1 in
    rw (p.1, p.2)
    (records_bad c.args.shard (option_map (λ h. h.now.splits) c.args.agreed) _ _ _ _ _ _ (settled_rested _ _ c.in_ok-len0.len0 c.in_ok-len0.ensures.told) (settled_rested _ _ c.in_ok-len1.len1 c.in_ok-len1.ensures.told)
    c.in_ok-choice.ensures.looks0 c.in_ok-choice.ensures.looks1 _ _ c.in_err-records.ensures.looks0 c.in_err-records.ensures.looks1 c.in_ok-choice.choice c.in_ok-choice.ensures.shard c.in_ok-choice.ensures.found c.in_err-records.field-0.0 c.in_err-records.ensures.found)

pub returns-clause-told : goal.returns-clause-told
returns-clause-told g c =
    records_good c.args.shard (option_map (λ h. h.now.splits) c.args.agreed) _ _ _ _ _ _ (settled_rested _ _ c.in_ok-len0.len0 c.in_ok-len0.ensures.told) (settled_rested _ _ c.in_ok-len1.len1 c.in_ok-len1.ensures.told)
    c.in_ok-choice.ensures.looks0 c.in_ok-choice.ensures.looks1 _ _ c.in_ok-records.ensures.looks0 c.in_ok-records.ensures.looks1 c.in_ok-choice.choice c.in_ok-choice.ensures.shard c.in_ok-choice.ensures.found c.in_ok-records.records c.in_ok-records.at c.in_ok-records.ensures.found
