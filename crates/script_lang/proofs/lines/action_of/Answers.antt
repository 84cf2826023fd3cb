use Rattle.std.proofs.Common.{rules}
use Rattle.script_lang.proofs.Verbs.{not_parted_action, no_verb, found_action}
use Rattle.script_lang.proofs.lines.action_of.Goals as goal

pub returns-in_default-clause-ok : goal.returns-in_default-clause-ok
returns-in_default-clause-ok c = λ action is. not_parted_action _ c.in_default.ensures (search rules) action is

pub returns-in_default-verb_of-clause-ok : goal.returns-in_default-verb_of-clause-ok
returns-in_default-verb_of-clause-ok c = λ action is. let found = c.in-Some.ensures in no_verb _ _ _ found.0 found.1 (search rules) c.in_default-verb_of.ensures action is

pub returns-clause-ok : goal.returns-clause-ok
returns-clause-ok c =
    let found = c.in-Some.ensures in
    found_action c.args.bytes.now c.in-Some.word.now c.in-Some.words.now c.in-Some-verb_of.verb c.with_operands.result found.0 found.1 (search rules) c.in-Some-verb_of.ensures c.with_operands.ensures.ok
