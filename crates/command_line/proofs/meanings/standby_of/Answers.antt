use Rattle.std.proofs.Common.{ap, codes, option_map, map, List, ℕ, Option}
use Rattle.std.specs.Borrow.{Bor}
use Rattle.std.proofs.lemmas.Result.{IfErr-weaker, IfOk-weaker}
use Rattle.clap.specs.Words.{found_of, Text}
use Rattle.command_line.specs.Commands.{listed}
use Rattle.command_line.specs.Steps.{texts, given_rows}
use Rattle.command_line.proofs.Sayings.{all_is, standby_says, standby_not}
use Rattle.command_line.proofs.meanings.standby_of.Goals as goal

abbrev shown : Option (Bor (List (Bor (List ℕ)))) → Option (List Text)
shown = option_map (λ s. map (λ v. v.now) s.now)

pub returns-in-Some-clause-command : goal.returns-in-Some-clause-command
returns-in-Some-clause-command c =
    let found = ap listed (all_is (found_of c.args.given.now) (codes "count") c.get_strs.result _ c.get_strs.ensures (ap shown c.in-Some.is)) in
    IfOk-weaker c.standby_with.result _ _ (λ command h. standby_says (given_rows c.args.given.now) command (texts c.in-Some.words.now) found h) c.standby_with.ensures.command

pub returns-in-Some-clause-usage : goal.returns-in-Some-clause-usage
returns-in-Some-clause-usage c =
    let found = ap listed (all_is (found_of c.args.given.now) (codes "count") c.get_strs.result _ c.get_strs.ensures (ap shown c.in-Some.is)) in
    IfErr-weaker c.standby_with.result _ _ (λ e h is. standby_not (given_rows c.args.given.now) (texts c.in-Some.words.now) found (h is)) c.standby_with.ensures.usage

pub returns-in-None-clause-command : goal.returns-in-None-clause-command
returns-in-None-clause-command c =
    let found = ap listed (all_is (found_of c.args.given.now) (codes "count") c.get_strs.result _ c.get_strs.ensures (ap shown c.in-None.is)) in
    IfOk-weaker c.standby_with-in-None.result _ _ (λ command h. standby_says (given_rows c.args.given.now) command _ found h) c.standby_with-in-None.ensures.command
