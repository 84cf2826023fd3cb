use Rattle.std.proofs.Common.{ap, ap₂, ◌∙◌}
use Rattle.std.proofs.lemmas.Result.{IfOk-weaker}
use Rattle.clap.specs.Words.{App, with_subcommand}
use Rattle.command_line.specs.Apps.{make_app, run_app, load_app, serve_app, standby_app, the_app}
use Rattle.command_line.proofs.grammar.program.Goals as goal

pub returns : goal.returns
unfolding the_app
returns c =
    let one = c.in_ok-one.ensures ∙ ap (λ (a : App). with_subcommand a make_app.top) c.bare.ensures in
    let two = c.in_ok-two.ensures ∙ ap (λ (a : App). with_subcommand a run_app.top) one in
    let three = c.in_ok-three.ensures.shape c.new.ensures.local ∙ ap₂ with_subcommand two (ap (λ (a : App). a.top) c.new.ensures.app) in
    let four = c.in_ok-four.ensures ∙ ap (λ (a : App). with_subcommand a load_app.top) three in
    let five = c.in_ok-five.ensures ∙ ap (λ (a : App). with_subcommand a serve_app.top) four in
    let six = c.in_ok-six.ensures.shape c.new-2.ensures.local ∙ ap₂ with_subcommand five (ap (λ (a : App). a.top) c.new-2.ensures.app) in
    IfOk-weaker c.with_standby.result _ _ (λ whole is. is ∙ ap (λ (a : App). with_subcommand a standby_app.top) six) c.with_standby.ensures
