use Rattle.std.proofs.Common.{◌≡◌, [], ◌∷◌, codes, ap, ◌∙◌}
use Rattle.std.proofs.lemmas.Result.{IfOk-weaker}
use Rattle.clap.specs.Words.{App, app_of, with_subcommand}
use Rattle.command_line.specs.Apps.{with_required, load_app}
use Rattle.command_line.proofs.grammar.with_load.Goals as goal

pub returns : goal.returns
returns c =
    let named = λ (a : App). with_required a (codes "seed" ∷ codes "sessions" ∷ codes "accounts" ∷ codes "transfers" ∷ []) in
    let load : app_of c.in_ok-load.load ≡ load_app = c.in_ok-load.ensures.app ∙ ap named c.new.ensures.app in
    IfOk-weaker c.subcommand.result _ _
    (λ whole adds. adds.shape c.in_ok-load.ensures.globals ∙ ap (λ (a : App). with_subcommand (app_of c.args.program) a.top) load) c.subcommand.ensures
