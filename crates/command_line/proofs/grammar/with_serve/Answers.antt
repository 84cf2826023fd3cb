use Rattle.std.proofs.Common.{◌≡◌, ◌||◌, Bool, false, Some, codes, ap, ap₂, ◌∙◌}
use Rattle.std.proofs.lemmas.Result.{IfOk-weaker}
use Rattle.clap.specs.Words.{App, Rule, app_of, rule_of, with_rule, with_subcommand}
use Rattle.clap.specs.declared.builder.arg.Arg.{Arg}
use Rattle.clap.specs.declared.builder.command.Command.TheViews.{out-Command as fields_of}
use Rattle.command_line.specs.Apps.{option_rule, serve_app}
use Rattle.command_line.proofs.grammar.with_serve.Goals as goal

pub returns : goal.returns
returns c =
    let rule : rule_of c.long-sessions.result ≡ option_rule (codes "sessions") false = ap rule_of c.long-sessions.ensures ∙ ap (λ (r : Rule). record r { long = Some (codes "sessions") }) c.new.ensures.rule in
    let global : c.long-sessions.result.global ≡ false = ap (λ (a : Arg). a.global) c.long-sessions.ensures ∙ c.new.ensures.optional.1 in
    let serve : app_of c.in_ok-serve.serve ≡ serve_app = c.in_ok-serve.ensures.shape global ∙ ap₂ with_rule c.new-2.ensures.app rule in
    let globals : (fields_of c.in_ok-serve.serve).has_globals ≡ false = c.in_ok-serve.ensures.globals ∙ ap₂ (λ (a b : Bool). a || b) c.new-2.ensures.local global in
    IfOk-weaker c.subcommand.result _ _ (λ whole adds. adds.shape globals ∙ ap (λ (a : App). with_subcommand (app_of c.args.program) a.top) serve) c.subcommand.ensures
