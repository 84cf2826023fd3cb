use Rattle.std.proofs.Common.{ap, sym, ◌∙◌, ◌≡◌, true, false}
use Rattle.clap.specs.Words.{App, is_simple, is_simple_and_free, fault_of, subcommand_of}
use Rattle.clap.specs.declared.error.ErrorKind.TheVariants.{OutOfMemory}
use Rattle.command_line.specs.Steps.{texts}
use Rattle.command_line.proofs.Programs.{app_is_simple, app_is_free, no_kind}
use Rattle.command_line.proofs.grammar.matches_of.Goals as goal

pub returns-in-Ok-try_get_matches_from-clause-no_fault : goal.returns-in-Ok-try_get_matches_from-clause-no_fault
returns-in-Ok-try_get_matches_from-clause-no_fault c =
    ap (λ (a : App). fault_of a (texts c.args.words.now)) (sym c.in-Ok.ensures)
    ∙ c.in-Ok-try_get_matches_from.ensures.kinds (ap is_simple_and_free c.in-Ok.ensures ∙ app_is_free)

pub returns-in-Ok-try_get_matches_from-clause-subcommand : goal.returns-in-Ok-try_get_matches_from-clause-subcommand
returns-in-Ok-try_get_matches_from-clause-subcommand c =
    (c.in-Ok-try_get_matches_from.ensures.matches (ap is_simple c.in-Ok.ensures ∙ app_is_simple)).1
    ∙ ap (λ (a : App). subcommand_of a (texts c.args.words.now)) c.in-Ok.ensures

pub returns-clause-fault : goal.returns-clause-fault
returns-clause-fault c = λ e none.
    let has = c.in-Err.ensures.kinds (ap is_simple_and_free c.in-Ok.ensures ∙ app_is_free) in
    let empty = ap (λ (a : App). fault_of a (texts c.args.words.now)) c.in-Ok.ensures ∙ none in
    let oom : c.kind.result ≡ OutOfMemory = c.kind.ensures ∙ no_kind _ c.in-Err.error has empty in
    let bad : false ≡ true = rw oom at (c.if-eq.ensures {u = tt}) in cc
