use Rattle.std.proofs.Common.{◌≡◌, ℕ, ◌+◌, ◌∷◌, ◌||◌, Bool, true, false, [], List, Some, drop, get_or, drop-cons, add-one, ap, ap₂, ◌∙◌}
use Rattle.std.specs.Borrow.{Bor}
use Rattle.clap.specs.Words.{Rule, app_of, rule_of, with_rule}
use Rattle.clap.specs.declared.builder.arg.Arg.{Arg}
use Rattle.command_line.specs.Apps.{option_rule}
use Rattle.command_line.proofs.Options.{option_more}
use Rattle.command_line.proofs.grammar.with_options.Goals as goal

pub loop-name-preserved : goal.loop-name-preserved
loop-name-preserved c =
    let names = c.args.names.now in
    let place = c.loop-name.name-index in
    let name : Bor (List ℕ) = get_or names place (record { ref_ptr = (0, 0); now = [] }) in
    let front : drop place names ≡ name ∷ drop (place + 1) names = rw add-one (drop-cons names place (record { ref_ptr = (0, 0); now = [] }) c.loop-name-test.true) in
    let rule : rule_of c.required-option.result ≡ option_rule name.now true =
    ap rule_of c.required-option.ensures ∙ ap (λ (a : Arg). rule_of (record a { required = true })) c.long.ensures
    ∙ ap (λ (r : Rule). record r { long = Some name.now; required = true }) c.new.ensures.rule in
    let global : c.required-option.result.global ≡ false =
    ap (λ (a : Arg). a.global) c.required-option.ensures ∙ ap (λ (a : Arg). a.global) c.long.ensures ∙ c.new.ensures.optional.1 in
    record {
      app =
          option_more (app_of c.loop-name.whole) _ _ names place name front (c.in_ok-whole.ensures.shape global ∙ ap (with_rule (app_of c.loop-name.whole)) rule)
          c.loop-name.invariant.app;
      globals = c.in_ok-whole.ensures.globals ∙ ap₂ (λ (a b : Bool). a || b) c.loop-name.invariant.globals global;
    }
