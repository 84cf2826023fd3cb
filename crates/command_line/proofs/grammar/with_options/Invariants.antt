use Rattle.std.proofs.Common.{◌≡◌, false, drop}
use Rattle.clap.specs.Words.{app_of}
use Rattle.clap.specs.declared.builder.command.Command.TheViews.{out-Command as fields_of}
use Rattle.command_line.specs.Apps.{with_required}
use Rattle.command_line.specs.Steps.{texts}
use Rattle.command_line.proofs.grammar.with_options.Given as goal

abbrev pub invariant-loop-name : goal.invariant-loop-name
invariant-loop-name l = record {
  app : with_required (app_of l.whole) (texts (drop l.name-index l.names)) ≡ with_required (app_of l.fn.command) (texts l.names);
  globals : (fields_of l.whole).has_globals ≡ false;
}
