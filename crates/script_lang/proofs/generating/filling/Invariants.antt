use Rattle.std.proofs.Common.{◌≡◌, ◌++◌, ◌-◌}
use Rattle.script_lang.specs.Loads.{fill}
use Rattle.script_lang.proofs.generating.filling.Given as goal

abbrev pub invariant-loop-account : goal.invariant-loop-account
invariant-loop-account l = l.actions.items ++ fill l.account (l.accounts - l.account) ≡ fill 0 l.accounts
