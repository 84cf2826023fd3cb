use Rattle.std.proofs.Common.{◌≡◌, ◌++◌, ◌-◌, ◌+◌}
use Rattle.script_lang.specs.Loads.{sessions_from, load}
use Rattle.script_lang.proofs.generating.generate.Given as goal

abbrev pub invariant-loop-place : goal.invariant-loop-place
invariant-loop-place l =
    l.list.items ++ sessions_from l.seed l.accounts l.transfers (l.place + 1) (l.sessions - l.place) ≡ load l.seed l.sessions l.accounts l.transfers
