use Rattle.std.proofs.Common.{take}
use Rattle.command_line.specs.Commands.{AreNumbers}
use Rattle.command_line.specs.Steps.{texts}
use Rattle.command_line.proofs.meanings.numbers_of.Given as goal

abbrev pub invariant-loop-place : goal.invariant-loop-place
invariant-loop-place l = AreNumbers (texts (take l.place l.words)) l.list.items
