use Rattle.std.proofs.Common.{◌≤◌, length, ◌+◌}
use Rattle.script_lang.specs.Grammar.{most_bytes}
use Rattle.script_lang.proofs.Steps.{Taken}
use Rattle.script_lang.proofs.parsing.parse.Given as goal

-- the lines that were taken, and those of the rest, are the text's
abbrev pub invariant-loop-rest : goal.invariant-loop-rest
invariant-loop-rest l =
    record {
      taken : Taken l.bytes l.rest l.number l.reader;
      count : l.number + length l.rest ≤ length l.bytes;
      short : length l.bytes ≤ most_bytes;
    }

abbrev pub decreases-loop-rest : goal.decreases-loop-rest
decreases-loop-rest l = length l.rest
