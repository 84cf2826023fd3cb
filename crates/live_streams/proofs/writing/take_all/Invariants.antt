use Rattle.std.proofs.Common.{◌≡◌, ℕ, List, ◌++◌}
use Rattle.live_lines.specs.declared.calls.Reply.{Reply}
use Rattle.live_streams.specs.Outputs.{lines_of}
use Rattle.live_streams.specs.Written.{TookEach}
use Rattle.live_streams.proofs.writing.take_all.Given as goal

abbrev pub invariant-loop-lane : goal.invariant-loop-lane
invariant-loop-lane l = record {
  written : List (ℕ × Reply);
  took : TookEach l.fn.all.items l.all.items written;
  text : l.text.items ≡ l.fn.text.items ++ lines_of written;
}
