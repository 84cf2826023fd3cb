use Rattle.std.proofs.Common.{◌≡◌, ℕ, List, ◌++◌, map}
use Rattle.live_lines.specs.declared.calls.Reply.{Reply}
use Rattle.live_streams.specs.Outputs.{lines_of}
use Rattle.live_streams.specs.Written.{TookOf}
use Rattle.live_streams.proofs.writing.take_of.Given as goal

abbrev pub invariant-loop : goal.invariant-loop
invariant-loop l = record {
  replies : List Reply;
  took : TookOf l.fn.answers l.answers replies;
  text : l.text.items ≡ l.fn.text.items ++ lines_of (map {B = ℕ × Reply} (λ r. (l.fn.lane, r)) replies);
}
