use Rattle.std.proofs.Common.{◌≡◌, ◌++◌, map, drop}
use Rattle.serde_json.specs.View.{view}
use Rattle.live_lines.specs.Replies.{num}
use Rattle.live_lines.proofs.replies.add_numbers.Given as goal

abbrev pub invariant-loop-number : goal.invariant-loop-number
invariant-loop-number l = map view l.values.items ++ map num (drop l.number-index l.numbers) ≡ map view l.fn.values.items ++ map num l.numbers
