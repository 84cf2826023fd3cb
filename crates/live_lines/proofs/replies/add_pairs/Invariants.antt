use Rattle.std.proofs.Common.{◌≡◌, ◌++◌, map, drop}
use Rattle.serde_json.specs.View.{view}
use Rattle.live_lines.specs.Replies.{pair}
use Rattle.live_lines.proofs.replies.add_pairs.Given as goal

abbrev pub invariant-loop-entry : goal.invariant-loop-entry
invariant-loop-entry l = map view l.values.items ++ map pair (drop l.entry-index l.pairs) ≡ map view l.fn.values.items ++ map pair l.pairs
