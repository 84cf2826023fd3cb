use Rattle.std.proofs.Common.{rules}
use Rattle.live_lines.proofs.CallWords.{uncalled}
use Rattle.live_lines.proofs.requests.call_of.Goals as goal

pub returns-in-None-clause-ok : goal.returns-in-None-clause-ok
returns-in-None-clause-ok c = uncalled c.args.words.now (search rules) (rw c.in-None.is at c.in_ok-line.ensures.ok)
