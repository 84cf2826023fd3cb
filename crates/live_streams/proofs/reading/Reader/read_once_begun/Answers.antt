use Rattle.live_streams.proofs.Taking.{reads_nothing}
use Rattle.live_streams.proofs.reading.Reader.read_once_begun.Goals as goal

pub returns-then-not-all_begun-clause-read : goal.returns-then-not-all_begun-clause-read
returns-then-not-all_begun-clause-read g c = reads_nothing (g.S.Source.left c.args.source.now) c.args.self.now.lines.items c.args.self.now.own.answers
