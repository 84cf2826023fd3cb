use Rattle.std.proofs.Common.{Bool}
use Rattle.live_streams.proofs.Adding.{text_short}
use Rattle.live_streams.proofs.writing.write_round.Goals as goal

pub returns-in-Err-clause-took : goal.returns-in-Err-clause-took
returns-in-Err-clause-took g c =
    text_short Bool c.args.all.now.items c.take_all.new.all.items c.args.text.now.items c.take_all.new.text.items (g.K.Sink.taken c.args.sink.now) c.in-Err.error c.in-Err.ensures
