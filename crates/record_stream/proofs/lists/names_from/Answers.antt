use Rattle.record_stream.specs.Scanning.{names_from, first_name}
use Rattle.record_stream.proofs.Loops.{names_done}
use Rattle.record_stream.proofs.lists.names_from.Goals as goal

pub returns : goal.returns
returns c = names_done c.loop-more.more c.loop-more.least c.loop-more.rest.now (names_from c.args.count first_name c.args.bytes.now) c.loop-more-test.false c.loop-more.invariant.2
