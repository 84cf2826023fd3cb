use Rattle.std.proofs.Common.{Err, ap}
use Rattle.log_records.specs.declared.error.DecodeError.{DecodeError}
use Rattle.record_stream.proofs.Laws.Coming.{no_beginning}
use Rattle.record_stream.proofs.stream.first.Goals as goal

pub returns-else-is_unfinished-clause-bad : goal.returns-else-is_unfinished-clause-bad
returns-else-is_unfinished-clause-bad c = λ e. no_beginning c.args.bytes.now (c.in-Err-Bad.ensures.bad (ap (λ (x : DecodeError). Err x) c.in-Err-Bad.field-0-is))
    (λ u. let yes = c.is_unfinished.ensures.1 u in let no = c.if-is_unfinished.false in absurd cc)
