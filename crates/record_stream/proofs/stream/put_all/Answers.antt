use Rattle.std.proofs.Common.{◌≡◌, Err, ap}
use Rattle.std.proofs.lemmas.Result.{err_from_is_err_and}
use Rattle.record_stream.specs.declared.error.StreamError.{StreamError}
use Rattle.record_stream.specs.declared.error.StreamError.TheVariants.{Bad}
use Rattle.record_stream.proofs.Laws.Coming.{stands_some, within, still_bad}
use Rattle.record_stream.proofs.stream.put_all.Goals as goal

pub returns-in_err-record-clause-bad : goal.returns-in_err-record-clause-bad
returns-in_err-record-clause-bad c =
    let p = err_from_is_err_and c.from_residual.result c.from_residual.ensures.1 in
    rw (p.1, p.2)
    (λ e. let is : c.in_err-record.field-0.0 ≡ Bad = cc in
    still_bad c.args.records.now.items c.loop-record.records.items c.loop-record.rest.now c.args.bytes.now c.loop-record.invariant (c.in_err-record.ensures.bad (ap (λ (x : StreamError). Err x) is)))

pub behind-rest-requires : goal.behind-rest-requires
behind-rest-requires c =
    let s = stands_some c.loop-record.rest.now c.in_ok-record.field-0 c.in-Some.record c.in-Some.size c.in_ok-record.ensures.stands c.in-Some.is in
    (within c.loop-record.rest.now c.in-Some.record c.in-Some.size s.0 s.1).1
