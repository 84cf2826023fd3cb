use Rattle.std.proofs.Common.{◌∙◌, ap, map, refl, subst, List}
use Rattle.clv_base.specs.declared.logs.LogRecord.{LogRecord}
use Rattle.report_text.specs.Sinks.{TakesText}
use Rattle.standby_base.specs.Standby.{shown}
use Rattle.clv_commands.specs.Standing.{firsts, standby_text, IsTextOf}
use Rattle.clv_commands.proofs.Standbys.{by_writing, by_refusal}
use Rattle.io_model.specs.Sides.{sides_told}
use Rattle.clv_commands.proofs.standing.standby.Goals as goal

pub returns-in-Err : goal.returns-in-Err
returns-in-Err g c =
    let F = g.H.House.faults in let S = g.H.House.story in let K = g.K.Sink.faults in let T = g.K.Sink.taken in
    let h0 = c.args.house.now in let h1 = c.read_logs.new.house in let k0 = c.args.sink.now in let e = c.in-Err.ensures in
    let a = by_refusal c.args.counts.now (sides_told (S h0)) (F h0) (F h1) (K k0) (T k0) c.in-Err.error c.into.result c.into.ensures e.unworn e.refused e.cause in
    record { kind = a.kind; shown = a.shown; unchanged = c.read_logs.ensures.unchanged; logs = a.logs; sink = a.of_sink; disks = a.disks; back = c.read_logs.ensures.back }

pub returns : goal.returns
returns g c =
    let F = g.H.House.faults in let S = g.H.House.story in let K = g.K.Sink.faults in let T = g.K.Sink.taken in
    let h0 = c.args.house.now in let h1 = c.read_logs.new.house in let k0 = c.args.sink.now in let k1 = c.text_into.new.sink in let e = c.in-Ok.ensures in
    let ns = c.args.counts.now in let logs = map (λ l. l.items) c.in-Ok.logs.items in let text = standby_text (shown (firsts ns logs)) in
    let is : IsTextOf ns (sides_told (S h0)) text = record { splits = e.read.0; logs = logs; held = e.read.1; agree = e.agree; is = refl } in
    let takes = subst (λ (ls : List (List LogRecord)). TakesText (T k0) (T k1) (standby_text (shown ls)) c.text_into.result)
    (ap (λ ls. map (λ l. l.items) ls) c.as_slice.ensures.value ∙ c.keep_firsts.ensures) c.text_into.ensures.took in
    let a = by_writing ns (sides_told (S h0)) (F h0) (F h1) text c.text_into.result (K k0) (K k1) (T k0) (T k1) e.stand is takes c.text_into.ensures.cause in
    rw c.after_text.ensures (record { kind = a.kind; shown = a.shown; unchanged = c.read_logs.ensures.unchanged; logs = a.logs; sink = a.of_sink; disks = a.disks; back = c.read_logs.ensures.back })
