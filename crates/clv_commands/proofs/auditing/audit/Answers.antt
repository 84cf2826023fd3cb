use Rattle.std.proofs.Common.{refl, map}
use Rattle.cluster_opening.proofs.Laws.{same_disk}
use Rattle.clv_base.specs.Logs.{stands}
use Rattle.io_model.specs.Sides.{sides_told}
use Rattle.clv_audit.specs.Verdicts.{IsVerdict}
use Rattle.clv_commands.proofs.Audited.{judged, by_writing, by_memory, by_refusal, by_reading}
use Rattle.clv_commands.proofs.auditing.audit.Goals as goal

pub returns-in-Err : goal.returns-in-Err
returns-in-Err g c =
    let left = g.S.Source.left in let counts = g.S.Source.faults in let F = g.H.House.faults in let S = g.H.House.story in let K = g.K.Sink.faults in let T = g.K.Sink.taken in
    let s0 = c.args.source.now in let s1 = c.read_source.new.source in let h0 = c.args.house.now in let k0 = c.args.sink.now in
    let a = by_reading (left s0) (left s1) (sides_told (S h0)) (counts s0) (counts s1) (K k0) (T k0) (F h0) c.in-Err.status c.in-Err.ensures.refused c.in-Err.ensures.cause in
    record { kind = a.kind; audited = a.audited; took = a.took; unchanged = λ n. same_disk (sides_told (S h0) n) (sides_told (S h0) n) refl; read = a.read; logs = a.logs; report = a.report; source = a.of_source; sink = a.of_sink; disks = a.disks; back = c.requires.inside }

pub verdict_on-requires : goal.verdict_on-requires
verdict_on-requires g c = c.in-Ok.ensures.read.2.can

pub returns-in-Err-read_logs : goal.returns-in-Err-read_logs
returns-in-Err-read_logs g c =
    let left = g.S.Source.left in let counts = g.S.Source.faults in let F = g.H.House.faults in let S = g.H.House.story in let K = g.K.Sink.faults in let T = g.K.Sink.taken in
    let s0 = c.args.source.now in let s1 = c.read_source.new.source in let h0 = c.args.house.now in let k0 = c.args.sink.now in
    let h1 = c.read_logs.new.house in let e = c.in-Err-read_logs.ensures in
    let a = by_refusal (left s0) (left s1) c.in-Ok.reported (sides_told (S h0)) (counts s0) (counts s1) (F h0) (F h1) c.in-Ok.ensures.read c.in-Ok.ensures.cause (K k0) (T k0) c.in-Err-read_logs.error c.into.result c.into.ensures e.unworn e.refused e.cause in
    record { kind = a.kind; audited = a.audited; took = a.took; unchanged = c.read_logs.ensures.unchanged; read = a.read; logs = a.logs; report = a.report; source = a.of_source; sink = a.of_sink; disks = a.disks; back = c.read_logs.ensures.back }

pub returns-in-Ok-verdict_on : goal.returns-in-Ok-verdict_on
returns-in-Ok-verdict_on g c =
    let left = g.S.Source.left in let counts = g.S.Source.faults in let F = g.H.House.faults in let S = g.H.House.story in let K = g.K.Sink.faults in let T = g.K.Sink.taken in
    let s0 = c.args.source.now in let s1 = c.read_source.new.source in let h0 = c.args.house.now in let k0 = c.args.sink.now in
    let h1 = c.read_logs.new.house in let k1 = c.write_verdict.new.sink in let e = c.in-Ok-read_logs.ensures in let r = c.in-Ok.reported in let v = c.in-Ok-verdict_on.verdict in
    let is : IsVerdict r (stands (map (λ l. l.items) c.in-Ok-read_logs.logs.items)) v = rw c.deref.ensures.value at c.in-Ok-verdict_on.ensures in
    let j = judged (left s0) (left s1) r (sides_told (S h0)) e.read.0 (map (λ l. l.items) c.in-Ok-read_logs.logs.items) v c.in-Ok.ensures.read e.read.1 e.agree is in
    let a = by_writing (left s0) (left s1) r (sides_told (S h0)) (counts s0) (counts s1) (F h0) (F h1) c.in-Ok.ensures.read c.in-Ok.ensures.cause (K k0) (K k1) (T k0) (T k1) e.stand v c.write_verdict.result j c.write_verdict.ensures in
    record { kind = a.kind; audited = a.audited; took = a.took; unchanged = c.read_logs.ensures.unchanged; read = a.read; logs = a.logs; report = a.report; source = a.of_source; sink = a.of_sink; disks = a.disks; back = c.read_logs.ensures.back }

pub returns : goal.returns
returns g c =
    let left = g.S.Source.left in let counts = g.S.Source.faults in let F = g.H.House.faults in let S = g.H.House.story in let K = g.K.Sink.faults in let T = g.K.Sink.taken in
    let s0 = c.args.source.now in let s1 = c.read_source.new.source in let h0 = c.args.house.now in let k0 = c.args.sink.now in
    let h1 = c.read_logs.new.house in
    let a = by_memory (left s0) (left s1) c.in-Ok.reported (sides_told (S h0)) (counts s0) (counts s1) (F h0) (F h1) c.in-Ok.ensures.read c.in-Ok.ensures.cause (K k0) (T k0) c.in-Ok-read_logs.ensures.stand in
    record { kind = a.kind; audited = a.audited; took = a.took; unchanged = c.read_logs.ensures.unchanged; read = a.read; logs = a.logs; report = a.report; source = a.of_source; sink = a.of_sink; disks = a.disks; back = c.read_logs.ensures.back }
