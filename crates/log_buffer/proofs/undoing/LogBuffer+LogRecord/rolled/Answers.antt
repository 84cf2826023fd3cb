use Rattle.std.proofs.Common.{◌∙◌, ap, map}
use Rattle.clv_base.specs.declared.logs.LogRecord.{LogRecord}
use Rattle.clv_base.specs.Logs.{undone_lsn}
use Rattle.log_buffer.specs.Buffers.{Buffer}
use Rattle.log_buffer.specs.Links.{link_of}
use Rattle.log_buffer.proofs.Standing.{undone_told}
use Rattle.log_buffer.proofs.undoing.LogBuffer+LogRecord.rolled.Goals as goal

pub returns : goal.returns
returns c = let records = c.self.inside.records.items in
    c.lsn_of.ensures ∙ c.undone.ensures (map link_of records) c.self.invariant.2
    ∙ undone_told c.args.tx records ∙ ap (λ (v : Buffer LogRecord). undone_lsn v.records c.args.tx) c.self.view_is
