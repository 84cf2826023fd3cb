use Rattle.std.proofs.Common.{sym, ◌∙◌, ap, map}
use Rattle.clv_base.specs.declared.logs.LogRecord.{LogRecord}
use Rattle.clv_base.specs.Logs.{standing}
use Rattle.clv_base.specs.Undo.{newest_lsn}
use Rattle.log_buffer.specs.Buffers.{Buffer}
use Rattle.log_buffer.specs.Links.{link_of}
use Rattle.log_buffer.proofs.Standing.{newest_told}
use Rattle.log_buffer.proofs.undoing.LogBuffer+LogRecord.newest.Goals as goal

pub returns : goal.returns
returns c = let records = c.self.inside.records.items in
    c.lsn_of.ensures ∙ c.newest.ensures (map link_of records) c.self.invariant.2
    ∙ sym (newest_told c.args.tx records) ∙ ap (λ (v : Buffer LogRecord). newest_lsn c.args.tx (standing v.records)) c.self.view_is
