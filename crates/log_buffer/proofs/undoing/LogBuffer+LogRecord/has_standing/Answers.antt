use Rattle.std.proofs.Common.{◌∙◌, ap, map, is_some}
use Rattle.clv_base.specs.declared.logs.LogRecord.{LogRecord}
use Rattle.clv_base.specs.Logs.{has_standing}
use Rattle.log_buffer.specs.Buffers.{Buffer}
use Rattle.log_buffer.specs.Links.{link_of}
use Rattle.log_buffer.proofs.Standing.{any_told}
use Rattle.log_buffer.proofs.undoing.LogBuffer+LogRecord.has_standing.Goals as goal

pub returns : goal.returns
returns c = let records = c.self.inside.records.items in
    c.is_some.ensures ∙ ap is_some (c.newest.ensures (map link_of records) c.self.invariant.2)
    ∙ any_told c.args.tx records ∙ ap (λ (v : Buffer LogRecord). has_standing v.records c.args.tx) c.self.view_is
