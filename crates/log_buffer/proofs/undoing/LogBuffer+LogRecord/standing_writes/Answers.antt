use Rattle.std.proofs.Common.{◌∙◌, ap, map, length}
use Rattle.std.specs.List.{filter}
use Rattle.clv_base.specs.declared.logs.LogRecord.{LogRecord}
use Rattle.clv_base.specs.Orders.{tx_same}
use Rattle.clv_base.specs.Logs.{standing}
use Rattle.log_buffer.specs.Buffers.{Buffer}
use Rattle.log_buffer.specs.Links.{link_of}
use Rattle.log_buffer.proofs.Standing.{count_told}
use Rattle.log_buffer.proofs.undoing.LogBuffer+LogRecord.standing_writes.Goals as goal

pub returns : goal.returns
returns c = let records = c.self.inside.records.items in
    c.count.ensures (map link_of records) c.self.invariant.2
    ∙ count_told c.args.tx records ∙ ap (λ (v : Buffer LogRecord). length (filter (λ w. tx_same c.args.tx w.tx) (standing v.records))) c.self.view_is
