-- A record is done where its transaction passes.
use Rattle.std.specs.Prelude.{Bool, cond}
use Rattle.clv_base.specs.declared.names.TxId.{TxId}
use Rattle.clv_base.specs.declared.logs.LogRecord.{LogRecord}
use Rattle.clv_base.specs.declared.logs.LogRecord.TheVariants.{Update, Add}
use Rattle.clv_base.specs.Maps.{KeyMap, map_set, map_add}

abbrev pub with_record : (TxId → Bool) → LogRecord → KeyMap → KeyMap
with_record keep (Update tx key before after) m = cond (keep tx) (map_set key after m) m
with_record keep (Add tx key by) m = cond (keep tx) (map_add key by m) m
with_record keep _ m = m
