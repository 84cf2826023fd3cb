-- Nor does a `&` to it.
use Rattle.std.proofs.Common.{[]}
use denote.Param.Send.{IsSync, struct_sync}
use denote.Struct.Owning.{shape}
use Rattle.bytes.proofs.Crosses.{seen_owns-keyless}
use Rattle.still_bytes.specs.contracts.still.Sight as C

pub sync : IsSync C.the_row
sync = record { shared = λ s b o κ. ((struct_sync (shape C.the_type) tt).shared tt b o κ, seen_owns-keyless [] [] s.ptr s.items) }
