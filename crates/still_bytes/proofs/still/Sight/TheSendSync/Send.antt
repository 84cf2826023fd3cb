-- It names no thread.
use Rattle.std.proofs.Common.{[]}
use denote.Param.Send.{IsSend, owning_send}
use Rattle.bytes.proofs.Crosses.{seen_owns-keyless}
use Rattle.still_bytes.specs.contracts.still.Sight as C

pub send : IsSend C.the_row
send = owning_send C.the_type tt (λ s. seen_owns-keyless [] [] s.ptr s.items) (λ k x w. tt)
