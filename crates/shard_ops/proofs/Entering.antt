-- A transaction's part, by whether it is known already.
use Rattle.std.proofs.Common.{◌≡◌, true, false, refl, Option, Some, None, is_some}
use Rattle.std.proofs.lemmas.Bool.{both_ways}
use Rattle.clv_base.specs.declared.names.TxId.{TxId}
use Rattle.clv_base.specs.declared.names.Birth.{Birth}
use Rattle.clv_base.specs.declared.state.Held.{Held}
use Rattle.clv_base.specs.Orders.{Table, tx_put}
use Rattle.clv_base.specs.OneShard.{new_part, active_part}

pub known_stays : (tx : TxId) (birth : Birth) (o : Option Held) (parts : Table Held) → is_some o ≡ true → parts ≡ new_part tx birth o parts
known_stays tx birth None parts known = absurd (both_ways false refl known)
known_stays tx birth (Some h) parts known = refl

pub new_enters : (tx : TxId) (birth : Birth) (o : Option Held) (parts : Table Held) → is_some o ≡ false → tx_put tx (active_part birth) parts ≡ new_part tx birth o parts
new_enters tx birth None parts new = refl
new_enters tx birth (Some h) parts new = absurd (both_ways true new refl)
