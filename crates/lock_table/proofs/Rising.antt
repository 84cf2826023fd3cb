-- The transactions whose writes are violated rise.
use Rattle.std.proofs.Common.{not, ◌&&◌, List, [], ◌∷◌}
use Rattle.std.specs.List.Sorted.{IsStrictlySortedBy}
use Rattle.clv_base.specs.declared.names.TxId.{TxId}
use Rattle.clv_base.specs.declared.modes.Need.{Need}
use Rattle.clv_base.specs.Modes.{writes}
use Rattle.clv_base.specs.Orders.{tx_cmp, tx_same}
use Rattle.clv_base.specs.Locks.{Locks, meets, violated_by, violated}
use Rattle.law_base.proofs.Sets.{insert_if, nothing_rises}

violated_by-rises : (tx : TxId) (needs : List Need) (rows : Locks) (txs : List TxId) → IsStrictlySortedBy tx_cmp txs → IsStrictlySortedBy tx_cmp (violated_by tx needs rows txs)
violated_by-rises tx needs [] txs s = s
violated_by-rises tx needs (r ∷ rs) txs s = violated_by-rises tx needs rs _ (insert_if (not (tx_same tx (r.1).tx) && (r.1).closed && meets writes needs r) (r.1).tx txs s)

-- the list of whom a grant violates rises, and so has each once
pub violated-rises : (tx : TxId) (needs : List Need) (rows : Locks) → IsStrictlySortedBy tx_cmp (violated tx needs rows)
violated-rises tx needs rows = violated_by-rises tx needs rows [] nothing_rises
