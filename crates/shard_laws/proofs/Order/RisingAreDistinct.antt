-- Lists of transactions that rise have no transaction twice.
use Rattle.std.proofs.Common.{List, [], ◌∷◌, length}
use Rattle.clv_base.specs.declared.names.TxId.{TxId}
use Rattle.clv_base.specs.Logs.{StandingUpdate, writers}
use Rattle.clv_base.specs.State.{Local}
use Rattle.clv_base.specs.Undo.{doomed_by, doomed_here}
use Rattle.law_base.proofs.Sets.{Rise, writers_rise, through_rises, one_rises}
use Rattle.shard_laws.proofs.Cuts.MembersRunSerially.{Once, once_filter}
use Rattle.law_base.proofs.Names.{above_not_in}
use Rattle.std.specs.List.Sorted.{IsStrictlySortedBy}

pub rises_once : (xs : List TxId) → Rise xs → Once xs
unfolding IsStrictlySortedBy
rises_once [] h = tt
rises_once (x ∷ xs) h = (above_not_in x xs h.0, rises_once xs h.1)

pub writers_once : (ws : List StandingUpdate) → Once (writers ws)
writers_once ws = rises_once (writers ws) (writers_rise ws)

pub doomed_once : (l : Local) (tx : TxId) → Once (doomed_here l tx)
doomed_once l tx = once_filter _ (doomed_by l tx) (rises_once (doomed_by l tx) (through_rises (length l.pairs) l.pairs (tx ∷ []) (one_rises tx)))
