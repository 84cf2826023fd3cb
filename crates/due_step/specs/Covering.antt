-- Whom it makes a candidate that something due is done.
use Rattle.std.specs.Prelude.{List, [], ◌∷◌, ◌++◌}
use Rattle.clv_base.specs.declared.names.TxId.{TxId}
use Rattle.clv_base.specs.State.{Local, Shard, with_local}
use Rattle.clv_base.specs.OneShard.{purge}
use Rattle.protocol_laws.specs.Candidates.{Cover}
use Rattle.protocol_laws.specs.Steps.{ruled_touch}
use Rattle.due_step.specs.Found.{carried}
use Rattle.due_step.specs.declared.finding.Due.{Due}
use Rattle.due_step.specs.declared.finding.Due.TheVariants.{Commit, Vote as DueVote, Ruling as DueRuling}

-- its own transaction, with a commit its successors, with an abort the doomed that are here
abbrev pub touched : Local → TxId → Due → List TxId
touched l tx Commit = tx ∷ []
touched l tx (DueVote vote) = tx ∷ []
touched l tx (DueRuling r) = ruled_touch l tx r

-- where they are put in, the candidates still hold all for which something is due
abbrev pub CarriedCovers : Type 0
CarriedCovers = (s : Shard) (tx : TxId) (due : Due) (txs : List TxId) → Cover txs s → Cover (touched s.local tx due ++ txs) (with_local purge (carried s tx due))
