-- What is found, carried out, case by case.
use Rattle.std.proofs.Common.{◌≡◌, refl, Option, Some, None}
use Rattle.clv_base.specs.declared.names.TxId.{TxId}
use Rattle.clv_base.specs.declared.causes.Vote.{Vote}
use Rattle.clv_base.specs.declared.causes.Vote.TheVariants.{Yes, Read, No}
use Rattle.clv_base.specs.declared.state.Voter.{Voter}
use Rattle.clv_base.specs.declared.state.Ruling.TheVariants.{Commit as CommitVerdict, Acknowledge, Abort as AbortVerdict, End as EndVerdict}
use Rattle.clv_base.specs.Orders.{tx_get}
use Rattle.clv_base.specs.State.{Shard}
use Rattle.clv_base.specs.Due.{finish_reader}
use Rattle.due_step.specs.Found.{vote_sent}
use Rattle.due_step.specs.declared.finding.Due.TheVariants.{Commit, Vote as DueVote, Ruling as DueRuling}
use Rattle.due_step.specs.Carried.{voted, CarriesLocal}

voted_local : (s : Shard) (tx : TxId) (vote : Vote) (o : Option Voter) → (finish_reader tx vote (vote_sent s tx vote o)).local ≡ voted s.local tx vote
voted_local s tx Yes None = refl
voted_local s tx Yes (Some v) = refl
voted_local s tx Read None = refl
voted_local s tx Read (Some v) = refl
voted_local s tx (No why) None = refl
voted_local s tx (No why) (Some v) = refl

pub carries_local : CarriesLocal
carries_local s tx Commit = refl
carries_local s tx (DueVote vote) = voted_local s tx vote (tx_get tx s.voters)
carries_local s tx (DueRuling (CommitVerdict parts)) = refl
carries_local s tx (DueRuling Acknowledge) = refl
carries_local s tx (DueRuling (AbortVerdict cause to)) = refl
carries_local s tx (DueRuling EndVerdict) = refl
