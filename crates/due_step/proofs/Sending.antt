-- What is found, carried out, sends, case by case.
use Rattle.std.proofs.Common.{◌≡◌, refl, sym, ap, ℕ, true, List, ◌++◌, Option, Some, None, append-nil}
use Rattle.clv_base.specs.declared.names.TxId.{TxId}
use Rattle.clv_base.specs.declared.causes.Vote.{Vote}
use Rattle.clv_base.specs.declared.causes.Vote.TheVariants.{Yes, Read, No}
use Rattle.clv_base.specs.declared.state.Voter.{Voter}
use Rattle.clv_base.specs.declared.state.Request.{Request}
use Rattle.clv_base.specs.declared.state.RequestState.{RequestState}
use Rattle.clv_base.specs.declared.messages.Message.{Message}
use Rattle.clv_base.specs.declared.state.RequestState.TheVariants.{Undecided, Committed, Finished, Refused}
use Rattle.clv_base.specs.declared.state.Ruling.TheVariants.{Commit as CommitVerdict, Acknowledge, Abort as AbortVerdict, End as EndVerdict}
use Rattle.clv_base.specs.Orders.{tx_get}
use Rattle.clv_base.specs.State.{Shard}
use Rattle.clv_base.specs.Due.{commit_messages, finish_reader}
use Rattle.two_phase_commit.specs.Voting.{home_by}
use Rattle.two_phase_commit.specs.Coordinated.{parts_of, told_by}
use Rattle.due_step.specs.Found.{vote_sent}
use Rattle.due_step.specs.declared.finding.Due.TheVariants.{Commit, Vote as DueVote, Ruling as DueRuling}
use Rattle.due_step.specs.Sent.{decide_all, told, CarriesMessages}
use Rattle.law_base.proofs.Names.{by_state}

state_told : (tx : TxId) (shard : ℕ) (st : RequestState) → by_state tx shard st ≡ decide_all tx shard true (parts_of st)
state_told tx shard (Committed parts) = refl
state_told tx shard Undecided = refl
state_told tx shard Finished = refl
state_told tx shard (Refused c) = refl

commit_told : (s : Shard) (tx : TxId) (o : Option Request) (v : Option Voter) → commit_messages s tx o v ≡ told tx s.shard Commit (home_by v) (told_by o)
commit_told s tx (Some q) v = state_told tx s.shard q.state
commit_told s tx None (Some v) = refl
commit_told s tx None None = refl

vote_told : (s : Shard) (tx : TxId) (vote : Vote) (o : Option Voter) (ps : Option (List ℕ)) → (finish_reader tx vote (vote_sent s tx vote o)).outbox ≡ s.outbox ++ told tx s.shard (DueVote vote) (home_by o) ps
vote_told s tx Yes None ps = sym (append-nil s.outbox)
vote_told s tx Yes (Some v) ps = refl
vote_told s tx Read None ps = sym (append-nil s.outbox)
vote_told s tx Read (Some v) ps = refl
vote_told s tx (No why) None ps = sym (append-nil s.outbox)
vote_told s tx (No why) (Some v) ps = refl

pub carries_messages : CarriesMessages
carries_messages s tx Commit = ap (λ (ms : List Message). s.outbox ++ ms) (commit_told s tx (tx_get tx s.requests) (tx_get tx s.voters))
carries_messages s tx (DueVote vote) = vote_told s tx vote (tx_get tx s.voters) (told_by (tx_get tx s.requests))
carries_messages s tx (DueRuling (CommitVerdict parts)) = sym (append-nil s.outbox)
carries_messages s tx (DueRuling Acknowledge) = sym (append-nil s.outbox)
carries_messages s tx (DueRuling (AbortVerdict cause to)) = refl
carries_messages s tx (DueRuling EndVerdict) = sym (append-nil s.outbox)
