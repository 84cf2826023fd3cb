-- Case by case.
use Rattle.std.proofs.Common.{◌≡◌, refl, false, List, [], ◌∷◌, Option, Some, None}
use Rattle.clv_base.specs.declared.names.TxId.{TxId}
use Rattle.clv_base.specs.declared.causes.Vote.{Vote}
use Rattle.clv_base.specs.declared.causes.Vote.TheVariants.{Yes, Read, No}
use Rattle.clv_base.specs.declared.state.Voter.{Voter}
use Rattle.clv_base.specs.declared.state.Request.{Request}
use Rattle.clv_base.specs.declared.state.Ruling.{Ruling}
use Rattle.clv_base.specs.declared.state.Ruling.TheVariants.{Commit as CommitVerdict, Acknowledge, Abort as AbortVerdict, End as EndVerdict}
use Rattle.clv_base.specs.Orders.{Table, tx_same, tx_get}
use Rattle.clv_base.specs.State.{Shard, with_local}
use Rattle.clv_base.specs.Undo.{doomed_here}
use Rattle.clv_base.specs.Coordinator.{ruled_request}
use Rattle.clv_base.specs.OneShard.{purge}
use Rattle.clv_base.specs.Due.{finish_reader, do_ruling}
use Rattle.two_phase_commit.specs.Coordinated.{requests_by}
use Rattle.protocol_laws.specs.Changes.{ChangesDue, successors_of}
use Rattle.protocol_laws.specs.Steps.{ruled_touch}
use Rattle.protocol_laws.proofs.Laws.{cover_grows}
use Rattle.protocol_laws.proofs.Laws.{releases_change, roll_backs_change, commits_change, ends_change}
use Rattle.protocol_laws.proofs.Laws.{commits_touch, votes_touch, set_other, other_in, rest_out}
use Rattle.due_step.specs.Found.{vote_sent, with_tables, carried}
use Rattle.due_step.specs.declared.finding.Due.{Due}
use Rattle.due_step.specs.declared.finding.Due.TheVariants.{Commit, Vote as DueVote, Ruling as DueRuling}
use Rattle.due_step.specs.Covering.{touched, CarriedCovers}

-- ghosts that go touch nobody
purged_change : (set : List TxId) (s t : Shard) → ChangesDue set s t → ChangesDue set s (with_local purge t)
purged_change set s t c = record { shard = c.shard; facts = c.facts; voters = c.voters; requests = c.requests }

vote_change : (s : Shard) (tx : TxId) (vote : Vote) (o : Option Voter) → ChangesDue (tx ∷ []) s (finish_reader tx vote (vote_sent s tx vote o))
vote_change s tx vote (Some v) = votes_touch s tx v vote
vote_change s tx Yes None = record { shard = refl; facts = λ x out. refl; voters = λ x out. refl; requests = λ x out. refl }
vote_change s tx Read None = record { shard = refl; facts = λ x out. releases_change s.local (tx ∷ []) None x out s.durable; voters = λ x out. refl; requests = λ x out. refl }
vote_change s tx (No why) None = record { shard = refl; facts = λ x out. refl; voters = λ x out. refl; requests = λ x out. refl }

requests_other : (x tx : TxId) (r : Ruling) (o : Option Request) (rs : Table Request) → tx_same x tx ≡ false → tx_get x (requests_by tx o (Some r) rs) ≡ tx_get x rs
requests_other x tx r None rs o = refl
requests_other x tx r (Some q) rs o = set_other x tx (ruled_request r q) rs o

ruling_change : (s : Shard) (tx : TxId) (r : Ruling) (o : Option Request) → ChangesDue (ruled_touch s.local tx r) s (do_ruling tx r (with_tables s.voters (requests_by tx o (Some r) s.requests) s))
ruling_change s tx (CommitVerdict parts) o = record {
  shard = refl;
  facts = λ x out. commits_change s.local tx parts x out s.durable;
  voters = λ x out. refl;
  requests = λ x out. requests_other x tx (CommitVerdict parts) o s.requests (other_in x tx (successors_of s.local.pairs tx) out);
}
ruling_change s tx Acknowledge o = record {
  shard = refl;
  facts = λ x out. releases_change s.local (tx ∷ []) None x out s.durable;
  voters = λ x out. refl;
  requests = λ x out. requests_other x tx Acknowledge o s.requests (other_in x tx [] out);
}
ruling_change s tx (AbortVerdict cause to) o = record {
  shard = refl;
  facts = λ x out. roll_backs_change s.local tx x (rest_out x tx (doomed_here s.local tx) out) s.durable;
  voters = λ x out. refl;
  requests = λ x out. requests_other x tx (AbortVerdict cause to) o s.requests (other_in x tx (doomed_here s.local tx) out);
}
ruling_change s tx EndVerdict o = record {
  shard = refl;
  facts = λ x out. ends_change s.local tx x refl s.durable;
  voters = λ x out. refl;
  requests = λ x out. requests_other x tx EndVerdict o s.requests (other_in x tx [] out);
}

change : (s : Shard) (tx : TxId) (due : Due) → ChangesDue (touched s.local tx due) s (carried s tx due)
change s tx Commit = commits_touch s tx
change s tx (DueVote vote) = vote_change s tx vote (tx_get tx s.voters)
change s tx (DueRuling r) = ruling_change s tx r (tx_get tx s.requests)

pub carried_covers : CarriedCovers
carried_covers s tx due txs cover = cover_grows (touched s.local tx due) txs s (with_local purge (carried s tx due)) (purged_change (touched s.local tx due) s (carried s tx due) (change s tx due)) cover
