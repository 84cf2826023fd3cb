-- What is found to be due for a transaction, and what doing it comes to.
use Rattle.std.specs.Prelude.{◌≡◌, Bool, ◌&&◌, Option, Some, None}
use Rattle.clv_base.specs.declared.names.TxId.{TxId}
use Rattle.clv_base.specs.declared.causes.Vote.{Vote}
use Rattle.clv_base.specs.declared.parts.PartFacts.{PartFacts}
use Rattle.clv_base.specs.declared.state.Voter.{Voter}
use Rattle.clv_base.specs.declared.state.Request.{Request}
use Rattle.clv_base.specs.Orders.{Table, tx_get}
use Rattle.clv_base.specs.State.{Shard}
use Rattle.clv_base.specs.Facts.{is_closed_state, has_durable_commit}
use Rattle.clv_base.specs.Due.{with_commit_done, with_vote, finish_reader, do_ruling, due_of}
use Rattle.two_phase_commit.specs.Voting.{voters_by}
use Rattle.two_phase_commit.specs.Coordinated.{requests_by, IsSpelledRuling}
use Rattle.due_step.specs.declared.finding.Due.{Due}
use Rattle.due_step.specs.declared.finding.Due.TheVariants.{Commit, Vote as DueVote, Ruling as DueRuling}

-- a COMMIT of its part that is here became durable
abbrev pub is_commit_due : PartFacts → Bool
is_commit_due f = is_closed_state f.state && has_durable_commit f

-- the state with its tables of voters and requests
abbrev pub with_tables : Table Voter → Table Request → Shard → Shard
with_tables voters requests s = record s { voters = voters; requests = requests }

abbrev pub voters_after : Shard → TxId → Due → Table Voter
voters_after s tx Commit = s.voters
voters_after s tx (DueVote vote) = voters_by tx (tx_get tx s.voters) (Some vote) s.voters
voters_after s tx (DueRuling r) = s.voters

abbrev pub requests_after : Shard → TxId → Due → Table Request
requests_after s tx Commit = s.requests
requests_after s tx (DueVote vote) = s.requests
requests_after s tx (DueRuling r) = requests_by tx (tx_get tx s.requests) (Some r) s.requests

-- the vote goes out to the voter's home
abbrev pub vote_sent : Shard → TxId → Vote → Option Voter → Shard
vote_sent s tx vote None = s
vote_sent s tx vote (Some v) = with_vote s tx v vote

-- what is found, carried out
abbrev pub carried : Shard → TxId → Due → Shard
carried s tx Commit = with_commit_done s tx
carried s tx (DueVote vote) = finish_reader tx vote (vote_sent s tx vote (tx_get tx s.voters))
carried s tx (DueRuling r) = do_ruling tx r (with_tables s.voters (requests_after s tx (DueRuling r)) s)

-- the record that carrying it out writes has a spelling
abbrev pub IsSpelledDue : TxId → Due → Type 0
IsSpelledDue tx Commit = Unit {0}
IsSpelledDue tx (DueVote vote) = Unit {0}
IsSpelledDue tx (DueRuling r) = IsSpelledRuling tx r

-- what is found is what the definition does for the transaction, and the tables are those after it
abbrev pub Finds : Shard → TxId → Option Due → Table Voter → Table Request → Type 0
Finds s tx None voters requests = (due_of s tx ≡ None) × (voters ≡ s.voters) × (requests ≡ s.requests)
Finds s tx (Some due) voters requests = (due_of s tx ≡ Some (carried s tx due)) × (voters ≡ voters_after s tx due) × (requests ≡ requests_after s tx due)
