-- The voter that is there votes by its facts, and is put back.
use Rattle.std.proofs.Common.{◌≡◌, Some, sym, ap, subst, ◌∙◌}
use Rattle.clv_base.specs.Orders.{tx_get, tx_cmp}
use Rattle.clv_base.specs.Participant.{voted}
use Rattle.std.specs.BTreeMap.{insert_entry}
use Rattle.two_phase_commit.specs.Voting.{Voting, vote_of, voters_by}
use Rattle.two_phase_commit.proofs.Setting.{set_found}
use Rattle.two_phase_commit.proofs.participant.Participant.vote_due.Goals as goal

pub returns-clause-vote : goal.returns-clause-vote
returns-clause-vote c =
    let there : tx_get c.args.tx c.self.inside.voters.entries ≡ Some c.in-Some.voter = sym c.get.ensures.value ∙ sym c.copied.ensures ∙ c.in-Some.is in
    sym c.in-Some-due_vote.is ∙ c.due_vote.ensures ∙ ap (vote_of c.args.facts.now) (sym there) ∙ ap (λ (v : Voting). vote_of c.args.facts.now (tx_get c.args.tx v.voters)) c.self.view_is

pub returns-clause-voters : goal.returns-clause-voters
returns-clause-voters c =
    let tx = c.args.tx in let old = c.self.inside.voters.entries in let vote = c.in-Some-due_vote.vote in
    let there : tx_get tx old ≡ Some c.in-Some.voter = sym c.get.ensures.value ∙ sym c.copied.ensures ∙ c.in-Some.is in
    let set : c.insert.new.self.entries ≡ voters_by tx (tx_get tx old) (Some vote) old =
    c.in-Ok.ensures.entries ∙ ap (insert_entry tx_cmp old tx) c.voted.ensures
    ∙ set_found tx (voted vote c.in-Some.voter) c.in-Some.voter old c.in-Ok.ensures.was_ordered there ∙ ap (λ o. voters_by tx o (Some vote) old) (sym there) in
    subst (λ (v : Voting). ◌≡◌ {A = Voting} (record { shard = c.self.inside.shard; voters = c.insert.new.self.entries }) (record { shard = v.shard; voters = voters_by tx (tx_get tx v.voters) (Some vote) v.voters }))
    c.self.view_is (ap (λ l. record { shard = c.self.inside.shard; voters = l }) set)
