-- Nothing is found by the part, its COMMIT and the request alone.
use Rattle.std.proofs.Common.{◌≡◌, false, cond, ◌&&◌, Option, Some, None, refl, ap, ◌∙◌}
use Rattle.clv_base.specs.declared.names.TxId.{TxId}
use Rattle.clv_base.specs.declared.state.Request.{Request}
use Rattle.clv_base.specs.declared.state.Ruling.{Ruling}
use Rattle.clv_base.specs.declared.state.Stage.{Stage}
use Rattle.clv_base.specs.declared.state.Stage.TheVariants.{Active, Closed, Gone}
use Rattle.clv_base.specs.declared.state.Voter.{Voter}
use Rattle.clv_base.specs.Orders.{tx_get}
use Rattle.clv_base.specs.State.{Shard}
use Rattle.clv_base.specs.Undo.{stage_of}
use Rattle.clv_base.specs.Facts.{facts_of, has_durable_commit, is_closed_state, state_by}
use Rattle.clv_base.specs.Due.{commit_due, or_else, request_due, rule, vote_due, with_commit_done}
use Rattle.two_phase_commit.specs.Coordinated.{ruling_of}
use Rattle.two_phase_commit.specs.Voting.{home_by}
use Rattle.due_step.specs.Found.{is_commit_due, Finds}

not_landed : (s : Shard) (tx : TxId) (o : Option Stage) → (is_closed_state (state_by o) && has_durable_commit (facts_of s tx)) ≡ false → commit_due s tx o ≡ None
not_landed s tx None e = refl
not_landed s tx (Some Active) e = refl
not_landed s tx (Some Closed) e = ap (λ b. cond b (Some (with_commit_done s tx)) None) e
not_landed s tx (Some (Gone d)) e = refl

no_vote : (s : Shard) (tx : TxId) (o : Option Voter) → home_by o ≡ None → vote_due s tx o ≡ None
no_vote s tx None e = refl
no_vote s tx (Some v) e = absurd cc

no_ruling : (s : Shard) (tx : TxId) (o : Option Request) → ruling_of s.shard tx (facts_of s tx) o ≡ None → request_due s tx o ≡ None
no_ruling s tx None e = refl
no_ruling s tx (Some q) e = ap (λ (r : Option Ruling). rule s tx q r) e

pub finds_nothing : (s : Shard) (tx : TxId) → is_commit_due (facts_of s tx) ≡ false → home_by (tx_get tx s.voters) ≡ None → ruling_of s.shard tx (facts_of s tx) (tx_get tx s.requests) ≡ None → Finds s tx None s.voters s.requests
finds_nothing s tx commit voter request =
    let v = vote_due s tx (tx_get tx s.voters) in let r = request_due s tx (tx_get tx s.requests) in (
      ap (λ o. or_else o (or_else v r)) (not_landed s tx (stage_of s.local tx) commit) ∙ ap (λ o. or_else o r) (no_vote s tx (tx_get tx s.voters) voter) ∙ no_ruling s tx (tx_get tx s.requests) request,
      refl,
      refl,
    )
