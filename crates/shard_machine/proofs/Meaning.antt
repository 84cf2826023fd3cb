-- What the core's answers say of the protocol's events.
use Rattle.std.proofs.Common.{◌≡◌, refl, sym, ◌∙◌, ap, subst, ℕ, true, false, Option, Some, None}
use Rattle.clv_base.specs.declared.names.TxId.{TxId}
use Rattle.clv_base.specs.declared.ops.Answer.{Answer}
use Rattle.clv_base.specs.declared.causes.AbortCause.{AbortCause}
use Rattle.clv_base.specs.declared.events.Outcome.{Outcome}
use Rattle.clv_base.specs.declared.events.Outcome.TheVariants.{Answered, Dead, Wait, Crowded}
use Rattle.clv_base.specs.State.{Shard}
use Rattle.clv_base.specs.OneShard.{OpReply}
use Rattle.clv_base.specs.Events.{Reply, QuietBeforeWorn, QuietAfterWorn, Does, finish, op_event}
use Rattle.txn_core.specs.declared.op.Reply.TheVariants.{Answered as CoreAnswered, Dead as CoreDead, Wait as CoreWait, Crowded as CoreCrowded}
use Rattle.std.proofs.lemmas.Bool.{cond-true, cond-false}
use Rattle.clv_base.specs.declared.causes.Vote.{Vote}
use Rattle.clv_base.specs.declared.state.Request.{Request}
use Rattle.clv_base.specs.declared.events.Outcome.TheVariants.{Taken, Stale}
use Rattle.clv_base.specs.Coordinator.{takes_vote, takes_done}
use Rattle.clv_base.specs.Events.{on_vote, on_done}
use Rattle.two_phase_commit.specs.Coordinated.{counts_by, done_by}
use Rattle.shard_core.specs.Replying.{vote_taken, done_taken}
use Rattle.shard_core.specs.Operating.{Ends}
use Rattle.shard_machine.specs.declared.happening.Happened.TheVariants.{Quiet, Done}
use Rattle.shard_machine.specs.Happening.{IsQuiet, Happens}

-- a quiet answer, where the event comes to it
pub quiet : (r : Reply) (s t : Shard) (o : Outcome) → r ≡ QuietBeforeWorn o → t ≡ s → Happens r s (Quiet o) t
quiet r s t o e same = (subst (λ x. IsQuiet x o) (sym e) refl, same)

pub quiet_late : (r : Reply) (s t : Shard) (o : Outcome) → r ≡ QuietAfterWorn o → t ≡ s → Happens r s (Quiet o) t
quiet_late r s t o e same = (subst (λ x. IsQuiet x o) (sym e) refl, same)

-- ---- operations

pub answered : (reply : OpReply) (s t : Shard) (a b : Answer) (epoch : ℕ) → Ends reply s (CoreAnswered a b epoch) t → Happens (op_event s reply) s (Done (Answered a epoch) (Answered b epoch)) t
answered reply s t a b epoch (l, is, now, ends, same) =
    (ap (op_event s) is ∙ ap (λ n. Does (Answered a n) (finish (record s { local = l }))) (sym now) ∙ ap (λ u. Does (Answered a epoch) u) (sym ends), ap (λ x. Answered x epoch) same)

pub died : (reply : OpReply) (s t : Shard) (cause : AbortCause) → Ends reply s (CoreDead cause) t → Happens (op_event s reply) s (Done (Dead cause) (Dead cause)) t
died reply s t cause (l, is, ends) = (ap (op_event s) is ∙ ap (λ u. Does (Dead cause) u) (sym ends), refl)

pub waits : (reply : OpReply) (s t : Shard) (younger : TxId) → Ends reply s (CoreWait younger) t → Happens (op_event s reply) s (Quiet (Wait younger)) t
waits reply s t younger (is, same) = quiet_late (op_event s reply) s t (Wait younger) (ap (op_event s) is) same

pub crowded : (reply : OpReply) (s t : Shard) (count : ℕ) → Ends reply s (CoreCrowded count) t → Happens (op_event s reply) s (Quiet (Crowded count)) t
crowded reply s t count (is, same) = quiet_late (op_event s reply) s t (Crowded count) (ap (op_event s) is) same

-- ---- messages that come

pub vote_counts : (s t : Shard) (tx : TxId) (from : ℕ) (vote : Vote) (q : Option Request) → counts_by s.shard from q ≡ true → t ≡ finish (vote_taken tx from vote q s) → Happens (on_vote s tx from vote q) s (Done Taken Taken) t
vote_counts s t tx from vote None e ends = absurd cc
vote_counts s t tx from vote (Some q) e ends = (cond-true (takes_vote s.shard from q) _ _ e ∙ ap (λ u. Does Taken u) (sym ends), refl)

pub vote_stale : (s t : Shard) (tx : TxId) (from : ℕ) (vote : Vote) (q : Option Request) → counts_by s.shard from q ≡ false → t ≡ s → Happens (on_vote s tx from vote q) s (Quiet Stale) t
vote_stale s t tx from vote None e same = (refl, same)
vote_stale s t tx from vote (Some q) e same = quiet (on_vote s tx from vote (Some q)) s t Stale (cond-false (takes_vote s.shard from q) _ _ e) same

pub done_counts : (s t : Shard) (tx : TxId) (from : ℕ) (q : Option Request) → done_by from q ≡ true → t ≡ finish (done_taken tx from q s) → Happens (on_done s tx from q) s (Done Taken Taken) t
done_counts s t tx from None e ends = absurd cc
done_counts s t tx from (Some q) e ends = (cond-true (takes_done from q) _ _ e ∙ ap (λ u. Does Taken u) (sym ends), refl)

pub done_stale : (s t : Shard) (tx : TxId) (from : ℕ) (q : Option Request) → done_by from q ≡ false → t ≡ s → Happens (on_done s tx from q) s (Quiet Stale) t
done_stale s t tx from None e same = (refl, same)
done_stale s t tx from (Some q) e same = quiet (on_done s tx from (Some q)) s t Stale (cond-false (takes_done from q) _ _ e) same
