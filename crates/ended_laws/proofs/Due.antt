-- What is due comes to the same without the row of a request that is over.
use Rattle.std.proofs.Common.{◌≡◌, refl, sym, ap, subst, ◌∙◌, true, false, cond, Bool, Option, Some, None}
use Rattle.std.proofs.lemmas.Bool.{both_ways, false_from_ne_true}
use Rattle.clv_base.specs.declared.names.TxId.{TxId}
use Rattle.clv_base.specs.declared.causes.Vote.{Vote}
use Rattle.clv_base.specs.declared.causes.Vote.TheVariants.{Yes, Read, No}
use Rattle.clv_base.specs.declared.state.Stage.{Stage}
use Rattle.clv_base.specs.declared.state.Stage.TheVariants.{Active, Closed, Gone}
use Rattle.clv_base.specs.declared.state.Voter.{Voter}
use Rattle.clv_base.specs.declared.state.Request.{Request}
use Rattle.clv_base.specs.declared.state.Ruling.{Ruling}
use Rattle.clv_base.specs.declared.state.Ruling.TheVariants.{Commit as CommitVerdict, Acknowledge, Abort as AbortVerdict, End as EndVerdict}
use Rattle.clv_base.specs.Orders.{tx_same, tx_get}
use Rattle.clv_base.specs.State.{Shard, with_local, is_present}
use Rattle.clv_base.specs.Undo.{stage_of}
use Rattle.clv_base.specs.Facts.{facts_of, has_durable_commit}
use Rattle.clv_base.specs.Participant.{vote_by}
use Rattle.clv_base.specs.Coordinator.{ruling_by, ruled_request}
use Rattle.clv_base.specs.Due.{send, or_else, finish_part, commit_messages, with_commit_done, commit_due, finish_reader, with_vote, give_vote, vote_due, do_ruling, with_ruling, rule, request_due, due_of}
use Rattle.clv_base.specs.Events.{finish}
use Rattle.clv_base.specs.OneShard.{purge}
use Rattle.clv_base.proofs.SameNames.{tx_true}
use Rattle.ended_laws.specs.Requests.{without, forgets, IsOver}
use Rattle.ended_laws.proofs.Reading.{no_ruling}
use Rattle.ended_laws.proofs.Rows.{get_own, get_without, set_without, without_rises}
use Rattle.ended_laws.proofs.Staying.{due_leaves}
use Rattle.ended_laws.proofs.Forgetting.{Forgets, done_same}

-- the state that comes, without the row
abbrev pub if_any : TxId → Option Shard → Option Shard
if_any tx o = elim o [ Some t ↦ Some (forgets tx t) | None ↦ None ]

either_any : (tx : TxId) (x y : Option Shard) → or_else (if_any tx x) (if_any tx y) ≡ if_any tx (or_else x y)
either_any tx None y = refl
either_any tx (Some t) y = refl

-- ---- what is due for one transaction

not_closed_here : (s : Shard) (tx u : TxId) → is_present (stage_of s.local tx) ≡ false → stage_of s.local u ≡ Some Closed → tx_same tx u ≡ false
not_closed_here s tx u g e = false_from_ne_true _ (λ i. both_ways _ g (ap is_present (ap (stage_of s.local) (tx_true tx u i) ∙ e)))

commit_same : (s : Shard) (tx u : TxId) (st : Option Stage) → stage_of s.local u ≡ st → is_present (stage_of s.local tx) ≡ false → commit_due (forgets tx s) u st ≡ if_any tx (commit_due s u st)
commit_same s tx u None e g = refl
commit_same s tx u (Some Active) e g = refl
commit_same s tx u (Some (Gone d)) e g = refl
commit_same s tx u (Some Closed) e g = at (has_durable_commit (facts_of s u))
  where
    at : (b : Bool) → cond b (Some (with_commit_done (forgets tx s) u)) None ≡ if_any tx (cond b (Some (with_commit_done s u)) None)
    at true = ap (λ o. Some (send (commit_messages s u o (tx_get u s.voters)) (finish_part u (forgets tx s)))) (get_without tx u s.requests (not_closed_here s tx u g e))
    at false = refl

vote_same : (s : Shard) (tx u : TxId) (v : Voter) (x : Vote) → finish_reader u x (with_vote (forgets tx s) u v x) ≡ forgets tx (finish_reader u x (with_vote s u v x))
vote_same s tx u v Yes = refl
vote_same s tx u v Read = refl
vote_same s tx u v (No why) = refl

give_same : (s : Shard) (tx u : TxId) (v : Voter) (o : Option Vote) → give_vote (forgets tx s) u v o ≡ if_any tx (give_vote s u v o)
give_same s tx u v None = refl
give_same s tx u v (Some x) = ap Some (vote_same s tx u v x)

votes_same : (s : Shard) (tx u : TxId) (o : Option Voter) → vote_due (forgets tx s) u o ≡ if_any tx (vote_due s u o)
votes_same s tx u None = refl
votes_same s tx u (Some v) = give_same s tx u v (vote_by (facts_of s u) v)

do_same : (s : Shard) (tx u : TxId) (r : Ruling) → do_ruling u r (forgets tx s) ≡ forgets tx (do_ruling u r s)
do_same s tx u (CommitVerdict parts) = refl
do_same s tx u Acknowledge = refl
do_same s tx u (AbortVerdict c to) = refl
do_same s tx u EndVerdict = refl

rule_same : (s : Shard) (tx u : TxId) (p : Request) (o : Option Ruling) → tx_same tx u ≡ false → rule (forgets tx s) u p o ≡ if_any tx (rule s u p o)
rule_same s tx u p None d = refl
rule_same s tx u p (Some r) d =
    ap (λ rows. Some (do_ruling u r (record s { requests = rows }))) (sym (set_without tx u (ruled_request r p) s.requests d)) ∙ ap Some (do_same (with_ruling u p r s) tx u r)

requests_same : (s : Shard) (tx u : TxId) (o : Option Request) → tx_same tx u ≡ false → request_due (forgets tx s) u o ≡ if_any tx (request_due s u o)
requests_same s tx u None d = refl
requests_same s tx u (Some p) d = rule_same s tx u p (ruling_by s.shard u p (facts_of s u)) d

own_none : (s : Shard) (tx : TxId) (q : Request) → IsOver s tx q → request_due s tx (tx_get tx s.requests) ≡ None
own_none s tx q o = ap (request_due s tx) o.kept ∙ ap (rule s tx q) (no_ruling s tx q o)

request_same : (s : Shard) (tx u : TxId) (q : Request) → IsOver s tx q → request_due (forgets tx s) u (tx_get u (without tx s.requests)) ≡ if_any tx (request_due s u (tx_get u s.requests))
request_same s tx u q o = at (tx_same tx u) refl
  where
    at : (b : Bool) → tx_same tx u ≡ b → request_due (forgets tx s) u (tx_get u (without tx s.requests)) ≡ if_any tx (request_due s u (tx_get u s.requests))
    at true e =
        subst (λ z. request_due (forgets tx s) z (tx_get z (without tx s.requests)) ≡ if_any tx (request_due s z (tx_get z s.requests))) (tx_true tx u e)
        (ap (request_due (forgets tx s) tx) (get_own tx s.requests) ∙ sym (ap (if_any tx) (own_none s tx q o)))
    at false e = ap (request_due (forgets tx s) u) (get_without tx u s.requests e) ∙ requests_same s tx u (tx_get u s.requests) e

three : (a b c x y z : Option Shard) → a ≡ x → b ≡ y → c ≡ z → or_else a (or_else b c) ≡ or_else x (or_else y z)
three a b c x y z e f g = cc

pub due_same : (s : Shard) (tx u : TxId) (q : Request) → IsOver s tx q → due_of (forgets tx s) u ≡ if_any tx (due_of s u)
due_same s tx u q o =
    let c = commit_due s u (stage_of s.local u) in let v = vote_due s u (tx_get u s.voters) in let r = request_due s u (tx_get u s.requests) in
    three _ _ _ (if_any tx c) (if_any tx v) (if_any tx r)
    (commit_same s tx u (stage_of s.local u) refl o.is_gone) (votes_same s tx u (tx_get u s.voters)) (request_same s tx u q o)
    ∙ ap (or_else (if_any tx c)) (either_any tx v r) ∙ either_any tx c (or_else v r)

-- ---- all of it

fine : (tx : TxId) (q : Request) → Forgets (forgets tx) (λ s. IsOver s tx q)
fine tx q = record { due_same = λ s u o. due_same s tx u q o; stays = due_leaves tx q; rise = λ s o. o.rises; still_rise = λ s o. without_rises tx s.requests o.rises }

pub finished_same : (s : Shard) (tx : TxId) (q : Request) → IsOver s tx q → finish (forgets tx s) ≡ forgets tx (finish s)
finished_same s tx q o = ap (with_local purge) (done_same (forgets tx) (λ z. IsOver z tx q) (fine tx q) s o)
