-- Ghosts that go change nothing that is due.
use Rattle.std.proofs.Common.{◌≡◌, refl, ap, ◌∙◌, Bool, true, false, cond, List, [], ◌∷◌, Option, Some, None}
use Rattle.std.specs.List.{filter}
use Rattle.clv_base.specs.declared.names.TxId.{TxId}
use Rattle.clv_base.specs.declared.causes.Vote.{Vote}
use Rattle.clv_base.specs.declared.state.Ruling.{Ruling}
use Rattle.clv_base.specs.Orders.{tx_get}
use Rattle.clv_base.specs.State.{Shard, with_local}
use Rattle.clv_base.specs.declared.state.Stage.{Stage}
use Rattle.clv_base.specs.declared.state.Stage.TheVariants.{Active, Closed, Gone}
use Rattle.clv_base.specs.declared.state.Voter.{Voter}
use Rattle.clv_base.specs.declared.state.Request.{Request}
use Rattle.clv_base.specs.Undo.{stage_of}
use Rattle.clv_base.specs.Facts.{facts_of, has_durable_commit}
use Rattle.clv_base.specs.Participant.{vote_by}
use Rattle.clv_base.specs.Coordinator.{ruling_by}
use Rattle.clv_base.specs.Needs.{is_locked_or_live}
use Rattle.clv_base.specs.OneShard.{purge}
use Rattle.clv_base.specs.Due.{or_else, with_commit_done, commit_due, vote_due, give_vote, request_due, rule, due_of, first_due, known_txs, next_due, with_due_done}
use Rattle.clv_base.specs.Events.{finish}
use Rattle.protocol_laws.specs.Resting.{IsAtRest}
use Rattle.clv_base.proofs.Settling.{nothing_is_left}
use Rattle.law_base.proofs.Shards.{rest_of as or_rest}

abbrev purged : Shard → Shard
purged s = with_local purge s

is_none_both : (b : Bool) (x y : Shard) → cond b (Some x) None ≡ None → cond b (Some y) None ≡ None
is_none_both true x y e = absurd cc
is_none_both false x y e = refl

no_commit : (s : Shard) (tx : TxId) (st : Option Stage) → commit_due s tx st ≡ None → commit_due (purged s) tx st ≡ None
no_commit s tx None e = refl
no_commit s tx (Some Active) e = refl
no_commit s tx (Some Closed) e = is_none_both (has_durable_commit (facts_of s tx)) (with_commit_done s tx) (with_commit_done (purged s) tx) e
no_commit s tx (Some (Gone d)) e = refl

no_give : (s : Shard) (tx : TxId) (v : Voter) (o : Option Vote) → give_vote s tx v o ≡ None → give_vote (purged s) tx v o ≡ None
no_give s tx v None e = refl
no_give s tx v (Some vote) e = absurd cc

no_vote : (s : Shard) (tx : TxId) (o : Option Voter) → vote_due s tx o ≡ None → vote_due (purged s) tx o ≡ None
no_vote s tx None e = refl
no_vote s tx (Some v) e = no_give s tx v (vote_by (facts_of s tx) v) e

no_rule : (s : Shard) (tx : TxId) (q : Request) (o : Option Ruling) → rule s tx q o ≡ None → rule (purged s) tx q o ≡ None
no_rule s tx q None e = refl
no_rule s tx q (Some r) e = absurd cc

no_request : (s : Shard) (tx : TxId) (o : Option Request) → request_due s tx o ≡ None → request_due (purged s) tx o ≡ None
no_request s tx None e = refl
no_request s tx (Some q) e = no_rule s tx q (ruling_by s.shard tx q (facts_of s tx)) e

-- neither of two is due
neither : (x y u v : Option Shard) → (x ≡ None → u ≡ None) → (y ≡ None → v ≡ None) → or_else x y ≡ None → or_else u v ≡ None
neither (Some x) y u v f g e = absurd cc
neither None y None v f g e = g e
neither None y (Some u) v f g e = absurd (some_none u (f refl))
  where
    some_none : (u : Shard) → Some u ≡ None → ⊥
    some_none u e = cc

no_due : (s : Shard) (tx : TxId) → due_of s tx ≡ None → due_of (purged s) tx ≡ None
no_due s tx e =
    neither (commit_due s tx (stage_of s.local tx)) (or_else (vote_due s tx (tx_get tx s.voters)) (request_due s tx (tx_get tx s.requests)))
    (commit_due (purged s) tx (stage_of s.local tx)) (or_else (vote_due (purged s) tx (tx_get tx s.voters)) (request_due (purged s) tx (tx_get tx s.requests)))
    (no_commit s tx (stage_of s.local tx))
    (neither (vote_due s tx (tx_get tx s.voters)) (request_due s tx (tx_get tx s.requests))
    (vote_due (purged s) tx (tx_get tx s.voters)) (request_due (purged s) tx (tx_get tx s.requests))
    (no_vote s tx (tx_get tx s.voters)) (no_request s tx (tx_get tx s.requests)))
    e

none_found : (o rest p later : Option Shard) → (o ≡ None → p ≡ None) → (rest ≡ None → later ≡ None) → or_rest o rest ≡ None → or_rest p later ≡ None
none_found (Some t) rest p later f g e = absurd cc
none_found None rest None later f g e = g e
none_found None rest (Some t) later f g e = absurd (some_none t (f refl))
  where
    some_none : (u : Shard) → Some u ≡ None → ⊥
    some_none u e = cc

no_first : (s : Shard) (txs : List TxId) → first_due s txs ≡ None → first_due (purged s) txs ≡ None
no_first s [] e = refl
no_first s (tx ∷ txs) e = none_found (due_of s tx) (first_due s txs) (due_of (purged s) tx) (first_due (purged s) txs) (no_due s tx) (no_first s txs) e

no_next : (s : Shard) → next_due s ≡ None → next_due (purged s) ≡ None
no_next s e = no_first s (known_txs s) e

-- ---- ghosts that went are not there to go

kept_once : {X : Type 0} (p : X → Bool) (x : X) (xs : List X) (b : Bool) → p x ≡ b → filter p (filter p xs) ≡ filter p xs → filter p (cond b (x ∷ filter p xs) (filter p xs)) ≡ cond b (x ∷ filter p xs) (filter p xs)
kept_once p x xs true e h = ap (λ c. cond c (x ∷ filter p (filter p xs)) (filter p (filter p xs))) e ∙ ap (λ l. x ∷ l) h
kept_once p x xs false e h = h

filter_again : {X : Type 0} (p : X → Bool) (xs : List X) → filter p (filter p xs) ≡ filter p xs
filter_again p [] = refl
filter_again p (x ∷ xs) = kept_once p x xs (p x) refl (filter_again p xs)

pub rests : (u : Shard) → IsAtRest (finish u)
rests u = (no_next (with_due_done u) (nothing_is_left u), filter_again (is_locked_or_live (with_due_done u).local.locks) (with_due_done u).local.records)
