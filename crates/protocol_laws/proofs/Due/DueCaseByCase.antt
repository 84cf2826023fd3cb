-- What holds of each state that comes of what is due: case by case, after the first that is, and after all of it.
use Rattle.std.proofs.Common.{◌≡◌, refl, ℕ, zero, suc, Bool, true, false, cond, List, [], ◌∷◌, Option, Some, None}
use Rattle.clv_base.specs.declared.names.TxId.{TxId}
use Rattle.clv_base.specs.declared.causes.Vote.{Vote}
use Rattle.clv_base.specs.declared.state.Stage.{Stage}
use Rattle.clv_base.specs.declared.state.Stage.TheVariants.{Active, Closed, Gone}
use Rattle.clv_base.specs.declared.state.Voter.{Voter}
use Rattle.clv_base.specs.declared.state.Request.{Request}
use Rattle.clv_base.specs.declared.state.Ruling.{Ruling}
use Rattle.clv_base.specs.Orders.{tx_get}
use Rattle.clv_base.specs.State.{Shard}
use Rattle.clv_base.specs.Undo.{stage_of}
use Rattle.clv_base.specs.Facts.{facts_of, has_durable_commit}
use Rattle.clv_base.specs.Participant.{vote_by}
use Rattle.clv_base.specs.Coordinator.{ruling_by}
use Rattle.clv_base.specs.Due.{or_else, with_commit_done, commit_due, finish_reader, with_vote, give_vote, vote_due, with_ruling, do_ruling, rule, request_due, due_of, first_due, known_txs, next_due, do_due}

-- it holds of the next state, where there is one
abbrev pub IfDue : (Shard → Type 0) → Option Shard → Type 0
IfDue Q None = Unit {0}
IfDue Q (Some t) = Q t

module _ (Q : Shard → Type 0) where
  if_or : (x y : Option Shard) → IfDue Q x → IfDue Q y → IfDue Q (or_else x y)
  if_or None y p q = q
  if_or (Some t) y p q = p

  module _ (s : Shard) (tx : TxId) where
    abbrev Committed : Type 0
    Committed = stage_of s.local tx ≡ Some Closed → Q (with_commit_done s tx)

    abbrev Voted : Type 0
    Voted = (v : Voter) (x : Vote) → tx_get tx s.voters ≡ Some v → vote_by (facts_of s tx) v ≡ Some x → Q (finish_reader tx x (with_vote s tx v x))

    abbrev Ruled : Type 0
    Ruled = (q : Request) (r : Ruling) → tx_get tx s.requests ≡ Some q → ruling_by s.shard tx q (facts_of s tx) ≡ Some r → Q (do_ruling tx r (with_ruling tx q r s))

    due_commit : (st : Option Stage) → stage_of s.local tx ≡ st → Committed → IfDue Q (commit_due s tx st)
    due_commit None e k = tt
    due_commit (Some Active) e k = tt
    due_commit (Some Closed) e k = at (has_durable_commit (facts_of s tx))
      where
        at : (b : Bool) → IfDue Q (cond b (Some (with_commit_done s tx)) None)
        at true = k e
        at false = tt
    due_commit (Some (Gone d)) e k = tt

    due_vote : (o : Option Voter) → tx_get tx s.voters ≡ o → Voted → IfDue Q (vote_due s tx o)
    due_vote None e k = tt
    due_vote (Some v) e k = at (vote_by (facts_of s tx) v) refl
      where
        at : (x : Option Vote) → vote_by (facts_of s tx) v ≡ x → IfDue Q (give_vote s tx v x)
        at None f = tt
        at (Some x) f = k v x e f

    due_ruling : (o : Option Request) → tx_get tx s.requests ≡ o → Ruled → IfDue Q (request_due s tx o)
    due_ruling None e k = tt
    due_ruling (Some q) e k = at (ruling_by s.shard tx q (facts_of s tx)) refl
      where
        at : (r : Option Ruling) → ruling_by s.shard tx q (facts_of s tx) ≡ r → IfDue Q (rule s tx q r)
        at None f = tt
        at (Some r) f = k q r e f

    pub due_holds : Committed → Voted → Ruled → IfDue Q (due_of s tx)
    due_holds c v r =
        if_or (commit_due s tx (stage_of s.local tx)) (or_else (vote_due s tx (tx_get tx s.voters)) (request_due s tx (tx_get tx s.requests))) (due_commit (stage_of s.local tx) refl c)
        (if_or (vote_due s tx (tx_get tx s.voters)) (request_due s tx (tx_get tx s.requests)) (due_vote (tx_get tx s.voters) refl v) (due_ruling (tx_get tx s.requests) refl r))

  pub first_holds : (s : Shard) → ((tx : TxId) → IfDue Q (due_of s tx)) → (txs : List TxId) → IfDue Q (first_due s txs)
  first_holds s k [] = tt
  first_holds s k (tx ∷ txs) = at (due_of s tx) (k tx) (first_holds s k txs)
    where
      at : (o : Option Shard) → IfDue Q o → IfDue Q (first_due s txs) → IfDue Q (elim o [ Some t ↦ Some t | None ↦ first_due s txs ])
      at (Some t) h more = h
      at None h more = more

-- a relation that holds over each thing that is done holds over all that is
pub do_holds : (R : Shard → Shard → Type 0) → ((s : Shard) → R s s) → ((s t u : Shard) → R s t → R t u → R s u) → ((s : Shard) (tx : TxId) → IfDue (R s) (due_of s tx)) → (n : ℕ) (s : Shard) → R s (do_due n s)
do_holds R same chain k zero s = same s
do_holds R same chain k (suc n) s = at (next_due s) (first_holds (R s) s (k s) (known_txs s)) (do_holds R same chain k n)
  where
    at : (o : Option Shard) → IfDue (R s) o → ((t : Shard) → R t (do_due n t)) → R s (elim o [ Some t ↦ do_due n t | None ↦ s ])
    at (Some t) h more = chain s t (do_due n t) h (more t)
    at None h more = same s
