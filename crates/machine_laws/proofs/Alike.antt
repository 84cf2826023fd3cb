-- What is due is the same whatever the journal, the last stamp and whether the shard is up: nothing that is done reads them, by cases of what is due.
use Rattle.std.proofs.Common.{◌≡◌, refl, sym, ap, subst, ℕ, zero, suc, Bool, true, false, cond, List, [], ◌∷◌, Option, Some, None}
use Rattle.clv_base.specs.declared.names.TxId.{TxId}
use Rattle.clv_base.specs.declared.causes.Vote.{Vote}
use Rattle.clv_base.specs.declared.causes.Vote.TheVariants.{Yes, Read, No}
use Rattle.clv_base.specs.declared.events.Entry.{Entry}
use Rattle.clv_base.specs.declared.state.Stage.{Stage}
use Rattle.clv_base.specs.declared.state.Stage.TheVariants.{Active, Closed, Gone}
use Rattle.clv_base.specs.declared.state.Voter.{Voter}
use Rattle.clv_base.specs.declared.state.Request.{Request}
use Rattle.clv_base.specs.declared.state.Ruling.{Ruling}
use Rattle.clv_base.specs.declared.state.Ruling.TheVariants.{Commit as CommitVerdict, Acknowledge, Abort as AbortVerdict, End as EndVerdict}
use Rattle.clv_base.specs.Orders.{tx_get}
use Rattle.clv_base.specs.State.{Shard, with_local}
use Rattle.clv_base.specs.Undo.{stage_of}
use Rattle.clv_base.specs.Facts.{facts_of, has_durable_commit}
use Rattle.clv_base.specs.Participant.{vote_by}
use Rattle.clv_base.specs.Coordinator.{ruling_by}
use Rattle.clv_base.specs.OneShard.{purge}
use Rattle.clv_base.specs.Due.{send, finish_part, or_else, commit_messages, with_commit_done, commit_due, give_vote, vote_due, rule, request_due, due_of, first_due, known_txs, next_due, do_due, work}
use Rattle.machine_laws.specs.Frame.{stamped_as, FinishesAlike}

-- what is next, with these
abbrev dressed : Bool → ℕ → List Entry → Option Shard → Option Shard
dressed u l j None = None
dressed u l j (Some t) = Some (stamped_as u l j t)

or_alike : (u : Bool) (l : ℕ) (j : List Entry) (x y v w : Option Shard) → v ≡ dressed u l j x → w ≡ dressed u l j y → or_else v w ≡ dressed u l j (or_else x y)
or_alike u l j None y v w p q = subst (λ z. or_else z w ≡ dressed u l j y) (sym p) q
or_alike u l j (Some t) y v w p q = subst (λ z. or_else z w ≡ Some (stamped_as u l j t)) (sym p) refl

messages_alike : (u : Bool) (l : ℕ) (j : List Entry) (s : Shard) (tx : TxId) (q : Option Request) (v : Option Voter) → commit_messages (stamped_as u l j s) tx q v ≡ commit_messages s tx q v
messages_alike u l j s tx (Some q) v = refl
messages_alike u l j s tx None (Some v) = refl
messages_alike u l j s tx None None = refl

commit_alike : (u : Bool) (l : ℕ) (j : List Entry) (s : Shard) (tx : TxId) (st : Option Stage) → commit_due (stamped_as u l j s) tx st ≡ dressed u l j (commit_due s tx st)
commit_alike u l j s tx None = refl
commit_alike u l j s tx (Some Active) = refl
commit_alike u l j s tx (Some Closed) = at (has_durable_commit (facts_of s tx))
  where
    at : (b : Bool) → cond b (Some (with_commit_done (stamped_as u l j s) tx)) None ≡ dressed u l j (cond b (Some (with_commit_done s tx)) None)
    at true = ap (λ ms. Some (stamped_as u l j (send ms (finish_part tx s)))) (messages_alike u l j s tx (tx_get tx s.requests) (tx_get tx s.voters))
    at false = refl
commit_alike u l j s tx (Some (Gone d)) = refl

give_alike : (u : Bool) (l : ℕ) (j : List Entry) (s : Shard) (tx : TxId) (v : Voter) (o : Option Vote) → give_vote (stamped_as u l j s) tx v o ≡ dressed u l j (give_vote s tx v o)
give_alike u l j s tx v None = refl
give_alike u l j s tx v (Some Yes) = refl
give_alike u l j s tx v (Some Read) = refl
give_alike u l j s tx v (Some (No why)) = refl

vote_alike : (u : Bool) (l : ℕ) (j : List Entry) (s : Shard) (tx : TxId) (o : Option Voter) → vote_due (stamped_as u l j s) tx o ≡ dressed u l j (vote_due s tx o)
vote_alike u l j s tx None = refl
vote_alike u l j s tx (Some v) = give_alike u l j s tx v (vote_by (facts_of s tx) v)

rule_alike : (u : Bool) (l : ℕ) (j : List Entry) (s : Shard) (tx : TxId) (q : Request) (o : Option Ruling) → rule (stamped_as u l j s) tx q o ≡ dressed u l j (rule s tx q o)
rule_alike u l j s tx q None = refl
rule_alike u l j s tx q (Some (CommitVerdict parts)) = refl
rule_alike u l j s tx q (Some Acknowledge) = refl
rule_alike u l j s tx q (Some (AbortVerdict cause to)) = refl
rule_alike u l j s tx q (Some EndVerdict) = refl

request_alike : (u : Bool) (l : ℕ) (j : List Entry) (s : Shard) (tx : TxId) (o : Option Request) → request_due (stamped_as u l j s) tx o ≡ dressed u l j (request_due s tx o)
request_alike u l j s tx None = refl
request_alike u l j s tx (Some q) = rule_alike u l j s tx q (ruling_by s.shard tx q (facts_of s tx))

due_alike : (u : Bool) (l : ℕ) (j : List Entry) (s : Shard) (tx : TxId) → due_of (stamped_as u l j s) tx ≡ dressed u l j (due_of s tx)
due_alike u l j s tx =
    or_alike u l j (commit_due s tx (stage_of s.local tx)) (or_else (vote_due s tx (tx_get tx s.voters)) (request_due s tx (tx_get tx s.requests))) _ _ (commit_alike u l j s tx (stage_of s.local tx))
    (or_alike u l j (vote_due s tx (tx_get tx s.voters)) (request_due s tx (tx_get tx s.requests)) _ _ (vote_alike u l j s tx (tx_get tx s.voters)) (request_alike u l j s tx (tx_get tx s.requests)))

first_alike : (u : Bool) (l : ℕ) (j : List Entry) (s : Shard) (txs : List TxId) → first_due (stamped_as u l j s) txs ≡ dressed u l j (first_due s txs)
first_alike u l j s [] = refl
first_alike u l j s (tx ∷ txs) = at (due_of s tx) (due_of (stamped_as u l j s) tx) (due_alike u l j s tx) (first_alike u l j s txs)
  where
    later : Option Shard
    later = first_due (stamped_as u l j s) txs

    at : (o p : Option Shard) → p ≡ dressed u l j o → later ≡ dressed u l j (first_due s txs)
        → elim p [ Some t ↦ Some t | None ↦ later ] ≡ dressed u l j (elim o [ Some t ↦ Some t | None ↦ first_due s txs ])
    at None p e more = subst (λ z. elim z [ Some t ↦ Some t | None ↦ later ] ≡ dressed u l j (first_due s txs)) (sym e) more
    at (Some t) p e more = subst (λ z. elim z [ Some v ↦ Some v | None ↦ later ] ≡ Some (stamped_as u l j t)) (sym e) refl

do_alike : (u : Bool) (l : ℕ) (j : List Entry) (n : ℕ) (s : Shard) → do_due n (stamped_as u l j s) ≡ stamped_as u l j (do_due n s)
do_alike u l j zero s = refl
do_alike u l j (suc n) s = at (next_due s) (next_due (stamped_as u l j s)) (first_alike u l j s (known_txs s)) (do_alike u l j n)
  where
    at : (o p : Option Shard) → p ≡ dressed u l j o → ((t : Shard) → do_due n (stamped_as u l j t) ≡ stamped_as u l j (do_due n t))
        → elim p [ Some t ↦ do_due n t | None ↦ stamped_as u l j s ] ≡ stamped_as u l j (elim o [ Some t ↦ do_due n t | None ↦ s ])
    at None p e more = subst (λ z. elim z [ Some t ↦ do_due n t | None ↦ stamped_as u l j s ] ≡ stamped_as u l j s) (sym e) refl
    at (Some t) p e more = subst (λ z. elim z [ Some v ↦ do_due n v | None ↦ stamped_as u l j s ] ≡ stamped_as u l j (do_due n t)) (sym e) (more t)

pub finishes_alike : FinishesAlike
finishes_alike u l j s = ap (with_local purge) (do_alike u l j (work s) s)
