-- What is due changes values of the tables, and no key.
use Rattle.std.proofs.Common.{◌≡◌, refl, ap, Bool, true, false, cond, [], ◌∷◌, subst}
use Rattle.std.specs.Map.{keys_of}
use Rattle.clv_base.specs.declared.names.TxId.{TxId}
use Rattle.clv_base.specs.declared.causes.Vote.{Vote}
use Rattle.clv_base.specs.declared.causes.Vote.TheVariants.{Yes, Read, No}
use Rattle.clv_base.specs.declared.state.Voter.{Voter}
use Rattle.clv_base.specs.declared.state.Request.{Request}
use Rattle.clv_base.specs.declared.state.Ruling.{Ruling}
use Rattle.clv_base.specs.declared.state.Ruling.TheVariants.{Commit as CommitVerdict, Acknowledge, Abort as AbortVerdict, End as EndVerdict}
use Rattle.clv_base.specs.Orders.{Table, tx_same, tx_set}
use Rattle.clv_base.specs.State.{Shard}
use Rattle.clv_base.specs.Participant.{voted}
use Rattle.clv_base.specs.Coordinator.{ruled_request}
use Rattle.clv_base.specs.Due.{due_of, finish_reader, with_vote, do_ruling, with_ruling}
use Rattle.protocol_laws.specs.Depending.{DueKeepsKeys}
use Rattle.protocol_laws.proofs.DependentsHaveParts.{keys_stay}
use Rattle.protocol_laws.proofs.Due.DueCaseByCase.{IfDue, due_holds}

pub set_keys : {V : Type 0} (t : TxId) (v : V) (rs : Table V) → keys_of (tx_set t v rs) ≡ keys_of rs
set_keys t v [] = refl
set_keys t v (r ∷ rs) = at (tx_same t r.0) (set_keys t v rs)
  where
    at : (b : Bool) → keys_of (tx_set t v rs) ≡ keys_of rs → keys_of (cond b ((r.0, v) ∷ rs) (r ∷ tx_set t v rs)) ≡ r.0 ∷ keys_of rs
    at true e = refl
    at false e = ap (λ ks. r.0 ∷ ks) e

abbrev Same : Shard → Shard → Type 0
Same s t = (keys_of t.local.parts ≡ keys_of s.local.parts) × (keys_of t.voters ≡ keys_of s.voters) × (keys_of t.requests ≡ keys_of s.requests)

vote_same : (s : Shard) (tx : TxId) (v : Voter) (x : Vote) → Same s (finish_reader tx x (with_vote s tx v x))
vote_same s tx v Yes = (refl, set_keys tx (voted Yes v) s.voters, refl)
vote_same s tx v Read = (keys_stay _ s.local.parts, set_keys tx (voted Read v) s.voters, refl)
vote_same s tx v (No why) = (refl, set_keys tx (voted (No why) v) s.voters, refl)

rule_same : (s : Shard) (tx : TxId) (q : Request) (r : Ruling) → Same s (do_ruling tx r (with_ruling tx q r s))
rule_same s tx q (CommitVerdict parts) = (refl, refl, set_keys tx (ruled_request (CommitVerdict parts) q) s.requests)
rule_same s tx q Acknowledge = (keys_stay _ s.local.parts, refl, set_keys tx (ruled_request Acknowledge q) s.requests)
rule_same s tx q (AbortVerdict cause to) = (keys_stay _ s.local.parts, refl, set_keys tx (ruled_request (AbortVerdict cause to) q) s.requests)
rule_same s tx q EndVerdict = (refl, refl, set_keys tx (ruled_request EndVerdict q) s.requests)

due_same : (s : Shard) (tx : TxId) → IfDue (Same s) (due_of s tx)
due_same s tx = due_holds (Same s) s tx (λ e. (keys_stay _ s.local.parts, refl, refl)) (λ v x e f. vote_same s tx v x) (λ q r e f. rule_same s tx q r)

pub due_keeps_keys : DueKeepsKeys
due_keeps_keys s t tx e = subst (IfDue (Same s)) e (due_same s tx)
