-- What is due for a transaction is told by its facts, and by what is kept of it as a voter and as a request.
use Rattle.std.proofs.Common.{◌≡◌, refl, sym, ap, ◌∙◌, true, false, cond, Bool, ◌&&◌, ◌||◌, List, Option, Some, None, is_some, ⊎_elim}
use Rattle.std.proofs.lemmas.Bool.{cases_Bool}
use Rattle.clv_base.specs.declared.names.TxId.{TxId}
use Rattle.clv_base.specs.declared.causes.Vote.{Vote}
use Rattle.clv_base.specs.declared.state.Stage.{Stage}
use Rattle.clv_base.specs.declared.state.Stage.TheVariants.{Active, Closed, Gone}
use Rattle.clv_base.specs.declared.state.Voter.{Voter}
use Rattle.clv_base.specs.declared.state.Request.{Request}
use Rattle.clv_base.specs.declared.state.Ruling.{Ruling}
use Rattle.clv_base.specs.Orders.{tx_in, tx_get}
use Rattle.clv_base.specs.State.{Shard}
use Rattle.clv_base.specs.Undo.{stage_of}
use Rattle.clv_base.specs.Facts.{state_by, facts_of, is_closed_state, has_durable_commit}
use Rattle.clv_base.specs.Participant.{vote_by}
use Rattle.clv_base.specs.Coordinator.{ruling_by}
use Rattle.clv_base.specs.Due.{or_else, with_commit_done, commit_due, give_vote, vote_due, rule, request_due}
use Rattle.clv_base.proofs.SameNames.{or_left, or_right}
use Rattle.protocol_laws.specs.Candidates.{is_commit_due, is_vote_due, is_ruling_due, is_due_by, is_due, DueByFacts}
use Rattle.protocol_laws.specs.Changes.{ChangesDue, CoverGrows}
use Rattle.law_base.proofs.Names.{in_append}

some_or : (x y : Option Shard) → is_some (or_else x y) ≡ (is_some x || is_some y)
some_or None y = refl
some_or (Some t) y = refl

some_if : (b : Bool) (x : Shard) → is_some (cond b (Some x) None) ≡ b
some_if true x = refl
some_if false x = refl

commit_some : (s : Shard) (tx : TxId) (st : Option Stage) → is_some (commit_due s tx st) ≡ (is_closed_state (state_by st) && has_durable_commit (facts_of s tx))
commit_some s tx None = refl
commit_some s tx (Some Active) = refl
commit_some s tx (Some Closed) = some_if (has_durable_commit (facts_of s tx)) (with_commit_done s tx)
commit_some s tx (Some (Gone d)) = refl

give_some : (s : Shard) (tx : TxId) (v : Voter) (o : Option Vote) → is_some (give_vote s tx v o) ≡ is_some o
give_some s tx v None = refl
give_some s tx v (Some vote) = refl

vote_some : (s : Shard) (tx : TxId) (o : Option Voter) → is_some (vote_due s tx o) ≡ is_vote_due (facts_of s tx) o
vote_some s tx None = refl
vote_some s tx (Some v) = give_some s tx v (vote_by (facts_of s tx) v)

rule_some : (s : Shard) (tx : TxId) (q : Request) (o : Option Ruling) → is_some (rule s tx q o) ≡ is_some o
rule_some s tx q None = refl
rule_some s tx q (Some r) = refl

request_some : (s : Shard) (tx : TxId) (o : Option Request) → is_some (request_due s tx o) ≡ is_ruling_due s.shard tx (facts_of s tx) o
request_some s tx None = refl
request_some s tx (Some q) = rule_some s tx q (ruling_by s.shard tx q (facts_of s tx))

pub three : (a b c x y z : Bool) → a ≡ x → b ≡ y → c ≡ z → (a || (b || c)) ≡ (x || (y || z))
three a b c x y z e f g = cc

pub due_by_facts : DueByFacts
due_by_facts s tx =
    let c = commit_due s tx (stage_of s.local tx) in let v = vote_due s tx (tx_get tx s.voters) in let r = request_due s tx (tx_get tx s.requests) in
    some_or c (or_else v r) ∙ ap (λ b. is_some c || b) (some_or v r)
    ∙ three (is_some c) (is_some v) (is_some r) (is_commit_due (facts_of s tx)) (is_vote_due (facts_of s tx) (tx_get tx s.voters)) (is_ruling_due s.shard tx (facts_of s tx) (tx_get tx s.requests))
    (commit_some s tx (stage_of s.local tx)) (vote_some s tx (tx_get tx s.voters)) (request_some s tx (tx_get tx s.requests))

-- ---- a change

same_due : (set : List TxId) (s t : Shard) → ChangesDue set s t → (x : TxId) → tx_in x set ≡ false → is_due t x ≡ is_due s x
same_due set s t c x out =
    due_by_facts t x
    ∙ ap (λ n. is_due_by n x (facts_of t x) (tx_get x t.voters) (tx_get x t.requests)) c.shard
    ∙ ap (λ f. is_due_by s.shard x f (tx_get x t.voters) (tx_get x t.requests)) (c.facts x out)
    ∙ ap (λ v. is_due_by s.shard x (facts_of s x) v (tx_get x t.requests)) (c.voters x out)
    ∙ ap (λ q. is_due_by s.shard x (facts_of s x) (tx_get x s.voters) q) (c.requests x out)
    ∙ sym (due_by_facts s x)

pub cover_grows : CoverGrows
cover_grows set txs s t c cover x due =
    in_append x set txs
    ∙ ⊎_elim (λ i. or_left _ _ i) (λ out. or_right (tx_in x set) _ (cover x (sym (same_due set s t c x out) ∙ due))) (cases_Bool (tx_in x set))
