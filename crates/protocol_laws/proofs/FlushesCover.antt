-- What the end of a flush makes due.
use Rattle.std.proofs.Common.{◌≡◌, ◌⊎◌, inl, inr, refl, sym, ap, subst, ◌∙◌, ℕ, zero, suc, ◌+◌, ◌-◌, ◌≤◌, ◌<◌, ⊎_elim, Bool, true, false, cond, ◌&&◌, ◌||◌, ◌==◌, nat_lt, List, [], ◌∷◌, take, drop, Option, Some, None, is_some, arith}
use Rattle.std.specs.List.{list_any, list_all}
use Rattle.std.proofs.lemmas.Bool.{both_ways, or_cases, cases_Bool, ltb-true, ltb-false, lt-ltb}
use Rattle.clv_base.specs.declared.names.TxId.{TxId}
use Rattle.clv_base.specs.declared.causes.Vote.{Vote}
use Rattle.clv_base.specs.declared.causes.Vote.TheVariants.{Yes, Read}
use Rattle.clv_base.specs.declared.logs.LogRecord.{LogRecord}
use Rattle.clv_base.specs.declared.logs.LogRecord.TheVariants.{Update, Clr, Prepare, Commit, Abort, End, Restart, Add, Unadd, Forgotten, Check}
use Rattle.clv_base.specs.declared.parts.PartState.{PartState}
use Rattle.clv_base.specs.declared.parts.PartState.TheVariants.{Unknown, Active, Closed, Gone}
use Rattle.clv_base.specs.declared.state.Voter.{Voter}
use Rattle.clv_base.specs.declared.state.Request.{Request}
use Rattle.clv_base.specs.declared.state.RequestState.{RequestState}
use Rattle.clv_base.specs.declared.state.RequestState.TheVariants.{Undecided, Committed, Finished, Refused}
use Rattle.clv_base.specs.declared.state.Ruling.TheVariants.{Acknowledge}
use Rattle.clv_base.specs.Orders.{tx_same, tx_in, tx_get}
use Rattle.clv_base.specs.Logs.{is_commit_of, is_prepare_of, is_undo_of, committed_in, prepared_in, place_from, last_place_from, commit_lsn, prepare_lsn, undone_lsn, is_below}
use Rattle.clv_base.specs.State.{Shard, Local}
use Rattle.clv_base.specs.declared.parts.PartFacts.{PartFacts}
use Rattle.clv_base.specs.Facts.{predecessors_of, facts_in, is_closed_state, has_durable_commit, has_durable_prepare, is_due_at, has_durable_undo, has_durable_predecessors}
use Rattle.clv_base.specs.Participant.{vote_by_writes, closed_vote, vote_in_state, first_vote, vote_owed}
use Rattle.clv_base.specs.Coordinator.{is_agreed, agreed_ruling, undecided_ruling, ruling_in, yes_shards}
use Rattle.clv_base.specs.Events.{with_durable}
use Rattle.clv_base.proofs.SameNames.{or_left, or_right, tx_true, tx_self, tx_flip}
use Rattle.law_base.proofs.Tables.{is_pair, in_pair}
use Rattle.protocol_laws.proofs.PredecessorsByFacts.{predecessors_by_facts}
use Rattle.protocol_laws.specs.Candidates.{is_vote_due, is_ruling_due, is_due}
use Rattle.protocol_laws.specs.Order.{undone_in}
use Rattle.protocol_laws.specs.Changes.{successors_of, landed_txs, landed_records, FlushesCover}
use Rattle.protocol_laws.proofs.Due.DueByFacts.{due_by_facts, three}
use Rattle.protocol_laws.proofs.Due.WhoseFactsChange.{successor_in}
use Rattle.law_base.proofs.Names.{in_append}

-- ---- records that became durable

place_least : (n : ℕ) (test : LogRecord → Bool) (log : List LogRecord) (k : ℕ) → place_from n test log ≡ Some k → n ≤ k
place_least n test [] k e = absurd cc
place_least n test (r ∷ rs) k e = at (test r) e (place_least (suc n) test rs k)
  where
    at : (b : Bool) → cond b (Some n) (place_from (suc n) test rs) ≡ Some k → (place_from (suc n) test rs ≡ Some k → suc n ≤ k) → n ≤ k
    at true e more = let s : n ≡ k = cc in omega arith
    at false e more = let l = more e in omega arith

-- a place from one front on and below another is one of the records between them
placed : (from count n : ℕ) (test : LogRecord → Bool) (log : List LogRecord) (k : ℕ) → place_from n test log ≡ Some k → n + from ≤ k → k < n + (from + count) → list_any test (take count (drop from log)) ≡ true
placed from count n test [] k e a b = absurd cc
placed zero zero n test (r ∷ rs) k e a b = absurd (omega arith)
placed zero (suc c) n test (r ∷ rs) k e a b = at (test r) e (λ f. let l = place_least (suc n) test rs k f in placed zero c (suc n) test rs k f (omega arith) (omega arith))
  where
    at : (d : Bool) → cond d (Some n) (place_from (suc n) test rs) ≡ Some k → (place_from (suc n) test rs ≡ Some k → list_any test (take c rs) ≡ true) → (d || list_any test (take c rs)) ≡ true
    at true e more = refl
    at false e more = more e
placed (suc f) count n test (r ∷ rs) k e a b = at (test r) e (λ g. placed f count (suc n) test rs k g (omega arith) (omega arith))
  where
    at : (d : Bool) → cond d (Some n) (place_from (suc n) test rs) ≡ Some k → (place_from (suc n) test rs ≡ Some k → list_any test (take count (drop f rs)) ≡ true) → list_any test (take count (drop f rs)) ≡ true
    at true e more = let s : n ≡ k = cc in absurd (omega arith)
    at false e more = more e

landed : (test : LogRecord → Bool) (log : List LogRecord) (from upto k : ℕ) → from ≤ upto → place_from 0 test log ≡ Some k → from ≤ k → k < upto → list_any test (landed_records log from upto) ≡ true
landed test log from upto k h e a b = placed from (upto - from) 0 test log k e (omega arith) (omega arith)

-- so is the last place
last_least : (n : ℕ) (so_far : Option ℕ) (test : LogRecord → Bool) (log : List LogRecord) (k : ℕ) → last_place_from n so_far test log ≡ Some k → (so_far ≡ Some k) ⊎ (n ≤ k)
last_least n so_far test [] k e = inl e
last_least n so_far test (r ∷ rs) k e = ⊎_elim (λ h. at (test r) h) (λ h. inr (omega (arith, h))) (last_least (suc n) (cond (test r) (Some n) so_far) test rs k e)
  where
    at : (b : Bool) → cond b (Some n) so_far ≡ Some k → (so_far ≡ Some k) ⊎ (n ≤ k)
    at true h = let s : n ≡ k = cc in inr (omega (arith, s))
    at false h = inl h

last_placed : (from count n : ℕ) (so_far : Option ℕ) (test : LogRecord → Bool) (log : List LogRecord) (k : ℕ) → last_place_from n so_far test log ≡ Some k → ((j : ℕ) → so_far ≡ Some j → j < n + from) → n + from ≤ k → k < n + (from + count)
    → list_any test (take count (drop from log)) ≡ true
last_placed from count n so_far test [] k e low a b = let l = low k e in absurd (omega (arith, l, a))
last_placed zero zero n so_far test (r ∷ rs) k e low a b = absurd (omega (arith, a, b))
last_placed zero (suc c) n so_far test (r ∷ rs) k e low a b = at (test r) refl e (λ f g. last_placed zero c (suc n) so_far test rs k f (λ j s. let l = low j s in omega (arith, l)) g (omega (arith, b)))
  where
    here : (so_far : Option ℕ) → last_place_from (suc n) so_far test rs ≡ Some k → ((j : ℕ) → so_far ≡ Some j → j < n + zero) → suc n + zero ≤ k
    here o f l = ⊎_elim (λ s. let m = l k s in absurd (omega (arith, m, a))) (λ m. omega (arith, m)) (last_least (suc n) o test rs k f)

    at : (d : Bool) → test r ≡ d → last_place_from (suc n) (cond d (Some n) so_far) test rs ≡ Some k → (last_place_from (suc n) so_far test rs ≡ Some k → suc n + zero ≤ k → list_any test (take c rs) ≡ true) → (d || list_any test (take c rs)) ≡ true
    at true t f more = refl
    at false t f more = more f (here so_far f low)
last_placed (suc i) count n so_far test (r ∷ rs) k e low a b =
    last_placed i count (suc n) (cond (test r) (Some n) so_far) test rs k e (at (test r)) (omega (arith, a)) (omega (arith, b))
  where
    at : (d : Bool) (j : ℕ) → cond d (Some n) so_far ≡ Some j → j < suc n + i
    at true j s = let q : n ≡ j = cc in omega (arith, q)
    at false j s = let l = low j s in omega (arith, l)

last_landed : (test : LogRecord → Bool) (log : List LogRecord) (from upto k : ℕ) → from ≤ upto → last_place_from 0 None test log ≡ Some k → from ≤ k → k < upto → list_any test (landed_records log from upto) ≡ true
last_landed test log from upto k h e a b = last_placed from (upto - from) 0 None test log k e (λ j s. absurd cc) (omega arith) (omega arith)

-- ---- whose they are

commit_in : (pairs : List (TxId × TxId)) (rs : List LogRecord) (p : TxId) → committed_in rs p ≡ true → tx_in p (landed_txs pairs rs) ≡ true
commit_in pairs [] p e = absurd (both_ways false refl e)
commit_in pairs (Commit tx parts ∷ rs) p e =
    ⊎_elim (λ h. or_left _ _ (tx_flip p tx h)) (λ h. or_right (tx_same tx p) _ (in_append p (successors_of pairs tx) (landed_txs pairs rs) ∙ or_right (tx_in p (successors_of pairs tx)) _ (commit_in pairs rs p h))) (or_cases (tx_same p tx) (committed_in rs p) e)
commit_in pairs (Prepare tx home ps ∷ rs) p e = or_right (tx_same tx p) _ (commit_in pairs rs p e)
commit_in pairs (Update tx k b a ∷ rs) p e = commit_in pairs rs p e
commit_in pairs (Clr tx u k a ∷ rs) p e = or_right (tx_same tx p) _ (commit_in pairs rs p e)
commit_in pairs (Abort tx ∷ rs) p e = commit_in pairs rs p e
commit_in pairs (End tx ∷ rs) p e = commit_in pairs rs p e
commit_in pairs (Restart run epoch ∷ rs) p e = commit_in pairs rs p e
commit_in pairs (Add tx k by ∷ rs) p e = commit_in pairs rs p e
commit_in pairs (Unadd tx u k by ∷ rs) p e = or_right (tx_same tx p) _ (commit_in pairs rs p e)
commit_in pairs (Forgotten ∷ rs) p e = commit_in pairs rs p e
commit_in pairs (Check run' epoch' upto base ∷ rs) p e = commit_in pairs rs p e

prepare_in : (pairs : List (TxId × TxId)) (rs : List LogRecord) (p : TxId) → prepared_in rs p ≡ true → tx_in p (landed_txs pairs rs) ≡ true
prepare_in pairs [] p e = absurd (both_ways false refl e)
prepare_in pairs (Commit tx parts ∷ rs) p e = or_right (tx_same tx p) _ (in_append p (successors_of pairs tx) (landed_txs pairs rs) ∙ or_right (tx_in p (successors_of pairs tx)) _ (prepare_in pairs rs p e))
prepare_in pairs (Prepare tx home ps ∷ rs) p e = ⊎_elim (λ h. or_left _ _ (tx_flip p tx h)) (λ h. or_right (tx_same tx p) _ (prepare_in pairs rs p h)) (or_cases (tx_same p tx) (prepared_in rs p) e)
prepare_in pairs (Update tx k b a ∷ rs) p e = prepare_in pairs rs p e
prepare_in pairs (Clr tx u k a ∷ rs) p e = or_right (tx_same tx p) _ (prepare_in pairs rs p e)
prepare_in pairs (Abort tx ∷ rs) p e = prepare_in pairs rs p e
prepare_in pairs (End tx ∷ rs) p e = prepare_in pairs rs p e
prepare_in pairs (Restart run epoch ∷ rs) p e = prepare_in pairs rs p e
prepare_in pairs (Add tx k by ∷ rs) p e = prepare_in pairs rs p e
prepare_in pairs (Unadd tx u k by ∷ rs) p e = or_right (tx_same tx p) _ (prepare_in pairs rs p e)
prepare_in pairs (Forgotten ∷ rs) p e = prepare_in pairs rs p e
prepare_in pairs (Check run' epoch' upto base ∷ rs) p e = prepare_in pairs rs p e

undo_in : (pairs : List (TxId × TxId)) (rs : List LogRecord) (p : TxId) → undone_in rs p ≡ true → tx_in p (landed_txs pairs rs) ≡ true
undo_in pairs [] p e = absurd (both_ways false refl e)
undo_in pairs (Commit tx parts ∷ rs) p e = or_right (tx_same tx p) _ (in_append p (successors_of pairs tx) (landed_txs pairs rs) ∙ or_right (tx_in p (successors_of pairs tx)) _ (undo_in pairs rs p e))
undo_in pairs (Prepare tx home ps ∷ rs) p e = or_right (tx_same tx p) _ (undo_in pairs rs p e)
undo_in pairs (Update tx k b a ∷ rs) p e = undo_in pairs rs p e
undo_in pairs (Clr tx u k a ∷ rs) p e = ⊎_elim (λ h. or_left _ _ (tx_flip p tx h)) (λ h. or_right (tx_same tx p) _ (undo_in pairs rs p h)) (or_cases (tx_same p tx) (undone_in rs p) e)
undo_in pairs (Abort tx ∷ rs) p e = undo_in pairs rs p e
undo_in pairs (End tx ∷ rs) p e = undo_in pairs rs p e
undo_in pairs (Restart run epoch ∷ rs) p e = undo_in pairs rs p e
undo_in pairs (Add tx k by ∷ rs) p e = undo_in pairs rs p e
undo_in pairs (Unadd tx u k by ∷ rs) p e = ⊎_elim (λ h. or_left _ _ (tx_flip p tx h)) (λ h. or_right (tx_same tx p) _ (undo_in pairs rs p h)) (or_cases (tx_same p tx) (undone_in rs p) e)
undo_in pairs (Forgotten ∷ rs) p e = undo_in pairs rs p e
undo_in pairs (Check run' epoch' upto base ∷ rs) p e = undo_in pairs rs p e

follower_in : (pairs : List (TxId × TxId)) (rs : List LogRecord) (x p : TxId) → committed_in rs p ≡ true → is_pair pairs x p ≡ true → tx_in x (landed_txs pairs rs) ≡ true
follower_in pairs [] x p e h = absurd (both_ways false refl e)
follower_in pairs (Commit tx parts ∷ rs) x p e h =
    or_right (tx_same tx x) _ (in_append x (successors_of pairs tx) (landed_txs pairs rs)
    ∙ ⊎_elim
    (λ s. or_left _ _ (successor_in x tx pairs (subst (λ z. is_pair pairs x z ≡ true) (tx_true p tx s) h)))
    (λ s. or_right (tx_in x (successors_of pairs tx)) _ (follower_in pairs rs x p s h))
    (or_cases (tx_same p tx) (committed_in rs p) e))
follower_in pairs (Prepare tx home ps ∷ rs) x p e h = or_right (tx_same tx x) _ (follower_in pairs rs x p e h)
follower_in pairs (Update tx k b a ∷ rs) x p e h = follower_in pairs rs x p e h
follower_in pairs (Clr tx u k a ∷ rs) x p e h = or_right (tx_same tx x) _ (follower_in pairs rs x p e h)
follower_in pairs (Abort tx ∷ rs) x p e h = follower_in pairs rs x p e h
follower_in pairs (End tx ∷ rs) x p e h = follower_in pairs rs x p e h
follower_in pairs (Restart run epoch ∷ rs) x p e h = follower_in pairs rs x p e h
follower_in pairs (Add tx k by ∷ rs) x p e h = follower_in pairs rs x p e h
follower_in pairs (Unadd tx u k by ∷ rs) x p e h = or_right (tx_same tx x) _ (follower_in pairs rs x p e h)
follower_in pairs (Forgotten ∷ rs) x p e h = follower_in pairs rs x p e h
follower_in pairs (Check run' epoch' upto base ∷ rs) x p e h = follower_in pairs rs x p e h

-- ---- tests that stay

below_same : (o : Option ℕ) (d n : ℕ) → d ≤ n → ((k : ℕ) → o ≡ Some k → d ≤ k → k < n → ⊥) → is_below o n ≡ is_below o d
below_same None d n h apart = refl
below_same (Some k) d n h apart =
    ⊎_elim
    (λ e. let l = ltb-true k d e in lt-ltb k n (omega arith) ∙ sym e)
    (λ e. let l = ltb-false k d e in ⊎_elim (λ f. absurd (apart k refl l (ltb-true k n f))) (λ f. f ∙ sym e) (cases_Bool (nat_lt k n)))
    (cases_Bool (nat_lt k d))

due_same : (o : Option ℕ) (d n : ℕ) → d ≤ n → ((k : ℕ) → o ≡ Some k → d ≤ k → k < n → ⊥) → is_due_at o n ≡ is_due_at o d
due_same None d n h apart = refl
due_same (Some k) d n h apart = below_same (Some k) d n h apart

all_same : (f g : TxId → Bool) (ps : List TxId) → ((p : TxId) → tx_in p ps ≡ true → f p ≡ g p) → list_all f ps ≡ list_all g ps
all_same f g [] h = refl
all_same f g (p ∷ ps) h = ap (λ b. b && list_all f ps) (h p (or_left _ _ (tx_self p))) ∙ ap (λ b. g p && b) (all_same f g ps (λ q i. h q (or_right (tx_same p q) _ i)))

module _ (l : Local) (d n : ℕ) (h : d ≤ n) (x : TxId) (out : tx_in x (landed_txs l.pairs (landed_records l.log d n)) ≡ false) where
  commit_same : has_durable_commit (facts_in l n x) ≡ has_durable_commit (facts_in l d x)
  commit_same = below_same (commit_lsn l.log x) d n h (λ k e a b. both_ways _ out (commit_in l.pairs (landed_records l.log d n) x (landed (is_commit_of x) l.log d n k h e a b)))

  prepare_same : has_durable_prepare (facts_in l n x) ≡ has_durable_prepare (facts_in l d x)
  prepare_same = below_same (prepare_lsn l.log x) d n h (λ k e a b. both_ways _ out (prepare_in l.pairs (landed_records l.log d n) x (landed (is_prepare_of x) l.log d n k h e a b)))

  preds_same : has_durable_predecessors (facts_in l n x) ≡ has_durable_predecessors (facts_in l d x)
  preds_same =
      predecessors_by_facts l n x
      ∙ all_same (λ p. is_below (commit_lsn l.log p) n) (λ p. is_below (commit_lsn l.log p) d) (predecessors_of l.pairs x)
      (λ p i. below_same (commit_lsn l.log p) d n h (λ k e a b. both_ways _ out (follower_in l.pairs (landed_records l.log d n) x p (landed (is_commit_of p) l.log d n k h e a b) (in_pair l.pairs x p i))))
      ∙ sym (predecessors_by_facts l d x)

  undo_same : has_durable_undo (facts_in l n x) ≡ has_durable_undo (facts_in l d x)
  undo_same = due_same (undone_lsn l.log x) d n h (λ k e a b. both_ways _ out (undo_in l.pairs (landed_records l.log d n) x (last_landed (is_undo_of x) l.log d n k h e a b)))

  abbrev before : PartFacts
  before = facts_in l d x

  abbrev after : PartFacts
  after = facts_in l n x

  writes_same : (b : Bool) → vote_by_writes after b ≡ vote_by_writes before b
  writes_same true = ap (λ b. cond b (Some Yes) None) prepare_same
  writes_same false = ap (λ b. cond b (Some Read) None) undo_same

  closed_same : closed_vote after ≡ closed_vote before
  closed_same = ap (λ b. cond b (vote_by_writes after before.updates) None) preds_same ∙ ap (λ v. cond (has_durable_predecessors before) v None) (writes_same before.updates)

  state_same : (seen : ℕ) (st : PartState) → vote_in_state after seen st ≡ vote_in_state before seen st
  state_same seen Unknown = refl
  state_same seen Active = refl
  state_same seen Closed = closed_same
  state_same seen Gone = refl

  first_same : (seen : ℕ) (o : Option Vote) → first_vote after seen o ≡ first_vote before seen o
  first_same seen (Some vote) = refl
  first_same seen None = state_same seen before.state

  owed_same : (v : Voter) (b : Bool) → vote_owed after v b ≡ vote_owed before v b
  owed_same v true = refl
  owed_same v false = first_same v.seen v.vote

  vote_same : (o : Option Voter) → is_vote_due after o ≡ is_vote_due before o
  vote_same None = refl
  vote_same (Some v) = ap is_some (owed_same v (v.owed == 0))

  agreed_same : (b : Bool) (ps : List ℕ) → agreed_ruling after b ps ≡ agreed_ruling before b ps
  agreed_same b (p ∷ ps) = refl
  agreed_same true [] = refl
  agreed_same false [] = ap (λ b. cond b (Some Acknowledge) None) preds_same

  undecided_same : (shard : ℕ) (q : Request) (b : Bool) → undecided_ruling shard x q after b ≡ undecided_ruling shard x q before b
  undecided_same shard q true = agreed_same before.updates (yes_shards shard q)
  undecided_same shard q false = refl

  ruling_same : (shard : ℕ) (q : Request) (st : RequestState) → ruling_in shard x q after st ≡ ruling_in shard x q before st
  ruling_same shard q Undecided = undecided_same shard q (is_agreed shard q before)
  ruling_same shard q (Committed ps) = refl
  ruling_same shard q Finished = refl
  ruling_same shard q (Refused c) = refl

  request_same : (shard : ℕ) (o : Option Request) → is_ruling_due shard x after o ≡ is_ruling_due shard x before o
  request_same shard None = refl
  request_same shard (Some q) = ap is_some (ruling_same shard q q.state)

same_due : (s : Shard) (n : ℕ) → s.durable ≤ n → (x : TxId) → tx_in x (landed_txs s.local.pairs (landed_records s.local.log s.durable n)) ≡ false → is_due (with_durable n s) x ≡ is_due s x
same_due s n h x out =
    let l = s.local in let d = s.durable in
    due_by_facts (with_durable n s) x
    ∙ three _ _ _ _ _ _ (ap (λ b. is_closed_state (facts_in l d x).state && b) (commit_same l d n h x out)) (vote_same l d n h x out (tx_get x s.voters)) (request_same l d n h x out s.shard (tx_get x s.requests))
    ∙ sym (due_by_facts s x)

pub flushes_cover : FlushesCover
flushes_cover s n txs h cover x due =
    let set = landed_txs s.local.pairs (landed_records s.local.log s.durable n) in
    in_append x set txs
    ∙ ⊎_elim (λ i. or_left _ _ i) (λ out. or_right (tx_in x set) _ (cover x (sym (same_due s n h x out) ∙ due))) (cases_Bool (tx_in x set))
