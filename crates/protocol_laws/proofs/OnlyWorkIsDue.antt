-- What each thing that is done spends.
use Rattle.std.proofs.Common.{◌≡◌, refl, sym, ap, subst, ◌∙◌, ⊎_elim, ℕ, zero, suc, ◌+◌, ◌<◌, ◌≤◌, Bool, true, false, cond, not, ◌&&◌, ◌||◌, ◌==◌, List, [], ◌∷◌, ◌++◌, map, length, Option, Some, None, is_some, arith}
use Rattle.std.proofs.lemmas.Bool.{both_ways, or_cases, and_parts}
use Rattle.std.proofs.Common.{length-append}
use Rattle.std.specs.List.{filter, list_all}
use Rattle.clv_base.specs.declared.names.TxId.{TxId}
use Rattle.clv_base.specs.declared.causes.AbortCause.{AbortCause}
use Rattle.clv_base.specs.declared.causes.Vote.{Vote}
use Rattle.clv_base.specs.declared.causes.Vote.TheVariants.{Yes, Read, No}
use Rattle.clv_base.specs.declared.logs.LogRecord.{LogRecord}
use Rattle.clv_base.specs.declared.logs.LogRecord.TheVariants.{Commit, Abort, End}
use Rattle.clv_base.specs.declared.changes.Change.{Change}
use Rattle.clv_base.specs.declared.changes.Change.TheVariants.{Sets, Adds}
use Rattle.clv_base.specs.declared.messages.Message.{Message}
use Rattle.clv_base.specs.declared.messages.Message.TheVariants.{Decide}
use Rattle.clv_base.specs.declared.parts.PartFacts.{PartFacts}
use Rattle.clv_base.specs.declared.state.Stage.{Stage}
use Rattle.clv_base.specs.declared.state.Stage.TheVariants.{Active, Closed, Gone}
use Rattle.clv_base.specs.declared.state.Voter.{Voter}
use Rattle.clv_base.specs.declared.state.Request.{Request}
use Rattle.clv_base.specs.declared.state.RequestState.{RequestState}
use Rattle.clv_base.specs.declared.state.RequestState.TheVariants.{Undecided, Committed, Finished, Refused}
use Rattle.clv_base.specs.declared.state.Ruling.{Ruling}
use Rattle.clv_base.specs.declared.state.Ruling.TheVariants.{Commit as CommitVerdict, Acknowledge, Abort as AbortVerdict, End as EndVerdict}
use Rattle.clv_base.specs.Orders.{tx_in, tx_get, nat_in}
use Rattle.clv_base.specs.Logs.{StandingUpdate, has_standing, standing}
use Rattle.clv_base.specs.State.{Shard}
use Rattle.clv_base.specs.Undo.{stage_of, doomed_here, aborts_of, clrs_of, newest_lsn, compensation}
use Rattle.clv_base.specs.Facts.{facts_of, state_by, is_closed_state, has_durable_commit, has_durable_predecessors}
use Rattle.clv_base.specs.Participant.{vote_owed}
use Rattle.clv_base.specs.Coordinator.{others, open_shards, is_agreed, agreed_ruling, yes_shards, undecided_ruling, refused_ruling, refusal, ruling_in}
use Rattle.clv_base.specs.Due.{commit_messages, with_commit_done, first_due, known_txs, state_work, request_work, finish_reader, with_vote, do_ruling, with_ruling}
use Rattle.clv_base.proofs.Settling.{each_leaves_less}
use Rattle.protocol_laws.specs.Candidates.{is_commit_due, is_vote_due, is_ruling_due}
use Rattle.protocol_laws.specs.Rooms.{part_of, voter_of, request_of, OnlyWorkIsDue, parts_of, FewParts, MessagesByWork, is_decision, decisions, RecordsByWork}
use Rattle.protocol_laws.proofs.Due.DueByFacts.{due_by_facts}
use Rattle.law_base.proofs.Names.{by_state}
use Rattle.law_base.proofs.Lists.{filter_fewer as fewer}
use Rattle.protocol_laws.proofs.Due.DueCaseByCase.{IfDue, due_holds, first_holds}

-- ---- who has something due has work

pub closed_work : (o : Option Stage) → is_closed_state (state_by o) ≡ true → 0 < part_of o
closed_work None e = absurd (both_ways false refl e)
closed_work (Some Active) e = absurd (both_ways false refl e)
closed_work (Some Closed) e = omega arith
closed_work (Some (Gone d)) e = absurd (both_ways false refl e)

owed_work : (f : PartFacts) (v : Voter) (b : Bool) → (v.owed == 0) ≡ b → is_some (vote_owed f v b) ≡ true → 0 < v.owed
owed_work f v true t e = absurd (both_ways false refl e)
owed_work f v false t e = at v.owed t
  where
    at : (n : ℕ) → (n == 0) ≡ false → 0 < n
    at zero t = absurd (both_ways (zero == 0) t refl)
    at (suc n) t = omega arith

pub voter_has : (f : PartFacts) (o : Option Voter) → is_vote_due f o ≡ true → 0 < voter_of o
voter_has f None e = absurd (both_ways false refl e)
voter_has f (Some v) e = owed_work f v (v.owed == 0) refl e

pub open_end : (q : Request) (b c : Bool) → q.is_ended ≡ b → is_some (cond (not b && c) (Some EndVerdict) None) ≡ true → ◌≡◌ {A = ℕ} (cond q.is_ended 0 1) 1
open_end q true c e h = absurd (both_ways false refl h)
open_end q false c e h = ap (λ b. cond b 0 1) e

ruled_work : (n : ℕ) (tx : TxId) (q : Request) (f : PartFacts) (st : RequestState) → q.state ≡ st → is_some (ruling_in n tx q f st) ≡ true → 0 < request_work q
ruled_work n tx q f Undecided e h = let one : state_work q.state ≡ 1 = ap state_work e in omega (arith, one)
ruled_work n tx q f (Committed []) e h = absurd (both_ways false refl h)
ruled_work n tx q f (Committed (p ∷ ps)) e h = let one = open_end q q.is_ended (list_all (λ k. nat_in k q.acknowledged_by) (p ∷ ps)) refl h in omega (arith, one)
ruled_work n tx q f Finished e h = absurd (both_ways false refl h)
ruled_work n tx q f (Refused c) e h = absurd (both_ways false refl h)

request_has : (n : ℕ) (tx : TxId) (f : PartFacts) (o : Option Request) → is_ruling_due n tx f o ≡ true → 0 < request_of o
request_has n tx f None e = absurd (both_ways false refl e)
request_has n tx f (Some q) e = ruled_work n tx q f q.state refl e

pub only_work_is_due : OnlyWorkIsDue
only_work_is_due s tx e =
    let f = facts_of s tx in
    ⊎_elim
    (λ h. let a = closed_work (stage_of s.local tx) (and_parts (is_closed_state f.state) (has_durable_commit f) h).0 in omega (arith, a))
    (λ h. ⊎_elim
    (λ v. let a = voter_has f (tx_get tx s.voters) v in omega (arith, a))
    (λ r. let a = request_has s.shard tx f (tx_get tx s.requests) r in omega (arith, a))
    (or_cases (is_vote_due f (tx_get tx s.voters)) (is_ruling_due s.shard tx f (tx_get tx s.requests)) h))
    (or_cases (is_commit_due f) (is_vote_due f (tx_get tx s.voters) || is_ruling_due s.shard tx f (tx_get tx s.requests)) (sym (due_by_facts s tx) ∙ e))

-- ---- messages

abbrev pub Sends : Shard → Shard → Type 0
Sends s t = length t.outbox ≤ length s.outbox + 15

told : {B : Type 0} (f : ℕ → B) (ps : List ℕ) → length (map f ps) ≡ length ps
told f [] = refl
told f (p ∷ ps) = let h = told f ps in omega (arith, h)

commit_few : (s : Shard) (tx : TxId) (o : Option Request) (v : Option Voter) → ((q : Request) → o ≡ Some q → length (parts_of q.state) ≤ 15) → length (commit_messages s tx o v) ≤ 15
commit_few s tx (Some q) v h = at q.state (h q refl)
  where
    at : (st : RequestState) → length (parts_of st) ≤ 15 → length (by_state tx s.shard st) ≤ 15
    at (Committed parts) h = let e = told (λ p. Decide p tx s.shard true) parts in omega (arith, e, h)
    at Undecided h = omega arith
    at Finished h = omega arith
    at (Refused c) h = omega arith
commit_few s tx None (Some v) h = omega arith
commit_few s tx None None h = omega arith

sends_commit : (s : Shard) (tx : TxId) → FewParts s → Sends s (with_commit_done s tx)
sends_commit s tx few =
    let ms = commit_messages s tx (tx_get tx s.requests) (tx_get tx s.voters) in let a = length-append s.outbox ms in
    let b = commit_few s tx (tx_get tx s.requests) (tx_get tx s.voters) (λ q e. (few tx q e).1) in omega (arith, a, b)

one_more : (ms : List Message) (m : Message) → length (ms ++ m ∷ []) ≤ length ms + 15
one_more ms m = let a = length-append ms (m ∷ []) in omega (arith, a)

sends_vote : (s : Shard) (tx : TxId) (v : Voter) (x : Vote) → Sends s (finish_reader tx x (with_vote s tx v x))
sends_vote s tx v Yes = one_more s.outbox _
sends_vote s tx v Read = one_more s.outbox _
sends_vote s tx v (No why) = one_more s.outbox _

-- whom an abort is told
abbrev Told : Option Ruling → Type 0
Told None = Unit {0}
Told (Some (AbortVerdict cause to)) = length to ≤ 15
Told (Some (CommitVerdict parts)) = Unit {0}
Told (Some Acknowledge) = Unit {0}
Told (Some EndVerdict) = Unit {0}

told_if : (b : Bool) (r : Ruling) → Told (Some r) → Told (cond b (Some r) None)
told_if true r h = h
told_if false r h = tt

told_agreed : (f : PartFacts) (b : Bool) (ps : List ℕ) → Told (agreed_ruling f b ps)
told_agreed f b (p ∷ ps) = tt
told_agreed f true [] = tt
told_agreed f false [] = told_if (has_durable_predecessors f) Acknowledge tt

told_refused : (n : ℕ) (q : Request) (c : Option AbortCause) → length (others n q.touched) ≤ 15 → Told (refused_ruling n q c)
told_refused n q None h = tt
told_refused n q (Some c) h = at (fewer _ (others n q.touched))
  where
    at : length (open_shards n q) ≤ length (others n q.touched) → length (open_shards n q) ≤ 15
    at a = omega (arith, a, h)

told_undecided : (n : ℕ) (tx : TxId) (q : Request) (f : PartFacts) (b : Bool) → length (others n q.touched) ≤ 15 → Told (undecided_ruling n tx q f b)
told_undecided n tx q f true h = told_agreed f f.updates (yes_shards n q)
told_undecided n tx q f false h = told_refused n q (refusal tx q f) h

told_in : (n : ℕ) (tx : TxId) (q : Request) (f : PartFacts) (st : RequestState) → length (others n q.touched) ≤ 15 → Told (ruling_in n tx q f st)
told_in n tx q f Undecided h = told_undecided n tx q f (is_agreed n q f) h
told_in n tx q f (Committed []) h = tt
told_in n tx q f (Committed (p ∷ ps)) h = told_if (not q.is_ended && list_all (λ k. nat_in k q.acknowledged_by) (p ∷ ps)) EndVerdict tt
told_in n tx q f Finished h = tt
told_in n tx q f (Refused c) h = tt

sends_rule : (s : Shard) (tx : TxId) (q : Request) (r : Ruling) → Told (Some r) → Sends s (do_ruling tx r (with_ruling tx q r s))
sends_rule s tx q (CommitVerdict parts) h = omega arith
sends_rule s tx q Acknowledge h = omega arith
sends_rule s tx q (AbortVerdict cause to) h =
    let e = told (λ p. Decide p tx s.shard false) to in let a = length-append s.outbox (map (λ p. Decide p tx s.shard false) to) in omega (arith, e, a, h)
sends_rule s tx q EndVerdict h = omega arith

pub sends_first : (s : Shard) (txs : List TxId) → FewParts s → IfDue (Sends s) (first_due s txs)
sends_first s txs few =
    first_holds (Sends s) s
    (λ tx. due_holds (Sends s) s tx (λ e. sends_commit s tx few) (λ v x e f. sends_vote s tx v x)
    (λ q r e f. sends_rule s tx q r (subst Told f (told_in s.shard tx q (facts_of s tx) q.state (few tx q e).0))))
    txs

pub messages_by_work : MessagesByWork
messages_by_work s t few e =
    let less = each_leaves_less s t e in let sent : length t.outbox ≤ length s.outbox + 15 = subst (IfDue (Sends s)) e (sends_first s (known_txs s) few) in omega (arith, less, sent)

-- ---- records

abbrev pub Writes : Shard → Shard → Type 0
Writes s t = decisions t.local.log ≤ decisions s.local.log + 1

decisions-append : (xs ys : List LogRecord) → decisions (xs ++ ys) ≡ decisions xs + decisions ys
decisions-append [] ys = omega arith
decisions-append (x ∷ xs) ys = at (is_decision x) (decisions-append xs ys)
  where
    at : (b : Bool) → decisions (xs ++ ys) ≡ decisions xs + decisions ys → length (cond b (x ∷ filter is_decision (xs ++ ys)) (filter is_decision (xs ++ ys))) ≡ length (cond b (x ∷ filter is_decision xs) (filter is_decision xs)) + decisions ys
    at true h = omega (arith, h)
    at false h = h

none_aborts : (ts : List TxId) → decisions (map (λ u. Abort u) ts) ≡ 0
none_aborts [] = refl
none_aborts (t ∷ ts) = none_aborts ts

none_clrs : (set : List TxId) (ws : List StandingUpdate) → decisions (clrs_of set ws) ≡ 0
none_clrs set [] = refl
none_clrs set (w ∷ ws) = at (tx_in w.tx set) w.change (none_clrs set ws)
  where
    at : (b : Bool) (c : Change) → decisions (clrs_of set ws) ≡ 0 → decisions (cond b (compensation w.tx (newest_lsn w.tx ws) w.key c ∷ clrs_of set ws) (clrs_of set ws)) ≡ 0
    at true (Sets before after) h = h
    at true (Adds by) h = h
    at false c h = h

writes_vote : (s : Shard) (tx : TxId) (v : Voter) (x : Vote) → Writes s (finish_reader tx x (with_vote s tx v x))
writes_vote s tx v Yes = omega arith
writes_vote s tx v Read = omega arith
writes_vote s tx v (No why) = omega arith

writes_rule : (s : Shard) (tx : TxId) (q : Request) (r : Ruling) → Writes s (do_ruling tx r (with_ruling tx q r s))
writes_rule s tx q (CommitVerdict parts) = let a = decisions-append s.local.log (Commit tx parts ∷ []) in let one : decisions (Commit tx parts ∷ []) ≤ 1 = omega arith in omega (arith, a, one)
writes_rule s tx q Acknowledge = omega arith
writes_rule s tx q (AbortVerdict cause to) =
    let set = doomed_here s.local tx in let ws = standing s.local.log in
    let a = decisions-append (s.local.log ++ aborts_of s.local.log set) (clrs_of set ws) in let b = decisions-append s.local.log (aborts_of s.local.log set) in
    let c = none_aborts (filter (has_standing s.local.log) set) in let d = none_clrs set ws in omega (arith, a, b, c, d)
writes_rule s tx q EndVerdict = let a = decisions-append s.local.log (End tx ∷ []) in let one : decisions (End tx ∷ []) ≤ 1 = omega arith in omega (arith, a, one)

pub writes_first : (s : Shard) (txs : List TxId) → IfDue (Writes s) (first_due s txs)
writes_first s txs = first_holds (Writes s) s (λ tx. due_holds (Writes s) s tx (λ e. omega arith) (λ v x e f. writes_vote s tx v x) (λ q r e f. writes_rule s tx q r)) txs

pub records_by_work : RecordsByWork
records_by_work s t e =
    let less = each_leaves_less s t e in let written : decisions t.local.log ≤ decisions s.local.log + 1 = subst (IfDue (Writes s)) e (writes_first s (known_txs s)) in omega (arith, less, written)
