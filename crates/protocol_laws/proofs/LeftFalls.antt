-- Each thing that is done leaves less that may still be done: what is over counts for nothing.
pub mod FinishedStayFinished
pub mod VotersAndRequestsFall
pub mod SumsByTransaction
use Rattle.std.proofs.Common.{◌≡◌, refl, sym, ap, ◌∙◌, subst, ℕ, zero, suc, pred, ◌+◌, ◌<◌, ◌≤◌, true, false, Bool, [], ◌∷◌, Some, None, ◌||◌, ◌==◌, arith, is_some}
use Rattle.clv_base.specs.declared.names.TxId.{TxId}
use Rattle.clv_base.specs.declared.causes.Vote.{Vote}
use Rattle.clv_base.specs.declared.causes.Vote.TheVariants.{Yes, Read, No}
use Rattle.clv_base.specs.Orders.{tx_same, tx_get}
use Rattle.clv_base.specs.declared.state.Ruling.TheVariants.{Commit as CommitVerdict, Acknowledge, Abort as AbortVerdict, End as EndVerdict}
use Rattle.clv_base.specs.State.{Shard, Local, with_local}
use Rattle.clv_base.specs.declared.state.Stage.TheVariants.{Closed}
use Rattle.clv_base.specs.declared.state.Voter.{Voter}
use Rattle.clv_base.specs.declared.state.Request.{Request}
use Rattle.clv_base.specs.declared.state.Ruling.{Ruling}
use Rattle.clv_base.specs.Undo.{stage_of, roll_back, doomed_here, gone_in}
use Rattle.clv_base.specs.Facts.{facts_of, has_durable_commit}
use Rattle.clv_base.specs.Participant.{vote_by, voted}
use Rattle.clv_base.specs.Coordinator.{ruled_request}
use Rattle.clv_base.specs.Due.{total, part_work, finish_part, with_commit_done, with_vote, finish_reader, with_ruling, do_ruling, due_of, known_txs}
use Rattle.protocol_laws.specs.Candidates.{is_ruling_due}
use Rattle.protocol_laws.specs.Candidates.{is_commit_due, is_vote_due}
use Rattle.protocol_laws.specs.Rooms.{decisions}
use Rattle.std.specs.List.Sorted.{IsStrictlySortedBy}
use Rattle.std.specs.Map.{keys_of}
use Rattle.clv_base.specs.declared.names.Birth.{Birth}
use Rattle.clv_base.specs.declared.ops.Op.{Op}
use Rattle.clv_base.specs.Orders.{tx_same, tx_cmp}
use Rattle.clv_base.specs.OneShard.{performed}
use Rattle.clv_base.proofs.SameNames.{tx_true}
use Rattle.protocol_laws.proofs.LeftFalls.SumsByTransaction.{other_total}
use Rattle.protocol_laws.specs.Left.{is_over, total_by, is_finished, is_idle, left_voter, left_request, left, LeftFalls, OnlyLeftIsDue, MessagesByLeft, RecordsByLeft}
use Rattle.protocol_laws.proofs.LeftFalls.FinishedStayFinished.{Stay, finished_stage, performed_known, performed_other, total_by_at, PartsStay, stay_total, finish_stay, rolled_stay}
use Rattle.protocol_laws.proofs.Due.DueByFacts.{due_by_facts}
use Rattle.protocol_laws.proofs.LeftFalls.VotersAndRequestsFall.{voter_falls, request_falls, finished_facts, idle_facts, vote_counts, voted_counts, RulingLess, less_in, request_left, voter_left}
use Rattle.protocol_laws.proofs.OnlyWorkIsDue.{closed_work, Sends, sends_first, Writes, writes_first}
use Rattle.std.proofs.lemmas.Bool.{or_cases, and_parts}
use Rattle.std.proofs.Common.{length, ⊎_elim, is_some}
use Rattle.std.proofs.lemmas.Bool.{both_ways}
use Rattle.clv_base.specs.Facts.{is_closed_state}
use Rattle.clv_base.proofs.Settling.{owes, gone_closed, gone_le}
use Rattle.protocol_laws.proofs.Due.DueCaseByCase.{IfDue, due_holds, first_holds}

-- ---- voters and requests whose parts change

-- what is left where parts changed, no more of them are closed, those stay finished that are, and those idle
pub parts_more : (k : ℕ) (s : Shard) (m : Local) → total part_work m.parts ≤ total part_work s.local.parts + k → PartsStay s.local.parts m.parts → left (record s { local = m }) ≤ left s + k
parts_more k s m parts stay =
    let voters = stay_total left_voter (is_finished s.local.parts) (is_finished m.parts) s.voters voter_falls stay.finished in
    let requests = stay_total (left_request s.shard) (is_idle s.local.parts) (is_idle m.parts) s.requests (request_falls s.shard) stay.idle in
    omega (arith, parts, voters, requests)

pub parts_le : (s : Shard) (m : Local) → total part_work m.parts ≤ total part_work s.local.parts → PartsStay s.local.parts m.parts → left (record s { local = m }) ≤ left s
parts_le s m parts stay = let more = parts_more 0 s m (omega (arith, parts)) stay in omega (arith, more)

-- a granted operation, unless its part is new and its transaction has a request
performed_finished : (tx : TxId) (birth : Birth) (op : Op) (l : Local) → Stay (is_finished l.parts) (is_finished (performed tx birth op l).parts)
performed_finished tx birth op l x e = at (is_some (stage_of l tx)) refl (tx_same x tx) refl
  where
    apart : is_some (stage_of l tx) ≡ false → tx_same x tx ≡ true → ⊥
    apart none s = both_ways _ none (ap is_some (sym (ap (stage_of l) (tx_true x tx s)) ∙ finished_stage l x e))

    at : (b : Bool) → is_some (stage_of l tx) ≡ b → (c : Bool) → tx_same x tx ≡ c → is_finished (performed tx birth op l).parts x ≡ true
    at true some c s = ap (λ ps. is_finished ps x) (performed_known tx birth op l some) ∙ e
    at false none true s = absurd (apart none s)
    at false none false s = ap (is_over false) (performed_other tx birth op l x s) ∙ e

pub performed_le : (s : Shard) (tx : TxId) (birth : Birth) (op : Op) → IsStrictlySortedBy tx_cmp (keys_of s.requests) → total part_work (performed tx birth op s.local).parts ≤ total part_work s.local.parts
    → (is_some (stage_of s.local tx) ≡ false → tx_get tx s.requests ≡ None) → left (record s { local = performed tx birth op s.local }) ≤ left s
performed_le s tx birth op rising parts none = omega (arith, parts, voters, requests)
  where
    voters : total_by left_voter (is_finished (performed tx birth op s.local).parts) s.voters ≤ total_by left_voter (is_finished s.local.parts) s.voters
    voters = stay_total left_voter (is_finished s.local.parts) (is_finished (performed tx birth op s.local).parts) s.voters voter_falls (performed_finished tx birth op s.local)

    at : (b : Bool) → is_some (stage_of s.local tx) ≡ b → total_by (left_request s.shard) (is_idle (performed tx birth op s.local).parts) s.requests ≤ total_by (left_request s.shard) (is_idle s.local.parts) s.requests
    at true some = let same = ap (λ ps. total_by (left_request s.shard) (is_idle ps) s.requests) (performed_known tx birth op s.local some) in omega (arith, same)
    at false new =
        other_total (left_request s.shard) (is_idle s.local.parts) (is_idle (performed tx birth op s.local).parts) tx s.requests rising (λ x e. ap (is_over true) (performed_other tx birth op s.local x e))
        (λ q e. absurd (apart (sym (none new) ∙ e)))
      where
        apart : {q : Request} → None ≡ Some q → ⊥
        apart e = cc

    requests : total_by (left_request s.shard) (is_idle (performed tx birth op s.local).parts) s.requests ≤ total_by (left_request s.shard) (is_idle s.local.parts) s.requests
    requests = at (is_some (stage_of s.local tx)) refl

-- ---- the rules

commit_less : (s : Shard) (tx : TxId) → stage_of s.local tx ≡ Some Closed → left (with_commit_done s tx) < left s
commit_less s tx e =
    let stay = finish_stay (tx ∷ []) s.local.parts in let m = gone_in (tx ∷ []) None s.local.parts in
    let voters = stay_total left_voter (is_finished s.local.parts) (is_finished m) s.voters voter_falls stay.finished in
    let requests = stay_total (left_request s.shard) (is_idle s.local.parts) (is_idle m) s.requests (request_falls s.shard) stay.idle in
    omega (arith, gone_closed s.local tx e, voters, requests)

finish_le : (s : Shard) (tx : TxId) → left (finish_part tx s) ≤ left s
finish_le s tx = parts_le s (finish_part tx s).local (gone_le (tx ∷ []) None s.local.parts) (finish_stay (tx ∷ []) s.local.parts)

rolled_le : (s : Shard) (tx : TxId) → left (with_local (roll_back tx) s) ≤ left s
rolled_le s tx = parts_le s (roll_back tx s.local) (gone_le (doomed_here s.local tx) (Some tx) s.local.parts) (rolled_stay tx s.local)

vote_less : (s : Shard) (tx : TxId) (v : Voter) (vote : Vote) → tx_get tx s.voters ≡ Some v → vote_by (facts_of s tx) v ≡ Some vote → left (with_vote s tx v vote) < left s
vote_less s tx v vote e a =
    let parts = s.local.parts in let finished = is_finished parts tx in
    let was = vote_counts finished (facts_of s tx) v vote (finished_facts s tx) a in let is = voted_counts finished v vote in
    omega (arith, total_by_at left_voter (is_finished parts) tx s.voters v (voted vote v) e, was, is, lowered v.owed (owes (facts_of s tx) v (v.owed == 0) vote refl a))
  where
    lowered : (n : ℕ) → 0 < n → pred n + 1 ≡ n
    lowered zero h = absurd (omega arith)
    lowered (suc n) h = omega arith

reader : (s : Shard) (tx : TxId) (vote : Vote) → left (finish_reader tx vote s) ≤ left s
reader s tx Yes = omega arith
reader s tx Read = finish_le s tx
reader s tx (No why) = omega arith

done_le : (s : Shard) (tx : TxId) (r : Ruling) → left (do_ruling tx r s) ≤ left s
done_le s tx (CommitVerdict ps) = omega arith
done_le s tx Acknowledge = finish_le s tx
done_le s tx (AbortVerdict c to) = rolled_le s tx
done_le s tx EndVerdict = omega arith

ruled_less : (s : Shard) (tx : TxId) (q : Request) (r : Ruling) → tx_get tx s.requests ≡ Some q → RulingLess s.shard (is_idle s.local.parts tx) q (Some r) → left (do_ruling tx r (with_ruling tx q r s)) < left s
unfolding RulingLess
ruled_less s tx q r e l = omega (arith, total_by_at (left_request s.shard) (is_idle s.local.parts) tx s.requests q (ruled_request r q) e, l, done_le (with_ruling tx q r s) tx r)

due : (s : Shard) (tx : TxId) → IfDue (λ t. left t < left s) (due_of s tx)
due s tx =
    due_holds (λ t. left t < left s) s tx (commit_less s tx) (λ v x e a. omega (arith, vote_less s tx v x e a, reader (with_vote s tx v x) tx x))
    (λ q r e f. let l : RulingLess s.shard (is_idle s.local.parts tx) q (Some r) = subst (RulingLess s.shard (is_idle s.local.parts tx) q) f (less_in s.shard (is_idle s.local.parts tx) q tx (facts_of s tx) q.state (idle_facts s tx) refl) in
    ruled_less s tx q r e l)

pub left_falls : LeftFalls
left_falls s t e = subst (IfDue (λ u. left u < left s)) e (first_holds (λ u. left u < left s) s (due s) (known_txs s))

-- ---- who has something due has something left

pub only_left_is_due : OnlyLeftIsDue
only_left_is_due s tx e =
    let f = facts_of s tx in
    ⊎_elim
    (λ h. let a = closed_work (stage_of s.local tx) (and_parts (is_closed_state f.state) (has_durable_commit f) h).0 in omega (arith, a))
    (λ h. ⊎_elim
    (λ v. let a = voter_left (is_finished s.local.parts tx) f (tx_get tx s.voters) (finished_facts s tx) v in omega (arith, a))
    (λ r. let a = request_left s.shard (is_idle s.local.parts tx) tx f (tx_get tx s.requests) (idle_facts s tx) r in omega (arith, a))
    (or_cases (is_vote_due f (tx_get tx s.voters)) (is_ruling_due s.shard tx f (tx_get tx s.requests)) h))
    (or_cases (is_commit_due f) (is_vote_due f (tx_get tx s.voters) || is_ruling_due s.shard tx f (tx_get tx s.requests)) (sym (due_by_facts s tx) ∙ e))

pub messages_by_left : MessagesByLeft
messages_by_left s t few e =
    let fewer = left_falls s t e in let sent : length t.outbox ≤ length s.outbox + 15 = subst (IfDue (Sends s)) e (sends_first s (known_txs s) few) in omega (arith, fewer, sent)

pub records_by_left : RecordsByLeft
records_by_left s t e =
    let fewer = left_falls s t e in let written : decisions t.local.log ≤ decisions s.local.log + 1 = subst (IfDue (Writes s)) e (writes_first s (known_txs s)) in omega (arith, fewer, written)
