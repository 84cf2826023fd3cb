-- A grant makes nothing due: its part was active or not known, and is active then.
use Rattle.std.proofs.Common.{◌≡◌, refl, sym, ap, ◌∙◌, ℕ, ◌==◌, Bool, true, false, ◌&&◌, [], ◌∷◌, Option, Some, None, is_none, is_some}
use Rattle.std.specs.List.{list_all}
use Rattle.std.proofs.lemmas.Bool.{both_ways, cond-true}
use Rattle.clv_base.specs.declared.names.TxId.{TxId}
use Rattle.clv_base.specs.declared.names.Birth.{Birth}
use Rattle.clv_base.specs.declared.ops.Op.{Op}
use Rattle.clv_base.specs.declared.causes.Vote.{Vote}
use Rattle.clv_base.specs.declared.parts.PartState.TheVariants.{Active as ActiveState}
use Rattle.clv_base.specs.declared.parts.PartFacts.{PartFacts}
use Rattle.clv_base.specs.declared.state.Stage.{Stage}
use Rattle.clv_base.specs.declared.state.Stage.TheVariants.{Active, Closed, Gone}
use Rattle.clv_base.specs.declared.state.Held.{Held}
use Rattle.clv_base.specs.declared.state.Voter.{Voter}
use Rattle.clv_base.specs.declared.state.Request.{Request}
use Rattle.clv_base.specs.declared.state.RequestState.{RequestState}
use Rattle.clv_base.specs.declared.state.RequestState.TheVariants.{Undecided, Committed, Finished, Refused}
use Rattle.clv_base.specs.declared.state.Ruling.{Ruling}
use Rattle.clv_base.specs.Orders.{Table, tx_same, tx_get}
use Rattle.clv_base.specs.Facts.{state_by, doom_by, facts_of, is_closed_state}
use Rattle.clv_base.specs.Needs.{writes_of, value_at, key_of}
use Rattle.clv_base.specs.State.{Shard, Local}
use Rattle.clv_base.specs.Undo.{stage_of}
use Rattle.clv_base.specs.OneShard.{active_part, new_part, locked, performed}
use Rattle.clv_base.specs.Participant.{first_vote, vote_in_state, vote_owed, vote_by}
use Rattle.clv_base.specs.Coordinator.{others, vote_from, is_good, is_agreed, first_no, cause_by, refused_ruling, undecided_ruling, ruling_in, ruling_by}
use Rattle.clv_base.specs.Due.{or_else, commit_due, give_vote, vote_due, rule, request_due, due_of}
use Rattle.clv_base.proofs.SameNames.{tx_self}
use Rattle.law_base.proofs.Tables.{get_put, stage_by}
use Rattle.law_base.proofs.Stages.{written_parts}
use Rattle.protocol_laws.specs.Candidates.{Cover}
use Rattle.protocol_laws.proofs.Laws.{cover_grows, operations_touch, others_cover}
use Rattle.txn_core.specs.Sound.{may_work}

-- ---- the part is active

work_active : (st : Stage) → may_work (Some st) ≡ true → Some st ≡ Some Active
work_active Active work = refl
work_active Closed work = absurd (both_ways false refl work)
work_active (Gone doom) work = absurd (both_ways false refl work)

new_active : (tx : TxId) (birth : Birth) (o : Option Held) (parts : Table Held) → tx_get tx parts ≡ o → may_work (stage_by o) ≡ true → stage_by (tx_get tx (new_part tx birth o parts)) ≡ Some Active
new_active tx birth None parts is work = ap stage_by (get_put tx tx (active_part birth) parts ∙ cond-true (tx_same tx tx) (Some (active_part birth)) (tx_get tx parts) (tx_self tx))
new_active tx birth (Some h) parts is work = ap stage_by is ∙ work_active h.stage work

performed_active : (tx : TxId) (birth : Birth) (op : Op) (l : Local) → may_work (stage_of l tx) ≡ true → stage_of (performed tx birth op l) tx ≡ Some Active
performed_active tx birth op l work =
    ap (λ (parts : Table Held). stage_by (tx_get tx parts)) (written_parts tx (writes_of op (value_at (key_of op) l.records)) (locked tx birth op l)) ∙ new_active tx birth (tx_get tx l.parts) l.parts refl work

-- ---- by facts

-- the facts of a part that isn't closed, and that no abort took away
record IsOpen (f : PartFacts) : Type 0 where
  pub closed : is_closed_state f.state ≡ false
  pub doom : f.doom ≡ None

open_by : (st : Option Stage) → may_work st ≡ true → (is_closed_state (state_by st) ≡ false) × (doom_by st ≡ None)
open_by None work = (refl, refl)
open_by (Some Active) work = (refl, refl)
open_by (Some Closed) work = absurd (both_ways false refl work)
open_by (Some (Gone doom)) work = absurd (both_ways false refl work)

facts_open : (s : Shard) (tx : TxId) → may_work (stage_of s.local tx) ≡ true → IsOpen (facts_of s tx)
facts_open s tx work = let o = open_by (stage_of s.local tx) work in record { closed = o.0; doom = o.1 }

-- where no vote was due, none is of an active part
no_vote : (f g : PartFacts) (v : Voter) → g.state ≡ ActiveState → vote_by f v ≡ None → vote_by g v ≡ None
no_vote f g v active none = at (v.owed == 0) none
  where
    given : (o : Option Vote) → first_vote f v.seen o ≡ None → first_vote g v.seen o ≡ None
    given (Some vote) e = e
    given None e = ap (vote_in_state g v.seen) active

    at : (b : Bool) → vote_owed f v b ≡ None → vote_owed g v b ≡ None
    at true e = refl
    at false e = given v.vote e

-- of an open part an undecided request is refused by the votes alone
not_agreed : (n : ℕ) (q : Request) (f : PartFacts) → is_closed_state f.state ≡ false → is_agreed n q f ≡ false
not_agreed n q f closed = ap (λ b. (b && is_none f.commit) && (f.undecided == 0) && list_all (λ p. is_good (vote_from p q.votes)) (others n q.touched)) closed

by_votes : (n : ℕ) (tx : TxId) (q : Request) (f : PartFacts) → IsOpen f → undecided_ruling n tx q f (is_agreed n q f) ≡ refused_ruling n q (cause_by tx (first_no q.votes) None)
by_votes n tx q f free = ap (undecided_ruling n tx q f) (not_agreed n q f free.closed) ∙ ap (λ (d : Option TxId). refused_ruling n q (cause_by tx (first_no q.votes) d)) free.doom

no_ruling : (n : ℕ) (tx : TxId) (q : Request) (f g : PartFacts) → IsOpen f → IsOpen g → ruling_by n tx q f ≡ None → ruling_by n tx q g ≡ None
no_ruling n tx q f g before after none = at q.state none
  where
    at : (st : RequestState) → ruling_in n tx q f st ≡ None → ruling_in n tx q g st ≡ None
    at Undecided e = by_votes n tx q g after ∙ sym (by_votes n tx q f before) ∙ e
    at (Committed parts) e = e
    at Finished e = refl
    at (Refused cause) e = refl

-- ---- nothing is due

first_none : (a b : Option Shard) → or_else a b ≡ None → (a ≡ None) × (b ≡ None)
first_none None b e = (refl, e)
first_none (Some s) b e = absurd cc

both_none : (a b : Option Shard) → a ≡ None → b ≡ None → or_else a b ≡ None
both_none a b first second = ap (λ o. or_else o b) first ∙ second

vote_none : (s t : Shard) (tx : TxId) (o : Option Voter) → (facts_of t tx).state ≡ ActiveState → vote_due s tx o ≡ None → vote_due t tx o ≡ None
vote_none s t tx None active e = refl
vote_none s t tx (Some v) active e = ap (give_vote t tx v) (no_vote (facts_of s tx) (facts_of t tx) v active (given (vote_by (facts_of s tx) v) e))
  where
    given : (vote : Option Vote) → give_vote s tx v vote ≡ None → vote ≡ None
    given None e = refl
    given (Some vote) e = absurd cc

request_none : (s t : Shard) (tx : TxId) (o : Option Request) → t.shard ≡ s.shard → IsOpen (facts_of s tx) → IsOpen (facts_of t tx) → request_due s tx o ≡ None → request_due t tx o ≡ None
request_none s t tx None same before after e = refl
request_none s t tx (Some q) same before after e =
    ap (rule t tx q) (ap (λ n. ruling_by n tx q (facts_of t tx)) same ∙ no_ruling s.shard tx q (facts_of s tx) (facts_of t tx) before after (given (ruling_by s.shard tx q (facts_of s tx)) e))
  where
    given : (r : Option Ruling) → rule s tx q r ≡ None → r ≡ None
    given None e = refl
    given (Some r) e = absurd cc

nothing_due : (s : Shard) (tx : TxId) (m : Local) → may_work (stage_of s.local tx) ≡ true → stage_of m tx ≡ Some Active → due_of s tx ≡ None → due_of (record s { local = m }) tx ≡ None
nothing_due s tx m work active none =
    let t : Shard = record s { local = m } in let before = facts_open s tx work in let after = facts_open t tx (ap may_work active) in
    let later = (first_none (commit_due s tx (stage_of s.local tx)) (or_else (vote_due s tx (tx_get tx s.voters)) (request_due s tx (tx_get tx s.requests))) none).1 in
    let each = first_none (vote_due s tx (tx_get tx s.voters)) (request_due s tx (tx_get tx s.requests)) later in
    both_none (commit_due t tx (stage_of t.local tx)) (or_else (vote_due t tx (tx_get tx t.voters)) (request_due t tx (tx_get tx t.requests)))
    (ap (commit_due t tx) active)
    (both_none (vote_due t tx (tx_get tx t.voters)) (request_due t tx (tx_get tx t.requests)) (vote_none s t tx (tx_get tx s.voters) (ap state_by active) each.0) (request_none s t tx (tx_get tx s.requests) refl before after each.1))

none_due : (o : Option Shard) → (is_some o ≡ true → false ≡ true) → o ≡ None
none_due None h = refl
none_due (Some s) h = absurd (both_ways false refl (h refl))

-- where nothing was due for anybody, nothing is after a grant
pub grant_covers : (s : Shard) (tx : TxId) (birth : Birth) (op : Op) → may_work (stage_of s.local tx) ≡ true → Cover [] s → Cover [] (record s { local = performed tx birth op s.local })
grant_covers s tx birth op work rest =
    let m = performed tx birth op s.local in
    others_cover (record s { local = m }) tx [] (cover_grows (tx ∷ []) [] s (record s { local = m }) (operations_touch.0 s tx birth op) rest)
    (nothing_due s tx m work (performed_active tx birth op s.local work) (none_due (due_of s tx) (rest tx)))
