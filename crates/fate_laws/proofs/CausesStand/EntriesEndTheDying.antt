-- What an entry of a legal history owes: who dies, asks or is dropped ends by it, and nothing is undecided of whom it takes away.
use Rattle.std.proofs.Common.{◌≡◌, inl, inr, refl, sym, ap, subst, ◌∙◌, ℕ, true, false, List, [], ◌∷◌, ◌++◌, Option, Some, None, arith}
use Rattle.std.proofs.lemmas.Bool.{both_ways, cond-true}
use Rattle.clv_base.specs.declared.names.TxId.{TxId}
use Rattle.clv_base.specs.declared.names.Birth.{Birth}
use Rattle.clv_base.specs.declared.ops.Op.{Op}
use Rattle.clv_base.specs.declared.causes.Vote.{Vote}
use Rattle.clv_base.specs.declared.causes.Vote.TheVariants.{Yes, Read, No}
use Rattle.clv_base.specs.declared.logs.LogRecord.{LogRecord}
use Rattle.clv_base.specs.declared.messages.Message.{Message}
use Rattle.clv_base.specs.declared.messages.Message.TheVariants.{Prepare, Vote as VoteMessage, Decide, Done, Ask}
use Rattle.clv_base.specs.declared.events.Event.{Event}
use Rattle.clv_base.specs.declared.events.Event.TheVariants.{Op as OpEvent, Request as RequestEvent, Drop, Deliver}
use Rattle.clv_base.specs.declared.events.Outcome.{Outcome}
use Rattle.clv_base.specs.declared.events.Outcome.TheVariants.{Dead, Asked, Taken}
use Rattle.clv_base.specs.declared.state.Request.{Request}
use Rattle.clv_base.specs.declared.state.RequestState.TheVariants.{Undecided}
use Rattle.clv_base.specs.Orders.{tx_same, tx_get}
use Rattle.clv_base.specs.State.{Shard}
use Rattle.clv_base.specs.Coordinator.{stands_open}
use Rattle.clv_base.specs.Sessions.{no_session}
use Rattle.clv_base.specs.Restarts.{run_after}
use Rattle.clv_base.specs.Journals.{History, own}
use Rattle.clv_base.specs.History.{Legal, no_taken}
use Rattle.clv_base.proofs.SameNames.{tx_self}
use Rattle.protocol_laws.specs.SessionLaws.{tx_of, ended_by}
use Rattle.history_cases.proofs.Merging.{Placed, among_left, among_right, in_order, own_in_order, precedes_before}
use Rattle.history_laws.proofs.NeverTakenBack.{walker_of, one_request}
use Rattle.history_cases.proofs.Worlds.{state_at}
use Rattle.history_laws.proofs.RequestsNameWhatAnswered.DropsAfterRequests.{drop_after_request}
use Rattle.history_laws.proofs.Entries.WalkedEntryByEntry.{Behind, from_own, first_among}
use Rattle.fate_laws.proofs.History.EntriesInTurn.{Requested, turn_of, own_precedes, op_no_request}
use Rattle.fate_laws.proofs.Origins.DueKeepsOrigins.{StateFrom, AwayRequest, row_of}
use Rattle.fate_laws.proofs.Origins.FrontsKeepOrigins.{IsOld, Traced, Brings}
use Rattle.fate_laws.proofs.Homes.ShardKnowsHomes.{open_undecided}
use Rattle.fate_laws.proofs.History.EntryByEntry.{one_home}
use Rattle.fate_laws.proofs.AbortedAreCommittedNowhere.{Spared}
use Rattle.fate_laws.proofs.CausesStand.NextFrontHasCauses.{Ended, Took}
use Rattle.fate_laws.proofs.CausesStand.EventsEndTheirOwn.{IsSettled, OwesVote, OwesMessage, Owes}

-- what stands before the next entry
pub record Before_entry (splits : List ℕ) (before after : List (List LogRecord)) (h pre : History) (e : Placed) : Type 0 where
  pub legal : Legal splits before h after
  pub behind : Behind h pre e
  pub spared : Spared splits before after h pre
  pub traced : Traced (run_after before) pre e.0 (state_at before after e.0 pre)

-- ---- nothing is undecided

-- an undecided request was taken here
asked_here : (run : ℕ) (pre : History) (n : ℕ) (s : Shard) (t : TxId) (q : Request) → Traced run pre n s → tx_get t s.requests ≡ Some q → q.state ≡ Undecided → Requested pre t n
asked_here run pre n s t q k g u = subst (StateFrom (Requested pre) n t) u (row_of n s.local.epoch _ _ (Requested pre) _ _ s t q g k.origins).1

op_settled : (splits : List ℕ) (before after : List (List LogRecord)) (h pre : History) (e : Placed) (t : TxId) (b : Birth) (nth : ℕ) (seen : Option ℕ) (op : Op) → Before_entry splits before after h pre e → (e.1).event ≡ OpEvent t b nth seen op → IsSettled (state_at before after e.0 pre) t
op_settled splits before after h pre e t b nth seen op w p q g u =
    op_no_request splits before after h pre e t b nth seen op e.0 w.legal w.behind p (asked_here (run_after before) pre e.0 (state_at before after e.0 pre) t q w.traced g u)

drop_settled : (splits : List ℕ) (before after : List (List LogRecord)) (h pre : History) (e : Placed) (t : TxId) → Before_entry splits before after h pre e → (e.1).event ≡ Drop t → IsSettled (state_at before after e.0 pre) t
drop_settled splits before after h pre e t w p q g u =
    let s = state_at before after e.0 pre in
    let r = asked_here (run_after before) pre e.0 s t q w.traced g u in
    let v = own ((r.0).1).walker h in
    let o = own_precedes splits before after h r.0 e t w.legal (turn_of h pre e r.0 w.behind r.2) (ap tx_of (r.3).0) (ap tx_of p) in
    let y = drop_after_request splits v (no_session (run_after before) ((r.0).1).walker) r.0 e t r.1 o.1 o.0 (r.3).0 (r.3).1 p in
    let i = (w.behind).earlier y.0 (from_own ((r.0).1).walker y.0 h (first_among y.0 e v y.2)) (precedes_before y.0 e v (own_in_order ((r.0).1).walker h (in_order h (w.legal).ordered)) y.2) in
    let d = (w.spared).looks y.0 t y.1 i y.3 y.4 (walker_of splits before after h e t w.legal (w.behind).here (ap tx_of p)).0 in
    let a = d.0 in
    let j = (w.behind).turn ((y.0).0, a.0) a.2 in
    let same = one_home splits before after h t (y.0).0 (r.0).0 a.0 (r.0).1 a.1 r.1 w.legal j.0 a.3 ((w.behind).turn r.0 r.2).0 r.3 in
    let closed = subst (λ m. stands_open (tx_get t (state_at before after m pre).requests) ≡ false) (same ∙ r.4) (d.1).1 in
    both_ways _ closed (subst (λ x. stands_open x ≡ true) (sym g) (open_undecided q u))

decide_settled : (splits : List ℕ) (before after : List (List LogRecord)) (h pre : History) (e : Placed) (t : TxId) → Before_entry splits before after h pre e → AwayRequest (Requested pre) (IsOld (run_after before)) e.0 t → IsSettled (state_at before after e.0 pre) t
decide_settled splits before after h pre e t w a q g u = at a
  where
    r : Requested pre t e.0
    r = asked_here (run_after before) pre e.0 (state_at before after e.0 pre) t q w.traced g u

    at : AwayRequest (Requested pre) (IsOld (run_after before)) e.0 t → ⊥
    at (inl (m, far, x)) =
        let same = one_request splits before after h x.0 r.0 t x.1 r.1 w.legal ((w.behind).turn x.0 x.2).0 ((w.behind).turn r.0 r.2).0 x.3 r.3 in far (sym x.4 ∙ ap (λ z. z.0) same ∙ r.4)
    at (inr o) = let z = (walker_of splits before after h r.0 t w.legal ((w.behind).turn r.0 r.2).0 (ap tx_of (r.3).0)).0 in omega (arith, o, z)

-- ---- what ends

ended_now : (run : ℕ) (pre : History) (e : Placed) (t : TxId) (ev : Event) (o : Outcome) → (e.1).event ≡ ev → (e.1).outcome ≡ o → tx_of ev ≡ Some t → ended_by ev o ≡ Some t.serial → Ended run (pre ++ e ∷ []) t
ended_now run pre e t ev o p q a b = inl (e, among_right e pre (e ∷ []) (inl refl), ap tx_of p ∙ a, ap (λ z. ended_by z (e.1).outcome) p ∙ ap (ended_by ev) q ∙ b)

away_ended : (run : ℕ) (pre : History) (e : Placed) (t : TxId) (n : ℕ) → AwayRequest (Requested pre) (IsOld run) n t → Ended run (pre ++ e ∷ []) t
away_ended run pre e t n (inl (m, far, x)) = inl (x.0, among_left x.0 pre (e ∷ []) x.2, ap tx_of (x.3).0, ap (λ z. ended_by z ((x.0).1).outcome) (x.3).0)
away_ended run pre e t n (inr o) = inr o

-- ---- what it owes

took_now : (pre : History) (e : Placed) (to from stamp : ℕ) (t : TxId) (vote : Vote) → (e.1).event ≡ Deliver (VoteMessage to t from vote) stamp → (e.1).outcome ≡ Taken → OwesVote (Took (pre ++ e ∷ []) e.0) t from vote
took_now pre e to from stamp t Yes p q = tt
took_now pre e to from stamp t Read p q = tt
took_now pre e to from stamp t (No why) p q = (
  e,
  among_right e pre (e ∷ []) (inl refl),
  refl,
  ap (λ z. no_taken t z (e.1).outcome) p ∙ ap (no_taken t (Deliver (VoteMessage to t from (No why)) stamp)) q ∙ cond-true (tx_same t t) (Some (from, why)) None (tx_self t),
)

owes_message : (splits : List ℕ) (before after : List (List LogRecord)) (h pre : History) (e : Placed) (m : Message) (stamp : ℕ) → Before_entry splits before after h pre e → (e.1).event ≡ Deliver m stamp → (e.1).outcome ≡ Taken
    → Brings (Requested pre) (IsOld (run_after before)) (Deliver m stamp) → OwesMessage (Ended (run_after before) (pre ++ e ∷ [])) (Took (pre ++ e ∷ []) e.0) (state_at before after e.0 pre) m
owes_message splits before after h pre e (Prepare to t home seen) stamp w p q b = tt
owes_message splits before after h pre e (VoteMessage to t from vote) stamp w p q b = took_now pre e to from stamp t vote p q
owes_message splits before after h pre e (Decide to t home true) stamp w p q b = tt
owes_message splits before after h pre e (Decide to t home false) stamp w p q b =
    λ here.
    let a = subst (λ n. AwayRequest (Requested pre) (IsOld (run_after before)) n t) (here ∙ ((w.traced).origins).shard) b in
    (away_ended (run_after before) pre e t e.0 a, decide_settled splits before after h pre e t w a)
owes_message splits before after h pre e (Done to t from) stamp w p q b = tt
owes_message splits before after h pre e (Ask to t from) stamp w p q b = tt

pub owes : (splits : List ℕ) (before after : List (List LogRecord)) (h pre : History) (e : Placed) (ev : Event) (o : Outcome) → Before_entry splits before after h pre e → (e.1).event ≡ ev → (e.1).outcome ≡ o → Brings (Requested pre) (IsOld (run_after before)) ev
    → Owes (Ended (run_after before) (pre ++ e ∷ [])) (Took (pre ++ e ∷ []) e.0) (state_at before after e.0 pre) ev o
owes splits before after h pre e (OpEvent t b nth seen op) (Dead c) w p q x = (ended_now (run_after before) pre e t (OpEvent t b nth seen op) (Dead c) p q refl refl, op_settled splits before after h pre e t b nth seen op w p)
owes splits before after h pre e (RequestEvent t ts) Asked w p q x = ended_now (run_after before) pre e t (RequestEvent t ts) Asked p q refl refl
owes splits before after h pre e (Drop t) o w p q x = (ended_now (run_after before) pre e t (Drop t) o p q refl refl, drop_settled splits before after h pre e t w p)
owes splits before after h pre e (Deliver m stamp) Taken w p q x = owes_message splits before after h pre e m stamp w p q x
owes splits before after h pre e _ o w p q x = tt
