-- Whoever waits, waits downwards; and so nobody waits for himself.
use Rattle.std.proofs.Common.{◌≡◌, ◌⊎◌, inl, inr, ⊎_elim, refl, sym, ap, subst, ◌∙◌, ℕ, zero, suc, ◌≤◌, ◌<◌, true, false, cond, not, Bool, List, [], ◌∷◌, ◌++◌, length, Option, Some, None, ◌&&◌, ◌||◌, ◌==◌, nat_lt, arith}
use Rattle.std.specs.List.{filter, list_all}
use Rattle.std.specs.Ordering.{nat_cmp, ordering_then, is_eq, is_lt}
use Rattle.std.proofs.lemmas.Bool.{both_ways, and_parts, or_left, or_right, or_cases, cond-false, ne_eqb, cases_lt, ltb-true, eq-eqb}
use Rattle.clv_base.specs.declared.names.TxId.{TxId}
use Rattle.clv_base.specs.declared.names.Birth.{Birth}
use Rattle.clv_base.specs.declared.ops.Op.{Op}
use Rattle.clv_base.specs.declared.ops.Answer.{Answer}
use Rattle.clv_base.specs.declared.causes.AbortCause.{AbortCause}
use Rattle.clv_base.specs.declared.logs.LogRecord.{LogRecord}
use Rattle.clv_base.specs.declared.modes.Decision.{Decision}
use Rattle.clv_base.specs.declared.modes.Decision.TheVariants.{Grant, Wait as WaitDecision, Die}
use Rattle.clv_base.specs.declared.state.Stage.{Stage}
use Rattle.clv_base.specs.declared.state.Stage.TheVariants.{Active, Closed, Gone}
use Rattle.clv_base.specs.declared.state.Held.{Held}
use Rattle.clv_base.specs.declared.events.Event.{Event}
use Rattle.clv_base.specs.declared.events.Event.TheVariants.{Op as OpEvent, Request as RequestEvent}
use Rattle.clv_base.specs.declared.events.Outcome.TheVariants.{Wait, Down}
use Rattle.clv_base.specs.Orders.{Table, tx_same, tx_in, tx_get, tx_union, birth_cmp, is_older}
use Rattle.clv_base.specs.Logs.{has_standing, committed_in}
use Rattle.clv_base.specs.Shards.{shard_count}
use Rattle.clv_base.specs.LogRules.{log_of}
use Rattle.clv_base.specs.State.{Shard, Local, is_active_stage}
use Rattle.clv_base.specs.Undo.{stage_of}
use Rattle.clv_base.specs.Locks.{decide, violated}
use Rattle.clv_base.specs.Needs.{needs_of}
use Rattle.clv_base.specs.Facts.{predecessors_of}
use Rattle.clv_base.specs.OneShard.{OpReply, OpWaits, OpCrowded, OpDies, OpAnswers, op_granted, op_decided, op_by_stage, op_seen, op_reply, seen_fits, violated_here, undecided_after}
use Rattle.clv_base.specs.Events.{QuietBeforeWorn, QuietAfterWorn, op_event, happen_up, happen}
use Rattle.clv_base.specs.Sessions.{is_session, no_session}
use Rattle.clv_base.specs.Restarts.{run_after, opened}
use Rattle.clv_base.specs.Journals.{History, comes_before, own, journal_of, start_of, after_entries, final_of, has_equal_active_birth}
use Rattle.clv_base.specs.History.{Legal, request_of, has_request, offered, MayOffer, is_active_in_way, Waits, for_lock, for_room, for_commit}
use Rattle.clv_base.proofs.SameNames.{tx_true, tx_self, in_insert}
use Rattle.law_base.proofs.Changed.{some_same, none_some}
use Rattle.law_base.proofs.Tables.{stage_by, in_pair}
use Rattle.protocol_laws.specs.SessionLaws.{tx_of, works_on, ended_by}
use Rattle.protocol_laws.proofs.SessionsKeepOrder.{sessions_keep_order}
use Rattle.law_base.proofs.LockRows.{violated_row}
use Rattle.history_cases.proofs.Merging.{Placed, Before, before_of, before_then, not_before_itself, Among, among_is, is_among, in_own, among_right, Precedes, front_precedes}
use Rattle.history_laws.specs.Openings.{LegalFrom}
use Rattle.history_laws.proofs.Logs.FoundLogsInOrder.{log_found}
use Rattle.history_laws.proofs.Entries.NothingFollowsRequests.{of_session, nothing_follows}
use Rattle.history_cases.proofs.Telling.{IsRequest}
use Rattle.history_laws.proofs.NeverTakenBack.{walker_of, one_request, is_request}
use Rattle.fate_laws.proofs.History.EntriesInTurn.{Requested}
use Rattle.fate_laws.proofs.Origins.DueKeepsOrigins.{SomeRequest, PartFrom, StageFrom, part_of}
use Rattle.fate_laws.proofs.Origins.EventsKeepOrigins.{active_done}
use Rattle.fate_laws.proofs.Origins.FrontsKeepOrigins.{Did, IsOld}
use Rattle.law_base.proofs.Rows.{rows_get}
use Rattle.fate_laws.specs.Waiting.{OpenedInDoubt, IsRequestOf, AskedBefore, birth_waiting, IsActiveAs, WithoutRequest, WithRequest, WaitsGoDown, WaitsThrough, at_once, through, WaitsHaveNoCycle}
use Rattle.fate_laws.proofs.Waits.OnlyYoungerInWay.{Older, older_of_test, older_is_told, either, older_then, not_older_itself, in_way}
use Rattle.fate_laws.proofs.Origins.DoubtedWereFoundSo.{has_stage}
use Rattle.fate_laws.proofs.Origins.OldPartsWereDoubted.{MayHave, MayPrepare}
use Rattle.fate_laws.proofs.Waits.PredecessorsAskedFirst.{LockOf}
use Rattle.fate_laws.proofs.Waits.AllOfOneBirth.{one_birth}
use Rattle.fate_laws.proofs.Waits.DependsOnEarlierAsker.{AskedFirst, Earlier, Depends, depends}
use Rattle.history_laws.proofs.Logs.DoubtedAreUndecided.{doubted_is_old}
use Rattle.clv_base.proofs.Arrays.{is_less as less_cmp, is_equal as equal_cmp}

-- ---- an operation that is to wait

data WaitsOn (l : Local) (tx : TxId) (birth : Birth) (op : Op) : OpReply → Type 0 where
  it_waits : {y : TxId} → decide tx birth (needs_of op l.records) l.locks ≡ WaitDecision y → WaitsOn l tx birth op (OpWaits y)
  crowded : {n : ℕ} → WaitsOn l tx birth op (OpCrowded n)
  dies : {c : AbortCause} {m : Local} → WaitsOn l tx birth op (OpDies c m)
  answers : {a : Answer} {m : Local} → WaitsOn l tx birth op (OpAnswers a m)

by_grant : (l : Local) (tx : TxId) (birth : Birth) (op : Op) (b : Bool) → WaitsOn l tx birth op (op_granted l tx birth op b)
by_grant l tx birth op true = crowded
by_grant l tx birth op false = answers

by_decision : (l : Local) (tx : TxId) (birth : Birth) (op : Op) (d : Decision) → decide tx birth (needs_of op l.records) l.locks ≡ d → WaitsOn l tx birth op (op_decided l tx birth op d)
by_decision l tx birth op Grant e = by_grant l tx birth op _
by_decision l tx birth op (WaitDecision y) e = it_waits e
by_decision l tx birth op (Die o) e = dies

by_stage : (l : Local) (tx : TxId) (birth : Birth) (op : Op) (st : Option Stage) → WaitsOn l tx birth op (op_by_stage l tx birth op st)
by_stage l tx birth op None = by_decision l tx birth op (decide tx birth (needs_of op l.records) l.locks) refl
by_stage l tx birth op (Some Active) = by_decision l tx birth op (decide tx birth (needs_of op l.records) l.locks) refl
by_stage l tx birth op (Some Closed) = dies
by_stage l tx birth op (Some (Gone None)) = dies
by_stage l tx birth op (Some (Gone (Some d))) = dies

by_seen : (shard : ℕ) (l : Local) (tx : TxId) (birth : Birth) (seen : Option ℕ) (op : Op) (b : Bool) → WaitsOn l tx birth op (op_seen shard l tx birth seen op b)
by_seen shard l tx birth seen op true = by_stage l tx birth op (stage_of l tx)
by_seen shard l tx birth seen op false = dies

waits_so : (l : Local) (tx y : TxId) (birth : Birth) (op : Op) → WaitsOn l tx birth op (OpWaits y) → decide tx birth (needs_of op l.records) l.locks ≡ WaitDecision y
waits_so l tx y birth op (it_waits e) = e

is_quiet : (s : Shard) (r : OpReply) (y : TxId) → op_event s r ≡ QuietAfterWorn (Wait y) → r ≡ OpWaits y
is_quiet s (OpWaits x) y e = ap OpWaits (named e)
  where
    named : QuietAfterWorn (Wait x) ≡ QuietAfterWorn (Wait y) → x ≡ y
    named z = cc
is_quiet s (OpCrowded n) y e = absurd cc
is_quiet s (OpDies c m) y e = absurd cc
is_quiet s (OpAnswers a m) y e = absurd cc

decided : (s : Shard) (tx y : TxId) (birth : Birth) (nth : ℕ) (seen : Option ℕ) (op : Op) → happen s (OpEvent tx birth nth seen op) ≡ QuietAfterWorn (Wait y) → decide tx birth (needs_of op s.local.records) s.local.locks ≡ WaitDecision y
decided s tx y birth nth seen op e = at s.is_up e
  where
    at : (b : Bool) → elim b [ true ↦ happen_up s (OpEvent tx birth nth seen op) | false ↦ QuietBeforeWorn Down ] ≡ QuietAfterWorn (Wait y)
        → decide tx birth (needs_of op s.local.records) s.local.locks ≡ WaitDecision y
    at true f = waits_so s.local tx y birth op (subst (WaitsOn s.local tx birth op) (is_quiet s (op_reply s.shard s.local tx birth seen op) y f) (by_seen s.shard s.local tx birth seen op (seen_fits s.local.epoch seen)))
    at false f = absurd cc

-- ---- shards that there are

no_journal : (n : ℕ) (splits : List ℕ) (h : History) → list_all (λ x. nat_lt x.0 (shard_count splits)) h ≡ true → shard_count splits ≤ n → journal_of n h ≡ []
no_journal n splits [] a l = refl
no_journal n splits (x ∷ xs) a l =
    let p = and_parts (nat_lt x.0 (shard_count splits)) (list_all (λ x. nat_lt x.0 (shard_count splits)) xs) a in
    let k = ltb-true x.0 (shard_count splits) p.0 in
    cond-false (x.0 == n) (x.1 ∷ journal_of n xs) (journal_of n xs) (ne_eqb x.0 n (λ e. omega (arith, e, k, l))) ∙ no_journal n splits xs p.1 l

no_log : (logs : List (List LogRecord)) (n : ℕ) → length logs ≤ n → log_of logs n ≡ []
no_log [] n l = refl
no_log (x ∷ xs) zero l = absurd (omega (arith, l))
no_log (x ∷ xs) (suc n) l = no_log xs n (omega (arith, l))

outside : (splits : List ℕ) (before after : List (List LogRecord)) (h : History) (n : ℕ) → Legal splits before h after → shard_count splits ≤ n → final_of before h after n ≡ opened n (run_after before) []
outside splits before after h n l i =
    ap (after_entries (log_of after n) (start_of before n)) (no_journal n splits h l.in_shards i) ∙ ap (λ z. opened n (run_after before) z) (no_log before n (let e = (l.each_log).0 in omega (arith, e, i)))

-- ---- a session that may do an operation

has_one : (t : TxId) (es : History) → has_request t es ≡ true → (r : Placed) × (ts : List (ℕ × ℕ)) × Among r es × IsRequest t ts r
has_one t [] e = absurd (both_ways false refl e)
has_one t (x ∷ xs) e = at (request_of (x.1).event (x.1).outcome) refl e (has_one t xs)
  where
    later : (r : Placed) × (ts : List (ℕ × ℕ)) × Among r xs × IsRequest t ts r → (r : Placed) × (ts : List (ℕ × ℕ)) × Among r (x ∷ xs) × IsRequest t ts r
    later (r, ts, i, q) = (r, ts, inr i, q)

    at : (o : Option TxId) → request_of (x.1).event (x.1).outcome ≡ o → (elim o [ Some u ↦ tx_same t u | None ↦ false ] || has_request t xs) ≡ true → (has_request t xs ≡ true → (r : Placed) × (ts : List (ℕ × ℕ)) × Among r xs × IsRequest t ts r)
        → (r : Placed) × (ts : List (ℕ × ℕ)) × Among r (x ∷ xs) × IsRequest t ts r
    at None q f k = later (k f)
    at (Some u) q f k =
        ⊎_elim (λ a. let r = is_request t (x.1).event (x.1).outcome (q ∙ ap (λ z. Some z) (sym (tx_true t u a))) in (x, r.0, inl refl, (r.1, r.2))) (λ a. later (k a)) (or_cases (tx_same t u) (has_request t xs) f)

has_some : (t : TxId) (es : History) (r : Placed) (ts : List (ℕ × ℕ)) → Among r es → IsRequest t ts r → has_request t es ≡ true
has_some t [] r ts i q = elim i [ ]
has_some t (x ∷ xs) r ts (inl i) q =
    or_left _ (has_request t xs) (ap (λ o. elim o [ Some u ↦ tx_same t u | None ↦ false ]) (ap (λ z. request_of (z.1).event (z.1).outcome) i ∙ ap (λ z. request_of z (r.1).outcome) q.0 ∙ ap (request_of (RequestEvent t ts)) q.1) ∙ tx_self t)
has_some t (x ∷ xs) r ts (inr i) q = or_right _ (has_request t xs) (has_some t xs r ts i q)

-- its own entries, and the one that it may make
pub record Offer (splits : List ℕ) (run walker : ℕ) (h : History) (x : Placed) : Type 0 where
  pub session : is_session splits run walker (own walker h ++ x ∷ []) ≡ true

same_walker : (splits : List ℕ) (before after : List (List LogRecord)) (h : History) (y x : Placed) (walker : ℕ) (t : TxId) → Legal splits before h after → Offer splits (run_after before) walker h x → tx_of (x.1).event ≡ Some t → Among y h → tx_of (y.1).event ≡ Some t
    → Precedes y x (own walker h ++ x ∷ [])
same_walker splits before after h y x walker t l o e i f =
    let p = of_session splits (run_after before) walker (own walker h ++ x ∷ []) x t o.session (among_right x (own walker h) (x ∷ []) (inl refl)) e in
    let q = walker_of splits before after h y t l i f in
    front_precedes y x (own walker h) (x ∷ []) (subst (λ w. Among y (own w h)) (sym q.1 ∙ p.1) (in_own y h i)) (inl refl)

-- it made no request
unasked : (splits : List ℕ) (before after : List (List LogRecord)) (h : History) (x : Placed) (walker : ℕ) (t : TxId) (b : Birth) (nth : ℕ) (seen : Option ℕ) (op : Op) → Legal splits before h after → Offer splits (run_after before) walker h x → (x.1).event ≡ OpEvent t b nth seen op → has_request t h ≡ true → ⊥
unasked splits before after h x walker t b nth seen op l o e r =
    let q = has_one t h r in
    let p = same_walker splits before after h q.0 x walker t l o (ap tx_of e) q.2 (ap tx_of (q.3).0) in
    let k = (sessions_keep_order splits (run_after before) walker (own walker h ++ x ∷ []) o.session).2 in
    both_ways _ (nothing_follows (own walker h ++ x ∷ []) q.0 x t.serial k p (ap (λ z. ended_by z ((q.0).1).outcome) (q.3).0)) (subst (λ z. works_on t.serial z ≡ true) (sym e) (eq-eqb t.serial t.serial refl))

of_this_run : (splits : List ℕ) (before : List (List LogRecord)) (h : History) (x : Placed) (walker : ℕ) (t : TxId) → Offer splits (run_after before) walker h x → tx_of (x.1).event ≡ Some t → t.run ≡ run_after before
of_this_run splits before h x walker t o e = (of_session splits (run_after before) walker (own walker h ++ x ∷ []) x t o.session (among_right x (own walker h) (x ∷ []) (inl refl)) e).0

-- ---- one that waits, and for whom

no_equal : (tx u : TxId) (birth : Birth) (parts : Table Held) (g : Held) → has_equal_active_birth tx birth parts ≡ false → tx_get u parts ≡ Some g → tx_same tx u ≡ false → g.stage ≡ Active → is_eq (birth_cmp birth g.birth) ≡ false
no_equal tx u birth [] g n e d a = absurd (none_some g e)
no_equal tx u birth (p ∷ ps) g n e d a = at (tx_same u p.0) refl e (no_equal tx u birth ps g)
  where
    parts_of : (x y : Bool) → (x || y) ≡ false → (x ≡ false) × (y ≡ false)
    parts_of true y f = absurd (both_ways true f refl)
    parts_of false y f = (refl, f)

    third : (x y z : Bool) → (x && y && z) ≡ false → x ≡ true → y ≡ true → z ≡ false
    third true true z f g i = f
    third true false z f g i = absurd (both_ways false refl i)
    third false y z f g i = absurd (both_ways false refl g)

    not_so : (x : Bool) → x ≡ false → not x ≡ true
    not_so true f = absurd (both_ways true f refl)
    not_so false f = refl

    here : p.1 ≡ g → tx_same tx p.0 ≡ false → (not (tx_same tx p.0) && is_active_stage (p.1).stage && is_eq (birth_cmp birth (p.1).birth)) ≡ false → is_eq (birth_cmp birth g.birth) ≡ false
    here q f z =
        subst (λ (v : Held). is_eq (birth_cmp birth v.birth) ≡ false) q
        (third (not (tx_same tx p.0)) (is_active_stage (p.1).stage) (is_eq (birth_cmp birth (p.1).birth)) z (not_so (tx_same tx p.0) f) (ap (λ (v : Held). is_active_stage v.stage) q ∙ ap is_active_stage a))

    at : (b : Bool) → tx_same u p.0 ≡ b → cond b (Some p.1) (tx_get u ps) ≡ Some g → (has_equal_active_birth tx birth ps ≡ false → tx_get u ps ≡ Some g → tx_same tx u ≡ false → g.stage ≡ Active → is_eq (birth_cmp birth g.birth) ≡ false) → is_eq (birth_cmp birth g.birth) ≡ false
    at true s f k = here (some_same p.1 g f) (subst (λ z. tx_same tx z ≡ false) (tx_true u p.0 s) d) (parts_of _ _ n).0
    at false s f k = k (parts_of _ _ n).1 f d a

-- an active one in the way is younger
younger_in_way : (splits : List ℕ) (before after : List (List LogRecord)) (h : History) (n walker nth : ℕ) (t u y : TxId) (birth : Birth) (seen : Option ℕ) (op : Op) → Depends splits before h n (final_of before h after n)
    → MayOffer splits h n (final_of before h after n) walker (OpEvent t birth nth seen op) → happen (final_of before h after n) (OpEvent t birth nth seen op) ≡ QuietAfterWorn (Wait y) → is_active_in_way t op (final_of before h after n) u ≡ true
    → (c : Birth) × IsActiveAs (final_of before h after) u c × (is_older birth c ≡ true)
younger_in_way splits before after h n walker nth t u y birth seen op k m e i =
    let s = final_of before h after n in
    let w = in_way (LockOf s.local.parts) t u y birth (needs_of op s.local.records) s.local.locks (k.tied).rows (decided s t y birth nth seen op e) i in
    let r = w.row in
    let held : Held = r.0 in
    let ne = no_equal t u birth s.local.parts held (not_true (has_equal_active_birth t birth s.local.parts) m.0) r.1 w.apart r.3 in
    (w.birth_of, (n, held, r.1, r.3, r.2), told (subst (λ z. is_eq (birth_cmp birth z) ≡ false) r.2 ne) w.not_older (either birth w.birth_of))
  where
    not_true : (b : Bool) → not b ≡ true → b ≡ false
    not_true true q = absurd (both_ways false refl q)
    not_true false q = refl

    told : {c : Birth} → is_eq (birth_cmp birth c) ≡ false → is_older c birth ≡ false → Older birth c ⊎ (Older c birth ⊎ (is_eq (birth_cmp birth c) ≡ true)) → is_older birth c ≡ true
    told {c} a b (inl o) = older_is_told birth c o
    told {c} a b (inr (inl o)) = absurd (both_ways _ b (older_is_told c birth o))
    told {c} a b (inr (inr q)) = absurd (both_ways _ a q)

-- whom a transaction of this run depends on made its request, or was in doubt at opening
asked_or_doubted : (splits : List ℕ) (before : List (List LogRecord)) (h : History) (t p : TxId) → t.run ≡ run_after before → Earlier splits before h t p → (has_request p h ≡ true) ⊎ OpenedInDoubt splits before p
asked_or_doubted splits before h t p r (inl (q, ts, i, w, k)) = inl (has_some p h q ts i w)
asked_or_doubted splits before h t p r (inr (inl o)) = absurd (omega (arith, r, o))
asked_or_doubted splits before h t p r (inr (inr d)) = inr d

pub in_union : (u : TxId) (xs ys : List TxId) → tx_in u (tx_union xs ys) ≡ true → (tx_in u xs ≡ true) ⊎ (tx_in u ys ≡ true)
in_union u [] ys e = inr e
in_union u (x ∷ xs) ys e =
    ⊎_elim (λ q. inl (or_left (tx_same x u) (tx_in u xs) (subst (λ z. tx_same z u ≡ true) q (tx_self u)))) (λ q. ⊎_elim (λ a. inl (or_right (tx_same x u) (tx_in u xs) a)) (λ a. inr a) (in_union u xs ys q)) (in_insert x u (tx_union xs ys) e)

in_filtered : (test : TxId → Bool) (u : TxId) (xs : List TxId) → tx_in u (filter test xs) ≡ true → tx_in u xs ≡ true
in_filtered test u [] e = e
in_filtered test u (x ∷ xs) e = at (test x) e (in_filtered test u xs)
  where
    at : (b : Bool) → tx_in u (cond b (x ∷ filter test xs) (filter test xs)) ≡ true → (tx_in u (filter test xs) ≡ true → tx_in u xs ≡ true) → (tx_same x u || tx_in u xs) ≡ true
    at true f k = ⊎_elim (λ a. or_left (tx_same x u) (tx_in u xs) a) (λ a. or_right (tx_same x u) (tx_in u xs) (k a)) (or_cases (tx_same x u) (tx_in u (filter test xs)) f)
    at false f k = or_right (tx_same x u) (tx_in u xs) (k f)

crowding : (splits : List ℕ) (before : List (List LogRecord)) (h : History) (n : ℕ) (s : Shard) (t u : TxId) (op : Op) → n < shard_count splits → t.run ≡ run_after before → Depends splits before h n s → tx_in u (undecided_after s.local t op) ≡ true → (has_request u h ≡ true) ⊎ OpenedInDoubt splits before u
crowding splits before h n s t u op l r k i =
    let v = violated_here s.local t op in
    ⊎_elim (λ a. closed (violated_row (LockOf s.local.parts) t u (needs_of op s.local.records) s.local.locks (k.tied).rows (in_filtered (has_standing s.local.log) u (violated t (needs_of op s.local.records) s.local.locks) a)))
    (λ a. asked_or_doubted splits before h t u r ((k.tied).pairs t u (in_pair s.local.pairs t u a)))
    (in_union u v (predecessors_of s.local.pairs t) (in_filtered (λ p. not (committed_in s.local.log p)) u (tx_union v (predecessors_of s.local.pairs t)) i))
  where
    known : stage_of s.local u ≡ Some Closed → SomeRequest (Requested h) (IsOld (run_after before)) u → (has_request u h ≡ true) ⊎ OpenedInDoubt splits before u
    known c (inl (m, (q, ts, j, w, z))) = inl (has_some u h q ts j w)
    known c (inr o) = inr (n, l, has_stage (MayHave before n) (MayPrepare before n) s u Closed (k.opened).has c o)

    closed : (b : Birth) × LockOf s.local.parts u b true → (has_request u h ≡ true) ⊎ OpenedInDoubt splits before u
    closed (b, (g, e, f, st)) =
        let c = ap stage_by e ∙ ap (λ x. Some x) st in known c (part_of n s.local.epoch _ _ (Requested h) (IsOld (run_after before)) _ s u Closed (k.traced).origins c).3

-- ---- entries in order, as it is tested

told_before : (a b : Placed) → Before a b → comes_before a b ≡ true
told_before a b (inl l) = ap (λ o. is_lt (ordering_then o (nat_cmp a.0 b.0))) (less_cmp (a.1).stamp (b.1).stamp l)
told_before a b (inr p) = ap (λ o. is_lt (ordering_then o (nat_cmp a.0 b.0))) (equal_cmp (a.1).stamp (b.1).stamp p.0) ∙ ap is_lt (less_cmp a.0 b.0 p.1)

asked_before : (h : History) (t p : TxId) (q : Placed) (us : List (ℕ × ℕ)) → Among q h → IsRequest t us q → AskedFirst h p t → AskedBefore h p t
asked_before h t p q us i w (r, ts, j, v, k) =
    (r, q, (among_is r.0 r.1 h j, request_told p ts r v), (among_is q.0 q.1 h i, request_told t us q w), told_before r q (k q us i w))
  where
    request_told : (x : TxId) (xs : List (ℕ × ℕ)) (y : Placed) → IsRequest x xs y → request_of (y.1).event (y.1).outcome ≡ Some x
    request_told x xs y z = ap (λ e. request_of e (y.1).outcome) z.0 ∙ ap (request_of (RequestEvent x xs)) z.1

-- ---- each edge

nothing_outside : {splits : List ℕ} {before after : List (List LogRecord)} {h : History} → LegalFrom splits before h after → (n : ℕ) {X : Type 0} → (n < shard_count splits → Depends splits before h n (final_of before h after n) → X) → (final_of before h after n ≡ opened n (run_after before) [] → X) → X
nothing_outside {splits} {before} {after} {h} l n {X} k f = ⊎_elim (λ i. k i ((depends l).states n i)) (λ i. f (outside splits before after h n l.legal i)) (cases_lt n (shard_count splits))

of_offer : (splits : List ℕ) (before after : List (List LogRecord)) (h : History) (n walker : ℕ) (s : Shard) (e : Event) → s.run ≡ run_after before → MayOffer splits h n s walker e → Offer splits (run_after before) walker h (offered n walker s e)
of_offer splits before after h n walker s e r m = record { session = subst (λ z. is_session splits z walker (own walker h ++ offered n walker s e ∷ []) ≡ true) r m.1 }

pub waits_go_down : WaitsGoDown
waits_go_down splits before h after t u l (for_lock {younger = y} n walker nth birth seen op may q i) =
    nothing_outside l n (λ below k.
    let s = final_of before h after n in
    let o = of_offer splits before after h n walker s (OpEvent t birth nth seen op) (k.traced).run_is may in
    let r = younger_in_way splits before after h n walker nth t u y birth seen op k may q i in
    ((λ e. inl (birth, r.0, refl, r.1, r.2)), (λ e. absurd (unasked splits before after h (offered n walker s (OpEvent t birth nth seen op)) walker t birth nth seen op l.legal o refl e))))
    (λ z. absurd (both_ways false refl (subst (λ (w : Shard). is_active_in_way t op w u ≡ true) z i)))
waits_go_down splits before h after t u l (for_room n walker nth count birth seen op may q i) =
    nothing_outside l n (λ below k.
    let s = final_of before h after n in
    let o = of_offer splits before after h n walker s (OpEvent t birth nth seen op) (k.traced).run_is may in
    ((λ e. inr (crowding splits before h n s t u op below (of_this_run splits before h (offered n walker s (OpEvent t birth nth seen op)) walker t o refl) k i)), (λ e. absurd (unasked splits before after h (offered n walker s (OpEvent t birth nth seen op)) walker t birth nth seen op l.legal o refl e))))
    (λ z. absurd (both_ways false refl (subst (λ (w : Shard). tx_in u (undecided_after w.local t op) ≡ true) z i)))
waits_go_down splits before h after t u l (for_commit n r w i d) =
    nothing_outside l n (λ below k.
    let s = final_of before h after n in
    let p = has_one t h r in
    let run = (walker_of splits before after h p.0 t l.legal p.2 (ap tx_of (p.3).0)).0 in
    ((λ e. absurd (both_ways _ e r)), (λ e. asked p run ((k.tied).pairs t u (in_pair s.local.pairs t u i)))))
    (λ z. absurd (both_ways false refl (subst (λ (v : Shard). tx_in u (predecessors_of v.local.pairs t) ≡ true) z i)))
  where
    asked : (p : (q : Placed) × (ts : List (ℕ × ℕ)) × Among q h × IsRequest t ts q) → t.run ≡ run_after before → Earlier splits before h t u → WithRequest splits before h t u
    asked p e (inl a) = inl (asked_before h t u p.0 p.1 p.2 p.3 a)
    asked p e (inr (inl o)) = absurd (omega (arith, e, o))
    asked p e (inr (inr d)) = inr d

-- ---- no circle

-- who was in doubt at opening is of an earlier run
module _ {splits : List ℕ} {before after : List (List LogRecord)} {h : History} (l : LegalFrom splits before h after) where
  doubted : (u : TxId) → OpenedInDoubt splits before u → u.run < run_after before
  doubted u (n, i, d) = doubted_is_old splits before n l.opens (log_found l n i) u d

  -- an operation that may be done is of this run
  of_now : (n walker : ℕ) (t : TxId) (birth : Birth) (nth : ℕ) (seen : Option ℕ) (op : Op) → MayOffer splits h n (final_of before h after n) walker (OpEvent t birth nth seen op)
      → Offer splits (run_after before) walker h (offered n walker (final_of before h after n) (OpEvent t birth nth seen op))
  of_now n walker t birth nth seen op may =
      let s = final_of before h after n in
      of_offer splits before after h n walker s (OpEvent t birth nth seen op) (nothing_outside l n (λ below k. (k.traced).run_is) (λ z. ap (λ (w : Shard). w.run) z)) may

  not_old : (n walker : ℕ) (t : TxId) (birth : Birth) (nth : ℕ) (seen : Option ℕ) (op : Op)
      → MayOffer splits h n (final_of before h after n) walker (OpEvent t birth nth seen op) → t.run < run_after before → ⊥
  not_old n walker t birth nth seen op may o =
      let q = of_this_run splits before h (offered n walker (final_of before h after n) (OpEvent t birth nth seen op)) walker t (of_now n walker t birth nth seen op may) refl in omega (arith, o, q)

  -- one of an earlier run waits for nobody
  old_waits_not : (t u : TxId) → t.run < run_after before → Waits splits h (final_of before h after) t u → ⊥
  old_waits_not t u o (for_lock n walker nth birth seen op may q i) = not_old n walker t birth nth seen op may o
  old_waits_not t u o (for_room n walker nth count birth seen op may q i) = not_old n walker t birth nth seen op may o
  old_waits_not t u o (for_commit n r w i d) = let p = has_one t h r in let q = (walker_of splits before after h p.0 t l.legal p.2 (ap tx_of (p.3).0)).0 in omega (arith, o, q)

  first_edge : (t u : TxId) → OpenedInDoubt splits before t → WaitsThrough splits h (final_of before h after) t u → ⊥
  first_edge t u d (at_once w) = old_waits_not t u (doubted t d) w
  first_edge t u d (through {u = v} w c) = old_waits_not t v (doubted t d) w

-- an operation that the transaction's session may make now on some shard is of this birth
abbrev MayDo : List ℕ → History → (ℕ → Shard) → TxId → Birth → Type 0
MayDo splits h states t birth = (n : ℕ) × (walker : ℕ) × (nth : ℕ) × (seen : Option ℕ) × (op : Op) × MayOffer splits h n (states n) walker (OpEvent t birth nth seen op)

-- the active part of one that may do operations is of their birth
born_alike : {splits : List ℕ} {before after : List (List LogRecord)} {h : History} → LegalFrom splits before h after → (u : TxId) (a b : Birth) → MayDo splits h (final_of before h after) u a → IsActiveAs (final_of before h after) u b → b ≡ a
born_alike {splits} {before} {after} {h} l u a b (j, walker, nth, seen, op, may) (n, g, e, st, f) =
    nothing_outside l n (λ below k.
    let s = final_of before h after n in
    let run = run_after before in
    let w = rows_get (λ y. PartFrom (Did h n s.local.epoch) (SomeRequest (Requested h) (IsOld run)) y.0 y.1) u g s.local.parts ((k.traced).origins).parts e in
    let d = active_done (Did h n s.local.epoch) g.is_restored u g.birth w.0 (subst (StageFrom (SomeRequest (Requested h) (IsOld run)) g.is_restored u) st w.1) in
    let x = offered j walker (final_of before h after j) (OpEvent u a nth seen op) in
    let o = of_now l j walker u a nth seen op may in
    let y = d.0 in
    let at = (d.3).at in
    let p = same_walker splits before after h y x walker u l.legal o refl d.1 (ap tx_of at.is) in
    sym f ∙ one_birth splits (own walker h ++ x ∷ []) (no_session run walker) y x u g.birth a o.session p (at.nth, (d.3).seen, at.op, at.is) (nth, seen, op, refl))
    (λ z. absurd (none_some g (subst (λ (v : Shard). tx_get u v.local.parts ≡ Some g) z e)))

-- ---- orders

before_told : (h : History) (t : TxId) (x : Placed) → IsRequestOf h t x → (ts : List (ℕ × ℕ)) × Among x h × IsRequest t ts x
before_told h t x (i, q) = let r = is_request t (x.1).event (x.1).outcome q in (r.0, is_among x.0 x.1 h i, (r.1, r.2))

same_request : (splits : List ℕ) (before after : List (List LogRecord)) (h : History) (t : TxId) (x y : Placed) → Legal splits before h after → IsRequestOf h t x → IsRequestOf h t y → x ≡ y
same_request splits before after h t x y l a b = let p = before_told h t x a in let q = before_told h t y b in one_request splits before after h x y t p.0 q.0 l p.1 q.1 p.2 q.2

asked_then : (splits : List ℕ) (before after : List (List LogRecord)) (h : History) (v u t : TxId) → Legal splits before h after → AskedBefore h v u → AskedBefore h u t → AskedBefore h v t
asked_then splits before after h v u t l (x, y, a, b, c) (z, w, d, e, f) =
    let same = same_request splits before after h u y z l b d in
    (x, w, a, e, told_before x w (before_then x y w (before_of x y c) (subst (λ r. Before r w) (sym same) (before_of z w f))))

not_before_self : (splits : List ℕ) (before after : List (List LogRecord)) (h : History) (t : TxId) → Legal splits before h after → AskedBefore h t t → ⊥
not_before_self splits before after h t l (x, y, a, b, c) = not_before_itself x y (same_request splits before after h t x y l a b) (before_of x y c)

has_asked : (h : History) (u t : TxId) → AskedBefore h u t → has_request u h ≡ true
has_asked h u t (x, y, a, b, c) = let p = before_told h u x a in has_some u h x p.0 p.1 p.2

-- ---- through any number

-- the first may do operations, the other is active, and younger
abbrev IsAbove : List ℕ → History → (ℕ → Shard) → TxId → TxId → Type 0
IsAbove splits h states t u = (a : Birth) × (b : Birth) × MayDo splits h states t a × IsActiveAs states u b × (is_older a b ≡ true)

abbrev Without : List ℕ → List (List LogRecord) → History → (ℕ → Shard) → TxId → TxId → Type 0
Without splits before h states t u = IsAbove splits h states t u ⊎ ((has_request u h ≡ true) ⊎ OpenedInDoubt splits before u)

may_do : (splits : List ℕ) (h : History) (states : ℕ → Shard) (t u : TxId) (a : Birth) (w : Waits splits h states t u) → birth_waiting w ≡ Some a → MayDo splits h states t a
may_do splits h states t u a (for_lock n walker nth birth seen op may q i) e = subst (MayDo splits h states t) (some_same birth a e) (n, walker, nth, seen, op, may)
may_do splits h states t u a (for_room n walker nth count birth seen op may q i) e = subst (MayDo splits h states t) (some_same birth a e) (n, walker, nth, seen, op, may)
may_do splits h states t u a (for_commit n r w i d) e = absurd (none_some a e)

without : (splits : List ℕ) (before : List (List LogRecord)) (h : History) (states : ℕ → Shard) (t u : TxId) (w : Waits splits h states t u) → WithoutRequest splits before h states (birth_waiting w) u → Without splits before h states t u
without splits before h states t u w (inl (a, b, e, is, o)) = inl (a, b, may_do splits h states t u a w e, is, o)
without splits before h states t u w (inr r) = inr r

abbrev Downwards : List ℕ → List (List LogRecord) → List (List LogRecord) → History → TxId → TxId → Type 0
Downwards splits before after h t u = (has_request t h ≡ false → Without splits before h (final_of before h after) t u) × (has_request t h ≡ true → WithRequest splits before h t u)

with_then : {splits : List ℕ} {before after : List (List LogRecord)} {h : History} → LegalFrom splits before h after → (t u v : TxId) → WithRequest splits before h t u → WaitsThrough splits h (final_of before h after) u v → Downwards splits before after h u v → WithRequest splits before h t v
with_then l t u v (inr o) c d = absurd (first_edge l u v o c)
with_then {splits} {before} {after} {h} l t u v (inl a) c d = ⊎_elim (λ b. inl (asked_then splits before after h v u t l.legal b a)) (λ b. inr b) (d.1 (has_asked h u t a))

asks_on : (splits : List ℕ) (before : List (List LogRecord)) (h : History) (u v : TxId) → WithRequest splits before h u v → (has_request v h ≡ true) ⊎ OpenedInDoubt splits before v
asks_on splits before h u v (inl a) = inl (has_asked h v u a)
asks_on splits before h u v (inr o) = inr o

module _ {splits : List ℕ} {before after : List (List LogRecord)} {h : History} (l : LegalFrom splits before h after) where
  younger_then : (t u v : TxId) → IsAbove splits h (final_of before h after) t u → Without splits before h (final_of before h after) u v
      → Without splits before h (final_of before h after) t v
  younger_then t u v w (inr d) = inr d
  younger_then t u v (a, b, may, is, o) (inl (c, d, may2, is2, o2)) =
      let same = born_alike l u c b may2 is in
      inl (a, d, may, is2, older_is_told a d (older_then a b d (older_of_test a b o) (subst (λ z. Older z d) (sym same) (older_of_test c d o2))))

  without_then : (t u v : TxId) → Without splits before h (final_of before h after) t u → WaitsThrough splits h (final_of before h after) u v
      → Downwards splits before after h u v → Without splits before h (final_of before h after) t v
  without_then t u v (inr (inr o)) c d = absurd (first_edge l u v o c)
  without_then t u v (inr (inl a)) c d = inr (asks_on splits before h u v (d.1 a))
  without_then t u v (inl w) c d = at (has_request u h) refl
    where
      at : (b : Bool) → has_request u h ≡ b → Without splits before h (final_of before h after) t v
      at true e = inr (asks_on splits before h u v (d.1 e))
      at false e = younger_then t u v w (d.0 e)

  down_through : (t v : TxId) → WaitsThrough splits h (final_of before h after) t v → Downwards splits before after h t v
  down_through t v (at_once w) = let a = waits_go_down splits before h after t v l w in ((λ e. without splits before h (final_of before h after) t v w (a.0 e)), a.1)
  down_through t v (through {u = u} w c) =
      let a = waits_go_down splits before h after t u l w in
      let d = down_through u v c in
      ((λ e. without_then t u v (without splits before h (final_of before h after) t u w (a.0 e)) c d), (λ e. with_then l t u v (a.1 e) c d))

  no_circle : (t : TxId) → WaitsThrough splits h (final_of before h after) t t → (b : Bool) → has_request t h ≡ b → Downwards splits before after h t t → ⊥
  no_circle t c true e d = ⊎_elim (λ a. not_before_self splits before after h t l.legal a) (λ o. first_edge l t t o c) (d.1 e)
  no_circle t c false e d = at (d.0 e)
    where
      at : Without splits before h (final_of before h after) t t → ⊥
      at (inl (a, b, may, is, o)) = not_older_itself a (subst (Older a) (born_alike l t a b may is) (older_of_test a b o))
      at (inr (inl r)) = both_ways _ e r
      at (inr (inr o)) = first_edge l t t o c

pub waits_have_no_cycle : WaitsHaveNoCycle
waits_have_no_cycle splits before h after t l c = no_circle l t c (has_request t h) refl (down_through l t t c)
