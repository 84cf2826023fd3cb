-- Members stay members.
pub mod LaterHistoriesHoldMembers
use Rattle.std.proofs.Common.{◌≡◌, ◌⊎◌, inl, inr, ⊎_elim, refl, sym, ap, subst, ◌∙◌, ℕ, ◌<◌, ◌≤◌, true, false, cond, Bool, List, [], ◌∷◌, ◌++◌, Option, Some, None, is_some, ◌==◌, not, arith, eqb-true, ◌||◌}
use Rattle.std.specs.List.{list_all}
use Rattle.std.specs.Map.{lookup}
use Rattle.std.proofs.lemmas.Bool.{both_ways, and_parts, or_cases, or_left, or_right, eq-eqb, cases_eq}
use Rattle.clv_base.specs.declared.names.TxId.{TxId}
use Rattle.clv_base.specs.declared.names.Birth.{Birth}
use Rattle.clv_base.specs.declared.logs.LogRecord.{LogRecord}
use Rattle.clv_base.specs.declared.ops.Op.{Op}
use Rattle.clv_base.specs.declared.ops.Answer.{Answer}
use Rattle.clv_base.specs.declared.events.Event.{Event}
use Rattle.clv_base.specs.declared.events.Event.TheVariants.{Op as OpEvent, RollTo, Request as RequestEvent, Look}
use Rattle.clv_base.specs.declared.events.Outcome.{Outcome}
use Rattle.clv_base.specs.declared.events.Outcome.TheVariants.{Answered, Rolled, Asked, Acknowledged}
use Rattle.clv_base.specs.declared.events.Entry.{Entry}
use Rattle.clv_base.specs.Orders.{tx_same, nat_in}
use Rattle.clv_base.specs.Shards.{shard_count}
use Rattle.clv_base.specs.Maps.{Operates, GoesBack}
use Rattle.clv_base.specs.Logs.{committed_in}
use Rattle.clv_base.specs.LogRules.{log_of}
use Rattle.clv_base.specs.Coordinator.{others}
use Rattle.clv_base.specs.Restarts.{run_after, log_left}
use Rattle.clv_base.specs.Sessions.{SessionState, makes_from, is_session, no_session}
use Rattle.clv_base.specs.Journals.{History, journal_of, own, start_of, final_of}
use Rattle.clv_base.specs.History.{Legal, is_acknowledgement, acknowledged_in, DoneAct, act_of, request_of, logs_left}
use Rattle.clv_base.proofs.SameNames.{tx_true}
use Rattle.protocol_laws.specs.SessionLaws.{tx_of, works_on, ended_by}
use Rattle.protocol_laws.proofs.SessionsKeepOrder.{sessions_keep_order}
use Rattle.history_laws.specs.Openings.{LegalFrom}
use Rattle.history_laws.specs.Continuing.{IsSublistOf, GoesOn, NeverTakenBack}
use Rattle.history_cases.proofs.Durability.{opened_counted}
use Rattle.history_laws.proofs.Entries.LaterJournalsGoOn.{later_front}
use Rattle.history_cases.proofs.Merging.{Placed, InOrder, in_order, Among, among_front, among_append, Precedes, in_turn, precedes_before, in_journal, from_journal, in_own, own_in_order, journal_precedes, front_precedes, stamps_follow, stamps_rise}
use Rattle.history_laws.proofs.Entries.SublistsOfHistories.{sublist}
use Rattle.history_laws.proofs.NeverTakenBack.LaterHistoriesHoldMembers.{act_at, same_acts, any_in, any_among, committed_front, Stays, members_stay, left_at}
use Rattle.history_laws.proofs.Entries.NothingFollowsRequests.{has, of_session, nothing_follows, request_names, request_names_back}
use Rattle.history_cases.proofs.Telling.{IsRequest, AskedAfter, Voted}
use Rattle.history_cases.proofs.TellingEvents.{SaysWell, front_committed}
use Rattle.history_cases.proofs.Worlds.{world, in_a_shard}
use Rattle.law_base.proofs.Logs.{is_in}

-- ---- a transaction's session

each_true : {A : Type 0} (test : A → Bool) (xs : List A) (x : A) → list_all test xs ≡ true → Among x xs → test x ≡ true
each_true test [] x a i = elim i [ ]
each_true test (y ∷ ys) x a (inl e) = subst (λ z. test z ≡ true) e (and_parts (test y) (list_all test ys) a).0
each_true test (y ∷ ys) x a (inr i) = each_true test ys x (and_parts (test y) (list_all test ys) a).1 i

pub session_of : (splits : List ℕ) (before after : List (List LogRecord)) (h : History) (x : Placed) → Legal splits before h after → Among x h
    → is_session splits (run_after before) (x.1).walker (own (x.1).walker h) ≡ true
session_of splits before after h x l i = each_true _ h x l.sessions i

-- its entries are of the run, and of the walker that its name says
pub walker_of : (splits : List ℕ) (before after : List (List LogRecord)) (h : History) (x : Placed) (tx : TxId) → Legal splits before h after → Among x h → tx_of (x.1).event ≡ Some tx
    → (tx.run ≡ run_after before) × (tx.session ≡ (x.1).walker)
walker_of splits before after h x tx l i e = of_session splits (run_after before) (x.1).walker (own (x.1).walker h) x tx (session_of splits before after h x l i) (in_own x h i) e

-- two entries of one transaction stand in the same session
pub record Together (splits : List ℕ) (before : List (List LogRecord)) (h : History) (x y : Placed) : Type 0 where
  pub session : is_session splits (run_after before) (x.1).walker (own (x.1).walker h) ≡ true
  pub first : Among x (own (x.1).walker h)
  pub second : Among y (own (x.1).walker h)

pub together : (splits : List ℕ) (before after : List (List LogRecord)) (h : History) (x y : Placed) (tx : TxId) → Legal splits before h after → Among x h → Among y h → tx_of (x.1).event ≡ Some tx → tx_of (y.1).event ≡ Some tx
    → Together splits before h x y
together splits before after h x y tx l i j e f =
    let p = walker_of splits before after h x tx l i e in
    let q = walker_of splits before after h y tx l j f in
    record { session = session_of splits before after h x l i; first = in_own x h i; second = subst (λ w. Among y (own w h)) (sym q.1 ∙ p.1) (in_own y h j) }

pub together_by_walker : (splits : List ℕ) (before after : List (List LogRecord)) (h : History) (x y : Placed) → Legal splits before h after → Among x h → Among y h → (x.1).walker ≡ (y.1).walker
    → Together splits before h x y
together_by_walker splits before after h x y l i j e =
    record { session = session_of splits before after h x l i; first = in_own x h i; second = subst (λ w. Among y (own w h)) (sym e) (in_own y h j) }

works : (tx : TxId) (ev : Event) (ts : List (ℕ × ℕ)) → ev ≡ RequestEvent tx ts → works_on tx.serial ev ≡ true
works tx ev ts e = subst (λ z. works_on tx.serial z ≡ true) (sym e) (eq-eqb tx.serial tx.serial refl)

ends : (tx : TxId) (x : Placed) (ts : List (ℕ × ℕ)) → IsRequest tx ts x → ended_by (x.1).event (x.1).outcome ≡ Some tx.serial
ends tx x ts r = ap (λ z. ended_by z (x.1).outcome) r.0

-- a transaction makes one request
pub one_request : (splits : List ℕ) (before after : List (List LogRecord)) (h : History) (x y : Placed) (tx : TxId) (ts us : List (ℕ × ℕ)) → Legal splits before h after → Among x h → Among y h
    → IsRequest tx ts x → IsRequest tx us y → x ≡ y
one_request splits before after h x y tx ts us l i j r s =
    let p = together splits before after h x y tx l i j (ap tx_of r.0) (ap tx_of s.0) in
    let w = own (x.1).walker h in
    let k = (sessions_keep_order splits (run_after before) (x.1).walker w p.session).2 in
    ⊎_elim (λ e. e)
    (λ q. absurd (⊎_elim
    (λ a. both_ways _ (nothing_follows w x y tx.serial k a (ends tx x ts r)) (works tx (y.1).event us s.0))
    (λ a. both_ways _ (nothing_follows w y x tx.serial k a (ends tx y us s)) (works tx (x.1).event ts r.0))
    q))
    (in_turn x y w p.first p.second)

-- ---- the touched shards of a request

others_has : (n m : ℕ) (ts : List (ℕ × ℕ)) → has m ts ≡ true → (m ≡ n → ⊥) → nat_in m (others n ts) ≡ true
others_has n m [] h k = absurd (both_ways false refl h)
others_has n m (t ∷ ts) h k = at (m == t.0) (t.0 == n) refl refl (others_has n m ts) h
  where
    at : (b c : Bool) → (m == t.0) ≡ b → (t.0 == n) ≡ c → (has m ts ≡ true → (m ≡ n → ⊥) → nat_in m (others n ts) ≡ true) → is_some (cond b (Some t.1) (lookup (◌==◌ m) ts)) ≡ true
        → nat_in m (cond (not c) (t.0 ∷ others n ts) (others n ts)) ≡ true
    at true true e f ih g = absurd (k (eqb-true m t.0 e ∙ eqb-true t.0 n f))
    at true false e f ih g = or_left _ _ e
    at false true e f ih g = ih g k
    at false false e f ih g = or_right (m == t.0) _ (ih g k)

-- each touched shard of one that was voted on has an entry in the history not before the request
pub touched_entry : (splits : List ℕ) (before after : List (List LogRecord)) (h : History) (x : Placed) (tx : TxId) (ts : List (ℕ × ℕ)) (m : ℕ) → Legal splits before h after → Among x h → IsRequest tx ts x
    → Voted h tx → has m ts ≡ true → (m ≡ x.0) ⊎ ((g : Entry) × Among (m, g) h × ((x.1).stamp < g.stamp))
touched_entry splits before after h x tx ts m l i r (y, us, j, s, k) t =
    let e : y ≡ x = one_request splits before after h y x tx us ts l j i s r in
    let same_ts : us ≡ ts = names (sym s.0 ∙ ap (λ z. (z.1).event) e ∙ r.0) in
    ⊎_elim (λ q. inl q)
    (λ q.
    let a = k m (subst (λ z. nat_in m (others z us) ≡ true) (sym (ap (λ z. z.0) e)) (subst (λ z. nat_in m (others x.0 z) ≡ true) (sym same_ts) (others_has x.0 m ts t q))) in
    inr (after_it a))
    (cases_eq m x.0)
  where
    names : RequestEvent tx us ≡ RequestEvent tx ts → us ≡ ts
    names q = cc

    after_it : AskedAfter h tx m → (g : Entry) × Among (m, g) h × ((x.1).stamp < g.stamp)
    after_it (z, vs, g, b, q, c, n) = let f : z ≡ x = one_request splits before after h z x tx vs ts l b i q r in (g, c, subst (λ w. (w.1).stamp < g.stamp) f n)

-- ---- no operation comes later

-- an entry that is an act of the transaction: an operation that was answered, or a going back
pub data IsAct (t : TxId) (ev : Event) (o : Outcome) : Type 0 where
  operates : (birth : Birth) (nth : ℕ) (seen : Option ℕ) (op : Op) (a : Answer) (epoch : ℕ) → ev ≡ OpEvent t birth nth seen op → o ≡ Answered a epoch → IsAct t ev o
  goes_back : (nth seen upto : ℕ) → ev ≡ RollTo t nth seen upto → o ≡ Rolled → IsAct t ev o

pub is_act : (t : TxId) (ev : Event) (o : Outcome) (p : DoneAct) → act_of t ev o ≡ Some p → IsAct t ev o
is_act t (OpEvent tx birth nth seen op) (Answered a epoch) p e = at (tx_same t tx) refl e
  where
    at : (b : Bool) → tx_same t tx ≡ b → cond b (Some (nth, Operates op, Some a)) None ≡ Some p → IsAct t (OpEvent tx birth nth seen op) (Answered a epoch)
    at true q f = operates birth nth seen op a epoch (ap (λ z. OpEvent z birth nth seen op) (sym (tx_true t tx q))) refl
    at false q f = absurd cc
is_act t (OpEvent tx birth nth seen op) _ p e = absurd cc
is_act t (RollTo tx nth seen upto) Rolled p e = at (tx_same t tx) refl e
  where
    at : (b : Bool) → tx_same t tx ≡ b → cond b (Some (nth, GoesBack upto, None)) None ≡ Some p → IsAct t (RollTo tx nth seen upto) Rolled
    at true q f = goes_back nth seen upto (ap (λ z. RollTo z nth seen upto) (sym (tx_true t tx q))) refl
    at false q f = absurd cc
is_act t (RollTo tx nth seen upto) _ p e = absurd cc
is_act t _ o p e = absurd cc

-- ---- the law

record Both (splits : List ℕ) (before : List (List LogRecord)) (h : History) (after : List (List LogRecord)) (h' : History) (after' : List (List LogRecord)) : Type 0 where
  first : LegalFrom splits before h after
  later : Legal splits before h' after'
  on : GoesOn splits before h after h' after'

stands_later : (splits : List ℕ) (before : List (List LogRecord)) (h : History) (after : List (List LogRecord)) (h' : History) (after' : List (List LogRecord)) → Both splits before h after h' after'
    → (z : Placed) → Among z h → Among z h'
stands_later splits before h after h' after' c z i =
    from_journal z.0 z.1 h' (among_front z.1 (journal_of z.0 h) (journal_of z.0 h') (c.on.journals z.0 (in_a_shard splits before after h z c.first.legal i)) (in_journal z h i))

-- what stands behind the front of a shard's journal is later than all in it
behind : (n : ℕ) (h h' : History) (g f : Entry) (rest : List Entry) → journal_of n h ++ rest ≡ journal_of n h' → InOrder h' → Among (n, g) h → Among f rest → g.stamp < f.stamp
behind n h h' g f rest e o i j =
    let p : Precedes g f (journal_of n h') = subst (Precedes g f) e (front_precedes g f (journal_of n h) rest (in_journal (n, g) h i) j) in
    stamps_rise (n, g) (n, f) refl (precedes_before (n, g) (n, f) h' o (journal_precedes n g f h' p))

op_before : (splits : List ℕ) (before : List (List LogRecord)) (h : History) (after : List (List LogRecord)) (h' : History) (after' : List (List LogRecord)) → Both splits before h after h' after'
    → (x : Placed) (tx : TxId) (ts : List (ℕ × ℕ)) → Among x h → IsRequest tx ts x → Voted h tx → (y : Placed) → Among y h' → has y.0 ts ≡ true → (y.1).stamp ≤ (x.1).stamp → Among y h
op_before splits before h after h' after' c x tx ts i r v y j t l =
    let n = in_a_shard splits before after' h' y c.later j in
    let front = c.on.journals y.0 n in
    let order = in_order h' c.later.ordered in
    ⊎_elim (λ a. from_journal y.0 y.1 h a)
    (λ b.
    absurd (⊎_elim
    (λ q.
    let k = behind y.0 h h' x.1 y.1 front.0 front.1 order (subst (λ z. Among (z, x.1) h) (sym q) i) b in omega (arith, k, l))
    (λ q. let k = behind y.0 h h' q.0 y.1 front.0 front.1 order q.1 b in let m = q.2 in omega (arith, k, l, m))
    (touched_entry splits before after h x tx ts y.0 c.first.legal i r v t)))
    (among_append y.1 (journal_of y.0 h) front.0 (subst (Among y.1) (sym front.1) (in_journal y h' j)))

-- what a transaction works on before its request, on a shard that this names, stands in the shorter history
work_by : (splits : List ℕ) (before : List (List LogRecord)) (h : History) (after : List (List LogRecord)) (h' : History) (after' : List (List LogRecord)) → Both splits before h after h' after'
    → (x : Placed) (tx : TxId) (ts : List (ℕ × ℕ)) → Among x h → IsRequest tx ts x → Voted h tx → (y : Placed) → Among y h'
    → tx_of (y.1).event ≡ Some tx → works_on tx.serial (y.1).event ≡ true → (RequestEvent tx ts ≡ (y.1).event → ⊥)
    → ((w : List Placed) (t : SessionState) → makes_from splits (Some t) w ≡ true → Precedes y x w → has y.0 ts ≡ true) → Among y h
work_by splits before h after h' after' c x tx ts i r v y j its works apart named =
    let p = together splits before after' h' x y tx c.later (stands_later splits before h after h' after' c x i) j (ap tx_of r.0) its in
    let w = own (x.1).walker h' in
    let k = (sessions_keep_order splits (run_after before) (x.1).walker w p.session).2 in
    ⊎_elim (λ q. absurd (apart (sym r.0 ∙ ap (λ z. (z.1).event) q)))
    (λ q. ⊎_elim
    (λ b. absurd (both_ways _ (nothing_follows w x y tx.serial k b (ends tx x ts r)) works))
    (λ b. op_before splits before h after h' after' c x tx ts i r v y j
    (named w (no_session (run_after before) (x.1).walker) p.session b)
    (stamps_follow y x (precedes_before y x w (own_in_order (x.1).walker h' (in_order h' c.later.ordered)) b)))
    q)
    (in_turn x y w p.first p.second)

-- an act of a member stands in the shorter history
act_by : (splits : List ℕ) (before : List (List LogRecord)) (h : History) (after : List (List LogRecord)) (h' : History) (after' : List (List LogRecord)) → Both splits before h after h' after'
    → (x : Placed) (tx : TxId) (ts : List (ℕ × ℕ)) → Among x h → IsRequest tx ts x → Voted h tx → (y : Placed) → Among y h' → IsAct tx (y.1).event (y.1).outcome → Among y h
act_by splits before h after h' after' c x tx ts i r v y j (operates birth nth seen op a epoch ev out) =
    work_by splits before h after h' after' c x tx ts i r v y j (ap tx_of ev) (subst (λ z. works_on tx.serial z ≡ true) (sym ev) (eq-eqb tx.serial tx.serial refl)) (λ q. other_events (q ∙ ev))
    (λ w t k b. request_names splits w t y x tx birth nth seen op a epoch ts k b ev out r.0)
  where
    other_events : RequestEvent tx ts ≡ OpEvent tx birth nth seen op → ⊥
    other_events q = absurd cc
act_by splits before h after h' after' c x tx ts i r v y j (goes_back nth seen upto ev out) =
    work_by splits before h after h' after' c x tx ts i r v y j (ap tx_of ev) (subst (λ z. works_on tx.serial z ≡ true) (sym ev) (eq-eqb tx.serial tx.serial refl)) (λ q. other_events (q ∙ ev))
    (λ w t k b. request_names_back splits w t y x tx nth seen upto ts k b ev r.0)
  where
    other_events : RequestEvent tx ts ≡ RollTo tx nth seen upto → ⊥
    other_events q = absurd cc

act_stands : (splits : List ℕ) (before : List (List LogRecord)) (h : History) (after : List (List LogRecord)) (h' : History) (after' : List (List LogRecord)) → Both splits before h after h' after'
    → (x : Placed) (tx : TxId) (ts : List (ℕ × ℕ)) → Among x h → IsRequest tx ts x → Voted h tx → (y : Placed) (p : DoneAct) → Among y h' → act_at tx y ≡ Some p → Among y h
act_stands splits before h after h' after' c x tx ts i r v y p j e = act_by splits before h after h' after' c x tx ts i r v y j (is_act tx (y.1).event (y.1).outcome p e)

-- a member was voted on by all
pub is_request : (t : TxId) (ev : Event) (o : Outcome) → request_of ev o ≡ Some t → (ts : List (ℕ × ℕ)) × (ev ≡ RequestEvent t ts) × (o ≡ Asked)
is_request t (RequestEvent tx ts) Asked e = (ts, ap (λ z. RequestEvent z ts) (same_one e), refl)
  where
    same_one : Some tx ≡ Some t → tx ≡ t
    same_one q = cc
is_request t (RequestEvent tx ts) _ e = absurd cc
is_request t _ o e = absurd cc

told_well : (h : History) (run : ℕ) (t : TxId) (ev : Event) (o : Outcome) → is_acknowledgement t ev o ≡ true → SaysWell h run ev o → t.run ≡ run → Voted h t
told_well h run t (Look tx) Acknowledged e s r = let q : t ≡ tx = tx_true t tx e in subst (Voted h) (sym q) (s (subst (λ z. z.run ≡ run) q r))
told_well h run t (Look tx) _ e s r = absurd (both_ways false refl e)
told_well h run t _ o e s r = absurd (both_ways false refl e)

pub log_now : (splits : List ℕ) (before : List (List LogRecord)) (h : History) (after : List (List LogRecord)) (choice : ℕ → Bool) (n : ℕ) → n < shard_count splits
    → log_of (logs_left splits before h after choice) n ≡ log_left (final_of before h after n) (choice n)
log_now splits before h after choice n l = left_at (final_of before h after) choice 0 (shard_count splits) n l ∙ ap (λ m. log_left (final_of before h after m) (choice m)) (omega arith)

pub member_voted : {splits : List ℕ} {before after : List (List LogRecord)} {h : History} → LegalFrom splits before h after → (choice : ℕ → Bool) (x : Placed) (t : TxId)
    → Among x h → tx_of (x.1).event ≡ Some t → is_in (logs_left splits before h after choice) h x.0 t ≡ true → Voted h t
member_voted {splits} {before} {after} {h} l choice x t i e k =
    let w = world splits before after h l.opens l.legal in
    let n = in_a_shard splits before after h x l.legal i in
    let r = (walker_of splits before after h x t l.legal i e).0 in
    ⊎_elim
    (λ c. (w.states x.0 n).log t (front_committed _ (final_of before h after x.0).local.log t (subst (λ z. committed_in z t ≡ true) (log_now splits before h after choice x.0 n) c)) r)
    (λ a. let z = any_among (λ e. is_acknowledgement t (e.1).event (e.1).outcome) h a in told_well h (run_after before) t ((z.0).1).event ((z.0).1).outcome z.2 (w.said z.0 z.1).well r)
    (or_cases (committed_in (log_of (logs_left splits before h after choice) x.0) t) (acknowledged_in h t) k)

commit_stays : (splits : List ℕ) (before : List (List LogRecord)) (h : History) (after : List (List LogRecord)) (h' : History) (after' : List (List LogRecord)) (choice : ℕ → Bool) → Both splits before h after h' after'
    → (n : ℕ) (t : TxId) → n < shard_count splits → committed_in (log_of (logs_left splits before h after (λ m. false)) n) t ≡ true → committed_in (log_of (logs_left splits before h' after' choice) n) t ≡ true
commit_stays splits before h after h' after' choice c n t i k =
    let front = later_front (log_of after n) (log_of after' n) (start_of before n) (journal_of n h) (journal_of n h') (choice n) (opened_counted n (run_after before) (log_of before n))
    (c.first.legal.runs n i) (c.later.runs n i) (c.on.restarts n i) (c.on.journals n i) in
    subst (λ z. committed_in z t ≡ true) (sym (log_now splits before h' after' choice n i))
    (committed_front (log_left (final_of before h after n) false) (log_left (final_of before h' after' n) (choice n)) t front
    (subst (λ z. committed_in z t ≡ true) (log_now splits before h after (λ m. false) n i) k))

either : (a b c d : Bool) → (a ≡ true → c ≡ true) → (b ≡ true → d ≡ true) → (a || b) ≡ true → (c || d) ≡ true
either a b c d f g e = at (or_cases a b e)
  where
    at : (a ≡ true) ⊎ (b ≡ true) → (c || d) ≡ true
    at (inl p) = or_left c d (f p)
    at (inr p) = or_right c d (g p)

stays : (splits : List ℕ) (before : List (List LogRecord)) (h : History) (after : List (List LogRecord)) (h' : History) (after' : List (List LogRecord)) (choice : ℕ → Bool) → Both splits before h after h' after' → IsSublistOf h h'
    → (x : Placed) (t : TxId) → Among x h → request_of (x.1).event (x.1).outcome ≡ Some t → is_in (logs_left splits before h after (λ n. false)) h x.0 t ≡ true
    → Stays (logs_left splits before h after (λ n. false)) h (logs_left splits before h' after' choice) h' x t
stays splits before h after h' after' choice c s x t i e k =
    let q = is_request t (x.1).event (x.1).outcome e in
    let v = member_voted c.first (λ n. false) x t i (ap tx_of q.1) k in
    let n = in_a_shard splits before after h x c.first.legal i in (
      either (committed_in (log_of (logs_left splits before h after (λ n. false)) x.0) t) (acknowledged_in h t) (committed_in (log_of (logs_left splits before h' after' choice) x.0) t) (acknowledged_in h' t)
          (commit_stays splits before h after h' after' choice c x.0 t n) (any_in (λ e. is_acknowledgement t (e.1).event (e.1).outcome) h h' s) k,
      same_acts t h h' s (in_order h' c.later.ordered) (act_stands splits before h after h' after' c x t q.0 i (q.1, q.2) v),
    )

pub never_taken_back : NeverTakenBack
never_taken_back splits before h after h' after' choice l k g =
    let c : Both splits before h after h' after' = record { first = l; later = k; on = g } in
    let s = sublist h' h (in_order h l.legal.ordered) (in_order h' k.ordered) (stands_later splits before h after h' after' c) in
    members_stay (logs_left splits before h after (λ n. false)) (logs_left splits before h' after' choice) h h' h h' s (stays splits before h after h' after' choice c s)
