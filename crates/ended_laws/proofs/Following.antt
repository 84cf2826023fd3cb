-- What no session makes any more of a transaction, by the order of a walker's own entries.
use Rattle.std.proofs.Common.{◌≡◌, inl, ⊎_elim, refl, sym, ap, subst, ◌∙◌, ℕ, true, false, ◌||◌, List, ◌∷◌, ◌++◌, Some, eq-eqb, arith}
use Rattle.std.proofs.lemmas.Bool.{both_ways, false_from_ne_true, or_cases}
use Rattle.clv_base.specs.declared.names.TxId.{TxId}
use Rattle.clv_base.specs.declared.logs.LogRecord.{LogRecord}
use Rattle.clv_base.specs.declared.events.Event.{Event}
use Rattle.clv_base.specs.declared.events.Event.TheVariants.{Op, RollTo, Request, Look, Drop, Send, Deliver, Remind, FlushOut, FlushIn, Stop, Restart}
use Rattle.clv_base.specs.declared.events.Outcome.{Outcome}
use Rattle.clv_base.specs.declared.events.Outcome.TheVariants.{Asked, Dead, Acknowledged, Aborted, Dropped}
use Rattle.clv_base.specs.declared.events.Entry.{Entry}
use Rattle.clv_base.specs.Sessions.{no_session}
use Rattle.clv_base.specs.Restarts.{run_after}
use Rattle.clv_base.specs.Journals.{History, own}
use Rattle.clv_base.specs.History.{Legal, is_acknowledgement, request_of}
use Rattle.clv_base.proofs.SameNames.{tx_true}
use Rattle.protocol_laws.specs.SessionLaws.{tx_of, works_on, ended_by}
use Rattle.protocol_laws.proofs.SessionsKeepOrder.{sessions_keep_order}
use Rattle.history_cases.proofs.Merging.{Placed, in_order, Among, is_among, among_left, among_right, not_before_itself, before_then, Before, InOrder, in_own, own_in_order, in_turn, Precedes, precedes_before, front_precedes}
use Rattle.history_laws.specs.Outcomes.{is_abort}
use Rattle.history_laws.proofs.NeverTakenBack.{session_of, walker_of, together}
use Rattle.history_laws.proofs.Entries.NothingFollowsRequests.{nothing_follows, serials_follow}
use Rattle.history_laws.proofs.SessionsKeepTheirOrder.NothingFollowsTheEnd.{names as names_by, nothing_after_end, nothing_after_success}
use Rattle.ended_laws.specs.Sessions.{dies, works_for, asks_for, names, TheDeadAskNothing, NoWorkFollowsARequest, OnlyDropsFollowTheEnd, NothingFollowsSuccess, NothingFollowsALaterOne}

-- an earlier entry of the same walker stands before it among the walker's own
pub own_turn : (splits : List ℕ) (before after : List (List LogRecord)) (pre post : History) (r x : Placed) → Legal splits before (pre ++ x ∷ post) after → Among r pre → (r.1).walker ≡ (x.1).walker
    → Precedes r x (own (x.1).walker (pre ++ x ∷ post))
own_turn splits before after pre post r x l i w =
    let h = pre ++ x ∷ post in
    let o : InOrder h = in_order h l.ordered in
    let b : Before r x = precedes_before r x h o (front_precedes r x pre (x ∷ post) i (inl refl)) in
    ⊎_elim (λ e. absurd (not_before_itself r x e b))
    (λ z. ⊎_elim (λ p. p) (λ p. absurd (not_before_itself r r refl (before_then r x r b (precedes_before x r (own (x.1).walker h) (own_in_order (x.1).walker h o) p)))) z)
    (in_turn r x (own (x.1).walker h) (subst (λ k. Among r (own k h)) w (in_own r h (among_left r pre (x ∷ post) i))) (in_own x h (among_right x pre (x ∷ post) (inl refl))))

-- the same for two entries of one transaction, or of one session
same_walker : (splits : List ℕ) (before after : List (List LogRecord)) (h : History) (r x : Placed) (u t : TxId) → Legal splits before h after → Among r h → Among x h → tx_of (r.1).event ≡ Some u → tx_of (x.1).event ≡ Some t
    → u.session ≡ t.session → (r.1).walker ≡ (x.1).walker
same_walker splits before after h r x u t l i j e f s = sym (walker_of splits before after h r u l i e).1 ∙ s ∙ (walker_of splits before after h x t l j f).1

-- ---- whose an entry is

pub works_of : (t : TxId) (e : Event) → works_for t e ≡ true → (tx_of e ≡ Some t) × (works_on t.serial e ≡ true)
works_of t (Op tx birth nth seen op) h = (ap Some (sym (tx_true t tx h)), eq-eqb tx.serial t.serial (ap (λ z. z.serial) (sym (tx_true t tx h))))
works_of t (RollTo tx nth seen upto) h = (ap Some (sym (tx_true t tx h)), eq-eqb tx.serial t.serial (ap (λ z. z.serial) (sym (tx_true t tx h))))
works_of t (Request tx ts) h = (ap Some (sym (tx_true t tx h)), eq-eqb tx.serial t.serial (ap (λ z. z.serial) (sym (tx_true t tx h))))
works_of t _ h = absurd (both_ways false refl h)

names_of : (t : TxId) (e : Event) → names t e ≡ true → tx_of e ≡ Some t
names_of t (Op tx birth nth seen op) h = ap Some (sym (tx_true t tx h))
names_of t (RollTo tx nth seen upto) h = ap Some (sym (tx_true t tx h))
names_of t (Request tx ts) h = ap Some (sym (tx_true t tx h))
names_of t (Look tx) h = ap Some (sym (tx_true t tx h))
names_of t (Drop tx) h = ap Some (sym (tx_true t tx h))
names_of t _ h = absurd (both_ways false refl h)

asks_of : (t : TxId) (e : Event) → asks_for t e ≡ true → names t e ≡ true
asks_of t (Op tx birth nth seen op) h = h
asks_of t (RollTo tx nth seen upto) h = h
asks_of t (Request tx ts) h = h
asks_of t (Look tx) h = h
asks_of t _ h = absurd (both_ways false refl h)

asks_by : (t : TxId) (e : Event) → asks_for t e ≡ names_by false t e
asks_by t (Op tx birth nth seen op) = refl
asks_by t (RollTo tx nth seen upto) = refl
asks_by t (Request tx ts) = refl
asks_by t (Look tx) = refl
asks_by t (Drop tx) = refl
asks_by t Send = refl
asks_by t (Deliver m stamp) = refl
asks_by t Remind = refl
asks_by t FlushOut = refl
asks_by t FlushIn = refl
asks_by t Stop = refl
asks_by t Restart = refl

all_by : (t : TxId) (e : Event) → names t e ≡ names_by true t e
all_by t (Op tx birth nth seen op) = refl
all_by t (RollTo tx nth seen upto) = refl
all_by t (Request tx ts) = refl
all_by t (Look tx) = refl
all_by t (Drop tx) = refl
all_by t Send = refl
all_by t (Deliver m stamp) = refl
all_by t Remind = refl
all_by t FlushOut = refl
all_by t FlushIn = refl
all_by t Stop = refl
all_by t Restart = refl

asked_of : (t : TxId) (e : Event) (o : Outcome) → request_of e o ≡ Some t → (tx_of e ≡ Some t) × (ended_by e o ≡ Some t.serial)
asked_of t (Request tx ts) Asked h = let q = same h in (ap Some q, ap (λ z. Some z.serial) q)
  where
    same : {a b : TxId} → Some a ≡ Some b → a ≡ b
    same z = cc
asked_of t (Request tx ts) _ h = absurd cc
asked_of t _ o h = absurd cc

asks_on : (t : TxId) (e : Event) (o : Outcome) → request_of e o ≡ Some t → works_on t.serial e ≡ true
asks_on t (Request tx ts) Asked h = eq-eqb tx.serial t.serial (same h)
  where
    same : {a b : TxId} → Some a ≡ Some b → a.serial ≡ b.serial
    same z = cc
asks_on t (Request tx ts) _ h = absurd cc
asks_on t _ o h = absurd cc

success_of : (t : TxId) (e : Event) (o : Outcome) → is_acknowledgement t e o ≡ true → tx_of e ≡ Some t
success_of t (Look tx) Acknowledged h = ap Some (sym (tx_true t tx h))
success_of t (Look tx) _ h = absurd (both_ways false refl h)
success_of t _ o h = absurd (both_ways false refl h)

abort_of : (t : TxId) (e : Event) (o : Outcome) → is_abort t e o ≡ true → tx_of e ≡ Some t
abort_of t (Op tx birth nth seen op) (Dead cause) h = ap Some (sym (tx_true t tx h))
abort_of t (RollTo tx nth seen upto) (Dead cause) h = ap Some (sym (tx_true t tx h))
abort_of t (Request tx ts) (Dead cause) h = ap Some (sym (tx_true t tx h))
abort_of t (Look tx) (Aborted cause) h = ap Some (sym (tx_true t tx h))
abort_of t (Drop tx) Dropped h = ap Some (sym (tx_true t tx h))
abort_of t _ _ h = absurd (both_ways false refl h)

end_of : (t : TxId) (e : Event) (o : Outcome) → (is_acknowledgement t e o || is_abort t e o) ≡ true → tx_of e ≡ Some t
end_of t e o h = ⊎_elim (λ a. success_of t e o a) (λ b. abort_of t e o b) (or_cases (is_acknowledgement t e o) (is_abort t e o) h)

-- a transaction makes one request
pub one_request : (splits : List ℕ) (before after : List (List LogRecord)) (h : History) (m k : ℕ) (r q : Entry) (t : TxId) → Legal splits before h after → Among (m, r) h → Among (k, q) h
    → request_of r.event r.outcome ≡ Some t → request_of q.event q.outcome ≡ Some t → m ≡ k
one_request splits before after h m k r q t l i j e f =
    let a = asked_of t r.event r.outcome e in
    let b = asked_of t q.event q.outcome f in
    let p = together splits before after h (m, r) (k, q) t l i j a.0 b.0 in
    let s = (sessions_keep_order splits (run_after before) r.walker (own r.walker h) p.session).2 in
    ⊎_elim (λ z. ap (λ y. y.0) z)
    (λ z. ⊎_elim
    (λ c. absurd (both_ways _ (nothing_follows (own r.walker h) (m, r) (k, q) t.serial s c a.1) (asks_on t q.event q.outcome f)))
    (λ c. absurd (both_ways _ (nothing_follows (own r.walker h) (k, q) (m, r) t.serial s c b.1) (asks_on t r.event r.outcome e))) z)
    (in_turn (m, r) (k, q) (own r.walker h) p.first p.second)

-- ---- the laws

pub no_work_follows_a_request : NoWorkFollowsARequest
no_work_follows_a_request splits before pre n e post after t l (m, r, i, q) = false_from_ne_true (works_for t e.event) refuted
  where
    refuted : works_for t e.event ≡ true → ⊥
    refuted w =
        let h = pre ++ (n, e) ∷ post in
        let ir : Among (m, r) pre = is_among m r pre i in
        let ix : Among (n, e) h = among_right (n, e) pre ((n, e) ∷ post) (inl refl) in
        let a = asked_of t r.event r.outcome q in
        let b = works_of t e.event w in
        let k = own_turn splits before after pre post (m, r) (n, e) l ir (same_walker splits before after h (m, r) (n, e) t t l (among_left (m, r) pre ((n, e) ∷ post) ir) ix a.0 b.0 refl) in
        both_ways _ (nothing_follows (own e.walker h) (m, r) (n, e) t.serial (sessions_keep_order splits (run_after before) e.walker (own e.walker h) (session_of splits before after h (n, e) l ix)).2 k a.1) b.1

pub only_drops_follow_the_end : OnlyDropsFollowTheEnd
only_drops_follow_the_end splits before pre n e post after t l (m, r, i, q) = false_from_ne_true (asks_for t e.event) refuted
  where
    refuted : asks_for t e.event ≡ true → ⊥
    refuted w =
        let h = pre ++ (n, e) ∷ post in
        let ir : Among (m, r) pre = is_among m r pre i in
        let ix : Among (n, e) h = among_right (n, e) pre ((n, e) ∷ post) (inl refl) in
        let k = own_turn splits before after pre post (m, r) (n, e) l ir
        (same_walker splits before after h (m, r) (n, e) t t l (among_left (m, r) pre ((n, e) ∷ post) ir) ix (end_of t r.event r.outcome q) (names_of t e.event (asks_of t e.event w)) refl) in
        both_ways _ (nothing_after_end splits (own e.walker h) (no_session (run_after before) e.walker) (m, r) (n, e) t (session_of splits before after h (n, e) l ix) k q) (sym (asks_by t e.event) ∙ w)

pub nothing_follows_success : NothingFollowsSuccess
nothing_follows_success splits before pre n e post after t l (m, r, i, q) = false_from_ne_true (names t e.event) refuted
  where
    refuted : names t e.event ≡ true → ⊥
    refuted w =
        let h = pre ++ (n, e) ∷ post in
        let ir : Among (m, r) pre = is_among m r pre i in
        let ix : Among (n, e) h = among_right (n, e) pre ((n, e) ∷ post) (inl refl) in
        let k = own_turn splits before after pre post (m, r) (n, e) l ir
        (same_walker splits before after h (m, r) (n, e) t t l (among_left (m, r) pre ((n, e) ∷ post) ir) ix (success_of t r.event r.outcome q) (names_of t e.event w) refl) in
        both_ways _ (nothing_after_success splits (own e.walker h) (no_session (run_after before) e.walker) (m, r) (n, e) t (session_of splits before after h (n, e) l ix) k q) (sym (all_by t e.event) ∙ w)

pub nothing_follows_a_later_one : NothingFollowsALaterOne
nothing_follows_a_later_one splits before pre n e post after t l (m, r, u, i, f, s, g) = false_from_ne_true (names t e.event) refuted
  where
    refuted : names t e.event ≡ true → ⊥
    refuted w =
        let h = pre ++ (n, e) ∷ post in
        let ir : Among (m, r) pre = is_among m r pre i in
        let ix : Among (n, e) h = among_right (n, e) pre ((n, e) ∷ post) (inl refl) in
        let k = own_turn splits before after pre post (m, r) (n, e) l ir (same_walker splits before after h (m, r) (n, e) u t l (among_left (m, r) pre ((n, e) ∷ post) ir) ix f (names_of t e.event w) s) in
        let c = serials_follow (run_after before) e.walker 0 (own e.walker h) (m, r) (n, e) u t (sessions_keep_order splits (run_after before) e.walker (own e.walker h) (session_of splits before after h (n, e) l ix)).0 k f (names_of t e.event w) in
        omega (arith, c, g)

-- ---- who died

dead_of : (t : TxId) (e : Event) (o : Outcome) → dies t e o ≡ true → (tx_of e ≡ Some t) × (ended_by e o ≡ Some t.serial) × (works_on t.serial e ≡ true)
dead_of t (Op tx birth nth seen op) (Dead cause) h =
    let q = sym (tx_true t tx h) in (ap Some q, ap (λ z. Some z.serial) q, eq-eqb tx.serial t.serial (ap (λ z. z.serial) q))
dead_of t (RollTo tx nth seen upto) (Dead cause) h =
    let q = sym (tx_true t tx h) in (ap Some q, ap (λ z. Some z.serial) q, eq-eqb tx.serial t.serial (ap (λ z. z.serial) q))
dead_of t (Request tx ts) (Dead cause) h =
    let q = sym (tx_true t tx h) in (ap Some q, ap (λ z. Some z.serial) q, eq-eqb tx.serial t.serial (ap (λ z. z.serial) q))
dead_of t _ _ h = absurd (both_ways false refl h)

-- one entry doesn't do both
not_both : (t : TxId) (e : Event) (o : Outcome) → dies t e o ≡ true → request_of e o ≡ Some t → ⊥
not_both t (Op tx birth nth seen op) (Dead cause) h q = absurd cc
not_both t (RollTo tx nth seen upto) (Dead cause) h q = absurd cc
not_both t (Request tx ts) (Dead cause) h q = absurd cc
not_both t _ _ h q = absurd (both_ways false refl h)

pub the_dead_ask_nothing : TheDeadAskNothing
the_dead_ask_nothing splits before h after t l (m, r, i, d) (k, q, j, f) =
    let a = dead_of t r.event r.outcome d in
    let b = asked_of t q.event q.outcome f in
    let p = together splits before after h (m, r) (k, q) t l (is_among m r h i) (is_among k q h j) a.0 b.0 in
    let s = (sessions_keep_order splits (run_after before) r.walker (own r.walker h) p.session).2 in
    ⊎_elim (λ z. not_both t r.event r.outcome d (ap (λ y. request_of (y.1).event (y.1).outcome) z ∙ f))
    (λ z. ⊎_elim
    (λ c. absurd (both_ways _ (nothing_follows (own r.walker h) (m, r) (k, q) t.serial s c a.1) (asks_on t q.event q.outcome f)))
    (λ c. absurd (both_ways _ (nothing_follows (own r.walker h) (k, q) (m, r) t.serial s c b.1) a.2)) z)
    (in_turn (m, r) (k, q) (own r.walker h) p.first p.second)
