-- A session's transactions one after another, each with one outcome.
pub mod NothingFollowsTheEnd
use Rattle.std.proofs.Common.{◌≡◌, ◌⊎◌, inl, inr, ⊎_elim, refl, sym, ap, subst, ◌∙◌, ℕ, ◌<◌, ◌≤◌, true, false, cond, Bool, List, [], ◌∷◌, Option, Some, None, arith}
use Rattle.std.specs.List.{AllByRecursion}
use Rattle.std.proofs.lemmas.Bool.{both_ways, cases_eq, or_right, false_from_ne_true}
use Rattle.clv_base.specs.declared.names.TxId.{TxId}
use Rattle.clv_base.specs.declared.logs.LogRecord.{LogRecord}
use Rattle.clv_base.specs.declared.events.Event.{Event}
use Rattle.clv_base.specs.declared.events.Event.TheVariants.{Op as OpEvent, Request as RequestEvent, Look, Drop, RollTo}
use Rattle.clv_base.specs.declared.events.Outcome.{Outcome}
use Rattle.clv_base.specs.declared.events.Outcome.TheVariants.{Acknowledged, Aborted, Dead, Dropped}
use Rattle.clv_base.specs.Restarts.{run_after}
use Rattle.clv_base.specs.Sessions.{no_session}
use Rattle.clv_base.specs.Journals.{History, own}
use Rattle.clv_base.specs.History.{Legal, Member, is_acknowledgement, request_of, members, logs_left}
use Rattle.clv_base.proofs.SameNames.{tx_true, same_fields}
use Rattle.law_base.proofs.Lists.{all_mono}
use Rattle.protocol_laws.specs.SessionLaws.{tx_of}
use Rattle.protocol_laws.proofs.SessionsKeepOrder.{sessions_keep_order}
use Rattle.history_laws.specs.Ordering.{SerialRises, AreInSessionOrder, SessionsKeepTheirOrder}
use Rattle.history_laws.specs.Outcomes.{is_abort, aborted_in_history, OneOutcome}
use Rattle.history_cases.proofs.Merging.{Placed, Before, before_then, not_before_itself, InOrder, in_order, Among, among_all, in_turn, precedes_before, own_in_order}
use Rattle.history_laws.proofs.NeverTakenBack.LaterHistoriesHoldMembers.{any_among, member_at}
use Rattle.history_laws.proofs.Entries.NothingFollowsRequests.{serials_follow}
use Rattle.history_laws.proofs.SessionsKeepTheirOrder.NothingFollowsTheEnd.{names, nothing_after_end, nothing_after_success}
use Rattle.history_cases.proofs.Telling.{IsRequest}
use Rattle.history_laws.proofs.NeverTakenBack.{walker_of, together, together_by_walker, one_request, is_request}
use Rattle.law_base.proofs.Logs.{is_in}

-- ---- members of one session

one_name : (t u : TxId) → t.run ≡ u.run → t.session ≡ u.session → t.serial ≡ u.serial → t ≡ u
one_name t u a b c = same_fields t.run t.session t.serial u.run u.session u.serial a b c

-- of two requests of a session in turn, the later is of the greater serial
request_rises : (splits : List ℕ) (before after : List (List LogRecord)) (h : History) (x y : Placed) (t u : TxId) (ts us : List (ℕ × ℕ)) → Legal splits before h after → Among x h → Among y h
    → IsRequest t ts x → IsRequest u us y → Before x y → t.session ≡ u.session → t.serial < u.serial
request_rises splits before after h x y t u ts us l i j r s b e =
    let p = walker_of splits before after h x t l i (ap tx_of r.0) in
    let q = walker_of splits before after h y u l j (ap tx_of s.0) in
    let c = together_by_walker splits before after h x y l i j (sym p.1 ∙ e ∙ q.1) in
    let w = own (x.1).walker h in
    let k = sessions_keep_order splits (run_after before) (x.1).walker w c.session in
    ⊎_elim (λ f. absurd (not_before_itself x y f b))
    (λ f. ⊎_elim
    (λ a. strictly (serials_follow (run_after before) (x.1).walker 0 w x y t u k.0 a (ap tx_of r.0) (ap tx_of s.0)) (λ n. not_before_itself x y (same n p q) b))
    (λ a. absurd (not_before_itself x x refl (before_then x y x b (precedes_before y x w (own_in_order (x.1).walker h (in_order h l.ordered)) a))))
    f)
    (in_turn x y w c.first c.second)
  where
    strictly : t.serial ≤ u.serial → (t.serial ≡ u.serial → ⊥) → t.serial < u.serial
    strictly m n = at (cases_eq t.serial u.serial)
      where
        at : (t.serial ≡ u.serial) ⊎ (t.serial ≡ u.serial → ⊥) → t.serial < u.serial
        at (inl o) = absurd (n o)
        at (inr o) = omega (arith, m, o)

    same : t.serial ≡ u.serial → (t.run ≡ run_after before) × (t.session ≡ (x.1).walker) → (u.run ≡ run_after before) × (u.session ≡ (y.1).walker) → x ≡ y
    same n p q =
        one_request splits before after h x y t ts us l i j r (subst (λ z. IsRequest z us y) (sym (one_name t u (p.0 ∙ sym q.0) e n)) s)

abbrev RequestAmong : History → List Placed → Member → Type 0
RequestAmong h es m = (x : Placed) × (ts : List (ℕ × ℕ)) × Among x es × IsRequest m.tx ts x

from_later : (h : History) (x : Placed) (xs : List Placed) (m : Member) → RequestAmong h xs m → RequestAmong h (x ∷ xs) m
from_later h x xs m (y, ts, i, r) = (y, ts, inr i, r)

abbrev by_request : (TxId → Bool) → History → Placed → Option TxId → List Member → List Member
by_request test h x o rest = elim o [ Some t ↦ cond (test t) (member_at h x t ∷ rest) rest | None ↦ rest ]

-- what a member adds
one_more : (P : List Member → Type 0) (test : TxId → Bool) (h : History) (x : Placed) (o : Option TxId) (rest : List Member) → P rest → ((t : TxId) → o ≡ Some t → P (member_at h x t ∷ rest)) → P (by_request test h x o rest)
one_more P test h x None rest p k = p
one_more P test h x (Some t) rest p k = at (test t)
  where
    at : (b : Bool) → P (cond b (member_at h x t ∷ rest) rest)
    at true = k t refl
    at false = p

request_here : (h : History) (x : Placed) (xs : List Placed) (t : TxId) → request_of (x.1).event (x.1).outcome ≡ Some t → RequestAmong h (x ∷ xs) (member_at h x t)
request_here h x xs t e = let q = is_request t (x.1).event (x.1).outcome e in (x, q.0, inl refl, (q.1, q.2))

members_from : (logs : List (List LogRecord)) (h es : History) → AllByRecursion (RequestAmong h es) (members logs h es)
members_from logs h [] = tt
members_from logs h (x ∷ xs) =
    let rest = all_mono (RequestAmong h xs) (RequestAmong h (x ∷ xs)) (from_later h x xs) (members logs h xs) (members_from logs h xs) in
    one_more (AllByRecursion (RequestAmong h (x ∷ xs))) (is_in logs h x.0) h x (request_of (x.1).event (x.1).outcome) (members logs h xs) rest (λ t e. (request_here h x xs t e, rest))

in_turn_from : (splits : List ℕ) (before after : List (List LogRecord)) (h : History) (logs : List (List LogRecord)) (es : History) → Legal splits before h after → InOrder es → ((x : Placed) → Among x es → Among x h)
    → AreInSessionOrder (members logs h es)
in_turn_from splits before after h logs [] l o k = tt
in_turn_from splits before after h logs (x ∷ xs) l o k =
    let rest = in_turn_from splits before after h logs xs l o.1 (λ y i. k y (inr i)) in
    one_more AreInSessionOrder (is_in logs h x.0) h x (request_of (x.1).event (x.1).outcome) (members logs h xs) rest
    (λ t e.
    let q = is_request t (x.1).event (x.1).outcome e in (
      all_mono (RequestAmong h xs) (SerialRises (member_at h x t))
          (λ m r f. request_rises splits before after h x r.0 t m.tx q.0 r.1 l (k x (inl refl)) (k r.0 (inr r.2)) (q.1, q.2) r.3 (among_all (Before x) r.0 xs o.0 r.2) f)
          (members logs h xs) (members_from logs h xs),
      rest,
    ))

pub sessions_keep_their_order : SessionsKeepTheirOrder
sessions_keep_their_order splits before h after choice l = in_turn_from splits before after h (logs_left splits before h after choice) h l (in_order h l.ordered) (λ x i. i)

-- ---- one outcome

acknowledged_names : (t : TxId) (e : Event) (o : Outcome) → is_acknowledgement t e o ≡ true → (tx_of e ≡ Some t) × (names false t e ≡ true)
acknowledged_names t (Look tx) Acknowledged k = (ap (λ z. Some z) (sym (tx_true t tx k)), k)
acknowledged_names t (Look tx) _ k = absurd (both_ways false refl k)
acknowledged_names t _ o k = absurd (both_ways false refl k)

abort_names : (t : TxId) (e : Event) (o : Outcome) → is_abort t e o ≡ true → (tx_of e ≡ Some t) × (names true t e ≡ true) × (is_acknowledgement t e o ≡ false)
abort_names t (OpEvent tx birth nth seen op) (Dead cause) k = (ap (λ z. Some z) (sym (tx_true t tx k)), k, refl)
abort_names t (OpEvent tx birth nth seen op) _ k = absurd (both_ways false refl k)
abort_names t (RollTo tx nth seen upto) (Dead cause) k = (ap (λ z. Some z) (sym (tx_true t tx k)), k, refl)
abort_names t (RollTo tx nth seen upto) _ k = absurd (both_ways false refl k)
abort_names t (RequestEvent tx ts) (Dead cause) k = (ap (λ z. Some z) (sym (tx_true t tx k)), k, refl)
abort_names t (RequestEvent tx ts) _ k = absurd (both_ways false refl k)
abort_names t (Look tx) (Aborted cause) k = (ap (λ z. Some z) (sym (tx_true t tx k)), k, refl)
abort_names t (Look tx) _ k = absurd (both_ways false refl k)
abort_names t (Drop tx) Dropped k = (ap (λ z. Some z) (sym (tx_true t tx k)), k, refl)
abort_names t (Drop tx) _ k = absurd (both_ways false refl k)
abort_names t _ o k = absurd (both_ways false refl k)

not_both : (splits : List ℕ) (before after : List (List LogRecord)) (h : History) (x y : Placed) (t : TxId) → Legal splits before h after → Among x h → Among y h
    → is_acknowledgement t (x.1).event (x.1).outcome ≡ true → is_abort t (y.1).event (y.1).outcome ≡ true → ⊥
not_both splits before after h x y t l i j a b =
    let p = acknowledged_names t (x.1).event (x.1).outcome a in
    let q = abort_names t (y.1).event (y.1).outcome b in
    let c = together splits before after h x y t l i j p.0 q.0 in
    let w = own (x.1).walker h in
    let s = no_session (run_after before) (x.1).walker in
    ⊎_elim (λ e. both_ways _ q.2 (subst (λ z. is_acknowledgement t (z.1).event (z.1).outcome ≡ true) e a))
    (λ d. ⊎_elim
    (λ f. both_ways _ (nothing_after_success splits w s x y t c.session f a) q.1)
    (λ f. both_ways _ (nothing_after_end splits w s y x t c.session f (or_right (is_acknowledgement t (y.1).event (y.1).outcome) (is_abort t (y.1).event (y.1).outcome) b)) p.1)
    d)
    (in_turn x y w c.first c.second)

pub outcomes_are_one : OneOutcome
outcomes_are_one splits before h after t l a =
    let x = any_among (λ e. is_acknowledgement t (e.1).event (e.1).outcome) h a in
    false_from_ne_true (aborted_in_history h t)
    (λ b. let y = any_among (λ e. is_abort t (e.1).event (e.1).outcome) h b in not_both splits before after h x.0 y.0 t l x.1 y.1 x.2 y.2)
