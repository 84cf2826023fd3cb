-- Entries of one transaction in turn: the laws of sessions, for the entries of a history.
pub mod SessionsFollowTheirOperations
pub mod NamedShardsAnswered
pub mod DropsAfterRequests
use Rattle.std.proofs.Common.{◌≡◌, inl, inr, ⊎_elim, refl, sym, ap, ◌∙◌, ℕ, true, false, cond, Bool, List, [], ◌∷◌, ◌==◌, subst}
use Rattle.std.specs.List.{AllByRecursion}
use Rattle.std.proofs.lemmas.Bool.{both_ways, eq-eqb}
use Rattle.clv_base.specs.declared.names.TxId.{TxId}
use Rattle.clv_base.specs.declared.logs.LogRecord.{LogRecord}
use Rattle.clv_base.specs.declared.events.Event.TheVariants.{Request as RequestEvent, Drop}
use Rattle.clv_base.specs.declared.events.Entry.{Entry}
use Rattle.clv_base.specs.Sessions.{no_session}
use Rattle.clv_base.specs.Restarts.{run_after}
use Rattle.clv_base.specs.Journals.{History, own}
use Rattle.clv_base.specs.History.{Legal}
use Rattle.protocol_laws.specs.SessionLaws.{tx_of, works_on, ended_by}
use Rattle.protocol_laws.proofs.SessionsKeepOrder.{sessions_keep_order}
use Rattle.history_cases.proofs.Merging.{Placed, in_order, Among, is_among, among_is, Precedes, in_turn, precedes_before, own_in_order}
use Rattle.history_laws.proofs.NeverTakenBack.{together}
use Rattle.history_laws.proofs.Entries.NothingFollowsRequests.{nothing_follows}
use Rattle.history_laws.specs.Dropping.{DropsFollowAborts}
use Rattle.history_laws.specs.Naming.{AnsweredBefore, RequestsNameWhatAnswered}
use Rattle.history_laws.proofs.RequestsNameWhatAnswered.DropsAfterRequests.{drop_after_request}
use Rattle.history_laws.proofs.RequestsNameWhatAnswered.NamedShardsAnswered.{Named, request_names_all}
use Rattle.history_laws.proofs.Entries.WalkedEntryByEntry.{first_among}

-- a walker's entry is one of the history's
from_own : (w : ℕ) (y : Placed) (h : History) → Among y (own w h) → Among y h
from_own w y [] m = elim m [ ]
from_own w y (f ∷ fs) m = at ((f.1).walker == w) m (from_own w y fs)
  where
    at : (b : Bool) → Among y (cond b (f ∷ own w fs) (own w fs)) → (Among y (own w fs) → Among y fs) → Among y (f ∷ fs)
    at true (inl q) k = inl q
    at true (inr m) k = inr (k m)
    at false m k = inr (k m)

differ : {tx : TxId} {ts : List (ℕ × ℕ)} → RequestEvent tx ts ≡ Drop tx → ⊥
differ z = absurd cc

pub drops_follow_aborts : DropsFollowAborts
drops_follow_aborts splits before h after home n r x tx ts l i e o j d =
    let p = together splits before after h (home, r) (n, x) tx l (is_among home r h i) (is_among n x h j) (ap tx_of e) (ap tx_of d) in
    let w = own r.walker h in
    let k = (sessions_keep_order splits (run_after before) r.walker w p.session).2 in
    ⊎_elim (λ z. absurd (differ (sym e ∙ ap (λ y. (y.1).event) z ∙ d)))
    (λ z. ⊎_elim
    (λ b.
    let y = drop_after_request splits w (no_session (run_after before) r.walker) (home, r) (n, x) tx ts p.session b e o d in
    ((y.0).0, (y.0).1, y.1, among_is (y.0).0 (y.0).1 h (from_own r.walker y.0 h (first_among y.0 (n, x) w y.2)), y.3, y.4, precedes_before y.0 (n, x) w (own_in_order r.walker h (in_order h l.ordered)) y.2))
    (λ b. absurd (both_ways _ (nothing_follows w (n, x) (home, r) tx.serial k b (ap (λ z. ended_by z x.outcome) d)) (subst (λ z. works_on tx.serial z ≡ true) (sym e) (eq-eqb tx.serial tx.serial refl)))) z)
    (in_turn (home, r) (n, x) w p.first p.second)

named_before : (splits : List ℕ) (before after : List (List LogRecord)) (h : History) (home : ℕ) (r : Entry) (tx : TxId) (ts : List (ℕ × ℕ)) → Legal splits before h after → Named tx (home, r) (own r.walker h) ts → AllByRecursion (λ k. AnsweredBefore h tx k.0 k.1 home r) ts
named_before splits before after h home r tx [] l n = tt
named_before splits before after h home r tx (k ∷ ks) l n =
    let y = (n.0).0 in
    let p = (n.0).1 in
    let a = (n.0).2 in
    let w = own r.walker h in
    let at : Among (k.0, y.1) h = subst (λ m. Among (m, y.1) h) a.place (from_own r.walker y h (first_among y (home, r) w p)) in (
      record {
        entry = y.1;
        birth = a.birth;
        nth = a.nth;
        seen = a.seen;
        op = a.op;
        answer = a.answer;
        among = among_is k.0 y.1 h at;
        event = a.event;
        outcome = a.outcome;
        comes_before = precedes_before (k.0, y.1) (home, r) w (own_in_order r.walker h (in_order h l.ordered)) (subst (λ m. Precedes (m, y.1) (home, r) w) a.place p);
      },
      named_before splits before after h home r tx ks l n.1,
    )

pub requests_name_what_answered : RequestsNameWhatAnswered
requests_name_what_answered splits before h after home r tx ts l i e =
    let p = together splits before after h (home, r) (home, r) tx l (is_among home r h i) (is_among home r h i) (ap tx_of e) (ap tx_of e) in
    named_before splits before after h home r tx ts l (request_names_all splits (own r.walker h) (no_session (run_after before) r.walker) (home, r) tx ts refl p.session p.first e).0
