-- The rows of a legal history are of sessions from 1 to 64, and of serials from 1.
use Rattle.std.proofs.Common.{◌≡◌, inl, inr, refl, sym, ap, subst, ◌∙◌, ℕ, Bool, true, false, cond, not, ◌&&◌, ◌||◌, ◌==◌, nat_le, nat_lt, List, [], ◌∷◌, ◌++◌, map, Option, Some, None, arith, eq-eqb}
use Rattle.std.specs.List.{list_all}
use Rattle.std.proofs.lemmas.Bool.{both_ways, and_parts, and_from, ltb-true, le-leb, cases_eq}
use Rattle.clv_base.specs.declared.names.TxId.{TxId}
use Rattle.clv_base.specs.declared.logs.LogRecord.{LogRecord}
use Rattle.clv_base.specs.declared.events.Event.{Event}
use Rattle.clv_base.specs.Restarts.{run_after}
use Rattle.clv_base.specs.Sessions.{is_of_session, is_session_number}
use Rattle.clv_base.specs.Journals.{History, own}
use Rattle.clv_base.specs.History.{Legal, acknowledged_in, request_of}
use Rattle.protocol_laws.specs.SessionLaws.{tx_of, works_on, NoneWorksOn}
use Rattle.protocol_laws.proofs.SessionsKeepOrder.{sessions_keep_order}
use Rattle.history_cases.proofs.Merging.{Placed, Among}
use Rattle.history_laws.proofs.NeverTakenBack.{walker_of, is_request, together_by_walker}
use Rattle.session_books.specs.Books.{row_of, row_at, rows_in, rows}
use Rattle.report_reading.specs.declared.told.ReportedTx.{ReportedTx}
use Rattle.report_reading.specs.Told.{is_session}
use Rattle.audit_laws.specs.Reports.{reported_of}
use Rattle.session_books.proofs.Laws.{all_at}

-- ---- what holds of each row

each_row :
    (P : ReportedTx → Bool) (h es : History) → ((e : Placed) (t : TxId) → Among e es → request_of (e.1).event (e.1).outcome ≡ Some t → P (reported_of (row_of h e t)) ≡ true)
    → list_all P (map reported_of (rows_in h es)) ≡ true
each_row P h [] f = refl
each_row P h (e ∷ es) f = at (request_of (e.1).event (e.1).outcome) (λ t same. f e t (inl refl) same) (each_row P h es (λ x t i same. f x t (inr i) same))
  where
    by : (t : TxId) (a : Bool) → P (reported_of (row_of h e t)) ≡ true → list_all P (map reported_of (rows_in h es)) ≡ true → list_all P (map reported_of (cond a (row_of h e t ∷ []) [] ++ rows_in h es)) ≡ true
    by t true here rest = and_from _ _ here rest
    by t false here rest = rest

    at : (o : Option TxId) → ((t : TxId) → o ≡ Some t → P (reported_of (row_of h e t)) ≡ true) → list_all P (map reported_of (rows_in h es)) ≡ true → list_all P (map reported_of (row_at h e o ++ rows_in h es)) ≡ true
    at None g rest = rest
    at (Some t) g rest = by t (acknowledged_in h t) (g t refl) rest

-- ---- names

abbrev pub is_named : ReportedTx → Bool
is_named t = is_session t.session && nat_le 1 t.serial

none_at : (n : ℕ) (x : Placed) (es : List Placed) → NoneWorksOn n es → Among x es → works_on n (x.1).event ≡ false
none_at n x [] a i = elim i [ ]
none_at n x (e ∷ es) a (inl same) = subst (λ (w : Placed). works_on n (w.1).event ≡ false) same a.0
none_at n x (e ∷ es) a (inr i) = none_at n x es a.1 i

some_serial : (n : ℕ) → (n == 0) ≡ false → nat_le 1 n ≡ true
some_serial n e = elim (cases_eq n 0) [
  | inl zero_ ↦ absurd (both_ways (n == 0) e (eq-eqb n 0 zero_))
  | inr some ↦ le-leb 1 n (omega (arith, some))
]

of_walker : (w : ℕ) → is_session_number w ≡ true → is_session w ≡ true
of_walker w e = let both = and_parts (nat_lt 0 w) (nat_le w 64) e in and_from _ _ (le-leb 1 w (let low = ltb-true 0 w both.0 in omega (arith, low))) both.1

numbers_from : (e : Event) (w : ℕ) → is_of_session e ≡ true → (not (is_of_session e) || is_session_number w) ≡ true → is_session_number w ≡ true
numbers_from e w s h = sym (ap (λ (b : Bool). not b || is_session_number w) s) ∙ h

pub rows_are_named : (splits : List ℕ) (before : List (List LogRecord)) (h : History) (after : List (List LogRecord)) → Legal splits before h after → list_all is_named (map reported_of (rows h)) ≡ true
rows_are_named splits before h after l = each_row is_named h h named
  where
    named : (e : Placed) (t : TxId) → Among e h → request_of (e.1).event (e.1).outcome ≡ Some t → is_named (reported_of (row_of h e t)) ≡ true
    named e t i asks =
        let r = is_request t (e.1).event (e.1).outcome asks in
        let whose = walker_of splits before after h e t l i (ap tx_of r.1) in
        let c = together_by_walker splits before after h e e l i i refl in
        let none = (sessions_keep_order splits (run_after before) (e.1).walker (own (e.1).walker h) c.session).1 in
        let serial : (t.serial == 0) ≡ false = sym (ap (works_on 0) r.1) ∙ none_at 0 e (own (e.1).walker h) none c.first in
        let number = numbers_from (e.1).event (e.1).walker (ap is_of_session r.1) (all_at (λ (x : Placed). not (is_of_session (x.1).event) || is_session_number (x.1).walker) e h l.numbered i) in
        and_from _ _ (subst (λ (n : ℕ). is_session n ≡ true) (sym whose.1) (of_walker (e.1).walker number)) (some_serial t.serial serial)
