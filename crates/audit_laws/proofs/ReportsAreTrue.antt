-- The rows of a history are its members, with the parts of scans joined.
use Rattle.std.proofs.Common.{◌≡◌, ℕ, suc, ◌<◌, Bool, true, false, cond, ◌||◌, List, [], ◌∷◌, ◌++◌, map, length, Option, Some, None, refl, sym, ap, ap₂, ◌∙◌, subst}
use Rattle.std.proofs.lemmas.Bool.{both_ways}
use Rattle.std.specs.List.{AllByRecursion}
use Rattle.clv_base.specs.declared.names.TxId.{TxId}
use Rattle.clv_base.specs.declared.logs.LogRecord.{LogRecord}
use Rattle.clv_base.specs.declared.events.Event.{Event}
use Rattle.clv_base.specs.declared.events.Event.TheVariants.{Op as OpEvent, RollTo}
use Rattle.clv_base.specs.declared.events.Outcome.{Outcome}
use Rattle.clv_base.specs.declared.events.Outcome.TheVariants.{Answered, Rolled}
use Rattle.clv_base.specs.declared.events.Entry.{Entry}
use Rattle.clv_base.specs.Orders.{tx_same, tx_in}
use Rattle.clv_base.specs.Maps.{KeyMap, Act, Operates, GoesBack, Acts, Trail, map_now, act_after, acts_after, acts_answers, replay_map, replay_answers}
use Rattle.clv_base.specs.Folding.{IsRising}
use Rattle.clv_base.specs.Logs.{committed_in, stands}
use Rattle.clv_base.specs.LogRules.{log_of}
use Rattle.clv_base.specs.Journals.{History}
use Rattle.clv_base.specs.History.{DoneAct, Member, act_of, put_act, acts_in, answers_given, acknowledged_in, request_of, members, logs_left, serial_acts, serial_answers}
use Rattle.clv_base.proofs.Folding.{rising_after}
use Rattle.clv_base.proofs.SameNames.{tx_self, or_left, or_right}
use Rattle.law_base.specs.Items.{AllLater}
use Rattle.law_base.proofs.Sets.{same_flip}
use Rattle.history_laws.specs.Ordering.{AreInSessionOrder}
use Rattle.history_laws.specs.Ordering as ordering
use Rattle.headline_laws.specs.Promise.{Promise}
use Rattle.session_books.specs.declared.books.Row.{Row}
use Rattle.session_books.specs.declared.told.Told.{Told}
use Rattle.session_books.specs.Done.{Did, WentBack}
use Rattle.session_books.specs.Told.{told_by, with_told, told_in}
use Rattle.session_books.specs.Books.{whole_ops, row_of, row_at, rows_in, rows}
use Rattle.report_reading.specs.declared.told.ReportedTx.{ReportedTx}
use Rattle.report_reading.specs.Told.{numbered}
use Rattle.clv_audit.specs.Right.{answers_of, all_answers, all_acts, SerialRises, AreRight, last_map}
use Rattle.clv_audit.proofs.Laws.{rising_up_to, rising_now, stands_rises}
use Rattle.audit_laws.specs.Reports.{reported_of, ReportsAreTrue}
use Rattle.audit_laws.proofs.EntriesAreWhole.{AreWhole, entries_are_whole}
use Rattle.audit_laws.proofs.JoinedRuns.{did_all, acts_only, joined_run}
use Rattle.audit_laws.proofs.MembersAreAcknowledged.{members_are_acknowledged}
use Rattle.fate_laws.proofs.Laws.{aborted_are_committed_nowhere}

-- ---- the acts of a transaction are what is told of it

-- an act in front, where there is one
abbrev pub with_act : Option DoneAct → List DoneAct → List DoneAct
with_act None ps = ps
with_act (Some p) ps = put_act p ps

with_elim : (o : Option DoneAct) (ps : List DoneAct) → elim o [ Some p ↦ put_act p ps | None ↦ ps ] ≡ with_act o ps
with_elim None ps = refl
with_elim (Some p) ps = refl

told_if : (b : Bool) (p : DoneAct) (t : Told) (ts : List Told) → did_all (t ∷ ts) ≡ put_act p (did_all ts) → with_act (cond b (Some p) None) (did_all ts) ≡ did_all (cond b (t ∷ ts) ts)
told_if true p t ts e = sym e
told_if false p t ts e = refl

told_entry : (t : TxId) (event : Event) (outcome : Outcome) (ts : List Told) → with_act (act_of t event outcome) (did_all ts) ≡ did_all (with_told t (told_by event outcome) ts)
told_entry t (OpEvent tx birth nth seen op) (Answered answer epoch) ts =
    told_if (tx_same t tx) (nth, Operates op, Some answer) (record { nth = nth; done = Did op answer }) ts refl ∙ ap (λ b. did_all (cond b (record { nth = nth; done = Did op answer } ∷ ts) ts)) (same_flip t tx)
told_entry t (RollTo tx nth seen upto) Rolled ts =
    told_if (tx_same t tx) (nth, GoesBack upto, None) (record { nth = nth; done = WentBack upto }) ts refl ∙ ap (λ b. did_all (cond b (record { nth = nth; done = WentBack upto } ∷ ts) ts)) (same_flip t tx)
told_entry t _ _ ts = refl

pub acts_are_told : (t : TxId) (h : History) → acts_in t h ≡ did_all (told_in t h)
acts_are_told t [] = refl
acts_are_told t (e ∷ es) =
    with_elim (act_of t (e.1).event (e.1).outcome) (acts_in t es)
    ∙ ap (with_act (act_of t (e.1).event (e.1).outcome)) (acts_are_told t es) ∙ told_entry t (e.1).event (e.1).outcome (told_in t es)

-- ---- maps that rise

acts_rise : (as_ : Acts) (m : KeyMap) (trail : Trail) → IsRising m → AllByRecursion (λ p. IsRising p.1) trail → IsRising (acts_after as_ m trail)
acts_rise [] m trail r h = rising_now m trail r h
acts_rise (a ∷ as_) m trail r h = acts_rise as_ m _ r (at a.1, h)
  where
    at : (act : Act) → IsRising (act_after act m trail)
    at (Operates o) = rising_after o (map_now m trail) (rising_now m trail r h)
    at (GoesBack u) = rising_up_to u m trail r h

-- ---- members and rows

abbrev told_of : Member → List DoneAct
told_of k = k.acts

abbrev Right : History → KeyMap → List Member → List ReportedTx → Type 0
Right h m ms ts = (replay_answers m (all_acts ts) ≡ all_answers ts) × (replay_map m (all_acts ts) ≡ replay_map m (serial_acts ms))

-- one member more, with its row
right_more :
    (h : History) (m : KeyMap) (k : Member) (row : ReportedTx) (ms : List Member) (ts : List ReportedTx) (told : List Told) → IsRising m → AreWhole None told → k.acts ≡ did_all told → row.acts ≡ whole_ops told
    → replay_answers m (serial_acts (k ∷ ms)) ≡ serial_answers (k ∷ ms)
    → ((n : KeyMap) → IsRising n → replay_answers n (serial_acts ms) ≡ serial_answers ms → Right h n ms ts) → Right h m (k ∷ ms) (row ∷ ts)
right_more h m k row ms ts told r w acts ops e rest =
    let own : acts_answers (map (λ p. (p.0, p.1)) k.acts) m [] ≡ answers_given k.acts = cc in
    let left : replay_answers (acts_after (map (λ p. (p.0, p.1)) k.acts) m []) (serial_acts ms) ≡ serial_answers ms = cc in
    let run = joined_run m told r w (subst (λ (ds : List DoneAct). acts_answers (acts_only ds) m [] ≡ answers_given ds) acts own) in
    let after : acts_after (numbered row.acts) m [] ≡ acts_after (acts_only k.acts) m [] = ap (λ ds. acts_after (numbered ds) m []) ops ∙ run.1 ∙ ap (λ ds. acts_after (acts_only ds) m []) (sym acts) in
    let more = rest (acts_after (acts_only k.acts) m []) (acts_rise (acts_only k.acts) m [] r tt) left in (
      ap₂ (λ a l. a ∷ l) (ap (λ ds. acts_answers (numbered ds) m []) ops ∙ run.0 ∙ ap answers_of (sym ops)) (ap (λ n. replay_answers n (all_acts ts)) after ∙ more.0),
      ap (λ n. replay_map n (all_acts ts)) after ∙ more.1,
    )

-- a list of members that have the same names as rows, in order
data Alike : List Member → List ReportedTx → Type 0 where
  none : Alike [] []
  one : (k : Member) (t : ReportedTx) {ms : List Member} {ts : List ReportedTx} → (k.tx).session ≡ t.session → (k.tx).serial ≡ t.serial → Alike ms ts → Alike (k ∷ ms) (t ∷ ts)

rise_each : (k : Member) (t : ReportedTx) (ms : List Member) (ts : List ReportedTx) → (k.tx).session ≡ t.session → (k.tx).serial ≡ t.serial → Alike ms ts → AllByRecursion (ordering.SerialRises k) ms → AllByRecursion (SerialRises t) ts
rise_each k t [] [] a b none h = tt
rise_each k t [] (u ∷ ts) a b alike h = elim alike [ ]
rise_each k t (l ∷ ms) [] a b alike h = elim alike [ ]
rise_each k t (l ∷ ms) (u ∷ ts) a b (one _ _ c d rest) h =
    ((λ same. let low = h.0 (a ∙ same ∙ sym c) in subst (λ (x : ℕ). x < u.serial) b (subst (λ (y : ℕ). (k.tx).serial < y) d low)), rise_each k t ms ts a b rest h.1)

in_order : (ms : List Member) (ts : List ReportedTx) → Alike ms ts → AreInSessionOrder ms → AllLater SerialRises ts
in_order [] [] none h = tt
in_order [] (t ∷ ts) alike h = elim alike [ ]
in_order (k ∷ ms) [] alike h = elim alike [ ]
in_order (k ∷ ms) (t ∷ ts) (one _ _ a b rest) h = (rise_each k t ms ts a b rest h.0, in_order ms ts rest h.1)

module _ (logs : List (List LogRecord)) (h : History) (whole : (t : TxId) → acknowledged_in h t ≡ true → AreWhole None (told_in t h)) where
  -- the members by these requests, each of whom was told so, and the rows by the same requests
  abbrev Both : History → Type 0
  Both es =
      ((t : TxId) → tx_in t (map (λ k. k.tx) (members logs h es)) ≡ true → acknowledged_in h t ≡ true)
      → Alike (members logs h es) (map reported_of (rows_in h es))
      × ((m : KeyMap) → IsRising m → replay_answers m (serial_acts (members logs h es)) ≡ serial_answers (members logs h es) → Right h m (members logs h es) (map reported_of (rows_in h es)))

  abbrev member_at : ℕ × Entry → Option TxId → List Member → List Member
  member_at e None ms = ms
  member_at e (Some t) ms = cond (committed_in (log_of logs e.0) t || acknowledged_in h t) (record { tx = t; point = record { stamp = (e.1).stamp; shard = e.0 }; acts = acts_in t h } ∷ ms) ms

  abbrev RowBehind : ℕ × Entry → TxId → List Member → List Row → Bool → Bool → Type 0
  RowBehind e t ms ts c a =
      Alike (cond (c || a) (record { tx = t; point = record { stamp = (e.1).stamp; shard = e.0 }; acts = acts_in t h } ∷ ms) ms) (map reported_of (cond a (row_of h e t ∷ []) [] ++ ts))
      × ((m : KeyMap) → IsRising m → replay_answers m (serial_acts (cond (c || a) (record { tx = t; point = record { stamp = (e.1).stamp; shard = e.0 }; acts = acts_in t h } ∷ ms) ms)) ≡ serial_answers (cond (c || a) (record { tx = t; point = record { stamp = (e.1).stamp; shard = e.0 }; acts = acts_in t h } ∷ ms) ms)
      → Right h m (cond (c || a) (record { tx = t; point = record { stamp = (e.1).stamp; shard = e.0 }; acts = acts_in t h } ∷ ms) ms) (map reported_of (cond a (row_of h e t ∷ []) [] ++ ts)))

  abbrev RightAt : List Member → List Row → Type 0
  RightAt ms ts = (m : KeyMap) → IsRising m → replay_answers m (serial_acts ms) ≡ serial_answers ms → Right h m ms (map reported_of ts)

  is_told : (e : ℕ × Entry) (t : TxId) (ms : List Member) (ts : List Row) → Alike ms (map reported_of ts) → RightAt ms ts → acknowledged_in h t ≡ true → RowBehind e t ms ts true true
  is_told e t ms ts alike right acked = (
    one _ _ refl refl alike,
    λ m r answers. right_more h m (record { tx = t; point = record { stamp = (e.1).stamp; shard = e.0 }; acts = acts_in t h }) (reported_of (row_of h e t)) ms (map reported_of ts) (told_in t h) r (whole t acked) (acts_are_told t h) refl answers right,
  )

  at_row :
      (e : ℕ × Entry) (t : TxId) (ms : List Member) (ts : List Row)
      → ((u : TxId) → tx_in u (map (λ k. k.tx) (cond (committed_in (log_of logs e.0) t || acknowledged_in h t) (record { tx = t; point = record { stamp = (e.1).stamp; shard = e.0 }; acts = acts_in t h } ∷ ms) ms)) ≡ true → acknowledged_in h u ≡ true)
      → Alike ms (map reported_of ts) → RightAt ms ts → (a c : Bool) → acknowledged_in h t ≡ a → committed_in (log_of logs e.0) t ≡ c → RowBehind e t ms ts c a
  at_row e t ms ts told alike right true true x y = is_told e t ms ts alike right x
  at_row e t ms ts told alike right true false x y = is_told e t ms ts alike right x
  at_row e t ms ts told alike right false true x y =
      absurd (both_ways (acknowledged_in h t) x (told t (subst (λ (b : Bool). tx_in t (map (λ l. l.tx) (cond b (record { tx = t; point = record { stamp = (e.1).stamp; shard = e.0 }; acts = acts_in t h } ∷ ms) ms)) ≡ true)
      (sym (or_left (committed_in (log_of logs e.0) t) (acknowledged_in h t) y)) (or_left (tx_same t t) (tx_in t (map (λ l. l.tx) ms)) (tx_self t)))))
  at_row e t ms ts told alike right false false x y = (alike, right)

  at_request : (e : ℕ × Entry) (o : Option TxId) (ms : List Member) (ts : List Row)
      → ((t : TxId) → tx_in t (map (λ k. k.tx) (member_at e o ms)) ≡ true → acknowledged_in h t ≡ true)
      → Alike ms (map reported_of ts) → RightAt ms ts
      → Alike (member_at e o ms) (map reported_of (row_at h e o ++ ts))
      × ((m : KeyMap) → IsRising m → replay_answers m (serial_acts (member_at e o ms)) ≡ serial_answers (member_at e o ms) → Right h m (member_at e o ms) (map reported_of (row_at h e o ++ ts)))
  at_request e None ms ts told alike right = (alike, right)
  at_request e (Some t) ms ts told alike right = at_row e t ms ts told alike right (acknowledged_in h t) (committed_in (log_of logs e.0) t) refl refl

  member_is : (e : ℕ × Entry) (es : History) → members logs h (e ∷ es) ≡ member_at e (request_of (e.1).event (e.1).outcome) (members logs h es)
  member_is e es = at (request_of (e.1).event (e.1).outcome)
    where
      at : (o : Option TxId)
          → elim o [
            | Some t ↦ cond (committed_in (log_of logs e.0) t || acknowledged_in h t) (record { tx = t; point = record { stamp = (e.1).stamp; shard = e.0 }; acts = acts_in t h } ∷ members logs h es) (members logs h es)
            | None ↦ members logs h es
          ] ≡ member_at e o (members logs h es)
      at None = refl
      at (Some t) = refl

  still_in : (t : TxId) (e : ℕ × Entry) (o : Option TxId) (ms : List Member) → tx_in t (map (λ k. k.tx) ms) ≡ true → tx_in t (map (λ k. k.tx) (member_at e o ms)) ≡ true
  still_in t e None ms i = i
  still_in t e (Some u) ms i = at (committed_in (log_of logs e.0) u || acknowledged_in h u)
    where
      at : (b : Bool) → tx_in t (map (λ k. k.tx) (cond b (record { tx = u; point = record { stamp = (e.1).stamp; shard = e.0 }; acts = acts_in u h } ∷ ms) ms)) ≡ true
      at true = or_right (tx_same u t) (tx_in t (map (λ k. k.tx) ms)) i
      at false = i

  both : (es : History) → Both es
  both [] told = (none, λ m r e. (refl, refl))
  both (e ∷ es) told =
      let o = request_of (e.1).event (e.1).outcome in
      let as_ : (t : TxId) → tx_in t (map (λ k. k.tx) (member_at e o (members logs h es))) ≡ true → acknowledged_in h t ≡ true =
      λ t i. told t (subst (λ (ms : List Member). tx_in t (map (λ k. k.tx) ms) ≡ true) (sym (member_is e es)) i) in
      let rest = both es (λ t i. as_ t (still_in t e o (members logs h es) i)) in
      let here = at_request e o (members logs h es) (rows_in h es) as_ rest.0 rest.1 in (
        subst (λ (ms : List Member). Alike ms (map reported_of (row_at h e o ++ rows_in h es))) (sym (member_is e es)) here.0,
        subst (λ (ms : List Member). (m : KeyMap) → IsRising m → replay_answers m (serial_acts ms) ≡ serial_answers ms → Right h m ms (map reported_of (row_at h e o ++ rows_in h es))) (sym (member_is e es)) here.1,
      )

same_length : (rs : List Row) → length (map reported_of rs) ≡ length rs
same_length [] = refl
same_length (r ∷ rs) = ap suc (same_length rs)

pub reports_are_true : Promise → ReportsAreTrue
reports_are_true promise splits before h after choice r legal settled scans report =
    let p = promise splits before h after choice legal in
    let logs = logs_left splits before h after choice in
    let found = both logs h (λ t acked. entries_are_whole splits before h after t legal.legal acked (scans t acked)) h (members_are_acknowledged aborted_are_committed_nowhere splits before h after choice legal settled) in
    let ts = map reported_of (rows h) in
    let run = found.1 (stands before) (stands_rises before) p.answers in
    let right : AreRight (stands before) ts = record { serials = in_order (members logs h h) ts found.0 p.sessions; answers = run.0 } in
    let last : last_map (stands before) ts ≡ stands logs = run.1 ∙ p.map in (
      subst (λ (m : KeyMap). AreRight m r.txs) (sym report.pairs) (subst (AreRight (stands before)) (sym report.txs) right),
      report.unsettled ∙ settled,
      ap₂ last_map report.pairs report.txs ∙ last,
      sym (ap length report.txs ∙ same_length (rows h)),
    )
