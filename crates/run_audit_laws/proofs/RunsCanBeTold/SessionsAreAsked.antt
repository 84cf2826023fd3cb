-- The acknowledged tries of a session that went through were asked for within their bounds.
use Rattle.std.proofs.Common.{◌≡◌, refl, sym, ap, subst, ◌∙◌, ℕ, ◌+◌, ◌<◌, ◌≤◌, ◌^◌, true, inl, List, [], ◌∷◌, ◌++◌, append_assoc, length, Option, None, arith}
use Rattle.std.specs.List.{AllByRecursion, list_all}
use Rattle.std.proofs.lemmas.Bool.{and_parts, lt-ltb}
use Rattle.clv_base.specs.declared.names.Birth.{Birth}
use Rattle.clv_base.specs.declared.logs.LogRecord.{LogRecord}
use Rattle.clv_base.specs.Backs.{are_numbered}
use Rattle.clv_base.specs.Restarts.{run_after}
use Rattle.clv_base.specs.Journals.{History, own}
use Rattle.clv_base.specs.History.{Legal, DoneAct, acts_in}
use Rattle.history_cases.proofs.Merging.{Placed, Among, among_left, among_right}
use Rattle.script_lang.specs.Bodies.{Body}
use Rattle.script_lang.specs.Laws.{is_narrow, is_narrow_body, session_size}
use Rattle.script_lang.specs.Following.{at_start}
use Rattle.session_books.specs.declared.books.Row.{Row}
use Rattle.session_books.specs.Done.{Done}
use Rattle.script_runs.specs.Acts.{numbered as numbered_acts}
use Rattle.script_runs.specs.declared.ends.StopCause.{StopCause}
use Rattle.script_runs.specs.Tries.{Try, IsTry}
use Rattle.script_runs.specs.TriesTell.{ArePartsOf, no_act, operation, going_back}
use Rattle.script_runs.specs.Sessions.{Transaction, IsNamed, AreTransactions, all_done, not_begun, stopped, done, FollowsScript, tries_of, entries_of, session_entries}
use Rattle.script_runs.specs.Ran.{Rise, serials}
use Rattle.script_runs.proofs.Laws.{acknowledged_did_their_lines, entries_tell_their_answers, entries_more, session_tries_are_few}
use Rattle.report_reading.specs.Told.{has_acts}
use Rattle.audit_laws.specs.Reports.{reported_of}
use Rattle.cluster_runs.proofs.Laws.{whole_acts, from_session, from_own}
use Rattle.run_audit_laws.proofs.Answering.{IsAsked}
use Rattle.run_audit_laws.proofs.LinesAskWithinBounds.{lines_ask, lines_ask_little}
use Rattle.run_audit_laws.proofs.RunsCanBeTold.ActsAreNumbered.{asked_acts, parts_number}
use Rattle.run_audit_laws.proofs.RunsCanBeTold.AcknowledgedDidSomething.{requested_did, acknowledged_op}
use Rattle.run_audit_laws.proofs.RunsCanBeTold.EntriesAreFew.{entries_are_few}
use Rattle.run_audit_laws.proofs.RunsCanBeTold.TriesAreCounted.{IsGood, AreGood}

abbrev pub IsAskedRow : Row → Type 0
IsAskedRow r = IsAsked (reported_of r)

-- ---- acts

no_parts : (splits : List ℕ) (nth : ℕ) (ds : List Done) (as_ : List DoneAct) → ArePartsOf splits nth ds as_ → ds ≡ [] → as_ ≡ []
no_parts splits _ _ _ (no_act nth) none = refl
no_parts splits _ _ _ (operation nth op answer ds here behind all is parts given more) none = absurd cc
no_parts splits _ _ _ (going_back nth upto ds behind more) none = absurd cc

some_acts : (ds : List Done) → (ds ≡ [] → ⊥) → has_acts ds ≡ true
some_acts [] some = absurd (some refl)
some_acts (d ∷ ds) some = refl

-- ---- serials

serial_at : (lo : ℕ) (front : List Try) (t : Try) (behind : List Try) (hi : ℕ) → Rise lo (serials (front ++ t ∷ behind)) hi → (t.tx).serial ≤ hi
serial_at lo [] t behind hi r = last (t.tx).serial (serials behind) hi r.1
  where
    last : (low : ℕ) (ns : List ℕ) (high : ℕ) → Rise low ns high → low ≤ high
    last low [] high q = q
    last low (n ∷ ns) high q = let l = q.0 in let m = last n ns high q.1 in omega arith
serial_at lo (u ∷ front) t behind hi r = serial_at (u.tx).serial front t behind hi r.1

-- ---- sizes

pub bodies_few : (bodies : List Body) → length bodies ≤ session_size bodies
bodies_few [] = omega arith
bodies_few (b ∷ bodies) = let l = bodies_few bodies in omega arith

module _ (splits : List ℕ) (before after : List (List LogRecord)) (h : History) (legal : Legal splits before h after) (w : ℕ) (most : Option ℕ) (bodies : List Body) (f : FollowsScript splits (run_after before) w most bodies None (session_entries (own w h)))
    (counted : Rise 0 (serials (tries_of f.transactions)) (length (tries_of f.transactions))) (little : session_size bodies ≤ 2 ^ 25) where
  serials_fit : (front behind : List Try) (t : Try) → tries_of f.transactions ≡ front ++ t ∷ behind → (t.tx).serial < 2 ^ 64
  serials_fit front behind t is =
      let s = serial_at 0 front t behind (length (tries_of f.transactions)) (subst (λ ts. Rise 0 (serials ts) (length (tries_of f.transactions))) is counted) in
      let n = session_tries_are_few splits (run_after before) w most bodies f.transactions None f.in_order in
      let e = entries_are_few splits before h after w legal in
      let same = ap length f.entries_are in
      let k = bodies_few bodies in
      omega arith

  -- an entry of one of its tries is the history's
  in_history : (front behind : List Try) (t : Try) (x : Placed) → tries_of f.transactions ≡ front ++ t ∷ behind → Among x t.entries → Among x h
  in_history front behind t x is m =
      let here : Among x (entries_of (t ∷ behind)) = among_left x t.entries (entries_of behind) m in
      let all : Among x (entries_of (tries_of f.transactions)) = subst (λ ts. Among x (entries_of ts)) (sym is) (subst (Among x) (sym (entries_more front (t ∷ behind))) (among_right x (entries_of front) (entries_of (t ∷ behind)) here)) in
      from_own w x h (from_session x (own w h) (subst (Among x) (sym f.entries_are) all))

  one_try : (front behind : List Try) (t : Try) → tries_of f.transactions ≡ front ++ t ∷ behind → (body : Body) (birth : Birth) → list_all is_narrow body.actions ≡ true → length body.actions ≤ 2 ^ 25
      → IsTry splits body birth t → IsNamed (run_after before) w t → IsGood IsAskedRow t
  one_try front behind t is body birth narrow short tried named ends =
      let d = acknowledged_did_their_lines splits body birth t tried ends in
      let m = in_history front behind t d.asked is (subst (Among d.asked) (sym d.entries_are) (among_right d.asked d.before (d.asked ∷ d.told ∷ []) (inl refl))) in
      let whole = whole_acts splits before after h legal w most bodies f front behind t is named in
      let asks = d.asked_is in
      let some : acts_in t.tx t.entries ≡ [] → ⊥ = λ e. requested_did splits before h after d.asked t.tx asks.touched legal m asks.event (whole ∙ e) in
      let parts = entries_tell_their_answers splits body birth t tried ends in
      let order = parts_number splits 1 t.acts (acts_in t.tx t.entries) parts 0 0 [] (omega arith)
      (subst (λ as_. are_numbered 0 [] (numbered_acts as_) ≡ true) whole (asked_acts splits before h after d.asked t.tx asks.touched legal m asks.event asks.outcome)) in
      let few = lines_ask_little body.actions t.acts d.all in
      let fits = serials_fit front behind t is in
      let row : IsAsked (record { session = (t.tx).session; serial = (t.tx).serial; acts = t.acts }) =
      record {
        serial = lt-ltb (t.tx).serial (2 ^ 64) fits;
        some = some_acts t.acts (λ e. some (no_parts splits 1 t.acts (acts_in t.tx t.entries) parts e));
        few = omega arith;
        in_order = order;
        asked = lines_ask body.actions narrow at_start t.acts d.all;
      } in (
        acknowledged_op splits body birth t d some,
        λ r same did. subst (λ x. IsAsked (record { session = x.session; serial = x.serial; acts = r.ops })) (sym same)
            (subst (λ ds. IsAsked (record { session = (t.tx).session; serial = (t.tx).serial; acts = ds })) (sym did) row),
      )

  tries_good : (ts front behind : List Try) → tries_of f.transactions ≡ front ++ (ts ++ behind) → (body : Body) (birth : Birth) → list_all is_narrow body.actions ≡ true → length body.actions ≤ 2 ^ 25
      → AllByRecursion (IsTry splits body birth) ts → AllByRecursion (IsNamed (run_after before) w) ts → AllByRecursion (IsGood IsAskedRow) ts
  tries_good [] front behind is body birth narrow short tried named = tt
  tries_good (t ∷ ts) front behind is body birth narrow short tried named = (
    one_try front (ts ++ behind) t is body birth narrow short tried.0 named.0,
    tries_good ts (front ++ t ∷ []) behind (is ∙ sym (append_assoc front (t ∷ []) (ts ++ behind))) body birth narrow short tried.1 named.1,
  )

  transactions_good : (bs : List Body) (trs : List Transaction) (cause : Option StopCause) → AreTransactions splits (run_after before) w most bs trs cause → cause ≡ None → (front : List Try)
      → tries_of f.transactions ≡ front ++ tries_of trs → list_all is_narrow_body bs ≡ true → session_size bs ≤ 2 ^ 25 → AreGood IsAskedRow trs
  transactions_good _ _ _ all_done none front is narrow short = tt
  transactions_good _ _ _ (not_begun body bs at) none front is narrow short = absurd cc
  transactions_good _ _ _ (stopped tr bs cause that) none front is narrow short = absurd cc
  transactions_good _ _ _ (done tr bs trs cause that more) none front is narrow short =
      let both = and_parts (is_narrow_body tr.body) (list_all is_narrow_body bs) narrow in (
        tries_good tr.tries front (tries_of trs) is tr.body tr.birth both.0 (omega arith) that.each that.named,
        transactions_good bs trs cause more none (front ++ tr.tries) (is ∙ sym (append_assoc front tr.tries (tries_of trs))) both.1 (omega arith),
      )

  pub session_asked : list_all is_narrow_body bodies ≡ true → AreGood IsAskedRow f.transactions
  session_asked narrow = transactions_good bodies f.transactions None f.in_order refl [] refl narrow little
