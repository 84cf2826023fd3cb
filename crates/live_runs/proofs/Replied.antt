-- What replies tell, in the history.
use Rattle.std.proofs.Common.{◌≡◌, ◌⊎◌, inl, inr, refl, sym, ap, ◌∙◌, subst, ℕ, suc, ◌≤◌, Bool, true, false, cond, ◌==◌, ◌||◌, List, [], ◌∷◌, Option, Some, None}
use Rattle.std.specs.List.{list_any, list_all}
use Rattle.std.proofs.lemmas.Bool.{both_ways, or_cases, and_parts, eqb-true}
use Rattle.clv_base.specs.declared.names.TxId.{TxId}
use Rattle.clv_base.specs.declared.events.Event.{Event}
use Rattle.clv_base.specs.declared.events.Event.TheVariants.{Op, RollTo, Request, Look, Drop}
use Rattle.clv_base.specs.declared.events.Outcome.{Outcome}
use Rattle.clv_base.specs.declared.events.Outcome.TheVariants.{Acknowledged}
use Rattle.clv_base.specs.declared.events.Entry.{Entry}
use Rattle.clv_base.specs.Restarts.{run_after}
use Rattle.clv_base.specs.Orders.{tx_same}
use Rattle.clv_base.specs.Journals.{History, own}
use Rattle.clv_base.specs.Sessions.{is_session, is_of_session}
use Rattle.clv_base.specs.History.{acknowledged_in, is_acknowledgement}
use Rattle.clv_base.proofs.SameNames.{tx_true, or_left, or_right}
use Rattle.protocol_laws.specs.SessionLaws.{tx_of, SerialsRise, SessionsKeepOrder}
use Rattle.script_runs.specs.Sessions.{session_entries}
use Rattle.cluster_runs.specs.Histories.{entries}
use Rattle.live_sessions.specs.Replies.{TellCommits, TellAnswers}
use Rattle.live_sessions.proofs.Laws.{replies_tell_entries, replies_are_true}
use Rattle.live_threads.specs.Lives.{Life}
use Rattle.live_runs.specs.Lived.{Lived, CommittedAreAcknowledged, AnswersAreEntries, RepliesAreInHistory}

-- ---- some of a list

any_kept : {X : Type 0} (p : X → Bool) (x : X) (b : Bool) (ys xs : List X) → list_any p (cond b (x ∷ ys) ys) ≡ true → (list_any p ys ≡ true → list_any p xs ≡ true) → list_any p (x ∷ xs) ≡ true
any_kept p x true ys xs h f = of (or_cases (p x) (list_any p ys) h)
  where
    of : (p x ≡ true) ⊎ (list_any p ys ≡ true) → (p x || list_any p xs) ≡ true
    of (inl e) = or_left (p x) (list_any p xs) e
    of (inr e) = or_right (p x) (list_any p xs) (f e)
any_kept p x false ys xs h f = or_right (p x) (list_any p xs) (f h)

of_sessions : (p : ℕ × Entry → Bool) (es : History) → list_any p (session_entries es) ≡ true → list_any p es ≡ true
of_sessions p [] h = h
of_sessions p (e ∷ es) h = any_kept p e (is_of_session (e.1).event) (session_entries es) es h (of_sessions p es)

of_own : (w : ℕ) (p : ℕ × Entry → Bool) (h : History) → list_any p (own w h) ≡ true → list_any p h ≡ true
of_own w p [] a = a
of_own w p (e ∷ es) a = any_kept p e ((e.1).walker == w) (own w es) es a (of_own w p es)

-- what holds of each entry's walker holds of one that has an entry
own_some : (p : ℕ → Bool) (w : ℕ) (es : History) → list_all (λ e. p (e.1).walker) es ≡ true → (own w es ≡ [] → ⊥) → p w ≡ true
own_some p w [] all some = absurd (some refl)
own_some p w (e ∷ es) all some = at ((e.1).walker == w) refl (λ none. own_some p w es (and_parts (p (e.1).walker) (list_all (λ x. p (x.1).walker) es) all).1 none)
  where
    at : (b : Bool) → ((e.1).walker == w) ≡ b → ((own w es ≡ [] → ⊥) → p w ≡ true) → p w ≡ true
    at true is rest = subst (λ v. p v ≡ true) (eqb-true (e.1).walker w is) (and_parts (p (e.1).walker) (list_all (λ x. p (x.1).walker) es) all).0
    at false is rest = rest (λ none. some (ap (λ b. cond b (e ∷ own w es) (own w es)) is ∙ none))

-- ---- whose transactions they acknowledge

Named : ℕ → ℕ → TxId → Type 0
Named run walker t = (t.run ≡ run) × (t.session ≡ walker)

abbrev RisesAt : ℕ → ℕ → ℕ → History → Option TxId → Type 0
RisesAt run walker lo es o = elim o [ Some tx ↦ (tx.run ≡ run) × (tx.session ≡ walker) × (lo ≤ tx.serial) × SerialsRise run walker tx.serial es | None ↦ SerialsRise run walker lo es ]

named_step :
    (run walker lo : ℕ) (es : History) (t : TxId) → ((low : ℕ) → SerialsRise run walker low es → acknowledged_in es t ≡ true → Named run walker t)
    → (v : Event) (o : Outcome) → RisesAt run walker lo es (tx_of v)
    → (is_acknowledgement t v o || acknowledged_in es t) ≡ true → Named run walker t
unfolding Named
named_step run walker lo es t rec (Op tx birth nth seen op) o r h = rec tx.serial r.3 h
named_step run walker lo es t rec (RollTo tx nth seen upto) o r h = rec tx.serial r.3 h
named_step run walker lo es t rec (Request tx touched) o r h = rec tx.serial r.3 h
named_step run walker lo es t rec (Drop tx) o r h = rec tx.serial r.3 h
named_step run walker lo es t rec (Look tx) Acknowledged r h = of (or_cases (tx_same t tx) (acknowledged_in es t) h)
  where
    of : (tx_same t tx ≡ true) ⊎ (acknowledged_in es t ≡ true) → (t.run ≡ run) × (t.session ≡ walker)
    of (inl same) = (ap (λ (x : TxId). x.run) (tx_true t tx same) ∙ r.0, ap (λ (x : TxId). x.session) (tx_true t tx same) ∙ r.1)
    of (inr later) = rec tx.serial r.3 later
named_step run walker lo es t rec (Look tx) _ r h = rec tx.serial r.3 h
named_step run walker lo es t rec _ o r h = rec lo r h

named : (run walker lo : ℕ) (es : History) (t : TxId) → SerialsRise run walker lo es → acknowledged_in es t ≡ true → Named run walker t
named run walker lo [] t r h = absurd (both_ways false refl h)
named run walker lo (e ∷ es) t r h = named_step run walker lo es t (λ low s a. named run walker low es t s a) (e.1).event (e.1).outcome r h

same_name : (run walker serial : ℕ) (t : TxId) → Named run walker t → t.serial ≡ serial → ◌≡◌ {A = TxId} t (record { run = run; session = walker; serial = serial })
unfolding Named
same_name run walker serial t (r, s) is = named_so t.run t.session t.serial r s is
  where
    named_so : (a b c : ℕ) → a ≡ run → b ≡ walker → c ≡ serial → ◌≡◌ {A = TxId} (record { run = a; session = b; serial = c }) (record { run = run; session = walker; serial = serial })
    named_so a b c e f g = cc

-- ---- a session's replies

replied :
    (splits : List ℕ) (run walker : ℕ) (life : Life) (es : History) → Lived splits run walker life es
    → TellCommits life.replies es × TellAnswers splits life.replies es
replied splits run walker life es l =
    let tells = replies_tell_entries life.asked life.replies (l.first) (l.lived).last l.closed (l.lived).course (l.lived).over (l.lived).served (l.lived).closes in
    let are = replies_are_true life.asked life.replies l.first l.closed tells (l.new).entries_are in (
      subst (TellCommits life.replies) l.entries_are are.0,
      subst (λ s. TellAnswers s life.replies es) (l.new).splits_are (subst (TellAnswers (l.first).splits life.replies) l.entries_are are.2),
    )

pub replies_are_in_history : SessionsKeepOrder → RepliesAreInHistory
replies_are_in_history order splits before now counts counts_now sessions lives kept p = (committed, answers)
  where
    h : History
    h = entries kept

    run : ℕ
    run = run_after kept.found

    committed : CommittedAreAcknowledged run sessions lives kept
    committed k serial low said =
        let f = (replied splits run (suc k) (lives (suc k)) (session_entries (own (suc k) h)) (p.each k low)).0 serial said in
        let t = f.0 in
        let mine : acknowledged_in (own (suc k) h) t ≡ true = of_sessions (λ e. is_acknowledgement t (e.1).event (e.1).outcome) (own (suc k) h) f.2 in
        let some : own (suc k) h ≡ [] → ⊥ = (λ none. both_ways false refl (sym (ap (λ l. acknowledged_in l t) none) ∙ mine)) in
        let session = own_some (λ w. is_session splits run w (own w h)) (suc k) h ((p.keeps).legal).legal.sessions some in
        let name = named run (suc k) 0 (own (suc k) h) t (order splits run (suc k) (own (suc k) h) session).0 mine in
        subst (λ x. acknowledged_in h x ≡ true) (same_name run (suc k) serial t name f.1) (of_own (suc k) (λ e. is_acknowledgement t (e.1).event (e.1).outcome) h mine)

    answers : AnswersAreEntries splits sessions lives kept
    answers k op answer low said = (replied splits run (suc k) (lives (suc k)) (session_entries (own (suc k) h)) (p.each k low)).1 op answer said
