-- An acknowledged transaction has its COMMIT at its home, or only read.
pub mod NonWritersStayGone
pub mod DueFinishesOnlyReaders
pub mod EntriesFinishOnlyReaders
pub mod FinishedOnlyRead
pub mod LooksAreAtHome
use Rattle.std.proofs.Common.{◌≡◌, ◌⊎◌, inl, inr, sym, ap, subst, ◌∙◌, ℕ, ◌<◌, true, false, Bool, List, [], ◌∷◌, ◌++◌, append-nil}
use Rattle.std.specs.Prelude.{⊤}
use Rattle.std.proofs.lemmas.Bool.{or_right}
use Rattle.clv_base.specs.Logs.{committed_in}
use Rattle.clv_base.specs.declared.names.TxId.{TxId}
use Rattle.clv_base.specs.declared.logs.LogRecord.{LogRecord}
use Rattle.clv_base.specs.declared.events.Event.{Event}
use Rattle.clv_base.specs.declared.events.Event.TheVariants.{Request as RequestEvent, Look}
use Rattle.clv_base.specs.declared.events.Outcome.{Outcome}
use Rattle.clv_base.specs.declared.events.Outcome.TheVariants.{Asked, Acknowledged}
use Rattle.clv_base.specs.declared.events.Entry.{Entry}
use Rattle.clv_base.specs.Shards.{shard_count}
use Rattle.clv_base.specs.LogRules.{log_of}
use Rattle.clv_base.specs.State.{Shard}
use Rattle.clv_base.specs.Restarts.{run_after}
use Rattle.clv_base.specs.Journals.{History, final_of}
use Rattle.clv_base.specs.History.{Legal, is_acknowledgement, acknowledged_in, logs_left}
use Rattle.protocol_laws.specs.SessionLaws.{tx_of}
use Rattle.history_cases.proofs.Stepping.{FindsWell, Step, looks_well, Happens, finishes, stops}
use Rattle.history_cases.proofs.Entering.{Makes, by_event, by_flush, by_failure, by_restart, makes}
use Rattle.history_cases.proofs.Merging.{Placed, Among, is_among, among_is}
use Rattle.history_laws.specs.Openings.{LegalFrom}
use Rattle.history_laws.proofs.NeverTakenBack.LaterHistoriesHoldMembers.{any_among}
use Rattle.history_laws.proofs.NeverTakenBack.{walker_of, one_request}
use Rattle.history_cases.proofs.Worlds.{state_at, in_a_shard}
use Rattle.fate_laws.specs.Decisions.{IsHome, is_left}
use Rattle.fate_laws.proofs.Homes.DecidedStaysDecided.{durable_left, is_member_by}
use Rattle.fate_laws.proofs.Homes.EntriesKeepHomes.{durable_front}
use Rattle.fate_laws.proofs.Homes.FrontsKeepHomes.{fated}
use Rattle.fate_laws.proofs.Parts.FrontsKeepParts.{bindings_front}
use Rattle.fate_laws.proofs.History.EntryByEntry.{Next, next_at, walk, Counts, counts_next, DurableIn, durable_later, one_home}
use Rattle.fate_laws.proofs.FallenAreUncommitted.{members_never_fell_at_home}
use Rattle.headline_laws.specs.Acknowledged.{OnlyRead, AcknowledgedStand, AcknowledgedAtHome, AcknowledgementsHaveRequests, AcknowledgedAreMembers, AcknowledgedNeverFellAtHome}
use Rattle.headline_laws.proofs.AcknowledgedStand.NonWritersStayGone.{quiet_absent}
use Rattle.headline_laws.proofs.AcknowledgedStand.LooksAreAtHome.{is_look, told_at_home}
use Rattle.headline_laws.proofs.AcknowledgedStand.FinishedOnlyRead.{Finishes, knows_front}

-- ---- what an acknowledgement finds

abbrev Finds : Shard → Event → Outcome → Type 0
Finds s (Look tx) Acknowledged = FindsWell s tx
Finds s _ _ = ⊤

finds_step : (s x : Shard) {e : Event} {o : Outcome} → Step s e o x → Finds s e o
finds_step s x (looks_well tx g) = g
finds_step s x _ = tt

finds_event : (s x : Shard) {e : Event} {o : Outcome} → Happens s e o x → Finds s e o
finds_event s _ (finishes {t = y} u h) = finds_step s y h
finds_event s _ (stops u) = tt

finds_made : (log : List LogRecord) (s x : Shard) {e : Event} {o : Outcome} → Makes log s e o x → Finds s e o
finds_made log s x (by_event g h) = finds_event s x h
finds_made log s _ (by_flush n u f) = tt
finds_made log s _ (by_failure n u f) = tt
finds_made log s _ (by_restart epoch kept u r) = tt

-- ---- the entry that tells it

among_split : (y : Placed) (h : History) → Among y h → (pre : History) × (post : History) × (pre ++ y ∷ post ≡ h)
among_split y [] i = elim i [ ]
among_split y (x ∷ xs) (inl e) = ([], xs, ap (λ z. z ∷ xs) (sym e))
among_split y (x ∷ xs) (inr i) = let k = among_split y xs i in (x ∷ k.0, k.1, ap (λ z. x ∷ z) k.2)

-- a durable COMMIT stays so
record Durably (splits : List ℕ) (before after : List (List LogRecord)) (n : ℕ) (t : TxId) (pre : History) : Type 0 where
  counts : Counts splits before after pre
  durable : DurableIn before after pre n t

durable_on : (splits : List ℕ) (before after : List (List LogRecord)) (h pre post : History) (n : ℕ) (t : TxId) → Legal splits before h after → pre ++ post ≡ h → Counts splits before after pre → DurableIn before after pre n t → DurableIn before after h n t
durable_on splits before after h pre post n t l q c d =
    (walk (Durably splits before after n t) splits before after h pre post l q (λ f e w p. record { counts = counts_next splits before after h f e w p.counts; durable = durable_later splits before after h f e w p.counts n t p.durable })
    (record { counts = c; durable = d })).durable

-- of this run, with a home where its COMMIT is durable, or where it was finished
record Where (splits : List ℕ) (before after : List (List LogRecord)) (h : History) (t : TxId) : Type 0 where
  run : t.run ≡ run_after before
  shard : ℕ
  inside : shard < shard_count splits
  home : IsHome h t shard
  found : DurableIn before after h shard t ⊎ Finishes splits before after h shard t

where_is : {splits : List ℕ} {before after : List (List LogRecord)} {h : History} → LegalFrom splits before h after → (t : TxId) → acknowledged_in h t ≡ true → Where splits before after h t
where_is {splits} {before} {after} {h} l t a =
    record { run = (walker_of splits before after h y t l.legal mine (ap tx_of look.0)).0; shard = y.0; inside = w.inside; home = told_at_home splits before h after y t l.legal mine any.2; found = found (subst (λ v. Finds s v Acknowledged) look.0 (subst (Finds s (y.1).event) look.1 told)) }
  where
    any : (x : Placed) × Among x h × (is_acknowledgement t (x.1).event (x.1).outcome ≡ true)
    any = any_among (λ e. is_acknowledgement t (e.1).event (e.1).outcome) h a

    y : Placed
    y = (any_among (λ e. is_acknowledgement t (e.1).event (e.1).outcome) h a).0

    mine : Among y h
    mine = any.1

    look : ((y.1).event ≡ Look t) × ((y.1).outcome ≡ Acknowledged)
    look = is_look t (y.1).event (y.1).outcome any.2

    parts : (pre : History) × (post : History) × (pre ++ y ∷ post ≡ h)
    parts = among_split y h mine

    pre : History
    pre = parts.0

    w : Next splits before after h pre y
    w = next_at splits before after h pre y parts.1 l.legal parts.2

    s : Shard
    s = state_at before after y.0 pre

    told : Finds s (y.1).event (y.1).outcome
    told = finds_made (log_of after y.0) s _ (makes (log_of after y.0) s (y.1).event (y.1).outcome ((w.split).enters).event)

    found : FindsWell s t → DurableIn before after h y.0 t ⊎ Finishes splits before after h y.0 t
    found (inl d) = inl (durable_on splits before after h pre (y ∷ parts.1) y.0 t l.legal parts.2 ((bindings_front l pre (y ∷ parts.1) parts.2).fated.counts) (durable_front s.local.log s.durable t d))
    found (inr (q, g, f)) = inr ((knows_front l h [] (append-nil h)).finished y.0 w.inside t (pre, y ∷ parts.1, parts.2, (q, g, f)))

-- ---- the laws

module _ {splits : List ℕ} {before after : List (List LogRecord)} {h : History} (l : LegalFrom splits before h after) (t : TxId)
    (k : Where splits before after h t) where
  only_read : (p : Finishes splits before after h k.shard t) → OnlyRead before h after k.shard p.touched t
  only_read p = record {
    unwritten = (p.quiet).unwritten;
    uncommitted = (p.quiet).uncommitted;
    absent = quiet_absent (final_of before h after k.shard).local t p.quiet;
    unfallen = p.unfallen;
    voted = λ m i. let v = p.read m i in ((v.0).0, (v.0).1, v.1, among_is (v.0).0 (v.0).1 h v.2, v.3);
  }

  stands : (choice : ℕ → Bool) (home : ℕ) (e : Entry) (touched : List (ℕ × ℕ)) → Among (home, e) h → e.event ≡ RequestEvent t touched → e.outcome ≡ Asked → DurableIn before after h k.shard t ⊎ Finishes splits before after h k.shard t
      → (is_left splits before h after choice home t ≡ true) ⊎ OnlyRead before h after home touched t
  stands choice home e touched a ev out (inl d) =
      let (b, us, i, x, y) = k.home in
      let same = one_home splits before after h t k.shard home b e us touched l.legal (is_among k.shard b h i) (x, y) a (ev, out) in
      inl (subst (λ m. is_left splits before h after choice m t ≡ true) same (durable_left splits before h after choice k.shard t k.inside (fated l) d))
  stands choice home e touched a ev out (inr p) =
      let r = p.taken in
      let same = one_request splits before after h (k.shard, r.0) (home, e) t p.touched touched l.legal r.1 a r.2 (ev, out) in
      let names = named (sym (r.2).0 ∙ ap (λ z. (z.1).event) same ∙ ev) in
      inr (subst (λ m. OnlyRead before h after m touched t) (ap (λ z. z.0) same) (subst (λ ts. OnlyRead before h after k.shard ts t) names (only_read p)))
    where
      named : {us vs : List (ℕ × ℕ)} → RequestEvent t us ≡ RequestEvent t vs → us ≡ vs
      named z = cc

pub acknowledged_stand : AcknowledgedStand
acknowledged_stand splits before h after choice home e touched t l i k a ev out =
    let z = where_is l t k in stands l t z choice home e touched (is_among home e h a) ev out z.found

pub acknowledged_at_home : AcknowledgedAtHome
acknowledged_at_home splits before h after n e t l i a = told_at_home splits before h after (n, e) t l (is_among n e h i) a

pub acknowledgements_have_requests : AcknowledgementsHaveRequests
acknowledgements_have_requests splits before h after t l k =
    let x = any_among (λ e. is_acknowledgement t (e.1).event (e.1).outcome) h k in ((x.0).0, told_at_home splits before h after x.0 t l x.1 x.2)

pub acknowledged_are_members : AcknowledgedAreMembers
acknowledged_are_members splits before h after choice t l k =
    let r = acknowledgements_have_requests splits before h after t l k in
    let b = r.1 in
    is_member_by (logs_left splits before h after choice) h (r.0, b.0) h t b.1 (is_among r.0 b.0 h b.2) (b.3, b.4) (or_right (committed_in (log_of (logs_left splits before h after choice) r.0) t) _ k)

pub acknowledged_never_fell_at_home : AcknowledgedNeverFellAtHome
acknowledged_never_fell_at_home splits before h after home t l k m f = at (acknowledged_stand splits before h after (λ n. false) home m.0 m.1 t l i k m.2 m.3 m.4)
  where
    i : home < shard_count splits
    i = in_a_shard splits before after h (home, m.0) l.legal (is_among home m.0 h m.2)

    at : (is_left splits before h after (λ n. false) home t ≡ true) ⊎ OnlyRead before h after home m.1 t → ⊥
    at (inl left) = members_never_fell_at_home splits before h after (λ n. false) home home t l i i (where_is l t k).run left m f
    at (inr r) = r.unfallen f
