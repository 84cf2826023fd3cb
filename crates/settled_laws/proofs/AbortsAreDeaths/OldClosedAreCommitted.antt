-- How a shard that began settled goes on: before its first entry of a session it has parts of earlier runs alone, and from then on each closed
-- part of an earlier run is committed.
use Rattle.std.proofs.Common.{◌≡◌, ◌⊎◌, inl, inr, ⊎_elim, refl, sym, ap, subst, ◌∙◌, ℕ, ◌<◌, true, false, cond, not, Bool, List, [], ◌∷◌, ◌++◌, Some, None, ◌==◌, ◌&&◌, arith, eqb-true, append_assoc}
use Rattle.std.specs.List.{list_all}
use Rattle.std.proofs.lemmas.Bool.{both_ways, and_parts}
use Rattle.clv_base.specs.declared.names.TxId.{TxId}
use Rattle.clv_base.specs.declared.names.Birth.{Birth}
use Rattle.clv_base.specs.declared.logs.LogRecord.{LogRecord}
use Rattle.clv_base.specs.declared.state.Stage.{Stage}
use Rattle.clv_base.specs.declared.state.Stage.TheVariants.{Active, Closed}
use Rattle.clv_base.specs.declared.events.Event.{Event}
use Rattle.clv_base.specs.declared.events.Event.TheVariants.{Op as OpEvent, FlushIn, Restart}
use Rattle.clv_base.specs.declared.events.Outcome.{Outcome}
use Rattle.clv_base.specs.declared.events.Entry.{Entry}
use Rattle.clv_base.specs.Orders.{tx_in}
use Rattle.clv_base.specs.Shards.{shard_count}
use Rattle.clv_base.specs.Logs.{committed_in, prepared_in, in_doubt}
use Rattle.clv_base.specs.LogRules.{log_of, disorder}
use Rattle.clv_base.specs.State.{Shard}
use Rattle.clv_base.specs.Undo.{stage_of}
use Rattle.clv_base.specs.Events.{finish, with_durable, with_entry}
use Rattle.clv_base.specs.Restarts.{run_after, log_after_restart}
use Rattle.clv_base.specs.Sessions.{is_of_session}
use Rattle.clv_base.specs.Journals.{History, journal_of, start_of, event_state, reply_state, after_entry, after_entries}
use Rattle.clv_base.specs.Machines.{BecomesBy, Runs}
use Rattle.law_base.proofs.Changed.{none_some}
use Rattle.protocol_laws.specs.Growth.{is_restart}
use Rattle.protocol_laws.specs.SessionLaws.{tx_of}
use Rattle.protocol_laws.proofs.LogOnlyGrows.{entries_keep_logs}
use Rattle.history_cases.proofs.Entering.{Makes, by_event, by_flush, by_failure, by_restart, makes}
use Rattle.history_cases.proofs.Merging.{Placed, Among, among_left, among_right, in_journal, is_among}
use Rattle.history_cases.proofs.Stepping.{settled, finishes, stops}
use Rattle.history_cases.proofs.Worlds.{state_at, journal_append, other_journal, in_a_shard}
use Rattle.history_laws.specs.Openings.{LegalFrom}
use Rattle.history_laws.proofs.Logs.DoubtedAreUndecided.{doubt_prepared}
use Rattle.history_laws.proofs.NeverTakenBack.LaterHistoriesHoldMembers.{committed_front}
use Rattle.history_laws.proofs.NeverTakenBack.{walker_of}
use Rattle.shard_laws.proofs.Restarts.RestoredLocksAndParts.{restored_none}
use Rattle.fate_laws.specs.Origins.{answered_as, WasEverAnswered}
use Rattle.fate_laws.proofs.Parts.OthersCloseOrGo.{due_closed}
use Rattle.fate_laws.proofs.Logs.WhatPreparesOrCommits.{Closes, by_request, by_prepare, step_closed}
use Rattle.fate_laws.proofs.Origins.AllComesOfEntries.{all_comes_of_entries}
use Rattle.fate_laws.proofs.Origins.FrontsKeepOrigins.{Did, IsOld, traced_front}
use Rattle.fate_laws.proofs.FallenAreUncommitted.FrontsKeepOutUncommitted.{walk_on}
use Rattle.fate_laws.specs.Leading.{deeds_before, with_found}
use Rattle.fate_laws.proofs.EachShardLeads.{each_shard_leads}
use Rattle.shard_laws.proofs.OrderIsKept.{order_is_kept, part_is_old}
use Rattle.shard_laws.specs.OneShard.{Leads}
use Rattle.shard_laws.proofs.Order.WritesLieOnListed.{prepared_wrote}
use Rattle.fate_laws.proofs.FallenAreUncommitted.NoPartWithoutOperation.{DoesNow, none_made}
use Rattle.fate_laws.proofs.Origins.DueKeepsOrigins.{BirthFrom, part_of}
use Rattle.fate_laws.proofs.History.EntryByEntry.{Next, next_at, stays_as_it_was}
use Rattle.settled_laws.specs.Deaths.{BeginsSettled}
use Rattle.settled_laws.proofs.AbortsAreDeaths.WhatEntriesOwe.{Begins}

-- ---- what all entries of a list are

each_is : (test : Entry → Bool) (es : List Entry) (x : Entry) → list_all (λ e. not (test e)) es ≡ true → Among x es → test x ≡ true → ⊥
each_is test [] x a i t = elim i [ ]
each_is test (e ∷ es) x a (inl q) t = by (test e) refl (and_parts (not (test e)) (list_all (λ e. not (test e)) es) a).0
  where
    by : (b : Bool) → test e ≡ b → not b ≡ true → ⊥
    by true k n = both_ways false refl n
    by false k n = both_ways (test x) (subst (λ z. test z ≡ false) q k) t
each_is test (e ∷ es) x a (inr i) t = each_is test es x (and_parts (not (test e)) (list_all (λ e. not (test e)) es) a).1 i t

-- one list before another, or the other before it
same_head : {A : Type 0} (x y : A) (xs ys : List A) → x ∷ xs ≡ y ∷ ys → (x ≡ y) × (xs ≡ ys)
same_head x y xs ys e = (cc, cc)

empty_both : {A : Type 0} (xs ys : List A) → [] ≡ xs ++ ys → xs ≡ []
empty_both [] ys e = refl
empty_both (x ∷ xs) ys e = absurd cc

front_or_past : {A : Type 0} (xs ys zs ws : List A) → xs ++ ys ≡ zs ++ ws → ((m : List A) × (zs ≡ xs ++ m)) ⊎ ((m : List A) × (xs ≡ zs ++ m))
front_or_past [] ys zs ws e = inl (zs, refl)
front_or_past (x ∷ xs) ys [] ws e = inr (x ∷ xs, refl)
front_or_past (x ∷ xs) ys (z ∷ zs) ws e =
    let h = same_head x z (xs ++ ys) (zs ++ ws) e in
    ⊎_elim (λ k. inl (k.0, ap (λ y. z ∷ y) k.1 ∙ ap (λ y. y ∷ (xs ++ k.0)) (sym h.0))) (λ k. inr (k.0, ap (λ y. x ∷ y) k.1 ∙ ap (λ y. y ∷ (zs ++ k.0)) h.0)) (front_or_past xs ys zs ws h.1)

-- with one entry more it is the other one, or was past it before
past_by_one : {A : Type 0} (xs : List A) (e : A) (zs ws : List A) → xs ++ e ∷ [] ≡ zs ++ ws → ((m : List A) × (xs ≡ zs ++ m)) ⊎ (xs ++ e ∷ [] ≡ zs)
past_by_one xs e [] ws q = inl (xs, refl)
past_by_one [] e (z ∷ zs) ws q = let h = same_head e z [] (zs ++ ws) q in inr (ap (λ y. y ∷ []) h.0 ∙ ap (λ y. z ∷ y) (sym (empty_both zs ws h.1)))
past_by_one (x ∷ xs) e (z ∷ zs) ws q =
    let h = same_head x z (xs ++ e ∷ []) (zs ++ ws) q in
    ⊎_elim (λ k. inl (k.0, ap (λ y. x ∷ y) k.1 ∙ ap (λ y. y ∷ (zs ++ k.0)) h.0)) (λ k. inr (ap (λ y. x ∷ y) k ∙ ap (λ y. y ∷ zs) h.0)) (past_by_one xs e zs ws h.1)

-- an entry of the shard's own stands at the end of its journal
own_entry : (n : ℕ) (e : Placed) (pre : History) → (e.0 == n) ≡ true → journal_of n (pre ++ e ∷ []) ≡ journal_of n pre ++ e.1 ∷ []
own_entry n e pre d = journal_append n pre (e ∷ []) ∙ ap (λ z. journal_of n pre ++ z) (at (e.0 == n) d)
  where
    at : (b : Bool) → b ≡ true → cond b (e.1 ∷ []) [] ≡ e.1 ∷ []
    at true q = refl
    at false q = absurd (both_ways false refl q)

-- ---- where a run without restarts leads

becomes : (log : List LogRecord) (s t : Shard) (e : Event) (o : Outcome) → is_restart e ≡ false → BecomesBy s e o t → event_state log s e o ≡ t
becomes log s t FlushIn o n b = sym b.2
becomes log s t Restart o n b = absurd (both_ways true n refl)
becomes log s t (OpEvent tx birth nth seen op) o n b = ap (reply_state s) b.1
becomes log s t e o n b = ap (reply_state s) b

not_true : (b : Bool) → not b ≡ true → b ≡ false
not_true true e = absurd (both_ways false refl e)
not_true false e = refl

leads : (log : List LogRecord) (s t : Shard) (es : List Entry) → Runs s es t → list_all (λ e. not (is_restart e.event)) es ≡ true → after_entries log s es ≡ t
leads log s t [] r n = r
leads log s t (e ∷ es) (u, m, r) n =
    let k = and_parts (not (is_restart e.event)) (list_all (λ e. not (is_restart e.event)) es) n in
    let q : after_entry log s e ≡ u = ap (with_entry e.stamp e.walker e.event e.outcome) (becomes log s m.state e.event e.outcome (not_true (is_restart e.event) k.0) m.becomes) ∙ sym m.entered in
    ap (λ z. after_entries log z es) q ∙ leads log u t es r k.1

front_all : (test : Entry → Bool) (xs ys : List Entry) → list_all test (xs ++ ys) ≡ true → list_all test xs ≡ true
front_all test [] ys a = refl
front_all test (x ∷ xs) ys a = both (test x) (list_all test xs) k.0 (front_all test xs ys k.1)
  where
    k : (test x ≡ true) × (list_all test (xs ++ ys) ≡ true)
    k = and_parts (test x) (list_all test (xs ++ ys)) a

    both : (a b : Bool) → a ≡ true → b ≡ true → (a && b) ≡ true
    both true true p q = refl
    both true false p q = q
    both false b p q = p

-- ---- who is closed after an entry

finish_closed : (s : Shard) (t : TxId) → stage_of (finish s).local t ≡ Some Closed → stage_of s.local t ≡ Some Closed
finish_closed s t = settled (λ z. stage_of z.local t ≡ Some Closed → stage_of s.local t ≡ Some Closed) s (λ y z d k e. k (due_closed y z t d e)) (λ e. e)

was_active : (s : Shard) (t : TxId) {e : Event} {o : Outcome} → Closes s t e o → stage_of s.local t ≡ Some Active
was_active s t (by_request ts a) = a
was_active s t (by_prepare home seen stamp a) = a

closed_made : (log : List LogRecord) (s x : Shard) {e : Event} {o : Outcome} (t : TxId) → Makes log s e o x → (e ≡ Restart → ⊥) → stage_of x.local t ≡ Some Closed → (stage_of s.local t ≡ Some Closed) ⊎ (stage_of s.local t ≡ Some Active)
closed_made log s _ t (by_event g (finishes {t = y} u f)) k c = ⊎_elim (λ z. inl z) (λ z. inr (was_active s t z)) (step_closed s y t f (finish_closed y t c))
closed_made log s _ t (by_event g (stops u)) k c = inl c
closed_made log s _ t (by_flush n u f) k c = inl (finish_closed (with_durable n s) t c)
closed_made log s _ t (by_failure n u f) k c = inl c
closed_made log s _ t (by_restart epoch kept u r) k c = absurd (k refl)

no_restart : (e : Event) → (e ≡ Restart → ⊥) → is_restart e ≡ false
no_restart Restart k = absurd (k refl)
no_restart _ k = refl

-- ---- along the history

-- the shard's entries so far are of no session
abbrev NoSession : History → ℕ → Type 0
NoSession pre n = (x : Entry) → Among (n, x) pre → is_of_session x.event ≡ true → ⊥

module _ {splits : List ℕ} {before after : List (List LogRecord)} {h : History} (l : LegalFrom splits before h after) (b : (n : ℕ) → n < shard_count splits → BeginsSettled before h n) where
  pub calm : (x : Placed) → Among x h → (x.1).event ≡ Restart → ⊥
  calm x i q = each_is (λ e. is_restart e.event) (journal_of x.0 h) x.1 (b x.0 (in_a_shard splits before after h x l.legal i)).goes_on (in_journal x h i) (ap is_restart q)

  -- parts of this run come of entries of sessions
  wrote_old : (pre post : History) → pre ++ post ≡ h → (n : ℕ) → n < shard_count splits → NoSession pre n → (t : TxId) → prepared_in (state_at before after n pre).local.log t ≡ true → IsOld (run_after before) t
  wrote_old pre post q n i k t p =
      ⊎_elim (λ w. by ((all_comes_of_entries splits before h after pre post n l q i).wrote t w)) (λ c. part_is_old n (run_after before) (log_of before n) (with_found n (log_of before n) (deeds_before before pre after n)) (state_at before after n pre) leads t c)
      (prepared_wrote n log follows t p)
    where
      log : List LogRecord
      log = (state_at before after n pre).local.log

      leads : Leads n (run_after before) (log_of before n) (with_found n (log_of before n) (deeds_before before pre after n)) (state_at before after n pre)
      leads = each_shard_leads splits before h after pre post n l q i

      follows : disorder n (state_at before after n pre).local.log ≡ None
      follows = order_is_kept n (run_after before) (log_of before n) (with_found n (log_of before n) (deeds_before before pre after n)) (state_at before after n pre) leads

      answers : (ev : Event) (o : Outcome) (birth : Birth) (ep : ℕ) → answered_as t ev o ≡ Some (birth, ep) → is_of_session ev ≡ true
      answers (OpEvent tx birth nth seen op) o x ep e = refl
      answers _ o x ep e = absurd (none_some _ e)

      by : WasEverAnswered pre n t ⊎ IsOld (run_after before) t → IsOld (run_after before) t
      by (inl (birth, ep, (y, j, e))) = absurd (k y (is_among n y pre j) (answers y.event y.outcome birth ep e))
      by (inr o) = o

  OldParts : History → Type 0
  OldParts pre = (n : ℕ) → n < shard_count splits → NoSession pre n → (t : TxId) → IsOld (run_after before) t ⊎ (stage_of (state_at before after n pre).local t ≡ None)

  old_next : (pre : History) (e : Placed) (post : History) → pre ++ e ∷ post ≡ h → OldParts pre → OldParts (pre ++ e ∷ [])
  unfolding OldParts
  old_next pre e post q k n i z t = at (e.0 == n) refl
    where
      later : (pre ++ e ∷ []) ++ post ≡ h
      later = append_assoc pre (e ∷ []) post ∙ q

      was : IsOld (run_after before) t ⊎ (stage_of (state_at before after n pre).local t ≡ None)
      was = k n i (λ x j. z x (among_left (n, x) pre (e ∷ []) j)) t

      w : Next splits before after h pre e
      w = next_at splits before after h pre e post l.legal q

      s : Shard
      s = state_at before after e.0 pre

      does : e.0 ≡ n → DoesNow t (e.1).event (e.1).outcome → ⊥
      does m (birth, nth, seen, op, a, ep, x, y) = z e.1 (subst (λ v. Among (v, e.1) (pre ++ e ∷ [])) m (among_right e pre (e ∷ []) (inl refl))) (ap is_of_session x)

      made : e.0 ≡ n → stage_of (state_at before after e.0 pre).local t ≡ None → IsOld (run_after before) t ⊎ (stage_of (state_at before after e.0 (pre ++ e ∷ [])).local t ≡ None)
      made m c =
          ⊎_elim (λ x. inr x)
          (⊎_elim (λ x. inl (wrote_old (pre ++ e ∷ []) post later n i z t (subst (λ v. prepared_in (state_at before after v (pre ++ e ∷ [])).local.log t ≡ true) m x))) (λ x. absurd (does m x)))
          (subst (λ (v : Shard). (stage_of v.local t ≡ None) ⊎ ((prepared_in v.local.log t ≡ true) ⊎ DoesNow t (e.1).event (e.1).outcome)) (sym (w.split).next)
          (none_made (log_of after e.0) s (event_state (log_of after e.0) s (e.1).event (e.1).outcome) t (makes (log_of after e.0) s (e.1).event (e.1).outcome ((w.split).enters).event) c))

      at : (c : Bool) → (e.0 == n) ≡ c → IsOld (run_after before) t ⊎ (stage_of (state_at before after n (pre ++ e ∷ [])).local t ≡ None)
      at true d =
          let m = eqb-true e.0 n d in
          ⊎_elim (λ o. inl o) (λ x. subst (λ v. IsOld (run_after before) t ⊎ (stage_of (state_at before after v (pre ++ e ∷ [])).local t ≡ None)) m (made m (subst (λ v. stage_of (state_at before after v pre).local t ≡ None) (sym m) x))) was
      at false d = subst (λ (v : Shard). IsOld (run_after before) t ⊎ (stage_of v.local t ≡ None)) (sym (stays_as_it_was before after n e pre d)) was

  old_start : OldParts []
  unfolding OldParts
  old_start n i z t = at (tx_in t (in_doubt n (log_after_restart n (log_of before n) (run_after before) 0))) refl
    where
      at : (c : Bool) → tx_in t (in_doubt n (log_after_restart n (log_of before n) (run_after before) 0)) ≡ c → IsOld (run_after before) t ⊎ (stage_of (state_at before after n []).local t ≡ None)
      at true j = inl (wrote_old [] h refl n i z t (doubt_prepared n (log_after_restart n (log_of before n) (run_after before) 0) t j))
      at false j = inr (restored_none (in_doubt n (log_after_restart n (log_of before n) (run_after before) 0)) t j)

  old_parts : (pre post : History) → pre ++ post ≡ h → OldParts pre
  old_parts pre post q = walk_on OldParts h [] pre post q old_next old_start

  -- past what was settled, closed parts of earlier runs are committed
  Past : History → Type 0
  Past pre = (n : ℕ) (i : n < shard_count splits) (m : List Entry) → journal_of n pre ≡ (b n i).front ++ m → (t : TxId) → stage_of (state_at before after n pre).local t ≡ Some Closed → IsOld (run_after before) t
      → committed_in (state_at before after n pre).local.log t ≡ true

  at_front : (n : ℕ) (i : n < shard_count splits) (pre : History) → journal_of n pre ≡ (b n i).front → state_at before after n pre ≡ (b n i).state
  at_front n i pre q =
      let k = b n i in
      ap (after_entries (log_of after n) (start_of before n)) q
      ∙ leads (log_of after n) (start_of before n) k.state k.front k.runs (front_all (λ e. not (is_restart e.event)) k.front k.behind (subst (λ z. list_all (λ e. not (is_restart e.event)) z ≡ true) k.journal_is k.goes_on))

  decided_at : (n : ℕ) (i : n < shard_count splits) (pre : History) → journal_of n pre ≡ (b n i).front → (t : TxId) → stage_of (state_at before after n pre).local t ≡ Some Closed → committed_in (state_at before after n pre).local.log t ≡ true
  decided_at n i pre q t c = subst (λ (v : Shard). committed_in v.local.log t ≡ true) (sym (at_front n i pre q)) ((b n i).decided t (subst (λ (v : Shard). stage_of v.local t ≡ Some Closed) (at_front n i pre q) c))

  Keeps : History → Placed → TxId → (n : ℕ) → n < shard_count splits → Type 0
  Keeps pre e t n i = (m : List Entry) → journal_of n pre ≡ (b n i).front ++ m → stage_of (state_at before after n (pre ++ e ∷ [])).local t ≡ Some Closed → committed_in (state_at before after n (pre ++ e ∷ [])).local.log t ≡ true

  past_next : (pre : History) (e : Placed) (post : History) → pre ++ e ∷ post ≡ h → Past pre → Past (pre ++ e ∷ [])
  unfolding Past Keeps
  past_next pre e post q k n i m j t c o = at (e.0 == n) refl
    where
      w : Next splits before after h pre e
      w = next_at splits before after h pre e post l.legal q

      -- who is active is of this run
      of_this : (r : Bool) (x : Birth) → r ≡ false → BirthFrom (Did pre e.0 (state_at before after e.0 pre).local.epoch) r t x → ⊥
      of_this true x f y = both_ways true f refl
      of_this false x f (y, u, v, a) = let z = (walker_of splits before after h y t l.legal ((w.earlier y u).0) (ap tx_of (a.at).is)).0 in omega (arith, o, z)

      no_active : stage_of (state_at before after e.0 pre).local t ≡ Some Active → ⊥
      no_active a =
          let p = part_of e.0 (state_at before after e.0 pre).local.epoch _ _ _ _ _ (state_at before after e.0 pre) t Active ((traced_front l pre (e ∷ post) q).states e.0 (w.inside)).origins a in of_this p.0 p.1 p.3 p.2

      keeps : (i : e.0 < shard_count splits) → Keeps pre e t e.0 i
      keeps i mm r d =
          let s = state_at before after e.0 pre in
          let x = subst (λ (v : Shard). stage_of v.local t ≡ Some Closed) (w.split).next d in
          let y = closed_made (log_of after e.0) s (event_state (log_of after e.0) s (e.1).event (e.1).outcome) t (makes (log_of after e.0) s (e.1).event (e.1).outcome ((w.split).enters).event) (calm e w.among) x in
          let was = ⊎_elim (λ z. k e.0 i mm r t z o) (λ z. absurd (no_active z)) y in
          subst (λ (v : Shard). committed_in v.local.log t ≡ true) (sym (w.split).next)
          (committed_front s.local.log (after_entry (log_of after e.0) s e.1).local.log t (entries_keep_logs (log_of after e.0) s e.1 (no_restart (e.1).event (calm e w.among))) was)

      keeps_here : e.0 ≡ n → Keeps pre e t n i
      keeps_here g = subst (λ v. (x : v < shard_count splits) → Keeps pre e t v x) g keeps i

      by_journal : (e.0 == n) ≡ true → ((mm : List Entry) × (journal_of n pre ≡ (b n i).front ++ mm)) ⊎ (journal_of n pre ++ e.1 ∷ [] ≡ (b n i).front) → committed_in (state_at before after n (pre ++ e ∷ [])).local.log t ≡ true
      by_journal d (inl (mm, r)) = keeps_here (eqb-true e.0 n d) mm r c
      by_journal d (inr r) = decided_at n i (pre ++ e ∷ []) (own_entry n e pre d ∙ r) t c

      at : (a : Bool) → (e.0 == n) ≡ a → committed_in (state_at before after n (pre ++ e ∷ [])).local.log t ≡ true
      at true d = by_journal d (past_by_one (journal_of n pre) e.1 (b n i).front m (sym (own_entry n e pre d) ∙ j))
      at false d =
          subst (λ (v : Shard). committed_in v.local.log t ≡ true) (sym (stays_as_it_was before after n e pre d))
          (k n i m (sym (other_journal n e pre d) ∙ j) t (subst (λ (v : Shard). stage_of v.local t ≡ Some Closed) (stays_as_it_was before after n e pre d) c) o)

  past_start : Past []
  unfolding Past
  past_start n i m j t c o = decided_at n i [] (sym (empty_both (b n i).front m j)) t c

  past : (pre post : History) → pre ++ post ≡ h → Past pre
  past pre post q = walk_on Past h [] pre post q past_next past_start

  pub begins : (pre : History) (e : Placed) (post : History) → pre ++ e ∷ post ≡ h → Begins (run_after before) (state_at before after e.0 pre)
  unfolding OldParts Past
  begins pre e post q = by (front_or_past (journal_of e.0 pre) (journal_of e.0 (e ∷ post)) (k.front) (k.behind) (sym (journal_append e.0 pre (e ∷ post)) ∙ ap (journal_of e.0) q ∙ k.journal_is))
    where
      i : e.0 < shard_count splits
      i = (next_at splits before after h pre e post l.legal q).inside

      k : BeginsSettled before h e.0
      k = b e.0 ((next_at splits before after h pre e post l.legal q).inside)

      none_yet : (m : List Entry) → (b e.0 ((next_at splits before after h pre e post l.legal q).inside)).front ≡ journal_of e.0 pre ++ m → NoSession pre e.0
      none_yet m r x j s = each_is (λ y. is_of_session y.event) k.front x k.no_session (subst (Among x) (sym r) (among_left x (journal_of e.0 pre) m (in_journal (e.0, x) pre j))) s

      old : (t : TxId) (st : Stage) → IsOld (run_after before) t ⊎ (stage_of (state_at before after e.0 pre).local t ≡ None) → stage_of (state_at before after e.0 pre).local t ≡ Some st → IsOld (run_after before) t
      old t st (inl o) c = o
      old t st (inr z) c = absurd (none_some st (sym z ∙ c))

      by : ((m : List Entry) × ((b e.0 ((next_at splits before after h pre e post l.legal q).inside)).front ≡ journal_of e.0 pre ++ m)) ⊎ ((m : List Entry) × (journal_of e.0 pre ≡ (b e.0 ((next_at splits before after h pre e post l.legal q).inside)).front ++ m))
          → Begins (run_after before) (state_at before after e.0 pre)
      by (inl (m, r)) = inl (λ t st c. old t st (old_parts pre (e ∷ post) q e.0 i (none_yet m r) t) c)
      by (inr (m, r)) = inr (λ t c o. past pre (e ∷ post) q e.0 i m r t c o)
