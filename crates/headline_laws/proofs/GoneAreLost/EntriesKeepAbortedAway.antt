-- Whose ABORT stands in a shard's log is not here, and has no COMMIT there: each entry keeps it so.
use Rattle.std.proofs.Common.{◌≡◌, ◌⊎◌, inl, ⊎_elim, refl, sym, ap, subst, ◌∙◌, ℕ, true, false, Bool, not, ◌&&◌, List, [], ◌∷◌, ◌++◌, map, take, Option, Some, None, append_assoc, take-append-drop}
use Rattle.std.specs.Prelude.{drop}
use Rattle.std.specs.List.{filter}
use Rattle.std.proofs.lemmas.Bool.{both_ways, or_cases, or_left, or_right, false_from_ne_true}
use Rattle.std.proofs.lemmas.List.Folds.{list_any-append}
use Rattle.clv_base.specs.declared.names.TxId.{TxId}
use Rattle.clv_base.specs.declared.names.Birth.{Birth}
use Rattle.clv_base.specs.declared.ops.Op.{Op}
use Rattle.clv_base.specs.declared.ops.Answer.{Answer}
use Rattle.clv_base.specs.declared.causes.AbortCause.{AbortCause}
use Rattle.clv_base.specs.declared.causes.Vote.TheVariants.{Yes, Read, No}
use Rattle.clv_base.specs.declared.logs.LogRecord.{LogRecord}
use Rattle.clv_base.specs.declared.logs.LogRecord.TheVariants.{Update, Prepare as PrepareRecord, Commit, Abort, End, Restart as RestartRecord, Add}
use Rattle.clv_base.specs.declared.state.Ruling.TheVariants.{Commit as CommitVerdict, Acknowledge, Abort as AbortVerdict, End as EndVerdict}
use Rattle.clv_base.specs.declared.state.Stage.TheVariants.{Active, Closed}
use Rattle.clv_base.specs.declared.events.Event.{Event}
use Rattle.clv_base.specs.declared.events.Event.TheVariants.{Op as OpEvent}
use Rattle.clv_base.specs.declared.events.Outcome.{Outcome}
use Rattle.clv_base.specs.declared.events.Outcome.TheVariants.{Answered}
use Rattle.clv_base.specs.declared.events.Entry.{Entry}
use Rattle.clv_base.specs.Orders.{tx_same, tx_in}
use Rattle.clv_base.specs.declared.changes.Change.{Change}
use Rattle.clv_base.specs.declared.changes.Change.TheVariants.{Sets, Adds}
use Rattle.clv_base.specs.Logs.{standing, committed_in, aborted_in, is_abort_of, in_doubt, has_standing}
use Rattle.clv_base.specs.Needs.{writes_of, value_at, key_of}
use Rattle.clv_base.specs.State.{Shard, Local, is_present, with_local}
use Rattle.clv_base.specs.Undo.{stage_of, gone_in, doomed_here, roll_back, aborts_of, clrs_of, is_of, clrs_by, newest_lsns, is_at, roll_to}
use Rattle.clv_base.specs.Facts.{facts_of, is_waiting, has_durable_commit, undecided_of}
use Rattle.clv_base.specs.Coordinator.{others}
use Rattle.clv_base.specs.OneShard.{OpDies, OpAnswers, written, locked, performed, closing, close_part, closed_in, rolled_back_if, drop_part}
use Rattle.clv_base.specs.Due.{append_log}
use Rattle.clv_base.specs.Events.{is_alone, finish, with_durable}
use Rattle.clv_base.specs.Restarts.{losers, undo_records, restart_records, log_after_restart, next_epoch, state_after, revived, FailedRestarts, untouched, failed_first, Restarts}
use Rattle.clv_base.specs.Journals.{up_to_restart}
use Rattle.clv_base.specs.Backs.{standing_numbers, count_after}
use Rattle.clv_base.proofs.SameNames.{tx_true, tx_flip}
use Rattle.law_base.proofs.Tables.{stage_in}
use Rattle.law_base.proofs.Sets.{in_filter}
use Rattle.history_cases.proofs.Stepping.{Due, commits, votes, rules, KeptByDue, settled, Step, op_dies, op_answers, request_closes, drops, prepare_closes, decision_comes, Happens, finishes, stops, rolls_back}
use Rattle.history_cases.proofs.Entering.{Makes, by_event, by_flush, by_failure, by_restart}
use Rattle.history_laws.proofs.NeverTakenBack.LaterHistoriesHoldMembers.{committed_front}
use Rattle.history_cases.proofs.TellingEvents.{front_committed}
use Rattle.history_cases.proofs.Uncommitting.{NoMoreCommits, rolled as rolled_commits, with_more, op_answering, opening_adds, gone_back}
use Rattle.shard_laws.proofs.Events.DueKeeps.{waiting_here}
use Rattle.law_base.proofs.Stages.{closed_other, absent_go, own_go, stage_marked}
use Rattle.shard_laws.proofs.Restarts.WinnersKeepTheirWrites.{loser_out}
use Rattle.shard_laws.proofs.Restarts.RestoredLocksAndParts.{restored_none}
use Rattle.shard_laws.proofs.Keeping.RecordsOfAnUndo.{no_abort_clrs, aborted_here}
use Rattle.history_laws.proofs.Entries.WhatOperationsDo.{OpIs, dies, rolls, performs, reply_is}
use Rattle.fate_laws.proofs.Homes.ShardKnowsHomes.{still_not, new_commit}
use Rattle.fate_laws.proofs.Homes.EventsKeepHomes.{awaits}
use Rattle.fate_laws.proofs.Parts.CommitsHaveTheirParts.{taken_closed}
use Rattle.fate_laws.proofs.Parts.CommittedAreVotedFor.{commit_agreed}
use Rattle.fate_laws.proofs.CommitsGoDownwards.{Down, Owes as OwesDown}
use Rattle.fate_laws.proofs.AbortedAreCommittedNowhere.DueKeepsDoomedUncommitted.{Kept, doomed_open, agreed_waits, refused_open, kept_due}
use Rattle.fate_laws.proofs.AbortedAreCommittedNowhere.EventsKeepDoomedUncommitted.{Owes, kept_step}
use Rattle.fate_laws.proofs.FallenAreUncommitted.OutIsLost.{Absent}
use Rattle.fate_laws.proofs.FallenAreUncommitted.StepsKeepOutUncommitted.{performed_other}
use Rattle.headline_laws.proofs.GoneAreLost.WhyPreparedOnesGo.{aborted_take}
use Rattle.history_laws.proofs.Logs.DoubtedAreUndecided.{doubt_undecided}
use Rattle.clv_base.proofs.Folding.{or_left as or_false_left}

abbrev pub Struck : Shard → TxId → Type 0
Struck s t = aborted_in s.local.log t ≡ true → Absent s t × (committed_in s.local.log t ≡ false)

-- a log has no ABORT and COMMIT of one
abbrev Apart : List LogRecord → TxId → Type 0
Apart log t = aborted_in log t ≡ true → committed_in log t ≡ false

-- ---- ABORTs in a longer log

aborted_case : (log more : List LogRecord) (t : TxId) → aborted_in (log ++ more) t ≡ true → (aborted_in log t ≡ true) ⊎ (aborted_in more t ≡ true)
aborted_case log more t h = or_cases (aborted_in log t) (aborted_in more t) (sym (list_any-append (is_abort_of t) log more) ∙ h)

aborted_back : (log more : List LogRecord) (t : TxId) → aborted_in more t ≡ false → aborted_in (log ++ more) t ≡ true → aborted_in log t ≡ true
aborted_back log more t n h = ⊎_elim (λ a. a) (λ a. absurd (both_ways _ n a)) (aborted_case log more t h)

aborts_in : (ts : List TxId) (t : TxId) → aborted_in (map (λ u. Abort u) ts) t ≡ true → tx_in t ts ≡ true
aborts_in [] t h = h
aborts_in (u ∷ us) t h = ⊎_elim (λ e. or_left (tx_same u t) (tx_in t us) (tx_flip t u e)) (λ k. or_right (tx_same u t) (tx_in t us) (aborts_in us t k)) (or_cases (tx_same t u) (aborted_in (map (λ v. Abort v) us) t) h)

closing_aborts : (log : List LogRecord) (b one : Bool) (tx : TxId) (home : ℕ) (us : List TxId) (t : TxId) → aborted_in (log ++ closing b one tx home us) t ≡ true → aborted_in log t ≡ true
closing_aborts log false one tx home us t h = aborted_back log [] t refl h
closing_aborts log true true tx home [] t h = aborted_back log (Commit tx [] ∷ []) t refl h
closing_aborts log true true tx home (v ∷ vs) t h = aborted_back log (PrepareRecord tx home (v ∷ vs) ∷ []) t refl h
closing_aborts log true false tx home us t h = aborted_back log (PrepareRecord tx home us ∷ []) t refl h

closing_commits : (log : List LogRecord) (b one : Bool) (tx : TxId) (home : ℕ) (us : List TxId) (t : TxId) → committed_in (log ++ closing b one tx home us) t ≡ true → (committed_in log t ≡ true) ⊎ (t ≡ tx)
closing_commits log false one tx home us t h = inl (with_more log [] tt t h)
closing_commits log true true tx home [] t h = new_commit log tx [] t h
closing_commits log true true tx home (v ∷ vs) t h = inl (with_more log (PrepareRecord tx home (v ∷ vs) ∷ []) ((λ u. refl), tt) t h)
closing_commits log true false tx home us t h = inl (with_more log (PrepareRecord tx home us ∷ []) ((λ u. refl), tt) t h)

writes_aborts : (tx : TxId) (w : Option (ℕ × Change)) (l : Local) (t : TxId) → aborted_in (written tx w l).log t ≡ true → aborted_in l.log t ≡ true
writes_aborts tx None l t h = h
writes_aborts tx (Some (key, Sets before after)) l t h = aborted_back l.log (Update tx key before after ∷ []) t refl h
writes_aborts tx (Some (key, Adds by)) l t h = aborted_back l.log (Add tx key by ∷ []) t refl h

-- ---- changes

struck_on : (s x : Shard) (t : TxId) → (aborted_in x.local.log t ≡ true → aborted_in s.local.log t ≡ true) → (Absent s t → Absent x t) → (Absent s t → committed_in x.local.log t ≡ true → committed_in s.local.log t ≡ true) → Struck s t → Struck x t
struck_on s x t a b c k h = let p = k (a h) in (b p.0, still_not (committed_in s.local.log t) (committed_in x.local.log t) (c p.0) p.1)

-- parts are gone
struck_gone : (s x : Shard) (t : TxId) (set : List TxId) (d : Option TxId) → x.local.log ≡ s.local.log → x.local.parts ≡ gone_in set d s.local.parts → Struck s t → Struck x t
struck_gone s x t set d e f k =
    struck_on s x t (λ h. subst (λ l. aborted_in l t ≡ true) e h) (λ n. subst (λ ps. is_present (stage_in ps t) ≡ false) (sym f) (absent_go set d t s.local.parts n)) (λ n c. subst (λ l. committed_in l t ≡ true) e c) k

-- an abort takes parts away
struck_rolled : (s : Shard) (u t : TxId) → committed_in s.local.log u ≡ false → Down s → Struck s t → Struck (with_local (roll_back u) s) t
struck_rolled s u t o d k h =
    ⊎_elim
    (λ b. let p = k b in (absent_go set (Some u) t s.local.parts p.0, open_ p.1))
    (λ b. let i = aborted_here set t s.local.log b in (own_go set (Some u) t s.local.parts i, open_ (doomed_open s u d o t i)))
    (aborted_case s.local.log (aborts_of s.local.log set ++ clrs_of set (standing s.local.log)) t
    (subst (λ z. aborted_in z t ≡ true) (append_assoc s.local.log (aborts_of s.local.log set) (clrs_of set (standing s.local.log))) h))
  where
    set : List TxId
    set = doomed_here s.local u

    open_ : committed_in s.local.log t ≡ false → committed_in (roll_back u s.local).log t ≡ false
    open_ n = still_not (committed_in s.local.log t) (committed_in (roll_back u s.local).log t) (rolled_commits u s.local t) n

-- a going back leaves parts as they are
struck_back : (s : Shard) (u t : TxId) (i : ℕ) → Struck s t → Struck (with_local (roll_to u i) s) t
struck_back s u t i k =
    let ws = standing s.local.log in
    let gone = is_at (newest_lsns i u ws) in
    struck_on s (with_local (roll_to u i) s) t (λ h. aborted_back s.local.log (clrs_by gone ws) t (no_abort_clrs gone t ws) h) (λ n. n) (λ n c. gone_back u i s.local t c) k

-- a COMMIT comes to a closed part
struck_commit : (s : Shard) (u t : TxId) (parts : List ℕ) → stage_of s.local u ≡ Some Closed → Struck s t → Struck (with_local (append_log (Commit u parts ∷ [])) s) t
struck_commit s u t parts c k =
    struck_on s (with_local (append_log (Commit u parts ∷ [])) s) t (λ h. aborted_back s.local.log (Commit u parts ∷ []) t refl h) (λ n. n)
    (λ n h. ⊎_elim (λ a. a) (λ a. absurd (both_ways _ (subst (Absent s) a n) (subst (λ o. is_present o ≡ true) (sym c) refl))) (new_commit s.local.log u parts t h)) k

-- a part closes
struck_close : (s : Shard) (u t : TxId) (home : ℕ) (one : Bool) → stage_of s.local u ≡ Some Active → Struck s t → Struck (with_local (close_part u home one) s) t
struck_close s u t home one a k =
    struck_on s (with_local (close_part u home one) s) t (λ h. closing_aborts s.local.log (has_standing s.local.log u) one u home (undecided_of s.local u) t h) (λ n. by_name (tx_same u t) refl n)
    (λ n h. ⊎_elim (λ z. z) (λ z. absurd (other n z)) (closing_commits s.local.log (has_standing s.local.log u) one u home (undecided_of s.local u) t h)) k
  where
    other : Absent s t → t ≡ u → ⊥
    other n z = both_ways _ (subst (Absent s) z n) (subst (λ o. is_present o ≡ true) (sym a) refl)

    by_name : (b : Bool) → tx_same u t ≡ b → Absent s t → is_present (stage_in (closed_in u s.local.parts) t) ≡ false
    by_name true e n = absurd (other n (sym (tx_true u t e)))
    by_name false e n = ap is_present (closed_other s.local.parts u t e) ∙ n

-- ---- what is due

struck_due : (t : TxId) → KeptByDue (λ s. Kept s × Struck s t)
struck_due t s x d p = (kept_due s x d p.0, at x d)
  where
    at : (x : Shard) → Due s (Some x) → Struck x t
    at x (commits u a b) = struck_gone s x t (u ∷ []) None refl refl p.1
    at x (votes u v Yes a b) = p.1
    at x (votes u v Read a b) = struck_gone s x t (u ∷ []) None refl refl p.1
    at x (votes u v (No why) a b) = p.1
    at x (rules u q (CommitVerdict parts) g e) = struck_commit s u t parts (waiting_here s u (agreed_waits s.shard q (facts_of s u) (commit_agreed s.shard u q (facts_of s u) parts e).1)).0 p.1
    at x (rules u q Acknowledge g e) = struck_gone s x t (u ∷ []) None refl refl p.1
    at x (rules u q (AbortVerdict cause to) g e) = struck_rolled s u t (refused_open s u q cause to p.0 g e) (p.0).down p.1
    at x (rules u q EndVerdict g e) = struck_on s x t (λ h. aborted_back s.local.log (End u ∷ []) t refl h) (λ n. n) (λ n c. with_more s.local.log (End u ∷ []) ((λ v. refl), tt) t c) p.1

struck_finish : (s : Shard) (t : TxId) → Kept s → Struck s t → Struck (finish s) t
struck_finish s t k p = (settled (λ z. Kept z × Struck z t) s (struck_due t) (k, p)).1

-- ---- each step

-- who was struck is answered no operation
abbrev pub NoAnswer : Shard → Event → Outcome → Type 0
NoAnswer s e o = (u : TxId) (birth : Birth) (nth : ℕ) (seen : Option ℕ) (op : Op) (a : Answer) (ep : ℕ) → e ≡ OpEvent u birth nth seen op → o ≡ Answered a ep → aborted_in s.local.log u ≡ true → ⊥

died : (s : Shard) (u t : TxId) (birth : Birth) (seen : Option ℕ) (op : Op) (c : AbortCause) (l : Local) → OpIs s.local u birth seen op (OpDies c l) → committed_in s.local.log u ≡ false → Down s → Struck s t → Struck (record s { local = l }) t
died s u t birth seen op c _ dies o d k = k
died s u t birth seen op c _ rolls o d k = struck_rolled s u t o d k

answered : (s : Shard) (u t : TxId) (birth : Birth) (seen : Option ℕ) (op : Op) (a : Answer) (l : Local) → OpIs s.local u birth seen op (OpAnswers a l) → (aborted_in s.local.log u ≡ true → ⊥) → NoMoreCommits s.local.log l.log → Struck s t → Struck (record s { local = l }) t
answered s u t birth seen op _ _ (performs f st) stays c k h = at (tx_same t u) refl
  where
    was : aborted_in s.local.log t ≡ true
    was = writes_aborts u (writes_of op (value_at (key_of op) s.local.records)) (locked u birth op s.local) t h

    at : (b : Bool) → tx_same t u ≡ b → Absent (record s { local = performed u birth op s.local }) t × (committed_in (performed u birth op s.local).log t ≡ false)
    at true e = absurd (stays (subst (λ z. aborted_in s.local.log z ≡ true) (tx_true t u e) was))
    at false e = let p = k was in (ap is_present (performed_other s.local u t birth op e) ∙ p.0, still_not (committed_in s.local.log t) (committed_in (performed u birth op s.local).log t) (c t) p.1)

dropped : (s : Shard) (u t : TxId) (b : Bool) → committed_in s.local.log u ≡ false → Down s → Struck s t → Struck (with_local (rolled_back_if b u) s) t
dropped s u t true o d k = struck_rolled s u t o d k
dropped s u t false o d k = k

struck_step : (s x : Shard) {e : Event} {o : Outcome} (t : TxId) → Step s e o x → Owes s e → NoAnswer s e o → Down s → Struck s t → Struck x t
struck_step s _ t (op_dies u birth nth seen op cause l g) w n d k = died s u t birth seen op cause l (reply_is s.shard s.local u birth seen op _ g) w d k
struck_step s _ t (op_answers u birth nth seen op answer l g) w n d k =
    answered s u t birth seen op answer l (reply_is s.shard s.local u birth seen op _ g) (n u birth nth seen op answer s.local.epoch refl refl) (op_answering s.shard s.local l u birth seen op answer g) k
struck_step s _ t (rolls_back u nth seen upto f g) w n d k = struck_back s u t (count_after upto (standing_numbers u s.journal)) k
struck_step s _ t (request_closes u ts f0 g) w n d k = struck_close s u t s.shard (is_alone (others s.shard ts)) g k
struck_step s _ t (drops u stage g) w n d k =
    let b = is_present (stage_of s.local u) in
    struck_on (with_local (rolled_back_if b u) s) (with_local (drop_part u) s) t (λ h. h) (λ z. ap is_present (stage_marked u t (rolled_back_if b u s.local).parts) ∙ z) (λ z c. c) (dropped s u t b w d k)
struck_step s _ t (prepare_closes u home seen stamp g) w n d k = struck_close s u t home false g k
struck_step s _ t (decision_comes u home true stamp g) w n d k = struck_commit s u t [] (taken_closed s u (is_waiting (facts_of s u)) (true && has_durable_commit (facts_of s u)) refl g) k
struck_step s _ t (decision_comes u home false stamp g) w n d k = struck_rolled s u t (awaits s u false g) d k
struck_step s _ t _ w n d k = k

-- ---- a restart, and an opening

losers_open : (shard : ℕ) (log : List LogRecord) (run epoch : ℕ) (t : TxId) → aborted_in (restart_records shard log run epoch) t ≡ true → committed_in log t ≡ false
losers_open shard log run epoch t h =
    let ts = filter (λ u. not (aborted_in log u)) (losers shard log) in
    let a : aborted_in (undo_records shard log) t ≡ true = aborted_back (undo_records shard log) (RestartRecord run epoch ∷ []) t refl h in
    let b : aborted_in (map (λ u. Abort u) ts) t ≡ true = aborted_back (map (λ u. Abort u) ts) (clrs_of (losers shard log) (standing log)) t (no_abort_clrs (is_of (losers shard log)) t (standing log)) a in
    or_false_left (committed_in log t) (tx_in t (in_doubt shard log)) (loser_out shard log t (in_filter (λ u. not (aborted_in log u)) t (losers shard log) (aborts_in ts t b)).0)

apart_whole : (shard : ℕ) (log : List LogRecord) (run epoch : ℕ) (t : TxId) → Apart log t → Apart (log_after_restart shard log run epoch) t
apart_whole shard log run epoch t k h =
    still_not (committed_in log t) (committed_in (log_after_restart shard log run epoch) t) (opening_adds shard log run epoch t)
    (⊎_elim k (λ a. losers_open shard log run epoch t a) (aborted_case log (restart_records shard log run epoch) t h))

apart_part : (shard : ℕ) (log : List LogRecord) (run epoch n : ℕ) (t : TxId) → Apart log t → Apart (log ++ take n (restart_records shard log run epoch)) t
apart_part shard log run epoch n t k h =
    let rs = restart_records shard log run epoch in
    let whole : (log ++ take n rs) ++ drop n rs ≡ log ++ rs = append_assoc log (take n rs) (drop n rs) ∙ ap (λ l. log ++ l) (take-append-drop n rs) in
    still_not (committed_in log t) (committed_in (log ++ take n rs) t) (λ c. opening_adds shard log run epoch t (committed_front (log ++ take n rs) (log ++ rs) t (drop n rs, whole) c))
    (⊎_elim k (λ a. losers_open shard log run epoch t (aborted_take n rs t a)) (aborted_case log (take n rs) t h))

apart_failed : (s : Shard) (found left : List LogRecord) (t : TxId) → FailedRestarts s found left → Apart found t → Apart left t
apart_failed s found _ t (untouched) k = k
apart_failed s found left t (failed_first n more) k =
    apart_failed s (found ++ take n (restart_records s.shard found s.run (next_epoch s found))) left t more (apart_part s.shard found s.run (next_epoch s found) n t k)

struck_state : (shard own epoch : ℕ) (log : List LogRecord) (last : ℕ) (journal : List Entry) (t : TxId) → Apart log t → Struck (state_after shard own epoch log last journal) t
struck_state shard own epoch log last journal t k h = (ap is_present (restored_none (in_doubt shard log) t (false_from_ne_true _ (λ i. both_ways _ (doubt_undecided shard log t i).2 h))), k h)

pub struck_opened : (shard own : ℕ) (log : List LogRecord) (t : TxId) → ((u : TxId) → committed_in log u ≡ true → aborted_in log u ≡ false) → Struck (state_after shard own 0 (log_after_restart shard log own 0) 0 []) t
struck_opened shard own log t k = struck_state shard own 0 (log_after_restart shard log own 0) 0 [] t (apart_whole shard log own 0 t (λ h. false_from_ne_true _ (λ c. both_ways _ (k t c) h)))

struck_revived : (s : Shard) (n epoch : ℕ) (log : List LogRecord) (t : TxId) → Restarts s (take n s.local.log) epoch log → Struck s t → Struck (revived s epoch log) t
struck_revived s n epoch log t (left, f, e, q) k = struck_state s.shard s.run epoch log s.last s.journal t (subst (λ l. Apart l t) (sym q) (apart_whole s.shard left s.run epoch t (apart_failed s (take n s.local.log) left t f cut)))
  where
    cut : Apart (take n s.local.log) t
    cut h = still_not (committed_in s.local.log t) (committed_in (take n s.local.log) t) (front_committed n s.local.log t) (k (aborted_take n s.local.log t h)).1

-- ---- each entry

struck_event : (s x : Shard) {e : Event} {o : Outcome} (t : TxId) → Happens s e o x → OwesDown s e → Owes s e → NoAnswer s e o → Kept s → Struck s t → Struck x t
struck_event s _ t (finishes {t = y} u h) d w n p k = struck_finish y t (kept_step s y h d w p) (struck_step s y t h w n p.down k)
struck_event s _ t (stops u) d w n p k = k

pub struck_made : (log : List LogRecord) (s x : Shard) {e : Event} {o : Outcome} (t : TxId) → Makes log s e o x → OwesDown s e → Owes s e → NoAnswer s e o → Kept s → Struck s t → Struck x t
struck_made log s x t (by_event g h) d w n p k = struck_event s x t h d w n p k
struck_made log s _ t (by_flush m u f) d w n p k = struck_finish (with_durable m s) t (record { down = p.down; gone = p.gone; rows = p.rows }) k
struck_made log s _ t (by_failure m u f) d w n p k = k
struck_made log s _ t (by_restart epoch kept u r) d w n p k = struck_revived s _ epoch (up_to_restart s.run epoch log) t r k
