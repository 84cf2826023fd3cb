-- Who goes with an entry although it is prepared and has no COMMIT: an ABORT of it stood in the log, or its home is here, or its PREPARE lists
-- one that is out after the entry, prepared or let go.
use Rattle.std.proofs.Common.{◌≡◌, ◌⊎◌, inl, inr, ⊎_elim, refl, sym, ap, subst, ◌∙◌, ℕ, ◌≤◌, true, false, Bool, List, [], ◌∷◌, ◌++◌, length, Some, append-nil, append_assoc, take-append-drop}
use Rattle.std.specs.Prelude.{take, drop}
use Rattle.std.specs.List.{AllByRecursion}
use Rattle.std.proofs.lemmas.Bool.{both_ways, or_left, false_from_ne_true}
use Rattle.std.proofs.lemmas.List.Folds.{list_any-append}
use Rattle.clv_base.specs.declared.names.TxId.{TxId}
use Rattle.clv_base.specs.declared.logs.LogRecord.{LogRecord}
use Rattle.clv_base.specs.declared.state.Stage.TheVariants.{Active}
use Rattle.clv_base.specs.declared.events.Event.{Event}
use Rattle.clv_base.specs.declared.events.Outcome.{Outcome}
use Rattle.clv_base.specs.Orders.{tx_in}
use Rattle.clv_base.specs.Logs.{committed_in, prepared_in, aborted_in, prepare_of, is_abort_of, in_doubt}
use Rattle.clv_base.specs.State.{Shard, is_present}
use Rattle.clv_base.specs.Undo.{stage_of}
use Rattle.clv_base.specs.Events.{finish, with_durable}
use Rattle.clv_base.specs.Restarts.{restart_records, log_after_restart, log_left, next_epoch, revived, FailedRestarts, untouched, failed_first, Restarts}
use Rattle.clv_base.specs.Journals.{up_to_restart}
use Rattle.history_cases.proofs.Stepping.{Happens, finishes, stops, settled}
use Rattle.history_cases.proofs.Entering.{Makes, by_event, by_flush, by_failure, by_restart}
use Rattle.history_cases.proofs.Durability.{Counted, restarts_front}
use Rattle.law_base.proofs.Doubts.{doubts_more}
use Rattle.law_base.proofs.Lists.{all_taken}
use Rattle.law_base.specs.Coming.{is_let_go}
use Rattle.history_laws.proofs.NeverTakenBack.LaterHistoriesHoldMembers.{committed_front}
use Rattle.history_cases.proofs.Uncommitting.{restarts_add as restarts_commits}
use Rattle.shard_laws.proofs.Restarts.WinnersKeepTheirWrites.{Plain, plain_restart}
use Rattle.shard_laws.proofs.Restarts.RestoredLocksAndParts.{restored_closed, restored_none}
use Rattle.shard_laws.proofs.Order.ChangesKeepOrder.{prepare_some}
use Rattle.fate_laws.proofs.Homes.ShardKnowsHomes.{still_not}
use Rattle.fate_laws.proofs.Logs.LogOnlyGrows.{Inside, inside_self, inside_due, inside_step}
use Rattle.fate_laws.proofs.Logs.WhatAddsNoPrepare.{prepare_more, front_prepare, restarts_add}
use Rattle.fate_laws.proofs.Parts.OthersCloseOrGo.{due_prepares}
use Rattle.fate_laws.proofs.Logs.WhatPreparesOrCommits.{step_prepares}
use Rattle.fate_laws.proofs.Parts.YesVotesArePrepared.{front_same}
use Rattle.fate_laws.proofs.FallenAreUncommitted.PreparesListEarlierOnes.{Ahead, Why, ahead_take, not_in_doubt, listed_front}
use Rattle.fate_laws.proofs.FallenAreUncommitted.OutIsLost.{Absent}
use Rattle.protocol_laws.proofs.LogsInOrder.OneRecordMore.{prepared_there}

-- ---- a PREPARE after an entry stood before it, or the part was active

finish_prepares : (x : Shard) (tx : TxId) (p : ℕ × List TxId) → prepare_of (finish x).local.log tx ≡ Some p → prepare_of x.local.log tx ≡ Some p
finish_prepares x tx p k = settled (λ z. prepare_of z.local.log tx ≡ Some p → prepare_of x.local.log tx ≡ Some p) x (λ a b d f q. f (due_prepares a b d tx p q)) (λ q. q) k

abbrev pub WasPrepared : Shard → TxId → ℕ × List TxId → Type 0
WasPrepared s tx p = (prepare_of s.local.log tx ≡ Some p) ⊎ (stage_of s.local tx ≡ Some Active)

happens_prepares : (s t : Shard) {e : Event} {o : Outcome} (tx : TxId) (p : ℕ × List TxId) → Happens s e o t → prepare_of t.local.log tx ≡ Some p → WasPrepared s tx p
happens_prepares s _ tx p (finishes {t = x} u h) k = ⊎_elim (λ f. inl f) (λ c. inr c.was) (step_prepares s x tx p h (finish_prepares x tx p k))
happens_prepares s _ tx p (stops u) k = inl k

pub prepares_made : (log : List LogRecord) (s t : Shard) {e : Event} {o : Outcome} (tx : TxId) (p : ℕ × List TxId) → Makes log s e o t → prepare_of t.local.log tx ≡ Some p → WasPrepared s tx p
prepares_made log s t tx p (by_event g h) k = happens_prepares s t tx p h k
prepares_made log s _ tx p (by_flush n u f) k = inl (finish_prepares (with_durable n s) tx p k)
prepares_made log s _ tx p (by_failure n u f) k = inl k
prepares_made log s _ tx p (by_restart epoch kept u r) k = inl (front_prepare _ s.local.log tx p (restarts_add s (log_left s kept) epoch (up_to_restart s.run epoch log) r tx p k))

-- ---- a durable ABORT after an entry stood before it, but for a restart

pub aborted_take : (d : ℕ) (log : List LogRecord) (t : TxId) → aborted_in (take d log) t ≡ true → aborted_in log t ≡ true
aborted_take d log t h = subst (λ l. aborted_in l t ≡ true) (take-append-drop d log) (list_any-append (is_abort_of t) (take d log) (drop d log) ∙ or_left _ _ h)

pub inside_finish : (s x : Shard) → Inside s x → Inside s (finish x)
inside_finish s x i = let k = settled (Inside s) x (inside_due s) i in record { shard = k.shard; durable = k.durable; log = k.log }

aborted_before : (s x : Shard) (t : TxId) → Inside s x → s.durable ≤ length s.local.log → aborted_in (log_left x false) t ≡ true → aborted_in s.local.log t ≡ true
aborted_before s x t i c h = aborted_take s.durable s.local.log t (subst (λ l. aborted_in l t ≡ true) (front_same s x i c) h)

-- ---- who goes

-- restarts leave those in doubt in doubt, and no others
same_doubts : (shard : ℕ) (log now rs : List LogRecord) → in_doubt shard now ≡ in_doubt shard log → AllByRecursion (Plain shard log) rs → in_doubt shard (now ++ rs) ≡ in_doubt shard log
same_doubts shard log now [] e all = ap (in_doubt shard) (append-nil now) ∙ e
same_doubts shard log now (r ∷ rs) e all =
    ap (in_doubt shard) (sym (append_assoc now (r ∷ []) rs))
    ∙ same_doubts shard log (now ++ r ∷ []) rs (doubts_more (all.0).whom now r shard (all.0).unlike (λ t i. (all.0).spares t (subst (λ l. tx_in t l ≡ true) e i)) ∙ e) all.1

pub opening_doubts : (shard : ℕ) (log : List LogRecord) (run epoch : ℕ) → in_doubt shard (log_after_restart shard log run epoch) ≡ in_doubt shard log
opening_doubts shard log run epoch = same_doubts shard log log (restart_records shard log run epoch) refl (plain_restart shard log run epoch)

failed_doubts : (s : Shard) (found left : List LogRecord) → FailedRestarts s found left → in_doubt s.shard left ≡ in_doubt s.shard found
failed_doubts s found _ (untouched) = refl
failed_doubts s found left (failed_first n more) =
    let rs = restart_records s.shard found s.run (next_epoch s found) in
    failed_doubts s (found ++ take n rs) left more ∙ same_doubts s.shard found found (take n rs) refl (all_taken (Plain s.shard found) n rs (plain_restart s.shard found s.run (next_epoch s found)))

restarts_doubts : (s : Shard) (found : List LogRecord) (epoch : ℕ) (after : List LogRecord) → Restarts s found epoch after → in_doubt s.shard after ≡ in_doubt s.shard found
restarts_doubts s found epoch after (left, f, e, q) =
    ap (in_doubt s.shard) q ∙ opening_doubts s.shard left s.run epoch ∙ failed_doubts s found left f

-- L: whom a checkpoint let go
abbrev pub GoesBy : (TxId → Type 0) → Shard → Shard → TxId → ℕ × List TxId → Type 0
GoesBy L s x t p = (aborted_in s.local.log t ≡ true) ⊎ ((p.0 ≡ s.shard) ⊎ ((q : TxId) × (tx_in q p.1 ≡ true) × Absent x q × (committed_in x.local.log q ≡ false) × ((prepared_in x.local.log q ≡ true) ⊎ L q)))

revived_goes : (part : List LogRecord) (L : TxId → Type 0) (s : Shard) (n : ℕ) (epoch : ℕ) (log : List LogRecord) (t : TxId) (p : ℕ × List TxId) → Restarts s (take n s.local.log) epoch log → Ahead part [] s.local.log → ((q : TxId) → is_let_go part q ≡ true → L q)
    → Absent (revived s epoch log) t → prepare_of log t ≡ Some p → committed_in log t ≡ false → GoesBy L s (revived s epoch log) t p
revived_goes part L s n epoch log t p r a gone out k c = by_reason (not_in_doubt s.shard part cut t p ahead prep (doubt t (at (tx_in t (in_doubt s.shard log)) refl)) (still_open t c))
  where
    cut : List LogRecord
    cut = take n s.local.log

    ahead : Ahead part [] (take n s.local.log)
    ahead = ahead_take part n s.local.log a

    doubts : in_doubt s.shard log ≡ in_doubt s.shard (take n s.local.log)
    doubts = restarts_doubts s (take n s.local.log) epoch log r

    still_open : (u : TxId) → committed_in log u ≡ false → committed_in (take n s.local.log) u ≡ false
    still_open u o = false_from_ne_true _ (λ h. both_ways _ o (committed_front (take n s.local.log) log u (restarts_front s (take n s.local.log) epoch log r) h))

    opens : (u : TxId) → committed_in (take n s.local.log) u ≡ false → committed_in log u ≡ false
    opens u o = still_not (committed_in (take n s.local.log) u) (committed_in log u) (restarts_commits s (take n s.local.log) epoch log r u) o

    prep : prepare_of (take n s.local.log) t ≡ Some p
    prep = restarts_add s (take n s.local.log) epoch log r t p k

    at : (b : Bool) → tx_in t (in_doubt s.shard log) ≡ b → tx_in t (in_doubt s.shard log) ≡ false
    at true i = absurd (both_ways _ out (ap is_present (restored_closed (in_doubt s.shard log) t i)))
    at false i = i

    doubt : (u : TxId) → tx_in u (in_doubt s.shard log) ≡ false → tx_in u (in_doubt s.shard (take n s.local.log)) ≡ false
    doubt u i = subst (λ l. tx_in u l ≡ false) doubts i

    undoubted : (u : TxId) → tx_in u (in_doubt s.shard (take n s.local.log)) ≡ false → tx_in u (in_doubt s.shard log) ≡ false
    undoubted u i = subst (λ l. tx_in u l ≡ false) (sym doubts) i

    there : (u : TxId) → prepared_in (take n s.local.log) u ≡ true → prepared_in log u ≡ true
    there u h =
        let z = prepare_some (take n s.local.log) u h in
        let g = restarts_front s (take n s.local.log) epoch log r in
        prepared_there log u z.0 (subst (λ l. prepare_of l u ≡ Some z.0) g.1 (prepare_more (take n s.local.log) g.0 u z.0 z.1))

    by_reason : Why (take n s.local.log) s.shard (in_doubt s.shard (take n s.local.log)) t p → GoesBy L s (revived s epoch log) t p
    by_reason (inl h) = inl (aborted_take n s.local.log t h)
    by_reason (inr (inl z)) = inr (inl z)
    by_reason (inr (inr (q, m, d, i))) =
        inr (inr (
          q,
          m,
          ap is_present (restored_none (in_doubt s.shard log) q (undoubted q i)),
          opens q d,
          ⊎_elim (λ h. inl (there q h)) (λ h. ⊎_elim (λ b. absurd (both_ways _ d b)) (λ g. inr (gone q g)) h) (listed_front part (take n s.local.log) [] (take n s.local.log) t q p refl ahead prep m),
        ))

pub goes_made : (part : List LogRecord) (L : TxId → Type 0) (log : List LogRecord) (s x : Shard) {e : Event} {o : Outcome} (t : TxId) (p : ℕ × List TxId) → Makes log s e o x → Counted s → Ahead part [] s.local.log → ((q : TxId) → is_let_go part q ≡ true → L q)
    → Absent x t → prepare_of x.local.log t ≡ Some p → committed_in x.local.log t ≡ false → aborted_in (log_left x false) t ≡ true → GoesBy L s x t p
goes_made part L log s _ t p (by_event g (finishes {t = x} u h)) c a gone out k n d = inl (aborted_before s (finish x) t (inside_finish s x (inside_step s x h)) c.within d)
goes_made part L log s _ t p (by_event g (stops u)) c a gone out k n d = inl (aborted_take s.durable s.local.log t d)
goes_made part L log s _ t p (by_flush m u g) c a gone out k n d =
    let z = with_durable m s in inl (aborted_before z (finish z) t (inside_finish z z (inside_self z)) (c.flying m g).1 d)
goes_made part L log s _ t p (by_failure m u g) c a gone out k n d = inl (aborted_take s.durable s.local.log t d)
goes_made part L log s _ t p (by_restart epoch kept u r) c a gone out k n d = revived_goes part L s _ epoch (up_to_restart s.run epoch log) t p r a gone out k n
