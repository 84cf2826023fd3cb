-- Each entry of a shard keeps that who is out is never committed.
use Rattle.clv_base.specs.Coordinator.{restored_request, restored_requests}
use Rattle.clv_base.specs.Due.{with_due_done}
use Rattle.clv_base.specs.Events.{finish, with_durable, put_down}
use Rattle.clv_base.specs.Journals.{up_to_restart}
use Rattle.clv_base.specs.Logs.{committed_in, prepared_in, has_standing, aborted_in, prepare_of, in_doubt}
use Rattle.clv_base.specs.Orders.{tx_in}
use Rattle.clv_base.specs.Participant.{restored_voter, restored_voters}
use Rattle.clv_base.specs.Restarts.{log_left, state_after, revived, restored_parts, homes_of, unended_in, Restarts}
use Rattle.clv_base.specs.State.{Shard, is_present}
use Rattle.clv_base.specs.Undo.{stage_of}
use Rattle.clv_base.specs.declared.causes.Vote.TheVariants.{Read}
use Rattle.clv_base.specs.declared.events.Entry.{Entry}
use Rattle.clv_base.specs.declared.events.Event.{Event}
use Rattle.clv_base.specs.declared.events.Outcome.{Outcome}
use Rattle.clv_base.specs.declared.logs.LogRecord.{LogRecord}
use Rattle.clv_base.specs.declared.names.Birth.{Birth}
use Rattle.clv_base.specs.declared.names.TxId.{TxId}
use Rattle.clv_base.specs.declared.state.Request.{Request}
use Rattle.clv_base.specs.declared.state.RequestState.TheVariants.{Undecided}
use Rattle.clv_base.specs.declared.state.Stage.TheVariants.{Active, Closed}
use Rattle.clv_base.specs.declared.state.Voter.{Voter}
use Rattle.fate_laws.proofs.FallenAreUncommitted.PreparesListEarlierOnes.{Ahead, Why, ahead_take, restarts_ahead, not_in_doubt, home_elsewhere, doubt_abroad, listed_front, gone_unprepared}
use Rattle.fate_laws.proofs.FallenAreUncommitted.OutIsLost.{Out, Lost, Barred}
use Rattle.fate_laws.proofs.FallenAreUncommitted.DueKeepsOutUncommitted.{Refuses, barred_finish}
use Rattle.fate_laws.proofs.FallenAreUncommitted.EventsKeepOutUncommitted.{Owes, barred_step}
use Rattle.fate_laws.proofs.FallenAreUncommitted.StepsKeepOutUncommitted.{barred_same}
use Rattle.fate_laws.proofs.AbortedAreCommittedNowhere.DueKeepsDoomedUncommitted.{RowKeeps, Kept}
use Rattle.fate_laws.proofs.CommitsGoDownwards.{down_state, Owes as OwesDown}
use Rattle.fate_laws.proofs.Logs.LogOnlyGrows.{Inside, inside_self, inside_due}
use Rattle.fate_laws.proofs.Logs.WhatAddsNoPrepare.{front_prepare, restarts_add as restarts_prepare, prepare_more}
use Rattle.fate_laws.proofs.Parts.RestartsKeepParts.{pair_from}
use Rattle.history_cases.proofs.Durability.{Counted, left_front, restarts_front}
use Rattle.history_cases.proofs.Entering.{Makes, by_event, by_flush, by_failure, by_restart}
use Rattle.history_cases.proofs.Stepping.{settled, finishes, stops}
use Rattle.history_cases.proofs.Telling.{all_map}
use Rattle.history_cases.proofs.TellingEvents.{front_committed}
use Rattle.history_cases.proofs.Uncommitting.{restarts_add}
use Rattle.law_base.proofs.Changed.{none_some, some_same}
use Rattle.law_base.proofs.Rows.{rows_get}
use Rattle.law_base.proofs.Tables.{stage_in}
use Rattle.protocol_laws.proofs.LogOnlyGrows.DueGrowsLogs.{chain}
use Rattle.protocol_laws.specs.Growth.{IsPrefixOf}
use Rattle.law_base.proofs.LockRows.{Rows}
use Rattle.law_base.specs.Coming.{is_let_go}
use Rattle.shard_laws.proofs.Restarts.RestoredRequestsAndPairs.{pair_lists}
use Rattle.shard_laws.proofs.Restarts.RestoredLocksAndParts.{restored_closed, restored_stage, restored_none}
use Rattle.shard_laws.proofs.Order.ChangesKeepOrder.{prepare_some}
use Rattle.std.proofs.Common.{◌≡◌, ◌⊎◌, inl, inr, ⊎_elim, refl, sym, ap, subst, ◌∙◌, ℕ, ◌≤◌, true, false, Bool, List, [], ◌++◌, take, length, Some, arith}
use Rattle.std.proofs.lemmas.Bool.{both_ways, false_from_ne_true}
use Rattle.std.proofs.lemmas.List.{take-take, take_all, take-append-drop}
use Rattle.std.specs.Prelude.{drop}
use Rattle.history_laws.proofs.Logs.DoubtedAreUndecided.{doubt_prepared, doubt_undecided}
use Rattle.fate_laws.proofs.Origins.DoubtedWereFoundSo.{aborted_front}

-- ---- more of the log is durable

longer_front : (d n : ℕ) (log : List LogRecord) → d ≤ n → IsPrefixOf (take d log) (take n log)
longer_front d n log l = (drop d (take n log), ap (λ z. z ++ drop d (take n log)) (sym (take-take d n log l)) ∙ take-append-drop d (take n log))

barred_flushed : (K V O Q : TxId → Type 0) (s : Shard) (n : ℕ) → s.durable ≤ n → n ≤ length s.local.log → Barred K V O Q s → Barred K V O Q (with_durable n s)
barred_flushed K V O Q s n l m b = record {
  part = b.part;
  lined = b.lined;
  gone = b.gone;
  down = b.down;
  counted = m;
  sought = b.sought;
  homes = b.homes;
  rows = b.rows;
  readers = b.readers;
  open_ = b.open_;
  here = b.here;
  why = λ t p w e. moved t p (b.why t p w e);
}
  where
    moved : (t : TxId) (p : ℕ × List TxId) → Lost K V O s t p → Lost K V O (with_durable n s) t p
    moved t p (inl (a, c)) = inl (aborted_front (take s.durable s.local.log) (take n s.local.log) t (longer_front s.durable n s.local.log l) a, c)
    moved t p (inr (inl z)) = inr (inl z)
    moved t p (inr (inr (inl k))) = inr (inr (inl k))
    moved t p (inr (inr (inr z))) = inr (inr (inr z))

-- ---- a shard comes back

pub barred_state : (K V O Q : TxId → Type 0) (shard own epoch : ℕ) (part log : List LogRecord) (last : ℕ) (journal : List Entry) → Ahead part [] log → ((t : TxId) → is_let_go part t ≡ true → (committed_in log t ≡ false) × O t) → ((t : TxId) → tx_in t (in_doubt shard log) ≡ true → has_standing log t ≡ true)
    → ((t : TxId) (p : ℕ × List TxId) → prepare_of log t ≡ Some p → O t × (Q t → p.0 ≡ shard)) → ((t : TxId) → V t → committed_in log t ≡ false)
    → ((t : TxId) (p : ℕ × List TxId) → V t → tx_in t (in_doubt shard log) ≡ true → prepare_of log t ≡ Some p → Lost K V O (state_after shard own epoch log last journal) t p) → Barred K V O Q (state_after shard own epoch log last journal)
barred_state K V O Q shard own epoch part log last journal ahead out wr sx vo vd =
    let ds = in_doubt shard log in
    record {
      part = part;
      gone = λ t g. (gone t (undoubted t g), (out t g).0, (out t g).1);
      lined = record {
        decided = λ t c w. inl (doubt_prepared shard log t (restored_stage ds t Closed c).1);
        paired = λ t q i. let r = pair_from log ds t q i in inl (doubt_prepared shard log q ((doubt_abroad shard part log t r.0 ahead r.1 (pair_lists log ds t q i).0).1 q r.2 r.3));
        met = λ t q p i e. let r = pair_from log ds t q i in inl (subst (λ (z : ℕ × List TxId). tx_in q z.1 ≡ true) (some_same r.0 p (sym r.1 ∙ e)) r.2);
        stands = λ t e c. wr t (restored_stage ds t Closed c).1;
        unprepared = λ t a. absurd (differ (restored_stage ds t Active a).0);
        ahead = ahead;
      };
      down = down_state shard own epoch log last journal;
      counted = omega arith;
      sought = λ t h. let z = prepare_some log t h in (sx t z.0 z.1).0;
      homes = λ t p q h. (sx t p h).1 q;
      rows = λ t q g e. rows_get (λ r. (r.1).state ≡ Undecided → Q r.0) t q (restored_requests (unended_in log log)) (all_map (λ (r : TxId × Request). (r.1).state ≡ Undecided → Q r.0) (λ n. (n.0, restored_request n.1)) (unended_in log log) (λ n. absurd_undecided n.0 n.1)) g e;
      readers = λ t v g e. rows_get (λ r. (r.1).vote ≡ Some Read → (prepared_in log r.0 ≡ false) × (stage_in (restored_parts ds) r.0 ≡ Some Active → ⊥)) t v (restored_voters (homes_of log ds))
          (all_map (λ (r : TxId × Voter). (r.1).vote ≡ Some Read → (prepared_in log r.0 ≡ false) × (stage_in (restored_parts ds) r.0 ≡ Some Active → ⊥)) (λ n. (n.0, restored_voter n.1)) (homes_of log ds) (λ n e. absurd (none_some Read e))) g e;
      open_ = vo;
      here = λ t v h. there t (tx_in t (in_doubt shard log)) refl h;
      why = λ t p w e. reason t p w e (tx_in t (in_doubt shard log)) refl;
    }
  where
    differ : Active ≡ Closed → ⊥
    differ z = absurd cc

    absurd_undecided : (t : TxId) (ps : List ℕ) → (restored_request ps).state ≡ Undecided → Q t
    absurd_undecided t ps e = absurd cc

    gone : (t : TxId) → tx_in t (in_doubt shard log) ≡ false → is_present (stage_in (restored_parts (in_doubt shard log)) t) ≡ false
    gone t i = ap is_present (restored_none (in_doubt shard log) t i)

    undoubted : (t : TxId) → is_let_go part t ≡ true → tx_in t (in_doubt shard log) ≡ false
    undoubted t g = false_from_ne_true _ (λ i. both_ways _ (gone_unprepared part [] log t ahead g) (doubt_prepared shard log t i))

    there : (t : TxId) (d : Bool) → tx_in t (in_doubt shard log) ≡ d → is_present (stage_in (restored_parts (in_doubt shard log)) t) ≡ true → (p : ℕ × List TxId) × (prepare_of log t ≡ Some p) × (p.0 ≡ shard → ⊥)
    there t false i h = absurd (both_ways _ (gone t i) h)
    there t true i h = let p = prepare_some log t (doubt_prepared shard log t i) in (p.0, p.1, home_elsewhere shard part log t p.0 ahead p.1 i)

    uncommitted : (t : TxId) → V t ⊎ Out O (state_after shard own epoch log last journal) t → committed_in log t ≡ false
    uncommitted t (inl v) = vo t v
    uncommitted t (inr o) = o.1

    lost : (t : TxId) (p : ℕ × List TxId) → prepare_of log t ≡ Some p → tx_in t (in_doubt shard log) ≡ false → Why log shard (in_doubt shard log) t p → Lost K V O (state_after shard own epoch log last journal) t p
    lost t p e i (inl a) = inl (subst (λ l. aborted_in l t ≡ true) (sym (take_all (length log) log (omega arith))) a, gone t i)
    lost t p e i (inr (inl z)) = inr (inl (z, gone t i))
    lost t p e i (inr (inr (q, m, c, n))) =
        inr (inr (inr (q, m, inr (gone q n, c, ⊎_elim (λ h. let z = prepare_some log q h in (sx q z.0 z.1).0) (λ h. ⊎_elim (λ k. absurd (both_ways _ c k)) (λ k. (out q k).1) h) (listed_front part log [] log t q p refl ahead e m)))))

    in_doubt_now : (t : TxId) (p : ℕ × List TxId) → V t ⊎ Out O (state_after shard own epoch log last journal) t → tx_in t (in_doubt shard log) ≡ true → prepare_of log t ≡ Some p → Lost K V O (state_after shard own epoch log last journal) t p
    in_doubt_now t p (inl v) i e = vd t p v i e
    in_doubt_now t p (inr o) i e = absurd (both_ways _ o.0 (ap is_present (restored_closed (in_doubt shard log) t i)))

    reason : (t : TxId) (p : ℕ × List TxId) → V t ⊎ Out O (state_after shard own epoch log last journal) t → prepare_of log t ≡ Some p → (d : Bool) → tx_in t (in_doubt shard log) ≡ d → Lost K V O (state_after shard own epoch log last journal) t p
    reason t p w e true i = in_doubt_now t p w i e
    reason t p w e false i = lost t p e i (not_in_doubt shard part log t p ahead e i (uncommitted t w))

barred_revived : (K V O O' Q : TxId → Type 0) (s : Shard) (kept : Bool) (epoch : ℕ) (log : List LogRecord) → Restarts s (log_left s kept) epoch log → Counted s → ((t : TxId) → Out O s t → V t) → ((t : TxId) → tx_in t (in_doubt s.shard log) ≡ true → has_standing log t ≡ true)
    → ((t : TxId) (p : ℕ × List TxId) → prepare_of log t ≡ Some p → O' t × (Q t → p.0 ≡ s.shard)) → Barred K V O Q s → Barred K V O' Q s → Barred K V O' Q (revived s epoch log)
barred_revived K V O O' Q s kept epoch log g n now wr sx b c =
    barred_state K V O' Q s.shard s.run epoch c.part log s.last s.journal (restarts_ahead c.part s (log_left s kept) epoch log g (ahead_take c.part _ s.local.log (c.lined).ahead))
    (λ t k. let o = c.gone t k in (false_from_ne_true _ (λ d. both_ways _ o.1 (front_committed _ s.local.log t (restarts_add s (log_left s kept) epoch log g t d))), o.2)) wr sx
    (λ t v. false_from_ne_true _ (λ c. both_ways _ (b.open_ t v) (front_committed _ s.local.log t (restarts_add s (log_left s kept) epoch log g t c))))
    (λ t p v i e. moved t p i e (b.why t p (inl v) (front_prepare _ s.local.log t p (restarts_prepare s (log_left s kept) epoch log g t p e))))
  where
    moved : (t : TxId) (p : ℕ × List TxId) → tx_in t (in_doubt s.shard log) ≡ true → prepare_of log t ≡ Some p → Lost K V O s t p → Lost K V O' (revived s epoch log) t p
    moved t p i e (inl (a, c)) =
        absurd (both_ways _ (doubt_undecided s.shard log t i).2
        (aborted_front (log_left s false) log t (chain (log_left s false) (log_left s kept) log (left_front s kept n) (restarts_front s (log_left s kept) epoch log g)) a))
    moved t p i e (inr (inl (z, a))) = absurd (home_elsewhere s.shard b.part log t p (restarts_ahead b.part s (log_left s kept) epoch log g (ahead_take b.part _ s.local.log (b.lined).ahead)) e i z)
    moved t p i e (inr (inr (inl k))) = inr (inr (inl k))
    moved t p i e (inr (inr (inr (q, m, inl v)))) = inr (inr (inr (q, m, inl v)))
    moved t p i e (inr (inr (inr (q, m, inr o)))) = inr (inr (inr (q, m, inl (now q o))))

-- ---- each entry

never_refuses : (s : Shard) → Kept (finish s) → Refuses (with_due_done s) → ⊥
never_refuses s k (u, q, cause, g, e, c) = both_ways _ (subst (RowKeeps (finish s).local.log u q) e (k.rows u q g)) c

ends_prepared : (s : Shard) (t : TxId) (p : ℕ × List TxId) → prepare_of s.local.log t ≡ Some p → prepare_of (finish s).local.log t ≡ Some p
ends_prepared s t p e =
    let i = settled (Inside s) s (inside_due s) (inside_self s) in
    subst (λ l. prepare_of l t ≡ Some p) (i.log).1 (prepare_more s.local.log (i.log).0 t p e)

-- what is known of the state after the entry, and of the locks before it
pub record Frame (O Q : TxId → Type 0) (s t : Shard) (P : TxId → Birth → Bool → Type 0) : Type 0 where
  pub counted : Counted s
  pub rows : Rows P s.local.locks
  pub closed : (p : TxId) (b : Birth) → P p b true → stage_of s.local p ≡ Some Closed
  pub kept : Kept t
  pub stands : (u : TxId) → prepared_in t.local.log u ≡ true → stage_of t.local u ≡ Some Closed → has_standing t.local.log u ≡ true
  pub sought : (u : TxId) (p : ℕ × List TxId) → prepare_of t.local.log u ≡ Some p → O u × (Q u → p.0 ≡ s.shard)

-- b: with what is sought so far, which is of use at a restart; c: with what is sought after the entry
pub barred_made : (K V O O' Q : TxId → Type 0) (log : List LogRecord) (s t : Shard) {e : Event} {o : Outcome} (P : TxId → Birth → Bool → Type 0) → Makes log s e o t → Frame O' Q s t P → ((u : TxId) → Out O s u → V u) → OwesDown s e → Owes K V O' Q s e o → Barred K V O Q s
    → Barred K V O' Q s → Barred K V O' Q t
barred_made K V O O' Q log s _ P (by_event g (finishes {t = x} u h)) f now wd w b c =
    barred_finish K V O' Q x (never_refuses x f.kept) (barred_step K V O' Q s x h P f.rows f.closed wd (λ t p e. f.sought t p (ends_prepared x t p e)) w c)
barred_made K V O O' Q log s _ P (by_event g (stops u)) f now wd w b c = barred_same K V O' Q s (put_down s) refl refl refl c.rows c.readers c
barred_made K V O O' Q log s _ P (by_flush n u g) f now wd w b c =
    let q = (f.counted).flying n g in barred_finish K V O' Q (with_durable n s) (never_refuses (with_durable n s) f.kept) (barred_flushed K V O' Q s n q.0 q.1 c)
barred_made K V O O' Q log s _ P (by_failure n u g) f now wd w b c = barred_same K V O' Q s (put_down s) refl refl refl c.rows c.readers c
barred_made K V O O' Q log s _ P (by_restart epoch kept u r) f now wd w b c = barred_revived K V O O' Q s kept epoch (up_to_restart s.run epoch log) r f.counted now
    (λ t i. let after = up_to_restart s.run epoch log in f.stands t (doubt_prepared s.shard after t i) (restored_closed (in_doubt s.shard after) t i)) f.sought b c
