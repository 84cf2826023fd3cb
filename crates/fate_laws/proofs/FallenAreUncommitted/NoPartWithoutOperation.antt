-- Nobody has a part on a shard who did no operation there, and made no request.
use Rattle.std.proofs.Common.{◌≡◌, ◌⊎◌, inl, inr, ⊎_elim, refl, sym, ap, subst, ◌∙◌, ℕ, ◌<◌, true, false, Bool, ◌==◌, List, [], ◌∷◌, ◌++◌, Option, Some, None, append_assoc, eqb-true}
use Rattle.clv_base.specs.declared.names.TxId.{TxId}
use Rattle.clv_base.specs.declared.names.Birth.{Birth}
use Rattle.clv_base.specs.declared.ops.Op.{Op}
use Rattle.clv_base.specs.declared.ops.Answer.{Answer}
use Rattle.clv_base.specs.declared.causes.AbortCause.{AbortCause}
use Rattle.clv_base.specs.declared.causes.Vote.TheVariants.{Yes, Read, No}
use Rattle.clv_base.specs.declared.logs.LogRecord.{LogRecord}
use Rattle.clv_base.specs.declared.state.Held.{Held}
use Rattle.clv_base.specs.declared.state.Ruling.TheVariants.{Commit as CommitVerdict, Acknowledge, Abort as AbortVerdict, End as EndVerdict}
use Rattle.clv_base.specs.declared.state.Stage.{Stage}
use Rattle.clv_base.specs.declared.state.Stage.TheVariants.{Active}
use Rattle.clv_base.specs.declared.events.Event.{Event}
use Rattle.clv_base.specs.declared.events.Event.TheVariants.{Op as OpEvent}
use Rattle.clv_base.specs.declared.events.Outcome.{Outcome}
use Rattle.clv_base.specs.declared.events.Outcome.TheVariants.{Answered}
use Rattle.clv_base.specs.Shards.{shard_count}
use Rattle.clv_base.specs.LogRules.{log_of}
use Rattle.clv_base.specs.Orders.{Table, tx_same, tx_in}
use Rattle.clv_base.specs.Logs.{prepared_in, in_doubt}
use Rattle.clv_base.specs.State.{Shard, Local, is_present}
use Rattle.clv_base.specs.Undo.{stage_of, gone_in, doomed_here}
use Rattle.clv_base.specs.OneShard.{OpDies, OpAnswers, rolled_back_if, closed_in}
use Rattle.clv_base.specs.Events.{finish, with_durable}
use Rattle.clv_base.specs.Restarts.{run_after, log_after_restart, revived}
use Rattle.clv_base.specs.Journals.{History, event_state, up_to_restart}
use Rattle.clv_base.proofs.SameNames.{tx_true}
use Rattle.law_base.proofs.Changed.{none_some}
use Rattle.law_base.proofs.Tables.{stage_in}
use Rattle.history_cases.proofs.Stepping.{commits, votes, rules, KeptByDue, settled, Step, op_dies, op_answers, request_closes, drops, prepare_closes, decision_comes, finishes, stops}
use Rattle.history_cases.proofs.Entering.{Makes, by_event, by_flush, by_failure, by_restart, makes}
use Rattle.history_cases.proofs.Merging.{Placed, Among, among_left, among_right}
use Rattle.history_cases.proofs.Worlds.{state_at}
use Rattle.law_base.proofs.Stages.{closed_other, stage_own, stage_other, gone_by, stage_marked}
use Rattle.history_laws.specs.Openings.{LegalFrom}
use Rattle.shard_laws.proofs.Restarts.RestoredLocksAndParts.{restored_none}
use Rattle.shard_laws.proofs.Order.ChangesKeepOrder.{prepare_some}
use Rattle.history_laws.proofs.Entries.WhatOperationsDo.{OpIs, dies, rolls, performs, reply_is}
use Rattle.fate_laws.proofs.Origins.FrontsKeepOrigins.{traced_front}
use Rattle.fate_laws.proofs.History.EntryByEntry.{Next, next_at, stays_as_it_was, asked_later}
use Rattle.fate_laws.proofs.Parts.FrontsKeepParts.{bindings_front}
use Rattle.fate_laws.proofs.FallenAreUncommitted.StepsKeepOutUncommitted.{performed_other}
use Rattle.fate_laws.proofs.FallenAreUncommitted.FrontsKeepOutUncommitted.{Met, met_front, prepared_asked, walk_on}
use Rattle.history_laws.proofs.Logs.DoubtedAreUndecided.{doubt_prepared}

-- ---- parts that aren't there

gone_none : (set : List TxId) (d : Option TxId) (parts : Table Held) (t : TxId) → stage_in parts t ≡ None → stage_in (gone_in set d parts) t ≡ None
gone_none set d parts t e = at (tx_in t set) refl
  where
    at : (b : Bool) → tx_in t set ≡ b → stage_in (gone_in set d parts) t ≡ None
    at true i = stage_own set d t parts i ∙ ap (gone_by d) e
    at false i = stage_other set d t parts i ∙ e

due_none : (t : TxId) → KeptByDue (λ s. stage_of s.local t ≡ None)
due_none t s _ (commits u a b) h = gone_none (u ∷ []) None s.local.parts t h
due_none t s _ (votes u v Yes a b) h = h
due_none t s _ (votes u v Read a b) h = gone_none (u ∷ []) None s.local.parts t h
due_none t s _ (votes u v (No why) a b) h = h
due_none t s _ (rules u q (CommitVerdict parts) a b) h = h
due_none t s _ (rules u q Acknowledge a b) h = gone_none (u ∷ []) None s.local.parts t h
due_none t s _ (rules u q (AbortVerdict cause to) a b) h = gone_none (doomed_here s.local u) (Some u) s.local.parts t h
due_none t s _ (rules u q EndVerdict a b) h = h

finish_none : (t : TxId) (s : Shard) → stage_of s.local t ≡ None → stage_of (finish s).local t ≡ None
finish_none t s h = settled (λ z. stage_of z.local t ≡ None) s (due_none t) h

-- an operation of it was answered
abbrev pub DoesNow : TxId → Event → Outcome → Type 0
DoesNow t e o = (birth : Birth) × (nth : ℕ) × (seen : Option ℕ) × (op : Op) × (a : Answer) × (ep : ℕ) × (e ≡ OpEvent t birth nth seen op) × (o ≡ Answered a ep)

died_none : (l m : Local) (u : TxId) (birth : Birth) (seen : Option ℕ) (op : Op) (c : AbortCause) (t : TxId) → OpIs l u birth seen op (OpDies c m) → stage_of l t ≡ None → stage_of m t ≡ None
died_none l _ u birth seen op c t dies h = h
died_none l _ u birth seen op c t rolls h = gone_none (doomed_here l u) (Some u) l.parts t h

answered_none : (l m : Local) (u : TxId) (birth : Birth) (seen : Option ℕ) (op : Op) (a : Answer) (t : TxId) → OpIs l u birth seen op (OpAnswers a m) → tx_same t u ≡ false → stage_of l t ≡ None → stage_of m t ≡ None
answered_none l _ u birth seen op _ t (performs f e) n h = performed_other l u t birth op n ∙ h

closed_none : (parts : Table Held) (u t : TxId) → stage_in parts u ≡ Some Active → stage_in parts t ≡ None → stage_in (closed_in u parts) t ≡ None
closed_none parts u t a h = at (tx_same u t) refl
  where
    at : (b : Bool) → tx_same u t ≡ b → stage_in (closed_in u parts) t ≡ None
    at true e = absurd (none_some Active (sym h ∙ subst (λ z. stage_in parts z ≡ Some Active) (tx_true u t e) a))
    at false e = closed_other parts u t e ∙ h

without_none : (l : Local) (u t : TxId) (b : Bool) → stage_of l t ≡ None → stage_of (rolled_back_if b u l) t ≡ None
without_none l u t true h = gone_none (doomed_here l u) (Some u) l.parts t h
without_none l u t false h = h

step_none : (s x : Shard) {e : Event} {o : Outcome} (t : TxId) → Step s e o x → stage_of s.local t ≡ None → (stage_of x.local t ≡ None) ⊎ DoesNow t e o
step_none s _ t (op_dies u birth nth seen op cause l g) h = inl (died_none s.local l u birth seen op cause t (reply_is s.shard s.local u birth seen op _ g) h)
step_none s _ t (op_answers u birth nth seen op answer l g) h = at (tx_same t u) refl
  where
    at : (b : Bool) → tx_same t u ≡ b → (stage_of l t ≡ None) ⊎ DoesNow t (OpEvent u birth nth seen op) (Answered answer s.local.epoch)
    at true e = inr (birth, nth, seen, op, answer, s.local.epoch, ap (λ z. OpEvent z birth nth seen op) (sym (tx_true t u e)), refl)
    at false e = inl (answered_none s.local l u birth seen op answer t (reply_is s.shard s.local u birth seen op _ g) e h)
step_none s _ t (request_closes u ts f0 g) h = inl (closed_none s.local.parts u t g h)
step_none s _ t (drops u stage g) h =
    inl (stage_marked u t (rolled_back_if (is_present (stage_of s.local u)) u s.local).parts ∙ without_none s.local u t (is_present (stage_of s.local u)) h)
step_none s _ t (prepare_closes u home seen stamp g) h = inl (closed_none s.local.parts u t g h)
step_none s _ t (decision_comes u home false stamp g) h = inl (gone_none (doomed_here s.local u) (Some u) s.local.parts t h)
step_none s _ t _ h = inl h

pub none_made : (log : List LogRecord) (s x : Shard) {e : Event} {o : Outcome} (t : TxId) → Makes log s e o x → stage_of s.local t ≡ None → (stage_of x.local t ≡ None) ⊎ ((prepared_in x.local.log t ≡ true) ⊎ DoesNow t e o)
none_made log s _ t (by_event g (finishes {t = y} u f)) h = ⊎_elim (λ k. inl (finish_none t y k)) (λ k. inr (inr k)) (step_none s y t f h)
none_made log s _ t (by_event g (stops u)) h = inl h
none_made log s _ t (by_flush n u f) h = inl (finish_none t (with_durable n s) h)
none_made log s _ t (by_failure n u f) h = inl h
none_made log s _ {e} {o} t (by_restart epoch kept u r) h = at (tx_in t (in_doubt s.shard (up_to_restart s.run epoch log))) refl
  where
    at : (b : Bool) → tx_in t (in_doubt s.shard (up_to_restart s.run epoch log)) ≡ b
        → (stage_of (revived s epoch (up_to_restart s.run epoch log)).local t ≡ None) ⊎ ((prepared_in (up_to_restart s.run epoch log) t ≡ true) ⊎ DoesNow t e o)
    at true i = inr (inl (doubt_prepared s.shard (up_to_restart s.run epoch log) t i))
    at false i = inl (restored_none (in_doubt s.shard (up_to_restart s.run epoch log)) t i)

-- ---- along the history

AllMet : (splits : List ℕ) (before after : List (List LogRecord)) (pre : History) → Type 0
AllMet splits before after pre = (n : ℕ) → n < shard_count splits → (t : TxId) (st : Stage) → stage_of (state_at before after n pre).local t ≡ Some st → Met before pre pre n t

module _ {splits : List ℕ} {before after : List (List LogRecord)} {h : History} (l : LegalFrom splits before h after) where
  met_next : (pre : History) (e : Placed) (post : History) → pre ++ e ∷ post ≡ h → AllMet splits before after pre → AllMet splits before after (pre ++ e ∷ [])
  unfolding AllMet
  met_next pre e post q k n i t st c = at (e.0 == n) refl c
    where
      w : Next splits before after h pre e
      w = next_at splits before after h pre e post l.legal q

      later : (pre ++ e ∷ []) ++ post ≡ h
      later = append_assoc pre (e ∷ []) post ∙ q

      more : (m : ℕ) → Met before pre pre m t → Met before (pre ++ e ∷ []) (pre ++ e ∷ []) m t
      more m y = met_front before pre pre (pre ++ e ∷ []) (pre ++ e ∷ []) m t (λ j a. asked_later pre e t j a) (λ y i. among_left y pre (e ∷ []) i) y

      by_entry : (stage_of (state_at before after e.0 (pre ++ e ∷ [])).local t ≡ None) ⊎ ((prepared_in (state_at before after e.0 (pre ++ e ∷ [])).local.log t ≡ true) ⊎ DoesNow t (e.1).event (e.1).outcome)
          → stage_of (state_at before after e.0 (pre ++ e ∷ [])).local t ≡ Some st → Met before (pre ++ e ∷ []) (pre ++ e ∷ []) e.0 t
      by_entry (inl z) d = absurd (none_some st (sym z ∙ d))
      by_entry (inr (inl z)) d =
          let p = prepare_some (state_at before after e.0 (pre ++ e ∷ [])).local.log t z in
          inl (prepared_asked splits before after h (pre ++ e ∷ []) e.0 l.legal (λ y j. subst (Among y) later (among_left y (pre ++ e ∷ []) post j)) (bindings_front l (pre ++ e ∷ []) post later).fated w.inside t p.0 p.1).0
      by_entry (inr (inr (birth, nth, seen, op, a, ep, z, y))) d =
          let tr = (traced_front l (pre ++ e ∷ []) post later).states e.0 w.inside in
          let mine : Among e (pre ++ e ∷ []) = among_right e pre (e ∷ []) (inl refl) in
          inr (ep, (birth, (e, mine, refl, record { seen = seen; answer = a; at = record { nth = nth; op = op; is = z }; outcome = y; saw = (tr.epochs e t birth nth seen op a ep mine refl z y).1 })))

      here : (so : Option Stage) → stage_of (state_at before after e.0 pre).local t ≡ so → stage_of (state_at before after e.0 (pre ++ e ∷ [])).local t ≡ Some st → Met before (pre ++ e ∷ []) (pre ++ e ∷ []) e.0 t
      here (Some old) b d = more e.0 (k e.0 w.inside t old b)
      here None b d =
          let s = state_at before after e.0 pre in
          by_entry
          (subst (λ (z : Shard). (stage_of z.local t ≡ None) ⊎ ((prepared_in z.local.log t ≡ true) ⊎ DoesNow t (e.1).event (e.1).outcome)) (sym (w.split).next)
          (none_made (log_of after e.0) s (event_state (log_of after e.0) s (e.1).event (e.1).outcome) t (makes (log_of after e.0) s (e.1).event (e.1).outcome ((w.split).enters).event) b)) d

      at : (b : Bool) → (e.0 == n) ≡ b → stage_of (state_at before after n (pre ++ e ∷ [])).local t ≡ Some st → Met before (pre ++ e ∷ []) (pre ++ e ∷ []) n t
      at true f d =
          let m = eqb-true e.0 n f in
          subst (λ z. Met before (pre ++ e ∷ []) (pre ++ e ∷ []) z t) m (here (stage_of (state_at before after e.0 pre).local t) refl (subst (λ z. stage_of (state_at before after z (pre ++ e ∷ [])).local t ≡ Some st) (sym m) d))
      at false f d = more n (k n i t st (subst (λ (z : Shard). stage_of z.local t ≡ Some st) (stays_as_it_was before after n e pre f) d))

  met_start : AllMet splits before after []
  unfolding AllMet
  met_start n i t st c = at (tx_in t (in_doubt n (log_after_restart n (log_of before n) (run_after before) 0))) refl
    where
      at : (b : Bool) → tx_in t (in_doubt n (log_after_restart n (log_of before n) (run_after before) 0)) ≡ b → Met before [] [] n t
      at false j = absurd (none_some st (sym (restored_none (in_doubt n (log_after_restart n (log_of before n) (run_after before) 0)) t j) ∙ c))
      at true j =
          let p = prepare_some (log_after_restart n (log_of before n) (run_after before) 0) t (doubt_prepared n (log_after_restart n (log_of before n) (run_after before) 0) t j) in
          inl (prepared_asked splits before after h [] n l.legal (λ y k. elim k [ ]) (bindings_front l [] h refl).fated i t p.0 p.1).0

  pub parts_met : (pre post : History) → pre ++ post ≡ h → (n : ℕ) → n < shard_count splits → (t : TxId) (st : Stage)
      → stage_of (state_at before after n pre).local t ≡ Some st → Met before pre pre n t
  unfolding AllMet
  parts_met pre post q n i t st c = walk_on (AllMet splits before after) h [] pre post q met_next met_start n i t st c
