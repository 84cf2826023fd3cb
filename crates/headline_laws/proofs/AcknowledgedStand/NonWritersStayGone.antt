-- Of whom no write stands on a shard and who is gone there, by no abort, stays so.
use Rattle.std.proofs.Common.{◌≡◌, ◌⊎◌, inl, inr, ⊎_elim, refl, sym, ap, subst, ◌∙◌, ℕ, true, false, Bool, ◌&&◌, ◌==◌, List, [], ◌∷◌, ◌++◌, Option, Some, None, append_assoc}
use Rattle.std.specs.List.{list_all}
use Rattle.std.proofs.lemmas.Bool.{both_ways, and_parts, or_cases, or_left, false_from_ne_true, or_from}
use Rattle.clv_base.specs.declared.names.TxId.{TxId}
use Rattle.clv_base.specs.declared.names.Birth.{Birth}
use Rattle.clv_base.specs.declared.ops.Op.{Op}
use Rattle.clv_base.specs.declared.ops.Answer.{Answer}
use Rattle.clv_base.specs.declared.causes.AbortCause.{AbortCause}
use Rattle.clv_base.specs.declared.causes.Vote.TheVariants.{Yes, Read, No}
use Rattle.clv_base.specs.declared.logs.LogRecord.{LogRecord}
use Rattle.clv_base.specs.declared.logs.LogRecord.TheVariants.{Prepare as PrepareRecord, Commit, End}
use Rattle.clv_base.specs.declared.state.Held.{Held}
use Rattle.clv_base.specs.declared.state.Request.{Request}
use Rattle.clv_base.specs.declared.state.Stage.{Stage}
use Rattle.clv_base.specs.declared.state.Stage.TheVariants.{Active, Closed, Gone}
use Rattle.clv_base.specs.declared.state.Ruling.TheVariants.{Commit as CommitVerdict, Acknowledge, Abort as AbortVerdict, End as EndVerdict}
use Rattle.clv_base.specs.declared.events.Event.{Event}
use Rattle.clv_base.specs.declared.events.Event.TheVariants.{Op as OpEvent}
use Rattle.clv_base.specs.declared.events.Outcome.{Outcome}
use Rattle.clv_base.specs.Orders.{Table, tx_same, tx_in, tx_get}
use Rattle.clv_base.specs.declared.changes.Change.{Change}
use Rattle.clv_base.specs.declared.changes.Change.TheVariants.{Sets, Adds}
use Rattle.clv_base.specs.Backs.{standing_numbers, count_after}
use Rattle.clv_base.specs.Logs.{wrote_in, has_standing, prepared_in, committed_in, standing, in_doubt, is_winner}
use Rattle.clv_base.specs.Needs.{writes_of, value_at, key_of}
use Rattle.clv_base.specs.State.{Shard, Local, is_present}
use Rattle.clv_base.specs.Undo.{stage_of, gone_in, doomed_by, doomed_here, roll_back, roll_to, aborts_of, clrs_by, clrs_of, newest_lsns, is_at, release_parts}
use Rattle.clv_base.specs.Facts.{facts_of, is_waiting, undecided_of, has_durable_commit}
use Rattle.clv_base.specs.Coordinator.{others, is_agreed, is_good, vote_from}
use Rattle.clv_base.specs.OneShard.{OpDies, OpAnswers, purge, update_of, written, locked, performed, rolled_back_if, closing, close_part, mark_dropped}
use Rattle.clv_base.specs.Due.{with_due_done}
use Rattle.clv_base.specs.Events.{is_alone, finish, with_durable}
use Rattle.clv_base.specs.Restarts.{restart_records, log_after_restart, log_left, revived, Restarts}
use Rattle.clv_base.specs.Journals.{up_to_restart}
use Rattle.clv_base.proofs.SameNames.{tx_ne}
use Rattle.law_base.proofs.Commits.{committed_append, committed_keeps}
use Rattle.law_base.proofs.Logs.{clrs_undo_by}
use Rattle.law_base.proofs.Standing.{has_write, has_filter, stood_before}
use Rattle.law_base.proofs.Tables.{stage_by, stage_in}
use Rattle.law_base.proofs.Sets.{in_filter}
use Rattle.shard_laws.specs.OneShard.{is_doomed}
use Rattle.law_base.proofs.Stages.{closed_other, other_part, gone_by, stage_own, stage_other, stage_marked}
use Rattle.shard_laws.proofs.Keeping.RecordsOfAnUndo.{no_commits, no_writes, no_prepares, undo_commits, undo_writes, undo_prepares}
use Rattle.shard_laws.proofs.Keeping.ChangesKeepPrepared.{prepared_append}
use Rattle.shard_laws.proofs.Restarts.RestoredLocksAndParts.{restored_none}
use Rattle.shard_laws.proofs.Restarts.WinnersKeepTheirWrites.{standing_whole}
use Rattle.shard_laws.proofs.Events.DueKeeps.{waiting_here}
use Rattle.history_laws.proofs.Entries.WhatOperationsDo.{OpIs, dies, rolls, performs, reply_is}
use Rattle.history_cases.proofs.Stepping.{Due, commits, votes, rules, settled, Step, op_dies, op_answers, rolls_back, request_closes, drops, prepare_closes, decision_comes, finishes, stops}
use Rattle.history_cases.proofs.Entering.{Makes, by_event, by_flush, by_failure, by_restart}
use Rattle.history_cases.proofs.TellingEvents.{front_committed}
use Rattle.history_cases.proofs.Uncommitting.{restarts_add}
use Rattle.fate_laws.proofs.Parts.CommitsHaveTheirParts.{taken_closed}
use Rattle.fate_laws.proofs.Homes.ShardKnowsHomes.{still_not}
use Rattle.fate_laws.proofs.Parts.CommittedAreVotedFor.{commit_agreed}
use Rattle.fate_laws.proofs.Parts.RestartsKeepParts.{revived_prepares}
use Rattle.fate_laws.proofs.Parts.BoundStaysBound.{NotOwn}
use Rattle.history_laws.proofs.Logs.DoubtedAreUndecided.{doubt_prepared}

-- its part was never known here since the shard came up, or it is finished
abbrev pub IsOut : Option Stage → Type 0
IsOut o = (o ≡ None) ⊎ (o ≡ Some (Gone None))

pub record Quiet (l : Local) (t : TxId) : Type 0 where
  pub out : IsOut (stage_of l t)
  pub unwritten : has_standing l.log t ≡ false
  pub unprepared : prepared_in l.log t ≡ false
  pub uncommitted : committed_in l.log t ≡ false

out_absent : (o : Option Stage) → IsOut o → is_present o ≡ false
out_absent o (inl e) = subst (λ z. is_present z ≡ false) (sym e) refl
out_absent o (inr e) = subst (λ z. is_present z ≡ false) (sym e) refl

out_undoomed : (o : Option Stage) → IsOut o → is_doomed o ≡ false
out_undoomed o (inl e) = subst (λ z. is_doomed z ≡ false) (sym e) refl
out_undoomed o (inr e) = subst (λ z. is_doomed z ≡ false) (sym e) refl

pub quiet_absent : (l : Local) (t : TxId) → Quiet l t → is_present (stage_of l t) ≡ false
quiet_absent l t k = out_absent (stage_of l t) k.out

pub quiet_undoomed : (l : Local) (t : TxId) → Quiet l t → is_doomed (stage_of l t) ≡ false
quiet_undoomed l t k = out_undoomed (stage_of l t) k.out

-- who is here is another
another : (l : Local) (t u : TxId) → is_present (stage_of l u) ≡ true → Quiet l t → t ≡ u → ⊥
another l t u h k e = both_ways _ (quiet_absent l t k) (subst (λ z. is_present (stage_of l z) ≡ true) (sym e) h)

pub active_here : (l : Local) (u : TxId) → stage_of l u ≡ Some Active → is_present (stage_of l u) ≡ true
active_here l u e = subst (λ o. is_present o ≡ true) (sym e) refl

pub closed_here : (l : Local) (u : TxId) → stage_of l u ≡ Some Closed → is_present (stage_of l u) ≡ true
closed_here l u e = subst (λ o. is_present o ≡ true) (sym e) refl

-- ---- records of others

record Foreign (rs : List LogRecord) (t : TxId) : Type 0 where
  writes : wrote_in rs t ≡ false
  prepares : prepared_in rs t ≡ false
  commits : committed_in rs t ≡ false

quiet_more : (l m : Local) (more : List LogRecord) (t : TxId) → m.log ≡ l.log ++ more → Foreign more t → IsOut (stage_of m t) → Quiet l t → Quiet m t
quiet_more l m more t e f o k = record {
  out = o;
  unwritten = subst (λ z. has_standing z t ≡ false) (sym e) (still_not (has_standing l.log t) (has_standing (l.log ++ more) t) (stood_before l.log more t f.writes) k.unwritten);
  unprepared = subst (λ z. prepared_in z t ≡ false) (sym e) (prepared_append l.log more t ∙ or_from _ _ k.unprepared f.prepares);
  uncommitted = subst (λ z. committed_in z t ≡ false) (sym e) (committed_append l.log more t ∙ or_from _ _ k.uncommitted f.commits);
}

foreign_none : (t : TxId) → Foreign [] t
foreign_none t = record { writes = refl; prepares = refl; commits = refl }

foreign_update : (t u : TxId) (key : ℕ) (c : Change) → tx_same t u ≡ false → Foreign (update_of u key c ∷ []) t
foreign_update t u key (Sets before after) n = record { writes = or_from _ _ n refl; prepares = refl; commits = refl }
foreign_update t u key (Adds by) n = record { writes = or_from _ _ n refl; prepares = refl; commits = refl }

foreign_prepare : (t u : TxId) (home : ℕ) (us : List TxId) → tx_same t u ≡ false → Foreign (PrepareRecord u home us ∷ []) t
foreign_prepare t u home us n = record { writes = refl; prepares = or_from _ _ n refl; commits = refl }

foreign_commit : (t u : TxId) (parts : List ℕ) → tx_same t u ≡ false → Foreign (Commit u parts ∷ []) t
foreign_commit t u parts n = record { writes = refl; prepares = refl; commits = or_from _ _ n refl }

foreign_end : (t u : TxId) → Foreign (End u ∷ []) t
foreign_end t u = record { writes = refl; prepares = refl; commits = refl }

foreign_closing : (t u : TxId) (home : ℕ) (b one : Bool) (us : List TxId) → tx_same t u ≡ false → Foreign (closing b one u home us) t
foreign_closing t u home false one us n = foreign_none t
foreign_closing t u home true true [] n = foreign_commit t u [] n
foreign_closing t u home true true (v ∷ vs) n = foreign_prepare t u home (v ∷ vs) n
foreign_closing t u home true false us n = foreign_prepare t u home us n

-- ---- parts of others

out_gone : (set : List TxId) (d : Option TxId) (t : TxId) (parts : Table Held) → (tx_in t set ≡ true → d ≡ None) → IsOut (stage_in parts t) → IsOut (stage_in (gone_in set d parts) t)
out_gone set d t parts k o = at (tx_in t set) refl o
  where
    at : (b : Bool) → tx_in t set ≡ b → IsOut (stage_in parts t) → IsOut (stage_in (gone_in set d parts) t)
    at true i (inl e) = inl (stage_own set d t parts i ∙ ap (gone_by d) e)
    at true i (inr e) = inr (stage_own set d t parts i ∙ ap (gone_by d) e ∙ ap (λ z. Some (Gone z)) (k i))
    at false i o = subst IsOut (sym (stage_other set d t parts i)) o

quiet_finished : (l : Local) (u t : TxId) → Quiet l t → Quiet (release_parts (u ∷ []) None l) t
quiet_finished l u t k =
    record { out = out_gone (u ∷ []) None t l.parts (λ i. refl) k.out; unwritten = k.unwritten; unprepared = k.unprepared; uncommitted = k.uncommitted }

quiet_rolled : (l : Local) (u t : TxId) → Quiet l t → Quiet (roll_back u l) t
quiet_rolled l u t k =
    let set = doomed_here l u in
    let more = aborts_of l.log set ++ clrs_of set (standing l.log) in
    quiet_more l (roll_back u l) more t (append_assoc l.log (aborts_of l.log set) (clrs_of set (standing l.log)))
    (record { writes = no_writes set t l.log; prepares = no_prepares set t l.log; commits = no_commits set t l.log })
    (out_gone set (Some u) t l.parts (λ i. absurd (both_ways _ (quiet_absent l t k) (in_filter (λ v. is_present (stage_of l v)) t (doomed_by l u) i).1)) k.out) k

-- a going back
quiet_back : (l : Local) (u t : TxId) (n : ℕ) → Quiet l t → Quiet (roll_to u n l) t
quiet_back l u t n k =
    let gone = is_at (newest_lsns n u (standing l.log)) in
    let more = clrs_by gone (standing l.log) in
    let undo = clrs_undo_by gone (standing l.log) in
    quiet_more l (roll_to u n l) more t refl (record { writes = undo_writes t more undo; prepares = undo_prepares t more undo; commits = undo_commits t more undo }) k.out k

quiet_closed : (l : Local) (u t : TxId) (home : ℕ) (one : Bool) → stage_of l u ≡ Some Active → Quiet l t → Quiet (close_part u home one l) t
quiet_closed l u t home one a k =
    let n = another l t u (active_here l u a) k in
    quiet_more l (close_part u home one l) (closing (has_standing l.log u) one u home (undecided_of l u)) t refl (foreign_closing t u home (has_standing l.log u) one (undecided_of l u) (tx_ne t u n))
    (subst IsOut (sym (closed_other l.parts u t (tx_ne u t (λ e. n (sym e))))) k.out) k

quiet_written : (l : Local) (u t : TxId) (w : Option (ℕ × Change)) → tx_same t u ≡ false → Quiet l t → Quiet (written u w l) t
quiet_written l u t None n k = k
quiet_written l u t (Some w) n k = quiet_more l (written u (Some w) l) (update_of u w.0 w.1 ∷ []) t refl (foreign_update t u w.0 w.1 n) k.out k

quiet_performed : (l : Local) (u t : TxId) (birth : Birth) (op : Op) → tx_same t u ≡ false → Quiet l t → Quiet (performed u birth op l) t
quiet_performed l u t birth op n k =
    quiet_written (locked u birth op l) u t (writes_of op (value_at (key_of op) l.records)) n
    (record { out = subst IsOut (sym (ap stage_by (other_part u birth l.parts t (tx_get u l.parts) n))) k.out; unwritten = k.unwritten; unprepared = k.unprepared; uncommitted = k.uncommitted })

quiet_answers : (l m : Local) (u t : TxId) (birth : Birth) (seen : Option ℕ) (op : Op) (a : Answer) → OpIs l u birth seen op (OpAnswers a m) → tx_same t u ≡ false → Quiet l t → Quiet m t
quiet_answers l _ u t birth seen op _ (performs f e) n k = quiet_performed l u t birth op n k

quiet_dies : (l m : Local) (u t : TxId) (birth : Birth) (seen : Option ℕ) (op : Op) (c : AbortCause) → OpIs l u birth seen op (OpDies c m) → Quiet l t → Quiet m t
quiet_dies l _ u t birth seen op c dies k = k
quiet_dies l _ u t birth seen op c rolls k = quiet_rolled l u t k

quiet_without : (l : Local) (u t : TxId) (b : Bool) → Quiet l t → Quiet (rolled_back_if b u l) t
quiet_without l u t true k = quiet_rolled l u t k
quiet_without l u t false k = k

quiet_marked : (l : Local) (u t : TxId) → Quiet l t → Quiet (mark_dropped u l) t
quiet_marked l u t k = record { out = subst IsOut (sym (stage_marked u t l.parts)) k.out; unwritten = k.unwritten; unprepared = k.unprepared; uncommitted = k.uncommitted }

quiet_committed : (l : Local) (u t : TxId) (parts : List ℕ) → stage_of l u ≡ Some Closed → Quiet l t → Quiet (record l { log = l.log ++ Commit u parts ∷ [] }) t
quiet_committed l u t parts c k =
    quiet_more l (record l { log = l.log ++ Commit u parts ∷ [] }) (Commit u parts ∷ []) t refl (foreign_commit t u parts (tx_ne t u (another l t u (closed_here l u c) k))) k.out k

-- ---- each step

pub quiet_step : (s x : Shard) {e : Event} {o : Outcome} (t : TxId) → Step s e o x → NotOwn t e → Quiet s.local t → Quiet x.local t
quiet_step s _ t (op_dies u birth nth seen op cause l g) n k = quiet_dies s.local l u t birth seen op cause (reply_is s.shard s.local u birth seen op _ g) k
quiet_step s _ t (op_answers u birth nth seen op answer l g) n k =
    quiet_answers s.local l u t birth seen op answer (reply_is s.shard s.local u birth seen op _ g) (tx_ne t u (λ e. n birth nth seen op (ap (λ v. OpEvent v birth nth seen op) (sym e)))) k
quiet_step s _ t (rolls_back u nth seen upto f g) n k = quiet_back s.local u t (count_after upto (standing_numbers u s.journal)) k
quiet_step s _ t (request_closes u ts f g) n k = quiet_closed s.local u t s.shard (is_alone (others s.shard ts)) g k
quiet_step s _ t (drops u stage g) n k =
    let b = is_present (stage_of s.local u) in quiet_marked (rolled_back_if b u s.local) u t (quiet_without s.local u t b k)
quiet_step s _ t (prepare_closes u home seen stamp g) n k = quiet_closed s.local u t home false g k
quiet_step s _ t (decision_comes u home true stamp g) n k = quiet_committed s.local u t [] (taken_closed s u (is_waiting (facts_of s u)) (true && has_durable_commit (facts_of s u)) refl g) k
quiet_step s _ t (decision_comes u home false stamp g) n k = quiet_rolled s.local u t k
quiet_step s _ t _ n k = k

-- ---- what is due

pub agreed_closed : (s : Shard) (u : TxId) (q : Request) → is_agreed s.shard q (facts_of s u) ≡ true → (stage_of s.local u ≡ Some Closed) × (committed_in s.local.log u ≡ false)
agreed_closed s u q a =
    let f = facts_of s u in
    let p = and_parts (is_waiting f && (f.undecided == 0)) (list_all (λ p. is_good (vote_from p q.votes)) (others s.shard q.touched)) a in
    waiting_here s u (and_parts (is_waiting f) (f.undecided == 0) p.0).0

pub quiet_due : (s x : Shard) (t : TxId) → Due s (Some x) → Quiet s.local t → Quiet x.local t
quiet_due s _ t (commits u a b) k = quiet_finished s.local u t k
quiet_due s _ t (votes u v Yes a b) k = k
quiet_due s _ t (votes u v Read a b) k = quiet_finished s.local u t k
quiet_due s _ t (votes u v (No why) a b) k = k
quiet_due s _ t (rules u q (CommitVerdict parts) a b) k = quiet_committed s.local u t parts (agreed_closed s u q (commit_agreed s.shard u q (facts_of s u) parts b).1).0 k
quiet_due s _ t (rules u q Acknowledge a b) k = quiet_finished s.local u t k
quiet_due s _ t (rules u q (AbortVerdict cause to) a b) k = quiet_rolled s.local u t k
quiet_due s _ t (rules u q EndVerdict a b) k = quiet_more s.local (record s.local { log = s.local.log ++ End u ∷ [] }) (End u ∷ []) t refl (foreign_end t u) k.out k

pub quiet_purged : (l : Local) (t : TxId) → Quiet l t → Quiet (purge l) t
quiet_purged l t k = record { out = k.out; unwritten = k.unwritten; unprepared = k.unprepared; uncommitted = k.uncommitted }

quiet_finish : (x : Shard) (t : TxId) → Quiet x.local t → Quiet (finish x).local t
quiet_finish x t k = quiet_purged (with_due_done x).local t (settled (λ z. Quiet z.local t) x (λ a b d h. quiet_due a b t d h) k)

-- ---- behind a restart a write stands of those alone that are committed or prepared

won : (shard : ℕ) (log : List LogRecord) (run epoch : ℕ) (t : TxId) → has_standing (log_after_restart shard log run epoch) t ≡ true → is_winner shard log t ≡ true
won shard log run epoch t h =
    (and_parts (is_winner shard log t) (has_standing log t)
    (sym (has_filter (is_winner shard log) (standing log) t) ∙ sym (ap (λ ws. has_write ws t) (standing_whole shard log run epoch)) ∙ h)).0

pub restarted_stands : (s : Shard) (found : List LogRecord) (epoch : ℕ) (log : List LogRecord) (t : TxId) → Restarts s found epoch log → has_standing log t ≡ true → (committed_in log t ≡ true) ⊎ (prepared_in log t ≡ true)
restarted_stands s found epoch log t (left, f, e, a) h =
    let more = restart_records s.shard left s.run epoch in
    let w = or_cases (committed_in left t) (tx_in t (in_doubt s.shard left)) (won s.shard left s.run epoch t (subst (λ z. has_standing z t ≡ true) a h)) in
    ⊎_elim (λ c. inl (subst (λ z. committed_in z t ≡ true) (sym a) (committed_keeps left more t c)))
    (λ d. inr (subst (λ z. prepared_in z t ≡ true) (sym a) (prepared_append left more t ∙ or_left _ _ (doubt_prepared s.shard left t d)))) w

quiet_revived : (s : Shard) (kept : Bool) (epoch : ℕ) (log : List LogRecord) (t : TxId) → Restarts s (log_left s kept) epoch log → Quiet s.local t → Quiet (revived s epoch log).local t
quiet_revived s kept epoch log t r k =
    let prepared = still_not (prepared_in s.local.log t) (prepared_in log t) (revived_prepares s kept epoch log r t) k.unprepared in
    let committed = still_not (committed_in s.local.log t) (committed_in log t) (λ h. front_committed _ s.local.log t (restarts_add s (log_left s kept) epoch log r t h)) k.uncommitted in
    record {
      out = inl (restored_none (in_doubt s.shard log) t (false_from_ne_true _ (λ i. both_ways _ k.unprepared (revived_prepares s kept epoch log r t (doubt_prepared s.shard log t i)))));
      unwritten = false_from_ne_true _ (λ h. ⊎_elim (λ c. both_ways _ committed c) (λ p. both_ways _ prepared p) (restarted_stands s (log_left s kept) epoch log t r h));
      unprepared = prepared;
      uncommitted = committed;
    }

-- ---- each entry that is no operation of it

pub quiet_made : (log : List LogRecord) (s x : Shard) {e : Event} {o : Outcome} (t : TxId) → Makes log s e o x → NotOwn t e → Quiet s.local t → Quiet x.local t
quiet_made log s _ t (by_event g (finishes {t = y} u h)) n k = quiet_finish y t (quiet_step s y t h n k)
quiet_made log s _ t (by_event g (stops u)) n k = k
quiet_made log s _ t (by_flush m u f) n k = quiet_finish (with_durable m s) t k
quiet_made log s _ t (by_failure m u f) n k = k
quiet_made log s _ t (by_restart epoch kept u r) n k = quiet_revived s kept epoch (up_to_restart s.run epoch log) t r k
