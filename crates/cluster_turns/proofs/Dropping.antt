-- A part that was dropped isn't active.
use Rattle.std.proofs.Common.{◌≡◌, ◌≢◌, refl, sym, ap, subst, ◌∙◌, ℕ, true, false, cond, Bool, List, [], ◌∷◌, ◌++◌, map, Option, Some, None}
use Rattle.std.specs.List.{AllByRecursion}
use Rattle.std.proofs.lemmas.Bool.{both_ways, false_from_ne_true}
use Rattle.clv_base.specs.declared.names.TxId.{TxId}
use Rattle.clv_base.specs.declared.names.Birth.{Birth}
use Rattle.clv_base.specs.declared.ops.Op.{Op}
use Rattle.clv_base.specs.declared.causes.Vote.{Vote}
use Rattle.clv_base.specs.declared.causes.Vote.TheVariants.{Yes, Read, No}
use Rattle.clv_base.specs.declared.logs.LogRecord.{LogRecord}
use Rattle.clv_base.specs.declared.events.Event.{Event}
use Rattle.clv_base.specs.declared.events.Event.TheVariants.{Op as OpEvent, RollTo, Request as RequestEvent, Look, Drop, Send, Deliver, Remind, FlushOut, FlushIn, Stop, Restart}
use Rattle.clv_base.specs.declared.events.Outcome.{Outcome}
use Rattle.clv_base.specs.declared.events.Outcome.TheVariants.{Durable, Failed}
use Rattle.clv_base.specs.declared.events.Entry.{Entry}
use Rattle.clv_base.specs.declared.state.Voter.{Voter}
use Rattle.clv_base.specs.declared.state.Request.{Request}
use Rattle.clv_base.specs.declared.state.Ruling.{Ruling}
use Rattle.clv_base.specs.declared.state.Ruling.TheVariants.{Commit as CommitVerdict, Acknowledge, Abort as AbortVerdict, End as EndVerdict}
use Rattle.clv_base.specs.declared.state.Stage.{Stage}
use Rattle.clv_base.specs.declared.state.Stage.TheVariants.{Active, Closed, Gone}
use Rattle.clv_base.specs.declared.state.Held.{Held}
use Rattle.clv_base.specs.declared.modes.Decision.{Decision}
use Rattle.clv_base.specs.declared.modes.Decision.TheVariants.{Grant, Wait, Die}
use Rattle.clv_base.specs.Orders.{Table, tx_same, tx_in, tx_get}
use Rattle.clv_base.specs.declared.changes.Change.{Change}
use Rattle.clv_base.specs.Logs.{in_doubt}
use Rattle.clv_base.specs.Locks.{decide}
use Rattle.clv_base.specs.State.{Local, Shard, is_active_stage, is_present}
use Rattle.clv_base.specs.Undo.{stage_of, gone_part, gone_in, doomed_here}
use Rattle.clv_base.specs.Needs.{needs_of}
use Rattle.clv_base.specs.OneShard.{OpReply, OpWaits, OpCrowded, OpDies, OpAnswers, seen_fits, op_reply, op_seen, op_by_stage, op_decided, op_granted, written, locked, active_part, new_part, without_part, rolled_back_if, closed_part, closed_in, dropped_part, marked_in}
use Rattle.clv_base.specs.Due.{finish_reader, with_vote, do_ruling, with_ruling}
use Rattle.clv_base.specs.Events.{Does, happen, finish, with_durable}
use Rattle.clv_base.specs.Restarts.{opened, restored_parts, log_after_restart}
use Rattle.clv_base.specs.Journals.{flush_state, FlushMay}
use Rattle.clv_base.specs.Machines.{BecomesBy, Runs}
use Rattle.clv_base.proofs.SameNames.{tx_true}
use Rattle.law_base.proofs.Lists.{all_mono}
use Rattle.law_base.proofs.Rows.{rows_put, rows_get}
use Rattle.history_cases.proofs.Stepping.{commits, votes, rules, KeptByDue, settled, Step, op_dies, op_answers, request_refused, request_doomed, request_again, request_new, request_closes, looks_well, looks_ill, drops, sends, prepare_closes, prepare_again, vote_counts, decision_comes, decision_again, done_counts, asked, reminds, flushes, roll_refused, roll_doomed, roll_late, roll_unknown, rolls_back, Happens, finishes, stops, happened}
use Rattle.journal_laws.specs.Endings.{ActiveAreFound}
use Rattle.journal_laws.proofs.Laws.{runs_go_on, runs_find_active}
use Rattle.law_base.proofs.Names.{in_doomed}

-- ---- rows of a table

abbrev Row : TxId × Held → Type 0
Row p = (p.1).is_dropped ≡ true → is_active_stage (p.1).stage ≡ false

abbrev Rows : Table Held → Type 0
Rows parts = AllByRecursion Row parts

-- a change of some parts that makes none active
rows_changed : (test : TxId → Bool) (f : Held → Held) → ((h : Held) → is_active_stage (f h).stage ≡ false) → (parts : Table Held) → Rows parts → Rows (map (λ p. (p.0, cond (test p.0) (f p.1) p.1)) parts)
rows_changed test f k [] a = tt
rows_changed test f k (p ∷ ps) a = (at (test p.0), rows_changed test f k ps a.1)
  where
    at : (b : Bool) → (cond b (f p.1) p.1).is_dropped ≡ true → is_active_stage (cond b (f p.1) p.1).stage ≡ false
    at true = λ h. k p.1
    at false = a.0

rows_gone : (set : List TxId) (doom : Option TxId) (parts : Table Held) → Rows parts → Rows (gone_in set doom parts)
rows_gone set doom parts a = rows_changed (λ t. tx_in t set) (gone_part doom) (λ h. refl) parts a

rows_closed : (u : TxId) (parts : Table Held) → Rows parts → Rows (closed_in u parts)
rows_closed u parts a = rows_changed (tx_same u) closed_part (λ h. refl) parts a

rows_new : (u : TxId) (b : Birth) (o : Option Held) (parts : Table Held) → Rows parts → Rows (new_part u b o parts)
rows_new u b None parts a = rows_put Row u (active_part b) parts (λ h. absurd (both_ways false refl h)) a
rows_new u b (Some h) parts a = a

-- the transaction has no active part
abbrev Quietly : TxId → Table Held → Type 0
Quietly tx parts = AllByRecursion (λ (p : TxId × Held). tx_same tx p.0 ≡ true → is_active_stage (p.1).stage ≡ false) parts

rows_marked : (u : TxId) (parts : Table Held) → Quietly u parts → Rows parts → Rows (marked_in u parts)
rows_marked u [] q a = tt
rows_marked u (p ∷ ps) q a = (at (tx_same u p.0) refl, rows_marked u ps q.1 a.1)
  where
    at : (b : Bool) → tx_same u p.0 ≡ b → (cond b (dropped_part p.1) p.1).is_dropped ≡ true → is_active_stage (cond b (dropped_part p.1) p.1).stage ≡ false
    at true e = λ h. q.0 e
    at false e = a.0

rows_written : (u : TxId) (w : Option (ℕ × Change)) (l : Local) → Rows l.parts → Rows (written u w l).parts
rows_written u None l a = a
rows_written u (Some w) l a = a

rows_rolled : (u : TxId) (b : Bool) (l : Local) → Rows l.parts → Rows (rolled_back_if b u l).parts
rows_rolled u true l a = rows_gone _ (Some u) l.parts a
rows_rolled u false l a = a

-- ---- a transaction that was taken away

quiet_taken : (tx : TxId) (set : List TxId) (doom : Option TxId) → tx_in tx set ≡ true → (parts : Table Held) → Quietly tx (gone_in set doom parts)
quiet_taken tx set doom i [] = tt
quiet_taken tx set doom i (p ∷ ps) =
    ((λ e. ap (λ b. is_active_stage (cond b (gone_part doom p.1) p.1).stage) (ap (λ t. tx_in t set) (sym (tx_true tx p.0 e)) ∙ i)), quiet_taken tx set doom i ps)

quiet_found : (s : Shard) (tx : TxId) → ActiveAreFound s → stage_of s.local tx ≢ Some Active → Quietly tx s.local.parts
quiet_found s tx a n =
    all_mono (λ (p : TxId × Held). is_active_stage (p.1).stage ≡ true → tx_get p.0 s.local.parts ≡ Some p.1) (λ (p : TxId × Held). tx_same tx p.0 ≡ true → is_active_stage (p.1).stage ≡ false)
    (λ p k e. false_from_ne_true (is_active_stage (p.1).stage) (λ h. n (active p e h (k h)))) s.local.parts a
  where
    is : (st : Stage) → is_active_stage st ≡ true → st ≡ Active
    is Active h = refl
    is Closed h = absurd (both_ways false refl h)
    is (Gone d) h = absurd (both_ways false refl h)

    active : (p : TxId × Held) → tx_same tx p.0 ≡ true → is_active_stage (p.1).stage ≡ true → tx_get p.0 s.local.parts ≡ Some p.1 → stage_of s.local tx ≡ Some Active
    active p e h g =
        ap (λ o. elim o [ Some h ↦ Some h.stage | None ↦ None ]) (ap (λ t. tx_get t s.local.parts) (tx_true tx p.0 e) ∙ g) ∙ ap Some (is (p.1).stage h)

quiet_without : (s : Shard) (u : TxId) → ActiveAreFound s → Quietly u (without_part u s.local).parts
quiet_without s u a = at (is_present (stage_of s.local u)) refl
  where
    absent : {b : Bool} → b ≡ false → stage_of s.local u ≡ Some Active → is_present (stage_of s.local u) ≡ b → ⊥
    absent p q r = both_ways true (sym (ap is_present q) ∙ r ∙ p) refl

    at : (b : Bool) → is_present (stage_of s.local u) ≡ b → Quietly u (rolled_back_if b u s.local).parts
    at true h = quiet_taken u (doomed_here s.local u) (Some u) (in_doomed s.local u h) s.local.parts
    at false h = quiet_found s u a (λ q. absent refl q h)

-- ---- an operation

abbrev RowsReply : OpReply → Type 0
RowsReply (OpWaits younger) = Unit {0}
RowsReply (OpCrowded count) = Unit {0}
RowsReply (OpDies cause m) = Rows m.parts
RowsReply (OpAnswers answer m) = Rows m.parts

module _ (u : TxId) (b : Birth) (op : Op) where
  rows_granted : (l : Local) (crowded : Bool) → Rows l.parts → RowsReply (op_granted l u b op crowded)
  rows_granted l true a = tt
  rows_granted l false a = rows_written u _ (locked u b op l) (rows_new u b (tx_get u l.parts) l.parts a)

  rows_decided : (l : Local) (d : Decision) → Rows l.parts → RowsReply (op_decided l u b op d)
  rows_decided l (Die older) a = rows_rolled u (is_present (stage_of l u)) l a
  rows_decided l (Wait younger) a = tt
  rows_decided l Grant a = rows_granted l _ a

  rows_staged : (l : Local) (st : Option Stage) → Rows l.parts → RowsReply (op_by_stage l u b op st)
  rows_staged l None a = rows_decided l (decide u b (needs_of op l.records) l.locks) a
  rows_staged l (Some Active) a = rows_decided l (decide u b (needs_of op l.records) l.locks) a
  rows_staged l (Some Closed) a = a
  rows_staged l (Some (Gone None)) a = a
  rows_staged l (Some (Gone (Some doom))) a = a

  rows_seen : (shard : ℕ) (l : Local) (seen : Option ℕ) (fits : Bool) → Rows l.parts → RowsReply (op_seen shard l u b seen op fits)
  rows_seen shard l seen false a = rows_rolled u (is_present (stage_of l u)) l a
  rows_seen shard l seen true a = rows_staged l (stage_of l u) a

rows_reply : (shard : ℕ) (l : Local) (u : TxId) (b : Birth) (seen : Option ℕ) (op : Op) (r : OpReply) → op_reply shard l u b seen op ≡ r → Rows l.parts → RowsReply r
rows_reply shard l u b seen op r e a = subst RowsReply e (rows_seen u b op shard l seen (seen_fits l.epoch seen) a)

-- ---- what is due, and events

due_reader : (u : TxId) (v : Voter) (vote : Vote) (s : Shard) → Rows s.local.parts → Rows (finish_reader u vote (with_vote s u v vote)).local.parts
due_reader u v Yes s a = a
due_reader u v Read s a = rows_gone (u ∷ []) None s.local.parts a
due_reader u v (No why) s a = a

due_ruling : (u : TxId) (q : Request) (r : Ruling) (s : Shard) → Rows s.local.parts → Rows (do_ruling u r (with_ruling u q r s)).local.parts
due_ruling u q (CommitVerdict parts) s a = a
due_ruling u q Acknowledge s a = rows_gone (u ∷ []) None s.local.parts a
due_ruling u q (AbortVerdict cause to) s a = rows_gone _ (Some u) s.local.parts a
due_ruling u q EndVerdict s a = a

due_rows : KeptByDue (λ s. Rows s.local.parts)
due_rows s _ (commits u a b) f = rows_gone (u ∷ []) None s.local.parts f
due_rows s _ (votes u v vote a b) f = due_reader u v vote s f
due_rows s _ (rules u q r a b) f = due_ruling u q r s f

finish_rows : (s : Shard) → Rows s.local.parts → Rows (finish s).local.parts
finish_rows s a = settled (λ x. Rows x.local.parts) s due_rows a

rows_step : (s t : Shard) {e : Event} {o : Outcome} → Step s e o t → ActiveAreFound s → Rows s.local.parts → Rows t.local.parts
rows_step s _ (op_dies u b nth seen op cause l h) f a = rows_reply s.shard s.local u b seen op (OpDies cause l) h a
rows_step s _ (op_answers u b nth seen op answer l h) f a = rows_reply s.shard s.local u b seen op (OpAnswers answer l) h a
rows_step s _ (request_refused u ts cause h) f a = a
rows_step s _ (request_doomed u ts doom h) f a = a
rows_step s _ (request_again u ts g h) f a = a
rows_step s _ (request_new u ts g h) f a = a
rows_step s _ (request_closes u ts g h) f a = rows_closed u s.local.parts a
rows_step s _ (looks_well u h) f a = a
rows_step s _ (looks_ill u cause d h) f a = a
rows_step s _ (drops u stage h) f a = rows_marked u _ (quiet_without s u f) (rows_rolled u (is_present (stage_of s.local u)) s.local a)
rows_step s _ (sends m ms h) f a = a
rows_step s _ (prepare_closes u home seen stamp h) f a = rows_closed u s.local.parts a
rows_step s _ (prepare_again u home seen stamp h) f a = a
rows_step s _ (vote_counts u from vote stamp q g h) f a = a
rows_step s _ (decision_comes u home true stamp h) f a = a
rows_step s _ (decision_comes u home false stamp h) f a = rows_gone _ (Some u) s.local.parts a
rows_step s _ (decision_again u home commit stamp h) f a = a
rows_step s _ (done_counts u from stamp q g h) f a = a
rows_step s _ (asked u from stamp) f a = a
rows_step s _ (reminds m ms g h) f a = a
rows_step s _ (flushes n g h) f a = a
rows_step s _ (roll_refused u nth seen upto h) f a = a
rows_step s _ (roll_doomed u nth seen upto doom g h) f a = a
rows_step s _ (roll_late u nth seen upto g h) f a = a
rows_step s _ (roll_unknown u nth seen upto g h) f a = a
rows_step s _ (rolls_back u nth seen upto g h) f a = a

rows_happens : (s t : Shard) {e : Event} {o : Outcome} → Happens s e o t → ActiveAreFound s → Rows s.local.parts → Rows t.local.parts
rows_happens s _ (finishes {t = x} u h) f a = finish_rows x (rows_step s x h f a)
rows_happens s _ (stops u) f a = a

rows_event : (s t : Shard) (e : Event) (o : Outcome) → happen s e ≡ Does o t → ActiveAreFound s → Rows s.local.parts → Rows t.local.parts
rows_event s t e o h f a = rows_happens s t (happened s t e o h) f a

rows_flush : (s : Shard) (o : Outcome) → FlushMay s o → Rows s.local.parts → Rows (flush_state s o).local.parts
rows_flush s (Durable n) f a = finish_rows (with_durable n s) a
rows_flush s Failed f a = a
rows_flush s _ f a = absurd f

rows_restored : (txs : List TxId) → Rows (restored_parts txs)
rows_restored [] = tt
rows_restored (t ∷ ts) = ((λ h. refl), rows_restored ts)

rows_becomes : (s t : Shard) (e : Event) (o : Outcome) → BecomesBy s e o t → ActiveAreFound s → Rows s.local.parts → Rows t.local.parts
rows_becomes s t FlushIn o b f a = subst (λ x. Rows x.local.parts) (sym b.2) (rows_flush s o b.1 a)
rows_becomes s t Restart o (u, (kept, epoch, after, r, p, q)) f a = subst (λ x. Rows x.local.parts) (sym q) (rows_restored (in_doubt s.shard after))
rows_becomes s t (OpEvent u b nth seen op) o x f a = rows_event s t (OpEvent u b nth seen op) o x.1 f a
rows_becomes s t (RollTo u nth seen upto) o x f a = rows_event s t (RollTo u nth seen upto) o x f a
rows_becomes s t (RequestEvent u ts) o x f a = rows_event s t (RequestEvent u ts) o x f a
rows_becomes s t (Look u) o x f a = rows_event s t (Look u) o x f a
rows_becomes s t (Drop u) o x f a = rows_event s t (Drop u) o x f a
rows_becomes s t Send o x f a = rows_event s t Send o x f a
rows_becomes s t (Deliver m stamp) o x f a = rows_event s t (Deliver m stamp) o x f a
rows_becomes s t Remind o x f a = rows_event s t Remind o x f a
rows_becomes s t FlushOut o x f a = rows_event s t FlushOut o x f a
rows_becomes s t Stop o x f a = rows_event s t Stop o x f a

-- ---- a run

module _ (n run : ℕ) (found : List LogRecord) where
  rows_run : (so_far : List Entry) (s : Shard) → Runs (opened n run found) so_far s → (es : List Entry) (t : Shard) → Runs s es t → Rows s.local.parts → Rows t.local.parts
  rows_run so_far s before [] t r a = subst (λ x. Rows x.local.parts) r a
  rows_run so_far s before (e ∷ es) t (u, m, r) a =
      rows_run (so_far ++ e ∷ []) u (runs_go_on (opened n run found) s u so_far e before m) es t r
      (subst (λ x. Rows x.local.parts) (sym m.entered) (rows_becomes s m.state e.event e.outcome m.becomes (runs_find_active n run found so_far s before) a))

  pub dropped_inactive : (es : List Entry) (t : Shard) (tx : TxId) (h : Held) → Runs (opened n run found) es t → tx_get tx t.local.parts ≡ Some h → h.is_dropped ≡ true → stage_of t.local tx ≢ Some Active
  dropped_inactive es t tx h r is dropped active =
      both_ways (is_active_stage h.stage)
      (rows_get Row tx h t.local.parts (rows_run [] (opened n run found) refl es t r (rows_restored (in_doubt n (log_after_restart n found run 0)))) is dropped)
      (ap is_active_stage (same_stage (sym (ap (λ o. elim o [ Some h ↦ Some h.stage | None ↦ None ]) is) ∙ active)))
    where
      same_stage : {x y : Stage} → Some x ≡ Some y → x ≡ y
      same_stage k = cc
