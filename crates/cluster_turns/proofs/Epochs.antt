-- A shard's epoch stays but for a restart, after which no transaction is active.
use Rattle.std.proofs.Common.{◌≡◌, refl, sym, ap, subst, ◌∙◌, ℕ, ◌==◌, true, false, not, cond, Bool, List, [], ◌∷◌, ◌++◌, map, Option, Some, None}
use Rattle.std.specs.List.{AllByRecursion}
use Rattle.std.proofs.lemmas.Bool.{both_ways, eq-eqb}
use Rattle.clv_base.specs.declared.changes.Change.{Change}
use Rattle.clv_base.specs.declared.names.TxId.{TxId}
use Rattle.clv_base.specs.declared.names.Birth.{Birth}
use Rattle.clv_base.specs.declared.ops.Op.{Op}
use Rattle.clv_base.specs.declared.causes.Vote.{Vote}
use Rattle.clv_base.specs.declared.causes.Vote.TheVariants.{Yes, Read, No}
use Rattle.clv_base.specs.declared.logs.LogRecord.{LogRecord}
use Rattle.clv_base.specs.declared.events.Event.{Event}
use Rattle.clv_base.specs.declared.events.Event.TheVariants.{Op as OpEvent, RollTo, Request as RequestEvent, Look, Drop, Send, Deliver, Remind, FlushOut, FlushIn, Stop, Restart}
use Rattle.clv_base.specs.declared.events.Outcome.{Outcome}
use Rattle.clv_base.specs.declared.events.Outcome.TheVariants.{Durable, Failed}
use Rattle.clv_base.specs.declared.events.Entry.{Entry}
use Rattle.clv_base.specs.declared.state.Voter.{Voter}
use Rattle.clv_base.specs.declared.state.Request.{Request}
use Rattle.clv_base.specs.declared.state.Ruling.{Ruling}
use Rattle.clv_base.specs.declared.state.Ruling.TheVariants.{Commit as CommitVerdict, Acknowledge, Abort as AbortVerdict, End as EndVerdict}
use Rattle.clv_base.specs.declared.state.Stage.{Stage}
use Rattle.clv_base.specs.declared.state.Stage.TheVariants.{Active, Closed, Gone}
use Rattle.clv_base.specs.declared.modes.Decision.{Decision}
use Rattle.clv_base.specs.declared.modes.Decision.TheVariants.{Grant, Wait, Die}
use Rattle.clv_base.specs.Locks.{decide}
use Rattle.clv_base.specs.State.{Local, Shard, is_present}
use Rattle.clv_base.specs.Undo.{stage_of}
use Rattle.clv_base.specs.Needs.{needs_of}
use Rattle.clv_base.specs.OneShard.{OpReply, OpWaits, OpCrowded, OpDies, OpAnswers, seen_fits, op_reply, op_seen, op_by_stage, op_decided, op_granted, written, locked, rolled_back_if}
use Rattle.clv_base.specs.Due.{finish_reader, with_vote, do_ruling, with_ruling}
use Rattle.clv_base.specs.Events.{Does, happen, finish, with_durable}
use Rattle.clv_base.specs.Journals.{flush_state, FlushMay, has_equal_active_birth}
use Rattle.clv_base.specs.Restarts.{revived}
use Rattle.clv_base.specs.Machines.{BecomesBy, Makes, Runs}
use Rattle.history_cases.proofs.Stepping.{commits, votes, rules, KeptByDue, settled, Step, op_dies, op_answers, request_refused, request_doomed, request_again, request_new, request_closes, looks_well, looks_ill, drops, sends, prepare_closes, prepare_again, vote_counts, decision_comes, decision_again, done_counts, asked, reminds, flushes, roll_refused, roll_doomed, roll_late, roll_unknown, rolls_back, Happens, finishes, stops, happened}
use Rattle.turn_lock.specs.Journals.{GrownByOthers}
use Rattle.journal_laws.specs.Births.{LeavesBirth, BearsWalker}
use Rattle.journal_laws.specs.Walkers.{by_walker}
use Rattle.journal_laws.proofs.Laws.{free_births_stay, others_leave_births, restarts_free, notes_are_runs}
use Rattle.machine_laws.specs.declared.notes.Note.{Note}
use Rattle.machine_laws.specs.declared.notes.Origin.{Origin}
use Rattle.machine_laws.specs.Notes.{noter, told}
use Rattle.machine_laws.specs.Homes.{entries_in, state_of, holder_of, IsLegal}
use Rattle.machine_laws.proofs.Laws.{all_bear, nothing_happens, since}
use Rattle.cluster_turns.specs.Unborn.{is_epoch_of, IsUnbornUnless}
use Rattle.cluster_turns.proofs.Keeping.{by_notes}
use Rattle.law_base.proofs.Bools.{not_true}

-- ---- an event keeps it

abbrev pub Has : ℕ → Local → Type 0
Has n l = l.epoch ≡ n

has_written : (n : ℕ) (u : TxId) (w : Option (ℕ × Change)) (l : Local) → Has n l → Has n (written u w l)
has_written n u None l a = a
has_written n u (Some w) l a = a

has_rolled : (n : ℕ) (u : TxId) (b : Bool) (l : Local) → Has n l → Has n (rolled_back_if b u l)
has_rolled n u true l a = a
has_rolled n u false l a = a

abbrev HasReply : ℕ → OpReply → Type 0
HasReply n (OpWaits younger) = Unit {0}
HasReply n (OpCrowded count) = Unit {0}
HasReply n (OpDies cause m) = Has n m
HasReply n (OpAnswers answer m) = Has n m

module _ (n : ℕ) (u : TxId) (b : Birth) (op : Op) where
  has_granted : (l : Local) (crowded : Bool) → Has n l → HasReply n (op_granted l u b op crowded)
  has_granted l true a = tt
  has_granted l false a = has_written n u _ (locked u b op l) a

  has_decided : (l : Local) (d : Decision) → Has n l → HasReply n (op_decided l u b op d)
  has_decided l (Die older) a = has_rolled n u (is_present (stage_of l u)) l a
  has_decided l (Wait younger) a = tt
  has_decided l Grant a = has_granted l _ a

  has_staged : (l : Local) (st : Option Stage) → Has n l → HasReply n (op_by_stage l u b op st)
  has_staged l None a = has_decided l (decide u b (needs_of op l.records) l.locks) a
  has_staged l (Some Active) a = has_decided l (decide u b (needs_of op l.records) l.locks) a
  has_staged l (Some Closed) a = a
  has_staged l (Some (Gone None)) a = a
  has_staged l (Some (Gone (Some doom))) a = a

  has_seen : (shard : ℕ) (l : Local) (seen : Option ℕ) (fits : Bool) → Has n l → HasReply n (op_seen shard l u b seen op fits)
  has_seen shard l seen false a = has_rolled n u (is_present (stage_of l u)) l a
  has_seen shard l seen true a = has_staged l (stage_of l u) a

has_reply : (n shard : ℕ) (l : Local) (u : TxId) (b : Birth) (seen : Option ℕ) (op : Op) (r : OpReply) → op_reply shard l u b seen op ≡ r → Has n l → HasReply n r
has_reply n shard l u b seen op r e a = subst (HasReply n) e (has_seen n u b op shard l seen (seen_fits l.epoch seen) a)

due_reader : (n : ℕ) (u : TxId) (v : Voter) (vote : Vote) (s : Shard) → Has n s.local → Has n (finish_reader u vote (with_vote s u v vote)).local
due_reader n u v Yes s a = a
due_reader n u v Read s a = a
due_reader n u v (No why) s a = a

due_ruling : (n : ℕ) (u : TxId) (q : Request) (r : Ruling) (s : Shard) → Has n s.local → Has n (do_ruling u r (with_ruling u q r s)).local
due_ruling n u q (CommitVerdict parts) s a = a
due_ruling n u q Acknowledge s a = a
due_ruling n u q (AbortVerdict cause to) s a = a
due_ruling n u q EndVerdict s a = a

due_has : (n : ℕ) → KeptByDue (λ s. Has n s.local)
due_has n s _ (commits u a b) f = f
due_has n s _ (votes u v vote a b) f = due_reader n u v vote s f
due_has n s _ (rules u q r a b) f = due_ruling n u q r s f

finish_has : (n : ℕ) (s : Shard) → Has n s.local → Has n (finish s).local
finish_has n s a = settled (λ x. Has n x.local) s (due_has n) a

has_step : (n : ℕ) (s t : Shard) {e : Event} {o : Outcome} → Step s e o t → Has n s.local → Has n t.local
has_step n s _ (op_dies u b nth seen op cause l h) a = has_reply n s.shard s.local u b seen op (OpDies cause l) h a
has_step n s _ (op_answers u b nth seen op answer l h) a = has_reply n s.shard s.local u b seen op (OpAnswers answer l) h a
has_step n s _ (request_refused u ts cause h) a = a
has_step n s _ (request_doomed u ts doom h) a = a
has_step n s _ (request_again u ts g h) a = a
has_step n s _ (request_new u ts g h) a = a
has_step n s _ (request_closes u ts g h) a = a
has_step n s _ (looks_well u h) a = a
has_step n s _ (looks_ill u cause d h) a = a
has_step n s _ (drops u stage h) a = has_rolled n u (is_present (stage_of s.local u)) s.local a
has_step n s _ (sends m ms h) a = a
has_step n s _ (prepare_closes u home seen stamp h) a = a
has_step n s _ (prepare_again u home seen stamp h) a = a
has_step n s _ (vote_counts u from vote stamp q g h) a = a
has_step n s _ (decision_comes u home true stamp h) a = a
has_step n s _ (decision_comes u home false stamp h) a = a
has_step n s _ (decision_again u home commit stamp h) a = a
has_step n s _ (done_counts u from stamp q g h) a = a
has_step n s _ (asked u from stamp) a = a
has_step n s _ (reminds m ms g h) a = a
has_step n s _ (flushes k g h) a = a
has_step n s _ (roll_refused u nth seen upto h) a = a
has_step n s _ (roll_doomed u nth seen upto doom g h) a = a
has_step n s _ (roll_late u nth seen upto g h) a = a
has_step n s _ (roll_unknown u nth seen upto g h) a = a
has_step n s _ (rolls_back u nth seen upto g h) a = a

has_happens : (n : ℕ) (s t : Shard) {e : Event} {o : Outcome} → Happens s e o t → Has n s.local → Has n t.local
has_happens n s _ (finishes {t = x} u h) a = finish_has n x (has_step n s x h a)
has_happens n s _ (stops u) a = a

pub epoch_stays : (s t : Shard) (e : Event) (o : Outcome) → happen s e ≡ Does o t → t.local.epoch ≡ s.local.epoch
epoch_stays s t e o h = has_happens s.local.epoch s t (happened s t e o h) refl

pub flush_has : (n : ℕ) (s : Shard) (o : Outcome) → FlushMay s o → Has n s.local → Has n (flush_state s o).local
flush_has n s (Durable k) f a = finish_has n (with_durable k s) a
flush_has n s Failed f a = a
flush_has n s _ f a = absurd f

-- ---- one entry of others

was_up : (s t : Shard) (e : Event) (o : Outcome) (b : Bool) → s.is_up ≡ b → happen s e ≡ Does o t → s.is_up ≡ true
was_up s t e o true up h = up
was_up s t e o false down h = nothing_happens s e o t down h

-- the shard was up, and its epoch stays
abbrev pub Steady : Shard → Shard → Type 0
Steady s t = (s.is_up ≡ true) × (t.local.epoch ≡ s.local.epoch)

pub steady_by : (s t : Shard) (e : Event) (o : Outcome) → happen s e ≡ Does o t → Steady s t
steady_by s t e o h = (was_up s t e o s.is_up refl h, epoch_stays s t e o h)

module _ (part : Option ℕ) (birth : Birth) where
  steady_unless : (s u : Shard) (x : Entry) (m : Makes s x u) → Steady s m.state → ((tx : TxId) → LeavesBirth tx birth x.event) → IsUnbornUnless part birth s → IsUnbornUnless part birth u
  steady_unless s u x m k leaves h other tx up =
      let same : u.local.epoch ≡ s.local.epoch = ap (λ z. z.local.epoch) m.entered ∙ k.1 in
      let free = h (ap (is_epoch_of part) (sym same) ∙ other) tx k.0 in
      ap not (free_births_stay s u (x ∷ []) tx birth (u, m, refl) (leaves tx, tt) (not_true (has_equal_active_birth tx birth s.local.parts) free))

  restarted_unless : (s u : Shard) (x : Entry) (m : Makes s x u) (epoch : ℕ) (after : List LogRecord) → m.state ≡ revived s epoch after → IsUnbornUnless part birth u
  restarted_unless s u x m epoch after is other tx up =
      ap not (ap (λ z. has_equal_active_birth tx birth z.local.parts) m.entered ∙ ap (λ z. has_equal_active_birth tx birth z.local.parts) is ∙ restarts_free s epoch after tx birth)

  restarts_unless : (s u : Shard) (x : Entry) (m : Makes s x u) → BecomesBy s Restart x.outcome m.state → IsUnbornUnless part birth u
  restarts_unless s u x m (down, (kept, epoch, after, r, is, same)) = restarted_unless s u x m epoch after same

  entry_unless : (s u : Shard) (x : Entry) → Makes s x u → ((tx : TxId) → LeavesBirth tx birth x.event) → IsUnbornUnless part birth s → IsUnbornUnless part birth u
  entry_unless s u x m leaves h = at x.event refl
    where
      becomes : (e : Event) → x.event ≡ e → BecomesBy s e x.outcome m.state
      becomes e is = subst (λ z. BecomesBy s z x.outcome m.state) is m.becomes

      steady : (e : Event) → x.event ≡ e → happen s e ≡ Does x.outcome m.state → IsUnbornUnless part birth u
      steady e is d = steady_unless s u x m (steady_by s m.state e x.outcome d) leaves h

      at : (e : Event) → x.event ≡ e → IsUnbornUnless part birth u
      at FlushIn is = let b = becomes FlushIn is in steady_unless s u x m (b.0, ap (λ z. z.local.epoch) b.2 ∙ flush_has s.local.epoch s x.outcome b.1 refl) leaves h
      at Restart is = restarts_unless s u x m (becomes Restart is)
      at (OpEvent v b0 nth seen op) is = steady (OpEvent v b0 nth seen op) is (becomes (OpEvent v b0 nth seen op) is).1
      at (RollTo v nth seen upto) is = steady (RollTo v nth seen upto) is (becomes (RollTo v nth seen upto) is)
      at (RequestEvent v ts) is = steady (RequestEvent v ts) is (becomes (RequestEvent v ts) is)
      at (Look v) is = steady (Look v) is (becomes (Look v) is)
      at (Drop v) is = steady (Drop v) is (becomes (Drop v) is)
      at Send is = steady Send is (becomes Send is)
      at (Deliver y stamp) is = steady (Deliver y stamp) is (becomes (Deliver y stamp) is)
      at Remind is = steady Remind is (becomes Remind is)
      at FlushOut is = steady FlushOut is (becomes FlushOut is)
      at Stop is = steady Stop is (becomes Stop is)

  pub runs_unless : (s t : Shard) (es : List Entry) → Runs s es t → ((tx : TxId) → AllByRecursion (λ e. LeavesBirth tx birth e.event) es) → IsUnbornUnless part birth s → IsUnbornUnless part birth t
  runs_unless s t [] r leaves h = subst (IsUnbornUnless part birth) r h
  runs_unless s t (e ∷ es) (u, m, r) leaves h = runs_unless u t es r (λ tx. (leaves tx).1) (entry_unless s u e m (λ tx. (leaves tx).0) h)

-- ---- entries of others since

leaves_others : (w : ℕ) (tx : TxId) (birth : Birth) (es : List Entry) → birth.session ≡ w → AllByRecursion (λ e. BearsWalker e.walker e.event) es → by_walker w es ≡ [] → AllByRecursion (λ e. LeavesBirth tx birth e.event) es
leaves_others w tx birth [] own bears none = tt
leaves_others w tx birth (e ∷ es) own bears none = at (e.walker == w) refl none (λ h. leaves_others w tx birth es own bears.1 h)
  where
    at : (b : Bool) → (e.walker == w) ≡ b → cond b (e ∷ by_walker w es) (by_walker w es) ≡ [] → (by_walker w es ≡ [] → AllByRecursion (λ e. LeavesBirth tx birth e.event) es) → AllByRecursion (λ e. LeavesBirth tx birth e.event) (e ∷ es)
    at true is h rest = absurd cc
    at false is h rest = (others_leave_births e tx birth bears.0 (λ same. both_ways (e.walker == w) is (eq-eqb e.walker w (same ∙ own))), rest h)

pub others_unless : (part : Option ℕ) (birth : Birth) (g : Origin) (s : Shard) (w : ℕ) (seen notes : List Note) → IsLegal g notes s → GrownByOthers noter w seen notes → birth.session ≡ w → IsUnbornUnless part birth (state_of g seen) → IsUnbornUnless part birth s
others_unless part birth g s w seen notes l d own h =
    let q = since g seen d.0 notes s l d.1 in
    let r = notes_are_runs (state_of g seen) (holder_of seen) (map told d.0) q.may in
    subst (IsUnbornUnless part birth) (sym q.is)
    (runs_unless part birth (state_of g seen) _ (entries_in d.0) r (λ tx. leaves_others w tx birth (entries_in d.0) own (all_bear (entries_in d.0) q.named) (by_notes w d.0 ∙ ap entries_in d.2)) h)

-- and own ones that leave the birth alone
pub added_unless : (part : Option ℕ) (birth : Birth) (g : Origin) (before added : List Note) (s t : Shard) → IsLegal g before s → IsLegal g (before ++ added) t → ((tx : TxId) → AllByRecursion (λ e. LeavesBirth tx birth e.event) (entries_in added)) → IsUnbornUnless part birth s
    → IsUnbornUnless part birth t
added_unless part birth g before added s t k l leaves h =
    let q = since g before added (before ++ added) t l refl in
    let r = notes_are_runs (state_of g before) (holder_of before) (map told added) q.may in
    subst (IsUnbornUnless part birth) (sym q.is) (runs_unless part birth (state_of g before) _ (entries_in added) r leaves (subst (IsUnbornUnless part birth) k.is h))
