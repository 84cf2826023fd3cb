-- No entry but an operation of a birth makes a part of it active.
use Rattle.std.proofs.Common.{◌≡◌, refl, sym, subst, ◌∙◌, ℕ, ◌==◌, true, false, cond, not, ◌&&◌, Bool, List, [], ◌∷◌, map, Option, Some, None}
use Rattle.std.specs.List.{AllByRecursion}
use Rattle.std.specs.Ordering.{nat_cmp, ordering_then, is_eq}
use Rattle.std.proofs.lemmas.Bool.{both_ways, or_parts, or_from, and_left, and_right, false_from_ne_true, eq-eqb}
use Rattle.clv_base.specs.declared.names.TxId.{TxId}
use Rattle.clv_base.specs.declared.names.Birth.{Birth}
use Rattle.clv_base.specs.declared.ops.Op.{Op}
use Rattle.clv_base.specs.declared.causes.Vote.{Vote}
use Rattle.clv_base.specs.declared.causes.Vote.TheVariants.{Yes, Read, No}
use Rattle.clv_base.specs.declared.events.Event.{Event}
use Rattle.clv_base.specs.declared.events.Event.TheVariants.{Op as OpEvent, FlushIn, Restart}
use Rattle.clv_base.specs.declared.events.Outcome.{Outcome}
use Rattle.clv_base.specs.declared.events.Outcome.TheVariants.{Durable, Failed}
use Rattle.clv_base.specs.declared.events.Entry.{Entry}
use Rattle.clv_base.specs.declared.state.Voter.{Voter}
use Rattle.clv_base.specs.declared.state.Request.{Request}
use Rattle.clv_base.specs.declared.state.Ruling.{Ruling}
use Rattle.clv_base.specs.declared.state.Ruling.TheVariants.{Commit as CommitVerdict, Acknowledge, Abort as AbortVerdict, End as EndVerdict}
use Rattle.clv_base.specs.Orders.{Table, tx_same, tx_in, tx_get, birth_cmp}
use Rattle.clv_base.specs.declared.changes.Change.{Change}
use Rattle.clv_base.specs.Logs.{in_doubt}
use Rattle.clv_base.specs.declared.modes.Decision.{Decision}
use Rattle.clv_base.specs.declared.modes.Decision.TheVariants.{Grant, Wait, Die}
use Rattle.clv_base.specs.Locks.{decide}
use Rattle.clv_base.specs.declared.state.Stage.{Stage}
use Rattle.clv_base.specs.declared.state.Stage.TheVariants.{Active, Closed, Gone}
use Rattle.clv_base.specs.declared.state.Held.{Held}
use Rattle.clv_base.specs.State.{Local, Shard, is_active_stage, is_present}
use Rattle.clv_base.specs.Undo.{stage_of, gone_part, gone_in}
use Rattle.clv_base.specs.Needs.{needs_of}
use Rattle.clv_base.specs.OneShard.{OpReply, OpWaits, OpCrowded, OpDies, OpAnswers, seen_fits, op_reply, op_seen, op_by_stage, op_decided, op_granted, written, locked, active_part, new_part, rolled_back_if, closed_part, closed_in, dropped_part, marked_in}
use Rattle.clv_base.specs.Due.{finish_reader, with_vote, do_ruling, with_ruling}
use Rattle.clv_base.specs.Events.{Does, happen, finish, with_durable}
use Rattle.clv_base.specs.Restarts.{opened, restored_part, restored_parts, log_after_restart}
use Rattle.clv_base.specs.Journals.{has_equal_active_birth, flush_state, FlushMay}
use Rattle.clv_base.proofs.SameNames.{nat_cmp_true, then_eq}
use Rattle.law_base.proofs.Rows.{rows_put}
use Rattle.history_cases.proofs.Stepping.{commits, votes, rules, KeptByDue, settled, Step, op_dies, op_answers, request_closes, drops, prepare_closes, decision_comes, Happens, finishes, stops, happened}
use Rattle.clv_base.specs.Machines.{BecomesBy, Runs}
use Rattle.journal_laws.specs.Births.{LeavesBirth, FreeBirthsStay, OpenedHasNone, BearsWalker, OthersLeaveBirths, NewBirthsAreFree}
use Rattle.journal_laws.specs.Walkers.{by_walker}

-- ---- a row by itself

abbrev pub Leaves : TxId → Birth → TxId × Held → Type 0
Leaves tx birth p = (not (tx_same tx p.0) && is_active_stage (p.1).stage && is_eq (birth_cmp birth (p.1).birth)) ≡ false

abbrev pub Free : TxId → Birth → Table Held → Type 0
Free tx birth parts = AllByRecursion (Leaves tx birth) parts

pub free_rows : (tx : TxId) (birth : Birth) (parts : Table Held) → has_equal_active_birth tx birth parts ≡ false → Free tx birth parts
free_rows tx birth [] h = tt
free_rows tx birth (p ∷ ps) h =
    let q = or_parts (not (tx_same tx p.0) && is_active_stage (p.1).stage && is_eq (birth_cmp birth (p.1).birth)) (has_equal_active_birth tx birth ps) h in (q.0, free_rows tx birth ps q.1)

pub has_none : (tx : TxId) (birth : Birth) (parts : Table Held) → Free tx birth parts → has_equal_active_birth tx birth parts ≡ false
has_none tx birth [] f = refl
has_none tx birth (p ∷ ps) f =
    or_from (not (tx_same tx p.0) && is_active_stage (p.1).stage && is_eq (birth_cmp birth (p.1).birth)) (has_equal_active_birth tx birth ps) f.0 (has_none tx birth ps f.1)

inactive : (tx : TxId) (birth : Birth) (p : TxId × Held) → is_active_stage (p.1).stage ≡ false → Leaves tx birth p
inactive tx birth p h =
    and_left (not (tx_same tx p.0) && is_active_stage (p.1).stage) (is_eq (birth_cmp birth (p.1).birth)) (and_right (not (tx_same tx p.0)) (is_active_stage (p.1).stage) h)

free_map : (tx : TxId) (birth : Birth) (f : TxId × Held → TxId × Held) → ((p : TxId × Held) → Leaves tx birth p → Leaves tx birth (f p)) → (parts : Table Held) → Free tx birth parts → Free tx birth (map f parts)
free_map tx birth f k [] a = tt
free_map tx birth f k (p ∷ ps) a = (k p a.0, free_map tx birth f k ps a.1)

free_gone : (tx : TxId) (birth : Birth) (set : List TxId) (doom : Option TxId) (parts : Table Held) → Free tx birth parts → Free tx birth (gone_in set doom parts)
free_gone tx birth set doom parts a = free_map tx birth (λ p. (p.0, cond (tx_in p.0 set) (gone_part doom p.1) p.1)) (λ p l. at p (tx_in p.0 set) l) parts a
  where
    at : (p : TxId × Held) (b : Bool) → Leaves tx birth p → Leaves tx birth (p.0, cond b (gone_part doom p.1) p.1)
    at p true l = inactive tx birth (p.0, gone_part doom p.1) refl
    at p false l = l

free_closed : (tx : TxId) (birth : Birth) (u : TxId) (parts : Table Held) → Free tx birth parts → Free tx birth (closed_in u parts)
free_closed tx birth u parts a = free_map tx birth (λ p. (p.0, cond (tx_same u p.0) (closed_part p.1) p.1)) (λ p l. at p (tx_same u p.0) l) parts a
  where
    at : (p : TxId × Held) (b : Bool) → Leaves tx birth p → Leaves tx birth (p.0, cond b (closed_part p.1) p.1)
    at p true l = inactive tx birth (p.0, closed_part p.1) refl
    at p false l = l

free_marked : (tx : TxId) (birth : Birth) (u : TxId) (parts : Table Held) → Free tx birth parts → Free tx birth (marked_in u parts)
free_marked tx birth u parts a = free_map tx birth (λ p. (p.0, cond (tx_same u p.0) (dropped_part p.1) p.1)) (λ p l. at p (tx_same u p.0) l) parts a
  where
    at : (p : TxId × Held) (b : Bool) → Leaves tx birth p → Leaves tx birth (p.0, cond b (dropped_part p.1) p.1)
    at p true l = l
    at p false l = l

free_new : (tx : TxId) (birth : Birth) (u : TxId) (b : Birth) (o : Option Held) (parts : Table Held) → (not (tx_same tx u) && is_eq (birth_cmp birth b)) ≡ false → Free tx birth parts → Free tx birth (new_part u b o parts)
free_new tx birth u b None parts h a = rows_put (Leaves tx birth) u (active_part b) parts (row (not (tx_same tx u)) (is_eq (birth_cmp birth b)) h) a
  where
    row : (x y : Bool) → (x && y) ≡ false → (x && true && y) ≡ false
    row true y h = h
    row false y h = refl
free_new tx birth u b (Some h) parts k a = a

free_written : (tx : TxId) (birth : Birth) (u : TxId) (w : Option (ℕ × Change)) (l : Local) → Free tx birth l.parts → Free tx birth (written u w l).parts
free_written tx birth u None l a = a
free_written tx birth u (Some w) l a = a

free_rolled : (tx : TxId) (birth : Birth) (u : TxId) (b : Bool) (l : Local) → Free tx birth l.parts → Free tx birth (rolled_back_if b u l).parts
free_rolled tx birth u true l a = free_gone tx birth _ (Some u) l.parts a
free_rolled tx birth u false l a = a

-- ---- an operation

abbrev FreeReply : TxId → Birth → OpReply → Type 0
FreeReply tx birth (OpWaits younger) = Unit {0}
FreeReply tx birth (OpCrowded count) = Unit {0}
FreeReply tx birth (OpDies cause m) = Free tx birth m.parts
FreeReply tx birth (OpAnswers answer m) = Free tx birth m.parts

free_granted : (tx : TxId) (birth : Birth) (l : Local) (u : TxId) (b : Birth) (op : Op) (crowded : Bool) → (not (tx_same tx u) && is_eq (birth_cmp birth b)) ≡ false → Free tx birth l.parts
    → FreeReply tx birth (op_granted l u b op crowded)
free_granted tx birth l u b op true h a = tt
free_granted tx birth l u b op false h a = free_written tx birth u _ (locked u b op l) (free_new tx birth u b (tx_get u l.parts) l.parts h a)

free_decided : (tx : TxId) (birth : Birth) (l : Local) (u : TxId) (b : Birth) (op : Op) (d : Decision) → (not (tx_same tx u) && is_eq (birth_cmp birth b)) ≡ false → Free tx birth l.parts
    → FreeReply tx birth (op_decided l u b op d)
free_decided tx birth l u b op (Die older) h a = free_rolled tx birth u (is_present (stage_of l u)) l a
free_decided tx birth l u b op (Wait younger) h a = tt
free_decided tx birth l u b op Grant h a = free_granted tx birth l u b op _ h a

free_staged : (tx : TxId) (birth : Birth) (l : Local) (u : TxId) (b : Birth) (op : Op) (st : Option Stage) → (not (tx_same tx u) && is_eq (birth_cmp birth b)) ≡ false → Free tx birth l.parts
    → FreeReply tx birth (op_by_stage l u b op st)
free_staged tx birth l u b op None h a = free_decided tx birth l u b op (decide u b (needs_of op l.records) l.locks) h a
free_staged tx birth l u b op (Some Active) h a = free_decided tx birth l u b op (decide u b (needs_of op l.records) l.locks) h a
free_staged tx birth l u b op (Some Closed) h a = a
free_staged tx birth l u b op (Some (Gone None)) h a = a
free_staged tx birth l u b op (Some (Gone (Some doom))) h a = a

free_seen : (tx : TxId) (birth : Birth) (shard : ℕ) (l : Local) (u : TxId) (b : Birth) (seen : Option ℕ) (op : Op) (fits : Bool) → (not (tx_same tx u) && is_eq (birth_cmp birth b)) ≡ false → Free tx birth l.parts
    → FreeReply tx birth (op_seen shard l u b seen op fits)
free_seen tx birth shard l u b seen op false h a = free_rolled tx birth u (is_present (stage_of l u)) l a
free_seen tx birth shard l u b seen op true h a = free_staged tx birth l u b op (stage_of l u) h a

free_reply : (tx : TxId) (birth : Birth) (shard : ℕ) (l : Local) (u : TxId) (b : Birth) (seen : Option ℕ) (op : Op) (r : OpReply) → op_reply shard l u b seen op ≡ r
    → (not (tx_same tx u) && is_eq (birth_cmp birth b)) ≡ false → Free tx birth l.parts → FreeReply tx birth r
free_reply tx birth shard l u b seen op r e h a = subst (FreeReply tx birth) e (free_seen tx birth shard l u b seen op (seen_fits l.epoch seen) h a)

-- ---- what is due, and events

abbrev FreeOn : TxId → Birth → Shard → Type 0
FreeOn tx birth s = Free tx birth s.local.parts

free_reader : (tx : TxId) (birth : Birth) (u : TxId) (v : Voter) (vote : Vote) (s : Shard) → FreeOn tx birth s → FreeOn tx birth (finish_reader u vote (with_vote s u v vote))
free_reader tx birth u v Yes s a = a
free_reader tx birth u v Read s a = free_gone tx birth (u ∷ []) None s.local.parts a
free_reader tx birth u v (No why) s a = a

free_ruling : (tx : TxId) (birth : Birth) (u : TxId) (q : Request) (r : Ruling) (s : Shard) → FreeOn tx birth s → FreeOn tx birth (do_ruling u r (with_ruling u q r s))
free_ruling tx birth u q (CommitVerdict parts) s a = a
free_ruling tx birth u q Acknowledge s a = free_gone tx birth (u ∷ []) None s.local.parts a
free_ruling tx birth u q (AbortVerdict cause to) s a = free_gone tx birth _ (Some u) s.local.parts a
free_ruling tx birth u q EndVerdict s a = a

free_due : (tx : TxId) (birth : Birth) → KeptByDue (FreeOn tx birth)
free_due tx birth s _ (commits u a b) f = free_gone tx birth (u ∷ []) None s.local.parts f
free_due tx birth s _ (votes u v vote a b) f = free_reader tx birth u v vote s f
free_due tx birth s _ (rules u q r a b) f = free_ruling tx birth u q r s f

free_finish : (tx : TxId) (birth : Birth) (s : Shard) → FreeOn tx birth s → FreeOn tx birth (finish s)
free_finish tx birth s a = settled (FreeOn tx birth) s (free_due tx birth) a

free_step : (tx : TxId) (birth : Birth) (s t : Shard) {e : Event} {o : Outcome} → Step s e o t → LeavesBirth tx birth e → FreeOn tx birth s → FreeOn tx birth t
free_step tx birth s _ (op_dies u b nth seen op cause l h) k a = free_reply tx birth s.shard s.local u b seen op (OpDies cause l) h k a
free_step tx birth s _ (op_answers u b nth seen op answer l h) k a = free_reply tx birth s.shard s.local u b seen op (OpAnswers answer l) h k a
free_step tx birth s _ (request_closes u ts f h) k a = free_closed tx birth u s.local.parts a
free_step tx birth s _ (drops u stage h) k a = free_marked tx birth u _ (free_rolled tx birth u (is_present (stage_of s.local u)) s.local a)
free_step tx birth s _ (prepare_closes u home seen stamp h) k a = free_closed tx birth u s.local.parts a
free_step tx birth s _ (decision_comes u home false stamp h) k a = free_gone tx birth _ (Some u) s.local.parts a
free_step tx birth s _ _ k a = a

free_happens : (tx : TxId) (birth : Birth) (s t : Shard) {e : Event} {o : Outcome} → Happens s e o t → LeavesBirth tx birth e → FreeOn tx birth s → FreeOn tx birth t
free_happens tx birth s _ (finishes {t = x} u h) k a = free_finish tx birth x (free_step tx birth s x h k a)
free_happens tx birth s _ (stops u) k a = a

pub free_restored : (tx : TxId) (birth : Birth) (txs : List TxId) → Free tx birth (restored_parts txs)
free_restored tx birth [] = tt
free_restored tx birth (t ∷ ts) = (inactive tx birth (t, restored_part t) refl, free_restored tx birth ts)

-- ---- entries

free_flush : (tx : TxId) (birth : Birth) (s : Shard) (o : Outcome) → FlushMay s o → FreeOn tx birth s → FreeOn tx birth (flush_state s o)
free_flush tx birth s (Durable n) f a = free_finish tx birth (with_durable n s) a
free_flush tx birth s Failed f a = a
free_flush tx birth s _ f a = absurd f

pub free_event : (tx : TxId) (birth : Birth) (s t : Shard) (e : Event) (o : Outcome) → happen s e ≡ Does o t → LeavesBirth tx birth e → FreeOn tx birth s → FreeOn tx birth t
free_event tx birth s t e o h k a = free_happens tx birth s t (happened s t e o h) k a

free_becomes : (tx : TxId) (birth : Birth) (s t : Shard) (e : Event) (o : Outcome) → BecomesBy s e o t → LeavesBirth tx birth e → FreeOn tx birth s → FreeOn tx birth t
free_becomes tx birth s t FlushIn o b k a = subst (FreeOn tx birth) (sym b.2) (free_flush tx birth s o b.1 a)
free_becomes tx birth s t Restart o (u, (kept, epoch, after, r, p, q)) k a = subst (FreeOn tx birth) (sym q) (free_restored tx birth (in_doubt s.shard after))
free_becomes tx birth s t (OpEvent u b nth seen op) o x k a = free_event tx birth s t (OpEvent u b nth seen op) o x.1 k a
free_becomes tx birth s t e o x k a = free_event tx birth s t e o x k a

free_run : (tx : TxId) (birth : Birth) (s : Shard) (es : List Entry) (t : Shard) → Runs s es t → AllByRecursion (λ e. LeavesBirth tx birth e.event) es → FreeOn tx birth s → FreeOn tx birth t
free_run tx birth s [] t r k a = subst (FreeOn tx birth) r a
free_run tx birth s (e ∷ es) t (u, m, r) k a =
    free_run tx birth u es t r k.1 (subst (FreeOn tx birth) (sym m.entered) (free_becomes tx birth s m.state e.event e.outcome m.becomes k.0 a))

pub free_births_stay : FreeBirthsStay
free_births_stay s t es tx birth r k h = has_none tx birth t.local.parts (free_run tx birth s es t r k (free_rows tx birth s.local.parts h))

pub opened_has_none : OpenedHasNone
opened_has_none n run found tx birth = has_none tx birth _ (free_restored tx birth (in_doubt n (log_after_restart n found run 0)))

-- ---- births of others

cmp_session : (a b : Birth) → is_eq (birth_cmp a b) ≡ true → a.session ≡ b.session
cmp_session a b h =
    nat_cmp_true a.session b.session (then_eq (nat_cmp a.session b.session) (nat_cmp a.serial b.serial) (then_eq (nat_cmp a.stamp b.stamp) (ordering_then (nat_cmp a.session b.session) (nat_cmp a.serial b.serial)) h).1).0

pub others_leave_births : OthersLeaveBirths
others_leave_births e tx birth k n = at e.event k
  where
    at : (x : Event) → BearsWalker e.walker x → LeavesBirth tx birth x
    at (OpEvent u b nth seen op) j =
        and_right (not (tx_same tx u)) (is_eq (birth_cmp birth b)) (false_from_ne_true (is_eq (birth_cmp birth b)) (λ h. n (sym j ∙ sym (cmp_session birth b h))))
    at _ j = tt

all_leave : (tx : TxId) (birth : Birth) (es : List Entry) → AllByRecursion (λ e. BearsWalker e.walker e.event) es → AllByRecursion (λ e. LeavesBirth tx birth e.event) (by_walker birth.session es)
    → AllByRecursion (λ e. LeavesBirth tx birth e.event) es
all_leave tx birth [] b o = tt
all_leave tx birth (e ∷ es) b o = at (e.walker == birth.session) refl o (λ q. all_leave tx birth es b.1 q)
  where
    at : (c : Bool) → (e.walker == birth.session) ≡ c → AllByRecursion (λ e. LeavesBirth tx birth e.event) (cond c (e ∷ by_walker birth.session es) (by_walker birth.session es))
        → (AllByRecursion (λ e. LeavesBirth tx birth e.event) (by_walker birth.session es) → AllByRecursion (λ e. LeavesBirth tx birth e.event) es) → AllByRecursion (λ e. LeavesBirth tx birth e.event) (e ∷ es)
    at true p q k = (q.0, k q.1)
    at false p q k = (others_leave_births e tx birth b.0 (λ h. both_ways (e.walker == birth.session) p (eq-eqb e.walker birth.session h)), k q)

pub new_births_are_free : NewBirthsAreFree
new_births_are_free n run found es t tx birth r b o =
    free_births_stay (opened n run found) t es tx birth r (all_leave tx birth es b o) (opened_has_none n run found tx birth)
