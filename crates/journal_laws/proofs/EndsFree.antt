-- The end of a transaction on a shard leaves no active part of it.
use Rattle.std.proofs.Common.{◌≡◌, ◌≢◌, ◌⊎◌, inl, inr, refl, sym, ap, subst, ◌∙◌, ℕ, true, false, cond, not, ◌&&◌, Bool, List, [], ◌∷◌, map, Option, Some, None}
use Rattle.std.specs.List.{AllByRecursion}
use Rattle.std.specs.Ordering.{is_eq}
use Rattle.std.proofs.lemmas.Bool.{both_ways, and_left, false_from_ne_true}
use Rattle.clv_base.specs.declared.names.TxId.{TxId}
use Rattle.clv_base.specs.declared.names.Birth.{Birth}
use Rattle.clv_base.specs.declared.ops.Op.{Op}
use Rattle.clv_base.specs.declared.causes.Vote.{Vote}
use Rattle.clv_base.specs.declared.causes.Vote.TheVariants.{Yes, Read, No}
use Rattle.clv_base.specs.declared.events.Event.{Event}
use Rattle.clv_base.specs.declared.events.Event.TheVariants.{Op as OpEvent, FlushIn, Restart}
use Rattle.clv_base.specs.declared.events.Outcome.{Outcome}
use Rattle.clv_base.specs.declared.events.Outcome.TheVariants.{Dead, Durable, Failed}
use Rattle.clv_base.specs.declared.events.Entry.{Entry}
use Rattle.clv_base.specs.declared.state.Voter.{Voter}
use Rattle.clv_base.specs.declared.state.Request.{Request}
use Rattle.clv_base.specs.declared.state.Ruling.{Ruling}
use Rattle.clv_base.specs.declared.state.Ruling.TheVariants.{Commit as CommitVerdict, Acknowledge, Abort as AbortVerdict, End as EndVerdict}
use Rattle.clv_base.specs.declared.state.Stage.{Stage}
use Rattle.clv_base.specs.declared.state.Stage.TheVariants.{Active, Closed, Gone}
use Rattle.clv_base.specs.declared.state.Held.{Held}
use Rattle.clv_base.specs.declared.modes.Decision.{Decision}
use Rattle.clv_base.specs.declared.modes.Decision.TheVariants.{Grant, Wait, Die}
use Rattle.clv_base.specs.Orders.{Table, tx_same, tx_in, tx_get, tx_put, birth_cmp}
use Rattle.clv_base.specs.declared.changes.Change.{Change}
use Rattle.clv_base.specs.Logs.{in_doubt}
use Rattle.clv_base.specs.Locks.{decide}
use Rattle.clv_base.specs.State.{Local, Shard, is_active_stage, is_present}
use Rattle.clv_base.specs.Undo.{stage_of, gone_part, gone_in, doomed_here}
use Rattle.clv_base.specs.Needs.{needs_of}
use Rattle.clv_base.specs.OneShard.{OpReply, OpWaits, OpCrowded, OpDies, OpAnswers, seen_fits, op_reply, op_seen, op_by_stage, op_decided, op_granted, written, locked, active_part, new_part, without_part, rolled_back_if, closed_part, closed_in, dropped_part, marked_in}
use Rattle.clv_base.specs.Due.{finish_reader, with_vote, do_ruling, with_ruling}
use Rattle.clv_base.specs.Events.{Does, happen, finish, with_durable}
use Rattle.clv_base.specs.Restarts.{opened, restored_parts, log_after_restart}
use Rattle.clv_base.specs.Journals.{flush_state, FlushMay}
use Rattle.clv_base.proofs.SameNames.{tx_true, tx_self, tx_eq}
use Rattle.law_base.proofs.Lists.{all_mono}
use Rattle.law_base.proofs.Rows.{rows_put}
use Rattle.law_base.proofs.Tables.{get_put, get_changed}
use Rattle.history_cases.proofs.Stepping.{commits, votes, rules, KeptByDue, settled, Step, op_dies, op_answers, request_again, request_new, request_closes, drops, prepare_closes, decision_comes, Happens, finishes, stops, happened}
use Rattle.clv_base.specs.Machines.{BecomesBy, Runs}
use Rattle.journal_laws.specs.Endings.{RunsFindActive, EndsHere, InactiveIsFree, EndsFree, RestartsFree}
use Rattle.journal_laws.specs.Births.{LeavesBirth}
use Rattle.journal_laws.proofs.FreeBirthsStay.{free_rows, has_none, free_restored, free_event, Free, Leaves}
use Rattle.law_base.proofs.Names.{in_doomed}

-- ---- what is due only takes parts away: what holds of a table and stays where parts go, stays

abbrev GoesOn : (Table Held → Type 0) → Type 0
GoesOn P = (set : List TxId) (doom : Option TxId) (parts : Table Held) → P parts → P (gone_in set doom parts)

due_reader : (P : Table Held → Type 0) → GoesOn P → (u : TxId) (v : Voter) (vote : Vote) (s : Shard) → P s.local.parts → P (finish_reader u vote (with_vote s u v vote)).local.parts
due_reader P g u v Yes s a = a
due_reader P g u v Read s a = g (u ∷ []) None s.local.parts a
due_reader P g u v (No why) s a = a

due_ruling : (P : Table Held → Type 0) → GoesOn P → (u : TxId) (q : Request) (r : Ruling) (s : Shard) → P s.local.parts → P (do_ruling u r (with_ruling u q r s)).local.parts
due_ruling P g u q (CommitVerdict parts) s a = a
due_ruling P g u q Acknowledge s a = g (u ∷ []) None s.local.parts a
due_ruling P g u q (AbortVerdict cause to) s a = g _ (Some u) s.local.parts a
due_ruling P g u q EndVerdict s a = a

due_rows : (P : Table Held → Type 0) → GoesOn P → KeptByDue (λ s. P s.local.parts)
due_rows P g s _ (commits u a b) f = g (u ∷ []) None s.local.parts f
due_rows P g s _ (votes u v vote a b) f = due_reader P g u v vote s f
due_rows P g s _ (rules u q r a b) f = due_ruling P g u q r s f

finish_rows : (P : Table Held → Type 0) → GoesOn P → (s : Shard) → P s.local.parts → P (finish s).local.parts
finish_rows P g s a = settled (λ x. P x.local.parts) s (due_rows P g) a

-- ---- active parts are found

abbrev Found : Table Held → Type 0
Found parts = AllByRecursion (λ p. is_active_stage (p.1).stage ≡ true → tx_get p.0 parts ≡ Some p.1) parts

-- a change of some parts that makes none active
changed_rows : (test : TxId → Bool) (f : Held → Held) (all : Table Held) → ((h : Held) → is_active_stage (f h).stage ≡ true → is_active_stage h.stage ≡ true) → (parts : Table Held)
    → AllByRecursion (λ (p : TxId × Held). is_active_stage (p.1).stage ≡ true → tx_get p.0 all ≡ Some p.1) parts
    → AllByRecursion (λ (p : TxId × Held). is_active_stage (p.1).stage ≡ true → tx_get p.0 (map (λ (q : TxId × Held). (q.0, cond (test q.0) (f q.1) q.1)) all) ≡ Some p.1)
    (map (λ (q : TxId × Held). (q.0, cond (test q.0) (f q.1) q.1)) parts)
changed_rows test f all k [] a = tt
changed_rows test f all k (p ∷ ps) a = ((λ h. row (a.0 (was (test p.0) h))), changed_rows test f all k ps a.1)
  where
    was : (b : Bool) → is_active_stage (cond b (f p.1) p.1).stage ≡ true → is_active_stage (p.1).stage ≡ true
    was true h = k p.1 h
    was false h = h

    row : tx_get p.0 all ≡ Some p.1 → tx_get p.0 (map (λ p. (p.0, cond (test p.0) (f p.1) p.1)) all) ≡ Some (cond (test p.0) (f p.1) p.1)
    row g = get_changed test f p.0 all ∙ ap (λ o. elim o [ Some h ↦ Some (cond (test p.0) (f h) h) | None ↦ None ]) g

found_changed : (test : TxId → Bool) (f : Held → Held) (parts : Table Held) → ((h : Held) → is_active_stage (f h).stage ≡ true → is_active_stage h.stage ≡ true) → Found parts
    → Found (map (λ p. (p.0, cond (test p.0) (f p.1) p.1)) parts)
found_changed test f parts k a = changed_rows test f parts k parts a

found_gone : (set : List TxId) (doom : Option TxId) (parts : Table Held) → Found parts → Found (gone_in set doom parts)
found_gone set doom parts a = found_changed (λ t. tx_in t set) (gone_part doom) parts (λ h e. absurd (both_ways false refl e)) a

found_closed : (u : TxId) (parts : Table Held) → Found parts → Found (closed_in u parts)
found_closed u parts a = found_changed (tx_same u) closed_part parts (λ h e. absurd (both_ways false refl e)) a

found_marked : (u : TxId) (parts : Table Held) → Found parts → Found (marked_in u parts)
found_marked u parts a = found_changed (tx_same u) dropped_part parts (λ h e. e) a

none_some : {h : Held} {X : Type 0} → ◌≡◌ {A = Option Held} None (Some h) → X
none_some k = cc

found_new : (u : TxId) (b : Birth) (o : Option Held) (parts : Table Held) → tx_get u parts ≡ o → Found parts → Found (new_part u b o parts)
found_new u b (Some h) parts e a = a
found_new u b None parts e a =
    rows_put (λ p. is_active_stage (p.1).stage ≡ true → tx_get p.0 (tx_put u (active_part b) parts) ≡ Some p.1) u (active_part b) parts
    (λ h. get_put u u (active_part b) parts ∙ ap (λ c. cond c (Some (active_part b)) (tx_get u parts)) (tx_self u))
    (all_mono (λ p. is_active_stage (p.1).stage ≡ true → tx_get p.0 parts ≡ Some p.1) (λ p. is_active_stage (p.1).stage ≡ true → tx_get p.0 (tx_put u (active_part b) parts) ≡ Some p.1)
    (λ p k h. old p (tx_same p.0 u) refl (k h)) parts a)
  where
    old : (p : TxId × Held) (c : Bool) → tx_same p.0 u ≡ c → tx_get p.0 parts ≡ Some p.1 → tx_get p.0 (tx_put u (active_part b) parts) ≡ Some p.1
    old p true q g = none_some (sym e ∙ ap (λ t. tx_get t parts) (sym (tx_true p.0 u q)) ∙ g)
    old p false q g = get_put u p.0 (active_part b) parts ∙ ap (λ c. cond c (Some (active_part b)) (tx_get p.0 parts)) q ∙ g

found_written : (u : TxId) (w : Option (ℕ × Change)) (l : Local) → Found l.parts → Found (written u w l).parts
found_written u None l a = a
found_written u (Some w) l a = a

found_rolled : (u : TxId) (b : Bool) (l : Local) → Found l.parts → Found (rolled_back_if b u l).parts
found_rolled u true l a = found_gone _ (Some u) l.parts a
found_rolled u false l a = a

-- ---- a transaction with no active part

abbrev Quietly : TxId → Table Held → Type 0
Quietly tx parts = AllByRecursion (λ p. tx_same tx p.0 ≡ true → is_active_stage (p.1).stage ≡ false) parts

quiet_map : (tx : TxId) (f : TxId × Held → TxId × Held) → ((p : TxId × Held) → (tx_same tx p.0 ≡ true → is_active_stage (p.1).stage ≡ false) → tx_same tx (f p).0 ≡ true → is_active_stage ((f p).1).stage ≡ false)
    → (parts : Table Held) → Quietly tx parts → Quietly tx (map f parts)
quiet_map tx f k [] a = tt
quiet_map tx f k (p ∷ ps) a = (k p a.0, quiet_map tx f k ps a.1)

quiet_gone : (tx : TxId) (set : List TxId) (doom : Option TxId) (parts : Table Held) → Quietly tx parts → Quietly tx (gone_in set doom parts)
quiet_gone tx set doom parts a = quiet_map tx (λ p. (p.0, cond (tx_in p.0 set) (gone_part doom p.1) p.1)) (λ p k e. at p (tx_in p.0 set) (k e)) parts a
  where
    at : (p : TxId × Held) (b : Bool) → is_active_stage (p.1).stage ≡ false → is_active_stage (cond b (gone_part doom p.1) p.1).stage ≡ false
    at p true h = refl
    at p false h = h

quiet_marked : (tx u : TxId) (parts : Table Held) → Quietly tx parts → Quietly tx (marked_in u parts)
quiet_marked tx u parts a = quiet_map tx (λ p. (p.0, cond (tx_same u p.0) (dropped_part p.1) p.1)) (λ p k e. at p (tx_same u p.0) (k e)) parts a
  where
    at : (p : TxId × Held) (b : Bool) → is_active_stage (p.1).stage ≡ false → is_active_stage (cond b (dropped_part p.1) p.1).stage ≡ false
    at p true h = h
    at p false h = h

-- its own part is closed, or gone with a set that it is in
quiet_closed : (tx : TxId) (parts : Table Held) → Quietly tx (closed_in tx parts)
quiet_closed tx [] = tt
quiet_closed tx (p ∷ ps) = ((λ e. ap (λ b. is_active_stage (cond b (closed_part p.1) p.1).stage) e), quiet_closed tx ps)

quiet_taken : (tx : TxId) (set : List TxId) (doom : Option TxId) → tx_in tx set ≡ true → (parts : Table Held) → Quietly tx (gone_in set doom parts)
quiet_taken tx set doom i [] = tt
quiet_taken tx set doom i (p ∷ ps) =
    ((λ e. ap (λ b. is_active_stage (cond b (gone_part doom p.1) p.1).stage) (ap (λ t. tx_in t set) (sym (tx_true tx p.0 e)) ∙ i)), quiet_taken tx set doom i ps)

-- where it is found not to be active
quiet_found : (l : Local) (tx : TxId) → Found l.parts → stage_of l tx ≢ Some Active → Quietly tx l.parts
quiet_found l tx a n =
    all_mono (λ p. is_active_stage (p.1).stage ≡ true → tx_get p.0 l.parts ≡ Some p.1) (λ p. tx_same tx p.0 ≡ true → is_active_stage (p.1).stage ≡ false)
    (λ p k e. false_from_ne_true (is_active_stage (p.1).stage) (λ h. n (active p e h (k h)))) l.parts a
  where
    is : (st : Stage) → is_active_stage st ≡ true → st ≡ Active
    is Active h = refl
    is Closed h = absurd (both_ways false refl h)
    is (Gone d) h = absurd (both_ways false refl h)

    active : (p : TxId × Held) → tx_same tx p.0 ≡ true → is_active_stage (p.1).stage ≡ true → tx_get p.0 l.parts ≡ Some p.1 → stage_of l tx ≡ Some Active
    active p e h g =
        ap (λ o. elim o [ Some h ↦ Some h.stage | None ↦ None ]) (ap (λ t. tx_get t l.parts) (tx_true tx p.0 e) ∙ g) ∙ ap Some (is (p.1).stage h)

-- then a birth that it alone might have is free
leaves_row : (tx u : TxId) (birth : Birth) (p : TxId × Held) → Leaves tx birth p → (tx_same tx p.0 ≡ true → is_active_stage (p.1).stage ≡ false) → Leaves u birth p
leaves_row tx u birth p l k = at (not (tx_same u p.0)) (tx_same tx p.0) (is_active_stage (p.1).stage) (is_eq (birth_cmp birth (p.1).birth)) l k
  where
    at : (c b x y : Bool) → (not b && x && y) ≡ false → (b ≡ true → x ≡ false) → (c && x && y) ≡ false
    at c true x y l k = subst (λ z. (c && z && y) ≡ false) (sym (k refl)) (none c y)
      where
        none : (c y : Bool) → (c && false && y) ≡ false
        none true y = refl
        none false y = refl
    at true false x y l k = l
    at false false x y l k = refl

leaves_all : (tx u : TxId) (birth : Birth) (parts : Table Held) → Free tx birth parts → Quietly tx parts → Free u birth parts
leaves_all tx u birth [] a q = tt
leaves_all tx u birth (p ∷ ps) a q = (leaves_row tx u birth p a.0 q.0, leaves_all tx u birth ps a.1 q.1)

pub inactive_is_free : InactiveIsFree
inactive_is_free s tx u birth f n h = has_none u birth s.local.parts (leaves_all tx u birth s.local.parts (free_rows tx birth s.local.parts h) (quiet_found s.local tx f n))

pub restarts_free : RestartsFree
restarts_free s epoch log tx birth = has_none tx birth _ (free_restored tx birth (in_doubt s.shard log))

-- ---- an operation

abbrev FoundReply : OpReply → Type 0
FoundReply (OpWaits younger) = Unit {0}
FoundReply (OpCrowded count) = Unit {0}
FoundReply (OpDies cause m) = Found m.parts
FoundReply (OpAnswers answer m) = Found m.parts

-- one that dies leaves no active part of it
abbrev QuietReply : TxId → OpReply → Type 0
QuietReply u (OpWaits younger) = Unit {0}
QuietReply u (OpCrowded count) = Unit {0}
QuietReply u (OpDies cause m) = Quietly u m.parts
QuietReply u (OpAnswers answer m) = Unit {0}

quiet_without : (l : Local) (u : TxId) → Found l.parts → Quietly u (without_part u l).parts
quiet_without l u a = at (is_present (stage_of l u)) refl
  where
    absent : {b : Bool} → b ≡ false → stage_of l u ≡ Some Active → is_present (stage_of l u) ≡ b → ⊥
    absent p q r = both_ways true (sym (ap is_present q) ∙ r ∙ p) refl

    at : (b : Bool) → is_present (stage_of l u) ≡ b → Quietly u (rolled_back_if b u l).parts
    at true h = quiet_taken u (doomed_here l u) (Some u) (in_doomed l u h) l.parts
    at false h = quiet_found l u a (λ q. absent refl q h)

module _ (u : TxId) (b : Birth) (op : Op) where
  found_granted : (l : Local) (crowded : Bool) → Found l.parts → FoundReply (op_granted l u b op crowded)
  found_granted l true a = tt
  found_granted l false a = found_written u _ (locked u b op l) (found_new u b (tx_get u l.parts) l.parts refl a)

  found_decided : (l : Local) (d : Decision) → Found l.parts → FoundReply (op_decided l u b op d)
  found_decided l (Die older) a = found_rolled u (is_present (stage_of l u)) l a
  found_decided l (Wait younger) a = tt
  found_decided l Grant a = found_granted l _ a

  found_staged : (l : Local) (st : Option Stage) → Found l.parts → FoundReply (op_by_stage l u b op st)
  found_staged l None a = found_decided l (decide u b (needs_of op l.records) l.locks) a
  found_staged l (Some Active) a = found_decided l (decide u b (needs_of op l.records) l.locks) a
  found_staged l (Some Closed) a = a
  found_staged l (Some (Gone None)) a = a
  found_staged l (Some (Gone (Some doom))) a = a

  found_seen : (shard : ℕ) (l : Local) (seen : Option ℕ) (fits : Bool) → Found l.parts → FoundReply (op_seen shard l u b seen op fits)
  found_seen shard l seen false a = found_rolled u (is_present (stage_of l u)) l a
  found_seen shard l seen true a = found_staged l (stage_of l u) a

  quiet_granted : (l : Local) (crowded : Bool) → QuietReply u (op_granted l u b op crowded)
  quiet_granted l true = tt
  quiet_granted l false = tt

  quiet_decided : (l : Local) (d : Decision) → Found l.parts → QuietReply u (op_decided l u b op d)
  quiet_decided l (Die older) a = quiet_without l u a
  quiet_decided l (Wait younger) a = tt
  quiet_decided l Grant a = quiet_granted l _

  quiet_staged : (l : Local) (st : Option Stage) → stage_of l u ≡ st → Found l.parts → QuietReply u (op_by_stage l u b op st)
  quiet_staged l None e a = quiet_decided l (decide u b (needs_of op l.records) l.locks) a
  quiet_staged l (Some Active) e a = quiet_decided l (decide u b (needs_of op l.records) l.locks) a
  quiet_staged l (Some Closed) e a = quiet_found l u a (λ q. differ e q)
    where
      differ : {x : Option Stage} → x ≡ Some Closed → x ≡ Some Active → ⊥
      differ p q = absurd cc
  quiet_staged l (Some (Gone None)) e a = quiet_found l u a (λ q. differ e q)
    where
      differ : {x : Option Stage} → x ≡ Some (Gone None) → x ≡ Some Active → ⊥
      differ p q = absurd cc
  quiet_staged l (Some (Gone (Some doom))) e a = quiet_found l u a (λ q. differ e q)
    where
      differ : {x : Option Stage} → x ≡ Some (Gone (Some doom)) → x ≡ Some Active → ⊥
      differ p q = absurd cc

  quiet_seen : (shard : ℕ) (l : Local) (seen : Option ℕ) (fits : Bool) → Found l.parts → QuietReply u (op_seen shard l u b seen op fits)
  quiet_seen shard l seen false a = quiet_without l u a
  quiet_seen shard l seen true a = quiet_staged l (stage_of l u) refl a

found_reply : (shard : ℕ) (l : Local) (u : TxId) (b : Birth) (seen : Option ℕ) (op : Op) (r : OpReply) → op_reply shard l u b seen op ≡ r → Found l.parts → FoundReply r
found_reply shard l u b seen op r e a = subst FoundReply e (found_seen u b op shard l seen (seen_fits l.epoch seen) a)

quiet_reply : (shard : ℕ) (l : Local) (u : TxId) (b : Birth) (seen : Option ℕ) (op : Op) (r : OpReply) → op_reply shard l u b seen op ≡ r → Found l.parts → QuietReply u r
quiet_reply shard l u b seen op r e a = subst (QuietReply u) e (quiet_seen u b op shard l seen (seen_fits l.epoch seen) a)

-- ---- runs find active parts

found_step : (s t : Shard) {e : Event} {o : Outcome} → Step s e o t → Found s.local.parts → Found t.local.parts
found_step s _ (op_dies u b nth seen op cause l h) a = found_reply s.shard s.local u b seen op (OpDies cause l) h a
found_step s _ (op_answers u b nth seen op answer l h) a = found_reply s.shard s.local u b seen op (OpAnswers answer l) h a
found_step s _ (request_closes u ts f h) a = found_closed u s.local.parts a
found_step s _ (drops u stage h) a = found_marked u _ (found_rolled u (is_present (stage_of s.local u)) s.local a)
found_step s _ (prepare_closes u home seen stamp h) a = found_closed u s.local.parts a
found_step s _ (decision_comes u home false stamp h) a = found_gone _ (Some u) s.local.parts a
found_step s _ _ a = a

found_happens : (s t : Shard) {e : Event} {o : Outcome} → Happens s e o t → Found s.local.parts → Found t.local.parts
found_happens s _ (finishes {t = x} u h) a = finish_rows Found found_gone x (found_step s x h a)
found_happens s _ (stops u) a = a

found_event : (s t : Shard) (e : Event) (o : Outcome) → happen s e ≡ Does o t → Found s.local.parts → Found t.local.parts
found_event s t e o h a = found_happens s t (happened s t e o h) a

found_restored_in : (all : Table Held) (txs : List TxId) → AllByRecursion (λ (p : TxId × Held). is_active_stage (p.1).stage ≡ true → tx_get p.0 all ≡ Some p.1) (restored_parts txs)
found_restored_in all [] = tt
found_restored_in all (t ∷ ts) = ((λ h. absurd (both_ways false refl h)), found_restored_in all ts)

found_flush : (s : Shard) (o : Outcome) → FlushMay s o → Found s.local.parts → Found (flush_state s o).local.parts
found_flush s (Durable n) f a = finish_rows Found found_gone (with_durable n s) a
found_flush s Failed f a = a
found_flush s _ f a = absurd f

found_becomes : (s t : Shard) (e : Event) (o : Outcome) → BecomesBy s e o t → Found s.local.parts → Found t.local.parts
found_becomes s t FlushIn o b a = subst (λ x. Found x.local.parts) (sym b.2) (found_flush s o b.1 a)
found_becomes s t Restart o (u, (kept, epoch, after, r, p, q)) a = subst (λ x. Found x.local.parts) (sym q) (found_restored_in (restored_parts (in_doubt s.shard after)) (in_doubt s.shard after))
found_becomes s t (OpEvent u b nth seen op) o x a = found_event s t (OpEvent u b nth seen op) o x.1 a
found_becomes s t e o x a = found_event s t e o x a

found_run : (s : Shard) (es : List Entry) (t : Shard) → Runs s es t → Found s.local.parts → Found t.local.parts
found_run s [] t r a = subst (λ x. Found x.local.parts) r a
found_run s (e ∷ es) t (u, m, r) a =
    found_run u es t r (subst (λ x. Found x.local.parts) (sym m.entered) (found_becomes s m.state e.event e.outcome m.becomes a))

pub runs_find_active : RunsFindActive
runs_find_active n run found es t r =
    found_run (opened n run found) es t r (found_restored_in (restored_parts (in_doubt n (log_after_restart n found run 0))) (in_doubt n (log_after_restart n found run 0)))

-- ---- an end

closed_stage : {x : Option Stage} → (x ≡ Some (Gone None)) ⊎ (x ≡ Some Closed) → x ≡ Some Active → ⊥
closed_stage (inl p) q = absurd cc
closed_stage (inr p) q = absurd cc

none_stage : {x : Option Stage} → x ≡ None → x ≡ Some Active → ⊥
none_stage p q = absurd cc

-- what the event leaves of it before what is due is done
ended_step : (s t : Shard) (tx : TxId) {e : Event} {o : Outcome} → Step s e o t → EndsHere tx e o → Found s.local.parts → Quietly tx t.local.parts
ended_step s _ tx (op_dies u b nth seen op cause l h) k a = subst (λ z. Quietly z l.parts) k (quiet_reply s.shard s.local u b seen op (OpDies cause l) h a)
ended_step s _ tx (request_again u ts f h) k a = subst (λ z. Quietly z s.local.parts) k (quiet_found s.local u a (λ q. closed_stage h q))
ended_step s _ tx (request_new u ts f h) k a = subst (λ z. Quietly z s.local.parts) k (quiet_found s.local u a (λ q. none_stage h q))
ended_step s _ tx (request_closes u ts f h) k a = subst (λ z. Quietly z (closed_in u s.local.parts)) k (quiet_closed u s.local.parts)
ended_step s _ tx (drops u stage h) k a = subst (λ z. Quietly z (marked_in u (without_part u s.local).parts)) k (quiet_marked u u _ (quiet_without s.local u a))
ended_step s _ tx _ k a = absurd k

ended : (s t : Shard) (tx : TxId) {e : Event} {o : Outcome} → Happens s e o t → EndsHere tx e o → Found s.local.parts → Quietly tx t.local.parts
ended s _ tx (finishes {t = x} u h) k a = finish_rows (Quietly tx) (quiet_gone tx) x (ended_step s x tx h k a)
ended s _ tx (stops u) k a = absurd k

-- an end is no operation that is answered
leaves_ending : (tx : TxId) (birth : Birth) (e : Event) (o : Outcome) → EndsHere tx e o → LeavesBirth tx birth e
leaves_ending tx birth (OpEvent u b nth seen op) (Dead cause) k = and_left (not (tx_same tx u)) (is_eq (birth_cmp birth b)) (ap not (tx_eq tx u (sym k)))
leaves_ending tx birth (OpEvent u b nth seen op) _ k = absurd k
leaves_ending tx birth _ o k = tt

pub ends_free : EndsFree
ends_free s t e o tx u birth f d k h =
    has_none u birth t.local.parts
    (leaves_all tx u birth t.local.parts (free_event tx birth s t e o d (leaves_ending tx birth e o k) (free_rows tx birth s.local.parts h)) (ended s t tx (happened s t e o d) k f))
