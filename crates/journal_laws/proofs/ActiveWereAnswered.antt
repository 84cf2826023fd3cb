-- Who is active was answered in the shard's epoch.
use Rattle.std.proofs.Common.{◌≡◌, ⊎_elim, refl, sym, ap, subst, ◌∙◌, ℕ, true, false, cond, Bool, List, [], ◌∷◌, map, Option, Some, None}
use Rattle.std.specs.List.{AllByRecursion}
use Rattle.std.proofs.lemmas.Bool.{both_ways, or_left}
use Rattle.clv_base.specs.declared.names.TxId.{TxId}
use Rattle.clv_base.specs.declared.names.Birth.{Birth}
use Rattle.clv_base.specs.declared.ops.Op.{Op}
use Rattle.clv_base.specs.declared.causes.Vote.{Vote}
use Rattle.clv_base.specs.declared.causes.Vote.TheVariants.{Yes, Read, No}
use Rattle.clv_base.specs.declared.events.Event.{Event}
use Rattle.clv_base.specs.declared.events.Event.TheVariants.{Op as OpEvent, FlushIn, Restart}
use Rattle.clv_base.specs.declared.events.Outcome.{Outcome}
use Rattle.clv_base.specs.declared.events.Outcome.TheVariants.{Durable, Failed}
use Rattle.clv_base.specs.declared.events.Entry.{Entry}
use Rattle.clv_base.specs.declared.state.Voter.{Voter}
use Rattle.clv_base.specs.declared.state.Request.{Request}
use Rattle.clv_base.specs.declared.state.Ruling.{Ruling}
use Rattle.clv_base.specs.declared.state.Ruling.TheVariants.{Commit as CommitVerdict, Acknowledge, Abort as AbortVerdict, End as EndVerdict}
use Rattle.clv_base.specs.declared.state.Stage.{Stage}
use Rattle.clv_base.specs.declared.state.Stage.TheVariants.{Active, Closed, Gone}
use Rattle.clv_base.specs.declared.state.Held.{Held}
use Rattle.clv_base.specs.declared.modes.Decision.{Decision}
use Rattle.clv_base.specs.declared.modes.Decision.TheVariants.{Grant, Wait, Die}
use Rattle.clv_base.specs.Orders.{Table, tx_same, tx_in, tx_get}
use Rattle.clv_base.specs.declared.changes.Change.{Change}
use Rattle.clv_base.specs.Logs.{in_doubt}
use Rattle.clv_base.specs.Locks.{decide}
use Rattle.clv_base.specs.State.{Local, Shard, is_active_stage, is_present}
use Rattle.clv_base.specs.Undo.{stage_of, gone_part, gone_in}
use Rattle.clv_base.specs.Needs.{needs_of}
use Rattle.clv_base.specs.OneShard.{OpReply, OpWaits, OpCrowded, OpDies, OpAnswers, seen_fits, op_reply, op_seen, op_by_stage, op_decided, op_granted, written, locked, active_part, new_part, rolled_back_if, closed_part, closed_in, dropped_part, marked_in}
use Rattle.clv_base.specs.Due.{finish_reader, with_vote, do_ruling, with_ruling}
use Rattle.clv_base.specs.Events.{Does, happen, finish, with_durable}
use Rattle.clv_base.specs.Restarts.{opened, restored_parts, log_after_restart}
use Rattle.clv_base.specs.Journals.{flush_state, FlushMay}
use Rattle.clv_base.proofs.SameNames.{tx_self}
use Rattle.law_base.proofs.Lists.{all_mono}
use Rattle.law_base.proofs.Rows.{rows_put}
use Rattle.history_cases.proofs.Stepping.{commits, votes, rules, KeptByDue, settled, Step, op_dies, op_answers, request_closes, drops, prepare_closes, decision_comes, Happens, finishes, stops, happened}
use Rattle.std.proofs.Common.{◌++◌, ◌==◌, append_assoc, append-nil}
use Rattle.std.specs.List.{list_any}
use Rattle.std.proofs.lemmas.Bool.{or_right, or_cases, eq-eqb}
use Rattle.clv_base.specs.declared.events.Outcome.TheVariants.{Answered}
use Rattle.law_base.proofs.Rows.{rows_get}
use Rattle.clv_base.specs.Machines.{BecomesBy, Runs}
use Rattle.journal_laws.specs.Endings.{answered_in, ActiveWereAnswered}

-- each active part's transaction has a property; and the epoch stays
abbrev Rows : (TxId → Type 0) → Table Held → Type 0
Rows P parts = AllByRecursion (λ (p : TxId × Held). is_active_stage (p.1).stage ≡ true → P p.0) parts

rows_changed : (P : TxId → Type 0) (test : TxId → Bool) (f : Held → Held) → ((h : Held) → is_active_stage (f h).stage ≡ true → is_active_stage h.stage ≡ true) → (parts : Table Held) → Rows P parts
    → Rows P (map (λ p. (p.0, cond (test p.0) (f p.1) p.1)) parts)
rows_changed P test f k [] a = tt
rows_changed P test f k (p ∷ ps) a = ((λ h. a.0 (was (test p.0) h)), rows_changed P test f k ps a.1)
  where
    was : (b : Bool) → is_active_stage (cond b (f p.1) p.1).stage ≡ true → is_active_stage (p.1).stage ≡ true
    was true h = k p.1 h
    was false h = h

rows_gone : (P : TxId → Type 0) (set : List TxId) (doom : Option TxId) (parts : Table Held) → Rows P parts → Rows P (gone_in set doom parts)
rows_gone P set doom parts a = rows_changed P (λ t. tx_in t set) (gone_part doom) (λ h e. absurd (both_ways false refl e)) parts a

rows_closed : (P : TxId → Type 0) (u : TxId) (parts : Table Held) → Rows P parts → Rows P (closed_in u parts)
rows_closed P u parts a = rows_changed P (tx_same u) closed_part (λ h e. absurd (both_ways false refl e)) parts a

rows_marked : (P : TxId → Type 0) (u : TxId) (parts : Table Held) → Rows P parts → Rows P (marked_in u parts)
rows_marked P u parts a = rows_changed P (tx_same u) dropped_part (λ h e. e) parts a

rows_new : (P : TxId → Type 0) (u : TxId) (b : Birth) (o : Option Held) (parts : Table Held) → P u → Rows P parts → Rows P (new_part u b o parts)
rows_new P u b None parts p a = rows_put (λ (r : TxId × Held). is_active_stage (r.1).stage ≡ true → P r.0) u (active_part b) parts (λ h. p) a
rows_new P u b (Some h) parts p a = a

-- of a shard's work
abbrev Fits : (TxId → Type 0) → ℕ → Local → Type 0
Fits P epoch l = (l.epoch ≡ epoch) × Rows P l.parts

fits_written : (P : TxId → Type 0) (epoch : ℕ) (u : TxId) (w : Option (ℕ × Change)) (l : Local) → Fits P epoch l → Fits P epoch (written u w l)
fits_written P epoch u None l a = a
fits_written P epoch u (Some w) l a = (a.0, a.1)

fits_rolled : (P : TxId → Type 0) (epoch : ℕ) (u : TxId) (b : Bool) (l : Local) → Fits P epoch l → Fits P epoch (rolled_back_if b u l)
fits_rolled P epoch u true l a = (a.0, rows_gone P _ (Some u) l.parts a.1)
fits_rolled P epoch u false l a = a

-- ---- an operation

abbrev FitsReply : (TxId → Type 0) → ℕ → TxId → OpReply → Type 0
FitsReply P epoch u (OpWaits younger) = Unit {0}
FitsReply P epoch u (OpCrowded count) = Unit {0}
FitsReply P epoch u (OpDies cause m) = Fits P epoch m
FitsReply P epoch u (OpAnswers answer m) = P u → Fits P epoch m

fits_granted : (P : TxId → Type 0) (epoch : ℕ) (u : TxId) (b : Birth) (op : Op) (l : Local) (crowded : Bool) → Fits P epoch l → FitsReply P epoch u (op_granted l u b op crowded)
fits_granted P epoch u b op l true a = tt
fits_granted P epoch u b op l false a = λ p. fits_written P epoch u _ (locked u b op l) (a.0, rows_new P u b (tx_get u l.parts) l.parts p a.1)

fits_decided : (P : TxId → Type 0) (epoch : ℕ) (u : TxId) (b : Birth) (op : Op) (l : Local) (d : Decision) → Fits P epoch l → FitsReply P epoch u (op_decided l u b op d)
fits_decided P epoch u b op l (Die older) a = fits_rolled P epoch u (is_present (stage_of l u)) l a
fits_decided P epoch u b op l (Wait younger) a = tt
fits_decided P epoch u b op l Grant a = fits_granted P epoch u b op l _ a

fits_staged : (P : TxId → Type 0) (epoch : ℕ) (u : TxId) (b : Birth) (op : Op) (l : Local) (st : Option Stage) → Fits P epoch l → FitsReply P epoch u (op_by_stage l u b op st)
fits_staged P epoch u b op l None a = fits_decided P epoch u b op l (decide u b (needs_of op l.records) l.locks) a
fits_staged P epoch u b op l (Some Active) a = fits_decided P epoch u b op l (decide u b (needs_of op l.records) l.locks) a
fits_staged P epoch u b op l (Some Closed) a = a
fits_staged P epoch u b op l (Some (Gone None)) a = a
fits_staged P epoch u b op l (Some (Gone (Some doom))) a = a

fits_seen : (P : TxId → Type 0) (epoch : ℕ) (u : TxId) (b : Birth) (op : Op) (shard : ℕ) (l : Local) (seen : Option ℕ) (fits : Bool) → Fits P epoch l → FitsReply P epoch u (op_seen shard l u b seen op fits)
fits_seen P epoch u b op shard l seen false a = fits_rolled P epoch u (is_present (stage_of l u)) l a
fits_seen P epoch u b op shard l seen true a = fits_staged P epoch u b op l (stage_of l u) a

fits_reply : (P : TxId → Type 0) (epoch shard : ℕ) (l : Local) (u : TxId) (b : Birth) (seen : Option ℕ) (op : Op) (r : OpReply) → op_reply shard l u b seen op ≡ r → Fits P epoch l → FitsReply P epoch u r
fits_reply P epoch shard l u b seen op r e a = subst (FitsReply P epoch u) e (fits_seen P epoch u b op shard l seen (seen_fits l.epoch seen) a)

-- ---- what is due, and events

due_reader : (P : TxId → Type 0) (epoch : ℕ) (u : TxId) (v : Voter) (vote : Vote) (s : Shard) → Fits P epoch s.local → Fits P epoch (finish_reader u vote (with_vote s u v vote)).local
due_reader P epoch u v Yes s a = a
due_reader P epoch u v Read s a = (a.0, rows_gone P (u ∷ []) None s.local.parts a.1)
due_reader P epoch u v (No why) s a = a

due_ruling : (P : TxId → Type 0) (epoch : ℕ) (u : TxId) (q : Request) (r : Ruling) (s : Shard) → Fits P epoch s.local → Fits P epoch (do_ruling u r (with_ruling u q r s)).local
due_ruling P epoch u q (CommitVerdict parts) s a = (a.0, a.1)
due_ruling P epoch u q Acknowledge s a = (a.0, rows_gone P (u ∷ []) None s.local.parts a.1)
due_ruling P epoch u q (AbortVerdict cause to) s a = (a.0, rows_gone P _ (Some u) s.local.parts a.1)
due_ruling P epoch u q EndVerdict s a = (a.0, a.1)

fits_due : (P : TxId → Type 0) (epoch : ℕ) → KeptByDue (λ s. Fits P epoch s.local)
fits_due P epoch s _ (commits u a b) f = (f.0, rows_gone P (u ∷ []) None s.local.parts f.1)
fits_due P epoch s _ (votes u v vote a b) f = due_reader P epoch u v vote s f
fits_due P epoch s _ (rules u q r a b) f = due_ruling P epoch u q r s f

fits_finish : (P : TxId → Type 0) (epoch : ℕ) (s : Shard) → Fits P epoch s.local → Fits P epoch (finish s).local
fits_finish P epoch s a = let k = settled (λ x. Fits P epoch x.local) s (fits_due P epoch) a in (k.0, k.1)

-- an operation that is answered gives its transaction the property
abbrev Gives : (TxId → Type 0) → ℕ → Event → Outcome → Type 0
Gives P epoch (OpEvent u b nth seen op) (Answered answer n) = n ≡ epoch → P u
Gives P epoch _ _ = Unit {0}

fits_step : (P : TxId → Type 0) (epoch : ℕ) (s t : Shard) {e : Event} {o : Outcome} → Step s e o t → Gives P epoch e o → Fits P epoch s.local → Fits P epoch t.local
fits_step P epoch s _ (op_dies u b nth seen op cause l h) g a = fits_reply P epoch s.shard s.local u b seen op (OpDies cause l) h a
fits_step P epoch s _ (op_answers u b nth seen op answer l h) g a = fits_reply P epoch s.shard s.local u b seen op (OpAnswers answer l) h a (g a.0)
fits_step P epoch s _ (request_closes u ts f h) g a = (a.0, rows_closed P u s.local.parts a.1)
fits_step P epoch s _ (drops u stage h) g a = let r = fits_rolled P epoch u (is_present (stage_of s.local u)) s.local a in (r.0, rows_marked P u _ r.1)
fits_step P epoch s _ (prepare_closes u home seen stamp h) g a = (a.0, rows_closed P u s.local.parts a.1)
fits_step P epoch s _ (decision_comes u home true stamp h) g a = (a.0, a.1)
fits_step P epoch s _ (decision_comes u home false stamp h) g a = (a.0, rows_gone P _ (Some u) s.local.parts a.1)
fits_step P epoch s _ _ g a = a

fits_happens : (P : TxId → Type 0) (epoch : ℕ) (s t : Shard) {e : Event} {o : Outcome} → Happens s e o t → Gives P epoch e o → Fits P epoch s.local → Fits P epoch t.local
fits_happens P epoch s _ (finishes {t = x} u h) g a = fits_finish P epoch x (fits_step P epoch s x h g a)
fits_happens P epoch s _ (stops u) g a = a

fits_event : (P : TxId → Type 0) (epoch : ℕ) (s t : Shard) (e : Event) (o : Outcome) → happen s e ≡ Does o t → Gives P epoch e o → Fits P epoch s.local → Fits P epoch t.local
fits_event P epoch s t e o h g a = fits_happens P epoch s t (happened s t e o h) g a

fits_flush : (P : TxId → Type 0) (epoch : ℕ) (s : Shard) (o : Outcome) → FlushMay s o → Fits P epoch s.local → Fits P epoch (flush_state s o).local
fits_flush P epoch s (Durable n) f a = fits_finish P epoch (with_durable n s) a
fits_flush P epoch s Failed f a = a
fits_flush P epoch s _ f a = absurd f

rows_restored : (P : TxId → Type 0) (txs : List TxId) → Rows P (restored_parts txs)
rows_restored P [] = tt
rows_restored P (t ∷ ts) = ((λ h. absurd (both_ways false refl h)), rows_restored P ts)

-- ---- entries so far

abbrev Tells : List Entry → ℕ → TxId → Type 0
Tells es epoch u = list_any (answered_in epoch u) es ≡ true

any_more : (p : Entry → Bool) (es : List Entry) (e : Entry) → list_any p es ≡ true → list_any p (es ++ e ∷ []) ≡ true
any_more p [] e h = absurd (both_ways false refl h)
any_more p (f ∷ fs) e h = ⊎_elim (λ a. or_left (p f) (list_any p (fs ++ e ∷ [])) a) (λ b. or_right (p f) (list_any p (fs ++ e ∷ [])) (any_more p fs e b)) (or_cases (p f) (list_any p fs) h)

any_last : (p : Entry → Bool) (es : List Entry) (e : Entry) → p e ≡ true → list_any p (es ++ e ∷ []) ≡ true
any_last p [] e h = or_left (p e) false h
any_last p (f ∷ fs) e h = or_right (p f) (list_any p (fs ++ e ∷ [])) (any_last p fs e h)

gives : (es : List Entry) (stamp walker epoch : ℕ) (e : Event) (o : Outcome) → Gives (Tells (es ++ record { stamp = stamp; walker = walker; event = e; outcome = o } ∷ []) epoch) epoch e o
gives es stamp walker epoch (OpEvent u b nth seen op) (Answered answer n) =
    λ q. any_last (answered_in epoch u) es (record { stamp = stamp; walker = walker; event = OpEvent u b nth seen op; outcome = Answered answer n })
    (ap (λ c. elim (cond c (Some n) None) [ Some n ↦ n == epoch | None ↦ false ]) (tx_self u) ∙ eq-eqb n epoch q)
gives es stamp walker epoch (OpEvent u b nth seen op) _ = tt
gives es stamp walker epoch _ o = tt

-- by the epoch after it
becomes : (es : List Entry) (entry : Entry) (s t : Shard) (e : Event) (o : Outcome) → BecomesBy s e o t → Gives (Tells (es ++ entry ∷ []) s.local.epoch) s.local.epoch e o → Rows (Tells es s.local.epoch) s.local.parts
    → Rows (Tells (es ++ entry ∷ []) t.local.epoch) t.local.parts
becomes es entry s t e o b g a = at e o b g
  where
    more_rows : Fits (Tells (es ++ entry ∷ []) s.local.epoch) s.local.epoch s.local
    more_rows = (
      refl,
      all_mono (λ (p : TxId × Held). is_active_stage (p.1).stage ≡ true → Tells es s.local.epoch p.0) (λ (p : TxId × Held). is_active_stage (p.1).stage ≡ true → Tells (es ++ entry ∷ []) s.local.epoch p.0)
          (λ p k h. any_more (answered_in s.local.epoch p.0) es entry (k h)) s.local.parts a,
    )

    ends : Fits (Tells (es ++ entry ∷ []) s.local.epoch) s.local.epoch t.local → Rows (Tells (es ++ entry ∷ []) t.local.epoch) t.local.parts
    ends f = subst (λ n. Rows (Tells (es ++ entry ∷ []) n) t.local.parts) (sym f.0) f.1

    at : (x : Event) (y : Outcome) → BecomesBy s x y t → Gives (Tells (es ++ entry ∷ []) s.local.epoch) s.local.epoch x y → Rows (Tells (es ++ entry ∷ []) t.local.epoch) t.local.parts
    at FlushIn y c k = ends (subst (λ x. Fits (Tells (es ++ entry ∷ []) s.local.epoch) s.local.epoch x.local) (sym c.2) (fits_flush _ s.local.epoch s y c.1 more_rows))
    at Restart y (u, (kept, epoch, after, r, p, q)) k =
        subst (λ x. Rows (Tells (es ++ entry ∷ []) x.local.epoch) x.local.parts) (sym q) (rows_restored (Tells (es ++ entry ∷ []) epoch) (in_doubt s.shard after))
    at (OpEvent u b nth seen op) y c k = ends (fits_event _ s.local.epoch s t (OpEvent u b nth seen op) y c.1 k more_rows)
    at e y c k = ends (fits_event _ s.local.epoch s t e y c k more_rows)

answered_run : (so_far : List Entry) (s : Shard) (es : List Entry) (t : Shard) → Runs s es t → Rows (Tells so_far s.local.epoch) s.local.parts → Rows (Tells (so_far ++ es) t.local.epoch) t.local.parts
answered_run so_far s [] t r a =
    subst (λ l. Rows (Tells l t.local.epoch) t.local.parts) (sym (append-nil so_far)) (subst (λ x. Rows (Tells so_far x.local.epoch) x.local.parts) r a)
answered_run so_far s (e ∷ es) t (u, m, r) a =
    subst (λ l. Rows (Tells l t.local.epoch) t.local.parts) (append_assoc so_far (e ∷ []) es)
    (answered_run (so_far ++ e ∷ []) u es t r
    (subst (λ x. Rows (Tells (so_far ++ e ∷ []) x.local.epoch) x.local.parts) (sym m.entered)
    (becomes so_far e s m.state e.event e.outcome m.becomes (gives so_far e.stamp e.walker s.local.epoch e.event e.outcome) a)))

pub active_were_answered : ActiveWereAnswered
active_were_answered n run found es t tx r h = at (tx_get tx t.local.parts) refl h
  where
    rows : Rows (Tells es t.local.epoch) t.local.parts
    rows = answered_run [] (opened n run found) es t r (rows_restored (Tells [] 0) (in_doubt n (log_after_restart n found run 0)))

    same_stage : {x y : Stage} → Some x ≡ Some y → x ≡ y
    same_stage k = cc

    at : (o : Option Held) → tx_get tx t.local.parts ≡ o → elim o [ Some h ↦ Some h.stage | None ↦ None ] ≡ Some Active → list_any (answered_in t.local.epoch tx) es ≡ true
    at None e k = absurd (none_stage k)
      where
        none_stage : ◌≡◌ {A = Option Stage} None (Some Active) → ⊥
        none_stage q = cc
    at (Some x) e k = rows_get (λ (p : TxId × Held). is_active_stage (p.1).stage ≡ true → Tells es t.local.epoch p.0) tx x t.local.parts rows e (ap is_active_stage (same_stage k))
