-- Along a history: whom a transaction depends on asked before it.
use Rattle.std.proofs.Common.{◌≡◌, ◌⊎◌, inl, inr, refl, sym, ap, subst, ◌∙◌, ℕ, ◌<◌, true, List, [], ◌∷◌, ◌++◌, length, Option, Some, None, arith}
use Rattle.std.specs.List.{AllByRecursion}
use Rattle.clv_base.specs.declared.names.TxId.{TxId}
use Rattle.clv_base.specs.declared.names.Birth.{Birth}
use Rattle.clv_base.specs.declared.ops.Op.{Op}
use Rattle.clv_base.specs.declared.ops.Answer.{Answer}
use Rattle.clv_base.specs.declared.logs.LogRecord.{LogRecord}
use Rattle.clv_base.specs.declared.logs.LogRecord.TheVariants.{Update, Clr, Prepare, Commit, Abort, End, Restart as RestartRecord, Add, Unadd, Forgotten, Check}
use Rattle.clv_base.specs.declared.state.Stage.{Stage}
use Rattle.clv_base.specs.declared.state.Stage.TheVariants.{Active, Closed}
use Rattle.clv_base.specs.declared.state.Held.{Held}
use Rattle.clv_base.specs.declared.events.Event.{Event}
use Rattle.clv_base.specs.declared.events.Event.TheVariants.{Op as OpEvent, Request as RequestEvent}
use Rattle.clv_base.specs.declared.events.Outcome.{Outcome}
use Rattle.clv_base.specs.declared.events.Outcome.TheVariants.{Answered}
use Rattle.clv_base.specs.declared.events.Entry.{Entry}
use Rattle.clv_base.specs.Orders.{tx_get}
use Rattle.clv_base.specs.LogRules.{log_of}
use Rattle.clv_base.specs.FileRules.{may_open}
use Rattle.clv_base.specs.State.{Shard, Local}
use Rattle.clv_base.specs.OneShard.{OpAnswers}
use Rattle.clv_base.specs.Undo.{stage_of}
use Rattle.clv_base.specs.Shards.{shard_count}
use Rattle.clv_base.specs.Restarts.{greatest_run, run_after}
use Rattle.clv_base.specs.Journals.{History, start_of, event_state}
use Rattle.clv_base.specs.History.{Legal}
use Rattle.law_base.proofs.Changed.{some_same}
use Rattle.law_base.proofs.Rows.{rows_get}
use Rattle.law_base.proofs.Tables.{stage_by}
use Rattle.protocol_laws.specs.Order.{RunFits}
use Rattle.protocol_laws.proofs.LogsInOrder.{runs_in_order}
use Rattle.history_cases.proofs.Stepping.{Step, op_answers, Happens, finishes, stops}
use Rattle.history_cases.proofs.Entering.{Makes, by_event, by_flush, by_failure, by_restart, makes}
use Rattle.history_cases.proofs.Merging.{Placed, Before, Among, among_append, among_left}
use Rattle.history_cases.proofs.OldRuns.{below_next_run}
use Rattle.history_cases.proofs.Telling.{IsRequest}
use Rattle.history_cases.proofs.Worlds.{state_at}
use Rattle.history_laws.specs.Openings.{LegalFrom}
use Rattle.history_laws.proofs.Entries.WhatOperationsDo.{OpIs, performs, reply_is}
use Rattle.history_laws.proofs.Entries.WalkedEntryByEntry.{Behind, Walked, Steps, walked}
use Rattle.history_laws.proofs.Logs.FoundLogsInOrder.{found_in_order, log_found}
use Rattle.fate_laws.proofs.History.EntriesInTurn.{Requested, turn_of, same_epoch, op_no_request}
use Rattle.fate_laws.proofs.Origins.DueKeepsOrigins.{SomeRequest, StageFrom, PartFrom, part_of}
use Rattle.fate_laws.proofs.Origins.EventsKeepOrigins.{active_done}
use Rattle.fate_laws.proofs.Origins.FrontsKeepOrigins.{Did, IsOld, Traced, Says, traced_steps, traced_opens}
use Rattle.law_base.proofs.Lists.{all_mono}
use Rattle.fate_laws.specs.Waiting.{OpenedInDoubt}
use Rattle.fate_laws.proofs.Origins.DoubtedWereFoundSo.{has_stage}
use Rattle.fate_laws.proofs.Origins.OldPartsWereDoubted.{MayHave, MayPrepare, Opened, opened_opens, opened_entry}
use Rattle.fate_laws.proofs.Waits.PredecessorsAskedFirst.{ListsAre, Tied, OpOwes, tied_happens, tied_flushed, tied_down, tied_revived, tied_opened, tied_mono, tied_as}
use Rattle.law_base.proofs.Names.{MayStand}

-- ---- who asked before whom

-- the first's request stands, and before every one of the second
abbrev pub AskedFirst : History → TxId → TxId → Type 0
AskedFirst pre p t = (r : Placed) × (ts : List (ℕ × ℕ)) × Among r pre × IsRequest p ts r × ((q : Placed) (us : List (ℕ × ℕ)) → Among q pre → IsRequest t us q → Before r q)

-- so whom a transaction of this run depends on, or it was in doubt at opening
abbrev pub Earlier : List ℕ → List (List LogRecord) → History → TxId → TxId → Type 0
Earlier splits before pre t p = AskedFirst pre p t ⊎ (IsOld (run_after before) t ⊎ OpenedInDoubt splits before p)

earlier_more : (splits : List ℕ) (before : List (List LogRecord)) (h pre : History) (e : Placed) → Behind h pre e → (t p : TxId) → Earlier splits before pre t p → Earlier splits before (pre ++ e ∷ []) t p
earlier_more splits before h pre e b t p (inr o) = inr o
earlier_more splits before h pre e b t p (inl (r, ts, i, q, k)) = inl (r, ts, among_left r pre (e ∷ []) i, q, (λ x us j w. at x us (among_append x pre (e ∷ []) j) w))
  where
    at : (x : Placed) (us : List (ℕ × ℕ)) → Among x pre ⊎ Among x (e ∷ []) → IsRequest t us x → Before r x
    at x us (inl j) w = k x us j w
    at x us (inr (inl j)) w = subst (Before r) j (b.turn r i).1
    at x us (inr (inr j)) w = elim j [ ]

-- ---- an operation that is answered

-- its transaction's part is new, or active
FindsIf : Shard → Event → Outcome → Type 0
FindsIf s (OpEvent tx birth nth seen op) (Answered a n) = (stage_of s.local tx ≡ None) ⊎ (stage_of s.local tx ≡ Some Active)
FindsIf s (OpEvent tx birth nth seen op) _ = Unit {0}
FindsIf s _ o = Unit {0}

finds_op : (s : Shard) (tx : TxId) (birth : Birth) (seen : Option ℕ) (op : Op) (a : Answer) (l : Local) → OpIs s.local tx birth seen op (OpAnswers a l) → (stage_of s.local tx ≡ None) ⊎ (stage_of s.local tx ≡ Some Active)
finds_op s tx birth seen op _ _ (performs f e) = e

finds_step : (s t : Shard) {e : Event} {o : Outcome} → Step s e o t → FindsIf s e o
unfolding FindsIf
finds_step s _ (op_answers tx birth nth seen op a l g) = finds_op s tx birth seen op a l (reply_is s.shard s.local tx birth seen op (OpAnswers a l) g)
finds_step s t _ = tt

finds_happens : (s t : Shard) {e : Event} {o : Outcome} → Happens s e o t → FindsIf s e o
unfolding FindsIf
finds_happens s _ (finishes {t = t} u g) = finds_step s t g
finds_happens s _ (stops u) = tt

stands_so : (splits : List ℕ) (before after : List (List LogRecord)) (h pre : History) (n : ℕ) (x : Entry) (s : Shard) (tx : TxId) (birth : Birth) (nth : ℕ) (seen : Option ℕ) (op : Op) → Legal splits before h after → Behind h pre (n, x) → Traced (run_after before) pre n s → x.event ≡ OpEvent tx birth nth seen op
    → (stage_of s.local tx ≡ None) ⊎ (stage_of s.local tx ≡ Some Active) → MayStand s.local.parts tx birth
stands_so splits before after h pre n x s tx birth nth seen op l b k e o = at (tx_get tx s.local.parts) refl o
  where
    no_stage : (g : Held) → ◌≡◌ {A = Option Stage} (Some g.stage) None → ⊥
    no_stage g z = absurd cc

    at : (p : Option Held) → tx_get tx s.local.parts ≡ p → (stage_by p ≡ None) ⊎ (stage_by p ≡ Some Active) → MayStand s.local.parts tx birth
    at None q w = inl q
    at (Some g) q (inl w) = absurd (no_stage g w)
    at (Some g) q (inr w) =
        let a : g.stage ≡ Active = some_same g.stage Active w in
        let f = rows_get (λ y. PartFrom (Did pre n s.local.epoch) (SomeRequest (Requested pre) (IsOld (run_after before))) y.0 y.1) tx g s.local.parts (k.origins).parts q in
        let d = active_done (Did pre n s.local.epoch) g.is_restored tx g.birth f.0 (subst (StageFrom (SomeRequest (Requested pre) (IsOld (run_after before))) g.is_restored tx) a f.1) in
        inr (g, q, (same_epoch splits before after h d.0 (n, x) tx g.birth birth s.local.epoch seen l (turn_of h pre (n, x) d.0 b d.1) d.2 d.3 (record { nth = nth; op = op; is = e })).1, a)

closed_first : (splits : List ℕ) (before after : List (List LogRecord)) (h pre : History) (n : ℕ) (x : Entry) (s : Shard) (tx p : TxId) (birth : Birth) (nth : ℕ) (seen : Option ℕ) (op : Op) → Legal splits before h after → Behind h pre (n, x) → n < shard_count splits → Traced (run_after before) pre n s → Opened before n s → x.event ≡ OpEvent tx birth nth seen op
    → stage_of s.local p ≡ Some Closed → Earlier splits before (pre ++ (n, x) ∷ []) tx p
closed_first splits before after h pre n x s tx p birth nth seen op l b v k w e c = by_request (part_of n s.local.epoch _ _ (Requested pre) (IsOld (run_after before)) _ s p Closed k.origins c).3
  where
    by_request : SomeRequest (Requested pre) (IsOld (run_after before)) p → Earlier splits before (pre ++ (n, x) ∷ []) tx p
    by_request (inr o) = inr (inr (n, v, has_stage (MayHave before n) (MayPrepare before n) s p Closed w.has c o))
    by_request (inl (m, (r, ts, i, q, z))) = inl (r, ts, among_left r pre ((n, x) ∷ []) i, q, (λ y us j w. at y us (among_append y pre ((n, x) ∷ []) j) w))
      where
        at : (y : Placed) (us : List (ℕ × ℕ)) → Among y pre ⊎ Among y ((n, x) ∷ []) → IsRequest tx us y → Before r y
        at y us (inl j) w = absurd (op_no_request splits before after h pre (n, x) tx birth nth seen op y.0 l b e (y, us, j, w, refl))
        at y us (inr (inl j)) w = absurd (other (sym e ∙ ap (λ v. (v.1).event) j ∙ w.0))
          where
            other : OpEvent tx birth nth seen op ≡ RequestEvent tx us → ⊥
            other v = absurd cc
        at y us (inr (inr j)) w = elim j [ ]

op_owes : (splits : List ℕ) (before after : List (List LogRecord)) (h pre : History) (n : ℕ) (x : Entry) (s : Shard) (e : Event) (o : Outcome) → Legal splits before h after → Behind h pre (n, x) → n < shard_count splits → Traced (run_after before) pre n s → Opened before n s → x.event ≡ e → FindsIf s e o
    → OpOwes (Earlier splits before (pre ++ (n, x) ∷ [])) s e o
unfolding FindsIf
op_owes splits before after h pre n x s (OpEvent tx birth nth seen op) (Answered a m) l b v k w q f = (stands_so splits before after h pre n x s tx birth nth seen op l b k q f, (λ p c. closed_first splits before after h pre n x s tx p birth nth seen op l b v k w q c))
op_owes splits before after h pre n x s (OpEvent tx birth nth seen op) _ l b v k w q f = tt
op_owes splits before after h pre n x s _ o l b v k w q f = tt

-- ---- each entry

tied_made : (splits : List ℕ) (before after : List (List LogRecord)) (h pre : History) (n : ℕ) (x : Entry) (log : List LogRecord) (s t : Shard) {e : Event} {o : Outcome} → Legal splits before h after → Behind h pre (n, x) → n < shard_count splits → Traced (run_after before) pre n s → Opened before n s → x.event ≡ e → Makes log s e o t
    → Tied (Earlier splits before (pre ++ (n, x) ∷ [])) s → Tied (Earlier splits before (pre ++ (n, x) ∷ [])) t
tied_made splits before after h pre n x log s t {e} {o} l b v k w q (by_event g m) d = tied_happens _ s t m (op_owes splits before after h pre n x s e o l b v k w q (finds_happens s t m)) d
tied_made splits before after h pre n x log s _ l b v k w q (by_flush m u f) d = tied_flushed _ s m d
tied_made splits before after h pre n x log s _ l b v k w q (by_failure m u f) d = tied_down _ s d
tied_made splits before after h pre n x log s _ l b v k w q (by_restart epoch kept u r) d = tied_revived _ s kept epoch _ r d

-- ---- the logs at opening: each PREPARE is of an earlier run

abbrev IsOldSuccessor : ℕ → TxId → TxId → Type 0
IsOldSuccessor run t p = IsOld run t

all_alike : (X : Type 0) (ps : List TxId) → X → AllByRecursion (λ p. X) ps
all_alike X [] x = tt
all_alike X (p ∷ ps) x = (x, all_alike X ps x)

old_lists : (n run : ℕ) (r : LogRecord) → n < run → RunFits n r → ListsAre (IsOldSuccessor run) r
old_lists n run (Prepare tx home ps) l f = all_alike (IsOld run tx) ps (omega (arith, l, f))
old_lists n run (Update tx key b a) l f = tt
old_lists n run (Clr tx u key a) l f = tt
old_lists n run (Commit tx ps) l f = tt
old_lists n run (Abort tx) l f = tt
old_lists n run (End tx) l f = tt
old_lists n run (RestartRecord own epoch) l f = tt
old_lists n run (Add tx key by) l f = tt
old_lists n run (Unadd tx u key by) l f = tt
old_lists n run Forgotten l f = tt
old_lists n run (Check run' epoch' upto base) l f = tt

tied_opens : (splits : List ℕ) (before : List (List LogRecord)) (n : ℕ) → may_open splits before ≡ true → n < length before → Tied (Earlier splits before []) (start_of before n)
tied_opens splits before n m l =
    let run = run_after before in
    let log = log_of before n in
    let f = runs_in_order n log (found_in_order splits before n m l) in
    tied_mono (IsOldSuccessor run) (Earlier splits before []) (start_of before n) (λ t p o. inr (inl o))
    (tied_opened (IsOldSuccessor run) n run log (all_mono (RunFits (greatest_run log)) (ListsAre (IsOldSuccessor run)) (λ r. old_lists (greatest_run log) run r (below_next_run before n)) log f))

-- ---- the whole history

-- what is known of a shard after a front of the history
pub record Depends (splits : List ℕ) (before : List (List LogRecord)) (pre : History) (n : ℕ) (s : Shard) : Type 0 where
  pub traced : Traced (run_after before) pre n s
  pub opened : Opened before n s
  pub tied : Tied (Earlier splits before pre) s

of_traced : (splits : List ℕ) (before after : List (List LogRecord)) (h pre : History) → Walked (Depends splits before) (Says (run_after before) h) splits before after pre → Walked (Traced (run_after before)) (Says (run_after before) h) splits before after pre
of_traced splits before after h pre w = record { states = λ n i. (w.states n i).traced; said = w.said }

module _ {splits : List ℕ} {before after : List (List LogRecord)} {h : History} (l : LegalFrom splits before h after) where
  depends_steps : Steps (Depends splits before) (Says (run_after before) h) splits before after h
  depends_steps pre e w x =
      let log = log_of after e.0 in
      let s = state_at before after e.0 pre in
      let t = event_state log s (e.1).event (e.1).outcome in
      let k = w.states e.0 x.below in
      let g = traced_steps splits before after h l.legal pre e (of_traced splits before after h pre w) x in
      let o = opened_entry l e.0 e.1 log s x.below (x.behind).here (x.split).shard (k.traced).counted (x.split).enters k.opened in
      let d = tied_made splits before after h pre e.0 e.1 log s t l.legal x.behind x.below k.traced k.opened refl (makes log s (e.1).event (e.1).outcome ((x.split).enters).event)
      (tied_mono (Earlier splits before pre) (Earlier splits before (pre ++ e ∷ [])) s (earlier_more splits before h pre e x.behind) k.tied) in (
        record {
          traced = g.0;
          opened = subst (Opened before e.0) (sym (x.split).next) o;
          tied = tied_as (Earlier splits before (pre ++ e ∷ [])) t (state_at before after e.0 (pre ++ e ∷ [])) (ap (λ z. z.local) (x.split).next) d;
        },
        g.1,
        (λ n i c q. record {
          traced = g.2 n i c q.traced;
          opened = q.opened;
          tied = tied_mono (Earlier splits before pre) (Earlier splits before (pre ++ e ∷ [])) (state_at before after n pre) (earlier_more splits before h pre e x.behind) q.tied;
        }),
      )

  pub depends : Walked (Depends splits before) (Says (run_after before) h) splits before after h
  depends =
      walked (Depends splits before) (Says (run_after before) h) splits before after h l.legal (λ n i.
      record { traced = traced_opens l n i; opened = opened_opens splits before n l.opens (log_found l n i); tied = tied_opens splits before n l.opens (log_found l n i) })
      depends_steps
