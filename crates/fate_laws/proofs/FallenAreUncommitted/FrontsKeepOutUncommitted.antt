-- Along a history: who was out on a shard is never committed there.
use Rattle.std.proofs.Common.{◌≡◌, ◌⊎◌, inl, inr, ⊎_elim, refl, sym, ap, subst, ◌∙◌, ℕ, ◌<◌, true, false, Bool, ◌==◌, List, [], ◌∷◌, ◌++◌, length, Option, Some, None, append-nil, append_assoc, eqb-true, take-append-drop, arith}
use Rattle.std.specs.Prelude.{⊤, take, drop}
use Rattle.std.specs.List.{AllByRecursion}
use Rattle.std.proofs.lemmas.Bool.{both_ways, false_from_ne_true, eq-eqb, or_left}
use Rattle.std.proofs.lemmas.List.Folds.{list_any-append}
use Rattle.clv_base.specs.declared.names.TxId.{TxId}
use Rattle.clv_base.specs.declared.names.Birth.{Birth}
use Rattle.clv_base.specs.declared.ops.Op.{Op}
use Rattle.clv_base.specs.declared.ops.Answer.{Answer}
use Rattle.clv_base.specs.declared.causes.Vote.TheVariants.{Read}
use Rattle.clv_base.specs.declared.logs.LogRecord.{LogRecord}
use Rattle.clv_base.specs.declared.logs.LogRecord.TheVariants.{Update, Clr, Prepare, Commit, Abort, End, Restart as RestartRecord, Add, Unadd, Forgotten, Check}
use Rattle.clv_base.specs.declared.messages.Message.TheVariants.{Decide}
use Rattle.clv_base.specs.declared.state.Held.{Held}
use Rattle.clv_base.specs.declared.state.Stage.TheVariants.{Active, Closed}
use Rattle.clv_base.specs.declared.events.Event.{Event}
use Rattle.clv_base.specs.declared.events.Event.TheVariants.{Op as OpEvent, Request as RequestEvent, Drop, Deliver}
use Rattle.clv_base.specs.declared.events.Outcome.{Outcome}
use Rattle.clv_base.specs.declared.events.Outcome.TheVariants.{Answered, Down}
use Rattle.clv_base.specs.Shards.{shard_count}
use Rattle.clv_base.specs.FileRules.{may_open}
use Rattle.clv_base.specs.Orders.{tx_in, tx_get}
use Rattle.clv_base.specs.Logs.{committed_in, prepared_in, has_standing, prepare_of, in_doubt}
use Rattle.clv_base.specs.LogRules.{lists, is_listed, upto_of, part_of, log_of}
use Rattle.clv_base.specs.State.{Shard, is_present}
use Rattle.clv_base.specs.Undo.{stage_of}
use Rattle.clv_base.specs.OneShard.{OpReply, seen_fits, op_reply}
use Rattle.clv_base.specs.Events.{Reply, QuietBeforeWorn, Does, op_event}
use Rattle.clv_base.specs.Restarts.{run_after, log_after_restart}
use Rattle.clv_base.specs.Journals.{History, event_state, after_entry, up_to_restart, EventMay}
use Rattle.clv_base.specs.History.{Legal, WasSent}
use Rattle.law_base.proofs.Changed.{none_some}
use Rattle.law_base.proofs.Commits.{durable_committed}
use Rattle.law_base.proofs.Rows.{rows_get}
use Rattle.law_base.proofs.Tables.{stage_by, pair_in}
use Rattle.law_base.proofs.Sets.{list_all_at}
use Rattle.law_base.proofs.Stages.{stage_of_some}
use Rattle.clv_base.specs.Facts.{predecessors_of}
use Rattle.protocol_laws.specs.SessionLaws.{tx_of}
use Rattle.history_cases.proofs.OldRuns.{below_next_run}
use Rattle.history_cases.proofs.Uncommitting.{opening_adds}
use Rattle.history_cases.proofs.Entering.{Makes, by_event, by_flush, by_failure, by_restart, makes}
use Rattle.history_cases.proofs.Merging.{Placed, Among, among_append, among_left}
use Rattle.history_cases.proofs.Worlds.{state_at}
use Rattle.history_laws.specs.Openings.{LegalFrom}
use Rattle.history_laws.proofs.Logs.FoundLogsInOrder.{log_found}
use Rattle.history_laws.proofs.NeverTakenBack.{walker_of}
use Rattle.history_cases.proofs.TellingEvents.{front_committed}
use Rattle.shard_laws.proofs.Restarts.RestoredLocksAndParts.{restored_closed}
use Rattle.shard_laws.proofs.Order.ChangesKeepOrder.{prepare_some}
use Rattle.history_laws.proofs.Entries.WhatOperationsDo.{OpIs, waits, no_room, dies, rolls, performs, reply_is}
use Rattle.history_laws.proofs.Entries.WalkedEntryByEntry.{Behind, next_entry}
use Rattle.fate_laws.proofs.History.EntriesInTurn.{Requested, same_epoch, turn_of}
use Rattle.fate_laws.proofs.Origins.DueKeepsOrigins.{PartFrom, StageFrom, SomeRequest}
use Rattle.fate_laws.proofs.Origins.EventsKeepOrigins.{active_done}
use Rattle.fate_laws.proofs.Origins.FrontsKeepOrigins.{Did, DidNow, DidAny, IsOld, Traced, traced_front}
use Rattle.fate_laws.proofs.Waits.PredecessorsAskedFirst.{Tied, LockOf, ListsAre, OpOwes, tied_as, tied_happens, tied_flushed, tied_down, tied_revived, tied_opened}
use Rattle.fate_laws.proofs.History.EntryByEntry.{Next, next_at, stays_as_it_was, AskedIn, asked_later, one_home, DurableIn}
use Rattle.fate_laws.proofs.Homes.FrontsKeepHomes.{Fated, DeadIn, delivered, dead_later, committed_asked}
use Rattle.fate_laws.proofs.Parts.CommittedAreVotedFor.{VoterIs}
use Rattle.fate_laws.proofs.Logs.PreparedWritesStand.{doubt_stand}
use Rattle.fate_laws.proofs.Parts.FrontsKeepParts.{Bindings, WasTaken, Sought, bindings_front, asked_not_own}
use Rattle.fate_laws.proofs.Parts.CommitsHaveTheirParts.{due_at}
use Rattle.fate_laws.proofs.CommitsGoDownwards.{owed as owed_down}
use Rattle.fate_laws.proofs.AbortedAreCommittedNowhere.DueKeepsDoomedUncommitted.{Kept}
use Rattle.fate_laws.proofs.AbortedAreCommittedNowhere.{Spared, spared_front, same_home, dropped_dead}
use Rattle.fate_laws.specs.Earlier.{IsEarlier, WasCommitted}
use Rattle.fate_laws.proofs.EarlierRuns.FrontsKeepEarlierRuns.{Elders, elders_front, delivered as elders_tell}
use Rattle.fate_laws.proofs.FallenAreUncommitted.StepsKeepOutUncommitted.{barred_same}
use Rattle.fate_laws.proofs.FallenAreUncommitted.PreparesListEarlierOnes.{Ahead, order_ahead, whole_ahead}
use Rattle.fate_laws.proofs.FallenAreUncommitted.OutIsLost.{Absent, Out, Lost, Barred, lost_inactive}
use Rattle.fate_laws.proofs.FallenAreUncommitted.EventsKeepOutUncommitted.{Owes}
use Rattle.fate_laws.proofs.FallenAreUncommitted.EntriesKeepOutUncommitted.{Frame, barred_state, barred_made}
use Rattle.protocol_laws.proofs.LogsInOrder.OneRecordMore.{prepared_there}
use Rattle.law_base.proofs.Names.{MayStand}
use Rattle.law_base.proofs.Bools.{and_first}
use Rattle.law_base.proofs.LetGo.{let_go_unprepared, let_go_uncommitted}
use Rattle.law_base.proofs.Parts.{in_order_comes}
use Rattle.law_base.specs.Coming.{is_let_go}
use Rattle.shard_laws.proofs.Order.WhoIsListed.{named_found}
use Rattle.fate_laws.proofs.Origins.OldPartsWereDoubted.{found_follows as log_follows}

-- ---- what is told of transactions after a front of the history

abbrev pub DeadAway : List (List LogRecord) → List (List LogRecord) → History → TxId → Type 0
DeadAway before after pre t = (t.run ≡ run_after before) × (m : ℕ) × DeadIn before after pre m t

-- it is of an earlier run, and no log had its COMMIT at opening
abbrev pub Forgone : List (List LogRecord) → TxId → Type 0
Forgone before t = IsEarlier before t × (WasCommitted before t → ⊥)

-- an abort of it may be told: it is committed nowhere
abbrev pub Denied : List (List LogRecord) → List (List LogRecord) → History → TxId → Type 0
Denied before after pre t = DeadAway before after pre t ⊎ Forgone before t

-- it asked or is of an earlier run, or an operation of it was answered here
abbrev pub Met : List (List LogRecord) → History → History → ℕ → TxId → Type 0
Met before asked did n t = Sought before asked t ⊎ DidAny did n t

abbrev pub HomeHere : History → ℕ → TxId → Type 0
HomeHere h n t = (ts : List (ℕ × ℕ)) × WasTaken h t n ts

abbrev pub WasOut : List (List LogRecord) → List (List LogRecord) → History → ℕ → TxId → Type 0
WasOut before after pre n t = (front : History) × (rest : History) × (front ++ rest ≡ pre) × Out (Met before front front n) (state_at before after n front) t

-- ---- more is told

lost_more : (K K' V V' O O' : TxId → Type 0) (s : Shard) (t : TxId) (p : ℕ × List TxId) → ((u : TxId) → K u → K' u) → ((u : TxId) → V u → V' u) → ((u : TxId) → O u → O' u) → Lost K V O s t p → Lost K' V' O' s t p
lost_more K K' V V' O O' s t p k v o (inl a) = inl a
lost_more K K' V V' O O' s t p k v o (inr (inl a)) = inr (inl a)
lost_more K K' V V' O O' s t p k v o (inr (inr (inl a))) = inr (inr (inl (k t a)))
lost_more K K' V V' O O' s t p k v o (inr (inr (inr (q, m, inl a)))) = inr (inr (inr (q, m, inl (v q a))))
lost_more K K' V V' O O' s t p k v o (inr (inr (inr (q, m, inr a)))) = inr (inr (inr (q, m, inr (a.0, a.1, o q a.2))))

barred_more : (K K' V V' O O' Q : TxId → Type 0) (s : Shard) → ((u : TxId) → K u → K' u) → ((u : TxId) → V u → V' u) → ((u : TxId) → V' u → V u ⊎ Out O' s u) → ((u : TxId) → O u → O' u) → Barred K V O Q s → Barred K' V' O' Q s
barred_more K K' V V' O O' Q s k v w o b = record {
  part = b.part;
  lined = b.lined;
  gone = λ t g. let y = b.gone t g in (y.0, y.1, o t y.2);
  down = b.down;
  counted = b.counted;
  sought = λ t h. o t (b.sought t h);
  homes = b.homes;
  rows = b.rows;
  readers = b.readers;
  open_ = λ t x. ⊎_elim (λ y. b.open_ t y) (λ y. y.1) (w t x);
  here = λ t x h. ⊎_elim (λ y. b.here t y h) (λ y. absurd (both_ways _ y.0 h)) (w t x);
  why = λ t p x e. lost_more K K' V V' O O' s t p k v o (⊎_elim (λ y. ⊎_elim (λ z. b.why t p (inl z) e) (λ z. out t p z e) (w t y)) (λ y. out t p y e) x);
}
  where
    out : (t : TxId) (p : ℕ × List TxId) → Out O' s t → prepare_of s.local.log t ≡ Some p → Lost K V O s t p
    out t p x e = b.why t p (inr (x.0, x.1, b.sought t (prepared_there s.local.log t p e))) e

-- ---- fronts

pub empty_front : (front rest : History) → front ++ rest ≡ [] → front ≡ []
empty_front [] rest e = refl
empty_front (x ∷ xs) rest e = absurd cc

pub same_first : (x y : Placed) (xs ys : History) → x ∷ xs ≡ y ∷ ys → x ≡ y
same_first x y xs ys e = cc

pub same_rest : (x y : Placed) (xs ys : History) → x ∷ xs ≡ y ∷ ys → xs ≡ ys
same_rest x y xs ys e = cc

none_last : (xs : History) (y : Placed) → xs ++ y ∷ [] ≡ [] → ⊥
none_last [] y e = absurd cc
none_last (x ∷ xs) y e = absurd cc

pub same_last : (xs ys : History) (x y : Placed) → xs ++ x ∷ [] ≡ ys ++ y ∷ [] → (xs ≡ ys) × (x ≡ y)
same_last [] [] x y e = (refl, same_first x y [] [] e)
same_last [] (w ∷ ws) x y e = absurd (none_last ws y (sym (same_rest x w [] (ws ++ y ∷ []) e)))
same_last (w ∷ ws) [] x y e = absurd (none_last ws x (same_rest w y (ws ++ x ∷ []) [] e))
same_last (v ∷ vs) (w ∷ ws) x y e =
    let k = same_last vs ws x y (same_rest v w (vs ++ x ∷ []) (ws ++ y ∷ []) e) in
    (ap (λ z. z ∷ vs) (same_first v w (vs ++ x ∷ []) (ws ++ y ∷ []) e) ∙ ap (λ z. w ∷ z) k.0, k.1)

pub last_front : (front rest pre : History) (e : Placed) → front ++ rest ≡ pre ++ e ∷ [] → (front ≡ pre ++ e ∷ []) ⊎ ((r : History) × (front ++ r ≡ pre))
last_front [] rest pre e q = inr (pre, refl)
last_front (x ∷ xs) rest [] e q = inl (ap (λ z. z ∷ xs) (same_first x e (xs ++ rest) [] q) ∙ ap (λ z. e ∷ z) (empty_front xs rest (same_rest x e (xs ++ rest) [] q)))
last_front (x ∷ xs) rest (y ∷ ys) e q =
    let f = same_first x y (xs ++ rest) (ys ++ e ∷ []) q in
    ⊎_elim (λ k. inl (ap (λ z. z ∷ xs) f ∙ ap (λ z. y ∷ z) k)) (λ k. inr (k.0, ap (λ z. z ∷ (xs ++ k.0)) f ∙ ap (λ z. y ∷ z) k.1)) (last_front xs rest ys e (same_rest x y (xs ++ rest) (ys ++ e ∷ []) q))

asked_front : (pre post : History) (t : TxId) (n : ℕ) → AskedIn pre t n → AskedIn (pre ++ post) t n
asked_front pre post t n (r, ts, i, q) = (r, ts, among_left (n, r) pre post i, q)

pub met_front : (before : List (List LogRecord)) (a b c d : History) (n : ℕ) (t : TxId) → ((k : ℕ) → AskedIn a t k → AskedIn c t k) → ((y : Placed) → Among y b → Among y d) → Met before a b n t → Met before c d n t
met_front before a b c d n t f g (inl s) = inl (λ r. let k = s r in (k.0, f k.0 k.1))
met_front before a b c d n t f g (inr (ep, (x, (y, i, p, z)))) = inr (ep, (x, (y, g y i, p, z)))

-- ---- the next entry

pub record At (splits : List ℕ) (before after : List (List LogRecord)) (h pre : History) (e : Placed) : Type 0 where
  pub next : Next splits before after h pre e
  pub behind : Behind h pre e
  pub inside : (y : Placed) → Among y (pre ++ e ∷ []) → Among y h
  pub was : Spared splits before after h pre
  pub is : Spared splits before after h (pre ++ e ∷ [])
  pub traced : Traced (run_after before) pre e.0 (state_at before after e.0 pre)
  pub elders : Elders splits before after pre

pub record Stands (before after : List (List LogRecord)) (h pre : History) (n : ℕ) (s : Shard) : Type 0 where
  pub tied : Tied (λ t p. ⊤) s
  pub barred : Barred (Denied before after pre) (WasOut before after pre n) (Met before pre pre n) (HomeHere h n) s

-- who is prepared asked, at the home that its PREPARE names
pub prepared_asked : (splits : List ℕ) (before after : List (List LogRecord)) (h f : History) (n : ℕ) → Legal splits before h after → ((y : Placed) → Among y f → Among y h) → Fated splits before after f → n < shard_count splits
    → (u : TxId) (p : ℕ × List TxId) → prepare_of (state_at before after n f).local.log u ≡ Some p → Sought before f u × (HomeHere h n u → p.0 ≡ n)
prepared_asked splits before after h f n l i k m u p e = ((λ r. (p.0, (k.homed n m).prepares u p e r)), (λ q. home q.0 q.1))
  where
    home : (ts : List (ℕ × ℕ)) → WasTaken h u n ts → p.0 ≡ n
    home ts (r, j, q) =
        let run = (walker_of splits before after h (n, r) u l j (ap tx_of q.0)).0 in
        let a = (k.homed n m).prepares u p e run in
        one_home splits before after h u p.0 n a.0 r a.1 ts l (i (p.0, a.0) a.2) a.3 j q

op_run : (splits : List ℕ) (before after : List (List LogRecord)) (h pre : History) (e : Placed) (tx : TxId) → Next splits before after h pre e → tx_of (e.1).event ≡ Some tx → tx.run ≡ run_after before
op_run splits before after h pre e tx w q = (walker_of splits before after h e tx w.legal w.among q).0

-- ---- an operation that was answered

from_reply : (s t : Shard) (tx : TxId) (birth : Birth) (seen : Option ℕ) (op : Op) (r : OpReply) (a : Answer) (ep : ℕ) → OpIs s.local tx birth seen op r → op_event s r ≡ Does (Answered a ep) t → (seen_fits s.local.epoch seen ≡ true) × ((stage_of s.local tx ≡ None) ⊎ (stage_of s.local tx ≡ Some Active))
from_reply s t tx birth seen op _ a ep waits e = absurd cc
from_reply s t tx birth seen op _ a ep no_room e = absurd cc
from_reply s t tx birth seen op _ a ep dies e = absurd cc
from_reply s t tx birth seen op _ a ep rolls e = absurd cc
from_reply s t tx birth seen op _ a ep (performs f st) e = (f, st)

from_up : (s t : Shard) (tx : TxId) (birth : Birth) (seen : Option ℕ) (op : Op) (a : Answer) (ep : ℕ) (b : Bool) → ◌≡◌ {A = Reply} (elim b [ true ↦ op_event s (op_reply s.shard s.local tx birth seen op) | false ↦ QuietBeforeWorn Down ]) (Does (Answered a ep) t)
    → (seen_fits s.local.epoch seen ≡ true) × ((stage_of s.local tx ≡ None) ⊎ (stage_of s.local tx ≡ Some Active))
from_up s t tx birth seen op a ep true e = from_reply s t tx birth seen op (op_reply s.shard s.local tx birth seen op) a ep (reply_is s.shard s.local tx birth seen op _ refl) e
from_up s t tx birth seen op a ep false e = absurd cc

answered_fits : (splits : List ℕ) (before after : List (List LogRecord)) (h pre : History) (e : Placed) (tx : TxId) (birth : Birth) (nth : ℕ) (seen : Option ℕ) (op : Op) (a : Answer) (ep : ℕ) → Next splits before after h pre e → (e.1).event ≡ OpEvent tx birth nth seen op → (e.1).outcome ≡ Answered a ep
    → (seen_fits (state_at before after e.0 pre).local.epoch seen ≡ true) × ((stage_of (state_at before after e.0 pre).local tx ≡ None) ⊎ (stage_of (state_at before after e.0 pre).local tx ≡ Some Active))
answered_fits splits before after h pre e tx birth nth seen op a ep w q o =
    let s = state_at before after e.0 pre in
    let m = subst (λ z. EventMay (log_of after e.0) s z (Answered a ep)) q (subst (λ z. EventMay (log_of after e.0) s (e.1).event z) o ((w.split).enters).event) in
    from_up s m.1.0 tx birth seen op a ep s.is_up m.1.1

pub none_held : (o : Option Held) → stage_by o ≡ None → o ≡ None
none_held None e = refl
none_held (Some x) e = absurd (none_some x.stage (sym e))

may_stand : (splits : List ℕ) (before after : List (List LogRecord)) (h pre : History) (e : Placed) (tx : TxId) (birth : Birth) (nth : ℕ) (seen : Option ℕ) (op : Op) → At splits before after h pre e → (e.1).event ≡ OpEvent tx birth nth seen op
    → (stage_of (state_at before after e.0 pre).local tx ≡ None) ⊎ (stage_of (state_at before after e.0 pre).local tx ≡ Some Active) → MayStand (state_at before after e.0 pre).local.parts tx birth
may_stand splits before after h pre e tx birth nth seen op x q (inl n) = inl (none_held (tx_get tx (state_at before after e.0 pre).local.parts) n)
may_stand splits before after h pre e tx birth nth seen op x q (inr a) =
    let s = state_at before after e.0 pre in
    let r = stage_of_some s.local.parts tx Active a in
    let o = (x.traced).origins in
    let f = rows_get (λ z. PartFrom (Did pre e.0 s.local.epoch) (SomeRequest (Requested pre) (IsOld (run_after before))) z.0 z.1) tx r.0 s.local.parts o.parts r.1 in
    let d = active_done (Did pre e.0 s.local.epoch) (r.0).is_restored tx (r.0).birth f.0 (subst (StageFrom (SomeRequest (Requested pre) (IsOld (run_after before))) (r.0).is_restored tx) r.2 f.1) in
    let g = same_epoch splits before after h d.0 e tx (r.0).birth birth s.local.epoch seen (x.next).legal (turn_of h pre e d.0 x.behind d.1) d.2 d.3 (record { nth = nth; op = op; is = q }) in
    inr (r.0, r.1, g.1, r.2)

op_owes : (splits : List ℕ) (before after : List (List LogRecord)) (h pre : History) (e : Placed) (ev : Event) (o : Outcome) → At splits before after h pre e → (e.1).event ≡ ev → (e.1).outcome ≡ o → OpOwes (λ t p. ⊤) (state_at before after e.0 pre) ev o
op_owes splits before after h pre e (OpEvent tx birth nth seen op) (Answered a ep) x q r =
    (may_stand splits before after h pre e tx birth nth seen op x q (answered_fits splits before after h pre e tx birth nth seen op a ep x.next q r).1, (λ p c. tt))
op_owes splits before after h pre e (OpEvent tx birth nth seen op) _ x q r = tt
op_owes splits before after h pre e _ o x q r = tt

-- who was met here does no new operation
met_before : (splits : List ℕ) (before after : List (List LogRecord)) (h pre : History) (e : Placed) (tx : TxId) (birth : Birth) (nth : ℕ) (seen : Option ℕ) (op : Op) → At splits before after h pre e → (e.1).event ≡ OpEvent tx birth nth seen op
    → seen_fits (state_at before after e.0 pre).local.epoch seen ≡ true → stage_of (state_at before after e.0 pre).local tx ≡ None → Met before (pre ++ e ∷ []) pre e.0 tx → ⊥
met_before splits before after h pre e tx birth nth seen op x q f n (inl s) =
    let k = s (op_run splits before after h pre e tx x.next (ap tx_of q)) in
    ⊎_elim (λ j. asked_not_own splits before after h pre e tx birth nth seen op k.0 x.next q ((k.1).0, (k.1).1, j, (k.1).3)) (λ j. last k.0 k.1 j) (among_append (k.0, (k.1).0) pre (e ∷ []) (k.1).2)
  where
    last : (m : ℕ) (z : AskedIn (pre ++ e ∷ []) tx m) → Among (m, z.0) (e ∷ []) → ⊥
    last m z (inl r) = differ (sym q ∙ ap (λ y. (y.1).event) r ∙ (z.3).0)
      where
        differ : OpEvent tx birth nth seen op ≡ RequestEvent tx z.1 → ⊥
        differ y = absurd cc
    last m z (inr r) = elim r [ ]
met_before splits before after h pre e tx birth nth seen op x q f n (inr (ep, (b, (y, i, p, a)))) =
    let s = state_at before after e.0 pre in
    let g = same_epoch splits before after h y e tx b birth ep seen (x.next).legal (turn_of h pre e y x.behind i) p a (record { nth = nth; op = op; is = q }) in
    let same : ep ≡ s.local.epoch = eqb-true ep s.local.epoch (subst (λ z. seen_fits s.local.epoch z ≡ true) g.0 f) in
    ((x.traced).origins).known tx (subst (λ z. DidNow pre e.0 z tx) same (b, (y, i, p, a))) (none_held (tx_get tx s.local.parts) n)

pub no_return : (splits : List ℕ) (before after : List (List LogRecord)) (h pre : History) (e : Placed) (tx : TxId) (birth : Birth) (nth : ℕ) (seen : Option ℕ) (op : Op) (a : Answer) (ep : ℕ) → At splits before after h pre e → (e.1).event ≡ OpEvent tx birth nth seen op → (e.1).outcome ≡ Answered a ep
    → Stands before after h pre e.0 (state_at before after e.0 pre) → WasOut before after pre e.0 tx ⊎ Out (Met before (pre ++ e ∷ []) pre e.0) (state_at before after e.0 pre) tx → ⊥
no_return splits before after h pre e tx birth nth seen op a ep x q r k w = by_stage (answered_fits splits before after h pre e tx birth nth seen op a ep x.next q r) w
  where
    met : WasOut before after pre e.0 tx ⊎ Out (Met before (pre ++ e ∷ []) pre e.0) (state_at before after e.0 pre) tx → Met before (pre ++ e ∷ []) pre e.0 tx
    met (inl (front, rest, z, o)) =
        met_front before front front (pre ++ e ∷ []) pre e.0 tx (λ m j. asked_later pre e tx m (subst (λ y. AskedIn y tx m) z (asked_front front rest tx m j))) (λ y j. subst (Among y) z (among_left y front rest j)) o.2
    met (inr o) = o.2

    inactive : WasOut before after pre e.0 tx ⊎ Out (Met before (pre ++ e ∷ []) pre e.0) (state_at before after e.0 pre) tx → stage_of (state_at before after e.0 pre).local tx ≡ Some Active → ⊥
    inactive (inl v) c = lost_inactive _ _ _ _ (state_at before after e.0 pre) tx k.barred v c
    inactive (inr o) c = both_ways _ o.0 (subst (λ z. is_present z ≡ true) (sym c) refl)

    by_stage : (seen_fits (state_at before after e.0 pre).local.epoch seen ≡ true) × ((stage_of (state_at before after e.0 pre).local tx ≡ None) ⊎ (stage_of (state_at before after e.0 pre).local tx ≡ Some Active))
        → WasOut before after pre e.0 tx ⊎ Out (Met before (pre ++ e ∷ []) pre e.0) (state_at before after e.0 pre) tx → ⊥
    by_stage (f, inl n) v = met_before splits before after h pre e tx birth nth seen op x q f n (met v)
    by_stage (f, inr c) v = inactive v c

-- ---- what the entry owes

dead_open : (before after : List (List LogRecord)) (pre : History) (m : ℕ) (tx : TxId) → DeadIn before after pre m tx → committed_in (state_at before after m pre).local.log tx ≡ false
dead_open before after pre m tx d = (d.1).0

-- a commit that comes finds one that was never out
pub decision_finds : (splits : List ℕ) (before after : List (List LogRecord)) (h pre : History) (e : Placed) (tx : TxId) (to home stamp : ℕ) (O : TxId → Type 0) → Next splits before after h pre e → Bindings splits before after h pre → Elders splits before after pre → (e.1).event ≡ Deliver (Decide to tx home true) stamp
    → Stands before after h pre e.0 (state_at before after e.0 pre) → committed_in (state_at before after e.0 pre).local.log tx ≡ false → stage_of (state_at before after e.0 pre).local tx ≡ Some Closed
    → WasOut before after pre e.0 tx ⊎ Out O (state_at before after e.0 pre) tx → ⊥
decision_finds splits before after h pre e tx to home stamp O w bs es q k n c (inr o) = both_ways _ o.0 (subst (λ z. is_present z ≡ true) (sym c) refl)
decision_finds splits before after h pre e tx to home stamp O w bs es q k n c (inl v) = by_reason (((k.barred).why tx hh.0 (inl v) hh.1))
  where
    hh : (p : ℕ × List TxId) × (prepare_of (state_at before after e.0 pre).local.log tx ≡ Some p) × (p.0 ≡ (state_at before after e.0 pre).shard → ⊥)
    hh = (k.barred).here tx v (subst (λ z. is_present z ≡ true) (sym c) refl)

    present : Absent (state_at before after e.0 pre) tx → ⊥
    present a = both_ways _ a (subst (λ z. is_present z ≡ true) (sym c) refl)

    dead : tx.run ≡ run_after before → (m : ℕ) → DeadIn before after pre m tx → ⊥
    dead r m d =
        let t = delivered splits before after pre (Decide to tx home true) stamp bs.fated (subst (WasSent pre) q w.sent) r in
        let s = state_at before after m pre in
        let z = subst (λ j. DurableIn before after pre j tx) (same_home splits before after h pre e tx t.0 m w t.1 d.0) t.2 in
        both_ways _ (dead_open before after pre m tx d) (front_committed s.durable s.local.log tx z)

    denied : Denied before after pre tx → ⊥
    denied (inl (r, m, d)) = dead r m d
    denied (inr (r, z)) = ⊎_elim r z (elders_tell splits before after pre (Decide to tx home true) stamp es (subst (WasSent pre) q w.sent))

    committed_then : (u : TxId) → tx_in u (hh.0).1 ≡ true → committed_in (state_at before after e.0 pre).local.log u ≡ true
    committed_then u i =
        let s = state_at before after e.0 pre in
        let due = due_at splits before after h pre e tx to home stamp w bs q n in
        ⊎_elim (λ z. durable_committed s.local.log s.durable u z) (λ z. list_all_at (committed_in s.local.log) u (predecessors_of s.local.pairs tx) due.0 (pair_in s.local.pairs tx u z))
        (((bs.parted e.0 w.inside).base).listed tx hh.0 u c hh.1 i)

    by_reason : Lost (Denied before after pre) (WasOut before after pre e.0) (Met before pre pre e.0) (state_at before after e.0 pre) tx hh.0 → ⊥
    by_reason (inl (a, z)) = present z
    by_reason (inr (inl (a, z))) = present z
    by_reason (inr (inr (inl z))) = denied z
    by_reason (inr (inr (inr (u, i, inl z)))) = both_ways _ ((k.barred).open_ u z) (committed_then u i)
    by_reason (inr (inr (inr (u, i, inr z)))) = both_ways _ z.1 (committed_then u i)

owes : (splits : List ℕ) (before after : List (List LogRecord)) (h pre : History) (e : Placed) (ev : Event) (o : Outcome) → At splits before after h pre e → (e.1).event ≡ ev → (e.1).outcome ≡ o → WasSent pre ev → Stands before after h pre e.0 (state_at before after e.0 pre)
    → Owes (Denied before after pre) (WasOut before after pre e.0) (Met before (pre ++ e ∷ []) pre e.0) (HomeHere h e.0) (state_at before after e.0 pre) ev o
owes splits before after h pre e (OpEvent tx birth nth seen op) o x q r sent k =
    let w = x.next in
    let s = state_at before after e.0 pre in
    let run = op_run splits before after h pre e tx w (ap tx_of q) in
    let bs = ((x.was).lowered).bindings in (
      false_from_ne_true _ (λ c. let a = committed_asked splits before after h pre e.0 tx w.inside bs.fated run c in asked_not_own splits before after h pre e tx birth nth seen op a.0 w q a.1),
      false_from_ne_true _
          (λ c. let p = prepare_some s.local.log tx c in asked_not_own splits before after h pre e tx birth nth seen op (p.0).0 w q (((bs.fated).homed e.0 w.inside).prepares tx p.0 p.1 run)),
      (λ a ep z v. no_return splits before after h pre e tx birth nth seen op a ep x q (r ∙ z) k v),
      (λ v g f.
          let y = rows_get (λ z. VoterIs (Sought before pre) s z.0 z.1) tx v s.voters (bs.parted e.0 w.inside).voters g in
          ⊎_elim (λ z. none_some Read (sym z.1 ∙ f)) (λ z. let a = z.0 run in asked_not_own splits before after h pre e tx birth nth seen op a.0 w q a.1) y),
    )
owes splits before after h pre e (RequestEvent tx ts) o x q r sent k = λ z. (ts, (e.1, (x.next).among, (q, r ∙ z)))
owes splits before after h pre e (Drop tx) o x q r sent k =
    let w = x.next in
    let s = state_at before after e.0 pre in
    let run = op_run splits before after h pre e tx w (ap tx_of q) in
    let bs = ((x.was).lowered).bindings in (
      false_from_ne_true _ (λ c.
          let a = committed_asked splits before after h pre e.0 tx w.inside bs.fated run c in
          let d = dropped_dead splits before after h pre e tx a.0 x.next x.was q run a.1 in
          let m = same_home splits before after h pre e tx a.0 d.0 w a.1 (d.1).0 in
          both_ways _ (dead_open before after pre d.0 tx d.1) (subst (λ n. committed_in (state_at before after n pre).local.log tx ≡ true) m a.2)),
      (λ p f. let d = dropped_dead splits before after h pre e tx p.0 x.next x.was q run (((bs.fated).homed e.0 w.inside).prepares tx p f run) in inl (run, d.0, d.1)),
    )
owes splits before after h pre e (Deliver (Decide to tx home true) stamp) o x q r sent k = λ n c v. decision_finds splits before after h pre e tx to home stamp (Met before (pre ++ e ∷ []) pre e.0) x.next ((x.was).lowered).bindings x.elders q k n c v
owes splits before after h pre e (Deliver (Decide to tx home false) stamp) o x q r sent k = λ n. inl (by_run (tx.run == run_after before) refl)
  where
    this_run : tx.run ≡ run_after before → Denied before after pre tx
    this_run run = inl (run, home, delivered splits before after pre (Decide to tx home false) stamp (((x.was).lowered).bindings).fated sent run)

    by_run : (b : Bool) → (tx.run == run_after before) ≡ b → Denied before after pre tx
    by_run true f = this_run (eqb-true tx.run (run_after before) f)
    by_run false f = ⊎_elim this_run (λ z. inr ((λ r. both_ways _ f (eq-eqb tx.run (run_after before) r)), z)) (elders_tell splits before after pre (Decide to tx home false) stamp x.elders sent)
owes splits before after h pre e _ o x q r sent k = tt

-- ---- one entry more

lock_closed : (s : Shard) (p : TxId) (b : Birth) → LockOf s.local.parts p b true → stage_of s.local p ≡ Some Closed
lock_closed s p b (g, e, f, st) = ap stage_by e ∙ ap (λ z. Some z) st

tied_made : (log : List LogRecord) (s t : Shard) {ev : Event} {o : Outcome} → Makes log s ev o t → OpOwes (λ t p. ⊤) s ev o → Tied (λ t p. ⊤) s → Tied (λ t p. ⊤) t
tied_made log s t (by_event g h) w k = tied_happens (λ t p. ⊤) s t h w k
tied_made log s _ (by_flush n u f) w k = tied_flushed (λ t p. ⊤) s n k
tied_made log s _ (by_failure n u f) w k = tied_down (λ t p. ⊤) s k
tied_made log s _ (by_restart epoch kept u r) w k = tied_revived (λ t p. ⊤) s kept epoch (up_to_restart s.run epoch log) r k

module _ (splits : List ℕ) (before after : List (List LogRecord)) (h pre : History) (e : Placed) (x : At splits before after h pre e) (k : Stands before after h pre e.0 (state_at before after e.0 pre)) where
  abbrev S : Shard
  S = state_at before after e.0 pre

  abbrev T : Shard
  T = event_state (log_of after e.0) (state_at before after e.0 pre) (e.1).event (e.1).outcome

  abbrev New : History
  New = pre ++ e ∷ []

  made : Makes (log_of after e.0) S (e.1).event (e.1).outcome T
  made = makes (log_of after e.0) S (e.1).event (e.1).outcome (((x.next).split).enters).event

  kept_then : Kept T
  kept_then =
      let q = subst Kept ((x.next).split).next ((x.is).kept e.0 (x.next).inside) in
      record { down = q.down; gone = q.gone; rows = q.rows }

  stands_then : (u : TxId) → prepared_in T.local.log u ≡ true → stage_of T.local u ≡ Some Closed → has_standing T.local.log u ≡ true
  stands_then u c d =
      let b = (((x.is).lowered).bindings).parted e.0 (x.next).inside in
      subst (λ (z : Shard). (u : TxId) → prepared_in z.local.log u ≡ true → stage_of z.local u ≡ Some Closed → has_standing z.local.log u ≡ true) ((x.next).split).next (b.base).stands u c d

  sought_then : (u : TxId) (p : ℕ × List TxId) → prepare_of T.local.log u ≡ Some p → Met before New pre e.0 u × (HomeHere h e.0 u → p.0 ≡ S.shard)
  sought_then u p c =
      let f = (((x.is).lowered).bindings).fated in
      let r = prepared_asked splits before after h New e.0 (x.next).legal x.inside f (x.next).inside u p (subst (λ (z : Shard). prepare_of z.local.log u ≡ Some p) (sym ((x.next).split).next) c) in
      (inl r.0, (λ q. r.1 q ∙ sym ((x.next).split).shard))

  framed : Frame (Met before New pre e.0) (HomeHere h e.0) S T (LockOf S.local.parts)
  framed = record {
    counted = ((((x.was).lowered).bindings).fated.counts).counted e.0 (x.next).inside;
    rows = (k.tied).rows;
    closed = lock_closed S;
    kept = kept_then;
    stands = stands_then;
    sought = sought_then;
  }

  more_met : (u : TxId) → Met before pre pre e.0 u → Met before New pre e.0 u
  more_met u m = met_front before pre pre New pre e.0 u (λ j a. asked_later pre e u j a) (λ y i. i) m

  barred_then : Barred (Denied before after pre) (WasOut before after pre e.0) (Met before New pre e.0) (HomeHere h e.0) T
  barred_then =
      barred_made (Denied before after pre) (WasOut before after pre e.0) (Met before pre pre e.0) (Met before New pre e.0) (HomeHere h e.0) (log_of after e.0) S T (LockOf S.local.parts) made framed (λ u o. (pre, [], append-nil pre, o))
      (owed_down splits before after h pre e (e.1).event refl x.next ((x.was).lowered).bindings) (owes splits before after h pre e (e.1).event (e.1).outcome x refl refl (x.next).sent k) k.barred
      (barred_more (Denied before after pre) (Denied before after pre) (WasOut before after pre e.0) (WasOut before after pre e.0) (Met before pre pre e.0) (Met before New pre e.0) (HomeHere h e.0) S (λ u z. z) (λ u z. z) (λ u z. inl z) more_met k.barred)

  barred_state_then : Barred (Denied before after pre) (WasOut before after pre e.0) (Met before New pre e.0) (HomeHere h e.0) (state_at before after e.0 New)
  barred_state_then =
      let c = barred_then in
      subst (Barred (Denied before after pre) (WasOut before after pre e.0) (Met before New pre e.0) (HomeHere h e.0)) (sym ((x.next).split).next)
      (barred_same (Denied before after pre) (WasOut before after pre e.0) (Met before New pre e.0) (HomeHere h e.0) T (after_entry (log_of after e.0) S e.1) refl refl refl c.rows c.readers c)

  denied_more : (u : TxId) → Denied before after pre u → Denied before after New u
  denied_more u (inl (r, m, d)) = inl (r, m, dead_later splits before after h pre e x.next (((x.was).lowered).bindings).fated m u r d)
  denied_more u (inr z) = inr z

  out_more : (n : ℕ) (u : TxId) → WasOut before after pre n u → WasOut before after New n u
  out_more n u (front, rest, q, o) = (front, rest ++ e ∷ [], sym (append_assoc front rest (e ∷ [])) ∙ ap (λ z. z ++ e ∷ []) q, o)

  out_split : (n : ℕ) (u : TxId) → WasOut before after New n u → WasOut before after pre n u ⊎ Out (Met before New New n) (state_at before after n New) u
  out_split n u (front, rest, q, o) = ⊎_elim (λ f. inr (subst (λ z. Out (Met before z z n) (state_at before after n z) u) f o)) (λ r. inl (front, r.0, r.1, o)) (last_front front rest pre e q)

  pub stands_here : Stands before after h New e.0 (state_at before after e.0 New)
  stands_here = record {
    tied = tied_as (λ t p. ⊤) T (state_at before after e.0 New) (ap (λ (z : Shard). z.local) ((x.next).split).next) (tied_made (log_of after e.0) S T made (op_owes splits before after h pre e (e.1).event (e.1).outcome x refl refl) k.tied);
    barred = barred_more (Denied before after pre) (Denied before after New) (WasOut before after pre e.0) (WasOut before after New e.0) (Met before New pre e.0) (Met before New New e.0) (HomeHere h e.0) (state_at before after e.0 New) denied_more (out_more e.0) (out_split e.0)
        (λ u m. met_front before New pre New New e.0 u (λ j a. a) (λ y i. among_left y pre (e ∷ []) i) m) barred_state_then;
  }

  pub stands_there : (n : ℕ) → (e.0 == n) ≡ false → Stands before after h pre n (state_at before after n pre) → Stands before after h New n (state_at before after n New)
  stands_there n d o =
      let z : state_at before after n New ≡ state_at before after n pre = stays_as_it_was before after n e pre d in
      subst (Stands before after h New n) (sym z)
      (record {
        tied = o.tied;
        barred = barred_more (Denied before after pre) (Denied before after New) (WasOut before after pre n) (WasOut before after New n) (Met before pre pre n) (Met before New New n) (HomeHere h n) (state_at before after n pre) denied_more (out_more n)
            (λ u v. ⊎_elim (λ y. inl y) (λ y. inr (subst (λ s. Out (Met before New New n) s u) z y)) (out_split n u v))
            (λ u m. met_front before pre pre New New n u (λ j a. asked_later pre e u j a) (λ y i. among_left y pre (e ∷ []) i) m) o.barred;
      })

-- ---- when the shards open

all_tied : (rs : List LogRecord) → AllByRecursion (ListsAre (λ t p. ⊤)) rs
all_tied [] = tt
all_tied (Prepare tx home ps ∷ rs) = (each ps, all_tied rs)
  where
    each : (ps : List TxId) → AllByRecursion (λ p. ⊤) ps
    each [] = tt
    each (p ∷ ps) = (tt, each ps)
all_tied (Update tx key b x ∷ rs) = (tt, all_tied rs)
all_tied (Clr tx u key x ∷ rs) = (tt, all_tied rs)
all_tied (Commit tx parts ∷ rs) = (tt, all_tied rs)
all_tied (Abort tx ∷ rs) = (tt, all_tied rs)
all_tied (End tx ∷ rs) = (tt, all_tied rs)
all_tied (RestartRecord run epoch ∷ rs) = (tt, all_tied rs)
all_tied (Add tx key by ∷ rs) = (tt, all_tied rs)
all_tied (Unadd tx u key by ∷ rs) = (tt, all_tied rs)
all_tied (Forgotten ∷ rs) = (tt, all_tied rs)
all_tied (Check run' epoch' upto base ∷ rs) = (tt, all_tied rs)

log_ahead : (splits : List ℕ) (before : List (List LogRecord)) (n : ℕ) → may_open splits before ≡ true → n < length before → Ahead (part_of (log_of before n)) [] (log_of before n)
log_ahead splits before n m l = order_ahead n (log_of before n) (log_follows splits before n m l)

listed_whole : (log : List LogRecord) (t : TxId) → is_listed (part_of log) t ≡ true → is_listed log t ≡ true
listed_whole log t e =
    subst (λ l. is_listed l t ≡ true) (take-append-drop (upto_of log) log) (list_any-append (lists t) (take (upto_of log) log) (drop (upto_of log) log) ∙ or_left _ _ e)

-- whom a checkpoint let go is of an earlier run, and not committed here
let_go_out : (splits : List ℕ) (before : List (List LogRecord)) (n : ℕ) → may_open splits before ≡ true → n < length before → (t : TxId) → is_let_go (part_of (log_of before n)) t ≡ true
    → (committed_in (log_after_restart n (log_of before n) (run_after before) 0) t ≡ false) × Met before [] [] n t
let_go_out splits before n m l t g =
    let log = log_of before n in
    let d = log_follows splits before n m l in
    let come = in_order_comes n log d in (
      false_from_ne_true _ (λ c. both_ways _ (let_go_uncommitted n (part_of log) t g log come) (opening_adds n log (run_after before) 0 t c)),
      inl (λ r. ⊎_elim
          (λ p. absurd (both_ways _ (let_go_unprepared n (part_of log) t g log come) p))
          (λ k. absurd (omega (arith, r, k)))
          (named_found n (run_after before) log d (below_next_run before n) t (listed_whole log t (and_first _ _ g)))),
    )

opens : {splits : List ℕ} {before after : List (List LogRecord)} {h : History} → LegalFrom splits before h after → (n : ℕ) → n < shard_count splits → Stands before after h [] n (state_at before after n [])
opens {splits} {before} {after} {h} l n i =
    let run = run_after before in
    let log = log_after_restart n (log_of before n) (run_after before) 0 in
    let bs = bindings_front l [] h refl in
    record {
      tied = tied_opened (λ t p. ⊤) n (run_after before) (log_of before n) (all_tied (log_of before n));
      barred = barred_state (Denied before after []) (WasOut before after [] n) (Met before [] [] n) (HomeHere h n) n (run_after before) 0 (part_of (log_of before n)) log 0 []
          (whole_ahead (part_of (log_of before n)) n (log_of before n) (run_after before) 0 (log_ahead splits before n l.opens (log_found l n i)))
          (let_go_out splits before n l.opens (log_found l n i))
          (λ u j. doubt_stand n log (length log) u ((bs.parted n i).base).firm j)
          (λ u p c. let r = prepared_asked splits before after h [] n l.legal (λ y j. elim j [ ]) bs.fated i u p c in (inl r.0, r.1))
          (λ u v. (first u v).1) (λ u p v j c. absurd (both_ways _ (first u v).0 (ap is_present (restored_closed (in_doubt n log) u j))));
    }
  where
    first : (u : TxId) → WasOut before after [] n u → Out (Met before [] [] n) (state_at before after n []) u
    first u (front, rest, q, v) = subst (λ z. Out (Met before z z n) (state_at before after n z) u) (empty_front front rest q) v

-- ---- the whole history

-- what holds at the start and is kept by each entry, whatever follows it
pub walk_on : (P : History → Type 0) (h done pre post : History) → (done ++ pre) ++ post ≡ h → ((pre : History) (e : Placed) (post : History) → pre ++ e ∷ post ≡ h → P pre → P (pre ++ e ∷ [])) → P done → P (done ++ pre)
walk_on P h done [] post q k p = subst P (sym (append-nil done)) p
walk_on P h done (e ∷ pre) post q k p =
    let a : done ++ e ∷ (pre ++ post) ≡ h = sym (append_assoc done (e ∷ pre) post) ∙ q in
    subst P (append_assoc done (e ∷ []) pre) (walk_on P h (done ++ e ∷ []) pre post (ap (λ z. z ++ post) (append_assoc done (e ∷ []) pre) ∙ q) k (k done e (pre ++ post) a p))

StandsAll : (splits : List ℕ) (before after : List (List LogRecord)) (h pre : History) → Type 0
StandsAll splits before after h pre = (n : ℕ) → n < shard_count splits → Stands before after h pre n (state_at before after n pre)

-- what is known of an entry, and of the fronts before and behind it
module _ {splits : List ℕ} {before after : List (List LogRecord)} {h : History} (l : LegalFrom splits before h after) where
  pub entry_at : (pre : History) (e : Placed) (post : History) → pre ++ e ∷ post ≡ h → At splits before after h pre e
  entry_at pre e post q =
      let w = next_at splits before after h pre e post l.legal q in
      let later : (pre ++ e ∷ []) ++ post ≡ h = append_assoc pre (e ∷ []) post ∙ q in
      record {
        next = w;
        behind = (next_entry splits before after h pre e post l.legal q).behind;
        inside = λ y j. subst (Among y) later (among_left y (pre ++ e ∷ []) post j);
        was = spared_front l pre (e ∷ post) q;
        is = spared_front l (pre ++ e ∷ []) post later;
        traced = (traced_front l pre (e ∷ post) q).states e.0 w.inside;
        elders = elders_front l pre (e ∷ post) q;
      }

  next_stands : (pre : History) (e : Placed) (post : History) → pre ++ e ∷ post ≡ h → StandsAll splits before after h pre → StandsAll splits before after h (pre ++ e ∷ [])
  unfolding StandsAll
  next_stands pre e post q k n i = at (e.0 == n) refl
    where
      x : At splits before after h pre e
      x = entry_at pre e post q

      at : (b : Bool) → (e.0 == n) ≡ b → Stands before after h (pre ++ e ∷ []) n (state_at before after n (pre ++ e ∷ []))
      at true f = subst (λ m. Stands before after h (pre ++ e ∷ []) m (state_at before after m (pre ++ e ∷ []))) (eqb-true e.0 n f) (stands_here splits before after h pre e x (k e.0 (x.next).inside))
      at false f = stands_there splits before after h pre e x (k e.0 (x.next).inside) n f (k n i)

  pub stands_front : (pre post : History) → pre ++ post ≡ h → (n : ℕ) → n < shard_count splits → Stands before after h pre n (state_at before after n pre)
  unfolding StandsAll
  stands_front pre post q n i = walk_on (StandsAll splits before after h) h [] pre post q next_stands (opens l) n i
