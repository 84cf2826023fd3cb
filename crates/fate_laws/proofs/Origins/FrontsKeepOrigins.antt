-- Along a history: what each shard has comes of entries so far.
use Rattle.std.proofs.Common.{◌≡◌, ◌⊎◌, inl, inr, refl, sym, ap, subst, ◌∙◌, ℕ, max, ◌+◌, ◌<◌, ◌≤◌, true, false, cond, Bool, List, [], ◌∷◌, ◌++◌, length, Option, Some, None, ◌==◌, arith}
use Rattle.std.specs.Prelude.{⊤, is_none}
use Rattle.std.specs.List.{AllByRecursion, list_all}
use Rattle.std.proofs.lemmas.Bool.{both_ways, and_parts, eq-eqb, cond-true}
use Rattle.clv_base.specs.declared.names.TxId.{TxId}
use Rattle.clv_base.specs.declared.names.Birth.{Birth}
use Rattle.clv_base.specs.declared.ops.Op.{Op}
use Rattle.clv_base.specs.declared.ops.Answer.{Answer}
use Rattle.clv_base.specs.declared.logs.LogRecord.{LogRecord}
use Rattle.clv_base.specs.declared.logs.LogRecord.TheVariants.{Update, Clr, Prepare as PrepareRecord, Commit, Abort, End, Restart as RestartRecord, Add, Unadd, Forgotten, Check}
use Rattle.clv_base.specs.declared.messages.Message.{Message}
use Rattle.clv_base.specs.declared.messages.Message.TheVariants.{Prepare, Vote as VoteMessage, Decide, Done, Ask}
use Rattle.clv_base.specs.declared.events.Event.{Event}
use Rattle.clv_base.specs.declared.events.Event.TheVariants.{Op as OpEvent, Request as RequestEvent, Deliver, FlushIn, Restart}
use Rattle.clv_base.specs.declared.events.Outcome.{Outcome}
use Rattle.clv_base.specs.declared.events.Outcome.TheVariants.{Answered, Asked, Sent}
use Rattle.clv_base.specs.declared.events.Entry.{Entry}
use Rattle.clv_base.specs.declared.state.Held.{Held}
use Rattle.clv_base.specs.Orders.{tx_same, tx_get}
use Rattle.clv_base.specs.Shards.{shard_count}
use Rattle.clv_base.specs.LogRules.{log_of, disorder, apart, all_logs_from}
use Rattle.clv_base.specs.FileRules.{passes_file_rules, log_passes, may_open}
use Rattle.clv_base.specs.State.{Shard, Local}
use Rattle.clv_base.specs.Needs.{writes_of, value_at, key_of}
use Rattle.clv_base.specs.OneShard.{OpAnswers, active_part, new_part, locked}
use Rattle.clv_base.specs.Events.{finish, with_durable, put_down, with_entry}
use Rattle.clv_base.specs.Restarts.{greatest_run, greatest_epoch, run_after, log_left, revived, Restarts}
use Rattle.clv_base.specs.Journals.{History, start_of, event_state, after_entry, up_to_restart, MayEnter}
use Rattle.clv_base.specs.History.{Legal, WasSent}
use Rattle.clv_base.proofs.SameNames.{tx_self}
use Rattle.law_base.proofs.Changed.{none_some}
use Rattle.law_base.proofs.Lists.{all_mono}
use Rattle.law_base.proofs.Tables.{get_put}
use Rattle.law_base.proofs.Options.{none_of}
use Rattle.law_base.proofs.Restarts.{epoch_own}
use Rattle.law_base.proofs.Stages.{written_parts}
use Rattle.history_cases.proofs.Stepping.{with_work, Step, op_answers, sends, Happens, finishes, stops}
use Rattle.history_cases.proofs.Entering.{Makes, by_event, by_flush, by_failure, by_restart, makes}
use Rattle.history_cases.proofs.Merging.{Placed, Before, before_then, Among, among_append, among_left, among_right, is_among}
use Rattle.history_cases.proofs.Durability.{Counted, fronts_entry, opened_counted}
use Rattle.history_cases.proofs.Telling.{IsRequest}
use Rattle.history_cases.proofs.OldRuns.{below_next_run}
use Rattle.protocol_laws.proofs.LogsInOrder.{runs_in_order}
use Rattle.protocol_laws.specs.Order.{RunFits}
use Rattle.history_cases.proofs.Worlds.{state_at}
use Rattle.history_laws.specs.Openings.{LegalFrom}
use Rattle.history_laws.proofs.Logs.FoundLogsInOrder.{log_found}
use Rattle.history_laws.proofs.RequestsNameWhatAnswered.SessionsFollowTheirOperations.{SeenIs, AnswersAt}
use Rattle.history_laws.proofs.Entries.WhatOperationsDo.{OpIs, performs, reply_is, answered_epoch}
use Rattle.history_laws.proofs.Entries.WalkedEntryByEntry.{Behind, Walked, Steps, walked_front}
use Rattle.fate_laws.proofs.History.EntriesInTurn.{Requested}
use Rattle.fate_laws.proofs.Origins.DueKeepsOrigins.{AwayRequest, MessageFrom, Origins, AllFrom, RecordFrom, from_finish}
use Rattle.protocol_laws.proofs.RestartsLeadToOneLog.{restarts_lead_to_one}
use Rattle.fate_laws.proofs.Origins.EventsKeepOrigins.{Owes, from_step, from_happens, from_flushed, from_down, from_revived, from_opened, from_more, from_known}
use Rattle.law_base.proofs.Logs.{passes_at as each_passes}

-- ---- what stands in a history so far

-- an operation of the transaction was answered on the shard, in this epoch and with this birth
abbrev pub Did : History → ℕ → ℕ → TxId → Birth → Type 0
Did pre n ep t b = (y : Placed) × Among y pre × (y.0 ≡ n) × AnswersAt y t b ep

abbrev pub DidNow : History → ℕ → ℕ → TxId → Type 0
DidNow pre n ep t = (b : Birth) × Did pre n ep t b

abbrev pub DidAny : History → ℕ → TxId → Type 0
DidAny pre n t = (ep : ℕ) × DidNow pre n ep t

abbrev pub IsOld : ℕ → TxId → Type 0
IsOld run t = t.run < run

abbrev pub DidOrOld : ℕ → History → ℕ → TxId → Type 0
DidOrOld run pre n t = DidAny pre n t ⊎ IsOld run t

pub any_of : (run : ℕ) (pre : History) (n ep : ℕ) (t : TxId) (b : Birth) → Did pre n ep t b → DidOrOld run pre n t
any_of run pre n ep t b d = inl (ep, (b, d))

abbrev pub OriginsAt : ℕ → History → ℕ → ℕ → Shard → Type 0
OriginsAt run pre n ep s = Origins n ep (Did pre n ep) (DidOrOld run pre n) (Requested pre) (IsOld run) (DidNow pre n ep) s

-- what is known of a shard after a front of the history
pub record Traced (run : ℕ) (pre : History) (n : ℕ) (s : Shard) : Type 0 where
  pub run_is : s.run ≡ run
  pub counted : Counted s
  pub origins : OriginsAt run pre n s.local.epoch s
  -- no operation was answered in a later epoch, and each had seen none or its own
  pub epochs : (y : Placed) (t : TxId) (b : Birth) (nth : ℕ) (seen : Option ℕ) (op : Op) (a : Answer) (m : ℕ) → Among y pre → y.0 ≡ n → (y.1).event ≡ OpEvent t b nth seen op → (y.1).outcome ≡ Answered a m → (m ≤ s.local.epoch) × SeenIs seen m

-- ---- one entry more in the history

did_more : (pre : History) (x : Placed) (n ep : ℕ) (t : TxId) (b : Birth) → Did pre n ep t b → Did (pre ++ x ∷ []) n ep t b
did_more pre x n ep t b (y, i, p, a) = (y, among_left y pre (x ∷ []) i, p, a)

pub old_more : (run : ℕ) (pre : History) (x : Placed) (n : ℕ) (t : TxId) → DidOrOld run pre n t → DidOrOld run (pre ++ x ∷ []) n t
old_more run pre x n t (inl (ep, (b, d))) = inl (ep, (b, did_more pre x n ep t b d))
old_more run pre x n t (inr o) = inr o

pub requested_more : (pre : History) (x : Placed) (t : TxId) (m : ℕ) → Requested pre t m → Requested (pre ++ x ∷ []) t m
requested_more pre x t m (r, ts, i, q, p) = (r, ts, among_left r pre (x ∷ []) i, q, p)

raised : (run : ℕ) (pre : History) (x : Placed) (n ep : ℕ) (K : TxId → Type 0) (s : Shard) → Origins n ep (Did pre n ep) (DidOrOld run pre n) (Requested pre) (IsOld run) K s
    → Origins n ep (Did (pre ++ x ∷ []) n ep) (DidOrOld run (pre ++ x ∷ []) n) (Requested (pre ++ x ∷ [])) (IsOld run) K s
raised run pre x n ep K s p =
    from_more n ep (Did pre n ep) (Did (pre ++ x ∷ []) n ep) (DidOrOld run pre n) (DidOrOld run (pre ++ x ∷ []) n) (Requested pre) (Requested (pre ++ x ∷ [])) (IsOld run) K s (did_more pre x n ep) (old_more run pre x n) (requested_more pre x) p

-- ---- another shard's entry

other_entry : (pre : History) (x y : Placed) (n : ℕ) → (x.0 == n) ≡ false → Among y (pre ++ x ∷ []) → y.0 ≡ n → Among y pre
other_entry pre x y n d i e = at (among_append y pre (x ∷ []) i)
  where
    at : Among y pre ⊎ Among y (x ∷ []) → Among y pre
    at (inl j) = j
    at (inr (inl q)) = absurd (both_ways (x.0 == n) d (eq-eqb x.0 n (ap (λ z. z.0) q ∙ e)))
    at (inr (inr q)) = elim q [ ]

traced_other : (run : ℕ) (pre : History) (x : Placed) (n : ℕ) (s : Shard) → (x.0 == n) ≡ false → Traced run pre n s → Traced run (pre ++ x ∷ []) n s
traced_other run pre x n s d k = record {
  run_is = k.run_is;
  counted = k.counted;
  origins = from_known n s.local.epoch _ _ _ _ (DidNow pre n s.local.epoch) (DidNow (pre ++ x ∷ []) n s.local.epoch) s
      (λ t w. let y = w.1 in (k.origins).known t (w.0, (y.0, other_entry pre x y.0 n d y.1 y.2, y.2, y.3)))
      (raised run pre x n s.local.epoch (DidNow pre n s.local.epoch) s k.origins);
  epochs = λ y t b nth seen op a m i e f g. k.epochs y t b nth seen op a m (other_entry pre x y n d i e) e f g;
}

-- ---- the entry of a shard that was up

-- who was answered has a part
AnsweredHas : Event → Outcome → Shard → Type 0
AnsweredHas (OpEvent tx birth nth seen op) (Answered a m) t = tx_get tx t.local.parts ≡ None → ⊥
AnsweredHas (OpEvent tx birth nth seen op) _ t = ⊤
AnsweredHas _ o t = ⊤

has_part : (tx : TxId) (birth : Birth) (parts : List (TxId × Held)) → tx_get tx (new_part tx birth (tx_get tx parts) parts) ≡ None → ⊥
has_part tx birth parts e = at (tx_get tx parts) refl e
  where
    at : (o : Option Held) → tx_get tx parts ≡ o → tx_get tx (new_part tx birth o parts) ≡ None → ⊥
    at None q f = none_some (active_part birth) (sym f ∙ get_put tx tx (active_part birth) parts ∙ cond-true (tx_same tx tx) (Some (active_part birth)) (tx_get tx parts) (tx_self tx))
    at (Some h) q f = none_some h (sym f ∙ q)

answered_part : (l m : Local) (tx : TxId) (birth : Birth) (seen : Option ℕ) (op : Op) (a : Answer) → OpIs l tx birth seen op (OpAnswers a m) → tx_get tx m.parts ≡ None → ⊥
answered_part l _ tx birth seen op _ (performs f e) n =
    has_part tx birth l.parts (ap (tx_get tx) (sym (written_parts tx (writes_of op (value_at (key_of op) l.records)) (locked tx birth op l))) ∙ n)

has_step : (n ep : ℕ) (D : TxId → Birth → Type 0) (A : TxId → Type 0) (Q : TxId → ℕ → Type 0) (O K : TxId → Type 0) (s t : Shard) {e : Event} {o : Outcome} → Step s e o t → Origins n ep D A Q O K t → AnsweredHas e o (finish t)
unfolding AnsweredHas
has_step n ep D A Q O K s _ (op_answers tx birth nth seen op answer l g) p =
    let here = answered_part s.local l tx birth seen op answer (reply_is s.shard s.local tx birth seen op (OpAnswers answer l) g) in
    let q = from_known n ep D A Q O K (λ u. u ≡ tx) (with_work l s) (λ u v z. here (subst (λ k. tx_get k l.parts ≡ None) v z)) p in
    (from_finish n ep D A Q O (λ u. u ≡ tx) (with_work l s) q).known tx refl
has_step n ep D A Q O K s t _ p = tt

-- the entry's own operation
did_now : (pre : History) (n : ℕ) (x : Entry) (tx : TxId) (b : Birth) (nth : ℕ) (seen : Option ℕ) (op : Op) (a : Answer) (ep : ℕ) → x.event ≡ OpEvent tx b nth seen op → x.outcome ≡ Answered a ep → SeenIs seen ep → Did (pre ++ (n, x) ∷ []) n ep tx b
did_now pre n x tx b nth seen op a ep e f z = ((n, x), among_right (n, x) pre ((n, x) ∷ []) (inl refl), refl, record { seen = seen; answer = a; at = record { nth = nth; op = op; is = e }; outcome = f; saw = z })

away_mono : (Q Q' : TxId → ℕ → Type 0) (O : TxId → Type 0) (n : ℕ) (t : TxId) → ((u : TxId) (m : ℕ) → Q u m → Q' u m) → AwayRequest Q O n t → AwayRequest Q' O n t
away_mono Q Q' O n t k (inl (m, d, q)) = inl (m, d, k t m q)
away_mono Q Q' O n t k (inr o) = inr o

message_mono : (Q Q' : TxId → ℕ → Type 0) (O : TxId → Type 0) → ((t : TxId) (n : ℕ) → Q t n → Q' t n) → (m : Message) → MessageFrom Q O m → MessageFrom Q' O m
message_mono Q Q' O k (Prepare to tx home seen) w = (k tx home w.0, w.1)
message_mono Q Q' O k (VoteMessage to tx from vote) w = tt
message_mono Q Q' O k (Decide to tx home true) w = tt
message_mono Q Q' O k (Decide to tx home false) w = away_mono Q Q' O to tx k w
message_mono Q Q' O k (Done to tx from) w = tt
message_mono Q Q' O k (Ask to tx from) w = away_mono Q Q' O from tx k w

-- a message that comes tells of its request
abbrev pub Brings : (TxId → ℕ → Type 0) → (TxId → Type 0) → Event → Type 0
Brings Q O (Deliver m stamp) = MessageFrom Q O m
Brings Q O _ = ⊤

owed : (run : ℕ) (pre : History) (n : ℕ) (x : Entry) (s t : Shard) (e : Event) (o : Outcome) → x.event ≡ e → x.outcome ≡ o → Happens s e o t → Brings (Requested pre) (IsOld run) e → Owes n (Did (pre ++ (n, x) ∷ []) n s.local.epoch) (Requested (pre ++ (n, x) ∷ [])) (IsOld run) e o
owed run pre n x s t (OpEvent tx b nth seen op) (Answered a m) p q g w =
    let z = answered_epoch s t g tx b nth seen op a m refl refl in
    did_now pre n x tx b nth seen op a s.local.epoch p (q ∙ ap (Answered a) z.0) (subst (SeenIs seen) z.0 z.1)
owed run pre n x s t (RequestEvent tx ts) Asked p q g w = ((n, x), ts, among_right (n, x) pre ((n, x) ∷ []) (inl refl), (p, q), refl)
owed run pre n x s t (Deliver m stamp) o p q g w = message_mono (Requested pre) (Requested (pre ++ (n, x) ∷ [])) (IsOld run) (requested_more pre (n, x)) m w
owed run pre n x s t _ o p q g w = tt

-- after an event, with the parts that were known before
happens_from : (run : ℕ) (pre : History) (n : ℕ) (x : Entry) (s t : Shard) {e : Event} {o : Outcome} → x.event ≡ e → x.outcome ≡ o → Happens s e o t → Brings (Requested pre) (IsOld run) e → Traced run pre n s
    → Origins n s.local.epoch (Did (pre ++ (n, x) ∷ []) n s.local.epoch) (DidOrOld run (pre ++ (n, x) ∷ []) n) (Requested (pre ++ (n, x) ∷ [])) (IsOld run) (DidNow pre n s.local.epoch) t
happens_from run pre n x s t {e} {o} p q g w k =
    from_happens n s.local.epoch (Did (pre ++ (n, x) ∷ []) n s.local.epoch) (DidOrOld run (pre ++ (n, x) ∷ []) n) (Requested (pre ++ (n, x) ∷ [])) (IsOld run) (DidNow pre n s.local.epoch) (any_of run (pre ++ (n, x) ∷ []) n s.local.epoch) s t g
    (owed run pre n x s t e o p q g w) (raised run pre (n, x) n s.local.epoch (DidNow pre n s.local.epoch) s k.origins)

answered_has : (n ep : ℕ) (D : TxId → Birth → Type 0) (A : TxId → Type 0) (Q : TxId → ℕ → Type 0) (O K : TxId → Type 0) → ((t : TxId) (b : Birth) → D t b → A t) → (s t : Shard) {e : Event} {o : Outcome} → Happens s e o t → Owes n D Q O e o → Origins n ep D A Q O K s → AnsweredHas e o t
unfolding AnsweredHas
answered_has n ep D A Q O K da s _ (finishes {t = t} u g) w p = has_step n ep D A Q O K s t g (from_step n ep D A Q O K da s t g w p)
answered_has n ep D A Q O K da s _ (stops u) w p = tt

now_known : (e : Event) (o : Outcome) (t : Shard) (tx : TxId) (b : Birth) (nth : ℕ) (seen : Option ℕ) (op : Op) (a : Answer) (m : ℕ) → AnsweredHas e o t → e ≡ OpEvent tx b nth seen op → o ≡ Answered a m → tx_get tx t.local.parts ≡ None → ⊥
unfolding AnsweredHas
now_known e o t tx b nth seen op a m h p q = subst (λ z. AnsweredHas z (Answered a m) t) p (subst (λ z. AnsweredHas e z t) q h)

traced_event : (run : ℕ) (pre : History) (n : ℕ) (x : Entry) (s t : Shard) {e : Event} {o : Outcome} → x.event ≡ e → x.outcome ≡ o → Happens s e o t → Brings (Requested pre) (IsOld run) e → Counted t → t.run ≡ s.run → Traced run pre n s → Traced run (pre ++ (n, x) ∷ []) n t
traced_event run pre n x s t {e} {o} p q g w c r k =
    let new = pre ++ (n, x) ∷ [] in
    let f = happens_from run pre n x s t p q g w k in
    let h = answered_has n s.local.epoch (Did new n s.local.epoch) (DidOrOld run new n) (Requested new) (IsOld run) (DidNow pre n s.local.epoch) (any_of run new n s.local.epoch) s t g (owed run pre n x s t e o p q g w) (raised run pre (n, x) n s.local.epoch (DidNow pre n s.local.epoch) s k.origins) in
    let z = f.epoch in
    record {
      run_is = r ∙ k.run_is;
      counted = c;
      origins = subst (λ ep. OriginsAt run new n ep t) (sym z)
          (from_known n s.local.epoch _ _ _ _ (DidNow pre n s.local.epoch) (DidNow new n s.local.epoch) t
          (λ u d. let y = d.1 in known u d.0 y.0 (among_append y.0 pre ((n, x) ∷ []) y.1) y.2 y.3 f h) f);
      epochs = λ y u b nth seen op a m i v d l. epochs y u b nth seen op a m (among_append y pre ((n, x) ∷ []) i) v d l z;
    }
  where
    known : (u : TxId) (b : Birth) (y : Placed) → Among y pre ⊎ Among y ((n, x) ∷ []) → y.0 ≡ n → AnswersAt y u b s.local.epoch
        → Origins n s.local.epoch (Did (pre ++ (n, x) ∷ []) n s.local.epoch) (DidOrOld run (pre ++ (n, x) ∷ []) n) (Requested (pre ++ (n, x) ∷ [])) (IsOld run) (DidNow pre n s.local.epoch) t
        → AnsweredHas e o t → tx_get u t.local.parts ≡ None → ⊥
    known u b y (inl j) v a f h z = f.known u (b, (y, j, v, a)) z
    known u b y (inr (inl j)) v a f h z =
        now_known e o t u b (a.at).nth a.seen (a.at).op a.answer s.local.epoch h (sym p ∙ ap (λ w. (w.1).event) j ∙ (a.at).is) (sym q ∙ ap (λ w. (w.1).outcome) j ∙ a.outcome) z
    known u b y (inr (inr j)) v a f h z = elim j [ ]

    epochs : (y : Placed) (u : TxId) (b : Birth) (nth : ℕ) (seen : Option ℕ) (op : Op) (a : Answer) (m : ℕ) → Among y pre ⊎ Among y ((n, x) ∷ []) → y.0 ≡ n → (y.1).event ≡ OpEvent u b nth seen op → (y.1).outcome ≡ Answered a m
        → t.local.epoch ≡ s.local.epoch → (m ≤ t.local.epoch) × SeenIs seen m
    epochs y u b nth seen op a m (inl j) v d l z = let i = k.epochs y u b nth seen op a m j v d l in (let j0 = i.0 in omega (arith, j0, z), i.1)
    epochs y u b nth seen op a m (inr (inl j)) v d l z =
        let i = answered_epoch s t g u b nth seen op a m (sym p ∙ ap (λ w. (w.1).event) j ∙ d) (sym q ∙ ap (λ w. (w.1).outcome) j ∙ l) in (let j0 = i.0 in omega (arith, j0, z), i.1)
    epochs y u b nth seen op a m (inr (inr j)) v d l z = elim j [ ]

-- ---- a flush's end and a restart

-- the entry is no operation
abbrev NoOp : Entry → Type 0
NoOp x = (u : TxId) (b : Birth) (nth : ℕ) (seen : Option ℕ) (op : Op) → x.event ≡ OpEvent u b nth seen op → ⊥

did_before : (pre : History) (n : ℕ) (x : Entry) (ep : ℕ) (t : TxId) → NoOp x → DidNow (pre ++ (n, x) ∷ []) n ep t → DidNow pre n ep t
did_before pre n x ep t k (b, (y, i, v, a)) = at (among_append y pre ((n, x) ∷ []) i)
  where
    at : Among y pre ⊎ Among y ((n, x) ∷ []) → DidNow pre n ep t
    at (inl j) = (b, (y, j, v, a))
    at (inr (inl j)) = absurd (k t b (a.at).nth a.seen (a.at).op (ap (λ w. (w.1).event) j ∙ (a.at).is))
    at (inr (inr j)) = elim j [ ]

still : (run : ℕ) (pre : History) (n : ℕ) (x : Entry) (ep : ℕ) (s : Shard) → NoOp x → OriginsAt run pre n ep s → OriginsAt run (pre ++ (n, x) ∷ []) n ep s
still run pre n x ep s k p =
    from_known n ep _ _ _ _ (DidNow pre n ep) (DidNow (pre ++ (n, x) ∷ []) n ep) s (λ u d. p.known u (did_before pre n x ep u k d)) (raised run pre (n, x) n ep (DidNow pre n ep) s p)

traced_from : (run : ℕ) (pre : History) (n : ℕ) (x : Entry) (s t : Shard) → NoOp x → Counted t → t.run ≡ s.run → s.local.epoch ≤ t.local.epoch → OriginsAt run (pre ++ (n, x) ∷ []) n t.local.epoch t → Traced run pre n s → Traced run (pre ++ (n, x) ∷ []) n t
traced_from run pre n x s t z c r l o k =
    record { run_is = r ∙ k.run_is; counted = c; origins = o; epochs = λ y u b nth seen op a m i v d e. at y u b nth seen op a m (among_append y pre ((n, x) ∷ []) i) v d e }
  where
    at : (y : Placed) (u : TxId) (b : Birth) (nth : ℕ) (seen : Option ℕ) (op : Op) (a : Answer) (m : ℕ) → Among y pre ⊎ Among y ((n, x) ∷ []) → y.0 ≡ n → (y.1).event ≡ OpEvent u b nth seen op → (y.1).outcome ≡ Answered a m → (m ≤ t.local.epoch) × SeenIs seen m
    at y u b nth seen op a m (inl j) v d e = let i = k.epochs y u b nth seen op a m j v d e in (let j0 = i.0 in omega (arith, j0, l), i.1)
    at y u b nth seen op a m (inr (inl j)) v d e = absurd (z u b nth seen op (ap (λ w. (w.1).event) j ∙ d))
    at y u b nth seen op a m (inr (inr j)) v d e = elim j [ ]

either_least : (run own e : ℕ) (rs : List LogRecord) (b : Bool) → max own e ≤ greatest_epoch run (max own e) rs → own ≤ greatest_epoch run own rs → own ≤ greatest_epoch run (cond b (max own e) own) rs
either_least run own e rs true k l = omega (arith, k)
either_least run own e rs false k l = l

later_epoch : (s : Shard) (kept : Bool) (epoch : ℕ) (log : List LogRecord) → Restarts s (log_left s kept) epoch log → s.local.epoch < epoch
later_epoch s kept epoch log r = let a = (restarts_lead_to_one s (log_left s kept) epoch log r).0 in let b = epoch_own s.run s.local.epoch (log_left s kept) in omega (arith, a, b)

no_op : (x : Entry) (e : Event) → x.event ≡ e → ((u : TxId) (b : Birth) (nth : ℕ) (seen : Option ℕ) (op : Op) → e ≡ OpEvent u b nth seen op → ⊥) → NoOp x
no_op x e p k u b nth seen op q = k u b nth seen op (sym p ∙ q)

traced_made : (run : ℕ) (pre : History) (n : ℕ) (x : Entry) (log : List LogRecord) (s t : Shard) {e : Event} {o : Outcome} → x.event ≡ e → x.outcome ≡ o → Makes log s e o t → Brings (Requested pre) (IsOld run) e → Counted t → t.run ≡ s.run → Traced run pre n s → Traced run (pre ++ (n, x) ∷ []) n t
traced_made run pre n x log s t p q (by_event g m) w c r k = traced_event run pre n x s t p q m w c r k
traced_made run pre n x log s _ p q (by_flush m u f) w c r k =
    let z = no_op x FlushIn p (λ u b nth seen op h. absurd cc) in
    let o = from_flushed n s.local.epoch _ _ _ _ _ s m (still run pre n x s.local.epoch s z k.origins) in
    let e = o.epoch in
    traced_from run pre n x s (finish (with_durable m s)) z c r (omega (arith, e)) (subst (λ ep. OriginsAt run (pre ++ (n, x) ∷ []) n ep (finish (with_durable m s))) (sym e) o) k
traced_made run pre n x log s _ p q (by_failure m u f) w c r k =
    let z = no_op x FlushIn p (λ u b nth seen op h. absurd cc) in
    traced_from run pre n x s (put_down s) z c r (omega arith) (from_down n s.local.epoch _ _ _ _ _ s (still run pre n x s.local.epoch s z k.origins)) k
traced_made run pre n x log s _ p q (by_restart epoch kept u g) w c r k =
    let z = no_op x Restart p (λ u b nth seen op h. absurd cc) in
    let found = up_to_restart s.run epoch log in
    let l = later_epoch s kept epoch found g in
    let new = pre ++ (n, x) ∷ [] in
    traced_from run pre n x s (revived s epoch found) z c r (omega (arith, l))
    (from_revived n s.local.epoch (Did new n s.local.epoch) (Did new n epoch) (DidOrOld run new n) (Requested new) (IsOld run) (DidNow new n s.local.epoch) (DidNow new n epoch) s kept epoch found g
    (λ u d. none_yet u (did_before pre n x epoch u z d) l) (still run pre n x s.local.epoch s z k.origins)) k
  where
    none_yet : (u : TxId) → DidNow pre n epoch u → s.local.epoch < epoch → ⊥
    none_yet u (b, (y, i, v, a)) l = let j = (k.epochs y u b (a.at).nth a.seen (a.at).op a.answer epoch i v (a.at).is a.outcome).0 in omega (arith, j, l)

noted : (run : ℕ) (pre : History) (n stamp walker : ℕ) (e : Event) (o : Outcome) (s : Shard) → Counted (with_entry stamp walker e o s) → Traced run pre n s → Traced run pre n (with_entry stamp walker e o s)
noted run pre n stamp walker e o s c k =
    let p = k.origins in
    record {
      run_is = k.run_is;
      counted = c;
      origins = record { shard = p.shard; epoch = p.epoch; out = p.out; voters = p.voters; parts = p.parts; known = p.known; log = p.log; requests = p.requests };
      epochs = k.epochs;
    }

plain_counted : (stamp walker : ℕ) (e : Event) (o : Outcome) (s : Shard) → Counted (with_entry stamp walker e o s) → Counted s
plain_counted stamp walker e o s c = record { within = c.within; flying = c.flying }

pub traced_entry : (run : ℕ) (pre : History) (n : ℕ) (x : Entry) (log : List LogRecord) (s : Shard) → MayEnter log s x → Brings (Requested pre) (IsOld run) x.event → Traced run pre n s → Traced run (pre ++ (n, x) ∷ []) n (after_entry log s x)
traced_entry run pre n x log s m w k =
    let f = fronts_entry log s x k.counted m in
    let t = event_state log s x.event x.outcome in
    let c : Counted t = plain_counted x.stamp x.walker x.event x.outcome t f.counted in
    noted run (pre ++ (n, x) ∷ []) n x.stamp x.walker x.event x.outcome t f.counted
    (traced_made run pre n x log s t refl refl (makes log s x.event x.outcome m.event) w c f.run k)

-- ---- the whole history

-- a message that was sent tells of a request before it
abbrev pub RequestedBefore : History → Placed → TxId → ℕ → Type 0
RequestedBefore h x t n = (r : Placed) × (ts : List (ℕ × ℕ)) × Among r h × IsRequest t ts r × (r.0 ≡ n) × Before r x

abbrev pub SentFrom : (TxId → ℕ → Type 0) → (TxId → Type 0) → Outcome → Type 0
SentFrom Q O (Sent m) = MessageFrom Q O m
SentFrom Q O _ = ⊤

abbrev pub Says : ℕ → History → Placed → Type 0
Says run h x = SentFrom (RequestedBefore h x) (IsOld run) (x.1).outcome

sends_step : (n ep : ℕ) (D : TxId → Birth → Type 0) (A : TxId → Type 0) (Q : TxId → ℕ → Type 0) (O K : TxId → Type 0) (s t : Shard) {e : Event} {o : Outcome} → Step s e o t → Origins n ep D A Q O K s → SentFrom Q O o
sends_step n ep D A Q O K s t (sends m ms g) p = (subst (AllByRecursion (MessageFrom Q O)) g p.out).0
sends_step n ep D A Q O K s t _ p = tt

sends_happens : (n ep : ℕ) (D : TxId → Birth → Type 0) (A : TxId → Type 0) (Q : TxId → ℕ → Type 0) (O K : TxId → Type 0) (s t : Shard) {e : Event} {o : Outcome} → Happens s e o t → Origins n ep D A Q O K s → SentFrom Q O o
sends_happens n ep D A Q O K s _ (finishes {t = t} u g) p = sends_step n ep D A Q O K s t g p
sends_happens n ep D A Q O K s _ (stops u) p = tt

sends_made : (n ep : ℕ) (D : TxId → Birth → Type 0) (A : TxId → Type 0) (Q : TxId → ℕ → Type 0) (O K : TxId → Type 0) (log : List LogRecord) (s t : Shard) {e : Event} {o : Outcome} → Makes log s e o t → Origins n ep D A Q O K s → SentFrom Q O o
sends_made n ep D A Q O K log s t (by_event g m) p = sends_happens n ep D A Q O K s t m p
sends_made n ep D A Q O K log s _ (by_flush m u f) p = tt
sends_made n ep D A Q O K log s _ (by_failure m u f) p = tt
sends_made n ep D A Q O K log s _ (by_restart epoch kept u r) p = tt

sent_mono : (Q Q' : TxId → ℕ → Type 0) (O : TxId → Type 0) → ((t : TxId) (n : ℕ) → Q t n → Q' t n) → (o : Outcome) → SentFrom Q O o → SentFrom Q' O o
sent_mono Q Q' O k (Sent m) w = message_mono Q Q' O k m w
sent_mono Q Q' O k _ w = tt

pub brought : (splits : List ℕ) (before after : List (List LogRecord)) (h pre : History) (x : Placed) → Behind h pre x → Walked (Traced (run_after before)) (Says (run_after before) h) splits before after pre → (e : Event) → WasSent pre e → Brings (Requested pre) (IsOld (run_after before)) e
brought splits before after h pre x b w (Deliver m stamp) (n, y, i, s, o) =
    let j = is_among n y pre i in
    message_mono (RequestedBefore h (n, y)) (Requested pre) (IsOld (run_after before))
    (λ t k q. (q.0, q.1, b.earlier q.0 q.2 (before_then q.0 (n, y) x q.5 (b.turn (n, y) j).1), q.3, q.4)) m (subst (SentFrom (RequestedBefore h (n, y)) (IsOld (run_after before))) o (w.said (n, y) j))
brought splits before after h pre x b w _ s = tt

pub traced_steps : (splits : List ℕ) (before after : List (List LogRecord)) (h : History) → Legal splits before h after → Steps (Traced (run_after before)) (Says (run_after before) h) splits before after h
traced_steps splits before after h l pre e w x =
    let s = state_at before after e.0 pre in
    let k = w.states e.0 x.below in
    let run = run_after before in
    let f = traced_entry run pre e.0 e.1 (log_of after e.0) s (x.split).enters (brought splits before after h pre e x.behind w (e.1).event x.sent) k in (
      subst (Traced run (pre ++ e ∷ []) e.0) (sym (x.split).next) f,
      sent_mono (Requested pre) (RequestedBefore h e) (IsOld run) (λ t n q. let b = (x.behind).turn q.0 q.2 in (q.0, q.1, b.0, q.3, q.4, b.1)) (e.1).outcome
          (sends_made e.0 s.local.epoch _ _ (Requested pre) _ _ (log_of after e.0) s (event_state (log_of after e.0) s (e.1).event (e.1).outcome) (makes (log_of after e.0) s (e.1).event (e.1).outcome ((x.split).enters).event) k.origins),
      (λ n m d q. traced_other run pre e n (state_at before after n pre) d q),
    )

-- ---- the logs at opening: all is of earlier runs

old_record : (n run shard : ℕ) (D : TxId → Type 0) (Q : TxId → ℕ → Type 0) (r : LogRecord) → n < run → RunFits n r → RecordFrom (λ t. D t ⊎ IsOld run t) Q (IsOld run) shard r
old_record n run shard D Q (Update tx key before after) l f = inr (omega (arith, l, f))
old_record n run shard D Q (Clr tx next key after) l f = inr (omega (arith, l, f))
old_record n run shard D Q (PrepareRecord tx home ps) l f = (inr (omega (arith, l, f)), inr (omega (arith, l, f)))
old_record n run shard D Q (Commit tx []) l f = inr (omega (arith, l, f))
old_record n run shard D Q (Commit tx (p ∷ ps)) l f = inr (omega (arith, l, f))
old_record n run shard D Q (Abort tx) l f = inr (omega (arith, l, f))
old_record n run shard D Q (End tx) l f = inr (omega (arith, l, f))
old_record n run shard D Q (RestartRecord r epoch) l f = tt
old_record n run shard D Q (Add tx key by) l f = inr (omega (arith, l, f))
old_record n run shard D Q (Unadd tx next key by) l f = inr (omega (arith, l, f))
old_record n run shard D Q Forgotten l f = tt
old_record n run shard D Q (Check run' epoch' upto base) l f = tt

old_log : (splits : List ℕ) (before : List (List LogRecord)) (n : ℕ) → may_open splits before ≡ true → n < length before → AllFrom (DidOrOld (run_after before) [] n) (Requested []) (IsOld (run_after before)) n (log_of before n)
old_log splits before n m l =
    let p = and_parts (all_logs_from 0 (log_passes splits) before) (is_none (apart before)) m in
    let q = each_passes (log_passes splits) 0 n before p.0 l in
    let d = none_of (disorder (0 + n) (log_of before n)) (and_parts (list_all (passes_file_rules splits (0 + n)) (log_of before n)) _ q).1 in
    all_mono (RunFits (greatest_run (log_of before n))) _ (λ r. old_record (greatest_run (log_of before n)) (run_after before) n (DidAny [] n) (Requested []) r (below_next_run before n)) (log_of before n) (runs_in_order (0 + n) (log_of before n) d)

module _ {splits : List ℕ} {before after : List (List LogRecord)} {h : History} (l : LegalFrom splits before h after) where
  pub traced_opens : (n : ℕ) → n < shard_count splits → Traced (run_after before) [] n (start_of before n)
  traced_opens n i = record {
    run_is = refl;
    counted = opened_counted n (run_after before) (log_of before n);
    origins = from_opened n (run_after before) (Did [] n 0) (DidOrOld (run_after before) [] n) (Requested []) (IsOld (run_after before)) (DidNow [] n 0) (log_of before n) (λ t d. elim (d.1).1 [ ])
        (old_log splits before n l.opens (log_found l n i));
    epochs = λ y t b nth seen op a k j. elim j [ ];
  }

  -- along each front of a legal history
  pub traced_front : (pre rest : History) → pre ++ rest ≡ h → Walked (Traced (run_after before)) (Says (run_after before) h) splits before after pre
  traced_front pre rest q = walked_front (Traced (run_after before)) (Says (run_after before) h) splits before after h pre rest l.legal q traced_opens (traced_steps splits before after h l.legal)
