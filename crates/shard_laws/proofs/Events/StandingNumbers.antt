-- The numbers that a shard's journal keeps of a transaction of this run are those of its operations whose writes hold.
use Rattle.std.proofs.Common.{◌≡◌, ℕ, ◌<◌, Bool, true, false, cond, not, ◌&&◌, nat_lt, nat_le, List, [], ◌∷◌, ◌++◌, map, Option, Some, None, is_some, ◌==◌, refl, sym, ap, subst, ◌∙◌, arith, ◌+◌, length}
use Rattle.std.specs.List.{AllByRecursion, filter}
use Rattle.std.proofs.lemmas.Bool.{both_ways, cond-true, cond-false, ltb-true, ltb-false, le-leb, lt-leb}
use Rattle.clv_base.specs.declared.names.TxId.{TxId}
use Rattle.clv_base.specs.declared.names.Birth.{Birth}
use Rattle.clv_base.specs.declared.changes.Change.{Change}
use Rattle.clv_base.specs.declared.values.Value.{Value as ValueType}
use Rattle.clv_base.specs.declared.logs.LogRecord.{LogRecord}
use Rattle.clv_base.specs.declared.state.Stage.{Stage}
use Rattle.clv_base.specs.declared.state.Stage.TheVariants.{Active, Closed, Gone}
use Rattle.clv_base.specs.declared.ops.Op.{Op}
use Rattle.clv_base.specs.declared.ops.Op.TheVariants.{Get, Put, Del, Scan, Add}
use Rattle.clv_base.specs.declared.ops.Answer.TheVariants.{Value, Added}
use Rattle.clv_base.specs.declared.events.Event.{Event}
use Rattle.clv_base.specs.declared.events.Event.TheVariants.{Op as OpEvent, RollTo, Request as RequestEvent, Look, Drop, Send, Deliver, Remind, FlushOut, FlushIn, Stop, Restart as RestartEvent}
use Rattle.clv_base.specs.declared.events.Outcome.{Outcome}
use Rattle.clv_base.specs.declared.events.Outcome.TheVariants.{Down, Up}
use Rattle.clv_base.specs.declared.events.Entry.{Entry}
use Rattle.clv_base.specs.Orders.{tx_same, tx_in}
use Rattle.clv_base.specs.Maps.{is_number}
use Rattle.clv_base.specs.Backs.{has_written, numbers_after, numbers_from, standing_numbers, count_after}
use Rattle.clv_base.specs.Needs.{answer_of, writes_of, value_at, Records}
use Rattle.clv_base.specs.State.{Shard}
use Rattle.clv_base.specs.Undo.{stage_of}
use Rattle.clv_base.specs.OneShard.{op_seen, op_by_stage, op_decided, op_granted, seen_fits}
use Rattle.clv_base.specs.declared.modes.Decision.{Decision}
use Rattle.clv_base.specs.declared.modes.Decision.TheVariants.{Grant, Wait, Die}
use Rattle.clv_base.specs.Locks.{decide}
use Rattle.clv_base.specs.Needs.{needs_of}
use Rattle.clv_base.specs.Events.{Reply, QuietBeforeWorn, QuietAfterWorn, Does, op_event, roll_by_stage, roll_event, happen_up, happen}
use Rattle.clv_base.proofs.SameNames.{tx_true, tx_eq, tx_ne}
use Rattle.law_base.specs.Items.{Item, Deed, Did, WentBack, is_beyond, held, told, wrote}
use Rattle.shard_laws.specs.OneShard.{Deeds, deeds_of, with_one, new_deed, Leads, opens, happens, lands, others_ask, revives, MayServe, found_items}
use Rattle.shard_laws.proofs.Keeping.DeedsThatHold.{held_push, held_chosen}
use Rattle.shard_laws.proofs.Keeping.NumbersOfWrites.{Numbered, numbered, numbered_on, numbers_in, numbered_push}
use Rattle.shard_laws.proofs.Events.EventsKeepTheFrame.{happens_here, lands_here}
use Rattle.shard_laws.proofs.Events.WhoOperatesNow.{push_own, push_other}
use Rattle.law_base.proofs.Lists.{all_mono, all_filter, all_of}
use Rattle.clv_base.specs.Logs.{in_doubt, is_prepare_of}
use Rattle.clv_base.specs.Restarts.{greatest_run}
use Rattle.shard_laws.proofs.Restarts.OpeningKeeps.{items_doubted, doubt_of}
use Rattle.protocol_laws.proofs.LogsInOrder.OneRecordMore.{own_prepare}
use Rattle.protocol_laws.proofs.LogsInOrder.RunsAreOfRestarts.{record_fits}
use Rattle.protocol_laws.proofs.LogsInOrder.{in_order}

-- the numbers of a transaction's operations whose writes hold
abbrev pub numbers_held : TxId → List Deed → List ℕ
numbers_held t ds = numbers_in (numbered (held (deeds_of t ds)) [])

abbrev pub NumbersAre : List Deed → Shard → Type 0
NumbersAre all s = (t : TxId) → t.run ≡ s.run → standing_numbers t s.journal ≡ numbers_held t all

-- ---- one deed more

-- an operation with its own answer wrote where its item says so
answer_writes : (o : Op) (rs : Records) → has_written o (answer_of o rs) ≡ is_some (writes_of o (told (answer_of o rs)))
answer_writes (Get k) rs = refl
answer_writes (Put k v) rs = refl
answer_writes (Del k) rs = at (value_at k rs)
  where
    at : (v : Option ValueType) → has_written (Del k) (Value v) ≡ is_some (writes_of (Del k) v)
    at None = refl
    at (Some v) = refl
answer_writes (Scan lo hi) rs = refl
answer_writes (Add k n) rs = at (is_number (value_at k rs))
  where
    at : (b : Bool) → has_written (Add k n) (Added b) ≡ is_some (writes_of (Add k n) (told (Added b)))
    at true = refl
    at false = refl

number_on : (x : Item) (o : Option (ℕ × Change)) (zs : List Numbered) → numbers_in (numbered_on x o zs) ≡ cond (is_some o) (x.number ∷ numbers_in zs) (numbers_in zs)
number_on x None zs = refl
number_on x (Some w) zs = refl

did_numbers : (u : TxId) (all : List Deed) (x : Item) → has_written x.op x.answer ≡ is_some (wrote x) → numbers_held u (all ++ Did x ∷ []) ≡ cond (tx_same u x.tx && has_written x.op x.answer) (x.number ∷ numbers_held u all) (numbers_held u all)
did_numbers u all x wrote_so = at (tx_same u x.tx) refl
  where
    at : (b : Bool) → tx_same u x.tx ≡ b → numbers_held u (all ++ Did x ∷ []) ≡ cond (b && has_written x.op x.answer) (x.number ∷ numbers_held u all) (numbers_held u all)
    at true e =
        ap (λ l. numbers_in (numbered (held l) [])) (push_own (Did x) x.tx refl u (tx_true u x.tx e) all)
        ∙ ap (λ l. numbers_in (numbered l [])) (held_push (deeds_of u all) (Did x))
        ∙ ap numbers_in (numbered_push (held (deeds_of u all)) x [])
        ∙ number_on x (wrote x) (numbered (held (deeds_of u all)) [])
        ∙ ap (λ b. cond b (x.number ∷ numbers_held u all) (numbers_held u all)) (sym wrote_so)
    at false e = ap (λ l. numbers_in (numbered (held l) [])) (push_other (Did x) u (λ s. both_ways _ e (tx_eq u x.tx (sym s))) all)

-- a going back leaves the numbers up to its own
le_is : (n upto : ℕ) → nat_le n upto ≡ not (nat_lt upto n)
le_is n upto = at (nat_lt upto n) refl
  where
    at : (b : Bool) → nat_lt upto n ≡ b → nat_le n upto ≡ not b
    at true e = lt-leb n upto (ltb-true upto n e)
    at false e = le-leb n upto (ltb-false upto n e)

back_from : (tx : TxId) (upto : ℕ) (xs : List Item) (ys zs : List Numbered) → AllByRecursion (λ x. tx_same x.tx tx ≡ true) xs → numbers_in ys ≡ filter (λ n. nat_le n upto) (numbers_in zs)
    → numbers_in (numbered (filter (λ x. not (is_beyond tx upto x)) xs) ys) ≡ filter (λ n. nat_le n upto) (numbers_in (numbered xs zs))
back_from tx upto [] ys zs own e = e
back_from tx upto (x ∷ xs) ys zs own e =
    ap numbers_in (choose (is_beyond tx upto x)) ∙ at (is_beyond tx upto x) (ap (λ b. b && nat_lt upto x.number) own.0) (wrote x) (λ us vs. back_from tx upto xs us vs own.1)
  where
    choose : (b : Bool) → numbered (cond (not b) (x ∷ filter (λ z. not (is_beyond tx upto z)) xs) (filter (λ z. not (is_beyond tx upto z)) xs)) ys
        ≡ cond b (numbered (filter (λ z. not (is_beyond tx upto z)) xs) ys) (numbered (filter (λ z. not (is_beyond tx upto z)) xs) (numbered_on x (wrote x) ys))
    choose true = refl
    choose false = refl

    at : (b : Bool) → b ≡ nat_lt upto x.number → (o : Option (ℕ × Change))
        → ((us vs : List Numbered) → numbers_in us ≡ filter (λ n. nat_le n upto) (numbers_in vs) → numbers_in (numbered (filter (λ z. not (is_beyond tx upto z)) xs) us) ≡ filter (λ n. nat_le n upto) (numbers_in (numbered xs vs)))
        → numbers_in (cond b (numbered (filter (λ z. not (is_beyond tx upto z)) xs) ys) (numbered (filter (λ z. not (is_beyond tx upto z)) xs) (numbered_on x o ys))) ≡ filter (λ n. nat_le n upto) (numbers_in (numbered xs (numbered_on x o zs)))
    at true f None more = more ys zs e
    at true f (Some w) more =
        more ys ((record { lsn = x.lsn; tx = x.tx; key = w.0; change = w.1 }, x.number) ∷ zs)
        (e ∙ sym (cond-false (nat_le x.number upto) (x.number ∷ filter (λ n. nat_le n upto) (numbers_in zs)) (filter (λ n. nat_le n upto) (numbers_in zs)) (le_is x.number upto ∙ ap not (sym f))))
    at false f None more = more ys zs e
    at false f (Some w) more =
        more ((record { lsn = x.lsn; tx = x.tx; key = w.0; change = w.1 }, x.number) ∷ ys) ((record { lsn = x.lsn; tx = x.tx; key = w.0; change = w.1 }, x.number) ∷ zs)
        (ap (λ l. x.number ∷ l) e ∙ sym (cond-true (nat_le x.number upto) (x.number ∷ filter (λ n. nat_le n upto) (numbers_in zs)) (filter (λ n. nat_le n upto) (numbers_in zs)) (le_is x.number upto ∙ ap not (sym f))))

pub back_numbers : (u : TxId) (all : List Deed) (tx : TxId) (number upto : ℕ) → numbers_held u (all ++ WentBack tx number upto ∷ []) ≡ cond (tx_same u tx) (filter (λ n. nat_le n upto) (numbers_held u all)) (numbers_held u all)
back_numbers u all tx number upto = at (tx_same u tx) refl
  where
    at : (b : Bool) → tx_same u tx ≡ b → numbers_held u (all ++ WentBack tx number upto ∷ []) ≡ cond b (filter (λ n. nat_le n upto) (numbers_held u all)) (numbers_held u all)
    at true e =
        ap (λ l. numbers_in (numbered (held l) [])) (push_own (WentBack tx number upto) tx refl u (tx_true u tx e) all)
        ∙ ap (λ l. numbers_in (numbered l [])) (held_push (deeds_of u all) (WentBack tx number upto))
        ∙ back_from tx upto (held (deeds_of u all)) [] [] (subst (λ l. AllByRecursion (λ x. tx_same x.tx tx ≡ true) l) (sym (held_chosen (λ t. tx_same t u) all)) (all_mono _ _ (λ x h. subst (λ z. tx_same x.tx z ≡ true) (tx_true u tx e) h.1) (filter (λ x. tx_same x.tx u) (held all)) (all_filter (λ x. Unit {0}) (λ x. tx_same x.tx u) (held all) (all_of _ (λ x. tt) (held all))))) refl
    at false e = ap (λ l. numbers_in (numbered (held l) [])) (push_other (WentBack tx number upto) u (λ s. both_ways _ e (tx_eq u tx (sym s))) all)

-- ---- one event more

abbrev NumbersAfter : TxId → List Deed → Shard → Event → Reply → Type 0
NumbersAfter u all s e (QuietBeforeWorn o) = Unit {0}
NumbersAfter u all s e (QuietAfterWorn o) = Unit {0}
NumbersAfter u all s e (Does o t) = numbers_after u e o (numbers_held u all) ≡ numbers_held u (with_one all (new_deed s e o))

any_reply : (u : TxId) (all : List Deed) (s : Shard) (e : Event) → ((o : Outcome) → numbers_after u e o (numbers_held u all) ≡ numbers_held u (with_one all (new_deed s e o))) → (r : Reply) → NumbersAfter u all s e r
any_reply u all s e k (QuietBeforeWorn o) = tt
any_reply u all s e k (QuietAfterWorn o) = tt
any_reply u all s e k (Does o t) = k o

granted : (u : TxId) (all : List Deed) (s : Shard) (tx : TxId) (birth : Birth) (nth : ℕ) (seen : Option ℕ) (op : Op) (b : Bool) → NumbersAfter u all s (OpEvent tx birth nth seen op) (op_event s (op_granted s.local tx birth op b))
granted u all s tx birth nth seen op true = tt
granted u all s tx birth nth seen op false = sym (did_numbers u all (record { tx = tx; number = nth; op = op; answer = answer_of op s.local.records; lsn = 0 + length s.local.log }) (answer_writes op s.local.records))

by_decision : (u : TxId) (all : List Deed) (s : Shard) (tx : TxId) (birth : Birth) (nth : ℕ) (seen : Option ℕ) (op : Op) (d : Decision) → NumbersAfter u all s (OpEvent tx birth nth seen op) (op_event s (op_decided s.local tx birth op d))
by_decision u all s tx birth nth seen op Grant = granted u all s tx birth nth seen op _
by_decision u all s tx birth nth seen op (Wait y) = tt
by_decision u all s tx birth nth seen op (Die y) = refl

by_stage : (u : TxId) (all : List Deed) (s : Shard) (tx : TxId) (birth : Birth) (nth : ℕ) (seen : Option ℕ) (op : Op) (o : Option Stage) → NumbersAfter u all s (OpEvent tx birth nth seen op) (op_event s (op_by_stage s.local tx birth op o))
by_stage u all s tx birth nth seen op None = by_decision u all s tx birth nth seen op (decide tx birth (needs_of op s.local.records) s.local.locks)
by_stage u all s tx birth nth seen op (Some Active) = by_decision u all s tx birth nth seen op (decide tx birth (needs_of op s.local.records) s.local.locks)
by_stage u all s tx birth nth seen op (Some Closed) = refl
by_stage u all s tx birth nth seen op (Some (Gone None)) = refl
by_stage u all s tx birth nth seen op (Some (Gone (Some d))) = refl

operates : (u : TxId) (all : List Deed) (s : Shard) (tx : TxId) (birth : Birth) (nth : ℕ) (seen : Option ℕ) (op : Op) (b : Bool) → NumbersAfter u all s (OpEvent tx birth nth seen op) (op_event s (op_seen s.shard s.local tx birth seen op b))
operates u all s tx birth nth seen op true = by_stage u all s tx birth nth seen op (stage_of s.local tx)
operates u all s tx birth nth seen op false = refl

rolls_stage : (u : TxId) (all : List Deed) (s : Shard) (tx : TxId) (nth seen upto n : ℕ) (o : Option Stage) → NumbersAfter u all s (RollTo tx nth seen upto) (roll_by_stage s tx n o)
rolls_stage u all s tx nth seen upto n None = sym (back_numbers u all tx nth upto)
rolls_stage u all s tx nth seen upto n (Some Active) = sym (back_numbers u all tx nth upto)
rolls_stage u all s tx nth seen upto n (Some Closed) = refl
rolls_stage u all s tx nth seen upto n (Some (Gone None)) = refl
rolls_stage u all s tx nth seen upto n (Some (Gone (Some d))) = refl

rolls : (u : TxId) (all : List Deed) (s : Shard) (tx : TxId) (nth seen upto : ℕ) (b : Bool) → NumbersAfter u all s (RollTo tx nth seen upto) (roll_event s tx seen upto b)
rolls u all s tx nth seen upto true = rolls_stage u all s tx nth seen upto (count_after upto (standing_numbers tx s.journal)) (stage_of s.local tx)
rolls u all s tx nth seen upto false = refl

up : (u : TxId) (all : List Deed) (s : Shard) (e : Event) → NumbersAfter u all s e (happen_up s e)
up u all s (OpEvent tx birth nth seen op) = operates u all s tx birth nth seen op (seen_fits s.local.epoch seen)
up u all s (RollTo tx nth seen upto) = rolls u all s tx nth seen upto (seen == s.local.epoch)
up u all s (RequestEvent tx touched) = any_reply u all s (RequestEvent tx touched) (λ o. refl) _
up u all s (Look tx) = any_reply u all s (Look tx) (λ o. refl) _
up u all s (Drop tx) = any_reply u all s (Drop tx) (λ o. refl) _
up u all s Send = any_reply u all s Send (λ o. refl) _
up u all s (Deliver m stamp) = any_reply u all s (Deliver m stamp) (λ o. refl) _
up u all s Remind = any_reply u all s Remind (λ o. refl) _
up u all s FlushOut = any_reply u all s FlushOut (λ o. refl) _
up u all s FlushIn = tt
up u all s Stop = refl
up u all s RestartEvent = tt

either : (u : TxId) (all : List Deed) (s : Shard) (e : Event) (b : Bool) → NumbersAfter u all s e (elim b [ true ↦ happen_up s e | false ↦ QuietBeforeWorn Down ])
either u all s e true = up u all s e
either u all s e false = tt

after_event : (u : TxId) (all : List Deed) (s : Shard) (e : Event) (o : Outcome) (t : Shard) → happen s e ≡ Does o t → numbers_after u e o (numbers_held u all) ≡ numbers_held u (with_one all (new_deed s e o))
after_event u all s e o t eq = subst (NumbersAfter u all s e) eq (either u all s e s.is_up)

-- ---- a journal with one entry more

numbers_push : (u : TxId) (ns : List ℕ) (js : List Entry) (j : Entry) → numbers_from u ns (js ++ j ∷ []) ≡ numbers_after u j.event j.outcome (numbers_from u ns js)
numbers_push u ns [] j = refl
numbers_push u ns (i ∷ js) j = numbers_push u (numbers_after u i.event i.outcome ns) js j

-- what a log is found with is of earlier runs
none_found : (shard run : ℕ) (before : List LogRecord) → MayServe shard run before → (u : TxId) → u.run ≡ run → deeds_of u (map (λ x. Did x) (found_items shard before)) ≡ []
none_found shard run before may u own = from (found_items shard before) (all_mono _ _ (λ x i. older x.tx i) (found_items shard before) (items_doubted shard run before may))
  where
    older : (t : TxId) → tx_in t (in_doubt shard before) ≡ true → t.run < run
    older t i = let l = record_fits (greatest_run before) t (is_prepare_of t) (own_prepare t) before (in_order shard before may.0).runs (doubt_of shard run before may t i).prepared in let m = may.1 in omega (arith, l, m)

    below : (n : ℕ) → n ≡ run → n < run → ⊥
    below n e l = omega (arith, e, l)

    from : (xs : List Item) → AllByRecursion (λ x. (x.tx).run < run) xs → deeds_of u (map (λ x. Did x) xs) ≡ []
    from [] all = refl
    from (x ∷ xs) all =
        cond-false (tx_same x.tx u) (Did x ∷ deeds_of u (map (λ y. Did y) xs)) (deeds_of u (map (λ y. Did y) xs)) (tx_ne x.tx u (λ s. below (x.tx).run (ap (λ z. z.run) s ∙ own) all.0)) ∙ from xs all.1

pub numbers_are : (shard run : ℕ) (before : List LogRecord) (d : Deeds) (s : Shard) → Leads shard run before d s → NumbersAre d.done s
numbers_are shard run before _ _ (opens may) u own = ap (λ l. numbers_in (numbered (held l) [])) (sym (none_found shard run before may u own))
numbers_are shard run before _ _ (happens {d} {s} e o t stamp walker leads may eq) u own =
    let f = happens_here s e o t eq in
    numbers_push u [] t.journal (record { stamp = stamp; walker = walker; event = e; outcome = o })
    ∙ ap (λ l. numbers_after u e o (standing_numbers u l)) (ap (λ z. z.1.1) f)
    ∙ ap (numbers_after u e o) (numbers_are shard run before d s leads u (own ∙ ap (λ z. z.1.0) f))
    ∙ after_event u d.done s e o t eq
numbers_are shard run before _ _ (lands {d} {s} n pushed o t stamp walker leads flies eq) u own =
    let f = lands_here s n pushed o t eq in
    numbers_push u [] t.journal (record { stamp = stamp; walker = walker; event = FlushIn; outcome = o })
    ∙ ap (λ l. standing_numbers u l) (ap (λ z. z.1.1) f)
    ∙ numbers_are shard run before d s leads u (own ∙ ap (λ z. z.1.0) f)
numbers_are shard run before _ _ (others_ask {d} {s} t leads new) u own = numbers_are shard run before d s leads u own
numbers_are shard run before _ _ (revives {d} {s} kept epoch log stamp walker leads down fits) u own =
    numbers_push u [] s.journal (record { stamp = stamp; walker = walker; event = RestartEvent; outcome = Up epoch }) ∙ numbers_are shard run before d s leads u own
