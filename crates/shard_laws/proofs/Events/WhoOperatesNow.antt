-- Of a transaction that does an operation now: it is neither committed, aborted nor prepared, and what is told of it.
use Rattle.std.proofs.Common.{◌≡◌, ℕ, ◌⊎◌, inl, inr, ⊎_elim, Bool, true, false, cond, List, [], ◌∷◌, ◌++◌, Option, Some, None, refl, sym, ap, subst, ◌∙◌, length, ◌+◌}
use Rattle.std.specs.List.{AllByRecursion, filter, list_any}
use Rattle.std.proofs.lemmas.Bool.{both_ways, cond-true, cond-false, false_from_ne_true}
use Rattle.clv_base.specs.declared.names.TxId.{TxId}
use Rattle.clv_base.specs.declared.names.Birth.{Birth}
use Rattle.clv_base.specs.declared.logs.LogRecord.{LogRecord}
use Rattle.clv_base.specs.declared.logs.LogRecord.TheVariants.{Update, Add}
use Rattle.clv_base.specs.LogRules.{before_restart}
use Rattle.shard_laws.proofs.Order.RecordByRecord.{unwritten_before}
use Rattle.clv_base.specs.declared.state.Stage.{Stage}
use Rattle.clv_base.specs.declared.state.Stage.TheVariants.{Active, Closed, Gone}
use Rattle.clv_base.specs.declared.state.Held.{Held}
use Rattle.clv_base.specs.Orders.{Table, tx_same, tx_in, tx_get}
use Rattle.clv_base.specs.declared.changes.Change.{Change}
use Rattle.clv_base.specs.declared.changes.Change.TheVariants.{Sets, Adds}
use Rattle.clv_base.specs.Logs.{committed_in, wrote_in, prepared_in, aborted_in, has_standing, standing}
use Rattle.clv_base.specs.State.{Local, Shard, is_present}
use Rattle.clv_base.specs.Undo.{stage_of}
use Rattle.clv_base.specs.OneShard.{OpDies, locked, written, rolled_back_if, without_part}
use Rattle.clv_base.specs.Events.{op_event}
use Rattle.law_base.specs.Items.{Deed, on_top}
use Rattle.clv_base.proofs.SameNames.{tx_eq, tx_ne, or_right}
use Rattle.law_base.proofs.Tables.{stage_by}
use Rattle.law_base.proofs.Commits.{uncommitted_append}
use Rattle.shard_laws.proofs.Keeping.WhatOneShardKeeps.{View, Past, Known}
use Rattle.clv_base.specs.declared.ops.Op.{Op}
use Rattle.clv_base.specs.declared.causes.AbortCause.{AbortCause}
use Rattle.clv_base.specs.declared.events.Event.TheVariants.{Op as OpEvent}
use Rattle.clv_base.specs.declared.events.Outcome.TheVariants.{Dead}
use Rattle.shard_laws.proofs.Keeping.WhatOneShardKeeps.{view_of}
use Rattle.shard_laws.specs.OneShard.{Fresh, deeds_of, doer}
use Rattle.law_base.proofs.Stages.{active_not_closed}
use Rattle.shard_laws.proofs.Keeping.GrantingKeeps.{log_by}
use Rattle.shard_laws.specs.OneShard.{is_doomed}
use Rattle.shard_laws.proofs.Keeping.FallenAndLost.{Falls, falls_more}
use Rattle.shard_laws.proofs.Events.DueKeeps.{did}
use Rattle.shard_laws.proofs.Events.DueKeeps.{Sound, After, at_once, rolled}
use Rattle.law_base.proofs.Names.{MayStand, none_closed}
use Rattle.shard_laws.proofs.Events.KeptAfterReplies.{Keeps_reply, ends}
use Rattle.law_base.proofs.Standing.{standing_append}

pub dies_if : (all : List Deed) (g : Past) (s : Shard) (tx : TxId) (b : Bool) → Sound all g s → (b ≡ true → committed_in s.local.log tx ≡ false) → After all g (record s { local = rolled_back_if b tx s.local })
dies_if all g s tx true h open_ = rolled all g s tx h (open_ refl)
dies_if all g s tx false h open_ = at_once all g (record s { local = s.local }) h

present_open : (all : List Deed) (g : Past) (s : Shard) (tx : TxId) → Sound all g s → (stage_of s.local tx ≡ Some Closed → ⊥) → is_present (stage_of s.local tx) ≡ true → committed_in s.local.log tx ≡ false
present_open all g s tx h not_closed e = at (stage_of s.local tx) refl e
  where
    at : (o : Option Stage) → stage_of s.local tx ≡ o → is_present o ≡ true → committed_in s.local.log tx ≡ false
    at None f e = absurd (both_ways false refl e)
    at (Some Active) f e = h.kept.uncommitted tx f
    at (Some Closed) f e = absurd (not_closed f)
    at (Some (Gone d)) f e = absurd (both_ways false refl e)

pub dies : (all : List Deed) (g : Past) (s : Shard) (tx : TxId) (birth : Birth) (nth : ℕ) (seen : Option ℕ) (op : Op) (c : AbortCause) → Sound all g s → (stage_of s.local tx ≡ Some Closed → ⊥) → Keeps_reply all g s (OpEvent tx birth nth seen op) (op_event s (OpDies c (without_part tx s.local)))
dies all g s tx birth nth seen op c h not_closed =
    ends all g s (record s { local = without_part tx s.local }) (OpEvent tx birth nth seen op) (Dead c) (refl, refl, refl) refl (dies_if all g s tx (is_present (stage_of s.local tx)) h (present_open all g s tx h not_closed))

-- the part of one that does an operation now
pub stands_now : (g : Past) (s : Shard) (tx : TxId) (birth : Birth) → ((h : Held) → tx_get tx s.local.parts ≡ Some h → h.birth ≡ birth) → (stage_of s.local tx ≡ None) ⊎ (stage_of s.local tx ≡ Some Active) → MayStand s.local.parts tx birth
stands_now g s tx birth may o = at (tx_get tx s.local.parts) refl o
  where
    some_stage : (a b : Stage) → Some a ≡ Some b → a ≡ b
    some_stage a b e = cc

    some_none : (a : Stage) → Some a ≡ None → ⊥
    some_none a e = absurd cc

    at : (x : Option Held) → tx_get tx s.local.parts ≡ x → (stage_by x ≡ None) ⊎ (stage_by x ≡ Some Active) → MayStand s.local.parts tx birth
    at None e f = inl e
    at (Some h) e f = inr (h, e, may h e, ⊎_elim (λ n. absurd (some_none h.stage n)) (λ a. some_stage h.stage Active a) f)

pub unfallen_now : (all : List Deed) (g : Past) (s : Shard) (tx : TxId) → Sound all g s → stage_of s.local tx ≡ Some Active → tx_in tx g.fell ≡ false
unfallen_now all g s tx h act = false_from_ne_true _ (λ i. both_ways _ (h.kept.prepared.unprepared tx act) (h.falls.back tx i (ap is_present act)))

-- who does an operation is neither committed, aborted nor prepared, and wrote nothing before the last RESTART
pub record NewHere (g : Past) (s : Shard) (tx : TxId) : Type 0 where
  pub open_ : committed_in s.local.log tx ≡ false
  pub unprepared : prepared_in s.local.log tx ≡ false
  pub unaborted : aborted_in s.local.log tx ≡ false
  pub unwritten : wrote_in (before_restart [] s.local.log) tx ≡ false
  pub unfallen : tx_in tx g.fell ≡ false
  pub undoomed : is_doomed (stage_of s.local tx) ≡ false
  pub unclosed : stage_of s.local tx ≡ Some Closed → ⊥

pub fresh_now : {told : List TxId} (all : List Deed) (g : Past) (s : Shard) (tx : TxId) (birth : Birth) → Sound all g s → (tx_get tx s.local.parts ≡ None → Fresh (did all told g) s tx) → (stage_of s.local tx ≡ None) ⊎ (stage_of s.local tx ≡ Some Active) → NewHere g s tx
fresh_now all g s tx birth h may o =
    let k = h.order.ordered in
    ⊎_elim
    (λ n. let f = may (none_part (tx_get tx s.local.parts) n) in
    record { open_ = f.uncommitted; unprepared = f.unprepared; unaborted = f.unaborted; unwritten = unwritten_before s.local.log tx f.unwritten; unfallen = f.unfallen; undoomed = ap is_doomed n; unclosed = λ c. none_closed (sym n ∙ c) })
    (λ a. record { open_ = h.kept.uncommitted tx a; unprepared = h.kept.prepared.unprepared tx a; unaborted = k.unaborted tx (ap is_present a); unwritten = k.new tx a; unfallen = unfallen_now all g s tx h a; undoomed = ap is_doomed a; unclosed = λ c. active_not_closed (sym a ∙ c) })
    o
  where
    none_part : (x : Option Held) → stage_by x ≡ None → x ≡ None
    none_part None e = refl
    none_part (Some h) e = absurd cc

abbrev pub Written : Type 0
Written = Option (ℕ × Change)

pub written_parts : (tx : TxId) (w : Written) (u : Local) → (written tx w u).parts ≡ u.parts
written_parts tx None u = refl
written_parts tx (Some w) u = refl

pub written_open : (tx : TxId) (w : Written) (u : Local) (t : TxId) → committed_in u.log t ≡ false → committed_in (written tx w u).log t ≡ false
written_open tx None u t e = e
written_open tx (Some (key, Sets before after)) u t e = uncommitted_append u.log (Update tx key before after ∷ []) t e refl
written_open tx (Some (key, Adds by)) u t e = uncommitted_append u.log (Add tx key by ∷ []) t e refl

filter_push : (f : Deed → Bool) (xs : List Deed) (x : Deed) → f x ≡ true → filter f (xs ++ x ∷ []) ≡ filter f xs ++ x ∷ []
filter_push f [] x e = cond-true (f x) (x ∷ []) [] e
filter_push f (y ∷ ys) x e = ap (λ l. cond (f y) (y ∷ l) l) (filter_push f ys x e) ∙ at (f y)
  where
    at : (b : Bool) → cond b (y ∷ (filter f ys ++ x ∷ [])) (filter f ys ++ x ∷ []) ≡ cond b (y ∷ filter f ys) (filter f ys) ++ x ∷ []
    at true = refl
    at false = refl

written_standing : (tx : TxId) (w : Written) (u : Local) → standing (written tx w u).log ≡ on_top tx (0 + length u.log) w (standing u.log)
written_standing tx None u = refl
written_standing tx (Some (key, Sets before after)) u = standing_append 0 u.log (Update tx key before after ∷ []) []
written_standing tx (Some (key, Adds by)) u = standing_append 0 u.log (Add tx key by ∷ []) []

pub written_stands : (tx : TxId) (w : Written) (u : Local) (t : TxId) → has_standing u.log t ≡ true → has_standing (written tx w u).log t ≡ true
written_stands tx w u t e = ap (λ ws. list_any (λ x. tx_same t x.tx) ws) (written_standing tx w u) ∙ at w
  where
    at : (w : Written) → list_any (λ x. tx_same t x.tx) (on_top tx (0 + length u.log) w (standing u.log)) ≡ true
    at None = e
    at (Some x) = or_right (tx_same t tx) _ e

-- the deeds of a transaction, with a new one
pub push_own : (x : Deed) (tx : TxId) → doer x ≡ tx → (u : TxId) → u ≡ tx → (xs : List Deed) → deeds_of u (xs ++ x ∷ []) ≡ deeds_of u xs ++ x ∷ []
push_own x tx own u e xs = filter_push (λ y. tx_same (doer y) u) xs x (tx_eq (doer x) u (own ∙ sym e))

pub push_other : (x : Deed) (u : TxId) → (doer x ≡ u → ⊥) → (xs : List Deed) → deeds_of u (xs ++ x ∷ []) ≡ deeds_of u xs
push_other x u ne [] = cond-false (tx_same (doer x) u) (x ∷ []) [] (tx_ne (doer x) u ne)
push_other x u ne (y ∷ ys) = ap (λ l. cond (tx_same (doer y) u) (y ∷ l) l) (push_other x u ne ys)

-- a transaction without a part, that did not ask, has no deeds
no_deeds_of : (g : Past) (v : View) (u : TxId) (xs : List Deed) → AllByRecursion (λ x. Known g v (doer x)) xs → tx_get u v.parts ≡ None → tx_in u g.asked ≡ false → deeds_of u xs ≡ []
no_deeds_of g v u [] all none new = refl
no_deeds_of g v u (x ∷ xs) all none new =
    cond-false (tx_same (doer x) u) (x ∷ deeds_of u xs) (deeds_of u xs) (tx_ne (doer x) u (λ e.
    ⊎_elim (λ a. none_active (sym (ap stage_by (ap (λ z. tx_get z v.parts) e ∙ none)) ∙ a)) (λ r. both_ways _ new (ap (λ z. tx_in z g.asked) (sym e) ∙ r.0)) all.0))
    ∙ no_deeds_of g v u xs all.1 none new
  where
    none_active : ◌≡◌ {A = Option Stage} None (Some Active) → ⊥
    none_active e = absurd cc

pub told_own : {told : List TxId} (all : List Deed) (g : Past) (s : Shard) (tx u : TxId) → u ≡ tx → Sound all g s → (tx_get tx s.local.parts ≡ None → Fresh (did all told g) s tx) → tx_in tx g.asked ≡ false → tx_in tx g.lost ≡ false → (stage_of s.local tx ≡ None) ⊎ (stage_of s.local tx ≡ Some Active) → deeds_of u g.done ≡ deeds_of u all
told_own all g s tx u e h fresh new alive o =
    subst (λ z. deeds_of z g.done ≡ deeds_of z all) (sym e)
    (⊎_elim
    (λ n. let none = none_part (tx_get tx s.local.parts) n in let f = fresh none in no_deeds_of g (view_of s) tx g.done h.kept.known none new ∙ sym f.idle)
    (λ a. ⊎_elim (λ l. absurd (both_ways _ alive l)) (λ i. i) (h.told tx)) o)
  where
    none_part : (x : Option Held) → stage_by x ≡ None → x ≡ None
    none_part None e = refl
    none_part (Some h) e = absurd cc

pub falls_by : (asked fell lost over : List TxId) (parts : Table Held) (pairs : List (TxId × TxId)) (log : List LogRecord) (durable : ℕ) (tx : TxId) (w : Written) → Falls asked fell lost over parts pairs log durable → Falls asked fell lost over parts pairs (log_by tx w log) durable
falls_by asked fell lost over parts pairs log durable tx None f = f
falls_by asked fell lost over parts pairs log durable tx (Some (key, Sets before after)) f = falls_more asked fell lost over parts pairs log (Update tx key before after ∷ []) durable f (λ t. refl) (λ t c. absurd (both_ways false refl c))
falls_by asked fell lost over parts pairs log durable tx (Some (key, Adds by)) f = falls_more asked fell lost over parts pairs log (Add tx key by ∷ []) durable f (λ t. refl) (λ t c. absurd (both_ways false refl c))

pub falls_written : (asked fell lost over : List TxId) (tx : TxId) (birth : Birth) (op : Op) (l : Local) (durable : ℕ) (w : Written) → Falls asked fell lost over (locked tx birth op l).parts (locked tx birth op l).pairs (log_by tx w l.log) durable
    → Falls asked fell lost over (written tx w (locked tx birth op l)).parts (written tx w (locked tx birth op l)).pairs (written tx w (locked tx birth op l)).log durable
falls_written asked fell lost over tx birth op l durable None f = f
falls_written asked fell lost over tx birth op l durable (Some w) f = f
