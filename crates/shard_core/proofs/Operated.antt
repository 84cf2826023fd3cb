-- The parts after an operation.
use Rattle.std.proofs.Common.{◌≡◌, refl, sym, ap, subst, ◌∙◌, ◌⊎◌, inl, inr, ⊎_elim, ℕ, ◌+◌, ◌≤◌, Bool, true, false, cond, ◌&&◌, ◌||◌, List, [], ◌∷◌, ◌++◌, length, drop, Option, Some, None, is_some, arith, is_none}
use Rattle.std.proofs.lemmas.Bool.{both_ways, or_cases}
use Rattle.std.specs.Map.{keys_of}
use Rattle.std.specs.declared.cmp.Ordering.{Ordering}
use Rattle.std.specs.declared.cmp.Ordering.TheVariants.{Less, Equal, Greater}
use Rattle.std.specs.Ordering.{match_ordering}
use Rattle.clv_base.specs.declared.names.TxId.{TxId}
use Rattle.clv_base.specs.declared.names.Birth.{Birth}
use Rattle.clv_base.specs.declared.ops.Op.{Op}
use Rattle.clv_base.specs.declared.logs.LogRecord.TheVariants.{Update, Add}
use Rattle.clv_base.specs.declared.state.Held.{Held}
use Rattle.clv_base.specs.Orders.{Table, tx_cmp, tx_same, tx_in, tx_get, tx_put}
use Rattle.clv_base.specs.declared.changes.Change.{Change}
use Rattle.clv_base.specs.declared.changes.Change.TheVariants.{Sets, Adds}
use Rattle.clv_base.specs.Logs.{prepare_lsn}
use Rattle.clv_base.specs.Needs.{writes_of, value_at, key_of}
use Rattle.clv_base.specs.declared.causes.AbortCause.{AbortCause}
use Rattle.clv_base.specs.declared.state.Stage.{Stage}
use Rattle.clv_base.specs.State.{Shard, Local, is_present, with_local}
use Rattle.clv_base.specs.Undo.{stage_of, doomed_by, doomed_here}
use Rattle.clv_base.specs.OneShard.{OpReply, OpDies, OpAnswers, op_reply, new_part, active_part, written, locked, performed, rolled_back_if, without_part, purge}
use Rattle.clv_base.specs.Events.{finish}
use Rattle.clv_base.specs.Due.{total, part_work}
use Rattle.clv_base.proofs.SameNames.{or_left, or_right}
use Rattle.protocol_laws.specs.Candidates.{Cover}
use Rattle.protocol_laws.specs.Depending.{HasPart}
use Rattle.protocol_laws.proofs.Laws.{operations_touch, performed_keeps, without_keeps, put_keeps}
use Rattle.tx_table.specs.Held.{Candidates}
use Rattle.due_step.specs.Noting.{known_keys}
use Rattle.txn_core.specs.State.{TxState, IsSameBut}
use Rattle.txn_core.specs.Replies.{Replies}
use Rattle.txn_core.specs.declared.op.Reply.{Reply}
use Rattle.txn_core.specs.declared.op.Reply.TheVariants.{Answered, Dead, Wait, Crowded}
use Rattle.txn_core.specs.Sound.{may_work, KeepsSpare}
use Rattle.due_step.specs.Ready.{IsReady}
use Rattle.shard_core.specs.Operating.{StayBy, Comes, Ends}
use Rattle.shard_core.specs.Whole.{IsAtRest}
use Rattle.shard_core.proofs.Seeing.{single, doomed_known}
use Rattle.shard_core.proofs.Logged.{All, logged_more, logged_known, logged_without}
use Rattle.shard_core.proofs.Changing.{room_kept, without_le, cover_purged}
use Rattle.clv_base.specs.declared.state.Request.{Request}
use Rattle.two_phase_commit.specs.Coordinated.{state_by}
use Rattle.protocol_laws.proofs.Laws.{performed_le}
use Rattle.shard_core.proofs.Taking.{here_in, here_known, without_keys, without_prepares, stage_known, known_doomed}
use Rattle.shard_core.proofs.Committing.{idle_holds, idle_ready}
use Rattle.shard_core.proofs.Replied.{Leaves, reply_leaves}
use Rattle.shard_core.proofs.Granting.{grant_covers}
use Rattle.shard_core.proofs.Parts.{Parts, seen, viewed, Holds, Changed, changed, covered, AreKept}
use Rattle.law_base.proofs.Bools.{or_none}
use Rattle.law_base.proofs.Stages.{written_parts}

-- ---- a part more

put_le : (t : TxId) (birth : Birth) (parts : Table Held) → total part_work (tx_put t (active_part birth) parts) ≤ total part_work parts
put_le t birth [] = omega arith
put_le t birth (r ∷ rs) = at (tx_cmp t r.0) (put_le t birth rs)
  where
    at : (o : Ordering) → total part_work (tx_put t (active_part birth) rs) ≤ total part_work rs
        → total part_work (match_ordering o ((t, active_part birth) ∷ r ∷ rs) ((r.0, active_part birth) ∷ rs) (r ∷ tx_put t (active_part birth) rs)) ≤ part_work r.1 + total part_work rs
    at Less more = omega arith
    at Equal more = omega arith
    at Greater more = omega arith

put_length : (t : TxId) (h : Held) (parts : Table Held) → length (tx_put t h parts) ≤ length parts + 1
put_length t h [] = omega arith
put_length t h (r ∷ rs) = at (tx_cmp t r.0) (put_length t h rs)
  where
    at : (o : Ordering) → length (tx_put t h rs) ≤ length rs + 1 → length (match_ordering o ((t, h) ∷ r ∷ rs) ((r.0, h) ∷ rs) (r ∷ tx_put t h rs)) ≤ length (r ∷ rs) + 1
    at Less more = omega arith
    at Equal more = omega arith
    at Greater more = omega arith

abbrev stage_in : Option Held → Bool
stage_in o = is_some (elim o [ Some h ↦ Some h.stage | None ↦ None ])

record New (tx : TxId) (parts more : Table Held) (known : Bool) : Type 0 where
  pub work : total part_work more ≤ total part_work parts
  pub count : length more ≤ length parts + cond known 0 1
  pub stay : (x : TxId) → HasPart parts x → HasPart more x

new_is : (tx : TxId) (birth : Birth) (parts : Table Held) (o : Option Held) → tx_get tx parts ≡ o → New tx parts (new_part tx birth o parts) (stage_in o)
new_is tx birth parts None e = record { work = put_le tx birth parts; count = put_length tx (active_part birth) parts; stay = λ x h. put_keeps tx (active_part birth) x parts h }
new_is tx birth parts (Some h) e = record { work = omega arith; count = omega arith; stay = λ x i. i }

performed_new : (tx : TxId) (birth : Birth) (op : Op) (l : Local) → New tx l.parts (performed tx birth op l).parts (is_some (stage_of l tx))
performed_new tx birth op l =
    subst (λ more. New tx l.parts more (is_some (stage_of l tx))) (sym (written_parts tx (writes_of op (value_at (key_of op) l.records)) (locked tx birth op l))) (new_is tx birth l.parts (tx_get tx l.parts) refl)

written_prepares : (tx : TxId) (w : Option (ℕ × Change)) (l : Local) (x : TxId) → prepare_lsn (written tx w l).log x ≡ prepare_lsn l.log x
written_prepares tx None l x = refl
written_prepares tx (Some (key, Sets before after)) l x = single x l.log (Update tx key before after) refl
written_prepares tx (Some (key, Adds by)) l x = single x l.log (Add tx key by) refl

written_logged : (keys : List TxId) (n : ℕ) (tx : TxId) (w : Option (ℕ × Change)) (l : Local) → All keys (drop n l.log) → All keys (drop n (written tx w l).log)
written_logged keys n tx None l a = a
written_logged keys n tx (Some (key, Sets before after)) l a = logged_more keys n l.log (Update tx key before after ∷ []) a (tt, tt)
written_logged keys n tx (Some (key, Adds by)) l a = logged_more keys n l.log (Add tx key by ∷ []) a (tt, tt)

-- ---- who is known stays so

in_more : (x : TxId) (ks ms rest : List TxId) → ((y : TxId) → tx_in y ks ≡ true → tx_in y ms ≡ true) → tx_in x (ks ++ rest) ≡ true → tx_in x (ms ++ rest) ≡ true
in_more x ks ms rest h e = ⊎_elim (λ i. first ms (h x i)) (λ i. second ms i) (split ks e)
  where
    split : (zs : List TxId) → tx_in x (zs ++ rest) ≡ true → (tx_in x zs ≡ true) ⊎ (tx_in x rest ≡ true)
    split [] e = inr e
    split (z ∷ zs) e = ⊎_elim (λ s. inl (or_left _ _ s)) (λ s. ⊎_elim (λ i. inl (or_right (tx_same z x) _ i)) (λ i. inr i) (split zs s)) (or_cases (tx_same z x) (tx_in x (zs ++ rest)) e)

    first : (zs : List TxId) → tx_in x zs ≡ true → tx_in x (zs ++ rest) ≡ true
    first [] e = absurd (both_ways false refl e)
    first (z ∷ zs) e = ⊎_elim (λ s. or_left _ _ s) (λ s. or_right (tx_same z x) _ (first zs s)) (or_cases (tx_same z x) (tx_in x zs) e)

    second : (zs : List TxId) → tx_in x rest ≡ true → tx_in x (zs ++ rest) ≡ true
    second [] e = e
    second (z ∷ zs) e = or_right (tx_same z x) _ (second zs e)

-- ---- a grant

pub granted_changed : (a : Parts) (tx : TxId) (birth : Birth) (op : Op) (u : TxState) (f : Candidates) → IsAtRest (viewed a) → Holds a → (is_some (stage_of a.transactions.local tx) ≡ false → tx_get tx a.coordinator.requests ≡ None) → may_work (stage_of a.transactions.local tx) ≡ true → IsSameBut a.transactions (purge (performed tx birth op a.transactions.local)) u → f.txs ≡ []
    → f.limit ≡ a.candidates.limit + cond (is_some (stage_of a.transactions.local tx)) 0 1 → KeepsSpare a.transactions u → a.transactions.pairs_room ≤ u.pairs_room → AreKept (record a { transactions = u; candidates = f })
    → Changed (record a { transactions = u; candidates = f }) (record (seen a) { local = performed tx birth op a.transactions.local })
granted_changed a tx birth op u f rest whole fresh work e put limit room pairs kept =
    let s : Shard = seen a in let t = a.transactions in let l = t.local in let V : Shard = record s { local = performed tx birth op l } in let b : Parts = record a { transactions = u; candidates = f } in
    let new = performed_new tx birth op l in let count = new.count in let places = whole.candidates.places in
    let w = writes_of op (value_at (key_of op) l.records) in
    let stay = λ (x : TxId) (i : tx_in x (known_keys s) ≡ true). in_more x (keys_of l.parts) (keys_of V.local.parts) (keys_of s.voters ++ keys_of s.requests) new.stay i in
    covered a b V whole
    (ap (λ (x : TxState). seen (record a { transactions = x })) e)
    (subst (λ (xs : List TxId). Cover xs (with_local purge V)) (sym put) (cover_purged V [] (grant_covers s tx birth op work rest.ready.cover)))
    (record { shard = refl; transactions = ap (λ (x : TxState). x.shard) e; participant = refl; coordinator = refl })
    (λ x. whole.prepares x ∙ sym (written_prepares tx w (locked tx birth op l) x) ∙ ap (λ (y : TxState). prepare_lsn (y.local).log x) (sym e))
    (performed_keeps tx birth op l whole.dependents)
    (subst (λ (x : TxState). All (known_keys V) (drop x.durable (x.local).log)) (sym e) (written_logged (known_keys V) t.durable tx w (locked tx birth op l) (logged_known (known_keys s) (known_keys V) stay (drop t.durable l.log) whole.logged)))
    (record {
      known = λ x i. absurd (both_ways false refl (sym (ap (tx_in x) put) ∙ i));
      places = omega (arith, count, places, limit);
    })
    (room_kept s V t u a.outbox a.outbox (performed_le s tx birth op rest.ready.requests new.work fresh) room pairs (omega arith) whole.room)
    rest.ready.requests
    kept

-- ---- a death

abbrev noted_by : Local → TxId → TxId → Bool
noted_by l tx x = cond (is_some (stage_of l tx)) (tx_in x (doomed_by l tx)) false

pub dying_changed : (a : Parts) (tx : TxId) (u : TxState) (f : Candidates) → IsAtRest (viewed a) → Holds a → is_some (stage_of a.transactions.local tx) ≡ true → IsSameBut a.transactions (purge (without_part tx a.transactions.local)) u
    → ((x : TxId) → tx_in x f.txs ≡ noted_by a.transactions.local tx x) → f.limit ≡ a.candidates.limit + cond (is_some (stage_of a.transactions.local tx)) 0 1 → KeepsSpare a.transactions u → a.transactions.pairs_room ≤ u.pairs_room
    → AreKept (record a { transactions = u; candidates = f }) → Changed (record a { transactions = u; candidates = f }) (record (seen a) { local = without_part tx a.transactions.local })
dying_changed a tx u f rest whole here e put limit room pairs kept =
    let s : Shard = seen a in let t = a.transactions in let l = t.local in let V : Shard = record s { local = without_part tx l } in let b : Parts = record a { transactions = u; candidates = f } in
    let own = stage_known s tx here in
    let noted : (x : TxId) → tx_in x f.txs ≡ tx_in x (doomed_by l tx) = λ x. put x ∙ ap (λ b. cond b (tx_in x (doomed_by l tx)) false) here in
    let places : f.limit ≡ a.candidates.limit = limit ∙ ap (λ b. a.candidates.limit + cond b 0 1) here ∙ omega arith in
    changed a b V (doomed_here l tx) rest whole
    (ap (λ (x : TxState). seen (record a { transactions = x })) e)
    (operations_touch.1 s tx)
    (λ x h. noted x ∙ here_in l tx x h)
    (record { shard = refl; transactions = ap (λ (x : TxState). x.shard) e; participant = refl; coordinator = refl })
    (λ x. whole.prepares x ∙ sym (without_prepares tx l x) ∙ ap (λ (y : TxState). prepare_lsn (y.local).log x) (sym e))
    (without_keeps tx l whole.dependents)
    (subst (λ (x : TxState). All (known_keys V) (drop x.durable (x.local).log)) (sym e)
    (subst (λ ks. All (ks ++ (keys_of s.voters ++ keys_of s.requests)) (drop t.durable (without_part tx l).log)) (sym (without_keys tx l)) (logged_without (known_keys s) tx t.durable l (λ x h. here_known s tx x h) whole.logged)))
    (known_doomed s V tx a.candidates f whole.dependents whole.candidates own (without_keys tx l) refl refl (λ x. noted x ∙ sym (ap (λ b. tx_in x (doomed_by l tx) || b) (ap (tx_in x) rest.none) ∙ or_none (tx_in x (doomed_by l tx)))) places)
    (room_kept s V t u a.outbox a.outbox (without_le s tx) room pairs (omega arith) whole.room)
    rest.ready.requests
    kept

-- one that takes nothing away
pub dead_changed : (a : Parts) (tx : TxId) (u : TxState) (f : Candidates) → IsAtRest (viewed a) → Holds a → IsSameBut a.transactions (purge a.transactions.local) u → ((x : TxId) → tx_in x f.txs ≡ noted_by a.transactions.local tx x)
    → a.candidates.limit ≤ f.limit → KeepsSpare a.transactions u → a.transactions.pairs_room ≤ u.pairs_room → AreKept (record a { transactions = u; candidates = f }) → Changed (record a { transactions = u; candidates = f }) (seen a)
dead_changed a tx u f rest whole e put places room pairs kept =
    let s : Shard = seen a in let t = a.transactions in let l = t.local in let b : Parts = record a { transactions = u; candidates = f } in let few = whole.candidates.places in
    covered a b s whole
    (ap (λ (x : TxState). seen (record a { transactions = x })) e)
    (cover_purged s f.txs (λ x due. absurd (both_ways false refl (rest.ready.cover x due))))
    (record { shard = refl; transactions = ap (λ (x : TxState). x.shard) e; participant = refl; coordinator = refl })
    (λ x. whole.prepares x ∙ ap (λ (y : TxState). prepare_lsn (y.local).log x) (sym e))
    whole.dependents
    (subst (λ (x : TxState). All (known_keys s) (drop x.durable (x.local).log)) (sym e) whole.logged)
    (record { known = λ x i. by x (is_some (stage_of l tx)) refl (sym (put x) ∙ i); places = omega (arith, few, places) })
    (room_kept s s t u a.outbox a.outbox (omega arith) room pairs (omega arith) whole.room)
    rest.ready.requests
    kept
  where
    by : (x : TxId) (b : Bool) → is_some (stage_of a.transactions.local tx) ≡ b → cond b (tx_in x (doomed_by a.transactions.local tx)) false ≡ true → tx_in x (known_keys (seen a)) ≡ true
    by x true here i = doomed_known (seen a) tx x whole.dependents (stage_known (seen a) tx here) i
    by x false here i = absurd (both_ways false refl i)

-- ---- who may begin a part here

-- whose part isn't known has no request, where not both hold
pub fresh_by : (a : Parts) (tx : TxId) (b : Bool) → b ≡ (is_none (stage_of a.transactions.local tx) && is_some (state_by (tx_get tx a.coordinator.requests))) → b ≡ false
    → is_some (stage_of a.transactions.local tx) ≡ false → tx_get tx a.coordinator.requests ≡ None
fresh_by a tx b is holds new = by (stage_of a.transactions.local tx) (tx_get tx a.coordinator.requests) (sym is ∙ holds) new
  where
    by : (st : Option Stage) (o : Option Request) → (is_none st && is_some (state_by o)) ≡ false → is_some st ≡ false → o ≡ None
    by st None e new = refl
    by None (Some q) e new = absurd (both_ways _ e refl)
    by (Some st) (Some q) e new = absurd (both_ways _ new refl)

-- ---- the reply

pub record Operated (a b : Parts) (reply : OpReply) (r : Reply) : Type 0 where
  pub whole : Holds b
  pub ready : IsReady (seen b) b.candidates.txs b.candidates.limit
  pub comes : Comes reply (seen a) r (seen b)

nothing_there : (tx : TxId) (l : Local) → is_some (stage_of l tx) ≡ false → without_part tx l ≡ l
nothing_there tx l e = at (stage_of l tx) e
  where
    at : (o : Option Stage) → is_some o ≡ false → rolled_back_if (is_present o) tx l ≡ l
    at None e = refl
    at (Some st) e = absurd (both_ways true e refl)

module _ (a : Parts) (tx : TxId) (birth : Birth) (seen_epoch : Option ℕ) (op : Op) (u : TxState) (f : Candidates) (rest : IsAtRest (viewed a)) (whole : Holds a)
    (fresh : is_some (stage_of a.transactions.local tx) ≡ false → tx_get tx a.coordinator.requests ≡ None)
    (limit : f.limit ≡ a.candidates.limit + cond (is_some (stage_of a.transactions.local tx)) 0 1) (places : a.candidates.limit ≤ f.limit) (room : KeepsSpare a.transactions u) (pairs : a.transactions.pairs_room ≤ u.pairs_room)
    (kept : AreKept (record a { transactions = u; candidates = f })) where
  abbrev reply : OpReply
  reply = op_reply a.transactions.shard a.transactions.local tx birth seen_epoch op

  abbrev after : Parts
  after = record a { transactions = u; candidates = f }

  leaves : (r : OpReply) → reply ≡ r → Leaves a.transactions.local tx birth op r
  leaves r e = subst (Leaves a.transactions.local tx birth op) e (reply_leaves a.transactions.shard a.transactions.local tx birth seen_epoch op)

  dead : (cause : AbortCause) (m : Local) → reply ≡ OpDies cause m → IsSameBut a.transactions (purge m) u → ((x : TxId) → tx_in x f.txs ≡ noted_by a.transactions.local tx x) → Changed after (record (seen a) { local = m })
  dead cause m is e put = ⊎_elim (λ h. without h) (λ h. same h) (leaves (OpDies cause m) is)
    where
      same : m ≡ a.transactions.local → Changed after (record (seen a) { local = m })
      same h = subst (λ (l : Local). Changed after (record (seen a) { local = l })) (sym h) (dead_changed a tx u f rest whole (subst (λ (l : Local). IsSameBut a.transactions (purge l) u) h e) put places room pairs kept)

      without : m ≡ without_part tx a.transactions.local → Changed after (record (seen a) { local = m })
      without h = by (is_some (stage_of a.transactions.local tx)) refl
        where
          by : (b : Bool) → is_some (stage_of a.transactions.local tx) ≡ b → Changed after (record (seen a) { local = m })
          by true here = subst (λ (l : Local). Changed after (record (seen a) { local = l })) (sym h) (dying_changed a tx u f rest whole here (subst (λ (l : Local). IsSameBut a.transactions (purge l) u) h e) put limit room pairs kept)
          by false gone = same (h ∙ nothing_there tx a.transactions.local gone)

  pub operated : (r : Reply) → Replies reply a.transactions r u → (noted : Candidates) × ((x : TxId) → tx_in x noted.txs ≡ noted_by a.transactions.local tx x) × StayBy r noted.txs f.txs → Operated a after reply r
  operated (Answered answer copy epoch) x n =
      let is = leaves (OpAnswers answer x.0) x.1 in
      let c = granted_changed a tx birth op u f rest whole fresh is.1 (subst (λ (l : Local). IsSameBut a.transactions (purge l) u) is.0 x.3) n.2 limit room pairs kept in
      record { whole = c.whole; ready = c.ready; comes = (x.0, x.1, x.2, c.finished ∙ ap (λ (l : Local). finish (record (seen a) { local = l })) (sym is.0), x.4) }
  operated (Dead cause) x n =
      let c = dead cause x.0 x.1 x.2 (λ y. ap (tx_in y) n.2 ∙ n.1 y) in
      record { whole = c.whole; ready = c.ready; comes = (x.0, x.1, c.finished) }
  operated (Wait younger) x n =
      let e = quiet x.1 in
      record { whole = idle_holds a u f whole e n.2 places room pairs; ready = idle_ready a u f rest e n.2; comes = (x.0, ap (λ (y : TxState). seen (record a { transactions = y })) x.1) }
    where
      quiet : u ≡ a.transactions → IsSameBut a.transactions a.transactions.local u
      quiet h = subst (λ (y : TxState). IsSameBut a.transactions a.transactions.local y) (sym h) refl
  operated (Crowded count) x n =
      let e = quiet x.1 in
      record { whole = idle_holds a u f whole e n.2 places room pairs; ready = idle_ready a u f rest e n.2; comes = (x.0, ap (λ (y : TxState). seen (record a { transactions = y })) x.1) }
    where
      quiet : u ≡ a.transactions → IsSameBut a.transactions a.transactions.local u
      quiet h = subst (λ (y : TxState). IsSameBut a.transactions a.transactions.local y) (sym h) refl

-- ---- in the end

pub ends : (reply : OpReply) (s t u : Shard) (r : Reply) → finish s ≡ s → u ≡ finish t → Comes reply s r t → Ends reply s r u
ends told s t u (Answered answer copy epoch) rest same x = (x.0, x.1, x.2, same ∙ x.3, x.4)
ends told s t u (Dead cause) rest same x = (x.0, x.1, same ∙ x.2)
ends told s t u (Wait younger) rest same x = (x.0, same ∙ ap finish x.1 ∙ rest)
ends told s t u (Crowded count) rest same x = (x.0, same ∙ ap finish x.1 ∙ rest)
