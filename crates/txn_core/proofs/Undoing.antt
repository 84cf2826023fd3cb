-- What a part did, with all that depend on it, can be taken away, and that leaves the same of the others.
use Rattle.std.proofs.Common.{◌≡◌, ℕ, zero, suc, ◌+◌, ◌≤◌, ⊎_elim, Bool, true, false, cond, not, ◌&&◌, ◌||◌, List, [], ◌∷◌, length, Option, Some, None, refl, sym, ap, subst, ◌∙◌, arith}
use Rattle.std.proofs.lemmas.Bool.{both_ways, or_cases, cond_both, cond-true, false_from_ne_true}
use Rattle.std.specs.List.{AllByRecursion, filter}
use Rattle.std.specs.List.Sorted.{IsStrictlySortedBy}
use Rattle.std.specs.declared.cmp.Ordering.{Ordering}
use Rattle.std.specs.declared.cmp.Ordering.TheVariants.{Less, Equal, Greater}
use Rattle.std.specs.Ordering.{match_ordering}
use Rattle.clv_base.specs.declared.values.Value.{Value as ValueType}
use Rattle.clv_base.specs.declared.names.TxId.{TxId}
use Rattle.clv_base.specs.declared.modes.Anchor.TheVariants.{At}
use Rattle.clv_base.specs.declared.modes.Part.TheVariants.{N}
use Rattle.clv_base.specs.Orders.{tx_cmp, tx_same, tx_in, tx_insert, anchor_same}
use Rattle.clv_base.specs.Logs.{StandingUpdate, standing}
use Rattle.clv_base.specs.Locks.{Locks, release}
use Rattle.clv_base.specs.Needs.{found_at, found_by, is_there}
use Rattle.clv_base.specs.State.{Local, is_present}
use Rattle.clv_base.specs.Undo.{aborts_of, doomed_by, doomed_here, with_successors, successors_through, is_of, undone_at, records_without, take_away}
use Rattle.clv_base.specs.declared.state.Held.{Held}
use Rattle.clv_base.specs.declared.logs.LogRecord.{LogRecord}
use Rattle.clv_base.specs.Orders.{Table}
use Rattle.clv_base.specs.OneShard.{marked_in, mark_dropped}
use Rattle.clv_base.proofs.SameNames.{tx_true, tx_self}
use Rattle.law_base.proofs.Sets.{in_filter}
use Rattle.cascade_undo.proofs.Laws.{filter_rises}
use Rattle.law_base.proofs.Cells.{record_at}
use Rattle.law_base.proofs.Undoing.{record_undone, reset, standing_undone}
use Rattle.law_base.specs.Undone.{stays_of}
use Rattle.law_base.proofs.LockRows.{holds, row_holds, release_holds}
use Rattle.law_base.proofs.Stages.{stage_other, own_go}
use Rattle.law_base.proofs.Stages.{stage_marked}
use Rattle.cascade_undo.proofs.Laws.{tx_total}
use Rattle.cascade_undo.proofs.Laws.{insert_key-rises}
use Rattle.cascade_undo.specs.Writes.{writes_of, HaveRecords}
use Rattle.cascade_undo.proofs.Laws.{all_mono}
use Rattle.txn_core.specs.State.{TxState}
use Rattle.txn_core.proofs.Undoable.{IsUndoable}
use Rattle.txn_core.specs.Sound.{is_here, has_lock, IsHeld, owed_by, IsSound, KeepsSpare}
use Rattle.txn_core.proofs.Counting.{in_set}
use Rattle.txn_core.proofs.Owing.{undo_at_most, count_owed_fewer, count_owed_apart, owed-undone}
use Rattle.law_base.proofs.Names.{Rise as Rises}
use Rattle.law_base.proofs.Bools.{not_true as not_false}

-- ---- the doomed are here

module _ (test : TxId → Bool) where
  abbrev AllPass : List TxId → Type 0
  AllPass xs = AllByRecursion (λ t. test t ≡ true) xs

  all_insert : (t : TxId) (xs : List TxId) → test t ≡ true → AllPass xs → AllPass (tx_insert t xs)
  all_insert t [] h a = (h, tt)
  all_insert t (x ∷ xs) h a = at (tx_cmp t x) (all_insert t xs h a.1)
    where
      at : (c : Ordering) → AllPass (tx_insert t xs) → AllPass (match_ordering c (t ∷ x ∷ xs) (x ∷ xs) (x ∷ tx_insert t xs))
      at Less more = (h, a)
      at Equal more = a
      at Greater more = (a.0, more)

  with_all : (pairs : List (TxId × TxId)) (set so_far : List TxId) → AllByRecursion (λ p. test p.0 ≡ true) pairs → AllPass so_far → AllPass (with_successors pairs set so_far)
  with_all [] set so_far f a = a
  with_all (p ∷ ps) set so_far f a = with_all ps set (cond (tx_in p.1 set) (tx_insert p.0 so_far) so_far) f.1 (cond_both (tx_in p.1 set) (tx_insert p.0 so_far) so_far AllPass (λ e. all_insert p.0 so_far f.0 a) (λ e. a))

  through_all : (n : ℕ) (pairs : List (TxId × TxId)) (set : List TxId) → AllByRecursion (λ p. test p.0 ≡ true) pairs → AllPass set → AllPass (successors_through n pairs set)
  through_all zero pairs set f a = a
  through_all (suc n) pairs set f a = through_all n pairs (with_successors pairs set set) f (with_all pairs set set f a)

  filter_all : (xs : List TxId) → AllPass xs → filter test xs ≡ xs
  filter_all [] a = refl
  filter_all (x ∷ xs) a = cond-true (test x) (x ∷ filter test xs) (filter test xs) a.0 ∙ ap (λ l. x ∷ l) (filter_all xs a.1)

  one_passes : (t : TxId) (xs : List TxId) → AllPass xs → tx_in t xs ≡ true → test t ≡ true
  one_passes t [] a e = absurd (both_ways false refl e)
  one_passes t (x ∷ xs) a e = ⊎_elim (λ s. subst (λ y. test y ≡ true) (tx_true x t s) a.0) (λ m. one_passes t xs a.1 m) (or_cases (tx_same x t) (tx_in t xs) e)

with_rises : (pairs : List (TxId × TxId)) (set so_far : List TxId) → Rises so_far → Rises (with_successors pairs set so_far)
with_rises [] set so_far s = s
with_rises (p ∷ ps) set so_far s = with_rises ps set (cond (tx_in p.1 set) (tx_insert p.0 so_far) so_far) (cond_both (tx_in p.1 set) (tx_insert p.0 so_far) so_far Rises (λ e. insert_key-rises tx_total p.0 so_far s) (λ e. s))

through_rises : (n : ℕ) (pairs : List (TxId × TxId)) (set : List TxId) → Rises set → Rises (successors_through n pairs set)
through_rises zero pairs set s = s
through_rises (suc n) pairs set s = through_rises n pairs (with_successors pairs set set) (with_rises pairs set set s)

one_rises : (t : TxId) → Rises (t ∷ [])
unfolding IsStrictlySortedBy
one_rises t = (tt, tt)

module _ (l : Local) (spare : ℕ) (sound : IsSound l spare) (tx : TxId) (here : is_here l tx ≡ true) where
  abbrev set : List TxId
  set = doomed_by l tx

  pub all_here : AllByRecursion (λ t. is_here l t ≡ true) set
  all_here = through_all (is_here l) (length l.pairs) l.pairs (tx ∷ []) sound.successors (here, tt)

  pub doomed_are_here : doomed_here l tx ≡ doomed_by l tx
  doomed_are_here = filter_all (is_here l) set all_here

  pub doomed_rise : Rises set
  doomed_rise = through_rises (length l.pairs) l.pairs (tx ∷ []) (one_rises tx)

  have_records : HaveRecords set (standing l.log) l.records
  have_records = all_mono (IsHeld l) (λ w. tx_in w.tx set ≡ true → is_there (found_at w.key l.records) ≡ true) (λ w h i. (h (one_passes (is_here l) w.tx set all_here i)).0) (standing l.log) sound.writes

  pub owed : owed_by (in_set set) l.log ≤ spare
  owed = let a = count_owed_fewer (in_set set) (is_here l) l.log (λ t e. one_passes (is_here l) t set all_here e) in omega (arith, a, sound.room)

pub undoable : (s : TxState) (tx : TxId) → IsSound s.local s.room → is_here s.local tx ≡ true → IsUndoable s tx
undoable s tx sound here = record {
  parts = doomed_are_here s.local s.room sound tx here;
  records = have_records s.local s.room sound tx here;
  room = let a = undo_at_most (doomed_by s.local tx) s.local.log (doomed_rise s.local s.room sound tx here) in let b = owed s.local s.room sound tx here in omega (arith, a, b);
}

-- ---- those that are here of the doomed

pub doomed_here_rise : (l : Local) (tx : TxId) → Rises (doomed_here l tx)
doomed_here_rise l tx = filter_rises (is_here l) (doomed_by l tx) (through_rises (length l.pairs) l.pairs (tx ∷ []) (one_rises tx))

pub each_doomed_here : (l : Local) (tx t : TxId) → tx_in t (doomed_here l tx) ≡ true → is_here l t ≡ true
each_doomed_here l tx t i = (in_filter (is_here l) t (doomed_by l tx) i).1

have_records_here : (l : Local) (spare : ℕ) → IsSound l spare → (tx : TxId) → HaveRecords (doomed_here l tx) (standing l.log) l.records
have_records_here l spare sound tx =
    all_mono (IsHeld l) (λ w. tx_in w.tx (doomed_here l tx) ≡ true → is_there (found_at w.key l.records) ≡ true) (λ w h i. (h (each_doomed_here l tx w.tx i)).0) (standing l.log) sound.writes

pub undoable_here : (l : Local) (spare : ℕ) → IsSound l spare → (tx : TxId)
    → HaveRecords (doomed_here l tx) (standing l.log) l.records × (length (aborts_of l.log (doomed_here l tx)) + length (writes_of (doomed_here l tx) (standing l.log)) ≤ spare)
undoable_here l spare sound tx = (
  have_records_here l spare sound tx,
  let most = undo_at_most (doomed_here l tx) l.log (doomed_here_rise l tx) in
      let owed = count_owed_fewer (in_set (doomed_here l tx)) (is_here l) l.log (λ t e. each_doomed_here l tx t e) in let room = sound.room in omega (arith, most, owed, room),
)

-- of the doomed it alone may be away
alike : (f g : TxId → Bool) (xs : List TxId) → AllByRecursion (λ t. f t ≡ g t) xs → filter f xs ≡ filter g xs
alike f g [] a = refl
alike f g (x ∷ xs) a = ap (λ l. cond (f x) (x ∷ l) l) (alike f g xs a.1) ∙ ap (λ b. cond b (x ∷ filter g xs) (filter g xs)) a.0

all_names : (P Q : TxId → Type 0) → ((t : TxId) → P t → Q t) → (xs : List TxId) → AllByRecursion P xs → AllByRecursion Q xs
all_names P Q h [] a = tt
all_names P Q h (x ∷ xs) a = (h x a.0, all_names P Q h xs a.1)

abbrev here_or_own : Local → TxId → TxId → Bool
here_or_own l tx t = is_here l t || tx_same tx t

here_unless_own : (l : Local) (tx : TxId) → is_here l tx ≡ false → (t : TxId) → here_or_own l tx t ≡ true → is_here l t ≡ not (tx_same tx t)
here_unless_own l tx away t h = at (tx_same tx t) refl
  where
    at : (b : Bool) → tx_same tx t ≡ b → is_here l t ≡ not b
    at true e = ap (is_here l) (sym (tx_true tx t e)) ∙ away
    at false e = ⊎_elim (λ i. i) (λ s. absurd (both_ways _ e s)) (or_cases (is_here l t) (tx_same tx t) h)

all_or : (l : Local) (tx : TxId) (ps : List (TxId × TxId)) → AllByRecursion (λ p. is_here l p.0 ≡ true) ps → AllByRecursion (λ p. here_or_own l tx p.0 ≡ true) ps
all_or l tx [] a = tt
all_or l tx (p ∷ ps) a = (ap (λ b. b || tx_same tx p.0) a.0, all_or l tx ps a.1)

own_or : (b : Bool) (c : Bool) → c ≡ true → (b || c) ≡ true
own_or true c e = refl
own_or false c e = e

pub marked_is_doomed : (l : Local) (spare : ℕ) → IsSound l spare → (tx : TxId) → cond (is_here l tx) (doomed_by l tx) (filter (λ t. not (tx_same tx t)) (doomed_by l tx)) ≡ doomed_here l tx
marked_is_doomed l spare sound tx = at (is_here l tx) refl
  where
    at : (b : Bool) → is_here l tx ≡ b → cond b (doomed_by l tx) (filter (λ t. not (tx_same tx t)) (doomed_by l tx)) ≡ doomed_here l tx
    at true e = sym (doomed_are_here l spare sound tx e)
    at false e =
        sym (alike (is_here l) (λ t. not (tx_same tx t)) (doomed_by l tx)
        (all_names (λ t. here_or_own l tx t ≡ true) (λ t. is_here l t ≡ not (tx_same tx t)) (here_unless_own l tx e) (doomed_by l tx)
        (through_all (here_or_own l tx) (length l.pairs) l.pairs (tx ∷ []) (all_or l tx l.pairs sound.successors) (own_or (is_here l tx) (tx_same tx tx) (tx_self tx), tt))))

-- ---- the others keep what they have

pub lock_is_held : (t : TxId) (k : ℕ) (locks : Locks) → has_lock t k locks ≡ holds true N (At k) t locks
lock_is_held t k [] = refl
lock_is_held t k (r ∷ rs) = ap (λ b. b || has_lock t k rs) (sym (and_true (anchor_same (At k) r.0 && tx_same t (r.1).tx))) ∙ ap (λ b. row_holds true N (At k) t r || b) (lock_is_held t k rs)
  where
    and_true : (b : Bool) → (b && true) ≡ b
    and_true true = refl
    and_true false = refl

pub release_keeps : (set : List TxId) (t : TxId) (k : ℕ) (locks : Locks) → tx_in t set ≡ false → has_lock t k locks ≡ true → has_lock t k (release set locks) ≡ true
release_keeps set t k locks out h = lock_is_held t k (release set locks) ∙ release_holds set true N (At k) t locks out (sym (lock_is_held t k locks) ∙ h)

some_there : (v : Option ValueType) → is_there (found_by (Some v)) ≡ true
some_there None = refl
some_there (Some v) = refl

reset_keeps : (gone : StandingUpdate → Bool) (ws : List StandingUpdate) (k : ℕ) (o : Option (Option ValueType)) → is_there (found_by o) ≡ true → is_there (found_by (reset gone ws k o)) ≡ true
reset_keeps gone ws k None e = e
reset_keeps gone ws k (Some v) e = some_there (undone_at gone k ws v)

pub undo_keeps : (gone : StandingUpdate → Bool) (ws : List StandingUpdate) (k : ℕ) (l : Local) → is_there (found_at k l.records) ≡ true → is_there (found_at k (records_without gone ws l.records)) ≡ true
undo_keeps gone ws k l h = ap (λ o. is_there (found_by o)) (record_undone gone ws l.records k) ∙ reset_keeps gone ws k (record_at k l.records) h

pub all_filter : {A : Type 0} (P Q : A → Type 0) (f : A → Bool) (xs : List A) → ((x : A) → P x → f x ≡ true → Q x) → AllByRecursion P xs → AllByRecursion Q (filter f xs)
all_filter P Q f [] h a = tt
all_filter P Q f (x ∷ xs) h a = cond_both (f x) (x ∷ filter f xs) (filter f xs) (AllByRecursion Q) (λ e. (h x a.0 e, all_filter P Q f xs h a.1)) (λ e. all_filter P Q f xs h a.1)

module _ (set : List TxId) (tx : TxId) (l : Local) where
  pub gone_here : (t : TxId) → is_here (take_away set tx l) t ≡ true → (tx_in t set ≡ false) × (is_here l t ≡ true)
  gone_here t h =
      let out : tx_in t set ≡ false = false_from_ne_true _ (λ i. both_ways _ (own_go set (Some tx) t l.parts i) h) in
      (out, ap is_present (sym (stage_other set (Some tx) t l.parts out)) ∙ h)

  pub still_here : (t : TxId) → tx_in t set ≡ false → is_here l t ≡ true → is_here (take_away set tx l) t ≡ true
  still_here t out h = ap is_present (stage_other set (Some tx) t l.parts out) ∙ h

  -- what the set's undo may write was reserved for it
  pub spare_away : (spare left : ℕ) → ((t : TxId) → tx_in t set ≡ true → is_here l t ≡ true) → spare ≤ left + owed_by (in_set set) l.log
      → spare + owed_by (is_here (take_away set tx l)) (take_away set tx l).log ≤ left + owed_by (is_here l) l.log
  spare_away spare left all room =
      let same = owed-undone (is_here (take_away set tx l)) set l.log (λ t h. (gone_here t h).0) in
      let apart = count_owed_apart (is_here (take_away set tx l)) (in_set set) (is_here l) l.log (λ t h. (gone_here t h).1) all (λ t h. (gone_here t h).0) in omega (arith, same, apart, room)

  -- a set whose members were all here leaves a sound state
  pub sound_away : (spare left : ℕ) → IsSound l spare → ((t : TxId) → tx_in t set ≡ true → is_here l t ≡ true) → spare ≤ left + owed_by (in_set set) l.log → IsSound (take_away set tx l) left
  sound_away spare left sound all room = record {
    successors = all_filter (λ p. is_here l p.0 ≡ true) (λ p. is_here (take_away set tx l) p.0 ≡ true) (λ p. not (tx_in p.0 set)) l.pairs (λ p h e. still_here p.0 (not_false _ e) h) sound.successors;
    writes =
        subst (AllByRecursion (IsHeld (take_away set tx l))) (sym (standing_undone set l.log))
        (all_filter (IsHeld l) (IsHeld (take_away set tx l)) (stays_of set) (standing l.log)
        (λ w h e i. let q = gone_here w.tx i in let held = h q.1 in (undo_keeps (is_of set) (standing l.log) w.key l held.0, release_keeps set w.tx w.key l.locks q.0 held.1)) sound.writes);
    room = let a = spare_away spare left all room in omega (arith, a, sound.room);
  }

-- ---- other parts, and more room

pub sound_parts : (l : Local) (parts : Table Held) (spare : ℕ) → ((t : TxId) → is_here (record l { parts = parts }) t ≡ is_here l t) → IsSound l spare → IsSound (record l { parts = parts }) spare
sound_parts l parts spare same sound = record {
  successors = pairs_again l.pairs sound.successors;
  writes = all_mono (IsHeld l) (IsHeld (record l { parts = parts })) (λ w h here. h (sym (same w.tx) ∙ here)) (standing l.log) sound.writes;
  room = let a = count_owed_fewer (is_here (record l { parts = parts })) (is_here l) l.log (λ t h. sym (same t) ∙ h) in omega (arith, a, sound.room);
}
  where
    pairs_again : (ps : List (TxId × TxId)) → AllByRecursion (λ p. is_here l p.0 ≡ true) ps → AllByRecursion (λ p. is_here (record l { parts = parts }) p.0 ≡ true) ps
    pairs_again [] a = tt
    pairs_again (p ∷ ps) a = (same p.0 ∙ a.0, pairs_again ps a.1)

pub marked_sound : (l : Local) (tx : TxId) (spare : ℕ) → IsSound l spare → IsSound (mark_dropped tx l) spare
marked_sound l tx spare sound = sound_parts l (marked_in tx l.parts) spare (λ t. ap is_present (stage_marked tx t l.parts)) sound

pub sound_more : (l m : Local) (spare left : ℕ) → m ≡ l → spare ≤ left → IsSound l spare → IsSound m left
sound_more l m spare left same more sound = subst (λ (x : Local). IsSound x left) (sym same) (record { successors = sound.successors; writes = sound.writes; room = let r = sound.room in omega (arith, r, more) })

-- equal parts make equal states
abbrev loc : List (ℕ × Option ValueType) → Locks → Table Held → List (TxId × TxId) → List LogRecord → ℕ → Local
loc rs ks ps qs lg n = record { records = rs; locks = ks; parts = ps; pairs = qs; log = lg; epoch = n }

abbrev state : ℕ → Local → ℕ → ℕ → ℕ → ℕ → TxState
state n l d t r p = record { shard = n; local = l; durable = d; taken = t; room = r; pairs_room = p }

pub local_same : (rs : List (ℕ × Option ValueType)) (ks : Locks) (ps : Table Held) (qs : List (TxId × TxId)) (lg : List LogRecord) (l : Local) → rs ≡ l.records → ks ≡ l.locks → ps ≡ l.parts → qs ≡ l.pairs → lg ≡ l.log
    → ◌≡◌ {A = Local} (record { records = rs; locks = ks; parts = ps; pairs = qs; log = lg; epoch = l.epoch }) l
local_same rs ks ps qs lg l a b c d e =
    ap (λ r. loc r ks ps qs lg l.epoch) a ∙ ap (λ k. loc l.records k ps qs lg l.epoch) b ∙ ap (λ p. loc l.records l.locks p qs lg l.epoch) c
    ∙ ap (λ q. loc l.records l.locks l.parts q lg l.epoch) d ∙ ap (λ m. loc l.records l.locks l.parts l.pairs m l.epoch) e

pub state_same : (n : ℕ) (l m : Local) (d e t u r p : ℕ) → l ≡ m → d ≡ e → t ≡ u
    → ◌≡◌ {A = TxState} (record { shard = n; local = l; durable = d; taken = t; room = r; pairs_room = p }) (record { shard = n; local = m; durable = e; taken = u; room = r; pairs_room = p })
state_same n l m d e t u r p a b c = ap (λ x. state n x d t r p) a ∙ ap (λ x. state n m x t r p) b ∙ ap (λ x. state n m e x r p) c

pub each_here : (l : Local) (spare : ℕ) → IsSound l spare → (tx : TxId) → is_here l tx ≡ true → (t : TxId) → tx_in t (doomed_by l tx) ≡ true → is_here l t ≡ true
each_here l spare sound tx here t i = one_passes (is_here l) t (doomed_by l tx) (all_here l spare sound tx here) i

-- ---- what is reserved beyond an undo

-- of a state the parts and the log alone count
pub spare_like : (s t : TxState) (m : Local) → (t.local).parts ≡ m.parts → (t.local).log ≡ m.log
    → s.room + owed_by (is_here m) m.log ≤ t.room + owed_by (is_here s.local) (s.local).log → KeepsSpare s t
spare_like s t m parts log h =
    subst (λ (ps : Table Held). s.room + owed_by (is_here (record m { parts = ps })) (t.local).log ≤ t.room + owed_by (is_here s.local) (s.local).log) (sym parts)
    (subst (λ (lg : List LogRecord). s.room + owed_by (is_here m) lg ≤ t.room + owed_by (is_here s.local) (s.local).log) (sym log) h)

pub spare_through : (s m t : TxState) → KeepsSpare s m → KeepsSpare m t → KeepsSpare s t
spare_through s m t a b = omega (arith, a, b)

-- a mark changes no stage
pub spare_marked : (s t : TxState) (tx : TxId) → (t.local).parts ≡ marked_in tx (s.local).parts → (t.local).log ≡ (s.local).log → s.room ≤ t.room → KeepsSpare s t
spare_marked s t tx parts log more =
    let a = count_owed_fewer (is_here (mark_dropped tx s.local)) (is_here s.local) (s.local).log (λ u h. sym (ap is_present (stage_marked tx u (s.local).parts)) ∙ h) in
    spare_like s t (mark_dropped tx s.local) parts log (omega (arith, a, more))
