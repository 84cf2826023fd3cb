-- A shard's acts are what it did, by its deeds: what holds of the ones holds of the others.
use Rattle.std.proofs.Common.{◌≡◌, ◌⊎◌, inl, inr, ⊎_elim, refl, sym, ap, subst, ◌∙◌, ℕ, true, false, cond, not, Bool, ◌&&◌, nat_lt, List, [], ◌∷◌, ◌++◌, map, ◌==◌, eqb-true, eq-eqb, append_assoc, append-nil, Some, None}
use Rattle.std.specs.Prelude.{⊤}
use Rattle.std.specs.List.{AllByRecursion, filter}
use Rattle.std.proofs.lemmas.Bool.{both_ways, cases_Bool}
use Rattle.std.proofs.lemmas.List.{map-append}
use Rattle.clv_base.specs.declared.names.TxId.{TxId}
use Rattle.clv_base.specs.declared.ops.Op.{Op}
use Rattle.clv_base.specs.declared.ops.Op.TheVariants.{Get, Put, Del, Scan, Add}
use Rattle.clv_base.specs.declared.ops.Answer.{Answer}
use Rattle.clv_base.specs.declared.ops.Answer.TheVariants.{Value, Pairs, Added}
use Rattle.clv_base.specs.declared.logs.LogRecord.{LogRecord}
use Rattle.clv_base.specs.declared.events.Event.{Event}
use Rattle.clv_base.specs.declared.events.Event.TheVariants.{Op as OpEvent, RollTo}
use Rattle.clv_base.specs.declared.events.Outcome.{Outcome}
use Rattle.clv_base.specs.declared.events.Outcome.TheVariants.{Answered, Rolled}
use Rattle.clv_base.specs.declared.events.Entry.{Entry}
use Rattle.clv_base.specs.Orders.{tx_same}
use Rattle.clv_base.specs.Maps.{KeyMap, map_get, is_number, op_answer, op_after}
use Rattle.clv_base.specs.Folding.{key_written}
use Rattle.clv_base.specs.Needs.{writes_of}
use Rattle.clv_base.specs.LogRules.{log_of}
use Rattle.clv_base.specs.State.{Shard}
use Rattle.clv_base.specs.Journals.{History, journal_of, start_of, after_entry}
use Rattle.law_base.specs.Items.{Item, Deed, Did, WentBack, held_with, held_from, Answers, ActsFrom, after, AllLater, Clash, is_write_at, told as value_told, is_beyond as is_beyond_item}
use Rattle.law_base.proofs.Lists.{all_push}
use Rattle.law_base.proofs.Names.{written_at}
use Rattle.serial_laws.specs.Shares.{ShardAct, OnShard, BackOn, is_on}
use Rattle.shard_laws.specs.OneShard.{Deeds, no_deeds, items_in, with_one, new_deed, IsApartFrom, NobodyBetween as NobodyBetweenDeeds, doer}
use Rattle.shard_laws.proofs.Keeping.DeedsThatHold.{items_append}
use Rattle.fate_laws.specs.Leading.{deeds_with, deeds_after, deeds_before}
use Rattle.crash_laws.specs.Acts.{Act, act_of, with_act, acts, is_beyond, held_by, map_after, AnswersBy, AnswersFrom, meets_at, Meet, NobodyBetween}
use Rattle.crash_laws.proofs.Acts.ActsByShards.{filter_map_is}

-- the act that a deed is on a shard
abbrev pub told_item : ℕ → Item → Act
told_item n x = record { tx = x.tx; done = OnShard n x.number x.op x.answer }

abbrev pub told : ℕ → Deed → Act
told n (Did x) = told_item n x
told n (WentBack tx number upto) = record { tx = tx; done = BackOn n number upto }

pub told_tx : (n : ℕ) (d : Deed) → (told n d).tx ≡ doer d
told_tx n (Did x) = refl
told_tx n (WentBack tx number upto) = refl

-- ---- of one shard's entries

abbrev pub journal_acts : ℕ → List Entry → List Act
journal_acts n [] = []
journal_acts n (e ∷ es) = with_act (act_of n e.event e.outcome) (journal_acts n es)

both_same : {X : Type 0} (c : Bool) (x : X) → x ≡ cond c x x
both_same true x = refl
both_same false x = refl

one_act : (m n : ℕ) (e : Event) (o : Outcome) (as_ : List Act) → filter (λ a. is_on n a.done) (with_act (act_of m e o) as_) ≡ cond (m == n) (with_act (act_of m e o) (filter (λ a. is_on n a.done) as_)) (filter (λ a. is_on n a.done) as_)
one_act m n (OpEvent tx birth nth seen op) (Answered answer epoch) as_ = refl
one_act m n (OpEvent tx birth nth seen op) _ as_ = both_same (m == n) (filter (λ a. is_on n a.done) as_)
one_act m n (RollTo tx nth seen upto) Rolled as_ = refl
one_act m n (RollTo tx nth seen upto) _ as_ = both_same (m == n) (filter (λ a. is_on n a.done) as_)
one_act m n _ o as_ = both_same (m == n) (filter (λ a. is_on n a.done) as_)

pub shard_acts : (n : ℕ) (h : History) → filter (λ a. is_on n a.done) (acts h) ≡ journal_acts n (journal_of n h)
shard_acts n [] = refl
shard_acts n (e ∷ es) = one_act e.0 n (e.1).event (e.1).outcome (acts es) ∙ at (e.0 == n) refl (shard_acts n es)
  where
    at : (b : Bool) → (e.0 == n) ≡ b → filter (λ a. is_on n a.done) (acts es) ≡ journal_acts n (journal_of n es)
        → cond b (with_act (act_of e.0 (e.1).event (e.1).outcome) (filter (λ a. is_on n a.done) (acts es))) (filter (λ a. is_on n a.done) (acts es)) ≡ journal_acts n (cond b (e.1 ∷ journal_of n es) (journal_of n es))
    at true q i =
        ap (with_act (act_of e.0 (e.1).event (e.1).outcome)) i ∙ ap (λ m. with_act (act_of m (e.1).event (e.1).outcome) (journal_acts n (journal_of n es))) (eqb-true e.0 n q)
    at false q i = i

-- ---- and its deeds

one_deed : (n : ℕ) (s : Shard) (e : Event) (o : Outcome) (ds : List Deed) (rest : List Act) → map (told n) (with_one ds (new_deed s e o)) ++ rest ≡ map (told n) ds ++ with_act (act_of n e o) rest
one_deed n s (OpEvent tx birth nth seen op) (Answered answer epoch) ds rest =
    ap (λ l. l ++ rest) (map-append (told n) ds (Did (record { tx = tx; number = nth; op = op; answer = answer; lsn = _ }) ∷ [])) ∙ append_assoc (map (told n) ds) (record { tx = tx; done = OnShard n nth op answer } ∷ []) rest
one_deed n s (OpEvent tx birth nth seen op) _ ds rest = refl
one_deed n s (RollTo tx nth seen upto) Rolled ds rest =
    ap (λ l. l ++ rest) (map-append (told n) ds (WentBack tx nth upto ∷ [])) ∙ append_assoc (map (told n) ds) (record { tx = tx; done = BackOn n nth upto } ∷ []) rest
one_deed n s (RollTo tx nth seen upto) _ ds rest = refl
one_deed n s _ o ds rest = refl

deeds_acts : (n : ℕ) (log : List LogRecord) (d : Deeds) (s : Shard) (es : List Entry) → map (told n) (deeds_after log d s es).done ≡ map (told n) d.done ++ journal_acts n es
deeds_acts n log d s [] = sym (append-nil (map (told n) d.done))
deeds_acts n log d s (e ∷ es) =
    deeds_acts n log (deeds_with d s (after_entry log s e) e) (after_entry log s e) es ∙ one_deed n s e.event e.outcome d.done (journal_acts n es)

-- so what a shard did are the history's acts on it
pub deeds_are_acts : (before : List (List LogRecord)) (h : History) (after_ : List (List LogRecord)) (n : ℕ) → map (told n) (deeds_before before h after_ n).done ≡ filter (λ a. is_on n a.done) (acts h)
deeds_are_acts before h after_ n = deeds_acts n (log_of after_ n) no_deeds (start_of before n) (journal_of n h) ∙ sym (shard_acts n h)

-- and any acts on one shard are deeds
abbrev deed_by : TxId → ShardAct → Deed
deed_by tx (OnShard shard number op answer) = Did (record { tx = tx; number = number; op = op; answer = answer; lsn = 0 })
deed_by tx (BackOn shard number upto) = WentBack tx number upto

abbrev pub deeds_told : List Act → List Deed
deeds_told as_ = map (λ a. deed_by a.tx a.done) as_

one_told : (n : ℕ) (tx : TxId) (x : ShardAct) → is_on n x ≡ true → told n (deed_by tx x) ≡ record { tx = tx; done = x }
one_told n tx (OnShard shard number op answer) e = ap (λ m. record { tx = tx; done = OnShard m number op answer }) (sym (eqb-true shard n e))
one_told n tx (BackOn shard number upto) e = ap (λ m. record { tx = tx; done = BackOn m number upto }) (sym (eqb-true shard n e))

pub acts_are_deeds : (n : ℕ) (as_ : List Act) → AllByRecursion (λ a. is_on n a.done ≡ true) as_ → map (told n) (deeds_told as_) ≡ as_
acts_are_deeds n [] a = refl
acts_are_deeds n (x ∷ xs) a = ap (λ y. y ∷ map (told n) (deeds_told xs)) (one_told n x.tx x.done a.0) ∙ ap (λ l. x ∷ l) (acts_are_deeds n xs a.1)

-- ---- what holds after each

same_beyond : (n : ℕ) (tx : TxId) (upto : ℕ) (x : Item) → not (is_beyond tx n upto (told_item n x)) ≡ not (is_beyond_item tx upto x)
same_beyond n tx upto x = ap (λ b. not (tx_same x.tx tx && b && nat_lt upto x.number)) (eq-eqb n n refl) ∙ ap (λ b. not (b && nat_lt upto x.number)) (and_true (tx_same x.tx tx))
  where
    and_true : (b : Bool) → (b && true) ≡ b
    and_true true = refl
    and_true false = refl

held_told : (n : ℕ) (xs : List Item) (d : Deed) → held_by (map (told_item n) xs) (told n d) (told n d).done ≡ map (told_item n) (held_with xs d)
held_told n xs (Did x) = sym (map-append (told_item n) xs (x ∷ []))
held_told n xs (WentBack tx number upto) = filter_map_is (told_item n) (λ b. not (is_beyond tx n upto b)) (λ x. not (is_beyond_item tx upto x)) (same_beyond n tx upto) xs

map_told : (n : ℕ) (m : KeyMap) (xs : List Item) → map_after m (map (told_item n) xs) ≡ after m xs
map_told n m [] = refl
map_told n m (x ∷ xs) = map_told n (op_after x.op m) xs

answer_told : (n : ℕ) (m : KeyMap) (xs : List Item) (d : Deed) → Answers m xs d → AnswersBy (map_after m (map (told_item n) xs)) (told n d).done
answer_told n m xs (Did x) a = a ∙ ap (op_answer x.op) (sym (map_told n m xs))
answer_told n m xs (WentBack tx number upto) a = tt

pub answers_told : (n : ℕ) (m : KeyMap) (xs : List Item) (ds : List Deed) (last : KeyMap) → ActsFrom m xs ds → after m (held_from xs ds) ≡ last → AnswersFrom m (map (told_item n) xs) (map (told n) ds) last
answers_told n m xs [] last a e = map_told n m xs ∙ e
answers_told n m xs (d ∷ ds) last a e = (answer_told n m xs d a.0, subst (λ l. AnswersFrom m l (map (told n) ds) last) (sym (held_told n xs d)) (answers_told n m (held_with xs d) ds last a.1 e))

answer_back : (n : ℕ) (m : KeyMap) (xs : List Item) (d : Deed) → AnswersBy (map_after m (map (told_item n) xs)) (told n d).done → Answers m xs d
answer_back n m xs (Did x) a = a ∙ ap (op_answer x.op) (map_told n m xs)
answer_back n m xs (WentBack tx number upto) a = tt

pub answers_back : (n : ℕ) (m : KeyMap) (xs : List Item) (ds : List Deed) (last : KeyMap) → AnswersFrom m (map (told_item n) xs) (map (told n) ds) last → ActsFrom m xs ds × (after m (held_from xs ds) ≡ last)
answers_back n m xs [] last a = (tt, sym (map_told n m xs) ∙ a)
answers_back n m xs (d ∷ ds) last a =
    let r = answers_back n m (held_with xs d) ds last (subst (λ l. AnswersFrom m l (map (told n) ds) last) (held_told n xs d) a.1) in ((answer_back n m xs d a.0, r.0), r.1)

-- ---- who meets whom

-- where nothing is asked of goings back
abbrev pub Back : ShardAct → Type 0
Back (OnShard shard number op answer) = ⊥
Back (BackOn shard number upto) = ⊤

pub meets_none : (a b : Act) → Back a.done ⊎ Back b.done → Meet a b → ⊥
meets_none a b k (j, p, q, w, n) = ⊎_elim (λ x. one a.done x p) (λ x. one b.done x q) k
  where
    one : (x : ShardAct) → Back x → meets_at x j ≡ true → ⊥
    one (OnShard shard number op answer) c e = c
    one (BackOn shard number upto) c e = both_ways false refl e

module _ (n : ℕ) (P : Item → Type 0) (R : Item → Item → Type 0) (Q : Act → Act → Type 0) (free : (a b : Act) → Back a.done ⊎ Back b.done → Q a b) (goes : (x y : Item) → P x → P y → R x y → Q (told_item n x) (told_item n y)) where
  heads_told : (x : Item) → P x → (ds : List Deed) → AllByRecursion P (items_in ds) → AllByRecursion (R x) (items_in ds) → AllByRecursion (Q (told_item n x)) (map (told n) ds)
  heads_told x p [] a r = tt
  heads_told x p (Did y ∷ ds) a r = (goes x y p a.0 r.0, heads_told x p ds a.1 r.1)
  heads_told x p (WentBack tx number upto ∷ ds) a r = (free (told_item n x) (told n (WentBack tx number upto)) (inr tt), heads_told x p ds a r)

  heads_any : (b : Act) → Back b.done → (as_ : List Act) → AllByRecursion (Q b) as_
  heads_any b k [] = tt
  heads_any b k (a ∷ as_) = (free b a (inl k), heads_any b k as_)

  pub later_told : (ds : List Deed) → AllByRecursion P (items_in ds) → AllLater R (items_in ds) → AllLater Q (map (told n) ds)
  later_told [] a r = tt
  later_told (Did x ∷ ds) a r = (heads_told x a.0 ds a.1 r.0, later_told ds a.1 r.1)
  later_told (WentBack tx number upto ∷ ds) a r = (heads_any (told n (WentBack tx number upto)) tt (map (told n) ds), later_told ds a r)

module _ (n : ℕ) (P : Item → Type 0) (R : Item → Item → Type 0) (Q : Act → Act → Type 0) (goes : (x y : Item) → P x → P y → Q (told_item n x) (told_item n y) → R x y) where
  heads_back : (x : Item) → P x → (ds : List Deed) → AllByRecursion P (items_in ds) → AllByRecursion (Q (told_item n x)) (map (told n) ds) → AllByRecursion (R x) (items_in ds)
  heads_back x p [] a r = tt
  heads_back x p (Did y ∷ ds) a r = (goes x y p a.0 r.0, heads_back x p ds a.1 r.1)
  heads_back x p (WentBack tx number upto ∷ ds) a r = heads_back x p ds a r.1

  pub later_back : (ds : List Deed) → AllByRecursion P (items_in ds) → AllLater Q (map (told n) ds) → AllLater R (items_in ds)
  later_back [] a r = tt
  later_back (Did x ∷ ds) a r = (heads_back x a.0 ds a.1 r.0, later_back ds a.1 r.1)
  later_back (WentBack tx number upto ∷ ds) a r = later_back ds a r.1

pub clash_of : (n : ℕ) (x y : Item) → Meet (told_item n x) (told_item n y) → Clash x y
clash_of n x y (k, p, q, inl w, b) = (k, p, q, (λ f. absurd (both_ways _ f (written_at x.op x.answer k w))), b)
clash_of n x y (k, p, q, inr w, b) = (k, p, q, (λ f. written_at y.op y.answer k w), b)

-- each answers as some map does
abbrev pub IsAnswered : Item → Type 0
IsAnswered x = (m : KeyMap) × (x.answer ≡ op_answer x.op m)

pub all_answered : (m : KeyMap) (xs : List Item) (ds : List Deed) → ActsFrom m xs ds → AllByRecursion IsAnswered (items_in ds)
all_answered m xs [] a = tt
all_answered m xs (Did x ∷ ds) a = ((after m xs, a.0), all_answered m (xs ++ x ∷ []) ds a.1)
all_answered m xs (WentBack tx number upto ∷ ds) a = all_answered m (held_with xs (WentBack tx number upto)) ds a.1

written_from : (o : Op) (a : Answer) (m : KeyMap) (k : ℕ) → a ≡ op_answer o m → is_write_at (writes_of o (value_told a)) k ≡ true → key_written o a ≡ Some k
written_from (Get j) a m k f e = absurd (both_ways false refl e)
written_from (Put j v) a m k f e = ap (λ z. Some z) (sym (eqb-true k j e))
written_from (Del j) (Value (Some v)) m k f e = ap (λ z. Some z) (sym (eqb-true k j e))
written_from (Del j) (Value None) m k f e = absurd (both_ways false refl e)
written_from (Del j) (Pairs ps) m k f e = absurd cc
written_from (Del j) (Added b) m k f e = absurd cc
written_from (Scan lo hi) a m k f e = absurd (both_ways false refl e)
written_from (Add j n) a m k f e =
    subst (λ x. key_written (Add j n) x ≡ Some k) (sym f) (at (is_number (map_get j m)) (subst (λ x. is_write_at (writes_of (Add j n) (value_told x)) k ≡ true) f e))
  where
    at : (b : Bool) → is_write_at (writes_of (Add j n) (value_told (Added b))) k ≡ true → key_written (Add j n) (Added b) ≡ Some k
    at true e = ap (λ z. Some z) (sym (eqb-true k j e))
    at false e = absurd (both_ways false refl e)

pub meet_of : (n : ℕ) (x y : Item) → IsAnswered x → IsAnswered y → Clash x y → Meet (told_item n x) (told_item n y)
meet_of n x y f g (k, p, q, w, b) =
    ⊎_elim (λ e. (k, p, q, inl (written_from x.op x.answer f.0 k f.1 e), b)) (λ e. (k, p, q, inr (written_from y.op y.answer g.0 k g.1 (w e)), b)) (cases_Bool (is_write_at (writes_of x.op (value_told x.answer)) k))

-- ---- and nobody between an operation and its going back

beyond_told : (n : ℕ) (tx : TxId) (upto : ℕ) (x : Item) → is_beyond tx n upto (told_item n x) ≡ is_beyond_item tx upto x
beyond_told n tx upto x = ap (λ b. tx_same x.tx tx && b && nat_lt upto x.number) (eq-eqb n n refl) ∙ ap (λ b. b && nat_lt upto x.number) (and_true (tx_same x.tx tx))
  where
    and_true : (b : Bool) → (b && true) ≡ b
    and_true true = refl
    and_true false = refl

no_items : (ds : List Deed) → AllByRecursion (λ x. ⊤) (items_in ds)
no_items [] = tt
no_items (Did x ∷ ds) = (tt, no_items ds)
no_items (WentBack tx number upto ∷ ds) = no_items ds

none_told : (n : ℕ) (tx : TxId) (upto : ℕ) (ds : List Deed) → AllLater (λ x y. is_beyond_item tx upto x ≡ true → IsApartFrom x y) (items_in ds)
    → AllLater (λ a b. is_beyond tx n upto a ≡ true → Meet a b → a.tx ≡ b.tx) (map (told n) ds)
none_told n tx upto ds r =
    later_told n (λ x. ⊤) (λ x y. is_beyond_item tx upto x ≡ true → IsApartFrom x y) (λ a b. is_beyond tx n upto a ≡ true → Meet a b → a.tx ≡ b.tx) (λ a b k e m. absurd (meets_none a b k m))
    (λ x y p q k e m. k (sym (beyond_told n tx upto x) ∙ e) (clash_of n x y m)) ds (no_items ds) r

pub between_told : (n : ℕ) (pre ds : List Deed) → NobodyBetweenDeeds (items_in pre) ds → NobodyBetween (map (told n) pre) (map (told n) ds)
between_told n pre [] k = tt
between_told n pre (Did x ∷ ds) k =
    (tt, subst (λ l. NobodyBetween l (map (told n) ds)) (map-append (told n) pre (Did x ∷ [])) (between_told n (pre ++ Did x ∷ []) ds (subst (λ l. NobodyBetweenDeeds l ds) (sym (items_append pre (Did x ∷ []))) k)))
between_told n pre (WentBack tx number upto ∷ ds) k =
    let d = WentBack tx number upto in
    (none_told n tx upto pre k.0, subst (λ l. NobodyBetween l (map (told n) ds)) (map-append (told n) pre (d ∷ [])) (between_told n (pre ++ d ∷ []) ds (subst (λ l. NobodyBetweenDeeds l ds) (sym (items_append pre (d ∷ []) ∙ append-nil (items_in pre))) k.1)))

none_back : (n : ℕ) (tx : TxId) (upto : ℕ) (ds : List Deed) → AllByRecursion IsAnswered (items_in ds) → AllLater (λ a b. is_beyond tx n upto a ≡ true → Meet a b → a.tx ≡ b.tx) (map (told n) ds)
    → AllLater (λ x y. is_beyond_item tx upto x ≡ true → IsApartFrom x y) (items_in ds)
none_back n tx upto ds a r =
    later_back n IsAnswered (λ x y. is_beyond_item tx upto x ≡ true → IsApartFrom x y) (λ a b. is_beyond tx n upto a ≡ true → Meet a b → a.tx ≡ b.tx)
    (λ x y p q k e c. k (beyond_told n tx upto x ∙ e) (meet_of n x y p q c)) ds a r

pub between_back : (n : ℕ) (pre ds : List Deed) → AllByRecursion IsAnswered (items_in pre) → AllByRecursion IsAnswered (items_in ds) → NobodyBetween (map (told n) pre) (map (told n) ds) → NobodyBetweenDeeds (items_in pre) ds
between_back n pre [] p a k = tt
between_back n pre (Did x ∷ ds) p a k =
    subst (λ l. NobodyBetweenDeeds l ds) (items_append pre (Did x ∷ []))
    (between_back n (pre ++ Did x ∷ []) ds (subst (AllByRecursion IsAnswered) (sym (items_append pre (Did x ∷ []))) (all_push IsAnswered (items_in pre) x p a.0)) a.1
    (subst (λ l. NobodyBetween l (map (told n) ds)) (sym (map-append (told n) pre (Did x ∷ []))) k.1))
between_back n pre (WentBack tx number upto ∷ ds) p a k =
    let d = WentBack tx number upto in
    let e : items_in (pre ++ d ∷ []) ≡ items_in pre = items_append pre (d ∷ []) ∙ append-nil (items_in pre) in (
      none_back n tx upto pre p k.0,
      subst (λ l. NobodyBetweenDeeds l ds) e
          (between_back n (pre ++ d ∷ []) ds (subst (AllByRecursion IsAnswered) (sym e) p) a (subst (λ l. NobodyBetween l (map (told n) ds)) (sym (map-append (told n) pre (d ∷ []))) k.1)),
    )
