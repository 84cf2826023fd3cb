-- The entries of an operation at a key.
use Rattle.std.proofs.Common.{◌≡◌, ◌∙◌, refl, sym, ap, subst, ℕ, suc, ◌+◌, Bool, true, false, cond, ◌||◌, ◌==◌, List, [], ◌∷◌, ◌++◌, append-nil, length, Option, Some, None, Result, Ok, Err, inl, inr, arith, eqb-true, eq-eqb}
use Rattle.std.specs.Prelude.{◌⊎◌, ⊤, is_some, not, IfOk}
use Rattle.std.specs.List.{AllByRecursion}
use Rattle.std.specs.Map.{lookup}
use Rattle.std.specs.BTreeMap.{insert_entry}
use Rattle.std.specs.Ordering.{nat_cmp, match_ordering, is_eq}
use Rattle.clv_base.proofs.SameNames.{nat_cmp_true}
use Rattle.std.specs.declared.cmp.Ordering.{Ordering}
use Rattle.std.specs.declared.cmp.Ordering.TheVariants.{Less, Equal, Greater}
use Rattle.std.proofs.lemmas.Bool.{both_ways, and_parts}
use Rattle.clv_base.specs.declared.names.TxId.{TxId}
use Rattle.clv_base.specs.declared.names.Birth.{Birth}
use Rattle.clv_base.specs.declared.names.Point.{Point}
use Rattle.clv_base.specs.declared.ops.Op.{Op as Operation}
use Rattle.clv_base.specs.declared.ops.Op.TheVariants.{Add}
use Rattle.clv_base.specs.declared.ops.Answer.{Answer}
use Rattle.clv_base.specs.declared.ops.Answer.TheVariants.{Value, Pairs, Added}
use Rattle.clv_base.specs.declared.events.Event.{Event}
use Rattle.clv_base.specs.declared.events.Event.TheVariants.{Op, Drop}
use Rattle.clv_base.specs.declared.events.Outcome.{Outcome}
use Rattle.clv_base.specs.declared.events.Outcome.TheVariants.{Answered, Dead, Dropped, Absent, Down as DownOut}
use Rattle.clv_base.specs.declared.events.Entry.{Entry}
use Rattle.clv_base.specs.Journals.{History}
use Rattle.clv_base.specs.Shards.{shard_of}
use Rattle.clv_base.specs.Sessions.{SessionState, lies_in, is_of_session, touch}
use Rattle.cluster_turns.specs.declared.shards.Shards.{Shards}
use Rattle.cluster_turns.specs.declared.shards.Walker.{Walker}
use Rattle.cluster_turns.specs.Walkers.{IsSameWalker, kept}
use Rattle.cluster_turns.specs.States.{after_from, session_of, GoesOnBy}
use Rattle.cluster_turns.specs.CallTurns.{Turn, Took, entry_on}
use Rattle.cluster_turns.specs.Answers.{is_kept, may_answer, may_come_to}
use Rattle.cluster_turns.proofs.Laws.{clock_rises, sessions_grow, turns_are_dated}
use Rattle.session_ops.specs.declared.operating.OpError.{OpError}
use Rattle.session_ops.specs.declared.operating.OpError.TheVariants as op
use Rattle.session_ops.specs.Standing.{IsActive}
use Rattle.session_ops.specs.Operated.{PlacedBy, answered_in}
use Rattle.session_ops.specs.Dropped.{Drops, is_excepted}
use Rattle.session_ops.specs.Parts.{has_died, value_in, added_in, LeftBy, Performing, PointTold, StandsUnless}
use Rattle.session_ops.proofs.Laws.{value_died, added_died}
use Rattle.script_runs.specs.declared.ends.TryEnd.{TryEnd}
use Rattle.script_runs.specs.Operations.{IsBegun, IsPart, ArePartsAnswered, answer_of, first_answer, no_part, part}
use Rattle.script_runs.specs.Tries.{is_touched}
use Rattle.script_runs.specs.Seen.{Standing, Idle, Active, Grows}
use Rattle.script_runs.specs.Told.{IsDropOf, AreDropsOf, TouchesBy, TouchesJust, OperateTold}
use Rattle.session_api.specs.Seeing.{seen_as, touched_in, is_active, unless_dead, op_end, value_end, added_end}
use Rattle.session_api.specs.ToldLaws.{IsAt, gets, puts, dels, PointsTell, AddsTell}
use Rattle.session_api.proofs.Parts.{HasKey, of_value, adds, at_part}
use Rattle.session_api.proofs.Following.{IsPlain, are_plain, all_before, all_behind, made_in, made_in_more, made_of, between, turns_lead}
use Rattle.session_api.proofs.ToldOperating.{IsLastOn, EntriesBy, GoesUnless, entries_by}
use Rattle.session_api.proofs.Stamping.{made_stamped}
use Rattle.law_base.proofs.Shards.{some_session as some_same}

-- ---- touched shards

found_or : (b : Bool) (v : ℕ) (o : Option ℕ) → is_some (cond b (Some v) o) ≡ true → (b ≡ true) ⊎ (is_some o ≡ true)
found_or true v o h = inl refl
found_or false v o h = inr h

or_found : (b : Bool) (v : ℕ) (o : Option ℕ) → (b ≡ true) ⊎ (is_some o ≡ true) → is_some (cond b (Some v) o) ≡ true
or_found true v o h = refl
or_found false v o (inl h) = absurd (both_ways false refl h)
or_found false v o (inr h) = h

inserted : (n epoch m : ℕ) (ts : List (ℕ × ℕ)) → touched_in (insert_entry nat_cmp ts n epoch) m ≡ true → (touched_in ts m ≡ true) ⊎ ((m == n) ≡ true)
inserted n epoch m [] h = by (found_or (m == n) epoch None h)
  where
    by : ((m == n) ≡ true) ⊎ (touched_in [] m ≡ true) → (touched_in [] m ≡ true) ⊎ ((m == n) ≡ true)
    by (inl k) = inr k
    by (inr k) = inl k
inserted n epoch m (t ∷ ts) h = at (inserted n epoch m ts) (nat_cmp n t.0) h
  where
    first : ((m == n) ≡ true) ⊎ (touched_in (t ∷ ts) m ≡ true) → (touched_in (t ∷ ts) m ≡ true) ⊎ ((m == n) ≡ true)
    first (inl k) = inr k
    first (inr k) = inl k

    later : (touched_in (insert_entry nat_cmp ts n epoch) m ≡ true → (touched_in ts m ≡ true) ⊎ ((m == n) ≡ true)) → ((m == t.0) ≡ true) ⊎ (touched_in (insert_entry nat_cmp ts n epoch) m ≡ true) → (touched_in (t ∷ ts) m ≡ true) ⊎ ((m == n) ≡ true)
    later rest (inl k) = inl (or_found (m == t.0) t.1 (lookup (◌==◌ m) ts) (inl k))
    later rest (inr k) = deeper (rest k)
      where
        deeper : (touched_in ts m ≡ true) ⊎ ((m == n) ≡ true) → (touched_in (t ∷ ts) m ≡ true) ⊎ ((m == n) ≡ true)
        deeper (inl j) = inl (or_found (m == t.0) t.1 (lookup (◌==◌ m) ts) (inr j))
        deeper (inr j) = inr j

    at : (touched_in (insert_entry nat_cmp ts n epoch) m ≡ true → (touched_in ts m ≡ true) ⊎ ((m == n) ≡ true)) → (o : Ordering) → touched_in (match_ordering o ((n, epoch) ∷ t ∷ ts) ((t.0, epoch) ∷ ts) (t ∷ insert_entry nat_cmp ts n epoch)) m ≡ true → (touched_in (t ∷ ts) m ≡ true) ⊎ ((m == n) ≡ true)
    at rest Less k = first (found_or (m == n) epoch (lookup (◌==◌ m) (t ∷ ts)) k)
    at rest Equal k = inl (or_found (m == t.0) t.1 (lookup (◌==◌ m) ts) (found_or (m == t.0) epoch (lookup (◌==◌ m) ts) k))
    at rest Greater k = later rest (found_or (m == t.0) t.1 (lookup (◌==◌ m) (insert_entry nat_cmp ts n epoch)) k)

pub touched_by : (n epoch : ℕ) (ts : List (ℕ × ℕ)) (m : ℕ) → touched_in (touch n epoch ts) m ≡ true → (touched_in ts m ≡ true) ⊎ ((m == n) ≡ true)
touched_by n epoch ts m h = at (is_some (lookup (◌==◌ n) ts)) h
  where
    at : (b : Bool) → touched_in (cond b ts (insert_entry nat_cmp ts n epoch)) m ≡ true → (touched_in ts m ≡ true) ⊎ ((m == n) ≡ true)
    at true k = inl k
    at false k = inserted n epoch m ts k

-- an entry on the shard touches it
pub touches_one : (n epoch : ℕ) (ts us : List (ℕ × ℕ)) (x : Entry) → us ≡ touch n epoch ts → TouchesBy (touched_in ts) ((n, x) ∷ []) (touched_in us)
touches_one n epoch ts us x is m h = at (touched_by n epoch ts m (subst (λ l. touched_in l m ≡ true) is h))
  where
    at : (touched_in ts m ≡ true) ⊎ ((m == n) ≡ true) → (touched_in ts m ≡ true) ⊎ (is_touched ((n, x) ∷ []) m ≡ true)
    at (inl k) = inl k
    at (inr k) = inr (ap (λ b. b || false) (eq-eqb n m (sym (eqb-true m n k))))

-- what was touched stays so
stays_in : (n epoch m : ℕ) (ts : List (ℕ × ℕ)) → touched_in ts m ≡ true → touched_in (insert_entry nat_cmp ts n epoch) m ≡ true
stays_in n epoch m [] h = absurd (both_ways false refl h)
stays_in n epoch m (t ∷ ts) h = at (nat_cmp n t.0) (stays_in n epoch m ts)
  where
    at : (o : Ordering) → (touched_in ts m ≡ true → touched_in (insert_entry nat_cmp ts n epoch) m ≡ true) → touched_in (match_ordering o ((n, epoch) ∷ t ∷ ts) ((t.0, epoch) ∷ ts) (t ∷ insert_entry nat_cmp ts n epoch)) m ≡ true
    at Less rest = or_found (m == n) epoch (lookup (◌==◌ m) (t ∷ ts)) (inr h)
    at Equal rest = or_found (m == t.0) epoch (lookup (◌==◌ m) ts) (found_or (m == t.0) t.1 (lookup (◌==◌ m) ts) h)
    at Greater rest = by (found_or (m == t.0) t.1 (lookup (◌==◌ m) ts) h)
      where
        by : ((m == t.0) ≡ true) ⊎ (touched_in ts m ≡ true) → touched_in (t ∷ insert_entry nat_cmp ts n epoch) m ≡ true
        by (inl k) = or_found (m == t.0) t.1 (lookup (◌==◌ m) (insert_entry nat_cmp ts n epoch)) (inl k)
        by (inr k) = or_found (m == t.0) t.1 (lookup (◌==◌ m) (insert_entry nat_cmp ts n epoch)) (inr (rest k))

new_in : (n epoch : ℕ) (ts : List (ℕ × ℕ)) → touched_in (insert_entry nat_cmp ts n epoch) n ≡ true
new_in n epoch [] = or_found (n == n) epoch None (inl (eq-eqb n n refl))
new_in n epoch (t ∷ ts) = at (nat_cmp n t.0) refl (new_in n epoch ts)
  where
    at : (o : Ordering) → nat_cmp n t.0 ≡ o → touched_in (insert_entry nat_cmp ts n epoch) n ≡ true → touched_in (match_ordering o ((n, epoch) ∷ t ∷ ts) ((t.0, epoch) ∷ ts) (t ∷ insert_entry nat_cmp ts n epoch)) n ≡ true
    at Less is rest = or_found (n == n) epoch (lookup (◌==◌ n) (t ∷ ts)) (inl (eq-eqb n n refl))
    at Equal is rest = or_found (n == t.0) epoch (lookup (◌==◌ n) ts) (inl (eq-eqb n t.0 (nat_cmp_true n t.0 (ap is_eq is))))
    at Greater is rest = or_found (n == t.0) t.1 (lookup (◌==◌ n) (insert_entry nat_cmp ts n epoch)) (inr rest)

pub touch_stays : (n epoch m : ℕ) (ts : List (ℕ × ℕ)) → touched_in ts m ≡ true → touched_in (touch n epoch ts) m ≡ true
touch_stays n epoch m ts h = at (is_some (lookup (◌==◌ n) ts))
  where
    at : (b : Bool) → touched_in (cond b ts (insert_entry nat_cmp ts n epoch)) m ≡ true
    at true = h
    at false = stays_in n epoch m ts h

pub touch_new : (n epoch : ℕ) (ts : List (ℕ × ℕ)) → touched_in (touch n epoch ts) n ≡ true
touch_new n epoch ts = at (is_some (lookup (◌==◌ n) ts)) refl
  where
    at : (b : Bool) → is_some (lookup (◌==◌ n) ts) ≡ b → touched_in (cond b ts (insert_entry nat_cmp ts n epoch)) n ≡ true
    at true is = is
    at false is = new_in n epoch ts

pub touches_just_one : (n epoch : ℕ) (ts us : List (ℕ × ℕ)) (x : Entry) → us ≡ touch n epoch ts → TouchesJust (touched_in ts) ((n, x) ∷ []) (touched_in us)
touches_just_one n epoch ts us x is = record {
  only = touches_one n epoch ts us x is;
  stay = λ m h. subst (λ l. touched_in l m ≡ true) (sym is) (touch_stays n epoch m ts h);
  new = λ m h. subst (λ l. touched_in l m ≡ true) (sym is) (subst (λ k. touched_in (touch n epoch ts) k ≡ true) (eqb-true n m (or_none (n == m) h)) (touch_new n epoch ts));
}
  where
    or_none : (b : Bool) → (b || false) ≡ true → b ≡ true
    or_none true h = refl
    or_none false h = h

pub touches_just_none : (touched : ℕ → Bool) → TouchesJust touched [] touched
touches_just_none touched = record { only = λ m h. inl h; stay = λ m h. h; new = λ m h. absurd (both_ways false refl h) }

pub touches_none : (touched : ℕ → Bool) (es : History) → TouchesBy touched es touched
touches_none touched es m h = inl h

-- ---- growing

module _ {M S G : Type 0} (sh : Shards M S G) where
  pub seen_grows : (w v : Walker M S G) (a b : Point) (st en : Standing) (ts : List Turn) → IsSameWalker w v → Took w.number w.clock w.passes.items ts v.clock v.passes.items → Grows (made_in ts) (seen_as sh w a st) (seen_as sh v b en)
  seen_grows w v a b st en ts same took = record {
    splits_are = refl;
    run_is = refl;
    walker_is = same.0;
    entries_are = sessions_grow w.number w.clock v.clock w.passes.items v.passes.items ts took;
    clock_rises = clock_rises w.number w.clock v.clock w.passes.items v.passes.items ts took;
    serial_is = (let k = same.1 in omega arith);
    latest_rises = (turns_are_dated w.number w.clock v.clock w.passes.items v.passes.items ts took).0;
    dated = (let d = (turns_are_dated w.number w.clock v.clock w.passes.items v.passes.items ts took).1 in omega arith);
    stamped = made_stamped w.number w.clock v.clock w.passes.items v.passes.items ts took;
  }

  pub grows_by : (w v : Walker M S G) (a b : Point) (st en : Standing) (ts : List Turn) (es : History) → IsSameWalker w v → Took w.number w.clock w.passes.items ts v.clock v.passes.items → made_in ts ≡ es → Grows es (seen_as sh w a st) (seen_as sh v b en)
  grows_by w v a b st en ts es same took is = subst (λ l. Grows l (seen_as sh w a st) (seen_as sh v b en)) is (seen_grows w v a b st en ts same took)

-- ---- drops

-- what a drop turn made, if anything
pub one_drop : (w : ℕ) (tx : TxId) (touched : List (ℕ × ℕ)) (except : Option ℕ) (t : Turn) (x : Entry) → Drops tx touched except t → IsPlain w t → t.made ≡ Some x → IsDropOf tx (touched_in touched) except (t.shard, x)
one_drop w tx touched except t x d plain is =
    let m = plain.entry x is in
    record {
      event = m.1 ∙ d.event;
      outcome = dropped x.outcome (subst (λ a. IfOk a (λ o. may_come_to t.event o ≡ true)) m.2 plain.outcome) (subst (λ a. is_some t.made ≡ is_kept a) m.2 plain.has);
      on_touched = (and_parts (is_some (lookup (◌==◌ t.shard) touched)) _ d.shard).0;
      other = λ k. absurd (both_ways (not (is_excepted except t.shard)) (ap not (excepted except t.shard k)) (and_parts (is_some (lookup (◌==◌ t.shard) touched)) _ d.shard).1);
    }
  where
    excepted : (except : Option ℕ) (n : ℕ) → except ≡ Some n → is_excepted except n ≡ true
    excepted None n k = absurd cc
    excepted (Some m) n k = eq-eqb m n (let s : m ≡ n = cc in s)

    dropped : (o : Outcome) → may_come_to t.event o ≡ true → is_some t.made ≡ is_kept (Ok o) → o ≡ Dropped
    dropped o fits kept_ = at o (ap (λ e. may_come_to e o) (sym d.event) ∙ fits) (sym kept_ ∙ ap is_some is)
      where
        at : (o : Outcome) → may_come_to (Drop tx) o ≡ true → is_kept (Ok o) ≡ true → o ≡ Dropped
        at Dropped f k = refl
        at Absent f k = absurd (both_ways false refl k)
        at DownOut f k = absurd (both_ways false refl k)
        at o f k = absurd (both_ways false refl f)

pub are_drops : (w : ℕ) (tx : TxId) (touched : List (ℕ × ℕ)) (except : Option ℕ) (ts : List Turn) → AllByRecursion (Drops tx touched except) ts → AllByRecursion (IsPlain w) ts → AreDropsOf tx (touched_in touched) except (made_in ts)
are_drops w tx touched except [] d plain = tt
are_drops w tx touched except (t ∷ ts) d plain =
    subst (λ es. AreDropsOf tx (touched_in touched) except es) (sym (made_of t ts (ap is_of_session d.0.event))) (at (are_drops w tx touched except ts d.1 plain.1) t.made refl)
  where
    at : AreDropsOf tx (touched_in touched) except (made_in ts) → (m : Option Entry) → t.made ≡ m → AreDropsOf tx (touched_in touched) except (entry_on t.shard m ++ made_in ts)
    at rest None is = rest
    at rest (Some x) is = (one_drop w tx touched except t x d.0 plain.0 is, rest)

-- ---- one operation on one shard

module _ {M S G : Type 0} (sh : Shards M S G) (w v : Walker M S G) where
  -- the state after it
  state_after : (q : SessionState) (b : Bool) → StandsUnless b sh v q → v.number ≡ w.number → (u : SessionState) × (session_of sh.splits sh.run w.number (kept v.passes.items) ≡ Some u) × (b ≡ false → GoesOnBy u q)
  state_after q true h number = (q, subst (λ k. session_of sh.splits sh.run k (kept v.passes.items) ≡ Some q) number h.ending.over.ready.state, λ k. absurd (both_ways true k refl))
  state_after q false h number = (h.state, subst (λ k. session_of sh.splits sh.run k (kept v.passes.items) ≡ Some h.state) number h.ready.state, λ k. h.goes)

  goes_unless : (u q : SessionState) (r : Result Answer OpError) → (has_died r ≡ false → GoesOnBy u q) → GoesUnless r u q
  goes_unless u q (Ok answer) h = h refl
  goes_unless u q (Err (op.Aborted cause)) h = tt
  goes_unless u q (Err (op.Down m)) h = h refl
  goes_unless u q (Err (op.Worn at)) h = h refl
  goes_unless u q (Err op.Memory) h = h refl

  left_none : (count n : ℕ) (tx : TxId) (touched : List (ℕ × ℕ)) (b : Bool) (ts : List Turn) → LeftBy count n tx touched b ts → b ≡ false → ts ≡ []
  left_none count n tx touched true ts h k = absurd (both_ways true k refl)
  left_none count n tx touched false ts h k = h

  -- what the operation's own turns made
  pub asked_entries : (n nth : ℕ) (birth : Birth) (o : Operation) (p q : SessionState) (r : Result Answer OpError) → IsActive sh w p → p.birth ≡ Some birth → v.number ≡ w.number → ((m : ℕ) → lies_in sh.splits m o ≡ true → IsLastOn sh.splits m o)
      → (h : Performing (length sh.locks.items) w.number w.clock w.passes.items n p (Op p.tx birth nth (lookup (◌==◌ n) p.touched) o) r v.clock v.passes.items) → PlacedBy n nth o p (answered_in r) q → StandsUnless (has_died r) sh v q
      → EntriesBy n (Op p.tx birth nth (lookup (◌==◌ n) p.touched) o) r (made_in h.asking)
  asked_entries n nth birth o p q r active has number each h place stands =
      let t = active.state in
      let after = state_after q (has_died r) stands number in
      let plain = are_plain w.number w.clock v.clock w.passes.items v.passes.items (h.asking ++ h.leaving) h.took in
      let leads = turns_lead sh.splits sh.run w.number w.clock v.clock w.passes.items v.passes.items (h.asking ++ h.leaving) t after.0 h.took active.ready.state after.1 in
      let m = between sh.splits t after.0 (made_in h.asking) (made_in h.leaving) (ap (after_from sh.splits (Some t)) (sym (made_in_more h.asking h.leaving)) ∙ leads) in
      let stays : has_died r ≡ false → GoesOnBy m.0 q =
      λ k. subst (λ z. GoesOnBy z q)
      (sym (some_same m.0 after.0 (sym (ap (λ ts. after_from sh.splits (Some m.0) (made_in ts)) (left_none (length sh.locks.items) n p.tx p.touched (has_died r) h.leaving h.left k)) ∙ m.2))) (after.2 k) in
      entries_by sh.splits w.number n nth birth (lookup (◌==◌ n) p.touched) o t p m.0 h.asking each active.goes active.touching has (all_before (IsPlain w.number) h.asking h.leaving plain) h.only m.1 q r h.told place
      (goes_unless m.0 q r stays)

  pub others_drop : (count n : ℕ) (p : SessionState) (e : Event) (r : Result Answer OpError) (h : Performing count w.number w.clock w.passes.items n p e r v.clock v.passes.items)
      → AreDropsOf p.tx (touched_in p.touched) (Some n) (made_in h.leaving)
  others_drop count n p e r h =
      are_drops w.number p.tx p.touched (Some n) h.leaving h.drops
      (all_behind (IsPlain w.number) h.asking h.leaving (are_plain w.number w.clock v.clock w.passes.items v.passes.items (h.asking ++ h.leaving) h.took))

  -- an answer leaves no drops
  pub made_asking : (count n : ℕ) (p : SessionState) (e : Event) (r : Result Answer OpError) (h : Performing count w.number w.clock w.passes.items n p e r v.clock v.passes.items) → has_died r ≡ false
      → made_in (h.asking ++ h.leaving) ≡ made_in h.asking
  made_asking count n p e r h k = made_in_more h.asking h.leaving ∙ ap (λ ts. made_in h.asking ++ made_in ts) (left_none count n p.tx p.touched (has_died r) h.leaving h.left k) ∙ append-nil (made_in h.asking)

-- ---- at a key

at_answer : (key : ℕ) (o : Operation) (answers : List Answer) → HasKey key o → answer_of o answers ≡ first_answer answers
at_answer key _ answers (of_value gets) = refl
at_answer key _ answers (of_value (puts value)) = refl
at_answer key _ answers (of_value dels) = refl
at_answer key _ answers (adds by) = refl

at_last : (splits : List ℕ) (key : ℕ) (o : Operation) → HasKey key o → (n : ℕ) → lies_in splits n o ≡ true → IsLastOn splits n o
at_last splits key _ (of_value gets) n l m k = refl
at_last splits key _ (of_value (puts value)) n l m k = refl
at_last splits key _ (of_value dels) n l m k = refl
at_last splits key _ (adds by) n l m k = refl

-- a whole answer, as a try takes it
abbrev pub whole_end : Result Answer OpError → Result Answer TryEnd
whole_end (Ok answer) = Ok answer
whole_end (Err e) = Err (op_end e)

-- an answer is one that the operation may have
abbrev pub MayHave : Operation → Result Answer OpError → Type 0
MayHave o (Ok answer) = may_answer o answer ≡ true
MayHave o (Err e) = ⊤

may_have : (n nth : ℕ) (tx : TxId) (birth : Birth) (seen : Option ℕ) (o : Operation) (r : Result Answer OpError) (es : History) → EntriesBy n (Op tx birth nth seen o) r es → MayHave o r
may_have n nth tx birth seen o (Ok answer) es (x, epoch, is, event, outcome, fits) = fits
may_have n nth tx birth seen o (Err e) es h = tt

-- what is told of an operation's answer, and what a try takes of that, come to the answer
pub record Takes {A : Type 0} (key : ℕ) (o : Operation) (tells : Result Answer OpError → Result A OpError) (ends : Result A OpError → Result Answer TryEnd) : Type 0 where
  pub at : HasKey key o
  pub died : (r : Result Answer OpError) → has_died (tells r) ≡ has_died r
  pub whole : (r : Result Answer OpError) → MayHave o r → ends (tells r) ≡ whole_end r
  pub fails : (e : OpError) → ends (Err e) ≡ Err (op_end e)

value_whole : (key : ℕ) (o : Operation) → IsAt key o → (r : Result Answer OpError) → MayHave o r → value_end (value_in r) ≡ whole_end r
value_whole key o is (Ok (Value value)) h = refl
value_whole key _ gets (Ok (Pairs pairs)) h = absurd (both_ways false refl h)
value_whole key _ (puts value) (Ok (Pairs pairs)) h = absurd (both_ways false refl h)
value_whole key _ dels (Ok (Pairs pairs)) h = absurd (both_ways false refl h)
value_whole key _ gets (Ok (Added found)) h = absurd (both_ways false refl h)
value_whole key _ (puts value) (Ok (Added found)) h = absurd (both_ways false refl h)
value_whole key _ dels (Ok (Added found)) h = absurd (both_ways false refl h)
value_whole key o is (Err e) h = refl

added_whole : (key by : ℕ) (r : Result Answer OpError) → MayHave (Add key by) r → added_end (added_in r) ≡ whole_end r
added_whole key by (Ok (Value value)) h = absurd (both_ways false refl h)
added_whole key by (Ok (Pairs pairs)) h = absurd (both_ways false refl h)
added_whole key by (Ok (Added found)) h = refl
added_whole key by (Err e) h = refl

pub takes_value : (key : ℕ) (o : Operation) → IsAt key o → Takes key o value_in value_end
takes_value key o is = record { at = of_value is; died = value_died; whole = value_whole key o is; fails = λ e. refl }

pub takes_added : (key by : ℕ) → Takes key (Add key by) added_in added_end
takes_added key by = record { at = adds by; died = added_died; whole = added_whole key by; fails = λ e. refl }

module _ {M S G : Type 0} (sh : Shards M S G) (w v : Walker M S G) (p : SessionState) (birth : Birth) (key : ℕ) (o : Operation) where
  abbrev Performs : Result Answer OpError → Type 0
  Performs r = Performing (length sh.locks.items) w.number w.clock w.passes.items (shard_of sh.splits key) p (Op p.tx birth (p.nth + 1) (lookup (◌==◌ (shard_of sh.splits key)) p.touched) o) r v.clock v.passes.items

  abbrev Entered : (r : Result Answer OpError) → Performs r → Type 0
  Entered r h = EntriesBy (shard_of sh.splits key) (Op p.tx birth (p.nth + 1) (lookup (◌==◌ (shard_of sh.splits key)) p.touched) o) r (made_in h.asking)

module _ {M S G : Type 0} (sh : Shards M S G) (w v : Walker M S G) (asked : Point) (p q : SessionState) (birth : Birth) (key : ℕ) (o : Operation) (is_at : HasKey key o) (has : p.birth ≡ Some birth) (same : IsSameWalker w v) where
  next : p.nth + 1 ≡ suc p.nth
  next = omega arith

  as_part : (x : Entry) (out : Outcome) → x.event ≡ Op p.tx birth (p.nth + 1) (lookup (◌==◌ (shard_of sh.splits key)) p.touched) o → x.outcome ≡ out → IsPart p.tx birth (suc p.nth) (shard_of sh.splits key, o) out (shard_of sh.splits key, x)
  as_part x out event outcome = record {
    shard = refl;
    seen = lookup (◌==◌ (shard_of sh.splits key)) p.touched;
    event = event ∙ ap (λ k. Op p.tx birth k (lookup (◌==◌ (shard_of sh.splits key)) p.touched) o) next;
    outcome = outcome;
  }

  begun : IsBegun sh.splits p.tx birth (suc p.nth) o []
  begun = record { done = []; next = (shard_of sh.splits key, o); left = []; parts = at_part sh.splits key o is_at; answers = []; answered = no_part }

  point : (r : Result Answer OpError) (h : Performs sh w v p birth key o r) → PlacedBy (shard_of sh.splits key) (p.nth + 1) o p (answered_in r) q → Entered sh w v p birth key o r h
      → OperateTold p.tx birth p.nth (touched_in p.touched) o (whole_end r) (seen_as sh w asked (is_active p birth)) (seen_as sh v asked (unless_dead q birth (has_died r)))
  point (Ok answer) h (epoch', place) (x, epoch, is, event, outcome, fits) = (
    (shard_of sh.splits key, x) ∷ [],
    touched_in q.touched,
    record {
      answers = answer ∷ [];
      parts =
          subst (λ ps. ArePartsAnswered p.tx birth (suc p.nth) ps (answer ∷ []) ((shard_of sh.splits key, x) ∷ [])) (sym (at_part sh.splits key o is_at))
          (part (shard_of sh.splits key, o) answer epoch (shard_of sh.splits key, x) [] [] [] (as_part x (Answered answer epoch) event outcome) no_part);
      whole = sym (at_answer key o (answer ∷ []) is_at);
    },
    touches_just_one (shard_of sh.splits key) epoch' p.touched q.touched x (ap (λ z. z.touched) place),
    grows_by sh w v asked asked (is_active p birth) (is_active q birth) (h.asking ++ h.leaving) ((shard_of sh.splits key, x) ∷ []) same h.took
        (made_asking sh w v (length sh.locks.items) (shard_of sh.splits key) p (Op p.tx birth (p.nth + 1) (lookup (◌==◌ (shard_of sh.splits key)) p.touched) o) (Ok answer) h refl ∙ is),
    ap (λ t. Active t birth q.nth (touched_in q.touched)) (ap (λ z. z.tx) place) ∙ ap (λ k. Active p.tx birth k (touched_in q.touched)) (ap (λ z. z.nth) place ∙ next),
  )
  point (Err (op.Aborted cause)) h place (x, is, event, outcome) = (
    (shard_of sh.splits key, x) ∷ [],
    made_in h.leaving,
    shard_of sh.splits key,
    touched_in p.touched,
    record {
      done = [];
      next = (shard_of sh.splits key, o);
      left = [];
      parts = at_part sh.splits key o is_at;
      answers = [];
      before = [];
      last = (shard_of sh.splits key, x);
      entries = refl;
      answered = no_part;
      died = as_part x (Dead cause) event outcome;
      shard = refl;
    },
    touches_none (touched_in p.touched) ((shard_of sh.splits key, x) ∷ []),
    others_drop sh w v (length sh.locks.items) (shard_of sh.splits key) p (Op p.tx birth (p.nth + 1) (lookup (◌==◌ (shard_of sh.splits key)) p.touched) o) (Err (op.Aborted cause)) h,
    grows_by sh w v asked asked (is_active p birth) (Idle (Some birth)) (h.asking ++ h.leaving) ((shard_of sh.splits key, x) ∷ [] ++ made_in h.leaving) same h.took (made_in_more h.asking h.leaving ∙ ap (λ es. es ++ made_in h.leaving) is),
    refl,
  )
  point (Err (op.Down m)) h place is = (
    [],
    touched_in p.touched,
    begun,
    touches_just_none (touched_in p.touched),
    grows_by sh w v asked asked (is_active p birth) (is_active q birth) (h.asking ++ h.leaving) [] same h.took
        (made_asking sh w v (length sh.locks.items) (shard_of sh.splits key) p (Op p.tx birth (p.nth + 1) (lookup (◌==◌ (shard_of sh.splits key)) p.touched) o) (Err (op.Down m)) h refl ∙ is),
    (p.nth, ap (λ z. is_active z birth) place),
  )
  point (Err (op.Worn at)) h place is = (
    [],
    touched_in p.touched,
    begun,
    touches_just_none (touched_in p.touched),
    grows_by sh w v asked asked (is_active p birth) (is_active q birth) (h.asking ++ h.leaving) [] same h.took
        (made_asking sh w v (length sh.locks.items) (shard_of sh.splits key) p (Op p.tx birth (p.nth + 1) (lookup (◌==◌ (shard_of sh.splits key)) p.touched) o) (Err (op.Worn at)) h refl ∙ is),
    (p.nth, ap (λ z. is_active z birth) place),
  )
  point (Err op.Memory) h place is = (
    [],
    touched_in p.touched,
    inl begun,
    touches_just_none (touched_in p.touched),
    grows_by sh w v asked asked (is_active p birth) (is_active q birth) (h.asking ++ h.leaving) [] same h.took
        (made_asking sh w v (length sh.locks.items) (shard_of sh.splits key) p (Op p.tx birth (p.nth + 1) (lookup (◌==◌ (shard_of sh.splits key)) p.touched) o) (Err op.Memory) h refl ∙ is),
    (p.nth, ap (λ z. is_active z birth) place),
  )

-- ---- as it is told

module _ {M S G A : Type 0} (tells : Result Answer OpError → Result A OpError) (ends : Result A OpError → Result Answer TryEnd) (sh : Shards M S G) (w v : Walker M S G) (p q : SessionState) (birth : Birth) (key : ℕ) (o : Operation) (r : Result A OpError)
    (takes : Takes key o tells ends) (active : IsActive sh w p) (has : p.birth ≡ Some birth) (same : IsSameWalker w v) (told : PointTold tells sh w p o key r v q) (stands : StandsUnless (has_died r) sh v q) where
  entered : Entered sh w v p birth key o told.answer (told.turns birth has)
  entered =
      asked_entries sh w v (shard_of sh.splits key) (p.nth + 1) birth o p q told.answer active has same.0 (at_last sh.splits key o takes.at) (told.turns birth has) told.place
      (subst (λ b. StandsUnless b sh v q) (ap has_died told.is ∙ takes.died told.answer) stands)

  -- the try takes the whole answer
  pub takes_whole : ends r ≡ whole_end told.answer
  takes_whole = ap ends told.is ∙ takes.whole told.answer (may_have (shard_of sh.splits key) (p.nth + 1) p.tx birth (lookup (◌==◌ (shard_of sh.splits key)) p.touched) o told.answer (made_in (told.turns birth has).asking) entered)

  pub point_told : (asked : Point) → OperateTold p.tx birth p.nth (touched_in p.touched) o (ends r) (seen_as sh w asked (is_active p birth)) (seen_as sh v asked (unless_dead q birth (has_died r)))
  point_told asked =
      subst (λ z. OperateTold p.tx birth p.nth (touched_in p.touched) o z (seen_as sh w asked (is_active p birth)) (seen_as sh v asked (unless_dead q birth (has_died r)))) (sym takes_whole)
      (subst (λ b. OperateTold p.tx birth p.nth (touched_in p.touched) o (whole_end told.answer) (seen_as sh w asked (is_active p birth)) (seen_as sh v asked (unless_dead q birth b))) (sym (ap has_died told.is ∙ takes.died told.answer))
      (point sh w v asked p q birth key o takes.at has same told.answer (told.turns birth has) told.place entered))

pub points_tell : (M S G : Type 0) → PointsTell M S G
points_tell M S G sh w v asked p q birth key o r is_at active has same told stands = point_told value_in value_end sh w v p q birth key o r (takes_value key o is_at) active has same told stands asked

pub adds_tell : (M S G : Type 0) → AddsTell M S G
adds_tell M S G sh w v asked p q birth key by r active has same told stands = point_told added_in added_end sh w v p q birth key (Add key by) r (takes_added key by) active has same told stands asked
