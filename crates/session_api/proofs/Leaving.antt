-- What an abort and a beginning tell of a session's entries.
use Rattle.std.proofs.Common.{◌≡◌, ◌∙◌, ◌⊎◌, refl, sym, ap, subst, inl, inr, ℕ, ◌<◌, ◌==◌, ◌&&◌, Bool, true, false, cond, suc, List, [], ◌∷◌, ◌++◌, append-nil, length, Option, Some, None, Result, Ok, Err, arith, eqb-true, eq-eqb}
use Rattle.std.specs.Prelude.{is_some, IfOk}
use Rattle.std.specs.List.{AllByRecursion}
use Rattle.std.specs.Map.{lookup}
use Rattle.std.proofs.lemmas.Bool.{both_ways}
use Rattle.std.proofs.lemmas.List.Folds.{list_any-append}
use Rattle.clv_base.specs.declared.names.TxId.{TxId}
use Rattle.clv_base.specs.declared.names.Birth.{Birth}
use Rattle.clv_base.specs.declared.names.Point.{Point}
use Rattle.clv_base.specs.declared.events.Event.TheVariants.{Drop}
use Rattle.clv_base.specs.declared.events.Outcome.{Outcome}
use Rattle.clv_base.specs.declared.events.Outcome.TheVariants.{Dropped, Absent, Down as DownOut}
use Rattle.clv_base.specs.declared.events.Entry.{Entry}
use Rattle.clv_base.specs.Sessions.{SessionState, no_session, begun, is_of_session}
use Rattle.clv_base.specs.Shards.{shard_count}
use Rattle.clv_base.proofs.SameNames.{or_left, or_right}
use Rattle.machine_calls.specs.declared.machine.StepError.{StepError}
use Rattle.machine_calls.specs.declared.machine.StepError.TheVariants.{Memory as NoMemory, Worn as IsWorn}
use Rattle.cluster_turns.specs.Dates.{last_seen}
use Rattle.cluster_turns.specs.declared.shards.Shards.{Shards}
use Rattle.cluster_turns.specs.declared.shards.Walker.{Walker}
use Rattle.cluster_turns.specs.declared.shards.WornClock.{WornClock}
use Rattle.cluster_turns.specs.Walkers.{kept}
use Rattle.cluster_turns.specs.CallTurns.{Turn, Took, AnyTurn, entry_on}
use Rattle.cluster_turns.specs.Answers.{is_kept, may_come_to, HasItsOutcome}
use Rattle.cluster_turns.proofs.Laws.{touched_are_last, touched_are_shards, worn_is_last}
use Rattle.script_runs.specs.Sessions.{session_entries}
use Rattle.session_ops.specs.Dropped.{Dropping, Drops, is_worn}
use Rattle.session_ops.specs.Standings.{IsUnasked}
use Rattle.script_runs.specs.Tries.{is_touched}
use Rattle.script_runs.specs.Seen.{Standing, Idle, Active}
use Rattle.script_runs.specs.Told.{Begins, AreDropsOf, DropsEach, AbortTold}
use Rattle.session_api.specs.Grounds.{is_vain_answer, IsVain, here, HasMissedBy, HasMissed}
use Rattle.session_api.specs.Seeing.{seen_as, touched_in, is_active, after_abort, abort_end}
use Rattle.session_api.specs.ToldLaws.{AbortsTell, BeginningsTell, RetriesTell}
use Rattle.session_api.proofs.Following.{IsPlain, are_plain, made_in, made_of}
use Rattle.session_api.proofs.Pointing.{are_drops, seen_grows}
use Rattle.law_base.proofs.Names.{birth_same as some_birth}

-- ---- a drop on each touched shard

-- what made no entry came to nothing, where stamps weren't wanting
vain_answer : (tx : TxId) (t : Turn) → t.event ≡ Drop tx → is_some t.made ≡ is_kept t.answer → HasItsOutcome t → is_worn t.answer ≡ false → t.made ≡ None → is_vain_answer t.answer ≡ true
vain_answer tx t event has outcome unworn none = at t.answer (sym has ∙ ap is_some none) (subst (λ e. IfOk t.answer (λ o. may_come_to e o ≡ true)) event outcome) unworn
  where
    by_outcome : (o : Outcome) → is_kept (Ok o) ≡ false → may_come_to (Drop tx) o ≡ true → is_vain_answer (Ok o) ≡ true
    by_outcome Dropped k f = absurd (both_ways true k refl)
    by_outcome Absent k f = refl
    by_outcome DownOut k f = refl
    by_outcome _ k f = absurd (both_ways false refl f)

    at : (r : Result Outcome StepError) → is_kept r ≡ false → IfOk r (λ o. may_come_to (Drop tx) o ≡ true) → is_worn r ≡ false → is_vain_answer r ≡ true
    at (Ok o) k f u = by_outcome o k f
    at (Err NoMemory) k f u = refl
    at (Err (IsWorn m)) k f u = absurd (both_ways true u refl)

-- of the turns on a shard one made a drop, or came to nothing
each_drop : (w : ℕ) (tx : TxId) (touched : List (ℕ × ℕ)) (n : ℕ) (ts : List Turn) → AllByRecursion (Drops tx touched None) ts → AllByRecursion (IsPlain w) ts → AllByRecursion (λ t. is_worn t.answer ≡ false) ts → AnyTurn (λ t. t.shard ≡ n) ts
    → (is_touched (made_in ts) n ≡ true) ⊎ AnyTurn (IsVain tx n) ts
each_drop w tx touched n [] d plain unworn any = absurd any
each_drop w tx touched n (t ∷ ts) d plain unworn any = subst (λ es. (is_touched es n ≡ true) ⊎ AnyTurn (IsVain tx n) (t ∷ ts)) (sym (made_of t ts (ap is_of_session d.0.event))) (by any (each_drop w tx touched n ts d.1 plain.1 unworn.1))
  where
    on : (t.shard ≡ n) → (m : Option Entry) → t.made ≡ m → (is_touched (entry_on t.shard m ++ made_in ts) n ≡ true) ⊎ AnyTurn (IsVain tx n) (t ∷ ts)
    on there None is = inr (inl (record { event = d.0.event; shard = there; answer = vain_answer tx t d.0.event plain.0.has plain.0.outcome unworn.0 is }))
    on there (Some x) is = inl (or_left (t.shard == n) (is_touched (made_in ts) n) (eq-eqb t.shard n there))

    by : (t.shard ≡ n) ⊎ AnyTurn (λ t. t.shard ≡ n) ts → (AnyTurn (λ t. t.shard ≡ n) ts → (is_touched (made_in ts) n ≡ true) ⊎ AnyTurn (IsVain tx n) ts)
        → (is_touched (entry_on t.shard t.made ++ made_in ts) n ≡ true) ⊎ AnyTurn (IsVain tx n) (t ∷ ts)
    by (inl there) rest = on there t.made refl
    by (inr more) rest = behind (rest more)
      where
        behind : (is_touched (made_in ts) n ≡ true) ⊎ AnyTurn (IsVain tx n) ts → (is_touched (entry_on t.shard t.made ++ made_in ts) n ≡ true) ⊎ AnyTurn (IsVain tx n) (t ∷ ts)
        behind (inl k) = inl (list_any-append (λ e. e.0 == n) (entry_on t.shard t.made) (made_in ts) ∙ or_right (is_touched (entry_on t.shard t.made) n) (is_touched (made_in ts) n) k)
        behind (inr k) = inr (inr k)

-- the touched shards are some that there are
found_below : (count n : ℕ) (ts : List (ℕ × ℕ)) → AllByRecursion (λ x. x.0 < count) ts → touched_in ts n ≡ true → n < count
found_below count n [] all h = absurd (both_ways false refl h)
found_below count n (t ∷ ts) all h = at (λ k. found_below count n ts all.1 k) (n == t.0) refl h
  where
    at : (touched_in ts n ≡ true → n < count) → (b : Bool) → (n == t.0) ≡ b → is_some (cond b (Some t.1) (lookup (◌==◌ n) ts)) ≡ true → n < count
    at rest true is k = subst (λ m. m < count) (sym (eqb-true n t.0 is)) all.0
    at rest false is k = rest k

module _ {M S G : Type 0} (sh : Shards M S G) (w : Walker M S G) (p : SessionState) where
  pub all_below : IsUnasked sh w p → (n : ℕ) → touched_in p.touched n ≡ true → n < length sh.locks.items
  all_below (inr ending) n h =
      let ready = (ending.over).ready in
      let c = (ready.walker).count in
      let l = found_below (shard_count sh.splits) n p.touched (touched_are_shards sh.splits sh.run w.number (kept w.passes.items) p ready.state) h in omega arith
  all_below (inl active) n h =
      let same : p ≡ active.state = touched_are_last active.state p active.goes (inl (λ none. both_ways false refl (subst (λ ts. touched_in ts n ≡ true) none h))) in
      let all = touched_are_shards sh.splits sh.run w.number (kept w.passes.items) active.state (active.ready).state in
      let c = ((active.ready).walker).count in
      let l = found_below (shard_count sh.splits) n p.touched (subst (λ (z : SessionState). AllByRecursion (λ x. x.0 < shard_count sh.splits) z.touched) (sym same) all) h in omega arith

pub aborts_tell : (M S G A : Type 0) → AbortsTell M S G A
aborts_tell M S G A sh w v asked p birth r en unasked has same d = at r d
  where
    drops : (r : Result A WornClock) (d : Dropping w.number w.clock w.passes.items p.tx p.touched None 0 (length sh.locks.items) r v.clock v.passes.items) → AreDropsOf p.tx (touched_in p.touched) None (made_in d.turns)
    drops r d = are_drops w.number p.tx p.touched None d.turns d.only (are_plain w.number w.clock v.clock w.passes.items v.passes.items d.turns d.took)

    missed : (n : ℕ) (ts : List Turn) → Took w.number w.clock w.passes.items ts v.clock v.passes.items → AnyTurn (IsVain p.tx n) ts → HasMissed v p.tx n (session_entries (kept w.passes.items))
    missed n ts took vain =
        subst (λ k. HasMissedBy k v.passes.items p.tx n (session_entries (kept w.passes.items))) (sym same.0)
        (record { before = w.passes.items; after = v.passes.items; clock = w.clock; clock_after = v.clock; turns = ts; entries = refl; took = took; vain = vain; later = here })

    each : (a : A) (d : Dropping w.number w.clock w.passes.items p.tx p.touched None 0 (length sh.locks.items) (Ok a) v.clock v.passes.items)
        → DropsEach (touched_in p.touched) (made_in d.turns) (λ n. HasMissed v p.tx n (session_entries (kept w.passes.items)))
    each a d n h =
        by (each_drop w.number p.tx p.touched n d.turns d.only (are_plain w.number w.clock v.clock w.passes.items v.passes.items d.turns d.took) d.told
        (d.each n (omega arith) (all_below sh w p unasked n h) (ap (λ b. b && true) h)))
      where
        by : (is_touched (made_in d.turns) n ≡ true) ⊎ AnyTurn (IsVain p.tx n) d.turns → (is_touched (made_in d.turns) n ≡ true) ⊎ HasMissed v p.tx n (session_entries (kept w.passes.items))
        by (inl k) = inl k
        by (inr k) = inr (missed n d.turns d.took k)

    at : (r : Result A WornClock) → Dropping w.number w.clock w.passes.items p.tx p.touched None 0 (length sh.locks.items) r v.clock v.passes.items
        → AbortTold (HasMissed v) p.tx birth (touched_in p.touched) (abort_end r) (seen_as sh w asked (is_active p birth)) (seen_as sh v asked (after_abort birth r en))
    at (Ok a) d = (made_in d.turns, drops (Ok a) d, seen_grows sh w v asked asked (is_active p birth) (Idle (Some birth)) d.turns same d.took, refl, each a d)
    at (Err worn) d =
        (made_in d.turns, drops (Err worn) d, seen_grows sh w v asked asked (is_active p birth) en d.turns same d.took, (worn_is_last worn.at w.number w.clock v.clock w.passes.items v.passes.items d.turns d.took d.told).1)

-- the next transaction p has this birth, and made nothing so far
begun_begins : (M S G : Type 0) (sh : Shards M S G) (w v : Walker M S G) (asked : Point) (p : SessionState) (birth : Birth) (st : Standing)
    → p ≡ begun (no_session sh.run w.number) (record { run = sh.run; session = w.number; serial = suc w.serial }) birth
    → v ≡ record w { clock = suc w.clock; serial = suc w.serial } → Begins birth (seen_as sh w asked st) (seen_as sh v asked (is_active p birth))
begun_begins M S G sh w v asked p birth st place walker_is =
    let clock : v.clock ≡ suc w.clock = ap (λ z. z.clock) walker_is in
    let serial : v.serial ≡ suc w.serial = ap (λ z. z.serial) walker_is in
    let name = ap (λ z. z.tx) place in
    record {
      tx = p.tx;
      run_is = ap (λ z. z.run) name;
      session_is = ap (λ z. z.session) name;
      serial_is = ap (λ z. z.serial) name ∙ sym serial;
      rises = (omega arith);
      grows =
          record {
            splits_are = refl;
            run_is = refl;
            walker_is = ap (λ z. z.number) walker_is;
            entries_are = ap (λ z. session_entries (kept z.passes.items)) walker_is ∙ sym (append-nil _);
            clock_rises = (omega arith);
            serial_is = (omega arith);
            latest_rises = (let l = ap (λ z. last_seen z.passes.items) walker_is in omega arith);
            dated = (omega arith);
            stamped = tt;
          };
      active = ap (λ z. Active p.tx birth z.nth (touched_in z.touched)) place;
    }

pub beginnings_tell : (M S G : Type 0) → BeginningsTell M S G
beginnings_tell M S G sh w v asked p again b =
    let clock : v.clock ≡ suc w.clock = ap (λ z. z.clock) b.walker_is in
    let stamp : (b.birth).stamp ≡ suc w.clock = ap (λ z. z.stamp) b.birth_is in
    let place = b.is (no_session sh.run w.number) in (
      b.birth,
      ap (λ z. z.birth) place,
      ap (λ z. z.session) b.birth_is,
      (omega arith),
      (omega arith),
      begun_begins M S G sh w v asked p b.birth (Idle again) place b.walker_is,
    )

pub retries_tell : (M S G : Type 0) → RetriesTell M S G
retries_tell M S G sh w v asked last p birth is r =
    let same : r.birth ≡ birth = some_birth r.birth birth (sym r.birth_is ∙ is) in
    let place = r.is (no_session sh.run w.number) in
    let begins : Begins r.birth (seen_as sh w asked (Idle (Some birth))) (seen_as sh v asked (is_active p r.birth)) = begun_begins M S G sh w v asked p r.birth (Idle (Some birth)) place r.walker_is in
    (ap (λ z. z.birth) place ∙ ap (λ (b : Birth). Some b) same, subst (λ (b : Birth). Begins b (seen_as sh w asked (Idle (Some birth))) (seen_as sh v asked (is_active p b))) same begins)
