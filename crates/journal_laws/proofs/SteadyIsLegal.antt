-- A world stays steady through each step, and a steady world's history is legal.
pub mod SameMessagesWereSent
pub mod AnsweredStepsMakeEntries
use Rattle.std.proofs.Common.{◌≡◌, ◌⊎◌, inl, inr, ⊎_elim, refl, sym, ap, subst, ◌∙◌, ℕ, zero, suc, ◌+◌, ◌<◌, ◌≤◌, max, true, false, cond, not, ◌&&◌, Bool, List, [], ◌∷◌, ◌++◌, length, Option, Some, None, ◌==◌, nat_lt, nat_le, arith, eqb-true}
use Rattle.std.specs.Prelude.{◌^◌, slice_get, slice_set, is_none}
use Rattle.std.specs.List.{AllByRecursion, list_all}
use Rattle.std.proofs.lemmas.Bool.{both_ways, and_from, and_parts, or_cases, or_left, or_right, lt-ltb, le-leb, leb-true, leb-false, eq-eqb, not-true}
use Rattle.std.proofs.lemmas.Option.{none-some}
use Rattle.clv_base.specs.declared.logs.LogRecord.{LogRecord}
use Rattle.clv_base.specs.declared.events.Event.{Event}
use Rattle.clv_base.specs.declared.events.Event.TheVariants.{FlushIn}
use Rattle.clv_base.specs.declared.events.Outcome.{Outcome}
use Rattle.clv_base.specs.declared.events.Outcome.TheVariants.{Durable, Failed}
use Rattle.clv_base.specs.declared.events.Entry.{Entry}
use Rattle.clv_base.specs.declared.events.CoreStep.{CoreStep}
use Rattle.clv_base.specs.Shards.{shard_count, are_splits}
use Rattle.clv_base.specs.LogRules.{log_of, all_logs_from, committed_of_all, first_apart, apart}
use Rattle.clv_base.specs.FileRules.{log_passes, have_spellings}
use Rattle.clv_base.specs.State.{Shard}
use Rattle.clv_base.specs.Events.{CallAnswer, Quiet, Worn, Enters, next_stamp}
use Rattle.clv_base.specs.Restarts.{opened, run_after, log_left}
use Rattle.clv_base.specs.Sessions.{is_session, is_of_session, is_session_number}
use Rattle.clv_base.specs.Journals.{History, journal_of, own, start_of, stamp_bound, FlushMay, has_no_equal_active_birth}
use Rattle.clv_base.specs.History.{WasSent}
use Rattle.clv_base.specs.Core.{World, new_world, opened_from, clock_of, put_entry, step_answer, entry_of, after_answer}
use Rattle.clv_base.specs.Runs.{was_sent, goes_on_session, is_allowed, allows_answer, run_on, run_from, run_events}
use Rattle.law_base.proofs.Lists.{all_mono, few_shards as few_splits}
use Rattle.law_base.proofs.Restarts.{left_length}
use Rattle.history_cases.proofs.Durability.{opened_counted}
use Rattle.history_cases.proofs.Merging.{Placed, InOrder, in_order, Among, among_all, in_journal}
use Rattle.history_laws.proofs.NeverTakenBack.LaterHistoriesHoldMembers.{left_at}
use Rattle.clv_base.specs.Machines.{Makes, Runs}
use Rattle.journal_laws.specs.Walkers.{StampsRise, is_numbered}
use Rattle.journal_laws.specs.Worlds.{empty_logs, count_past, LandsInTime, Steady, StepsKeepSteady, shard_at, logs_now, SteadyIsLegal, RunEventsIsLegal, EmptyLogsMayBeOpened}
use Rattle.journal_laws.proofs.RunsGoOn.{runs_go_on, fronts_run}
use Rattle.journal_laws.proofs.Entries.JournalsTellHistories.{ordered}
use Rattle.journal_laws.proofs.Entries.WalkersOwnEntries.{own_mine, own_append}
use Rattle.journal_laws.proofs.GatheredIsLegal.{whole_is_legal}
use Rattle.journal_laws.proofs.SteadyIsLegal.SameMessagesWereSent.{was_sent_before}
use Rattle.journal_laws.proofs.Entries.EntryAtItsPlace.{Above, Place, place, put_in_order, put_here, put_there, put_own, put_others, put_all, put_tests, put_sent, rises_push, tests_push, stands_first}
use Rattle.journal_laws.proofs.SteadyIsLegal.AnsweredStepsMakeEntries.{Answers, answers, Bounds, has_room, may_pass, bounds, makes_entry, lands_after}
use Rattle.journal_laws.proofs.WalkersGoOn.{others_keep_sessions}
use Rattle.law_base.proofs.Shards.{shard_inside as within}

-- ---- one shard of a list, and a new one in its place

set_here : (xs : List Shard) (i : ℕ) (x y : Shard) → slice_get xs i ≡ Some x → slice_get (slice_set xs i y) i ≡ Some y
set_here [] i x y h = absurd (none-some x h)
set_here (z ∷ zs) zero x y h = refl
set_here (z ∷ zs) (suc i) x y h = set_here zs i x y h

set_there : (xs : List Shard) (i n : ℕ) (y : Shard) → (i ≡ n → ⊥) → slice_get (slice_set xs i y) n ≡ slice_get xs n
set_there [] i n y d = refl
set_there (z ∷ zs) zero zero y d = absurd (d refl)
set_there (z ∷ zs) zero (suc n) y d = refl
set_there (z ∷ zs) (suc i) zero y d = refl
set_there (z ∷ zs) (suc i) (suc n) y d = set_there zs i n y (λ e. d (ap suc e))

set_length : (xs : List Shard) (i : ℕ) (y : Shard) → length (slice_set xs i y) ≡ length xs
set_length [] i y = refl
set_length (z ∷ zs) zero y = refl
set_length (z ∷ zs) (suc i) y = let e = set_length zs i y in omega (arith, e)

same_shard : {a b : Shard} → Some a ≡ Some b → a ≡ b
same_shard h = cc

-- ---- how many have a stamp past the bound

past_few : (xs : List Shard) → count_past xs ≤ length xs
past_few [] = omega arith
past_few (s ∷ ss) = at (nat_le (2 ^ 48) s.last) (past_few ss)
  where
    at : (b : Bool) → count_past ss ≤ length ss → cond b 1 0 + count_past ss ≤ suc (length ss)
    at true l = omega (arith, l)
    at false l = omega (arith, l)

below_bound : (n : ℕ) → n < 2 ^ 48 → nat_le (2 ^ 48) n ≡ false
below_bound n l = at (nat_le (2 ^ 48) n) refl
  where
    at : (b : Bool) → nat_le (2 ^ 48) n ≡ b → b ≡ false
    at true h = absurd (let k = leb-true (2 ^ 48) n h in omega (arith, k, l))
    at false h = refl

pub past_not_all : (xs : List Shard) (i : ℕ) (s : Shard) → slice_get xs i ≡ Some s → s.last < 2 ^ 48 → count_past xs < length xs
past_not_all [] i s h l = absurd (none-some s h)
past_not_all (z ∷ zs) zero s h l =
    let e : nat_le (2 ^ 48) z.last ≡ false = below_bound z.last (subst (λ x. x.last < 2 ^ 48) (sym (same_shard h)) l) in
    let f : count_past (z ∷ zs) ≡ 0 + count_past zs = ap (λ b. cond b 1 0 + count_past zs) e in
    let g = past_few zs in
    omega (arith, f, g)
past_not_all (z ∷ zs) (suc i) s h l = at (nat_le (2 ^ 48) z.last) (past_not_all zs i s h l)
  where
    at : (b : Bool) → count_past zs < length zs → cond b 1 0 + count_past zs < suc (length zs)
    at true l = omega (arith, l)
    at false l = omega (arith, l)

-- a stamp that rises takes none away
past_grows : (xs : List Shard) (i : ℕ) (s t : Shard) → slice_get xs i ≡ Some s → s.last ≤ t.last → count_past xs ≤ count_past (slice_set xs i t)
past_grows [] i s t h l = omega arith
past_grows (z ∷ zs) zero s t h l = at (nat_le (2 ^ 48) z.last) (nat_le (2 ^ 48) t.last) refl refl
  where
    same : z.last ≡ s.last
    same = ap (λ x. x.last) (same_shard h)

    at : (a b : Bool) → nat_le (2 ^ 48) z.last ≡ a → nat_le (2 ^ 48) t.last ≡ b → cond a 1 0 + count_past zs ≤ cond b 1 0 + count_past zs
    at true true p q = omega arith
    at true false p q = absurd (let j = leb-true (2 ^ 48) z.last p in let k = leb-false (2 ^ 48) t.last q in omega (arith, j, k, same, l))
    at false true p q = omega arith
    at false false p q = omega arith
past_grows (z ∷ zs) (suc i) s t h l = let k = past_grows zs i s t h l in omega (arith, k)

-- one that passes the bound adds one
past_one_more : (xs : List Shard) (i : ℕ) (s t : Shard) → slice_get xs i ≡ Some s → s.last < 2 ^ 48 → 2 ^ 48 ≤ t.last → suc (count_past xs) ≤ count_past (slice_set xs i t)
past_one_more [] i s t h l m = absurd (none-some s h)
past_one_more (z ∷ zs) zero s t h l m =
    let e : nat_le (2 ^ 48) z.last ≡ false = below_bound z.last (subst (λ x. x.last < 2 ^ 48) (sym (same_shard h)) l) in
    let f : nat_le (2 ^ 48) t.last ≡ true = le-leb (2 ^ 48) t.last m in
    let g : count_past (z ∷ zs) ≡ 0 + count_past zs = ap (λ b. cond b 1 0 + count_past zs) e in
    let k : count_past (t ∷ zs) ≡ 1 + count_past zs = ap (λ b. cond b 1 0 + count_past zs) f in
    omega (arith, g, k)
past_one_more (z ∷ zs) (suc i) s t h l m = let k = past_one_more zs i s t h l m in omega (arith, k)

-- ---- clocks and last stamps

clock_above : (w : ℕ) (h : History) → AllByRecursion (λ f. (f.1).walker ≡ w → (f.1).stamp ≤ clock_of w h) h
clock_above w [] = tt
clock_above w (e ∷ es) = at ((e.1).walker == w) refl (clock_above w es)
  where
    at : (b : Bool) → ((e.1).walker == w) ≡ b → AllByRecursion (λ f. (f.1).walker ≡ w → (f.1).stamp ≤ clock_of w es) es
        → AllByRecursion (λ f. (f.1).walker ≡ w → (f.1).stamp ≤ max (cond b (e.1).stamp 0) (clock_of w es)) (e ∷ es)
    at true p a = (λ q. omega arith, all_mono _ _ (λ f k q. let l = k q in omega (arith, l)) es a)
    at false p a = (λ q. absurd (both_ways ((e.1).walker == w) p (eq-eqb (e.1).walker w q)), all_mono _ _ (λ f k q. let l = k q in omega (arith, l)) es a)

pub clock_below : (w b : ℕ) (h : History) → 0 < b → AllByRecursion (λ f. (f.1).stamp < b) h → clock_of w h < b
clock_below w b [] l a = l
clock_below w b (e ∷ es) l a = at ((e.1).walker == w) (clock_below w b es l a.1)
  where
    at : (c : Bool) → clock_of w es < b → max (cond c (e.1).stamp 0) (clock_of w es) < b
    at true k = let m = a.0 in omega (arith, k, m)
    at false k = omega (arith, k, l)

runs_below : (s : Shard) (es : List Entry) (t : Shard) → Runs s es t → (s.last ≤ t.last) × AllByRecursion (λ e. e.stamp ≤ t.last) es
runs_below s [] t r = (let e = ap (λ x. x.last) r in omega (arith, e), tt)
runs_below s (e ∷ es) t (u, m, r) =
    let q = runs_below u es t r in
    let last : u.last ≡ e.stamp = ap (λ z. z.last) m.entered in
    let k = q.0 in
    let rises = m.rises in
    (omega (arith, last, k, rises), (omega (arith, last, k), q.1))

all_from_among : (P : Placed → Type 0) (h : History) → ((x : Placed) → Among x h → P x) → AllByRecursion P h
all_from_among P [] k = tt
all_from_among P (e ∷ es) k = (k e (inl refl), all_from_among P es (λ x i. k x (inr i)))

-- ---- a step that enters

stays_in_time : (s : Shard) (clock walker : ℕ) (e : Event) (o : Outcome) (t : Shard) → Answers s clock walker e o t → Bounds s clock e → LandsInTime t
stays_in_time s clock walker e o t a (has_room l) u n f = let last : t.last ≡ next_stamp s clock e = ap (λ x. x.last) a.is in omega (arith, last, l)
stays_in_time s clock walker _ o t a may_pass u n f =
    absurd (lands_after s o a.after a.becomes (sym (ap (λ x. x.is_up) a.is) ∙ u) n (sym (ap (λ x. x.flight) a.is) ∙ f))

flies : (s : Shard) (o : Outcome) → FlushMay s o → (n : ℕ) × (s.flight ≡ Some n)
flies s (Durable n) f = (n, f)
flies s Failed f = f
flies s _ f = absurd f

-- the bound that the entry keeps, and that of all entries then
pub record Fitting (s : Shard) (clock : ℕ) (e : Event) (xs : List Shard) (i : ℕ) (t : Shard) : Type 0 where
  pub bounded : next_stamp s clock e < stamp_bound e
  pub stamped : t.last < 2 ^ 48 + count_past (slice_set xs i t)

room_bounds : (e : Event) (n : ℕ) → n < 2 ^ 48 → n < stamp_bound e
room_bounds FlushIn n l = omega (arith, l)
room_bounds _ n l = l

fitting : (s : Shard) (clock walker : ℕ) (e : Event) (o : Outcome) (t : Shard) (xs : List Shard) (i : ℕ) → length xs ≤ 16 → slice_get xs i ≡ Some s → clock < 2 ^ 48 + count_past xs → LandsInTime s
    → Answers s clock walker e o t → Bounds s clock e → Fitting s clock e xs i t
fitting s clock walker e o t xs i few g c d a (has_room l) =
    let last : t.last ≡ next_stamp s clock e = ap (λ x. x.last) a.is in record { bounded = room_bounds e (next_stamp s clock e) l; stamped = omega (arith, last, l) }
fitting s clock walker _ o t xs i few g c d a may_pass =
    let last : t.last ≡ next_stamp s clock FlushIn = ap (λ x. x.last) a.is in
    let b = a.becomes in
    let f = flies s o b.1 in
    let low : s.last < 2 ^ 48 = d b.0 f.0 f.1 in
    let most = past_not_all xs i s g low in
    record { bounded = omega (arith, c, low, most, few); stamped = at (nat_le (2 ^ 48) t.last) refl last low }
  where
    at : (b : Bool) → nat_le (2 ^ 48) t.last ≡ b → t.last ≡ next_stamp s clock FlushIn → s.last < 2 ^ 48 → t.last < 2 ^ 48 + count_past (slice_set xs i t)
    at true p last low =
        let k = past_one_more xs i s t g low (leb-true (2 ^ 48) t.last p) in omega (arith, k, last, low, c)
    at false p last low = let k = leb-false (2 ^ 48) t.last p in omega (arith, k)

-- what the tests of a step say of its entry
pub record Allowed (splits : List ℕ) (w : World) (s : Shard) (x : Placed) : Type 0 where
  pub births : has_no_equal_active_birth s (x.1).event ≡ true
  pub session : goes_on_session splits w s.run x ≡ true
  pub sent : was_sent w.history (x.1).event ≡ true

allowed : (splits : List ℕ) (w : World) (s : Shard) (x : Placed) → is_allowed splits w s x ≡ true → Allowed splits w s x
allowed splits w s x h =
    let p = and_parts (has_no_equal_active_birth s (x.1).event && goes_on_session splits w s.run x) (was_sent w.history (x.1).event) h in
    let q = and_parts (has_no_equal_active_birth s (x.1).event) (goes_on_session splits w s.run x) p.0 in
    record { births = q.0; session = q.1; sent = p.1 }

steady_on : (splits : List ℕ) (before : List (List LogRecord)) (w : World) (c : CoreStep) (s : Shard) (o : Outcome) (t : Shard) → are_splits splits ≡ true → Steady splits before w
    → slice_get w.shards c.shard ≡ Some s → step_answer w c s ≡ Enters o t → is_allowed splits w s (c.shard, entry_of c o t) ≡ true → Steady splits before (after_answer w c (Enters o t))
steady_on splits before w c s o t few k g h test =
    record {
      shards = set_length w.shards c.shard t ∙ k.shards;
      runs = λ n u e. runs_at n u e (c.shard == n) refl;
      lands = λ n u e. lands_at n u e (c.shard == n) refl;
      stamped = put_all (λ e. (e.1).stamp < 2 ^ 48 + count_past (slice_set w.shards c.shard t)) x w.history fit.stamped (all_mono _ _ (λ f l. omega (arith, l, grows)) w.history k.stamped);
      ordered = ordered (put_entry x w.history) (put_in_order x w.history spot turn);
      in_shards = put_tests (λ e. nat_lt e.0 (shard_count splits)) x w.history (lt-ltb c.shard (shard_count splits) (subst (λ n. c.shard < n) k.shards (within w.shards c.shard s g))) k.in_shards;
      stamps = λ v. stamps_of v (c.walker == v) refl;
      sessions = λ v. sessions_of v (c.walker == v) refl;
      numbered = λ v. numbered_of v (c.walker == v) refl;
      messages = put_sent x w.history spot k.messages sent_first;
    }
  where
    clock : ℕ
    clock = clock_of c.walker w.history

    x : Placed
    x = (c.shard, entry_of c o t)

    a : Allowed splits w s (c.shard, entry_of c o t)
    a = allowed splits w s (c.shard, entry_of c o t) test

    answer : Answers s (clock_of c.walker w.history) c.walker c.event o t
    answer = answers s (clock_of c.walker w.history) c c.event o t h a.births

    bound : Bounds s (clock_of c.walker w.history) c.event
    bound = bounds s (clock_of c.walker w.history) c c.event o t h

    fit : Fitting s (clock_of c.walker w.history) c.event w.shards c.shard t
    fit =
        fitting s (clock_of c.walker w.history) c.walker c.event o t w.shards c.shard (let l = few_splits splits few in let m = k.shards in omega (arith, l, m)) g
        (clock_below c.walker (2 ^ 48 + count_past w.shards) w.history (omega arith) k.stamped) (k.lands c.shard s g) answer bound

    made : Makes s (entry_of c o t) t
    made = makes_entry s (clock_of c.walker w.history) c o t answer fit.bounded

    last : t.last ≡ next_stamp s (clock_of c.walker w.history) c.event
    last = ap (λ z. z.last) answer.is

    grows : count_past w.shards ≤ count_past (slice_set w.shards c.shard t)
    grows = past_grows w.shards c.shard s t g (omega (arith, last))

    turn : InOrder w.history
    turn = in_order w.history k.ordered

    low : AllByRecursion (λ e. e.stamp ≤ s.last) (journal_of c.shard w.history)
    low = (runs_below (start_of before c.shard) (journal_of c.shard w.history) s (k.runs c.shard s g)).1

    above : AllByRecursion (Above (c.shard, entry_of c o t)) w.history
    above =
        all_from_among (Above (c.shard, entry_of c o t)) w.history
        (λ f i. (
          λ e. let l = among_all_in f.1 (journal_of c.shard w.history) low (subst (λ n. Among f.1 (journal_of n w.history)) e (in_journal f w.history i)) in omega (arith, l, last),
          λ e. let l = among_all (λ z. (z.1).walker ≡ c.walker → (z.1).stamp ≤ clock_of c.walker w.history) f w.history (clock_above c.walker w.history) i e in omega (arith, l, last),
        ))
      where
        among_all_in : (e : Entry) (es : List Entry) → AllByRecursion (λ e. e.stamp ≤ s.last) es → Among e es → e.stamp ≤ s.last
        among_all_in e es p i = among_all (λ e. e.stamp ≤ s.last) e es p i

    spot : Place (c.shard, entry_of c o t) w.history
    spot = place (c.shard, entry_of c o t) w.history turn above

    runs_at : (n : ℕ) (u : Shard) → slice_get (slice_set w.shards c.shard t) n ≡ Some u → (b : Bool) → (c.shard == n) ≡ b → Runs (start_of before n) (journal_of n (put_entry (c.shard, entry_of c o t) w.history)) u
    runs_at n u e true p =
        let same : c.shard ≡ n = eqb-true c.shard n p in
        let is_t : t ≡ u = same_shard (sym (set_here w.shards c.shard s t g) ∙ ap (slice_get (slice_set w.shards c.shard t)) same ∙ e) in
        subst (λ m. Runs (start_of before m) (journal_of m (put_entry (c.shard, entry_of c o t) w.history)) u) same
        (subst (Runs (start_of before c.shard) (journal_of c.shard (put_entry (c.shard, entry_of c o t) w.history))) is_t
        (subst (λ l. Runs (start_of before c.shard) l t) (sym (put_here (c.shard, entry_of c o t) w.history spot above))
        (runs_go_on (start_of before c.shard) s t (journal_of c.shard w.history) (entry_of c o t) (k.runs c.shard s g) made)))
    runs_at n u e false p =
        let other : c.shard ≡ n → ⊥ = λ q. both_ways (c.shard == n) p (eq-eqb c.shard n q) in
        subst (λ l. Runs (start_of before n) l u) (sym (put_there (c.shard, entry_of c o t) w.history spot n p)) (k.runs n u (sym (set_there w.shards c.shard n t other) ∙ e))

    lands_at : (n : ℕ) (u : Shard) → slice_get (slice_set w.shards c.shard t) n ≡ Some u → (b : Bool) → (c.shard == n) ≡ b → LandsInTime u
    lands_at n u e true p =
        let same : c.shard ≡ n = eqb-true c.shard n p in
        let is_t : t ≡ u = same_shard (sym (set_here w.shards c.shard s t g) ∙ ap (slice_get (slice_set w.shards c.shard t)) same ∙ e) in
        subst LandsInTime is_t (stays_in_time s (clock_of c.walker w.history) c.walker c.event o t answer bound)
    lands_at n u e false p =
        let other : c.shard ≡ n → ⊥ = λ q. both_ways (c.shard == n) p (eq-eqb c.shard n q) in k.lands n u (sym (set_there w.shards c.shard n t other) ∙ e)

    -- the walker's own entries have it at their end, the others' are as they were
    own_is : (v : ℕ) (b : Bool) → (c.walker == v) ≡ b → own v (put_entry (c.shard, entry_of c o t) w.history) ≡ cond b (own v w.history ++ (c.shard, entry_of c o t) ∷ []) (own v w.history)
    own_is v true p =
        let same : c.walker ≡ v = eqb-true c.walker v p in
        subst (λ m. own m (put_entry (c.shard, entry_of c o t) w.history) ≡ own m w.history ++ (c.shard, entry_of c o t) ∷ []) same (put_own (c.shard, entry_of c o t) w.history spot above)
    own_is v false p = put_others (c.shard, entry_of c o t) w.history spot v p

    stamps_of : (v : ℕ) (b : Bool) → (c.walker == v) ≡ b → StampsRise (own v (put_entry (c.shard, entry_of c o t) w.history))
    stamps_of v true p = subst StampsRise (sym (own_is v true p)) (rises_push (own v w.history) (c.shard, entry_of c o t) (k.stamps v) (own_below v w.history above (eqb-true c.walker v p)))
      where
        own_below : (v : ℕ) (es : History) → AllByRecursion (Above (c.shard, entry_of c o t)) es → c.walker ≡ v → AllByRecursion (λ f. (f.1).stamp < t.last) (own v es)
        own_below v [] q e = tt
        own_below v (f ∷ fs) q e = at ((f.1).walker == v) refl (own_below v fs q.1 e)
          where
            at : (b : Bool) → ((f.1).walker == v) ≡ b → AllByRecursion (λ f. (f.1).stamp < t.last) (own v fs) → AllByRecursion (λ f. (f.1).stamp < t.last) (cond b (f ∷ own v fs) (own v fs))
            at true r i = ((q.0).1 (eqb-true (f.1).walker v r ∙ sym e), i)
            at false r i = i
    stamps_of v false p = subst StampsRise (sym (own_is v false p)) (k.stamps v)

    run_is : s.run ≡ run_after before
    run_is = (fronts_run (start_of before c.shard) (journal_of c.shard w.history) s (opened_counted c.shard (run_after before) (log_of before c.shard)) (k.runs c.shard s g)).run

    -- by the test of an entry of a session
    tested : (not (is_of_session c.event) ≡ true) ⊎ ((is_session_number c.walker && is_session splits s.run c.walker (own c.walker (w.history ++ (c.shard, entry_of c o t) ∷ []))) ≡ true)
    tested = or_cases (not (is_of_session c.event)) (is_session_number c.walker && is_session splits s.run c.walker (own c.walker (w.history ++ (c.shard, entry_of c o t) ∷ []))) a.session

    end_is : own c.walker (w.history ++ (c.shard, entry_of c o t) ∷ []) ≡ own c.walker w.history ++ (c.shard, entry_of c o t) ∷ []
    end_is = own_append c.walker w.history ((c.shard, entry_of c o t) ∷ []) ∙ ap (λ l. own c.walker w.history ++ l) (own_mine c.walker (c.shard, entry_of c o t) [] (eq-eqb c.walker c.walker refl))

    session_on : is_session splits (run_after before) c.walker (own c.walker w.history ++ (c.shard, entry_of c o t) ∷ []) ≡ true
    session_on =
        ⊎_elim (λ q. others_keep_sessions splits (run_after before) c.walker (own c.walker w.history) (c.shard, entry_of c o t) (k.sessions c.walker) (not-true (is_of_session c.event) q))
        (λ q.
        subst (λ l. is_session splits (run_after before) c.walker l ≡ true) end_is
        (subst (λ r. is_session splits r c.walker (own c.walker (w.history ++ (c.shard, entry_of c o t) ∷ [])) ≡ true) run_is
        (and_parts (is_session_number c.walker) (is_session splits s.run c.walker (own c.walker (w.history ++ (c.shard, entry_of c o t) ∷ []))) q).1)) tested

    sessions_of : (v : ℕ) (b : Bool) → (c.walker == v) ≡ b → is_session splits (run_after before) v (own v (put_entry (c.shard, entry_of c o t) w.history)) ≡ true
    sessions_of v true p =
        subst (λ l. is_session splits (run_after before) v l ≡ true) (sym (own_is v true p))
        (subst (λ m. is_session splits (run_after before) m (own m w.history ++ (c.shard, entry_of c o t) ∷ []) ≡ true) (eqb-true c.walker v p) session_on)
    sessions_of v false p = subst (λ l. is_session splits (run_after before) v l ≡ true) (sym (own_is v false p)) (k.sessions v)

    number_is : is_numbered c.walker (c.shard, entry_of c o t) ≡ true
    number_is =
        ⊎_elim (λ q. or_left (not (is_of_session c.event)) (is_session_number c.walker) q)
        (λ q.
        or_right (not (is_of_session c.event)) (is_session_number c.walker)
        (and_parts (is_session_number c.walker) (is_session splits s.run c.walker (own c.walker (w.history ++ (c.shard, entry_of c o t) ∷ []))) q).0) tested

    numbered_of : (v : ℕ) (b : Bool) → (c.walker == v) ≡ b → list_all (is_numbered v) (own v (put_entry (c.shard, entry_of c o t) w.history)) ≡ true
    numbered_of v true p =
        subst (λ l. list_all (is_numbered v) l ≡ true) (sym (own_is v true p))
        (subst (λ m. list_all (is_numbered m) (own m w.history ++ (c.shard, entry_of c o t) ∷ []) ≡ true) (eqb-true c.walker v p)
        (tests_push (is_numbered c.walker) (own c.walker w.history) (c.shard, entry_of c o t) (k.numbered c.walker) number_is))
    numbered_of v false p = subst (λ l. list_all (is_numbered v) l ≡ true) (sym (own_is v false p)) (k.numbered v)

    sent_first : WasSent spot.pre c.event
    sent_first =
        was_sent_before w.history spot.pre c.event a.sent
        (λ f i e. stands_first (c.shard, entry_of c o t) f w.history spot i (omega (arith, e, last)))

answered : (splits : List ℕ) (before : List (List LogRecord)) (w : World) (c : CoreStep) (s : Shard) (a : CallAnswer) (b : Bool) → are_splits splits ≡ true → Steady splits before w
    → slice_get w.shards c.shard ≡ Some s → step_answer w c s ≡ a → allows_answer splits w c s a ≡ b → Steady splits before (elim b [ true ↦ after_answer w c a | false ↦ w ])
answered splits before w c s a false few k g h e = k
answered splits before w c s (Quiet o) true few k g h e = k
answered splits before w c s Worn true few k g h e = k
answered splits before w c s (Enters o t) true few k g h e = steady_on splits before w c s o t few k g h e

by_shard : (splits : List ℕ) (before : List (List LogRecord)) (w : World) (c : CoreStep) (f : Option Shard) → are_splits splits ≡ true → Steady splits before w → slice_get w.shards c.shard ≡ f
    → Steady splits before (run_on splits w c f)
by_shard splits before w c None few k g = k
by_shard splits before w c (Some s) few k g =
    answered splits before w c s (step_answer w c s) (allows_answer splits w c s (step_answer w c s)) few k g refl refl

pub steps_keep_steady : StepsKeepSteady
steps_keep_steady splits before w c few k = by_shard splits before w c (slice_get w.shards c.shard) few k refl

-- ---- a steady world's history is legal

found : (w : World) (xs : List Shard) (n : ℕ) → n < length xs → (s : Shard) × (slice_get xs n ≡ Some s) × (elim (slice_get xs n) [ Some s ↦ s | None ↦ opened n 1 [] ] ≡ s)
found w xs n l = at (slice_get xs n) refl
  where
    at : (o : Option Shard) → slice_get xs n ≡ o → (s : Shard) × (o ≡ Some s) × (elim o [ Some s ↦ s | None ↦ opened n 1 [] ] ≡ s)
    at (Some s) e = (s, refl, refl)
    at None e = absurd (none_there xs n l e)
      where
        none_there : (ys : List Shard) (i : ℕ) → i < length ys → slice_get ys i ≡ None → ⊥
        none_there [] i m q = omega (arith, m)
        none_there (y ∷ ys) zero m q = some_none q
          where
            some_none : {a : Shard} → Some a ≡ None → ⊥
            some_none k = cc
        none_there (y ∷ ys) (suc i) m q = none_there ys i (omega (arith, m)) q

pub steady_is_legal : SteadyIsLegal
steady_is_legal splits before w choice few count run k =
    whole_is_legal splits before (logs_now splits w choice) w.history (shard_at w)
    (record {
      splits_rise = few;
      each_log = (count, left_length (shard_at w) choice 0 (shard_count splits));
      run_fits = run;
      in_order = in_order w.history k.ordered;
      in_shards = k.in_shards;
      runs = λ n l.
          let f = found w w.shards n (subst (λ m. n < m) (sym k.shards) l) in
          subst (Runs (start_of before n) (journal_of n w.history)) (sym f.2) (k.runs n f.0 f.1);
      leaves = λ n l. (choice n, inl (left_at (shard_at w) choice 0 (shard_count splits) n l ∙ ap (λ m. log_left (shard_at w m) (choice m)) (plus n)));
      stamps = k.stamps;
      sessions = k.sessions;
      numbered = k.numbered;
      messages = k.messages;
    })
  where
    plus : (m : ℕ) → 0 + m ≡ m
    plus m = omega arith

-- ---- from empty logs

pub empty_count : (k : ℕ) → length (empty_logs k) ≡ k
empty_count zero = refl
empty_count (suc k) = let e = empty_count k in omega (arith, e)

pub empty_run : (k : ℕ) → run_after (empty_logs k) ≡ 1
empty_run zero = refl
empty_run (suc k) = ap (max 1) (empty_run k)

pub empty_fits : (k : ℕ) → run_after (empty_logs k) < 2 ^ 32
empty_fits k = subst (λ r. r < 2 ^ 32) (sym (empty_run k)) (omega arith)

empty_log : (k n : ℕ) → log_of (empty_logs k) n ≡ []
empty_log zero n = refl
empty_log (suc k) zero = refl
empty_log (suc k) (suc n) = empty_log k n

new_length : (n k : ℕ) → length (opened_from n k) ≡ k
new_length n zero = refl
new_length n (suc k) = let e = new_length (suc n) k in omega (arith, e)

new_is : (n k i : ℕ) (s : Shard) → slice_get (opened_from n k) i ≡ Some s → opened (n + i) 1 [] ≡ s
new_is n zero i s h = absurd (none-some s h)
new_is n (suc k) zero s h = ap (λ m. opened m 1 []) (plus n) ∙ same_shard h
  where
    plus : (m : ℕ) → m + 0 ≡ m
    plus m = omega arith
new_is n (suc k) (suc i) s h = ap (λ m. opened m 1 []) (next n i) ∙ new_is (suc n) k i s h
  where
    next : (a b : ℕ) → a + suc b ≡ suc a + b
    next a b = omega arith

pub new_steady : (splits : List ℕ) → Steady splits (empty_logs (shard_count splits)) (new_world (shard_count splits))
new_steady splits =
    record {
      shards = new_length 0 (shard_count splits);
      runs = λ n s e. start_is n ∙ ap (λ m. opened m 1 []) (plus n) ∙ new_is 0 (shard_count splits) n s e;
      lands = λ n s e. subst LandsInTime (new_is 0 (shard_count splits) n s e) (λ u m f. none_some f);
      stamped = tt;
      ordered = refl;
      in_shards = refl;
      stamps = λ v. tt;
      sessions = λ v. refl;
      numbered = λ v. refl;
      messages = tt;
    }
  where
    none_some : {a : ℕ} {X : Type 0} → ◌≡◌ {A = Option ℕ} None (Some a) → X
    none_some k = cc

    plus : (m : ℕ) → m ≡ 0 + m
    plus m = omega arith

    start_is : (n : ℕ) → start_of (empty_logs (shard_count splits)) n ≡ opened n 1 []
    start_is n = ap (λ r. opened n r (log_of (empty_logs (shard_count splits)) n)) (empty_run (shard_count splits)) ∙ ap (opened n 1) (empty_log (shard_count splits) n)

pub runs_steadily : (splits : List ℕ) (before : List (List LogRecord)) (cs : List CoreStep) (w : World) → are_splits splits ≡ true → Steady splits before w → Steady splits before (run_from splits cs w)
runs_steadily splits before [] w few k = k
runs_steadily splits before (c ∷ cs) w few k =
    runs_steadily splits before cs (run_on splits w c (slice_get w.shards c.shard)) few (steps_keep_steady splits before w c few k)

pub run_events_is_legal : RunEventsIsLegal
run_events_is_legal splits cs choice few =
    steady_is_legal splits (empty_logs (shard_count splits)) (run_events splits cs) choice few (empty_count (shard_count splits)) (empty_fits (shard_count splits))
    (runs_steadily splits (empty_logs (shard_count splits)) cs (new_world (shard_count splits)) few (new_steady splits))

empty_pass : (splits : List ℕ) (n k : ℕ) → all_logs_from n (log_passes splits) (empty_logs k) ≡ true
empty_pass splits n zero = refl
empty_pass splits n (suc k) = empty_pass splits (suc n) k

none_committed : (k : ℕ) → committed_of_all (empty_logs k) ≡ []
none_committed zero = refl
none_committed (suc k) = none_committed k

empty_spelled : (k : ℕ) → have_spellings (empty_logs k) ≡ true
empty_spelled zero = refl
empty_spelled (suc k) = empty_spelled k

pub empty_logs_may_be_opened : EmptyLogsMayBeOpened
empty_logs_may_be_opened splits k = (
  and_from (all_logs_from 0 (log_passes splits) (empty_logs k)) (is_none (apart (empty_logs k))) (empty_pass splits 0 k)
      (ap (λ txs. is_none (first_apart (empty_logs k) txs)) (none_committed k)),
  empty_spelled k,
)
