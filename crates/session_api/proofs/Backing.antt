-- The entries of a going back.
use Rattle.std.proofs.Common.{◌≡◌, ◌∙◌, refl, sym, ap, subst, ℕ, suc, ◌<◌, ◌==◌, nat_lt, Bool, true, false, cond, ◌&&◌, ◌||◌, List, [], ◌∷◌, ◌++◌, append_assoc, append-nil, map, length, Some, None, Result, Ok, Err, inl, inr, arith, eqb-true, eq-eqb}
use Rattle.std.specs.Prelude.{is_some, not}
use Rattle.std.specs.List.{AllByRecursion}
use Rattle.std.proofs.lemmas.Bool.{both_ways, lt-ltb, le-ltb, ltb-true, ltb-false}
use Rattle.std.proofs.lemmas.List.Folds.{list_any-append}
use Rattle.clv_base.specs.declared.names.Birth.{Birth}
use Rattle.clv_base.specs.declared.names.Point.{Point}
use Rattle.clv_base.specs.declared.events.Event.TheVariants.{RollTo}
use Rattle.clv_base.specs.declared.events.Outcome.{Outcome}
use Rattle.clv_base.specs.declared.events.Outcome.TheVariants.{Rolled, Dead, Down as DownOut}
use Rattle.clv_base.specs.declared.events.Entry.{Entry}
use Rattle.clv_base.specs.FileRules.{numbers_rise}
use Rattle.clv_base.specs.Journals.{History}
use Rattle.clv_base.specs.Sessions.{SessionState, is_of_session}
use Rattle.machine_calls.specs.declared.machine.StepError.{StepError}
use Rattle.machine_calls.specs.declared.machine.StepError.TheVariants.{Worn as IsWorn}
use Rattle.cluster_turns.specs.declared.shards.Shards.{Shards}
use Rattle.cluster_turns.specs.declared.shards.Walker.{Walker}
use Rattle.cluster_turns.specs.Walkers.{IsSameWalker, kept}
use Rattle.cluster_turns.specs.Notes.{is_above}
use Rattle.cluster_turns.specs.States.{AreTouched, GoesOnBy}
use Rattle.cluster_turns.specs.CallTurns.{Turn, Took, entry_on}
use Rattle.cluster_turns.specs.Answers.{is_quiet, is_kept}
use Rattle.cluster_turns.proofs.Laws.{written_are_touched, ok_same}
use Rattle.session_ops.specs.Standing.{IsActive}
use Rattle.session_ops.specs.declared.rolling.BackError.{BackError}
use Rattle.session_ops.specs.declared.rolling.BackError.TheVariants as left
use Rattle.session_ops.specs.WentBack.{IsRoll as IsRollTurn, back_below, RollsBelow, no_shard, passed_by, rolled_on, BackFailed, BackTold as Backs, has_died}
use Rattle.session_ops.specs.Undone.{IsBack, LeftBy}
use Rattle.session_ops.proofs.Laws.{noted_above, noted_touched, same_at}
use Rattle.script_runs.specs.Acts.{IsRoll, IsBackBegun, is_touched, stands_on}
use Rattle.script_runs.specs.Seen.{Standing, Idle, Active, Grows}
use Rattle.script_runs.specs.Told.{AreDropsOf, AreOn, BackTold}
use Rattle.session_api.specs.Seeing.{seen_as, touched_in, is_active, unless_dead, back_end}
use Rattle.session_api.specs.ToldLaws.{BacksTell}
use Rattle.session_api.proofs.Following.{IsPlain, are_plain, all_before, all_behind, made_in, made_in_more, made_of, is_there}
use Rattle.session_api.proofs.Pointing.{are_drops, grows_by}
use Rattle.session_api.proofs.Committing.{quiet_turn}
use Rattle.session_api.proofs.Leaving.{all_below}
use Rattle.law_base.proofs.Bools.{and_first, and_second, and_true, or_none}
use Rattle.law_base.proofs.Lists.{all_mono, all_push}

-- ---- one turn

-- it was answered so, and made one entry
record RollMade (p : SessionState) (nth upto n : ℕ) (o : Outcome) (t : Turn) : Type 0 where
  pub entry : Entry
  pub is : made_in (t ∷ []) ≡ (n, entry) ∷ []
  pub roll : IsRoll p.tx nth upto o (n, entry)
  pub touched : touched_in p.touched n ≡ true

roll_made : (w : ℕ) (p : SessionState) (nth upto n : ℕ) (o : Outcome) (t : Turn) → is_quiet o ≡ false → IsPlain w t → IsRollTurn p nth upto n (Ok o) t → RollMade p nth upto n o t
roll_made w p nth upto n o t loud plain h =
    let there = is_there t.made (plain.has ∙ ap is_kept h.answer ∙ ap not loud) in
    let m = plain.entry there.0 there.1 in
    record {
      entry = there.0;
      is = made_of t [] (ap is_of_session h.event) ∙ ap (λ y. entry_on t.shard y ++ []) there.1 ∙ ap (λ k. (k, there.0) ∷ []) h.shard;
      roll = record { seen = h.seen; event = m.1 ∙ h.event; outcome = ok_same there.0.outcome o (sym m.2 ∙ h.answer) };
      touched = ap is_some h.touched;
    }

quiet_roll : (w : ℕ) (p : SessionState) (nth upto n : ℕ) (r : Result Outcome StepError) (t : Turn) → is_kept r ≡ false → IsPlain w t → IsRollTurn p nth upto n r t → made_in (t ∷ []) ≡ []
quiet_roll w p nth upto n r t quiet plain h = quiet_turn w (RollTo p.tx nth h.seen upto) r t refl quiet plain h.event h.answer

-- ---- shard after shard

-- one more, on a higher shard
rise_more : (es : History) (n : ℕ) (x : Entry) → numbers_rise (map (λ (e : ℕ × Entry). e.0) es) ≡ true → AllByRecursion (λ (e : ℕ × Entry). e.0 < n) es → numbers_rise (map (λ (e : ℕ × Entry). e.0) (es ++ (n, x) ∷ [])) ≡ true
rise_more [] n x h low = refl
rise_more (e ∷ []) n x h low = ap (λ b. b && true) (lt-ltb e.0 n low.0)
rise_more (e ∷ f ∷ es) n x h low =
    let rest = numbers_rise (map (λ (g : ℕ × Entry). g.0) (f ∷ es)) in
    and_true (nat_lt e.0 f.0) (numbers_rise (map (λ (g : ℕ × Entry). g.0) (f ∷ es ++ (n, x) ∷ []))) (and_first (nat_lt e.0 f.0) rest h) (rise_more (f ∷ es) n x (and_second (nat_lt e.0 f.0) rest h) low.1)

-- shard n is met or not
meets_next : (m n : ℕ) (s b : Bool) → (n ≡ m → s ≡ b) → ((nat_lt m n && s) || ((n == m) && b)) ≡ (nat_lt m (suc n) && s)
meets_next m n s b h = at (nat_lt m n) (n == m) (nat_lt m (suc n)) refl refl refl
  where
    at : (x y z : Bool) → nat_lt m n ≡ x → (n == m) ≡ y → nat_lt m (suc n) ≡ z → ((x && s) || (y && b)) ≡ (z && s)
    at true true z e f g = let l = ltb-true m n e in let k = eqb-true n m f in absurd (let never : ⊥ = omega arith in never)
    at true false true e f g = or_none s
    at true false false e f g = let l = ltb-true m n e in let k = ltb-false m (suc n) g in absurd (let never : ⊥ = omega arith in never)
    at false true true e f g = sym (h (eqb-true n m f))
    at false true false e f g = let l = eqb-true n m f in let k = ltb-false m (suc n) g in absurd (let never : ⊥ = omega arith in never)
    at false false true e f g = let l = ltb-false m n e in let k = ltb-true m (suc n) g in absurd (both_ways (n == m) f (eq-eqb n m (omega arith)))
    at false false false e f g = refl

or_nothing : (x y : Bool) → x ≡ (x || (y && false))
or_nothing true y = refl
or_nothing false true = refl
or_nothing false false = refl

alone : (y : Bool) → (y || false) ≡ (y && true)
alone true = refl
alone false = refl

touched_more : (es : History) (n m : ℕ) (x : Entry) → is_touched (es ++ (n, x) ∷ []) m ≡ (is_touched es m || ((n == m) && true))
touched_more es n m x = list_any-append (λ e. e.0 == m) es ((n, x) ∷ []) ∙ ap (λ b. is_touched es m || b) (alone (n == m))

-- the entries of the parts on the shards below n
record MadeBelow (p : SessionState) (nth upto n : ℕ) (es : History) : Type 0 where
  pub each : AllByRecursion (IsRoll p.tx nth upto Rolled) es
  pub rise : numbers_rise (map (λ (e : ℕ × Entry). e.0) es) ≡ true
  pub low : AllByRecursion (λ e. e.0 < n) es
  pub shards : (m : ℕ) → is_touched es m ≡ (nat_lt m n && stands_on upto m p.written)
  pub on : AreOn (touched_in p.touched) es

on_more : (touched : ℕ → Bool) (es : History) (n : ℕ) (x : Entry) → AreOn touched es → touched n ≡ true → AreOn touched (es ++ (n, x) ∷ [])
on_more touched es n x h new m k = by (is_touched es m) (n == m) refl refl (sym (touched_more es n m x) ∙ k)
  where
    by : (a b : Bool) → is_touched es m ≡ a → (n == m) ≡ b → (a || (b && true)) ≡ true → touched m ≡ true
    by true b e f g = h m e
    by false true e f g = subst (λ j. touched j ≡ true) (eqb-true n m f) new
    by false false e f g = absurd (both_ways false refl g)

module _ (w : ℕ) (p : SessionState) (nth upto : ℕ) where
  made_below : (n : ℕ) (ts : List Turn) → AllByRecursion (IsPlain w) ts → RollsBelow p nth upto n ts → MadeBelow p nth upto n (made_in ts)
  made_below _ _ plain no_shard = record { each = tt; rise = refl; low = tt; shards = λ m. sym (ap (λ b. b && stands_on upto m p.written) (le-ltb m 0 (omega arith))); on = λ m h. absurd (both_ways false refl h) }
  made_below _ _ plain (passed_by n ts before none) =
      let b = made_below n ts plain before in
      record {
        each = b.each;
        rise = b.rise;
        low = all_mono (λ (e : ℕ × Entry). e.0 < n) (λ (e : ℕ × Entry). e.0 < suc n) (λ e l. omega arith) (made_in ts) b.low;
        shards = λ m. b.shards m ∙ or_nothing (nat_lt m n && stands_on upto m p.written) (n == m) ∙ meets_next m n (stands_on upto m p.written) false (λ same. subst (λ k. stands_on upto k p.written ≡ false) same none);
        on = b.on;
      }
  made_below _ _ plain (rolled_on n ts t before noted roll) =
      let b = made_below n ts (all_before (IsPlain w) ts (t ∷ []) plain) before in
      let one = roll_made w p nth upto n Rolled t refl (all_behind (IsPlain w) ts (t ∷ []) plain).0 roll in
      subst (MadeBelow p nth upto (suc n)) (sym (made_in_more ts (t ∷ []) ∙ ap (λ l. made_in ts ++ l) one.is)) (record {
        each = all_push (IsRoll p.tx nth upto Rolled) (made_in ts) (n, one.entry) b.each one.roll;
        rise = rise_more (made_in ts) n one.entry b.rise b.low;
        low = all_push (λ (e : ℕ × Entry). e.0 < suc n) (made_in ts) (n, one.entry) (all_mono (λ (e : ℕ × Entry). e.0 < n) (λ (e : ℕ × Entry). e.0 < suc n) (λ e l. omega arith) (made_in ts) b.low) (omega arith);
        shards = λ m. touched_more (made_in ts) n m one.entry ∙ ap (λ a. a || ((n == m) && true)) (b.shards m)
            ∙ meets_next m n (stands_on upto m p.written) true (λ same. subst (λ k. stands_on upto k p.written ≡ true) same noted);
        on = on_more (touched_in p.touched) (made_in ts) n one.entry b.on one.touched;
      })

  -- there are none where no write of a later operation stands
  none_below : (n : ℕ) (ts : List Turn) → is_above upto p.written ≡ false → RollsBelow p nth upto n ts → ts ≡ []
  none_below _ _ none no_shard = refl
  none_below _ _ none (passed_by n ts before passed) = none_below n ts none before
  none_below _ _ none (rolled_on n ts t before noted roll) = absurd (both_ways (is_above upto p.written) none (noted_above n upto p.written noted))

-- ---- the place then

module _ {M S G : Type 0} (sh : Shards M S G) (w : Walker M S G) (p : SessionState) (active : IsActive sh w p) where
  notes_touched : AreTouched p.touched p.written
  notes_touched = at active.goes
    where
      at : GoesOnBy active.state p → AreTouched p.touched p.written
      at (inl same) = subst (λ (x : SessionState). AreTouched x.touched x.written) (sym same) (written_are_touched sh.splits sh.run w.number (kept w.passes.items) active.state active.ready.state)
      at (inr new) = subst (λ (x : SessionState). AreTouched x.touched x.written) (sym new.1) tt

  -- a write that stands is on a shard that there is
  all_meet : (upto n : ℕ) → (nat_lt n (length sh.locks.items) && stands_on upto n p.written) ≡ stands_on upto n p.written
  all_meet upto n = by (stands_on upto n p.written) refl
    where
      none : (b : Bool) → (b && false) ≡ false
      none true = refl
      none false = refl

      by : (s : Bool) → stands_on upto n p.written ≡ s → (nat_lt n (length sh.locks.items) && s) ≡ s
      by true e = ap (λ b. b && true) (lt-ltb n (length sh.locks.items) (all_below sh w p (inl active) n (noted_touched n upto p.touched p.written notes_touched e)))
      by false e = none (nat_lt n (length sh.locks.items))

-- ---- as it is told

module _ {M S G : Type 0} (sh : Shards M S G) (w v : Walker M S G) (asked : Point) (p q : SessionState) (birth : Birth) (upto : ℕ) (same : IsSameWalker w v) where
  abbrev Told : Result Unit BackError → Type 0
  Told r = BackTold p.tx birth p.nth (touched_in p.touched) upto p.written (back_end (is_above upto p.written) upto r) (seen_as sh w asked (is_active p birth)) (seen_as sh v asked (unless_dead q birth (has_died r)))

  -- it is active as before, but for its number
  stays_so : (nth : ℕ) → q.tx ≡ p.tx → q.touched ≡ p.touched → q.nth ≡ nth → is_active q birth ≡ Active p.tx birth nth (touched_in p.touched)
  stays_so nth tx touched is =
      ap (λ t. Active t birth q.nth (touched_in q.touched)) tx ∙ ap (λ k. Active p.tx birth k (touched_in q.touched)) is ∙ ap (λ ts. Active p.tx birth nth (touched_in ts)) touched

  module _ (ts : List Turn) (took : Took w.number w.clock w.passes.items ts v.clock v.passes.items) where
    plain : AllByRecursion (IsPlain w.number) ts
    plain = are_plain w.number w.clock v.clock w.passes.items v.passes.items ts took

    grown : (en : Standing) (es : History) → made_in ts ≡ es → Grows es (seen_as sh w asked (is_active p birth)) (seen_as sh v asked en)
    grown en es is = grows_by sh w v asked asked (is_active p birth) en ts es same took is

    done : (a : Unit {0}) → IsActive sh w p → RollsBelow p (suc p.nth) upto (length sh.locks.items) ts → IsBack p upto q → Told (Ok a)
    done a active rolls l = by (is_above upto p.written) refl
      where
        at : (b : Bool) → is_above upto p.written ≡ b → is_active q birth ≡ Active p.tx birth (cond b (suc p.nth) p.nth) (touched_in p.touched)
        at b e = stays_so (cond b (suc p.nth) p.nth) l.tx l.touched (l.nth ∙ ap (λ c. cond c (suc p.nth) p.nth) e)

        by : (b : Bool) → is_above upto p.written ≡ b → BackTold p.tx birth p.nth (touched_in p.touched) upto p.written (Ok (cond b (Some upto) None)) (seen_as sh w asked (is_active p birth)) (seen_as sh v asked (is_active q birth))
        by true e =
            let b = made_below w.number p (suc p.nth) upto (length sh.locks.items) ts plain rolls in
            (refl, e, made_in ts, record { rolled = (b.each, b.rise); shards = λ n. b.shards n ∙ all_meet sh w p active upto n }, b.on, grown (is_active q birth) (made_in ts) refl, at true e)
        by false e = (e, grown (is_active q birth) [] (ap made_in (none_below w.number p (suc p.nth) upto (length sh.locks.items) ts e rolls)), at false e)

    -- up to a shard on which it ended
    module _ (e : BackError) (f : BackFailed (length sh.locks.items) p (suc p.nth) upto e ts q) where
      abbrev m : SessionState
      m = back_below (suc p.nth) upto f.shard p

      all : AllByRecursion (IsPlain w.number) (f.rolls ++ f.rest)
      all = subst (AllByRecursion (IsPlain w.number)) f.turns_are plain

      below : MadeBelow p (suc p.nth) upto f.shard (made_in f.rolls)
      below = made_below w.number p (suc p.nth) upto f.shard f.rolls (all_before (IsPlain w.number) f.rolls f.rest all) f.rolled

      rest_plain : AllByRecursion (IsPlain w.number) f.rest
      rest_plain = all_behind (IsPlain w.number) f.rolls f.rest all

      begun : IsBackBegun p.tx (suc p.nth) upto p.written f.shard (made_in f.rolls)
      begun = record { rolled = (below.each, below.rise); shards = below.shards; next = f.noted }

      -- a last turn without an entry
      quiet : (r : Result Outcome StepError) (t : Turn) → is_kept r ≡ false → f.rest ≡ t ∷ [] → IsRollTurn m (suc p.nth) upto f.shard r t → made_in ts ≡ made_in f.rolls
      quiet r t not_so is roll =
          ap made_in f.turns_are ∙ made_in_more f.rolls f.rest
          ∙ ap (λ l. made_in f.rolls ++ l) (ap made_in is ∙ quiet_roll w.number m (suc p.nth) upto f.shard r t not_so (subst (AllByRecursion (IsPlain w.number)) is rest_plain).0 roll) ∙ append-nil (made_in f.rolls)

      -- the place is that of the parts
      stays : q ≡ m → is_active q birth ≡ Active p.tx birth q.nth (touched_in p.touched)
      stays is = stays_so q.nth (ap (λ z. z.tx) is ∙ (same_at p upto f.shard).tx) (ap (λ z. z.touched) is ∙ (same_at p upto f.shard).touched) refl

    failed : (e : BackError) → BackFailed (length sh.locks.items) p (suc p.nth) upto e ts q → Told (Err e)
    failed (left.Aborted cause) f =
        let k = f.failed in
        let e = left.Aborted cause in
        let here = subst (AllByRecursion (IsPlain w.number)) k.2 (rest_plain e f) in
        let one = roll_made w.number (m e f) (suc p.nth) upto f.shard (Dead cause) k.0 refl here.0 k.3 in
        let tx = (same_at p upto f.shard).tx in
        let touched = (same_at p upto f.shard).touched in (
          made_in f.rolls ++ (f.shard, one.entry) ∷ [],
          made_in k.1,
          f.shard,
          record {
            before = made_in f.rolls;
            last = (f.shard, one.entry);
            entries = refl;
            begun = begun e f;
            died = subst (λ x. IsRoll x (suc p.nth) upto (Dead cause) (f.shard, one.entry)) tx one.roll;
            shard = refl;
          },
          on_more (touched_in p.touched) (made_in f.rolls) f.shard one.entry (below e f).on (subst (λ x. touched_in x f.shard ≡ true) touched one.touched),
          subst (λ x. AreDropsOf x (touched_in p.touched) (Some f.shard) (made_in k.1)) tx
              (subst (λ x. AreDropsOf (m e f).tx (touched_in x) (Some f.shard) (made_in k.1)) touched (are_drops w.number (m e f).tx (m e f).touched (Some f.shard) k.1 k.4 here.1)),
          grown (Idle (Some birth)) ((made_in f.rolls ++ (f.shard, one.entry) ∷ []) ++ made_in k.1)
              (ap made_in f.turns_are ∙ made_in_more f.rolls f.rest
              ∙ ap (λ l. made_in f.rolls ++ l) (ap made_in k.2 ∙ made_in_more (k.0 ∷ []) k.1 ∙ ap (λ l. l ++ made_in k.1) one.is)
              ∙ sym (append_assoc (made_in f.rolls) ((f.shard, one.entry) ∷ []) (made_in k.1))),
          refl,
        )
    failed (left.Down n) f =
        let k = f.failed.1 in
        let e = left.Down n in (
          made_in f.rolls,
          subst (λ j. IsBackBegun p.tx (suc p.nth) upto p.written j (made_in f.rolls)) (sym f.failed.0) (begun e f),
          (below e f).on,
          grown (is_active q birth) (made_in f.rolls) (quiet e f (Ok DownOut) k.0 refl k.1 k.2),
          (q.nth, stays e f k.3),
        )
    failed (left.Worn n at) f =
        let k = f.failed.1 in
        let e = left.Worn n at in
        (made_in f.rolls, f.shard, begun e f, (below e f).on, grown (is_active q birth) (made_in f.rolls) (quiet e f (Err (IsWorn at)) k.0 refl k.1 k.2), (q.nth, stays e f k.3))

pub backs_tell : (M S G : Type 0) → BacksTell M S G
backs_tell M S G sh w v asked p q birth upto r active has same d l stands = at r d.told l
  where
    at : (r : Result Unit BackError) → Backs (length sh.locks.items) p (suc p.nth) upto r d.turns q → LeftBy sh p upto r v q → Told sh w v asked p q birth upto same r
    at (Ok a) told l = done sh w v asked p q birth upto same d.turns d.took a active told.0 l
    at (Err e) told l = failed sh w v asked p q birth upto same d.turns d.took e told
