-- The parts of a going back, shard after shard.
use Rattle.std.proofs.Common.{◌≡◌, ◌⊎◌, ◌∙◌, refl, sym, ap, subst, ℕ, zero, suc, ◌<◌, ◌≤◌, ◌^◌, ◌-◌, ◌==◌, nat_lt, nat_le, Bool, true, false, cond, not, ◌&&◌, ◌||◌, List, [], ◌∷◌, ◌++◌, length, Option, Some, None, Result, Ok, Err, arith, inl, inr, eq-eqb, eqb-true, filter}
use Rattle.std.specs.Prelude.{is_some}
use Rattle.std.specs.List.{AllByRecursion, list_all}
use Rattle.std.specs.Map.{lookup}
use Rattle.std.proofs.lemmas.Bool.{both_ways, and_from, and_parts, ne_eqb, lt-ltb, ltb-true, le-leb}
use Rattle.clv_base.specs.declared.names.TxId.{TxId}
use Rattle.clv_base.specs.declared.events.Event.TheVariants.{RollTo}
use Rattle.clv_base.specs.declared.events.Outcome.{Outcome}
use Rattle.clv_base.specs.declared.events.Outcome.TheVariants.{Rolled}
use Rattle.clv_base.specs.Backs.{stands_for_back}
use Rattle.clv_base.specs.Sessions.{SessionState, is_whole_now, is_back_whole, numbered, goes_on_back}
use Rattle.machine_calls.specs.declared.machine.StepError.{StepError}
use Rattle.cluster_turns.specs.declared.shards.Shards.{Shards}
use Rattle.cluster_turns.specs.declared.shards.Walker.{Walker}
use Rattle.cluster_turns.specs.Notes.{is_noted, is_above, notes_left, back_begun}
use Rattle.clv_base.specs.Shards.{shard_count}
use Rattle.cluster_turns.specs.Walkers.{kept}
use Rattle.cluster_turns.specs.Epochs.{PastAt}
use Rattle.cluster_turns.specs.States.{AreTouched, GoesOnBy}
use Rattle.cluster_turns.specs.CallTurns.{Turn, Took, no_turn}
use Rattle.cluster_turns.proofs.Laws.{turns_follow, written_are_touched, touched_are_shards, past_rolls_nowhere, some_inj}
use Rattle.law_base.proofs.Lists.{all_mono}
use Rattle.session_ops.specs.Standing.{IsActive}
use Rattle.session_ops.specs.declared.rolling.BackError.{BackError}
use Rattle.session_ops.specs.declared.rolling.BackError.TheVariants.{Aborted, Down, Worn}
use Rattle.session_ops.specs.WentBack.{MayRoll, IsRoll, RollTold, Rolling, RollIf, PastBy, place_back, back_below, RollsBelow, no_shard, passed_by, rolled_on, GoingBack}
use Rattle.session_ops.specs.Undone.{IsBack, IsUndone, LeftBy}
use Rattle.session_ops.proofs.BackNotes.{none_left, noted_touched, noted_above, kept_below, kept_all, kept_noted, kept_more, kept_early, early_none, none_above_early}

some_of : (x : Option ℕ) → is_some x ≡ true → (e : ℕ) × (x ≡ Some e)
some_of None h = absurd (both_ways false refl h)
some_of (Some e) h = (e, refl)

found_within : (n count : ℕ) (ts : List (ℕ × ℕ)) → AllByRecursion (λ x. x.0 < count) ts → is_some (lookup (◌==◌ n) ts) ≡ true → n < count
found_within n count [] h k = absurd (both_ways false refl k)
found_within n count (t ∷ ts) h k = at (n == t.0) refl (found_within n count ts h.1)
  where
    at : (b : Bool) → (n == t.0) ≡ b → (is_some (lookup (◌==◌ n) ts) ≡ true → n < count) → n < count
    at true e rest = let same = eqb-true n t.0 e in let l = h.0 in omega arith
    at false e rest = rest (sym (ap (λ b. is_some (cond b (Some t.1) (lookup (◌==◌ n) ts))) e) ∙ k)

module _ (p : SessionState) (upto : ℕ) where
  abbrev nth : ℕ
  nth = suc p.nth

  abbrev at_shard : ℕ → SessionState
  at_shard n = back_below nth upto n p

  -- ---- the place

  begun_written : (b : SessionState) → (back_begun nth upto b).written ≡ b.written
  begun_written b = by (nth == suc b.nth)
    where
      by : (x : Bool) → (cond x (record (numbered nth b) { is_whole = is_whole_now b && stands_for_back nth upto b.backs; backs = (nth, upto) ∷ b.backs }) b).written ≡ b.written
      by true = refl
      by false = refl

  pub written_at : (n : ℕ) → (at_shard n).written ≡ kept_below n upto p.written
  written_at zero = sym (kept_all upto p.written)
  written_at (suc n) = by (is_noted n upto p.written) refl (written_at n)
    where
      by : (b : Bool) → is_noted n upto p.written ≡ b → (at_shard n).written ≡ kept_below n upto p.written
          → (cond b (place_back n nth upto (at_shard n) (Ok Rolled)) (at_shard n)).written ≡ kept_below (suc n) upto p.written
      by true e h = ap (notes_left n upto) (begun_written (at_shard n) ∙ h) ∙ kept_more n upto p.written
      by false e h = h ∙ sym (none_left n upto (kept_below n upto p.written) (kept_noted n n upto p.written (omega arith) ∙ e)) ∙ kept_more n upto p.written

  pub noted_at : (n : ℕ) → is_noted n upto (at_shard n).written ≡ is_noted n upto p.written
  noted_at n = ap (is_noted n upto) (written_at n) ∙ kept_noted n n upto p.written (omega arith)

  pub record IsSame (b : SessionState) : Type 0 where
    pub tx : b.tx ≡ p.tx
    pub birth : b.birth ≡ p.birth
    pub touched : b.touched ≡ p.touched
    pub phase : b.phase ≡ p.phase

  begun_same : (b : SessionState) → IsSame b → IsSame (back_begun nth upto b)
  begun_same b h = by (nth == suc b.nth)
    where
      by : (x : Bool) → IsSame (cond x (record (numbered nth b) { is_whole = is_whole_now b && stands_for_back nth upto b.backs; backs = (nth, upto) ∷ b.backs }) b)
      by true = record { tx = h.tx; birth = h.birth; touched = h.touched; phase = h.phase }
      by false = h

  pub same_at : (n : ℕ) → IsSame (at_shard n)
  same_at zero = record { tx = refl; birth = refl; touched = refl; phase = refl }
  same_at (suc n) = by (is_noted n upto p.written) (same_at n)
    where
      by : (b : Bool) → IsSame (at_shard n) → IsSame (cond b (place_back n nth upto (at_shard n) (Ok Rolled)) (at_shard n))
      by true h = let k = begun_same (at_shard n) h in record { tx = k.tx; birth = k.birth; touched = k.touched; phase = k.phase }
      by false h = h

  module _ (stands : stands_for_back (suc p.nth) upto p.backs ≡ true) where
    low : upto < nth
    low = ltb-true upto (suc p.nth) (and_parts (nat_lt upto (suc p.nth)) _ stands).0

    -- where some shard below n had its part
    pub record Went (n : ℕ) (b : SessionState) : Type 0 where
      pub last : ℕ
      pub before : last < n
      pub noted : is_noted last upto p.written ≡ true
      pub nth_is : b.nth ≡ nth
      pub back : b.back ≡ Some (last, upto)
      pub backs : b.backs ≡ (nth, upto) ∷ p.backs
      pub whole : b.is_whole ≡ is_whole_now p

    whole_so : (is_whole_now p && stands_for_back nth upto p.backs) ≡ is_whole_now p
    whole_so = ap (λ b. is_whole_now p && b) stands ∙ and_yes (is_whole_now p)
      where
        and_yes : (b : Bool) → (b && true) ≡ b
        and_yes true = refl
        and_yes false = refl

    went_first : (n : ℕ) → is_noted n upto p.written ≡ true → Went (suc n) (place_back n nth upto p (Ok Rolled))
    went_first n e = subst (λ (b : SessionState). Went (suc n) (record b { back = Some (n, upto); written = notes_left n upto b.written })) (sym begun)
        (record { last = n; before = (omega arith); noted = e; nth_is = refl; back = refl; backs = refl; whole = whole_so })
      where
        begun : back_begun nth upto p ≡ record (numbered nth p) { is_whole = is_whole_now p && stands_for_back nth upto p.backs; backs = (nth, upto) ∷ p.backs }
        begun = ap (λ b. cond b (record (numbered nth p) { is_whole = is_whole_now p && stands_for_back nth upto p.backs; backs = (nth, upto) ∷ p.backs }) p) (eq-eqb nth nth refl)

    went_more : (n : ℕ) (b : SessionState) → is_noted n upto p.written ≡ true → Went n b → Went (suc n) (place_back n nth upto b (Ok Rolled))
    went_more n b e h = subst (λ (c : SessionState). Went (suc n) (record c { back = Some (n, upto); written = notes_left n upto c.written })) (sym begun)
        (record { last = n; before = (omega arith); noted = e; nth_is = h.nth_is; back = refl; backs = h.backs; whole = h.whole })
      where
        begun : back_begun nth upto b ≡ b
        begun = ap (λ x. cond x (record (numbered nth b) { is_whole = is_whole_now b && stands_for_back nth upto b.backs; backs = (nth, upto) ∷ b.backs }) b) (ne_eqb nth (suc b.nth) (λ e. let k = h.nth_is in absurd (omega arith)))

    went_later : (n : ℕ) (b : SessionState) → Went n b → Went (suc n) b
    went_later n b h = record { last = h.last; before = (let l = h.before in omega arith); noted = h.noted; nth_is = h.nth_is; back = h.back; backs = h.backs; whole = h.whole }

    pub went_at : (n : ℕ) → (at_shard n ≡ p) ⊎ Went n (at_shard n)
    went_at zero = inl refl
    went_at (suc n) = by (is_noted n upto p.written) refl (went_at n)
      where
        by : (x : Bool) → is_noted n upto p.written ≡ x → (at_shard n ≡ p) ⊎ Went n (at_shard n) → (cond x (place_back n nth upto (at_shard n) (Ok Rolled)) (at_shard n) ≡ p) ⊎ Went (suc n) (cond x (place_back n nth upto (at_shard n) (Ok Rolled)) (at_shard n))
        by true e (inl same) = inr (subst (λ (b : SessionState). Went (suc n) (place_back n nth upto b (Ok Rolled))) (sym same) (went_first n e))
        by true e (inr h) = inr (went_more n (at_shard n) e h)
        by false e (inl same) = inl same
        by false e (inr h) = inr (went_later n (at_shard n) h)

    -- ---- the next part

    pub may_roll_at : (n : ℕ) → AreTouched p.touched p.written → is_noted n upto (at_shard n).written ≡ true → MayRoll (at_shard n) n nth upto
    may_roll_at n touched noted =
        let some = some_of (lookup (◌==◌ n) p.touched) (noted_touched n upto p.touched p.written touched (sym (noted_at n) ∙ noted)) in
        record { number = number (went_at n); stands = back_stands (went_at n); seen = some.0; touched = ap (lookup (◌==◌ n)) (same_at n).touched ∙ some.1 }
      where
        number : (at_shard n ≡ p) ⊎ Went n (at_shard n) → ((nth ≡ suc (at_shard n).nth) × (upto < nth)) ⊎ ((nth ≡ (at_shard n).nth) × (goes_on_back (at_shard n).back n upto ≡ true))
        number (inl same) = inl (ap (λ (b : SessionState). suc b.nth) (sym same), low)
        number (inr h) = inr (sym h.nth_is, ap (λ o. goes_on_back o n upto) h.back ∙ and_from (nat_lt h.last n) (upto == upto) (lt-ltb h.last n h.before) (eq-eqb upto upto refl))

        back_stands : (at_shard n ≡ p) ⊎ Went n (at_shard n) → nth ≡ suc (at_shard n).nth → stands_for_back nth upto (at_shard n).backs ≡ true
        back_stands (inl same) e = ap (λ (b : SessionState). stands_for_back nth upto b.backs) same ∙ stands
        back_stands (inr h) e = let k = h.nth_is in absurd (omega arith)

    pub stands_at : (n : ℕ) → stands_for_back (suc (at_shard n).nth) upto (at_shard n).backs ≡ true
    stands_at n = by (went_at n)
      where
        all : list_all (λ b. nat_le upto b.1 || nat_le b.0 upto) p.backs ≡ true
        all = (and_parts (nat_lt upto (suc p.nth)) _ stands).1

        by : (at_shard n ≡ p) ⊎ Went n (at_shard n) → stands_for_back (suc (at_shard n).nth) upto (at_shard n).backs ≡ true
        by (inl same) = ap (λ (b : SessionState). stands_for_back (suc b.nth) upto b.backs) same ∙ stands
        by (inr h) =
            ap (λ k. stands_for_back (suc k) upto (at_shard n).backs) h.nth_is ∙ ap (stands_for_back (suc nth) upto) h.backs
            ∙ and_from (nat_lt upto (suc nth)) (list_all (λ b. nat_le upto b.1 || nat_le b.0 upto) ((nth, upto) ∷ p.backs)) (let l = low in lt-ltb upto (suc nth) (omega arith))
            (and_from (nat_le upto upto || nat_le nth upto) (list_all (λ b. nat_le upto b.1 || nat_le b.0 upto) p.backs) (ap (λ b. b || nat_le nth upto) (le-leb upto upto (omega arith))) all)

    -- ---- all of it

    pub is_back : (count : ℕ) → AllByRecursion (λ w. w.0 < count) p.written → IsBack p upto (at_shard count)
    is_back count within = by (is_above upto p.written) refl (went_at count)
      where
        early : (at_shard count).written ≡ filter (λ w. nat_le w.1 upto) p.written
        early = written_at count ∙ kept_early count upto p.written within

        none : is_above upto (at_shard count).written ≡ false
        none = ap (is_above upto) early ∙ early_none upto p.written

        -- none is noted on any shard
        by : (b : Bool) → is_above upto p.written ≡ b → (at_shard count ≡ p) ⊎ Went count (at_shard count) → IsBack p upto (at_shard count)
        by true e (inl same) = absurd (both_ways (is_above upto (at_shard count).written) none (ap (λ (x : SessionState). is_above upto x.written) same ∙ e))
        by true e (inr h) = record {
          tx = (same_at count).tx;
          birth = (same_at count).birth;
          touched = (same_at count).touched;
          phase = (same_at count).phase;
          nth = h.nth_is ∙ sym (ap (λ x. cond x nth p.nth) e);
          backs = h.backs ∙ sym (ap (λ x. cond x ((nth, upto) ∷ p.backs) p.backs) e);
          written = early;
          whole = ap (λ b. b && is_back_whole (at_shard count).back (at_shard count).written) h.whole ∙ ap (λ o. is_whole_now p && is_back_whole o (at_shard count).written) h.back ∙ ap (λ b. is_whole_now p && not b) none ∙ and_yes (is_whole_now p);
        }
          where
            and_yes : (b : Bool) → (b && true) ≡ b
            and_yes true = refl
            and_yes false = refl
        by false e (inl same) = subst (IsBack p upto) (sym same) (record {
          tx = refl;
          birth = refl;
          touched = refl;
          phase = refl;
          nth = sym (ap (λ x. cond x nth p.nth) e);
          backs = sym (ap (λ x. cond x ((nth, upto) ∷ p.backs) p.backs) e);
          written = sym (none_above_early upto p.written e);
          whole = refl;
        })
        by false e (inr h) = absurd (both_ways (is_above upto p.written) e (noted_above h.last upto p.written h.noted))

-- ---- turns, and what they leave

module _ {M S G : Type 0} (sh : Shards M S G) (w : Walker M S G) (p : SessionState) (upto : ℕ) where
  -- the parts on the shards below n
  pub record SoFar (n : ℕ) (u : Walker M S G) (m : SessionState) : Type 0 where
    pub turns : List Turn
    pub took : Took w.number w.clock w.passes.items turns u.clock u.passes.items
    pub rolls : RollsBelow p (suc p.nth) upto n turns
    pub place : m ≡ back_below (suc p.nth) upto n p

  pub none_so_far : SoFar 0 w p
  none_so_far = record { turns = []; took = no_turn w.clock w.passes.items; rolls = no_shard; place = refl }

  module _ (stands : stands_for_back (suc p.nth) upto p.backs ≡ true) where
    -- a part of the place so far is one of p
    is_part : (n k : ℕ) (r : Result Outcome StepError) (t : Turn) → IsRoll (back_below (suc p.nth) upto n p) (suc p.nth) upto k r t → IsRoll p (suc p.nth) upto k r t
    is_part n k r t h =
        let same = same_at p upto n in
        record {
          seen = h.seen;
          touched = sym (ap (lookup (◌==◌ k)) same.touched) ∙ h.touched;
          shard = h.shard;
          event = h.event ∙ ap (λ (x : TxId). RollTo x (suc p.nth) h.seen upto) same.tx;
          answer = h.answer;
        }

    pub more_so_far : (n : ℕ) (u v : Walker M S G) (m q : SessionState) (a : Unit {0}) → u.number ≡ w.number → SoFar n u m → RollIf (is_noted n upto m.written) (length sh.locks.items) u m (suc p.nth) upto n (Ok a) v q → SoFar (suc n) v q
    more_so_far n u v m q a number s told = at (is_noted n upto m.written) refl told
      where
        noted : is_noted n upto m.written ≡ is_noted n upto p.written
        noted = ap (λ (x : SessionState). is_noted n upto x.written) s.place ∙ noted_at p upto n

        at : (b : Bool) → is_noted n upto m.written ≡ b → RollIf b (length sh.locks.items) u m (suc p.nth) upto n (Ok a) v q → SoFar (suc n) v q
        at true e h =
            let part = h.told in record {
              turns = s.turns ++ part.0 ∷ [];
              took = turns_follow w.number w.clock u.clock v.clock w.passes.items u.passes.items v.passes.items s.turns (part.0 ∷ []) s.took
                  (subst (λ k. Took k u.clock u.passes.items (part.0 ∷ []) v.clock v.passes.items) number (subst (λ ts. Took u.number u.clock u.passes.items ts v.clock v.passes.items) part.1 h.took));
              rolls = rolled_on n s.turns part.0 s.rolls (sym noted ∙ e) (is_part n n (Ok Rolled) part.0 (subst (λ (x : SessionState). IsRoll x (suc p.nth) upto n (Ok Rolled) part.0) s.place part.2));
              place = part.3 ∙ ap (λ (x : SessionState). place_back n (suc p.nth) upto x (Ok Rolled)) s.place
                  ∙ sym (ap (λ b. cond b (place_back n (suc p.nth) upto (back_below (suc p.nth) upto n p) (Ok Rolled)) (back_below (suc p.nth) upto n p)) (sym noted ∙ e));
            }
        at false e h = record {
          turns = s.turns;
          took = subst (λ (z : Walker M S G). Took w.number w.clock w.passes.items s.turns z.clock z.passes.items) (sym h.1) s.took;
          rolls = passed_by n s.turns s.rolls (sym noted ∙ e);
          place = h.2 ∙ s.place ∙ sym (ap (λ b. cond b (place_back n (suc p.nth) upto (back_below (suc p.nth) upto n p) (Ok Rolled)) (back_below (suc p.nth) upto n p)) (sym noted ∙ e));
        }

    pub back_fails : (n : ℕ) (u v : Walker M S G) (m q : SessionState) (e : BackError) → n < length sh.locks.items → u.number ≡ w.number → SoFar n u m
        → RollIf {A = Unit {0}} (is_noted n upto m.written) (length sh.locks.items) u m (suc p.nth) upto n (Err e) v q → GoingBack {A = Unit {0}} (length sh.locks.items) w.number w.clock w.passes.items p upto (Err e) v.clock v.passes.items q
    back_fails n u v m q e below number s told = at (is_noted n upto m.written) refl told
      where
        noted : is_noted n upto m.written ≡ is_noted n upto p.written
        noted = ap (λ (x : SessionState). is_noted n upto x.written) s.place ∙ noted_at p upto n

        at : (b : Bool) → is_noted n upto m.written ≡ b → RollIf {A = Unit {0}} b (length sh.locks.items) u m (suc p.nth) upto n (Err e) v q
            → GoingBack {A = Unit {0}} (length sh.locks.items) w.number w.clock w.passes.items p upto (Err e) v.clock v.passes.items q
        at true is h = record {
          turns = s.turns ++ h.turns;
          took = turns_follow w.number w.clock u.clock v.clock w.passes.items u.passes.items v.passes.items s.turns h.turns s.took (subst (λ k. Took k u.clock u.passes.items h.turns v.clock v.passes.items) number h.took);
          told = record {
            shard = n;
            below = below;
            rolls = s.turns;
            rest = h.turns;
            turns_are = refl;
            rolled = s.rolls;
            noted = sym noted ∙ is;
            failed = subst (λ (x : SessionState). RollTold {A = Unit {0}} (length sh.locks.items) x (suc p.nth) upto n (Err e) h.turns q) s.place h.told;
          };
        }
        at false is h = absurd h.0

    pub all_back : (n : ℕ) (v : Walker M S G) (q : SessionState) (a : Unit {0}) → n ≡ length sh.locks.items → SoFar n v q → GoingBack (length sh.locks.items) w.number w.clock w.passes.items p upto (Ok a) v.clock v.passes.items q
    all_back n v q a all s = record {
      turns = s.turns;
      took = s.took;
      told = (subst (λ k. RollsBelow p (suc p.nth) upto k s.turns) all s.rolls, s.place ∙ ap (λ k. back_below (suc p.nth) upto k p) all);
    }

    -- what is left where it ended early
    pub left_undone : (n : ℕ) (u v : Walker M S G) (m q : SessionState) (e : BackError) → n < length sh.locks.items → SoFar n u m → RollIf {A = Unit {0}} (is_noted n upto m.written) (length sh.locks.items) u m (suc p.nth) upto n (Err e) v q → PastBy {A = Unit {0}} n m (Err e) v
        → LeftBy {A = Unit {0}} sh p upto (Err e) v q
    left_undone n u v m q (Aborted cause) below s told past = tt
    left_undone n u v m q (Down k) below s told past = at (is_noted n upto m.written) told
      where
        at : (b : Bool) → RollIf {A = Unit {0}} b (length sh.locks.items) u m (suc p.nth) upto n (Err (Down k)) v q → IsUndone sh v q k upto
        at true h =
            let part = h.told.1 in
            let same : q ≡ back_below (suc p.nth) upto n p = part.3 ∙ s.place in
            subst (λ j. IsUndone sh v q j upto) (sym h.told.0) (record {
              below = below;
              seen = part.2.seen;
              touched = ap (λ (x : SessionState). lookup (◌==◌ n) x.touched) part.3 ∙ part.2.touched;
              stands = ap (λ (x : SessionState). stands_for_back (suc x.nth) upto x.backs) same ∙ stands_at p upto stands n;
              past = inl (past part.2.seen part.2.touched);
            })
        at false h = absurd h.0
    left_undone n u v m q (Worn k clock) below s told past = at (is_noted n upto m.written) told
      where
        at : (b : Bool) → RollIf {A = Unit {0}} b (length sh.locks.items) u m (suc p.nth) upto n (Err (Worn k clock)) v q → IsUndone sh v q k upto
        at true h =
            let part = h.told.1 in
            let same : q ≡ back_below (suc p.nth) upto n p = part.3 ∙ s.place in
            subst (λ j. IsUndone sh v q j upto) (sym h.told.0) (record {
              below = below;
              seen = part.2.seen;
              touched = ap (λ (x : SessionState). lookup (◌==◌ n) x.touched) part.3 ∙ part.2.touched;
              stands = ap (λ (x : SessionState). stands_for_back (suc x.nth) upto x.backs) same ∙ stands_at p upto stands n;
              past = inr past;
            })
        at false h = absurd h.0

-- ---- what an active transaction needs of it

module _ {M S G : Type 0} (sh : Shards M S G) (w : Walker M S G) (p : SessionState) (upto : ℕ) (a : IsActive sh w p) (stands : stands_for_back (suc p.nth) upto p.backs ≡ true) where
  -- its notes are of shards that it touched, and which there are
  notes_touched : AreTouched p.touched p.written
  notes_touched = at a.goes
    where
      at : GoesOnBy a.state p → AreTouched p.touched p.written
      at (inl same) = subst (λ (x : SessionState). AreTouched x.touched x.written) (sym same) (written_are_touched sh.splits sh.run w.number (kept w.passes.items) a.state a.ready.state)
      at (inr new) = subst (λ (x : SessionState). AreTouched x.touched x.written) (sym new.1) tt

  touched_within : AllByRecursion (λ x. x.0 < length sh.locks.items) p.touched
  touched_within = at a.goes
    where
      fits : (ts : List (ℕ × ℕ)) → AllByRecursion (λ x. x.0 < shard_count sh.splits) ts → AllByRecursion (λ x. x.0 < length sh.locks.items) ts
      fits ts h = all_mono (λ x. x.0 < shard_count sh.splits) (λ x. x.0 < length sh.locks.items) (λ x k. let c = a.ready.walker.count in omega arith) ts h

      at : GoesOnBy a.state p → AllByRecursion (λ x. x.0 < length sh.locks.items) p.touched
      at (inl same) = subst (λ (x : SessionState). AllByRecursion (λ y. y.0 < length sh.locks.items) x.touched) (sym same) (fits (a.state).touched (touched_are_shards sh.splits sh.run w.number (kept w.passes.items) a.state a.ready.state))
      at (inr new) = subst (λ (x : SessionState). AllByRecursion (λ y. y.0 < length sh.locks.items) x.touched) (sym new.1) tt

  notes_within : (ws : List (ℕ × ℕ)) → AreTouched p.touched ws → AllByRecursion (λ x. x.0 < length sh.locks.items) ws
  notes_within [] h = tt
  notes_within (x ∷ ws) h = (found_within x.0 (length sh.locks.items) p.touched touched_within h.0, notes_within ws h.1)

  pub next_may : (n : ℕ) (u : Walker M S G) (m : SessionState) → SoFar sh w p upto n u m → is_noted n upto m.written ≡ true → MayRoll m n (suc p.nth) upto
  next_may n u m s noted =
      subst (λ (x : SessionState). MayRoll x n (suc p.nth) upto) (sym s.place) (may_roll_at p upto stands n notes_touched (sym (ap (λ (x : SessionState). is_noted n upto x.written) s.place) ∙ noted))

  pub done_back : (n : ℕ) (u : Walker M S G) (m : SessionState) → n ≡ length sh.locks.items → SoFar sh w p upto n u m → IsBack p upto m
  done_back n u m all s =
      subst (IsBack p upto) (sym s.place) (is_back p upto stands n (subst (λ k. AllByRecursion (λ x. x.0 < k) p.written) (sym all) (notes_within p.written notes_touched)))

-- ---- one that was left undone, again

module _ {M S G : Type 0} (sh : Shards M S G) (w : Walker M S G) (p : SessionState) (n upto : ℕ) where
  pub again_may : (nth : ℕ) → nth ≡ suc p.nth → IsUndone sh w p n upto → MayRoll p n nth upto
  again_may nth is h = record {
    number = inl (is, (let l = ltb-true upto (suc p.nth) (and_parts (nat_lt upto (suc p.nth)) _ h.stands).0 in omega arith));
    stands = λ _. ap (λ k. stands_for_back k upto p.backs) is ∙ h.stands;
    seen = h.seen;
    touched = h.touched;
  }

  -- it is never done
  pub never_again : (v : Walker M S G) (q : SessionState) (nth : ℕ) (x : Unit {0}) → IsUndone sh w p n upto → Rolling (length sh.locks.items) w.number w.clock w.passes.items p nth upto n (Ok x) v.clock v.passes.items q → ⊥
  never_again v q nth x h r = at h.past r.told
    where
      at : PastAt n h.seen w.passes.items ⊎ (2 ^ 48 - 1 ≤ w.clock) → RollTold (length sh.locks.items) p nth upto n (Ok x) r.turns q → ⊥
      at (inr worn) told = let s = r.stamped in absurd (omega arith)
      at (inl past) (t, is, part, place) =
          past_rolls_nowhere n w.number w.clock v.clock w.passes.items v.passes.items t p.tx nth h.seen upto (subst (λ ts. Took w.number w.clock w.passes.items ts v.clock v.passes.items) is r.took) part.shard
          (part.event ∙ ap (λ k. RollTo p.tx nth k upto) (some_inj part.seen h.seen (sym part.touched ∙ h.touched))) past part.answer

  pub again_left : (v : Walker M S G) (q : SessionState) (nth : ℕ) (e : BackError) → IsUndone sh w p n upto → Rolling {A = Unit {0}} (length sh.locks.items) w.number w.clock w.passes.items p nth upto n (Err e) v.clock v.passes.items q → PastBy {A = Unit {0}} n p (Err e) v
      → LeftBy {A = Unit {0}} sh p upto (Err e) v q
  again_left v q number (Aborted cause) h r past = tt
  again_left v q number (Down k) h r past =
      subst (λ j. IsUndone sh v q j upto) (sym r.told.0) (subst (λ (x : SessionState). IsUndone sh v x n upto) (sym r.told.1.3)
      (record { below = h.below; seen = h.seen; touched = h.touched; stands = h.stands; past = inl (past h.seen h.touched) }))
  again_left v q number (Worn k clock) h r past =
      subst (λ j. IsUndone sh v q j upto) (sym r.told.0) (subst (λ (x : SessionState). IsUndone sh v x n upto) (sym r.told.1.3)
      (record { below = h.below; seen = h.seen; touched = h.touched; stands = h.stands; past = inr past }))
