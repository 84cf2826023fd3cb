-- A try's acts, one after another.
use Rattle.std.proofs.Common.{◌≡◌, refl, sym, ap, ap₂, subst, ◌∙◌, ◌⊎◌, inl, inr, ℕ, suc, ◌+◌, ◌<◌, ◌≤◌, Bool, true, false, ◌==◌, cond, nat_lt, nat_le, List, [], ◌∷◌, ◌++◌, map, take, length, get_or, slice_get, append_assoc, append-nil, length-append, Option, Some, None, is_some, Result, Ok, Err, OnOk, ◌||◌, ◌&&◌, arith}
use Rattle.std.specs.List.{filter}
use Rattle.std.specs.Result.{is_err}
use Rattle.std.proofs.lemmas.Bool.{both_ways, and_parts, leb-false, lt-ltb}
use Rattle.std.proofs.lemmas.List.{map-append, take_all}
use Rattle.std.proofs.lemmas.List.Folds.{list_any-append}
use Rattle.clv_base.proofs.SameNames.{or_left, or_right}
use Rattle.std.proofs.lemmas.Option.{slice_get_within, get_or_from_slice_get, slice_get_cases}
use Rattle.std.proofs.Math.Seq.{take-suc}
use Rattle.clv_base.specs.declared.names.TxId.{TxId}
use Rattle.clv_base.specs.declared.names.Birth.{Birth}
use Rattle.clv_base.specs.declared.ops.Op.{Op}
use Rattle.clv_base.specs.declared.ops.Answer.{Answer}
use Rattle.clv_base.specs.Maps.{Act, Operates, GoesBack}
use Rattle.clv_base.specs.Folding.{key_written}
use Rattle.clv_base.specs.Backs.{has_written}
use Rattle.clv_base.specs.Journals.{History}
use Rattle.script_lang.specs.declared.actions.Action.{Action}
use Rattle.script_lang.specs.declared.following.Following.{Following}
use Rattle.script_lang.specs.declared.following.Step.TheVariants.{Operate, GoBack}
use Rattle.script_lang.specs.Savepoints.{upto_of, back_to}
use Rattle.script_lang.specs.Following.{Way, at_start, one_done, saved, gone_back, stands_after, all_acts}
use Rattle.script_lang.specs.Places.{StandsAt, IsNext, step_of}
use Rattle.script_lang.proofs.Laws.{is_next, acts_go_on}
use Rattle.session_books.specs.Done.{Done, Did, WentBack}
use Rattle.script_runs.specs.declared.ends.StopCause.TheVariants.{Down, Unsettled, Worn, Memory}
use Rattle.script_runs.specs.declared.ends.TryEnd.{TryEnd}
use Rattle.script_runs.specs.declared.ends.TryEnd.TheVariants.{Acknowledged, Empty, Asked, Aborted, Stopped}
use Rattle.script_runs.specs.Operations.{IsOperation}
use Rattle.script_runs.specs.Acts.{act_of, answers_in, KeepsTo, next_of, written_with, written_after, written_from, written_by, stands_above, stands_on, is_touched, IsGoingBack, AreActs, no_act, operation, going_back}
use Rattle.script_runs.specs.Seen.{Active, Seen, Going, going_at_start, going_on, going_saved, going_back_to, Grows, untouched}
use Rattle.script_runs.specs.Told.{OperateTold, BackTold}
use Rattle.script_runs.specs.Lines.{LinesTold, at_operation, at_going_back, between, way_by, Doing}
use Rattle.script_runs.proofs.Doing.{grows_on, grows_none, either, touches_on, touches_all}

-- ---- one act more

pub operation_more : (splits : List ℕ) (tx : TxId) (birth : Birth) (nth k : ℕ) (ws : List (ℕ × ℕ)) (ds : List Done) (es : History) (op : Op) (answer : Answer) (here : History) → AreActs splits tx birth nth ws ds es
    → k ≡ nth + length ds → IsOperation splits tx birth k op answer here → AreActs splits tx birth nth ws (ds ++ Did op answer ∷ []) (es ++ here)
operation_more splits tx birth _ k _ _ _ op answer here (no_act nth ws) same is =
    operation nth ws op answer [] here [] here (sym (append-nil here)) (subst (λ m. IsOperation splits tx birth m op answer here) (let h : k ≡ nth = omega arith in h) is) (no_act (suc nth) _)
operation_more splits tx birth _ k _ _ _ op answer here (operation nth ws o a ds first behind es e p more) same is =
    operation nth ws o a (ds ++ Did op answer ∷ []) first (behind ++ here) (es ++ here) (ap (λ l. l ++ here) e ∙ append_assoc first behind here) p
    (operation_more splits tx birth (suc nth) k _ ds behind op answer here more (omega arith) is)
operation_more splits tx birth _ k _ _ _ op answer here (going_back nth ws upto ds first behind es e t g more) same is =
    going_back nth ws upto (ds ++ Did op answer ∷ []) first (behind ++ here) (es ++ here) (ap (λ l. l ++ here) e ∙ append_assoc first behind here) t g
    (operation_more splits tx birth (suc nth) k _ ds behind op answer here more (omega arith) is)

pub back_more : (splits : List ℕ) (tx : TxId) (birth : Birth) (nth k : ℕ) (ws : List (ℕ × ℕ)) (ds : List Done) (es : History) (upto : ℕ) (here : History) → AreActs splits tx birth nth ws ds es
    → k ≡ nth + length ds → stands_above upto (written_from splits nth ws ds) ≡ true → IsGoingBack tx k upto (written_from splits nth ws ds) here → AreActs splits tx birth nth ws (ds ++ WentBack upto ∷ []) (es ++ here)
back_more splits tx birth _ k _ _ _ upto here (no_act nth ws) same stands is =
    going_back nth ws upto [] here [] here (sym (append-nil here)) stands (subst (λ m. IsGoingBack tx m upto ws here) (let h : k ≡ nth = omega arith in h) is) (no_act (suc nth) _)
back_more splits tx birth _ k _ _ _ upto here (operation nth ws o a ds first behind es e p more) same stands is =
    operation nth ws o a (ds ++ WentBack upto ∷ []) first (behind ++ here) (es ++ here) (ap (λ l. l ++ here) e ∙ append_assoc first behind here) p
    (back_more splits tx birth (suc nth) k _ ds behind upto here more (omega arith) stands is)
back_more splits tx birth _ k _ _ _ upto here (going_back nth ws to ds first behind es e t g more) same stands is =
    going_back nth ws to (ds ++ WentBack upto ∷ []) first (behind ++ here) (es ++ here) (ap (λ l. l ++ here) e ∙ append_assoc first behind here) t g
    (back_more splits tx birth (suc nth) k _ ds behind upto here more (omega arith) stands is)

written_more : (splits : List ℕ) (nth k : ℕ) (ws : List (ℕ × ℕ)) (ds : List Done) (d : Done) → k ≡ nth + length ds → written_from splits nth ws (ds ++ d ∷ []) ≡ written_after splits k d (written_from splits nth ws ds)
written_more splits nth k ws [] d same = ap (λ n. written_after splits n d ws) (let h : nth ≡ k = omega arith in h)
written_more splits nth k ws (x ∷ ds) d same = written_more splits (suc nth) k (written_after splits nth x ws) ds d (omega arith)

answers_more : (ds : List Done) (op : Op) (answer : Answer) → answers_in (ds ++ Did op answer ∷ []) ≡ answers_in ds ++ answer ∷ []
answers_more [] op answer = refl
answers_more (Did o a ∷ ds) op answer = ap (λ l. a ∷ l) (answers_more ds op answer)
answers_more (WentBack upto ∷ ds) op answer = answers_more ds op answer

answers_same : (ds : List Done) (upto : ℕ) → answers_in (ds ++ WentBack upto ∷ []) ≡ answers_in ds
answers_same [] upto = refl
answers_same (Did o a ∷ ds) upto = ap (λ l. a ∷ l) (answers_same ds upto)
answers_same (WentBack u ∷ ds) upto = answers_same ds upto

one_longer : (ds : List Done) (d : Done) → length (ds ++ d ∷ []) ≡ suc (length ds)
one_longer ds d = omega (arith, length-append ds (d ∷ []))

-- ---- what the lines ask for

keeps_op : (lines : List Action) (ds : List Done) (w : Way) (f : Following) (op : Op) (answer : Answer) → KeepsTo lines ds → w.done ≡ length ds → StandsAt lines (answers_in ds) w f → step_of f ≡ Some (Operate op) → KeepsTo lines (ds ++ Did op answer ∷ [])
keeps_op lines ds w f op answer k same stands is =
    map-append act_of ds (Did op answer ∷ []) ∙ ap (λ l. l ++ Operates op ∷ []) (k ∙ ap (λ n. take n (all_acts lines (answers_in ds))) (sym same)) ∙ sym (acts_go_on lines (answers_in ds) w f op answer stands is)
    ∙ ap₂ (λ n (as_ : List Answer). take n (all_acts lines as_)) (ap suc same ∙ sym (one_longer ds (Did op answer))) (sym (answers_more ds op answer))

take_one : (xs : List Act) (n : ℕ) (x : Act) → slice_get xs n ≡ Some x → take (suc n) xs ≡ take n xs ++ x ∷ []
take_one xs n x h = take-suc xs n x (slice_get_within xs n x h) ∙ ap (λ y. take n xs ++ y ∷ []) (get_or_from_slice_get xs n x x h)

keeps_back : (lines : List Action) (ds : List Done) (upto : ℕ) → KeepsTo lines ds → next_of lines ds ≡ Some (GoesBack upto) → KeepsTo lines (ds ++ WentBack upto ∷ [])
keeps_back lines ds upto k next =
    map-append act_of ds (WentBack upto ∷ []) ∙ ap (λ l. l ++ GoesBack upto ∷ []) k ∙ sym (take_one (all_acts lines (answers_in ds)) (length ds) (GoesBack upto) next)
    ∙ ap₂ (λ n (as_ : List Answer). take n (all_acts lines as_)) (sym (one_longer ds (WentBack upto))) (sym (answers_same ds upto))

-- ---- how far the transaction is

or_first : (a b : Bool) → (a || b) ≡ false → a ≡ false
or_first true b h = h
or_first false b h = refl

or_second : (a b : Bool) → (a || b) ≡ false → b ≡ false
or_second true b h = absurd cc
or_second false b h = h

stands_by : (upto : ℕ) (ws : List (ℕ × ℕ)) → stands_after upto (map (λ w. w.1) ws) ≡ stands_above upto ws
stands_by upto [] = refl
stands_by upto (w ∷ ws) = ap (λ b. nat_lt upto w.1 || b) (stands_by upto ws)

fewer_by : (upto : ℕ) (ws : List (ℕ × ℕ)) → filter (λ n. nat_le n upto) (map (λ w. w.1) ws) ≡ map (λ w. w.1) (filter (λ w. nat_le w.1 upto) ws)
fewer_by upto [] = refl
fewer_by upto (w ∷ ws) = at (nat_le w.1 upto) (fewer_by upto ws)
  where
    at : (b : Bool) → filter (λ n. nat_le n upto) (map (λ w. w.1) ws) ≡ map (λ w. w.1) (filter (λ w. nat_le w.1 upto) ws)
        → cond b (w.1 ∷ filter (λ n. nat_le n upto) (map (λ w. w.1) ws)) (filter (λ n. nat_le n upto) (map (λ w. w.1) ws))
        ≡ map (λ w. w.1) (cond b (w ∷ filter (λ w. nat_le w.1 upto) ws) (filter (λ w. nat_le w.1 upto) ws))
    at true e = ap (λ l. w.1 ∷ l) e
    at false e = e

way_op : (splits : List ℕ) (g : Going) (acts : List Done) (op : Op) (answer : Answer)
    → one_done (has_written op answer) (way_by g acts) ≡ way_by (going_on splits (suc (length acts)) (Did op answer) g) (acts ++ Did op answer ∷ [])
way_op splits g acts op answer = ap₂ (λ n (ws : List ℕ). let w : Way = record { done = n; written = ws; saves = g.saves } in w) (sym (one_longer acts (Did op answer))) (at (key_written op answer))
  where
    at : (k : Option ℕ) → cond (is_some k) (suc (length acts) ∷ map (λ w. w.1) g.written) (map (λ w. w.1) g.written) ≡ map (λ w. w.1) (written_with splits (suc (length acts)) k g.written)
    at None = refl
    at (Some key) = refl

way_back : (g : Going) (acts now : List Done) (i upto : ℕ) → cond (stands_above upto g.written) (suc (length acts)) (length acts) ≡ length now → gone_back i (Some upto) (way_by g acts) ≡ way_by (going_back_to i upto g) now
way_back g acts now i upto long =
    ap₂ (λ n (ws : List ℕ). let w : Way = record { done = n; written = ws; saves = back_to i g.saves } in w)
    (ap (λ b. cond b (suc (length acts)) (length acts)) (stands_by upto g.written) ∙ long) (fewer_by upto g.written)

-- ---- a going back that was not done takes something away

on_above : (upto n : ℕ) (ws : List (ℕ × ℕ)) → stands_on upto n ws ≡ true → stands_above upto ws ≡ true
on_above upto n [] h = h
on_above upto n (w ∷ ws) h = at (either ((w.0 == n) && nat_lt upto w.1) (stands_on upto n ws) h) (on_above upto n ws)
  where
    at : (((w.0 == n) && nat_lt upto w.1) ≡ true) ⊎ (stands_on upto n ws ≡ true) → (stands_on upto n ws ≡ true → stands_above upto ws ≡ true) → (nat_lt upto w.1 || stands_above upto ws) ≡ true
    at (inl e) more = or_left (nat_lt upto w.1) (stands_above upto ws) (and_parts (w.0 == n) (nat_lt upto w.1) e).1
    at (inr e) more = or_right (nat_lt upto w.1) (stands_above upto ws) (more e)

pub fails_above : (tx : TxId) (birth : Birth) (nth : ℕ) (touched : ℕ → Bool) (upto : ℕ) (ws : List (ℕ × ℕ)) (end : TryEnd) (v w : Seen) → BackTold tx birth nth touched upto ws (Err end) v w → stands_above upto ws ≡ true
fails_above tx birth nth touched upto ws (Aborted cause) v w (here, drops, n, died, on, are, grows, idle) = on_above upto n ws (died.begun).next
fails_above tx birth nth touched upto ws (Stopped (Down n)) v w (here, begun, on, grows, active) = on_above upto n ws begun.next
fails_above tx birth nth touched upto ws (Stopped (Worn at)) v w (here, n, begun, on, grows, active) = on_above upto n ws begun.next
fails_above tx birth nth touched upto ws (Stopped (Unsettled n)) v w t = absurd t
fails_above tx birth nth touched upto ws (Stopped Memory) v w t = absurd t
fails_above tx birth nth touched upto ws Acknowledged v w t = absurd t
fails_above tx birth nth touched upto ws Empty v w t = absurd t
fails_above tx birth nth touched upto ws Asked v w t = absurd t

-- what is found, or isn't
pub found_one : {X : Type 0} (o : Option X) → is_some o ≡ true → (x : X) × (o ≡ Some x)
found_one None h = absurd cc
found_one (Some x) h = (x, refl)

pub found_none : {X : Type 0} (o : Option X) → is_some o ≡ false → o ≡ None
found_none None h = refl
found_none (Some x) h = absurd cc

-- a call that went well
pub went_well : {X E : Type 0} {P : Type 0} (r : Result X E) → OnOk r P → is_err r ≡ false → P
went_well (Ok x) h e = h
went_well (Err x) h e = absurd cc

-- ---- one step of a try

module _ (tx : TxId) (birth : Birth) (lines : List Action) (u v : Seen) (going : Option Going) (f : Following) (acts : List Done) (d : Doing tx birth lines u v going f acts) where
  pub next_op_is : (op : Op) → step_of f ≡ Some (Operate op) → next_of lines (d.done).acts ≡ Some (Operates op)
  next_op_is op is = subst (IsNext lines (answers_in (d.done).acts) (way_by d.over (d.done).acts)) is (is_next lines (answers_in (d.done).acts) (way_by d.over (d.done).acts) f d.place)

  pub next_back_is : (i upto : ℕ) → step_of f ≡ Some (GoBack i) → upto_of i ((d.over).saves).standing ≡ Some upto → stands_above upto (d.over).written ≡ true → next_of lines (d.done).acts ≡ Some (GoesBack upto)
  next_back_is i upto is stands some =
      subst (IsNext lines (answers_in (d.done).acts) (way_by d.over (d.done).acts)) is (is_next lines (answers_in (d.done).acts) (way_by d.over (d.done).acts) f d.place) upto stands (stands_by upto (d.over).written ∙ some)

  pub op_done : (w : Seen) (going' : Option Going) (g : Following) (op : Op) (answer : Answer) → step_of f ≡ Some (Operate op) → OperateTold tx birth (length (d.done).acts) (d.done).touched op (Ok answer) v w
      → going' ≡ Some (going_on v.splits (suc (length (d.done).acts)) (Did op answer) d.over)
      → StandsAt lines (answers_in (d.done).acts ++ answer ∷ []) (one_done (has_written op answer) (way_by d.over (d.done).acts)) g → Doing tx birth lines u w going' g (acts ++ Did op answer ∷ [])
  op_done w going' g op answer is (here, after, operation_is, by, grows, standing) so place =
      let a = (d.done).acts in
      let splits : v.splits ≡ u.splits = ((d.done).grows).splits_are in
      record {
        done =
            record {
              acts = a ++ Did op answer ∷ [];
              entries = (d.done).entries ++ here;
              touched = after;
              follows = keeps_op lines a (way_by d.over a) f op answer (d.done).follows refl d.place is;
              acts_are =
                  operation_more u.splits tx birth 1 (suc (length a)) [] a (d.done).entries op answer here (d.done).acts_are (omega arith)
                  (subst (λ s. IsOperation s tx birth (suc (length a)) op answer here) splits operation_is);
              grows = grows_on (d.done).entries here u v w (d.done).grows grows;
              standing_is = standing ∙ ap (λ n. Active tx birth n after) (sym (one_longer a (Did op answer)));
              only = touches_on (d.done).touched after (d.done).entries here (d.done).only by.only;
              all = touches_all (d.done).touched after (d.done).entries here (d.done).all by;
            };
        acts_are = ap (λ l. l ++ Did op answer ∷ []) d.acts_are;
        over = going_on u.splits (suc (length a)) (Did op answer) d.over;
        going_is = so ∙ ap (λ s. Some (going_on s (suc (length a)) (Did op answer) d.over)) splits;
        written_is = ap (written_after u.splits (suc (length a)) (Did op answer)) d.written_is ∙ sym (written_more u.splits 1 (suc (length a)) [] a (Did op answer) (omega arith));
        place = subst (λ as_. StandsAt lines as_ (way_by (going_on u.splits (suc (length a)) (Did op answer) d.over) (a ++ Did op answer ∷ [])) g) (sym (answers_more a op answer))
            (subst (λ y. StandsAt lines (answers_in a ++ answer ∷ []) y g) (way_op u.splits d.over a op answer) place);
      }

  pub save_done : (w : Seen) (going' : Option Going) (g : Following) → w ≡ v → going' ≡ Some (going_saved (length (d.done).acts) d.over) → StandsAt lines (answers_in (d.done).acts) (saved (way_by d.over (d.done).acts)) g
      → Doing tx birth lines u w going' g acts
  save_done w going' g same so place =
      subst (λ x. Doing tx birth lines u x going' g acts) (sym same)
      (record { done = d.done; acts_are = d.acts_are; over = going_saved (length (d.done).acts) d.over; going_is = so; written_is = d.written_is; place = place })

  -- a savepoint that doesn't stand
  pub back_unknown : (g : Following) (i : ℕ) → upto_of i ((d.over).saves).standing ≡ None → StandsAt lines (answers_in (d.done).acts) (gone_back i (upto_of i ((d.over).saves).standing) (way_by d.over (d.done).acts)) g
      → Doing tx birth lines u v going g acts
  back_unknown g i none place =
      record {
        done = d.done;
        acts_are = d.acts_are;
        over = d.over;
        going_is = d.going_is;
        written_is = d.written_is;
        place = subst (λ o. StandsAt lines (answers_in (d.done).acts) (gone_back i o (way_by d.over (d.done).acts)) g) none place;
      }

  -- where it leads
  place_back : (g : Following) (now : List Done) (i upto : ℕ) → upto_of i ((d.over).saves).standing ≡ Some upto → answers_in now ≡ answers_in (d.done).acts
      → cond (stands_above upto (d.over).written) (suc (length (d.done).acts)) (length (d.done).acts) ≡ length now
      → StandsAt lines (answers_in (d.done).acts) (gone_back i (upto_of i ((d.over).saves).standing) (way_by d.over (d.done).acts)) g → StandsAt lines (answers_in now) (way_by (going_back_to i upto d.over) now) g
  place_back g now i upto stands same long place =
      subst (λ as_. StandsAt lines as_ (way_by (going_back_to i upto d.over) now) g) (sym same)
      (subst (λ y. StandsAt lines (answers_in (d.done).acts) y g) (way_back d.over (d.done).acts now i upto long)
      (subst (λ o. StandsAt lines (answers_in (d.done).acts) (gone_back i o (way_by d.over (d.done).acts)) g) stands place))

  -- none of the writes that stand is above
  fewer_none : (upto : ℕ) (ws : List (ℕ × ℕ)) → stands_above upto ws ≡ false → filter (λ w. nat_le w.1 upto) ws ≡ ws
  fewer_none upto [] h = refl
  fewer_none upto (w ∷ ws) h = at (nat_le w.1 upto) refl (fewer_none upto ws (or_second (nat_lt upto w.1) (stands_above upto ws) h))
    where
      at : (b : Bool) → nat_le w.1 upto ≡ b → filter (λ w. nat_le w.1 upto) ws ≡ ws → cond b (w ∷ filter (λ w. nat_le w.1 upto) ws) (filter (λ w. nat_le w.1 upto) ws) ≡ w ∷ ws
      at true e more = ap (λ l. w ∷ l) more
      at false e more = absurd (both_ways (nat_lt upto w.1) (or_first (nat_lt upto w.1) (stands_above upto ws) h) (lt-ltb upto w.1 (leb-false w.1 upto e)))

  pub back_nothing : (w : Seen) (going' : Option Going) (g : Following) (i upto : ℕ) → upto_of i ((d.over).saves).standing ≡ Some upto
      → BackTold tx birth (length (d.done).acts) (d.done).touched upto (d.over).written (Ok None) v w → going' ≡ Some (going_back_to i upto d.over)
      → StandsAt lines (answers_in (d.done).acts) (gone_back i (upto_of i ((d.over).saves).standing) (way_by d.over (d.done).acts)) g → Doing tx birth lines u w going' g acts
  back_nothing w going' g i upto stands (none, grows, standing) so place =
      record {
        done =
            record {
              acts = (d.done).acts;
              entries = (d.done).entries;
              touched = (d.done).touched;
              follows = (d.done).follows;
              acts_are = (d.done).acts_are;
              grows = subst (λ es. Grows es u w) (append-nil (d.done).entries) (grows_on (d.done).entries [] u v w (d.done).grows grows);
              standing_is = standing;
              only = (d.done).only;
              all = (d.done).all;
            };
        acts_are = d.acts_are;
        over = going_back_to i upto d.over;
        going_is = so;
        written_is = fewer_none upto (d.over).written none ∙ d.written_is;
        place = place_back g (d.done).acts i upto stands refl (ap (λ b. cond b (suc (length (d.done).acts)) (length (d.done).acts)) none) place;
      }

  pub back_done : (w : Seen) (going' : Option Going) (g : Following) (i upto to : ℕ) → upto_of i ((d.over).saves).standing ≡ Some upto → step_of f ≡ Some (GoBack i)
      → BackTold tx birth (length (d.done).acts) (d.done).touched upto (d.over).written (Ok (Some to)) v w → going' ≡ Some (going_back_to i upto d.over)
      → StandsAt lines (answers_in (d.done).acts) (gone_back i (upto_of i ((d.over).saves).standing) (way_by d.over (d.done).acts)) g → Doing tx birth lines u w going' g (acts ++ WentBack to ∷ [])
  back_done w going' g i upto to stands is (led, some, here, back_is, on, grows, standing) so place =
      let a = (d.done).acts in
      let now = a ++ WentBack upto ∷ [] in
      let above : stands_above upto (written_by u.splits a) ≡ true = ap (stands_above upto) (sym d.written_is) ∙ some in
      record {
        done =
            record {
              acts = now;
              entries = (d.done).entries ++ here;
              touched = (d.done).touched;
              follows = keeps_back lines a upto (d.done).follows (next_back_is i upto is stands some);
              acts_are =
                  back_more u.splits tx birth 1 (suc (length a)) [] a (d.done).entries upto here (d.done).acts_are (omega arith) above
                  (subst (λ ws. IsGoingBack tx (suc (length a)) upto ws here) d.written_is back_is);
              grows = grows_on (d.done).entries here u v w (d.done).grows grows;
              standing_is = standing ∙ ap (λ n. Active tx birth n (d.done).touched) (sym (one_longer a (WentBack upto)));
              only = λ n t. list_any-append (λ e. e.0 == n) (d.done).entries here ∙ or_left (is_touched (d.done).entries n) (is_touched here n) ((d.done).only n t);
              all = λ n t. touched_either n (either (is_touched (d.done).entries n) (is_touched here n) (sym (list_any-append (λ e. e.0 == n) (d.done).entries here) ∙ t));
            };
        acts_are = ap₂ (λ (l : List Done) (n : ℕ). l ++ WentBack n ∷ []) d.acts_are led;
        over = going_back_to i upto d.over;
        going_is = so;
        written_is = ap (λ ws. filter (λ w. nat_le w.1 upto) ws) d.written_is ∙ sym (written_more u.splits 1 (suc (length a)) [] a (WentBack upto) (omega arith));
        place = place_back g now i upto stands (answers_same a upto) (ap (λ b. cond b (suc (length a)) (length a)) some ∙ sym (one_longer a (WentBack upto))) place;
      }
    where
      touched_either : (n : ℕ) → (is_touched (d.done).entries n ≡ true) ⊎ (is_touched here n ≡ true) → (d.done).touched n ≡ true
      touched_either n (inl t) = (d.done).all n t
      touched_either n (inr t) = on n t

  -- ---- one that was not done

  pub operation_fails : (w : Seen) (op : Op) (end : TryEnd) → step_of f ≡ Some (Operate op) → OperateTold tx birth (length (d.done).acts) (d.done).touched op (Err end) v w → LinesTold tx birth lines (Err end) u w
  operation_fails w op end is told = (v, d.done, at_operation op (next_op_is op is) told)

  pub back_fails : (w : Seen) (i upto : ℕ) (end : TryEnd) → step_of f ≡ Some (GoBack i) → upto_of i ((d.over).saves).standing ≡ Some upto → stands_above upto (d.over).written ≡ true
      → BackTold tx birth (length (d.done).acts) (d.done).touched upto (d.over).written (Err end) v w → LinesTold tx birth lines (Err end) u w
  back_fails w i upto end is stands some told = (
    v,
    d.done,
    at_going_back upto (next_back_is i upto is stands some)
        (subst (λ ws. BackTold tx birth (length (d.done).acts) (d.done).touched upto ws (Err end) v w) (d.written_is ∙ ap (λ s. written_by s (d.done).acts) (sym ((d.done).grows).splits_are)) told),
  )

  pub between_fails : (w : Seen) (end : TryEnd) → end ≡ Stopped Memory → w ≡ v → LinesTold tx birth lines (Err end) u w
  between_fails w end is same = (v, d.done, between is same)

-- ---- at the beginning, and at the end

pub nothing_done : (tx : TxId) (birth : Birth) (lines : List Action) (u : Seen) (going : Option Going) (f : Following) → u.standing ≡ Active tx birth 0 untouched → going ≡ Some going_at_start → StandsAt lines [] at_start f → Doing tx birth lines u u going f []
nothing_done tx birth lines u going f active fresh place =
    record {
      done = record { acts = []; entries = []; touched = untouched; follows = refl; acts_are = no_act 1 []; grows = grows_none u; standing_is = active; only = λ n h. absurd (no_true h); all = λ n h. absurd (no_true h) };
      acts_are = refl;
      over = going_at_start;
      going_is = fresh;
      written_is = refl;
      place = place;
    }
  where
    no_true : false ≡ true → ⊥
    no_true h = cc

pub past_acts : (acts : List Act) (n : ℕ) → slice_get acts n ≡ None → take n acts ≡ acts
past_acts acts n e = at ((slice_get_cases acts n).1)
  where
    at : ((x : Act) × (n < length acts) × (slice_get acts n ≡ Some x) × (get_or acts n x ≡ x)) ⊎ ((length acts ≤ n) × (slice_get acts n ≡ None)) → take n acts ≡ acts
    at (inl (x, within, is, read)) = absurd (let h = sym is ∙ e in cc)
    at (inr past) = take_all n acts past.0
