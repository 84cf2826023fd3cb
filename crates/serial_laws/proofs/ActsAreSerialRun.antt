-- Acts that keep Base and Order are a serial run.
pub mod AnswersAreCarried
pub mod OneMoreAct
pub mod PlaceByPlace
use Rattle.std.proofs.Common.{◌≡◌, refl, sym, ap, subst, ◌∙◌, ℕ, zero, suc, ◌+◌, ◌<◌, ◌≤◌, ◌⊎◌, ⊎_elim, true, false, not, ◌&&◌, List, [], ◌∷◌, ◌++◌, map, Option, Some, ◌==◌, nat_lt, arith, le_trans}
use Rattle.std.specs.List.{AllByRecursion, filter}
use Rattle.std.proofs.lemmas.Bool.{both_ways, cases_order, cases_lt, cases_Bool, eqb-true, eq-eqb, ltb-true, lt-ltb, leb-true, false_from_ne_true, cond-false, and_parts}
use Rattle.clv_base.specs.declared.ops.Op.{Op}
use Rattle.clv_base.specs.declared.ops.Answer.{Answer}
use Rattle.clv_base.specs.Maps.{KeyMap, Trail, Act, Operates, GoesBack, op_answer, op_after, map_now, act_after, acts_after, acts_answers, act_answers, replay_map, replay_answers}
use Rattle.clv_base.specs.Folding.{IsRising}
use Rattle.clv_base.specs.Backs.{PlacedAct, is_later_of, held_of, map_of, AnswerFits, KeepsBase, done_of, all_done, mets, acts_clash, keeps_order, backs_with, is_next, are_numbered, acts_at, answers_by, answers_at, each_from, AllActsBelow, ActsAreSerialRun}
use Rattle.law_base.specs.Items.{AllLater}
use Rattle.law_base.proofs.Bools.{was_true, and_true}
use Rattle.law_base.proofs.Lists.{all_mono, all_push, all_kept, all_filter, later_mono, later_push, later_filter, map_append}
use Rattle.serial_laws.proofs.Held.OperationsAtPlaces.{HeldOp, pair, as_act, clashes, after_ops, after_append, Runs, runs_both, runs_rest, IsClear, AllBelow, at_, start, place_by_place, Leaves, runs_kept}
use Rattle.serial_laws.proofs.Held.OperationsPassOthers.{clash_flip, Between, MeetsNone}
use Rattle.serial_laws.proofs.Held.TrailsAreHeldMaps.{up_to, beyond, AreSorted, split_at, filter_push, stands, Kept, kept_none, kept_op, kept_back, gone_back}
use Rattle.serial_laws.proofs.ActsAreSerialRun.AnswersAreCarried.{acts_of, AllFit, trail_after, CarriesBy, AllCarry, carried, meets_none, carries_on, carries_back}
use Rattle.serial_laws.proofs.ActsAreSerialRun.OneMoreAct.{by_last, held_push, base_push, IsClearFor, order_push, below_push, own, acts_at_own, answers_of_own, answers_at_own, acts_push, trail_push, fits_push, last_after, backs_after, last_push, backs_push, numbers_push}
use Rattle.serial_laws.proofs.ActsAreSerialRun.PlaceByPlace.{all_of_filter, all_mapped, later_both, later_all, map_of_held, all_held, stays_by, filter_held, done_later, at_back, at_other, rising_start, start_same, KeptBy, kept_after, above}

-- operations of one place have their numbers in order
abbrev AreInTurn : HeldOp → HeldOp → Type 0
AreInTurn x y = x.place ≡ y.place → x.number ≤ y.number

-- what holds after some acts: it runs as it stands, in order; place by place it is what the acts of the place leave; and these give their
-- answers where those of lower places that hold come first
record Stands (m : KeyMap) (k : ℕ) (ps : List PlacedAct) (ds : List HeldOp) : Type 0 where
  held : held_of [] ps ≡ map as_act ds
  runs : Runs m ds
  clear : AllLater IsClear ds
  in_turn : AllLater AreInTurn ds
  below : AllBelow k ds
  kept : (n : ℕ) (s : KeyMap) → KeptBy (own n ps) s (at_ n ds)
  fits : (n : ℕ) → AllFit (start m ds n) [] (own n ps)

-- what is asked of the acts
record Lawful (m : KeyMap) (k : ℕ) (ps : List PlacedAct) : Type 0 where
  base : KeepsBase m [] ps
  order : keeps_order (mets [] ps) ≡ true
  below : AllActsBelow k ps
  numbered : (n : ℕ) → are_numbered 0 [] (acts_of (own n ps)) ≡ true

abbrev stands_none : (m : KeyMap) (k : ℕ) → Stands m k [] []
stands_none m k = record { held = refl; runs = tt; clear = tt; in_turn = tt; below = tt; kept = λ n s. kept_none s; fits = λ n. tt }

-- ---- one more act of a place

own_here : (n : ℕ) (ps : List PlacedAct) (x : PlacedAct) → (x.place == n) ≡ true → own n (ps ++ x ∷ []) ≡ own n ps ++ x ∷ []
own_here n ps x e = filter_push (λ p. p.place == n) ps x true e

own_elsewhere : (n : ℕ) (ps : List PlacedAct) (x : PlacedAct) → (x.place == n) ≡ false → own n (ps ++ x ∷ []) ≡ own n ps
own_elsewhere n ps x e = filter_push (λ p. p.place == n) ps x false e

-- its number goes on, for whichever place it is
goes_on : (n : ℕ) (ps : List PlacedAct) (x : PlacedAct) → (x.place == n) ≡ true → are_numbered 0 [] (acts_of (own n (ps ++ x ∷ []))) ≡ true
    → is_next (last_after 0 (acts_of (own n ps))) x.number x.act (backs_after [] (acts_of (own n ps))) ≡ true
goes_on n ps x e l =
    (numbers_push 0 [] (acts_of (own n ps)) (x.number, x.act)
    (subst (λ a. are_numbered 0 [] a ≡ true) (acts_push (own n ps) x) (subst (λ q. are_numbered 0 [] (acts_of q) ≡ true) (own_here n ps x e) l))).1

numbered_before : (n : ℕ) (ps : List PlacedAct) (x : PlacedAct) → are_numbered 0 [] (acts_of (own n (ps ++ x ∷ []))) ≡ true → are_numbered 0 [] (acts_of (own n ps)) ≡ true
numbered_before n ps x l =
    ⊎_elim
    (λ e. (numbers_push 0 [] (acts_of (own n ps)) (x.number, x.act) (subst (λ a. are_numbered 0 [] a ≡ true) (acts_push (own n ps) x) (subst (λ q. are_numbered 0 [] (acts_of q) ≡ true) (own_here n ps x e) l))).0)
    (λ e. subst (λ q. are_numbered 0 [] (acts_of q) ≡ true) (own_elsewhere n ps x e) l)
    (cases_Bool (x.place == n))

before : (m : KeyMap) (k : ℕ) (ps : List PlacedAct) (x : PlacedAct) → Lawful m k (ps ++ x ∷ []) → Lawful m k ps
before m k ps x l =
    record {
      base = (base_push m [] ps x l.base).0;
      order = (order_push ps x l.order).0;
      below = (below_push k ps x l.below).0;
      numbered = λ n. numbered_before n ps x (l.numbered n);
    }

kept_push : (qs : List PlacedAct) (x : PlacedAct) (s : KeyMap) (ds : List HeldOp)
    → Kept x.number (backs_with x.number x.act (backs_after [] (acts_of qs))) s ((x.number, act_after x.act s (trail_after (acts_of qs) s [])) ∷ trail_after (acts_of qs) s []) ds
    → KeptBy (qs ++ x ∷ []) s ds
kept_push qs x s ds k =
    let e = acts_push qs x in
    let a = sym (ap (last_after 0) e ∙ last_push 0 (acts_of qs) (x.number, x.act)) in
    let b = sym (ap (backs_after []) e ∙ backs_push [] (acts_of qs) (x.number, x.act)) in
    subst (λ t. Kept (last_after 0 (acts_of (qs ++ x ∷ []))) (backs_after [] (acts_of (qs ++ x ∷ []))) s t ds) (sym (trail_push qs x s []))
    (subst (λ c. Kept (last_after 0 (acts_of (qs ++ x ∷ []))) c s ((x.number, act_after x.act s (trail_after (acts_of qs) s [])) ∷ trail_after (acts_of qs) s []) ds) b
    (subst (λ c. Kept c (backs_with x.number x.act (backs_after [] (acts_of qs))) s ((x.number, act_after x.act s (trail_after (acts_of qs) s [])) ∷ trail_after (acts_of qs) s []) ds) a k))

-- the maps before the places, and so the answers, where only this place and those above it change
fits_after : (R : KeyMap → KeyMap → Type 0) (m : KeyMap) (k : ℕ) (ps : List PlacedAct) (x : PlacedAct) (ds es : List HeldOp) → Stands m k ps ds
    → ((j : ℕ) → (x.place ≡ j → ⊥) → at_ j es ≡ at_ j ds)
    → ((j : ℕ) → x.place < j → AllCarry R (own j ps)) → R (start m ds (suc x.place)) (start m es (suc x.place))
    → AnswerFits x (map_now (start m ds x.place) (trail_after (acts_of (own x.place ps)) (start m ds x.place) [])) x.act
    → (n : ℕ) → AllFit (start m es n) [] (own n (ps ++ x ∷ []))
fits_after R m k ps x ds es st same carry r f n = ⊎_elim here (⊎_elim above_it below_it) (cases_order x.place n)
  where
    here : x.place ≡ n → AllFit (start m es n) [] (own n (ps ++ x ∷ []))
    here e =
        let g : AllFit (start m ds x.place) [] (own x.place ps ++ x ∷ []) = fits_push (own x.place ps) x (start m ds x.place) [] (st.fits x.place) f in
        subst (λ j. AllFit (start m es j) [] (own j (ps ++ x ∷ []))) e
        (subst (λ q. AllFit (start m es x.place) [] q) (sym (own_here x.place ps x (eq-eqb x.place x.place refl)))
        (subst (λ s. AllFit s [] (own x.place ps ++ x ∷ [])) (sym (start_same m ds es x.place (λ j l. same j (λ q. omega arith)))) g))

    elsewhere : (x.place ≡ n → ⊥) → own n ps ≡ own n (ps ++ x ∷ [])
    elsewhere other = sym (own_elsewhere n ps x (false_from_ne_true (x.place == n) (λ t. other (eqb-true x.place n t))))

    above_it : x.place < n → AllFit (start m es n) [] (own n (ps ++ x ∷ []))
    above_it l =
        let r' : R (start m ds n) (start m es n) = above R m ps ds es x.place st.kept st.fits same carry r n l in
        subst (λ q. AllFit (start m es n) [] q) (elsewhere (λ e. omega arith)) (carried R (own n ps) (start m ds n) (start m es n) [] [] r' tt (carry n l) (st.fits n)).0

    below_it : n < x.place → AllFit (start m es n) [] (own n (ps ++ x ∷ []))
    below_it l =
        subst (λ q. AllFit (start m es n) [] q) (elsewhere (λ e. omega arith))
        (subst (λ s. AllFit s [] (own n ps)) (sym (start_same m ds es n (λ j i. same j (λ q. omega arith)))) (st.fits n))

-- those of the places above clash with nothing that the act is met by
carry_above : (R : KeyMap → KeyMap → Type 0) (ps : List PlacedAct) (x : PlacedAct) (met : List (Op × Answer))
    → ((q : PlacedAct) → acts_clash (done_of q.act q.answer) met ≡ false → CarriesBy R q q.act)
    → AllByRecursion (IsClearFor (x.place, met)) ps → (j : ℕ) → x.place < j → AllCarry R (own j ps)
carry_above R ps x met c all j l =
    all_mono (λ q. IsClearFor (x.place, met) q × ((q.place == j) ≡ true)) (λ q. CarriesBy R q q.act)
    (λ q h. c q (h.0 (lt-ltb x.place q.place (let e : q.place ≡ j = eqb-true q.place j h.1 in omega arith)))) (own j ps) (all_filter (IsClearFor (x.place, met)) (λ q. q.place == j) ps all)

-- and of those that hold
clear_held : (m : KeyMap) (k : ℕ) (ps : List PlacedAct) (ds : List HeldOp) (pl : ℕ) (met : List (Op × Answer)) → Stands m k ps ds → AllByRecursion (IsClearFor (pl, met)) ps
    → AllByRecursion (λ y. nat_lt pl y.place ≡ true → acts_clash (pair y ∷ []) met ≡ false) ds
clear_held m k ps ds pl met st all =
    all_mapped (IsClearFor (pl, met)) as_act ds (subst (AllByRecursion (IsClearFor (pl, met))) st.held (all_held (IsClearFor (pl, met)) [] ps tt all))

-- ---- an operation

module _ (m : KeyMap) (k : ℕ) (ps : List PlacedAct) (ds : List HeldOp) (pl nr : ℕ) (o : Op) (w : Option Answer) where
  abbrev op_act : PlacedAct
  op_act = record { place = pl; number = nr; act = Operates o; answer = w }

  abbrev op_held : HeldOp
  op_held = record { place = pl; number = nr; op = o; answer = op_answer o (after_ops m ds) }

  -- it is answered by the map of those that hold
  op_answered : Stands m k ps ds → Lawful m k (ps ++ op_act ∷ []) → w ≡ Some (op_answer o (after_ops m ds))
  op_answered st l = (base_push m [] ps op_act l.base).1 ∙ ap (λ h. Some (op_answer o (map_of m h))) st.held ∙ ap (λ n. Some (op_answer o n)) (map_of_held m ds)

  op_met : Lawful m k (ps ++ op_act ∷ []) → w ≡ Some (op_answer o (after_ops m ds)) → AllByRecursion (IsClearFor (pl, pair op_held ∷ [])) ps
  op_met l e = subst (λ a. AllByRecursion (IsClearFor (pl, done_of (Operates o) a)) ps) e (order_push ps op_act l.order).1

  at_here : (n : ℕ) → (pl == n) ≡ true → at_ n (ds ++ op_held ∷ []) ≡ at_ n ds ++ op_held ∷ []
  at_here n e = filter_push (λ d. d.place == n) ds op_held true e

  at_elsewhere : (n : ℕ) → (pl == n) ≡ false → at_ n (ds ++ op_held ∷ []) ≡ at_ n ds
  at_elsewhere n e = filter_push (λ d. d.place == n) ds op_held false e

  op_kept : Stands m k ps ds → Lawful m k (ps ++ op_act ∷ []) → (n : ℕ) (s : KeyMap) → KeptBy (own n (ps ++ op_act ∷ [])) s (at_ n (ds ++ op_held ∷ []))
  op_kept st l n s =
      ⊎_elim
      (λ e. subst (λ q. KeptBy q s (at_ n (ds ++ op_held ∷ []))) (sym (own_here n ps op_act e))
      (subst (λ h. KeptBy (own n ps ++ op_act ∷ []) s h) (sym (at_here n e))
      (kept_push (own n ps) op_act s (at_ n ds ++ op_held ∷ [])
      (kept_op (last_after 0 (acts_of (own n ps))) (backs_after [] (acts_of (own n ps))) s (trail_after (acts_of (own n ps)) s []) (at_ n ds) op_held (st.kept n s) (leb-true _ _ (goes_on n ps op_act e (l.numbered n)))))))
      (λ e. subst (λ q. KeptBy q s (at_ n (ds ++ op_held ∷ []))) (sym (own_elsewhere n ps op_act e)) (subst (λ h. KeptBy (own n ps) s h) (sym (at_elsewhere n e)) (st.kept n s)))
      (cases_Bool (pl == n))

  op_in_turn : Stands m k ps ds → Lawful m k (ps ++ op_act ∷ []) → AllByRecursion (λ y. AreInTurn y op_held) ds
  op_in_turn st l =
      let e : (pl == pl) ≡ true = eq-eqb pl pl refl in
      let last : last_after 0 (acts_of (own pl ps)) ≤ nr = leb-true _ _ (goes_on pl ps op_act e (l.numbered pl)) in
      all_mono (λ y. (y.place == pl) ≡ true → y.number ≤ last_after 0 (acts_of (own pl ps))) (λ y. AreInTurn y op_held) (λ y h s. le_trans (h (eq-eqb y.place pl s)) last) ds
      (all_of_filter (λ y. y.number ≤ last_after 0 (acts_of (own pl ps))) (λ y. y.place == pl) ds (st.kept pl m).low)

  op_clear : Stands m k ps ds → Lawful m k (ps ++ op_act ∷ []) → w ≡ Some (op_answer o (after_ops m ds)) → AllByRecursion (λ y. IsClear y op_held) ds
  op_clear st l e =
      all_mono (λ y. nat_lt pl y.place ≡ true → acts_clash (pair y ∷ []) (pair op_held ∷ []) ≡ false) (λ y. IsClear y op_held) (λ y h t. (meets_none y (op_held ∷ []) (h t)).0) ds
      (clear_held m k ps ds pl (pair op_held ∷ []) st (op_met l e))

  op_step : IsRising m → Stands m k ps ds → Lawful m k (ps ++ op_act ∷ []) → Stands m k (ps ++ op_act ∷ []) (ds ++ op_held ∷ [])
  op_step h st l =
      let w_is = op_answered st l in
      let low = below_push k ps op_act l.below in
      let runs : Runs m (ds ++ op_held ∷ []) = runs_both m ds (op_held ∷ []) st.runs (refl, tt) in
      let clear : AllLater IsClear (ds ++ op_held ∷ []) = later_push IsClear ds op_held st.clear (op_clear st l w_is) in
      let below : AllBelow k (ds ++ op_held ∷ []) = all_push (λ d. d.place < k) ds op_held st.below low.1 in
      let here : at_ pl (ds ++ op_held ∷ []) ≡ at_ pl ds ++ op_held ∷ [] = at_here pl (eq-eqb pl pl refl) in
      let same : (j : ℕ) → (pl ≡ j → ⊥) → at_ j (ds ++ op_held ∷ []) ≡ at_ j ds = λ j other. at_elsewhere j (false_from_ne_true (pl == j) (λ t. other (eqb-true pl j t))) in
      let start_is : start m (ds ++ op_held ∷ []) pl ≡ start m ds pl = start_same m ds (ds ++ op_held ∷ []) pl (λ j l. same j (λ q. omega arith)) in
      let own_runs : Runs (start m ds pl) (at_ pl ds ++ op_held ∷ []) =
      subst (λ s. Runs s (at_ pl ds ++ op_held ∷ [])) start_is (subst (λ x. Runs (start m (ds ++ op_held ∷ []) pl) x) here ((place_by_place m (ds ++ op_held ∷ []) k h clear runs below).0 pl low.1)) in
      let last : Runs (start m ds (suc pl)) (op_held ∷ []) = runs_rest (start m ds pl) (at_ pl ds) (op_held ∷ []) own_runs in
      let now : start m ds (suc pl) ≡ map_now (start m ds pl) (trail_after (acts_of (own pl ps)) (start m ds pl) []) = sym (st.kept pl (start m ds pl)).now in
      let next : start m (ds ++ op_held ∷ []) (suc pl) ≡ op_after o (start m ds (suc pl)) =
      ap (λ s. after_ops s (at_ pl (ds ++ op_held ∷ []))) start_is ∙ ap (after_ops (start m ds pl)) here ∙ after_append (start m ds pl) (at_ pl ds) (op_held ∷ []) in
      record {
        held = held_push [] ps op_act ∙ ap (λ x. x ++ op_act ∷ []) st.held ∙ ap (λ a. map as_act ds ++ record { place = pl; number = nr; act = Operates o; answer = a } ∷ []) w_is ∙ sym (map_append as_act ds (op_held ∷ []));
        runs = runs;
        clear = clear;
        in_turn = later_push AreInTurn ds op_held st.in_turn (op_in_turn st l);
        below = below;
        kept = op_kept st l;
        fits =
            fits_after (Between (op_held ∷ [])) m k ps op_act ds (ds ++ op_held ∷ []) st same
            (carry_above (Between (op_held ∷ [])) ps op_act (pair op_held ∷ []) (λ q c. carries_on q q.act (op_held ∷ []) c) (op_met l w_is))
            (record { rises = rising_start m ds (suc pl) h; runs = last; leads = sym next })
            (w_is ∙ ap Some (last.0 ∙ ap (op_answer o) now));
      }

-- ---- a going back

module _ (m : KeyMap) (k : ℕ) (ps : List PlacedAct) (ds : List HeldOp) (pl nr u : ℕ) (w : Option Answer) where
  abbrev back_act : PlacedAct
  back_act = record { place = pl; number = nr; act = GoesBack u; answer = w }

  -- what it takes away, and what stays
  abbrev taken : List HeldOp
  taken = beyond u (at_ pl ds)

  abbrev left : List HeldOp
  left = filter (stays_by pl u) ds

  back_met : Stands m k ps ds → Lawful m k (ps ++ back_act ∷ []) → AllByRecursion (IsClearFor (pl, map pair taken)) ps
  back_met st l =
      subst (λ a. AllByRecursion (IsClearFor (pl, a)) ps) (ap (λ h. all_done (filter (is_later_of pl u) h)) st.held ∙ done_later pl u ds) (order_push ps back_act l.order).1

  -- of one that stays with all that are taken away
  clear_of_taken : (y : HeldOp) → (nat_lt pl y.place ≡ true → acts_clash (pair y ∷ []) (map pair taken) ≡ false) → AllByRecursion (λ x. pl < y.place → (x.place == pl) ≡ true → nat_lt u x.number ≡ true → clashes x y ≡ false) ds
  clear_of_taken y c = ⊎_elim (λ t. at (meets_none y taken (c t))) (λ f. nowhere ds f) (cases_Bool (nat_lt pl y.place))
    where
      nowhere : (xs : List HeldOp) → nat_lt pl y.place ≡ false → AllByRecursion (λ x. pl < y.place → (x.place == pl) ≡ true → nat_lt u x.number ≡ true → clashes x y ≡ false) xs
      nowhere [] f = tt
      nowhere (x ∷ xs) f = ((λ low a b. absurd (both_ways (nat_lt pl y.place) f (lt-ltb pl y.place low))), nowhere xs f)

      at : MeetsNone y taken → AllByRecursion (λ x. pl < y.place → (x.place == pl) ≡ true → nat_lt u x.number ≡ true → clashes x y ≡ false) ds
      at none =
          all_mono (λ x. (x.place == pl) ≡ true → nat_lt u x.number ≡ true → clashes y x ≡ false) (λ x. pl < y.place → (x.place == pl) ≡ true → nat_lt u x.number ≡ true → clashes x y ≡ false)
          (λ x h low a b. clash_flip x y ∙ h a b) ds
          (all_of_filter (λ x. nat_lt u x.number ≡ true → clashes y x ≡ false) (λ x. x.place == pl) ds (all_of_filter (λ x. clashes y x ≡ false) (λ x. nat_lt u x.number) (at_ pl ds) none))

  -- what is taken away clashes with none that stays behind it
  leaves : Stands m k ps ds → Lawful m k (ps ++ back_act ∷ []) → AllLater (Leaves (stays_by pl u)) ds
  leaves st l =
      let all = later_all (λ x y. pl < y.place → (x.place == pl) ≡ true → nat_lt u x.number ≡ true → clashes x y ≡ false) ds
      (all_mono (λ y. nat_lt pl y.place ≡ true → acts_clash (pair y ∷ []) (map pair taken) ≡ false) (λ y. AllByRecursion (λ x. pl < y.place → (x.place == pl) ≡ true → nat_lt u x.number ≡ true → clashes x y ≡ false) ds) clear_of_taken ds
      (clear_held m k ps ds pl (map pair taken) st (back_met st l))) in
      later_mono _ (Leaves (stays_by pl u)) one ds (later_both _ _ ds all (later_both IsClear AreInTurn ds st.clear st.in_turn))
    where
      one : (x y : HeldOp) → (pl < y.place → (x.place == pl) ≡ true → nat_lt u x.number ≡ true → clashes x y ≡ false) × (IsClear x y × AreInTurn x y) → Leaves (stays_by pl u) x y
      one x y h out kept =
          let p = and_parts (x.place == pl) (nat_lt u x.number) (was_true _ out) in
          let q : x.place ≡ pl = eqb-true x.place pl p.0 in
          let n : u < x.number = ltb-true u x.number p.1 in
          ⊎_elim
          (λ e. absurd (both_ways (stays_by pl u y) (ap not (and_true (y.place == pl) (nat_lt u y.number) (eq-eqb y.place pl (sym e)) (lt-ltb u y.number (let z : x.number ≤ y.number = h.1.1 (q ∙ e) in omega arith)))) kept))
          (⊎_elim (λ low. h.0 low p.0 p.1) (λ high. h.1.0 (lt-ltb y.place x.place (omega arith))))
          (cases_order pl y.place)

  left_here : (n : ℕ) → (pl == n) ≡ true → at_ n left ≡ up_to u (at_ n ds)
  left_here n e = subst (λ j. at_ j left ≡ up_to u (at_ j ds)) (eqb-true pl n e) (at_back pl u ds)

  back_kept : Stands m k ps ds → Lawful m k (ps ++ back_act ∷ []) → (n : ℕ) (s : KeyMap) → KeptBy (own n (ps ++ back_act ∷ [])) s (at_ n left)
  back_kept st l n s = ⊎_elim here elsewhere (cases_Bool (pl == n))
    where
      here : (pl == n) ≡ true → KeptBy (own n (ps ++ back_act ∷ [])) s (at_ n left)
      here e =
          let last : ℕ = last_after 0 (acts_of (own n ps)) in
          let backs : List (ℕ × ℕ) = backs_after [] (acts_of (own n ps)) in
          let next = and_parts (nat_lt last nr) (nat_lt u nr && stands u backs) (goes_on n ps back_act e (l.numbered n)) in
          let stood : stands u backs ≡ true = (and_parts (nat_lt u nr) (stands u backs) next.1).1 in
          subst (λ q. KeptBy q s (at_ n left)) (sym (own_here n ps back_act e))
          (subst (λ h. KeptBy (own n ps ++ back_act ∷ []) s h) (sym (left_here n e))
          (kept_push (own n ps) back_act s (up_to u (at_ n ds))
          (kept_back last backs ((nr, u) ∷ backs) s (trail_after (acts_of (own n ps)) s []) (at_ n ds) nr u (st.kept n s) (let z : last < nr = ltb-true last nr next.0 in omega arith) stood (gone_back nr u backs))))

      elsewhere : (pl == n) ≡ false → KeptBy (own n (ps ++ back_act ∷ [])) s (at_ n left)
      elsewhere e =
          subst (λ q. KeptBy q s (at_ n left)) (sym (own_elsewhere n ps back_act e))
          (subst (λ h. KeptBy (own n ps) s h) (sym (at_other pl u n ds (λ q. both_ways (pl == n) e (eq-eqb pl n q)))) (st.kept n s))

  back_step : IsRising m → Stands m k ps ds → Lawful m k (ps ++ back_act ∷ []) → Stands m k (ps ++ back_act ∷ []) left
  back_step h st l =
      let low = below_push k ps back_act l.below in
      let here : at_ pl left ≡ up_to u (at_ pl ds) = at_back pl u ds in
      let same : (j : ℕ) → (pl ≡ j → ⊥) → at_ j left ≡ at_ j ds = λ j other. at_other pl u j ds other in
      let start_is : start m left pl ≡ start m ds pl = start_same m ds left pl (λ j l. same j (λ q. omega arith)) in
      let next : start m left (suc pl) ≡ after_ops (start m ds pl) (up_to u (at_ pl ds)) = ap (λ s. after_ops s (at_ pl left)) start_is ∙ ap (after_ops (start m ds pl)) here in
      let sorted : AreSorted (at_ pl ds) =
      later_mono _ (λ x y. x.number ≤ y.number) (λ x y h. h.0 (eqb-true x.place pl h.1 ∙ sym (eqb-true y.place pl h.2))) (at_ pl ds) (later_filter AreInTurn (λ d. d.place == pl) ds st.in_turn) in
      let split : up_to u (at_ pl ds) ++ taken ≡ at_ pl ds = split_at u (at_ pl ds) sorted in
      let own_runs : Runs (start m ds pl) (up_to u (at_ pl ds) ++ taken) = subst (Runs (start m ds pl)) (sym split) ((place_by_place m ds k h st.clear st.runs st.below).0 pl low.1) in
      let taken_runs : Runs (start m left (suc pl)) taken = subst (λ s. Runs s taken) (sym next) (runs_rest (start m ds pl) (up_to u (at_ pl ds)) taken own_runs) in
      record {
        held = held_push [] ps back_act ∙ ap (filter (λ q. not (is_later_of pl u q))) st.held ∙ filter_held pl u ds;
        runs = runs_kept (stays_by pl u) m ds h (leaves st l) st.runs;
        clear = later_mono _ IsClear (λ x y h. h.0) left (later_filter IsClear (stays_by pl u) ds st.clear);
        in_turn = later_mono _ AreInTurn (λ x y h. h.0) left (later_filter AreInTurn (stays_by pl u) ds st.in_turn);
        below = all_kept (λ d. d.place < k) (stays_by pl u) ds st.below;
        kept = back_kept st l;
        fits =
            fits_after (λ a b. Between taken b a) m k ps back_act ds left st same
            (carry_above (λ a b. Between taken b a) ps back_act (map pair taken) (λ q c. carries_back q q.act taken c) (back_met st l))
            (record { rises = rising_start m left (suc pl) h; runs = taken_runs; leads = ap (λ s. after_ops s taken) next ∙ sym (after_append (start m ds pl) (up_to u (at_ pl ds)) taken) ∙ ap (after_ops (start m ds pl)) split })
            (base_push m [] ps back_act l.base).1;
      }

-- ---- all acts

one_more : (m : KeyMap) (k : ℕ) (ps : List PlacedAct) (ds : List HeldOp) (pl nr : ℕ) (a : Act) (w : Option Answer) → IsRising m → Stands m k ps ds
    → Lawful m k (ps ++ record { place = pl; number = nr; act = a; answer = w } ∷ [])
    → (es : List HeldOp) × Stands m k (ps ++ record { place = pl; number = nr; act = a; answer = w } ∷ []) es
one_more m k ps ds pl nr (Operates o) w h st l = (ds ++ op_held m k ps ds pl nr o w ∷ [], op_step m k ps ds pl nr o w h st l)
one_more m k ps ds pl nr (GoesBack u) w h st l = (left m k ps ds pl nr u w, back_step m k ps ds pl nr u w h st l)

stand_at_last : (m : KeyMap) (k : ℕ) → IsRising m → (ps : List PlacedAct) → Lawful m k ps → (ds : List HeldOp) × Stands m k ps ds
stand_at_last m k h =
    by_last (λ ps. Lawful m k ps → (ds : List HeldOp) × Stands m k ps ds) (λ l. ([], stands_none m k))
    (λ ps x before_it l. let r = before_it (before m k ps x l) in one_more m k ps r.0 x.place x.number x.act x.answer h r.1 l)

-- ---- as a serial run

fit_one : (q : PlacedAct) (a : Act) (m : KeyMap) → AnswerFits q m a → act_answers a m ≡ answers_by q.answer
fit_one q (Operates o) m f = sym (ap answers_by f)
fit_one q (GoesBack u) m f = sym (ap answers_by f)

fit_answers : (qs : List PlacedAct) (m : KeyMap) (trail : Trail) → AllFit m trail qs → acts_answers (acts_of qs) m trail ≡ answers_of_own qs
fit_answers [] m trail f = refl
fit_answers (q ∷ qs) m trail f =
    ap (λ as_. as_ ++ acts_answers (acts_of qs) m ((q.number, act_after q.act m trail) ∷ trail)) (fit_one q q.act (map_now m trail) f.0)
    ∙ ap (λ as_. answers_by q.answer ++ as_) (fit_answers qs m ((q.number, act_after q.act m trail) ∷ trail) f.1)

none_there : (n k : ℕ) (ps : List PlacedAct) → k ≤ n → AllActsBelow k ps → own n ps ≡ []
none_there n k [] l b = refl
none_there n k (p ∷ ps) l b =
    cond-false (p.place == n) (p ∷ own n ps) (own n ps) (false_from_ne_true (p.place == n) (λ t. let e : p.place ≡ n = eqb-true p.place n t in let low : p.place < k = b.0 in omega arith)) ∙ none_there n k ps l b.1

replays_from : (m : KeyMap) (k : ℕ) (ps : List PlacedAct) (ds : List HeldOp) → Stands m k ps ds → (n c : ℕ)
    → (replay_answers (start m ds n) (each_from (λ j. acts_at j ps) n c) ≡ each_from (λ j. answers_at j ps) n c) × (replay_map (start m ds n) (each_from (λ j. acts_at j ps) n c) ≡ start m ds (n + c))
replays_from m k ps ds st n zero = let e : n ≡ n + 0 = omega arith in (refl, ap (start m ds) e)
replays_from m k ps ds st n (suc c) =
    let rest = replays_from m k ps ds st (suc n) c in
    let e : suc n + c ≡ n + suc c = omega arith in
    let next : acts_after (acts_at n ps) (start m ds n) [] ≡ start m ds (suc n) = ap (λ as_. acts_after as_ (start m ds n) []) (acts_at_own n ps) ∙ kept_after (own n ps) (start m ds n) (at_ n ds) (st.kept n (start m ds n)) in
    let answers : acts_answers (acts_at n ps) (start m ds n) [] ≡ answers_at n ps =
    ap (λ as_. acts_answers as_ (start m ds n) []) (acts_at_own n ps) ∙ fit_answers (own n ps) (start m ds n) [] (st.fits n) ∙ sym (answers_at_own n ps) in (
      ap (λ as_. as_ ∷ replay_answers (acts_after (acts_at n ps) (start m ds n) []) (each_from (λ j. acts_at j ps) (suc n) c)) answers
          ∙ ap (λ as_. answers_at n ps ∷ as_) (ap (λ s. replay_answers s (each_from (λ j. acts_at j ps) (suc n) c)) next ∙ rest.0),
      ap (λ s. replay_map s (each_from (λ j. acts_at j ps) (suc n) c)) next ∙ rest.1 ∙ ap (start m ds) e,
    )

pub acts_are_serial_run : ActsAreSerialRun
acts_are_serial_run m ps k h base order below numbered =
    let all : (n : ℕ) → are_numbered 0 [] (acts_of (own n ps)) ≡ true =
    λ n. ⊎_elim
    (λ (l : n < k). subst (λ as_. are_numbered 0 [] as_ ≡ true) (acts_at_own n ps) (numbered n l))
    (λ (g : k ≤ n). ap (λ qs. are_numbered 0 [] (acts_of qs)) (none_there n k ps g below))
    (cases_lt n k) in
    let s = stand_at_last m k h ps (record { base = base; order = order; below = below; numbered = all }) in
    let st = s.1 in
    let r = replays_from m k ps s.0 st 0 k in
    let e : 0 + k ≡ k = omega arith in
    (r.0, r.1 ∙ ap (start m s.0) e ∙ (place_by_place m s.0 k h st.clear st.runs st.below).1 ∙ sym (ap (map_of m) st.held ∙ map_of_held m s.0))
