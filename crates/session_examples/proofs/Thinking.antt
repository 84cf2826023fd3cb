-- How a going back leaves a try.
use Rattle.std.proofs.Common.{◌≡◌, ◌∙◌, refl, sym, ap, subst, ℕ, suc, true, false, cond, List, [], ◌∷◌, ◌++◌, append_assoc, append-nil, length-append, Option, Some, None, Result, Ok, Err, arith}
use Rattle.std.specs.Prelude.{IfOk}
use Rattle.std.proofs.lemmas.Bool.{both_ways}
use Rattle.clv_base.specs.declared.values.Value.{Value as ValueType}
use Rattle.clv_base.specs.Journals.{History}
use Rattle.clv_base.specs.Sessions.{SessionState}
use Rattle.cluster_turns.specs.declared.shards.Shards.{Shards}
use Rattle.cluster_turns.specs.declared.shards.Walker.{Walker}
use Rattle.cluster_turns.specs.Notes.{is_above}
use Rattle.session_ops.specs.declared.rolling.BackError.{BackError}
use Rattle.session_ops.specs.declared.rolling.BackError.TheVariants as left
use Rattle.session_ops.specs.WentBack.{has_died}
use Rattle.session_ops.specs.Undone.{LeftBy}
use Rattle.session_books.specs.Done.{Done, WentBack}
use Rattle.script_runs.specs.Acts.{AreActs, IsGoingBack, stands_above, written_by, written_after}
use Rattle.script_runs.specs.Told.{BackTold}
use Rattle.script_runs.proofs.Laws.{back_more}
use Rattle.session_api.specs.declared.progress.Progress.{Progress}
use Rattle.session_api.specs.declared.progress.Progress.TheVariants.{Idle, Active, Worn, Undone, Asked, Ended}
use Rattle.session_api.specs.declared.savepoints.RollError.{RollError}
use Rattle.session_api.specs.Progresses.{back_told, progress_back}
use Rattle.session_api.specs.GoingBack.{has_number, BackMade, RollBeside, RollCalled}
use Rattle.session_api.specs.Sessions.{IsSession}
use Rattle.session_api.specs.Seeing.{seen_as, touched_in, is_active, unless_dead, back_end as back_tells}
use Rattle.session_api.proofs.Backing.{backs_tell}
use Rattle.session_examples.specs.declared.transfers.Failure.{Failure}
use Rattle.session_examples.specs.declared.transfers.Transferred.{Transferred}
use Rattle.session_examples.specs.declared.transfers.Transferred.TheVariants.{Moved}
use Rattle.session_examples.specs.declared.transfers.Stop.{Stop}
use Rattle.session_examples.specs.Ends.{is_open, back_end, GoesOnAs}
use Rattle.session_examples.specs.Later.{IsLater}
use Rattle.session_examples.specs.Moves.{Acknowledges, made_by, Doing, HasAcknowledged, HasLast}
use Rattle.session_examples.specs.SecondThoughts.{put_taken_back}
use Rattle.session_examples.proofs.Moving.{nowhere, active_is, written_more, last_on}

-- ---- a going back

back_goes : (upto : ℕ) (q : SessionState) (e : Result Unit BackError) → GoesOnAs (back_end e) (progress_back q upto e)
back_goes upto q (Ok a) = refl
back_goes upto q (Err (left.Aborted cause)) = refl
back_goes upto q (Err (left.Down n)) = tt
back_goes upto q (Err (left.Worn n at)) = tt

module _ {M S G : Type 0} (sh : Shards M S G) where
  roll_is : (w v : Walker M S G) (s t : Progress) (saves : List ℕ) (upto : ℕ) (r : Result Unit RollError) → is_open s ≡ true → has_number upto saves ≡ true → RollCalled sh w s saves upto r v t → (p : SessionState) × (s ≡ Active p) × BackMade sh w p upto r v t
  roll_is w v (Active p) t saves upto r active kept c = (p, refl, subst (λ b. RollBeside (Some p.tx) b sh w (Active p) upto r v t) kept c)
  roll_is w v Idle t saves upto r active kept c = absurd (both_ways false refl active)
  roll_is w v (Worn p) t saves upto r active kept c = absurd (both_ways false refl active)
  roll_is w v (Undone p n to) t saves upto r active kept c = absurd (both_ways false refl active)
  roll_is w v (Asked p home stamp) t saves upto r active kept c = absurd (both_ways false refl active)
  roll_is w v (Ended p) t saves upto r active kept c = absurd (both_ways false refl active)

  pub roll_told : (w v : Walker M S G) (s t : Progress) (saves : List ℕ) (upto : ℕ) (r : Result Unit RollError) → is_open s ≡ true → has_number upto saves ≡ true → RollCalled sh w s saves upto r v t → (e : Result Unit BackError) × (r ≡ back_told e)
  roll_told w v s t saves upto r active kept c = let m = (roll_is w v s t saves upto r active kept c).2 in (m.answer, m.is)

  pub roll_goes : (w v : Walker M S G) (s t : Progress) (saves : List ℕ) (upto : ℕ) (r : Result Unit RollError) (x : Result Unit Failure) → is_open s ≡ true → has_number upto saves ≡ true → RollCalled sh w s saves upto r v t
      → ((e : Result Unit BackError) → r ≡ back_told e → x ≡ back_end e) → GoesOnAs x t
  roll_goes w v s t saves upto r x active kept c told =
      let m = (roll_is w v s t saves upto r active kept c).2 in
      subst (λ y. GoesOnAs y t) (sym (told m.answer m.is)) (subst (GoesOnAs (back_end m.answer)) (sym m.then) (back_goes upto m.place m.answer))

  -- what it adds to what was done
  back_made : (w u v : Walker M S G) (s t : Progress) (upto : ℕ) (r : Result Unit RollError) (acts : List Done) → IsSession sh u s → (d : Doing sh w u s acts) → (m : BackMade sh u d.place upto r v t) → stands_above upto (written_by sh.splits acts) ≡ true
      → m.answer ≡ Ok tt → Doing sh w v t (acts ++ WentBack upto ∷ [])
  back_made w u v s t upto r acts h d m above is =
      let p = d.place in
      let q = m.place in
      let noted : is_above upto p.written ≡ true = ap (is_above upto) d.written_is ∙ above in
      let back = subst (λ a. LeftBy sh p upto a v q) is m.left in
      let told : BackTold p.tx d.birth p.nth (touched_in p.touched) upto p.written (Ok (Some upto)) (seen_as sh u nowhere (is_active p d.birth)) (seen_as sh v nowhere (unless_dead q d.birth false)) =
      subst (λ b. BackTold p.tx d.birth p.nth (touched_in p.touched) upto p.written (Ok (cond b (Some upto) None)) (seen_as sh u nowhere (is_active p d.birth)) (seen_as sh v nowhere (unless_dead q d.birth false))) noted
      (subst (λ a. BackTold p.tx d.birth p.nth (touched_in p.touched) upto p.written (back_tells (is_above upto p.written) upto a) (seen_as sh u nowhere (is_active p d.birth)) (seen_as sh v nowhere (unless_dead q d.birth (has_died a)))) is
      (backs_tell M S G sh u v nowhere p q d.birth upto m.answer (active_is sh u s p h d.is) d.birth_is m.walker m.turns m.left m.stands)) in
      let here = told.2 in
      let grown = (told.5).entries_are in
      let nth = d.nth_is in
      let next : q.nth ≡ suc p.nth = back.nth ∙ ap (λ b. cond b (suc p.nth) p.nth) noted in
      let long = length-append acts (WentBack upto ∷ []) in
      record {
        place = q;
        birth = d.birth;
        is = m.then ∙ ap (λ a. progress_back q upto a) is;
        birth_is = back.birth ∙ d.birth_is;
        nth_is = (omega arith);
        written_is = back.written ∙ ap (written_after sh.splits (suc p.nth) (WentBack upto)) d.written_is ∙ sym (written_more sh.splits 1 (suc p.nth) [] acts (WentBack upto) (omega arith));
        made = d.made ++ here;
        made_is = grown ∙ ap (λ l. l ++ here) d.made_is ∙ append_assoc (made_by w) d.made here;
        acts_are =
            subst (λ x. AreActs sh.splits x d.birth 1 [] (acts ++ WentBack upto ∷ []) (d.made ++ here)) (sym back.tx)
            (back_more sh.splits p.tx d.birth 1 (suc p.nth) [] acts d.made upto here d.acts_are (omega arith) above (subst (λ ws. IsGoingBack p.tx (suc p.nth) upto ws here) d.written_is told.3));
      }

  back_by : (w u v : Walker M S G) (s t : Progress) (upto : ℕ) (r : Result Unit RollError) (acts : List Done) → IsSession sh u s → (d : Doing sh w u s acts) → (m : BackMade sh u d.place upto r v t) → stands_above upto (written_by sh.splits acts) ≡ true
      → (e : Result Unit BackError) → m.answer ≡ e → IfOk (back_end e) (λ a. Doing sh w v t (acts ++ WentBack upto ∷ []))
  back_by w u v s t upto r acts h d m above (Ok a) is = back_made w u v s t upto r acts h d m above is
  back_by w u v s t upto r acts h d m above (Err (left.Aborted cause)) is = tt
  back_by w u v s t upto r acts h d m above (Err (left.Down n)) is = tt
  back_by w u v s t upto r acts h d m above (Err (left.Worn n at)) is = tt

  pub back_done : (w u v : Walker M S G) (s t : Progress) (saves : List ℕ) (upto : ℕ) (r : Result Unit RollError) (x : Result Unit Failure) (acts : List Done) → IsSession sh u s → has_number upto saves ≡ true → RollCalled sh u s saves upto r v t
      → ((e : Result Unit BackError) → r ≡ back_told e → x ≡ back_end e) → Doing sh w u s acts → stands_above upto (written_by sh.splits acts) ≡ true → IfOk x (λ a. Doing sh w v t (acts ++ WentBack upto ∷ []))
  back_done w u v s t saves upto r x acts h kept c told d above =
      let m = subst (λ b. RollBeside (Some (d.place).tx) b sh u (Active d.place) upto r v t) kept (subst (λ y. RollCalled sh u y saves upto r v t) d.is c) in
      subst (λ y. IfOk y (λ a. Doing sh w v t (acts ++ WentBack upto ∷ []))) (sym (told m.answer m.is)) (back_by w u v s t upto r acts h d m above m.answer refl)

  -- ---- all of it

  pub if_taken_back : (x : Result Unit Failure) (w v : Walker M S G) (key : ℕ) (value : ValueType) (before : Option ValueType) → IfOk x (λ u. HasAcknowledged sh (put_taken_back key value before) w v)
      → IfOk x (λ u. (before : Option ValueType) × HasAcknowledged sh (put_taken_back key value before) w v)
  if_taken_back (Ok u) w v key value before a = (before, a)
  if_taken_back (Err e) w v key value before a = tt

  -- as a try and its end tell it
  pub ends_taken_back : (w u m v : Walker M S G) (key : ℕ) (value : ValueType) (x : Result Unit Failure) (r : Result Transferred Stop) → IsLater w u → IfOk x (λ a. (before : Option ValueType) × HasAcknowledged sh (put_taken_back key value before) u m)
      → (r ≡ Ok Moved → (x ≡ Ok tt) × (v ≡ m)) → r ≡ Ok Moved → (before : Option ValueType) × HasLast (Acknowledges sh.splits (put_taken_back key value before)) w v
  ends_taken_back w u m v key value x r h went f is =
      let k = f is in
      let b = subst (λ y. IfOk y (λ a. (before : Option ValueType) × HasAcknowledged sh (put_taken_back key value before) u m)) k.0 went in
      let a = b.1 in
      let P : History → Type 0 = Acknowledges sh.splits (put_taken_back key value b.0) in
      let last : HasLast P u m = ([], a.0, a.1 ∙ ap (λ l. l ++ a.0) (sym (append-nil (made_by u))), a.2) in
      (b.0, last_on sh P w u v h (subst (λ z. HasLast P u z) (sym k.1) last))
