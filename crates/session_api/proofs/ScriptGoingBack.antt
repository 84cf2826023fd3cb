-- Goings back, as whoever runs a script is told of them.
use Rattle.std.proofs.Common.{◌≡◌, ◌∙◌, refl, sym, ap, subst, ℕ, suc, Bool, true, false, cond, ◌&&◌, ◌==◌, nat_lt, List, ◌∷◌, length, Option, Some, None, Result, Ok, Err, unwrap_or, arith}
use Rattle.std.specs.Prelude.{OnOk}
use Rattle.std.proofs.lemmas.Bool.{lt-ltb, le-ltb}
use Rattle.clv_base.specs.declared.names.TxId.{TxId}
use Rattle.clv_base.specs.declared.names.Birth.{Birth}
use Rattle.clv_base.specs.declared.names.Point.{Point}
use Rattle.clv_base.specs.Backs.{stands_for_back}
use Rattle.clv_base.specs.Sessions.{SessionState, is_whole_now, numbered}
use Rattle.law_base.proofs.Options.{some_inj}
use Rattle.cluster_turns.specs.declared.shards.Shards.{Shards}
use Rattle.cluster_turns.specs.declared.shards.Walker.{Walker}
use Rattle.cluster_turns.specs.CallTurns.{Turn}
use Rattle.cluster_turns.specs.Notes.{is_above, back_begun}
use Rattle.cluster_turns.proofs.Laws.{worn_is_last}
use Rattle.session_ops.specs.declared.rolling.BackError.{BackError}
use Rattle.session_ops.specs.declared.rolling.BackError.TheVariants as left
use Rattle.session_ops.specs.WentBack.{GoingBack, RollTold, BackTold as TurnsTold, back_below, has_died}
use Rattle.session_ops.specs.Undone.{IsBack, LeftBy}
use Rattle.session_ops.proofs.Laws.{same_at}
use Rattle.script_lang.specs.Savepoints.{Savepoints, back_to}
use Rattle.script_runs.specs.declared.ends.TryEnd.{TryEnd}
use Rattle.script_runs.specs.Seen.{Idle, Active, Going, going_back_to}
use Rattle.script_runs.specs.Told.{BackTold}
use Rattle.script_runs.specs.Tried.{OnRefusal}
use Rattle.session_api.specs.declared.progress.Progress.{Progress}
use Rattle.session_api.specs.declared.progress.Progress.TheVariants as progress
use Rattle.session_api.specs.declared.savepoints.RollError.{RollError}
use Rattle.session_api.specs.Progresses.{acts_in, back_told, progress_back}
use Rattle.session_api.specs.Savepoints.{StandsIn, StandsFor, going_of}
use Rattle.session_api.specs.Sessions.{IsSession}
use Rattle.session_api.specs.GoingBack.{BackMade, BackCalled}
use Rattle.session_api.specs.Seeing.{seen_as, touched_in, is_active, unless_dead, back_end}
use Rattle.session_api.specs.Standing.{Holds, active_as, standing_of, seen_in}
use Rattle.session_api.specs.Grounds.{Grounds}
use Rattle.session_api.proofs.Standings.{read_active, of_this}
use Rattle.session_api.proofs.Taking.{HoldsOn, found_down, held_after}
use Rattle.session_api.proofs.GoingBack.{back_down, back_worn}
use Rattle.session_api.proofs.Backing.{backs_tell}
use Rattle.session_api.proofs.ScriptSaving.{GoesBy, goes_by}

-- ---- the place after a going back

begun_birth : (nth upto : ℕ) (m : SessionState) → (back_begun nth upto m).birth ≡ m.birth
begun_birth nth upto m = by (nth == suc m.nth)
  where
    by : (b : Bool) → (cond b (record (numbered nth m) { is_whole = is_whole_now m && stands_for_back nth upto m.backs; backs = (nth, upto) ∷ m.backs }) m).birth ≡ m.birth
    by true = refl
    by false = refl

failed_birth : (count : ℕ) (m q : SessionState) (nth upto n : ℕ) (e : BackError) (ts : List Turn) → RollTold {A = Unit {0}} count m nth upto n (Err e) ts q → q.birth ≡ m.birth
failed_birth count m q nth upto n (left.Aborted cause) ts (t, ds, is, roll, drops, others, place) = ap (λ z. z.birth) place ∙ begun_birth nth upto m
failed_birth count m q nth upto n (left.Down k) ts (same, (t, is, roll, place)) = ap (λ z. z.birth) place
failed_birth count m q nth upto n (left.Worn k at) ts (same, (t, is, roll, place)) = ap (λ z. z.birth) place

back_birth : (count : ℕ) (p q : SessionState) (upto : ℕ) (r : Result Unit BackError) (ts : List Turn) → TurnsTold count p (suc p.nth) upto r ts q → q.birth ≡ p.birth
back_birth count p q upto (Ok a) ts told = ap (λ z. z.birth) told.1 ∙ (same_at p upto count).birth
back_birth count p q upto (Err e) ts told = failed_birth count (back_below (suc p.nth) upto told.shard p) q (suc p.nth) upto told.shard e told.rest told.failed ∙ (same_at p upto told.shard).birth

-- and how it stands
stands_back : (q : SessionState) (birth : Birth) (upto : ℕ) (r : Result Unit BackError) → q.birth ≡ Some birth → standing_of (progress_back q upto r) ≡ unless_dead q birth (has_died r)
stands_back q birth upto (Ok a) is = ap (active_as q) is
stands_back q birth upto (Err (left.Aborted cause)) is = ap (λ b. Idle b) is
stands_back q birth upto (Err (left.Down n)) is = ap (active_as q) is
stands_back q birth upto (Err (left.Worn n at)) is = ap (active_as q) is

-- ---- whether it took a number

abbrev pub acts_or_none : Progress → ℕ
acts_or_none s = unwrap_or (acts_in s) 0

more_by : (b : Bool) (n : ℕ) → nat_lt n (cond b (suc n) n) ≡ b
more_by true n = lt-ltb n (suc n) (omega arith)
more_by false n = le-ltb n n (omega arith)

took_so : (p q : SessionState) (t : Progress) (upto : ℕ) → t ≡ progress.Active q → IsBack p upto q → nat_lt p.nth (acts_or_none t) ≡ is_above upto p.written
took_so p q t upto then back = ap (λ x. nat_lt p.nth (acts_or_none x)) then ∙ ap (nat_lt p.nth) back.nth ∙ more_by (is_above upto p.written) p.nth

-- only one that was done tells it
end_same : (took above : Bool) (upto : ℕ) (r : Result Unit BackError) → ((a : Unit {0}) → r ≡ Ok a → took ≡ above) → back_end took upto r ≡ back_end above upto r
end_same took above upto (Ok a) same = ap (λ b. Ok (cond b (Some upto) None)) (same a refl)
end_same took above upto (Err (left.Aborted cause)) same = refl
end_same took above upto (Err (left.Down n)) same = refl
end_same took above upto (Err (left.Worn n at)) same = refl

module _ {M S G : Type 0} (sh : Shards M S G) (asked : Point) where
  -- what a going back leaves, tells, and is stopped by
  pub record WentBack (w : Walker M S G) (s : Progress) (script : Savepoints) (number upto : ℕ) (e : Result (Option ℕ) TryEnd) (after : Shards M S G) (v : Walker M S G) (t : Progress) : Type 0 where
    pub holds : HoldsOn sh w after v t
    pub told : (tx : TxId) (birth : Birth) (nth : ℕ) (touched : ℕ → Bool) (g : Going) → standing_of s ≡ Active tx birth nth touched → going_of s script ≡ Some g → BackTold tx birth nth touched upto g.written e (seen_in sh w asked s) (seen_in after v asked t)
    pub going : (g : Going) → going_of s script ≡ Some g → OnOk e (going_of t (back_to number script) ≡ Some (going_back_to number upto g))
    pub grounds : OnRefusal (Grounds v) e

  abbrev pub BackDone : Walker M S G → Progress → Savepoints → ℕ → ℕ → Bool → Result Unit RollError → Walker M S G → Progress → Type 0
  BackDone w s script number upto took r v t = (e : Result Unit BackError) × (r ≡ back_told e) × WentBack w s script number upto (back_end took upto e) sh v t

  back_grounds : (w v : Walker M S G) (p q : SessionState) (upto : ℕ) (took : Bool) (r : Result Unit BackError) → GoingBack (length sh.locks.items) w.number w.clock w.passes.items p upto r v.clock v.passes.items q → OnRefusal (Grounds v) (back_end took upto r)
  back_grounds w v p q upto took (Ok a) d = tt
  back_grounds w v p q upto took (Err (left.Aborted cause)) d = tt
  back_grounds w v p q upto took (Err (left.Down n)) d = found_down n w.number w.clock v.clock w.passes.items v.passes.items d.turns d.took (back_down sh w v p q upto (Err (left.Down n)) d.turns d.told n refl)
  back_grounds w v p q upto took (Err (left.Worn n at)) d = worn_is_last at w.number w.clock v.clock w.passes.items v.passes.items d.turns d.took (back_worn sh w v p q upto (Err (left.Worn n at)) d.turns d.told n at refl)

  -- where it was done no write of a later operation stands
  back_goes : (p q : SessionState) (t : Progress) (script : Savepoints) (number upto : ℕ) (took : Bool) (r : Result Unit BackError) (g : Going) → ((a : Unit {0}) → r ≡ Ok a → (t ≡ progress.Active q) × IsBack p upto q) → record { saves = script; written = p.written } ≡ g
      → OnOk (back_end took upto r) (going_of t (back_to number script) ≡ Some (going_back_to number upto g))
  back_goes p q t script number upto took (Ok a) g done over =
      let k = done a refl in
      ap (λ x. going_of x (back_to number script)) k.0 ∙ ap (λ ws. Some (record { saves = back_to number script; written = ws })) k.1.written ∙ ap (λ x. Some (going_back_to number upto x)) over
  back_goes p q t script number upto took (Err (left.Aborted cause)) g done over = tt
  back_goes p q t script number upto took (Err (left.Down n)) g done over = tt
  back_goes p q t script number upto took (Err (left.Worn n at)) g done over = tt

  abbrev TookBy : Progress → Progress → Bool → Type 0
  TookBy s t took = took ≡ nat_lt (acts_or_none s) (acts_or_none t)

  module _ (w v : Walker M S G) (p : SessionState) (t : Progress) (upto : ℕ) (r : Result Unit RollError) (m : BackMade sh w p upto r v t) where
    -- what is left where it was done
    back_done_so : (a : Unit {0}) → m.answer ≡ Ok a → (t ≡ progress.Active m.place) × IsBack p upto m.place
    back_done_so a is = (m.then ∙ ap (progress_back m.place upto) is, subst (λ x. LeftBy sh p upto x v m.place) is m.left)

    told_back : (birth : Birth) (took : Bool) → Holds sh w (progress.Active p) → StandsIn p upto → p.birth ≡ Some birth → TookBy (progress.Active p) t took
        → BackTold p.tx birth p.nth (touched_in p.touched) upto p.written (back_end took upto m.answer) (seen_in sh w asked (progress.Active p)) (seen_in sh v asked t)
    told_back birth took h stands is by =
        subst (λ x. BackTold p.tx birth p.nth (touched_in p.touched) upto p.written x (seen_in sh w asked (progress.Active p)) (seen_in sh v asked t))
        (sym (end_same took (is_above upto p.written) upto m.answer (λ a done. (let k = back_done_so a done in by ∙ took_so p m.place t upto k.0 k.1))))
        (subst (λ x. BackTold p.tx birth p.nth (touched_in p.touched) upto p.written (back_end (is_above upto p.written) upto m.answer) (seen_as sh w asked x) (seen_in sh v asked t)) (sym (ap (active_as p) is))
        (subst (λ x. BackTold p.tx birth p.nth (touched_in p.touched) upto p.written (back_end (is_above upto p.written) upto m.answer) (seen_as sh w asked (is_active p birth)) (seen_as sh v asked x))
        (sym (ap standing_of m.then ∙ stands_back m.place birth upto m.answer (back_birth (length sh.locks.items) p m.place upto m.answer m.turns.turns m.turns.told ∙ is)))
        (backs_tell M S G sh w v asked p m.place birth upto m.answer (h.session).stands is m.walker m.turns m.left m.stands)))

    back_made : (script : Savepoints) (number : ℕ) (took : Bool) → Holds sh w (progress.Active p) → IsSession sh v t → StandsIn p upto → TookBy (progress.Active p) t took → BackDone w (progress.Active p) script number upto took r v t
    back_made script number took h session stands by = (
      m.answer,
      m.is,
      record {
        holds = held_after sh w v (progress.Active p) t m.turns.turns h session m.walker m.turns.took;
        told = λ tx birth nth touched g st going. (
            let of = read_active p p.birth tx birth nth touched st in
            subst (λ ws. BackTold tx birth nth touched upto ws (back_end took upto m.answer) (seen_in sh w asked (progress.Active p)) (seen_in sh v asked t)) (ap (λ x. x.written) (some_inj (record { saves = script; written = p.written }) g going))
            (of_this p p.birth tx birth nth touched of (λ x k f. BackTold x birth k f upto p.written (back_end took upto m.answer) (seen_in sh w asked (progress.Active p)) (seen_in sh v asked t)) (told_back birth took h stands of.birth_is by))
            );
        going = λ g going. back_goes p m.place t script number upto took m.answer g back_done_so (some_inj (record { saves = script; written = p.written }) g going);
        grounds = back_grounds w v p m.place upto took m.answer m.turns;
      },
    )

  -- of the active transaction
  back_by : (w v : Walker M S G) (s t : Progress) (script : Savepoints) (number upto : ℕ) (g : Going) (took : Bool) (r : Result Unit RollError) → GoesBy s script g → Holds sh w s → IsSession sh v t → StandsFor s upto → BackCalled sh w s upto r v t → TookBy s t took
      → BackDone w s script number upto took r v t
  back_by w v s t script number upto g took r k h session stands c by =
      subst (λ x. BackDone w x script number upto took r v t) (sym k.is)
      (back_made w v k.place t upto r (subst (λ x. BackCalled sh w x upto r v t) k.is c) script number took (subst (Holds sh w) k.is h) session (subst (λ x. StandsFor x upto) k.is stands) (subst (λ x. TookBy x t took) k.is by))

  -- ---- the call, as the session makes it

  pub back_answers : (after : Shards M S G) (w v : Walker M S G) (s t : Progress) (script : Savepoints) (number upto : ℕ) (g : Going) (took : Bool) (r : Result Unit RollError) → after ≡ sh → going_of s script ≡ Some g → Holds sh w s → StandsFor s upto → BackCalled sh w s upto r v t
      → IsSession after v t → TookBy s t took → (e : Result Unit BackError) × (r ≡ back_told e)
  back_answers after w v s t script number upto g took r same going h stands c session by =
      let k = back_by w v s t script number upto g took r (goes_by s script g going) h (subst (λ x. IsSession x v t) same session) stands c by in (k.0, k.1)

  pub back_call : (after : Shards M S G) (w v : Walker M S G) (s t : Progress) (script : Savepoints) (number upto : ℕ) (g : Going) (took : Bool) (r : Result Unit RollError) (result : Result (Option ℕ) TryEnd) → after ≡ sh → going_of s script ≡ Some g → Holds sh w s → StandsFor s upto
      → BackCalled sh w s upto r v t → IsSession after v t → TookBy s t took → ((e : Result Unit BackError) → r ≡ back_told e → result ≡ back_end took upto e) → WentBack w s script number upto result after v t
  back_call after w v s t script number upto g took r result same going h stands c session by told =
      let k = back_by w v s t script number upto g took r (goes_by s script g going) h (subst (λ x. IsSession x v t) same session) stands c by in
      subst (λ x. WentBack w s script number upto x after v t) (sym (told k.0 k.1)) (subst (λ x. WentBack w s script number upto (back_end took upto k.0) x v t) (sym same) k.2)
