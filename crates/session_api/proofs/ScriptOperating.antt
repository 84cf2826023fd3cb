-- Operations, as whoever runs a script is told of them.
use Rattle.std.proofs.Common.{◌≡◌, ◌∙◌, refl, sym, ap, subst, ℕ, suc, ◌+◌, ◌<◌, ◌≤◌, ◌^◌, Bool, true, false, List, [], length, Option, Some, None, Result, Ok, Err, arith}
use Rattle.std.specs.Prelude.{IfOk}
use Rattle.std.proofs.lemmas.Bool.{leb-true, le-ltb}
use Rattle.clv_base.specs.declared.values.Value.{Value as ValueType}
use Rattle.clv_base.specs.declared.names.TxId.{TxId}
use Rattle.clv_base.specs.declared.names.Birth.{Birth}
use Rattle.clv_base.specs.declared.names.Point.{Point}
use Rattle.clv_base.specs.declared.ops.Op.{Op}
use Rattle.clv_base.specs.declared.ops.Op.TheVariants.{Scan}
use Rattle.clv_base.specs.declared.ops.Answer.{Answer}
use Rattle.clv_base.specs.declared.ops.Answer.TheVariants.{Value, Pairs, Added}
use Rattle.clv_base.specs.declared.events.Event.{Event}
use Rattle.clv_base.specs.Shards.{shard_of}
use Rattle.clv_base.specs.Folding.{key_written}
use Rattle.clv_base.specs.Backs.{has_written}
use Rattle.clv_base.specs.Sessions.{SessionState, with_written}
use Rattle.law_base.proofs.Options.{some_inj}
use Rattle.cluster_turns.specs.declared.shards.Shards.{Shards}
use Rattle.cluster_turns.specs.declared.shards.Walker.{Walker}
use Rattle.cluster_turns.specs.CallTurns.{FindsDown, FindsWorn}
use Rattle.cluster_turns.proofs.Laws.{worn_is_last}
use Rattle.session_ops.specs.declared.operating.OpError.{OpError as Failure}
use Rattle.session_ops.specs.declared.operating.OpError.TheVariants as failed
use Rattle.session_ops.specs.Operated.{PlacedBy, answered_in}
use Rattle.session_ops.specs.Parts.{has_died, Performing}
use Rattle.session_ops.specs.Scanned.{Range, Scanning}
use Rattle.session_ops.specs.Stepped.{PartsMade, no_shard, passed_by, one_part, PartsTold}
use Rattle.script_runs.specs.declared.ends.TryEnd.{TryEnd}
use Rattle.script_runs.specs.declared.ends.TryEnd.TheVariants.{Stopped}
use Rattle.script_runs.specs.declared.ends.StopCause.TheVariants.{Down, Worn}
use Rattle.script_runs.specs.Operations.{parts_of}
use Rattle.script_lang.specs.Savepoints.{Savepoints}
use Rattle.session_books.specs.Done.{Did}
use Rattle.script_runs.specs.Acts.{written_with, written_after}
use Rattle.script_runs.specs.Seen.{Standing, Idle, Active, Going, going_on}
use Rattle.script_runs.specs.Told.{has_range, OperateTold}
use Rattle.script_runs.specs.Tried.{OnRefusal}
use Rattle.session_api.specs.declared.progress.Progress.{Progress}
use Rattle.session_api.specs.declared.progress.Progress.TheVariants as progress
use Rattle.session_api.specs.declared.operating.OpError.{OpError}
use Rattle.session_api.specs.Progresses.{active_tx, answer_told, after_op}
use Rattle.session_api.specs.Sessions.{IsSession, PointMade, PointCalled, ScanMade, RangeCalled, RangeBeside, ScanCalled}
use Rattle.session_api.specs.Seeing.{seen_as, touched_in, is_active, unless_dead, pairs_end}
use Rattle.session_api.specs.Savepoints.{going_of}
use Rattle.session_api.specs.ToldLaws.{gets, puts, dels}
use Rattle.session_api.proofs.Pointing.{Takes, whole_end, takes_whole, point_told, touches_just_none}
use Rattle.session_api.proofs.Scanning.{scans_tell}
use Rattle.session_api.specs.Standing.{Holds, active_as, standing_of, seen_in}
use Rattle.session_api.specs.Grounds.{WasDown, Grounds}
use Rattle.session_api.proofs.Standings.{IsOf, read_active, of_this, idle_active, asked_active, stays_grown, worn_still}
use Rattle.session_api.proofs.Taking.{HoldsOn, found_down, held_after, held_so}
use Rattle.session_api.proofs.Parts.{HasPart, HasKey, of_value, adds, scan_has_part, point_has_part, begun_with_none}
use Rattle.session_ops.proofs.Laws.{any_before}

-- the place after an operation is of the same birth
pub placed_birth : (n nth : ℕ) (op : Op) (p q : SessionState) (answer : Result Answer Failure) → PlacedBy n nth op p (answered_in answer) q → q.birth ≡ p.birth
placed_birth n nth op p q (Ok answer) k = ap (λ z. z.birth) k.1
placed_birth n nth op p q (Err (failed.Aborted cause)) k = ap (λ z. z.birth) k
placed_birth n nth op p q (Err (failed.Down m)) k = ap (λ z. z.birth) k
placed_birth n nth op p q (Err (failed.Worn at)) k = ap (λ z. z.birth) k
placed_birth n nth op p q (Err failed.Memory) k = ap (λ z. z.birth) k

-- and stands so
pub stands_after : (q : SessionState) (birth : Birth) → q.birth ≡ Some birth → (died : Bool) → standing_of (after_op q died) ≡ unless_dead q birth died
stands_after q birth is true = ap (λ b. Idle b) is
stands_after q birth is false = ap (active_as q) is

-- ---- writes that stand

-- a transaction that died answers nothing
alive_after : (died : Bool) (r : Result Answer Failure) → died ≡ has_died r → IfOk (whole_end r) (λ answer. died ≡ false)
alive_after died (Ok answer) is = is
alive_after died (Err e) is = tt

alive_scan : (r : Result (List (ℕ × ValueType)) Failure) → IfOk (pairs_end r) (λ answer. has_died r ≡ false)
alive_scan (Ok pairs) = refl
alive_scan (Err e) = tt

-- an operation at a key writes there, if it writes
written_at : (splits : List ℕ) (key nth : ℕ) (op : Op) (a : Answer) (ws : List (ℕ × ℕ)) → HasKey key op → with_written (shard_of splits key) nth (has_written op a) ws ≡ written_with splits nth (key_written op a) ws
written_at splits key nth _ a ws (of_value gets) = refl
written_at splits key nth _ a ws (of_value (puts v)) = refl
written_at splits key nth _ (Value (Some v)) ws (of_value dels) = refl
written_at splits key nth _ (Value None) ws (of_value dels) = refl
written_at splits key nth _ (Pairs pairs) ws (of_value dels) = refl
written_at splits key nth _ (Added found) ws (of_value dels) = refl
written_at splits key nth _ (Value v) ws (adds by) = refl
written_at splits key nth _ (Pairs pairs) ws (adds by) = refl
written_at splits key nth _ (Added true) ws (adds by) = refl
written_at splits key nth _ (Added false) ws (adds by) = refl

point_writes : (splits : List ℕ) (key : ℕ) (p q : SessionState) (op : Op) (r : Result Answer Failure) → HasKey key op → PlacedBy (shard_of splits key) (p.nth + 1) op p (answered_in r) q
    → IfOk (whole_end r) (λ answer. q.written ≡ written_after splits (suc p.nth) (Did op answer) p.written)
point_writes splits key p q op (Ok a) is place =
    let next : p.nth + 1 ≡ suc p.nth = omega arith in ap (λ z. z.written) place.1 ∙ ap (λ n. with_written (shard_of splits key) n (has_written op a) p.written) next ∙ written_at splits key (suc p.nth) op a p.written is
point_writes splits key p q op (Err e) is place = tt

module _ {M S G : Type 0} (sh : Shards M S G) (birth : Birth) (nth lo hi : ℕ) (w : Walker M S G) where
  -- a scan writes nothing
  parts_write : (p : SessionState) (n : ℕ) (answers : List Answer) (v : Walker M S G) (q : SessionState) → PartsMade sh birth nth lo hi w p n answers v q → q.written ≡ p.written
  parts_write p _ _ _ _ no_shard = refl
  parts_write p _ _ _ _ (passed_by n answers u m before none) = parts_write p n answers u m before
  parts_write p _ _ _ _ (one_part n answers u v m q part answer before meets made) = ap (λ z. z.written) (made.place).1 ∙ parts_write p n answers u m before

  scan_writes : (v : Walker M S G) (p q : SessionState) (r : Result (List (ℕ × ValueType)) Failure) → PartsTold sh birth nth lo hi w p r v q → IfOk (pairs_end r) (λ answer. q.written ≡ p.written)
  scan_writes v p q (Ok pairs) told = parts_write p (length sh.locks.items) told.0 v q told.1
  scan_writes v p q (Err e) told = tt

module _ {M S G : Type 0} (sh : Shards M S G) (last : Point) where
  -- ---- what an operation leaves, tells, and is stopped by

  -- what the transaction may go back over, whatever its savepoints
  abbrev pub GoesOver : Progress → Op → Result Answer TryEnd → Progress → Type 0
  GoesOver s op end t =
      (saves : Savepoints) (tx : TxId) (birth : Birth) (nth : ℕ) (touched : ℕ → Bool) (g : Going) → standing_of s ≡ Active tx birth nth touched → going_of s saves ≡ Some g
      → IfOk end (λ answer. going_of t saves ≡ Some (going_on sh.splits (suc nth) (Did op answer) g))

  pub record Done (w : Walker M S G) (s : Progress) (op : Op) (end : Result Answer TryEnd) (after : Shards M S G) (v : Walker M S G) (t : Progress) : Type 0 where
    pub holds : HoldsOn sh w after v t
    pub told : (tx : TxId) (birth : Birth) (nth : ℕ) (touched : ℕ → Bool) → standing_of s ≡ Active tx birth nth touched → OperateTold tx birth nth touched op end (seen_in sh w last s) (seen_in after v last t)
    pub grounds : OnRefusal (Grounds v) end
    pub over : GoesOver s op end t

  -- the active transaction may have operations, or is worn; no other has a standing like it
  abbrev pub IsUnderWay : Progress → Type 0
  IsUnderWay s = (tx : TxId) × (birth : Birth) × (nth : ℕ) × (touched : ℕ → Bool) × (standing_of s ≡ Active tx birth nth touched)

  told_so : (w v : Walker M S G) (s t : Progress) (p : SessionState) (st su : Standing) (op : Op) (end : Result Answer TryEnd) (tx : TxId) (birth : Birth) (nth : ℕ) (touched : ℕ → Bool) → IsOf p p.birth tx birth nth touched → standing_of s ≡ st → standing_of t ≡ su
      → OperateTold p.tx birth p.nth (touched_in p.touched) op end (seen_as sh w last st) (seen_as sh v last su) → OperateTold tx birth nth touched op end (seen_in sh w last s) (seen_in sh v last t)
  told_so w v s t p st su op end tx birth nth touched of is same h =
      of_this p p.birth tx birth nth touched of (λ x k f. OperateTold x birth k f op end (seen_in sh w last s) (seen_in sh v last t))
      (subst (λ x. OperateTold p.tx birth p.nth (touched_in p.touched) op end (seen_as sh w last x) (seen_in sh v last t)) (sym is)
      (subst (λ x. OperateTold p.tx birth p.nth (touched_in p.touched) op end (seen_as sh w last st) (seen_as sh v last x)) (sym same) h))

  goes_over : (p q : SessionState) (t : Progress) (op : Op) (died : Bool) (end : Result Answer TryEnd) → t ≡ after_op q died → IfOk end (λ answer. died ≡ false) → IfOk end (λ answer. q.written ≡ written_after sh.splits (suc p.nth) (Did op answer) p.written)
      → GoesOver (progress.Active p) op end t
  goes_over p q t op died (Err e) then lives writes saves tx birth nth touched g st is = tt
  goes_over p q t op died (Ok answer) then lives writes saves tx birth nth touched g st is =
      let of = read_active p p.birth tx birth nth touched st in
      ap (λ x. going_of x saves) (then ∙ ap (after_op q) lives)
      ∙ ap (λ ws. Some (record { saves = saves; written = ws })) (writes ∙ ap (λ n. written_after sh.splits (suc n) (Did op answer) p.written) of.nth_is)
      ∙ ap (λ x. Some (going_on sh.splits (suc nth) (Did op answer) x)) (some_inj (record { saves = saves; written = p.written }) g is)

  -- ---- where the last abort was worn

  worn_done : (w v : Walker M S G) (p : SessionState) (t : Progress) (op : Op) → Holds sh w (progress.Worn p) → IsSession sh v t → HasPart (parts_of sh.splits op) → v ≡ w → t ≡ progress.Worn p
      → Done w (progress.Worn p) op (Err (Stopped (Worn (2 ^ 48)))) sh v t
  worn_done w v p t op h session part is same = record {
    holds = held_so sh w v (progress.Worn p) t h session (ap (λ z. z.number) is) (ap (λ z. z.passes.items) is);
    told = λ tx birth nth touched st. (
      [],
      touched,
      begun_with_none sh.splits tx birth (suc nth) op part,
      touches_just_none touched,
      stays_grown sh w v last (progress.Worn p) t is same,
      (nth, ap standing_of same ∙ st),
    );
    grounds = (refl, worn_still w v is ((h.session).stands).1);
    over = λ saves tx birth nth touched g st is. tt;
  }

  -- ---- where a going back was left undone

  undone_done : (w v : Walker M S G) (p : SessionState) (n upto : ℕ) (t : Progress) (op : Op) → Holds sh w (progress.Undone p n upto) → IsSession sh v t → HasPart (parts_of sh.splits op) → v ≡ w → t ≡ progress.Undone p n upto
      → Done w (progress.Undone p n upto) op (Err (Stopped (Down n))) sh v t
  undone_done w v p n upto t op h session part is same = record {
    holds = held_so sh w v (progress.Undone p n upto) t h session (ap (λ z. z.number) is) (ap (λ z. z.passes.items) is);
    told = λ tx birth nth touched st. (
      [],
      touched,
      begun_with_none sh.splits tx birth (suc nth) op part,
      touches_just_none touched,
      stays_grown sh w v last (progress.Undone p n upto) t is same,
      (nth, ap standing_of same ∙ st),
    );
    grounds = subst (λ z. WasDown n z.passes.items) (sym is) ((h.session).stands).2;
    over = λ saves tx birth nth touched g st is. tt;
  }

  -- ---- at a key

  abbrev pub PointDone : {A : Type 0} → (Result A Failure → Result Answer TryEnd) → Walker M S G → Progress → Op → Result A OpError → Walker M S G → Progress → Type 0
  PointDone {A} ends w s op r v t = (e : Result A Failure) × (r ≡ answer_told e) × Done w s op (ends e) sh v t

  point_grounds : (w v : Walker M S G) (n : ℕ) (p : SessionState) (e : Event) (answer : Result Answer Failure) → Performing (length sh.locks.items) w.number w.clock w.passes.items n p e answer v.clock v.passes.items
      → OnRefusal (Grounds v) (whole_end answer)
  point_grounds w v n p e (Ok answer) k = tt
  point_grounds w v n p e (Err (failed.Aborted cause)) k = tt
  point_grounds w v n p e (Err (failed.Down m)) k = found_down m w.number w.clock v.clock w.passes.items v.passes.items _ k.took (any_before (FindsDown m) k.asking k.leaving (k.told).0)
  point_grounds w v n p e (Err (failed.Worn at)) k = worn_is_last at w.number w.clock v.clock w.passes.items v.passes.items _ k.took (any_before (FindsWorn at) k.asking k.leaving k.told)
  point_grounds w v n p e (Err failed.Memory) k = tt

  module _ {A : Type 0} (tells : Result Answer Failure → Result A Failure) (ends : Result A Failure → Result Answer TryEnd) (key : ℕ) (op : Op) (takes : Takes key op tells ends) where
    point_made : (w v : Walker M S G) (p : SessionState) (t : Progress) (r : Result A OpError) → Holds sh w (progress.Active p) → IsSession sh v t → PointMade tells sh w p op key r v t → PointDone ends w (progress.Active p) op r v t
    point_made w v p t r h session m =
        let b = ((h.session).stands).born in
        let k = (m.told).turns b.birth b.is in (
          m.answer,
          m.is,
          record {
            holds = held_after sh w v (progress.Active p) t _ h session m.walker k.took;
            told = λ tx birth nth touched st. (
                let of = read_active p p.birth tx birth nth touched st in
                told_so w v (progress.Active p) t p (is_active p birth) (unless_dead m.place birth (has_died m.answer)) op (ends m.answer) tx birth nth touched of (ap (active_as p) of.birth_is)
                (ap standing_of m.then ∙ stands_after m.place birth (placed_birth _ _ op p m.place (m.told).answer (m.told).place ∙ of.birth_is) (has_died m.answer))
                (point_told tells ends sh w v p m.place birth key op m.answer takes (h.session).stands of.birth_is m.walker m.told m.stands last)
                );
            grounds = subst (λ x. OnRefusal (Grounds v) x) (sym (takes_whole tells ends sh w v p m.place b.birth key op m.answer takes (h.session).stands b.is m.walker m.told m.stands)) (point_grounds w v _ p _ (m.told).answer k);
            over =
                subst (λ x. GoesOver (progress.Active p) op x t) (sym (takes_whole tells ends sh w v p m.place b.birth key op m.answer takes (h.session).stands b.is m.walker m.told m.stands))
                (goes_over p m.place t op (has_died m.answer) (whole_end (m.told).answer) m.then (alive_after (has_died m.answer) (m.told).answer (ap has_died (m.told).is ∙ takes.died (m.told).answer))
                (point_writes sh.splits key p m.place op (m.told).answer takes.at (m.told).place));
          },
        )

    pub point_done : (w v : Walker M S G) (s t : Progress) (r : Result A OpError) → Holds sh w s → IsUnderWay s → PointCalled tells sh w s op key r v t → IsSession sh v t → PointDone ends w s op r v t
    point_done w v progress.Idle t r h way c session = idle_active None way.0 way.1 way.2 way.3 way.4
    point_done w v (progress.Active p) t r h way c session = point_made w v p t r h session c
    point_done w v (progress.Worn p) t r h way c session = (
      Err (failed.Worn (2 ^ 48)),
      c.0,
      subst (λ x. Done w (progress.Worn p) op x sh v t) (sym (takes.fails (failed.Worn (2 ^ 48)))) (worn_done w v p t op h session (point_has_part sh.splits key op takes.at) c.1 c.2),
    )
    point_done w v (progress.Undone p n upto) t r h way c session = (
      Err (failed.Down n),
      c.0,
      subst (λ x. Done w (progress.Undone p n upto) op x sh v t) (sym (takes.fails (failed.Down n))) (undone_done w v p n upto t op h session (point_has_part sh.splits key op takes.at) c.1 c.2),
    )
    point_done w v (progress.Asked p home stamp) t r h way c session = asked_active way.0 way.1 way.2 way.3 way.4
    point_done w v (progress.Ended p) t r h way c session = idle_active p.birth way.0 way.1 way.2 way.3 way.4

  -- ---- scans

  abbrev pub ScanDone : Walker M S G → Progress → ℕ → ℕ → Result (List (ℕ × ValueType)) OpError → Walker M S G → Progress → Type 0
  ScanDone w s lo hi r v t = (e : Result (List (ℕ × ValueType)) Failure) × (r ≡ answer_told e) × Done w s (Scan lo hi) (pairs_end e) sh v t

  scan_grounds : (w v : Walker M S G) (x : Range) (touched : List (ℕ × ℕ)) (answer : Result (List (ℕ × ValueType)) Failure) → Scanning sh.splits (length sh.locks.items) w.number w.clock w.passes.items x touched answer v.clock v.passes.items
      → OnRefusal (Grounds v) (pairs_end answer)
  scan_grounds w v x touched (Ok pairs) k = tt
  scan_grounds w v x touched (Err (failed.Aborted cause)) k = tt
  scan_grounds w v x touched (Err (failed.Down m)) k = found_down m w.number w.clock v.clock w.passes.items v.passes.items k.turns k.took (k.told).0
  scan_grounds w v x touched (Err (failed.Worn at)) k = worn_is_last at w.number w.clock v.clock w.passes.items v.passes.items k.turns k.took k.told
  scan_grounds w v x touched (Err failed.Memory) k = tt

  scan_made : (w v : Walker M S G) (p : SessionState) (t : Progress) (lo hi : ℕ) (r : Result (List (ℕ × ValueType)) OpError) → Holds sh w (progress.Active p) → IsSession sh v t → lo ≤ hi → hi < 2 ^ 64 → ScanMade sh w p lo hi r v t
      → ScanDone w (progress.Active p) lo hi r v t
  scan_made w v p t lo hi r h session falls small m =
      let b = ((h.session).stands).born in
      let k = m.turns b.birth b.is in (
        m.answer,
        m.is,
        record {
          holds = held_after sh w v (progress.Active p) t k.turns h session m.walker k.took;
          told = λ tx birth nth touched st. (
              let of = read_active p p.birth tx birth nth touched st in
              told_so w v (progress.Active p) t p (is_active p birth) (unless_dead m.place birth (has_died m.answer)) (Scan lo hi) (pairs_end m.answer) tx birth nth touched of (ap (active_as p) of.birth_is)
              (ap standing_of m.then ∙ stands_after m.place birth ((m.same).1 ∙ of.birth_is) (has_died m.answer))
              (scans_tell M S G sh w v last p m.place birth lo hi m.answer h.splits falls small (h.session).stands of.birth_is (m.parts birth of.birth_is) m.stands)
              );
          grounds = scan_grounds w v _ _ m.answer k;
          over = goes_over p m.place t (Scan lo hi) (has_died m.answer) (pairs_end m.answer) m.then (alive_scan m.answer) (scan_writes sh b.birth (p.nth + 1) lo hi w v p m.place m.answer (m.parts b.birth b.is));
        },
      )

  range_done : (w v : Walker M S G) (s t : Progress) (lo hi : ℕ) (r : Result (List (ℕ × ValueType)) OpError) → Holds sh w s → IsUnderWay s → lo ≤ hi → hi < 2 ^ 64 → RangeCalled sh w s lo hi r v t → IsSession sh v t → ScanDone w s lo hi r v t
  range_done w v progress.Idle t lo hi r h way falls small c session = idle_active None way.0 way.1 way.2 way.3 way.4
  range_done w v (progress.Active p) t lo hi r h way falls small c session = scan_made w v p t lo hi r h session falls small c
  range_done w v (progress.Worn p) t lo hi r h way falls small c session = (Err (failed.Worn (2 ^ 48)), c.0, worn_done w v p t (Scan lo hi) h session (scan_has_part sh.splits lo hi h.splits falls small) c.1 c.2)
  range_done w v (progress.Undone p n upto) t lo hi r h way falls small c session = (Err (failed.Down n), c.0, undone_done w v p n upto t (Scan lo hi) h session (scan_has_part sh.splits lo hi h.splits falls small) c.1 c.2)
  range_done w v (progress.Asked p home stamp) t lo hi r h way falls small c session = asked_active way.0 way.1 way.2 way.3 way.4
  range_done w v (progress.Ended p) t lo hi r h way falls small c session = idle_active p.birth way.0 way.1 way.2 way.3 way.4

  -- the bounds don't fall
  beside : (w v : Walker M S G) (s t : Progress) (lo hi : ℕ) (r : Result (List (ℕ × ValueType)) OpError) (active : Option TxId) → RangeBeside active false sh w s lo hi r v t → RangeCalled sh w s lo hi r v t
  beside w v s t lo hi r None c = c
  beside w v s t lo hi r (Some tx) c = c

  pub scan_done : (w v : Walker M S G) (s t : Progress) (lo hi : ℕ) (r : Result (List (ℕ × ValueType)) OpError) → Holds sh w s → IsUnderWay s → has_range (Scan lo hi) ≡ true → hi < 2 ^ 64 → ScanCalled sh w s lo hi r v t → IsSession sh v t
      → ScanDone w s lo hi r v t
  scan_done w v s t lo hi r h way range small c session =
      let falls = leb-true lo hi range in
      range_done w v s t lo hi r h way falls small
      (beside w v s t lo hi r (active_tx s) (subst (λ b. RangeBeside (active_tx s) b sh w s lo hi r v t) (le-ltb hi lo falls) c)) session

  -- ---- the calls, as the session makes them

  -- each answer is one of an operation that was made
  module _ {A : Type 0} (tells : Result Answer Failure → Result A Failure) (ends : Result A Failure → Result Answer TryEnd) (key : ℕ) (op : Op) (takes : Takes key op tells ends) where
    pub point_answers : (after : Shards M S G) (w v : Walker M S G) (s t : Progress) (r : Result A OpError) → after ≡ sh → Holds sh w s → IsUnderWay s → PointCalled tells sh w s op key r v t → IsSession after v t → (e : Result A Failure) × (r ≡ answer_told e)
    point_answers after w v s t r same h way c session = let k = point_done tells ends key op takes w v s t r h way c (subst (λ x. IsSession x v t) same session) in (k.0, k.1)

    pub point_call : (after : Shards M S G) (w v : Walker M S G) (s t : Progress) (asked : Op) (r : Result A OpError) (result : Result Answer TryEnd) → after ≡ sh → asked ≡ op → Holds sh w s → IsUnderWay s → PointCalled tells sh w s op key r v t → IsSession after v t
        → ((e : Result A Failure) → r ≡ answer_told e → result ≡ ends e) → Done w s asked result after v t
    point_call after w v s t asked r result same is h way c session told =
        let k = point_done tells ends key op takes w v s t r h way c (subst (λ x. IsSession x v t) same session) in
        subst (λ x. Done w s x result after v t) (sym is) (subst (λ x. Done w s op x after v t) (sym (told k.0 k.1)) (subst (λ x. Done w s op (ends k.0) x v t) (sym same) k.2))

  -- of a scan up to hi, which is small
  scan_so : (after : Shards M S G) (w v : Walker M S G) (s t : Progress) (lo hi upto : ℕ) (asked : Op) (r : Result (List (ℕ × ValueType)) OpError) → after ≡ sh → asked ≡ Scan lo hi → upto ≡ hi → Holds sh w s → IsUnderWay s → has_range asked ≡ true → hi < 2 ^ 64
      → ScanCalled sh w s lo upto r v t → IsSession after v t → ScanDone w s lo hi r v t
  scan_so after w v s t lo hi upto asked r same is end h way range small c session =
      scan_done w v s t lo hi r h way (ap has_range (sym is) ∙ range) small (subst (λ x. ScanCalled sh w s lo x r v t) end c) (subst (λ x. IsSession x v t) same session)

  pub scan_answers : (after : Shards M S G) (w v : Walker M S G) (s t : Progress) (lo hi upto : ℕ) (asked : Op) (r : Result (List (ℕ × ValueType)) OpError) → after ≡ sh → asked ≡ Scan lo hi → upto ≡ hi → Holds sh w s → IsUnderWay s → has_range asked ≡ true → hi < 2 ^ 64
      → ScanCalled sh w s lo upto r v t → IsSession after v t → (e : Result (List (ℕ × ValueType)) Failure) × (r ≡ answer_told e)
  scan_answers after w v s t lo hi upto asked r same is end h way range small c session = let k = scan_so after w v s t lo hi upto asked r same is end h way range small c session in (k.0, k.1)

  pub scan_call : (after : Shards M S G) (w v : Walker M S G) (s t : Progress) (lo hi upto : ℕ) (asked : Op) (r : Result (List (ℕ × ValueType)) OpError) (result : Result Answer TryEnd) → after ≡ sh → asked ≡ Scan lo hi → upto ≡ hi → Holds sh w s → IsUnderWay s
      → has_range asked ≡ true → hi < 2 ^ 64 → ScanCalled sh w s lo upto r v t → IsSession after v t → ((e : Result (List (ℕ × ValueType)) Failure) → r ≡ answer_told e → result ≡ pairs_end e) → Done w s asked result after v t
  scan_call after w v s t lo hi upto asked r result same is end h way range small c session told =
      let k = scan_so after w v s t lo hi upto asked r same is end h way range small c session in
      subst (λ x. Done w s x result after v t) (sym is) (subst (λ x. Done w s (Scan lo hi) x after v t) (sym (told k.0 k.1)) (subst (λ x. Done w s (Scan lo hi) (pairs_end k.0) x v t) (sym same) k.2))
