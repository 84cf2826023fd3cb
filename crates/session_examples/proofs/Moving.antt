-- What the calls of a transfer make of its session's entries.
use Rattle.std.proofs.Common.{◌≡◌, ◌∙◌, refl, sym, ap, subst, ℕ, suc, ◌≤◌, ◌+◌, ◌-◌, Bool, false, List, [], ◌∷◌, ◌++◌, append_assoc, append-nil, length, length-append, Option, Some, None, Result, Ok, Err, arith}
use Rattle.std.specs.Prelude.{IfOk}
use Rattle.std.proofs.lemmas.List.Elements.{filter-append}
use Rattle.clv_base.specs.declared.values.Value.{Value as ValueType}
use Rattle.clv_base.specs.declared.values.Value.TheVariants.{Num, Bytes}
use Rattle.clv_base.specs.declared.names.TxId.{TxId}
use Rattle.clv_base.specs.declared.names.Birth.{Birth}
use Rattle.clv_base.specs.declared.names.Point.{Point}
use Rattle.clv_base.specs.declared.ops.Op.{Op}
use Rattle.clv_base.specs.declared.ops.Op.TheVariants.{Get, Put, Del}
use Rattle.clv_base.specs.declared.ops.Answer.{Answer}
use Rattle.clv_base.specs.declared.ops.Answer.TheVariants.{Value, Pairs, Added}
use Rattle.clv_base.specs.Shards.{shard_of}
use Rattle.clv_base.specs.Backs.{has_written}
use Rattle.clv_base.specs.Journals.{History}
use Rattle.clv_base.specs.Sessions.{SessionState, is_of_session, with_written}
use Rattle.cluster_turns.specs.declared.shards.Shards.{Shards}
use Rattle.cluster_turns.specs.declared.shards.Walker.{Walker}
use Rattle.cluster_turns.specs.Walkers.{kept}
use Rattle.session_ops.specs.declared.operating.OpError.{OpError as OpFailure}
use Rattle.session_ops.specs.Standing.{IsActive}
use Rattle.session_ops.specs.Operated.{PlacedBy, answered_in}
use Rattle.session_ops.specs.Parts.{has_died, value_in}
use Rattle.session_ops.specs.declared.committing.Settled.{Settled}
use Rattle.session_ops.specs.declared.committing.Settled.TheVariants.{Committed, Empty}
use Rattle.session_ops.specs.declared.committing.CommitError.{CommitError as CommitFailure}
use Rattle.session_ops.specs.declared.committing.CommitError.TheVariants as unmade
use Rattle.session_books.specs.Done.{Done, Did}
use Rattle.script_runs.specs.Acts.{AreActs, written_after, written_from}
use Rattle.script_runs.specs.Sessions.{session_entries}
use Rattle.script_runs.specs.Seen.{Active as ActiveAs}
use Rattle.script_runs.specs.Told.{OperateTold, CommitTold}
use Rattle.session_api.specs.declared.progress.Progress.{Progress}
use Rattle.session_api.specs.declared.progress.Progress.TheVariants.{Active}
use Rattle.session_api.specs.Progresses.{after_op, answer_told, commit_told}
use Rattle.session_api.specs.declared.operating.OpError.{OpError}
use Rattle.session_api.specs.declared.ending.CommitError.{CommitError}
use Rattle.session_api.specs.Sessions.{IsSession, StandsIn, PointMade, PointCalled, CommitMade, CommitCalled}
use Rattle.session_api.specs.Seeing.{seen_as, touched_in, is_active, unless_dead, after_commit as commit_leaves, asked_after, value_end as value_tells, commit_end as commit_tells}
use Rattle.session_api.specs.ToldLaws.{IsAt, gets, puts, dels}
use Rattle.session_api.proofs.Laws.{points_tell, commits_tell, placed_birth}
use Rattle.session_examples.specs.declared.transfers.Failure.{Failure}
use Rattle.session_examples.specs.declared.transfers.Transferred.{Transferred}
use Rattle.session_examples.specs.declared.transfers.Transferred.TheVariants.{Moved, Refused, GivenUp}
use Rattle.session_examples.specs.declared.transfers.Stop.{Stop}
use Rattle.session_examples.specs.Later.{IsLater}
use Rattle.session_examples.specs.Ends.{value_end, written_end, commit_end}
use Rattle.session_examples.specs.Moves.{Acknowledges, reads_and_writes, made_by, Doing, HasAcknowledged, HasLast, Moves, HasMoved, MovesAs}
use Rattle.script_runs.proofs.Laws.{operation_more}

-- where the last request was isn't asked here
pub nowhere : Point
nowhere = record { stamp = 0; shard = 0 }

-- ---- operations

active_parts : (x tx : TxId) (b birth : Birth) (k nth : ℕ) (f touched : ℕ → Bool) → ActiveAs x b k f ≡ ActiveAs tx birth nth touched → (x ≡ tx) × (k ≡ nth)
active_parts x tx b birth k nth f touched h = (cc, cc)

-- an operation at a key that was answered is noted where it wrote
noted_at : (n nth key : ℕ) (op : Op) (a : Answer) (value : Option ValueType) (ws : List (ℕ × ℕ)) → IsAt key op → value_in (Ok a) ≡ Ok value → with_written n nth (has_written op a) ws ≡ with_written n nth (has_written op (Value value)) ws
noted_at n nth key _ a value ws gets is = refl
noted_at n nth key _ a value ws (puts v) is = refl
noted_at n nth key _ (Value v) value ws dels is = let same : v ≡ value = cc in ap (λ x. with_written n nth (has_written (Del key) (Value x)) ws) same
noted_at n nth key _ (Pairs ps) value ws dels is = let same : None ≡ value = cc in ap (λ x. with_written n nth (has_written (Del key) (Value x)) ws) same
noted_at n nth key _ (Added found) value ws dels is = let same : None ≡ value = cc in ap (λ x. with_written n nth (has_written (Del key) (Value x)) ws) same

written_so : (splits : List ℕ) (nth key : ℕ) (op : Op) (value : Option ValueType) (ws : List (ℕ × ℕ)) → IsAt key op → with_written (shard_of splits key) nth (has_written op (Value value)) ws ≡ written_after splits nth (Did op (Value value)) ws
written_so splits nth key _ value ws gets = refl
written_so splits nth key _ value ws (puts v) = refl
written_so splits nth key _ None ws dels = refl
written_so splits nth key _ (Some v) ws dels = refl

placed_writes : (splits : List ℕ) (key : ℕ) (p q : SessionState) (op : Op) (r : Result Answer OpFailure) (value : Option ValueType) → IsAt key op → PlacedBy (shard_of splits key) (p.nth + 1) op p (answered_in r) q → value_in r ≡ Ok value
    → q.written ≡ written_after splits (suc p.nth) (Did op (Value value)) p.written
placed_writes splits key p q op (Ok a) value at place is =
    let next : p.nth + 1 ≡ suc p.nth = omega arith in
    ap (λ z. z.written) place.1 ∙ ap (λ n. with_written (shard_of splits key) n (has_written op a) p.written) next ∙ noted_at (shard_of splits key) (suc p.nth) key op a value p.written at is
    ∙ written_so splits (suc p.nth) key op value p.written at
placed_writes splits key p q op (Err e) value at place is = absurd cc

pub written_more : (splits : List ℕ) (nth k : ℕ) (ws : List (ℕ × ℕ)) (ds : List Done) (d : Done) → k ≡ nth + length ds → written_from splits nth ws (ds ++ d ∷ []) ≡ written_after splits k d (written_from splits nth ws ds)
written_more splits nth k ws [] d same = ap (λ n. written_after splits n d ws) (let h : nth ≡ k = omega arith in h)
written_more splits nth k ws (x ∷ ds) d same = written_more splits (suc nth) k (written_after splits nth x ws) ds d (omega arith)

module _ {M S G : Type 0} (sh : Shards M S G) where
  pub active_is : (w : Walker M S G) (s : Progress) (p : SessionState) → IsSession sh w s → s ≡ Active p → IsActive sh w p
  active_is w s p h is = subst (StandsIn sh w) is h.stands

  op_made : (w u v : Walker M S G) (s t : Progress) (op : Op) (key : ℕ) (r : Result (Option ValueType) OpError) (value : Option ValueType) (acts : List Done) → IsSession sh u s → IsAt key op → (d : Doing sh w u s acts) → (m : PointMade value_in sh u d.place op key r v t)
      → m.answer ≡ Ok value → Doing sh w v t (acts ++ Did op (Value value) ∷ [])
  op_made w u v s t op key r value acts h is_at d m is =
      let p = d.place in
      let q = m.place in
      let told : OperateTold p.tx d.birth p.nth (touched_in p.touched) op (value_tells (Ok value)) (seen_as sh u nowhere (is_active p d.birth)) (seen_as sh v nowhere (unless_dead q d.birth false)) =
      subst (λ a. OperateTold p.tx d.birth p.nth (touched_in p.touched) op (value_tells a) (seen_as sh u nowhere (is_active p d.birth)) (seen_as sh v nowhere (unless_dead q d.birth (has_died a)))) is
      (points_tell M S G sh u v nowhere p q d.birth key op m.answer is_at (active_is u s p h d.is) d.birth_is m.walker m.told m.stands) in
      let parts = active_parts q.tx p.tx d.birth d.birth q.nth (suc p.nth) (touched_in q.touched) told.1 told.5 in
      let grown = (told.4).entries_are in
      let nth = d.nth_is in
      let same = parts.1 in
      let long = length-append acts (Did op (Value value) ∷ []) in
      record {
        place = q;
        birth = d.birth;
        is = m.then ∙ ap (λ a. after_op q (has_died a)) is;
        birth_is = placed_birth _ _ op p q (m.told).answer (m.told).place ∙ d.birth_is;
        nth_is = (omega arith);
        written_is =
            placed_writes sh.splits key p q op (m.told).answer value is_at (m.told).place (sym (m.told).is ∙ is) ∙ ap (written_after sh.splits (suc p.nth) (Did op (Value value))) d.written_is
            ∙ sym (written_more sh.splits 1 (suc p.nth) [] acts (Did op (Value value)) (omega arith));
        made = d.made ++ told.0;
        made_is = grown ∙ ap (λ l. l ++ told.0) d.made_is ∙ append_assoc (made_by w) d.made told.0;
        acts_are =
            subst (λ x. AreActs sh.splits x d.birth 1 [] (acts ++ Did op (Value value) ∷ []) (d.made ++ told.0)) (sym parts.0)
            (operation_more sh.splits p.tx d.birth 1 (suc p.nth) [] acts d.made op (Value value) told.0 d.acts_are (omega arith) told.2);
      }

  -- of the active transaction that the call found
  at_place : (w u v : Walker M S G) (s t : Progress) (op : Op) (key : ℕ) (r : Result (Option ValueType) OpError) (acts : List Done) (d : Doing sh w u s acts) → PointCalled value_in sh u s op key r v t → PointMade value_in sh u d.place op key r v t
  at_place w u v s t op key r acts d c = subst (λ x. PointCalled value_in sh u x op key r v t) d.is c

  -- a key that was read
  value_by : (w u v : Walker M S G) (s t : Progress) (key : ℕ) (r : Result (Option ValueType) OpError) (acts : List Done) → IsSession sh u s → (d : Doing sh w u s acts) → (m : PointMade value_in sh u d.place (Get key) key r v t)
      → (e : Result (Option ValueType) OpFailure) → m.answer ≡ e → IfOk (value_end key e) (λ value. Doing sh w v t (acts ++ Did (Get key) (Value (Some (Num value))) ∷ []))
  value_by w u v s t key r acts h d m (Ok (Some (Num n))) is = op_made w u v s t (Get key) key r (Some (Num n)) acts h gets d m is
  value_by w u v s t key r acts h d m (Ok (Some (Bytes bytes))) is = tt
  value_by w u v s t key r acts h d m (Ok None) is = tt
  value_by w u v s t key r acts h d m (Err e) is = tt

  pub value_done : (w u v : Walker M S G) (s t : Progress) (key : ℕ) (r : Result (Option ValueType) OpError) (x : Result ℕ Failure) (acts : List Done) → IsSession sh u s → PointCalled value_in sh u s (Get key) key r v t
      → ((e : Result (Option ValueType) OpFailure) → r ≡ answer_told e → x ≡ value_end key e) → Doing sh w u s acts → IfOk x (λ value. Doing sh w v t (acts ++ Did (Get key) (Value (Some (Num value))) ∷ []))
  value_done w u v s t key r x acts h c told d =
      let m = at_place w u v s t (Get key) key r acts d c in
      subst (λ y. IfOk y (λ value. Doing sh w v t (acts ++ Did (Get key) (Value (Some (Num value))) ∷ []))) (sym (told m.answer m.is)) (value_by w u v s t key r acts h d m m.answer refl)

  -- one that was written
  written_by : (w u v : Walker M S G) (s t : Progress) (key : ℕ) (value : ValueType) (r : Result (Option ValueType) OpError) (acts : List Done) → IsSession sh u s → (d : Doing sh w u s acts) → (m : PointMade value_in sh u d.place (Put key value) key r v t)
      → (e : Result (Option ValueType) OpFailure) → m.answer ≡ e → IfOk (written_end e) (λ u. (before : Option ValueType) × Doing sh w v t (acts ++ Did (Put key value) (Value before) ∷ []))
  written_by w u v s t key value r acts h d m (Ok before) is = (before, op_made w u v s t (Put key value) key r before acts h (puts value) d m is)
  written_by w u v s t key value r acts h d m (Err e) is = tt

  pub written_done : (w u v : Walker M S G) (s t : Progress) (key : ℕ) (value : ValueType) (r : Result (Option ValueType) OpError) (x : Result Unit Failure) (acts : List Done) → IsSession sh u s → PointCalled value_in sh u s (Put key value) key r v t
      → ((e : Result (Option ValueType) OpFailure) → r ≡ answer_told e → x ≡ written_end e) → Doing sh w u s acts → IfOk x (λ u. (before : Option ValueType) × Doing sh w v t (acts ++ Did (Put key value) (Value before) ∷ []))
  written_done w u v s t key value r x acts h c told d =
      let m = at_place w u v s t (Put key value) key r acts d c in
      subst (λ y. IfOk y (λ u. (before : Option ValueType) × Doing sh w v t (acts ++ Did (Put key value) (Value before) ∷ []))) (sym (told m.answer m.is)) (written_by w u v s t key value r acts h d m m.answer refl)

  -- ---- a commit

  settled_by : (w u v : Walker M S G) (s : Progress) (q : SessionState) (acts : List Done) → 1 ≤ length acts → (d : Doing sh w u s acts) → (e : Result Settled CommitFailure)
      → CommitTold (d.place).tx d.birth (d.place).nth (touched_in (d.place).touched) (commit_tells e) (seen_as sh u nowhere (is_active d.place d.birth)) (seen_as sh v (asked_after nowhere e) (commit_leaves q d.birth e)) → IfOk (commit_end e) (λ u. HasAcknowledged sh acts w v)
  settled_by w u v s q acts some d (Ok (Committed point)) k =
      let grown = (k.5).entries_are in (
        d.made ++ k.1 ∷ k.2 ∷ [],
        grown ∙ ap (λ l. l ++ k.1 ∷ k.2 ∷ []) d.made_is ∙ append_assoc (made_by w) d.made (k.1 ∷ k.2 ∷ []),
        record { tx = (d.place).tx; birth = d.birth; before = d.made; home = k.0; asked = k.1; told = k.2; entries_are = refl; acts_are = d.acts_are; asked_is = k.3; told_is = k.4 },
      )
  settled_by w u v s q acts some d (Ok Empty) k = let nth = d.nth_is in let none = k.0 in absurd (omega arith)
  settled_by w u v s q acts some d (Err (unmade.Aborted cause)) k = tt
  settled_by w u v s q acts some d (Err (unmade.Down n)) k = tt
  settled_by w u v s q acts some d (Err (unmade.Unsettled n)) k = tt
  settled_by w u v s q acts some d (Err (unmade.Worn at)) k = tt
  settled_by w u v s q acts some d (Err unmade.Memory) k = tt

  pub settled_done : (w u v : Walker M S G) (s t : Progress) (r : Result Settled CommitError) (x : Result Unit Failure) (acts : List Done) → IsSession sh u s → CommitCalled sh u s r v t
      → ((e : Result Settled CommitFailure) → r ≡ commit_told e → x ≡ commit_end e) → 1 ≤ length acts → Doing sh w u s acts → IfOk x (λ u. HasAcknowledged sh acts w v)
  settled_done w u v s t r x acts h c told some d =
      let m : CommitMade sh u d.place r v t = subst (λ y. CommitCalled sh u y r v t) d.is c in
      subst (λ y. IfOk y (λ u. HasAcknowledged sh acts w v)) (sym (told m.answer m.is))
      (settled_by w u v s m.place acts some d m.answer (commits_tell M S G sh u v nowhere d.place m.place d.birth m.stamp m.answer (active_is u s d.place h d.is) d.birth_is m.walker m.told m.stands))

  -- ---- a transfer

  all_moved : (w v : Walker M S G) (from to amount left sum holds other : ℕ) (one two : Answer) → amount ≤ holds → left ≡ holds - amount → sum ≡ other + amount
      → HasAcknowledged sh (reads_and_writes from to holds other left sum one two) w v → HasMoved sh from to amount w v
  all_moved w v from to amount left sum holds other one two covered less more a = (
    [],
    a.0,
    a.1 ∙ ap (λ l. l ++ a.0) (sym (append-nil (made_by w))),
    record {
      holds = holds;
      other = other;
      covered = covered;
      one = one;
      two = two;
      acknowledged =
          subst (λ y. Acknowledges sh.splits (reads_and_writes from to holds other (holds - amount) y one two) a.0) more
          (subst (λ y. Acknowledges sh.splits (reads_and_writes from to holds other y sum one two) a.0) less a.2);
    },
  )

  pub if_moved : (x : Result Unit Failure) (w v : Walker M S G) (from to amount left sum holds other : ℕ) (one two : Answer) → amount ≤ holds → left ≡ holds - amount → sum ≡ other + amount
      → IfOk x (λ u. HasAcknowledged sh (reads_and_writes from to holds other left sum one two) w v) → IfOk x (λ u. HasMoved sh from to amount w v)
  if_moved (Ok u) w v from to amount left sum holds other one two covered less more a = all_moved w v from to amount left sum holds other one two covered less more a
  if_moved (Err e) w v from to amount left sum holds other one two covered less more a = tt

  made_later : (w v : Walker M S G) (h : IsLater w v) → made_by v ≡ made_by w ++ session_entries h.made
  made_later w v h = ap session_entries h.kept_is ∙ filter-append (λ e. is_of_session (e.1).event) (kept w.passes.items) h.made

  -- and whatever was before them
  pub last_on : (P : History → Type 0) (w u v : Walker M S G) → IsLater w u → HasLast P u v → HasLast P w v
  last_on P w u v h m =
      let more = session_entries h.made in (
        more ++ m.0,
        m.1,
        m.2 ∙ ap (λ l. l ++ m.0 ++ m.1) (made_later w u h) ∙ ap (λ l. l ++ m.1) (append_assoc (made_by w) more m.0),
        m.3,
      )

  -- as a try and its end tell it
  pub ends_moved : (w u m v : Walker M S G) (from to amount : ℕ) (x : Result Unit Failure) (r : Result Transferred Stop) → IsLater w u → IfOk x (λ a. HasMoved sh from to amount u m) → (r ≡ Ok Moved → (x ≡ Ok tt) × (v ≡ m)) → MovesAs sh from to amount r w v
  ends_moved w u m v from to amount x (Ok Moved) h moved f =
      let k = f refl in
      last_on (Moves sh.splits from to amount) w u v h (subst (λ z. HasMoved sh from to amount u z) (sym k.1) (subst (λ y. IfOk y (λ a. HasMoved sh from to amount u m)) k.0 moved))
  ends_moved w u m v from to amount x (Ok (Refused why)) h moved f = tt
  ends_moved w u m v from to amount x (Ok (GivenUp cause)) h moved f = tt
  ends_moved w u m v from to amount x (Err stop) h moved f = tt

  pub moves_on : (w u v : Walker M S G) (from to amount : ℕ) (r : Result Transferred Stop) → IsLater w u → MovesAs sh from to amount r u v → MovesAs sh from to amount r w v
  moves_on w u v from to amount (Ok Moved) h m = last_on (Moves sh.splits from to amount) w u v h m
  moves_on w u v from to amount (Ok (Refused why)) h m = tt
  moves_on w u v from to amount (Ok (GivenUp cause)) h m = tt
  moves_on w u v from to amount (Err stop) h m = tt
