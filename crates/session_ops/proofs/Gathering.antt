-- A scan, shard by shard.
use Rattle.std.proofs.Common.{◌≡◌, ◌∙◌, refl, sym, ap, subst, ℕ, zero, suc, ◌+◌, true, false, List, [], ◌∷◌, ◌++◌, append-nil, Option, Some, None, Result, Ok, Err, arith, inl, inr}
use Rattle.std.specs.Prelude.{◌⊎◌, is_some}
use Rattle.std.specs.List.{AllByRecursion}
use Rattle.clv_base.specs.declared.names.TxId.{TxId}
use Rattle.clv_base.specs.declared.names.Birth.{Birth}
use Rattle.clv_base.specs.declared.values.Value.{Value as ValueType}
use Rattle.clv_base.specs.declared.ops.Op.{Op}
use Rattle.clv_base.specs.declared.ops.Op.TheVariants.{Scan}
use Rattle.clv_base.specs.declared.ops.Answer.{Answer}
use Rattle.clv_base.specs.declared.events.Event.{Event}
use Rattle.clv_base.specs.declared.events.Event.TheVariants.{Op as OpEvent}
use Rattle.clv_base.specs.Sessions.{SessionState, is_of_session}
use Rattle.turn_lock.specs.declared.pass.Pass.{Pass}
use Rattle.machine_laws.specs.declared.notes.Note.{Note}
use Rattle.machine_laws.specs.declared.notes.Origin.{Origin}
use Rattle.cluster_turns.specs.CallTurns.{Turn, no_turn, AnyTurn}
use Rattle.cluster_turns.proofs.Laws.{turns_follow}
use Rattle.session_ops.specs.declared.operating.OpError.{OpError}
use Rattle.session_ops.specs.declared.operating.OpError.TheVariants.{Aborted, Down, Worn, Memory}
use Rattle.session_ops.specs.Operated.{IsAnswered, Died, Waits, OnlyOf, ToldBy, PlacedBy, answered_in}
use Rattle.session_ops.specs.Dropped.{Drops}
use Rattle.session_ops.specs.Decided.{DropsOthers}
use Rattle.session_ops.proofs.Parting.{any_before, any_after}
use Rattle.session_ops.specs.Parts.{has_died, LeftBy, Performing}
use Rattle.session_ops.specs.Scanned.{part_on, Range, IsPartScan, IsScanWait, pairs_in, GivesPairs, DiesOfScan, PartGiven, Gathered, IsOfScan, ScanFailed, Scanning, StepTold, Stepping, TakesPairs}
use Rattle.session_ops.proofs.Parting.{all_append}

-- ---- turns

any_map : (P Q : Turn → Type 0) → ((t : Turn) → P t → Q t) → (ts : List Turn) → AnyTurn P ts → AnyTurn Q ts
any_map P Q f [] h = absurd h
any_map P Q f (t ∷ ts) (inl h) = inl (f t h)
any_map P Q f (t ∷ ts) (inr h) = inr (any_map P Q f ts h)

all_map : (P Q : Turn → Type 0) → ((t : Turn) → P t → Q t) → (ts : List Turn) → AllByRecursion P ts → AllByRecursion Q ts
all_map P Q f [] h = tt
all_map P Q f (t ∷ ts) h = (f t h.0, all_map P Q f ts h.1)

module _ (splits : List ℕ) (x : Range) (n : ℕ) (seen : Option ℕ) (part : ℕ × ℕ) (is : part_on splits n x.lo x.hi ≡ Some part) where
  abbrev scan_event : Event
  scan_event = OpEvent x.tx x.birth x.nth seen (Scan part.0 part.1)

  is_scan : (t : Turn) → t.event ≡ scan_event → IsPartScan splits x n t
  is_scan t e = record { seen = seen; part = part; meets = is; event = e }

  of_scan : (t : Turn) → (is_of_session t.event ≡ false) ⊎ (t.event ≡ scan_event) → IsOfScan splits x t
  of_scan t (inl h) = inl h
  of_scan t (inr h) = inr (inl (n, is_scan t h))

  of_drop : (touched : List (ℕ × ℕ)) (t : Turn) → Drops x.tx touched (Some n) t → IsOfScan splits x t
  of_drop touched t h = inr (inr h.event)

  pub all_of_scan : (touched : List (ℕ × ℕ)) (ts us : List Turn) → OnlyOf scan_event ts → AllByRecursion (Drops x.tx touched (Some n)) us → AllByRecursion (IsOfScan splits x) (ts ++ us)
  all_of_scan touched ts us a b = all_append (IsOfScan splits x) ts us (all_map _ (IsOfScan splits x) of_scan ts a) (all_map _ (IsOfScan splits x) (of_drop touched) us b)

  pub given : (answer : Answer) (ts : List Turn) → AnyTurn (IsAnswered n scan_event answer) ts → AnyTurn (GivesPairs splits x n (pairs_in answer)) ts
  given answer ts h = any_map (IsAnswered n scan_event answer) (GivesPairs splits x n (pairs_in answer)) (λ t a. record { shard = a.0; scan = is_scan t a.1; answer = answer; epoch = a.2.0; answered = a.2.1; pairs = refl }) ts h

  pub failed : (count : ℕ) (touched : List (ℕ × ℕ)) (e : OpError) (ts us : List Turn) → ToldBy n scan_event (Err e) ts → LeftBy count n x.tx touched (has_died {A = Answer} (Err e)) us → ScanFailed splits count x touched e (ts ++ us)
  failed count touched (Aborted cause) ts us h left = (
    n,
    (
      any_before _ ts us (any_map (Died n scan_event cause) (DiesOfScan splits x n cause) (λ t a. record { shard = a.0; scan = is_scan t a.1; died = a.2 }) ts h),
      λ k low to. any_after _ ts us (left k low to),
    ),
  )
  failed count touched (Down m) ts us h left = (any_before _ ts us h.0, by h.1)
    where
      by : (m ≡ n) ⊎ AnyTurn (Waits n scan_event) ts → (is_some (part_on splits m x.lo x.hi) ≡ true) ⊎ AnyTurn (IsScanWait splits x) (ts ++ us)
      by (inl same) = inl (ap (λ k. is_some (part_on splits k x.lo x.hi)) same ∙ ap is_some is)
      by (inr w) = inr (any_before _ ts us (any_map (Waits n scan_event) (IsScanWait splits x) (λ t a. record { at = n; scan = is_scan t a.1; waits = a.2 }) ts w))
  failed count touched (Worn at) ts us h left = any_before _ ts us h
  failed count touched Memory ts us h left = tt

-- ---- one shard

-- the touched shards when a transaction died
died_touched : (count n nth : ℕ) (op : Op) (p q : SessionState) (e : OpError) (tx : TxId) (ts : List Turn) → PlacedBy n nth op p (Err e) q → LeftBy count n tx p.touched (has_died {A = Answer} (Err e)) ts → LeftBy count n tx q.touched (has_died {A = Answer} (Err e)) ts
died_touched count n nth op p q (Aborted cause) tx ts h l = subst (λ z. DropsOthers count tx z n ts) (sym (ap (λ z. z.touched) h)) l
died_touched count n nth op p q (Down m) tx ts h l = l
died_touched count n nth op p q (Worn at) tx ts h l = l
died_touched count n nth op p q Memory tx ts h l = l

module _ {T : Type 0} where
  pub stepped : (splits : List ℕ) (count w c d n : ℕ) (before after : List (Option (Pass T Note Origin))) (x : Range) (seen : Option ℕ) (part : ℕ × ℕ) (p q : SessionState) (answer : Result Answer OpError) (r : Result Unit OpError)
      (ps qs : List (ℕ × ValueType)) → part_on splits n x.lo x.hi ≡ Some part → p.tx ≡ x.tx → Performing count w c before n p (OpEvent x.tx x.birth x.nth seen (Scan part.0 part.1)) answer d after → PlacedBy n x.nth (Scan part.0 part.1) p (answered_in answer) q
      → TakesPairs ps answer r qs → Stepping splits count w c before x n q.touched ps qs r d after
  stepped splits count w c d n before after x seen part p q answer r ps qs is name h place t = record {
    turns = h.asking ++ h.leaving;
    took = h.took;
    only = all_of_scan splits x n seen part is p.touched h.asking h.leaving h.only (subst (λ z. AllByRecursion (Drops z p.touched (Some n)) h.leaving) name h.drops);
    told = at answer r h.told h.left place t;
  }
    where
      at : (answer : Result Answer OpError) (r : Result Unit OpError) → ToldBy n (OpEvent x.tx x.birth x.nth seen (Scan part.0 part.1)) (answered_in answer) h.asking → LeftBy count n p.tx p.touched (has_died answer) h.leaving
          → PlacedBy n x.nth (Scan part.0 part.1) p (answered_in answer) q → TakesPairs ps answer r qs → StepTold splits count x n q.touched ps qs r (h.asking ++ h.leaving)
      at (Ok answer) (Ok u) told left place t =
          (pairs_in answer, t, subst (λ o. PartGiven splits x n o (pairs_in answer) (h.asking ++ h.leaving)) (sym is) (any_before _ h.asking h.leaving (given splits x n seen part is answer h.asking told)))
      at (Ok answer) (Err e) told left place t = subst (λ z. ScanFailed splits count x q.touched z (h.asking ++ h.leaving)) (sym t) tt
      at (Err e) r told left place t =
          subst (λ z. StepTold splits count x n q.touched ps qs z (h.asking ++ h.leaving)) (sym t)
          (failed splits x n seen part is count q.touched e h.asking h.leaving told
          (subst (λ z. LeftBy count n z q.touched (has_died {A = Answer} (Err e)) h.leaving) name (died_touched count n x.nth (Scan part.0 part.1) p q e p.tx h.leaving place left)))

  -- a shard that the range doesn't meet
  pub passed : (splits : List ℕ) (count w c n : ℕ) (ps : List (Option (Pass T Note Origin))) (x : Range) (touched : List (ℕ × ℕ)) (qs : List (ℕ × ValueType)) (u : Unit) → part_on splits n x.lo x.hi ≡ None → Stepping splits count w c ps x n touched qs qs (Ok u) c ps
  passed splits count w c n ps x touched qs u is = record {
    turns = [];
    took = no_turn c ps;
    only = tt;
    told = ([], sym (append-nil qs), subst (λ o. PartGiven splits x n o [] []) (sym is) refl);
  }

-- ---- shard after shard

given_before : (splits : List ℕ) (x : Range) (n : ℕ) (o : Option (ℕ × ℕ)) (rs : List (ℕ × ValueType)) (ts us : List Turn) → PartGiven splits x n o rs ts → PartGiven splits x n o rs (ts ++ us)
given_before splits x n None rs ts us h = h
given_before splits x n (Some part) rs ts us h = any_before _ ts us h

given_after : (splits : List ℕ) (x : Range) (n : ℕ) (o : Option (ℕ × ℕ)) (rs : List (ℕ × ValueType)) (ts us : List Turn) → PartGiven splits x n o rs us → PartGiven splits x n o rs (ts ++ us)
given_after splits x n None rs ts us h = h
given_after splits x n (Some part) rs ts us h = any_after _ ts us h

gathered_before : (splits : List ℕ) (x : Range) (n : ℕ) (ps : List (ℕ × ValueType)) (ts us : List Turn) → Gathered splits x n ps ts → Gathered splits x n ps (ts ++ us)
gathered_before splits x zero ps ts us h = h
gathered_before splits x (suc n) ps ts us (qs, (rs, is, h, g)) = (qs, (rs, is, gathered_before splits x n qs ts us h, given_before splits x n (part_on splits n x.lo x.hi) rs ts us g))

failed_after : (splits : List ℕ) (count : ℕ) (x : Range) (touched : List (ℕ × ℕ)) (e : OpError) (ts us : List Turn) → ScanFailed splits count x touched e us → ScanFailed splits count x touched e (ts ++ us)
failed_after splits count x touched (Aborted cause) ts us (n, (h, d)) = (n, (any_after _ ts us h, λ k l is. any_after _ ts us (d k l is)))
failed_after splits count x touched (Down m) ts us h = (any_after _ ts us h.0, by h.1)
  where
    by : (is_some (part_on splits m x.lo x.hi) ≡ true) ⊎ AnyTurn (IsScanWait splits x) us → (is_some (part_on splits m x.lo x.hi) ≡ true) ⊎ AnyTurn (IsScanWait splits x) (ts ++ us)
    by (inl k) = inl k
    by (inr k) = inr (any_after _ ts us k)
failed_after splits count x touched (Worn at) ts us h = any_after _ ts us h
failed_after splits count x touched Memory ts us h = tt

module _ {T : Type 0} where
  pub nothing_scanned : (splits : List ℕ) (w c : ℕ) (ps : List (Option (Pass T Note Origin))) (x : Range) (touched : List (ℕ × ℕ)) → Scanning splits 0 w c ps x touched (Ok []) c ps
  nothing_scanned splits w c ps x touched = record { turns = []; took = no_turn c ps; only = tt; told = refl }

  pub scanned_on : (splits : List ℕ) (count w c d e n : ℕ) (as_ bs cs : List (Option (Pass T Note Origin))) (x : Range) (old touched : List (ℕ × ℕ)) (ps qs : List (ℕ × ValueType)) (u : Unit) → Scanning splits n w c as_ x old (Ok ps) d bs
      → Stepping splits count w d bs x n touched ps qs (Ok u) e cs → Scanning splits (n + 1) w c as_ x touched (Ok qs) e cs
  scanned_on splits count w c d e n as_ bs cs x old touched ps qs u a b = record {
    turns = a.turns ++ b.turns;
    took = turns_follow w c d e as_ bs cs a.turns b.turns a.took b.took;
    only = all_append (IsOfScan splits x) a.turns b.turns a.only b.only;
    told = subst (λ k. Gathered splits x k qs (a.turns ++ b.turns)) (let k : suc n ≡ n + 1 = omega arith in k)
        (ps, (b.told.0, b.told.1, gathered_before splits x n ps a.turns b.turns a.told, given_after splits x n (part_on splits n x.lo x.hi) b.told.0 a.turns b.turns b.told.2));
  }

  pub scan_fails : (splits : List ℕ) (count w c d k n : ℕ) (as_ bs cs : List (Option (Pass T Note Origin))) (x : Range) (old touched : List (ℕ × ℕ)) (ps qs : List (ℕ × ValueType)) (e : OpError) → Scanning splits n w c as_ x old (Ok ps) d bs
      → Stepping splits count w d bs x n touched ps qs (Err e) k cs → Scanning splits count w c as_ x touched (Err e) k cs
  scan_fails splits count w c d k n as_ bs cs x old touched ps qs e a b = record {
    turns = a.turns ++ b.turns;
    took = turns_follow w c d k as_ bs cs a.turns b.turns a.took b.took;
    only = all_append (IsOfScan splits x) a.turns b.turns a.only b.only;
    told = failed_after splits count x touched e a.turns b.turns b.told;
  }

module _ {T : Type 0} where
  -- the same scan by other names
  pub as_scan : (splits : List ℕ) (count w k c d n : ℕ) (as_ bs : List (Option (Pass T Note Origin))) (tx y : TxId) (birth : Birth) (nth z lo hi : ℕ) (touched : List (ℕ × ℕ)) (ps qs : List (ℕ × ValueType)) (r : Result Unit OpError) → k ≡ w → tx ≡ y → nth ≡ z
      → Stepping splits count k c as_ (record { tx = tx; birth = birth; nth = nth; lo = lo; hi = hi }) n touched ps qs r d bs
      → Stepping splits count w c as_ (record { tx = y; birth = birth; nth = z; lo = lo; hi = hi }) n touched ps qs r d bs
  as_scan splits count w k c d n as_ bs tx y birth nth z lo hi touched ps qs r a b e h =
      subst (λ (i : ℕ). Stepping splits count i c as_ (record { tx = y; birth = birth; nth = z; lo = lo; hi = hi }) n touched ps qs r d bs) a
      (subst (λ (i : TxId). Stepping splits count k c as_ (record { tx = i; birth = birth; nth = z; lo = lo; hi = hi }) n touched ps qs r d bs) b
      (subst (λ (i : ℕ). Stepping splits count k c as_ (record { tx = tx; birth = birth; nth = i; lo = lo; hi = hi }) n touched ps qs r d bs) e h))
