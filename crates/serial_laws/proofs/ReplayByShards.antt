-- What replays on each shard replays on all.
pub mod SpansShareNoKey
pub mod OperationsOnSpans
pub mod SidesAgree
use Rattle.std.proofs.Common.{◌≡◌, refl, sym, ap, subst, ◌∙◌, ℕ, ◌<◌, ◌≤◌, ◌⊎◌, inl, inr, ⊎_elim, Bool, true, false, cond, ◌&&◌, ◌||◌, List, [], ◌∷◌, map, Option, Some, None, ◌==◌, nat_lt, nat_le, eqb-true, eq-eqb, arith, le_refl}
use Rattle.std.specs.List.{AllByRecursion, list_any}
use Rattle.std.proofs.lemmas.Bool.{both_ways, and_parts, and_from, or_left, lt-leb, le-leb, ltb-true, cond-true, cond-false, cases_Bool}
use Rattle.clv_base.specs.declared.ops.Op.{Op}
use Rattle.clv_base.specs.declared.ops.Answer.{Answer}
use Rattle.clv_base.specs.Maps.{KeyMap, Trail, map_get, Operates, GoesBack, op_answer, op_after, map_now, map_up_to, acts_after, acts_answers, replay_map, replay_answers}
use Rattle.clv_base.specs.Folding.{IsRising}
use Rattle.clv_base.specs.Backs.{has_written}
use Rattle.clv_base.specs.Shards.{shard_count, are_splits, in_span}
use Rattle.clv_base.specs.Sessions.{lies_in, with_written, is_back_whole, goes_on_back}
use Rattle.clv_base.specs.History.{DoneAct, is_with_next, put_act, answers_given}
use Rattle.clv_base.proofs.Folding.{same_map, rising_after}
use Rattle.law_base.proofs.Bools.{not_true, and_no}
use Rattle.serial_laws.specs.Shares.{ShardAct, OnShard, BackOn, part_on, whole, numbered, LiesIn, Progress, not_begun, continues, kept_on, followed, goes_whole_from, goes_whole, HasShares, ReplayByShards}
use Rattle.serial_laws.proofs.Held.OperationsAtPlaces.{rising_ops}
use Rattle.serial_laws.proofs.Held.TrailsAreHeldMaps.{stands, kept_none, gone_back}
use Rattle.serial_laws.proofs.ReplayByShards.SpansShareNoKey.{whose}
use Rattle.serial_laws.proofs.ReplayByShards.OperationsOnSpans.{lies_only, lies_elsewhere, lies_somewhere}
use Rattle.serial_laws.proofs.Whole.GoingsBackAreMerged.{before_back, twice, first_follows, NewBack, new_back, next_op, op_stays}
use Rattle.serial_laws.proofs.ReplayByShards.SidesAgree.{part_by, Side, op_here, op_elsewhere, announced, AtBack, gone_to, goes_first, goes_again, enters, skips, stays}

abbrev InSpan : List ℕ → ℕ → ℕ → Type 0
InSpan splits n k = in_span splits n k ≡ true

abbrev Nowhere : List ℕ → ℕ → Type 0
Nowhere splits k = (n : ℕ) → n < shard_count splits → in_span splits n k ≡ false

abbrev AllRise : Trail → Type 0
AllRise t = AllByRecursion (λ q. IsRising q.1) t

rising_now : (m : KeyMap) (t : Trail) → IsRising m → AllRise t → IsRising (map_now m t)
rising_now m [] h a = h
rising_now m (q ∷ qs) h a = a.0

rising_up_to : (u : ℕ) (m : KeyMap) (t : Trail) → IsRising m → AllRise t → IsRising (map_up_to u m t)
rising_up_to u m [] h a = h
rising_up_to u m (q ∷ qs) h a = at (nat_le q.0 u) (rising_up_to u m qs h a.1)
  where
    at : (b : Bool) → IsRising (map_up_to u m qs) → IsRising (cond b q.1 (map_up_to u m qs))
    at true r = a.0
    at false r = r

-- ---- a transaction, from the shards' maps to others

module _ (splits : List ℕ) (are : are_splits splits ≡ true) (f g : ℕ → KeyMap) where
  -- all shards' runs agree with the whole one, and keys of no shard have no value
  record Sides (nth : ℕ) (backs ws : List (ℕ × ℕ)) (m : KeyMap) (t : Trail) (xs : List ShardAct) : Type 0 where
    first_rises : IsRising m
    rise : AllRise t
    shards : (n : ℕ) → n < shard_count splits → Side (InSpan splits n) (λ s. s == n) (f n) (g n) nth backs ws m t xs
    outside : Side (Nowhere splits) (λ s. false) [] [] nth backs ws m t xs

  -- some shards went back already, and others didn't, or need not
  record Between (k v : ℕ) (backs ws : List (ℕ × ℕ)) (m : KeyMap) (t : Trail) (xs : List ShardAct) : Type 0 where
    first_rises : IsRising m
    rise : AllRise t
    shards :
        (n : ℕ) → n < shard_count splits
        → Side (InSpan splits n) (λ s. s == n) (f n) (g n) k backs ws m (gone_to k v m t) xs ⊎ Side (InSpan splits n) (λ s. s == n) (f n) (g n) k backs ws m t xs
    outside : Side (Nowhere splits) (λ s. false) [] [] k backs ws m (gone_to k v m t) xs ⊎ Side (Nowhere splits) (λ s. false) [] [] k backs ws m t xs

  -- the acts that come give their answers, and lead to a map with the shards' last ones
  record Ends (acts : List DoneAct) (m : KeyMap) (t : Trail) : Type 0 where
    answers : acts_answers (numbered acts) m t ≡ answers_given acts
    shares : HasShares splits (acts_after (numbered acts) m t) g

  ends_none : (nth : ℕ) (backs ws : List (ℕ × ℕ)) (m : KeyMap) (t : Trail) → Sides nth backs ws m t [] → Ends [] m t
  ends_none nth backs ws m t s =
      record {
        answers = refl;
        shares =
            record {
              whole_rises = rising_now m t s.first_rises s.rise;
              shares_rise = λ n l. let d = s.shards n l in subst IsRising (sym d.kept.now ∙ d.ends) (rising_ops (f n) d.held d.rises);
              values = λ n k l i. let d = s.shards n l in d.now k i ∙ ap (map_get k) d.ends;
              nowhere = λ k none. s.outside.now k none ∙ ap (map_get k) s.outside.ends;
            };
      }

  -- one that goes back first
  ends_back : (k v : ℕ) (acts : List DoneAct) (m : KeyMap) (t : Trail) → Ends acts m (gone_to k v m t) → Ends ((k, GoesBack v, None) ∷ acts) m t
  ends_back k v acts m t e = record { answers = e.answers; shares = e.shares }

  settles : (k v : ℕ) (backs ws : List (ℕ × ℕ)) (m : KeyMap) (t : Trail) (xs : List ShardAct) → Between k v backs ws m t xs → AtBack k v backs → list_any (λ w. nat_lt v w.1) ws ≡ false → Sides k backs ws m (gone_to k v m t) xs
  settles k v backs ws m t xs b at none =
      record {
        first_rises = b.first_rises;
        rise = (rising_up_to v m t b.first_rises b.rise, b.rise);
        shards = λ n l. ⊎_elim (λ s. s) (λ s. stays (InSpan splits n) (λ s. s == n) (f n) (g n) k v backs ws m t (gone_to k v m t) xs s at none (goes_first k v m t)) (b.shards n l);
        outside = ⊎_elim (λ s. s) (λ s. stays (Nowhere splits) (λ s. false) [] [] k v backs ws m t (gone_to k v m t) xs s at none (goes_first k v m t)) b.outside;
      }

  -- a shard goes back
  goes_there : (s k v : ℕ) (backs ws : List (ℕ × ℕ)) (m : KeyMap) (t : Trail) (xs : List ShardAct) → Between k v backs ws m t (BackOn s k v ∷ xs) → AtBack k v backs → Between k v backs (kept_on s v ws) m t xs
  goes_there s k v backs ws m t xs b at =
      record {
        first_rises = b.first_rises;
        rise = b.rise;
        shards = λ n l. one n (b.shards n l) (cases_Bool (s == n));
        outside =
            ⊎_elim
            (λ d. inl (skips (Nowhere splits) (λ s. false) [] [] k v backs ws m (gone_to k v m t) (gone_to k v m t) s xs d refl))
            (λ d. inr (skips (Nowhere splits) (λ s. false) [] [] k v backs ws m t t s xs d refl))
            b.outside;
      }
    where
      one :
          (n : ℕ)
          → Side (InSpan splits n) (λ s. s == n) (f n) (g n) k backs ws m (gone_to k v m t) (BackOn s k v ∷ xs) ⊎ Side (InSpan splits n) (λ s. s == n) (f n) (g n) k backs ws m t (BackOn s k v ∷ xs)
          → ((s == n) ≡ true) ⊎ ((s == n) ≡ false)
          → Side (InSpan splits n) (λ s. s == n) (f n) (g n) k backs (kept_on s v ws) m (gone_to k v m t) xs ⊎ Side (InSpan splits n) (λ s. s == n) (f n) (g n) k backs (kept_on s v ws) m t xs
      one n (inl d) (inl e) = inl (enters (InSpan splits n) (λ s. s == n) (f n) (g n) k v backs ws m (gone_to k v m t) (gone_to k v m t) s xs d e at (goes_again k v m t at.lower))
      one n (inr d) (inl e) = inl (enters (InSpan splits n) (λ s. s == n) (f n) (g n) k v backs ws m t (gone_to k v m t) s xs d e at (goes_first k v m t))
      one n (inl d) (inr e) = inl (skips (InSpan splits n) (λ s. s == n) (f n) (g n) k v backs ws m (gone_to k v m t) (gone_to k v m t) s xs d e)
      one n (inr d) (inr e) = inr (skips (InSpan splits n) (λ s. s == n) (f n) (g n) k v backs ws m t t s xs d e)

  -- ---- act by act

  abbrev Goes : List ShardAct → Type 0
  Goes xs =
      (p : Progress) (m : KeyMap) (t : Trail) → goes_whole_from p xs ≡ true → p.back ≡ None → AllByRecursion (LiesIn splits) xs → Sides p.nth p.backs p.written m t xs → Ends (whole xs) m t

  abbrev GoesBehind : List ShardAct → Type 0
  GoesBehind xs =
      (p : Progress) (s v : ℕ) (m : KeyMap) (t : Trail) → goes_whole_from p xs ≡ true → p.back ≡ Some (s, v) → AtBack p.nth v p.backs → AllByRecursion (LiesIn splits) xs → Between p.nth v p.backs p.written m t xs
      → Ends (put_act (p.nth, GoesBack v, None) (whole xs)) m t

  op_goes : (p : Progress) (s k : ℕ) (o : Op) (a : Answer) (xs : List ShardAct) (m : KeyMap) (t : Trail) → goes_whole_from p (OnShard s k o a ∷ xs) ≡ true → AllByRecursion (LiesIn splits) (OnShard s k o a ∷ xs)
      → Sides p.nth p.backs p.written m t (OnShard s k o a ∷ xs) → Goes xs → Ends (whole (OnShard s k o a ∷ xs)) m t
  op_goes p s k o a xs m t e lies sides rest = subst (λ acts. Ends acts m t) (sym (op_stays p s k o a xs e)) ends
    where
      later : p.nth ≤ k
      later = (next_op p s k o a (first_follows p (OnShard s k o a) xs e).0).later

      now : IsRising (map_now m t)
      now = rising_now m t sides.first_rises sides.rise

      answered : op_answer o (map_now m t) ≡ a
      answered =
          (op_here (InSpan splits s) (λ i. i == s) (f s) (g s) p.nth p.backs p.written m t s k o a xs (sides.shards s (lies.0).0) (eq-eqb s s refl) (lies_only splits s o (lies.0).1) now later).0

      one : (n : ℕ) → n < shard_count splits → Side (InSpan splits n) (λ s. s == n) (f n) (g n) k p.backs (with_written s k (has_written o a) p.written) m ((k, op_after o (map_now m t)) ∷ t) xs
      one n l =
          ⊎_elim
          (λ h. (op_here (InSpan splits n) (λ s. s == n) (f n) (g n) p.nth p.backs p.written m t s k o a xs (sides.shards n l) h (lies_only splits n o (subst (λ i. lies_in splits i o ≡ true) (eqb-true s n h) (lies.0).1)) now later).1)
          (λ h. op_elsewhere (InSpan splits n) (λ s. s == n) (f n) (g n) p.nth p.backs p.written m t s k o a xs (sides.shards n l) h (lies_elsewhere splits n s o are l (lies.0).0 (lies.0).1 (λ q. both_ways (s == n) h (eq-eqb s n q))) later)
          (cases_Bool (s == n))

      next : Ends (whole xs) m ((k, op_after o (map_now m t)) ∷ t)
      next =
          rest (followed p (OnShard s k o a)) m ((k, op_after o (map_now m t)) ∷ t) (first_follows p (OnShard s k o a) xs e).1 refl lies.1
          (record {
            first_rises = sides.first_rises;
            rise = (rising_after o (map_now m t) now, sides.rise);
            shards = one;
            outside = op_elsewhere (Nowhere splits) (λ s. false) [] [] p.nth p.backs p.written m t s k o a xs sides.outside refl (lies_somewhere splits s o (lies.0).0 (lies.0).1) later;
          })

      ends : Ends ((k, Operates o, Some a) ∷ whole xs) m t
      ends =
          record {
            answers = ap (λ b. b ∷ acts_answers (numbered (whole xs)) m ((k, op_after o (map_now m t)) ∷ t)) answered ∙ ap (λ as_. a ∷ as_) next.answers;
            shares = next.shares;
          }

  -- a new going back
  back_goes : (p : Progress) (s k u : ℕ) (xs : List ShardAct) (m : KeyMap) (t : Trail) → goes_whole_from p (BackOn s k u ∷ xs) ≡ true → continues p s k u ≡ false → AllByRecursion (LiesIn splits) (BackOn s k u ∷ xs)
      → Sides p.nth p.backs p.written m t (BackOn s k u ∷ xs) → GoesBehind xs → Ends (whole (BackOn s k u ∷ xs)) m t
  back_goes p s k u xs m t e no_more lies sides rest =
      let q = followed p (BackOn s k u) in
      let r : (k, u) ∷ p.backs ≡ q.backs = sym (cond-false (continues p s k u) p.backs ((k, u) ∷ p.backs) no_more) in
      rest q s u m t (first_follows p (BackOn s k u) xs e).1 refl (subst (λ b. AtBack k u b) r here) lies.1
      (subst (λ b. Between k u b (kept_on s u p.written) m t xs) r (goes_there s k u ((k, u) ∷ p.backs) p.written m t xs between here))
    where
      new : NewBack p k u
      new = new_back p s k u (first_follows p (BackOn s k u) xs e).0 no_more

      parts : (nat_lt u k ≡ true) × (stands u p.backs ≡ true)
      parts = and_parts (nat_lt u k) (stands u p.backs) new.stood

      here : AtBack k u ((k, u) ∷ p.backs)
      here =
          record {
            stood = and_from (nat_le u u || nat_le k u) (stands u p.backs) (or_left (nat_le u u) (nat_le k u) (le-leb u u (le_refl u))) parts.1;
            gone = λ w s. (s, (gone_back k u p.backs w s).1);
            lower = lt-leb k u (ltb-true u k parts.0);
          }

      before_it : (w : ℕ) → stands w ((k, u) ∷ p.backs) ≡ true → stands w p.backs ≡ true
      before_it w s = (gone_back k u p.backs w s).0

      low : p.nth ≤ k
      low = let l = new.later in omega arith

      between : Between k u ((k, u) ∷ p.backs) p.written m t (BackOn s k u ∷ xs)
      between =
          record {
            first_rises = sides.first_rises;
            rise = sides.rise;
            shards = λ n l. inr (announced (InSpan splits n) (λ s. s == n) (f n) (g n) p.nth p.backs p.written m t k ((k, u) ∷ p.backs) (BackOn s k u ∷ xs) (sides.shards n l) low before_it);
            outside = inr (announced (Nowhere splits) (λ s. false) [] [] p.nth p.backs p.written m t k ((k, u) ∷ p.backs) (BackOn s k u ∷ xs) sides.outside low before_it);
          }

  -- the same one on one more shard
  back_goes_on : (p : Progress) (v s : ℕ) (xs : List ShardAct) (m : KeyMap) (t : Trail) → AtBack p.nth v p.backs → GoesBehind xs → AllByRecursion (LiesIn splits) xs → (k u : ℕ) → p.nth ≡ k → v ≡ u
      → goes_whole_from p (BackOn s k u ∷ xs) ≡ true → continues p s k u ≡ true → Between p.nth v p.backs p.written m t (BackOn s k u ∷ xs) → Ends (put_act (p.nth, GoesBack v, None) (whole (BackOn s k u ∷ xs))) m t
  back_goes_on p v s xs m t at rest lies k u same_number same_place =
      subst (λ k. Goal k u) same_number (subst (λ u. Goal p.nth u) same_place there)
    where
      Goal : ℕ → ℕ → Type 0
      Goal k u = goes_whole_from p (BackOn s k u ∷ xs) ≡ true → continues p s k u ≡ true → Between p.nth v p.backs p.written m t (BackOn s k u ∷ xs) → Ends (put_act (p.nth, GoesBack v, None) (whole (BackOn s k u ∷ xs))) m t

      there : Goal p.nth v
      there e more b =
          let q = followed p (BackOn s p.nth v) in
          let r : p.backs ≡ q.backs = sym (cond-true (continues p s p.nth v) p.backs ((p.nth, v) ∷ p.backs) more) in
          subst (λ acts. Ends acts m t) (sym (twice p.nth v (whole xs)))
          (rest q s v m t (first_follows p (BackOn s p.nth v) xs e).1 refl (subst (λ c. AtBack p.nth v c) r at) lies
          (subst (λ c. Between p.nth v c (kept_on s v p.written) m t xs) r (goes_there s p.nth v p.backs p.written m t xs b at)))

  whole_back : (b : Option (ℕ × ℕ)) (ws : List (ℕ × ℕ)) (s v : ℕ) → b ≡ Some (s, v) → is_back_whole b ws ≡ true → list_any (λ w. nat_lt v w.1) ws ≡ false
  whole_back b ws s v e h = not_true (list_any (λ w. nat_lt v w.1) ws) (sym (ap (λ o. is_back_whole o ws) e) ∙ h)

  -- where the next act is another one, all shards went back
  then_others : (k v : ℕ) (acts : List DoneAct) (m : KeyMap) (t : Trail) → is_with_next (k, GoesBack v, None) acts ≡ false → Ends acts m (gone_to k v m t) → Ends (put_act (k, GoesBack v, None) acts) m t
  then_others k v acts m t other e =
      subst (λ as_. Ends as_ m t) (sym (cond-false (is_with_next (k, GoesBack v, None) acts) acts ((k, GoesBack v, None) ∷ acts) other)) (ends_back k v acts m t e)

  continued : (b : Option (ℕ × ℕ)) (s v i u : ℕ) → b ≡ Some (s, v) → goes_on_back b i u ≡ true → v ≡ u
  continued b s v i u e h = eqb-true v u (and_parts (nat_lt s i) (v == u) (sym (ap (λ o. goes_on_back o i u) e) ∙ h)).1

  goes : (xs : List ShardAct) → Goes xs × GoesBehind xs
  goes [] = (
    λ p m t e none lies sides. ends_none p.nth p.backs p.written m t sides,
    λ p s v m t e back at lies b.
        then_others p.nth v [] m t refl (ends_none p.nth p.backs p.written m (gone_to p.nth v m t) (settles p.nth v p.backs p.written m t [] b at (whole_back p.back p.written s v back e))),
  )
  goes (OnShard i k o a ∷ xs) =
      let rest = goes xs in (
        λ p m t e none lies sides. op_goes p i k o a xs m t e lies sides rest.0,
        λ p s v m t e back at lies b.
            let next = next_op p i k o a (first_follows p (OnShard i k o a) xs e).0 in
            let sides = settles p.nth v p.backs p.written m t (OnShard i k o a ∷ xs) b at (whole_back p.back p.written s v back next.is_whole) in
            then_others p.nth v (whole (OnShard i k o a ∷ xs)) m t (ap (is_with_next (p.nth, GoesBack v, None)) (op_stays p i k o a xs e)) (op_goes p i k o a xs m (gone_to p.nth v m t) e lies sides rest.0),
      )
  goes (BackOn i k u ∷ xs) =
      let rest = goes xs in (
        λ p m t e none lies sides. back_goes p i k u xs m t e (ap (λ b. (k == p.nth) && goes_on_back b i u) none ∙ and_no (k == p.nth)) lies sides rest.1,
        λ p s v m t e back at lies b.
            ⊎_elim
            (λ (more : continues p i k u ≡ true).
            let c = and_parts (k == p.nth) (goes_on_back p.back i u) more in
            back_goes_on p v i xs m t at rest.1 lies.1 k u (sym (eqb-true k p.nth c.0)) (continued p.back s v i u back c.1) e more b)
            (λ (no_more : continues p i k u ≡ false).
            let new = new_back p i k u (first_follows p (BackOn i k u) xs e).0 no_more in
            let sides = settles p.nth v p.backs p.written m t (BackOn i k u ∷ xs) b at (whole_back p.back p.written s v back new.is_whole) in
            then_others p.nth v (whole (BackOn i k u ∷ xs)) m t (before_back (p.nth, GoesBack v, None) k u (whole xs) (λ q. let l = new.later in omega arith))
            (back_goes p i k u xs m (gone_to p.nth v m t) e no_more lies sides rest.1))
            (cases_Bool (continues p i k u)),
      )

-- ---- one transaction

part_is : (n : ℕ) (xs : List ShardAct) → part_on n xs ≡ part_by (λ s. s == n) xs
part_is n [] = refl
part_is n (OnShard s k o a ∷ xs) = ap (λ l. cond (s == n) ((k, Operates o, Some a) ∷ l) l) (part_is n xs)
part_is n (BackOn s k u ∷ xs) = ap (λ l. cond (s == n) ((k, GoesBack u, None) ∷ l) l) (part_is n xs)

part_none : (xs : List ShardAct) → part_by (λ s. false) xs ≡ []
part_none [] = refl
part_none (OnShard s k o a ∷ xs) = part_none xs
part_none (BackOn s k u ∷ xs) = part_none xs

abbrev shares_after : List ShardAct → (ℕ → KeyMap) → ℕ → KeyMap
shares_after t f n = acts_after (numbered (part_on n t)) (f n) []

one_transaction :
    (splits : List ℕ) (m : KeyMap) (f : ℕ → KeyMap) (t : List ShardAct) → are_splits splits ≡ true → HasShares splits m f → AllByRecursion (LiesIn splits) t → goes_whole t ≡ true
    → ((n : ℕ) → n < shard_count splits → acts_answers (numbered (part_on n t)) (f n) [] ≡ answers_given (part_on n t))
    → (acts_answers (numbered (whole t)) m [] ≡ answers_given (whole t)) × HasShares splits (acts_after (numbered (whole t)) m []) (shares_after t f)
one_transaction splits m f t are has lies e answers =
    let ends =
    (goes splits are f (shares_after t f) t).0 not_begun m [] e refl lies
    (record {
      first_rises = has.whole_rises;
      rise = tt;
      shards =
          λ n l.
          record {
            trail = [];
            held = [];
            rises = has.shares_rise n l;
            kept = kept_none (f n);
            low = tt;
            runs = tt;
            sorted = tt;
            noted = tt;
            answers = subst (λ ps. acts_answers (numbered ps) (f n) [] ≡ answers_given ps) (part_is n t) (answers n l);
            ends = ap (λ ps. acts_after (numbered ps) (f n) []) (sym (part_is n t));
            now = λ k i. has.values n k l i;
            back_to = λ u k i. has.values n k l i;
          };
      outside =
          record {
            trail = [];
            held = [];
            rises = tt;
            kept = kept_none [];
            low = tt;
            runs = tt;
            sorted = tt;
            noted = tt;
            answers = subst (λ ps. acts_answers (numbered ps) [] [] ≡ answers_given ps) (sym (part_none t)) refl;
            ends = ap (λ ps. acts_after (numbered ps) [] []) (part_none t);
            now = has.nowhere;
            back_to = λ u. has.nowhere;
          };
    }) in
    (ends.answers, ends.shares)

-- ---- one after another

abbrev shares_replayed : List (List ShardAct) → (ℕ → KeyMap) → ℕ → KeyMap
shares_replayed ts f n = replay_map (f n) (map numbered (map (part_on n) ts))

first_list : (a b : List Answer) (as_ bs : List (List Answer)) → a ∷ as_ ≡ b ∷ bs → (a ≡ b) × (as_ ≡ bs)
first_list a b as_ bs e = (cc, cc)

all_transactions :
    (splits : List ℕ) (ts : List (List ShardAct)) (m : KeyMap) (f : ℕ → KeyMap) → are_splits splits ≡ true → HasShares splits m f → AllByRecursion (λ t. AllByRecursion (LiesIn splits) t) ts → AllByRecursion (λ t. goes_whole t ≡ true) ts
    → ((n : ℕ) → n < shard_count splits → replay_answers (f n) (map numbered (map (part_on n) ts)) ≡ map answers_given (map (part_on n) ts))
    → (replay_answers m (map numbered (map whole ts)) ≡ map answers_given (map whole ts)) × HasShares splits (replay_map m (map numbered (map whole ts))) (shares_replayed ts f)
all_transactions splits [] m f are has lies e answers = (refl, has)
all_transactions splits (t ∷ ts) m f are has lies e answers =
    let first = one_transaction splits m f t are has lies.0 e.0 (λ n l. (first_list _ _ _ _ (answers n l)).0) in
    let rest = all_transactions splits ts (acts_after (numbered (whole t)) m []) (shares_after t f) are first.1 lies.1 e.1 (λ n l. (first_list _ _ _ _ (answers n l)).1) in (
      ap (λ a. a ∷ replay_answers (acts_after (numbered (whole t)) m []) (map numbered (map whole ts))) first.0 ∙ ap (λ as_. answers_given (whole t) ∷ as_) rest.0,
      rest.1,
    )

-- maps with the same shares are one
one_map : (splits : List ℕ) (m l : KeyMap) (f g : ℕ → KeyMap) → ((n : ℕ) → n < shard_count splits → f n ≡ g n) → HasShares splits m f → HasShares splits l g → m ≡ l
one_map splits m l f g e a b =
    same_map m l a.whole_rises b.whole_rises (λ k.
    ⊎_elim (λ w. let n = w.0 in a.values n k w.1 w.2 ∙ ap (map_get k) (e n w.1) ∙ sym (b.values n k w.1 w.2)) (λ none. a.nowhere k none ∙ sym (b.nowhere k none))
    (whose splits k (shard_count splits)))

pub replay_by_shards : ReplayByShards
replay_by_shards splits m last f g ts are has left lies e replays =
    let r = all_transactions splits ts m f are has lies e (λ n l. (replays n l).0) in
    (r.0, one_map splits (replay_map m (map numbered (map whole ts))) last (shares_replayed ts f) g (λ n l. (replays n l).1) r.1 left)
