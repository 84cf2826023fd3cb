-- What holds of the acts on each shard holds of all acts: their answers and their map, and that nobody is between an operation and its going back.
use Rattle.std.proofs.Common.{◌≡◌, ⊎_elim, refl, sym, ap, subst, ◌∙◌, ℕ, ◌<◌, true, false, cond, not, Bool, ◌&&◌, nat_lt, List, [], ◌∷◌, ◌++◌, ◌==◌, eqb-true, eq-eqb, append-nil}
use Rattle.std.specs.List.{AllByRecursion, filter}
use Rattle.std.proofs.lemmas.Bool.{both_ways, and_parts, cond-true, false_from_ne_true}
use Rattle.std.proofs.lemmas.List.Elements.{filter-append}
use Rattle.clv_base.specs.declared.names.TxId.{TxId}
use Rattle.clv_base.specs.Orders.{tx_same}
use Rattle.clv_base.specs.Maps.{KeyMap, map_get, op_answer, op_after}
use Rattle.clv_base.specs.Folding.{IsRising}
use Rattle.clv_base.specs.Shards.{shard_count, are_splits, in_span}
use Rattle.clv_base.specs.Sessions.{lies_in}
use Rattle.clv_base.proofs.Folding.{same_map, rising_after}
use Rattle.law_base.specs.Items.{AllLater}
use Rattle.law_base.proofs.Lists.{all_mono, all_push, all_filter, filters_swap}
use Rattle.serial_laws.specs.Shares.{ShardAct, OnShard, BackOn, is_on, LiesIn, HasShares}
use Rattle.serial_laws.proofs.ReplayByShards.SpansShareNoKey.{one_shard, whose}
use Rattle.serial_laws.proofs.ReplayByShards.OperationsOnSpans.{answers_agree, after_agree, after_elsewhere, lies_only, lies_elsewhere, lies_somewhere}
use Rattle.crash_laws.specs.Acts.{Act, is_beyond_by, is_beyond, held_by, held_with, done_on, map_after, AnswersBy, AnswersFrom, meets_at, Meet, NobodyBefore, NobodyBetween}
use Rattle.crash_laws.proofs.Acts.ActsByShards.{later_of_some}

-- those on a shard
abbrev pub on : ℕ → List Act → List Act
on n as_ = filter (λ a. is_on n a.done) as_

-- the shard of an act
abbrev pub shard_on : ShardAct → ℕ
shard_on (OnShard shard number op answer) = shard
shard_on (BackOn shard number upto) = shard

pub on_shard : (n : ℕ) (x : ShardAct) → is_on n x ≡ (shard_on x == n)
on_shard n (OnShard shard number op answer) = refl
on_shard n (BackOn shard number upto) = refl

-- its keys are its shard's, and there is that shard
abbrev pub IsThere : List ℕ → Act → Type 0
IsThere splits a = LiesIn splits a.done × (shard_on a.done < shard_count splits)

-- ---- on two shards none meet

pub meet_apart : (splits : List ℕ) (a b : Act) → are_splits splits ≡ true → LiesIn splits a.done → LiesIn splits b.done → Meet a b → shard_on a.done ≡ shard_on b.done
meet_apart splits a b s p q (k, x, y, w, z) = both a.done b.done p q x y
  where
    both : (u v : ShardAct) → LiesIn splits u → LiesIn splits v → meets_at u k ≡ true → meets_at v k ≡ true → shard_on u ≡ shard_on v
    both (OnShard i number op answer) (OnShard j number2 op2 answer2) l m e f = one_shard splits i j k s l.0 m.0 (lies_only splits i op l.1 k e) (lies_only splits j op2 m.1 k f)
    both (BackOn i number upto) v l m e f = absurd (both_ways false refl e)
    both (OnShard i number op answer) (BackOn j number2 upto) l m e f = absurd (both_ways false refl f)

-- ---- what the shards have of a map

shares_as : (splits : List ℕ) (m : KeyMap) (f g : ℕ → KeyMap) → ((n : ℕ) → n < shard_count splits → f n ≡ g n) → HasShares splits m f → HasShares splits m g
shares_as splits m f g e h = record {
  whole_rises = h.whole_rises;
  shares_rise = λ n i. subst IsRising (e n i) (h.shares_rise n i);
  values = λ n k i s. h.values n k i s ∙ ap (map_get k) (e n i);
  nowhere = h.nowhere;
}

-- maps with the same shares are one
one_map : (splits : List ℕ) (m l : KeyMap) (f : ℕ → KeyMap) → HasShares splits m f → HasShares splits l f → m ≡ l
one_map splits m l f a b =
    same_map m l a.whole_rises b.whole_rises (λ k.
    ⊎_elim (λ w. let n = w.0 in a.values n k w.1 w.2 ∙ sym (b.values n k w.1 w.2)) (λ none. a.nowhere k none ∙ sym (b.nowhere k none))
    (whose splits k (shard_count splits)))

module _ (splits : List ℕ) (are : are_splits splits ≡ true) where
  -- an operation changes its shard's share alone
  abbrev share_with : ShardAct → ℕ → KeyMap → KeyMap
  share_with x n m = cond (is_on n x) (done_on x m) m

  share_on : (x : ShardAct) (n : ℕ) (m : KeyMap) → is_on n x ≡ true → share_with x n m ≡ done_on x m
  share_on x n m e = cond-true (is_on n x) (done_on x m) m e

  one_share : (m : KeyMap) (f : ℕ → KeyMap) (x : ShardAct) → LiesIn splits x → HasShares splits m f → HasShares splits (done_on x m) (λ n. share_with x n (f n))
  one_share m f (BackOn i number upto) l h = shares_as splits m f (λ n. share_with (BackOn i number upto) n (f n)) (λ n j. both (i == n) (f n)) h
    where
      both : (b : Bool) (z : KeyMap) → z ≡ cond b z z
      both true z = refl
      both false z = refl
  one_share m f (OnShard i number op answer) l h = record {
    whole_rises = rising_after op m h.whole_rises;
    shares_rise = λ n j. rises (i == n) n j;
    values = λ n k j s. values n k j s (i == n) refl;
    nowhere = λ k none. after_elsewhere (λ k. (n : ℕ) → n < shard_count splits → in_span splits n k ≡ false) op m (lies_somewhere splits i op l.0 l.1) k none ∙ h.nowhere k none;
  }
    where
      rises : (b : Bool) (n : ℕ) → n < shard_count splits → IsRising (cond b (op_after op (f n)) (f n))
      rises true n j = rising_after op (f n) (h.shares_rise n j)
      rises false n j = h.shares_rise n j

      values : (n k : ℕ) → n < shard_count splits → in_span splits n k ≡ true → (b : Bool) → (i == n) ≡ b → map_get k (op_after op m) ≡ map_get k (cond b (op_after op (f n)) (f n))
      values n k j s true q = after_agree (λ k. in_span splits n k ≡ true) op m (f n) (lies_only splits n op (subst (λ z. lies_in splits z op ≡ true) (eqb-true i n q) l.1)) (λ k z. h.values n k j z) k s
      values n k j s false q = after_elsewhere (λ k. in_span splits n k ≡ true) op m (lies_elsewhere splits n i op are j l.0 l.1 (λ z. both_ways _ q (eq-eqb i n z))) k s ∙ h.values n k j s

  -- after operations each shard has what its own make of its share
  one_more : (x : Act) (xs : List Act) (n : ℕ) (m : KeyMap) → map_after (share_with x.done n m) (on n xs) ≡ map_after m (on n (x ∷ xs))
  one_more x xs n m = at (is_on n x.done)
    where
      at : (b : Bool) → map_after (cond b (done_on x.done m) m) (on n xs) ≡ map_after m (cond b (x ∷ on n xs) (on n xs))
      at true = refl
      at false = refl

  shares_after : (xs : List Act) (m : KeyMap) (f : ℕ → KeyMap) → AllByRecursion (λ a. LiesIn splits a.done) xs → HasShares splits m f → HasShares splits (map_after m xs) (λ n. map_after (f n) (on n xs))
  shares_after [] m f a h = h
  shares_after (x ∷ xs) m f a h =
      shares_as splits (map_after (done_on x.done m) xs) (λ n. map_after (share_with x.done n (f n)) (on n xs)) (λ n. map_after (f n) (on n (x ∷ xs))) (λ n i. one_more x xs n (f n))
      (shares_after xs (done_on x.done m) (λ n. share_with x.done n (f n)) a.1 (one_share m f x.done a.0 h))

  -- ---- what holds after one more act, on its shard and on others

  same_off : (tx : TxId) (shard upto n : ℕ) → (shard == n) ≡ false → (a : Act) → is_on n a.done ≡ true → not (is_beyond tx shard upto a) ≡ true
  same_off tx shard upto n e a q = ap not (false_from_ne_true _ (λ b. both_ways _ e (here a.done q b)))
    where
      here : (x : ShardAct) → is_on n x ≡ true → is_beyond_by (tx_same a.tx tx) shard upto x ≡ true → (shard == n) ≡ true
      here (OnShard i number op answer) z b =
          let p = and_parts (tx_same a.tx tx) (i == shard) (and_parts (tx_same a.tx tx && (i == shard)) (nat_lt upto number) b).0 in
          eq-eqb shard n (sym (eqb-true i shard p.1) ∙ eqb-true i n z)
      here (BackOn i number to) z b = absurd (both_ways false refl b)

  all_pass : (q : Act → Bool) (xs : List Act) → AllByRecursion (λ a. q a ≡ true) xs → filter q xs ≡ xs
  all_pass q [] a = refl
  all_pass q (x ∷ xs) a = cond-true (q x) (x ∷ filter q xs) (filter q xs) a.0 ∙ ap (λ l. x ∷ l) (all_pass q xs a.1)

  are_on : (n : ℕ) (xs : List Act) → AllByRecursion (λ a. is_on n a.done ≡ true) (on n xs)
  are_on n [] = tt
  are_on n (x ∷ xs) = at (is_on n x.done) refl (are_on n xs)
    where
      at : (b : Bool) → is_on n x.done ≡ b → AllByRecursion (λ a. is_on n a.done ≡ true) (on n xs) → AllByRecursion (λ a. is_on n a.done ≡ true) (cond b (x ∷ on n xs) (on n xs))
      at true e k = (e, k)
      at false e k = k

  held_on : (n : ℕ) (held : List Act) (a : Act) (x : ShardAct) → a.done ≡ x → is_on n x ≡ true → on n (held_by held a x) ≡ held_by (on n held) a x
  held_on n held a (OnShard i number op answer) q e =
      filter-append (λ b. is_on n b.done) held (a ∷ []) ∙ ap (λ b. on n held ++ cond b (a ∷ []) []) (ap (is_on n) q ∙ e)
  held_on n held a (BackOn i number upto) q e = filters_swap (λ b. is_on n b.done) (λ b. not (is_beyond a.tx i upto b)) held

  held_off : (n : ℕ) (held : List Act) (a : Act) (x : ShardAct) → a.done ≡ x → is_on n x ≡ false → on n (held_by held a x) ≡ on n held
  held_off n held a (OnShard i number op answer) q e =
      filter-append (λ b. is_on n b.done) held (a ∷ []) ∙ ap (λ b. on n held ++ cond b (a ∷ []) []) (ap (is_on n) q ∙ e) ∙ append-nil (on n held)
  held_off n held a (BackOn i number upto) q e =
      filters_swap (λ b. is_on n b.done) (λ b. not (is_beyond a.tx i upto b)) held
      ∙ all_pass (λ b. not (is_beyond a.tx i upto b)) (on n held) (all_mono _ _ (λ b k. same_off a.tx i upto n e b k) (on n held) (are_on n held))

  lie_held : (held : List Act) (a : Act) (x : ShardAct) → LiesIn splits a.done → AllByRecursion (λ b. LiesIn splits b.done) held → AllByRecursion (λ b. LiesIn splits b.done) (held_by held a x)
  lie_held held a (OnShard i number op answer) l k = all_push (λ b. LiesIn splits b.done) held a k l
  lie_held held a (BackOn i number upto) l k = all_mono _ _ (λ b p. p.0) _ (all_filter (λ b. LiesIn splits b.done) (λ b. not (is_beyond a.tx i upto b)) held k)

  -- ---- answers

  module _ (m last : KeyMap) (f g : ℕ → KeyMap) (first : HasShares splits m f) (ends : HasShares splits last g) where
    -- each shard's acts answer, and lead to its share of the last map
    abbrev EachAnswers : List Act → List Act → Type 0
    EachAnswers held as_ = (n : ℕ) → n < shard_count splits → AnswersFrom (f n) (on n held) (on n as_) (g n)

    answer : (held : List Act) (a : Act) (as_ : List Act) (x : ShardAct) → a.done ≡ x → LiesIn splits x → AllByRecursion (λ b. LiesIn splits b.done) held → EachAnswers held (a ∷ as_) → AnswersBy (map_after m held) x
    answer held a as_ (BackOn i number upto) q l lie each = tt
    answer held a as_ (OnShard i number op ans) q l lie each =
        let h = shares_after held m f lie first in
        let own = subst (λ b. AnswersFrom (f i) (on i held) (cond b (a ∷ on i as_) (on i as_)) (g i)) (ap (is_on i) q ∙ eq-eqb i i refl) (each i l.0) in
        let here : ans ≡ op_answer op (map_after (f i) (on i held)) = subst (AnswersBy (map_after (f i) (on i held))) q own.0 in
        here ∙ sym (answers_agree (λ k. in_span splits i k ≡ true) op (map_after m held) (map_after (f i) (on i held)) h.whole_rises (h.shares_rise i l.0) (lies_only splits i op l.1) (λ k s. h.values i k l.0 s))

    next : (held : List Act) (a : Act) (as_ : List Act) → EachAnswers held (a ∷ as_) → EachAnswers (held_with held a) as_
    next held a as_ each n i = at (is_on n a.done) refl (each n i)
      where
        at : (b : Bool) → is_on n a.done ≡ b → AnswersFrom (f n) (on n held) (cond b (a ∷ on n as_) (on n as_)) (g n) → AnswersFrom (f n) (on n (held_by held a a.done)) (on n as_) (g n)
        at true e k = subst (λ l. AnswersFrom (f n) l (on n as_) (g n)) (sym (held_on n held a a.done refl e)) k.1
        at false e k = subst (λ l. AnswersFrom (f n) l (on n as_) (g n)) (sym (held_off n held a a.done refl e)) k

    pub answers_all : (held as_ : List Act) → AllByRecursion (λ b. LiesIn splits b.done) held → AllByRecursion (λ b. LiesIn splits b.done) as_ → EachAnswers held as_ → AnswersFrom m held as_ last
    answers_all held [] lie there each = one_map splits (map_after m held) last g (shares_as splits (map_after m held) (λ n. map_after (f n) (on n held)) g each (shares_after held m f lie first)) ends
    answers_all held (a ∷ as_) lie there each =
        (answer held a as_ a.done refl there.0 lie each, answers_all (held_with held a) as_ (lie_held held a a.done there.0 lie) there.1 (next held a as_ each))

  -- ---- nobody is between

  abbrev EachBetween : List Act → List Act → Type 0
  EachBetween so_far as_ = (n : ℕ) → n < shard_count splits → NobodyBetween (on n so_far) (on n as_)

  is_there : (n : ℕ) (x : ShardAct) → shard_on x ≡ n → is_on n x ≡ true
  is_there n x e = on_shard n x ∙ eq-eqb (shard_on x) n e

  before : (so_far : List Act) (a : Act) (as_ : List Act) (x : ShardAct) → a.done ≡ x → shard_on x < shard_count splits → AllByRecursion (λ b. LiesIn splits b.done) so_far → EachBetween so_far (a ∷ as_) → NobodyBefore so_far a.tx x
  before so_far a as_ (OnShard i number op ans) q l lie each = tt
  before so_far a as_ (BackOn i number upto) q l lie each =
      let own = subst (λ b. NobodyBetween (on i so_far) (cond b (a ∷ on i as_) (on i as_))) (ap (is_on i) q ∙ eq-eqb i i refl) (each i l) in
      let here : AllLater (λ b c. is_beyond a.tx i upto b ≡ true → Meet b c → b.tx ≡ c.tx) (on i so_far) = subst (NobodyBefore (on i so_far) a.tx) q own.0 in
      later_of_some (λ b. LiesIn splits b.done) (λ b c. is_beyond a.tx i upto b ≡ true → Meet b c → b.tx ≡ c.tx) (λ b. is_on i b.done)
      (λ b c p r o k t. absurd (both_ways _ o (beyond_on b k)))
      (λ b c p r o k t. absurd (both_ways _ o (is_there i c.done (sym (meet_apart splits b c are p r t) ∙ eqb-true (shard_on b.done) i (sym (on_shard i b.done) ∙ beyond_on b k)))))
      so_far lie here
    where
      beyond_on : (b : Act) → is_beyond a.tx i upto b ≡ true → is_on i b.done ≡ true
      beyond_on b k = at b.done k
        where
          at : (z : ShardAct) → is_beyond_by (tx_same b.tx a.tx) i upto z ≡ true → is_on i z ≡ true
          at (OnShard j number op ans) e = (and_parts (tx_same b.tx a.tx) (j == i) (and_parts (tx_same b.tx a.tx && (j == i)) (nat_lt upto number) e).0).1
          at (BackOn j number to) e = absurd (both_ways false refl e)

  after_one : (so_far : List Act) (a : Act) (as_ : List Act) → EachBetween so_far (a ∷ as_) → EachBetween (so_far ++ a ∷ []) as_
  after_one so_far a as_ each n i = subst (λ l. NobodyBetween l (on n as_)) (sym (filter-append (λ b. is_on n b.done) so_far (a ∷ []))) (at (is_on n a.done) (each n i))
    where
      at : (b : Bool) → NobodyBetween (on n so_far) (cond b (a ∷ on n as_) (on n as_)) → NobodyBetween (on n so_far ++ cond b (a ∷ []) []) (on n as_)
      at true k = k.1
      at false k = subst (λ l. NobodyBetween l (on n as_)) (sym (append-nil (on n so_far))) k

  pub between_all : (so_far as_ : List Act) → AllByRecursion (λ b. LiesIn splits b.done) so_far → AllByRecursion (IsThere splits) as_ → EachBetween so_far as_ → NobodyBetween so_far as_
  between_all so_far [] lie there each = tt
  between_all so_far (a ∷ as_) lie there each =
      (before so_far a as_ a.done refl (there.0).1 lie each, between_all (so_far ++ a ∷ []) as_ (all_push (λ b. LiesIn splits b.done) so_far a lie (there.0).0) there.1 (after_one so_far a as_ each))
