-- Rings, one more at the end or one of them changed.
use Rattle.std.proofs.Common.{◌≡◌, refl, sym, ap, ◌∙◌, subst, Bool, false, ℕ, ◌+◌, ◌<◌, List, [], ◌∷◌, ◌++◌, length, get_or, set, arith, length-append, length-set, append-nil, get_or-set_same, get_or-set_other}
use Rattle.std.proofs.lemmas.List.{get_or_append_left, get_or_push, get_or_read}
use Rattle.std.proofs.lemmas.Bool.{false≢true}
use Rattle.std.specs.Bool.{Decides}
use Rattle.law_base.proofs.Lists.{pushed_each}
use native.Mathlib.Decide.{ℕ_discrete}
use mathlib.Core.Logic.{dite}
use Rattle.rtrb.specs.Ring.{sent, received, known_items, IsPair, SameProducer, SameConsumer}
use Rattle.rtrb.specs.declared.producer.Producer.{Producer}
use Rattle.rtrb.specs.declared.consumer.Consumer.{Consumer}
use Rattle.live_streams.specs.Rings.{AreNew, AreFronts, AreAllTaken, SameMakers, SameTakers}
use Rattle.live_streams.specs.Same.{same_consumer, same_consumers, same_producer, same_producers}

-- what holds at a place of a list holds there with one of them changed
changed : {X : Type 0} (P : ℕ → X → Type 0) (xs : List X) (x : X) (n k : ℕ) (d : X) → n < length xs → ((k ≡ n → ⊥) → P k (get_or xs k d)) → P n x → P k (get_or (set xs n x) k d)
changed P xs x n k d low each new = dite (ℕ_discrete k n)
    (λ same. subst (λ (i : ℕ). P i (get_or (set xs n x) i d)) (sym same) (subst (λ (y : _). P n y) (sym (get_or-set_same xs n x d low)) new))
    (λ other. subst (λ (y : _). P k y) (sym (get_or-set_other xs n k x d other)) (each other))

none_more : {T : Type 0} (got known all : List T) → got ++ known ≡ all → length known ≡ 0 → got ≡ all
none_more got [] all is none = sym (append-nil got) ∙ is
none_more got (x ∷ known) all is none = absurd (omega arith)

module _ {T A P : Type 0} where
  same_pair : (p q : Producer T A P) (c e : Consumer T A P) → q ≡ p → e ≡ c → IsPair p c → IsPair q e
  same_pair p q c e one other pair = subst (λ (x : Producer T A P). IsPair x e) (sym one) (subst (λ (y : Consumer T A P). IsPair p y) (sym other) pair)

  -- ---- rings that are made

  pub none_new : (makers : List (Producer T A P)) (takers : List (Consumer T A P)) → makers ≡ [] → takers ≡ [] → AreNew 0 makers takers
  none_new makers takers none none_too = record {
    makers_are = ap length none;
    takers_are = ap length none_too;
    pairs = λ k p c l. absurd (omega arith);
    none_sent = λ k p l. absurd (omega arith);
    none_received = λ k c l. absurd (omega arith);
  }

  one_more_new : (makers : List (Producer T A P)) (takers : List (Consumer T A P)) (n : ℕ) (p : Producer T A P) (c : Consumer T A P) → AreNew n makers takers → IsPair p c → sent p ≡ [] → received c ≡ []
      → AreNew (n + 1) (makers ++ p ∷ []) (takers ++ c ∷ [])
  one_more_new makers takers n p c new pair none none_too = record {
    makers_are = length-append makers (p ∷ []) ∙ ap (λ m. m + 1) new.makers_are;
    takers_are = length-append takers (c ∷ []) ∙ ap (λ m. m + 1) new.takers_are;
    pairs = λ k d e l. dite (ℕ_discrete k n)
        (λ same. same_pair p (get_or (makers ++ p ∷ []) k d) c (get_or (takers ++ c ∷ []) k e) (get_or_push makers p d k (new.makers_are ∙ sym same)) (get_or_push takers c e k (new.takers_are ∙ sym same)) pair)
        (λ other. let low : k < n = omega arith in let m = new.makers_are in let t = new.takers_are in
        same_pair (get_or makers k d) (get_or (makers ++ p ∷ []) k d) (get_or takers k e) (get_or (takers ++ c ∷ []) k e)
        (get_or_append_left makers (p ∷ []) d k (omega arith)) (get_or_append_left takers (c ∷ []) e k (omega arith)) (new.pairs k d e low));
    none_sent = pushed_each (λ i q. sent q ≡ []) makers p n new.makers_are new.none_sent none;
    none_received = pushed_each (λ i t. received t ≡ []) takers c n new.takers_are new.none_received none_too;
  }

  pub pushed_new : (makers makers' : List (Producer T A P)) (takers takers' : List (Consumer T A P)) (n : ℕ) (p : Producer T A P) (c : Consumer T A P) → AreNew n makers takers → makers' ≡ makers ++ p ∷ [] → takers' ≡ takers ++ c ∷ []
      → IsPair p c → sent p ≡ [] → received c ≡ [] → AreNew (n + 1) makers' takers'
  pushed_new makers makers' takers takers' n p c new one other pair none none_too =
      subst (λ (ms : List (Producer T A P)). AreNew (n + 1) ms takers') (sym one) (subst (λ (ts : List (Consumer T A P)). AreNew (n + 1) (makers ++ p ∷ []) ts) (sym other) (one_more_new makers takers n p c new pair none none_too))

  -- ---- rings that are looked at

  pub same_makers : (makers : List (Producer T A P)) → SameMakers makers makers
  same_makers makers = record { len = refl; same = λ k d l. same_producer (get_or makers k d); sent_is = λ k d l. refl }

  pub same_takers : (takers : List (Consumer T A P)) → SameTakers takers takers
  same_takers takers = record { len = refl; same = λ k d l. same_consumer (get_or takers k d); received_is = λ k d l. refl }

  pub looked_maker : (old makers : List (Producer T A P)) (n : ℕ) (p q : Producer T A P) → SameMakers old makers → n < length makers → p ≡ get_or makers n p → SameProducer p q → sent q ≡ sent p → SameMakers old (set makers n q)
  looked_maker old makers n p q so low read same still =
      let is : (d : Producer T A P) → p ≡ get_or makers n d = λ d. get_or_read makers n p low read d in
      let within : n < length old = let e = so.len in omega arith in
      record {
        len = length-set makers n q ∙ so.len;
        same = λ k d l. changed (λ i x. SameProducer (get_or old i d) x) makers q n k d low (λ other. so.same k d l)
            (same_producers (get_or old n d) p q (subst (λ (x : Producer T A P). SameProducer (get_or old n d) x) (sym (is d)) (so.same n d within)) same);
        sent_is = λ k d l. changed (λ i x. sent x ≡ sent (get_or old i d)) makers q n k d low (λ other. so.sent_is k d l) (still ∙ (ap (λ x. sent x) (is d) ∙ so.sent_is n d within));
      }

  pub looked_taker : (old takers : List (Consumer T A P)) (n : ℕ) (c e : Consumer T A P) → SameTakers old takers → n < length takers → c ≡ get_or takers n c → SameConsumer c e → received e ≡ received c → SameTakers old (set takers n e)
  looked_taker old takers n c e so low read same still =
      let is : (d : Consumer T A P) → c ≡ get_or takers n d = λ d. get_or_read takers n c low read d in
      let within : n < length old = let e = so.len in omega arith in
      record {
        len = length-set takers n e ∙ so.len;
        same = λ k d l. changed (λ i x. SameConsumer (get_or old i d) x) takers e n k d low (λ other. so.same k d l)
            (same_consumers (get_or old n d) c e (subst (λ (x : Consumer T A P). SameConsumer (get_or old n d) x) (sym (is d)) (so.same n d within)) same);
        received_is = λ k d l. changed (λ i x. received x ≡ received (get_or old i d)) takers e n k d low (λ other. so.received_is k d l) (still ∙ (ap (λ x. received x) (is d) ∙ so.received_is n d within));
      }

  -- nothing is left in one more
  pub taken_too : (makers : List (Producer T A P)) (takers : List (Consumer T A P)) (n : ℕ) (q : Producer T A P) (e : Consumer T A P) → n < length makers → n < length takers → AreAllTaken n makers takers → received e ≡ sent q
      → AreAllTaken (n + 1) (set makers n q) (set takers n e)
  taken_too makers takers n q e low low' taken is k d f l = dite (ℕ_discrete k n)
      (λ same. subst (λ (i : ℕ). received (get_or (set takers n e) i f) ≡ sent (get_or (set makers n q) i d)) (sym same) (ap (λ x. received x) (get_or-set_same takers n e f low') ∙ (is ∙ sym (ap (λ x. sent x) (get_or-set_same makers n q d low)))))
      (λ other. ap (λ x. received x) (get_or-set_other takers n k e f other) ∙ (taken k d f (omega arith) ∙ sym (ap (λ x. sent x) (get_or-set_other makers n k q d other))))

  -- of one more a front was taken
  pub front_too : (makers : List (Producer T A P)) (takers : List (Consumer T A P)) (n : ℕ) (q : Producer T A P) (e : Consumer T A P) → n < length makers → n < length takers → AreFronts n makers takers → received e ++ known_items e ≡ sent q
      → AreFronts (n + 1) (set makers n q) (set takers n e)
  front_too makers takers n q e low low' fronts fifo k d f l = dite (ℕ_discrete k n)
      (λ same. subst (λ (i : ℕ). (rest : List T) × (sent (get_or (set makers n q) i d) ≡ received (get_or (set takers n e) i f) ++ rest)) (sym same)
      (known_items e, ap (λ x. sent x) (get_or-set_same makers n q d low) ∙ (sym fifo ∙ ap (λ x. received x ++ known_items e) (sym (get_or-set_same takers n e f low')))))
      (λ other. let had = fronts k d f (omega arith) in
      (had.0, ap (λ x. sent x) (get_or-set_other makers n k q d other) ∙ (had.1 ∙ ap (λ x. received x ++ had.0) (sym (get_or-set_other takers n k e f other)))))

  -- where nothing is left in one more, it is told as before whether something is left in any
  pub none_left : (makers : List (Producer T A P)) (takers : List (Consumer T A P)) (n : ℕ) (q : Producer T A P) (e : Consumer T A P) (all : Bool) → n < length makers → n < length takers → Decides all (AreAllTaken n makers takers) → received e ≡ sent q
      → Decides all (AreAllTaken (n + 1) (set makers n q) (set takers n e))
  none_left makers takers n q e all low low' taken is = (
    λ yes. taken_too makers takers n q e low low' (taken.0 yes) is,
    λ more. taken.1 (λ k d f l. let other : k ≡ n → ⊥ = omega arith in
        sym (ap (λ x. received x) (get_or-set_other takers n k e f other)) ∙ (more k d f (omega arith) ∙ ap (λ x. sent x) (get_or-set_other makers n k q d other))),
  )

  -- all that was put into a ring was taken, as none is known to be in it
  pub all_of : (q : Producer T A P) (e : Consumer T A P) → received e ++ known_items e ≡ sent q → length (known_items e) ≡ 0 → received e ≡ sent q
  all_of q e fifo none = none_more (received e) (known_items e) (sent q) fifo none

  -- something is left in one of them
  pub left_in : (makers : List (Producer T A P)) (takers : List (Consumer T A P)) (n count : ℕ) (q : Producer T A P) (e : Consumer T A P) → n < count → n < length makers → n < length takers → received e ++ known_items e ≡ sent q → 0 < length (known_items e)
      → Decides false (AreAllTaken count (set makers n q) (set takers n e))
  left_in makers takers n count q e within low low' fifo some = (
    λ no. absurd (false≢true no),
    λ taken.
        let all : received e ≡ sent q = sym (ap (λ x. received x) (get_or-set_same takers n e e low')) ∙ (taken n q e within ∙ ap (λ x. sent x) (get_or-set_same makers n q q low)) in
        let long : length (received e) + length (known_items e) ≡ length (received e) = sym (length-append (received e) (known_items e)) ∙ ap length (fifo ∙ sym all) in
        absurd (omega arith),
  )
