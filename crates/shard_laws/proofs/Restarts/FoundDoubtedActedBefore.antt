-- What a log leaves in doubt, as transactions that acted before: their writes run from what the log commits, and lie on those whom their
-- PREPAREs list, which stand before them.
use Rattle.std.proofs.Common.{◌≡◌, ◌⊎◌, inl, inr, ⊎_elim, refl, sym, ap, subst, ◌∙◌, ℕ, ◌+◌, ◌<◌, Bool, true, false, cond, not, ◌&&◌, ◌||◌, ◌==◌, List, [], ◌∷◌, ◌++◌, length, Option, Some, None, is_some, append-nil, eqb-true, arith}
use Rattle.std.specs.List.{AllByRecursion, filter}
use Rattle.std.proofs.lemmas.Bool.{cases_Bool, both_ways, cond_both, cond-true, cond-false, or_cases, not-true, false_from_ne_true}
use Rattle.clv_base.specs.declared.values.Value.{Value as ValueType}
use Rattle.clv_base.specs.declared.names.TxId.{TxId}
use Rattle.clv_base.specs.declared.ops.Answer.TheVariants.{Value, Added}
use Rattle.clv_base.specs.declared.changes.Change.{Change}
use Rattle.clv_base.specs.declared.changes.Change.TheVariants.{Sets, Adds}
use Rattle.clv_base.specs.declared.logs.LogRecord.{LogRecord}
use Rattle.clv_base.specs.declared.logs.LogRecord.TheVariants.{Update, Clr, Prepare, Commit, Abort, End, Restart, Add, Unadd, Forgotten, Check}
use Rattle.clv_base.specs.Orders.{tx_same, tx_in}
use Rattle.clv_base.specs.Maps.{KeyMap, map_get, is_number, op_answer}
use Rattle.clv_base.specs.Needs.{writes_of}
use Rattle.clv_base.specs.Folding.{meets_key, adds}
use Rattle.clv_base.specs.Logs.{StandingUpdate, changed, is_setting, standing, standing_after, committed_in, prepared_in, is_prepare_of}
use Rattle.clv_base.specs.LogRules.{listed_in, part_of, disorder}
use Rattle.clv_base.proofs.SameNames.{or_left, or_right, tx_true, tx_flip}
use Rattle.law_base.specs.Items.{Item, Did, told, wrote, meets, both_add, Runs, after, AllLater, on_top, pile}
use Rattle.law_base.proofs.Lists.{all_mono, all_of, all_push, all_filter, later_push}
use Rattle.law_base.proofs.Running.{top_value, runs_push, pile_value, pile_push}
use Rattle.law_base.proofs.Standing.{standing_append}
use Rattle.law_base.proofs.Undoing.{IsOver, Chain}
use Rattle.protocol_laws.specs.Order.{LieOnThese}
use Rattle.protocol_laws.proofs.LogsInOrder.OneRecordMore.{push_cases}
use Rattle.shard_laws.specs.OneShard.{found_op, found_told, found_item, items_found, prepared_order}
use Rattle.shard_laws.proofs.Operations.WritesAtEachKey.{MaySwap, SameAtKeys, unmoved, behind, twice, keys_past, keys_top}
use Rattle.shard_laws.proofs.Keeping.WhatOneShardKeeps.{of_kept, place}
use Rattle.shard_laws.proofs.Keeping.DeedsThatHold.{Rise}
use Rattle.shard_laws.proofs.Keeping.ChangesKeepPrepared.{listed_keeps}
use Rattle.law_base.specs.Coming.{is_let_go, may_come, AllCome}
use Rattle.law_base.proofs.InOrder.{all_append, through}
use Rattle.law_base.proofs.Parts.{in_order_comes}
use Rattle.law_base.proofs.LetGo.{let_go_unprepared}
use Rattle.shard_laws.proofs.Order.ChangesKeepOrder.{unlisted}
use Rattle.shard_laws.proofs.Keeping.ClosingKeeps.{place_in, place_out, place_push}
use Rattle.shard_laws.proofs.Cuts.MembersRunSerially.{Once, once_push}
use Rattle.shard_laws.proofs.Order.WritesLieOnListed.{Beneath, LieListed, all_listed, all_others}
use Rattle.shard_laws.proofs.Restarts.AddsFindNumbers.{OverNumber, FindNumbers, number_over, add_number}
use Rattle.law_base.proofs.Bools.{and_first as front, and_second as last}
use Rattle.law_base.proofs.Names.{all_without}

-- ---- a write as an operation

-- an UPDATE has a value before or after
abbrev pub TellsBy : Change → Type 0
TellsBy (Sets before after) = (is_some before || is_some after) ≡ true
TellsBy (Adds by) = Unit {0}

abbrev pub Tells : StandingUpdate → Type 0
Tells w = TellsBy w.change

tells_step : (shard : ℕ) (part log : List LogRecord) (r : LogRecord) → may_come shard part log r ≡ true → AllByRecursion Tells (standing log) → AllByRecursion Tells (standing_after (0 + length log) r (standing log))
tells_step shard part log (Update tx k b a) m old = (last _ _ (front _ _ m), old)
tells_step shard part log (Clr tx next k a) m old = all_without Tells tx (standing log) old
tells_step shard part log (Prepare tx home ps) m old = old
tells_step shard part log (Commit tx ps) m old = old
tells_step shard part log (Abort tx) m old = old
tells_step shard part log (End tx) m old = old
tells_step shard part log (Restart run epoch) m old = old
tells_step shard part log (Add tx k by) m old = (tt, old)
tells_step shard part log (Unadd tx next k by) m old = all_without Tells tx (standing log) old
tells_step shard part log Forgotten m old = old
tells_step shard part log (Check run' epoch' upto base) m old = old

pub all_tell : (shard : ℕ) (log : List LogRecord) → disorder shard log ≡ None → AllByRecursion Tells (standing log)
all_tell shard log d =
    through (λ l. AllByRecursion Tells (standing l)) shard (part_of log)
    (λ l r g p m. subst (AllByRecursion Tells) (sym (standing_append 0 l (r ∷ []) [])) (tells_step shard (part_of log) l r m p)) log (in_order_comes shard log d) tt (λ run epoch upto base rises. tt)

pub found_wrote : (w : StandingUpdate) → Tells w → wrote (found_item w) ≡ Some (w.key, w.change)
found_wrote w e = at w.change e
  where
    at : (c : Change) → TellsBy c → writes_of (found_op w.key c) (told (found_told c)) ≡ Some (w.key, c)
    at (Sets b (Some v)) e = refl
    at (Sets (Some v) None) e = refl
    at (Sets None None) e = absurd (both_ways false refl e)
    at (Adds by) e = refl

pub found_key : (w : StandingUpdate) (k : ℕ) → meets (found_item w) k ≡ true → w.key ≡ k
found_key w k e = at w.change e
  where
    at : (c : Change) → meets_key (found_op w.key c) k ≡ true → w.key ≡ k
    at (Sets b None) e = eqb-true w.key k e
    at (Sets b (Some v)) e = eqb-true w.key k e
    at (Adds by) e = eqb-true w.key k e

-- what a change finds: an UPDATE the value that it names, an ADD a number
abbrev Finds : Change → Option ValueType → Type 0
Finds (Sets before after) v = before ≡ v
Finds (Adds by) v = is_number v ≡ true

found_answer : (k : ℕ) (c : Change) (m : KeyMap) → Finds c (map_get k m) → found_told c ≡ op_answer (found_op k c) m
found_answer k (Sets b None) m e = ap Value e
found_answer k (Sets b (Some v)) m e = ap Value e
found_answer k (Adds by) m e = ap Added (sym e)

find_same : (c : Change) (v u : Option ValueType) → v ≡ u → IsOver c u → OverNumber c u → Finds c v
find_same (Sets before after) v u e o n = o ∙ sym e
find_same (Adds by) v u e o n = ap is_number e ∙ n

find_number : (c : Change) (v u : Option ValueType) → is_setting c ≡ false → is_number v ≡ is_number u → OverNumber c u → Finds c v
find_number (Sets before after) v u a e n = absurd (both_ways true a refl)
find_number (Adds by) v u a e n = e ∙ n

-- two that don't both add
found_adds : (k : ℕ) (c : Change) → adds (found_op k c) (found_told c) ≡ not (is_setting c)
found_adds k (Sets b None) = refl
found_adds k (Sets b (Some v)) = refl
found_adds k (Adds by) = refl

one_sets : (w v : StandingUpdate) → both_add (found_item w) (found_item v) ≡ false → (is_setting w.change || is_setting v.change) ≡ true
one_sets w v e = at (is_setting w.change) (is_setting v.change) (sym (ap (λ b. b && adds (found_op v.key v.change) (found_told v.change)) (found_adds w.key w.change) ∙ ap (λ b. not (is_setting w.change) && b) (found_adds v.key v.change)) ∙ e)
  where
    at : (a b : Bool) → (not a && not b) ≡ false → (a || b) ≡ true
    at true b e = refl
    at false true e = refl
    at false false e = absurd (both_ways true e refl)

-- ---- those of all writes

pub found_all : (P : Item → Type 0) (doubt : TxId → Bool) (ws : List StandingUpdate) → AllByRecursion (λ w. doubt w.tx ≡ true → P (found_item w)) ws → AllByRecursion P (items_found doubt ws)
found_all P doubt [] a = tt
found_all P doubt (w ∷ ws) a =
    cond_both (doubt w.tx) (items_found doubt ws ++ found_item w ∷ []) (items_found doubt ws) (AllByRecursion P)
    (λ e. all_push P (items_found doubt ws) (found_item w) (found_all P doubt ws a.1) (a.0 e)) (λ e. found_all P doubt ws a.1)

pub found_doubted : (doubt : TxId → Bool) (ws : List StandingUpdate) → AllByRecursion (λ x. doubt x.tx ≡ true) (items_found doubt ws)
found_doubted doubt ws = found_all (λ x. doubt x.tx ≡ true) doubt ws (every ws)
  where
    every : (us : List StandingUpdate) → AllByRecursion (λ w. doubt w.tx ≡ true → doubt w.tx ≡ true) us
    every [] = tt
    every (u ∷ us) = ((λ d. d), every us)

pub found_later : (R : Item → Item → Type 0) (doubt : TxId → Bool) (ws : List StandingUpdate) → AllLater (λ w v. doubt w.tx ≡ true → doubt v.tx ≡ true → R (found_item v) (found_item w)) ws → AllLater R (items_found doubt ws)
found_later R doubt [] a = tt
found_later R doubt (w ∷ ws) a =
    cond_both (doubt w.tx) (items_found doubt ws ++ found_item w ∷ []) (items_found doubt ws) (AllLater R)
    (λ e. later_push R (items_found doubt ws) (found_item w) (found_later R doubt ws a.1) (found_all (λ x. R x (found_item w)) doubt ws (all_mono _ _ (λ v h d. h e d) ws a.0)))
    (λ e. found_later R doubt ws a.1)

-- they have no numbers
pub found_rise : (doubt : TxId → Bool) (ws : List StandingUpdate) → AllLater (λ x y. Rise (Did x) (Did y)) (items_found doubt ws)
found_rise doubt ws = found_later (λ x y. Rise (Did x) (Did y)) doubt ws (each ws)
  where
    each : (us : List StandingUpdate) → AllLater (λ w v. doubt w.tx ≡ true → doubt v.tx ≡ true → Rise (Did (found_item v)) (Did (found_item w))) us
    each [] = tt
    each (u ∷ us) = (all_of _ (λ v d e s. omega arith) us, each us)

pub pile_found : (doubt : TxId → Bool) (ws base : List StandingUpdate) → AllByRecursion Tells ws → pile (items_found doubt ws) base ≡ filter (of_kept doubt) ws ++ base
pile_found doubt [] base t = refl
pile_found doubt (w ∷ ws) base t = at (doubt w.tx) (pile_found doubt ws base t.1)
  where
    at : (b : Bool) → pile (items_found doubt ws) base ≡ filter (of_kept doubt) ws ++ base
        → pile (cond b (items_found doubt ws ++ found_item w ∷ []) (items_found doubt ws)) base ≡ cond b (w ∷ filter (of_kept doubt) ws) (filter (of_kept doubt) ws) ++ base
    at true ih = pile_push (items_found doubt ws) (found_item w) base ∙ ap (λ o. on_top w.tx w.lsn o (pile (items_found doubt ws) base)) (found_wrote w t.0) ∙ ap (λ l. w ∷ l) ih
    at false ih = ih

-- ---- those in doubt wrote over those that are done, but that an ADD may stand over ADDs

or_turn : (a b : Bool) → (a || b) ≡ true → (b || a) ≡ true
or_turn true true e = refl
or_turn true false e = refl
or_turn false b e = ⊎_elim (λ h. absurd (both_ways false refl h)) (λ h. or_left b false h) (or_cases false b e)

-- what lies over the same has the same value, or a number as well
value_over : (floor : KeyMap) (k : ℕ) (cs as_ bs : List StandingUpdate) → top_value floor k as_ ≡ top_value floor k bs → top_value floor k (cs ++ as_) ≡ top_value floor k (cs ++ bs)
value_over floor k [] as_ bs e = e
value_over floor k (c ∷ cs) as_ bs e = ap (λ v. cond (k == c.key) (changed c.change v) v) (value_over floor k cs as_ bs e)

numbers_over : (floor : KeyMap) (k : ℕ) (cs as_ bs : List StandingUpdate) → is_number (top_value floor k as_) ≡ is_number (top_value floor k bs) → is_number (top_value floor k (cs ++ as_)) ≡ is_number (top_value floor k (cs ++ bs))
numbers_over floor k [] as_ bs e = e
numbers_over floor k (c ∷ cs) as_ bs e = at (k == c.key) (numbers_over floor k cs as_ bs e)
  where
    at : (b : Bool) → is_number (top_value floor k (cs ++ as_)) ≡ is_number (top_value floor k (cs ++ bs))
        → is_number (cond b (changed c.change (top_value floor k (cs ++ as_))) (top_value floor k (cs ++ as_))) ≡ is_number (cond b (changed c.change (top_value floor k (cs ++ bs))) (top_value floor k (cs ++ bs)))
    at true ih = number_over c.change (top_value floor k (cs ++ as_)) (top_value floor k (cs ++ bs)) ih
    at false ih = ih

module _ (done doubt : TxId → Bool) (apart : (t : TxId) → doubt t ≡ true → done t ≡ false) where
  not_doubt : (t : TxId) → done t ≡ true → doubt t ≡ false
  not_doubt t e = false_from_ne_true _ (λ d. both_ways _ (apart t d) e)

  abbrev Under : StandingUpdate → List StandingUpdate → Type 0
  Under w ws = AllByRecursion (λ v. v.key ≡ w.key → (is_setting v.change || is_setting w.change) ≡ true → done v.tx ≡ true) ws

  -- those in doubt that lie under one that is done may change places with it
  past_doubt : (w : StandingUpdate) (ws : List StandingUpdate) → done w.tx ≡ true → Under w ws → AllByRecursion (λ v. MaySwap w v) (filter (of_kept doubt) ws)
  past_doubt w ws e a =
      all_mono _ _ (λ v h. ((λ s. both_ways _ (apart v.tx h.1) (subst (λ z. done z ≡ true) s e)), λ k. false_from_ne_true _ (λ s. both_ways _ (apart v.tx h.1) (h.0 (sym k) (or_turn (is_setting w.change) (is_setting v.change) s))))) (filter (of_kept doubt) ws) (all_filter _ (of_kept doubt) ws a)

  pub keys_split : (ws : List StandingUpdate) → LieOnThese done ws → SameAtKeys (filter (of_kept (λ t. done t || doubt t)) ws) (filter (of_kept doubt) ws ++ filter (of_kept done) ws)
  keys_split [] l = unmoved
  keys_split (w ∷ ws) l = at (done w.tx) (doubt w.tx) refl refl (λ e. past_doubt w ws e (l.0 e)) (keys_split ws l.1)
    where
      at : (b c : Bool) → done w.tx ≡ b → doubt w.tx ≡ c → (done w.tx ≡ true → AllByRecursion (λ v. MaySwap w v) (filter (of_kept doubt) ws))
          → SameAtKeys (filter (of_kept (λ t. done t || doubt t)) ws) (filter (of_kept doubt) ws ++ filter (of_kept done) ws)
          → SameAtKeys (cond (b || c) (w ∷ filter (of_kept (λ t. done t || doubt t)) ws) (filter (of_kept (λ t. done t || doubt t)) ws))
          (cond c (w ∷ filter (of_kept doubt) ws) (filter (of_kept doubt) ws) ++ cond b (w ∷ filter (of_kept done) ws) (filter (of_kept done) ws))
      at true true e d past ih = absurd (both_ways _ (apart w.tx d) e)
      at true false e d past ih = twice (behind w ih) (keys_past w (filter (of_kept doubt) ws) (filter (of_kept done) ws) (past e))
      at false true e d past ih = behind w ih
      at false false e d past ih = ih

  -- the writes of those in doubt run from a map of those that are done
  module _ (floor start : KeyMap) (base : List StandingUpdate) (start_is : (q : ℕ) → map_get q start ≡ top_value floor q base) where
    -- those in doubt only added at the key, or wrote nothing there
    abbrev DoubtAdds : List StandingUpdate → ℕ → Type 0
    DoubtAdds ws q = AllByRecursion (λ w. w.key ≡ q → doubt w.tx ≡ true → is_setting w.change ≡ false) ws

    abbrev NoDoubt : List StandingUpdate → ℕ → Type 0
    NoDoubt ws q = AllByRecursion (λ w. w.key ≡ q → doubt w.tx ≡ false) ws

    -- the base has the value that these have of those that are done; or those in doubt only added there, and both or neither have a number; or
    -- none in doubt wrote the key
    abbrev Based : List StandingUpdate → ℕ → Type 0
    Based ws q =
        (top_value floor q base ≡ top_value floor q (filter (of_kept done) ws))
        ⊎ (((is_number (top_value floor q base) ≡ is_number (top_value floor q (filter (of_kept done) ws))) × DoubtAdds ws q) ⊎ NoDoubt ws q)

    based_same : (w : StandingUpdate) (ws : List StandingUpdate) (q : ℕ) → top_value floor q (filter (of_kept done) (w ∷ ws)) ≡ top_value floor q (filter (of_kept done) ws) → Based (w ∷ ws) q → Based ws q
    based_same w ws q e (inl s) = inl (s ∙ e)
    based_same w ws q e (inr (inl s)) = inr (inl (s.0 ∙ ap is_number e, s.1.1))
    based_same w ws q e (inr (inr n)) = inr (inr n.1)

    based_add : (w : StandingUpdate) (ws : List StandingUpdate) (q : ℕ) → is_number (top_value floor q (filter (of_kept done) (w ∷ ws))) ≡ is_number (top_value floor q (filter (of_kept done) ws)) → DoubtAdds ws q → Based (w ∷ ws) q → Based ws q
    based_add w ws q e a (inl s) = inr (inl (ap is_number s ∙ e, a))
    based_add w ws q e a (inr (inl s)) = inr (inl (s.0 ∙ e, a))
    based_add w ws q e a (inr (inr n)) = inr (inr n.1)

    based_below : (w : StandingUpdate) (ws : List StandingUpdate) (q : ℕ) → (done w.tx ≡ true → Under w ws) → Based (w ∷ ws) q → Based ws q
    based_below w ws q l b = at (done w.tx) (q == w.key) (is_setting w.change) refl refl refl
      where
        under : done w.tx ≡ true → (q == w.key) ≡ true → AllByRecursion (λ v. v.key ≡ q → (is_setting v.change || is_setting w.change) ≡ true → done v.tx ≡ true) ws
        under e k = all_mono _ _ (λ v h f. h (f ∙ eqb-true q w.key k)) ws (l e)

        at : (c k s : Bool) → done w.tx ≡ c → (q == w.key) ≡ k → is_setting w.change ≡ s → Based ws q
        at false k s e f a = based_same w ws q (ap (λ z. top_value floor q (cond z (w ∷ filter (of_kept done) ws) (filter (of_kept done) ws))) e) b
        at true false s e f a =
            based_same w ws q
            (ap (λ z. top_value floor q (cond z (w ∷ filter (of_kept done) ws) (filter (of_kept done) ws))) e
            ∙ cond-false (q == w.key) (changed w.change (top_value floor q (filter (of_kept done) ws))) (top_value floor q (filter (of_kept done) ws)) f)
            b
        at true true true e f a = inr (inr (all_mono _ _ (λ v h k. not_doubt v.tx (h k (or_right (is_setting v.change) _ a))) ws (under e f)))
        at true true false e f a =
            based_add w ws q
            (ap (λ z. is_number (top_value floor q (cond z (w ∷ filter (of_kept done) ws) (filter (of_kept done) ws)))) e
            ∙ add_number w.change (q == w.key) (top_value floor q (filter (of_kept done) ws)) a)
            (all_mono _ _ (λ v h k d. false_from_ne_true _ (λ s. both_ways _ (apart v.tx d) (h k (or_left _ (is_setting w.change) s)))) ws (under e f)) b

    abbrev both : TxId → Bool
    both t = done t || doubt t

    chain_rest : (b : Bool) (w : StandingUpdate) (ws : List StandingUpdate) → Chain floor (cond b (w ∷ ws) ws) → Chain floor ws
    chain_rest true w ws c = c.1
    chain_rest false w ws c = c

    numbers_rest : (b : Bool) (w : StandingUpdate) (ws : List StandingUpdate) → FindNumbers floor (cond b (w ∷ ws) ws) → FindNumbers floor ws
    numbers_rest true w ws c = c.1
    numbers_rest false w ws c = c

    pub runs_found : (ws : List StandingUpdate) → AllByRecursion Tells ws → Chain floor (filter (of_kept (λ t. done t || doubt t)) ws) → FindNumbers floor (filter (of_kept (λ t. done t || doubt t)) ws) → LieOnThese done ws → ((q : ℕ) → Based ws q)
        → Runs start (items_found doubt ws)
    runs_found [] tells chain numbers lie based = tt
    runs_found (w ∷ ws) tells chain numbers lie based =
        let rest : Runs start (items_found doubt ws) = runs_found ws tells.1 (chain_rest (both w.tx) w (filter (of_kept both) ws) chain) (numbers_rest (both w.tx) w (filter (of_kept both) ws) numbers) lie.1 (λ q. based_below w ws q lie.0 (based q)) in
        cond_both (doubt w.tx) (items_found doubt ws ++ found_item w ∷ []) (items_found doubt ws) (Runs start)
        (λ d. runs_push (items_found doubt ws) (found_item w) start rest (found_answer w.key w.change (after start (items_found doubt ws)) (finds rest d (based w.key)))) (λ d. rest)
      where
        there : doubt w.tx ≡ true → cond (both w.tx) (w ∷ filter (of_kept both) ws) (filter (of_kept both) ws) ≡ w ∷ filter (of_kept both) ws
        there d = cond-true (both w.tx) (w ∷ filter (of_kept both) ws) (filter (of_kept both) ws) (or_right (done w.tx) (doubt w.tx) d)

        over : doubt w.tx ≡ true → IsOver w.change (top_value floor w.key (filter (of_kept both) ws))
        over d = (subst (Chain floor) (there d) chain).0

        number : doubt w.tx ≡ true → OverNumber w.change (top_value floor w.key (filter (of_kept both) ws))
        number d = (subst (FindNumbers floor) (there d) numbers).0

        value_now : Runs start (items_found doubt ws) → map_get w.key (after start (items_found doubt ws)) ≡ top_value floor w.key (filter (of_kept doubt) ws ++ base)
        value_now rest = pile_value floor (items_found doubt ws) start base w.key rest (start_is w.key) ∙ ap (top_value floor w.key) (pile_found doubt ws base tells.1)

        split : top_value floor w.key (filter (of_kept doubt) ws ++ filter (of_kept done) ws) ≡ top_value floor w.key (filter (of_kept both) ws)
        split = sym (keys_top floor (filter (of_kept both) ws) (filter (of_kept doubt) ws ++ filter (of_kept done) ws) w.key (keys_split ws lie.1))

        skipped : doubt w.tx ≡ true → top_value floor w.key (filter (of_kept done) (w ∷ ws)) ≡ top_value floor w.key (filter (of_kept done) ws)
        skipped d = ap (λ z. top_value floor w.key (cond z (w ∷ filter (of_kept done) ws) (filter (of_kept done) ws))) (apart w.tx d)

        finds : Runs start (items_found doubt ws) → doubt w.tx ≡ true → Based (w ∷ ws) w.key → Finds w.change (map_get w.key (after start (items_found doubt ws)))
        finds rest d (inl s) =
            find_same w.change (map_get w.key (after start (items_found doubt ws))) (top_value floor w.key (filter (of_kept both) ws))
            (value_now rest ∙ value_over floor w.key (filter (of_kept doubt) ws) base (filter (of_kept done) ws) (s ∙ skipped d) ∙ split) (over d) (number d)
        finds rest d (inr (inl s)) =
            find_number w.change (map_get w.key (after start (items_found doubt ws))) (top_value floor w.key (filter (of_kept both) ws)) (s.1.0 refl d)
            (ap is_number (value_now rest) ∙ numbers_over floor w.key (filter (of_kept doubt) ws) base (filter (of_kept done) ws) (s.0 ∙ ap is_number (skipped d)) ∙ ap is_number split) (number d)
        finds rest d (inr (inr n)) = absurd (both_ways _ (n.0 refl) d)

-- ---- the order of PREPAREs

order_append : (doubt : TxId → Bool) (xs ys : List LogRecord) → prepared_order doubt (xs ++ ys) ≡ prepared_order doubt xs ++ prepared_order doubt ys
order_append doubt [] ys = refl
order_append doubt (Prepare tx home ps ∷ rs) ys = at (doubt tx) (order_append doubt rs ys)
  where
    at : (b : Bool) → prepared_order doubt (rs ++ ys) ≡ prepared_order doubt rs ++ prepared_order doubt ys → cond b (tx ∷ prepared_order doubt (rs ++ ys)) (prepared_order doubt (rs ++ ys)) ≡ cond b (tx ∷ prepared_order doubt rs) (prepared_order doubt rs) ++ prepared_order doubt ys
    at true ih = ap (λ l. tx ∷ l) ih
    at false ih = ih
order_append doubt (Update tx k b a ∷ rs) ys = order_append doubt rs ys
order_append doubt (Clr tx u k a ∷ rs) ys = order_append doubt rs ys
order_append doubt (Commit tx ps ∷ rs) ys = order_append doubt rs ys
order_append doubt (Abort tx ∷ rs) ys = order_append doubt rs ys
order_append doubt (End tx ∷ rs) ys = order_append doubt rs ys
order_append doubt (Restart run epoch ∷ rs) ys = order_append doubt rs ys
order_append doubt (Add tx k by ∷ rs) ys = order_append doubt rs ys
order_append doubt (Unadd tx u k by ∷ rs) ys = order_append doubt rs ys
order_append doubt (Forgotten ∷ rs) ys = order_append doubt rs ys
order_append doubt (Check run' epoch' upto base ∷ rs) ys = order_append doubt rs ys

pub order_has : (doubt : TxId → Bool) (log : List LogRecord) (t : TxId) → prepared_in log t ≡ true → doubt t ≡ true → tx_in t (prepared_order doubt log) ≡ true
order_has doubt [] t p d = absurd (both_ways false refl p)
order_has doubt (Prepare tx home ps ∷ rs) t p d =
    ⊎_elim
    (λ s. subst (λ l. tx_in t l ≡ true) (sym (cond-true (doubt tx) (tx ∷ prepared_order doubt rs) _ (subst (λ z. doubt z ≡ true) (tx_true t tx s) d))) (or_left _ _ (tx_flip t tx s)))
    (λ q. cond_both (doubt tx) (tx ∷ prepared_order doubt rs) (prepared_order doubt rs) (λ l. tx_in t l ≡ true) (λ e. or_right (tx_same tx t) _ (order_has doubt rs t q d)) (λ e. order_has doubt rs t q d))
    (or_cases (tx_same t tx) (prepared_in rs t) p)
order_has doubt (Update tx k b a ∷ rs) t p d = order_has doubt rs t p d
order_has doubt (Clr tx u k a ∷ rs) t p d = order_has doubt rs t p d
order_has doubt (Commit tx ps ∷ rs) t p d = order_has doubt rs t p d
order_has doubt (Abort tx ∷ rs) t p d = order_has doubt rs t p d
order_has doubt (End tx ∷ rs) t p d = order_has doubt rs t p d
order_has doubt (Restart run epoch ∷ rs) t p d = order_has doubt rs t p d
order_has doubt (Add tx k by ∷ rs) t p d = order_has doubt rs t p d
order_has doubt (Unadd tx u k by ∷ rs) t p d = order_has doubt rs t p d
order_has doubt (Forgotten ∷ rs) t p d = order_has doubt rs t p d
order_has doubt (Check run' epoch' upto base ∷ rs) t p d = order_has doubt rs t p d

pub order_out : (doubt : TxId → Bool) (log : List LogRecord) (t : TxId) → prepared_in log t ≡ false → tx_in t (prepared_order doubt log) ≡ false
order_out doubt [] t p = refl
order_out doubt (Prepare tx home ps ∷ rs) t p = at (tx_same t tx) refl p (order_out doubt rs t)
  where
    neither : (a b : Bool) → a ≡ false → b ≡ false → (a || b) ≡ false
    neither true b e f = e
    neither false b e f = f

    at : (b : Bool) → tx_same t tx ≡ b → (b || prepared_in rs t) ≡ false → (prepared_in rs t ≡ false → tx_in t (prepared_order doubt rs) ≡ false) → tx_in t (cond (doubt tx) (tx ∷ prepared_order doubt rs) (prepared_order doubt rs)) ≡ false
    at true s e ih = absurd (both_ways true e refl)
    at false s e ih =
        cond_both (doubt tx) (tx ∷ prepared_order doubt rs) (prepared_order doubt rs) (λ l. tx_in t l ≡ false) (λ d. neither (tx_same tx t) _ (false_from_ne_true _ (λ z. both_ways _ s (tx_flip tx t z))) (ih e)) (λ d. ih e)
order_out doubt (Update tx k b a ∷ rs) t p = order_out doubt rs t p
order_out doubt (Clr tx u k a ∷ rs) t p = order_out doubt rs t p
order_out doubt (Commit tx ps ∷ rs) t p = order_out doubt rs t p
order_out doubt (Abort tx ∷ rs) t p = order_out doubt rs t p
order_out doubt (End tx ∷ rs) t p = order_out doubt rs t p
order_out doubt (Restart run epoch ∷ rs) t p = order_out doubt rs t p
order_out doubt (Add tx k by ∷ rs) t p = order_out doubt rs t p
order_out doubt (Unadd tx u k by ∷ rs) t p = order_out doubt rs t p
order_out doubt (Forgotten ∷ rs) t p = order_out doubt rs t p
order_out doubt (Check run' epoch' upto base ∷ rs) t p = order_out doubt rs t p

-- a record more adds its own transaction where it is a new PREPARE, or none
data Joins (doubt : TxId → Bool) (log : List LogRecord) : LogRecord → List TxId → Type 0 where
  one : (tx : TxId) (home : ℕ) (ps : List TxId) → prepared_in log tx ≡ false → Joins doubt log (Prepare tx home ps) (tx ∷ [])
  none : (r : LogRecord) → Joins doubt log r []

joins : (shard : ℕ) (part : List LogRecord) (doubt : TxId → Bool) (log : List LogRecord) (r : LogRecord) → may_come shard part log r ≡ true → Joins doubt log r (prepared_order doubt (r ∷ []))
joins shard part doubt log (Prepare tx home ps) m =
    cond_both (doubt tx) (tx ∷ []) [] (Joins doubt log (Prepare tx home ps)) (λ e. one tx home ps (not-true _ (last _ _ (front _ _ (front _ _ (front _ _ (front _ _ m))))))) (λ e. none (Prepare tx home ps))
joins shard part doubt log (Update tx k b a) m = none (Update tx k b a)
joins shard part doubt log (Clr tx u k a) m = none (Clr tx u k a)
joins shard part doubt log (Commit tx ps) m = none (Commit tx ps)
joins shard part doubt log (Abort tx) m = none (Abort tx)
joins shard part doubt log (End tx) m = none (End tx)
joins shard part doubt log (Restart run epoch) m = none (Restart run epoch)
joins shard part doubt log (Add tx k by) m = none (Add tx k by)
joins shard part doubt log (Unadd tx u k by) m = none (Unadd tx u k by)
joins shard part doubt log Forgotten m = none Forgotten
joins shard part doubt log (Check run' epoch' upto base) m = none (Check run' epoch' upto base)

once_step : (doubt : TxId → Bool) (log : List LogRecord) (r : LogRecord) (more : List TxId) → Joins doubt log r more → Once (prepared_order doubt log) → Once (prepared_order doubt log ++ more)
once_step doubt log _ _ (one tx home ps new) o = once_push (prepared_order doubt log) tx o (order_out doubt log tx new)
once_step doubt log _ _ (none r) o = subst Once (sym (append-nil (prepared_order doubt log))) o

pub order_once : (shard : ℕ) (doubt : TxId → Bool) (log : List LogRecord) → disorder shard log ≡ None → Once (prepared_order doubt log)
order_once shard doubt log d =
    through (λ l. Once (prepared_order doubt l)) shard (part_of log)
    (λ l r g o m. subst Once (sym (order_append doubt l (r ∷ []))) (once_step doubt l r (prepared_order doubt (r ∷ [])) (joins shard (part_of log) doubt l r m) o)) log (in_order_comes shard log d) tt
    (λ run epoch upto base rises. tt)

-- whom a PREPARE lists stands before
abbrev StandBefore : (TxId → Bool) → List LogRecord → Type 0
StandBefore doubt log = (t p : TxId) → tx_in p (listed_in log t) ≡ true → doubt t ≡ true → doubt p ≡ true → place (prepared_order doubt log) p < place (prepared_order doubt log) t

place_more : (doubt : TxId → Bool) (log : List LogRecord) (r : LogRecord) (more : List TxId) (p t : TxId) → Joins doubt log r more → place (prepared_order doubt log) p < place (prepared_order doubt log) t → place (prepared_order doubt log ++ more) p < place (prepared_order doubt log ++ more) t
place_more doubt log _ _ p t (one tx home ps new) l = place_push (prepared_order doubt log) tx p t l
place_more doubt log _ _ p t (none r) l = subst (λ z. place z p < place z t) (sym (append-nil (prepared_order doubt log))) l

before_step : (shard : ℕ) (part : List LogRecord) (doubt : TxId → Bool) (known : (u : TxId) → doubt u ≡ true → is_let_go part u ≡ false) (log : List LogRecord) (r : LogRecord) → AllCome shard part log → may_come shard part log r ≡ true → StandBefore doubt log → StandBefore doubt (log ++ r ∷ [])
before_step shard part doubt known log r g m old t p i dt dp =
    subst (λ z. place z p < place z t) (sym (order_append doubt log (r ∷ []))) (place_more doubt log r (prepared_order doubt (r ∷ [])) p t (joins shard part doubt log r m) (⊎_elim (λ a. was a) (λ a. new a) (cases_Bool (prepared_in log t))))
  where
    whole : AllCome shard part (log ++ r ∷ [])
    whole = all_append shard part log (r ∷ []) g (m, tt)

    was : prepared_in log t ≡ true → place (prepared_order doubt log) p < place (prepared_order doubt log) t
    was a = old t p (ap (tx_in p) (sym (listed_keeps log (r ∷ []) t a)) ∙ i) dt dp

    listed_was : (q : LogRecord) → is_prepare_of t q ≡ true → is_prepare_of p q ≡ true → tx_same p t ≡ true
    listed_was (Prepare tx home ps) a b = subst (λ z. tx_same p z ≡ true) (sym (tx_true t tx a)) b
    listed_was _ a b = absurd (both_ways false refl a)

    own : prepared_in log t ≡ false → is_prepare_of t r ≡ true
    own a = ⊎_elim (λ h. absurd (both_ways _ a h)) (λ h. h)
        (push_cases (is_prepare_of t) log r (⊎_elim (λ e. e) (λ e. absurd (both_ways false refl (subst (λ l. tx_in p l ≡ true) (unlisted (log ++ r ∷ []) t e) i))) (cases_Bool (prepared_in (log ++ r ∷ []) t))))

    earlier : prepared_in log t ≡ false → prepared_in log p ≡ true
    earlier a = ⊎_elim (λ h. h) (λ h. absurd (both_ways _ (all_others shard part (log ++ r ∷ []) whole t p i) (listed_was r (own a) h)))
        (push_cases (is_prepare_of p) log r (⊎_elim (λ k. k) (λ g. absurd (both_ways _ (known p dp) g)) (all_listed shard part (log ++ r ∷ []) whole t p i)))

    new : prepared_in log t ≡ false → place (prepared_order doubt log) p < place (prepared_order doubt log) t
    new a = subst (λ n. place (prepared_order doubt log) p < n) (sym (place_out (prepared_order doubt log) t (order_out doubt log t a))) (place_in (prepared_order doubt log) p (order_has doubt log p (earlier a) dp))

pub listed_before : (shard : ℕ) (doubt : TxId → Bool) (log : List LogRecord) → disorder shard log ≡ None → ((u : TxId) → doubt u ≡ true → prepared_in log u ≡ true) → (t p : TxId) → tx_in p (listed_in log t) ≡ true → doubt t ≡ true → doubt p ≡ true
    → place (prepared_order doubt log) p < place (prepared_order doubt log) t
listed_before shard doubt log d prepared =
    let come = in_order_comes shard log d in
    through (StandBefore doubt) shard (part_of log)
    (λ l r g p m. before_step shard (part_of log) doubt (λ u i. false_from_ne_true _ (λ gone. both_ways _ (let_go_unprepared shard (part_of log) u gone log come) (prepared u i))) l r g m p) log come
    (λ t p i dt dp. absurd (both_ways false refl i)) (λ run epoch upto base rises t p i dt dp. absurd (both_ways false refl i))

-- ---- what lies under a write of one in doubt

-- it is its own, or of another in doubt that its PREPARE lists, or both add
abbrev pub UnderFound : List LogRecord → (TxId → Bool) → Item → Item → Type 0
UnderFound log doubt x y = (k : ℕ) → meets x k ≡ true → meets y k ≡ true → both_add x y ≡ false → (x.tx ≡ y.tx) ⊎ ((tx_in x.tx (listed_in log y.tx) ≡ true) × (doubt x.tx ≡ true) × (doubt y.tx ≡ true))

pub under_found : (log : List LogRecord) (doubt : TxId → Bool) → ((t : TxId) → doubt t ≡ true → (prepared_in log t ≡ true) × (committed_in log t ≡ false)) → (ws : List StandingUpdate) → LieListed log ws → AllLater (UnderFound log doubt) (items_found doubt ws)
under_found log doubt open_ ws l = found_later (UnderFound log doubt) doubt ws (below ws l)
  where
    lies : (v w : StandingUpdate) → doubt v.tx ≡ true → doubt w.tx ≡ true → Beneath log v.tx w.tx → (w.tx ≡ v.tx) ⊎ ((tx_in w.tx (listed_in log v.tx) ≡ true) × (doubt w.tx ≡ true) × (doubt v.tx ≡ true))
    lies v w d e (inl s) = inl s
    lies v w d e (inr (inl c)) = absurd (both_ways _ (open_ w.tx e).1 c)
    lies v w d e (inr (inr i)) = inr (i, e, d)

    below : (ws : List StandingUpdate) → LieListed log ws → AllLater (λ w v. doubt w.tx ≡ true → doubt v.tx ≡ true → UnderFound log doubt (found_item v) (found_item w)) ws
    below [] l = tt
    below (v ∷ vs) l = (at (doubt v.tx) refl, below vs l.1)
      where
        at : (b : Bool) → doubt v.tx ≡ b → AllByRecursion (λ w. doubt v.tx ≡ true → doubt w.tx ≡ true → UnderFound log doubt (found_item w) (found_item v)) vs
        at true d = all_mono _ _ (λ w h a e k x y n. lies v w a e (h (found_key w k x ∙ sym (found_key v k y)) (one_sets w v n))) vs (l.0 (open_ v.tx d).0)
        at false d = none vs
          where
            none : (us : List StandingUpdate) → AllByRecursion (λ w. doubt v.tx ≡ true → doubt w.tx ≡ true → UnderFound log doubt (found_item w) (found_item v)) us
            none [] = tt
            none (u ∷ us) = ((λ a e k x y n. absurd (both_ways _ d a)), none us)
