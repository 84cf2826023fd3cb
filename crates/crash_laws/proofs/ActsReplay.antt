-- Acts on a shard that keep the rules are a serial run; so the members replay.
use Rattle.std.proofs.Common.{◌≡◌, ◌⊎◌, inl, inr, ⊎_elim, refl, sym, ap, subst, ◌∙◌, ℕ, zero, suc, ◌<◌, true, false, cond, Bool, List, [], ◌∷◌, map, Some, None, arith, eq-eqb, ◌++◌, Option}
use Rattle.std.specs.List.{AllByRecursion, filter}
use Rattle.std.specs.Prelude.{is_none}
use Rattle.std.proofs.lemmas.Bool.{both_ways, or_left, or_right, and_parts, cond-false}
use Rattle.clv_base.specs.declared.names.TxId.{TxId}
use Rattle.clv_base.specs.Orders.{tx_same, tx_in}
use Rattle.clv_base.specs.Maps.{KeyMap, replay_map, replay_answers}
use Rattle.clv_base.specs.Folding.{IsRising}
use Rattle.clv_base.specs.Backs.{are_numbered}
use Rattle.clv_base.specs.History.{DoneAct, answers_given, Member, logs_left}
use Rattle.clv_base.specs.declared.events.Event.{Event}
use Rattle.clv_base.specs.declared.events.Event.TheVariants.{Op as OpEvent, RollTo}
use Rattle.clv_base.specs.declared.events.Outcome.{Outcome}
use Rattle.clv_base.specs.declared.events.Outcome.TheVariants.{Answered, Rolled}
use Rattle.clv_base.specs.Shards.{shard_count}
use Rattle.clv_base.specs.FileRules.{log_passes}
use Rattle.clv_base.specs.LogRules.{log_of, all_logs_from, apart}
use Rattle.clv_base.specs.Restarts.{run_after}
use Rattle.clv_base.specs.Journals.{History}
use Rattle.clv_base.proofs.SameNames.{tx_true, tx_self}
use Rattle.law_base.specs.Items.{Deed, Did, WentBack, Clash}
use Rattle.law_base.proofs.Lists.{all_mono, all_filter, later_filter, later_mono}
use Rattle.law_base.proofs.Sets.{same_flip}
use Rattle.law_base.proofs.Logs.{only_passes}
use Rattle.serial_laws.specs.Shares.{ShardAct, OnShard, BackOn, is_on, done_act, numbered, part_on, ReplaysTo, goes_whole}
use Rattle.history_laws.specs.Telling.{told_by}
use Rattle.history_laws.specs.Places.{StandsBefore, transactions_of}
use Rattle.history_laws.specs.Going.{act_on, shard_acts_in}
use Rattle.history_laws.specs.Continuing.{serial_left}
use Rattle.shard_laws.specs.OneShard.{doer, deeds_of, items_in, act_of_deed, acts_by, answers_by, place, GoBackInOrder, found_asked}
use Rattle.shard_laws.proofs.Cuts.MembersRunSerially.{Once, serial_of, once_filter}
use Rattle.shard_laws.proofs.AnswersAndMap.{held as held_now}
use Rattle.crash_laws.specs.Acts.{Act, AnswersFrom, Meet, MeetInOrder, NobodyBetween, AreDistinct, acts_of_each, ActsReplay, act_of, with_act, acts, member_acts, MembersHaveTheirActs}
use Rattle.crash_laws.proofs.Acts.ActsByShards.{all_of_map, all_to_map}
use Rattle.crash_laws.proofs.Acts.ActsAreDeeds.{told, deeds_told, acts_are_deeds, answers_back, IsAnswered, all_answered, meet_of, later_back, between_back}
use Rattle.crash_laws.proofs.Acts.ShardsHoldTheActs.{on}
use Rattle.crash_laws.proofs.AnswersAreOfEarlier.{answers_on}
use Rattle.crash_laws.proofs.MeetingsFollowPlaces.{meetings_follow_places, between_one}
use Rattle.headline_laws.proofs.MembersReplayByParts.DeedsAreParts.{deed_acts, deed_answers}
use Rattle.headline_laws.proofs.MembersReplayByParts.{members_go_whole, members_replay_by_parts}
use Rattle.headline_laws.proofs.MembersReplayWhereHere.WhoIsAMember.{chosen, chosen_are_members}
use Rattle.headline_laws.proofs.MembersReplayWhereHere.{leads}
use Rattle.headline_laws.proofs.TransactionsReplayByShards.LogsAgreeWithMap.{logs_agree}
use Rattle.headline_laws.specs.Shares.{share_of, parts_on}
use Rattle.headline_laws.specs.Parts.{member_acts as acts_of_members}
use Rattle.headline_laws.specs.Found.{MembersReplay}
use Rattle.serial_laws.proofs.PartsAreNumbered.{parts_are_numbered}
use Rattle.fate_laws.specs.Members.{is_member}
use Rattle.fate_laws.specs.Leading.{requests_of}

-- ---- places

stands_in : (p t : TxId) (ts : List TxId) → StandsBefore p t ts → tx_in t ts ≡ true
stands_in p t [] b = elim b [ ]
stands_in p t (x ∷ xs) (inl (s, i)) = or_right (tx_same x t) _ i
stands_in p t (x ∷ xs) (inr b) = or_right (tx_same x t) _ (stands_in p t xs b)

stands_first_in : (p t : TxId) (ts : List TxId) → StandsBefore p t ts → tx_in p ts ≡ true
stands_first_in p t [] b = elim b [ ]
stands_first_in p t (x ∷ xs) (inl (s, i)) = or_left (tx_same x p) _ (subst (λ z. tx_same z p ≡ true) (sym s) (tx_self p))
stands_first_in p t (x ∷ xs) (inr b) = or_right (tx_same x p) _ (stands_first_in p t xs b)

at_place : (p t : TxId) (ts : List TxId) → AreDistinct ts → StandsBefore p t ts → place ts p < place ts t
at_place p t [] d b = elim b [ ]
at_place p t (x ∷ xs) d b = by b (at_place p t xs d.1)
  where
    later : (u : TxId) → tx_in u xs ≡ true → tx_same u x ≡ false
    later u i = not_true (tx_same u x) (λ s. both_ways _ d.0 (subst (λ z. tx_in z xs ≡ true) (tx_true u x s) i))
      where
        not_true : (b : Bool) → (b ≡ true → ⊥) → b ≡ false
        not_true true k = absurd (k refl)
        not_true false k = refl

    first : (u : TxId) → x ≡ u → place (x ∷ xs) u ≡ zero
    first u e = ap (λ b. cond b zero (suc (place xs u))) (subst (λ z. tx_same u z ≡ true) (sym e) (tx_self u))

    behind : (u : TxId) → tx_in u xs ≡ true → place (x ∷ xs) u ≡ suc (place xs u)
    behind u i = ap (λ b. cond b zero (suc (place xs u))) (later u i)

    by : StandsBefore p t (x ∷ xs) → (StandsBefore p t xs → place xs p < place xs t) → place (x ∷ xs) p < place (x ∷ xs) t
    by (inl (s, i)) k = let a = first p s in let c = behind t i in omega (arith, a, c)
    by (inr q) k =
        let a = behind p (stands_first_in p t xs q) in
        let c = behind t (stands_in p t xs q) in
        let m = k q in
        omega (arith, a, c, m)

to_once : (ts : List TxId) → AreDistinct ts → Once ts
to_once [] d = tt
to_once (t ∷ ts) d = (d.0, to_once ts d.1)

-- ---- of each transaction its own

done_told : (n : ℕ) (d : Deed) → (is_on n (told n d).done ≡ true) × (done_act (told n d).done ≡ told_by d) × ((told n d).tx ≡ doer d)
done_told n (Did x) = (eq-eqb n n refl, refl, refl)
done_told n (WentBack tx number upto) = (eq-eqb n n refl, refl, refl)

abbrev own_of : TxId → List Act → List ShardAct
own_of t as_ = map (λ a. a.done) (filter (λ a. tx_same a.tx t) as_)

own_part : (n : ℕ) (t : TxId) (ds : List Deed) → part_on n (own_of t (map (told n) ds)) ≡ map told_by (deeds_of t ds)
own_part n t [] = refl
own_part n t (d ∷ ds) =
    let q = done_told n d in
    ap (λ z. part_on n (map (λ a. a.done) (cond (tx_same z t) (told n d ∷ filter (λ a. tx_same a.tx t) (map (told n) ds)) (filter (λ a. tx_same a.tx t) (map (told n) ds))))) q.2
    ∙ at (tx_same (doer d) t) (own_part n t ds)
  where
    at : (b : Bool) → part_on n (own_of t (map (told n) ds)) ≡ map told_by (deeds_of t ds)
        → part_on n (map (λ a. a.done) (cond b (told n d ∷ filter (λ a. tx_same a.tx t) (map (told n) ds)) (filter (λ a. tx_same a.tx t) (map (told n) ds)))) ≡ map told_by (cond b (d ∷ deeds_of t ds) (deeds_of t ds))
    at true i =
        let q = done_told n d in
        ap (λ b. cond b (done_act (told n d).done ∷ part_on n (own_of t (map (told n) ds))) (part_on n (own_of t (map (told n) ds)))) q.0 ∙ ap (λ x. x ∷ part_on n (own_of t (map (told n) ds))) q.1 ∙ ap (λ l. told_by d ∷ l) i
    at false i = i

abbrev parts_of : ℕ → List TxId → List Deed → List (List DoneAct)
parts_of n ts ds = map (part_on n) (acts_of_each ts (map (told n) ds))

each_acts : (n : ℕ) (ts : List TxId) (ds : List Deed) → map numbered (parts_of n ts ds) ≡ acts_by ts ds
each_acts n [] ds = refl
each_acts n (t ∷ ts) ds = ap (λ l. l ∷ map numbered (parts_of n ts ds)) (ap numbered (own_part n t ds) ∙ deed_acts (deeds_of t ds)) ∙ ap (λ l. map act_of_deed (deeds_of t ds) ∷ l) (each_acts n ts ds)

each_answers : (n : ℕ) (ts : List TxId) (ds : List Deed) → map answers_given (parts_of n ts ds) ≡ answers_by ts ds
each_answers n [] ds = refl
each_answers n (t ∷ ts) ds =
    ap (λ l. l ∷ map answers_given (parts_of n ts ds)) (ap answers_given (own_part n t ds) ∙ deed_answers (deeds_of t ds)) ∙ ap (λ l. map (λ x. x.answer) (items_in (deeds_of t ds)) ∷ l) (each_answers n ts ds)

backs_in_order : (n : ℕ) (ts : List TxId) (ds : List Deed) → AllByRecursion (λ t. are_numbered 0 [] (numbered (part_on n t)) ≡ true) (acts_of_each ts (map (told n) ds)) → GoBackInOrder ts ds
backs_in_order n [] ds a = tt
backs_in_order n (t ∷ ts) ds a = (subst (λ l. are_numbered 0 [] l ≡ true) (ap numbered (own_part n t ds) ∙ deed_acts (deeds_of t ds)) a.0, backs_in_order n ts ds a.1)

doers_in : (n : ℕ) (ts : List TxId) (ds : List Deed) → AllByRecursion (λ a. (tx_in a.tx ts ≡ true) × (is_on n a.done ≡ true)) (map (told n) ds) → AllByRecursion (λ d. tx_in (doer d) ts ≡ true) ds
doers_in n ts [] a = tt
doers_in n ts (d ∷ ds) a = (subst (λ z. tx_in z ts ≡ true) (done_told n d).2 (a.0).0, doers_in n ts ds a.1)

-- ---- by deeds

by_deeds : (n : ℕ) (start last : KeyMap) (ts : List TxId) (ds : List Deed) → IsRising start → AreDistinct ts
    → AllByRecursion (λ a. (tx_in a.tx ts ≡ true) × (is_on n a.done ≡ true)) (map (told n) ds)
    → AllByRecursion (λ t. are_numbered 0 [] (numbered (part_on n t)) ≡ true) (acts_of_each ts (map (told n) ds))
    → AnswersFrom start [] (map (told n) ds) last → MeetInOrder ts (map (told n) ds) → NobodyBetween [] (map (told n) ds)
    → ReplaysTo start (parts_of n ts ds) last
by_deeds n start last ts ds rises d within backs base order between =
    let r = answers_back n start [] ds last base in
    let answered = all_answered start [] ds r.0 in
    let later =
    later_back n IsAnswered (λ x y. Clash x y → (x.tx ≡ y.tx) ⊎ (place ts x.tx < place ts y.tx)) (λ a b. Meet a b → (a.tx ≡ b.tx) ⊎ StandsBefore a.tx b.tx ts)
    (λ x y p q k c. ⊎_elim (λ e. inl e) (λ b. inr (at_place x.tx y.tx ts d b)) (k (meet_of n x y p q c))) ds answered order in
    let q = serial_of ts start ds (to_once ts d) rises r.0 later (between_back n [] ds tt answered between) (doers_in n ts ds within) (backs_in_order n ts ds backs) in
    (ap (replay_answers start) (each_acts n ts ds) ∙ q.0 ∙ sym (each_answers n ts ds), ap (replay_map start) (each_acts n ts ds) ∙ q.1 ∙ r.1)

pub acts_replay : ActsReplay
acts_replay n start last ts as_ rises d within backs base order between =
    let e = acts_are_deeds n as_ (all_mono _ _ (λ a p. p.1) as_ within) in
    subst (λ l. ReplaysTo start (map (part_on n) (acts_of_each ts l)) last) e
    (by_deeds n start last ts (deeds_told as_) rises d (subst (AllByRecursion (λ a. (tx_in a.tx ts ≡ true) × (is_on n a.done ≡ true))) (sym e) within)
    (subst (λ l. AllByRecursion (λ t. are_numbered 0 [] (numbered (part_on n t)) ≡ true) (acts_of_each ts l)) (sym e) backs) (subst (λ l. AnswersFrom start [] l last) (sym e) base) (subst (MeetInOrder ts) (sym e) order) (subst (NobodyBetween []) (sym e) between))

-- ---- the members have their own

one_own : (t : TxId) (n : ℕ) (e : Event) (o : Outcome) (as_ : List Act) (xs : List ShardAct) → own_of t as_ ≡ xs → own_of t (with_act (act_of n e o) as_) ≡ elim (act_on t n e o) [ Some x ↦ x ∷ xs | None ↦ xs ]
one_own t n (OpEvent tx birth nth seen op) (Answered a epoch) as_ xs e =
    ap (λ b. map (λ a. a.done) (cond b (record { tx = tx; done = OnShard n nth op a } ∷ filter (λ a. tx_same a.tx t) as_) (filter (λ a. tx_same a.tx t) as_))) (same_flip tx t) ∙ at (tx_same t tx)
  where
    at : (b : Bool) → map (λ a. a.done) (cond b (record { tx = tx; done = OnShard n nth op a } ∷ filter (λ a. tx_same a.tx t) as_) (filter (λ a. tx_same a.tx t) as_))
        ≡ elim (cond {A = Option ShardAct} b (Some (OnShard n nth op a)) None) [ Some x ↦ x ∷ xs | None ↦ xs ]
    at true = ap (λ l. OnShard n nth op a ∷ l) e
    at false = e
one_own t n (OpEvent tx birth nth seen op) _ as_ xs e = e
one_own t n (RollTo tx nth seen upto) Rolled as_ xs e =
    ap (λ b. map (λ a. a.done) (cond b (record { tx = tx; done = BackOn n nth upto } ∷ filter (λ a. tx_same a.tx t) as_) (filter (λ a. tx_same a.tx t) as_))) (same_flip tx t) ∙ at (tx_same t tx)
  where
    at : (b : Bool) → map (λ a. a.done) (cond b (record { tx = tx; done = BackOn n nth upto } ∷ filter (λ a. tx_same a.tx t) as_) (filter (λ a. tx_same a.tx t) as_))
        ≡ elim (cond {A = Option ShardAct} b (Some (BackOn n nth upto)) None) [ Some x ↦ x ∷ xs | None ↦ xs ]
    at true = ap (λ l. BackOn n nth upto ∷ l) e
    at false = e
one_own t n (RollTo tx nth seen upto) _ as_ xs e = e
one_own t n _ o as_ xs e = e

own_acts : (t : TxId) (h : History) → own_of t (acts h) ≡ shard_acts_in t h
own_acts t [] = refl
own_acts t (e ∷ es) = one_own t e.0 (e.1).event (e.1).outcome (acts es) (shard_acts_in t es) (own_acts t es)

-- a transaction's are all kept where it is
own_kept : (keep : TxId → Bool) (t : TxId) (as_ : List Act) → keep t ≡ true → filter (λ a. tx_same a.tx t) (filter (λ a. keep a.tx) as_) ≡ filter (λ a. tx_same a.tx t) as_
own_kept keep t [] k = refl
own_kept keep t (a ∷ as_) k = at (keep a.tx) (tx_same a.tx t) refl refl (own_kept keep t as_ k)
  where
    at : (b c : Bool) → keep a.tx ≡ b → tx_same a.tx t ≡ c → filter (λ a. tx_same a.tx t) (filter (λ a. keep a.tx) as_) ≡ filter (λ a. tx_same a.tx t) as_
        → filter (λ a. tx_same a.tx t) (cond b (a ∷ filter (λ a. keep a.tx) as_) (filter (λ a. keep a.tx) as_)) ≡ cond c (a ∷ filter (λ a. tx_same a.tx t) as_) (filter (λ a. tx_same a.tx t) as_)
    at true c p q i = ap (λ d. cond d (a ∷ filter (λ a. tx_same a.tx t) (filter (λ a. keep a.tx) as_)) (filter (λ a. tx_same a.tx t) (filter (λ a. keep a.tx) as_))) q ∙ ap (λ l. cond c (a ∷ l) l) i
    at false true p q i = absurd (both_ways (keep a.tx) p (subst (λ z. keep z ≡ true) (sym (tx_true a.tx t q)) k))
    at false false p q i = i

members_own : (h : History) (keep : TxId → Bool) (ms : List Member) → ((t : TxId) → tx_in t (map (λ m. m.tx) ms) ≡ true → keep t ≡ true)
    → acts_of_each (map (λ m. m.tx) ms) (filter (λ a. keep a.tx) (acts h)) ≡ map (λ m. shard_acts_in m.tx h) ms
members_own h keep [] k = refl
members_own h keep (m ∷ ms) k =
    ap (λ l. l ∷ acts_of_each (map (λ m. m.tx) ms) (filter (λ a. keep a.tx) (acts h))) (ap (map (λ a. a.done)) (own_kept keep m.tx (acts h) (k m.tx (or_left (tx_same m.tx m.tx) _ (tx_self m.tx)))) ∙ own_acts m.tx h)
    ∙ ap (λ l. shard_acts_in m.tx h ∷ l) (members_own h keep ms (λ t i. k t (or_right (tx_same m.tx t) _ i)))

of_once : (ts : List TxId) → Once ts → AreDistinct ts
of_once [] d = tt
of_once (t ∷ ts) d = (d.0, of_once ts d.1)

once_second : (xs ys : List TxId) → Once (xs ++ ys) → Once ys
once_second [] ys d = d
once_second (x ∷ xs) ys d = once_second xs ys d.1

pub members_have_their_acts : MembersHaveTheirActs
members_have_their_acts splits before h after_ choice l =
    let ms = serial_left splits before h after_ choice in
    let first : 0 < shard_count splits = omega arith in
    let b = held_now 0 (run_after before) (log_of before 0) _ _ (leads l choice 0 first) in
    let once = once_filter (chosen splits before h after_ choice 0) (requests_of h) (once_second (found_asked 0 (log_of before 0)) (requests_of h) b.5) in (
      of_once _ (subst Once (sym (chosen_are_members l choice 0 first)) once),
      members_own h (is_member splits before h after_ choice) ms (λ t i. i),
      all_of_map (λ xs. goes_whole xs ≡ true) (λ m. shard_acts_in m.tx h) ms (members_go_whole splits before h after_ choice l.legal),
    )

-- ---- so they replay

-- a shard has of a transaction's acts what it has of those of them that are on it
part_same : (n : ℕ) (t : TxId) (as_ : List Act) → part_on n (own_of t (on n as_)) ≡ part_on n (own_of t as_)
part_same n t [] = refl
part_same n t (a ∷ as_) = at (is_on n a.done) (tx_same a.tx t) refl refl (part_same n t as_)
  where
    at : (b c : Bool) → is_on n a.done ≡ b → tx_same a.tx t ≡ c → part_on n (own_of t (on n as_)) ≡ part_on n (own_of t as_)
        → part_on n (map (λ a. a.done) (filter (λ a. tx_same a.tx t) (cond b (a ∷ on n as_) (on n as_)))) ≡ part_on n (map (λ a. a.done) (cond c (a ∷ filter (λ a. tx_same a.tx t) as_) (filter (λ a. tx_same a.tx t) as_)))
    at true true q r i =
        ap (λ c. part_on n (map (λ a. a.done) (cond c (a ∷ filter (λ a. tx_same a.tx t) (on n as_)) (filter (λ a. tx_same a.tx t) (on n as_))))) r
        ∙ ap (λ l. cond (is_on n a.done) (done_act a.done ∷ l) l) i
    at true false q r i = ap (λ c. part_on n (map (λ a. a.done) (cond c (a ∷ filter (λ a. tx_same a.tx t) (on n as_)) (filter (λ a. tx_same a.tx t) (on n as_))))) r ∙ i
    at false true q r i = i ∙ sym (cond-false (is_on n a.done) (done_act a.done ∷ part_on n (own_of t as_)) (part_on n (own_of t as_)) q)
    at false false q r i = i

parts_same : (n : ℕ) (ts : List TxId) (as_ : List Act) → map (part_on n) (acts_of_each ts (on n as_)) ≡ map (part_on n) (acts_of_each ts as_)
parts_same n [] as_ = refl
parts_same n (t ∷ ts) as_ = ap (λ l. l ∷ map (part_on n) (acts_of_each ts (on n as_))) (part_same n t as_) ∙ ap (λ l. part_on n (own_of t as_) ∷ l) (parts_same n ts as_)

numbered_on : (n : ℕ) (ts : List TxId) (as_ : List Act) → AllByRecursion (λ xs. goes_whole xs ≡ true) (acts_of_each ts as_) → AllByRecursion (λ xs. are_numbered 0 [] (numbered (part_on n xs)) ≡ true) (acts_of_each ts (on n as_))
numbered_on n ts as_ a =
    all_to_map (λ xs. are_numbered 0 [] (numbered (part_on n xs)) ≡ true) (λ t. own_of t (on n as_)) ts
    (all_mono _ _ (λ t w. subst (λ l. are_numbered 0 [] (numbered l) ≡ true) (sym (part_same n t as_)) ((parts_are_numbered (own_of t as_) w).0 n)) ts (all_of_map (λ xs. goes_whole xs ≡ true) (λ t. own_of t as_) ts a))

pub members_replay_by_acts : MembersReplay
members_replay_by_acts splits before h after_ choice l = members_replay_by_parts splits before h after_ choice l on_each
  where
    as_ : List Act
    as_ = member_acts splits before h after_ choice

    ts : List TxId
    ts = transactions_of (serial_left splits before h after_ choice)

    each : (xs : List Act) → AllByRecursion (λ a. Unit {0}) xs
    each [] = tt
    each (x ∷ xs) = (tt, each xs)

    within : AllByRecursion (λ a. tx_in a.tx ts ≡ true) as_
    within = all_mono _ _ (λ a p. p.1) as_ (all_filter (λ a. Unit {0}) (λ a. is_member splits before h after_ choice a.tx) (acts h) (each (acts h)))

    on_each : (n : ℕ) → n < shard_count splits → ReplaysTo (share_of before n) (parts_on n (acts_of_members h (serial_left splits before h after_ choice))) (share_of (logs_left splits before h after_ choice) n)
    on_each n i =
        let own = members_have_their_acts splits before h after_ choice l in
        let found = logs_agree splits before l.legal.splits_rise (l.legal.each_log.0, only_passes splits 0 before (and_parts (all_logs_from 0 (log_passes splits) before) (is_none (apart before)) l.opens).0) in
        let whole = subst (AllByRecursion (λ xs. goes_whole xs ≡ true)) (sym own.1) (all_to_map (λ xs. goes_whole xs ≡ true) (λ m. shard_acts_in m.tx h) (serial_left splits before h after_ choice) own.2) in
        let order = (meetings_follow_places splits before h after_ choice l).0 in
        subst (λ l. ReplaysTo (share_of before n) l (share_of (logs_left splits before h after_ choice) n)) (parts_same n ts as_ ∙ ap (map (part_on n)) own.1)
        (acts_replay n (share_of before n) (share_of (logs_left splits before h after_ choice) n) ts (on n as_) (found.shares_rise n i) own.0 (all_filter (λ a. tx_in a.tx ts ≡ true) (λ a. is_on n a.done) as_ within)
        (numbered_on n ts as_ whole) (answers_on splits before h after_ choice l n i) (later_mono _ _ (λ a b p. p.0) (on n as_) (later_filter _ (λ a. is_on n a.done) as_ order)) (between_one l choice n i))
