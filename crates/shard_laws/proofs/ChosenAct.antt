-- What the chosen ones did, in the order in which they did it.
use Rattle.std.proofs.Common.{◌≡◌, ℕ, ◌≤◌, ◌<◌, ◌⊎◌, Bool, true, false, cond, not, ◌&&◌, nat_lt, List, [], ◌∷◌, ◌++◌, length, refl, sym, ap, subst, ◌∙◌, arith, append-nil, append_assoc}
use Rattle.std.specs.Prelude.{take}
use Rattle.std.specs.List.{AllByRecursion, filter}
use Rattle.std.proofs.lemmas.Bool.{both_ways, cond-true}
use Rattle.std.proofs.lemmas.List.{append_cancel_left}
use Rattle.std.proofs.lemmas.List.Elements.{filter-append}
use Rattle.clv_base.specs.declared.names.TxId.{TxId}
use Rattle.clv_base.specs.Orders.{tx_same}
use Rattle.clv_base.specs.Maps.{KeyMap, op_answer, op_after}
use Rattle.clv_base.specs.Logs.{stands}
use Rattle.clv_base.proofs.SameNames.{tx_self, tx_eq, tx_ne}
use Rattle.law_base.specs.Items.{Item, Deed, Did, WentBack, is_beyond, held_with, held_from, held, Answers, ActsFrom, Acts, after, AllLater, Clash}
use Rattle.law_base.proofs.Lists.{all_mono, all_both, all_of, all_kept}
use Rattle.law_base.proofs.Tables.{is_pair}
use Rattle.shard_laws.specs.OneShard.{doer, deeds_of, deeds_by_chosen, items_in, NobodyBetween, MayChoose, map_chosen, map_found, found_items, found_met, ChosenAct}
use Rattle.shard_laws.proofs.Restarts.OperationsAlone.{alone, alone_chosen}
use Rattle.shard_laws.proofs.Restarts.OpeningKeeps.{doubt_asked, items_doubted}
use Rattle.shard_laws.proofs.Keeping.WhatOneShardKeeps.{place}
use Rattle.shard_laws.proofs.Events.DueKeeps.{did, as_done, PartOf, nothing, also, only}
use Rattle.shard_laws.proofs.Cuts.MembersRunSerially.{Once}
use Rattle.shard_laws.proofs.AnswersAndMap.{held as held_now}
use Rattle.shard_laws.proofs.ChosenReplay.{kept_acts, kept_between, kept_order, same_chosen, own_deeds, chosen_stand_before}
use Rattle.shard_laws.proofs.LaterReplay.{found_stays, firsts_map}

-- ---- a list with deeds left out, of which no transaction's are, is the list

no_more : (t : TxId) (xs ys : List Deed) → PartOf xs ys → length (deeds_of t xs) ≤ length (deeds_of t ys)
no_more t _ _ nothing = omega arith
no_more t _ _ (also x {xs = xs} {ys = ys} p) = at (tx_same (doer x) t) (no_more t xs ys p)
  where
    at : (b : Bool) → length (deeds_of t xs) ≤ length (deeds_of t ys) → length (cond b (x ∷ deeds_of t xs) (deeds_of t xs)) ≤ length (cond b (x ∷ deeds_of t ys) (deeds_of t ys))
    at true l = omega (arith, l)
    at false l = l
no_more t xs _ (only y {ys = ys} p) = at (tx_same (doer y) t) (no_more t xs ys p)
  where
    at : (b : Bool) → length (deeds_of t xs) ≤ length (deeds_of t ys) → length (deeds_of t xs) ≤ length (cond b (y ∷ deeds_of t ys) (deeds_of t ys))
    at true l = omega (arith, l)
    at false l = l

same_part : (xs ys : List Deed) → PartOf xs ys → AllByRecursion (λ y. length (deeds_of (doer y) ys) ≤ length (deeds_of (doer y) xs)) ys → xs ≡ ys
same_part xs ys p a = by xs ys p (λ t. length (deeds_of t ys) ≤ length (deeds_of t xs)) (λ t l. l) a
  where
    -- each step takes one deed from both
    by : (us vs : List Deed) → PartOf us vs → (P : TxId → Type 0) → ((t : TxId) → P t → length (deeds_of t vs) ≤ length (deeds_of t us)) → AllByRecursion (λ y. P (doer y)) vs → us ≡ vs
    by _ _ nothing P k b = refl
    by _ _ (also x {xs = us} {ys = vs} q) P k b = ap (λ l. x ∷ l) (by us vs q P (λ t l. less t (tx_same (doer x) t) (k t l)) b.1)
      where
        less : (t : TxId) (c : Bool) → length (cond c (x ∷ deeds_of t vs) (deeds_of t vs)) ≤ length (cond c (x ∷ deeds_of t us) (deeds_of t us)) → length (deeds_of t vs) ≤ length (deeds_of t us)
        less t true l = omega (arith, l)
        less t false l = l
    by us _ (only y {ys = vs} q) P k b =
        absurd (let l = k (doer y) b.0 in
        let m = no_more (doer y) us vs q in
        let e : deeds_of (doer y) (y ∷ vs) ≡ y ∷ deeds_of (doer y) vs = cond-true (tx_same (doer y) (doer y)) (y ∷ deeds_of (doer y) vs) (deeds_of (doer y) vs) (tx_self (doer y)) in
        let f = ap length e in
        omega (arith, l, m, f))

-- ---- parts of parts

part_both : (f : Deed → Bool) (xs ys : List Deed) → PartOf xs ys → PartOf (filter f xs) (filter f ys)
part_both f _ _ nothing = nothing
part_both f _ _ (also x {xs = xs} {ys = ys} p) = at (f x) (part_both f xs ys p)
  where
    at : (b : Bool) → PartOf (filter f xs) (filter f ys) → PartOf (cond b (x ∷ filter f xs) (filter f xs)) (cond b (x ∷ filter f ys) (filter f ys))
    at true q = also x q
    at false q = q
part_both f xs _ (only y {ys = ys} p) = at (f y) (part_both f xs ys p)
  where
    at : (b : Bool) → PartOf (filter f xs) (filter f ys) → PartOf (filter f xs) (cond b (y ∷ filter f ys) (filter f ys))
    at true q = only y q
    at false q = q

part_of_filter : (f : Deed → Bool) (ys : List Deed) → PartOf (filter f ys) ys
part_of_filter f [] = nothing
part_of_filter f (y ∷ ys) = at (f y) (part_of_filter f ys)
  where
    at : (b : Bool) → PartOf (filter f ys) ys → PartOf (cond b (y ∷ filter f ys) (filter f ys)) (y ∷ ys)
    at true q = also y q
    at false q = only y q

all_pass : (keep : TxId → Bool) (xs : List Deed) → AllByRecursion (λ x. keep (doer x) ≡ true) (filter (λ x. keep (doer x)) xs)
all_pass keep [] = tt
all_pass keep (x ∷ xs) = at (keep (doer x)) refl (all_pass keep xs)
  where
    at : (b : Bool) → keep (doer x) ≡ b → AllByRecursion (λ x. keep (doer x) ≡ true) (filter (λ x. keep (doer x)) xs) → AllByRecursion (λ x. keep (doer x) ≡ true) (cond b (x ∷ filter (λ x. keep (doer x)) xs) (filter (λ x. keep (doer x)) xs))
    at true e k = (e, k)
    at false e k = k

all_from : {P Q : Deed → Type 0} → ((x : Deed) → P x → Q x) → (xs : List Deed) → AllByRecursion P xs → AllByRecursion Q xs
all_from k [] a = tt
all_from k (x ∷ xs) a = (k x a.0, all_from k xs a.1)

-- ---- deeds in two parts, where none of the second is of a transaction of the first

abbrev NotOf : List Item → Deed → Type 0
NotOf xs d = AllByRecursion (λ x. x.tx ≡ doer d → ⊥) xs

after_second : (m : KeyMap) (xs ys : List Item) → after m (xs ++ ys) ≡ after (after m xs) ys
after_second m [] ys = refl
after_second m (x ∷ xs) ys = after_second (op_after x.op m) xs ys

none_taken : (t : TxId) (u : ℕ) (xs : List Item) → AllByRecursion (λ x. x.tx ≡ t → ⊥) xs → filter (λ x. not (is_beyond t u x)) xs ≡ xs
none_taken t u [] n = refl
none_taken t u (x ∷ xs) n =
    ap (λ b. cond (not b) (x ∷ filter (λ x. not (is_beyond t u x)) xs) (filter (λ x. not (is_beyond t u x)) xs)) (ap (λ b. b && nat_lt u x.number) (tx_ne x.tx t n.0)) ∙ ap (λ l. x ∷ l) (none_taken t u xs n.1)

held_second : (xs ys : List Item) (d : Deed) → NotOf xs d → held_with (xs ++ ys) d ≡ xs ++ held_with ys d
held_second xs ys (Did y) n = append_assoc xs ys (y ∷ [])
held_second xs ys (WentBack t number u) n = filter-append (λ x. not (is_beyond t u x)) xs ys ∙ ap (λ l. l ++ filter (λ x. not (is_beyond t u x)) ys) (none_taken t u xs n)

held_on : (xs ys : List Item) (ds : List Deed) → AllByRecursion (NotOf xs) ds → held_from (xs ++ ys) ds ≡ xs ++ held_from ys ds
held_on xs ys [] n = refl
held_on xs ys (d ∷ ds) n = ap (λ l. held_from l ds) (held_second xs ys d n.0) ∙ held_on xs (held_with ys d) ds n.1

acts_on : (m : KeyMap) (xs ys : List Item) (ds : List Deed) → AllByRecursion (NotOf xs) ds → ActsFrom m (xs ++ ys) ds → ActsFrom (after m xs) ys ds
acts_on m xs ys [] n a = tt
acts_on m xs ys (d ∷ ds) n a = (one d a.0, acts_on m xs (held_with ys d) ds n.1 (subst (λ l. ActsFrom m l ds) (held_second xs ys d n.0) a.1))
  where
    one : (e : Deed) → Answers m (xs ++ ys) e → Answers (after m xs) ys e
    one (Did y) r = subst (λ n. y.answer ≡ op_answer y.op n) (after_second m xs ys) r
    one (WentBack t number u) r = tt

-- behind operations alone
acts_behind : (m : KeyMap) (xs ys : List Item) (ds : List Deed) → ActsFrom m ys (alone xs ++ ds) → ActsFrom m (ys ++ xs) ds
acts_behind m [] ys ds a = subst (λ l. ActsFrom m l ds) (sym (append-nil ys)) a
acts_behind m (x ∷ xs) ys ds a = subst (λ l. ActsFrom m l ds) (append_assoc ys (x ∷ []) xs) (acts_behind m xs (ys ++ x ∷ []) ds a.1)

held_behind : (xs ys : List Item) (ds : List Deed) → held_from ys (alone xs ++ ds) ≡ held_from (ys ++ xs) ds
held_behind [] ys ds = ap (λ l. held_from l ds) (sym (append-nil ys))
held_behind (x ∷ xs) ys ds = held_behind xs (ys ++ x ∷ []) ds ∙ ap (λ l. held_from l ds) (append_assoc ys (x ∷ []) xs)

between_behind : (xs ys : List Item) (ds : List Deed) → NobodyBetween ys (alone xs ++ ds) → NobodyBetween (ys ++ xs) ds
between_behind [] ys ds a = subst (λ l. NobodyBetween l ds) (sym (append-nil ys)) a
between_behind (x ∷ xs) ys ds a = subst (λ l. NobodyBetween l ds) (append_assoc ys (x ∷ []) xs) (between_behind xs (ys ++ x ∷ []) ds a)

later_second : {I : Type 0} (R : I → I → Type 0) (xs ys : List I) → AllLater R (xs ++ ys) → AllLater R ys
later_second R [] ys a = a
later_second R (x ∷ xs) ys a = later_second R xs ys a.1

between_second : (xs ys : List Item) (ds : List Deed) → NobodyBetween (xs ++ ys) ds → NobodyBetween ys ds
between_second xs ys [] a = tt
between_second xs ys (Did y ∷ ds) a = between_second xs (ys ++ y ∷ []) ds (subst (λ l. NobodyBetween l ds) (append_assoc xs ys (y ∷ [])) a)
between_second xs ys (WentBack t number u ∷ ds) a = (later_second _ xs ys a.0, between_second xs ys ds a.1)

items_behind : (xs : List Item) (ds : List Deed) → items_in (alone xs ++ ds) ≡ xs ++ items_in ds
items_behind [] ds = refl
items_behind (x ∷ xs) ds = ap (λ l. x ∷ l) (items_behind xs ds)

-- none of the deeds behind is of one whose deeds are all before
none_behind : (xs ys : List Deed) (u : TxId) → deeds_of u (xs ++ ys) ≡ deeds_of u xs → deeds_of u ys ≡ []
none_behind xs ys u e = append_cancel_left (deeds_of u xs) (deeds_of u ys) [] (sym (filter-append (λ d. tx_same (doer d) u) xs ys) ∙ e ∙ sym (append-nil (deeds_of u xs)))

not_own : (u : TxId) (ys : List Deed) → deeds_of u ys ≡ [] → AllByRecursion (λ d. doer d ≡ u → ⊥) ys
not_own u [] e = tt
not_own u (d ∷ ds) e = at (tx_same (doer d) u) refl e (not_own u ds)
  where
    none_two : (x : Deed) (xs : List Deed) → x ∷ xs ≡ [] → ⊥
    none_two x xs e = absurd cc

    at : (b : Bool) → tx_same (doer d) u ≡ b → cond b (d ∷ deeds_of u ds) (deeds_of u ds) ≡ [] → (deeds_of u ds ≡ [] → AllByRecursion (λ d. doer d ≡ u → ⊥) ds) → AllByRecursion (λ d. doer d ≡ u → ⊥) (d ∷ ds)
    at true s e k = absurd (none_two d (deeds_of u ds) e)
    at false s e k = ((λ q. both_ways _ s (tx_eq (doer d) u q)), k e)

-- of each of these none is
apart_from : (xs : List Item) (ds : List Deed) → AllByRecursion (λ x. deeds_of x.tx ds ≡ []) xs → AllByRecursion (NotOf xs) ds
apart_from [] ds a = all_of _ (λ d. tt) ds
apart_from (x ∷ xs) ds a = all_mono _ _ (λ d h. ((λ s. h.0 (sym s)), h.1)) ds (all_both (λ d. doer d ≡ x.tx → ⊥) (NotOf xs) ds (not_own x.tx ds a.0) (apart_from xs ds a.1))

pub chosen_act : ChosenAct
chosen_act shard run before d s cut chosen done leads le may split =
    let b = held_now shard run before d s leads in
    let g = b.0 in
    let once : Once g.asked = subst Once (sym b.4) b.5 in
    let may2 : MayChoose s cut (did d.done d.told g) chosen = subst (λ x. MayChoose s cut x chosen) (sym (as_done d g b.4 b.7 b.8)) may in
    let k = found_stays shard run before d s leads in
    let closed : (t p : TxId) → is_pair (found_met shard before) t p ≡ true → chosen t ≡ true → chosen p ≡ true = λ t p e c. (chosen_stand_before shard run before d s cut chosen t p leads le may (k.pairs t p e) c).0 in
    let own : (t : TxId) → chosen t ≡ true → deeds_of t (deeds_by_chosen chosen g.done) ≡ deeds_of t d.done = own_deeds d.done g s d.told cut chosen b.1 le once b.6 b.9 may2 in
    let same : deeds_by_chosen chosen g.done ≡ deeds_by_chosen chosen d.done =
    same_part (deeds_by_chosen chosen g.done) (deeds_by_chosen chosen d.done) (part_both (λ x. chosen (doer x)) g.done d.done (b.1).within)
    (all_from (λ x c. let e = ap length (own (doer x) c) in let m = no_more (doer x) (deeds_by_chosen chosen d.done) d.done (part_of_filter (λ x. chosen (doer x)) d.done) in omega (arith, e, m)) (deeds_by_chosen chosen d.done) (all_pass chosen d.done)) in
    let found = found_items shard before in
    let picks = filter (λ x. chosen x.tx) found in
    let rest = deeds_by_chosen chosen done in
    let whole : deeds_by_chosen chosen g.done ≡ alone picks ++ rest = same ∙ ap (deeds_by_chosen chosen) split ∙ filter-append (λ x. chosen (doer x)) (alone found) done ∙ ap (λ l. l ++ rest) (alone_chosen chosen found) in
    let start = stands (before ∷ []) in
    let old : AllByRecursion (λ x. deeds_of x.tx done ≡ []) found =
    all_mono _ _ (λ x i. none_behind (alone found) done x.tx (sym (ap (deeds_of x.tx) split) ∙ k.same x.tx (doubt_asked shard run before k.may x.tx i))) found (items_doubted shard run before k.may) in
    let apart : AllByRecursion (NotOf picks) rest = all_kept _ (λ x. chosen (doer x)) done (all_mono _ _ (λ e n. all_kept _ (λ x. chosen x.tx) found n) done (apart_from found done old)) in
    let acts : ActsFrom start [] (alone picks ++ rest) = subst (λ m. Acts m (alone picks ++ rest)) b.2 (subst (Acts g.start) whole (kept_acts d.done g s d.told cut chosen b.1 le once b.6 b.9 may2)) in
    let first : after start picks ≡ map_found shard before chosen = firsts_map shard run before k.may chosen closed in
    let holds : held (alone picks ++ rest) ≡ picks ++ held rest = held_behind picks [] rest ∙ sym (ap (λ l. held_from l rest) (append-nil picks)) ∙ held_on picks [] rest apart in
    let ends : after start (picks ++ held rest) ≡ map_chosen s.shard (take cut s.local.log) chosen =
    ap (after start) (sym holds) ∙ ap (λ m. after m (held (alone picks ++ rest))) (sym b.2) ∙ ap (λ l. after g.start (held l)) (sym whole) ∙ same_chosen d.done g s d.told cut chosen b.1 le once b.6 b.9 may2 in
    let order = kept_order d.done g s d.told cut chosen b.1 le once b.6 b.9 may2 in
    let between : NobodyBetween [] (alone picks ++ rest) = subst (NobodyBetween []) whole (kept_between d.done g s d.told cut chosen b.1 le once b.6 b.9 may2) in (
      subst (λ m. Acts m rest) first (acts_on start picks [] rest apart (subst (λ l. ActsFrom start l rest) (sym (append-nil picks)) (acts_behind start picks [] rest acts))),
      ap (λ m. after m (held rest)) (sym first) ∙ sym (after_second start picks (held rest)) ∙ ends,
      later_second _ picks (items_in rest) (subst (AllLater _) (items_behind picks rest) (subst (λ l. AllLater (λ x y. Clash x y → (x.tx ≡ y.tx) ⊎ (place (filter chosen l) x.tx < place (filter chosen l) y.tx)) (items_in (alone picks ++ rest))) b.4 (subst (λ l. AllLater (λ x y. Clash x y → (x.tx ≡ y.tx) ⊎ (place (filter chosen g.asked) x.tx < place (filter chosen g.asked) y.tx)) (items_in l)) whole order))),
      between_second picks [] rest (subst (λ l. NobodyBetween l rest) (sym (append-nil picks)) (between_behind picks [] rest between)),
    )
