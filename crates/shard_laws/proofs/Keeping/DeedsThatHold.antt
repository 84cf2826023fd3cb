-- Deeds one after another: which operations hold, and what is left where all deeds of some transactions are left out.
use Rattle.std.proofs.Common.{◌≡◌, ◌<◌, ◌≤◌, inl, Bool, true, false, cond, not, nat_lt, List, [], ◌∷◌, ◌++◌, refl, sym, ap, subst, ◌∙◌, arith, append-nil, append_assoc, ℕ}
use Rattle.std.specs.List.{AllByRecursion, filter}
use Rattle.std.proofs.lemmas.Bool.{both_ways, and_parts, and_from, not-true, false_from_ne_true, lt-ltb, ltb-true}
use Rattle.std.proofs.lemmas.List.Elements.{filter-append}
use Rattle.clv_base.specs.declared.names.TxId.{TxId}
use Rattle.clv_base.specs.Orders.{tx_same}
use Rattle.clv_base.specs.Maps.{KeyMap, op_answer, op_after}
use Rattle.clv_base.specs.Folding.{IsRising}
use Rattle.clv_base.proofs.SameNames.{tx_true}
use Rattle.law_base.specs.Items.{Item, Deed, Did, WentBack, is_beyond, held_with, held_from, held, Answers, ActsFrom, Acts, writes, Runs, after, AllLater, Reaches, Clash}
use Rattle.law_base.proofs.Lists.{all_mono, all_both, all_filter, all_kept, all_push, later_mono, later_filter, later_push, filters_swap}
use Rattle.law_base.proofs.Running.{Keeps, kept_runs, runs_push, write_met}
use Rattle.shard_laws.specs.OneShard.{doer, number_of, items_in, deeds_by_chosen, IsApartFrom, NobodyBetween}

-- each operation with each that held when it was done
abbrev pub MeetsHeld : (Item → Item → Type 0) → List Item → Deed → Type 0
MeetsHeld R xs (Did y) = AllByRecursion (λ x. R x y) xs
MeetsHeld R xs (WentBack tx number upto) = Unit {0}

abbrev pub MetFrom : (Item → Item → Type 0) → List Item → List Deed → Type 0
MetFrom R xs [] = Unit {0}
MetFrom R xs (d ∷ ds) = MeetsHeld R xs d × MetFrom R (held_with xs d) ds

abbrev pub AllMet : (Item → Item → Type 0) → List Deed → Type 0
AllMet R ds = MetFrom R [] ds

-- a transaction's deeds come with rising numbers
abbrev pub Rise : Deed → Deed → Type 0
Rise d e = doer d ≡ doer e → number_of d ≤ number_of e

-- ---- one deed more

pub held_from_push : (xs : List Item) (ds : List Deed) (d : Deed) → held_from xs (ds ++ d ∷ []) ≡ held_with (held_from xs ds) d
held_from_push xs [] d = refl
held_from_push xs (e ∷ es) d = held_from_push (held_with xs e) es d

pub held_push : (ds : List Deed) (d : Deed) → held (ds ++ d ∷ []) ≡ held_with (held ds) d
held_push ds d = held_from_push [] ds d

pub items_append : (ds es : List Deed) → items_in (ds ++ es) ≡ items_in ds ++ items_in es
items_append [] es = refl
items_append (Did x ∷ ds) es = ap (λ l. x ∷ l) (items_append ds es)
items_append (WentBack tx number upto ∷ ds) es = items_append ds es

pub items_back : (ds : List Deed) (tx : TxId) (number upto : ℕ) → items_in (ds ++ WentBack tx number upto ∷ []) ≡ items_in ds
items_back ds tx number upto = items_append ds (WentBack tx number upto ∷ []) ∙ append-nil (items_in ds)

acts_push_from : (m : KeyMap) (xs : List Item) (ds : List Deed) (d : Deed) → ActsFrom m xs ds → Answers m (held_from xs ds) d → ActsFrom m xs (ds ++ d ∷ [])
acts_push_from m xs [] d a n = (n, tt)
acts_push_from m xs (e ∷ es) d a n = (a.0, acts_push_from m (held_with xs e) es d a.1 n)

pub acts_push : (m : KeyMap) (ds : List Deed) (d : Deed) → Acts m ds → Answers m (held ds) d → Acts m (ds ++ d ∷ [])
acts_push m ds d a n = acts_push_from m [] ds d a n

met_push_from : (R : Item → Item → Type 0) (xs : List Item) (ds : List Deed) (d : Deed) → MetFrom R xs ds → MeetsHeld R (held_from xs ds) d → MetFrom R xs (ds ++ d ∷ [])
met_push_from R xs [] d a n = (n, tt)
met_push_from R xs (e ∷ es) d a n = (a.0, met_push_from R (held_with xs e) es d a.1 n)

pub met_push : (R : Item → Item → Type 0) (ds : List Deed) (d : Deed) → AllMet R ds → MeetsHeld R (held ds) d → AllMet R (ds ++ d ∷ [])
met_push R ds d a n = met_push_from R [] ds d a n

abbrev pub Between : List Item → Deed → Type 0
Between xs (Did x) = Unit {0}
Between xs (WentBack tx number upto) = AllLater (λ x y. is_beyond tx upto x ≡ true → IsApartFrom x y) xs

between_push_from : (xs : List Item) (ds : List Deed) (d : Deed) → NobodyBetween xs ds → Between (xs ++ items_in ds) d → NobodyBetween xs (ds ++ d ∷ [])
between_push_from xs [] (Did x) a n = tt
between_push_from xs [] (WentBack tx number upto) a n = (subst (AllLater (λ x y. is_beyond tx upto x ≡ true → IsApartFrom x y)) (append-nil xs) n, tt)
between_push_from xs (Did x ∷ es) d a n = between_push_from (xs ++ x ∷ []) es d a (subst (λ l. Between l d) (sym (append_assoc xs (x ∷ []) (items_in es))) n)
between_push_from xs (WentBack tx number upto ∷ es) d a n = (a.0, between_push_from xs es d a.1 n)

pub between_did : (ds : List Deed) (x : Item) → NobodyBetween [] ds → NobodyBetween [] (ds ++ Did x ∷ [])
between_did ds x a = between_push_from [] ds (Did x) a tt

pub between_back : (ds : List Deed) (tx : TxId) (number upto : ℕ) → NobodyBetween [] ds → AllLater (λ x y. is_beyond tx upto x ≡ true → IsApartFrom x y) (items_in ds) → NobodyBetween [] (ds ++ WentBack tx number upto ∷ [])
between_back ds tx number upto a n = between_push_from [] ds (WentBack tx number upto) a n

-- ---- the deeds without the last one

acts_pop_from : (m : KeyMap) (xs : List Item) (ds : List Deed) (d : Deed) → ActsFrom m xs (ds ++ d ∷ []) → ActsFrom m xs ds × Answers m (held_from xs ds) d
acts_pop_from m xs [] d a = (tt, a.0)
acts_pop_from m xs (e ∷ es) d a = let p = acts_pop_from m (held_with xs e) es d a.1 in ((a.0, p.0), p.1)

met_pop_from : (R : Item → Item → Type 0) (xs : List Item) (ds : List Deed) (d : Deed) → MetFrom R xs (ds ++ d ∷ []) → MetFrom R xs ds × MeetsHeld R (held_from xs ds) d
met_pop_from R xs [] d a = (tt, a.0)
met_pop_from R xs (e ∷ es) d a = let p = met_pop_from R (held_with xs e) es d a.1 in ((a.0, p.0), p.1)

pub between_pop_from : (xs : List Item) (ds : List Deed) (d : Deed) → NobodyBetween xs (ds ++ d ∷ []) → NobodyBetween xs ds × Between (xs ++ items_in ds) d
between_pop_from xs [] (Did x) a = (tt, tt)
between_pop_from xs [] (WentBack tx number upto) a = (tt, subst (AllLater (λ x y. is_beyond tx upto x ≡ true → IsApartFrom x y)) (sym (append-nil xs)) a.0)
between_pop_from xs (Did x ∷ es) d a = let p = between_pop_from (xs ++ x ∷ []) es d a in (p.0, subst (λ l. Between l d) (append_assoc xs (x ∷ []) (items_in es)) p.1)
between_pop_from xs (WentBack tx number upto ∷ es) d a = let p = between_pop_from xs es d a.1 in ((a.0, p.0), p.1)

pub acts_pop : (m : KeyMap) (ds : List Deed) (d : Deed) → Acts m (ds ++ d ∷ []) → Acts m ds × Answers m (held ds) d
acts_pop m ds d a = acts_pop_from m [] ds d a

pub met_pop : (R : Item → Item → Type 0) (ds : List Deed) (d : Deed) → AllMet R (ds ++ d ∷ []) → AllMet R ds × MeetsHeld R (held ds) d
met_pop R ds d a = met_pop_from R [] ds d a

pub all_pop : {I : Type 0} (P : I → Type 0) (xs : List I) (x : I) → AllByRecursion P (xs ++ x ∷ []) → AllByRecursion P xs × P x
all_pop P [] x a = (tt, a.0)
all_pop P (y ∷ ys) x a = let p = all_pop P ys x a.1 in ((a.0, p.0), p.1)

pub later_pop : {I : Type 0} (R : I → I → Type 0) (xs : List I) (x : I) → AllLater R (xs ++ x ∷ []) → AllLater R xs × AllByRecursion (λ y. R y x) xs
later_pop R [] x a = (tt, tt)
later_pop R (y ∷ ys) x a = let p = all_pop (R y) ys x a.0 in let q = later_pop R ys x a.1 in ((p.0, q.0), (p.1, q.1))

pub runs_pop : (xs : List Item) (x : Item) (m : KeyMap) → Runs m (xs ++ x ∷ []) → x.answer ≡ op_answer x.op (after m xs)
runs_pop [] x m r = r.0
runs_pop (y ∷ ys) x m r = runs_pop ys x (op_after y.op m) r.1

-- what holds of no deed, and of one more where it holds of the others, holds of all
pub deed_by_deed : (P : List Deed → Type 0) → P [] → ((ds : List Deed) (d : Deed) → P ds → P (ds ++ d ∷ [])) → (ds : List Deed) → P ds
deed_by_deed P none more ds = from [] ds none
  where
    from : (ps es : List Deed) → P ps → P (ps ++ es)
    from ps [] p = subst P (sym (append-nil ps)) p
    from ps (e ∷ es) p = subst P (append_assoc ps (e ∷ []) es) (from (ps ++ e ∷ []) es (more ps e p))

-- ---- what holds is among what was done

pub all_held : (P : Item → Type 0) (ds : List Deed) → AllByRecursion P (items_in ds) → AllByRecursion P (held ds)
all_held P ds all = from [] ds tt all
  where
    from : (xs : List Item) (es : List Deed) → AllByRecursion P xs → AllByRecursion P (items_in es) → AllByRecursion P (held_from xs es)
    from xs [] a b = a
    from xs (Did x ∷ es) a b = from (xs ++ x ∷ []) es (all_push P xs x a b.0) b.1
    from xs (WentBack tx number upto ∷ es) a b = from (filter (λ x. not (is_beyond tx upto x)) xs) es (all_kept P _ xs a) b

later_kept : {I : Type 0} (R : I → I → Type 0) (p : I → Bool) (xs : List I) → AllLater R xs → AllLater R (filter p xs)
later_kept R p xs a = later_mono _ _ (λ x y h. h.0) (filter p xs) (later_filter R p xs a)

pub later_held : (R : Item → Item → Type 0) (ds : List Deed) → AllLater R (items_in ds) → AllLater R (held ds)
later_held R ds = deed_by_deed (λ es. AllLater R (items_in es) → AllLater R (held es)) (λ a. tt) (λ es d ih a. at es d ih a) ds
  where
    at : (es : List Deed) (d : Deed) → (AllLater R (items_in es) → AllLater R (held es)) → AllLater R (items_in (es ++ d ∷ [])) → AllLater R (held (es ++ d ∷ []))
    at es (Did x) ih a = let p = later_pop R (items_in es) x (subst (AllLater R) (items_append es (Did x ∷ [])) a) in
        subst (AllLater R) (sym (held_push es (Did x))) (later_push R (held es) x (ih p.0) (all_held (λ y. R y x) es p.1))
    at es (WentBack tx number upto) ih a = subst (AllLater R) (sym (held_push es (WentBack tx number upto))) (later_kept R _ (held es) (ih (subst (AllLater R) (items_back es tx number upto) a)))

-- of those that hold the later met the earlier
pub met_later : (R : Item → Item → Type 0) (ds : List Deed) → AllMet R ds → AllLater R (held ds)
met_later R ds = deed_by_deed (λ es. AllMet R es → AllLater R (held es)) (λ a. tt) (λ es d ih a. let p = met_pop R es d a in at es d (ih p.0) p.1) ds
  where
    at : (es : List Deed) (d : Deed) → AllLater R (held es) → MeetsHeld R (held es) d → AllLater R (held (es ++ d ∷ []))
    at es (Did x) a m = subst (AllLater R) (sym (held_push es (Did x))) (later_push R (held es) x a m)
    at es (WentBack tx number upto) a m = subst (AllLater R) (sym (held_push es (WentBack tx number upto))) (later_kept R _ (held es) a)

pub met_mono : (R Q : Item → Item → Type 0) → ((x y : Item) → R x y → Q x y) → (ds : List Deed) → AllMet R ds → AllMet Q ds
met_mono R Q h ds a = from [] ds a
  where
    one : (xs : List Item) (d : Deed) → MeetsHeld R xs d → MeetsHeld Q xs d
    one xs (Did y) m = all_mono _ _ (λ x r. h x y r) xs m
    one xs (WentBack tx number upto) m = tt

    from : (xs : List Item) (es : List Deed) → MetFrom R xs es → MetFrom Q xs es
    from xs [] b = tt
    from xs (d ∷ es) b = (one xs d b.0, from (held_with xs d) es b.1)

pub met_both : (R Q : Item → Item → Type 0) (ds : List Deed) → AllMet R ds → AllMet Q ds → AllMet (λ x y. R x y × Q x y) ds
met_both R Q ds a b = from [] ds a b
  where
    one : (xs : List Item) (d : Deed) → MeetsHeld R xs d → MeetsHeld Q xs d → MeetsHeld (λ x y. R x y × Q x y) xs d
    one xs (Did y) m n = all_both _ _ xs m n
    one xs (WentBack tx number upto) m n = tt

    from : (xs : List Item) (es : List Deed) → MetFrom R xs es → MetFrom Q xs es → MetFrom (λ x y. R x y × Q x y) xs es
    from xs [] a b = tt
    from xs (d ∷ es) a b = (one xs d a.0 b.0, from (held_with xs d) es a.1 b.1)

-- what is true of each two operations, the later behind the earlier, is true of each with those that held
pub later_met : (R : Item → Item → Type 0) (ds : List Deed) → AllLater R (items_in ds) → AllMet R ds
later_met R ds = deed_by_deed (λ es. AllLater R (items_in es) → AllMet R es) (λ a. tt) (λ es d ih a. at es d ih a) ds
  where
    at : (es : List Deed) (d : Deed) → (AllLater R (items_in es) → AllMet R es) → AllLater R (items_in (es ++ d ∷ [])) → AllMet R (es ++ d ∷ [])
    at es (Did x) ih a = let p = later_pop R (items_in es) x (subst (AllLater R) (items_append es (Did x ∷ [])) a) in met_push R es (Did x) (ih p.0) (all_held (λ y. R y x) es p.1)
    at es (WentBack tx number upto) ih a = met_push R es (WentBack tx number upto) (ih (subst (AllLater R) (items_back es tx number upto) a)) tt

-- what is true of each deed's doer is true of each operation's transaction, and so for two
pub doers_items : (P : TxId → Type 0) (ds : List Deed) → AllByRecursion (λ d. P (doer d)) ds → AllByRecursion (λ x. P x.tx) (items_in ds)
doers_items P [] a = tt
doers_items P (Did x ∷ ds) a = (a.0, doers_items P ds a.1)
doers_items P (WentBack tx number upto ∷ ds) a = doers_items P ds a.1

abbrev pub ItemsRise : Item → Item → Type 0
ItemsRise x y = x.tx ≡ y.tx → x.number ≤ y.number

deeds_items : (P : Deed → Type 0) (ds : List Deed) → AllByRecursion P ds → AllByRecursion (λ x. P (Did x)) (items_in ds)
deeds_items P [] a = tt
deeds_items P (Did x ∷ ds) a = (a.0, deeds_items P ds a.1)
deeds_items P (WentBack tx number upto ∷ ds) a = deeds_items P ds a.1

pub items_rise : (ds : List Deed) → AllLater Rise ds → AllLater ItemsRise (items_in ds)
items_rise [] a = tt
items_rise (Did x ∷ ds) a = (deeds_items (Rise (Did x)) ds a.0, items_rise ds a.1)
items_rise (WentBack tx number upto ∷ ds) a = items_rise ds a.1

pub later_with : {I : Type 0} (P : I → Type 0) (R : I → I → Type 0) (xs : List I) → AllByRecursion P xs → AllLater R xs → AllLater (λ x y. P x × R x y) xs
later_with P R [] a b = tt
later_with P R (x ∷ xs) a b = (all_mono _ _ (λ y r. (a.0, r)) xs b.0, later_with P R xs a.1 b.1)

-- ---- what holds gives its answers one after another

-- what reaches another meets it at a key that it wrote
pub reach_clash : (x y : Item) → Reaches x y → Clash x y
reach_clash x y (k, w, m, b) = (k, write_met x k w, m, (λ n. absurd (both_ways (writes x k) n w)), b)

-- behind one that is taken back only its own transaction's later ones reached it, and these are taken back too
pub back_keeps : (tx : TxId) (upto : ℕ) (xs : List Item) → AllLater ItemsRise xs → AllLater (λ x y. is_beyond tx upto x ≡ true → IsApartFrom x y) xs → AllLater (Keeps (λ x. not (is_beyond tx upto x))) xs
back_keeps tx upto xs rise apart = later_mono _ _ (λ x y h reach stays. ap not (false_from_ne_true _ (λ gone.
    let same : x.tx ≡ y.tx = h.1 gone (reach_clash x y reach) in
    let g = and_parts (tx_same x.tx tx) (nat_lt upto x.number) gone in
    both_ways _ (not-true _ stays) (beyond x y tx upto same (h.0 same) g.0 g.1)))) xs (later_two ItemsRise _ xs rise apart)
  where
    later_two : (R Q : Item → Item → Type 0) (ys : List Item) → AllLater R ys → AllLater Q ys → AllLater (λ x y. R x y × Q x y) ys
    later_two R Q [] a b = tt
    later_two R Q (y ∷ ys) a b = (all_both _ _ ys a.0 b.0, later_two R Q ys a.1 b.1)

    beyond : (x y : Item) (t : TxId) (u : ℕ) → x.tx ≡ y.tx → x.number ≤ y.number → tx_same x.tx t ≡ true → nat_lt u x.number ≡ true → is_beyond t u y ≡ true
    beyond x y t u same le own more = and_from _ _ (subst (λ z. tx_same z t ≡ true) same own) (lt-ltb u y.number (let l : u < x.number = ltb-true u x.number more in omega arith))

pub runs_held : (m : KeyMap) (ds : List Deed) → IsRising m → Acts m ds → NobodyBetween [] ds → AllLater Rise ds → Runs m (held ds)
runs_held m ds rising acts between rise = deed_by_deed (λ es. Acts m es → NobodyBetween [] es → AllLater ItemsRise (items_in es) → Runs m (held es)) (λ a b r. tt)
    (λ es d ih a b r. let p = acts_pop m es d a in let q = between_pop_from [] es d b in at es d (ih p.0 q.0) p.1 q.1 r) ds acts between (items_rise ds rise)
  where
    at : (es : List Deed) (d : Deed) → (AllLater ItemsRise (items_in es) → Runs m (held es)) → Answers m (held es) d → Between (items_in es) d → AllLater ItemsRise (items_in (es ++ d ∷ [])) → Runs m (held (es ++ d ∷ []))
    at es (Did x) ih a b r = subst (Runs m) (sym (held_push es (Did x))) (runs_push (held es) x m (ih (later_pop ItemsRise (items_in es) x (subst (AllLater ItemsRise) (items_append es (Did x ∷ [])) r)).0) a)
    at es (WentBack tx number upto) ih a b r =
        let r2 : AllLater ItemsRise (items_in es) = subst (AllLater ItemsRise) (items_back es tx number upto) r in
        subst (Runs m) (sym (held_push es (WentBack tx number upto)))
        (kept_runs (λ x. not (is_beyond tx upto x)) (held es) m m rising rising (ih r2) (later_held _ es (back_keeps tx upto (items_in es) r2 b)) (λ k. inl refl))

-- ---- the deeds of some transactions

pub items_chosen : (keep : TxId → Bool) (ds : List Deed) → items_in (deeds_by_chosen keep ds) ≡ filter (λ x. keep x.tx) (items_in ds)
items_chosen keep [] = refl
items_chosen keep (Did x ∷ ds) = at (keep x.tx) (items_chosen keep ds)
  where
    at : (b : Bool) → items_in (deeds_by_chosen keep ds) ≡ filter (λ y. keep y.tx) (items_in ds) → items_in (cond b (Did x ∷ deeds_by_chosen keep ds) (deeds_by_chosen keep ds)) ≡ cond b (x ∷ filter (λ y. keep y.tx) (items_in ds)) (filter (λ y. keep y.tx) (items_in ds))
    at true e = ap (λ l. x ∷ l) e
    at false e = e
items_chosen keep (WentBack tx number upto ∷ ds) = at (keep tx) ∙ items_chosen keep ds
  where
    at : (b : Bool) → items_in (cond b (WentBack tx number upto ∷ deeds_by_chosen keep ds) (deeds_by_chosen keep ds)) ≡ items_in (deeds_by_chosen keep ds)
    at true = refl
    at false = refl

-- of those of others a going back takes nothing
pub none_beyond : (keep : TxId → Bool) (tx : TxId) (upto : ℕ) (xs : List Item) → keep tx ≡ false → filter (λ x. keep x.tx) (filter (λ x. not (is_beyond tx upto x)) xs) ≡ filter (λ x. keep x.tx) xs
none_beyond keep tx upto [] out = refl
none_beyond keep tx upto (x ∷ xs) out = at (keep x.tx) (is_beyond tx upto x) refl refl (none_beyond keep tx upto xs out)
  where
    at : (b c : Bool) → keep x.tx ≡ b → is_beyond tx upto x ≡ c → filter (λ y. keep y.tx) (filter (λ y. not (is_beyond tx upto y)) xs) ≡ filter (λ y. keep y.tx) xs
        → filter (λ y. keep y.tx) (cond (not c) (x ∷ filter (λ y. not (is_beyond tx upto y)) xs) (filter (λ y. not (is_beyond tx upto y)) xs)) ≡ cond b (x ∷ filter (λ y. keep y.tx) xs) (filter (λ y. keep y.tx) xs)
    at true true e f ih = absurd (both_ways _ out (subst (λ z. keep z ≡ true) (tx_true x.tx tx (and_parts (tx_same x.tx tx) (nat_lt upto x.number) f).0) e))
    at false true e f ih = ih
    at b false e f ih = ap (λ c. cond c (x ∷ filter (λ y. keep y.tx) (filter (λ y. not (is_beyond tx upto y)) xs)) (filter (λ y. keep y.tx) (filter (λ y. not (is_beyond tx upto y)) xs))) e ∙ ap (λ l. cond b (x ∷ l) l) ih

held_chosen_from : (keep : TxId → Bool) (xs : List Item) (ds : List Deed) → held_from (filter (λ x. keep x.tx) xs) (deeds_by_chosen keep ds) ≡ filter (λ x. keep x.tx) (held_from xs ds)
held_chosen_from keep xs [] = refl
held_chosen_from keep xs (d ∷ ds) = at (keep (doer d)) refl ∙ held_chosen_from keep (held_with xs d) ds
  where
    kept : (e : Deed) → keep (doer e) ≡ true → held_with (filter (λ x. keep x.tx) xs) e ≡ filter (λ x. keep x.tx) (held_with xs e)
    kept (Did x) k = sym (filter-append (λ y. keep y.tx) xs (x ∷ []) ∙ ap (λ b. filter (λ y. keep y.tx) xs ++ cond b (x ∷ []) []) k)
    kept (WentBack tx number upto) k = filters_swap (λ x. not (is_beyond tx upto x)) (λ x. keep x.tx) xs

    left : (e : Deed) → keep (doer e) ≡ false → filter (λ x. keep x.tx) xs ≡ filter (λ x. keep x.tx) (held_with xs e)
    left (Did x) k = sym (filter-append (λ y. keep y.tx) xs (x ∷ []) ∙ ap (λ b. filter (λ y. keep y.tx) xs ++ cond b (x ∷ []) []) k ∙ append-nil (filter (λ y. keep y.tx) xs))
    left (WentBack tx number upto) k = sym (none_beyond keep tx upto xs k)

    at : (b : Bool) → keep (doer d) ≡ b → held_from (filter (λ x. keep x.tx) xs) (cond b (d ∷ deeds_by_chosen keep ds) (deeds_by_chosen keep ds)) ≡ held_from (filter (λ x. keep x.tx) (held_with xs d)) (deeds_by_chosen keep ds)
    at true k = ap (λ l. held_from l (deeds_by_chosen keep ds)) (kept d k)
    at false k = ap (λ l. held_from l (deeds_by_chosen keep ds)) (left d k)

pub held_chosen : (keep : TxId → Bool) (ds : List Deed) → held (deeds_by_chosen keep ds) ≡ filter (λ x. keep x.tx) (held ds)
held_chosen keep ds = held_chosen_from keep [] ds

-- each predicate of deeds stays where some transactions' are left out
chosen_push : (keep : TxId → Bool) (ds : List Deed) (d : Deed) → deeds_by_chosen keep (ds ++ d ∷ []) ≡ deeds_by_chosen keep ds ++ cond (keep (doer d)) (d ∷ []) []
chosen_push keep ds d = filter-append (λ e. keep (doer e)) ds (d ∷ [])

pub between_chosen : (keep : TxId → Bool) (ds : List Deed) → NobodyBetween [] ds → NobodyBetween [] (deeds_by_chosen keep ds)
between_chosen keep ds = deed_by_deed (λ es. NobodyBetween [] es → NobodyBetween [] (deeds_by_chosen keep es)) (λ a. tt) (λ es d ih a. let p = between_pop_from [] es d a in subst (NobodyBetween []) (sym (chosen_push keep es d)) (at es d (keep (doer d)) (ih p.0) p.1)) ds
  where
    one : (es : List Deed) (d : Deed) → Between (items_in es) d → Between (items_in (deeds_by_chosen keep es)) d
    one es (Did x) b = tt
    one es (WentBack tx number upto) b = subst (AllLater (λ x y. is_beyond tx upto x ≡ true → IsApartFrom x y)) (sym (items_chosen keep es)) (later_kept _ (λ x. keep x.tx) (items_in es) b)

    at : (es : List Deed) (d : Deed) (b : Bool) → NobodyBetween [] (deeds_by_chosen keep es) → Between (items_in es) d → NobodyBetween [] (deeds_by_chosen keep es ++ cond b (d ∷ []) [])
    at es d true a n = between_push_from [] (deeds_by_chosen keep es) d a (one es d n)
    at es d false a n = subst (NobodyBetween []) (sym (append-nil (deeds_by_chosen keep es))) a

pub met_chosen : (R : Item → Item → Type 0) (keep : TxId → Bool) (ds : List Deed) → AllMet R ds → AllMet (λ x y. R x y × (keep x.tx ≡ true) × (keep y.tx ≡ true)) (deeds_by_chosen keep ds)
met_chosen R keep ds = deed_by_deed (λ es. AllMet R es → AllMet (λ x y. R x y × (keep x.tx ≡ true) × (keep y.tx ≡ true)) (deeds_by_chosen keep es)) (λ a. tt) (λ es d ih a. let p = met_pop R es d a in subst (AllMet (λ x y. R x y × (keep x.tx ≡ true) × (keep y.tx ≡ true))) (sym (chosen_push keep es d)) (at es d (keep (doer d)) refl (ih p.0) p.1)) ds
  where
    one : (es : List Deed) (d : Deed) → keep (doer d) ≡ true → MeetsHeld R (held es) d → MeetsHeld (λ x y. R x y × (keep x.tx ≡ true) × (keep y.tx ≡ true)) (held (deeds_by_chosen keep es)) d
    one es (Did y) k m = subst (AllByRecursion (λ x. R x y × (keep x.tx ≡ true) × (keep y.tx ≡ true))) (sym (held_chosen keep es)) (all_mono _ _ (λ x h. (h.0, h.1, k)) (filter (λ x. keep x.tx) (held es)) (all_filter _ (λ x. keep x.tx) (held es) m))
    one es (WentBack tx number upto) k m = tt

    at : (es : List Deed) (d : Deed) (b : Bool) → keep (doer d) ≡ b → AllMet (λ x y. R x y × (keep x.tx ≡ true) × (keep y.tx ≡ true)) (deeds_by_chosen keep es) → MeetsHeld R (held es) d → AllMet (λ x y. R x y × (keep x.tx ≡ true) × (keep y.tx ≡ true)) (deeds_by_chosen keep es ++ cond b (d ∷ []) [])
    at es d true k a m = met_push _ (deeds_by_chosen keep es) d a (one es d k m)
    at es d false k a m = subst (AllMet (λ x y. R x y × (keep x.tx ≡ true) × (keep y.tx ≡ true))) (sym (append-nil (deeds_by_chosen keep es))) a

pub items_all_chosen : (P : Item → Type 0) (keep : TxId → Bool) (ds : List Deed) → AllByRecursion P (items_in ds) → AllByRecursion (λ x. P x × (keep x.tx ≡ true)) (items_in (deeds_by_chosen keep ds))
items_all_chosen P keep ds all = subst (AllByRecursion (λ x. P x × (keep x.tx ≡ true))) (sym (items_chosen keep ds)) (all_filter P (λ x. keep x.tx) (items_in ds) all)

pub items_later_chosen : (R : Item → Item → Type 0) (keep : TxId → Bool) (ds : List Deed) → AllLater R (items_in ds) → AllLater (λ x y. R x y × (keep x.tx ≡ true) × (keep y.tx ≡ true)) (items_in (deeds_by_chosen keep ds))
items_later_chosen R keep ds all = subst (AllLater (λ x y. R x y × (keep x.tx ≡ true) × (keep y.tx ≡ true))) (sym (items_chosen keep ds)) (later_filter R (λ x. keep x.tx) (items_in ds) all)

-- where none of them met what one of the others wrote, they give their answers without the others
pub acts_chosen : (m : KeyMap) (keep : TxId → Bool) (ds : List Deed) → IsRising m → Acts m ds → NobodyBetween [] ds → AllLater Rise ds → AllMet (Keeps (λ x. keep x.tx)) ds → Acts m (deeds_by_chosen keep ds)
acts_chosen m keep ds rising acts between rise met =
    deed_by_deed (λ es. Acts m es → NobodyBetween [] es → AllLater Rise es → AllMet (Keeps (λ x. keep x.tx)) es → Acts m (deeds_by_chosen keep es)) (λ a b r c. tt)
    (λ es d ih a b r c.
    let p = acts_pop m es d a in
    let q = between_pop_from [] es d b in
    let s = later_pop Rise es d r in
    let t = met_pop _ es d c in
    subst (Acts m) (sym (chosen_push keep es d)) (at es d (keep (doer d)) refl (ih p.0 q.0 s.0 t.0) (runs_held m es rising p.0 q.0 s.0) (met_later _ es t.0) p.1 t.1))
    ds acts between rise met
  where
    one : (es : List Deed) (d : Deed) → keep (doer d) ≡ true → Runs m (held es) → AllLater (Keeps (λ x. keep x.tx)) (held es) → Answers m (held es) d → MeetsHeld (Keeps (λ x. keep x.tx)) (held es) d → Answers m (held (deeds_by_chosen keep es)) d
    one es (Did y) k r l a c =
        subst (λ xs. y.answer ≡ op_answer y.op (after m xs)) (sym (held_chosen keep es))
        (runs_pop (filter (λ x. keep x.tx) (held es)) y m
        (subst (Runs m) (filter-append (λ x. keep x.tx) (held es) (y ∷ []) ∙ ap (λ b. filter (λ x. keep x.tx) (held es) ++ cond b (y ∷ []) []) k)
        (kept_runs (λ x. keep x.tx) (held es ++ y ∷ []) m m rising rising (runs_push (held es) y m r a) (later_push _ (held es) y l c) (λ q. inl refl))))
    one es (WentBack tx number upto) k r l a c = tt

    at : (es : List Deed) (d : Deed) (b : Bool) → keep (doer d) ≡ b → Acts m (deeds_by_chosen keep es) → Runs m (held es) → AllLater (Keeps (λ x. keep x.tx)) (held es) → Answers m (held es) d → MeetsHeld (Keeps (λ x. keep x.tx)) (held es) d
        → Acts m (deeds_by_chosen keep es ++ cond b (d ∷ []) [])
    at es d true k a r l n c = acts_push m (deeds_by_chosen keep es) d a (one es d k r l n c)
    at es d false k a r l n c = subst (Acts m) (sym (append-nil (deeds_by_chosen keep es))) a
