-- Lists of transactions that rise, what is in one, and what a filter keeps of it.
use Rattle.std.proofs.Common.{◌≡◌, ⊎_elim, Bool, true, false, cond, not, ◌&&◌, ◌||◌, ℕ, zero, suc, List, [], ◌∷◌, refl, sym, ap, subst, ◌∙◌}
use Rattle.std.specs.List.{AllByRecursion, filter, list_all, list_any}
use Rattle.std.specs.List.Sorted.{IsStrictlySortedBy}
use Rattle.std.specs.declared.cmp.Ordering.TheVariants.{Less}
use Rattle.std.specs.Ordering.{is_eq}
use Rattle.std.specs.Cmp.{IsTotalOrder}
use Rattle.std.proofs.lemmas.Cmp.{then_total, on_total, nat_cmp_total}
use Rattle.std.proofs.lemmas.Bool.{both_ways, or_cases, cond_both, false_from_ne_true, and_parts}
use Rattle.std.proofs.lemmas.List.Kept.{IsStrictlySortedBy-filter}
use Rattle.std.proofs.lemmas.Map.Lookups.{btree_set_from_contains}
use Rattle.clv_base.specs.declared.names.TxId.{TxId}
use Rattle.clv_base.specs.declared.logs.LogRecord.{LogRecord}
use Rattle.clv_base.specs.declared.logs.LogRecord.TheVariants.{Update, Clr, Prepare, Commit, Abort, End, Restart, Add, Unadd, Forgotten, Check}
use Rattle.clv_base.specs.Orders.{tx_cmp, tx_same, tx_in, tx_insert, tx_union}
use Rattle.clv_base.specs.Logs.{StandingUpdate, writers, without_newest, standing, is_winner, doubt_by, in_doubt_from, in_doubt}
use Rattle.clv_base.specs.Facts.{predecessors_of}
use Rattle.clv_base.specs.Restarts.{losers}
use Rattle.clv_base.specs.Undo.{with_successors, successors_through}
use Rattle.clv_base.proofs.SameNames.{or_left, or_right, tx_true, tx_self, in_insert, insert_keeps, insert_has, tx_flip}
use Rattle.law_base.proofs.Lists.{all_mono}
use Rattle.law_base.proofs.Rising.{insert_key-rises}

-- ---- the order of transactions

pub tx_total : IsTotalOrder tx_cmp
tx_total = then_total (on_total (λ t. t.run) nat_cmp_total) (then_total (on_total (λ t. t.session) nat_cmp_total) (on_total (λ t. t.serial) nat_cmp_total))

-- ---- lists that rise

abbrev pub AllAbove : TxId → List TxId → Type 0
AllAbove t xs = AllByRecursion (λ x. tx_cmp t x ≡ Less) xs

abbrev pub Rise : List TxId → Type 0
Rise ts = IsStrictlySortedBy tx_cmp ts

pub above_more : (a b : TxId) (xs : List TxId) → tx_cmp a b ≡ Less → AllAbove b xs → AllAbove a xs
above_more a b xs l h = all_mono _ _ (λ x k. tx_total.trans a b x l k) xs h

pub nothing_rises : Rise []
unfolding IsStrictlySortedBy
nothing_rises = tt

pub one_rises : (tx : TxId) → Rise (tx ∷ [])
unfolding IsStrictlySortedBy
one_rises tx = (tt, tt)

pub insert_rises : (t : TxId) (xs : List TxId) → Rise xs → Rise (tx_insert t xs)
insert_rises t xs h = insert_key-rises tx_total t xs h

pub union_rises : (xs ys : List TxId) → Rise ys → Rise (tx_union xs ys)
union_rises [] ys h = h
union_rises (x ∷ xs) ys h = insert_rises x (tx_union xs ys) (union_rises xs ys h)

pub filter_rises : (f : TxId → Bool) (xs : List TxId) → Rise xs → Rise (filter f xs)
filter_rises f xs h = IsStrictlySortedBy-filter tx_cmp f xs h

pub writers_rise : (ws : List StandingUpdate) → Rise (writers ws)
writers_rise [] = nothing_rises
writers_rise (w ∷ ws) = insert_rises w.tx (writers ws) (writers_rise ws)

pub losers_rise : (shard : ℕ) (log : List LogRecord) → Rise (losers shard log)
losers_rise shard log = filter_rises (λ t. not (is_winner shard log t)) (writers (standing log)) (writers_rise (standing log))

pub insert_if : (b : Bool) (t : TxId) (xs : List TxId) → Rise xs → Rise (cond b (tx_insert t xs) xs)
insert_if true t xs h = insert_rises t xs h
insert_if false t xs h = h

doubts_from : (log : List LogRecord) (shard : ℕ) (rs : List LogRecord) (ts : List TxId) → Rise ts → Rise (in_doubt_from log shard rs ts)
doubts_from log shard [] ts h = h
doubts_from log shard (Prepare tx home ps ∷ rs) ts h = doubts_from log shard rs _ (insert_if (doubt_by log shard tx home ps ts) tx ts h)
doubts_from log shard (Update tx k b a ∷ rs) ts h = doubts_from log shard rs ts h
doubts_from log shard (Clr tx u k a ∷ rs) ts h = doubts_from log shard rs ts h
doubts_from log shard (Commit tx ps ∷ rs) ts h = doubts_from log shard rs ts h
doubts_from log shard (Abort tx ∷ rs) ts h = doubts_from log shard rs ts h
doubts_from log shard (End tx ∷ rs) ts h = doubts_from log shard rs ts h
doubts_from log shard (Restart run epoch ∷ rs) ts h = doubts_from log shard rs ts h
doubts_from log shard (Add tx k by ∷ rs) ts h = doubts_from log shard rs ts h
doubts_from log shard (Unadd tx u k by ∷ rs) ts h = doubts_from log shard rs ts h
doubts_from log shard (Forgotten ∷ rs) ts h = doubts_from log shard rs ts h
doubts_from log shard (Check run' epoch' upto base ∷ rs) ts h = doubts_from log shard rs ts h

pub doubts_rise : (shard : ℕ) (log : List LogRecord) → Rise (in_doubt shard log)
doubts_rise shard log = doubts_from log shard log [] nothing_rises

pub with_successors_rise : (ps : List (TxId × TxId)) (set so_far : List TxId) → Rise so_far → Rise (with_successors ps set so_far)
with_successors_rise [] set so_far h = h
with_successors_rise (p ∷ ps) set so_far h = with_successors_rise ps set _ (insert_if (tx_in p.1 set) p.0 so_far h)

pub through_rises : (n : ℕ) (ps : List (TxId × TxId)) (set : List TxId) → Rise set → Rise (successors_through n ps set)
through_rises zero ps set h = h
through_rises (suc n) ps set h = through_rises n ps (with_successors ps set set) (with_successors_rise ps set set h)

pub predecessors_rise : (pairs : List (TxId × TxId)) (tx : TxId) → Rise (predecessors_of pairs tx)
predecessors_rise [] tx = nothing_rises
predecessors_rise (p ∷ ps) tx = at (tx_same tx p.0) (predecessors_rise ps tx)
  where
    at : (b : Bool) → Rise (predecessors_of ps tx) → Rise (elim b [ true ↦ tx_insert p.1 (predecessors_of ps tx) | false ↦ predecessors_of ps tx ])
    at true h = insert_rises p.1 (predecessors_of ps tx) h
    at false h = h

pub less_not_same : (a b : TxId) → tx_cmp a b ≡ Less → tx_same b a ≡ false
less_not_same a b l = false_from_ne_true _ (λ e. both_ways _ (ap is_eq l) (subst (λ z. tx_same a z ≡ true) (sym (tx_true b a e)) (tx_self a)))

-- the first of a list that rises stands nowhere later in it
pub without_first : (t : TxId) (xs : List TxId) → AllAbove t xs → filter (λ x. not (tx_same x t)) xs ≡ xs
without_first t [] h = refl
without_first t (x ∷ xs) h =
    ap (λ b. cond (not b) (x ∷ filter (λ y. not (tx_same y t)) xs) (filter (λ y. not (tx_same y t)) xs)) (less_not_same t x h.0)
    ∙ ap (λ l. x ∷ l) (without_first t xs h.1)

-- ---- filters

pub filter_alike : (f g : TxId → Bool) (xs : List TxId) → ((x : TxId) → f x ≡ g x) → filter f xs ≡ filter g xs
filter_alike f g [] h = refl
filter_alike f g (x ∷ xs) h = ap (λ l. cond (f x) (x ∷ l) l) (filter_alike f g xs h) ∙ ap (λ b. cond b (x ∷ filter g xs) (filter g xs)) (h x)

both_case : (f g : TxId → Bool) (x : TxId) (xs : List TxId) (b : Bool) → filter (λ y. f y && g y) xs ≡ filter g (filter f xs)
    → cond (b && g x) (x ∷ filter (λ y. f y && g y) xs) (filter (λ y. f y && g y) xs) ≡ filter g (cond b (x ∷ filter f xs) (filter f xs))
both_case f g x xs true h = ap (λ l. cond (g x) (x ∷ l) l) h
both_case f g x xs false h = h

-- one filter by two tests is one after another
pub filter_both : (f g : TxId → Bool) (xs : List TxId) → filter (λ y. f y && g y) xs ≡ filter g (filter f xs)
filter_both f g [] = refl
filter_both f g (x ∷ xs) = both_case f g x xs (f x) (filter_both f g xs)

-- what is in a filtered list is in the list and passes
pub in_filter : (f : TxId → Bool) (u : TxId) (xs : List TxId) → tx_in u (filter f xs) ≡ true → (tx_in u xs ≡ true) × (f u ≡ true)
in_filter f u [] e = absurd (both_ways false refl e)
in_filter f u (x ∷ xs) e = at (f x) refl e (in_filter f u xs)
  where
    at : (b : Bool) → f x ≡ b → tx_in u (cond b (x ∷ filter f xs) (filter f xs)) ≡ true → (tx_in u (filter f xs) ≡ true → (tx_in u xs ≡ true) × (f u ≡ true)) → (tx_in u (x ∷ xs) ≡ true) × (f u ≡ true)
    at true t i ih = ⊎_elim (λ h. (or_left _ _ h, subst (λ z. f z ≡ true) (tx_true x u h) t)) (λ h. let r = ih h in (or_right (tx_same x u) _ r.0, r.1)) (or_cases (tx_same x u) (tx_in u (filter f xs)) i)
    at false t i ih = let r = ih i in (or_right (tx_same x u) _ r.0, r.1)

pub filter_in : (f : TxId → Bool) (u : TxId) (xs : List TxId) → tx_in u xs ≡ true → f u ≡ true → tx_in u (filter f xs) ≡ true
filter_in f u [] e h = absurd (both_ways false refl e)
filter_in f u (x ∷ xs) e h =
    ⊎_elim
    (λ t. kept_here (f x) (subst (λ z. f z ≡ true) (sym (tx_true x u t)) h) t)
    (λ t. cond_both (f x) (x ∷ filter f xs) (filter f xs) (λ l. tx_in u l ≡ true) (λ s. or_right (tx_same x u) _ (filter_in f u xs t h)) (λ s. filter_in f u xs t h))
    (or_cases (tx_same x u) (tx_in u xs) e)
  where
    kept_here : (b : Bool) → b ≡ true → tx_same x u ≡ true → tx_in u (cond b (x ∷ filter f xs) (filter f xs)) ≡ true
    kept_here true e t = or_left _ _ t
    kept_here false e t = absurd (both_ways false refl e)

-- whether a writer is in a filtered list is whether it passes
pub in_passes : (f : TxId → Bool) (u : TxId) (xs : List TxId) → tx_in u xs ≡ true → tx_in u (filter f xs) ≡ f u
in_passes f u xs h = at (f u) refl
  where
    at : (b : Bool) → f u ≡ b → tx_in u (filter f xs) ≡ b
    at true e = filter_in f u xs h e
    at false e = false_from_ne_true _ (λ i. both_ways _ e (in_filter f u xs i).1)

-- a filter that leaves nothing, and one that would
pub none_pass : (f : TxId → Bool) (xs : List TxId) → ((u : TxId) → tx_in u xs ≡ true → f u ≡ false) → filter f xs ≡ []
none_pass f [] h = refl
none_pass f (x ∷ xs) h = at (f x) (h x (or_left _ _ (tx_self x))) (none_pass f xs (λ u i. h u (or_right (tx_same x u) _ i)))
  where
    at : (b : Bool) → b ≡ false → filter f xs ≡ [] → cond b (x ∷ filter f xs) (filter f xs) ≡ []
    at true e ih = absurd (both_ways true e refl)
    at false e ih = ih

pub none_passed : (f : TxId → Bool) (u : TxId) (xs : List TxId) → filter f xs ≡ [] → tx_in u xs ≡ true → f u ≡ false
none_passed f u xs e i = false_from_ne_true _ (λ h. both_ways false refl (subst (λ l. tx_in u l ≡ true) e (filter_in f u xs i h)))

-- ---- writers of writes, without the newest of one transaction

pub writers_without : (t u : TxId) (ws : List StandingUpdate) → tx_in u (writers (without_newest t ws)) ≡ true → tx_in u (writers ws) ≡ true
writers_without t u [] e = e
writers_without t u (w ∷ ws) e = at (tx_same t w.tx) e (writers_without t u ws)
  where
    at : (b : Bool) → tx_in u (writers (cond b ws (w ∷ without_newest t ws))) ≡ true → (tx_in u (writers (without_newest t ws)) ≡ true → tx_in u (writers ws) ≡ true) → tx_in u (writers (w ∷ ws)) ≡ true
    at true i ih = insert_keeps w.tx u (writers ws) i
    at false i ih =
        ⊎_elim (λ h. subst (λ x. tx_in x (writers (w ∷ ws)) ≡ true) (sym h) (insert_has w.tx (writers ws))) (λ h. insert_keeps w.tx u (writers ws) (ih h)) (in_insert w.tx u (writers (without_newest t ws)) i)

pub flip_apart : (x tx : TxId) → tx_same x tx ≡ false → tx_same tx x ≡ false
flip_apart x tx o = false_from_ne_true _ (λ e. both_ways _ o (tx_flip tx x e))

pub same_flip : (a b : TxId) → tx_same a b ≡ tx_same b a
same_flip a b = at (tx_same a b) refl
  where
    at : (c : Bool) → tx_same a b ≡ c → c ≡ tx_same b a
    at true e = sym (tx_flip a b e)
    at false e = sym (false_from_ne_true (tx_same b a) (λ f. both_ways _ e (tx_flip b a f)))

pub none_listed : (p : TxId) (l : List TxId) → l ≡ [] → tx_in p l ≡ true → ⊥
none_listed p l e i = both_ways false refl (subst (λ z. tx_in p z ≡ true) e i)

pub list_all_at : (f : TxId → Bool) (u : TxId) (xs : List TxId) → list_all f xs ≡ true → tx_in u xs ≡ true → f u ≡ true
list_all_at f u [] e i = absurd (both_ways false refl i)
list_all_at f u (x ∷ xs) e i =
    let p = and_parts (f x) (list_all f xs) e in
    ⊎_elim (λ h. subst (λ z. f z ≡ true) (tx_true x u h) p.0) (λ h. list_all_at f u xs p.1 h) (or_cases (tx_same x u) (tx_in u xs) i)

pub each_writer : (ws : List StandingUpdate) → AllByRecursion (λ w. tx_in w.tx (writers ws) ≡ true) ws
each_writer [] = tt
each_writer (w ∷ ws) = (insert_has w.tx (writers ws), all_mono _ _ (λ v h. insert_keeps w.tx v.tx (writers ws) h) ws (each_writer ws))

pub union_right : (x : TxId) (xs ys : List TxId) → tx_in x ys ≡ true → tx_in x (tx_union xs ys) ≡ true
union_right x [] ys i = i
union_right x (u ∷ us) ys i = insert_keeps u x (tx_union us ys) (union_right x us ys i)

-- the two ways in which members are asked for
pub in_flipped : (t : TxId) (xs : List TxId) → list_any (tx_same t) xs ≡ tx_in t xs
in_flipped t [] = refl
in_flipped t (x ∷ xs) = ap (λ b. b || list_any (tx_same t) xs) (same_flip t x) ∙ ap (λ b. tx_same x t || b) (in_flipped t xs)

-- two that rise and have the same members
pub same_list : (xs ys : List TxId) → Rise xs → Rise ys → ((t : TxId) → tx_in t xs ≡ tx_in t ys) → xs ≡ ys
same_list xs ys s r same =
    btree_set_from_contains tx_total (record { keys = xs }) (record { keys = ys }) s r (λ q. in_flipped q xs ∙ same q ∙ sym (in_flipped q ys)) (λ a b e. tx_true a b (ap is_eq e))
