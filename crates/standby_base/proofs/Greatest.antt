-- The members are the greatest set that keeps itself.
use Rattle.std.proofs.Common.{◌≡◌, ℕ, zero, suc, ◌≤◌, arith, ◌⊎◌, inl, inr, ⊎_elim, Bool, true, cond, List, [], ◌∷◌, length, Option, Some, None, refl, sym, ap, subst, ◌∙◌}
use Rattle.std.specs.List.{filter, list_all}
use Rattle.std.proofs.lemmas.Bool.{both_ways, cond_both, cond-true, and_parts, and_from, or_cases, cases_Bool, cases_lt}
use Rattle.clv_base.specs.declared.names.TxId.{TxId}
use Rattle.clv_base.specs.declared.logs.LogRecord.{LogRecord}
use Rattle.clv_base.specs.declared.logs.LogRecord.TheVariants.{Update, Clr, Prepare, Commit, Abort, End, Restart, Add, Unadd, Forgotten, Check}
use Rattle.clv_base.specs.Orders.{tx_same, tx_in, tx_insert, tx_union}
use Rattle.clv_base.specs.Logs.{commit_parts}
use Rattle.clv_base.specs.LogRules.{log_of, committed_of, committed_of_all}
use Rattle.clv_base.proofs.SameNames.{tx_true, insert_has, insert_keeps}
use Rattle.law_base.proofs.Lists.{filter-few}
use Rattle.law_base.proofs.Names.{all_from}
use Rattle.law_base.proofs.Sets.{filter_in, list_all_at, union_right}
use Rattle.standby_base.specs.Standby.{whole_with, whole_from, whole_on, first_list, commits_before, keeps_on, keeps, keeps_itself, kept_through, standby_members, MembersAreGreatest}

-- ---- each round takes one away, or none any more

pub all_stay : (f : TxId → Bool) (xs : List TxId) → length xs ≤ length (filter f xs) → (list_all f xs ≡ true) × (filter f xs ≡ xs)
all_stay f [] few = (refl, refl)
all_stay f (x ∷ xs) few =
    cond_both (f x) (x ∷ filter f xs) (filter f xs) (λ ys. length (x ∷ xs) ≤ length ys → (list_all f (x ∷ xs) ≡ true) × (ys ≡ x ∷ xs))
    (λ e g. let r = all_stay f xs (omega (arith, g)) in (and_from (f x) (list_all f xs) e r.0, ap (λ ys. x ∷ ys) r.1))
    (λ e g. absurd (omega (arith, g, filter-few f xs))) few

stays : (f : TxId → Bool) (xs : List TxId) → list_all f xs ≡ true → filter f xs ≡ xs
stays f [] e = refl
stays f (x ∷ xs) e = let p = and_parts (f x) (list_all f xs) e in cond-true (f x) (x ∷ filter f xs) (filter f xs) p.0 ∙ ap (λ ys. x ∷ ys) (stays f xs p.1)

pub stable : (n : ℕ) (streams : List (List LogRecord)) (set : List TxId) → keeps_itself streams set ≡ true → kept_through n streams set ≡ set
stable zero streams set e = refl
stable (suc n) streams set e = ap (kept_through n streams) (stays (keeps streams set) set e) ∙ stable n streams set e

keeps_at_last : (n : ℕ) (streams : List (List LogRecord)) (set : List TxId) → length set ≤ n → keeps_itself streams (kept_through n streams set) ≡ true
keeps_at_last zero streams [] few = refl
keeps_at_last zero streams (x ∷ xs) few = absurd (omega (arith, few))
keeps_at_last (suc n) streams set few =
    ⊎_elim (λ less. keeps_at_last n streams (filter (keeps streams set) set) (omega (arith, less, few)))
    (λ all. let r = all_stay (keeps streams set) set all in
    subst (λ s. keeps_itself streams s ≡ true) (sym (stable (suc n) streams set r.0)) r.0)
    (cases_lt (length (filter (keeps streams set) set)) (length set))

-- ---- who is kept among some is kept among more

before_more : (small big : List TxId) → ((t : TxId) → tx_in t small ≡ true → tx_in t big ≡ true) → (ts : List TxId) → list_all (λ t. tx_in t small) ts ≡ true → list_all (λ t. tx_in t big) ts ≡ true
before_more small big more [] e = refl
before_more small big more (t ∷ ts) e =
    let p = and_parts (tx_in t small) _ e in and_from (tx_in t big) (list_all (λ t. tx_in t big) ts) (more t p.0) (before_more small big more ts p.1)

on_more : (streams : List (List LogRecord)) (small big : List TxId) → ((t : TxId) → tx_in t small ≡ true → tx_in t big ≡ true) → (tx : TxId) (ns : List ℕ)
    → keeps_on streams small tx (Some ns) ≡ true → keeps_on streams big tx (Some ns) ≡ true
on_more streams small big more tx [] e = refl
on_more streams small big more tx (n ∷ ns) e =
    let p = and_parts (list_all (λ t. tx_in t small) (commits_before tx (log_of streams n))) _ e in
    and_from (list_all (λ t. tx_in t big) (commits_before tx (log_of streams n))) (keeps_on streams big tx (Some ns))
    (before_more small big more (commits_before tx (log_of streams n)) p.0) (on_more streams small big more tx ns p.1)

by_more : (streams : List (List LogRecord)) (small big : List TxId) → ((t : TxId) → tx_in t small ≡ true → tx_in t big ≡ true) → (tx : TxId) (o : Option (List ℕ))
    → keeps_on streams small tx o ≡ true → keeps_on streams big tx o ≡ true
by_more streams small big more tx None e = e
by_more streams small big more tx (Some ns) e = on_more streams small big more tx ns e

pub keeps_more : (streams : List (List LogRecord)) (small big : List TxId) → ((t : TxId) → tx_in t small ≡ true → tx_in t big ≡ true) → (tx : TxId)
    → keeps streams small tx ≡ true → keeps streams big tx ≡ true
keeps_more streams small big more tx e = by_more streams small big more tx (whole_on streams tx) e

stay_through : (n : ℕ) (streams : List (List LogRecord)) (set now : List TxId) → keeps_itself streams set ≡ true → ((t : TxId) → tx_in t set ≡ true → tx_in t now ≡ true)
    → (t : TxId) → tx_in t set ≡ true → tx_in t (kept_through n streams now) ≡ true
stay_through zero streams set now k more t i = more t i
stay_through (suc n) streams set now k more t i =
    stay_through n streams set (filter (keeps streams now) now) k
    (λ u j. filter_in (keeps streams now) u now (more u j) (keeps_more streams set now more u (list_all_at (keeps streams set) u set k j))) t i

-- ---- who is whole has a COMMIT

pub with_parts_committed : (log : List LogRecord) (t : TxId) (ps : List ℕ) → commit_parts log t ≡ Some ps → tx_in t (committed_of log) ≡ true
with_parts_committed [] t ps e = absurd cc
with_parts_committed (Commit tx parts ∷ rs) t ps e =
    ⊎_elim (λ s. subst (λ u. tx_in t (tx_insert u (committed_of rs)) ≡ true) (tx_true t tx s) (insert_has t (committed_of rs)))
    (λ s. insert_keeps tx t (committed_of rs) (with_parts_committed rs t ps (subst (λ b. cond b (Some parts) (commit_parts rs t) ≡ Some ps) s e)))
    (cases_Bool (tx_same t tx))
with_parts_committed (Update tx key before after ∷ rs) t ps e = with_parts_committed rs t ps e
with_parts_committed (Clr tx undo_next key after ∷ rs) t ps e = with_parts_committed rs t ps e
with_parts_committed (Prepare tx home predecessors ∷ rs) t ps e = with_parts_committed rs t ps e
with_parts_committed (Abort tx ∷ rs) t ps e = with_parts_committed rs t ps e
with_parts_committed (End tx ∷ rs) t ps e = with_parts_committed rs t ps e
with_parts_committed (Restart run epoch ∷ rs) t ps e = with_parts_committed rs t ps e
with_parts_committed (Add tx key by ∷ rs) t ps e = with_parts_committed rs t ps e
with_parts_committed (Unadd tx undo_next key by ∷ rs) t ps e = with_parts_committed rs t ps e
with_parts_committed (Forgotten ∷ rs) t ps e = with_parts_committed rs t ps e
with_parts_committed (Check run epoch upto base ∷ rs) t ps e = with_parts_committed rs t ps e

pub union_left : (x : TxId) (xs ys : List TxId) → tx_in x xs ≡ true → tx_in x (tx_union xs ys) ≡ true
union_left x [] ys e = absurd (both_ways _ refl e)
union_left x (y ∷ xs) ys e =
    ⊎_elim (λ s. subst (λ u. tx_in x (tx_insert u (tx_union xs ys)) ≡ true) (sym (tx_true y x s)) (insert_has x (tx_union xs ys)))
    (λ i. insert_keeps y x (tx_union xs ys) (union_left x xs ys i))
    (or_cases (tx_same y x) (tx_in x xs) e)

-- the set keeps only who has a COMMIT on some of the streams
kept_with : (streams : List (List LogRecord)) (tx : TxId) (n : ℕ) (log : List LogRecord) (ns : List ℕ) (o : Option (List ℕ)) → commit_parts log tx ≡ o
    → whole_with streams tx n log o ≡ Some ns → tx_in tx (committed_of log) ≡ true
kept_with streams tx n log ns None e w = absurd cc
kept_with streams tx n log ns (Some parts) e w = with_parts_committed log tx parts e

first_of_two : (a b : Option (List ℕ)) (ns : List ℕ) → first_list a b ≡ Some ns → (a ≡ Some ns) ⊎ (b ≡ Some ns)
first_of_two None b ns e = inr e
first_of_two (Some ms) b ns e = inl e

pub whole_committed : (streams : List (List LogRecord)) (tx : TxId) (n : ℕ) (logs : List (List LogRecord)) (ns : List ℕ) → whole_from streams tx n logs ≡ Some ns
    → tx_in tx (committed_of_all logs) ≡ true
whole_committed streams tx n [] ns w = absurd cc
whole_committed streams tx n (log ∷ logs) ns w =
    ⊎_elim (λ a. union_left tx (committed_of log) (committed_of_all logs) (kept_with streams tx n log ns (commit_parts log tx) refl a))
    (λ b. union_right tx (committed_of log) (committed_of_all logs) (whole_committed streams tx (suc n) logs ns b))
    (first_of_two (whole_with streams tx n log (commit_parts log tx)) (whole_from streams tx (suc n) logs) ns w)

pub kept_whole : (streams : List (List LogRecord)) (set : List TxId) (tx : TxId) → keeps streams set tx ≡ true → (ns : List ℕ) × (whole_on streams tx ≡ Some ns)
kept_whole streams set tx e = by (whole_on streams tx) refl e
  where
    by : (o : Option (List ℕ)) → whole_on streams tx ≡ o → keeps_on streams set tx o ≡ true → (ns : List ℕ) × (whole_on streams tx ≡ Some ns)
    by None w k = absurd (both_ways _ refl k)
    by (Some ns) w k = (ns, w)

-- ---- the members

-- each member is kept by the members
pub members_keep : (streams : List (List LogRecord)) → keeps_itself streams (standby_members streams) ≡ true
members_keep streams = keeps_at_last (length (committed_of_all streams)) streams (committed_of_all streams) (omega arith)

-- whoever is of a set that keeps itself is a member
pub kept_are_members : (streams : List (List LogRecord)) (set : List TxId) → keeps_itself streams set ≡ true → (t : TxId) → tx_in t set ≡ true → tx_in t (standby_members streams) ≡ true
kept_are_members streams set k t i =
    stay_through (length (committed_of_all streams)) streams set (committed_of_all streams) k
    (λ u j. let w = kept_whole streams set u (list_all_at (keeps streams set) u set k j) in whole_committed streams u 0 streams w.0 w.1) t i

pub members_are_greatest : MembersAreGreatest
members_are_greatest streams = (members_keep streams, λ set k. all_from (λ tx. tx_in tx (standby_members streams)) set (kept_are_members streams set k))
