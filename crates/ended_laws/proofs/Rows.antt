-- Tables without one transaction's row.
use Rattle.std.proofs.Common.{◌≡◌, refl, sym, ap, subst, ◌∙◌, true, false, cond, Bool, not, List, [], ◌∷◌, ◌++◌, Some, None}
use Rattle.std.specs.List.{filter, AllByRecursion}
use Rattle.std.specs.List.Sorted.{IsStrictlySortedBy}
use Rattle.std.specs.Map.{keys_of}
use Rattle.std.specs.declared.cmp.Ordering.{Ordering}
use Rattle.std.specs.declared.cmp.Ordering.TheVariants.{Less, Equal, Greater}
use Rattle.std.specs.Ordering.{match_ordering}
use Rattle.std.proofs.lemmas.Bool.{both_ways, cond-true, cond-false, false_from_ne_true}
use Rattle.clv_base.specs.declared.names.TxId.{TxId}
use Rattle.clv_base.specs.declared.messages.Message.{Message}
use Rattle.clv_base.specs.declared.state.Request.{Request}
use Rattle.clv_base.specs.Orders.{Table, tx_cmp, tx_same, tx_insert, tx_get, tx_put, tx_set}
use Rattle.clv_base.specs.Coordinator.{each_request}
use Rattle.clv_base.proofs.SameNames.{tx_true, tx_eq, tx_flip, cmp_equal}
use Rattle.law_base.proofs.Sets.{Rise, filter_rises, insert_rises, above_more, AllAbove}
use Rattle.law_base.proofs.Names.{not_less}
use Rattle.protocol_laws.proofs.DueKeepsKeys.{set_keys}
use Rattle.ended_laws.specs.Requests.{without}

-- ---- who is there

pub other_name : (tx t : TxId) → tx_same tx t ≡ false → tx_same t tx ≡ false
other_name tx t o = false_from_ne_true _ (λ e. both_ways _ o (tx_flip t tx e))

pub get_own : {X : Type 0} (tx : TxId) (rows : Table X) → tx_get tx (without tx rows) ≡ None
get_own tx [] = refl
get_own tx (r ∷ rs) = at (tx_same tx r.0) refl (get_own tx rs)
  where
    at : (b : Bool) → tx_same tx r.0 ≡ b → tx_get tx (without tx rs) ≡ None → tx_get tx (cond (not b) (r ∷ without tx rs) (without tx rs)) ≡ None
    at true e more = more
    at false e more = cond-false (tx_same tx r.0) (Some r.1) (tx_get tx (without tx rs)) e ∙ more

pub get_without : {X : Type 0} (tx t : TxId) (rows : Table X) → tx_same tx t ≡ false → tx_get t (without tx rows) ≡ tx_get t rows
get_without tx t [] o = refl
get_without tx t (r ∷ rs) o = at (tx_same tx r.0) refl (get_without tx t rs o)
  where
    at : (b : Bool) → tx_same tx r.0 ≡ b → tx_get t (without tx rs) ≡ tx_get t rs → tx_get t (cond (not b) (r ∷ without tx rs) (without tx rs)) ≡ tx_get t (r ∷ rs)
    at true e more =
        let no : tx_same t r.0 ≡ false = subst (λ z. tx_same t z ≡ false) (tx_true tx r.0 e) (other_name tx t o) in
        more ∙ sym (cond-false (tx_same t r.0) (Some r.1) (tx_get t rs) no)
    at false e more = ap (cond (tx_same t r.0) (Some r.1)) more

-- ---- keys

pub keys_without : {X : Type 0} (tx : TxId) (rows : Table X) → keys_of (without tx rows) ≡ filter (λ t. not (tx_same tx t)) (keys_of rows)
keys_without tx [] = refl
keys_without tx (r ∷ rs) = at (tx_same tx r.0) (keys_without tx rs)
  where
    at : (b : Bool) → keys_of (without tx rs) ≡ filter (λ t. not (tx_same tx t)) (keys_of rs)
        → keys_of (cond (not b) (r ∷ without tx rs) (without tx rs)) ≡ cond (not b) (r.0 ∷ filter (λ t. not (tx_same tx t)) (keys_of rs)) (filter (λ t. not (tx_same tx t)) (keys_of rs))
    at true e = e
    at false e = ap (λ l. r.0 ∷ l) e

pub without_rises : {X : Type 0} (tx : TxId) (rows : Table X) → Rise (keys_of rows) → Rise (keys_of (without tx rows))
without_rises tx rows h = subst Rise (sym (keys_without tx rows)) (filter_rises (λ t. not (tx_same tx t)) (keys_of rows) h)

-- ---- a changed row of another, and a new one

pub set_without : {X : Type 0} (tx t : TxId) (x : X) (rows : Table X) → tx_same tx t ≡ false → without tx (tx_set t x rows) ≡ tx_set t x (without tx rows)
set_without tx t x [] o = refl
set_without tx t x (r ∷ rs) o = at (tx_same t r.0) (tx_same tx r.0) refl refl (set_without tx t x rs o)
  where
    at : (b c : Bool) → tx_same t r.0 ≡ b → tx_same tx r.0 ≡ c → without tx (tx_set t x rs) ≡ tx_set t x (without tx rs)
        → without tx (cond b ((r.0, x) ∷ rs) (r ∷ tx_set t x rs)) ≡ tx_set t x (cond (not c) (r ∷ without tx rs) (without tx rs))
    at true true e f more = absurd (both_ways _ o (tx_eq tx t (tx_true tx r.0 f ∙ sym (tx_true t r.0 e))))
    at true false e f more =
        cond-true (not (tx_same tx r.0)) ((r.0, x) ∷ without tx rs) (without tx rs) (ap not f) ∙ sym (cond-true (tx_same t r.0) ((r.0, x) ∷ without tx rs) (r ∷ tx_set t x (without tx rs)) e)
    at false true e f more = cond-false (not (tx_same tx r.0)) (r ∷ without tx (tx_set t x rs)) (without tx (tx_set t x rs)) (ap not f) ∙ more
    at false false e f more =
        cond-true (not (tx_same tx r.0)) (r ∷ without tx (tx_set t x rs)) (without tx (tx_set t x rs)) (ap not f) ∙ ap (λ l. r ∷ l) more
        ∙ sym (cond-false (tx_same t r.0) ((r.0, x) ∷ without tx rs) (r ∷ tx_set t x (without tx rs)) e)

-- it goes before all rows that are above it
pub put_first : {X : Type 0} (t : TxId) (x : X) (rows : Table X) → AllAbove t (keys_of rows) → tx_put t x rows ≡ (t, x) ∷ rows
put_first t x [] a = refl
put_first t x (r ∷ rs) a = ap (λ o. match_ordering o ((t, x) ∷ r ∷ rs) ((r.0, x) ∷ rs) (r ∷ tx_put t x rs)) a.0

above_filter : (t : TxId) (test : TxId → Bool) (ts : List TxId) → AllAbove t ts → AllAbove t (filter test ts)
above_filter t test [] a = tt
above_filter t test (u ∷ us) a = at (test u) (above_filter t test us a.1)
  where
    at : (b : Bool) → AllAbove t (filter test us) → AllAbove t (cond b (u ∷ filter test us) (filter test us))
    at true more = (a.0, more)
    at false more = more

above_without : {X : Type 0} (t tx : TxId) (rows : Table X) → AllAbove t (keys_of rows) → AllAbove t (keys_of (without tx rows))
above_without t tx rows a = subst (AllAbove t) (sym (keys_without tx rows)) (above_filter t (λ u. not (tx_same tx u)) (keys_of rows) a)

pub put_without : {X : Type 0} (tx t : TxId) (x : X) (rows : Table X) → tx_same tx t ≡ false → Rise (keys_of rows) → without tx (tx_put t x rows) ≡ tx_put t x (without tx rows)
unfolding IsStrictlySortedBy
put_without tx t x [] o h = cond-true (not (tx_same tx t)) ((t, x) ∷ []) [] (ap not o)
put_without {X = X} tx t x (r ∷ rs) o h = at (tx_cmp t r.0) (tx_same tx r.0) refl refl (put_without tx t x rs o h.1)
  where
    keep : (rest : Table X) → without tx ((t, x) ∷ rest) ≡ (t, x) ∷ without tx rest
    keep rest = cond-true (not (tx_same tx t)) ((t, x) ∷ without tx rest) (without tx rest) (ap not o)

    at : (c : Ordering) (b : Bool) → tx_cmp t r.0 ≡ c → tx_same tx r.0 ≡ b → without tx (tx_put t x rs) ≡ tx_put t x (without tx rs)
        → without tx (match_ordering c ((t, x) ∷ r ∷ rs) ((r.0, x) ∷ rs) (r ∷ tx_put t x rs)) ≡ tx_put t x (cond (not b) (r ∷ without tx rs) (without tx rs))
    at Less true e f more =
        keep (r ∷ rs) ∙ ap (λ l. (t, x) ∷ l) (cond-false (not (tx_same tx r.0)) (r ∷ without tx rs) (without tx rs) (ap not f))
        ∙ sym (put_first t x (without tx rs) (above_without t tx rs (above_more t r.0 (keys_of rs) e h.0)))
    at Less false e f more =
        keep (r ∷ rs) ∙ ap (λ l. (t, x) ∷ l) (cond-true (not (tx_same tx r.0)) (r ∷ without tx rs) (without tx rs) (ap not f))
        ∙ sym (ap (λ c. match_ordering c ((t, x) ∷ r ∷ without tx rs) ((r.0, x) ∷ without tx rs) (r ∷ tx_put t x (without tx rs))) e)
    at Equal true e f more = absurd (both_ways _ o (tx_eq tx t (tx_true tx r.0 f ∙ sym (cmp_equal t r.0 e))))
    at Equal false e f more =
        cond-true (not (tx_same tx r.0)) ((r.0, x) ∷ without tx rs) (without tx rs) (ap not f)
        ∙ sym (ap (λ c. match_ordering c ((t, x) ∷ r ∷ without tx rs) ((r.0, x) ∷ without tx rs) (r ∷ tx_put t x (without tx rs))) e)
    at Greater true e f more = cond-false (not (tx_same tx r.0)) (r ∷ without tx (tx_put t x rs)) (without tx (tx_put t x rs)) (ap not f) ∙ more
    at Greater false e f more =
        cond-true (not (tx_same tx r.0)) (r ∷ without tx (tx_put t x rs)) (without tx (tx_put t x rs)) (ap not f) ∙ ap (λ l. r ∷ l) more
        ∙ sym (ap (λ c. match_ordering c ((t, x) ∷ r ∷ without tx rs) ((r.0, x) ∷ without tx rs) (r ∷ tx_put t x (without tx rs))) e)

-- ---- what is sent for each row

-- where all rows of the transaction have this value
abbrev pub OwnRowsAre : {X : Type 0} → TxId → X → Table X → Type 0
OwnRowsAre tx x rows = AllByRecursion (λ r. tx_same tx r.0 ≡ true → r.1 ≡ x) rows

none_above : {X : Type 0} (tx : TxId) (x : X) (rows : Table X) → AllAbove tx (keys_of rows) → OwnRowsAre tx x rows
none_above tx x [] a = tt
none_above tx x (r ∷ rs) a = (λ e. absurd (not_less tx (subst (λ z. tx_cmp tx z ≡ Less) (sym (tx_true tx r.0 e)) a.0)), none_above tx x rs a.1)

same_value : {X : Type 0} (a b : X) → Some a ≡ Some b → a ≡ b
same_value a b e = cc

pub own_rows : {X : Type 0} (tx : TxId) (x : X) (rows : Table X) → Rise (keys_of rows) → tx_get tx rows ≡ Some x → OwnRowsAre tx x rows
unfolding IsStrictlySortedBy
own_rows tx x [] h g = tt
own_rows tx x (r ∷ rs) h g = at (tx_same tx r.0) refl g (own_rows tx x rs h.1)
  where
    at : (b : Bool) → tx_same tx r.0 ≡ b → cond b (Some r.1) (tx_get tx rs) ≡ Some x → (tx_get tx rs ≡ Some x → OwnRowsAre tx x rs) → OwnRowsAre tx x (r ∷ rs)
    at true e f more = (λ i. same_value r.1 x f, none_above tx x rs (subst (λ z. AllAbove z (keys_of rs)) (sym (tx_true tx r.0 e)) h.0))
    at false e f more = (λ i. absurd (both_ways _ e i), more f)

pub each_without : (tx : TxId) (q : Request) (f g : TxId → Request → List Message) (rows : Table Request) → OwnRowsAre tx q rows → f tx q ≡ []
    → ((t : TxId) (r : Request) → tx_same tx t ≡ false → f t r ≡ g t r) → each_request f rows ≡ each_request g (without tx rows)
each_without tx q f g [] a e k = refl
each_without tx q f g (r ∷ rs) a e k = at (tx_same tx r.0) refl (each_without tx q f g rs a.1 e k)
  where
    at : (b : Bool) → tx_same tx r.0 ≡ b → each_request f rs ≡ each_request g (without tx rs) → f r.0 r.1 ++ each_request f rs ≡ each_request g (cond (not b) (r ∷ without tx rs) (without tx rs))
    at true s more = ap (λ l. l ++ each_request f rs) (ap (λ z. f z r.1) (sym (tx_true tx r.0 s)) ∙ ap (f tx) (a.0 s) ∙ e) ∙ more
    at false s more = ap (λ l. l ++ each_request f rs) (k r.0 r.1 s) ∙ ap (λ l. g r.0 r.1 ++ l) more

-- ---- a row more

pub keys_put : {X : Type 0} (t : TxId) (x : X) (rows : Table X) → keys_of (tx_put t x rows) ≡ tx_insert t (keys_of rows)
keys_put t x [] = refl
keys_put t x (r ∷ rs) = at (tx_cmp t r.0) (keys_put t x rs)
  where
    at : (o : Ordering) → keys_of (tx_put t x rs) ≡ tx_insert t (keys_of rs)
        → keys_of (match_ordering o ((t, x) ∷ r ∷ rs) ((r.0, x) ∷ rs) (r ∷ tx_put t x rs)) ≡ match_ordering o (t ∷ r.0 ∷ keys_of rs) (r.0 ∷ keys_of rs) (r.0 ∷ tx_insert t (keys_of rs))
    at Less more = refl
    at Equal more = refl
    at Greater more = ap (λ l. r.0 ∷ l) more

pub put_rises : {X : Type 0} (t : TxId) (x : X) (rows : Table X) → Rise (keys_of rows) → Rise (keys_of (tx_put t x rows))
put_rises t x rows h = subst Rise (sym (keys_put t x rows)) (insert_rises t (keys_of rows) h)

pub set_rises : {X : Type 0} (t : TxId) (x : X) (rows : Table X) → Rise (keys_of rows) → Rise (keys_of (tx_set t x rows))
set_rises t x rows h = subst Rise (sym (set_keys t x rows)) h
