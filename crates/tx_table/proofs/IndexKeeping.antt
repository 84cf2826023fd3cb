-- An index after one row of its table was put or changed.
use Rattle.std.proofs.Common.{◌≡◌, Bool, true, false, cond, ◌&&◌, ◌||◌, List, [], ◌∷◌, Option, Some, None, refl, sym, ap, subst, ◌∙◌}
use Rattle.std.proofs.lemmas.Bool.{both_ways}
use Rattle.clv_base.specs.declared.names.TxId.{TxId}
use Rattle.clv_base.specs.Orders.{Table, tx_same, tx_get, tx_in, tx_put, tx_set}
use Rattle.clv_base.proofs.SameNames.{tx_true}
use Rattle.law_base.proofs.Changed.{none_some}
use Rattle.law_base.proofs.Tables.{get_put}
use Rattle.tx_table.specs.Index.{IsIndex, passes}
use Rattle.law_base.proofs.Sets.{same_flip as tx_symmetric}

-- at the transaction it is whether the new row passes, elsewhere what it was
abbrev pub Changes : TxId → Bool → List TxId → List TxId → Type 0
Changes tx b old new = (t : TxId) → tx_in t new ≡ cond (tx_same tx t) b (tx_in t old)

passes_if : {V : Type 0} (test : V → Bool) (v : V) (o : Option V) (b : Bool) → passes test (cond b (Some v) o) ≡ cond b (test v) (passes test o)
passes_if test v o true = refl
passes_if test v o false = refl

at_row : {V : Type 0} (test : V → Bool) (tx t : TxId) (v : V) (rows : Table V) → passes test (cond (tx_same t tx) (Some v) (tx_get t rows)) ≡ cond (tx_same tx t) (test v) (passes test (tx_get t rows))
at_row test tx t v rows = passes_if test v (tx_get t rows) (tx_same t tx) ∙ ap (λ b. cond b (test v) (passes test (tx_get t rows))) (tx_symmetric t tx)

pub index_put : {V : Type 0} (test : V → Bool) (tx : TxId) (v : V) (rows : Table V) (old new : List TxId) → IsIndex test rows old → Changes tx (test v) old new → IsIndex test (tx_put tx v rows) new
index_put test tx v rows old new is changes t =
    changes t ∙ ap (λ b. cond (tx_same tx t) (test v) b) (is t) ∙ sym (ap (passes test) (get_put tx t v rows) ∙ at_row test tx t v rows)

-- a value that is set where one is
pub get_set_there : {V : Type 0} (t u : TxId) (w q : V) (rs : Table V) → tx_get t rs ≡ Some q → tx_get u (tx_set t w rs) ≡ cond (tx_same u t) (Some w) (tx_get u rs)
get_set_there t u w q [] e = absurd (none_some q e)
get_set_there t u w q (r ∷ rs) e = at (tx_same t r.0) refl e (get_set_there t u w q rs)
  where
    twice : (b : Bool) → cond b (Some w) (tx_get u rs) ≡ cond b (Some w) (cond b (Some r.1) (tx_get u rs))
    twice true = refl
    twice false = refl

    apart : (b c : Bool) → (b ≡ true → c ≡ true → ⊥) → cond b (Some r.1) (cond c (Some w) (tx_get u rs)) ≡ cond c (Some w) (cond b (Some r.1) (tx_get u rs))
    apart true true h = absurd (h refl refl)
    apart true false h = refl
    apart false true h = refl
    apart false false h = refl

    at : (b : Bool) → tx_same t r.0 ≡ b → cond b (Some r.1) (tx_get t rs) ≡ Some q → (tx_get t rs ≡ Some q → tx_get u (tx_set t w rs) ≡ cond (tx_same u t) (Some w) (tx_get u rs))
        → tx_get u (cond b ((r.0, w) ∷ rs) (r ∷ tx_set t w rs)) ≡ cond (tx_same u t) (Some w) (cond (tx_same u r.0) (Some r.1) (tx_get u rs))
    at true s e more = subst (λ x. cond (tx_same u r.0) (Some w) (tx_get u rs) ≡ cond (tx_same u x) (Some w) (cond (tx_same u r.0) (Some r.1) (tx_get u rs))) (sym (tx_true t r.0 s)) (twice (tx_same u r.0))
    at false s e more =
        ap (cond (tx_same u r.0) (Some r.1)) (more e)
        ∙ apart (tx_same u r.0) (tx_same u t) (λ i j. both_ways _ s (subst (λ x. tx_same x r.0 ≡ true) (tx_true u t j) i))

pub index_set : {V : Type 0} (test : V → Bool) (tx : TxId) (v q : V) (rows : Table V) (old new : List TxId) → tx_get tx rows ≡ Some q → IsIndex test rows old → Changes tx (test v) old new
    → IsIndex test (tx_set tx v rows) new
index_set test tx v q rows old new there is changes t =
    changes t ∙ ap (λ b. cond (tx_same tx t) (test v) b) (is t) ∙ sym (ap (passes test) (get_set_there tx t v q rows there) ∙ at_row test tx t v rows)

-- a row that is changed where one is, and stays in the index only if it passes; it passed before if it does now
pub index_kept : {V : Type 0} (test : V → Bool) (tx : TxId) (v q : V) (rows : Table V) (old new : List TxId) → tx_get tx rows ≡ Some q → (test q ≡ false → test v ≡ false) → IsIndex test rows old
    → ((t : TxId) → tx_in t new ≡ cond (tx_same tx t) (test v && tx_in t old) (tx_in t old)) → IsIndex test (tx_set tx v rows) new
index_kept test tx v q rows old new there down is changes = index_set test tx v q rows old new there is (λ t. changes t ∙ at t (tx_same tx t) refl)
  where
    stays : (b c : Bool) → (c ≡ false → b ≡ false) → (b && c) ≡ b
    stays true true h = refl
    stays true false h = sym (h refl)
    stays false c h = refl

    at : (t : TxId) (s : Bool) → tx_same tx t ≡ s → cond s (test v && tx_in t old) (tx_in t old) ≡ cond s (test v) (tx_in t old)
    at t true e = stays (test v) (tx_in t old) (λ out. down (sym (is t ∙ ap (passes test) (subst (λ x. tx_get x rows ≡ Some q) (tx_true tx t e) there)) ∙ out))
    at t false e = refl

-- a row that is changed and passes as before
pub index_same : {V : Type 0} (test : V → Bool) (tx : TxId) (v q : V) (rows : Table V) (old : List TxId) → tx_get tx rows ≡ Some q → test v ≡ test q → IsIndex test rows old → IsIndex test (tx_set tx v rows) old
index_same test tx v q rows old there same is = index_set test tx v q rows old old there is (λ t. at t (tx_same tx t) refl)
  where
    at : (t : TxId) (s : Bool) → tx_same tx t ≡ s → tx_in t old ≡ cond s (test v) (tx_in t old)
    at t true e = is t ∙ ap (passes test) (subst (λ x. tx_get x rows ≡ Some q) (tx_true tx t e) there) ∙ sym same
    at t false e = refl

-- a row that is put; it is put into the index if it passes, and leaves it if it doesn't
pub index_renewed : {V : Type 0} (test : V → Bool) (tx : TxId) (v : V) (rows : Table V) (old mid new : List TxId) → IsIndex test rows old
    → ((t : TxId) → tx_in t mid ≡ cond (tx_same tx t) (test v || tx_in t old) (tx_in t old)) → ((t : TxId) → tx_in t new ≡ cond (tx_same tx t) (test v && tx_in t mid) (tx_in t mid)) → IsIndex test (tx_put tx v rows) new
index_renewed test tx v rows old mid new is first second = index_put test tx v rows old new is (λ t. second t ∙ ap (λ b. cond (tx_same tx t) (test v && b) b) (first t) ∙ at (tx_same tx t) (test v) (tx_in t old))
  where
    at : (s b c : Bool) → cond s (b && cond s (b || c) c) (cond s (b || c) c) ≡ cond s b c
    at true true c = refl
    at true false c = refl
    at false b c = refl

-- a row that was not there, and was put into the index and taken out again
pub index_undone : {V : Type 0} (test : V → Bool) (tx : TxId) (b : Bool) (rows : Table V) (old mid new : List TxId) → tx_get tx rows ≡ None → IsIndex test rows old
    → ((t : TxId) → tx_in t mid ≡ cond (tx_same tx t) (b || tx_in t old) (tx_in t old)) → ((t : TxId) → tx_in t new ≡ cond (tx_same tx t) (false && tx_in t mid) (tx_in t mid)) → IsIndex test rows new
index_undone test tx b rows old mid new none is first second t = second t ∙ ap (λ c. cond (tx_same tx t) false c) (first t) ∙ at (tx_same tx t) refl
  where
    at : (s : Bool) → tx_same tx t ≡ s → cond s false (cond s (b || tx_in t old) (tx_in t old)) ≡ passes test (tx_get t rows)
    at true e = sym (ap (passes test) (subst (λ x. tx_get x rows ≡ None) (tx_true tx t e) none))
    at false e = is t

-- the same, by a test that was made before
pub index_entered : {V : Type 0} (test : V → Bool) (tx : TxId) (v : V) (b : Bool) (rows : Table V) (old mid new : List TxId) → b ≡ test v → IsIndex test rows old
    → ((t : TxId) → tx_in t mid ≡ cond (tx_same tx t) (b || tx_in t old) (tx_in t old)) → ((t : TxId) → tx_in t new ≡ cond (tx_same tx t) (b && tx_in t mid) (tx_in t mid)) → IsIndex test (tx_put tx v rows) new
index_entered test tx v b rows old mid new tested is first second = index_renewed test tx v rows old mid new is
    (λ t. first t ∙ ap (λ c. cond (tx_same tx t) (c || tx_in t old) (tx_in t old)) tested) (λ t. second t ∙ ap (λ c. cond (tx_same tx t) (c && tx_in t mid) (tx_in t mid)) tested)

-- a value that is put into two tables that are alike
pub alike_put : {V : Type 0} (tx : TxId) (v : V) (rows old new : Table V) → ((t : TxId) → tx_get t old ≡ tx_get t rows) → ((t : TxId) → tx_get t new ≡ cond (tx_same tx t) (Some v) (tx_get t old)) → (t : TxId) → tx_get t new ≡ tx_get t (tx_put tx v rows)
alike_put tx v rows old new alike now t = now t ∙ ap (cond (tx_same tx t) (Some v)) (alike t) ∙ sym (get_put tx t v rows ∙ ap (λ b. cond b (Some v) (tx_get t rows)) (tx_symmetric t tx))
