-- The record at a key and the record below it, through writes, purges and undos.
use Rattle.std.proofs.Common.{◌≡◌, ℕ, ◌<◌, ◌≤◌, ◌⊎◌, inl, inr, ⊎_elim, Bool, true, false, cond, List, [], ◌∷◌, Option, Some, None, ◌==◌, nat_lt, refl, sym, ap, subst, ◌∙◌, eqb-true, eq-eqb, ne_eqb, arith}
use Rattle.std.specs.List.{AllByRecursion, filter}
use Rattle.std.specs.declared.cmp.Ordering.{Ordering}
use Rattle.std.specs.declared.cmp.Ordering.TheVariants.{Less, Equal, Greater}
use Rattle.std.specs.Ordering.{nat_cmp, match_ordering, is_lt}
use Rattle.std.proofs.lemmas.Bool.{cases_Bool, both_ways, cond_both, cond-true, cond-false, ltb-true, ltb-false, lt-ltb, le-ltb, cases_lt, cases_eq, false_from_ne_true}
use Rattle.clv_base.specs.declared.values.Value.{Value as ValueType}
use Rattle.clv_base.specs.declared.modes.Anchor.{Anchor}
use Rattle.clv_base.specs.declared.modes.Anchor.TheVariants.{Low, At}
use Rattle.clv_base.specs.Logs.{StandingUpdate}
use Rattle.clv_base.specs.Undo.{records_without}
use Rattle.clv_base.specs.Needs.{Records, record_set, anchor_from, lower_anchor}
use Rattle.law_base.proofs.Cells.{record_at}
use Rattle.law_base.proofs.Lists.{all_mono}

abbrev Row : Type 0
Row = ℕ × Option ValueType

-- keys rise
abbrev pub AllAbove : ℕ → Records → Type 0
AllAbove k rs = AllByRecursion (λ q. k < q.0) rs

abbrev pub Rising : Records → Type 0
Rising [] = Unit {0}
Rising (r ∷ rs) = AllAbove r.0 rs × Rising rs

-- ---- what the order of two numbers says

order_equal : (lt eq : Bool) → cond lt Less (cond eq Equal Greater) ≡ Equal → eq ≡ true
order_equal true eq e = absurd cc
order_equal false true e = refl
order_equal false false e = absurd cc

order_less : (lt eq : Bool) → cond lt Less (cond eq Equal Greater) ≡ Less → lt ≡ true
order_less true eq e = refl
order_less false true e = absurd cc
order_less false false e = absurd cc

order_greater : (lt eq : Bool) → cond lt Less (cond eq Equal Greater) ≡ Greater → (lt ≡ false) × (eq ≡ false)
order_greater true eq e = absurd cc
order_greater false true e = absurd cc
order_greater false false e = (refl, refl)

pub cmp_equal : (a b : ℕ) → nat_cmp a b ≡ Equal → a ≡ b
cmp_equal a b e = eqb-true a b (order_equal (nat_lt a b) (a == b) e)

pub cmp_less : (a b : ℕ) → nat_cmp a b ≡ Less → a < b
cmp_less a b e = ltb-true a b (order_less (nat_lt a b) (a == b) e)

pub cmp_greater : (a b : ℕ) → nat_cmp a b ≡ Greater → b < a
cmp_greater a b e =
    let f = order_greater (nat_lt a b) (a == b) e in
    let le : b ≤ a = ltb-false a b f.0 in
    ⊎_elim (λ s. absurd (both_ways (a == b) f.1 (eq-eqb a b s))) (λ n. ⊎_elim (λ l. l) (λ g. absurd (n (omega arith))) (cases_lt b a)) (cases_eq a b)

-- ---- the record at a key after a write

two_at : (b c : Bool) (x y z : Option (Option ValueType)) → (b ≡ true → c ≡ true → ⊥) → cond c y (cond b x z) ≡ cond b x (cond c y z)
two_at true true x y z h = absurd (h refl refl)
two_at true false x y z h = refl
two_at false true x y z h = refl
two_at false false x y z h = refl

over : (b : Bool) (x y z : Option (Option ValueType)) → cond b x z ≡ cond b x (cond b y z)
over true x y z = refl
over false x y z = refl

set_case : (o : Ordering) (k q : ℕ) (v : Option ValueType) (r : Row) (rs ts : Records) → (o ≡ Equal → k ≡ r.0) → (o ≡ Greater → r.0 < k) → record_at q ts ≡ cond (q == k) (Some v) (record_at q rs)
    → record_at q (match_ordering o ((k, v) ∷ r ∷ rs) ((r.0, v) ∷ rs) (r ∷ ts)) ≡ cond (q == k) (Some v) (record_at q (r ∷ rs))
set_case Less k q v r rs ts same far ih = refl
set_case Equal k q v r rs ts same far ih = subst (λ j. cond (q == j) (Some v) (record_at q rs) ≡ cond (q == k) (Some v) (cond (q == j) (Some r.1) (record_at q rs))) (same refl) (over (q == k) (Some v) (Some r.1) (record_at q rs))
set_case Greater k q v r rs ts same far ih =
    ap (cond (q == r.0) (Some r.1)) ih
    ∙ two_at (q == k) (q == r.0) (Some v) (Some r.1) (record_at q rs) (λ e f. let a : q ≡ k = eqb-true q k e in let b : q ≡ r.0 = eqb-true q r.0 f in let l = far refl in absurd (omega arith))

pub record_at_set : (q k : ℕ) (v : Option ValueType) (rs : Records) → record_at q (record_set k v rs) ≡ cond (q == k) (Some v) (record_at q rs)
record_at_set q k v [] = refl
record_at_set q k v (r ∷ rs) = set_case (nat_cmp k r.0) k q v r rs (record_set k v rs) (cmp_equal k r.0) (cmp_greater k r.0) (record_at_set q k v rs)

above_case : (o : Ordering) (j k : ℕ) (v : Option ValueType) (r : Row) (rs ts : Records) → j < k → AllAbove j (r ∷ rs) → AllAbove j ts → AllAbove j (match_ordering o ((k, v) ∷ r ∷ rs) ((r.0, v) ∷ rs) (r ∷ ts))
above_case Less j k v r rs ts l a ih = (l, a)
above_case Equal j k v r rs ts l a ih = a
above_case Greater j k v r rs ts l a ih = (a.0, ih)

above_set : (j k : ℕ) (v : Option ValueType) (rs : Records) → j < k → AllAbove j rs → AllAbove j (record_set k v rs)
above_set j k v [] l a = (l, tt)
above_set j k v (r ∷ rs) l a = above_case (nat_cmp k r.0) j k v r rs (record_set k v rs) l a (above_set j k v rs l a.1)

rising_case : (o : Ordering) (k : ℕ) (v : Option ValueType) (r : Row) (rs ts : Records) → (o ≡ Less → k < r.0) → Rising (r ∷ rs) → (o ≡ Greater → AllAbove r.0 ts × Rising ts) → Rising (match_ordering o ((k, v) ∷ r ∷ rs) ((r.0, v) ∷ rs) (r ∷ ts))
rising_case Less k v r rs ts less h more = ((less refl, all_mono _ _ (λ q g. let l = less refl in omega arith) rs h.0), h)
rising_case Equal k v r rs ts less h more = h
rising_case Greater k v r rs ts less h more = more refl

pub rising_set : (k : ℕ) (v : Option ValueType) (rs : Records) → Rising rs → Rising (record_set k v rs)
rising_set k v [] h = (tt, tt)
rising_set k v (r ∷ rs) h = rising_case (nat_cmp k r.0) k v r rs (record_set k v rs) (cmp_less k r.0) h (λ e. (above_set r.0 k v rs (cmp_greater k r.0 e) h.0, rising_set k v rs h.1))

pub rising_filter : (p : Row → Bool) (rs : Records) → Rising rs → Rising (filter p rs)
rising_filter p [] h = tt
rising_filter p (r ∷ rs) h = cond_both (p r) (r ∷ filter p rs) (filter p rs) Rising (λ e. (above_filter r.0 rs h.0, rising_filter p rs h.1)) (λ e. rising_filter p rs h.1)
  where
    above_filter : (k : ℕ) (qs : Records) → AllAbove k qs → AllAbove k (filter p qs)
    above_filter k [] a = tt
    above_filter k (q ∷ qs) a = cond_both (p q) (q ∷ filter p qs) (filter p qs) (AllAbove k) (λ e. (a.0, above_filter k qs a.1)) (λ e. above_filter k qs a.1)

pub rising_undone : (gone : StandingUpdate → Bool) (ws : List StandingUpdate) (rs : Records) → Rising rs → Rising (records_without gone ws rs)
rising_undone gone ws [] h = tt
rising_undone gone ws (r ∷ rs) h = (above r.0 rs h.0, rising_undone gone ws rs h.1)
  where
    above : (k : ℕ) (qs : Records) → AllAbove k qs → AllAbove k (records_without gone ws qs)
    above k [] a = tt
    above k (q ∷ qs) a = (a.0, above k qs a.1)

-- ---- the record below a key

pub anchor_undone : (gone : StandingUpdate → Bool) (ws : List StandingUpdate) (k : ℕ) (a : Anchor) (rs : Records) → anchor_from k a (records_without gone ws rs) ≡ anchor_from k a rs
anchor_undone gone ws k a [] = refl
anchor_undone gone ws k a (r ∷ rs) = anchor_undone gone ws k (cond (nat_lt r.0 k) (At r.0) a) rs

-- where all keys are from k on, none is below it
none_below : (k : ℕ) (a : Anchor) (rs : Records) → AllByRecursion (λ q. k ≤ q.0) rs → anchor_from k a rs ≡ a
none_below k a [] all = refl
none_below k a (r ∷ rs) all = ap (λ b. anchor_from k (cond b (At r.0) a) rs) (le-ltb r.0 k all.0) ∙ none_below k a rs all.1

from_above : (j k : ℕ) (rs : Records) → k ≤ j → AllAbove j rs → AllByRecursion (λ q. k ≤ q.0) rs
from_above j k rs le a = all_mono _ _ (λ q h. omega arith) rs a

-- what is found does not depend on where it began, or nothing is found
apart : (k : ℕ) (a b : Anchor) (rs : Records) → (anchor_from k a rs ≡ anchor_from k b rs) ⊎ ((anchor_from k a rs ≡ a) × (anchor_from k b rs ≡ b))
apart k a b [] = inr (refl, refl)
apart k a b (r ∷ rs) =
    ⊎_elim
    (λ e. inl (ap (λ c. anchor_from k (cond c (At r.0) a) rs) e ∙ sym (ap (λ c. anchor_from k (cond c (At r.0) b) rs) e)))
    (λ e. ⊎_elim
    (λ s. inl (ap (λ c. anchor_from k (cond c (At r.0) a) rs) e ∙ s ∙ sym (ap (λ c. anchor_from k (cond c (At r.0) b) rs) e)))
    (λ s. inr (ap (λ c. anchor_from k (cond c (At r.0) a) rs) e ∙ s.0, ap (λ c. anchor_from k (cond c (At r.0) b) rs) e ∙ s.1))
    (apart k a b rs))
    (cases_Bool (nat_lt r.0 k))

-- after an insert at k: as before, or the new record where the record below was that below k
abbrev Inserted : ℕ → ℕ → Anchor → Records → Records → Type 0
Inserted q k a rs ts = (anchor_from q a ts ≡ anchor_from q a rs) ⊎ ((anchor_from q a ts ≡ At k) × (anchor_from q a rs ≡ anchor_from k a rs))

insert_less : (q k : ℕ) (v : Option ValueType) (a : Anchor) (rs : Records) → k < q → AllByRecursion (λ r. k ≤ r.0) rs → Inserted q k a rs ((k, v) ∷ rs)
insert_less q k v a rs l all =
    let start : anchor_from q a ((k, v) ∷ rs) ≡ anchor_from q (At k) rs = ap (λ b. anchor_from q (cond b (At k) a) rs) (lt-ltb k q l) in
    ⊎_elim
    (λ s. inl (start ∙ s))
    (λ s. inr (start ∙ s.0, s.1 ∙ sym (none_below k a rs all)))
    (apart q (At k) a rs)

insert_case : (o : Ordering) (q k : ℕ) (v : Option ValueType) (a : Anchor) (r : Row) (rs ts : Records) → k < q → (o ≡ Less → k < r.0) → (o ≡ Greater → r.0 < k) → Rising (r ∷ rs)
    → (o ≡ Equal → ⊥) → (o ≡ Greater → Inserted q k (At r.0) rs ts) → Inserted q k a (r ∷ rs) (match_ordering o ((k, v) ∷ r ∷ rs) ((r.0, v) ∷ rs) (r ∷ ts))
insert_case Less q k v a r rs ts l less far h none ih = insert_less q k v a (r ∷ rs) l (let g = less refl in (omega arith, all_mono _ _ (λ x y. omega arith) rs h.0))
insert_case Equal q k v a r rs ts l less far h none ih = absurd (none refl)
insert_case Greater q k v a r rs ts l less far h none ih =
    let f : r.0 < k = far refl in
    let here : nat_lt r.0 q ≡ true = lt-ltb r.0 q (omega arith) in
    let at_k : anchor_from k a (r ∷ rs) ≡ anchor_from k (At r.0) rs = ap (λ b. anchor_from k (cond b (At r.0) a) rs) (lt-ltb r.0 k f) in
    let new : anchor_from q a (r ∷ ts) ≡ anchor_from q (At r.0) ts = ap (λ b. anchor_from q (cond b (At r.0) a) ts) here in
    let old : anchor_from q a (r ∷ rs) ≡ anchor_from q (At r.0) rs = ap (λ b. anchor_from q (cond b (At r.0) a) rs) here in
    ⊎_elim (λ s. inl (new ∙ s ∙ sym old)) (λ s. inr (new ∙ s.0, old ∙ s.1 ∙ sym at_k)) (ih refl)

absent_head : (k : ℕ) (r : Row) (rs : Records) → record_at k (r ∷ rs) ≡ None → (k == r.0) ≡ false
absent_head k r rs e = false_from_ne_true _ (λ t. let s = sym (cond-true (k == r.0) (Some r.1) (record_at k rs) t) ∙ e in absurd cc)

absent_tail : (k : ℕ) (r : Row) (rs : Records) → record_at k (r ∷ rs) ≡ None → record_at k rs ≡ None
absent_tail k r rs e = sym (cond-false (k == r.0) (Some r.1) (record_at k rs) (absent_head k r rs e)) ∙ e

above_insert : (q k : ℕ) (v : Option ValueType) (a : Anchor) (rs : Records) → k < q → Rising rs → record_at k rs ≡ None → Inserted q k a rs (record_set k v rs)
above_insert q k v a [] l h none = insert_less q k v a [] l tt
above_insert q k v a (r ∷ rs) l h none =
    insert_case (nat_cmp k r.0) q k v a r rs (record_set k v rs) l (cmp_less k r.0) (cmp_greater k r.0) h
    (λ e. both_ways (k == r.0) (absent_head k r rs none) (eq-eqb k r.0 (cmp_equal k r.0 e)))
    (λ e. above_insert q k v (At r.0) rs l h.1 (absent_tail k r rs none))

skip_case : (o : Ordering) (q k : ℕ) (v : Option ValueType) (a : Anchor) (r : Row) (rs ts : Records) → q ≤ k → (o ≡ Equal → k ≡ r.0) → ((b : Anchor) → anchor_from q b ts ≡ anchor_from q b rs) → anchor_from q a (match_ordering o ((k, v) ∷ r ∷ rs) ((r.0, v) ∷ rs) (r ∷ ts)) ≡ anchor_from q a (r ∷ rs)
skip_case Less q k v a r rs ts l same ih = ap (λ b. anchor_from q (cond b (At k) a) (r ∷ rs)) (le-ltb k q l)
skip_case Equal q k v a r rs ts l same ih = refl
skip_case Greater q k v a r rs ts l same ih = ih (cond (nat_lt r.0 q) (At r.0) a)

up_to_insert : (q k : ℕ) (v : Option ValueType) (a : Anchor) (rs : Records) → q ≤ k → anchor_from q a (record_set k v rs) ≡ anchor_from q a rs
up_to_insert q k v a [] l = ap (λ b. cond b (At k) a) (le-ltb k q l)
up_to_insert q k v a (r ∷ rs) l = skip_case (nat_cmp k r.0) q k v a r rs (record_set k v rs) l (cmp_equal k r.0) (λ b. up_to_insert q k v b rs l)

pub lower_insert : (q k : ℕ) (v : Option ValueType) (rs : Records) → Rising rs → record_at k rs ≡ None
    → (lower_anchor q (record_set k v rs) ≡ lower_anchor q rs) ⊎ ((lower_anchor q (record_set k v rs) ≡ At k) × (lower_anchor q rs ≡ lower_anchor k rs))
lower_insert q k v rs h none = ⊎_elim (λ l. above_insert q k v Low rs l h none) (λ g. inl (up_to_insert q k v Low rs g)) (cases_lt k q)

-- a write where a record stands
present_case : (o : Ordering) (q k : ℕ) (v : Option ValueType) (a : Anchor) (r : Row) (rs ts : Records) → (o ≡ Less → ⊥) → ((b : Anchor) → o ≡ Greater → anchor_from q b ts ≡ anchor_from q b rs) → anchor_from q a (match_ordering o ((k, v) ∷ r ∷ rs) ((r.0, v) ∷ rs) (r ∷ ts)) ≡ anchor_from q a (r ∷ rs)
present_case Less q k v a r rs ts less ih = absurd (less refl)
present_case Equal q k v a r rs ts less ih = refl
present_case Greater q k v a r rs ts less ih = ih (cond (nat_lt r.0 q) (At r.0) a) refl

pub absent_above : (k : ℕ) (rs : Records) → AllAbove k rs → record_at k rs ≡ None
absent_above k [] all = refl
absent_above k (r ∷ rs) all = cond-false (k == r.0) (Some r.1) (record_at k rs) (ne_eqb k r.0 (λ e. let l = all.0 in absurd (omega arith))) ∙ absent_above k rs all.1

present_tail : (k : ℕ) (w : Option ValueType) (r : Row) (rs : Records) → r.0 < k → record_at k (r ∷ rs) ≡ Some w → record_at k rs ≡ Some w
present_tail k w r rs l e = sym (cond-false (k == r.0) (Some r.1) (record_at k rs) (ne_eqb k r.0 (λ s. absurd (omega arith)))) ∙ e

some_none : (o : Option (Option ValueType)) (w : Option ValueType) → o ≡ None → o ≡ Some w → ⊥
some_none o w e f = absurd cc

pub anchor_present : (q k : ℕ) (v w : Option ValueType) (a : Anchor) (rs : Records) → Rising rs → record_at k rs ≡ Some w → anchor_from q a (record_set k v rs) ≡ anchor_from q a rs
anchor_present q k v w a [] h e = absurd (some_none None w refl e)
anchor_present q k v w a (r ∷ rs) h e =
    present_case (nat_cmp k r.0) q k v a r rs (record_set k v rs)
    (λ l. let below = cmp_less k r.0 l in some_none (record_at k (r ∷ rs)) w (absent_above k (r ∷ rs) (below, all_mono _ _ (λ x y. omega arith) rs h.0)) e)
    (λ b g. anchor_present q k v w b rs h.1 (present_tail k w r rs (cmp_greater k r.0 g) e))

-- ---- a purge

pub record_kept : (p : Row → Bool) (k : ℕ) (rs : Records) → ((v : Option ValueType) → p (k, v) ≡ true) → record_at k (filter p rs) ≡ record_at k rs
record_kept p k [] h = refl
record_kept p k (r ∷ rs) h =
    ⊎_elim
    (λ e. ap (λ l. record_at k l) (cond-true (p r) (r ∷ filter p rs) (filter p rs) e) ∙ ap (cond (k == r.0) (Some r.1)) (record_kept p k rs h))
    (λ e. ap (λ l. record_at k l) (cond-false (p r) (r ∷ filter p rs) (filter p rs) e) ∙ record_kept p k rs h
    ∙ sym (cond-false (k == r.0) (Some r.1) (record_at k rs) (false_from_ne_true _ (λ t. both_ways (p r) e (subst (λ j. p (j, r.1) ≡ true) (eqb-true k r.0 t) (h r.1))))))
    (cases_Bool (p r))

pub record_absent : (p : Row → Bool) (k : ℕ) (rs : Records) → record_at k rs ≡ None → record_at k (filter p rs) ≡ None
record_absent p k [] e = refl
record_absent p k (r ∷ rs) e =
    cond_both (p r) (r ∷ filter p rs) (filter p rs) (λ l. record_at k l ≡ None)
    (λ t. cond-false (k == r.0) (Some r.1) (record_at k (filter p rs)) (absent_head k r rs e) ∙ record_absent p k rs (absent_tail k r rs e))
    (λ t. record_absent p k rs (absent_tail k r rs e))

-- the record below is the same, where a purge keeps it
kept_case : (p : Row → Bool) (k : ℕ) (a b : Anchor) (r : Row) (rs : Records) → ((q : Row) → b ≡ At q.0 → p q ≡ true) → p r ≡ false → ((c : Anchor) → anchor_from k c rs ≡ b → anchor_from k c (filter p rs) ≡ b) → (c : Bool) → anchor_from k (cond c (At r.0) a) rs ≡ b → anchor_from k a (filter p rs) ≡ b
kept_case p k a b r rs h t ih false f = ih a f
kept_case p k a b r rs h t ih true f =
    ⊎_elim (λ s. ih a (s ∙ f)) (λ s. absurd (both_ways (p r) t (h r (sym f ∙ s.1)))) (apart k a (At r.0) rs)

pub anchor_kept : (p : Row → Bool) (k : ℕ) (a b : Anchor) (rs : Records) → ((q : Row) → b ≡ At q.0 → p q ≡ true) → anchor_from k a rs ≡ b → anchor_from k a (filter p rs) ≡ b
anchor_kept p k a b [] h e = e
anchor_kept p k a b (r ∷ rs) h e =
    ⊎_elim
    (λ t. ap (anchor_from k a) (cond-true (p r) (r ∷ filter p rs) (filter p rs) t) ∙ anchor_kept p k (cond (nat_lt r.0 k) (At r.0) a) b rs h e)
    (λ t. ap (anchor_from k a) (cond-false (p r) (r ∷ filter p rs) (filter p rs) t) ∙ kept_case p k a b r rs h t (λ c. anchor_kept p k c b rs h) (nat_lt r.0 k) e)
    (cases_Bool (p r))

-- ---- the record below a key of a scan: that below its low end, where no record stands, or one from there on

pub scan_below : (lo k : ℕ) (a : Anchor) (rs : Records) → lo ≤ k → Rising rs → record_at k rs ≡ None
    → ((anchor_from k a rs ≡ anchor_from lo a rs) × (record_at lo rs ≡ None)) ⊎ ((j : ℕ) × (v : Option ValueType) × (anchor_from k a rs ≡ At j) × (record_at j rs ≡ Some v) × (lo ≤ j) × (j < k))
scan_below lo k a [] le h none = inl (refl, refl)
scan_below lo k a (r ∷ rs) le h none =
    ⊎_elim
    (λ l. let k_here : nat_lt r.0 k ≡ true = lt-ltb r.0 k (omega arith) in
    let lo_here : nat_lt r.0 lo ≡ true = lt-ltb r.0 lo l in
    let at_k : anchor_from k a (r ∷ rs) ≡ anchor_from k (At r.0) rs = ap (λ b. anchor_from k (cond b (At r.0) a) rs) k_here in
    let at_lo : anchor_from lo a (r ∷ rs) ≡ anchor_from lo (At r.0) rs = ap (λ b. anchor_from lo (cond b (At r.0) a) rs) lo_here in
    ⊎_elim
    (λ s. inl (at_k ∙ s.0 ∙ sym at_lo, cond-false (lo == r.0) (Some r.1) (record_at lo rs) (ne_eqb lo r.0 (λ t. absurd (omega arith))) ∙ s.1))
    (λ s. inr (s.0, s.1, at_k ∙ s.2, cond-false (s.0 == r.0) (Some r.1) (record_at s.0 rs) (ne_eqb s.0 r.0 (λ t. let g = s.4 in absurd (omega arith))) ∙ s.3, s.4, s.5))
    (scan_below lo k (At r.0) rs le h.1 (absent_tail k r rs none)))
    (λ g. ⊎_elim
    (λ m. let at_k : anchor_from k a (r ∷ rs) ≡ anchor_from k (At r.0) rs = ap (λ b. anchor_from k (cond b (At r.0) a) rs) (lt-ltb r.0 k m) in
    ⊎_elim
    (λ s. inr (r.0, r.1, at_k ∙ s.0 ∙ none_below lo (At r.0) rs (from_above r.0 lo rs g h.0), cond-true (r.0 == r.0) (Some r.1) (record_at r.0 rs) (eq-eqb r.0 r.0 refl), g, m))
    (λ s. inr (s.0, s.1, at_k ∙ s.2, cond-false (s.0 == r.0) (Some r.1) (record_at s.0 rs) (ne_eqb s.0 r.0 (λ t. some_none (record_at s.0 rs) s.1 (ap (λ x. record_at x rs) t ∙ absent_above r.0 rs h.0) s.3)) ∙ s.3, s.4, s.5))
    (scan_below lo k (At r.0) rs le h.1 (absent_tail k r rs none)))
    (λ m. let apart_k : (k == r.0) ≡ false = absent_head k r rs none in
    let above_lo : lo < r.0 = ⊎_elim (λ s. absurd (both_ways (k == r.0) apart_k (eq-eqb k r.0 s))) (λ s. ⊎_elim (λ x. omega arith) (λ y. absurd (s (omega arith))) (cases_lt k r.0)) (cases_eq k r.0) in
    inl (
      none_below k a (r ∷ rs) (m, from_above r.0 k rs m h.0) ∙ sym (none_below lo a (r ∷ rs) (g, from_above r.0 lo rs g h.0)),
      absent_above lo (r ∷ rs) (above_lo, all_mono _ _ (λ x y. omega arith) rs h.0),
    ))
    (cases_lt r.0 k))
    (cases_lt r.0 lo)

pub less_true : (a b : ℕ) → a < b → is_lt (nat_cmp a b) ≡ true
less_true a b l = ap (λ c. is_lt (cond c Less (cond (a == b) Equal Greater))) (lt-ltb a b l)
