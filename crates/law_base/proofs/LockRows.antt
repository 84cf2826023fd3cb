-- What a transaction holds, by rows, through grants, splits, closings and releases; and what a grant says of other rows.
use Rattle.std.proofs.Common.{◌≡◌, ◌⊎◌, inl, inr, ⊎_elim, Bool, true, false, cond, not, ◌&&◌, ◌||◌, List, [], ◌∷◌, map, Option, Some, None, refl, sym, ap, subst, ◌∙◌}
use Rattle.std.specs.List.{AllByRecursion, filter, list_any}
use Rattle.std.specs.declared.cmp.Ordering.{Ordering}
use Rattle.std.specs.declared.cmp.Ordering.TheVariants.{Less, Equal, Greater}
use Rattle.std.specs.Ordering.{match_ordering}
use Rattle.std.proofs.lemmas.Bool.{cases_Bool, both_ways, cond_both, cond-true, or_cases, and_parts, and_from, not-true, not-false}
use Rattle.clv_base.specs.declared.names.TxId.{TxId}
use Rattle.clv_base.specs.declared.names.Birth.{Birth}
use Rattle.clv_base.specs.declared.modes.Part.{Part}
use Rattle.clv_base.specs.declared.modes.Part.TheVariants.{N, S, I, X}
use Rattle.clv_base.specs.declared.modes.Mode.{Mode}
use Rattle.clv_base.specs.declared.modes.Anchor.{Anchor}
use Rattle.clv_base.specs.declared.modes.Anchor.TheVariants.{Low, At}
use Rattle.clv_base.specs.declared.modes.Need.{Need}
use Rattle.clv_base.specs.declared.modes.Holder.{Holder}
use Rattle.clv_base.specs.declared.modes.Decision.{Decision}
use Rattle.clv_base.specs.declared.modes.Decision.TheVariants.{Grant}
use Rattle.clv_base.specs.Modes.{part_compatible, compatible, part_join, join, part_writes, writes, is_held}
use Rattle.clv_base.specs.Orders.{tx_cmp, tx_same, tx_in, tx_insert, anchor_cmp, anchor_same}
use Rattle.clv_base.specs.Locks.{Locks, row_cmp, with_mode, take_one, holder_of, take_all, gap_alone, holds_gap, copy_gaps, split_gap, close_holder, close_locks, release, is_free, meets, conflicting_holders, oldest_by, older_of, wait_by, die_by, decide, violated_by, violated}
use Rattle.clv_base.proofs.SameNames.{or_left, or_right, tx_true, tx_self, tx_eq, tx_ne, nat_cmp_true, nat_cmp_self, insert_keeps, insert_has, in_insert}
use Rattle.law_base.proofs.Tables.{then_same}

-- ---- anchors

pub anchor_true : (a b : Anchor) → anchor_same a b ≡ true → a ≡ b
anchor_true Low Low e = refl
anchor_true Low (At k) e = absurd (both_ways false refl e)
anchor_true (At j) Low e = absurd (both_ways false refl e)
anchor_true (At j) (At k) e = ap At (nat_cmp_true j k e)

pub anchor_self : (a : Anchor) → anchor_same a a ≡ true
anchor_self Low = refl
anchor_self (At k) = nat_cmp_self k

pub row_equal : (a : Anchor) (tx : TxId) (r : Anchor × Holder) → row_cmp a tx r ≡ Equal → (a ≡ r.0) × (tx ≡ (r.1).tx)
row_equal a tx r e = let p = then_same (anchor_cmp a r.0) (tx_cmp tx (r.1).tx) e in (anchor_true a r.0 p.0, tx_true tx (r.1).tx p.1)

-- ---- parts of modes

-- how parts lie: N below S and I, these below X
abbrev pub least : Part → Part → Bool
least N held = true
least S N = false
least S S = true
least S I = false
least S X = true
least I N = false
least I S = false
least I I = true
least I X = true
least X N = false
least X S = false
least X I = false
least X X = true

abbrev pub part_of : Bool → Mode → Part
part_of true m = m.key
part_of false m = m.gap

join_left : (p a b : Part) → least p a ≡ true → least p (part_join a b) ≡ true
join_left N a b e = refl
join_left S N b e = absurd (both_ways false refl e)
join_left S S N e = refl
join_left S S S e = refl
join_left S S I e = refl
join_left S S X e = refl
join_left S I b e = absurd (both_ways false refl e)
join_left S X b e = refl
join_left I N b e = absurd (both_ways false refl e)
join_left I S b e = absurd (both_ways false refl e)
join_left I I N e = refl
join_left I I S e = refl
join_left I I I e = refl
join_left I I X e = refl
join_left I X b e = refl
join_left X N b e = absurd (both_ways false refl e)
join_left X S b e = absurd (both_ways false refl e)
join_left X I b e = absurd (both_ways false refl e)
join_left X X b e = refl

join_right : (p a b : Part) → least p b ≡ true → least p (part_join a b) ≡ true
join_right N a b e = refl
join_right S a N e = absurd (both_ways false refl e)
join_right S N S e = refl
join_right S S S e = refl
join_right S I S e = refl
join_right S X S e = refl
join_right S a I e = absurd (both_ways false refl e)
join_right S N X e = refl
join_right S S X e = refl
join_right S I X e = refl
join_right S X X e = refl
join_right I a N e = absurd (both_ways false refl e)
join_right I a S e = absurd (both_ways false refl e)
join_right I N I e = refl
join_right I S I e = refl
join_right I I I e = refl
join_right I X I e = refl
join_right I N X e = refl
join_right I S X e = refl
join_right I I X e = refl
join_right I X X e = refl
join_right X a N e = absurd (both_ways false refl e)
join_right X a S e = absurd (both_ways false refl e)
join_right X a I e = absurd (both_ways false refl e)
join_right X N X e = refl
join_right X S X e = refl
join_right X I X e = refl
join_right X X X e = refl

joins_left : (f : Bool) (p : Part) (m n : Mode) → least p (part_of f m) ≡ true → least p (part_of f (join m n)) ≡ true
joins_left true p m n e = join_left p m.key n.key e
joins_left false p m n e = join_left p m.gap n.gap e

joins_right : (f : Bool) (p : Part) (m n : Mode) → least p (part_of f n) ≡ true → least p (part_of f (join m n)) ≡ true
joins_right true p m n e = join_right p m.key n.key e
joins_right false p m n e = join_right p m.gap n.gap e

-- ---- what is held: the key part (true) or the gap part (false) on an anchor, at least p

abbrev pub row_holds : Bool → Part → Anchor → TxId → Anchor × Holder → Bool
row_holds f p a tx r = anchor_same a r.0 && tx_same tx (r.1).tx && least p (part_of f (r.1).mode)

abbrev pub holds : Bool → Part → Anchor → TxId → Locks → Bool
holds f p a tx locks = list_any (row_holds f p a tx) locks

row_parts : (f : Bool) (p : Part) (a : Anchor) (tx : TxId) (r : Anchor × Holder) → row_holds f p a tx r ≡ true → (anchor_same a r.0 ≡ true) × (tx_same tx (r.1).tx ≡ true) × (least p (part_of f (r.1).mode) ≡ true)
row_parts f p a tx r e =
    let u = and_parts (anchor_same a r.0 && tx_same tx (r.1).tx) (least p (part_of f (r.1).mode)) e in
    let v = and_parts (anchor_same a r.0) (tx_same tx (r.1).tx) u.0 in
    (v.0, v.1, u.1)

row_from : (f : Bool) (p : Part) (a : Anchor) (tx : TxId) (r : Anchor × Holder) → anchor_same a r.0 ≡ true → tx_same tx (r.1).tx ≡ true → least p (part_of f (r.1).mode) ≡ true → row_holds f p a tx r ≡ true
row_from f p a tx r x y z = and_from _ _ (and_from _ _ x y) z

keeps_case : (o : Ordering) (f : Bool) (p : Part) (b : Anchor) (u : TxId) (a : Anchor) (h : Holder) (r : Anchor × Holder) (rs ts : Locks) → (o ≡ Equal → (a ≡ r.0) × (h.tx ≡ (r.1).tx)) → (holds f p b u rs ≡ true → holds f p b u ts ≡ true)
    → holds f p b u (r ∷ rs) ≡ true → holds f p b u (match_ordering o ((a, h) ∷ r ∷ rs) ((a, with_mode r.1 h.mode) ∷ rs) (r ∷ ts)) ≡ true
keeps_case Less f p b u a h r rs ts same ih e = or_right (row_holds f p b u (a, h)) _ e
keeps_case Equal f p b u a h r rs ts same ih e =
    ⊎_elim
    (λ t. let q = row_parts f p b u r t in
    or_left _ _ (row_from f p b u (a, with_mode r.1 h.mode) (subst (λ x. anchor_same b x ≡ true) (sym (same refl).0) q.0) q.1 (joins_left f p (r.1).mode h.mode q.2)))
    (λ t. or_right (row_holds f p b u (a, with_mode r.1 h.mode)) _ t)
    (or_cases (row_holds f p b u r) (holds f p b u rs) e)
keeps_case Greater f p b u a h r rs ts same ih e =
    ⊎_elim (λ t. or_left _ _ t) (λ t. or_right (row_holds f p b u r) _ (ih t)) (or_cases (row_holds f p b u r) (holds f p b u rs) e)

pub take_keeps : (f : Bool) (p : Part) (b : Anchor) (u : TxId) (a : Anchor) (h : Holder) (locks : Locks) → holds f p b u locks ≡ true → holds f p b u (take_one a h locks) ≡ true
take_keeps f p b u a h [] e = absurd (both_ways false refl e)
take_keeps f p b u a h (r ∷ rs) e = keeps_case (row_cmp a h.tx r) f p b u a h r rs (take_one a h rs) (row_equal a h.tx r) (take_keeps f p b u a h rs) e

gives_case : (o : Ordering) (f : Bool) (p : Part) (a : Anchor) (h : Holder) (r : Anchor × Holder) (rs ts : Locks) → (o ≡ Equal → (a ≡ r.0) × (h.tx ≡ (r.1).tx)) → least p (part_of f h.mode) ≡ true → holds f p a h.tx ts ≡ true
    → holds f p a h.tx (match_ordering o ((a, h) ∷ r ∷ rs) ((a, with_mode r.1 h.mode) ∷ rs) (r ∷ ts)) ≡ true
gives_case Less f p a h r rs ts same e ih = or_left _ _ (row_from f p a h.tx (a, h) (anchor_self a) (tx_self h.tx) e)
gives_case Equal f p a h r rs ts same e ih = or_left _ _ (row_from f p a h.tx (a, with_mode r.1 h.mode) (anchor_self a) (tx_eq h.tx (r.1).tx (same refl).1) (joins_right f p (r.1).mode h.mode e))
gives_case Greater f p a h r rs ts same e ih = or_right (row_holds f p a h.tx r) _ ih

pub take_gives : (f : Bool) (p : Part) (a : Anchor) (h : Holder) (locks : Locks) → least p (part_of f h.mode) ≡ true → holds f p a h.tx (take_one a h locks) ≡ true
take_gives f p a h [] e = or_left _ _ (row_from f p a h.tx (a, h) (anchor_self a) (tx_self h.tx) e)
take_gives f p a h (r ∷ rs) e = gives_case (row_cmp a h.tx r) f p a h r rs (take_one a h rs) (row_equal a h.tx r) e (take_gives f p a h rs e)

-- ---- whose rows they are

abbrev pub Rows : (TxId → Birth → Bool → Type 0) → Locks → Type 0
Rows P locks = AllByRecursion (λ r. P (r.1).tx (r.1).birth (r.1).closed) locks

rows_case : (o : Ordering) (P : TxId → Birth → Bool → Type 0) (a : Anchor) (h : Holder) (r : Anchor × Holder) (rs ts : Locks) → P h.tx h.birth h.closed → Rows P (r ∷ rs) → Rows P ts → Rows P (match_ordering o ((a, h) ∷ r ∷ rs) ((a, with_mode r.1 h.mode) ∷ rs) (r ∷ ts))
rows_case Less P a h r rs ts p all ih = (p, all)
rows_case Equal P a h r rs ts p all ih = all
rows_case Greater P a h r rs ts p all ih = (all.0, ih)

pub rows_take : (P : TxId → Birth → Bool → Type 0) (a : Anchor) (h : Holder) (locks : Locks) → P h.tx h.birth h.closed → Rows P locks → Rows P (take_one a h locks)
rows_take P a h [] p all = (p, tt)
rows_take P a h (r ∷ rs) p all = rows_case (row_cmp a h.tx r) P a h r rs (take_one a h rs) p all (rows_take P a h rs p all.1)

pub rows_all : (P : TxId → Birth → Bool → Type 0) (tx : TxId) (birth : Birth) (ns : List Need) (locks : Locks) → P tx birth false → Rows P locks → Rows P (take_all tx birth ns locks)
rows_all P tx birth [] locks p all = all
rows_all P tx birth (n ∷ ns) locks p all = rows_all P tx birth ns _ p (rows_take P n.anchor (holder_of tx birth n.mode) locks p all)

pub all_keeps : (f : Bool) (p : Part) (b : Anchor) (u : TxId) (tx : TxId) (birth : Birth) (ns : List Need) (locks : Locks) → holds f p b u locks ≡ true → holds f p b u (take_all tx birth ns locks) ≡ true
all_keeps f p b u tx birth [] locks e = e
all_keeps f p b u tx birth (n ∷ ns) locks e = all_keeps f p b u tx birth ns _ (take_keeps f p b u n.anchor (holder_of tx birth n.mode) locks e)

-- what is asked
abbrev pub need_asks : Bool → Part → Anchor → Need → Bool
need_asks f p a n = anchor_same a n.anchor && least p (part_of f n.mode)

abbrev pub asks : Bool → Part → Anchor → List Need → Bool
asks f p a ns = list_any (need_asks f p a) ns

pub all_gives : (f : Bool) (p : Part) (a : Anchor) (tx : TxId) (birth : Birth) (ns : List Need) (locks : Locks) → asks f p a ns ≡ true → holds f p a tx (take_all tx birth ns locks) ≡ true
all_gives f p a tx birth [] locks e = absurd (both_ways false refl e)
all_gives f p a tx birth (n ∷ ns) locks e =
    ⊎_elim
    (λ t. let q = and_parts (anchor_same a n.anchor) (least p (part_of f n.mode)) t in
    all_keeps f p a tx tx birth ns _ (subst (λ x. holds f p x tx (take_one n.anchor (holder_of tx birth n.mode) locks) ≡ true) (sym (anchor_true a n.anchor q.0)) (take_gives f p n.anchor (holder_of tx birth n.mode) locks q.1)))
    (λ t. all_gives f p a tx birth ns _ t)
    (or_cases (need_asks f p a n) (asks f p a ns) e)

-- ---- a gap is split

copy_keeps : (f : Bool) (p : Part) (b : Anchor) (u : TxId) (lower new : Anchor) (rs locks : Locks) → holds f p b u locks ≡ true → holds f p b u (copy_gaps lower new rs locks) ≡ true
copy_keeps f p b u lower new [] locks e = e
copy_keeps f p b u lower new (r ∷ rs) locks e =
    copy_keeps f p b u lower new rs _ (cond_both (holds_gap lower r) (take_one new (gap_alone r.1) locks) locks (λ l. holds f p b u l ≡ true) (λ t. take_keeps f p b u new (gap_alone r.1) locks e) (λ t. e))

pub split_keeps : (f : Bool) (p : Part) (b : Anchor) (u : TxId) (lower new : Anchor) (locks : Locks) → holds f p b u locks ≡ true → holds f p b u (split_gap lower new locks) ≡ true
split_keeps f p b u lower new locks e = copy_keeps f p b u lower new locks locks e

least_held : (q : Part) → least S q ≡ true → is_held q ≡ true
least_held N e = e
least_held S e = refl
least_held I e = refl
least_held X e = refl

least_S : (p q : Part) → least S p ≡ true → least p q ≡ true → least S q ≡ true
least_S N q e h = absurd (both_ways false refl e)
least_S S q e h = h
least_S I q e h = absurd (both_ways false refl e)
least_S X N e h = absurd (both_ways false refl h)
least_S X S e h = absurd (both_ways false refl h)
least_S X I e h = absurd (both_ways false refl h)
least_S X X e h = refl

copy_gives : (p : Part) (u : TxId) (lower new : Anchor) (rs locks : Locks) → least S p ≡ true → holds false p lower u rs ≡ true → holds false p new u (copy_gaps lower new rs locks) ≡ true
copy_gives p u lower new [] locks s e = absurd (both_ways false refl e)
copy_gives p u lower new (r ∷ rs) locks s e =
    ⊎_elim
    (λ t. let q = row_parts false p lower u r t in
    let here : holds_gap lower r ≡ true = and_from _ _ q.0 (least_held ((r.1).mode).gap (least_S p ((r.1).mode).gap s q.2)) in
    copy_keeps false p new u lower new rs _
    (subst (λ l. holds false p new u l ≡ true) (sym (cond-true (holds_gap lower r) (take_one new (gap_alone r.1) locks) locks here))
    (subst (λ x. holds false p new x (take_one new (gap_alone r.1) locks) ≡ true) (sym (tx_true u (r.1).tx q.1)) (take_gives false p new (gap_alone r.1) locks q.2))))
    (λ t. copy_gives p u lower new rs _ s t)
    (or_cases (row_holds false p lower u r) (holds false p lower u rs) e)

pub split_gives : (p : Part) (u : TxId) (lower new : Anchor) (locks : Locks) → least S p ≡ true → holds false p lower u locks ≡ true → holds false p new u (split_gap lower new locks) ≡ true
split_gives p u lower new locks s e = copy_gives p u lower new locks locks s e

rows_copy : (P : TxId → Birth → Bool → Type 0) (lower new : Anchor) (rs locks : Locks) → Rows P rs → Rows P locks → Rows P (copy_gaps lower new rs locks)
rows_copy P lower new [] locks all more = more
rows_copy P lower new (r ∷ rs) locks all more =
    rows_copy P lower new rs _ all.1 (cond_both (holds_gap lower r) (take_one new (gap_alone r.1) locks) locks (Rows P) (λ t. rows_take P new (gap_alone r.1) locks all.0 more) (λ t. more))

pub rows_split : (P : TxId → Birth → Bool → Type 0) (lower new : Anchor) (locks : Locks) → Rows P locks → Rows P (split_gap lower new locks)
rows_split P lower new locks all = rows_copy P lower new locks locks all all

-- ---- closing and releasing

close_row : (tx : TxId) (r : Anchor × Holder) (f : Bool) (p : Part) (b : Anchor) (u : TxId) → row_holds f p b u (r.0, close_holder tx r.1) ≡ row_holds f p b u r
close_row tx r f p b u = at (tx_same tx (r.1).tx)
  where
    at : (c : Bool) → row_holds f p b u (r.0, cond c (record r.1 { closed = true }) r.1) ≡ row_holds f p b u r
    at true = refl
    at false = refl

pub close_holds : (tx : TxId) (f : Bool) (p : Part) (b : Anchor) (u : TxId) (locks : Locks) → holds f p b u (close_locks tx locks) ≡ holds f p b u locks
close_holds tx f p b u [] = refl
close_holds tx f p b u (r ∷ rs) = ap (λ c. c || holds f p b u (close_locks tx rs)) (close_row tx r f p b u) ∙ ap (λ c. row_holds f p b u r || c) (close_holds tx f p b u rs)

pub rows_close : (P Q : TxId → Birth → Bool → Type 0) (tx : TxId) (locks : Locks) → ((u : TxId) (b : Birth) (c : Bool) → P u b c → tx_same tx u ≡ true → Q u b true) → ((u : TxId) (b : Birth) (c : Bool) → P u b c → tx_same tx u ≡ false → Q u b c) → Rows P locks → Rows Q (close_locks tx locks)
rows_close P Q tx [] own other all = tt
rows_close P Q tx (r ∷ rs) own other all = (at (tx_same tx (r.1).tx) refl, rows_close P Q tx rs own other all.1)
  where
    at : (c : Bool) → tx_same tx (r.1).tx ≡ c → Q (cond c (record r.1 { closed = true }) r.1).tx (cond c (record r.1 { closed = true }) r.1).birth (cond c (record r.1 { closed = true }) r.1).closed
    at true e = own (r.1).tx (r.1).birth (r.1).closed all.0 e
    at false e = other (r.1).tx (r.1).birth (r.1).closed all.0 e

pub release_holds : (set : List TxId) (f : Bool) (p : Part) (b : Anchor) (u : TxId) (locks : Locks) → tx_in u set ≡ false → holds f p b u locks ≡ true → holds f p b u (release set locks) ≡ true
release_holds set f p b u [] out e = e
release_holds set f p b u (r ∷ rs) out e =
    ⊎_elim
    (λ t. let q = row_parts f p b u r t in
    let stays : not (tx_in (r.1).tx set) ≡ true = ap not (subst (λ x. tx_in x set ≡ false) (tx_true u (r.1).tx q.1) out) in
    subst (λ l. holds f p b u l ≡ true) (sym (cond-true (not (tx_in (r.1).tx set)) (r ∷ release set rs) (release set rs) stays)) (or_left _ _ t))
    (λ t. cond_both (not (tx_in (r.1).tx set)) (r ∷ release set rs) (release set rs) (λ l. holds f p b u l ≡ true)
    (λ s. or_right (row_holds f p b u r) _ (release_holds set f p b u rs out t)) (λ s. release_holds set f p b u rs out t))
    (or_cases (row_holds f p b u r) (holds f p b u rs) e)

pub rows_release : (P Q : TxId → Birth → Bool → Type 0) (set : List TxId) (locks : Locks) → ((u : TxId) (b : Birth) (c : Bool) → P u b c → tx_in u set ≡ false → Q u b c) → Rows P locks → Rows Q (release set locks)
rows_release P Q set [] h all = tt
rows_release P Q set (r ∷ rs) h all =
    cond_both (not (tx_in (r.1).tx set)) (r ∷ release set rs) (release set rs) (Rows Q)
    (λ s. (h (r.1).tx (r.1).birth (r.1).closed all.0 (not-true _ s), rows_release P Q set rs h all.1)) (λ s. rows_release P Q set rs h all.1)

-- who holds something at an anchor keeps it from being free
pub held_not_free : (f : Bool) (p : Part) (a : Anchor) (u : TxId) (locks : Locks) → holds f p a u locks ≡ true → is_free a locks ≡ false
held_not_free f p a u locks e = ap not (at locks e)
  where
    at : (ls : Locks) → holds f p a u ls ≡ true → list_any (λ r. anchor_same a r.0) ls ≡ true
    at [] e = e
    at (r ∷ rs) e = ⊎_elim (λ t. or_left _ _ (row_parts f p a u r t).0) (λ t. or_right (anchor_same a r.0) _ (at rs t)) (or_cases (row_holds f p a u r) (holds f p a u rs) e)

-- ---- a grant: what does not fit is closed

none_case : (test : Holder → Bool) (h : Holder) (hs : List Holder) (b : Bool) → test h ≡ b → (oldest_by test hs ≡ None → AllByRecursion (λ g. test g ≡ false) hs) → cond b (Some (older_of h (oldest_by test hs))) (oldest_by test hs) ≡ None → AllByRecursion (λ g. test g ≡ false) (h ∷ hs)
none_case test h hs true t ih f = absurd cc
none_case test h hs false t ih f = (t, ih f)

oldest_none : (test : Holder → Bool) (hs : List Holder) → oldest_by test hs ≡ None → AllByRecursion (λ h. test h ≡ false) hs
oldest_none test [] e = tt
oldest_none test (h ∷ hs) e = none_case test h hs (test h) refl (oldest_none test hs) e

wait_grant : (o : Option Holder) → wait_by o ≡ Grant → o ≡ None
wait_grant None e = refl
wait_grant (Some h) e = absurd cc

die_grant : (o : Option Holder) (d : Decision) → die_by o d ≡ Grant → d ≡ Grant
die_grant None d e = e
die_grant (Some h) d e = absurd cc

Closed : (Anchor × Holder → Bool) → Locks → Type 0
Closed test locks = AllByRecursion (λ r. test r ≡ true → (r.1).closed ≡ true) locks

way_case : (test : Anchor × Holder → Bool) (r : Anchor × Holder) (rs : Locks) (b : Bool) → test r ≡ b → (AllByRecursion (λ h. not h.closed ≡ false) (map (λ q. q.1) (filter test rs)) → Closed test rs) → AllByRecursion (λ h. not h.closed ≡ false) (map (λ q. q.1) (cond b (r ∷ filter test rs) (filter test rs))) → Closed test (r ∷ rs)
unfolding Closed
way_case test r rs true t ih all = (λ e. not-false _ all.0, ih all.1)
way_case test r rs false t ih all = (λ e. absurd (both_ways (test r) t e), ih all)

way_closed : (test : Anchor × Holder → Bool) (locks : Locks) → AllByRecursion (λ h. not h.closed ≡ false) (map (λ r. r.1) (filter test locks)) → Closed test locks
unfolding Closed
way_closed test [] all = tt
way_closed test (r ∷ rs) all = way_case test r rs (test r) refl (way_closed test rs) all

granted_closed : (tx : TxId) (birth : Birth) (needs : List Need) (locks : Locks) → decide tx birth needs locks ≡ Grant → Closed (λ r. not (tx_same tx (r.1).tx) && meets (λ a h. not (compatible a h)) needs r) locks
granted_closed tx birth needs locks e =
    way_closed _ locks (oldest_none (λ h. not h.closed) (conflicting_holders tx needs locks) (wait_grant _ (die_grant _ _ e)))

fits_less : (p q x y : Part) → least q x ≡ true → least p y ≡ true → part_compatible q p ≡ false → part_compatible x y ≡ false
fits_less p N x y a b e = absurd (both_ways true e refl)
fits_less N S x y a b e = absurd (both_ways true e refl)
fits_less N I x y a b e = absurd (both_ways true e refl)
fits_less N X x y a b e = absurd (both_ways true e refl)
fits_less S S x y a b e = absurd (both_ways true e refl)
fits_less I S N y a b e = absurd (both_ways false refl a)
fits_less I S S N a b e = absurd (both_ways false refl b)
fits_less I S S S a b e = absurd (both_ways false refl b)
fits_less I S S I a b e = refl
fits_less I S S X a b e = refl
fits_less I S I y a b e = absurd (both_ways false refl a)
fits_less I S X N a b e = absurd (both_ways false refl b)
fits_less I S X S a b e = absurd (both_ways false refl b)
fits_less I S X I a b e = refl
fits_less I S X X a b e = refl
fits_less X S N y a b e = absurd (both_ways false refl a)
fits_less X S S N a b e = absurd (both_ways false refl b)
fits_less X S S S a b e = absurd (both_ways false refl b)
fits_less X S S I a b e = absurd (both_ways false refl b)
fits_less X S S X a b e = refl
fits_less X S I y a b e = absurd (both_ways false refl a)
fits_less X S X N a b e = absurd (both_ways false refl b)
fits_less X S X S a b e = absurd (both_ways false refl b)
fits_less X S X I a b e = absurd (both_ways false refl b)
fits_less X S X X a b e = refl
fits_less S I N y a b e = absurd (both_ways false refl a)
fits_less S I S y a b e = absurd (both_ways false refl a)
fits_less S I I N a b e = absurd (both_ways false refl b)
fits_less S I I S a b e = refl
fits_less S I I I a b e = absurd (both_ways false refl b)
fits_less S I I X a b e = refl
fits_less S I X N a b e = absurd (both_ways false refl b)
fits_less S I X S a b e = refl
fits_less S I X I a b e = absurd (both_ways false refl b)
fits_less S I X X a b e = refl
fits_less I I x y a b e = absurd (both_ways true e refl)
fits_less X I N y a b e = absurd (both_ways false refl a)
fits_less X I S y a b e = absurd (both_ways false refl a)
fits_less X I I N a b e = absurd (both_ways false refl b)
fits_less X I I S a b e = absurd (both_ways false refl b)
fits_less X I I I a b e = absurd (both_ways false refl b)
fits_less X I I X a b e = refl
fits_less X I X N a b e = absurd (both_ways false refl b)
fits_less X I X S a b e = absurd (both_ways false refl b)
fits_less X I X I a b e = absurd (both_ways false refl b)
fits_less X I X X a b e = refl
fits_less S X N y a b e = absurd (both_ways false refl a)
fits_less S X S y a b e = absurd (both_ways false refl a)
fits_less S X I y a b e = absurd (both_ways false refl a)
fits_less S X X N a b e = absurd (both_ways false refl b)
fits_less S X X S a b e = refl
fits_less S X X I a b e = absurd (both_ways false refl b)
fits_less S X X X a b e = refl
fits_less I X N y a b e = absurd (both_ways false refl a)
fits_less I X S y a b e = absurd (both_ways false refl a)
fits_less I X I y a b e = absurd (both_ways false refl a)
fits_less I X X N a b e = absurd (both_ways false refl b)
fits_less I X X S a b e = absurd (both_ways false refl b)
fits_less I X X I a b e = refl
fits_less I X X X a b e = refl
fits_less X X N y a b e = absurd (both_ways false refl a)
fits_less X X S y a b e = absurd (both_ways false refl a)
fits_less X X I y a b e = absurd (both_ways false refl a)
fits_less X X X N a b e = absurd (both_ways false refl b)
fits_less X X X S a b e = absurd (both_ways false refl b)
fits_less X X X I a b e = absurd (both_ways false refl b)
fits_less X X X X a b e = refl

and_l : (x y : Bool) → x ≡ false → (x && y) ≡ false
and_l x y e = ap (λ b. b && y) e

and_r : (x y : Bool) → y ≡ false → (x && y) ≡ false
and_r true y e = e
and_r false y e = refl

not_fit : (f : Bool) (p q : Part) (m h : Mode) → least q (part_of f m) ≡ true → least p (part_of f h) ≡ true → part_compatible q p ≡ false → not (compatible m h) ≡ true
not_fit true p q m h a b e = ap not (and_l _ (part_compatible m.gap h.gap) (fits_less p q m.key h.key a b e))
not_fit false p q m h a b e = ap not (and_r (part_compatible m.key h.key) _ (fits_less p q m.gap h.gap a b e))

-- a held part that is a write, and what doesn't fit it
written_by : (p q x y : Part) → least I p ≡ true → least q x ≡ true → least p y ≡ true → part_compatible q p ≡ false → part_writes x y ≡ true
written_by N q x y i a b e = absurd (both_ways false refl i)
written_by S q x y i a b e = absurd (both_ways false refl i)
written_by I q x N i a b e = absurd (both_ways false refl b)
written_by I q x S i a b e = absurd (both_ways false refl b)
written_by I q x I i a b e = ap not (fits_less I q x I a b e)
written_by I q x X i a b e = ap not (fits_less I q x X a b e)
written_by X q x N i a b e = absurd (both_ways false refl b)
written_by X q x S i a b e = absurd (both_ways false refl b)
written_by X q x I i a b e = absurd (both_ways false refl b)
written_by X q x X i a b e = ap not (fits_less X q x X a b e)

is_over : (f : Bool) (p q : Part) (m h : Mode) → least I p ≡ true → least q (part_of f m) ≡ true → least p (part_of f h) ≡ true → part_compatible q p ≡ false → writes m h ≡ true
is_over true p q m h i a b e = or_left _ _ (written_by p q m.key h.key i a b e)
is_over false p q m h i a b e = or_right (part_writes m.key h.key) _ (written_by p q m.gap h.gap i a b e)

-- what is asked on an anchor meets a row that holds there
meets_row : (test : Mode → Mode → Bool) (f : Bool) (p q : Part) (a : Anchor) (u : TxId) (r : Anchor × Holder) (ns : List Need) → ((m h : Mode) → least q (part_of f m) ≡ true → least p (part_of f h) ≡ true → test m h ≡ true) → asks f q a ns ≡ true → row_holds f p a u r ≡ true → meets test ns r ≡ true
meets_row test f p q a u r [] h e t = absurd (both_ways false refl e)
meets_row test f p q a u r (n ∷ ns) h e t =
    ⊎_elim
    (λ s. let x = and_parts (anchor_same a n.anchor) (least q (part_of f n.mode)) s in
    let y = row_parts f p a u r t in
    or_left _ _ (and_from _ _ (subst (λ b. anchor_same b r.0 ≡ true) (anchor_true a n.anchor x.0) y.0) (h n.mode (r.1).mode x.1 y.2)))
    (λ s. or_right (anchor_same n.anchor r.0 && test n.mode (r.1).mode) _ (meets_row test f p q a u r ns h s t))
    (or_cases (need_asks f q a n) (asks f q a ns) e)

-- some row of those that pass
find_row : (P : TxId → Birth → Bool → Type 0) (test : Anchor × Holder → Bool) (f : Bool) (p : Part) (a : Anchor) (u : TxId) (locks : Locks) → Rows P locks → Closed test locks → ((r : Anchor × Holder) → row_holds f p a u r ≡ true → test r ≡ true) → holds f p a u locks ≡ true → (b : Birth) × P u b true
unfolding Closed
find_row P test f p a u [] all closed h e = absurd (both_ways false refl e)
find_row P test f p a u (r ∷ rs) all closed h e =
    ⊎_elim
    (λ t. let y = row_parts f p a u r t in
    ((r.1).birth, subst (λ x. P x (r.1).birth true) (sym (tx_true u (r.1).tx y.1)) (subst (λ c. P (r.1).tx (r.1).birth c) (closed.0 (h r t)) all.0)))
    (λ t. find_row P test f p a u rs all.1 closed.1 h t)
    (or_cases (row_holds f p a u r) (holds f p a u rs) e)

apart_row : (tx u : TxId) (f : Bool) (p : Part) (a : Anchor) (r : Anchor × Holder) → (tx ≡ u → ⊥) → row_holds f p a u r ≡ true → not (tx_same tx (r.1).tx) ≡ true
apart_row tx u f p a r ne t = ap not (tx_ne tx (r.1).tx (λ e. ne (e ∙ sym (tx_true u (r.1).tx (row_parts f p a u r t).1))))

-- who holds what does not fit a granted need is closed
pub conflict : (P : TxId → Birth → Bool → Type 0) (tx u : TxId) (birth : Birth) (f : Bool) (p q : Part) (a : Anchor) (ns : List Need) (locks : Locks) → Rows P locks → decide tx birth ns locks ≡ Grant
    → holds f p a u locks ≡ true → asks f q a ns ≡ true → part_compatible q p ≡ false → (tx ≡ u → ⊥) → (b : Birth) × P u b true
conflict P tx u birth f p q a ns locks rows grant held asked clash ne =
    find_row P _ f p a u locks rows (granted_closed tx birth ns locks grant)
    (λ r t. and_from _ _ (apart_row tx u f p a r ne t) (meets_row _ f p q a u r ns (λ m h x y. not_fit f p q m h x y clash) asked t)) held

-- ---- whose writes are violated

violated_keeps : (tx u : TxId) (ns : List Need) (locks : Locks) (so_far : List TxId) → tx_in u so_far ≡ true → tx_in u (violated_by tx ns locks so_far) ≡ true
violated_keeps tx u ns [] so_far e = e
violated_keeps tx u ns (r ∷ rs) so_far e =
    violated_keeps tx u ns rs _ (cond_both (not (tx_same tx (r.1).tx) && (r.1).closed && meets writes ns r) (tx_insert (r.1).tx so_far) so_far (λ l. tx_in u l ≡ true) (λ t. insert_keeps (r.1).tx u so_far e) (λ t. e))

violated_from : (P : TxId → Birth → Bool → Type 0) (tx u : TxId) (f : Bool) (p q : Part) (a : Anchor) (ns : List Need) (locks : Locks) (so_far : List TxId) → Rows P locks → ((b : Birth) (c : Bool) → P u b c → c ≡ true)
    → least I p ≡ true → holds f p a u locks ≡ true → asks f q a ns ≡ true → part_compatible q p ≡ false → (tx ≡ u → ⊥) → tx_in u (violated_by tx ns locks so_far) ≡ true
violated_from P tx u f p q a ns [] so_far rows closed writing held asked clash ne = absurd (both_ways false refl held)
violated_from P tx u f p q a ns (r ∷ rs) so_far rows closed writing held asked clash ne =
    ⊎_elim
    (λ t. let same : u ≡ (r.1).tx = tx_true u (r.1).tx (row_parts f p a u r t).1 in
    let here : (not (tx_same tx (r.1).tx) && (r.1).closed && meets writes ns r) ≡ true =
    and_from _ _ (and_from _ _ (apart_row tx u f p a r ne t) (closed (r.1).birth (r.1).closed (subst (λ x. P x (r.1).birth (r.1).closed) (sym same) rows.0))) (meets_row writes f p q a u r ns (λ m h x y. is_over f p q m h writing x y clash) asked t) in
    violated_keeps tx u ns rs _ (subst (λ l. tx_in u l ≡ true) (sym (cond-true _ (tx_insert (r.1).tx so_far) so_far here)) (subst (λ x. tx_in x (tx_insert (r.1).tx so_far) ≡ true) (sym same) (insert_has (r.1).tx so_far))))
    (λ t. violated_from P tx u f p q a ns rs _ rows.1 closed writing t asked clash ne)
    (or_cases (row_holds f p a u r) (holds f p a u rs) held)

pub violates : (P : TxId → Birth → Bool → Type 0) (tx u : TxId) (f : Bool) (p q : Part) (a : Anchor) (ns : List Need) (locks : Locks) → Rows P locks → ((b : Birth) (c : Bool) → P u b c → c ≡ true)
    → least I p ≡ true → holds f p a u locks ≡ true → asks f q a ns ≡ true → part_compatible q p ≡ false → (tx ≡ u → ⊥) → tx_in u (violated tx ns locks) ≡ true
violates P tx u f p q a ns locks rows closed writing held asked clash ne = violated_from P tx u f p q a ns locks [] rows closed writing held asked clash ne

-- who holds something has a row
pub holder_row : (P : TxId → Birth → Bool → Type 0) (f : Bool) (p : Part) (a : Anchor) (u : TxId) (locks : Locks) → Rows P locks → holds f p a u locks ≡ true → (b : Birth) × (c : Bool) × P u b c
holder_row P f p a u [] all e = absurd (both_ways false refl e)
holder_row P f p a u (r ∷ rs) all e =
    ⊎_elim
    (λ t. ((r.1).birth, (r.1).closed, subst (λ x. P x (r.1).birth (r.1).closed) (sym (tx_true u (r.1).tx (row_parts f p a u r t).1)) all.0))
    (λ t. holder_row P f p a u rs all.1 t)
    (or_cases (row_holds f p a u r) (holds f p a u rs) e)

-- whose writes are violated has a closed row
violated_case : (P : TxId → Birth → Bool → Type 0) (tx u : TxId) (r : Anchor × Holder) (so_far : List TxId) (t : Bool) → P (r.1).tx (r.1).birth (r.1).closed → tx_in u (cond (not (tx_same tx (r.1).tx) && (r.1).closed && t) (tx_insert (r.1).tx so_far) so_far) ≡ true → (tx_in u so_far ≡ true) ⊎ ((b : Birth) × P u b true)
violated_case P tx u r so_far t p e =
    ⊎_elim
    (λ h. let c = and_parts (not (tx_same tx (r.1).tx) && (r.1).closed) t h in let d = and_parts (not (tx_same tx (r.1).tx)) (r.1).closed c.0 in
    ⊎_elim (λ s. inr ((r.1).birth, subst (λ z. P z (r.1).birth true) (sym s) (subst (λ x. P (r.1).tx (r.1).birth x) d.1 p))) (λ s. inl s)
    (in_insert (r.1).tx u so_far (subst (λ b. tx_in u (cond b (tx_insert (r.1).tx so_far) so_far) ≡ true) h e)))
    (λ h. inl (subst (λ b. tx_in u (cond b (tx_insert (r.1).tx so_far) so_far) ≡ true) h e))
    (cases_Bool (not (tx_same tx (r.1).tx) && (r.1).closed && t))

violated_any : (P : TxId → Birth → Bool → Type 0) (tx u : TxId) (ns : List Need) (locks : Locks) (so_far : List TxId) → Rows P locks → tx_in u (violated_by tx ns locks so_far) ≡ true → (tx_in u so_far ≡ true) ⊎ ((b : Birth) × P u b true)
violated_any P tx u ns [] so_far rows e = inl e
violated_any P tx u ns (r ∷ rs) so_far rows e = ⊎_elim (λ h. violated_case P tx u r so_far (meets writes ns r) rows.0 h) (λ h. inr h) (violated_any P tx u ns rs _ rows.1 e)

pub violated_row : (P : TxId → Birth → Bool → Type 0) (tx u : TxId) (ns : List Need) (locks : Locks) → Rows P locks → tx_in u (violated tx ns locks) ≡ true → (b : Birth) × P u b true
violated_row P tx u ns locks rows e = ⊎_elim (λ h. absurd (both_ways false refl h)) (λ h. h) (violated_any P tx u ns locks [] rows e)
