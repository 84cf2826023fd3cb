-- The oldest active holder in the way, found from need to need.
use Rattle.std.proofs.Common.{◌≡◌, ◌⊎◌, inl, inr, ⊎_elim, refl, sym, ap, ◌∙◌, subst, Bool, true, false, cond, not, ◌&&◌, List, [], ◌∷◌, map, Option, Some, None}
use Rattle.std.specs.List.{filter}
use Rattle.std.specs.Option.{option_map}
use Rattle.std.proofs.lemmas.Bool.{both_ways}
use Rattle.std.proofs.lemmas.Cmp.{then_total, on_total, nat_cmp_total, upto, tied_itself, alike_right}
use Rattle.std.specs.Cmp.{IsTotalOrder}
use Rattle.std.specs.declared.cmp.Ordering.{Ordering}
use Rattle.std.specs.declared.cmp.Ordering.TheVariants.{Less, Equal, Greater}
use Rattle.std.specs.Ordering.{ordering_then, ordering_reverse, is_eq, is_gt, is_lt}
use Rattle.clv_base.specs.declared.names.TxId.{TxId}
use Rattle.clv_base.specs.declared.names.Birth.{Birth}
use Rattle.clv_base.specs.declared.modes.Anchor.{Anchor}
use Rattle.clv_base.specs.declared.modes.Anchor.TheVariants.{Low, At}
use Rattle.clv_base.specs.declared.modes.Need.{Need}
use Rattle.clv_base.specs.declared.modes.Holder.{Holder}
use Rattle.clv_base.specs.declared.modes.Decision.{Decision}
use Rattle.clv_base.specs.declared.modes.Decision.TheVariants.{Grant, Wait, Die}
use Rattle.clv_base.specs.Modes.{compatible}
use Rattle.clv_base.specs.Orders.{tx_same, birth_cmp, is_older, anchor_cmp}
use Rattle.clv_base.specs.Locks.{Locks, meets, conflicting_holders, older_of, oldest_by, wait_by, die_by, decide}
use Rattle.clv_base.proofs.SameNames.{tx_true}
use Rattle.lock_index.specs.Groups.{Groups, rows_of, Apart}
pub use Rattle.lock_index.specs.Rising.{row_order, Behind, Rising}
use Rattle.lock_index.specs.Meeting.{visit, oldest_step, older_row, age_cmp, decided, is_active, bars}
use Rattle.lock_index.proofs.Sums.{Row, In, visited}
use Rattle.law_base.proofs.Names.{anchor_less as anchor_goes_on}
use Rattle.law_base.proofs.Bools.{less_is}
use Rattle.law_base.proofs.Sets.{tx_total}

-- ---- the orders

birth_order : IsTotalOrder birth_cmp
birth_order = then_total (on_total (λ t. t.stamp) nat_cmp_total) (then_total (on_total (λ t. t.session) nat_cmp_total) (on_total (λ t. t.serial) nat_cmp_total))

anchor_turns : (a b : Anchor) → anchor_cmp a b ≡ ordering_reverse (anchor_cmp b a)
anchor_turns Low Low = refl
anchor_turns Low (At k) = refl
anchor_turns (At j) Low = refl
anchor_turns (At j) (At k) = nat_cmp_total.antisymm j k

anchor_agrees : (a b c : Anchor) → anchor_cmp a b ≡ Equal → anchor_cmp a c ≡ anchor_cmp b c
anchor_agrees Low Low c e = refl
anchor_agrees Low (At j) c e = absurd cc
anchor_agrees (At i) Low c e = absurd cc
anchor_agrees (At i) (At j) Low e = refl
anchor_agrees (At i) (At j) (At k) e = nat_cmp_total.congr i j k e

pub anchor_order : IsTotalOrder anchor_cmp
anchor_order = record { antisymm = anchor_turns; trans = anchor_goes_on; congr = anchor_agrees }

pub row_total : IsTotalOrder row_order
row_total = then_total (on_total (λ (r : Row). r.0) anchor_order) (on_total (λ (r : Row). (r.1).tx) tx_total)

age_total : IsTotalOrder age_cmp
age_total = then_total (on_total (λ (r : Row). (r.1).birth) birth_order) row_total

-- ---- rows that rise

behind_in : (r q : Row) (rs : Locks) → Behind r rs → In q rs → row_order r q ≡ Less
behind_in r q [] b i = absurd i
behind_in r q (x ∷ xs) b i = ⊎_elim (λ s. subst (λ z. row_order r z ≡ Less) (sym s) b.0) (λ j. behind_in r q xs b.1 j) i

-- ---- the oldest of many

pub record Oldest (o : Option Row) (X : Row → Type 0) : Type 1 where
  pub none : o ≡ None → (r : Row) → X r → ⊥
  pub some : (r : Row) → o ≡ Some r → X r × ((q : Row) → X q → is_gt (age_cmp r q) ≡ false)

oldest_alike : (o : Option Row) (X Y : Row → Type 0) → ((r : Row) → X r → Y r) → ((r : Row) → Y r → X r) → Oldest o X → Oldest o Y
oldest_alike o X Y f g k = record { none = λ e r y. k.none e r (g r y); some = λ r e. (let w = k.some r e in (f r w.0, λ q y. w.1 q (g q y))) }

not_behind : (r q : Row) → is_gt (age_cmp r q) ≡ true → is_gt (age_cmp q r) ≡ false
not_behind r q e = go (age_cmp r q) (age_total.antisymm q r) e
  where
    go : (o : Ordering) → age_cmp q r ≡ ordering_reverse o → is_gt o ≡ true → is_gt (age_cmp q r) ≡ false
    go Less f e = absurd (both_ways false refl e)
    go Equal f e = absurd (both_ways false refl e)
    go Greater f e = ap is_gt f

one_alone : (r : Row) (X : Row → Type 0) → ((q : Row) → X q → is_gt (age_cmp r q) ≡ false) → Oldest (Some r) (λ q. (q ≡ r) ⊎ X q)
one_alone r X least = record {
  none = λ e. absurd cc;
  some = λ q e. (let same : r ≡ q = cc in (inl (sym same), λ s x. subst (λ z. is_gt (age_cmp z s) ≡ false) same (⊎_elim (λ t. subst (λ z. is_gt (age_cmp r z) ≡ false) (sym t) (ap is_gt (tied_itself age_total r))) (λ y. least s y) x)));
}

oldest_put : (r : Row) (o : Option Row) (X : Row → Type 0) → Oldest o X → Oldest (older_row r o) (λ q. (q ≡ r) ⊎ X q)
oldest_put r None X k = one_alone r X (λ q x. absurd (k.none refl q x))
oldest_put r (Some g) X k = go (is_gt (age_cmp r g)) refl
  where
    go : (b : Bool) → is_gt (age_cmp r g) ≡ b → Oldest (cond b (Some g) (Some r)) (λ q. (q ≡ r) ⊎ X q)
    go true e = let w = k.some g refl in record {
      none = λ f. absurd cc;
      some = λ q f. (let same : g ≡ q = cc in (inr (subst X same w.0), λ s x. subst (λ z. is_gt (age_cmp z s) ≡ false) same (⊎_elim (λ t. subst (λ z. is_gt (age_cmp g z) ≡ false) (sym t) (not_behind r g e)) (λ y. w.1 s y) x)));
    }
    go false e = let w = k.some g refl in one_alone r X (λ q x. upto age_total r g q e (w.1 q x))

none_yet : Oldest None (λ q. ⊥)
none_yet = record { none = λ e r x. x; some = λ r e. absurd cc }

abbrev InTheWay : TxId → List Need → Locks → Row → Type 0
InTheWay tx needs rows q = In q rows × ((is_active tx q.1 && meets bars needs q) ≡ true)

visit_oldest : (tx : TxId) (needs : List Need) (gs : Groups) → Apart gs → Oldest (visit (oldest_step tx) needs gs None) (InTheWay tx needs (rows_of gs))
visit_oldest tx needs gs p = visited Oldest oldest_alike older_row oldest_put (is_active tx) bars needs gs p None none_yet

-- ---- the oldest by the definition

abbrev elder : Row → Option Row → Option Row
elder r None = Some r
elder r (Some g) = cond (is_older (g.1).birth (r.1).birth) (Some g) (Some r)

abbrev oldest_row : TxId → List Need → Locks → Option Row
oldest_row tx needs [] = None
oldest_row tx needs (r ∷ rs) = cond (is_active tx r.1 && meets bars needs r) (elder r (oldest_row tx needs rs)) (oldest_row tx needs rs)

elder_is : (r : Row) (o : Option Row) → option_map (λ q. q.1) (elder r o) ≡ Some (older_of r.1 (option_map (λ q. q.1) o))
elder_is r None = refl
elder_is r (Some g) = go (is_older (g.1).birth (r.1).birth)
  where
    go : (b : Bool) → option_map (λ q. q.1) (cond b (Some g) (Some r)) ≡ Some (cond b g.1 r.1)
    go true = refl
    go false = refl

row_is : (tx : TxId) (needs : List Need) (rows : Locks) → option_map (λ q. q.1) (oldest_row tx needs rows) ≡ oldest_by (λ h. not h.closed) (conflicting_holders tx needs rows)
row_is tx needs [] = refl
row_is tx needs (r ∷ rs) = go (not (tx_same tx (r.1).tx)) (not (r.1).closed) (meets bars needs r) refl (row_is tx needs rs)
  where
    ways : List Holder
    ways = conflicting_holders tx needs rs

    passed : (s : Bool) → not (r.1).closed ≡ s → option_map (λ q. q.1) (cond s (elder r (oldest_row tx needs rs)) (oldest_row tx needs rs)) ≡ cond s (Some (older_of r.1 (option_map (λ q. q.1) (oldest_row tx needs rs)))) (option_map (λ q. q.1) (oldest_row tx needs rs))
    passed true e = elder_is r (oldest_row tx needs rs)
    passed false e = refl

    go : (n s m : Bool) → not (r.1).closed ≡ s → option_map (λ q. q.1) (oldest_row tx needs rs) ≡ oldest_by (λ h. not h.closed) (conflicting_holders tx needs rs)
        → option_map (λ q. q.1) (cond ((n && s) && m) (elder r (oldest_row tx needs rs)) (oldest_row tx needs rs)) ≡ oldest_by (λ h. not h.closed) (map (λ q. q.1) (cond (n && m) (r ∷ filter (λ q. not (tx_same tx (q.1).tx) && meets (λ a h. not (compatible a h)) needs q) rs) (filter (λ q. not (tx_same tx (q.1).tx) && meets (λ a h. not (compatible a h)) needs q) rs)))
    go false s m e more = more
    go true true true e more = elder_is r (oldest_row tx needs rs) ∙ ap (λ o. Some (older_of r.1 o)) more ∙ ap (λ b. cond b (Some (older_of r.1 (oldest_by (λ h. not h.closed) ways))) (oldest_by (λ h. not h.closed) ways)) (sym e)
    go true false true e more = more ∙ ap (λ b. cond b (Some (older_of r.1 (oldest_by (λ h. not h.closed) ways))) (oldest_by (λ h. not h.closed) ways)) (sym e)
    go true true false e more = more
    go true false false e more = more

-- it is the oldest, as rows that rise are in the order that decides between births that tie
row_oldest : (tx : TxId) (needs : List Need) (rows : Locks) → Rising rows → Oldest (oldest_row tx needs rows) (InTheWay tx needs rows)
row_oldest tx needs [] s = oldest_alike None (λ q. ⊥) _ (λ r x. absurd x) (λ r x. x.0) none_yet
row_oldest tx needs (r ∷ rs) s = go (is_active tx r.1 && meets bars needs r) refl (oldest_row tx needs rs) (row_oldest tx needs rs s.1)
  where
    same_test : (q : Row) → q ≡ r → (is_active tx q.1 && meets bars needs q) ≡ (is_active tx r.1 && meets bars needs r)
    same_test q e = ap (λ (u : Row). is_active tx u.1 && meets bars needs u) e

    with_first : (o : Option Row) → (is_active tx r.1 && meets bars needs r) ≡ true → Oldest o (λ q. (q ≡ r) ⊎ InTheWay tx needs rs q) → Oldest o (InTheWay tx needs (r ∷ rs))
    with_first o e k = oldest_alike o _ _ (λ q x. ⊎_elim (λ z. (inl z, same_test q z ∙ e)) (λ y. (inr y.0, y.1)) x) (λ q x. ⊎_elim (λ z. inl z) (λ i. inr (i, x.1)) x.0) k

    tie : (g : Row) (o : Ordering) → birth_cmp (g.1).birth (r.1).birth ≡ o → row_order r g ≡ Less → is_lt o ≡ false → is_gt (age_cmp r g) ≡ false
    tie g Less e l f = absurd (both_ways true f refl)
    tie g Equal e l f = ap is_gt (ap (λ p. ordering_then p (row_order r g)) (birth_order.antisymm (r.1).birth (g.1).birth ∙ ap ordering_reverse e) ∙ l)
    tie g Greater e l f = ap is_gt (ap (λ p. ordering_then p (row_order r g)) (birth_order.antisymm (r.1).birth (g.1).birth ∙ ap ordering_reverse e))

    first : (o : Option Row) → Oldest o (InTheWay tx needs rs) → Oldest (elder r o) (λ q. (q ≡ r) ⊎ InTheWay tx needs rs q)
    first None k = one_alone r (InTheWay tx needs rs) (λ q x. absurd (k.none refl q x))
    first (Some g) k = side (is_older (g.1).birth (r.1).birth) refl
      where
        side : (b : Bool) → is_older (g.1).birth (r.1).birth ≡ b → Oldest (cond b (Some g) (Some r)) (λ q. (q ≡ r) ⊎ InTheWay tx needs rs q)
        side true e = let w = k.some g refl in record {
          none = λ f. absurd cc;
          some = λ q f. (let same : g ≡ q = cc in (inr (subst (InTheWay tx needs rs) same w.0), λ z x. subst (λ y. is_gt (age_cmp y z) ≡ false) same (⊎_elim (λ t. subst (λ y. is_gt (age_cmp g y) ≡ false) (sym t) (before (birth_cmp (g.1).birth (r.1).birth) e)) (λ y. w.1 z y) x)));
        }
          where
            before : (o : Ordering) → is_lt o ≡ true → is_gt (ordering_then o (row_order g r)) ≡ false
            before Less e = refl
            before Equal e = absurd (both_ways false refl e)
            before Greater e = absurd (both_ways false refl e)
        side false e = let w = k.some g refl in one_alone r (InTheWay tx needs rs) (λ q x. upto age_total r g q (tie g (birth_cmp (g.1).birth (r.1).birth) refl (behind_in r g rs s.0 w.0.0) e) (w.1 q x))

    go : (b : Bool) → (is_active tx r.1 && meets bars needs r) ≡ b → (o : Option Row) → Oldest o (InTheWay tx needs rs) → Oldest (cond b (elder r o) o) (InTheWay tx needs (r ∷ rs))
    go true e o k = with_first (elder r o) e (first o k)
    go false e o k = oldest_alike o _ _ (λ q x. (inr x.0, x.1)) (λ q x. ⊎_elim (λ z. absurd (both_ways _ (same_test q z ∙ e) x.1)) (λ i. (i, x.1)) x.0) k

-- ---- the decision

-- two oldest of the same rows decide the same
level : (r g : Row) → is_gt (age_cmp r g) ≡ false → is_gt (age_cmp g r) ≡ false → age_cmp r g ≡ Equal
level r g e f = go (age_cmp r g) e (age_total.antisymm g r) refl
  where
    go : (o : Ordering) → is_gt o ≡ false → age_cmp g r ≡ ordering_reverse o → age_cmp r g ≡ o → age_cmp r g ≡ Equal
    go Less e t s = absurd (both_ways true (sym (ap is_gt t) ∙ f) refl)
    go Equal e t s = s
    go Greater e t s = absurd (both_ways true e refl)

then_level : (o p : Ordering) → ordering_then o p ≡ Equal → (o ≡ Equal) × (p ≡ Equal)
then_level Less p e = absurd cc
then_level Equal p e = (refl, e)
then_level Greater p e = absurd cc

same_decided : (birth : Birth) (o p : Option Row) (X : Row → Type 0) → Oldest o X → Oldest p X → decided birth o ≡ decided birth p
same_decided birth None None X k l = refl
same_decided birth None (Some g) X k l = absurd (k.none refl g (l.some g refl).0)
same_decided birth (Some r) None X k l = absurd (l.none refl r (k.some r refl).0)
same_decided birth (Some r) (Some g) X k l =
    let v = k.some r refl in let w = l.some g refl in
    let e = then_level _ _ (level r g (v.1 g w.0) (w.1 r v.0)) in
    let t : (r.1).tx ≡ (g.1).tx = tx_true (r.1).tx (g.1).tx (ap is_eq (then_level _ _ e.1).1) in
    ap (λ b. cond b (Die (r.1).tx) (Wait (r.1).tx)) (ap is_lt (birth_order.congr (r.1).birth (g.1).birth birth e.0)) ∙ ap (λ u. cond (is_older (g.1).birth birth) (Die u) (Wait u)) t

-- by the holder alone
abbrev decided_of : Birth → Option Holder → Decision
decided_of birth None = Grant
decided_of birth (Some h) = cond (is_older h.birth birth) (Die h.tx) (Wait h.tx)

of_row : (birth : Birth) (o : Option Row) → decided birth o ≡ decided_of birth (option_map (λ q. q.1) o)
of_row birth None = refl
of_row birth (Some r) = refl

-- where the oldest is no older than the one who asks, none is
abbrev keep : Birth → Option Holder → Option Holder
keep birth None = None
keep birth (Some h) = cond (is_older h.birth birth) (Some h) None

older_goes_on : (a b c : Birth) → is_older a b ≡ true → is_older b c ≡ true → is_older a c ≡ true
older_goes_on a b c e f = ap is_lt (birth_order.trans a b c (less_is _ e) (less_is _ f))

older_splits : (a b c : Birth) → is_older a c ≡ true → is_older b c ≡ false → is_older a b ≡ true
older_splits a b c e f = go (birth_cmp c b) refl
  where
    go : (o : Ordering) → birth_cmp c b ≡ o → is_older a b ≡ true
    go Less g = ap is_lt (birth_order.trans a c b (less_is _ e) g)
    go Equal g = ap is_lt (sym (alike_right birth_order c b a g) ∙ less_is _ e)
    go Greater g = absurd (both_ways true (ap is_lt (sym (birth_order.antisymm b c ∙ ap ordering_reverse g)) ∙ f) refl)

keep_more : (birth : Birth) (h : Holder) (o : Option Holder) → cond (is_older h.birth birth) (Some (older_of h (keep birth o))) (keep birth o) ≡ keep birth (Some (older_of h o))
keep_more birth h None = refl
keep_more birth h (Some g) = go (is_older h.birth birth) (is_older g.birth birth) (is_older g.birth h.birth) refl refl refl
  where
    go : (y z b : Bool) → is_older h.birth birth ≡ y → is_older g.birth birth ≡ z → is_older g.birth h.birth ≡ b
        → cond y (Some (older_of h (cond z (Some g) None))) (cond z (Some g) None) ≡ keep birth (Some (cond b g h))
    go y true true e f s = ap (λ (t : Bool). cond y (Some (cond t g h)) (Some g)) s ∙ ends y ∙ ap (λ t. cond t (Some g) None) (sym f)
      where
        ends : (y : Bool) → cond y (Some g) (Some g) ≡ Some g
        ends true = refl
        ends false = refl
    go true false true e f s = absurd (both_ways _ f (older_goes_on g.birth h.birth birth s e))
    go false false true e f s = ap (λ t. cond t (Some g) None) (sym f)
    go true true false e f s = ap (λ t. Some (cond t g h)) s ∙ ap (λ t. cond t (Some h) None) (sym e)
    go true false false e f s = ap (λ t. cond t (Some h) None) (sym e)
    go false true false e f s = absurd (both_ways _ s (older_splits g.birth h.birth birth f e))
    go false false false e f s = ap (λ t. cond t (Some h) None) (sym e)

oldest_keeps : (birth : Birth) (hs : List Holder) → oldest_by (λ h. not h.closed && is_older h.birth birth) hs ≡ keep birth (oldest_by (λ h. not h.closed) hs)
oldest_keeps birth [] = refl
oldest_keeps birth (h ∷ hs) = go (not h.closed) (oldest_keeps birth hs)
  where
    go : (b : Bool) → oldest_by (λ h. not h.closed && is_older h.birth birth) hs ≡ keep birth (oldest_by (λ h. not h.closed) hs)
        → cond (b && is_older h.birth birth) (Some (older_of h (oldest_by (λ h. not h.closed && is_older h.birth birth) hs))) (oldest_by (λ h. not h.closed && is_older h.birth birth) hs) ≡ keep birth (cond b (Some (older_of h (oldest_by (λ h. not h.closed) hs))) (oldest_by (λ h. not h.closed) hs))
    go true more = ap (λ o. cond (is_older h.birth birth) (Some (older_of h o)) o) more ∙ keep_more birth h (oldest_by (λ h. not h.closed) hs)
    go false more = more

die_or_wait : (birth : Birth) (o : Option Holder) → die_by (keep birth o) (wait_by o) ≡ decided_of birth o
die_or_wait birth None = refl
die_or_wait birth (Some h) = go (is_older h.birth birth)
  where
    go : (b : Bool) → die_by (cond b (Some h) None) (wait_by (Some h)) ≡ cond b (Die h.tx) (Wait h.tx)
    go true = refl
    go false = refl

-- from need to need the same is decided
pub decided_visited : (tx : TxId) (birth : Birth) (needs : List Need) (gs : Groups) → Apart gs → Rising (rows_of gs) → decided birth (visit (oldest_step tx) needs gs None) ≡ decide tx birth needs (rows_of gs)
decided_visited tx birth needs gs p s =
    let ways = conflicting_holders tx needs (rows_of gs) in
    same_decided birth _ _ _ (visit_oldest tx needs gs p) (row_oldest tx needs (rows_of gs) s)
    ∙ (of_row birth (oldest_row tx needs (rows_of gs)) ∙ ap (decided_of birth) (row_is tx needs (rows_of gs)))
    ∙ (sym (die_or_wait birth (oldest_by (λ h. not h.closed) ways)) ∙ ap (λ o. die_by o (wait_by (oldest_by (λ h. not h.closed) ways))) (sym (oldest_keeps birth ways)))
