-- Who is in the way where a request is to wait: all active ones are younger.
use Rattle.std.proofs.Common.{◌≡◌, ◌⊎◌, inl, inr, ⊎_elim, refl, sym, ap, subst, ◌∙◌, ℕ, ◌<◌, Bool, true, false, cond, not, ◌&&◌, ◌||◌, List, [], ◌∷◌, map, Option, Some, None, arith}
use Rattle.std.specs.List.{filter, list_any}
use Rattle.std.specs.Ordering.{nat_cmp, ordering_then, is_eq, is_lt}
use Rattle.std.specs.declared.cmp.Ordering.{Ordering}
use Rattle.std.specs.declared.cmp.Ordering.TheVariants.{Less, Equal, Greater}
use Rattle.std.proofs.lemmas.Bool.{both_ways, and_parts, or_cases, cases_order, or_parts, not-true}
use Rattle.clv_base.specs.declared.names.TxId.{TxId}
use Rattle.clv_base.specs.declared.names.Birth.{Birth}
use Rattle.clv_base.specs.declared.modes.Need.{Need}
use Rattle.clv_base.specs.declared.modes.Anchor.{Anchor}
use Rattle.clv_base.specs.declared.modes.Holder.{Holder}
use Rattle.clv_base.specs.declared.modes.Decision.{Decision}
use Rattle.clv_base.specs.declared.modes.Decision.TheVariants.{Wait, Die}
use Rattle.clv_base.specs.Orders.{tx_same, birth_cmp, is_older}
use Rattle.clv_base.specs.Modes.{compatible}
use Rattle.clv_base.specs.Locks.{Locks, meets, conflicting_holders, older_of, oldest_by, wait_by, die_by, decide}
use Rattle.clv_base.proofs.SameNames.{tx_true, nat_cmp_true}
use Rattle.law_base.proofs.Anchors.{cmp_less}
use Rattle.law_base.proofs.LockRows.{Rows}
use Rattle.law_base.proofs.Numbers.{lt_from as is_less}
use Rattle.clv_base.proofs.Arrays.{is_equal as equal_cmp, is_less as less_cmp}

-- ---- births

-- the first is older
abbrev pub Older : Birth → Birth → Type 0
Older a b = (a.stamp < b.stamp) ⊎ ((a.stamp ≡ b.stamp) × ((a.session < b.session) ⊎ ((a.session ≡ b.session) × (a.serial < b.serial))))

pub less_or_equal : (m n : ℕ) (o : Ordering) → is_lt (ordering_then (nat_cmp m n) o) ≡ true → (m < n) ⊎ ((m ≡ n) × (is_lt o ≡ true))
less_or_equal m n o e = at (nat_cmp m n) refl e
  where
    at : (c : Ordering) → nat_cmp m n ≡ c → is_lt (ordering_then c o) ≡ true → (m < n) ⊎ ((m ≡ n) × (is_lt o ≡ true))
    at Less f g = inl (cmp_less m n f)
    at Equal f g = inr (nat_cmp_true m n (ap is_eq f), g)
    at Greater f g = absurd (both_ways false refl g)

pub older_of_test : (a b : Birth) → is_older a b ≡ true → Older a b
older_of_test a b e =
    ⊎_elim (λ l. inl l) (λ p. ⊎_elim (λ l. inr (p.0, inl l)) (λ q. inr (p.0, inr (q.0, is_less a.serial b.serial q.1))) (less_or_equal a.session b.session (nat_cmp a.serial b.serial) p.1))
    (less_or_equal a.stamp b.stamp (ordering_then (nat_cmp a.session b.session) (nat_cmp a.serial b.serial)) e)

pub older_is_told : (a b : Birth) → Older a b → is_older a b ≡ true
older_is_told a b (inl l) = ap (λ o. is_lt (ordering_then o (ordering_then (nat_cmp a.session b.session) (nat_cmp a.serial b.serial)))) (less_cmp a.stamp b.stamp l)
older_is_told a b (inr (e, inl l)) =
    ap (λ o. is_lt (ordering_then o (ordering_then (nat_cmp a.session b.session) (nat_cmp a.serial b.serial)))) (equal_cmp a.stamp b.stamp e)
    ∙ ap (λ o. is_lt (ordering_then o (nat_cmp a.serial b.serial))) (less_cmp a.session b.session l)
older_is_told a b (inr (e, inr (f, l))) =
    ap (λ o. is_lt (ordering_then o (ordering_then (nat_cmp a.session b.session) (nat_cmp a.serial b.serial)))) (equal_cmp a.stamp b.stamp e)
    ∙ ap (λ o. is_lt (ordering_then o (nat_cmp a.serial b.serial))) (equal_cmp a.session b.session f)
    ∙ ap is_lt (less_cmp a.serial b.serial l)

equal_births : (a b : Birth) → a.stamp ≡ b.stamp → a.session ≡ b.session → a.serial ≡ b.serial → is_eq (birth_cmp a b) ≡ true
equal_births a b e f g =
    ap (λ o. is_eq (ordering_then o (ordering_then (nat_cmp a.session b.session) (nat_cmp a.serial b.serial)))) (equal_cmp a.stamp b.stamp e)
    ∙ ap (λ o. is_eq (ordering_then o (nat_cmp a.serial b.serial))) (equal_cmp a.session b.session f)
    ∙ ap is_eq (equal_cmp a.serial b.serial g)

-- of two births one is older, or they are equal
pub either : (a b : Birth) → Older a b ⊎ (Older b a ⊎ (is_eq (birth_cmp a b) ≡ true))
either a b = by_stamp (cases_order a.stamp b.stamp)
  where
    by_serial : a.stamp ≡ b.stamp → a.session ≡ b.session → (a.serial ≡ b.serial) ⊎ ((a.serial < b.serial) ⊎ (b.serial < a.serial)) → Older a b ⊎ (Older b a ⊎ (is_eq (birth_cmp a b) ≡ true))
    by_serial e f (inl g) = inr (inr (equal_births a b e f g))
    by_serial e f (inr (inl l)) = inl (inr (e, inr (f, l)))
    by_serial e f (inr (inr l)) = inr (inl (inr (sym e, inr (sym f, l))))

    by_session : a.stamp ≡ b.stamp → (a.session ≡ b.session) ⊎ ((a.session < b.session) ⊎ (b.session < a.session)) → Older a b ⊎ (Older b a ⊎ (is_eq (birth_cmp a b) ≡ true))
    by_session e (inl f) = by_serial e f (cases_order a.serial b.serial)
    by_session e (inr (inl l)) = inl (inr (e, inl l))
    by_session e (inr (inr l)) = inr (inl (inr (sym e, inl l)))

    by_stamp : (a.stamp ≡ b.stamp) ⊎ ((a.stamp < b.stamp) ⊎ (b.stamp < a.stamp)) → Older a b ⊎ (Older b a ⊎ (is_eq (birth_cmp a b) ≡ true))
    by_stamp (inl e) = by_session e (cases_order a.session b.session)
    by_stamp (inr (inl l)) = inl (inl l)
    by_stamp (inr (inr l)) = inr (inl (inl l))

pub older_then : (a b c : Birth) → Older a b → Older b c → Older a c
older_then a b c (inl l) (inl m) = inl (omega arith)
older_then a b c (inl l) (inr m) = let e = m.0 in inl (omega (arith, e))
older_then a b c (inr l) (inl m) = let e = l.0 in inl (omega (arith, e))
older_then a b c (inr (e, inl l)) (inr (f, inl m)) = inr (e ∙ f, inl (omega arith))
older_then a b c (inr (e, inl l)) (inr (f, inr m)) = let g = m.0 in inr (e ∙ f, inl (omega (arith, g)))
older_then a b c (inr (e, inr l)) (inr (f, inl m)) = let g = l.0 in inr (e ∙ f, inl (omega (arith, g)))
older_then a b c (inr (e, inr l)) (inr (f, inr m)) = let p = l.1 in let q = m.1 in inr (e ∙ f, inr (l.0 ∙ m.0, omega arith))

pub not_older_itself : (a : Birth) → Older a a → ⊥
not_older_itself a (inl l) = omega arith
not_older_itself a (inr (e, inl l)) = omega arith
not_older_itself a (inr (e, inr (f, l))) = omega arith

-- ---- to wait

none_some : {X : Type 0} (x : X) → Some x ≡ None → ⊥
none_some x e = absurd cc

-- nobody passes where no oldest one is found
none_pass : (test : Holder → Bool) (hs : List Holder) → oldest_by test hs ≡ None → list_any test hs ≡ false
none_pass test [] e = refl
none_pass test (h ∷ hs) e = at (test h) refl e (none_pass test hs)
  where
    at : (b : Bool) → test h ≡ b → cond b (Some (older_of h (oldest_by test hs))) (oldest_by test hs) ≡ None → (oldest_by test hs ≡ None → list_any test hs ≡ false) → (test h || list_any test hs) ≡ false
    at true f g k = absurd (none_some _ g)
    at false f g k = ap (λ b. b || list_any test hs) f ∙ k g

waits_none : (o : Option Holder) (y : TxId) (d : Decision) → die_by o d ≡ Wait y → o ≡ None
waits_none None y d e = refl
waits_none (Some h) y d e = absurd (differ e)
  where
    differ : Die h.tx ≡ Wait y → ⊥
    differ z = absurd cc

-- who is in the way and active is not older
abbrev pub ActiveInWay : TxId → List Holder → TxId → Type 0
ActiveInWay tx hs u = list_any (λ h. tx_same u h.tx && not h.closed) hs ≡ true

pub record InWay (tx : TxId) (birth : Birth) (P : TxId → Birth → Bool → Type 0) (u : TxId) : Type 0 where
  pub birth_of : Birth
  pub row : P u birth_of false
  pub apart : tx_same tx u ≡ false
  pub not_older : is_older birth_of birth ≡ false

and_false : (a b : Bool) → (a && b) ≡ false → a ≡ true → b ≡ false
and_false true b e f = e
and_false false b e f = absurd (both_ways false refl f)

found : (P : TxId → Birth → Bool → Type 0) (tx : TxId) (birth : Birth) (test : Anchor × Holder → Bool) (rows : Locks) (u : TxId) → ((r : Anchor × Holder) → test r ≡ true → tx_same tx (r.1).tx ≡ false) → Rows P rows → list_any (λ h. not h.closed && is_older h.birth birth) (map (λ r. r.1) (filter test rows)) ≡ false
    → list_any (λ h. tx_same u h.tx && not h.closed) (map (λ r. r.1) (filter test rows)) ≡ true → InWay tx birth P u
found P tx birth test [] u ok rows none e = absurd (both_ways false refl e)
found P tx birth test (r ∷ rs) u ok rows none e = at (test r) refl none e (found P tx birth test rs u ok rows.1)
  where
    here : test r ≡ true → (tx_same u (r.1).tx && not (r.1).closed) ≡ true → (not (r.1).closed && is_older (r.1).birth birth) ≡ false → InWay tx birth P u
    here t f g =
        let p = and_parts (tx_same u (r.1).tx) (not (r.1).closed) f in
        record {
          birth_of = (r.1).birth;
          row = subst (λ z. P z (r.1).birth false) (sym (tx_true u (r.1).tx p.0)) (subst (λ c. P (r.1).tx (r.1).birth c) (not-true (r.1).closed p.1) rows.0);
          apart = subst (λ z. tx_same tx z ≡ false) (sym (tx_true u (r.1).tx p.0)) (ok r t);
          not_older = and_false (not (r.1).closed) (is_older (r.1).birth birth) g p.1;
        }

    at : (b : Bool) → test r ≡ b → list_any (λ h. not h.closed && is_older h.birth birth) (map (λ r. r.1) (cond b (r ∷ filter test rs) (filter test rs))) ≡ false
        → list_any (λ h. tx_same u h.tx && not h.closed) (map (λ r. r.1) (cond b (r ∷ filter test rs) (filter test rs))) ≡ true
        → (list_any (λ h. not h.closed && is_older h.birth birth) (map (λ r. r.1) (filter test rs)) ≡ false → list_any (λ h. tx_same u h.tx && not h.closed) (map (λ r. r.1) (filter test rs)) ≡ true → InWay tx birth P u)
        → InWay tx birth P u
    at false t f g k = k f g
    at true t f g k =
        let n = or_parts (not (r.1).closed && is_older (r.1).birth birth) _ f in
        ⊎_elim (λ x. here t x n.0) (λ x. k n.1 x) (or_cases (tx_same u (r.1).tx && not (r.1).closed) _ g)

-- where a request is to wait, an active one in its way has a lock that is not older
pub in_way : (P : TxId → Birth → Bool → Type 0) (tx u younger : TxId) (birth : Birth) (needs : List Need) (locks : Locks) → Rows P locks → decide tx birth needs locks ≡ Wait younger → ActiveInWay tx (conflicting_holders tx needs locks) u → InWay tx birth P u
in_way P tx u younger birth needs locks rows e i =
    let ways = conflicting_holders tx needs locks in
    let n = none_pass (λ h. not h.closed && is_older h.birth birth) ways (waits_none (oldest_by (λ h. not h.closed && is_older h.birth birth) ways) younger (wait_by (oldest_by (λ h. not h.closed) ways)) e) in
    found P tx birth (λ r. not (tx_same tx (r.1).tx) && meets (λ a h. not (compatible a h)) needs r) locks u (λ r t. not-true (tx_same tx (r.1).tx) (and_parts (not (tx_same tx (r.1).tx)) (meets (λ a h. not (compatible a h)) needs r) t).0) rows n i
