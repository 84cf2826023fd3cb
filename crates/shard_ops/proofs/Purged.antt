-- Ghosts without a lock, as locks are given up.
use Rattle.std.proofs.Common.{◌≡◌, refl, sym, ap, subst, ◌∙◌, ⊎_elim, ℕ, suc, ◌≤◌, Bool, true, false, cond, not, ◌&&◌, ◌||◌, ◌==◌, List, [], ◌∷◌, length, Option, Some, None, eqb-true, eq-eqb, arith}
use Rattle.std.proofs.lemmas.Bool.{both_ways, cond_both, cond-true, false_from_ne_true, or_cases}
use Rattle.std.specs.List.{AllByRecursion, filter, list_any}
use Rattle.std.specs.Map.{lookup}
use Rattle.clv_base.specs.declared.values.Value.{Value as ValueType}
use Rattle.clv_base.specs.declared.names.TxId.{TxId}
use Rattle.clv_base.specs.declared.modes.Anchor.{Anchor}
use Rattle.clv_base.specs.declared.modes.Anchor.TheVariants.{Low, At}
use Rattle.clv_base.specs.declared.modes.Holder.{Holder}
use Rattle.clv_base.specs.Orders.{tx_same, tx_in, anchor_same}
use Rattle.clv_base.specs.Locks.{Locks, release, is_free}
use Rattle.clv_base.specs.Needs.{Records, found_at, found_by, is_locked_or_live, without_ghosts}
use Rattle.clv_base.proofs.SameNames.{or_left, or_right, nat_cmp_true, nat_cmp_self}
use Rattle.lock_table.specs.Rows.{is_lock_of, without_lock}
use Rattle.ordered_store.proofs.Laws.{Above, Rises}
use Rattle.shard_ops.specs.Ghosts.{GhostsAreLocked, is_ghost, without_ghost_on}
use Rattle.law_base.proofs.Lists.{all_of, all_mono as all_weaker}
use Rattle.law_base.proofs.LockRows.{anchor_true}
use Rattle.law_base.proofs.Names.{held_on}

-- ---- filters

module _ {A : Type 0} where
  pub filter_at_most : (p : A → Bool) (xs : List A) → length (filter p xs) ≤ length xs
  filter_at_most p [] = omega arith
  filter_at_most p (x ∷ xs) = let more = filter_at_most p xs in cond_both (p x) (x ∷ filter p xs) (filter p xs) (λ l. length l ≤ suc (length xs)) (λ e. omega (arith, more)) (λ e. omega (arith, more))

  -- a filter that leaves the list has tests that all pass
  pub all_pass : (p : A → Bool) (xs : List A) → filter p xs ≡ xs → AllByRecursion (λ x. p x ≡ true) xs
  all_pass p [] e = tt
  all_pass p (x ∷ xs) e = go (p x) refl e (all_pass p xs)
    where
      go : (b : Bool) → p x ≡ b → cond b (x ∷ filter p xs) (filter p xs) ≡ x ∷ xs → (filter p xs ≡ xs → AllByRecursion (λ y. p y ≡ true) xs) → (p x ≡ true) × AllByRecursion (λ y. p y ≡ true) xs
      go true t e more = (t, more cc)
      go false t e more = let fewer = filter_at_most p xs in let same = ap length e in absurd (omega (arith, fewer, same))

  pub all_stay : (p : A → Bool) (xs : List A) → AllByRecursion (λ x. p x ≡ true) xs → filter p xs ≡ xs
  all_stay p [] h = refl
  all_stay p (x ∷ xs) h = cond-true (p x) (x ∷ filter p xs) (filter p xs) h.0 ∙ ap (λ l. x ∷ l) (all_stay p xs h.1)

  -- tests that agree on the list
  pub filter_like : (p q : A → Bool) (xs : List A) → AllByRecursion (λ x. p x ≡ q x) xs → filter p xs ≡ filter q xs
  filter_like p q [] h = refl
  filter_like p q (x ∷ xs) h = ap (λ b. cond b (x ∷ filter p xs) (filter p xs)) h.0 ∙ ap (λ l. cond (q x) (x ∷ l) l) (filter_like p q xs h.1)

  -- a stricter test after another is the stricter one alone
  pub filter_stricter : (p q : A → Bool) → ((x : A) → q x ≡ true → p x ≡ true) → (xs : List A) → filter q (filter p xs) ≡ filter q xs
  filter_stricter p q h [] = refl
  filter_stricter p q h (x ∷ xs) = go (p x) (q x) refl (h x) (filter_stricter p q h xs)
    where
      go : (b c : Bool) → q x ≡ c → (c ≡ true → b ≡ true) → filter q (filter p xs) ≡ filter q xs → filter q (cond b (x ∷ filter p xs) (filter p xs)) ≡ cond c (x ∷ filter q xs) (filter q xs)
      go true c e s more = ap (λ d. cond d (x ∷ filter q (filter p xs)) (filter q (filter p xs))) e ∙ ap (λ l. cond c (x ∷ l) l) more
      go false true e s more = absurd (both_ways false refl (s refl))
      go false false e s more = more

  any_of_filter : (p q : A → Bool) (xs : List A) → list_any p (filter q xs) ≡ true → list_any p xs ≡ true
  any_of_filter p q [] e = e
  any_of_filter p q (x ∷ xs) e = go (q x) e (any_of_filter p q xs)
    where
      go : (b : Bool) → list_any p (cond b (x ∷ filter q xs) (filter q xs)) ≡ true → (list_any p (filter q xs) ≡ true → list_any p xs ≡ true) → (p x || list_any p xs) ≡ true
      go true e more = ⊎_elim (λ h. or_left _ _ h) (λ h. or_right (p x) _ (more h)) (or_cases (p x) (list_any p (filter q xs)) e)
      go false e more = or_right (p x) _ (more e)

-- ---- fewer locks

stays_by : (few locks : Locks) → ((a : Anchor) → held_on a few ≡ true → held_on a locks ≡ true) → (k : ℕ) (v : Option ValueType) → is_locked_or_live few (k, v) ≡ true → is_locked_or_live locks (k, v) ≡ true
stays_by few locks h k (Some v) e = refl
stays_by few locks h k None e = ap (λ b. not (not b)) (h (At k) (twice (held_on (At k) few) e))
  where
    twice : (b : Bool) → not (not b) ≡ true → b ≡ true
    twice true e = refl
    twice false e = e

-- of the locks that pass a test, no more ghosts bear one
purged_by_fewer : (test : Anchor × Holder → Bool) (locks : Locks) (rs : Records) → without_ghosts (filter test locks) (without_ghosts locks rs) ≡ without_ghosts (filter test locks) rs
purged_by_fewer test locks rs =
    filter_stricter (is_locked_or_live locks) (is_locked_or_live (filter test locks))
    (λ r e. stays_by (filter test locks) locks (λ a h. any_of_filter (λ q. anchor_same a q.0) test locks h) r.0 r.1 e) rs

-- a purge after locks were given up is the whole purge
pub purged_by_release : (txs : List TxId) (locks few : Locks) (rs : Records) → few ≡ release txs locks → without_ghosts few (without_ghosts locks rs) ≡ without_ghosts few rs
purged_by_release txs locks few rs e = subst (λ (l : Locks). without_ghosts l (without_ghosts locks rs) ≡ without_ghosts l rs) (sym e) (purged_by_fewer (λ r. not (tx_in (r.1).tx txs)) locks rs)

pub purged_by_one : (tx : TxId) (a : Anchor) (locks : Locks) (rs : Records) → without_ghosts (without_lock tx a locks) (without_ghosts locks rs) ≡ without_ghosts (without_lock tx a locks) rs
purged_by_one tx a locks rs = purged_by_fewer (λ r. not (is_lock_of tx a r)) locks rs

-- after a purge each ghost bears a lock
pub purged_are_locked : (locks : Locks) (rs : Records) → GhostsAreLocked locks (without_ghosts locks rs)
purged_are_locked locks rs = filter_stricter (is_locked_or_live locks) (is_locked_or_live locks) (λ r e. e) rs

-- ---- one lock less

-- locks on another anchor stay
other_held : (tx : TxId) (a b : Anchor) (locks : Locks) → anchor_same a b ≡ false → held_on b locks ≡ true → held_on b (without_lock tx a locks) ≡ true
other_held tx a b [] other e = e
other_held tx a b (r ∷ rs) other e = ⊎_elim (λ h. here (subst (λ x. anchor_same a x ≡ false) (anchor_true b r.0 h) other) h) (λ h. there (other_held tx a b rs other h)) (or_cases (anchor_same b r.0) (held_on b rs) e)
  where
    here : anchor_same a r.0 ≡ false → anchor_same b r.0 ≡ true → held_on b (without_lock tx a (r ∷ rs)) ≡ true
    here o h = subst (λ c. held_on b (cond (not (c && tx_same tx (r.1).tx)) (r ∷ without_lock tx a rs) (without_lock tx a rs)) ≡ true) (sym o) (or_left _ _ h)

    there : held_on b (without_lock tx a rs) ≡ true → held_on b (without_lock tx a (r ∷ rs)) ≡ true
    there m = cond_both (not (is_lock_of tx a r)) (r ∷ without_lock tx a rs) (without_lock tx a rs) (λ l. held_on b l ≡ true) (λ s. or_right (anchor_same b r.0) _ m) (λ s. m)

-- where each ghost bore a lock before one was given up, the ghosts that go are the one on its anchor, if any
pub purged_on_anchor : (tx : TxId) (a : Anchor) (locks : Locks) (rs : Records) → GhostsAreLocked locks rs → without_ghost_on a (without_lock tx a locks) rs ≡ without_ghosts (without_lock tx a locks) rs
purged_on_anchor tx a locks rs locked =
    filter_like _ (is_locked_or_live (without_lock tx a locks)) rs
    (all_weaker (λ r. is_locked_or_live locks r ≡ true) (λ r. (not (anchor_same a (At r.0)) || is_locked_or_live (without_lock tx a locks) r) ≡ is_locked_or_live (without_lock tx a locks) r)
    (λ r e. at r.0 (anchor_same a (At r.0)) refl r.1 e) rs (all_pass (is_locked_or_live locks) rs locked))
  where
    at : (k : ℕ) (b : Bool) → anchor_same a (At k) ≡ b → (v : Option ValueType) → is_locked_or_live locks (k, v) ≡ true
        → (not b || is_locked_or_live (without_lock tx a locks) (k, v)) ≡ is_locked_or_live (without_lock tx a locks) (k, v)
    at k true s v e = refl
    at k false s (Some v) e = refl
    at k false s None e = sym (ap (λ b. not (not b)) (other_held tx a (At k) locks s (twice (held_on (At k) locks) e)))
      where
        twice : (b : Bool) → not (not b) ≡ true → b ≡ true
        twice true e = refl
        twice false e = e

-- ---- the ghost on an anchor

tail_other : (k j : ℕ) (rs : Records) → Above j rs → AllByRecursion (λ r. (k == r.0) ≡ true → (k == j) ≡ false) rs
tail_other k j [] h = tt
tail_other k j (r ∷ rs) h = ((λ e. false_from_ne_true _ (λ s. let a = eqb-true k r.0 e in let b = eqb-true k j s in absurd (omega (arith, h.0, a, b)))), tail_other k j rs h.1)

-- what is found at a record's key is the record
found_each : (k : ℕ) (rs : Records) → Rises rs → AllByRecursion (λ r. (k == r.0) ≡ true → found_at k rs ≡ found_by (Some r.1)) rs
found_each k [] h = tt
found_each k (r ∷ rs) h = (
  here,
  both (λ q. (k == q.0) ≡ true → (k == r.0) ≡ false) (λ q. (k == q.0) ≡ true → found_at k rs ≡ found_by (Some q.1)) (λ q. (k == q.0) ≡ true → found_at k (r ∷ rs) ≡ found_by (Some q.1))
      (λ q o f e. later q (o e) (f e)) rs (tail_other k r.0 rs h.0) (found_each k rs h.1),
)
  where
    here : (k == r.0) ≡ true → found_at k (r ∷ rs) ≡ found_by (Some r.1)
    here e = ap (λ b. found_by (cond b (Some r.1) (lookup (◌==◌ k) rs))) e

    later : (q : ℕ × Option ValueType) → (k == r.0) ≡ false → found_at k rs ≡ found_by (Some q.1) → found_at k (r ∷ rs) ≡ found_by (Some q.1)
    later q e f = ap (λ b. found_by (cond b (Some r.1) (lookup (◌==◌ k) rs))) e ∙ f

    both : (P Q R : ℕ × Option ValueType → Type 0) → ((x : ℕ × Option ValueType) → P x → Q x → R x) → (xs : Records) → AllByRecursion P xs → AllByRecursion Q xs → AllByRecursion R xs
    both P Q R g [] a b = tt
    both P Q R g (x ∷ xs) a b = (g x a.0 b.0, both P Q R g xs a.1 b.1)

-- whether a record stays, where the ghost on the anchor goes if it bears no lock
abbrev stays : Anchor → Locks → ℕ × Option ValueType → Bool
stays a locks r = not (anchor_same a (At r.0)) || is_locked_or_live locks r

-- below the first record there is no ghost
pub none_low : (locks : Locks) (rs : Records) → without_ghost_on Low locks rs ≡ rs
none_low locks rs = all_stay (stays Low locks) rs (all_of (λ r. stays Low locks r ≡ true) (λ r. refl) rs)

-- a lock keeps the ghost
pub held_stays : (k : ℕ) (locks : Locks) (rs : Records) → is_free (At k) locks ≡ false → without_ghost_on (At k) locks rs ≡ rs
held_stays k locks rs held = all_stay (stays (At k) locks) rs (all_of (λ r. stays (At k) locks r ≡ true) (λ r. at (anchor_same (At k) (At r.0)) r.0 r.1 (λ s. nat_cmp_true k r.0 s)) rs)
  where
    at : (b : Bool) (j : ℕ) (v : Option ValueType) → (b ≡ true → k ≡ j) → (not b || is_locked_or_live locks (j, v)) ≡ true
    at false j v same = refl
    at true j (Some u) same = refl
    at true j None same = subst (λ x. not (is_free (At x) locks) ≡ true) (same refl) (ap not held)

module _ (k : ℕ) (locks : Locks) (rs : Records) (rises : Rises rs) where
  found : AllByRecursion (λ r. anchor_same (At k) (At r.0) ≡ true → found_at k rs ≡ found_by (Some r.1)) rs
  found =
      all_weaker (λ r. (k == r.0) ≡ true → found_at k rs ≡ found_by (Some r.1)) (λ r. anchor_same (At k) (At r.0) ≡ true → found_at k rs ≡ found_by (Some r.1))
      (λ r h e. h (eq-eqb k r.0 (nat_cmp_true k r.0 e))) rs (found_each k rs rises)

  -- what is no ghost stays
  pub live_stays : is_ghost (found_at k rs) ≡ false → without_ghost_on (At k) locks rs ≡ rs
  live_stays other =
      all_stay (stays (At k) locks) rs
      (all_weaker (λ r. anchor_same (At k) (At r.0) ≡ true → found_at k rs ≡ found_by (Some r.1)) (λ r. stays (At k) locks r ≡ true) (λ r h. at (anchor_same (At k) (At r.0)) r.0 r.1 h) rs found)
    where
      at : (b : Bool) (j : ℕ) (v : Option ValueType) → (b ≡ true → found_at k rs ≡ found_by (Some v)) → (not b || is_locked_or_live locks (j, v)) ≡ true
      at false j v h = refl
      at true j (Some u) h = refl
      at true j None h = absurd (both_ways true (sym (ap is_ghost (h refl)) ∙ other) refl)

  -- a ghost without a lock goes
  pub ghost_goes : is_ghost (found_at k rs) ≡ true → is_free (At k) locks ≡ true → filter (λ r. not (r.0 == k)) rs ≡ without_ghost_on (At k) locks rs
  ghost_goes ghost free =
      filter_like (λ r. not (r.0 == k)) (stays (At k) locks) rs
      (all_weaker (λ r. anchor_same (At k) (At r.0) ≡ true → found_at k rs ≡ found_by (Some r.1)) (λ r. not (r.0 == k) ≡ stays (At k) locks r)
      (λ r h. at (anchor_same (At k) (At r.0)) r.0 refl r.1 h) rs found)
    where
      apart : (j : ℕ) → anchor_same (At k) (At j) ≡ false → (j == k) ≡ false
      apart j s = false_from_ne_true _ (λ e. both_ways _ s (subst (λ x. anchor_same (At k) (At x) ≡ true) (sym (eqb-true j k e)) (nat_cmp_self k)))

      own : (j : ℕ) → anchor_same (At k) (At j) ≡ true → not (j == k) ≡ not (is_free (At j) locks)
      own j s = let same = nat_cmp_true k j s in ap not (eq-eqb j k (sym same)) ∙ ap not (sym (subst (λ x. is_free (At x) locks ≡ true) same free))

      at : (b : Bool) (j : ℕ) → anchor_same (At k) (At j) ≡ b → (v : Option ValueType) → (b ≡ true → found_at k rs ≡ found_by (Some v)) → not (j == k) ≡ (not b || is_locked_or_live locks (j, v))
      at false j s v h = ap not (apart j s)
      at true j s (Some u) h = absurd (both_ways false refl (sym (ap is_ghost (h refl)) ∙ ghost))
      at true j s None h = own j s
