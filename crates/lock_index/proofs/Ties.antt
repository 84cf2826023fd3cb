-- Who has a lock on which anchor, after a lock was taken or given up.
use Rattle.std.proofs.Common.{◌≡◌, ⊎_elim, refl, sym, ap, ◌∙◌, subst, suc, ◌+◌, ◌<◌, ◌≤◌, Option, Some, None, is_some, Bool, true, false, cond, not, ◌&&◌, ◌||◌, [], ◌∷◌, length, arith}
use Rattle.std.proofs.lemmas.Bool.{cases_Bool, both_ways, and_parts, and_from}
use Rattle.std.specs.declared.cmp.Ordering.{Ordering}
use Rattle.std.specs.declared.cmp.Ordering.TheVariants.{Less, Equal, Greater}
use Rattle.std.specs.Ordering.{match_ordering}
use Rattle.clv_base.specs.declared.names.TxId.{TxId}
use Rattle.clv_base.specs.declared.modes.Anchor.{Anchor}
use Rattle.clv_base.specs.declared.modes.Holder.{Holder}
use Rattle.clv_base.specs.Orders.{tx_cmp, tx_same, tx_in, anchor_cmp, anchor_same}
use Rattle.clv_base.specs.Locks.{Locks, row_cmp, with_mode, take_one, close_locks, release}
use Rattle.clv_base.proofs.SameNames.{tx_true}
use Rattle.lock_table.specs.Rows.{is_lock_of, has_lock_on, without_lock, GivesUpOne}
use Rattle.law_base.proofs.LockRows.{anchor_true, anchor_self}
use Rattle.law_base.proofs.Bools.{or_swap, or_twice}
use Rattle.law_base.proofs.Tables.{then_same as then_both}
use Rattle.law_base.proofs.Sets.{same_flip as tx_turn}

-- equality of names, the other way round
anchor_turn : (a b : Anchor) → anchor_same a b ≡ anchor_same b a
anchor_turn a b = go (anchor_same a b) (anchor_same b a) refl refl
  where
    go : (x y : Bool) → anchor_same a b ≡ x → anchor_same b a ≡ y → x ≡ y
    go true true e f = refl
    go true false e f = absurd (both_ways (anchor_same b a) f (subst (λ c. anchor_same b c ≡ true) (sym (anchor_true a b e)) (anchor_self b)))
    go false true e f = absurd (both_ways (anchor_same a b) e (subst (λ c. anchor_same a c ≡ true) (sym (anchor_true b a f)) (anchor_self a)))
    go false false e f = refl

module _ (a : Anchor) (h : Holder) (t : TxId) (b : Anchor) where
  taken : (rows : Locks) → has_lock_on t b (take_one a h rows) ≡ (is_lock_of t b (a, h) || has_lock_on t b rows)
  taken [] = refl
  taken (r ∷ rs) = go (row_cmp a h.tx r) refl (taken rs)
    where
      go : (o : Ordering) → row_cmp a h.tx r ≡ o → has_lock_on t b (take_one a h rs) ≡ (is_lock_of t b (a, h) || has_lock_on t b rs)
          → has_lock_on t b (match_ordering o ((a, h) ∷ r ∷ rs) ((a, with_mode r.1 h.mode) ∷ rs) (r ∷ take_one a h rs)) ≡ (is_lock_of t b (a, h) || (is_lock_of t b r || has_lock_on t b rs))
      go Less e more = refl
      go Equal e more = let p = then_both (anchor_cmp a r.0) (tx_cmp h.tx (r.1).tx) e in
          let same : h.tx ≡ (r.1).tx = tx_true h.tx (r.1).tx p.1 in
          let here : is_lock_of t b (a, with_mode r.1 h.mode) ≡ is_lock_of t b (a, h) = ap (λ u. anchor_same b a && tx_same t u) (sym same) in
          let there : is_lock_of t b (a, h) ≡ is_lock_of t b r = ap (λ u. anchor_same b a && tx_same t u) same ∙ ap (λ c. anchor_same b c && tx_same t (r.1).tx) (anchor_true a r.0 p.0) in
          ap (λ x. x || has_lock_on t b rs) here ∙ (or_twice (is_lock_of t b (a, h)) (has_lock_on t b rs) ∙ ap (λ x. is_lock_of t b (a, h) || (x || has_lock_on t b rs)) there)
      go Greater e more = ap (λ x. is_lock_of t b r || x) more ∙ or_swap (is_lock_of t b r) (is_lock_of t b (a, h)) (has_lock_on t b rs)

  pub taken_lock : (rows : Locks) → has_lock_on t b (take_one a h rows) ≡ ((anchor_same a b && tx_same h.tx t) || has_lock_on t b rows)
  taken_lock rows = taken rows ∙ ap (λ x. x || has_lock_on t b rows) (ap (λ x. x && tx_same t h.tx) (anchor_turn b a) ∙ ap (λ x. anchor_same a b && x) (tx_turn t h.tx))

module _ (u : TxId) (a : Anchor) where
  gone : (rows : Locks) → has_lock_on u a (without_lock u a rows) ≡ false
  gone [] = refl
  gone (r ∷ rs) = go (is_lock_of u a r) refl (gone rs)
    where
      go : (x : Bool) → is_lock_of u a r ≡ x → has_lock_on u a (without_lock u a rs) ≡ false → has_lock_on u a (cond (not x) (r ∷ without_lock u a rs) (without_lock u a rs)) ≡ false
      go true e more = more
      go false e more = ap (λ x. x || has_lock_on u a (without_lock u a rs)) e ∙ more

  stays : (t : TxId) (b : Anchor) → (anchor_same a b && tx_same u t) ≡ false → (rows : Locks) → has_lock_on t b (without_lock u a rows) ≡ has_lock_on t b rows
  stays t b n [] = refl
  stays t b n (r ∷ rs) = go (is_lock_of u a r) refl (stays t b n rs)
    where
      go : (x : Bool) → is_lock_of u a r ≡ x → has_lock_on t b (without_lock u a rs) ≡ has_lock_on t b rs → has_lock_on t b (cond (not x) (r ∷ without_lock u a rs) (without_lock u a rs)) ≡ (is_lock_of t b r || has_lock_on t b rs)
      go false e more = ap (λ x. is_lock_of t b r || x) more
      go true e more = let p = and_parts (anchor_same a r.0) (tx_same u (r.1).tx) e in
          let other : is_lock_of t b r ≡ false = ap (λ c. anchor_same b c && tx_same t (r.1).tx) (sym (anchor_true a r.0 p.0)) ∙ (ap (λ v. anchor_same b a && tx_same t v) (sym (tx_true u (r.1).tx p.1)) ∙ (ap (λ x. x && tx_same t u) (anchor_turn b a) ∙ (ap (λ x. anchor_same a b && x) (tx_turn t u) ∙ n))) in
          more ∙ ap (λ x. x || has_lock_on t b rs) (sym other)

  pub given_up : (t : TxId) (b : Anchor) (rows : Locks) → has_lock_on t b (without_lock u a rows) ≡ (not (anchor_same a b && tx_same u t) && has_lock_on t b rows)
  given_up t b rows = go (anchor_same a b && tx_same u t) refl
    where
      go : (x : Bool) → (anchor_same a b && tx_same u t) ≡ x → has_lock_on t b (without_lock u a rows) ≡ (not x && has_lock_on t b rows)
      go true e = let p = and_parts (anchor_same a b) (tx_same u t) e in
          ap (λ c. has_lock_on t c (without_lock u a rows)) (sym (anchor_true a b p.0)) ∙ (ap (λ v. has_lock_on v a (without_lock u a rows)) (sym (tx_true u t p.1)) ∙ gone rows)
      go false e = stays t b e rows

  -- one fewer
  pub fewer : (rows : Locks) → length (without_lock u a rows) ≤ length rows
  fewer [] = omega arith
  fewer (r ∷ rs) = go (is_lock_of u a r) (fewer rs)
    where
      go : (x : Bool) → length (without_lock u a rs) ≤ length rs → length (cond (not x) (r ∷ without_lock u a rs) (without_lock u a rs)) ≤ suc (length rs)
      go true more = omega arith
      go false more = omega arith

  pub one_fewer : (rows : Locks) → has_lock_on u a rows ≡ true → length (without_lock u a rows) < length rows
  one_fewer [] e = absurd (both_ways false refl e)
  one_fewer (r ∷ rs) e = go (is_lock_of u a r) e (one_fewer rs)
    where
      go : (x : Bool) → (x || has_lock_on u a rs) ≡ true → (has_lock_on u a rs ≡ true → length (without_lock u a rs) < length rs) → length (cond (not x) (r ∷ without_lock u a rs) (without_lock u a rs)) < suc (length rs)
      go true f more = let l = fewer rs in omega arith
      go false f more = let l = more f in omega arith

  -- giving up one first changes nothing
  pub released_rest : (rows : Locks) → release (u ∷ []) (without_lock u a rows) ≡ release (u ∷ []) rows
  released_rest [] = refl
  released_rest (r ∷ rs) = go (is_lock_of u a r) refl (released_rest rs)
    where
      go : (x : Bool) → is_lock_of u a r ≡ x → release (u ∷ []) (without_lock u a rs) ≡ release (u ∷ []) rs → release (u ∷ []) (cond (not x) (r ∷ without_lock u a rs) (without_lock u a rs)) ≡ release (u ∷ []) (r ∷ rs)
      go false e more = ap (λ l. cond (not (tx_in (r.1).tx (u ∷ []))) (r ∷ l) l) more
      go true e more = let own : (tx_same u (r.1).tx || false) ≡ true = ap (λ x. x || false) (and_parts (anchor_same a r.0) (tx_same u (r.1).tx) e).1 in
          more ∙ ap (λ x. cond (not x) (r ∷ release (u ∷ []) rs) (release (u ∷ []) rs)) (sym own)

-- who has no lock at all gives up none
pub none_released : (t : TxId) (rows : Locks) → ((b : Anchor) → has_lock_on t b rows ≡ false) → release (t ∷ []) rows ≡ rows
none_released t [] n = refl
none_released t (r ∷ rs) n = go (tx_same t (r.1).tx) refl (none_released t rs (λ b. rest b))
  where
    rest : (b : Anchor) → has_lock_on t b rs ≡ false
    rest b = ⊎_elim (λ e. absurd (both_ways _ (n b) (more (is_lock_of t b r) e))) (λ e. e) (cases_Bool (has_lock_on t b rs))
      where
        more : (x : Bool) → has_lock_on t b rs ≡ true → (x || has_lock_on t b rs) ≡ true
        more true e = refl
        more false e = e

    go : (x : Bool) → tx_same t (r.1).tx ≡ x → release (t ∷ []) rs ≡ rs → cond (not (x || false)) (r ∷ release (t ∷ []) rs) (release (t ∷ []) rs) ≡ r ∷ rs
    go true e more = absurd (both_ways _ (n r.0) (ap (λ x. x || has_lock_on t r.0 rs) (and_from (anchor_same r.0 r.0) (tx_same t (r.1).tx) (anchor_self r.0) e)))
    go false e more = ap (λ l. r ∷ l) more

-- a closed lock is a lock
pub closed_lock : (u t : TxId) (b : Anchor) (rows : Locks) → has_lock_on t b (close_locks u rows) ≡ has_lock_on t b rows
closed_lock u t b [] = refl
closed_lock u t b (r ∷ rs) = ap (λ x. (anchor_same b r.0 && tx_same t x) || has_lock_on t b (close_locks u rs)) (go (tx_same u (r.1).tx)) ∙ ap (λ x. is_lock_of t b r || x) (closed_lock u t b rs)
  where
    go : (x : Bool) → (cond x (record r.1 { closed = true }) r.1).tx ≡ (r.1).tx
    go true = refl
    go false = refl

-- ---- one is given up after another

pub goes_on : (t : TxId) (o : Option Anchor) (before after : Locks) → GivesUpOne t o before after → release (t ∷ []) after ≡ release (t ∷ []) before
goes_on t (Some a) before after g = ap (release (t ∷ [])) g.1 ∙ released_rest t a before
goes_on t None before after g = ap (release (t ∷ [])) g.0

pub ended : (t : TxId) (o : Option Anchor) (before after : Locks) → GivesUpOne t o before after → is_some o ≡ false → release (t ∷ []) after ≡ after
ended t (Some a) before after g e = absurd (both_ways true e refl)
ended t None before after g e = ap (release (t ∷ [])) g.0 ∙ (g.1 ∙ sym g.0)

pub shorter : (t : TxId) (o : Option Anchor) (before after : Locks) → GivesUpOne t o before after → length after + cond (is_some o) 1 0 < length before + 1
shorter t (Some a) before after g = let l = one_fewer t a before g.0 in let e : length after ≡ length (without_lock t a before) = ap length g.1 in omega arith
shorter t None before after g = let e : length after ≡ length before = ap length g.0 in omega arith
