-- Rows rise still after a lock is taken.
use Rattle.std.proofs.Common.{◌≡◌, refl, ap, ◌∙◌, Bool, true, false, cond, [], ◌∷◌}
use Rattle.std.specs.List.{filter}
use Rattle.std.specs.declared.cmp.Ordering.{Ordering}
use Rattle.std.specs.declared.cmp.Ordering.TheVariants.{Less, Equal, Greater}
use Rattle.std.specs.Ordering.{match_ordering, ordering_then, ordering_reverse, is_eq}
use Rattle.clv_base.specs.declared.modes.Mode.{Mode}
use Rattle.clv_base.specs.declared.modes.Anchor.{Anchor}
use Rattle.clv_base.specs.declared.modes.Holder.{Holder}
use Rattle.clv_base.specs.Orders.{tx_cmp, anchor_cmp}
use Rattle.clv_base.specs.Locks.{Locks, row_cmp, with_mode, take_one}
use Rattle.lock_index.proofs.Sums.{Row}
use Rattle.lock_index.proofs.Oldest.{row_order, row_total, Behind, Rising}
use Rattle.law_base.proofs.LockRows.{anchor_true}

behind_more : (x r : Row) (rs : Locks) → row_order x r ≡ Less → Behind r rs → Behind x rs
behind_more x r [] e b = tt
behind_more x r (q ∷ qs) e b = (row_total.trans x r q e b.0, behind_more x r qs e b.1)

first_level : (o p : Ordering) → ordering_then o p ≡ Equal → is_eq o ≡ true
first_level Less p e = absurd cc
first_level Equal p e = refl
first_level Greater p e = absurd cc

-- a row with another mode stands where it stood
behind_joined : (a : Anchor) (r : Row) (m : Mode) (rs : Locks) → a ≡ r.0 → Behind r rs → Behind (a, with_mode r.1 m) rs
behind_joined a r m [] e b = tt
behind_joined a r m (q ∷ qs) e b = (ap (λ c. row_cmp c (r.1).tx q) e ∙ b.0, behind_joined a r m qs e b.1)

module _ (a : Anchor) (h : Holder) where
  behind_take : (x : Row) (rows : Locks) → row_order x (a, h) ≡ Less → Behind x rows → Behind x (take_one a h rows)
  behind_take x [] l b = (l, tt)
  behind_take x (r ∷ rs) l b = go (row_cmp a h.tx r) refl (behind_take x rs l b.1)
    where
      go : (o : Ordering) → row_cmp a h.tx r ≡ o → Behind x (take_one a h rs) → Behind x (match_ordering o ((a, h) ∷ r ∷ rs) ((a, with_mode r.1 h.mode) ∷ rs) (r ∷ take_one a h rs))
      go Less e more = (l, b)
      go Equal e more = (ap (λ c. row_cmp x.0 (x.1).tx (c, with_mode r.1 h.mode)) (anchor_true a r.0 (first_level (anchor_cmp a r.0) (tx_cmp h.tx (r.1).tx) e)) ∙ b.0, b.1)
      go Greater e more = (b.0, more)

  pub rising_take_one : (rows : Locks) → Rising rows → Rising (take_one a h rows)
  rising_take_one [] s = (tt, tt)
  rising_take_one (r ∷ rs) s = go (row_cmp a h.tx r) refl (rising_take_one rs s.1)
    where
      go : (o : Ordering) → row_cmp a h.tx r ≡ o → Rising (take_one a h rs) → Rising (match_ordering o ((a, h) ∷ r ∷ rs) ((a, with_mode r.1 h.mode) ∷ rs) (r ∷ take_one a h rs))
      go Less e more = ((e, behind_more (a, h) r rs e s.0), s)
      go Equal e more = (behind_joined a r h.mode rs (anchor_true a r.0 (first_level (anchor_cmp a r.0) (tx_cmp h.tx (r.1).tx) e)) s.0, s.1)
      go Greater e more = (behind_take r rs (row_total.antisymm r (a, h) ∙ ap ordering_reverse e) s.0, more)

behind_filter : (p : Row → Bool) (x : Row) (rows : Locks) → Behind x rows → Behind x (filter p rows)
behind_filter p x [] b = tt
behind_filter p x (r ∷ rs) b = go (p r) (behind_filter p x rs b.1)
  where
    go : (c : Bool) → Behind x (filter p rs) → Behind x (cond c (r ∷ filter p rs) (filter p rs))
    go true more = (b.0, more)
    go false more = more

pub rising_filter : (p : Row → Bool) (rows : Locks) → Rising rows → Rising (filter p rows)
rising_filter p [] s = tt
rising_filter p (r ∷ rs) s = go (p r) (rising_filter p rs s.1)
  where
    go : (c : Bool) → Rising (filter p rs) → Rising (cond c (r ∷ filter p rs) (filter p rs))
    go true more = (behind_filter p r rs s.0, more)
    go false more = more
