-- By how many the gap parts that are held on an anchor can grow.
use Rattle.std.proofs.Common.{◌≡◌, ◌+◌, ◌≤◌, cond, true, false, Bool, List, [], ◌∷◌, length, arith}
use Rattle.std.specs.List.{filter}
use Rattle.std.specs.declared.cmp.Ordering.{Ordering}
use Rattle.std.specs.declared.cmp.Ordering.TheVariants.{Less, Equal, Greater}
use Rattle.std.specs.Ordering.{match_ordering}
use Rattle.clv_base.specs.declared.names.TxId.{TxId}
use Rattle.clv_base.specs.declared.names.Birth.{Birth}
use Rattle.clv_base.specs.declared.modes.Anchor.{Anchor}
use Rattle.clv_base.specs.declared.modes.Need.{Need}
use Rattle.clv_base.specs.declared.modes.Holder.{Holder}
use Rattle.clv_base.specs.Locks.{Locks, row_cmp, with_mode, take_one, take_all, holder_of, holds_gap}
use Rattle.lock_table.specs.Rows.{gaps_held}
use Rattle.law_base.proofs.Numbers.{one_if, one_at_most as at_most_one}

gaps_held-cons : (x : Anchor) (r : Anchor × Holder) (rs : Locks) → gaps_held x (r ∷ rs) ≡ one_if (holds_gap x r) + gaps_held x rs
gaps_held-cons x r rs = go (holds_gap x r)
  where
    go : (b : Bool) → length (cond b (r ∷ filter (holds_gap x) rs) (filter (holds_gap x) rs)) ≡ one_if b + gaps_held x rs
    go true = omega arith
    go false = omega arith

gaps_held-take_one : (x a : Anchor) (h : Holder) (rows : Locks) → gaps_held x (take_one a h rows) ≤ gaps_held x rows + 1
gaps_held-take_one x a h [] = omega (arith, gaps_held-cons x (a, h) [], at_most_one (holds_gap x (a, h)))
gaps_held-take_one x a h (r ∷ rs) = go (row_cmp a h.tx r) (gaps_held-take_one x a h rs)
  where
    go : (o : Ordering) → gaps_held x (take_one a h rs) ≤ gaps_held x rs + 1 → gaps_held x (match_ordering o ((a, h) ∷ r ∷ rs) ((a, with_mode r.1 h.mode) ∷ rs) (r ∷ take_one a h rs)) ≤ gaps_held x (r ∷ rs) + 1
    go Less more = omega (arith, gaps_held-cons x (a, h) (r ∷ rs), at_most_one (holds_gap x (a, h)))
    go Equal more = omega (arith, gaps_held-cons x (a, with_mode r.1 h.mode) rs, gaps_held-cons x r rs, at_most_one (holds_gap x (a, with_mode r.1 h.mode)))
    go Greater more = omega (arith, gaps_held-cons x r (take_one a h rs), gaps_held-cons x r rs)

-- a lock that is taken adds one gap part at most
pub gaps_held-take_all : (x : Anchor) (tx : TxId) (birth : Birth) (needs : List Need) (rows : Locks) → gaps_held x (take_all tx birth needs rows) ≤ gaps_held x rows + length needs
gaps_held-take_all x tx birth [] rows = omega arith
gaps_held-take_all x tx birth (n ∷ ns) rows = omega (arith, gaps_held-take_one x n.anchor (holder_of tx birth n.mode) rows, gaps_held-take_all x tx birth ns (take_one n.anchor (holder_of tx birth n.mode) rows))
