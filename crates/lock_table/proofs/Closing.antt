-- A loop that closes the rows one after another.
use Rattle.std.proofs.Common.{◌≡◌, ap, ◌∙◌, ℕ, ◌+◌, ◌<◌, ◌++◌, length, get_or, set, take, drop, arith}
use Rattle.std.proofs.lemmas.List.Edits.{map_over_more}
use Rattle.clv_base.specs.declared.names.TxId.{TxId}
use Rattle.clv_base.specs.declared.modes.Anchor.{Anchor}
use Rattle.clv_base.specs.declared.modes.Holder.{Holder}
use Rattle.clv_base.specs.Locks.{Locks, close_holder, close_locks}
use Rattle.law_base.proofs.Lists.{own_default}

pub close_locks-more : (tx : TxId) (xs ys : Locks) (i : ℕ) (y d : Anchor × Holder) → i < length xs → length ys ≡ length xs → ys ≡ close_locks tx (take i xs) ++ drop i xs
    → y ≡ ((get_or ys i d).0, close_holder tx (get_or ys i d).1) → set ys i y ≡ close_locks tx (take (i + 1) xs) ++ drop (i + 1) xs
close_locks-more tx xs ys i y d l len so_far now = ap (set ys i) now ∙ map_over_more (λ r. (r.0, close_holder tx r.1)) xs ys i (get_or ys i d) l so_far (own_default ys i d (omega arith))
