-- A core at rest, and what its log has.
use Rattle.std.proofs.Common.{◌≡◌, refl, sym, ap, ◌∙◌, ℕ, ◌+◌, ◌<◌, Bool, true, false, cond, List, [], ◌∷◌, ◌++◌, append_assoc, length, get_or, drop, drop-cons, add-one}
use Rattle.std.specs.List.{filter}
use Rattle.clv_base.specs.declared.names.TxId.{TxId}
use Rattle.clv_base.specs.State.{with_local}
use Rattle.clv_base.specs.OneShard.{purge}
use Rattle.clv_base.specs.Events.{finish}
use Rattle.protocol_laws.proofs.Laws.{none_is_nothing, nothing_to_do}
use Rattle.shard_core.specs.Core.{Core}
use Rattle.shard_core.specs.Whole.{IsAtRest}

-- at rest nothing is left to do, and no ghost to let go
pub rest_is : (c : Core) → IsAtRest c → finish c.shard ≡ c.shard
rest_is c r = ap (with_local purge) (nothing_to_do c.shard (none_is_nothing c.shard r.ready.cover)) ∙ r.ready.purged

-- ---- those of a list that pass, one after another

abbrev pub none : TxId
none = record { run = 0; session = 0; serial = 0 }

split : (P : TxId → Bool) (xs : List TxId) (i : ℕ) (b : Bool) → i < length xs → P (get_or xs i none) ≡ b → filter P (drop i xs) ≡ cond b (get_or xs i none ∷ filter P (drop (i + 1) xs)) (filter P (drop (i + 1) xs))
split P xs i b h e =
    let cut : drop i xs ≡ get_or xs i none ∷ drop (i + 1) xs = rw (add-one, drop-cons xs i none) refl in
    ap (filter P) cut ∙ ap (λ c. cond c (get_or xs i none ∷ filter P (drop (i + 1) xs)) (filter P (drop (i + 1) xs))) e

pub kept : (P : TxId → Bool) (xs : List TxId) (i : ℕ) (ys zs : List TxId) → i < length xs → P (get_or xs i none) ≡ true → zs ≡ ys ++ get_or xs i none ∷ [] → ys ++ filter P (drop i xs) ≡ filter P xs
    → zs ++ filter P (drop (i + 1) xs) ≡ filter P xs
kept P xs i ys zs h p z e = ap (λ (l : List TxId). l ++ filter P (drop (i + 1) xs)) z ∙ append_assoc ys _ _ ∙ ap (λ (l : List TxId). ys ++ l) (sym (split P xs i true h p)) ∙ e

pub passed : (P : TxId → Bool) (xs : List TxId) (i : ℕ) (ys zs : List TxId) → i < length xs → P (get_or xs i none) ≡ false → zs ≡ ys → ys ++ filter P (drop i xs) ≡ filter P xs → zs ++ filter P (drop (i + 1) xs) ≡ filter P xs
passed P xs i ys zs h p z e = ap (λ (l : List TxId). l ++ filter P (drop (i + 1) xs)) z ∙ ap (λ (l : List TxId). ys ++ l) (sym (split P xs i false h p)) ∙ e
