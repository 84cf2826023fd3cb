-- Who is kept, round by round.
use Rattle.std.proofs.Common.{◌≡◌, ℕ, zero, suc, ◌-◌, ◌<◌, ◌≤◌, arith, Bool, List, [], ◌∷◌, length, refl, sym, ap, subst, ◌∙◌}
use Rattle.std.specs.List.{filter}
use Rattle.std.proofs.lemmas.Bool.{cond_both}
use Rattle.clv_base.specs.declared.names.TxId.{TxId}
use Rattle.clv_base.specs.declared.logs.LogRecord.{LogRecord}
use Rattle.standby_base.specs.Standby.{keeps, kept_through, standby_members}
use Rattle.law_base.proofs.Lists.{filter-few}

-- ---- rounds

all_stay : (f : TxId → Bool) (xs : List TxId) → length xs ≤ length (filter f xs) → filter f xs ≡ xs
all_stay f [] few = refl
all_stay f (x ∷ xs) few =
    cond_both (f x) (x ∷ filter f xs) (filter f xs) (λ ys. length (x ∷ xs) ≤ length ys → ys ≡ x ∷ xs) (λ e g. ap (λ ys. x ∷ ys) (all_stay f xs (omega (arith, g))))
    (λ e g. absurd (omega (arith, g, filter-few f xs))) few

stable : (n : ℕ) (streams : List (List LogRecord)) (set : List TxId) → filter (keeps streams set) set ≡ set → kept_through n streams set ≡ set
stable zero streams set e = refl
stable (suc n) streams set e = ap (kept_through n streams) e ∙ stable n streams set e

-- where a round takes nobody away, all that are left are the members
pub nobody_goes : (streams : List (List LogRecord)) (left : ℕ) (txs kept : List TxId) → kept ≡ filter (keeps streams txs) txs → length kept ≡ length txs → kept_through left streams txs ≡ standby_members streams → txs ≡ standby_members streams
nobody_goes streams left txs kept e l through = sym (stable left streams txs (all_stay (keeps streams txs) txs (omega (arith, l, ap length e)))) ∙ through

-- else a round less is to come
pub one_round : (streams : List (List LogRecord)) (left : ℕ) (txs kept : List TxId) → kept ≡ filter (keeps streams txs) txs → 0 < left → kept_through left streams txs ≡ standby_members streams → kept_through (left - 1) streams kept ≡ standby_members streams
one_round streams zero txs kept e l through = absurd (omega (arith, l))
one_round streams (suc n) txs kept e l through = subst (λ k. kept_through k streams kept ≡ standby_members streams) (let less : n ≡ suc n - 1 = omega arith in less) (ap (kept_through n streams) e ∙ through)
