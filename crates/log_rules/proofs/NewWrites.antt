-- Whether a write of a transaction stands, and whether one behind an LSN does, by the newest one.
use Rattle.std.proofs.Common.{◌≡◌, ℕ, ◌<◌, Bool, true, false, cond, ◌&&◌, ◌||◌, nat_lt, List, [], ◌∷◌, Some, is_some, refl, sym, ap, ◌∙◌, arith}
use Rattle.std.proofs.lemmas.Bool.{both_ways}
use Rattle.std.proofs.lemmas.Bool.Decides.{nat_tests}
use Rattle.std.specs.List.{list_any}
use Rattle.clv_base.specs.declared.names.TxId.{TxId}
use Rattle.clv_base.specs.Orders.{tx_same}
use Rattle.clv_base.specs.Logs.{StandingUpdate, newest_of}
use Rattle.law_base.proofs.Bools.{or_none, and_no}
use Rattle.law_base.proofs.Names.{Falls}
use Rattle.log_rules.specs.Rules.{is_after}
use Rattle.log_rules.proofs.Standing.{lsn_of}

-- one of the writes is the transaction's and stands behind the LSN
abbrev pub any_behind : ℕ → TxId → List StandingUpdate → Bool
any_behind n t ws = list_any (λ w. tx_same t w.tx && nat_lt n w.lsn) ws

-- so it has a newest one
pub some_behind : (n : ℕ) (t : TxId) (ws : List StandingUpdate) → any_behind n t ws ≡ true → is_some (newest_of t ws) ≡ true
some_behind n t [] e = absurd (both_ways false refl e)
some_behind n t (w ∷ ws) e = at (tx_same t w.tx) e (λ h. some_behind n t ws h)
  where
    at : (b : Bool) → (b && nat_lt n w.lsn) || any_behind n t ws ≡ true → (any_behind n t ws ≡ true → is_some (newest_of t ws) ≡ true) → is_some (cond b (Some w) (newest_of t ws)) ≡ true
    at true h rest = refl
    at false h rest = rest h

-- below a write that stands before it, none stands behind it
none_behind : (n m : ℕ) (t : TxId) (ws : List StandingUpdate) → Falls m ws → nat_lt n m ≡ false → any_behind n t ws ≡ false
none_behind n m t [] falls e = refl
none_behind n m t (w ∷ ws) falls e =
    let lower : nat_lt n w.lsn ≡ false = not_behind w.lsn falls.0 in
    ap (λ b. (tx_same t w.tx && b) || any_behind n t ws) lower ∙ ap (λ b. (tx_same t w.tx && false) || b) (none_behind n w.lsn t ws falls.1 lower) ∙ or_none (tx_same t w.tx && false) ∙ and_no (tx_same t w.tx)
  where
    not_behind : (k : ℕ) → k < m → nat_lt n k ≡ false
    not_behind k lt = grind (arith, nat_tests)

-- one stands behind it exactly where the newest one does
pub newest_behind : (n m : ℕ) (t : TxId) (ws : List StandingUpdate) → Falls m ws → is_after n (lsn_of (newest_of t ws)) ≡ any_behind n t ws
newest_behind n m t [] falls = refl
newest_behind n m t (w ∷ ws) falls = at (tx_same t w.tx) (newest_behind n w.lsn t ws falls.1)
  where
    own : (b : Bool) → nat_lt n w.lsn ≡ b → b ≡ b || any_behind n t ws
    own true e = refl
    own false e = sym (none_behind n w.lsn t ws falls.1 e)

    at : (b : Bool) → is_after n (lsn_of (newest_of t ws)) ≡ any_behind n t ws → is_after n (lsn_of (cond b (Some w) (newest_of t ws))) ≡ (b && nat_lt n w.lsn) || any_behind n t ws
    at true rest = own (nat_lt n w.lsn) refl
    at false rest = rest
