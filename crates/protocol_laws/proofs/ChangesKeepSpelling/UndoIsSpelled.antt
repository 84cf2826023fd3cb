-- What undoes writes has spellings, where the log's records have.
use Rattle.std.proofs.Common.{◌≡◌, refl, sym, subst, ℕ, suc, ◌+◌, ◌-◌, ◌^◌, ◌%◌, ◌≤◌, ◌<◌, nat_lt, Bool, true, false, cond, ◌&&◌, List, [], ◌∷◌, map, length, Option, Some, None, arith}
use Rattle.std.proofs.lemmas.Bool.{and_parts, and_from, lt-ltb}
use Rattle.std.proofs.lemmas.Nat.{mod_below}
use Rattle.std.proofs.lemmas.Bool.Decides.{nat_tests}
use Rattle.std.specs.List.{list_all, AllByRecursion}
use Rattle.std.specs.declared.cmp.Ordering.{Ordering}
use Rattle.std.specs.declared.cmp.Ordering.TheVariants.{Less, Equal, Greater}
use Rattle.std.specs.Ordering.{match_ordering}
use Rattle.clv_base.specs.declared.names.TxId.{TxId}
use Rattle.clv_base.specs.declared.logs.LogRecord.{LogRecord}
use Rattle.clv_base.specs.declared.logs.LogRecord.TheVariants.{Update, Clr, Prepare, Commit, Abort, End, Restart, Add, Unadd, Forgotten, Check}
use Rattle.clv_base.specs.Orders.{tx_cmp, tx_same, tx_insert}
use Rattle.clv_base.specs.declared.values.Value.{Value as ValueType}
use Rattle.clv_base.specs.declared.values.Value.TheVariants.{Num, Bytes}
use Rattle.clv_base.specs.declared.changes.Change.{Change}
use Rattle.clv_base.specs.declared.changes.Change.TheVariants.{Sets, Adds}
use Rattle.clv_base.specs.Maps.{sum, plus, minus}
use Rattle.clv_base.proofs.Sums.{small_sum}
use Rattle.clv_base.specs.Logs.{StandingUpdate, changed, unchanged, standing_after, standing_from, standing, without_newest, newest_of, writers}
use Rattle.clv_base.specs.FileRules.{has_spelling, tx_has_spelling, is_64_bits, is_value, is_undo_next}
use Rattle.clv_base.specs.Undo.{is_of, clrs_by, clrs_of, compensation, newest_lsn}
use Rattle.law_base.proofs.Lists.{all_mono}

-- ---- lists

pub both : (P : Bool → Type 0) → P true → P false → (b : Bool) → P b
both P t f true = t
both P t f false = f

-- ---- the writes that stand

-- a change whose values are in bounds leaves such a value
abbrev pub change_fits : Change → Bool
change_fits (Sets before after) = is_value before && is_value after
change_fits (Adds by) = is_64_bits by

-- a sum is one of 64 bits where its first number is
sum_fits : (v n : ℕ) → nat_lt v (2 ^ 64) ≡ true → nat_lt (sum v n) (2 ^ 64) ≡ true
sum_fits v n e =
    subst (λ x. nat_lt x (2 ^ 64) ≡ true) (sym (small_sum v n (grind (arith, nat_tests, e)))) (lt-ltb ((v + n) % 2 ^ 64) (2 ^ 64) (mod_below (v + n) (2 ^ 64) (omega arith)))

pub plus_fits : (n : ℕ) (v : Option ValueType) → is_value v ≡ true → is_value (plus n v) ≡ true
plus_fits n None e = refl
plus_fits n (Some (Num v)) e = sum_fits v n e
plus_fits n (Some (Bytes b)) e = e

minus_fits : (n : ℕ) (v : Option ValueType) → is_value v ≡ true → is_value (minus n v) ≡ true
minus_fits n None e = refl
minus_fits n (Some (Num v)) e = sum_fits v (2 ^ 64 - n % 2 ^ 64) e
minus_fits n (Some (Bytes b)) e = e

pub changed_fits : (change : Change) (v : Option ValueType) → change_fits change ≡ true → is_value v ≡ true → is_value (changed change v) ≡ true
changed_fits (Sets before after) v f e = (and_parts (is_value before) (is_value after) f).1
changed_fits (Adds by) v f e = plus_fits by v e

pub unchanged_fits : (change : Change) (v : Option ValueType) → change_fits change ≡ true → is_value v ≡ true → is_value (unchanged change v) ≡ true
unchanged_fits (Sets before after) v f e = (and_parts (is_value before) (is_value after) f).0
unchanged_fits (Adds by) v f e = minus_fits by v e

-- a write at an LSN below n whose fields are in bounds
abbrev pub IsFit : ℕ → StandingUpdate → Type 0
IsFit n w = (w.lsn < n) × (tx_has_spelling w.tx ≡ true) × (is_64_bits w.key ≡ true) × (change_fits w.change ≡ true)

abbrev pub AreFit : ℕ → List StandingUpdate → Type 0
AreFit n ws = AllByRecursion (IsFit n) ws

fit_more : (n : ℕ) (ws : List StandingUpdate) → AreFit n ws → AreFit (suc n) ws
fit_more n ws h = all_mono (IsFit n) (IsFit (suc n)) (λ w f. (omega (arith, f.0), f.1, f.2, f.3)) ws h

fit_without : (n : ℕ) (t : TxId) (ws : List StandingUpdate) → AreFit n ws → AreFit n (without_newest t ws)
fit_without n t [] h = h
fit_without n t (w ∷ ws) h = both (λ (b : Bool). AllByRecursion (IsFit n) (cond b ws (w ∷ without_newest t ws))) h.1 (h.0, fit_without n t ws h.1) (tx_same t w.tx)

fit_after : (n : ℕ) (r : LogRecord) (ws : List StandingUpdate) → has_spelling r ≡ true → AreFit n ws → AreFit (suc n) (standing_after n r ws)
fit_after n (Update tx key before after) ws h f =
    let values = and_parts _ _ h in
    let keys = and_parts _ _ values.0 in
    let txs = and_parts _ _ keys.0 in
    ((omega arith, txs.0, txs.1, and_from _ _ keys.1 values.1), fit_more n ws f)
fit_after n (Clr tx undo_next key after) ws h f = fit_more n (without_newest tx ws) (fit_without n tx ws f)
fit_after n (Prepare tx home predecessors) ws h f = fit_more n ws f
fit_after n (Commit tx parts) ws h f = fit_more n ws f
fit_after n (Abort tx) ws h f = fit_more n ws f
fit_after n (End tx) ws h f = fit_more n ws f
fit_after n (Restart run epoch) ws h f = fit_more n ws f
fit_after n (Add tx key by) ws h f =
    let numbers = and_parts _ _ h in
    let txs = and_parts _ _ numbers.0 in
    ((omega arith, txs.0, txs.1, numbers.1), fit_more n ws f)
fit_after n (Unadd tx undo_next key by) ws h f = fit_more n (without_newest tx ws) (fit_without n tx ws f)
fit_after n Forgotten ws h f = fit_more n ws f
fit_after n (Check run' epoch' upto base) ws h f = fit_more n ws f

fit_from : (n : ℕ) (rs : List LogRecord) (ws : List StandingUpdate) → list_all has_spelling rs ≡ true → AreFit n ws → AreFit (n + length rs) (standing_from n rs ws)
fit_from n [] ws h f = subst (λ (m : ℕ). AreFit m ws) (omega arith) f
fit_from n (r ∷ rs) ws h f =
    let parts = and_parts (has_spelling r) (list_all has_spelling rs) h in
    subst (λ (m : ℕ). AreFit m (standing_from (suc n) rs (standing_after n r ws))) (omega arith) (fit_from (suc n) rs (standing_after n r ws) parts.1 (fit_after n r ws parts.0 f))

pub fit_standing : (log : List LogRecord) → list_all has_spelling log ≡ true → AreFit (length log) (standing log)
fit_standing log h = subst (λ (n : ℕ). AreFit n (standing log)) (omega arith) (fit_from 0 log [] h tt)

-- ---- the CLRs and UNADDs of some writes

fits_newest : (n : ℕ) (t : TxId) (ws : List StandingUpdate) → n ≤ 2 ^ 64 - 1 → AreFit n ws → is_undo_next (newest_lsn t ws) ≡ true
fits_newest n t [] few f = refl
fits_newest n t (w ∷ ws) few f =
    both (λ (b : Bool). is_undo_next (elim (cond b (Some w) (newest_of t ws)) [ Some v ↦ Some v.lsn | None ↦ None ]) ≡ true)
    (let below : w.lsn < n = f.0.0 in grind (arith, nat_tests, below, few)) (fits_newest n t ws few f.1) (tx_same t w.tx)

undo_spelled : (tx : TxId) (next : Option ℕ) (key : ℕ) (change : Change) → tx_has_spelling tx ≡ true → is_undo_next next ≡ true → is_64_bits key ≡ true → change_fits change ≡ true → has_spelling (compensation tx next key change) ≡ true
undo_spelled tx next key (Sets before after) t n k f = and_from _ _ (and_from _ _ (and_from _ _ t n) k) (and_parts (is_value before) (is_value after) f).0
undo_spelled tx next key (Adds by) t n k f = and_from _ _ (and_from _ _ (and_from _ _ t n) k) f

pub clrs_spelled_by : (n : ℕ) (gone : StandingUpdate → Bool) (ws : List StandingUpdate) → n ≤ 2 ^ 64 - 1 → AreFit n ws → list_all has_spelling (clrs_by gone ws) ≡ true
clrs_spelled_by n gone [] few f = refl
clrs_spelled_by n gone (w ∷ ws) few f =
    let rest = clrs_spelled_by n gone ws few f.1 in
    both (λ (b : Bool). list_all has_spelling (cond b (compensation w.tx (newest_lsn w.tx ws) w.key w.change ∷ clrs_by gone ws) (clrs_by gone ws)) ≡ true)
    (and_from _ _ (undo_spelled w.tx (newest_lsn w.tx ws) w.key w.change f.0.1 (fits_newest n w.tx ws few f.1) f.0.2 f.0.3) rest) rest (gone w)

pub clrs_spelled : (n : ℕ) (set : List TxId) (ws : List StandingUpdate) → n ≤ 2 ^ 64 - 1 → AreFit n ws → list_all has_spelling (clrs_of set ws) ≡ true
clrs_spelled n set ws few f = clrs_spelled_by n (is_of set) ws few f

-- ---- the ABORTs

abbrev pub Named : List TxId → Type 0
Named txs = AllByRecursion (λ t. tx_has_spelling t ≡ true) txs

pub named_insert : (t : TxId) (xs : List TxId) → tx_has_spelling t ≡ true → Named xs → Named (tx_insert t xs)
named_insert t [] h all = (h, tt)
named_insert t (x ∷ xs) h all = at (tx_cmp t x) (named_insert t xs h all.1)
  where
    at : (o : Ordering) → AllByRecursion (λ t. tx_has_spelling t ≡ true) (tx_insert t xs) → AllByRecursion (λ t. tx_has_spelling t ≡ true) (match_ordering o (t ∷ x ∷ xs) (x ∷ xs) (x ∷ tx_insert t xs))
    at Less more = (h, all)
    at Equal more = all
    at Greater more = (all.0, more)

pub writers_named : (n : ℕ) (ws : List StandingUpdate) → AreFit n ws → Named (writers ws)
writers_named n [] f = tt
writers_named n (w ∷ ws) f = named_insert w.tx (writers ws) f.0.1 (writers_named n ws f.1)

pub aborts_spelled : (txs : List TxId) → Named txs → list_all has_spelling (map (λ t. Abort t) txs) ≡ true
aborts_spelled [] h = refl
aborts_spelled (t ∷ ts) h = and_from _ _ h.0 (aborts_spelled ts h.1)
