-- What a caller keeps: each write that stands has a record, and there is room to undo all.
use Rattle.std.proofs.Common.{◌≡◌, ℕ, ◌+◌, ◌≤◌, Bool, true, false, cond, ◌==◌, List, [], ◌∷◌, ◌++◌, map, length, Option, Some, refl, sym, ap, subst, ◌∙◌, arith}
use Rattle.std.specs.List.{filter}
use Rattle.std.specs.Map.{lookup}
use Rattle.std.specs.declared.cmp.Ordering.{Ordering}
use Rattle.std.specs.declared.cmp.Ordering.TheVariants.{Less, Equal, Greater}
use Rattle.std.specs.Ordering.{nat_cmp, match_ordering}
use Rattle.std.proofs.lemmas.Bool.{both_ways}
use Rattle.clv_base.specs.declared.values.Value.{Value as ValueType}
use Rattle.clv_base.specs.declared.names.TxId.{TxId}
use Rattle.clv_base.specs.declared.logs.LogRecord.{LogRecord}
use Rattle.clv_base.specs.declared.logs.LogRecord.TheVariants.{Abort}
use Rattle.clv_base.specs.Orders.{tx_in}
use Rattle.clv_base.specs.declared.changes.Change.{Change}
use Rattle.clv_base.specs.declared.changes.Change.TheVariants.{Sets, Adds}
use Rattle.clv_base.specs.OneShard.{update_of}
use Rattle.clv_base.specs.Logs.{StandingUpdate, standing, standing_after, has_standing}
use Rattle.clv_base.specs.Undo.{aborts_of}
use Rattle.clv_base.specs.Needs.{Records, found_at, found_by, is_there, record_set}
use Rattle.law_base.proofs.Doubts.{standing_more}
use Rattle.cascade_undo.specs.Writes.{writes_of, HaveRecords}
use Rattle.cascade_undo.proofs.Standing.{falls}
use Rattle.cascade_undo.proofs.Restoring.{there_by}
use Rattle.law_base.proofs.Bools.{by_bool as both}
use Rattle.law_base.proofs.Names.{set_has as set_is_there, falls_length}
use Rattle.law_base.proofs.Lists.{all_mono}

-- a record that is there stays so when one is set
pub there_set : (k j : ℕ) (v : Option ValueType) (rs : Records) → is_there (found_at j rs) ≡ true → is_there (found_at j (record_set k v rs)) ≡ true
there_set k j v [] e = absurd (both_ways false refl e)
there_set k j v (r ∷ rs) e = at (nat_cmp k r.0) (k == j) (j == r.0) refl e (there_set k j v rs)
  where
    at : (o : Ordering) (b c : Bool) → (j == r.0) ≡ c → is_there (found_by (cond c (Some r.1) (lookup (◌==◌ j) rs))) ≡ true → (is_there (found_at j rs) ≡ true → is_there (found_at j (record_set k v rs)) ≡ true)
        → is_there (found_at j (match_ordering o ((k, v) ∷ r ∷ rs) ((r.0, v) ∷ rs) (r ∷ record_set k v rs))) ≡ true
    at Less b c q h more =
        both (λ d. is_there (found_by (cond d (Some v) (lookup (◌==◌ j) (r ∷ rs)))) ≡ true) (j == k) (λ _. there_by v) (λ _. e)
    at Equal b true q h more = ap (λ d. is_there (found_by (cond d (Some v) (lookup (◌==◌ j) rs)))) q ∙ there_by v
    at Equal b false q h more = ap (λ d. is_there (found_by (cond d (Some v) (lookup (◌==◌ j) rs)))) q ∙ h
    at Greater b true q h more = ap (λ d. is_there (found_by (cond d (Some r.1) (lookup (◌==◌ j) (record_set k v rs))))) q ∙ there_by r.1
    at Greater b false q h more = ap (λ d. is_there (found_by (cond d (Some r.1) (lookup (◌==◌ j) (record_set k v rs))))) q ∙ more h

one_more : (n : ℕ) (tx : TxId) (key : ℕ) (c : Change) (ws : List StandingUpdate) → standing_after n (update_of tx key c) ws ≡ record { lsn = n; tx = tx; key = key; change = c } ∷ ws
one_more n tx key (Sets before after) ws = refl
one_more n tx key (Adds by) ws = refl

-- so each write has its record when one more is made
pub have_more : (set : List TxId) (log after : List LogRecord) (rs qs : Records) (tx : TxId) (key : ℕ) (v : Option ValueType) (c : Change) → HaveRecords set (standing log) rs
    → after ≡ log ++ update_of tx key c ∷ [] → qs ≡ record_set key v rs → HaveRecords set (standing after) qs
have_more set log after rs qs tx key v c have e q =
    subst (λ l. HaveRecords set l qs) (sym (ap standing e ∙ standing_more log (update_of tx key c) ∙ one_more (0 + length log) tx key c (standing log)))
    (subst (λ l. HaveRecords set (record { lsn = 0 + length log; tx = tx; key = key; change = c } ∷ standing log) l) (sym q)
    ((λ _. set_is_there key v rs), all_mono _ _ (λ w h i. there_set key w.key v rs (h i)) (standing log) have))

-- ---- room

fewer_writes : (set : List TxId) (ws : List StandingUpdate) → length (writes_of set ws) ≤ length ws
fewer_writes set [] = omega arith
fewer_writes set (w ∷ ws) = let h = fewer_writes set ws in both (λ b. length (cond b (w ∷ writes_of set ws) (writes_of set ws)) ≤ length (w ∷ ws)) (tx_in w.tx set) (λ _. omega arith) (λ _. omega arith)

fewer_aborts : (log : List LogRecord) (txs : List TxId) → length (aborts_of log txs) ≤ length txs
fewer_aborts log [] = omega arith
fewer_aborts log (t ∷ ts) =
    let h = fewer_aborts log ts in
    both (λ b. length (map (λ u. Abort u) (cond b (t ∷ filter (has_standing log) ts) (filter (has_standing log) ts))) ≤ length (t ∷ ts)) (has_standing log t) (λ _. omega arith) (λ _. omega arith)

-- the set's writes are no more than the log's records
pub writes_within : (set : List TxId) (log : List LogRecord) → length (writes_of set (standing log)) ≤ length log
writes_within set log = let w = fewer_writes set (standing log) in let s = falls_length (length log) (standing log) (falls log) in omega arith

-- as many records as the log has, and one for each of the set, are enough
pub room_enough : (log : List LogRecord) (set : List TxId) → length (aborts_of log set) + length (writes_of set (standing log)) ≤ length set + length log
room_enough log set =
    let a = fewer_aborts log set in let w = writes_within set log in omega arith
