-- The map that logs stand for agrees with what each log has of it.
use Rattle.std.proofs.Common.{◌≡◌, ℕ, zero, suc, ◌+◌, ◌<◌, ◌≤◌, Bool, true, false, cond, List, [], ◌∷◌, length, Some, None, ◌==◌, refl, sym, ap, subst, ◌∙◌, arith}
use Rattle.std.specs.List.{AllByRecursion, list_all}
use Rattle.std.proofs.lemmas.Bool.{both_ways, and_parts, false_from_ne_true}
use Rattle.clv_base.specs.declared.changes.Change.{Change}
use Rattle.clv_base.specs.declared.changes.Change.TheVariants.{Sets, Adds}
use Rattle.clv_base.specs.declared.names.TxId.{TxId}
use Rattle.clv_base.specs.declared.logs.LogRecord.{LogRecord}
use Rattle.clv_base.specs.declared.logs.LogRecord.TheVariants.{Update, Clr, Prepare, Commit, Abort, End, Restart, Add, Unadd, Forgotten, Check}
use Rattle.clv_base.specs.Maps.{KeyMap, map_get, with_pairs, plus}
use Rattle.clv_base.specs.Logs.{StandingUpdate, base_of, standing_from, standing, with_change, fold_writes, fold_updates, stands_from, stands, committed_somewhere}
use Rattle.clv_base.specs.LogRules.{log_of, all_logs_from}
use Rattle.clv_base.specs.FileRules.{passes_file_rules}
use Rattle.clv_base.specs.Shards.{shard_count, are_splits, in_span}
use Rattle.clv_base.specs.Folding.{IsRising}
use Rattle.clv_base.proofs.Folding.{eq_true, get_set, get_other}
use Rattle.serial_laws.specs.Shares.{HasShares}
use Rattle.serial_laws.proofs.ReplayByShards.SpansShareNoKey.{one_shard}
use Rattle.headline_laws.specs.Shares.{AreLogsOf, share_of}
use Rattle.law_base.proofs.Bases.{get_with, value_or}
use Rattle.law_base.proofs.Logs.{fold_rises}
use Rattle.law_base.proofs.Names.{all_without}

-- ---- one log

-- the value at a key depends on the value at that key alone
change_alike : (key k : ℕ) (c : Change) (m n : KeyMap) → map_get k m ≡ map_get k n → map_get k (with_change key c m) ≡ map_get k (with_change key c n)
change_alike key k (Sets before after) m n e = get_set k key after m ∙ ap (λ o. cond (k == key) after o) e ∙ sym (get_set k key after n)
change_alike key k (Adds by) m n e = get_set k key (plus by (map_get key m)) m ∙ at (k == key) refl ∙ sym (get_set k key (plus by (map_get key n)) n)
  where
    at : (b : Bool) → (k == key) ≡ b → cond b (plus by (map_get key m)) (map_get k m) ≡ cond b (plus by (map_get key n)) (map_get k n)
    at true q = ap (plus by) (ap (λ j. map_get j m) (sym (eq_true k key q)) ∙ e ∙ ap (λ j. map_get j n) (eq_true k key q))
    at false q = e

writes_alike : (keep : TxId → Bool) (ws : List StandingUpdate) (k : ℕ) (m n : KeyMap) → map_get k m ≡ map_get k n → map_get k (fold_writes keep ws m) ≡ map_get k (fold_writes keep ws n)
writes_alike keep [] k m n e = e
writes_alike keep (w ∷ ws) k m n e = at (keep w.tx) (writes_alike keep ws k m n e)
  where
    at : (b : Bool) → map_get k (fold_writes keep ws m) ≡ map_get k (fold_writes keep ws n)
        → map_get k (cond b (with_change w.key w.change (fold_writes keep ws m)) (fold_writes keep ws m)) ≡ map_get k (cond b (with_change w.key w.change (fold_writes keep ws n)) (fold_writes keep ws n))
    at true h = change_alike w.key k w.change (fold_writes keep ws m) (fold_writes keep ws n) h
    at false h = h

-- a log writes keys of its shard alone
abbrev LieWithin : List ℕ → ℕ → List StandingUpdate → Type 0
LieWithin splits i ws = AllByRecursion (λ w. in_span splits i w.key ≡ true) ws

within_from : (splits : List ℕ) (i n : ℕ) (rs : List LogRecord) (ws : List StandingUpdate) → list_all (passes_file_rules splits i) rs ≡ true → LieWithin splits i ws → LieWithin splits i (standing_from n rs ws)
within_from splits i n [] ws p a = a
within_from splits i n (Update tx key before after ∷ rs) ws p a = let q = and_parts (in_span splits i key) (list_all (passes_file_rules splits i) rs) p in within_from splits i (suc n) rs _ q.1 (q.0, a)
within_from splits i n (Add tx key by ∷ rs) ws p a = let q = and_parts (in_span splits i key) (list_all (passes_file_rules splits i) rs) p in within_from splits i (suc n) rs _ q.1 (q.0, a)
within_from splits i n (Clr tx undo_next key after ∷ rs) ws p a = within_from splits i (suc n) rs _ (and_parts (in_span splits i key) _ p).1 (all_without (λ w. in_span splits i w.key ≡ true) tx ws a)
within_from splits i n (Unadd tx undo_next key by ∷ rs) ws p a = within_from splits i (suc n) rs _ (and_parts (in_span splits i key) _ p).1 (all_without (λ w. in_span splits i w.key ≡ true) tx ws a)
within_from splits i n (Prepare tx home ps ∷ rs) ws p a = within_from splits i (suc n) rs ws (and_parts _ _ p).1 a
within_from splits i n (Commit tx ps ∷ rs) ws p a = within_from splits i (suc n) rs ws (and_parts _ _ p).1 a
within_from splits i n (Abort tx ∷ rs) ws p a = within_from splits i (suc n) rs ws p a
within_from splits i n (End tx ∷ rs) ws p a = within_from splits i (suc n) rs ws p a
within_from splits i n (Restart run epoch ∷ rs) ws p a = within_from splits i (suc n) rs ws p a
within_from splits i n (Forgotten ∷ rs) ws p a = within_from splits i (suc n) rs ws p a
within_from splits i n (Check run' epoch' upto base ∷ rs) ws p a = within_from splits i (suc n) rs ws (and_parts _ _ p).1 a

-- so it leaves the keys that aren't its shard's
change_away : (key k : ℕ) (c : Change) (m : KeyMap) → (k == key) ≡ false → map_get k (with_change key c m) ≡ map_get k m
change_away key k (Sets before after) m e = get_other k key after m e
change_away key k (Adds by) m e = get_other k key (plus by (map_get key m)) m e

writes_away : (splits : List ℕ) (i : ℕ) (keep : TxId → Bool) (ws : List StandingUpdate) (k : ℕ) (m : KeyMap) → LieWithin splits i ws → in_span splits i k ≡ false → map_get k (fold_writes keep ws m) ≡ map_get k m
writes_away splits i keep [] k m a e = refl
writes_away splits i keep (w ∷ ws) k m a e = at (keep w.tx) (writes_away splits i keep ws k m a.1 e)
  where
    other : (k == w.key) ≡ false
    other = false_from_ne_true (k == w.key) (λ h. both_ways (in_span splits i w.key) (subst (λ z. in_span splits i z ≡ false) (eq_true k w.key h) e) a.0)

    at : (b : Bool) → map_get k (fold_writes keep ws m) ≡ map_get k m → map_get k (cond b (with_change w.key w.change (fold_writes keep ws m)) (fold_writes keep ws m)) ≡ map_get k m
    at true h = change_away w.key k w.change (fold_writes keep ws m) other ∙ h
    at false h = h

-- and so do the pairs that it begins with
base_within : (splits : List ℕ) (i : ℕ) (log : List LogRecord) → list_all (passes_file_rules splits i) log ≡ true → list_all (λ p. in_span splits i p.0) (base_of log) ≡ true
base_within splits i [] p = refl
base_within splits i (Check run epoch upto base ∷ rs) p = (and_parts (list_all (λ q. in_span splits i q.0) base) (list_all (passes_file_rules splits i) rs) p).0
base_within splits i (_ ∷ rs) p = refl

with_away : (splits : List ℕ) (i : ℕ) (ps m : KeyMap) (k : ℕ) → list_all (λ p. in_span splits i p.0) ps ≡ true → in_span splits i k ≡ false → map_get k (with_pairs ps m) ≡ map_get k m
with_away splits i [] m k within out = refl
with_away splits i (p ∷ ps) m k within out =
    let q = and_parts (in_span splits i p.0) (list_all (λ r. in_span splits i r.0) ps) within in
    get_other k p.0 (Some p.1) (with_pairs ps m)
    (false_from_ne_true (k == p.0) (λ h. both_ways (in_span splits i p.0) (subst (λ z. in_span splits i z ≡ false) (eq_true k p.0 h) out) q.0))
    ∙ with_away splits i ps m k q.1 out

pub fold_away : (splits : List ℕ) (i : ℕ) (keep : TxId → Bool) (log : List LogRecord) (k : ℕ) (m : KeyMap) → list_all (passes_file_rules splits i) log ≡ true → in_span splits i k ≡ false → map_get k (fold_updates keep log m) ≡ map_get k m
fold_away splits i keep log k m p e =
    writes_away splits i keep (standing log) k (with_pairs (base_of log) m) (within_from splits i 0 log [] p tt) e
    ∙ with_away splits i (base_of log) m k (base_within splits i log p) e

-- ---- all logs

abbrev Pass : List ℕ → ℕ → List (List LogRecord) → Type 0
Pass splits i logs = all_logs_from i (λ n log. list_all (passes_file_rules splits n) log) logs ≡ true

all_rise : (keep : TxId → Bool) (logs : List (List LogRecord)) (m : KeyMap) → IsRising m → IsRising (stands_from keep logs m)
all_rise keep [] m h = h
all_rise keep (log ∷ logs) m h = all_rise keep logs (fold_updates keep log m) (fold_rises keep log m h)

-- those from shard i up leave a key that is none of theirs
all_away : (splits : List ℕ) (i : ℕ) (keep : TxId → Bool) (logs : List (List LogRecord)) (k : ℕ) (m : KeyMap) → Pass splits i logs → ((j : ℕ) → i ≤ j → j < i + length logs → in_span splits j k ≡ false) → map_get k (stands_from keep logs m) ≡ map_get k m
all_away splits i keep [] k m p none = refl
all_away splits i keep (log ∷ logs) k m p none =
    let q = and_parts (list_all (passes_file_rules splits i) log) _ p in
    all_away splits (suc i) keep logs k (fold_updates keep log m) q.1 (λ j a b. none j (omega (arith, a)) (omega (arith, b)))
    ∙ fold_away splits i keep log k m q.0 (none i (omega arith) (omega arith))

not_another : (splits : List ℕ) (n j k : ℕ) → are_splits splits ≡ true → n < shard_count splits → j < shard_count splits → in_span splits n k ≡ true → (n ≡ j → ⊥) → in_span splits j k ≡ false
not_another splits n j k s a b e d = false_from_ne_true (in_span splits j k) (λ h. d (one_shard splits n j k s a b e h))

-- a key of the shard that is d above the first of them has the value of that shard's log
all_values : (splits : List ℕ) (i d n : ℕ) (keep : TxId → Bool) (logs : List (List LogRecord)) (k : ℕ) (m : KeyMap)
    → are_splits splits ≡ true → Pass splits i logs → i + length logs ≡ shard_count splits → n < shard_count splits → n ≡ i + d → in_span splits n k ≡ true → map_get k m ≡ None
    → map_get k (stands_from keep logs m) ≡ map_get k (fold_updates keep (log_of logs d) [])
all_values splits i d n keep [] k m s p c l q e none = absurd (omega (arith, c, l, q))
all_values splits i zero n keep (log ∷ logs) k m s p c l q e none =
    let r = and_parts (list_all (passes_file_rules splits i) log) _ p in
    all_away splits (suc i) keep logs k (fold_updates keep log m) r.1 (λ j a b. not_another splits n j k s l (omega (arith, b, c)) e (λ h. omega (arith, a, h, q)))
    ∙ writes_alike keep (standing log) k (with_pairs (base_of log) m) (with_pairs (base_of log) [])
    (get_with (base_of log) m k ∙ ap (value_or (map_get k (base_of log))) none ∙ sym (get_with (base_of log) [] k))
all_values splits i (suc d) n keep (log ∷ logs) k m s p c l q e none =
    let r = and_parts (list_all (passes_file_rules splits i) log) _ p in
    all_values splits (suc i) d n keep logs k (fold_updates keep log m) s r.1 (omega (arith, c)) l (omega (arith, q)) e
    (fold_away splits i keep log k m r.0 (not_another splits n i k s l (omega (arith, l, q)) e (λ h. omega (arith, h, q))) ∙ none)

pub logs_agree : (splits : List ℕ) (logs : List (List LogRecord)) → are_splits splits ≡ true → AreLogsOf splits logs → HasShares splits (stands logs) (share_of logs)
logs_agree splits logs s a = record {
  whole_rises = all_rise keep logs [] tt;
  shares_rise = λ n l. fold_rises keep (log_of logs n) [] tt;
  values = λ n k l e. all_values splits 0 n n keep logs k [] s a.1 (omega (arith, a.0)) l (omega arith) e refl;
  nowhere = λ k none. all_away splits 0 keep logs k [] a.1 (λ j x y. none j (omega (arith, y, a.0)));
}
  where
    keep : TxId → Bool
    keep = committed_somewhere logs
