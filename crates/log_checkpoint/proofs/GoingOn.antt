-- A checkpoint goes on as its log does: what stands behind it, and the map of those committed.
use Rattle.std.proofs.Common.{◌≡◌, ℕ, suc, ◌+◌, Bool, true, false, cond, not, ◌&&◌, ◌||◌, List, [], ◌∷◌, ◌++◌, length, Option, ◌==◌, refl, sym, ap, subst, ◌∙◌, eqb-true}
use Rattle.std.specs.List.{AllByRecursion, filter}
use Rattle.std.proofs.lemmas.Bool.{both_ways, and_parts, cond_both, false_from_ne_true}
use Rattle.std.proofs.lemmas.List.Folds.{list_any-append}
use Rattle.clv_base.specs.declared.names.TxId.{TxId}
use Rattle.clv_base.specs.declared.values.Value.{Value}
use Rattle.clv_base.specs.declared.changes.Change.{Change}
use Rattle.clv_base.specs.declared.changes.Change.TheVariants.{Sets, Adds}
use Rattle.clv_base.specs.declared.logs.LogRecord.{LogRecord}
use Rattle.clv_base.specs.declared.logs.LogRecord.TheVariants.{Update, Clr, Prepare, Commit, Abort, End, Restart, Add, Unadd, Forgotten, Check}
use Rattle.clv_base.specs.Orders.{tx_same}
use Rattle.clv_base.specs.Maps.{KeyMap, map_get}
use Rattle.clv_base.specs.Folding.{IsRising}
use Rattle.clv_base.specs.Logs.{StandingUpdate, is_setting, changed, is_commit_of, committed_in, standing, standing_from, standing_after, without_newest, with_change, fold_writes, base_of}
use Rattle.clv_base.specs.Checkpoints.{committed_map, check}
use Rattle.clv_base.proofs.SameNames.{tx_true}
use Rattle.clv_base.proofs.Folding.{get_set, same_map}
use Rattle.clv_base.proofs.Sums.{plus_plus}
use Rattle.law_base.proofs.Logs.{writes_rise}
use Rattle.law_base.proofs.Running.{fold_same}
use Rattle.law_base.proofs.Standing.{standing_append}
use Rattle.log_checkpoint.specs.Laws.{Begins, Moves, LieOn, CheckpointsGoOn}
use Rattle.log_checkpoint.proofs.Leaving.{open_stand}
use Rattle.log_checkpoint.proofs.Keeping.{committed_before, same_length}

-- ---- what stands

abbrev pub of_open : List LogRecord → StandingUpdate → Bool
of_open log w = not (committed_in log w.tx)

pub without_open : (log : List LogRecord) (t : TxId) (ws : List StandingUpdate) → committed_in log t ≡ false → without_newest t (filter (of_open log) ws) ≡ filter (of_open log) (without_newest t ws)
without_open log t [] u = refl
without_open log t (w ∷ ws) u = at (tx_same t w.tx) refl (committed_in log w.tx) refl (without_open log t ws u)
  where
    at : (b : Bool) → tx_same t w.tx ≡ b → (c : Bool) → committed_in log w.tx ≡ c → without_newest t (filter (of_open log) ws) ≡ filter (of_open log) (without_newest t ws)
        → without_newest t (cond (not c) (w ∷ filter (of_open log) ws) (filter (of_open log) ws)) ≡ filter (of_open log) (cond b ws (w ∷ without_newest t ws))
    at true own true c rest = absurd (both_ways _ u (ap (committed_in log) (tx_true t w.tx own) ∙ c))
    at true own false c rest = ap (λ b. cond b (filter (of_open log) ws) (w ∷ without_newest t (filter (of_open log) ws))) own
    at false other true c rest = rest ∙ sym (ap (λ d. cond (not d) (w ∷ filter (of_open log) (without_newest t ws)) (filter (of_open log) (without_newest t ws))) c)
    at false other false c rest =
        ap (λ b. cond b (filter (of_open log) ws) (w ∷ without_newest t (filter (of_open log) ws))) other
        ∙ ap (λ vs. w ∷ vs) rest
        ∙ sym (ap (λ d. cond (not d) (w ∷ filter (of_open log) (without_newest t ws)) (filter (of_open log) (without_newest t ws))) c)

one_on : (log : List LogRecord) (n : ℕ) (r : LogRecord) (ws : List StandingUpdate) → Moves log r → standing_after n r (filter (of_open log) ws) ≡ filter (of_open log) (standing_after n r ws)
one_on log n (Update tx key before after) ws u = sym (ap (λ d. cond (not d) (record { lsn = n; tx = tx; key = key; change = Sets before after } ∷ filter (of_open log) ws) (filter (of_open log) ws)) u)
one_on log n (Add tx key by) ws u = sym (ap (λ d. cond (not d) (record { lsn = n; tx = tx; key = key; change = Adds by } ∷ filter (of_open log) ws) (filter (of_open log) ws)) u)
one_on log n (Clr tx undo_next key after) ws u = without_open log tx ws u
one_on log n (Unadd tx undo_next key by) ws u = without_open log tx ws u
one_on log n (Prepare tx home listed) ws u = refl
one_on log n (Commit tx parts) ws u = refl
one_on log n (Abort tx) ws u = refl
one_on log n (End tx) ws u = refl
one_on log n (Restart run epoch) ws u = refl
one_on log n Forgotten ws u = refl
one_on log n (Check run epoch upto base) ws u = refl

all_on : (log : List LogRecord) (n : ℕ) (rs : List LogRecord) (ws : List StandingUpdate) → AllByRecursion (Moves log) rs → standing_from n rs (filter (of_open log) ws) ≡ filter (of_open log) (standing_from n rs ws)
all_on log n [] ws all = refl
all_on log n (r ∷ rs) ws all = ap (standing_from (suc n) rs) (one_on log n r ws all.0) ∙ all_on log (suc n) rs (standing_after n r ws) all.1

pub stands_on : (shard : ℕ) (log more : List LogRecord) → Begins log → AllByRecursion (Moves log) more → standing (check shard log ++ more) ≡ filter (of_open log) (standing (log ++ more))
stands_on shard log more begins all =
    standing_append 0 (check shard log) more []
    ∙ ap (λ k. standing_from (0 + k) more (standing (check shard log))) (same_length shard log)
    ∙ ap (standing_from (0 + length log) more) (open_stand shard log begins)
    ∙ all_on log (0 + length log) more (standing log) all
    ∙ sym (ap (filter (of_open log)) (standing_append 0 log more []))

-- ---- the value of a key

abbrev pub fold_by : (TxId → Bool) → ℕ → Option Value → List StandingUpdate → Option Value
fold_by keep k v [] = v
fold_by keep k v (w ∷ ws) = cond (keep w.tx && (k == w.key)) (changed w.change (fold_by keep k v ws)) (fold_by keep k v ws)

pub get_fold : (keep : TxId → Bool) (k : ℕ) (ws : List StandingUpdate) (m : KeyMap) → map_get k (fold_writes keep ws m) ≡ fold_by keep k (map_get k m) ws
get_fold keep k [] m = refl
get_fold keep k (w ∷ ws) m = at (keep w.tx) (k == w.key) refl (get_fold keep k ws m)
  where
    at : (b c : Bool) → (k == w.key) ≡ c → map_get k (fold_writes keep ws m) ≡ fold_by keep k (map_get k m) ws
        → map_get k (cond b (with_change w.key w.change (fold_writes keep ws m)) (fold_writes keep ws m)) ≡ cond (b && c) (changed w.change (fold_by keep k (map_get k m) ws)) (fold_by keep k (map_get k m) ws)
    at true true e rest =
        get_set k w.key (changed w.change (map_get w.key (fold_writes keep ws m))) (fold_writes keep ws m)
        ∙ ap (λ b. cond b (changed w.change (map_get w.key (fold_writes keep ws m))) (map_get k (fold_writes keep ws m))) e
        ∙ ap (λ j. changed w.change (map_get j (fold_writes keep ws m))) (sym (eqb-true k w.key e))
        ∙ ap (changed w.change) rest
    at true false e rest =
        get_set k w.key (changed w.change (map_get w.key (fold_writes keep ws m))) (fold_writes keep ws m)
        ∙ ap (λ b. cond b (changed w.change (map_get w.key (fold_writes keep ws m))) (map_get k (fold_writes keep ws m))) e
        ∙ rest
    at false c e rest = rest

-- a change goes past those above which none sets, or that are left out
past : (keep more : TxId → Bool) (c : Change) (k : ℕ) (u : Option Value) (ws : List StandingUpdate) → AllByRecursion (λ v. v.key ≡ k → (is_setting v.change || is_setting c) ≡ true → keep v.tx ≡ true) ws
    → changed c (fold_by more k u (filter (λ w. not (keep w.tx)) ws)) ≡ fold_by more k (changed c u) (filter (λ w. not (keep w.tx)) ws)
past keep more c k u [] all = refl
past keep more c k u (v ∷ ws) all = at (keep v.tx) refl (past keep more c k u ws all.1)
  where
    add_past : (d : Change) (x y : Option Value) → ((is_setting d || is_setting c) ≡ true → ⊥) → changed c x ≡ y → changed c (changed d x) ≡ changed d y
    add_past (Sets before after) x y none e = absurd (none refl)
    add_past (Adds a) x y none e = by_other c none e
      where
        by_other : (g : Change) → ((false || is_setting g) ≡ true → ⊥) → changed g x ≡ y → changed g (changed (Adds a) x) ≡ changed (Adds a) y
        by_other (Sets before after) bar f = absurd (bar refl)
        by_other (Adds b) bar f = plus_plus b a x ∙ ap (changed (Adds a)) f

    at : (b : Bool) → keep v.tx ≡ b → changed c (fold_by more k u (filter (λ w. not (keep w.tx)) ws)) ≡ fold_by more k (changed c u) (filter (λ w. not (keep w.tx)) ws)
        → changed c (fold_by more k u (cond (not b) (v ∷ filter (λ w. not (keep w.tx)) ws) (filter (λ w. not (keep w.tx)) ws)))
        ≡ fold_by more k (changed c u) (cond (not b) (v ∷ filter (λ w. not (keep w.tx)) ws) (filter (λ w. not (keep w.tx)) ws))
    at true e rest = rest
    at false e rest = here (more v.tx && (k == v.key)) refl
      where
        here : (h : Bool) → (more v.tx && (k == v.key)) ≡ h
            → changed c (cond h (changed v.change (fold_by more k u (filter (λ w. not (keep w.tx)) ws))) (fold_by more k u (filter (λ w. not (keep w.tx)) ws)))
            ≡ cond h (changed v.change (fold_by more k (changed c u) (filter (λ w. not (keep w.tx)) ws))) (fold_by more k (changed c u) (filter (λ w. not (keep w.tx)) ws))
        here false q = rest
        here true q =
            add_past v.change _ _ (λ s. both_ways _ e (all.0 (sym (eqb-true k v.key (and_parts (more v.tx) (k == v.key) q).1)) s)) rest

-- where those of one test lie at the bottom, they may be folded first
pub bottom : (keep more : TxId → Bool) (k : ℕ) (v : Option Value) (ws : List StandingUpdate) → ((t : TxId) → keep t ≡ true → more t ≡ true) → LieOn keep ws
    → fold_by more k v ws ≡ fold_by more k (fold_by keep k v ws) (filter (λ w. not (keep w.tx)) ws)
bottom keep more k v [] wide lie = refl
bottom keep more k v (w ∷ ws) wide lie = at (keep w.tx) refl (bottom keep more k v ws wide lie.1)
  where
    at : (b : Bool) → keep w.tx ≡ b → fold_by more k v ws ≡ fold_by more k (fold_by keep k v ws) (filter (λ w. not (keep w.tx)) ws)
        → cond (more w.tx && (k == w.key)) (changed w.change (fold_by more k v ws)) (fold_by more k v ws)
        ≡ fold_by more k (cond (b && (k == w.key)) (changed w.change (fold_by keep k v ws)) (fold_by keep k v ws)) (cond (not b) (w ∷ filter (λ w. not (keep w.tx)) ws) (filter (λ w. not (keep w.tx)) ws))
    at false e rest = ap (λ x. cond (more w.tx && (k == w.key)) (changed w.change x) x) rest
    at true e rest = ap (λ b. cond (b && (k == w.key)) (changed w.change (fold_by more k v ws)) (fold_by more k v ws)) (wide w.tx e) ∙ here (k == w.key) refl
      where
        here : (h : Bool) → (k == w.key) ≡ h
            → cond h (changed w.change (fold_by more k v ws)) (fold_by more k v ws)
            ≡ fold_by more k (cond h (changed w.change (fold_by keep k v ws)) (fold_by keep k v ws)) (filter (λ w. not (keep w.tx)) ws)
        here false q = rest
        here true q =
            ap (changed w.change) rest
            ∙ past keep more w.change k (fold_by keep k v ws) ws (subst (λ j. AllByRecursion (λ x. x.key ≡ j → (is_setting x.change || is_setting w.change) ≡ true → keep x.tx ≡ true) ws) (sym (eqb-true k w.key q)) (lie.0 e))

pub bottom_first : (keep more : TxId → Bool) (ws : List StandingUpdate) (m : KeyMap) → IsRising m → ((t : TxId) → keep t ≡ true → more t ≡ true) → LieOn keep ws
    → fold_writes more ws m ≡ fold_writes more (filter (λ w. not (keep w.tx)) ws) (fold_writes keep ws m)
bottom_first keep more ws m rise wide lie =
    same_map (fold_writes more ws m) (fold_writes more (filter (λ w. not (keep w.tx)) ws) (fold_writes keep ws m)) (writes_rise more ws m rise)
    (writes_rise more (filter (λ w. not (keep w.tx)) ws) (fold_writes keep ws m) (writes_rise keep ws m rise))
    (λ q.
    get_fold more q ws m ∙ bottom keep more q (map_get q m) ws wide lie
    ∙ ap (λ v. fold_by more q v (filter (λ w. not (keep w.tx)) ws)) (sym (get_fold keep q ws m))
    ∙ sym (get_fold more q (filter (λ w. not (keep w.tx)) ws) (fold_writes keep ws m)))

-- ---- those committed before are left by what comes

fold_past : (keep : TxId → Bool) (t : TxId) (ws : List StandingUpdate) (m : KeyMap) → keep t ≡ false → fold_writes keep (without_newest t ws) m ≡ fold_writes keep ws m
fold_past keep t [] m out = refl
fold_past keep t (w ∷ ws) m out = at (tx_same t w.tx) refl (fold_past keep t ws m out)
  where
    at : (b : Bool) → tx_same t w.tx ≡ b → fold_writes keep (without_newest t ws) m ≡ fold_writes keep ws m
        → fold_writes keep (cond b ws (w ∷ without_newest t ws)) m ≡ cond (keep w.tx) (with_change w.key w.change (fold_writes keep ws m)) (fold_writes keep ws m)
    at true own rest = sym (ap (λ b. cond b (with_change w.key w.change (fold_writes keep ws m)) (fold_writes keep ws m)) (ap keep (sym (tx_true t w.tx own)) ∙ out))
    at false other rest = ap (λ n. cond (keep w.tx) (with_change w.key w.change n) n) rest

pub folds_on : (log : List LogRecord) (n : ℕ) (rs : List LogRecord) (ws : List StandingUpdate) (m : KeyMap) → AllByRecursion (Moves log) rs → fold_writes (committed_in log) (standing_from n rs ws) m ≡ fold_writes (committed_in log) ws m
folds_on log n [] ws m all = refl
folds_on log n (r ∷ rs) ws m all = folds_on log (suc n) rs (standing_after n r ws) m all.1 ∙ one r all.0
  where
    one : (r : LogRecord) → Moves log r → fold_writes (committed_in log) (standing_after n r ws) m ≡ fold_writes (committed_in log) ws m
    one (Update tx key before after) u = ap (λ b. cond b (with_change key (Sets before after) (fold_writes (committed_in log) ws m)) (fold_writes (committed_in log) ws m)) u
    one (Add tx key by) u = ap (λ b. cond b (with_change key (Adds by) (fold_writes (committed_in log) ws m)) (fold_writes (committed_in log) ws m)) u
    one (Clr tx undo_next key after) u = fold_past (committed_in log) tx ws m u
    one (Unadd tx undo_next key by) u = fold_past (committed_in log) tx ws m u
    one (Prepare tx home listed) u = refl
    one (Commit tx parts) u = refl
    one (Abort tx) u = refl
    one (End tx) u = refl
    one (Restart run epoch) u = refl
    one Forgotten u = refl
    one (Check run epoch upto base) u = refl

open_writes : (log : List LogRecord) (f g : TxId → Bool) (ws : List StandingUpdate) → ((t : TxId) → committed_in log t ≡ false → f t ≡ g t) → AllByRecursion (λ w. f w.tx ≡ g w.tx) (filter (of_open log) ws)
open_writes log f g [] same = tt
open_writes log f g (w ∷ ws) same =
    cond_both (not (committed_in log w.tx)) (w ∷ filter (of_open log) ws) (filter (of_open log) ws) (AllByRecursion (λ v. f v.tx ≡ g v.tx))
    (λ e. (same w.tx (none (committed_in log w.tx) e), open_writes log f g ws same)) (λ e. open_writes log f g ws same)
  where
    none : (b : Bool) → not b ≡ true → b ≡ false
    none true e = absurd (both_ways false refl e)
    none false e = refl

pub goes_on : CheckpointsGoOn
goes_on shard [] more begins rise all lie = (sym (all_open (standing more)), refl)
  where
    all_open : (ws : List StandingUpdate) → filter (of_open []) ws ≡ ws
    all_open [] = refl
    all_open (w ∷ ws) = ap (λ vs. w ∷ vs) (all_open ws)
goes_on shard (r ∷ rs) more begins rise all lie =
    let log : List LogRecord = r ∷ rs in
    let checked : List LogRecord = check shard log in
    let base : KeyMap = committed_map log in
    let stands = stands_on shard log more begins all in (
      stands,
      ap (λ ws. fold_writes (committed_in (checked ++ more)) ws base) stands
          ∙ fold_same (committed_in (checked ++ more)) (committed_in (log ++ more)) (filter (of_open log) (standing (log ++ more))) base
          (open_writes log (committed_in (checked ++ more)) (committed_in (log ++ more)) (standing (log ++ more)) (λ t u.
          list_any-append (is_commit_of t) checked more ∙ ap (λ b. b || committed_in more t) (false_from_ne_true (committed_in checked t) (λ c. both_ways _ u (committed_before shard log t c)) ∙ sym u)
          ∙ sym (list_any-append (is_commit_of t) log more)))
          ∙ ap (fold_writes (committed_in (log ++ more)) (filter (of_open log) (standing (log ++ more))))
          (sym (ap (λ ws. fold_writes (committed_in log) ws (base_of log)) (standing_append 0 log more []) ∙ folds_on log (0 + length log) more (standing log) (base_of log) all))
          ∙ sym (bottom_first (committed_in log) (committed_in (log ++ more)) (standing (log ++ more)) (base_of log) rise
          (λ t c. list_any-append (is_commit_of t) log more ∙ ap (λ b. b || committed_in more t) c) lie),
    )
