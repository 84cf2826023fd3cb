-- What a checkpoint keeps, its own checkpoint keeps.
use Rattle.std.proofs.Common.{◌≡◌, ℕ, suc, ◌<◌, ◌≤◌, ⊎_elim, Bool, true, false, cond, not, ◌&&◌, ◌||◌, List, [], ◌∷◌, ◌++◌, append_assoc, length, Some, ◌==◌, refl, sym, ap, subst, ◌∙◌, eqb-true, arith}
use Rattle.std.specs.List.{AllByRecursion, filter}
use Rattle.std.proofs.lemmas.Bool.{both_ways, and_parts, and_from, cond_both, false_from_ne_true, or_cases, or_parts}
use Rattle.clv_base.specs.declared.names.TxId.{TxId}
use Rattle.clv_base.specs.declared.logs.LogRecord.{LogRecord}
use Rattle.clv_base.specs.declared.logs.LogRecord.TheVariants.{Update, Clr, Prepare, Commit, Abort, End, Restart, Add, Unadd, Forgotten, Check}
use Rattle.clv_base.specs.declared.changes.Change.TheVariants.{Sets, Adds}
use Rattle.clv_base.specs.Orders.{tx_same}
use Rattle.clv_base.specs.Logs.{StandingUpdate, is_commit_of, committed_in, prepared_in, prepare_of, has_standing, standing, standing_from, standing_after}
use Rattle.clv_base.specs.LogRules.{last_restart, some_parts}
use Rattle.clv_base.specs.Checkpoints.{is_away, is_left_open, stands_at, kept_if, kept_prepare, kept_of, kept_from, committed_map, no_restart, check}
use Rattle.clv_base.proofs.SameNames.{or_left, or_right, tx_self, tx_true}
use Rattle.law_base.proofs.Bools.{not_true}
use Rattle.law_base.proofs.Standing.{Falls, falls_after, all_without, has_write, has_filter}
use Rattle.log_checkpoint.specs.Laws.{IsFirst, IsNew, PreparesOnce, CheckpointsCheckOnce}
use Rattle.log_checkpoint.proofs.Leaving.{open_stand, first_stands}
use Rattle.log_checkpoint.proofs.Keeping.{committed_before, map_kept}

-- ---- what stands at a record's place is its transaction's

abbrev pub IsAt : ℕ → TxId → StandingUpdate → Type 0
IsAt n tx w = w.lsn ≡ n → w.tx ≡ tx

pub later_after : (m n : ℕ) (t : TxId) (r : LogRecord) (ws : List StandingUpdate) → m < n → AllByRecursion (IsAt m t) ws → AllByRecursion (IsAt m t) (standing_after n r ws)
later_after m n t (Update tx key before after) ws l all = (λ e. absurd (omega (arith, l, e)), all)
later_after m n t (Add tx key by) ws l all = (λ e. absurd (omega (arith, l, e)), all)
later_after m n t (Clr tx undo_next key after) ws l all = all_without (IsAt m t) tx ws all
later_after m n t (Unadd tx undo_next key by) ws l all = all_without (IsAt m t) tx ws all
later_after m n t (Prepare tx home listed) ws l all = all
later_after m n t (Commit tx parts) ws l all = all
later_after m n t (Abort tx) ws l all = all
later_after m n t (End tx) ws l all = all
later_after m n t (Restart run epoch) ws l all = all
later_after m n t Forgotten ws l all = all
later_after m n t (Check run epoch upto base) ws l all = all

pub later_from : (m n : ℕ) (t : TxId) (rs : List LogRecord) (ws : List StandingUpdate) → m < n → AllByRecursion (IsAt m t) ws → AllByRecursion (IsAt m t) (standing_from n rs ws)
later_from m n t [] ws l all = all
later_from m n t (r ∷ rs) ws l all = later_from m (suc n) t rs (standing_after n r ws) (omega (arith, l)) (later_after m n t r ws l all)

pub none_at : (n m : ℕ) (t : TxId) (ws : List StandingUpdate) → Falls n ws → n ≤ m → AllByRecursion (IsAt m t) ws
none_at n m t [] falls l = tt
none_at n m t (w ∷ ws) falls l = let f : w.lsn < n = falls.0 in (λ e. absurd (omega (arith, f, e, l)), none_at w.lsn m t ws falls.1 (omega (arith, f, l)))

-- where a write of one that isn't committed stands, it stands among those of such
pub open_at : (log : List LogRecord) (n : ℕ) (t : TxId) (ws : List StandingUpdate) → committed_in log t ≡ false → AllByRecursion (IsAt n t) ws → stands_at n ws ≡ true
    → stands_at n (filter (λ w. not (committed_in log w.tx)) ws) ≡ true
open_at log n t [] u all e = e
open_at log n t (w ∷ ws) u all e =
    cond_both (not (committed_in log w.tx)) (w ∷ filter (λ v. not (committed_in log v.tx)) ws) (filter (λ v. not (committed_in log v.tx)) ws) (λ vs. stands_at n vs ≡ true)
    (λ unshut. ⊎_elim (λ here. or_left _ _ here) (λ later. or_right (w.lsn == n) _ (open_at log n t ws u all.1 later)) (or_cases (w.lsn == n) (stands_at n ws) e))
    (λ shut.
    ⊎_elim
    (λ here. absurd (both_ways _ shut (ap not (ap (committed_in log) (all.0 (eqb-true w.lsn n here)) ∙ u))))
    (λ later. open_at log n t ws u all.1 later) (or_cases (w.lsn == n) (stands_at n ws) e))

-- ---- tests that have passed once

kept_yes : (a b : Bool) (r : LogRecord) → (a ≡ true → b ≡ true) → (c : LogRecord → LogRecord) → c Forgotten ≡ Forgotten → c r ≡ kept_if b r → c (kept_if a r) ≡ kept_if a r
kept_yes true b r so c none some = some ∙ ap (λ x. kept_if x r) (so refl)
kept_yes false b r so c none some = none

filter_twice : (log more : List LogRecord) (ps : List TxId) → ((t : TxId) → committed_in more t ≡ true → committed_in log t ≡ true)
    → filter (λ p. not (committed_in more p)) (filter (λ p. not (committed_in log p)) ps) ≡ filter (λ p. not (committed_in log p)) ps
filter_twice log more [] before = refl
filter_twice log more (p ∷ ps) before = at (committed_in log p) refl (filter_twice log more ps before)
  where
    at : (b : Bool) → committed_in log p ≡ b → filter (λ q. not (committed_in more q)) (filter (λ q. not (committed_in log q)) ps) ≡ filter (λ q. not (committed_in log q)) ps
        → filter (λ q. not (committed_in more q)) (cond (not b) (p ∷ filter (λ q. not (committed_in log q)) ps) (filter (λ q. not (committed_in log q)) ps))
        ≡ cond (not b) (p ∷ filter (λ q. not (committed_in log q)) ps) (filter (λ q. not (committed_in log q)) ps)
    at true e rest = rest
    at false e rest =
        ap (λ b. cond (not b) (p ∷ filter (λ q. not (committed_in more q)) (filter (λ q. not (committed_in log q)) ps)) (filter (λ q. not (committed_in more q)) (filter (λ q. not (committed_in log q)) ps)))
        (false_from_ne_true _ (λ c. both_ways _ e (before p c)))
        ∙ ap (λ qs. p ∷ qs) rest

-- ---- COMMITs and PREPAREs that are kept

pub commits_stay : (shard : ℕ) (log : List LogRecord) (n : ℕ) (rs : List LogRecord) (t : TxId) → is_away shard (prepare_of log t) ≡ true → committed_in rs t ≡ true → committed_in (kept_from shard log n rs) t ≡ true
commits_stay shard log n [] t away e = e
commits_stay shard log n (Commit tx parts ∷ rs) t away e =
    ⊎_elim
    (λ own. or_left _ _ (ap (λ b. is_commit_of t (kept_if (some_parts parts || b) (Commit tx parts))) (subst (λ u. is_away shard (prepare_of log u) ≡ true) (tx_true t tx own) away) ∙ ap (λ b. is_commit_of t (kept_if b (Commit tx parts))) (yes (some_parts parts)) ∙ own))
    (λ later. or_right (is_commit_of t (kept_of shard log n (Commit tx parts))) _ (commits_stay shard log (suc n) rs t away later)) (or_cases (tx_same t tx) (committed_in rs t) e)
  where
    yes : (b : Bool) → b || true ≡ true
    yes true = refl
    yes false = refl
commits_stay shard log n (Update tx key before after ∷ rs) t away e = or_right (is_commit_of t (kept_of shard log n (Update tx key before after))) _ (commits_stay shard log (suc n) rs t away e)
commits_stay shard log n (Add tx key by ∷ rs) t away e = or_right (is_commit_of t (kept_of shard log n (Add tx key by))) _ (commits_stay shard log (suc n) rs t away e)
commits_stay shard log n (Clr tx undo_next key after ∷ rs) t away e = or_right (is_commit_of t (kept_of shard log n (Clr tx undo_next key after))) _ (commits_stay shard log (suc n) rs t away e)
commits_stay shard log n (Unadd tx undo_next key by ∷ rs) t away e = or_right (is_commit_of t (kept_of shard log n (Unadd tx undo_next key by))) _ (commits_stay shard log (suc n) rs t away e)
commits_stay shard log n (Prepare tx home listed ∷ rs) t away e = or_right (is_commit_of t (kept_of shard log n (Prepare tx home listed))) _ (commits_stay shard log (suc n) rs t away e)
commits_stay shard log n (Abort tx ∷ rs) t away e = or_right (is_commit_of t (kept_of shard log n (Abort tx))) _ (commits_stay shard log (suc n) rs t away e)
commits_stay shard log n (End tx ∷ rs) t away e = or_right (is_commit_of t (kept_of shard log n (End tx))) _ (commits_stay shard log (suc n) rs t away e)
commits_stay shard log n (Restart run epoch ∷ rs) t away e = or_right (is_commit_of t (kept_of shard log n (Restart run epoch))) _ (commits_stay shard log (suc n) rs t away e)
commits_stay shard log n (Forgotten ∷ rs) t away e = or_right (is_commit_of t (kept_of shard log n Forgotten)) _ (commits_stay shard log (suc n) rs t away e)
commits_stay shard log n (Check run epoch upto base ∷ rs) t away e = or_right (is_commit_of t (kept_of shard log n (Check run epoch upto base))) _ (commits_stay shard log (suc n) rs t away e)

-- a record that is no PREPARE
pub other_if : (b : Bool) (r : LogRecord) (rs : List LogRecord) (t : TxId) → prepare_of (r ∷ rs) t ≡ prepare_of rs t → prepare_of (kept_if b r ∷ rs) t ≡ prepare_of rs t
other_if true r rs t e = e
other_if false r rs t e = refl

pub other_prepare : (shard : ℕ) (log : List LogRecord) (tx : TxId) (home : ℕ) (listed : List TxId) (b : Bool) (rs : List LogRecord) (t : TxId) → tx_same t tx ≡ false
    → prepare_of (kept_prepare shard log tx home listed b ∷ rs) t ≡ prepare_of rs t
other_prepare shard log tx home listed true rs t e = other_if _ (Prepare tx home []) rs t (ap (λ b. cond b (Some (home, [])) (prepare_of rs t)) e)
other_prepare shard log tx home listed false rs t e = other_if _ (Prepare tx home _) rs t (ap (λ b. cond b (Some (home, filter (λ p. not (committed_in log p)) listed)) (prepare_of rs t)) e)

-- of one that is committed, with another home
pub prepares_stay : (shard : ℕ) (log : List LogRecord) (n : ℕ) (rs : List LogRecord) (t : TxId) → committed_in log t ≡ true → is_away shard (prepare_of rs t) ≡ true → is_away shard (prepare_of (kept_from shard log n rs) t) ≡ true
prepares_stay shard log n [] t c e = e
prepares_stay shard log n (Prepare tx home listed ∷ rs) t c e = at (tx_same t tx) refl e (prepares_stay shard log (suc n) rs t c)
  where
    at : (b : Bool) → tx_same t tx ≡ b → is_away shard (cond b (Some (home, listed)) (prepare_of rs t)) ≡ true
        → (is_away shard (prepare_of rs t) ≡ true → is_away shard (prepare_of (kept_from shard log (suc n) rs) t) ≡ true)
        → is_away shard (prepare_of (kept_of shard log n (Prepare tx home listed) ∷ kept_from shard log (suc n) rs) t) ≡ true
    at false other e rest = ap (is_away shard) (other_prepare shard log tx home listed (committed_in log tx) (kept_from shard log (suc n) rs) t other) ∙ rest e
    at true own e rest =
        ap (λ b. is_away shard (prepare_of (kept_prepare shard log tx home listed b ∷ kept_from shard log (suc n) rs) t)) (subst (λ u. committed_in log u ≡ true) (tx_true t tx own) c)
        ∙ ap (λ b. is_away shard (prepare_of (kept_if b (Prepare tx home []) ∷ kept_from shard log (suc n) rs) t)) e
        ∙ ap (λ b. is_away shard (cond b (Some (home, [])) (prepare_of (kept_from shard log (suc n) rs) t))) own ∙ e
prepares_stay shard log n (Commit tx parts ∷ rs) t c e = ap (is_away shard) (other_if _ (Commit tx parts) (kept_from shard log (suc n) rs) t refl) ∙ prepares_stay shard log (suc n) rs t c e
prepares_stay shard log n (Update tx key before after ∷ rs) t c e = ap (is_away shard) (other_if _ (Update tx key before after) (kept_from shard log (suc n) rs) t refl) ∙ prepares_stay shard log (suc n) rs t c e
prepares_stay shard log n (Add tx key by ∷ rs) t c e = ap (is_away shard) (other_if _ (Add tx key by) (kept_from shard log (suc n) rs) t refl) ∙ prepares_stay shard log (suc n) rs t c e
prepares_stay shard log n (Abort tx ∷ rs) t c e = ap (is_away shard) (other_if _ (Abort tx) (kept_from shard log (suc n) rs) t refl) ∙ prepares_stay shard log (suc n) rs t c e
prepares_stay shard log n (Clr tx undo_next key after ∷ rs) t c e = prepares_stay shard log (suc n) rs t c e
prepares_stay shard log n (Unadd tx undo_next key by ∷ rs) t c e = prepares_stay shard log (suc n) rs t c e
prepares_stay shard log n (End tx ∷ rs) t c e = prepares_stay shard log (suc n) rs t c e
prepares_stay shard log n (Restart run epoch ∷ rs) t c e = prepares_stay shard log (suc n) rs t c e
prepares_stay shard log n (Forgotten ∷ rs) t c e = prepares_stay shard log (suc n) rs t c e
prepares_stay shard log n (Check run epoch upto base ∷ rs) t c e = prepares_stay shard log (suc n) rs t c e

-- the PREPARE of a transaction that had none before it
pub new_prepare : (front : List LogRecord) (tx : TxId) (home : ℕ) (listed : List TxId) (rest : List LogRecord) → prepared_in front tx ≡ false → prepare_of (front ++ Prepare tx home listed ∷ rest) tx ≡ Some (home, listed)
new_prepare [] tx home listed rest e = ap (λ b. cond b (Some (home, listed)) (prepare_of rest tx)) (tx_self tx)
new_prepare (Prepare u h ps ∷ rs) tx home listed rest e =
    let p = or_parts (tx_same tx u) (prepared_in rs tx) e in
    ap (λ b. cond b (Some (h, ps)) (prepare_of (rs ++ Prepare tx home listed ∷ rest) tx)) p.0 ∙ new_prepare rs tx home listed rest p.1
new_prepare (_ ∷ rs) tx home listed rest e = new_prepare rs tx home listed rest e

pub has_commit : (front : List LogRecord) (tx : TxId) (parts : List ℕ) (rest : List LogRecord) → committed_in (front ++ Commit tx parts ∷ rest) tx ≡ true
has_commit [] tx parts rest = or_left _ _ (tx_self tx)
has_commit (r ∷ rs) tx parts rest = or_right (is_commit_of tx r) _ (has_commit rs tx parts rest)

-- ---- one record, and all

module _ (shard : ℕ) (first : LogRecord) (later : List LogRecord) (begins : IsFirst first) where
  abbrev log : List LogRecord
  log = first ∷ later

  abbrev checked : List LogRecord
  checked = check shard log

  before : (t : TxId) → committed_in checked t ≡ true → committed_in log t ≡ true
  before t = committed_before shard log t

  unbefore : (t : TxId) → committed_in log t ≡ false → committed_in checked t ≡ false
  unbefore t e = false_from_ne_true _ (λ c. both_ways _ e (before t c))

  open_again : (t : TxId) → is_left_open log t ≡ true → is_left_open checked t ≡ true
  open_again t e =
      let p = and_parts (not (committed_in log t)) (has_standing log t) e in
      and_from _ _ (ap not (unbefore t (not_true _ p.0)))
      (ap (λ ws. has_write ws t) (open_stand shard log begins) ∙ has_filter (λ u. not (committed_in log u)) (standing log) t ∙ e)

  write_again : (n : ℕ) (r : LogRecord) (tx : TxId) (w : StandingUpdate) (rs : List LogRecord) (ws : List StandingUpdate) → Falls n ws → w.lsn ≡ n → w.tx ≡ tx → standing_from (suc n) rs (w ∷ ws) ≡ standing log
      → (not (committed_in log tx) && stands_at n (standing log)) ≡ true → (not (committed_in checked tx) && stands_at n (standing checked)) ≡ true
  write_again n r tx w rs ws falls at own e kept =
      let p = and_parts (not (committed_in log tx)) (stands_at n (standing log)) kept in
      let none : committed_in log tx ≡ false = not_true _ p.0 in
      let placed : AllByRecursion (IsAt n tx) (standing log) = subst (AllByRecursion (IsAt n tx)) e (later_from n (suc n) tx rs (w ∷ ws) (omega arith) ((λ _. own), none_at n n tx ws falls (omega arith))) in
      and_from _ _ (ap not (unbefore tx none)) (ap (stands_at n) (open_stand shard log begins) ∙ open_at log n tx (standing log) none placed p.1)

  prepare_again : (n : ℕ) (tx : TxId) (home : ℕ) (listed : List TxId) (b : Bool) → committed_in log tx ≡ b → prepare_of log tx ≡ Some (home, listed) → committed_in later tx ≡ committed_in log tx
      → kept_of shard checked n (kept_prepare shard log tx home listed b) ≡ kept_prepare shard log tx home listed b
  prepare_again n tx home listed true c own same = at (not (home == shard)) refl
    where
      at : (a : Bool) → not (home == shard) ≡ a → kept_of shard checked n (kept_if a (Prepare tx home [])) ≡ kept_if a (Prepare tx home [])
      at false e = refl
      at true e =
          ap (kept_prepare shard checked tx home [])
          (commits_stay shard log 1 later tx (ap (is_away shard) own ∙ e) (same ∙ c))
          ∙ ap (λ a. kept_if a (Prepare tx home [])) e
  prepare_again n tx home listed false c own same = at (is_left_open log tx) refl
    where
      cut : List TxId
      cut = filter (λ p. not (committed_in log p)) listed

      at : (a : Bool) → is_left_open log tx ≡ a → kept_of shard checked n (kept_if a (Prepare tx home cut)) ≡ kept_if a (Prepare tx home cut)
      at false e = refl
      at true e =
          ap (kept_prepare shard checked tx home cut) (unbefore tx c)
          ∙ ap (λ a. kept_if a (Prepare tx home (filter (λ p. not (committed_in checked p)) cut))) (open_again tx e)
          ∙ ap (Prepare tx home) (filter_twice log checked listed before)

  pub no_commit_first : (t : TxId) → committed_in later t ≡ committed_in log t
  no_commit_first t = at first begins
    where
      at : (r : LogRecord) → IsFirst r → committed_in later t ≡ committed_in (r ∷ later) t
      at (Restart run epoch) f = refl
      at (Check run epoch upto base) f = refl
      at (Update tx key left right) f = absurd f
      at (Add tx key by) f = absurd f
      at (Clr tx undo_next key after) f = absurd f
      at (Unadd tx undo_next key by) f = absurd f
      at (Prepare tx home listed) f = absurd f
      at (Commit tx parts) f = absurd f
      at (Abort tx) f = absurd f
      at (End tx) f = absurd f
      at Forgotten f = absurd f

  pub no_prepare_first : (t : TxId) → prepare_of later t ≡ prepare_of log t
  no_prepare_first t = at first begins
    where
      at : (r : LogRecord) → IsFirst r → prepare_of later t ≡ prepare_of (r ∷ later) t
      at (Restart run epoch) f = refl
      at (Check run epoch upto base) f = refl
      at (Update tx key left right) f = absurd f
      at (Add tx key by) f = absurd f
      at (Clr tx undo_next key after) f = absurd f
      at (Unadd tx undo_next key by) f = absurd f
      at (Prepare tx home listed) f = absurd f
      at (Commit tx parts) f = absurd f
      at (Abort tx) f = absurd f
      at (End tx) f = absurd f
      at Forgotten f = absurd f

  one_again : (front : List LogRecord) (n : ℕ) (r : LogRecord) (rs : List LogRecord) (ws : List StandingUpdate) → log ≡ front ++ r ∷ rs → IsNew front r → Falls n ws → standing_from (suc n) rs (standing_after n r ws) ≡ standing log
      → kept_of shard checked n (kept_of shard log n r) ≡ kept_of shard log n r
  one_again front n (Update tx key left right) rs ws is new falls e =
      kept_yes _ _ (Update tx key left right) (write_again n (Update tx key left right) tx (record { lsn = n; tx = tx; key = key; change = Sets left right }) rs ws falls refl refl e) (kept_of shard checked n) refl refl
  one_again front n (Add tx key by) rs ws is new falls e =
      kept_yes _ _ (Add tx key by) (write_again n (Add tx key by) tx (record { lsn = n; tx = tx; key = key; change = Adds by }) rs ws falls refl refl e) (kept_of shard checked n) refl refl
  one_again front n (Clr tx undo_next key after) rs ws is new falls e = refl
  one_again front n (Unadd tx undo_next key by) rs ws is new falls e = refl
  one_again front n (Prepare tx home listed) rs ws is new falls e =
      prepare_again n tx home listed (committed_in log tx) refl (ap (λ l. prepare_of l tx) is ∙ new_prepare front tx home listed rs new) (no_commit_first tx)
  one_again front n (Commit tx parts) rs ws is new falls e =
      kept_yes _ _ (Commit tx parts)
      (λ k. ⊎_elim (λ p. or_left _ _ p)
      (λ away. or_right (some_parts parts) _ (prepares_stay shard log 1 later tx (ap (λ l. committed_in l tx) is ∙ has_commit front tx parts rs) (ap (is_away shard) (no_prepare_first tx) ∙ away)))
      (or_cases (some_parts parts) (is_away shard (prepare_of log tx)) k))
      (kept_of shard checked n) refl refl
  one_again front n (Abort tx) rs ws is new falls e = kept_yes _ _ (Abort tx) (open_again tx) (kept_of shard checked n) refl refl
  one_again front n (End tx) rs ws is new falls e = refl
  one_again front n (Restart run epoch) rs ws is new falls e = refl
  one_again front n Forgotten rs ws is new falls e = refl
  one_again front n (Check run epoch upto base) rs ws is new falls e = refl

  all_again : (front : List LogRecord) (n : ℕ) (rs : List LogRecord) (ws : List StandingUpdate) → log ≡ front ++ rs → PreparesOnce front rs → Falls n ws → standing_from n rs ws ≡ standing log
      → kept_from shard checked n (kept_from shard log n rs) ≡ kept_from shard log n rs
  all_again front n [] ws is once falls e = refl
  all_again front n (r ∷ rs) ws is once falls e =
      ap (λ q. q ∷ kept_from shard checked (suc n) (kept_from shard log (suc n) rs)) (one_again front n r rs ws is once.0 falls e)
      ∙ ap (λ l. kept_of shard log n r ∷ l) (all_again (front ++ r ∷ []) (suc n) rs (standing_after n r ws) (is ∙ sym (append_assoc front (r ∷ []) rs)) once.1 (falls_after n r ws falls) e)

pub check_again : CheckpointsCheckOnce
check_again shard [] begins once = refl
check_again shard (r ∷ rs) begins once =
    let log : List LogRecord = r ∷ rs in
    let k = map_kept shard log begins in
    ap (λ m. Check (no_restart (last_restart (check shard log))).0 (no_restart (last_restart (check shard log))).1 (length (check shard log)) m ∷ kept_from shard (check shard log) 1 (kept_from shard log 1 rs)) k.0
    ∙ ap (λ p. Check p.0 p.1 (length (check shard log)) (committed_map log) ∷ kept_from shard (check shard log) 1 (kept_from shard log 1 rs)) k.1
    ∙ ap (λ n. Check (no_restart (last_restart log)).0 (no_restart (last_restart log)).1 n (committed_map log) ∷ kept_from shard (check shard log) 1 (kept_from shard log 1 rs)) k.2
    ∙ ap (λ l. Check (no_restart (last_restart log)).0 (no_restart (last_restart log)).1 (length log) (committed_map log) ∷ l)
    (all_again shard r rs begins (r ∷ []) 1 rs [] refl once.1 tt (first_stands r rs begins))
