-- Logs of which the checkpoints are equal stay so while the same records are added.
use Rattle.std.proofs.Common.{◌≡◌, ℕ, suc, ◌+◌, ◌<◌, ⊎_elim, Bool, true, false, cond, not, ◌&&◌, ◌||◌, List, [], ◌∷◌, ◌++◌, append_assoc, length, Option, Some, None, ◌==◌, refl, sym, ap, subst, ◌∙◌, arith}
use Rattle.std.specs.List.{AllByRecursion, filter}
use Rattle.std.proofs.lemmas.Bool.{both_ways, and_parts, and_from, cond_both, false_from_ne_true, or_cases}
use Rattle.std.proofs.lemmas.List.Folds.{list_any-append}
use Rattle.clv_base.specs.declared.names.TxId.{TxId}
use Rattle.clv_base.specs.declared.changes.Change.TheVariants.{Sets, Adds}
use Rattle.clv_base.specs.declared.logs.LogRecord.{LogRecord}
use Rattle.clv_base.specs.declared.logs.LogRecord.TheVariants.{Update, Clr, Prepare, Commit, Abort, End, Restart, Add, Unadd, Forgotten, Check}
use Rattle.clv_base.specs.Orders.{tx_same}
use Rattle.clv_base.specs.Logs.{StandingUpdate, is_commit_of, is_prepare_of, is_abort_of, committed_in, prepared_in, aborted_in, prepare_of, has_standing, standing, standing_from, standing_after}
use Rattle.clv_base.specs.LogRules.{last_restart, some_parts}
use Rattle.clv_base.specs.Checkpoints.{is_away, is_left_open, stands_at, kept_if, kept_prepare, kept_of, kept_from, committed_map, no_restart, check}
use Rattle.clv_base.proofs.SameNames.{or_left, or_right, tx_self, tx_true}
use Rattle.law_base.proofs.Bools.{not_true, same_truth}
use Rattle.law_base.proofs.Lists.{all_mono}
use Rattle.law_base.proofs.Logs.{no_prepare}
use Rattle.law_base.proofs.Standing.{Falls, falls_after, standing_append, has_write, has_filter, has_without}
use Rattle.log_checkpoint.specs.Laws.{IsFirst, IsNew, PreparesOnce, Moves, GoesOn, CheckpointsStayAlike}
use Rattle.log_checkpoint.proofs.Leaving.{first_stands, stands_before}
use Rattle.log_checkpoint.proofs.Keeping.{committed_before, same_length, map_kept}
use Rattle.log_checkpoint.proofs.Again.{IsAt, later_from, none_at, open_at, commits_stay, prepares_stay, new_prepare, has_commit, other_if, other_prepare, no_commit_first, no_prepare_first}
use Rattle.log_checkpoint.proofs.GoingOn.{of_open, stands_on, goes_on}

-- ---- the last RESTART of a longer log

abbrev pub over : Option (ℕ × ℕ) → Option (ℕ × ℕ) → Option (ℕ × ℕ)
over None o = o
over (Some p) o = Some p

over_none : (o : Option (ℕ × ℕ)) → o ≡ over o None
over_none None = refl
over_none (Some p) = refl

over_own : (p : ℕ × ℕ) (a b c : Option (ℕ × ℕ)) → c ≡ over a b → elim c [ Some q ↦ Some q | None ↦ Some p ] ≡ over a (elim b [ Some q ↦ Some q | None ↦ Some p ])
over_own p None None c e = ap (λ o. elim o [ Some q ↦ Some q | None ↦ Some p ]) e
over_own p None (Some b) c e = ap (λ o. elim o [ Some q ↦ Some q | None ↦ Some p ]) e
over_own p (Some a) b c e = ap (λ o. elim o [ Some q ↦ Some q | None ↦ Some p ]) e

pub last_more : (xs ys : List LogRecord) → last_restart (xs ++ ys) ≡ over (last_restart ys) (last_restart xs)
last_more [] ys = over_none (last_restart ys)
last_more (Restart run epoch ∷ rs) ys = over_own (run, epoch) (last_restart ys) (last_restart rs) (last_restart (rs ++ ys)) (last_more rs ys)
last_more (Check run epoch upto base ∷ rs) ys = over_own (run, epoch) (last_restart ys) (last_restart rs) (last_restart (rs ++ ys)) (last_more rs ys)
last_more (_ ∷ rs) ys = last_more rs ys

own_or : (p : ℕ × ℕ) (o : Option (ℕ × ℕ)) → elim o [ Some q ↦ Some q | None ↦ Some p ] ≡ Some (no_restart (elim o [ Some q ↦ Some q | None ↦ Some p ]))
own_or p None = refl
own_or p (Some q) = refl

pub first_last : (r : LogRecord) (rs : List LogRecord) → IsFirst r → last_restart (r ∷ rs) ≡ Some (no_restart (last_restart (r ∷ rs)))
first_last (Restart run epoch) rs f = own_or (run, epoch) (last_restart rs)
first_last (Check run epoch upto base) rs f = own_or (run, epoch) (last_restart rs)
first_last (Update tx key before after) rs f = absurd f
first_last (Add tx key by) rs f = absurd f
first_last (Clr tx undo_next key after) rs f = absurd f
first_last (Unadd tx undo_next key by) rs f = absurd f
first_last (Prepare tx home listed) rs f = absurd f
first_last (Commit tx parts) rs f = absurd f
first_last (Abort tx) rs f = absurd f
first_last (End tx) rs f = absurd f
first_last Forgotten rs f = absurd f

-- ---- the PREPARE of a longer log

abbrev pub first_of : {A : Type 0} → Option A → Option A → Option A
first_of None y = y
first_of (Some x) y = Some x

pub prepare_more : (xs ys : List LogRecord) (t : TxId) → prepare_of (xs ++ ys) t ≡ first_of (prepare_of xs t) (prepare_of ys t)
prepare_more [] ys t = refl
prepare_more (Prepare tx home listed ∷ rs) ys t = at (tx_same t tx) (prepare_more rs ys t)
  where
    at : (b : Bool) → prepare_of (rs ++ ys) t ≡ first_of (prepare_of rs t) (prepare_of ys t)
        → cond b (Some (home, listed)) (prepare_of (rs ++ ys) t) ≡ first_of (cond b (Some (home, listed)) (prepare_of rs t)) (prepare_of ys t)
    at true e = refl
    at false e = e
prepare_more (_ ∷ rs) ys t = prepare_more rs ys t

-- its home alone tells whether it is another shard's
abbrev home_by : Option (ℕ × List TxId) → Option ℕ
home_by None = None
home_by (Some p) = Some p.0

away_by : (shard : ℕ) (a b c : Option (ℕ × List TxId)) → home_by a ≡ home_by b → is_away shard (first_of a c) ≡ is_away shard (first_of b c)
away_by shard None None c e = refl
away_by shard (Some p) (Some q) c e = ap (λ (o : Option ℕ). elim o [ Some h ↦ not (h == shard) | None ↦ false ]) e
away_by shard None (Some q) c e = absurd cc
away_by shard (Some p) None c e = absurd cc

away_first : (shard : ℕ) (a c : Option (ℕ × List TxId)) → is_away shard a ≡ true → is_away shard (first_of a c) ≡ true
away_first shard None c e = absurd (both_ways false refl e)
away_first shard (Some p) c e = e

-- of one that is left open the PREPARE stays, with its home
homes_stay : (shard : ℕ) (log : List LogRecord) (n : ℕ) (rs : List LogRecord) (t : TxId) → committed_in log t ≡ false → is_left_open log t ≡ true → home_by (prepare_of (kept_from shard log n rs) t) ≡ home_by (prepare_of rs t)
homes_stay shard log n [] t u left = refl
homes_stay shard log n (Prepare tx home listed ∷ rs) t u left = at (tx_same t tx) refl (homes_stay shard log (suc n) rs t u left)
  where
    at : (b : Bool) → tx_same t tx ≡ b → home_by (prepare_of (kept_from shard log (suc n) rs) t) ≡ home_by (prepare_of rs t)
        → home_by (prepare_of (kept_of shard log n (Prepare tx home listed) ∷ kept_from shard log (suc n) rs) t) ≡ home_by (cond b (Some (home, listed)) (prepare_of rs t))
    at false other rest = ap home_by (other_prepare shard log tx home listed (committed_in log tx) (kept_from shard log (suc n) rs) t other) ∙ rest
    at true own rest =
        ap (λ b. home_by (prepare_of (kept_prepare shard log tx home listed b ∷ kept_from shard log (suc n) rs) t)) (subst (λ v. committed_in log v ≡ false) (tx_true t tx own) u)
        ∙ ap (λ b. home_by (prepare_of (kept_if b (Prepare tx home (filter (λ p. not (committed_in log p)) listed)) ∷ kept_from shard log (suc n) rs) t)) (subst (λ v. is_left_open log v ≡ true) (tx_true t tx own) left)
        ∙ ap (λ b. home_by (cond b (Some (home, filter (λ p. not (committed_in log p)) listed)) (prepare_of (kept_from shard log (suc n) rs) t))) own
homes_stay shard log n (Commit tx parts ∷ rs) t u left = ap home_by (other_if _ (Commit tx parts) (kept_from shard log (suc n) rs) t refl) ∙ homes_stay shard log (suc n) rs t u left
homes_stay shard log n (Update tx key before after ∷ rs) t u left = ap home_by (other_if _ (Update tx key before after) (kept_from shard log (suc n) rs) t refl) ∙ homes_stay shard log (suc n) rs t u left
homes_stay shard log n (Add tx key by ∷ rs) t u left = ap home_by (other_if _ (Add tx key by) (kept_from shard log (suc n) rs) t refl) ∙ homes_stay shard log (suc n) rs t u left
homes_stay shard log n (Abort tx ∷ rs) t u left = ap home_by (other_if _ (Abort tx) (kept_from shard log (suc n) rs) t refl) ∙ homes_stay shard log (suc n) rs t u left
homes_stay shard log n (Clr tx undo_next key after ∷ rs) t u left = homes_stay shard log (suc n) rs t u left
homes_stay shard log n (Unadd tx undo_next key by ∷ rs) t u left = homes_stay shard log (suc n) rs t u left
homes_stay shard log n (End tx ∷ rs) t u left = homes_stay shard log (suc n) rs t u left
homes_stay shard log n (Restart run epoch ∷ rs) t u left = homes_stay shard log (suc n) rs t u left
homes_stay shard log n (Forgotten ∷ rs) t u left = homes_stay shard log (suc n) rs t u left
homes_stay shard log n (Check run epoch upto base ∷ rs) t u left = homes_stay shard log (suc n) rs t u left

-- of one that isn't committed, nor left open, none stays
pub none_stays : (shard : ℕ) (log : List LogRecord) (n : ℕ) (rs : List LogRecord) (t : TxId) → committed_in log t ≡ false → is_left_open log t ≡ false → prepare_of (kept_from shard log n rs) t ≡ None
none_stays shard log n [] t u left = refl
none_stays shard log n (Prepare tx home listed ∷ rs) t u left = at (tx_same t tx) refl (none_stays shard log (suc n) rs t u left)
  where
    at : (b : Bool) → tx_same t tx ≡ b → prepare_of (kept_from shard log (suc n) rs) t ≡ None → prepare_of (kept_of shard log n (Prepare tx home listed) ∷ kept_from shard log (suc n) rs) t ≡ None
    at false other rest = other_prepare shard log tx home listed (committed_in log tx) (kept_from shard log (suc n) rs) t other ∙ rest
    at true own rest =
        ap (λ b. prepare_of (kept_prepare shard log tx home listed b ∷ kept_from shard log (suc n) rs) t) (subst (λ v. committed_in log v ≡ false) (tx_true t tx own) u)
        ∙ ap (λ b. prepare_of (kept_if b (Prepare tx home (filter (λ p. not (committed_in log p)) listed)) ∷ kept_from shard log (suc n) rs) t) (subst (λ v. is_left_open log v ≡ false) (tx_true t tx own) left)
        ∙ rest
none_stays shard log n (Commit tx parts ∷ rs) t u left = other_if _ (Commit tx parts) (kept_from shard log (suc n) rs) t refl ∙ none_stays shard log (suc n) rs t u left
none_stays shard log n (Update tx key before after ∷ rs) t u left = other_if _ (Update tx key before after) (kept_from shard log (suc n) rs) t refl ∙ none_stays shard log (suc n) rs t u left
none_stays shard log n (Add tx key by ∷ rs) t u left = other_if _ (Add tx key by) (kept_from shard log (suc n) rs) t refl ∙ none_stays shard log (suc n) rs t u left
none_stays shard log n (Abort tx ∷ rs) t u left = other_if _ (Abort tx) (kept_from shard log (suc n) rs) t refl ∙ none_stays shard log (suc n) rs t u left
none_stays shard log n (Clr tx undo_next key after ∷ rs) t u left = none_stays shard log (suc n) rs t u left
none_stays shard log n (Unadd tx undo_next key by ∷ rs) t u left = none_stays shard log (suc n) rs t u left
none_stays shard log n (End tx ∷ rs) t u left = none_stays shard log (suc n) rs t u left
none_stays shard log n (Restart run epoch ∷ rs) t u left = none_stays shard log (suc n) rs t u left
none_stays shard log n (Forgotten ∷ rs) t u left = none_stays shard log (suc n) rs t u left
none_stays shard log n (Check run epoch upto base ∷ rs) t u left = none_stays shard log (suc n) rs t u left

-- ---- what stands of those that write no more

abbrev Writer : (TxId → Bool) → LogRecord → Type 0
Writer f (Update tx key before after) = f tx ≡ false
Writer f (Add tx key by) = f tx ≡ false
Writer f _ = Unit {0}

old_after : (f : TxId → Bool) (t : TxId) (n : ℕ) (r : LogRecord) (ws : List StandingUpdate) → f t ≡ true → Writer f r → has_write (standing_after n r ws) t ≡ true → has_write ws t ≡ true
old_after f t n (Update tx key before after) ws holds out e = ⊎_elim (λ own. absurd (both_ways _ out (subst (λ v. f v ≡ true) (tx_true t tx own) holds))) (λ old. old) (or_cases (tx_same t tx) (has_write ws t) e)
old_after f t n (Add tx key by) ws holds out e = ⊎_elim (λ own. absurd (both_ways _ out (subst (λ v. f v ≡ true) (tx_true t tx own) holds))) (λ old. old) (or_cases (tx_same t tx) (has_write ws t) e)
old_after f t n (Clr tx undo_next key after) ws holds out e = has_without t tx ws e
old_after f t n (Unadd tx undo_next key by) ws holds out e = has_without t tx ws e
old_after f t n (Prepare tx home listed) ws holds out e = e
old_after f t n (Commit tx parts) ws holds out e = e
old_after f t n (Abort tx) ws holds out e = e
old_after f t n (End tx) ws holds out e = e
old_after f t n (Restart run epoch) ws holds out e = e
old_after f t n Forgotten ws holds out e = e
old_after f t n (Check run epoch upto base) ws holds out e = e

old_from : (f : TxId → Bool) (t : TxId) (n : ℕ) (rs : List LogRecord) (ws : List StandingUpdate) → f t ≡ true → AllByRecursion (Writer f) rs → has_write (standing_from n rs ws) t ≡ true → has_write ws t ≡ true
old_from f t n [] ws holds out e = e
old_from f t n (r ∷ rs) ws holds out e = old_after f t n r ws holds out.0 (old_from f t (suc n) rs (standing_after n r ws) holds out.1 e)

fewer_stand : (f : StandingUpdate → Bool) (n : ℕ) (ws : List StandingUpdate) → stands_at n (filter f ws) ≡ true → stands_at n ws ≡ true
fewer_stand f n [] e = e
fewer_stand f n (w ∷ ws) e =
    cond_both (f w) (w ∷ filter f ws) (filter f ws) (λ vs. stands_at n vs ≡ true → stands_at n (w ∷ ws) ≡ true)
    (λ in_ h. ⊎_elim (λ here. or_left _ _ here) (λ later. or_right (w.lsn == n) _ (fewer_stand f n ws later)) (or_cases (w.lsn == n) (stands_at n (filter f ws)) h))
    (λ out h. or_right (w.lsn == n) _ (fewer_stand f n ws h)) e

pub has_abort : (front : List LogRecord) (tx : TxId) (rest : List LogRecord) → aborted_in (front ++ Abort tx ∷ rest) tx ≡ true
has_abort [] tx rest = or_left _ _ (tx_self tx)
has_abort (r ∷ rs) tx rest = or_right (is_abort_of tx r) _ (has_abort rs tx rest)

pub has_prepare : (front : List LogRecord) (tx : TxId) (home : ℕ) (listed : List TxId) (rest : List LogRecord) → prepared_in (front ++ Prepare tx home listed ∷ rest) tx ≡ true
has_prepare [] tx home listed rest = or_left _ _ (tx_self tx)
has_prepare (r ∷ rs) tx home listed rest = or_right (is_prepare_of tx r) _ (has_prepare rs tx home listed rest)

-- what was kept is looked at again: it goes where it must, and what stays is as it must be
kept_through : (a b x : Bool) (r : LogRecord) → (a ≡ false → b ≡ false) → (a ≡ true → x ≡ b) → (c : LogRecord → LogRecord) → c Forgotten ≡ Forgotten → c r ≡ kept_if x r → c (kept_if a r) ≡ kept_if b r
kept_through true b x r out stay c none some = some ∙ ap (λ y. kept_if y r) (stay refl)
kept_through false b x r out stay c none some = none ∙ sym (ap (λ y. kept_if y r) (out refl))

-- ---- a log, its checkpoint, and the same records behind both

module _ (shard : ℕ) (first : LogRecord) (later : List LogRecord) (more : List LogRecord) (begins : IsFirst first) (goes : AllByRecursion (GoesOn shard (first ∷ later)) more) where
  abbrev log : List LogRecord
  log = first ∷ later

  abbrev checked : List LogRecord
  checked = check shard log

  abbrev long : List LogRecord
  long = log ++ more

  abbrev short : List LogRecord
  short = checked ++ more

  pub moves_all : AllByRecursion (Moves log) more
  moves_all = all_mono (GoesOn shard log) (Moves log) one more goes
    where
      one : (r : LogRecord) → GoesOn shard log r → Moves log r
      one (Update tx key before after) g = g.0
      one (Add tx key by) g = g.0
      one (Clr tx undo_next key after) g = g
      one (Unadd tx undo_next key by) g = g
      one (Prepare tx home listed) g = tt
      one (Commit tx parts) g = tt
      one (Abort tx) g = tt
      one (End tx) g = tt
      one (Restart run epoch) g = tt
      one Forgotten g = tt
      one (Check run epoch upto base) g = tt

  pub unprepared_write : AllByRecursion (Writer (prepared_in log)) more
  unprepared_write = all_mono (GoesOn shard log) (Writer (prepared_in log)) one more goes
    where
      one : (r : LogRecord) → GoesOn shard log r → Writer (prepared_in log) r
      one (Update tx key before after) g = g.1
      one (Add tx key by) g = g.1
      one (Clr tx undo_next key after) g = tt
      one (Unadd tx undo_next key by) g = tt
      one (Prepare tx home listed) g = tt
      one (Commit tx parts) g = tt
      one (Abort tx) g = tt
      one (End tx) g = tt
      one (Restart run epoch) g = tt
      one Forgotten g = tt
      one (Check run epoch upto base) g = tt

  pub unaborted_write : AllByRecursion (Writer (aborted_in log)) more
  unaborted_write = all_mono (GoesOn shard log) (Writer (aborted_in log)) one more goes
    where
      one : (r : LogRecord) → GoesOn shard log r → Writer (aborted_in log) r
      one (Update tx key before after) g = g.2
      one (Add tx key by) g = g.2
      one (Clr tx undo_next key after) g = tt
      one (Unadd tx undo_next key by) g = tt
      one (Prepare tx home listed) g = tt
      one (Commit tx parts) g = tt
      one (Abort tx) g = tt
      one (End tx) g = tt
      one (Restart run epoch) g = tt
      one Forgotten g = tt
      one (Check run epoch upto base) g = tt

  -- no PREPARE comes of one that is committed or prepared in the log
  no_more_prepares : (f : TxId → Bool) (t : TxId) → f t ≡ true → ((tx : TxId) (home : ℕ) (listed : List TxId) → GoesOn shard log (Prepare tx home listed) → f tx ≡ false) → (rs : List LogRecord) → AllByRecursion (GoesOn shard log) rs → prepared_in rs t ≡ false
  no_more_prepares f t holds out [] all = refl
  no_more_prepares f t holds out (Prepare tx home listed ∷ rs) all =
      ap (λ b. b || prepared_in rs t) (false_from_ne_true (tx_same t tx) (λ own. both_ways _ (out tx home listed all.0) (subst (λ v. f v ≡ true) (tx_true t tx own) holds))) ∙ no_more_prepares f t holds out rs all.1
  no_more_prepares f t holds out (Update tx key before after ∷ rs) all = no_more_prepares f t holds out rs all.1
  no_more_prepares f t holds out (Add tx key by ∷ rs) all = no_more_prepares f t holds out rs all.1
  no_more_prepares f t holds out (Clr tx undo_next key after ∷ rs) all = no_more_prepares f t holds out rs all.1
  no_more_prepares f t holds out (Unadd tx undo_next key by ∷ rs) all = no_more_prepares f t holds out rs all.1
  no_more_prepares f t holds out (Commit tx parts ∷ rs) all = no_more_prepares f t holds out rs all.1
  no_more_prepares f t holds out (Abort tx ∷ rs) all = no_more_prepares f t holds out rs all.1
  no_more_prepares f t holds out (End tx ∷ rs) all = no_more_prepares f t holds out rs all.1
  no_more_prepares f t holds out (Restart run epoch ∷ rs) all = no_more_prepares f t holds out rs all.1
  no_more_prepares f t holds out (Forgotten ∷ rs) all = no_more_prepares f t holds out rs all.1
  no_more_prepares f t holds out (Check run epoch upto base ∷ rs) all = no_more_prepares f t holds out rs all.1

  -- a COMMIT comes of one that is prepared for another home only where a write of it stands
  commit_fits : (t : TxId) → prepared_in log t ≡ true → has_standing log t ≡ false → (rs : List LogRecord) → AllByRecursion (GoesOn shard log) rs → committed_in rs t ≡ true → is_away shard (prepare_of log t) ≡ false
  commit_fits t p n [] all e = absurd (both_ways false refl e)
  commit_fits t p n (Commit tx parts ∷ rs) all e =
      ⊎_elim
      (λ own. let same = tx_true t tx own in subst (λ v. is_away shard (prepare_of log v) ≡ false) (sym same) ((all.0).1 (subst (λ v. prepared_in log v ≡ true) same p) (subst (λ v. has_standing log v ≡ false) same n)))
      (λ rest. commit_fits t p n rs all.1 rest) (or_cases (tx_same t tx) (committed_in rs t) e)
  commit_fits t p n (Update tx key before after ∷ rs) all e = commit_fits t p n rs all.1 e
  commit_fits t p n (Add tx key by ∷ rs) all e = commit_fits t p n rs all.1 e
  commit_fits t p n (Clr tx undo_next key after ∷ rs) all e = commit_fits t p n rs all.1 e
  commit_fits t p n (Unadd tx undo_next key by ∷ rs) all e = commit_fits t p n rs all.1 e
  commit_fits t p n (Prepare tx home listed ∷ rs) all e = commit_fits t p n rs all.1 e
  commit_fits t p n (Abort tx ∷ rs) all e = commit_fits t p n rs all.1 e
  commit_fits t p n (End tx ∷ rs) all e = commit_fits t p n rs all.1 e
  commit_fits t p n (Restart run epoch ∷ rs) all e = commit_fits t p n rs all.1 e
  commit_fits t p n (Forgotten ∷ rs) all e = commit_fits t p n rs all.1 e
  commit_fits t p n (Check run epoch upto base ∷ rs) all e = commit_fits t p n rs all.1 e

  -- ---- who is committed, and of whom what stands

  pub same_commit : (t : TxId) → committed_in log t ≡ false → committed_in short t ≡ committed_in long t
  same_commit t u =
      list_any-append (is_commit_of t) checked more
      ∙ ap (λ b. b || committed_in more t) (false_from_ne_true (committed_in checked t) (λ c. both_ways _ u (committed_before shard log t c)) ∙ sym u)
      ∙ sym (list_any-append (is_commit_of t) log more)

  long_commit : (t : TxId) → committed_in log t ≡ true → committed_in long t ≡ true
  long_commit t c = list_any-append (is_commit_of t) log more ∙ or_left _ _ c

  was_open : (t : TxId) → committed_in long t ≡ false → committed_in log t ≡ false
  was_open t u = false_from_ne_true _ (λ c. both_ways _ u (long_commit t c))

  short_stands : standing short ≡ filter (of_open log) (standing long)
  short_stands = stands_on shard log more begins moves_all

  long_stands : standing long ≡ standing_from (0 + length log) more (standing log)
  long_stands = standing_append 0 log more []

  same_open : (t : TxId) → is_left_open short t ≡ is_left_open long t
  same_open t = at (committed_in log t) refl
    where
      none : (b : Bool) → b && false ≡ false
      none true = refl
      none false = refl

      has : has_standing short t ≡ (not (committed_in log t) && has_write (standing long) t)
      has = ap (λ ws. has_write ws t) short_stands ∙ has_filter (λ v. not (committed_in log v)) (standing long) t

      at : (b : Bool) → committed_in log t ≡ b → is_left_open short t ≡ is_left_open long t
      at true c =
          ap (λ b. not (committed_in short t) && b) (has ∙ ap (λ b. not b && has_write (standing long) t) c) ∙ none (not (committed_in short t))
          ∙ sym (ap (λ b. not b && has_standing long t) (long_commit t c))
      at false u =
          ap (λ b. not b && has_standing short t) (same_commit t u)
          ∙ ap (λ b. not (committed_in long t) && b) (has ∙ ap (λ b. not b && has_write (standing long) t) u)

  -- one that is closed or aborted in the log has no new writes
  pub old_standing : (f : TxId → Bool) (t : TxId) → f t ≡ true → AllByRecursion (Writer f) more → has_standing long t ≡ true → has_standing log t ≡ true
  old_standing f t holds out e = old_from f t (0 + length log) more (standing log) holds out (ap (λ ws. has_write ws t) (sym long_stands) ∙ e)

  -- ---- writes

  placed_long : (n : ℕ) (tx : TxId) → n < length log → AllByRecursion (IsAt n tx) (standing log) → AllByRecursion (IsAt n tx) (standing long)
  placed_long n tx l all = subst (AllByRecursion (IsAt n tx)) (sym long_stands) (later_from n (0 + length log) tx more (standing log) (omega (arith, l)) all)

  same_place : (n : ℕ) (tx : TxId) → committed_in log tx ≡ false → AllByRecursion (IsAt n tx) (standing long)
      → (not (committed_in short tx) && stands_at n (standing short)) ≡ (not (committed_in long tx) && stands_at n (standing long))
  same_place n tx u placed =
      ap (λ b. not b && stands_at n (standing short)) (same_commit tx u)
      ∙ ap (λ b. not (committed_in long tx) && b)
      (ap (stands_at n) short_stands ∙ same_truth _ _ (fewer_stand (of_open log) n (standing long)) (open_at log n tx (standing long) u placed))

  write_through : (n : ℕ) (tx : TxId) (r : LogRecord) → n < length log → AllByRecursion (IsAt n tx) (standing log)
      → kept_of shard short n r ≡ kept_if (not (committed_in short tx) && stands_at n (standing short)) r
      → kept_of shard short n (kept_if (not (committed_in log tx) && stands_at n (standing log)) r) ≡ kept_if (not (committed_in long tx) && stands_at n (standing long)) r
  write_through n tx r l placed own =
      kept_through _ _ (not (committed_in short tx) && stands_at n (standing short)) r
      (λ none. false_from_ne_true _ (λ e.
      let p = and_parts (not (committed_in long tx)) (stands_at n (standing long)) e in
      both_ways _ none (and_from _ _ (ap not (was_open tx (not_true _ p.0)))
      (stands_before n (0 + length log) more (standing log) (omega (arith, l)) (ap (stands_at n) (sym long_stands) ∙ p.1)))))
      (λ some. same_place n tx (not_true _ (and_parts (not (committed_in log tx)) (stands_at n (standing log)) some).0) (placed_long n tx l placed))
      (kept_of shard short n) refl own

  -- ---- PREPAREs

  pub cut_on : (listed : List TxId) → filter (λ p. not (committed_in short p)) (filter (λ p. not (committed_in log p)) listed) ≡ filter (λ p. not (committed_in long p)) listed
  cut_on [] = refl
  cut_on (p ∷ ps) = at (committed_in log p) refl (cut_on ps)
    where
      at : (b : Bool) → committed_in log p ≡ b → filter (λ q. not (committed_in short q)) (filter (λ q. not (committed_in log q)) ps) ≡ filter (λ q. not (committed_in long q)) ps
          → filter (λ q. not (committed_in short q)) (cond (not b) (p ∷ filter (λ q. not (committed_in log q)) ps) (filter (λ q. not (committed_in log q)) ps))
          ≡ cond (not (committed_in long p)) (p ∷ filter (λ q. not (committed_in long q)) ps) (filter (λ q. not (committed_in long q)) ps)
      at true c rest = rest ∙ sym (ap (λ b. cond (not b) (p ∷ filter (λ q. not (committed_in long q)) ps) (filter (λ q. not (committed_in long q)) ps)) (long_commit p c))
      at false u rest =
          ap (λ b. cond (not b) (p ∷ filter (λ q. not (committed_in short q)) (filter (λ q. not (committed_in log q)) ps)) (filter (λ q. not (committed_in short q)) (filter (λ q. not (committed_in log q)) ps))) (same_commit p u)
          ∙ ap (λ l. cond (not (committed_in long p)) (p ∷ l) l) rest

  pub list_on : (listed : List TxId) → AllByRecursion (λ p. committed_in log p ≡ false) listed → filter (λ p. not (committed_in short p)) listed ≡ filter (λ p. not (committed_in long p)) listed
  list_on [] all = refl
  list_on (p ∷ ps) all =
      ap (λ b. cond (not b) (p ∷ filter (λ q. not (committed_in short q)) ps) (filter (λ q. not (committed_in short q)) ps)) (same_commit p all.0)
      ∙ ap (λ l. cond (not (committed_in long p)) (p ∷ l) l) (list_on ps all.1)

  open_prepare : (tx : TxId) (home : ℕ) (short_list long_list : List TxId) → committed_in log tx ≡ false → filter (λ p. not (committed_in short p)) short_list ≡ filter (λ p. not (committed_in long p)) long_list
      → kept_prepare shard short tx home short_list (committed_in short tx) ≡ kept_prepare shard long tx home long_list (committed_in long tx)
  open_prepare tx home short_list long_list u lists = ap (kept_prepare shard short tx home short_list) (same_commit tx u) ∙ at (committed_in long tx)
    where
      at : (b : Bool) → kept_prepare shard short tx home short_list b ≡ kept_prepare shard long tx home long_list b
      at true = refl
      at false = ap (λ b. kept_if b (Prepare tx home (filter (λ p. not (committed_in short p)) short_list))) (same_open tx) ∙ ap (λ l. kept_if (is_left_open long tx) (Prepare tx home l)) lists

  prepare_through : (n : ℕ) (tx : TxId) (home : ℕ) (listed : List TxId) (b : Bool) → committed_in log tx ≡ b → prepare_of log tx ≡ Some (home, listed) → prepared_in log tx ≡ true
      → kept_of shard short n (kept_prepare shard log tx home listed b) ≡ kept_prepare shard long tx home listed (committed_in long tx)
  prepare_through n tx home listed true c own p = at (not (home == shard)) refl ∙ sym (ap (kept_prepare shard long tx home listed) (long_commit tx c))
    where
      at : (a : Bool) → not (home == shard) ≡ a → kept_of shard short n (kept_if a (Prepare tx home [])) ≡ kept_if (not (home == shard)) (Prepare tx home [])
      at false e = sym (ap (λ a. kept_if a (Prepare tx home [])) e)
      at true e =
          ap (kept_prepare shard short tx home [])
          (list_any-append (is_commit_of tx) checked more ∙ or_left _ _ (commits_stay shard log 1 later tx (ap (is_away shard) own ∙ e) (no_commit_first shard first later begins tx ∙ c)))
  prepare_through n tx home listed false u own p = at (is_left_open log tx) refl
    where
      cut : List TxId
      cut = filter (λ q. not (committed_in log q)) listed

      gone : is_left_open log tx ≡ false → (b : Bool) → committed_in long tx ≡ b → Forgotten ≡ kept_prepare shard long tx home listed b
      gone left true c =
          sym (ap (λ a. kept_if a (Prepare tx home []))
          (ap (is_away shard) (sym own) ∙ commit_fits tx p (none left) more goes (⊎_elim (λ k. absurd (both_ways _ u k)) (λ k. k) (or_cases (committed_in log tx) (committed_in more tx) (sym (list_any-append (is_commit_of tx) log more) ∙ c)))))
        where
          none : is_left_open log tx ≡ false → has_standing log tx ≡ false
          none l = false_from_ne_true _ (λ s. both_ways _ l (and_from _ _ (ap not u) s))
      gone left false c =
          sym (ap (λ a. kept_if a (Prepare tx home (filter (λ q. not (committed_in long q)) listed)))
          (false_from_ne_true _ (λ e. both_ways _ left (and_from _ _ (ap not u) (old_standing (prepared_in log) tx p unprepared_write (and_parts (not (committed_in long tx)) (has_standing long tx) e).1)))))

      at : (a : Bool) → is_left_open log tx ≡ a → kept_of shard short n (kept_if a (Prepare tx home (filter (λ q. not (committed_in log q)) listed))) ≡ kept_prepare shard long tx home listed (committed_in long tx)
      at false left = gone left (committed_in long tx) refl
      at true left = open_prepare tx home (filter (λ q. not (committed_in log q)) listed) listed u (cut_on listed)

  -- the home of a later COMMIT's PREPARE
  later_away : (tx : TxId) → committed_in log tx ≡ false → (prepared_in log tx ≡ true → has_standing log tx ≡ false → is_away shard (prepare_of log tx) ≡ false)
      → is_away shard (prepare_of short tx) ≡ is_away shard (prepare_of long tx)
  later_away tx u fits =
      ap (is_away shard) (prepare_more checked more tx) ∙ by_open (is_left_open log tx) refl ∙ sym (ap (is_away shard) (prepare_more log more tx))
    where
      by_prepared : is_left_open log tx ≡ false → (b : Bool) → prepared_in log tx ≡ b → is_away shard (first_of None (prepare_of more tx)) ≡ is_away shard (first_of (prepare_of log tx) (prepare_of more tx))
      by_prepared left false e = sym (ap (λ o. is_away shard (first_of o (prepare_of more tx))) (no_prepare log tx e))
      by_prepared left true e =
          ap (λ o. is_away shard (first_of None o)) (no_prepare more tx (no_more_prepares (prepared_in log) tx e (λ t h l g. g.1) more goes))
          ∙ sym (ap (λ o. is_away shard (first_of (prepare_of log tx) o)) (no_prepare more tx (no_more_prepares (prepared_in log) tx e (λ t h l g. g.1) more goes)) ∙ alone (prepare_of log tx)
          (fits e (false_from_ne_true _ (λ s. both_ways _ left (and_from _ _ (ap not u) s)))))
        where
          alone : (o : Option (ℕ × List TxId)) → is_away shard o ≡ false → is_away shard (first_of o None) ≡ is_away shard (first_of None None)
          alone None f = refl
          alone (Some q) f = f

      by_open : (a : Bool) → is_left_open log tx ≡ a → is_away shard (first_of (prepare_of checked tx) (prepare_of more tx)) ≡ is_away shard (first_of (prepare_of log tx) (prepare_of more tx))
      by_open true left = away_by shard (prepare_of checked tx) (prepare_of log tx) (prepare_of more tx) (homes_stay shard log 1 later tx u left ∙ ap home_by (no_prepare_first shard first later begins tx))
      by_open false left = ap (λ o. is_away shard (first_of o (prepare_of more tx))) (none_stays shard log 1 later tx u left) ∙ by_prepared left (prepared_in log tx) refl

  -- that of a COMMIT in the log
  same_prepare : (tx : TxId) → committed_in log tx ≡ true → prepare_of long tx ≡ prepare_of log tx
  same_prepare tx c =
      prepare_more log more tx ∙ ap (first_of (prepare_of log tx)) (no_prepare more tx (no_more_prepares (committed_in log) tx c (λ t h l g. g.0) more goes)) ∙ alone (prepare_of log tx)
    where
      alone : (o : Option (ℕ × List TxId)) → first_of o None ≡ o
      alone None = refl
      alone (Some q) = refl

  -- ---- a record of the log

  one_front : (front : List LogRecord) (n : ℕ) (r : LogRecord) (rs : List LogRecord) (ws : List StandingUpdate) → log ≡ front ++ r ∷ rs → IsNew front r → Falls n ws → standing_from (suc n) rs (standing_after n r ws) ≡ standing log → n < length log
      → kept_of shard short n (kept_of shard log n r) ≡ kept_of shard long n r
  one_front front n (Update tx key before after) rs ws is new falls e l =
      write_through n tx (Update tx key before after) l (subst (AllByRecursion (IsAt n tx)) e (later_from n (suc n) tx rs (record { lsn = n; tx = tx; key = key; change = Sets before after } ∷ ws) (omega arith) ((λ _. refl), none_at n n tx ws falls (omega arith)))) refl
  one_front front n (Add tx key by) rs ws is new falls e l =
      write_through n tx (Add tx key by) l (subst (AllByRecursion (IsAt n tx)) e (later_from n (suc n) tx rs (record { lsn = n; tx = tx; key = key; change = Adds by } ∷ ws) (omega arith) ((λ _. refl), none_at n n tx ws falls (omega arith)))) refl
  one_front front n (Clr tx undo_next key after) rs ws is new falls e l = refl
  one_front front n (Unadd tx undo_next key by) rs ws is new falls e l = refl
  one_front front n (Prepare tx home listed) rs ws is new falls e l =
      prepare_through n tx home listed (committed_in log tx) refl (ap (λ q. prepare_of q tx) is ∙ new_prepare front tx home listed rs new) (ap (λ q. prepared_in q tx) is ∙ has_prepare front tx home listed rs)
  one_front front n (Commit tx parts) rs ws is new falls e l =
      let c : committed_in log tx ≡ true = ap (λ q. committed_in q tx) is ∙ has_commit front tx parts rs in
      let same : (some_parts parts || is_away shard (prepare_of long tx)) ≡ (some_parts parts || is_away shard (prepare_of log tx)) = ap (λ o. some_parts parts || is_away shard o) (same_prepare tx c) in
      kept_through _ _ (some_parts parts || is_away shard (prepare_of short tx)) (Commit tx parts) (λ none. same ∙ none)
      (λ some.
      ⊎_elim (λ p. or_left _ _ p)
      (λ away. or_right (some_parts parts) _ (ap (is_away shard) (prepare_more checked more tx) ∙ away_first shard (prepare_of checked tx) (prepare_of more tx)
      (prepares_stay shard log 1 later tx c (ap (is_away shard) (no_prepare_first shard first later begins tx) ∙ away))))
      (or_cases (some_parts parts) (is_away shard (prepare_of log tx)) some) ∙ sym (same ∙ some))
      (kept_of shard short n) refl refl
  one_front front n (Abort tx) rs ws is new falls e l =
      let a : aborted_in log tx ≡ true = ap (λ q. aborted_in q tx) is ∙ has_abort front tx rs in
      kept_through _ _ (is_left_open short tx) (Abort tx)
      (λ none. false_from_ne_true _ (λ h.
      let p = and_parts (not (committed_in long tx)) (has_standing long tx) h in
      both_ways _ none (and_from _ _ (ap not (was_open tx (not_true _ p.0))) (old_standing (aborted_in log) tx a unaborted_write p.1))))
      (λ some. same_open tx) (kept_of shard short n) refl refl
  one_front front n (End tx) rs ws is new falls e l = refl
  one_front front n (Restart run epoch) rs ws is new falls e l = refl
  one_front front n Forgotten rs ws is new falls e l = refl
  one_front front n (Check run epoch upto base) rs ws is new falls e l = refl

  -- ---- one that comes behind

  one_back : (n : ℕ) (r : LogRecord) (rs : List LogRecord) (ws : List StandingUpdate) → GoesOn shard log r → Falls n ws → standing_from (suc n) rs (standing_after n r ws) ≡ standing long → kept_of shard short n r ≡ kept_of shard long n r
  one_back n (Update tx key before after) rs ws g falls e =
      ap (λ b. kept_if b (Update tx key before after)) (same_place n tx g.0 (subst (AllByRecursion (IsAt n tx)) e (later_from n (suc n) tx rs (record { lsn = n; tx = tx; key = key; change = Sets before after } ∷ ws) (omega arith) ((λ _. refl), none_at n n tx ws falls (omega arith)))))
  one_back n (Add tx key by) rs ws g falls e =
      ap (λ b. kept_if b (Add tx key by)) (same_place n tx g.0 (subst (AllByRecursion (IsAt n tx)) e (later_from n (suc n) tx rs (record { lsn = n; tx = tx; key = key; change = Adds by } ∷ ws) (omega arith) ((λ _. refl), none_at n n tx ws falls (omega arith)))))
  one_back n (Clr tx undo_next key after) rs ws g falls e = refl
  one_back n (Unadd tx undo_next key by) rs ws g falls e = refl
  one_back n (Prepare tx home listed) rs ws g falls e = open_prepare tx home listed listed g.0 (list_on listed g.2)
  one_back n (Commit tx parts) rs ws g falls e = ap (λ b. kept_if (some_parts parts || b) (Commit tx parts)) (later_away tx g.0 g.1)
  one_back n (Abort tx) rs ws g falls e = ap (λ b. kept_if b (Abort tx)) (same_open tx)
  one_back n (End tx) rs ws g falls e = refl
  one_back n (Restart run epoch) rs ws g falls e = refl
  one_back n Forgotten rs ws g falls e = refl
  one_back n (Check run epoch upto base) rs ws g falls e = refl

  all_back : (n : ℕ) (rs : List LogRecord) (ws : List StandingUpdate) → AllByRecursion (GoesOn shard log) rs → Falls n ws → standing_from n rs ws ≡ standing long → kept_from shard short n rs ≡ kept_from shard long n rs
  all_back n [] ws all falls e = refl
  all_back n (r ∷ rs) ws all falls e =
      ap (λ q. q ∷ kept_from shard short (suc n) rs) (one_back n r rs ws all.0 falls e)
      ∙ ap (λ l. kept_of shard long n r ∷ l) (all_back (suc n) rs (standing_after n r ws) all.1 (falls_after n r ws falls) e)

  all_front : (front : List LogRecord) (n : ℕ) (rs : List LogRecord) (ws : List StandingUpdate) → log ≡ front ++ rs → PreparesOnce front rs → Falls n ws → standing_from n rs ws ≡ standing log → n + length rs ≡ length log
      → kept_from shard short n (kept_from shard log n rs ++ more) ≡ kept_from shard long n (rs ++ more)
  all_front front n [] ws is once falls e at_end =
      all_back n more ws goes falls (ap (standing_from n more) e ∙ ap (λ k. standing_from k more (standing log)) (omega (arith, at_end)) ∙ sym long_stands)
  all_front front n (r ∷ rs) ws is once falls e at_end =
      ap (λ q. q ∷ kept_from shard short (suc n) (kept_from shard log (suc n) rs ++ more)) (one_front front n r rs ws is once.0 falls e (omega (arith, at_end)))
      ∙ ap (λ l. kept_of shard long n r ∷ l) (all_front (front ++ r ∷ []) (suc n) rs (standing_after n r ws) (is ∙ sym (append_assoc front (r ∷ []) rs)) once.1 (falls_after n r ws falls) e (omega (arith, at_end)))

same_more : (xs ys zs : List LogRecord) → length xs ≡ length ys → length (xs ++ zs) ≡ length (ys ++ zs)
same_more [] [] zs e = refl
same_more [] (y ∷ ys) zs e = absurd (omega (arith, e))
same_more (x ∷ xs) [] zs e = absurd (omega (arith, e))
same_more (x ∷ xs) (y ∷ ys) zs e = ap suc (same_more xs ys zs (omega (arith, e)))

pub stays_alike : CheckpointsStayAlike
stays_alike shard [] more begins once rise goes lie = refl
stays_alike shard (r ∷ rs) more begins once rise goes lie =
    let log : List LogRecord = r ∷ rs in
    let checked : List LogRecord = check shard log in
    let short : List LogRecord = checked ++ more in
    let long : List LogRecord = log ++ more in
    let k = map_kept shard log begins in
    let last : last_restart checked ≡ last_restart log = checked_last (last_restart (kept_from shard log 1 rs)) k.1 ∙ sym (first_last r rs begins) in
    ap (λ o. Check (no_restart o).0 (no_restart o).1 (length short) (committed_map short) ∷ kept_from shard short 1 (kept_from shard log 1 rs ++ more)) (last_more checked more ∙ ap (over (last_restart more)) last ∙ sym (last_more log more))
    ∙ ap (λ n. Check (no_restart (last_restart long)).0 (no_restart (last_restart long)).1 n (committed_map short) ∷ kept_from shard short 1 (kept_from shard log 1 rs ++ more)) (same_more checked log more (same_length shard log))
    ∙ ap (λ m. Check (no_restart (last_restart long)).0 (no_restart (last_restart long)).1 (length long) m ∷ kept_from shard short 1 (kept_from shard log 1 rs ++ more))
    (goes_on shard log more begins rise (moves_all shard r rs more begins goes) lie).1
    ∙ ap (λ l. Check (no_restart (last_restart long)).0 (no_restart (last_restart long)).1 (length long) (committed_map long) ∷ l)
    (all_front shard r rs more begins goes (r ∷ []) 1 rs [] refl once.1 tt (first_stands r rs begins) (omega arith))
  where
    checked_last : (o : Option (ℕ × ℕ)) → no_restart (last_restart (check shard (r ∷ rs))) ≡ no_restart (last_restart (r ∷ rs)) → last_restart (check shard (r ∷ rs)) ≡ Some (no_restart (last_restart (r ∷ rs)))
    checked_last o e = own_or ((no_restart (last_restart (r ∷ rs))).0, (no_restart (last_restart (r ∷ rs))).1) (last_restart (kept_from shard (r ∷ rs) 1 rs)) ∙ ap Some e
