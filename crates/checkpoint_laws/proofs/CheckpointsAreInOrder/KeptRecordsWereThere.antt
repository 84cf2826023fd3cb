-- What is told of a checkpoint's records was told of the log's; and what is told of the records of those that are left open is told of those that stay.
use Rattle.std.proofs.Common.{◌≡◌, refl, sym, ap, subst, ◌∙◌, ⊎_elim, ℕ, suc, ◌+◌, Bool, true, false, cond, not, ◌&&◌, ◌||◌, ◌==◌, List, [], ◌∷◌, ◌++◌, append_assoc, length, Some, arith}
use Rattle.std.specs.List.{list_any, filter}
use Rattle.std.proofs.lemmas.Bool.{both_ways, or_cases, false_from_ne_true}
use Rattle.std.proofs.lemmas.Option.{same_Some}
use Rattle.clv_base.specs.declared.names.TxId.{TxId}
use Rattle.clv_base.specs.declared.logs.LogRecord.{LogRecord}
use Rattle.clv_base.specs.declared.logs.LogRecord.TheVariants.{Update, Clr, Prepare, Commit, Abort, End, Restart, Add, Unadd, Forgotten, Check}
use Rattle.clv_base.specs.Orders.{tx_same}
use Rattle.clv_base.specs.Logs.{StandingUpdate, standing, standing_from, standing_after, committed_in, prepared_in, prepare_of, commit_parts, is_update_of, is_commit_of, is_prepare_of, is_abort_of, is_end_of}
use Rattle.clv_base.specs.declared.changes.Change.TheVariants.{Sets, Adds}
use Rattle.clv_base.specs.LogRules.{lists, some_parts}
use Rattle.clv_base.specs.Checkpoints.{is_away, is_left_open, stands_at, kept_if, kept_prepare, kept_of, kept_from}
use Rattle.clv_base.proofs.SameNames.{or_left, or_right, tx_true}
use Rattle.law_base.specs.Coming.{Comes}
use Rattle.law_base.proofs.Sets.{in_filter}
use Rattle.checkpoint_laws.proofs.CheckpointsAreInOrder.ClosedWriteNoMore.{neither, prepare_closes, prepares_no_more}

-- a test that a forgotten record fails, and that of a PREPARE asks no more of a shorter list
pub record Wider (f : LogRecord → Bool) : Type 0 where
  pub none : f Forgotten ≡ false
  pub bare : (tx : TxId) (home : ℕ) (ps : List TxId) → f (Prepare tx home []) ≡ true → f (Prepare tx home ps) ≡ true
  pub cut : (g : TxId → Bool) (tx : TxId) (home : ℕ) (ps : List TxId) → f (Prepare tx home (filter g ps)) ≡ true → f (Prepare tx home ps) ≡ true

pub updates_wider : (t : TxId) → Wider (is_update_of t)
updates_wider t = record { none = refl; bare = λ tx home ps e. e; cut = λ g tx home ps e. e }

pub commits_wider : (t : TxId) → Wider (is_commit_of t)
commits_wider t = record { none = refl; bare = λ tx home ps e. e; cut = λ g tx home ps e. e }

pub prepares_wider : (t : TxId) → Wider (is_prepare_of t)
prepares_wider t = record { none = refl; bare = λ tx home ps e. e; cut = λ g tx home ps e. e }

pub aborts_wider : (t : TxId) → Wider (is_abort_of t)
aborts_wider t = record { none = refl; bare = λ tx home ps e. e; cut = λ g tx home ps e. e }

pub ends_wider : (t : TxId) → Wider (is_end_of t)
ends_wider t = record { none = refl; bare = λ tx home ps e. e; cut = λ g tx home ps e. e }

pub lists_wider : (t : TxId) → Wider (lists t)
lists_wider t = record { none = refl; bare = λ tx home ps e. absurd (both_ways false refl e); cut = λ g tx home ps e. (in_filter g t ps e).0 }

module _ (f : LogRecord → Bool) (w : Wider f) where
  if_wider : (b : Bool) (r : LogRecord) → f (kept_if b r) ≡ true → f r ≡ true
  if_wider true r e = e
  if_wider false r e = absurd (both_ways _ w.none e)

  prepare_wider : (shard : ℕ) (log : List LogRecord) (tx : TxId) (home : ℕ) (ps : List TxId) (b : Bool) → f (kept_prepare shard log tx home ps b) ≡ true → f (Prepare tx home ps) ≡ true
  prepare_wider shard log tx home ps true e = w.bare tx home ps (if_wider (not (home == shard)) (Prepare tx home []) e)
  prepare_wider shard log tx home ps false e = w.cut (λ p. not (committed_in log p)) tx home ps (if_wider (is_left_open log tx) (Prepare tx home (filter (λ p. not (committed_in log p)) ps)) e)

  pub kept_wider : (shard : ℕ) (log : List LogRecord) (n : ℕ) (r : LogRecord) → f (kept_of shard log n r) ≡ true → f r ≡ true
  kept_wider shard log n (Update tx key before after) e = if_wider _ (Update tx key before after) e
  kept_wider shard log n (Add tx key by) e = if_wider _ (Add tx key by) e
  kept_wider shard log n (Clr tx undo_next key after) e = absurd (both_ways _ w.none e)
  kept_wider shard log n (Unadd tx undo_next key by) e = absurd (both_ways _ w.none e)
  kept_wider shard log n (Prepare tx home ps) e = prepare_wider shard log tx home ps (committed_in log tx) e
  kept_wider shard log n (Commit tx parts) e = if_wider _ (Commit tx parts) e
  kept_wider shard log n (Abort tx) e = if_wider _ (Abort tx) e
  kept_wider shard log n (End tx) e = e
  kept_wider shard log n (Restart run epoch) e = absurd (both_ways _ w.none e)
  kept_wider shard log n Forgotten e = e
  kept_wider shard log n (Check run epoch upto base) e = absurd (both_ways _ w.none e)

  pub all_wider : (shard : ℕ) (log : List LogRecord) (n : ℕ) (rs : List LogRecord) → list_any f (kept_from shard log n rs) ≡ true → list_any f rs ≡ true
  all_wider shard log n [] e = e
  all_wider shard log n (r ∷ rs) e =
      ⊎_elim (λ h. or_left _ _ (kept_wider shard log n r h)) (λ l. or_right (f r) _ (all_wider shard log (suc n) rs l)) (or_cases (f (kept_of shard log n r)) (list_any f (kept_from shard log (suc n) rs)) e)

  pub none_wider : (shard : ℕ) (log : List LogRecord) (n : ℕ) (rs : List LogRecord) → list_any f rs ≡ false → list_any f (kept_from shard log n rs) ≡ false
  none_wider shard log n rs e = false_from_ne_true _ (λ h. both_ways _ e (all_wider shard log n rs h))

-- ---- places of lists of records

pub kept_append : (shard : ℕ) (log : List LogRecord) (n : ℕ) (xs ys : List LogRecord) → kept_from shard log n (xs ++ ys) ≡ kept_from shard log n xs ++ kept_from shard log (n + length xs) ys
kept_append shard log n [] ys = ap (λ k. kept_from shard log k ys) (omega arith)
kept_append shard log n (x ∷ xs) ys =
    ap (λ l. kept_of shard log n x ∷ l) (kept_append shard log (suc n) xs ys ∙ ap (λ k. kept_from shard log (suc n) xs ++ kept_from shard log k ys) (omega arith))

-- ---- PREPAREs of one that is left open

prepare_stays : (shard : ℕ) (log : List LogRecord) (t : TxId) → committed_in log t ≡ false → is_left_open log t ≡ true → (n : ℕ) (r : LogRecord) → is_prepare_of t r ≡ true → is_prepare_of t (kept_of shard log n r) ≡ true
prepare_stays shard log t u left n (Prepare tx home ps) e =
    ap (λ b. is_prepare_of t (kept_prepare shard log tx home ps b)) (subst (λ z. committed_in log z ≡ false) (tx_true t tx e) u)
    ∙ ap (λ b. is_prepare_of t (kept_if b (Prepare tx home (filter (λ p. not (committed_in log p)) ps)))) (subst (λ z. is_left_open log z ≡ true) (tx_true t tx e) left) ∙ e
prepare_stays shard log t u left n _ e = absurd (both_ways false refl e)

pub prepares_of_open_stay : (shard : ℕ) (log : List LogRecord) (t : TxId) → committed_in log t ≡ false → is_left_open log t ≡ true → (n : ℕ) (rs : List LogRecord) → prepared_in rs t ≡ true → prepared_in (kept_from shard log n rs) t ≡ true
prepares_of_open_stay shard log t u left n [] e = e
prepares_of_open_stay shard log t u left n (r ∷ rs) e =
    ⊎_elim (λ h. or_left _ _ (prepare_stays shard log t u left n r h)) (λ l. or_right (is_prepare_of t (kept_of shard log n r)) _ (prepares_of_open_stay shard log t u left (suc n) rs l)) (or_cases (is_prepare_of t r) (prepared_in rs t) e)

-- ---- and of one that is committed

pub away_prepared : (shard : ℕ) (rs : List LogRecord) (t : TxId) → is_away shard (prepare_of rs t) ≡ true → prepared_in rs t ≡ true
away_prepared shard [] t e = absurd (both_ways false refl e)
away_prepared shard (Prepare tx home ps ∷ rs) t e = at (tx_same t tx) e (away_prepared shard rs t)
  where
    at : (b : Bool) → is_away shard (cond b (Some (home, ps)) (prepare_of rs t)) ≡ true → (is_away shard (prepare_of rs t) ≡ true → prepared_in rs t ≡ true) → (b || prepared_in rs t) ≡ true
    at true e more = refl
    at false e more = more e
away_prepared shard (Update tx key before after ∷ rs) t e = away_prepared shard rs t e
away_prepared shard (Clr tx undo_next key after ∷ rs) t e = away_prepared shard rs t e
away_prepared shard (Commit tx parts ∷ rs) t e = away_prepared shard rs t e
away_prepared shard (Abort tx ∷ rs) t e = away_prepared shard rs t e
away_prepared shard (End tx ∷ rs) t e = away_prepared shard rs t e
away_prepared shard (Restart run epoch ∷ rs) t e = away_prepared shard rs t e
away_prepared shard (Add tx key by ∷ rs) t e = away_prepared shard rs t e
away_prepared shard (Unadd tx undo_next key by ∷ rs) t e = away_prepared shard rs t e
away_prepared shard (Forgotten ∷ rs) t e = away_prepared shard rs t e
away_prepared shard (Check run epoch upto base ∷ rs) t e = away_prepared shard rs t e

-- of one with its home here none stays
module _ (shard : ℕ) (log part : List LogRecord) (t : TxId) (c : committed_in log t ≡ true) where
  gone : (tx : TxId) (home : ℕ) (ps : List TxId) → tx_same t tx ≡ true → not (home == shard) ≡ false → is_prepare_of t (kept_prepare shard log tx home ps (committed_in log tx)) ≡ false
  gone tx home ps s h =
      ap (λ b. is_prepare_of t (kept_prepare shard log tx home ps b)) (subst (λ z. committed_in log z ≡ true) (tx_true t tx s) c) ∙ ap (λ b. is_prepare_of t (kept_if b (Prepare tx home []))) h

  other : (b : Bool) (r : LogRecord) → is_prepare_of t r ≡ false → is_prepare_of t (kept_if b r) ≡ false
  other true r e = e
  other false r e = refl

  pub prepares_at_home_go : (before : List LogRecord) (n : ℕ) (rs : List LogRecord) → Comes shard part before rs → is_away shard (prepare_of rs t) ≡ false → prepared_in (kept_from shard log n rs) t ≡ false
  prepares_at_home_go before n [] f a = refl
  prepares_at_home_go before n (Prepare tx home ps ∷ rs) f a =
      at (tx_same t tx) refl a (λ b. prepares_at_home_go (before ++ Prepare tx home ps ∷ []) (suc n) rs f.1 b)
    where
      there : tx_same t tx ≡ true → (xs : List LogRecord) → prepared_in (xs ++ Prepare tx home ps ∷ []) t ≡ true
      there s [] = or_left _ _ s
      there s (x ∷ xs) = or_right (is_prepare_of t x) _ (there s xs)

      at : (b : Bool) → tx_same t tx ≡ b → is_away shard (cond b (Some (home, ps)) (prepare_of rs t)) ≡ false → (is_away shard (prepare_of rs t) ≡ false → prepared_in (kept_from shard log (suc n) rs) t ≡ false)
          → prepared_in (kept_prepare shard log tx home ps (committed_in log tx) ∷ kept_from shard log (suc n) rs) t ≡ false
      at true s h more =
          neither _ _ (gone tx home ps s h)
          (none_wider (is_prepare_of t) (prepares_wider t) shard log (suc n) rs (prepares_no_more shard part t (is_prepare_of t) (prepare_closes t) (before ++ Prepare tx home ps ∷ []) rs f.1 (there s before)))
      at false s h more = neither _ _ (false_from_ne_true _ (λ k. both_ways _ s (prepare_wider (is_prepare_of t) (prepares_wider t) shard log tx home ps (committed_in log tx) k))) (more h)
  prepares_at_home_go before n (Commit tx parts ∷ rs) f a = neither _ _ (other _ (Commit tx parts) refl) (prepares_at_home_go (before ++ Commit tx parts ∷ []) (suc n) rs f.1 a)
  prepares_at_home_go before n (Update tx key left right ∷ rs) f a = neither _ _ (other _ (Update tx key left right) refl) (prepares_at_home_go (before ++ Update tx key left right ∷ []) (suc n) rs f.1 a)
  prepares_at_home_go before n (Add tx key by ∷ rs) f a = neither _ _ (other _ (Add tx key by) refl) (prepares_at_home_go (before ++ Add tx key by ∷ []) (suc n) rs f.1 a)
  prepares_at_home_go before n (Abort tx ∷ rs) f a = neither _ _ (other _ (Abort tx) refl) (prepares_at_home_go (before ++ Abort tx ∷ []) (suc n) rs f.1 a)
  prepares_at_home_go before n (Clr tx undo_next key after ∷ rs) f a = prepares_at_home_go (before ++ Clr tx undo_next key after ∷ []) (suc n) rs f.1 a
  prepares_at_home_go before n (Unadd tx undo_next key by ∷ rs) f a = prepares_at_home_go (before ++ Unadd tx undo_next key by ∷ []) (suc n) rs f.1 a
  prepares_at_home_go before n (End tx ∷ rs) f a = prepares_at_home_go (before ++ End tx ∷ []) (suc n) rs f.1 a
  prepares_at_home_go before n (Restart run epoch ∷ rs) f a = prepares_at_home_go (before ++ Restart run epoch ∷ []) (suc n) rs f.1 a
  prepares_at_home_go before n (Forgotten ∷ rs) f a = prepares_at_home_go (before ++ Forgotten ∷ []) (suc n) rs f.1 a
  prepares_at_home_go before n (Check run epoch upto base ∷ rs) f a = absurd (both_ways false refl f.0)

-- ---- COMMITs with parts

other_parts : (b : Bool) (r : LogRecord) (rs : List LogRecord) (t : TxId) → commit_parts (r ∷ rs) t ≡ commit_parts rs t → commit_parts (kept_if b r ∷ rs) t ≡ commit_parts rs t
other_parts true r rs t e = e
other_parts false r rs t e = refl

prepare_parts : (shard : ℕ) (log : List LogRecord) (tx : TxId) (home : ℕ) (ps : List TxId) (b : Bool) (rs : List LogRecord) (t : TxId) → commit_parts (kept_prepare shard log tx home ps b ∷ rs) t ≡ commit_parts rs t
prepare_parts shard log tx home ps true rs t = other_parts _ (Prepare tx home []) rs t refl
prepare_parts shard log tx home ps false rs t = other_parts _ (Prepare tx home _) rs t refl

pub parts_stay : (shard : ℕ) (log : List LogRecord) (n : ℕ) (rs : List LogRecord) (t : TxId) (ps : List ℕ) → commit_parts rs t ≡ Some ps → some_parts ps ≡ true → commit_parts (kept_from shard log n rs) t ≡ Some ps
parts_stay shard log n [] t ps e s = e
parts_stay shard log n (Commit tx parts ∷ rs) t ps e s = at (tx_same t tx) refl e (λ k. parts_stay shard log (suc n) rs t ps k s)
  where
    at : (b : Bool) → tx_same t tx ≡ b → cond b (Some parts) (commit_parts rs t) ≡ Some ps → (commit_parts rs t ≡ Some ps → commit_parts (kept_from shard log (suc n) rs) t ≡ Some ps)
        → commit_parts (kept_if (some_parts parts || is_away shard (prepare_of log tx)) (Commit tx parts) ∷ kept_from shard log (suc n) rs) t ≡ Some ps
    at true own k more =
        ap (λ b. commit_parts (kept_if (b || is_away shard (prepare_of log tx)) (Commit tx parts) ∷ kept_from shard log (suc n) rs) t) (subst (λ q. some_parts q ≡ true) (sym (same_Some parts ps k)) s)
        ∙ ap (λ b. cond b (Some parts) (commit_parts (kept_from shard log (suc n) rs) t)) own ∙ k
    at false own k more = other_parts _ (Commit tx parts) (kept_from shard log (suc n) rs) t (ap (λ b. cond b (Some parts) (commit_parts (kept_from shard log (suc n) rs) t)) own) ∙ more k
parts_stay shard log n (Update tx key before after ∷ rs) t ps e s = other_parts _ (Update tx key before after) (kept_from shard log (suc n) rs) t refl ∙ parts_stay shard log (suc n) rs t ps e s
parts_stay shard log n (Add tx key by ∷ rs) t ps e s = other_parts _ (Add tx key by) (kept_from shard log (suc n) rs) t refl ∙ parts_stay shard log (suc n) rs t ps e s
parts_stay shard log n (Abort tx ∷ rs) t ps e s = other_parts _ (Abort tx) (kept_from shard log (suc n) rs) t refl ∙ parts_stay shard log (suc n) rs t ps e s
parts_stay shard log n (Prepare tx home qs ∷ rs) t ps e s = prepare_parts shard log tx home qs (committed_in log tx) (kept_from shard log (suc n) rs) t ∙ parts_stay shard log (suc n) rs t ps e s
parts_stay shard log n (Clr tx undo_next key after ∷ rs) t ps e s = parts_stay shard log (suc n) rs t ps e s
parts_stay shard log n (Unadd tx undo_next key by ∷ rs) t ps e s = parts_stay shard log (suc n) rs t ps e s
parts_stay shard log n (End tx ∷ rs) t ps e s = parts_stay shard log (suc n) rs t ps e s
parts_stay shard log n (Restart run epoch ∷ rs) t ps e s = parts_stay shard log (suc n) rs t ps e s
parts_stay shard log n (Forgotten ∷ rs) t ps e s = parts_stay shard log (suc n) rs t ps e s
parts_stay shard log n (Check run epoch upto base ∷ rs) t ps e s = parts_stay shard log (suc n) rs t ps e s

-- ---- writes: none of the records that stay undoes one

one_piles : (shard : ℕ) (log : List LogRecord) (n : ℕ) (r : LogRecord) (m : ℕ) (ws : List StandingUpdate) → (new : List StandingUpdate) × (standing_after m (kept_of shard log n r) ws ≡ new ++ ws)
one_piles shard log n (Update tx key before after) m ws = at (not (committed_in log tx) && stands_at n (standing log))
  where
    at : (b : Bool) → (new : List StandingUpdate) × (standing_after m (kept_if b (Update tx key before after)) ws ≡ new ++ ws)
    at true = (record { lsn = m; tx = tx; key = key; change = Sets before after } ∷ [], refl)
    at false = ([], refl)
one_piles shard log n (Add tx key by) m ws = at (not (committed_in log tx) && stands_at n (standing log))
  where
    at : (b : Bool) → (new : List StandingUpdate) × (standing_after m (kept_if b (Add tx key by)) ws ≡ new ++ ws)
    at true = (record { lsn = m; tx = tx; key = key; change = Adds by } ∷ [], refl)
    at false = ([], refl)
one_piles shard log n (Prepare tx home ps) m ws = ([], kept_listed (committed_in log tx))
  where
    kept : (b : Bool) (qs : List TxId) → standing_after m (kept_if b (Prepare tx home qs)) ws ≡ ws
    kept true qs = refl
    kept false qs = refl

    kept_listed : (b : Bool) → standing_after m (kept_prepare shard log tx home ps b) ws ≡ ws
    kept_listed true = kept _ []
    kept_listed false = kept _ _
one_piles shard log n (Commit tx parts) m ws = ([], kept (some_parts parts || is_away shard (prepare_of log tx)))
  where
    kept : (b : Bool) → standing_after m (kept_if b (Commit tx parts)) ws ≡ ws
    kept true = refl
    kept false = refl
one_piles shard log n (Abort tx) m ws = ([], kept (is_left_open log tx))
  where
    kept : (b : Bool) → standing_after m (kept_if b (Abort tx)) ws ≡ ws
    kept true = refl
    kept false = refl
one_piles shard log n (Clr tx undo_next key after) m ws = ([], refl)
one_piles shard log n (Unadd tx undo_next key by) m ws = ([], refl)
one_piles shard log n (End tx) m ws = ([], refl)
one_piles shard log n (Restart run epoch) m ws = ([], refl)
one_piles shard log n Forgotten m ws = ([], refl)
one_piles shard log n (Check run epoch upto base) m ws = ([], refl)

pub kept_pile : (shard : ℕ) (log : List LogRecord) (n : ℕ) (rs : List LogRecord) (m : ℕ) (ws : List StandingUpdate) → (new : List StandingUpdate) × (standing_from m (kept_from shard log n rs) ws ≡ new ++ ws)
kept_pile shard log n [] m ws = ([], refl)
kept_pile shard log n (r ∷ rs) m ws =
    let o = one_piles shard log n r m ws in
    let k = kept_pile shard log (suc n) rs (suc m) (o.0 ++ ws) in
    (k.0 ++ o.0, ap (standing_from (suc m) (kept_from shard log (suc n) rs)) o.1 ∙ k.1 ∙ sym (append_assoc k.0 o.0 ws))
