-- Of whom a write stands in a log in order: it is committed or prepared there, or of the run of the last RESTART.
use Rattle.std.proofs.Common.{◌≡◌, ◌⊎◌, inl, inr, ⊎_elim, refl, sym, ap, subst, ℕ, zero, suc, ◌+◌, Bool, true, false, cond, ◌||◌, ◌==◌, List, [], ◌∷◌, ◌++◌, length, take, Option, Some, None, append-nil, append_assoc}
use Rattle.std.specs.Prelude.{⊤}
use Rattle.std.specs.List.{AllByRecursion, list_all}
use Rattle.std.proofs.lemmas.Bool.{both_ways, and_parts, or_cases}
use Rattle.std.proofs.lemmas.List.{take-append-drop}
use Rattle.clv_base.specs.declared.names.TxId.{TxId}
use Rattle.clv_base.specs.declared.logs.LogRecord.{LogRecord}
use Rattle.clv_base.specs.declared.logs.LogRecord.TheVariants.{Update, Clr, Prepare, Commit, Abort, End, Restart, Add, Unadd, Forgotten, Check}
use Rattle.clv_base.specs.Orders.{tx_same, tx_in, tx_insert}
use Rattle.clv_base.specs.Maps.{KeyMap}
use Rattle.clv_base.specs.Logs.{StandingUpdate, standing, standing_after, has_standing, wrote_in, committed_in, prepared_in, is_commit_of, is_prepare_of, doubt_by, in_doubt_from, in_doubt, is_winner}
use Rattle.clv_base.specs.LogRules.{last_restart, in_last_run, may_follow, may_keep, kept_disorder, is_whole_part, or_place, part_disorder, part_of, later_of, upto_of, disorder}
use Rattle.clv_base.proofs.SameNames.{or_left, or_right, tx_true, tx_eq, in_insert}
use Rattle.law_base.specs.Coming.{Follows}
use Rattle.law_base.proofs.Bools.{and_first as front, and_second as last}
use Rattle.law_base.proofs.Logs.{push_left, standing_push}
use Rattle.law_base.proofs.Parts.{split_order}
use Rattle.law_base.proofs.Restarts.{Plainly, last_push}
use Rattle.law_base.proofs.Standing.{has_write, has_without, standing_wrote}

abbrev Told : List LogRecord → TxId → Type 0
Told log t = (committed_in log t ≡ true) ⊎ ((prepared_in log t ≡ true) ⊎ (in_last_run log t ≡ true))

abbrev AllTold : List LogRecord → Type 0
AllTold log = (t : TxId) → has_standing log t ≡ true → Told log t

-- ---- one record more

-- who is in doubt is prepared
doubt_prepared : (log : List LogRecord) (shard : ℕ) (rs : List LogRecord) (so_far : List TxId) (t : TxId) → tx_in t (in_doubt_from log shard rs so_far) ≡ true → (tx_in t so_far ≡ true) ⊎ (prepared_in rs t ≡ true)
doubt_prepared log shard [] so_far t e = inl e
doubt_prepared log shard (Prepare tx home ps ∷ rs) so_far t e =
    ⊎_elim (λ i. at (doubt_by log shard tx home ps so_far) i) (λ p. inr (or_right (tx_same t tx) _ p)) (doubt_prepared log shard rs (cond (doubt_by log shard tx home ps so_far) (tx_insert tx so_far) so_far) t e)
  where
    at : (b : Bool) → tx_in t (cond b (tx_insert tx so_far) so_far) ≡ true → (tx_in t so_far ≡ true) ⊎ ((tx_same t tx || prepared_in rs t) ≡ true)
    at true i = ⊎_elim (λ s. inr (or_left _ _ (tx_eq t tx s))) (λ j. inl j) (in_insert tx t so_far i)
    at false i = inl i
doubt_prepared log shard (_ ∷ rs) so_far t e = doubt_prepared log shard rs so_far t e

winner_told : (shard : ℕ) (log : List LogRecord) (t : TxId) → is_winner shard log t ≡ true → (committed_in log t ≡ true) ⊎ (prepared_in log t ≡ true)
winner_told shard log t w =
    ⊎_elim (λ c. inl c) (λ i. ⊎_elim (λ n. absurd (both_ways false refl n)) (λ p. inr p) (doubt_prepared log shard log [] t i)) (or_cases (committed_in log t) (tx_in t (in_doubt shard log)) w)

-- what a test says of all writes it says of who has one
of_all : (f : TxId → Bool) (ws : List StandingUpdate) (t : TxId) → list_all (λ w. f w.tx) ws ≡ true → has_write ws t ≡ true → f t ≡ true
of_all f [] t a h = absurd (both_ways false refl h)
of_all f (w ∷ ws) t a h =
    let p = and_parts (f w.tx) (list_all (λ v. f v.tx) ws) a in
    ⊎_elim (λ s. subst (λ z. f z ≡ true) (sym (tx_true t w.tx s)) p.0) (λ r. of_all f ws t p.1 r) (or_cases (tx_same t w.tx) (has_write ws t) h)

closed_more : (log : List LogRecord) (r : LogRecord) (t : TxId) → (committed_in log t ≡ true) ⊎ (prepared_in log t ≡ true) → Told (log ++ r ∷ []) t
closed_more log r t = ⊎_elim (λ c. inl (push_left (is_commit_of t) log r c)) (λ p. inr (inl (push_left (is_prepare_of t) log r p)))

same_run : (log : List LogRecord) (r : LogRecord) (t : TxId) → Plainly r → in_last_run log t ≡ true → in_last_run (log ++ r ∷ []) t ≡ true
same_run log r t p e = subst (λ o. elim o [ Some q ↦ t.run == q.0 | None ↦ false ] ≡ true) (sym (last_push log r p)) e

told_more : (log : List LogRecord) (r : LogRecord) (t : TxId) → Plainly r → Told log t → Told (log ++ r ∷ []) t
told_more log r t p =
    ⊎_elim (λ c. inl (push_left (is_commit_of t) log r c)) (λ x. inr (⊎_elim (λ q. inl (push_left (is_prepare_of t) log r q)) (λ e. inr (same_run log r t p e)) x))

-- a record of which no write stands anew
quiet : (log : List LogRecord) (r : LogRecord) → Plainly r → ((t : TxId) → has_standing (log ++ r ∷ []) t ≡ true → has_standing log t ≡ true) → AllTold log → AllTold (log ++ r ∷ [])
quiet log r p old all t h = told_more log r t p (all t (old t h))

-- one of the last run writes
writes : (log : List LogRecord) (r : LogRecord) (tx : TxId) → Plainly r → in_last_run log tx ≡ true → ((t : TxId) → has_standing (log ++ r ∷ []) t ≡ true → (tx_same t tx || has_standing log t) ≡ true) → AllTold log → AllTold (log ++ r ∷ [])
writes log r tx p run old all t h =
    ⊎_elim (λ s. told_more log r t p (inr (inr (subst (λ z. in_last_run log z ≡ true) (sym (tx_true t tx s)) run)))) (λ o. told_more log r t p (all t o)) (or_cases (tx_same t tx) (has_standing log t) (old t h))

stands_by : (log : List LogRecord) (r : LogRecord) (t : TxId) → has_standing (log ++ r ∷ []) t ≡ true → has_write (standing_after (length log) r (standing log)) t ≡ true
stands_by log r t h = subst (λ ws. has_write ws t ≡ true) (standing_push log r) h

told_step : (shard : ℕ) (log : List LogRecord) (r : LogRecord) → may_follow shard log r ≡ true → AllTold log → AllTold (log ++ r ∷ [])
told_step shard log (Update tx key before after) m all =
    writes log (Update tx key before after) tx tt (front _ _ (front _ _ (front _ _ (front _ _ (front _ _ (front _ _ (front _ _ (front _ _ m)))))))) (λ t h. stands_by log (Update tx key before after) t h) all
told_step shard log (Add tx key by) m all =
    writes log (Add tx key by) tx tt (front _ _ (front _ _ (front _ _ (front _ _ (front _ _ (front _ _ (front _ _ m))))))) (λ t h. stands_by log (Add tx key by) t h) all
told_step shard log (Clr tx undo_next key after) m all =
    quiet log (Clr tx undo_next key after) tt (λ t h. has_without t tx (standing log) (stands_by log (Clr tx undo_next key after) t h)) all
told_step shard log (Unadd tx undo_next key by) m all =
    quiet log (Unadd tx undo_next key by) tt (λ t h. has_without t tx (standing log) (stands_by log (Unadd tx undo_next key by) t h)) all
told_step shard log (Prepare tx home ps) m all = quiet log (Prepare tx home ps) tt (λ t h. stands_by log (Prepare tx home ps) t h) all
told_step shard log (Commit tx parts) m all = quiet log (Commit tx parts) tt (λ t h. stands_by log (Commit tx parts) t h) all
told_step shard log (Abort tx) m all = quiet log (Abort tx) tt (λ t h. stands_by log (Abort tx) t h) all
told_step shard log (End tx) m all = quiet log (End tx) tt (λ t h. stands_by log (End tx) t h) all
told_step shard log (Restart run epoch) m all =
    λ t h. closed_more log (Restart run epoch) t (winner_told shard log t (of_all (is_winner shard log) (standing log) t (last _ _ m) (stands_by log (Restart run epoch) t h)))
told_step shard log Forgotten m all = absurd (both_ways false refl m)
told_step shard log (Check run epoch upto base) m all = absurd (both_ways false refl m)

told_follows : (shard : ℕ) (before rs : List LogRecord) → Follows shard before rs → AllTold before → AllTold (before ++ rs)
told_follows shard before [] f all = subst AllTold (sym (append-nil before)) all
told_follows shard before (r ∷ rs) f all = subst AllTold (append_assoc before (r ∷ []) rs) (told_follows shard (before ++ r ∷ []) rs f.1 (told_step shard before r f.0 all))

-- ---- in a part

never : {n : ℕ} → ◌≡◌ {A = Option ℕ} (Some n) None → ⊥
never e = absurd cc

tested : (b : Bool) (n : ℕ) (more : Option ℕ) → ◌≡◌ {A = Option ℕ} (elim b [ true ↦ more | false ↦ Some n ]) None → (b ≡ true) × (more ≡ None)
tested true n more d = (refl, d)
tested false n more d = absurd (never d)

otherwise : (c x : Bool) → cond c false x ≡ true → x ≡ true
otherwise true x e = absurd (both_ways false refl e)
otherwise false x e = e

-- whose write is kept is of the checkpoint's run, or a PREPARE of it is kept; and no RESTART is
abbrev KeptBy : ℕ → List LogRecord → LogRecord → Type 0
KeptBy run kept (Update tx key before after) = ((tx.run == run) || prepared_in kept tx) ≡ true
KeptBy run kept (Add tx key by) = ((tx.run == run) || prepared_in kept tx) ≡ true
KeptBy run kept (Restart r e) = ⊥
KeptBy run kept (Check r e upto base) = ⊥
KeptBy run kept _ = ⊤

module _ (shard run : ℕ) (kept : List LogRecord) where
  all_kept : (place : ℕ) (so_far rs : List LogRecord) → kept_disorder shard run kept place so_far rs ≡ None → AllByRecursion (KeptBy run kept) rs
  all_kept place so_far [] d = tt
  all_kept place so_far (Forgotten ∷ rs) d = (tt, all_kept place (so_far ++ Forgotten ∷ []) rs d)
  all_kept place so_far (Update tx key before after ∷ rs) d =
      let p = tested (may_keep shard run kept so_far (Update tx key before after) (Some tx)) place _ d in
      (front _ _ (front _ _ (front _ _ (front _ _ (otherwise (committed_in kept tx) _ (last _ _ p.0))))), all_kept (suc place) (so_far ++ Update tx key before after ∷ []) rs p.1)
  all_kept place so_far (Add tx key by ∷ rs) d =
      let p = tested (may_keep shard run kept so_far (Add tx key by) (Some tx)) place _ d in
      (front _ _ (front _ _ (front _ _ (otherwise (committed_in kept tx) _ (last _ _ p.0)))), all_kept (suc place) (so_far ++ Add tx key by ∷ []) rs p.1)
  all_kept place so_far (Clr tx undo_next key after ∷ rs) d =
      let p = tested (may_keep shard run kept so_far (Clr tx undo_next key after) (Some tx)) place _ d in (tt, all_kept (suc place) (so_far ++ Clr tx undo_next key after ∷ []) rs p.1)
  all_kept place so_far (Unadd tx undo_next key by ∷ rs) d =
      let p = tested (may_keep shard run kept so_far (Unadd tx undo_next key by) (Some tx)) place _ d in (tt, all_kept (suc place) (so_far ++ Unadd tx undo_next key by ∷ []) rs p.1)
  all_kept place so_far (Prepare tx home ps ∷ rs) d =
      let p = tested (may_keep shard run kept so_far (Prepare tx home ps) (Some tx)) place _ d in (tt, all_kept (suc place) (so_far ++ Prepare tx home ps ∷ []) rs p.1)
  all_kept place so_far (Commit tx parts ∷ rs) d =
      let p = tested (may_keep shard run kept so_far (Commit tx parts) (Some tx)) place _ d in (tt, all_kept (suc place) (so_far ++ Commit tx parts ∷ []) rs p.1)
  all_kept place so_far (Abort tx ∷ rs) d = let p = tested (may_keep shard run kept so_far (Abort tx) (Some tx)) place _ d in (tt, all_kept (suc place) (so_far ++ Abort tx ∷ []) rs p.1)
  all_kept place so_far (End tx ∷ rs) d = let p = tested (may_keep shard run kept so_far (End tx) (Some tx)) place _ d in (tt, all_kept (suc place) (so_far ++ End tx ∷ []) rs p.1)
  all_kept place so_far (Restart r e ∷ rs) d = absurd (never d)
  all_kept place so_far (Check r e upto base ∷ rs) d = absurd (never d)

  no_restart_kept : (rs : List LogRecord) → AllByRecursion (KeptBy run kept) rs → last_restart rs ≡ None
  no_restart_kept [] a = refl
  no_restart_kept (Restart r e ∷ rs) a = absurd a.0
  no_restart_kept (Check r e upto base ∷ rs) a = absurd a.0
  no_restart_kept (_ ∷ rs) a = no_restart_kept rs a.1

  writer_kept : (rs : List LogRecord) (t : TxId) → AllByRecursion (KeptBy run kept) rs → wrote_in rs t ≡ true → ((t.run == run) || prepared_in kept t) ≡ true
  writer_kept [] t a w = absurd (both_ways false refl w)
  writer_kept (Update tx key before after ∷ rs) t a w =
      ⊎_elim (λ s. subst (λ z. ((z.run == run) || prepared_in kept z) ≡ true) (sym (tx_true t tx s)) a.0) (λ r. writer_kept rs t a.1 r) (or_cases (tx_same t tx) (wrote_in rs t) w)
  writer_kept (Add tx key by ∷ rs) t a w =
      ⊎_elim (λ s. subst (λ z. ((z.run == run) || prepared_in kept z) ≡ true) (sym (tx_true t tx s)) a.0) (λ r. writer_kept rs t a.1 r) (or_cases (tx_same t tx) (wrote_in rs t) w)
  writer_kept (_ ∷ rs) t a w = writer_kept rs t a.1 w

or_second : (a b : Option ℕ) → or_place a b ≡ None → b ≡ None
or_second None b e = e
or_second (Some n) b e = absurd (never e)

checked_told : (shard run epoch upto : ℕ) (base : KeyMap) (kept : List LogRecord) → part_disorder shard (Check run epoch upto base ∷ kept) ≡ None → AllTold (Check run epoch upto base ∷ kept)
checked_told shard run epoch upto base kept d t h =
    let a = all_kept shard run kept (1 + length base) (Check run epoch upto base ∷ []) kept (or_second (cond (is_whole_part upto base kept) None (Some 0)) _ d) in
    ⊎_elim
    (λ s. inr (inr (subst (λ o. elim o [ Some p ↦ t.run == p.0 | None ↦ false ] ≡ true) (sym (last_is a)) s)))
    (λ p. inr (inl p)) (or_cases (t.run == run) (prepared_in kept t) (writer_kept shard run kept kept t a (standing_wrote (Check run epoch upto base ∷ kept) t h)))
  where
    last_is : AllByRecursion (KeptBy run kept) kept → last_restart (Check run epoch upto base ∷ kept) ≡ Some (run, epoch)
    last_is a = ap (λ o. elim o [ Some p ↦ Some p | None ↦ Some (run, epoch) ]) (no_restart_kept shard run kept kept a)

part_told : (shard : ℕ) (log : List LogRecord) → part_disorder shard (part_of log) ≡ None → AllTold (part_of log)
part_told shard [] d t h = absurd (both_ways false refl h)
part_told shard (Check run epoch zero base ∷ rs) d t h = absurd (both_ways false refl h)
part_told shard (Check run epoch (suc n) base ∷ rs) d t h = checked_told shard run epoch (suc n) base (take n rs) d t h
part_told shard (_ ∷ rs) d t h = absurd (both_ways false refl h)

pub stand_told : (shard : ℕ) (log : List LogRecord) → disorder shard log ≡ None → (t : TxId) → has_standing log t ≡ true → (committed_in log t ≡ true) ⊎ ((prepared_in log t ≡ true) ⊎ (in_last_run log t ≡ true))
stand_told shard log d =
    let s = split_order shard log d in
    subst AllTold (take-append-drop (upto_of log) log) (told_follows shard (part_of log) (later_of log) s.1 (part_told shard log s.0))
