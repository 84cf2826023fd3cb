-- The checkpoint of a log in order is in order: each record that it keeps keeps its rule.
pub mod LastRunIsGreatest
pub mod OldWritersArePrepared
pub mod ClosedWriteNoMore
pub mod KeptRecordsWereThere
pub mod OpenWritesStandOnTheMap
pub mod WhoIsUnknown
use Rattle.std.proofs.Common.{◌≡◌, ◌⊎◌, inl, inr, ⊎_elim, refl, sym, ap, subst, ◌∙◌, ℕ, zero, suc, ◌+◌, ◌≤◌, ◌<◌, Bool, true, false, cond, not, ◌&&◌, ◌||◌, ◌==◌, nat_lt, nat_le, List, [], ◌∷◌, ◌++◌, append_assoc, length, take, drop, take_all, drop_of_length-le, Option, Some, None, eq-eqb, arith}
use Rattle.std.specs.Prelude.{◌^◌, T}
use Rattle.std.specs.List.{AllByRecursion, filter, list_any, list_all}
use Rattle.std.specs.Ordering.{nat_cmp}
use Rattle.std.specs.FinMap.{is_sorted}
use Rattle.std.proofs.lemmas.Bool.{both_ways, and_parts, and_from, cond_both, or_cases, false_from_ne_true, lt-ltb, le-leb}
use Rattle.std.proofs.lemmas.List.Folds.{list_any-append}
use Rattle.clv_base.specs.declared.names.TxId.{TxId}
use Rattle.clv_base.specs.declared.values.Value.{Value as ValueType}
use Rattle.clv_base.specs.declared.logs.LogRecord.{LogRecord}
use Rattle.clv_base.specs.declared.logs.LogRecord.TheVariants.{Update, Clr, Prepare, Commit, Abort, End, Restart, Add, Unadd, Forgotten, Check}
use Rattle.clv_base.specs.declared.changes.Change.TheVariants.{Sets, Adds}
use Rattle.clv_base.specs.Orders.{tx_same, tx_in, nat_in}
use Rattle.clv_base.specs.Maps.{KeyMap}
use Rattle.clv_base.specs.Values.{same_optional_value}
use Rattle.clv_base.specs.Logs.{StandingUpdate, own_tx, is_setting, standing, standing_from, standing_after, has_standing, wrote_in, committed_in, prepared_in, aborted_in, prepare_of, commit_parts, base_of, is_update_of, is_commit_of, is_prepare_of, is_abort_of, is_end_of}
use Rattle.clv_base.specs.LogRules.{last_restart, lies_below, has_above, writes_below, may_cover, may_set, may_add, some_parts, is_unclosed, may_keep, may_keep_committed, may_keep_open, may_list_kept, kept_disorder, is_whole_part, or_place, part_disorder, part_of, later_of, upto_of, disorder}
use Rattle.clv_base.specs.Checkpoints.{is_away, is_left_open, stands_at, kept_if, kept_prepare, kept_of, kept_from, no_restart, committed_map, check}
use Rattle.clv_base.proofs.SameNames.{or_left, or_right, tx_self}
use Rattle.law_base.specs.Coming.{is_let_go, is_of_past, may_come_listed, commit_may_come, may_come, Comes, AllCome, Follows}
use Rattle.law_base.proofs.Bools.{and_first as front, and_second as last, not_true}
use Rattle.law_base.proofs.InOrder.{comes_front, all_front}
use Rattle.law_base.proofs.LetGo.{let_go_unwritten}
use Rattle.law_base.proofs.Lists.{all_mono, all_both, all_filter, all_kept, filter_passes}
use Rattle.law_base.proofs.Logs.{writes_rise}
use Rattle.law_base.proofs.Names.{all_from}
use Rattle.law_base.proofs.Options.{optional_value_self}
use Rattle.law_base.proofs.Parts.{in_order_comes, make_order}
use Rattle.law_base.proofs.Sets.{in_filter, filter_in, list_all_at}
use Rattle.law_base.proofs.Standing.{Falls, falls_after, all_stand, standing_append, standing_push, stood_before, unwritten_stands}
use Rattle.law_base.proofs.Undoing.{Chain}
use Rattle.protocol_laws.specs.Order.{RunFits}
use Rattle.protocol_laws.proofs.LogsInOrder.{in_order, lie_in_order}
use Rattle.protocol_laws.proofs.LogsInOrder.OneRecordMore.{own_prepare, committed_there}
use Rattle.protocol_laws.proofs.LogsInOrder.RunsAreOfRestarts.{record_fits}
use Rattle.shard_laws.proofs.Order.ChangesKeepOrder.{prepare_same}
use Rattle.shard_laws.proofs.Restarts.AddsFindNumbers.{FindNumbers, find_numbers}
use Rattle.log_checkpoint.specs.Laws.{IsFirst}
use Rattle.log_checkpoint.proofs.Again.{commits_stay, prepares_stay, new_prepare, has_commit, no_commit_first, no_prepare_first}
use Rattle.log_checkpoint.proofs.Keeping.{committed_before, kept_length}
use Rattle.log_checkpoint.proofs.Leaving.{stays, one_kept, first_stands, open_stand}
use Rattle.log_checkpoint.proofs.StayingAlike.{has_prepare, has_abort}
use Rattle.checkpoint_laws.specs.Laws.{CheckpointsAreInOrder}
use Rattle.checkpoint_laws.proofs.InOrder.{begins, rising}
use Rattle.checkpoint_laws.proofs.GoingOn.{lie_same}
use Rattle.checkpoint_laws.proofs.WritesThatStay.{all_stay, below_stay}
use Rattle.checkpoint_laws.proofs.CheckpointsAreInOrder.LastRunIsGreatest.{of_last_run, past_of_last}
use Rattle.checkpoint_laws.proofs.CheckpointsAreInOrder.OldWritersArePrepared.{stand_told}
use Rattle.checkpoint_laws.proofs.CheckpointsAreInOrder.ClosedWriteNoMore.{come_unclosed, prepare_closes, commit_closes, abort_closes, writes_no_more, prepares_no_more}
use Rattle.checkpoint_laws.proofs.CheckpointsAreInOrder.KeptRecordsWereThere.{Wider, updates_wider, commits_wider, prepares_wider, aborts_wider, ends_wider, all_wider, none_wider, kept_append, prepares_of_open_stay, away_prepared, prepares_at_home_go, parts_stay, kept_pile}
use Rattle.checkpoint_laws.proofs.CheckpointsAreInOrder.OpenWritesStandOnTheMap.{open_chain, open_numbers, chain_below, numbers_below, all_below}
use Rattle.checkpoint_laws.proofs.CheckpointsAreInOrder.WhoIsUnknown.{unknown, checked_stands}

-- ---- one record that is kept, and those behind it

abbrev Keeps : ℕ → ℕ → List LogRecord → List LogRecord → LogRecord → Type 0
Keeps shard run kept so_far q = (q ≡ Forgotten) ⊎ (may_keep shard run kept so_far q (own_tx q) ≡ true)

module _ (shard run : ℕ) (kept : List LogRecord) where
  by_rule : (place : ℕ) (more : Option ℕ) (b : Bool) → b ≡ true → more ≡ None → ◌≡◌ {A = Option ℕ} (elim b [ true ↦ more | false ↦ Some place ]) None
  by_rule place more true e m = m
  by_rule place more false e m = absurd (both_ways false refl e)

  kept_on : (place : ℕ) (so_far : List LogRecord) (q : LogRecord) (rs : List LogRecord) → Keeps shard run kept so_far q → ((p : ℕ) → kept_disorder shard run kept p (so_far ++ q ∷ []) rs ≡ None) → kept_disorder shard run kept place so_far (q ∷ rs) ≡ None
  kept_on place so_far Forgotten rs k more = more place
  kept_on place so_far (Update tx key before after) rs (inr m) more = by_rule place _ _ m (more (suc place))
  kept_on place so_far (Clr tx undo_next key after) rs (inr m) more = by_rule place _ _ m (more (suc place))
  kept_on place so_far (Prepare tx home ps) rs (inr m) more = by_rule place _ _ m (more (suc place))
  kept_on place so_far (Commit tx parts) rs (inr m) more = by_rule place _ _ m (more (suc place))
  kept_on place so_far (Abort tx) rs (inr m) more = by_rule place _ _ m (more (suc place))
  kept_on place so_far (End tx) rs (inr m) more = by_rule place _ _ m (more (suc place))
  kept_on place so_far (Add tx key by) rs (inr m) more = by_rule place _ _ m (more (suc place))
  kept_on place so_far (Unadd tx undo_next key by) rs (inr m) more = by_rule place _ _ m (more (suc place))
  kept_on place so_far (Restart r e) rs (inr m) more = absurd (both_ways false refl m)
  kept_on place so_far (Check r e upto base) rs (inr m) more = absurd (both_ways false refl m)
  kept_on place so_far q rs (inl e) more = forgotten q e more
    where
      forgotten : (x : LogRecord) → x ≡ Forgotten → ((p : ℕ) → kept_disorder shard run kept p (so_far ++ x ∷ []) rs ≡ None) → kept_disorder shard run kept place so_far (x ∷ rs) ≡ None
      forgotten x is go =
          subst (λ z. kept_disorder shard run kept place so_far (z ∷ rs) ≡ None) (sym is) (subst (λ z. kept_disorder shard run kept place (so_far ++ z ∷ []) rs ≡ None) is (go place))

all_there : (P : LogRecord → Type 0) (xs : List LogRecord) (r : LogRecord) (rs : List LogRecord) → AllByRecursion P (xs ++ r ∷ rs) → P r
all_there P [] r rs a = a.0
all_there P (x ∷ xs) r rs a = all_there P xs r rs a.1

-- the first record of a log in order is a RESTART or a checkpoint
pub first_kind : (P : LogRecord → Type 0) → ((run epoch : ℕ) → P (Restart run epoch)) → ((run epoch upto : ℕ) (base : KeyMap) → P (Check run epoch upto base)) → (r : LogRecord) → IsFirst r → P r
first_kind P restart check (Restart run epoch) f = restart run epoch
first_kind P restart check (Check run epoch upto base) f = check run epoch upto base
first_kind P restart check (Update tx key before after) f = absurd f
first_kind P restart check (Add tx key by) f = absurd f
first_kind P restart check (Clr tx undo_next key after) f = absurd f
first_kind P restart check (Unadd tx undo_next key by) f = absurd f
first_kind P restart check (Prepare tx home ps) f = absurd f
first_kind P restart check (Commit tx parts) f = absurd f
first_kind P restart check (Abort tx) f = absurd f
first_kind P restart check (End tx) f = absurd f
first_kind P restart check Forgotten f = absurd f

of_t : (b : Bool) → T b → b ≡ true
of_t true t = refl
of_t false t = absurd t

-- the run of the last RESTART
same_last : (t : TxId) (o : Option (ℕ × ℕ)) → elim o [ Some p ↦ t.run == p.0 | None ↦ false ] ≡ true → (t.run == (no_restart o).0) ≡ true
same_last t None e = absurd (both_ways false refl e)
same_last t (Some p) e = e

-- what the rules of a PREPARE and a COMMIT ask
rule_of_list : (shard : ℕ) (part log : List LogRecord) (tx : TxId) (home : ℕ) (ps : List TxId) → may_come shard part log (Prepare tx home ps) ≡ true → list_all (may_come_listed part log tx) ps ≡ true
rule_of_list shard part log tx home ps m = last _ _ (front _ _ m)

rule_of_commit : (shard : ℕ) (part log : List LogRecord) (tx : TxId) (parts : List ℕ) → may_come shard part log (Commit tx parts) ≡ true → committed_in log tx ≡ false
rule_of_commit shard part log tx parts m = not_true _ (last _ _ (front _ _ (front _ _ (front _ _ (front _ _ (front _ _ (front _ _ m)))))))

rule_of_parts : (shard : ℕ) (part log : List LogRecord) (tx : TxId) (parts : List ℕ) → may_come shard part log (Commit tx parts) ≡ true → not (nat_in shard parts) ≡ true
rule_of_parts shard part log tx parts m = last _ _ (front _ _ (front _ _ (front _ _ (front _ _ m))))

rule_of_home : (shard : ℕ) (part log : List LogRecord) (tx : TxId) (parts : List ℕ) → may_come shard part log (Commit tx parts) ≡ true → commit_may_come shard part log tx parts (prepare_of log tx) ≡ true
rule_of_home shard part log tx parts m = last _ _ (front _ _ m)

-- a COMMIT with parts of one that is prepared comes at its home alone
home_here : (shard : ℕ) (part log : List LogRecord) (tx : TxId) (p : ℕ) (ps : List ℕ) (o : Option (ℕ × List TxId)) → commit_may_come shard part log tx (p ∷ ps) o ≡ true → is_away shard o ≡ false
home_here shard part log tx p ps None m = refl
home_here shard part log tx p ps (Some q) m = ⊎_elim (λ h. ap not h) (λ n. absurd (both_ways false refl n)) (or_cases (q.0 == shard) false m)

module _ (shard : ℕ) (first : LogRecord) (later : List LogRecord) (d : disorder shard (first ∷ later) ≡ None) where
  abbrev log : List LogRecord
  log = first ∷ later

  abbrev part : List LogRecord
  part = part_of log

  abbrev run : ℕ
  run = (no_restart (last_restart log)).0

  abbrev map_at : KeyMap
  map_at = committed_map log

  abbrev head : LogRecord
  head = Check run (no_restart (last_restart log)).1 (suc (length later)) map_at

  abbrev kept : List LogRecord
  kept = kept_from shard log 1 later

  begun : IsFirst first
  begun = begins shard log d

  all_come : AllCome shard part log
  all_come = in_order_comes shard log d

  -- ---- what stands in the checkpoint

  abbrev Left : StandingUpdate → Type 0
  Left w = is_left_open log w.tx ≡ true

  left_all : AllByRecursion Left (standing (head ∷ kept))
  left_all =
      subst (AllByRecursion Left) (sym (open_stand shard log begun))
      (all_mono _ _ (λ w e. and_from (not (committed_in log w.tx)) (has_standing log w.tx) e.1 e.0) _ (all_filter (λ w. has_standing log w.tx ≡ true) (λ w. not (committed_in log w.tx)) (standing log) (all_stand log)))

  chain_all : Chain map_at (standing (head ∷ kept))
  chain_all =
      subst (Chain map_at) (sym (open_stand shard log begun))
      (open_chain (committed_in log) (base_of log) (standing log) (lie_same (committed_in log) (standing log) (lie_in_order shard log d)) ((in_order shard log d).writes).chain)

  numbers_all : FindNumbers map_at (standing (head ∷ kept))
  numbers_all =
      subst (FindNumbers map_at) (sym (open_stand shard log begun))
      (open_numbers (committed_in log) (base_of log) (standing log) (lie_same (committed_in log) (standing log) (lie_in_order shard log d)) (find_numbers shard log d))

  -- ---- who is left open

  open_left : (t : TxId) → is_left_open log t ≡ true → committed_in log t ≡ false
  open_left t l = not_true _ (front _ _ l)

  none_kept_commits : (t : TxId) → committed_in log t ≡ false → committed_in kept t ≡ false
  none_kept_commits t u = false_from_ne_true _ (λ c. both_ways _ u (committed_before shard log t c))

  behind_first : (t : TxId) (rs : List LogRecord) → prepared_in (first ∷ rs) t ≡ true → prepared_in rs t ≡ true
  behind_first t rs = first_kind (λ r. prepared_in (r ∷ rs) t ≡ true → prepared_in rs t ≡ true) (λ r e h. h) (λ r e u b h. h) first begun

  parts_first : (t : TxId) (rs : List LogRecord) → commit_parts rs t ≡ commit_parts (first ∷ rs) t
  parts_first t rs = first_kind (λ r. commit_parts rs t ≡ commit_parts (r ∷ rs) t) (λ r e. refl) (λ r e u b. refl) first begun

  writer_fits : (t : TxId) → is_left_open log t ≡ true → ((t.run == run) || prepared_in kept t) ≡ true
  writer_fits t l =
      ⊎_elim (λ c. absurd (both_ways _ (open_left t l) c))
      (λ x. ⊎_elim (λ p. or_right (t.run == run) _ (prepares_of_open_stay shard log t (open_left t l) l 1 later (behind_first t later p))) (λ e. or_left _ _ (same_last t (last_restart log) e)) x)
      (stand_told shard log d t (last _ _ l))

  by_open : (so_far : List LogRecord) (q : LogRecord) (tx : TxId) → tx.run ≤ run → committed_in log tx ≡ false → may_keep_open run kept so_far q ≡ true → may_keep shard run kept so_far q (Some tx) ≡ true
  by_open so_far q tx l u m = and_from _ _ (le-leb tx.run run l) (ap (λ b. cond b (may_keep_committed shard so_far q) (may_keep_open run kept so_far q)) (none_kept_commits tx u) ∙ m)

  by_committed : (so_far : List LogRecord) (q : LogRecord) (tx : TxId) → tx.run ≤ run → committed_in kept tx ≡ true → may_keep_committed shard so_far q ≡ true → may_keep shard run kept so_far q (Some tx) ≡ true
  by_committed so_far q tx l c m = and_from _ _ (le-leb tx.run run l) (ap (λ b. cond b (may_keep_committed shard so_far q) (may_keep_open run kept so_far q)) c ∙ m)

  -- what stays of the writes behind a front
  front_from : (n : ℕ) (xs rest : List LogRecord) (ws : List StandingUpdate) → Falls n ws → standing_from n (xs ++ rest) ws ≡ standing log → standing_from n (kept_from shard log n xs) (filter (stays log) ws) ≡ filter (stays log) (standing_from n xs ws)
  front_from n [] rest ws falls e = refl
  front_from n (x ∷ xs) rest ws falls e =
      ap (standing_from (suc n) (kept_from shard log (suc n) xs)) (one_kept shard log n x (xs ++ rest) ws falls e)
      ∙ front_from (suc n) xs rest (standing_after n x ws) (falls_after n x ws falls) e

  -- ---- behind a front, at a record

  module _ (fs : List LogRecord) (r : LogRecord) (rs : List LogRecord) (is : later ≡ fs ++ r ∷ rs) (c : Comes shard part (first ∷ fs) (r ∷ rs)) where
    abbrev before : List LogRecord
    before = first ∷ fs

    abbrev so_far : List LogRecord
    so_far = head ∷ kept_from shard log 1 fs

    abbrev place : ℕ
    place = suc (length fs)

    abbrev here : LogRecord
    here = kept_of shard log place r

    log_is : log ≡ before ++ r ∷ rs
    log_is = ap (λ l. first ∷ l) is

    kept_is : kept ≡ kept_from shard log 1 fs ++ here ∷ kept_from shard log (suc place) rs
    kept_is = ap (kept_from shard log 1) is ∙ kept_append shard log 1 fs (r ∷ rs) ∙ ap (λ n. kept_from shard log 1 fs ++ kept_from shard log n (r ∷ rs)) (omega arith)

    fits : RunFits run r
    fits = all_there (RunFits run) before r rs (subst (AllByRecursion (RunFits run)) log_is (of_last_run shard log d))

    in_log : (f : LogRecord → Bool) → list_any f before ≡ true → list_any f log ≡ true
    in_log f e = ap (list_any f) log_is ∙ list_any-append f before (r ∷ rs) ∙ or_left _ _ e

    untold : (f : LogRecord → Bool) → Wider f → f head ≡ false → list_any f before ≡ false → list_any f so_far ≡ false
    untold f w none e =
        false_from_ne_true _ (λ h. both_ways _ e (⊎_elim (λ a. absurd (both_ways _ none a)) (λ b. or_right (f first) _ (all_wider f w shard log 1 fs b)) (or_cases (f head) (list_any f (kept_from shard log 1 fs)) h)))

    not_prepared : (t : TxId) → prepared_in before t ≡ false → not (prepared_in so_far t) ≡ true
    not_prepared t e = ap not (untold (is_prepare_of t) (prepares_wider t) refl e)

    not_committed : (t : TxId) → committed_in before t ≡ false → not (committed_in so_far t) ≡ true
    not_committed t e = ap not (untold (is_commit_of t) (commits_wider t) refl e)

    not_aborted : (t : TxId) → aborted_in before t ≡ false → not (aborted_in so_far t) ≡ true
    not_aborted t e = ap not (untold (is_abort_of t) (aborts_wider t) refl e)

    unclosed : (t : TxId) → is_unclosed before t ≡ true → is_unclosed so_far t ≡ true
    unclosed t u = and_from _ _ (and_from _ _ (not_prepared t (not_true _ (front _ _ (front _ _ u)))) (not_committed t (not_true _ (last _ _ (front _ _ u))))) (not_aborted t (not_true _ (last _ _ u)))

    open_before : (t : TxId) → is_left_open log t ≡ true → committed_in before t ≡ false
    open_before t l = false_from_ne_true _ (λ e. both_ways _ (open_left t l) (in_log (is_commit_of t) e))

    prepared_here : (t : TxId) → is_left_open log t ≡ true → prepared_in before t ≡ true → prepared_in so_far t ≡ true
    prepared_here t l p = prepares_of_open_stay shard log t (open_left t l) l 1 fs (behind_first t fs p)

    covers : (tx : TxId) (w : StandingUpdate) → Left w → may_cover before tx w ≡ true → may_cover so_far tx w ≡ true
    covers tx w l e =
        ⊎_elim (λ s. or_left _ _ s)
        (λ h. or_right (tx_same tx w.tx) _
        (and_from _ _ (or_left _ _ (prepared_here w.tx l (⊎_elim (λ p. p) (λ k. absurd (both_ways _ (open_before w.tx l) k)) (or_cases (prepared_in before w.tx) (committed_in before w.tx) (front _ _ h)))))
        (not_aborted w.tx (not_true _ (last _ _ h)))))
        (or_cases (tx_same tx w.tx) _ e)

    -- ---- writes

    whole : standing (head ∷ kept) ≡ standing_from (0 + length so_far) (here ∷ kept_from shard log (suc place) rs) (standing so_far)
    whole = ap (λ l. standing (head ∷ l)) kept_is ∙ standing_append 0 so_far (here ∷ kept_from shard log (suc place) rs) []

    pile : (new : List StandingUpdate) × (standing (head ∷ kept) ≡ new ++ standing_after (0 + length so_far) here (standing so_far))
    pile =
        let k = kept_pile shard log (suc place) rs (suc (0 + length so_far)) (standing_after (0 + length so_far) here (standing so_far)) in (k.0, whole ∙ k.1)

    under : (new : List StandingUpdate) × (standing (head ∷ kept) ≡ new ++ standing so_far)
    under = let k = kept_pile shard log place (r ∷ rs) (0 + length so_far) (standing so_far) in (k.0, whole ∙ k.1)

    left_here : AllByRecursion Left (standing_after (0 + length so_far) here (standing so_far))
    left_here = all_below Left pile.0 _ (subst (AllByRecursion Left) pile.1 left_all)

    left_under : AllByRecursion Left (standing so_far)
    left_under = all_below Left under.0 (standing so_far) (subst (AllByRecursion Left) under.1 left_all)

    chain_here : Chain map_at (standing_after (0 + length so_far) here (standing so_far))
    chain_here = chain_below map_at pile.0 _ (subst (Chain map_at) pile.1 chain_all)

    numbers_here : FindNumbers map_at (standing_after (0 + length so_far) here (standing so_far))
    numbers_here = numbers_below map_at pile.0 _ (subst (FindNumbers map_at) pile.1 numbers_all)

    stand_front : standing so_far ≡ filter (stays log) (standing before)
    stand_front =
        front_from 1 fs (r ∷ rs) [] tt (ap (λ l. standing_from 1 l []) (sym is) ∙ first_stands first later begun)
        ∙ ap (filter (stays log)) (first_stands first fs begun)

    left_front : AllByRecursion Left (filter (stays log) (standing before))
    left_front = subst (AllByRecursion Left) stand_front left_under

    -- what a test says of all writes there another says of those that stay
    all_stand_here : (f g : StandingUpdate → Bool) → ((w : StandingUpdate) → Left w → f w ≡ true → g w ≡ true) → list_all f (standing before) ≡ true → list_all g (standing so_far) ≡ true
    all_stand_here f g step e = subst (λ ws. list_all g ws ≡ true) (sym stand_front) (all_stay Left f g (stays log) (standing before) step left_front e)

    below_stand_here : (tx : TxId) (f g : StandingUpdate → Bool) → ((w : StandingUpdate) → Left w → f w ≡ true → g w ≡ true) → list_all f (writes_below tx (standing before)) ≡ true → list_all g (writes_below tx (standing so_far)) ≡ true
    below_stand_here tx f g step e = subst (λ ws. list_all g (writes_below tx ws) ≡ true) (sym stand_front) (below_stay Left f g (stays log) (standing before) step left_front tx e)

    -- who is left open and writes no more has its write there
    stands_here : (t : TxId) → is_left_open log t ≡ true → wrote_in (r ∷ rs) t ≡ false → has_standing so_far t ≡ true
    stands_here t l none =
        stood_before so_far (here ∷ kept_from shard log (suc place) rs) t (none_wider (is_update_of t) (updates_wider t) shard log place (r ∷ rs) none)
        (subst (λ k. has_standing (head ∷ k) t ≡ true) kept_is (checked_stands shard first later begun t ∙ l))

    -- ---- whom a PREPARE lists

    of_run : (tx p : TxId) → may_come_listed part before tx p ≡ true → p.run ≤ run
    of_run tx p m =
        ⊎_elim (λ e. record_fits run p (is_prepare_of p) (own_prepare p) log (of_last_run shard log d) (in_log (is_prepare_of p) (front _ _ (front _ _ e)))) (λ e. past_of_last shard log before (r ∷ rs) d log_is p (last _ _ e))
        (or_cases (prepared_in before p && not (committed_in before p) && not (aborted_in before p)) (is_let_go part p && is_of_past before p) (last _ _ m))

    listed_here : (tx p : TxId) → may_come_listed part before tx p ≡ true → committed_in log p ≡ false → may_list_kept kept so_far tx p ≡ true
    listed_here tx p m u = at (has_standing log p) refl
      where
        at : (b : Bool) → has_standing log p ≡ b → may_list_kept kept so_far tx p ≡ true
        at false h = or_left _ _ (ap not (unknown shard first later d p u h))
        at true h =
            let l : is_left_open log p ≡ true = and_from _ _ (ap not u) h in
            ⊎_elim
            (λ e. or_right _ _ (and_from _ _ (and_from _ _ (and_from _ _ (front _ _ m) (prepared_here p l (front _ _ (front _ _ e)))) (not_committed p (open_before p l))) (not_aborted p (not_true _ (last _ _ e)))))
            (λ e. absurd (both_ways _ (unwritten_stands log p (let_go_unwritten shard part p (front _ _ e) log all_come)) h))
            (or_cases (prepared_in before p && not (committed_in before p) && not (aborted_in before p)) (is_let_go part p && is_of_past before p) (last _ _ m))

  -- ---- each kind of record

  if_keeps : (front : List LogRecord) (b : Bool) (q : LogRecord) → (b ≡ true → may_keep shard run kept front q (own_tx q) ≡ true) → Keeps shard run kept front (kept_if b q)
  if_keeps front true q k = inr (k refl)
  if_keeps front false q k = inl refl

  update_keeps : (fs : List LogRecord) (tx : TxId) (key : ℕ) (left right : Option ValueType) (rs : List LogRecord) → later ≡ fs ++ Update tx key left right ∷ rs → Comes shard part (first ∷ fs) (Update tx key left right ∷ rs)
      → Keeps shard run kept (head ∷ kept_from shard log 1 fs) (kept_of shard log (suc (length fs)) (Update tx key left right))
  update_keeps fs tx key left right rs is c =
      if_keeps (head ∷ kept_from shard log 1 fs) (not (committed_in log tx) && stands_at (suc (length fs)) (standing log)) r (λ e.
      let u : committed_in log tx ≡ false = not_true _ (front _ _ e) in
      let own : kept_of shard log (suc (length fs)) r ≡ r = ap (λ b. kept_if b r) e in
      let lefts = subst (λ q. AllByRecursion Left (standing_after (0 + length (head ∷ kept_from shard log 1 fs)) q (standing (head ∷ kept_from shard log 1 fs)))) own (left_here fs r rs is c) in
      let chains = subst (λ q. Chain map_at (standing_after (0 + length (head ∷ kept_from shard log 1 fs)) q (standing (head ∷ kept_from shard log 1 fs)))) own (chain_here fs r rs is c) in
      by_open (head ∷ kept_from shard log 1 fs) r tx (fits fs r rs is c) u
      (and_from _ _ (and_from _ _ (and_from _ _
      (and_from _ _ (writer_fits tx lefts.0) (unclosed fs r rs is c tx (come_unclosed shard part (first ∷ fs) r tx c.0 (or_left _ _ (tx_self tx)))))
      (subst (λ v. same_optional_value left v ≡ true) chains.0 (optional_value_self left)))
      (last _ _ (front _ _ c.0)))
      (all_stand_here fs r rs is c (λ w. not (key == w.key) || may_cover (first ∷ fs) tx w) (λ w. not (key == w.key) || may_cover (head ∷ kept_from shard log 1 fs) tx w)
      (λ w l h. ⊎_elim (λ k. or_left _ _ k) (λ k. or_right (not (key == w.key)) _ (covers fs r rs is c tx w l k)) (or_cases (not (key == w.key)) _ h)) (last _ _ c.0))))
    where
      r : LogRecord
      r = Update tx key left right

  add_keeps : (fs : List LogRecord) (tx : TxId) (key by : ℕ) (rs : List LogRecord) → later ≡ fs ++ Add tx key by ∷ rs → Comes shard part (first ∷ fs) (Add tx key by ∷ rs)
      → Keeps shard run kept (head ∷ kept_from shard log 1 fs) (kept_of shard log (suc (length fs)) (Add tx key by))
  add_keeps fs tx key by rs is c =
      if_keeps (head ∷ kept_from shard log 1 fs) (not (committed_in log tx) && stands_at (suc (length fs)) (standing log)) r (λ e.
      let u : committed_in log tx ≡ false = not_true _ (front _ _ e) in
      let own : kept_of shard log (suc (length fs)) r ≡ r = ap (λ b. kept_if b r) e in
      let lefts = subst (λ q. AllByRecursion Left (standing_after (0 + length (head ∷ kept_from shard log 1 fs)) q (standing (head ∷ kept_from shard log 1 fs)))) own (left_here fs r rs is c) in
      let numbers = subst (λ q. FindNumbers map_at (standing_after (0 + length (head ∷ kept_from shard log 1 fs)) q (standing (head ∷ kept_from shard log 1 fs)))) own (numbers_here fs r rs is c) in
      by_open (head ∷ kept_from shard log 1 fs) r tx (fits fs r rs is c) u
      (and_from _ _ (and_from _ _
      (and_from _ _ (writer_fits tx lefts.0) (unclosed fs r rs is c tx (come_unclosed shard part (first ∷ fs) r tx c.0 (or_left _ _ (tx_self tx)))))
      numbers.0)
      (all_stand_here fs r rs is c (λ w. not (key == w.key) || not (is_setting w.change) || may_cover (first ∷ fs) tx w) (λ w. not (key == w.key) || not (is_setting w.change) || may_cover (head ∷ kept_from shard log 1 fs) tx w)
      (λ w l h. ⊎_elim (λ k. or_left _ _ k) (λ k. or_right (not (key == w.key) || not (is_setting w.change)) _ (covers fs r rs is c tx w l k)) (or_cases (not (key == w.key) || not (is_setting w.change)) _ h)) (last _ _ c.0))))
    where
      r : LogRecord
      r = Add tx key by

  prepare_keeps : (fs : List LogRecord) (tx : TxId) (home : ℕ) (ps : List TxId) (rs : List LogRecord) → later ≡ fs ++ Prepare tx home ps ∷ rs → Comes shard part (first ∷ fs) (Prepare tx home ps ∷ rs)
      → Keeps shard run kept (head ∷ kept_from shard log 1 fs) (kept_of shard log (suc (length fs)) (Prepare tx home ps))
  prepare_keeps fs tx home ps rs is c = at (committed_in log tx) refl
    where
      r : LogRecord
      r = Prepare tx home ps

      G : List LogRecord
      G = head ∷ kept_from shard log 1 fs

      cut : List TxId
      cut = filter (λ p. not (committed_in log p)) ps

      u : is_unclosed (first ∷ fs) tx ≡ true
      u = come_unclosed shard part (first ∷ fs) r tx c.0 (tx_self tx)

      own : prepare_of log tx ≡ Some (home, ps)
      own = ap (λ l. prepare_of l tx) (log_is fs r rs is c) ∙ new_prepare (first ∷ fs) tx home ps rs (not_true _ (front _ _ (front _ _ u)))

      listed : (w : StandingUpdate) → Left w → (committed_in (first ∷ fs) w.tx || tx_in w.tx ps) ≡ true → (committed_in G w.tx || tx_in w.tx cut) ≡ true
      listed w l h =
          ⊎_elim (λ k. absurd (both_ways _ (open_before fs r rs is c w.tx l) k)) (λ i. or_right (committed_in G w.tx) _ (filter_in (λ p. not (committed_in log p)) w.tx ps i (ap not (open_left w.tx l))))
          (or_cases (committed_in (first ∷ fs) w.tx) (tx_in w.tx ps) h)

      each : (p : TxId) → tx_in p cut ≡ true → (nat_le p.run run && may_list_kept kept G tx p) ≡ true
      each p i =
          let f = in_filter (λ q. not (committed_in log q)) p ps i in
          let m = list_all_at (may_come_listed part (first ∷ fs) tx) p ps (rule_of_list shard part (first ∷ fs) tx home ps c.0) f.0 in
          and_from _ _ (le-leb p.run run (of_run fs r rs is c tx p m)) (listed_here fs r rs is c tx p m (not_true _ f.1))

      at : (b : Bool) → committed_in log tx ≡ b → Keeps shard run kept G (kept_prepare shard log tx home ps b)
      at true k =
          if_keeps G (not (home == shard)) (Prepare tx home []) (λ a.
          by_committed G (Prepare tx home []) tx (fits fs r rs is c) (commits_stay shard log 1 later tx (ap (is_away shard) own ∙ a) (no_commit_first shard first later begun tx ∙ k))
          (and_from _ _ (and_from _ _ (and_from _ _ a refl) (not_prepared fs r rs is c tx (not_true _ (front _ _ (front _ _ u))))) (not_committed fs r rs is c tx (not_true _ (last _ _ (front _ _ u))))))
      at false k =
          if_keeps G (is_left_open log tx) (Prepare tx home cut) (λ l.
          by_open G (Prepare tx home cut) tx (fits fs r rs is c) k
          (and_from _ _ (and_from _ _
          (and_from _ _ (stands_here fs r rs is c tx l (writes_no_more shard part tx (is_prepare_of tx) (prepare_closes tx) (first ∷ fs ++ r ∷ []) rs c.1 (has_prepare (first ∷ fs) tx home ps []))) (unclosed fs r rs is c tx u))
          (all_from (λ p. nat_le p.run run && may_list_kept kept G tx p) cut each))
          (below_stand_here fs r rs is c tx (λ w. committed_in (first ∷ fs) w.tx || tx_in w.tx ps) (λ w. committed_in G w.tx || tx_in w.tx cut) listed (last _ _ c.0))))

  commit_keeps : (fs : List LogRecord) (tx : TxId) (parts : List ℕ) (rs : List LogRecord) → later ≡ fs ++ Commit tx parts ∷ rs → Comes shard part (first ∷ fs) (Commit tx parts ∷ rs)
      → Keeps shard run kept (head ∷ kept_from shard log 1 fs) (kept_of shard log (suc (length fs)) (Commit tx parts))
  commit_keeps fs tx parts rs is c =
      if_keeps G (some_parts parts || is_away shard (prepare_of log tx)) r (λ e. by_committed G r tx (fits fs r rs is c) (there e) (rule parts refl e))
    where
      r : LogRecord
      r = Commit tx parts

      G : List LogRecord
      G = head ∷ kept_from shard log 1 fs

      committed : committed_in log tx ≡ true
      committed = ap (λ l. committed_in l tx) (log_is fs r rs is c) ∙ has_commit (first ∷ fs) tx parts rs

      uncommitted : committed_in (first ∷ fs) tx ≡ false
      uncommitted = rule_of_commit shard part (first ∷ fs) tx parts c.0

      there : (some_parts parts || is_away shard (prepare_of log tx)) ≡ true → committed_in kept tx ≡ true
      there e =
          ap (λ l. committed_in l tx) (kept_is fs r rs is c) ∙ list_any-append (is_commit_of tx) (kept_from shard log 1 fs) (kept_of shard log (suc (length fs)) r ∷ kept_from shard log (suc (suc (length fs))) rs)
          ∙ or_right (committed_in (kept_from shard log 1 fs) tx) _ (or_left _ _ (ap (λ b. is_commit_of tx (kept_if b r)) e ∙ tx_self tx))

      -- the PREPARE stands before it
      away_before : is_away shard (prepare_of log tx) ≡ true → is_away shard (prepare_of fs tx) ≡ true
      away_before a =
          ap (is_away shard)
          (no_prepare_first shard first fs begun tx
          ∙ sym (prepare_same (first ∷ fs) (r ∷ rs) tx (prepares_no_more shard part tx (is_commit_of tx) (commit_closes tx) (first ∷ fs ++ r ∷ []) rs c.1 (has_commit (first ∷ fs) tx parts [])))
          ∙ ap (λ l. prepare_of l tx) (sym (log_is fs r rs is c)))
          ∙ a

      at_home : (p : ℕ) (qs : List ℕ) → parts ≡ p ∷ qs → is_away shard (prepare_of fs tx) ≡ false
      at_home p qs own =
          ap (is_away shard) (no_prepare_first shard first fs begun tx)
          ∙ home_here shard part (first ∷ fs) tx p qs (prepare_of (first ∷ fs) tx) (subst (λ l. commit_may_come shard part (first ∷ fs) tx l (prepare_of (first ∷ fs) tx) ≡ true) own (rule_of_home shard part (first ∷ fs) tx parts c.0))

      rule : (l : List ℕ) → parts ≡ l → (some_parts l || is_away shard (prepare_of log tx)) ≡ true → may_keep_committed shard G (Commit tx l) ≡ true
      rule [] own e =
          and_from _ _ (away_prepared shard (kept_from shard log 1 fs) tx (prepares_stay shard log 1 fs tx committed (away_before e))) (not_committed fs r rs is c tx uncommitted)
      rule (p ∷ qs) own e =
          and_from _ _
          (and_from _ _ (subst (λ l. not (nat_in shard l) ≡ true) own (rule_of_parts shard part (first ∷ fs) tx parts c.0))
          (ap not (prepares_at_home_go shard log part tx committed (first ∷ []) 1 fs (comes_front shard part (first ∷ []) fs (r ∷ rs) (subst (Comes shard part (first ∷ [])) is all_come.1)) (at_home p qs own))))
          (not_committed fs r rs is c tx uncommitted)

  abort_keeps : (fs : List LogRecord) (tx : TxId) (rs : List LogRecord) → later ≡ fs ++ Abort tx ∷ rs → Comes shard part (first ∷ fs) (Abort tx ∷ rs)
      → Keeps shard run kept (head ∷ kept_from shard log 1 fs) (kept_of shard log (suc (length fs)) (Abort tx))
  abort_keeps fs tx rs is c =
      if_keeps (head ∷ kept_from shard log 1 fs) (is_left_open log tx) r (λ l.
      by_open (head ∷ kept_from shard log 1 fs) r tx (fits fs r rs is c) (open_left tx l)
      (and_from _ _
      (and_from _ _ (stands_here fs r rs is c tx l (writes_no_more shard part tx (is_abort_of tx) (abort_closes tx) (first ∷ fs ++ r ∷ []) rs c.1 (has_abort (first ∷ fs) tx [])))
      (not_committed fs r rs is c tx (not_true _ (last _ _ (front _ _ c.0)))))
      (not_aborted fs r rs is c tx (not_true _ (last _ _ c.0)))))
    where
      r : LogRecord
      r = Abort tx

  end_keeps : (fs : List LogRecord) (tx : TxId) (rs : List LogRecord) → later ≡ fs ++ End tx ∷ rs → Comes shard part (first ∷ fs) (End tx ∷ rs) → Keeps shard run kept (head ∷ kept_from shard log 1 fs) (End tx)
  end_keeps fs tx rs is c = at (commit_parts (first ∷ fs) tx) refl (last _ _ c.0)
    where
      r : LogRecord
      r = End tx

      at : (o : Option (List ℕ)) → commit_parts (first ∷ fs) tx ≡ o → elim o [ Some ps ↦ some_parts ps | None ↦ false ] ≡ true → Keeps shard run kept (head ∷ kept_from shard log 1 fs) (End tx)
      at None own e = absurd (both_ways false refl e)
      at (Some ps) own e =
          let k : commit_parts (kept_from shard log 1 fs) tx ≡ Some ps = parts_stay shard log 1 fs tx ps (parts_first tx fs ∙ own) e in
          inr (by_committed (head ∷ kept_from shard log 1 fs) r tx (fits fs r rs is c)
          (ap (λ l. committed_in l tx) (kept_is fs r rs is c) ∙ list_any-append (is_commit_of tx) (kept_from shard log 1 fs) (r ∷ kept_from shard log (suc (suc (length fs))) rs) ∙ or_left _ _ (committed_there (kept_from shard log 1 fs) tx ps k))
          (and_from _ _ (ap not (untold fs r rs is c (is_end_of tx) (ends_wider tx) refl (not_true _ (last _ _ (front _ _ c.0)))))
          (ap (λ o. elim o [ Some qs ↦ some_parts qs | None ↦ false ]) k ∙ e)))

  keeps : (fs : List LogRecord) (r : LogRecord) (rs : List LogRecord) → later ≡ fs ++ r ∷ rs → Comes shard part (first ∷ fs) (r ∷ rs) → Keeps shard run kept (head ∷ kept_from shard log 1 fs) (kept_of shard log (suc (length fs)) r)
  keeps fs (Update tx key left right) rs is c = update_keeps fs tx key left right rs is c
  keeps fs (Add tx key by) rs is c = add_keeps fs tx key by rs is c
  keeps fs (Prepare tx home ps) rs is c = prepare_keeps fs tx home ps rs is c
  keeps fs (Commit tx parts) rs is c = commit_keeps fs tx parts rs is c
  keeps fs (Abort tx) rs is c = abort_keeps fs tx rs is c
  keeps fs (End tx) rs is c = end_keeps fs tx rs is c
  keeps fs (Clr tx undo_next key after) rs is c = inl refl
  keeps fs (Unadd tx undo_next key by) rs is c = inl refl
  keeps fs (Restart r e) rs is c = inl refl
  keeps fs Forgotten rs is c = inl refl
  keeps fs (Check r e upto base) rs is c = inl refl

  -- ---- all of them

  all_keep : (place : ℕ) (fs rs : List LogRecord) → later ≡ fs ++ rs → Comes shard part (first ∷ fs) rs → kept_disorder shard run kept place (head ∷ kept_from shard log 1 fs) (kept_from shard log (suc (length fs)) rs) ≡ None
  all_keep place fs [] is c = refl
  all_keep place fs (r ∷ rs) is c =
      kept_on shard run kept place (head ∷ kept_from shard log 1 fs) (kept_of shard log (suc (length fs)) r) (kept_from shard log (suc (suc (length fs))) rs) (keeps fs r rs is c)
      (λ p.
      subst (λ l. kept_disorder shard run kept p (head ∷ l) (kept_from shard log (suc (suc (length fs))) rs) ≡ None)
      (kept_append shard log 1 fs (r ∷ []) ∙ ap (λ n. kept_from shard log 1 fs ++ kept_of shard log n r ∷ []) (omega arith))
      (subst (λ n. kept_disorder shard run kept p (head ∷ kept_from shard log 1 (fs ++ r ∷ [])) (kept_from shard log (suc n) rs) ≡ None) (length_push fs)
      (all_keep p (fs ++ r ∷ []) rs (is ∙ sym (append_assoc fs (r ∷ []) rs)) c.1)))
    where
      length_push : (xs : List LogRecord) → length (xs ++ r ∷ []) ≡ suc (length xs)
      length_push [] = refl
      length_push (x ∷ xs) = ap suc (length_push xs)

  part_in_order : length log < 2 ^ 63 → part_disorder shard (head ∷ kept) ≡ None
  part_in_order l =
      ap (λ b. or_place (cond b None (Some 0)) (kept_disorder shard run kept (1 + length map_at) (head ∷ []) kept))
      (and_from _ _ (and_from _ _ (eq-eqb (suc (length kept)) (suc (length later)) (ap suc (kept_length shard log 1 later))) (lt-ltb (suc (length later)) (2 ^ 63) l))
      (of_t (is_sorted nat_cmp map_at) (writes_rise (committed_in log) (standing log) (base_of log) (rising shard log d))))
      ∙ all_keep (1 + length map_at) [] later refl all_come.1

  check_in_order : length log < 2 ^ 63 → disorder shard (head ∷ kept) ≡ None
  check_in_order l =
      let long : length kept ≡ length later = kept_length shard log 1 later in
      make_order shard (head ∷ kept)
      (subst (λ k. part_disorder shard (head ∷ k) ≡ None) (sym (take_all (length later) kept (omega (arith, long)))) (part_in_order l))
      (subst (Follows shard (part_of (head ∷ kept))) (sym (drop_of_length-le kept {i = length later} (omega (arith, long)))) tt)

pub checked_in_order : CheckpointsAreInOrder
checked_in_order shard [] d l = d
checked_in_order shard (r ∷ rs) d l = check_in_order shard r rs d l
