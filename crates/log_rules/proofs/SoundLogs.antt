-- What holds of a log in order.
use Rattle.std.proofs.Common.{◌≡◌, ℕ, ◌+◌, Bool, true, false, cond, not, ◌&&◌, ◌||◌, ◌==◌, List, [], ◌∷◌, ◌++◌, length, Option, Some, None, is_some, ⊎_elim, refl, sym, ap, subst, ◌∙◌, append_assoc, append-nil, arith}
use Rattle.std.specs.List.{AllByRecursion, list_any, list_all}
use Rattle.std.proofs.lemmas.Bool.{both_ways, cond-false, or_cases, or_parts, or_right}
use Rattle.std.proofs.lemmas.List.{length_push}
use Rattle.std.proofs.lemmas.List.Folds.{list_any-append}
use Rattle.clv_base.specs.declared.names.TxId.{TxId}
use Rattle.clv_base.specs.declared.changes.Change.{Change}
use Rattle.clv_base.specs.declared.changes.Change.TheVariants.{Sets, Adds}
use Rattle.clv_base.specs.declared.logs.LogRecord.{LogRecord}
use Rattle.clv_base.specs.declared.logs.LogRecord.TheVariants.{Update, Clr, Prepare, Commit, Abort, End, Restart, Add, Unadd, Forgotten, Check}
use Rattle.clv_base.specs.Orders.{tx_same, tx_in}
use Rattle.clv_base.specs.Maps.{KeyMap}
use Rattle.clv_base.specs.Logs.{StandingUpdate, base_of, is_setting, is_commit_of, is_prepare_of, is_abort_of, committed_in, prepared_in, aborted_in, prepare_of, standing, standing_after, newest_of, without_newest, value_in}
use Rattle.clv_base.specs.LogRules.{before_restart, is_listed, listed_in, may_cover, may_undo, may_follow}
use Rattle.clv_base.proofs.SameNames.{or_left, tx_true, tx_self}
use Rattle.log_analysis.proofs.Laws.Bools.{and_first, and_second, all_weaker}
use Rattle.log_analysis.proofs.Laws.Pushes.{any_push}
use Rattle.log_rules.proofs.Below.{Covers, all_pass, below_is, pass_more, pass_fewer, pass_pushed}
use Rattle.log_rules.proofs.RuleParts.{Undoes, update_rule, add_rule, prepare_rule, commit_rule, abort_rule, clr_rule, unadd_rule, clr_undoes, unadd_undoes}
use Rattle.log_rules.proofs.NewWrites.{some_behind}
use Rattle.log_rules.proofs.Standing.{top_value, IsClear, ahead, value_step, left_is}
use Rattle.law_base.specs.Items.{AllLater}
use Rattle.law_base.proofs.Sets.{list_all_at, same_flip as tx_symmetric}
use Rattle.law_base.proofs.Bools.{by_bool as both, or_false}
use Rattle.law_base.proofs.Lists.{later_mono}
use Rattle.law_base.proofs.Names.{Falls, falls_weaker, falls_without}
use Rattle.law_base.proofs.Numbers.{unequal_flip}
use Rattle.law_base.proofs.Options.{optional_value_true}
use Rattle.law_base.proofs.Bases.{base_push, follow_base}
use Rattle.law_base.proofs.Logs.{standing_push, push_left as any_more, no_prepare}
use Rattle.law_base.proofs.Undoing.{IsOver, Chain}

-- so it is of each PREPARE
abbrev pub EachPrepare : (TxId → ℕ → List TxId → Type 0) → List LogRecord → Type 0
EachPrepare P [] = Unit {0}
EachPrepare P (Prepare tx home listed ∷ rs) = P tx home listed × EachPrepare P rs
EachPrepare P (_ ∷ rs) = EachPrepare P rs

-- each PREPARE lists only transactions with an earlier one
abbrev pub ListsEarlier : List LogRecord → List LogRecord → Type 0
ListsEarlier seen [] = Unit {0}
ListsEarlier seen (Prepare tx home listed ∷ rs) = (list_all (prepared_in seen) listed ≡ true) × ListsEarlier (seen ++ Prepare tx home listed ∷ []) rs
ListsEarlier seen (r ∷ rs) = ListsEarlier (seen ++ r ∷ []) rs

-- prepared, committed or aborted
abbrev pub closed_in : List LogRecord → TxId → Bool
closed_in log t = prepared_in log t || (committed_in log t || aborted_in log t)

-- committed, or listed by another one
abbrev pub may_lie : List LogRecord → TxId → TxId → Bool
may_lie log t u = committed_in log u || tx_in u (listed_in log t)

pub record Sound (log : List LogRecord) : Type 0 where
  -- the LSNs of the writes that stand fall, from the newest on
  pub falls : Falls (length log) (standing log)
  -- each UPDATE names the value below it
  pub chain : Chain (base_of log) (standing log)
  -- who is written over by another is closed
  pub covers : AllLater (Covers (closed_in log)) (standing log)
  -- below the writes of a PREPARE without an ABORT all others' are committed or listed
  pub below : (t : TxId) → prepared_in log t ≡ true → aborted_in log t ≡ false → all_pass (may_lie log t) t (standing log) ≡ true
  pub fates : (t : TxId) → committed_in log t ≡ true → aborted_in log t ≡ false
  -- who is prepared and has no ABORT has a write that stands
  pub stands : (t : TxId) → prepared_in log t ≡ true → aborted_in log t ≡ false → is_some (newest_of t (standing log)) ≡ true
  -- no transaction has two PREPAREs
  pub once : EachPrepare (λ t home listed. prepare_of log t ≡ Some (home, listed)) log
  pub earlier : ListsEarlier [] log

-- of one that is committed nothing is undone
pub undone_uncommitted : (log : List LogRecord) (t : TxId) → Sound log → may_undo log t ≡ true → committed_in log t ≡ false
undone_uncommitted log t s may = at (committed_in log t) (aborted_in log t) (prepared_in log t) (s.fates t) may
  where
    at : (c a p : Bool) → (c ≡ true → a ≡ false) → a || (not p && not c) ≡ true → c ≡ false
    at false a p fate e = refl
    at true true p fate e = absurd (both_ways true (fate refl) refl)
    at true false true fate e = absurd (both_ways false refl e)
    at true false false fate e = absurd (both_ways false refl e)

-- ---- one record more, in general

pub any_other : (test : LogRecord → Bool) (log : List LogRecord) (r : LogRecord) → test r ≡ false → list_any test (log ++ r ∷ []) ≡ list_any test log
any_other test log r other = any_push test log r ∙ ap (λ b. list_any test log || b) other ∙ or_false (list_any test log)

any_less : (test : LogRecord → Bool) (log : List LogRecord) (r : LogRecord) → list_any test (log ++ r ∷ []) ≡ false → list_any test log ≡ false
any_less test log r none = (or_parts (list_any test log) (test r) (sym (any_push test log r) ∙ none)).0

closed_more : (log : List LogRecord) (r : LogRecord) (t : TxId) → closed_in log t ≡ true → closed_in (log ++ r ∷ []) t ≡ true
closed_more log r t e =
    ⊎_elim (λ p. ap (λ b. b || (committed_in (log ++ r ∷ []) t || aborted_in (log ++ r ∷ []) t)) (any_more (is_prepare_of t) log r p))
    (λ rest. or_right (prepared_in (log ++ r ∷ []) t) (committed_in (log ++ r ∷ []) t || aborted_in (log ++ r ∷ []) t)
    (⊎_elim (λ c. ap (λ b. b || aborted_in (log ++ r ∷ []) t) (any_more (is_commit_of t) log r c)) (λ a. or_right (committed_in (log ++ r ∷ []) t) (aborted_in (log ++ r ∷ []) t) (any_more (is_abort_of t) log r a))
    (or_cases (committed_in log t) (aborted_in log t) rest)))
    (or_cases (prepared_in log t) (committed_in log t || aborted_in log t) e)

covers_more : (log : List LogRecord) (r : LogRecord) (ws : List StandingUpdate) → AllLater (Covers (closed_in log)) ws → AllLater (Covers (closed_in (log ++ r ∷ []))) ws
covers_more log r ws later = later_mono (Covers (closed_in log)) (Covers (closed_in (log ++ r ∷ []))) (λ v w h at sets other. closed_more log r w.tx (h at sets other)) ws later

all_fewer : (P : StandingUpdate → Type 0) (over : List StandingUpdate) (w : StandingUpdate) (under : List StandingUpdate) → AllByRecursion P (over ++ w ∷ under) → AllByRecursion P (over ++ under)
all_fewer P [] w under all = all.1
all_fewer P (v ∷ vs) w under all = (all.0, all_fewer P vs w under all.1)

later_fewer : (R : StandingUpdate → StandingUpdate → Type 0) (over : List StandingUpdate) (w : StandingUpdate) (under : List StandingUpdate) → AllLater R (over ++ w ∷ under) → AllLater R (over ++ under)
later_fewer R [] w under later = later.1
later_fewer R (v ∷ vs) w under later = (all_fewer (R v) vs w under later.0, later_fewer R vs w under later.1)

chain_fewer : (floor : KeyMap) (over : List StandingUpdate) (w : StandingUpdate) (under : List StandingUpdate) → AllByRecursion (IsClear w) over → Chain floor (over ++ w ∷ under) → Chain floor (over ++ under)
chain_fewer floor [] w under clear chain = chain.1
chain_fewer floor (v ∷ vs) w under clear chain = (at v.change refl chain.0, chain_fewer floor vs w under clear.1 chain.1)
  where
    at : (c : Change) → v.change ≡ c → IsOver c (top_value floor v.key (vs ++ w ∷ under)) → IsOver c (top_value floor v.key (vs ++ under))
    at (Adds n) e is = tt
    at (Sets before after) e is =
        is ∙ ahead (top_value floor v.key) (value_step floor v.key) vs (w ∷ under) under
        (cond-false _ _ _ (both (λ b. (w.key == v.key) ≡ b → (v.key == w.key) ≡ false) (w.key == v.key) (λ _ same. absurd (both_ways _ (clear.0 same).0 (ap is_setting e))) (λ _ apart. unequal_flip w.key v.key apart) refl))

pub of_other : (tx t : TxId) (ws : List StandingUpdate) → tx_same tx t ≡ false → newest_of t (without_newest tx ws) ≡ newest_of t ws
of_other tx t [] other = refl
of_other tx t (v ∷ vs) other =
    both (λ b. tx_same tx v.tx ≡ b → newest_of t (cond b vs (v ∷ without_newest tx vs)) ≡ cond (tx_same t v.tx) (Some v) (newest_of t vs)) (tx_same tx v.tx)
    (λ _ own. sym (ap (λ b. cond b (Some v) (newest_of t vs)) (ap (tx_same t) (sym (tx_true tx v.tx own)) ∙ tx_symmetric t tx ∙ other)))
    (λ _ past. ap (λ o. cond (tx_same t v.tx) (Some v) o) (of_other tx t vs other)) refl

all_by : (f : StandingUpdate → Bool) (P : StandingUpdate → Type 0) → ((x : StandingUpdate) → f x ≡ true → P x) → (xs : List StandingUpdate) → list_all f xs ≡ true → AllByRecursion P xs
all_by f P h [] all = tt
all_by f P h (x ∷ xs) all = (h x (and_first (f x) (list_all f xs) all), all_by f P h xs (and_second (f x) (list_all f xs) all))

-- ---- PREPAREs, with one record more

each_more : (P Q : TxId → ℕ → List TxId → Type 0) → ((t : TxId) (home : ℕ) (listed : List TxId) → P t home listed → Q t home listed) → (log : List LogRecord) → EachPrepare P log → EachPrepare Q log
each_more P Q more [] each = tt
each_more P Q more (Prepare tx home listed ∷ rs) each = (more tx home listed each.0, each_more P Q more rs each.1)
each_more P Q more (_ ∷ rs) each = each_more P Q more rs each

each_push : (P : TxId → ℕ → List TxId → Type 0) (log : List LogRecord) (r : LogRecord) → EachPrepare P log → EachPrepare P (r ∷ []) → EachPrepare P (log ++ r ∷ [])
each_push P [] r each one = one
each_push P (Prepare tx home listed ∷ rs) r each one = (each.0, each_push P rs r each.1 one)
each_push P (_ ∷ rs) r each one = each_push P rs r each one

earlier_push : (seen log : List LogRecord) (r : LogRecord) → ListsEarlier seen log → ListsEarlier (seen ++ log) (r ∷ []) → ListsEarlier seen (log ++ r ∷ [])
earlier_push seen [] r so_far one = subst (λ l. ListsEarlier l (r ∷ [])) (append-nil seen) one
earlier_push seen (Prepare tx home listed ∷ rs) r so_far one =
    let h : LogRecord = Prepare tx home listed in
    (so_far.0, earlier_push (seen ++ h ∷ []) rs r so_far.1 (subst (λ l. ListsEarlier l (r ∷ [])) (sym (append_assoc seen (h ∷ []) rs)) one))
earlier_push seen (h ∷ rs) r so_far one = earlier_push (seen ++ h ∷ []) rs r so_far (subst (λ l. ListsEarlier l (r ∷ [])) (sym (append_assoc seen (h ∷ []) rs)) one)

-- whom a PREPARE lists has one
pub listed_earlier : (seen log : List LogRecord) (t : TxId) → ListsEarlier seen log → is_listed log t ≡ true → prepared_in (seen ++ log) t ≡ true
listed_earlier seen [] t each e = absurd (both_ways false refl e)
listed_earlier seen (Prepare tx home listed ∷ rs) t each e =
    let h : LogRecord = Prepare tx home listed in
    ⊎_elim (λ i. list_any-append (is_prepare_of t) seen (h ∷ rs) ∙ or_left _ _ (list_all_at (prepared_in seen) t listed each.0 i))
    (λ r. subst (λ l. prepared_in l t ≡ true) (append_assoc seen (h ∷ []) rs) (listed_earlier (seen ++ h ∷ []) rs t each.1 r)) (or_cases (tx_in t listed) (is_listed rs t) e)
listed_earlier seen (r ∷ rs) t each e = subst (λ l. prepared_in l t ≡ true) (append_assoc seen (r ∷ []) rs) (listed_earlier (seen ++ r ∷ []) rs t each e)

pub prepare_stays : (log : List LogRecord) (r : LogRecord) (t : TxId) (p : ℕ × List TxId) → prepare_of log t ≡ Some p → prepare_of (log ++ r ∷ []) t ≡ Some p
prepare_stays [] r t p e = absurd cc
prepare_stays (Prepare tx home listed ∷ rs) r t p e =
    both (λ b. cond b (Some (home, listed)) (prepare_of rs t) ≡ Some p → cond b (Some (home, listed)) (prepare_of (rs ++ r ∷ []) t) ≡ Some p) (tx_same t tx) (λ _ is. is) (λ _ is. prepare_stays rs r t p is) e
prepare_stays (_ ∷ rs) r t p e = prepare_stays rs r t p e

pub prepare_new : (log : List LogRecord) (r : LogRecord) (t : TxId) → prepared_in log t ≡ false → prepare_of (log ++ r ∷ []) t ≡ prepare_of (r ∷ []) t
prepare_new [] r t e = refl
prepare_new (Prepare tx home listed ∷ rs) r t e =
    let parts = or_parts (tx_same t tx) (prepared_in rs t) e in
    ap (λ b. cond b (Some (home, listed)) (prepare_of (rs ++ r ∷ []) t)) parts.0 ∙ prepare_new rs r t parts.1
prepare_new (_ ∷ rs) r t e = prepare_new rs r t e

pub listed_stays : (log : List LogRecord) (r : LogRecord) (t : TxId) → prepared_in log t ≡ true → listed_in (log ++ r ∷ []) t ≡ listed_in log t
listed_stays [] r t e = absurd cc
listed_stays (Prepare tx home listed ∷ rs) r t e =
    both (λ b. b || prepared_in rs t ≡ true → names (cond b (Some (home, listed)) (prepare_of (rs ++ r ∷ []) t)) ≡ names (cond b (Some (home, listed)) (prepare_of rs t))) (tx_same t tx) (λ _ _. refl) (λ _ is. listed_stays rs r t is) e
  where
    names : Option (ℕ × List TxId) → List TxId
    names o = elim o [ Some p ↦ p.1 | None ↦ [] ]
listed_stays (_ ∷ rs) r t e = listed_stays rs r t e

-- ---- each law, with one record more

module _ (shard : ℕ) (log : List LogRecord) (s : Sound log) where
  falls_after : (r : LogRecord) → Falls (length log + 1) (standing_after (length log) r (standing log))
  falls_after (Update tx key before after) = (omega arith, s.falls)
  falls_after (Add tx key by) = (omega arith, s.falls)
  falls_after (Clr tx undo_next key after) = falls_weaker (length log) (length log + 1) (without_newest tx (standing log)) (omega arith) (falls_without tx (length log) (standing log) s.falls)
  falls_after (Unadd tx undo_next key by) = falls_weaker (length log) (length log + 1) (without_newest tx (standing log)) (omega arith) (falls_without tx (length log) (standing log) s.falls)
  falls_after (_) = falls_weaker (length log) (length log + 1) (standing log) (omega arith) s.falls

  falls_push : (r : LogRecord) → Falls (length (log ++ r ∷ [])) (standing (log ++ r ∷ []))
  falls_push r = rw (length_push, standing_push) (falls_after r)

  -- ---- where a write is undone

  left_of : (tx : TxId) (u : Undoes tx (standing log)) → without_newest tx (standing log) ≡ u.over ++ u.under
  left_of tx u = ap (without_newest tx) u.is ∙ left_is tx u.over u.write u.under u.others u.own

  chain_undone : (tx : TxId) → Undoes tx (standing log) → Chain (base_of log) (without_newest tx (standing log))
  chain_undone tx u = subst (Chain (base_of log)) (sym (left_of tx u)) (chain_fewer (base_of log) u.over u.write u.under u.clear (subst (Chain (base_of log)) u.is s.chain))

  covers_undone : (r : LogRecord) (tx : TxId) → Undoes tx (standing log) → AllLater (Covers (closed_in (log ++ r ∷ []))) (without_newest tx (standing log))
  covers_undone r tx u =
      covers_more log r (without_newest tx (standing log))
      (subst (AllLater (Covers (closed_in log))) (sym (left_of tx u)) (later_fewer (Covers (closed_in log)) u.over u.write u.under (subst (AllLater (Covers (closed_in log))) u.is s.covers)))

  chain_after : (r : LogRecord) → may_follow shard log r ≡ true → Chain (base_of log) (standing_after (length log) r (standing log))
  chain_after (Update tx key before after) may = (optional_value_true before (value_in log key) (update_rule shard log tx key before after may).value, s.chain)
  chain_after (Add tx key by) may = (tt, s.chain)
  chain_after (Clr tx undo_next key after) may = chain_undone tx (clr_undoes shard (length log) log tx undo_next key after s.falls may)
  chain_after (Unadd tx undo_next key by) may = chain_undone tx (unadd_undoes shard (length log) log tx undo_next key by s.falls may)
  chain_after (Prepare tx home listed) may = s.chain
  chain_after (Commit tx parts) may = s.chain
  chain_after (Abort tx) may = s.chain
  chain_after (End tx) may = s.chain
  chain_after (Restart run epoch) may = s.chain
  chain_after Forgotten may = s.chain
  chain_after (Check run' epoch' upto base) may = s.chain

  -- who may be written over is closed
  covered : (r : LogRecord) (tx t : TxId) → tx_same tx t ≡ false → tx_same tx t || ((prepared_in log t || committed_in log t) && not (aborted_in log t)) ≡ true → closed_in (log ++ r ∷ []) t ≡ true
  covered r tx t other e =
      closed_more log r t (at (prepared_in log t) (committed_in log t) (aborted_in log t) (sym (ap (λ b. b || ((prepared_in log t || committed_in log t) && not (aborted_in log t))) other) ∙ e))
    where
      at : (p c a : Bool) → (p || c) && not a ≡ true → p || (c || a) ≡ true
      at true c a e = refl
      at false true a e = refl
      at false false a e = absurd cc

  covers_after : (r : LogRecord) → may_follow shard log r ≡ true → AllLater (Covers (closed_in (log ++ r ∷ []))) (standing_after (length log) r (standing log))
  covers_after (Update tx key before after) may =
      let r : LogRecord = Update tx key before after in (
        all_by (λ v. not (key == v.key) || may_cover log tx v) (Covers (closed_in (log ++ r ∷ [])) (record { lsn = length log; tx = tx; key = key; change = Sets before after }))
            (λ v e at sets other. covered r tx v.tx other (sym (ap (λ b. not b || may_cover log tx v) at) ∙ e)) (standing log) (update_rule shard log tx key before after may).covers,
        covers_more log r (standing log) s.covers,
      )
  covers_after (Add tx key by) may =
      let r : LogRecord = Add tx key by in (
        all_by (λ v. not (key == v.key) || not (is_setting v.change) || may_cover log tx v) (Covers (closed_in (log ++ r ∷ [])) (record { lsn = length log; tx = tx; key = key; change = Adds by }))
            (λ v e at sets other. covered r tx v.tx other (sym (ap (λ b. not b || not (is_setting v.change) || may_cover log tx v) at ∙ ap (λ b. not b || may_cover log tx v) sets) ∙ e))
            (standing log) (add_rule shard log tx key by may).covers,
        covers_more log r (standing log) s.covers,
      )
  covers_after (Clr tx undo_next key after) may = covers_undone (Clr tx undo_next key after) tx (clr_undoes shard (length log) log tx undo_next key after s.falls may)
  covers_after (Unadd tx undo_next key by) may = covers_undone (Unadd tx undo_next key by) tx (unadd_undoes shard (length log) log tx undo_next key by s.falls may)
  covers_after (Prepare tx home listed) may = covers_more log (Prepare tx home listed) (standing log) s.covers
  covers_after (Commit tx parts) may = covers_more log (Commit tx parts) (standing log) s.covers
  covers_after (Abort tx) may = covers_more log (Abort tx) (standing log) s.covers
  covers_after (End tx) may = covers_more log (End tx) (standing log) s.covers
  covers_after (Restart run epoch) may = covers_more log (Restart run epoch) (standing log) s.covers
  covers_after Forgotten may = covers_more log Forgotten (standing log) s.covers
  covers_after (Check run' epoch' upto base) may = covers_more log (Check run' epoch' upto base) (standing log) s.covers

  -- ---- below the writes of a PREPARE

  -- of one that is prepared already
  below_still : (r : LogRecord) (t : TxId) → prepared_in log t ≡ true → aborted_in (log ++ r ∷ []) t ≡ false → all_pass (may_lie (log ++ r ∷ []) t) t (standing log) ≡ true
  below_still r t prepared unaborted =
      pass_more (may_lie log t) (may_lie (log ++ r ∷ []) t) t
      (λ u e. ⊎_elim (λ c. ap (λ b. b || tx_in u (listed_in (log ++ r ∷ []) t)) (any_more (is_commit_of u) log r c))
      (λ l. or_right (committed_in (log ++ r ∷ []) u) (tx_in u (listed_in (log ++ r ∷ []) t)) (ap (tx_in u) (listed_stays log r t prepared) ∙ l)) (or_cases (committed_in log u) (tx_in u (listed_in log t)) e))
      (standing log) (s.below t prepared (any_less (is_abort_of t) log r unaborted))

  -- another one writes
  below_written : (r : LogRecord) (w : StandingUpdate) (t : TxId) → w.lsn ≡ length log → prepared_in log w.tx ≡ false → prepared_in log t ≡ true → aborted_in (log ++ r ∷ []) t ≡ false
      → all_pass (may_lie (log ++ r ∷ []) t) t (w ∷ standing log) ≡ true
  below_written r w t at pending prepared unaborted =
      pass_pushed (may_lie (log ++ r ∷ []) t) t w (standing log)
      (both (λ b. tx_same t w.tx ≡ b → b ≡ false) (tx_same t w.tx) (λ _ same. absurd (both_ways _ pending (ap (prepared_in log) (sym (tx_true t w.tx same)) ∙ prepared))) (λ _ _. refl) refl)
      (subst (λ n. Falls n (standing log)) (sym at) s.falls) (below_still r t prepared unaborted)

  below_other : (r : LogRecord) → may_follow shard log r ≡ true → (t : TxId) → prepared_in log t ≡ true → aborted_in (log ++ r ∷ []) t ≡ false
      → all_pass (may_lie (log ++ r ∷ []) t) t (standing_after (length log) r (standing log)) ≡ true
  below_other (Update tx key before after) may t prepared unaborted =
      below_written (Update tx key before after) (record { lsn = length log; tx = tx; key = key; change = Sets before after }) t refl (update_rule shard log tx key before after may).may.unprepared prepared unaborted
  below_other (Add tx key by) may t prepared unaborted =
      below_written (Add tx key by) (record { lsn = length log; tx = tx; key = key; change = Adds by }) t refl (add_rule shard log tx key by may).may.unprepared prepared unaborted
  below_other (Clr tx undo_next key after) may t prepared unaborted =
      pass_fewer (may_lie (log ++ Clr tx undo_next key after ∷ []) t) t tx (standing log) (below_still (Clr tx undo_next key after) t prepared unaborted)
  below_other (Unadd tx undo_next key by) may t prepared unaborted =
      pass_fewer (may_lie (log ++ Unadd tx undo_next key by ∷ []) t) t tx (standing log) (below_still (Unadd tx undo_next key by) t prepared unaborted)
  below_other (Prepare tx home listed) may t prepared unaborted = below_still (Prepare tx home listed) t prepared unaborted
  below_other (Commit tx parts) may t prepared unaborted = below_still (Commit tx parts) t prepared unaborted
  below_other (Abort tx) may t prepared unaborted = below_still (Abort tx) t prepared unaborted
  below_other (End tx) may t prepared unaborted = below_still (End tx) t prepared unaborted
  below_other (Restart run epoch) may t prepared unaborted = below_still (Restart run epoch) t prepared unaborted
  below_other Forgotten may t prepared unaborted = below_still Forgotten t prepared unaborted
  below_other (Check run' epoch' upto base) may t prepared unaborted = below_still (Check run' epoch' upto base) t prepared unaborted

  -- of the one that the record prepares
  below_now : (r : LogRecord) → may_follow shard log r ≡ true → (t : TxId) → is_prepare_of t r ≡ true → all_pass (may_lie (log ++ r ∷ []) t) t (standing_after (length log) r (standing log)) ≡ true
  below_now (Prepare tx home listed) may t own =
      let r : LogRecord = Prepare tx home listed in
      let rule = prepare_rule shard log tx home listed may in
      let now : listed_in (log ++ r ∷ []) tx ≡ listed = ap names (prepare_new log r tx rule.unprepared ∙ ap (λ b. cond b (Some (home, listed)) None) (tx_self tx)) in
      subst (λ u. all_pass (may_lie (log ++ r ∷ []) u) u (standing log) ≡ true) (sym (tx_true t tx own))
      (pass_more (λ u. committed_in log u || tx_in u listed) (may_lie (log ++ r ∷ []) tx) tx
      (λ u e. ⊎_elim (λ c. ap (λ b. b || tx_in u (listed_in (log ++ r ∷ []) tx)) (any_more (is_commit_of u) log r c))
      (λ l. or_right (committed_in (log ++ r ∷ []) u) (tx_in u (listed_in (log ++ r ∷ []) tx)) (ap (tx_in u) now ∙ l)) (or_cases (committed_in log u) (tx_in u listed) e))
      (standing log) (sym (below_is (λ u. committed_in log u || tx_in u listed) tx (standing log)) ∙ rule.below))
    where
      names : Option (ℕ × List TxId) → List TxId
      names o = elim o [ Some p ↦ p.1 | None ↦ [] ]
  below_now (_) may t own = absurd cc

  below_after : (r : LogRecord) → may_follow shard log r ≡ true → (t : TxId) → prepared_in (log ++ r ∷ []) t ≡ true → aborted_in (log ++ r ∷ []) t ≡ false
      → all_pass (may_lie (log ++ r ∷ []) t) t (standing_after (length log) r (standing log)) ≡ true
  below_after r may t prepared unaborted =
      ⊎_elim (λ old. below_other r may t old unaborted) (λ own. below_now r may t own) (or_cases (prepared_in log t) (is_prepare_of t r) (sym (any_push (is_prepare_of t) log r) ∙ prepared))

  -- where the record is neither a COMMIT nor an ABORT
  fates_other : (r : LogRecord) → ((t : TxId) → is_commit_of t r ≡ false) → ((t : TxId) → is_abort_of t r ≡ false) → (t : TxId) → committed_in (log ++ r ∷ []) t ≡ true → aborted_in (log ++ r ∷ []) t ≡ false
  fates_other r no_commit no_abort t e = any_other (is_abort_of t) log r (no_abort t) ∙ s.fates t (sym (any_other (is_commit_of t) log r (no_commit t)) ∙ e)

  fates_after : (r : LogRecord) → may_follow shard log r ≡ true → (t : TxId) → committed_in (log ++ r ∷ []) t ≡ true → aborted_in (log ++ r ∷ []) t ≡ false
  fates_after (Commit tx parts) may t e =
      let rule = commit_rule shard log tx parts may in
      any_other (is_abort_of t) log (Commit tx parts) refl
      ∙ ⊎_elim (λ old. s.fates t old) (λ own. ap (aborted_in log) (tx_true t tx own) ∙ rule.unaborted) (or_cases (committed_in log t) (tx_same t tx) (sym (any_push (is_commit_of t) log (Commit tx parts)) ∙ e))
  fates_after (Abort tx) may t e =
      let rule = abort_rule shard log tx may in
      let was : committed_in log t ≡ true = sym (any_other (is_commit_of t) log (Abort tx) refl) ∙ e in
      any_push (is_abort_of t) log (Abort tx)
      ∙ both (λ b. tx_same t tx ≡ b → aborted_in log t || b ≡ false) (tx_same t tx) (λ _ own. absurd (both_ways _ rule.uncommitted (sym (ap (committed_in log) (tx_true t tx own)) ∙ was))) (λ _ other. or_false (aborted_in log t) ∙ s.fates t was) refl
  fates_after (Update tx key before after) may t e = fates_other (Update tx key before after) (λ t. refl) (λ t. refl) t e
  fates_after (Clr tx undo_next key after) may t e = fates_other (Clr tx undo_next key after) (λ t. refl) (λ t. refl) t e
  fates_after (Prepare tx home listed) may t e = fates_other (Prepare tx home listed) (λ t. refl) (λ t. refl) t e
  fates_after (End tx) may t e = fates_other (End tx) (λ t. refl) (λ t. refl) t e
  fates_after (Restart run epoch) may t e = fates_other (Restart run epoch) (λ t. refl) (λ t. refl) t e
  fates_after (Add tx key by) may t e = fates_other (Add tx key by) (λ t. refl) (λ t. refl) t e
  fates_after (Unadd tx undo_next key by) may t e = fates_other (Unadd tx undo_next key by) (λ t. refl) (λ t. refl) t e
  fates_after Forgotten may t e = fates_other Forgotten (λ t. refl) (λ t. refl) t e
  fates_after (Check run' epoch' upto base) may t e = fates_other (Check run' epoch' upto base) (λ t. refl) (λ t. refl) t e

  -- where the record is no PREPARE and its writes stand
  stands_other : (r : LogRecord) → ((t : TxId) → is_prepare_of t r ≡ false) → (t : TxId) → prepared_in (log ++ r ∷ []) t ≡ true → aborted_in (log ++ r ∷ []) t ≡ false → is_some (newest_of t (standing log)) ≡ true
  stands_other r no_prepare t prepared unaborted = s.stands t (sym (any_other (is_prepare_of t) log r (no_prepare t)) ∙ prepared) (any_less (is_abort_of t) log r unaborted)

  -- nothing of one that is prepared is undone
  stands_undone : (r : LogRecord) (tx : TxId) → may_undo log tx ≡ true → ((t : TxId) → is_prepare_of t r ≡ false) → (t : TxId) → prepared_in (log ++ r ∷ []) t ≡ true → aborted_in (log ++ r ∷ []) t ≡ false
      → is_some (newest_of t (without_newest tx (standing log))) ≡ true
  stands_undone r tx may no_prepare t prepared unaborted =
      both (λ b. tx_same tx t ≡ b → is_some (newest_of t (without_newest tx (standing log))) ≡ true) (tx_same tx t)
      (λ _ own.
      let same = tx_true tx t own in
      absurd (closed_stays (prepared_in log tx) (committed_in log tx) (aborted_in log tx) may
      (ap (prepared_in log) same ∙ sym (any_other (is_prepare_of t) log r (no_prepare t)) ∙ prepared) (ap (aborted_in log) same ∙ any_less (is_abort_of t) log r unaborted)))
      (λ _ other. ap is_some (of_other tx t (standing log) other) ∙ stands_other r no_prepare t prepared unaborted) refl
    where
      closed_stays : (p c a : Bool) → a || (not p && not c) ≡ true → p ≡ true → a ≡ false → ⊥
      closed_stays true c false e p a = both_ways false refl e
      closed_stays false c a e p f = both_ways false refl p
      closed_stays true c true e p a = both_ways true a refl

  stands_written : (r : LogRecord) (w : StandingUpdate) → ((t : TxId) → is_prepare_of t r ≡ false) → (t : TxId) → prepared_in (log ++ r ∷ []) t ≡ true → aborted_in (log ++ r ∷ []) t ≡ false
      → is_some (newest_of t (w ∷ standing log)) ≡ true
  stands_written r w no_prepare t prepared unaborted =
      both (λ b. is_some (cond b (Some w) (newest_of t (standing log))) ≡ true) (tx_same t w.tx) (λ own. refl) (λ other. stands_other r no_prepare t prepared unaborted)

  stands_after : (r : LogRecord) → may_follow shard log r ≡ true → (t : TxId) → prepared_in (log ++ r ∷ []) t ≡ true → aborted_in (log ++ r ∷ []) t ≡ false
      → is_some (newest_of t (standing_after (length log) r (standing log))) ≡ true
  stands_after (Update tx key before after) may t prepared unaborted = stands_written (Update tx key before after) (record { lsn = length log; tx = tx; key = key; change = Sets before after }) (λ u. refl) t prepared unaborted
  stands_after (Add tx key by) may t prepared unaborted = stands_written (Add tx key by) (record { lsn = length log; tx = tx; key = key; change = Adds by }) (λ u. refl) t prepared unaborted
  stands_after (Clr tx undo_next key after) may t prepared unaborted = stands_undone (Clr tx undo_next key after) tx (clr_rule shard log tx undo_next key after may).may (λ u. refl) t prepared unaborted
  stands_after (Unadd tx undo_next key by) may t prepared unaborted = stands_undone (Unadd tx undo_next key by) tx (unadd_rule shard log tx undo_next key by may).may (λ u. refl) t prepared unaborted
  stands_after (Prepare tx home listed) may t prepared unaborted =
      ⊎_elim (λ old. s.stands t old (any_less (is_abort_of t) log (Prepare tx home listed) unaborted))
      (λ own. ap (λ u. is_some (newest_of u (standing log))) (tx_true t tx own) ∙ some_behind (length (before_restart [] log)) tx (standing log) (prepare_rule shard log tx home listed may).stands)
      (or_cases (prepared_in log t) (tx_same t tx) (sym (any_push (is_prepare_of t) log (Prepare tx home listed)) ∙ prepared))
  stands_after (Commit tx parts) may t prepared unaborted = stands_other (Commit tx parts) (λ t. refl) t prepared unaborted
  stands_after (Abort tx) may t prepared unaborted = stands_other (Abort tx) (λ t. refl) t prepared unaborted
  stands_after (End tx) may t prepared unaborted = stands_other (End tx) (λ t. refl) t prepared unaborted
  stands_after (Restart run epoch) may t prepared unaborted = stands_other (Restart run epoch) (λ t. refl) t prepared unaborted
  stands_after Forgotten may t prepared unaborted = stands_other Forgotten (λ t. refl) t prepared unaborted
  stands_after (Check run' epoch' upto base) may t prepared unaborted = stands_other (Check run' epoch' upto base) (λ t. refl) t prepared unaborted

  once_new : (r : LogRecord) → may_follow shard log r ≡ true → EachPrepare (λ t home listed. prepare_of (log ++ r ∷ []) t ≡ Some (home, listed)) (r ∷ [])
  once_new (Prepare tx home listed) may =
      let rule = prepare_rule shard log tx home listed may in
      (prepare_new log (Prepare tx home listed) tx rule.unprepared ∙ ap (λ b. cond b (Some (home, listed)) None) (tx_self tx), tt)
  once_new (_) may = tt

  once_after : (r : LogRecord) → may_follow shard log r ≡ true → EachPrepare (λ t home listed. prepare_of (log ++ r ∷ []) t ≡ Some (home, listed)) (log ++ r ∷ [])
  once_after r may =
      let Now : TxId → ℕ → List TxId → Type 0 = λ t home listed. prepare_of (log ++ r ∷ []) t ≡ Some (home, listed) in
      each_push Now log r (each_more (λ t home listed. prepare_of log t ≡ Some (home, listed)) Now (λ t home listed is. prepare_stays log r t (home, listed) is) log s.once) (once_new r may)

  earlier_new : (r : LogRecord) → may_follow shard log r ≡ true → ListsEarlier ([] ++ log) (r ∷ [])
  earlier_new (Prepare tx home listed) may =
      let rule = prepare_rule shard log tx home listed may in
      (all_weaker (λ p. not (tx_same p tx) && prepared_in log p && not (committed_in log p) && not (aborted_in log p)) (prepared_in log) (λ p e. and_second _ _ (and_first _ _ (and_first _ _ e))) listed rule.each, tt)
  earlier_new (_) may = tt

  pub sound_push : (r : LogRecord) → may_follow shard log r ≡ true → Sound (log ++ r ∷ [])
  sound_push r may = record {
    falls = falls_push r;
    chain = subst (λ base. Chain base (standing (log ++ r ∷ []))) (sym (base_push log r (follow_base shard log r may))) (subst (Chain (base_of log)) (sym (standing_push log r)) (chain_after r may));
    covers = rw standing_push (covers_after r may);
    below = λ t prepared unaborted. ap (all_pass (may_lie (log ++ r ∷ []) t) t) (standing_push log r) ∙ below_after r may t prepared unaborted;
    fates = fates_after r may;
    stands = λ t prepared unaborted. ap (λ ws. is_some (newest_of t ws)) (standing_push log r) ∙ stands_after r may t prepared unaborted;
    once = once_after r may;
    earlier = earlier_push [] log r s.earlier (earlier_new r may);
  }
