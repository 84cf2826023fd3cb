-- What the rule of each kind of record says, part by part.
use Rattle.std.proofs.Common.{◌≡◌, ℕ, Bool, true, false, not, ◌&&◌, ◌||◌, ◌==◌, List, ◌∷◌, ◌++◌, Option, Some, None, refl, sym, ap, subst, ◌∙◌}
use Rattle.std.specs.List.{AllByRecursion, list_all}
use Rattle.clv_base.specs.declared.values.Value.{Value as ValueType}
use Rattle.clv_base.specs.declared.names.TxId.{TxId}
use Rattle.clv_base.specs.declared.changes.Change.{Change}
use Rattle.clv_base.specs.declared.changes.Change.TheVariants.{Sets, Adds}
use Rattle.clv_base.specs.declared.logs.LogRecord.{LogRecord}
use Rattle.clv_base.specs.declared.logs.LogRecord.TheVariants.{Update, Clr, Prepare, Commit, Abort, Add, Unadd}
use Rattle.clv_base.specs.Orders.{tx_same, tx_in}
use Rattle.clv_base.specs.Values.{same_optional_value}
use Rattle.clv_base.specs.Logs.{StandingUpdate, is_setting, has_standing, committed_in, prepared_in, aborted_in, standing, newest_at, newest_of, value_in}
use Rattle.clv_base.specs.LogRules.{has_new_standing, may_undo, writes_below, lies_below, may_write, may_set, may_add, clears, unadds, compensates, may_follow}
use Rattle.log_analysis.proofs.Laws.Bools.{and_first, and_second}
use Rattle.log_rules.proofs.Standing.{IsClear, split_newest, clear_by_top, clear_by_free}
use Rattle.law_base.proofs.Bools.{not_true}
use Rattle.law_base.proofs.Names.{Falls}

pub record WriteRule (log : List LogRecord) (tx : TxId) : Type 0 where
  pub unprepared : prepared_in log tx ≡ false
  pub uncommitted : committed_in log tx ≡ false
  pub unaborted : aborted_in log tx ≡ false

pub record UpdateRule (log : List LogRecord) (tx : TxId) (key : ℕ) (before : Option ValueType) : Type 0 where
  pub may : WriteRule log tx
  pub value : same_optional_value before (value_in log key) ≡ true
  pub covers : may_set log tx key (standing log) ≡ true

pub record AddRule (log : List LogRecord) (tx : TxId) (key : ℕ) : Type 0 where
  pub may : WriteRule log tx
  pub covers : may_add log tx key (standing log) ≡ true

pub record PrepareRule (log : List LogRecord) (tx : TxId) (listed : List TxId) : Type 0 where
  pub stands : has_new_standing log tx ≡ true
  pub unprepared : prepared_in log tx ≡ false
  pub uncommitted : committed_in log tx ≡ false
  pub unaborted : aborted_in log tx ≡ false
  pub each : list_all (λ p. not (tx_same p tx) && prepared_in log p && not (committed_in log p) && not (aborted_in log p)) listed ≡ true
  pub below : list_all (λ w. committed_in log w.tx || tx_in w.tx listed) (writes_below tx (standing log)) ≡ true

pub record CommitRule (log : List LogRecord) (tx : TxId) : Type 0 where
  pub uncommitted : committed_in log tx ≡ false
  pub unaborted : aborted_in log tx ≡ false
  pub below : list_all (λ w. committed_in log w.tx) (writes_below tx (standing log)) ≡ true

pub record AbortRule (log : List LogRecord) (tx : TxId) : Type 0 where
  pub stands : has_standing log tx ≡ true
  pub uncommitted : committed_in log tx ≡ false
  pub unaborted : aborted_in log tx ≡ false

pub record UndoRule (log : List LogRecord) (test : StandingUpdate → Bool) (tx : TxId) (undo_next : Option ℕ) (key : ℕ) : Type 0 where
  pub may : may_undo log tx ≡ true
  pub compensates : compensates test tx undo_next key (standing log) (newest_of tx (standing log)) ≡ true

pub write_rule : (log : List LogRecord) (tx : TxId) → may_write log tx ≡ true → WriteRule log tx
write_rule log tx e =
    let a = and_first _ _ e in
    record {
      unprepared = not_true _ (and_second _ _ (and_first _ _ (and_first _ _ a)));
      uncommitted = not_true _ (and_second _ _ (and_first _ _ a));
      unaborted = not_true _ (and_second _ _ a);
    }

pub update_rule : (shard : ℕ) (log : List LogRecord) (tx : TxId) (key : ℕ) (before after : Option ValueType) → may_follow shard log (Update tx key before after) ≡ true → UpdateRule log tx key before
update_rule shard log tx key before after e =
    let a = and_first _ _ (and_first _ _ e) in
    record { may = write_rule log tx (and_first _ _ a); value = and_second _ _ a; covers = and_second _ _ e }

pub add_rule : (shard : ℕ) (log : List LogRecord) (tx : TxId) (key by : ℕ) → may_follow shard log (Add tx key by) ≡ true → AddRule log tx key
add_rule shard log tx key by e = record { may = write_rule log tx (and_first _ _ (and_first _ _ e)); covers = and_second _ _ e }

pub prepare_rule : (shard : ℕ) (log : List LogRecord) (tx : TxId) (home : ℕ) (listed : List TxId) → may_follow shard log (Prepare tx home listed) ≡ true → PrepareRule log tx listed
prepare_rule shard log tx home listed e =
    let a = and_first _ _ e in
    let b = and_first _ _ a in
    record {
      stands = and_second _ _ (and_first _ _ (and_first _ _ (and_first _ _ b)));
      unprepared = not_true _ (and_second _ _ (and_first _ _ (and_first _ _ b)));
      uncommitted = not_true _ (and_second _ _ (and_first _ _ b));
      unaborted = not_true _ (and_second _ _ b);
      each = and_second _ _ a;
      below = and_second _ _ e;
    }

pub commit_rule : (shard : ℕ) (log : List LogRecord) (tx : TxId) (parts : List ℕ) → may_follow shard log (Commit tx parts) ≡ true → CommitRule log tx
commit_rule shard log tx parts e =
    let a = and_first _ _ (and_first _ _ e) in
    let b = and_first _ _ (and_first _ _ (and_first _ _ a)) in
    record { uncommitted = not_true _ (and_second _ _ (and_first _ _ b)); unaborted = not_true _ (and_second _ _ b); below = and_second _ _ a }

pub abort_rule : (shard : ℕ) (log : List LogRecord) (tx : TxId) → may_follow shard log (Abort tx) ≡ true → AbortRule log tx
abort_rule shard log tx e =
    let a = and_first _ _ e in
    record { stands = and_second _ _ (and_first _ _ a); uncommitted = not_true _ (and_second _ _ a); unaborted = not_true _ (and_second _ _ e) }

pub clr_rule : (shard : ℕ) (log : List LogRecord) (tx : TxId) (undo_next : Option ℕ) (key : ℕ) (after : Option ValueType) → may_follow shard log (Clr tx undo_next key after) ≡ true
    → UndoRule log (λ w. clears w after (standing log) w.change) tx undo_next key
clr_rule shard log tx undo_next key after e = record { may = and_second _ _ (and_first _ _ e); compensates = and_second _ _ e }

pub unadd_rule : (shard : ℕ) (log : List LogRecord) (tx : TxId) (undo_next : Option ℕ) (key by : ℕ) → may_follow shard log (Unadd tx undo_next key by) ≡ true
    → UndoRule log (λ w. unadds w by (standing log) w.change) tx undo_next key
unadd_rule shard log tx undo_next key by e = record { may = and_second _ _ (and_first _ _ e); compensates = and_second _ _ e }

-- what is compensated
pub tested : (test : StandingUpdate → Bool) (tx : TxId) (undo_next : Option ℕ) (key : ℕ) (ws : List StandingUpdate) (o : Option StandingUpdate) → compensates test tx undo_next key ws o ≡ true
    → (w : StandingUpdate) × (o ≡ Some w) × (test w ≡ true)
tested test tx undo_next key ws None e = absurd cc
tested test tx undo_next key ws (Some w) e = (w, refl, and_second _ _ (and_first _ _ e))

pub clears_top : (w : StandingUpdate) (after : Option ValueType) (ws : List StandingUpdate) (c : Change) → clears w after ws c ≡ true
    → (is_setting c ≡ true) × (elim (newest_at w.key ws) [ Some v ↦ v.lsn == w.lsn | None ↦ false ] ≡ true)
clears_top w after ws (Sets before set) e = (refl, and_second _ _ e)
clears_top w after ws (Adds by) e = absurd cc

pub unadds_free : (w : StandingUpdate) (by : ℕ) (ws : List StandingUpdate) (c : Change) → unadds w by ws c ≡ true
    → (is_setting c ≡ false) × (list_all (λ v. not (is_setting v.change && lies_below w v)) ws ≡ true)
unadds_free w by ws (Sets before set) e = absurd cc
unadds_free w by ws (Adds added) e = (refl, and_second _ _ e)

-- a write that is undone: it is its transaction's newest, and what stands over it is of other keys, or adds where it adds
pub record Undoes (tx : TxId) (ws : List StandingUpdate) : Type 0 where
  pub over : List StandingUpdate
  pub write : StandingUpdate
  pub under : List StandingUpdate
  pub is : ws ≡ over ++ write ∷ under
  pub others : AllByRecursion (λ v. tx_same tx v.tx ≡ false) over
  pub own : tx_same tx write.tx ≡ true
  pub clear : AllByRecursion (IsClear write) over

undoes_by : (test : StandingUpdate → Bool) (tx : TxId) (undo_next : Option ℕ) (key : ℕ) (ws : List StandingUpdate) → compensates test tx undo_next key ws (newest_of tx ws) ≡ true
    → ((over : List StandingUpdate) (w : StandingUpdate) (under : List StandingUpdate) → ws ≡ over ++ w ∷ under → test w ≡ true → AllByRecursion (IsClear w) over) → Undoes tx ws
undoes_by test tx undo_next key ws e clear =
    let found = tested test tx undo_next key ws (newest_of tx ws) e in
    let at = split_newest tx ws found.0 found.1 in
    record { over = at.0; write = found.0; under = at.1; is = at.2; others = at.3; own = at.4; clear = clear at.0 found.0 at.1 at.2 found.2 }

pub clr_undoes : (shard n : ℕ) (log : List LogRecord) (tx : TxId) (undo_next : Option ℕ) (key : ℕ) (after : Option ValueType) → Falls n (standing log) → may_follow shard log (Clr tx undo_next key after) ≡ true → Undoes tx (standing log)
clr_undoes shard n log tx undo_next key after falls e =
    undoes_by (λ w. clears w after (standing log) w.change) tx undo_next key (standing log) (clr_rule shard log tx undo_next key after e).compensates
    (λ over w under is test. clear_by_top n w over under (subst (Falls n) is falls) (sym (ap (λ ws. elim (newest_at w.key ws) [ Some v ↦ v.lsn == w.lsn | None ↦ false ]) is) ∙ (clears_top w after (standing log) w.change test).1))

pub unadd_undoes : (shard n : ℕ) (log : List LogRecord) (tx : TxId) (undo_next : Option ℕ) (key by : ℕ) → Falls n (standing log) → may_follow shard log (Unadd tx undo_next key by) ≡ true → Undoes tx (standing log)
unadd_undoes shard n log tx undo_next key by falls e =
    undoes_by (λ w. unadds w by (standing log) w.change) tx undo_next key (standing log) (unadd_rule shard log tx undo_next key by e).compensates
    (λ over w under is test.
    let parts = unadds_free w by (standing log) w.change test in
    clear_by_free n w over under (subst (Falls n) is falls) parts.0 (sym (ap (list_all (λ v. not (is_setting v.change && lies_below w v))) is) ∙ parts.1))
