-- Of whom a checkpoint let go: a log in order has no record of it; and whom a PREPARE lists is prepared, or was let go.
use Rattle.std.proofs.Common.{◌≡◌, ◌⊎◌, inl, inr, ⊎_elim, refl, sym, ap, subst, ◌∙◌, ℕ, Bool, true, false, cond, not, ◌&&◌, ◌||◌, nat_lt, List, [], ◌∷◌, length, take, drop, Option, Some, None, is_some}
use Rattle.std.specs.List.{list_any}
use Rattle.std.proofs.lemmas.Bool.{both_ways, or_cases, or_parts, not-true, false_from_ne_true}
use Rattle.std.proofs.lemmas.List.{take-append-drop}
use Rattle.std.proofs.lemmas.List.Folds.{list_any-append}
use Rattle.clv_base.specs.declared.names.TxId.{TxId}
use Rattle.clv_base.specs.declared.logs.LogRecord.{LogRecord}
use Rattle.clv_base.specs.declared.logs.LogRecord.TheVariants.{Update, Clr, Prepare, Commit, Abort, End, Restart, Add, Unadd, Forgotten, Check}
use Rattle.clv_base.specs.Orders.{tx_same}
use Rattle.clv_base.specs.Logs.{StandingUpdate, standing, wrote_in, committed_in, prepared_in, commit_parts, newest_of, is_record_of, is_update_of, is_commit_of, is_prepare_of}
use Rattle.clv_base.specs.LogRules.{before_restart, lists, is_listed, is_known, has_new_standing, some_parts, clears, unadds, compensates, part_of, upto_of}
use Rattle.clv_base.proofs.SameNames.{or_left, or_right, tx_true}
use Rattle.law_base.specs.Coming.{is_let_go, is_bare, may_come_listed, commit_may_come, may_come, AllCome}
use Rattle.law_base.proofs.Bools.{and_first as front, and_second as last}
use Rattle.law_base.proofs.InOrder.{listed_of, through}
use Rattle.law_base.proofs.Logs.{no_prepare, push_left}
use Rattle.law_base.proofs.Sets.{list_all_at}
use Rattle.law_base.proofs.Standing.{standing_wrote, newest_is}

-- who is committed in a log's part is so in the log
pub in_part : (log : List LogRecord) (t : TxId) → committed_in (part_of log) t ≡ true → committed_in log t ≡ true
in_part log t e =
    subst (λ l. committed_in l t ≡ true) (take-append-drop (upto_of log) log)
    (list_any-append (is_commit_of t) (take (upto_of log) log) (drop (upto_of log) log) ∙ or_left _ _ e)

any_weaker : (a b : StandingUpdate → Bool) (ws : List StandingUpdate) → list_any (λ w. a w && b w) ws ≡ true → list_any a ws ≡ true
any_weaker a b [] e = e
any_weaker a b (w ∷ ws) e =
    ⊎_elim (λ h. or_left (a w) (list_any a ws) (front (a w) (b w) h)) (λ r. or_right (a w) (list_any a ws) (any_weaker a b ws r)) (or_cases (a w && b w) (list_any (λ v. a v && b v) ws) e)

pub new_wrote : (log : List LogRecord) (tx : TxId) → has_new_standing log tx ≡ true → wrote_in log tx ≡ true
new_wrote log tx e = standing_wrote log tx (any_weaker (λ w. tx_same tx w.tx) (λ w. nat_lt (length (before_restart [] log)) w.lsn) (standing log) e)

no_commit : (log : List LogRecord) (t : TxId) → committed_in log t ≡ false → commit_parts log t ≡ None
no_commit [] t e = refl
no_commit (Commit tx parts ∷ rs) t e =
    let p = or_parts (tx_same t tx) (committed_in rs t) e in ap (λ b. cond b (Some parts) (commit_parts rs t)) p.0 ∙ no_commit rs t p.1
no_commit (_ ∷ rs) t e = no_commit rs t e

update_own : (t : TxId) (r : LogRecord) → is_update_of t r ≡ true → is_record_of t r ≡ true
update_own t (Update tx key before after) e = e
update_own t (Add tx key by) e = e
update_own t _ e = absurd (both_ways false refl e)

commit_own : (t : TxId) (r : LogRecord) → is_commit_of t r ≡ true → is_record_of t r ≡ true
commit_own t (Commit tx parts) e = e
commit_own t _ e = absurd (both_ways false refl e)

prepare_own : (t : TxId) (r : LogRecord) → is_prepare_of t r ≡ true → is_record_of t r ≡ true
prepare_own t (Prepare tx home ps) e = e
prepare_own t _ e = absurd (both_ways false refl e)

no_kind : (t : TxId) (test : LogRecord → Bool) → ((r : LogRecord) → test r ≡ true → is_record_of t r ≡ true) → (log : List LogRecord) → is_known log t ≡ false → list_any test log ≡ false
no_kind t test own [] e = refl
no_kind t test own (r ∷ rs) e =
    let p = or_parts (is_record_of t r) (is_known rs t) e in
    ap (λ b. b || list_any test rs) (false_from_ne_true _ (λ h. both_ways _ p.0 (own r h))) ∙ no_kind t test own rs p.1

module _ (shard : ℕ) (part : List LogRecord) (t : TxId) (gone : is_let_go part t ≡ true) where
  module _ (log : List LogRecord) (unknown : is_known log t ≡ false) where
    never_wrote : wrote_in log t ≡ false
    never_wrote = no_kind t (is_update_of t) (update_own t) log unknown

    never_prepared : prepared_in log t ≡ false
    never_prepared = no_kind t (is_prepare_of t) (prepare_own t) log unknown

    never_committed : committed_in log t ≡ false
    never_committed = no_kind t (is_commit_of t) (commit_own t) log unknown

    not_gone : (tx : TxId) → tx_same t tx ≡ true → not (is_let_go part tx) ≡ true → ⊥
    not_gone tx s n = both_ways _ (not-true _ n) (subst (λ z. is_let_go part z ≡ true) (tx_true t tx s) gone)

    not_wrote : (tx : TxId) → tx_same t tx ≡ true → wrote_in log tx ≡ true → ⊥
    not_wrote tx s w = both_ways _ never_wrote (subst (λ z. wrote_in log z ≡ true) (sym (tx_true t tx s)) w)

    bare : (tx : TxId) (ps : List TxId) → tx_same t tx ≡ true → is_bare part log tx ps ≡ true → ⊥
    bare tx [] s e =
        both_ways _ (no_kind t (is_commit_of t) (commit_own t) part (not-true _ (last _ _ gone))) (subst (λ z. committed_in part z ≡ true) (sym (tx_true t tx s)) (front _ _ e))
    bare tx (p ∷ ps) s e = both_ways false refl e

    undone : (tx : TxId) (next : Option ℕ) (key : ℕ) (test : StandingUpdate → Bool) → tx_same t tx ≡ true → (o : Option StandingUpdate) → newest_of tx (standing log) ≡ o → compensates test tx next key (standing log) o ≡ true → ⊥
    undone tx next key test s None is c = both_ways false refl c
    undone tx next key test s (Some w) is c = not_wrote tx s (standing_wrote log tx (sym (newest_is tx (standing log)) ∙ ap is_some is))

    ended : (tx : TxId) → tx_same t tx ≡ true → elim (commit_parts log tx) [ Some ps ↦ some_parts ps | None ↦ false ] ≡ true → ⊥
    ended tx s e =
        both_ways false refl
        (sym (ap (λ o. elim o [ Some ps ↦ some_parts ps | None ↦ false ]) (no_commit log tx (subst (λ z. committed_in log z ≡ false) (tx_true t tx s) never_committed))) ∙ e)

    not_own : (r : LogRecord) → may_come shard part log r ≡ true → is_record_of t r ≡ false
    not_own (Update tx key before after) m = false_from_ne_true _ (λ s. not_gone tx s (last _ _ (front _ _ (front _ _ (front _ _ (front _ _ (front _ _ (front _ _ (front _ _ m)))))))))
    not_own (Add tx key by) m = false_from_ne_true _ (λ s. not_gone tx s (last _ _ (front _ _ (front _ _ (front _ _ (front _ _ (front _ _ (front _ _ m))))))))
    not_own (Prepare tx home ps) m =
        false_from_ne_true _
        (λ s. ⊎_elim (λ n. not_wrote tx s (new_wrote log tx n)) (λ b. bare tx ps s b) (or_cases (has_new_standing log tx) (is_bare part log tx ps) (last _ _ (front _ _ (front _ _ (front _ _ (front _ _ (front _ _ m))))))))
    not_own (Commit tx parts) m =
        false_from_ne_true _
        (λ s. not_gone tx s
        (last _ _ (subst (λ o. commit_may_come shard part log tx parts o ≡ true) (no_prepare log tx (subst (λ z. prepared_in log z ≡ false) (tx_true t tx s) never_prepared)) (last _ _ (front _ _ m)))))
    not_own (Abort tx) m = false_from_ne_true _ (λ s. not_wrote tx s (standing_wrote log tx (last _ _ (front _ _ (front _ _ m)))))
    not_own (Clr tx next key after) m = false_from_ne_true _ (λ s. undone tx next key (λ w. clears w after (standing log) w.change) s (newest_of tx (standing log)) refl (last _ _ m))
    not_own (Unadd tx next key by) m = false_from_ne_true _ (λ s. undone tx next key (λ w. unadds w by (standing log) w.change) s (newest_of tx (standing log)) refl (last _ _ m))
    not_own (End tx) m = false_from_ne_true _ (λ s. ended tx s (last _ _ m))
    not_own (Restart run epoch) m = refl
    not_own Forgotten m = refl
    not_own (Check run epoch upto base) m = refl

  pub let_go_unknown : (log : List LogRecord) → AllCome shard part log → is_known log t ≡ false
  let_go_unknown log f =
      through (λ l. is_known l t ≡ false) shard part
      (λ l r g p m. list_any-append (is_record_of t) l (r ∷ []) ∙ ap (λ b. b || (is_record_of t r || false)) p ∙ ap (λ b. b || false) (not_own l p r m)) log f refl (λ run epoch upto base rises. refl)

  module _ (log : List LogRecord) (f : AllCome shard part log) where
    pub let_go_unwritten : wrote_in log t ≡ false
    let_go_unwritten = never_wrote log (let_go_unknown log f)

    pub let_go_unprepared : prepared_in log t ≡ false
    let_go_unprepared = never_prepared log (let_go_unknown log f)

    pub let_go_uncommitted : committed_in log t ≡ false
    let_go_uncommitted = never_committed log (let_go_unknown log f)

-- whom a PREPARE lists
listed_new : (shard : ℕ) (part log : List LogRecord) (r : LogRecord) (t : TxId) → may_come shard part log r ≡ true → lists t r ≡ true → (prepared_in log t ≡ true) ⊎ (is_let_go part t ≡ true)
listed_new shard part log (Prepare tx home ps) t m i =
    ⊎_elim (λ p. inl p) (λ g. inr g.0) (listed_of part log tx t (list_all_at (may_come_listed part log tx) t ps (last _ _ (front _ _ m)) i))
listed_new shard part log _ t m i = absurd (both_ways false refl i)

pub listed_known : (shard : ℕ) (part log : List LogRecord) → AllCome shard part log → (t : TxId) → is_listed log t ≡ true → (prepared_in log t ≡ true) ⊎ (is_let_go part t ≡ true)
listed_known shard part log f =
    through (λ l. (t : TxId) → is_listed l t ≡ true → (prepared_in l t ≡ true) ⊎ (is_let_go part t ≡ true)) shard part
    (λ l r g h m t i.
    ⊎_elim (λ p. inl (push_left (is_prepare_of t) l r p)) (λ k. inr k)
    (⊎_elim (λ old. h t old) (λ new. ⊎_elim (λ own. listed_new shard part l r t m own) (λ none. absurd (both_ways false refl none)) (or_cases (lists t r) false new))
    (or_cases (is_listed l t) (is_listed (r ∷ []) t) (sym (list_any-append (lists t) l (r ∷ [])) ∙ i))))
    log f (λ t i. absurd (both_ways false refl i)) (λ run epoch upto base rises t i. absurd (both_ways false refl i))
