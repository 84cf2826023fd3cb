-- An index with one record more is that of the records with it.
use Rattle.std.proofs.Common.{◌≡◌, ℕ, ◌+◌, ◌<◌, Bool, true, false, cond, not, ◌&&◌, ◌||◌, ◌==◌, nat_lt, List, [], ◌∷◌, ◌++◌, length, Option, Some, None, is_some, ◌⊎◌, inl, inr, ⊎_elim, refl, sym, ap, subst, ◌∙◌, eqb-true, eq-eqb, arith}
use Rattle.std.specs.Prelude.{slice_get}
use Rattle.std.specs.List.{AllByRecursion, list_any, list_all}
use Rattle.std.proofs.lemmas.Bool.{lt-ltb, ltb-true, or_cases, ne_eqb}
use Rattle.clv_base.specs.declared.names.TxId.{TxId}
use Rattle.clv_base.specs.declared.changes.Change.{Change}
use Rattle.clv_base.specs.declared.changes.Change.TheVariants.{Sets, Adds as Adding}
use Rattle.clv_base.specs.declared.logs.LogRecord.{LogRecord}
use Rattle.clv_base.specs.declared.logs.LogRecord.TheVariants.{Update, Clr, Prepare, Commit, Abort, End, Restart, Add, Unadd, Forgotten, Check}
use Rattle.clv_base.specs.Orders.{tx_same, tx_in}
use Rattle.clv_base.specs.OneShard.{update_of}
use Rattle.clv_base.specs.Maps.{KeyMap}
use Rattle.clv_base.specs.Logs.{StandingUpdate, base_by, base_of, changed, unchanged, is_setting, is_commit_of, is_prepare_of, is_abort_of, committed_in, prepared_in, aborted_in, standing, newest_of, without_newest}
use Rattle.clv_base.specs.LogRules.{last_restart, above_restarts, before_restart, listed_in, may_undo, may_follow}
use Rattle.clv_base.proofs.SameNames.{tx_true, tx_self, tx_flip}
use Rattle.log_analysis.specs.Facts.{Knows}
use Rattle.log_analysis.proofs.Laws.Bools.{and_first, and_second}
use Rattle.log_analysis.proofs.Laws.Pushes.{and_true, any_push, last_restart_other, above_push}
use Rattle.log_rules.specs.declared.index.Index.{Index}
use Rattle.log_rules.specs.Writes.{Write, Top, top_of, is_there, write_at, top_at, adds_at, value_at, newest_by, top_after, adds_after, top_before, adds_before, shares_at, Pushes, Pops, PopsWrite, Settles, settled_from}
use Rattle.log_rules.specs.Shares.{with_share, without_share}
use Rattle.log_rules.specs.Listers.{Descends, listers_in}
use Rattle.log_rules.specs.Rules.{is_above, has_commit}
use Rattle.log_rules.specs.Adding.{KeepsRestart, AddsRestart, AddsWrite, AddsUndo, AddsPrepare, AddsCommit, AddsAbort, AddsEnd, Adds, Places, bars_after_abort}
use Rattle.log_rules.proofs.Doubt.{is_held, bars}
use Rattle.log_rules.proofs.Fitting.{is_committed}
use Rattle.log_rules.proofs.Growing.{splits_restart, splits_other}
use Rattle.log_rules.proofs.NewWrites.{some_behind}
use Rattle.log_rules.proofs.Held.{eq_flip, listed_other, held_other, bars_other, unprepared_unheld, held_now, held_after, aborted_unheld}
use Rattle.log_rules.proofs.IndexOf.{IsIndexOf}
use Rattle.log_rules.proofs.RuleParts.{WriteRule, Undoes, update_rule, add_rule, prepare_rule, abort_rule, clr_rule, unadd_rule, clr_undoes, unadd_undoes}
use Rattle.log_rules.proofs.SoundLogs.{Sound, undone_uncommitted, any_other, prepare_new, of_other}
use Rattle.log_rules.proofs.Standing.{top_set, adds_over, top_value, shares_of, lsn_of, left_is, something_there, shares_here, shares_elsewhere, shares_settled}
use Rattle.log_rules.proofs.Links.{Linked, link_of, linked_at, linked_is, linked_stay, linked_left, tops_left, adds_left, values_left, newest_left}
use Rattle.log_rules.proofs.Walks.{settled_shares}
use Rattle.law_base.proofs.Sets.{same_flip as tx_symmetric}
use Rattle.law_base.proofs.Bools.{by_bool as both, not_true, or_false, and_no, or_yes}
use Rattle.law_base.proofs.Bases.{base_push}
use Rattle.law_base.proofs.Logs.{last_restart_push, standing_push, no_prepare}
use Rattle.law_base.proofs.Names.{Falls, falls_length}
use Rattle.law_base.proofs.Standing.{newest_is}
use Rattle.law_base.proofs.Undoing.{IsOver, Chain}

-- ---- the RESTARTs so far

later : (a b c d : ℕ) → nat_lt a c || ((a == c) && nat_lt b d) ≡ true → (a < c) ⊎ ((a ≡ c) × (b < d))
later a b c d above =
    ⊎_elim (λ e. inl (ltb-true a c e)) (λ e. inr (eqb-true a c (and_first _ _ e), ltb-true b d (and_second _ _ e))) (or_cases (nat_lt a c) ((a == c) && nat_lt b d) above)

is_later : (a b c d : ℕ) → (a < c) ⊎ ((a ≡ c) × (b < d)) → nat_lt a c || ((a == c) && nat_lt b d) ≡ true
is_later a b c d (inl lt) = ap (λ v. v || ((a == c) && nat_lt b d)) (lt-ltb a c lt)
is_later a b c d (inr same) = ap (λ v. nat_lt a c || (v && nat_lt b d)) (eq-eqb a c same.0) ∙ ap (λ v. nat_lt a c || v) (lt-ltb b d same.1) ∙ or_yes (nat_lt a c)

later_still : (a b c d r e : ℕ) → (a < c) ⊎ ((a ≡ c) × (b < d)) → (c < r) ⊎ ((c ≡ r) × (d < e)) → (a < r) ⊎ ((a ≡ r) × (b < e))
later_still a b c d r e (inl p) (inl q) = inl (omega arith)
later_still a b c d r e (inl p) (inr q) = inl (omega arith)
later_still a b c d r e (inr p) (inl q) = inl (omega arith)
later_still a b c d r e (inr p) (inr q) = inr (omega arith, omega arith)

-- above the last one is above all
above_more : (r e run epoch : ℕ) (last : Option (ℕ × ℕ)) → is_above run epoch last ≡ true
    → is_above r e last && (nat_lt run r || ((run == r) && nat_lt epoch e)) ≡ nat_lt run r || ((run == r) && nat_lt epoch e)
above_more r e run epoch None above = refl
above_more r e run epoch (Some p) above =
    both (λ b. nat_lt run r || ((run == r) && nat_lt epoch e) ≡ b → (nat_lt p.0 r || ((p.0 == r) && nat_lt p.1 e)) && b ≡ b) (nat_lt run r || ((run == r) && nat_lt epoch e))
    (λ _ h. ap (λ b. b && true) (is_later p.0 p.1 r e (later_still p.0 p.1 run epoch r e (later p.0 p.1 run epoch above) (later run epoch r e h))))
    (λ _ h. and_no (nat_lt p.0 r || ((p.0 == r) && nat_lt p.1 e))) refl

-- a record that is no RESTART
record IsOther (r : LogRecord) : Type 0 where
  last : last_restart (r ∷ []) ≡ None
  above : (run epoch : ℕ) → above_restarts run epoch (r ∷ []) ≡ true
  before : (l : List LogRecord) → before_restart l (r ∷ []) ≡ []
  base : base_by r ≡ []

-- what an index has beside the facts and what it has of RESTARTs
record HasRest (shard : ℕ) (z : Index) (log : List LogRecord) : Type 0 where
  tops : (k : ℕ) → top_at z.writes k ≡ top_set k (standing log)
  adds : (k : ℕ) → adds_at z.writes k ≡ adds_over k (standing log)
  values : (k : ℕ) → value_at z.writes k ≡ top_value (base_of log) k (standing log)
  newest : (t : TxId) → newest_by z.writes t ≡ lsn_of (newest_of t (standing log))
  linked : Linked z.writes (standing log)
  shares : (k : ℕ) → shares_at z.writes k ≡ shares_of (committed_in log) k (standing log)
  descends : Descends z.listers
  listers : (q t : TxId) → tx_in t (listers_in z.listers q) ≡ tx_in q (listed_in log t)
  barring : (t : TxId) → tx_in t z.barring ≡ bars shard log t

module _ (shard : ℕ) (x y : Index) (log : List LogRecord) (s : Sound log) (i : IsIndexOf shard x log) where
  above_restart : (run epoch : ℕ) → is_above run epoch x.last ≡ true → (r e : ℕ) → above_restarts r e (log ++ Restart run epoch ∷ []) ≡ is_above r e (Some (run, epoch))
  above_restart run epoch above r e =
      above_push r e log (Restart run epoch) ∙ ap (λ b. b && ((nat_lt run r || ((run == r) && nat_lt epoch e)) && true)) (i.above r e)
      ∙ ap (λ b. is_above r e x.last && b) (and_true (nat_lt run r || ((run == r) && nat_lt epoch e))) ∙ above_more r e run epoch x.last above

  above_other : (r : LogRecord) → ((run epoch : ℕ) → above_restarts run epoch (r ∷ []) ≡ true) → (run epoch : ℕ) → above_restarts run epoch (log ++ r ∷ []) ≡ is_above run epoch x.last
  above_other r other run epoch = above_push run epoch log r ∙ ap (λ b. above_restarts run epoch log && b) (other run epoch) ∙ and_true (above_restarts run epoch log) ∙ i.above run epoch

  -- ---- the shares

  -- where nobody is committed
  shares_same : (r : LogRecord) → ((t : TxId) → is_commit_of t r ≡ false) → (k : ℕ) (ws : List StandingUpdate) → shares_of (committed_in (log ++ r ∷ [])) k ws ≡ shares_of (committed_in log) k ws
  shares_same r other k [] = refl
  shares_same r other k (w ∷ ws) =
      ap (λ b. cond ((k == w.key) && not b) (with_share w.tx (is_setting w.change) (shares_of (committed_in (log ++ r ∷ [])) k ws)) (shares_of (committed_in (log ++ r ∷ [])) k ws)) (any_other (is_commit_of w.tx) log r (other w.tx))
      ∙ ap (λ l. cond ((k == w.key) && not (committed_in log w.tx)) (with_share w.tx (is_setting w.change) l) l) (shares_same r other k ws)

  -- and nothing written
  shares_kept : (r : LogRecord) → ((t : TxId) → is_commit_of t r ≡ false) → (z : Index) → z.writes ≡ x.writes → standing (log ++ r ∷ []) ≡ standing log → (k : ℕ) → shares_at z.writes k ≡ shares_of (committed_in (log ++ r ∷ [])) k (standing (log ++ r ∷ []))
  shares_kept r other z same ws k = ap (λ m. shares_at m k) same ∙ i.shares k ∙ sym (shares_same r other k (standing log)) ∙ ap (shares_of (committed_in (log ++ r ∷ [])) k) (sym ws)

  -- ---- the values

  values_push : (r : LogRecord) → base_by r ≡ [] → (now : List StandingUpdate) → standing (log ++ r ∷ []) ≡ now → (k : ℕ) → top_value (base_of log) k now ≡ top_value (base_of (log ++ r ∷ [])) k (standing (log ++ r ∷ []))
  values_push r none now ws k = ap (λ base. top_value base k now) (sym (base_push log r none)) ∙ ap (top_value (base_of (log ++ r ∷ [])) k) (sym ws)

  -- ---- RESTART

  pub after_restart : (run epoch : ℕ) → is_above run epoch x.last ≡ true → (z : Index) → AddsRestart x z (length log) run epoch → Knows y.facts (log ++ Restart run epoch ∷ [])
      → IsIndexOf shard (record z { facts = y.facts }) (log ++ Restart run epoch ∷ [])
  after_restart run epoch above z a knows =
      let r : LogRecord = Restart run epoch in
      let ws : standing (log ++ r ∷ []) ≡ standing log = standing_push log r in
      record {
        here = a.shard ∙ i.here;
        last = a.last ∙ sym (last_restart_push log run epoch);
        above = λ q e. above_restart run epoch above q e ∙ ap (is_above q e) (sym a.last);
        restart_at = rw a.restart_at (splits_restart x.restart_at log run epoch i.restart_at);
        facts = knows;
        tops = λ k. ap (λ w. top_at w k) a.writes ∙ i.tops k ∙ ap (top_set k) (sym ws);
        adds = λ k. ap (λ w. adds_at w k) a.writes ∙ i.adds k ∙ ap (adds_over k) (sym ws);
        values = λ k. ap (λ w. value_at w k) a.writes ∙ i.values k ∙ values_push r refl (standing log) ws k;
        newest = λ t. ap (λ w. newest_by w t) a.writes ∙ i.newest t ∙ ap (λ l. lsn_of (newest_of t l)) (sym ws);
        linked = rw (ws, a.writes) i.linked;
        shares = λ k. shares_kept r (λ u. refl) z a.writes ws k;
        descends = rw a.listers i.descends;
        listers = λ q t. ap (λ m. tx_in t (listers_in m q)) a.listers ∙ i.listers q t ∙ ap (tx_in q) (sym (listed_other log r t refl));
        barring = λ t. ap (tx_in t) a.barring ∙ i.barring t ∙ sym (bars_other shard log r (λ u. refl) t refl refl (ap (newest_of t) ws));
      }

  -- ---- another kind

  with_rest : (r : LogRecord) (z : Index) → IsOther r → KeepsRestart x z → HasRest shard z (log ++ r ∷ []) → Knows y.facts (log ++ r ∷ []) → IsIndexOf shard (record z { facts = y.facts }) (log ++ r ∷ [])
  with_rest r z o keeps h knows = record {
    here = keeps.shard ∙ i.here;
    last = keeps.last ∙ i.last ∙ sym (last_restart_other log r o.last);
    above = λ run epoch. above_other r o.above run epoch ∙ ap (is_above run epoch) (sym keeps.last);
    restart_at = rw keeps.restart_at (splits_other x.restart_at log r o.before i.restart_at);
    facts = knows;
    tops = h.tops;
    adds = h.adds;
    values = h.values;
    newest = h.newest;
    linked = h.linked;
    shares = h.shares;
    descends = h.descends;
    listers = h.listers;
    barring = h.barring;
  }

  -- where the writes stay
  same_writes : (r : LogRecord) (z : Index) → standing (log ++ r ∷ []) ≡ standing log → base_by r ≡ [] → z.writes ≡ x.writes → ((k : ℕ) → shares_at z.writes k ≡ shares_of (committed_in (log ++ r ∷ [])) k (standing (log ++ r ∷ []))) → Descends z.listers → ((q t : TxId) → tx_in t (listers_in z.listers q) ≡ tx_in q (listed_in (log ++ r ∷ []) t))
      → ((t : TxId) → tx_in t z.barring ≡ bars shard (log ++ r ∷ []) t) → HasRest shard z (log ++ r ∷ [])
  same_writes r z ws none writes shares descends listers barring = record {
    tops = λ k. ap (λ w. top_at w k) writes ∙ i.tops k ∙ ap (top_set k) (sym ws);
    adds = λ k. ap (λ w. adds_at w k) writes ∙ i.adds k ∙ ap (adds_over k) (sym ws);
    values = λ k. ap (λ w. value_at w k) writes ∙ i.values k ∙ values_push r none (standing log) ws k;
    newest = λ t. ap (λ w. newest_by w t) writes ∙ i.newest t ∙ ap (λ l. lsn_of (newest_of t l)) (sym ws);
    linked = rw (ws, writes) i.linked;
    shares = shares;
    descends = descends;
    listers = listers;
    barring = barring;
  }

  -- where but the shares of one go
  settled_writes : (r : LogRecord) (z : Index) → standing (log ++ r ∷ []) ≡ standing log → base_by r ≡ [] → (tx : TxId) → Settles x.writes z.writes (length log) tx → ((k : ℕ) → shares_at z.writes k ≡ shares_of (committed_in (log ++ r ∷ [])) k (standing (log ++ r ∷ []))) → Descends z.listers
      → ((q t : TxId) → tx_in t (listers_in z.listers q) ≡ tx_in q (listed_in (log ++ r ∷ []) t)) → ((t : TxId) → tx_in t z.barring ≡ bars shard (log ++ r ∷ []) t) → HasRest shard z (log ++ r ∷ [])
  settled_writes r z ws none tx writes shares descends listers barring = record {
    tops = λ k. writes.keeps.tops k ∙ i.tops k ∙ ap (top_set k) (sym ws);
    adds = λ k. writes.keeps.adds k ∙ i.adds k ∙ ap (adds_over k) (sym ws);
    values = λ k. writes.keeps.values k ∙ i.values k ∙ values_push r none (standing log) ws k;
    newest = λ t. ap (λ n. newest_by (record z.writes { newest = n }) t) writes.keeps.newest ∙ i.newest t ∙ ap (λ l. lsn_of (newest_of t l)) (sym ws);
    linked = rw ws
        (linked_stay x.writes z.writes (length log)
        (λ k _. ap (λ r. write_at (record z.writes { records = r }) (Some k)) writes.keeps.records ∙ ap (λ r. write_at (record z.writes { records = x.writes.records; rows = r }) (Some k)) writes.keeps.rows) (standing log) s.falls i.linked);
    shares = shares;
    descends = descends;
    listers = listers;
    barring = barring;
  }

  -- and the lists
  same_listers : (r : LogRecord) (z : Index) → z.listers ≡ x.listers → ((t : TxId) → listed_in (log ++ r ∷ []) t ≡ listed_in log t) → (q t : TxId) → tx_in t (listers_in z.listers q) ≡ tx_in q (listed_in (log ++ r ∷ []) t)
  same_listers r z listers other q t = ap (λ m. tx_in t (listers_in m q)) listers ∙ i.listers q t ∙ ap (tx_in q) (sym (other t))

  plain : (r : LogRecord) → last_restart (r ∷ []) ≡ None → ((run epoch : ℕ) → above_restarts run epoch (r ∷ []) ≡ true) → ((l : List LogRecord) → before_restart l (r ∷ []) ≡ []) → base_by r ≡ [] → IsOther r
  plain r last above before base = record { last = last; above = above; before = before; base = base }

  -- ---- END

  after_end : (tx : TxId) (z : Index) → AddsEnd x z → Knows y.facts (log ++ End tx ∷ []) → IsIndexOf shard (record z { facts = y.facts }) (log ++ End tx ∷ [])
  after_end tx z a knows =
      let r : LogRecord = End tx in
      let ws : standing (log ++ r ∷ []) ≡ standing log = standing_push log r in
      with_rest r z (plain r refl (λ run epoch. refl) (λ l. refl) refl) a.keeps
      (same_writes r z ws refl a.writes (shares_kept r (λ u. refl) z a.writes ws) (rw a.listers i.descends) (same_listers r z a.listers (λ t. listed_other log r t refl))
      (λ t. ap (tx_in t) a.barring ∙ i.barring t ∙ sym (bars_other shard log r (λ u. refl) t refl refl (ap (newest_of t) ws)))) knows

  -- ---- COMMIT

  shares_less : (r : LogRecord) (tx : TxId) (k : ℕ) → ((t : TxId) → committed_in (log ++ r ∷ []) t ≡ committed_in log t || tx_same tx t)
      → settled_from x.writes tx (length log) (newest_by x.writes tx) k (shares_at x.writes k) ≡ shares_of (committed_in (log ++ r ∷ [])) k (standing log)
  shares_less r tx k is =
      ap (λ n. settled_from x.writes tx (length log) n k (shares_at x.writes k)) (i.newest tx) ∙ ap (settled_from x.writes tx (length log) (lsn_of (newest_of tx (standing log))) k) (i.shares k)
      ∙ settled_shares (committed_in log) x.writes tx k (length log) (standing log) i.linked (falls_length (length log) (standing log) s.falls)
      ∙ sym (shares_settled (committed_in log) (committed_in (log ++ r ∷ [])) tx is k (standing log))

  after_commit : (tx : TxId) (parts : List ℕ) (z : Index) → AddsCommit x z (length log) tx → Knows y.facts (log ++ Commit tx parts ∷ []) → IsIndexOf shard (record z { facts = y.facts }) (log ++ Commit tx parts ∷ [])
  after_commit tx parts z a knows =
      let r : LogRecord = Commit tx parts in
      let ws : standing (log ++ r ∷ []) ≡ standing log = standing_push log r in
      with_rest r z (plain r refl (λ run epoch. refl) (λ l. refl) refl) a.keeps
      (settled_writes r z ws refl tx a.writes (λ k. a.writes.shares k ∙ shares_less r tx k (λ u. any_push (is_commit_of u) log r ∙ ap (λ b. committed_in log u || b) (tx_symmetric u tx)) ∙ ap (shares_of (committed_in (log ++ r ∷ [])) k) (sym ws)) (rw a.listers i.descends) (same_listers r z a.listers (λ t. listed_other log r t refl))
      (λ t. a.barring t
      ∙ both (λ b. tx_same tx t ≡ b → cond b false (tx_in t x.barring) ≡ bars shard (log ++ r ∷ []) t) (tx_same tx t)
      (λ _ own. sym (not_bar (is_some (newest_of t (standing (log ++ r ∷ [])))) (committed_in (log ++ r ∷ []) t) (is_held shard (log ++ r ∷ []) t) (any_push (is_commit_of t) log r ∙ ap (λ b. committed_in log t || b) (tx_flip tx t own) ∙ or_yes (committed_in log t))))
      (λ _ other. i.barring t ∙ sym (bars_other shard log r (λ u. refl) t refl (tx_symmetric t tx ∙ other) (ap (newest_of t) ws))) refl)) knows
    where
      not_bar : (a c h : Bool) → c ≡ true → a && not c && not h ≡ false
      not_bar true true h e = refl
      not_bar false c h e = refl
      not_bar true false h e = absurd cc

  -- ---- PREPARE

  -- who wrote and isn't committed, aborted or prepared bars a RESTART
  bars_open : (t : TxId) → is_some (newest_of t (standing log)) ≡ true → committed_in log t ≡ false → is_held shard log t ≡ false → bars shard log t ≡ true
  bars_open t stands uncommitted unheld = rw (stands, uncommitted, unheld) refl

  module _ (tx : TxId) (home : ℕ) (listed : List TxId) (may : may_follow shard log (Prepare tx home listed) ≡ true) where
    lists_now : (q : TxId) → tx_in q (listed_in log tx) || tx_in q listed ≡ tx_in q (listed_in (log ++ Prepare tx home listed ∷ []) tx)
    lists_now q =
        let rule = prepare_rule shard log tx home listed may in
        ap (λ o. tx_in q (elim o [ Some p ↦ p.1 | None ↦ [] ]) || tx_in q listed) (no_prepare log tx rule.unprepared)
        ∙ sym (ap (λ o. tx_in q (elim o [ Some p ↦ p.1 | None ↦ [] ])) (prepare_new log (Prepare tx home listed) tx rule.unprepared ∙ ap (λ b. cond b (Some (home, listed)) None) (tx_self tx)))

    none_aborted : (f g : TxId → Bool) (xs : List TxId) → list_all (λ p. f p && not (g p)) xs ≡ true → list_any g xs ≡ false
    none_aborted f g [] all = refl
    none_aborted f g (p ∷ xs) all =
        ap (λ b. b || list_any g xs) (not_true (g p) (and_second (f p) (not (g p)) (and_first (f p && not (g p)) (list_all (λ q. f q && not (g q)) xs) all)))
        ∙ none_aborted f g xs (and_second (f p && not (g p)) (list_all (λ q. f q && not (g q)) xs) all)

    stands_now : is_some (newest_of tx (standing log)) ≡ true
    stands_now =
        let rule = prepare_rule shard log tx home listed may in
        some_behind (length (before_restart [] log)) tx (standing log) rule.stands

    bars_now : (home == x.shard) && tx_in tx x.barring ≡ bars shard (log ++ Prepare tx home listed ∷ []) tx
    bars_now =
        let r : LogRecord = Prepare tx home listed in
        let rule = prepare_rule shard log tx home listed may in
        let none = none_aborted (λ p. not (tx_same p tx) && prepared_in log p && not (committed_in log p)) (aborted_in log) listed rule.each in
        let was : tx_in tx x.barring ≡ true = i.barring tx ∙ bars_open tx stands_now rule.uncommitted (unprepared_unheld shard log tx rule.unprepared) in
        let stands : is_some (newest_of tx (standing (log ++ r ∷ []))) ≡ true = ap (λ ws. is_some (newest_of tx ws)) (standing_push log r) ∙ stands_now in
        let uncommitted : committed_in (log ++ r ∷ []) tx ≡ false = any_other (is_commit_of tx) log r refl ∙ rule.uncommitted in
        let held : is_held shard (log ++ r ∷ []) tx ≡ not (home == shard) = held_now shard log tx home listed rule.unprepared rule.unaborted none (tx_self tx) in
        ap (λ b. (home == x.shard) && b) was ∙ and_true (home == x.shard) ∙ ap (λ h. home == h) i.here
        ∙ sym (ap (λ b. b && not (committed_in (log ++ r ∷ []) tx) && not (is_held shard (log ++ r ∷ []) tx)) stands ∙ ap (λ b. true && not b && not (is_held shard (log ++ r ∷ []) tx)) uncommitted
        ∙ ap (λ b. true && true && not b) held ∙ twice (home == shard))
      where
        twice : (b : Bool) → true && true && not (not b) ≡ b
        twice true = refl
        twice false = refl

  after_prepare : (tx : TxId) (home : ℕ) (listed : List TxId) → may_follow shard log (Prepare tx home listed) ≡ true → (z : Index) → AddsPrepare x z tx home listed → Knows y.facts (log ++ Prepare tx home listed ∷ [])
      → IsIndexOf shard (record z { facts = y.facts }) (log ++ Prepare tx home listed ∷ [])
  after_prepare tx home listed may z a knows =
      let r : LogRecord = Prepare tx home listed in
      let ws : standing (log ++ r ∷ []) ≡ standing log = standing_push log r in
      let lists = a.listers i.descends in
      with_rest r z (plain r refl (λ run epoch. refl) (λ l. refl) refl) a.keeps
      (same_writes r z ws refl a.writes (shares_kept r (λ u. refl) z a.writes ws) lists.descends
      (λ q t. lists.who q t ∙ ap (λ b. b || (tx_same tx t && tx_in q listed)) (i.listers q t)
      ∙ both (λ b. tx_same tx t ≡ b → tx_in q (listed_in log t) || (b && tx_in q listed) ≡ tx_in q (listed_in (log ++ r ∷ []) t)) (tx_same tx t)
      (λ _ own. subst (λ u. tx_in q (listed_in log u) || tx_in q listed ≡ tx_in q (listed_in (log ++ r ∷ []) u)) (tx_true tx t own) (lists_now tx home listed may q))
      (λ _ other. or_false (tx_in q (listed_in log t)) ∙ ap (tx_in q) (sym (listed_other log r t (tx_symmetric t tx ∙ other)))) refl)
      (λ t. a.barring t
      ∙ both (λ b. tx_same tx t ≡ b → cond b ((home == x.shard) && tx_in t x.barring) (tx_in t x.barring) ≡ bars shard (log ++ r ∷ []) t) (tx_same tx t)
      (λ _ own. subst (λ u. (home == x.shard) && tx_in u x.barring ≡ bars shard (log ++ r ∷ []) u) (tx_true tx t own) (bars_now tx home listed may))
      (λ _ other. i.barring t ∙ sym (bars_other shard log r (λ u. refl) t (tx_symmetric t tx ∙ other) refl (ap (newest_of t) ws))) refl)) knows

  -- ---- ABORT

  module _ (tx : TxId) (may : may_follow shard log (Abort tx) ≡ true) where
    bars_self : bars shard (log ++ Abort tx ∷ []) tx ≡ true
    bars_self =
        let r : LogRecord = Abort tx in
        let rule = abort_rule shard log tx may in
        let stands : is_some (newest_of tx (standing (log ++ r ∷ []))) ≡ true = ap (λ ws. is_some (newest_of tx ws)) (standing_push log r) ∙ newest_is tx (standing log) ∙ rule.stands in
        let uncommitted : committed_in (log ++ r ∷ []) tx ≡ false = any_other (is_commit_of tx) log r refl ∙ rule.uncommitted in
        let aborted : aborted_in (log ++ r ∷ []) tx ≡ true = any_push (is_abort_of tx) log r ∙ ap (λ b. aborted_in log tx || b) (tx_self tx) ∙ or_yes (aborted_in log tx) in
        ap (λ b. b && not (committed_in (log ++ r ∷ []) tx) && not (is_held shard (log ++ r ∷ []) tx)) stands ∙ ap (λ b. true && not b && not (is_held shard (log ++ r ∷ []) tx)) uncommitted
        ∙ ap (λ b. true && true && not b) (aborted_unheld shard (log ++ r ∷ []) tx aborted)

    bars_lister : (t : TxId) → tx_same t tx ≡ false → tx_in t x.barring || (tx_in t (listers_in x.listers tx) && bars_after_abort x t) ≡ bars shard (log ++ Abort tx ∷ []) t
    bars_lister t other =
        let r : LogRecord = Abort tx in
        let a : Bool = is_some (newest_of t (standing log)) && not (committed_in log t) in
        let is_a : bars_after_abort x t ≡ a = ap (λ b. b && not (has_commit x t)) (ap is_some (i.newest t) ∙ some_lsn (newest_of t (standing log))) ∙ ap (λ b. is_some (newest_of t (standing log)) && not b) (is_committed shard x log s i t) in
        let now : bars shard (log ++ r ∷ []) t ≡ a && not (is_held shard log t && not (tx_in tx (listed_in log t))) =
        ap (λ o. is_some o && not (committed_in (log ++ r ∷ []) t) && not (is_held shard (log ++ r ∷ []) t)) (ap (newest_of t) (standing_push log r))
        ∙ ap (λ b. is_some (newest_of t (standing log)) && not b && not (is_held shard (log ++ r ∷ []) t)) (any_other (is_commit_of t) log r refl)
        ∙ ap (λ b. a && not b) (held_after shard log tx t other) in
        ap (λ b. b || (tx_in t (listers_in x.listers tx) && bars_after_abort x t)) (i.barring t) ∙ ap (λ b. bars shard log t || (b && bars_after_abort x t)) (i.listers tx t)
        ∙ ap (λ b. bars shard log t || (tx_in tx (listed_in log t) && b)) is_a ∙ either a (is_held shard log t) (tx_in tx (listed_in log t)) ∙ sym now
      where
        some_lsn : (o : Option StandingUpdate) → is_some (lsn_of o) ≡ is_some o
        some_lsn None = refl
        some_lsn (Some w) = refl

        either : (a h l : Bool) → (a && not h) || (l && a) ≡ a && not (h && not l)
        either true true true = refl
        either true true false = refl
        either true false l = refl
        either false h l = and_no l

  after_abort : (tx : TxId) → may_follow shard log (Abort tx) ≡ true → (z : Index) → AddsAbort x z tx → Knows y.facts (log ++ Abort tx ∷ []) → IsIndexOf shard (record z { facts = y.facts }) (log ++ Abort tx ∷ [])
  after_abort tx may z a knows =
      let r : LogRecord = Abort tx in
      let ws : standing (log ++ r ∷ []) ≡ standing log = standing_push log r in
      with_rest r z (plain r refl (λ run epoch. refl) (λ l. refl) refl) a.keeps
      (same_writes r z ws refl a.writes (shares_kept r (λ u. refl) z a.writes ws) (rw a.listers i.descends) (same_listers r z a.listers (λ t. listed_other log r t refl))
      (λ t. a.barring t
      ∙ both (λ b. tx_same tx t ≡ b → cond b true (tx_in t x.barring || (tx_in t (listers_in x.listers tx) && bars_after_abort x t)) ≡ bars shard (log ++ r ∷ []) t) (tx_same tx t)
      (λ _ own. subst (λ u. true ≡ bars shard (log ++ r ∷ []) u) (tx_true tx t own) (sym (bars_self tx may)))
      (λ _ other. bars_lister tx may t (tx_symmetric t tx ∙ other)) refl)) knows

  -- ---- UPDATE and ADD

  module _ (r : LogRecord) (w : StandingUpdate) (at : w.lsn ≡ length log) (ws : standing (log ++ r ∷ []) ≡ w ∷ standing log) (other : IsOther r) (no_abort : (t : TxId) → is_abort_of t r ≡ false) (no_prepare : (t : TxId) → is_prepare_of t r ≡ false)
      (no_commit : (t : TxId) → is_commit_of t r ≡ false) (may : WriteRule log w.tx) where
    bars_writer : bars shard (log ++ r ∷ []) w.tx ≡ true
    bars_writer =
        let stands : is_some (newest_of w.tx (standing (log ++ r ∷ []))) ≡ true = ap (λ ws. is_some (newest_of w.tx ws)) ws ∙ ap (λ b. is_some (cond b (Some w) (newest_of w.tx (standing log)))) (tx_self w.tx) in
        let uncommitted : committed_in (log ++ r ∷ []) w.tx ≡ false = any_other (is_commit_of w.tx) log r (no_commit w.tx) ∙ may.uncommitted in
        let unheld : is_held shard (log ++ r ∷ []) w.tx ≡ false = held_other shard log r no_abort w.tx (no_prepare w.tx) ∙ unprepared_unheld shard log w.tx may.unprepared in
        ap (λ b. b && not (committed_in (log ++ r ∷ []) w.tx) && not (is_held shard (log ++ r ∷ []) w.tx)) stands ∙ ap (λ b. true && not b && not (is_held shard (log ++ r ∷ []) w.tx)) uncommitted
        ∙ ap (λ b. true && true && not b) unheld

    -- what stands at a key, by what stood there
    at_own : {X : Type 0} (k : ℕ) (f : ℕ → X) (g : X → X) → cond (w.key == k) (g (f w.key)) (f k) ≡ cond (k == w.key) (g (f k)) (f k)
    at_own k f g = both (λ b. (w.key == k) ≡ b → cond b (g (f w.key)) (f k) ≡ cond b (g (f k)) (f k)) (w.key == k) (λ _ e. ap (λ j. g (f j)) (eqb-true w.key k e)) (λ _ _. refl) refl ∙ ap (λ b. cond b (g (f k)) (f k)) (eq_flip w.key k)

    top_now : (c : Change) (n : ℕ) (o : Option ℕ) → top_after c n o ≡ cond (is_setting c) (Some n) o
    top_now (Sets before after) n o = refl
    top_now (Adding by) n o = refl

    adds_now : (c : Change) (n : ℕ) → adds_after c n ≡ cond (is_setting c) 0 (n + 1)
    adds_now (Sets before after) n = refl
    adds_now (Adding by) n = refl

    after_write : slice_get x.writes.records.now w.lsn ≡ Some (update_of w.tx w.key w.change) → (z : Index) → AddsWrite x z w.lsn w.tx w.key w.change → Knows y.facts (log ++ r ∷ []) → IsIndexOf shard (record z { facts = y.facts }) (log ++ r ∷ [])
    after_write there z a knows =
        let pushed : Pushes x.writes z.writes (link_of w (standing log)) = subst (Pushes x.writes z.writes) (linked_is x.writes (standing log) w (i.tops w.key) (i.adds w.key) (i.newest w.tx)) (a.writes there) in
        let below : (k : ℕ) → k < w.lsn → write_at z.writes (Some k) ≡ write_at x.writes (Some k) =
        λ k lt. pushed.rows k ∙ ap (λ b. cond b (Some (link_of w (standing log))) (write_at x.writes (Some k))) (ne_eqb w.lsn k (λ e. absurd (omega (arith, lt, e)))) in
        let own : write_at z.writes (Some w.lsn) ≡ Some (link_of w (standing log)) =
        pushed.rows w.lsn ∙ ap (λ b. cond b (Some (link_of w (standing log))) (write_at x.writes (Some w.lsn))) (eq-eqb w.lsn w.lsn refl) in
        with_rest r z other a.keeps (record {
          tops = λ k. pushed.tops k ∙ at_own k (top_at x.writes) (top_after w.change w.lsn)
              ∙ ap (λ o. cond (k == w.key) o (top_at x.writes k)) (top_now w.change w.lsn (top_at x.writes k))
              ∙ ap (λ o. cond (k == w.key) (cond (is_setting w.change) (Some w.lsn) o) o) (i.tops k) ∙ ap (top_set k) (sym ws);
          adds = λ k. pushed.adds k ∙ at_own k (adds_at x.writes) (adds_after w.change)
              ∙ ap (λ n. cond (k == w.key) n (adds_at x.writes k)) (adds_now w.change (adds_at x.writes k))
              ∙ ap (λ n. cond (k == w.key) (cond (is_setting w.change) 0 (n + 1)) n) (i.adds k) ∙ ap (adds_over k) (sym ws);
          values = λ k. pushed.values k ∙ at_own k (value_at x.writes) (changed w.change)
              ∙ ap (λ v. cond (k == w.key) (changed w.change v) v) (i.values k) ∙ values_push r other.base (w ∷ standing log) ws k;
          newest = λ t. pushed.newest t
              ∙ both (λ b. (tx_same w.tx t) ≡ b → cond b (Some w.lsn) (newest_by x.writes t) ≡ lsn_of (cond b (Some w) (newest_of t (standing log)))) (tx_same w.tx t) (λ _ _. refl) (λ _ _. i.newest t) refl
              ∙ ap (λ b. lsn_of (cond b (Some w) (newest_of t (standing log)))) (tx_symmetric w.tx t) ∙ ap (λ l. lsn_of (newest_of t l)) (sym ws);
          linked = rw ws (own, linked_stay x.writes z.writes w.lsn below (standing log) (subst (λ n. Falls n (standing log)) (sym at) s.falls) i.linked);
          shares = λ k. pushed.shares k ∙ at_own k (shares_at x.writes) (with_share w.tx (is_setting w.change))
              ∙ ap (λ l. cond (k == w.key) (with_share w.tx (is_setting w.change) l) l) (i.shares k ∙ sym (shares_same r no_commit k (standing log)))
              ∙ sym (ap (λ b. cond ((k == w.key) && not b) (with_share w.tx (is_setting w.change) (shares_of (committed_in (log ++ r ∷ [])) k (standing log))) (shares_of (committed_in (log ++ r ∷ [])) k (standing log)))
              (any_other (is_commit_of w.tx) log r (no_commit w.tx) ∙ may.uncommitted)
              ∙ ap (λ b. cond b (with_share w.tx (is_setting w.change) (shares_of (committed_in (log ++ r ∷ [])) k (standing log))) (shares_of (committed_in (log ++ r ∷ [])) k (standing log))) (and_true (k == w.key)))
              ∙ ap (shares_of (committed_in (log ++ r ∷ [])) k) (sym ws);
          descends = rw a.listers i.descends;
          listers = same_listers r z a.listers (λ t. listed_other log r t (no_prepare t));
          barring = λ t. a.barring t
              ∙ both (λ b. (tx_same w.tx t) ≡ b → cond b true (tx_in t x.barring) ≡ bars shard (log ++ r ∷ []) t) (tx_same w.tx t)
              (λ _ same. sym (subst (λ u. bars shard (log ++ r ∷ []) u ≡ true) (tx_true w.tx t same) bars_writer))
              (λ _ foreign. i.barring t ∙ sym (bars_other shard log r no_abort t (no_prepare t) (no_commit t) (ap (newest_of t) ws ∙ ap (λ b. cond b (Some w) (newest_of t (standing log))) (tx_symmetric t w.tx ∙ foreign)))) refl;
        }) knows

  -- ---- CLR and UNADD

  newest_found : (tx : TxId) (over : List StandingUpdate) (w : StandingUpdate) (under : List StandingUpdate) → AllByRecursion (λ v. tx_same tx v.tx ≡ false) over → tx_same tx w.tx ≡ true → newest_of tx (over ++ w ∷ under) ≡ Some w
  newest_found tx [] w under others own = ap (λ b. cond b (Some w) (newest_of tx under)) own
  newest_found tx (v ∷ vs) w under others own = ap (λ b. cond b (Some v) (newest_of tx (vs ++ w ∷ under))) others.0 ∙ newest_found tx vs w under others.1 own

  chain_under : (floor : KeyMap) (over : List StandingUpdate) (w : StandingUpdate) (under : List StandingUpdate) → Chain floor (over ++ w ∷ under) → IsOver w.change (top_value floor w.key under)
  chain_under floor [] w under chain = chain.0
  chain_under floor (v ∷ vs) w under chain = chain_under floor vs w under chain.1

  module _ (r : LogRecord) (tx : TxId) (ws : standing (log ++ r ∷ []) ≡ without_newest tx (standing log)) (other : IsOther r) (no_abort : (t : TxId) → is_abort_of t r ≡ false) (no_prepare : (t : TxId) → is_prepare_of t r ≡ false)
      (no_commit : (t : TxId) → is_commit_of t r ≡ false) (may : may_undo log tx ≡ true) (u : Undoes tx (standing log)) where
    abbrev link : Write
    link = link_of u.write u.under

    now : standing (log ++ r ∷ []) ≡ u.over ++ u.under
    now = ws ∙ ap (without_newest tx) u.is ∙ left_is tx u.over u.write u.under u.others u.own

    newest_was : newest_of tx (standing log) ≡ Some u.write
    newest_was = ap (newest_of tx) u.is ∙ newest_found tx u.over u.write u.under u.others u.own

    found : write_at x.writes (newest_by x.writes tx) ≡ Some link
    found = ap (write_at x.writes) (i.newest tx ∙ ap lsn_of newest_was) ∙ linked_at x.writes u.over u.write u.under (subst (Linked x.writes) u.is i.linked)

    chained : IsOver u.write.change (top_value (base_of log) u.write.key u.under)
    chained = chain_under (base_of log) u.over u.write u.under (subst (Chain (base_of log)) u.is s.chain)

    uncommitted : committed_in log u.write.tx ≡ false
    uncommitted = ap (committed_in log) (sym (tx_true tx u.write.tx u.own)) ∙ undone_uncommitted log tx s may

    there : is_there x.writes u.write.key ≡ true
    there = at (top_of x.writes u.write.key) refl
      where
        at : (o : Option Top) → top_of x.writes u.write.key ≡ o → is_some o ≡ true
        at (Some t) e = refl
        at None e =
            absurd (something_there u.write u.over u.under u.clear
            (sym (i.tops u.write.key ∙ ap (top_set u.write.key) u.is) ∙ ap (λ o. elim o [ None ↦ None | Some t ↦ t.update ]) e)
            (sym (i.adds u.write.key ∙ ap (adds_over u.write.key) u.is) ∙ ap (λ o. elim o [ None ↦ 0 | Some t ↦ t.adds ]) e))

    -- at each key, by what stood there
    by_keys : {X : Type 0} (f : ℕ → X) (g : ℕ → List StandingUpdate → X) (h : X → X) → ((k : ℕ) → f k ≡ g k (standing log))
        → ((k : ℕ) → g k (u.over ++ u.under) ≡ cond (u.write.key == k) (h (g u.write.key (u.over ++ u.write ∷ u.under))) (g k (u.over ++ u.write ∷ u.under)))
        → (k : ℕ) → cond (u.write.key == k) (h (f u.write.key)) (f k) ≡ g k (standing (log ++ r ∷ []))
    by_keys f g h was left k =
        ap (λ v. cond (u.write.key == k) (h v) (f k)) (was u.write.key ∙ ap (g u.write.key) u.is) ∙ ap (λ v. cond (u.write.key == k) (h (g u.write.key (u.over ++ u.write ∷ u.under))) v) (was k ∙ ap (g k) u.is)
        ∙ sym (left k) ∙ ap (g k) (sym now)

    shares_left : (k : ℕ) → shares_of (committed_in log) k (u.over ++ u.under)
        ≡ cond (u.write.key == k) (without_share tx (is_setting u.write.change) (shares_of (committed_in log) u.write.key (u.over ++ u.write ∷ u.under))) (shares_of (committed_in log) k (u.over ++ u.write ∷ u.under))
    shares_left k =
        both (λ b. (u.write.key == k) ≡ b → shares_of (committed_in log) k (u.over ++ u.under)
        ≡ cond b (without_share tx (is_setting u.write.change) (shares_of (committed_in log) u.write.key (u.over ++ u.write ∷ u.under))) (shares_of (committed_in log) k (u.over ++ u.write ∷ u.under))) (u.write.key == k)
        (λ _ e. ap (λ j. shares_of (committed_in log) j (u.over ++ u.under)) (sym (eqb-true u.write.key k e)) ∙ shares_here (committed_in log) tx u.write u.over u.under u.others u.own uncommitted)
        (λ _ e. shares_elsewhere (committed_in log) k u.write u.over u.under (eq_flip k u.write.key ∙ e)) refl

    bars_undone : (z : Index) → newest_by z.writes tx ≡ lsn_of (newest_of tx (standing (log ++ r ∷ []))) → is_some (newest_by z.writes tx) && tx_in tx x.barring ≡ bars shard (log ++ r ∷ []) tx
    bars_undone z left =
        let o = newest_of tx (standing (log ++ r ∷ [])) in
        let is_now : bars shard (log ++ r ∷ []) tx ≡ is_some o && not (committed_in log tx) && not (is_held shard log tx) =
        ap (λ b. is_some o && not b && not (is_held shard (log ++ r ∷ []) tx)) (any_other (is_commit_of tx) log r (no_commit tx))
        ∙ ap (λ b. is_some o && not (committed_in log tx) && not b) (held_other shard log r no_abort tx (no_prepare tx)) in
        ap (λ p. is_some p && tx_in tx x.barring) left ∙ ap (λ b. b && tx_in tx x.barring) (some_lsn o) ∙ ap (λ b. is_some o && b) (i.barring tx)
        ∙ ap (λ p. is_some o && (is_some p && not (committed_in log tx) && not (is_held shard log tx))) newest_was
        ∙ joined (is_some o) (not (committed_in log tx)) (not (is_held shard log tx)) ∙ sym is_now
      where
        some_lsn : (o : Option StandingUpdate) → is_some (lsn_of o) ≡ is_some o
        some_lsn None = refl
        some_lsn (Some v) = refl

        joined : (n c h : Bool) → n && (true && c && h) ≡ n && c && h
        joined true c h = refl
        joined false c h = refl

    after_undo : (z : Index) → AddsUndo x z tx → Knows y.facts (log ++ r ∷ []) → IsIndexOf shard (record z { facts = y.facts }) (log ++ r ∷ [])
    after_undo z a knows =
        let popped : PopsWrite x.writes z.writes tx link = subst (Pops x.writes z.writes tx) found a.writes there in
        let newest : (t : TxId) → newest_by z.writes t ≡ lsn_of (newest_of t (standing (log ++ r ∷ []))) =
        λ t. popped.newest t ∙ ap (cond (tx_same tx t) link.earlier) (i.newest t ∙ ap (λ l. lsn_of (newest_of t l)) u.is)
        ∙ sym (newest_left tx u.write u.over u.under u.others u.own u.clear (base_of log) chained t) ∙ ap (λ l. lsn_of (newest_of t l)) (sym now) in
        with_rest r z other a.keeps (record {
          tops = λ k. popped.tops k
              ∙ by_keys (top_at x.writes) top_set (top_before link u.write.change) i.tops (tops_left tx u.write u.over u.under u.others u.own u.clear (base_of log) chained) k;
          adds = λ k. popped.adds k
              ∙ by_keys (adds_at x.writes) adds_over (adds_before link u.write.change) i.adds (adds_left tx u.write u.over u.under u.others u.own u.clear (base_of log) chained) k;
          values = λ k. popped.values k
              ∙ by_keys (value_at x.writes) (top_value (base_of log)) (unchanged u.write.change) i.values (values_left tx u.write u.over u.under u.others u.own u.clear (base_of log) chained) k
              ∙ values_push r other.base (standing (log ++ r ∷ [])) refl k;
          newest = newest;
          linked = subst (Linked z.writes) (sym now)
              (linked_left z.writes tx u.write u.over u.under u.others u.own u.clear
              (subst (Linked z.writes) u.is (linked_stay x.writes z.writes (length log) (λ k _. popped.rows k) (standing log) s.falls i.linked)));
          shares = λ k. popped.shares k
              ∙ by_keys (shares_at x.writes) (shares_of (committed_in log)) (without_share tx (is_setting u.write.change)) i.shares shares_left k
              ∙ sym (shares_same r no_commit k (standing (log ++ r ∷ [])));
          descends = rw a.listers i.descends;
          listers = same_listers r z a.listers (λ t. listed_other log r t (no_prepare t));
          barring = λ t. a.barring t
              ∙ both (λ b. (tx_same tx t) ≡ b → cond b (is_some (newest_by z.writes tx) && tx_in t x.barring) (tx_in t x.barring) ≡ bars shard (log ++ r ∷ []) t) (tx_same tx t)
              (λ _ own. subst (λ v. is_some (newest_by z.writes tx) && tx_in v x.barring ≡ bars shard (log ++ r ∷ []) v) (tx_true tx t own) (bars_undone z (newest tx)))
              (λ _ foreign. i.barring t ∙ sym (bars_other shard log r no_abort t (no_prepare t) (no_commit t) (ap (newest_of t) ws ∙ of_other tx t (standing log) foreign))) refl;
        }) knows

-- ---- each kind

grows_between : (shard : ℕ) (x y z : Index) (log : List LogRecord) (r : LogRecord) → Sound log → IsIndexOf shard x log → slice_get x.writes.records.now (length log) ≡ Some r → may_follow shard log r ≡ true → ((run epoch : ℕ) → r ≡ Restart run epoch → is_above run epoch x.last ≡ true)
    → Places x z (length log) r → Knows y.facts (log ++ r ∷ []) → IsIndexOf shard (record z { facts = y.facts }) (log ++ r ∷ [])
grows_between shard x y z log (Restart run epoch) s i at may above a knows = after_restart shard x y log s i run epoch (above run epoch refl) z a knows
grows_between shard x y z log (Update tx key before after) s i at may above a knows =
    let r : LogRecord = Update tx key before after in
    let w : StandingUpdate = record { lsn = length log; tx = tx; key = key; change = Sets before after } in
    after_write shard x y log s i r w refl (standing_push log r) (plain shard x y log s i r refl (λ run epoch. refl) (λ l. refl) refl) (λ t. refl) (λ t. refl) (λ t. refl) (update_rule shard log tx key before after may).may at z a knows
grows_between shard x y z log (Add tx key by) s i at may above a knows =
    let r : LogRecord = Add tx key by in
    let w : StandingUpdate = record { lsn = length log; tx = tx; key = key; change = Adding by } in
    after_write shard x y log s i r w refl (standing_push log r) (plain shard x y log s i r refl (λ run epoch. refl) (λ l. refl) refl) (λ t. refl) (λ t. refl) (λ t. refl) (add_rule shard log tx key by may).may at z a knows
grows_between shard x y z log (Clr tx undo_next key after) s i at may above a knows =
    let r : LogRecord = Clr tx undo_next key after in
    after_undo shard x y log s i r tx (standing_push log r) (plain shard x y log s i r refl (λ run epoch. refl) (λ l. refl) refl) (λ t. refl) (λ t. refl) (λ t. refl) (clr_rule shard log tx undo_next key after may).may
    (clr_undoes shard (length log) log tx undo_next key after s.falls may) z a knows
grows_between shard x y z log (Unadd tx undo_next key by) s i at may above a knows =
    let r : LogRecord = Unadd tx undo_next key by in
    after_undo shard x y log s i r tx (standing_push log r) (plain shard x y log s i r refl (λ run epoch. refl) (λ l. refl) refl) (λ t. refl) (λ t. refl) (λ t. refl) (unadd_rule shard log tx undo_next key by may).may
    (unadd_undoes shard (length log) log tx undo_next key by s.falls may) z a knows
grows_between shard x y z log (Prepare tx home listed) s i at may above a knows = after_prepare shard x y log s i tx home listed may z a knows
grows_between shard x y z log (Commit tx parts) s i at may above a knows = after_commit shard x y log s i tx parts z a knows
grows_between shard x y z log (Abort tx) s i at may above a knows = after_abort shard x y log s i tx may z a knows
grows_between shard x y z log (End tx) s i at may above a knows = after_end shard x y log s i tx z a knows
grows_between shard x y z log Forgotten s i at may above a knows = absurd cc
grows_between shard x y z log (Check run' epoch' upto base) s i at may above a knows = absurd cc

same_facts : (x z : Index) (n : ℕ) (r : LogRecord) → Places x z n r → z.facts ≡ x.facts
same_facts x z n (Restart run epoch) a = a.facts
same_facts x z n (Update tx key before after) a = a.keeps.facts
same_facts x z n (Clr tx undo_next key after) a = a.keeps.facts
same_facts x z n (Prepare tx home listed) a = a.keeps.facts
same_facts x z n (Commit tx parts) a = a.keeps.facts
same_facts x z n (Abort tx) a = a.keeps.facts
same_facts x z n (End tx) a = a.keeps.facts
same_facts x z n (Add tx key by) a = a.keeps.facts
same_facts x z n (Unadd tx undo_next key by) a = a.keeps.facts
same_facts x z n Forgotten a = a.keeps.facts
same_facts x z n (Check run' epoch' upto base) a = a.keeps.facts

same_records : (x z : Index) (n : ℕ) (r : LogRecord) → Places x z n r → z.writes.records ≡ x.writes.records
same_records x z n (Restart run epoch) a = ap (λ w. w.records) a.writes
same_records x z n (Update tx key before after) a = a.records
same_records x z n (Clr tx undo_next key after) a = a.records
same_records x z n (Prepare tx home listed) a = ap (λ w. w.records) a.writes
same_records x z n (Commit tx parts) a = a.writes.keeps.records
same_records x z n (Abort tx) a = ap (λ w. w.records) a.writes
same_records x z n (End tx) a = ap (λ w. w.records) a.writes
same_records x z n (Add tx key by) a = a.records
same_records x z n (Unadd tx undo_next key by) a = a.records
same_records x z n Forgotten a = ap (λ w. w.records) a.writes
same_records x z n (Check run' epoch' upto base) a = ap (λ w. w.records) a.writes

pub keeps_records : (x y : Index) (n : ℕ) (r : LogRecord) → Adds x y n r → y.writes.records ≡ x.writes.records
keeps_records x y n r a = ap (λ v. v.writes.records) a.rest ∙ same_records x a.between n r a.places

above_last : (shard : ℕ) (x : Index) (log : List LogRecord) (r : LogRecord) → IsIndexOf shard x log → may_follow shard log r ≡ true → (run epoch : ℕ) → r ≡ Restart run epoch → is_above run epoch x.last ≡ true
above_last shard x log r i may run epoch is =
    let restart : may_follow shard log (Restart run epoch) ≡ true = ap (may_follow shard log) (sym is) ∙ may in
    sym (i.above run epoch) ∙ and_first _ _ restart

pub grows : (shard : ℕ) (x y : Index) (log : List LogRecord) (r : LogRecord) → Sound log → IsIndexOf shard x log → slice_get x.writes.records.now (length log) ≡ Some r → may_follow shard log r ≡ true → Adds x y (length log) r → IsIndexOf shard y (log ++ r ∷ [])
grows shard x y log r s i at may a =
    let knows : Knows y.facts (log ++ r ∷ []) = a.facts log refl (subst (λ f. Knows f log) (sym (same_facts x a.between (length log) r a.places)) i.facts) in
    subst (λ v. IsIndexOf shard v (log ++ r ∷ [])) (sym a.rest) (grows_between shard x y a.between log r s i at may (above_last shard x log r i may) a.places knows)
