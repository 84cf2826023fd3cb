-- What comes in order behind a log in order comes in order behind its checkpoint.
pub mod RestartsAlike
pub mod ListsAreCut
pub mod NewestOfOpen
use Rattle.std.proofs.Common.{◌≡◌, ◌⊎◌, inl, inr, ⊎_elim, refl, sym, ap, subst, ◌∙◌, ℕ, suc, ◌+◌, ◌≤◌, ◌<◌, Bool, true, false, cond, not, ◌&&◌, ◌||◌, ◌==◌, nat_lt, List, [], ◌∷◌, ◌++◌, append-nil, append_assoc, length, length-append, Option, Some, None, is_some, arith}
use Rattle.std.specs.Prelude.{◌^◌}
use Rattle.std.specs.List.{AllByRecursion, filter, list_any, list_all}
use Rattle.std.proofs.lemmas.Bool.{both_ways, and_parts, and_from, or_cases, false_from_ne_true, lt-ltb, ltb-true}
use Rattle.std.proofs.lemmas.List.Folds.{list_any-append}
use Rattle.std.proofs.lemmas.Option.{same_Some}
use Rattle.clv_base.specs.declared.names.TxId.{TxId}
use Rattle.clv_base.specs.declared.values.Value.{Value as ValueType}
use Rattle.clv_base.specs.declared.changes.Change.{Change}
use Rattle.clv_base.specs.declared.changes.Change.TheVariants.{Sets, Adds}
use Rattle.clv_base.specs.declared.logs.LogRecord.{LogRecord}
use Rattle.clv_base.specs.declared.logs.LogRecord.TheVariants.{Update, Clr, Prepare, Commit, Abort, End, Restart, Add, Unadd, Forgotten, Check}
use Rattle.clv_base.specs.Orders.{tx_same, tx_in, nat_in}
use Rattle.clv_base.specs.Maps.{map_get, is_number}
use Rattle.clv_base.specs.Values.{same_optional_value}
use Rattle.clv_base.specs.Logs.{StandingUpdate, is_setting, standing, has_standing, value_in, fold_at, fold_writes, base_of, committed_in, prepared_in, aborted_in, ended_in, wrote_in, prepare_of, commit_parts, newest_of, newest_at, in_doubt, is_winner, is_update_of, is_commit_of, is_prepare_of, is_abort_of, is_end_of}
use Rattle.clv_base.specs.LogRules.{last_restart, before_restart, in_last_run, is_listed, is_current, lists, same_option, may_write, may_cover, may_set, may_add, may_undo, listed_in, writes_below, commit_by_prepare, has_new_standing, some_parts, next_to_undo, lies_below, clears, unadds, compensates, may_follow, disorder}
use Rattle.clv_base.specs.Checkpoints.{is_left_open, kept_from, no_restart, committed_map, check}
use Rattle.clv_base.proofs.SameNames.{or_left, or_right, tx_true, tx_self}
use Rattle.law_base.specs.Coming.{Follows}
use Rattle.law_base.proofs.Bools.{and_first as front, and_second as last, not_true}
use Rattle.law_base.proofs.Lists.{all_mono, all_filter}
use Rattle.law_base.proofs.Logs.{no_prepare}
use Rattle.law_base.proofs.Names.{all_from}
use Rattle.law_base.proofs.Parts.{in_order_more, in_order_cut, whole_part}
use Rattle.law_base.proofs.Sets.{in_filter, list_all_at}
use Rattle.law_base.proofs.Standing.{has_write, has_filter, all_stand, newest_is, standing_append, standing_falls}
use Rattle.protocol_laws.proofs.LogsInOrder.{aborted_uncommitted}
use Rattle.shard_laws.proofs.Order.ChangesKeepOrder.{prepare_some}
use Rattle.shard_laws.proofs.Order.WhoseWritesStand.{open_stands}
use Rattle.log_checkpoint.specs.Laws.{IsFirst, Moves, GoesOn}
use Rattle.log_checkpoint.proofs.Again.{no_prepare_first}
use Rattle.log_checkpoint.proofs.GoingOn.{of_open, stands_on, fold_by, get_fold, folds_on}
use Rattle.log_checkpoint.proofs.Keeping.{committed_before, same_length}
use Rattle.log_checkpoint.proofs.Restarting.{aborts_stay, newest_open}
use Rattle.log_checkpoint.proofs.StayingAlike.{first_of, prepare_more, moves_all, unprepared_write, unaborted_write, same_commit, old_standing}
use Rattle.checkpoint_laws.specs.Laws.{CheckpointsGoOnInOrder}
use Rattle.checkpoint_laws.proofs.InOrder.{begins, logs_in_order}
use Rattle.checkpoint_laws.proofs.GoingOn.{later_go, later_lie, stay_alike}
use Rattle.checkpoint_laws.proofs.WritesThatStay.{some_stays, all_stay, below_stay}
use Rattle.checkpoint_laws.proofs.CheckpointsAreInOrder.{first_kind, checked_in_order}
use Rattle.checkpoint_laws.proofs.CheckpointsAreInOrder.KeptRecordsWereThere.{Wider, updates_wider, commits_wider, prepares_wider, aborts_wider, ends_wider, lists_wider, all_wider, prepares_of_open_stay, parts_stay}
use Rattle.checkpoint_laws.proofs.CheckpointsAreInOrder.OpenWritesStandOnTheMap.{value_below}
use Rattle.checkpoint_laws.proofs.CheckpointsGoOnInOrder.RestartsAlike.{above_alike, last_alike, Before, before_first, before_more, follow_kind}
use Rattle.checkpoint_laws.proofs.CheckpointsGoOnInOrder.ListsAreCut.{cut_of, prepares_cut, listed_later, parts_more, no_parts, no_commit}
use Rattle.checkpoint_laws.proofs.CheckpointsGoOnInOrder.NewestOfOpen.{next_open, top_open}

-- whom a PREPARE names, and what it lists
abbrev names : Option (ℕ × List TxId) → List TxId
names None = []
names (Some p) = p.1

listed_is : (log : List LogRecord) (t : TxId) → listed_in log t ≡ names (prepare_of log t)
listed_is log t = at (prepare_of log t)
  where
    at : (o : Option (ℕ × List TxId)) → ◌≡◌ {A = List TxId} (elim o [ Some p ↦ p.1 | None ↦ [] ]) (names o)
    at None = refl
    at (Some p) = refl

from_all : (P : TxId → Type 0) (ps : List TxId) → AllByRecursion P ps → (t : TxId) → tx_in t ps ≡ true → P t
from_all P [] a t i = absurd (both_ways false refl i)
from_all P (p ∷ ps) a t i = ⊎_elim (λ s. subst P (tx_true p t s) a.0) (λ r. from_all P ps a.1 t r) (or_cases (tx_same p t) (tx_in t ps) i)

module _ (shard : ℕ) (first : LogRecord) (later : List LogRecord) (d : disorder shard (first ∷ later) ≡ None) where
  abbrev log : List LogRecord
  log = first ∷ later

  abbrev head : LogRecord
  head = Check (no_restart (last_restart log)).0 (no_restart (last_restart log)).1 (suc (length later)) (committed_map log)

  abbrev kept : List LogRecord
  kept = kept_from shard log 1 later

  abbrev checked : List LogRecord
  checked = head ∷ kept

  pub begun : IsFirst first
  begun = begins shard log d

  prepared_behind : (t : TxId) → prepared_in log t ≡ true → prepared_in later t ≡ true
  prepared_behind t = first_kind (λ r. prepared_in (r ∷ later) t ≡ true → prepared_in later t ≡ true) (λ r e h. h) (λ r e u b h. h) first begun

  aborted_behind : (t : TxId) → aborted_in log t ≡ true → aborted_in later t ≡ true
  aborted_behind t = first_kind (λ r. aborted_in (r ∷ later) t ≡ true → aborted_in later t ≡ true) (λ r e h. h) (λ r e u b h. h) first begun

  parts_behind : (t : TxId) → commit_parts later t ≡ commit_parts log t
  parts_behind t = first_kind (λ r. commit_parts later t ≡ commit_parts (r ∷ later) t) (λ r e. refl) (λ r e u b. refl) first begun

  -- what is told of a checkpoint's records is told of the log's
  told_there : (f : LogRecord → Bool) → Wider f → f head ≡ false → list_any f checked ≡ true → list_any f log ≡ true
  told_there f w none e = ⊎_elim (λ h. absurd (both_ways _ none h)) (λ k. or_right (f first) _ (all_wider f w shard log 1 later k)) (or_cases (f head) (list_any f kept) e)

  -- ---- behind a log, and behind its checkpoint

  module _ (mid : List LogRecord) (in_order : disorder shard (log ++ mid) ≡ None) (so_far : disorder shard (checked ++ mid) ≡ None) where
    abbrev long : List LogRecord
    long = log ++ mid

    abbrev short : List LogRecord
    short = checked ++ mid

    pub goes : AllByRecursion (GoesOn shard log) mid
    goes = later_go shard first later mid d in_order

    pub moves : AllByRecursion (Moves log) mid
    moves = moves_all shard first later mid begun goes

    pub stands : standing short ≡ filter (of_open log) (standing long)
    stands = stands_on shard log mid begun moves

    pub told : (f : LogRecord → Bool) → Wider f → f head ≡ false → list_any f short ≡ true → list_any f long ≡ true
    told f w none e =
        list_any-append f log mid
        ∙ ⊎_elim (λ h. or_left _ _ (told_there f w none h)) (λ m. or_right (list_any f log) _ m) (or_cases (list_any f checked) (list_any f mid) (sym (list_any-append f checked mid) ∙ e))

    untold : (f : LogRecord → Bool) → Wider f → f head ≡ false → list_any f long ≡ false → list_any f short ≡ false
    untold f w none e = false_from_ne_true _ (λ h. both_ways _ e (told f w none h))

    not_prepared : (t : TxId) → not (prepared_in long t) ≡ true → not (prepared_in short t) ≡ true
    not_prepared t e = ap not (untold (is_prepare_of t) (prepares_wider t) refl (not_true _ e))

    not_committed : (t : TxId) → not (committed_in long t) ≡ true → not (committed_in short t) ≡ true
    not_committed t e = ap not (untold (is_commit_of t) (commits_wider t) refl (not_true _ e))

    not_aborted : (t : TxId) → not (aborted_in long t) ≡ true → not (aborted_in short t) ≡ true
    not_aborted t e = ap not (untold (is_abort_of t) (aborts_wider t) refl (not_true _ e))

    pub was_open : (t : TxId) → committed_in long t ≡ false → committed_in log t ≡ false
    was_open t e = false_from_ne_true _ (λ c. both_ways _ e (list_any-append (is_commit_of t) log mid ∙ or_left _ _ c))

    pub commit_alike : (t : TxId) → committed_in log t ≡ false → committed_in short t ≡ committed_in long t
    commit_alike t u = same_commit shard first later mid begun goes t u

    some_last : is_some (last_restart long) ≡ true → is_some (last_restart short) ≡ true
    some_last e = ap is_some (last_alike shard first later begun mid) ∙ e

    has_short : (t : TxId) → committed_in log t ≡ false → has_standing long t ≡ true → has_standing short t ≡ true
    has_short t u h = ap (λ ws. has_write ws t) stands ∙ has_filter (λ v. not (committed_in log v)) (standing long) t ∙ and_from (not (committed_in log t)) (has_write (standing long) t) (ap not u) h

    -- of whom a write stands the PREPARE and the ABORT stay
    prepared_short : (t : TxId) → committed_in log t ≡ false → has_standing long t ≡ true → prepared_in long t ≡ true → prepared_in short t ≡ true
    prepared_short t u h e =
        list_any-append (is_prepare_of t) checked mid
        ∙ ⊎_elim
        (λ p.
        let l : is_left_open log t ≡ true = and_from (not (committed_in log t)) (has_standing log t) (ap not u) (old_standing shard first later mid begun goes (prepared_in log) t p (unprepared_write shard first later mid begun goes) h) in
        or_left _ _ (prepares_of_open_stay shard log t u l 1 later (prepared_behind t p)))
        (λ m. or_right (prepared_in checked t) _ m) (or_cases (prepared_in log t) (prepared_in mid t) (sym (list_any-append (is_prepare_of t) log mid) ∙ e))

    aborted_short : (t : TxId) → committed_in log t ≡ false → has_standing long t ≡ true → aborted_in long t ≡ true → aborted_in short t ≡ true
    aborted_short t u h e =
        list_any-append (is_abort_of t) checked mid
        ∙ ⊎_elim
        (λ a.
        let l : is_left_open log t ≡ true = and_from (not (committed_in log t)) (has_standing log t) (ap not u) (old_standing shard first later mid begun goes (aborted_in log) t a (unaborted_write shard first later mid begun goes) h) in
        or_left _ _ (aborts_stay shard log 1 later t l ∙ aborted_behind t a))
        (λ m. or_right (aborted_in checked t) _ m) (or_cases (aborted_in log t) (aborted_in mid t) (sym (list_any-append (is_abort_of t) log mid) ∙ e))

    -- ---- writes

    abbrev pub Open : StandingUpdate → Type 0
    Open w = (has_standing long w.tx ≡ true) × (committed_in log w.tx ≡ false)

    pub open_each : AllByRecursion Open (filter (of_open log) (standing long))
    open_each = all_mono _ _ (λ w h. (h.0, not_true _ h.1)) _ (all_filter (λ w. has_standing long w.tx ≡ true) (of_open log) (standing long) (all_stand long))

    all_here : (f g : StandingUpdate → Bool) → ((w : StandingUpdate) → Open w → f w ≡ true → g w ≡ true) → list_all f (standing long) ≡ true → list_all g (standing short) ≡ true
    all_here f g step e = subst (λ ws. list_all g ws ≡ true) (sym stands) (all_stay Open f g (of_open log) (standing long) step open_each e)

    below_here : (tx : TxId) (f g : StandingUpdate → Bool) → ((w : StandingUpdate) → Open w → f w ≡ true → g w ≡ true) → list_all f (writes_below tx (standing long)) ≡ true → list_all g (writes_below tx (standing short)) ≡ true
    below_here tx f g step e = subst (λ ws. list_all g (writes_below tx ws) ≡ true) (sym stands) (below_stay Open f g (of_open log) (standing long) step open_each tx e)

    covers : (tx : TxId) (w : StandingUpdate) → Open w → may_cover long tx w ≡ true → may_cover short tx w ≡ true
    covers tx w o e =
        ⊎_elim (λ s. or_left _ _ s)
        (λ h. or_right (tx_same tx w.tx) _
        (and_from _ _ (⊎_elim (λ p. or_left _ _ (prepared_short w.tx o.1 o.0 p)) (λ c. or_right (prepared_in short w.tx) _ (commit_alike w.tx o.1 ∙ c)) (or_cases (prepared_in long w.tx) (committed_in long w.tx) (front _ _ h)))
        (not_aborted w.tx (last _ _ h))))
        (or_cases (tx_same tx w.tx) _ e)

    values : (k : ℕ) → value_in short k ≡ value_in long k
    values k =
        ap (fold_at k (map_get k (committed_map log))) stands
        ∙ ap (λ x. fold_at k x (filter (of_open log) (standing long)))
        (ap (map_get k) (sym (ap (λ ws. fold_writes (committed_in log) ws (base_of log)) (standing_append 0 log mid []) ∙ folds_on log (0 + length log) mid (standing log) (base_of log) moves))
        ∙ get_fold (committed_in log) k (standing long) (base_of log))
        ∙ sym (value_below (committed_in log) (base_of log) k (standing long) (later_lie shard first later mid d goes))

    pub doubts : in_doubt shard short ≡ in_doubt shard long
    doubts = sym (logs_in_order shard short so_far).1 ∙ ap (in_doubt shard) (stay_alike shard log mid d in_order) ∙ (logs_in_order shard long in_order).1

    winners : (w : StandingUpdate) → Open w → is_winner shard long w.tx ≡ true → is_winner shard short w.tx ≡ true
    winners w o h = ⊎_elim (λ c. or_left _ _ (commit_alike w.tx o.1 ∙ c)) (λ i. or_right (committed_in short w.tx) _ (ap (tx_in w.tx) doubts ∙ i)) (or_cases (committed_in long w.tx) (tx_in w.tx (in_doubt shard long)) h)

    -- ---- who may write

    current : (tx : TxId) → is_current long tx ≡ true → is_current short tx ≡ true
    current tx e =
        let p = and_parts (in_last_run long tx) (not (is_listed long tx)) e in
        and_from (in_last_run short tx) (not (is_listed short tx)) (subst (λ o. elim o [ Some q ↦ tx.run == q.0 | None ↦ false ] ≡ true) (sym (last_alike shard first later begun mid)) p.0)
        (ap not (untold (lists tx) (lists_wider tx) refl (not_true _ p.1)))

    writing : Before long short → (tx : TxId) → may_write long tx ≡ true → may_write short tx ≡ true
    writing before tx e =
        let a = and_parts (is_current long tx && not (prepared_in long tx) && not (committed_in long tx) && not (aborted_in long tx)) (not (wrote_in (before_restart [] long) tx)) e in
        let b = and_parts (is_current long tx && not (prepared_in long tx) && not (committed_in long tx)) (not (aborted_in long tx)) a.0 in
        let c = and_parts (is_current long tx && not (prepared_in long tx)) (not (committed_in long tx)) b.0 in
        let g = and_parts (is_current long tx) (not (prepared_in long tx)) c.0 in
        and_from (is_current short tx && not (prepared_in short tx) && not (committed_in short tx) && not (aborted_in short tx)) (not (wrote_in (before_restart [] short) tx))
        (and_from (is_current short tx && not (prepared_in short tx) && not (committed_in short tx)) (not (aborted_in short tx))
        (and_from (is_current short tx && not (prepared_in short tx)) (not (committed_in short tx)) (and_from (is_current short tx) (not (prepared_in short tx)) (current tx g.0) (not_prepared tx g.1)) (not_committed tx c.1))
        (not_aborted tx b.1))
        (ap not (before.wrote tx (not_true _ a.1)))

    -- ---- PREPAREs

    abbrev pub Prepared : TxId → Type 0
    Prepared tx =
        ((q : ℕ × List TxId) × (prepare_of long tx ≡ Some q) × (prepare_of short tx ≡ Some (q.0, filter (λ p. not (committed_in log p)) q.1)))
        ⊎ ((prepare_of short tx ≡ prepare_of long tx) × ((q : ℕ × List TxId) → prepare_of long tx ≡ Some q → AllByRecursion (λ p. committed_in log p ≡ false) q.1))

    pub prepare_short : (tx : TxId) → committed_in log tx ≡ false → (prepared_in log tx ≡ true → has_standing log tx ≡ true) → Prepared tx
    prepare_short tx u has = at (prepared_in log tx) refl
      where
        at : (b : Bool) → prepared_in log tx ≡ b → Prepared tx
        at true p =
            let q = prepare_some log tx p in
            inl (
              q.0,
              prepare_more log mid tx ∙ ap (λ o. first_of o (prepare_of mid tx)) q.1,
              prepare_more checked mid tx
                  ∙ ap (λ o. first_of o (prepare_of mid tx))
                  (prepares_cut shard log 1 later tx u (and_from (not (committed_in log tx)) (has_standing log tx) (ap not u) (has p)) ∙ ap (cut_of log) (no_prepare_first shard first later begun tx ∙ q.1)),
            )
        at false n =
            let a : prepare_of long tx ≡ prepare_of mid tx = prepare_more log mid tx ∙ ap (λ o. first_of o (prepare_of mid tx)) (no_prepare log tx n) in
            let b : prepare_of short tx ≡ prepare_of mid tx =
            prepare_more checked mid tx
            ∙ ap (λ o. first_of o (prepare_of mid tx)) (no_prepare checked tx (false_from_ne_true _ (λ h. both_ways _ n (told_there (is_prepare_of tx) (prepares_wider tx) refl h)))) in
            inr (b ∙ sym a, λ q e. listed_later shard log mid tx q goes (sym a ∙ e))

    each_listed : (tx : TxId) → Prepared tx → list_all (committed_in long) (listed_in long tx) ≡ true → (p : TxId) → tx_in p (listed_in short tx) ≡ true → committed_in short p ≡ true
    each_listed tx (inl (q, a, b)) all p i =
        let f = in_filter (λ r. not (committed_in log r)) p q.1 (subst (λ l. tx_in p l ≡ true) (listed_is short tx ∙ ap names b) i) in
        commit_alike p (not_true _ f.1) ∙ list_all_at (committed_in long) p q.1 (subst (λ l. list_all (committed_in long) l ≡ true) (listed_is long tx ∙ ap names a) all) f.0
    each_listed tx (inr (same, new)) all p i =
        let j : tx_in p (listed_in long tx) ≡ true = subst (λ l. tx_in p l ≡ true) (listed_is short tx ∙ ap names same ∙ sym (listed_is long tx)) i in
        commit_alike p (fresh (prepare_of long tx) refl (subst (λ l. tx_in p l ≡ true) (listed_is long tx) j)) ∙ list_all_at (committed_in long) p (listed_in long tx) all j
      where
        fresh : (o : Option (ℕ × List TxId)) → prepare_of long tx ≡ o → tx_in p (names o) ≡ true → committed_in log p ≡ false
        fresh None e k = absurd (both_ways false refl k)
        fresh (Some q) e k = from_all (λ t. committed_in log t ≡ false) q.1 (new q e) p k

    by_prepare : (tx : TxId) (parts : List ℕ) → Prepared tx → commit_by_prepare shard long tx parts (prepare_of long tx) ≡ true → commit_by_prepare shard short tx parts (prepare_of short tx) ≡ true
    by_prepare tx parts (inl (q, a, b)) c =
        subst (λ o. commit_by_prepare shard short tx parts o ≡ true) (sym b) (subst (λ o. commit_by_prepare shard long tx parts o ≡ true) a c)
    by_prepare tx parts (inr (same, new)) c = subst (λ o. commit_by_prepare shard short tx parts o ≡ true) (sym same) (at (prepare_of long tx) c)
      where
        at : (o : Option (ℕ × List TxId)) → commit_by_prepare shard long tx parts o ≡ true → commit_by_prepare shard short tx parts o ≡ true
        at None c = current tx c
        at (Some q) c = c

    -- ---- what is undone

    undoes : (tx : TxId) → committed_in log tx ≡ false → has_standing long tx ≡ true → may_undo long tx ≡ true → may_undo short tx ≡ true
    undoes tx u h m =
        ⊎_elim (λ a. or_left _ _ (aborted_short tx u h a)) (λ o. or_right (aborted_in short tx) _ (and_from _ _ (not_prepared tx (front _ _ o)) (not_committed tx (last _ _ o))))
        (or_cases (aborted_in long tx) (not (prepared_in long tx) && not (committed_in long tx)) m)

    undo_open : (tx : TxId) → may_undo long tx ≡ true → committed_in log tx ≡ false
    undo_open tx m =
        was_open tx
        (⊎_elim (λ a. aborted_uncommitted shard long tx in_order a) (λ o. not_true _ (last _ _ o)) (or_cases (aborted_in long tx) (not (prepared_in long tx) && not (committed_in long tx)) m))

    undone_stands : (test : StandingUpdate → Bool) (tx : TxId) (next : Option ℕ) (key : ℕ) (o : Option StandingUpdate) → newest_of tx (standing long) ≡ o → compensates test tx next key (standing long) o ≡ true → has_standing long tx ≡ true
    undone_stands test tx next key None is c = absurd (both_ways false refl c)
    undone_stands test tx next key (Some w) is c = sym (newest_is tx (standing long)) ∙ ap is_some is

    compensated : (test other : StandingUpdate → Bool) (tx : TxId) (next : Option ℕ) (key : ℕ) → committed_in log tx ≡ false → ((w : StandingUpdate) → newest_of tx (standing long) ≡ Some w → test w ≡ true → other w ≡ true) → (o : Option StandingUpdate) → newest_of tx (standing long) ≡ o
        → compensates test tx next key (standing long) o ≡ true → compensates other tx next key (filter (of_open log) (standing long)) o ≡ true
    compensated test other tx next key u step None is c = absurd (both_ways false refl c)
    compensated test other tx next key u step (Some w) is c =
        let a = and_parts ((w.key == key) && test w) (same_option next (next_to_undo tx (standing long))) c in
        let b = and_parts (w.key == key) (test w) a.0 in
        and_from ((w.key == key) && other w) (same_option next (next_to_undo tx (filter (of_open log) (standing long)))) (and_from (w.key == key) (other w) b.0 (step w is b.1))
        (subst (λ n. same_option next n ≡ true) (sym (next_open log tx (standing long) u)) a.1)

    clears_open : (tx : TxId) (after : Option ValueType) (w : StandingUpdate) (c : Change) → committed_in log tx ≡ false → newest_of tx (standing long) ≡ Some w → clears w after (standing long) c ≡ true → clears w after (filter (of_open log) (standing long)) c ≡ true
    clears_open tx after w (Sets before set) u is e =
        let p = and_parts (same_optional_value before after) _ e in and_from (same_optional_value before after) _ p.0 (top_open log tx (length long) w (standing long) (standing_falls long) u is p.1)
    clears_open tx after w (Adds by) u is e = absurd (both_ways false refl e)

    unadds_open : (w : StandingUpdate) (by : ℕ) (c : Change) → unadds w by (standing long) c ≡ true → unadds w by (filter (of_open log) (standing long)) c ≡ true
    unadds_open w by (Sets before set) e = absurd (both_ways false refl e)
    unadds_open w by (Adds added) e =
        let p = and_parts (added == by) _ e in
        and_from (added == by) _ p.0
        (all_stay Open (λ v. not (is_setting v.change && lies_below w v)) (λ v. not (is_setting v.change && lies_below w v)) (of_open log) (standing long) (λ v o k. k) open_each p.1)

    -- ---- each kind of record

    prepare_follows : Before long short → (tx : TxId) (home : ℕ) (ps : List TxId) → may_follow shard long (Prepare tx home ps) ≡ true → may_follow shard short (Prepare tx home ps) ≡ true
    prepare_follows before tx home ps m =
        let a = and_parts _ _ m in let b = and_parts _ _ a.0 in let c = and_parts _ _ b.0 in let e = and_parts _ _ c.0 in let g = and_parts _ _ e.0 in let h = and_parts _ _ g.0 in
        let u : committed_in log tx ≡ false = was_open tx (not_true _ e.1) in
        and_from _ _ (and_from _ _ (and_from _ _ (and_from _ _ (and_from _ _ (and_from _ _ (some_last h.0) (new u h.1)) (not_prepared tx g.1)) (not_committed tx e.1)) (not_aborted tx c.1))
        (all_from (λ p. not (tx_same p tx) && prepared_in short p && not (committed_in short p) && not (aborted_in short p)) ps
        (λ p i. listed p (list_all_at (λ q. not (tx_same q tx) && prepared_in long q && not (committed_in long q) && not (aborted_in long q)) p ps b.1 i))))
        (below_here tx (λ w. committed_in long w.tx || tx_in w.tx ps) (λ w. committed_in short w.tx || tx_in w.tx ps)
        (λ w o k. ⊎_elim (λ x. or_left _ _ (commit_alike w.tx o.1 ∙ x)) (λ x. or_right (committed_in short w.tx) _ x) (or_cases (committed_in long w.tx) (tx_in w.tx ps) k)) a.1)
      where
        new : committed_in log tx ≡ false → has_new_standing long tx ≡ true → has_new_standing short tx ≡ true
        new u e =
            subst (λ ws. list_any (λ w. tx_same tx w.tx && nat_lt (length (before_restart [] short)) w.lsn) ws ≡ true) (sym stands)
            (some_stays (λ w. tx_same tx w.tx && nat_lt (length (before_restart [] long)) w.lsn) (λ w. tx_same tx w.tx && nat_lt (length (before_restart [] short)) w.lsn) (of_open log) (standing long)
            (λ w k.
            let p = and_parts (tx_same tx w.tx) (nat_lt (length (before_restart [] long)) w.lsn) k in
            let l = ltb-true (length (before_restart [] long)) w.lsn p.1 in
            let s = before.short in
            (ap not (subst (λ z. committed_in log z ≡ false) (tx_true tx w.tx p.0) u), and_from (tx_same tx w.tx) _ p.0 (lt-ltb (length (before_restart [] short)) w.lsn (omega (arith, l, s)))))
            e)

        listed : (p : TxId) → (not (tx_same p tx) && prepared_in long p && not (committed_in long p) && not (aborted_in long p)) ≡ true → (not (tx_same p tx) && prepared_in short p && not (committed_in short p) && not (aborted_in short p)) ≡ true
        listed p e =
            let a = and_parts (not (tx_same p tx) && prepared_in long p && not (committed_in long p)) (not (aborted_in long p)) e in
            let b = and_parts (not (tx_same p tx) && prepared_in long p) (not (committed_in long p)) a.0 in
            let c = and_parts (not (tx_same p tx)) (prepared_in long p) b.0 in
            let h : has_standing long p ≡ true = ⊎_elim (λ s. s) (λ k. absurd (both_ways _ (not_true _ a.1) k)) (open_stands shard long in_order p c.1 (not_true _ b.1)) in
            and_from _ _ (and_from _ _ (and_from _ _ c.0 (prepared_short p (was_open p (not_true _ b.1)) h c.1)) (not_committed p b.1)) (not_aborted p a.1)

    commit_follows : (tx : TxId) (parts : List ℕ) → may_follow shard long (Commit tx parts) ≡ true → may_follow shard short (Commit tx parts) ≡ true
    commit_follows tx parts m =
        let a = and_parts _ _ m in let b = and_parts _ _ a.0 in let c = and_parts _ _ b.0 in let e = and_parts _ _ c.0 in let g = and_parts _ _ e.0 in let h = and_parts _ _ g.0 in let k = and_parts _ _ h.0 in
        let u : committed_in log tx ≡ false = was_open tx (not_true _ k.1) in
        let p : Prepared tx = prepare_short tx u (λ q. ⊎_elim (λ s. s) (λ x. absurd (both_ways _ (not_true _ h.1) (list_any-append (is_abort_of tx) log mid ∙ or_left _ _ x))) (open_stands shard log d tx q u)) in
        and_from _ _ (and_from _ _ (and_from _ _ (and_from _ _ (and_from _ _ (and_from _ _ (and_from _ _ (some_last k.0) (not_committed tx k.1)) (not_aborted tx h.1)) g.1)
        (all_from (committed_in short) (listed_in short tx) (each_listed tx p e.1)))
        (below_here tx (λ w. committed_in long w.tx) (λ w. committed_in short w.tx) (λ w o x. commit_alike w.tx o.1 ∙ x) c.1))
        (by_prepare tx parts p b.1))
        (⊎_elim (λ s. or_left _ _ (has_short tx u s)) (λ s. or_right (has_standing short tx) _ s) (or_cases (has_standing long tx) (some_parts parts) a.1))

    end_follows : (tx : TxId) → may_follow shard long (End tx) ≡ true → may_follow shard short (End tx) ≡ true
    end_follows tx m =
        let a = and_parts _ _ m in let b = and_parts _ _ a.0 in
        and_from _ _ (and_from _ _ (some_last b.0) (ap not (untold (is_end_of tx) (ends_wider tx) refl (not_true _ b.1)))) (parts (commit_parts long tx) refl a.1)
      where
        there : (ps : List ℕ) → some_parts ps ≡ true → (o : Option (List ℕ)) → commit_parts log tx ≡ o → commit_parts long tx ≡ Some ps → commit_parts short tx ≡ Some ps
        there ps s (Some qs) own e =
            let same : qs ≡ ps = same_Some qs ps (sym (parts_more log mid tx ∙ ap (λ o. first_of o (commit_parts mid tx)) own) ∙ e) in
            parts_more checked mid tx ∙ ap (λ o. first_of o (commit_parts mid tx)) (parts_stay shard log 1 later tx qs (parts_behind tx ∙ own) (subst (λ z. some_parts z ≡ true) (sym same) s)) ∙ ap Some same
        there ps s None own e =
            parts_more checked mid tx
            ∙ ap (λ o. first_of o (commit_parts mid tx)) (no_commit checked tx (false_from_ne_true _ (λ c. both_ways _ (no_parts log tx own) (committed_before shard log tx c))))
            ∙ sym (parts_more log mid tx ∙ ap (λ o. first_of o (commit_parts mid tx)) own) ∙ e

        parts : (o : Option (List ℕ)) → commit_parts long tx ≡ o → elim o [ Some ps ↦ some_parts ps | None ↦ false ] ≡ true → elim (commit_parts short tx) [ Some ps ↦ some_parts ps | None ↦ false ] ≡ true
        parts None own e = absurd (both_ways false refl e)
        parts (Some ps) own e = ap (λ o. elim o [ Some qs ↦ some_parts qs | None ↦ false ]) (there ps e (commit_parts log tx) refl own) ∙ e

    follows : Before long short → (r : LogRecord) → may_follow shard long r ≡ true → may_follow shard short r ≡ true
    follows before (Restart run epoch) m =
        and_from _ _ (above_alike shard first later begun run epoch mid (front _ _ m)) (all_here (λ w. is_winner shard long w.tx) (λ w. is_winner shard short w.tx) winners (last _ _ m))
    follows before (Update tx key left right) m =
        let a = and_parts _ _ m in let b = and_parts _ _ a.0 in let c = and_parts _ _ b.0 in
        and_from _ _ (and_from _ _ (and_from _ _ (writing before tx c.0) (subst (λ v. same_optional_value left v ≡ true) (sym (values key)) c.1)) b.1)
        (all_here (λ w. not (key == w.key) || may_cover long tx w) (λ w. not (key == w.key) || may_cover short tx w)
        (λ w o h. ⊎_elim (λ k. or_left _ _ k) (λ k. or_right (not (key == w.key)) _ (covers tx w o k)) (or_cases (not (key == w.key)) _ h)) a.1)
    follows before (Add tx key by) m =
        let a = and_parts _ _ m in let b = and_parts _ _ a.0 in
        and_from _ _ (and_from _ _ (writing before tx b.0) (subst (λ v. is_number v ≡ true) (sym (values key)) b.1))
        (all_here (λ w. not (key == w.key) || not (is_setting w.change) || may_cover long tx w) (λ w. not (key == w.key) || not (is_setting w.change) || may_cover short tx w)
        (λ w o h. ⊎_elim (λ k. or_left _ _ k) (λ k. or_right (not (key == w.key) || not (is_setting w.change)) _ (covers tx w o k)) (or_cases (not (key == w.key) || not (is_setting w.change)) _ h)) a.1)
    follows before (Prepare tx home ps) m = prepare_follows before tx home ps m
    follows before (Commit tx parts) m = commit_follows tx parts m
    follows before (Abort tx) m =
        let a = and_parts _ _ m in let b = and_parts _ _ a.0 in let c = and_parts _ _ b.0 in
        and_from _ _ (and_from _ _ (and_from _ _ (some_last c.0) (has_short tx (was_open tx (not_true _ b.1)) c.1)) (not_committed tx b.1)) (not_aborted tx a.1)
    follows before (Clr tx next key after) m =
        let a = and_parts _ _ m in let b = and_parts _ _ a.0 in
        let u = undo_open tx b.1 in
        and_from _ _ (and_from _ _ (some_last b.0) (undoes tx u (undone_stands (λ w. clears w after (standing long) w.change) tx next key (newest_of tx (standing long)) refl a.1) b.1))
        (subst (λ ws. compensates (λ w. clears w after ws w.change) tx next key ws (newest_of tx ws) ≡ true) (sym stands)
        (subst (λ o. compensates (λ w. clears w after (filter (of_open log) (standing long)) w.change) tx next key (filter (of_open log) (standing long)) o ≡ true) (sym (newest_open log (standing long) tx u))
        (compensated (λ w. clears w after (standing long) w.change) (λ w. clears w after (filter (of_open log) (standing long)) w.change) tx next key u (λ w is e. clears_open tx after w w.change u is e)
        (newest_of tx (standing long)) refl a.1)))
    follows before (Unadd tx next key by) m =
        let a = and_parts _ _ m in let b = and_parts _ _ a.0 in
        let u = undo_open tx b.1 in
        and_from _ _ (and_from _ _ (some_last b.0) (undoes tx u (undone_stands (λ w. unadds w by (standing long) w.change) tx next key (newest_of tx (standing long)) refl a.1) b.1))
        (subst (λ ws. compensates (λ w. unadds w by ws w.change) tx next key ws (newest_of tx ws) ≡ true) (sym stands)
        (subst (λ o. compensates (λ w. unadds w by (filter (of_open log) (standing long)) w.change) tx next key (filter (of_open log) (standing long)) o ≡ true) (sym (newest_open log (standing long) tx u))
        (compensated (λ w. unadds w by (standing long) w.change) (λ w. unadds w by (filter (of_open log) (standing long)) w.change) tx next key u (λ w is e. unadds_open w by w.change e)
        (newest_of tx (standing long)) refl a.1)))
    follows before (End tx) m = end_follows tx m
    follows before Forgotten m = absurd (both_ways false refl m)
    follows before (Check run epoch upto base) m = absurd (both_ways false refl m)

    pub as_long : length short ≡ length long
    as_long = let a = length-append checked mid in let b = length-append log mid in let c = same_length shard log in omega (arith, a, b, c)

  -- ---- one behind another

  all_follow : (mid rs : List LogRecord) → disorder shard (log ++ mid) ≡ None → disorder shard (checked ++ mid) ≡ None → Before (log ++ mid) (checked ++ mid) → Follows shard (log ++ mid) rs → Follows shard (checked ++ mid) rs
  all_follow mid [] a b before f = tt
  all_follow mid (r ∷ rs) a b before f =
      let m : may_follow shard (checked ++ mid) r ≡ true = follows mid a b before r f.0 in (
        m,
        subst (λ l. Follows shard l rs) (sym (append_assoc checked mid (r ∷ [])))
            (all_follow (mid ++ r ∷ []) rs (subst (λ l. disorder shard l ≡ None) (append_assoc log mid (r ∷ [])) (in_order_more shard (log ++ mid) (r ∷ []) a (f.0, tt)))
            (subst (λ l. disorder shard l ≡ None) (append_assoc checked mid (r ∷ [])) (in_order_more shard (checked ++ mid) (r ∷ []) b (m, tt)))
            (subst (Before (log ++ (mid ++ r ∷ []))) (append_assoc checked mid (r ∷ []))
            (subst (λ l. Before l ((checked ++ mid) ++ r ∷ [])) (append_assoc log mid (r ∷ []))
            (before_more (log ++ mid) (checked ++ mid) r before (follow_kind shard (log ++ mid) r f.0) (λ t e. untold mid a b (is_update_of t) (updates_wider t) refl e) (as_long mid a b))))
            (subst (λ l. Follows shard l rs) (append_assoc log mid (r ∷ [])) f.1)),
      )

  goes_on : (more : List LogRecord) → length log < 2 ^ 63 → disorder shard (log ++ more) ≡ None → disorder shard (checked ++ more) ≡ None
  goes_on more l e =
      let b : disorder shard checked ≡ None = checked_in_order shard log d l in
      in_order_more shard checked more b
      (subst (λ z. Follows shard z more) (append-nil checked)
      (all_follow [] more (subst (λ z. disorder shard z ≡ None) (sym (append-nil log)) d) (subst (λ z. disorder shard z ≡ None) (sym (append-nil checked)) b)
      (subst (Before (log ++ [])) (sym (append-nil checked)) (subst (λ z. Before z checked) (sym (append-nil log)) (before_first shard first later)))
      (subst (λ z. Follows shard z more) (sym (append-nil log)) (in_order_cut shard log more (whole_part shard log d) e).1)))

pub checked_goes_on : CheckpointsGoOnInOrder
checked_goes_on shard [] more d l e = e
checked_goes_on shard (r ∷ rs) more d l e = goes_on shard r rs d more l e
