-- Ghosts may go early: what is due doesn't look at records, and an undo meets none that is a ghost without a lock.
use Rattle.std.proofs.Common.{◌≡◌, refl, sym, ap, subst, ◌∙◌, ℕ, zero, suc, ⊎_elim, Bool, true, false, cond, not, ◌&&◌, List, [], ◌∷◌, ◌++◌, Option, Some, None}
use Rattle.std.proofs.lemmas.Bool.{both_ways, or_cases, and_parts, cond_both, cond-true, cond-false, false_from_ne_true}
use Rattle.std.specs.List.{AllByRecursion, filter}
use Rattle.clv_base.specs.declared.values.Value.{Value as ValueType}
use Rattle.clv_base.specs.declared.names.TxId.{TxId}
use Rattle.clv_base.specs.declared.causes.Vote.{Vote}
use Rattle.clv_base.specs.declared.causes.Vote.TheVariants.{Yes, Read, No}
use Rattle.clv_base.specs.declared.modes.Anchor.TheVariants.{At}
use Rattle.clv_base.specs.declared.logs.LogRecord.{LogRecord}
use Rattle.clv_base.specs.declared.logs.LogRecord.TheVariants.{Commit, End}
use Rattle.clv_base.specs.declared.state.Stage.{Stage}
use Rattle.clv_base.specs.declared.state.Stage.TheVariants.{Active, Closed, Gone}
use Rattle.clv_base.specs.declared.state.Voter.{Voter}
use Rattle.clv_base.specs.declared.state.Request.{Request}
use Rattle.clv_base.specs.declared.state.Ruling.{Ruling}
use Rattle.clv_base.specs.declared.state.Ruling.TheVariants.{Commit as CommitVerdict, Acknowledge, Abort as AbortVerdict, End as EndVerdict}
use Rattle.clv_base.specs.Orders.{tx_same, tx_in, tx_get, anchor_same}
use Rattle.clv_base.specs.Logs.{StandingUpdate, standing, standing_from}
use Rattle.clv_base.specs.Locks.{Locks, release}
use Rattle.clv_base.specs.Needs.{Records, is_locked_or_live, without_ghosts}
use Rattle.clv_base.specs.State.{Shard, Local, with_local, is_present}
use Rattle.clv_base.specs.Undo.{stage_of, is_of, undone_at, record_without, records_without, release_parts, doomed_by, doomed_here, roll_back}
use Rattle.clv_base.specs.Facts.{facts_of, has_durable_commit}
use Rattle.clv_base.specs.Participant.{vote_by}
use Rattle.clv_base.specs.Coordinator.{ruling_by}
use Rattle.clv_base.specs.OneShard.{purge}
use Rattle.clv_base.specs.Due.{or_else, with_commit_done, commit_due, give_vote, vote_due, rule, request_due, due_of, first_due, known_txs, next_due, do_due, with_due_done, work}
use Rattle.clv_base.proofs.SameNames.{or_left, or_right, tx_true}
use Rattle.law_base.proofs.Sets.{in_filter}
use Rattle.law_base.specs.Undone.{stays_of}
use Rattle.law_base.proofs.Undoing.{standing_append, standing_undone, unwritten}
use Rattle.law_base.proofs.Stages.{stage_other, own_go}
use Rattle.law_base.proofs.Lists.{all_mono, all_kept}
use Rattle.clv_base.proofs.Settling.{do_due_at}
use Rattle.protocol_laws.specs.Purging.{has_lock, IsLocked, WritesAreLocked, PurgesDontMatter}
use Rattle.law_base.proofs.Names.{is_held_at}

-- ---- locks

lock_on : (t : TxId) (k : ℕ) (locks : Locks) → has_lock t k locks ≡ true → is_held_at k locks ≡ true
lock_on t k [] h = absurd (both_ways false refl h)
lock_on t k (r ∷ rs) h = ⊎_elim (λ e. or_left (anchor_same (At k) r.0) (is_held_at k rs) (and_parts (anchor_same (At k) r.0) (tx_same t (r.1).tx) e).0) (λ e. or_right (anchor_same (At k) r.0) (is_held_at k rs) (lock_on t k rs e)) (or_cases (anchor_same (At k) r.0 && tx_same t (r.1).tx) (has_lock t k rs) h)

release_keeps : (set : List TxId) (t : TxId) (k : ℕ) (locks : Locks) → tx_in t set ≡ false → has_lock t k locks ≡ true → has_lock t k (release set locks) ≡ true
release_keeps set t k [] out h = h
release_keeps set t k (r ∷ rs) out h =
    ⊎_elim
    (λ e. subst (λ l. has_lock t k l ≡ true) (sym (cond-true (not (tx_in (r.1).tx set)) (r ∷ release set rs) (release set rs) (ap not (subst (λ z. tx_in z set ≡ false) (tx_true t (r.1).tx (and_parts _ _ e).1) out)))) (or_left _ _ e))
    (λ e. cond_both (not (tx_in (r.1).tx set)) (r ∷ release set rs) (release set rs) (λ l. has_lock t k l ≡ true) (λ s. or_right (anchor_same (At k) r.0 && tx_same t (r.1).tx) _ (release_keeps set t k rs out e)) (λ s. release_keeps set t k rs out e))
    (or_cases (anchor_same (At k) r.0 && tx_same t (r.1).tx) (has_lock t k rs) h)

release_held : (set : List TxId) (k : ℕ) (locks : Locks) → is_held_at k (release set locks) ≡ true → is_held_at k locks ≡ true
release_held set k [] h = h
release_held set k (r ∷ rs) h = at (not (tx_in (r.1).tx set)) h (release_held set k rs)
  where
    at : (b : Bool) → is_held_at k (cond b (r ∷ release set rs) (release set rs)) ≡ true → (is_held_at k (release set rs) ≡ true → is_held_at k rs ≡ true) → is_held_at k (r ∷ rs) ≡ true
    at true h more = ⊎_elim (λ e. or_left _ _ e) (λ e. or_right (anchor_same (At k) r.0) _ (more e)) (or_cases (anchor_same (At k) r.0) (is_held_at k (release set rs)) h)
    at false h more = or_right (anchor_same (At k) r.0) _ (more h)

twice : (b : Bool) → not (not b) ≡ b
twice true = refl
twice false = refl

-- what stays with fewer locks stays with all
stays_more : (set : List TxId) (locks : Locks) (r : ℕ × Option ValueType) → is_locked_or_live (release set locks) r ≡ true → is_locked_or_live locks r ≡ true
stays_more set locks r h = at r.1 h
  where
    at : (v : Option ValueType) → is_locked_or_live (release set locks) (r.0, v) ≡ true → is_locked_or_live locks (r.0, v) ≡ true
    at (Some v) h = refl
    at None h = twice (is_held_at r.0 locks) ∙ release_held set r.0 locks (sym (twice (is_held_at r.0 (release set locks))) ∙ h)

-- ---- the records

filter_twice : {X : Type 0} (p q : X → Bool) → ((x : X) → p x ≡ true → q x ≡ true) → (xs : List X) → filter p (filter q xs) ≡ filter p xs
filter_twice p q h [] = refl
filter_twice p q h (x ∷ xs) = at (q x) (p x) (h x) refl (filter_twice p q h xs)
  where
    at : (c b : Bool) → (b ≡ true → c ≡ true) → p x ≡ b → filter p (filter q xs) ≡ filter p xs → filter p (cond c (x ∷ filter q xs) (filter q xs)) ≡ cond b (x ∷ filter p xs) (filter p xs)
    at true b k e more = ap (λ d. cond d (x ∷ filter p (filter q xs)) (filter p (filter q xs))) e ∙ ap (λ l. cond b (x ∷ l) l) more
    at false true k e more = absurd (both_ways false refl (k refl))
    at false false k e more = more

-- the same but for ghosts without a lock
abbrev Alike : Locks → Records → Records → Type 0
Alike locks rs qs = without_ghosts locks rs ≡ without_ghosts locks qs

alike_released : (set : List TxId) (locks : Locks) (rs qs : Records) → Alike locks rs qs → Alike (release set locks) rs qs
alike_released set locks rs qs h =
    sym (filter_twice (is_locked_or_live (release set locks)) (is_locked_or_live locks) (stays_more set locks) rs)
    ∙ ap (without_ghosts (release set locks)) h
    ∙ filter_twice (is_locked_or_live (release set locks)) (is_locked_or_live locks) (stays_more set locks) qs

-- a key that the set wrote is held
abbrev AreHeld : List TxId → Locks → List StandingUpdate → Type 0
AreHeld set locks ws = AllByRecursion (λ (w : StandingUpdate). tx_in w.tx set ≡ true → is_held_at w.key locks ≡ true) ws

-- so the set wrote nothing at one that isn't
none_written : (set : List TxId) (k : ℕ) (locks : Locks) (ws : List StandingUpdate) → AreHeld set locks ws → is_held_at k locks ≡ false → AllByRecursion (λ w. w.key ≡ k → tx_in w.tx set ≡ false) ws
none_written set k locks ws a free = all_mono _ _ (λ w h same. false_from_ne_true _ (λ i. both_ways _ (ap (λ j. is_held_at j locks) same ∙ free) (h i))) ws a

-- a ghost without a lock is one after the undo
gone_still : (set : List TxId) (locks : Locks) (ws : List StandingUpdate) → AreHeld set locks ws → (r : ℕ × Option ValueType) → is_locked_or_live locks r ≡ false → is_locked_or_live (release set locks) (record_without (is_of set) ws r) ≡ false
gone_still set locks ws a r h = at r.1 h
  where
    at : (v : Option ValueType) → is_locked_or_live locks (r.0, v) ≡ false → is_locked_or_live (release set locks) (r.0, undone_at (is_of set) r.0 ws v) ≡ false
    at (Some v) h = absurd (both_ways _ h refl)
    at None h =
        let free : is_held_at r.0 locks ≡ false = sym (twice (is_held_at r.0 locks)) ∙ h in
        ap (λ o. is_locked_or_live (release set locks) (r.0, o)) (unwritten (is_of set) r.0 ws None (none_written set r.0 locks ws a free))
        ∙ false_from_ne_true _ (λ s. both_ways _ free (release_held set r.0 locks (sym (twice (is_held_at r.0 (release set locks))) ∙ s)))

undo_purged : (set : List TxId) (locks : Locks) (ws : List StandingUpdate) → AreHeld set locks ws → (rs : Records)
    → without_ghosts (release set locks) (records_without (is_of set) ws (without_ghosts locks rs)) ≡ without_ghosts (release set locks) (records_without (is_of set) ws rs)
undo_purged set locks ws a [] = refl
undo_purged set locks ws a (r ∷ rs) = at (is_locked_or_live locks r) refl (undo_purged set locks ws a rs)
  where
    few : Locks
    few = release set locks

    at : (b : Bool) → is_locked_or_live locks r ≡ b → without_ghosts (release set locks) (records_without (is_of set) ws (without_ghosts locks rs)) ≡ without_ghosts (release set locks) (records_without (is_of set) ws rs)
        → without_ghosts (release set locks) (records_without (is_of set) ws (cond b (r ∷ without_ghosts locks rs) (without_ghosts locks rs))) ≡ without_ghosts (release set locks) (record_without (is_of set) ws r ∷ records_without (is_of set) ws rs)
    at true e more = ap (λ l. cond (is_locked_or_live (release set locks) (record_without (is_of set) ws r)) (record_without (is_of set) ws r ∷ l) l) more
    at false e more = more ∙ sym (cond-false (is_locked_or_live (release set locks) (record_without (is_of set) ws r)) (record_without (is_of set) ws r ∷ without_ghosts (release set locks) (records_without (is_of set) ws rs)) (without_ghosts (release set locks) (records_without (is_of set) ws rs)) (gone_still set locks ws a r e))

alike_undone : (set : List TxId) (locks : Locks) (ws : List StandingUpdate) (rs qs : Records) → AreHeld set locks ws → Alike locks rs qs → Alike (release set locks) (records_without (is_of set) ws rs) (records_without (is_of set) ws qs)
alike_undone set locks ws rs qs a h = sym (undo_purged set locks ws a rs) ∙ ap (λ l. without_ghosts (release set locks) (records_without (is_of set) ws l)) h ∙ undo_purged set locks ws a qs

-- ---- writes stay locked

locked_released : (set : List TxId) (d : Option TxId) (l : Local) (w : StandingUpdate) → IsLocked l w → IsLocked (release_parts set d l) w
locked_released set d l w h here =
    let out : tx_in w.tx set ≡ false = false_from_ne_true _ (λ i. both_ways _ (own_go set d w.tx l.parts i) here) in
    release_keeps set w.tx w.key l.locks out (h (ap is_present (sym (stage_other set d w.tx l.parts out)) ∙ here))

released_locked : (set : List TxId) (d : Option TxId) (l : Local) → WritesAreLocked l → WritesAreLocked (release_parts set d l)
released_locked set d l a = all_mono (IsLocked l) (IsLocked (release_parts set d l)) (locked_released set d l) (standing l.log) a

rolled_locked : (tx : TxId) (l : Local) → WritesAreLocked l → WritesAreLocked (roll_back tx l)
rolled_locked tx l a =
    let set = doomed_here l tx in
    subst (AllByRecursion (IsLocked (roll_back tx l))) (sym (standing_undone set l.log))
    (all_mono (IsLocked l) (IsLocked (roll_back tx l)) (locked_released set (Some tx) l) (filter (stays_of set) (standing l.log)) (all_kept (IsLocked l) (stays_of set) (standing l.log) a))

doomed_held : (tx : TxId) (l : Local) → WritesAreLocked l → AreHeld (doomed_here l tx) l.locks (standing l.log)
doomed_held tx l a = all_mono (IsLocked l) (λ (w : StandingUpdate). tx_in w.tx (doomed_here l tx) ≡ true → is_held_at w.key l.locks ≡ true)
    (λ w h i. lock_on w.tx w.key l.locks (h (in_filter (λ t. is_present (stage_of l t)) w.tx (doomed_by l tx) i).1)) (standing l.log) a

-- ---- what is due is the same, but for the records

abbrev recs : Records → Shard → Shard
recs rs s = with_local (λ l. record l { records = rs }) s

abbrev SameBut : Shard → Shard → Type 0
SameBut s u = (rs : Records) × (u ≡ recs rs s) × Alike s.local.locks rs s.local.records

abbrev Both : Option Shard → Option Shard → Type 0
Both None None = Unit {0}
Both (Some t) (Some u) = SameBut t u × WritesAreLocked t.local
Both None (Some u) = ⊥
Both (Some t) None = ⊥

both_if : (b : Bool) (t u : Shard) → SameBut t u → WritesAreLocked t.local → Both (cond b (Some t) None) (cond b (Some u) None)
both_if true t u same locked = (same, locked)
both_if false t u same locked = tt

both_or : (x y u v : Option Shard) → Both x u → Both y v → Both (or_else x y) (or_else u v)
both_or None y None v p q = q
both_or (Some t) y (Some u) v p q = p
both_or None y (Some u) v p q = absurd p
both_or (Some t) y None v p q = absurd p

module _ (s : Shard) (rs : Records) (same : Alike s.local.locks rs s.local.records) (locked : WritesAreLocked s.local) where
  both_commit : (tx : TxId) (st : Option Stage) → Both (commit_due s tx st) (commit_due (recs rs s) tx st)
  both_commit tx None = tt
  both_commit tx (Some Active) = tt
  both_commit tx (Some Closed) =
      both_if (has_durable_commit (facts_of s tx)) (with_commit_done s tx) (with_commit_done (recs rs s) tx)
      (rs, refl, alike_released (tx ∷ []) s.local.locks rs s.local.records same) (released_locked (tx ∷ []) None s.local locked)
  both_commit tx (Some (Gone d)) = tt

  both_give : (tx : TxId) (v : Voter) (o : Option Vote) → Both (give_vote s tx v o) (give_vote (recs rs s) tx v o)
  both_give tx v None = tt
  both_give tx v (Some Yes) = ((rs, refl, same), locked)
  both_give tx v (Some Read) = ((rs, refl, alike_released (tx ∷ []) s.local.locks rs s.local.records same), released_locked (tx ∷ []) None s.local locked)
  both_give tx v (Some (No why)) = ((rs, refl, same), locked)

  both_vote : (tx : TxId) (o : Option Voter) → Both (vote_due s tx o) (vote_due (recs rs s) tx o)
  both_vote tx None = tt
  both_vote tx (Some v) = both_give tx v (vote_by (facts_of s tx) v)

  more_locked : (more : List LogRecord) → ((n : ℕ) (ws : List StandingUpdate) → standing_from n more ws ≡ ws) → WritesAreLocked (record s.local { log = s.local.log ++ more })
  more_locked more plain =
      subst (AllByRecursion (IsLocked (record s.local { log = s.local.log ++ more }))) (sym (standing_append 0 s.local.log more [] ∙ plain _ (standing_from 0 s.local.log [])))
      (all_mono (IsLocked s.local) (IsLocked (record s.local { log = s.local.log ++ more })) (λ w h. h) (standing s.local.log) locked)

  both_rule : (tx : TxId) (q : Request) (o : Option Ruling) → Both (rule s tx q o) (rule (recs rs s) tx q o)
  both_rule tx q None = tt
  both_rule tx q (Some (CommitVerdict parts)) = ((rs, refl, same), more_locked (Commit tx parts ∷ []) (λ n ws. refl))
  both_rule tx q (Some Acknowledge) = ((rs, refl, alike_released (tx ∷ []) s.local.locks rs s.local.records same), released_locked (tx ∷ []) None s.local locked)
  both_rule tx q (Some (AbortVerdict cause to)) =
      ((records_without (is_of (doomed_here s.local tx)) (standing s.local.log) rs, refl, alike_undone (doomed_here s.local tx) s.local.locks (standing s.local.log) rs s.local.records (doomed_held tx s.local locked) same), rolled_locked tx s.local locked)
  both_rule tx q (Some EndVerdict) = ((rs, refl, same), more_locked (End tx ∷ []) (λ n ws. refl))

  both_request : (tx : TxId) (o : Option Request) → Both (request_due s tx o) (request_due (recs rs s) tx o)
  both_request tx None = tt
  both_request tx (Some q) = both_rule tx q (ruling_by s.shard tx q (facts_of s tx))

  both_due : (tx : TxId) → Both (due_of s tx) (due_of (recs rs s) tx)
  both_due tx =
      both_or (commit_due s tx (stage_of s.local tx)) (or_else (vote_due s tx (tx_get tx s.voters)) (request_due s tx (tx_get tx s.requests)))
      (commit_due (recs rs s) tx (stage_of s.local tx)) (or_else (vote_due (recs rs s) tx (tx_get tx s.voters)) (request_due (recs rs s) tx (tx_get tx s.requests)))
      (both_commit tx (stage_of s.local tx))
      (both_or (vote_due s tx (tx_get tx s.voters)) (request_due s tx (tx_get tx s.requests)) (vote_due (recs rs s) tx (tx_get tx s.voters)) (request_due (recs rs s) tx (tx_get tx s.requests))
      (both_vote tx (tx_get tx s.voters)) (both_request tx (tx_get tx s.requests)))

  both_found : (o p rest later : Option Shard) → Both o p → Both rest later → Both (elim o [ Some t ↦ Some t | None ↦ rest ]) (elim p [ Some t ↦ Some t | None ↦ later ])
  both_found None None rest later a b = b
  both_found (Some t) (Some u) rest later a b = a
  both_found None (Some u) rest later a b = absurd a
  both_found (Some t) None rest later a b = absurd a

  both_first : (txs : List TxId) → Both (first_due s txs) (first_due (recs rs s) txs)
  both_first [] = tt
  both_first (tx ∷ txs) = both_found (due_of s tx) (due_of (recs rs s) tx) (first_due s txs) (first_due (recs rs s) txs) (both_due tx) (both_first txs)

same_at : (n : ℕ) (s u : Shard) (o p : Option Shard) → SameBut s u → Both o p → ((t v : Shard) → SameBut t v → WritesAreLocked t.local → SameBut (do_due n t) (do_due n v)) → SameBut (do_due_at n s o) (do_due_at n u p)
same_at n s u None None same b more = same
same_at n s u (Some t) (Some v) same b more = more t v b.0 b.1
same_at n s u None (Some v) same b more = absurd b
same_at n s u (Some t) None same b more = absurd b

same_due : (n : ℕ) (s u : Shard) → SameBut s u → WritesAreLocked s.local → SameBut (do_due n s) (do_due n u)
same_due zero s u same locked = same
same_due (suc n) s u same locked =
    subst (λ (v : Shard). SameBut (do_due (suc n) s) (do_due (suc n) v)) (sym same.1)
    (same_at n s (recs same.0 s) (next_due s) (next_due (recs same.0 s)) (same.0, refl, same.2) (both_first s same.0 same.2 locked (known_txs s)) (same_due n))

purged_same : (s u : Shard) → SameBut s u → with_local purge u ≡ with_local purge s
purged_same s u same = ap (with_local purge) same.1 ∙ ap (λ (rs : Records). recs rs s) same.2

pub purges_dont_matter : PurgesDontMatter
purges_dont_matter s locked =
    purged_same (with_due_done s) (with_due_done (with_local purge s))
    (same_due (work s) s (with_local purge s)
    (without_ghosts s.local.locks s.local.records, refl, filter_twice (is_locked_or_live s.local.locks) (is_locked_or_live s.local.locks) (λ x e. e) s.local.records) locked)
