-- In the state after a restart nothing is due, and each ghost bears a lock.
use Rattle.std.proofs.Common.{◌≡◌, ℕ, ◌⊎◌, inl, inr, ⊎_elim, Bool, true, false, cond, not, ◌&&◌, ◌||◌, List, [], ◌∷◌, Option, Some, None, ◌==◌, refl, sym, ap, subst, ◌∙◌}
use Rattle.std.specs.List.{AllByRecursion, list_all}
use Rattle.std.specs.declared.cmp.Ordering.{Ordering}
use Rattle.std.specs.declared.cmp.Ordering.TheVariants.{Less, Equal, Greater}
use Rattle.std.specs.Ordering.{nat_cmp, ordering_then, is_eq, match_ordering}
use Rattle.std.proofs.lemmas.Bool.{both_ways, and_parts, or_cases, not-true, cond_both, or_left, or_right}
use Rattle.clv_base.specs.declared.values.Value.{Value as ValueType}
use Rattle.clv_base.specs.declared.names.TxId.{TxId}
use Rattle.clv_base.specs.declared.logs.LogRecord.{LogRecord}
use Rattle.clv_base.specs.declared.logs.LogRecord.TheVariants.{Update, Clr, Prepare, Commit, Abort, End, Restart, Add, Unadd, Forgotten, Check}
use Rattle.clv_base.specs.declared.modes.Anchor.{Anchor}
use Rattle.clv_base.specs.declared.modes.Anchor.TheVariants.{Low, At}
use Rattle.clv_base.specs.declared.modes.Holder.{Holder}
use Rattle.clv_base.specs.declared.modes.Found.{Found}
use Rattle.clv_base.specs.declared.modes.Found.TheVariants.{Live, Ghost, Absent}
use Rattle.clv_base.specs.declared.state.Stage.TheVariants.{Closed}
use Rattle.clv_base.specs.declared.state.Held.{Held}
use Rattle.clv_base.specs.declared.events.Entry.{Entry}
use Rattle.clv_base.specs.Orders.{Table, tx_same, tx_in, tx_get, tx_insert, anchor_cmp, anchor_same}
use Rattle.clv_base.specs.Maps.{KeyMap}
use Rattle.clv_base.specs.Logs.{StandingUpdate, standing, committed_in, aborted_in, is_commit_of, is_below, doubt_by, in_doubt_from, in_doubt, is_winner, fold_updates}
use Rattle.clv_base.specs.Locks.{Locks, row_cmp, with_mode, take_one}
use Rattle.clv_base.specs.State.{Shard}
use Rattle.clv_base.specs.Undo.{stage_of}
use Rattle.clv_base.specs.Participant.{restored_voter, restored_voters}
use Rattle.clv_base.specs.Coordinator.{restored_request, restored_requests}
use Rattle.clv_base.specs.Needs.{Records, record_set, found_at, is_locked_or_live, without_ghosts}
use Rattle.clv_base.specs.Facts.{facts_of, has_durable_commit}
use Rattle.clv_base.specs.Due.{or_else, with_commit_done, commit_due, vote_due, request_due, due_of, first_due, known_txs}
use Rattle.clv_base.specs.Restarts.{records_of, ghost_if_absent, with_ghosts, part_of, restored_locks, restored_part, restored_parts, homes_of, unended_in, state_after}
use Rattle.clv_base.proofs.SameNames.{nat_cmp_true, nat_cmp_self, tx_true, in_insert}
use Rattle.law_base.proofs.Tables.{stage_by}
use Rattle.law_base.proofs.Commits.{no_place_from}
use Rattle.protocol_laws.specs.Resting.{RestartsEndAtRest}
use Rattle.law_base.proofs.Names.{Stays, shut_lock as doubt_holder, held_on as held_at}

-- ---- who is in doubt isn't committed

open_from : (log : List LogRecord) (shard : ℕ) (rs : List LogRecord) (so_far : List TxId) → ((u : TxId) → tx_in u so_far ≡ true → committed_in log u ≡ false)
    → (u : TxId) → tx_in u (in_doubt_from log shard rs so_far) ≡ true → committed_in log u ≡ false
open_from log shard [] so_far h u i = h u i
open_from log shard (Update tx k b a ∷ rs) so_far h u i = open_from log shard rs so_far h u i
open_from log shard (Clr tx v k a ∷ rs) so_far h u i = open_from log shard rs so_far h u i
open_from log shard (Prepare tx home ps ∷ rs) so_far h u i = open_from log shard rs _ (at (doubt_by log shard tx home ps so_far) refl) u i
  where
    open_tx : doubt_by log shard tx home ps so_far ≡ true → committed_in log tx ≡ false
    open_tx e =
        let p = and_parts (not (shard == home) && not (committed_in log tx) && not (aborted_in log tx)) (list_all (λ q. committed_in log q || tx_in q so_far) ps) e in
        let q = and_parts (not (shard == home) && not (committed_in log tx)) (not (aborted_in log tx)) p.0 in
        not-true _ (and_parts (not (shard == home)) (not (committed_in log tx)) q.0).1

    at : (b : Bool) → doubt_by log shard tx home ps so_far ≡ b → (v : TxId) → tx_in v (cond b (tx_insert tx so_far) so_far) ≡ true → committed_in log v ≡ false
    at true e v j = ⊎_elim (λ s. ap (committed_in log) s ∙ open_tx e) (λ s. h v s) (in_insert tx v so_far j)
    at false e v j = h v j
open_from log shard (Commit tx ps ∷ rs) so_far h u i = open_from log shard rs so_far h u i
open_from log shard (Abort tx ∷ rs) so_far h u i = open_from log shard rs so_far h u i
open_from log shard (End tx ∷ rs) so_far h u i = open_from log shard rs so_far h u i
open_from log shard (Restart run epoch ∷ rs) so_far h u i = open_from log shard rs so_far h u i
open_from log shard (Add tx k by ∷ rs) so_far h u i = open_from log shard rs so_far h u i
open_from log shard (Unadd tx v k by ∷ rs) so_far h u i = open_from log shard rs so_far h u i
open_from log shard (Forgotten ∷ rs) so_far h u i = open_from log shard rs so_far h u i
open_from log shard (Check run' epoch' upto base ∷ rs) so_far h u i = open_from log shard rs so_far h u i

doubt_open : (shard : ℕ) (log : List LogRecord) (u : TxId) → tx_in u (in_doubt shard log) ≡ true → committed_in log u ≡ false
doubt_open shard log u i = open_from log shard log [] (λ v e. absurd (both_ways false refl e)) u i

-- ---- what is found in the restored tables

part_found : (txs : List TxId) (tx : TxId) → (tx_get tx (restored_parts txs) ≡ None) ⊎ ((tx_get tx (restored_parts txs) ≡ Some (restored_part tx)) × (tx_in tx txs ≡ true))
part_found [] tx = inl refl
part_found (t ∷ ts) tx = at (tx_same tx t) refl (part_found ts tx)
  where
    Found_by : Option Held → Bool → Type 0
    Found_by o i = (o ≡ None) ⊎ ((o ≡ Some (restored_part tx)) × (i ≡ true))

    same : tx_same tx t ≡ true → tx_same t tx ≡ true
    same e = subst (λ z. tx_same z tx ≡ true) (tx_true tx t e) (subst (λ z. tx_same tx z ≡ true) (sym (tx_true tx t e)) e)

    at : (b : Bool) → tx_same tx t ≡ b → (tx_get tx (restored_parts ts) ≡ None) ⊎ ((tx_get tx (restored_parts ts) ≡ Some (restored_part tx)) × (tx_in tx ts ≡ true))
        → (cond b (Some (restored_part t)) (tx_get tx (restored_parts ts)) ≡ None) ⊎ ((cond b (Some (restored_part t)) (tx_get tx (restored_parts ts)) ≡ Some (restored_part tx)) × (tx_in tx (t ∷ ts) ≡ true))
    at true e h = inr (ap (λ z. Some (restored_part z)) (sym (tx_true tx t e)), or_left _ _ (same e))
    at false e (inl n) = inl n
    at false e (inr s) = inr (s.0, or_right (tx_same t tx) _ s.1)

voter_found : (homes : List (TxId × ℕ)) (tx : TxId) → (tx_get tx (restored_voters homes) ≡ None) ⊎ ((h : ℕ) × (tx_get tx (restored_voters homes) ≡ Some (restored_voter h)))
voter_found [] tx = inl refl
voter_found (p ∷ ps) tx = at (tx_same tx p.0) (voter_found ps tx)
  where
    at : (b : Bool) → (tx_get tx (restored_voters ps) ≡ None) ⊎ ((h : ℕ) × (tx_get tx (restored_voters ps) ≡ Some (restored_voter h)))
        → (cond b (Some (restored_voter p.1)) (tx_get tx (restored_voters ps)) ≡ None) ⊎ ((h : ℕ) × (cond b (Some (restored_voter p.1)) (tx_get tx (restored_voters ps)) ≡ Some (restored_voter h)))
    at true h = inr (p.1, refl)
    at false h = h

request_found : (unended : Table (List ℕ)) (tx : TxId) → (tx_get tx (restored_requests unended) ≡ None) ⊎ ((ps : List ℕ) × (tx_get tx (restored_requests unended) ≡ Some (restored_request ps)))
request_found [] tx = inl refl
request_found (p ∷ rest) tx = at (tx_same tx p.0) (request_found rest tx)
  where
    at : (b : Bool) → (tx_get tx (restored_requests rest) ≡ None) ⊎ ((ps : List ℕ) × (tx_get tx (restored_requests rest) ≡ Some (restored_request ps)))
        → (cond b (Some (restored_request p.1)) (tx_get tx (restored_requests rest)) ≡ None) ⊎ ((ps : List ℕ) × (cond b (Some (restored_request p.1)) (tx_get tx (restored_requests rest)) ≡ Some (restored_request ps)))
    at true h = inr (p.1, refl)
    at false h = h

-- ---- nothing of them is due

not_done : (s : Shard) (tx : TxId) → has_durable_commit (facts_of s tx) ≡ false → commit_due s tx (Some Closed) ≡ None
not_done s tx e = ap (λ b. cond b (Some (with_commit_done s tx)) None) e

no_commit_due : (shard run epoch last : ℕ) (log : List LogRecord) (journal : List Entry) (tx : TxId) → let s = state_after shard run epoch log last journal in commit_due s tx (stage_of s.local tx) ≡ None
no_commit_due shard run epoch last log journal tx =
    let s : Shard = state_after shard run epoch log last journal in
    ⊎_elim (λ e. ap (λ o. commit_due s tx (stage_by o)) e)
    (λ e. ap (λ o. commit_due s tx (stage_by o)) e.0 ∙ not_done s tx (ap (λ o. is_below o s.durable) (no_place_from 0 (is_commit_of tx) log (doubt_open shard log tx e.1))))
    (part_found (in_doubt shard log) tx)

no_vote_due : (shard run epoch last : ℕ) (log : List LogRecord) (journal : List Entry) (tx : TxId) → let s = state_after shard run epoch log last journal in vote_due s tx (tx_get tx s.voters) ≡ None
no_vote_due shard run epoch last log journal tx =
    let s : Shard = state_after shard run epoch log last journal in
    ⊎_elim (λ e. ap (vote_due s tx) e) (λ e. ap (vote_due s tx) e.1) (voter_found (homes_of log (in_doubt shard log)) tx)

no_ruling : (s : Shard) (tx : TxId) (ps : List ℕ) → request_due s tx (Some (restored_request ps)) ≡ None
no_ruling s tx [] = refl
no_ruling s tx (p ∷ ps) = refl

no_request_due : (shard run epoch last : ℕ) (log : List LogRecord) (journal : List Entry) (tx : TxId) → let s = state_after shard run epoch log last journal in request_due s tx (tx_get tx s.requests) ≡ None
no_request_due shard run epoch last log journal tx =
    let s : Shard = state_after shard run epoch log last journal in
    ⊎_elim (λ e. ap (request_due s tx) e) (λ e. ap (request_due s tx) e.1 ∙ no_ruling s tx e.0) (request_found (unended_in log log) tx)

none_first : (s : Shard) → ((tx : TxId) → due_of s tx ≡ None) → (txs : List TxId) → first_due s txs ≡ None
none_first s h [] = refl
none_first s h (tx ∷ txs) = ap (λ o. elim o [ Some t ↦ Some t | None ↦ first_due s txs ]) (h tx) ∙ none_first s h txs

none_due : (shard run epoch last : ℕ) (log : List LogRecord) (journal : List Entry) (tx : TxId) → due_of (state_after shard run epoch log last journal) tx ≡ None
none_due shard run epoch last log journal tx =
    let s : Shard = state_after shard run epoch log last journal in
    ap (λ o. or_else o (or_else (vote_due s tx (tx_get tx s.voters)) (request_due s tx (tx_get tx s.requests)))) (no_commit_due shard run epoch last log journal tx)
    ∙ ap (λ o. or_else o (request_due s tx (tx_get tx s.requests))) (no_vote_due shard run epoch last log journal tx)
    ∙ no_request_due shard run epoch last log journal tx

-- ---- ghosts are locked

anchor_true : (a b : Anchor) → anchor_cmp a b ≡ Equal → a ≡ b
anchor_true Low Low e = refl
anchor_true Low (At k) e = absurd cc
anchor_true (At j) Low e = absurd cc
anchor_true (At j) (At k) e = ap At (nat_cmp_true j k (ap is_eq e))

then_equal : (a b : Ordering) → ordering_then a b ≡ Equal → a ≡ Equal
then_equal Less b e = absurd cc
then_equal Equal b e = refl
then_equal Greater b e = absurd cc

take_case : (o : Ordering) (a x : Anchor) (h : Holder) (r : Anchor × Holder) (rs more : Locks) → (o ≡ Equal → a ≡ r.0) → held_at x (r ∷ rs) ≡ true → (held_at x rs ≡ true → held_at x more ≡ true)
    → held_at x (match_ordering o ((a, h) ∷ r ∷ rs) ((a, with_mode r.1 h.mode) ∷ rs) (r ∷ more)) ≡ true
take_case Less a x h r rs more s e ih = or_right (anchor_same x a) _ e
take_case Equal a x h r rs more s e ih = subst (λ z. (anchor_same x z || held_at x rs) ≡ true) (sym (s refl)) e
take_case Greater a x h r rs more s e ih = ⊎_elim (λ q. or_left _ _ q) (λ q. or_right (anchor_same x r.0) _ (ih q)) (or_cases (anchor_same x r.0) (held_at x rs) e)

take_keeps : (a x : Anchor) (h : Holder) (locks : Locks) → held_at x locks ≡ true → held_at x (take_one a h locks) ≡ true
take_keeps a x h [] e = absurd (both_ways false refl e)
take_keeps a x h (r ∷ rs) e = take_case (row_cmp a h.tx r) a x h r rs (take_one a h rs) (λ q. anchor_true a r.0 (then_equal (anchor_cmp a r.0) _ q)) e (take_keeps a x h rs)

take_has_case : (o : Ordering) (k : ℕ) (h : Holder) (r : Anchor × Holder) (rs more : Locks) → held_at (At k) more ≡ true → held_at (At k) (match_ordering o ((At k, h) ∷ r ∷ rs) ((At k, with_mode r.1 h.mode) ∷ rs) (r ∷ more)) ≡ true
take_has_case Less k h r rs more ih = or_left _ _ (nat_cmp_self k)
take_has_case Equal k h r rs more ih = or_left _ _ (nat_cmp_self k)
take_has_case Greater k h r rs more ih = or_right (anchor_same (At k) r.0) _ ih

take_has : (k : ℕ) (h : Holder) (locks : Locks) → held_at (At k) (take_one (At k) h locks) ≡ true
take_has k h [] = or_left _ _ (nat_cmp_self k)
take_has k h (r ∷ rs) = take_has_case (row_cmp (At k) h.tx r) k h r rs (take_one (At k) h rs) (take_has k h rs)

locks_keep : (txs : List TxId) (ws : List StandingUpdate) (locks : Locks) (x : Anchor) → held_at x locks ≡ true → held_at x (restored_locks txs ws locks) ≡ true
locks_keep txs [] locks x e = e
locks_keep txs (w ∷ ws) locks x e =
    locks_keep txs ws (cond (tx_in w.tx txs) (take_one (At w.key) (doubt_holder w.tx (part_of w.change)) locks) locks) x
    (cond_both (tx_in w.tx txs) (take_one (At w.key) (doubt_holder w.tx (part_of w.change)) locks) locks (λ l. held_at x l ≡ true) (λ i. take_keeps (At w.key) x (doubt_holder w.tx (part_of w.change)) locks e) (λ i. e))

-- each key that those in doubt wrote is held
abbrev HeldIn : Locks → List TxId → StandingUpdate → Type 0
HeldIn held txs w = tx_in w.tx txs ≡ true → held_at (At w.key) held ≡ true

keys_held : (txs : List TxId) (ws : List StandingUpdate) (locks : Locks) → AllByRecursion (HeldIn (restored_locks txs ws locks) txs) ws
keys_held txs [] locks = tt
keys_held txs (w ∷ ws) locks = (
  λ i. locks_keep txs ws (cond (tx_in w.tx txs) (take_one (At w.key) (doubt_holder w.tx (part_of w.change)) locks) locks) (At w.key)
      (cond_both (tx_in w.tx txs) (take_one (At w.key) (doubt_holder w.tx (part_of w.change)) locks) locks (λ l. held_at (At w.key) l ≡ true) (λ j. take_has w.key (doubt_holder w.tx (part_of w.change)) locks) (λ j. absurd (both_ways _ j i))),
  keys_held txs ws (cond (tx_in w.tx txs) (take_one (At w.key) (doubt_holder w.tx (part_of w.change)) locks) locks),
)

locked_ghost : (locks : Locks) (k : ℕ) → held_at (At k) locks ≡ true → is_locked_or_live locks (k, None) ≡ true
locked_ghost locks k e = ap (λ b. not (not b)) e

set_case : (o : Ordering) (locks : Locks) (k : ℕ) (r : ℕ × Option ValueType) (rs more : Records) → held_at (At k) locks ≡ true → (o ≡ Equal → k ≡ r.0) → Stays locks (r ∷ rs) → Stays locks more
    → Stays locks (match_ordering o ((k, None) ∷ r ∷ rs) ((r.0, None) ∷ rs) (r ∷ more))
set_case Less locks k r rs more e s h m = (locked_ghost locks k e, h)
set_case Equal locks k r rs more e s h m = (locked_ghost locks r.0 (subst (λ j. held_at (At j) locks ≡ true) (s refl) e), h.1)
set_case Greater locks k r rs more e s h m = (h.0, m)

set_stays : (locks : Locks) (k : ℕ) (rs : Records) → held_at (At k) locks ≡ true → Stays locks rs → Stays locks (record_set k None rs)
set_stays locks k [] e h = (locked_ghost locks k e, tt)
set_stays locks k (r ∷ rs) e h = set_case (nat_cmp k r.0) locks k r rs (record_set k None rs) e (λ q. nat_cmp_true k r.0 (ap is_eq q)) h (set_stays locks k rs e h.1)

ghost_stays : (locks : Locks) (k : ℕ) (rs : Records) (f : Found) → held_at (At k) locks ≡ true → Stays locks rs → Stays locks (ghost_if_absent k rs f)
ghost_stays locks k rs Absent e h = set_stays locks k rs e h
ghost_stays locks k rs Ghost e h = h
ghost_stays locks k rs (Live v) e h = h

ghosts_stay : (locks : Locks) (txs : List TxId) (ws : List StandingUpdate) (rs : Records) → AllByRecursion (HeldIn locks txs) ws → Stays locks rs → Stays locks (with_ghosts txs ws rs)
ghosts_stay locks txs [] rs a h = h
ghosts_stay locks txs (w ∷ ws) rs a h =
    ghosts_stay locks txs ws (cond (tx_in w.tx txs) (ghost_if_absent w.key rs (found_at w.key rs)) rs) a.1
    (cond_both (tx_in w.tx txs) (ghost_if_absent w.key rs (found_at w.key rs)) rs (Stays locks) (λ i. ghost_stays locks w.key rs (found_at w.key rs) (a.0 i) h) (λ i. h))

live_stay : (locks : Locks) (m : KeyMap) → Stays locks (records_of m)
live_stay locks [] = tt
live_stay locks (e ∷ es) = (refl, live_stay locks es)

all_stay : (locks : Locks) (rs : Records) → Stays locks rs → without_ghosts locks rs ≡ rs
all_stay locks [] h = refl
all_stay locks (r ∷ rs) h = ap (λ b. cond b (r ∷ without_ghosts locks rs) (without_ghosts locks rs)) h.0 ∙ ap (λ l. r ∷ l) (all_stay locks rs h.1)

pub restarts_end_at_rest : RestartsEndAtRest
restarts_end_at_rest shard run epoch last log journal = (
  none_first (state_after shard run epoch log last journal) (none_due shard run epoch last log journal) (known_txs (state_after shard run epoch log last journal)),
  all_stay (restored_locks (in_doubt shard log) (standing log) []) (with_ghosts (in_doubt shard log) (standing log) (records_of (fold_updates (is_winner shard log) log [])))
      (ghosts_stay (restored_locks (in_doubt shard log) (standing log) []) (in_doubt shard log) (standing log) (records_of (fold_updates (is_winner shard log) log [])) (keys_held (in_doubt shard log) (standing log) [])
      (live_stay (restored_locks (in_doubt shard log) (standing log) []) (fold_updates (is_winner shard log) log []))),
)
