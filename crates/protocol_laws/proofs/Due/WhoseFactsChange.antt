-- Whose facts a change of a shard's transactions changes.
use Rattle.std.proofs.Common.{◌≡◌, refl, sym, ap, subst, ◌∙◌, ℕ, suc, ⊎_elim, Bool, true, false, cond, not, ◌&&◌, ◌||◌, List, [], ◌∷◌, ◌++◌, map, length, Option, Some, None, is_some, append_assoc}
use Rattle.std.specs.List.{AllByRecursion, filter, list_any}
use Rattle.std.proofs.lemmas.Bool.{both_ways, or_cases, or_parts, or_from, and_parts, cond-false, false_from_ne_true}
use Rattle.std.proofs.lemmas.List.Folds.{list_any-append}
use Rattle.clv_base.specs.declared.values.Value.{Value as ValueType}
use Rattle.clv_base.specs.declared.names.TxId.{TxId}
use Rattle.clv_base.specs.declared.names.Birth.{Birth}
use Rattle.clv_base.specs.declared.logs.LogRecord.{LogRecord}
use Rattle.clv_base.specs.declared.logs.LogRecord.TheVariants.{Update, Clr, Commit, Abort, End, Add, Unadd}
use Rattle.clv_base.specs.declared.parts.PartState.{PartState}
use Rattle.clv_base.specs.declared.state.Held.{Held}
use Rattle.clv_base.specs.Orders.{Table, tx_same, tx_in, tx_get}
use Rattle.clv_base.specs.declared.changes.Change.{Change}
use Rattle.clv_base.specs.declared.changes.Change.TheVariants.{Sets, Adds}
use Rattle.clv_base.specs.Logs.{StandingUpdate, standing, is_update_of, is_commit_of, is_prepare_of, is_undo_of, wrote_in, has_standing, committed_in, prepared_in, place_from, commit_lsn, prepare_lsn, undone_lsn}
use Rattle.clv_base.specs.Locks.{Locks, close_locks}
use Rattle.clv_base.specs.Needs.{writes_of, value_at, key_of}
use Rattle.clv_base.specs.State.{Local}
use Rattle.clv_base.specs.Undo.{stage_of, gone_part, release_parts, aborts_of, compensation, is_of, clrs_by, clrs_of, newest_lsn, newest_lsns, is_at, doomed_here, undo, roll_to}
use Rattle.clv_base.specs.declared.parts.PartFacts.{PartFacts}
use Rattle.clv_base.specs.Facts.{predecessors_of, undecided_of, greater_place, greatest_commit, due_by, due_lsn_of, state_by, doom_by, is_restored_by, facts_in}
use Rattle.clv_base.specs.OneShard.{active_part, new_part, closing, closed_part, closed_in, dropped_part, mark_dropped, violated_here, written, locked}
use Rattle.clv_base.proofs.SameNames.{or_left, or_right, tx_true, tx_self, tx_flip}
use Rattle.law_base.proofs.Tables.{get_put, get_changed, is_pair, in_pair, stage_by}
use Rattle.law_base.proofs.Stages.{same_part}
use Rattle.law_base.proofs.Commits.{closing_commits}
use Rattle.law_base.proofs.Sets.{flip_apart}
use Rattle.protocol_laws.specs.Changes.{ChangesOnly, successors_of, ReleasesChange, RollBacksChange, CommitsChange, EndsChange, ClosesChange, OperationsChange, RollsChange, MarksChange, PurgesChange}
use Rattle.law_base.proofs.Logs.{place_more}
use Rattle.law_base.proofs.Names.{other_name, preds_without, preds_add}
use Rattle.law_base.proofs.Lists.{all_mono, all_of}
use Rattle.protocol_laws.specs.Order.{undone_in}
use Rattle.protocol_laws.proofs.Due.OthersLeaveWrites.{stands_more, rolled_more, own_newest}

-- ---- predecessors whose COMMITs stay

pub committed_some : (n : ℕ) (log : List LogRecord) (p : TxId) → list_any (is_commit_of p) log ≡ is_some (place_from n (is_commit_of p) log)
committed_some n [] p = refl
committed_some n (r ∷ rs) p = at (is_commit_of p r) (committed_some (suc n) rs p)
  where
    at : (b : Bool) → list_any (is_commit_of p) rs ≡ is_some (place_from (suc n) (is_commit_of p) rs) → (b || list_any (is_commit_of p) rs) ≡ is_some (cond b (Some n) (place_from (suc n) (is_commit_of p) rs))
    at true more = refl
    at false more = more

abbrev Stay : List LogRecord → List LogRecord → List TxId → Type 0
Stay old new ps = (p : TxId) → tx_in p ps ≡ true → commit_lsn new p ≡ commit_lsn old p

stay_rest : (old new : List LogRecord) (p : TxId) (ps : List TxId) → Stay old new (p ∷ ps) → Stay old new ps
stay_rest old new p ps h x i = h x (or_right (tx_same p x) _ i)

committed_stays : (old new : List LogRecord) (p : TxId) → commit_lsn new p ≡ commit_lsn old p → committed_in new p ≡ committed_in old p
committed_stays old new p e = committed_some 0 new p ∙ ap is_some e ∙ sym (committed_some 0 old p)

open_stay : (old new : List LogRecord) (ps : List TxId) → Stay old new ps → filter (λ p. not (committed_in new p)) ps ≡ filter (λ p. not (committed_in old p)) ps
open_stay old new [] h = refl
open_stay old new (p ∷ ps) h =
    ap (λ b. cond (not b) (p ∷ filter (λ q. not (committed_in new q)) ps) (filter (λ q. not (committed_in new q)) ps)) (committed_stays old new p (h p (or_left _ _ (tx_self p))))
    ∙ ap (λ l. cond (not (committed_in old p)) (p ∷ l) l) (open_stay old new ps (stay_rest old new p ps h))

greatest_stay : (old new : List LogRecord) (ps : List TxId) → Stay old new ps → greatest_commit new ps ≡ greatest_commit old ps
greatest_stay old new [] h = refl
greatest_stay old new (p ∷ ps) h =
    ap (λ n. greater_place n (greatest_commit new ps)) (h p (or_left _ _ (tx_self p))) ∙ ap (greater_place (commit_lsn old p)) (greatest_stay old new ps (stay_rest old new p ps h))

-- ---- facts that are the same

same_facts : (a b : PartState) (n m : ℕ) (u v r q : Bool) (d e : Option TxId) (p o c k x y : Option ℕ) (i j : ℕ) (g h : Option ℕ) (w : ℕ)
    → a ≡ b → n ≡ m → u ≡ v → r ≡ q → d ≡ e → p ≡ o → c ≡ k → x ≡ y → i ≡ j → g ≡ h
    → ◌≡◌ {A = PartFacts}
    (record { state = a; now = n; updates = u; restored = r; doom = d; prepare = p; commit = c; rolled = x; undecided = i; due_lsn = g; durable = w })
    (record { state = b; now = m; updates = v; restored = q; doom = e; prepare = o; commit = k; rolled = y; undecided = j; due_lsn = h; durable = w })
same_facts a b n m u v r q d e p o c k x y i j g h w e1 e2 e3 e4 e5 e6 e7 e8 e9 e10 = cc

pub record Same (l m : Local) (x : TxId) : Type 0 where
  pub stage : stage_of m x ≡ stage_of l x
  pub restored : is_restored_by (tx_get x m.parts) ≡ is_restored_by (tx_get x l.parts)
  pub epoch : m.epoch ≡ l.epoch
  pub stands : has_standing m.log x ≡ has_standing l.log x
  pub prepare : prepare_lsn m.log x ≡ prepare_lsn l.log x
  pub commit : commit_lsn m.log x ≡ commit_lsn l.log x
  pub rolled : undone_lsn m.log x ≡ undone_lsn l.log x
  pub preds : predecessors_of m.pairs x ≡ predecessors_of l.pairs x
  pub commits : Stay l.log m.log (predecessors_of l.pairs x)

pub facts_same : (l m : Local) (x : TxId) (durable : ℕ) → Same l m x → facts_in m durable x ≡ facts_in l durable x
facts_same l m x durable s =
    let undecided : undecided_of m x ≡ undecided_of l x = ap (λ ps. filter (λ p. not (committed_in m.log p)) ps) s.preds ∙ open_stay l.log m.log (predecessors_of l.pairs x) s.commits in
    let greatest : greatest_commit m.log (predecessors_of m.pairs x) ≡ greatest_commit l.log (predecessors_of l.pairs x) = ap (greatest_commit m.log) s.preds ∙ greatest_stay l.log m.log (predecessors_of l.pairs x) s.commits in
    same_facts (state_by (stage_of m x)) (state_by (stage_of l x)) m.epoch l.epoch (has_standing m.log x) (has_standing l.log x) (is_restored_by (tx_get x m.parts)) (is_restored_by (tx_get x l.parts))
    (doom_by (stage_of m x)) (doom_by (stage_of l x)) (prepare_lsn m.log x) (prepare_lsn l.log x) (commit_lsn m.log x) (commit_lsn l.log x) (undone_lsn m.log x) (undone_lsn l.log x)
    (length (undecided_of m x)) (length (undecided_of l x)) (due_lsn_of m x) (due_lsn_of l x) durable
    (ap state_by s.stage) s.epoch s.stands s.restored (ap doom_by s.stage) s.prepare s.commit s.rolled (ap length undecided)
    (ap (λ us. due_by us (greatest_commit m.log (predecessors_of m.pairs x))) undecided ∙ ap (due_by (undecided_of l x)) greatest)

-- ---- parts

get_same : (test : TxId → Bool) (f : Held → Held) (x : TxId) (parts : Table Held) → test x ≡ false → tx_get x (map (λ p. (p.0, cond (test p.0) (f p.1) p.1)) parts) ≡ tx_get x parts
get_same test f x parts out = get_changed test f x parts ∙ ap (λ b. elim (tx_get x parts) [ Some h ↦ Some (cond b (f h) h) | None ↦ None ]) out ∙ same_part (tx_get x parts)

-- ---- pairs

-- a predecessor's successor is among its successors
pub successor_in : (x p : TxId) (pairs : List (TxId × TxId)) → is_pair pairs x p ≡ true → tx_in x (successors_of pairs p) ≡ true
successor_in x p [] e = absurd (both_ways false refl e)
successor_in x p (q ∷ qs) e = at (tx_same p q.1) refl e (successor_in x p qs)
  where
    at : (b : Bool) → tx_same p q.1 ≡ b → ((tx_same x q.0 && b) || is_pair qs x p) ≡ true → (is_pair qs x p ≡ true → tx_in x (successors_of qs p) ≡ true)
        → tx_in x (map (λ r. r.0) (cond b (q ∷ filter (λ r. tx_same p r.1) qs) (filter (λ r. tx_same p r.1) qs))) ≡ true
    at true s e more = ⊎_elim (λ h. or_left _ _ (tx_flip x q.0 (and_parts _ _ h).0)) (λ h. or_right (tx_same q.0 x) _ (more h)) (or_cases (tx_same x q.0 && true) (is_pair qs x p) e)
    at false s e more = ⊎_elim (λ h. absurd (both_ways false refl (and_parts _ _ h).1)) more (or_cases (tx_same x q.0 && false) (is_pair qs x p) e)

-- ---- records more

-- nothing of the transaction that its facts depend on
pub record Silent (more : List LogRecord) (x : TxId) : Type 0 where
  pub writes : wrote_in more x ≡ false
  pub undoes : undone_in more x ≡ false
  pub prepares : prepared_in more x ≡ false
  pub commits : committed_in more x ≡ false

-- records more, of which none is the transaction's or a predecessor's COMMIT
same_more : (l : Local) (more : List LogRecord) (x : TxId) (locks : Locks) (parts : Table Held) (pairs : List (TxId × TxId)) (records : List (ℕ × Option ValueType))
    → stage_by (tx_get x parts) ≡ stage_of l x → is_restored_by (tx_get x parts) ≡ is_restored_by (tx_get x l.parts) → predecessors_of pairs x ≡ predecessors_of l.pairs x
    → Silent more x → ((p : TxId) → tx_in p (predecessors_of l.pairs x) ≡ true → committed_in more p ≡ false)
    → Same l (record { records = records; locks = locks; parts = parts; pairs = pairs; log = l.log ++ more; epoch = l.epoch }) x
same_more l more x locks parts pairs records stage restored preds silent commits = record {
  stage = stage;
  restored = restored;
  epoch = refl;
  stands = stands_more l.log more x silent.writes silent.undoes;
  prepare = place_more 0 (is_prepare_of x) l.log more silent.prepares;
  commit = place_more 0 (is_commit_of x) l.log more silent.commits;
  rolled = rolled_more l.log more x silent.undoes;
  preds = preds;
  commits = λ p i. place_more 0 (is_commit_of p) l.log more (commits p i);
}

-- ---- each change

pub releases_change : ReleasesChange
releases_change l set doom x out durable =
    let part = get_same (λ t. tx_in t set) (gone_part doom) x l.parts out in
    facts_same l (release_parts set doom l) x durable (record {
      stage = ap stage_by part;
      restored = ap is_restored_by part;
      epoch = refl;
      stands = refl;
      prepare = refl;
      commit = refl;
      rolled = refl;
      preds = preds_without set x l.pairs out;
      commits = λ p i. refl;
    })

aborts_none : (f : LogRecord → Bool) → ((t : TxId) → f (Abort t) ≡ false) → (ts : List TxId) → list_any f (map (λ u. Abort u) ts) ≡ false
aborts_none f h [] = refl
aborts_none f h (t ∷ ts) = or_from _ _ (h t) (aborts_none f h ts)

clrs_none : (f : LogRecord → Bool) (gone : StandingUpdate → Bool) (ws : List StandingUpdate) → AllByRecursion (λ w. gone w ≡ true → (u : Option ℕ) → f (compensation w.tx u w.key w.change) ≡ false) ws → list_any f (clrs_by gone ws) ≡ false
clrs_none f gone [] h = refl
clrs_none f gone (w ∷ ws) h = at (gone w) refl (clrs_none f gone ws h.1)
  where
    at : (b : Bool) → gone w ≡ b → list_any f (clrs_by gone ws) ≡ false → list_any f (cond b (compensation w.tx (newest_lsn w.tx ws) w.key w.change ∷ clrs_by gone ws) (clrs_by gone ws)) ≡ false
    at true e more = or_from _ _ (h.0 e (newest_lsn w.tx ws)) more
    at false e more = more

-- what passes no CLR and no UNADD passes no compensation
plain_undo : (f : LogRecord → Bool) → ((t : TxId) (u : Option ℕ) (k : ℕ) (a : Option ValueType) → f (Clr t u k a) ≡ false) → ((t : TxId) (u : Option ℕ) (k by : ℕ) → f (Unadd t u k by) ≡ false)
    → (t : TxId) (u : Option ℕ) (k : ℕ) (c : Change) → f (compensation t u k c) ≡ false
plain_undo f h g t u k (Sets before after) = h t u k before
plain_undo f h g t u k (Adds by) = g t u k by

compensation_of : (x t : TxId) (u : Option ℕ) (k : ℕ) (c : Change) → is_undo_of x (compensation t u k c) ≡ tx_same x t
compensation_of x t u k (Sets before after) = refl
compensation_of x t u k (Adds by) = refl

pub undone_none : (f : LogRecord → Bool) → ((t : TxId) → f (Abort t) ≡ false) → ((t : TxId) (u : Option ℕ) (k : ℕ) (a : Option ValueType) → f (Clr t u k a) ≡ false)
    → ((t : TxId) (u : Option ℕ) (k by : ℕ) → f (Unadd t u k by) ≡ false)
    → (log : List LogRecord) (set : List TxId) (ws : List StandingUpdate) → list_any f (aborts_of log set ++ clrs_of set ws) ≡ false
undone_none f a b c log set ws =
    list_any-append f (aborts_of log set) (clrs_of set ws)
    ∙ or_from _ _ (aborts_none f a (filter (has_standing log) set)) (clrs_none f (is_of set) ws (all_of _ (λ w e u. plain_undo f b c w.tx u w.key w.change) ws))

-- those of others
clrs_silent : (gone : StandingUpdate → Bool) (ws : List StandingUpdate) (x : TxId) → AllByRecursion (λ w. gone w ≡ true → tx_same x w.tx ≡ false) ws → Silent (clrs_by gone ws) x
clrs_silent gone ws x h = record {
  writes = clrs_none (is_update_of x) gone ws (all_of _ (λ w e u. plain_undo (is_update_of x) (λ t v k a. refl) (λ t v k by. refl) w.tx u w.key w.change) ws);
  undoes = clrs_none (is_undo_of x) gone ws (all_mono _ _ (λ w o e u. compensation_of x w.tx u w.key w.change ∙ o e) ws h);
  prepares = clrs_none (is_prepare_of x) gone ws (all_of _ (λ w e u. plain_undo (is_prepare_of x) (λ t v k a. refl) (λ t v k by. refl) w.tx u w.key w.change) ws);
  commits = clrs_none (is_commit_of x) gone ws (all_of _ (λ w e u. plain_undo (is_commit_of x) (λ t v k a. refl) (λ t v k by. refl) w.tx u w.key w.change) ws);
}

undo_commits : (log : List LogRecord) (set : List TxId) (ws : List StandingUpdate) (x : TxId) → committed_in (aborts_of log set ++ clrs_of set ws) x ≡ false
undo_commits log set ws x = undone_none (is_commit_of x) (λ t. refl) (λ t u k a. refl) (λ t u k by. refl) log set ws

undo_silent : (log : List LogRecord) (set : List TxId) (ws : List StandingUpdate) (x : TxId) → tx_in x set ≡ false → Silent (aborts_of log set ++ clrs_of set ws) x
undo_silent log set ws x out = record {
  writes = undone_none (is_update_of x) (λ t. refl) (λ t u k a. refl) (λ t u k by. refl) log set ws;
  undoes = list_any-append (is_undo_of x) (aborts_of log set) (clrs_of set ws)
      ∙ or_from _ _ (aborts_none (is_undo_of x) (λ t. refl) (filter (has_standing log) set)) (clrs_silent (is_of set) ws x (all_of _ (λ w e. flip_apart w.tx x (other_name set w.tx x e out)) ws)).undoes;
  prepares = undone_none (is_prepare_of x) (λ t. refl) (λ t u k a. refl) (λ t u k by. refl) log set ws;
  commits = undo_commits log set ws x;
}

append_three : (a b c : List LogRecord) → (a ++ b) ++ c ≡ a ++ (b ++ c)
append_three a b c = append_assoc a b c

same_undone : (l : Local) (set : List TxId) (x : TxId) → tx_in x set ≡ false → Same l (undo set l) x
same_undone l set x out = subst
    (λ (log : List LogRecord). Same l (record { records = (undo set l).records; locks = l.locks; parts = l.parts; pairs = l.pairs; log = log; epoch = l.epoch }) x)
    (sym (append_three l.log (aborts_of l.log set) (clrs_of set (standing l.log))))
    (same_more l (aborts_of l.log set ++ clrs_of set (standing l.log)) x l.locks l.parts l.pairs (undo set l).records refl refl refl
    (undo_silent l.log set (standing l.log) x out) (λ p i. undo_commits l.log set (standing l.log) p))

pub undo_changes : (l : Local) (set : List TxId) → ChangesOnly set l (undo set l)
undo_changes l set x out durable =
    facts_same l _ x durable (same_undone l set x out)

pub roll_backs_change : RollBacksChange
roll_backs_change l tx x out durable = releases_change (undo (doomed_here l tx) l) (doomed_here l tx) (Some tx) x out durable ∙ undo_changes l (doomed_here l tx) x out durable

-- ---- a going back

apart : (x tx : TxId) (ts : List TxId) → tx_in x (tx ∷ ts) ≡ false → (tx_same x tx ≡ false) × (tx_in x ts ≡ false)
apart x tx ts out =
    let p = or_parts (tx_same tx x) (tx_in x ts) out in
    (false_from_ne_true _ (λ e. both_ways _ p.0 (tx_flip x tx e)), p.1)

own_same : (x tx u : TxId) → tx_same x u ≡ true → tx_same tx u ≡ true → tx_same x tx ≡ true
own_same x tx u a b = subst (λ z. tx_same x z ≡ true) (sym (tx_true tx u b)) a

pub rolls_change : RollsChange
rolls_change l tx n x out durable =
    let lsns = newest_lsns n tx (standing l.log) in
    facts_same l (roll_to tx n l) x durable
    (same_more l (clrs_by (is_at lsns) (standing l.log)) x l.locks l.parts l.pairs (roll_to tx n l).records refl refl refl
    (clrs_silent (is_at lsns) (standing l.log) x (all_mono _ _ (λ w own e. false_from_ne_true _ (λ s. both_ways _ (apart x tx [] out).0 (own_same x tx w.tx s (own e)))) (standing l.log) (own_newest n tx l.log)))
    (λ p i. clrs_none (is_commit_of p) (is_at lsns) (standing l.log) (all_of _ (λ w e u. plain_undo (is_commit_of p) (λ t v k a. refl) (λ t v k by. refl) w.tx u w.key w.change) (standing l.log))))

-- ---- a COMMIT

-- who is no successor has it not among its predecessors
no_pred : (x tx : TxId) (pairs : List (TxId × TxId)) → tx_in x (successors_of pairs tx) ≡ false → (p : TxId) → tx_in p (predecessors_of pairs x) ≡ true → tx_same p tx ≡ false
no_pred x tx pairs out p i = false_from_ne_true _ (λ e. both_ways _ out (successor_in x tx pairs (subst (λ z. is_pair pairs x z ≡ true) (tx_true p tx e) (in_pair pairs x p i))))

pub commits_change : CommitsChange
commits_change l tx parts x out durable =
    let o = apart x tx (successors_of l.pairs tx) out in
    facts_same l _ x durable
    (same_more l (Commit tx parts ∷ []) x l.locks l.parts l.pairs l.records refl refl refl
    (record { writes = refl; undoes = refl; prepares = refl; commits = or_from _ _ o.0 refl })
    (λ p i. or_from _ _ (no_pred x tx l.pairs o.1 p i) refl))

pub ends_change : EndsChange
ends_change l tx x out durable =
    facts_same l _ x durable (same_more l (End tx ∷ []) x l.locks l.parts l.pairs l.records refl refl refl (record { writes = refl; undoes = refl; prepares = refl; commits = refl }) (λ p i. refl))

-- ---- a part that closes

closing_writes : (b one : Bool) (tx : TxId) (home : ℕ) (us : List TxId) (x : TxId) → wrote_in (closing b one tx home us) x ≡ false
closing_writes true true tx home [] x = refl
closing_writes true true tx home (u ∷ us) x = refl
closing_writes true false tx home us x = refl
closing_writes false one tx home us x = refl

closing_undoes : (b one : Bool) (tx : TxId) (home : ℕ) (us : List TxId) (x : TxId) → undone_in (closing b one tx home us) x ≡ false
closing_undoes true true tx home [] x = refl
closing_undoes true true tx home (u ∷ us) x = refl
closing_undoes true false tx home us x = refl
closing_undoes false one tx home us x = refl

pub closing_prepares : (b one : Bool) (tx : TxId) (home : ℕ) (us : List TxId) (x : TxId) → tx_same x tx ≡ false → prepared_in (closing b one tx home us) x ≡ false
closing_prepares true true tx home [] x o = refl
closing_prepares true true tx home (u ∷ us) x o = or_from _ _ o refl
closing_prepares true false tx home us x o = or_from _ _ o refl
closing_prepares false one tx home us x o = refl

pub closes_change : ClosesChange
closes_change l tx home one x out durable =
    let o = apart x tx (successors_of l.pairs tx) out in
    let part = get_same (tx_same tx) closed_part x l.parts (flip_apart x tx o.0) in
    let wrote = has_standing l.log tx in let us = undecided_of l tx in
    facts_same l _ x durable
    (same_more l (closing wrote one tx home us) x (close_locks tx l.locks) (closed_in tx l.parts) l.pairs l.records (ap stage_by part) (ap is_restored_by part) refl
    (record { writes = closing_writes wrote one tx home us x; undoes = closing_undoes wrote one tx home us x; prepares = closing_prepares wrote one tx home us x o.0; commits = closing_commits wrote one tx home us x o.0 })
    (λ p i. closing_commits wrote one tx home us p (no_pred x tx l.pairs o.1 p i)))

-- ---- an operation

new_other : (x tx : TxId) (birth : Birth) (o : Option Held) (parts : Table Held) → tx_same x tx ≡ false → tx_get x (new_part tx birth o parts) ≡ tx_get x parts
new_other x tx birth None parts other = get_put tx x (active_part birth) parts ∙ cond-false (tx_same x tx) (Some (active_part birth)) (tx_get x parts) other
new_other x tx birth (Some h) parts other = refl

written_changes : (l : Local) (tx x : TxId) (w : Option (ℕ × Change)) (durable : ℕ) → tx_same x tx ≡ false → facts_in (written tx w l) durable x ≡ facts_in l durable x
written_changes l tx x None durable other = refl
written_changes l tx x (Some (key, Sets before after)) durable other =
    facts_same l _ x durable
    (same_more l (Update tx key before after ∷ []) x l.locks l.parts l.pairs (written tx (Some (key, Sets before after)) l).records refl refl refl (record { writes = or_from _ _ other refl; undoes = refl; prepares = refl; commits = refl })
    (λ p i. refl))
written_changes l tx x (Some (key, Adds by)) durable other =
    facts_same l _ x durable
    (same_more l (Add tx key by ∷ []) x l.locks l.parts l.pairs (written tx (Some (key, Adds by)) l).records refl refl refl (record { writes = or_from _ _ other refl; undoes = refl; prepares = refl; commits = refl }) (λ p i. refl))

pub operations_change : OperationsChange
operations_change l tx birth op x out durable =
    let o = apart x tx [] out in
    let part = new_other x tx birth (tx_get tx l.parts) l.parts o.0 in
    written_changes (locked tx birth op l) tx x (writes_of op (value_at (key_of op) l.records)) durable o.0
    ∙ facts_same l (locked tx birth op l) x durable (record {
      stage = ap stage_by part;
      restored = ap is_restored_by part;
      epoch = refl;
      stands = refl;
      prepare = refl;
      commit = refl;
      rolled = refl;
      preds = preds_add x tx (violated_here l tx op) l.pairs o.0;
      commits = λ p i. refl;
    })

-- ---- a mark, and ghosts

marked_stage : (o : Option Held) (b : Bool) → stage_by (elim o [ Some h ↦ Some (cond b (dropped_part h) h) | None ↦ None ]) ≡ stage_by o
marked_stage None b = refl
marked_stage (Some h) true = refl
marked_stage (Some h) false = refl

marked_restored : (o : Option Held) (b : Bool) → is_restored_by (elim o [ Some h ↦ Some (cond b (dropped_part h) h) | None ↦ None ]) ≡ is_restored_by o
marked_restored None b = refl
marked_restored (Some h) true = refl
marked_restored (Some h) false = refl

pub marks_change : MarksChange
marks_change l tx x out durable =
    let part = get_changed (tx_same tx) dropped_part x l.parts in
    facts_same l (mark_dropped tx l) x durable (record {
      stage = ap stage_by part ∙ marked_stage (tx_get x l.parts) (tx_same tx x);
      restored = ap is_restored_by part ∙ marked_restored (tx_get x l.parts) (tx_same tx x);
      epoch = refl;
      stands = refl;
      prepare = refl;
      commit = refl;
      rolled = refl;
      preds = refl;
      commits = λ p i. refl;
    })

pub purges_change : PurgesChange
purges_change l x out durable = refl
