-- Of whom a log has a PREPARE a write stands there, unless it was committed or aborted: so it is in the log found, behind which a PREPARE comes where one
-- stands, and what takes a write of a prepared one back comes behind its ABORT.
use Rattle.std.proofs.Common.{◌≡◌, inl, inr, ⊎_elim, refl, sym, ap, subst, ◌∙◌, ℕ, zero, suc, ◌≤◌, true, false, cond, not, Bool, ◌||◌, ◌&&◌, map, List, [], ◌∷◌, ◌++◌, Option, Some, None, length, append_assoc, append-nil, take-append-drop, length-append, arith}
use Rattle.std.specs.Prelude.{⊤, take, drop}
use Rattle.std.specs.List.{filter, list_any, AllByRecursion}
use Rattle.std.proofs.lemmas.Bool.{both_ways, or_left, or_parts, or_from, cases_Bool, false_from_ne_true}
use Rattle.clv_base.specs.declared.names.TxId.{TxId}
use Rattle.clv_base.specs.declared.logs.LogRecord.{LogRecord}
use Rattle.clv_base.specs.declared.logs.LogRecord.TheVariants.{Update, Clr, Prepare, Commit, Abort, Restart, Add, Unadd}
use Rattle.clv_base.specs.declared.changes.Change.{Change}
use Rattle.clv_base.specs.declared.changes.Change.TheVariants.{Sets, Adds}
use Rattle.clv_base.specs.declared.state.Stage.TheVariants.{Active, Closed}
use Rattle.clv_base.specs.Orders.{tx_same, tx_in}
use Rattle.clv_base.specs.Logs.{StandingUpdate, standing, has_standing, prepared_in, aborted_in, committed_in, is_undo_of, in_doubt}
use Rattle.clv_base.specs.LogRules.{disorder}
use Rattle.clv_base.specs.State.{Shard, Local, is_present}
use Rattle.clv_base.specs.OneShard.{closing, written}
use Rattle.clv_base.specs.Undo.{stage_of, aborts_of, clrs_by, clrs_of, compensation, newest_lsn, is_of, is_at, newest_lsns, doomed_here, roll_back, roll_to}
use Rattle.clv_base.specs.Restarts.{restart_records, undo_records, log_after_restart, losers, next_epoch, FailedRestarts, untouched, failed_first, Restarts}
use Rattle.clv_base.proofs.SameNames.{tx_true}
use Rattle.law_base.proofs.Commits.{committed_append}
use Rattle.law_base.proofs.Lists.{all_mono}
use Rattle.law_base.proofs.Sets.{filter_in}
use Rattle.law_base.proofs.Stages.{own_go, active_not_closed}
use Rattle.law_base.proofs.Standing.{Falls, falls_below, all_stand, standing_falls}
use Rattle.law_base.proofs.Undoing.{undone_has}
use Rattle.protocol_laws.proofs.LogsInOrder.StandingUpdatesLie.{Falling}
use Rattle.shard_laws.proofs.Order.NewestWritesOfOne.{lsns_own}
use Rattle.history_laws.proofs.Logs.DoubtedAreUndecided.{doubt_undecided, doubt_prepared}
use Rattle.shard_laws.proofs.Keeping.ChangesKeepPrepared.{prepared_from}
use Rattle.shard_laws.proofs.Keeping.RecordsAndFrontsKeep.{aborted_append}
use Rattle.shard_laws.proofs.Order.UndoMayFollow.{aborted_now}
use Rattle.shard_laws.proofs.Order.WhoseWritesStand.{has_still, open_stands}

abbrev pub Firm : List LogRecord → LogRecord → Type 0
Firm log (Prepare tx home ps) = has_standing log tx ≡ true
Firm log (Clr tx next key after) = prepared_in log tx ≡ true → aborted_in log tx ≡ true
Firm log (Unadd tx next key by) = prepared_in log tx ≡ true → aborted_in log tx ≡ true
Firm log _ = ⊤

abbrev pub AllFirm : List LogRecord → List LogRecord → Type 0
AllFirm log [] = ⊤
AllFirm log (r ∷ rs) = Firm log r × AllFirm (log ++ r ∷ []) rs

-- ---- longer logs, and fronts

pub firm_append : (log xs ys : List LogRecord) → AllFirm log xs → AllFirm (log ++ xs) ys → AllFirm log (xs ++ ys)
firm_append log [] ys a b = subst (λ l. AllFirm l ys) (append-nil log) b
firm_append log (x ∷ xs) ys a b = (a.0, firm_append (log ++ x ∷ []) xs ys a.1 (subst (λ l. AllFirm l ys) (sym (append_assoc log (x ∷ []) xs)) b))

firm_front : (log xs ys : List LogRecord) → AllFirm log (xs ++ ys) → AllFirm log xs
firm_front log [] ys a = tt
firm_front log (x ∷ xs) ys a = (a.0, firm_front (log ++ x ∷ []) xs ys a.1)

firm_some : (n : ℕ) (log rs : List LogRecord) → AllFirm log rs → AllFirm log (take n rs)
firm_some n log rs a = firm_front log (take n rs) (drop n rs) (subst (AllFirm log) (sym (take-append-drop n rs)) a)

-- ---- who is prepared wrote, and a write of it stands

abbrev pub OpenStand : List LogRecord → Type 0
OpenStand log = (t : TxId) → prepared_in log t ≡ true → committed_in log t ≡ false → aborted_in log t ≡ false → has_standing log t ≡ true

was_unaborted : (log : List LogRecord) (r : LogRecord) (t : TxId) → aborted_in (log ++ r ∷ []) t ≡ false → aborted_in log t ≡ false
was_unaborted log r t a = (or_parts (aborted_in log t) (aborted_in (r ∷ []) t) (sym (aborted_append log (r ∷ []) t) ∙ a)).0

was_open : (log : List LogRecord) (r : LogRecord) (t : TxId) → committed_in (log ++ r ∷ []) t ≡ false → committed_in log t ≡ false
was_open log r t c = (or_parts (committed_in log t) (committed_in (r ∷ []) t) (sym (committed_append log (r ∷ []) t) ∙ c)).0

still : (log : List LogRecord) (r : LogRecord) (t : TxId) → list_any (is_undo_of t) (r ∷ []) ≡ false → prepared_in (r ∷ []) t ≡ false → OpenStand log → prepared_in (log ++ r ∷ []) t ≡ true → committed_in (log ++ r ∷ []) t ≡ false → aborted_in (log ++ r ∷ []) t ≡ false
    → has_standing (log ++ r ∷ []) t ≡ true
still log r t u n p e c a = has_still log (r ∷ []) t u (p t (prepared_from log (r ∷ []) t n e) (was_open log r t c) (was_unaborted log r t a))

-- a CLR or UNADD
undoing : (log : List LogRecord) (r : LogRecord) (tx t : TxId) → (prepared_in log tx ≡ true → aborted_in log tx ≡ true) → list_any (is_undo_of t) (r ∷ []) ≡ (tx_same t tx || false) → prepared_in (r ∷ []) t ≡ false → OpenStand log
    → prepared_in (log ++ r ∷ []) t ≡ true → committed_in (log ++ r ∷ []) t ≡ false → aborted_in (log ++ r ∷ []) t ≡ false → has_standing (log ++ r ∷ []) t ≡ true
undoing log r tx t f u n p e c a = at (tx_same t tx) refl
  where
    at : (b : Bool) → tx_same t tx ≡ b → has_standing (log ++ r ∷ []) t ≡ true
    at true q = absurd (both_ways _ (was_unaborted log r t a) (subst (λ z. aborted_in log z ≡ true) (sym (tx_true t tx q)) (f (subst (λ z. prepared_in log z ≡ true) (tx_true t tx q) (prepared_from log (r ∷ []) t n e)))))
    at false q = still log r t (u ∙ ap (λ b. b || false) q) n p e c a

stand_push : (log : List LogRecord) (r : LogRecord) → Firm log r → OpenStand log → OpenStand (log ++ r ∷ [])
stand_push log (Prepare tx home ps) f p t e c a = has_still log (Prepare tx home ps ∷ []) t refl (by_name (tx_same t tx) refl)
  where
    by_name : (b : Bool) → tx_same t tx ≡ b → has_standing log t ≡ true
    by_name true q = subst (λ z. has_standing log z ≡ true) (sym (tx_true t tx q)) f
    by_name false q = p t (prepared_from log (Prepare tx home ps ∷ []) t (ap (λ b. b || false) q) e) (was_open log (Prepare tx home ps) t c) (was_unaborted log (Prepare tx home ps) t a)
stand_push log (Clr tx next key after) f p t e c a = undoing log (Clr tx next key after) tx t f refl refl p e c a
stand_push log (Unadd tx next key by) f p t e c a = undoing log (Unadd tx next key by) tx t f refl refl p e c a
stand_push log r f p t e c a = still log r t refl refl p e c a

stand_from : (log rs : List LogRecord) → AllFirm log rs → OpenStand log → OpenStand (log ++ rs)
stand_from log [] f p = subst OpenStand (sym (append-nil log)) p
stand_from log (r ∷ rs) f p = subst OpenStand (append_assoc log (r ∷ []) rs) (stand_from (log ++ r ∷ []) rs f.1 (stand_push log r f.0 p))

-- ---- a log that goes on firmly from one found, which is durable

pub record Firmly (log : List LogRecord) (durable : ℕ) : Type 0 where
  pub found : List LogRecord
  pub more : List LogRecord
  pub is : found ++ more ≡ log
  pub firm : AllFirm found more
  pub stood : OpenStand found
  pub within : length found ≤ durable

pub firmly_more : (log new more : List LogRecord) (durable : ℕ) → Firmly log durable → log ++ more ≡ new → AllFirm log more → Firmly new durable
firmly_more log new more durable f e a = record {
  found = f.found;
  more = f.more ++ more;
  is = sym (append_assoc f.found f.more more) ∙ ap (λ l. l ++ more) f.is ∙ e;
  firm = firm_append f.found f.more more f.firm (subst (λ l. AllFirm l more) (sym f.is) a);
  stood = f.stood;
  within = f.within;
}

pub firmly_later : (log : List LogRecord) (durable n : ℕ) → durable ≤ n → Firmly log durable → Firmly log n
firmly_later log durable n l f = record { found = f.found; more = f.more; is = f.is; firm = f.firm; stood = f.stood; within = let w = f.within in omega (arith, l, w) }

take_behind : (c : ℕ) (xs ys : List LogRecord) → length xs ≤ c → (k : ℕ) × (xs ++ take k ys ≡ take c (xs ++ ys))
take_behind c [] ys l = (c, refl)
take_behind zero (x ∷ xs) ys l = absurd (omega (arith, l))
take_behind (suc c) (x ∷ xs) ys l = let k = take_behind c xs ys (omega (arith, l)) in (k.0, ap (λ (zs : List LogRecord). x ∷ zs) k.1)

-- cut there or later
pub firmly_take : (c durable : ℕ) (log : List LogRecord) → durable ≤ c → Firmly log durable → Firmly (take c log) durable
firmly_take c durable log l f =
    let w = f.within in
    let k = take_behind c f.found f.more (omega (arith, l, w)) in
    record { found = f.found; more = take k.0 f.more; is = k.1 ∙ ap (take c) f.is; firm = firm_some k.0 f.found f.more f.firm; stood = f.stood; within = f.within }

pub firmly_whole : (log : List LogRecord) (durable : ℕ) → Firmly log durable → Firmly log (length log)
firmly_whole log durable f = record {
  found = f.found;
  more = f.more;
  is = f.is;
  firm = f.firm;
  stood = f.stood;
  within = let a = length-append f.found f.more in let b = ap length f.is in omega (arith, a, b);
}

pub firmly_stand : (log : List LogRecord) (durable : ℕ) (t : TxId) → Firmly log durable → prepared_in log t ≡ true → committed_in log t ≡ false → aborted_in log t ≡ false → has_standing log t ≡ true
firmly_stand log durable t f = (subst OpenStand f.is (stand_from f.found f.more f.firm f.stood)) t

-- so it is of those in doubt
pub doubt_stand : (shard : ℕ) (log : List LogRecord) (durable : ℕ) (t : TxId) → Firmly log durable → tx_in t (in_doubt shard log) ≡ true → has_standing log t ≡ true
doubt_stand shard log durable t f i = let u = doubt_undecided shard log t i in firmly_stand log durable t f (doubt_prepared shard log t i) u.1 u.2

-- ---- records that are none of these, and those of an undo

firm_aborts : (log : List LogRecord) (ts : List TxId) → AllFirm log (map (λ t. Abort t) ts)
firm_aborts log [] = tt
firm_aborts log (t ∷ ts) = (tt, firm_aborts (log ++ Abort t ∷ []) ts)

abbrev MayTake : List LogRecord → (StandingUpdate → Bool) → StandingUpdate → Type 0
MayTake log gone w = gone w ≡ true → prepared_in log w.tx ≡ true → aborted_in log w.tx ≡ true

may_still : (log : List LogRecord) (gone : StandingUpdate → Bool) (tx : TxId) (next : Option ℕ) (key : ℕ) (c : Change) (w : StandingUpdate) → MayTake log gone w → MayTake (log ++ compensation tx next key c ∷ []) gone w
may_still log gone tx next key (Sets before after) w k g p = aborted_append log (Clr tx next key before ∷ []) w.tx ∙ or_left _ _ (k g (prepared_from log (Clr tx next key before ∷ []) w.tx refl p))
may_still log gone tx next key (Adds by) w k g p = aborted_append log (Unadd tx next key by ∷ []) w.tx ∙ or_left _ _ (k g (prepared_from log (Unadd tx next key by ∷ []) w.tx refl p))

pub firm_clrs : (log : List LogRecord) (gone : StandingUpdate → Bool) (ws : List StandingUpdate) → AllByRecursion (MayTake log gone) ws → AllFirm log (clrs_by gone ws)
firm_clrs log gone [] a = tt
firm_clrs log gone (w ∷ ws) a =
    at (gone w) refl w.change (firm_clrs (log ++ compensation w.tx (newest_lsn w.tx ws) w.key w.change ∷ []) gone ws (all_mono _ _ (may_still log gone w.tx (newest_lsn w.tx ws) w.key w.change) ws a.1)) (firm_clrs log gone ws a.1)
  where
    at : (b : Bool) → gone w ≡ b → (c : Change) → AllFirm (log ++ compensation w.tx (newest_lsn w.tx ws) w.key c ∷ []) (clrs_by gone ws) → AllFirm log (clrs_by gone ws)
        → AllFirm log (cond b (compensation w.tx (newest_lsn w.tx ws) w.key c ∷ clrs_by gone ws) (clrs_by gone ws))
    at true e (Sets before after) k l = (a.0 e, k)
    at true e (Adds by) k l = (a.0 e, k)
    at false e c k l = l

-- of a set
pub firm_undo : (set : List TxId) (log : List LogRecord) → AllFirm log (aborts_of log set ++ clrs_of set (standing log))
firm_undo set log =
    firm_append log (aborts_of log set) (clrs_of set (standing log)) (firm_aborts log (filter (has_standing log) set))
    (firm_clrs (log ++ aborts_of log set) (is_of set) (standing log) (all_mono _ _ (λ w h i p. aborted_now log (filter (has_standing log) set) w.tx (inr (filter_in (has_standing log) w.tx set i h))) (standing log) (all_stand log)))

falling : (n : ℕ) (ws : List StandingUpdate) → Falls n ws → Falling ws
falling n [] f = tt
falling n (w ∷ ws) f = (falls_below w.lsn ws f.1, falling w.lsn ws f.1)

-- what a going back takes is of its transaction
all_own : (tx : TxId) (n : ℕ) (log : List LogRecord) → AllByRecursion (λ w. is_at (newest_lsns n tx (standing log)) w ≡ true → tx_same tx w.tx ≡ true) (standing log)
all_own tx n log = lsns_own n tx (standing log) (falling (length log) (standing log) (standing_falls log))

-- of an unprepared transaction's newest writes
pub firm_back : (tx : TxId) (n : ℕ) (log : List LogRecord) → prepared_in log tx ≡ false → AllFirm log (clrs_by (is_at (newest_lsns n tx (standing log))) (standing log))
firm_back tx n log u =
    firm_clrs log (is_at (newest_lsns n tx (standing log))) (standing log)
    (all_mono _ _ (λ w k g p. absurd (both_ways _ u (subst (λ z. prepared_in log z ≡ true) (sym (tx_true tx w.tx (k g))) p))) (standing log) (all_own tx n log))

-- ---- a restart

firm_restart : (shard : ℕ) (log : List LogRecord) (run epoch : ℕ) → AllFirm log (restart_records shard log run epoch)
firm_restart shard log run epoch =
    let ts = filter (λ t. not (aborted_in log t)) (losers shard log) in
    firm_append log (undo_records shard log) (Restart run epoch ∷ [])
    (firm_append log (map (λ t. Abort t) ts) (clrs_of (losers shard log) (standing log)) (firm_aborts log ts)
    (firm_clrs (log ++ map (λ t. Abort t) ts) (is_of (losers shard log)) (standing log) (all_mono _ _ (λ w h i p. aborted_now log ts w.tx (⊎_elim (λ a. inl a) (λ a. inr (filter_in (λ t. not (aborted_in log t)) w.tx (losers shard log) i (ap not a))) (cases_Bool (aborted_in log w.tx)))) (standing log) (all_stand log))))
    (tt, tt)

pub firm_opened : (shard : ℕ) (log : List LogRecord) (run epoch : ℕ) → disorder shard log ≡ None → Firmly (log_after_restart shard log run epoch) (length (log_after_restart shard log run epoch))
firm_opened shard log run epoch d = record {
  found = log;
  more = restart_records shard log run epoch;
  is = refl;
  firm = firm_restart shard log run epoch;
  stood = λ t p c a. ⊎_elim (λ h. h) (λ b. absurd (both_ways _ a b)) (open_stands shard log d t p c);
  within = let a = length-append log (restart_records shard log run epoch) in omega (arith, a);
}

firm_failed : (s : Shard) (found left : List LogRecord) (durable : ℕ) → FailedRestarts s found left → Firmly found durable → Firmly left durable
firm_failed s found _ durable (untouched) f = f
firm_failed s found left durable (failed_first n more) f =
    let rs = restart_records s.shard found s.run (next_epoch s found) in
    firm_failed s (found ++ take n rs) left durable more (firmly_more found (found ++ take n rs) (take n rs) durable f refl (firm_some n found rs (firm_restart s.shard found s.run (next_epoch s found))))

pub firm_restarted : (s : Shard) (found : List LogRecord) (epoch : ℕ) (after : List LogRecord) (durable : ℕ) → Restarts s found epoch after → Firmly found durable → Firmly after (length after)
firm_restarted s found epoch after durable (left, f, e, q) a =
    firmly_whole after durable
    (firmly_more left after (restart_records s.shard left s.run epoch) durable (firm_failed s found left durable f a) (sym q) (firm_restart s.shard left s.run epoch))

-- ---- of a part that is closed, and stays so, a write goes on standing

pub rolled_stands : (u : TxId) (l : Local) (t : TxId) → stage_of (roll_back u l) t ≡ Some Closed → has_standing (roll_back u l).log t ≡ has_standing l.log t
rolled_stands u l t c = at (tx_in t (doomed_here l u)) refl
  where
    at : (b : Bool) → tx_in t (doomed_here l u) ≡ b → has_standing (roll_back u l).log t ≡ has_standing l.log t
    at true e = absurd (both_ways _ (own_go (doomed_here l u) (Some u) t l.parts e) (ap is_present c))
    at false e = undone_has (doomed_here l u) l.log t ∙ ap (λ b. not b && has_standing l.log t) e

none_undone : (t tx : TxId) (gone : StandingUpdate → Bool) (ws : List StandingUpdate) → (t ≡ tx → ⊥) → AllByRecursion (λ w. gone w ≡ true → tx_same tx w.tx ≡ true) ws → list_any (is_undo_of t) (clrs_by gone ws) ≡ false
none_undone t tx gone [] n a = refl
none_undone t tx gone (w ∷ ws) n a = at (gone w) refl w.change (none_undone t tx gone ws n a.1)
  where
    other : gone w ≡ true → tx_same t w.tx ≡ false
    other e = false_from_ne_true _ (λ s. n (tx_true t w.tx s ∙ sym (tx_true tx w.tx (a.0 e))))

    at : (b : Bool) → gone w ≡ b → (c : Change) → list_any (is_undo_of t) (clrs_by gone ws) ≡ false → list_any (is_undo_of t) (cond b (compensation w.tx (newest_lsn w.tx ws) w.key c ∷ clrs_by gone ws) (clrs_by gone ws)) ≡ false
    at true e (Sets before after) k = or_from _ _ (other e) k
    at true e (Adds by) k = or_from _ _ (other e) k
    at false e c k = k

pub back_stands : (tx : TxId) (n : ℕ) (l : Local) (t : TxId) → stage_of l tx ≡ Some Active → stage_of l t ≡ Some Closed → has_standing l.log t ≡ true → has_standing (roll_to tx n l).log t ≡ true
back_stands tx n l t a c h =
    let gone = is_at (newest_lsns n tx (standing l.log)) in
    has_still l.log (clrs_by gone (standing l.log)) t (none_undone t tx gone (standing l.log) (λ e. active_not_closed (sym a ∙ subst (λ z. stage_of l z ≡ Some Closed) e c)) (all_own tx n l.log)) h

pub written_stands : (tx : TxId) (w : Option (ℕ × Change)) (l : Local) (t : TxId) → has_standing l.log t ≡ true → has_standing (written tx w l).log t ≡ true
written_stands tx None l t h = h
written_stands tx (Some (key, Sets before after)) l t h = has_still l.log (Update tx key before after ∷ []) t refl h
written_stands tx (Some (key, Adds by)) l t h = has_still l.log (Add tx key by ∷ []) t refl h

pub closing_stands : (log : List LogRecord) (b one : Bool) (tx : TxId) (home : ℕ) (us : List TxId) (t : TxId) → has_standing log t ≡ true → has_standing (log ++ closing b one tx home us) t ≡ true
closing_stands log false one tx home us t h = has_still log [] t refl h
closing_stands log true true tx home [] t h = has_still log (Commit tx [] ∷ []) t refl h
closing_stands log true true tx home (v ∷ vs) t h = has_still log (Prepare tx home (v ∷ vs) ∷ []) t refl h
closing_stands log true false tx home us t h = has_still log (Prepare tx home us ∷ []) t refl h
