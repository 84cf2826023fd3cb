-- Whom the records tell of that aren't durable.
use Rattle.std.proofs.Common.{◌≡◌, refl, subst, ℕ, zero, suc, Bool, true, false, List, [], ◌∷◌, ◌++◌, map, filter, take, drop, slice_range, Option, Some, None, ⊎_elim, ◌≤◌, ◌-◌, arith}
use Rattle.std.proofs.lemmas.Bool.{both_ways, or_cases}
use Rattle.std.specs.List.{AllByRecursion}
use Rattle.clv_base.specs.declared.names.TxId.{TxId}
use Rattle.clv_base.specs.declared.causes.Vote.{Vote}
use Rattle.clv_base.specs.declared.causes.Vote.TheVariants.{Yes, Read, No}
use Rattle.clv_base.specs.declared.logs.LogRecord.{LogRecord}
use Rattle.clv_base.specs.declared.logs.LogRecord.TheVariants.{Update, Clr, Prepare, Commit as CommitRecord, Abort, End as EndRecord, Restart, Add, Unadd, Forgotten, Check}
use Rattle.clv_base.specs.declared.changes.Change.{Change}
use Rattle.clv_base.specs.declared.changes.Change.TheVariants.{Sets, Adds}
use Rattle.clv_base.specs.declared.state.Voter.{Voter}
use Rattle.clv_base.specs.declared.state.Ruling.TheVariants.{Commit as CommitVerdict, Acknowledge, Abort as AbortVerdict, End as EndVerdict}
use Rattle.clv_base.specs.Orders.{tx_same, tx_in, tx_get}
use Rattle.clv_base.specs.Logs.{StandingUpdate, has_standing, standing}
use Rattle.clv_base.specs.State.{Shard, Local, is_present}
use Rattle.clv_base.specs.Undo.{stage_of, doomed_here, is_of, aborts_of, clrs_by, clrs_of, compensation, roll_to}
use Rattle.clv_base.specs.OneShard.{rolled_back_if, without_part}
use Rattle.clv_base.specs.Due.{finish_reader}
use Rattle.clv_base.proofs.SameNames.{tx_true}
use Rattle.law_base.proofs.GoingBack.{newest_test, clrs_each, rolled_each}
use Rattle.protocol_laws.specs.UndoLaws.{is_pair}
use Rattle.txn_core.specs.Landed.{concerns, concern}
use Rattle.due_step.specs.Found.{carried, vote_sent}
use Rattle.due_step.specs.declared.finding.Due.{Due}
use Rattle.due_step.specs.declared.finding.Due.TheVariants.{Commit, Vote as DueVote, Ruling as DueRuling}
use Rattle.shard_core.specs.Whole.{IsOfKnown}

abbrev pub All : List TxId → List LogRecord → Type 0
All keys rs = AllByRecursion (IsOfKnown keys) rs

all_drop : (keys : List TxId) (n : ℕ) (rs : List LogRecord) → All keys rs → All keys (drop n rs)
all_drop keys zero rs a = a
all_drop keys (suc n) [] a = tt
all_drop keys (suc n) (r ∷ rs) a = all_drop keys n rs a.1

all_append : (keys : List TxId) (rs ss : List LogRecord) → All keys rs → All keys ss → All keys (rs ++ ss)
all_append keys [] ss a b = b
all_append keys (r ∷ rs) ss a b = (a.0, all_append keys rs ss a.1 b)

-- with records more
pub logged_more : (keys : List TxId) (n : ℕ) (log more : List LogRecord) → All keys (drop n log) → All keys more → All keys (drop n (log ++ more))
logged_more keys zero log more a b = all_append keys log more a b
logged_more keys (suc n) [] more a b = all_drop keys (suc n) more b
logged_more keys (suc n) (r ∷ rs) more a b = logged_more keys n rs more a b

aborts_known : (keys txs : List TxId) → All keys (map (λ t. Abort t) txs)
aborts_known keys [] = tt
aborts_known keys (t ∷ ts) = (tt, aborts_known keys ts)

undo_known : (keys : List TxId) (tx : TxId) → tx_in tx keys ≡ true → (next : Option ℕ) (key : ℕ) (c : Change) → IsOfKnown keys (compensation tx next key c)
undo_known keys tx own next key (Sets before after) = own
undo_known keys tx own next key (Adds by) = own

clrs_known : (keys set : List TxId) (ws : List StandingUpdate) → ((x : TxId) → tx_in x set ≡ true → tx_in x keys ≡ true) → All keys (clrs_of set ws)
clrs_known keys set ws among = clrs_each (IsOfKnown keys) (is_of set) ws (each ws)
  where
    each : (vs : List StandingUpdate) → AllByRecursion (λ w. is_of set w ≡ true → (next : Option ℕ) → IsOfKnown keys (compensation w.tx next w.key w.change)) vs
    each [] = tt
    each (v ∷ vs) = ((λ h next. undo_known keys v.tx (among v.tx h) next v.key v.change), each vs)

-- those that an abort takes away
pub logged_undone : (keys set : List TxId) (n : ℕ) (l : Local) → ((x : TxId) → tx_in x set ≡ true → tx_in x keys ≡ true) → All keys (drop n l.log) → All keys (drop n (l.log ++ aborts_of l.log set ++ clrs_of set (standing l.log)))
logged_undone keys set n l among a =
    logged_more keys n (l.log ++ aborts_of l.log set) (clrs_of set (standing l.log)) (logged_more keys n l.log (aborts_of l.log set) a (aborts_known keys (filter (has_standing l.log) set)))
    (clrs_known keys set (standing l.log) among)

pub logged_without : (keys : List TxId) (tx : TxId) (n : ℕ) (l : Local) → ((x : TxId) → tx_in x (doomed_here l tx) ≡ true → tx_in x keys ≡ true) → All keys (drop n l.log) → All keys (drop n (without_part tx l).log)
logged_without keys tx n l among a = at (is_present (stage_of l tx))
  where
    at : (b : Bool) → All keys (drop n (rolled_back_if b tx l).log)
    at true = logged_undone keys (doomed_here l tx) n l among a
    at false = a

-- one that goes back
pub logged_back : (keys : List TxId) (tx : TxId) (n d : ℕ) (l : Local) → tx_in tx keys ≡ true → All keys (drop d l.log) → All keys (drop d (roll_to tx n l).log)
logged_back keys tx n d l own a = logged_more keys d l.log (clrs_by (newest_test n tx (standing l.log)) (standing l.log)) a (rolled_each (IsOfKnown keys) tx n l.log (undo_known keys tx own))

abbrev sent : Shard → TxId → Vote → Option Voter → Shard
sent s tx vote o = finish_reader tx vote (vote_sent s tx vote o)

vote_logged : (keys : List TxId) (n : ℕ) (s : Shard) (tx : TxId) (vote : Vote) (o : Option Voter) → All keys (drop n s.local.log) → All keys (drop n (sent s tx vote o).local.log)
vote_logged keys n s tx Yes None a = a
vote_logged keys n s tx Yes (Some v) a = a
vote_logged keys n s tx Read None a = a
vote_logged keys n s tx Read (Some v) a = a
vote_logged keys n s tx (No why) None a = a
vote_logged keys n s tx (No why) (Some v) a = a

-- after what was due was done
pub logged_carried : (keys : List TxId) (n : ℕ) (s : Shard) (tx : TxId) (due : Due) → tx_in tx keys ≡ true → ((x : TxId) → tx_in x (doomed_here s.local tx) ≡ true → tx_in x keys ≡ true) → All keys (drop n s.local.log) → All keys (drop n (carried s tx due).local.log)
logged_carried keys n s tx Commit own among a = a
logged_carried keys n s tx (DueVote vote) own among a = vote_logged keys n s tx vote (tx_get tx s.voters) a
logged_carried keys n s tx (DueRuling (CommitVerdict parts)) own among a = logged_more keys n s.local.log (CommitRecord tx parts ∷ []) a (own, tt)
logged_carried keys n s tx (DueRuling Acknowledge) own among a = a
logged_carried keys n s tx (DueRuling (AbortVerdict cause to)) own among a = logged_undone keys (doomed_here s.local tx) n s.local among a
logged_carried keys n s tx (DueRuling EndVerdict) own among a = logged_more keys n s.local.log (EndRecord tx ∷ []) a (tt, tt)

weaker : (keys more : List TxId) → ((x : TxId) → tx_in x keys ≡ true → tx_in x more ≡ true) → (r : LogRecord) → IsOfKnown keys r → IsOfKnown more r
weaker keys more h (CommitRecord tx parts) k = h tx k
weaker keys more h (Prepare tx home ps) k = h tx k
weaker keys more h (Update tx k b a) e = tt
weaker keys more h (Clr tx u k a) e = h tx e
weaker keys more h (Abort tx) e = tt
weaker keys more h (EndRecord tx) e = tt
weaker keys more h (Restart run epoch) e = tt
weaker keys more h (Add tx k by) e = tt
weaker keys more h (Unadd tx u k by) e = h tx e
weaker keys more h Forgotten e = tt
weaker keys more h (Check run' epoch' upto base) e = tt

-- with more that are known
pub logged_known : (keys more : List TxId) → ((x : TxId) → tx_in x keys ≡ true → tx_in x more ≡ true) → (rs : List LogRecord) → All keys rs → All more rs
logged_known keys more h [] a = tt
logged_known keys more h (r ∷ rs) a = (weaker keys more h r a.0, logged_known keys more h rs a.1)

-- ---- a front that rises

pub logged_above : (keys : List TxId) (d n : ℕ) (log : List LogRecord) → d ≤ n → All keys (drop d log) → All keys (drop n log)
logged_above keys zero n log h a = all_drop keys n log a
logged_above keys (suc d) zero log h a = absurd (omega (arith, h))
logged_above keys (suc d) (suc n) [] h a = tt
logged_above keys (suc d) (suc n) (r ∷ rs) h a = logged_above keys d n rs (omega (arith, h)) a

all_take : (keys : List TxId) (n : ℕ) (rs : List LogRecord) → All keys rs → All keys (take n rs)
all_take keys zero rs a = tt
all_take keys (suc n) [] a = tt
all_take keys (suc n) (r ∷ rs) a = (a.0, all_take keys n rs a.1)

concern_known : (keys : List TxId) (pairs : List (TxId × TxId)) → ((x p : TxId) → is_pair pairs x p ≡ true → tx_in x keys ≡ true) → (rs : List LogRecord) → All keys rs → (x : TxId) → concern pairs rs x ≡ true → tx_in x keys ≡ true
concern_known keys pairs h [] a x e = absurd (both_ways false refl e)
concern_known keys pairs h (r ∷ rs) a x e = ⊎_elim (λ i. one r a.0 i) (λ i. concern_known keys pairs h rs a.1 x i) (or_cases (concerns pairs r x) (concern pairs rs x) e)
  where
    one : (r : LogRecord) → IsOfKnown keys r → concerns pairs r x ≡ true → tx_in x keys ≡ true
    one (CommitRecord tx parts) k i = ⊎_elim (λ s. subst (λ z. tx_in z keys ≡ true) (tx_true tx x s) k) (λ s. h x tx s) (or_cases (tx_same tx x) (is_pair pairs x tx) i)
    one (Prepare tx home ps) k i = subst (λ z. tx_in z keys ≡ true) (tx_true tx x i) k
    one (Update tx k b a) u i = absurd (both_ways false refl i)
    one (Clr tx u k a) v i = subst (λ z. tx_in z keys ≡ true) (tx_true tx x i) v
    one (Abort tx) u i = absurd (both_ways false refl i)
    one (EndRecord tx) u i = absurd (both_ways false refl i)
    one (Restart run epoch) u i = absurd (both_ways false refl i)
    one (Add tx k by) u i = absurd (both_ways false refl i)
    one (Unadd tx u k by) v i = subst (λ z. tx_in z keys ≡ true) (tx_true tx x i) v
    one Forgotten u i = absurd (both_ways false refl i)
    one (Check run' epoch' upto base) u i = absurd (both_ways false refl i)

-- whom the records below a front concern are known
pub landed_known : (keys : List TxId) (pairs : List (TxId × TxId)) (log : List LogRecord) (d n : ℕ) → ((x p : TxId) → is_pair pairs x p ≡ true → tx_in x keys ≡ true) → All keys (drop d log)
    → (x : TxId) → concern pairs (slice_range log d n) x ≡ true → tx_in x keys ≡ true
landed_known keys pairs log d n h a x e = concern_known keys pairs h (slice_range log d n) (all_take keys (n - d) (drop d log) a) x e
