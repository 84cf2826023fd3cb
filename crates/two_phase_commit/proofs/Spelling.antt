-- What a home rules writes a record that has a spelling.
use Rattle.std.proofs.Common.{◌≡◌, refl, ℕ, ◌<◌, Bool, true, false, cond, not, ◌&&◌, ◌==◌, List, [], ◌∷◌, map, length, nat_lt, Option, Some, None}
use Rattle.std.proofs.lemmas.Bool.{and_from, and_parts, cond_both, lt-ltb, le-leb}
use Rattle.std.proofs.lemmas.List.Kept.{IsStrictlySortedBy-filter}
use Rattle.std.specs.List.{AllByRecursion, list_all}
use Rattle.std.specs.List.Sorted.{IsStrictlySortedBy}
use Rattle.std.specs.Option.{IfSome}
use Rattle.std.specs.Ordering.{nat_cmp}
use Rattle.std.specs.declared.cmp.Ordering.TheVariants.{Less, Equal, Greater}
use Rattle.clv_base.specs.declared.names.TxId.{TxId}
use Rattle.clv_base.specs.declared.causes.AbortCause.{AbortCause}
use Rattle.clv_base.specs.declared.logs.LogRecord.{LogRecord}
use Rattle.clv_base.specs.declared.logs.LogRecord.TheVariants.{Update, Clr, Prepare, Commit, Abort, End, Restart, Add, Unadd, Forgotten, Check}
use Rattle.clv_base.specs.declared.parts.PartFacts.{PartFacts}
use Rattle.clv_base.specs.declared.state.Request.{Request}
use Rattle.clv_base.specs.declared.state.RequestState.{RequestState}
use Rattle.clv_base.specs.declared.state.RequestState.TheVariants.{Undecided, Committed, Finished, Refused}
use Rattle.clv_base.specs.declared.state.Ruling.TheVariants.{Acknowledge, End as EndRuling}
use Rattle.clv_base.specs.Coordinator.{others, yes_shards, vote_from, is_agreed, agreed_ruling, refusal, refused_ruling, end_ruling, undecided_ruling, ruling_in, ruling_by}
use Rattle.clv_base.specs.Facts.{has_durable_predecessors}
use Rattle.clv_base.specs.FileRules.{has_spelling, tx_has_spelling, numbers_rise}
use Rattle.clv_base.specs.Logs.{ended_in}
use Rattle.clv_base.specs.Orders.{Table, nat_in, tx_put}
use Rattle.clv_base.specs.Participant.{is_yes_vote}
use Rattle.clv_base.specs.Restarts.{unended_in, unended_with}
use Rattle.law_base.proofs.Lists.{all_kept}
use Rattle.law_base.proofs.Rows.{rows_put}
use Rattle.two_phase_commit.specs.Coordinated.{IsFit, AreNamed, IsSpelledRuling}
use Rattle.two_phase_commit.specs.Unended.{UnendedAreNamed}
use Rattle.two_phase_commit.proofs.Parts.{few_pass}

-- ---- the parts of a COMMIT

numbers_are : (ns : List ℕ) → IsStrictlySortedBy nat_cmp ns → numbers_rise ns ≡ true
unfolding IsStrictlySortedBy
numbers_are [] s = refl
numbers_are (n ∷ []) s = refl
numbers_are (n ∷ m ∷ ns) s = and_from (nat_lt n m) (numbers_rise (m ∷ ns)) (less n m (s.0).0) (numbers_are (m ∷ ns) s.1)
  where
    at : (t u : Bool) → cond t Less (cond u Equal Greater) ≡ Less → t ≡ true
    at true u e = refl
    at false true e = absurd cc
    at false false e = absurd cc

    less : (a b : ℕ) → nat_cmp a b ≡ Less → nat_lt a b ≡ true
    less a b e = at (nat_lt a b) (a == b) e

firsts_low : (ts : List (ℕ × ℕ)) → AllByRecursion (λ t. t.0 < 16) ts → AllByRecursion (λ n. n < 16) (map (λ t. t.0) ts)
firsts_low [] a = tt
firsts_low (t ∷ ts) a = (a.0, firsts_low ts a.1)

low_are : (ns : List ℕ) → AllByRecursion (λ n. n < 16) ns → list_all (λ n. nat_lt n 16) ns ≡ true
low_are [] a = refl
low_are (n ∷ ns) a = and_from (nat_lt n 16) (list_all (λ n. nat_lt n 16) ns) (lt-ltb n 16 a.0) (low_are ns a.1)

commit_spelled : (tx : TxId) (shard : ℕ) (q : Request) → IsFit shard q → tx_has_spelling tx ≡ true → has_spelling (Commit tx (yes_shards shard q)) ≡ true
commit_spelled tx shard q fit n =
    let yes : ℕ → Bool = λ p. is_yes_vote (vote_from p q.votes) in let others_of : ℕ → Bool = λ p. not (p == shard) in let all : List ℕ = map (λ t. t.0) q.touched in
    let few = le-leb (length (yes_shards shard q)) 15 (few_pass yes (others shard q.touched) fit.few) in
    let low = low_are (yes_shards shard q) (all_kept (λ n. n < 16) yes (others shard q.touched) (all_kept (λ n. n < 16) others_of all (firsts_low q.touched fit.low))) in
    let rise = numbers_are (yes_shards shard q) (IsStrictlySortedBy-filter nat_cmp yes (others shard q.touched) (IsStrictlySortedBy-filter nat_cmp others_of all fit.rise)) in
    and_from _ _ (and_from _ _ (and_from _ _ n few) low) rise

-- ---- rulings

agreed_spelled : (tx : TxId) (f : PartFacts) (b : Bool) (ps : List ℕ) → has_spelling (Commit tx ps) ≡ true → IfSome (agreed_ruling f b ps) (IsSpelledRuling tx)
agreed_spelled tx f b (p ∷ ps) h = h
agreed_spelled tx f true [] h = h
agreed_spelled tx f false [] h = cond_both (has_durable_predecessors f) (Some Acknowledge) None (λ o. IfSome o (IsSpelledRuling tx)) (λ e. tt) (λ e. tt)

refused_spelled : (tx : TxId) (shard : ℕ) (q : Request) (o : Option AbortCause) → IfSome (refused_ruling shard q o) (IsSpelledRuling tx)
refused_spelled tx shard q None = tt
refused_spelled tx shard q (Some cause) = tt

ended_spelled : (tx : TxId) (q : Request) (ps : List ℕ) → tx_has_spelling tx ≡ true → IfSome (end_ruling q ps) (IsSpelledRuling tx)
ended_spelled tx q [] n = tt
ended_spelled tx q (p ∷ ps) n = cond_both (not q.is_ended && list_all (λ m. nat_in m q.acknowledged_by) (p ∷ ps)) (Some EndRuling) None (λ o. IfSome o (IsSpelledRuling tx)) (λ e. n) (λ e. tt)

pub ruling_spelled : (shard : ℕ) (tx : TxId) (q : Request) (f : PartFacts) → IsFit shard q → tx_has_spelling tx ≡ true → IfSome (ruling_by shard tx q f) (IsSpelledRuling tx)
ruling_spelled shard tx q f fit n = at q.state
  where
    undecided : (b : Bool) → IfSome (undecided_ruling shard tx q f b) (IsSpelledRuling tx)
    undecided true = agreed_spelled tx f f.updates (yes_shards shard q) (commit_spelled tx shard q fit n)
    undecided false = refused_spelled tx shard q (refusal tx q f)

    at : (st : RequestState) → IfSome (ruling_in shard tx q f st) (IsSpelledRuling tx)
    at Undecided = undecided (is_agreed shard q f)
    at (Committed parts) = ended_spelled tx q parts n
    at Finished = tt
    at (Refused cause) = tt

-- ---- commits without an END

with_named : (log : List LogRecord) (tx : TxId) (ps : List ℕ) (rest : Table (List ℕ)) → tx_has_spelling tx ≡ true → AreNamed rest → AreNamed (unended_with log tx ps rest)
with_named log tx [] rest n h = h
with_named log tx (p ∷ ps) rest n h = cond_both (ended_in log tx) rest (tx_put tx (p ∷ ps) rest) (λ (t : Table (List ℕ)). AreNamed t) (λ e. h) (λ e. rows_put (λ r. tx_has_spelling r.0 ≡ true) tx (p ∷ ps) rest n h)

commit_name : (tx : TxId) (ps : List ℕ) → has_spelling (Commit tx ps) ≡ true → tx_has_spelling tx ≡ true
commit_name tx ps h = (and_parts _ _ (and_parts _ _ (and_parts _ (numbers_rise ps) h).0).0).0

rest_of : (r : LogRecord) (rs : List LogRecord) → list_all has_spelling (r ∷ rs) ≡ true → list_all has_spelling rs ≡ true
rest_of r rs h = (and_parts (has_spelling r) (list_all has_spelling rs) h).1

pub unended_are_named : UnendedAreNamed
unended_are_named log [] h = tt
unended_are_named log (Commit tx ps ∷ rs) h =
    with_named log tx ps (unended_in log rs) (commit_name tx ps (and_parts (has_spelling (Commit tx ps)) (list_all has_spelling rs) h).0) (unended_are_named log rs (rest_of (Commit tx ps) rs h))
unended_are_named log (Update tx k b a ∷ rs) h = unended_are_named log rs (rest_of (Update tx k b a) rs h)
unended_are_named log (Clr tx u k a ∷ rs) h = unended_are_named log rs (rest_of (Clr tx u k a) rs h)
unended_are_named log (Prepare tx home ps ∷ rs) h = unended_are_named log rs (rest_of (Prepare tx home ps) rs h)
unended_are_named log (Abort tx ∷ rs) h = unended_are_named log rs (rest_of (Abort tx) rs h)
unended_are_named log (End tx ∷ rs) h = unended_are_named log rs (rest_of (End tx) rs h)
unended_are_named log (Restart run epoch ∷ rs) h = unended_are_named log rs (rest_of (Restart run epoch) rs h)
unended_are_named log (Add tx k by ∷ rs) h = unended_are_named log rs (rest_of (Add tx k by) rs h)
unended_are_named log (Unadd tx u k by ∷ rs) h = unended_are_named log rs (rest_of (Unadd tx u k by) rs h)
unended_are_named log (Forgotten ∷ rs) h = unended_are_named log rs (rest_of Forgotten rs h)
unended_are_named log (Check run' epoch' upto base ∷ rs) h = unended_are_named log rs (rest_of (Check run' epoch' upto base) rs h)
