-- Names fit in the state that a log with spellings leaves after its RESTART.
use Rattle.std.proofs.Common.{◌≡◌, refl, ℕ, Bool, true, cond, ◌&&◌, List, [], ◌∷◌, nat_lt, Some}
use Rattle.std.specs.List.{list_all}
use Rattle.std.proofs.lemmas.Bool.{and_parts, and_from, cond_both, lt-ltb}
use Rattle.clv_base.specs.declared.names.TxId.{TxId}
use Rattle.clv_base.specs.declared.logs.LogRecord.{LogRecord}
use Rattle.clv_base.specs.declared.logs.LogRecord.TheVariants.{Update, Clr, Prepare, Commit, Abort, End, Restart, Add, Unadd, Forgotten, Check}
use Rattle.clv_base.specs.Orders.{Table, tx_same, tx_insert, tx_put}
use Rattle.clv_base.specs.FileRules.{has_spelling, tx_has_spelling, txs_rise, numbers_rise}
use Rattle.clv_base.specs.Logs.{in_doubt_from, in_doubt, doubt_by, prepare_of, ended_in}
use Rattle.clv_base.specs.Participant.{restored_voters}
use Rattle.clv_base.specs.Coordinator.{restored_requests}
use Rattle.clv_base.specs.Restarts.{home_by, homes_of, unended_with, unended_in}
use Rattle.protocol_laws.proofs.Laws.{Named, named_insert, restarts_are_spelled}
use Rattle.machine_laws.specs.Fitting.{voter_fits, request_fits, RestartsAreNamed}
use Rattle.machine_laws.proofs.Rows.{put_passes}

-- the rest of a log with spellings
rest_of : (r : LogRecord) (rs : List LogRecord) → list_all has_spelling (r ∷ rs) ≡ true → list_all has_spelling rs ≡ true
rest_of r rs h = (and_parts (has_spelling r) (list_all has_spelling rs) h).1

first_of : (r : LogRecord) (rs : List LogRecord) → list_all has_spelling (r ∷ rs) ≡ true → has_spelling r ≡ true
first_of r rs h = (and_parts (has_spelling r) (list_all has_spelling rs) h).0

-- the name and the home of a PREPARE
record PrepareFits (tx : TxId) (home : ℕ) : Type 0 where
  name : tx_has_spelling tx ≡ true
  home_low : nat_lt home 16 ≡ true

prepare_parts : (tx : TxId) (home : ℕ) (ps : List TxId) → has_spelling (Prepare tx home ps) ≡ true → PrepareFits tx home
prepare_parts tx home ps h = let a = (and_parts _ (txs_rise ps) h).0 in let b = (and_parts _ (list_all tx_has_spelling ps) a).0 in let c = (and_parts _ _ b).0 in let d = and_parts (tx_has_spelling tx) (nat_lt home 16) c in record { name = d.0; home_low = d.1 }

-- ---- those in doubt

doubtful_named : (log : List LogRecord) (shard : ℕ) (rs : List LogRecord) (so_far : List TxId) → list_all has_spelling rs ≡ true → Named so_far → Named (in_doubt_from log shard rs so_far)
doubtful_named log shard [] so_far h n = n
doubtful_named log shard (Prepare tx home ps ∷ rs) so_far h n =
    doubtful_named log shard rs (cond (doubt_by log shard tx home ps so_far) (tx_insert tx so_far) so_far) (rest_of (Prepare tx home ps) rs h)
    (cond_both (doubt_by log shard tx home ps so_far) (tx_insert tx so_far) so_far Named (λ e. named_insert tx so_far (prepare_parts tx home ps (first_of (Prepare tx home ps) rs h)).name n) (λ e. n))
doubtful_named log shard (Update tx k b a ∷ rs) so_far h n = doubtful_named log shard rs so_far (rest_of (Update tx k b a) rs h) n
doubtful_named log shard (Clr tx u k a ∷ rs) so_far h n = doubtful_named log shard rs so_far (rest_of (Clr tx u k a) rs h) n
doubtful_named log shard (Commit tx ps ∷ rs) so_far h n = doubtful_named log shard rs so_far (rest_of (Commit tx ps) rs h) n
doubtful_named log shard (Abort tx ∷ rs) so_far h n = doubtful_named log shard rs so_far (rest_of (Abort tx) rs h) n
doubtful_named log shard (End tx ∷ rs) so_far h n = doubtful_named log shard rs so_far (rest_of (End tx) rs h) n
doubtful_named log shard (Restart run epoch ∷ rs) so_far h n = doubtful_named log shard rs so_far (rest_of (Restart run epoch) rs h) n
doubtful_named log shard (Add tx k by ∷ rs) so_far h n = doubtful_named log shard rs so_far (rest_of (Add tx k by) rs h) n
doubtful_named log shard (Unadd tx u k by ∷ rs) so_far h n = doubtful_named log shard rs so_far (rest_of (Unadd tx u k by) rs h) n
doubtful_named log shard (Forgotten ∷ rs) so_far h n = doubtful_named log shard rs so_far (rest_of Forgotten rs h) n
doubtful_named log shard (Check run' epoch' upto base ∷ rs) so_far h n = doubtful_named log shard rs so_far (rest_of (Check run' epoch' upto base) rs h) n

home_fits : (log : List LogRecord) (t : TxId) → list_all has_spelling log ≡ true → nat_lt (home_by (prepare_of log t)) 16 ≡ true
home_fits [] t h = refl
home_fits (Prepare tx home ps ∷ rs) t h =
    cond_both (tx_same t tx) (Some (home, ps)) (prepare_of rs t) (λ o. nat_lt (home_by o) 16 ≡ true) (λ e. (prepare_parts tx home ps (first_of (Prepare tx home ps) rs h)).home_low) (λ e. home_fits rs t (rest_of (Prepare tx home ps) rs h))
home_fits (Update tx k b a ∷ rs) t h = home_fits rs t (rest_of (Update tx k b a) rs h)
home_fits (Clr tx u k a ∷ rs) t h = home_fits rs t (rest_of (Clr tx u k a) rs h)
home_fits (Commit tx ps ∷ rs) t h = home_fits rs t (rest_of (Commit tx ps) rs h)
home_fits (Abort tx ∷ rs) t h = home_fits rs t (rest_of (Abort tx) rs h)
home_fits (End tx ∷ rs) t h = home_fits rs t (rest_of (End tx) rs h)
home_fits (Restart run epoch ∷ rs) t h = home_fits rs t (rest_of (Restart run epoch) rs h)
home_fits (Add tx k by ∷ rs) t h = home_fits rs t (rest_of (Add tx k by) rs h)
home_fits (Unadd tx u k by ∷ rs) t h = home_fits rs t (rest_of (Unadd tx u k by) rs h)
home_fits (Forgotten ∷ rs) t h = home_fits rs t (rest_of Forgotten rs h)
home_fits (Check run' epoch' upto base ∷ rs) t h = home_fits rs t (rest_of (Check run' epoch' upto base) rs h)

voters_fit : (log : List LogRecord) (txs : List TxId) → list_all has_spelling log ≡ true → Named txs → list_all voter_fits (restored_voters (homes_of log txs)) ≡ true
voters_fit log [] h n = refl
voters_fit log (t ∷ ts) h n = and_from _ _ (and_from _ _ n.0 (home_fits log t h)) (voters_fit log ts h n.1)

-- ---- COMMITs without END

-- a row of parts
parts_fit : TxId × List ℕ → Bool
parts_fit p = tx_has_spelling p.0 && list_all (λ n. nat_lt n 16) p.1

commit_parts : (tx : TxId) (ps : List ℕ) → has_spelling (Commit tx ps) ≡ true → parts_fit (tx, ps) ≡ true
unfolding parts_fit
commit_parts tx ps h =
    let a = (and_parts _ (numbers_rise ps) h).0 in let b = and_parts _ (list_all (λ p. nat_lt p 16) ps) a in let c = and_parts (tx_has_spelling tx) _ b.0 in and_from _ _ c.0 b.1

with_fits : (log : List LogRecord) (tx : TxId) (ps : List ℕ) (rest : Table (List ℕ)) → parts_fit (tx, ps) ≡ true → list_all parts_fit rest ≡ true → list_all parts_fit (unended_with log tx ps rest) ≡ true
with_fits log tx [] rest p h = h
with_fits log tx (n ∷ ns) rest p h = cond_both (ended_in log tx) rest (tx_put tx (n ∷ ns) rest) (λ t. list_all parts_fit t ≡ true) (λ e. h) (λ e. put_passes parts_fit tx (n ∷ ns) rest p h)

unended_fits : (log rs : List LogRecord) → list_all has_spelling rs ≡ true → list_all parts_fit (unended_in log rs) ≡ true
unended_fits log [] h = refl
unended_fits log (Commit tx ps ∷ rs) h = with_fits log tx ps (unended_in log rs) (commit_parts tx ps (first_of (Commit tx ps) rs h)) (unended_fits log rs (rest_of (Commit tx ps) rs h))
unended_fits log (Update tx k b a ∷ rs) h = unended_fits log rs (rest_of (Update tx k b a) rs h)
unended_fits log (Clr tx u k a ∷ rs) h = unended_fits log rs (rest_of (Clr tx u k a) rs h)
unended_fits log (Prepare tx home ps ∷ rs) h = unended_fits log rs (rest_of (Prepare tx home ps) rs h)
unended_fits log (Abort tx ∷ rs) h = unended_fits log rs (rest_of (Abort tx) rs h)
unended_fits log (End tx ∷ rs) h = unended_fits log rs (rest_of (End tx) rs h)
unended_fits log (Restart run epoch ∷ rs) h = unended_fits log rs (rest_of (Restart run epoch) rs h)
unended_fits log (Add tx k by ∷ rs) h = unended_fits log rs (rest_of (Add tx k by) rs h)
unended_fits log (Unadd tx u k by ∷ rs) h = unended_fits log rs (rest_of (Unadd tx u k by) rs h)
unended_fits log (Forgotten ∷ rs) h = unended_fits log rs (rest_of Forgotten rs h)
unended_fits log (Check run' epoch' upto base ∷ rs) h = unended_fits log rs (rest_of (Check run' epoch' upto base) rs h)

requests_fit : (rows : Table (List ℕ)) → list_all parts_fit rows ≡ true → list_all request_fits (restored_requests rows) ≡ true
unfolding parts_fit
requests_fit [] h = refl
requests_fit (p ∷ ps) h =
    let two = and_parts (parts_fit p) (list_all parts_fit ps) h in let one = and_parts (tx_has_spelling p.0) (list_all (λ n. nat_lt n 16) p.1) two.0 in
    and_from _ _ (and_from _ _ (and_from _ _ one.0 refl) one.1) (requests_fit ps two.1)

pub restarts_are_named : RestartsAreNamed
restarts_are_named shard run epoch log last journal low h = record {
  fitting =
      record {
        shard = lt-ltb shard 16 low;
        voters = voters_fit log (in_doubt shard log) h (doubtful_named log shard log [] h tt);
        requests = requests_fit (unended_in log log) (unended_fits log log h);
        outbox = refl;
      };
  spelled = restarts_are_spelled shard epoch log h;
}
