-- A shard's share of the map is what its own log commits, and what it leaves in doubt that some log commits.
use Rattle.std.proofs.Common.{◌≡◌, ◌⊎◌, inl, inr, ⊎_elim, refl, ℕ, zero, suc, ◌<◌, true, false, not, ◌&&◌, ◌||◌, List, [], ◌∷◌, length, arith}
use Rattle.std.proofs.lemmas.Bool.{both_ways, false_from_ne_true, and_parts, and_from, or_cases, or_left, or_right}
use Rattle.clv_base.specs.declared.names.TxId.{TxId}
use Rattle.clv_base.specs.declared.logs.LogRecord.{LogRecord}
use Rattle.clv_base.specs.Orders.{tx_in}
use Rattle.clv_base.specs.Logs.{committed_in, committed_somewhere, in_doubt, has_standing, standing, writers, is_winner}
use Rattle.clv_base.specs.LogRules.{log_of}
use Rattle.clv_base.specs.FileRules.{may_open}
use Rattle.law_base.proofs.Running.{fold_standing}
use Rattle.clv_base.specs.Restarts.{losers}
use Rattle.law_base.proofs.Sets.{in_filter}
use Rattle.shard_laws.proofs.Order.WhoseWritesStand.{writer_has}
use Rattle.shard_laws.proofs.Restarts.WinnersKeepTheirWrites.{loser_out}
use Rattle.headline_laws.specs.ReplayingHere.{SharesAreMaps}
use Rattle.headline_laws.proofs.AtOpening.RecordedAreKnown.{Known, known_here}
use Rattle.fate_laws.proofs.Homes.FoundCommitsHaveHomes.{standing_stays}
use Rattle.law_base.proofs.Bools.{same_truth as same_test}

pub stands_within : (logs : List (List LogRecord)) (m : ℕ) (t : TxId) → has_standing (log_of logs m) t ≡ true → m < length logs
stands_within [] m t p = absurd (both_ways false refl p)
stands_within (log ∷ logs) zero t p = omega arith
stands_within (log ∷ logs) (suc m) t p = let k = stands_within logs m t p in omega (arith, k)

-- whose COMMIT is in some log
pub at_somewhere : (logs : List (List LogRecord)) (m : ℕ) (t : TxId) → committed_in (log_of logs m) t ≡ true → committed_somewhere logs t ≡ true
at_somewhere [] m t c = absurd (both_ways false refl c)
at_somewhere (log ∷ logs) zero t c = or_left (committed_in log t) _ c
at_somewhere (log ∷ logs) (suc m) t c = or_right (committed_in log t) _ (at_somewhere logs m t c)

pub somewhere_at : (logs : List (List LogRecord)) (t : TxId) → committed_somewhere logs t ≡ true → (m : ℕ) × (m < length logs) × (committed_in (log_of logs m) t ≡ true)
somewhere_at [] t c = absurd (both_ways false refl c)
somewhere_at (log ∷ logs) t c = ⊎_elim (λ h. (0, omega arith, h)) (λ h. let r = somewhere_at logs t h in (suc r.0, (let k = r.1 in omega (arith, k)), r.2)) (or_cases (committed_in log t) (committed_somewhere logs t) c)

-- of whom a write stands in a log that may be opened, and who is committed in some log, is committed in it, or in doubt
pub writer_known : (splits : List ℕ) (before : List (List LogRecord)) (n : ℕ) (t : TxId) → may_open splits before ≡ true → has_standing (log_of before n) t ≡ true → committed_somewhere before t ≡ true → Known before n t
writer_known splits before n t o w c = let m = somewhere_at before t c in known_here splits before n m.0 t o (stands_within before n t w) (standing_stays (log_of before n) t w) m.2

pub wins : (shard : ℕ) (log : List LogRecord) (t : TxId) → (committed_in log t ≡ true) ⊎ (tx_in t (in_doubt shard log) ≡ true) → is_winner shard log t ≡ true
wins shard log t (inl c) = or_left (committed_in log t) (tx_in t (in_doubt shard log)) c
wins shard log t (inr d) = or_right (committed_in log t) (tx_in t (in_doubt shard log)) d

-- whose writes a restart takes back in a log that may be opened with the others has a COMMIT in none
pub losers_are_lost : (splits : List ℕ) (logs : List (List LogRecord)) (n : ℕ) (t : TxId) → may_open splits logs ≡ true → tx_in t (losers n (log_of logs n)) ≡ true → committed_somewhere logs t ≡ false
losers_are_lost splits logs n t o i =
    let log = log_of logs n in
    let stood = writer_has t (standing log) (in_filter (λ u. not (is_winner n log u)) t (writers (standing log)) i).0 in
    false_from_ne_true _ (λ c. both_ways _ (loser_out n log t i) (wins n log t (writer_known splits logs n t o stood c)))

pub shares_are_maps : SharesAreMaps
shares_are_maps splits before n o i =
    let log = log_of before n in
    fold_standing (committed_somewhere before) (λ t. committed_in log t || (tx_in t (in_doubt n log) && committed_somewhere before t)) log []
    (λ t w. same_test (committed_somewhere before t) (committed_in log t || (tx_in t (in_doubt n log) && committed_somewhere before t))
    (λ c. ⊎_elim (λ a. or_left (committed_in log t) _ a) (λ a. or_right (committed_in log t) _ (and_from _ _ a c)) (writer_known splits before n t o w c))
    (λ c. ⊎_elim (λ a. at_somewhere before n t a) (λ a. (and_parts (tx_in t (in_doubt n log)) _ a).1) (or_cases (committed_in log t) (tx_in t (in_doubt n log) && committed_somewhere before t) c)))
