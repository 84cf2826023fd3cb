-- What logs that may be opened say of a transaction that is committed in one of them: on each shard it is committed, or all that its PREPARE
-- lists are committed.
use Rattle.std.proofs.Common.{◌≡◌, ◌⊎◌, inl, inr, ⊎_elim, refl, sym, ap, subst, ◌∙◌, ℕ, ◌<◌, true, false, Bool, ◌==◌, List, [], Option, Some, None, length, eqb-true}
use Rattle.std.specs.List.{list_all}
use Rattle.std.proofs.lemmas.Bool.{both_ways, and_parts, not-true}
use Rattle.clv_base.specs.declared.names.TxId.{TxId}
use Rattle.clv_base.specs.declared.logs.LogRecord.{LogRecord}
use Rattle.clv_base.specs.Orders.{tx_in}
use Rattle.clv_base.specs.Logs.{committed_in, aborted_in, prepare_of, commit_parts}
use Rattle.clv_base.specs.LogRules.{log_of, home_is, part_agrees, agrees_at, listed_in}
use Rattle.clv_base.specs.FileRules.{may_open}
use Rattle.law_base.proofs.Changed.{some_same}
use Rattle.law_base.proofs.Sets.{list_all_at}
use Rattle.protocol_laws.proofs.LogsInOrder.OneRecordMore.{committed_there, prepared_there}
use Rattle.fate_laws.proofs.Homes.FoundCommitsHaveHomes.{part_agreed, home_of, prepared_stays}

-- ---- the parts of a home

abbrev Settled : List LogRecord → TxId → ℕ × List TxId → Type 0
Settled log t p = (committed_in log t ≡ true) ⊎ ((q : TxId) → tx_in q p.1 ≡ true → committed_in log q ≡ true)

part_settled : (t : TxId) (h : ℕ) (log : List LogRecord) (p : ℕ × List TxId) → part_agrees t h log ≡ true → prepare_of log t ≡ Some p → Settled log t p
part_settled t h log p a e = inr (λ q i. list_all_at (committed_in log) q (listed_in log t) (and_parts _ (list_all (committed_in log) (listed_in log t)) a).1 (subst (λ o. tx_in q (elim o [ Some x ↦ x.1 | None ↦ [] ]) ≡ true) (sym e) i))

-- a PREPARE on another shard is of a part
part_of_home : (logs : List (List LogRecord)) (t : TxId) (h m : ℕ) (ps : List ℕ) (p : ℕ × List TxId) → m < length logs → agrees_at logs t h (log_of logs h) ps ≡ true → prepare_of (log_of logs m) t ≡ Some p → (m == h) ≡ false
    → part_agrees t h (log_of logs m) ≡ true
part_of_home logs t h m ps p l a e q = part_agreed logs t h m ps l a q (prepared_stays (log_of logs m) t (prepared_there (log_of logs m) t p e))

-- ---- the home of one that is committed somewhere, and the parts with a PREPARE

named_home : (h : ℕ) (o : Option (ℕ × List TxId)) (p : ℕ × List TxId) → home_is h o ≡ true → o ≡ Some p → p.0 ≡ h
named_home h None p a e = absurd cc
named_home h (Some q) p a e = sym (ap (λ z. z.0) (some_same q p e)) ∙ eqb-true q.0 h a

home_names : (logs : List (List LogRecord)) (t : TxId) (h : ℕ) (ps : List ℕ) (p : ℕ × List TxId) → agrees_at logs t h (log_of logs h) ps ≡ true → prepare_of (log_of logs h) t ≡ Some p → p.0 ≡ h
home_names logs t h ps p a e =
    let b = and_parts _ _ (and_parts _ _ (and_parts _ _ a).0).0 in named_home h (prepare_of (log_of logs h) t) p b.0 e

part_names : (t : TxId) (h : ℕ) (log : List LogRecord) (p : ℕ × List TxId) → part_agrees t h log ≡ true → prepare_of log t ≡ Some p → p.0 ≡ h
part_names t h log p a e = let b = and_parts _ _ (and_parts _ _ (and_parts _ _ a).0).0 in named_home h (prepare_of log t) p b.1 e

part_unaborted : (t : TxId) (h : ℕ) (log : List LogRecord) → part_agrees t h log ≡ true → aborted_in log t ≡ false
part_unaborted t h log a = not-true (aborted_in log t) (and_parts _ _ (and_parts _ _ a).0).1

-- where it is prepared: the home is the shard that the PREPARE names, it has the COMMIT, and this is it or one of the parts that agree with it
abbrev PartOf : List (List LogRecord) → TxId → ℕ → ℕ × List TxId → Type 0
PartOf logs t m p = (h : ℕ) × (committed_in (log_of logs h) t ≡ true) × (p.0 ≡ h) × ((m ≡ h) ⊎ (part_agrees t h (log_of logs m) ≡ true))

by_home : (logs : List (List LogRecord)) (t : TxId) (h m : ℕ) (p : ℕ × List TxId) (o : Option (List ℕ)) → m < length logs → commit_parts (log_of logs h) t ≡ o → elim o [ Some ps ↦ agrees_at logs t h (log_of logs h) ps | None ↦ false ] ≡ true
    → prepare_of (log_of logs m) t ≡ Some p → PartOf logs t m p
by_home logs t h m p None l c a e = absurd (both_ways false refl a)
by_home logs t h m p (Some ps) l c a e = at (m == h) refl
  where
    there : committed_in (log_of logs h) t ≡ true
    there = committed_there (log_of logs h) t ps c

    at : (b : Bool) → (m == h) ≡ b → PartOf logs t m p
    at true q = let z = eqb-true m h q in (h, there, home_names logs t h ps p a (subst (λ k. prepare_of (log_of logs k) t ≡ Some p) z e), inl z)
    at false q = let z = part_of_home logs t h m ps p l a e q in (h, there, part_names t h (log_of logs m) p z e, inr z)

part_of : (splits : List ℕ) (logs : List (List LogRecord)) (t : TxId) (n m : ℕ) (p : ℕ × List TxId) → may_open splits logs ≡ true → committed_in (log_of logs n) t ≡ true → m < length logs → prepare_of (log_of logs m) t ≡ Some p → PartOf logs t m p
part_of splits logs t n m p o c l e = let a = home_of splits logs n t o c in by_home logs t a.0 m p (commit_parts (log_of logs a.0) t) l refl a.1 e

pub opening_settled : (splits : List ℕ) (logs : List (List LogRecord)) (t : TxId) (n m : ℕ) (p : ℕ × List TxId) → may_open splits logs ≡ true → committed_in (log_of logs n) t ≡ true → m < length logs → prepare_of (log_of logs m) t ≡ Some p
    → Settled (log_of logs m) t p
opening_settled splits logs t n m p o c l e =
    let a = part_of splits logs t n m p o c l e in ⊎_elim (λ z. inl (subst (λ k. committed_in (log_of logs k) t ≡ true) (sym z) a.1)) (λ z. part_settled t a.0 (log_of logs m) p z e) a.3

-- the home that the PREPARE names has its COMMIT
pub opening_home : (splits : List ℕ) (logs : List (List LogRecord)) (t : TxId) (n m : ℕ) (p : ℕ × List TxId) → may_open splits logs ≡ true → committed_in (log_of logs n) t ≡ true → m < length logs → prepare_of (log_of logs m) t ≡ Some p
    → committed_in (log_of logs p.0) t ≡ true
opening_home splits logs t n m p o c l e = let a = part_of splits logs t n m p o c l e in subst (λ k. committed_in (log_of logs k) t ≡ true) (sym a.2) a.1

-- and no part was aborted
pub opening_unaborted : (splits : List ℕ) (logs : List (List LogRecord)) (t : TxId) (n m : ℕ) (p : ℕ × List TxId) → may_open splits logs ≡ true → committed_in (log_of logs n) t ≡ true → m < length logs → prepare_of (log_of logs m) t ≡ Some p
    → (committed_in (log_of logs m) t ≡ true) ⊎ (aborted_in (log_of logs m) t ≡ false)
opening_unaborted splits logs t n m p o c l e =
    let a = part_of splits logs t n m p o c l e in ⊎_elim (λ z. inl (subst (λ k. committed_in (log_of logs k) t ≡ true) (sym z) a.1)) (λ z. inr (part_unaborted t a.0 (log_of logs m) z)) a.3
