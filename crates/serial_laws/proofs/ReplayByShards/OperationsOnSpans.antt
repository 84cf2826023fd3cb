-- What operations make of the values at some keys.
use Rattle.std.proofs.Common.{◌≡◌, refl, sym, ap, subst, ◌∙◌, ℕ, ◌<◌, true, false, cond, List, Some, None, ◌==◌, eqb-true, eq-eqb}
use Rattle.std.proofs.lemmas.Bool.{both_ways, false_from_ne_true, and_parts}
use Rattle.clv_base.specs.declared.ops.Op.{Op}
use Rattle.clv_base.specs.declared.ops.Op.TheVariants.{Get, Put, Del, Scan, Add}
use Rattle.clv_base.specs.Maps.{KeyMap, map_get, plus, op_answer, op_after}
use Rattle.clv_base.specs.Folding.{meets_key, IsRising}
use Rattle.clv_base.specs.Shards.{shard_count, are_splits, span, in_span}
use Rattle.clv_base.specs.Sessions.{lies_in}
use Rattle.clv_base.proofs.Folding.{get_set, get_other}
use Rattle.law_base.proofs.Running.{same_answer}
use Rattle.serial_laws.proofs.ReplayByShards.SpansShareNoKey.{one_shard, between}

-- two maps have the same values at some keys
abbrev pub AgreeOn : (ℕ → Type 0) → KeyMap → KeyMap → Type 0
AgreeOn P m n = (k : ℕ) → P k → map_get k m ≡ map_get k n

-- an operation meets no other keys, or none of these
abbrev pub MeetsOnly : (ℕ → Type 0) → Op → Type 0
MeetsOnly P o = (k : ℕ) → meets_key o k ≡ true → P k

abbrev pub MeetsNoneOf : (ℕ → Type 0) → Op → Type 0
MeetsNoneOf P o = (k : ℕ) → P k → meets_key o k ≡ false

pub answers_agree : (P : ℕ → Type 0) (o : Op) (m n : KeyMap) → IsRising m → IsRising n → MeetsOnly P o → AgreeOn P m n → op_answer o m ≡ op_answer o n
answers_agree P o m n h g only e = same_answer o m n h g (λ k met. e k (only k met))

pub after_agree : (P : ℕ → Type 0) (o : Op) (m n : KeyMap) → MeetsOnly P o → AgreeOn P m n → AgreeOn P (op_after o m) (op_after o n)
after_agree P (Get j) m n only e = e
after_agree P (Scan lo hi) m n only e = e
after_agree P (Put j v) m n only e = λ k i. get_set k j (Some v) m ∙ ap (cond (k == j) (Some v)) (e k i) ∙ sym (get_set k j (Some v) n)
after_agree P (Del j) m n only e = λ k i. get_set k j None m ∙ ap (cond (k == j) None) (e k i) ∙ sym (get_set k j None n)
after_agree P (Add j by) m n only e =
    λ k i.
    get_set k j (plus by (map_get j m)) m
    ∙ ap (λ v. cond (k == j) (plus by v) (map_get k m)) (e j (only j (eq-eqb j j refl)))
    ∙ ap (cond (k == j) (plus by (map_get j n))) (e k i)
    ∙ sym (get_set k j (plus by (map_get j n)) n)

other_key : (j k : ℕ) → (j == k) ≡ false → (k == j) ≡ false
other_key j k e = false_from_ne_true (k == j) (λ t. both_ways (j == k) e (eq-eqb j k (sym (eqb-true k j t))))

pub after_elsewhere : (P : ℕ → Type 0) (o : Op) (m : KeyMap) → MeetsNoneOf P o → AgreeOn P (op_after o m) m
after_elsewhere P (Get j) m away k i = refl
after_elsewhere P (Scan lo hi) m away k i = refl
after_elsewhere P (Put j v) m away k i = get_other k j (Some v) m (other_key j k (away k i))
after_elsewhere P (Del j) m away k i = get_other k j None m (other_key j k (away k i))
after_elsewhere P (Add j by) m away k i = get_other k j (plus by (map_get j m)) m (other_key j k (away k i))

-- ---- of spans

pub lies_only : (splits : List ℕ) (n : ℕ) (o : Op) → lies_in splits n o ≡ true → MeetsOnly (λ k. in_span splits n k ≡ true) o
lies_only splits n (Get j) e k met = subst (λ i. in_span splits n i ≡ true) (eqb-true j k met) e
lies_only splits n (Put j v) e k met = subst (λ i. in_span splits n i ≡ true) (eqb-true j k met) e
lies_only splits n (Del j) e k met = subst (λ i. in_span splits n i ≡ true) (eqb-true j k met) e
lies_only splits n (Add j by) e k met = subst (λ i. in_span splits n i ≡ true) (eqb-true j k met) e
lies_only splits n (Scan lo hi) e k met = let p = and_parts (in_span splits n lo) (in_span splits n hi) e in between (span splits n) lo hi k p.0 p.1 met

pub lies_elsewhere : (splits : List ℕ) (n s : ℕ) (o : Op) → are_splits splits ≡ true → n < shard_count splits → s < shard_count splits → lies_in splits s o ≡ true → (s ≡ n → ⊥) → MeetsNoneOf (λ k. in_span splits n k ≡ true) o
lies_elsewhere splits n s o are l i e other k here =
    false_from_ne_true (meets_key o k) (λ met. other (one_shard splits s n k are i l (lies_only splits s o e k met) here))

pub lies_somewhere : (splits : List ℕ) (s : ℕ) (o : Op) → s < shard_count splits → lies_in splits s o ≡ true → MeetsNoneOf (λ k. (n : ℕ) → n < shard_count splits → in_span splits n k ≡ false) o
lies_somewhere splits s o i e k nowhere = false_from_ne_true (meets_key o k) (λ met. both_ways (in_span splits s k) (nowhere s i) (lies_only splits s o e k met))
