-- One turn does the next thing that is due, or leaves out a candidate for whom nothing is.
use Rattle.std.proofs.Common.{◌≡◌, refl, sym, ap, subst, ◌∙◌, ℕ, ◌+◌, ◌*◌, ◌≤◌, ◌<◌, List, [], ◌∷◌, length, Option, Some, None, arith}
use Rattle.std.proofs.Math.Nat.{mul-le-mul_left}
use Rattle.std.specs.List.Sorted.{IsStrictlySortedBy}
use Rattle.clv_base.specs.declared.names.TxId.{TxId}
use Rattle.clv_base.specs.Orders.{tx_cmp}
use Rattle.clv_base.specs.State.{Shard, with_local}
use Rattle.clv_base.specs.OneShard.{purge}
use Rattle.clv_base.specs.Events.{finish}
use Rattle.clv_base.specs.Due.{due_of, next_due, work}
use Rattle.clv_base.proofs.Settling.{each_leaves_less}
use Rattle.protocol_laws.specs.Candidates.{Cover}
use Rattle.protocol_laws.proofs.Laws.{least_is_next, others_cover, none_is_nothing}
use Rattle.protocol_laws.proofs.Laws.{doing_goes_on, nothing_to_do}
use Rattle.protocol_laws.specs.Purging.{WritesAreLocked}
use Rattle.protocol_laws.proofs.Laws.{purges_dont_matter}
use Rattle.due_step.specs.Ready.{IsReady, IsDone, least, but_least, left}

pub split : (txs : List TxId) (tx : TxId) → least txs ≡ Some tx → txs ≡ tx ∷ but_least txs
split [] tx e = absurd cc
split (t ∷ ts) tx e = let h : t ≡ tx = cc in ap (λ x. x ∷ ts) h

-- ---- what is done is the next

pub next_is : (s t : Shard) (txs : List TxId) (limit : ℕ) (tx : TxId) → IsReady s txs limit → least txs ≡ Some tx → due_of s tx ≡ Some t → next_due s ≡ Some t
next_is s t txs limit tx r e d =
    let p = split txs tx e in
    least_is_next s t tx (but_least txs) r.requests (subst (λ (l : List TxId). IsStrictlySortedBy tx_cmp l) p r.rise) (subst (λ (l : List TxId). Cover l s) p r.cover) d

-- what was due
pub done_was : (o : Option Shard) (u : Shard) → IsDone o u → (t : Shard) × (o ≡ Some t) × (u ≡ with_local purge t) × WritesAreLocked u.local
done_was None u d = absurd d
done_was (Some t) u d = (t, refl, d.0, d.1)

pub goes_on : (s u : Shard) (txs : List TxId) (limit : ℕ) (tx : TxId) → IsReady s txs limit → least txs ≡ Some tx → IsDone (due_of s tx) u → finish u ≡ finish s
goes_on s u txs limit tx r e done =
    let d = done_was (due_of s tx) u done in
    ap finish d.2 ∙ purges_dont_matter d.0 (subst (λ (x : Shard). WritesAreLocked x.local) d.2 d.3) ∙ sym (ap (with_local purge) (doing_goes_on s d.0 (next_is s d.0 txs limit tx r e d.1)))

below : (w v n a b : ℕ) → w < v → a ≤ n → w * (n + 1) + a < v * (n + 1) + b
below w v n a b h k = let l : w + 1 ≤ v = omega arith in omega (arith, mul-le-mul_left (n + 1) l)

pub less_done : (s u : Shard) (txs us : List TxId) (limit m : ℕ) (tx : TxId) → IsReady s txs limit → least txs ≡ Some tx → IsDone (due_of s tx) u → m ≡ limit → length us ≤ m → left u us m < left s txs limit
less_done s u txs us limit m tx r e done same few =
    let d = done_was (due_of s tx) u done in
    subst (λ n. left u us n < left s txs limit) (sym same)
    (subst (λ n. n * (limit + 1) + length us < left s txs limit) (sym (ap work d.2))
    (below (work d.0) (work s) limit (length us) (length txs) (each_leaves_less s d.0 (next_is s d.0 txs limit tx r e d.1)) (subst (λ n. length us ≤ n) same few)))

-- ---- a candidate is left out

pub ready_rest : (s : Shard) (txs : List TxId) (limit : ℕ) (tx : TxId) → IsReady s txs limit → least txs ≡ Some tx → due_of s tx ≡ None → IsReady s (but_least txs) limit
unfolding IsStrictlySortedBy
ready_rest s [] limit tx r e d = absurd cc
ready_rest s (t ∷ ts) limit tx r e d =
    let h : t ≡ tx = cc in let few = r.few in
    record { requests = r.requests; rise = r.rise.1; few = omega (arith, few); cover = others_cover s t ts r.cover (ap (due_of s) h ∙ d); purged = r.purged }

-- ---- the end

pub none_left : (s : Shard) (txs : List TxId) (limit : ℕ) → IsReady s txs limit → txs ≡ [] → finish s ≡ s
none_left s txs limit r e = ap (with_local purge) (nothing_to_do s (none_is_nothing s (subst (λ (l : List TxId). Cover l s) e r.cover))) ∙ r.purged

pub is_none : (txs : List TxId) → least txs ≡ None → txs ≡ []
is_none [] e = refl
is_none (t ∷ ts) e = absurd cc

pub ready_same : (s t : Shard) (txs us : List TxId) (n m : ℕ) → t ≡ s → us ≡ txs → m ≡ n → IsReady s txs n → IsReady t us m
ready_same s t txs us n m e f h r =
    subst (λ (x : Shard). IsReady x us m) (sym e) (subst (λ (l : List TxId). IsReady s l m) (sym f) (subst (λ k. IsReady s txs k) (sym h) r))
