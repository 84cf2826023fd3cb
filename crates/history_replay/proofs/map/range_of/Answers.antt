use Rattle.std.proofs.Common.{◌≡◌, ◌∙◌, ℕ, List, IfOk, length, ap, subst, rules}
use Rattle.std.specs.Ordering.{nat_cmp}
use Rattle.std.specs.BTreeMap.Range.{entries_between}
use Rattle.std.specs.declared.ops.Bound.TheVariants.{Included}
use Rattle.std.specs.Map.Iter.{TakesFirst, deref_pair}
use Rattle.std.proofs.lemmas.Iterator.{YieldsList-from_map, items_from_collect}
use Rattle.std.proofs.lemmas.Iterator.Consumers.{YieldsList-at, YieldsList-from_shown}
use Rattle.clv_base.specs.declared.values.Value.{Value as ValueType}
use Rattle.history_replay.proofs.Trees.{each_same}
use Rattle.history_replay.proofs.map.range_of.Goals as goal

pub returns : goal.returns
returns c =
    let entries : List (ℕ × ValueType) = entries_between nat_cmp (Included c.args.low) (Included c.args.high) c.args.pairs.now.entries in
    let between : c.range.result ≡ entries = search rules in
    subst (λ (l : List (ℕ × ValueType)). IfOk c.collect.result (λ found. found.items ≡ l)) (each_same entries)
    (items_from_collect c.collect.result c.collect.ensures.ran
    (YieldsList-from_map _ (λ (x : ℕ × ValueType). x)
    (YieldsList-at (c.map.ensures.source ∙ between) (YieldsList-from_shown (TakesFirst (deref_pair {K = ℕ} {X = ValueType})) (deref_pair {K = ℕ} {X = ValueType}) (λ s. s) (λ s t k. ap length k.0) (λ s x t k. k) entries))
    c.map.ensures.closure (λ x r q k. search rules)))
