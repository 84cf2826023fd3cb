-- What the search tells, of the transactions that the queue holds.
use Rattle.std.proofs.Common.{◌≡◌, ◌∙◌, ◌≤◌, false, true, length, is_ok, OnOk, IfErr, refl, sym, ap, subst}
use Rattle.std.specs.List.{insert as with_inserted}
use Rattle.std.specs.List.Sorted.{IsSearchInRange}
use Rattle.std.specs.Ordering.{is_lt}
use Rattle.std.specs.declared.cmp.Ordering.{Ordering}
use Rattle.std.specs.declared.cmp.Ordering.TheVariants.{Less, Equal, Greater}
use Rattle.std.proofs.lemmas.Bool.{both_ways}
use Rattle.clv_base.specs.Orders.{tx_cmp, tx_in, tx_insert}
use Rattle.tx_table.specs.Held.{Candidates}
use Rattle.law_base.proofs.Rising.{search_there, search_ok, search_err}
use Rattle.law_base.proofs.Sets.{tx_total}
use Rattle.tx_table.proofs.Keeping.{not_there, placed_last}
use Rattle.tx_table.proofs.candidates.Candidates.find.Goals as goal

less_by : (o : Ordering) → is_lt o ≡ true → o ≡ Less
less_by Less e = refl
less_by Equal e = absurd (both_ways false refl e)
less_by Greater e = absurd (both_ways false refl e)

pub returns-then-is_lt-clause-there : goal.returns-then-is_lt-clause-there
returns-then-is_lt-clause-there c =
    let q = c.self.inside.txs in let tx = c.args.tx in let last = c.in-Some.last.now in let e = c.in-Some.ensures {u = tt} in
    let below = less_by (tx_cmp last tx) (sym (c.is_lt.ensures ∙ ap is_lt c.cmp.ensures) ∙ c.if-is_lt.true) in
    subst (λ (v : Candidates). false ≡ tx_in tx v.txs) c.self.view_is (not_there tx last q.items q.len q.ok.0 c.self.invariant.0 (e.variant.0 refl) e.lookup below)

pub returns-then-is_lt-clause-err : goal.returns-then-is_lt-clause-err
returns-then-is_lt-clause-err c =
    let q = c.self.inside.txs in let tx = c.args.tx in let last = c.in-Some.last.now in let e = c.in-Some.ensures {u = tt} in
    let below = less_by (tx_cmp last tx) (sym (c.is_lt.ensures ∙ ap is_lt c.cmp.ensures) ∙ c.if-is_lt.true) in
    let placed = placed_last tx last q.items q.len q.ok.0 c.self.invariant.0 (e.variant.0 refl) e.lookup below in
    subst (λ (v : Candidates). (c.len.result ≤ length v.txs) × (with_inserted v.txs c.len.result tx ≡ tx_insert tx v.txs)) c.self.view_is
    (subst (λ n. (n ≤ length q.items) × (with_inserted q.items n tx ≡ tx_insert tx q.items)) (sym c.len.ensures) placed)

pub returns-clause-there : goal.returns-clause-there
returns-clause-there c =
    let q = c.self.inside.txs in let r = c.binary_search.result in
    let bound = subst (λ n. IsSearchInRange r n) q.ok.0 c.binary_search.ensures.bound in
    subst (λ (v : Candidates). is_ok r ≡ tx_in c.args.tx v.txs) c.self.view_is (search_there tx_total c.args.tx q.items r c.self.invariant.0 bound c.binary_search.ensures.position)

pub returns-clause-ok : goal.returns-clause-ok
returns-clause-ok c =
    let q = c.self.inside.txs in let r = c.binary_search.result in
    let bound = subst (λ n. IsSearchInRange r n) q.ok.0 c.binary_search.ensures.bound in
    subst (λ (v : Candidates). OnOk r (tx_insert c.args.tx v.txs ≡ v.txs)) c.self.view_is (search_ok tx_total c.args.tx q.items r c.self.invariant.0 bound c.binary_search.ensures.position)

pub returns-clause-err : goal.returns-clause-err
returns-clause-err c =
    let q = c.self.inside.txs in let r = c.binary_search.result in
    let bound = subst (λ n. IsSearchInRange r n) q.ok.0 c.binary_search.ensures.bound in
    subst (λ (v : Candidates). IfErr r (λ i. (i ≤ length v.txs) × (with_inserted v.txs i c.args.tx ≡ tx_insert c.args.tx v.txs))) c.self.view_is (search_err tx_total c.args.tx q.items r c.self.invariant.0 bound c.binary_search.ensures.position)
