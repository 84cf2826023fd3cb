-- Rows of many requests that are spent: nothing misses them, and they can be put back.
use Rattle.std.proofs.Common.{◌≡◌, refl, sym, ap, subst, ◌∙◌, ℕ, ◌^◌, Bool, true, false, cond, not, nat_lt, [], ◌∷◌, Option, Some, None}
use Rattle.std.specs.List.{AllByRecursion}
use Rattle.std.specs.List.Sorted.{IsStrictlySortedBy}
use Rattle.std.specs.Map.{keys_of}
use Rattle.std.specs.declared.cmp.Ordering.{Ordering}
use Rattle.std.specs.declared.cmp.Ordering.TheVariants.{Less, Equal, Greater}
use Rattle.std.specs.Ordering.{match_ordering}
use Rattle.std.proofs.lemmas.Bool.{both_ways, false_from_ne_true}
use Rattle.clv_base.specs.declared.names.TxId.{TxId}
use Rattle.clv_base.specs.declared.state.Request.{Request}
use Rattle.clv_base.specs.declared.events.Event.{Event}
use Rattle.clv_base.specs.declared.events.Event.TheVariants.{FlushIn}
use Rattle.clv_base.specs.declared.events.Outcome.{Outcome}
use Rattle.clv_base.specs.declared.events.Outcome.TheVariants.{Down}
use Rattle.clv_base.specs.Orders.{Table, tx_cmp, tx_same, tx_get, tx_put, tx_drop}
use Rattle.clv_base.specs.State.{Shard}
use Rattle.clv_base.specs.Events.{Reply, QuietBeforeWorn, QuietAfterWorn, Does, with_entry, happen, landed, Quiet, Enters, next_stamp, stamped, step, land_up, land}
use Rattle.clv_base.proofs.SameNames.{tx_true, tx_eq, cmp_equal}
use Rattle.law_base.proofs.Sets.{Rise, AllAbove, above_more, less_not_same}
use Rattle.law_base.proofs.Names.{not_above}
use Rattle.ended_laws.specs.Requests.{without, forgetful, IsSpent}
use Rattle.ended_laws.specs.Recalled.{without_all, with_all, forgets_all, AreSpent, forgetting, SpentAreNotMissed}
use Rattle.ended_laws.proofs.Rows.{put_first}
use Rattle.ended_laws.proofs.Staying.{over_stays, leaves_same}
use Rattle.ended_laws.proofs.Spent.{nothing_misses_it, spent_stays_spent, flushes_miss_nothing, spent_go_alone}

-- ---- a row put back

none_goes : (tx : TxId) (rows : Table Request) → AllAbove tx (keys_of rows) → without tx rows ≡ rows
none_goes tx [] a = refl
none_goes tx (r ∷ rs) a = ap (λ b. cond (not b) (r ∷ without tx rs) (without tx rs)) apart ∙ ap (λ l. r ∷ l) (none_goes tx rs a.1)
  where
    apart : tx_same tx r.0 ≡ false
    apart = false_from_ne_true _ (λ i. both_ways _ (less_not_same tx r.0 a.0) (tx_eq r.0 tx (sym (tx_true tx r.0 i))))

same_value : {a b : Request} → Some a ≡ Some b → a ≡ b
same_value e = cc

none_some : {a : Request} → None ≡ Some a → ⊥
none_some e = absurd cc

pub put_back : (tx : TxId) (q : Request) (rows : Table Request) → Rise (keys_of rows) → tx_get tx rows ≡ Some q → tx_put tx q (without tx rows) ≡ rows
unfolding IsStrictlySortedBy
put_back tx q [] h e = absurd (none_some e)
put_back tx q (r ∷ rs) h e = at (tx_same tx r.0) refl e (put_back tx q rs h.1)
  where
    below : (c : Ordering) → tx_cmp tx r.0 ≡ c → tx_same tx r.0 ≡ false → tx_get tx rs ≡ Some q → tx_put tx q (without tx rs) ≡ rs → match_ordering c ((tx, q) ∷ r ∷ without tx rs) ((r.0, q) ∷ without tx rs) (r ∷ tx_put tx q (without tx rs)) ≡ r ∷ rs
    below Less o i g more = absurd (none_some (sym (not_above tx rs (above_more tx r.0 (keys_of rs) o h.0)) ∙ g))
    below Equal o i g more = absurd (both_ways _ i (tx_eq tx r.0 (cmp_equal tx r.0 o)))
    below Greater o i g more = ap (λ l. r ∷ l) more

    at : (b : Bool) → tx_same tx r.0 ≡ b → cond b (Some r.1) (tx_get tx rs) ≡ Some q → (tx_get tx rs ≡ Some q → tx_put tx q (without tx rs) ≡ rs) → tx_put tx q (cond (not b) (r ∷ without tx rs) (without tx rs)) ≡ r ∷ rs
    at true i f more =
        let same = tx_true tx r.0 i in let above : AllAbove tx (keys_of rs) = subst (λ z. AllAbove z (keys_of rs)) (sym same) h.0 in
        ap (tx_put tx q) (none_goes tx rs above) ∙ put_first tx q rs above ∙ ap (λ z. (z, q) ∷ rs) same ∙ ap (λ v. (r.0, v) ∷ rs) (sym (same_value f))
    at false i f more = below (tx_cmp tx r.0) refl i f (more f)

-- what a table drops of a transaction is its row, where the rows rise
pub drop_is_without : (tx : TxId) (rows : Table Request) → Rise (keys_of rows) → tx_drop tx rows ≡ without tx rows
unfolding IsStrictlySortedBy
drop_is_without tx [] h = refl
drop_is_without tx (r ∷ rs) h = at (tx_same tx r.0) refl (drop_is_without tx rs h.1)
  where
    at : (b : Bool) → tx_same tx r.0 ≡ b → tx_drop tx rs ≡ without tx rs → cond b rs (r ∷ tx_drop tx rs) ≡ cond (not b) (r ∷ without tx rs) (without tx rs)
    at true i more = sym (none_goes tx rs (subst (λ z. AllAbove z (keys_of rs)) (sym (tx_true tx r.0 i)) h.0))
    at false i more = ap (λ l. r ∷ l) more

-- ---- one of them where others are forgotten

pub spent_beside : (rows : Table Request) (s : Shard) (u : TxId) (q : Request) → AllByRecursion (λ x. tx_same x.0 u ≡ false) rows → IsSpent s u q → IsSpent (forgets_all rows s) u q
spent_beside [] s u q a p = p
spent_beside (r ∷ rs) s u q a p = spent_go_alone (forgets_all rs s) r.0 u q a.0 (spent_beside rs s u q a.1 p)

-- ---- replies

forgetting_reply : Table Request → Reply → Reply
forgetting_reply rows (QuietBeforeWorn o) = QuietBeforeWorn o
forgetting_reply rows (QuietAfterWorn o) = QuietAfterWorn o
forgetting_reply rows (Does o t) = Does o (forgets_all rows t)

one_more : (r : TxId × Request) (rs : Table Request) (x : Reply) → forgetful r.0 (forgetting_reply rs x) ≡ forgetting_reply (r ∷ rs) x
unfolding forgetting_reply
one_more r rs (QuietBeforeWorn o) = refl
one_more r rs (QuietAfterWorn o) = refl
one_more r rs (Does o t) = refl

same_reply : (x : Reply) → x ≡ forgetting_reply [] x
unfolding forgetting_reply
same_reply (QuietBeforeWorn o) = refl
same_reply (QuietAfterWorn o) = refl
same_reply (Does o t) = refl

happens : (rows : Table Request) (s : Shard) (e : Event) → AreSpent rows s → happen (forgets_all rows s) e ≡ forgetting_reply rows (happen s e)
happens [] s e a = same_reply (happen s e)
happens (r ∷ rs) s e a =
    nothing_misses_it (forgets_all rs s) r.0 r.1 e (spent_beside rs s r.0 r.1 a.1 a.0) ∙ ap (forgetful r.0) (happens rs s e a.2) ∙ one_more r rs (happen s e)

lands : (rows : Table Request) (s : Shard) (n : ℕ) (pushed : Bool) → AreSpent rows s → landed (forgets_all rows s) n pushed ≡ forgetting_reply rows (landed s n pushed)
lands [] s n pushed a = same_reply (landed s n pushed)
lands (r ∷ rs) s n pushed a =
    (flushes_miss_nothing (forgets_all rs s) r.0 r.1 n pushed (spent_beside rs s r.0 r.1 a.1 a.0)).0 ∙ ap (forgetful r.0) (lands rs s n pushed a.2) ∙ one_more r rs (landed s n pushed)

still_spent : (rows : Table Request) (s t : Shard) (e : Event) (o : Outcome) → AreSpent rows s → happen s e ≡ Does o t → AreSpent rows t
still_spent [] s t e o a h = tt
still_spent (r ∷ rs) s t e o a h = (spent_stays_spent s t r.0 r.1 e o a.0 h, a.1, still_spent rs s t e o a.2 h)

landed_spent : (rows : Table Request) (s t : Shard) (n : ℕ) (pushed : Bool) (o : Outcome) → AreSpent rows s → landed s n pushed ≡ Does o t → AreSpent rows t
landed_spent [] s t n pushed o a h = tt
landed_spent (r ∷ rs) s t n pushed o a h = ((flushes_miss_nothing s r.0 r.1 n pushed a.0).1 o t h, a.1, landed_spent rs s t n pushed o a.2 h)

-- ---- calls

stamped_same : (rows : Table Request) (stamp w : ℕ) (e : Event) (b : Bool) (x : Reply) → stamped stamp w e b (forgetting_reply rows x) ≡ forgetting rows (stamped stamp w e b x)
unfolding forgetting_reply
stamped_same rows stamp w e b (QuietBeforeWorn o) = refl
stamped_same rows stamp w e false (QuietAfterWorn o) = refl
stamped_same rows stamp w e true (QuietAfterWorn o) = refl
stamped_same rows stamp w e false (Does o t) = refl
stamped_same rows stamp w e true (Does o t) = refl

steps_same : (rows : Table Request) (s : Shard) (clock w : ℕ) (e : Event) → AreSpent rows s → step (forgets_all rows s) clock w e ≡ forgetting rows (step s clock w e)
steps_same rows s clock w e a =
    ap (stamped (next_stamp s clock e) w e (nat_lt (next_stamp s clock e) (2 ^ 48))) (happens rows s e a)
    ∙ stamped_same rows (next_stamp s clock e) w e (nat_lt (next_stamp s clock e) (2 ^ 48)) (happen s e)

lands_same : (rows : Table Request) (s : Shard) (clock w : ℕ) (pushed : Bool) → AreSpent rows s → land (forgets_all rows s) clock w pushed ≡ forgetting rows (land s clock w pushed)
lands_same rows s clock w pushed a = at s.is_up s.flight
  where
    at : (up : Bool) (f : Option ℕ) → elim up [ true ↦ land_up (forgets_all rows s) clock w pushed f | false ↦ Quiet Down ] ≡ forgetting rows (elim up [ true ↦ land_up s clock w pushed f | false ↦ Quiet Down ])
    at false f = refl
    at true None = refl
    at true (Some n) =
        ap (stamped (next_stamp s clock FlushIn) w FlushIn true) (lands rows s n pushed a) ∙ stamped_same rows (next_stamp s clock FlushIn) w FlushIn true (landed s n pushed)

-- what enters did so by its reply
record Done (stamp w : ℕ) (e : Event) (o : Outcome) (t : Shard) (x : Reply) : Type 0 where
  before : Shard
  reply : x ≡ Does o before
  is : with_entry stamp w e o before ≡ t

done_by : (stamp w : ℕ) (e : Event) (b : Bool) (x : Reply) (o : Outcome) (t : Shard) → stamped stamp w e b x ≡ Enters o t → Done stamp w e o t x
done_by stamp w e b (QuietBeforeWorn p) o t h = absurd cc
done_by stamp w e false (QuietAfterWorn p) o t h = absurd cc
done_by stamp w e true (QuietAfterWorn p) o t h = absurd cc
done_by stamp w e false (Does p u) o t h = absurd cc
done_by stamp w e true (Does p u) o t h = subst (λ z. Done stamp w e z t (Does p u)) (outcome h) (record { before = u; reply = refl; is = after h })
  where
    outcome : Enters p (with_entry stamp w e p u) ≡ Enters o t → p ≡ o
    outcome z = cc

    after : Enters p (with_entry stamp w e p u) ≡ Enters o t → with_entry stamp w e p u ≡ t
    after z = cc

-- an entry touches no row
entry_spent : (rows : Table Request) (stamp w : ℕ) (e : Event) (o : Outcome) (s : Shard) → AreSpent rows s → AreSpent rows (with_entry stamp w e o s)
entry_spent [] stamp w e o s a = tt
entry_spent (r ∷ rs) stamp w e o s a =
    let p = a.0 in
    (record { over = over_stays s (with_entry stamp w e o s) r.0 r.1 p.over refl p.over.rises refl (leaves_same r.0 s.local); finished = p.finished; by_log = p.by_log }, a.1, entry_spent rs stamp w e o s a.2)

-- ---- put back

rows_back : (rows : Table Request) (s : Shard) → AreSpent rows s → with_all rows (without_all rows s.requests) ≡ s.requests
rows_back [] s a = refl
rows_back (r ∷ rs) s a =
    let p = spent_beside rs s r.0 r.1 a.1 a.0 in ap (with_all rs) (put_back r.0 r.1 (without_all rs s.requests) p.over.rises p.over.kept) ∙ rows_back rs s a.2

pub spent_are_not_missed : SpentAreNotMissed
spent_are_not_missed rows s a = record {
  steps = λ clock w e. steps_same rows s clock w e a;
  spent = λ clock w e o t h.
      let d = done_by (next_stamp s clock e) w e (nat_lt (next_stamp s clock e) (2 ^ 48)) (happen s e) o t h in
      subst (AreSpent rows) d.is (entry_spent rows (next_stamp s clock e) w e o d.before (still_spent rows s d.before e o a d.reply));
  lands = λ clock w pushed. lands_same rows s clock w pushed a;
  landed = λ clock w pushed o t h. at clock w pushed o t s.is_up s.flight h;
  whole = ap (λ l. record s { requests = l }) (rows_back rows s a);
}
  where
    at : (clock w : ℕ) (pushed : Bool) (o : Outcome) (t : Shard) (up : Bool) (f : Option ℕ) → elim up [ true ↦ land_up s clock w pushed f | false ↦ Quiet Down ] ≡ Enters o t → AreSpent rows t
    at clock w pushed o t false f h = absurd cc
    at clock w pushed o t true None h = absurd cc
    at clock w pushed o t true (Some n) h =
        let d = done_by (next_stamp s clock FlushIn) w FlushIn true (landed s n pushed) o t h in
        subst (AreSpent rows) d.is (entry_spent rows (next_stamp s clock FlushIn) w FlushIn o d.before (landed_spent rows s d.before n pushed o a d.reply))
