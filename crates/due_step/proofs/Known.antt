-- Each that depends on another is in the table of parts.
use Rattle.std.proofs.Common.{◌≡◌, refl, subst, ◌∙◌, ⊎_elim, true, false, List, [], ◌∷◌, ◌++◌, map, length, length-append, arith}
use Rattle.std.proofs.lemmas.Bool.{both_ways, or_cases}
use Rattle.std.specs.List.{AllByRecursion}
use Rattle.std.specs.Map.{keys_of}
use Rattle.clv_base.specs.declared.names.TxId.{TxId}
use Rattle.clv_base.specs.Orders.{Table, tx_same, tx_in}
use Rattle.clv_base.proofs.SameNames.{or_left, tx_true}
use Rattle.protocol_laws.proofs.Laws.{in_append}
use Rattle.tx_table.specs.Held.{AreAmong}
use Rattle.due_step.specs.Noting.{known_keys, KnownHaveRoom}
use Rattle.due_step.proofs.Noted.{doomed_have_room}

firsts_among : (pairs : List (TxId × TxId)) (ks : List TxId) → AllByRecursion (λ (p : TxId × TxId). tx_in p.0 ks ≡ true) pairs → AreAmong (map (λ p. p.0) pairs) ks
firsts_among [] ks a x e = absurd (both_ways false refl e)
firsts_among (p ∷ ps) ks a x e = ⊎_elim (λ s. subst (λ z. tx_in z ks ≡ true) (tx_true p.0 x s) a.0) (λ i. firsts_among ps ks a.1 x i) (or_cases (tx_same p.0 x) (tx_in x (map (λ q. q.0) ps)) e)

pub keys_length : {V : Type 0} (rs : Table V) → length (keys_of rs) ≡ length rs
keys_length [] = refl
keys_length (r ∷ rs) = let h = keys_length rs in omega (arith, h)

pub known_have_room : KnownHaveRoom
known_have_room s tx c d held own few =
    let ps = keys_of s.local.parts in let vs = keys_of s.voters in let qs = keys_of s.requests in
    let a = length-append ps (vs ++ qs) in let b = length-append vs qs in
    let lp = keys_length s.local.parts in let lv = keys_length s.voters in let lq = keys_length s.requests in
    doomed_have_room s.local tx c (known_keys s) held own
    (λ x e. in_append x ps (vs ++ qs) ∙ or_left (tx_in x ps) (tx_in x (vs ++ qs)) (firsts_among s.local.pairs ps d x e))
    (omega (arith, a, b, lp, lv, lq, few))
