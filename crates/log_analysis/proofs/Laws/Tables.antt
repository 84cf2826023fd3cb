-- Tables of logs, one for each.
use Rattle.std.proofs.Common.{◌≡◌, ℕ, zero, suc, ◌+◌, ◌<◌, List, [], ◌∷◌, ◌++◌, map, take, drop, length, get_or, Vec, Global, refl, sym, ap, subst, ◌∙◌, arith}
use Rattle.std.proofs.lemmas.List.{take_more, drop_more, map-append}
use Rattle.clv_base.specs.declared.logs.LogRecord.{LogRecord}
use Rattle.clv_base.specs.Orders.{Table}
use Rattle.log_analysis.specs.declared.facts.TxFacts.{TxFacts}
use Rattle.log_analysis.specs.Facts.{Knows, KnowAll}

-- there are as many as logs
pub know_count : (ms : List (Table TxFacts)) (vs : List (Vec LogRecord Global)) → KnowAll ms (map (λ v. v.items) vs) → length ms ≡ length vs
know_count [] [] k = refl
know_count [] (v ∷ vs) k = absurd k
know_count (m ∷ ms) [] k = absurd k
know_count (m ∷ ms) (v ∷ vs) k = ap suc (know_count ms vs k.1)

-- each knows the log at its place
pub know_each : (ms : List (Table TxFacts)) (vs : List (Vec LogRecord Global)) (n : ℕ) (d : Table TxFacts) (e : Vec LogRecord Global) → KnowAll ms (map (λ v. v.items) vs) → n < length vs → Knows (get_or ms n d) (get_or vs n e).items
know_each [] [] n d e k l = absurd (omega arith)
know_each [] (v ∷ vs) n d e k l = absurd k
know_each (m ∷ ms) [] n d e k l = absurd k
know_each (m ∷ ms) (v ∷ vs) zero d e k l = k.0
know_each (m ∷ ms) (v ∷ vs) (suc n) d e k l = know_each ms vs n d e k.1 (omega arith)

-- so with one more at the end
pub know_push : (ms : List (Table TxFacts)) (logs : List (List LogRecord)) (m : Table TxFacts) (log : List LogRecord) → KnowAll ms logs → Knows m log → KnowAll (ms ++ m ∷ []) (logs ++ log ∷ [])
know_push [] [] m log k new = (new, tt)
know_push [] (l ∷ ls) m log k new = absurd k
know_push (x ∷ xs) [] m log k new = absurd k
know_push (x ∷ xs) (l ∷ ls) m log k new = (k.0, know_push xs ls m log k.1 new)

-- so with the next of a list
pub know_more : (ms : List (Table TxFacts)) (vs : List (Vec LogRecord Global)) (i : ℕ) (m : Table TxFacts) (v : Vec LogRecord Global) → i < length vs → v ≡ get_or vs i v → KnowAll ms (map (λ w. w.items) (take i vs)) → Knows m v.items
    → KnowAll (ms ++ m ∷ []) (map (λ w. w.items) (take (i + 1) vs))
know_more ms vs i m v lt is k new =
    let next : take (i + 1) vs ≡ take i vs ++ v ∷ [] = take_more vs i v lt ∙ ap (λ (w : Vec LogRecord Global). take i vs ++ w ∷ []) (sym is) in
    let more : map (λ w. w.items) (take (i + 1) vs) ≡ map (λ w. w.items) (take i vs) ++ v.items ∷ [] =
    ap (map (λ (w : Vec LogRecord Global). w.items)) next ∙ map-append (λ (w : Vec LogRecord Global). w.items) (take i vs) (v ∷ []) in
    subst (KnowAll (ms ++ m ∷ [])) (sym more) (know_push ms (map (λ w. w.items) (take i vs)) m v.items k new)

-- of what is left from a place on, the first knows the log at the place
pub know_left : (ms : List (Table TxFacts)) (vs : List (Vec LogRecord Global)) (k : ℕ) (e : Vec LogRecord Global) → k < length vs → KnowAll ms (map (λ w. w.items) (drop k vs)) → KnowAll ms ((get_or vs k e).items ∷ map (λ w. w.items) (drop (k + 1) vs))
know_left ms vs k e lt known = subst (λ (ws : List (Vec LogRecord Global)). KnowAll ms (map (λ w. w.items) ws)) (drop_more vs k e lt) known

pub know_some : (ms : List (Table TxFacts)) (log : List LogRecord) (logs : List (List LogRecord)) → KnowAll ms (log ∷ logs) → 0 < length ms
know_some [] log logs k = absurd k
know_some (m ∷ ms) log logs k = omega arith

pub know_first : (ms : List (Table TxFacts)) (m : Table TxFacts) (rest : List (Table TxFacts)) (log : List LogRecord) (logs : List (List LogRecord)) → m ≡ get_or ms 0 m → rest ≡ take 0 ms ++ drop (0 + 1) ms → KnowAll ms (log ∷ logs)
    → Knows m log × KnowAll rest logs
know_first [] m rest log logs first left k = absurd k
know_first (x ∷ xs) m rest log logs first left k =
    (subst (λ (t : Table TxFacts). Knows t log) (sym first) k.0, subst (λ (ts : List (Table TxFacts)). KnowAll ts logs) (sym left) k.1)
