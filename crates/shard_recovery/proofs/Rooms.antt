-- How many CLRs and UNADDs a restart writes: no more than writes of its losers stand, loser by loser.
use Rattle.std.proofs.Common.{◌≡◌, ℕ, ◌+◌, ◌<◌, ◌≤◌, Bool, true, false, cond, ◌||◌, List, [], ◌∷◌, length, drop, get_or, refl, ap, ◌∙◌, length-drop, arith}
use Rattle.std.proofs.Math.Bool.{or-false}
use Rattle.std.proofs.lemmas.List.{at_drop_more, nil_from_length}
use Rattle.std.specs.List.{filter}
use Rattle.clv_base.specs.declared.names.TxId.{TxId}
use Rattle.clv_base.specs.declared.logs.LogRecord.{LogRecord}
use Rattle.clv_base.specs.Orders.{tx_same, tx_in}
use Rattle.clv_base.specs.Logs.{StandingUpdate, standing}
use Rattle.cascade_undo.specs.Writes.{writes_of}
use Rattle.law_base.proofs.Numbers.{one_if}

count-first : {A : Type 0} (f : A → Bool) (x : A) (xs : List A) → length (filter f (x ∷ xs)) ≡ one_if (f x) + length (filter f xs)
count-first f x xs = at (f x)
  where
    at : (b : Bool) → length (cond b (x ∷ filter f xs) (filter f xs)) ≡ one_if b + length (filter f xs)
    at true = omega arith
    at false = omega arith

abbrev among : List TxId → StandingUpdate → Bool
among txs w = tx_in w.tx txs

none_of_nobody : (ws : List StandingUpdate) → writes_of [] ws ≡ []
none_of_nobody [] = refl
none_of_nobody (w ∷ ws) = none_of_nobody ws

-- the writes of one and of the others
first_and_others : (t : TxId) (ts : List TxId) (ws : List StandingUpdate)
    → length (writes_of (t ∷ ts) ws) ≤ length (writes_of (t ∷ []) ws) + length (writes_of ts ws)
first_and_others t ts [] = omega arith
first_and_others t ts (w ∷ ws) =
    let a = count-first (among (t ∷ ts)) w ws in let b = count-first (among (t ∷ [])) w ws in let c = count-first (among ts) w ws in
    let more = first_and_others t ts ws in let one = at (tx_same t w.tx) (tx_in w.tx ts) in omega (arith, a, b, c, more, one)
  where
    at : (a b : Bool) → one_if (a || b) ≤ one_if (a || false) + one_if b
    at true b = omega arith
    at false true = omega arith
    at false false = omega arith

one_of : (t : TxId) (ws : List StandingUpdate) → writes_of (t ∷ []) ws ≡ filter (λ w. tx_same t w.tx) ws
one_of t [] = refl
one_of t (w ∷ ws) =
    ap (λ b. cond b (w ∷ writes_of (t ∷ []) ws) (writes_of (t ∷ []) ws)) (or-false (tx_same t w.tx))
    ∙ ap (λ vs. cond (tx_same t w.tx) (w ∷ vs) vs) (one_of t ws)

-- the next transaction's writes, and the others' that are left
pub next_at_most : (txs : List TxId) (i n : ℕ) (d : TxId) (log : List LogRecord) → i < length txs
    → n ≡ length (filter (λ w. tx_same (get_or txs i d) w.tx) (standing log))
    → length (writes_of (drop i txs) (standing log)) ≤ n + length (writes_of (drop (i + 1) txs) (standing log))
next_at_most txs i n d log within told =
    let here = at_drop_more (λ ts. length (writes_of ts (standing log))) txs i d within in
    let apart = first_and_others (get_or txs i d) (drop (i + 1) txs) (standing log) in let one = ap length (one_of (get_or txs i d) (standing log)) in
    omega (arith, here, apart, one, told)

-- past the end none is left
pub none_left : (txs : List TxId) (i : ℕ) (log : List LogRecord) → length txs ≤ i → length (writes_of (drop i txs) (standing log)) ≡ 0
none_left txs i log past =
    let ended : drop i txs ≡ [] = nil_from_length (drop i txs) (simp length-drop (omega (arith, past))) in
    ap (λ ts. length (writes_of ts (standing log))) ended ∙ ap length (none_of_nobody (standing log))
