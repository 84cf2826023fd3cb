-- What is owed to transactions, added up one by one.
use Rattle.std.proofs.Common.{◌≡◌, ℕ, zero, suc, ◌+◌, ◌-◌, ◌<◌, ◌≤◌, ⊎_elim, min, Bool, true, false, ◌||◌, List, [], ◌∷◌, length, take, get_or, Option, Some, None, refl, sym, ap, ◌∙◌, arith}
use Rattle.std.proofs.Math.Nat.{min-eq_left, min-eq_right}
use Rattle.std.proofs.lemmas.Bool.{both_ways, cases_lt}
use Rattle.std.specs.List.{filter}
use Rattle.std.specs.List.Sorted.{IsStrictlySortedBy}
use Rattle.std.specs.Map.{keys_of}
use Rattle.clv_base.specs.declared.names.TxId.{TxId}
use Rattle.clv_base.specs.declared.logs.LogRecord.{LogRecord}
use Rattle.clv_base.specs.declared.state.Held.{Held}
use Rattle.clv_base.specs.Logs.{StandingUpdate, has_standing, standing, writers}
use Rattle.clv_base.specs.Orders.{tx_cmp, tx_same, tx_in, tx_get}
use Rattle.clv_base.specs.State.{Local, is_present}
use Rattle.clv_base.proofs.SameNames.{tx_true}
use Rattle.tx_table.specs.Parts.{is_here as here_by, parts_here}
use Rattle.tx_table.specs.Index.{passes}
use Rattle.tx_table.proofs.Laws.{index_has}
use Rattle.txn_core.specs.Sound.{is_here, writers_by, writes_by, owed_by, IsSound}
use Rattle.txn_core.proofs.Counting.{count-first, count-fewer, one_more, one_new, in_set}
use Rattle.txn_core.proofs.Owing.{count_owed_fewer}
use Rattle.txn_core.proofs.Writers.{writers_in}
use Rattle.law_base.proofs.Numbers.{one_if}
use Rattle.law_base.proofs.Sets.{same_flip, writers_rise}
use Rattle.law_base.proofs.Standing.{count_writes, has_write}
use Rattle.law_base.proofs.Names.{above_not_in}

-- what is owed to one
abbrev pub owed_of : List LogRecord → TxId → ℕ
owed_of log t = count_writes t (standing log) + one_if (has_standing log t)

-- to each of these
abbrev pub total_of : List LogRecord → List TxId → ℕ
total_of log [] = 0
total_of log (t ∷ ts) = owed_of log t + total_of log ts

pub total_next : (log : List LogRecord) (ts : List TxId) (i : ℕ) (d : TxId) → i < length ts → total_of log (take (suc i) ts) ≡ total_of log (take i ts) + owed_of log (get_or ts i d)
total_next log [] i d h = absurd (omega arith)
total_next log (t ∷ ts) zero d h = omega arith
total_next log (t ∷ ts) (suc i) d h = let more = total_next log ts i d (omega (arith, h)) in omega (arith, more)

pub total_front : (log : List LogRecord) (ts : List TxId) (i : ℕ) → total_of log (take i ts) ≤ total_of log ts
total_front log [] zero = omega arith
total_front log [] (suc i) = omega arith
total_front log (t ∷ ts) zero = omega arith
total_front log (t ∷ ts) (suc i) = let more = total_front log ts i in omega (arith, more)

-- one that isn't among the others counts for itself, by its writes
one_apart : (t : TxId) (ts : List TxId) (ws : List StandingUpdate) → tx_in t ts ≡ false → writes_by (in_set (t ∷ ts)) ws ≡ count_writes t ws + writes_by (in_set ts) ws
one_apart t ts [] out = refl
one_apart t ts (w ∷ ws) out =
    let a = count-first (λ (v : StandingUpdate). in_set (t ∷ ts) v.tx) w ws in let b = count-first (λ (v : StandingUpdate). tx_same t v.tx) w ws in
    let c = count-first (λ (v : StandingUpdate). in_set ts v.tx) w ws in let more = one_apart t ts ws out in
    let one = at (tx_same t w.tx) (tx_in w.tx ts) (λ e. ap (λ x. tx_in x ts) (sym (tx_true t w.tx e)) ∙ out) in omega (arith, a, b, c, more, one)
  where
    at : (a b : Bool) → (a ≡ true → b ≡ false) → one_if (a || b) ≡ one_if a + one_if b
    at true true h = absurd (both_ways true (h refl) refl)
    at true false h = omega arith
    at false true h = omega arith
    at false false h = omega arith

-- and as a writer
one_writes : (t : TxId) (ts : List TxId) (ws : List StandingUpdate) → tx_in t ts ≡ false → writers_by (in_set (t ∷ ts)) ws ≡ one_if (has_write ws t) + writers_by (in_set ts) ws
one_writes t ts ws out =
    let turned = λ (x : TxId). ap (λ b. b || in_set ts x) (same_flip t x) in
    let a = count-fewer (in_set (t ∷ ts)) (λ x. tx_same x t || in_set ts x) (writers ws) (λ x h. sym (turned x) ∙ h) in
    let b = count-fewer (λ x. tx_same x t || in_set ts x) (in_set (t ∷ ts)) (writers ws) (λ x h. turned x ∙ h) in
    let most = one_more t (in_set ts) (writers ws) (writers_rise ws) in let least = one_new t (in_set ts) (writers ws) out in
    let own = ap one_if (writers_in ws t) in omega (arith, a, b, most, least, own)

none_pass : {A : Type 0} (f : A → Bool) → ((x : A) → f x ≡ false) → (xs : List A) → length (filter f xs) ≡ 0
none_pass f h [] = refl
none_pass f h (x ∷ xs) = let a = count-first f x xs in let b = ap one_if (h x) in let more = none_pass f h xs in omega (arith, a, b, more)

-- each of some that rise counts once
pub total_told : (log : List LogRecord) (ts : List TxId) → IsStrictlySortedBy tx_cmp ts → total_of log ts ≡ owed_by (in_set ts) log
unfolding IsStrictlySortedBy
total_told log [] s = let a = none_pass (λ (w : StandingUpdate). in_set [] w.tx) (λ w. refl) (standing log) in let b = none_pass (in_set []) (λ t. refl) (writers (standing log)) in omega (arith, a, b)
total_told log (t ∷ ts) s =
    let more = total_told log ts s.1 in let out = above_not_in t ts s.0 in let a = one_apart t ts (standing log) out in let b = one_writes t ts (standing log) out in omega (arith, more, a, b)

-- no more than is owed to all, at each step of the sum
pub total_fits : (log : List LogRecord) (ts : List TxId) (i : ℕ) → IsStrictlySortedBy tx_cmp ts → total_of log (take i ts) ≤ owed_by (in_set ts) log
total_fits log ts i s = let a = total_front log ts i in let b = total_told log ts s in omega (arith, a, b)

-- ---- those that are here

listed : (o : Option Held) → passes here_by o ≡ is_present (elim o [ Some h ↦ Some h.stage | None ↦ None ])
listed None = refl
listed (Some h) = refl

pub owed_here : (l : Local) → IsStrictlySortedBy tx_cmp (keys_of l.parts) → owed_by (in_set (parts_here l.parts)) l.log ≡ owed_by (is_here l) l.log
owed_here l s =
    let there : (t : TxId) → tx_in t (parts_here l.parts) ≡ is_here l t = λ t. index_has here_by l.parts s t ∙ listed (tx_get t l.parts) in
    let a = count_owed_fewer (in_set (parts_here l.parts)) (is_here l) l.log (λ t h. sym (there t) ∙ h) in
    let b = count_owed_fewer (is_here l) (in_set (parts_here l.parts)) l.log (λ t h. there t ∙ h) in omega (arith, a, b)

-- ---- what is kept

pub kept_room : (room undo count : ℕ) → undo ≤ room → min room (undo + min (room - undo) count) ≡ min room (count + undo)
kept_room room undo count h =
    ⊎_elim
    (λ less. ap (λ n. min room (undo + n)) (min-eq_right (omega (arith, h, less))) ∙ ap (min room) (omega arith))
    (λ more. ap (λ n. min room (undo + n)) (min-eq_left more) ∙ min-eq_left (omega (arith, h)) ∙ sym (min-eq_left (omega (arith, h, more))))
    (cases_lt count (room - undo))

pub still_sound : (l : Local) (spare left : ℕ) → IsSound l spare → owed_by (is_here l) l.log ≤ left → IsSound l left
still_sound l spare left sound room = record { successors = sound.successors; writes = sound.writes; room = room }
