-- The ABORTs of a set, one after another.
use Rattle.std.proofs.Common.{◌≡◌, ℕ, suc, ◌+◌, ◌<◌, ◌≤◌, Bool, true, false, cond, List, [], ◌∷◌, ◌++◌, map, length, get_or, drop, drop-cons, refl, sym, ap, ◌∙◌, append_assoc, length-append, arith}
use Rattle.std.specs.List.{filter, list_any}
use Rattle.clv_base.specs.declared.names.TxId.{TxId}
use Rattle.clv_base.specs.declared.logs.LogRecord.{LogRecord}
use Rattle.clv_base.specs.declared.logs.LogRecord.TheVariants.{Abort}
use Rattle.clv_base.specs.Orders.{tx_same}
use Rattle.clv_base.specs.Logs.{standing, has_standing}
use Rattle.clv_base.specs.Undo.{aborts_of}

aborts_of-cons : (log : List LogRecord) (x : TxId) (xs : List TxId) → aborts_of log (x ∷ xs) ≡ aborts_of log (x ∷ []) ++ aborts_of log xs
aborts_of-cons log x xs = at (has_standing log x)
  where
    at : (b : Bool) → map (λ t. Abort t) (cond b (x ∷ filter (has_standing log) xs) (filter (has_standing log) xs)) ≡ map (λ t. Abort t) (cond b (x ∷ []) []) ++ aborts_of log xs
    at true = refl
    at false = refl

module _ (first : List LogRecord) (set : List TxId) (i : ℕ) (d : TxId) (l : i < length set) (log : List LogRecord)
    (stays : standing log ≡ standing first) (so_far : log ++ aborts_of first (drop i set) ≡ first ++ aborts_of first set) where
  abbrev next : List LogRecord
  next = aborts_of log (get_or set i d ∷ [])

  same : next ≡ aborts_of first (get_or set i d ∷ [])
  same = ap (λ b. map (λ t. Abort t) (cond b (get_or set i d ∷ []) [])) (ap (λ ws. list_any (λ w. tx_same (get_or set i d) w.tx) ws) stays)

  parted : aborts_of first (drop i set) ≡ next ++ aborts_of first (drop (i + 1) set)
  parted =
      let e : suc i ≡ i + 1 = omega arith in
      ap (aborts_of first) (drop-cons set i d l)
      ∙ aborts_of-cons first (get_or set i d) (drop (suc i) set)
      ∙ ap (λ n. aborts_of first (get_or set i d ∷ []) ++ aborts_of first (drop n set)) e
      ∙ ap (λ r. r ++ aborts_of first (drop (i + 1) set)) (sym same)

  pub next_fits : (room_first room : ℕ) → length (aborts_of first set) ≤ room_first → room_first + length first ≤ room + length log → length next ≤ room
  next_fits room_first room most some =
      let whole = ap length so_far in
      let left = length-append log (aborts_of first (drop i set)) in
      let right = length-append first (aborts_of first set) in
      let parts = ap length parted ∙ length-append next (aborts_of first (drop (i + 1) set)) in
      omega arith

  pub log_more : (after : List LogRecord) → after ≡ log ++ next → after ++ aborts_of first (drop (i + 1) set) ≡ first ++ aborts_of first set
  log_more after e =
      ap (λ a. a ++ aborts_of first (drop (i + 1) set)) e ∙ append_assoc log next (aborts_of first (drop (i + 1) set)) ∙ ap (λ a. log ++ a) (sym parted) ∙ so_far

  pub room_more : (after : List LogRecord) (room_first room left : ℕ) → after ≡ log ++ next → room_first + length first ≤ room + length log → room ≤ left + length next → room_first + length first ≤ left + length after
  room_more after room_first room left e some less = let grown = ap length e ∙ length-append log next in omega arith
