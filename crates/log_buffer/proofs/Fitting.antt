-- What fits a batch of a log's records is what the protocol says.
use Rattle.std.proofs.Common.{◌≡◌, ◌∙◌, ℕ, suc, ◌+◌, ◌-◌, ◌<◌, ◌≤◌, true, false, nat_lt, List, [], ◌∷◌, ◌++◌, length, take, drop, get_or, drop-cons, add-one, refl, ap, arith}
use Rattle.std.proofs.Math.Seq.{take-suc}
use Rattle.std.proofs.lemmas.Bool.Decides.{nat_tests}
use Rattle.clv_base.specs.declared.logs.LogRecord.{LogRecord}
use Rattle.clv_base.specs.Logs.{record_size, fitting}
use Rattle.log_buffer.specs.Buffers.{fitting_by, sizes}

pub fitting_by-fitting : (room : ℕ) (rs : List LogRecord) → fitting_by record_size room rs ≡ fitting room rs
fitting_by-fitting room [] = refl
fitting_by-fitting room (r ∷ rs) = ap (λ n. elim (nat_lt room (record_size r)) [ true ↦ 0 | false ↦ suc n ]) (fitting_by-fitting (room - record_size r) rs)

-- ---- record by record

sizes_one : {R : Type 0} (size : R → ℕ) (rs : List R) (r : R) → sizes size (rs ++ r ∷ []) ≡ sizes size rs + size r
sizes_one size [] r = omega arith
sizes_one size (x ∷ xs) r = let more = sizes_one size xs r in omega (arith, more)

pub sizes_next : {R : Type 0} (size : R → ℕ) (rs : List R) (i : ℕ) (d : R) → i < length rs → sizes size (take (i + 1) rs) ≡ sizes size (take i rs) + size (get_or rs i d)
sizes_next size rs i d h = rw (add-one, take-suc rs i d h) (sizes_one size (take i rs) (get_or rs i d))

pub fitting_next : {R : Type 0} (size : R → ℕ) (room : ℕ) (rs : List R) (i : ℕ) (d : R) → i < length rs → size (get_or rs i d) ≤ room
    → fitting_by size room (drop i rs) ≡ fitting_by size (room - size (get_or rs i d)) (drop (i + 1) rs) + 1
fitting_next size room rs i d h fits =
    let cut : drop i rs ≡ get_or rs i d ∷ drop (i + 1) rs = rw (add-one, drop-cons rs i d) refl in
    let no : nat_lt room (size (get_or rs i d)) ≡ false = grind (arith, nat_tests, fits) in
    ap (fitting_by size room) cut ∙ ap (λ b. elim b [ true ↦ 0 | false ↦ suc (fitting_by size (room - size (get_or rs i d)) (drop (i + 1) rs)) ]) no ∙ omega arith
