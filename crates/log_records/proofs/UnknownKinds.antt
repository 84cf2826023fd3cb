-- Bytes that stand for no kind of record.
use Rattle.std.proofs.Common.{◌≡◌, ◌≢◌, ℕ, zero, suc, List, None, refl}
use Rattle.log_records.specs.Reading.{fields_at}
use Rattle.log_records.specs.FileReading.{part_fields_at}

pub unknown_kind : (kind : ℕ) (bytes : List ℕ) → kind ≢ 1 → kind ≢ 2 → kind ≢ 3 → kind ≢ 4 → kind ≢ 5 → kind ≢ 6 → kind ≢ 7 → kind ≢ 8 → kind ≢ 9 → fields_at kind bytes ≡ None
unfolding fields_at
unknown_kind zero bytes a b c d e f g h i = refl
unknown_kind (suc zero) bytes a b c d e f g h i = absurd (a refl)
unknown_kind (suc (suc zero)) bytes a b c d e f g h i = absurd (b refl)
unknown_kind (suc (suc (suc zero))) bytes a b c d e f g h i = absurd (c refl)
unknown_kind (suc (suc (suc (suc zero)))) bytes a b c d e f g h i = absurd (d refl)
unknown_kind (suc (suc (suc (suc (suc zero))))) bytes a b c d e f g h i = absurd (e refl)
unknown_kind (suc (suc (suc (suc (suc (suc zero)))))) bytes a b c d e f g h i = absurd (f refl)
unknown_kind (suc (suc (suc (suc (suc (suc (suc zero))))))) bytes a b c d e f g h i = absurd (g refl)
unknown_kind (suc (suc (suc (suc (suc (suc (suc (suc zero)))))))) bytes a b c d e f g h i = absurd (h refl)
unknown_kind (suc (suc (suc (suc (suc (suc (suc (suc (suc zero))))))))) bytes a b c d e f g h i = absurd (i refl)
unknown_kind (suc (suc (suc (suc (suc (suc (suc (suc (suc (suc k)))))))))) bytes a b c d e f g h i = refl

pub unknown_part : (kind : ℕ) (bytes : List ℕ) → kind ≢ 0 → kind ≢ 1 → kind ≢ 2 → kind ≢ 3 → part_fields_at kind bytes ≡ None
unfolding part_fields_at
unknown_part zero bytes a b c d = absurd (a refl)
unknown_part (suc zero) bytes a b c d = absurd (b refl)
unknown_part (suc (suc zero)) bytes a b c d = absurd (c refl)
unknown_part (suc (suc (suc zero))) bytes a b c d = absurd (d refl)
unknown_part (suc (suc (suc (suc k)))) bytes a b c d = refl
