-- Bytes that stand for no kind of record.
use Rattle.std.proofs.Common.{◌≡◌, ◌≢◌, ℕ, zero, suc, List, Err, refl}
use Rattle.record_stream.specs.declared.stop.Stop.TheVariants.{Bad}
use Rattle.record_stream.specs.Scanning.{fields_at}

pub unknown_kind : (kind : ℕ) (bytes : List ℕ) → kind ≢ 1 → kind ≢ 2 → kind ≢ 3 → kind ≢ 4 → kind ≢ 5 → kind ≢ 6 → kind ≢ 7 → kind ≢ 8 → kind ≢ 9 → fields_at kind bytes ≡ Err Bad
unfolding fields_at
unknown_kind zero bytes a b c d e f g h i = refl
unknown_kind (suc zero) bytes a b c d e f g h i = absurd (a refl)
unknown_kind (suc (suc zero)) bytes a b c d e f g h i = absurd (b refl)
unknown_kind (suc (suc (suc zero))) bytes a b c d e f g h i = absurd (c refl)
unknown_kind (suc (suc (suc (suc zero)))) bytes a b c d e f g h i = absurd (d refl)
unknown_kind (suc (suc (suc (suc (suc zero))))) bytes a b c d e f g h i = absurd (e refl)
unknown_kind (suc (suc (suc (suc (suc (suc zero)))))) bytes a b c d e f g h i = absurd (f refl)
unknown_kind (suc (suc (suc (suc (suc (suc (suc zero))))))) bytes a b c d e f g h i = absurd (g refl)
unknown_kind (suc (suc (suc (suc (suc (suc (suc (suc zero)))))))) bytes a b c d e f g h i = absurd (h refl)
unknown_kind (suc (suc (suc (suc (suc (suc (suc (suc (suc zero))))))))) bytes a b c d e f g h i = absurd (i refl)
unknown_kind (suc (suc (suc (suc (suc (suc (suc (suc (suc (suc k)))))))))) bytes a b c d e f g h i = refl
