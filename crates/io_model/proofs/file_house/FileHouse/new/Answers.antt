use Rattle.std.proofs.Common.{◌≡◌, ℕ, zero, suc, false, get_or, replicate, refl}
use Rattle.io_model.specs.Sides.{is_out_by}
use Rattle.io_model.proofs.file_house.FileHouse.new.Goals as goal

all_same : {X : Type 0} (x : X) (n i : ℕ) → get_or (replicate n x) i x ≡ x
all_same x zero i = refl
all_same x (suc n) zero = refl
all_same x (suc n) (suc i) = all_same x n i

none_out : (n shard side : ℕ) → is_out_by (get_or (replicate n false) shard false) (get_or (replicate n false) shard false) side ≡ false
none_out n shard zero = all_same false n shard
none_out n shard (suc k) = all_same false n shard

pub returns-clause-in_place : goal.returns-clause-in_place
returns-clause-in_place g c = λ shard side. none_out 16 shard side

pub returns-clause-no_faults : goal.returns-clause-no_faults
returns-clause-no_faults g c = λ shard. all_same 0 16 shard
