-- Lists that a loop reads, element by element.
use Rattle.std.proofs.Common.{◌≡◌, ℕ, zero, suc, ◌+◌, ◌-◌, ◌<◌, ◌≤◌, List, Ok, Err, refl, sym, ap, ◌∙◌, arith}
use Rattle.clv_base.specs.declared.names.TxId.{TxId}
use Rattle.record_stream.specs.declared.stop.Stop.{Stop}
use Rattle.record_stream.specs.Scanning.{Skip, number_at, names_from, shards_from}

pub shard_goes_on : (more least : ℕ) (rest after : List ℕ) (shard : ℕ) (total : Skip) → 0 < more → number_at 4 least (15 - (more - 1)) rest ≡ Ok (shard, after)
    → shards_from more least rest ≡ total → shards_from (more - 1) (shard + 1) after ≡ total
unfolding shards_from
shard_goes_on zero least rest after shard total lt read so_far = absurd (omega arith)
shard_goes_on (suc more) least rest after shard total lt read so_far =
    let one : suc more - 1 ≡ more = omega arith in
    let here : number_at 4 least (15 - more) rest ≡ Ok (shard, after) = ap (λ (k : ℕ). number_at 4 least (15 - k) rest) (sym one) ∙ read in
    let left : shards_from (suc more) least rest ≡ shards_from more (shard + 1) after = rw here refl in
    ap (λ (k : ℕ). shards_from k (shard + 1) after) one ∙ sym left ∙ so_far

pub shard_stops : (more least : ℕ) (rest : List ℕ) (e : Stop) (total : Skip) → 0 < more → number_at 4 least (15 - (more - 1)) rest ≡ Err e
    → shards_from more least rest ≡ total → total ≡ Err e
unfolding shards_from
shard_stops zero least rest e total lt read so_far = absurd (omega arith)
shard_stops (suc more) least rest e total lt read so_far =
    let one : suc more - 1 ≡ more = omega arith in
    let here : number_at 4 least (15 - more) rest ≡ Err e = ap (λ (k : ℕ). number_at 4 least (15 - k) rest) (sym one) ∙ read in
    let left : shards_from (suc more) least rest ≡ Err e = rw here refl in
    sym so_far ∙ left

pub shards_done : (more least : ℕ) (rest : List ℕ) (total : Skip) → more ≤ 0 → shards_from more least rest ≡ total → total ≡ Ok (tt, rest)
unfolding shards_from
shards_done zero least rest total le so_far = sym so_far
shards_done (suc more) least rest total le so_far = absurd (omega arith)

pub names_done : (more : ℕ) (least : TxId) (rest : List ℕ) (total : Skip) → more ≤ 0 → names_from more least rest ≡ total → total ≡ Ok (tt, rest)
unfolding names_from
names_done zero least rest total le so_far = sym so_far
names_done (suc more) least rest total le so_far = absurd (omega arith)
