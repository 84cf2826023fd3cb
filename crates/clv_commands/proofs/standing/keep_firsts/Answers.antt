use Rattle.std.proofs.Common.{◌≡◌, ◌∙◌, ap, sym, subst, ℕ, suc, ◌+◌, ◌<◌, List, [], map, length, get_or, set, arith}
use Rattle.std.proofs.lemmas.List.{map-set, get_or-map, length-map}
use Rattle.std.specs.Prelude.{slice_get}
use Rattle.clv_base.specs.declared.logs.LogRecord.{LogRecord}
use Rattle.clv_commands.specs.Standing.{kept_of}
use Rattle.clv_commands.proofs.Standbys.{firsts_until, as_many, one_more, all_done}
use Rattle.clv_commands.proofs.standing.keep_firsts.Goals as goal

pub loop-shard-preserved : goal.loop-shard-preserved
loop-shard-preserved c =
    let l = c.loop-shard in let k = l.shard in let ns = c.args.counts.now in let found = c.args.logs.now in let logs = map (λ v. v.items) found.items in
    let before = firsts_until k 0 ns logs in
    let all : length logs ≡ c.len-shard-end.result = length-map found.items (λ v. v.items) ∙ sym found.ok.0 ∙ sym c.len-shard-end.ensures in
    let low : k < length logs = subst (λ (n : ℕ). k < n) (sym all) c.loop-shard-test.true in
    let many : length l.logs.items ≡ length logs = sym (length-map l.logs.items (λ v. v.items)) ∙ ap (λ (ls : List (List LogRecord)). length ls) l.invariant ∙ as_many k 0 ns logs in
    let old : c.index_mut.result.now.items ≡ get_or before k [] =
    ap (λ v. v.items) c.index_mut.ensures.value
    ∙ sym (get_or-map (λ v. v.items) l.logs.items k c.index_mut.result.now [] (subst (λ (n : ℕ). k < n) (sym many) low))
    ∙ ap (λ (ls : List (List LogRecord)). get_or ls k []) l.invariant in
    let zero : k ≡ 0 + k = omega arith in
    let new : c.keep.new.log.items ≡ kept_of (slice_get ns (0 + k)) (get_or before k []) =
    c.keep.ensures ∙ ap (λ o. kept_of o c.index_mut.result.now.items) (c.of.ensures ∙ ap (slice_get ns) zero) ∙ ap (kept_of (slice_get ns (0 + k))) old in
    let next : suc k ≡ k + 1 = omega arith in
    map-set (λ v. v.items) l.logs.items k c.keep.new.log
    ∙ ap (λ (ls : List (List LogRecord)). set ls k c.keep.new.log.items) l.invariant
    ∙ ap (λ (x : List LogRecord). set before k x) new
    ∙ one_more k 0 ns logs low
    ∙ ap (λ (n : ℕ). firsts_until n 0 ns logs) next

pub returns : goal.returns
returns c =
    let l = c.loop-shard in let ns = c.args.counts.now in let found = c.args.logs.now in let logs = map (λ v. v.items) found.items in
    let all : length logs ≡ c.len-shard-end.result = length-map found.items (λ v. v.items) ∙ sym found.ok.0 ∙ sym c.len-shard-end.ensures in
    let high = c.loop-shard-test.false in let low = l.auto.shard-end in
    let same : l.shard ≡ length logs = omega arith in
    l.invariant ∙ ap (λ (n : ℕ). firsts_until n 0 ns logs) same ∙ all_done 0 ns logs
