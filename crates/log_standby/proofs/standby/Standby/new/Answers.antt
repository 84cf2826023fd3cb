use Rattle.std.proofs.Common.{◌≡◌, ℕ, List, [], length, sym, ap, ◌∙◌, arith}
use Rattle.std.proofs.lemmas.List.{length-map, length-replicate}
use Rattle.std.specs.Prelude.{replicate}
use Rattle.clv_base.specs.declared.logs.LogRecord.{LogRecord}
use Rattle.clv_base.specs.Shards.{shard_count}
use Rattle.log_standby.specs.Feeding.{nothing_fed}
use Rattle.log_standby.proofs.Placed.{fed_of, lists_of, spelled_none}
use Rattle.log_standby.proofs.standby.Standby.new.Goals as goal

pub invariant_of-result : goal.invariant_of-result
invariant_of-result c =
    let l = c.loop in (
      sym (length-map l.logs.items (λ v. v.items)) ∙ ap (λ (ls : List (List LogRecord)). length ls) l.invariant.0 ∙ length-replicate l.counter [] ∙ sym (ap (λ (ts : List (List ℕ)). length ts) l.invariant.1 ∙ length-replicate l.counter []),
      spelled_none l.counter (lists_of l.logs.items) l.invariant.0,
    )

pub returns : goal.returns
returns c =
    let all : c.loop.counter ≡ shard_count c.args.splits.now =
    (let out = c.loop-test.false in let most = c.loop.auto.counter-end in let shards = c.shards-end.ensures.shards in omega (arith, out, most, shards)) in
    ap (λ (l : List (List LogRecord)). fed_of l c.loop.streams.items) c.loop.invariant.0 ∙ ap (λ (t : List (List ℕ)). fed_of (replicate c.loop.counter []) t) c.loop.invariant.1 ∙ ap nothing_fed all
