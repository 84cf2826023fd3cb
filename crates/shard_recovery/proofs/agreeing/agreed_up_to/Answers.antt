use Rattle.std.proofs.Common.{◌≡◌, ◌-◌, suc, drop, take, length, sym, ◌∙◌, ap, arith}
use Rattle.std.proofs.lemmas.List.{take_all, length-drop}
use Rattle.std.specs.List.{common_prefix_len}
use Rattle.clv_base.specs.LogRules.{same_record as same}
use Rattle.clv_base.specs.Restarts.{restarts_up}
use Rattle.shard_recovery.proofs.Prefixes.{agree_short, agree_long}
use Rattle.shard_recovery.proofs.agreeing.agreed_up_to.Goals as goal

pub returns-then-front-undone : goal.returns-then-front-undone
returns-then-front-undone c =
    let less = c.if-front-undone.true in
    c.agreed-front.ensures.agreed
    ∙ sym (agree_short same c.args.log.now c.args.undone.now (restarts_up c.args.run (suc c.args.before) (c.args.last - c.args.before)) (omega (arith, c.agreed-front.ensures.agreed, less)))

pub returns : goal.returns
returns c =
    let all : c.agreed-front.result ≡ length c.args.undone.now = omega (arith, c.if-front-undone.false, c.agreed-front.ensures.within.1) in
    let front = c.agreed-front.result in
    let log = c.args.log.now in
    let left : take (length log - front) (drop front log) ≡ drop front log = take_all (length log - front) (drop front log) (omega (arith, length-drop front log)) in
    let whole = ap (λ l. common_prefix_len same l (restarts_up c.args.run (suc c.args.before) (c.args.last - c.args.before))) left in
    let rest = ap (λ n. common_prefix_len same (drop n c.args.log.now) (restarts_up c.args.run (suc c.args.before) (c.args.last - c.args.before))) all in
    omega (arith, all, rest, whole, c.restarts_agreed.ensures.agreed, agree_long same c.args.log.now c.args.undone.now (restarts_up c.args.run (suc c.args.before) (c.args.last - c.args.before)) (omega (arith, all, c.agreed-front.ensures.agreed)))
