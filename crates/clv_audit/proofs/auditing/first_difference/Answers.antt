use Rattle.std.proofs.Common.{◌≡◌, ℕ, get_or, take, sym, ap, subst, arith}
use Rattle.clv_audit.proofs.Judging.{differ_in, differ_longer, flipped}
use Rattle.clv_audit.proofs.auditing.first_difference.Goals as goal

pub returns-in-Some : goal.returns-in-Some
returns-in-Some c =
    let both = c.min-both.ensures in
    let test = c.loop-i-test.true in
    differ_in c.args.one.now c.args.other.now c.loop-i.i c.in-Some.key c.index-one-i.result c.index-other-i.result c.requires.one c.requires.other (grind arith) (grind arith) c.index-one-i.is c.index-other-i.is c.loop-i.invariant c.in-Some.ensures

pub returns-then-both-other : goal.returns-then-both-other
returns-then-both-other c =
    let one = c.args.one.now in
    let other = c.args.other.now in
    let both = c.min-both.result in
    let least = c.min-both.ensures in
    let longer = c.if-both-other.true in
    let over = c.loop-i-test.false in
    let under = c.loop-i.auto.i-end in
    let all : c.loop-i.i ≡ both = omega arith in
    differ_longer one other both _ c.requires.one c.requires.other (grind arith) longer (ap (get_or other both) c.index-other-both.is) (subst (λ (n : ℕ). take n one ≡ take n other) all c.loop-i.invariant)

pub returns-then-both-one : goal.returns-then-both-one
returns-then-both-one c =
    let one = c.args.one.now in
    let other = c.args.other.now in
    let both = c.min-both.result in
    let least = c.min-both.ensures in
    let ends = c.if-both-other.false in
    let longer = c.if-both-one.true in
    let over = c.loop-i-test.false in
    let under = c.loop-i.auto.i-end in
    let all : c.loop-i.i ≡ both = omega arith in
    flipped _ other one
    (differ_longer other one both _ c.requires.other c.requires.one (grind arith) longer (ap (get_or one both) c.index-one-both.is) (sym (subst (λ (n : ℕ). take n one ≡ take n other) all c.loop-i.invariant)))
