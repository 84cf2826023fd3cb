use Rattle.std.proofs.Common.{◌≡◌, suc, ◌-◌, get_or, Some, None, cond, sym, ap, ◌∙◌, eq-eqb, arith}
use Rattle.std.proofs.lemmas.Bool.{ne_eqb}
use Rattle.script_lang.specs.Savepoints.{count_up_to}
use Rattle.script_lang.proofs.Keeping.{none_stands, last_stands}
use Rattle.script_lang.proofs.savepoints.found.Goals as goal

pub returns-then-count-eq0 : goal.returns-then-count-eq0
returns-then-count-eq0 c = sym (none_stands c.args.number 0 c.args.standing.now c.requires.0 c.requires.1 (sym c.count_up_to-count.ensures.count ∙ c.if-count-eq0.true))

pub returns-then-last-number : goal.returns-then-last-number
returns-then-last-number c =
    let m = c.count_up_to-count.result - 1 in
    let last = get_or c.args.standing.now m (0, 0) in
    let count : count_up_to c.args.number c.args.standing.now ≡ suc m = (let e = c.count_up_to-count.ensures.count in omega arith) in
    sym (last_stands c.args.number 0 c.args.standing.now c.requires.0 m (0, 0) c.requires.1 count ∙ ap (λ b. cond b (Some last.1) None) (eq-eqb last.0 c.args.number c.if-last-number.true))

pub returns-else-last-number : goal.returns-else-last-number
returns-else-last-number c =
    let m = c.count_up_to-count.result - 1 in
    let last = get_or c.args.standing.now m (0, 0) in
    let count : count_up_to c.args.number c.args.standing.now ≡ suc m = (let e = c.count_up_to-count.ensures.count in omega arith) in
    sym (last_stands c.args.number 0 c.args.standing.now c.requires.0 m (0, 0) c.requires.1 count ∙ ap (λ b. cond b (Some last.1) None) (ne_eqb last.0 c.args.number c.if-last-number.false))
