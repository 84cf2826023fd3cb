use Rattle.std.proofs.Common.{rules, ◌≡◌, true, false, Some, None, eqb, eq-eqb, refl, sym, ap, ◌∙◌}
use Rattle.std.specs.Prelude.{slice_get}
use Rattle.std.specs.Option.{option_eq}
use Rattle.std.proofs.lemmas.Bool.{both_ways}
use Rattle.clv_base.specs.Orders.{tx_in}
use Rattle.clv_base.specs.Logs.{standing}
use Rattle.clv_base.specs.Undo.{newest_lsn}
use Rattle.cascade_undo.specs.Steps.{write_in}
use Rattle.cascade_undo.proofs.Newest.{some_at, none_at}
use Rattle.cascade_undo.proofs.write.newest_at.Goals as goal
use Rattle.cascade_undo.proofs.write.newest_at.Goals.{else-contains-via-then-contains+else-eq, else-contains-via-else-contains}

pub returns-in_err-write-clause-none : goal.returns-in_err-write-clause-none
returns-in_err-write-clause-none c = λ _.
    none_at c.args.set.now c.args.buffer.now.records c.args.lsn c.requires.below (λ w e i n. let is : c.write_at.result ≡ None = search rules in let at = c.write_at.ensures in absurd cc)

pub returns-then-eq-clause-newest : goal.returns-then-eq-clause-newest
returns-then-eq-clause-newest c =
    let there : Some c.in_ok-write.write ≡ write_in c.args.lsn (slice_get c.args.buffer.now.records c.args.lsn) = search rules in
    let of_set : tx_in c.in_ok-write.write.tx c.args.set.now ≡ true = search rules in
    let newest : newest_lsn c.in_ok-write.write.tx (standing c.args.buffer.now.records) ≡ Some c.args.lsn = search rules in
    some_at c.args.set.now c.args.buffer.now.records c.args.lsn c.requires.below c.in_ok-write.write there of_set newest

pub returns-else-contains-clause-none : goal.returns-else-contains-clause-none
returns-else-contains-clause-none c = λ _.
    let there : write_in c.args.lsn (slice_get c.args.buffer.now.records c.args.lsn) ≡ Some c.in_ok-write.write = search rules in
    none_at c.args.set.now c.args.buffer.now.records c.args.lsn c.requires.below
    (λ w e i n.
    let same : w ≡ c.in_ok-write.write = cc in
    elim c.else-contains.branch [
      | else-contains-via-then-contains+else-eq v ↦
          (let found : v.newest.result ≡ Some c.args.lsn = v.newest.ensures ∙ ap (λ x. newest_lsn x.tx (standing c.args.buffer.now.records)) (sym same) ∙ n in
          both_ways _ (sym v.eq.ensures ∙ v.if-eq.false) (ap (λ o. option_eq eqb o (Some c.args.lsn)) found ∙ eq-eqb c.args.lsn c.args.lsn refl))
      | else-contains-via-else-contains v ↦ (let out : tx_in c.in_ok-write.write.tx c.args.set.now ≡ false = search rules in absurd cc)
    ])
