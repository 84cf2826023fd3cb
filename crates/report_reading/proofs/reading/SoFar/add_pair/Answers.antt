use Rattle.std.proofs.Common.{◌≡◌, ℕ, true, List, [], vec_len, length, sym, ap, ◌∙◌, subst, arith}
use Rattle.std.proofs.lemmas.Bool.{both_ways, eq-eqb, eqb-true}
use Rattle.clv_base.specs.declared.values.Value.{Value as ValueType}
use Rattle.report_reading.specs.declared.told.Taken.TheVariants.{Nowhere}
use Rattle.report_reading.specs.Told.{ReportedTx}
use Rattle.report_reading.specs.Texts.{Pair}
use Rattle.report_reading.specs.Reading.{SoFar, so_far, CanStand, HasPlace, is_above}
use Rattle.report_reading.proofs.Lasts.{none_of}
use Rattle.report_reading.proofs.Places.{pair_nowhere, pair_stands}
use Rattle.report_reading.proofs.reading.SoFar.add_pair.Goals as goal

pub returns-then-not-is_empty : goal.returns-then-not-is_empty
returns-then-not-is_empty c =
    subst (λ (s : SoFar). HasPlace s s (Pair c.args.key c.args.value) Nowhere) c.self.view_is
    (pair_nowhere (so_far c.self.inside.pairs.items c.self.inside.txs.items) c.args.key c.args.value
    (λ none above.
    let gone = ap length none in
    let ok = c.self.inside.txs.ok in
    let empty : vec_len c.self.inside.txs ≡ 0 = omega arith in
    both_ways c.is_empty.result c.if-not-is_empty.true (c.is_empty.ensures ∙ eq-eqb (vec_len c.self.inside.txs) 0 empty)))

pub returns-then-not-rises_to : goal.returns-then-not-rises_to
returns-then-not-rises_to c =
    subst (λ (s : SoFar). HasPlace s s (Pair c.args.key c.args.value) Nowhere) c.self.view_is
    (pair_nowhere (so_far c.self.inside.pairs.items c.self.inside.txs.items) c.args.key c.args.value
    (λ none above. both_ways c.rises_to.result c.if-not-rises_to.true (c.rises_to.ensures ∙ ap (is_above c.args.key) c.deref.ensures.value ∙ above)))

pub invariant_of-self-2 : goal.invariant_of-self-2
invariant_of-self-2 c =
    let ok = c.self.inside.txs.ok in
    let empty : vec_len c.self.inside.txs ≡ 0 = eqb-true (vec_len c.self.inside.txs) 0 (sym c.is_empty.ensures ∙ c.if-not-is_empty.false) in
    let none : c.self.inside.txs.items ≡ [] = none_of c.self.inside.txs.items (omega arith) in
    let above : is_above c.args.key c.self.inside.pairs.items ≡ true = ap (is_above c.args.key) (sym c.deref.ensures.value) ∙ sym c.rises_to.ensures ∙ c.if-not-rises_to.false in
    let can = subst (λ (ts : List ReportedTx). CanStand (so_far c.self.inside.pairs.items ts)) none c.self.invariant in
    subst (λ (ts : List ReportedTx). CanStand (so_far c.push.new.self.items ts)) (sym none)
    (subst (λ (ps : List (ℕ × ValueType)). CanStand (so_far ps [])) (sym c.in_ok-push.ensures.items) (pair_stands c.self.inside.pairs.items c.args.key c.args.value can c.requires above))
