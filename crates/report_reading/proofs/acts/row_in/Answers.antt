use Rattle.std.proofs.Common.{List, map, sym, subst}
use Rattle.std.specs.Result.{IfOk}
use Rattle.serde_json.specs.declared.value.Value.{Value}
use Rattle.serde_json.specs.View.{view}
use Rattle.report_text.specs.Lines.{list, act}
use Rattle.report_reading.specs.Told.{can_be_done}
use Rattle.report_reading.specs.Finding.{Finds}
use Rattle.report_reading.proofs.Rows.{no_size, two_items, three_items, four_items}
use Rattle.report_reading.proofs.acts.row_in.Goals as goal

pub returns-then-values-eq2 : goal.returns-then-values-eq2
returns-then-values-eq2 c =
    subst (λ (vs : List Value). Finds can_be_done act c.back_in.result (list (map view vs)))
    (sym (two_items c.args.values.now c.index-values-0.result c.index-values-1.result c.if-values-eq2.true c.index-values-0.is c.index-values-1.is)) c.back_in.ensures

pub returns-then-values-eq3 : goal.returns-then-values-eq3
returns-then-values-eq3 c =
    subst (λ (vs : List Value). IfOk c.keyed_in.result (λ found. Finds can_be_done act found (list (map view vs))))
    (sym (three_items c.args.values.now c.index-values-0-then-values-eq3.result c.index-values-1-then-values-eq3.result c.index-values-2.result c.if-values-eq3.true c.index-values-0-then-values-eq3.is c.index-values-1-then-values-eq3.is c.index-values-2.is)) c.keyed_in.ensures

pub returns-then-values-eq4 : goal.returns-then-values-eq4
returns-then-values-eq4 c =
    subst (λ (vs : List Value). IfOk c.twofold_in.result (λ found. Finds can_be_done act found (list (map view vs))))
    (sym (four_items c.args.values.now c.index-values-0-then-values-eq4.result c.index-values-1-then-values-eq4.result c.index-values-2-then-values-eq4.result c.index-values-3.result c.if-values-eq4.true c.index-values-0-then-values-eq4.is c.index-values-1-then-values-eq4.is c.index-values-2-then-values-eq4.is c.index-values-3.is)) c.twofold_in.ensures

pub returns : goal.returns
returns c = λ d can same. no_size view d c.args.values.now same c.if-values-eq2.false c.if-values-eq3.false c.if-values-eq4.false
