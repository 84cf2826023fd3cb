use Rattle.std.proofs.Common.{◌&&◌, List, [], map, sym, ap, ◌∙◌}
use Rattle.std.proofs.lemmas.Bool.{and_parts, both_ways}
use Rattle.std.specs.List.{list_all}
use Rattle.serde_json.specs.View.{view}
use Rattle.clv_base.specs.Backs.{are_numbered}
use Rattle.session_books.specs.Done.{Done}
use Rattle.report_text.specs.Lines.{act, acts}
use Rattle.report_reading.specs.Told.{can_be_done, has_acts, numbered}
use Rattle.report_reading.proofs.Rows.{row_is}
use Rattle.report_reading.proofs.Same.{same_each, same_act}
use Rattle.report_reading.proofs.acts.acts_in.Goals as goal

pub returns-in_default-2 : goal.returns-in_default-2
returns-in_default-2 c = λ ds can same.
    let done = and_parts (has_acts ds) (list_all can_be_done ds && are_numbered 0 [] (numbered ds)) can in
    let each = and_parts (list_all can_be_done ds) (are_numbered 0 [] (numbered ds)) done.1 in
    let row = row_is view (view c.args.value.now) c.in-Some.values.now.items (acts ds) c.in-Some.ensures same in
    (rw c.in_default-2.is at c.in_ok-acts.ensures) ds each.0 (row ∙ ap (map view) (sym c.as_slice.ensures.value))

pub returns-then-not-branch : goal.returns-then-not-branch
returns-then-not-branch c = λ ds can same.
    let done = and_parts (has_acts ds) (list_all can_be_done ds && are_numbered 0 [] (numbered ds)) can in
    let each = and_parts (list_all can_be_done ds) (are_numbered 0 [] (numbered ds)) done.1 in
    let row = row_is view (view c.args.value.now) c.in-Some.values.now.items (acts ds) c.in-Some.ensures same in
    let found = (rw c.in-Some-2.is at c.in_ok-acts.ensures) in
    let is = same_each can_be_done act same_act ds c.in-Some-2.acts.items each.0 found.0 (row ∙ ap (map view) (sym c.as_slice.ensures.value) ∙ sym found.1) in
    both_ways (are_numbered 0 [] (numbered ds))
    (ap (λ (l : List Done). are_numbered 0 [] (numbered l)) (is ∙ sym c.as_slice-2.ensures.value) ∙ sym c.in_ok-are_numbered.ensures ∙ c.if-not-branch.true) each.1
