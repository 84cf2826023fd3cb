use Rattle.std.proofs.Common.{List, ℕ, ◌++◌, codes, sym, ap, ◌∙◌}
use Rattle.serde_json.specs.Data.{Data}
use Rattle.serde_json.specs.View.{view}
use Rattle.serde_json.specs.Written.{compact_text}
use Rattle.report_text.specs.Lines.{num}
use Rattle.report_reading.proofs.Objects.{seven_joined, three_text}
use Rattle.report_reading.proofs.lines.tx_text.Goals as goal

pub returns : goal.returns
returns c =
    seven_joined (codes "{\"ops\":") (compact_text (view c.args.acts.now)) (codes ",\"serial\":") (compact_text (num c.args.serial)) (codes ",\"session\":") (compact_text (num c.args.session)) (codes "}")
    c.add_bytes.new.text.items c.add_text.new.text.items c.add_bytes-2.new.text.items c.add_text-2.new.text.items c.add_bytes-3.new.text.items c.add_text-3.new.text.items c.add_bytes-4.new.text.items
    (c.in_ok-add_bytes.ensures ∙ ap (λ (l : List ℕ). l ++ codes "{\"ops\":") c.new-text.ensures.items)
    c.in_ok-add_text.ensures
    c.in_ok-add_bytes-2.ensures
    (c.in_ok-add_text-2.ensures ∙ ap (λ (d : Data). c.add_bytes-2.new.text.items ++ compact_text d) c.from.ensures)
    c.in_ok-add_bytes-3.ensures
    (c.in_ok-add_text-3.ensures ∙ ap (λ (d : Data). c.add_bytes-3.new.text.items ++ compact_text d) c.from-2.ensures)
    c.in_ok-add_bytes-4.ensures
    ∙ sym (three_text (view c.args.acts.now) c.args.serial c.args.session)
