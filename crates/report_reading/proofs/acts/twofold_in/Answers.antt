use Rattle.std.proofs.Common.{[], ◌∷◌, sym, subst}
use Rattle.std.proofs.lemmas.Bool.{both_ways}
use Rattle.std.specs.Result.{IfOk}
use Rattle.serde_json.specs.Data.{Data}
use Rattle.serde_json.specs.View.{view}
use Rattle.report_text.specs.Lines.{list, act}
use Rattle.report_reading.specs.Told.{can_be_done}
use Rattle.report_reading.specs.Finding.{Finds}
use Rattle.report_reading.proofs.Rows.{no_four_word}
use Rattle.report_reading.proofs.acts.twofold_in.Goals as goal

pub returns-then-is_the : goal.returns-then-is_the
returns-then-is_the c =
    subst (λ (w : Data). IfOk c.put_in.result (λ found. Finds can_be_done act found (list (w ∷ view c.args.first.now ∷ view c.args.second.now ∷ view c.args.answer.now ∷ []))))
    (sym (c.is_the.ensures.0 c.if-is_the.true)) c.put_in.ensures

pub returns-then-is_the-2 : goal.returns-then-is_the-2
returns-then-is_the-2 c =
    subst (λ (w : Data). IfOk c.scan_in.result (λ found. Finds can_be_done act found (list (w ∷ view c.args.first.now ∷ view c.args.second.now ∷ view c.args.answer.now ∷ []))))
    (sym (c.is_the-2.ensures.0 c.if-is_the-2.true)) c.scan_in.ensures

pub returns-then-is_the-3 : goal.returns-then-is_the-3
returns-then-is_the-3 c =
    subst (λ (w : Data). Finds can_be_done act c.add_in.result (list (w ∷ view c.args.first.now ∷ view c.args.second.now ∷ view c.args.answer.now ∷ [])))
    (sym (c.is_the-3.ensures.0 c.if-is_the-3.true)) c.add_in.ensures

pub returns : goal.returns
returns c = λ d can same. no_four_word d (view c.args.word.now) (view c.args.first.now) (view c.args.second.now) (view c.args.answer.now) can same
    (λ e. both_ways c.is_the.result c.if-is_the.false (c.is_the.ensures.1 e))
    (λ e. both_ways c.is_the-2.result c.if-is_the-2.false (c.is_the-2.ensures.1 e))
    (λ e. both_ways c.is_the-3.result c.if-is_the-3.false (c.is_the-3.ensures.1 e))
