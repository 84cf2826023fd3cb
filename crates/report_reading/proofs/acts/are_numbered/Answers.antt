use Rattle.std.proofs.Common.{ℕ, ◌+◌, List, ◌∷◌, drop, refl, sym, ap, ◌∙◌}
use Rattle.std.proofs.lemmas.List.{drop_more}
use Rattle.clv_base.specs.Backs.{are_numbered}
use Rattle.session_books.specs.Done.{Done}
use Rattle.report_reading.specs.Told.{numbered_from}
use Rattle.report_reading.proofs.Numbering.{goes_next}
use Rattle.report_reading.proofs.acts.are_numbered.Goals as goal

pub loop-done-preserved : goal.loop-done-preserved
loop-done-preserved c =
    let at = c.loop-done.invariant.number in
    let given = c.loop-done.invariant.standing in
    let i = c.loop-done.done-index in
    let n = c.loop-done.number in
    let d = c.done-item.result in
    let ds = drop (i + 1) c.args.acts.now in
    let next = goes_next i n (n + 1) d ds c.loop-done.standing.items c.follow.new.standing.items given.0 c.in_ok-follow.field-0 at refl c.if-not-branch.false given.1 c.in_ok-follow.ensures in
    record {
      number = ap (λ (k : ℕ). k + 1) at;
      standing = (
        next.0,
        next.1,
        given.2 ∙ ap (λ (l : List Done). are_numbered i given.0 (numbered_from n l)) (drop_more c.args.acts.now i d c.loop-done-test.true ∙ ap (λ (x : Done). x ∷ ds) (sym c.done-item.is)) ∙ next.2
            ∙ ap (λ (k : ℕ). are_numbered k next.0 (numbered_from (n + 1) ds)) at,
      );
    }
