use Rattle.std.proofs.Common.{◌≡◌, ◌∙◌, ◌-◌, ◌++◌, take, drop, length, ap, sym, length-drop}
use Rattle.std.proofs.Math.Seq.{take-length}
use Rattle.clv_base.specs.Needs.{Records}
use Rattle.ordered_store.proofs.block.cut_off.Goals as goal

pub returns-clause-upper : goal.returns-clause-upper
returns-clause-upper c = let rows = c.args.block.now.rows.items in
    let whole : take (length rows - 33) (drop 33 rows) ≡ drop 33 rows = ap (λ n. take n (drop 33 rows)) (sym (length-drop 33 rows)) ∙ take-length (drop 33 rows) in
    c.copy_to.ensures.items ∙ (ap (λ (xs : Records). xs ++ take (length c.deref.result.now - 33) (drop 33 c.deref.result.now)) c.requires.empty ∙ (ap (λ (xs : Records). take (length xs - 33) (drop 33 xs)) c.deref.ensures.value ∙ whole))
