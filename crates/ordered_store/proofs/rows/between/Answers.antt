use Rattle.std.proofs.Common.{◌≡◌, ℕ, ◌-◌, Option, Some, sym, ◌∙◌, ap, subst, map, take, drop, length, length-drop, nat_le}
use Rattle.std.proofs.Math.Seq.{take-length}
use Rattle.std.specs.Result.{IfOk}
use Rattle.std.specs.List.{take_while}
use Rattle.clv_base.specs.declared.values.Value.{Value as ValueType}
use Rattle.clv_base.specs.Needs.{Records, found_by, records_between}
use Rattle.ordered_store.proofs.Rising.{rises_from, count_below-lows}
use Rattle.ordered_store.proofs.Ranging.{records_between-run}
use Rattle.ordered_store.proofs.rows.between.Goals as goal

pub returns : goal.returns
returns c = let rows : Records = c.args.rows.now in let from = c.place_of-from.result in
    let rest : take (length rows - from) (drop from rows) ≡ drop from rows = ap (λ n. take n (drop from rows)) (sym (length-drop from rows)) ∙ take-length (drop from rows) in
    let run : take_while (λ (r : ℕ × Option ValueType). nat_le r.0 c.args.high) (take (length rows - from) (drop from rows)) ≡ records_between c.args.low c.args.high rows =
    ap (take_while (λ (r : ℕ × Option ValueType). nat_le r.0 c.args.high)) (rest ∙ ap (λ n. drop n rows) (c.place_of-from.ensures.place ∙ count_below-lows c.args.low rows))
    ∙ sym (records_between-run c.args.low c.args.high rows (rises_from rows c.requires)) in
    subst (λ (ys : Records). IfOk c.up_to.result (λ found. found.items ≡ map (λ (r : ℕ × Option ValueType). (r.0, found_by (Some r.1))) ys)) run c.up_to.ensures
