use Rattle.std.proofs.Common.{◌≡◌, ◌≤◌, [], ◌∷◌, sym, ◌∙◌, ap, subst}
use Rattle.std.proofs.lemmas.List.Elements.{All-contains_itself}
use Rattle.lock_table.specs.Rows.{gaps_held}
use Rattle.callers.proofs.lock_taking.split_gap.Goals as goal

pub split_gap-requires : goal.split_gap-requires
split_gap-requires g c =
    let on = c.args.new ∷ [] in let lower = c.args.lower in let now = g.L.Locks.rows c.reserve.new.self in
    let count : c.gap_count-count.result ≡ gaps_held lower now = c.gap_count-count.ensures ∙ ap (gaps_held lower) (sym c.reserve.ensures.rows) in
    (c.args.tx, subst (λ n. n ≤ g.L.Locks.room c.reserve.new.self c.args.tx on) count (c.in_ok-reserve.ensures.ok on (All-contains_itself on)))
