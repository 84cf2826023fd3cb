use Rattle.std.proofs.Common.{◌≡◌, true, false, cond, Some, None, sym, ap, ◌∙◌}
use Rattle.shard_recovery.specs.declared.writes.Left.TheVariants.{More}
use Rattle.shard_recovery.specs.Winning.{wins_in, set_by, kept_write}
use Rattle.shard_recovery.proofs.writes.written.Goals as goal

pub returns-then-wins : goal.returns-then-wins
returns-then-wins c = λ log knows.
    let wins : wins_in log c.args.doubtful.now c.in-Update.tx ≡ true = sym (c.wins.ensures log knows) ∙ c.if-wins.true in
    ap (λ l. Some (record { key = c.in-Update.key; left = l })) c.left_by.ensures
    ∙ ap (λ b. cond b (Some (record { key = c.in-Update.key; left = set_by c.in-Update.after })) None) (sym wins)
    ∙ ap (kept_write (wins_in log c.args.doubtful.now)) (sym c.in-Update.is)

pub returns-else-wins : goal.returns-else-wins
returns-else-wins c = λ log knows.
    let loses : wins_in log c.args.doubtful.now c.in-Update.tx ≡ false = sym (c.wins.ensures log knows) ∙ c.if-wins.false in
    ap (λ b. cond b (Some (record { key = c.in-Update.key; left = set_by c.in-Update.after })) None) (sym loses)
    ∙ ap (kept_write (wins_in log c.args.doubtful.now)) (sym c.in-Update.is)

pub returns-then-wins-2 : goal.returns-then-wins-2
returns-then-wins-2 c = λ log knows.
    let wins : wins_in log c.args.doubtful.now c.in-Add.tx ≡ true = sym (c.wins-in-Add.ensures log knows) ∙ c.if-wins-2.true in
    ap (λ b. cond b (Some (record { key = c.in-Add.key; left = More c.in-Add.by })) None) (sym wins) ∙ ap (kept_write (wins_in log c.args.doubtful.now)) (sym c.in-Add.is)

pub returns-else-wins-2 : goal.returns-else-wins-2
returns-else-wins-2 c = λ log knows.
    let loses : wins_in log c.args.doubtful.now c.in-Add.tx ≡ false = sym (c.wins-in-Add.ensures log knows) ∙ c.if-wins-2.false in
    ap (λ b. cond b (Some (record { key = c.in-Add.key; left = More c.in-Add.by })) None) (sym loses) ∙ ap (kept_write (wins_in log c.args.doubtful.now)) (sym c.in-Add.is)
