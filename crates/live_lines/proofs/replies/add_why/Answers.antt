use Rattle.std.proofs.Common.{◌≡◌, ◌++◌, map, sym, subst, OnOk}
use Rattle.serde_json.specs.View.{view}
use Rattle.clv_base.specs.declared.causes.NoWhy.{NoWhy}
use Rattle.live_lines.specs.Replies.{why}
use Rattle.live_lines.proofs.replies.add_why.Goals as goal

pub returns-in-Restarted : goal.returns-in-Restarted
returns-in-Restarted c =
    subst (λ (w : NoWhy). OnOk c.add_counted.result (map view c.add_counted.new.values.items ≡ map view c.args.values.now.items ++ why w)) (sym c.in-Restarted.is) c.add_counted.ensures
