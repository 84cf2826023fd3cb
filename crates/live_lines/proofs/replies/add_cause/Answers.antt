use Rattle.std.proofs.Common.{◌≡◌, ◌++◌, map, sym, subst, OnOk}
use Rattle.serde_json.specs.View.{view}
use Rattle.clv_base.specs.declared.causes.AbortCause.{AbortCause}
use Rattle.live_lines.specs.Replies.{cause_of}
use Rattle.live_lines.proofs.replies.add_cause.Goals as goal

pub returns-in-Restarted : goal.returns-in-Restarted
returns-in-Restarted c =
    subst (λ (w : AbortCause). OnOk c.add_counted-in-Restarted.result (map view c.add_counted-in-Restarted.new.values.items ≡ map view c.args.values.now.items ++ cause_of w)) (sym c.in-Restarted.is) c.add_counted-in-Restarted.ensures
