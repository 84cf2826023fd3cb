use Rattle.std.proofs.Common.{sym, ◌∙◌, ap, subst}
use Rattle.lock_index.specs.Groups.{Apart, rows_of}
use Rattle.lock_index.specs.Rows.{groups}
use Rattle.lock_index.specs.Writes.{there, leave}
use Rattle.lock_index.proofs.GroupWrites.{without-groups}
use Rattle.lock_index.proofs.Settings.{apart_each}
use Rattle.lock_index.proofs.groups.leave_on.Goals as goal

pub forget-requires-clause-apart : goal.forget-requires-clause-apart
forget-requires-clause-apart c = subst Apart (sym c.take_out.ensures.groups) (apart_each (there c.args.anchor (leave c.args.tx)) (groups c.args.groups.now.entries) c.requires)

pub returns-then-take_out-clause-rows : goal.returns-then-take_out-clause-rows
returns-then-take_out-clause-rows c = c.forget.ensures.rows ∙ (ap rows_of c.take_out.ensures.groups ∙ sym (without-groups c.args.tx c.args.anchor (groups c.args.groups.now.entries)))

pub returns-else-take_out-clause-rows : goal.returns-else-take_out-clause-rows
returns-else-take_out-clause-rows c = ap rows_of c.take_out.ensures.groups ∙ sym (without-groups c.args.tx c.args.anchor (groups c.args.groups.now.entries))

pub returns-else-take_out-clause-apart : goal.returns-else-take_out-clause-apart
returns-else-take_out-clause-apart c = subst Apart (sym c.take_out.ensures.groups) (apart_each (there c.args.anchor (leave c.args.tx)) (groups c.args.groups.now.entries) c.requires)
