use Rattle.std.proofs.Common.{sym, ap, subst}
use Rattle.clv_base.specs.declared.ops.Op.TheVariants.{Get, Put, Del, Add}
use Rattle.session_ops.specs.Parts.{value_in, added_in}
use Rattle.session_examples.specs.declared.calls.Said.TheVariants.{Begun, Retried, Value, Added, Pairs, Kept, Rolled}
use Rattle.session_api.specs.Sessions.{ScanCalled}
use Rattle.session_examples.specs.Calls.{Called}
use Rattle.session_examples.proofs.Following.{same_later, begin_later, retry_later, point_later, scan_later, roll_later, commit_later, abort_later}
use Rattle.session_examples.proofs.calls.make_call.Goals as goal

pub returns-in-Begin-clause-later : goal.returns-in-Begin-clause-later
returns-in-Begin-clause-later g c = let s = c.args.session.now in let z = c.begin.new.self in begin_later s.shards.now s.walker z.walker s.progress z.progress c.begin.result c.begin.ensures.told

pub returns-in-Retry-clause-later : goal.returns-in-Retry-clause-later
returns-in-Retry-clause-later g c = let s = c.args.session.now in let z = c.retry.new.self in retry_later s.shards.now s.walker z.walker s.progress z.progress c.retry.result c.retry.ensures.told

pub returns-in-Get-clause-later : goal.returns-in-Get-clause-later
returns-in-Get-clause-later g c = let s = c.args.session.now in let z = c.get.new.self in
    point_later s.shards.now value_in s.walker z.walker s.progress z.progress (Get c.in-Get.key) c.in-Get.key c.get.result c.requires.session c.get.ensures.told

pub returns-in-Put-clause-later : goal.returns-in-Put-clause-later
returns-in-Put-clause-later g c = let s = c.args.session.now in let z = c.put.new.self in
    point_later s.shards.now value_in s.walker z.walker s.progress z.progress (Put c.in-Put.key c.in-Put.value) c.in-Put.key c.put.result c.requires.session c.put.ensures.told

pub returns-in-Del-clause-later : goal.returns-in-Del-clause-later
returns-in-Del-clause-later g c = let s = c.args.session.now in let z = c.del.new.self in
    point_later s.shards.now value_in s.walker z.walker s.progress z.progress (Del c.in-Del.key) c.in-Del.key c.del.result c.requires.session c.del.ensures.told

pub returns-in-Add-clause-later : goal.returns-in-Add-clause-later
returns-in-Add-clause-later g c = let s = c.args.session.now in let z = c.add.new.self in
    point_later s.shards.now added_in s.walker z.walker s.progress z.progress (Add c.in-Add.key c.in-Add.by) c.in-Add.key c.add.result c.requires.session c.add.ensures.told

pub returns-in-Scan-clause-later : goal.returns-in-Scan-clause-later
returns-in-Scan-clause-later g c = let s = c.args.session.now in let z = c.scan.new.self in scan_later s.shards.now s.walker z.walker s.progress z.progress c.in-Scan.lo _ c.scan.result c.requires.session c.scan.ensures.told

pub returns-in-Save-clause-later : goal.returns-in-Save-clause-later
returns-in-Save-clause-later g c = same_later c.args.session.now.walker c.savepoint.new.self.walker c.savepoint.ensures.rest.1

pub returns-in-Save-clause-told : goal.returns-in-Save-clause-told
returns-in-Save-clause-told g c =
    let s = c.args.session.now in let z = c.savepoint.new.self in let e = c.savepoint.ensures in
    subst (λ x. Called s.shards.now s.walker s.progress s.saves.items x (Kept c.savepoint.result) z.walker z.progress z.saves.items) (sym c.in-Save.is) (e.told, e.rest.1, e.rest.2)

pub returns-in-Back-clause-later : goal.returns-in-Back-clause-later
returns-in-Back-clause-later g c = let s = c.args.session.now in let z = c.roll_to.new.self in
    roll_later s.shards.now s.walker z.walker s.progress z.progress s.saves.items c.in-Back.upto c.roll_to.result c.roll_to.ensures.told

pub returns-in-Back-clause-told : goal.returns-in-Back-clause-told
returns-in-Back-clause-told g c =
    let s = c.args.session.now in let z = c.roll_to.new.self in let e = c.roll_to.ensures in
    subst (λ x. Called s.shards.now s.walker s.progress s.saves.items x (Rolled c.roll_to.result) z.walker z.progress z.saves.items) (sym c.in-Back.is) (e.told, e.saves)

pub returns-in-Commit-clause-later : goal.returns-in-Commit-clause-later
returns-in-Commit-clause-later g c = let s = c.args.session.now in let z = c.commit.new.self in commit_later s.shards.now s.walker z.walker s.progress z.progress c.commit.result c.commit.ensures.told

pub returns-in-Abort-clause-later : goal.returns-in-Abort-clause-later
returns-in-Abort-clause-later g c = let s = c.args.session.now in let z = c.abort.new.self in abort_later s.shards.now s.walker z.walker s.progress z.progress c.abort.result c.abort.ensures.told

pub returns-in-Get-clause-told : goal.returns-in-Get-clause-told
returns-in-Get-clause-told g c =
    let s = c.args.session.now in let z = c.get.new.self in let e = c.get.ensures in
    subst (λ x. Called s.shards.now s.walker s.progress s.saves.items x (Value c.get.result) z.walker z.progress z.saves.items) (sym c.in-Get.is) (e.told, ap (λ x. x.items) e.saves)

pub returns-in-Put-clause-told : goal.returns-in-Put-clause-told
returns-in-Put-clause-told g c =
    let s = c.args.session.now in let z = c.put.new.self in let e = c.put.ensures in
    subst (λ x. Called s.shards.now s.walker s.progress s.saves.items x (Value c.put.result) z.walker z.progress z.saves.items) (sym c.in-Put.is) (e.told, ap (λ x. x.items) e.saves)

pub returns-in-Del-clause-told : goal.returns-in-Del-clause-told
returns-in-Del-clause-told g c =
    let s = c.args.session.now in let z = c.del.new.self in let e = c.del.ensures in
    subst (λ x. Called s.shards.now s.walker s.progress s.saves.items x (Value c.del.result) z.walker z.progress z.saves.items) (sym c.in-Del.is) (e.told, ap (λ x. x.items) e.saves)

pub returns-in-Add-clause-told : goal.returns-in-Add-clause-told
returns-in-Add-clause-told g c =
    let s = c.args.session.now in let z = c.add.new.self in let e = c.add.ensures in
    subst (λ x. Called s.shards.now s.walker s.progress s.saves.items x (Added c.add.result) z.walker z.progress z.saves.items) (sym c.in-Add.is) (e.told, ap (λ x. x.items) e.saves)

pub returns-in-Scan-clause-told : goal.returns-in-Scan-clause-told
returns-in-Scan-clause-told g c =
    let s = c.args.session.now in let z = c.scan.new.self in let e = c.scan.ensures in
    subst (λ x. Called s.shards.now s.walker s.progress s.saves.items x (Pairs c.scan.result) z.walker z.progress z.saves.items) (sym c.in-Scan.is)
    (subst (λ hi. ScanCalled s.shards.now s.walker s.progress c.in-Scan.lo hi c.scan.result z.walker z.progress) c.bound.ensures.same e.told, ap (λ x. x.items) e.saves)

pub returns-in-Begin-clause-told : goal.returns-in-Begin-clause-told
returns-in-Begin-clause-told g c =
    let s = c.args.session.now in let z = c.begin.new.self in let e = c.begin.ensures in
    subst (λ x. Called s.shards.now s.walker s.progress s.saves.items x (Begun c.begin.result) z.walker z.progress z.saves.items) (sym c.in-Begin.is) (e.told, e.anew)

pub returns-in-Retry-clause-told : goal.returns-in-Retry-clause-told
returns-in-Retry-clause-told g c =
    let s = c.args.session.now in let z = c.retry.new.self in let e = c.retry.ensures in
    subst (λ x. Called s.shards.now s.walker s.progress s.saves.items x (Retried c.retry.result) z.walker z.progress z.saves.items) (sym c.in-Retry.is) (e.told, e.anew)
