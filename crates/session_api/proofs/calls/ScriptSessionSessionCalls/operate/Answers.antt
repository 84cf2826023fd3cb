use Rattle.std.proofs.Common.{◌∙◌, ap, sym}
use Rattle.clv_base.specs.declared.ops.Op.TheVariants.{Get, Put, Del, Add}
use Rattle.session_ops.specs.Parts.{value_in, added_in}
use Rattle.session_api.specs.Seeing.{value_end, added_end}
use Rattle.session_api.specs.ToldLaws.{gets, puts, dels}
use Rattle.session_api.proofs.Pointing.{takes_value, takes_added}
use Rattle.session_api.specs.Savepoints.{leads_of}
use Rattle.session_api.proofs.SavedCalls.{point_saves, scan_saves}
use Rattle.session_api.proofs.ScriptOperating.{point_answers, point_call, scan_answers, scan_call}
use Rattle.session_api.proofs.calls.ScriptSessionSessionCalls.operate.Goals as goal

pub value_told-requires : goal.value_told-requires
value_told-requires g c = let s = c.args.self.now.session in let z = c.get.new.self in let e = c.get.ensures in
    record { made = point_answers s.shards.now c.args.self.now.asked value_in value_end c.in-Get.key (Get c.in-Get.key) (takes_value c.in-Get.key (Get c.in-Get.key) gets) z.shards.now s.walker z.walker s.progress z.progress c.get.result (ap (λ x. x.now) e.shards) c.requires.session.holds c.requires.active e.told e.session }

pub returns-in-Get-clause-session : goal.returns-in-Get-clause-session
returns-in-Get-clause-session g c = let s = c.args.self.now.session in let z = c.get.new.self in let e = c.get.ensures in let h = c.requires.session in
    record {
      holds = (point_call s.shards.now c.args.self.now.asked value_in value_end c.in-Get.key (Get c.in-Get.key) (takes_value c.in-Get.key (Get c.in-Get.key) gets) z.shards.now s.walker z.walker s.progress z.progress c.args.op.now c.get.result c.value_told.result (ap (λ x. x.now) e.shards) c.in-Get.is h.holds c.requires.active e.told e.session c.value_told.ensures.told).holds.holds;
      saved = e.saved;
      leads = point_saves value_in s.shards.now s.walker z.walker z.progress (Get c.in-Get.key) c.in-Get.key c.get.result (leads_of c.args.self.now.saves.standing) s.progress e.told h.leads;
      numbered = h.numbered;
      rise = h.rise;
    }

pub returns-in-Get-clause-going : goal.returns-in-Get-clause-going
returns-in-Get-clause-going g c tx birth nth touched over st is = let s = c.args.self.now.session in let z = c.get.new.self in let e = c.get.ensures in
    (point_call s.shards.now c.args.self.now.asked value_in value_end c.in-Get.key (Get c.in-Get.key) (takes_value c.in-Get.key (Get c.in-Get.key) gets) z.shards.now s.walker z.walker s.progress z.progress c.args.op.now c.get.result c.value_told.result (ap (λ x. x.now) e.shards) c.in-Get.is c.requires.session.holds c.requires.active e.told e.session c.value_told.ensures.told).over c.args.self.now.saves tx birth nth touched over st is

pub returns-in-Get-clause-misses : goal.returns-in-Get-clause-misses
returns-in-Get-clause-misses g c = let s = c.args.self.now.session in let z = c.get.new.self in let e = c.get.ensures in
    (point_call s.shards.now c.args.self.now.asked value_in value_end c.in-Get.key (Get c.in-Get.key) (takes_value c.in-Get.key (Get c.in-Get.key) gets) z.shards.now s.walker z.walker s.progress z.progress c.args.op.now c.get.result c.value_told.result (ap (λ x. x.now) e.shards) c.in-Get.is c.requires.session.holds c.requires.active e.told e.session c.value_told.ensures.told).holds.misses

pub returns-in-Get-clause-told : goal.returns-in-Get-clause-told
returns-in-Get-clause-told g c = let s = c.args.self.now.session in let z = c.get.new.self in let e = c.get.ensures in
    (point_call s.shards.now c.args.self.now.asked value_in value_end c.in-Get.key (Get c.in-Get.key) (takes_value c.in-Get.key (Get c.in-Get.key) gets) z.shards.now s.walker z.walker s.progress z.progress c.args.op.now c.get.result c.value_told.result (ap (λ x. x.now) e.shards) c.in-Get.is c.requires.session.holds c.requires.active e.told e.session c.value_told.ensures.told).told

pub returns-in-Get-clause-grounds : goal.returns-in-Get-clause-grounds
returns-in-Get-clause-grounds g c = let s = c.args.self.now.session in let z = c.get.new.self in let e = c.get.ensures in
    (point_call s.shards.now c.args.self.now.asked value_in value_end c.in-Get.key (Get c.in-Get.key) (takes_value c.in-Get.key (Get c.in-Get.key) gets) z.shards.now s.walker z.walker s.progress z.progress c.args.op.now c.get.result c.value_told.result (ap (λ x. x.now) e.shards) c.in-Get.is c.requires.session.holds c.requires.active e.told e.session c.value_told.ensures.told).grounds

pub value_told-requires-in-Put : goal.value_told-requires-in-Put
value_told-requires-in-Put g c = let s = c.args.self.now.session in let z = c.put-answer.new.self in let e = c.put-answer.ensures in
    record { made = point_answers s.shards.now c.args.self.now.asked value_in value_end c.in-Put.key (Put c.in-Put.key c.copy.result) (takes_value c.in-Put.key (Put c.in-Put.key c.copy.result) (puts c.copy.result)) z.shards.now s.walker z.walker s.progress z.progress c.put-answer.result (ap (λ x. x.now) e.shards) c.requires.session.holds c.requires.active e.told e.session }

pub returns-in-Put-clause-session : goal.returns-in-Put-clause-session
returns-in-Put-clause-session g c = let s = c.args.self.now.session in let z = c.put-answer.new.self in let e = c.put-answer.ensures in let h = c.requires.session in
    record {
      holds = (point_call s.shards.now c.args.self.now.asked value_in value_end c.in-Put.key (Put c.in-Put.key c.copy.result) (takes_value c.in-Put.key (Put c.in-Put.key c.copy.result) (puts c.copy.result)) z.shards.now s.walker z.walker s.progress z.progress c.args.op.now c.put-answer.result c.value_told-in-Put.result (ap (λ x. x.now) e.shards) (c.in-Put.is ∙ ap (λ v. Put c.in-Put.key v) (sym c.copy.ensures)) h.holds c.requires.active e.told e.session c.value_told-in-Put.ensures.told).holds.holds;
      saved = e.saved;
      leads = point_saves value_in s.shards.now s.walker z.walker z.progress (Put c.in-Put.key c.copy.result) c.in-Put.key c.put-answer.result (leads_of c.args.self.now.saves.standing) s.progress e.told h.leads;
      numbered = h.numbered;
      rise = h.rise;
    }

pub returns-in-Put-clause-going : goal.returns-in-Put-clause-going
returns-in-Put-clause-going g c tx birth nth touched over st is = let s = c.args.self.now.session in let z = c.put-answer.new.self in let e = c.put-answer.ensures in
    (point_call s.shards.now c.args.self.now.asked value_in value_end c.in-Put.key (Put c.in-Put.key c.copy.result) (takes_value c.in-Put.key (Put c.in-Put.key c.copy.result) (puts c.copy.result)) z.shards.now s.walker z.walker s.progress z.progress c.args.op.now c.put-answer.result c.value_told-in-Put.result (ap (λ x. x.now) e.shards) (c.in-Put.is ∙ ap (λ v. Put c.in-Put.key v) (sym c.copy.ensures)) c.requires.session.holds c.requires.active e.told e.session c.value_told-in-Put.ensures.told).over c.args.self.now.saves tx birth nth touched over st is

pub returns-in-Put-clause-misses : goal.returns-in-Put-clause-misses
returns-in-Put-clause-misses g c = let s = c.args.self.now.session in let z = c.put-answer.new.self in let e = c.put-answer.ensures in
    (point_call s.shards.now c.args.self.now.asked value_in value_end c.in-Put.key (Put c.in-Put.key c.copy.result) (takes_value c.in-Put.key (Put c.in-Put.key c.copy.result) (puts c.copy.result)) z.shards.now s.walker z.walker s.progress z.progress c.args.op.now c.put-answer.result c.value_told-in-Put.result (ap (λ x. x.now) e.shards) (c.in-Put.is ∙ ap (λ v. Put c.in-Put.key v) (sym c.copy.ensures)) c.requires.session.holds c.requires.active e.told e.session c.value_told-in-Put.ensures.told).holds.misses

pub returns-in-Put-clause-told : goal.returns-in-Put-clause-told
returns-in-Put-clause-told g c = let s = c.args.self.now.session in let z = c.put-answer.new.self in let e = c.put-answer.ensures in
    (point_call s.shards.now c.args.self.now.asked value_in value_end c.in-Put.key (Put c.in-Put.key c.copy.result) (takes_value c.in-Put.key (Put c.in-Put.key c.copy.result) (puts c.copy.result)) z.shards.now s.walker z.walker s.progress z.progress c.args.op.now c.put-answer.result c.value_told-in-Put.result (ap (λ x. x.now) e.shards) (c.in-Put.is ∙ ap (λ v. Put c.in-Put.key v) (sym c.copy.ensures)) c.requires.session.holds c.requires.active e.told e.session c.value_told-in-Put.ensures.told).told

pub returns-in-Put-clause-grounds : goal.returns-in-Put-clause-grounds
returns-in-Put-clause-grounds g c = let s = c.args.self.now.session in let z = c.put-answer.new.self in let e = c.put-answer.ensures in
    (point_call s.shards.now c.args.self.now.asked value_in value_end c.in-Put.key (Put c.in-Put.key c.copy.result) (takes_value c.in-Put.key (Put c.in-Put.key c.copy.result) (puts c.copy.result)) z.shards.now s.walker z.walker s.progress z.progress c.args.op.now c.put-answer.result c.value_told-in-Put.result (ap (λ x. x.now) e.shards) (c.in-Put.is ∙ ap (λ v. Put c.in-Put.key v) (sym c.copy.ensures)) c.requires.session.holds c.requires.active e.told e.session c.value_told-in-Put.ensures.told).grounds

pub value_told-requires-in-Del : goal.value_told-requires-in-Del
value_told-requires-in-Del g c = let s = c.args.self.now.session in let z = c.del.new.self in let e = c.del.ensures in
    record { made = point_answers s.shards.now c.args.self.now.asked value_in value_end c.in-Del.key (Del c.in-Del.key) (takes_value c.in-Del.key (Del c.in-Del.key) dels) z.shards.now s.walker z.walker s.progress z.progress c.del.result (ap (λ x. x.now) e.shards) c.requires.session.holds c.requires.active e.told e.session }

pub returns-in-Del-clause-session : goal.returns-in-Del-clause-session
returns-in-Del-clause-session g c = let s = c.args.self.now.session in let z = c.del.new.self in let e = c.del.ensures in let h = c.requires.session in
    record {
      holds = (point_call s.shards.now c.args.self.now.asked value_in value_end c.in-Del.key (Del c.in-Del.key) (takes_value c.in-Del.key (Del c.in-Del.key) dels) z.shards.now s.walker z.walker s.progress z.progress c.args.op.now c.del.result c.value_told-in-Del.result (ap (λ x. x.now) e.shards) c.in-Del.is h.holds c.requires.active e.told e.session c.value_told-in-Del.ensures.told).holds.holds;
      saved = e.saved;
      leads = point_saves value_in s.shards.now s.walker z.walker z.progress (Del c.in-Del.key) c.in-Del.key c.del.result (leads_of c.args.self.now.saves.standing) s.progress e.told h.leads;
      numbered = h.numbered;
      rise = h.rise;
    }

pub returns-in-Del-clause-going : goal.returns-in-Del-clause-going
returns-in-Del-clause-going g c tx birth nth touched over st is = let s = c.args.self.now.session in let z = c.del.new.self in let e = c.del.ensures in
    (point_call s.shards.now c.args.self.now.asked value_in value_end c.in-Del.key (Del c.in-Del.key) (takes_value c.in-Del.key (Del c.in-Del.key) dels) z.shards.now s.walker z.walker s.progress z.progress c.args.op.now c.del.result c.value_told-in-Del.result (ap (λ x. x.now) e.shards) c.in-Del.is c.requires.session.holds c.requires.active e.told e.session c.value_told-in-Del.ensures.told).over c.args.self.now.saves tx birth nth touched over st is

pub returns-in-Del-clause-misses : goal.returns-in-Del-clause-misses
returns-in-Del-clause-misses g c = let s = c.args.self.now.session in let z = c.del.new.self in let e = c.del.ensures in
    (point_call s.shards.now c.args.self.now.asked value_in value_end c.in-Del.key (Del c.in-Del.key) (takes_value c.in-Del.key (Del c.in-Del.key) dels) z.shards.now s.walker z.walker s.progress z.progress c.args.op.now c.del.result c.value_told-in-Del.result (ap (λ x. x.now) e.shards) c.in-Del.is c.requires.session.holds c.requires.active e.told e.session c.value_told-in-Del.ensures.told).holds.misses

pub returns-in-Del-clause-told : goal.returns-in-Del-clause-told
returns-in-Del-clause-told g c = let s = c.args.self.now.session in let z = c.del.new.self in let e = c.del.ensures in
    (point_call s.shards.now c.args.self.now.asked value_in value_end c.in-Del.key (Del c.in-Del.key) (takes_value c.in-Del.key (Del c.in-Del.key) dels) z.shards.now s.walker z.walker s.progress z.progress c.args.op.now c.del.result c.value_told-in-Del.result (ap (λ x. x.now) e.shards) c.in-Del.is c.requires.session.holds c.requires.active e.told e.session c.value_told-in-Del.ensures.told).told

pub returns-in-Del-clause-grounds : goal.returns-in-Del-clause-grounds
returns-in-Del-clause-grounds g c = let s = c.args.self.now.session in let z = c.del.new.self in let e = c.del.ensures in
    (point_call s.shards.now c.args.self.now.asked value_in value_end c.in-Del.key (Del c.in-Del.key) (takes_value c.in-Del.key (Del c.in-Del.key) dels) z.shards.now s.walker z.walker s.progress z.progress c.args.op.now c.del.result c.value_told-in-Del.result (ap (λ x. x.now) e.shards) c.in-Del.is c.requires.session.holds c.requires.active e.told e.session c.value_told-in-Del.ensures.told).grounds

pub added_told-requires : goal.added_told-requires
added_told-requires g c = let s = c.args.self.now.session in let z = c.add.new.self in let e = c.add.ensures in
    record { made = point_answers s.shards.now c.args.self.now.asked added_in added_end c.in-Add.key (Add c.in-Add.key c.in-Add.by) (takes_added c.in-Add.key c.in-Add.by) z.shards.now s.walker z.walker s.progress z.progress c.add.result (ap (λ x. x.now) e.shards) c.requires.session.holds c.requires.active e.told e.session }

pub returns-in-Add-clause-session : goal.returns-in-Add-clause-session
returns-in-Add-clause-session g c = let s = c.args.self.now.session in let z = c.add.new.self in let e = c.add.ensures in let h = c.requires.session in
    record {
      holds = (point_call s.shards.now c.args.self.now.asked added_in added_end c.in-Add.key (Add c.in-Add.key c.in-Add.by) (takes_added c.in-Add.key c.in-Add.by) z.shards.now s.walker z.walker s.progress z.progress c.args.op.now c.add.result c.added_told.result (ap (λ x. x.now) e.shards) c.in-Add.is h.holds c.requires.active e.told e.session c.added_told.ensures.told).holds.holds;
      saved = e.saved;
      leads = point_saves added_in s.shards.now s.walker z.walker z.progress (Add c.in-Add.key c.in-Add.by) c.in-Add.key c.add.result (leads_of c.args.self.now.saves.standing) s.progress e.told h.leads;
      numbered = h.numbered;
      rise = h.rise;
    }

pub returns-in-Add-clause-going : goal.returns-in-Add-clause-going
returns-in-Add-clause-going g c tx birth nth touched over st is = let s = c.args.self.now.session in let z = c.add.new.self in let e = c.add.ensures in
    (point_call s.shards.now c.args.self.now.asked added_in added_end c.in-Add.key (Add c.in-Add.key c.in-Add.by) (takes_added c.in-Add.key c.in-Add.by) z.shards.now s.walker z.walker s.progress z.progress c.args.op.now c.add.result c.added_told.result (ap (λ x. x.now) e.shards) c.in-Add.is c.requires.session.holds c.requires.active e.told e.session c.added_told.ensures.told).over c.args.self.now.saves tx birth nth touched over st is

pub returns-in-Add-clause-misses : goal.returns-in-Add-clause-misses
returns-in-Add-clause-misses g c = let s = c.args.self.now.session in let z = c.add.new.self in let e = c.add.ensures in
    (point_call s.shards.now c.args.self.now.asked added_in added_end c.in-Add.key (Add c.in-Add.key c.in-Add.by) (takes_added c.in-Add.key c.in-Add.by) z.shards.now s.walker z.walker s.progress z.progress c.args.op.now c.add.result c.added_told.result (ap (λ x. x.now) e.shards) c.in-Add.is c.requires.session.holds c.requires.active e.told e.session c.added_told.ensures.told).holds.misses

pub returns-in-Add-clause-told : goal.returns-in-Add-clause-told
returns-in-Add-clause-told g c = let s = c.args.self.now.session in let z = c.add.new.self in let e = c.add.ensures in
    (point_call s.shards.now c.args.self.now.asked added_in added_end c.in-Add.key (Add c.in-Add.key c.in-Add.by) (takes_added c.in-Add.key c.in-Add.by) z.shards.now s.walker z.walker s.progress z.progress c.args.op.now c.add.result c.added_told.result (ap (λ x. x.now) e.shards) c.in-Add.is c.requires.session.holds c.requires.active e.told e.session c.added_told.ensures.told).told

pub returns-in-Add-clause-grounds : goal.returns-in-Add-clause-grounds
returns-in-Add-clause-grounds g c = let s = c.args.self.now.session in let z = c.add.new.self in let e = c.add.ensures in
    (point_call s.shards.now c.args.self.now.asked added_in added_end c.in-Add.key (Add c.in-Add.key c.in-Add.by) (takes_added c.in-Add.key c.in-Add.by) z.shards.now s.walker z.walker s.progress z.progress c.args.op.now c.add.result c.added_told.result (ap (λ x. x.now) e.shards) c.in-Add.is c.requires.session.holds c.requires.active e.told e.session c.added_told.ensures.told).grounds

pub pairs_told-requires : goal.pairs_told-requires
pairs_told-requires g c = let s = c.args.self.now.session in let z = c.scan-answer.new.self in let e = c.scan-answer.ensures in let b = c.bound.ensures in
    record { made = scan_answers s.shards.now c.args.self.now.asked z.shards.now s.walker z.walker s.progress z.progress c.in-Scan.lo c.in-Scan.hi c.bound.result c.args.op.now c.scan-answer.result (ap (λ x. x.now) e.shards) c.in-Scan.is b.same c.requires.session.holds c.requires.active c.requires.range b.small e.told e.session }

pub returns-in-Scan-clause-session : goal.returns-in-Scan-clause-session
returns-in-Scan-clause-session g c = let s = c.args.self.now.session in let z = c.scan-answer.new.self in let e = c.scan-answer.ensures in let b = c.bound.ensures in let h = c.requires.session in
    record {
      holds = (scan_call s.shards.now c.args.self.now.asked z.shards.now s.walker z.walker s.progress z.progress c.in-Scan.lo c.in-Scan.hi c.bound.result c.args.op.now c.scan-answer.result c.pairs_told.result (ap (λ x. x.now) e.shards) c.in-Scan.is b.same h.holds c.requires.active c.requires.range b.small e.told e.session c.pairs_told.ensures.told).holds.holds;
      saved = e.saved;
      leads = scan_saves s.shards.now s.walker z.walker s.progress z.progress c.in-Scan.lo c.bound.result c.scan-answer.result (leads_of c.args.self.now.saves.standing) h.holds.session e.told h.leads;
      numbered = h.numbered;
      rise = h.rise;
    }

pub returns-in-Scan-clause-going : goal.returns-in-Scan-clause-going
returns-in-Scan-clause-going g c tx birth nth touched over st is = let s = c.args.self.now.session in let z = c.scan-answer.new.self in let e = c.scan-answer.ensures in let b = c.bound.ensures in
    (scan_call s.shards.now c.args.self.now.asked z.shards.now s.walker z.walker s.progress z.progress c.in-Scan.lo c.in-Scan.hi c.bound.result c.args.op.now c.scan-answer.result c.pairs_told.result (ap (λ x. x.now) e.shards) c.in-Scan.is b.same c.requires.session.holds c.requires.active c.requires.range b.small e.told e.session c.pairs_told.ensures.told).over c.args.self.now.saves tx birth nth touched over st is

pub returns-in-Scan-clause-misses : goal.returns-in-Scan-clause-misses
returns-in-Scan-clause-misses g c = let s = c.args.self.now.session in let z = c.scan-answer.new.self in let e = c.scan-answer.ensures in let b = c.bound.ensures in
    (scan_call s.shards.now c.args.self.now.asked z.shards.now s.walker z.walker s.progress z.progress c.in-Scan.lo c.in-Scan.hi c.bound.result c.args.op.now c.scan-answer.result c.pairs_told.result (ap (λ x. x.now) e.shards) c.in-Scan.is b.same c.requires.session.holds c.requires.active c.requires.range b.small e.told e.session c.pairs_told.ensures.told).holds.misses

pub returns-in-Scan-clause-told : goal.returns-in-Scan-clause-told
returns-in-Scan-clause-told g c = let s = c.args.self.now.session in let z = c.scan-answer.new.self in let e = c.scan-answer.ensures in let b = c.bound.ensures in
    (scan_call s.shards.now c.args.self.now.asked z.shards.now s.walker z.walker s.progress z.progress c.in-Scan.lo c.in-Scan.hi c.bound.result c.args.op.now c.scan-answer.result c.pairs_told.result (ap (λ x. x.now) e.shards) c.in-Scan.is b.same c.requires.session.holds c.requires.active c.requires.range b.small e.told e.session c.pairs_told.ensures.told).told

pub returns-in-Scan-clause-grounds : goal.returns-in-Scan-clause-grounds
returns-in-Scan-clause-grounds g c = let s = c.args.self.now.session in let z = c.scan-answer.new.self in let e = c.scan-answer.ensures in let b = c.bound.ensures in
    (scan_call s.shards.now c.args.self.now.asked z.shards.now s.walker z.walker s.progress z.progress c.in-Scan.lo c.in-Scan.hi c.bound.result c.args.op.now c.scan-answer.result c.pairs_told.result (ap (λ x. x.now) e.shards) c.in-Scan.is b.same c.requires.session.holds c.requires.active c.requires.range b.small e.told e.session c.pairs_told.ensures.told).grounds
