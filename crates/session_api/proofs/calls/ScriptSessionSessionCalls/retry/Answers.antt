use Rattle.std.proofs.Common.{◌≡◌, ◌∙◌, sym, ap, subst, Some}
use Rattle.std.specs.Prelude.{OnOk}
use Rattle.script_runs.specs.Seen.{going_at_start}
use Rattle.session_api.specs.Savepoints.{Saved, leads_of, going_of}
use Rattle.session_api.proofs.SavedCalls.{retry_saves}
use Rattle.session_api.proofs.ScriptSaving.{held_none}
use Rattle.clv_base.specs.declared.names.Birth.{Birth}
use Rattle.script_runs.specs.Seen.{Idle}
use Rattle.session_api.specs.Sessions.{found_in}
use Rattle.session_api.specs.Standing.{standing_of}
use Rattle.session_api.proofs.ScriptBeginning.{retry_alone}
use Rattle.session_api.proofs.ScriptRetrying.{round_done, shard_was_down, retried_done}
use Rattle.session_api.proofs.calls.ScriptSessionSessionCalls.retry.Goals as goal

-- ---- the round found a shard down

pub returns-in-Some-clause-session : goal.returns-in-Some-clause-session
returns-in-Some-clause-session g c = let s = c.args.self.now.session in let x = c.shard_down.new.self in let e = c.shard_down.ensures in let h = c.requires.session in
    record {
      holds = (round_done s.shards.now c.args.self.now.asked x.shards.now s.walker x.walker s.progress x.progress (found_in c.shard_down.result) (ap (λ z. z.now) e.shards) e.progress h.holds e.session e.walker e.round).holds_on.holds;
      saved = e.saved;
      leads = subst (λ t. Saved t (leads_of c.args.self.now.saves.standing)) (sym e.progress) h.leads;
      numbered = h.numbered;
      rise = h.rise;
    }

pub returns-in-Some-clause-misses : goal.returns-in-Some-clause-misses
returns-in-Some-clause-misses g c = let s = c.args.self.now.session in let x = c.shard_down.new.self in let e = c.shard_down.ensures in
    (round_done s.shards.now c.args.self.now.asked x.shards.now s.walker x.walker s.progress x.progress (found_in c.shard_down.result) (ap (λ z. z.now) e.shards) e.progress c.requires.session.holds e.session e.walker e.round).holds_on.misses

pub returns-in-Some-clause-told : goal.returns-in-Some-clause-told
returns-in-Some-clause-told g c birth idle = let s = c.args.self.now.session in let x = c.shard_down.new.self in let e = c.shard_down.ensures in (
  (round_done s.shards.now c.args.self.now.asked x.shards.now s.walker x.walker s.progress x.progress (found_in c.shard_down.result) (ap (λ z. z.now) e.shards) e.progress c.requires.session.holds e.session e.walker e.round).grows,
  ap standing_of e.progress ∙ idle,
)

pub returns-in-Some-clause-grounds : goal.returns-in-Some-clause-grounds
returns-in-Some-clause-grounds g c = let s = c.args.self.now.session in let x = c.shard_down.new.self in
    shard_was_down s.walker x.walker c.shard_down.result c.in-Some.shard c.shard_down.ensures.round c.in-Some.is

-- ---- another try follows

pub retried-requires : goal.retried-requires
retried-requires g c = let s = c.args.self.now.session in let x = c.shard_down.new.self in let z = c.retry-answer.new.self in let e = c.shard_down.ensures in
    let done = round_done s.shards.now c.args.self.now.asked x.shards.now s.walker x.walker s.progress x.progress (found_in c.shard_down.result) (ap (λ y. y.now) e.shards) e.progress c.requires.session.holds e.session e.walker e.round in
    let k = retry_alone x.shards.now c.args.self.now.asked x.walker z.walker x.progress z.progress c.retry-answer.result done.holds_on.holds (subst (λ y. (birth : Birth) × (standing_of y ≡ Idle (Some birth))) (sym e.progress) c.requires.ended) c.retry-answer.ensures.told in
    record { idle = k.0; ended = k.1 }

pub returns-in-None-clause-session : goal.returns-in-None-clause-session
returns-in-None-clause-session g c = let s = c.args.self.now.session in let x = c.shard_down.new.self in let z = c.retry-answer.new.self in let e = c.shard_down.ensures in let f = c.retry-answer.ensures in
    let done = round_done s.shards.now c.args.self.now.asked x.shards.now s.walker x.walker s.progress x.progress (found_in c.shard_down.result) (ap (λ y. y.now) e.shards) e.progress c.requires.session.holds e.session e.walker e.round in
    held_none z.shards.now z.walker z.progress z.saves.items c.clear.new.self c.clear.ensures (retried_done s.shards.now c.args.self.now.asked x.shards.now z.shards.now s.walker x.walker z.walker s.progress x.progress z.progress c.retry-answer.result c.retried.result done (ap (λ y. y.now) f.shards) e.progress c.requires.ended f.told f.session c.retried.ensures).0.holds f.saved
    (retry_saves x.shards.now x.walker z.walker x.progress z.progress c.retry-answer.result x.saves.items f.told e.saved)

pub returns-in-None-clause-misses : goal.returns-in-None-clause-misses
returns-in-None-clause-misses g c = let s = c.args.self.now.session in let x = c.shard_down.new.self in let z = c.retry-answer.new.self in let e = c.shard_down.ensures in let f = c.retry-answer.ensures in
    let done = round_done s.shards.now c.args.self.now.asked x.shards.now s.walker x.walker s.progress x.progress (found_in c.shard_down.result) (ap (λ y. y.now) e.shards) e.progress c.requires.session.holds e.session e.walker e.round in
    (retried_done s.shards.now c.args.self.now.asked x.shards.now z.shards.now s.walker x.walker z.walker s.progress x.progress z.progress c.retry-answer.result c.retried.result done (ap (λ y. y.now) f.shards) e.progress c.requires.ended f.told f.session c.retried.ensures).0.misses

pub returns-in-None-clause-told : goal.returns-in-None-clause-told
returns-in-None-clause-told g c = let s = c.args.self.now.session in let x = c.shard_down.new.self in let z = c.retry-answer.new.self in let e = c.shard_down.ensures in let f = c.retry-answer.ensures in
    let done = round_done s.shards.now c.args.self.now.asked x.shards.now s.walker x.walker s.progress x.progress (found_in c.shard_down.result) (ap (λ y. y.now) e.shards) e.progress c.requires.session.holds e.session e.walker e.round in
    (retried_done s.shards.now c.args.self.now.asked x.shards.now z.shards.now s.walker x.walker z.walker s.progress x.progress z.progress c.retry-answer.result c.retried.result done (ap (λ y. y.now) f.shards) e.progress c.requires.ended f.told f.session c.retried.ensures).1

pub returns-in-None-clause-grounds : goal.returns-in-None-clause-grounds
returns-in-None-clause-grounds g c = let s = c.args.self.now.session in let x = c.shard_down.new.self in let z = c.retry-answer.new.self in let e = c.shard_down.ensures in let f = c.retry-answer.ensures in
    let done = round_done s.shards.now c.args.self.now.asked x.shards.now s.walker x.walker s.progress x.progress (found_in c.shard_down.result) (ap (λ y. y.now) e.shards) e.progress c.requires.session.holds e.session e.walker e.round in
    (retried_done s.shards.now c.args.self.now.asked x.shards.now z.shards.now s.walker x.walker z.walker s.progress x.progress z.progress c.retry-answer.result c.retried.result done (ap (λ y. y.now) f.shards) e.progress c.requires.ended f.told f.session c.retried.ensures).2

pub returns-in-None-clause-going : goal.returns-in-None-clause-going
returns-in-None-clause-going g c = let s = c.args.self.now.session in let x = c.shard_down.new.self in let z = c.retry-answer.new.self in let e = c.shard_down.ensures in let f = c.retry-answer.ensures in
    let done = round_done s.shards.now c.args.self.now.asked x.shards.now s.walker x.walker s.progress x.progress (found_in c.shard_down.result) (ap (λ y. y.now) e.shards) e.progress c.requires.session.holds e.session e.walker e.round in
    subst (λ y. OnOk c.retried.result (going_of z.progress y ≡ Some going_at_start)) (sym c.clear.ensures) (retried_done s.shards.now c.args.self.now.asked x.shards.now z.shards.now s.walker x.walker z.walker s.progress x.progress z.progress c.retry-answer.result c.retried.result done (ap (λ y. y.now) f.shards) e.progress c.requires.ended f.told f.session c.retried.ensures).3
