use Rattle.std.proofs.Common.{◌≡◌, sym, ap, subst, Some}
use Rattle.std.specs.Prelude.{OnOk}
use Rattle.script_runs.specs.Seen.{going_at_start}
use Rattle.session_api.specs.Savepoints.{going_of}
use Rattle.session_api.proofs.SavedCalls.{begin_saves}
use Rattle.session_api.proofs.ScriptSaving.{held_none}
use Rattle.session_api.proofs.ScriptBeginning.{begin_alone, begin_done}
use Rattle.session_api.proofs.calls.ScriptSessionSessionCalls.begin.Goals as goal

pub begun-requires : goal.begun-requires
begun-requires g c = let s = c.args.self.now.session in let z = c.begin-answer.new.self in record { idle = begin_alone s.shards.now c.args.self.now.asked s.walker z.walker s.progress z.progress c.begin-answer.result c.requires.session.holds c.requires.idle c.begin-answer.ensures.told }

pub returns-clause-session : goal.returns-clause-session
returns-clause-session g c = let s = c.args.self.now.session in let z = c.begin-answer.new.self in let e = c.begin-answer.ensures in
    held_none z.shards.now z.walker z.progress z.saves.items c.clear.new.self c.clear.ensures (begin_done s.shards.now c.args.self.now.asked z.shards.now s.walker z.walker s.progress z.progress c.begin-answer.result c.begun.result (ap (λ x. x.now) e.shards) c.requires.session.holds c.requires.idle e.told e.session c.begun.ensures).0.holds e.saved
    (begin_saves s.shards.now s.walker z.walker s.progress z.progress c.begin-answer.result s.saves.items e.told c.requires.session.saved)

pub returns-clause-misses : goal.returns-clause-misses
returns-clause-misses g c = let s = c.args.self.now.session in let z = c.begin-answer.new.self in let e = c.begin-answer.ensures in
    (begin_done s.shards.now c.args.self.now.asked z.shards.now s.walker z.walker s.progress z.progress c.begin-answer.result c.begun.result (ap (λ x. x.now) e.shards) c.requires.session.holds c.requires.idle e.told e.session c.begun.ensures).0.misses

pub returns-clause-told : goal.returns-clause-told
returns-clause-told g c = let s = c.args.self.now.session in let z = c.begin-answer.new.self in let e = c.begin-answer.ensures in
    (begin_done s.shards.now c.args.self.now.asked z.shards.now s.walker z.walker s.progress z.progress c.begin-answer.result c.begun.result (ap (λ x. x.now) e.shards) c.requires.session.holds c.requires.idle e.told e.session c.begun.ensures).1

pub returns-clause-grounds : goal.returns-clause-grounds
returns-clause-grounds g c = let s = c.args.self.now.session in let z = c.begin-answer.new.self in let e = c.begin-answer.ensures in
    (begin_done s.shards.now c.args.self.now.asked z.shards.now s.walker z.walker s.progress z.progress c.begin-answer.result c.begun.result (ap (λ x. x.now) e.shards) c.requires.session.holds c.requires.idle e.told e.session c.begun.ensures).2

pub returns-clause-going : goal.returns-clause-going
returns-clause-going g c = let s = c.args.self.now.session in let z = c.begin-answer.new.self in let e = c.begin-answer.ensures in
    subst (λ x. OnOk c.begun.result (going_of z.progress x ≡ Some going_at_start)) (sym c.clear.ensures) (begin_done s.shards.now c.args.self.now.asked z.shards.now s.walker z.walker s.progress z.progress c.begin-answer.result c.begun.result (ap (λ x. x.now) e.shards) c.requires.session.holds c.requires.idle e.told e.session c.begun.ensures).3
