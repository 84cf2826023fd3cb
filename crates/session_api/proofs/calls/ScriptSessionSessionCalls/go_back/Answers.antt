use Rattle.std.proofs.Common.{◌≡◌, ◌∙◌, ℕ, Some, sym, ap, ap₂, subst, unwrap_or, nat_lt, OnOk}
use Rattle.law_base.proofs.Options.{some_inj}
use Rattle.script_lang.specs.Savepoints.{upto_of}
use Rattle.script_runs.specs.Seen.{going_back_to}
use Rattle.script_runs.specs.Told.{BackTold}
use Rattle.session_api.specs.Savepoints.{leads_of, going_of}
use Rattle.session_api.specs.Standing.{seen_in}
use Rattle.session_api.proofs.SavedCalls.{back_saves}
use Rattle.session_api.proofs.ScriptSaving.{over_these, lead_stands, held_back}
use Rattle.session_api.proofs.ScriptGoingBack.{back_answers, back_call}
use Rattle.session_api.proofs.calls.ScriptSessionSessionCalls.go_back.Goals as goal

pub go_back_to-answer-requires-clause-stands : goal.go_back_to-answer-requires-clause-stands
go_back_to-answer-requires-clause-stands g c = let s = c.args.self.now in lead_stands s.session.progress c.args.number c.in-Some.upto s.saves.standing (sym c.in-Some.ensures) c.requires.session.leads

pub gone_back-requires : goal.gone_back-requires
gone_back-requires g c = let s = c.args.self.now.session in let z = c.go_back_to-answer.new.self in let e = c.go_back_to-answer.ensures in let h = c.requires.session in let k = c.requires.stands in
    record {
      made =
          back_answers s.shards.now c.args.self.now.asked z.shards.now s.walker z.walker s.progress z.progress c.args.self.now.saves c.args.number c.in-Some.upto k.0 (nat_lt c.unwrap_or-before.result c.unwrap_or.result) c.go_back_to-answer.result (ap (λ x. x.now) e.shards) k.2 h.holds
          (lead_stands s.progress c.args.number c.in-Some.upto c.args.self.now.saves.standing (sym c.in-Some.ensures) h.leads) e.told e.session
          (ap₂ nat_lt (c.unwrap_or-before.ensures ∙ ap (λ o. unwrap_or o 0) c.acts.ensures.count) (c.unwrap_or.ensures ∙ ap (λ o. unwrap_or o 0) c.acts-in-Some.ensures.count));
    }

pub returns-clause-session : goal.returns-clause-session
returns-clause-session g c = let s = c.args.self.now.session in let z = c.go_back_to-answer.new.self in let e = c.go_back_to-answer.ensures in let h = c.requires.session in let k = c.requires.stands in
    held_back s.shards.now z.shards.now s.walker z.walker s.progress z.progress s.saves.items z.saves.items c.args.self.now.saves c.go_back.new.self c.args.number c.in-Some.upto k.0 h c.go_back.ensures (sym c.in-Some.ensures) k.2
    (back_call s.shards.now c.args.self.now.asked z.shards.now s.walker z.walker s.progress z.progress c.args.self.now.saves c.args.number c.in-Some.upto k.0 (nat_lt c.unwrap_or-before.result c.unwrap_or.result) c.go_back_to-answer.result c.gone_back.result (ap (λ x. x.now) e.shards) k.2 h.holds
    (lead_stands s.progress c.args.number c.in-Some.upto c.args.self.now.saves.standing (sym c.in-Some.ensures) h.leads) e.told e.session
    (ap₂ nat_lt (c.unwrap_or-before.ensures ∙ ap (λ o. unwrap_or o 0) c.acts.ensures.count) (c.unwrap_or.ensures ∙ ap (λ o. unwrap_or o 0) c.acts-in-Some.ensures.count)) c.gone_back.ensures.told).holds.holds e.saved
    (back_saves s.shards.now s.walker z.walker s.progress z.progress c.in-Some.upto c.go_back_to-answer.result (leads_of c.args.self.now.saves.standing) e.told h.leads)

pub returns-clause-misses : goal.returns-clause-misses
returns-clause-misses g c = let s = c.args.self.now.session in let z = c.go_back_to-answer.new.self in let e = c.go_back_to-answer.ensures in let h = c.requires.session in let k = c.requires.stands in
    (back_call s.shards.now c.args.self.now.asked z.shards.now s.walker z.walker s.progress z.progress c.args.self.now.saves c.args.number c.in-Some.upto k.0 (nat_lt c.unwrap_or-before.result c.unwrap_or.result) c.go_back_to-answer.result c.gone_back.result (ap (λ x. x.now) e.shards) k.2 h.holds
    (lead_stands s.progress c.args.number c.in-Some.upto c.args.self.now.saves.standing (sym c.in-Some.ensures) h.leads) e.told e.session
    (ap₂ nat_lt (c.unwrap_or-before.ensures ∙ ap (λ o. unwrap_or o 0) c.acts.ensures.count) (c.unwrap_or.ensures ∙ ap (λ o. unwrap_or o 0) c.acts-in-Some.ensures.count)) c.gone_back.ensures.told).holds.misses

pub returns-clause-told : goal.returns-clause-told
returns-clause-told g c tx birth nth touched over upto st going found = let s = c.args.self.now.session in let z = c.go_back_to-answer.new.self in let e = c.go_back_to-answer.ensures in let h = c.requires.session in
    let same = some_inj c.in-Some.upto upto (c.in-Some.ensures ∙ ap (λ z. upto_of c.args.number z.standing) (sym (over_these s.progress c.args.self.now.saves over going)) ∙ found) in
    subst (λ (n : ℕ). BackTold tx birth nth touched n over.written c.gone_back.result (seen_in s.shards.now s.walker c.args.self.now.asked s.progress) (seen_in z.shards.now z.walker c.args.self.now.asked z.progress)) same
    ((back_call s.shards.now c.args.self.now.asked z.shards.now s.walker z.walker s.progress z.progress c.args.self.now.saves c.args.number c.in-Some.upto over (nat_lt c.unwrap_or-before.result c.unwrap_or.result) c.go_back_to-answer.result c.gone_back.result (ap (λ x. x.now) e.shards) going h.holds
    (lead_stands s.progress c.args.number c.in-Some.upto c.args.self.now.saves.standing (sym c.in-Some.ensures) h.leads) e.told e.session
    (ap₂ nat_lt (c.unwrap_or-before.ensures ∙ ap (λ o. unwrap_or o 0) c.acts.ensures.count) (c.unwrap_or.ensures ∙ ap (λ o. unwrap_or o 0) c.acts-in-Some.ensures.count)) c.gone_back.ensures.told).told tx birth nth touched over st going)

pub returns-clause-going : goal.returns-clause-going
returns-clause-going g c over upto going found = let s = c.args.self.now.session in let z = c.go_back_to-answer.new.self in let e = c.go_back_to-answer.ensures in let h = c.requires.session in
    let same = some_inj c.in-Some.upto upto (c.in-Some.ensures ∙ ap (λ z. upto_of c.args.number z.standing) (sym (over_these s.progress c.args.self.now.saves over going)) ∙ found) in
    subst (λ (n : ℕ). OnOk c.gone_back.result (going_of z.progress c.go_back.new.self ≡ Some (going_back_to c.args.number n over))) same
    (subst (λ x. OnOk c.gone_back.result (going_of z.progress x ≡ Some (going_back_to c.args.number c.in-Some.upto over))) (sym c.go_back.ensures)
    ((back_call s.shards.now c.args.self.now.asked z.shards.now s.walker z.walker s.progress z.progress c.args.self.now.saves c.args.number c.in-Some.upto over (nat_lt c.unwrap_or-before.result c.unwrap_or.result) c.go_back_to-answer.result c.gone_back.result (ap (λ x. x.now) e.shards) going h.holds
    (lead_stands s.progress c.args.number c.in-Some.upto c.args.self.now.saves.standing (sym c.in-Some.ensures) h.leads) e.told e.session
    (ap₂ nat_lt (c.unwrap_or-before.ensures ∙ ap (λ o. unwrap_or o 0) c.acts.ensures.count) (c.unwrap_or.ensures ∙ ap (λ o. unwrap_or o 0) c.acts-in-Some.ensures.count)) c.gone_back.ensures.told).going over going))

pub returns-clause-grounds : goal.returns-clause-grounds
returns-clause-grounds g c = let s = c.args.self.now.session in let z = c.go_back_to-answer.new.self in let e = c.go_back_to-answer.ensures in let h = c.requires.session in let k = c.requires.stands in
    (back_call s.shards.now c.args.self.now.asked z.shards.now s.walker z.walker s.progress z.progress c.args.self.now.saves c.args.number c.in-Some.upto k.0 (nat_lt c.unwrap_or-before.result c.unwrap_or.result) c.go_back_to-answer.result c.gone_back.result (ap (λ x. x.now) e.shards) k.2 h.holds
    (lead_stands s.progress c.args.number c.in-Some.upto c.args.self.now.saves.standing (sym c.in-Some.ensures) h.leads) e.told e.session
    (ap₂ nat_lt (c.unwrap_or-before.ensures ∙ ap (λ o. unwrap_or o 0) c.acts.ensures.count) (c.unwrap_or.ensures ∙ ap (λ o. unwrap_or o 0) c.acts-in-Some.ensures.count)) c.gone_back.ensures.told).grounds
