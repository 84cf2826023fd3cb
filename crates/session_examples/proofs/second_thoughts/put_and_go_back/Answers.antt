use Rattle.std.proofs.Common.{◌∙◌, subst}
use Rattle.clv_base.specs.declared.values.Value.TheVariants.{Num}
use Rattle.session_examples.specs.Moves.{Acknowledges, HasLast}
use Rattle.session_examples.specs.SecondThoughts.{put_taken_back}
use Rattle.session_examples.proofs.Following.{later_on}
use Rattle.session_examples.proofs.Thinking.{ends_taken_back}
use Rattle.session_examples.proofs.second_thoughts.put_and_go_back.Goals as goal

pub returns-in-Ok-Moved-clause-later : goal.returns-in-Ok-Moved-clause-later
returns-in-Ok-Moved-clause-later g c = let w = c.args.session.now.walker in let u = c.begin.new.session.walker in let m = c.attempt-tried.new.session.walker in
    later_on w m c.finish.new.session.walker (later_on w u m c.begin.ensures.later c.attempt-tried.ensures.later) c.finish.ensures.later

pub returns-in-Ok-Moved-clause-went_back : goal.returns-in-Ok-Moved-clause-went_back
returns-in-Ok-Moved-clause-went_back g c =
    let w = c.args.session.now.walker in let b = c.begin.new.session in let m = c.attempt-tried.new.session.walker in let v = c.finish.new.session.walker in let key = c.args.key in let value = Num c.args.value in
    λ same. subst (λ x. (before : _) × HasLast (Acknowledges x.now.splits (put_taken_back key value before)) w v) c.begin.ensures.shards
    (ends_taken_back b.shards.now w b.walker m v key value c.attempt-tried.result c.finish.result c.begin.ensures.later c.attempt-tried.ensures.went_back c.finish.ensures.moved (let is = c.in-Ok-Moved.is in let moved = c.in-Ok-Moved.field-0-is in cc))

pub returns-in-Ok : goal.returns-in-Ok
returns-in-Ok g c = let w = c.args.session.now.walker in let u = c.begin.new.session.walker in let m = c.attempt-tried.new.session.walker in let e = c.finish.ensures in
    record {
      session = e.session;
      saved = e.saved;
      shards = e.shards ∙ (c.attempt-tried.ensures.shards ∙ c.begin.ensures.shards);
      later = later_on w m c.finish.new.session.walker (later_on w u m c.begin.ensures.later c.attempt-tried.ensures.later) e.later;
      closed = e.closed;
      went_back = λ same. absurd cc;
    }

pub returns-in-Err-clause-later : goal.returns-in-Err-clause-later
returns-in-Err-clause-later g c = let w = c.args.session.now.walker in let u = c.begin.new.session.walker in let m = c.attempt-tried.new.session.walker in
    later_on w m c.finish.new.session.walker (later_on w u m c.begin.ensures.later c.attempt-tried.ensures.later) c.finish.ensures.later
