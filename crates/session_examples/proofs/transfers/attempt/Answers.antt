use Rattle.std.proofs.Common.{◌∙◌, sym, subst, arith, List, [], ◌∷◌, ◌++◌, Some, IfOk}
use Rattle.clv_base.specs.declared.values.Value.TheVariants.{Num}
use Rattle.clv_base.specs.declared.ops.Op.TheVariants.{Get, Put}
use Rattle.clv_base.specs.declared.ops.Answer.TheVariants.{Value}
use Rattle.session_books.specs.Done.{Done, Did}
use Rattle.session_examples.specs.Moves.{Doing, HasMoved, reads_and_writes}
use Rattle.session_examples.proofs.Following.{later_on}
use Rattle.session_examples.proofs.Moving.{if_moved}
use Rattle.session_examples.proofs.transfers.attempt.Goals as goal

pub returns-in_err-write-clause-later : goal.returns-in_err-write-clause-later
returns-in_err-write-clause-later g c = later_on c.args.session.now.walker c.plan.new.session.walker c.write.new.session.walker c.plan.ensures.later c.write.ensures.later

pub returns-in_err-write-2-clause-later : goal.returns-in_err-write-2-clause-later
returns-in_err-write-2-clause-later g c = let w = c.args.session.now.walker in let u = c.write.new.session.walker in
    later_on w u c.write-2.new.session.walker (later_on w c.plan.new.session.walker u c.plan.ensures.later c.write.ensures.later) c.write-2.ensures.later

pub returns-clause-later : goal.returns-clause-later
returns-clause-later g c = let w = c.args.session.now.walker in let u = c.write.new.session.walker in let v = c.write-2.new.session.walker in
    later_on w v c.commit.new.session.walker (later_on w u v (later_on w c.plan.new.session.walker u c.plan.ensures.later c.write.ensures.later) c.write-2.ensures.later) c.commit.ensures.later

pub returns-clause-moved : goal.returns-clause-moved
returns-clause-moved g c =
    let w = c.args.session.now.walker in let a = c.plan.new.session in let b = c.write.new.session in let d = c.write-2.new.session in let v = c.commit.new.session.walker in
    let p = c.in_ok-left.ensures.planned in
    let from = c.args.from in let to = c.args.to in let left = c.in_ok-left.left in let sum = c.in_ok-left.sum in
    let read : List Done = Did (Get from) (Value (Some (Num p.0))) ∷ Did (Get to) (Value (Some (Num p.1))) ∷ [] in
    let one = c.in_ok-write.ensures.done w read (subst (λ x. Doing x.now w a.walker a.progress read) (sym c.plan.ensures.shards) p.5) in
    let wrote : List Done = read ++ Did (Put from (Num left)) (Value one.0) ∷ [] in
    let two = c.in_ok-write-2.ensures.done w wrote (subst (λ x. Doing x.now w b.walker b.progress wrote) (sym c.write.ensures.shards) one.1) in
    let did = reads_and_writes from to p.0 p.1 left sum (Value one.0) (Value two.0) in
    let all = c.commit.ensures.done w did (omega arith) (subst (λ x. Doing x.now w d.walker d.progress did) (sym c.write-2.ensures.shards) two.1) in
    subst (λ x. IfOk c.commit.result (λ u. HasMoved x.now from to c.args.amount w v)) (c.write-2.ensures.shards ∙ (c.write.ensures.shards ∙ c.plan.ensures.shards))
    (if_moved d.shards.now c.commit.result w v from to c.args.amount left sum p.0 p.1 (Value one.0) (Value two.0) p.2 p.3 p.4 all)
