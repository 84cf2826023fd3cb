use Rattle.std.proofs.Common.{◌≡◌, ◌∙◌, refl, sym, ap, subst, arith, List, [], ◌∷◌, true, Some, IfOk}
use Rattle.clv_base.specs.declared.values.Value.TheVariants.{Num}
use Rattle.clv_base.specs.declared.ops.Op.TheVariants.{Put}
use Rattle.clv_base.specs.declared.ops.Answer.TheVariants.{Value}
use Rattle.law_base.proofs.Options.{some_inj}
use Rattle.session_books.specs.Done.{Done, Did, WentBack}
use Rattle.script_runs.specs.Acts.{stands_above, written_by}
use Rattle.session_api.specs.Progresses.{acts_in}
use Rattle.session_api.specs.GoingBack.{has_number}
use Rattle.session_examples.specs.Moves.{Doing, HasAcknowledged}
use Rattle.session_examples.specs.SecondThoughts.{put_taken_back}
use Rattle.session_examples.proofs.Following.{same_later, later_on}
use Rattle.session_examples.proofs.Thinking.{if_taken_back}
use Rattle.session_examples.proofs.second_thoughts.attempt.Goals as goal

pub go_back-requires-clause-kept : goal.go_back-requires-clause-kept
go_back-requires-clause-kept g c = subst (λ l. has_number c.in_ok-upto.upto l.items ≡ true) (sym c.write.ensures.saves) c.in_ok-upto.ensures.kept.1

pub returns-in_err-upto-clause-later : goal.returns-in_err-upto-clause-later
returns-in_err-upto-clause-later g c = same_later c.args.session.now.walker c.keep.new.session.walker c.keep.ensures.rest.1

pub returns-in_err-write-clause-later : goal.returns-in_err-write-clause-later
returns-in_err-write-clause-later g c = let w = c.args.session.now.walker in let a = c.keep.new.session.walker in
    later_on w a c.write.new.session.walker (same_later w a c.keep.ensures.rest.1) c.write.ensures.later

pub returns-in_err-go_back-clause-later : goal.returns-in_err-go_back-clause-later
returns-in_err-go_back-clause-later g c = let w = c.args.session.now.walker in let a = c.keep.new.session.walker in let b = c.write.new.session.walker in
    later_on w b c.go_back.new.session.walker (later_on w a b (same_later w a c.keep.ensures.rest.1) c.write.ensures.later) c.go_back.ensures.later

pub returns-clause-later : goal.returns-clause-later
returns-clause-later g c = let w = c.args.session.now.walker in let a = c.keep.new.session.walker in let b = c.write.new.session.walker in let d = c.go_back.new.session.walker in
    later_on w d c.commit.new.session.walker (later_on w b d (later_on w a b (same_later w a c.keep.ensures.rest.1) c.write.ensures.later) c.go_back.ensures.later) c.commit.ensures.later

pub returns-clause-went_back : goal.returns-clause-went_back
returns-clause-went_back g c =
    let s = c.args.session.now in let w = s.walker in let a = c.keep.new.session in let b = c.write.new.session in let d = c.go_back.new.session in let v = c.commit.new.session.walker in
    let rest = c.keep.ensures.rest in let fresh = c.requires.fresh in let key = c.args.key in let value = Num c.args.value in let upto = c.in_ok-upto.upto in
    let zero : upto ≡ 0 = some_inj upto 0 (sym c.in_ok-upto.ensures.kept.0 ∙ ap acts_in fresh.is ∙ ap (λ n. Some n) fresh.nth_is) in
    let kept : Doing a.shards.now w a.walker a.progress [] =
    subst (λ x. Doing a.shards.now w a.walker x []) (sym rest.2) (subst (λ x. Doing a.shards.now w x s.progress []) (sym rest.1) (subst (λ x. Doing x.now w w s.progress []) (sym rest.0) fresh)) in
    let one = c.in_ok-write.ensures.done w [] kept in
    let wrote : List Done = Did (Put key value) (Value one.0) ∷ [] in
    let above : stands_above upto (written_by b.shards.now.splits wrote) ≡ true = subst (λ u. stands_above u (written_by b.shards.now.splits wrote) ≡ true) (sym zero) refl in
    let two = c.in_ok-go_back.ensures.done w wrote (subst (λ x. Doing x.now w b.walker b.progress wrote) (sym c.write.ensures.shards) one.1) above in
    let did = put_taken_back key value one.0 in
    let back = subst (λ u. Doing b.shards.now w d.walker d.progress (Did (Put key value) (Value one.0) ∷ WentBack u ∷ [])) zero two in
    let all = c.commit.ensures.done w did (omega arith) (subst (λ x. Doing x.now w d.walker d.progress did) (sym c.go_back.ensures.shards) back) in
    subst (λ x. IfOk c.commit.result (λ u. (before : _) × HasAcknowledged x.now (put_taken_back key value before) w v)) (c.go_back.ensures.shards ∙ (c.write.ensures.shards ∙ rest.0))
    (if_taken_back d.shards.now c.commit.result w v key value one.0 all)
