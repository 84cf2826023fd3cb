-- What callers are told of the answer at a key.
use Rattle.std.proofs.Common.{◌≡◌, ◌∙◌, refl, sym, ap, subst, ℕ, Result, Ok, Err}
use Rattle.clv_base.specs.declared.ops.Op.{Op}
use Rattle.clv_base.specs.declared.ops.Answer.{Answer}
use Rattle.clv_base.specs.declared.ops.Answer.TheVariants.{Value, Pairs, Added}
use Rattle.clv_base.specs.Sessions.{SessionState}
use Rattle.cluster_turns.specs.declared.shards.Shards.{Shards}
use Rattle.cluster_turns.specs.declared.shards.Walker.{Walker}
use Rattle.session_ops.specs.declared.operating.OpError.{OpError as Failure}
use Rattle.session_ops.specs.Parts.{StandsUnless, has_died, value_in, added_in, whole_in}
use Rattle.session_ops.proofs.Laws.{told_by, value_died, added_died}
use Rattle.session_api.specs.declared.progress.Progress.{Progress}
use Rattle.session_api.specs.declared.progress.Progress.TheVariants.{Idle, Active, Worn, Undone, Asked, Ended}
use Rattle.session_api.specs.declared.operating.OpError.{OpError}
use Rattle.session_api.specs.Progresses.{answer_told, value_given, added_given, refusal_of, after_op}
use Rattle.session_api.specs.Sessions.{OpRefused, PointMade, PointCalled}

-- what a session gives of its answer is what is told of the operation's
pub record Gives {A : Type 0} (tells : Result Answer Failure → Result A Failure) (gives : Result Answer OpError → Result A OpError) : Type 0 where
  pub died : (r : Result Answer Failure) → has_died (tells r) ≡ has_died r
  pub given : (r : Result Answer Failure) → gives (answer_told r) ≡ answer_told (tells r)
  pub refused : (e : OpError) → gives (Err e) ≡ Err e

value_told : (r : Result Answer Failure) → value_given (answer_told r) ≡ answer_told (value_in r)
value_told (Ok (Value value)) = refl
value_told (Ok (Pairs pairs)) = refl
value_told (Ok (Added found)) = refl
value_told (Err e) = refl

added_told : (r : Result Answer Failure) → added_given (answer_told r) ≡ answer_told (added_in r)
added_told (Ok (Value value)) = refl
added_told (Ok (Pairs pairs)) = refl
added_told (Ok (Added found)) = refl
added_told (Err e) = refl

pub gives_value : Gives value_in value_given
gives_value = record { died = value_died; given = value_told; refused = λ e. refl }

pub gives_added : Gives added_in added_given
gives_added = record { died = added_died; given = added_told; refused = λ e. refl }

module _ {M S G A : Type 0} (tells : Result Answer Failure → Result A Failure) (gives : Result Answer OpError → Result A OpError) (does : Gives tells gives) (sh : Shards M S G) (w v : Walker M S G) (op : Op) (key : ℕ) (r : Result Answer OpError)
    (t : Progress) where
  made_by : (p : SessionState) → PointMade whole_in sh w p op key r v t → PointMade tells sh w p op key (gives r) v t
  made_by p m = record {
    answer = tells m.answer;
    place = m.place;
    told = told_by tells sh w v p m.place op key m.answer (tells m.answer) m.told refl;
    walker = m.walker;
    stands = subst (λ b. StandsUnless b sh v m.place) (sym (does.died m.answer)) m.stands;
    is = ap gives m.is ∙ does.given m.answer;
    then = m.then ∙ ap (after_op m.place) (sym (does.died m.answer));
  }

  refused_by : (s : Progress) → OpRefused w s r v t → OpRefused w s (gives r) v t
  refused_by s c = (ap gives c.0 ∙ does.refused (refusal_of s), c.1, c.2)

  called : (s : Progress) → PointCalled whole_in sh w s op key r v t → PointCalled tells sh w s op key (gives r) v t
  called (Active p) c = made_by p c
  called Idle c = refused_by Idle c
  called (Worn p) c = refused_by (Worn p) c
  called (Undone p n upto) c = refused_by (Undone p n upto) c
  called (Asked p home stamp) c = refused_by (Asked p home stamp) c
  called (Ended p) c = refused_by (Ended p) c

  pub called_by : (s : Progress) (x : Result A OpError) → x ≡ gives r → PointCalled whole_in sh w s op key r v t → PointCalled tells sh w s op key x v t
  called_by s x is c = subst (λ y. PointCalled tells sh w s op key y v t) (sym is) (called s c)
