use Rattle.std.proofs.Common.{ℕ, List, take, drop, sym, ◌∙◌, subst, arith, length-drop}
use Rattle.std.proofs.Math.Seq.{take-add}
use Rattle.std.proofs.lemmas.List.{take_rest}
use Rattle.io_model.specs.Streams.{Grows}
use Rattle.io_model.proofs.Following.{grows_more}
use Rattle.io_model.proofs.whole.write_all.Goals as goal

pub loop-at-preserved : goal.loop-at-preserved
loop-at-preserved g c = record {
  inside = omega (arith, c.in_ok-at.ensures.within, length-drop c.loop-at.at c.args.bytes.now);
  so_far = subst (Grows (g.K.Sink.taken c.args.sink.now) (g.K.Sink.taken c.write.new.self)) (sym (take-add c.loop-at.at c.in_ok-at.field-0 c.args.bytes.now))
      (grows_more _ _ _ (take c.loop-at.at c.args.bytes.now) (take c.in_ok-at.field-0 (drop c.loop-at.at c.args.bytes.now)) c.loop-at.invariant.so_far
      (subst (λ (r : List ℕ). Grows (g.K.Sink.taken c.loop-at.sink) (g.K.Sink.taken c.write.new.self) (take c.in_ok-at.field-0 r)) (take_rest c.args.bytes.now c.loop-at.at) c.in_ok-at.ensures.told));
  fine = c.in_ok-at.ensures.cause.fine ∙ c.loop-at.invariant.fine;
}
