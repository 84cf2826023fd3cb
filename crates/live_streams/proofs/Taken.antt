-- What was taken from the rings of all lanes, step by step.
use Rattle.std.proofs.Common.{refl, sym, ap, ◌∙◌, subst, ℕ, ◌<◌, List, [], ◌++◌, length, get_or, set, append_assoc, arith, get_or-set_same, get_or-set_other, length-set}
use native.Mathlib.Decide.{ℕ_discrete}
use mathlib.Core.Logic.{dite}
use Rattle.rtrb.specs.Ring.{received}
use Rattle.rtrb.specs.declared.consumer.Consumer.{Consumer}
use Rattle.live_lines.specs.declared.calls.Reply.{Reply}
use Rattle.live_streams.specs.Outputs.{of_lane}
use Rattle.live_streams.specs.Written.{TookOf, TookEach}
use Rattle.live_streams.specs.Same.{same_consumers}
use Rattle.live_streams.proofs.Lines.{took_none}
use Rattle.live_streams.proofs.OfLanes.{with_lane, of_lane-append, of_lane-own, of_lane-other}

module _ {A P : Type 0} where
  -- more was taken of one ring
  pub took_of_on : (a b c : Consumer Reply A P) (rs ss : List Reply) → TookOf a b rs → TookOf b c ss → TookOf a c (rs ++ ss)
  took_of_on a b c rs ss (same, is) (still, grown) = (same_consumers a b c same still, grown ∙ (ap (λ l. l ++ ss) is ∙ append_assoc (received a) rs ss))

  pub took_each_none : (all : List (Consumer Reply A P)) → TookEach all all []
  took_each_none all = (refl, λ k d l. took_none (get_or all k d))

  -- more was taken of all
  pub took_each_on : (a b c : List (Consumer Reply A P)) (w v : List (ℕ × Reply)) → TookEach a b w → TookEach b c v → TookEach a c (w ++ v)
  took_each_on a b c w v (len, each) (long, more) =
      (long ∙ len, λ k d l. subst (λ (rs : List Reply). TookOf (get_or a k d) (get_or c k d) rs) (sym (of_lane-append k w v)) (took_of_on (get_or a k d) (get_or b k d) (get_or c k d) (of_lane k w) (of_lane k v) (each k d l) (more k d (omega arith))))

  -- more was taken of one lane's
  pub took_at : (all : List (Consumer Reply A P)) (lane : ℕ) (x : Consumer Reply A P) (rs : List Reply) → lane < length all → ((d : Consumer Reply A P) → TookOf (get_or all lane d) x rs) → TookEach all (set all lane x) (with_lane lane rs)
  took_at all lane x rs low took = (
    length-set all lane x,
    λ k d l. dite (ℕ_discrete k lane)
        (λ same. subst (λ (j : ℕ). TookOf (get_or all j d) (get_or (set all lane x) j d) (of_lane j (with_lane lane rs))) (sym same)
        (subst (λ (y : Consumer Reply A P). TookOf (get_or all lane d) y (of_lane lane (with_lane lane rs))) (sym (get_or-set_same all lane x d low))
        (subst (λ (l : List Reply). TookOf (get_or all lane d) x l) (sym (of_lane-own lane rs)) (took d))))
        (λ other. subst (λ (y : Consumer Reply A P). TookOf (get_or all k d) y (of_lane k (with_lane lane rs))) (sym (get_or-set_other all lane k x d other))
        (subst (λ (l : List Reply). TookOf (get_or all k d) (get_or all k d) l) (sym (of_lane-other lane k rs (λ e. other (sym e)))) (took_none (get_or all k d)))),
  )
