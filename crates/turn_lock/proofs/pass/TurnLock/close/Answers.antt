use Rattle.std.proofs.Common.{arith, ◌≡◌, ◌++◌, [], ◌∷◌, length, sym, ap, subst, ◌∙◌, append-nil, append_assoc, Some}
use mathlib.Core.Option.{some-injective}
use Rattle.turn_lock.specs.Passes.{IsPassOf}
use Rattle.turn_lock.proofs.Sums.{no_one}
use Rattle.turn_lock.proofs.Keeps.{joins, ends, some_or}
use Rattle.turn_lock.proofs.Tells.{held, held-push, All-middle, All-front, tells, all_records}
use Rattle.turn_lock.proofs.pass.TurnLock.close.Goals as goal

pub loop-other-init : goal.loop-other-init
loop-other-init g c = let first = c.in-Some.field-0 in let rest = c.pop.new.self.items in record {
  can = tt;
  finite = tt;
  table = (All-middle (IsPassOf c.args.self) rest [] first (subst (Rattle.std.specs.List.All (IsPassOf c.args.self)) c.in-Some.ensures.items c.requires.ours));
  idle = first.rests.1;
  records = sym (append-nil first.seat.me.0.records);
  all = Rattle.std.proofs.Common.refl;
}

pub join_seat-requires : goal.join_seat-requires
join_seat-requires g c = let first = c.in-Some.field-0 in let rest = c.pop.new.self.items in let p = c.in-Some-2.field-0 in let z = c.args.self.sized in
    let ours = subst (Rattle.std.specs.List.All (IsPassOf c.args.self)) c.in-Some.ensures.items c.requires.ours in
    let front = All-front (IsPassOf c.args.self) rest (first ∷ []) ours in
    let left : rest ≡ c.loop-other.yielded ++ p ∷ c.next.new.self.rest.items = sym c.into_iter-other-iterator.ensures.into_iter_gives.0 ∙ (sym c.loop-other.invariant.all ∙ ap (λ l. c.loop-other.yielded ++ l) c.in-Some-2.ensures.steps.0) in
    let this = All-middle (IsPassOf c.args.self) c.loop-other.yielded c.next.new.self.rest.items p (subst (Rattle.std.specs.List.All (IsPassOf c.args.self)) left front) in (
      c.loop-other.invariant.table,
      this,
      p.rests.0,
      omega arith,
      joins g.T.Journaled.journal g.T.Journaled.origin g.T.Journaled.maker g.T.Journaled.durable g.T.Journaled.sound _ _ _ _ _ _ c.loop-other.invariant.idle p.rests.1,
    )

pub loop-other-preserved : goal.loop-other-preserved
loop-other-preserved g c = let first = c.in-Some.field-0 in let p = c.in-Some-2.field-0 in let now = c.join_seat.ensures.2 in let inv = c.loop-other.invariant in record {
  can = tt;
  finite = tt;
  table = c.join_seat.ensures.0 ∙ inv.table;
  idle = ap (λ m. m.0.stage) now ∙ inv.idle;
  records = ap (λ m. m.0.records) now ∙ (ap (λ rs. rs ++ p.seat.me.0.records) inv.records ∙ (append_assoc first.seat.me.0.records (held c.loop-other.yielded) p.seat.me.0.records ∙ ap (λ rs. first.seat.me.0.records ++ rs) (sym (held-push c.loop-other.yielded p))));
  all = append_assoc c.loop-other.yielded (p ∷ []) c.next.new.self.rest.items ∙ (ap (λ l. c.loop-other.yielded ++ l) (sym c.in-Some-2.ensures.steps.0) ∙ inv.all);
}

pub unreachable-requires-in_default-take : goal.unreachable-requires-in_default-take
unreachable-requires-in_default-take g c = let first = c.in-Some.field-0 in let rest = c.pop.new.self.items in let inv = c.loop-other.invariant in let items = c.args.passes.items in
    let stop = c.in-None.ensures.steps in let whole = c.loop-other.other-iterator.rest.ok in
    let none_left : c.loop-other.other-iterator.rest.items ≡ [] = no_one c.loop-other.other-iterator.rest.items (omega arith) in
    let all : c.loop-other.yielded ≡ rest = sym (append-nil c.loop-other.yielded) ∙ (ap (λ l. c.loop-other.yielded ++ l) (sym none_left) ∙ (inv.all ∙ c.into_iter-other-iterator.ensures.into_iter_gives.0)) in
    let recs : c.loop-other.seat.me.0.records ≡ first.seat.me.0.records ++ held rest = inv.records ∙ ap (λ l. first.seat.me.0.records ++ held l) all in
    let count = all_records items rest first c.loop-other.seat.me.0 c.in-Some.ensures.items recs in let ok = c.args.passes.ok in let total = c.requires.all in
    let full : length c.loop-other.seat.me.0.records ≡ c.args.self.table.shared.key.passes = omega arith in
    let e = ends g.T.Journaled.journal g.T.Journaled.origin g.T.Journaled.maker g.T.Journaled.durable g.T.Journaled.sound _ _ _ _ c.loop-other.seat.id c.loop-other.seat.me.0 c.close_with-closed.ensures.values.2 inv.idle full c.args.self.sized.2 in
    let is : c.take.result ≡ Some e.0 = some-injective c.take.result (Some e.0) (sym c.take.ensures.value ∙ e.1) in
    c.in_default-take.not-Some e.0 is

pub returns : goal.returns
returns g c = let first = c.in-Some.field-0 in let rest = c.pop.new.self.items in let inv = c.loop-other.invariant in let items = c.args.passes.items in
    let stop = c.in-None.ensures.steps in let whole = c.loop-other.other-iterator.rest.ok in
    let none_left : c.loop-other.other-iterator.rest.items ≡ [] = no_one c.loop-other.other-iterator.rest.items (omega arith) in
    let all : c.loop-other.yielded ≡ rest = sym (append-nil c.loop-other.yielded) ∙ (ap (λ l. c.loop-other.yielded ++ l) (sym none_left) ∙ (inv.all ∙ c.into_iter-other-iterator.ensures.into_iter_gives.0)) in
    let recs : c.loop-other.seat.me.0.records ≡ first.seat.me.0.records ++ held rest = inv.records ∙ ap (λ l. first.seat.me.0.records ++ held l) all in
    let count = all_records items rest first c.loop-other.seat.me.0 c.in-Some.ensures.items recs in let ok = c.args.passes.ok in let total = c.requires.all in
    let full : length c.loop-other.seat.me.0.records ≡ c.args.self.table.shared.key.passes = omega arith in
    let e = ends g.T.Journaled.journal g.T.Journaled.origin g.T.Journaled.maker g.T.Journaled.durable g.T.Journaled.sound _ _ _ _ c.loop-other.seat.id c.loop-other.seat.me.0 c.close_with-closed.ensures.values.2 inv.idle full c.args.self.sized.2 in
    let is : c.take.result ≡ Some e.0 = some-injective c.take.result (Some e.0) (sym c.take.ensures.value ∙ e.1) in
    let same : c.in-Some-take.value ≡ e.0 = ap (some_or e.0) (sym c.in-Some-take.is ∙ is) in
    let told = tells g.T.Journaled.journal g.T.Journaled.origin g.T.Journaled.maker g.T.Journaled.durable g.T.Journaled.sound _ _ c.in-Some-take.value items rest first c.loop-other.seat.me.0 c.in-Some.ensures.items recs (subst (λ x. Rattle.turn_lock.proofs.Keeps.Ended g.T.Journaled.journal g.T.Journaled.origin g.T.Journaled.maker g.T.Journaled.durable g.T.Journaled.sound c.args.self.table.shared.key.passes (g.T.Journaled.origin c.args.self.table.shared.key.value.value) c.loop-other.seat.me.0 x) (sym same) e.2) in
    record { origin = told.origin_is; seen = told.seen_is; own = told.own_is; others = told.others; sound = told.is_sound }
