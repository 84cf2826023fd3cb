-- The room that is reserved on the needs' anchors serves all of them.
use Rattle.std.proofs.Common.{◌≡◌, ◌≤◌, ◌<◌, ◌∙◌, List, [], ◌∷◌, length, get_or, refl, subst, sym, arith}
use Rattle.std.specs.List.{All, Contains}
use Rattle.std.proofs.lemmas.Result.{on_ok_weaker}
use Rattle.std.proofs.lemmas.List.Elements.{All-contains_itself}
use Rattle.clv_base.specs.declared.modes.Anchor.{Anchor}
use Rattle.clv_base.specs.declared.modes.Need.{Need}
use Rattle.lock_table.specs.Rows.{anchors_of}
use Rattle.shard_ops.proofs.locks.reserve_needed.Goals as goal

one_anchor : (needs : List Need) (d : Need) → 1 ≤ length needs → length needs < 2 → anchors_of needs ≡ (get_or needs 0 d).anchor ∷ []
one_anchor [] d some few = absurd (omega (arith, some))
one_anchor (n ∷ []) d some few = refl
one_anchor (n ∷ m ∷ ns) d some few = absurd (omega (arith, few))

pub returns-in-len1-clause-ok : goal.returns-in-len1-clause-ok
returns-in-len1-clause-ok g c =
    let needs = c.args.needs.now in
    let same : c.from_ref.result.now ≡ anchors_of needs = c.from_ref.ensures.value ∙ sym (one_anchor needs _ c.in-len1.len_at_least c.in-len1.len_below) in
    on_ok_weaker c.reserve.result (λ room. omega (arith, c.in-len1.len_below, room (anchors_of needs) (subst (λ (l : List Anchor). All (Contains l) (anchors_of needs)) (sym same) (All-contains_itself (anchors_of needs))))) c.reserve.ensures.ok

pub returns-in-Ok-clause-ok : goal.returns-in-Ok-clause-ok
returns-in-Ok-clause-ok g c =
    let same = c.deref.ensures.value ∙ c.in-Ok.ensures in
    on_ok_weaker c.reserve-in-Ok.result (λ room. room (anchors_of c.args.needs.now) (subst (λ (l : List Anchor). All (Contains l) (anchors_of c.args.needs.now)) (sym same) (All-contains_itself (anchors_of c.args.needs.now)))) c.reserve-in-Ok.ensures.ok
