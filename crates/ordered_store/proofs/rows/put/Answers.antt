use Rattle.std.proofs.Common.{◌≡◌, ℕ, refl, ◌∙◌, ap, subst, set, if◌then◌else◌, None, arith}
use Rattle.std.specs.List.{insert}
use Rattle.std.specs.Ordering.{nat_cmp}
use Rattle.std.specs.FinMap.{is_sorted}
use Rattle.clv_base.specs.Needs.{found_at, is_there}
use Rattle.ordered_store.specs.Places.{StandsAt, IsGapAt}
use Rattle.ordered_store.proofs.Rising.{rises_from, rises_to}
use Rattle.ordered_store.proofs.Writing.{rises_set}
use Rattle.ordered_store.proofs.Placed.{value_here, there_here, set_here, inserted_here}
use Rattle.ordered_store.proofs.rows.put.Goals as goal

pub returns-in-Ok-clause-before : goal.returns-in-Ok-clause-before
returns-in-Ok-clause-before c = let rows = c.args.rows.now.items in
    let stands = subst (λ l. StandsAt c.args.key l c.in-Ok.at) c.deref.ensures.value c.in-Ok.ensures.there in
    c.value-before.ensures ∙ (ap (λ r. r.1) c.index.ensures ∙ value_here c.args.key rows c.in-Ok.at stands c.index.result.now)

pub returns-in-Ok-clause-rows : goal.returns-in-Ok-clause-rows
returns-in-Ok-clause-rows c = let rows = c.args.rows.now.items in
    let stands = subst (λ l. StandsAt c.args.key l c.in-Ok.at) c.deref.ensures.value c.in-Ok.ensures.there in
    ap (λ v. set rows c.in-Ok.at (c.args.key, v)) c.new.ensures ∙ set_here c.args.key rows c.in-Ok.at stands (0, None) c.args.value

pub returns-in-Ok-clause-rising : goal.returns-in-Ok-clause-rising
returns-in-Ok-clause-rising c = let rows = c.args.rows.now.items in
    let stands = subst (λ l. StandsAt c.args.key l c.in-Ok.at) c.deref.ensures.value c.in-Ok.ensures.there in
    ap (λ v. is_sorted nat_cmp (set rows c.in-Ok.at (c.args.key, v))) c.new.ensures ∙ ap (is_sorted nat_cmp) (set_here c.args.key rows c.in-Ok.at stands (0, None) c.args.value) ∙ rises_to _ (rises_set c.args.key c.args.value rows (rises_from rows c.requires.rising))

pub returns-in-Ok-clause-room : goal.returns-in-Ok-clause-room
returns-in-Ok-clause-room c = let rows = c.args.rows.now.items in
    let stands = subst (λ l. StandsAt c.args.key l c.in-Ok.at) c.deref.ensures.value c.in-Ok.ensures.there in
    let none_more : if◌then◌else◌ {A = ℕ} (is_there (found_at c.args.key rows)) 0 1 ≡ 0 = ap (λ b. if◌then◌else◌ {A = ℕ} b 0 1) (there_here c.args.key rows c.in-Ok.at stands (0, None)) in
    (refl, omega arith)

pub returns-in-Ok-insert-clause-rows : goal.returns-in-Ok-insert-clause-rows
returns-in-Ok-insert-clause-rows c = let rows = c.args.rows.now.items in
    let gap = subst (λ l. IsGapAt c.args.key l c.in-Err.at) c.deref.ensures.value c.in-Err.ensures.absent in
    c.in-Ok-insert.ensures.items ∙ ap (λ v. insert rows c.in-Err.at (c.args.key, v)) c.new-in-Err.ensures ∙ inserted_here c.args.key rows c.in-Err.at gap (0, None) c.args.value

pub returns-in-Ok-insert-clause-rising : goal.returns-in-Ok-insert-clause-rising
returns-in-Ok-insert-clause-rising c = let rows = c.args.rows.now.items in
    let gap = subst (λ l. IsGapAt c.args.key l c.in-Err.at) c.deref.ensures.value c.in-Err.ensures.absent in
    ap (is_sorted nat_cmp) (c.in-Ok-insert.ensures.items ∙ ap (λ v. insert rows c.in-Err.at (c.args.key, v)) c.new-in-Err.ensures ∙ inserted_here c.args.key rows c.in-Err.at gap (0, None) c.args.value) ∙ rises_to _ (rises_set c.args.key c.args.value rows (rises_from rows c.requires.rising))
