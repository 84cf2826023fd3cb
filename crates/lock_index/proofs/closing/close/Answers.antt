use Rattle.std.proofs.Common.{◌≡◌, suc, ◌-◌, ◌+◌, sym, ◌∙◌, ap, subst, Some, map, length, arith}
use Rattle.std.specs.Option.{option_flatten}
use Rattle.clv_base.specs.Locks.{Locks, close_holder, close_locks}
use Rattle.lock_table.specs.Rows.{has_lock_on}
use Rattle.lock_index.specs.Groups.{rows_of, Apart}
use Rattle.lock_index.specs.Rows.{groups}
use Rattle.lock_index.specs.Writes.{there}
use Rattle.lock_index.specs.Rising.{Rising}
use Rattle.lock_index.specs.Links.{nexts}
use Rattle.lock_index.specs.Closings.{Closing, close_row}
use Rattle.lock_index.proofs.Settings.{apart_each}
use Rattle.lock_index.proofs.Ties.{closed_lock}
use Rattle.lock_index.proofs.Closed.{closed_there, closing_begins, closing_goes_on, closing_ended, closing_at_end, rising_closed}
use Rattle.lock_index.proofs.closing.close.Goals as goal

pub walk-init : goal.walk-init
walk-init c = let ls = c.args.links.now.entries in let rows = rows_of (groups c.args.groups.now.entries) in let N = nexts ls in record {
  closing = subst (λ n. Closing N c.args.tx c.first-at.result n rows rows) (let e : length ls ≡ length ls - 0 = omega arith in e) (subst (λ o. Closing N c.args.tx o (length ls) rows rows) (sym c.first-at.ensures) (closing_begins c.args.tx ls rows c.requires.threaded c.requires.tied));
  apart = c.requires.apart;
  room = λ a. omega arith;
}

pub returns-in_default-clause-rows : goal.returns-in_default-clause-rows
returns-in_default-clause-rows c = let ls = c.args.links.now.entries in
    closing_at_end c.args.tx (nexts ls) c.walk.at (length ls - c.walk.i) (rows_of (groups c.args.groups.now.entries)) (rows_of (groups c.walk.groups.entries)) c.in_default.is c.walk.invariant.closing

pub walk-preserved : goal.walk-preserved
walk-preserved c = let u = c.args.tx in let a = c.in-Some.anchor in let ls = c.args.links.now.entries in let N = nexts ls in
    let before = rows_of (groups c.args.groups.now.entries) in let now = rows_of (groups c.walk.groups.entries) in
    let one : length ls - c.walk.i ≡ suc (length ls - (c.walk.i + 1)) = omega (arith, c.walk-test.true, c.walk.auto.i-end, c.len-i-end.ensures.len) in
    let here : Closing N u (Some a) (suc (length ls - (c.walk.i + 1))) before now = subst (λ n. Closing N u (Some a) n before now) one (subst (λ o. Closing N u o (length ls - c.walk.i) before now) c.in-Some.is c.walk.invariant.closing) in
    let then : option_flatten (N u (Some a)) ≡ c.flatten-at.result = sym (c.flatten-at.ensures ∙ ap option_flatten c.next.ensures) in
    let rows : map (close_row u a) now ≡ rows_of (groups c.close_on.new.groups.entries) = sym (ap rows_of c.close_on.ensures.groups ∙ closed_there u a (groups c.walk.groups.entries)) in record {
      closing = subst (λ (l : Locks). Closing N u c.flatten-at.result (length ls - (c.walk.i + 1)) before l) rows (subst (λ o. Closing N u o (length ls - (c.walk.i + 1)) before (map (close_row u a) now)) then (closing_goes_on u N a (length ls - (c.walk.i + 1)) before now here));
      apart = subst Apart (sym c.close_on.ensures.groups) (apart_each (there a (map (close_holder u))) (groups c.walk.groups.entries) c.walk.invariant.apart);
      room = λ b. (let r = c.walk.invariant.room b in let q = c.close_on.ensures.room b in omega arith);
    }

pub returns-clause-rows : goal.returns-clause-rows
returns-clause-rows c = let ls = c.args.links.now.entries in let u = c.args.tx in
    let before = rows_of (groups c.args.groups.now.entries) in let now = rows_of (groups c.walk.groups.entries) in
    let none : length ls - c.walk.i ≡ 0 = omega (arith, c.walk-test.false, c.walk.auto.i-end, c.len-i-end.ensures.len) in
    closing_ended u (nexts ls) c.walk.at before now (subst (λ n. Closing (nexts ls) u c.walk.at n before now) none c.walk.invariant.closing)

pub returns-in_default-clause-kept : goal.returns-in_default-clause-kept
returns-in_default-clause-kept c = let ls = c.args.links.now.entries in let u = c.args.tx in let before = rows_of (groups c.args.groups.now.entries) in let now = rows_of (groups c.walk.groups.entries) in
    let rows : now ≡ close_locks u before = closing_at_end u (nexts ls) c.walk.at (length ls - c.walk.i) before now c.in_default.is c.walk.invariant.closing in record {
      apart = c.walk.invariant.apart;
      rising = subst Rising (sym rows) (rising_closed u before c.requires.rising);
      threaded = c.requires.threaded;
      tied = λ t b. c.requires.tied t b ∙ sym (ap (has_lock_on t b) rows ∙ closed_lock u t b before);
    }

pub returns-clause-kept : goal.returns-clause-kept
returns-clause-kept c = let ls = c.args.links.now.entries in let u = c.args.tx in let before = rows_of (groups c.args.groups.now.entries) in let now = rows_of (groups c.walk.groups.entries) in
    let rows : now ≡ close_locks u before = (let none : length ls - c.walk.i ≡ 0 = omega (arith, c.walk-test.false, c.walk.auto.i-end, c.len-i-end.ensures.len) in closing_ended u (nexts ls) c.walk.at before now (subst (λ n. Closing (nexts ls) u c.walk.at n before now) none c.walk.invariant.closing)) in record {
      apart = c.walk.invariant.apart;
      rising = subst Rising (sym rows) (rising_closed u before c.requires.rising);
      threaded = c.requires.threaded;
      tied = λ t b. c.requires.tied t b ∙ sym (ap (has_lock_on t b) rows ∙ closed_lock u t b before);
    }
