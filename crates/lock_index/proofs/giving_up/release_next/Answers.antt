use Rattle.std.proofs.Common.{refl, sym, ◌∙◌, ap, subst, not, ◌&&◌}
use Rattle.clv_base.specs.Orders.{tx_same, anchor_same}
use Rattle.lock_table.specs.Rows.{has_lock_on, is_lock_of}
use Rattle.lock_index.specs.Groups.{rows_of}
use Rattle.lock_index.specs.Rows.{groups}
use Rattle.lock_index.specs.Rising.{Rising}
use Rattle.lock_index.proofs.Rising.{rising_filter}
use Rattle.lock_index.proofs.Ties.{given_up, none_released}
use Rattle.lock_index.proofs.giving_up.release_next.Goals as goal

pub returns-in_default-clause-kept : goal.returns-in_default-clause-kept
returns-in_default-clause-kept c = record {
  apart = c.requires.apart;
  rising = c.requires.rising;
  threaded = c.take_first.ensures.threaded;
  tied = λ t b. c.in_default.ensures.out.1 t b ∙ c.requires.tied t b;
}

pub returns-in_default-clause-given : goal.returns-in_default-clause-given
returns-in_default-clause-given c = let rows = rows_of (groups c.args.groups.now.entries) in
    (refl, none_released c.args.tx rows (λ b. sym (c.requires.tied c.args.tx b) ∙ c.in_default.ensures.out.0 b))

pub returns-clause-kept : goal.returns-clause-kept
returns-clause-kept c = let u = c.args.tx in let a = c.in-Some.anchor in let rows = rows_of (groups c.args.groups.now.entries) in record {
  apart = c.leave_on.ensures.apart;
  rising = subst Rising (sym c.leave_on.ensures.rows) (rising_filter (λ r. not (is_lock_of u a r)) rows c.requires.rising);
  threaded = c.take_first.ensures.threaded;
  tied = λ t b. c.in-Some.ensures.out.1 t b ∙ (ap (λ x. not (anchor_same a b && tx_same u t) && x) (c.requires.tied t b) ∙ sym (ap (has_lock_on t b) c.leave_on.ensures.rows ∙ given_up u a t b rows));
}

pub returns-clause-given : goal.returns-clause-given
returns-clause-given c = let u = c.args.tx in let a = c.in-Some.anchor in
    (sym (c.requires.tied u a) ∙ c.in-Some.ensures.out.0, c.leave_on.ensures.rows)
