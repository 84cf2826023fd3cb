use Rattle.std.proofs.Common.{ℕ, ◌+◌, [], List, take, refl, sym, ap, ◌∙◌, arith}
use Rattle.std.proofs.lemmas.Bool.{both_ways}
use Rattle.clv_base.specs.Maps.{KeyMap, acts_answers}
use Rattle.session_books.specs.Done.{Done}
use Rattle.report_reading.specs.Told.{numbered}
use Rattle.clv_audit.specs.Right.{answers_of}
use Rattle.clv_audit.proofs.Judging.{wrong_at, wrong_serial, wrong_answers, not_above, told_at, in_bounds, lasts_first, zeros, right_first, one_more}
use Rattle.clv_audit.proofs.auditing.first_wrong.Goals as goal

pub returns-then-tx-lasts : goal.returns-then-tx-lasts
returns-then-tx-lasts c =
    let t = c.tx-item.result in
    let i = c.loop-tx.tx-index in
    let front = take i c.args.txs.now in
    let known = in_bounds t (told_at c.args.txs.now i t c.loop-tx-test.true c.tx-item.is c.requires.can) in
    wrong_at c.args.pairs.now c.args.txs.now i (c.loop-tx.place + 1) t c.loop-tx-test.true c.tx-item.is (ap (λ (k : ℕ). k + 1) c.loop-tx.invariant.place) c.loop-tx.invariant.right
    (wrong_serial c.args.pairs.now front t (not_above front c.loop-tx.lasts t c.loop-tx.invariant.lasts known.0 c.if-tx-lasts.true))

pub returns-then-not-branch : goal.returns-then-not-branch
returns-then-not-branch c =
    let t = c.tx-item.result in
    let i = c.loop-tx.tx-index in
    let front = take i c.args.txs.now in
    wrong_at c.args.pairs.now c.args.txs.now i (c.loop-tx.place + 1) t c.loop-tx-test.true c.tx-item.is (ap (λ (k : ℕ). k + 1) c.loop-tx.invariant.place) c.loop-tx.invariant.right
    (wrong_answers c.args.pairs.now front t
    (λ same.
    both_ways c.in_ok-acts_are_right.field-0 c.if-not-branch.true
    (c.in_ok-acts_are_right.ensures.right.1
    (ap (λ (ds : List Done). acts_answers (numbered ds) c.loop-tx.pairs []) c.as_slice.ensures ∙ ap (λ (m : KeyMap). acts_answers (numbered t.acts) m []) c.loop-tx.invariant.pairs ∙ same ∙ ap answers_of (sym c.as_slice.ensures)))))

pub loop-tx-init : goal.loop-tx-init
loop-tx-init c =
    record {
      place = refl;
      size = refl;
      lasts = lasts_first _ (zeros 65);
      right = right_first c.args.pairs.now;
      pairs = refl;
      rises = c.requires.rises;
    }

pub loop-tx-preserved : goal.loop-tx-preserved
loop-tx-preserved c =
    let t = c.tx-item.result in
    let i = c.loop-tx.tx-index in
    let kept = c.loop-tx.invariant in
    let known = in_bounds t (told_at c.args.txs.now i t c.loop-tx-test.true c.tx-item.is c.requires.can) in
    let above = c.if-tx-lasts.false in
    let after = c.in_ok-acts_are_right.ensures.after c.if-not-branch.false in
    let more =
    one_more c.args.pairs.now c.loop-tx.pairs c.acts_are_right.new.pairs c.args.txs.now i c.loop-tx.lasts t c.as_slice.result.now c.loop-tx-test.true c.tx-item.is known.1 c.as_slice.ensures kept.size kept.lasts kept.right kept.pairs (omega arith)
    (c.in_ok-acts_are_right.ensures.right.0 c.if-not-branch.false) after.0 in
    record { place = ap (λ (k : ℕ). k + 1) kept.place; size = more.size; lasts = more.lasts; right = more.right; pairs = more.pairs; rises = after.1 }
