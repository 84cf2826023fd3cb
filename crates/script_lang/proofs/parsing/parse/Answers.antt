use Rattle.std.proofs.Common.{[], refl, arith, sym, subst, ◌≡◌, ℕ, length}
use Rattle.script_lang.specs.Grammar.{IsRefused, too_long}
use Rattle.script_lang.proofs.Steps.{refused_at, taken_one, no_place_of, no_place_by, went_on, went_not, ends_open}
use Rattle.script_lang.proofs.parsing.parse.Goals as goal

pub returns-then-bytes-gt-MOST_BYTES-clause-refused : goal.returns-then-bytes-gt-MOST_BYTES-clause-refused
returns-then-bytes-gt-MOST_BYTES-clause-refused c = λ n e. let first : 0 ≡ n = cc in subst (λ (m : ℕ). IsRefused c.args.bytes.now m) first (too_long (omega arith))

pub loop-rest-init : goal.loop-rest-init
loop-rest-init c = record { taken = ([], refl, refl, sym c.new-reader.ensures); count = omega arith; short = omega arith }

pub returns-in_default-line-clause-refused : goal.returns-in_default-line-clause-refused
returns-in_default-line-clause-refused c = λ n e.
    refused_at c.args.bytes.now c.loop-rest.rest.now c.cut_line.result.0.now c.cut_line.result.1.now c.loop-rest.number c.loop-rest.reader
    c.loop-rest.invariant.short c.loop-rest.invariant.taken c.cut_line.ensures.cut (no_place_of _ _ (rw c.in_default-line.is at c.in-Ok.ensures.ok)) n (cc)

pub returns-then-not-has_place-clause-refused : goal.returns-then-not-has_place-clause-refused
returns-then-not-has_place-clause-refused c = λ n e.
    let none = went_not _ _ _ c.in-Ok-take.ensures c.if-not-has_place.true in
    refused_at c.args.bytes.now c.loop-rest.rest.now c.cut_line.result.0.now c.cut_line.result.1.now c.loop-rest.number c.loop-rest.reader
    c.loop-rest.invariant.short c.loop-rest.invariant.taken c.cut_line.ensures.cut (no_place_by _ _ c.in-Some.line (rw c.in-Some.is at c.in-Ok.ensures.ok) none) n (cc)

pub loop-rest-preserved : goal.loop-rest-preserved
loop-rest-preserved c =
    let next = went_on _ _ _ c.in-Ok-take.ensures c.if-not-has_place.false in
    record {
      taken = taken_one c.args.bytes.now c.loop-rest.rest.now c.cut_line.result.0.now c.cut_line.result.1.now c.loop-rest.number
          c.loop-rest.reader c.take.new.self c.in-Some.line c.loop-rest.invariant.taken c.cut_line.ensures.cut (rw c.in-Some.is at c.in-Ok.ensures.ok) next;
      count = omega arith;
      short = c.loop-rest.invariant.short;
    }

pub returns-in-Ok-None-clause-refused : goal.returns-in-Ok-None-clause-refused
returns-in-Ok-None-clause-refused c = λ n e.
    let empty : length c.loop-rest.rest.now ≡ 0 = grind arith in
    let left = rw c.in-Ok-None.field-0-is at c.in-Ok-None.ensures in
    ends_open c.args.bytes.now c.loop-rest.rest.now c.loop-rest.number c.loop-rest.reader c.loop-rest.invariant.short empty c.loop-rest.invariant.taken left n (cc)
