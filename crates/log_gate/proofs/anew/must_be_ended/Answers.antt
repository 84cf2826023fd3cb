use Rattle.std.proofs.Common.{◌≡◌, ℕ, inr, List, [], ◌∷◌, length, get_or, take, drop, true, eqb, Ok, Err, refl, sym, ◌∙◌, ap, subst, arith}
use Rattle.std.proofs.lemmas.Result.{err_from_is_err_and}
use Rattle.io_model.specs.Story.{Story, Len, Read, reads}
use Rattle.io_model.specs.Disk.{Measures, Reads}
use Rattle.io_model.proofs.Laws.Told.{Then, tells_then, tells_weaker}
use Rattle.io_model.specs.declared.disk.Failed.{Failed}
use Rattle.log_gate.specs.Opening.{Looked}
use Rattle.log_gate.specs.Switch.{must_end, Tests}
use Rattle.log_gate.proofs.Looking.{looked_call, looked_note, looked_then}
use Rattle.log_gate.proofs.anew.must_be_ended.Goals as goal

pub returns-in_err-len-clause-told : goal.returns-in_err-len-clause-told
returns-in_err-len-clause-told g c =
    let p = err_from_is_err_and c.from_residual.result c.from_residual.ensures.1 in
    rw p.1 (tells_weaker _ _ _ Looked (λ s t _ _ h. looked_note s t Len tt h) c.in_err-len.ensures.told)

none_there : (bytes : List ℕ) (len : ℕ) → len ≡ length bytes → len ≡ 0 → must_end bytes ≡ true
none_there [] len long none = refl
none_there (b ∷ bytes) len long none = absurd (omega (arith, long, none))

pub returns-then-branch-eq0-clause-told : goal.returns-then-branch-eq0-clause-told
returns-then-branch-eq0-clause-told g c =
    tells_weaker _ _ _ (Tests {E = Failed} (Ok true))
    (λ s t _ _ h. (subst (Looked s) (sym h.0) (looked_call s Len tt), sym (none_there (reads s) _ h.1 c.if-branch-eq0.true))) c.in_ok-len.ensures.told

-- the length was asked, and then the first byte was read, or that failed
abbrev Measured : ℕ → Story → Story → Type 0
Measured len s t = Measures {E = Failed} (Ok len) s t

measured : (len : ℕ) (s t : Story) → Measured len s t → Looked s t
measured len s t h = looked_note s t Len tt (inr h.0)

pub returns-in_err-read-clause-told : goal.returns-in_err-read-clause-told
returns-in_err-read-clause-told g c =
    let p = err_from_is_err_and c.from_residual-in_err-read.result c.from_residual-in_err-read.ensures.1 in
    let len = c.in_ok-len.field-0 in
    let into = c.read.new.into in
    let e = c.in_err-read.field-0.0 in
    rw p.1
    (tells_weaker _ _ (Then (Measured len) (Reads {A = Unit {0}} {E = Failed} 0 into (Err e))) Looked
    (λ s t _ _ h. looked_then s h.0 t (measured len s h.0 h.1) (looked_note h.0 t (Read 0 (length into)) tt h.2))
    (tells_then _ _ _ (Measured len) (Reads {A = Unit {0}} {E = Failed} 0 into (Err e)) c.in_ok-len.ensures.told c.in_err-read.ensures.told))

first_told : (bytes into : List ℕ) (len : ℕ) → len ≡ length bytes → (len ≡ 0 → ⊥) → length into ≡ 1 → into ≡ take (length into) (drop 0 bytes) → eqb (get_or into 0 0) 67 ≡ must_end bytes
first_told [] into len long some one read = absurd (some long)
first_told (b ∷ bytes) into len long some one read =
    let is : into ≡ b ∷ [] = read ∙ ap (λ (n : ℕ). take n (b ∷ bytes)) one in
    ap (λ (l : List ℕ). eqb (get_or l 0 0) 67) is

pub returns-clause-told : goal.returns-clause-told
returns-clause-told g c =
    let len = c.in_ok-len.field-0 in
    let into = c.read.new.into in
    tells_weaker _ _ (Then (Measured len) (Reads {A = Unit {0}} {E = Failed} 0 into (Ok tt))) (Tests {E = Failed} (Ok (eqb (get_or into 0 0) 67)))
    (λ s t _ _ h. (
      looked_then s h.0 t (measured len s h.0 h.1) (looked_note h.0 t (Read 0 (length into)) tt (inr h.2.0)),
      first_told (reads s) into len h.1.1 c.if-branch-eq0.false c.read.auto.into (subst (λ (m : Story). into ≡ take (length into) (drop 0 (reads m))) h.1.0 h.2.1),
    ))
    (tells_then _ _ _ (Measured len) (Reads {A = Unit {0}} {E = Failed} 0 into (Ok tt)) c.in_ok-len.ensures.told c.in_ok-read.ensures.told)
