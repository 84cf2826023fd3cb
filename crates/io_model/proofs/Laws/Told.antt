-- How calls follow one another, where a disk or both sides tell their story.
use Rattle.std.proofs.Common.{◌≡◌, Option, Some, None, refl, ◌∙◌, ap, subst}
use Rattle.io_model.specs.Story.{Story}
use Rattle.io_model.specs.Disk.{Tells}
use Rattle.io_model.specs.Sides.{Stories, both_told}

-- two relations, one after the other
abbrev pub Then : {S : Type 0} → (S → S → Type 0) → (S → S → Type 0) → S → S → Type 0
Then {S} R Q old new = (mid : S) × R old mid × Q mid new

pub tells_then : {S : Type 0} (old mid new : Option S) (R Q : S → S → Type 0) → Tells old mid R → Tells mid new Q → Tells old new (Then R Q)
tells_then None None new R Q first next = next
tells_then None (Some s) new R Q first next = absurd (cc)
tells_then {S} (Some s) None new R Q first next = let no : ◌≡◌ {A = Option S} None (Some first.0) = first.1 in absurd (cc)
tells_then {S} (Some s) (Some m) new R Q first next =
    let is : ◌≡◌ {A = Option S} (Some m) (Some first.0) = first.1 in
    let same : m ≡ first.0 = cc in
    (next.0, next.1, (first.0, first.2, subst (λ (v : S). Q v next.0) same next.2))

pub tells_weaker : {S : Type 0} (old new : Option S) (R Q : S → S → Type 0) → ((s t : S) → old ≡ Some s → new ≡ Some t → R s t → Q s t) → Tells old new R → Tells old new Q
tells_weaker None new R Q f h = h
tells_weaker (Some s) new R Q f h = (h.0, h.1, f s h.0 refl h.1 h.2)

-- nothing was asked
pub tells_same : {S : Type 0} (o : Option S) → Tells o o (λ s t. t ≡ s)
tells_same None = refl
tells_same (Some s) = (s, refl, refl)

-- both sides, from what each tells
none_told : (o : Option Story) → both_told o None ≡ None
none_told None = refl
none_told (Some s) = refl

pub both_tell : (o0 o1 n0 n1 : Option Story) (R0 R1 : Story → Story → Type 0) (R : Stories → Stories → Type 0) → Tells o0 n0 R0 → Tells o1 n1 R1
    → ((s t : Stories) → R0 s.side0 t.side0 → R1 s.side1 t.side1 → R s t) → Tells (both_told o0 o1) (both_told n0 n1) R
both_tell None o1 n0 n1 R0 R1 R first second f = ap (λ (o : Option Story). both_told o n1) first
both_tell (Some s0) None n0 n1 R0 R1 R first second f = ap (both_told n0) second ∙ none_told n0
both_tell (Some s0) (Some s1) n0 n1 R0 R1 R (t0, is0, r0) (t1, is1, r1) f =
    (record { side0 = t0; side1 = t1 }, ap (λ (o : Option Story). both_told o n1) is0 ∙ ap (both_told (Some t0)) is1, f (record { side0 = s0; side1 = s1 }) (record { side0 = t0; side1 = t1 }) r0 r1)
