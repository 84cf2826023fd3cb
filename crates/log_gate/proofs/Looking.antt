-- Calls that only look at a disk.
use Rattle.std.proofs.Common.{◌≡◌, inl, inr, ℕ, List, [], ◌∷◌, ◌++◌, Option, Some, None, IfSome, refl, sym, ◌∙◌, ap, subst, append_assoc}
use Rattle.std.specs.List.{AllByRecursion}
use Rattle.law_base.proofs.Lists.{all_append}
use Rattle.io_model.specs.Story.{Call, Len, Read, Write, Cut, Sync, Write_failed, Cut_failed, Sync_failed, Story, after, reads_after, reads, IsImageAfter, IsImage}
use Rattle.io_model.specs.Disk.{Tells, MayNote}
use Rattle.io_model.specs.Crash.{AtEachMoment}
use Rattle.io_model.proofs.Laws.Moments.{moments_call}
use Rattle.io_model.proofs.Laws.Told.{tells_then, tells_weaker}
use Rattle.log_gate.specs.Opening.{IsLook, Looked, Looks}

same_reads : (start : List ℕ) (newer calls : List Call) → AllByRecursion IsLook newer → reads_after start (newer ++ calls) ≡ reads_after start calls
same_reads start [] calls all = refl
same_reads start (Len ∷ newer) calls all = same_reads start newer calls all.1
same_reads start (Read at count ∷ newer) calls all = same_reads start newer calls all.1
same_reads start (Write at bytes ∷ newer) calls all = absurd all.0
same_reads start (Cut len ∷ newer) calls all = absurd all.0
same_reads start (Sync ∷ newer) calls all = absurd all.0
same_reads start (Write_failed at count left ∷ newer) calls all = absurd all.0
same_reads start (Cut_failed len left ∷ newer) calls all = absurd all.0
same_reads start (Sync_failed ∷ newer) calls all = absurd all.0

same_images : (start : List ℕ) (newer calls : List Call) (image : List ℕ) → AllByRecursion IsLook newer → IsImageAfter start (newer ++ calls) image → IsImageAfter start calls image
same_images start [] calls image all is = is
same_images start (Len ∷ newer) calls image all is = same_images start newer calls image all.1 is
same_images start (Read at count ∷ newer) calls image all is = same_images start newer calls image all.1 is
same_images start (Write at bytes ∷ newer) calls image all is = absurd all.0
same_images start (Cut len ∷ newer) calls image all is = absurd all.0
same_images start (Sync ∷ newer) calls image all is = absurd all.0
same_images start (Write_failed at count left ∷ newer) calls image all is = absurd all.0
same_images start (Cut_failed len left ∷ newer) calls image all is = absurd all.0
same_images start (Sync_failed ∷ newer) calls image all is = absurd all.0

pub looked_start : (s : Story) → Looked s s
looked_start s = record { newer = []; looks = tt; is = refl }

pub looked_call : (s : Story) (call : Call) → IsLook call → Looked s (after call s)
looked_call s call look = record { newer = call ∷ []; looks = (look, tt); is = refl }

-- a call that may have been noted
pub looked_note : (s t : Story) (call : Call) → IsLook call → MayNote call s t → Looked s t
looked_note s t call look (inl is) = subst (Looked s) (sym is) (looked_start s)
looked_note s t call look (inr is) = subst (Looked s) (sym is) (looked_call s call look)

pub looked_then : (a b c : Story) → Looked a b → Looked b c → Looked a c
looked_then a b c first next =
    let same : b ≡ record { start = a.start; calls = first.newer ++ a.calls } = first.is in
    record {
      newer = next.newer ++ first.newer;
      looks = all_append IsLook next.newer first.newer next.looks first.looks;
      is = next.is ∙ ap (λ (m : Story). record { start = m.start; calls = next.newer ++ m.calls }) same ∙ ap (λ (l : List Call). record { start = a.start; calls = l }) (sym (append_assoc next.newer first.newer a.calls));
    }

pub looked_reads : (s t : Story) → Looked s t → reads t ≡ reads s
looked_reads s t looked = ap reads looked.is ∙ same_reads s.start looked.newer s.calls looked.looks

pub looked_images : (s t : Story) (image : List ℕ) → Looked s t → IsImage t image → IsImage s image
looked_images s t image looked is = same_images s.start looked.newer s.calls image looked.looks (subst (λ (m : Story). IsImage m image) looked.is is)

-- at each moment a crash leaves what one before could leave
pub looked_moments : (old s t : Story) (P : List ℕ → Type 0) → AtEachMoment old s P → ((image : List ℕ) → IsImage s image → P image) → Looked s t → AtEachMoment old t P
looked_moments old s t P so_far here looked = subst (λ (m : Story). AtEachMoment old m P) (sym looked.is) (each looked.newer looked.looks)
  where
    each : (newer : List Call) → AllByRecursion IsLook newer → AtEachMoment old (record { start = s.start; calls = newer ++ s.calls }) P
    each [] all = so_far
    each (call ∷ newer) all =
        moments_call old (record { start = s.start; calls = newer ++ s.calls }) call P (each newer all.1) (λ image is. here image (same_images s.start (call ∷ newer) s.calls image all is))

-- where a disk was looked at, and something holds of what a read gives
pub tells_looks : (o n : Option Story) (P Q : List ℕ → Type 0) → ((bytes : List ℕ) → P bytes → Q bytes) → Tells o n (Looks P) → Tells o n (Looks Q)
tells_looks o n P Q f told = tells_weaker o n (Looks P) (Looks Q) (λ s t _ _ looks. (looks.0, f (reads s) looks.1)) told

pub tells_looks_if : (o n : Option Story) (L P Q : List ℕ → Type 0) → IfSome o (λ s. L (reads s)) → ((bytes : List ℕ) → L bytes → P bytes → Q bytes) → Tells o n (Looks P) → Tells o n (Looks Q)
tells_looks_if None n L P Q known f told = told
tells_looks_if (Some s) n L P Q known f (t, is, looks) = (t, is, (looks.0, f (reads s) known looks.1))

pub tells_looks_then : (o m n : Option Story) (P Q R : List ℕ → Type 0) → ((bytes : List ℕ) → P bytes → Q bytes → R bytes) → Tells o m (Looks P) → Tells m n (Looks Q) → Tells o n (Looks R)
tells_looks_then o m n P Q R f first next =
    tells_weaker o n _ (Looks R)
    (λ s t _ _ h. (looked_then s h.0 t h.1.0 h.2.0, f (reads s) h.1.1 (subst Q (looked_reads s h.0 h.1.0) h.2.1)))
    (tells_then o m n (Looks P) (Looks Q) first next)

-- what was known of what a read gives is known yet
pub still_known : (o n : Option Story) (L P : List ℕ → Type 0) → Tells o n (Looks P) → IfSome o (λ s. L (reads s)) → IfSome n (λ s. L (reads s))
still_known None n L P told known = subst (λ (v : Option Story). IfSome v (λ s. L (reads s))) (sym told) tt
still_known (Some s) n L P (t, is, looks) known = subst (λ (v : Option Story). IfSome v (λ s. L (reads s))) (sym is) (subst L (sym (looked_reads s t looks.0)) known)

-- at the start nothing was called
pub nothing_looked : (o : Option Story) (P : List ℕ → Type 0) → IfSome o (λ s. P (reads s)) → Tells o o (Looks P)
nothing_looked None P known = refl
nothing_looked (Some s) P known = (s, refl, (looked_start s, known))

-- what follows from what is known
pub known_more : (o : Option Story) (P Q : List ℕ → Type 0) → ((bytes : List ℕ) → P bytes → Q bytes) → IfSome o (λ s. P (reads s)) → IfSome o (λ s. Q (reads s))
known_more None P Q f known = tt
known_more (Some s) P Q f known = f (reads s) known
