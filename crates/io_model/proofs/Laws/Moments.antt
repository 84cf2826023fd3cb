-- How a run of calls goes on, moment by moment.
use Rattle.std.proofs.Common.{ℕ, List, [], ◌∷◌, ◌++◌, refl, sym, ◌∙◌, ap, subst, append_assoc}
use Rattle.io_model.specs.Story.{Call, Story, after, IsImage, IsImageAfter}
use Rattle.io_model.specs.Crash.{AllImages, AtEachMoment}

-- before the first call
pub moments_start : (s : Story) (P : List ℕ → Type 0) → ((image : List ℕ) → IsImage s image → P image) → AtEachMoment s s P
moments_start s P here = record { start = refl; newer = []; calls = refl; images = here }

-- one call more
pub moments_call : (old mid : Story) (call : Call) (P : List ℕ → Type 0) → AtEachMoment old mid P → ((image : List ℕ) → IsImage (after call mid) image → P image) → AtEachMoment old (after call mid) P
moments_call old mid call P so_far here = record {
  start = so_far.start;
  newer = call ∷ so_far.newer;
  calls = ap (λ (l : List Call). call ∷ l) so_far.calls;
  images = (so_far.images, λ image is. here image (subst (λ (l : List Call). IsImageAfter mid.start (call ∷ l) image) (sym so_far.calls) (subst (λ (b : List ℕ). IsImageAfter b (call ∷ (so_far.newer ++ old.calls)) image) (sym so_far.start) is)));
}

-- a longer run from a weaker fact
all_weaker : (start : List ℕ) (newer calls : List Call) (P Q : List ℕ → Type 0) → ((image : List ℕ) → P image → Q image) → AllImages start newer calls P → AllImages start newer calls Q
all_weaker start [] calls P Q f all = λ image is. f image (all image is)
all_weaker start (call ∷ newer) calls P Q f all = (all_weaker start newer calls P Q f all.0, λ image is. f image (all.1 image is))

pub moments_weaker : (old new : Story) (P Q : List ℕ → Type 0) → ((image : List ℕ) → P image → Q image) → AtEachMoment old new P → AtEachMoment old new Q
moments_weaker old new P Q f all = record { start = all.start; newer = all.newer; calls = all.calls; images = all_weaker old.start all.newer old.calls P Q f all.images }

-- what held at each moment holds at the last
pub moments_now : (old new : Story) (P : List ℕ → Type 0) → AtEachMoment old new P → (image : List ℕ) → IsImage new image → P image
moments_now old new P all image is =
    last all.newer all.images (subst (λ (l : List Call). IsImageAfter old.start l image) all.calls (subst (λ (b : List ℕ). IsImageAfter b new.calls image) all.start is))
  where
    last : (newer : List Call) → AllImages old.start newer old.calls P → IsImageAfter old.start (newer ++ old.calls) image → P image
    last [] images is = images image is
    last (call ∷ newer) images is = images.1 image is

-- one run behind another
pub moments_then : (old mid new : Story) (P : List ℕ → Type 0) → AtEachMoment old mid P → AtEachMoment mid new P → AtEachMoment old new P
moments_then old mid new P first next = record {
  start = next.start ∙ first.start;
  newer = next.newer ++ first.newer;
  calls = next.calls ∙ ap (λ (l : List Call). next.newer ++ l) first.calls ∙ sym (append_assoc next.newer first.newer old.calls);
  images = joined next.newer (subst (λ (l : List Call). AllImages old.start next.newer l P) first.calls (subst (λ (b : List ℕ). AllImages b next.newer mid.calls P) first.start next.images));
}
  where
    joined : (newer : List Call) → AllImages old.start newer (first.newer ++ old.calls) P → AllImages old.start (newer ++ first.newer) old.calls P
    joined [] all = first.images
    joined (call ∷ newer) all =
        (joined newer all.0, λ image is. all.1 image (subst (λ (l : List Call). IsImageAfter old.start (call ∷ l) image) (append_assoc newer first.newer old.calls) is))
