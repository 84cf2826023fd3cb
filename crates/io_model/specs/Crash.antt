-- What a crash at some moment since an earlier one may have left.
use Rattle.std.specs.Prelude.{◌≡◌, ℕ, List, [], ◌∷◌, ◌++◌}
use Rattle.io_model.specs.Story.{Call, Story, IsImageAfter}

-- each image at each moment from this start and these calls on has P, while the newer calls are made
abbrev pub AllImages : List ℕ → List Call → List Call → (List ℕ → Type 0) → Type 0
AllImages start [] calls P = (image : List ℕ) → IsImageAfter start calls image → P image
AllImages start (call ∷ newer) calls P = AllImages start newer calls P × ((image : List ℕ) → IsImageAfter start (call ∷ (newer ++ calls)) image → P image)

-- now goes on from old, and what a crash at any moment from old to now leaves has P
pub record AtEachMoment (old now : Story) (P : List ℕ → Type 0) : Type 0 where
  pub start : now.start ≡ old.start
  pub newer : List Call
  pub calls : now.calls ≡ newer ++ old.calls
  pub images : AllImages old.start newer old.calls P
