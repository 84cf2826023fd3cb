-- The two sides of a shard's log: what each was asked, what reads of both give, and what a crash may leave of both.
use Rattle.std.specs.Prelude.{◌≡◌, ◌⊎◌, ℕ, zero, suc, List, Bool, Option, Some, None}
use Rattle.io_model.specs.Story.{Story, reads, IsImage}
use Rattle.io_model.specs.Crash.{AtEachMoment}

-- the stories of both
pub record Stories : Type 0 where
  pub side0 : Story
  pub side1 : Story

-- the bytes of both
pub record Images : Type 0 where
  pub side0 : List ℕ
  pub side1 : List ℕ

-- both stories, where both are told
abbrev pub both_told : Option Story → Option Story → Option Stories
both_told None b = None
both_told (Some a) None = None
both_told (Some a) (Some b) = Some (record { side0 = a; side1 = b })

-- what reads of both give
abbrev pub reads_both : Stories → Images
reads_both s = record { side0 = reads s.side0; side1 = reads s.side1 }

-- what a read of a disk gives, or what a crash now may leave of it
abbrev pub Shows : Story → List ℕ → Type 0
Shows s bytes = (bytes ≡ reads s) ⊎ IsImage s bytes

-- the same of both sides, each by itself
abbrev pub AreShown : Stories → Images → Type 0
AreShown s images = Shows s.side0 images.side0 × Shows s.side1 images.side1

-- whatever is shown now has P
abbrev pub EachShown : (Images → Type 0) → Stories → Type 0
EachShown P s = (images : Images) → AreShown s images → P images

-- One side was asked this and that, and the other nothing: at each moment what a crash leaves of the first has P with whatever the other shows.
abbrev pub MomentsOnSide0 : Stories → Stories → (Images → Type 0) → Type 0
MomentsOnSide0 old now P =
    (now.side1 ≡ old.side1) × AtEachMoment old.side0 now.side0 (λ a. (b : List ℕ) → Shows old.side1 b → P (record { side0 = a; side1 = b }))

abbrev pub MomentsOnSide1 : Stories → Stories → (Images → Type 0) → Type 0
MomentsOnSide1 old now P =
    (now.side0 ≡ old.side0) × AtEachMoment old.side1 now.side1 (λ b. (a : List ℕ) → Shows old.side0 a → P (record { side0 = a; side1 = b }))

-- and whatever is shown now has P
abbrev pub MomentsOfSides : (Images → Type 0) → Stories → Stories → Type 0
MomentsOfSides P old now = (MomentsOnSide0 old now P ⊎ MomentsOnSide1 old now P) × EachShown P now

-- ---- of a house, by shard

-- whether each side is out
abbrev pub sides_out : (ℕ → ℕ → Bool) → ℕ → Bool × Bool
sides_out is_out shard = (is_out shard 0, is_out shard 1)

-- by the side's number: that of side 0, or that of side 1
abbrev pub is_out_by : Bool → Bool → ℕ → Bool
is_out_by first second zero = first
is_out_by first second (suc n) = second

-- what both sides tell
abbrev pub sides_told : (ℕ → ℕ → Option Story) → ℕ → Option Stories
sides_told story shard = both_told (story shard 0) (story shard 1)
