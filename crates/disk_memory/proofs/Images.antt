-- What a crash leaves by choice is what it may leave.
use Rattle.std.proofs.Common.{◌≡◌, ◌⊎◌, inl, inr, ℕ, ◌+◌, ◌-◌, ◌≤◌, ◌<◌, min, List, [], ◌∷◌, ◌++◌, length, take, drop, replicate, refl, sym, ◌∙◌, ap, subst, arith, length-append, length-drop, append_assoc}
use Rattle.std.proofs.lemmas.List.{take_at, take_all, drop_at, drop_all, length-take, length-replicate, take_min}
use Rattle.io_model.specs.Story.{Call, Len, Read, Write, Cut, Sync, Write_failed, Cut_failed, Sync_failed, put, reads_after, IsTorn, IsCut, IsImageAfter, IsImage}
use Rattle.disk_memory.specs.declared.noted.Choice.{Choice}
use Rattle.disk_memory.specs.declared.noted.Choice.TheVariants.{Before, Written, Fill}
use Rattle.disk_memory.specs.declared.noted.Noted.{Noted}
use Rattle.disk_memory.specs.declared.noted.Noted.TheVariants as notes
use Rattle.disk_memory.specs.Noted.{size, call_of, calls_after}
use Rattle.disk_memory.specs.Told.{story_of}
use Rattle.disk_memory.specs.Image.{synced, filler, filled, left_by}

-- a write is one of the things that a torn write may leave
pub torn_put : (old : List ℕ) (at : ℕ) (bytes : List ℕ) → IsTorn at (length bytes) old (put old at bytes)
torn_put old at bytes =
    let front : length (take at old) ≡ min at (length old) = length-take at old in
    let split : put old at bytes ≡ take at old ++ (bytes ++ drop (at + length bytes) old) = append_assoc (take at old) bytes (drop (at + length bytes) old) in
    record {
      before = ap (λ (l : List ℕ). take (min at (length old)) l) split ∙ take_at (take at old) (bytes ++ drop (at + length bytes) old) (min at (length old)) front;
      behind = behind_put;
      no_shorter = omega (arith, front, length-append (take at old ++ bytes) (drop (at + length bytes) old), length-append (take at old) bytes, length-drop (at + length bytes) old);
      no_longer = omega (arith, front, length-append (take at old ++ bytes) (drop (at + length bytes) old), length-append (take at old) bytes, length-drop (at + length bytes) old);
    }
  where
    two : (at ≤ length old) ⊎ (length old < at)
    two = grind arith

    behind_put : drop (at + length bytes) (put old at bytes) ≡ drop (at + length bytes) old
    behind_put = elim two [
      | inl inside ↦ drop_at (take at old ++ bytes) (drop (at + length bytes) old) (at + length bytes) (omega (arith, length-take at old, length-append (take at old) bytes))
      | inr past ↦ drop_all (at + length bytes) (put old at bytes) (omega (arith, length-take at old, length-append (take at old ++ bytes) (drop (at + length bytes) old), length-append (take at old) bytes, length-drop (at + length bytes) old))
          ∙ sym (drop_all (at + length bytes) old (omega (arith)))
    ]

length-filler : (choice : Choice) (base : List ℕ) (at count : ℕ) → length (filler choice base at count) ≡ count
length-filler Before base at count =
    let xs : List ℕ = take count (drop at base) in
    omega (arith, length-append xs (replicate (count - length xs) 0), length-replicate {A = ℕ} (count - length xs) 0, length-take count (drop at base))
length-filler Written base at count = length-replicate {A = ℕ} count 0
length-filler (Fill byte) base at count = length-replicate {A = ℕ} count byte

torn_filler : (choice : Choice) (base old : List ℕ) (at count : ℕ) → IsTorn at count old (put old at (filler choice base at count))
torn_filler choice base old at count = subst (λ (n : ℕ). IsTorn at n old (put old at (filler choice base at count))) (length-filler choice base at count) (torn_put old at (filler choice base at count))

cut_take : (len : ℕ) (old : List ℕ) → IsCut len old (take len old)
cut_take len old = record { no_shorter = omega (arith, length-take len old); front = ap (λ (n : ℕ). take n old) (length-take len old) ∙ take_min len old }

cut_none : (len : ℕ) (old : List ℕ) → IsCut len old old
cut_none len old = record { no_shorter = omega arith; front = take_all (length old) old (omega arith) }

torn_none : (at count : ℕ) (old : List ℕ) → IsTorn at count old old
torn_none at count old = record { before = take_min at old; behind = refl; no_shorter = omega arith; no_longer = omega arith }

-- the replay with each range filled
pub filled_image : (choice : Choice) (start : List ℕ) (calls : List Call) → IsImageAfter start calls (filled choice start calls)
filled_image choice start [] = refl
filled_image choice start (Len ∷ calls) = filled_image choice start calls
filled_image choice start (Read at count ∷ calls) = filled_image choice start calls
filled_image choice start (Write at bytes ∷ calls) = (filled choice start calls, filled_image choice start calls, torn_filler choice (synced start calls) (filled choice start calls) at (length bytes))
filled_image choice start (Cut len ∷ calls) = (filled choice start calls, filled_image choice start calls, cut_take len (filled choice start calls))
filled_image choice start (Sync ∷ calls) = refl
filled_image choice start (Write_failed at count left ∷ calls) = (filled choice start calls, filled_image choice start calls, torn_filler choice (synced start calls) (filled choice start calls) at count)
filled_image choice start (Cut_failed len left ∷ calls) = (filled choice start calls, filled_image choice start calls, cut_none len (filled choice start calls))
filled_image choice start (Sync_failed ∷ calls) = filled_image choice start calls

-- a call that failed left what a read gave
abbrev AllKept : List ℕ → List Call → Type 0
AllKept start [] = Unit {0}
AllKept start (Len ∷ calls) = AllKept start calls
AllKept start (Read at count ∷ calls) = AllKept start calls
AllKept start (Write at bytes ∷ calls) = AllKept start calls
AllKept start (Cut len ∷ calls) = AllKept start calls
AllKept start (Sync ∷ calls) = AllKept start calls
AllKept start (Write_failed at count left ∷ calls) = (left ≡ reads_after start calls) × AllKept start calls
AllKept start (Cut_failed len left ∷ calls) = (left ≡ reads_after start calls) × AllKept start calls
AllKept start (Sync_failed ∷ calls) = AllKept start calls

read_image : (start : List ℕ) (calls : List Call) → AllKept start calls → IsImageAfter start calls (reads_after start calls)
read_image start [] kept = refl
read_image start (Len ∷ calls) kept = read_image start calls kept
read_image start (Read at count ∷ calls) kept = read_image start calls kept
read_image start (Write at bytes ∷ calls) kept = (reads_after start calls, read_image start calls kept, torn_put (reads_after start calls) at bytes)
read_image start (Cut len ∷ calls) kept = (reads_after start calls, read_image start calls kept, cut_take len (reads_after start calls))
read_image start (Sync ∷ calls) kept = refl
read_image start (Write_failed at count left ∷ calls) kept = (reads_after start calls, read_image start calls kept.1, subst (IsTorn at count (reads_after start calls)) (sym kept.0) (torn_none at count (reads_after start calls)))
read_image start (Cut_failed len left ∷ calls) kept = (reads_after start calls, read_image start calls kept.1, subst (IsCut len (reads_after start calls)) (sym kept.0) (cut_none len (reads_after start calls)))
read_image start (Sync_failed ∷ calls) kept = read_image start calls kept

kept_call : (start : List ℕ) (calls : List Call) (note : Noted) (written : List ℕ) → AllKept start calls → AllKept start (call_of start calls note written ∷ calls)
kept_call start calls notes.Len written kept = kept
kept_call start calls (notes.Read at count) written kept = kept
kept_call start calls (notes.Write at count) written kept = kept
kept_call start calls (notes.Cut len) written kept = kept
kept_call start calls notes.Sync written kept = kept
kept_call start calls (notes.FailedWrite at count) written kept = (refl, kept)
kept_call start calls (notes.FailedCut len) written kept = (refl, kept)
kept_call start calls notes.FailedSync written kept = kept

kept_calls : (start : List ℕ) (calls : List Call) (noted : List Noted) (written : List ℕ) → AllKept start calls → AllKept start (calls_after start calls noted written)
kept_calls start calls [] written kept = kept
kept_calls start calls (note ∷ noted) written kept = kept_calls start (call_of start calls note written ∷ calls) noted (drop (size note) written) (kept_call start calls note written kept)

-- what a crash leaves by choice is one of the things that it may leave
pub left_image : (choice : Choice) (start : List ℕ) (noted : List Noted) (written : List ℕ) → IsImage (story_of start noted written) (left_by choice (story_of start noted written))
left_image Before start noted written = filled_image Before start (calls_after start [] noted written)
left_image Written start noted written = read_image start (calls_after start [] noted written) (kept_calls start [] noted written tt)
left_image (Fill byte) start noted written = filled_image (Fill byte) start (calls_after start [] noted written)
