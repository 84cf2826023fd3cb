-- One note more.
use Rattle.std.proofs.Common.{◌≡◌, ℕ, ◌+◌, ◌≤◌, List, [], ◌∷◌, ◌++◌, length, drop, refl, ◌∙◌, ap, arith}
use Rattle.std.proofs.lemmas.List.{take-append-le, drop-append-le, length-drop}
use Rattle.io_model.specs.Story.{Call, Write as Write_call, after}
use Rattle.disk_memory.specs.declared.noted.Noted.{Noted}
use Rattle.disk_memory.specs.declared.noted.Noted.TheVariants.{Len, Read, Write, Cut, Sync, FailedWrite, FailedCut, FailedSync}
use Rattle.disk_memory.specs.Noted.{size, total, call_of, calls_after}
use Rattle.disk_memory.specs.Told.{story_of}

-- a note reads no more than its own bytes
own : (start : List ℕ) (calls : List Call) (note : Noted) (xs ys : List ℕ) → size note ≤ length xs → call_of start calls note (xs ++ ys) ≡ call_of start calls note xs
own start calls Len xs ys room = refl
own start calls (Read at count) xs ys room = refl
own start calls (Write at count) xs ys room = ap (λ (l : List ℕ). Write_call at l) (take-append-le count xs ys room)
own start calls (Cut len) xs ys room = refl
own start calls Sync xs ys room = refl
own start calls (FailedWrite at count) xs ys room = refl
own start calls (FailedCut len) xs ys room = refl
own start calls FailedSync xs ys room = refl

pub calls_push : (start : List ℕ) (calls : List Call) (notes : List Noted) (written : List ℕ) (note : Noted) (bytes : List ℕ) → total notes ≡ length written → size note ≡ length bytes
    → calls_after start calls (notes ++ note ∷ []) (written ++ bytes) ≡ call_of start (calls_after start calls notes written) note bytes ∷ calls_after start calls notes written
calls_push start calls [] [] note bytes shares same = refl
calls_push start calls [] (b ∷ written) note bytes shares same = absurd (omega arith)
calls_push start calls (n ∷ notes) written note bytes shares same =
    let c : Call = call_of start calls n written in
    let room : size n ≤ length written = omega arith in
    ap (λ (k : Call). calls_after start (k ∷ calls) (notes ++ note ∷ []) (drop (size n) (written ++ bytes))) (own start calls n written bytes room)
    ∙ ap (λ (l : List ℕ). calls_after start (c ∷ calls) (notes ++ note ∷ []) l) (drop-append-le (size n) written bytes room)
    ∙ calls_push start (c ∷ calls) notes (drop (size n) written) note bytes (omega (arith, length-drop (size n) written)) same

-- the story goes on by one call
pub story_push : (start : List ℕ) (notes : List Noted) (written : List ℕ) (note : Noted) (bytes : List ℕ) → total notes ≡ length written → size note ≡ length bytes
    → story_of start (notes ++ note ∷ []) (written ++ bytes) ≡ after (call_of start (calls_after start [] notes written) note bytes) (story_of start notes written)
story_push start notes written note bytes shares same = ap (λ (cs : List Call). record { start = start; calls = cs }) (calls_push start [] notes written note bytes shares same)

pub total_push : (notes : List Noted) (note : Noted) → total (notes ++ note ∷ []) ≡ total notes + size note
total_push [] note = omega arith
total_push (n ∷ notes) note = omega (arith, total_push notes note)
