-- What the notes count is what the calls count.
use Rattle.std.proofs.Common.{◌≡◌, ℕ, ◌+◌, ◌≤◌, List, [], ◌∷◌, ◌++◌, length, drop, refl, sym, ◌∙◌, ap, arith, append_assoc, length-drop}
use Rattle.std.proofs.lemmas.List.{append-nil, length-take}
use Rattle.io_model.specs.Story.{Call}
use Rattle.disk_memory.specs.declared.noted.Noted.{Noted}
use Rattle.disk_memory.specs.declared.noted.Noted.TheVariants.{Len, Read, Write, Cut, Sync, FailedWrite, FailedCut, FailedSync}
use Rattle.disk_memory.specs.Noted.{size, total, call_of, calls_after, note_of, notes_of}
use Rattle.disk_memory.specs.Fails.{bytes_written}

same_note : (start : List ℕ) (calls : List Call) (note : Noted) (written : List ℕ) → size note ≤ length written → note_of (call_of start calls note written) ≡ note
same_note start calls Len written room = refl
same_note start calls (Read at count) written room = refl
same_note start calls (Write at count) written room = ap (λ (n : ℕ). Write at n) (omega (arith, length-take count written))
same_note start calls (Cut len) written room = refl
same_note start calls Sync written room = refl
same_note start calls (FailedWrite at count) written room = refl
same_note start calls (FailedCut len) written room = refl
same_note start calls FailedSync written room = refl

same_size : (start : List ℕ) (calls : List Call) (note : Noted) (written : List ℕ) → size note ≤ length written → bytes_written (call_of start calls note written ∷ calls) ≡ size note + bytes_written calls
same_size start calls Len written room = omega arith
same_size start calls (Read at count) written room = omega arith
same_size start calls (Write at count) written room = omega (arith, length-take count written)
same_size start calls (Cut len) written room = omega arith
same_size start calls Sync written room = omega arith
same_size start calls (FailedWrite at count) written room = omega arith
same_size start calls (FailedCut len) written room = omega arith
same_size start calls FailedSync written room = omega arith

pub length_after : (start : List ℕ) (calls : List Call) (notes : List Noted) (written : List ℕ) → length (calls_after start calls notes written) ≡ length calls + length notes
length_after start calls [] written = omega arith
length_after start calls (n ∷ notes) written = omega (arith, length_after start (call_of start calls n written ∷ calls) notes (drop (size n) written))

pub written_after : (start : List ℕ) (calls : List Call) (notes : List Noted) (written : List ℕ) → total notes ≤ length written → bytes_written (calls_after start calls notes written) ≡ bytes_written calls + total notes
written_after start calls [] written room = omega arith
written_after start calls (n ∷ notes) written room =
    omega (arith, written_after start (call_of start calls n written ∷ calls) notes (drop (size n) written) (omega (arith, length-drop (size n) written)), same_size start calls n written (omega arith))

pub notes_after : (start : List ℕ) (calls : List Call) (notes : List Noted) (written : List ℕ) → total notes ≤ length written → notes_of (calls_after start calls notes written) ≡ notes_of calls ++ notes
notes_after start calls [] written room = sym (append-nil (notes_of calls))
notes_after start calls (n ∷ notes) written room =
    notes_after start (call_of start calls n written ∷ calls) notes (drop (size n) written) (omega (arith, length-drop (size n) written))
    ∙ ap (λ (m : Noted). (notes_of calls ++ m ∷ []) ++ notes) (same_note start calls n written (omega arith))
    ∙ append_assoc (notes_of calls) (n ∷ []) notes
