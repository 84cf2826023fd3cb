-- A tape after one note more.
use Rattle.std.proofs.Common.{nat_le, ◌≡◌, ℕ, ◌+◌, ◌*◌, ◌≤◌, max, List, [], ◌∷◌, ◌++◌, length, take, drop, refl, sym, ◌∙◌, ap, arith, length-append, length-drop}
use Rattle.std.proofs.lemmas.List.{append-nil, take_all, length-take}
use Rattle.io_model.specs.Story.{Call, Write as Write_call, after, put, reads, reads_after}
use Rattle.disk_memory.specs.declared.noted.Noted.{Noted}
use Rattle.disk_memory.specs.declared.noted.Noted.TheVariants.{Len, Read, Write, Cut, Sync, FailedWrite, FailedCut, FailedSync}
use Rattle.disk_memory.specs.Noted.{notes_of, size, total, call_of, calls_after}
use Rattle.disk_memory.specs.Told.{story_of, IsQuiet, IsSound}
use Rattle.disk_memory.specs.Fails.{bytes_written}
use Rattle.disk_memory.proofs.Notes.{story_push, total_push}
use Rattle.disk_memory.proofs.Counting.{length_after, written_after, notes_after}

pub quiet_size : (note : Noted) → IsQuiet note → size note ≡ 0
quiet_size Len q = refl
quiet_size (Read at count) q = refl
quiet_size (Write at count) q = absurd q
quiet_size (Cut len) q = absurd q
quiet_size Sync q = refl
quiet_size (FailedWrite at count) q = refl
quiet_size (FailedCut len) q = refl
quiet_size FailedSync q = refl

quiet_reads : (start : List ℕ) (calls : List Call) (note : Noted) → IsQuiet note → reads_after start (call_of start calls note [] ∷ calls) ≡ reads_after start calls
quiet_reads start calls Len q = refl
quiet_reads start calls (Read at count) q = refl
quiet_reads start calls (Write at count) q = absurd q
quiet_reads start calls (Cut len) q = absurd q
quiet_reads start calls Sync q = refl
quiet_reads start calls (FailedWrite at count) q = refl
quiet_reads start calls (FailedCut len) q = refl
quiet_reads start calls FailedSync q = refl

module _ (start bytes written : List ℕ) (notes : List Noted) (room b w n : ℕ) (ok : IsSound start bytes written notes room b w n) where
  -- what fits by the story fits by the fields
  pub in_fields : (len : ℕ) → len + bytes_written (story_of start notes written).calls + 24 * (length (story_of start notes written).calls + 1) ≤ room → len + length written + 24 * (length notes + 1) ≤ room
  in_fields len fits = omega (arith, fits, ok.shares, length_after start [] notes written, written_after start [] notes written (omega (arith, ok.shares)))

  pub in_fields_write : (len more : ℕ) → len + bytes_written (story_of start notes written).calls + more + 24 * (length (story_of start notes written).calls + 1) ≤ room → len + length written + more + 24 * (length notes + 1) ≤ room
  in_fields_write len more fits = omega (arith, fits, ok.shares, length_after start [] notes written, written_after start [] notes written (omega (arith, ok.shares)))

  pub room_in_fields : (len more w' n' : ℕ) → w' ≡ length written → n' ≡ length notes
      → nat_le (len + w' + more + 24 * (n' + 1)) room ≡ nat_le (len + bytes_written (story_of start notes written).calls + more + 24 * (length (story_of start notes written).calls + 1)) room
  room_in_fields len more w' n' isw isn =
      let same : len + w' + more + 24 * (n' + 1) ≡ len + bytes_written (story_of start notes written).calls + more + 24 * (length (story_of start notes written).calls + 1) =
      omega (arith, isw, isn, ok.shares, length_after start [] notes written, written_after start [] notes written (omega (arith, ok.shares))) in
      ap (λ (m : ℕ). nat_le m room) same

  pub notes_in_fields : notes_of (story_of start notes written).calls ≡ notes
  notes_in_fields = notes_after start [] notes written (omega (arith, ok.shares))

  -- a note that writes nothing
  pub push_none : (note : Noted) (notes' : List Noted) → size note ≡ 0 → notes' ≡ notes ++ note ∷ [] → story_of start notes' written ≡ after (call_of start (calls_after start [] notes written) note []) (story_of start notes written)
  push_none note notes' none is =
      ap (λ (l : List Noted). story_of start l written) is ∙ ap (λ (l : List ℕ). story_of start (notes ++ note ∷ []) l) (sym (append-nil written))
      ∙ story_push start notes written note [] ok.shares none

  total_none : (note : Noted) (notes' : List Noted) → size note ≡ 0 → notes' ≡ notes ++ note ∷ [] → total notes' ≡ length written
  total_none note notes' none is = omega (arith, ap total is, total_push notes note, ok.shares, none)

  pub sound_quiet : (note : Noted) (notes' : List Noted) (n' : ℕ) → IsQuiet note → notes' ≡ notes ++ note ∷ [] → n' ≡ n → length (reads (story_of start notes written)) + length written + 24 * (length notes + 1) ≤ room → IsSound start bytes written notes' room b w n'
  sound_quiet note notes' n' quiet is same fits = record {
    told = ok.told ∙ sym (quiet_reads start (calls_after start [] notes written) note quiet) ∙ ap reads (sym (push_none note notes' (quiet_size note quiet) is));
    shares = total_none note notes' (quiet_size note quiet) is;
    fits = omega (arith, fits, ap length ok.told, ap length is, length-append notes (note ∷ []));
    for_bytes = ok.for_bytes;
    for_written = ok.for_written;
    for_notes = omega (arith, ok.for_notes, same);
  }

  pub sound_cut : (len : ℕ) (bytes' : List ℕ) (notes' : List Noted) (b' n' : ℕ) → bytes' ≡ take len bytes → notes' ≡ notes ++ Cut len ∷ [] → b' ≡ b → n' ≡ n → length (reads (story_of start notes written)) + length written + 24 * (length notes + 1) ≤ room → IsSound start bytes' written notes' room b' w n'
  sound_cut len bytes' notes' b' n' cut is sameb samen fits = record {
    told = cut ∙ ap (take len) ok.told ∙ ap reads (sym (push_none (Cut len) notes' refl is));
    shares = total_none (Cut len) notes' refl is;
    fits = omega (arith, fits, ap length ok.told, ap length is, length-append notes (Cut len ∷ []), ap length cut, length-take len bytes);
    for_bytes = omega (arith, ok.for_bytes, sameb);
    for_written = ok.for_written;
    for_notes = omega (arith, ok.for_notes, samen);
  }

  pub push_write : (at : ℕ) (new written' : List ℕ) (notes' : List Noted) → written' ≡ written ++ new → notes' ≡ notes ++ Write at (length new) ∷ [] → story_of start notes' written' ≡ after (Write_call at new) (story_of start notes written)
  push_write at new written' notes' isw is =
      ap (λ (l : List Noted). story_of start l written') is ∙ ap (λ (l : List ℕ). story_of start (notes ++ Write at (length new) ∷ []) l) isw
      ∙ story_push start notes written (Write at (length new)) new ok.shares refl
      ∙ ap (λ (l : List ℕ). after (Write_call at l) (story_of start notes written)) (take_all (length new) new (omega arith))

  pub sound_write : (at : ℕ) (new bytes' written' : List ℕ) (notes' : List Noted) (b' w' n' : ℕ) → bytes' ≡ put bytes at new → written' ≡ written ++ new → notes' ≡ notes ++ Write at (length new) ∷ [] → b' ≡ b → w' ≡ w → n' ≡ n
      → max (length (reads (story_of start notes written))) (at + length new) + length written + length new + 24 * (length notes + 1) ≤ room → IsSound start bytes' written' notes' room b' w' n'
  sound_write at new bytes' written' notes' b' w' n' isb isw is sameb samew samen fits = record {
    told = isb ∙ ap (λ (l : List ℕ). put l at new) ok.told ∙ ap reads (sym (push_write at new written' notes' isw is));
    shares = omega (arith, ap total is, total_push notes (Write at (length new)), ok.shares, ap length isw, length-append written new);
    fits = omega (arith, fits, ap length ok.told, ap length is, length-append notes (Write at (length new) ∷ []), ap length isb, ap length isw, length-append written new, length-append (take at bytes ++ new) (drop (at + length new) bytes), length-append (take at bytes) new, length-take at bytes, length-drop (at + length new) bytes);
    for_bytes = omega (arith, ok.for_bytes, sameb);
    for_written = omega (arith, ok.for_written, samew);
    for_notes = omega (arith, ok.for_notes, samen);
  }
