-- A word that is an even number of digits spells a text.
use Rattle.std.proofs.Common.{◌≡◌, ℕ, ◌<◌, ◌≤◌, ◌%◌, List, true, length}
use Rattle.std.specs.List.{list_all}
use Rattle.std.proofs.lemmas.List.Sums.{AllPass-from_list_all, list_all-from_AllPass}
use Rattle.hex.specs.Hex.{is_hex_digit}
use Rattle.hex.proofs.HexLemmas.{decode_of-digits, decode_of-ok}
use Rattle.script_lang.specs.Grammar.{AreDigits, has_no_upper}

pub are_digits_by :
    (word : List ℕ) → 0 < length word → length word ≤ 400 → length word % 2 ≡ 0 → has_no_upper word ≡ true → list_all is_hex_digit word ≡ true
    → (bytes : List ℕ) × AreDigits word bytes
are_digits_by word some few even lower digits =
    let d = decode_of-digits word even (AllPass-from_list_all is_hex_digit word digits) in
    (d.0, record { some = some; few = few; lower = lower; decodes = d.1 })

pub digits_are : (word bytes : List ℕ) → AreDigits word bytes → (length word % 2 ≡ 0) × (list_all is_hex_digit word ≡ true)
digits_are word bytes d = let ok = decode_of-ok word bytes d.decodes in (ok.0, list_all-from_AllPass is_hex_digit word ok.1)
