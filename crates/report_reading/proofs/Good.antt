-- What is written of a value is read back as that value.
use Rattle.std.proofs.Common.{◌≡◌, ℕ, suc, ◌+◌, ◌^◌, ◌<◌, ◌≤◌, Bool, true, false, ◌||◌, List, [], ◌∷◌, ◌++◌, Some, option_map, option_and_then, refl, sym, ap, ap₂, ◌∙◌, arith, append-nil}
use Rattle.std.specs.List.{AllByRecursion}
use Rattle.json.specs.Lex.{tokens}
use Rattle.json.specs.Json as json
use Rattle.json.specs.Json.{if_last}
use Rattle.json.specs.Tree as tree
use Rattle.json.specs.Print.{quoted}
use Rattle.json.proofs.Printed.Tokens.{tokens-print}
use Rattle.json.proofs.Printed.Decimals.{IsNumber-decimal}
use Rattle.json.proofs.Printed.Trees.{value-json_tokens, ArePrintable-json_tokens}
use Rattle.serde_json.specs.Data.{Data, null, boolean, number, string, array, object, item, Members, no_members, member}
use Rattle.serde_json.specs.Read.{read, of_json, of_items, of_members, max_depth}
use Rattle.serde_json.specs.View.{items_of}
use Rattle.serde_json.specs.Written.{outline, items_outline, compact_text, items_text, members_text, has_float, items_have_float}
use Rattle.serde_json.proofs.Numbers.{number_of-decimal}
use Rattle.serde_json.proofs.Texts.{print-outline}
use Rattle.report_text.specs.Lines.{num, list}
use Rattle.report_reading.proofs.Printed.{Printed, printed_append, printed_quoted, printed_decimal}

-- the value's text is of printed bytes, and is read back; it nests at most so deep
pub record IsGood (n : ℕ) (d : Data) : Type 0 where
  pub printed : Printed (compact_text d)
  pub numbers : tree.HasNumbers (outline d)
  pub back : of_json (outline d) ≡ Some d
  pub shallow : tree.depth (outline d) ≤ n
  pub whole : has_float d ≡ false

pub good_more : (m n : ℕ) (d : Data) → m ≤ n → IsGood m d → IsGood n d
good_more m n d h g = record { printed = g.printed; numbers = g.numbers; back = g.back; shallow = (let s = g.shallow in omega arith); whole = g.whole }

pub good_null : IsGood 0 null
good_null = record { printed = refl; numbers = tt; back = refl; shallow = omega arith; whole = refl }

pub good_boolean : (b : Bool) → IsGood 0 (boolean b)
good_boolean true = record { printed = refl; numbers = tt; back = refl; shallow = omega arith; whole = refl }
good_boolean false = record { printed = refl; numbers = tt; back = refl; shallow = omega arith; whole = refl }

pub good_number : (n : ℕ) → n < 2 ^ 64 → IsGood 0 (num n)
good_number n h = record { printed = printed_decimal n h; numbers = IsNumber-decimal n h; back = ap (option_map number) (number_of-decimal n h); shallow = omega arith; whole = refl }

pub good_string : (s : List ℕ) → Printed s → IsGood 0 (string s)
good_string s h = record { printed = printed_quoted s h; numbers = tt; back = refl; shallow = omega arith; whole = refl }

-- ---- lists

printed_items : (n : ℕ) (later : Bool) (ds : List Data) → AllByRecursion (IsGood n) ds → Printed (items_text later (items_of ds))
printed_items n later [] h = refl
printed_items n true (d ∷ ds) h = printed_append (compact_text d) (items_text true (items_of ds)) (h.0).printed (printed_items n true ds h.1)
printed_items n false (d ∷ ds) h = printed_append (compact_text d) (items_text true (items_of ds)) (h.0).printed (printed_items n true ds h.1)

number_items : (n : ℕ) (ds : List Data) → AllByRecursion (IsGood n) ds → tree.ItemsHaveNumbers (items_outline (items_of ds))
number_items n [] h = tt
number_items n (d ∷ ds) h = ((h.0).numbers, number_items n ds h.1)

items_back : (n : ℕ) (ds : List Data) → AllByRecursion (IsGood n) ds → of_items (items_outline (items_of ds)) ≡ Some (items_of ds)
items_back n [] h = refl
items_back n (d ∷ ds) h =
    ap (option_and_then (λ x. option_map (item x) (of_items (items_outline (items_of ds))))) (h.0).back
    ∙ ap (option_map (item d)) (items_back n ds h.1)

items_shallow : (n : ℕ) (ds : List Data) → AllByRecursion (IsGood n) ds → tree.items_depth (items_outline (items_of ds)) ≤ n
items_shallow n [] h = omega arith
items_shallow n (d ∷ ds) h = let first = (h.0).shallow in let rest = items_shallow n ds h.1 in omega arith

items_whole : (n : ℕ) (ds : List Data) → AllByRecursion (IsGood n) ds → items_have_float (items_of ds) ≡ false
items_whole n [] h = refl
items_whole n (d ∷ ds) h = ap₂ (λ a b. a || b) (h.0).whole (items_whole n ds h.1)

pub good_list : (n : ℕ) (ds : List Data) → AllByRecursion (IsGood n) ds → IsGood (suc n) (list ds)
good_list n ds h =
    record {
      printed = printed_items n false ds h;
      numbers = number_items n ds h;
      back = ap (option_map array) (items_back n ds h);
      shallow = (let deep = items_shallow n ds h in omega arith);
      whole = items_whole n ds h;
    }

-- ---- objects of three members, whose keys stand in order

printed_member : (k : List ℕ) (d : Data) (ms : Members) (n : ℕ) → Printed k → IsGood n d → Printed (members_text true ms) → Printed (quoted k ++ 58 ∷ (compact_text d ++ members_text true ms))
printed_member k d ms n key g rest = printed_append (quoted k) _ (printed_quoted k key) (printed_append (compact_text d) (members_text true ms) g.printed rest)

module _ (n : ℕ) (j k l : List ℕ) (d e f : Data) where
  abbrev pub Three : Data
  Three = object (member j d (member k e (member l f no_members)))

  pub good_three :
      Printed j → Printed k → Printed l → IsGood n d → IsGood n e → IsGood n f
      → of_members (json.member j (outline d) (json.member k (outline e) (json.member l (outline f) json.no_members))) no_members ≡ Some (member j d (member k e (member l f no_members)))
      → IsGood (suc n) Three
  good_three pj pk pl gd ge gf ordered =
      record {
        printed = printed_member j d (member k e (member l f no_members)) n pj gd (printed_member k e (member l f no_members) n pk ge (printed_member l f no_members n pl gf refl));
        numbers = (gd.numbers, (ge.numbers, (gf.numbers, tt)));
        back = ap (option_map object) ordered;
        shallow = (let a = gd.shallow in let b = ge.shallow in let c = gf.shallow in omega arith);
        whole = ap₂ (λ a b. a || b) gd.whole (ap₂ (λ a b. a || (b || false)) ge.whole gf.whole);
      }

-- ---- so what is written is read back

pub read_written : (n : ℕ) (d : Data) → n ≤ 127 → IsGood n d → read (compact_text d) ≡ Some d
read_written n d few g =
    let j = outline d in
    let same : tokens (compact_text d) ≡ tree.json_tokens j = ap tokens (sym (print-outline d)) ∙ tokens-print (tree.json_tokens j) (ArePrintable-json_tokens j g.numbers) in
    ap (λ ts. option_and_then of_json (option_and_then (λ p. if_last p.0 p.1) (json.value max_depth ts))) (same ∙ sym (append-nil (tree.json_tokens j)))
    ∙ ap (λ o. option_and_then of_json (option_and_then (λ p. if_last p.0 p.1) o)) (value-json_tokens j max_depth [] (let s = g.shallow in omega arith))
    ∙ g.back
