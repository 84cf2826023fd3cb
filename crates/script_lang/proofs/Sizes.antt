-- What every script keeps to: by its lines, one after another.
use Rattle.std.proofs.Common.{◌≡◌, refl, ap, ◌∙◌, subst, ℕ, suc, ◌+◌, ◌≤◌, ◌<◌, ◌^◌, Bool, true, false, not, nat_lt, nat_le, ◌==◌, cond, List, [], ◌∷◌, ◌++◌, length, Option, Some, None, arith, length-append, inl, inr}
use Rattle.std.specs.List.{list_all}
use Rattle.std.proofs.lemmas.List.Folds.{list_all-append}
use Rattle.std.proofs.lemmas.Bool.{ne_eqb}
use Rattle.std.proofs.lemmas.Bool.Decides.{nat_tests}
use Rattle.clv_base.specs.declared.values.Value.TheVariants.{Num, Bytes}
use Rattle.clv_base.specs.Values.{fits_value}
use Rattle.clv_base.specs.declared.ops.Op.TheVariants.{Get, Put, Del, Scan, Add}
use Rattle.script_lang.specs.Bodies.{Action, Ending, Body}
use Rattle.script_lang.specs.Grammar.{Line, Blank, Session, Begin, Act, End, Do, Move, Save, Back, IsNumber, IsText, IsAction, IsLine, Reading, reading, nothing_read, with_last, body, may_follow, saves_in, read_line, Leads, lines_of, before_line}
use Rattle.script_lang.specs.Laws.{is_word, is_narrow, is_narrow_body, session_size, script_size, ScriptsAreNarrow, ScriptsAreShort, ScriptsHaveFewSessions}
use Rattle.hex.proofs.HexLemmas.{decode_of-ok}
use Rattle.clv_base.proofs.Fitting.{bytes_fit}
use Rattle.law_base.proofs.Bools.{and_first, and_second, and_true}

-- ---- an action of a line

lt_true : (a b : ℕ) → a < b → nat_lt a b ≡ true
lt_true a b h = grind (arith, nat_tests)

le_true : (a b : ℕ) → a ≤ b → nat_le a b ≡ true
le_true a b h = grind (arith, nat_tests)

lt_from : (a b : ℕ) → nat_lt a b ≡ true → a < b
lt_from a b h = grind (arith, nat_tests)

word : (text : List ℕ) (n : ℕ) → IsNumber text n → is_word n ≡ true
word text n is = lt_true n (2 ^ 64) is.bounded

text_fits : (text bytes : List ℕ) → IsText text bytes → fits_value (Bytes bytes) ≡ true
text_fits text bytes (inl is) = ap (λ (b : List ℕ). fits_value (Bytes b)) is.1
text_fits text bytes (inr is) = let ok = decode_of-ok text bytes is.decodes in bytes_fit bytes (omega (arith, is.few, ok.2)) ok.3

action_narrow : (bytes : List ℕ) (action : Action) → IsAction bytes action → is_narrow action ≡ true
action_narrow bytes (Do (Get k)) (words, is, n) = word words k n
action_narrow bytes (Do (Put k (Num v))) (words, is, (a, b, parts, m, n)) = and_true _ _ (word a k m) (word b v n)
action_narrow bytes (Do (Put k (Bytes v))) (words, is, (a, b, parts, m, n)) = and_true _ _ (word a k m) (text_fits b v n)
action_narrow bytes (Do (Del k)) (words, is, n) = word words k n
action_narrow bytes (Do (Scan lo hi)) (words, is, ((a, b, parts, m, n), rise)) = and_true _ _ (le_true lo hi rise) (word b hi n)
action_narrow bytes (Do (Add k by)) (words, is, (a, b, parts, m, n)) = and_true _ _ (word a k m) (word b by n)
action_narrow bytes (Move from to amount) (words, is, ((a, b, parts, l, (c, d, more, m, n)), differ)) =
    and_true _ _ (and_true _ _ (word a from l) (word c to m)) (and_true _ _ (word d amount n) (ap not (ne_eqb from to differ)))
action_narrow bytes Save is = refl
action_narrow bytes (Back i) (words, is, n) = word words i n

-- ---- readings

abbrev pub all_narrow : List (List Body) → Bool
all_narrow sessions = list_all (list_all is_narrow_body) sessions

abbrev pub open_narrow : Option (List Action) → Bool
open_narrow None = true
open_narrow (Some actions) = list_all is_narrow actions

abbrev pub open_size : Option (List Action) → ℕ
open_size None = 0
open_size (Some actions) = suc (length actions)

-- what so many lines come to
pub record Fits (n : ℕ) (r : Reading) : Type 0 where
  pub narrow : all_narrow (with_last r.finished r.session) ≡ true
  pub open_one : open_narrow r.current ≡ true
  pub size : script_size (with_last r.finished r.session) + open_size r.current ≤ n
  pub few : length (with_last r.finished r.session) ≤ 64

moved : (n : ℕ) (r after : Reading) → Some r ≡ Some after → Fits n r → Fits n after
moved n r after e f = let same : r ≡ after = cc in subst (Fits n) same f

none_moved : (n : ℕ) (after : Reading) → None ≡ Some after → Fits n after
none_moved n after e = absurd (let no : ⊥ = cc in no)

sessions_append : (s : List Body) (ss : List (List Body)) → script_size (ss ++ s ∷ []) ≡ script_size ss + session_size s
sessions_append s [] = omega arith
sessions_append s (t ∷ ss) = omega (arith, sessions_append s ss)

bodies_append : (b : Body) (s : List Body) → session_size (s ++ b ∷ []) ≡ session_size s + suc (length b.actions)
bodies_append b [] = omega arith
bodies_append b (c ∷ s) = omega (arith, bodies_append b s)

narrow_session : (s : List Body) (ss : List (List Body)) → all_narrow ss ≡ true → list_all is_narrow_body s ≡ true → all_narrow (ss ++ s ∷ []) ≡ true
narrow_session s ss all one = list_all-append (list_all is_narrow_body) ss (s ∷ []) ∙ and_true _ _ all (and_true _ _ one refl)

narrow_sessions : (s : List Body) (ss : List (List Body)) → all_narrow (ss ++ s ∷ []) ≡ true → (all_narrow ss ≡ true) × (list_all is_narrow_body s ≡ true)
narrow_sessions s [] all = (refl, and_first _ _ all)
narrow_sessions s (t ∷ ss) all = let deeper = narrow_sessions s ss (and_second _ _ all) in (and_true _ _ (and_first _ _ all) deeper.0, deeper.1)

narrow_bodies : (b : Body) (s : List Body) → list_all is_narrow_body s ≡ true → is_narrow_body b ≡ true → list_all is_narrow_body (s ++ b ∷ []) ≡ true
narrow_bodies b s all one = list_all-append is_narrow_body s (b ∷ []) ∙ and_true _ _ all (and_true _ _ one refl)

narrow_actions : (a : Action) (actions : List Action) → list_all is_narrow actions ≡ true → is_narrow a ≡ true → list_all is_narrow (actions ++ a ∷ []) ≡ true
narrow_actions a actions all one = list_all-append is_narrow actions (a ∷ []) ∙ and_true _ _ all (and_true _ _ one refl)

-- a session begins
session_begun : (n : ℕ) (finished : List (List Body)) (session : Option (List Body)) (room : Bool) (after : Reading)
    → nat_lt (length (with_last finished session)) 64 ≡ room → Fits n (reading finished session None)
    → cond room (Some (reading (with_last finished session) (Some []) None)) None ≡ Some after → Fits (suc n) after
session_begun n finished session true after is f e =
    let all = with_last finished session in
    let few = lt_from _ _ is in
    moved (suc n) (reading all (Some []) None) after e
    (record {
      narrow = narrow_session [] all f.narrow refl;
      open_one = refl;
      size = omega (arith, f.size, sessions_append [] all);
      few = omega (arith, length-append all ([] ∷ []));
    })
session_begun n finished session false after is f e = none_moved (suc n) after e

-- the open transaction ends
ended : (n : ℕ) (finished : List (List Body)) (bodies : List Body) (actions : List Action) (ending : Ending)
    → Fits n (reading finished (Some bodies) (Some actions)) → Fits (suc n) (reading finished (Some (bodies ++ body actions ending ∷ [])) None)
ended n finished bodies actions ending f =
    let one = body actions ending in
    let parts = narrow_sessions bodies finished f.narrow in
    record {
      narrow = narrow_session (bodies ++ one ∷ []) finished parts.0 (narrow_bodies one bodies parts.1 f.open_one);
      open_one = refl;
      size = omega (arith, f.size, sessions_append bodies finished, sessions_append (bodies ++ one ∷ []) finished, bodies_append one bodies);
      few = omega (arith, f.few, length-append finished (bodies ∷ []), length-append finished ((bodies ++ one ∷ []) ∷ []));
    }

acted : (n : ℕ) (finished : List (List Body)) (session : Option (List Body)) (actions : List Action) (action : Action) → is_narrow action ≡ true
    → Fits n (reading finished session (Some actions)) → Fits (suc n) (reading finished session (Some (actions ++ action ∷ [])))
acted n finished session actions action one f =
    record { narrow = f.narrow; open_one = narrow_actions action actions f.open_one one; size = omega (arith, f.size, length-append actions (action ∷ [])); few = f.few }

-- where it may follow
allowed : (n : ℕ) (finished : List (List Body)) (session : Option (List Body)) (actions : List Action) (action : Action) (may : Bool) (after : Reading) → is_narrow action ≡ true → Fits n (reading finished session (Some actions))
    → cond may (Some (reading finished session (Some (actions ++ action ∷ [])))) None ≡ Some after → Fits (suc n) after
allowed n finished session actions action true after one f e = moved (suc n) (reading finished session (Some (actions ++ action ∷ []))) after e (acted n finished session actions action one f)
allowed n finished session actions action false after one f e = none_moved (suc n) after e

wider : (n : ℕ) (r : Reading) → Fits n r → Fits (suc n) r
wider n r f = record { narrow = f.narrow; open_one = f.open_one; size = omega (arith, f.size); few = f.few }

step : (n : ℕ) (finished : List (List Body)) (session : Option (List Body)) (current : Option (List Action)) (bytes : List ℕ) (line : Line) (after : Reading)
    → Fits n (reading finished session current) → IsLine bytes line → read_line finished session current line ≡ Some after → Fits (suc n) after
step n finished session current bytes Blank after f l e = moved (suc n) (reading finished session current) after e (wider n _ f)
step n finished session None bytes Session after f l e = session_begun n finished session (nat_lt (length (with_last finished session)) 64) after refl f e
step n finished session (Some actions) bytes Session after f l e = none_moved (suc n) after e
step n finished None None bytes Begin after f l e = none_moved (suc n) after e
step n finished (Some bodies) None bytes Begin after f l e =
    moved (suc n) (reading finished (Some bodies) (Some [])) after e (record { narrow = f.narrow; open_one = refl; size = omega (arith, f.size); few = f.few })
step n finished session (Some actions) bytes Begin after f l e = none_moved (suc n) after e
step n finished session None bytes (Act action) after f l e = none_moved (suc n) after e
step n finished session (Some actions) bytes (Act action) after f l e = allowed n finished session actions action (may_follow (saves_in actions) action) after (action_narrow bytes action l) f e
step n finished session None bytes (End ending) after f l e = none_moved (suc n) after e
step n finished None (Some actions) bytes (End ending) after f l e = none_moved (suc n) after e
step n finished (Some bodies) (Some actions) bytes (End ending) after f l e =
    moved (suc n) (reading finished (Some (bodies ++ body actions ending ∷ [])) None) after e (ended n finished bodies actions ending f)

leads_fit : (n : ℕ) (lines : List (List ℕ)) (before after : Reading) → Fits n before → Leads before lines after → Fits (n + length lines) after
leads_fit n [] before after f e = subst (λ (m : ℕ). Fits m after) (let z : n ≡ n + 0 = omega arith in z) (subst (Fits n) e f)
leads_fit n (bytes ∷ lines) before after f (line, next, is, goes, rest) =
    let one = step n before.finished before.session before.current bytes line next f is goes in
    let longer : suc n + length lines ≡ n + suc (length lines) = omega arith in
    subst (λ (m : ℕ). Fits m after) longer (leads_fit (suc n) lines next after one rest)

at_first : Fits 0 nothing_read
at_first = record { narrow = refl; open_one = refl; size = omega arith; few = omega arith }

-- ---- no more lines than bytes, and one

one_longer : (b : ℕ) (ls : List (List ℕ)) (n : ℕ) → length ls ≤ suc n → length (before_line b ls) ≤ suc (suc n)
one_longer b [] n h = omega arith
one_longer b (l ∷ ls) n h = omega (arith, h)

line_longer : (c : Bool) (b : ℕ) (ls : List (List ℕ)) (n : ℕ) → length ls ≤ suc n → length (cond c ([] ∷ ls) (before_line b ls)) ≤ suc (suc n)
line_longer true b ls n h = omega (arith, h)
line_longer false b ls n h = one_longer b ls n h

few_lines : (bytes : List ℕ) → length (lines_of bytes) ≤ suc (length bytes)
few_lines [] = omega arith
few_lines (b ∷ bytes) = line_longer (b == 10) b (lines_of bytes) (length bytes) (few_lines bytes)

pub narrow_scripts : ScriptsAreNarrow
narrow_scripts bytes sessions (f, s, short, is, leads) =
    ap all_narrow is ∙ (leads_fit 0 (lines_of bytes) nothing_read (reading f s None) at_first leads).narrow

pub short_scripts : ScriptsAreShort
short_scripts bytes sessions (f, s, short, is, leads) =
    let fits = leads_fit 0 (lines_of bytes) nothing_read (reading f s None) at_first leads in
    omega (arith, ap script_size is, fits.size, few_lines bytes)

pub few_sessions : ScriptsHaveFewSessions
few_sessions bytes sessions (f, s, short, is, leads) =
    let fits = leads_fit 0 (lines_of bytes) nothing_read (reading f s None) at_first leads in
    omega (arith, ap (length {A = List Body}) is, fits.few)
