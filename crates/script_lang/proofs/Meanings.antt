-- A line has one meaning.
use Rattle.std.proofs.Common.{◌≡◌, ◌≢◌, ◌⊎◌, inl, inr, ℕ, ◌+◌, ◌*◌, ◌<◌, ◌≤◌, List, [], slice_index, codes, ap, refl, ◌∙◌, arith}
use Rattle.clv_base.specs.declared.values.Value.TheVariants.{Num, Bytes}
use Rattle.clv_base.specs.declared.ops.Op.TheVariants.{Get, Put, Del, Scan, Add}
use Rattle.script_lang.specs.Bodies.{Action, Ending}
use Rattle.script_lang.specs.Grammar.{Line, Blank, Session, Begin, Act, End, Do, Move, Save, Back, Commit, Abort, IsLine, IsComment, IsEnding, IsAction}
use Rattle.script_lang.proofs.Verbs.{one_action}

-- five times the first byte of a line, and the second; 0 for a blank line
kind : Line → ℕ
kind Blank = 0
kind Session = 676
kind Begin = 591
kind (Act (Do (Get k))) = 616
kind (Act (Do (Put k (Num v)))) = 677
kind (Act (Do (Put k (Bytes v)))) = 611
kind (Act (Do (Del k))) = 601
kind (Act (Do (Scan lo hi))) = 674
kind (Act (Do (Add k by))) = 585
kind (Act (Move from to amount)) = 656
kind (Act Save) = 672
kind (Act (Back i)) = 587
kind (End Commit) = 606
kind (End Abort) = 583

first : List ℕ → ℕ
first bytes = slice_index bytes 0

two : List ℕ → ℕ
two bytes = 5 * slice_index bytes 0 + slice_index bytes 1

Shows : List ℕ → ℕ → Type 0
Shows bytes n = ((two bytes ≡ n) × (97 ≤ first bytes)) ⊎ ((n ≡ 0) × (first bytes < 97))

shows_word : (bytes text : List ℕ) (n : ℕ) → bytes ≡ text → two text ≡ n → 97 ≤ first text → Shows bytes n
unfolding Shows
shows_word bytes text n is t f = let e = ap two is in let g = ap first is in inl (e ∙ t, omega arith)

begins_with : (bytes : List ℕ) (line : Line) → IsLine bytes line → Shows bytes (kind line)
unfolding kind first two Shows
begins_with bytes Blank (inl none) = let g : slice_index bytes 0 ≡ 0 = ap (λ (b : List ℕ). slice_index b 0) none in inr (refl, omega arith)
begins_with bytes Blank (inr (text, is, ascii)) = let g : slice_index bytes 0 ≡ 35 = ap (λ (b : List ℕ). slice_index b 0) is in inr (refl, omega arith)
begins_with bytes Session is = shows_word bytes _ 676 is refl (omega arith)
begins_with bytes Begin is = shows_word bytes _ 591 is refl (omega arith)
begins_with bytes (Act (Do (Get k))) (words, is, number) = shows_word bytes _ 616 is refl (omega arith)
begins_with bytes (Act (Do (Put k (Num v)))) (words, is, numbers) = shows_word bytes _ 677 is refl (omega arith)
begins_with bytes (Act (Do (Put k (Bytes v)))) (words, is, numbers) = shows_word bytes _ 611 is refl (omega arith)
begins_with bytes (Act (Do (Del k))) (words, is, number) = shows_word bytes _ 601 is refl (omega arith)
begins_with bytes (Act (Do (Scan lo hi))) (words, is, numbers) = shows_word bytes _ 674 is refl (omega arith)
begins_with bytes (Act (Do (Add k by))) (words, is, numbers) = shows_word bytes _ 585 is refl (omega arith)
begins_with bytes (Act (Move from to amount)) (words, is, numbers) = shows_word bytes _ 656 is refl (omega arith)
begins_with bytes (Act Save) is = shows_word bytes _ 672 is refl (omega arith)
begins_with bytes (Act (Back i)) (words, is, number) = shows_word bytes _ 587 is refl (omega arith)
begins_with bytes (End Commit) is = shows_word bytes _ 606 is refl (omega arith)
begins_with bytes (End Abort) is = shows_word bytes _ 583 is refl (omega arith)

kinds_agree_by : (bytes : List ℕ) (m n : ℕ) → Shows bytes m → Shows bytes n → m ≡ n
unfolding Shows
kinds_agree_by bytes m n (inl a) (inl b) = omega arith
kinds_agree_by bytes m n (inl a) (inr b) = absurd (omega arith)
kinds_agree_by bytes m n (inr a) (inl b) = absurd (omega arith)
kinds_agree_by bytes m n (inr a) (inr b) = omega arith

kinds_agree : (bytes : List ℕ) (a b : Line) → IsLine bytes a → IsLine bytes b → kind a ≡ kind b
kinds_agree bytes a b isa isb = kinds_agree_by bytes (kind a) (kind b) (begins_with bytes a isa) (begins_with bytes b isb)

-- of one kind, lines say the same
same_of_kind : (bytes : List ℕ) (a b : Line) → kind a ≡ kind b → IsLine bytes a → IsLine bytes b → a ≡ b
unfolding kind
same_of_kind bytes Blank Blank e isa isb = refl
same_of_kind bytes Session Session e isa isb = refl
same_of_kind bytes Begin Begin e isa isb = refl
same_of_kind bytes (End Commit) (End Commit) e isa isb = refl
same_of_kind bytes (End Abort) (End Abort) e isa isb = refl
same_of_kind bytes (Act a) (Act b) e isa isb = ap (λ (x : Action). Act x) (one_action bytes a b isa isb)
same_of_kind bytes Blank Session e isa isb = absurd (let no : ⊥ = omega arith in no)
same_of_kind bytes Blank Begin e isa isb = absurd (let no : ⊥ = omega arith in no)
same_of_kind bytes Blank (Act (Do (Get m))) e isa isb = absurd (let no : ⊥ = omega arith in no)
same_of_kind bytes Blank (Act (Do (Put m (Num n)))) e isa isb = absurd (let no : ⊥ = omega arith in no)
same_of_kind bytes Blank (Act (Do (Put m (Bytes n)))) e isa isb = absurd (let no : ⊥ = omega arith in no)
same_of_kind bytes Blank (Act (Do (Del m))) e isa isb = absurd (let no : ⊥ = omega arith in no)
same_of_kind bytes Blank (Act (Do (Scan m n))) e isa isb = absurd (let no : ⊥ = omega arith in no)
same_of_kind bytes Blank (Act (Do (Add m n))) e isa isb = absurd (let no : ⊥ = omega arith in no)
same_of_kind bytes Blank (Act (Move l m n)) e isa isb = absurd (let no : ⊥ = omega arith in no)
same_of_kind bytes Blank (Act Save) e isa isb = absurd (let no : ⊥ = omega arith in no)
same_of_kind bytes Blank (Act (Back n)) e isa isb = absurd (let no : ⊥ = omega arith in no)
same_of_kind bytes Blank (End Commit) e isa isb = absurd (let no : ⊥ = omega arith in no)
same_of_kind bytes Blank (End Abort) e isa isb = absurd (let no : ⊥ = omega arith in no)
same_of_kind bytes Session Blank e isa isb = absurd (let no : ⊥ = omega arith in no)
same_of_kind bytes Session Begin e isa isb = absurd (let no : ⊥ = omega arith in no)
same_of_kind bytes Session (Act (Do (Get m))) e isa isb = absurd (let no : ⊥ = omega arith in no)
same_of_kind bytes Session (Act (Do (Put m (Num n)))) e isa isb = absurd (let no : ⊥ = omega arith in no)
same_of_kind bytes Session (Act (Do (Put m (Bytes n)))) e isa isb = absurd (let no : ⊥ = omega arith in no)
same_of_kind bytes Session (Act (Do (Del m))) e isa isb = absurd (let no : ⊥ = omega arith in no)
same_of_kind bytes Session (Act (Do (Scan m n))) e isa isb = absurd (let no : ⊥ = omega arith in no)
same_of_kind bytes Session (Act (Do (Add m n))) e isa isb = absurd (let no : ⊥ = omega arith in no)
same_of_kind bytes Session (Act (Move l m n)) e isa isb = absurd (let no : ⊥ = omega arith in no)
same_of_kind bytes Session (Act Save) e isa isb = absurd (let no : ⊥ = omega arith in no)
same_of_kind bytes Session (Act (Back n)) e isa isb = absurd (let no : ⊥ = omega arith in no)
same_of_kind bytes Session (End Commit) e isa isb = absurd (let no : ⊥ = omega arith in no)
same_of_kind bytes Session (End Abort) e isa isb = absurd (let no : ⊥ = omega arith in no)
same_of_kind bytes Begin Blank e isa isb = absurd (let no : ⊥ = omega arith in no)
same_of_kind bytes Begin Session e isa isb = absurd (let no : ⊥ = omega arith in no)
same_of_kind bytes Begin (Act (Do (Get m))) e isa isb = absurd (let no : ⊥ = omega arith in no)
same_of_kind bytes Begin (Act (Do (Put m (Num n)))) e isa isb = absurd (let no : ⊥ = omega arith in no)
same_of_kind bytes Begin (Act (Do (Put m (Bytes n)))) e isa isb = absurd (let no : ⊥ = omega arith in no)
same_of_kind bytes Begin (Act (Do (Del m))) e isa isb = absurd (let no : ⊥ = omega arith in no)
same_of_kind bytes Begin (Act (Do (Scan m n))) e isa isb = absurd (let no : ⊥ = omega arith in no)
same_of_kind bytes Begin (Act (Do (Add m n))) e isa isb = absurd (let no : ⊥ = omega arith in no)
same_of_kind bytes Begin (Act (Move l m n)) e isa isb = absurd (let no : ⊥ = omega arith in no)
same_of_kind bytes Begin (Act Save) e isa isb = absurd (let no : ⊥ = omega arith in no)
same_of_kind bytes Begin (Act (Back n)) e isa isb = absurd (let no : ⊥ = omega arith in no)
same_of_kind bytes Begin (End Commit) e isa isb = absurd (let no : ⊥ = omega arith in no)
same_of_kind bytes Begin (End Abort) e isa isb = absurd (let no : ⊥ = omega arith in no)
same_of_kind bytes (Act (Do (Get k))) Blank e isa isb = absurd (let no : ⊥ = omega arith in no)
same_of_kind bytes (Act (Do (Get k))) Session e isa isb = absurd (let no : ⊥ = omega arith in no)
same_of_kind bytes (Act (Do (Get k))) Begin e isa isb = absurd (let no : ⊥ = omega arith in no)
same_of_kind bytes (Act (Do (Get k))) (End Commit) e isa isb = absurd (let no : ⊥ = omega arith in no)
same_of_kind bytes (Act (Do (Get k))) (End Abort) e isa isb = absurd (let no : ⊥ = omega arith in no)
same_of_kind bytes (Act (Do (Put k (Num v)))) Blank e isa isb = absurd (let no : ⊥ = omega arith in no)
same_of_kind bytes (Act (Do (Put k (Bytes v)))) Blank e isa isb = absurd (let no : ⊥ = omega arith in no)
same_of_kind bytes (Act (Do (Put k (Num v)))) Session e isa isb = absurd (let no : ⊥ = omega arith in no)
same_of_kind bytes (Act (Do (Put k (Bytes v)))) Session e isa isb = absurd (let no : ⊥ = omega arith in no)
same_of_kind bytes (Act (Do (Put k (Num v)))) Begin e isa isb = absurd (let no : ⊥ = omega arith in no)
same_of_kind bytes (Act (Do (Put k (Bytes v)))) Begin e isa isb = absurd (let no : ⊥ = omega arith in no)
same_of_kind bytes (Act (Do (Put k (Num v)))) (End Commit) e isa isb = absurd (let no : ⊥ = omega arith in no)
same_of_kind bytes (Act (Do (Put k (Bytes v)))) (End Commit) e isa isb = absurd (let no : ⊥ = omega arith in no)
same_of_kind bytes (Act (Do (Put k (Num v)))) (End Abort) e isa isb = absurd (let no : ⊥ = omega arith in no)
same_of_kind bytes (Act (Do (Put k (Bytes v)))) (End Abort) e isa isb = absurd (let no : ⊥ = omega arith in no)
same_of_kind bytes (Act (Do (Del k))) Blank e isa isb = absurd (let no : ⊥ = omega arith in no)
same_of_kind bytes (Act (Do (Del k))) Session e isa isb = absurd (let no : ⊥ = omega arith in no)
same_of_kind bytes (Act (Do (Del k))) Begin e isa isb = absurd (let no : ⊥ = omega arith in no)
same_of_kind bytes (Act (Do (Del k))) (End Commit) e isa isb = absurd (let no : ⊥ = omega arith in no)
same_of_kind bytes (Act (Do (Del k))) (End Abort) e isa isb = absurd (let no : ⊥ = omega arith in no)
same_of_kind bytes (Act (Do (Scan k v))) Blank e isa isb = absurd (let no : ⊥ = omega arith in no)
same_of_kind bytes (Act (Do (Scan k v))) Session e isa isb = absurd (let no : ⊥ = omega arith in no)
same_of_kind bytes (Act (Do (Scan k v))) Begin e isa isb = absurd (let no : ⊥ = omega arith in no)
same_of_kind bytes (Act (Do (Scan k v))) (End Commit) e isa isb = absurd (let no : ⊥ = omega arith in no)
same_of_kind bytes (Act (Do (Scan k v))) (End Abort) e isa isb = absurd (let no : ⊥ = omega arith in no)
same_of_kind bytes (Act (Do (Add k v))) Blank e isa isb = absurd (let no : ⊥ = omega arith in no)
same_of_kind bytes (Act (Do (Add k v))) Session e isa isb = absurd (let no : ⊥ = omega arith in no)
same_of_kind bytes (Act (Do (Add k v))) Begin e isa isb = absurd (let no : ⊥ = omega arith in no)
same_of_kind bytes (Act (Do (Add k v))) (End Commit) e isa isb = absurd (let no : ⊥ = omega arith in no)
same_of_kind bytes (Act (Do (Add k v))) (End Abort) e isa isb = absurd (let no : ⊥ = omega arith in no)
same_of_kind bytes (Act (Move i j k)) Blank e isa isb = absurd (let no : ⊥ = omega arith in no)
same_of_kind bytes (Act (Move i j k)) Session e isa isb = absurd (let no : ⊥ = omega arith in no)
same_of_kind bytes (Act (Move i j k)) Begin e isa isb = absurd (let no : ⊥ = omega arith in no)
same_of_kind bytes (Act (Move i j k)) (End Commit) e isa isb = absurd (let no : ⊥ = omega arith in no)
same_of_kind bytes (Act (Move i j k)) (End Abort) e isa isb = absurd (let no : ⊥ = omega arith in no)
same_of_kind bytes (Act Save) Blank e isa isb = absurd (let no : ⊥ = omega arith in no)
same_of_kind bytes (Act Save) Session e isa isb = absurd (let no : ⊥ = omega arith in no)
same_of_kind bytes (Act Save) Begin e isa isb = absurd (let no : ⊥ = omega arith in no)
same_of_kind bytes (Act Save) (End Commit) e isa isb = absurd (let no : ⊥ = omega arith in no)
same_of_kind bytes (Act Save) (End Abort) e isa isb = absurd (let no : ⊥ = omega arith in no)
same_of_kind bytes (Act (Back k)) Blank e isa isb = absurd (let no : ⊥ = omega arith in no)
same_of_kind bytes (Act (Back k)) Session e isa isb = absurd (let no : ⊥ = omega arith in no)
same_of_kind bytes (Act (Back k)) Begin e isa isb = absurd (let no : ⊥ = omega arith in no)
same_of_kind bytes (Act (Back k)) (End Commit) e isa isb = absurd (let no : ⊥ = omega arith in no)
same_of_kind bytes (Act (Back k)) (End Abort) e isa isb = absurd (let no : ⊥ = omega arith in no)
same_of_kind bytes (End Commit) Blank e isa isb = absurd (let no : ⊥ = omega arith in no)
same_of_kind bytes (End Commit) Session e isa isb = absurd (let no : ⊥ = omega arith in no)
same_of_kind bytes (End Commit) Begin e isa isb = absurd (let no : ⊥ = omega arith in no)
same_of_kind bytes (End Commit) (Act (Do (Get m))) e isa isb = absurd (let no : ⊥ = omega arith in no)
same_of_kind bytes (End Commit) (Act (Do (Put m (Num n)))) e isa isb = absurd (let no : ⊥ = omega arith in no)
same_of_kind bytes (End Commit) (Act (Do (Put m (Bytes n)))) e isa isb = absurd (let no : ⊥ = omega arith in no)
same_of_kind bytes (End Commit) (Act (Do (Del m))) e isa isb = absurd (let no : ⊥ = omega arith in no)
same_of_kind bytes (End Commit) (Act (Do (Scan m n))) e isa isb = absurd (let no : ⊥ = omega arith in no)
same_of_kind bytes (End Commit) (Act (Do (Add m n))) e isa isb = absurd (let no : ⊥ = omega arith in no)
same_of_kind bytes (End Commit) (Act (Move l m n)) e isa isb = absurd (let no : ⊥ = omega arith in no)
same_of_kind bytes (End Commit) (Act Save) e isa isb = absurd (let no : ⊥ = omega arith in no)
same_of_kind bytes (End Commit) (Act (Back n)) e isa isb = absurd (let no : ⊥ = omega arith in no)
same_of_kind bytes (End Commit) (End Abort) e isa isb = absurd (let no : ⊥ = omega arith in no)
same_of_kind bytes (End Abort) Blank e isa isb = absurd (let no : ⊥ = omega arith in no)
same_of_kind bytes (End Abort) Session e isa isb = absurd (let no : ⊥ = omega arith in no)
same_of_kind bytes (End Abort) Begin e isa isb = absurd (let no : ⊥ = omega arith in no)
same_of_kind bytes (End Abort) (Act (Do (Get m))) e isa isb = absurd (let no : ⊥ = omega arith in no)
same_of_kind bytes (End Abort) (Act (Do (Put m (Num n)))) e isa isb = absurd (let no : ⊥ = omega arith in no)
same_of_kind bytes (End Abort) (Act (Do (Put m (Bytes n)))) e isa isb = absurd (let no : ⊥ = omega arith in no)
same_of_kind bytes (End Abort) (Act (Do (Del m))) e isa isb = absurd (let no : ⊥ = omega arith in no)
same_of_kind bytes (End Abort) (Act (Do (Scan m n))) e isa isb = absurd (let no : ⊥ = omega arith in no)
same_of_kind bytes (End Abort) (Act (Do (Add m n))) e isa isb = absurd (let no : ⊥ = omega arith in no)
same_of_kind bytes (End Abort) (Act (Move l m n)) e isa isb = absurd (let no : ⊥ = omega arith in no)
same_of_kind bytes (End Abort) (Act Save) e isa isb = absurd (let no : ⊥ = omega arith in no)
same_of_kind bytes (End Abort) (Act (Back n)) e isa isb = absurd (let no : ⊥ = omega arith in no)
same_of_kind bytes (End Abort) (End Commit) e isa isb = absurd (let no : ⊥ = omega arith in no)

pub one_meaning : (bytes : List ℕ) (a b : Line) → IsLine bytes a → IsLine bytes b → a ≡ b
one_meaning bytes a b isa isb = same_of_kind bytes a b (kinds_agree bytes a b isa isb) isa isb

-- a line that is none of these is none
pub no_line :
    (bytes : List ℕ) → (((bytes ≡ []) ⊎ IsComment bytes) → ⊥) → bytes ≢ codes "session" → bytes ≢ codes "begin"
    → ((ending : Ending) → IsEnding bytes ending → ⊥) → ((action : Action) → IsAction bytes action → ⊥) → (line : Line) → IsLine bytes line → ⊥
no_line bytes blank session begins ends acts Blank is = blank is
no_line bytes blank session begins ends acts Session is = session is
no_line bytes blank session begins ends acts Begin is = begins is
no_line bytes blank session begins ends acts (Act action) is = acts action is
no_line bytes blank session begins ends acts (End ending) is = ends ending is
