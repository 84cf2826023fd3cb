-- The lines of replies, one after another.
use Rattle.std.proofs.Common.{◌≡◌, refl, sym, ap, ◌∙◌, ℕ, List, [], ◌∷◌, ◌++◌, map, append_assoc, append-nil, true, false, Ok, Err}
use Rattle.rtrb.specs.Ring.{received}
use Rattle.rtrb.specs.declared.consumer.Consumer.{Consumer}
use Rattle.live_lines.specs.declared.calls.Reply.{Reply}
use Rattle.live_lines.specs.Replies.{reply_line}
use Rattle.live_streams.specs.Outputs.{lines_of}
use Rattle.report_text.specs.declared.texts.ReportError.{ReportError}
use Rattle.report_text.specs.declared.texts.ReportError.TheVariants.{Failed, Memory}
use Rattle.live_streams.specs.Written.{TookOf, AddsOne, AddsOf}
use Rattle.live_streams.specs.Same.{same_consumer, same_consumers}

-- those of two lists are those of both
pub lines_on : (a b : List (ℕ × Reply)) → lines_of (a ++ b) ≡ lines_of a ++ lines_of b
lines_on [] b = refl
lines_on ((k, r) ∷ a) b = ap (λ l. reply_line k r ++ l) (lines_on a b) ∙ sym (append_assoc (reply_line k r) (lines_of a) (lines_of b))

pub as_one : (lane : ℕ) (rs : List Reply) (r : Reply) → map {B = ℕ × Reply} (λ x. (lane, x)) (rs ++ r ∷ []) ≡ map {B = ℕ × Reply} (λ x. (lane, x)) rs ++ (lane, r) ∷ []
as_one lane [] r = refl
as_one lane (x ∷ rs) r = ap (λ l. (lane, x) ∷ l) (as_one lane rs r)

-- one more line of a lane
pub line_on :
    (lane : ℕ) (rs : List Reply) (r : Reply) (first text text' : List ℕ) → text ≡ first ++ lines_of (map {B = ℕ × Reply} (λ x. (lane, x)) rs) → text' ≡ text ++ reply_line lane r
    → text' ≡ first ++ lines_of (map {B = ℕ × Reply} (λ x. (lane, x)) (rs ++ r ∷ []))
line_on lane rs r first text text' is grown =
    let all : lines_of (map {B = ℕ × Reply} (λ x. (lane, x)) (rs ++ r ∷ [])) ≡ lines_of (map {B = ℕ × Reply} (λ x. (lane, x)) rs) ++ (reply_line lane r ++ []) = ap lines_of (as_one lane rs r) ∙ lines_on (map {B = ℕ × Reply} (λ x. (lane, x)) rs) ((lane, r) ∷ []) in
    grown ∙ (ap (λ l. l ++ reply_line lane r) is ∙ (append_assoc first (lines_of (map {B = ℕ × Reply} (λ x. (lane, x)) rs)) (reply_line lane r)
    ∙ ap (λ l. first ++ l) (ap (λ l. lines_of (map {B = ℕ × Reply} (λ x. (lane, x)) rs) ++ l) (sym (append-nil (reply_line lane r))) ∙ sym all)))

-- one more was taken
pub took_on : {A P : Type 0} (a b c : Consumer Reply A P) (rs : List Reply) (r : Reply) → TookOf a b rs → TookOf b c (r ∷ []) → TookOf a c (rs ++ r ∷ [])
took_on a b c rs r (same, is) (still, grown) = (same_consumers a b c same still, grown ∙ (ap (λ l. l ++ r ∷ []) is ∙ append_assoc (received a) rs (r ∷ [])))

pub took_same : {A P : Type 0} (a b c : Consumer Reply A P) (rs : List Reply) → TookOf a b rs → TookOf b c [] → TookOf a c rs
took_same a b c rs (same, is) (still, grown) = (same_consumers a b c same still, grown ∙ (append-nil (received b) ∙ is))

pub took_none : {A P : Type 0} (a : Consumer Reply A P) → TookOf a a []
took_none a = (same_consumer a, sym (append-nil (received a)))

-- ---- what one step adds to those before

pub adds_on :
    {A P : Type 0} (lane : ℕ) (a b c : Consumer Reply A P) (rs : List Reply) (first text text' : List ℕ) → TookOf a b rs → text ≡ first ++ lines_of (map {B = ℕ × Reply} (λ x. (lane, x)) rs) → AddsOne lane b c text text' (Ok true)
    → (replies : List Reply) × TookOf a c replies × (text' ≡ first ++ lines_of (map {B = ℕ × Reply} (λ x. (lane, x)) replies))
adds_on lane a b c rs first text text' took is (r, more, grown) = (rs ++ r ∷ [], took_on a b c rs r took more, line_on lane rs r first text text' is grown)

pub adds_last :
    {A P : Type 0} (lane : ℕ) (a b c : Consumer Reply A P) (rs : List Reply) (first text text' : List ℕ) (e : ReportError) → TookOf a b rs → text ≡ first ++ lines_of (map {B = ℕ × Reply} (λ x. (lane, x)) rs) → AddsOne lane b c text text' (Err e)
    → AddsOf lane a c first text' (Err e)
adds_last lane a b c rs first text text' Memory took is (r, more, same) = (rs, r, took_on a b c rs r took more, same ∙ is)
adds_last lane a b c rs first text text' Failed took is none = none

pub adds_none :
    {A P : Type 0} (lane : ℕ) (a b c : Consumer Reply A P) (rs : List Reply) (first text text' : List ℕ) → TookOf a b rs → text ≡ first ++ lines_of (map {B = ℕ × Reply} (λ x. (lane, x)) rs) → AddsOne lane b c text text' (Ok false)
    → AddsOf lane a c first text' (Ok (tt {0}))
adds_none lane a b c rs first text text' took is (still, same) = (rs, took_same a b c rs took still, same ∙ is)
