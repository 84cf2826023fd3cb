-- What a step of the writer adds to those before.
use Rattle.std.proofs.Common.{◌≡◌, sym, ap, ◌∙◌, subst, ℕ, ◌+◌, ◌<◌, List, [], ◌∷◌, ◌++◌, length, get_or, set, take, append_assoc, append-nil, Option, Result, Ok, Err}
use Rattle.std.proofs.lemmas.List.{get_or_read}
use Rattle.std.proofs.Math.Seq.{take-append-add}
use Rattle.io_model.specs.Streams.{Grows}
use Rattle.rtrb.specs.declared.consumer.Consumer.{Consumer}
use Rattle.live_lines.specs.declared.calls.Reply.{Reply}
use Rattle.report_text.specs.declared.texts.ReportError.{ReportError}
use Rattle.report_text.specs.declared.texts.ReportError.TheVariants.{Failed, Memory}
use Rattle.live_streams.specs.Outputs.{lines_of}
use Rattle.live_streams.specs.Written.{TookOf, AddsOf, TookEach, AddsLines, Writes}
use Rattle.live_streams.proofs.Lines.{lines_on}
use Rattle.live_streams.proofs.OfLanes.{with_lane, with_lane-last}
use Rattle.live_streams.proofs.Taken.{took_at, took_each_on, took_each_none}
use Rattle.live_streams.proofs.Grown.{grows_none, grows_on}

-- more lines behind those of a text
text_on : (w v : List (ℕ × Reply)) (first text text' : List ℕ) → text ≡ first ++ lines_of w → text' ≡ text ++ lines_of v → text' ≡ first ++ lines_of (w ++ v)
text_on w v first text text' is grown = grown ∙ (ap (λ l. l ++ lines_of v) is ∙ (append_assoc first (lines_of w) (lines_of v) ∙ ap (λ l. first ++ l) (sym (lines_on w v))))

front_on : (w v : List (ℕ × Reply)) (n : ℕ) → lines_of w ++ take n (lines_of v) ≡ take (length (lines_of w) + n) (lines_of (w ++ v))
front_on w v n = sym (take-append-add (lines_of w) (lines_of v) n) ∙ ap (λ l. take (length (lines_of w) + n) l) (sym (lines_on w v))

module _ {A P : Type 0} where
  -- ---- of one lane more

  lane_took : (old all : List (Consumer Reply A P)) (lane : ℕ) (x y : Consumer Reply A P) (w : List (ℕ × Reply)) (rs : List Reply) → lane < length all → x ≡ get_or all lane x → TookEach old all w → TookOf x y rs
      → TookEach old (set all lane y) (w ++ with_lane lane rs)
  lane_took old all lane x y w rs low read took more =
      took_each_on old all (set all lane y) w (with_lane lane rs) took (took_at all lane y rs low (λ d. subst (λ (c : Consumer Reply A P). TookOf c y rs) (get_or_read all lane x low read d) more))

  pub lane_adds : (old all : List (Consumer Reply A P)) (lane : ℕ) (x y : Consumer Reply A P) (w : List (ℕ × Reply)) (first text text' : List ℕ) → lane < length all → x ≡ get_or all lane x → TookEach old all w → text ≡ first ++ lines_of w
      → AddsOf lane x y text text' (Ok (tt {0})) → AddsLines old (set all lane y) first text' (Ok (tt {0}))
  lane_adds old all lane x y w first text text' low read took is (rs, more, grown) = (w ++ with_lane lane rs, lane_took old all lane x y w rs low read took more, text_on w (with_lane lane rs) first text text' is grown)

  pub lane_adds_last : (old all : List (Consumer Reply A P)) (lane : ℕ) (x y : Consumer Reply A P) (w : List (ℕ × Reply)) (first text text' : List ℕ) (e : ReportError) → lane < length all → x ≡ get_or all lane x → TookEach old all w → text ≡ first ++ lines_of w
      → AddsOf lane x y text text' (Err e) → AddsLines old (set all lane y) first text' (Err e)
  lane_adds_last old all lane x y w first text text' Memory low read took is (rs, last, more, grown) = (
    w ++ with_lane lane rs,
    lane,
    last,
    subst (λ (v : List (ℕ × Reply)). TookEach old (set all lane y) v) (ap (λ l. w ++ l) (with_lane-last lane rs last) ∙ sym (append_assoc w (with_lane lane rs) ((lane, last) ∷ []))) (lane_took old all lane x y w (rs ++ last ∷ []) low read took more),
    text_on w (with_lane lane rs) first text text' is grown,
  )
  lane_adds_last old all lane x y w first text text' Failed low read took is none = none

  -- ---- nothing was written

  pub none_written : {B : Type 0} (all : List (Consumer Reply A P)) (t : Option (List ℕ)) (b : B) → Writes all all t t (Ok b)
  none_written all t b = ([], took_each_none all, grows_none t)

  pub text_short : (B : Type 0) (all now : List (Consumer Reply A P)) (text text' : List ℕ) (t : Option (List ℕ)) (e : ReportError) → AddsLines all now text text' (Err e) → Writes {B = B} all now t t (Err e)
  text_short B all now text text' t Memory (v, lane, last, took, grown) = ([], v ++ (lane, last) ∷ [], took, grows_none t)
  text_short B all now text text' t Failed none = absurd none

  -- ---- one round behind others

  pub writes_on : {B C : Type 0} (old all now : List (Consumer Reply A P)) (t u t' : Option (List ℕ)) (b : B) (r : Result C ReportError) → Writes old all t u (Ok b) → Writes all now u t' r → Writes old now t t' r
  writes_on old all now t u t' b (Ok c) (w, took, taken) (v, more, grown) =
      (w ++ v, took_each_on old all now w v took more, subst (λ l. Grows t t' l) (sym (lines_on w v)) (grows_on t u t' (lines_of w) (lines_of v) taken grown))
  writes_on old all now t u t' b (Err Memory) (w, took, taken) (v, lost, more, grown) = (
    w ++ v,
    lost,
    subst (λ (l : List (ℕ × Reply)). TookEach old now l) (sym (append_assoc w v lost)) (took_each_on old all now w (v ++ lost) took more),
    subst (λ l. Grows t t' l) (sym (lines_on w v)) (grows_on t u t' (lines_of w) (lines_of v) taken grown),
  )
  writes_on old all now t u t' b (Err Failed) (w, took, taken) (v, more, (n, grown)) =
      (w ++ v, took_each_on old all now w v took more, (length (lines_of w) + n, subst (λ l. Grows t t' l) (front_on w v n) (grows_on t u t' (lines_of w) (take n (lines_of v)) taken grown)))

  -- it ends as nobody takes answers
  pub writes_gone : {B : Type 0} (C : Type 0) (old now : List (Consumer Reply A P)) (t u : Option (List ℕ)) (b : B) → Writes old now t u (Ok b) → Writes {B = C} old now t u (Err Memory)
  writes_gone C old now t u b (w, took, taken) = (w, [], subst (λ (l : List (ℕ × Reply)). TookEach old now l) (sym (append-nil w)) took, taken)
