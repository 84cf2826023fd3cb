-- Where the pairs before are within their bounds, and what transactions were asked for is as long as their answers are, all of it is.
use Rattle.std.proofs.Common.{◌≡◌, refl, subst, ℕ, suc, ◌+◌, ◌<◌, ◌≤◌, ◌^◌, Bool, true, false, cond, nat_le, nat_lt, ◌&&◌, List, [], ◌∷◌, length, Option, Some, None, arith}
use Rattle.std.specs.List.{list_all, AllByRecursion}
use Rattle.std.proofs.lemmas.Bool.{and_parts, and_from, ltb-true, lt-ltb}
use Rattle.clv_base.specs.declared.values.Value.{Value as ValueType}
use Rattle.clv_base.specs.declared.ops.Op.{Op}
use Rattle.clv_base.specs.declared.ops.Op.TheVariants.{Get, Put, Del, Scan, Add}
use Rattle.clv_base.specs.declared.ops.Answer.{Answer}
use Rattle.clv_base.specs.Values.{fits_value}
use Rattle.clv_base.specs.FileRules.{is_value}
use Rattle.clv_base.specs.Maps.{Operates, GoesBack, KeyMap, Trail, map_get, plus, lies_between, op_answer, op_after, map_now, map_up_to, acts_after, acts_answers, replay_answers}
use Rattle.clv_base.specs.Backs.{stands_for_back, is_next, are_numbered}
use Rattle.protocol_laws.proofs.ChangesKeepSpelling.UndoIsSpelled.{plus_fits}
use Rattle.script_lang.specs.Laws.{is_word, is_narrow_op}
use Rattle.session_books.specs.Done.{Done, Did, WentBack}
use Rattle.report_reading.specs.declared.told.ReportedTx.{ReportedTx}
use Rattle.report_reading.specs.Told.{fits_optional, fits_answer, is_answer_of, can_be_done, numbered_from, numbered, has_acts, is_session, can_be_told}
use Rattle.clv_audit.specs.Right.{answers_of, all_acts, all_answers}
use Rattle.run_audit_laws.proofs.LinesAskWithinBounds.{AreAskedInTurn}
use Rattle.run_audit_laws.proofs.Naming.{is_named}
use Rattle.run_audit_laws.proofs.Fitting.{Fit, fit_get, fit_where, fit_set}

-- ---- one operation

optional_fits : (v : Option ValueType) → is_value v ≡ true → fits_optional v ≡ true
optional_fits None e = refl
optional_fits (Some v) e = e

answer_fits : (op : Op) (m : KeyMap) → Fit m → (is_answer_of op (op_answer op m) ≡ true) × (fits_answer (op_answer op m) ≡ true)
answer_fits (Get k) m f = (refl, optional_fits (map_get k m) (fit_get k m f))
answer_fits (Put k v) m f = (refl, optional_fits (map_get k m) (fit_get k m f))
answer_fits (Del k) m f = (refl, optional_fits (map_get k m) (fit_get k m f))
answer_fits (Scan lo hi) m f = (refl, fit_where (lies_between lo hi) m f)
answer_fits (Add k by) m f = (refl, refl)

after_fits : (op : Op) (m : KeyMap) → is_narrow_op op ≡ true → Fit m → Fit (op_after op m)
after_fits (Get k) m n f = f
after_fits (Put k v) m n f = let both = and_parts (is_word k) (fits_value v) n in fit_set k (Some v) m both.0 both.1 f
after_fits (Del k) m n f = fit_set k None m n refl f
after_fits (Scan lo hi) m n f = f
after_fits (Add k by) m n f = fit_set k (plus by (map_get k m)) m (and_parts (is_word k) (is_word by) n).0 (plus_fits by (map_get k m) (fit_get k m f)) f

-- ---- the acts of a transaction

abbrev AllFit : Trail → Type 0
AllFit trail = AllByRecursion (λ p. Fit p.1) trail

fit_now : (m : KeyMap) (trail : Trail) → Fit m → AllFit trail → Fit (map_now m trail)
fit_now m [] f a = f
fit_now m (p ∷ ps) f a = a.0

fit_up_to : (u : ℕ) (m : KeyMap) (trail : Trail) → Fit m → AllFit trail → Fit (map_up_to u m trail)
fit_up_to u m [] f a = f
fit_up_to u m (p ∷ ps) f a = at (nat_le p.0 u) (fit_up_to u m ps f a.1)
  where
    at : (b : Bool) → Fit (map_up_to u m ps) → Fit (cond b p.1 (map_up_to u m ps))
    at true deeper = a.0
    at false deeper = deeper

acts_fit :
    (n : ℕ) (ds : List Done) (m : KeyMap) (trail : Trail) (last : ℕ) (backs : List (ℕ × ℕ)) → Fit m → AllFit trail → AreAskedInTurn ds → n + length ds ≤ 2 ^ 64 → are_numbered last backs (numbered_from n ds) ≡ true
    → acts_answers (numbered_from n ds) m trail ≡ answers_of ds → (list_all can_be_done ds ≡ true) × Fit (acts_after (numbered_from n ds) m trail)
acts_fit n [] m trail last backs f a r l k e = (refl, fit_now m trail f a)
acts_fit n (Did op answer ∷ ds) m trail last backs f a r l k e =
    let now = map_now m trail in
    let here = fit_now m trail f a in
    let own : op_answer op now ≡ answer = cc in
    let left : acts_answers (numbered_from (suc n) ds) m ((n, op_after op now) ∷ trail) ≡ answers_of ds = cc in
    let fits = answer_fits op now here in
    let given = subst (λ (x : Answer). fits_answer x ≡ true) own fits.1 in
    let later = (and_parts (is_next last n (Operates op) backs) (are_numbered n backs (numbered_from (suc n) ds)) k).1 in
    let rest = acts_fit (suc n) ds m ((n, op_after op now) ∷ trail) n backs f (after_fits op now r.0 here, a) (r.1 given) (omega arith) later left in
    (and_from _ _ (subst (λ (x : Answer). (is_answer_of op x && (is_narrow_op op && fits_answer x)) ≡ true) own (and_from _ _ fits.0 (and_from _ _ r.0 fits.1))) rest.0, rest.1)
acts_fit n (WentBack upto ∷ ds) m trail last backs f a r l k e =
    let both = and_parts (is_next last n (GoesBack upto) backs) (are_numbered n ((n, upto) ∷ backs) (numbered_from (suc n) ds)) k in
    let low = ltb-true upto n (and_parts (nat_lt upto n) _ (and_parts (nat_lt last n) (stands_for_back n upto backs) both.0).1).0 in
    let rest = acts_fit (suc n) ds m ((n, map_up_to upto m trail) ∷ trail) n ((n, upto) ∷ backs) f (fit_up_to upto m trail f a, a) (r.1 refl) (omega arith) both.1 e in
    (and_from _ _ (lt-ltb upto (2 ^ 64) (omega arith)) rest.0, rest.1)

-- ---- transactions, one after another

-- a transaction that was asked for within its bounds, as long as its answers are within theirs: it did something, in the order of its acts' numbers, and those are few
pub record IsAsked (t : ReportedTx) : Type 0 where
  pub serial : is_word t.serial ≡ true
  pub some : has_acts t.acts ≡ true
  pub few : length t.acts < 2 ^ 32
  pub in_order : are_numbered 0 [] (numbered t.acts) ≡ true
  pub asked : AreAskedInTurn t.acts

pub asked_can_be_told :
    (ts : List ReportedTx) (m : KeyMap) → Fit m → list_all is_named ts ≡ true → AllByRecursion IsAsked ts → replay_answers m (all_acts ts) ≡ all_answers ts → list_all can_be_told ts ≡ true
asked_can_be_told [] m f n a e = refl
asked_can_be_told (t ∷ ts) m f n a e =
    let names = and_parts (is_named t) (list_all is_named ts) n in
    let name = and_parts (is_session t.session) (nat_le 1 t.serial) names.0 in
    let k = a.0 in
    let own : acts_answers (numbered t.acts) m [] ≡ answers_of t.acts = cc in
    let left : replay_answers (acts_after (numbered t.acts) m []) (all_acts ts) ≡ all_answers ts = cc in
    let here = acts_fit 1 t.acts m [] 0 [] f tt k.asked (let l = k.few in omega arith) k.in_order own in
    and_from _ _ (and_from _ _ name.0 (and_from _ _ (and_from _ _ name.1 k.serial) (and_from _ _ k.some (and_from _ _ here.0 k.in_order))))
    (asked_can_be_told ts (acts_after (numbered t.acts) m []) here.1 names.1 a.1 left)
