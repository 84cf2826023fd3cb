-- A script's savepoints after its calls.
use Rattle.std.proofs.Common.{◌≡◌, ◌∙◌, refl, sym, ap, subst, ℕ, suc, ◌≤◌, Bool, true, false, cond, ◌==◌, ◌||◌, nat_lt, nat_le, List, [], ◌∷◌, ◌++◌, Some, arith}
use Rattle.std.specs.List.{AllByRecursion, list_all, filter}
use Rattle.std.proofs.lemmas.Bool.{both_ways, ltb-true, le-leb, lt-leb, eqb-true}
use Rattle.clv_base.specs.declared.names.TxId.{TxId}
use Rattle.clv_base.specs.declared.names.Birth.{Birth}
use Rattle.clv_base.specs.Sessions.{SessionState}
use Rattle.cluster_turns.specs.declared.shards.Shards.{Shards}
use Rattle.cluster_turns.specs.declared.shards.Walker.{Walker}
use Rattle.law_base.proofs.Bools.{and_first}
use Rattle.law_base.proofs.Changed.{none_some}
use Rattle.law_base.proofs.Lists.{all_append}
use Rattle.law_base.proofs.Options.{some_inj}
use Rattle.script_lang.specs.Savepoints.{Savepoints, AreNumbered, no_savepoints, keep, upto_of, back_to}
use Rattle.script_lang.proofs.Laws.{numbered_push_as, numbered_as}
use Rattle.script_runs.specs.Seen.{Active, Going, going_saved}
use Rattle.session_api.specs.declared.progress.Progress.{Progress}
use Rattle.session_api.specs.declared.progress.Progress.TheVariants as progress
use Rattle.session_api.specs.Progresses.{acts_in}
use Rattle.session_api.specs.Savepoints.{AllStand, StandsFor, Saved, leads_of, LeadRising, going_of, saves_up_to, saves_gone}
use Rattle.session_api.specs.Standing.{Holds, HoldsSaves, standing_of}
use Rattle.session_api.proofs.Saving.{all_with}
use Rattle.session_api.proofs.Standings.{read_active}

-- ---- where there is something to go back over

-- the transaction is active, and none of its goings back was left undone
pub record GoesBy (s : Progress) (saves : Savepoints) (g : Going) : Type 0 where
  pub place : SessionState
  pub is : s ≡ progress.Active place
  pub over : record { saves = saves; written = place.written } ≡ g

pub goes_by : (s : Progress) (saves : Savepoints) (g : Going) → going_of s saves ≡ Some g → GoesBy s saves g
goes_by progress.Idle saves g h = absurd (none_some g h)
goes_by (progress.Active p) saves g h = record { place = p; is = refl; over = some_inj (record { saves = saves; written = p.written }) g h }
goes_by (progress.Worn p) saves g h = absurd (none_some g h)
goes_by (progress.Undone p n upto) saves g h = absurd (none_some g h)
goes_by (progress.Asked p home stamp) saves g h = absurd (none_some g h)
goes_by (progress.Ended p) saves g h = absurd (none_some g h)

-- its savepoints are these
pub over_these : (s : Progress) (saves : Savepoints) (g : Going) → going_of s saves ≡ Some g → g.saves ≡ saves
over_these s saves g h = sym (ap (λ x. x.saves) (goes_by s saves g h).over)

-- ---- where they lead

-- one of these
pub lead_of : (P : ℕ → Type 0) (i upto : ℕ) (ss : List (ℕ × ℕ)) → upto_of i ss ≡ Some upto → AllByRecursion P (leads_of ss) → P upto
lead_of P i upto [] h all = absurd (none_some upto h)
lead_of P i upto (s ∷ ss) h all = at (λ k. lead_of P i upto ss k all.1) (s.0 == i) h
  where
    at : (upto_of i ss ≡ Some upto → P upto) → (b : Bool) → cond b (Some s.1) (upto_of i ss) ≡ Some upto → P upto
    at rest true k = subst P (some_inj s.1 upto k) all.0
    at rest false k = rest k

pub lead_stands : (s : Progress) (i upto : ℕ) (ss : List (ℕ × ℕ)) → upto_of i ss ≡ Some upto → Saved s (leads_of ss) → StandsFor s upto
lead_stands progress.Idle i upto ss h k = tt
lead_stands (progress.Active p) i upto ss h k = lead_of (StandsFor (progress.Active p)) i upto ss h k.1
lead_stands (progress.Worn p) i upto ss h k = lead_of (StandsFor (progress.Worn p)) i upto ss h k
lead_stands (progress.Undone p n to) i upto ss h k = lead_of (StandsFor (progress.Undone p n to)) i upto ss h k
lead_stands (progress.Asked p home stamp) i upto ss h k = tt
lead_stands (progress.Ended p) i upto ss h k = tt

-- ---- one more

leads_more : (ss : List (ℕ × ℕ)) (i upto : ℕ) → leads_of (ss ++ (i, upto) ∷ []) ≡ leads_of ss ++ upto ∷ []
leads_more [] i upto = refl
leads_more (s ∷ ss) i upto = ap (λ l. s.1 ∷ l) (leads_more ss i upto)

saved_with : (s : Progress) (us : List ℕ) (upto : ℕ) → StandsFor s upto → Saved s us → Saved s (us ++ upto ∷ [])
saved_with progress.Idle us upto new h = tt
saved_with (progress.Active p) us upto new h = (h.0, all_with p us upto h.1 new)
saved_with (progress.Worn p) us upto new h = all_with p us upto h new
saved_with (progress.Undone p n to) us upto new h = all_with p us upto h new
saved_with (progress.Asked p home stamp) us upto new h = tt
saved_with (progress.Ended p) us upto new h = tt

rising_with : (us : List ℕ) (upto : ℕ) → AllByRecursion (λ u. u ≤ upto) us → LeadRising us → LeadRising (us ++ upto ∷ [])
rising_with [] upto low rise = (tt, tt)
rising_with (u ∷ us) upto low rise = (all_append (λ v. u ≤ v) us (upto ∷ []) rise.0 (low.0, tt), rising_with us upto low.1 rise.1)

-- each leads to where the transaction was
none_past : (p : SessionState) (us : List ℕ) → AllStand p us → AllByRecursion (λ u. u ≤ p.nth) us
none_past p [] h = tt
none_past p (u ∷ us) h =
    let below = ltb-true u (suc p.nth) (and_first (nat_lt u (suc p.nth)) (list_all (λ b. nat_le u b.1 || nat_le b.0 u) p.backs) h.0) in (omega arith, none_past p us h.1)

rises_by : (p : SessionState) (us : List ℕ) (upto : ℕ) → Some p.nth ≡ Some upto → AllStand p us → LeadRising us → LeadRising (us ++ upto ∷ [])
rises_by p us upto is h rise = rising_with us upto (subst (λ n. AllByRecursion (λ u. u ≤ n) us) (some_inj p.nth upto is) (none_past p us h)) rise

rises_with : (s : Progress) (us : List ℕ) (upto : ℕ) → acts_in s ≡ Some upto → Saved s us → LeadRising us → LeadRising (us ++ upto ∷ [])
rises_with progress.Idle us upto is h rise = absurd (none_some upto is)
rises_with (progress.Active p) us upto is h rise = rises_by p us upto is h.1 rise
rises_with (progress.Worn p) us upto is h rise = rises_by p us upto is h rise
rises_with (progress.Undone p n to) us upto is h rise = rises_by p us upto is h rise
rises_with (progress.Asked p home stamp) us upto is h rise = absurd (none_some upto is)
rises_with (progress.Ended p) us upto is h rise = absurd (none_some upto is)

-- ---- those up to a number

abbrev up_to : ℕ → List (ℕ × ℕ) → List (ℕ × ℕ)
up_to i ss = filter (λ (s : ℕ × ℕ). nat_le s.0 i) ss

-- none has one past it
all_past : (P : ℕ × ℕ → Type 0) (i lo : ℕ) (ss : List (ℕ × ℕ)) (hi : ℕ) → i ≤ lo → AreNumbered lo ss hi → AllByRecursion P (up_to i ss)
all_past P i lo [] hi l h = tt
all_past P i lo (s ∷ ss) hi l h =
    subst (λ b. AllByRecursion P (cond b (s ∷ up_to i ss) (up_to i ss))) (sym (lt-leb s.0 i (omega (arith, h.0)))) (all_past P i s.0 ss hi (omega (arith, h.0)) h.1)

-- none of them leads further
none_further : (i upto lo : ℕ) (ss : List (ℕ × ℕ)) (hi : ℕ) → upto_of i ss ≡ Some upto → AreNumbered lo ss hi → LeadRising (leads_of ss) → AllByRecursion (λ (s : ℕ × ℕ). s.1 ≤ upto) (up_to i ss)
none_further i upto lo [] hi is h rise = tt
none_further i upto lo (s ∷ ss) hi is h rise = at (λ k. none_further i upto s.0 ss hi k h.1 rise.1) (s.0 == i) refl is
  where
    low : (b : Bool) → s.1 ≤ upto → AllByRecursion (λ (s : ℕ × ℕ). s.1 ≤ upto) (up_to i ss) → AllByRecursion (λ (s : ℕ × ℕ). s.1 ≤ upto) (cond b (s ∷ up_to i ss) (up_to i ss))
    low true l rest = (l, rest)
    low false l rest = rest

    at : (upto_of i ss ≡ Some upto → AllByRecursion (λ (s : ℕ × ℕ). s.1 ≤ upto) (up_to i ss)) → (b : Bool) → (s.0 == i) ≡ b → cond b (Some s.1) (upto_of i ss) ≡ Some upto → AllByRecursion (λ (s : ℕ × ℕ). s.1 ≤ upto) (up_to i (s ∷ ss))
    at rest true e k = low (nat_le s.0 i) (let there = some_inj s.1 upto k in omega arith) (all_past (λ (s : ℕ × ℕ). s.1 ≤ upto) i s.0 ss hi (let same = eqb-true s.0 i e in omega arith) h.1)
    at rest false e k = low (nat_le s.0 i) (lead_of (λ v. s.1 ≤ v) i upto ss k rise.0) (rest k)

all_up_to : (P : ℕ → Type 0) (i : ℕ) (ss : List (ℕ × ℕ)) → AllByRecursion P (leads_of ss) → AllByRecursion P (leads_of (up_to i ss))
all_up_to P i [] h = tt
all_up_to P i (s ∷ ss) h = at (nat_le s.0 i) (all_up_to P i ss h.1)
  where
    at : (b : Bool) → AllByRecursion P (leads_of (up_to i ss)) → AllByRecursion P (leads_of (cond b (s ∷ up_to i ss) (up_to i ss)))
    at true rest = (h.0, rest)
    at false rest = rest

pub rising_up_to : (i : ℕ) (ss : List (ℕ × ℕ)) → LeadRising (leads_of ss) → LeadRising (leads_of (up_to i ss))
rising_up_to i [] rise = tt
rising_up_to i (s ∷ ss) rise = at (nat_le s.0 i) (rising_up_to i ss rise.1)
  where
    at : (b : Bool) → LeadRising (leads_of (up_to i ss)) → LeadRising (leads_of (cond b (s ∷ up_to i ss) (up_to i ss)))
    at true rest = (all_up_to (λ v. s.1 ≤ v) i ss rise.0, rest)
    at false rest = rest

-- what holds of those that lead no further holds of them
all_no_further : (P : ℕ → Type 0) (i upto : ℕ) (ss : List (ℕ × ℕ)) → AllByRecursion (λ (s : ℕ × ℕ). s.1 ≤ upto) (up_to i ss) → AllByRecursion P (saves_up_to upto (leads_of ss)) → AllByRecursion P (leads_of (up_to i ss))
all_no_further P i upto [] low h = tt
all_no_further P i upto (s ∷ ss) low h = at (λ l k. all_no_further P i upto ss l k) (nat_le s.0 i) low (nat_le s.1 upto) refl h
  where
    at : (AllByRecursion (λ (s : ℕ × ℕ). s.1 ≤ upto) (up_to i ss) → AllByRecursion P (saves_up_to upto (leads_of ss)) → AllByRecursion P (leads_of (up_to i ss))) → (a : Bool) → AllByRecursion (λ (s : ℕ × ℕ). s.1 ≤ upto) (cond a (s ∷ up_to i ss) (up_to i ss)) → (b : Bool) → nat_le s.1 upto ≡ b → AllByRecursion P (cond b (s.1 ∷ saves_up_to upto (leads_of ss)) (saves_up_to upto (leads_of ss)))
        → AllByRecursion P (leads_of (cond a (s ∷ up_to i ss) (up_to i ss)))
    at rest true l true e k = (k.0, rest l.1 k.1)
    at rest true l false e k = absurd (both_ways (nat_le s.1 upto) e (le-leb s.1 upto l.0))
    at rest false l true e k = rest l k.1
    at rest false l false e k = rest l k

pub saved_no_further : (t : Progress) (i upto lo : ℕ) (ss : List (ℕ × ℕ)) (hi : ℕ) → upto_of i ss ≡ Some upto → AreNumbered lo ss hi → LeadRising (leads_of ss) → Saved t (saves_up_to upto (leads_of ss)) → Saved t (leads_of (up_to i ss))
saved_no_further progress.Idle i upto lo ss hi is n rise h = tt
saved_no_further (progress.Active p) i upto lo ss hi is n rise h = (h.0, all_no_further (StandsFor (progress.Active p)) i upto ss (none_further i upto lo ss hi is n rise) h.1)
saved_no_further (progress.Worn p) i upto lo ss hi is n rise h = all_no_further (StandsFor (progress.Worn p)) i upto ss (none_further i upto lo ss hi is n rise) h
saved_no_further (progress.Undone p m to) i upto lo ss hi is n rise h = all_no_further (StandsFor (progress.Undone p m to)) i upto ss (none_further i upto lo ss hi is n rise) h
saved_no_further (progress.Asked p home stamp) i upto lo ss hi is n rise h = tt
saved_no_further (progress.Ended p) i upto lo ss hi is n rise h = tt

-- ---- the session with them

module _ {M S G : Type 0} (sh : Shards M S G) (w : Walker M S G) (s : Progress) (saves : List ℕ) where
  -- none, after a beginning
  pub held_none : (script : Savepoints) → script ≡ no_savepoints → Holds sh w s → Saved s saves → Saved s [] → HoldsSaves sh w s saves script
  held_none script is h k none = subst (HoldsSaves sh w s saves) (sym is) (record { holds = h; saved = k; leads = none; numbered = (omega arith); rise = tt })

  -- one more
  pub held_kept : (script now : Savepoints) (upto : ℕ) → HoldsSaves sh w s saves script → now ≡ keep upto script → acts_in s ≡ Some upto → StandsFor s upto → HoldsSaves sh w s saves now
  held_kept script now upto h is acts stands =
      subst (HoldsSaves sh w s saves) (sym is)
      (record {
        holds = h.holds;
        saved = h.saved;
        leads = subst (Saved s) (sym (leads_more script.standing (suc script.kept) upto)) (saved_with s (leads_of script.standing) upto stands h.leads);
        numbered = numbered_push_as script.standing (keep upto script).standing script.kept (suc script.kept) upto refl refl h.numbered;
        rise = subst LeadRising (sym (leads_more script.standing (suc script.kept) upto)) (rises_with s (leads_of script.standing) upto acts h.leads h.rise);
      })

-- what it may go back over then
pub goes_kept : (s : Progress) (script now : Savepoints) (upto : ℕ) (tx : TxId) (birth : Birth) (nth : ℕ) (touched : ℕ → Bool) (g : Going) → now ≡ keep upto script → acts_in s ≡ Some upto → standing_of s ≡ Active tx birth nth touched → going_of s script ≡ Some g
    → going_of s now ≡ Some (going_saved nth g)
goes_kept s script now upto tx birth nth touched g is acts st going = by (goes_by s script g going)
  where
    by : GoesBy s script g → going_of s now ≡ Some (going_saved nth g)
    by k =
        let p = k.place in
        let of = read_active p p.birth tx birth nth touched (ap standing_of (sym k.is) ∙ st) in
        let here = some_inj p.nth upto (sym (ap acts_in k.is) ∙ acts) in
        ap (λ x. going_of x now) k.is
        ∙ ap (λ z. Some (record { saves = z; written = p.written })) (is ∙ ap (λ n. keep n script) (sym here ∙ of.nth_is))
        ∙ ap (λ x. Some (going_saved nth x)) k.over

-- ---- after a going back

module _ {M S G : Type 0} (sh after : Shards M S G) (w v : Walker M S G) (s t : Progress) (saves saves' : List ℕ) where
  pub held_back : (script now : Savepoints) (number upto : ℕ) (g : Going) → HoldsSaves sh w s saves script → now ≡ back_to number script → upto_of number script.standing ≡ Some upto → going_of s script ≡ Some g
      → Holds after v t → Saved t saves' → Saved t (saves_gone s upto (leads_of script.standing)) → HoldsSaves after v t saves' now
  held_back script now number upto g h is stands going holds saved leads =
      let k = goes_by s script g going in
      subst (HoldsSaves after v t saves') (sym is)
      (record {
        holds = holds;
        saved = saved;
        leads = saved_no_further t number upto 0 script.standing script.kept stands h.numbered h.rise (subst (λ x. Saved t (saves_gone x upto (leads_of script.standing))) k.is leads);
        numbered = numbered_as number script.kept script.standing (back_to number script).standing refl h.numbered;
        rise = rising_up_to number script.standing h.rise;
      })
