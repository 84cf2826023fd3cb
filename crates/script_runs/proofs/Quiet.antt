-- What a history tells of a transaction, where some of its entries tell nothing of it.
use Rattle.std.proofs.Common.{◌≡◌, refl, sym, ap, ◌∙◌, ℕ, ◌<◌, ◌≤◌, Bool, false, cond, ◌||◌, ◌&&◌, List, [], ◌∷◌, ◌++◌, Option, Some, None, arith}
use Rattle.std.specs.Prelude.{not}
use Rattle.std.specs.List.{AllByRecursion, list_any}
use Rattle.std.proofs.lemmas.List.Folds.{list_any-append}
use Rattle.clv_base.specs.declared.names.TxId.{TxId}
use Rattle.clv_base.specs.declared.events.Event.{Event}
use Rattle.clv_base.specs.declared.events.Event.TheVariants.{Op, RollTo, Request, Look}
use Rattle.clv_base.specs.declared.events.Outcome.{Outcome}
use Rattle.clv_base.specs.declared.events.Outcome.TheVariants.{Answered, Rolled, Asked, Acknowledged}
use Rattle.clv_base.specs.declared.events.Entry.{Entry}
use Rattle.clv_base.specs.Orders.{tx_same}
use Rattle.clv_base.specs.Journals.{History}
use Rattle.clv_base.specs.History.{acknowledged_in, is_acknowledgement, has_request, request_of}
use Rattle.clv_base.proofs.SameNames.{tx_ne}
use Rattle.law_base.proofs.Bools.{or_false}
use Rattle.law_base.proofs.Lists.{all_mono}
use Rattle.session_books.specs.Done.{Did, WentBack}
use Rattle.session_books.specs.declared.told.Told.{Told}
use Rattle.session_books.specs.Told.{told_by, with_told, told_in, looked_by, is_tx, has_look}
use Rattle.session_books.specs.Counts.{is_open}

-- the transaction whose operation, going back, request or look it is
abbrev pub name_of : Event → Option TxId
name_of (Op tx birth nth seen op) = Some tx
name_of (RollTo tx nth seen upto) = Some tx
name_of (Request tx touched) = Some tx
name_of (Look tx) = Some tx
name_of _ = None

abbrev pub IsQuiet : TxId → ℕ × Entry → Type 0
IsQuiet t e = name_of (e.1).event ≡ Some t → ⊥

abbrev pub AreQuiet : TxId → History → Type 0
AreQuiet t es = AllByRecursion (IsQuiet t) es

-- each entry's transaction is so
abbrev pub AreNamed : (TxId → Type 0) → History → Type 0
AreNamed R es = AllByRecursion (λ e. (t : TxId) → name_of (e.1).event ≡ Some t → R t) es

-- ---- tests over lists

pub any_none : (p : ℕ × Entry → Bool) (es : History) → AllByRecursion (λ e. p e ≡ false) es → list_any p es ≡ false
any_none p [] h = refl
any_none p (e ∷ es) h = ap (λ b. b || list_any p es) h.0 ∙ any_none p es h.1

pub any_first : (p : ℕ × Entry → Bool) (es fs : History) → list_any p fs ≡ false → list_any p (es ++ fs) ≡ list_any p es
any_first p es fs h = list_any-append p es fs ∙ ap (λ b. list_any p es || b) h ∙ or_false (list_any p es)

pub any_second : (p : ℕ × Entry → Bool) (es fs : History) → list_any p es ≡ false → list_any p (es ++ fs) ≡ list_any p fs
any_second p es fs h = list_any-append p es fs ∙ ap (λ b. b || list_any p fs) h

pub any_same : (p q : ℕ × Entry → Bool) (es : History) → AllByRecursion (λ e. p e ≡ q e) es → list_any p es ≡ list_any q es
any_same p q [] h = refl
any_same p q (e ∷ es) h = ap (λ b. b || list_any p es) h.0 ∙ ap (λ b. q e || b) (any_same p q es h.1)

-- ---- an entry that is quiet

apart : (t tx : TxId) → (◌≡◌ {A = Option TxId} (Some tx) (Some t) → ⊥) → (tx_same tx t ≡ false) × (tx_same t tx ≡ false)
apart t tx q = (tx_ne tx t (λ h. q (ap Some h)), tx_ne t tx (λ h. q (ap Some (sym h))))

told_quiet : (t : TxId) (ev : Event) (o : Outcome) (ts : List Told) → (name_of ev ≡ Some t → ⊥) → with_told t (told_by ev o) ts ≡ ts
told_quiet t (Op tx birth nth seen op) (Answered answer epoch) ts q = ap (λ b. cond b (record { nth = nth; done = Did op answer } ∷ ts) ts) (apart t tx q).0
told_quiet t (Op tx birth nth seen op) _ ts q = refl
told_quiet t (RollTo tx nth seen upto) Rolled ts q = ap (λ b. cond b (record { nth = nth; done = WentBack upto } ∷ ts) ts) (apart t tx q).0
told_quiet t (RollTo tx nth seen upto) _ ts q = refl
told_quiet t _ o ts q = refl

acknowledged_quiet : (t : TxId) (ev : Event) (o : Outcome) → (name_of ev ≡ Some t → ⊥) → is_acknowledgement t ev o ≡ false
acknowledged_quiet t (Look tx) Acknowledged q = (apart t tx q).1
acknowledged_quiet t (Look tx) _ q = refl
acknowledged_quiet t _ o q = refl

abbrev pub is_same : TxId → Option TxId → Bool
is_same t o = elim o as (λ z. Bool) [ Some u ↦ tx_same t u | None ↦ false ]

request_quiet : (t : TxId) (ev : Event) (o : Outcome) → (name_of ev ≡ Some t → ⊥) → is_same t (request_of ev o) ≡ false
request_quiet t (Request tx touched) Asked q = (apart t tx q).1
request_quiet t (Request tx touched) _ q = refl
request_quiet t _ o q = refl

look_quiet : (t : TxId) (ev : Event) → (name_of ev ≡ Some t → ⊥) → is_tx t (looked_by ev) ≡ false
look_quiet t (Look tx) q = (apart t tx q).1
look_quiet t _ q = refl

-- ---- entries that are quiet

pub told_none : (t : TxId) (es : History) → AreQuiet t es → told_in t es ≡ []
told_none t [] q = refl
told_none t (e ∷ es) q = told_quiet t (e.1).event (e.1).outcome (told_in t es) q.0 ∙ told_none t es q.1

told_first : (t : TxId) (es fs : History) → AreQuiet t fs → told_in t (es ++ fs) ≡ told_in t es
told_first t [] fs q = told_none t fs q
told_first t (e ∷ es) fs q = ap (with_told t (told_by (e.1).event (e.1).outcome)) (told_first t es fs q)

told_second : (t : TxId) (es fs : History) → AreQuiet t es → told_in t (es ++ fs) ≡ told_in t fs
told_second t [] fs q = refl
told_second t (e ∷ es) fs q = told_quiet t (e.1).event (e.1).outcome (told_in t (es ++ fs)) q.0 ∙ told_second t es fs q.1

pub acknowledged_none : (t : TxId) (es : History) → AreQuiet t es → acknowledged_in es t ≡ false
acknowledged_none t es q = any_none (λ e. is_acknowledgement t (e.1).event (e.1).outcome) es (all_mono (IsQuiet t) (λ e. is_acknowledgement t (e.1).event (e.1).outcome ≡ false) (λ e h. acknowledged_quiet t (e.1).event (e.1).outcome h) es q)

pub request_none : (t : TxId) (es : History) → AreQuiet t es → has_request t es ≡ false
request_none t es q = any_none (λ e. is_same t (request_of (e.1).event (e.1).outcome)) es (all_mono (IsQuiet t) (λ e. is_same t (request_of (e.1).event (e.1).outcome) ≡ false) (λ e h. request_quiet t (e.1).event (e.1).outcome h) es q)

pub look_none : (t : TxId) (es : History) → AreQuiet t es → has_look t es ≡ false
look_none t es q = any_none (λ e. is_tx t (looked_by (e.1).event)) es (all_mono (IsQuiet t) (λ e. is_tx t (looked_by (e.1).event) ≡ false) (λ e h. look_quiet t (e.1).event h) es q)

-- what both tell of it is the same
pub record TellAlike (t : TxId) (h g : History) : Type 0 where
  pub acknowledged : acknowledged_in h t ≡ acknowledged_in g t
  pub told : told_in t h ≡ told_in t g
  pub open_ : is_open h t ≡ is_open g t

pub first_alike : (t : TxId) (es fs : History) → AreQuiet t fs → TellAlike t (es ++ fs) es
first_alike t es fs q =
    record {
      acknowledged = any_first (λ e. is_acknowledgement t (e.1).event (e.1).outcome) es fs (acknowledged_none t fs q);
      told = told_first t es fs q;
      open_ =
          ap (λ b. b && not (has_look t (es ++ fs))) (any_first (λ e. is_same t (request_of (e.1).event (e.1).outcome)) es fs (request_none t fs q))
          ∙ ap (λ b. has_request t es && not b) (any_first (λ e. is_tx t (looked_by (e.1).event)) es fs (look_none t fs q));
    }

pub second_alike : (t : TxId) (es fs : History) → AreQuiet t es → TellAlike t (es ++ fs) fs
second_alike t es fs q =
    record {
      acknowledged = any_second (λ e. is_acknowledgement t (e.1).event (e.1).outcome) es fs (acknowledged_none t es q);
      told = told_second t es fs q;
      open_ =
          ap (λ b. b && not (has_look t (es ++ fs))) (any_second (λ e. is_same t (request_of (e.1).event (e.1).outcome)) es fs (request_none t es q))
          ∙ ap (λ b. has_request t fs && not b) (any_second (λ e. is_tx t (looked_by (e.1).event)) es fs (look_none t es q));
    }

-- ---- by serials

pub quiet_past : (t : TxId) (n : ℕ) (es : History) → t.serial ≤ n → AreNamed (λ u. n < u.serial) es → AreQuiet t es
quiet_past t n es low h =
    all_mono (λ e. (u : TxId) → name_of (e.1).event ≡ Some u → n < u.serial) (IsQuiet t) (λ e f is. (let past = f t is in let no : ⊥ = omega arith in no)) es h

pub quiet_before : (t : TxId) (n : ℕ) (es : History) → n < t.serial → AreNamed (λ u. u.serial ≤ n) es → AreQuiet t es
quiet_before t n es high h =
    all_mono (λ e. (u : TxId) → name_of (e.1).event ≡ Some u → u.serial ≤ n) (IsQuiet t) (λ e f is. (let low = f t is in let no : ⊥ = omega arith in no)) es h
