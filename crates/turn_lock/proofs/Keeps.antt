-- Each step keeps the rule of the table.
use Rattle.std.proofs.Common.{◌≡◌, ◌≢◌, ◌⊎◌, ℕ, zero, suc, ◌+◌, ◌%◌, ◌^◌, ◌<◌, ◌≤◌, max, true, false, List, [], ◌∷◌, ◌++◌, length, take, drop, get_or, set, sym, refl, ap, ◌∙◌, subst, ⊎_elim, inl, inr, arith, Option, Some, None, All, sum_by, append_assoc, append-nil, take-append-drop}
use Rattle.std.proofs.lemmas.List.Sums.{sum_by-append, sum_by-cons, sum_by_push}
use Rattle.std.proofs.lemmas.List.Elements.{All-head, All-cons, All-nil, All-append, All-drop, All-take}
use Rattle.std.proofs.Math.Nat.{mod-add-mod}
use Rattle.std.proofs.Math.Decide.{dec_lt}
use Rattle.std.proofs.Math.Seq.{drop-append_seam}
use mathlib.Core.Logic.{dite}
use mathlib.Core.Option.{none, some, some-injective, some-ne-none}
use mathlib.Core.Option as maybe
use native.Mathlib.Decide.{ℕ_discrete}
use lib.ListN.{get_elem?}
use lib.Seq.{set-get_or}
use Rattle.atomic_table.specs.Table.{State, step, Act, keeps, takes, gives, stepped, carried_after, Valid, Allows, Splits, Joins, opening, Seen, Final}
use Rattle.atomic_table.proofs.Lists.{at_set, set_else, set_again, at_snoc, at_longer, one_turn}
use Rattle.turn_lock.specs.declared.view.Record.{Record}
use Rattle.turn_lock.specs.declared.view.View.{View}
use Rattle.turn_lock.specs.declared.view.Stage.{Stage}
use Rattle.turn_lock.specs.declared.view.Stage.TheVariants.{Idle, Waiting, Turn}
use Rattle.turn_lock.specs.Journals.{entries_by, durable_of}
use Rattle.turn_lock.specs.Rule.{Fits, new_records, sum_over, in_line, is_turn, Standing, weight, places_in_line, first_view, Known, IsHome, IsOut, Kept, published, read, Seated, having_seen, after_turn, Taken, drew, looked, released, without_first, first_alone, joined, spent}
use Rattle.turn_lock.proofs.Sums.{sum_set, two_le, sum_le, alone, sum_one, no_one, only_one, seats_stay, is_at, is_at-here, none_at, sum_none, span_one, span_ones, entries_by-all, entries_by-none, entries_by-append, entries_by-rest, durable_grows, durable_starts}

abbrev pick : {P : Type 0} → Dec P → ℕ → ℕ → ℕ
pick (yes _) a b = a
pick (no _) a b = b

pub put : (ℕ → ℕ) → ℕ → ℕ → ℕ → ℕ
put f i c j = pick (ℕ_discrete j i) c (f j)

pub put_here : (f : ℕ → ℕ) (i c : ℕ) → put f i c i ≡ c
unfolding put
put_here f i c = go (ℕ_discrete i i)
  where
    go : (d : Dec (i ≡ i)) → pick d c (f i) ≡ c
    go (yes _) = refl
    go (no n) = absurd (n refl)

pub put_else : (f : ℕ → ℕ) (i c j : ℕ) → j ≢ i → put f i c j ≡ f j
unfolding put
put_else f i c j other = go (ℕ_discrete j i)
  where
    go : (d : Dec (j ≡ i)) → pick d c (f j) ≡ f j
    go (yes e) = absurd (other e)
    go (no _) = refl

abbrev ticket_or : ℕ → Stage → ℕ
ticket_or d Idle = d
ticket_or d (Waiting k) = k
ticket_or d (Turn k) = k

abbrev pub some_or : {T : Type 0} → T → Option T → T
some_or d None = d
some_or d (Some x) = x

abbrev pub held_or : {T : Type 0} → Option T → List (ℕ × Option T) → Option T
held_or d [] = d
held_or d (x ∷ xs) = x.1

abbrev pub rec_or : {A : Type 0} → A → List A → A
rec_or d [] = d
rec_or d (x ∷ xs) = x

pub turn_is : (s : Stage) → is_turn s ≡ true → (k : ℕ) × (s ≡ Turn k)
turn_is Idle e = absurd cc
turn_is (Waiting k) e = absurd cc
turn_is (Turn k) e = (k, refl)

module _ {E O : Type 0} (log : List E) (place : ℕ → ℕ) (seat : ℕ) (rs : List (Record E O)) where
  -- a ticket was drawn by another
  stands_drawn : (served drawn id : ℕ) (st : Stage) → Standing log served drawn place seat rs st → Standing log served (drawn + 1) (put place drawn id) seat rs st
  stands_drawn served drawn id Idle s = tt
  stands_drawn served drawn id (Waiting k) s = (s.0, (let l = s.1 in omega arith), put_else place drawn id k (let l = s.1 in λ e. omega arith) ∙ s.2, s.3)
  stands_drawn served drawn id (Turn k) s = (s.0, (let l = s.1 in omega arith), put_else place drawn id k (let l = s.1 in λ e. omega arith) ∙ s.2, s.3, s.4)

  -- another turn ended
  stands_served : (log' : List E) (served drawn : ℕ) (st : Stage) → place served ≢ seat → Standing log served drawn place seat rs st → Standing log' (served + 1) drawn place seat rs st
  stands_served log' served drawn Idle other s = tt
  stands_served log' served drawn (Waiting k) other s = (dite (ℕ_discrete k served) (λ e. absurd (other (ap place (sym e) ∙ s.2))) (λ ne. let l = s.0 in omega arith), s.1, s.2, s.3)
  stands_served log' served drawn (Turn k) other s = absurd (other (ap place (sym s.0) ∙ s.2))

  -- who stands at the value has the place that is served
  at_value : (served drawn : ℕ) (st : Stage) → Standing log served drawn place seat rs st → is_turn st ≡ true → place served ≡ seat
  at_value served drawn Idle s e = absurd cc
  at_value served drawn (Waiting k) s e = absurd cc
  at_value served drawn (Turn k) s e = ap place (sym s.0) ∙ s.2

  not_elsewhere : (served drawn : ℕ) (st : Stage) → Standing log served drawn place seat rs st → place served ≢ seat → is_turn st ≡ false
  not_elsewhere served drawn Idle s ne = refl
  not_elsewhere served drawn (Waiting k) s ne = refl
  not_elsewhere served drawn (Turn k) s ne = absurd (ne (ap place (sym s.0) ∙ s.2))

  -- who stands in line is one pass
  line_one : (served drawn : ℕ) (st : Stage) → Standing log served drawn place seat rs st → in_line st ≤ length rs
  line_one served drawn Idle s = omega arith
  line_one served drawn (Waiting k) s = let l = s.3 in omega arith
  line_one served drawn (Turn k) s = let l = s.3 in omega arith

module _ {E O : Type 0} (n : ℕ) (maker : E → ℕ) (o : O) where
  fresh_fits : (k m : ℕ) → k + m ≤ n → All (Fits n maker o []) (new_records o k m)
  fresh_fits k zero l = All-nil (Fits n maker o [])
  fresh_fits k (suc m) l = All-cons (Fits n maker o []) (record { number = k; origin = o; seen = []; own = [] }) (new_records o (suc k) m) record { origin = refl; small = omega arith; seen = ([], refl); own = refl; known = refl } (fresh_fits (suc k) m (omega arith))

  -- entries of another number do not touch a record
  fits_grown : (w : ℕ) (log d : List E) (r : Record E O) → r.number ≢ w → All (λ e. maker e ≡ w) d → Fits n maker o log r → Fits n maker o (log ++ d) r
  fits_grown w log d r ne a f = record {
    origin = f.origin;
    small = f.small;
    seen = (f.seen.0 ++ d, ap (λ xs. xs ++ d) f.seen.1 ∙ append_assoc r.seen f.seen.0 d);
    own = entries_by-append maker r.number log d ∙ (ap (λ xs. entries_by maker r.number log ++ xs) (entries_by-none maker w r.number d ne a) ∙ (append-nil (entries_by maker r.number log) ∙ f.own));
    known = f.known;
  }

  all_grown : (w : ℕ) (log d : List E) (rs : List (Record E O)) → All (λ r. r.number ≢ w) rs → All (λ e. maker e ≡ w) d → All (Fits n maker o log) rs → All (Fits n maker o (log ++ d)) rs
  all_grown w log d rs ne a f k x l = fits_grown w log d (get_or rs k x) (ne k x l) a (f k x l)

module _ {T E O : Type 0} (journal : T → List E) (origin : T → O) (maker durable : E → ℕ) (sound : T → Type 0) (n : ℕ) (o : O) where
  abbrev V : Type 0
  V = View E O

  abbrev St : Type 0
  St = State (Option T) V

  abbrev M : Type 0
  M = Seated T E O

  abbrev Rule : St → Type 0
  Rule = Kept journal origin maker durable sound n o

  abbrev Homes : Type 0
  Homes = List (maybe.Option (Option T))

  abbrev Slot : List E → Homes → List V → Type 0
  Slot log homes views = IsHome journal origin maker durable sound o log homes views ⊎ IsOut journal origin maker durable sound homes views

  -- a seat that is not at the value changes its view
  set_seat : (vs : List V) (id : ℕ) (v w : V) → get_elem? vs id ≡ some v → get_elem? (set vs id w) id ≡ some w
  set_seat [] id v w e = absurd (some-ne-none v (sym e))
  set_seat (x ∷ xs) zero v w e = refl
  set_seat (x ∷ xs) (suc id) v w e = set_seat xs id v w e

  slot_stays : (log : List E) (homes : Homes) (vs : List V) (id : ℕ) (v w : V) → get_elem? vs id ≡ some v → is_turn v.stage ≡ false → is_turn w.stage ≡ false → Slot log homes vs → Slot log homes (set vs id w)
  slot_stays log homes vs id v w at was now (inl h) = inl record {
    value = h.value;
    slot = h.slot;
    journal_is = h.journal_is;
    origin_is = h.origin_is;
    is_sound = h.is_sound;
    none_at = seats_stay (λ _ u. is_turn u.stage ≡ false) vs id w now (λ j d _ e. h.none_at j d e);
  }
  slot_stays log homes vs id v w at was now (inr h) = let apart : h.holder ≢ id = λ e. let same : h.view ≡ v = some-injective h.view v (sym h.there ∙ (ap (get_elem? vs) e ∙ at)) in
      let t : true ≡ false = sym h.turn ∙ (ap (λ (u : V). is_turn u.stage) same ∙ was) in absurd cc in inr record { slot = h.slot; holder = h.holder; view = h.view; there = set_else vs id h.holder w apart ∙ h.there; turn = h.turn }

  -- one more view, of a seat that is not at the value
  slot_longer : (log : List E) (homes : Homes) (vs : List V) (w : V) → is_turn w.stage ≡ false → Slot log homes vs → Slot log homes (vs ++ w ∷ [])
  slot_longer log homes vs w now (inl h) = inl record {
    value = h.value;
    slot = h.slot;
    journal_is = h.journal_is;
    origin_is = h.origin_is;
    is_sound = h.is_sound;
    none_at = λ j d e. ⊎_elim (λ (t : get_elem? vs j ≡ some d). h.none_at j d t) (λ (t : w ≡ d). subst (λ (u : V). is_turn u.stage ≡ false) t now) (at_snoc vs w d j e);
  }
  slot_longer log homes vs w now (inr h) = inr record { slot = h.slot; holder = h.holder; view = h.view; there = at_longer vs (w ∷ []) h.holder h.view h.there; turn = h.turn }

  -- the views in line are fewer than the tickets wrap
  near : (s : St) (r : Rule s) → r.drawn ≤ r.served + n
  near s r = let a : sum_by places_in_line s.views ≤ sum_by (weight (λ _. 1)) s.views = sum_le places_in_line (weight (λ _. 1)) s.views
      (λ i v e. let k = r.each i v e in omega (arith, line_one r.log r.place i v.records r.served r.drawn v.stage k.stands, sum_one v.records)) in
      omega (arith, r.parts (λ _. 1), span_ones 0 n, r.line)

  same_words : (ws : List ℕ) (i : ℕ) → set ws i (get_or ws i 0) ≡ ws
  same_words ws i = set-get_or ws i 0

  first_of_one : (P : V → Type 0) (i : ℕ) (v : V) → get_elem? (first_view n o ∷ []) i ≡ some v → P (first_view n o) → P v
  first_of_one P zero v e p = subst P (some-injective (first_view n o) v e) p
  first_of_one P (suc i) v e p = absurd (some-ne-none v (sym e))

  spread : (h : ℕ → ℕ) (k m : ℕ) → sum_by (λ (r : Record E O). h r.number) (new_records o k m) ≡ sum_over h k m
  spread h k zero = refl
  spread h k (suc m) = omega (arith, sum_by-cons (λ (r : Record E O). h r.number) (record { number = k; origin = o; seen = []; own = [] }) (new_records o (suc k) m), spread h (suc k) m)

  spread_one : (h : ℕ → ℕ) (v : V) → sum_by (weight {E = E} {O = O} h) (v ∷ []) ≡ weight h v
  spread_one h v = omega (arith, sum_by-cons (weight {E = E} {O = O} h) v [])

  opens : (x : T) → n < 2 ^ 64 → journal x ≡ [] → origin x ≡ o → sound x → Rule (opening (0 ∷ 0 ∷ 0 ∷ []) (Some x ∷ []) (first_view n o))
  opens x few empty is so = record {
    drawn = 0;
    served = 0;
    horizon = 0;
    log = [];
    place = λ _. 0;
    few = few;
    words = refl;
    safe = omega arith;
    line = refl;
    parts = λ h. spread_one h (first_view n o) ∙ spread h 0 n;
    each = λ i v e. first_of_one (λ (w : V). Known n maker o [] 0 0 0 (λ _. 0) i w) i v e record { stands = tt; heard = omega arith; fits = fresh_fits n maker o 0 n (omega arith) };
    strangers = λ w l. refl;
    slot = inl record { value = x; slot = refl; journal_is = empty; origin_is = is; is_sound = so; none_at = λ i v e. first_of_one (λ (w : V). is_turn w.stage ≡ false) i v e refl };
  }

  pub starts : (xs : List (Option T)) (x : T) → xs ≡ Some x ∷ [] → n < 2 ^ 64 → journal x ≡ [] → origin x ≡ o → sound x → Rule (opening (0 ∷ 0 ∷ 0 ∷ []) xs (first_view n o))
  starts xs x there few empty is so = subst (λ (ys : List (Option T)). Rule (opening (0 ∷ 0 ∷ 0 ∷ []) ys (first_view n o))) (sym there) (opens x few empty is so)

  pub draws : (slots id : ℕ) (me : M) → me.0.stage ≡ Idle → length me.0.records ≡ 1 → Allows Rule slots id me 0 (λ x. (x + 1) % 2 ^ 64) (drew (step slots 0 1 0 none) me)
  draws slots id me idle one s r deep at small = let v : V = me.0 in let k : ℕ = r.drawn in let w : V = record { stage = Waiting k; records = v.records; known = v.known } in let known = r.each id v at in
      let was : in_line v.stage ≡ 0 = ap in_line idle in (
        w,
        keeps,
        tt,
        record {
          drawn = k + 1;
          served = r.served;
          horizon = r.horizon;
          log = r.log;
          place = put r.place k id;
          few = r.few;
          words = ap (λ (ws : List ℕ). set ws 0 ((get_or ws 0 0 + 1) % 2 ^ 64)) r.words ∙ ap (λ (x : ℕ). x ∷ (r.served % 2 ^ 64) ∷ r.horizon ∷ []) (mod-add-mod k (2 ^ 64) 1);
          safe = r.safe;
          line = omega (arith, sum_set places_in_line s.views id v w at, was, r.line);
          parts = λ h. omega (arith, sum_set (weight h) s.views id v w at, r.parts h);
          each = seats_stay (λ i u. Known n maker o r.log r.served (k + 1) r.horizon (put r.place k id) i u) s.views id w
              record { stands = ((let l = r.line in omega arith), omega arith, put_here r.place k id, one); heard = known.heard; fits = known.fits }
              (λ j u other e. let q = r.each j u e in record { stands = stands_drawn r.log r.place j u.records r.served k id u.stage q.stands; heard = q.heard; fits = q.fits });
          strangers = r.strangers;
          slot = slot_stays r.log s.homes s.views id v w at (ap is_turn idle) refl r.slot;
        },
        (k, refl, sym (ap (λ (ws : List ℕ). get_or ws 0 0) r.words)),
      )

  -- a load that finds another ticket served
  unmoved : (s : St) (r : Rule s) (i id : ℕ) (v : V) → get_elem? s.views id ≡ some v → Rule (stepped s i (get_or s.words i 0) id [] v keeps)
  unmoved s r i id v at = subst (λ (vs : List V). Rule record { words = set s.words i (get_or s.words i 0); homes = s.homes; views = vs }) (sym (set_again s.views id v at))
      (subst (λ (ws : List ℕ). Rule record { words = ws; homes = s.homes; views = s.views }) (sym (same_words s.words i)) r)

  served_now : (s : St) (r : Rule s) (id : ℕ) (v : V) (k : ℕ) → get_elem? s.views id ≡ some v → v.stage ≡ Waiting k → get_or s.words 1 0 ≡ k % 2 ^ 64 → r.served ≡ k
  served_now s r id v k at st found = let q = subst (Standing r.log r.served r.drawn r.place id v.records) st (r.each id v at).stands in let l = q.0 in let h = q.1 in let f = r.few in let m = near s r in
      one_turn r.served k (2 ^ 64) l (omega arith) (sym (ap (λ (ws : List ℕ). get_or ws 1 0) r.words) ∙ found)

  takes_it : (s : St) (r : Rule s) (id : ℕ) (v : V) (k : ℕ) → get_elem? s.views id ≡ some v → v.stage ≡ Waiting k → r.served ≡ k → (h : IsHome journal origin maker durable sound o r.log s.homes s.views)
      → (w : V) × (a : Act (Option T)) × Valid s.homes [] a × Rule (stepped s 1 (get_or s.words 1 0) id [] w a) × Taken journal origin maker durable sound k (v, []) (w, carried_after [] a)
  takes_it s r id v k at st now h =
      let known = r.each id v at in let q = subst (Standing r.log r.served r.drawn r.place id v.records) st known.stands in
      let x : T = h.value in let one = only_one v.records q.3 in let m : Record E O = one.0 in let recs : v.records ≡ m ∷ [] = one.1 in
      let w : V = record { stage = Turn k; records = having_seen m (journal x) ∷ []; known = v.known } in
      let fit : Fits n maker o r.log m = All-head (Fits n maker o r.log) m [] (subst (All (Fits n maker o r.log)) recs known.fits) in
      let jl : journal x ≡ r.log = h.journal_is in
      let new : Fits n maker o r.log (having_seen m (journal x)) = record {
        origin = fit.origin;
        small = fit.small;
        seen = ([], sym jl ∙ sym (append-nil (journal x)));
        own = fit.own;
        known = ap (entries_by maker m.number) jl ∙ fit.own;
      } in
      let P : Record E O → Type 0 = λ z. z.seen ≡ r.log in (
        w,
        takes 0 (Some x),
        ap (λ (hs : Homes). get_elem? hs 0) h.slot,
        record {
          drawn = r.drawn;
          served = r.served;
          horizon = r.horizon;
          log = r.log;
          place = r.place;
          few = r.few;
          words = same_words s.words 1 ∙ r.words;
          safe = r.safe;
          line = omega (arith, sum_set places_in_line s.views id v w at, ap in_line st, r.line);
          parts = λ g. omega (arith, sum_set (weight g) s.views id v w at, ap (sum_by (λ (z : Record E O). g z.number)) recs, r.parts g);
          each = seats_stay (λ i u. Known n maker o r.log r.served r.drawn r.horizon r.place i u) s.views id w
              record { stands = (sym now, q.1, q.2, refl, All-cons P (having_seen m (journal x)) [] jl (All-nil P)); heard = known.heard; fits = All-cons (Fits n maker o r.log) (having_seen m (journal x)) [] new (All-nil (Fits n maker o r.log)) }
              (λ j u other e. r.each j u e);
          strangers = r.strangers;
          slot = inr record { slot = ap (λ (hs : Homes). set hs 0 none) h.slot; holder = id; view = w; there = set_seat s.views id v w at; turn = refl };
        },
        record {
          value = x;
          mine = m;
          rest = fit.seen.0;
          records = recs;
          origin_is = fit.origin ∙ sym h.origin_is;
          is_sound = h.is_sound;
          grown = jl ∙ fit.seen.1;
          by_others = entries_by-rest maker m.number r.log m.seen m.own fit.seen.0 fit.seen.1 fit.own fit.known;
          safe = (let h = known.heard in let h' = r.safe in let e : durable_of durable (journal x) ≡ durable_of durable r.log = ap (durable_of durable) jl in omega arith);
          view = refl;
          slot = refl;
        },
      )

  out_to_another : (s : St) (r : Rule s) (id : ℕ) (v : V) (k : ℕ) → get_elem? s.views id ≡ some v → v.stage ≡ Waiting k → r.served ≡ k → IsOut journal origin maker durable sound s.homes s.views → ⊥
  out_to_another s r id v k at st now h = let q = subst (Standing r.log r.served r.drawn r.place id v.records) st (r.each id v at).stands in
      let there = at_value r.log r.place h.holder h.view.records r.served r.drawn h.view.stage (r.each h.holder h.view h.there).stands h.turn in
      let same : h.holder ≡ id = sym there ∙ (ap r.place now ∙ q.2) in let one : h.view ≡ v = some-injective h.view v (sym h.there ∙ (ap (get_elem? s.views) same ∙ at)) in
      let t : true ≡ false = sym h.turn ∙ (ap (λ (u : V). is_turn u.stage) one ∙ ap is_turn st) in absurd cc

  looks' : (slots id : ℕ) (v : V) (k : ℕ) → v.stage ≡ Waiting k → Allows Rule slots id (v, []) 1 (λ x. x) (looked journal origin maker durable sound (step slots 1 0 0 none) (v, []))
  looks' slots id v k st s r deep at small = dite (ℕ_discrete (get_or s.words 1 0) (k % 2 ^ 64))
      (λ hit. let now = served_now s r id v k at st hit in
      let t = ⊎_elim (λ (h : IsHome journal origin maker durable sound o r.log s.homes s.views). takes_it s r id v k at st now h) (λ (h : IsOut journal origin maker durable sound s.homes s.views). absurd (out_to_another s r id v k at st now h)) r.slot in
      (t.0, t.1, t.2, t.3, λ k' st'. let e : k ≡ k' = ap (ticket_or 0) (sym st ∙ st') in ((λ miss. absurd (miss (hit ∙ ap (λ (z : ℕ). z % 2 ^ 64) e))), λ _. subst (λ (z : ℕ). Taken journal origin maker durable sound z (v, []) (t.0, carried_after [] t.1)) e t.4)))
      (λ miss. (v, keeps, tt, unmoved s r 1 id v at, λ k' st'. let e : k ≡ k' = ap (ticket_or 0) (sym st ∙ st') in ((λ _. refl), λ hit. absurd (miss (hit ∙ ap (λ (z : ℕ). z % 2 ^ 64) (sym e))))))

  pub looks : (slots id : ℕ) (me : M) (k : ℕ) → me.1 ≡ [] → me.0.stage ≡ Waiting k → Allows Rule slots id me 1 (λ x. x) (looked journal origin maker durable sound (step slots 1 0 0 none) me)
  looks slots id me k empty st = subst (λ (xs : List (ℕ × Option T)). Allows Rule slots id (me.0, xs) 1 (λ x. x) (looked journal origin maker durable sound (step slots 1 0 0 none) (me.0, xs))) (sym empty) (looks' slots id me.0 k st)

  abbrev made : V → T → Record E O → M
  made v x m = (record { stage = Idle; records = after_turn m (journal x) ∷ []; known = v.known }, [])

  same_turn : (v : V) (x : T) (m : Record E O) (x' : T) (m' : Record E O) → v.records ≡ m ∷ [] → (xs : List (ℕ × Option T)) → xs ≡ (0, Some x) ∷ [] → xs ≡ (0, Some x') ∷ [] → v.records ≡ m' ∷ [] → made v x m ≡ made v x' m'
  same_turn v x m x' m' recs xs is carried recs' =
      let ex : x ≡ x' = ap (λ l. some_or x (held_or None l)) (sym is ∙ carried) in let em : m ≡ m' = ap (rec_or m) (sym recs ∙ recs') in λ i. made v (ex i) (em i)

  -- what a turn of the number w leaves: its own record, the others' and the rule
  releases' : (slots id : ℕ) (v : V) (x : T) (m : Record E O) (d : List E) → is_turn v.stage ≡ true → v.records ≡ m ∷ [] → m.origin ≡ origin x → sound x → journal x ≡ m.seen ++ d → All (λ e. maker e ≡ m.number) d
      → Allows Rule slots id (v, (0, Some x) ∷ []) 1 (λ y. (y + 1) % 2 ^ 64) (released journal (step slots 1 1 0 none) (v, (0, Some x) ∷ []))
  releases' slots id v x m d turn recs oi so grown mine s r deep at small =
      let known = r.each id v at in let t = turn_is v.stage turn in let k : ℕ = t.0 in let st : v.stage ≡ Turn k = t.1 in
      let q = subst (Standing r.log r.served r.drawn r.place id v.records) st known.stands in
      let fit : Fits n maker o r.log m = All-head (Fits n maker o r.log) m [] (subst (All (Fits n maker o r.log)) recs known.fits) in
      let S : Record E O → Type 0 = λ z. z.seen ≡ r.log in
      let seen_all : m.seen ≡ r.log = All-head S m [] (subst (All S) recs q.4) in
      let here : r.place r.served ≡ id = ap r.place (sym q.0) ∙ q.2 in
      let log' : List E = journal x in
      let is' : log' ≡ r.log ++ d = grown ∙ ap (λ ys. ys ++ d) seen_all in
      let kept : drop (length m.seen) log' ≡ d = ap (drop (length m.seen)) grown ∙ drop-append_seam m.seen d in
      let w : V = record { stage = Idle; records = after_turn m log' ∷ []; known = v.known } in
      let own' : entries_by maker m.number log' ≡ m.own ++ drop (length m.seen) log' = ap (entries_by maker m.number) is' ∙ (entries_by-append maker m.number r.log d ∙ (ap (λ ys. ys ++ entries_by maker m.number d) fit.own
      ∙ (ap (λ ys. m.own ++ ys) (entries_by-all maker m.number d mine) ∙ ap (λ ys. m.own ++ ys) (sym kept)))) in
      let new : Fits n maker o log' (after_turn m log') = record { origin = fit.origin; small = fit.small; seen = ([], sym (append-nil log')); own = own'; known = own' } in
      let F : Record E O → Type 0 = Fits n maker o log' in (
        w,
        gives,
        tt,
        record {
          drawn = r.drawn;
          served = r.served + 1;
          horizon = r.horizon;
          log = log';
          place = r.place;
          few = r.few;
          words = ap (λ (ws : List ℕ). set ws 1 ((get_or ws 1 0 + 1) % 2 ^ 64)) r.words ∙ ap (λ (y : ℕ). (r.drawn % 2 ^ 64) ∷ y ∷ r.horizon ∷ []) (mod-add-mod r.served (2 ^ 64) 1);
          safe = (let h = r.safe in omega (arith, durable_grows durable r.log d, ap (durable_of durable) is'));
          line = omega (arith, sum_set places_in_line s.views id v w at, ap in_line st, r.line);
          parts = λ g. omega (arith, sum_set (weight g) s.views id v w at, ap (sum_by (λ (z : Record E O). g z.number)) recs, r.parts g);
          each = seats_stay (λ i u. Known n maker o log' (r.served + 1) r.drawn r.horizon r.place i u) s.views id w
              record { stands = tt; heard = known.heard; fits = All-cons F (after_turn m log') [] new (All-nil F) }
              (λ j u other e. let p = r.each j u e in
              let two = two_le (weight (is_at m.number)) s.views id j v u (λ h. other (sym h)) at e in
              let has : weight (is_at m.number) v ≡ 1 = omega (arith, ap (sum_by (λ (z : Record E O). is_at m.number z.number)) recs, is_at-here m.number m.number refl) in
              let total = r.parts (is_at m.number) in let most = (let h = fit.small in span_one m.number 0 n (omega arith) (omega arith)) in
              let free : All (λ z. z.number ≢ m.number) u.records = none_at (λ (z : Record E O). z.number) m.number u.records (omega arith) in record {
                stands = stands_served r.log r.place j u.records log' r.served r.drawn u.stage (λ h. other (sym h ∙ here)) p.stands;
                heard = p.heard;
                fits = subst (λ (ys : List E). All (Fits n maker o ys) u.records) (sym is') (all_grown n maker o m.number r.log d u.records free mine p.fits);
              });
          strangers = λ y l. ap (entries_by maker y) is' ∙ (entries_by-append maker y r.log d ∙ (ap (λ ys. ys ++ entries_by maker y d) (r.strangers y l) ∙ entries_by-none maker m.number y d (λ e. let h = fit.small in omega arith) mine));
          slot = ⊎_elim (λ (h : IsHome journal origin maker durable sound o r.log s.homes s.views). let no : false ≡ true = sym (h.none_at id v at) ∙ turn in absurd cc)
              (λ (h : IsOut journal origin maker durable sound s.homes s.views). inl record {
                value = x;
                slot = ap (λ (hs : Homes). set hs 0 (some (Some x))) h.slot;
                journal_is = refl;
                origin_is = sym oi ∙ fit.origin;
                is_sound = so;
                none_at = seats_stay (λ _ u. is_turn u.stage ≡ false) s.views id w refl (λ j u other e. let p = r.each j u e in not_elsewhere r.log r.place j u.records r.served r.drawn u.stage p.stands (λ h'. other (sym h' ∙ here)));
              }) r.slot;
        },
        λ x' m' carried recs'. same_turn v x m x' m' recs ((0, Some x) ∷ []) refl carried recs',
      )

  pub releases : (slots id : ℕ) (me : M) (x : T) (m : Record E O) (d : List E) → me.1 ≡ (0, Some x) ∷ [] → is_turn me.0.stage ≡ true → me.0.records ≡ m ∷ [] → m.origin ≡ origin x → sound x → journal x ≡ m.seen ++ d
      → All (λ e. maker e ≡ m.number) d → Allows Rule slots id me 1 (λ y. (y + 1) % 2 ^ 64) (released journal (step slots 1 1 0 none) me)
  releases slots id me x m d carried turn recs oi so grown mine = subst (λ (xs : List (ℕ × Option T)). Allows Rule slots id (me.0, xs) 1 (λ y. (y + 1) % 2 ^ 64) (released journal (step slots 1 1 0 none) (me.0, xs))) (sym carried)
      (releases' slots id me.0 x m d turn recs oi so grown mine)

  -- the horizon becomes y, and one view that is not in line knows of k
  hears : (s : St) (r : Rule s) (id : ℕ) (v : V) (y k : ℕ) → get_elem? s.views id ≡ some v → v.stage ≡ Idle → k ≤ y → r.horizon ≤ y → y ≤ durable_of durable r.log
      → Rule record { words = set s.words 2 y; homes = s.homes; views = set s.views id (record { stage = v.stage; records = v.records; known = k }) }
  hears s r id v y k at idle low up safe = let w : V = record { stage = v.stage; records = v.records; known = k } in let known = r.each id v at in record {
    drawn = r.drawn;
    served = r.served;
    horizon = y;
    log = r.log;
    place = r.place;
    few = r.few;
    words = ap (λ (ws : List ℕ). set ws 2 y) r.words;
    safe = safe;
    line = omega (arith, sum_set places_in_line s.views id v w at, r.line);
    parts = λ g. omega (arith, sum_set (weight g) s.views id v w at, r.parts g);
    each = seats_stay (λ j u. Known n maker o r.log r.served r.drawn y r.place j u) s.views id w record { stands = known.stands; heard = low; fits = known.fits }
        (λ j u other e. let q = r.each j u e in record { stands = q.stands; heard = (let l = q.heard in omega arith); fits = q.fits });
    strangers = r.strangers;
    slot = slot_stays r.log s.homes s.views id v w at (ap is_turn idle) (ap is_turn idle) r.slot;
  }

  horizon_is : (s : St) (r : Rule s) → get_or s.words 2 0 ≡ r.horizon
  horizon_is s r = ap (λ (ws : List ℕ). get_or ws 2 0) r.words

  pub publishes : (slots id : ℕ) (me : M) (c : ℕ) (m : Record E O) → me.0.stage ≡ Idle → me.0.records ≡ m ∷ [] → c ≤ durable_of durable m.seen → Allows Rule slots id me 2 (λ x. max x c) (published (step slots 2 c 0 none) me)
  publishes slots id me c m idle recs found s r deep at small = let v : V = me.0 in let known = r.each id v at in let hw = horizon_is s r in let l = known.heard in let safe = r.safe in
      let fit : Fits n maker o r.log m = All-head (Fits n maker o r.log) m [] (subst (All (Fits n maker o r.log)) recs known.fits) in let grow = durable_starts durable r.log m.seen fit.seen in
      (record { stage = v.stage; records = v.records; known = max v.known c }, keeps, tt, hears s r id v (max (get_or s.words 2 0) c) (max v.known c) at idle (omega arith) (omega arith) (omega arith), refl)

  pub reads : (slots id : ℕ) (me : M) → me.0.stage ≡ Idle → Allows Rule slots id me 2 (λ x. x) (read (step slots 2 0 0 none) me)
  reads slots id me idle s r deep at small = let v : V = me.0 in let known = r.each id v at in let hw = horizon_is s r in let l = known.heard in let safe = r.safe in
      (record { stage = v.stage; records = v.records; known = get_or s.words 2 0 }, keeps, tt, hears s r id v (get_or s.words 2 0) (get_or s.words 2 0) at idle (omega arith) (omega arith) (omega arith), (omega arith, refl))

  pub splits : (id : ℕ) (v : V) → v.stage ≡ Idle → Splits Rule id v (without_first v) (first_alone v)
  splits id v idle s r at = let w : V = without_first v in let u : V = first_alone v in let known = r.each id v at in let vs : List V = set s.views id w in
      let none_in : in_line v.stage ≡ 0 = ap in_line idle in
      let K : ℕ → V → Type 0 = λ i z. Known n maker o r.log r.served r.drawn r.horizon r.place i z in
      let F : Record E O → Type 0 = Fits n maker o r.log in
      record {
        drawn = r.drawn;
        served = r.served;
        horizon = r.horizon;
        log = r.log;
        place = r.place;
        few = r.few;
        words = r.words;
        safe = r.safe;
        line = omega (arith, sum_by_push places_in_line vs u, sum_set places_in_line s.views id v w at, r.line);
        parts = λ h. let g : Record E O → ℕ = λ z. h z.number in omega (arith, sum_by_push (weight h) vs u, sum_set (weight h) s.views id v w at, r.parts h, sum_by-append g (take 1 v.records) (drop 1 v.records), ap (sum_by g) (take-append-drop 1 v.records));
        each = λ j z e. ⊎_elim (λ (p : get_elem? vs j ≡ some z). seats_stay K s.views id w
            record { stands = subst (Standing r.log r.served r.drawn r.place id w.records) (sym idle) tt; heard = known.heard; fits = All-drop F 1 v.records known.fits }
            (λ i y _. r.each i y) j z p) (λ (p : u ≡ z). subst (K j) p record { stands = tt; heard = omega arith; fits = All-take F 1 v.records known.fits }) (at_snoc vs u z j e);
        strangers = r.strangers;
        slot = slot_longer r.log s.homes vs u refl (slot_stays r.log s.homes s.views id v w at (ap is_turn idle) (ap is_turn idle) r.slot);
      }

  pub joins : (id : ℕ) (v : V) (other : ℕ) (u : V) → v.stage ≡ Idle → u.stage ≡ Idle → Joins Rule id v other u (joined v u) spent
  joins id v other u idle idle' s r at apart at' = let w : V = joined v u in let vs : List V = set s.views id w in
      let there : get_elem? s.views other ≡ some u = ⊎_elim (λ (t : (other ≡ id) × (w ≡ u)). absurd (apart t.0)) (λ (t : (other ≢ id) × (get_elem? s.views other ≡ some u)). t.1) (at_set s.views id other w u at') in
      let known = r.each id v at in let known' = r.each other u there in
      let K : ℕ → V → Type 0 = λ i z. Known n maker o r.log r.served r.drawn r.horizon r.place i z in
      let F : Record E O → Type 0 = Fits n maker o r.log in let gone : V = spent in
      let none_in : in_line v.stage ≡ 0 = ap in_line idle in let none_in' : in_line u.stage ≡ 0 = ap in_line idle' in
      record {
        drawn = r.drawn;
        served = r.served;
        horizon = r.horizon;
        log = r.log;
        place = r.place;
        few = r.few;
        words = r.words;
        safe = r.safe;
        line = omega (arith, sum_set places_in_line vs other u gone at', sum_set places_in_line s.views id v w at, r.line);
        parts = λ h. let g : Record E O → ℕ = λ z. h z.number in omega (arith, sum_set (weight h) vs other u gone at', sum_set (weight h) s.views id v w at, r.parts h, sum_by-append g v.records u.records);
        each = seats_stay K vs other gone record { stands = tt; heard = omega arith; fits = All-nil F }
            (λ j z _ e. seats_stay K s.views id w
            record { stands = subst (Standing r.log r.served r.drawn r.place id w.records) (sym idle) tt; heard = known.heard; fits = All-append F v.records u.records known.fits known'.fits }
            (λ i y _. r.each i y) j z e);
        strangers = r.strangers;
        slot = slot_stays r.log s.homes vs other u gone at' (ap is_turn idle') refl (slot_stays r.log s.homes s.views id v w at (ap is_turn idle) (ap is_turn idle) r.slot);
      }

  -- what is left at the end, with a view that has all records
  pub record Ended (v : V) (x : T) : Type 0 where
    pub origin_is : origin x ≡ o
    pub is_sound : sound x
    pub fits : All (Fits n maker o (journal x)) v.records
    pub others : (w : ℕ) → All (λ r. r.number ≢ w) v.records → entries_by maker w (journal x) ≡ []

  ends' : (s : St) (r : Rule s) (id : ℕ) (v : V) → get_elem? s.views id ≡ some v → v.stage ≡ Idle → length v.records ≡ n → 0 < n → (x : T) × (s.homes ≡ some (Some x) ∷ []) × Ended v x
  ends' s r id v at idle all some_left = let known = r.each id v at in let ones : sum_by (weight (λ _. 1)) s.views ≡ n = r.parts (λ _. 1) ∙ span_ones 0 n in
      let here : weight {E = E} {O = O} (λ _. 1) v ≡ n = sum_one v.records ∙ all in
      ⊎_elim (λ (h : IsHome journal origin maker durable sound o r.log s.homes s.views). let jl : r.log ≡ journal h.value = sym h.journal_is in (
        h.value,
        h.slot,
        record {
          origin_is = h.origin_is;
          is_sound = h.is_sound;
          fits = subst (λ (ys : List E). All (Fits n maker o ys) v.records) jl known.fits;
          others = λ w no. ap (entries_by maker w) (sym jl) ∙ dite (dec_lt w n)
              (λ low. let a = alone (weight {E = E} {O = O} (λ _. 1)) (weight (is_at w)) s.views id v at (λ z e. ap (sum_by (λ (y : Record E O). is_at w y.number)) (no_one z.records (sym (sum_one z.records) ∙ e))) (ones ∙ sym here) in
              let b = r.parts (is_at w) in let c = span_one w 0 n (omega arith) (omega arith) in let e = sum_none (λ (y : Record E O). y.number) w v.records no in absurd (omega arith))
              (λ high. r.strangers w (omega arith));
        },
      )) (λ (h : IsOut journal origin maker durable sound s.homes s.views). let apart : h.holder ≢ id = λ e. let same : h.view ≡ v = some-injective h.view v (sym h.there ∙ (ap (get_elem? s.views) e ∙ at)) in
      let t : true ≡ false = sym h.turn ∙ (ap (λ (u : V). is_turn u.stage) same ∙ ap is_turn idle) in absurd cc in
      let t = turn_is h.view.stage h.turn in let q = subst (Standing r.log r.served r.drawn r.place h.holder h.view.records) t.1 (r.each h.holder h.view h.there).stands in
      let two = two_le (weight {E = E} {O = O} (λ _. 1)) s.views h.holder id h.view v apart h.there at in let one = sum_one h.view.records in let l = q.3 in absurd (omega arith)) r.slot

  pub ends : (ws : List ℕ) (xs : List (Option T)) (id : ℕ) (v : V) → Final (Seen Rule id v) ws xs → v.stage ≡ Idle → length v.records ≡ n → 0 < n → (x : T) × (get_elem? xs 0 ≡ some (Some x)) × Ended v x
  ends ws xs id v f idle all some_left = let e = ends' f.0 f.1.0 id v f.1.1 idle all some_left in (e.0, f.4 0 (Some e.0) (ap (λ (hs : Homes). get_elem? hs 0) e.1), e.2)
