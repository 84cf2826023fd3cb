-- Walkers that look, and do nothing else.
use Rattle.std.proofs.Common.{◌≡◌, refl, sym, ap, ◌∙◌, subst, ℕ, zero, suc, ◌<◌, ◌≤◌, ◌^◌, ◌-◌, ◌==◌, nat_lt, Bool, true, false, cond, List, [], ◌∷◌, ◌++◌, append_assoc, append-nil, length, get_or, set, get_or-set_same, get_or-set_other, Option, Some, None, Err, arith}
use mathlib.Core.Logic.{dite}
use native.Mathlib.Decide.{ℕ_discrete}
use Rattle.std.specs.List.{AllByRecursion}
use Rattle.std.proofs.lemmas.Bool.{ltb-true, ltb-false, eq-eqb}
use Rattle.std.proofs.lemmas.List.{length-set}
use Rattle.std.proofs.lemmas.List.Elements.{filter-append}
use Rattle.turn_lock.specs.Journals.{StartsWith, entries_by}
use Rattle.turn_lock.specs.declared.pass.Pass.{Pass}
use Rattle.turn_lock.specs.Passes.{seen, pass_origin}
use Rattle.machine_laws.specs.declared.notes.Note.{Note}
use Rattle.machine_laws.specs.declared.notes.Origin.{Origin}
use Rattle.machine_laws.specs.Homes.{entries_in}
use Rattle.cluster_turns.specs.declared.shards.Shards.{Shards}
use Rattle.cluster_turns.specs.declared.shards.Walker.{Walker}
use Rattle.cluster_turns.specs.Walkers.{IsWalker, Walked, kept}
use Rattle.cluster_turns.specs.Dates.{IsDated, last_seen}
use Rattle.cluster_closing.proofs.Laws.{inside, some_inj}
use Rattle.history_replay.specs.Entries.{on_shard}
use Rattle.script_lang.specs.Bodies.{Body}
use Rattle.script_runs.specs.declared.ends.StopCause.TheVariants.{Down, Unsettled, Worn, Memory}
use Rattle.script_runs.specs.Sessions.{session_entries}
use Rattle.command_line.specs.Running.{End}
use Rattle.session_api.specs.Standing.{IsAtRest}
use Rattle.session_api.specs.Grounds.{WasDown}
use Rattle.cluster_runs.specs.PromisedSessions.{Went, NotBegun, Begun, SessionWent}
use Rattle.cluster_runs.specs.Alone.{BeginsWith, AreAlone}
use Rattle.cluster_runs.specs.Sessions.{seen_by_all, begun_by_all, HasWornLast, AreCounted, HasGrounds, SessionsGone}
use Rattle.cluster_runs.specs.declared.draining.Sight.{Sight}
use Rattle.cluster_runs.specs.Drained.{LookTold, QuietAt, WasSettled, SeesOn, HasLooked, HaveLooked, HasDrained, AreDrained}

-- ---- lists of notes

-- the last element, or another one where there is none
abbrev last_of : {E : Type 0} → E → List E → E
last_of d [] = d
last_of d (x ∷ xs) = last_of x xs

last_behind : {E : Type 0} (d : E) (xs : List E) (y : E) (ys : List E) → last_of d (xs ++ y ∷ ys) ≡ last_of y ys
last_behind d [] y ys = refl
last_behind d (x ∷ xs) y ys = last_behind x xs y ys

cancel : {E : Type 0} (xs ys : List E) → xs ++ ys ≡ xs → ys ≡ []
cancel [] ys h = h
cancel (x ∷ xs) ys h = cancel xs ys (let e : xs ++ ys ≡ xs = cc in e)

module _ {E : Type 0} (maker : E → ℕ) where
  some_kept : (w : ℕ) (x : E) (xs : List E) (b : Bool) → (maker x == w) ≡ b → entries_by maker w (x ∷ xs) ≡ [] → (b ≡ false) × (entries_by maker w xs ≡ [])
  some_kept w x xs true is h = absurd (let e = sym (ap (λ c. cond c (x ∷ entries_by maker w xs) (entries_by maker w xs)) is) ∙ h in cc)
  some_kept w x xs false is h = (refl, sym (ap (λ c. cond c (x ∷ entries_by maker w xs) (entries_by maker w xs)) is) ∙ h)

  -- who made the last one has one
  last_is_kept : (w : ℕ) (x : E) (xs : List E) → maker (last_of x xs) ≡ w → entries_by maker w (x ∷ xs) ≡ [] → ⊥
  last_is_kept w x [] made h = let k = some_kept w x [] (maker x == w) refl h in let yes = eq-eqb (maker x) w made in absurd (let e = sym k.0 ∙ yes in cc)
  last_is_kept w x (y ∷ ys) made h = last_is_kept w y ys made (some_kept w x (y ∷ ys) (maker x == w) refl h).1

  -- where each of so many has seen all of its own, and no other made any, one of them has seen all
  pub whole_seen : (count : ℕ) (notes : List E) (seen_by : ℕ → List E) → 0 < count → ((k : ℕ) → k < count → StartsWith notes (seen_by k)) → ((k : ℕ) → k < count → entries_by maker k notes ≡ entries_by maker k (seen_by k))
      → ((w : ℕ) → count ≤ w → entries_by maker w notes ≡ []) → (k : ℕ) × (k < count) × (notes ≡ seen_by k)
  whole_seen count [] seen_by some begins own others = (0, some, at (seen_by 0) (begins 0 some).0 (begins 0 some).1)
    where
      at : (xs ys : List E) → [] ≡ xs ++ ys → [] ≡ xs
      at [] ys h = refl
      at (x ∷ xs) ys h = absurd cc
  whole_seen count (n ∷ ns) seen_by some begins own others = at (nat_lt w count) refl
    where
      w : ℕ
      w = maker (last_of n ns)

      whole : (rest : List E) → n ∷ ns ≡ seen_by w ++ rest → entries_by maker w rest ≡ [] → n ∷ ns ≡ seen_by w
      whole [] is none = is ∙ append-nil (seen_by w)
      whole (y ∷ ys) is none = absurd (last_is_kept w y ys (sym (ap (λ l. maker (last_of n l)) is ∙ ap maker (last_behind n (seen_by w) y ys))) none)

      at : (b : Bool) → nat_lt w count ≡ b → (k : ℕ) × (k < count) × (n ∷ ns ≡ seen_by k)
      at true is =
          let low = ltb-true w count is in
          let b = begins w low in
          let none = cancel (entries_by maker w (seen_by w)) (entries_by maker w b.0) (sym (filter-append (λ e. maker e == w) (seen_by w) b.0) ∙ sym (ap (entries_by maker w) b.1) ∙ own w low) in
          (w, low, whole b.0 b.1 none)
      at false is = absurd (last_is_kept w n ns refl (others w (let l = ltb-false w count is in omega arith)))

-- ---- one walker's passes

module _ {T : Type 0} where
  pub sees_same : (ps : List (Option (Pass T Note Origin))) → SeesOn ps ps
  sees_same ps = record { kept_is = refl; each = λ n p had. (p, had, refl, ([], sym (append-nil (seen p)))) }

  pub sees_then : {ps qs rs : List (Option (Pass T Note Origin))} → SeesOn ps qs → SeesOn qs rs → SeesOn ps rs
  sees_then a b = record {
    kept_is = b.kept_is ∙ a.kept_is;
    each = λ n p had.
        let (q, has, origin, more) = a.each n p had in
        let (r, holds, same, further) = b.each n q has in
        (r, holds, same ∙ origin, (more.0 ++ further.0, further.1 ∙ ap (λ l. l ++ further.0) more.1 ∙ append_assoc (seen p) more.0 further.0));
  }

  pub looked_on : {m w : ℕ} {before after : List (Option (Pass T Note Origin))} (sight : Sight) → Walked (LookTold sight) m w before after → SeesOn before after
  looked_on {m} {w} {before} {after} sight h =
      let t = h.turned in
      record {
        kept_is = h.kept_is ∙ ap (λ ns. kept before ++ on_shard m (entries_in ns)) (t.told).settled.added_is ∙ append-nil (kept before);
        each = λ n p had. dite (ℕ_discrete n m)
            (λ here. (
              h.q,
              λ d. ap (λ z. get_or z n d) h.after_is ∙ ap (λ (j : ℕ). get_or (set before m (Some h.q)) j d) here ∙ get_or-set_same before m (Some h.q) d (inside before m h.p h.had),
              t.origin_is ∙ ap pass_origin (sym (some_inj p h.p (sym (had None) ∙ ap (λ (j : ℕ). get_or before j None) here ∙ h.had None))),
              (t.found.0 ++ t.added, t.seen_is ∙ ap (λ l. l ++ t.added) (t.found.1 ∙ ap (λ x. seen x ++ t.found.0) (sym (some_inj p h.p (sym (had None) ∙ ap (λ (j : ℕ). get_or before j None) here ∙ h.had None)))) ∙ append_assoc (seen p) t.found.0 t.added),
            ))
            (λ other. (p, λ d. ap (λ z. get_or z n d) h.after_is ∙ get_or-set_other before m n (Some h.q) d other ∙ had d, refl, ([], sym (append-nil (seen p)))));
      }

  -- what it has seen settled, or down, it has seen so still
  pub sees_settled : {before after : List (Option (Pass T Note Origin))} → SeesOn before after → (n clock : ℕ) → WasSettled n clock before → WasSettled n clock after
  sees_settled s n clock (p, had, k) =
      let (q, has, origin, more) = s.each n p had in (
        q,
        has,
        record {
          origin = k.origin;
          has_origin = origin ∙ k.has_origin;
          first = k.first;
          later = k.later ++ more.0;
          seen_is = more.1 ∙ ap (λ l. l ++ more.0) k.seen_is ∙ append_assoc k.first k.later more.0;
          s = k.s;
          s_is = k.s_is;
          settled = k.settled;
          early = k.early;
        },
      )

  sees_down : {before after : List (Option (Pass T Note Origin))} → SeesOn before after → (n : ℕ) → WasDown n before → WasDown n after
  sees_down s n (p, had, k) =
      let (q, has, origin, more) = s.each n p had in (
        q,
        has,
        record { origin = k.origin; has_origin = origin ∙ k.has_origin; first = k.first; later = k.later ++ more.0; seen_is = more.1 ∙ ap (λ l. l ++ more.0) k.seen_is ∙ append_assoc k.first k.later more.0; down = k.down },
      )

-- ---- walkers

module _ {M S G : Type 0} (sh : Shards M S G) where
  pub looked_not : (w : Walker M S G) → HasLooked sh w w
  looked_not w = record { number_is = refl; clock_is = refl; serial_is = refl; sees = sees_same w.passes.items; rises = omega arith; rest = λ number h. h }

  pub looked_then : (u v w : Walker M S G) → HasLooked sh u v → HasLooked sh v w → HasLooked sh u w
  looked_then u v w a b = record {
    number_is = b.number_is ∙ a.number_is;
    clock_is = b.clock_is ∙ a.clock_is;
    serial_is = b.serial_is ∙ a.serial_is;
    sees = sees_then a.sees b.sees;
    rises = (let x = a.rises in let y = b.rises in omega arith);
    rest = λ number h. b.rest number (a.rest number h);
  }

  pub none_looked : (ws : List (Walker M S G)) → HaveLooked sh ws ws
  none_looked ws = record { count = refl; each = λ k d. looked_not (get_or ws k d) }

  -- one of them looks
  pub one_looked : (us ws : List (Walker M S G)) (place : ℕ) (v : Walker M S G) → place < length ws → HaveLooked sh us ws → ((d : Walker M S G) → HasLooked sh (get_or ws place d) v) → HaveLooked sh us (set ws place v)
  one_looked us ws place v low all here = record {
    count = length-set ws place v ∙ all.count;
    each = λ k d. dite (ℕ_discrete k place)
        (λ same. subst (λ z. HasLooked sh (get_or us k d) z) (sym (ap (λ (j : ℕ). get_or (set ws place v) j d) same ∙ get_or-set_same ws place v d low))
        (looked_then (get_or us k d) (get_or ws k d) v (all.each k d) (subst (λ (j : ℕ). HasLooked sh (get_or ws j d) v) (sym same) (here d))))
        (λ other. subst (λ z. HasLooked sh (get_or us k d) z) (sym (get_or-set_other ws place k v d other)) (all.each k d));
  }

  -- and has seen each shard quiet, as those before it have
  pub one_quiet : (count : ℕ) (ws : List (Walker M S G)) (place : ℕ) (v : Walker M S G) → place < length ws → ((k n : ℕ) (d : Walker M S G) → k < place → n < count → QuietAt n (get_or ws k d).passes.items) → ((n : ℕ) → n < count → QuietAt n v.passes.items)
      → (k n : ℕ) (d : Walker M S G) → k < suc place → n < count → QuietAt n (get_or (set ws place v) k d).passes.items
  one_quiet count ws place v low before here k n d less few = dite (ℕ_discrete k place)
      (λ same. subst (λ z. QuietAt n z.passes.items) (sym (ap (λ (j : ℕ). get_or (set ws place v) j d) same ∙ get_or-set_same ws place v d low)) (here n few))
      (λ other. subst (λ z. QuietAt n z.passes.items) (sym (get_or-set_other ws place k v d other)) (before k n d (omega (arith, other)) few))

  -- walker 0 has drained, and the others stay
  pub others_walk : (ws : List (Walker M S G)) (v : Walker M S G) → IsWalker sh v → ((k : ℕ) (d : Walker M S G) → k < length ws → IsAtRest sh k (get_or ws k d)) → (k : ℕ) (d : Walker M S G) → k < length (set ws 0 v) → IsWalker sh (get_or (set ws 0 v) k d)
  others_walk [] v walks rest k d low = absurd (omega arith)
  others_walk (w ∷ ws) v walks rest zero d low = walks
  others_walk (w ∷ ws) v walks rest (suc k) d low = (rest (suc k) d low).walker

  pub has_drained : (u w v : Walker M S G) (end : End) → u ≡ w → IsAtRest sh 0 v → ((n clock : ℕ) → WasSettled n clock u.passes.items → WasSettled n clock v.passes.items) → IsDated u.clock u.passes.items v.clock v.passes.items → v.serial ≡ u.serial
      → ((at : ℕ) → end ≡ Err (Worn at) → (at ≡ 2 ^ 48) × (2 ^ 48 - 1 ≤ v.clock)) → HasDrained sh w v end
  has_drained u w v end same rest stays dated serial worn = record {
    rest = rest;
    stays = λ n clock k. stays n clock (subst (λ z. WasSettled n clock z.passes.items) (sym same) k);
    dated = subst (λ z. IsDated z.clock z.passes.items v.clock v.passes.items) same dated;
    serial = serial ∙ ap (λ z. z.serial) same;
    worn = worn;
  }

  grounds_stay : (went : Went) (w v : Walker M S G) → HasLooked sh w v → HasGrounds went w → HasGrounds went v
  grounds_stay NotBegun w v l g = g
  grounds_stay (Begun None) w v l g = g
  grounds_stay (Begun (Some (Down n))) w v l g = sees_down l.sees n g
  grounds_stay (Begun (Some (Unsettled n))) w v l g = sees_down l.sees n g
  grounds_stay (Begun (Some (Worn at))) w v l g = (g.0, (let c = l.clock_is in let k = g.1 in omega arith))
  grounds_stay (Begun (Some Memory)) w v l g = g

  seen_rises : (ws vs : List (Walker M S G)) → HaveLooked sh ws vs → (seen_by_all ws ≤ seen_by_all vs) × (begun_by_all vs ≡ begun_by_all ws)
  seen_rises [] [] l = (omega arith, refl)
  seen_rises [] (v ∷ vs) l = absurd (let c = l.count in omega arith)
  seen_rises (w ∷ ws) [] l = absurd (let c = l.count in omega arith)
  seen_rises (w ∷ ws) (v ∷ vs) l =
      let here = l.each 0 w in
      let up : last_seen w.passes.items ≤ last_seen v.passes.items = here.rises in
      let same : v.serial ≡ w.serial = here.serial_is in
      let rest = seen_rises ws vs (record { count = (let c = l.count in omega arith); each = λ k d. l.each (suc k) d }) in
      let more = rest.0 in
      let begun = rest.1 in
      (omega arith, omega arith)

  module _ (ws vs : List (Walker M S G)) (l : HaveLooked sh ws vs) where
    kept_at : (k : ℕ) (d : Walker M S G) → kept (get_or ws k d).passes.items ≡ kept (get_or vs k d).passes.items
    kept_at k d = sym (l.each k d).sees.kept_is

    pub rest_still : (count : ℕ) → ((k : ℕ) (d : Walker M S G) → k < count → IsAtRest sh k (get_or ws k d)) → (k : ℕ) (d : Walker M S G) → k < count → IsAtRest sh k (get_or vs k d)
    rest_still count rest k d low = (l.each k d).rest k (rest k d low)

    pub gone_still : (most : Option ℕ) (script : List (List Body)) (went : ℕ → Went) (end : End) → SessionsGone sh most script ws went end → SessionsGone sh most script vs went end
    gone_still most script went end g = record {
      each = λ k bodies d at. subst (SessionWent sh.splits sh.run (suc k) most bodies (went k)) (kept_at (suc k) d) (g.each k bodies d at);
      grounds = λ k d low. grounds_stay (went k) (get_or ws (suc k) d) (get_or vs (suc k) d) (l.each (suc k) d) (g.grounds k d low);
      fine = g.fine;
    }

    pub drained_still : (sessions : ℕ) (went : ℕ → Went) → AreDrained sh sessions ws went → AreDrained sh sessions vs went
    drained_still sessions went a = record {
      clock = a.clock;
      settled = λ k cause low begun n d few. sees_settled (l.each 0 d).sees n a.clock (a.settled k cause low begun n d few);
      later = λ k d low. subst (λ es. AllByRecursion (λ e. a.clock < (e.1).stamp) (session_entries es)) (kept_at (suc k) d) (a.later k d low);
    }

    pub alone_still : (most : Option ℕ) (script : List (List Body)) → AreAlone sh most script (λ k d. get_or ws (suc k) d) → AreAlone sh most script (λ k d. get_or vs (suc k) d)
    alone_still most script a = record {
      clock = a.clock;
      first = λ bodies d at. subst (λ es. BeginsWith sh.splits sh.run most bodies a.clock (session_entries es)) (kept_at 1 d) (a.first bodies d at);
      others = λ k d pos low. subst (λ es. AllByRecursion (λ e. a.clock < (e.1).stamp) (session_entries es)) (kept_at (suc k) d) (a.others k d pos low);
    }

    pub counted_still : (script : List (List Body)) → AreCounted script ws → AreCounted script vs
    counted_still script a = record {
      none = λ d. (l.each 0 d).serial_is ∙ a.none d;
      few = λ k bodies d is.
          let f = a.few k bodies d is in
          let s = (l.each (suc k) d).serial_is in
          let same = ap (λ es. length (session_entries es)) (kept_at (suc k) d) in
          omega arith;
    }

    pub worn_later : (end : End) → HasWornLast ws end → HasWornLast vs end
    worn_later end h at is =
        let w = h at is in
        let r = seen_rises ws vs l in
        let up = r.0 in
        let same = r.1 in
        let worn = w.1 in
        (w.0, omega arith)
