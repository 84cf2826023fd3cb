-- What the steps of a call tell together.
use Rattle.std.proofs.Common.{◌≡◌, ◌≢◌, ℕ, suc, take, ◌+◌, true, List, [], ◌∷◌, ◌++◌, length, drop, get_or, sym, refl, ap, ◌∙◌, subst, arith, Option, Some, None, All, ◌<◌, ◌≤◌, append-nil, append_assoc, length-append}
use Rattle.std.proofs.lemmas.List.Elements.{All-head, All-tail, All-cons, All-nil, All-append}
use Rattle.std.proofs.lemmas.List.{get_or_append_left, get_or_at}
use Rattle.std.proofs.Math.Decide.{dec_lt}
use mathlib.Core.Logic.{dite}
use Rattle.atomic_table.specs.Table.{rest}
use Rattle.turn_lock.specs.declared.view.Record.{Record}
use Rattle.turn_lock.specs.declared.view.View.{View}
use Rattle.turn_lock.specs.declared.view.Stage.TheVariants.{Idle, Waiting, Turn}
use Rattle.turn_lock.specs.Journals.{StartsWith, entries_by, durable_of}
use Rattle.turn_lock.specs.Rule.{Fits, is_turn, having_seen, after_turn, Seated, Taken, new_records, first_alone}
use Rattle.turn_lock.specs.Journals.{GrownByOthers}
use Rattle.turn_lock.specs.Passes.{number_in, seen_in, own_in, origin_in, pass_origin, number, seen, own}
use Rattle.turn_lock.specs.declared.pass.Pass.{Pass}
use Rattle.turn_lock.proofs.Sums.{only_one}
use Rattle.turn_lock.proofs.Keeps.{some_or, held_or, Ended}

module _ {T E O : Type 0} (journal : T → List E) (origin : T → O) (maker durable : E → ℕ) (sound : T → Type 0) where
  abbrev V : Type 0
  V = View E O

  abbrev M : Type 0
  M = Seated T E O

  -- a turn with the value x, of a pass with the view p
  pub record Got (p : V) (x : T) (m : M) : Type 0 where
    pub carried : m.1 ≡ (0, None) ∷ []
    pub turn : is_turn m.0.stage ≡ true
    pub one : length m.0.records ≡ 1
    pub origin_kept : origin_in m.0.records ≡ origin_in p.records
    pub known_kept : m.0.known ≡ p.known
    pub number_kept : number_in m.0.records ≡ number_in p.records
    pub own_kept : own_in m.0.records ≡ own_in p.records
    pub seen_all : seen_in m.0.records ≡ journal x
    pub origin_is : origin_in p.records ≡ Some (origin x)
    pub is_sound : sound x
    pub grown : GrownByOthers maker (number_in p.records) (seen_in p.records) (journal x)
    pub safe : p.known ≤ durable_of durable (journal x)

  pub entered : (p : V) (m m' m3 : M) (k : ℕ) (y : Option T) (x : T) → m.0 ≡ record { stage = Waiting k; records = p.records; known = p.known } → Taken journal origin maker durable sound k m m' → m'.1 ≡ (0, y) ∷ rest m'.1 → y ≡ Some x
      → m3 ≡ (m'.0, (0, None) ∷ rest m'.1) → Got p x m3
  entered p m m' m3 k y x is t read got now =
      let xs : y ≡ Some t.value = ap (held_or None) (sym read ∙ t.slot) in
      let ex : t.value ≡ x = ap (some_or x) (sym xs ∙ got) in
      let view : m3.0 ≡ record { stage = Turn k; records = having_seen t.mine (journal t.value) ∷ []; known = m.0.known } = ap (λ (z : M). z.0) now ∙ t.view in
      let recs : p.records ≡ t.mine ∷ [] = ap (λ (z : V). z.records) (sym is) ∙ t.records in
      let num : t.mine.number ≡ number_in p.records = ap number_in (sym recs) in
      let saw : t.mine.seen ≡ seen_in p.records = ap seen_in (sym recs) in
      record {
        carried = ap (λ (z : M). z.1) now ∙ ap (λ (l : List (ℕ × Option T)). (0, None) ∷ rest l) t.slot;
        turn = ap (λ (z : V). is_turn z.stage) view;
        one = ap (λ (z : V). length z.records) view;
        origin_kept = ap (λ (z : V). origin_in z.records) view ∙ ap origin_in (sym recs);
        known_kept = ap (λ (z : V). z.known) view ∙ ap (λ (z : V). z.known) is;
        number_kept = ap (λ (z : V). number_in z.records) view ∙ num;
        own_kept = ap (λ (z : V). own_in z.records) view ∙ ap own_in (sym recs);
        seen_all = ap (λ (z : V). seen_in z.records) view ∙ ap journal ex;
        origin_is = ap origin_in recs ∙ ap (λ (z : O). Some z) (t.origin_is ∙ ap origin ex);
        is_sound = subst sound ex t.is_sound;
        safe = (let h = t.safe in let h' = ap (λ (z : V). z.known) is in let h'' = ap (λ (z : T). durable_of durable (journal z)) ex in omega arith);
        grown = (t.rest, ap journal (sym ex) ∙ (t.grown ∙ ap (λ (ys : List E). ys ++ t.rest) saw), ap (λ (w : ℕ). entries_by maker w t.rest) (sym num) ∙ t.by_others);
      }

  -- a pass after a turn with the view p, which put back the value x
  pub record Left (p : V) (x : T) (m : M) : Type 0 where
    pub carried : m.1 ≡ []
    pub idle : m.0.stage ≡ Idle
    pub one : length m.0.records ≡ 1
    pub origin_kept : origin_in m.0.records ≡ origin_in p.records
    pub known_kept : m.0.known ≡ p.known
    pub number_kept : number_in m.0.records ≡ number_in p.records
    pub seen_all : seen_in m.0.records ≡ journal x
    pub own_grown : own_in m.0.records ≡ own_in p.records ++ drop (length (seen_in p.records)) (journal x)

  pub left : (p : V) (x : T) (r : Record E O) (m : M) → p.records ≡ r ∷ [] → m ≡ (record { stage = Idle; records = after_turn r (journal x) ∷ []; known = p.known }, []) → Left p x m
  left p x r m recs now = record {
    carried = ap (λ (z : M). z.1) now;
    idle = ap (λ (z : M). z.0.stage) now;
    one = ap (λ (z : M). length z.0.records) now;
    origin_kept = ap (λ (z : M). origin_in z.0.records) now ∙ ap origin_in (sym recs);
    known_kept = ap (λ (z : M). z.0.known) now;
    number_kept = ap (λ (z : M). number_in z.0.records) now ∙ ap number_in (sym recs);
    seen_all = ap (λ (z : M). seen_in z.0.records) now;
    own_grown = ap (λ (z : M). own_in z.0.records) now ∙ ap (λ (l : List (Record E O)). own_in l ++ drop (length (seen_in l)) (journal x)) (sym recs);
  }

module _ {X : Type 0} (P : X → Type 0) where
  pub All-front : (xs ys : List X) → All P (xs ++ ys) → All P xs
  All-front xs ys a k d l = subst P (get_or_append_left xs ys d k l) (a k d (omega (arith, length-append xs ys)))

  pub All-back : (xs ys : List X) → All P (xs ++ ys) → All P ys
  All-back [] ys a = a
  All-back (x ∷ xs) ys a = All-back xs ys (All-tail P x (xs ++ ys) a)

  pub All-middle : (xs ys : List X) (x : X) → All P (xs ++ x ∷ ys) → P x
  All-middle xs ys x a = All-head P x ys (All-back xs (x ∷ ys) a)

module _ {T E O : Type 0} where
  -- the records of the passes
  abbrev pub held : List (Pass T E O) → List (Record E O)
  held [] = []
  held (p ∷ ps) = p.seat.me.0.records ++ held ps

  pub held-push : (ps : List (Pass T E O)) (p : Pass T E O) → held (ps ++ p ∷ []) ≡ held ps ++ p.seat.me.0.records
  held-push [] p = append-nil p.seat.me.0.records
  held-push (q ∷ ps) p = ap (λ rs. q.seat.me.0.records ++ rs) (held-push ps p) ∙ sym (append_assoc q.seat.me.0.records (held ps) p.seat.me.0.records)

  pub held-length : (ps : List (Pass T E O)) → length (held ps) ≡ length ps
  held-length [] = refl
  held-length (p ∷ ps) = let h = p.rests in let one = h.2 in omega (arith, length-append p.seat.me.0.records (held ps), held-length ps)

  held-all : (P : Record E O → Type 0) (ps : List (Pass T E O)) → All P (held ps) → All (λ p. All P p.seat.me.0.records) ps
  held-all P [] a = All-nil (λ p. All P p.seat.me.0.records)
  held-all P (p ∷ ps) a = All-cons (λ q. All P q.seat.me.0.records) p ps (All-front P p.seat.me.0.records (held ps) a) (held-all P ps (All-back P p.seat.me.0.records (held ps) a))

  one_other : (w : ℕ) (p : Pass T E O) → number p ≢ w → All (λ r. r.number ≢ w) p.seat.me.0.records
  one_other w p ne = let o = only_one p.seat.me.0.records p.rests.2 in let P : Record E O → Type 0 = λ r. r.number ≢ w in
      subst (All P) (sym o.1) (All-cons P o.0 [] (λ e. ne (ap number_in o.1 ∙ e)) (All-nil P))

  held-none : (w : ℕ) (ps : List (Pass T E O)) → All (λ p. number p ≢ w) ps → All (λ r. r.number ≢ w) (held ps)
  held-none w [] a = All-nil (λ r. r.number ≢ w)
  held-none w (p ∷ ps) a = let N : Pass T E O → Type 0 = λ q. number q ≢ w in All-append (λ r. r.number ≢ w) p.seat.me.0.records (held ps) (one_other w p (All-head N p ps a)) (held-none w ps (All-tail N p ps a))

  pub all_records : (items rest : List (Pass T E O)) (first : Pass T E O) (v : View E O) → items ≡ rest ++ first ∷ [] → v.records ≡ first.seat.me.0.records ++ held rest → length v.records ≡ length items
  all_records items rest first v is recs = let h = first.rests in let one = h.2 in
      omega (arith, ap length recs, length-append first.seat.me.0.records (held rest), held-length rest, ap length is, length-append rest (first ∷ []))

module _ {T E O : Type 0} (journal : T → List E) (origin : T → O) (maker durable : E → ℕ) (sound : T → Type 0) where
  fits_one : (n : ℕ) (o : O) (log : List E) (p : Pass T E O) → All (Fits n maker o log) p.seat.me.0.records → (pass_origin p ≡ Some o) × StartsWith log (seen p) × (entries_by maker (number p) log ≡ own p)
  fits_one n o log p a = let q = only_one p.seat.me.0.records p.rests.2 in let F : Record E O → Type 0 = Fits n maker o log in let f : F q.0 = All-head F q.0 [] (subst (All F) q.1 a) in
      let R : List (Record E O) → Type 0 = λ rs. (origin_in rs ≡ Some o) × StartsWith log (seen_in rs) × (entries_by maker (number_in rs) log ≡ own_in rs) in subst R (sym q.1) (ap (λ (y : O). Some y) f.origin, f.seen, f.own)

  -- what is said of all passes at the end
  pub record AllTold (x : T) (ps : List (Pass T E O)) : Type 0 where
    pub origin_is : All (λ p. pass_origin p ≡ Some (origin x)) ps
    pub is_sound : sound x
    pub seen_is : All (λ p. StartsWith (journal x) (seen p)) ps
    pub own_is : All (λ p. entries_by maker (number p) (journal x) ≡ own p) ps
    pub others : (w : ℕ) → All (λ p. number p ≢ w) ps → entries_by maker w (journal x) ≡ []

  pub tells : (n : ℕ) (o : O) (x : T) (items rest : List (Pass T E O)) (first : Pass T E O) (v : View E O) → items ≡ rest ++ first ∷ [] → v.records ≡ first.seat.me.0.records ++ held rest → Ended journal origin maker durable sound n o v x → AllTold x items
  tells n o x items rest first v is recs e =
      let F : Record E O → Type 0 = Fits n maker o (journal x) in let fits : All F (first.seat.me.0.records ++ held rest) = subst (All F) recs e.fits in
      let Q : Pass T E O → Type 0 = λ p. All F p.seat.me.0.records in
      let all : All Q items = subst (All Q) (sym is) (All-append Q rest (first ∷ []) (held-all F rest (All-back F first.seat.me.0.records (held rest) fits))
      (All-cons Q first [] (All-front F first.seat.me.0.records (held rest) fits) (All-nil Q))) in
      record {
        origin_is = λ k d l. (fits_one n o (journal x) (get_or items k d) (all k d l)).0 ∙ ap (λ (y : O). Some y) (sym e.origin_is);
        is_sound = e.is_sound;
        seen_is = λ k d l. (fits_one n o (journal x) (get_or items k d) (all k d l)).1;
        own_is = λ k d l. (fits_one n o (journal x) (get_or items k d) (all k d l)).2;
        others = λ w no. let N : Pass T E O → Type 0 = λ p. number p ≢ w in let no' : All N (rest ++ first ∷ []) = subst (All N) is no in let R : Record E O → Type 0 = λ r. r.number ≢ w in
            e.others w (subst (All R) (sym recs) (All-append R first.seat.me.0.records (held rest) (one_other w first (All-middle N rest [] first no')) (held-none w rest (All-front N rest (first ∷ []) no'))));
      }

pub dealt_more : {X : Type 0} (Q : ℕ → X → Type 0) (ps : List X) (p : X) (n : ℕ) → length ps ≡ n → ((k : ℕ) (d : X) → k < n → Q k (get_or ps k d)) → Q n p → (k : ℕ) (d : X) → k < n + 1 → Q k (get_or (ps ++ p ∷ []) k d)
dealt_more Q ps p n len old new k d l = dite (dec_lt k n) (λ lt. subst (Q k) (sym (get_or_append_left ps (p ∷ []) d k (omega arith))) (old k d lt))
    (λ ge. let e : n ≡ k = omega arith in subst (Q k) (sym (get_or_at ps p [] d k (len ∙ e))) (subst (λ (j : ℕ). Q j p) e new))

module _ {T E O : Type 0} where
  -- the pass that a split gives away
  pub cut_off : (m : Seated T E O) (v : View E O) (o : O) (g k : ℕ) → m ≡ (first_alone v, []) → v.records ≡ new_records o g (suc k) → (origin_in m.0.records ≡ Some o) × (number_in m.0.records ≡ g) × (seen_in m.0.records ≡ []) × (own_in m.0.records ≡ [])
  cut_off m v o g k now is = (
    ap (λ z. origin_in z.0.records) now ∙ ap (λ l. origin_in (take 1 l)) is,
    ap (λ z. number_in z.0.records) now ∙ ap (λ l. number_in (take 1 l)) is,
    ap (λ z. seen_in z.0.records) now ∙ ap (λ l. seen_in (take 1 l)) is,
    ap (λ z. own_in z.0.records) now ∙ ap (λ l. own_in (take 1 l)) is,
  )
