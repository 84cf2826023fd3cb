-- Which histories are cuts.
use Rattle.std.proofs.Common.{◌&&◌, ◌≡◌, refl, sym, ap, subst, ◌∙◌, ℕ, ◌≤◌, true, false, cond, Bool, [], ◌∷◌, ◌++◌, nat_lt, arith, append_assoc}
use Rattle.std.specs.List.{AllByRecursion, list_all, filter}
use Rattle.std.proofs.lemmas.Bool.{ltb-true, ltb-false}
use Rattle.std.proofs.lemmas.List.Elements.{filter-append}
use Rattle.clv_base.specs.Shards.{shard_count}
use Rattle.clv_base.specs.Sessions.{is_of_session}
use Rattle.clv_base.specs.Journals.{History, journal_of, own}
use Rattle.clv_base.specs.History.{WasSent, MessagesSent}
use Rattle.protocol_laws.specs.Growth.{IsPrefixOf}
use Rattle.law_base.proofs.Lists.{all_mono}
use Rattle.history_cases.proofs.Merging.{Placed, Before, InOrder, in_order, stamps_follow, among_left}
use Rattle.history_cases.proofs.Worlds.{journal_append}
use Rattle.journal_laws.proofs.Entries.JournalsTellHistories.{ordered}
use Rattle.journal_laws.proofs.Entries.WalkersOwnEntries.{own_append, was_sent_more}
use Rattle.journal_laws.specs.Cuts.{FrontsAreCuts, entries_until, MomentsAreCuts, WholeWalkersServe, LegalFrontsAreCuts}

-- ---- what is delivered in a legal history was sent in it

sends_in : (pre es : History) → MessagesSent pre es → AllByRecursion (λ e. WasSent (pre ++ es) (e.1).event) es
sends_in pre [] m = tt
sends_in pre (e ∷ es) m = (
  was_sent_more pre (pre ++ e ∷ es) (λ x i. among_left x pre (e ∷ es) i) (e.1).event m.0,
  subst (λ l. AllByRecursion (λ f. WasSent l (f.1).event) es) (append_assoc pre (e ∷ []) es) (sends_in (pre ++ e ∷ []) es m.1),
)

sent_front : (pre xs ys : History) → MessagesSent pre (xs ++ ys) → MessagesSent pre xs
sent_front pre [] ys m = tt
sent_front pre (x ∷ xs) ys m = (m.0, sent_front (pre ++ x ∷ []) xs ys m.1)

pub legal_fronts_are_cuts : LegalFrontsAreCuts
legal_fronts_are_cuts splits before h cut left l j s =
    record { ordered = l.ordered; in_shards = l.in_shards; journals = j; sessions = s; messages = sends_in [] cut l.messages }

-- ---- fronts

pub whole_walkers_serve : WholeWalkersServe
whole_walkers_serve w h cut (rest, e) =
    (filter (λ e. is_of_session (e.1).event) rest, sym (filter-append (λ e. is_of_session (e.1).event) (own w cut) rest) ∙ ap (filter (λ e. is_of_session (e.1).event)) e)

front_order : (xs ys : History) → InOrder (xs ++ ys) → InOrder xs
front_order [] ys o = tt
front_order (x ∷ xs) ys o = (front_all xs o.0, front_order xs ys o.1)
  where
    front_all : (zs : History) → AllByRecursion (Before x) (zs ++ ys) → AllByRecursion (Before x) zs
    front_all [] a = tt
    front_all (z ∷ zs) a = (a.0, front_all zs a.1)

front_tests : (p : Placed → Bool) (xs ys : History) → list_all p (xs ++ ys) ≡ true → list_all p xs ≡ true
front_tests p [] ys a = refl
front_tests p (x ∷ xs) ys a = at (p x) (list_all p (xs ++ ys)) refl (front_tests p xs ys) a
  where
    at : (b c : Bool) → c ≡ list_all p (xs ++ ys) → (list_all p (xs ++ ys) ≡ true → list_all p xs ≡ true) → (b && c) ≡ true → (b && list_all p xs) ≡ true
    at true c q k h = k (sym q ∙ h)
    at false c q k h = h

pub fronts_are_cuts : FrontsAreCuts
fronts_are_cuts splits before h after cut l (rest, e) =
    record {
      ordered = ordered cut (front_order cut rest (subst InOrder (sym e) (in_order h l.ordered)));
      in_shards = front_tests (λ e. nat_lt e.0 (shard_count splits)) cut rest (ap (list_all (λ e. nat_lt e.0 (shard_count splits))) e ∙ l.in_shards);
      journals = λ n i. (journal_of n rest, sym (journal_append n cut rest) ∙ ap (journal_of n) e);
      sessions = λ w. whole_walkers_serve w h cut (own w rest, sym (own_append w cut rest) ∙ ap (own w) e);
      messages = sends_in [] cut (sent_front [] cut rest (subst (MessagesSent []) (sym e) l.messages));
    }

-- ---- moments

none_until : (stamp : ℕ) (es : History) → AllByRecursion (λ f. stamp ≤ (f.1).stamp) es → entries_until stamp es ≡ []
none_until stamp [] a = refl
none_until stamp (e ∷ es) a = at (nat_lt (e.1).stamp stamp) refl (none_until stamp es a.1)
  where
    at : (b : Bool) → nat_lt (e.1).stamp stamp ≡ b → entries_until stamp es ≡ [] → cond b (e ∷ entries_until stamp es) (entries_until stamp es) ≡ []
    at true q k = absurd (let l = ltb-true (e.1).stamp stamp q in let m = a.0 in omega (arith, l, m))
    at false q k = k

until_front : (stamp : ℕ) (h : History) → InOrder h → IsPrefixOf (entries_until stamp h) h
until_front stamp [] o = ([], refl)
until_front stamp (e ∷ es) o = at (nat_lt (e.1).stamp stamp) refl (until_front stamp es o.1)
  where
    at : (b : Bool) → nat_lt (e.1).stamp stamp ≡ b → IsPrefixOf (entries_until stamp es) es → IsPrefixOf (cond b (e ∷ entries_until stamp es) (entries_until stamp es)) (e ∷ es)
    at true q (rest, p) = (rest, ap (λ l. e ∷ l) p)
    at false q k =
        let l = ltb-false (e.1).stamp stamp q in
        subst (λ z. IsPrefixOf z (e ∷ es))
        (sym (none_until stamp es (all_mono (Before e) (λ f. stamp ≤ (f.1).stamp) (λ f b. let m = stamps_follow e f b in omega (arith, l, m)) es o.0)))
        (e ∷ es, refl)

pub moments_are_cuts : MomentsAreCuts
moments_are_cuts splits before h after stamp l =
    let p = until_front stamp h (in_order h l.ordered) in (p, fronts_are_cuts splits before h after (entries_until stamp h) l p)
