-- The entries of a walker are few: their stamps rise, and stay below a bound.
use Rattle.std.proofs.Common.{◌≡◌, inl, inr, refl, subst, ℕ, suc, ◌+◌, ◌<◌, ◌≤◌, ◌^◌, Bool, true, false, cond, not, ◌||◌, ◌==◌, eqb-true, nat_lt, List, [], ◌∷◌, length, arith}
use Rattle.std.specs.Prelude.{⊤}
use Rattle.std.specs.List.{AllByRecursion}
use Rattle.std.proofs.lemmas.Bool.{and_parts, ltb-true}
use Rattle.clv_base.specs.declared.logs.LogRecord.{LogRecord}
use Rattle.clv_base.specs.declared.events.Event.{Event}
use Rattle.clv_base.specs.declared.events.Event.TheVariants.{FlushIn}
use Rattle.clv_base.specs.declared.events.Entry.{Entry}
use Rattle.clv_base.specs.Sessions.{is_of_session}
use Rattle.clv_base.specs.State.{Shard}
use Rattle.clv_base.specs.LogRules.{log_of}
use Rattle.clv_base.specs.Journals.{History, own, journal_of, start_of, stamp_bound, MayRun, after_entry}
use Rattle.clv_base.specs.History.{Legal, later_rise, walkers_rise}
use Rattle.history_cases.proofs.Merging.{Placed, Among, in_journal}
use Rattle.history_cases.proofs.Worlds.{all_in}
use Rattle.script_runs.specs.Sessions.{session_entries}

-- ---- stamps

up_to : (e : Event) → stamp_bound e ≤ 2 ^ 48 + 16
up_to FlushIn = omega arith
up_to _ = omega arith

in_run : (log : List LogRecord) (s : Shard) (es : List Entry) (e : Entry) → MayRun log s es → Among e es → e.stamp < 2 ^ 48 + 16
in_run log s [] e r m = elim m [ ]
in_run log s (x ∷ xs) e r (inl same) = subst (λ (y : Entry). y.stamp < 2 ^ 48 + 16) same (let b = (r.0).bounded in let u = up_to x.event in omega arith)
in_run log s (x ∷ xs) e r (inr m) = in_run log (after_entry log s x) xs e r.1 m

stamped : (splits : List ℕ) (before : List (List LogRecord)) (h : History) (after : List (List LogRecord)) (x : Placed) → Legal splits before h after → Among x h → (x.1).stamp < 2 ^ 48 + 16
stamped splits before h after x l i = in_run (log_of after x.0) (start_of before x.0) (journal_of x.0 h) x.1 (l.runs x.0 (all_in splits h x l.in_shards i)) (in_journal x h i)

-- ---- those of one walker rise

abbrev RiseFrom : ℕ → History → Type 0
RiseFrom lo [] = ⊤
RiseFrom lo (e ∷ es) = (lo < (e.1).stamp) × RiseFrom (e.1).stamp es

own_rise : (w lo : ℕ) (es : History) → later_rise w lo es ≡ true → walkers_rise es ≡ true → RiseFrom lo (own w es)
own_rise w lo [] a b = tt
own_rise w lo (e ∷ es) a b = at ((e.1).walker == w) refl now.0 (λ f. own_rise w (e.1).stamp es (subst (λ v. later_rise v (e.1).stamp es ≡ true) f each.0) each.1) (own_rise w lo es now.1 each.1)
  where
    now : ((not ((e.1).walker == w) || nat_lt lo (e.1).stamp) ≡ true) × (later_rise w lo es ≡ true)
    now = and_parts (not ((e.1).walker == w) || nat_lt lo (e.1).stamp) (later_rise w lo es) a

    each : (later_rise (e.1).walker (e.1).stamp es ≡ true) × (walkers_rise es ≡ true)
    each = and_parts (later_rise (e.1).walker (e.1).stamp es) (walkers_rise es) b

    at : (c : Bool) → ((e.1).walker == w) ≡ c → (not c || nat_lt lo (e.1).stamp) ≡ true → ((e.1).walker ≡ w → RiseFrom (e.1).stamp (own w es)) → RiseFrom lo (own w es) → RiseFrom lo (cond c (e ∷ own w es) (own w es))
    at true f g rest other = (ltb-true lo (e.1).stamp g, rest (eqb-true (e.1).walker w f))
    at false f g rest other = other

below : (lo high : ℕ) (es : History) → RiseFrom lo es → AllByRecursion (λ e. (e.1).stamp < high) es → lo < high → length es + lo < high
below lo high [] r a l = omega arith
below lo high (e ∷ es) r a l = let k = below (e.1).stamp high es r.1 a.1 a.0 in let m = r.0 in omega arith

few : (w high : ℕ) (es : History) → walkers_rise es ≡ true → AllByRecursion (λ e. (e.1).stamp < high) es → (length (own w es) ≤ high) × AllByRecursion (λ e. (e.1).stamp < high) (own w es)
few w high [] r a = (omega arith, tt)
few w high (e ∷ es) r a = at ((e.1).walker == w) refl (few w high es each.1 a.1)
  where
    each : (later_rise (e.1).walker (e.1).stamp es ≡ true) × (walkers_rise es ≡ true)
    each = and_parts (later_rise (e.1).walker (e.1).stamp es) (walkers_rise es) r

    at : (c : Bool) → ((e.1).walker == w) ≡ c → (length (own w es) ≤ high) × AllByRecursion (λ x. (x.1).stamp < high) (own w es)
        → (length (cond c (e ∷ own w es) (own w es)) ≤ high) × AllByRecursion (λ x. (x.1).stamp < high) (cond c (e ∷ own w es) (own w es))
    at true f behind =
        let rise = own_rise w (e.1).stamp es (subst (λ v. later_rise v (e.1).stamp es ≡ true) (eqb-true (e.1).walker w f) each.0) each.1 in
        let k = below (e.1).stamp high (own w es) rise behind.1 a.0 in
        (omega arith, (a.0, behind.1))
    at false f behind = behind

all_from : (P : Placed → Type 0) (es : History) → ((x : Placed) → Among x es → P x) → AllByRecursion P es
all_from P [] f = tt
all_from P (e ∷ es) f = (f e (inl refl), all_from P es (λ x m. f x (inr m)))

no_more : (es : History) → length (session_entries es) ≤ length es
no_more [] = omega arith
no_more (e ∷ es) = at (is_of_session (e.1).event) (no_more es)
  where
    at : (c : Bool) → length (session_entries es) ≤ length es → length (cond c (e ∷ session_entries es) (session_entries es)) ≤ suc (length es)
    at true l = omega arith
    at false l = omega arith

pub entries_are_few : (splits : List ℕ) (before : List (List LogRecord)) (h : History) (after : List (List LogRecord)) (w : ℕ) → Legal splits before h after → length (session_entries (own w h)) ≤ 2 ^ 48 + 16
entries_are_few splits before h after w l =
    let k = (few w (2 ^ 48 + 16) h l.stamps (all_from (λ e. (e.1).stamp < 2 ^ 48 + 16) h (λ x m. stamped splits before h after x l m))).0 in
    let n = no_more (own w h) in
    omega arith
