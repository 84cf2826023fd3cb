-- The rule of the lock's table, which each atomic step keeps, and what each step tells its caller. Word 0 is the next
-- ticket, word 1 the ticket that is served, both modulo 2^64, and word 2 the horizon. The one slot has the value while
-- it is at home. A record says of one number what its pass has seen and which entries are its own. The first view begins
-- with the records of all numbers, gives one to each pass, and a joiner takes them in again.
use Rattle.std.specs.Prelude.{Bool, true, false, ◌≡◌, ◌≢◌, ◌⊎◌, ℕ, zero, suc, ◌+◌, ◌%◌, ◌^◌, ◌<◌, ◌≤◌, List, [], ◌∷◌, ◌++◌, length, drop, take, max, Option, Some}
use Rattle.std.specs.List.{All, sum_by}
use mathlib.Core.Option.{none, some}
use mathlib.Core.Option as maybe
use lib.ListN.{get_elem?}
use Rattle.atomic_table.specs.Table.{State, Me, Step}
use Rattle.turn_lock.specs.Journals.{StartsWith, entries_by, durable_of}
use Rattle.turn_lock.specs.declared.view.Record.{Record}
use Rattle.turn_lock.specs.declared.view.View.{View}
use Rattle.turn_lock.specs.declared.view.Stage.{Stage}
use Rattle.turn_lock.specs.declared.view.Stage.TheVariants.{Idle, Waiting, Turn}

-- the record, with this journal
pub record Fits {E O : Type 0} (n : ℕ) (maker : E → ℕ) (o : O) (log : List E) (r : Record E O) : Type 0 where
  pub origin : r.origin ≡ o
  pub small : r.number < n
  pub seen : StartsWith log r.seen
  pub own : entries_by maker r.number log ≡ r.own
  pub known : entries_by maker r.number r.seen ≡ r.own

abbrev pub new_records : {E O : Type 0} → O → ℕ → ℕ → List (Record E O)
new_records o k zero = []
new_records o k (suc m) = record { number = k; origin = o; seen = []; own = [] } ∷ new_records o (suc k) m

-- h of each number from k on, m of them, added up
abbrev pub sum_over : (ℕ → ℕ) → ℕ → ℕ → ℕ
sum_over h k zero = 0
sum_over h k (suc m) = h k + sum_over h (suc k) m

abbrev pub in_line : Stage → ℕ
in_line Idle = 0
in_line (Waiting k) = 1
in_line (Turn k) = 1

abbrev pub is_turn : Stage → Bool
is_turn Idle = false
is_turn (Waiting k) = false
is_turn (Turn k) = true

-- where the seat stands: its ticket, and at the value what it has seen
abbrev pub Standing : {E O : Type 0} → List E → ℕ → ℕ → (ℕ → ℕ) → ℕ → List (Record E O) → Stage → Type 0
Standing log served drawn place seat rs Idle = Unit {0}
Standing log served drawn place seat rs (Waiting k) = (served ≤ k) × (k < drawn) × (place k ≡ seat) × (length rs ≡ 1)
Standing log served drawn place seat rs (Turn k) = (k ≡ served) × (k < drawn) × (place k ≡ seat) × (length rs ≡ 1) × All (λ r. r.seen ≡ log) rs

module _ {E O : Type 0} where
  abbrev pub weight : (ℕ → ℕ) → View E O → ℕ
  weight h v = sum_by (λ r. h r.number) v.records

  abbrev pub places_in_line : View E O → ℕ
  places_in_line v = in_line v.stage

  abbrev pub first_view : ℕ → O → View E O
  first_view n o = record { stage = Idle; records = new_records o 0 n; known = 0 }

  pub record Known (n : ℕ) (maker : E → ℕ) (o : O) (log : List E) (served drawn horizon : ℕ) (place : ℕ → ℕ) (seat : ℕ) (v : View E O) : Type 0 where
    pub stands : Standing log served drawn place seat v.records v.stage
    pub heard : v.known ≤ horizon
    pub fits : All (Fits n maker o log) v.records

module _ {T E O : Type 0} (journal : T → List E) (origin : T → O) (maker durable : E → ℕ) (sound : T → Type 0) where
  -- the value is at home, and no seat is at it
  pub record IsHome (o : O) (log : List E) (homes : List (maybe.Option (Option T))) (views : List (View E O)) : Type 0 where
    pub value : T
    pub slot : homes ≡ some (Some value) ∷ []
    pub journal_is : journal value ≡ log
    pub origin_is : origin value ≡ o
    pub is_sound : sound value
    pub none_at : (i : ℕ) (v : View E O) → get_elem? views i ≡ some v → is_turn v.stage ≡ false

  -- the seat `holder` has it
  pub record IsOut (homes : List (maybe.Option (Option T))) (views : List (View E O)) : Type 0 where
    pub slot : homes ≡ none ∷ []
    pub holder : ℕ
    pub view : View E O
    pub there : get_elem? views holder ≡ some view
    pub turn : is_turn view.stage ≡ true

  pub record Kept (n : ℕ) (o : O) (s : State (Option T) (View E O)) : Type 0 where
    pub drawn : ℕ
    pub served : ℕ
    pub horizon : ℕ
    pub log : List E
    pub place : ℕ → ℕ
    pub few : n < 2 ^ 64
    pub words : s.words ≡ (drawn % 2 ^ 64) ∷ (served % 2 ^ 64) ∷ horizon ∷ []
    pub safe : horizon ≤ durable_of durable log
    pub line : sum_by places_in_line s.views + served ≡ drawn
    pub parts : (h : ℕ → ℕ) → sum_by (weight h) s.views ≡ sum_over h 0 n
    pub each : (i : ℕ) (v : View E O) → get_elem? s.views i ≡ some v → Known n maker o log served drawn horizon place i v
    pub strangers : (w : ℕ) → n ≤ w → entries_by maker w log ≡ []
    pub slot : IsHome o log s.homes s.views ⊎ IsOut s.homes s.views

-- r, with this journal seen
abbrev pub having_seen : {E O : Type 0} → Record E O → List E → Record E O
having_seen r log = record { number = r.number; origin = r.origin; seen = log; own = r.own }

-- r after a turn that leaves this journal
abbrev pub after_turn : {E O : Type 0} → Record E O → List E → Record E O
after_turn r log = record { number = r.number; origin = r.origin; seen = log; own = r.own ++ drop (length r.seen) log }

abbrev pub Seated : Type 0 → Type 0 → Type 0 → Type 0
Seated T E O = Me (Option T) (View E O)

module _ {T E O : Type 0} where
  abbrev pub drew : Step (Option T) → Seated T E O → ℕ → Seated T E O → Type 0
  drew st m n m' = (k : ℕ) × (m' ≡ (record m.0 { stage = Waiting k }, m.1)) × (k % 2 ^ 64 ≡ n)

  -- the value x was taken: what it has beyond what was seen is of others
  pub record Taken (journal : T → List E) (origin : T → O) (maker durable : E → ℕ) (sound : T → Type 0) (k : ℕ) (m m' : Seated T E O) : Type 0 where
    pub value : T
    pub mine : Record E O
    pub rest : List E
    pub records : m.0.records ≡ mine ∷ []
    pub origin_is : mine.origin ≡ origin value
    pub is_sound : sound value
    pub grown : journal value ≡ mine.seen ++ rest
    pub by_others : entries_by maker mine.number rest ≡ []
    pub safe : m.0.known ≤ durable_of durable (journal value)
    pub view : m'.0 ≡ record { stage = Turn k; records = having_seen mine (journal value) ∷ []; known = m.0.known }
    pub slot : m'.1 ≡ (0, Some value) ∷ []

  abbrev pub looked : (T → List E) → (T → O) → (E → ℕ) → (E → ℕ) → (T → Type 0) → Step (Option T) → Seated T E O → ℕ → Seated T E O → Type 0
  looked journal origin maker durable sound st m n m' = (k : ℕ) → m.0.stage ≡ Waiting k → (n ≢ k % 2 ^ 64 → m' ≡ m) × (n ≡ k % 2 ^ 64 → Taken journal origin maker durable sound k m m')

  abbrev pub released : (T → List E) → Step (Option T) → Seated T E O → ℕ → Seated T E O → Type 0
  released journal st m n m' = (x : T) (r : Record E O) → m.1 ≡ (0, Some x) ∷ [] → m.0.records ≡ r ∷ [] → m' ≡ (record { stage = Idle; records = after_turn r (journal x) ∷ []; known = m.0.known }, [])

module _ {T E O : Type 0} where
  abbrev pub published : Step (Option T) → Seated T E O → ℕ → Seated T E O → Type 0
  published st m n m' = m' ≡ (record m.0 { known = max m.0.known st.first }, m.1)

  abbrev pub read : Step (Option T) → Seated T E O → ℕ → Seated T E O → Type 0
  read st m n m' = (m.0.known ≤ n) × (m' ≡ (record m.0 { known = n }, m.1))

module _ {E O : Type 0} where
  abbrev pub without_first : View E O → View E O
  without_first v = record { stage = v.stage; records = drop 1 v.records; known = v.known }

  abbrev pub first_alone : View E O → View E O
  first_alone v = record { stage = Idle; records = take 1 v.records; known = 0 }

  abbrev pub joined : View E O → View E O → View E O
  joined v w = record { stage = v.stage; records = v.records ++ w.records; known = v.known }

  abbrev pub spent : View E O
  spent = record { stage = Idle; records = []; known = 0 }
