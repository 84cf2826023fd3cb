-- The end of a try.
use Rattle.std.proofs.Common.{◌≡◌, refl, sym, ap, subst, ◌∙◌, ◌⊎◌, inl, inr, ℕ, Bool, true, List, [], ◌∷◌, ◌++◌, length, append-nil, Option, None, Result, Ok, Err, arith}
use Rattle.clv_base.specs.declared.names.TxId.{TxId}
use Rattle.clv_base.specs.declared.names.Birth.{Birth}
use Rattle.clv_base.specs.Journals.{History}
use Rattle.script_lang.specs.declared.actions.Ending.{Ending}
use Rattle.script_lang.specs.Bodies.{Body}
use Rattle.session_books.specs.Done.{Done}
use Rattle.script_runs.specs.declared.ends.StopCause.{StopCause}
use Rattle.script_runs.specs.declared.ends.StopCause.TheVariants.{Down, Unsettled, Worn, Memory}
use Rattle.script_runs.specs.declared.ends.TryEnd.{TryEnd}
use Rattle.script_runs.specs.declared.ends.TryEnd.TheVariants.{Acknowledged, Empty, Asked, Aborted, Stopped}
use Rattle.script_runs.specs.Acts.{next_of}
use Rattle.script_runs.specs.Tries.{Try, IsDone, EndsBy, AreDrops, is_touched}
use Rattle.script_runs.specs.Dropped.{HasDropped, LetsGo}
use Rattle.script_runs.specs.Seen.{Active, Seen, Misses, Grows, IsWornOut}
use Rattle.script_runs.specs.Told.{AreDropsOf, DropsEach, CommitTold, AbortTold, GivenUp, IsActiveWhereDown}
use Rattle.script_runs.specs.Lines.{HasDone}
use Rattle.script_runs.specs.Tried.{LeftBy, Tried}
use Rattle.script_runs.proofs.Doing.{grows_on}

-- ---- a shard that was down

-- the drops, one on each touched shard unless stamps were wanting
abbrev LetGo : Misses → TxId → (ℕ → Bool) → Seen → Seen → Type 0
LetGo missed tx touched u v = (drops : History) × AreDropsOf tx touched None drops × Grows drops u v × (DropsEach touched drops (λ n. missed tx n u.entries) ⊎ IsWornOut v)

gives_up : (missed : Misses) (tx : TxId) (birth : Birth) (touched : ℕ → Bool) (answer : Result (Unit {0}) StopCause) (u v : Seen) → AbortTold missed tx birth touched answer u v → LetGo missed tx touched u v
gives_up missed tx birth touched (Ok a) u v (drops, are, grows, is, each) = (drops, are, grows, inl each)
gives_up missed tx birth touched (Err (Worn at)) u v (drops, are, grows, worn) = (drops, are, grows, inr worn)
gives_up missed tx birth touched (Err Memory) u v t = absurd t
gives_up missed tx birth touched (Err (Down n)) u v t = absurd t
gives_up missed tx birth touched (Err (Unsettled n)) u v t = absurd t

pub given_up : (missed : Misses) (cause : StopCause) (n : ℕ) (answer : Result (Unit {0}) StopCause) (u v : Seen) → cause ≡ Down n
    → ((tx : TxId) (birth : Birth) (nth : ℕ) (touched : ℕ → Bool) → u.standing ≡ Active tx birth nth touched → AbortTold missed tx birth touched answer u v) → GivenUp missed (Stopped cause) u v
given_up missed cause n answer u v is t =
    subst (λ x. GivenUp missed (Stopped x) u v) (sym is) (λ tx birth nth touched active. gives_up missed tx birth touched answer u v (t tx birth nth touched active))

pub active_where_down : (tx : TxId) (birth : Birth) (nth : ℕ) (touched : ℕ → Bool) (end : TryEnd) (u v : Seen) → CommitTold tx birth nth touched end u v → IsActiveWhereDown end v
active_where_down tx birth nth touched (Stopped (Down n)) u v t = (tx, birth, t.1.0, touched, t.1.1)
active_where_down tx birth nth touched (Stopped (Unsettled n)) u v t = tt
active_where_down tx birth nth touched (Stopped (Worn at)) u v t = tt
active_where_down tx birth nth touched (Stopped Memory) u v t = tt
active_where_down tx birth nth touched Acknowledged u v t = tt
active_where_down tx birth nth touched Empty u v t = tt
active_where_down tx birth nth touched Asked u v t = tt
active_where_down tx birth nth touched (Aborted cause) u v t = tt

-- ---- the tries that they make

pub drops_as : (tx : TxId) (touched : ℕ → Bool) (es : History) (left_out : Option ℕ) (drops : History) → ((n : ℕ) → touched n ≡ true → is_touched es n ≡ true) → AreDropsOf tx touched left_out drops → AreDrops tx es left_out drops
drops_as tx touched es left_out [] only d = tt
drops_as tx touched es left_out (e ∷ drops) only d =
    (record { event = (d.0).event; outcome = (d.0).outcome; touched = only e.0 (d.0).on_touched; other = (d.0).other }, drops_as tx touched es left_out drops only d.1)

-- each shard that its other entries touched was touched by it
pub let_go : (missed : Misses) (touched : ℕ → Bool) (t : Try) (earlier before drops now : History) → t.entries ≡ before ++ drops → AreDrops t.tx before None drops → ((n : ℕ) → is_touched before n ≡ true → touched n ≡ true)
    → now ≡ earlier ++ before → DropsEach touched drops (λ n. missed t.tx n now) → HasDropped missed t
let_go missed touched t earlier before drops now entries only all is each = record { before = before; drops = drops; entries_are = entries; only = only; each = λ n h. at n (each n (all n h)) }
  where
    at : (n : ℕ) → (is_touched drops n ≡ true) ⊎ missed t.tx n now → (is_touched drops n ≡ true) ⊎ ((earlier : History) × missed t.tx n (earlier ++ before))
    at n (inl k) = inl k
    at n (inr k) = inr (earlier, subst (missed t.tx n) is k)

-- unless stamps were wanting
pub let_go_or : (missed : Misses) (touched : ℕ → Bool) (t : Try) (earlier before drops now : History) (v : Seen) → t.entries ≡ before ++ drops → AreDrops t.tx before None drops
    → ((n : ℕ) → is_touched before n ≡ true → touched n ≡ true) → now ≡ earlier ++ before → DropsEach touched drops (λ n. missed t.tx n now) ⊎ IsWornOut v → HasDropped missed t ⊎ IsWornOut v
let_go_or missed touched t earlier before drops now v entries only all is (inl each) = inl (let_go missed touched t earlier before drops now entries only all is each)
let_go_or missed touched t earlier before drops now v entries only all is (inr worn) = inr worn

-- with what stands behind its acts the transaction's entries are a try
abbrev pub try_with : (body : Body) (tx : TxId) (birth : Birth) (end : TryEnd) (u w : Seen) (d : HasDone tx birth body.actions u w) (behind : History) → Try
try_with body tx birth end u w d behind = record { tx = tx; acts = d.acts; end = end; entries = d.entries ++ behind }

abbrev pub tried : (missed : Misses) (body : Body) (tx : TxId) (birth : Birth) (end : TryEnd) (u w v : Seen) (d : HasDone tx birth body.actions u w) (behind : History) → EndsBy u.splits body tx birth d.acts d.entries end behind → Grows behind w v
    → LeftBy birth end v.standing → LetsGo missed v.clock (try_with body tx birth end u w d behind) end → Tried missed body tx birth end u v
tried missed body tx birth end u w v d behind ends grows left drops =
    record {
      acts = d.acts;
      entries = d.entries ++ behind;
      is_try = record { before = d.entries; behind = behind; entries_are = refl; follows = d.follows; acts_are = d.acts_are; ends = ends };
      grows = grows_on d.entries behind u w v d.grows grows;
      left = left;
      dropped = drops;
    }

pub none_done : (acts : List Done) → length acts ≡ 0 → acts ≡ []
none_done [] h = refl
none_done (d ∷ acts) h = absurd (let no : ⊥ = omega arith in no)

pub more_touched : (touched : ℕ → Bool) (es : History) → ((n : ℕ) → touched n ≡ true → is_touched es n ≡ true) → (n : ℕ) → touched n ≡ true → is_touched (es ++ []) n ≡ true
more_touched touched es only n h = ap (λ l. is_touched l n) (append-nil es) ∙ only n h

pub done_as : (body : Body) (ending : Ending) (acts : List Done) → next_of body.actions acts ≡ None → body.ending ≡ ending → IsDone body ending acts
done_as body ending acts all is = record { all = all; ending_is = is }
