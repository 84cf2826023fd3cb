-- The entries of what a try did: operations, and goings back.
use Rattle.std.specs.Prelude.{◌≡◌, ℕ, suc, Bool, true, nat_le, nat_lt, ◌&&◌, ◌==◌, List, [], ◌∷◌, ◌++◌, map, take, length, Option, Some, None}
use Rattle.std.specs.List.{AllByRecursion, filter, list_any}
use Rattle.clv_base.specs.declared.names.TxId.{TxId}
use Rattle.clv_base.specs.declared.names.Birth.{Birth}
use Rattle.clv_base.specs.declared.causes.AbortCause.{AbortCause}
use Rattle.clv_base.specs.declared.ops.Op.{Op}
use Rattle.clv_base.specs.declared.ops.Answer.{Answer}
use Rattle.clv_base.specs.declared.events.Event.TheVariants.{RollTo}
use Rattle.clv_base.specs.declared.events.Outcome.{Outcome}
use Rattle.clv_base.specs.declared.events.Outcome.TheVariants.{Rolled, Dead}
use Rattle.clv_base.specs.declared.events.Entry.{Entry}
use Rattle.clv_base.specs.Shards.{shard_of}
use Rattle.clv_base.specs.Maps.{Act, Operates, GoesBack, Acts}
use Rattle.clv_base.specs.Folding.{key_written}
use Rattle.clv_base.specs.FileRules.{numbers_rise}
use Rattle.clv_base.specs.Journals.{History}
use Rattle.clv_base.specs.History.{DoneAct}
use Rattle.script_lang.specs.declared.actions.Action.{Action}
use Rattle.script_lang.specs.Following.{all_acts, next_act}
use Rattle.session_books.specs.Done.{Done, Did, WentBack}
use Rattle.script_runs.specs.Operations.{IsOperation}

-- ---- what was done

abbrev pub act_of : Done → Act
act_of (Did op a) = Operates op
act_of (WentBack upto) = GoesBack upto

abbrev pub acts_of : List Done → List Act
acts_of ds = map act_of ds

abbrev pub answers_in : List Done → List Answer
answers_in [] = []
answers_in (Did op a ∷ ds) = a ∷ answers_in ds
answers_in (WentBack upto ∷ ds) = answers_in ds

-- it is what these lines asked for so far, under its own answers
abbrev pub KeepsTo : List Action → List Done → Type 0
KeepsTo lines ds = acts_of ds ≡ take (length ds) (all_acts lines (answers_in ds))

-- what they ask for next, if anything
abbrev pub next_of : List Action → List Done → Option Act
next_of lines ds = next_act lines (answers_in ds) (length ds)

-- acts with their numbers, without their answers; and the parts of an operation with its number
abbrev pub numbered : List DoneAct → Acts
numbered [] = []
numbered (p ∷ ps) = (p.0, p.1) ∷ numbered ps

abbrev pub numbered_parts : ℕ → List (ℕ × Op) → Acts
numbered_parts nth [] = []
numbered_parts nth (p ∷ ps) = (nth, Operates p.1) ∷ numbered_parts nth ps

-- ---- writes that stand

-- shard and number of each operation whose write stands, the last one first, after one more
abbrev pub written_with : List ℕ → ℕ → Option ℕ → List (ℕ × ℕ) → List (ℕ × ℕ)
written_with splits nth None ws = ws
written_with splits nth (Some key) ws = (shard_of splits key, nth) ∷ ws

abbrev pub written_after : List ℕ → ℕ → Done → List (ℕ × ℕ) → List (ℕ × ℕ)
written_after splits nth (Did op a) ws = written_with splits nth (key_written op a) ws
written_after splits nth (WentBack upto) ws = filter (λ w. nat_le w.1 upto) ws

abbrev pub written_from : List ℕ → ℕ → List (ℕ × ℕ) → List Done → List (ℕ × ℕ)
written_from splits nth ws [] = ws
written_from splits nth ws (d ∷ ds) = written_from splits (suc nth) (written_after splits nth d ws) ds

-- of a try that did this
abbrev pub written_by : List ℕ → List Done → List (ℕ × ℕ)
written_by splits ds = written_from splits 1 [] ds

-- whether one of a later act stands, anywhere or on a shard
abbrev pub stands_above : ℕ → List (ℕ × ℕ) → Bool
stands_above upto ws = list_any (λ w. nat_lt upto w.1) ws

abbrev pub stands_on : ℕ → ℕ → List (ℕ × ℕ) → Bool
stands_on upto n ws = list_any (λ w. (w.0 == n) && nat_lt upto w.1) ws

-- ---- a going back

-- some of these entries is on the shard
abbrev pub is_touched : History → ℕ → Bool
is_touched es n = list_any (λ e. e.0 == n) es

-- an entry is its part, with this outcome
pub record IsRoll (tx : TxId) (nth upto : ℕ) (o : Outcome) (e : ℕ × Entry) : Type 0 where
  pub seen : ℕ
  pub event : (e.1).event ≡ RollTo tx nth seen upto
  pub outcome : (e.1).outcome ≡ o

abbrev pub AreRolled : TxId → ℕ → ℕ → History → Type 0
AreRolled tx nth upto es = AllByRecursion (IsRoll tx nth upto Rolled) es × (numbers_rise (map (λ e. e.0) es) ≡ true)

-- the entries are the going back number nth: one on each shard where a write of a later act stands, in rising order
pub record IsGoingBack (tx : TxId) (nth upto : ℕ) (ws : List (ℕ × ℕ)) (es : History) : Type 0 where
  pub rolled : AreRolled tx nth upto es
  pub shards : (n : ℕ) → is_touched es n ≡ stands_on upto n ws

-- they are those on the shards below n, which is the next one
pub record IsBackBegun (tx : TxId) (nth upto : ℕ) (ws : List (ℕ × ℕ)) (n : ℕ) (es : History) : Type 0 where
  pub rolled : AreRolled tx nth upto es
  pub shards : (m : ℕ) → is_touched es m ≡ (nat_lt m n && stands_on upto m ws)
  pub next : stands_on upto n ws ≡ true

-- and behind them the one on shard n, of which the transaction died
pub record IsBackDeath (tx : TxId) (nth upto : ℕ) (ws : List (ℕ × ℕ)) (cause : AbortCause) (n : ℕ) (es : History) : Type 0 where
  pub before : History
  pub last : ℕ × Entry
  pub entries : es ≡ before ++ last ∷ []
  pub begun : IsBackBegun tx nth upto ws n before
  pub died : IsRoll tx nth upto (Dead cause) last
  pub shard : n ≡ last.0

-- ---- all of it

-- the entries are these acts, numbered from nth on, where these writes stand before
pub data AreActs (splits : List ℕ) (tx : TxId) (birth : Birth) : ℕ → List (ℕ × ℕ) → List Done → History → Type 0 where
  no_act : (nth : ℕ) (ws : List (ℕ × ℕ)) → AreActs splits tx birth nth ws [] []
  operation :
      (nth : ℕ) (ws : List (ℕ × ℕ)) (op : Op) (answer : Answer) (ds : List Done) (here behind es : History)
      → es ≡ here ++ behind → IsOperation splits tx birth nth op answer here → AreActs splits tx birth (suc nth) (written_after splits nth (Did op answer) ws) ds behind
      → AreActs splits tx birth nth ws (Did op answer ∷ ds) es
  going_back :
      (nth : ℕ) (ws : List (ℕ × ℕ)) (upto : ℕ) (ds : List Done) (here behind es : History)
      → es ≡ here ++ behind → stands_above upto ws ≡ true → IsGoingBack tx nth upto ws here → AreActs splits tx birth (suc nth) (written_after splits nth (WentBack upto) ws) ds behind
      → AreActs splits tx birth nth ws (WentBack upto ∷ ds) es
