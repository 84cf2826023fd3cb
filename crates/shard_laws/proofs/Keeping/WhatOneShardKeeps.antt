-- What one shard keeps.
use Rattle.std.proofs.Common.{◌≡◌, ◌≤◌, ◌<◌, ◌⊎◌, Bool, true, false, not, List, [], length, Option, Some, None, ℕ, ◌+◌, sym, ap, ◌∙◌, arith}
use Rattle.std.specs.Prelude.{take}
use Rattle.std.specs.List.{AllByRecursion, filter}
use Rattle.std.proofs.lemmas.List.{take_all}
use Rattle.clv_base.specs.declared.names.TxId.{TxId}
use Rattle.clv_base.specs.declared.names.Birth.{Birth}
use Rattle.clv_base.specs.declared.logs.LogRecord.{LogRecord}
use Rattle.clv_base.specs.declared.changes.Change.{Change}
use Rattle.clv_base.specs.declared.modes.Part.{Part}
use Rattle.clv_base.specs.declared.modes.Part.TheVariants.{S}
use Rattle.clv_base.specs.declared.modes.Anchor.TheVariants.{At}
use Rattle.clv_base.specs.declared.state.Stage.{Stage}
use Rattle.clv_base.specs.declared.state.Stage.TheVariants.{Active, Closed, Gone}
use Rattle.clv_base.specs.declared.state.Held.{Held}
use Rattle.clv_base.specs.Orders.{Table, tx_in, tx_get}
use Rattle.clv_base.specs.Maps.{KeyMap, map_get}
use Rattle.clv_base.specs.LogRules.{upto_of}
use Rattle.clv_base.specs.Logs.{StandingUpdate, base_of, is_setting, standing, committed_in, aborted_in, has_standing}
use Rattle.clv_base.specs.Locks.{Locks}
use Rattle.clv_base.specs.State.{Shard}
use Rattle.clv_base.specs.State.{is_present}
use Rattle.clv_base.specs.Needs.{Records, value_at}
use Rattle.law_base.proofs.Cells.{record_at}
use Rattle.clv_base.specs.Folding.{IsRising}
use Rattle.law_base.specs.Items.{Item, Deed, held, Acts, wrote, writes, meets, AllLater, Reaches, Clash, pile}
use Rattle.protocol_laws.specs.Order.{Tidy}
pub use Rattle.shard_laws.specs.OneShard.{place, doer, number_of, items_in, AskInOrder, NobodyBetween}
use Rattle.law_base.proofs.Running.{top_value}
use Rattle.law_base.proofs.Undoing.{Chain}
use Rattle.law_base.proofs.Anchors.{Rising}
use Rattle.law_base.proofs.LockRows.{least, holds, Rows}
use Rattle.shard_laws.proofs.Operations.NeedsCoverKeys.{met_part, wrote_part, holds_at}
use Rattle.shard_laws.proofs.Operations.WritesAtEachKey.{SameAtKeys}
use Rattle.law_base.proofs.Tables.{stage_in, is_pair}
use Rattle.law_base.proofs.Commits.{CommitBefore, commit_durable}
use Rattle.shard_laws.proofs.Keeping.DeedsThatHold.{AllMet, Rise}
use Rattle.shard_laws.proofs.Keeping.ChangesKeepPrepared.{Prepared}

-- the parts of a shard's state that count
pub record View : Type 0 where
  pub records : Records
  pub locks : Locks
  pub parts : Table Held
  pub pairs : List (TxId × TxId)
  pub log : List LogRecord
  pub durable : ℕ
  pub flight : Option ℕ

abbrev pub view_of : Shard → View
view_of s = record { records = s.local.records; locks = s.local.locks; parts = s.local.parts; pairs = s.local.pairs; log = s.local.log; durable = s.durable; flight = s.flight }

-- what was there at opening, what was done by those that are not lost, and who made a request, in that order
pub record Past : Type 0 where
  -- what the log begins with
  pub floor : KeyMap
  pub start : KeyMap
  pub base : List StandingUpdate
  pub done : List Deed
  pub asked : List TxId
  -- who may have been told of success: with a durable COMMIT, or finished after reading alone
  pub over : List TxId
  -- transactions with those whose writes they violated
  pub met : List (TxId × TxId)
  -- who fell before this step; and who is lost: who fell, or depends on one that is lost
  pub fell : List TxId
  pub lost : List TxId

-- a lock is that of a part which is there, with its birth, and closed as it is
abbrev pub StageFits : Bool → Stage → Type 0
StageFits false Active = Unit {0}
StageFits true Closed = Unit {0}
StageFits true Active = ⊥
StageFits false Closed = ⊥
StageFits c (Gone d) = ⊥

abbrev pub Belongs : Table Held → TxId → Birth → Bool → Type 0
Belongs parts tx birth closed = (h : Held) × (tx_get tx parts ≡ Some h) × (h.birth ≡ birth) × StageFits closed h.stage

-- whether what was written was added
abbrev pub adds_in : Option (ℕ × Change) → Bool
adds_in None = false
adds_in (Some w) = not (is_setting w.1)

abbrev pub is_adding : Item → Bool
is_adding y = adds_in (wrote y)

-- a part is held at a key; that of one who adds is held of a record
abbrev pub HoldsPart : Records → Locks → TxId → Part → ℕ → Type 0
HoldsPart records locks tx p k = (holds_at p locks records tx k ≡ true) × (least S p ≡ false → record_at k records ≡ None → ⊥)

-- an active part holds what its operations met, and more where they wrote
abbrev pub Covers : Records → Locks → Item → Type 0
Covers records locks y =
    ((k : ℕ) → meets y k ≡ true → HoldsPart records locks y.tx (met_part (is_adding y)) k)
    × ((k : ℕ) → writes y k ≡ true → HoldsPart records locks y.tx (wrote_part (is_adding y)) k)

-- the part of its key that a write needs
abbrev pub part_for : Change → Part
part_for c = wrote_part (not (is_setting c))

-- who wrote and whose COMMIT is not durable holds the key, and a record stands there
abbrev pub WroteIn : Records → Locks → List LogRecord → ℕ → StandingUpdate → Type 0
WroteIn records locks log durable w = commit_durable log durable w.tx ≡ false → (holds true (part_for w.change) (At w.key) w.tx locks ≡ true) × (record_at w.key records ≡ None → ⊥)

abbrev pub Wrote : View → StandingUpdate → Type 0
Wrote v = WroteIn v.records v.locks v.log v.durable

-- what a transaction has met: its own writes, those of a predecessor, or of one that was committed before
abbrev pub DepIn : List (TxId × TxId) → List LogRecord → ℕ → TxId → TxId → Type 0
DepIn pairs log durable t p = (commit_durable log durable p ≡ true) ⊎ ((is_pair pairs t p ≡ true) ⊎ CommitBefore log p t)

abbrev pub Dep : View → TxId → TxId → Type 0
Dep v = DepIn v.pairs v.log v.durable

abbrev pub KnownIn : List TxId → Table Held → TxId → Type 0
KnownIn asked parts t = (stage_in parts t ≡ Some Active) ⊎ ((tx_in t asked ≡ true) × (stage_in parts t ≡ Some Active → ⊥))

abbrev pub Known : Past → View → TxId → Type 0
Known g v = KnownIn g.asked v.parts

-- it is committed for good, or has left and no write of it stands
abbrev pub EndedIn : List TxId → Table Held → List LogRecord → ℕ → TxId → Type 0
EndedIn asked parts log durable t = (commit_durable log durable t ≡ true) ⊎ ((committed_in log t ≡ false) × (has_standing log t ≡ false) × (is_present (stage_in parts t) ≡ false) × (tx_in t asked ≡ true))

abbrev pub Ended : Past → View → TxId → Type 0
Ended g v = EndedIn g.asked v.parts v.log v.durable

-- it is neither committed nor finished, and never will be
abbrev pub OutIn : List TxId → Table Held → TxId → Type 0
OutIn lost parts t = (tx_in t lost ≡ true) × (stage_in parts t ≡ Some Active → ⊥)

abbrev pub Out : Past → View → TxId → Type 0
Out g v = OutIn g.lost v.parts

-- who did something is here, or has ended
abbrev pub LeftIn : List TxId → Table Held → List LogRecord → ℕ → TxId → Type 0
LeftIn over parts log durable t = (is_present (stage_in parts t) ≡ true) ⊎ ((tx_in t over ≡ true) ⊎ (commit_durable log durable t ≡ true))

abbrev pub Left : Past → View → TxId → Type 0
Left g v = LeftIn g.over v.parts v.log v.durable

-- the writes of those that pass
abbrev pub of_kept : (TxId → Bool) → StandingUpdate → Bool
of_kept keep w = keep w.tx

abbrev pub is_alive : List TxId → TxId → Bool
is_alive lost t = not (tx_in t lost)

-- what was there at opening: the map, and the writes that it came from
pub record KeptStart (floor start : KeyMap) (base : List StandingUpdate) : Type 0 where
  pub start_rises : IsRising start
  pub base_value : (k : ℕ) → map_get k start ≡ top_value floor k base
  pub base_chain : Chain floor base

-- what was done since gives its answers, none of it by one that is lost; where two clash the earlier asked first; and nobody clashed with what a
-- going back took away
pub record KeptPast (start : KeyMap) (done : List Deed) (asked lost : List TxId) : Type 0 where
  pub acts : Acts start done
  pub alive : AllByRecursion (λ d. tx_in (doer d) lost ≡ false) done
  pub order : AskInOrder asked done
  pub between : NobodyBetween [] done
  pub rising : AllLater Rise done

-- the log has the writes of what holds, and nothing in it is written or undone after a COMMIT
pub record KeptLog (base : List StandingUpdate) (done : List Deed) (lost : List TxId) (log : List LogRecord) : Type 0 where
  pub standing_is : SameAtKeys (filter (of_kept (is_alive lost)) (standing log)) (pile (held done) base)
  pub tidy : Tidy [] log

-- the records have the newest values that stand in the log
pub record KeptRecords (floor : KeyMap) (records : Records) (log : List LogRecord) : Type 0 where
  pub rises : Rising records
  pub values : (k : ℕ) → value_at k records ≡ top_value floor k (standing log)

-- each lock is of a part that is here; who is active holds what all its operations need, also those it went back over, and who wrote what that needs
pub record KeptLocks (done : List Deed) (records : Records) (locks : Locks) (parts : Table Held) (log : List LogRecord) (durable : ℕ) : Type 0 where
  pub rows : Rows (Belongs parts) locks
  pub covered : AllByRecursion (λ y. stage_in parts y.tx ≡ Some Active → Covers records locks y) (items_in done)
  pub wrote : AllByRecursion (WroteIn records locks log durable) (standing log)

-- who is active meets nobody else behind it
abbrev pub IsAlone : Table Held → Item → Item → Type 0
IsAlone parts x y = Clash x y → (x.tx ≡ y.tx) ⊎ (stage_in parts x.tx ≡ Some Active → ⊥)

-- who did something is active or asked, who is closed asked, and pairs are of parts that are here
pub record KeptParts (done : List Deed) (asked : List TxId) (parts : Table Held) (pairs : List (TxId × TxId)) : Type 0 where
  pub known : AllByRecursion (λ d. KnownIn asked parts (doer d)) done
  pub alone : AllLater (IsAlone parts) (items_in done)
  pub closed : (t : TxId) → stage_in parts t ≡ Some Closed → tx_in t asked ≡ true
  pub successors : (t p : TxId) → is_pair pairs t p ≡ true → is_present (stage_in parts t) ≡ true

-- who is active, aborted or gone by an abort has no COMMIT; and what is kept of those that have a PREPARE
pub record KeptFates (done : List Deed) (met : List (TxId × TxId)) (parts : Table Held) (log : List LogRecord) : Type 0 where
  pub uncommitted : (t : TxId) → stage_in parts t ≡ Some Active → committed_in log t ≡ false
  pub dead : (t : TxId) → aborted_in log t ≡ true → (committed_in log t ≡ false) × (stage_in parts t ≡ Some Active → ⊥) × (stage_in parts t ≡ Some Closed → ⊥)
  pub doomed : (t d : TxId) → stage_in parts t ≡ Some (Gone (Some d)) → committed_in log t ≡ false
  pub prepared : Prepared done met parts log

-- who did something is here or has ended, who may have been told has ended, and what one met has ended before it or it never will
pub record KeptEnds (done : List Deed) (asked told : List TxId) (met : List (TxId × TxId)) (lost : List TxId) (parts : Table Held) (pairs : List (TxId × TxId)) (log : List LogRecord) (durable : ℕ) : Type 0 where
  pub left : AllByRecursion (λ d. LeftIn told parts log durable (doer d)) done
  pub over : (t : TxId) → tx_in t told ≡ true → EndedIn asked parts log durable t
  pub recover : (t p : TxId) → is_pair met t p ≡ true → OutIn lost parts t ⊎ (DepIn pairs log durable t p × (place asked p < place asked t))

-- each depends on those whose writes it reached that held then
abbrev pub Cause : List (TxId × TxId) → List LogRecord → ℕ → Item → Item → Type 0
Cause pairs log durable x y = Reaches x y → (x.tx ≡ y.tx) ⊎ DepIn pairs log durable y.tx x.tx

-- predecessors commit first, and so do those on which one depends
pub record KeptPairs (done : List Deed) (pairs : List (TxId × TxId)) (log : List LogRecord) (durable : ℕ) : Type 0 where
  pub downwards : (t p : TxId) → is_pair pairs t p ≡ true → committed_in log t ≡ true → CommitBefore log p t
  pub causes : AllMet (Cause pairs log durable) done

-- what was there at opening is durable, and what is in flight lies beyond the front; the log from the front on begins with its map
pub record KeptFront (floor : KeyMap) (base : List StandingUpdate) (log : List LogRecord) (durable : ℕ) (flight : Option ℕ) : Type 0 where
  pub base_done : AllByRecursion (λ w. commit_durable log durable w.tx ≡ true) base
  pub front : (n : ℕ) → flight ≡ Some n → durable ≤ n
  pub floor_done : (n : ℕ) → durable ≤ n → base_of (take n log) ≡ floor
  pub part_done : upto_of log ≤ durable

-- each group reads only what its type names, so a step that leaves this alone hands the group on
pub record Kept (g : Past) (v : View) : Type 0 where
  pub start : KeptStart g.floor g.start g.base
  pub open start use *
  pub past : KeptPast g.start g.done g.asked g.lost
  pub open past use *
  pub log : KeptLog g.base g.done g.lost v.log
  pub open log use *
  pub records : KeptRecords g.floor v.records v.log
  pub open records use *
  pub locks : KeptLocks g.done v.records v.locks v.parts v.log v.durable
  pub open locks use *
  pub parts : KeptParts g.done g.asked v.parts v.pairs
  pub open parts use *
  pub fates : KeptFates g.done g.met v.parts v.log
  pub open fates use *
  pub ends : KeptEnds g.done g.asked g.over g.met g.lost v.parts v.pairs v.log v.durable
  pub open ends use *
  pub pairs : KeptPairs g.done v.pairs v.log v.durable
  pub open pairs use *
  pub durable : KeptFront g.floor g.base v.log v.durable v.flight
  pub open durable use *

-- so does the whole log
pub begins : (g : Past) (v : View) → Kept g v → base_of v.log ≡ g.floor
begins g v k = ap base_of (sym (take_all (v.durable + length v.log) v.log (omega arith))) ∙ k.floor_done (v.durable + length v.log) (omega arith)
