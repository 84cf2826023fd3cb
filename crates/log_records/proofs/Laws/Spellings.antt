-- Spellings: how long they are, and that none begins another.
use Rattle.std.proofs.Common.{◌≡◌, ℕ, ◌+◌, ◌*◌, ◌-◌, ◌≤◌, List, [], ◌∷◌, ◌++◌, length, drop, Option, Some, None, refl, sym, ap, ◌∙◌, arith}
use Rattle.std.specs.List.{flat_map}
use Rattle.std.proofs.lemmas.List.{length-append, drop_at}
use Rattle.std.proofs.lemmas.List.Concat.{flat_map-cons}
use Rattle.byteorder.specs.Numbers.{length-bytes_low_first}
use Rattle.clv_base.specs.declared.names.TxId.{TxId}
use Rattle.clv_base.specs.declared.values.Value.{Value}
use Rattle.clv_base.specs.declared.values.Value.TheVariants.{Num, Bytes}
use Rattle.clv_base.specs.declared.logs.LogRecord.{LogRecord}
use Rattle.clv_base.specs.declared.logs.LogRecord.TheVariants.{Update, Clr, Prepare, Commit, Abort, End, Restart, Add, Unadd, Forgotten, Check}
use Rattle.clv_base.specs.Logs.{optional_size, record_size}
use Rattle.log_records.specs.declared.error.DecodeError.{DecodeError}
use Rattle.log_records.specs.declared.error.DecodeError.TheVariants as errors
use Rattle.log_records.specs.Reading.{Fails, record_at}
use Rattle.log_records.specs.Spelling.{number, transaction, optional, undo_next, several, fields, spelling, BeginsWith}
use Rattle.log_records.proofs.Laws.Fields.{some_is}
use Rattle.log_records.proofs.Records.{record_takes, record_again}
use Rattle.law_base.proofs.Lists.{IsBytes}

pub length-number : (width n : ℕ) → length (number width n) ≡ width
unfolding number
length-number width n = length-bytes_low_first 0 width n

pub length-transaction : (tx : TxId) → length (transaction tx) ≡ 16
unfolding transaction
length-transaction tx =
    omega (arith, length-append (number 4 tx.run) (number 4 tx.session ++ number 8 tx.serial), length-append (number 4 tx.session) (number 8 tx.serial), length-number 4 tx.run, length-number 4 tx.session, length-number 8 tx.serial)

pub length-optional : (o : Option Value) → length (optional o) ≡ optional_size o
unfolding optional
length-optional None = refl
length-optional (Some (Num n)) = omega (arith, length-number 8 n)
length-optional (Some (Bytes bytes)) = omega arith

pub length-undo_next : (o : Option ℕ) → length (undo_next o) ≡ 8
unfolding undo_next
length-undo_next None = length-number 8 _
length-undo_next (Some n) = length-number 8 n

length-each : {X : Type 0} (one : X → List ℕ) (size : ℕ) → ((x : X) → length (one x) ≡ size) → (xs : List X) → length (flat_map one xs) ≡ size * length xs
length-each one size each [] = omega arith
length-each one size each (x ∷ xs) =
    ap length (flat_map-cons one x xs) ∙ omega (arith, length-append (one x) (flat_map one xs), each x, length-each one size each xs)

pub length-several : {X : Type 0} (one : X → List ℕ) (size : ℕ) → ((x : X) → length (one x) ≡ size) → (xs : List X) → length (several one xs) ≡ 4 + size * length xs
unfolding several
length-several one size each xs = omega (arith, length-append (number 4 (length xs)) (flat_map one xs), length-number 4 (length xs), length-each one size each xs)

pub length-spelling : (r : LogRecord) → length (spelling r) ≡ record_size r
unfolding fields
length-spelling (Update tx key before after) =
    omega (arith, length-append (transaction tx) (number 8 key ++ (optional before ++ optional after)), length-append (number 8 key) (optional before ++ optional after), length-append (optional before) (optional after), length-transaction tx, length-number 8 key, length-optional before, length-optional after)
length-spelling (Clr tx next key after) =
    omega (arith, length-append (transaction tx) (undo_next next ++ (number 8 key ++ optional after)), length-append (undo_next next) (number 8 key ++ optional after), length-append (number 8 key) (optional after), length-transaction tx, length-number 8 key, length-undo_next next, length-optional after)
length-spelling (Prepare tx home predecessors) =
    omega (arith, length-append (transaction tx) (number 4 home ++ several transaction predecessors), length-append (number 4 home) (several transaction predecessors), length-transaction tx, length-number 4 home, length-several transaction 16 length-transaction predecessors)
length-spelling (Commit tx parts) =
    omega (arith, length-append (transaction tx) (several (number 4) parts), length-transaction tx, length-several (number 4) 4 (length-number 4) parts)
length-spelling (Abort tx) = omega (arith, length-transaction tx)
length-spelling (End tx) = omega (arith, length-transaction tx)
length-spelling (Add tx key by) =
    omega (arith, length-append (transaction tx) (number 8 key ++ number 8 by), length-append (number 8 key) (number 8 by), length-transaction tx, length-number 8 key, length-number 8 by)
length-spelling (Unadd tx next key by) =
    omega (arith, length-append (transaction tx) (undo_next next ++ (number 8 key ++ number 8 by)), length-append (undo_next next) (number 8 key ++ number 8 by), length-append (number 8 key) (number 8 by), length-transaction tx, length-number 8 key, length-undo_next next, length-number 8 by)
length-spelling (Restart run epoch) = omega (arith, length-append (number 4 run) (number 8 epoch), length-number 4 run, length-number 8 epoch)
length-spelling Forgotten = refl
length-spelling (Check run' epoch' upto base) = refl

-- what begins with a spelling is read so
pub begins_read : (r : LogRecord) (behind bytes : List ℕ) → BeginsWith r behind bytes → record_at bytes ≡ Some (r, behind)
begins_read r behind bytes b = ap record_at b.is ∙ record_again r behind b.in_bounds

pub one_beginning : (r s : LogRecord) (behind after bytes : List ℕ) → BeginsWith r behind bytes → BeginsWith s after bytes → (r ≡ s) × (behind ≡ after)
one_beginning r s behind after bytes b c =
    let same = sym (begins_read r behind bytes b) ∙ begins_read s after bytes c in
    let pair = some_is (r, behind) (s, after) same in
    (ap (λ (x : LogRecord × List ℕ). x.0) pair, ap (λ (x : LogRecord × List ℕ). x.1) pair)

-- what is read stands at the front
pub read_begins : (bytes : List ℕ) (r : LogRecord) (rest : List ℕ) → IsBytes bytes → record_at bytes ≡ Some (r, rest) → BeginsWith r rest bytes
read_begins bytes r rest fits e = let t = record_takes bytes (r, rest) fits e in record { in_bounds = t.0; is = t.1.parts }

-- what stands behind a spelling, by its length
pub record Behind (r : LogRecord) (rest bytes : List ℕ) : Type 0 where
  pub shorter : length rest ≤ length bytes
  pub size : length bytes - length rest ≡ record_size r
  pub is : drop (length bytes - length rest) bytes ≡ rest

pub is_behind : (r : LogRecord) (rest bytes : List ℕ) → BeginsWith r rest bytes → Behind r rest bytes
is_behind r rest bytes b =
    let whole : length bytes ≡ length (spelling r) + length rest = ap length b.is ∙ length-append (spelling r) rest in
    let size : length bytes - length rest ≡ record_size r = omega (arith, whole, length-spelling r) in
    let front : length (spelling r) ≡ length bytes - length rest = omega (arith, whole) in
    record { shorter = omega (arith, whole); size = size; is = ap (drop (length bytes - length rest)) b.is ∙ drop_at (spelling r) rest (length bytes - length rest) front }

-- where reading failed, nothing is spelled at the front, unless memory ran out
pub only_memory : (e : DecodeError) (bytes : List ℕ) (r : LogRecord) (behind : List ℕ) → Fails e (record_at bytes) → BeginsWith r behind bytes → e ≡ errors.Memory
only_memory errors.Memory bytes r behind failed b = refl
only_memory errors.Bad bytes r behind failed b = let read = begins_read r behind bytes b in absurd cc

pub none_spelled : (e : DecodeError) (bytes : List ℕ) (r : LogRecord) (behind : List ℕ) → e ≡ errors.Bad → Fails e (record_at bytes) → BeginsWith r behind bytes → ⊥
none_spelled errors.Memory bytes r behind is failed b = absurd cc
none_spelled errors.Bad bytes r behind is failed b = let read = begins_read r behind bytes b in cc
