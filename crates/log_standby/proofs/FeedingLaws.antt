-- What comes of pieces, one behind the other.
use Rattle.std.proofs.Common.{◌≡◌, ℕ, zero, suc, ◌<◌, List, [], ◌∷◌, ◌++◌, length, set, refl, sym, ap, subst, ◌∙◌, append_assoc, arith}
use Rattle.std.proofs.lemmas.Grind.{flat_map-append}
use Rattle.clv_base.specs.declared.logs.LogRecord.{LogRecord}
use Rattle.clv_base.specs.LogRules.{log_of, disorder}
use Rattle.log_records.specs.Spelling.{spelling}
use Rattle.record_stream.specs.Streams.{spellings, Came}
use Rattle.record_stream.proofs.Laws.Coming.{came_once, came_on}
use Rattle.log_standby.specs.Feeding.{Fed, Feeds, tail_of, bytes_of}

set_twice : {X : Type 0} (xs : List X) (n : ℕ) (x y : X) → set (set xs n x) n y ≡ set xs n y
set_twice [] n x y = refl
set_twice (z ∷ xs) zero x y = refl
set_twice (z ∷ xs) (suc n) x y = ap (λ l. z ∷ l) (set_twice xs n x y)

log_of_set : (logs : List (List LogRecord)) (n : ℕ) (log : List LogRecord) → n < length logs → log_of (set logs n log) n ≡ log
log_of_set [] n log lt = absurd (omega (arith, lt))
log_of_set (l ∷ ls) zero log lt = refl
log_of_set (l ∷ ls) (suc n) log lt = log_of_set ls n log (omega (arith, lt))

tail_of_set : (tails : List (List ℕ)) (n : ℕ) (tail : List ℕ) → n < length tails → tail_of (set tails n tail) n ≡ tail
tail_of_set [] n tail lt = absurd (omega (arith, lt))
tail_of_set (t ∷ ts) zero tail lt = refl
tail_of_set (t ∷ ts) (suc n) tail lt = tail_of_set ts n tail (omega (arith, lt))

pub cuts : (old between new : Fed) (shard : ℕ) (some others : List ℕ) → shard < length old.logs → length old.logs ≡ length old.tails → Feeds old between shard some → Feeds between new shard others
    → Feeds old new shard (some ++ others)
cuts old between new shard some others lt same a b =
    let log : log_of between.logs shard ≡ log_of old.logs shard ++ a.more = ap (λ (l : List (List LogRecord)). log_of l shard) a.logs ∙ log_of_set old.logs shard (log_of old.logs shard ++ a.more) lt in
    let tail : tail_of between.tails shard ≡ a.tail = ap (λ (l : List (List ℕ)). tail_of l shard) a.tails ∙ tail_of_set old.tails shard a.tail (omega (arith, lt, same)) in
    let whole : log_of between.logs shard ++ b.more ≡ log_of old.logs shard ++ (a.more ++ b.more) = ap (λ (l : List LogRecord). l ++ b.more) log ∙ append_assoc (log_of old.logs shard) a.more b.more in
    let came : Came b.more b.tail (a.tail ++ others) = subst (λ (l : List ℕ). Came b.more b.tail (l ++ others)) tail b.came in
    let both : Came (a.more ++ b.more) b.tail ((tail_of old.tails shard ++ some) ++ others) = came_on a.more b.more a.tail b.tail (tail_of old.tails shard ++ some) others a.came came in
    record {
      more = a.more ++ b.more;
      tail = b.tail;
      came = subst (Came (a.more ++ b.more) b.tail) (append_assoc (tail_of old.tails shard) some others) both;
      in_order = ap (disorder shard) (sym whole) ∙ b.in_order;
      logs = b.logs ∙ ap (λ (l : List LogRecord). set between.logs shard l) whole ∙ ap (λ (l : List (List LogRecord)). set l shard (log_of old.logs shard ++ (a.more ++ b.more))) a.logs
          ∙ set_twice old.logs shard (log_of old.logs shard ++ a.more) (log_of old.logs shard ++ (a.more ++ b.more));
      tails = b.tails ∙ ap (λ (l : List (List ℕ)). set l shard b.tail) a.tails ∙ set_twice old.tails shard a.tail b.tail;
    }

pub one_way : (old some others : Fed) (shard : ℕ) (piece : List ℕ) → Feeds old some shard piece → Feeds old others shard piece → some ≡ others
one_way old some others shard piece a b =
    let same = came_once a.more b.more a.tail b.tail (tail_of old.tails shard ++ piece) a.came b.came in
    let logs : some.logs ≡ others.logs = a.logs ∙ ap (λ (l : List LogRecord). set old.logs shard (log_of old.logs shard ++ l)) same.0 ∙ sym b.logs in
    let tails : some.tails ≡ others.tails = a.tails ∙ ap (λ (l : List ℕ). set old.tails shard l) same.1 ∙ sym b.tails in
    made logs tails
  where
    made : some.logs ≡ others.logs → some.tails ≡ others.tails → some ≡ others
    made e f = ap (λ (l : List (List LogRecord)). record { logs = l; tails = some.tails }) e ∙ ap (λ (t : List (List ℕ)). record { logs = others.logs; tails = t }) f

pub are_fed : (old new : Fed) (shard : ℕ) (piece : List ℕ) → shard < length old.logs → length old.logs ≡ length old.tails → Feeds old new shard piece → bytes_of new shard ≡ bytes_of old shard ++ piece
are_fed old new shard piece lt same a =
    let had = log_of old.logs shard in
    let wait = tail_of old.tails shard in
    let log : log_of new.logs shard ≡ had ++ a.more = ap (λ (l : List (List LogRecord)). log_of l shard) a.logs ∙ log_of_set old.logs shard (had ++ a.more) lt in
    let tail : tail_of new.tails shard ≡ a.tail = ap (λ (l : List (List ℕ)). tail_of l shard) a.tails ∙ tail_of_set old.tails shard a.tail (omega (arith, lt, same)) in
    ap (λ (l : List LogRecord). spellings l ++ tail_of new.tails shard) log ∙ ap (λ (t : List ℕ). spellings (had ++ a.more) ++ t) tail
    ∙ ap (λ (l : List ℕ). l ++ a.tail) (flat_map-append spelling had a.more) ∙ append_assoc (spellings had) (spellings a.more) a.tail
    ∙ ap (λ (l : List ℕ). spellings had ++ l) (sym a.came.is) ∙ sym (append_assoc (spellings had) wait piece)
