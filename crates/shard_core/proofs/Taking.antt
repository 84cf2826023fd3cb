-- What a roll-back, a drop and a death leave of the tables and of the log.
use Rattle.std.proofs.Common.{◌≡◌, refl, sym, ap, subst, ◌∙◌, ⊎_elim, Bool, true, false, ◌||◌, List, ◌++◌, length, Option, Some, None, is_some, arith}
use Rattle.std.proofs.lemmas.Bool.{both_ways, or_cases}
use Rattle.std.specs.Map.{keys_of}
use Rattle.clv_base.specs.declared.names.TxId.{TxId}
use Rattle.clv_base.specs.declared.state.Held.{Held}
use Rattle.clv_base.specs.declared.state.Stage.{Stage}
use Rattle.clv_base.specs.Orders.{Table, tx_in, tx_get}
use Rattle.clv_base.specs.Logs.{prepare_lsn}
use Rattle.clv_base.specs.State.{Shard, Local, is_present}
use Rattle.clv_base.specs.Undo.{stage_of, doomed_by, doomed_here, roll_back}
use Rattle.clv_base.specs.OneShard.{rolled_back_if, without_part, drop_part}
use Rattle.law_base.proofs.Sets.{in_filter}
use Rattle.protocol_laws.specs.Depending.{HasPart, DependentsHaveParts}
use Rattle.protocol_laws.proofs.Laws.{keys_stay, get_has}
use Rattle.tx_table.specs.Held.{Candidates}
use Rattle.due_step.specs.Noting.{known_keys}
use Rattle.due_step.proofs.Laws.{keys_length}
use Rattle.shard_core.specs.Whole.{AreKnown}
use Rattle.shard_core.proofs.Seeing.{undone_prepares, doomed_known, part_known}

pub here_in : (l : Local) (tx x : TxId) → tx_in x (doomed_here l tx) ≡ true → tx_in x (doomed_by l tx) ≡ true
here_in l tx x e = (in_filter (λ t. is_present (stage_of l t)) x (doomed_by l tx) e).0

-- ---- the keys of the parts

pub rolled_keys : (tx : TxId) (l : Local) → keys_of (roll_back tx l).parts ≡ keys_of l.parts
rolled_keys tx l = keys_stay _ l.parts

pub without_keys : (tx : TxId) (l : Local) → keys_of (without_part tx l).parts ≡ keys_of l.parts
without_keys tx l = at (is_present (stage_of l tx))
  where
    at : (b : Bool) → keys_of (rolled_back_if b tx l).parts ≡ keys_of l.parts
    at true = rolled_keys tx l
    at false = refl

pub dropped_keys : (tx : TxId) (l : Local) → keys_of (drop_part tx l).parts ≡ keys_of l.parts
dropped_keys tx l = keys_stay _ (without_part tx l).parts ∙ without_keys tx l

-- ---- PREPAREs

pub rolled_prepares : (tx : TxId) (l : Local) (x : TxId) → prepare_lsn (roll_back tx l).log x ≡ prepare_lsn l.log x
rolled_prepares tx l x = undone_prepares l (doomed_here l tx) x

pub without_prepares : (tx : TxId) (l : Local) (x : TxId) → prepare_lsn (without_part tx l).log x ≡ prepare_lsn l.log x
without_prepares tx l x = at (is_present (stage_of l tx))
  where
    at : (b : Bool) → prepare_lsn (rolled_back_if b tx l).log x ≡ prepare_lsn l.log x
    at true = rolled_prepares tx l x
    at false = refl

-- ---- who is known

-- a part that is known is in the table
pub stage_known : (s : Shard) (tx : TxId) → is_some (stage_of s.local tx) ≡ true → tx_in tx (known_keys s) ≡ true
stage_known s tx e = part_known s tx (at (tx_get tx s.local.parts) refl e)
  where
    at : (o : Option Held) → tx_get tx s.local.parts ≡ o → is_some (elim o [ Some h ↦ Some h.stage | None ↦ None ]) ≡ true → HasPart s.local.parts tx
    at (Some h) g e = get_has tx h s.local.parts g
    at None g e = absurd (both_ways false refl e)

-- those that its abort takes away have parts
pub here_known : (s : Shard) (tx x : TxId) → tx_in x (doomed_here s.local tx) ≡ true → tx_in x (known_keys s) ≡ true
here_known s tx x e = stage_known s x (at (stage_of s.local x) (in_filter (λ t. is_present (stage_of s.local t)) x (doomed_by s.local tx) e).1)
  where
    at : (o : Option Stage) → is_present o ≡ true → is_some o ≡ true
    at (Some st) e = refl
    at None e = absurd (both_ways false refl e)

-- where only values of the parts changed, and those that depend on one that is known are candidates besides
pub known_doomed : (s v : Shard) (tx : TxId) (d f : Candidates) → DependentsHaveParts s.local → AreKnown s d → tx_in tx (known_keys s) ≡ true → keys_of v.local.parts ≡ keys_of s.local.parts → v.voters ≡ s.voters → v.requests ≡ s.requests
    → ((x : TxId) → tx_in x f.txs ≡ (tx_in x (doomed_by s.local tx) || tx_in x d.txs)) → f.limit ≡ d.limit → AreKnown v f
known_doomed s v tx d f dependents k own parts voters requests put limit =
    let keys : known_keys v ≡ known_keys s =
    ap (λ (ks : List TxId). ks ++ (keys_of v.voters ++ keys_of v.requests)) parts ∙ ap (λ (vs : Table _). keys_of s.local.parts ++ (keys_of vs ++ keys_of v.requests)) voters
    ∙ ap (λ (qs : Table _). keys_of s.local.parts ++ (keys_of s.voters ++ keys_of qs)) requests in
    let a = sym (keys_length v.local.parts) ∙ ap length parts ∙ keys_length s.local.parts in let b : length v.voters ≡ length s.voters = ap length voters in let c : length v.requests ≡ length s.requests = ap length requests in
    let places = k.places in
    record {
      known = λ x e. subst (λ ks. tx_in x ks ≡ true) (sym keys) (⊎_elim (λ h. doomed_known s tx x dependents own h) (λ h. k.known x h) (or_cases (tx_in x (doomed_by s.local tx)) (tx_in x d.txs) (sym (put x) ∙ e)));
      places = omega (arith, a, b, c, places, limit);
    }
