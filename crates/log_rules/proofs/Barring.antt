-- Who bars a RESTART, after some of a list were put in.
use Rattle.std.proofs.Common.{◌≡◌, Bool, true, false, ◌&&◌, ◌||◌, List, [], ◌∷◌, ◌++◌, is_some, not, if◌then◌else◌, ⊎_elim, refl, sym, ap, ◌∙◌}
use Rattle.std.proofs.lemmas.Bool.{cases_Bool}
use Rattle.clv_base.specs.declared.names.TxId.{TxId}
use Rattle.clv_base.specs.Orders.{tx_same, tx_in}
use Rattle.clv_base.proofs.SameNames.{tx_true}
use Rattle.log_analysis.specs.Facts.{known}
use Rattle.log_rules.specs.declared.index.Index.{Index}
use Rattle.log_rules.specs.Writes.{newest_by}
use Rattle.log_rules.specs.Adding.{bars_after_abort, BarsOne, BarsAll}
use Rattle.log_rules.proofs.Listing.{in_push}

same_bars : (old mid : Index) (tx t : TxId) → mid.writes ≡ old.writes → mid.facts ≡ old.facts → tx_same tx t && bars_after_abort mid tx ≡ tx_same tx t && bars_after_abort old t
same_bars old mid tx t writes facts =
    let same : bars_after_abort mid tx ≡ bars_after_abort old tx = ap (λ w. is_some (newest_by w tx) && not (is_some (known mid.facts tx).commit)) writes ∙ ap (λ f. is_some (newest_by old.writes tx) && not (is_some (known f tx).commit)) facts in
    ⊎_elim (λ e. ap (λ b. tx_same tx t && b) (same ∙ ap (bars_after_abort old) (tx_true tx t e)))
    (λ e. ap (λ b. b && bars_after_abort mid tx) e ∙ sym (ap (λ b. b && bars_after_abort old t) e)) (cases_Bool (tx_same tx t))

gather_or : (a b c s : Bool) → (a || (b && c)) || (s && c) ≡ a || ((b || s) && c)
gather_or true b c s = refl
gather_or false true true s = refl
gather_or false true false true = refl
gather_or false true false false = refl
gather_or false false c s = refl

pub bars_more : (old mid new : Index) (tx : TxId) (txs : List TxId) → BarsAll old mid txs → BarsOne mid new tx → BarsAll old new (txs ++ tx ∷ [])
bars_more old mid new tx txs so_far one = record {
  keeps = record {
    shard = one.keeps.shard ∙ so_far.keeps.shard;
    last = one.keeps.last ∙ so_far.keeps.last;
    restart_at = one.keeps.restart_at ∙ so_far.keeps.restart_at;
    facts = one.keeps.facts ∙ so_far.keeps.facts;
  };
  writes = one.writes ∙ so_far.writes;
  listers = one.listers ∙ so_far.listers;
  barring = λ t. one.barring t ∙ ap (λ b. b || (tx_same tx t && bars_after_abort mid tx)) (so_far.barring t)
      ∙ ap (λ b. (tx_in t old.barring || (tx_in t txs && bars_after_abort old t)) || b) (same_bars old mid tx t so_far.writes so_far.keeps.facts)
      ∙ gather_or (tx_in t old.barring) (tx_in t txs) (bars_after_abort old t) (tx_same tx t) ∙ ap (λ b. tx_in t old.barring || (b && bars_after_abort old t)) (sym (in_push t tx txs));
}

-- after a PREPARE: one for another home takes its transaction out
pub held_elsewhere : (tx t : TxId) (is_home : Bool) (old new : List TxId) → is_home ≡ false → tx_in t new ≡ (if tx_same tx t then false else tx_in t old) → tx_in t new ≡ (if tx_same tx t then is_home && tx_in t old else tx_in t old)
held_elsewhere tx t is_home old new away is = is ∙ ap (λ (b : Bool). if tx_same tx t then b && tx_in t old else tx_in t old) (sym away)

either_way : (b c : Bool) → c ≡ (if b then true && c else c)
either_way true c = refl
either_way false c = refl

pub held_here : (tx t : TxId) (is_home : Bool) (old : List TxId) → is_home ≡ true → tx_in t old ≡ (if tx_same tx t then is_home && tx_in t old else tx_in t old)
held_here tx t is_home old home = either_way (tx_same tx t) (tx_in t old) ∙ ap (λ (b : Bool). if tx_same tx t then b && tx_in t old else tx_in t old) (sym home)
