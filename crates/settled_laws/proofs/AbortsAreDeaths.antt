-- Each death and each abort that is told is that of a younger one in the way of an older one.
pub mod DueUpholdsOldParts
pub mod EventsUpholdOldParts
pub mod WhatEntriesOwe
pub mod FrontsUpholdOldParts
pub mod OldClosedAreCommitted
use Rattle.std.proofs.Common.{◌≡◌, ⊎_elim, refl, sym, ap, ◌∙◌, ℕ, suc, ◌<◌, List, [], ◌∷◌, ◌++◌, take, drop, Some, arith, append_assoc, take-append-drop}
use Rattle.clv_base.specs.declared.names.TxId.{TxId}
use Rattle.clv_base.specs.declared.logs.LogRecord.{LogRecord}
use Rattle.clv_base.specs.declared.causes.AbortCause.{AbortCause}
use Rattle.clv_base.specs.declared.causes.AbortCause.TheVariants.{Asked as AskedCause, Died, Predecessor, NoVote, Restarted}
use Rattle.clv_base.specs.declared.events.Event.{Event}
use Rattle.clv_base.specs.declared.events.Outcome.{Outcome}
use Rattle.clv_base.specs.Shards.{shard_count}
use Rattle.clv_base.specs.Journals.{History}
use Rattle.clv_base.specs.History.{CauseStands}
use Rattle.protocol_laws.specs.SessionLaws.{tx_of}
use Rattle.history_cases.proofs.Merging.{Placed, is_among}
use Rattle.history_laws.specs.Openings.{LegalFrom}
use Rattle.history_laws.proofs.NeverTakenBack.{walker_of}
use Rattle.fate_laws.specs.Causes.{TellsCause, op_died, going_back_died, request_died, look_found, IsOfAnother}
use Rattle.fate_laws.proofs.History.EntryByEntry.{next_at}
use Rattle.fate_laws.proofs.CausesStand.{causes_stand}
use Rattle.settled_laws.specs.Deaths.{BeginsSettled, AbortsAreDeaths}
use Rattle.settled_laws.proofs.AbortsAreDeaths.WhatEntriesOwe.{AllUpheld}
use Rattle.settled_laws.proofs.AbortsAreDeaths.FrontsUpholdOldParts.{facing, upheld_front, never_restarted}
use Rattle.settled_laws.proofs.AbortsAreDeaths.OldClosedAreCommitted.{calm, begins}

of_tx : (ev : Event) (o : Outcome) (tx : TxId) (c : AbortCause) → TellsCause ev o tx c → tx_of ev ≡ Some tx
of_tx _ _ tx c (op_died _ birth nth seen op _) = refl
of_tx _ _ tx c (going_back_died _ nth seen upto _) = refl
of_tx _ _ tx c (request_died _ touched _) = refl
of_tx _ _ tx c (look_found _ _) = refl

module _ {splits : List ℕ} {before after : List (List LogRecord)} {h : History} (l : LegalFrom splits before h after) (b : (n : ℕ) → n < shard_count splits → BeginsSettled before h n) where
  upheld : (pre post : History) → pre ++ post ≡ h → AllUpheld splits before after h pre
  upheld pre post q = upheld_front l (calm l b) (begins l b) pre post q

  died : (so_far rest : History) (e : Placed) → so_far ++ e ∷ rest ≡ h → (tx : TxId) → tx_of (e.1).event ≡ Some tx → (c : AbortCause) → CauseStands before so_far after e tx c × IsOfAnother tx c → (older : TxId) × (c ≡ Died older)
  died so_far rest e q tx t AskedCause k = absurd k.0
  died so_far rest e q tx t (Died older) k = (older, refl)
  died so_far rest e q tx t (Predecessor d) ((k, i, g), other) =
      let w = next_at splits before after h so_far e rest l.legal q in
      let all = so_far ++ e ∷ [] in
      let front = take (suc k) all in
      let whole : front ++ (drop (suc k) all ++ rest) ≡ h = sym (append_assoc front (drop (suc k) all) rest) ∙ ap (λ z. z ++ rest) (take-append-drop (suc k) all) ∙ append_assoc so_far (e ∷ []) rest ∙ q in
      let ends = ((upheld front (drop (suc k) all ++ rest) whole).states e.0 w.inside).gone tx d g in
      absurd (⊎_elim (λ o. let r = (walker_of splits before after h e tx l.legal w.among t).0 in omega (arith, o, r)) (λ same. other same) ends.1)
  died so_far rest e q tx t (NoVote p why) ((y, i, z), other) = absurd ((upheld so_far (e ∷ rest) q).takes (e.0, y) (is_among e.0 y so_far i) tx p why z)
  died so_far rest e q tx t (Restarted shard seen now) (k, other) =
      absurd (never_restarted (facing l (calm l b) (begins l b) so_far e rest q (upheld so_far (e ∷ rest) q)) tx shard seen now k)

pub aborts_are_deaths : AbortsAreDeaths
aborts_are_deaths splits before h after so_far rest e tx cause l b q tells =
    died l b so_far rest e q tx (of_tx (e.1).event (e.1).outcome tx cause tells) cause (causes_stand splits before h after so_far rest e tx cause l q tells)
