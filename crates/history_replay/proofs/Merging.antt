-- One journal merged with none.
use Rattle.std.proofs.Common.{◌≡◌, List, [], ◌∷◌, refl, ap}
use Rattle.clv_base.specs.declared.events.Entry.{Entry}
use Rattle.clv_base.specs.Journals.{History, journal_of}
use Rattle.history_replay.specs.Entries.{merged, on_shard}

pub merged_with_none : (es : History) → merged es [] ≡ es
merged_with_none [] = refl
merged_with_none (e ∷ es) = ap (λ fs. e ∷ fs) (merged_with_none es)

pub own_journal : (js : List Entry) → journal_of 0 (on_shard 0 js) ≡ js
own_journal [] = refl
own_journal (j ∷ js) = ap (λ fs. j ∷ fs) (own_journal js)
