-- Who has writes that stand at a key, and how many.
use Rattle.std.specs.Prelude.{◌+◌, ◌-◌, Bool, true, false, cond, not, ◌&&◌, ◌==◌, List, [], ◌∷◌}
use Rattle.std.specs.List.{filter}
use Rattle.clv_base.specs.declared.names.TxId.{TxId}
use Rattle.clv_base.specs.Orders.{tx_same}
pub use Rattle.log_rules.specs.declared.shares.Share.{Share}
pub use Rattle.log_rules.specs.declared.shares.Crowd.{Crowd}
pub use Rattle.log_rules.specs.declared.shares.Crowd.TheVariants.{Nobody, One, Many}

-- the shares of a crowd
abbrev pub crowd_of : Crowd → List Share
crowd_of Nobody = []
crowd_of (One s) = s ∷ []
crowd_of (Many v) = v.items

-- the share of one write, and a share with one more and with one fewer
abbrev pub share_of_one : TxId → Bool → Share
share_of_one tx true = record { tx = tx; sets = 1; adds = 0 }
share_of_one tx false = record { tx = tx; sets = 0; adds = 1 }

abbrev pub one_more : Bool → Share → Share
one_more true s = record s { sets = s.sets + 1 }
one_more false s = record s { adds = s.adds + 1 }

abbrev pub one_fewer : Bool → Share → Share
one_fewer true s = record s { sets = s.sets - 1 }
one_fewer false s = record s { adds = s.adds - 1 }

abbrev pub none_left : Share → Bool
none_left s = (s.sets == 0) && (s.adds == 0)

-- those of others
abbrev pub without : TxId → List Share → List Share
without tx shares = filter (λ s. not (tx_same tx s.tx)) shares

-- with one write more of the transaction
abbrev pub with_share : TxId → Bool → List Share → List Share
with_share tx is_setting [] = share_of_one tx is_setting ∷ []
with_share tx is_setting (s ∷ ss) = cond (tx_same tx s.tx) (one_more is_setting s ∷ ss) (s ∷ with_share tx is_setting ss)

-- and with one fewer; where none is left, its share goes
abbrev pub without_share : TxId → Bool → List Share → List Share
without_share tx is_setting [] = []
without_share tx is_setting (s ∷ ss) =
    cond (tx_same tx s.tx) (cond (none_left (one_fewer is_setting s)) ss (one_fewer is_setting s ∷ ss)) (s ∷ without_share tx is_setting ss)
