-- The figures of document 01 on stream models: the arguments of `video_high_level`, then Rxn, Rbxn and MBSn.
use Rattle.std.specs.Prelude.{ℕ, ◌≡◌, List, [], ◌∷◌, Ok}
use Rattle.profile.specs.declared.model.TStdBranch.TheVariants.{Video}
use Rattle.profile.specs.Model.{video_high_level}

pub record HighLevelRow : Type 0 where
  pub rmax : ℕ
  pub res : ℕ
  pub vbv : ℕ
  pub rx : ℕ
  pub rbx : ℕ
  pub mb : ℕ

abbrev pub high_level_rows : List HighLevelRow
high_level_rows =
    record { rmax = 15000000; res = 10000000; vbv = 229376; rx = 18000000; rbx = 10500000; mb = 10000 }
    ∷ []

-- each row is the answer of the constructor
abbrev pub HighLevelHolds : List HighLevelRow → Type 0
HighLevelHolds [] = Unit
HighLevelHolds (r ∷ rows) =
    (video_high_level r.rmax r.res r.vbv ≡ Ok (record { rx_bps = r.rx; branch = Video r.rbx r.mb r.vbv }))
    × HighLevelHolds rows
