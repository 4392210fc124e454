-- A disk that tells nothing.
use Rattle.std.specs.Prelude.{◌≡◌, Some, None}
use Rattle.disk_model.specs.Disk.{Image}

-- it speaks of no crash
abbrev pub no_image : Type 0
no_image = ⊥

-- a law that the disk over real files cites
pub none_told : {A : Type 0} (m : Image) → None ≡ Some m → A
none_told m is = absurd (cc)
