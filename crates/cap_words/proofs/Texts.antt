-- A permission and a linearity are what their names are read as.
use Rattle.std.proofs.Common.{◌≡◌, Some, refl}
use Rattle.cap_words.specs.declared.Perm.{Perm}
use Rattle.cap_words.specs.declared.Perm.TheVariants.{No, R as ReadOnly, Rw, Rx, Rwx}
use Rattle.cap_words.specs.declared.Lin.{Lin}
use Rattle.cap_words.specs.declared.Lin.TheVariants.{Normal, Linear}
use Rattle.cap_words.specs.Text.{perm_name, lin_name, perm_named, lin_named}

pub perm_again : (x : Perm) → perm_named (perm_name x) ≡ Some x
perm_again No = refl
perm_again ReadOnly = refl
perm_again Rw = refl
perm_again Rx = refl
perm_again Rwx = refl

pub lin_again : (x : Lin) → lin_named (lin_name x) ≡ Some x
lin_again Normal = refl
lin_again Linear = refl
