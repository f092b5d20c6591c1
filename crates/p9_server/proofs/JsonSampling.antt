-- Which keys write an owner follows by computation.
use Rattle.std.proofs.Common.{◌≡◌, refl, Some, None}
use Rattle.std.specs.Prelude.{codes}
use Rattle.port_base.specs.Decimals.{number_of}
use Rattle.p9_server.specs.ConfigJsons.{id_of}

pub plain : id_of (codes "1000") ≡ Some 1000
unfolding number_of
plain = refl

pub padded : id_of (codes "07") ≡ None
unfolding number_of
padded = refl

pub signed : id_of (codes "+7") ≡ None
unfolding number_of
signed = refl

pub large : id_of (codes "4294967296") ≡ None
unfolding number_of
large = refl
