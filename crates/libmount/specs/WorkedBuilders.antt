-- Builders at which the definitions are computed.
use Rattle.std.specs.Prelude.{ℕ, List, [], ◌∷◌, Bool, true, Some, None, codes}
use Rattle.std.specs.List.{fold}
use Rattle.libmount.specs.declared.tmpfs.Size.TheVariants.{Bytes}
use Rattle.libmount.specs.Builders.{FlagChange, InMemory, Layers, with_flag}
use Rattle.libmount.specs.BuilderTexts.{Named, flag_names}

abbrev pub in_memory : InMemory
in_memory = record {
  target = codes "/tmp";
  size = Some (Bytes 1048576);
  nr_inodes =
      Some 1024;
  mode = Some 1023;
  uid = Some 1000;
  gid = Some 1000;
}

abbrev pub two_layers : Layers
two_layers = record {
  lowerdirs = codes "/a:b" ∷ codes "/c,d\\" ∷ [];
  upper = None;
  target =
      codes "/t";
}

abbrev pub writable : Layers
writable =
    record {
      lowerdirs = codes "/l" ∷ [];
      upper =
          Some (record { upperdir = codes "/w/u"; workdir = codes "/w" });
      target = codes "/t";
    }

-- a change that names no flag
abbrev pub no_flags : List ℕ → FlagChange
no_flags path = record { path = path; set = 0; cleared = 0 }

abbrev pub read_only : FlagChange
read_only = with_flag 4 true (with_flag 1 true (no_flags (codes "/")))

-- a change that names all flags
abbrev pub all_flags : Bool → FlagChange
all_flags is_set = fold (λ change (row : Named). with_flag row.flag is_set change) (no_flags [])
    flag_names
