-- How a server is set up, and when it can't be.
use Rattle.std.specs.Prelude.{ℕ, List, Bool, false, not, nat_lt, if◌then◌else◌, Option, Some, None}
use Rattle.std.specs.Prelude.{[], ◌∷◌}
use Rattle.std.specs.FinMap as map
use Rattle.port_base.specs.Paths.{is_rooted_path}
use Rattle.tree_model.specs.Finding.{path_names}
use Rattle.tree_model.specs.Settings.{Settings, IdMap}
use Rattle.p9_server.specs.declared.config.Config.{Config}
use Rattle.p9_server.specs.declared.config.ConfigError.{ConfigError}
use Rattle.p9_server.specs.declared.config.ConfigError.TheVariants.{MsizeTooSmall, BadRoot}

-- first the size, then the root
abbrev pub config_refused : ℕ → List ℕ → Option ConfigError
config_refused msize root =
    if nat_lt msize 256 then Some MsizeTooSmall else
    if not (is_rooted_path root) then Some BadRoot else None

-- how a tree is shared by a configuration
abbrev pub settings_of : Config → Settings
settings_of c =
    record {
      root = path_names c.root.items;
      uid_map = map.from_entries c.uid_map.entries;
      gid_map = map.from_entries c.gid_map.entries;
      casefold = c.ascii_casefold;
      limit = c.fid_limit;
    }

-- a directory with owners as they are told, exact names and as many fids as there are numbers
abbrev pub standard_settings : List ℕ → List (ℕ × ℕ) → List (ℕ × ℕ) → Settings
standard_settings root uids gids =
    record {
      root = path_names root;
      uid_map = map.from_entries uids;
      gid_map = map.from_entries gids;
      casefold = false;
      limit = 4294967295;
    }

-- a configuration, without where it lies in memory
pub record Configuration : Type 0 where
  pub root : List ℕ
  pub msize : ℕ
  pub uid_map : IdMap
  pub gid_map : IdMap
  pub ascii_casefold : Bool
  pub fid_limit : ℕ

abbrev pub configuration : Config → Configuration
configuration c =
    record {
      root = c.root.items;
      msize = c.msize;
      uid_map = map.from_entries c.uid_map.entries;
      gid_map = map.from_entries c.gid_map.entries;
      ascii_casefold = c.ascii_casefold;
      fid_limit = c.fid_limit;
    }

abbrev pub standard : Configuration
standard =
    record {
      root = 47 ∷ [];
      msize = 65560;
      uid_map = map.empty;
      gid_map = map.empty;
      ascii_casefold = false;
      fid_limit = 4294967295;
    }
