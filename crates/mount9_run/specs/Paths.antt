-- Paths of directories.
use Rattle.std.specs.Prelude.{ℕ, ◌+◌, List, length, take, drop, Option, option_map, ◌==◌, ◌&&◌}
use Rattle.std.specs.Prelude.{◌||◌, not, nat_le, slice_index, Bool}
use Rattle.std.specs.List.{list_any, list_all, slice_split}
use Rattle.std.specs.Path.{rfind_below}
use Rattle.port_base.specs.Names.{is_dots}
use Rattle.port_base.specs.Paths.{is_rooted_path}
use Rattle.mount9_run.specs.declared.path.TheConstants.{PATH_LIMIT}

-- a part of a path: neither empty nor dots
abbrev pub is_part : List ℕ → Bool
is_part part = not ((length part == 0) || is_dots part)

-- a slash, and such parts with a slash between each two
abbrev pub is_rooted : List ℕ → Bool
is_rooted path =
    (slice_index path 0 == 47)
    && ((length path == 1) || list_all is_part (slice_split (λ b. b == 47) (drop 1 path)))

-- the path of a directory that is shared: the top, or names without fault, each behind a slash
abbrev pub is_root : List ℕ → Bool
is_root path = nat_le (length path) PATH_LIMIT && is_rooted_path path

-- what stands before the last slash, and what stands behind it
unfoldable pub split_last : List ℕ → Option (List ℕ × List ℕ)
split_last path =
    option_map (λ i. (take i path, drop (i + 1) path)) (rfind_below 47 path (length path))

-- a path of parts that isn't too long and has no zero byte
unfoldable pub is_path : List ℕ → Bool
is_path path = nat_le (length path) PATH_LIMIT
    && (not (list_any (λ b. b == 0) path) && is_rooted path)
