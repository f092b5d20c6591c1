-- A walk along the parts of a path as it is split at slashes, of which some may be empty.
use Rattle.std.specs.Prelude.{ℕ, List, [], ◌∷◌, length, Result, Ok, Err, if◌then◌else◌, ◌==◌, false}
use Rattle.std.specs.List.{slice_split}
use Rattle.tree_model.specs.declared.attributes.TheConstants.{TOP}
use Rattle.tree_model.specs.Tree.{Records, body_at}
use Rattle.tree_model.specs.Finding.{entries_at, ino_among, directory_or_not}

-- one more part: an empty one leads nowhere else
abbrev pub part_step : Records → List ℕ → Result ℕ ℕ → Result ℕ ℕ
part_step rs part (Ok i) = if length part == 0 then Ok i else ino_among false part (entries_at rs i)
part_step rs part (Err e) = Err e

abbrev pub part_end : Records → Result ℕ ℕ → Result ℕ ℕ
part_end rs (Ok i) = directory_or_not (body_at rs i) i
part_end rs (Err e) = Err e

abbrev pub walk_parts : Records → Result ℕ ℕ → List (List ℕ) → Result ℕ ℕ
walk_parts rs at [] = at
walk_parts rs at (part ∷ parts) = walk_parts rs (part_step rs part at) parts

-- the directory at the end of a path as it is split
abbrev pub walk_of : Records → List ℕ → Result ℕ ℕ
walk_of rs path = part_end rs (walk_parts rs (Ok TOP) (slice_split (λ b. b == 47) path))
