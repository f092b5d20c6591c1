-- How names stand in a directory.
use Rattle.std.specs.Prelude.{ℕ, ◌<◌, List, Option, Some, None, position, bytes_eq, All, AllPairs}
use Rattle.std.specs.List.{remove}
use Rattle.tree_model.specs.Tree.{DirEntry}

-- where the entry of a name stands
abbrev pub place_among : List ℕ → List DirEntry → Option ℕ
place_among name es = position (λ e. bytes_eq e.name name) es

-- the entries without the one at a place
abbrev pub without_at : Option ℕ → List DirEntry → List DirEntry
without_at None es = es
without_at (Some place) es = remove es place

-- cookies rise, and stay below the next
abbrev pub AreInOrder : List DirEntry → ℕ → Type 0
AreInOrder es next = AllPairs (λ e f. e.cookie < f.cookie) es × All (λ e. e.cookie < next) es
