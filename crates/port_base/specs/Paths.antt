-- Paths by their components, as Rust's `Path` compares them.
use Rattle.std.specs.Prelude.{◌≡◌, ℕ, ◌<◌, List, [], ◌∷◌, ◌++◌, length, Bool, not, ◌&&◌, ◌||◌}
use Rattle.std.specs.Prelude.{◌==◌, if◌then◌else◌, Option, Some, None, is_none, slice_index}
use Rattle.std.specs.Prelude.{bytes_eq, codes, drop, filter}
use Rattle.std.specs.List.{slice_split, before_first, starts_with, list_all}
use Rattle.std.specs.Option.{option_to_list}
use Rattle.std.specs.Cmp.Lexicographic.{pointwise}
use Rattle.port_base.specs.Names.{name_fault}
use Rattle.port_base.specs.declared.paths.Components.{Components}

abbrev pub is_slash : ℕ → Bool
is_slash byte = byte == 47

-- a part between slashes that is neither empty nor `.`
abbrev pub is_name : List ℕ → Bool
is_name part = not (length part == 0) && not (bytes_eq part (codes "."))

-- the parts between slashes but for those that are empty or `.`
unfoldable pub names : List ℕ → List (List ℕ)
names path = filter is_name (slice_split is_slash path)

-- the slash that a path begins with, or the `.` that is the first part of a relative one
abbrev pub lead : List ℕ → Option (List ℕ)
lead path =
    if is_slash (slice_index path 0) then Some (codes "/") else
    if bytes_eq (before_first is_slash path) (codes ".") then Some (codes ".") else None

-- the components of a path
unfoldable pub components : List ℕ → List (List ℕ)
components path = option_to_list (lead path) ++ names path

-- the two paths have the same components
unfoldable pub same_path : List ℕ → List ℕ → Bool
same_path a b = pointwise bytes_eq (components a) (components b)

-- the components of the path begin with those of the base
unfoldable pub path_starts_with : List ℕ → List ℕ → Bool
path_starts_with path base = starts_with bytes_eq (components path) (components base)

-- the first name of a path and what follows it, where it has one
abbrev pub FirstName : List ℕ → Option (List ℕ × List ℕ) → Type 0
FirstName path None = names path ≡ []
FirstName path (Some (name, rest)) = (names path ≡ name ∷ names rest) × (length rest < length path)

-- the components that are still to come
abbrev pub components_left : Components → List (List ℕ)
components_left left = if left.begun then names left.rest.now else components left.rest.now

-- what is left without its leading component, where it has one
abbrev pub TakesLead : List (List ℕ) → List (List ℕ) → Option (List ℕ) → Type 0
TakesLead old new None = old ≡ new
TakesLead old new (Some part) = old ≡ part ∷ new

-- what follows the parts of a base, where the list begins with them
abbrev pub strip : List (List ℕ) → List (List ℕ) → Option (List (List ℕ))
strip parts [] = Some parts
strip [] (part ∷ base) = None
strip (own ∷ parts) (part ∷ base) = if bytes_eq part own then strip parts base else None

-- ---- paths from the top

-- names without fault, joined by single slashes
abbrev pub are_joined_names : List ℕ → Bool
are_joined_names path = list_all (λ part. is_none (name_fault part)) (slice_split is_slash path)

-- the top, or a slash and names without fault joined by single slashes
abbrev pub is_rooted_path : List ℕ → Bool
is_rooted_path path = is_slash (slice_index path 0)
    && ((length path == 1) || are_joined_names (drop 1 path))
