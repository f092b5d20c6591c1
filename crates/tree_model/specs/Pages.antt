-- A directory's entries by pages.
use Rattle.std.specs.Prelude.{◌≡◌, ℕ, ◌-◌, ◌^◌, ◌<◌, List, [], ◌∷◌, filter, Option, Some, None}
use Rattle.std.specs.Prelude.{if◌then◌else◌, nat_le, nat_lt}
use Rattle.std.specs.List.{filter_map}
use Rattle.port_base.specs.Names.{name_fault}
use Rattle.tree_model.specs.Tree.{Tree, Records, DirEntry}
use Rattle.tree_model.specs.Finding.{entries_at}
use Rattle.tree_model.specs.Reading.{Entry, shown_entry}

-- each entry above a cookie, with what is told of what it names
abbrev pub entries_past : Records → ℕ → Option (List DirEntry) → List Entry
entries_past rs cookie None = []
entries_past rs cookie (Some es) =
    filter_map (shown_entry rs) (filter (λ e. nat_lt cookie e.cookie) es)

abbrev pub entries_past_of : Tree → ℕ → ℕ → List Entry
entries_past_of t dir cookie = entries_past t.records cookie (entries_at t.records dir)

-- the longest run from the front that has room, where each takes so much of it
abbrev pub front_within : {A : Type 0} → (A → ℕ) → ℕ → List A → List A
front_within size room [] = []
front_within size room (a ∷ rest) =
    if nat_le (size a) room then a ∷ front_within size (room - size a) rest else []

-- a page of a directory: of its entries above a cookie those that have room
abbrev pub page_of : (Entry → ℕ) → ℕ → Tree → ℕ → ℕ → List Entry
page_of size room t dir cookie = front_within size room (entries_past_of t dir cookie)

-- the cookie of the last entry, or the one that the reading began at
abbrev pub last_cookie : ℕ → List Entry → ℕ
last_cookie cookie [] = cookie
last_cookie cookie (e ∷ es) = last_cookie e.cookie es

-- an entry as a good tree lists it: its name has no fault, and its numbers fit 64 bits
pub record IsGoodEntry (e : Entry) : Type 0 where
  pub named : name_fault e.name ≡ None
  pub cookie : e.cookie < 2 ^ 64
  pub ino : e.attr.ino < 2 ^ 64

-- each cookie is above the one before it, and the first above the given one
abbrev pub CookiesAscend : ℕ → List Entry → Type 0
CookiesAscend cookie [] = Unit {0}
CookiesAscend cookie (e ∷ es) = (cookie < e.cookie) × CookiesAscend e.cookie es
