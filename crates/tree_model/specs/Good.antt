-- Trees as they are at every moment.
use Rattle.std.specs.Prelude.{◌≡◌, ◌≢◌, ◌⊎◌, ℕ, zero, suc, ◌+◌, ◌^◌, ◌<◌, ◌≤◌, Bool, false, not}
use Rattle.std.specs.Prelude.{List, [], ◌∷◌, length, All, AllPairs, Contains, Some, None}
use Rattle.std.specs.Prelude.{if◌then◌else◌, ◌==◌, IsTrue, IsSome, IfSome}
use Rattle.std.specs.List.{list_any}
use Rattle.std.specs.Str.{is_utf8}
use Rattle.std.specs.FinMap as map
use Rattle.port_base.specs.Names.{name_fault}
use Rattle.tree_model.specs.declared.attributes.Stamp.{Stamp}
use Rattle.tree_model.specs.declared.attributes.Limits.{Limits}
use Rattle.tree_model.specs.Tree.{Tree, Record, Records, Body, DirEntry, TOP, body_at, listed}
use Rattle.tree_model.specs.Tree.{is_directory, is_directory_at, names_in, name_count, is_linked}
use Rattle.tree_model.specs.Tree.Body.{File, Directory, Link}

-- nanoseconds are below a second
abbrev pub IsGoodStamp : Stamp → Type 0
IsGoodStamp s = s.nsec < 1000000000

abbrev pub IsGoodLimits : Limits → Type 0
IsGoodLimits l = (l.file ≤ 1073741824) × (l.entries ≤ 1048576) × (1 ≤ l.links) × (l.links ≤ 65000)

-- cookies rise, from at least the one given, and stay below the end
abbrev pub CookiesRise : ℕ → List DirEntry → ℕ → Type 0
CookiesRise from [] end = from ≤ end
CookiesRise from (e ∷ es) end = (from ≤ e.cookie) × CookiesRise (e.cookie + 1) es end

-- a link's target: 1 to 4000 bytes of UTF-8 without a zero byte
abbrev pub IsGoodTarget : List ℕ → Type 0
IsGoodTarget target =
    (1 ≤ length target) × (length target ≤ 4000)
    × IsTrue (is_utf8 target) × IsTrue (not (list_any (λ b. b == 0) target))

-- a directory's names are well formed and apart, and its next cookie fits 64 bits
abbrev pub IsGoodBody : Body → Type 0
IsGoodBody (File bytes) = length bytes ≤ 1073741824
IsGoodBody (Directory es next above) =
    CookiesRise 1 es next × All (λ e. name_fault e.name ≡ None) es
    × AllPairs (λ e f. e.name ≢ f.name) es × (next < 2 ^ 64)
IsGoodBody (Link target) = IsGoodTarget target

pub record IsGoodRecord (r : Record) : Type 0 where
  pub body : IsGoodBody r.body
  pub mode : r.mode < 4096
  pub links : r.links ≤ 65000
  pub atime : IsGoodStamp r.atime
  pub mtime : IsGoodStamp r.mtime
  pub ctime : IsGoodStamp r.ctime

-- the number of links of a record that so many entries name: of a directory 2 while it is linked,
-- else 0
abbrev pub links_of : Body → ℕ → Bool → ℕ
links_of (File bytes) names linked = names
links_of (Directory es next above) names linked = if linked then 2 else 0
links_of (Link target) names linked = names

-- the record is stored
abbrev pub IsAt : Records → ℕ → Record → Type 0
IsAt rs i r = map.get rs i ≡ Some r

-- from a directory up, the top is reached in n steps
abbrev pub Climbs : Records → ℕ → ℕ → Type 0
Climbs rs zero i = i ≡ TOP
Climbs rs (suc n) i =
    (i ≡ TOP)
    ⊎ ((r : Record) × (es : List DirEntry) × (next : ℕ) × (above : ℕ)
    × IsAt rs i r × (r.body ≡ Directory es next above) × Climbs rs n above)

pub record IsGoodTree (t : Tree) : Type 0 where
  pub limits : IsGoodLimits t.limits
  pub moment : IsGoodStamp t.moment
  pub next : t.next < 2 ^ 64
  pub top_is_directory : IsTrue (is_directory_at (body_at t.records TOP))
  pub numbers : (i : ℕ) (r : Record) → IsAt t.records i r → (1 ≤ i) × (i < t.next)
  pub records : (i : ℕ) (r : Record) → IsAt t.records i r → IsGoodRecord r
  -- entries name stored records, and none the top
  pub entries : (i : ℕ) (r : Record) (e : DirEntry) → IsAt t.records i r → Contains (listed r.body)
      e
      → IsSome (map.get t.records e.ino) × (e.ino ≢ TOP)
  pub links : (i : ℕ) (r : Record) → IsAt t.records i r
      → r.links ≡ links_of r.body (name_count t.records i) (is_linked t.records i)
  -- one entry at most names a directory, and it stands in the directory above
  pub once : (i : ℕ) (r : Record) → IsAt t.records i r → IsTrue (is_directory r.body)
      → name_count t.records i ≤ 1
  pub above : (i : ℕ) (r : Record) (es : List DirEntry) (next up : ℕ) → IsAt t.records i r
      → r.body ≡ Directory es next up → IsTrue (is_linked t.records i) → i ≢ TOP
      → IsSome (map.get t.records up) × IfSome (map.get t.records up) (λ d. 1 ≤ names_in i d)
  -- the top is above itself
  pub top_above : (r : Record) (es : List DirEntry) (next up : ℕ) → IsAt t.records TOP r
      → r.body ≡ Directory es next up → up ≡ TOP
  pub climbs : (i : ℕ) (r : Record) → IsAt t.records i r → IsTrue (is_directory r.body)
      → IsTrue (is_linked t.records i) → ∥ ((n : ℕ) × Climbs t.records n i) ∥₁
  -- a directory that no entry names has no entries
  pub emptied : (i : ℕ) (r : Record) → IsAt t.records i r → is_linked t.records i ≡ false
      → listed r.body ≡ []
