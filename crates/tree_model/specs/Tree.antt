-- A tree of files: records by inode number, joined by the entries of directories.
use Rattle.std.specs.Prelude.{ℕ, ◌+◌, Bool, true, false, cond, ◌||◌, List, [], ◌∷◌, Option, Some}
use Rattle.std.specs.Prelude.{None, ◌==◌, nat_lt, option_map}
use Rattle.std.specs.Ordering.{nat_cmp}
use Rattle.std.specs.FinMap as map
use Rattle.std.specs.FinMap.{FinMap}
pub use Rattle.tree_model.specs.declared.attributes.TheConstants.{TOP}
use Rattle.tree_model.specs.declared.attributes.Stamp.{Stamp}
use Rattle.tree_model.specs.declared.attributes.Limits.{Limits}

-- a name in a directory: a cookie that no other entry of the directory ever has, the name, and the
-- inode that it names
pub record DirEntry : Type 0 where
  pub cookie : ℕ
  pub name : List ℕ
  pub ino : ℕ

-- what a record holds: a file its bytes; a directory its entries in rising cookie order, the next
-- cookie and the number of the directory above; a link its target
pub data Body : Type 0 where
  File : (bytes : List ℕ) → Body
  Directory : (entries : List DirEntry) (next_cookie above : ℕ) → Body
  Link : (target : List ℕ) → Body

pub record Record : Type 0 where
  pub body : Body
  pub mode : ℕ
  pub uid : ℕ
  pub gid : ℕ
  pub links : ℕ
  pub atime : Stamp
  pub mtime : Stamp
  pub ctime : Stamp

abbrev pub Records : Type 0
Records = FinMap nat_cmp Record

-- the records, the next inode number, what the tree may hold, and the moment that changes are
-- stamped with
pub record Tree : Type 0 where
  pub records : Records
  pub next : ℕ
  pub limits : Limits
  pub moment : Stamp

abbrev pub body_at : Records → ℕ → Option Body
body_at rs i = option_map (λ (r : Record). r.body) (map.get rs i)

-- the entries of a body, none for a file or a link
abbrev pub listed : Body → List DirEntry
listed (File bytes) = []
listed (Directory entries next above) = entries
listed (Link target) = []

abbrev pub is_directory : Body → Bool
is_directory (File bytes) = false
is_directory (Directory entries next above) = true
is_directory (Link target) = false

abbrev pub is_directory_at : Option Body → Bool
is_directory_at None = false
is_directory_at (Some b) = is_directory b

-- ---- who names an inode

-- how many of the entries name i
abbrev pub count_names : ℕ → List DirEntry → ℕ
count_names i [] = 0
count_names i (e ∷ es) = cond (e.ino == i) 1 0 + count_names i es

-- how many entries of a record name i
abbrev pub names_in : ℕ → Record → ℕ
names_in i r = count_names i (listed r.body)

-- what the values of a map weigh together
abbrev pub weigh : {X : Type 0} → (X → ℕ) → List (ℕ × X) → ℕ
weigh w [] = 0
weigh w (e ∷ es) = w e.1 + weigh w es

-- what a value weighs, where there is one
abbrev pub weight : {X : Type 0} → (X → ℕ) → Option X → ℕ
weight w None = 0
weight w (Some x) = w x

-- how many entries name i
abbrev pub name_count : Records → ℕ → ℕ
name_count rs i = weigh (names_in i) (map.entries rs)

-- i is the top, or an entry names it
abbrev pub is_linked : Records → ℕ → Bool
is_linked rs i = (i == TOP) || nat_lt 0 (name_count rs i)

-- ---- what stays

-- the tree with its linked records alone
abbrev pub linked : Tree → Tree
linked t = record t { records = map.retain_keys t.records (is_linked t.records) }

-- the tree with the records that are linked or held
abbrev pub keep : (ℕ → Bool) → Tree → Tree
keep held t = record t {
  records = map.retain_keys t.records (λ i. is_linked t.records i || held i);
}
