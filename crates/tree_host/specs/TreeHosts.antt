-- What a host in memory shows, and what can be added to it.
use Rattle.std.specs.Prelude.{◌≡◌, ℕ, List, Result, ◌<◌, IsSome, ⊤}
use Rattle.std.specs.FinMap as map
use Rattle.port_base.specs.Failing.{Script}
use Rattle.tree_model.specs.declared.attributes.Stamp.{Stamp}
use Rattle.tree_model.specs.Tree.{Tree, Records}
use Rattle.tree_model.specs.Good.{IsGoodTarget}
use Rattle.tree_model.specs.Placing.{add_directory_of, add_link_of, add_hard_of}
use Rattle.tree_model.specs.Making.{NewFile, add_file_of}
use Rattle.tree_host.specs.declared.memory.TreeHost.{TreeHost}
use Rattle.tree_host.specs.declared.memory.NewItem.{NewItem}
use Rattle.tree_host.specs.declared.memory.NewItem.TheVariants.{Dir, File, Link, Hard}
use Rattle.tree_host.specs.Calls.{Calls, scripted}
use Rattle.tree_host.specs.Holds.{Holds}
use Rattle.tree_host.specs.Kept.{tree_from}

abbrev pub tree : TreeHost → Tree
tree h = tree_from h.nodes h.next h.limits h.moment

abbrev pub holds : TreeHost → Holds
holds h = h.holds

-- the times of what is added
abbrev pub birth : TreeHost → Stamp
birth h = h.born

-- which calls fault
abbrev pub script : TreeHost → Script
script h = h.failing.script

-- how many faults were counted
abbrev pub faults : TreeHost → ℕ
faults h = h.failing.faults

abbrev pub calls : TreeHost → Calls
calls h = scripted h.failing

-- what a call that adds leaves as it was
pub record KeepsRest (old new : TreeHost) : Type 0 where
  pub holds : holds new ≡ holds old
  pub born : birth new ≡ birth old
  pub calls : new.failing ≡ old.failing

-- what a call that holds what it adds leaves as it was
pub record KeepsCalls (old new : TreeHost) : Type 0 where
  pub born : birth new ≡ birth old
  pub calls : new.failing ≡ old.failing

-- modes are permission bits, and targets those of good links
abbrev pub IsGoodItem : NewItem → Type 0
IsGoodItem (Dir mode uid gid) = mode < 4096
IsGoodItem (File mode uid gid bytes) = mode < 4096
IsGoodItem (Link uid gid target) = IsGoodTarget target.now
IsGoodItem (Hard ino) = ⊤

-- what gets one more name is stored
abbrev pub IsStoredItem : Records → NewItem → Type 0
IsStoredItem rs (Dir mode uid gid) = ⊤
IsStoredItem rs (File mode uid gid bytes) = ⊤
IsStoredItem rs (Link uid gid target) = ⊤
IsStoredItem rs (Hard ino) = IsSome (map.get rs ino)

abbrev pub new_file : ℕ → ℕ → ℕ → List ℕ → NewFile
new_file mode uid gid bytes = record { mode = mode; uid = uid; gid = gid; bytes = bytes }

-- the first refusal of what is added, or its number and the tree with it
abbrev pub add_of : Stamp → Tree → ℕ → List ℕ → NewItem → Result (ℕ × Tree) ℕ
add_of stamp t dir name (Dir mode uid gid) = add_directory_of stamp t dir name mode uid gid
add_of stamp t dir name (File mode uid gid bytes) =
    add_file_of stamp t dir name (new_file mode uid gid bytes.now)
add_of stamp t dir name (Link uid gid target) = add_link_of stamp t dir name uid gid target.now
add_of stamp t dir name (Hard ino) = add_hard_of t dir name ino
