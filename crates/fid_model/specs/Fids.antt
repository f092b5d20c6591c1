-- The state of a 9P server: a tree, and fids that name its inodes.
use Rattle.std.specs.Prelude.{◌≡◌, ℕ, ◌<◌, ◌≤◌, ◌^◌, Bool, true, false, cond, not, ◌==◌, nat_lt}
use Rattle.std.specs.Ordering.{nat_cmp}
use Rattle.std.specs.FinMap as map
use Rattle.std.specs.FinMap.{FinMap}
use Rattle.port_base.specs.declared.oflag.TheConstants.{O_RDONLY, O_WRONLY}
use Rattle.tree_model.specs.Tree.{Tree, weigh, keep}
use Rattle.tree_model.specs.Good.{IsGoodTree}
use Rattle.tree_model.specs.Sound.{IsKept, AreStored}
use Rattle.tree_model.specs.Settings.{Settings}

-- whether a fid is open, and how
pub data OpenState : Type 0 where
  Closed : OpenState
  Opened : (access : ℕ) (append : Bool) → OpenState

-- open, in whatever way
abbrev pub is_open : OpenState → Bool
is_open Closed = false
is_open (Opened access append) = true

-- open, and not for writing alone
abbrev pub is_readable : OpenState → Bool
is_readable Closed = false
is_readable (Opened access append) = not (access == O_WRONLY)

-- open, and not for reading alone
abbrev pub is_writable : OpenState → Bool
is_writable Closed = false
is_writable (Opened access append) = not (access == O_RDONLY)

-- what is written goes to the file's end
abbrev pub appends : OpenState → Bool
appends Closed = false
appends (Opened access append) = append

-- what a fid names: an inode, whatever becomes of its names
pub record Fid : Type 0 where
  pub ino : ℕ
  pub open_state : OpenState

abbrev pub Fids : Type 0
Fids = FinMap nat_cmp Fid

-- the tree, the fids, the greatest size of a frame, and how the tree is shared
pub record ServerState : Type 0 where
  pub tree : Tree
  pub fids : Fids
  pub msize : ℕ
  pub settings : Settings

-- no more than the tree has changed
abbrev pub IsTreeAlone : ServerState → ServerState → Type 0
IsTreeAlone s0 s1 = s1 ≡ record s0 { tree = s1.tree }

abbrev pub closed : ℕ → Fid
closed i = record { ino = i; open_state = Closed }

-- how many of these fids name i: one or none
abbrev pub fid_weight : ℕ → Fid → ℕ
fid_weight i f = cond (f.ino == i) 1 0

-- how many fids name an inode
abbrev pub fid_count : Fids → ℕ → ℕ
fid_count fids i = weigh (fid_weight i) (map.entries fids)

abbrev pub is_held : Fids → ℕ → Bool
is_held fids i = nat_lt 0 (fid_count fids i)

-- the records go that are neither linked nor named by a fid
abbrev pub kept_state : ServerState → ServerState
kept_state s = record s { tree = keep (is_held s.fids) s.tree }

-- a server without fids: of its tree the linked records are left
abbrev pub cleared : ServerState → ServerState
cleared s = kept_state (record s { fids = map.empty })

-- what each server keeps: its tree is good, a record is stored exactly where it is linked or a fid
-- names it, and every reply has room
pub record IsGoodServer (s : ServerState) : Type 0 where
  pub tree : IsGoodTree s.tree
  pub kept : IsKept s.tree.records (is_held s.fids)
  pub stored : AreStored s.tree.records (is_held s.fids)
  pub roomy : 256 ≤ s.msize
  pub below : s.msize < 2 ^ 32
