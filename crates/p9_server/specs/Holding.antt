-- The holds of a host that a server keeps: one of an inode for each fid that names it.
use Rattle.std.specs.Prelude.{◌≡◌, ℕ, ◌+◌, ◌<◌, ◌≤◌, ◌^◌, cond, ◌==◌}
use Rattle.std.specs.FinMap as map
use Rattle.tree_model.specs.Settings.{Settings}
use Rattle.tree_host.specs.Holds.{Holds, hold_count}
use Rattle.fid_model.specs.Fids.{Fids, fid_count}

-- each inode is held once for each fid that names it
abbrev pub AreFids : Holds → Fids → Type 0
AreFids holds fids = (i : ℕ) → hold_count holds i ≡ fid_count fids i

-- what a server keeps between messages
pub record IsSound (holds : Holds) (fids : Fids) (msize : ℕ) (settings : Settings) : Type 0 where
  pub held : AreFids holds fids
  pub few : map.len fids ≤ settings.limit
  pub bounded : settings.limit < 2 ^ 32
  pub roomy : 256 ≤ msize
  pub below : msize < 2 ^ 32

-- one hold more of an inode
pub record IsMore (old new : Holds) (ino : ℕ) : Type 0 where
  pub counts : (i : ℕ) → hold_count new i ≡ hold_count old i + cond (ino == i) 1 0

-- the same holds
pub record IsSame (old new : Holds) : Type 0 where
  pub counts : (i : ℕ) → hold_count new i ≡ hold_count old i
