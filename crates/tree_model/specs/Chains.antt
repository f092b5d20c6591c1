-- Chains of entries from one inode down to another.
use Rattle.std.specs.Prelude.{◌≡◌, ℕ, zero, suc, Contains}
use Rattle.tree_model.specs.Tree.{Records, Record, DirEntry, listed}
use Rattle.tree_model.specs.Good.{IsAt}

-- an entry of a directory names an inode
abbrev pub HasEntryFor : Records → ℕ → ℕ → Type 0
HasEntryFor rs dir ino =
    (r : Record) × (e : DirEntry) × IsAt rs dir r × Contains (listed r.body) e × (e.ino ≡ ino)

-- so many entries lead from one inode down to another, each from where the one before leads
abbrev pub Leads : Records → ℕ → ℕ → ℕ → Type 0
Leads rs zero from to = from ≡ to
Leads rs (suc n) from to = (mid : ℕ) × Leads rs n from mid × HasEntryFor rs mid to
