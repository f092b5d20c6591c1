-- The tree that is kept in memory, and how an entry of it is told.
use Rattle.std.specs.Prelude.{◌≡◌, ℕ, ◌+◌, Bool, List, [], ◌∷◌, ◌++◌, Option, Some, None}
use Rattle.std.specs.Prelude.{option_and_then}
use Rattle.std.specs.Borrow.{Bor}
use Rattle.tree_model.specs.declared.attributes.Stamp.{Stamp}
use Rattle.tree_model.specs.declared.attributes.Limits.{Limits}
use Rattle.tree_model.specs.Tree.{Tree, Record, Records, DirEntry, body_at, listed}
use Rattle.tree_model.specs.Finding.{entry_named}
use Rattle.tree_model.specs.Making.{change, with_entries, next_cookie}
use Rattle.tree_model.specs.Creating.{stamped}
use Rattle.tree_model.specs.Sound.{swept}
use Rattle.tree_model.specs.Unlinking.{without, parted_by, one_name_less}

abbrev pub tree_from : Records → ℕ → Limits → Stamp → Tree
tree_from records next limits moment =
    record { records = records; next = next; limits = limits; moment = moment }

-- an entry told by its cookie, inode and name
abbrev pub entry_from : ℕ × ℕ × Bor (List ℕ) → DirEntry
entry_from e = record { cookie = e.0; name = e.2.now; ino = e.1 }

-- no entry of a directory has a name
abbrev pub IsFree : Records → ℕ → List ℕ → Type 0
IsFree rs dir name = option_and_then (λ b. entry_named name (listed b)) (body_at rs dir) ≡ None

-- a directory with a new entry of a name, in the place of the one that has it
abbrev pub put_by : List ℕ → ℕ → Record → Record
put_by name ino r = record r {
  body = with_entries r.body (without name (listed r.body)
      ++ (record { cookie = next_cookie r.body; name = name; ino = ino } ∷ []))
      (next_cookie r.body + 1);
}

-- what is replaced has a name less, and its directory is stamped
abbrev pub displaced_in : Stamp → ℕ → Option ℕ → Records → Records
displaced_in moment dir None rs = rs
displaced_in moment dir (Some ino) rs =
    change (stamped moment) (change (one_name_less moment) rs ino) dir

-- the records without the entry of what is replaced, which has a name less
abbrev pub replaced_in : Stamp → ℕ → List ℕ → Option ℕ → Records → Records
replaced_in moment dir name None rs = rs
replaced_in moment dir name (Some ino) rs =
    change (parted_by name moment) (change (one_name_less moment) rs ino) dir

-- and without what was replaced, where it has no links and no hold
abbrev pub swept_of : (ℕ → Bool) → Option ℕ → Records → Records
swept_of held None rs = rs
swept_of held (Some ino) rs = swept held rs ino
