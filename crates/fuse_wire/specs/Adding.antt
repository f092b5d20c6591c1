-- How a listing fills.
use Rattle.std.specs.Prelude.{◌≡◌, ℕ, ◌+◌, ◌<◌, ◌≤◌, List, ◌++◌, length, Bool, true, false}
use Rattle.fuse_wire.specs.declared.listing.ReplyDirectory.{ReplyDirectory}

-- an entry that has no room in so many bytes changes nothing; one that has it stands behind those
-- before
abbrev pub Adds : List ℕ → ℕ → ReplyDirectory → ReplyDirectory → Bool → Type 0
Adds entry end old new true =
    (end < length old.bytes.items + length entry) × (new ≡ old)
Adds entry end old new false =
    (length old.bytes.items + length entry ≤ end)
    × (new.bytes.items ≡ old.bytes.items ++ entry) × (new.size ≡ old.size)
