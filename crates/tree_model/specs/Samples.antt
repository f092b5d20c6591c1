-- A small tree, on which definitions are computed.
use Rattle.std.specs.Prelude.{ℕ, List, [], ◌∷◌, codes}
use Rattle.tree_model.specs.declared.attributes.Stamp.{Stamp}
use Rattle.tree_model.specs.declared.attributes.Limits.{Limits}
use Rattle.tree_model.specs.Tree.{Tree, DirEntry, TOP}
use Rattle.tree_model.specs.Making.{new_tree, NewFile, with_file}

abbrev pub born : Stamp
born = record { sec = 7; nsec = 3 }

abbrev pub limits : Limits
limits = record { file = 8; entries = 2; links = 10 }

-- the top directory alone, with mode 0755
abbrev pub alone : Tree
alone = new_tree limits born born 493 1 2

abbrev pub hello : List ℕ
hello = codes "hello"

abbrev pub world : NewFile
world = record { mode = 420; uid = 5; gid = 6; bytes = codes "world" }

-- the top directory with one file, `hello`, which is inode 2
abbrev pub sample : Tree
sample = with_file born alone TOP hello world

-- entries whose names differ in case alone
abbrev pub alike : List DirEntry
alike =
    record { cookie = 1; name = codes "README"; ino = 2 }
    ∷ record { cookie = 2; name = codes "readme"; ino = 3 } ∷ []
