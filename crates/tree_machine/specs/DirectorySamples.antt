-- The first example with its directory open.
use Rattle.std.specs.Prelude.{ℕ, List, [], ◌∷◌, codes, false}
use Rattle.std.specs.FinMap.{insert}
use Rattle.tree_model.specs.Tree.{Record}
use Rattle.tree_model.specs.Making.{file_record}
use Rattle.tree_model.specs.Unlinking.{one_name_less}
use Rattle.tree_machine.specs.State.{MachineState}
use Rattle.tree_machine.specs.Samples.{tree, with_hello}

-- handle 3 is the root
abbrev pub with_root_open : MachineState
with_root_open =
    record with_hello {
      handles = insert with_hello.handles 3 (record { ino = 1; access = 0; append = false });
      next = 4;
    }

-- the entry of `hello`: inode 2, cookie 1, a name of 5 bytes of a regular file, and 3 zero bytes
abbrev pub hello_listed : List ℕ
hello_listed =
    2 ∷ 0 ∷ 0 ∷ 0 ∷ 0 ∷ 0 ∷ 0 ∷ 0 ∷ 1 ∷ 0 ∷ 0 ∷ 0 ∷ 0 ∷ 0 ∷ 0 ∷ 0 ∷ 5 ∷ 0 ∷ 0 ∷ 0 ∷ 8 ∷ 0 ∷ 0 ∷ 0
    ∷ 104 ∷ 101 ∷ 108 ∷ 108 ∷ 111 ∷ 0 ∷ 0 ∷ 0 ∷ []

-- the file when its one name went
abbrev pub hello_without_name : Record
hello_without_name = one_name_less tree.moment (file_record (record { sec = 1600000000; nsec = 0 })
    (record { mode = 420; uid = 1000; gid = 1000; bytes = codes "hello\n" }))
