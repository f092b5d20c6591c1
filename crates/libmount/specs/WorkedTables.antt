-- Tables at which mounting and unmounting are computed.
use Rattle.std.specs.Prelude.{ℕ, List, [], ◌∷◌, ◌++◌, true, Some, Result, Ok, Err, codes}
use Rattle.std.specs.Fmt.{decimal}
use Rattle.libmount.specs.MountTables.{MountCall, MountTable, first_table, mount, print_table}

-- the table that a step leaves, or its refusal
abbrev pub printed : Result MountTable ℕ → List ℕ
printed (Ok table) = print_table table
printed (Err errno) = codes "errno " ++ decimal errno

abbrev pub then_step : Result MountTable ℕ → (MountTable → Result MountTable ℕ)
    → Result MountTable ℕ
then_step (Ok table) step = step table
then_step (Err errno) step = Err errno

abbrev pub places : MountTable
places =
    record (first_table true) {
      present = codes "/" ∷ codes "/a" ∷ codes "/a/x" ∷ codes "/b c"
          ∷ [];
    }

abbrev pub call : ℕ → List ℕ → List ℕ → MountCall
call flags source target =
    record {
      source = Some source;
      target = target;
      fstype = Some (codes "tmpfs");
      flags =
          flags;
      options = Some (codes "size=1");
    }

-- a file system at `/a`, and one below it
abbrev pub two_mounts : Result MountTable ℕ
two_mounts = then_step (mount (call 6 (codes "t") (codes "/a")) places)
    (mount (call 0 (codes "u") (codes "/a/x")))

-- the lines of the first of them, of both, and of both after a bind with all below it, a move and a
-- change of flags
abbrev pub lines_of_first : List ℕ
lines_of_first = codes "1 1 0:1 / / rw - rootfs rootfs rw\n"
    ++ codes "2 1 0:2 / /a rw,nosuid,nodev - tmpfs t rw,size=1\n"

abbrev pub lines_of_mounts : List ℕ
lines_of_mounts = lines_of_first ++ codes "3 2 0:3 / /a/x rw - tmpfs u rw,size=1\n"

abbrev pub lines_of_bind : List ℕ
lines_of_bind = lines_of_mounts
    ++ (codes "4 1 0:2 / /b\\040c rw,nosuid,nodev - tmpfs t rw,size=1\n"
    ++ codes "5 4 0:3 / /b\\040c/x rw - tmpfs u rw,size=1\n")

abbrev pub lines_of_move : List ℕ
lines_of_move = codes "1 1 0:1 / / rw - rootfs rootfs rw\n"
    ++ (codes "2 1 0:2 / /b\\040c rw,nosuid,nodev - tmpfs t rw,size=1\n"
    ++ codes "3 2 0:3 / /b\\040c/x rw - tmpfs u rw,size=1\n")

abbrev pub lines_of_change : List ℕ
lines_of_change = codes "1 1 0:1 / / rw - rootfs rootfs rw\n"
    ++ (codes "2 1 0:2 / /a ro,noexec - tmpfs t rw,size=1\n"
    ++ codes "3 2 0:3 / /a/x rw - tmpfs u rw,size=1\n")
