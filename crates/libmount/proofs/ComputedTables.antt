-- The table of mounts at examples.
use Rattle.std.proofs.Common.{◌≡◌, refl}
use Rattle.std.specs.Prelude.{codes}
use Rattle.std.specs.Fmt.{digits}
use Rattle.port_base.specs.Escapes.{escaped}
use Rattle.port_base.specs.Paths.{components, names, path_starts_with, same_path}
use Rattle.libmount.specs.MountOptions.{option_names}
use Rattle.libmount.specs.MountTables.{cover, mount, print_row, print_table, umount}
use Rattle.libmount.specs.WorkedTables.{call, lines_of_bind, lines_of_change, lines_of_first}
use Rattle.libmount.specs.WorkedTables.{lines_of_mounts, lines_of_move, places, printed, then_step}
use Rattle.libmount.specs.WorkedTables.{two_mounts}

pub mounted : printed two_mounts ≡ lines_of_mounts
unfolding mount umount cover print_row print_table option_names escaped components names
    path_starts_with same_path digits
mounted = refl

pub not_there : printed (mount (call 0 (codes "t") (codes "/d")) places) ≡ codes "errno 2"
unfolding mount umount cover print_row print_table option_names escaped components names
    path_starts_with same_path digits
not_there = refl

pub busy : printed (then_step two_mounts (umount (codes "/a"))) ≡ codes "errno 16"
unfolding mount umount cover print_row print_table option_names escaped components names
    path_starts_with same_path digits
busy = refl

pub unmounted : printed (then_step two_mounts (umount (codes "/a/x/"))) ≡ lines_of_first
unfolding mount umount cover print_row print_table option_names escaped components names
    path_starts_with same_path digits
unmounted = refl

pub bound_with_all : printed (then_step two_mounts (mount (call 20480 (codes "/a") (codes "/b c"))))
    ≡ lines_of_bind
unfolding mount umount cover print_row print_table option_names escaped components names
    path_starts_with same_path digits
bound_with_all = refl

pub moved : printed (then_step two_mounts (mount (call 8192 (codes "/a") (codes "/b c"))))
    ≡ lines_of_move
unfolding mount umount cover print_row print_table option_names escaped components names
    path_starts_with same_path digits
moved = refl

pub changed : printed (then_step two_mounts (mount (call 41 (codes "none") (codes "/a"))))
    ≡ lines_of_change
unfolding mount umount cover print_row print_table option_names escaped components names
    path_starts_with same_path digits
changed = refl
