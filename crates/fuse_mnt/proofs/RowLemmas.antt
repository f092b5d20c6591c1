-- Rows as text.
use Rattle.std.proofs.Common.{◌≡◌, ℕ, List, ◌++◌, append_assoc, refl}
use Rattle.std.specs.Prelude.{codes}
use Rattle.std.specs.Int.RustNames.{bit_and}
use Rattle.std.proofs.lemmas.List.{append-nil}
use Rattle.std.proofs.lemmas.Nat.{and_assoc}
use Rattle.port_base.specs.Escapes.{escaped}
use Rattle.port_base.specs.Flags.{known_flags}
use Rattle.libmount.specs.MountOptions.{option_names, shown_flags}
use Rattle.libmount.specs.MountTables.{Mount, print_row, spaced_field}
use Rattle.fuse_mnt.specs.Tables.{row_numbers}

pub shown_known : (bits : ℕ) → bit_and (bit_and bits 18877663) known_flags ≡ bit_and bits
    shown_flags
shown_known bits = and_assoc known_flags bits 18877663

-- what was pushed is the row
pub text_whole : (row : Mount) (start a b c d e f g h options : List ℕ) →
    a ≡ start ++ row_numbers row → b ≡ a ++ spaced_field row.root
    → c ≡ b ++ spaced_field row.point → options ≡ option_names row.flags
    → d ≡ c ++ spaced_field options → e ≡ d ++ codes "- " → f ≡ e ++ spaced_field row.fstype
    → g ≡ f ++ spaced_field row.source → h ≡ g ++ escaped row.super_options
    → h ≡ start ++ print_row row
unfolding print_row
text_whole row start a b c d e f g h options pa pb pc po pd pe pf pg ph =
    rw (ph, pg, pf, pe, pd, po, pc, pb, pa) (simp (append_assoc, append-nil) refl)
