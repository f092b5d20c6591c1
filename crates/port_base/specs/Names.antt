-- The rules that names of files keep.
use Rattle.std.specs.Prelude.{ℕ, List, length, Bool, ◌||◌, not, ◌==◌, nat_lt, if◌then◌else◌}
use Rattle.std.specs.Prelude.{Option, Some, None, bytes_eq, codes}
use Rattle.std.specs.List.{list_any}
use Rattle.std.specs.Str.{is_utf8}
use Rattle.port_base.specs.declared.errno.TheConstants.{ENOENT, ENAMETOOLONG, EINVAL}

-- a dot, or two
abbrev pub is_dots : List ℕ → Bool
is_dots name = bytes_eq name (codes ".") || bytes_eq name (codes "..")

-- a slash, or a zero byte
abbrev pub is_separator : ℕ → Bool
is_separator byte = (byte == 47) || (byte == 0)

-- a name that no directory entry can have
abbrev pub is_misspelled : List ℕ → Bool
is_misspelled name = list_any is_separator name || is_dots name || not (is_utf8 name)

-- the first fault of a name, as its error number
abbrev pub name_fault : List ℕ → Option ℕ
name_fault name =
    if length name == 0 then Some ENOENT else
    if nat_lt 255 (length name) then Some ENAMETOOLONG else
    if is_misspelled name then Some EINVAL else None
