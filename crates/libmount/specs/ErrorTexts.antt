-- What errors print.
use Rattle.std.specs.Prelude.{ℕ, List, [], ◌∷◌, ◌++◌, codes}
use Rattle.std.specs.Fmt.{decimal}
use Rattle.libmount.specs.declared.mountinfo.errors.ParseError.{ParseError}
use Rattle.libmount.specs.declared.mountinfo.errors.ParseError.TheVariants.{Row, NoMemory}
use Rattle.port_base.specs.Quoting.{quoted}
use Rattle.libmount.specs.declared.errors.IoCause.{IoCause}
use Rattle.libmount.specs.declared.errors.IoCause.TheVariants.{CurrentDir, MountInfo}
use Rattle.libmount.specs.declared.errors.RemountError.{RemountError}
use Rattle.libmount.specs.declared.errors.RemountError.TheVariants.{Io, ParseMountInfo}
use Rattle.libmount.specs.declared.errors.RemountError.TheVariants.{UnknownMountPoint}
use Rattle.libmount.specs.declared.errors.RemountError.TheVariants.{NoMemory as NoRemountMemory}
use Rattle.libmount.specs.declared.path_list.PathError.{PathError}
use Rattle.libmount.specs.declared.path_list.PathError.TheVariants.{NulInPath}
use Rattle.libmount.specs.declared.path_list.PathError.TheVariants.{NoMemory as NoPathMemory}
use Rattle.libmount.specs.Texts.{shown}

-- the message and the row on two lines
abbrev pub parse_error_text : ParseError → List ℕ
parse_error_text (Row e) = codes "Parse error at line "
    ++ (decimal e.row_num
    ++ (codes ": " ++ (shown e.message.items ++ (10 ∷ [] ++ shown e.row.items))))
parse_error_text NoMemory = codes "out of memory"

-- what was not read
abbrev pub cause_text : IoCause → List ℕ
cause_text CurrentDir = []
cause_text MountInfo = codes "Cannot read file: \"/proc/self/mountinfo\""

abbrev pub remount_error_text : RemountError → List ℕ
remount_error_text (ParseMountInfo message) = shown message.items
remount_error_text (Io cause) = cause_text cause ++ codes ": errno 5"
remount_error_text (UnknownMountPoint path) = codes "Cannot find mount point: " ++ quoted path.items
remount_error_text NoRemountMemory = codes "no memory"

abbrev pub path_error_text : PathError → List ℕ
path_error_text NulInPath = codes "a path has a zero byte"
path_error_text NoPathMemory = codes "no memory"
