-- Requests beyond the core ones that name entries: a directory is made, a file gets one more name, an
-- empty directory's name goes, a name moves, and symbolic links and special files are refused.
use Rattle.std.specs.Prelude.{ℕ, List, [], ◌∷◌, length, not, ◌||◌, ◌==◌, nat_lt, Option, Some, None}
use Rattle.std.specs.Prelude.{Result, Ok, Err, if◌then◌else◌}
use Rattle.std.specs.List.{list_any}
use Rattle.std.specs.Str.{is_utf8}
use Rattle.port_base.specs.Names.{name_fault}
use Rattle.port_base.specs.declared.errno.TheConstants.{EINVAL, ENAMETOOLONG, ENFILE, ENOENT}
use Rattle.port_base.specs.declared.errno.TheConstants.{ESTALE}
use Rattle.tree_model.specs.declared.attributes.Attr.{Attr}
use Rattle.tree_model.specs.Creating.{link_of}
use Rattle.tree_model.specs.Settings.{Settings}
use Rattle.tree_model.specs.Tree.{Tree}
use Rattle.tree_model.specs.Unlinking.{rmdir_of}
use Rattle.tree_model.specs.Renaming.{rename_of}
use Rattle.fuse_wire.specs.Layouts.{is_zero}
use Rattle.tree_machine.specs.declared.limits.TheConstants.{TARGET_LIMIT}
use Rattle.tree_machine.specs.State.{MachineState, Node, is_named, is_at_limit}
use Rattle.tree_machine.specs.Replies.{Reply}
use Rattle.tree_machine.specs.Replies.Reply.{Refused}
use Rattle.tree_machine.specs.Refusals.{refused_if, refused_unknown, first_refusal}
use Rattle.tree_machine.specs.Core.{looked_up}

-- ---- MKDIR and LINK

-- a new directory is entered as LOOKUP enters it
abbrev pub made : Settings → MachineState → Result (Attr × Tree) ℕ → Reply × MachineState
made s m (Ok (a, t)) = looked_up s (record m { tree = t }) (Ok a.ino)
made s m (Err e) = (Refused e, m)

-- the old node, and then what LOOKUP refuses
abbrev pub link_refusal : Settings → MachineState → List ℕ → Option Node → Option Node → Option ℕ
link_refusal s m name old node = first_refusal (
    refused_unknown old ESTALE
    ∷ refused_unknown node ESTALE
    ∷ name_fault name
    ∷ refused_if (is_at_limit s m) ENFILE
    ∷ [])

abbrev pub link_told : MachineState → ℕ → ℕ → List ℕ → Result (Unit {0} × Tree) ℕ
link_told m ino dir name = link_of m.tree ino dir name

-- the old node counts one more
abbrev pub linked : Settings → MachineState → ℕ → Result (Unit {0} × Tree) ℕ
    → Reply × MachineState
linked s m ino (Ok (u, t)) = looked_up s (record m { tree = t }) (Ok ino)
linked s m ino (Err e) = (Refused e, m)

-- ---- RMDIR

-- a directory that a node or a handle names stays
abbrev pub rmdir_told : MachineState → ℕ → List ℕ → Result (Unit {0} × Tree) ℕ
rmdir_told m dir name = rmdir_of (is_named m.nodes m.handles) m.tree dir name

-- ---- RENAME and RENAME2

-- both directories, and then both names
abbrev pub rename_refusal : List ℕ → List ℕ → Option Node → Option Node → Option ℕ
rename_refusal old new node newdir = first_refusal (
    refused_unknown node ESTALE
    ∷ refused_unknown newdir ESTALE
    ∷ name_fault old
    ∷ name_fault new
    ∷ [])

-- RENAME2 takes no flags
abbrev pub rename2_refusal : ℕ → List ℕ → List ℕ → Option Node → Option Node → Option ℕ
rename2_refusal flags old new node newdir = first_refusal (
    refused_if (not (flags == 0)) EINVAL
    ∷ rename_refusal old new node newdir
    ∷ [])

-- what is replaced stays where a node or a handle names it
abbrev pub rename_told : MachineState → ℕ → List ℕ → ℕ → List ℕ → Result (Unit {0} × Tree) ℕ
rename_told m olddir old newdir new =
    rename_of (is_named m.nodes m.handles) m.tree olddir old newdir new

-- ---- SYMLINK

-- the first fault of a link's target: it is empty, it is too long, or it is no text
abbrev pub target_fault : List ℕ → Option ℕ
target_fault target =
    if length target == 0 then Some ENOENT else
    if nat_lt TARGET_LIMIT (length target) then Some ENAMETOOLONG else
    if list_any is_zero target || not (is_utf8 target) then Some EINVAL else None

abbrev pub symlink_refusal : List ℕ → List ℕ → Option Node → Option ℕ
symlink_refusal name target node = first_refusal (
    refused_unknown node ESTALE
    ∷ name_fault name
    ∷ target_fault target
    ∷ [])
