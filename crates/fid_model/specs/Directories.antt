-- Entries of directories that are made, linked, moved and taken away.
use Rattle.std.specs.Prelude.{ℕ, Bool, List, Result, Err, if◌then◌else◌, ◌==◌}
use Rattle.std.specs.FinMap as map
use Rattle.port_base.specs.declared.errno.TheConstants.{EINVAL}
use Rattle.tree_model.specs.declared.attributes.Attr.{Attr}
use Rattle.tree_model.specs.Tree.{Tree}
use Rattle.tree_model.specs.Creating.{mkdir_of, link_of}
use Rattle.tree_model.specs.Unlinking.{unlink_of, rmdir_of}
use Rattle.tree_model.specs.Renaming.{rename_of}
use Rattle.fid_model.specs.declared.unlinkat.TheConstants.{P9_AT_REMOVEDIR}
use Rattle.fid_model.specs.Fids.{ServerState, is_held}
use Rattle.fid_model.specs.TreeCalls.{at_fid, unless_fault}

-- a new directory in that of a fid, and what is told of it
abbrev pub mkdir_told : ServerState → ℕ → List ℕ → ℕ → Result (Attr × Tree) ℕ
mkdir_told s dfid name mode =
    at_fid (map.get s.fids dfid) (λ dir. unless_fault name (mkdir_of s.tree dir name mode))

-- one more name of the file of a fid, in the directory of another
abbrev pub link_told : ServerState → ℕ → ℕ → List ℕ → Result (Unit {0} × Tree) ℕ
link_told s dfid fid name =
    at_fid (map.get s.fids fid)
    (λ ino. at_fid (map.get s.fids dfid) (λ dir. unless_fault name (link_of s.tree ino dir name)))

-- a name that moves from the directory of a fid to that of another
abbrev pub renameat_told : ServerState → ℕ → List ℕ → ℕ → List ℕ → Result (Unit {0} × Tree) ℕ
renameat_told s olddirfid oldname newdirfid newname =
    at_fid (map.get s.fids olddirfid) (λ olddir. at_fid (map.get s.fids newdirfid) (λ newdir.
    unless_fault oldname
    (unless_fault newname (rename_of (is_held s.fids) s.tree olddir oldname newdir newname))))

-- the flags tell what a name has to name: 0 no directory, 0x200 a directory; no others are taken
abbrev pub removed_by : ℕ → (ℕ → Bool) → Tree → ℕ → List ℕ → Result (Unit {0} × Tree) ℕ
removed_by flags held t dir name =
    if flags == 0 then unlink_of held t dir name else
    if flags == P9_AT_REMOVEDIR then rmdir_of held t dir name else Err EINVAL

-- a name that goes from the directory of a fid
abbrev pub unlinkat_told : ServerState → ℕ → List ℕ → ℕ → Result (Unit {0} × Tree) ℕ
unlinkat_told s dirfd name flags =
    at_fid (map.get s.fids dirfd)
    (λ dir. unless_fault name (removed_by flags (is_held s.fids) s.tree dir name))
