-- What a message leaves of the tree that wasn't carried out whole.
use Rattle.std.specs.Prelude.{◌≡◌, ◌⊎◌, Bool, true, false}
use Rattle.std.specs.FinMap as map
use Rattle.tree_model.specs.Tree.{Tree}
use Rattle.p9_tmsg.specs.Messages.{Message}
use Rattle.p9_tmsg.specs.Messages.Message.{lcreate, link, lopen, mkdir, renameat, setattr}
use Rattle.p9_tmsg.specs.Messages.Message.{unlinkat, write}
use Rattle.fid_model.specs.Fids.{ServerState}
use Rattle.fid_model.specs.Answers.{answer}
use Rattle.tree_model.specs.AttributeSteps.{IsAfterFront}
use Rattle.fid_model.specs.Setattr.{changes, steps_at}

-- the messages that may change the tree
abbrev pub changes_tree : Message → Bool
changes_tree (lopen fid flags) = true
changes_tree (lcreate fid name flags mode gid) = true
changes_tree (setattr fid valid mode uid gid size atime_sec atime_nsec mtime_sec mtime_nsec) = true
changes_tree (link dfid fid name) = true
changes_tree (mkdir dfid name mode gid) = true
changes_tree (renameat olddirfid oldname newdirfid newname) = true
changes_tree (unlinkat dirfd name flags) = true
changes_tree (write fid offset payload) = true
changes_tree _ = false

-- the tree as it was, and of a Tsetattr also that after a front part of its steps
abbrev pub IsFrontDone : ServerState → Message → Tree → Type 0
IsFrontDone s (setattr fid valid mode uid gid size atime_sec atime_nsec mtime_sec mtime_nsec) t =
    IsAfterFront
    (steps_at (changes valid mode uid gid size atime_sec atime_nsec mtime_sec mtime_nsec)
    (map.get s.fids fid)) s.tree t
IsFrontDone s _ t = t ≡ s.tree

-- the tree before a message or after it
abbrev pub IsBeforeOrAfter : ServerState → Message → Tree → Type 0
IsBeforeOrAfter s m t = (t ≡ s.tree) ⊎ (t ≡ (answer s m).1.tree)

-- the same, and of another message that changes the tree also that after it
abbrev pub IsPartDone : ServerState → Message → Tree → Type 0
IsPartDone s (lopen fid flags) t = IsBeforeOrAfter s (lopen fid flags) t
IsPartDone s (lcreate fid name flags mode gid) t =
    IsBeforeOrAfter s (lcreate fid name flags mode gid) t
IsPartDone s (link dfid fid name) t = IsBeforeOrAfter s (link dfid fid name) t
IsPartDone s (mkdir dfid name mode gid) t = IsBeforeOrAfter s (mkdir dfid name mode gid) t
IsPartDone s (renameat olddirfid oldname newdirfid newname) t =
    IsBeforeOrAfter s (renameat olddirfid oldname newdirfid newname) t
IsPartDone s (unlinkat dirfd name flags) t = IsBeforeOrAfter s (unlinkat dirfd name flags) t
IsPartDone s (write fid offset payload) t = IsBeforeOrAfter s (write fid offset payload) t
IsPartDone s m t = IsFrontDone s m t
