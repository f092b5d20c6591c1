-- Entries of the small server's directory that are made, linked, moved and taken away.
use Rattle.std.proofs.Common.{◌≡◌, ℕ, zero, suc, ◌<◌, lit<, cond, not, List, [], ◌∷◌, ap, ◌∙◌}
use Rattle.std.proofs.Common.{Option, Some, None, Result}
use Rattle.std.specs.Prelude.{codes, slice_index, Bool}
use Rattle.std.proofs.lemmas.Str.{IsUtf8-from_ascii, is_utf8-from_IsUtf8}
use Rattle.std.specs.FinMap.{get}
use Rattle.port_base.specs.Names.{name_fault}
use Rattle.port_base.specs.declared.errno.TheConstants.{EBADF, EEXIST, EINVAL, ENOENT, ENOTDIR}
use Rattle.port_base.specs.declared.errno.TheConstants.{EPERM}
use Rattle.port_base.proofs.ByComputing.{name_word}
use Rattle.tree_model.specs.declared.attributes.Attr.{Attr}
use Rattle.tree_model.specs.Tree.{Tree, keep}
use Rattle.tree_model.specs.Samples.{born, hello, sample}
use Rattle.tree_model.specs.Attributes.{attr_of, qid_of}
use Rattle.tree_model.specs.Creating.{empty_directory, link_of, mkdir_of, with_name, with_new}
use Rattle.tree_model.specs.Unlinking.{without_entry}
use Rattle.tree_model.specs.Renaming.{rename_of, with_moved}
use Rattle.tree_model.proofs.Sampling.{made_in_top, link_in_top, top_not_linked, file_moves}
use Rattle.tree_model.proofs.Sampling.{file_stays, file_gone, file_not_removed as stays_in_top}
use Rattle.p9_tmsg.specs.Messages.Message.{link, mkdir, renameat, unlinkat}
use Rattle.p9_rmsg.specs.Replies.{Reply}
use Rattle.p9_rmsg.specs.Replies.Reply.{lerror, link as linked, mkdir as made, renameat as moved}
use Rattle.p9_rmsg.specs.Replies.Reply.{unlinkat as unlinked}
use Rattle.fid_model.specs.Fids.{Fid, ServerState, closed, is_held}
use Rattle.fid_model.specs.TreeCalls.{at_fid, tree_answer, unless_fault, unless_some}
use Rattle.fid_model.specs.Directories.{removed_by}
use Rattle.fid_model.specs.Answers.{core}
use Rattle.fid_model.specs.Samples.{server, with_open}
use Rattle.fid_model.proofs.Sampling.{seven, nine, eight_open, seven_with_open, opened_file}

-- ---- names

small : (i : ℕ) → slice_index (98 ∷ []) i < 128
small zero = lit< tt
small (suc i) = lit< tt

name_b : name_fault (codes "b") ≡ None
name_b = ap (λ (b : Bool). cond {A = Option ℕ} (not b) (Some EINVAL) None)
    (is_utf8-from_IsUtf8 (codes "b") (IsUtf8-from_ascii (codes "b") small))

-- ---- fids and names that are there, or aren't

module _ {A : Type 0} (s : ServerState) (reply : A → Reply) where
  by_fid : (fid : ℕ) (f : Fid) → get s.fids fid ≡ Some f → (told : ℕ → Result (A × Tree) ℕ)
      → tree_answer s reply (at_fid (get s.fids fid) told) ≡ tree_answer s reply (told f.ino)
  by_fid fid f there told = ap (λ o. tree_answer s reply (at_fid o told)) there

  by_none : (fid : ℕ) → get s.fids fid ≡ None → (told : ℕ → Result (A × Tree) ℕ)
      → tree_answer s reply (at_fid (get s.fids fid) told) ≡ (lerror EBADF, s)
  by_none fid gone told = ap (λ o. tree_answer s reply (at_fid o told)) gone

  by_name : (name : List ℕ) → name_fault name ≡ None → (told : Result (A × Tree) ℕ)
      → tree_answer s reply (unless_fault name told) ≡ tree_answer s reply told
  by_name name good told = ap (λ (o : Option ℕ). tree_answer s reply (unless_some o told)) good

-- ---- directories that are made

abbrev makes : Attr → Reply
makes a = made (qid_of a)

abbrev mkdir_in : List ℕ → ℕ → Result (Attr × Tree) ℕ
mkdir_in name dir = unless_fault name (mkdir_of sample dir name 493)

made_at : (name : List ℕ) → name_fault name ≡ None
    → core server (mkdir 7 name 493 0) ≡ tree_answer server makes (mkdir_of sample 1 name 493)
made_at name good = by_fid server makes 7 (closed 1) seven (mkdir_in name)
    ∙ by_name server makes name good (mkdir_of sample 1 name 493)

abbrev new_directory : Attr
new_directory = attr_of 3 (empty_directory born 493 1)

pub directory_made : core server (mkdir 7 (codes "b") 493 0)
    ≡ (
      made (128, (7, 3)),
      record server {
        tree =
            with_new sample 1 (codes "b") (empty_directory born 493 1);
      },
    )
directory_made = made_at (codes "b") name_b ∙ ap (tree_answer server makes)
    (made_in_top new_directory (codes "b") (with_new sample 1 (codes "b")
    (empty_directory born 493 1)))

pub directory_there : core server (mkdir 7 hello 493 0) ≡ (lerror EEXIST, server)
directory_there = made_at hello name_word ∙ ap (tree_answer server makes)
    (made_in_top new_directory hello (with_new sample 1 hello (empty_directory born 493 1)))

pub directory_above : core server (mkdir 7 (codes "..") 493 0) ≡ (lerror EINVAL, server)
directory_above = by_fid server makes 7 (closed 1) seven (mkdir_in (codes ".."))

pub made_nowhere : core server (mkdir 9 (codes "..") 493 0) ≡ (lerror EBADF, server)
made_nowhere = by_none server makes 9 nine (mkdir_in (codes ".."))

-- ---- names more

abbrev links : Unit {0} → Reply
links u = linked

abbrev link_in : ServerState → List ℕ → ℕ → ℕ → Result (Unit {0} × Tree) ℕ
link_in s name ino dir = unless_fault name (link_of s.tree ino dir name)

abbrev link_by : ServerState → List ℕ → ℕ → ℕ → Result (Unit {0} × Tree) ℕ
link_by s name dfid ino = at_fid (get s.fids dfid) (link_in s name ino)

pub file_linked : core with_open (link 7 8 (codes "b"))
    ≡ (linked, record with_open { tree = with_name sample 1 (codes "b") 2 })
file_linked =
    by_fid with_open links 8 opened_file eight_open (link_by with_open (codes "b") 7)
    ∙ by_fid with_open links 7 (closed 1) seven_with_open (link_in with_open (codes "b") 2)
    ∙ by_name with_open links (codes "b") name_b (link_of sample 2 1 (codes "b"))
    ∙ ap (tree_answer with_open links) (link_in_top (codes "b"))

directory_by : (name : List ℕ) → core server (link 7 7 name) ≡ tree_answer server links
    (link_in server name 1 1)
directory_by name = by_fid server links 7 (closed 1) seven (link_by server name 7)
    ∙ by_fid server links 7 (closed 1) seven (link_in server name 1)

pub directory_not_linked : core server (link 7 7 (codes "b")) ≡ (lerror EPERM, server)
directory_not_linked = directory_by (codes "b")
    ∙ by_name server links (codes "b") name_b (link_of sample 1 1 (codes "b"))
    ∙ ap (tree_answer server links) (top_not_linked (codes "b"))

pub linked_above : core server (link 7 7 (codes "..")) ≡ (lerror EINVAL, server)
linked_above = directory_by (codes "..")

pub none_linked : core server (link 7 9 (codes "..")) ≡ (lerror EBADF, server)
none_linked = by_none server links 9 nine (link_by server (codes "..") 7)

pub linked_nowhere : core server (link 9 7 (codes "..")) ≡ (lerror EBADF, server)
linked_nowhere = by_fid server links 7 (closed 1) seven (link_by server (codes "..") 9)
    ∙ by_none server links 9 nine (link_in server (codes "..") 1)

-- ---- names that move

abbrev moves : Unit {0} → Reply
moves u = moved

abbrev held : ℕ → Bool
held = is_held server.fids

abbrev move_in : List ℕ → List ℕ → ℕ → ℕ → Result (Unit {0} × Tree) ℕ
move_in oldname newname olddir newdir = unless_fault oldname
    (unless_fault newname (rename_of held sample olddir oldname newdir newname))

abbrev move_by : List ℕ → ℕ → List ℕ → ℕ → Result (Unit {0} × Tree) ℕ
move_by oldname newfid newname olddir = at_fid (get server.fids newfid)
    (move_in oldname newname olddir)

moved_by : (oldname newname : List ℕ) → core server (renameat 7 oldname 7 newname) ≡ tree_answer
    server moves (move_in oldname newname 1 1)
moved_by oldname newname = by_fid server moves 7 (closed 1) seven (move_by oldname 7 newname)
    ∙ by_fid server moves 7 (closed 1) seven (move_in oldname newname 1)

moved_hello : (newname : List ℕ) → core server (renameat 7 hello 7 newname) ≡ tree_answer server
    moves (unless_fault newname (rename_of held sample 1 hello 1 newname))
moved_hello newname = moved_by hello newname ∙ by_name server moves hello name_word
    (unless_fault newname (rename_of held sample 1 hello 1 newname))

pub name_moved : core server (renameat 7 hello 7 (codes "b"))
    ≡ (moved, record server { tree = keep held (with_moved sample 1 hello 1 (codes "b") 2) })
name_moved = moved_hello (codes "b") ∙ by_name server moves (codes "b") name_b
    (rename_of held sample 1 hello 1 (codes "b")) ∙ ap (tree_answer server moves) (file_moves held)

pub name_kept : core server (renameat 7 hello 7 hello) ≡ (moved, server)
name_kept = moved_hello hello ∙ by_name server moves hello name_word
    (rename_of held sample 1 hello 1 hello) ∙ ap (tree_answer server moves) (file_stays held)

pub empty_not_moved : core server (renameat 7 [] 7 (codes "..")) ≡ (lerror ENOENT, server)
empty_not_moved = moved_by [] (codes "..")

pub not_moved_above : core server (renameat 7 hello 7 (codes "..")) ≡ (lerror EINVAL, server)
not_moved_above = moved_hello (codes "..")

pub moved_from_nowhere : core server (renameat 9 [] 7 hello) ≡ (lerror EBADF, server)
moved_from_nowhere = by_none server moves 9 nine (move_by [] 7 hello)

pub moved_to_nowhere : core server (renameat 7 [] 9 hello) ≡ (lerror EBADF, server)
moved_to_nowhere = by_fid server moves 7 (closed 1) seven (move_by [] 9 hello)
    ∙ by_none server moves 9 nine (move_in [] hello 1)

-- ---- names that go

abbrev unlinks : Unit {0} → Reply
unlinks u = unlinked

abbrev removed_in : List ℕ → ℕ → ℕ → Result (Unit {0} × Tree) ℕ
removed_in name flags dir = unless_fault name (removed_by flags held sample dir name)

hello_by : (flags : ℕ) → core server (unlinkat 7 hello flags) ≡ tree_answer server unlinks
    (removed_by flags held sample 1 hello)
hello_by flags = by_fid server unlinks 7 (closed 1) seven (removed_in hello flags)
    ∙ by_name server unlinks hello name_word (removed_by flags held sample 1 hello)

pub file_unlinked : core server (unlinkat 7 hello 0)
    ≡ (unlinked, record server { tree = keep held (without_entry sample 1 hello 2) })
file_unlinked = hello_by 0 ∙ ap (tree_answer server unlinks) (file_gone held)

pub file_not_removed : core server (unlinkat 7 hello 512) ≡ (lerror ENOTDIR, server)
file_not_removed = hello_by 512 ∙ ap (tree_answer server unlinks) (stays_in_top held)

pub other_flags : core server (unlinkat 7 hello 1) ≡ (lerror EINVAL, server)
other_flags = hello_by 1

pub none_unlinked : core server (unlinkat 7 [] 1) ≡ (lerror ENOENT, server)
none_unlinked = by_fid server unlinks 7 (closed 1) seven (removed_in [] 1)

pub unlinked_nowhere : core server (unlinkat 9 [] 1) ≡ (lerror EBADF, server)
unlinked_nowhere = by_none server unlinks 9 nine (removed_in [] 1)
