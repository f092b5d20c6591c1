-- No message but a Tversion changes the greatest size of a frame.
use Rattle.std.proofs.Common.{◌≡◌, ⊎_elim, ℕ, Bool, true, false, cond, List, [], ◌∷◌, Result, Ok}
use Rattle.std.proofs.Common.{Err, Some, None, refl, ap, ◌∙◌}
use Rattle.std.specs.declared.option.Option.{Option}
use Rattle.std.specs.FinMap as map
use Rattle.port_base.specs.declared.errno.TheConstants.{EBADF, EINVAL, ENFILE}
use Rattle.tree_model.specs.Tree.{Tree}
use Rattle.tree_model.specs.Attributes.{qid_of}
use Rattle.tree_model.specs.Finding.{root_of}
use Rattle.p9_tmsg.specs.Messages.{Message}
use Rattle.p9_tmsg.specs.Messages.Message.{attach as t_attach, clunk as t_clunk, fsync as t_fsync}
use Rattle.p9_tmsg.specs.Messages.Message.{getlock as t_getlock, link as t_link, lock as t_lock}
use Rattle.p9_tmsg.specs.Messages.Message.{lopen as t_lopen, mkdir as t_mkdir}
use Rattle.p9_tmsg.specs.Messages.Message.{readdir as t_readdir, readlink as t_readlink}
use Rattle.p9_tmsg.specs.Messages.Message.{renameat as t_renameat}
use Rattle.p9_tmsg.specs.Messages.Message.{statfs as t_statfs, unlinkat as t_unlinkat}
use Rattle.p9_tmsg.specs.Messages.Message.{version as t_version, walk as t_walk}
use Rattle.p9_tmsg.specs.Messages.Message.{lcreate as t_lcreate, setattr as t_setattr}
use Rattle.p9_tmsg.specs.Messages.Message.{write as t_write}
use Rattle.p9_rmsg.specs.Replies.{Reply}
use Rattle.p9_rmsg.specs.Replies.Reply.{fsync as r_fsync, getlock as r_getlock, lerror as r_lerror}
use Rattle.p9_rmsg.specs.Replies.Reply.{link as r_link, lock as r_lock, mkdir as r_mkdir}
use Rattle.p9_rmsg.specs.Replies.Reply.{readdir as r_readdir, readlink as r_readlink}
use Rattle.p9_rmsg.specs.Replies.Reply.{renameat as r_renameat}
use Rattle.p9_rmsg.specs.Replies.Reply.{unlinkat as r_unlinkat, write as r_write}
use Rattle.fid_model.specs.Fids.{ServerState, Fid, IsTreeAlone}
use Rattle.fid_model.specs.Answers.{Walked, answer, attached, walk_names, walk_answer, walk_from}
use Rattle.fid_model.specs.Answers.{lopen_answer, lopen_by, clunk_by, lcreate_answer, open_of}
use Rattle.fid_model.specs.Answers.{setattr_by}
use Rattle.fid_model.specs.FidCalls.{told_answer, by_fid}
use Rattle.fid_model.specs.TreeCalls.{tree_answer}
use Rattle.fid_model.specs.Directories.{mkdir_told, link_told, renameat_told, unlinkat_told}
use Rattle.fid_model.specs.Setattr.{Changes, changes}
use Rattle.fid_model.specs.Sessions.{lock_told, getlock_told}
use Rattle.fid_model.specs.Files.{statfs_reply, statfs_told, fsync_told, readlink_told, new_file_of}
use Rattle.fid_model.specs.Files.{write_told}
use Rattle.fid_model.specs.Listings.{readdir_told}
use Rattle.fid_model.specs.Handling.{Outcome}
use Rattle.fid_model.specs.Moments.{Moment, Keeps, Stays}
use Rattle.p9_client.specs.Asking.{IsBounded}

-- a refusal, or what else is answered
either_sized : (s : ServerState) (b : Bool) (refusal : ℕ) (x : Reply × ServerState)
    → x.1.msize ≡ s.msize → (cond b (r_lerror refusal, s) x).1.msize ≡ s.msize
either_sized s true refusal x same = refl
either_sized s false refusal x same = same

attached_sized : (s : ServerState) (fid : ℕ) (root : Result ℕ ℕ)
    → (attached s fid root).1.msize ≡ s.msize
attached_sized s fid (Ok i) = refl
attached_sized s fid (Err e) = refl

walked_sized : (s : ServerState) (newfid : ℕ) (w : Walked)
    → (walk_answer s newfid w).1.msize ≡ s.msize
walked_sized s newfid (qids, Ok i) = refl
walked_sized s newfid ([], Err e) = refl
walked_sized s newfid (q ∷ qids, Err e) = refl

walk_sized : (s : ServerState) (fid newfid : ℕ) (names : List (List ℕ)) (f : Option Fid)
    → (walk_from s fid newfid names f).1.msize ≡ s.msize
walk_sized s fid newfid names None = refl
walk_sized s fid newfid names (Some f) =
    either_sized s _ ENFILE _ (either_sized s _ EINVAL _
    (walked_sized s newfid (walk_names s.settings.casefold s.tree names f.ino)))

opened_sized : (s : ServerState) (fid flags : ℕ) (f : Fid) (told : Result (Unit {0} × Tree) ℕ)
    → (lopen_answer s fid flags f told).1.msize ≡ s.msize
opened_sized s fid flags f (Ok (u, t)) = refl
opened_sized s fid flags f (Err e) = refl

open_sized : (s : ServerState) (fid flags : ℕ) (f : Option Fid)
    → (lopen_by s fid flags f).1.msize ≡ s.msize
open_sized s fid flags None = refl
open_sized s fid flags (Some f) = opened_sized s fid flags f (open_of s.tree f.ino flags)

clunk_sized : (s : ServerState) (fid : ℕ) (f : Option Fid) → (clunk_by s fid f).1.msize ≡ s.msize
clunk_sized s fid None = refl
clunk_sized s fid (Some f) = refl

tree_sized : {A : Type 0} (s : ServerState) (reply : A → Reply) (r : Result (A × Tree) ℕ)
    → (tree_answer s reply r).1.msize ≡ s.msize
tree_sized s reply (Ok (a, t)) = refl
tree_sized s reply (Err e) = refl

create_sized : (s : ServerState) (fid flags : ℕ) (r : Result (ℕ × Tree) ℕ)
    → (lcreate_answer s fid flags r).1.msize ≡ s.msize
create_sized s fid flags (Ok (ino, t)) = refl
create_sized s fid flags (Err e) = refl

setattr_sized : (s : ServerState) (c : Changes) (f : Option Fid)
    → (setattr_by s c f).1.msize ≡ s.msize
setattr_sized s c None = refl
setattr_sized s c (Some f) = refl

told_sized : {A : Type 0} (s : ServerState) (reply : A → Reply) (r : Result A ℕ)
    → (told_answer s reply r).1.msize ≡ s.msize
told_sized s reply (Ok a) = refl
told_sized s reply (Err e) = refl

answer_sized : (s : ServerState) (m : Message) → IsBounded m → (answer s m).1.msize ≡ s.msize
answer_sized s (t_attach fid afid uname aname n_uname) b =
    either_sized s _ EBADF _ (either_sized s _ ENFILE _
    (attached_sized s fid (root_of s.tree s.settings.root)))
answer_sized s (t_walk fid newfid names) b = either_sized s _ EBADF _
    (walk_sized s fid newfid names (map.get s.fids fid))
answer_sized s (t_clunk fid) b = clunk_sized s fid (map.get s.fids fid)
answer_sized s (t_lopen fid flags) b = open_sized s fid flags (map.get s.fids fid)
answer_sized s (t_lcreate fid name flags mode gid) b =
    create_sized s fid flags (by_fid (λ f. new_file_of s.tree f.ino name flags mode)
    (map.get s.fids fid))
answer_sized s (t_write fid offset payload) b =
    tree_sized s r_write (write_told s fid offset payload)
answer_sized s (t_setattr fid valid mode uid gid size a an m mn) b =
    setattr_sized s (changes valid mode uid gid size a an m mn) (map.get s.fids fid)
answer_sized s (t_version msize protocol) b = absurd b
answer_sized s (t_lock fid kind_ flags start length_ proc_id client_id) b =
    told_sized {A = Unit {0}} s (λ _. r_lock 0) (lock_told s fid)
answer_sized s (t_getlock fid kind_ start length_ proc_id client_id) b =
    told_sized s (r_getlock 2 start length_ proc_id) (getlock_told s fid client_id)
answer_sized s (t_statfs fid) b = told_sized s statfs_reply (statfs_told s fid)
answer_sized s (t_fsync fid datasync) b = told_sized {A = Unit {0}} s (λ _. r_fsync)
    (fsync_told s fid)
answer_sized s (t_readlink fid) b = told_sized s r_readlink (readlink_told s fid)
answer_sized s (t_mkdir dfid name mode gid) b =
    tree_sized s (λ a. r_mkdir (qid_of a)) (mkdir_told s dfid name mode)
answer_sized s (t_link dfid fid name) b = tree_sized {A = Unit {0}} s (λ _. r_link)
    (link_told s dfid fid name)
answer_sized s (t_renameat olddirfid oldname newdirfid newname) b =
    tree_sized {A = Unit {0}} s (λ _. r_renameat)
    (renameat_told s olddirfid oldname newdirfid newname)
answer_sized s (t_unlinkat dirfd name flags) b =
    tree_sized {A = Unit {0}} s (λ _. r_unlinkat) (unlinkat_told s dirfd name flags)
answer_sized s (t_readdir fid offset count) b =
    told_sized s r_readdir (readdir_told s fid offset count)
answer_sized s _ b = refl

pub alone_sized : (s s1 : ServerState) → IsTreeAlone s s1 → s1.msize ≡ s.msize
alone_sized s s1 alone = ap (λ (x : ServerState). x.msize) alone

pub outcome_sized : (s : ServerState) (m : Message) → IsBounded m
    → (r : Reply) (s1 : ServerState) (f0 f1 : ℕ) → Outcome s m r s1 f0 f1 → s1.msize ≡ s.msize
outcome_sized s m b r s1 f0 f1 o = ⊎_elim (λ e. ap (λ (x : Reply × ServerState). x.1.msize) e
    ∙ answer_sized s m b) (λ h. alone_sized s s1 h.2) o

-- what always stays, and the size
pub sized_keeps : {old new : Moment} → Stays old new → new.state.msize ≡ old.state.msize
    → Keeps old new
sized_keeps h same = record {
  fixed = h.fixed;
  sized = same;
  rises = h.rises;
  steady =
      h.steady;
  steadily = h.steadily;
}
