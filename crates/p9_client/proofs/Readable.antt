-- What the machine replies can be read: no reply has data yet that could be too long.
use Rattle.std.proofs.Common.{◌≡◌, ⊎_elim, ℕ, ◌≤◌, ◌-◌, drop, arith, Bool, true, false, cond, List}
use Rattle.std.proofs.Common.{[], ◌∷◌, Result, Ok, Err, Some, None, Option, sym, ap, subst, length}
use Rattle.std.specs.Prelude.{◌==◌, min, nat_lt, nat_le, not, ◌&&◌}
use Rattle.std.specs.FinMap as map
use Rattle.port_base.specs.declared.errno.TheConstants.{EIO, EBADF, EINVAL, ENFILE, ENOTDIR}
use Rattle.std.proofs.lemmas.List.{length-take}
use Rattle.tree_model.specs.Tree.{Body, Tree, body_at, is_directory_at}
use Rattle.tree_model.specs.Tree.Body.{File, Directory, Link}
use Rattle.tree_model.specs.Opening.{body_answer, read_body, read_of}
use Rattle.tree_model.specs.Finding.{root_of}
use Rattle.tree_model.specs.Attributes.{qid_of, stat_of}
use Rattle.tree_model.specs.Settings.{Settings}
use Rattle.tree_model.specs.declared.attributes.Attr.{Attr}
use Rattle.p9_tmsg.specs.Messages.{Message}
use Rattle.p9_tmsg.specs.Messages.Message.{attach as t_attach, clunk as t_clunk, fsync as t_fsync}
use Rattle.p9_tmsg.specs.Messages.Message.{getattr as t_getattr, getlock as t_getlock}
use Rattle.p9_tmsg.specs.Messages.Message.{lcreate as t_lcreate, link as t_link, lock as t_lock}
use Rattle.p9_tmsg.specs.Messages.Message.{lopen as t_lopen, mkdir as t_mkdir, read as t_read}
use Rattle.p9_tmsg.specs.Messages.Message.{readdir as t_readdir, readlink as t_readlink}
use Rattle.p9_tmsg.specs.Messages.Message.{renameat as t_renameat, setattr as t_setattr}
use Rattle.p9_tmsg.specs.Messages.Message.{statfs as t_statfs, unlinkat as t_unlinkat}
use Rattle.p9_tmsg.specs.Messages.Message.{version as t_version, walk as t_walk, write as t_write}
use Rattle.p9_rmsg.specs.Replies.{Reply, IsReadableReply}
use Rattle.p9_rmsg.specs.Replies.Reply.{fsync as r_fsync, getlock as r_getlock, lerror as r_lerror}
use Rattle.p9_rmsg.specs.Replies.Reply.{link as r_link, lock as r_lock, mkdir as r_mkdir}
use Rattle.p9_rmsg.specs.Replies.Reply.{readdir as r_readdir, readlink as r_readlink}
use Rattle.p9_rmsg.specs.Replies.Reply.{renameat as r_renameat}
use Rattle.p9_rmsg.specs.Replies.Reply.{unlinkat as r_unlinkat, walk as r_walk, write as r_write}
use Rattle.p9_wire.specs.declared.protocol.TheConstants.{P9_MAXWELEM}
use Rattle.fid_model.specs.Fids.{ServerState, Fid, is_open, is_readable}
use Rattle.fid_model.specs.Listings.{listed_page, page_by, page_room}
use Rattle.fid_model.proofs.Listings.{length-page}
use Rattle.p9_client.specs.Asking.{IsBounded}
use Rattle.p9_wire.specs.declared.protocol.TheConstants.{RREAD_HEADER_SIZE}
use Rattle.fid_model.specs.Answers.{lopen_answer, lopen_by, read_reply, read_by, core, attached}
use Rattle.fid_model.specs.Answers.{walk_answer, walk_from, walk_names, Walked, getattr_reply}
use Rattle.fid_model.specs.Answers.{getattr_by, clunk_by, lcreate_answer, open_of, setattr_by}
use Rattle.fid_model.specs.Answers.{setattr_reply}
use Rattle.fid_model.specs.FidCalls.{told_answer, by_fid}
use Rattle.fid_model.specs.TreeCalls.{tree_answer}
use Rattle.fid_model.specs.Directories.{mkdir_told, link_told, renameat_told, unlinkat_told}
use Rattle.tree_model.specs.AttributeSteps.{run}
use Rattle.fid_model.specs.Setattr.{Changes, changes, steps}
use Rattle.fid_model.specs.Sessions.{lock_told, getlock_told}
use Rattle.fid_model.specs.Files.{statfs_reply, statfs_told, fsync_told, readlink_told, new_file_of}
use Rattle.fid_model.specs.Files.{write_told}
use Rattle.fid_model.specs.Handling.{Outcome, IsHurtReply, IsPartOfWalk}

readable_either : (b : Bool) (x y : Reply × ServerState) → IsReadableReply x.0 → IsReadableReply y.0
    → IsReadableReply (cond b x y).0
readable_either true x y h k = h
readable_either false x y h k = k

attached_readable : (s : ServerState) (fid : ℕ) (r : Result ℕ ℕ)
    → IsReadableReply (attached s fid r).0
attached_readable s fid (Ok i) = tt
attached_readable s fid (Err e) = tt

walk_told_readable : (s : ServerState) (newfid : ℕ) (w : Walked)
    → IsReadableReply (walk_answer s newfid w).0
walk_told_readable s newfid (qids, Ok i) = tt
walk_told_readable s newfid ([], Err e) = tt
walk_told_readable s newfid (q ∷ qids, Err e) = tt

walk_from_readable : (s : ServerState) (fid newfid : ℕ) (names : List (List ℕ)) (f : Option Fid)
    → IsReadableReply (walk_from s fid newfid names f).0
walk_from_readable s fid newfid names None = tt
walk_from_readable s fid newfid names (Some f) =
    let found : Reply × ServerState = walk_answer s newfid
    (walk_names s.settings.casefold s.tree names f.ino) in
    let all = walk_told_readable s newfid (walk_names s.settings.casefold s.tree names f.ino) in
    let few = readable_either (nat_lt P9_MAXWELEM (length names)) (r_lerror EINVAL, s) found tt all
    in
    readable_either (not (newfid == fid) && nat_le s.settings.limit (map.len s.fids))
    (r_lerror ENFILE, s) (cond (nat_lt P9_MAXWELEM (length names)) (r_lerror EINVAL, s) found)
    tt few

got_readable : (settings : Settings) (a : Result Attr ℕ)
    → IsReadableReply (getattr_reply settings a)
got_readable settings (Ok a) = tt
got_readable settings (Err e) = tt

getattr_readable : (s : ServerState) (f : Option Fid) → IsReadableReply (getattr_by s f)
getattr_readable s None = tt
getattr_readable s (Some f) = got_readable s.settings (stat_of s.tree f.ino)

clunk_readable : (s : ServerState) (fid : ℕ) (f : Option Fid) → IsReadableReply (clunk_by s fid f).0
clunk_readable s fid None = tt
clunk_readable s fid (Some f) = tt

lopen_told_readable : (s : ServerState) (fid flags : ℕ) (f : Fid) (r : Result (Unit {0} × Tree) ℕ)
    → IsReadableReply (lopen_answer s fid flags f r).0
lopen_told_readable s fid flags f (Ok (u, t)) = tt
lopen_told_readable s fid flags f (Err e) = tt

lopen_readable : (s : ServerState) (fid flags : ℕ) (f : Option Fid)
    → IsReadableReply (lopen_by s fid flags f).0
lopen_readable s fid flags None = tt
lopen_readable s fid flags (Some f) = lopen_told_readable s fid flags f (open_of s.tree f.ino flags)

-- a reply to Tread has no more bytes than were asked for
piece_readable : (most : ℕ) → most ≤ 33554432 → (offset : ℕ) (o : Option Body)
    → IsReadableReply (read_reply (body_answer (read_body offset most) o))
piece_readable most few offset None = tt
piece_readable most few offset (Some (File bytes)) =
    omega (arith, few, length-take most (drop offset bytes))
piece_readable most few offset (Some (Directory es next above)) = tt
piece_readable most few offset (Some (Link target)) = tt

one_readable : (b : Bool) (x y : Reply) → IsReadableReply x → IsReadableReply y
    → IsReadableReply (cond b x y)
one_readable true x y h k = h
one_readable false x y h k = k

read_readable : (s : ServerState) (offset count : ℕ) → count ≤ 33554432 → (f : Option Fid)
    → IsReadableReply (read_by s offset count f)
read_readable s offset count few None = tt
read_readable s offset count few (Some f) =
    let most : ℕ = min count (s.msize - RREAD_HEADER_SIZE) in
    one_readable (is_readable f.open_state) (read_reply (read_of s.tree f.ino offset most))
    (r_lerror EBADF) (piece_readable most (omega (arith, few)) offset
    (body_at s.tree.records f.ino)) tt

-- a page of a directory has no more bytes than were asked for
page_readable : (s : ServerState) (offset count : ℕ) → count ≤ 33554432 → (f : Option Fid)
    → IsReadableReply (told_answer s r_readdir (by_fid (page_by s offset count) f)).0
page_readable s offset count few None = tt
page_readable s offset count few (Some f) = by_tests
    (not (is_directory_at (body_at s.tree.records f.ino))) (is_open f.open_state) where
      room : ℕ
      room = page_room count s.msize

      by_tests : (b c : Bool) → IsReadableReply (told_answer s r_readdir
          (cond b (Err ENOTDIR) (cond c (Ok (listed_page s.tree f.ino offset room)) (Err EBADF)))).0
      by_tests true c = tt
      by_tests false true = omega (arith, few, length-page s.tree f.ino offset room)
      by_tests false false = tt

told_readable : {A : Type 0} (s : ServerState) (reply : A → Reply)
    → ((a : A) → IsReadableReply (reply a)) → (r : Result A ℕ)
    → IsReadableReply (told_answer s reply r).0
told_readable s reply h (Ok a) = h a
told_readable s reply h (Err e) = tt

tree_readable : {A : Type 0} (s : ServerState) (reply : A → Reply)
    → ((a : A) → IsReadableReply (reply a)) → (r : Result (A × Tree) ℕ)
    → IsReadableReply (tree_answer s reply r).0
tree_readable s reply h (Ok (a, t)) = h a
tree_readable s reply h (Err e) = tt

lcreate_readable : (s : ServerState) (fid flags : ℕ) (r : Result (ℕ × Tree) ℕ)
    → IsReadableReply (lcreate_answer s fid flags r).0
lcreate_readable s fid flags (Ok (ino, t)) = tt
lcreate_readable s fid flags (Err e) = tt

set_readable : (r : Result (Unit {0}) ℕ) → IsReadableReply (setattr_reply r)
set_readable (Ok u) = tt
set_readable (Err e) = tt

setattr_readable : (s : ServerState) (c : Changes) (f : Option Fid)
    → IsReadableReply (setattr_by s c f).0
setattr_readable s c None = tt
setattr_readable s c (Some f) = set_readable (run (steps c f) s.tree).0

core_readable : (s : ServerState) (m : Message) → IsBounded m → IsReadableReply (core s m).0
core_readable s (t_lopen fid flags) b = lopen_readable s fid flags (map.get s.fids fid)
core_readable s (t_lcreate fid name flags mode gid) b =
    lcreate_readable s fid flags (by_fid (λ f. new_file_of s.tree f.ino name flags mode)
    (map.get s.fids fid))
core_readable s (t_write fid offset payload) b =
    tree_readable s r_write (λ a. tt) (write_told s fid offset payload)
core_readable s (t_setattr fid valid mode uid gid size a an m mn) b =
    setattr_readable s (changes valid mode uid gid size a an m mn) (map.get s.fids fid)
core_readable s (t_read fid offset count) b = read_readable s offset count b (map.get s.fids fid)
core_readable s (t_attach fid afid uname aname n_uname) b =
    let root : Reply × ServerState = attached s fid (root_of s.tree s.settings.root) in
    let few = readable_either (nat_le s.settings.limit (map.len s.fids)) (r_lerror ENFILE, s) root
    tt (attached_readable s fid (root_of s.tree s.settings.root)) in
    readable_either (map.contains_key s.fids fid) (r_lerror EBADF, s)
    (cond (nat_le s.settings.limit (map.len s.fids)) (r_lerror ENFILE, s) root) tt few
core_readable s (t_walk fid newfid wnames) b =
    readable_either (not (newfid == fid) && map.contains_key s.fids newfid) (r_lerror EBADF, s)
    (walk_from s fid newfid wnames (map.get s.fids fid)) tt
    (walk_from_readable s fid newfid wnames (map.get s.fids fid))
core_readable s (t_getattr fid request_mask) b = getattr_readable s (map.get s.fids fid)
core_readable s (t_clunk fid) b = clunk_readable s fid (map.get s.fids fid)
core_readable s (t_version msize protocol) b = absurd b
core_readable s (t_lock fid kind_ flags start length_ proc_id client_id) b =
    told_readable {A = Unit {0}} s (λ _. r_lock 0) (λ a. tt) (lock_told s fid)
core_readable s (t_getlock fid kind_ start length_ proc_id client_id) b =
    told_readable s (r_getlock 2 start length_ proc_id) (λ a. tt) (getlock_told s fid client_id)
core_readable s (t_statfs fid) b = told_readable s statfs_reply (λ a. tt) (statfs_told s fid)
core_readable s (t_fsync fid datasync) b = told_readable {A = Unit {0}} s (λ _. r_fsync) (λ a. tt)
    (fsync_told s fid)
core_readable s (t_readlink fid) b = told_readable s r_readlink (λ a. tt) (readlink_told s fid)
core_readable s (t_mkdir dfid name mode gid) b =
    tree_readable s (λ a. r_mkdir (qid_of a)) (λ a. tt) (mkdir_told s dfid name mode)
core_readable s (t_link dfid fid name) b = tree_readable {A = Unit {0}} s (λ _. r_link) (λ a. tt)
    (link_told s dfid fid name)
core_readable s (t_renameat olddirfid oldname newdirfid newname) b =
    tree_readable {A = Unit {0}} s (λ _. r_renameat) (λ a. tt)
    (renameat_told s olddirfid oldname newdirfid newname)
core_readable s (t_unlinkat dirfd name flags) b =
    tree_readable {A = Unit {0}} s (λ _. r_unlinkat) (λ a. tt) (unlinkat_told s dirfd name flags)
core_readable s (t_readdir fid offset count) b =
    page_readable s offset count b (map.get s.fids fid)
core_readable s _ b = tt

part_readable : (s : ServerState) (fid : ℕ) (names : List (List ℕ)) (r : Reply)
    → IsPartOfWalk s fid names r → IsReadableReply r
part_readable s fid names (r_walk qids) h = tt
part_readable s fid names _ h = absurd h

refused_readable : (r : Reply) → r ≡ r_lerror EIO → IsReadableReply r
refused_readable r is = subst IsReadableReply (sym is) tt

hurt_readable : (s : ServerState) (m : Message) (r : Reply) → IsHurtReply s m r → IsReadableReply r
hurt_readable s (t_walk fid newfid wnames) r h =
    ⊎_elim (λ is. refused_readable r is) (λ part. part_readable s fid wnames r part) h
hurt_readable s (t_statfs fid) r h = refused_readable r h
hurt_readable s (t_lopen fid flags) r h = refused_readable r h
hurt_readable s (t_lcreate fid name flags mode gid) r h = refused_readable r h
hurt_readable s (t_readlink fid) r h = refused_readable r h
hurt_readable s (t_getattr fid mask) r h = refused_readable r h
hurt_readable s (t_setattr fid valid mode uid gid size a an b bn) r h = refused_readable r h
hurt_readable s (t_readdir fid offset count) r h = refused_readable r h
hurt_readable s (t_fsync fid datasync) r h = refused_readable r h
hurt_readable s (t_link dfid fid name) r h = refused_readable r h
hurt_readable s (t_mkdir dfid name mode gid) r h = refused_readable r h
hurt_readable s (t_renameat olddirfid oldname newdirfid newname) r h = refused_readable r h
hurt_readable s (t_unlinkat dirfd name flags) r h = refused_readable r h
hurt_readable s (t_attach fid afid uname aname n_uname) r h = refused_readable r h
hurt_readable s (t_read fid offset count) r h = refused_readable r h
hurt_readable s (t_write fid offset payload) r h = refused_readable r h
hurt_readable s _ r h = absurd h

pub outcome_readable : (s : ServerState) (m : Message) (r : Reply) (s1 : ServerState) (f0 f1 : ℕ)
    → IsBounded m → Outcome s m r s1 f0 f1 → IsReadableReply r
outcome_readable s m r s1 f0 f1 b o =
    ⊎_elim (λ is. subst IsReadableReply (sym (ap (λ (x : Reply × ServerState). x.0) is))
    (core_readable s m b)) (λ h. hurt_readable s m r h.1) o
