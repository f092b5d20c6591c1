-- What each call is told by the machine, and the reply that it reads.
use Rattle.std.proofs.Common.{◌≡◌, ℕ, List, Result, Ok, Err, Some, refl, ap}
use Rattle.port_base.specs.declared.errno.TheConstants.{EACCES}
use Rattle.tree_model.specs.Attributes.{Qid, qid_of}
use Rattle.tree_model.specs.declared.attributes.Statfs.{Statfs}
use Rattle.p9_tmsg.specs.Messages.Message.{fsync as t_fsync, link as t_link, mkdir as t_mkdir}
use Rattle.p9_tmsg.specs.Messages.Message.{mknod as t_mknod, readdir as t_readdir}
use Rattle.p9_tmsg.specs.Messages.Message.{readlink as t_readlink}
use Rattle.p9_tmsg.specs.Messages.Message.{renameat as t_renameat, statfs as t_statfs}
use Rattle.p9_tmsg.specs.Messages.Message.{symlink as t_symlink, unlinkat as t_unlinkat}
use Rattle.p9_tmsg.specs.Messages.Message.{write as t_write}
use Rattle.p9_rmsg.specs.Replies.Reply.{fsync as r_fsync, link as r_link, mkdir as r_mkdir}
use Rattle.p9_rmsg.specs.Replies.Reply.{mknod as r_mknod, readdir as r_readdir}
use Rattle.p9_rmsg.specs.Replies.Reply.{readlink as r_readlink}
use Rattle.p9_rmsg.specs.Replies.Reply.{renameat as r_renameat, symlink as r_symlink}
use Rattle.p9_rmsg.specs.Replies.Reply.{unlinkat as r_unlinkat, write as r_write}
use Rattle.fid_model.specs.Fids.{ServerState, IsGoodServer}
use Rattle.fid_model.specs.FidCalls.{told_answer}
use Rattle.fid_model.specs.Directories.{link_told, mkdir_told, renameat_told, unlinkat_told}
use Rattle.fid_model.specs.Files.{fsync_told, readlink_told, statfs_reply, statfs_told, write_told}
use Rattle.fid_model.specs.Listings.{readdir_told}
use Rattle.fid_model.specs.Moments.{Untouched}
use Rattle.p9_client.specs.Views.{mkdir_view, mknod_view, readlink_view, sizes_told, sizes_view}
use Rattle.p9_client.specs.Views.{page_view, symlink_view, write_view}
use Rattle.p9_client.specs.Changing.{OldOrTold, changed}
use Rattle.p9_client.proofs.Changing.{change_tells, done_view, show_tells}
use Rattle.p9_client.proofs.Telling.{Tells}

module _ (s : ServerState) (g : IsGoodServer s) (fid : ℕ) where
  -- ---- names

  pub link_tells : (file : ℕ) (name : List ℕ) → Tells done_view s (t_link fid file name)
      (changed s (λ u. u) (link_told s fid file name))
      (OldOrTold (changed {A = Unit {0}} s (λ u. u) (link_told s fid file name)))
  link_tells file name = change_tells s g (t_link fid file name) (λ _. r_link) (λ u. u)
      (link_told s fid file name) refl done_view (λ u. refl) (λ e. refl) (λ r h. h) (λ t h. h)

  pub rename_tells : (old : List ℕ) (to : ℕ) (new : List ℕ)
      → Tells done_view s (t_renameat fid old to new)
      (changed s (λ u. u) (renameat_told s fid old to new))
      (OldOrTold (changed {A = Unit {0}} s (λ u. u) (renameat_told s fid old to new)))
  rename_tells old to new = change_tells s g (t_renameat fid old to new) (λ _. r_renameat) (λ u. u)
      (renameat_told s fid old to new) refl done_view (λ u. refl) (λ e. refl) (λ r h. h) (λ t h. h)

  pub unlink_tells : (name : List ℕ) (flags : ℕ) → Tells done_view s (t_unlinkat fid name flags)
      (changed s (λ u. u) (unlinkat_told s fid name flags))
      (OldOrTold (changed {A = Unit {0}} s (λ u. u) (unlinkat_told s fid name flags)))
  unlink_tells name flags = change_tells s g (t_unlinkat fid name flags) (λ _. r_unlinkat) (λ u. u)
      (unlinkat_told s fid name flags) refl done_view (λ u. refl) (λ e. refl) (λ r h. h) (λ t h. h)

  pub mkdir_tells : (name : List ℕ) (mode : ℕ) → Tells mkdir_view s (t_mkdir fid name mode 0)
      (changed s qid_of (mkdir_told s fid name mode))
      (OldOrTold (changed s qid_of (mkdir_told s fid name mode)))
  mkdir_tells name mode = change_tells s g (t_mkdir fid name mode 0) (λ a. r_mkdir (qid_of a))
      qid_of (mkdir_told s fid name mode) refl mkdir_view (λ a. refl) (λ e. refl) (λ r h. h)
      (λ t h. h)

  pub write_tells : (offset : ℕ) (bytes : List ℕ) → Tells write_view s (t_write fid offset bytes)
      (changed s (λ n. n) (write_told s fid offset bytes))
      (OldOrTold (changed s (λ n. n) (write_told s fid offset bytes)))
  write_tells offset bytes = change_tells s g (t_write fid offset bytes) r_write (λ n. n)
      (write_told s fid offset bytes) refl write_view (λ n. refl) (λ e. refl) (λ r h. h) (λ t h. h)

  -- ---- what is asked

  sizes_seen : (r : Result Statfs ℕ)
      → sizes_view (told_answer s statfs_reply r).0 ≡ Some (sizes_told r)
  sizes_seen (Ok sizes) = refl
  sizes_seen (Err e) = refl

  pub sizes_tell : Tells sizes_view s (t_statfs fid) (sizes_told (statfs_told s fid), s) Untouched
  sizes_tell = show_tells s g (t_statfs fid) statfs_reply (statfs_told s fid) refl sizes_view
      sizes_told sizes_seen (λ r h. ap sizes_view h) (λ t h. h)

  kept_seen : (r : Result (Unit {0}) ℕ)
      → done_view (told_answer {A = Unit {0}} s (λ _. r_fsync) r).0 ≡ Some r
  kept_seen (Ok u) = refl
  kept_seen (Err e) = refl

  pub fsync_tells : Tells done_view s (t_fsync fid 0) (fsync_told s fid, s) Untouched
  fsync_tells = show_tells {A = Unit {0}} s g (t_fsync fid 0) (λ _. r_fsync) (fsync_told s fid) refl
      done_view (λ r. r) kept_seen (λ r h. ap done_view h) (λ t h. h)

  target_seen : (r : Result (List ℕ) ℕ) → readlink_view (told_answer s r_readlink r).0 ≡ Some r
  target_seen (Ok target) = refl
  target_seen (Err e) = refl

  pub readlink_tells : Tells readlink_view s (t_readlink fid) (readlink_told s fid, s) Untouched
  readlink_tells = show_tells s g (t_readlink fid) r_readlink (readlink_told s fid) refl
      readlink_view (λ r. r) target_seen (λ r h. ap readlink_view h) (λ t h. h)

  page_seen : (r : Result (List ℕ) ℕ) → page_view (told_answer s r_readdir r).0 ≡ Some r
  page_seen (Ok bytes) = refl
  page_seen (Err e) = refl

  pub page_tells : (offset count : ℕ)
      → Tells page_view s (t_readdir fid offset count)
      (readdir_told s fid offset count, s) Untouched
  page_tells offset count = show_tells s g (t_readdir fid offset count) r_readdir
      (readdir_told s fid offset count) refl page_view (λ r. r) page_seen (λ r h. ap page_view h)
      (λ t h. h)

  -- ---- what is always refused

  symlink_seen : (r : Result Qid ℕ) → symlink_view (told_answer s r_symlink r).0 ≡ Some r
  symlink_seen (Ok qid) = refl
  symlink_seen (Err e) = refl

  pub symlink_tells : (name target : List ℕ)
      → Tells symlink_view s (t_symlink fid name target 0) (Err EACCES, s) Untouched
  symlink_tells name target = show_tells s g (t_symlink fid name target 0) r_symlink (Err EACCES)
      refl symlink_view (λ r. r) symlink_seen (λ r h. absurd h) (λ t h. h)

  mknod_seen : (r : Result Qid ℕ) → mknod_view (told_answer s r_mknod r).0 ≡ Some r
  mknod_seen (Ok qid) = refl
  mknod_seen (Err e) = refl

  pub mknod_tells : (name : List ℕ) (mode major minor : ℕ)
      → Tells mknod_view s (t_mknod fid name mode major minor 0) (Err EACCES, s) Untouched
  mknod_tells name mode major minor = show_tells s g (t_mknod fid name mode major minor 0) r_mknod
      (Err EACCES) refl mknod_view (λ r. r) mknod_seen (λ r h. absurd h) (λ t h. h)
