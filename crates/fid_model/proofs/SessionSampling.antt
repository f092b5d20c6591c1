-- Sessions, locks, sizes and links on a small server, by what its maps have.
use Rattle.std.proofs.Common.{◌≡◌, ℕ, ap, ◌∙◌, Option, Some, Result, Ok, Err}
use Rattle.std.specs.Prelude.{codes, replicate, option_map, List}
use Rattle.std.specs.FinMap.{get}
use Rattle.port_base.specs.declared.errno.TheConstants.{EBADF, EINVAL, ENAMETOOLONG}
use Rattle.tree_model.specs.Tree.{Record}
use Rattle.tree_model.specs.Opening.{body_answer, readlink_body, readlink_of}
use Rattle.tree_model.specs.Samples.{sample}
use Rattle.tree_model.proofs.Maps.{inserted}
use Rattle.tree_model.proofs.Sampling.{top_at}
use Rattle.p9_tmsg.specs.Messages.Message.{fsync, getlock, lock, readlink, statfs}
use Rattle.p9_rmsg.specs.Replies.Reply.{fsync as synced, getlock as free, lerror, lock as locked}
use Rattle.p9_rmsg.specs.Replies.Reply.{readlink as target, statfs as sizes}
use Rattle.fid_model.specs.Fids.{Fid, ServerState, is_open, closed}
use Rattle.fid_model.specs.FidCalls.{by_fid, by_open_fid, told_answer}
use Rattle.fid_model.specs.Files.{fitting_target, statfs_reply}
use Rattle.fid_model.specs.Answers.{core}
use Rattle.fid_model.specs.Samples.{server, with_open, with_link, link_record}
use Rattle.fid_model.proofs.Sampling.{seven, nine, eight_open}
use Rattle.std.specs.Prelude.{if◌then◌else◌, nat_lt, ◌+◌, length}
use Rattle.tree_model.specs.Attributes.{statfs_of}

-- ---- locks

pub lock_had : core with_open (lock 8 1 0 0 9 77 (codes "me")) ≡ (locked 0, with_open)
lock_had = ap (λ o. told_answer {A = Unit {0}} with_open (λ _. locked 0)
    (by_open_fid is_open (λ f. Ok tt) o)) eight_open

pub lock_closed : core server (lock 7 1 0 0 9 77 (codes "me")) ≡ (lerror EBADF, server)
lock_closed = ap (λ o. told_answer {A = Unit {0}} server (λ _. locked 0)
    (by_open_fid is_open (λ f. Ok tt) o)) seven

pub lock_unknown : core server (lock 9 1 0 0 9 77 (codes "me")) ≡ (lerror EBADF, server)
lock_unknown = ap (λ o. told_answer {A = Unit {0}} server (λ _. locked 0)
    (by_open_fid is_open (λ f. Ok tt) o)) nine

abbrev named_by : ServerState → List ℕ → Fid → Result (List ℕ) ℕ
named_by s client f = if nat_lt s.msize (30 + length client) then Err ENAMETOOLONG else Ok client

pub lock_free : core with_open (getlock 8 1 3 9 77 (codes "me"))
    ≡ (free 2 3 9 77 (codes "me"), with_open)
lock_free = ap (λ o. told_answer with_open (free 2 3 9 77)
    (by_open_fid is_open (named_by with_open (codes "me")) o)) eight_open

pub lock_of_long_name : core with_open (getlock 8 1 3 9 77 (replicate 227 109))
    ≡ (lerror ENAMETOOLONG, with_open)
lock_of_long_name = ap (λ o. told_answer with_open (free 2 3 9 77)
    (by_open_fid is_open (named_by with_open (replicate 227 109)) o)) eight_open

pub no_lock_told : core server (getlock 7 1 3 9 77 (codes "me")) ≡ (lerror EBADF, server)
no_lock_told = ap (λ o. told_answer server (free 2 3 9 77)
    (by_open_fid is_open (named_by server (codes "me")) o)) seven

-- ---- sizes, and what was written

pub sizes_told : core server (statfs 7) ≡ (sizes 0 4096 1 1 1 2 2 0 255, server)
sizes_told = ap (λ o. told_answer server statfs_reply (by_fid (λ f. Ok (statfs_of sample)) o)) seven

pub sizes_unknown : core server (statfs 9) ≡ (lerror EBADF, server)
sizes_unknown = ap (λ o. told_answer server statfs_reply (by_fid (λ f. Ok (statfs_of sample)) o))
    nine

pub synced_open : core with_open (fsync 8 0) ≡ (synced, with_open)
synced_open = ap (λ o. told_answer {A = Unit {0}} with_open (λ _. synced)
    (by_open_fid is_open (λ f. Ok tt) o)) eight_open

pub synced_closed : core server (fsync 7 1) ≡ (lerror EBADF, server)
synced_closed = ap (λ o. told_answer {A = Unit {0}} server (λ _. synced)
    (by_open_fid is_open (λ f. Ok tt) o)) seven

-- ---- links

abbrev read_by : ServerState → Option Fid → Result (List ℕ) ℕ
read_by s o = by_fid (λ f. fitting_target s.msize (readlink_of s.tree f.ino)) o

link_at : readlink_of with_link.tree 2 ≡ Ok (codes "world")
link_at = ap (λ (o : Option Record). body_answer readlink_body
    (option_map (λ (r : Record). r.body) o)) (inserted sample.records 2 link_record)

eight_link : get with_link.fids 8 ≡ Some (closed 2)
eight_link = inserted server.fids 8 (closed 2)

pub target_read : core with_link (readlink 8) ≡ (target (codes "world"), with_link)
target_read = ap (λ o. told_answer with_link target (read_by with_link o)) eight_link
    ∙ ap (λ x. told_answer with_link target (fitting_target 256 x)) link_at

abbrev narrow : ServerState
narrow = record with_link { msize = 13 }

pub target_long : core narrow (readlink 8) ≡ (lerror ENAMETOOLONG, narrow)
target_long = ap (λ o. told_answer narrow target (read_by narrow o)) eight_link
    ∙ ap (λ x. told_answer narrow target (fitting_target 13 x)) link_at

no_link : readlink_of sample 1 ≡ Err EINVAL
no_link = ap (λ (o : Option Record). body_answer readlink_body
    (option_map (λ (r : Record). r.body) o)) top_at

pub no_target : core server (readlink 7) ≡ (lerror EINVAL, server)
no_target = ap (λ o. told_answer server target (read_by server o)) seven
    ∙ ap (λ x. told_answer server target (fitting_target 256 x)) no_link

pub target_unknown : core server (readlink 9) ≡ (lerror EBADF, server)
target_unknown = ap (λ o. told_answer server target (read_by server o)) nine
