-- Worked examples: requests, replies and cuts, byte for byte.
use Rattle.std.proofs.Common.{◌≡◌, [], ◌∷◌, ◌++◌, replicate, Some, None, Ok, Err, codes, refl}
use Rattle.fuse_wire.specs.Fields.{u32_at, u64_at}
use Rattle.fuse_wire.specs.Layouts.{name_at, only_name, name_behind, two_names, two_names_behind}
use Rattle.fuse_wire.specs.Layouts.{flags_of, read_in_of, handle_of, sync_in_of}
use Rattle.fuse_wire.specs.Request.{request_of, request_in, init_of, getattr_of, rename_of}
use Rattle.fuse_wire.specs.Request.{rename2_of, mknod_of, mkdir_of, forget_of, batch_forget_of}
use Rattle.fuse_wire.specs.Request.{link_of, create_of}
use Rattle.fuse_wire.specs.Request.Request.{init, lookup, getattr, open_file, read, flush, release}
use Rattle.fuse_wire.specs.Request.Request.{forget, batch_forget, unlink, opendir, readdir}
use Rattle.fuse_wire.specs.Request.Request.{releasedir, rmdir, rename, rename2, symlink, mknod}
use Rattle.fuse_wire.specs.Request.Request.{readlink, statfs, fsync, fsyncdir, interrupt, destroy}
use Rattle.fuse_wire.specs.Request.{setattr_of, write_of}
use Rattle.fuse_wire.specs.Request.Request.{mkdir, setattr, write, link, create}
use Rattle.fuse_wire.specs.Reply.{u32s, u64s, reply, reply_head, attr_bytes, entry_body, attr_body}
use Rattle.fuse_wire.specs.Reply.{init_body, opened_body, written_body}
use Rattle.fuse_wire.specs.Listing.{dirent_bytes}
use Rattle.fuse_wire.specs.declared.attr.FileType.TheVariants.{Directory, Symlink}
use Rattle.fuse_wire.specs.Samples.{file, framed, least, init_bytes, entry_bytes, attr_reply}
use Rattle.fuse_wire.specs.Cuts.{cut, front, is_allowed}
use Rattle.fuse_wire.specs.Cuts.End.{done, turns_spent, torn, bad_length}

-- ---- replies to INIT, LOOKUP and GETATTR of a small file

pub begun : reply 1 0 (init_body 31 131072) ≡ init_bytes
unfolding reply reply_head init_body u32s u64s
begun = refl

pub entered : reply 2 0 (entry_body 2 file) ≡ entry_bytes
unfolding reply reply_head entry_body attr_bytes u32s u64s
entered = refl

pub shown : reply 3 0 (attr_body file) ≡ attr_reply
unfolding reply reply_head attr_body attr_bytes u32s u64s
shown = refl

-- ENOENT is told as its negative in 32 bits
pub refused : reply 7 2 [] ≡ 16 ∷ 0 ∷ 0 ∷ 0 ∷ 254 ∷ 255 ∷ 255 ∷ 255 ∷ 7 ∷ 0 ∷ 0 ∷ 0 ∷ 0 ∷ 0 ∷ 0 ∷ 0
    ∷ []
unfolding reply reply_head u32s u64s
refused = refl

-- ---- requests

pub asks_init : request_of (framed 26 (u32s (7 ∷ 31 ∷ 131072 ∷ 3 ∷ []) ++ replicate 48 0))
    ≡ Ok (init 7 31 131072 3)
unfolding framed request_of request_in init_of u32_at u64_at u32s u64s
asks_init = refl

pub asks_lookup : request_of (framed 1 (codes "hello" ++ 0 ∷ [])) ≡ Ok (lookup (codes "hello"))
unfolding framed request_of request_in only_name name_at u32_at u64_at u32s u64s
asks_lookup = refl

pub asks_lookup_empty : request_of (framed 1 (0 ∷ [])) ≡ Ok (lookup [])
unfolding framed request_of request_in only_name name_at u32_at u64_at u32s u64s
asks_lookup_empty = refl

pub asks_getattr : request_of (framed 3 (replicate 8 0 ++ u64s (5 ∷ []))) ≡ Ok (getattr None)
unfolding framed request_of request_in getattr_of u32_at u64_at u32s u64s
asks_getattr = refl

pub asks_getattr_of_handle : request_of (framed 3 (u32s (1 ∷ 0 ∷ []) ++ u64s (5 ∷ [])))
    ≡ Ok (getattr (Some 5))
unfolding framed request_of request_in getattr_of u32_at u64_at u32s u64s
asks_getattr_of_handle = refl

-- a name without its zero byte, one with a zero byte inside, and a body that is too long: EINVAL
pub name_unended : request_of (framed 1 (codes "hello")) ≡ Err 22
unfolding framed request_of request_in only_name name_at u32_at u64_at u32s u64s
name_unended = refl

pub name_ended_twice : request_of (framed 1 (codes "hel" ++ (0 ∷ (codes "lo" ++ 0 ∷ [])))) ≡ Err 22
unfolding framed request_of request_in only_name name_at u32_at u64_at u32s u64s
name_ended_twice = refl

pub getattr_too_long : request_of (framed 3 (replicate 17 0)) ≡ Err 22
unfolding framed request_of request_in getattr_of u32_at u64_at u32s u64s
getattr_too_long = refl

pub asks_open : request_of (framed 14 (u32s (32768 ∷ 0 ∷ []))) ≡ Ok (open_file 32768)
unfolding framed request_of request_in flags_of u32_at u64_at u32s u64s
asks_open = refl

pub asks_read : request_of (framed 15 (u64s (2 ∷ 4 ∷ [])
    ++ (u32s (9 ∷ 2 ∷ []) ++ (u64s (7 ∷ []) ++ u32s (1 ∷ 0 ∷ []))))) ≡ Ok (read 2 4 9 1 (Some 7))
unfolding framed request_of request_in read_in_of u32_at u64_at u32s u64s
asks_read = refl

pub asks_flush : request_of (framed 25 (u64s (2 ∷ 0 ∷ 0 ∷ []))) ≡ Ok (flush 2)
unfolding framed request_of request_in handle_of u32_at u64_at u32s u64s
asks_flush = refl

pub asks_release : request_of (framed 18 (u64s (2 ∷ 0 ∷ 0 ∷ []))) ≡ Ok (release 2)
unfolding framed request_of request_in handle_of u32_at u64_at u32s u64s
asks_release = refl

pub asks_forget : request_of (framed 2 (u64s (3 ∷ []))) ≡ Ok (forget 3)
unfolding framed request_of request_in forget_of u32_at u64_at u32s u64s
asks_forget = refl

pub asks_batch_forget : request_of (framed 42 (u32s (1 ∷ 0 ∷ []) ++ u64s (2 ∷ 3 ∷ [])))
    ≡ Ok (batch_forget (u64s (2 ∷ 3 ∷ [])))
unfolding framed request_of request_in batch_forget_of u32_at u64_at u32s u64s
asks_batch_forget = refl

-- mode, size, the moment as the time of access, and a handle
pub asks_setattr : request_of (framed 4 (u32s (217 ∷ 0 ∷ [])
    ++ (u64s (4 ∷ 6 ∷ 7 ∷ 8 ∷ 9 ∷ 10 ∷ []) ++ u32s (1 ∷ 2 ∷ 3 ∷ 420 ∷ 0 ∷ 5 ∷ 11 ∷ 0 ∷ []))))
    ≡ Ok (setattr (record {
      valid = 217;
      fh = 4;
      size = 6;
      lock_owner = 7;
      atime = 8;
      mtime = 9;
      ctime = 10;
      atimensec = 1;
      mtimensec = 2;
      ctimensec = 3;
      mode = 420;
      uid = 5;
      gid = 11;
    }))
unfolding framed request_of request_in setattr_of u32_at u64_at u32s u64s
asks_setattr = refl

pub setattr_too_short : request_of (framed 4 (replicate 87 0)) ≡ Err 22
unfolding framed request_of request_in setattr_of u32_at u64_at u32s u64s
setattr_too_short = refl

pub asks_write : request_of (framed 16 (u64s (2 ∷ 4 ∷ []) ++ (u32s (2 ∷ 0 ∷ [])
    ++ (u64s (7 ∷ []) ++ (u32s (1 ∷ 0 ∷ []) ++ codes "hi")))))
    ≡ Ok (write 2 4 (codes "hi"))
unfolding framed request_of request_in write_of u32_at u64_at u32s u64s
asks_write = refl

-- three bytes are told, and two are there
pub write_too_short : request_of (framed 16 (u64s (2 ∷ 4 ∷ []) ++ (u32s (3 ∷ 0 ∷ [])
    ++ (u64s (7 ∷ []) ++ (u32s (1 ∷ 0 ∷ []) ++ codes "hi"))))) ≡ Err 22
unfolding framed request_of request_in write_of u32_at u64_at u32s u64s
write_too_short = refl

pub written : reply 4 0 (written_body 258) ≡ 24 ∷ 0 ∷ 0 ∷ 0 ∷ 0 ∷ 0 ∷ 0 ∷ 0 ∷ 4 ∷ 0 ∷ 0 ∷ 0 ∷ 0 ∷ 0
    ∷ 0 ∷ 0 ∷ 2 ∷ 1 ∷ 0 ∷ 0 ∷ 0 ∷ 0 ∷ 0 ∷ 0 ∷ []
unfolding reply reply_head written_body u32s u64s
written = refl

pub asks_unlink : request_of (framed 10 (codes "hello" ++ 0 ∷ [])) ≡ Ok (unlink (codes "hello"))
unfolding framed request_of request_in only_name name_at u32_at u64_at u32s u64s
asks_unlink = refl

pub asks_opendir : request_of (framed 27 (u32s (65536 ∷ 0 ∷ []))) ≡ Ok (opendir 65536)
unfolding framed request_of request_in flags_of u32_at u64_at u32s u64s
asks_opendir = refl

pub asks_readdir : request_of (framed 28 (u64s (2 ∷ 4 ∷ [])
    ++ (u32s (4096 ∷ 0 ∷ []) ++ (u64s (7 ∷ []) ++ u32s (65536 ∷ 0 ∷ [])))))
    ≡ Ok (readdir 2 4 4096 65536 None)
unfolding framed request_of request_in read_in_of u32_at u64_at u32s u64s
asks_readdir = refl

pub asks_releasedir : request_of (framed 29 (u64s (2 ∷ 0 ∷ 0 ∷ []))) ≡ Ok (releasedir 2)
unfolding framed request_of request_in handle_of u32_at u64_at u32s u64s
asks_releasedir = refl

pub asks_rmdir : request_of (framed 11 (codes "d" ++ 0 ∷ [])) ≡ Ok (rmdir (codes "d"))
unfolding framed request_of request_in only_name name_at u32_at u64_at u32s u64s
asks_rmdir = refl

pub asks_rename : request_of (framed 12 (u64s (7 ∷ []) ++ (codes "a" ++ 0 ∷ codes "b" ++ 0 ∷ [])))
    ≡ Ok (rename 7 (codes "a") (codes "b"))
unfolding framed request_of request_in rename_of two_names_behind two_names only_name name_at u32_at
    u64_at u32s u64s
asks_rename = refl

pub asks_rename2 :
    request_of (framed 45
    (u64s (7 ∷ []) ++ (u32s (1 ∷ 0 ∷ []) ++ (codes "a" ++ 0 ∷ codes "b" ++ 0 ∷ []))))
    ≡ Ok (rename2 7 1 (codes "a") (codes "b"))
unfolding framed request_of request_in rename2_of two_names_behind two_names only_name name_at u32_at
    u64_at u32s u64s
asks_rename2 = refl

pub asks_symlink : request_of (framed 6 (codes "l" ++ 0 ∷ codes "a/b" ++ 0 ∷ []))
    ≡ Ok (symlink (codes "l") (codes "a/b"))
unfolding framed request_of request_in two_names only_name name_at u32_at u64_at u32s u64s
asks_symlink = refl

pub asks_mknod :
    request_of (framed 8 (u32s (4516 ∷ 259 ∷ 18 ∷ 0 ∷ []) ++ (codes "p" ++ 0 ∷ [])))
    ≡ Ok (mknod 4516 259 (codes "p"))
unfolding framed request_of request_in mknod_of name_behind only_name name_at u32_at u64_at u32s
    u64s
asks_mknod = refl

pub asks_mkdir : request_of (framed 9 (u32s (493 ∷ 18 ∷ []) ++ (codes "d" ++ 0 ∷ [])))
    ≡ Ok (mkdir 493 (codes "d"))
unfolding framed request_of request_in mkdir_of name_behind only_name name_at u32_at u64_at u32s
    u64s
asks_mkdir = refl

pub asks_link : request_of (framed 13 (u64s (7 ∷ []) ++ (codes "l" ++ 0 ∷ [])))
    ≡ Ok (link 7 (codes "l"))
unfolding framed request_of request_in link_of name_behind only_name name_at u32_at u64_at u32s
    u64s
asks_link = refl

pub asks_create : request_of (framed 35
    (u32s (577 ∷ 420 ∷ 18 ∷ 0 ∷ []) ++ (codes "f" ++ 0 ∷ [])))
    ≡ Ok (create 577 420 (codes "f"))
unfolding framed request_of request_in create_of name_behind only_name name_at u32_at u64_at u32s
    u64s
asks_create = refl

pub asks_readlink : request_of (framed 5 []) ≡ Ok readlink
unfolding framed request_of request_in u32_at u64_at u32s u64s
asks_readlink = refl

pub asks_statfs : request_of (framed 17 []) ≡ Ok statfs
unfolding framed request_of request_in u32_at u64_at u32s u64s
asks_statfs = refl

pub statfs_too_long : request_of (framed 17 (0 ∷ [])) ≡ Err 22
unfolding framed request_of request_in u32_at u64_at u32s u64s
statfs_too_long = refl

pub asks_fsync : request_of (framed 20 (u64s (2 ∷ []) ++ u32s (1 ∷ 0 ∷ []))) ≡ Ok (fsync 2 1)
unfolding framed request_of request_in sync_in_of u32_at u64_at u32s u64s
asks_fsync = refl

pub asks_fsyncdir : request_of (framed 30 (u64s (2 ∷ []) ++ u32s (0 ∷ 0 ∷ []))) ≡ Ok (fsyncdir 2 0)
unfolding framed request_of request_in sync_in_of u32_at u64_at u32s u64s
asks_fsyncdir = refl

pub asks_interrupt : request_of (framed 36 (u64s (2 ∷ []))) ≡ Ok interrupt
unfolding framed request_of request_in u32_at u64_at u32s u64s
asks_interrupt = refl

pub asks_destroy : request_of (framed 38 []) ≡ Ok destroy
unfolding framed request_of request_in u32_at u64_at u32s u64s
asks_destroy = refl

-- a body that is a byte short, and one that is a byte long
pub readdir_too_short : request_of (framed 28 (replicate 39 0)) ≡ Err 22
unfolding framed request_of request_in read_in_of u32_at u64_at u32s u64s
readdir_too_short = refl

pub opendir_too_long : request_of (framed 27 (replicate 9 0)) ≡ Err 22
unfolding framed request_of request_in flags_of u32_at u64_at u32s u64s
opendir_too_long = refl

-- ---- entries of a listing: a name of 5 bytes and 3 zero bytes, and one of 8 bytes and none

pub entry_padded : dirent_bytes 2 1 Directory (codes "hello") ≡
    2 ∷ 0 ∷ 0 ∷ 0 ∷ 0 ∷ 0 ∷ 0 ∷ 0 ∷ 1 ∷ 0 ∷ 0 ∷ 0 ∷ 0 ∷ 0 ∷ 0 ∷ 0 ∷ 5 ∷ 0 ∷ 0 ∷ 0 ∷ 4 ∷ 0 ∷ 0 ∷ 0
    ∷ 104 ∷ 101 ∷ 108 ∷ 108 ∷ 111 ∷ 0 ∷ 0 ∷ 0 ∷ []
unfolding dirent_bytes u32s u64s
entry_padded = refl

pub entry_whole : dirent_bytes 3 258 Symlink (codes "hellohel") ≡
    3 ∷ 0 ∷ 0 ∷ 0 ∷ 0 ∷ 0 ∷ 0 ∷ 0 ∷ 2 ∷ 1 ∷ 0 ∷ 0 ∷ 0 ∷ 0 ∷ 0 ∷ 0 ∷ 8 ∷ 0 ∷ 0 ∷ 0 ∷ 10 ∷ 0 ∷ 0 ∷ 0
    ∷ 104 ∷ 101 ∷ 108 ∷ 108 ∷ 111 ∷ 104 ∷ 101 ∷ 108 ∷ []
unfolding dirent_bytes u32s u64s
entry_whole = refl

-- two pairs are told, and one is there
pub batch_too_short : request_of (framed 42 (u32s (2 ∷ 0 ∷ []) ++ u64s (2 ∷ 3 ∷ []))) ≡ Err 22
unfolding framed request_of request_in batch_forget_of u32_at u64_at u32s u64s
batch_too_short = refl

pub opened : reply 4 0 (opened_body 2) ≡ 32 ∷ 0 ∷ 0 ∷ 0 ∷ 0 ∷ 0 ∷ 0 ∷ 0 ∷ 4 ∷ 0 ∷ 0 ∷ 0 ∷ 0 ∷ 0 ∷ 0
    ∷ 0 ∷ 2 ∷ 0 ∷ 0 ∷ 0 ∷ 0 ∷ 0 ∷ 0 ∷ 0 ∷ 0 ∷ 0 ∷ 0 ∷ 0 ∷ 0 ∷ 0 ∷ 0 ∷ 0 ∷ []
unfolding reply reply_head opened_body u32s u64s
opened = refl

-- an opcode that isn't served, whatever the body: ENOSYS
pub unserved : request_of (framed 77 []) ≡ Err 38
unfolding framed request_of request_in u32_at u64_at u32s u64s
unserved = refl

-- ---- cuts

-- a frame, and then three bytes
pub ends_torn : cut 9 (least ++ 1 ∷ 2 ∷ 3 ∷ []) ≡ record { frames = least ∷ []; end = torn }
unfolding least framed cut front is_allowed u32_at u32s u64s
ends_torn = refl

-- two frames, the second of which lacks its last byte
pub ends_short : cut 9 (least ++ (46 ∷ replicate 44 0)) ≡ record { frames = least ∷ []; end = torn }
unfolding least framed cut front is_allowed u32_at u32s u64s
ends_short = refl

pub ends_done : cut 9 (least ++ least) ≡ record { frames = least ∷ least ∷ []; end = done }
unfolding least framed cut front is_allowed u32_at u32s u64s
ends_done = refl

pub ends_spent : cut 1 (least ++ 1 ∷ []) ≡ record { frames = least ∷ []; end = turns_spent }
unfolding least framed cut front is_allowed u32_at u32s u64s
ends_spent = refl

-- a length of 39 is none
pub ends_bad : cut 9 (39 ∷ replicate 38 0) ≡ record { frames = []; end = bad_length }
unfolding cut front is_allowed u32_at
ends_bad = refl
