-- Replies are spelled and read one way, each by the law of its fields.
use Rattle.std.proofs.Common.{◌≡◌, ℕ, List, ◌++◌, Ok, refl, subst}
use Rattle.p9_wire.specs.Reading.{Reads, give, Always, Lawful}
use Rattle.p9_wire.specs.Numbers.{law8, law32, law64}
use Rattle.p9_wire.specs.Fields.{pair_reading}
use Rattle.p9_wire.specs.Values.{qid_at, qids_at, text_at, u32_at, u64_at, u8_at, then_law, qid_law}
use Rattle.p9_wire.specs.Values.{qids_law, text_law, DataSpells, data_spelling, data_at, data_law}
use Rattle.p9_wire.specs.Values.{any_data_at, any_data_law}
use Rattle.p9_wire.specs.Frames.{LawfulMessages}
use Rattle.p9_wire.specs.Kinds.{as_message, again_as, Takes, takes_as, takes_give, takes_none}
use Rattle.p9_wire.specs.Kinds.{takes_if, unique_by}
use Rattle.p9_wire.specs.declared.error.WireError.TheVariants.{InvalidData}
use Rattle.p9_rmsg.specs.Replies.{Attributes, attributes_spelling, AttributesSpell, Groups}
use Rattle.p9_rmsg.specs.Replies.{attributes_in, groups_at, Reply, reply_kind, reply_spelling}
use Rattle.p9_rmsg.specs.Replies.{ReplySpells, IsReadableReply, reply_by, reply_reading}
use Rattle.p9_rmsg.specs.Replies.Reply.{lerror, statfs, lopen, lcreate, symlink, mknod, rename}
use Rattle.p9_rmsg.specs.Replies.Reply.{readlink, getattr, setattr, xattrwalk, xattrcreate, readdir}
use Rattle.p9_rmsg.specs.Replies.Reply.{fsync, lock, getlock, link, mkdir, renameat, unlinkat}
use Rattle.p9_rmsg.specs.Replies.Reply.{version, auth, attach, flush, walk, read, write, clunk}
use Rattle.p9_rmsg.specs.Replies.Reply.{remove}

-- the groups of attributes, as `groups_at` reads them
abbrev groups_of : Attributes → Groups
groups_of a = (
  (a.valid, (a.qid, (a.mode, (a.uid, (a.gid, a.nlink))))),
  (
    (a.rdev, (a.size, (a.blksize, a.blocks))),
    (
      (a.atime_sec, (a.atime_nsec, (a.mtime_sec, a.mtime_nsec))),
      (
        (a.ctime_sec, (a.ctime_nsec, (a.btime_sec, a.btime_nsec))),
        (a.generation, a.data_version),
      ),
    ),
  ),
)

abbrev attributes_from : Groups → Reply
attributes_from g = getattr (attributes_in g)

abbrev GroupsSpell : Groups → Type 0
GroupsSpell g = AttributesSpell (attributes_in g)

abbrev groups_spelling : Groups → List ℕ
groups_spelling g = attributes_spelling (attributes_in g)

groups_law : Lawful GroupsSpell groups_spelling Always Always groups_at
groups_law =
    let four = then_law law64 (then_law law64 (then_law law64 law64)) in
    then_law (then_law law64 (then_law qid_law
    (then_law law32 (then_law law32 (then_law law32 law64)))))
    (then_law four (then_law four (then_law four (then_law law64 law64))))

-- what is spelled is read back, where the data are
again_by : {R : List ℕ → Type 0} {payload_at : Reads (List ℕ)}
    → Lawful DataSpells data_spelling Always R payload_at → (m : Reply) (rest : List ℕ)
    → ReplySpells m → ((payload : List ℕ) → m ≡ readdir payload → R payload)
    → ((payload : List ℕ) → m ≡ read payload → R payload)
    → reply_by payload_at (reply_kind m) (reply_spelling m ++ rest) ≡ Ok (m, rest)
again_by law (lerror ecode) rest spells h k = again_as law32 lerror ecode rest spells tt
again_by law (statfs ty bsize blocks bfree bavail files ffree fsid namelen) rest spells h k =
    again_as (then_law (then_law law32 (then_law law32 (then_law law64 (then_law law64 law64))))
    (then_law law64 (then_law law64 (then_law law64 law32))))
    (λ x. statfs x.0.0 x.0.1.0 x.0.1.1.0 x.0.1.1.1.0 x.0.1.1.1.1 x.1.0 x.1.1.0 x.1.1.1.0 x.1.1.1.1)
    ((ty, (bsize, (blocks, (bfree, bavail)))), (files, (ffree, (fsid, namelen)))) rest spells tt
again_by law (lopen qid iounit) rest spells h k =
    again_as (then_law qid_law law32) (λ x. lopen x.0 x.1) (qid, iounit) rest spells tt
again_by law (lcreate qid iounit) rest spells h k =
    again_as (then_law qid_law law32) (λ x. lcreate x.0 x.1) (qid, iounit) rest spells tt
again_by law (symlink qid) rest spells h k = again_as qid_law symlink qid rest spells tt
again_by law (mknod qid) rest spells h k = again_as qid_law mknod qid rest spells tt
again_by law rename rest spells h k = refl
again_by law (readlink target) rest spells h k = again_as text_law readlink target rest spells tt
again_by law (getattr a) rest spells h k =
    again_as groups_law attributes_from (groups_of a) rest spells tt
again_by law setattr rest spells h k = refl
again_by law (xattrwalk size) rest spells h k = again_as law64 xattrwalk size rest spells tt
again_by law xattrcreate rest spells h k = refl
again_by law (readdir payload) rest spells h k =
    again_as law readdir payload rest spells (h payload refl)
again_by law fsync rest spells h k = refl
again_by law (lock status) rest spells h k = again_as law8 lock status rest spells tt
again_by law (getlock kind_ start length proc_id client_id) rest spells h k =
    again_as (then_law law8 (then_law law64 (then_law law64 (then_law law32 text_law))))
    (λ x. getlock x.0 x.1.0 x.1.1.0 x.1.1.1.0 x.1.1.1.1)
    (kind_, (start, (length, (proc_id, client_id)))) rest spells tt
again_by law link rest spells h k = refl
again_by law (mkdir qid) rest spells h k = again_as qid_law mkdir qid rest spells tt
again_by law renameat rest spells h k = refl
again_by law unlinkat rest spells h k = refl
again_by law (version msize protocol) rest spells h k =
    again_as (then_law law32 text_law) (λ x. version x.0 x.1) (msize, protocol) rest spells tt
again_by law (auth aqid) rest spells h k = again_as qid_law auth aqid rest spells tt
again_by law (attach qid) rest spells h k = again_as qid_law attach qid rest spells tt
again_by law flush rest spells h k = refl
again_by law (walk wqids) rest spells h k = again_as qids_law walk wqids rest spells tt
again_by law (read payload) rest spells h k = again_as law read payload rest spells (k payload refl)
again_by law (write count) rest spells h k = again_as law32 write count rest spells tt
again_by law clunk rest spells h k = refl
again_by law remove rest spells h k = refl

replies_again : (m : Reply) (rest : List ℕ) → ReplySpells m → IsReadableReply m
    → reply_reading (reply_kind m) (reply_spelling m ++ rest) ≡ Ok (m, rest)
replies_again m rest spells readable = again_by data_law m rest spells
    (λ payload e. subst IsReadableReply e readable) (λ payload e. subst IsReadableReply e readable)

any_again : (m : Reply) (rest : List ℕ) → ReplySpells m
    → reply_by any_data_at (reply_kind m) (reply_spelling m ++ rest) ≡ Ok (m, rest)
any_again m rest spells = again_by any_data_law m rest spells (λ payload e. tt) (λ payload e. tt)

-- what is read as a message of one type is that message's bytes
abbrev TakesReply : ℕ → Reads Reply → Type 0
TakesReply = Takes reply_kind ReplySpells reply_spelling IsReadableReply

take_lerror : TakesReply 7 (as_message u32_at lerror)
take_lerror = takes_as reply_kind ReplySpells reply_spelling IsReadableReply law32 7 lerror
    (record { type = λ x. refl; bytes = λ x. refl; spells = λ x h. h; readable = λ x h. tt })

take_statfs : TakesReply 9 (as_message (pair_reading
    (pair_reading u32_at (pair_reading u32_at (pair_reading u64_at (pair_reading u64_at u64_at))))
    (pair_reading u64_at (pair_reading u64_at (pair_reading u64_at u32_at))))
    (λ x. statfs x.0.0 x.0.1.0 x.0.1.1.0 x.0.1.1.1.0 x.0.1.1.1.1 x.1.0 x.1.1.0 x.1.1.1.0
    x.1.1.1.1))
take_statfs = takes_as reply_kind ReplySpells reply_spelling IsReadableReply
    (then_law (then_law law32 (then_law law32 (then_law law64 (then_law law64 law64))))
    (then_law law64 (then_law law64 (then_law law64 law32)))) 9
    (λ x. statfs x.0.0 x.0.1.0 x.0.1.1.0 x.0.1.1.1.0 x.0.1.1.1.1 x.1.0 x.1.1.0 x.1.1.1.0 x.1.1.1.1)
    (record { type = λ x. refl; bytes = λ x. refl; spells = λ x h. h; readable = λ x h. tt })

take_lopen : TakesReply 13 (as_message (pair_reading qid_at u32_at) (λ x. lopen x.0 x.1))
take_lopen = takes_as reply_kind ReplySpells reply_spelling IsReadableReply
    (then_law qid_law law32) 13 (λ x. lopen x.0 x.1)
    (record { type = λ x. refl; bytes = λ x. refl; spells = λ x h. h; readable = λ x h. tt })

take_lcreate : TakesReply 15 (as_message (pair_reading qid_at u32_at) (λ x. lcreate x.0 x.1))
take_lcreate = takes_as reply_kind ReplySpells reply_spelling IsReadableReply
    (then_law qid_law law32) 15 (λ x. lcreate x.0 x.1)
    (record { type = λ x. refl; bytes = λ x. refl; spells = λ x h. h; readable = λ x h. tt })

take_symlink : TakesReply 17 (as_message qid_at symlink)
take_symlink = takes_as reply_kind ReplySpells reply_spelling IsReadableReply qid_law 17 symlink
    (record { type = λ x. refl; bytes = λ x. refl; spells = λ x h. h; readable = λ x h. tt })

take_mknod : TakesReply 19 (as_message qid_at mknod)
take_mknod = takes_as reply_kind ReplySpells reply_spelling IsReadableReply qid_law 19 mknod
    (record { type = λ x. refl; bytes = λ x. refl; spells = λ x h. h; readable = λ x h. tt })

take_rename : TakesReply 21 (give rename)
take_rename = takes_give reply_kind ReplySpells reply_spelling IsReadableReply 21 rename refl refl
    tt tt

take_readlink : TakesReply 23 (as_message text_at readlink)
take_readlink = takes_as reply_kind ReplySpells reply_spelling IsReadableReply text_law 23 readlink
    (record { type = λ x. refl; bytes = λ x. refl; spells = λ x h. h; readable = λ x h. tt })

take_getattr : TakesReply 25 (as_message groups_at attributes_from)
take_getattr = takes_as reply_kind ReplySpells reply_spelling IsReadableReply groups_law 25
    attributes_from (record {
      type = λ x. refl;
      bytes = λ x. refl;
      spells = λ x h. h;
      readable =
          λ x h. tt;
    })

take_setattr : TakesReply 27 (give setattr)
take_setattr = takes_give reply_kind ReplySpells reply_spelling IsReadableReply 27 setattr refl
    refl tt tt

take_xattrwalk : TakesReply 31 (as_message u64_at xattrwalk)
take_xattrwalk = takes_as reply_kind ReplySpells reply_spelling IsReadableReply law64 31 xattrwalk
    (record { type = λ x. refl; bytes = λ x. refl; spells = λ x h. h; readable = λ x h. tt })

take_xattrcreate : TakesReply 33 (give xattrcreate)
take_xattrcreate = takes_give reply_kind ReplySpells reply_spelling IsReadableReply 33 xattrcreate
    refl refl tt tt

take_readdir : TakesReply 41 (as_message data_at readdir)
take_readdir = takes_as reply_kind ReplySpells reply_spelling IsReadableReply data_law 41 readdir
    (record { type = λ x. refl; bytes = λ x. refl; spells = λ x h. h; readable = λ x h. h })

take_fsync : TakesReply 51 (give fsync)
take_fsync = takes_give reply_kind ReplySpells reply_spelling IsReadableReply 51 fsync refl refl tt
    tt

take_lock : TakesReply 53 (as_message u8_at lock)
take_lock = takes_as reply_kind ReplySpells reply_spelling IsReadableReply law8 53 lock
    (record { type = λ x. refl; bytes = λ x. refl; spells = λ x h. h; readable = λ x h. tt })

take_getlock : TakesReply 55 (as_message
    (pair_reading u8_at (pair_reading u64_at (pair_reading u64_at (pair_reading u32_at text_at))))
    (λ x. getlock x.0 x.1.0 x.1.1.0 x.1.1.1.0 x.1.1.1.1))
take_getlock = takes_as reply_kind ReplySpells reply_spelling IsReadableReply
    (then_law law8 (then_law law64 (then_law law64 (then_law law32 text_law)))) 55
    (λ x. getlock x.0 x.1.0 x.1.1.0 x.1.1.1.0 x.1.1.1.1)
    (record { type = λ x. refl; bytes = λ x. refl; spells = λ x h. h; readable = λ x h. tt })

take_link : TakesReply 71 (give link)
take_link = takes_give reply_kind ReplySpells reply_spelling IsReadableReply 71 link refl refl tt tt

take_mkdir : TakesReply 73 (as_message qid_at mkdir)
take_mkdir = takes_as reply_kind ReplySpells reply_spelling IsReadableReply qid_law 73 mkdir
    (record { type = λ x. refl; bytes = λ x. refl; spells = λ x h. h; readable = λ x h. tt })

take_renameat : TakesReply 75 (give renameat)
take_renameat = takes_give reply_kind ReplySpells reply_spelling IsReadableReply 75 renameat refl
    refl tt tt

take_unlinkat : TakesReply 77 (give unlinkat)
take_unlinkat = takes_give reply_kind ReplySpells reply_spelling IsReadableReply 77 unlinkat refl
    refl tt tt

take_version : TakesReply 101 (as_message (pair_reading u32_at text_at) (λ x. version x.0 x.1))
take_version = takes_as reply_kind ReplySpells reply_spelling IsReadableReply
    (then_law law32 text_law) 101 (λ x. version x.0 x.1)
    (record { type = λ x. refl; bytes = λ x. refl; spells = λ x h. h; readable = λ x h. tt })

take_auth : TakesReply 103 (as_message qid_at auth)
take_auth = takes_as reply_kind ReplySpells reply_spelling IsReadableReply qid_law 103 auth
    (record { type = λ x. refl; bytes = λ x. refl; spells = λ x h. h; readable = λ x h. tt })

take_attach : TakesReply 105 (as_message qid_at attach)
take_attach = takes_as reply_kind ReplySpells reply_spelling IsReadableReply qid_law 105 attach
    (record { type = λ x. refl; bytes = λ x. refl; spells = λ x h. h; readable = λ x h. tt })

take_flush : TakesReply 109 (give flush)
take_flush = takes_give reply_kind ReplySpells reply_spelling IsReadableReply 109 flush refl refl
    tt tt

take_walk : TakesReply 111 (as_message qids_at walk)
take_walk = takes_as reply_kind ReplySpells reply_spelling IsReadableReply qids_law 111 walk
    (record { type = λ x. refl; bytes = λ x. refl; spells = λ x h. h; readable = λ x h. tt })

take_read : TakesReply 117 (as_message data_at read)
take_read = takes_as reply_kind ReplySpells reply_spelling IsReadableReply data_law 117 read
    (record { type = λ x. refl; bytes = λ x. refl; spells = λ x h. h; readable = λ x h. h })

take_write : TakesReply 119 (as_message u32_at write)
take_write = takes_as reply_kind ReplySpells reply_spelling IsReadableReply law32 119 write
    (record { type = λ x. refl; bytes = λ x. refl; spells = λ x h. h; readable = λ x h. tt })

take_clunk : TakesReply 121 (give clunk)
take_clunk = takes_give reply_kind ReplySpells reply_spelling IsReadableReply 121 clunk refl refl
    tt tt

take_remove : TakesReply 123 (give remove)
take_remove = takes_give reply_kind ReplySpells reply_spelling IsReadableReply 123 remove refl refl
    tt tt

replies_take : (kind : ℕ) → TakesReply kind (reply_reading kind)
replies_take kind =
    (takes_if reply_kind ReplySpells reply_spelling IsReadableReply kind 7 _ _ take_lerror
    (takes_if reply_kind ReplySpells reply_spelling IsReadableReply kind 9 _ _ take_statfs
    (takes_if reply_kind ReplySpells reply_spelling IsReadableReply kind 13 _ _ take_lopen
    (takes_if reply_kind ReplySpells reply_spelling IsReadableReply kind 15 _ _ take_lcreate
    (takes_if reply_kind ReplySpells reply_spelling IsReadableReply kind 17 _ _ take_symlink
    (takes_if reply_kind ReplySpells reply_spelling IsReadableReply kind 19 _ _ take_mknod
    (takes_if reply_kind ReplySpells reply_spelling IsReadableReply kind 21 _ _ take_rename
    (takes_if reply_kind ReplySpells reply_spelling IsReadableReply kind 23 _ _ take_readlink
    (takes_if reply_kind ReplySpells reply_spelling IsReadableReply kind 25 _ _ take_getattr
    (takes_if reply_kind ReplySpells reply_spelling IsReadableReply kind 27 _ _ take_setattr
    (takes_if reply_kind ReplySpells reply_spelling IsReadableReply kind 31 _ _ take_xattrwalk
    (takes_if reply_kind ReplySpells reply_spelling IsReadableReply kind 33 _ _ take_xattrcreate
    (takes_if reply_kind ReplySpells reply_spelling IsReadableReply kind 41 _ _ take_readdir
    (takes_if reply_kind ReplySpells reply_spelling IsReadableReply kind 51 _ _ take_fsync
    (takes_if reply_kind ReplySpells reply_spelling IsReadableReply kind 53 _ _ take_lock
    (takes_if reply_kind ReplySpells reply_spelling IsReadableReply kind 55 _ _ take_getlock
    (takes_if reply_kind ReplySpells reply_spelling IsReadableReply kind 71 _ _ take_link
    (takes_if reply_kind ReplySpells reply_spelling IsReadableReply kind 73 _ _ take_mkdir
    (takes_if reply_kind ReplySpells reply_spelling IsReadableReply kind 75 _ _ take_renameat
    (takes_if reply_kind ReplySpells reply_spelling IsReadableReply kind 77 _ _ take_unlinkat
    (takes_if reply_kind ReplySpells reply_spelling IsReadableReply kind 101 _ _ take_version
    (takes_if reply_kind ReplySpells reply_spelling IsReadableReply kind 103 _ _ take_auth
    (takes_if reply_kind ReplySpells reply_spelling IsReadableReply kind 105 _ _ take_attach
    (takes_if reply_kind ReplySpells reply_spelling IsReadableReply kind 109 _ _ take_flush
    (takes_if reply_kind ReplySpells reply_spelling IsReadableReply kind 111 _ _ take_walk
    (takes_if reply_kind ReplySpells reply_spelling IsReadableReply kind 117 _ _ take_read
    (takes_if reply_kind ReplySpells reply_spelling IsReadableReply kind 119 _ _ take_write
    (takes_if reply_kind ReplySpells reply_spelling IsReadableReply kind 121 _ _ take_clunk
    (takes_if reply_kind ReplySpells reply_spelling IsReadableReply kind 123 _ _ take_remove
    (takes_none reply_kind ReplySpells reply_spelling IsReadableReply kind
    InvalidData))))))))))))))))))))))))))))))

pub replies_lawful : LawfulMessages reply_kind ReplySpells reply_spelling IsReadableReply
    reply_reading
replies_lawful = record {
  takes = replies_take;
  again = replies_again;
  unique = unique_by reply_kind ReplySpells reply_spelling IsReadableReply
      (reply_by any_data_at) any_again;
}
