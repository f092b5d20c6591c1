-- Messages are spelled and read one way, each by the law of its fields.
use Rattle.std.proofs.Common.{◌≡◌, ℕ, List, ◌++◌, Ok, refl, subst}
use Rattle.p9_wire.specs.Reading.{Reads, Always, Lawful}
use Rattle.p9_wire.specs.Numbers.{law8, law16, law32, law64}
use Rattle.p9_wire.specs.Fields.{pair_reading}
use Rattle.p9_wire.specs.Values.{text_at, texts_at, u16_at, u32_at, u64_at, u8_at, then_law}
use Rattle.p9_wire.specs.Values.{text_law, texts_law, DataSpells, data_spelling, data_at, data_law}
use Rattle.p9_wire.specs.Values.{any_data_at, any_data_law}
use Rattle.p9_wire.specs.Frames.{LawfulMessages}
use Rattle.p9_wire.specs.Kinds.{as_message, again_as, Takes, takes_as, takes_none, takes_if}
use Rattle.p9_wire.specs.Kinds.{unique_by}
use Rattle.p9_wire.specs.declared.error.WireError.TheVariants.{InvalidData}
use Rattle.p9_tmsg.specs.Messages.{Message, message_kind, message_spelling, MessageSpells}
use Rattle.p9_tmsg.specs.Messages.{IsReadableMessage, message_by, message_reading}
use Rattle.p9_tmsg.specs.Messages.Message.{statfs, lopen, lcreate, symlink, mknod, rename, readlink}
use Rattle.p9_tmsg.specs.Messages.Message.{getattr, setattr, xattrwalk, xattrcreate, readdir, fsync}
use Rattle.p9_tmsg.specs.Messages.Message.{lock, getlock, link, mkdir, renameat, unlinkat, version}
use Rattle.p9_tmsg.specs.Messages.Message.{auth, attach, flush, walk, read, write, clunk, remove}

-- what is spelled is read back, where the data are
again_by : {R : List ℕ → Type 0} {payload_at : Reads (List ℕ)}
    → Lawful DataSpells data_spelling Always R payload_at → (m : Message) (rest : List ℕ)
    → MessageSpells m → ((fid offset : ℕ) (payload : List ℕ) → m ≡ write fid offset payload
    → R payload) → message_by payload_at (message_kind m) (message_spelling m ++ rest)
    ≡ Ok (m, rest)
again_by law (statfs fid) rest spells h = again_as law32 statfs fid rest spells tt
again_by law (lopen fid flags) rest spells h =
    again_as (then_law law32 law32) (λ x. lopen x.0 x.1) (fid, flags) rest spells tt
again_by law (lcreate fid name flags mode gid) rest spells h =
    again_as (then_law law32 (then_law text_law (then_law law32 (then_law law32 law32))))
    (λ x. lcreate x.0 x.1.0 x.1.1.0 x.1.1.1.0 x.1.1.1.1)
    (fid, (name, (flags, (mode, gid)))) rest spells tt
again_by law (symlink fid name symtgt gid) rest spells h =
    again_as (then_law law32 (then_law text_law (then_law text_law law32)))
    (λ x. symlink x.0 x.1.0 x.1.1.0 x.1.1.1) (fid, (name, (symtgt, gid))) rest spells tt
again_by law (mknod dfid name mode major minor gid) rest spells h =
    again_as (then_law law32 (then_law text_law
    (then_law law32 (then_law law32 (then_law law32 law32)))))
    (λ x. mknod x.0 x.1.0 x.1.1.0 x.1.1.1.0 x.1.1.1.1.0 x.1.1.1.1.1)
    (dfid, (name, (mode, (major, (minor, gid))))) rest spells tt
again_by law (rename fid dfid name) rest spells h =
    again_as (then_law law32 (then_law law32 text_law)) (λ x. rename x.0 x.1.0 x.1.1)
    (fid, (dfid, name)) rest spells tt
again_by law (readlink fid) rest spells h = again_as law32 readlink fid rest spells tt
again_by law (getattr fid request_mask) rest spells h =
    again_as (then_law law32 law64) (λ x. getattr x.0 x.1) (fid, request_mask) rest spells tt
again_by law (setattr fid valid mode uid gid size atime_sec atime_nsec mtime_sec mtime_nsec) rest
    spells h = again_as (then_law (then_law law32
    (then_law law32 (then_law law32 (then_law law32 (then_law law32 law64)))))
    (then_law law64 (then_law law64 (then_law law64 law64))))
    (λ x. setattr x.0.0 x.0.1.0 x.0.1.1.0 x.0.1.1.1.0 x.0.1.1.1.1.0 x.0.1.1.1.1.1 x.1.0 x.1.1.0
    x.1.1.1.0 x.1.1.1.1) (
      (fid, (valid, (mode, (uid, (gid, size))))),
      (atime_sec, (atime_nsec, (mtime_sec, mtime_nsec))),
    ) rest spells tt
again_by law (xattrwalk fid newfid name) rest spells h =
    again_as (then_law law32 (then_law law32 text_law)) (λ x. xattrwalk x.0 x.1.0 x.1.1)
    (fid, (newfid, name)) rest spells tt
again_by law (xattrcreate fid name attr_size flags) rest spells h =
    again_as (then_law law32 (then_law text_law (then_law law64 law32)))
    (λ x. xattrcreate x.0 x.1.0 x.1.1.0 x.1.1.1) (fid, (name, (attr_size, flags))) rest spells tt
again_by law (readdir fid offset count) rest spells h =
    again_as (then_law law32 (then_law law64 law32)) (λ x. readdir x.0 x.1.0 x.1.1)
    (fid, (offset, count)) rest spells tt
again_by law (fsync fid datasync) rest spells h =
    again_as (then_law law32 law32) (λ x. fsync x.0 x.1) (fid, datasync) rest spells tt
again_by law (lock fid kind_ flags start length proc_id client_id) rest spells h =
    again_as (then_law (then_law law32 (then_law law8 law32))
    (then_law law64 (then_law law64 (then_law law32 text_law))))
    (λ x. lock x.0.0 x.0.1.0 x.0.1.1 x.1.0 x.1.1.0 x.1.1.1.0 x.1.1.1.1)
    ((fid, (kind_, flags)), (start, (length, (proc_id, client_id)))) rest spells tt
again_by law (getlock fid kind_ start length proc_id client_id) rest spells h =
    again_as (then_law law32 (then_law law8
    (then_law law64 (then_law law64 (then_law law32 text_law)))))
    (λ x. getlock x.0 x.1.0 x.1.1.0 x.1.1.1.0 x.1.1.1.1.0 x.1.1.1.1.1)
    (fid, (kind_, (start, (length, (proc_id, client_id))))) rest spells tt
again_by law (link dfid fid name) rest spells h =
    again_as (then_law law32 (then_law law32 text_law)) (λ x. link x.0 x.1.0 x.1.1)
    (dfid, (fid, name)) rest spells tt
again_by law (mkdir dfid name mode gid) rest spells h =
    again_as (then_law law32 (then_law text_law (then_law law32 law32)))
    (λ x. mkdir x.0 x.1.0 x.1.1.0 x.1.1.1) (dfid, (name, (mode, gid))) rest spells tt
again_by law (renameat olddirfid oldname newdirfid newname) rest spells h =
    again_as (then_law law32 (then_law text_law (then_law law32 text_law)))
    (λ x. renameat x.0 x.1.0 x.1.1.0 x.1.1.1)
    (olddirfid, (oldname, (newdirfid, newname))) rest spells tt
again_by law (unlinkat dirfd name flags) rest spells h =
    again_as (then_law law32 (then_law text_law law32)) (λ x. unlinkat x.0 x.1.0 x.1.1)
    (dirfd, (name, flags)) rest spells tt
again_by law (version msize protocol) rest spells h =
    again_as (then_law law32 text_law) (λ x. version x.0 x.1) (msize, protocol) rest spells tt
again_by law (auth afid uname aname n_uname) rest spells h =
    again_as (then_law law32 (then_law text_law (then_law text_law law32)))
    (λ x. auth x.0 x.1.0 x.1.1.0 x.1.1.1) (afid, (uname, (aname, n_uname))) rest spells tt
again_by law (attach fid afid uname aname n_uname) rest spells h =
    again_as (then_law law32 (then_law law32 (then_law text_law (then_law text_law law32))))
    (λ x. attach x.0 x.1.0 x.1.1.0 x.1.1.1.0 x.1.1.1.1)
    (fid, (afid, (uname, (aname, n_uname)))) rest spells tt
again_by law (flush oldtag) rest spells h = again_as law16 flush oldtag rest spells tt
again_by law (walk fid newfid wnames) rest spells h =
    again_as (then_law law32 (then_law law32 texts_law)) (λ x. walk x.0 x.1.0 x.1.1)
    (fid, (newfid, wnames)) rest spells tt
again_by law (read fid offset count) rest spells h =
    again_as (then_law law32 (then_law law64 law32)) (λ x. read x.0 x.1.0 x.1.1)
    (fid, (offset, count)) rest spells tt
again_by law (write fid offset payload) rest spells h =
    again_as (then_law law32 (then_law law64 law)) (λ x. write x.0 x.1.0 x.1.1)
    (fid, (offset, payload)) rest spells (h fid offset payload refl)
again_by law (clunk fid) rest spells h = again_as law32 clunk fid rest spells tt
again_by law (remove fid) rest spells h = again_as law32 remove fid rest spells tt

messages_again : (m : Message) (rest : List ℕ) → MessageSpells m → IsReadableMessage m
    → message_reading (message_kind m) (message_spelling m ++ rest) ≡ Ok (m, rest)
messages_again m rest spells readable = again_by data_law m rest spells
    (λ fid offset payload e. subst IsReadableMessage e readable)

any_again : (m : Message) (rest : List ℕ) → MessageSpells m
    → message_by any_data_at (message_kind m) (message_spelling m ++ rest) ≡ Ok (m, rest)
any_again m rest spells = again_by any_data_law m rest spells (λ fid offset payload e. tt)

-- what is read as a message of one type is that message's bytes
abbrev TakesMessage : ℕ → Reads Message → Type 0
TakesMessage = Takes message_kind MessageSpells message_spelling IsReadableMessage

take_statfs : TakesMessage 8 (as_message u32_at statfs)
take_statfs = takes_as message_kind MessageSpells message_spelling IsReadableMessage law32 8 statfs
    (record { type = λ x. refl; bytes = λ x. refl; spells = λ x h. h; readable = λ x h. tt })

take_lopen : TakesMessage 12 (as_message (pair_reading u32_at u32_at) (λ x. lopen x.0 x.1))
take_lopen = takes_as message_kind MessageSpells message_spelling IsReadableMessage
    (then_law law32 law32) 12 (λ x. lopen x.0 x.1)
    (record { type = λ x. refl; bytes = λ x. refl; spells = λ x h. h; readable = λ x h. tt })

take_lcreate : TakesMessage 14 (as_message
    (pair_reading u32_at (pair_reading text_at (pair_reading u32_at (pair_reading u32_at u32_at))))
    (λ x. lcreate x.0 x.1.0 x.1.1.0 x.1.1.1.0 x.1.1.1.1))
take_lcreate = takes_as message_kind MessageSpells message_spelling IsReadableMessage
    (then_law law32 (then_law text_law (then_law law32 (then_law law32 law32)))) 14
    (λ x. lcreate x.0 x.1.0 x.1.1.0 x.1.1.1.0 x.1.1.1.1)
    (record { type = λ x. refl; bytes = λ x. refl; spells = λ x h. h; readable = λ x h. tt })

take_symlink : TakesMessage 16 (as_message
    (pair_reading u32_at (pair_reading text_at (pair_reading text_at u32_at)))
    (λ x. symlink x.0 x.1.0 x.1.1.0 x.1.1.1))
take_symlink = takes_as message_kind MessageSpells message_spelling IsReadableMessage
    (then_law law32 (then_law text_law (then_law text_law law32))) 16
    (λ x. symlink x.0 x.1.0 x.1.1.0 x.1.1.1)
    (record { type = λ x. refl; bytes = λ x. refl; spells = λ x h. h; readable = λ x h. tt })

take_mknod : TakesMessage 18 (as_message
    (pair_reading u32_at (pair_reading text_at
    (pair_reading u32_at (pair_reading u32_at (pair_reading u32_at u32_at)))))
    (λ x. mknod x.0 x.1.0 x.1.1.0 x.1.1.1.0 x.1.1.1.1.0 x.1.1.1.1.1))
take_mknod = takes_as message_kind MessageSpells message_spelling IsReadableMessage
    (then_law law32 (then_law text_law (then_law law32 (then_law law32 (then_law law32 law32)))))
    18 (λ x. mknod x.0 x.1.0 x.1.1.0 x.1.1.1.0 x.1.1.1.1.0 x.1.1.1.1.1)
    (record { type = λ x. refl; bytes = λ x. refl; spells = λ x h. h; readable = λ x h. tt })

take_rename : TakesMessage 20 (as_message (pair_reading u32_at (pair_reading u32_at text_at))
    (λ x. rename x.0 x.1.0 x.1.1))
take_rename = takes_as message_kind MessageSpells message_spelling IsReadableMessage
    (then_law law32 (then_law law32 text_law)) 20 (λ x. rename x.0 x.1.0 x.1.1)
    (record { type = λ x. refl; bytes = λ x. refl; spells = λ x h. h; readable = λ x h. tt })

take_readlink : TakesMessage 22 (as_message u32_at readlink)
take_readlink = takes_as message_kind MessageSpells message_spelling IsReadableMessage law32 22
    readlink (record {
      type = λ x. refl;
      bytes = λ x. refl;
      spells = λ x h. h;
      readable =
          λ x h. tt;
    })

take_getattr : TakesMessage 24 (as_message (pair_reading u32_at u64_at) (λ x. getattr x.0 x.1))
take_getattr = takes_as message_kind MessageSpells message_spelling IsReadableMessage
    (then_law law32 law64) 24 (λ x. getattr x.0 x.1)
    (record { type = λ x. refl; bytes = λ x. refl; spells = λ x h. h; readable = λ x h. tt })

take_setattr : TakesMessage 26 (as_message
    (pair_reading (pair_reading u32_at (pair_reading u32_at
    (pair_reading u32_at (pair_reading u32_at (pair_reading u32_at u64_at)))))
    (pair_reading u64_at (pair_reading u64_at (pair_reading u64_at u64_at))))
    (λ x. setattr x.0.0 x.0.1.0 x.0.1.1.0 x.0.1.1.1.0 x.0.1.1.1.1.0 x.0.1.1.1.1.1 x.1.0 x.1.1.0
    x.1.1.1.0 x.1.1.1.1))
take_setattr = takes_as message_kind MessageSpells message_spelling IsReadableMessage
    (then_law (then_law law32 (then_law law32
    (then_law law32 (then_law law32 (then_law law32 law64)))))
    (then_law law64 (then_law law64 (then_law law64 law64)))) 26
    (λ x. setattr x.0.0 x.0.1.0 x.0.1.1.0 x.0.1.1.1.0 x.0.1.1.1.1.0 x.0.1.1.1.1.1 x.1.0 x.1.1.0
    x.1.1.1.0 x.1.1.1.1) (record {
      type = λ x. refl;
      bytes = λ x. refl;
      spells =
          λ x h. h;
      readable = λ x h. tt;
    })

take_xattrwalk : TakesMessage 30 (as_message (pair_reading u32_at (pair_reading u32_at text_at))
    (λ x. xattrwalk x.0 x.1.0 x.1.1))
take_xattrwalk = takes_as message_kind MessageSpells message_spelling IsReadableMessage
    (then_law law32 (then_law law32 text_law)) 30 (λ x. xattrwalk x.0 x.1.0 x.1.1)
    (record { type = λ x. refl; bytes = λ x. refl; spells = λ x h. h; readable = λ x h. tt })

take_xattrcreate : TakesMessage 32 (as_message
    (pair_reading u32_at (pair_reading text_at (pair_reading u64_at u32_at)))
    (λ x. xattrcreate x.0 x.1.0 x.1.1.0 x.1.1.1))
take_xattrcreate = takes_as message_kind MessageSpells message_spelling IsReadableMessage
    (then_law law32 (then_law text_law (then_law law64 law32))) 32
    (λ x. xattrcreate x.0 x.1.0 x.1.1.0 x.1.1.1)
    (record { type = λ x. refl; bytes = λ x. refl; spells = λ x h. h; readable = λ x h. tt })

take_readdir : TakesMessage 40 (as_message (pair_reading u32_at (pair_reading u64_at u32_at))
    (λ x. readdir x.0 x.1.0 x.1.1))
take_readdir = takes_as message_kind MessageSpells message_spelling IsReadableMessage
    (then_law law32 (then_law law64 law32)) 40 (λ x. readdir x.0 x.1.0 x.1.1)
    (record { type = λ x. refl; bytes = λ x. refl; spells = λ x h. h; readable = λ x h. tt })

take_fsync : TakesMessage 50 (as_message (pair_reading u32_at u32_at) (λ x. fsync x.0 x.1))
take_fsync = takes_as message_kind MessageSpells message_spelling IsReadableMessage
    (then_law law32 law32) 50 (λ x. fsync x.0 x.1)
    (record { type = λ x. refl; bytes = λ x. refl; spells = λ x h. h; readable = λ x h. tt })

take_lock : TakesMessage 52 (as_message (pair_reading
    (pair_reading u32_at (pair_reading u8_at u32_at))
    (pair_reading u64_at (pair_reading u64_at (pair_reading u32_at text_at))))
    (λ x. lock x.0.0 x.0.1.0 x.0.1.1 x.1.0 x.1.1.0 x.1.1.1.0 x.1.1.1.1))
take_lock = takes_as message_kind MessageSpells message_spelling IsReadableMessage
    (then_law (then_law law32 (then_law law8 law32))
    (then_law law64 (then_law law64 (then_law law32 text_law)))) 52
    (λ x. lock x.0.0 x.0.1.0 x.0.1.1 x.1.0 x.1.1.0 x.1.1.1.0 x.1.1.1.1)
    (record { type = λ x. refl; bytes = λ x. refl; spells = λ x h. h; readable = λ x h. tt })

take_getlock : TakesMessage 54 (as_message
    (pair_reading u32_at (pair_reading u8_at
    (pair_reading u64_at (pair_reading u64_at (pair_reading u32_at text_at)))))
    (λ x. getlock x.0 x.1.0 x.1.1.0 x.1.1.1.0 x.1.1.1.1.0 x.1.1.1.1.1))
take_getlock = takes_as message_kind MessageSpells message_spelling IsReadableMessage
    (then_law law32 (then_law law8 (then_law law64 (then_law law64 (then_law law32 text_law))))) 54
    (λ x. getlock x.0 x.1.0 x.1.1.0 x.1.1.1.0 x.1.1.1.1.0 x.1.1.1.1.1)
    (record { type = λ x. refl; bytes = λ x. refl; spells = λ x h. h; readable = λ x h. tt })

take_link : TakesMessage 70 (as_message (pair_reading u32_at (pair_reading u32_at text_at))
    (λ x. link x.0 x.1.0 x.1.1))
take_link = takes_as message_kind MessageSpells message_spelling IsReadableMessage
    (then_law law32 (then_law law32 text_law)) 70 (λ x. link x.0 x.1.0 x.1.1)
    (record { type = λ x. refl; bytes = λ x. refl; spells = λ x h. h; readable = λ x h. tt })

take_mkdir : TakesMessage 72 (as_message
    (pair_reading u32_at (pair_reading text_at (pair_reading u32_at u32_at)))
    (λ x. mkdir x.0 x.1.0 x.1.1.0 x.1.1.1))
take_mkdir = takes_as message_kind MessageSpells message_spelling IsReadableMessage
    (then_law law32 (then_law text_law (then_law law32 law32))) 72
    (λ x. mkdir x.0 x.1.0 x.1.1.0 x.1.1.1)
    (record { type = λ x. refl; bytes = λ x. refl; spells = λ x h. h; readable = λ x h. tt })

take_renameat : TakesMessage 74 (as_message
    (pair_reading u32_at (pair_reading text_at (pair_reading u32_at text_at)))
    (λ x. renameat x.0 x.1.0 x.1.1.0 x.1.1.1))
take_renameat = takes_as message_kind MessageSpells message_spelling IsReadableMessage
    (then_law law32 (then_law text_law (then_law law32 text_law))) 74
    (λ x. renameat x.0 x.1.0 x.1.1.0 x.1.1.1)
    (record { type = λ x. refl; bytes = λ x. refl; spells = λ x h. h; readable = λ x h. tt })

take_unlinkat : TakesMessage 76 (as_message (pair_reading u32_at (pair_reading text_at u32_at))
    (λ x. unlinkat x.0 x.1.0 x.1.1))
take_unlinkat = takes_as message_kind MessageSpells message_spelling IsReadableMessage
    (then_law law32 (then_law text_law law32)) 76 (λ x. unlinkat x.0 x.1.0 x.1.1)
    (record { type = λ x. refl; bytes = λ x. refl; spells = λ x h. h; readable = λ x h. tt })

take_version : TakesMessage 100 (as_message (pair_reading u32_at text_at) (λ x. version x.0 x.1))
take_version = takes_as message_kind MessageSpells message_spelling IsReadableMessage
    (then_law law32 text_law) 100 (λ x. version x.0 x.1)
    (record { type = λ x. refl; bytes = λ x. refl; spells = λ x h. h; readable = λ x h. tt })

take_auth : TakesMessage 102 (as_message
    (pair_reading u32_at (pair_reading text_at (pair_reading text_at u32_at)))
    (λ x. auth x.0 x.1.0 x.1.1.0 x.1.1.1))
take_auth = takes_as message_kind MessageSpells message_spelling IsReadableMessage
    (then_law law32 (then_law text_law (then_law text_law law32))) 102
    (λ x. auth x.0 x.1.0 x.1.1.0 x.1.1.1) (record
    { type = λ x. refl; bytes = λ x. refl; spells = λ x h. h; readable = λ x h. tt })

take_attach : TakesMessage 104 (as_message
    (pair_reading u32_at (pair_reading u32_at
    (pair_reading text_at (pair_reading text_at u32_at))))
    (λ x. attach x.0 x.1.0 x.1.1.0 x.1.1.1.0 x.1.1.1.1))
take_attach = takes_as message_kind MessageSpells message_spelling IsReadableMessage
    (then_law law32 (then_law law32 (then_law text_law (then_law text_law law32)))) 104
    (λ x. attach x.0 x.1.0 x.1.1.0 x.1.1.1.0 x.1.1.1.1)
    (record { type = λ x. refl; bytes = λ x. refl; spells = λ x h. h; readable = λ x h. tt })

take_flush : TakesMessage 108 (as_message u16_at flush)
take_flush = takes_as message_kind MessageSpells message_spelling IsReadableMessage law16 108 flush
    (record { type = λ x. refl; bytes = λ x. refl; spells = λ x h. h; readable = λ x h. tt })

take_walk : TakesMessage 110 (as_message (pair_reading u32_at (pair_reading u32_at texts_at))
    (λ x. walk x.0 x.1.0 x.1.1))
take_walk = takes_as message_kind MessageSpells message_spelling IsReadableMessage
    (then_law law32 (then_law law32 texts_law)) 110 (λ x. walk x.0 x.1.0 x.1.1)
    (record { type = λ x. refl; bytes = λ x. refl; spells = λ x h. h; readable = λ x h. tt })

take_read : TakesMessage 116 (as_message (pair_reading u32_at (pair_reading u64_at u32_at))
    (λ x. read x.0 x.1.0 x.1.1))
take_read = takes_as message_kind MessageSpells message_spelling IsReadableMessage
    (then_law law32 (then_law law64 law32)) 116 (λ x. read x.0 x.1.0 x.1.1)
    (record { type = λ x. refl; bytes = λ x. refl; spells = λ x h. h; readable = λ x h. tt })

take_write : TakesMessage 118 (as_message (pair_reading u32_at (pair_reading u64_at data_at))
    (λ x. write x.0 x.1.0 x.1.1))
take_write = takes_as message_kind MessageSpells message_spelling IsReadableMessage
    (then_law law32 (then_law law64 data_law)) 118 (λ x. write x.0 x.1.0 x.1.1)
    (record { type = λ x. refl; bytes = λ x. refl; spells = λ x h. h; readable = λ x h. h })

take_clunk : TakesMessage 120 (as_message u32_at clunk)
take_clunk = takes_as message_kind MessageSpells message_spelling IsReadableMessage law32 120 clunk
    (record { type = λ x. refl; bytes = λ x. refl; spells = λ x h. h; readable = λ x h. tt })

take_remove : TakesMessage 122 (as_message u32_at remove)
take_remove = takes_as message_kind MessageSpells message_spelling IsReadableMessage law32 122
    remove (record {
      type = λ x. refl;
      bytes = λ x. refl;
      spells = λ x h. h;
      readable =
          λ x h. tt;
    })

messages_take : (kind : ℕ) → TakesMessage kind (message_reading kind)
messages_take kind =
    (takes_if message_kind MessageSpells message_spelling IsReadableMessage kind 8 _ _ take_statfs
    (takes_if message_kind MessageSpells message_spelling IsReadableMessage kind 12 _ _ take_lopen
    (takes_if message_kind MessageSpells message_spelling IsReadableMessage kind 14 _ _ take_lcreate
    (takes_if message_kind MessageSpells message_spelling IsReadableMessage kind 16 _ _ take_symlink
    (takes_if message_kind MessageSpells message_spelling IsReadableMessage kind 18 _ _ take_mknod
    (takes_if message_kind MessageSpells message_spelling IsReadableMessage kind 20 _ _ take_rename
    (takes_if message_kind MessageSpells message_spelling IsReadableMessage kind 22 _ _
    take_readlink
    (takes_if message_kind MessageSpells message_spelling IsReadableMessage kind 24 _ _ take_getattr
    (takes_if message_kind MessageSpells message_spelling IsReadableMessage kind 26 _ _ take_setattr
    (takes_if message_kind MessageSpells message_spelling IsReadableMessage kind 30 _ _
    take_xattrwalk
    (takes_if message_kind MessageSpells message_spelling IsReadableMessage kind 32 _ _
    take_xattrcreate
    (takes_if message_kind MessageSpells message_spelling IsReadableMessage kind 40 _ _ take_readdir
    (takes_if message_kind MessageSpells message_spelling IsReadableMessage kind 50 _ _ take_fsync
    (takes_if message_kind MessageSpells message_spelling IsReadableMessage kind 52 _ _ take_lock
    (takes_if message_kind MessageSpells message_spelling IsReadableMessage kind 54 _ _ take_getlock
    (takes_if message_kind MessageSpells message_spelling IsReadableMessage kind 70 _ _ take_link
    (takes_if message_kind MessageSpells message_spelling IsReadableMessage kind 72 _ _ take_mkdir
    (takes_if message_kind MessageSpells message_spelling IsReadableMessage kind 74 _ _
    take_renameat
    (takes_if message_kind MessageSpells message_spelling IsReadableMessage kind 76 _ _
    take_unlinkat
    (takes_if message_kind MessageSpells message_spelling IsReadableMessage kind 100 _ _
    take_version
    (takes_if message_kind MessageSpells message_spelling IsReadableMessage kind 102 _ _ take_auth
    (takes_if message_kind MessageSpells message_spelling IsReadableMessage kind 104 _ _ take_attach
    (takes_if message_kind MessageSpells message_spelling IsReadableMessage kind 108 _ _ take_flush
    (takes_if message_kind MessageSpells message_spelling IsReadableMessage kind 110 _ _ take_walk
    (takes_if message_kind MessageSpells message_spelling IsReadableMessage kind 116 _ _ take_read
    (takes_if message_kind MessageSpells message_spelling IsReadableMessage kind 118 _ _ take_write
    (takes_if message_kind MessageSpells message_spelling IsReadableMessage kind 120 _ _ take_clunk
    (takes_if message_kind MessageSpells message_spelling IsReadableMessage kind 122 _ _ take_remove
    (takes_none message_kind MessageSpells message_spelling IsReadableMessage kind
    InvalidData)))))))))))))))))))))))))))))

pub messages_lawful : LawfulMessages message_kind MessageSpells message_spelling IsReadableMessage
    message_reading
messages_lawful = record {
  takes = messages_take;
  again = messages_again;
  unique = unique_by message_kind MessageSpells message_spelling IsReadableMessage
      (message_by any_data_at) any_again;
}
