-- The messages that a client sends, without where they lie in memory, and how they are spelled and
-- read.
use Rattle.std.specs.Prelude.{ℕ, List, ◌++◌, ◌==◌, if◌then◌else◌, map}
use Rattle.p9_wire.specs.declared.error.WireError.TheVariants.{InvalidData}
use Rattle.p9_wire.specs.Reading.{Reads, refuse}
use Rattle.p9_wire.specs.Fields.{pair_reading}
use Rattle.p9_wire.specs.Values.{DataSpells, IsU16, IsU32, IsU64, IsU8, TextSpells, TextsSpell}
use Rattle.p9_wire.specs.Values.{IsReadableData, data_spelling, le16, le32, le64, le8}
use Rattle.p9_wire.specs.Values.{text_spelling, texts_spelling, data_at, text_at, texts_at, u16_at}
use Rattle.p9_wire.specs.Values.{u32_at, u64_at, u8_at}
use Rattle.p9_wire.specs.Kinds.{as_message}
use Rattle.p9_tmsg.specs.declared.message.Tmessage.{Tmessage}
use Rattle.p9_tmsg.specs.declared.message.Tmessage.TheVariants as t

-- the fields in the order of the wire
pub data Message : Type 0 where
  statfs : (fid : ℕ) → Message
  lopen : (fid flags : ℕ) → Message
  lcreate : (fid : ℕ) (name : List ℕ) (flags mode gid : ℕ) → Message
  symlink : (fid : ℕ) (name symtgt : List ℕ) (gid : ℕ) → Message
  mknod : (dfid : ℕ) (name : List ℕ) (mode major minor gid : ℕ) → Message
  rename : (fid dfid : ℕ) (name : List ℕ) → Message
  readlink : (fid : ℕ) → Message
  getattr : (fid request_mask : ℕ) → Message
  setattr : (fid valid mode uid gid size atime_sec atime_nsec mtime_sec mtime_nsec : ℕ) → Message
  xattrwalk : (fid newfid : ℕ) (name : List ℕ) → Message
  xattrcreate : (fid : ℕ) (name : List ℕ) (attr_size flags : ℕ) → Message
  readdir : (fid offset count : ℕ) → Message
  fsync : (fid datasync : ℕ) → Message
  lock : (fid kind_ flags start length proc_id : ℕ) (client_id : List ℕ) → Message
  getlock : (fid kind_ start length proc_id : ℕ) (client_id : List ℕ) → Message
  link : (dfid fid : ℕ) (name : List ℕ) → Message
  mkdir : (dfid : ℕ) (name : List ℕ) (mode gid : ℕ) → Message
  renameat : (olddirfid : ℕ) (oldname : List ℕ) (newdirfid : ℕ) (newname : List ℕ) → Message
  unlinkat : (dirfd : ℕ) (name : List ℕ) (flags : ℕ) → Message
  version : (msize : ℕ) (protocol : List ℕ) → Message
  auth : (afid : ℕ) (uname aname : List ℕ) (n_uname : ℕ) → Message
  attach : (fid afid : ℕ) (uname aname : List ℕ) (n_uname : ℕ) → Message
  flush : (oldtag : ℕ) → Message
  walk : (fid newfid : ℕ) (wnames : List (List ℕ)) → Message
  read : (fid offset count : ℕ) → Message
  write : (fid offset : ℕ) (payload : List ℕ) → Message
  clunk : (fid : ℕ) → Message
  remove : (fid : ℕ) → Message

abbrev pub message_of : Tmessage → Message
message_of (t.Statfs m) = statfs m.fid
message_of (t.Lopen m) = lopen m.fid m.flags
message_of (t.Lcreate m) = lcreate m.fid m.name m.flags m.mode m.gid
message_of (t.Symlink m) = symlink m.fid m.name m.symtgt m.gid
message_of (t.Mknod m) = mknod m.dfid m.name m.mode m.major m.minor m.gid
message_of (t.Rename m) = rename m.fid m.dfid m.name
message_of (t.Readlink m) = readlink m.fid
message_of (t.GetAttr m) = getattr m.fid m.request_mask
message_of (t.SetAttr m) = setattr m.fid m.valid m.mode m.uid m.gid m.size m.atime_sec m.atime_nsec
    m.mtime_sec m.mtime_nsec
message_of (t.XattrWalk m) = xattrwalk m.fid m.newfid m.name
message_of (t.XattrCreate m) = xattrcreate m.fid m.name m.attr_size m.flags
message_of (t.Readdir m) = readdir m.fid m.offset m.count
message_of (t.Fsync m) = fsync m.fid m.datasync
message_of (t.Lock m) = lock m.fid m.kind_ m.flags m.start m.length m.proc_id m.client_id
message_of (t.GetLock m) = getlock m.fid m.kind_ m.start m.length m.proc_id m.client_id
message_of (t.Link m) = link m.dfid m.fid m.name
message_of (t.Mkdir m) = mkdir m.dfid m.name m.mode m.gid
message_of (t.RenameAt m) = renameat m.olddirfid m.oldname m.newdirfid m.newname
message_of (t.UnlinkAt m) = unlinkat m.dirfd m.name m.flags
message_of (t.Version m) = version m.msize m.version
message_of (t.Auth m) = auth m.afid m.uname m.aname m.n_uname
message_of (t.Attach m) = attach m.fid m.afid m.uname m.aname m.n_uname
message_of (t.Flush m) = flush m.oldtag
message_of (t.Walk m) = walk m.fid m.newfid (map (λ (s : List ℕ). s) m.wnames.items)
message_of (t.Read m) = read m.fid m.offset m.count
message_of (t.Write m) = write m.fid m.offset m.payload.0.items
message_of (t.Clunk m) = clunk m.fid
message_of (t.Remove m) = remove m.fid

-- the number of the type
abbrev pub message_kind : Message → ℕ
message_kind (statfs fid) = 8
message_kind (lopen fid flags) = 12
message_kind (lcreate fid name flags mode gid) = 14
message_kind (symlink fid name symtgt gid) = 16
message_kind (mknod dfid name mode major minor gid) = 18
message_kind (rename fid dfid name) = 20
message_kind (readlink fid) = 22
message_kind (getattr fid request_mask) = 24
message_kind (setattr fid valid mode uid gid size atime_sec atime_nsec mtime_sec mtime_nsec) = 26
message_kind (xattrwalk fid newfid name) = 30
message_kind (xattrcreate fid name attr_size flags) = 32
message_kind (readdir fid offset count) = 40
message_kind (fsync fid datasync) = 50
message_kind (lock fid kind_ flags start length proc_id client_id) = 52
message_kind (getlock fid kind_ start length proc_id client_id) = 54
message_kind (link dfid fid name) = 70
message_kind (mkdir dfid name mode gid) = 72
message_kind (renameat olddirfid oldname newdirfid newname) = 74
message_kind (unlinkat dirfd name flags) = 76
message_kind (version msize protocol) = 100
message_kind (auth afid uname aname n_uname) = 102
message_kind (attach fid afid uname aname n_uname) = 104
message_kind (flush oldtag) = 108
message_kind (walk fid newfid wnames) = 110
message_kind (read fid offset count) = 116
message_kind (write fid offset payload) = 118
message_kind (clunk fid) = 120
message_kind (remove fid) = 122

-- the bytes of the fields
abbrev pub message_spelling : Message → List ℕ
message_spelling (statfs fid) = le32 fid
message_spelling (lopen fid flags) = le32 fid ++ le32 flags
message_spelling (lcreate fid name flags mode gid) = le32 fid
    ++ (text_spelling name ++ (le32 flags ++ (le32 mode ++ le32 gid)))
message_spelling (symlink fid name symtgt gid) = le32 fid
    ++ (text_spelling name ++ (text_spelling symtgt ++ le32 gid))
message_spelling (mknod dfid name mode major minor gid) = le32 dfid
    ++ (text_spelling name ++ (le32 mode ++ (le32 major ++ (le32 minor ++ le32 gid))))
message_spelling (rename fid dfid name) = le32 fid ++ (le32 dfid ++ text_spelling name)
message_spelling (readlink fid) = le32 fid
message_spelling (getattr fid request_mask) = le32 fid ++ le64 request_mask
message_spelling (setattr fid valid mode uid gid size atime_sec atime_nsec mtime_sec mtime_nsec) =
    (le32 fid ++ (le32 valid ++ (le32 mode ++ (le32 uid ++ (le32 gid ++ le64 size)))))
    ++ (le64 atime_sec ++ (le64 atime_nsec ++ (le64 mtime_sec ++ le64 mtime_nsec)))
message_spelling (xattrwalk fid newfid name) = le32 fid ++ (le32 newfid ++ text_spelling name)
message_spelling (xattrcreate fid name attr_size flags) = le32 fid
    ++ (text_spelling name ++ (le64 attr_size ++ le32 flags))
message_spelling (readdir fid offset count) = le32 fid ++ (le64 offset ++ le32 count)
message_spelling (fsync fid datasync) = le32 fid ++ le32 datasync
message_spelling (lock fid kind_ flags start length proc_id client_id) =
    (le32 fid ++ (le8 kind_ ++ le32 flags))
    ++ (le64 start ++ (le64 length ++ (le32 proc_id ++ text_spelling client_id)))
message_spelling (getlock fid kind_ start length proc_id client_id) = le32 fid
    ++ (le8 kind_ ++ (le64 start ++ (le64 length ++ (le32 proc_id ++ text_spelling client_id))))
message_spelling (link dfid fid name) = le32 dfid ++ (le32 fid ++ text_spelling name)
message_spelling (mkdir dfid name mode gid) = le32 dfid
    ++ (text_spelling name ++ (le32 mode ++ le32 gid))
message_spelling (renameat olddirfid oldname newdirfid newname) = le32 olddirfid
    ++ (text_spelling oldname ++ (le32 newdirfid ++ text_spelling newname))
message_spelling (unlinkat dirfd name flags) = le32 dirfd ++ (text_spelling name ++ le32 flags)
message_spelling (version msize protocol) = le32 msize ++ text_spelling protocol
message_spelling (auth afid uname aname n_uname) = le32 afid
    ++ (text_spelling uname ++ (text_spelling aname ++ le32 n_uname))
message_spelling (attach fid afid uname aname n_uname) = le32 fid
    ++ (le32 afid ++ (text_spelling uname ++ (text_spelling aname ++ le32 n_uname)))
message_spelling (flush oldtag) = le16 oldtag
message_spelling (walk fid newfid wnames) = le32 fid ++ (le32 newfid ++ texts_spelling wnames)
message_spelling (read fid offset count) = le32 fid ++ (le64 offset ++ le32 count)
message_spelling (write fid offset payload) = le32 fid ++ (le64 offset ++ data_spelling payload)
message_spelling (clunk fid) = le32 fid
message_spelling (remove fid) = le32 fid

-- each field fits its width
abbrev pub MessageSpells : Message → Type 0
MessageSpells (statfs fid) = IsU32 fid
MessageSpells (lopen fid flags) = IsU32 fid × IsU32 flags
MessageSpells (lcreate fid name flags mode gid) = IsU32 fid
    × (TextSpells name × (IsU32 flags × (IsU32 mode × IsU32 gid)))
MessageSpells (symlink fid name symtgt gid) = IsU32 fid
    × (TextSpells name × (TextSpells symtgt × IsU32 gid))
MessageSpells (mknod dfid name mode major minor gid) = IsU32 dfid
    × (TextSpells name × (IsU32 mode × (IsU32 major × (IsU32 minor × IsU32 gid))))
MessageSpells (rename fid dfid name) = IsU32 fid × (IsU32 dfid × TextSpells name)
MessageSpells (readlink fid) = IsU32 fid
MessageSpells (getattr fid request_mask) = IsU32 fid × IsU64 request_mask
MessageSpells (setattr fid valid mode uid gid size atime_sec atime_nsec mtime_sec mtime_nsec) =
    (IsU32 fid × (IsU32 valid × (IsU32 mode × (IsU32 uid × (IsU32 gid × IsU64 size)))))
    × (IsU64 atime_sec × (IsU64 atime_nsec × (IsU64 mtime_sec × IsU64 mtime_nsec)))
MessageSpells (xattrwalk fid newfid name) = IsU32 fid × (IsU32 newfid × TextSpells name)
MessageSpells (xattrcreate fid name attr_size flags) = IsU32 fid
    × (TextSpells name × (IsU64 attr_size × IsU32 flags))
MessageSpells (readdir fid offset count) = IsU32 fid × (IsU64 offset × IsU32 count)
MessageSpells (fsync fid datasync) = IsU32 fid × IsU32 datasync
MessageSpells (lock fid kind_ flags start length proc_id client_id) =
    (IsU32 fid × (IsU8 kind_ × IsU32 flags))
    × (IsU64 start × (IsU64 length × (IsU32 proc_id × TextSpells client_id)))
MessageSpells (getlock fid kind_ start length proc_id client_id) = IsU32 fid
    × (IsU8 kind_ × (IsU64 start × (IsU64 length × (IsU32 proc_id × TextSpells client_id))))
MessageSpells (link dfid fid name) = IsU32 dfid × (IsU32 fid × TextSpells name)
MessageSpells (mkdir dfid name mode gid) = IsU32 dfid × (TextSpells name × (IsU32 mode × IsU32 gid))
MessageSpells (renameat olddirfid oldname newdirfid newname) = IsU32 olddirfid
    × (TextSpells oldname × (IsU32 newdirfid × TextSpells newname))
MessageSpells (unlinkat dirfd name flags) = IsU32 dirfd × (TextSpells name × IsU32 flags)
MessageSpells (version msize protocol) = IsU32 msize × TextSpells protocol
MessageSpells (auth afid uname aname n_uname) = IsU32 afid
    × (TextSpells uname × (TextSpells aname × IsU32 n_uname))
MessageSpells (attach fid afid uname aname n_uname) = IsU32 fid
    × (IsU32 afid × (TextSpells uname × (TextSpells aname × IsU32 n_uname)))
MessageSpells (flush oldtag) = IsU16 oldtag
MessageSpells (walk fid newfid wnames) = IsU32 fid × (IsU32 newfid × TextsSpell wnames)
MessageSpells (read fid offset count) = IsU32 fid × (IsU64 offset × IsU32 count)
MessageSpells (write fid offset payload) = IsU32 fid × (IsU64 offset × DataSpells payload)
MessageSpells (clunk fid) = IsU32 fid
MessageSpells (remove fid) = IsU32 fid

-- a decoder takes it
abbrev pub IsReadableMessage : Message → Type 0
IsReadableMessage (write fid offset payload) = IsReadableData payload
IsReadableMessage m = Unit {0}

-- the message of this type, with its data read so
abbrev pub message_by : Reads (List ℕ) → ℕ → Reads Message
message_by payload_at kind =
    if kind == 8 then as_message u32_at statfs else
    if kind == 12 then as_message (pair_reading u32_at u32_at) (λ x. lopen x.0 x.1) else
    if kind == 14 then as_message (pair_reading u32_at
    (pair_reading text_at (pair_reading u32_at (pair_reading u32_at u32_at))))
    (λ x. lcreate x.0 x.1.0 x.1.1.0 x.1.1.1.0 x.1.1.1.1) else
    if kind == 16 then as_message (pair_reading u32_at
    (pair_reading text_at (pair_reading text_at u32_at)))
    (λ x. symlink x.0 x.1.0 x.1.1.0 x.1.1.1) else
    if kind == 18 then as_message (pair_reading u32_at
    (pair_reading text_at (pair_reading u32_at
    (pair_reading u32_at (pair_reading u32_at u32_at)))))
    (λ x. mknod x.0 x.1.0 x.1.1.0 x.1.1.1.0 x.1.1.1.1.0 x.1.1.1.1.1) else
    if kind == 20 then as_message (pair_reading u32_at (pair_reading u32_at text_at))
    (λ x. rename x.0 x.1.0 x.1.1) else
    if kind == 22 then as_message u32_at readlink else
    if kind == 24 then as_message (pair_reading u32_at u64_at) (λ x. getattr x.0 x.1) else
    if kind == 26 then as_message (pair_reading
    (pair_reading u32_at (pair_reading u32_at
    (pair_reading u32_at (pair_reading u32_at (pair_reading u32_at u64_at)))))
    (pair_reading u64_at (pair_reading u64_at (pair_reading u64_at u64_at))))
    (λ x. setattr x.0.0 x.0.1.0 x.0.1.1.0 x.0.1.1.1.0 x.0.1.1.1.1.0 x.0.1.1.1.1.1 x.1.0 x.1.1.0
    x.1.1.1.0 x.1.1.1.1) else
    if kind == 30 then as_message (pair_reading u32_at (pair_reading u32_at text_at))
    (λ x. xattrwalk x.0 x.1.0 x.1.1) else
    if kind == 32 then as_message (pair_reading u32_at
    (pair_reading text_at (pair_reading u64_at u32_at)))
    (λ x. xattrcreate x.0 x.1.0 x.1.1.0 x.1.1.1) else
    if kind == 40 then as_message (pair_reading u32_at (pair_reading u64_at u32_at))
    (λ x. readdir x.0 x.1.0 x.1.1) else
    if kind == 50 then as_message (pair_reading u32_at u32_at) (λ x. fsync x.0 x.1) else
    if kind == 52 then as_message (pair_reading (pair_reading u32_at (pair_reading u8_at u32_at))
    (pair_reading u64_at (pair_reading u64_at (pair_reading u32_at text_at))))
    (λ x. lock x.0.0 x.0.1.0 x.0.1.1 x.1.0 x.1.1.0 x.1.1.1.0 x.1.1.1.1) else
    if kind == 54 then as_message (pair_reading u32_at
    (pair_reading u8_at (pair_reading u64_at
    (pair_reading u64_at (pair_reading u32_at text_at)))))
    (λ x. getlock x.0 x.1.0 x.1.1.0 x.1.1.1.0 x.1.1.1.1.0 x.1.1.1.1.1) else
    if kind == 70 then as_message (pair_reading u32_at (pair_reading u32_at text_at))
    (λ x. link x.0 x.1.0 x.1.1) else
    if kind == 72 then as_message (pair_reading u32_at
    (pair_reading text_at (pair_reading u32_at u32_at)))
    (λ x. mkdir x.0 x.1.0 x.1.1.0 x.1.1.1) else
    if kind == 74 then as_message (pair_reading u32_at
    (pair_reading text_at (pair_reading u32_at text_at)))
    (λ x. renameat x.0 x.1.0 x.1.1.0 x.1.1.1) else
    if kind == 76 then as_message (pair_reading u32_at (pair_reading text_at u32_at))
    (λ x. unlinkat x.0 x.1.0 x.1.1) else
    if kind == 100 then as_message (pair_reading u32_at text_at) (λ x. version x.0 x.1) else
    if kind == 102 then as_message (pair_reading u32_at
    (pair_reading text_at (pair_reading text_at u32_at)))
    (λ x. auth x.0 x.1.0 x.1.1.0 x.1.1.1) else
    if kind == 104 then as_message (pair_reading u32_at
    (pair_reading u32_at (pair_reading text_at (pair_reading text_at u32_at))))
    (λ x. attach x.0 x.1.0 x.1.1.0 x.1.1.1.0 x.1.1.1.1) else
    if kind == 108 then as_message u16_at flush else
    if kind == 110 then as_message (pair_reading u32_at (pair_reading u32_at texts_at))
    (λ x. walk x.0 x.1.0 x.1.1) else
    if kind == 116 then as_message (pair_reading u32_at (pair_reading u64_at u32_at))
    (λ x. read x.0 x.1.0 x.1.1) else
    if kind == 118 then as_message (pair_reading u32_at (pair_reading u64_at payload_at))
    (λ x. write x.0 x.1.0 x.1.1) else
    if kind == 120 then as_message u32_at clunk else
    if kind == 122 then as_message u32_at remove else
    refuse InvalidData

abbrev pub message_reading : ℕ → Reads Message
message_reading = message_by data_at
