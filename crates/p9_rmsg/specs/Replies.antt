-- The messages that a server answers, without where they lie in memory, and how they are spelled
-- and read.
use Rattle.std.specs.Prelude.{ℕ, List, [], ◌++◌, ◌==◌, if◌then◌else◌, map}
use Rattle.p9_wire.specs.declared.error.WireError.TheVariants.{InvalidData}
use Rattle.p9_wire.specs.Reading.{Reads, give, refuse}
use Rattle.p9_wire.specs.Fields.{pair_reading}
use Rattle.p9_wire.specs.Qids.{qid_of}
use Rattle.p9_wire.specs.Values.{DataSpells, IsU32, IsU64, IsU8, QidSpells, QidsSpell, TextSpells}
use Rattle.p9_wire.specs.Values.{IsReadableData, data_spelling, le32, le64, le8, qid_spelling}
use Rattle.p9_wire.specs.Values.{qids_spelling, text_spelling, data_at, qid_at, qids_at, text_at}
use Rattle.p9_wire.specs.Values.{u32_at, u64_at, u8_at}
use Rattle.p9_wire.specs.Kinds.{as_message}
use Rattle.p9_rmsg.specs.declared.message.Rgetattr.{Rgetattr}
use Rattle.p9_rmsg.specs.declared.message.Rmessage.{Rmessage}
use Rattle.p9_rmsg.specs.declared.message.Rmessage.TheVariants as r

-- type, version and path
abbrev pub Qid : Type 0
Qid = ℕ × (ℕ × ℕ)

-- the fields of Rgetattr in the order of the wire
pub record Attributes : Type 0 where
  pub valid : ℕ
  pub qid : Qid
  pub mode : ℕ
  pub uid : ℕ
  pub gid : ℕ
  pub nlink : ℕ
  pub rdev : ℕ
  pub size : ℕ
  pub blksize : ℕ
  pub blocks : ℕ
  pub atime_sec : ℕ
  pub atime_nsec : ℕ
  pub mtime_sec : ℕ
  pub mtime_nsec : ℕ
  pub ctime_sec : ℕ
  pub ctime_nsec : ℕ
  pub btime_sec : ℕ
  pub btime_nsec : ℕ
  pub generation : ℕ
  pub data_version : ℕ

-- the fields in the order of the wire
pub data Reply : Type 0 where
  lerror : (ecode : ℕ) → Reply
  statfs : (ty bsize blocks bfree bavail files ffree fsid namelen : ℕ) → Reply
  lopen : (qid : Qid) (iounit : ℕ) → Reply
  lcreate : (qid : Qid) (iounit : ℕ) → Reply
  symlink : (qid : Qid) → Reply
  mknod : (qid : Qid) → Reply
  rename : Reply
  readlink : (target : List ℕ) → Reply
  getattr : (attributes : Attributes) → Reply
  setattr : Reply
  xattrwalk : (size : ℕ) → Reply
  xattrcreate : Reply
  readdir : (payload : List ℕ) → Reply
  fsync : Reply
  lock : (status : ℕ) → Reply
  getlock : (kind_ start length proc_id : ℕ) (client_id : List ℕ) → Reply
  link : Reply
  mkdir : (qid : Qid) → Reply
  renameat : Reply
  unlinkat : Reply
  version : (msize : ℕ) (protocol : List ℕ) → Reply
  auth : (aqid : Qid) → Reply
  attach : (qid : Qid) → Reply
  flush : Reply
  walk : (wqids : List Qid) → Reply
  read : (payload : List ℕ) → Reply
  write : (count : ℕ) → Reply
  clunk : Reply
  remove : Reply

abbrev pub attributes_of : Rgetattr → Attributes
attributes_of m = record {
  valid = m.valid;
  qid = qid_of m.qid;
  mode = m.mode;
  uid = m.uid;
  gid = m.gid;
  nlink = m.nlink;
  rdev = m.rdev;
  size = m.size;
  blksize = m.blksize;
  blocks = m.blocks;
  atime_sec = m.atime_sec;
  atime_nsec = m.atime_nsec;
  mtime_sec = m.mtime_sec;
  mtime_nsec = m.mtime_nsec;
  ctime_sec = m.ctime_sec;
  ctime_nsec = m.ctime_nsec;
  btime_sec = m.btime_sec;
  btime_nsec = m.btime_nsec;
  generation = m.generation;
  data_version = m.data_version;
}

abbrev pub reply_of : Rmessage → Reply
reply_of (r.Lerror m) = lerror m.ecode
reply_of (r.Statfs m) = statfs m.ty m.bsize m.blocks m.bfree m.bavail m.files m.ffree m.fsid
    m.namelen
reply_of (r.Lopen m) = lopen (qid_of m.qid) m.iounit
reply_of (r.Lcreate m) = lcreate (qid_of m.qid) m.iounit
reply_of (r.Symlink m) = symlink (qid_of m.qid)
reply_of (r.Mknod m) = mknod (qid_of m.qid)
reply_of r.Rename = rename
reply_of (r.Readlink m) = readlink m.target
reply_of (r.GetAttr m) = getattr (attributes_of m)
reply_of r.SetAttr = setattr
reply_of (r.XattrWalk m) = xattrwalk m.size
reply_of r.XattrCreate = xattrcreate
reply_of (r.Readdir m) = readdir m.payload.0.items
reply_of r.Fsync = fsync
reply_of (r.Lock m) = lock m.status
reply_of (r.GetLock m) = getlock m.kind_ m.start m.length m.proc_id m.client_id
reply_of r.Link = link
reply_of (r.Mkdir m) = mkdir (qid_of m.qid)
reply_of r.RenameAt = renameat
reply_of r.UnlinkAt = unlinkat
reply_of (r.Version m) = version m.msize m.version
reply_of (r.Auth m) = auth (qid_of m.aqid)
reply_of (r.Attach m) = attach (qid_of m.qid)
reply_of r.Flush = flush
reply_of (r.Walk m) = walk (map qid_of m.wqids.items)
reply_of (r.Read m) = read m.payload.0.items
reply_of (r.Write m) = write m.count
reply_of r.Clunk = clunk
reply_of r.Remove = remove

-- the number of the type
abbrev pub reply_kind : Reply → ℕ
reply_kind (lerror ecode) = 7
reply_kind (statfs ty bsize blocks bfree bavail files ffree fsid namelen) = 9
reply_kind (lopen qid iounit) = 13
reply_kind (lcreate qid iounit) = 15
reply_kind (symlink qid) = 17
reply_kind (mknod qid) = 19
reply_kind rename = 21
reply_kind (readlink target) = 23
reply_kind (getattr a) = 25
reply_kind setattr = 27
reply_kind (xattrwalk size) = 31
reply_kind xattrcreate = 33
reply_kind (readdir payload) = 41
reply_kind fsync = 51
reply_kind (lock status) = 53
reply_kind (getlock kind_ start length proc_id client_id) = 55
reply_kind link = 71
reply_kind (mkdir qid) = 73
reply_kind renameat = 75
reply_kind unlinkat = 77
reply_kind (version msize protocol) = 101
reply_kind (auth aqid) = 103
reply_kind (attach qid) = 105
reply_kind flush = 109
reply_kind (walk wqids) = 111
reply_kind (read payload) = 117
reply_kind (write count) = 119
reply_kind clunk = 121
reply_kind remove = 123

-- ---- attributes, which are read and written in groups

-- valid, qid, mode, uid, gid, nlink
abbrev pub Identity : Type 0
Identity = ℕ × (Qid × (ℕ × (ℕ × (ℕ × ℕ))))

-- four numbers: rdev, size, blksize, blocks, or two times in seconds and nanoseconds
abbrev pub Four : Type 0
Four = ℕ × (ℕ × (ℕ × ℕ))

abbrev pub Groups : Type 0
Groups = Identity × (Four × (Four × (Four × (ℕ × ℕ))))

abbrev pub four_bytes : ℕ → ℕ → ℕ → ℕ → List ℕ
four_bytes a b c d = le64 a ++ (le64 b ++ (le64 c ++ le64 d))

abbrev pub FourSpell : ℕ → ℕ → ℕ → ℕ → Type 0
FourSpell a b c d = IsU64 a × (IsU64 b × (IsU64 c × IsU64 d))

abbrev pub four_at : Reads Four
four_at = pair_reading u64_at (pair_reading u64_at (pair_reading u64_at u64_at))

abbrev pub identity_spelling : Attributes → List ℕ
identity_spelling a =
    le64 a.valid
    ++ (qid_spelling a.qid ++ (le32 a.mode ++ (le32 a.uid ++ (le32 a.gid ++ le64 a.nlink))))

abbrev pub attributes_spelling : Attributes → List ℕ
attributes_spelling a =
    identity_spelling a
    ++ (four_bytes a.rdev a.size a.blksize a.blocks
    ++ (four_bytes a.atime_sec a.atime_nsec a.mtime_sec a.mtime_nsec
    ++ (four_bytes a.ctime_sec a.ctime_nsec a.btime_sec a.btime_nsec
    ++ (le64 a.generation ++ le64 a.data_version))))

abbrev pub IdentitySpells : Attributes → Type 0
IdentitySpells a =
    IsU64 a.valid × (QidSpells a.qid × (IsU32 a.mode
    × (IsU32 a.uid × (IsU32 a.gid × IsU64 a.nlink))))

abbrev pub AttributesSpell : Attributes → Type 0
AttributesSpell a =
    IdentitySpells a
    × (FourSpell a.rdev a.size a.blksize a.blocks
    × (FourSpell a.atime_sec a.atime_nsec a.mtime_sec a.mtime_nsec
    × (FourSpell a.ctime_sec a.ctime_nsec a.btime_sec a.btime_nsec
    × (IsU64 a.generation × IsU64 a.data_version))))

abbrev pub identity_at : Reads Identity
identity_at =
    pair_reading u64_at (pair_reading qid_at (pair_reading u32_at (pair_reading u32_at
    (pair_reading u32_at u64_at))))

abbrev pub groups_at : Reads Groups
groups_at =
    pair_reading identity_at (pair_reading four_at (pair_reading four_at (pair_reading four_at
    (pair_reading u64_at u64_at))))

-- the attributes whose groups these are
abbrev pub attributes_in : Groups → Attributes
attributes_in g = record {
  valid = g.0.0;
  qid = g.0.1.0;
  mode = g.0.1.1.0;
  uid = g.0.1.1.1.0;
  gid = g.0.1.1.1.1.0;
  nlink = g.0.1.1.1.1.1;
  rdev = g.1.0.0;
  size = g.1.0.1.0;
  blksize = g.1.0.1.1.0;
  blocks = g.1.0.1.1.1;
  atime_sec = g.1.1.0.0;
  atime_nsec = g.1.1.0.1.0;
  mtime_sec = g.1.1.0.1.1.0;
  mtime_nsec = g.1.1.0.1.1.1;
  ctime_sec = g.1.1.1.0.0;
  ctime_nsec = g.1.1.1.0.1.0;
  btime_sec = g.1.1.1.0.1.1.0;
  btime_nsec = g.1.1.1.0.1.1.1;
  generation = g.1.1.1.1.0;
  data_version = g.1.1.1.1.1;
}

-- the bytes of the fields
abbrev pub reply_spelling : Reply → List ℕ
reply_spelling (lerror ecode) = le32 ecode
reply_spelling (statfs ty bsize blocks bfree bavail files ffree fsid namelen) =
    (le32 ty ++ (le32 bsize ++ (le64 blocks ++ (le64 bfree ++ le64 bavail))))
    ++ (le64 files ++ (le64 ffree ++ (le64 fsid ++ le32 namelen)))
reply_spelling (lopen qid iounit) = qid_spelling qid ++ le32 iounit
reply_spelling (lcreate qid iounit) = qid_spelling qid ++ le32 iounit
reply_spelling (symlink qid) = qid_spelling qid
reply_spelling (mknod qid) = qid_spelling qid
reply_spelling rename = []
reply_spelling (readlink target) = text_spelling target
reply_spelling (getattr a) = attributes_spelling a
reply_spelling setattr = []
reply_spelling (xattrwalk size) = le64 size
reply_spelling xattrcreate = []
reply_spelling (readdir payload) = data_spelling payload
reply_spelling fsync = []
reply_spelling (lock status) = le8 status
reply_spelling (getlock kind_ start length proc_id client_id) = le8 kind_
    ++ (le64 start ++ (le64 length ++ (le32 proc_id ++ text_spelling client_id)))
reply_spelling link = []
reply_spelling (mkdir qid) = qid_spelling qid
reply_spelling renameat = []
reply_spelling unlinkat = []
reply_spelling (version msize protocol) = le32 msize ++ text_spelling protocol
reply_spelling (auth aqid) = qid_spelling aqid
reply_spelling (attach qid) = qid_spelling qid
reply_spelling flush = []
reply_spelling (walk wqids) = qids_spelling wqids
reply_spelling (read payload) = data_spelling payload
reply_spelling (write count) = le32 count
reply_spelling clunk = []
reply_spelling remove = []

-- each field fits its width
abbrev pub ReplySpells : Reply → Type 0
ReplySpells (lerror ecode) = IsU32 ecode
ReplySpells (statfs ty bsize blocks bfree bavail files ffree fsid namelen) =
    (IsU32 ty × (IsU32 bsize × (IsU64 blocks × (IsU64 bfree × IsU64 bavail))))
    × (IsU64 files × (IsU64 ffree × (IsU64 fsid × IsU32 namelen)))
ReplySpells (lopen qid iounit) = QidSpells qid × IsU32 iounit
ReplySpells (lcreate qid iounit) = QidSpells qid × IsU32 iounit
ReplySpells (symlink qid) = QidSpells qid
ReplySpells (mknod qid) = QidSpells qid
ReplySpells rename = Unit {0}
ReplySpells (readlink target) = TextSpells target
ReplySpells (getattr a) = AttributesSpell a
ReplySpells setattr = Unit {0}
ReplySpells (xattrwalk size) = IsU64 size
ReplySpells xattrcreate = Unit {0}
ReplySpells (readdir payload) = DataSpells payload
ReplySpells fsync = Unit {0}
ReplySpells (lock status) = IsU8 status
ReplySpells (getlock kind_ start length proc_id client_id) = IsU8 kind_
    × (IsU64 start × (IsU64 length × (IsU32 proc_id × TextSpells client_id)))
ReplySpells link = Unit {0}
ReplySpells (mkdir qid) = QidSpells qid
ReplySpells renameat = Unit {0}
ReplySpells unlinkat = Unit {0}
ReplySpells (version msize protocol) = IsU32 msize × TextSpells protocol
ReplySpells (auth aqid) = QidSpells aqid
ReplySpells (attach qid) = QidSpells qid
ReplySpells flush = Unit {0}
ReplySpells (walk wqids) = QidsSpell wqids
ReplySpells (read payload) = DataSpells payload
ReplySpells (write count) = IsU32 count
ReplySpells clunk = Unit {0}
ReplySpells remove = Unit {0}

-- a decoder takes it
abbrev pub IsReadableReply : Reply → Type 0
IsReadableReply (readdir payload) = IsReadableData payload
IsReadableReply (read payload) = IsReadableData payload
IsReadableReply m = Unit {0}

-- the message of this type, with its data read so
abbrev pub reply_by : Reads (List ℕ) → ℕ → Reads Reply
reply_by payload_at kind =
    if kind == 7 then as_message u32_at lerror else
    if kind == 9 then as_message (pair_reading
    (pair_reading u32_at (pair_reading u32_at
    (pair_reading u64_at (pair_reading u64_at u64_at))))
    (pair_reading u64_at (pair_reading u64_at (pair_reading u64_at u32_at))))
    (λ x. statfs x.0.0 x.0.1.0 x.0.1.1.0 x.0.1.1.1.0 x.0.1.1.1.1 x.1.0 x.1.1.0 x.1.1.1.0
    x.1.1.1.1) else
    if kind == 13 then as_message (pair_reading qid_at u32_at) (λ x. lopen x.0 x.1) else
    if kind == 15 then as_message (pair_reading qid_at u32_at) (λ x. lcreate x.0 x.1) else
    if kind == 17 then as_message qid_at symlink else
    if kind == 19 then as_message qid_at mknod else
    if kind == 21 then give rename else
    if kind == 23 then as_message text_at readlink else
    if kind == 25 then as_message groups_at (λ x. getattr (attributes_in x)) else
    if kind == 27 then give setattr else
    if kind == 31 then as_message u64_at xattrwalk else
    if kind == 33 then give xattrcreate else
    if kind == 41 then as_message payload_at readdir else
    if kind == 51 then give fsync else
    if kind == 53 then as_message u8_at lock else
    if kind == 55 then as_message (pair_reading u8_at
    (pair_reading u64_at (pair_reading u64_at (pair_reading u32_at text_at))))
    (λ x. getlock x.0 x.1.0 x.1.1.0 x.1.1.1.0 x.1.1.1.1) else
    if kind == 71 then give link else
    if kind == 73 then as_message qid_at mkdir else
    if kind == 75 then give renameat else
    if kind == 77 then give unlinkat else
    if kind == 101 then as_message (pair_reading u32_at text_at) (λ x. version x.0 x.1) else
    if kind == 103 then as_message qid_at auth else
    if kind == 105 then as_message qid_at attach else
    if kind == 109 then give flush else
    if kind == 111 then as_message qids_at walk else
    if kind == 117 then as_message payload_at read else
    if kind == 119 then as_message u32_at write else
    if kind == 121 then give clunk else
    if kind == 123 then give remove else
    refuse InvalidData

abbrev pub reply_reading : ℕ → Reads Reply
reply_reading = reply_by data_at
