-- What handling one message promises, whatever the host's faults.
use Rattle.std.specs.Prelude.{◌≡◌, ◌⊎◌, ℕ, ◌<◌, ◌≤◌, List, length, take, Bool, Option, Some}
use Rattle.std.specs.Prelude.{Result, Ok, Err}
use Rattle.std.specs.FinMap as map
use Rattle.std.specs.Io.KnownBytes.{Appends, Keeps}
use Rattle.port_base.specs.Faults.{Faulted, Rose}
use Rattle.port_base.specs.Streams.{SentFront, TookExactly, TookAll}
use Rattle.port_base.specs.declared.errno.TheConstants.{EIO, EINVAL}
use Rattle.p9_wire.specs.declared.error.WireError.{WireError}
use Rattle.p9_wire.specs.declared.error.WireError.TheVariants.{InvalidInput, InvalidData}
use Rattle.p9_wire.specs.declared.error.WireError.TheVariants.{UnexpectedEof, Read, Write}
use Rattle.p9_wire.specs.declared.error.WireError.TheVariants.{NoMemory}
use Rattle.p9_wire.specs.Reading.{Found, Refused}
use Rattle.p9_tmsg.specs.Messages.{Message}
use Rattle.p9_tmsg.specs.Messages.Message.{attach, fsync, getattr, lcreate, link, lopen, mkdir}
use Rattle.p9_tmsg.specs.Messages.Message.{read, readdir, readlink, renameat, setattr, statfs}
use Rattle.p9_tmsg.specs.Messages.Message.{unlinkat, walk, write}
use Rattle.p9_tmsg.specs.Frames.{frame_within}
use Rattle.p9_rmsg.specs.Replies.{Reply, ReplySpells}
use Rattle.p9_rmsg.specs.Frames.{reply_frame}
use Rattle.p9_rmsg.specs.Replies.Reply.{lerror as r_lerror, walk as r_walk}
use Rattle.tree_model.specs.Tree.{Tree}
use Rattle.tree_model.specs.Attributes.{Qid}
use Rattle.fid_model.specs.Fids.{Fid, ServerState, IsTreeAlone}
use Rattle.fid_model.specs.Answers.{answer, walk_names}
use Rattle.fid_model.specs.Parts.{IsFrontDone, IsPartDone}
use Rattle.fid_model.specs.Moments.{Moment}

-- ---- faults

-- these are the qids of the first names of a walk, each of which was found
abbrev pub IsFrontOfWalk : Bool → Tree → List (List ℕ) → ℕ → List Qid → Type 0
IsFrontOfWalk casefold t names start qids =
    (at : ℕ) × (walk_names casefold t (take (length qids) names) start ≡ (qids, Ok at))

-- the qids of a walk so far: at least one, and not all
abbrev pub IsPartOfWalk : ServerState → ℕ → List (List ℕ) → Reply → Type 0
IsPartOfWalk s fid names (r_walk qids) = (1 ≤ length qids) × (length qids < length names)
    × ((f : Fid) × (map.get s.fids fid ≡ Some f) × IsFrontOfWalk s.settings.casefold s.tree names
    f.ino qids)
IsPartOfWalk s fid names _ = ⊥

-- what a fault of the host may answer; a message that asks the host nothing meets none
abbrev pub IsHurtReply : ServerState → Message → Reply → Type 0
IsHurtReply s (statfs fid) reply = reply ≡ r_lerror EIO
IsHurtReply s (lopen fid flags) reply = reply ≡ r_lerror EIO
IsHurtReply s (lcreate fid name flags mode gid) reply = reply ≡ r_lerror EIO
IsHurtReply s (readlink fid) reply = reply ≡ r_lerror EIO
IsHurtReply s (getattr fid request_mask) reply = reply ≡ r_lerror EIO
IsHurtReply s (setattr fid valid mode uid gid size atime_sec atime_nsec mtime_sec mtime_nsec)
    reply = reply ≡ r_lerror EIO
IsHurtReply s (readdir fid offset count) reply = reply ≡ r_lerror EIO
IsHurtReply s (fsync fid datasync) reply = reply ≡ r_lerror EIO
IsHurtReply s (link dfid fid name) reply = reply ≡ r_lerror EIO
IsHurtReply s (mkdir dfid name mode gid) reply = reply ≡ r_lerror EIO
IsHurtReply s (renameat olddirfid oldname newdirfid newname) reply = reply ≡ r_lerror EIO
IsHurtReply s (unlinkat dirfd name flags) reply = reply ≡ r_lerror EIO
IsHurtReply s (attach fid afid uname aname n_uname) reply = reply ≡ r_lerror EIO
IsHurtReply s (walk fid newfid wnames) reply =
    (reply ≡ r_lerror EIO) ⊎ IsPartOfWalk s fid wnames reply
IsHurtReply s (read fid offset count) reply = reply ≡ r_lerror EIO
IsHurtReply s (write fid offset payload) reply = reply ≡ r_lerror EIO
IsHurtReply s _ reply = ⊥

-- the machine's answer and state; or, only where the count of faults rose, what a fault may
-- answer, and of the state no more than the tree has changed, by a part of the message
abbrev pub Outcome : ServerState → Message → Reply → ServerState → ℕ → ℕ → Type 0
Outcome s m reply s1 f0 f1 =
    ((reply, s1) ≡ answer s m)
    ⊎ (Rose f0 f1 × IsHurtReply s m reply × IsTreeAlone s s1 × IsPartDone s m s1.tree)

-- a malformed body is refused, and changes nothing
abbrev pub BodyOutcome : ServerState → Result Message WireError → Reply → ServerState → ℕ → ℕ
    → Type 0
BodyOutcome s (Ok m) reply s1 f0 f1 = Outcome s m reply s1 f0 f1
BodyOutcome s (Err fault) reply s1 f0 f1 = (reply ≡ r_lerror EINVAL) × (s1 ≡ s)

-- these bytes are the reply to the frame that was read
pub record Replied (s0 s1 : ServerState) (f0 f1 : ℕ) (left0 left1 : Option (List ℕ))
    (bytes : List ℕ) : Type 0 where
  pub tag : ℕ
  pub body : Result Message WireError
  pub reply : Reply
  pub read : Found (frame_within s0.msize) left0 left1 (tag, body)
  pub spelled : bytes ≡ reply_frame tag reply
  pub spells : ReplySpells reply
  pub short : length bytes ≤ s0.msize
  pub outcome : BodyOutcome s0 body reply s1 f0 f1

-- ---- out of memory

-- the tree is as it was, or as a front part of a message left it
abbrev pub IsLeft : ServerState → Message → ServerState → Type 0
IsLeft s m s1 = IsTreeAlone s s1 × IsFrontDone s m s1.tree

-- nothing changed, or what was left of a message that was read
abbrev pub IsUnanswered : ServerState → ServerState → Option (List ℕ) → Option (List ℕ) → Type 0
IsUnanswered s0 s1 left0 left1 =
    (s1 ≡ s0) ⊎ ((tag : ℕ) × (m : Message) × Found (frame_within s0.msize) left0 left1 (tag, Ok m)
    × IsLeft s0 m s1)

-- ---- one call

module _ (old new : Moment) (left0 left1 sent0 sent1 : Option (List ℕ))
    (in0 in1 out0 out1 : ℕ) where
  -- neither the reader nor the writer met a fault
  abbrev pub IsUnfaulted : Type 0
  IsUnfaulted = (in1 ≡ in0) × (out1 ≡ out0)

  abbrev pub RepliedWith : List ℕ → Type 0
  RepliedWith bytes = Replied old.state new.state old.faults new.faults left0 left1 bytes

  -- nothing changed, and nothing was written
  abbrev pub IsUnchanged : Type 0
  IsUnchanged = (new.state ≡ old.state) × (new.faults ≡ old.faults) × Keeps sent0 sent1

  -- the state, the reader and the writer, by the answer of a call
  abbrev pub HandledBy : {X : Type 0} → Result X WireError → Type 0
  HandledBy (Ok x) =
      IsUnfaulted × ((bytes : List ℕ) × Appends sent0 sent1 bytes × RepliedWith bytes)
  HandledBy (Err Write) = (in1 ≡ in0) × Faulted out0 out1
      × ((bytes : List ℕ) × SentFront sent0 sent1 bytes × RepliedWith bytes)
  HandledBy (Err Read) = Faulted in0 in1 × (out1 ≡ out0) × IsUnchanged
  HandledBy (Err NoMemory) = IsUnfaulted × Keeps sent0 sent1 × IsUnanswered old.state new.state
      left0 left1
  HandledBy (Err InvalidData) = IsUnfaulted × IsUnchanged × Refused (frame_within old.state.msize)
      left0 InvalidData × TookExactly left0 left1 4
  HandledBy (Err UnexpectedEof) =
      IsUnfaulted × IsUnchanged × Refused (frame_within old.state.msize) left0 UnexpectedEof
      × TookAll left0 left1
  HandledBy (Err InvalidInput) = ⊥

pub record Handled {X : Type 0} (old new : Moment) (left0 left1 sent0 sent1 : Option (List ℕ))
    (in0 in1 out0 out1 : ℕ) (result : Result X WireError) : Type 0 where
  pub answer : HandledBy old new left0 left1 sent0 sent1 in0 in1 out0 out1 result
