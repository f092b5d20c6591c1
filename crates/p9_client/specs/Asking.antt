-- What asking a server promises.
use Rattle.std.specs.Prelude.{◌≡◌, ◌⊎◌, ℕ, ◌+◌, ◌≤◌, List, length}
use Rattle.p9_tmsg.specs.Messages.{Message, MessageSpells, message_spelling, IsReadableMessage}
use Rattle.p9_tmsg.specs.Messages.Message.{read as t_read, readdir as t_readdir}
use Rattle.p9_tmsg.specs.Messages.Message.{version as t_version}
use Rattle.p9_tmsg.specs.Frames.{message_frame}
use Rattle.p9_rmsg.specs.Replies.{Reply, ReplySpells, IsReadableReply}
use Rattle.p9_rmsg.specs.Frames.{reply_frame}
use Rattle.fid_model.specs.Fids.{ServerState}
use Rattle.fid_model.specs.Handling.{Outcome, IsLeft}
use Rattle.fid_model.specs.Moments.{Moment, AskedOne}

-- the reply's data is no longer than a client reads, and the greatest size of a frame stays
abbrev pub IsBounded : Message → Type 0
IsBounded (t_version msize protocol) = ⊥
IsBounded (t_read fid offset count) = count ≤ 33554432
IsBounded (t_readdir fid offset count) = count ≤ 33554432
IsBounded _ = Unit {0}

-- the message has a frame that the server takes
pub record IsAskable (s : ServerState) (m : Message) : Type 0 where
  pub spells : MessageSpells m
  pub readable : IsReadableMessage m
  pub bounded : IsBounded m
  pub short : 7 + length (message_spelling m) ≤ s.msize

-- these bytes are the frame of such a message
pub record IsRequest (bytes : List ℕ) (m : Message) (s : ServerState) : Type 0 where
  pub spelled : bytes ≡ message_frame 0 m
  pub askable : IsAskable s m

-- these bytes are the reply to a message
pub record RepliesWith (m : Message) (s0 s1 : ServerState) (f0 f1 : ℕ) (bytes : List ℕ) : Type
    0 where
  pub tag : ℕ
  pub reply : Reply
  pub spelled : bytes ≡ reply_frame tag reply
  pub spells : ReplySpells reply
  pub readable : IsReadableReply reply
  pub long : 7 ≤ length bytes
  pub outcome : Outcome s0 m reply s1 f0 f1

pub record IsReplyFrame (bytes : List ℕ) : Type 0 where
  pub tag : ℕ
  pub reply : Reply
  pub spelled : bytes ≡ reply_frame tag reply
  pub spells : ReplySpells reply
  pub readable : IsReadableReply reply
  pub long : 7 ≤ length bytes

-- out of memory: what a front part of the message left, or its answer
abbrev pub IsUnfinished : ServerState → Message → ServerState → ℕ → ℕ → Type 0
IsUnfinished s0 m s1 f0 f1 = IsLeft s0 m s1 ⊎ ((reply : Reply) × Outcome s0 m reply s1 f0 f1)

-- ---- the same of a server's moments

abbrev pub IsRepliedBy : Message → Moment → Moment → List ℕ → Type 0
IsRepliedBy m old new bytes = RepliesWith m old.state new.state old.faults new.faults bytes

abbrev pub IsUnfinishedAt : Message → Moment → Moment → Type 0
IsUnfinishedAt m old new = IsUnfinished old.state m new.state old.faults new.faults

-- one message was answered
pub record IsExchanged (m : Message) (reply : Reply) (old new : Moment) : Type 0 where
  pub outcome : Outcome old.state m reply new.state old.faults new.faults
  pub asked : AskedOne old new
