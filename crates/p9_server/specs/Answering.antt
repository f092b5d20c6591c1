-- The reply to a message, from what a step gives.
use Rattle.std.specs.Prelude.{◌≡◌, ◌⊎◌, ℕ, ◌+◌, ◌≤◌, List, length, Result, Ok, Err}
use Rattle.std.specs.declared.option.Option.{Option}
use Rattle.std.specs.Io.KnownBytes.{Appends}
use Rattle.port_base.specs.Faults.{Faulted}
use Rattle.port_base.specs.Streams.{SentFront}
use Rattle.port_base.specs.declared.errno.TheConstants.{EIO}
use Rattle.tree_model.specs.declared.attributes.HostError.{HostError}
use Rattle.tree_model.specs.declared.attributes.HostError.TheVariants as host
use Rattle.p9_wire.specs.declared.error.WireError.{WireError}
use Rattle.p9_wire.specs.declared.error.WireError.TheVariants.{InvalidInput, InvalidData}
use Rattle.p9_wire.specs.declared.error.WireError.TheVariants.{UnexpectedEof, Read, Write}
use Rattle.p9_wire.specs.declared.error.WireError.TheVariants.{NoMemory}
use Rattle.p9_tmsg.specs.Messages.{Message}
use Rattle.p9_rmsg.specs.Replies.{Reply, ReplySpells, reply_spelling, reply_of}
use Rattle.p9_rmsg.specs.Replies.Reply.{lerror}
use Rattle.p9_rmsg.specs.declared.message.Rmessage.{Rmessage}
use Rattle.fid_model.specs.Fids.{ServerState}
use Rattle.fid_model.specs.Handling.{BodyOutcome, IsLeft}
use Rattle.fid_model.specs.Moments.{Moment, Stays}

abbrev pub refusal_told : HostError → Result Reply WireError
refusal_told (host.Errno e) = Ok (lerror e)
refusal_told host.Fault = Ok (lerror EIO)
refusal_told host.NoMemory = Err NoMemory

-- a fault is answered EIO, and out of memory not at all
abbrev pub reply_told : {A : Type 0} → (A → Reply) → Result A HostError → Result Reply WireError
reply_told reply (Ok a) = Ok (reply a)
reply_told reply (Err e) = refusal_told e

-- the most bytes of a reply behind size, type and tag, so that the whole has at most 256
abbrev pub BODY_LIMIT : ℕ
BODY_LIMIT = 249

pub record IsShort (r : Reply) : Type 0 where
  pub spells : ReplySpells r
  pub short : length (reply_spelling r) ≤ BODY_LIMIT

-- the reply is spelled in a frame of at most so many bytes
pub record Fits (msize : ℕ) (r : Reply) : Type 0 where
  pub spells : ReplySpells r
  pub short : 7 + length (reply_spelling r) ≤ msize

-- a long reply, which there may be no memory for, comes only where nothing was changed
pub record IsSized (s0 s1 : ServerState) (r : Reply) : Type 0 where
  pub fits : Fits s0.msize r
  pub room : IsShort r ⊎ (s1 ≡ s0)

-- what out of memory leaves of what a body says
abbrev pub LeavesBody : Result Message WireError → ServerState → ServerState → Type 0
LeavesBody (Ok m) s0 s1 = IsLeft s0 m s1
LeavesBody (Err fault) s0 s1 = s1 ≡ s0

abbrev pub AnsweredBy : Result Message WireError → Moment → Moment → Result Rmessage WireError
    → Type 0
AnsweredBy body old new (Ok m) = BodyOutcome old.state body (reply_of m) new.state old.faults
    new.faults × IsSized old.state new.state (reply_of m)
AnsweredBy body old new (Err e) = (e ≡ NoMemory) × LeavesBody body old.state new.state

-- what a body says is answered, or there was no memory
pub record Answered (body : Result Message WireError) (old new : Moment)
    (result : Result Rmessage WireError) : Type 0 where
  pub answer : AnsweredBy body old new result
  pub stays : Stays old new

abbrev pub SentBy : {T : Type 0} → List ℕ → Option (List ℕ) → Option (List ℕ) → ℕ → ℕ
    → Result T WireError → Type 0
SentBy bytes s0 s1 f0 f1 (Ok x) = Appends s0 s1 bytes × (f1 ≡ f0)
SentBy bytes s0 s1 f0 f1 (Err Write) = SentFront s0 s1 bytes × Faulted f0 f1
SentBy bytes s0 s1 f0 f1 (Err InvalidInput) = ⊥
SentBy bytes s0 s1 f0 f1 (Err InvalidData) = ⊥
SentBy bytes s0 s1 f0 f1 (Err UnexpectedEof) = ⊥
SentBy bytes s0 s1 f0 f1 (Err Read) = ⊥
SentBy bytes s0 s1 f0 f1 (Err NoMemory) = ⊥

-- bytes that there is room for are sent, or a front of them where the sink failed
pub record IsSent {T : Type 0} (bytes : List ℕ) (s0 s1 : Option (List ℕ)) (f0 f1 : ℕ)
    (result : Result T WireError) : Type 0 where
  pub sent : SentBy bytes s0 s1 f0 f1 result
