-- What a turn and a whole run leave, by their answers.
use Rattle.std.specs.Prelude.{◌≡◌, ◌⊎◌, ℕ, Bool, true, false, List, [], ◌∷◌, ◌++◌, length, take}
use Rattle.std.specs.Prelude.{Option, IfSome, Result, Ok, Err}
use Rattle.std.specs.Io.KnownBytes.{Appends, Consumes, Keeps, IsAtEnd}
use Rattle.std.specs.List.{concat}
use Rattle.port_base.specs.Faults.{Faulted}
use Rattle.port_base.specs.Streams.{SentFront, TookExactly}
use Rattle.port_base.specs.declared.sink.SinkFault.{SinkFault}
use Rattle.port_base.specs.declared.sink.SinkFault.TheVariants as sink
use Rattle.fuse_wire.specs.Cuts.{IsFrame, AreFrames, cut, End}
use Rattle.fuse_wire.specs.Cuts.Front.{nothing, part, odd_length}
use Rattle.fuse_wire.specs.Cuts.End.{done, turns_spent, torn, bad_length}
use Rattle.fuse_wire.specs.Taking.{Stands, IsPart, TookPart}
use Rattle.frame_pump.specs.Sessions.{Session, Stays, Answers, Answered, LeavesPart}
use Rattle.frame_pump.specs.declared.outcome.BridgeError.{BridgeError}
use Rattle.frame_pump.specs.declared.outcome.BridgeError.TheVariants as cause
use Rattle.frame_pump.specs.declared.outcome.Halt.{Halt}
use Rattle.frame_pump.specs.declared.outcome.Pumped.{Pumped}
use Rattle.frame_pump.specs.declared.outcome.Stopped.{Stopped}

-- what the input and the output show: the bytes still to come and those that were sent, where they
-- are told, and the counts of faults
pub record Streams : Type 0 where
  pub left : Option (List ℕ)
  pub sent : Option (List ℕ)
  pub read_faults : ℕ
  pub write_faults : ℕ

abbrev pub streams : Option (List ℕ) → Option (List ℕ) → ℕ → ℕ → Streams
streams left sent read_faults write_faults =
    record { left = left; sent = sent; read_faults = read_faults; write_faults = write_faults }

-- neither stream failed
abbrev pub Quiet : Streams → Streams → Type 0
Quiet old new = (new.read_faults ≡ old.read_faults) × (new.write_faults ≡ old.write_faults)

abbrev pub ReadFailed : Streams → Streams → Type 0
ReadFailed old new = Faulted old.read_faults new.read_faults × (new.write_faults ≡ old.write_faults)

abbrev pub WriteFailed : Streams → Streams → Type 0
WriteFailed old new = (new.read_faults ≡ old.read_faults) × Faulted old.write_faults
    new.write_faults

-- sending a reply, by the answer
abbrev pub Sends : Option (List ℕ) → Option (List ℕ) → ℕ → ℕ → List ℕ → Result (Unit {0}) SinkFault
    → Type 0
Sends sent0 sent1 faults0 faults1 reply (Ok x) = (faults1 ≡ faults0) × Appends sent0 sent1 reply
Sends sent0 sent1 faults0 faults1 reply (Err sink.Failed) =
    Faulted faults0 faults1 × SentFront sent0 sent1 reply
Sends sent0 sent1 faults0 faults1 reply (Err sink.NoMemory) =
    (faults1 ≡ faults0) × Keeps sent0 sent1

-- ---- one turn

-- a frame was taken and its answer made
pub record Takes (s0 s1 : Session) (p0 p1 : Streams) (frame bytes : List ℕ) : Type 0 where
  pub whole : IsFrame frame
  pub consumed : Consumes p0.left p1.left frame
  pub answers : Answers s0 s1 frame bytes

-- nothing was answered or sent
abbrev pub Idle : Session → Session → Streams → Streams → Type 0
Idle s0 s1 p0 p1 = (s1 ≡ s0) × Keeps p0.sent p1.sent

-- no memory: nothing was answered; or the next frame in part, or in whole
abbrev pub Unanswered : Session → Session → Streams → Streams → Type 0
Unanswered s0 s1 p0 p1 =
    (s1 ≡ s0) ⊎ ((frame : List ℕ) × IsFrame frame × Consumes p0.left p1.left frame
    × LeavesPart s0 s1 frame)

-- a frame was taken and answered, and of the reply was sent what `sent` says
abbrev pub Answering : Session → Session → Streams → Streams → (List ℕ → Type 0) → Type 0
Answering s0 s1 p0 p1 sent =
    (frame : List ℕ) × (bytes : List ℕ) × Takes s0 s1 p0 p1 frame bytes × sent bytes

-- one turn, by its answer: true for an answered frame, false at the end
abbrev pub Turn : Session → Session → Type 0 → Streams → Streams → Result Bool BridgeError → Type 0
Turn s0 s1 stands p0 p1 (Ok true) =
    Quiet p0 p1 × stands × Answering s0 s1 p0 p1 (λ bytes. Appends p0.sent p1.sent bytes)
Turn s0 s1 stands p0 p1 (Ok false) =
    Quiet p0 p1 × stands × Idle s0 s1 p0 p1 × Stands p0.left nothing × IsAtEnd p1.left
Turn s0 s1 stands p0 p1 (Err cause.Torn) =
    Quiet p0 p1 × stands × Idle s0 s1 p0 p1 × Stands p0.left part × IsAtEnd p1.left
Turn s0 s1 stands p0 p1 (Err cause.BadLength) =
    Quiet p0 p1 × stands × Idle s0 s1 p0 p1 × Stands p0.left odd_length
    × TookExactly p0.left p1.left 4
Turn s0 s1 stands p0 p1 (Err cause.Read) =
    ReadFailed p0 p1 × stands × Idle s0 s1 p0 p1 × TookPart p0.left p1.left
Turn s0 s1 stands p0 p1 (Err cause.Write) =
    WriteFailed p0 p1 × stands × Answering s0 s1 p0 p1 (λ bytes. SentFront p0.sent p1.sent bytes)
Turn s0 s1 stands p0 p1 (Err cause.NoMemory) =
    Quiet p0 p1 × Keeps p0.sent p1.sent × Unanswered s0 s1 p0 p1
Turn s0 s1 stands p0 p1 (Err _) = ⊥

-- ---- a whole run

-- these are the first frames of the cut of the input, where it tells its bytes
abbrev pub AreFirst : Option (List ℕ) → ℕ → List (List ℕ) → Type 0
AreFirst left turns frames =
    IfSome left (λ bytes. take (length frames) (cut turns bytes).frames ≡ frames)

-- the first frames of the input, so many
pub record Fronts (left : Option (List ℕ)) (turns handled : ℕ) (frames : List (List ℕ)) : Type
    0 where
  pub whole : AreFrames frames
  pub number : length frames ≡ handled
  pub first : AreFirst left turns frames

-- these frames were taken, and so many bytes behind them
abbrev pub TookMore : Option (List ℕ) → Option (List ℕ) → List (List ℕ) → ℕ → Type 0
TookMore left0 left1 frames n =
    (more : List ℕ) × (length more ≡ n) × Consumes left0 left1 (concat frames ++ more)

-- what was taken at the end of a cut: all there was; behind the frames the four bytes of a length
-- that no frame has, or one byte where no turn was left
abbrev pub TookTo : End → List (List ℕ) → Option (List ℕ) → Option (List ℕ) → Type 0
TookTo done frames left0 left1 = IsAtEnd left1
TookTo torn frames left0 left1 = IsAtEnd left1
TookTo bad_length frames left0 left1 = TookMore left0 left1 frames 4
TookTo turns_spent frames left0 left1 = TookMore left0 left1 frames 1

-- all the frames of the input were answered and the replies sent, and so it ends
pub record Ended (s0 s1 : Session) (p0 p1 : Streams) (turns handled : ℕ) (end : End) : Type 0 where
  pub frames : List (List ℕ)
  pub whole : AreFrames frames
  pub number : length frames ≡ handled
  pub cut : IfSome p0.left (λ bytes. cut turns bytes ≡ record { frames = frames; end = end })
  pub taken : TookTo end frames p0.left p1.left
  pub replies : List ℕ
  pub answered : Answered s0 s1 frames replies
  pub sent : Appends p0.sent p1.sent replies

-- the input failed after so many frames were answered and the replies sent: fewer bytes than a
-- frame has were taken behind them
pub record ReadStopped (s0 s1 : Session) (p0 p1 : Streams) (turns handled : ℕ) : Type 0 where
  pub frames : List (List ℕ)
  pub fronts : Fronts p0.left turns handled frames
  pub more : List ℕ
  pub part : IsPart more
  pub consumed : Consumes p0.left p1.left (concat frames ++ more)
  pub replies : List ℕ
  pub answered : Answered s0 s1 frames replies
  pub sent : Appends p0.sent p1.sent replies

-- the output failed: one frame more was answered, and a front of its reply sent
pub record WriteStopped (s0 s1 : Session) (p0 p1 : Streams) (turns handled : ℕ) : Type 0 where
  pub frames : List (List ℕ)
  pub last : List ℕ
  pub fronts : Fronts p0.left turns (length (frames ++ last ∷ [])) (frames ++ last ∷ [])
  pub number : length frames ≡ handled
  pub consumed : Consumes p0.left p1.left (concat frames ++ last)
  pub replies : List ℕ
  pub bytes : List ℕ
  pub between : Session
  pub answered : Answered s0 between frames replies
  pub answers : Answers between s1 last bytes
  pub sent : (n : ℕ) × Appends p0.sent p1.sent (replies ++ take n bytes)

-- no memory after so many frames were answered and the replies sent: all is as after them, but
-- that the next frame may have been answered in part
pub record MemoryStopped (s0 s1 : Session) (p0 p1 : Streams) (turns handled : ℕ) : Type 0 where
  pub frames : List (List ℕ)
  pub fronts : Fronts p0.left turns handled frames
  pub replies : List ℕ
  pub between : Session
  pub answered : Answered s0 between frames replies
  pub sent : Appends p0.sent p1.sent replies
  pub after : (s1 ≡ between)
      ⊎ ((next : List ℕ) × AreFirst p0.left turns (frames ++ next ∷ []) × IsFrame next
      × LeavesPart between s1 next)

-- all the frames of the cut were answered and the replies sent, and no stream failed
abbrev pub EndsQuietly : Session → Session → Type 0 → Streams → Streams → ℕ → ℕ → End → Type 0
EndsQuietly s0 s1 stands p0 p1 turns handled end =
    Quiet p0 p1 × stands × Ended s0 s1 p0 p1 turns handled end

-- a run stopped, by the cause; it is stopped by no other
abbrev pub StopsBy : Session → Session → Type 0 → Streams → Streams → ℕ → ℕ → BridgeError → Type 0
StopsBy s0 s1 stands p0 p1 turns handled cause.Torn =
    EndsQuietly s0 s1 stands p0 p1 turns handled torn
StopsBy s0 s1 stands p0 p1 turns handled cause.BadLength =
    EndsQuietly s0 s1 stands p0 p1 turns handled bad_length
StopsBy s0 s1 stands p0 p1 turns handled cause.TurnsSpent =
    EndsQuietly s0 s1 stands p0 p1 turns handled turns_spent
StopsBy s0 s1 stands p0 p1 turns handled cause.Read =
    ReadFailed p0 p1 × stands × ReadStopped s0 s1 p0 p1 turns handled
StopsBy s0 s1 stands p0 p1 turns handled cause.Write =
    WriteFailed p0 p1 × stands × WriteStopped s0 s1 p0 p1 turns handled
StopsBy s0 s1 stands p0 p1 turns handled cause.NoMemory =
    Quiet p0 p1 × MemoryStopped s0 s1 p0 p1 turns handled
StopsBy s0 s1 stands p0 p1 turns handled _ = ⊥

-- the loop, by its answer
abbrev pub Loops : Session → Session → Type 0 → Streams → Streams → ℕ → Result ℕ Halt → Type 0
Loops s0 s1 stands p0 p1 turns (Ok handled) = EndsQuietly s0 s1 stands p0 p1 turns handled done
Loops s0 s1 stands p0 p1 turns (Err halt) =
    StopsBy s0 s1 stands p0 p1 turns halt.handled halt.cause

-- a run, by its answer
abbrev pub RunsBy : Session → Session → Type 0 → Streams → Streams → ℕ → Result Pumped Stopped
    → Type 0
RunsBy s0 s1 stands p0 p1 turns (Ok told) =
    (told.nine_frames ≡ s1.sent) × EndsQuietly s0 s1 stands p0 p1 turns told.handled done
RunsBy s0 s1 stands p0 p1 turns (Err told) =
    (told.nine_frames ≡ s1.sent) × StopsBy s0 s1 stands p0 p1 turns told.handled told.cause

-- a run: what always holds, and the answer
pub record Runs (s0 s1 : Session) (stands : Type 0) (p0 p1 : Streams) (turns : ℕ)
    (result : Result Pumped Stopped) : Type 0 where
  pub stays : Stays s0 s1
  pub outcome : RunsBy s0 s1 stands p0 p1 turns result
