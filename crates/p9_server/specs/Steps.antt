-- What a step of the server promises: the machine's answer to one message, on values.
use Rattle.std.specs.Prelude.{ℕ, ◌≤◌, Bool, not, ◌&&◌, ◌==◌, nat_lt, nat_le, if◌then◌else◌, Option}
use Rattle.std.specs.Prelude.{Some, None, Result, Ok, Err}
use Rattle.std.specs.FinMap as map
use Rattle.port_base.specs.declared.errno.TheConstants.{EBADF, EINVAL, EIO, ENFILE}
use Rattle.tree_model.specs.Tree.{Tree}
use Rattle.tree_model.specs.Settings.{Settings}
use Rattle.tree_model.specs.declared.attributes.HostError.{HostError}
use Rattle.tree_model.specs.declared.attributes.HostError.TheVariants.{Errno, Fault, NoMemory}
use Rattle.p9_tmsg.specs.Messages.{Message}
use Rattle.p9_rmsg.specs.Replies.{Reply}
use Rattle.p9_rmsg.specs.Replies.Reply.{lerror}
use Rattle.p9_wire.specs.declared.protocol.TheConstants.{P9_MAXWELEM}
use Rattle.fid_model.specs.Fids.{ServerState, Fids, Fid, OpenState, is_readable}
use Rattle.fid_model.specs.Handling.{IsLeft, Outcome}
use Rattle.fid_model.specs.Moments.{Moment, Steadily}
use Rattle.tree_host.specs.Calls.{Calls}

abbrev pub server_state : Tree → Fids → ℕ → Settings → ServerState
server_state tree fids msize settings =
    record { tree = tree; fids = fids; msize = msize; settings = settings }

-- what a server shows, by the tree and the calls of its host
abbrev pub moment_of : Tree → Calls → Fids → ℕ → Settings → ℕ → Moment
moment_of tree calls fids msize settings asked =
    record {
      state = server_state tree fids msize settings;
      faults = calls.faults;
      steady = calls.steady;
      asked = asked;
    }

-- the answer, a refusal or EIO for a fault; out of memory leaves no more than a front part of the
-- message
abbrev pub StepBy : {A : Type 0} → Message → (A → Reply) → ServerState → ServerState → ℕ → ℕ
    → Result A HostError → Type 0
StepBy m reply s0 s1 f0 f1 (Ok a) = Outcome s0 m (reply a) s1 f0 f1
StepBy m reply s0 s1 f0 f1 (Err (Errno e)) = Outcome s0 m (lerror e) s1 f0 f1
StepBy m reply s0 s1 f0 f1 (Err Fault) = Outcome s0 m (lerror EIO) s1 f0 f1
StepBy m reply s0 s1 f0 f1 (Err NoMemory) = IsLeft s0 m s1

-- one message is answered; the count of faults doesn't fall, and stays where it is steady
pub record IsStep {A : Type 0} (m : Message) (reply : A → Reply) (s0 s1 : ServerState)
    (steady : Bool) (f0 f1 : ℕ) (result : Result A HostError) : Type 0 where
  pub answer : StepBy m reply s0 s1 f0 f1 result
  pub rises : f0 ≤ f1
  pub steadily : Steadily steady f0 f1

-- the same of two moments
abbrev pub Steps : {A : Type 0} → Message → (A → Reply) → Moment → Moment → Result A HostError
    → Type 0
Steps m reply old new result = IsStep m reply old.state new.state old.steady old.faults new.faults
    result

-- the inode that a fid names
abbrev pub ino_told : Option Fid → Result ℕ HostError
ino_told None = Err (Errno EBADF)
ino_told (Some f) = Ok f.ino

-- the inode of a fid that is open in a certain way
abbrev pub open_told : (OpenState → Bool) → Option Fid → Result ℕ HostError
open_told is_open None = Err (Errno EBADF)
open_told is_open (Some f) = if is_open f.open_state then Ok f.ino else Err (Errno EBADF)

-- the inode of a fid that is open to be read
abbrev pub readable_told : Option Fid → Result ℕ HostError
readable_told o = open_told is_readable o

-- the same, where there may be none
abbrev pub ino_before : Option Fid → Option ℕ
ino_before None = None
ino_before (Some f) = Some f.ino

-- ---- refusals

-- why a fid can't be new
abbrev pub attach_refused : Fids → ℕ → ℕ → Option ℕ
attach_refused fids limit fid =
    if map.contains_key fids fid then Some EBADF else
    if nat_le limit (map.len fids) then Some ENFILE else None

abbrev pub start_from : Bool → Bool → ℕ → Option Fid → Result ℕ ℕ
start_from same full count None = Err EBADF
start_from same full count (Some f) =
    if not same && full then Err ENFILE else
    if nat_lt P9_MAXWELEM count then Err EINVAL else Ok f.ino

-- the inode that a walk of so many names begins at, or why it can't begin
abbrev pub walk_start : Fids → ℕ → ℕ → ℕ → ℕ → Result ℕ ℕ
walk_start fids limit fid newfid count =
    if not (newfid == fid) && map.contains_key fids newfid then Err EBADF else
    start_from (newfid == fid) (nat_le limit (map.len fids)) count (map.get fids fid)
