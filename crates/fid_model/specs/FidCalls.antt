-- What a message asks by a fid, and the reply to it.
use Rattle.std.specs.Prelude.{ℕ, Bool, Option, Some, None, Result, Ok, Err, if◌then◌else◌}
use Rattle.port_base.specs.declared.errno.TheConstants.{EBADF}
use Rattle.p9_rmsg.specs.Replies.{Reply}
use Rattle.p9_rmsg.specs.Replies.Reply.{lerror as r_lerror}
use Rattle.fid_model.specs.Fids.{Fid, OpenState, ServerState}

-- what is told by a fid, if it is there
abbrev pub by_fid : {A : Type 0} → (Fid → Result A ℕ) → Option Fid → Result A ℕ
by_fid told None = Err EBADF
by_fid told (Some f) = told f

-- what is told by a fid that is open in a certain way
abbrev pub by_open_fid : {A : Type 0} → (OpenState → Bool) → (Fid → Result A ℕ) → Option Fid
    → Result A ℕ
by_open_fid is_open told None = Err EBADF
by_open_fid is_open told (Some f) = if is_open f.open_state then told f else Err EBADF

-- the reply; nothing changes
abbrev pub told_answer : {A : Type 0} → ServerState → (A → Reply) → Result A ℕ → Reply × ServerState
told_answer s reply (Ok a) = (reply a, s)
told_answer s reply (Err e) = (r_lerror e, s)
