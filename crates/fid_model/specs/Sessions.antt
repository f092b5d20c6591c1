-- Messages about the session: the protocol that is spoken, and the locks, which are always free.
use Rattle.std.specs.Prelude.{ℕ, ◌+◌, min, List, length, Result, Ok, Err, codes, bytes_eq}
use Rattle.std.specs.Prelude.{if◌then◌else◌, nat_lt}
use Rattle.std.specs.FinMap as map
use Rattle.port_base.specs.declared.errno.TheConstants.{EINVAL, ENAMETOOLONG}
use Rattle.p9_wire.specs.declared.protocol.TheConstants.{MIN_MESSAGE_SIZE}
use Rattle.p9_wire.specs.declared.protocol.TheConstants.{RGETLOCK_HEADER_SIZE}
use Rattle.p9_rmsg.specs.Replies.{Reply}
use Rattle.p9_rmsg.specs.Replies.Reply.{version as r_version, lerror as r_lerror}
use Rattle.fid_model.specs.Fids.{ServerState, is_open}
use Rattle.fid_model.specs.FidCalls.{by_open_fid}

-- ---- version

-- the protocol that is spoken, or that none is
abbrev pub spoken : List ℕ → List ℕ
spoken protocol = if bytes_eq protocol (codes "9P2000.L") then codes "9P2000.L" else codes "unknown"

-- a session begins without fids; its frames are as large as both sides take
abbrev pub version_core : ServerState → ℕ → List ℕ → Reply × ServerState
version_core s msize protocol =
    if nat_lt msize MIN_MESSAGE_SIZE then (r_lerror EINVAL, s) else (
      r_version (min s.msize msize) (spoken protocol),
      record s {
        fids = map.empty;
        msize = min s.msize msize;
      },
    )

-- ---- locks

-- each lock of a fid that is open is had at once
abbrev pub lock_told : ServerState → ℕ → Result (Unit {0}) ℕ
lock_told s fid = by_open_fid is_open (λ f. Ok tt) (map.get s.fids fid)

-- the client's name as asked; one that the reply has no room for comes in no frame
abbrev pub getlock_told : ServerState → ℕ → List ℕ → Result (List ℕ) ℕ
getlock_told s fid client =
    by_open_fid is_open (λ f. if nat_lt s.msize (RGETLOCK_HEADER_SIZE + length client)
    then Err ENAMETOOLONG else Ok client) (map.get s.fids fid)
