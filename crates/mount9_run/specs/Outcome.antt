-- What a run answers and writes, where memory suffices and neither stream fails.
use Rattle.std.specs.Prelude.{ℕ, ◌-◌, ◌^◌, min, List, [], length, Bool, not, ◌||◌, Option}
use Rattle.std.specs.Prelude.{Some, None, Result, Ok, Err, if◌then◌else◌, codes, nat_lt, nat_le}
use Rattle.std.specs.Prelude.{option_map}
use Rattle.std.specs.List.{list_any}
use Rattle.port_base.specs.Paths.{same_path}
use Rattle.port_base.specs.declared.errno.TheConstants.{ENFILE, ENOENT, EPERM}
use Rattle.tree_model.specs.Tree.{Tree, linked}
use Rattle.tree_model.specs.Finding.{path_names, root_of}
use Rattle.tree_model.specs.Settings.{Settings}
use Rattle.fuse_wire.specs.Cuts.{Cut, cut, End}
use Rattle.fuse_wire.specs.Cuts.End.{done, turns_spent, torn, bad_length}
use Rattle.tree_machine.specs.Play.{play}
use Rattle.tree_machine.specs.Messages.{total}
use Rattle.p9_wire.specs.declared.protocol.TheConstants.{RREAD_HEADER_SIZE}
use Rattle.fuse_gate.specs.declared.gate.TheConstants.{LEAST_MSIZE, GREATEST_MSIZE}
use Rattle.mount9_run.specs.Command.{Serve, command}
use Rattle.mount9_run.specs.Header.{HeaderRead, header}
use Rattle.mount9_run.specs.ReportLines.{number_line}
use Rattle.mount9_run.specs.Report.{report}
use Rattle.frame_pump.specs.declared.outcome.BridgeError.{BridgeError}
use Rattle.frame_pump.specs.declared.outcome.BridgeError.TheVariants.{Torn, BadLength, TurnsSpent}
use Rattle.frame_pump.specs.declared.outcome.BridgeError.TheVariants.{MsizeTooSmall, Mount, Attach}
use Rattle.mount9_run.specs.declared.report.verdict.Verdict.{Verdict}
use Rattle.mount9_run.specs.declared.report.verdict.Verdict.TheVariants as verdict
use Rattle.mount9_run.specs.declared.run.TheConstants.{MOUNT_FLAGS}
use Rattle.mount9_run.specs.declared.run.Status.{Status}
use Rattle.mount9_run.specs.declared.run.Status.TheVariants as status

-- the answer, and the text that is written
abbrev pub Outcome : Type 0
Outcome = Status × List ℕ

-- what is below the root is shared, as the words say
abbrev pub share_settings : Serve → Settings
share_settings s =
    record {
      root = path_names s.root;
      uid_map = s.uid_map;
      gid_map = s.gid_map;
      casefold = s.casefold;
      limit = s.ids;
    }

-- the most bytes of a file that one message brings
abbrev pub piece : Serve → ℕ
piece s = min s.msize GREATEST_MSIZE - RREAD_HEADER_SIZE

-- the table of mounts: the root file system alone
abbrev pub mount_table : List ℕ
mount_table = codes "1 1 0:1 / / rw - rootfs rootfs rw\n"

-- the target is the root, or the header names it
abbrev pub is_present : List ℕ → List (List ℕ) → Bool
is_present target present = same_path target (codes "/")
    || list_any (λ path. same_path target path) present

-- why the target is not mounted on
abbrev pub mount_refused : List ℕ → HeaderRead → Option ℕ
mount_refused target h = if not (is_present target h.present) then Some ENOENT
    else if not h.permitted then Some EPERM else None

-- a report of the linked records of a tree
abbrev pub told : List ℕ → Verdict → Tree → List ℕ
told replies verdict t = report replies verdict (linked t) mount_table

-- a run that stopped, after so many frames and 9P messages
abbrev pub halted : BridgeError → ℕ → ℕ → Verdict
halted cause handled nine =
    verdict.Halted (record { cause = cause; handled = handled; nine_frames = nine })

abbrev pub status_of : End → Status
status_of done = status.Served
status_of turns_spent = status.Stopped
status_of torn = status.Stopped
status_of bad_length = status.Stopped

-- how each end of the input is told
abbrev pub verdict_of : End → ℕ → ℕ → Verdict
verdict_of done handled nine =
    verdict.Done (record { flags = MOUNT_FLAGS; handled = handled; nine_frames = nine })
verdict_of turns_spent handled nine = halted TurnsSpent handled nine
verdict_of torn handled nine = halted Torn handled nine
verdict_of bad_length handled nine = halted BadLength handled nine

-- the replies of the machine, the tree that it leaves, and the messages that it takes, counted up
-- to 2^64 - 1
abbrev pub played : Serve → Tree → ℕ → Cut → Outcome
played s t root c = (
  status_of c.end,
  told (play (share_settings s) t root c.frames).0
      (verdict_of c.end (length c.frames)
      (min (total (piece s) (share_settings s) t root c.frames) (2 ^ 64 - 1)))
      (play (share_settings s) t root c.frames).1,
)

-- the share is attached to, if its root is a directory
abbrev pub attached : Serve → Tree → Result ℕ ℕ → Cut → Outcome
attached s t (Err errno) c = (status.Stopped, told [] (halted (Attach errno) 0 1) t)
attached s t (Ok root) c = played s t root c

-- where there may be no fid, no root is attached to
abbrev pub root_given : Serve → Tree → Result ℕ ℕ
root_given s t = if nat_le s.ids 0 then Err ENFILE else root_of t (share_settings s).root

abbrev pub served : Serve → Tree → Cut → Outcome
served s t c = attached s t (root_given s t) c

abbrev pub stopped : BridgeError → Tree → Outcome
stopped cause t = (status.Stopped, told [] (halted cause 0 0) t)

-- why nothing is served: messages are too short, or the mount is refused
abbrev pub refusal : Serve → HeaderRead → Option BridgeError
refusal s h = if nat_lt s.msize LEAST_MSIZE then Some MsizeTooSmall
    else option_map Mount (mount_refused s.target h)

abbrev pub mounted : Serve → Tree → List ℕ → Option BridgeError → Outcome
mounted s t rest (Some cause) = stopped cause t
mounted s t rest None = served s (linked t) (cut s.turns rest)

-- the run of what a header describes, on the bytes that follow it
abbrev pub run_of : Serve → HeaderRead → List ℕ → Outcome
run_of s h rest = mounted s h.tree rest (refusal s h)

-- refused words are told, whatever the input
abbrev pub refused_words : List ℕ → Outcome
refused_words bytes = (status.Words, codes "words\n")

abbrev pub outcome_by : Option Serve → Result (HeaderRead × List ℕ) ℕ → Outcome
outcome_by None h = (status.Words, codes "words\n")
outcome_by (Some s) (Err n) = (status.Header, number_line (codes "header") n)
outcome_by (Some s) (Ok p) = run_of s p.0 p.1

-- what these words do with these bytes of input
abbrev pub outcome : List (List ℕ) → List ℕ → Outcome
outcome words bytes = outcome_by (command words) (header bytes)
