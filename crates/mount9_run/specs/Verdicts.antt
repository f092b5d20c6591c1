-- How runs end, as a report tells it.
use Rattle.std.specs.Prelude.{ℕ, Bool, true, false, IsTrue}
use Rattle.frame_pump.specs.declared.outcome.BridgeError.{BridgeError}
use Rattle.frame_pump.specs.declared.outcome.BridgeError.TheVariants as cause
use Rattle.mount9_run.specs.declared.report.verdict.Verdict.{Verdict}
use Rattle.mount9_run.specs.declared.report.verdict.Verdict.TheVariants as verdict

-- the number of 9P messages
abbrev pub nine_frames_of : Verdict → ℕ
nine_frames_of (verdict.Done served) = served.nine_frames
nine_frames_of (verdict.Halted stopped) = stopped.nine_frames

-- causes that a report tells; after the others there is none
abbrev pub is_reported : BridgeError → Bool
is_reported cause.NoMemory = false
is_reported cause.Read = false
is_reported cause.Write = false
is_reported cause.Torn = true
is_reported cause.BadLength = true
is_reported cause.TurnsSpent = true
is_reported cause.MsizeTooSmall = true
is_reported (cause.Mount errno) = true
is_reported (cause.Attach errno) = true
is_reported cause.Unmount = false

-- a verdict that a report tells
abbrev pub IsReported : Verdict → Type 0
IsReported (verdict.Done served) = Unit {0}
IsReported (verdict.Halted stopped) = IsTrue (is_reported stopped.cause)
