-- What a share tells and leaves.
use Rattle.std.specs.Prelude.{◌≡◌, ℕ, ◌-◌, ◌^◌, min, List, IfSome, Result, Ok, Err}
use Rattle.std.specs.declared.option.Option.{Option}
use Rattle.port_base.specs.Faults.{Faulted}
use Rattle.tree_model.specs.Tree.{Tree, linked}
use Rattle.fuse_wire.specs.Cuts.{cut}
use Rattle.fuse_wire.specs.Cuts.End.{done}
use Rattle.frame_pump.specs.declared.outcome.Pumped.{Pumped}
use Rattle.frame_pump.specs.declared.outcome.Stopped.{Stopped}
use Rattle.frame_pump.specs.declared.outcome.BridgeError.{BridgeError}
use Rattle.frame_pump.specs.declared.outcome.BridgeError.TheVariants as error
use Rattle.mount9_run.specs.Command.{Serve}
use Rattle.mount9_run.specs.Outcome.{served, mount_table, halted, verdict_of}
use Rattle.mount9_run.specs.Report.{report}
use Rattle.mount9_run.specs.declared.report.verdict.Verdict.{Verdict}
use Rattle.mount9_run.specs.declared.run.Ending.{Ending}
use Rattle.mount9_run.specs.declared.run.Status.{Status}
use Rattle.mount9_run.specs.declared.run.Status.TheVariants as status

-- a run that stopped, and is reported
abbrev pub reported : BridgeError → ℕ → ℕ → Ending
reported cause handled nine =
    record { status = status.Stopped; verdict = halted cause handled nine }

-- how a share that stopped ends a run; no mount is taken away yet
abbrev pub stopped_by : ℕ → ℕ → BridgeError → Result Ending Status
stopped_by handled nine error.Torn = Ok (reported error.Torn handled nine)
stopped_by handled nine error.BadLength = Ok (reported error.BadLength handled nine)
stopped_by handled nine error.TurnsSpent = Ok (reported error.TurnsSpent handled nine)
stopped_by handled nine error.MsizeTooSmall = Ok (reported error.MsizeTooSmall handled nine)
stopped_by handled nine (error.Mount errno) = Ok (reported (error.Mount errno) handled nine)
stopped_by handled nine (error.Attach errno) = Ok (reported (error.Attach errno) handled nine)
stopped_by handled nine error.NoMemory = Err status.Memory
stopped_by handled nine error.Read = Err status.Input
stopped_by handled nine error.Write = Err status.Output
stopped_by handled nine error.Unmount = Err status.Output

-- how what a share told ends a run: by a report, or by an answer alone
abbrev pub ending_of : Result Pumped Stopped → Result Ending Status
ending_of (Ok r) =
    Ok (record { status = status.Served; verdict = verdict_of done r.handled r.nine_frames })
ending_of (Err r) = stopped_by r.handled r.nine_frames r.cause

-- the input didn't fail, and from the words w and the tree t its bytes lead to this answer and
-- this report, with so many 9P messages
abbrev pub LeadsTo : Serve → Tree → Option (List ℕ) → ℕ → ℕ → Status → List ℕ → (ℕ → Verdict)
    → Tree → ℕ → Type 0
LeadsTo w t left in0 in1 s replies verdict last nine =
    (in1 ≡ in0)
    × IfSome left (λ bytes. served w (linked t) (cut w.turns bytes)
    ≡ (s, report replies (verdict (min nine (2 ^ 64 - 1))) last mount_table))

-- a share that stopped, by the cause
abbrev pub StoppedBy : Serve → Tree → Option (List ℕ) → ℕ → ℕ → List ℕ → Tree → ℕ → ℕ → BridgeError
    → Type 0
StoppedBy w t left in0 in1 replies last handled nine error.Torn =
    LeadsTo w t left in0 in1 status.Stopped replies (halted error.Torn handled) last nine
StoppedBy w t left in0 in1 replies last handled nine error.BadLength =
    LeadsTo w t left in0 in1 status.Stopped replies (halted error.BadLength handled) last nine
StoppedBy w t left in0 in1 replies last handled nine error.TurnsSpent =
    LeadsTo w t left in0 in1 status.Stopped replies (halted error.TurnsSpent handled) last nine
StoppedBy w t left in0 in1 replies last handled nine error.Read = Faulted in0 in1
StoppedBy w t left in0 in1 replies last handled nine error.NoMemory = in1 ≡ in0
StoppedBy w t left in0 in1 replies last handled nine error.Write = ⊥
StoppedBy w t left in0 in1 replies last handled nine error.MsizeTooSmall = ⊥
StoppedBy w t left in0 in1 replies last handled nine (error.Mount errno) = ⊥
StoppedBy w t left in0 in1 replies last handled nine (error.Attach errno) =
    LeadsTo w t left in0 in1 status.Stopped replies (halted (error.Attach errno) handled) last nine
StoppedBy w t left in0 in1 replies last handled nine error.Unmount = ⊥

abbrev pub SharesBy : Serve → Tree → Option (List ℕ) → ℕ → ℕ → List ℕ → Tree
    → Result Pumped Stopped → Type 0
SharesBy w t left in0 in1 replies last (Ok r) =
    LeadsTo w t left in0 in1 status.Served replies (verdict_of done r.handled) last r.nine_frames
SharesBy w t left in0 in1 replies last (Err r) =
    StoppedBy w t left in0 in1 replies last r.handled r.nine_frames r.cause

-- a share of the tree t, by the words w, leads to these replies and leaves this tree
pub record Shares (w : Serve) (t : Tree) (left : Option (List ℕ)) (in0 in1 : ℕ) (replies : List ℕ)
    (last : Tree) (result : Result Pumped Stopped) : Type 0 where
  pub answer : SharesBy w t left in0 in1 replies last result
  pub whole : linked last ≡ last
