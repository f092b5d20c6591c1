-- The attach, the frames, and the fids taken away.
use Rattle.fid_model.specs.Moments.{Moment}
use Rattle.fuse_gate.proofs.Running.{Pumps-run}
use Rattle.fuse_gate.proofs.Played.{played_whole, played_stopped}
use Rattle.fuse_gate.proofs.Telling.{TellsMessages-from}
use Rattle.fuse_gate.proofs.pump.pump.Goals as goal

pub returns-in-Ok-clause-pumps : goal.returns-in-Ok-clause-pumps
returns-in-Ok-clause-pumps g c =
    let after : Moment = g.N.Nine.at c.new.new.nine in
    let end : Moment = g.N.Nine.at c.run_frames-told.new.below in
    let e = c.in-Ok.ensures in
    Pumps-run _ after end _ c.in-Ok.gate c.run_frames-told.new.answerer _ _ _ _ _ e.attached e.kept
    c.run_frames-told.ensures.runs c.run_frames-told.ensures.kept
    c.clear_fids.ensures.state c.clear_fids.ensures.faults c.clear_fids.ensures.asked
    c.clear_fids.ensures.kept.steady

pub returns-in-Ok-clause-played : goal.returns-in-Ok-clause-played
returns-in-Ok-clause-played g c = played_whole _ _ _ _ _ _ (returns-in-Ok-clause-pumps g c).outcome

pub returns-in-Ok-clause-stopped : goal.returns-in-Ok-clause-stopped
returns-in-Ok-clause-stopped g c = played_stopped _ _ _ _ _ _
    (returns-in-Ok-clause-pumps g c).outcome

pub returns-in-Ok-clause-kept : goal.returns-in-Ok-clause-kept
returns-in-Ok-clause-kept g c = (returns-in-Ok-clause-pumps g c).kept

pub returns-in-Ok-clause-messages : goal.returns-in-Ok-clause-messages
returns-in-Ok-clause-messages g c = TellsMessages-from _ _ _ _ _ _
    (returns-in-Ok-clause-pumps g c).outcome
