-- A whole run in which no fault was counted is the machine's.
use Rattle.std.proofs.Common.{◌≡◌, ℕ, ◌-◌, ◌^◌, ◌<◌, List, length, IfSome, IfOk, Some, None, Result}
use Rattle.std.proofs.Common.{Ok, Err, sym, ap, ◌∙◌, subst, arith, ⊎_elim}
use Rattle.std.specs.Prelude.{IfErr}
use Rattle.std.specs.declared.option.Option.{Option}
use Rattle.std.specs.Io.KnownBytes.{Appends}
use Rattle.tree_model.specs.Tree.{linked}
use Rattle.fuse_wire.specs.Cuts.{cut, Cut, End}
use Rattle.fuse_wire.specs.Cuts.End.{done, torn, bad_length, turns_spent}
use Rattle.tree_machine.specs.State.{MachineState, begun}
use Rattle.tree_machine.specs.Play.{play_from}
use Rattle.tree_machine.specs.Messages.{messages_from}
use Rattle.frame_pump.specs.Sessions.{Session}
use Rattle.frame_pump.specs.Turns.{Streams, Ended, StopsBy}
use Rattle.frame_pump.specs.declared.outcome.BridgeError.{BridgeError}
use Rattle.frame_pump.specs.declared.outcome.BridgeError.TheVariants as cause
use Rattle.frame_pump.specs.declared.outcome.Pumped.{Pumped}
use Rattle.frame_pump.specs.declared.outcome.Stopped.{Stopped}
use Rattle.frame_pump.proofs.Answering.{Answered-exact}
use Rattle.fuse_gate.specs.Standing.{piece_of}
use Rattle.fid_model.specs.Moments.{Moment}
use Rattle.fuse_gate.specs.Pump.{Opens, Closes, PumpsBy}
use Rattle.fuse_gate.specs.Playing.{Unfailing, Plays, PlaysTo, end_of}

module _ (n0 n1 : Moment) (s0 s1 : Session) (p0 p1 : Streams) (turns handled nine_frames : ℕ)
    (end : End) (b : Opens n0 s0) (e : Closes s1 n1) (nine : nine_frames ≡ s1.sent)
    (h : Ended s0 s1 p0 p1 turns handled end) (none : Unfailing n0 n1) where
  plays : (bytes : List ℕ) → cut turns bytes ≡ record { frames = h.frames; end = end }
      → Plays n0 n1 p0 p1 bytes turns end handled nine_frames
  plays bytes is =
      let same : s1.faults ≡ s0.faults = omega
      (arith, none.same, e.faults, b.rises, h.answered.stays.rises) in
      let below : s0.faults < 2 ^ 64 - 1 = omega
      (arith, none.same, none.below, e.faults, b.rises, h.answered.stays.rises) in
      let exact = Answered-exact s0 s1 h.frames h.replies h.answered same below in
      let frames : h.frames ≡ (cut turns bytes).frames = sym (ap (λ (c : Cut). c.frames) is) in
      let played : play_from s0.settings s0.state h.frames ≡ play_from n0.state.settings
      (begun (linked n0.state.tree) b.root) (cut turns bytes).frames =
      (λ j. play_from (b.settings j) (b.state j) (frames j)) in
      let number : messages_from s0.piece s0.settings s0.state h.frames ≡ messages_from
      (piece_of n0.state) n0.state.settings (begun (linked n0.state.tree) b.root)
      (cut turns bytes).frames = (λ j. messages_from (b.piece j) (b.settings j) (b.state j)
      (frames j)) in
      record {
        root = b.root;
        found = b.found;
        end = ap (λ (c : Cut). c.end) is;
        number = ap length (sym frames) ∙ h.number;
        replies = subst (Appends p0.sent p1.sent)
            (exact.0 ∙ ap (λ (r : List ℕ × MachineState). r.0) played) h.sent;
        tree = e.tree ∙ ap (λ (m : MachineState). linked m.tree)
            (exact.1 ∙ ap (λ (r : List ℕ × MachineState). r.1) played);
        messages = omega (arith, exact.2, number, nine, b.sent);
      }

  plays_known : (left : Option (List ℕ)) → IfSome left
      (λ bytes. cut turns bytes ≡ record { frames = h.frames; end = end })
      → IfSome left (λ bytes. Plays n0 n1 p0 p1 bytes turns end handled nine_frames)
  plays_known None k = tt
  plays_known (Some bytes) k = plays bytes k

module _ (n0 n1 : Moment) (p0 p1 : Streams) (turns : ℕ) where
  plays_done : (told : Pumped) → PumpsBy n0 n1 p0 p1 turns (Ok told)
      → PlaysTo done told.handled told.nine_frames n0 n1 p0 p1 turns
  plays_done told (s0, s1, b, e, k) none = plays_known n0 n1 s0 s1 p0 p1 turns told.handled
      told.nine_frames done b e k.0 k.1.2 none p0.left k.1.2.cut

  -- a run that stopped at the end of its cut
  by_cause : (s0 s1 : Session) (handled nine_frames : ℕ) (e : BridgeError) → Opens n0 s0
      → Closes s1 n1 → nine_frames ≡ s1.sent → StopsBy s0 s1 (Unit {0}) p0 p1 turns handled e
      → IfSome (end_of e) (λ end. PlaysTo end handled nine_frames n0 n1 p0 p1 turns)
  by_cause s0 s1 handled nine_frames cause.Torn b e sent h =
      λ none. plays_known n0 n1 s0 s1 p0 p1 turns handled nine_frames torn b e sent h.2 none p0.left
      h.2.cut
  by_cause s0 s1 handled nine_frames cause.BadLength b e sent h =
      λ none. plays_known n0 n1 s0 s1 p0 p1 turns handled nine_frames bad_length b e sent h.2 none
      p0.left h.2.cut
  by_cause s0 s1 handled nine_frames cause.TurnsSpent b e sent h =
      λ none. plays_known n0 n1 s0 s1 p0 p1 turns handled nine_frames turns_spent b e sent h.2 none
      p0.left h.2.cut
  by_cause s0 s1 handled nine_frames cause.Read b e sent h = tt
  by_cause s0 s1 handled nine_frames cause.Write b e sent h = tt
  by_cause s0 s1 handled nine_frames cause.NoMemory b e sent h = tt
  by_cause s0 s1 handled nine_frames _ b e sent h = tt

  plays_stopped : (told : Stopped) → PumpsBy n0 n1 p0 p1 turns (Err told)
      → IfSome (end_of told.cause) (λ end. PlaysTo end told.handled told.nine_frames n0 n1 p0 p1
      turns)
  plays_stopped told h = ⊎_elim
      (λ b. by_cause b.0 b.1 told.handled told.nine_frames told.cause b.2 b.3 b.4.0 b.4.1)
      (λ other. ⊎_elim
      (λ a. subst (λ (c : BridgeError). IfSome (end_of c)
      (λ end. PlaysTo end told.handled told.nine_frames n0 n1 p0 p1 turns)) (sym a.1) tt)
      (λ m. subst (λ (c : BridgeError). IfSome (end_of c)
      (λ end. PlaysTo end told.handled told.nine_frames n0 n1 p0 p1 turns)) (sym m.0) tt)
      other.2)
      h

  pub played_whole : (result : Result Pumped Stopped) → PumpsBy n0 n1 p0 p1 turns result
      → IfOk result (λ told. PlaysTo done told.handled told.nine_frames n0 n1 p0 p1 turns)
  played_whole (Ok told) h = plays_done told h
  played_whole (Err told) h = tt

  pub played_stopped : (result : Result Pumped Stopped) → PumpsBy n0 n1 p0 p1 turns result
      → IfErr result (λ told. IfSome (end_of told.cause)
      (λ end. PlaysTo end told.handled told.nine_frames n0 n1 p0 p1 turns))
  played_stopped (Ok told) h = tt
  played_stopped (Err told) h = plays_stopped told h
