-- The frames so far were answered and their replies sent.
use Rattle.std.proofs.Common.{◌≡◌}
use Rattle.frame_pump.proofs.Pumping.{Pumping}
use Rattle.frame_pump.proofs.run.handle_frames.Given as goal

abbrev pub invariant-loop-handled : goal.invariant-loop-handled
invariant-loop-handled g l = record {
  pumping : Pumping (g.A.Answerer.session l.initial.answerer l.initial.below)
      (g.A.Answerer.session l.answerer l.below) (g.A.Answerer.stands l.answerer l.below)
      (record {
        left = g.S.Source.left l.initial.input;
        sent =
            g.K.Sink.sent l.initial.out;
        read_faults =
            g.S.Source.faults l.initial.input;
        write_faults = g.K.Sink.faults l.initial.out;
      })
      (record {
        left = g.S.Source.left l.input;
        sent = g.K.Sink.sent l.out;
        read_faults =
            g.S.Source.faults l.input;
        write_faults = g.K.Sink.faults l.out;
      }) l.handled;
  kept : g.A.Answerer.kept l.answerer l.below ≡ g.A.Answerer.kept l.initial.answerer
      l.initial.below;
  input : g.S.Source.kept l.input ≡ g.S.Source.kept l.initial.input;
  lender : g.S.Source.lender l.input ≡ g.S.Source.lender l.initial.input;
  output : g.K.Sink.kept l.out ≡ g.K.Sink.kept l.initial.out;
}
