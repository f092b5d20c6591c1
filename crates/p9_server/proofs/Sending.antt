-- A reply and its frame: there is room for it, and it is not longer than the smallest message size.
use Rattle.std.proofs.Common.{◌≡◌, ℕ, ◌+◌, ◌≤◌, List, length, Err, arith}
use Rattle.std.specs.declared.option.Option.{Option}
use Rattle.port_base.specs.declared.sink.SinkFault.{SinkFault}
use Rattle.port_base.specs.declared.sink.SinkFault.TheVariants as sink
use Rattle.p9_wire.specs.Sending.{Sends, wire_fault}
use Rattle.p9_wire.specs.Frames.{frame}
use Rattle.p9_rmsg.specs.Replies.{Reply, reply_kind, reply_spelling}
use Rattle.p9_rmsg.specs.Frames.{reply_frame}
use Rattle.p9_server.specs.Answering.{IsSent}

frame_length : (kind tag : ℕ) (body : List ℕ) → length (frame kind tag body) ≡ 7 + length body
unfolding frame
frame_length kind tag body = omega arith

pub reply_length : (tag : ℕ) (r : Reply) → length (reply_frame tag r) ≡ 7 + length
    (reply_spelling r)
reply_length tag r = frame_length (reply_kind r) tag (reply_spelling r)

-- where there is room, only the sink's own failure is left
pub failed_send : (tag : ℕ) (r : Reply) (s0 s1 : Option (List ℕ)) (r0 r1 f0 f1 : ℕ)
    (fault : SinkFault) → 7 + length (reply_spelling r) ≤ r0
    → Sends {T = Unit {0}} (reply_frame tag r) s0 s1 r0 r1 f0 f1 (Err fault)
    → IsSent {T = Unit {0}} (reply_frame tag r) s0 s1 f0 f1 (Err (wire_fault fault))
failed_send tag r s0 s1 r0 r1 f0 f1 sink.Failed room sends = record { sent = sends }
failed_send tag r s0 s1 r0 r1 f0 f1 sink.NoMemory room sends =
    let less = sends.1 in
    let all = reply_length tag r in
    absurd (omega arith)
