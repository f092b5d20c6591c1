-- One frame: whether it is in turn, what it asks, and the bytes of its reply.
use Rattle.std.specs.Prelude.{ℕ, Bool, false, not, List, Result, Err, if◌then◌else◌, ◌==◌}
use Rattle.port_base.specs.declared.errno.TheConstants.{EPROTO}
use Rattle.tree_model.specs.Settings.{Settings}
use Rattle.fuse_wire.specs.declared.opcode.TheConstants.{FUSE_INIT}
use Rattle.fuse_wire.specs.Head.{head_of}
use Rattle.fuse_wire.specs.Request.{Request, request_of}
use Rattle.tree_machine.specs.State.{MachineState, Phase, kept_state}
use Rattle.tree_machine.specs.State.Phase.{New, Started, Over}
use Rattle.tree_machine.specs.Replies.{Reply, answer_bytes}
use Rattle.tree_machine.specs.Core.{core}
use Rattle.tree_machine.specs.Requests.{answer_of}

-- INIT begins a session, and comes once; nothing is in turn after DESTROY
abbrev pub is_in_turn : Phase → ℕ → Bool
is_in_turn New opcode = opcode == FUSE_INIT
is_in_turn Started opcode = not (opcode == FUSE_INIT)
is_in_turn Over opcode = false

-- the request of a frame; out of turn comes first, then an opcode that isn't served, then a body
-- outside its grammar
abbrev pub request_in_turn : Phase → List ℕ → Result Request ℕ
request_in_turn phase frame =
    if is_in_turn phase (head_of frame).opcode then request_of frame else Err EPROTO

-- the reply to a frame, and the state before records go
abbrev pub frame_answer : Settings → MachineState → List ℕ → Reply × MachineState
frame_answer s m frame = answer_of s m (head_of frame).nodeid (request_in_turn m.phase frame)

-- the bytes of a frame's reply, and the state that is kept
abbrev pub stepped : List ℕ → Reply × MachineState → List ℕ × MachineState
stepped frame answer = (answer_bytes frame answer.0, kept_state answer.1)

-- one step of the machine that answers every request
abbrev pub step : Settings → MachineState → List ℕ → List ℕ × MachineState
step s m frame = stepped frame (frame_answer s m frame)

-- one step of the machine that answers core requests
abbrev pub core_step : Settings → MachineState → List ℕ → List ℕ × MachineState
core_step s m frame =
    stepped frame (core s m (head_of frame).nodeid (request_in_turn m.phase frame))
