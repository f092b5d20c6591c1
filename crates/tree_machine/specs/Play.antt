-- Runs of the machine.
use Rattle.std.specs.Prelude.{◌≡◌, ℕ, List, [], ◌∷◌, ◌++◌, Ok, IsTrue}
use Rattle.tree_model.specs.Tree.{Tree, linked}
use Rattle.tree_model.specs.Settings.{Settings}
use Rattle.fuse_wire.specs.Request.{Request, request_of}
use Rattle.tree_machine.specs.State.{MachineState, begun}
use Rattle.tree_machine.specs.Requests.{is_core}
use Rattle.tree_machine.specs.Step.{step, core_step}

-- the replies to frames, joined, and the last state, by a step
abbrev pub play_by : {S : Type 0} → (S → List ℕ → List ℕ × S) → S → List (List ℕ) → List ℕ × S
play_by step s [] = ([], s)
play_by step s (f ∷ fs) =
    ((step s f).0 ++ (play_by step (step s f).1 fs).0, (play_by step (step s f).1 fs).1)

-- the same from a state of the machine
abbrev pub play_from : Settings → MachineState → List (List ℕ) → List ℕ × MachineState
play_from settings m frames = play_by (step settings) m frames

abbrev pub core_play_from : Settings → MachineState → List (List ℕ) → List ℕ × MachineState
core_play_from settings m frames = play_by (core_step settings) m frames

-- the joined replies of a whole run, and the linked tree at its end
abbrev pub told_of : List ℕ × MachineState → List ℕ × Tree
told_of played = (played.0, linked played.1.tree)

-- a whole run from a tree and the root of its share
abbrev pub play : Settings → Tree → ℕ → List (List ℕ) → List ℕ × Tree
play settings t root frames = told_of (play_from settings (begun t root) frames)

-- the same of the machine that answers core requests
abbrev pub core_play : Settings → Tree → ℕ → List (List ℕ) → List ℕ × Tree
core_play settings t root frames = told_of (core_play_from settings (begun t root) frames)

-- a request whose opcode is served, whose body is in its grammar, and which is a core request
abbrev pub IsCoreRequest : List ℕ → Type 0
IsCoreRequest frame = (r : Request) × (request_of frame ≡ Ok r) × IsTrue (is_core r)

abbrev pub AreCoreRequests : List (List ℕ) → Type 0
AreCoreRequests [] = Unit {0}
AreCoreRequests (f ∷ fs) = IsCoreRequest f × AreCoreRequests fs
