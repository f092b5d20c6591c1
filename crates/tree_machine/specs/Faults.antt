-- What a request leaves that isn't carried out whole, for a fault of the host or no memory.
use Rattle.std.specs.Prelude.{◌≡◌, ◌⊎◌, ℕ, suc, List, [], ◌∷◌, ◌++◌, take, Result, Ok}
use Rattle.port_base.specs.declared.errno.TheConstants.{EIO}
use Rattle.tree_model.specs.AttributeSteps.{IsAfterFront as AreStepsDone}
use Rattle.tree_model.specs.Tree.{Tree}
use Rattle.tree_model.specs.Settings.{Settings}
use Rattle.fuse_wire.specs.Head.{head_of}
use Rattle.fuse_wire.specs.Request.{Request, batch_forget, setattr, write}
use Rattle.tree_machine.specs.State.{MachineState, kept_state}
use Rattle.tree_machine.specs.Replies.{answer_bytes}
use Rattle.tree_machine.specs.Replies.Reply.{Refused}
use Rattle.tree_machine.specs.Forgetting.{all_forgotten, pairs_of}
use Rattle.tree_machine.specs.Requests.{answer_of}
use Rattle.tree_machine.specs.Setting.{set_steps}
use Rattle.tree_machine.specs.Writing.{write_told, written_tree}
use Rattle.tree_machine.specs.Step.{request_in_turn, step}

-- the tree before a request, or the one after it
abbrev pub IsEither : Tree → Tree → Tree → Type 0
IsEither before after t = (t ≡ before) ⊎ (t ≡ after)

-- the tree after a front part of what is done one after another
abbrev pub IsAfterFront : {X : Type 0} → (List X → Tree) → List X → Tree → Type 0
IsAfterFront after all t = (n : ℕ) × (t ≡ after (take n all))

-- the trees between: of SETATTR those after a front part of its steps, of WRITE of its bytes, and of
-- BATCH_FORGET of its pairs; of no other request
abbrev pub IsBetween : MachineState → ℕ → Result Request ℕ → Tree → Type 0
IsBetween m node (Ok (setattr asked)) t = AreStepsDone (set_steps m node asked) m.tree t
IsBetween m node (Ok (write fh offset bytes)) t =
    IsAfterFront (λ xs. written_tree m.tree (write_told m fh offset xs)) bytes t
IsBetween m node (Ok (batch_forget pairs)) t =
    IsAfterFront (λ ps. (kept_state (all_forgotten m ps)).tree) (pairs_of pairs) t
IsBetween m node _ t = ⊥

-- the trees that a request may leave that isn't carried out whole: the one before it, the one after
-- it, and those between
abbrev pub PartOf : Settings → MachineState → ℕ → Result Request ℕ → Tree → Type 0
PartOf s m node request t =
    IsEither m.tree (kept_state (answer_of s m node request).1).tree t ⊎ IsBetween m node request t

-- the same of a frame
abbrev pub IsPartDone : Settings → MachineState → List ℕ → Tree → Type 0
IsPartDone s m frame t =
    PartOf s m (head_of frame).nodeid (request_in_turn m.phase frame) t

-- a request that met a fault gets the error EIO; all but the tree is as before
pub record IsHurtStep (s : Settings) (m : MachineState) (frame bytes : List ℕ)
    (after : MachineState) : Type 0 where
  pub answered : bytes ≡ answer_bytes frame (Refused EIO)
  pub state : after ≡ record m { tree = after.tree }
  pub tree : IsPartDone s m frame after.tree

-- a run in which so many of the requests met a fault
abbrev pub Hurt : Settings → MachineState → List (List ℕ) → ℕ → List ℕ → MachineState → Type 0
Hurt s m [] n replies last = (n ≡ 0) × (replies ≡ []) × (last ≡ m)
Hurt s m (f ∷ fs) n replies last =
    ((rest : List ℕ) × (replies ≡ (step s m f).0 ++ rest) × Hurt s (step s m f).1 fs n rest last)
    ⊎ ((bytes : List ℕ) × (rest : List ℕ) × (after : MachineState) × (k : ℕ)
    × IsHurtStep s m f bytes after × (replies ≡ bytes ++ rest) × (n ≡ suc k)
    × Hurt s after fs k rest last)
