-- What a message asks of the tree by fids and names, and what the answer leaves.
use Rattle.std.specs.Prelude.{ℕ, List, Option, Result, Ok, Err}
use Rattle.port_base.specs.Names.{name_fault}
use Rattle.tree_model.specs.Tree.{Tree}
use Rattle.p9_rmsg.specs.Replies.{Reply}
use Rattle.p9_rmsg.specs.Replies.Reply.{lerror as r_lerror}
use Rattle.fid_model.specs.Fids.{Fid, ServerState}
pub use Rattle.tree_model.specs.OpenedFiles.{unless_some}
use Rattle.fid_model.specs.FidCalls.{by_fid}

-- what is told of the inode that a fid names
abbrev pub at_fid : {A : Type 0} → Option Fid → (ℕ → Result A ℕ) → Result A ℕ
at_fid o told = by_fid (λ f. told f.ino) o

-- a name with a fault never comes to the tree
abbrev pub unless_fault : {A : Type 0} → List ℕ → Result A ℕ → Result A ℕ
unless_fault name told = unless_some (name_fault name) told

-- the reply and the state with the new tree; a refusal leaves the state
abbrev pub tree_answer : {A : Type 0} → ServerState → (A → Reply) → Result (A × Tree) ℕ → Reply
    × ServerState
tree_answer s reply (Ok (a, t)) = (reply a, record s { tree = t })
tree_answer s reply (Err e) = (r_lerror e, s)
