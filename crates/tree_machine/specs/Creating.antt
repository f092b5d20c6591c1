-- CREATE: a file is made in a directory, becomes a node, and is opened.
use Rattle.std.specs.Prelude.{ℕ, ◌+◌, Bool, ◌||◌, nat_lt, List, [], ◌∷◌, Option}
use Rattle.std.specs.Prelude.{Result, Ok, Err}
use Rattle.std.specs.FinMap as map
use Rattle.port_base.specs.Names.{name_fault}
use Rattle.port_base.specs.declared.errno.TheConstants.{ENFILE, ESTALE}
use Rattle.tree_model.specs.declared.attributes.Attr.{Attr}
use Rattle.tree_model.specs.Settings.{Settings}
use Rattle.tree_model.specs.Tree.{Tree}
use Rattle.tree_machine.specs.declared.limits.TheConstants.{NUMBER_LIMIT}
use Rattle.tree_machine.specs.State.{MachineState, Node}
use Rattle.tree_machine.specs.Replies.{Reply, fuse_attributes}
use Rattle.tree_machine.specs.Replies.Reply.{Refused, Created}
use Rattle.tree_machine.specs.Refusals.{refused_if, refused_unknown, first_refusal}
use Rattle.tree_machine.specs.Core.{shown_at, with_handle}

-- no two further numbers can be drawn: two more would be more than the limit, or the counter would
-- pass its end
abbrev pub lacks_two : Settings → MachineState → Bool
lacks_two s m =
    nat_lt s.limit (map.len m.nodes + map.len m.handles + 2) || nat_lt NUMBER_LIMIT (m.next + 2)

abbrev pub create_refusal : Settings → MachineState → List ℕ → Option Node → Option ℕ
create_refusal s m name node = first_refusal (
    refused_unknown node ESTALE
    ∷ name_fault name
    ∷ refused_if (lacks_two s m) ENFILE
    ∷ [])

-- a node, and the handle that has the number after it
abbrev pub created_reply : ℕ → Result Attr ℕ → Reply
created_reply node (Ok a) = Created node (fuse_attributes a) (node + 1)
created_reply node (Err e) = Refused e

-- the next number is drawn as the node of an inode
abbrev pub with_node : MachineState → ℕ → MachineState
with_node m ino = record m {
  nodes = map.insert m.nodes m.next (record { ino = ino; count = 1 });
  next = m.next + 1;
}

-- an inode becomes a node, and is opened
abbrev pub entered_open : Settings → MachineState → ℕ → ℕ → Reply × MachineState
entered_open s m ino flags =
    (created_reply m.next (shown_at s m.tree ino), with_handle (with_node m ino) ino flags)

abbrev pub created : Settings → MachineState → ℕ → Result (ℕ × Tree) ℕ → Reply × MachineState
created s m flags (Ok (ino, t)) = entered_open s (record m { tree = t }) ino flags
created s m flags (Err e) = (Refused e, m)
