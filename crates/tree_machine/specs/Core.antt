-- The core requests: for each one the refusals that stand before anything is done, in order, and
-- the reply and the state where it isn't refused by them.
use Rattle.std.specs.Prelude.{ℕ, ◌+◌, Bool, false, not, ◌||◌, List, [], ◌∷◌, find as first_where}
use Rattle.std.specs.Prelude.{Option, Some, None, Result, Ok, Err, ◌==◌, nat_lt, min}
use Rattle.std.specs.FinMap as map
use Rattle.port_base.specs.Names.{name_fault}
use Rattle.port_base.specs.OpenFlags.{access, has_flag}
use Rattle.port_base.specs.declared.errno.TheConstants.{EBADF, EISDIR, ELOOP, ENFILE, ENOENT}
use Rattle.port_base.specs.declared.errno.TheConstants.{ENOSYS, ENOTDIR, EPROTO, ESTALE}
use Rattle.port_base.specs.declared.oflag.TheConstants.{O_APPEND, O_RDONLY, O_WRONLY}
use Rattle.tree_model.specs.Tree.{Tree, Body, body_at, is_directory_at}
use Rattle.tree_model.specs.Tree.Body.{File, Directory, Link}
use Rattle.tree_model.specs.Finding.{find}
use Rattle.tree_model.specs.Attributes.{stat_of}
use Rattle.tree_model.specs.Opening.{read_of}
use Rattle.tree_model.specs.Unlinking.{unlink_of}
use Rattle.tree_model.specs.Settings.{Settings, shown_told}
use Rattle.tree_model.specs.declared.attributes.Attr.{Attr}
use Rattle.fuse_wire.specs.Request.{Request, init, lookup, getattr, unlink, open_file, read}
use Rattle.fuse_wire.specs.Request.{opendir, readdir, releasedir, flush, release, forget}
use Rattle.fuse_wire.specs.Request.{batch_forget}
use Rattle.fuse_wire.specs.declared.protocol.TheConstants.{FUSE_KERNEL_VERSION, FUSE_LEAST_MINOR}
use Rattle.fuse_wire.specs.declared.protocol.TheConstants.{FUSE_KERNEL_MINOR_VERSION, MAX_READ}
use Rattle.tree_machine.specs.State.{MachineState, Node, Handle, is_named, is_at_limit}
use Rattle.tree_machine.specs.State.{COUNT_LIMIT}
use Rattle.tree_machine.specs.State.Phase.{Started}
use Rattle.tree_machine.specs.Replies.{Reply, fuse_attributes}
use Rattle.tree_machine.specs.Replies.Reply.{Refused, Granted, Entry, Attributes, Opened, Bytes}
use Rattle.tree_machine.specs.Replies.Reply.{Done}
use Rattle.tree_machine.specs.Refusals.{refused_if, refused_unknown, first_refusal, refused_or}
use Rattle.tree_machine.specs.Forgetting.{forgotten, all_forgotten, pairs_of}
use Rattle.tree_machine.specs.Listing.{listing_bytes, listed_page}

-- the inode that a node or a handle names, 0 where there is none
abbrev pub node_ino : Option Node → ℕ
node_ino None = 0
node_ino (Some n) = n.ino

abbrev pub handle_ino : Option Handle → ℕ
handle_ino None = 0
handle_ino (Some h) = h.ino

-- ---- INIT

-- major 7 is spoken, and minors from 23 on
abbrev pub init_refusal : ℕ → ℕ → Option ℕ
init_refusal major minor =
    refused_if (not (major == FUSE_KERNEL_VERSION) || nat_lt minor FUSE_LEAST_MINOR) EPROTO

abbrev pub init_effect : MachineState → ℕ → ℕ → Reply × MachineState
init_effect m minor max_readahead =
    (Granted (min minor FUSE_KERNEL_MINOR_VERSION) max_readahead, record m { phase = Started })

-- ---- LOOKUP

abbrev pub lookup_refusal : Settings → MachineState → List ℕ → Option Node → Option ℕ
lookup_refusal s m name node = first_refusal (
    refused_unknown node ESTALE
    ∷ name_fault name
    ∷ refused_if (is_at_limit s m) ENFILE
    ∷ [])

-- the node of an inode, where it has one
abbrev pub node_of : MachineState → ℕ → Option (ℕ × Node)
node_of m ino = first_where (λ (e : ℕ × Node). e.1.ino == ino) (map.entries m.nodes)

-- an inode that has a node counts one more; else the next number is drawn as its node
abbrev pub node_for : MachineState → ℕ → Option (ℕ × Node) → ℕ × MachineState
node_for m ino (Some known) = (
  known.0,
  record m {
    nodes =
        map.insert m.nodes known.0
        (record { ino = ino; count = min (known.1.count + 1) COUNT_LIMIT });
  },
)
node_for m ino None = (
  m.next,
  record m {
    nodes = map.insert m.nodes m.next (record { ino = ino; count = 1 });
    next = m.next + 1;
  },
)

-- what is shown of an inode
abbrev pub shown_at : Settings → Tree → ℕ → Result Attr ℕ
shown_at s t ino = shown_told s (stat_of t ino)

abbrev pub entry_reply : ℕ → Result Attr ℕ → Reply
entry_reply node (Ok a) = Entry node (fuse_attributes a)
entry_reply node (Err e) = Refused e

abbrev pub entered : Settings → Tree → ℕ → ℕ × MachineState → Reply × MachineState
entered s t ino node = (entry_reply node.0 (shown_at s t ino), node.1)

abbrev pub looked_up : Settings → MachineState → Result ℕ ℕ → Reply × MachineState
looked_up s m (Err e) = (Refused e, m)
looked_up s m (Ok ino) = entered s m.tree ino (node_for m ino (node_of m ino))

-- ---- GETATTR

-- a handle that is given decides alone
abbrev pub getattr_refusal : MachineState → ℕ → Option ℕ → Option ℕ
getattr_refusal m node (Some handle) = refused_unknown (map.get m.handles handle) EBADF
getattr_refusal m node None = refused_unknown (map.get m.nodes node) ESTALE

abbrev pub getattr_ino : MachineState → ℕ → Option ℕ → ℕ
getattr_ino m node (Some handle) = handle_ino (map.get m.handles handle)
getattr_ino m node None = node_ino (map.get m.nodes node)

abbrev pub attr_reply : Result Attr ℕ → Reply
attr_reply (Ok a) = Attributes (fuse_attributes a)
attr_reply (Err e) = Refused e

-- ---- OPEN

abbrev pub open_refusal : Settings → MachineState → Option Node → Option ℕ
open_refusal s m node = first_refusal (
    refused_unknown node ESTALE
    ∷ refused_if (is_at_limit s m) ENFILE
    ∷ refused_if (is_directory_at (body_at m.tree.records (node_ino node))) EISDIR
    ∷ [])

-- a link isn't opened
abbrev pub link_check : Option Body → Result (Unit {0}) ℕ
link_check None = Err ENOENT
link_check (Some (File bytes)) = Ok tt
link_check (Some (Directory es next above)) = Ok tt
link_check (Some (Link target)) = Err ELOOP

-- the next number is drawn as a handle
abbrev pub with_handle : MachineState → ℕ → ℕ → MachineState
with_handle m ino flags = record m {
  handles = map.insert m.handles m.next
      (record { ino = ino; access = access flags; append = has_flag O_APPEND flags });
  next = m.next + 1;
}

abbrev pub opened : MachineState → ℕ → ℕ → Result (Unit {0}) ℕ → Reply × MachineState
opened m ino flags (Ok u) = (Opened m.next, with_handle m ino flags)
opened m ino flags (Err e) = (Refused e, m)

-- ---- READ

-- what is open to be written alone isn't read
abbrev pub is_unreadable : Option Handle → Bool
is_unreadable None = false
is_unreadable (Some h) = h.access == O_WRONLY

abbrev pub read_refusal : MachineState → Option Handle → Option ℕ
read_refusal m handle = first_refusal (
    refused_unknown handle EBADF
    ∷ refused_if (is_directory_at (body_at m.tree.records (handle_ino handle))) EISDIR
    ∷ refused_if (is_unreadable handle) EBADF
    ∷ [])

-- the bytes of a handle's file from an offset on, at most so many
abbrev pub bytes_read : MachineState → ℕ → ℕ → Option Handle → Result (List ℕ) ℕ
bytes_read m offset size handle = read_of m.tree (handle_ino handle) offset (min size MAX_READ)

abbrev pub bytes_reply : Result (List ℕ) ℕ → Reply
bytes_reply (Ok bytes) = Bytes bytes
bytes_reply (Err e) = Refused e

-- ---- OPENDIR, READDIR and UNLINK

abbrev pub opendir_refusal : Settings → MachineState → Option Node → Option ℕ
opendir_refusal s m node = first_refusal (
    refused_unknown node ESTALE
    ∷ refused_if (is_at_limit s m) ENFILE
    ∷ refused_if (not (is_directory_at (body_at m.tree.records (node_ino node)))) ENOTDIR
    ∷ [])

abbrev pub readdir_refusal : MachineState → Option Handle → Option ℕ
readdir_refusal m handle = first_refusal (
    refused_unknown handle EBADF
    ∷ refused_if (not (is_directory_at (body_at m.tree.records (handle_ino handle)))) ENOTDIR
    ∷ [])

-- the entries above a cookie, as many as there is room for
abbrev pub listed : MachineState → ℕ → ℕ → Option Handle → Reply
listed m offset size handle =
    Bytes (listing_bytes (listed_page m.tree (handle_ino handle) offset size))

-- of a request that names an entry of a node
abbrev pub name_refusal : List ℕ → Option Node → Option ℕ
name_refusal name node = first_refusal (refused_unknown node ESTALE ∷ name_fault name ∷ [])

-- a name that goes; a file that a node or a handle names stays
abbrev pub unlink_told : MachineState → ℕ → List ℕ → Result (Unit {0} × Tree) ℕ
unlink_told m dir name = unlink_of (is_named m.nodes m.handles) m.tree dir name

-- the tree that a change leaves, or why it was refused
abbrev pub changed_by : MachineState → Result (Unit {0} × Tree) ℕ → Reply × MachineState
changed_by m (Ok (u, t)) = (Done, record m { tree = t })
changed_by m (Err e) = (Refused e, m)

-- ---- every core request, asked of a node; no other one is served here

abbrev pub core_refusal : Settings → MachineState → ℕ → Request → Option ℕ
core_refusal s m node (init major minor max_readahead flags) = init_refusal major minor
core_refusal s m node (lookup name) = lookup_refusal s m name (map.get m.nodes node)
core_refusal s m node (getattr handle) = getattr_refusal m node handle
core_refusal s m node (open_file flags) = open_refusal s m (map.get m.nodes node)
core_refusal s m node (read fh offset size flags lock) = read_refusal m (map.get m.handles fh)
core_refusal s m node (unlink name) = name_refusal name (map.get m.nodes node)
core_refusal s m node (opendir flags) = opendir_refusal s m (map.get m.nodes node)
core_refusal s m node (readdir fh offset size flags lock) =
    readdir_refusal m (map.get m.handles fh)
core_refusal s m node (releasedir fh) = refused_unknown (map.get m.handles fh) EBADF
core_refusal s m node (flush fh) = refused_unknown (map.get m.handles fh) EBADF
core_refusal s m node (release fh) = refused_unknown (map.get m.handles fh) EBADF
core_refusal s m node (forget number) = None
core_refusal s m node (batch_forget pairs) = None
core_refusal s m node _ = Some ENOSYS

abbrev pub core_effect : Settings → MachineState → ℕ → Request → Reply × MachineState
core_effect s m node (init major minor max_readahead flags) = init_effect m minor max_readahead
core_effect s m node (lookup name) =
    looked_up s m (find s.casefold m.tree (node_ino (map.get m.nodes node)) name)
core_effect s m node (getattr handle) =
    (attr_reply (shown_at s m.tree (getattr_ino m node handle)), m)
core_effect s m node (open_file flags) =
    let ino = node_ino (map.get m.nodes node) in
    opened m ino flags (link_check (body_at m.tree.records ino))
core_effect s m node (read fh offset size flags lock) =
    (bytes_reply (bytes_read m offset size (map.get m.handles fh)), m)
core_effect s m node (unlink name) =
    changed_by m (unlink_told m (node_ino (map.get m.nodes node)) name)
core_effect s m node (opendir flags) =
    (Opened m.next, with_handle m (node_ino (map.get m.nodes node)) O_RDONLY)
core_effect s m node (readdir fh offset size flags lock) =
    (listed m offset size (map.get m.handles fh), m)
core_effect s m node (releasedir fh) = (Done, record m { handles = map.remove m.handles fh })
core_effect s m node (flush fh) = (Done, m)
core_effect s m node (release fh) = (Done, record m { handles = map.remove m.handles fh })
core_effect s m node (forget number) = (Done, forgotten m node number)
core_effect s m node (batch_forget pairs) = (Done, all_forgotten m (pairs_of pairs))
core_effect s m node _ = (Done, m)

-- what a core request answers, and the state that it leaves
abbrev pub core : Settings → MachineState → ℕ → Result Request ℕ → Reply × MachineState
core s m node (Err e) = (Refused e, m)
core s m node (Ok r) = refused_or m (core_refusal s m node r) (core_effect s m node r)
