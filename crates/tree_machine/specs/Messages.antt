-- How many 9P messages a gate takes for a request: counted from the tree, and not from what a gate
-- sent.
use Rattle.std.specs.Prelude.{ℕ, ◌+◌, ◌-◌, ◌/◌, max, min, List, [], ◌∷◌, length, Option, Some}
use Rattle.std.specs.Prelude.{None, Result, Ok, Err, Bool, drop, zero, suc, ◌||◌, ◌==◌}
use Rattle.std.specs.Prelude.{if◌then◌else◌, nat_lt}
use Rattle.std.specs.FinMap as map
use Rattle.std.specs.Int.{div_ceil}
use Rattle.tree_model.specs.Tree.{Tree}
use Rattle.tree_model.specs.AttributeSteps.{run}
use Rattle.tree_model.specs.Creating.{mkdir_of}
use Rattle.tree_model.specs.Finding.{find}
use Rattle.tree_model.specs.Reading.{Entry}
use Rattle.tree_model.specs.Pages.{page_of, last_cookie}
use Rattle.tree_model.specs.Settings.{Settings}
use Rattle.tree_model.specs.declared.attributes.Attr.{Attr}
use Rattle.fuse_wire.specs.Head.{head_of}
use Rattle.fuse_wire.specs.Request.{Request, init, lookup, getattr, unlink, open_file, read}
use Rattle.fuse_wire.specs.Request.{opendir, readdir, releasedir, flush, release, forget}
use Rattle.fuse_wire.specs.Request.{batch_forget, rmdir, rename, rename2, symlink, mknod, readlink}
use Rattle.fuse_wire.specs.Request.{statfs, fsync, fsyncdir, interrupt, destroy, mkdir, setattr}
use Rattle.fuse_wire.specs.Request.{write, link, create}
use Rattle.fuse_wire.specs.declared.protocol.TheConstants.{MAX_READ}
use Rattle.tree_machine.specs.State.{MachineState, Node, begun}
use Rattle.tree_machine.specs.Refusals.{none_or}
use Rattle.tree_machine.specs.Core.{node_ino, handle_ino, node_of, bytes_read}
use Rattle.tree_machine.specs.Naming.{link_told}
use Rattle.tree_model.specs.OpenedFiles.{new_file_of, open_of}
use Rattle.tree_machine.specs.Listing.{listed_page}
use Rattle.tree_machine.specs.Requests.{refusal_before}
use Rattle.tree_machine.specs.Setting.{set_steps}
use Rattle.tree_machine.specs.Writing.{write_told}
use Rattle.tree_machine.specs.Forgetting.{forgotten, all_forgotten, pairs_of}
use Rattle.tree_machine.specs.Step.{request_in_turn, step}

-- the second fid of an inode that has a node is let go again
abbrev pub entering_messages : Option (ℕ × Node) → ℕ
entering_messages None = 2
entering_messages (Some known) = 3

abbrev pub found_messages : MachineState → Result ℕ ℕ → ℕ
found_messages m (Err e) = 1
found_messages m (Ok ino) = entering_messages (node_of m ino)

-- a directory is made, and entered
abbrev pub made_messages : MachineState → Result (Attr × Tree) ℕ → ℕ
made_messages m (Ok (a, t)) = 1 + entering_messages (node_of m a.ino)
made_messages m (Err e) = 1

-- attributes are set, and asked for where no step was refused
abbrev pub set_messages : Result (Unit {0}) ℕ → ℕ
set_messages (Ok u) = 2
set_messages (Err e) = 1

-- a name is given, and the attributes are told
abbrev pub linked_messages : Result (Unit {0} × Tree) ℕ → ℕ
linked_messages (Ok x) = 2
linked_messages (Err e) = 1

-- the directory's fid is copied, the copy makes and opens a file, its fid is copied for the node,
-- and the attributes are told; where no file is made, the copy is let go again
abbrev pub created_messages : Result (ℕ × Tree) ℕ → ℕ
created_messages (Ok x) = 4
created_messages (Err e) = 3

-- the node's fid is copied, and the copy opened; where that is refused, the copy is let go again
abbrev pub opened_messages : {A : Type 0} → Result A ℕ → ℕ
opened_messages (Ok x) = 2
opened_messages (Err e) = 3

-- so many bytes were asked for, in pieces of at most `piece` bytes, and so many are there: the last
-- piece is short, or nothing is left to be asked for
abbrev pub pieces : ℕ → ℕ → ℕ → ℕ
pieces piece size there =
    if nat_lt there size then there / piece + 1 else max 1 (div_ceil size piece)

-- a message that is refused is the last
abbrev pub read_messages : ℕ → ℕ → Result (List ℕ) ℕ → ℕ
read_messages piece size (Ok bytes) = pieces piece size (length bytes)
read_messages piece size (Err e) = 1

-- a Twrite has 12 bytes more in front of its bytes than an Rread: a fid and an offset
abbrev pub write_piece : ℕ → ℕ
write_piece piece = piece - 12

-- bytes are written piece by piece until one is short; a piece that is refused is the last, and
-- behind others it is one that writes none
abbrev pub write_messages : ℕ → ℕ → Result (ℕ × Tree) ℕ → ℕ
write_messages piece size (Ok (n, t)) = pieces piece size n
write_messages piece size (Err e) = 1

-- how many bytes an entry has in a message: a qid, a cookie, a type, and the name with its length
abbrev pub dirent_size : Entry → ℕ
dirent_size e = 24 + length e.name

-- a message that brings no entry, or one that isn't in the page, is the last
abbrev pub is_last : List Entry → List Entry → Bool
is_last run page = length run == 0 || nat_lt (length page) (length run)

-- from a cookie on a directory is read until the page is full or nothing more comes. Each message
-- but the last brings an entry of the page, so as many steps as it has entries and one are enough
abbrev pub listing_messages : ℕ → ℕ → Tree → ℕ → ℕ → List Entry → ℕ
listing_messages zero piece t dir cookie page = 0
listing_messages (suc steps) piece t dir cookie page =
    let run = page_of dirent_size piece t dir cookie in
    if is_last run page then 1 else
    1 + listing_messages steps piece t dir (last_cookie cookie run) (drop (length run) page)

abbrev pub readdir_messages : ℕ → Tree → ℕ → ℕ → ℕ → ℕ
readdir_messages piece t dir cookie size =
    let page = listed_page t dir cookie size in
    listing_messages (length page + 1) piece t dir cookie page

-- one for each node that went
abbrev pub gone : MachineState → MachineState → ℕ
gone before after = map.len before.nodes - map.len after.nodes

-- the messages of a request that isn't refused before its first one, where a reply has at most
-- `piece` bytes of a file
abbrev pub effect_messages : ℕ → Settings → MachineState → ℕ → Request → ℕ
effect_messages piece s m node (init major minor max_readahead flags) = 0
effect_messages piece s m node (lookup name) =
    found_messages m (find s.casefold m.tree (node_ino (map.get m.nodes node)) name)
effect_messages piece s m node (getattr handle) = 1
effect_messages piece s m node (open_file flags) =
    opened_messages (open_of m.tree (node_ino (map.get m.nodes node)) flags)
effect_messages piece s m node (read fh offset size flags lock) =
    read_messages piece (min size MAX_READ) (bytes_read m offset size (map.get m.handles fh))
effect_messages piece s m node (setattr asked) =
    set_messages (run (set_steps m node asked) m.tree).0
effect_messages piece s m node (write fh offset bytes) =
    write_messages (write_piece piece) (length bytes) (write_told m fh offset bytes)
effect_messages piece s m node (unlink name) = 1
effect_messages piece s m node (rmdir name) = 1
effect_messages piece s m node (rename newdir old new) = 1
effect_messages piece s m node (rename2 newdir flags old new) = 1
effect_messages piece s m node (symlink name target) = 1
effect_messages piece s m node (mknod mode rdev name) = 1
effect_messages piece s m node (mkdir mode name) =
    made_messages m (mkdir_of m.tree (node_ino (map.get m.nodes node)) name mode)
effect_messages piece s m node (link old name) =
    linked_messages (link_told m (node_ino (map.get m.nodes old))
    (node_ino (map.get m.nodes node)) name)
effect_messages piece s m node (create flags mode name) =
    created_messages (new_file_of m.tree (node_ino (map.get m.nodes node)) name flags mode)
effect_messages piece s m node readlink = 1
effect_messages piece s m node statfs = 1
effect_messages piece s m node (opendir flags) = 2
effect_messages piece s m node (readdir fh offset size flags lock) =
    readdir_messages piece m.tree (handle_ino (map.get m.handles fh)) offset size
effect_messages piece s m node (releasedir fh) = 1
effect_messages piece s m node (flush fh) = 0
effect_messages piece s m node (release fh) = 1
effect_messages piece s m node (fsync fh flags) = 1
effect_messages piece s m node (fsyncdir fh flags) = 1
effect_messages piece s m node (forget number) = gone m (forgotten m node number)
effect_messages piece s m node (batch_forget pairs) = gone m (all_forgotten m (pairs_of pairs))
effect_messages piece s m node interrupt = 0
effect_messages piece s m node destroy = 0

-- the messages of any request; what is out of turn, isn't served or is outside its grammar takes
-- none
abbrev pub request_messages : ℕ → Settings → MachineState → ℕ → Result Request ℕ → ℕ
request_messages piece s m node (Err e) = 0
request_messages piece s m node (Ok r) =
    none_or (refusal_before s m node r) (effect_messages piece s m node r)

-- the messages that a frame takes from a state
abbrev pub messages : ℕ → Settings → MachineState → List ℕ → ℕ
messages piece s m frame =
    request_messages piece s m (head_of frame).nodeid (request_in_turn m.phase frame)

abbrev pub messages_from : ℕ → Settings → MachineState → List (List ℕ) → ℕ
messages_from piece s m [] = 0
messages_from piece s m (f ∷ fs) =
    messages piece s m f + messages_from piece s (step s m f).1 fs

-- the messages of a whole run: one for the attach, and those of each frame
abbrev pub total : ℕ → Settings → Tree → ℕ → List (List ℕ) → ℕ
total piece s t root frames = 1 + messages_from piece s (begun t root) frames
