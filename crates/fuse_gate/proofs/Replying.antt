-- How long replies are, and that they are short.
use Rattle.std.proofs.Common.{◌≡◌, ℕ, ◌+◌, ◌≤◌, [], length, List, take, drop, min, Option, Some}
use Rattle.std.proofs.Common.{None, Result, Ok, Err, sym, ap, ◌∙◌, subst, arith, refl, ⊎_elim}
use Rattle.std.specs.Prelude.{option_map}
use Rattle.std.specs.FinMap.{get}
use Rattle.std.proofs.lemmas.List.{length-append, length-take}
use Rattle.tree_model.specs.Tree.{Tree, Record, Body, body_at}
use Rattle.tree_model.specs.Tree.Body.{File, Directory, Link}
use Rattle.tree_model.specs.Creating.{mkdir_of}
use Rattle.tree_model.specs.Finding.{find}
use Rattle.tree_model.specs.Opening.{body_answer, read_body, readlink_body}
use Rattle.tree_model.specs.AttributeSteps.{run}
use Rattle.tree_model.specs.Settings.{Settings}
use Rattle.tree_model.specs.declared.attributes.Attr.{Attr}
use Rattle.tree_model.specs.declared.attributes.TheConstants.{BLOCK_SIZE}
use Rattle.tree_model.specs.Good.{IsGoodTree, IsGoodBody}
use Rattle.fuse_wire.specs.Head.{head_of}
use Rattle.tree_machine.specs.Setting.{given_handle, set_reply, set_steps}
use Rattle.fuse_wire.specs.Request.{Request, init, lookup, getattr, unlink, open_file, read}
use Rattle.fuse_wire.specs.Request.{opendir}
use Rattle.fuse_wire.specs.Request.{readdir, releasedir, flush, release, forget, batch_forget}
use Rattle.fuse_wire.specs.Request.{rmdir, rename, rename2, symlink, mknod, readlink, statfs, fsync}
use Rattle.fuse_wire.specs.Request.{fsyncdir, interrupt, destroy, mkdir, setattr, write, link}
use Rattle.fuse_wire.specs.Request.{create}
use Rattle.fuse_wire.specs.Reply.{u32s, u64s, reply_head, reply, init_body, entry_body, attr_body}
use Rattle.fuse_wire.specs.Reply.{opened_body, statfs_body, created_body, written_body}
use Rattle.fuse_wire.specs.declared.protocol.TheConstants.{MAX_READ}
use Rattle.fuse_wire.proofs.Sizes.{length-init_body, length-entry_body, length-attr_body}
use Rattle.fuse_wire.proofs.Sizes.{length-opened_body, length-statfs_body, length-created_body}
use Rattle.fuse_wire.proofs.Sizes.{length-written_body}
use Rattle.tree_machine.specs.State.{MachineState}
use Rattle.tree_machine.specs.Replies.{Reply, reply_bytes}
use Rattle.tree_machine.specs.Replies.Reply.{Refused, Granted, Entry, Attributes, Opened, Bytes}
use Rattle.tree_machine.specs.Replies.Reply.{Sizes, Done, Created, Written}
use Rattle.tree_machine.specs.Refusals.{refused_or}
use Rattle.tree_machine.specs.Core.{node_ino, handle_ino, node_of, node_for, entry_reply, shown_at}
use Rattle.tree_machine.specs.Core.{looked_up, getattr_ino, attr_reply, bytes_reply}
use Rattle.tree_machine.specs.Core.{unlink_told, changed_by}
use Rattle.tree_machine.specs.Naming.{rmdir_told, rename_told, made, link_told, linked}
use Rattle.tree_model.specs.OpenedFiles.{new_file_of, open_of}
use Rattle.tree_machine.specs.Creating.{created, created_reply}
use Rattle.tree_machine.specs.Requests.{refusal_before, effect_of, answer_of, opened_to}
use Rattle.tree_machine.specs.Writing.{write_told, written_reply}
use Rattle.tree_machine.specs.Step.{request_in_turn}
use Rattle.tree_machine.proofs.Listing.{listing_short}
use Rattle.fid_model.specs.Moments.{Moment}
use Rattle.fuse_gate.specs.Standing.{IsInStep}
use Rattle.fuse_gate.specs.Steps.{ServesFrame, machine_at}
use Rattle.fuse_gate.specs.Replies.{reply_of, IsShort}
use Rattle.fuse_gate.specs.declared.gate.Gate.{Gate}
use Rattle.fuse_gate.specs.declared.gate.reply.Reply.{Reply as GateReply}

length-head : (unique errno size : ℕ) → length (reply_head unique errno size) ≡ 16
unfolding reply_head u32s u64s
length-head unique errno size = refl

-- a reply is a head of 16 bytes and its body
length-reply : (unique errno : ℕ) (body : List ℕ)
    → length (reply unique errno body) ≡ 16 + length body
unfolding reply
length-reply unique errno body = length-append (reply_head unique errno (length body)) body
    ∙ ap (λ n. n + length body) (length-head unique errno (length body))

-- how many bytes stand behind the head
abbrev pub body_size : Reply → ℕ
body_size (Refused errno) = 0
body_size (Granted minor max_readahead) = 64
body_size (Entry node attr) = 128
body_size (Attributes attr) = 104
body_size (Opened handle) = 16
body_size (Created node attr handle) = 144
body_size (Bytes bytes) = length bytes
body_size (Written count) = 8
body_size (Sizes blocks files) = 80
body_size Done = 0

pub written_size : (unique : ℕ) (r : Reply) → length (reply_bytes unique r) ≡ 16 + body_size r
written_size unique (Refused errno) = length-reply unique errno []
written_size unique (Granted minor max_readahead) =
    length-reply unique 0 (init_body minor max_readahead)
    ∙ ap (λ n. 16 + n) (length-init_body minor max_readahead)
written_size unique (Entry node attr) = length-reply unique 0 (entry_body node attr)
    ∙ ap (λ n. 16 + n) (length-entry_body node attr)
written_size unique (Attributes attr) = length-reply unique 0 (attr_body attr)
    ∙ ap (λ n. 16 + n) (length-attr_body attr)
written_size unique (Opened handle) = length-reply unique 0 (opened_body handle)
    ∙ ap (λ n. 16 + n) (length-opened_body handle)
written_size unique (Created node attr handle) =
    length-reply unique 0 (created_body node attr handle)
    ∙ ap (λ n. 16 + n) (length-created_body node attr handle)
written_size unique (Bytes bytes) = length-reply unique 0 bytes
written_size unique (Written count) = length-reply unique 0 (written_body count)
    ∙ ap (λ n. 16 + n) (length-written_body count)
written_size unique (Sizes blocks files) =
    length-reply unique 0 (statfs_body BLOCK_SIZE blocks files)
    ∙ ap (λ n. 16 + n) (length-statfs_body BLOCK_SIZE blocks files)
written_size unique Done = length-reply unique 0 []

pub sized : (r : Reply) (body : ℕ) → body ≡ body_size r → (unique : ℕ)
    → 16 + body ≡ length (reply_bytes unique r)
sized r body is unique = ap (λ n. 16 + n) is ∙ sym (written_size unique r)

-- there is room for what was reserved
pub room : (unique before capacity : ℕ) (r0 : GateReply)
    → before + length (reply_bytes unique (reply_of r0)) ≤ capacity → (r : GateReply) → r0 ≡ r
    → before + (16 + body_size (reply_of r)) ≤ capacity
room unique before capacity r0 h r is = subst (λ n. before + n ≤ capacity)
    (ap (λ (x : GateReply). length (reply_bytes unique (reply_of x))) is
    ∙ written_size unique (reply_of r)) h

-- ---- no reply of the machine has more bytes of a file than one request reads

refused_or_short : (m : MachineState) (o : Option ℕ) (effect : Reply × MachineState)
    → IsShort effect.0 → IsShort (refused_or m o effect).0
refused_or_short m None effect short = short
refused_or_short m (Some e) effect short = tt

entry_short : (node : ℕ) (r : Result Attr ℕ) → IsShort (entry_reply node r)
entry_short node (Ok a) = tt
entry_short node (Err e) = tt

looked_up_short : (s : Settings) (m : MachineState) (r : Result ℕ ℕ) → IsShort (looked_up s m r).0
looked_up_short s m (Ok ino) = entry_short (node_for m ino (node_of m ino)).0
    (shown_at s m.tree ino)
looked_up_short s m (Err e) = tt

made_short : (s : Settings) (m : MachineState) (r : Result (Attr × Tree) ℕ) → IsShort (made s m r).0
made_short s m (Ok (a, t)) =
    let m1 : MachineState = record m { tree = t } in looked_up_short s m1 (Ok a.ino)
made_short s m (Err e) = tt

linked_short : (s : Settings) (m : MachineState) (ino : ℕ) (r : Result (Unit {0} × Tree) ℕ)
    → IsShort (linked s m ino r).0
linked_short s m ino (Ok (u, t)) =
    let m1 : MachineState = record m { tree = t } in looked_up_short s m1 (Ok ino)
linked_short s m ino (Err e) = tt

created_entry_short : (node : ℕ) (r : Result Attr ℕ) → IsShort (created_reply node r)
created_entry_short node (Ok a) = tt
created_entry_short node (Err e) = tt

created_short : (s : Settings) (m : MachineState) (flags : ℕ) (r : Result (ℕ × Tree) ℕ)
    → IsShort (created s m flags r).0
created_short s m flags (Ok (ino, t)) = created_entry_short m.next (shown_at s t ino)
created_short s m flags (Err e) = tt

attr_short : (r : Result Attr ℕ) → IsShort (attr_reply r)
attr_short (Ok a) = tt
attr_short (Err e) = tt

set_short : (s : Settings) (m : MachineState) (ino : ℕ) (r : Result (Unit {0}) ℕ × Tree)
    → IsShort (set_reply s m ino r).0
set_short s m ino (Ok u, t) = attr_short (shown_at s t ino)
set_short s m ino (Err e, t) = tt

opened_short : (m : MachineState) (ino flags : ℕ) (r : Result (Unit {0} × Tree) ℕ)
    → IsShort (opened_to m ino flags r).0
opened_short m ino flags (Ok (u, t)) = tt
opened_short m ino flags (Err e) = tt

part_short : (size : ℕ) (rest : List ℕ) → length (take (min size MAX_READ) rest) ≤ MAX_READ
part_short size rest = let long = length-take (min size MAX_READ) rest in omega (arith, long)

bytes_short : (offset size : ℕ) (b : Option Body)
    → IsShort (bytes_reply (body_answer (read_body offset (min size MAX_READ)) b))
bytes_short offset size None = tt
bytes_short offset size (Some (File bytes)) = part_short size (drop offset bytes)
bytes_short offset size (Some (Directory es next above)) = tt
bytes_short offset size (Some (Link target)) = tt

wrote_short : (told : Result (ℕ × Tree) ℕ) → IsShort (written_reply told)
wrote_short (Ok x) = tt
wrote_short (Err e) = tt

changed_short : (m : MachineState) (r : Result (Unit {0} × Tree) ℕ) → IsShort (changed_by m r).0
changed_short m (Ok x) = tt
changed_short m (Err e) = tt

-- a link's target is short in a good tree
target_short : (o : Option Record)
    → ((r : Record) → o ≡ Some r → IsGoodBody r.body)
    → IsShort (bytes_reply (body_answer readlink_body (option_map (λ (r : Record). r.body) o)))
target_short None good = tt
target_short (Some r) good = by_body r.body (good r refl)
  where
    by_body : (b : Body) → IsGoodBody b → IsShort (bytes_reply (readlink_body b))
    by_body (File bytes) good = tt
    by_body (Directory es next above) good = tt
    by_body (Link target) good = let short = good.1 in omega (arith, short)

module _ (s : Settings) (m : MachineState) (good : IsGoodTree m.tree) where
  effect_short : (node : ℕ) (r : Request) → IsShort (effect_of s m node r).0
  effect_short node (init major minor max_readahead flags) = tt
  effect_short node (lookup name) = looked_up_short s m
      (find s.casefold m.tree (node_ino (get m.nodes node)) name)
  effect_short node (getattr handle) = attr_short (shown_at s m.tree (getattr_ino m node handle))
  effect_short node (open_file flags) = let ino =
      node_ino (get m.nodes node) in opened_short m ino flags (open_of m.tree ino flags)
  effect_short node (read fh offset size flags lock) =
      bytes_short offset size (body_at m.tree.records (handle_ino (get m.handles fh)))
  effect_short node (setattr asked) = set_short s m (getattr_ino m node (given_handle asked))
      (run (set_steps m node asked) m.tree)
  effect_short node (write fh offset bytes) = wrote_short (write_told m fh offset bytes)
  effect_short node (unlink name) = changed_short m
      (unlink_told m (node_ino (get m.nodes node)) name)
  effect_short node (rmdir name) = changed_short m
      (rmdir_told m (node_ino (get m.nodes node)) name)
  effect_short node (rename newdir old new) = changed_short m
      (rename_told m (node_ino (get m.nodes node)) old (node_ino (get m.nodes newdir)) new)
  effect_short node (rename2 newdir flags old new) = changed_short m
      (rename_told m (node_ino (get m.nodes node)) old (node_ino (get m.nodes newdir)) new)
  effect_short node (symlink name target) = tt
  effect_short node (mknod mode rdev name) = tt
  effect_short node (mkdir mode name) = made_short s m
      (mkdir_of m.tree (node_ino (get m.nodes node)) name mode)
  effect_short node (link old name) = linked_short s m (node_ino (get m.nodes old))
      (link_told m (node_ino (get m.nodes old)) (node_ino (get m.nodes node)) name)
  effect_short node (create flags mode name) = created_short s m flags
      (new_file_of m.tree (node_ino (get m.nodes node)) name flags mode)
  effect_short node readlink =
      let ino = node_ino (get m.nodes node) in
      target_short (get m.tree.records ino) (λ r at. (good.records ino r at).body)
  effect_short node statfs = tt
  effect_short node (opendir flags) = tt
  effect_short node (readdir fh offset size flags lock) =
      listing_short m.tree (handle_ino (get m.handles fh)) offset size
  effect_short node (releasedir fh) = tt
  effect_short node (flush fh) = tt
  effect_short node (release fh) = tt
  effect_short node (fsync fh flags) = tt
  effect_short node (fsyncdir fh flags) = tt
  effect_short node (forget number) = tt
  effect_short node (batch_forget pairs) = tt
  effect_short node interrupt = tt
  effect_short node destroy = tt

  answer_short : (node : ℕ) (r : Result Request ℕ) → IsShort (answer_of s m node r).0
  answer_short node (Err e) = tt
  answer_short node (Ok r) = refused_or_short m (refusal_before s m node r) (effect_of s m node r)
      (effect_short node r)

-- what a frame was answered
pub served_short : (frame : List ℕ) (old new : Gate × Moment) (reply : Reply)
    → IsInStep old.0 old.1.state → ServesFrame frame old new reply → IsShort reply
served_short frame old new reply st served = ⊎_elim
    (λ told. subst IsShort (sym told.0) (answer_short old.1.state.settings (machine_at old) st.good.tree
    (head_of frame).nodeid (request_in_turn (machine_at old).phase frame)))
    (λ hurt. subst IsShort (sym hurt.1) tt)
    served.outcome
