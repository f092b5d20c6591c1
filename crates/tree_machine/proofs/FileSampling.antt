-- The first example goes on: `hello` is opened, read, closed and forgotten.
use Rattle.std.proofs.Common.{◌≡◌, ℕ, ◌+◌, Bool, false, cond, List, [], ◌∷◌, refl, sym, ap, ◌∙◌}
use Rattle.std.proofs.Common.{Option, Some, None, Result, Ok, arith}
use Rattle.std.specs.Prelude.{codes, drop, min, is_some, option_map, nat_le, ◌||◌}
use Rattle.std.specs.Ordering.{nat_cmp}
use Rattle.std.specs.Cmp.{nat_cmp_total}
use Rattle.std.specs.FinMap.{FinMap, get, remove, empty, len, len-insert, len-empty, get-empty}
use Rattle.port_base.specs.declared.errno.TheConstants.{EBADF, EISDIR, ENFILE, ESTALE}
use Rattle.tree_model.specs.Tree.{Tree, Record, body_at, is_directory_at}
use Rattle.tree_model.specs.Attributes.{kind_of}
use Rattle.tree_model.specs.Opening.{body_answer, unless, open_refused, open_check_of, read_body}
use Rattle.tree_model.specs.Attributing.{len_refused, refused_at, resized, rewritten_at}
use Rattle.tree_model.specs.Attributing.{with_changed}
use Rattle.tree_model.specs.Making.{unless_refused}
use Rattle.tree_model.specs.OpenedFiles.{emptied_where, open_of}
use Rattle.tree_model.proofs.Changing.{change_at}
use Rattle.tree_model.proofs.Maps.{inserted, insert_keeps, undone}
use Rattle.fuse_wire.specs.Fields.{u32_at, u64_at}
use Rattle.fuse_wire.specs.Head.{head_of}
use Rattle.fuse_wire.specs.Layouts.{flags_of, read_in_of, handle_of}
use Rattle.fuse_wire.specs.Request.{request_of, request_in}
use Rattle.fuse_wire.specs.Request.{forget_of, batch_forget_of, open_file, read, flush, release}
use Rattle.fuse_wire.specs.Request.{forget, batch_forget}
use Rattle.fuse_wire.specs.Reply.{reply, reply_head, opened_body, u32s, u64s}
use Rattle.tree_machine.specs.State.{MachineState, Node, Handle, is_at_limit}
use Rattle.tree_machine.specs.State.Phase.{Started}
use Rattle.fuse_wire.specs.declared.protocol.TheConstants.{MAX_READ}
use Rattle.tree_machine.specs.Replies.{Reply, answer_bytes}
use Rattle.tree_machine.specs.Replies.Reply.{Refused, Opened, Bytes, Done}
use Rattle.tree_machine.specs.Refusals.{refused_if, refused_unknown, first_refusal, refused_or}
use Rattle.tree_machine.specs.Refusals.{none_or}
use Rattle.tree_machine.specs.Core.{node_ino, open_refusal, read_refusal, bytes_read, bytes_reply}
use Rattle.tree_machine.specs.Core.{with_handle}
use Rattle.tree_machine.specs.Requests.{answer_of, opened_to}
use Rattle.tree_machine.specs.Forgetting.{less_where, forgotten, all_forgotten, pairs_of}
use Rattle.tree_machine.specs.Step.{step, request_in_turn, frame_answer}
use Rattle.tree_machine.specs.Messages.{messages, request_messages, opened_messages, read_messages}
use Rattle.tree_machine.specs.Messages.{gone}
use Rattle.tree_machine.specs.Samples.{tree, settings, started, with_hello}
use Rattle.tree_machine.specs.FileSamples.{open_frame, open_reply, with_open, read_frame}
use Rattle.tree_machine.specs.FileSamples.{read_reply, release_frame, release_reply, with_closed}
use Rattle.tree_machine.specs.FileSamples.{to_empty, emptied_hello}
use Rattle.tree_machine.specs.FileSamples.{forget_frame, with_none, thrice_given, batch_frame}
use Rattle.tree_machine.proofs.Sampling.{file, file_at, root_node, top_at}
use Rattle.tree_machine.proofs.Forgetting.{gone_one}

abbrev pub hello_node : Node
hello_node = record { ino = 2; count = 1 }

abbrev hello_handle : Handle
hello_handle = record { ino = 2; access = 0; append = false }

pub hello_known : get with_hello.nodes 2 ≡ Some hello_node
hello_known = inserted started.nodes 2 hello_node

hello_unknown : get started.nodes 2 ≡ None
hello_unknown = insert_keeps empty 1 root_node 2 (λ h. absurd (omega (arith, h)))
    ∙ get-empty {X = Node} nat_cmp 2

nine_unknown : get with_hello.nodes 9 ≡ None
nine_unknown =
    insert_keeps started.nodes 2 hello_node 9 (λ h. absurd (omega (arith, h)))
    ∙ insert_keeps empty 1 root_node 9 (λ h. absurd (omega (arith, h)))
    ∙ get-empty {X = Node} nat_cmp 9

is_open : get with_open.handles 3 ≡ Some hello_handle
is_open = inserted with_hello.handles 3 hello_handle

none_open : get with_hello.handles 3 ≡ None
none_open = get-empty {X = Handle} nat_cmp 3

-- ---- OPEN

pub open_limit : is_at_limit settings with_hello ≡ false
open_limit =
    let one : len started.nodes ≡ 1 = len-insert nat_cmp_total empty 1 root_node
    ∙ ap (λ (o : Option Node). cond (is_some o) (len (empty {X = Node} {R = nat_cmp}))
    (len (empty {X = Node} {R = nat_cmp}) + 1)) (get-empty {X = Node} nat_cmp 1)
    ∙ ap (λ k. k + 1) (len-empty nat_cmp Node) in
    let two : len with_hello.nodes ≡ 2 = len-insert nat_cmp_total started.nodes 2 hello_node
    ∙ ap (λ (o : Option Node). cond (is_some o) (len started.nodes) (len started.nodes + 1))
    hello_unknown ∙ ap (λ k. k + 1) one in
    ap (λ k. nat_le 1024 (k + len started.handles) || nat_le 4294967295 3) two
    ∙ ap (λ k. nat_le 1024 (2 + k) || nat_le 4294967295 3) (len-empty nat_cmp Handle)

open_asked : request_in_turn Started open_frame ≡ Ok (open_file 0)
unfolding u32_at u64_at request_of request_in flags_of
open_asked = refl

open_nodeid : (head_of open_frame).nodeid ≡ 2
unfolding u32_at u64_at
open_nodeid = refl

open_passed : open_refusal settings with_hello (get with_hello.nodes 2) ≡ None
open_passed =
    ap (λ (o : Option Node). open_refusal settings with_hello o) hello_known
    ∙ ap (λ (b : Bool). first_refusal (refused_if b ENFILE
    ∷ refused_if (is_directory_at (body_at tree.records 2)) EISDIR ∷ [])) open_limit
    ∙ ap (λ (o : Option Record). first_refusal
    (refused_if (is_directory_at (option_map (λ (r : Record). r.body) o)) EISDIR ∷ [])) file_at

open_checked : open_check_of tree (node_ino (get with_hello.nodes 2)) 0 ≡ Ok tt
open_checked =
    ap (λ (o : Option Node). open_check_of tree (node_ino o) 0) hello_known
    ∙ ap (λ (o : Option Record). body_answer (λ b. unless (open_refused 0 (kind_of b)))
    (option_map (λ (r : Record). r.body) o)) file_at

not_emptied : open_of tree (node_ino (get with_hello.nodes 2)) 0 ≡ Ok (tt, tree)
not_emptied = ap (λ (r : Result (Unit {0}) ℕ). emptied_where r tree
    (node_ino (get with_hello.nodes 2)) 0) open_checked

opened_is : answer_of settings with_hello 2 (Ok (open_file 0)) ≡ (Opened 3, with_open)
opened_is =
    ap (λ (o : Option ℕ). refused_or with_hello o
    (opened_to with_hello (node_ino (get with_hello.nodes 2)) 0
    (open_of tree (node_ino (get with_hello.nodes 2)) 0))) open_passed
    ∙ ap (λ r. opened_to with_hello (node_ino (get with_hello.nodes 2)) 0 r) not_emptied
    ∙ ap (λ (o : Option Node). opened_to with_hello (node_ino o) 0 (Ok (tt, tree))) hello_known

open_told : frame_answer settings with_hello open_frame ≡ (Opened 3, with_open)
open_told =
    ap (λ r. answer_of settings with_hello (head_of open_frame).nodeid r) open_asked
    ∙ ap (λ n. answer_of settings with_hello n (Ok (open_file 0))) open_nodeid ∙ opened_is

open_spelled : answer_bytes open_frame (Opened 3) ≡ open_reply
unfolding u32_at u64_at reply reply_head opened_body u32s u64s
open_spelled = refl

pub open_answered : (step settings with_hello open_frame).0 ≡ open_reply
open_answered = ap (λ (x : Reply × MachineState). answer_bytes open_frame x.0) open_told
    ∙ open_spelled

pub open_leaves : (frame_answer settings with_hello open_frame).1 ≡ with_open
open_leaves = ap (λ (x : Reply × MachineState). x.1) open_told

pub open_counted : messages 4341 settings with_hello open_frame ≡ 2
open_counted =
    ap (λ r. request_messages 4341 settings with_hello (head_of open_frame).nodeid r) open_asked
    ∙ ap (λ n. request_messages 4341 settings with_hello n (Ok (open_file 0))) open_nodeid
    ∙ ap (λ (o : Option ℕ). none_or o
    (opened_messages (open_of tree (node_ino (get with_hello.nodes 2)) 0))) open_passed
    ∙ ap opened_messages not_emptied

-- ---- OPEN of a file that it empties

abbrev empty_tree : Tree
empty_tree = with_changed (rewritten_at tree.moment (resized 0)) 2 tree

empties : open_of tree (node_ino (get with_hello.nodes 2)) to_empty ≡ Ok (tt, empty_tree)
empties =
    ap (λ (o : Option Node). open_of tree (node_ino o) to_empty) hello_known
    ∙ ap (λ (o : Option Record). emptied_where (body_answer
    (λ b. unless (open_refused to_empty (kind_of b))) (option_map (λ (r : Record). r.body) o))
    tree 2 to_empty) file_at
    ∙ ap (λ (o : Option Record). unless_refused {A = Unit {0}} (refused_at
    (len_refused tree.limits.file 0) (option_map (λ (r : Record). r.body) o)) tt empty_tree) file_at

emptied_is : answer_of settings with_hello 2 (Ok (open_file to_empty))
    ≡ (Opened 3, with_handle (record with_hello { tree = empty_tree }) 2 to_empty)
emptied_is =
    ap (λ (o : Option ℕ). refused_or with_hello o
    (opened_to with_hello (node_ino (get with_hello.nodes 2)) to_empty
    (open_of tree (node_ino (get with_hello.nodes 2)) to_empty))) open_passed
    ∙ ap (λ r. opened_to with_hello (node_ino (get with_hello.nodes 2)) to_empty r) empties
    ∙ ap (λ (o : Option Node). opened_to with_hello (node_ino o) to_empty (Ok (tt, empty_tree)))
    hello_known

pub emptied_answered : (answer_of settings with_hello 2 (Ok (open_file to_empty))).0 ≡ Opened 3
emptied_answered = ap (λ (x : Reply × MachineState). x.0) emptied_is

pub emptied_leaves : get (answer_of settings with_hello 2
    (Ok (open_file to_empty))).1.tree.records 2 ≡ Some emptied_hello
emptied_leaves =
    ap (λ (x : Reply × MachineState). get x.1.tree.records 2) emptied_is
    ∙ change_at (rewritten_at tree.moment (resized 0)) tree.records 2
    ∙ ap (option_map (rewritten_at tree.moment (resized 0))) file_at

pub emptied_open : get (answer_of settings with_hello 2 (Ok (open_file to_empty))).1.handles 3
    ≡ Some (record { ino = 2; access = 1; append = false })
emptied_open = ap (λ (x : Reply × MachineState). get x.1.handles 3) emptied_is
    ∙ inserted with_hello.handles 3 (record { ino = 2; access = 1; append = false })

pub emptied_counted : request_messages 4341 settings with_hello 2 (Ok (open_file to_empty)) ≡ 2
emptied_counted =
    ap (λ (o : Option ℕ). none_or o
    (opened_messages (open_of tree (node_ino (get with_hello.nodes 2)) to_empty))) open_passed
    ∙ ap opened_messages empties

-- ---- a node that isn't there is refused first, then a directory

abbrev opens : ℕ → Option Node → Reply × MachineState
opens flags o = refused_or with_hello (open_refusal settings with_hello o)
    (opened_to with_hello (node_ino o) flags (open_of tree (node_ino o) flags))

pub open_unknown : (flags : ℕ) → (answer_of settings with_hello 9 (Ok (open_file flags))).0
    ≡ Refused ESTALE
open_unknown flags = ap (λ (o : Option Node). (opens flags o).0) nine_unknown

pub root_known : get with_hello.nodes 1 ≡ Some root_node
root_known = insert_keeps started.nodes 2 hello_node 1 (λ h. absurd (omega (arith, h)))
    ∙ inserted empty 1 root_node

directory_refused : open_refusal settings with_hello (get with_hello.nodes 1) ≡ Some EISDIR
directory_refused =
    ap (λ (o : Option Node). open_refusal settings with_hello o) root_known
    ∙ ap (λ (b : Bool). first_refusal (refused_if b ENFILE
    ∷ refused_if (is_directory_at (body_at tree.records 1)) EISDIR ∷ [])) open_limit
    ∙ ap (λ (o : Option Record). first_refusal
    (refused_if (is_directory_at (option_map (λ (r : Record). r.body) o)) EISDIR ∷ [])) top_at

pub open_directory : (flags : ℕ) → (answer_of settings with_hello 1 (Ok (open_file flags))).0
    ≡ Refused EISDIR
open_directory flags = ap (λ (o : Option ℕ). (refused_or with_hello o
    (opened_to with_hello (node_ino (get with_hello.nodes 1)) flags
    (open_of tree (node_ino (get with_hello.nodes 1)) flags))).0) directory_refused

nine_closed : get with_open.handles 9 ≡ None
nine_closed = insert_keeps with_hello.handles 3 hello_handle 9 (λ h. absurd (omega (arith, h)))
    ∙ get-empty {X = Handle} nat_cmp 9

abbrev read_by : ℕ → ℕ → Option Handle → Reply × MachineState
read_by offset size o = refused_or with_open (read_refusal with_open o)
    (bytes_reply (bytes_read with_open offset size o), with_open)

pub read_unknown : (answer_of settings with_open 2 (Ok (read 9 0 4 0 None))).0 ≡ Refused EBADF
read_unknown = ap (λ (o : Option Handle). (read_by 0 4 o).0) nine_closed

pub flush_unknown : (answer_of settings with_open 2 (Ok (flush 9))).0 ≡ Refused EBADF
flush_unknown = ap (λ (o : Option Handle). (refused_or with_open (refused_unknown o EBADF)
    (Done, with_open)).0) nine_closed

abbrev released : ℕ → Option Handle → Reply × MachineState
released fh o = refused_or with_open (refused_unknown o EBADF)
    (Done, record with_open { handles = remove with_open.handles fh })

pub release_unknown : answer_of settings with_open 2 (Ok (release 9)) ≡ (Refused EBADF, with_open)
release_unknown = ap (released 9) nine_closed

-- ---- READ

read_asked : request_in_turn Started read_frame ≡ Ok (read 3 1 4 0 None)
unfolding u32_at u64_at request_of request_in read_in_of
read_asked = refl

reads_file : (offset size : ℕ) → read_by offset size (get with_open.handles 3)
    ≡ (bytes_reply (read_body offset (min size MAX_READ) file.body), with_open)
reads_file offset size =
    ap (read_by offset size) is_open
    ∙ ap (λ (o : Option Record). refused_or with_open
    (first_refusal (refused_if (is_directory_at (option_map (λ (r : Record). r.body) o)) EISDIR
    ∷ refused_if false EBADF ∷ [])) (
      bytes_reply (body_answer (read_body offset (min size MAX_READ))
          (option_map (λ (r : Record). r.body) o)),
      with_open,
    )) file_at

read_told : frame_answer settings with_open read_frame ≡ (Bytes (codes "ello"), with_open)
read_told = ap (λ r. answer_of settings with_open (head_of read_frame).nodeid r) read_asked
    ∙ reads_file 1 4

read_spelled : answer_bytes read_frame (Bytes (codes "ello")) ≡ read_reply
unfolding u32_at u64_at reply reply_head u32s u64s
read_spelled = refl

pub read_answered : (step settings with_open read_frame).0 ≡ read_reply
read_answered = ap (λ (x : Reply × MachineState). answer_bytes read_frame x.0) read_told
    ∙ read_spelled

pub read_counted : messages 4341 settings with_open read_frame ≡ 1
read_counted =
    ap (λ r. request_messages 4341 settings with_open (head_of read_frame).nodeid r) read_asked
    ∙ ap (λ (o : Option Handle). none_or (read_refusal with_open o)
    (read_messages 4341 4 (bytes_read with_open 1 4 o))) is_open
    ∙ ap (λ (o : Option Record). none_or (first_refusal
    (refused_if (is_directory_at (option_map (λ (r : Record). r.body) o)) EISDIR
    ∷ refused_if false EBADF ∷ []))
    (read_messages 4341 4 (body_answer (read_body 1 4) (option_map (λ (r : Record). r.body) o))))
    file_at

pub read_to_end : (answer_of settings with_open 2 (Ok (read 3 4 4294967295 0 None))).0 ≡ Bytes
    (codes "o\n")
read_to_end = ap (λ (x : Reply × MachineState). x.0) (reads_file 4 4294967295)

pub read_beyond : (answer_of settings with_open 2 (Ok (read 3 6 4 0 None))).0 ≡ Bytes []
read_beyond = ap (λ (x : Reply × MachineState). x.0) (reads_file 6 4)

-- ---- FLUSH and RELEASE

pub flush_done : (answer_of settings with_open 2 (Ok (flush 3))).0 ≡ Done
flush_done = ap (λ (o : Option Handle). (refused_or with_open (refused_unknown o EBADF)
    (Done, with_open)).0) is_open

release_asked : request_in_turn Started release_frame ≡ Ok (release 3)
unfolding u32_at u64_at request_of request_in handle_of
release_asked = refl

closed_again : record with_open { handles = remove with_open.handles 3 } ≡ with_closed
closed_again = ap (λ (handles : FinMap nat_cmp Handle). record with_open { handles = handles })
    (undone with_hello.handles 3 hello_handle none_open)

release_told : frame_answer settings with_open release_frame ≡ (Done, with_closed)
release_told =
    ap (λ r. answer_of settings with_open (head_of release_frame).nodeid r) release_asked
    ∙ ap (released 3) is_open
    ∙ ap (λ (m : MachineState). (Done, m)) closed_again

release_spelled : answer_bytes release_frame Done ≡ release_reply
unfolding u32_at u64_at reply reply_head u32s u64s
release_spelled = refl

pub release_answered : (step settings with_open release_frame).0 ≡ release_reply
release_answered = ap (λ (x : Reply × MachineState). answer_bytes release_frame x.0) release_told
    ∙ release_spelled

pub release_leaves : (frame_answer settings with_open release_frame).1 ≡ with_closed
release_leaves = ap (λ (x : Reply × MachineState). x.1) release_told

pub release_counted : messages 4341 settings with_open release_frame ≡ 1
release_counted =
    ap (λ r. request_messages 4341 settings with_open (head_of release_frame).nodeid r)
    release_asked
    ∙ ap (λ (o : Option Handle). none_or (refused_unknown o EBADF) 1) is_open

-- ---- FORGET and BATCH_FORGET

forget_asked : request_in_turn Started forget_frame ≡ Ok (forget 1)
unfolding u32_at u64_at request_of request_in forget_of
forget_asked = refl

forget_nodeid : (head_of forget_frame).nodeid ≡ 2
unfolding u32_at u64_at
forget_nodeid = refl

without_hello : record with_hello { nodes = remove with_hello.nodes 2 } ≡ with_none
without_hello = ap (λ (nodes : FinMap nat_cmp Node). record with_hello { nodes = nodes })
    (undone started.nodes 2 hello_node hello_unknown)

gone_again : forgotten with_hello 2 1 ≡ with_none
gone_again = ap (λ (o : Option Node). less_where with_hello 2 1 o) hello_known ∙ without_hello

forget_told : frame_answer settings with_hello forget_frame ≡ (Done, with_none)
forget_told =
    ap (λ r. answer_of settings with_hello (head_of forget_frame).nodeid r) forget_asked
    ∙ ap (λ n. answer_of settings with_hello n (Ok (forget 1))) forget_nodeid
    ∙ ap (λ (m : MachineState). (Done, m)) gone_again

pub forget_silent : (step settings with_hello forget_frame).0 ≡ []
unfolding u32_at u64_at
forget_silent = refl

pub forget_leaves : (frame_answer settings with_hello forget_frame).1 ≡ with_none
forget_leaves = ap (λ (x : Reply × MachineState). x.1) forget_told

one_gone : gone with_hello with_none ≡ 1
one_gone = ap (gone with_hello) (sym without_hello) ∙ gone_one with_hello 2 hello_node hello_known

pub forget_counted : messages 4341 settings with_hello forget_frame ≡ 1
forget_counted =
    ap (λ r. request_messages 4341 settings with_hello (head_of forget_frame).nodeid r) forget_asked
    ∙ ap (λ n. request_messages 4341 settings with_hello n (Ok (forget 1))) forget_nodeid
    ∙ ap (gone with_hello) gone_again ∙ one_gone

abbrev three_pairs : List (ℕ × ℕ)
three_pairs = (9, 1) ∷ (1, 5) ∷ (2, 1) ∷ []

batch_asked : request_in_turn Started batch_frame ≡ Ok (batch_forget (drop 48 batch_frame))
unfolding u32_at u64_at request_of request_in batch_forget_of
batch_asked = refl

batch_pairs : pairs_of (drop 48 batch_frame) ≡ three_pairs
unfolding u64_at
batch_pairs = refl

batch_gone : all_forgotten with_hello three_pairs ≡ with_none
batch_gone = ap (λ (o : Option Node). forgotten (forgotten (less_where with_hello 9 1 o) 1 5) 2 1)
    nine_unknown ∙ gone_again

batch_by : (bytes : List ℕ) → pairs_of bytes ≡ three_pairs
    → all_forgotten with_hello (pairs_of bytes) ≡ with_none
batch_by bytes h = ap (all_forgotten with_hello) h ∙ batch_gone

pub batch_silent : (step settings with_hello batch_frame).0 ≡ []
unfolding u32_at u64_at
batch_silent = refl

pub batch_leaves : (frame_answer settings with_hello batch_frame).1 ≡ with_none
batch_leaves =
    ap (λ r. (answer_of settings with_hello (head_of batch_frame).nodeid r).1) batch_asked
    ∙ batch_by (drop 48 batch_frame) batch_pairs

pub batch_counted : messages 4341 settings with_hello batch_frame ≡ 1
batch_counted =
    ap (λ r. request_messages 4341 settings with_hello (head_of batch_frame).nodeid r) batch_asked
    ∙ ap (gone with_hello) (batch_by (drop 48 batch_frame) batch_pairs) ∙ one_gone

-- ---- a node that was given three times

three_known : get thrice_given.nodes 2 ≡ Some (record { ino = 2; count = 3 })
three_known = inserted started.nodes 2 (record { ino = 2; count = 3 })

pub counted_down : get (forgotten thrice_given 2 2).nodes 2 ≡ Some (record { ino = 2; count = 1 })
counted_down =
    ap (λ (o : Option Node). get (less_where thrice_given 2 2 o).nodes 2) three_known
    ∙ inserted thrice_given.nodes 2 (record { ino = 2; count = 1 })
