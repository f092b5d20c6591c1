-- Requests beyond the core ones, asked of the first example.
use Rattle.std.proofs.Common.{◌≡◌, ℕ, cond, true, false, [], ◌∷◌, refl, ap, ◌∙◌, Option}
use Rattle.std.proofs.Common.{Result, Ok, Err}
use Rattle.std.specs.Prelude.{codes, not, option_map}
use Rattle.std.specs.Ordering.{nat_cmp}
use Rattle.port_base.specs.declared.errno.TheConstants.{EACCES, EBADF, EINVAL, ENOTDIR, ESTALE}
use Rattle.tree_model.specs.Tree.{Record, body_at, is_directory_at}
use Rattle.tree_model.specs.Opening.{body_answer, readlink_body}
use Rattle.tree_model.specs.Unlinking.{removed_at, if_empty, is_empty_at}
use Rattle.fuse_wire.specs.Request.{rmdir, rename2, mknod, readlink, statfs, fsync}
use Rattle.tree_machine.specs.State.{MachineState, Node, Handle, begun, is_named}
use Rattle.tree_machine.specs.Replies.{Reply}
use Rattle.tree_machine.specs.Replies.Reply.{Refused, Sizes, Done}
use Rattle.tree_machine.specs.Refusals.{refused_unknown, first_refusal, refused_or}
use Rattle.tree_machine.specs.Core.{node_ino, name_refusal, bytes_reply, changed_by}
use Rattle.tree_machine.specs.Naming.{rmdir_told}
use Rattle.tree_machine.specs.Requests.{answer_of, sizes_reply}
use Rattle.tree_machine.specs.Samples.{tree, settings, with_hello}
use Rattle.tree_machine.proofs.Sampling.{file_at, found, hello_has_no_fault}
use Rattle.tree_machine.proofs.FileSampling.{hello_known, root_known}
use Rattle.std.specs.FinMap.{empty, get-empty, len, len-empty, len-insert}
use Rattle.std.specs.Cmp.{nat_cmp_total}
use Rattle.std.specs.Prelude.{is_some, nat_lt, ◌||◌, ◌+◌, cond}
use Rattle.fuse_wire.specs.declared.protocol.TheConstants.{FUSE_ROOT_ID}
use Rattle.tree_machine.specs.declared.limits.TheConstants.{NUMBER_LIMIT}
use Rattle.tree_machine.specs.Creating.{lacks_two}

-- ---- RMDIR

removes : Option Node → Reply × MachineState
removes o = refused_or with_hello (name_refusal (codes "hello") o)
    (changed_by with_hello (rmdir_told with_hello (node_ino o) (codes "hello")))

removes_in : ℕ → Option ℕ → Reply × MachineState
removes_in dir o = refused_or with_hello (first_refusal (o ∷ []))
    (changed_by with_hello (rmdir_told with_hello dir (codes "hello")))

takes : Result ℕ ℕ → Reply × MachineState
takes r = changed_by with_hello (removed_at (is_named with_hello.nodes with_hello.handles) tree 1
    (codes "hello") (if_empty tree.records r))

takes_file : Option Record → Reply × MachineState
takes_file o =
    let b = option_map (λ (r : Record). r.body) o in
    changed_by with_hello (removed_at (is_named with_hello.nodes with_hello.handles) tree 1
    (codes "hello") (cond (not (is_directory_at b)) (Err ENOTDIR)
    (cond (is_empty_at b) (Ok 2) (Err 39))))

pub file_stays : answer_of settings with_hello 1 (Ok (rmdir (codes "hello")))
    ≡ (Refused ENOTDIR, with_hello)
unfolding removes removes_in takes takes_file
file_stays = ap removes root_known ∙ ap (removes_in 1) hello_has_no_fault ∙ ap takes found
    ∙ ap takes_file file_at

-- ---- what refuses at once

pub flags_refused : answer_of settings with_hello 1 (Ok (rename2 1 1 (codes "a") (codes "b")))
    ≡ (Refused EINVAL, with_hello)
flags_refused = refl

pub no_special_file : answer_of settings with_hello 1 (Ok (mknod 4516 0 (codes "hello")))
    ≡ (Refused EACCES, with_hello)
no_special_file = ap (λ (o : Option Node). refused_or with_hello (name_refusal (codes "hello") o)
    (Refused EACCES, with_hello)) root_known
    ∙ ap (λ (o : Option ℕ). refused_or with_hello (first_refusal (o ∷ []))
    (Refused EACCES, with_hello)) hello_has_no_fault

pub fsync_unknown : answer_of settings with_hello 0 (Ok (fsync 9 0)) ≡ (Refused EBADF, with_hello)
fsync_unknown = ap (λ (o : Option Handle). refused_or with_hello (refused_unknown o EBADF)
    (Done, with_hello)) (get-empty {X = Handle} nat_cmp 9)

-- ---- READLINK, STATFS

links : Option Node → Reply × MachineState
links o = refused_or with_hello (refused_unknown o ESTALE)
    (bytes_reply (body_answer readlink_body (body_at tree.records (node_ino o))), with_hello)

links_at : Option Record → Reply × MachineState
links_at o = (
  bytes_reply (body_answer readlink_body (option_map (λ (r : Record). r.body) o)),
  with_hello,
)

pub file_is_no_link : answer_of settings with_hello 2 (Ok readlink) ≡ (Refused EINVAL, with_hello)
unfolding links links_at
file_is_no_link = ap links hello_known ∙ ap links_at file_at

-- 1048576 bytes are 256 blocks
pub sizes_told : answer_of settings with_hello 2 (Ok statfs) ≡ (Sizes 256 65536, with_hello)
sizes_told = ap (λ (o : Option Node). refused_or with_hello (refused_unknown o ESTALE)
    (sizes_reply tree, with_hello)) hello_known

-- ---- two numbers that can be drawn, beside the root, or can't

one_node : len (begun tree 1).nodes ≡ 1
one_node = len-insert nat_cmp_total empty FUSE_ROOT_ID root
    ∙ ap (λ (o : Option Node). cond (is_some o) (len (empty {X = Node} {R = nat_cmp}))
    (len (empty {X = Node} {R = nat_cmp}) + 1))
    (get-empty {X = Node} nat_cmp FUSE_ROOT_ID)
    ∙ ap (λ (n : ℕ). n + 1) (len-empty nat_cmp Node)
  where
    root : Node
    root = record { ino = 1; count = 1 }

by_counts : (limit : ℕ) (nodes handles : ℕ) → len (begun tree 1).nodes ≡ nodes
    → len (begun tree 1).handles ≡ handles
    → lacks_two (record settings { limit = limit }) (begun tree 1)
    ≡ (nat_lt limit (nodes + handles + 2) || nat_lt NUMBER_LIMIT (2 + 2))
by_counts limit nodes handles some none =
    (λ j. nat_lt limit (some j + none j + 2) || nat_lt NUMBER_LIMIT (2 + 2))

pub two_fit : lacks_two (record settings { limit = 3 }) (begun tree 1) ≡ false
two_fit = by_counts 3 1 0 one_node (len-empty nat_cmp Handle)

pub two_lack : lacks_two (record settings { limit = 2 }) (begun tree 1) ≡ true
two_lack = by_counts 2 1 0 one_node (len-empty nat_cmp Handle)
