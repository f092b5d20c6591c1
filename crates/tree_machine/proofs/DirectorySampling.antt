-- The first example's directory is opened, listed and closed, and its one name goes.
use Rattle.std.proofs.Common.{◌≡◌, ℕ, ◌+◌, Bool, false, cond, List, [], ◌∷◌, refl, ap}
use Rattle.std.proofs.Common.{◌∙◌, Option, Some, None, Result, Ok, Err, arith, length}
use Rattle.std.specs.Prelude.{codes, drop, not, option_map, option_and_then}
use Rattle.std.specs.List.{cons_option}
use Rattle.std.specs.FinMap.{get}
use Rattle.port_base.specs.declared.errno.TheConstants.{ENFILE, ENOTDIR}
use Rattle.port_base.specs.declared.oflag.TheConstants.{O_RDONLY}
use Rattle.tree_model.specs.Tree.{Record, is_directory_at}
use Rattle.tree_model.specs.Attributes.{attr_of}
use Rattle.tree_model.specs.Finding.{entries_of, ino_among}
use Rattle.tree_model.specs.Reading.{Entry}
use Rattle.tree_model.specs.Pages.{entries_past, entries_past_of, front_within, last_cookie}
use Rattle.tree_model.specs.Making.{change}
use Rattle.tree_model.specs.Unlinking.{removed_at, unless_directory, without_entry, parted_by}
use Rattle.tree_model.specs.Unlinking.{one_name_less}
use Rattle.tree_model.proofs.Maps.{inserted}
use Rattle.tree_model.proofs.Changing.{change_at, change_keeps}
use Rattle.fuse_wire.specs.Reply.{u32s, u64s}
use Rattle.fuse_wire.specs.Listing.{dirent_bytes}
use Rattle.fuse_wire.specs.Request.{unlink, opendir, readdir}
use Rattle.tree_machine.specs.State.{MachineState, Node, Handle, is_named}
use Rattle.tree_machine.specs.Replies.{Reply}
use Rattle.tree_machine.specs.Replies.Reply.{Refused, Opened, Bytes, Done}
use Rattle.tree_machine.specs.Refusals.{refused_if, first_refusal, refused_or}
use Rattle.tree_machine.specs.Core.{node_ino, opendir_refusal, readdir_refusal, name_refusal}
use Rattle.tree_machine.specs.Core.{with_handle, listed, unlink_told, changed_by}
use Rattle.tree_machine.specs.Listing.{entry_size, listing_bytes, listed_page}
use Rattle.tree_machine.specs.Requests.{answer_of}
use Rattle.tree_machine.specs.Messages.{dirent_size, is_last, listing_messages, readdir_messages}
use Rattle.tree_machine.specs.Samples.{tree, settings, with_hello}
use Rattle.tree_machine.specs.DirectorySamples.{with_root_open, hello_listed}
use Rattle.tree_machine.proofs.KeptStates.{kept_at, node_is_named}
use Rattle.tree_machine.proofs.Sampling.{file, file_at, top_at, found, hello_has_no_fault}
use Rattle.tree_machine.proofs.FileSampling.{hello_node, hello_known, root_known, open_limit}

-- ---- OPENDIR

opens : Option Node → Reply × MachineState
opens o = refused_or with_hello (opendir_refusal settings with_hello o)
    (Opened 3, with_handle with_hello (node_ino o) O_RDONLY)

-- what is opened, by what its node names
opens_at : ℕ → Bool → Option Record → Reply × MachineState
opens_at ino full o = refused_or with_hello (first_refusal (refused_if full ENFILE
    ∷ refused_if (not (is_directory_at (option_map (λ (r : Record). r.body) o))) ENOTDIR ∷ []))
    (Opened 3, with_handle with_hello ino O_RDONLY)

pub root_opened : answer_of settings with_hello 1 (Ok (opendir 0)) ≡ (Opened 3, with_root_open)
unfolding opens opens_at
root_opened = ap opens root_known ∙ ap (λ b. opens_at 1 b (get tree.records 1)) open_limit
    ∙ ap (opens_at 1 false) top_at

pub file_not_opened : answer_of settings with_hello 2 (Ok (opendir 0))
    ≡ (Refused ENOTDIR, with_hello)
unfolding opens opens_at
file_not_opened = ap opens hello_known ∙ ap (λ b. opens_at 2 b (get tree.records 2)) open_limit
    ∙ ap (opens_at 2 false) file_at

-- ---- READDIR

abbrev root_handle : Handle
root_handle = record { ino = 1; access = 0; append = false }

is_open : get with_root_open.handles 3 ≡ Some root_handle
is_open = inserted with_hello.handles 3 root_handle

-- the one entry
abbrev first : Entry
first = record { cookie = 1; name = codes "hello"; attr = attr_of 2 file }

abbrev past_in : ℕ → Option Record → List Entry
past_in c o = entries_past tree.records c
    (option_and_then entries_of (option_map (λ (r : Record). r.body) o))

abbrev shown : Option Record → List Entry
shown o = cons_option (option_map (λ (r : Record). let e : Entry =
    record { cookie = 1; name = codes "hello"; attr = attr_of 2 r } in e) o) []

past_none : entries_past_of tree 1 0 ≡ first ∷ []
past_none = ap (past_in 0) top_at ∙ ap shown file_at

past_first : entries_past_of tree 1 1 ≡ []
past_first = ap (past_in 1) top_at

lists : ℕ → ℕ → Option Handle → Reply × MachineState
lists offset size o = refused_or with_root_open (readdir_refusal with_root_open o)
    (listed with_root_open offset size o, with_root_open)

lists_at : ℕ → ℕ → Option Record → Reply × MachineState
lists_at offset size o = refused_or with_root_open (first_refusal
    (refused_if (not (is_directory_at (option_map (λ (r : Record). r.body) o))) ENOTDIR ∷ []))
    (Bytes (listing_bytes (listed_page tree 1 offset size)), with_root_open)

root_lists : (offset size : ℕ) → lists offset size (get with_root_open.handles 3)
    ≡ (Bytes (listing_bytes (listed_page tree 1 offset size)), with_root_open)
unfolding lists lists_at
root_lists offset size = ap (lists offset size) is_open ∙ ap (lists_at offset size) top_at

-- the bytes of as many entries as have room
abbrev fitting : ℕ → List Entry → Reply
fitting room es = Bytes (listing_bytes (front_within entry_size room es))

spelled : fitting 4096 (first ∷ []) ≡ Bytes hello_listed
unfolding dirent_bytes u32s u64s
spelled = refl

pub root_listed : (answer_of settings with_root_open 1 (Ok (readdir 3 0 4096 0 None))).0
    ≡ Bytes hello_listed
unfolding lists
root_listed = ap (λ (x : Reply × MachineState). x.0) (root_lists 0 4096)
    ∙ ap (fitting 4096) past_none ∙ spelled

pub listed_past_first : (answer_of settings with_root_open 1 (Ok (readdir 3 1 4096 0 None))).0
    ≡ Bytes []
unfolding lists
listed_past_first = ap (λ (x : Reply × MachineState). x.0) (root_lists 1 4096)
    ∙ ap (fitting 4096) past_first

pub listed_without_room : (answer_of settings with_root_open 1 (Ok (readdir 3 0 31 0 None))).0
    ≡ Bytes []
unfolding lists
listed_without_room = ap (λ (x : Reply × MachineState). x.0) (root_lists 0 31)
    ∙ ap (fitting 31) past_none

-- ---- its messages: the entry, and then nothing; nothing; an entry that has no room

abbrev counted : ℕ → ℕ → List Entry → List Entry → ℕ
counted steps cookie page es =
    let run = front_within dirent_size 4341 es in
    cond (is_last run page) 1
    (1 + listing_messages steps 4341 tree 1 (last_cookie cookie run) (drop (length run) page))

abbrev counted_all : ℕ → ℕ → List Entry → ℕ
counted_all cookie room es =
    let page = front_within entry_size room es in
    listing_messages (length page + 1) 4341 tree 1 cookie page

pub two_messages : readdir_messages 4341 tree 1 0 4096 ≡ 2
two_messages = ap (counted_all 0 4096) past_none ∙ ap (counted 1 0 (first ∷ [])) past_none
    ∙ ap (λ es. 1 + counted 0 1 [] es) past_first

pub one_message : readdir_messages 4341 tree 1 1 4096 ≡ 1
one_message = ap (counted_all 1 4096) past_first ∙ ap (counted 0 1 []) past_first

pub one_full_message : readdir_messages 4341 tree 1 0 31 ≡ 1
one_full_message = ap (counted_all 0 31) past_none ∙ ap (counted 0 0 []) past_none

-- ---- UNLINK

unlinks : Option Node → Reply × MachineState
unlinks o = refused_or with_hello (name_refusal (codes "hello") o)
    (changed_by with_hello (unlink_told with_hello (node_ino o) (codes "hello")))

unlinks_in : ℕ → Option ℕ → Reply × MachineState
unlinks_in dir o = refused_or with_hello (first_refusal (o ∷ []))
    (changed_by with_hello (unlink_told with_hello dir (codes "hello")))

abbrev held : ℕ → Bool
held = is_named with_hello.nodes with_hello.handles

takes : Result ℕ ℕ → Reply × MachineState
takes r = changed_by with_hello (removed_at held tree 1 (codes "hello")
    (unless_directory tree.records r))

abbrev without_hello : MachineState
without_hello = (changed_by with_hello (removed_at held tree 1 (codes "hello") (Ok 2))).1

takes_file : Option Record → Reply × MachineState
takes_file o = changed_by with_hello (removed_at held tree 1 (codes "hello")
    (cond (is_directory_at (option_map (λ (r : Record). r.body) o)) (Err 21) (Ok 2)))

hello_taken : answer_of settings with_hello 1 (Ok (unlink (codes "hello"))) ≡ (Done, without_hello)
unfolding unlinks unlinks_in takes takes_file
hello_taken = ap unlinks root_known ∙ ap (unlinks_in 1) hello_has_no_fault ∙ ap takes found
    ∙ ap takes_file file_at

pub hello_unlinked : (answer_of settings with_hello 1 (Ok (unlink (codes "hello")))).0 ≡ Done
hello_unlinked = ap (λ (x : Reply × MachineState). x.0) hello_taken

less_linked : get (without_entry tree 1 (codes "hello") 2).records 2
    ≡ Some (one_name_less tree.moment file)
less_linked = change_keeps (parted_by (codes "hello") tree.moment)
    (change (one_name_less tree.moment) tree.records 2) 1 2 (λ h. absurd (omega (arith, h)))
    ∙ change_at (one_name_less tree.moment) tree.records 2
    ∙ ap (option_map (one_name_less tree.moment)) file_at

-- the file stays while its node is there
pub hello_stays : get (answer_of settings with_hello 1 (Ok (unlink (codes "hello")))).1.tree.records
    2 ≡ Some (one_name_less tree.moment file)
hello_stays = ap (λ (x : Reply × MachineState). get x.1.tree.records 2) hello_taken
    ∙ kept_at (without_entry tree 1 (codes "hello") 2) held 2
    (node_is_named with_hello.nodes with_hello.handles 2 hello_node hello_known)
    ∙ less_linked

unlinks_below : Option Record → Reply × MachineState
unlinks_below o = changed_by with_hello (removed_at held tree 2 (codes "hello") (unless_directory
    tree.records (ino_among false (codes "hello")
    (option_and_then entries_of (option_map (λ (r : Record). r.body) o)))))

pub unlinked_below_file : answer_of settings with_hello 2 (Ok (unlink (codes "hello")))
    ≡ (Refused ENOTDIR, with_hello)
unfolding unlinks unlinks_in unlinks_below
unlinked_below_file = ap unlinks hello_known ∙ ap (unlinks_in 2) hello_has_no_fault
    ∙ ap unlinks_below file_at
