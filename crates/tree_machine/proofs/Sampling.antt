-- A worked example: the replies to INIT, to a look-up of `hello` in the root, and to GETATTR of
-- what it gave.
use Rattle.std.proofs.Common.{◌≡◌, ℕ, ◌+◌, Bool, true, false, cond, List, [], ◌∷◌, refl, sym, ap}
use Rattle.std.proofs.Common.{◌∙◌, Option, Some, None, Ok}
use Rattle.std.specs.Prelude.{codes, is_some, option_map, option_and_then}
use Rattle.std.specs.Ordering.{nat_cmp}
use Rattle.std.specs.Cmp.{nat_cmp_total}
use Rattle.std.specs.FinMap.{get, insert, empty, len, len-insert, len-empty, get-empty}
use Rattle.tree_model.specs.Tree.{Record}
use Rattle.tree_model.specs.Tree.Body.{Directory}
use Rattle.tree_model.specs.Making.{new_tree, joined_by, file_record}
use Rattle.tree_model.proofs.Maps.{inserted, insert_keeps}
use Rattle.fuse_wire.specs.Fields.{u32_at, u64_at}
use Rattle.fuse_wire.specs.Request.{request_of, request_in, init_of, getattr_of}
use Rattle.fuse_wire.specs.Layouts.{only_name, name_at}
use Rattle.fuse_wire.specs.Reply.{reply, reply_head, init_body, entry_body, attr_body, attr_bytes}
use Rattle.fuse_wire.specs.Reply.{u32s, u64s}
use Rattle.tree_machine.specs.State.{begun}
use Rattle.tree_machine.specs.State.Phase.{Started}
use Rattle.port_base.specs.declared.errno.TheConstants.{ENFILE, ESTALE}
use Rattle.std.specs.Prelude.{◌==◌, nat_le, ◌||◌, unwrap_or}
use Rattle.std.proofs.Common.{subst, arith}
use Rattle.tree_model.specs.declared.attributes.Attr.{Attr}
use Rattle.tree_model.specs.declared.attributes.Kind.TheVariants as kind
use Rattle.tree_model.specs.Tree.{Records}
use Rattle.tree_model.specs.Making.{changed}
use Rattle.tree_model.specs.Attributes.{attr_or_missing}
use Rattle.tree_model.specs.Settings.{shown_told}
use Rattle.tree_model.specs.Finding.{find, ino_among, entries_of}
use Rattle.fuse_wire.specs.Request.{lookup, getattr}
use Rattle.fuse_wire.specs.Head.{head_of}
use Rattle.tree_machine.specs.State.{Node, Handle, is_at_limit}
use Rattle.tree_machine.specs.Replies.{fuse_attributes, answer_bytes}
use Rattle.tree_machine.specs.Replies.Reply.{Entry, Attributes}
use Rattle.tree_machine.specs.Refusals.{refused_if, refused_unknown, first_refusal, refused_or}
use Rattle.tree_machine.specs.Core.{node_ino, lookup_refusal, looked_up, entered, node_for, node_of}
use Rattle.tree_machine.specs.Core.{entry_reply, shown_at, attr_reply}
use Rattle.tree_machine.specs.Requests.{answer_of}
use Rattle.std.proofs.lemmas.Str.{is_utf8-from_IsUtf8, IsUtf8-from_ascii}
use Rattle.std.specs.Str.{is_utf8}
use Rattle.std.proofs.Common.{lit<, not, ◌<◌, zero, suc}
use Rattle.std.specs.Prelude.{slice_index}
use Rattle.std.specs.List.{AllByRecursion}
use Rattle.port_base.specs.Names.{name_fault}
use Rattle.tree_machine.proofs.First.{first_entry}
use Rattle.tree_machine.proofs.Begun.{one_node}
use Rattle.tree_machine.specs.Step.{step, request_in_turn}
use Rattle.tree_machine.specs.Samples.{tree, settings, init_frame, init_reply, started}
use Rattle.tree_machine.specs.Samples.{lookup_frame, entry_reply_bytes, getattr_frame, with_hello}
use Rattle.tree_machine.specs.Samples.{attr_reply_bytes}

-- INIT of minor 31 is granted
pub init_answered : (step settings (begun tree 1) init_frame).0 ≡ init_reply
unfolding u32_at u64_at request_of request_in init_of reply reply_head init_body u32s u64s
init_answered = refl

-- ---- a look-up

abbrev pub root_node : Node
root_node = record { ino = 1; count = 1 }

abbrev pub file : Record
file = file_record (record { sec = 1600000000; nsec = 0 })
    (record { mode = 420; uid = 1000; gid = 1000; bytes = codes "hello\n" })

abbrev first_records : Records
first_records = (new_tree (record { file = 1048576; entries = 65536; links = 65000 })
    (record { sec = 1700000000; nsec = 5 }) (record { sec = 1600000000; nsec = 0 }) 493 0 0).records

abbrev pub top_record : Record
top_record = record {
  body = Directory [] 1 1;
  mode = 493;
  uid = 0;
  gid = 0;
  links = 2;
  atime =
      record { sec = 1600000000; nsec = 0 };
  mtime = record { sec = 1600000000; nsec = 0 };
  ctime =
      record { sec = 1600000000; nsec = 0 };
}

abbrev with_file_alone : Records
with_file_alone = insert first_records 2 file

top_first : get with_file_alone 1 ≡ Some top_record
top_first = insert_keeps first_records 2 file 1 (λ h. absurd (omega (arith, h)))
    ∙ inserted empty 1 top_record

records_are : tree.records ≡ insert with_file_alone 1 (joined_by (codes "hello") 2 top_record)
records_are = ap (λ o. changed (joined_by (codes "hello") 2) o with_file_alone 1) top_first

pub top_at : get tree.records 1 ≡ Some (joined_by (codes "hello") 2 top_record)
top_at = ap (λ (rs : Records). get rs 1) records_are
    ∙ inserted with_file_alone 1 (joined_by (codes "hello") 2 top_record)

pub file_at : get tree.records 2 ≡ Some file
file_at = ap (λ (rs : Records). get rs 2) records_are
    ∙ insert_keeps with_file_alone 1 (joined_by (codes "hello") 2 top_record) 2
    (λ h. absurd (omega (arith, h))) ∙ inserted first_records 2 file

root_at : get started.nodes 1 ≡ Some root_node
root_at = inserted empty 1 root_node

pub found : find false tree 1 (codes "hello") ≡ Ok 2
found = ap (λ (o : Option Record). ino_among false (codes "hello")
    (option_and_then entries_of (option_map (λ (r : Record). r.body) o))) top_at

unfoldable shown : Attr
shown = record {
  ino = 2;
  kind = kind.File;
  mode = 33188;
  uid = 1000;
  gid = 1000;
  links = 1;
  size =
      6;
  atime = record { sec = 1600000000; nsec = 0 };
  mtime =
      record { sec = 1600000000; nsec = 0 };
  ctime = record { sec = 1600000000; nsec = 0 };
}

shown_is : shown_told settings (attr_or_missing 2 (get tree.records 2)) ≡ Ok shown
unfolding shown
shown_is = ap (λ o. shown_told settings (attr_or_missing 2 o)) file_at
    ∙ ap (λ (o : Option ℕ). Ok (record {
      ino = 2;
      kind = kind.File;
      mode = 33188;
      uid =
          unwrap_or o 1000;
      gid = unwrap_or o 1000;
      links = 1;
      size = 6;
      atime =
          record { sec = 1600000000; nsec = 0 };
      mtime =
          record { sec = 1600000000; nsec = 0 };
      ctime = record { sec = 1600000000; nsec = 0 };
    }))
    (get-empty {X = ℕ} nat_cmp 1000)

open_limit : is_at_limit settings started ≡ false
open_limit =
    let nodes : len started.nodes ≡ 1 = len-insert nat_cmp_total empty 1 root_node
    ∙ ap (λ (o : Option Node). cond (is_some o) (len (empty {X = Node} {R = nat_cmp}))
    (len (empty {X = Node} {R = nat_cmp}) + 1)) (get-empty {X = Node} nat_cmp 1)
    ∙ ap (λ k. k + 1) (len-empty nat_cmp Node) in
    ap (λ k. nat_le 1024 (k + len started.handles) || nat_le 4294967295 2) nodes
    ∙ ap (λ k. nat_le 1024 (1 + k) || nat_le 4294967295 2) (len-empty nat_cmp Handle)

unknown_by : (o : Option (ℕ × Node)) → node_of started 2 ≡ o → node_of started 2 ≡ None
unknown_by None at = at
unknown_by (Some e) at =
    let there = first_entry (λ (e : ℕ × Node). e.1.ino == 2) started.nodes e at in
    let one = (one_node settings tree 1 e.0 e.1 there.0).1 in
    let two : (1 == 2) ≡ true = subst (λ (n : Node). (n.ino == 2) ≡ true) (sym one) there.1 in
    absurd cc

ascii_at : (bs : List ℕ) → AllByRecursion (λ b. b < 128) bs → (i : ℕ) → slice_index bs i < 128
ascii_at [] h i = lit< tt
ascii_at (b ∷ bs) h zero = h.0
ascii_at (b ∷ bs) h (suc i) = ascii_at bs h.1 i

hello_is_text : is_utf8 (codes "hello") ≡ true
hello_is_text = is_utf8-from_IsUtf8 (codes "hello")
    (IsUtf8-from_ascii (codes "hello") (ascii_at (codes "hello")
    (lit< tt, (lit< tt, (lit< tt, (lit< tt, (lit< tt, tt)))))))

pub hello_has_no_fault : name_fault (codes "hello") ≡ None
hello_has_no_fault = ap (λ (b : Bool). cond {A = Option ℕ} (not b) (Some 22) None) hello_is_text

passed : lookup_refusal settings started (codes "hello") (get started.nodes 1) ≡ None
passed =
    ap (λ (o : Option Node). lookup_refusal settings started (codes "hello") o) root_at
    ∙ ap (λ (o : Option ℕ). first_refusal (o ∷ refused_if (is_at_limit settings started) ENFILE
    ∷ [])) hello_has_no_fault
    ∙ ap (λ (b : Bool). first_refusal (refused_if b ENFILE ∷ [])) open_limit

looked : (answer_of settings started 1 (Ok (lookup (codes "hello")))).0 ≡ Entry 2
    (fuse_attributes shown)
looked =
    ap (λ (o : Option ℕ). (refused_or started o
    (looked_up settings started (find false tree (node_ino (get started.nodes 1))
    (codes "hello")))).0) passed
    ∙ ap (λ (o : Option Node). (looked_up settings started
    (find false tree (node_ino o) (codes "hello"))).0) root_at
    ∙ ap (λ r. (looked_up settings started r).0) found
    ∙ ap (λ (o : Option (ℕ × Node)). (entered settings tree 2 (node_for started 2 o)).0)
    (unknown_by (node_of started 2) refl)
    ∙ ap (entry_reply 2) shown_is

entry_spelled : answer_bytes lookup_frame (Entry 2 (fuse_attributes shown)) ≡ entry_reply_bytes
unfolding u32_at u64_at reply reply_head entry_body attr_bytes u32s u64s shown
entry_spelled = refl

lookup_asked : request_in_turn Started lookup_frame ≡ Ok (lookup (codes "hello"))
unfolding u32_at u64_at request_of request_in only_name name_at
lookup_asked = refl

nodeid_is : (head_of lookup_frame).nodeid ≡ 1
unfolding u32_at u64_at
nodeid_is = refl

-- the look-up gives node 2 and the file's attributes
pub lookup_answered : (step settings started lookup_frame).0 ≡ entry_reply_bytes
lookup_answered =
    ap (λ r. answer_bytes lookup_frame (answer_of settings started (head_of lookup_frame).nodeid
    r).0) lookup_asked
    ∙ ap (λ n. answer_bytes lookup_frame (answer_of settings started n
    (Ok (lookup (codes "hello")))).0) nodeid_is
    ∙ ap (answer_bytes lookup_frame) looked ∙ entry_spelled

-- ---- attributes of the node that the look-up gave

getattr_asked : request_in_turn Started getattr_frame ≡ Ok (getattr None)
unfolding u32_at u64_at request_of request_in getattr_of
getattr_asked = refl

getattr_nodeid_is : (head_of getattr_frame).nodeid ≡ 2
unfolding u32_at u64_at
getattr_nodeid_is = refl

attributes_are : (answer_of settings with_hello 2 (Ok (getattr None))).0 ≡ Attributes
    (fuse_attributes shown)
attributes_are =
    ap (λ (o : Option Node). (refused_or with_hello (refused_unknown o ESTALE)
    (attr_reply (shown_at settings tree (node_ino o)), with_hello)).0)
    (inserted started.nodes 2 (record { ino = 2; count = 1 }))
    ∙ ap attr_reply shown_is

attr_spelled : answer_bytes getattr_frame (Attributes (fuse_attributes shown)) ≡ attr_reply_bytes
unfolding u32_at u64_at reply reply_head attr_body attr_bytes u32s u64s shown
attr_spelled = refl

pub getattr_answered : (step settings with_hello getattr_frame).0 ≡ attr_reply_bytes
getattr_answered =
    ap (λ r. answer_bytes getattr_frame (answer_of settings with_hello
    (head_of getattr_frame).nodeid r).0) getattr_asked
    ∙ ap (λ n. answer_bytes getattr_frame (answer_of settings with_hello n (Ok (getattr None))).0)
    getattr_nodeid_is
    ∙ ap (answer_bytes getattr_frame) attributes_are ∙ attr_spelled
