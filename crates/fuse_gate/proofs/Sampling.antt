-- A gate over a small server: what it shows follows by computation from what its tables have.
use Rattle.std.proofs.Common.{◌≡◌, [], false, ap, ◌∙◌, Option, Some, Ok, refl, arith}
use Rattle.std.specs.Prelude.{codes, option_map, unwrap_or}
use Rattle.std.specs.Ordering.{nat_cmp}
use Rattle.std.specs.FinMap.{get, insert, empty, get-empty}
use Rattle.std.specs.Global.{Global}
use Rattle.tree_model.specs.declared.attributes.Kind.TheVariants as kind
use Rattle.tree_model.specs.declared.attributes.Attr.{Attr}
use Rattle.tree_model.specs.Tree.{Body}
use Rattle.tree_model.specs.Finding.{root_of}
use Rattle.tree_model.specs.Reading.{bytes_at, bytes_of}
use Rattle.tree_model.specs.Samples.{born, sample}
use Rattle.tree_model.proofs.Maps.{inserted, insert_keeps}
use Rattle.tree_model.proofs.Sampling.{all_linked, body_of_file}
use Rattle.tree_model.proofs.Telling.{root_top}
use Rattle.tree_machine.specs.Replies.{fuse_attributes}
use Rattle.fid_model.specs.Answers.{attributes_of}
use Rattle.fid_model.specs.Fids.{Fid}
use Rattle.fid_model.specs.Samples.{server, with_open}
use Rattle.fid_model.proofs.Sampling.{nine, eight_open}
use Rattle.fuse_gate.specs.declared.gate.Node.{Node}
use Rattle.fuse_gate.specs.Attaching.{root_told}
use Rattle.fuse_gate.specs.Changes.{counted_up, counted_by}
use Rattle.fuse_gate.specs.Files.{file_at}
use Rattle.fuse_gate.specs.Replies.{file_attributes}
use Rattle.fuse_gate.specs.Samples.{gate}
use Rattle.fuse_gate.specs.Standing.{machine_of, node_of, handle_of}
use Rattle.fuse_gate.proofs.MappedLemmas.{get-mapped}

pub root_found : root_told server ≡ Ok 1
root_found = ap (λ t. root_of t []) all_linked ∙ root_top

-- ---- tables

abbrev file_node : Node
file_node = record { ino = 2; count = 4; kind = 0 }

module _ (a : Global) where
  node_at : get (gate a).nodes 2 ≡ Some file_node
  node_at = inserted (insert empty 1 (record { ino = 1; count = 1; kind = 128 })) 2 file_node

  pub node_shown : get (machine_of (gate a) with_open).nodes 2 ≡ Some
      (record { ino = 2; count = 4 })
  node_shown = get-mapped node_of (gate a).nodes 2 ∙ ap (option_map node_of) node_at

  pub handle_shown : get (machine_of (gate a) with_open).handles 3 ≡ Some
      (record { ino = 2; access = 0; append = false })
  handle_shown = get-mapped handle_of (gate a).handles 3
      ∙ ap (option_map handle_of) (inserted empty 3
      (record { ino = 2; access = 0; append = false; kind = 0 }))

  pub node_counted : counted_up (gate a) 2 ≡ record (gate a)
      { nodes = insert (gate a).nodes 2 (record { ino = 2; count = 5; kind = 0 }) }
  node_counted = ap (counted_by (gate a) 2) node_at

  pub node_missing : counted_up (gate a) 3 ≡ gate a
  node_missing = ap (counted_by (gate a) 3) (
      insert_keeps (insert empty 1 (record { ino = 1; count = 1; kind = 128 })) 2 file_node 3
      (omega arith)
      ∙ insert_keeps empty 1 (record { ino = 1; count = 1; kind = 128 }) 3 (omega arith)
      ∙ get-empty {X = Node} nat_cmp 3)

-- ---- files and attributes

pub bytes_of_file : file_at with_open 8 ≡ codes "world"
bytes_of_file = ap (λ (o : Option Fid). unwrap_or
    (option_map (λ (f : Fid). bytes_at sample f.ino) o) []) eight_open
    ∙ ap (λ (b : Option Body). unwrap_or (option_map bytes_of b) []) body_of_file

pub bytes_of_none : file_at server 9 ≡ []
bytes_of_none = ap (λ (o : Option Fid). unwrap_or
    (option_map (λ (f : Fid). bytes_at sample f.ino) o) []) nine

pub attributes_kept : let a : Attr = record {
  ino = 2;
  kind = kind.File;
  mode = 420;
  uid = 5;
  gid =
      6;
  links = 1;
  size = 5;
  atime = born;
  mtime = born;
  ctime = born;
} in file_attributes
    (attributes_of a) ≡ fuse_attributes a
attributes_kept = refl
