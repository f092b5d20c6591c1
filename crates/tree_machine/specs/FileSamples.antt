-- More frames for the first example: its file is opened, read, closed and forgotten.
use Rattle.std.specs.Prelude.{ℕ, ◌+◌, List, [], ◌∷◌, ◌++◌, replicate, codes, false}
use Rattle.std.specs.FinMap.{insert}
use Rattle.port_base.specs.declared.oflag.TheConstants.{O_TRUNC, O_WRONLY}
use Rattle.tree_model.specs.Tree.{Record}
use Rattle.tree_model.specs.Tree.Body.{File}
use Rattle.tree_machine.specs.State.{MachineState}
use Rattle.tree_machine.specs.Samples.{started, with_hello}
use Rattle.fuse_wire.specs.declared.setattr.SetAttrIn.{SetAttrIn}

-- ---- node 2 is opened to be read

abbrev pub open_frame : List ℕ
open_frame = (48 ∷ 0 ∷ 0 ∷ 0 ∷ 14 ∷ 0 ∷ 0 ∷ 0 ∷ 4 ∷ 0 ∷ 0 ∷ 0 ∷ 0 ∷ 0 ∷ 0 ∷ 0 ∷ 2 ∷ [])
    ++ replicate 31 0

-- handle 3
abbrev pub open_reply : List ℕ
open_reply = (32 ∷ 0 ∷ 0 ∷ 0 ∷ 0 ∷ 0 ∷ 0 ∷ 0 ∷ 4 ∷ 0 ∷ 0 ∷ 0 ∷ 0 ∷ 0 ∷ 0 ∷ 0 ∷ 3 ∷ [])
    ++ replicate 15 0

abbrev pub with_open : MachineState
with_open =
    record with_hello {
      handles =
          insert with_hello.handles 3 (record { ino = 2; access = 0; append = false });
      next = 4;
    }

-- ---- node 2 is opened to be written, and emptied: handle 3, and the file as it is then

abbrev pub to_empty : ℕ
to_empty = O_WRONLY + O_TRUNC

abbrev pub emptied_hello : Record
emptied_hello = record {
  body = File [];
  mode = 420;
  uid = 1000;
  gid = 1000;
  links = 1;
  atime = record { sec = 1600000000; nsec = 0 };
  mtime = record { sec = 1700000000; nsec = 5 };
  ctime = record { sec = 1700000000; nsec = 5 };
}

-- ---- four bytes of handle 3 from its second byte on

abbrev pub read_frame : List ℕ
read_frame =
    (80 ∷ 0 ∷ 0 ∷ 0 ∷ 15 ∷ 0 ∷ 0 ∷ 0 ∷ 5 ∷ 0 ∷ 0 ∷ 0 ∷ 0 ∷ 0 ∷ 0 ∷ 0 ∷ 2 ∷ []) ++ (replicate 23 0
    ++ ((3 ∷ 0 ∷ 0 ∷ 0 ∷ 0 ∷ 0 ∷ 0 ∷ 0 ∷ 1 ∷ 0 ∷ 0 ∷ 0 ∷ 0 ∷ 0 ∷ 0 ∷ 0 ∷ 4 ∷ []) ++ replicate 23 0))

abbrev pub read_reply : List ℕ
read_reply = (20 ∷ 0 ∷ 0 ∷ 0 ∷ 0 ∷ 0 ∷ 0 ∷ 0 ∷ 5 ∷ 0 ∷ 0 ∷ 0 ∷ 0 ∷ 0 ∷ 0 ∷ 0 ∷ []) ++ codes "ello"

-- ---- the handle ends

abbrev pub release_frame : List ℕ
release_frame = (64 ∷ 0 ∷ 0 ∷ 0 ∷ 18 ∷ 0 ∷ 0 ∷ 0 ∷ 6 ∷ 0 ∷ 0 ∷ 0 ∷ 0 ∷ 0 ∷ 0 ∷ 0 ∷ 2 ∷ [])
    ++ (replicate 23 0 ++ (3 ∷ replicate 23 0))

abbrev pub release_reply : List ℕ
release_reply = 16 ∷ 0 ∷ 0 ∷ 0 ∷ 0 ∷ 0 ∷ 0 ∷ 0 ∷ 6 ∷ 0 ∷ 0 ∷ 0 ∷ 0 ∷ 0 ∷ 0 ∷ 0 ∷ []

abbrev pub with_closed : MachineState
with_closed = record with_open { handles = with_hello.handles }

-- ---- the one look-up of node 2 is counted down

abbrev pub forget_frame : List ℕ
forget_frame = (48 ∷ 0 ∷ 0 ∷ 0 ∷ 2 ∷ 0 ∷ 0 ∷ 0 ∷ 7 ∷ 0 ∷ 0 ∷ 0 ∷ 0 ∷ 0 ∷ 0 ∷ 0 ∷ 2 ∷ [])
    ++ (replicate 23 0 ++ (1 ∷ replicate 7 0))

abbrev pub with_none : MachineState
with_none = record with_hello { nodes = started.nodes }

-- node 2 was given three times
abbrev pub thrice_given : MachineState
thrice_given = record with_hello { nodes = insert started.nodes 2 (record { ino = 2; count = 3 }) }

-- a batch of three pairs: a node that isn't there, the root, and node 2
abbrev pub batch_frame : List ℕ
batch_frame =
    (96 ∷ 0 ∷ 0 ∷ 0 ∷ 42 ∷ 0 ∷ 0 ∷ 0 ∷ 8 ∷ []) ++ (replicate 31 0 ++ (3 ∷ (replicate 7 0
    ++ ((9 ∷ 0 ∷ 0 ∷ 0 ∷ 0 ∷ 0 ∷ 0 ∷ 0 ∷ 1 ∷ 0 ∷ 0 ∷ 0 ∷ 0 ∷ 0 ∷ 0 ∷ 0 ∷ [])
    ++ ((1 ∷ 0 ∷ 0 ∷ 0 ∷ 0 ∷ 0 ∷ 0 ∷ 0 ∷ 5 ∷ 0 ∷ 0 ∷ 0 ∷ 0 ∷ 0 ∷ 0 ∷ 0 ∷ [])
    ++ (2 ∷ 0 ∷ 0 ∷ 0 ∷ 0 ∷ 0 ∷ 0 ∷ 0 ∷ 1 ∷ 0 ∷ 0 ∷ 0 ∷ 0 ∷ 0 ∷ 0 ∷ 0 ∷ []))))))

-- a SETATTR by handle 4 whose bits are none
abbrev pub asked : SetAttrIn
asked = record {
  valid = 0;
  fh = 4;
  size = 6;
  lock_owner = 7;
  atime = 8;
  mtime = 9;
  ctime = 10;
  atimensec = 1;
  mtimensec = 2;
  ctimensec = 3;
  mode = 420;
  uid = 5;
  gid = 11;
}
