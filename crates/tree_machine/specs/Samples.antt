-- The first example: a tree, three frames, and the bytes that answer them.
use Rattle.std.specs.Prelude.{ℕ, List, [], ◌∷◌, ◌++◌, replicate, codes, false}
use Rattle.std.specs.FinMap.{insert, empty}
use Rattle.tree_model.specs.declared.attributes.TheConstants.{TOP}
use Rattle.tree_model.specs.Tree.{Tree}
use Rattle.tree_model.specs.Settings.{Settings}
use Rattle.tree_model.specs.Making.{new_tree, with_file}
use Rattle.tree_machine.specs.State.{MachineState, begun}
use Rattle.tree_machine.specs.State.Phase.{Started}

-- a tree of one file, `/hello`, with the bytes `hello` and a line feed
abbrev pub tree : Tree
tree = with_file (record { sec = 1600000000; nsec = 0 })
    (new_tree (record { file = 1048576; entries = 65536; links = 65000 })
    (record { sec = 1700000000; nsec = 5 }) (record { sec = 1600000000; nsec = 0 }) 493 0 0)
    TOP (codes "hello") (record { mode = 420; uid = 1000; gid = 1000; bytes = codes "hello\n" })

-- the whole tree is shared, with up to 1024 node ids and handles
abbrev pub settings : Settings
settings = record { root = []; uid_map = empty; gid_map = empty; casefold = false; limit = 1024 }

-- ---- INIT of minor 31

abbrev pub init_frame : List ℕ
init_frame = (104 ∷ 0 ∷ 0 ∷ 0 ∷ 26 ∷ 0 ∷ 0 ∷ 0 ∷ 1 ∷ [])
    ++
    (replicate 31 0 ++ ((7 ∷ 0 ∷ 0 ∷ 0 ∷ 31 ∷ 0 ∷ 0 ∷ 0 ∷ 0 ∷ 0 ∷ 2 ∷ 0 ∷ []) ++ replicate 52 0))

abbrev pub init_reply : List ℕ
init_reply =
    (80 ∷ 0 ∷ 0 ∷ 0 ∷ 0 ∷ 0 ∷ 0 ∷ 0 ∷ 1 ∷ 0 ∷ 0 ∷ 0 ∷ 0 ∷ 0 ∷ 0 ∷ 0 ∷ 7 ∷ 0 ∷ 0 ∷ 0 ∷ 31 ∷ 0 ∷ 0
    ∷ 0 ∷ 0 ∷ 0 ∷ 2 ∷ 0 ∷ 0 ∷ 0 ∷ 0 ∷ 0 ∷
    12 ∷ 0 ∷ 9 ∷ 0 ∷ 0 ∷ 0 ∷ 1 ∷ 0 ∷ 1 ∷ 0 ∷ 0 ∷ 0 ∷ []) ++ replicate 36 0

-- ---- a look-up of `hello` in the root, when the session has begun

abbrev pub started : MachineState
started = record (begun tree 1) { phase = Started }

abbrev pub lookup_frame : List ℕ
lookup_frame = (46 ∷ 0 ∷ 0 ∷ 0 ∷ 1 ∷ 0 ∷ 0 ∷ 0 ∷ 2 ∷ 0 ∷ 0 ∷ 0 ∷ 0 ∷ 0 ∷ 0 ∷ 0 ∷ 1 ∷ [])
    ++ (replicate 23 0 ++ (codes "hello" ++ 0 ∷ []))

-- node 2 and its attributes
abbrev pub entry_reply_bytes : List ℕ
entry_reply_bytes =
    (144 ∷ 0 ∷ 0 ∷ 0 ∷ 0 ∷ 0 ∷ 0 ∷ 0 ∷ 2 ∷ 0 ∷ 0 ∷ 0 ∷ 0 ∷ 0 ∷ 0 ∷ 0 ∷ 2 ∷ [])
    ++ (replicate 15 0 ++ ((1 ∷ 0 ∷ 0 ∷ 0 ∷ 0 ∷ 0 ∷ 0 ∷ 0 ∷ 1 ∷ []) ++ (replicate 15 0
    ++ ((2 ∷ 0 ∷ 0 ∷ 0 ∷ 0 ∷ 0 ∷ 0 ∷ 0 ∷ 6 ∷ 0 ∷ 0 ∷ 0 ∷ 0 ∷ 0 ∷ 0 ∷ 0 ∷ 1 ∷ 0 ∷ 0 ∷ 0 ∷ 0 ∷ 0 ∷ 0
    ∷ 0 ∷ [])
    ++ ((0 ∷ 16 ∷ 94 ∷ 95 ∷ 0 ∷ 0 ∷ 0 ∷ 0 ∷ 0 ∷ 16 ∷ 94 ∷ 95 ∷ 0 ∷ 0 ∷ 0 ∷ 0 ∷ 0 ∷ 16 ∷ 94 ∷ 95
    ∷ []) ++ (replicate 16 0
    ++ (164 ∷ 129 ∷ 0 ∷ 0 ∷ 1 ∷ 0 ∷ 0 ∷ 0 ∷ 232 ∷ 3 ∷ 0 ∷ 0 ∷ 232 ∷ 3 ∷ 0 ∷ 0 ∷ 0 ∷ 0 ∷ 0 ∷ 0 ∷ 0
    ∷ 16 ∷ 0 ∷ 0 ∷ 0 ∷ 0 ∷ 0 ∷ 0 ∷ [])))))))

-- ---- attributes of the node that the look-up gave

abbrev pub with_hello : MachineState
with_hello =
    record started { nodes = insert started.nodes 2 (record { ino = 2; count = 1 }); next = 3 }

abbrev pub getattr_frame : List ℕ
getattr_frame = (56 ∷ 0 ∷ 0 ∷ 0 ∷ 3 ∷ 0 ∷ 0 ∷ 0 ∷ 3 ∷ 0 ∷ 0 ∷ 0 ∷ 0 ∷ 0 ∷ 0 ∷ 0 ∷ 2 ∷ [])
    ++ replicate 39 0

abbrev pub attr_reply_bytes : List ℕ
attr_reply_bytes =
    (120 ∷ 0 ∷ 0 ∷ 0 ∷ 0 ∷ 0 ∷ 0 ∷ 0 ∷ 3 ∷ 0 ∷ 0 ∷ 0 ∷ 0 ∷ 0 ∷ 0 ∷ 0 ∷ 1 ∷ []) ++ (replicate 15 0
    ++ ((2 ∷ 0 ∷ 0 ∷ 0 ∷ 0 ∷ 0 ∷ 0 ∷ 0 ∷ 6 ∷ 0 ∷ 0 ∷ 0 ∷ 0 ∷ 0 ∷ 0 ∷ 0 ∷ 1 ∷ 0 ∷ 0 ∷ 0 ∷ 0 ∷ 0 ∷ 0
    ∷ 0 ∷ [])
    ++ ((0 ∷ 16 ∷ 94 ∷ 95 ∷ 0 ∷ 0 ∷ 0 ∷ 0 ∷ 0 ∷ 16 ∷ 94 ∷ 95 ∷ 0 ∷ 0 ∷ 0 ∷ 0 ∷ 0 ∷ 16 ∷ 94 ∷ 95
    ∷ []) ++ (replicate 16 0
    ++ (164 ∷ 129 ∷ 0 ∷ 0 ∷ 1 ∷ 0 ∷ 0 ∷ 0 ∷ 232 ∷ 3 ∷ 0 ∷ 0 ∷ 232 ∷ 3 ∷ 0 ∷ 0 ∷ 0 ∷ 0 ∷ 0 ∷ 0 ∷ 0
    ∷ 16 ∷ 0 ∷ 0 ∷ 0 ∷ 0 ∷ 0 ∷ 0 ∷ [])))))
