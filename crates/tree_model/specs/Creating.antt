-- Names that are given while a tree is served: the times of the directory become the moment.
use Rattle.std.specs.Prelude.{ℕ, ◌%◌, List, [], Result}
use Rattle.tree_model.specs.declared.attributes.Attr.{Attr}
use Rattle.tree_model.specs.declared.attributes.Stamp.{Stamp}
use Rattle.tree_model.specs.Tree.{Tree, Record}
use Rattle.tree_model.specs.Making.{file_record, unless_refused, create_refused}
use Rattle.tree_model.specs.Placing.{with_record, directory_record, name_refused, with_link}
use Rattle.tree_model.specs.Attributing.{with_changed, restamped}
use Rattle.tree_model.specs.Attributes.{attr_of}

-- mtime and ctime become the moment
abbrev pub stamped : Stamp → Record → Record
stamped moment r = record r { mtime = moment; ctime = moment }

-- the tree with a record more, in a directory that is stamped
abbrev pub with_new : Tree → ℕ → List ℕ → Record → Tree
with_new t dir name r = with_changed (stamped t.moment) dir (with_record t dir name r)

-- an empty file of the owners 0 and 0, the mode modulo 4096
abbrev pub empty_file : Stamp → ℕ → Record
empty_file moment mode =
    file_record moment (record { mode = mode % 4096; uid = 0; gid = 0; bytes = [] })

-- `create`: the new inode, which is an empty file
abbrev pub create_of : Tree → ℕ → List ℕ → ℕ → Result (ℕ × Tree) ℕ
create_of t dir name mode =
    unless_refused (create_refused t dir name)
    t.next (with_new t dir name (empty_file t.moment mode))

-- an empty directory of the owners 0 and 0, the mode modulo 4096
abbrev pub empty_directory : Stamp → ℕ → ℕ → Record
empty_directory moment mode dir = directory_record moment (mode % 4096) 0 0 dir

-- `mkdir`: what is told of the new directory
abbrev pub mkdir_of : Tree → ℕ → List ℕ → ℕ → Result (Attr × Tree) ℕ
mkdir_of t dir name mode =
    unless_refused (create_refused t dir name)
    (attr_of t.next (empty_directory t.moment mode dir))
    (with_new t dir name (empty_directory t.moment mode dir))

-- the tree with one more name of a record, whose ctime becomes the moment, in a directory that is
-- stamped
abbrev pub with_name : Tree → ℕ → List ℕ → ℕ → Tree
with_name t dir name ino =
    with_changed (stamped t.moment) dir
    (with_changed (restamped t.moment) ino (with_link t dir name ino))

-- `link`: one more name of a file or a link
abbrev pub link_of : Tree → ℕ → ℕ → List ℕ → Result (Unit {0} × Tree) ℕ
link_of t ino dir name =
    unless_refused (name_refused t dir name ino) tt (with_name t dir name ino)
