-- How the bodies of records are stored.
use Rattle.std.specs.Prelude.{ℕ}
use Rattle.tree_model.specs.Tree.{Body, Record}
use Rattle.tree_model.specs.Tree.Body.{File, Directory, Link}
use Rattle.tree_host.specs.declared.node.Stored.{Stored}
use Rattle.tree_host.specs.declared.node.Stored.TheVariants.{Bytes, Names, Target}

-- what a stored body holds
abbrev pub body_of : Stored → Body
body_of (Bytes bytes) = File bytes.items
body_of (Names listing above) = Directory listing.entries.items listing.next above
body_of (Target target) = Link target.items

abbrev pub links : Record → ℕ
links r = r.links
