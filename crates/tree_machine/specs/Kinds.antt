-- Records that keep their kind where the tree changes.
use Rattle.std.specs.Prelude.{◌≡◌, ℕ, Some}
use Rattle.std.specs.FinMap.{get}
use Rattle.tree_model.specs.Tree.{Tree, Record}
use Rattle.tree_model.specs.Attributes.{kind_of}

-- what is stored before and after is of the same kind
abbrev pub KeepsKinds : Tree → Tree → Type 0
KeepsKinds t u = (i : ℕ) (q r : Record) → get t.records i ≡ Some q → get u.records i ≡ Some r
    → kind_of r.body ≡ kind_of q.body
