-- What is good has one proof at most, so that a ghost field can keep it.
use Rattle.std.specs.Prelude.{ℕ, ◌+◌, List, [], ◌∷◌}
use Rattle.std.specs.Coded.{×_prop, le_prop}
use Rattle.std.proofs.Props.{props}
use Rattle.tree_model.specs.Tree.{Tree, Body, DirEntry}
use Rattle.tree_model.specs.Tree.Body.{File, Directory, Link}
use Rattle.tree_model.specs.Good.{CookiesRise, IsGoodBody, IsGoodTree}

pub CookiesRise-prop : (from : ℕ) (es : List DirEntry) (end : ℕ) → IsProp (CookiesRise from es end)
CookiesRise-prop from [] end = le_prop
CookiesRise-prop from (e ∷ es) end = ×_prop le_prop (CookiesRise-prop (e.cookie + 1) es end)

pub IsGoodBody-prop : (b : Body) → IsProp (IsGoodBody b)
IsGoodBody-prop (File bytes) = le_prop
IsGoodBody-prop (Directory es next above) = hlevel (props, CookiesRise-prop 1 es next)
IsGoodBody-prop (Link target) = hlevel props

pub IsGoodTree-prop : (t : Tree) → IsProp (IsGoodTree t)
IsGoodTree-prop t = hlevel (props, IsGoodBody-prop)
