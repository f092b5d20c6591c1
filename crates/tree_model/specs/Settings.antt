-- How a tree is shared.
use Rattle.std.specs.Prelude.{ℕ, ◌+◌, Bool, List, unwrap_or, Result, Ok, Err}
use Rattle.std.specs.Ordering.{nat_cmp}
use Rattle.std.specs.FinMap as map
use Rattle.std.specs.FinMap.{FinMap}
use Rattle.tree_model.specs.declared.attributes.Attr.{Attr}
use Rattle.tree_model.specs.Attributes.{type_bits}

-- numbers of owners by numbers of owners
abbrev pub IdMap : Type 0
IdMap = FinMap nat_cmp ℕ

-- the root's path, the maps of owners, whether names are found without regard to case, and how
-- many fids there may be
pub record Settings : Type 0 where
  pub root : List (List ℕ)
  pub uid_map : IdMap
  pub gid_map : IdMap
  pub casefold : Bool
  pub limit : ℕ

-- an owner without a pair stays
abbrev pub mapped : IdMap → ℕ → ℕ
mapped ids id = unwrap_or (map.get ids id) id

-- what is shown of an inode: its mode has the type bits, its owners are mapped
abbrev pub shown_of : Settings → Attr → Attr
shown_of s a = record a {
  mode = type_bits a.kind + a.mode;
  uid = mapped s.uid_map a.uid;
  gid = mapped s.gid_map a.gid;
}

abbrev pub shown_told : Settings → Result Attr ℕ → Result Attr ℕ
shown_told s (Ok a) = Ok (shown_of s a)
shown_told s (Err e) = Err e
