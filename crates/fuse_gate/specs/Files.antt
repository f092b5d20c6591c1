-- The file that a fid reads.
use Rattle.std.specs.Prelude.{◌≡◌, ℕ, true, List, [], Some, option_map, unwrap_or}
use Rattle.std.specs.FinMap as map
use Rattle.tree_model.specs.Tree.{body_at}
use Rattle.tree_model.specs.Tree.Body.{File}
use Rattle.tree_model.specs.Reading.{bytes_at}
use Rattle.fid_model.specs.Fids.{ServerState, Fid, is_readable}

-- the bytes of the file that a fid names
abbrev pub file_at : ServerState → ℕ → List ℕ
file_at s fid = unwrap_or (option_map (λ (f : Fid). bytes_at s.tree f.ino) (map.get s.fids fid)) []

-- the fid is open to be read, and names a file with these bytes
pub record ReadsFile (s : ServerState) (fid : ℕ) (bytes : List ℕ) : Type 0 where
  pub f : Fid
  pub at : map.get s.fids fid ≡ Some f
  pub readable : is_readable f.open_state ≡ true
  pub body : body_at s.tree.records f.ino ≡ Some (File bytes)
