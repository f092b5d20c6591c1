-- What is known of a move, of the body of what moves, and of a directory without an entry.
use Rattle.std.proofs.Common.{◌≡◌, ℕ, ◌-◌, ◌^◌, ◌<◌, Bool, true, false}
use Rattle.std.proofs.Common.{cond, List, [], ◌∷◌, refl, sym, ap, ◌∙◌}
use Rattle.std.proofs.Common.{Option, Some}
use Rattle.std.proofs.Common.{None, bytes_eq}
use Rattle.std.proofs.Common.{unwrap_or}
use Rattle.std.specs.Prelude.{option_map, IfSome}
use Rattle.std.proofs.lemmas.Bool.{false≢true}
use Rattle.std.specs.FinMap.{get}
use Rattle.port_base.specs.Names.{name_fault}
use Rattle.tree_model.specs.Tree.{Tree, Record, Records, Body, DirEntry, body_at, listed}
use Rattle.tree_model.specs.Tree.{is_directory, is_directory_at, is_linked}
use Rattle.tree_model.specs.Tree.Body.{File, Directory, Link}
use Rattle.tree_model.specs.Good.{IsAt, IsGoodBody, links_of}
use Rattle.tree_model.specs.Finding.{entry_named}
use Rattle.tree_model.specs.Making.{with_entries, next_cookie}
use Rattle.tree_model.specs.Reading.{above}
use Rattle.tree_model.specs.Unlinking.{without}
use Rattle.tree_model.specs.Renaming.{above_at, climbs_past, placed_below}
use Rattle.tree_model.proofs.Leaving.{IsEntryIn}

-- a directory with other entries stays below the same directory
pub other_entries : (b : Body) (es fs : List DirEntry) (next n up : ℕ) → b ≡ Directory es n up
    → with_entries b fs next ≡ Directory fs next up
other_entries b es fs next n up is = ap (λ b. with_entries b fs next) is

pub placed-is_directory : (dir : ℕ) (b : Body) → is_directory (placed_below dir b) ≡ is_directory b
placed-is_directory dir (File bytes) = refl
placed-is_directory dir (Directory es next up) = refl
placed-is_directory dir (Link target) = refl

pub placed-listed : (dir : ℕ) (b : Body) → listed (placed_below dir b) ≡ listed b
placed-listed dir (File bytes) = refl
placed-listed dir (Directory es next up) = refl
placed-listed dir (Link target) = refl

pub placed-shows : (dir : ℕ) (b : Body) (n : ℕ) (linked : Bool)
    → links_of (placed_below dir b) n linked ≡ links_of b n linked
placed-shows dir (File bytes) n linked = refl
placed-shows dir (Directory es next up) n linked = refl
placed-shows dir (Link target) n linked = refl

pub placed-good : (dir : ℕ) (b : Body) → IsGoodBody b → IsGoodBody (placed_below dir b)
placed-good dir (File bytes) good = good
placed-good dir (Directory es next up) good = good
placed-good dir (Link target) good = good

pub placed-above : (dir : ℕ) (b : Body) (es : List DirEntry) (n up : ℕ)
    → placed_below dir b ≡ Directory es n up → up ≡ dir
placed-above dir (File bytes) es n up is = absurd (cc)
placed-above dir (Directory fs m a) es n up is = let same : dir ≡ up = cc in sym same
placed-above dir (Link target) es n up is = absurd (cc)

-- a name that isn't there isn't there without another
pub without-none : (name other : List ℕ) (es : List DirEntry) → entry_named other es ≡ None
    → entry_named other (without name es) ≡ None
without-none name other [] none = refl
without-none name other (e ∷ es) none = by_tests (bytes_eq e.name name) (bytes_eq e.name other) refl
    none (λ none. without-none name other es none) where
      by_tests : (b c : Bool) → bytes_eq e.name other ≡ c
          → cond c (Some e) (entry_named other es) ≡ None
          → (entry_named other es ≡ None → entry_named other (without name es) ≡ None)
          → entry_named other (cond b es (e ∷ without name es)) ≡ None
      by_tests b true is none later = absurd (cc)
      by_tests true false is none later = none
      by_tests false false is none later = ap (λ c. cond c (Some e)
          (entry_named other (without name es))) is ∙ later none

-- the parts of a directory
pub is_made : (b : Body) → is_directory b ≡ true → (es : List DirEntry) × (n : ℕ) × (up : ℕ)
    × (b ≡ Directory es n up)
is_made (File bytes) is = absurd (false≢true is)
is_made (Directory es n up) is = (es, n, up, refl)
is_made (Link target) is = absurd (false≢true is)

-- where a directory stands
pub above_is : (rs : Records) (i : ℕ) (r : Record) (es : List DirEntry) (n up : ℕ) → IsAt rs i r
    → r.body ≡ Directory es n up → above_at rs i ≡ up
above_is rs i r es n up at is = ap (λ o. unwrap_or
    (option_map above (option_map (λ (r : Record). r.body) o)) 0) at ∙ ap above is

-- what holds of each record that is there
pub if_there : (rs : Records) (P : Record → Type 0) (i : ℕ) → ((y : Record) → IsAt rs i y → P y)
    → IfSome (get rs i) P
if_there rs P i all = by_record (get rs i) refl where
  by_record : (o : Option Record) → get rs i ≡ o → IfSome o P
  by_record None at = tt
  by_record (Some y) at = all y at

-- what is known of a move: an entry that names the inode, a directory without the new name, with a
-- cookie left, which isn't at or below what moves
pub record IsMove (t : Tree) (olddir : ℕ) (oldname : List ℕ) (newdir : ℕ) (newname : List ℕ)
    (ino : ℕ) : Type 0 where
  pub old : IsEntryIn t.records olddir oldname ino
  pub n : Record
  pub there : IsAt t.records newdir n
  pub directory : is_directory n.body ≡ true
  pub live : is_linked t.records newdir ≡ true
  pub new : entry_named newname (listed n.body) ≡ None
  pub fine : name_fault newname ≡ None
  pub room : next_cookie n.body < 2 ^ 64 - 1
  pub steps : ℕ
  pub past : is_directory_at (body_at t.records ino) ≡ true
      → climbs_past t.records ino steps newdir ≡ true
