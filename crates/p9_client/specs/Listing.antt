-- What a directory lists, in the terms of those that ask.
use Rattle.std.specs.Prelude.{◌≡◌, ℕ, List, flat_map, map as each, Result, Ok, Err}
use Rattle.std.specs.FinMap as map
use Rattle.std.specs.List.{AllByRecursion}
use Rattle.std.specs.declared.vec.Vec.{Vec}
use Rattle.std.specs.Global.{Global}
use Rattle.tree_model.specs.Pages.{page_of}
use Rattle.p9_rmsg.specs.Dirents.{Entry, DirentSpells, dirent_at, dirent_of, dirent_spelling}
use Rattle.p9_rmsg.specs.declared.dirent.Dirent.{Dirent}
use Rattle.fid_model.specs.Fids.{Fid, ServerState}
use Rattle.fid_model.specs.FidCalls.{by_fid}
use Rattle.fid_model.specs.Listings.{entry_size, entry_told, listed_by, page_room}

-- ---- what is told

-- a page of a directory that a fid has open, entry by entry
abbrev pub entries_by : ServerState → ℕ → ℕ → Fid → Result (List Entry) ℕ
entries_by s offset count f = listed_by s f
    (each entry_told (page_of entry_size (page_room count s.msize) s.tree f.ino offset))

abbrev pub entries_told : ServerState → ℕ → ℕ → ℕ → Result (List Entry) ℕ
entries_told s fid offset count = by_fid (entries_by s offset count) (map.get s.fids fid)

-- the entries without where they lie in memory
abbrev pub entries_answer : Result (Vec Dirent Global) ℕ → Result (List Entry) ℕ
entries_answer (Ok ds) = Ok (each dirent_of ds.items)
entries_answer (Err e) = Err e

-- ---- their bytes

-- these bytes spell the entries, one after another
pub record AreSpelled (entries : List Entry) (bytes : List ℕ) : Type 0 where
  pub spelled : bytes ≡ flat_map dirent_spelling entries
  pub spells : AllByRecursion DirentSpells entries

-- they spell some
pub record IsListing (bytes : List ℕ) : Type 0 where
  pub entries : List Entry
  pub are : AreSpelled entries bytes

-- the bytes of an entry stand first
pub record BeginsWithEntry (bytes : List ℕ) : Type 0 where
  pub entry : Entry
  pub rest : List ℕ
  pub read : dirent_at bytes ≡ Ok (entry, rest)
