-- Drafts and commands, without where they lie in memory.
use Rattle.std.specs.Prelude.{◌≡◌, ℕ, List, Option, Some, None, Result, Ok, Err, Vec, option_map}
use Rattle.std.specs.BTreeMap.{BTreeMap}
use Rattle.std.specs.Global.{Global}
use Rattle.std.specs.FinMap as map
use Rattle.tree_model.specs.Settings.{IdMap}
use Rattle.mount9_run.specs.Command.{Draft, Serve}
use Rattle.mount9_run.specs.declared.command.DraftWords.{DraftWords}
use Rattle.mount9_run.specs.declared.command.ShareWords.{ShareWords}
use Rattle.mount9_run.specs.declared.command.Command.{Command}
use Rattle.mount9_run.specs.declared.command.Command.TheVariants as command
use Rattle.mount9_run.specs.declared.command.WordsError.{WordsError}
use Rattle.mount9_run.specs.declared.command.WordsError.TheVariants.{Words, NoMemory}

abbrev pub slot_view : Option (Vec ℕ Global) → Option (List ℕ)
slot_view slot = option_map (λ (v : Vec ℕ Global). v.items) slot

-- the pairs of a map of owners
abbrev pub ids_view : BTreeMap ℕ ℕ → IdMap
ids_view ids = map.from_entries ids.entries

abbrev pub draft_view : DraftWords → Draft
draft_view d = record {
  target = slot_view d.target;
  root = slot_view d.root;
  msize = d.msize;
  turns = d.turns;
  ids = d.ids;
  uid_map = ids_view d.uid_map;
  gid_map = ids_view d.gid_map;
  casefold = d.casefold;
}

abbrev pub share_view : ShareWords → Serve
share_view s = record {
  target = s.target.items;
  root = s.root.items;
  msize = s.msize;
  turns = s.turns;
  ids = s.ids;
  uid_map = ids_view s.uid_map;
  gid_map = ids_view s.gid_map;
  casefold = s.casefold;
}

abbrev pub serve_view : Command → Serve
serve_view (command.Serve s) = share_view s

-- the words are refused where the definition refuses them; memory may be wanted at any time
abbrev pub Refuses : {A : Type 0} → WordsError → Option A → Type 0
Refuses Words read = read ≡ None
Refuses NoMemory read = Unit {0}

-- what a function returned, seen by view, is what the definition gives
abbrev pub GivesWords : {X Y : Type 0} → (X → Y) → Result X WordsError → Option Y → Type 0
GivesWords view (Ok x) read = read ≡ Some (view x)
GivesWords view (Err e) read = Refuses e read
