-- Headers in memory, and what taking their text from a source does.
use Rattle.std.specs.Prelude.{◌≡◌, ℕ, ◌≤◌, ◌<◌, ⊤, min, List, [], ◌∷◌, ◌++◌, length, drop, true}
use Rattle.std.specs.Prelude.{Option, Some, None, IfSome, Result, Ok, Err, Vec}
use Rattle.std.specs.Global.{Global}
use Rattle.std.specs.Io.KnownBytes.{Consumes}
use Rattle.port_base.specs.Faults.{Faulted}
use Rattle.port_base.specs.Streams.{TookExactly}
use Rattle.tree_model.specs.Good.{IsGoodTarget}
use Rattle.mount9_run.specs.HeaderRecords.{Item, RecordLine, is_record_path}
use Rattle.mount9_run.specs.HeaderRecords.Item.{directory, file, link, hard}
use Rattle.mount9_run.specs.Header.{HeaderRead, text_of, text_from, onto}
use Rattle.mount9_run.specs.declared.header.error.HeaderError.{HeaderError}
use Rattle.mount9_run.specs.declared.header.error.HeaderError.TheVariants as error
use Rattle.mount9_run.specs.declared.header.records.LineItem.{LineItem}
use Rattle.mount9_run.specs.declared.header.records.LineItem.TheVariants as code
use Rattle.mount9_run.specs.declared.header.records.RecordLine.{RecordLine as CodeLine}
use Rattle.mount9_run.specs.declared.header.Header.{Header}
use Rattle.std.specs.FinMap as map
use Rattle.tree_host.specs.declared.memory.TreeHost.{TreeHost}
use Rattle.tree_host.specs.TreeHosts.{tree, holds, calls}
use Rattle.mount9_run.specs.declared.header.text.TextError.{TextError}
use Rattle.mount9_run.specs.declared.header.text.TheConstants.{HEADER_LIMIT}
use Rattle.mount9_run.specs.declared.header.text.TextError.TheVariants.{NoEnd, Read, NoMemory}

abbrev pub item_view : LineItem → Item
item_view (code.Directory mode uid gid) = directory mode uid gid
item_view (code.File mode uid gid bytes) =
    file (record { mode = mode; uid = uid; gid = gid; bytes = bytes.items })
item_view (code.Link uid gid target) = link uid gid target.items
item_view (code.Hard old) = hard old.items

abbrev pub line_view : CodeLine → RecordLine
line_view l = record { item = item_view l.item; path = l.path.items }

-- the modes and targets of a record's line are in their ranges
abbrev pub IsItemInRange : LineItem → Type 0
IsItemInRange (code.Directory mode uid gid) = mode < 4096
IsItemInRange (code.File mode uid gid bytes) = mode < 4096
IsItemInRange (code.Link uid gid target) = IsGoodTarget target.items
IsItemInRange (code.Hard old) = ⊤

pub record IsLineInRange (l : CodeLine) : Type 0 where
  pub item : IsItemInRange l.item
  pub path : is_record_path l.path.items ≡ true

abbrev pub header_view : Header → HeaderRead
header_view h = record { tree = tree h.host; permitted = h.permitted; present = h.present }

-- a host that is always steady, has never failed and holds nothing
pub record IsFresh (host : TreeHost) : Type 0 where
  pub holds : holds host ≡ map.empty
  pub faults : (calls host).faults ≡ 0
  pub steady : (calls host).steady ≡ true

-- but for the tree, the host is as before
pub record ChangesTree (old new : TreeHost) : Type 0 where
  pub born : new.born ≡ old.born
  pub holds : holds new ≡ holds old
  pub calls : calls new ≡ calls old

abbrev pub GivesBytes : Result (Option (Vec ℕ Global)) HeaderError → Option (List ℕ) → Type 0
GivesBytes (Ok (Some v)) read = read ≡ Some v.items
GivesBytes (Ok None) read = read ≡ None
GivesBytes (Err e) read = e ≡ error.NoMemory

-- ---- a text taken from a source

-- no line `end` stands within the limit, and as much was taken as a header may have
pub record IsEndless (bytes : List ℕ) (left0 left1 : Option (List ℕ)) : Type 0 where
  pub none : text_of bytes ≡ None
  pub took : TookExactly left0 left1 (min HEADER_LIMIT (length bytes))

-- the text that was taken, by the answer, from what the source had left
abbrev pub TakesTextBy : Option (List ℕ) → Option (List ℕ) → ℕ → ℕ → List ℕ
    → Result (Unit {0}) TextError → Type 0
TakesTextBy left0 left1 faults0 faults1 text (Ok x) =
    (faults1 ≡ faults0) × Consumes left0 left1 text
    × ((rest : List ℕ) → text_of (text ++ rest) ≡ Some (text, rest))
TakesTextBy left0 left1 faults0 faults1 text (Err NoEnd) =
    (faults1 ≡ faults0) × IfSome left0 (λ bytes. IsEndless bytes left0 left1)
TakesTextBy left0 left1 faults0 faults1 text (Err Read) = Faulted faults0 faults1
TakesTextBy left0 left1 faults0 faults1 text (Err NoMemory) = faults1 ≡ faults0

pub record TakesText (left0 left1 : Option (List ℕ)) (faults0 faults1 : ℕ) (text : List ℕ)
    (result : Result (Unit {0}) TextError) : Type 0 where
  pub answer : TakesTextBy left0 left1 faults0 faults1 text result

-- one more byte: it ends the text, or a line goes on from a start
abbrev pub Scans : List ℕ → ℕ → ℕ → List ℕ → Result (Option ℕ) TextError → Type 0
Scans text start b new (Ok None) =
    (new ≡ text ++ b ∷ [])
    × ((rest : List ℕ) → text_from (drop start text) (b ∷ rest) ≡ Some (b ∷ [], rest))
Scans text start b new (Ok (Some s)) = (new ≡ text ++ b ∷ []) × (s ≤ length new)
    × ((rest : List ℕ) → text_from (drop start text) (b ∷ rest)
    ≡ onto b (text_from (drop s new) rest))
Scans text start b new (Err e) = e ≡ NoMemory
