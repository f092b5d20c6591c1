-- Directories that are listed by pages: each entry with its qid, the offset to read on from, its
-- type and its name.
use Rattle.std.specs.Prelude.{ℕ, ◌+◌, ◌-◌, min, not, List, length, flat_map, Result, Ok, Err}
use Rattle.std.specs.Prelude.{if◌then◌else◌}
use Rattle.std.specs.FinMap as map
use Rattle.port_base.specs.declared.errno.TheConstants.{EBADF, ENOTDIR}
use Rattle.p9_wire.specs.declared.protocol.TheConstants.{DIRENT_HEADER_SIZE, RREAD_HEADER_SIZE}
use Rattle.p9_rmsg.specs.Dirents.{Entry as Dirent, dirent_spelling}
use Rattle.tree_model.specs.Tree.{Tree, body_at, is_directory_at}
use Rattle.tree_model.specs.Attributes.{entry_type, qid_of}
use Rattle.tree_model.specs.Reading.{Entry}
use Rattle.tree_model.specs.Pages.{page_of}
use Rattle.fid_model.specs.Fids.{Fid, ServerState, is_open}
use Rattle.fid_model.specs.FidCalls.{by_fid}

-- an entry as Rreaddir has it: the offset to read on from is its cookie
abbrev pub entry_told : Entry → Dirent
entry_told e = (qid_of e.attr, (e.cookie, (entry_type e.attr.kind, e.name)))

-- its bytes, of which the name's are the only ones that vary in number
abbrev pub entry_size : Entry → ℕ
entry_size e = DIRENT_HEADER_SIZE + length e.name

-- entries, one after another
abbrev pub entries_spelling : List Entry → List ℕ
entries_spelling es = flat_map (λ e. dirent_spelling (entry_told e)) es

-- as many bytes as are asked for and fit a frame
abbrev pub page_room : ℕ → ℕ → ℕ
page_room count msize = min count (msize - RREAD_HEADER_SIZE)

-- the entries of a directory above an offset that fit so many bytes, whole
abbrev pub listed_page : Tree → ℕ → ℕ → ℕ → List ℕ
listed_page t dir offset room = entries_spelling (page_of entry_size room t dir offset)

-- what is told of a directory that a fid has open
abbrev pub listed_by : {A : Type 0} → ServerState → Fid → A → Result A ℕ
listed_by s f listing =
    if not (is_directory_at (body_at s.tree.records f.ino)) then Err ENOTDIR else
    if is_open f.open_state then Ok listing else Err EBADF

-- a page of it
abbrev pub page_by : ServerState → ℕ → ℕ → Fid → Result (List ℕ) ℕ
page_by s offset count f =
    listed_by s f (listed_page s.tree f.ino offset (page_room count s.msize))

abbrev pub readdir_told : ServerState → ℕ → ℕ → ℕ → Result (List ℕ) ℕ
readdir_told s fid offset count = by_fid (page_by s offset count) (map.get s.fids fid)
