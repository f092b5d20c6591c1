-- What a header says.
use Rattle.std.specs.Prelude.{ℕ, Bool, List, [], ◌∷◌, ◌++◌, length, Option, Some, None, Result, Ok}
use Rattle.std.specs.Prelude.{Err, ◌==◌, if◌then◌else◌, nat_le, codes, bytes_eq, option_map}
use Rattle.mount9_run.specs.Reading.{◌>>=◌, Place, check, line_at, lines_of, gathered}
use Rattle.mount9_run.specs.HeaderLines.{stamp_at, limits_at, permit_at, present_at, top_at}
use Rattle.mount9_run.specs.HeaderRecords.{record_at}
use Rattle.tree_model.specs.Tree.{Tree}
use Rattle.tree_model.specs.Making.{new_tree}
use Rattle.mount9_run.specs.declared.header.start.Start.{Start}
use Rattle.mount9_run.specs.declared.header.start.Top.{Top}
use Rattle.mount9_run.specs.declared.header.text.TheConstants.{HEADER_LIMIT}

-- the first five lines
unfoldable pub start_at : Place → Result (Start × Place) ℕ
start_at at = do
  l1 ← line_at at
  first ← check at.0 (bytes_eq l1.0 (codes "mount9 1"))
  l2 ← line_at l1.1
  moment ← stamp_at (codes "moment") l1.1.0 l2.0
  l3 ← line_at l2.1
  born ← stamp_at (codes "born") l2.1.0 l3.0
  l4 ← line_at l3.1
  limits ← limits_at l3.1.0 l4.0
  l5 ← line_at l4.1
  permitted ← permit_at l4.1.0 l5.0
  Ok (record { moment = moment; born = born; limits = limits; permitted = permitted }, l5.1)

-- the tree that is shared, whether mounting is permitted, and the directories that mounts may
-- stand on
pub record HeaderRead : Type 0 where
  pub tree : Tree
  pub permitted : Bool
  pub present : List (List ℕ)

-- the top directory alone, as the first lines say
abbrev pub first_tree : Start → Top → Tree
first_tree start top = new_tree start.limits start.moment start.born top.mode top.uid top.gid

-- the header of these lines, or the number of the first that is refused
unfoldable pub header_of : List (List ℕ) → Result HeaderRead ℕ
header_of lines = do
  start ← start_at (1, lines)
  present ← gathered present_at [] start.1.0 start.1.1
  l ← line_at present.1
  top ← top_at present.1.0 l.0
  records ← gathered (record_at start.0.born) (first_tree start.0 top) l.1.0 l.1.1
  Ok (record { tree = records.0; permitted = start.0.permitted; present = present.0 })

-- ---- up to the line `end`

-- what goes up to the first line `end`, and what follows it
abbrev pub Split : Type 0
Split = Option (List ℕ × List ℕ)

abbrev pub onto : ℕ → Split → Split
onto b s = option_map (λ p. (b ∷ p.0, p.1)) s

-- the same, where the line so far is given
unfoldable pub text_from : List ℕ → List ℕ → Split
text_from line [] = None
text_from line (b ∷ bs) =
    if b == 10
    then (if bytes_eq line (codes "end") then Some (b ∷ [], bs) else onto b (text_from [] bs))
    else onto b (text_from (line ++ b ∷ []) bs)

abbrev pub within_limit : Split → Split
within_limit None = None
within_limit (Some p) = if nat_le (length p.0) HEADER_LIMIT then Some p else None

-- the text of the header, and what follows it
unfoldable pub text_of : List ℕ → Split
text_of bytes = within_limit (text_from [] bytes)

abbrev pub with_rest : List ℕ → Result HeaderRead ℕ → Result (HeaderRead × List ℕ) ℕ
with_rest rest (Ok h) = Ok (h, rest)
with_rest rest (Err n) = Err n

abbrev pub header_by : Split → Result (HeaderRead × List ℕ) ℕ
header_by None = Err 0
header_by (Some p) = with_rest p.1 (header_of (lines_of p.0))

-- the header and what follows it, or the first refused line, 0 where no line `end` stands within
-- the limit
unfoldable pub header : List ℕ → Result (HeaderRead × List ℕ) ℕ
header bytes = header_by (text_of bytes)

-- the header without what follows it
abbrev pub without_rest : Result (HeaderRead × List ℕ) ℕ → Result HeaderRead ℕ
without_rest (Ok p) = Ok p.0
without_rest (Err n) = Err n

unfoldable pub header_alone : List ℕ → Result HeaderRead ℕ
header_alone bytes = without_rest (header bytes)
