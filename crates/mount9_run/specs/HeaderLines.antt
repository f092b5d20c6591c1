-- The lines of a header, each by its kind.
use Rattle.std.specs.Prelude.{ℕ, ◌-◌, ◌^◌, List, [], ◌∷◌, ◌++◌, Option, Some, None, Result, Ok}
use Rattle.std.specs.Prelude.{Err, if◌then◌else◌, Bool, true, false, codes, bytes_eq}
use Rattle.tree_model.specs.declared.attributes.Stamp.{Stamp}
use Rattle.tree_model.specs.declared.attributes.Limits.{Limits}
use Rattle.mount9_run.specs.Paths.{is_path}
use Rattle.port_base.specs.Escapes.{unescaped}
use Rattle.mount9_run.specs.Reading.{◌>>=◌, check, or_refused, keyword_at, after_word}
use Rattle.mount9_run.specs.Numbers.{number_at, number_field, mode_field}
use Rattle.mount9_run.specs.declared.header.start.Top.{Top}

-- the greatest owner
abbrev pub OWNER_MAX : ℕ
OWNER_MAX = 2 ^ 32 - 1

-- `WORD SEC NSEC`
unfoldable pub stamp_at : List ℕ → ℕ → List ℕ → Result Stamp ℕ
stamp_at word n line = do
  rest ← keyword_at word n line
  sec ← number_field 0 (2 ^ 64 - 1) n rest
  nsec ← number_at 0 999999999 n sec.1
  Ok (record { sec = sec.0; nsec = nsec })

-- `limits FILE ENTRIES LINKS`
unfoldable pub limits_at : ℕ → List ℕ → Result Limits ℕ
limits_at n line = do
  rest ← keyword_at (codes "limits") n line
  file ← number_field 0 1073741824 n rest
  entries ← number_field 0 1048576 n file.1
  links ← number_at 1 65000 n entries.1
  Ok (record { file = file.0; entries = entries.0; links = links })

-- `permit yes` or `permit no`
unfoldable pub permit_at : ℕ → List ℕ → Result Bool ℕ
permit_at n line = do
  rest ← keyword_at (codes "permit") n line
  if bytes_eq rest (codes "yes") then Ok true else if bytes_eq rest (codes "no") then Ok false
      else Err n

abbrev pub with_path : ℕ → List (List ℕ) → Option (List ℕ) → Result (Option (List (List ℕ))) ℕ
with_path n paths None = Ok None
with_path n paths (Some field) = do
  path ← or_refused n (unescaped field)
  ok ← check n (is_path path)
  Ok (Some (paths ++ path ∷ []))

-- one more `present PATH`, with escapes
unfoldable pub present_at : ℕ → List (List ℕ) → List ℕ → Result (Option (List (List ℕ))) ℕ
present_at n paths line = with_path n paths (after_word (codes "present") line)

-- `top MODE UID GID`
unfoldable pub top_at : ℕ → List ℕ → Result Top ℕ
top_at n line = do
  rest ← keyword_at (codes "top") n line
  mode ← mode_field n rest
  uid ← number_field 0 OWNER_MAX n mode.1
  gid ← number_at 0 OWNER_MAX n uid.1
  Ok (record { mode = mode.0; uid = uid.0; gid = gid })
