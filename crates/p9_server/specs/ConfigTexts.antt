-- What a text says of a configuration: parts `ascii_casefold=true` or `ascii_casefold=false`, with a
-- colon between each two.
use Rattle.std.specs.Prelude.{◌≡◌, ◌≢◌, ◌==◌, List, ℕ, [], ◌∷◌, Bool, true, false, not, Option, Some}
use Rattle.std.specs.Prelude.{None, Result, Ok, Err, ok_or, codes, bytes_eq, if◌then◌else◌, fold}
use Rattle.std.specs.Prelude.{length, take, drop}
use Rattle.std.specs.List.{slice_split, list_any}
use Rattle.p9_server.specs.Configs.{Configuration, standard}
use Rattle.p9_server.specs.declared.config_text.ConfigTextError.{ConfigTextError}
use Rattle.p9_server.specs.declared.config_text.ConfigTextError.TheVariants.{NotKindValue}
use Rattle.p9_server.specs.declared.config_text.ConfigTextError.TheVariants.{UnknownKind}
use Rattle.p9_server.specs.declared.config_text.ConfigTextError.TheVariants.{NotBoolean, NoMemory}

-- `true` or `false`
abbrev pub boolean_of : List ℕ → Option Bool
boolean_of value =
    if bytes_eq value (codes "true") then Some true else
    if bytes_eq value (codes "false") then Some false else None

abbrev pub casefold_key : List ℕ
casefold_key = codes "ascii_casefold="

-- one part: a kind and a value
abbrev pub part_value : List ℕ → Result Bool ConfigTextError
part_value part =
    if not (list_any (λ b. b == 61) part) then Err NotKindValue else
    if not (bytes_eq (take (length casefold_key) part) casefold_key) then Err UnknownKind else
    ok_or (boolean_of (drop (length casefold_key) part)) NotBoolean

-- the first bad part counts, and of good ones the last
abbrev pub with_part : Result Bool ConfigTextError → List ℕ → Result Bool ConfigTextError
with_part (Ok folds) part = part_value part
with_part (Err e) part = Err e

abbrev pub casefold_of : List ℕ → Result Bool ConfigTextError
casefold_of [] = Ok false
casefold_of (b ∷ text) = fold with_part (Ok false) (slice_split (λ b. b == 58) (b ∷ text))

-- the configuration that a text tells
abbrev pub folding : Result Bool ConfigTextError → Result Configuration ConfigTextError
folding (Ok folds) = Ok (record standard { ascii_casefold = folds })
folding (Err e) = Err e

abbrev pub config_of_text : List ℕ → Result Configuration ConfigTextError
config_of_text text = folding (casefold_of text)

-- the texts of the errors
abbrev pub error_text : ConfigTextError → List ℕ
error_text NotKindValue = codes "`cfg` options must be of the form `kind=value`"
error_text UnknownKind = codes "unrecognized option for p9 config"
error_text NotBoolean = codes "`ascii_casefold` must be a boolean"
error_text NoMemory = codes "no memory"

-- a text's configuration, or why it has none; memory may be wanted at any time
abbrev pub TextGives : Result Configuration ConfigTextError → Result Configuration ConfigTextError
    → Type 0
TextGives read (Ok c) = read ≡ Ok c
TextGives read (Err e) = e ≢ NoMemory → read ≡ Err e
