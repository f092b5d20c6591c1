-- What the words of a command line say.
use Rattle.std.specs.Prelude.{ℕ, ◌-◌, ◌^◌, List, [], ◌∷◌, Option, Some, None, is_some, Bool, true}
use Rattle.std.specs.Prelude.{codes, bytes_eq, option_map, option_and_then, unwrap_or, drop}
use Rattle.std.specs.Prelude.{slice_get, false, if◌then◌else◌}
use Rattle.std.specs.Option.{option_map_or}
use Rattle.std.specs.FinMap as map
use Rattle.mount9_run.specs.Texts.{split_once}
use Rattle.mount9_run.specs.Paths.{is_path, is_root}
use Rattle.port_base.specs.Decimals.{number_of}
use Rattle.mount9_run.specs.Numbers.{in_range}
use Rattle.tree_model.specs.Settings.{IdMap}
use Rattle.p9_server.specs.ConfigTexts.{boolean_of}
use Rattle.mount9_run.specs.declared.command.TheConstants.{MSIZE, TURNS, FID_LIMIT}

-- what `serve` is to serve, and where; the greatest size of a 9P message, the most frames, and the
-- most node ids and handles; the users and groups that are shown for others; whether names are
-- found without regard to case
pub record Serve : Type 0 where
  pub target : List ℕ
  pub root : List ℕ
  pub msize : ℕ
  pub turns : ℕ
  pub ids : ℕ
  pub uid_map : IdMap
  pub gid_map : IdMap
  pub casefold : Bool

-- what the words so far say
pub record Draft : Type 0 where
  pub target : Option (List ℕ)
  pub root : Option (List ℕ)
  pub msize : Option ℕ
  pub turns : Option ℕ
  pub ids : Option ℕ
  pub uid_map : IdMap
  pub gid_map : IdMap
  pub casefold : Option Bool

abbrev pub no_words : Draft
no_words = record {
  target = None;
  root = None;
  msize = None;
  turns = None;
  ids = None;
  uid_map = map.empty;
  gid_map = map.empty;
  casefold = None;
}

-- ---- values

-- the value of a key that comes for the first time
abbrev pub once : {A : Type 0} → Option A → Option A → Option (Option A)
once old new = if is_some old then None else option_map Some new

-- a text that passes a test
abbrev pub text_in_form : (List ℕ → Bool) → List ℕ → Option (List ℕ)
text_in_form in_form value = if in_form value then Some value else None

-- a number from low to high
abbrev pub number_in : ℕ → ℕ → List ℕ → Option ℕ
number_in low high value = in_range low high (number_of value)

abbrev pub owner_of : List ℕ → Option ℕ
owner_of text = number_in 0 (2 ^ 32 - 1) text

-- `h:c`, two owners
unfoldable pub owners_of : List ℕ → Option (ℕ × ℕ)
owners_of value =
    option_and_then (λ p. option_and_then (λ id. option_map (λ shown. (id, shown)) (owner_of p.1))
    (owner_of p.0)) (split_once 58 value)

-- one more owner, for which another is shown
abbrev pub with_owner : IdMap → Option (ℕ × ℕ) → Option IdMap
with_owner ids None = None
with_owner ids (Some p) =
    if is_some (map.get ids p.0) then None else Some (map.insert ids p.0 p.1)

-- ---- keys

-- one more key and its value
abbrev pub with_key : Draft → List ℕ → List ℕ → Option Draft
with_key d key value =
    if bytes_eq key (codes "target") then option_map (λ v. record d { target = v })
    (once d.target (text_in_form is_path value)) else
    if bytes_eq key (codes "root") then option_map (λ v. record d { root = v })
    (once d.root (text_in_form is_root value)) else
    if bytes_eq key (codes "msize") then option_map (λ n. record d { msize = n })
    (once d.msize (number_in 256 65560 value)) else
    if bytes_eq key (codes "turns") then option_map (λ n. record d { turns = n })
    (once d.turns (number_in 1 8192 value)) else
    if bytes_eq key (codes "ids") then option_map (λ n. record d { ids = n })
    (once d.ids (number_in 0 1000000 value)) else
    if bytes_eq key (codes "uid") then option_map (λ m. record d { uid_map = m })
    (with_owner d.uid_map (owners_of value)) else
    if bytes_eq key (codes "gid") then option_map (λ m. record d { gid_map = m })
    (with_owner d.gid_map (owners_of value)) else
    if bytes_eq key (codes "casefold") then option_map (λ b. record d { casefold = b })
    (once d.casefold (boolean_of value)) else None

-- one more word, which is `key=value`
unfoldable pub with_word : Draft → List ℕ → Option Draft
with_word d word = option_and_then (λ p. with_key d p.0 p.1) (split_once 61 word)

unfoldable pub with_words : Draft → List (List ℕ) → Option Draft
with_words d [] = Some d
with_words d (w ∷ ws) = option_and_then (λ e. with_words e ws) (with_word d w)

-- the command at these paths, with the numbers that didn't come as they stand by themselves
abbrev pub completed : Draft → List ℕ → List ℕ → Serve
completed d target root =
    record {
      target = target;
      root = root;
      msize = unwrap_or d.msize MSIZE;
      turns = unwrap_or d.turns TURNS;
      ids = unwrap_or d.ids FID_LIMIT;
      uid_map = d.uid_map;
      gid_map = d.gid_map;
      casefold = unwrap_or d.casefold false;
    }

-- the command, where neither path is missing
abbrev pub finished : Draft → Option Serve
finished d = option_and_then (λ target. option_map (completed d target) d.root) d.target

abbrev pub is_serve : List (List ℕ) → Bool
is_serve words = option_map_or (λ first. bytes_eq first (codes "serve")) (slice_get words 0) false

-- what the words command, where they are accepted
unfoldable pub command : List (List ℕ) → Option Serve
command words =
    if is_serve words then option_and_then finished (with_words no_words (drop 1 words)) else None
