-- A configuration as a JSON value: an object with the six fields as keys; a map of owners is an
-- object with decimal keys.
use Rattle.std.specs.Prelude.{◌≡◌, ◌≢◌, ◌<◌, ◌^◌, ℕ, List, nat_lt, Option, Some, None, Result}
use Rattle.std.specs.Prelude.{Ok}
use Rattle.std.specs.Prelude.{Err, ok_or, codes, if◌then◌else◌, fold, option_and_then}
use Rattle.std.specs.List.{AllByRecursion}
use Rattle.std.specs.Fmt.{decimal}
use Rattle.std.specs.FinMap as map
use Rattle.port_base.specs.Decimals.{number_of}
use Rattle.serde_json.specs.Data.{Data, boolean, number, unsigned, string, object, Members}
use Rattle.serde_json.specs.Data.{member, no_members, put}
use Rattle.serde_json.specs.Find.{get, as_str, as_number, as_u64, as_bool, as_object}
use Rattle.serde_json.specs.Events.{members_len}
use Rattle.tree_model.specs.Settings.{IdMap}
use Rattle.p9_server.specs.Configs.{Configuration}
use Rattle.p9_server.specs.declared.config.Config.{Config}
use Rattle.p9_server.specs.declared.config_json.ConfigJsonError.{ConfigJsonError}
use Rattle.p9_server.specs.declared.config_json.ConfigJsonError.TheVariants as error

-- ---- writing

abbrev pub with_pair : Members → ℕ × ℕ → Members
with_pair ms p = put (decimal p.0) (number (unsigned p.1)) ms

abbrev pub ids_json : List (ℕ × ℕ) → Data
ids_json pairs = object (fold with_pair no_members pairs)

-- keys and values are below 2^32
abbrev pub AreNumbers : List (ℕ × ℕ) → Type 0
AreNumbers pairs = AllByRecursion (λ p. (p.0 < 2 ^ 32) × (p.1 < 2 ^ 32)) pairs

-- the members stand in the order of their keys
abbrev pub config_json : Config → Data
config_json c =
    object (member (codes "ascii_casefold") (boolean c.ascii_casefold)
    (member (codes "fid_limit") (number (unsigned c.fid_limit))
    (member (codes "gid_map") (ids_json c.gid_map.entries)
    (member (codes "msize") (number (unsigned c.msize))
    (member (codes "root") (string c.root.items)
    (member (codes "uid_map") (ids_json c.uid_map.entries) no_members))))))

-- ---- reading

abbrev pub below_32 : ℕ → Option ℕ
below_32 n = if nat_lt n (2 ^ 32) then Some n else None

abbrev pub u32_of : Data → Option ℕ
u32_of d = option_and_then below_32 (option_and_then as_u64 (as_number d))

-- the owner that a key writes
abbrev pub id_of : List ℕ → Option ℕ
id_of key = option_and_then below_32 (number_of key)

-- each member in turn
abbrev pub ids_from : IdMap → Members → Option IdMap
ids_from ids no_members = Some ids
ids_from ids (member key d ms) =
    option_and_then (λ id. option_and_then (λ shown. ids_from (map.insert ids id shown) ms)
    (u32_of d)) (id_of key)

abbrev pub ids_of : Data → Option IdMap
ids_of d = option_and_then (ids_from map.empty) (as_object d)

-- the value of a key, which has a number
abbrev pub key_of : {A : Type 0} → ℕ → (Data → Option A) → List ℕ → Data → Result A ConfigJsonError
key_of n kind key d = ok_or (option_and_then kind (get key d)) (error.Key n)

infixl 10 ◌>>=◌
abbrev pub ◌>>=◌ : {A B : Type 0} → Result A ConfigJsonError → (A → Result B ConfigJsonError)
    → Result B ConfigJsonError
(Ok a) >>= f = f a
(Err e) >>= f = Err e

abbrev pub check_members : Option Members → Result (Unit {0}) ConfigJsonError
check_members None = Err error.NotObject
check_members (Some ms) = if nat_lt 6 (members_len ms) then Err error.UnknownKey else Ok tt

abbrev pub check_object : Option Members → Result (Unit {0}) ConfigJsonError
check_object None = Err error.NotObject
check_object (Some ms) = Ok tt

-- the keys in the order of the fields, and then that there is no further one
unfoldable pub config_of : Data → Result Configuration ConfigJsonError
config_of d = do
  o ← check_object (as_object d)
  root ← key_of 1 as_str (codes "root") d
  msize ← key_of 2 u32_of (codes "msize") d
  uid_map ← key_of 3 ids_of (codes "uid_map") d
  gid_map ← key_of 4 ids_of (codes "gid_map") d
  ascii_casefold ← key_of 5 as_bool (codes "ascii_casefold") d
  fid_limit ← key_of 6 u32_of (codes "fid_limit") d
  m ← check_members (as_object d)
  Ok (record {
    root = root;
    msize = msize;
    uid_map = uid_map;
    gid_map = gid_map;
    ascii_casefold = ascii_casefold;
    fid_limit = fid_limit;
  })

-- what is read, or why it isn't; memory may be wanted at any time
abbrev pub JsonGives : {X Y : Type 0} → (X → Y) → Result X ConfigJsonError
    → Result Y ConfigJsonError → Type 0
JsonGives view (Ok x) read = read ≡ Ok (view x)
JsonGives view (Err e) read = e ≢ error.NoMemory → read ≡ Err e
