-- What a mount comes to, by its flags and by its refusals.
use Rattle.std.proofs.Common.{◌≡◌, ◌∙◌, ℕ, Bool, true, false, List, Some, Err, Result, ap, sym, refl, subst}
use Rattle.std.specs.Prelude.{if◌then◌else◌, not, ◌||◌, ◌&&◌}
use Rattle.std.specs.List.{list_any}
use Rattle.port_base.specs.Paths.{same_path}
use Rattle.port_base.specs.Flags.{bits_of}
use Rattle.port_base.specs.declared.errno.TheConstants.{EINVAL, ENOENT, EPERM}
use Rattle.port_base.specs.declared.flags.TheConstants.MsFlags.{MS_BIND, MS_MOVE, MS_REMOUNT}
use Rattle.libmount.specs.declared.mounter.MountFault.{MountFault}
use Rattle.libmount.specs.Mounters.{Leaves}
use Rattle.libmount.specs.MountTables.{MountCall, MountTable, bind, by_flags, given, has}
use Rattle.libmount.specs.MountTables.{is_absolute}
use Rattle.libmount.specs.MountTables.{is_empty_text, is_there, mount, move_mount, new_mount, remount}

if_true : {A : Type 0} (b : Bool) (x y : A) → b ≡ true → (if b then x else y) ≡ x
if_true b x y is = rw is refl

if_false : {A : Type 0} (b : Bool) (x y : A) → b ≡ false → (if b then x else y) ≡ y
if_false b x y is = rw is refl

-- what is told may be said in other words
pub leaves_as : {A : Type 0} (told other : Result MountTable ℕ) (old new : MountTable)
    (result : Result A MountFault) → told ≡ other → Leaves other old new result
    → Leaves told old new result
leaves_as told other old new result same leaves =
    subst (λ t. Leaves t old new result) (sym same) leaves

pub flag_known : (bits flags : ℕ) (flag : ℕ) (found is : Bool) → bits ≡ flags
    → found ≡ has flags flag → found ≡ is → has bits flag ≡ is
flag_known bits flags flag found is same told known =
    ap (λ b. has b flag) same ∙ sym told ∙ known

pub there_as : (target : List ℕ) (seen old : MountTable) (present : List (List ℕ))
    (found is : Bool) → seen ≡ old → present ≡ seen.present
    → found ≡ (is_absolute target && list_any (same_path target) present) → found ≡ is
    → is_there old target ≡ is
there_as target seen old present found is same p told known =
    ap (λ (t : MountTable). is_there t target) (sym same)
    ∙ ap (λ ps. is_absolute target && list_any (same_path target) ps) (sym p)
    ∙ sym told ∙ known

pub first_is : (a b : Bool) → a ≡ true → (a || b) ≡ true
first_is a b is = rw is refl

pub second_is : (a b : Bool) → b ≡ true → (a || b) ≡ true
second_is true b is = refl
second_is false b is = is

pub neither_is : (a b : Bool) → a ≡ false → b ≡ false → (a || b) ≡ false
neither_is a b first second = rw (first, second) refl

module _ (call : MountCall) (table : MountTable) where
  pub remounts : has call.flags (bits_of MS_REMOUNT) ≡ true
      → by_flags call table ≡ remount call table
  remounts is = if_true (has call.flags (bits_of MS_REMOUNT)) _ _ is

  pub binds : (source : List ℕ) → has call.flags (bits_of MS_REMOUNT) ≡ false
      → has call.flags (bits_of MS_BIND) ≡ true → call.source ≡ Some source
      → by_flags call table ≡ bind source call table
  binds source first is so =
      if_false (has call.flags (bits_of MS_REMOUNT)) _ _ first
      ∙ if_true (has call.flags (bits_of MS_BIND)) _ _ is
      ∙ ap (λ s. given s (λ source. bind source call table)) so

  pub moves : (source : List ℕ) → has call.flags (bits_of MS_REMOUNT) ≡ false
      → has call.flags (bits_of MS_BIND) ≡ false → has call.flags (bits_of MS_MOVE) ≡ true
      → call.source ≡ Some source → by_flags call table ≡ move_mount source call table
  moves source first second is so =
      if_false (has call.flags (bits_of MS_REMOUNT)) _ _ first
      ∙ if_false (has call.flags (bits_of MS_BIND)) _ _ second
      ∙ if_true (has call.flags (bits_of MS_MOVE)) _ _ is
      ∙ ap (λ s. given s (λ source. move_mount source call table)) so

  pub mounts_new : (fstype : List ℕ) → has call.flags (bits_of MS_REMOUNT) ≡ false
      → has call.flags (bits_of MS_BIND) ≡ false → has call.flags (bits_of MS_MOVE) ≡ false
      → call.fstype ≡ Some fstype → by_flags call table ≡ new_mount fstype call table
  mounts_new fstype first second third so =
      if_false (has call.flags (bits_of MS_REMOUNT)) _ _ first
      ∙ if_false (has call.flags (bits_of MS_BIND)) _ _ second
      ∙ if_false (has call.flags (bits_of MS_MOVE)) _ _ third
      ∙ ap (λ s. given s (λ fstype. new_mount fstype call table)) so

  pub mounts_nowhere : is_there table call.target ≡ false → mount call table ≡ Err ENOENT
  unfolding mount
  mounts_nowhere there = if_true (not (is_there table call.target)) _ _ (ap not there)

  pub mounts_forbidden : is_there table call.target ≡ true → table.permitted ≡ false
      → mount call table ≡ Err EPERM
  unfolding mount
  mounts_forbidden there forbidden =
      if_false (not (is_there table call.target)) _ _ (ap not there)
      ∙ if_true (not table.permitted) _ _ (ap not forbidden)

  pub mounts_empty : is_there table call.target ≡ true → table.permitted ≡ true
      → (is_empty_text call.source || is_empty_text call.fstype) ≡ true
      → mount call table ≡ Err EINVAL
  unfolding mount
  mounts_empty there permitted empty =
      if_false (not (is_there table call.target)) _ _ (ap not there)
      ∙ if_false (not table.permitted) _ _ (ap not permitted)
      ∙ if_true (is_empty_text call.source || is_empty_text call.fstype) _ _ empty

  pub mounts_by_flags : is_there table call.target ≡ true → table.permitted ≡ true
      → (is_empty_text call.source || is_empty_text call.fstype) ≡ false
      → mount call table ≡ by_flags call table
  unfolding mount
  mounts_by_flags there permitted texts =
      if_false (not (is_there table call.target)) _ _ (ap not there)
      ∙ if_false (not table.permitted) _ _ (ap not permitted)
      ∙ if_false (is_empty_text call.source || is_empty_text call.fstype) _ _ texts
