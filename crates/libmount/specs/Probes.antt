-- The system around a mount, and how it is told.
use Rattle.std.specs.Prelude.{◌≡◌, ℕ, List, Bool, true, false, Option, Some, None, Result, Ok, Err}
use Rattle.std.specs.Prelude.{◌⊎◌, ◌++◌, codes, Vec}
use Rattle.std.specs.Global.{Global}
use Rattle.libmount.specs.declared.probe.ProbeFault.{ProbeFault}
use Rattle.libmount.specs.declared.probe.ProbeFault.TheVariants.{Fault, NoMemory}
use Rattle.libmount.specs.declared.probe.User.{User}
use Rattle.libmount.specs.declared.probe.User.TheVariants.{Regular, RootIdentity, RootMapped}
use Rattle.libmount.specs.declared.probe.User.TheVariants.{RootUnreadable}
use Rattle.libmount.specs.Mounters.{Calls, FaultedIn}

-- what there is: paths, their devices, the user and the current directory
pub record Facts : Type 0 where
  pub exists : List ℕ → Bool
  pub device : List ℕ → Option ℕ
  pub user : User
  pub dir : List ℕ

-- an answer is the fact that a view gives, where facts are told
abbrev pub IsFact : {A : Type 0} → Option Facts → (Facts → A) → A → Type 0
IsFact None view answer = Unit {0}
IsFact (Some facts) view answer = answer ≡ view facts

-- an answer is the fact, or the one that a fault has
pub record ToldBy {A : Type 0} (facts : Option Facts) (view : Facts → A) (fault answer : A)
    (old new : Calls) : Type 0 where
  pub answered : (IsFact facts view answer × (new ≡ old)) ⊎ ((answer ≡ fault) × FaultedIn old new)

-- an answer made of many is the fact, or a fault was counted
pub record Explains {A : Type 0} (facts : Option Facts) (view : Facts → A) (answer : A)
    (old new : Calls) : Type 0 where
  pub answered : (IsFact facts view answer × (new ≡ old)) ⊎ FaultedIn old new

-- a text grows by the fact that a view gives, or a fault was counted
abbrev pub Tells : Option Facts → (Facts → List ℕ) → List ℕ → List ℕ → Calls → Calls → Type 0
Tells facts text before after old new = Explains facts (λ w. before ++ text w) after old new

abbrev pub TextBy : Option Facts → (Facts → List ℕ) → Result (Vec ℕ Global) ProbeFault → Calls
    → Calls → Type 0
TextBy facts view (Ok text) old new = IsFact facts view text.items × (new ≡ old)
TextBy facts view (Err Fault) old new = FaultedIn old new
TextBy facts view (Err NoMemory) old new = new ≡ old

-- a text is the fact, or a fault was counted
pub record ToldOrFault (facts : Option Facts) (view : Facts → List ℕ)
    (result : Result (Vec ℕ Global) ProbeFault) (old new : Calls) : Type 0 where
  pub answered : TextBy facts view result old new

abbrev pub exists_text : Bool → List ℕ
exists_text true = codes "exists"
exists_text false = codes "missing"

abbrev pub user_text : User → List ℕ
user_text Regular = codes "regular-user"
user_text RootIdentity = codes "superuser"
user_text RootMapped = codes "mapped-root"
user_text RootUnreadable = codes "privileged"
