-- What the calls of a host promise.
use Rattle.std.specs.Prelude.{◌≡◌, ℕ, ◌<◌, ◌≤◌, List, length, take, drop, Some, Result, Ok, Err, ⊤}
use Rattle.std.specs.FinMap as map
use Rattle.tree_model.specs.declared.attributes.HostError.{HostError}
use Rattle.tree_model.specs.declared.attributes.HostError.TheVariants.{Errno, Fault, NoMemory}
use Rattle.tree_model.specs.Tree.{Tree}
use Rattle.tree_model.specs.Sound.{IsKept, AreStored}
use Rattle.tree_host.specs.Holds.{Holds, is_held}

-- a record is stored exactly where it is linked or held, and no count of holds is 0
pub record IsHeldIn (t : Tree) (h : Holds) : Type 0 where
  pub kept : IsKept t.records (is_held h)
  pub stored : AreStored t.records (is_held h)
  pub positive : (i n : ℕ) → map.get h i ≡ Some n → 0 < n

-- ---- answers

abbrev pub AnswersBy : {A : Type 0} → Result A ℕ → Result A HostError → Type 0
AnswersBy told (Ok a) = told ≡ Ok a
AnswersBy told (Err (Errno e)) = told ≡ Err e
AnswersBy told (Err Fault) = ⊤
AnswersBy told (Err NoMemory) = ⊤

-- an answer, or a refusal, is the one that a definition gives
pub record Answers {A : Type 0} (told : Result A ℕ) (result : Result A HostError) : Type 0 where
  pub exactly : AnswersBy told result

-- a definition's answer, as a call gives it
abbrev pub as_errno : {A : Type 0} → Result A ℕ → Result A HostError
as_errno (Ok a) = Ok a
as_errno (Err e) = Err (Errno e)

abbrev pub LeavesBy : {A : Type 0} → Result (A × Tree) ℕ → Tree → Tree → Result A HostError → Type 0
LeavesBy told old new (Ok a) = told ≡ Ok (a, new)
LeavesBy told old new (Err (Errno e)) = (told ≡ Err e) × (new ≡ old)
LeavesBy told old new (Err Fault) = new ≡ old
LeavesBy told old new (Err NoMemory) = new ≡ old

-- an answer and the new tree, or a refusal, are those that a definition gives; after every error
-- the tree is as it was
pub record Leaves {A : Type 0} (told : Result (A × Tree) ℕ) (old new : Tree)
    (result : Result A HostError) : Type 0 where
  pub exactly : LeavesBy told old new result

abbrev pub ReadsBy : Result (List ℕ) ℕ → List ℕ → List ℕ → Result ℕ HostError → Type 0
ReadsBy told old new (Ok n) = (told ≡ Ok (take n new)) × (n ≤ length new)
    × (drop n new ≡ drop n old)
ReadsBy told old new (Err (Errno e)) = (told ≡ Err e) × (new ≡ old)
ReadsBy told old new (Err Fault) = new ≡ old
ReadsBy told old new (Err NoMemory) = new ≡ old

-- the bytes that a definition gives stand at the front of a buffer, whose rest is as it was; or
-- the refusal is the definition's
pub record Reads (told : Result (List ℕ) ℕ) (old new : List ℕ) (result : Result ℕ HostError) : Type
    0 where
  pub exactly : ReadsBy told old new result
