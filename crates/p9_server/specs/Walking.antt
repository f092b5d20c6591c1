-- What is found in a host's tree, and the holds that finding takes.
use Rattle.std.specs.Prelude.{◌≡◌, ℕ, zero, suc, ◌<◌, ◌≤◌, Bool, cond, ◌==◌, List, length, Result}
use Rattle.std.specs.Prelude.{Ok, Err, ⊤}
use Rattle.tree_model.specs.Tree.{Tree}
use Rattle.tree_model.specs.Attributes.{Qid, stat_of}
use Rattle.tree_model.specs.declared.attributes.Attr.{Attr}
use Rattle.tree_model.specs.declared.attributes.HostError.{HostError}
use Rattle.tree_model.specs.declared.attributes.HostError.TheVariants.{Errno, Fault, NoMemory}
use Rattle.tree_host.specs.Calls.{Calls, Causes}
use Rattle.fid_model.specs.Answers.{walk_names}
use Rattle.fid_model.specs.Handling.{IsFrontOfWalk}

-- a fault is counted, and no other answer is
abbrev pub Counts : {A : Type 0} → Calls → Calls → Result A HostError → Type 0
Counts old new result = Causes old.steady old.faults new.faults result

abbrev pub FindsBy : Tree → Result ℕ ℕ → Result Attr HostError → Type 0
FindsBy t told (Ok a) = (told ≡ Ok a.ino) × (stat_of t a.ino ≡ Ok a)
FindsBy t told (Err (Errno e)) = told ≡ Err e
FindsBy t told (Err Fault) = ⊤
FindsBy t told (Err NoMemory) = ⊤

-- an inode that a definition finds, and what is told of it; or its refusal
pub record Finds (t : Tree) (told : Result ℕ ℕ) (result : Result Attr HostError) : Type 0 where
  pub exactly : FindsBy t told result

-- the hold that a walk of so many names has taken, of the inode where it stands
abbrev pub own_hold : ℕ → ℕ → ℕ → ℕ
own_hold zero at i = 0
own_hold (suc n) at i = cond (at == i) 1 0

abbrev pub WalksBy : Bool → Tree → List (List ℕ) → ℕ → List Qid → Result ℕ HostError → Type 0
WalksBy casefold t names start qids (Ok at) = (qids ≡ (walk_names casefold t names start).0)
    × ((walk_names casefold t names start).1 ≡ Ok at)
WalksBy casefold t names start qids (Err (Errno e)) = (qids ≡ (walk_names casefold t names start).0)
    × ((walk_names casefold t names start).1 ≡ Err e)
WalksBy casefold t names start qids (Err Fault) = 1 ≤ length qids → (length qids < length names)
    × IsFrontOfWalk casefold t names start qids
WalksBy casefold t names start qids (Err NoMemory) = ⊤

-- the whole walk, or a front of it up to its first refusal or a fault
pub record Walks (casefold : Bool) (t : Tree) (names : List (List ℕ)) (start : ℕ) (qids : List Qid)
    (result : Result ℕ HostError) : Type 0 where
  pub exactly : WalksBy casefold t names start qids result
