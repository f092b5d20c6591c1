-- How many fids name an inode, when a fid comes, changes or goes.
use Rattle.std.proofs.Common.{◌≡◌, ℕ, ◌+◌, ◌<◌, ◌≤◌, List, [], ◌∷◌, length, ap, Some, None, arith}
use Rattle.std.proofs.lemmas.Bool.Decides.{nat_tests}
use Rattle.std.specs.FinMap.{get, insert, remove, entries, len, len-entries}
use Rattle.tree_model.specs.Tree.{weigh, weight}
use Rattle.tree_model.proofs.Counting.{weigh-insert, weigh-remove}
use Rattle.fid_model.specs.Fids.{Fids, Fid, fid_weight, fid_count}

weigh-few : (i : ℕ) (es : List (ℕ × Fid)) → weigh (fid_weight i) es ≤ length es
weigh-few i [] = omega arith
weigh-few i (e ∷ es) =
    let rest = weigh-few i es in
    let one : fid_weight i e.1 ≤ 1 = grind (arith, nat_tests) in
    omega arith

-- no inode is named by more fids than there are
pub fid_count-few : (fids : Fids) (i : ℕ) → fid_count fids i ≤ len fids
fid_count-few fids i = let few = weigh-few i (entries fids) in let same =
    len-entries fids in omega arith

-- a fid that is new, or names another inode now
pub fid_count-insert : (fids : Fids) (n : ℕ) (f : Fid) (i : ℕ)
    → fid_count (insert fids n f) i + weight (fid_weight i) (get fids n) ≡ fid_count fids i
    + fid_weight i f
fid_count-insert fids n f i = weigh-insert (fid_weight i) fids n f

pub fid_count-new : (fids : Fids) (n : ℕ) (f : Fid) → get fids n ≡ None → (i : ℕ)
    → fid_count (insert fids n f) i ≡ fid_count fids i + fid_weight i f
fid_count-new fids n f none i =
    let step = fid_count-insert fids n f i in
    let old = ap (weight (fid_weight i)) none in
    omega arith

pub fid_count-replaced : (fids : Fids) (n : ℕ) (f g : Fid) → get fids n ≡ Some g → (i : ℕ)
    → fid_count (insert fids n f) i + fid_weight i g ≡ fid_count fids i + fid_weight i f
fid_count-replaced fids n f g at i =
    let step = fid_count-insert fids n f i in
    let old = ap (weight (fid_weight i)) at in
    omega arith

pub fid_count-gone : (fids : Fids) (n : ℕ) (f : Fid) → get fids n ≡ Some f → (i : ℕ)
    → fid_count (remove fids n) i + fid_weight i f ≡ fid_count fids i
fid_count-gone fids n f at i = weigh-remove (fid_weight i) fids n f at

own_weight : (f : Fid) → fid_weight f.ino f ≡ 1
own_weight f = grind (arith, nat_tests)

-- an inode that a fid names is held
pub fid_count-named : (fids : Fids) (n : ℕ) (f : Fid) → get fids n ≡ Some f
    → 0 < fid_count fids f.ino
fid_count-named fids n f at =
    let step = fid_count-gone fids n f at f.ino in
    let one = own_weight f in
    omega arith
