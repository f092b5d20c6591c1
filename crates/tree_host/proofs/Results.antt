-- What follows from a clause on one answer, and walks along the parts of a path.
use Rattle.std.proofs.Common.{◌≡◌, ℕ, Bool, true, false, cond, not, List, [], ◌∷◌, ◌++◌, length}
use Rattle.std.proofs.Common.{refl, sym, ap, ◌∙◌, subst, map, Option, Some, None, IsSome, Result}
use Rattle.std.proofs.Common.{Ok, Err, OnOk, OnErr}
use Rattle.std.specs.Prelude.{◌==◌, filter, option_map, IfErr}
use Rattle.std.proofs.lemmas.Bool.{false≢true}
use Rattle.std.specs.FinMap.{get}
use Rattle.port_base.specs.declared.errno.TheConstants.{ENOTDIR}
use Rattle.tree_model.specs.declared.attributes.HostError.{HostError}
use Rattle.tree_model.specs.declared.attributes.HostError.TheVariants.{Errno}
use Rattle.tree_host.specs.Host.{as_errno}
use Rattle.tree_model.specs.declared.attributes.TheConstants.{TOP}
use Rattle.tree_model.specs.Tree.{Tree, Record, Records, body_at, is_directory_at}
use Rattle.tree_model.specs.Finding.{walk_on, walk_step, walk_end, root_of, path_names}
use Rattle.tree_model.specs.Opening.{walk_to, found_at}
use Rattle.std.specs.Result.{result_ok}
use Rattle.std.specs.List.{slice_split}
use Rattle.tree_host.specs.Walking.{part_step, part_end, walk_parts, walk_of}

pub on_ok : {A E : Type 0} (r : Result A E) {P Q : Type 0} → OnOk r P → (P → Q) → OnOk r Q
on_ok (Ok a) h f = f h
on_ok (Err e) h f = tt

pub on_err : {A E : Type 0} (r : Result A E) {P Q : Type 0} → OnErr r P → (P → Q) → OnErr r Q
on_err (Ok a) h f = tt
on_err (Err e) h f = f h

-- what holds of both ends of a call that may find no memory holds of what it leaves
pub either_way : {A E X : Type 0} (r : Result A E) (P : X → Type 0) (now made old : X)
    → OnOk r (now ≡ made) → OnErr r (now ≡ old) → P made → P old → P now
either_way (Ok a) P now made old ok err there here = subst P (sym ok) there
either_way (Err e) P now made old ok err there here = subst P (sym err) here

-- ---- answers

pub told_ok : {A : Type 0} (told : Result A ℕ) (a : A) → Ok a ≡ as_errno told → told ≡ Ok a
told_ok (Ok b) a is = let same : a ≡ b = cc in ap (λ a. Ok a) (sym same)
told_ok (Err e) a is = absurd (cc)

-- a definition's refusal is an error number
pub errno_of : {A : Type 0} (r : Result A HostError) (told : Result A ℕ) → r ≡ as_errno told
    → IfErr r (λ e. (n : ℕ) × (e ≡ Errno n))
errno_of r (Ok a) is = subst (λ r. IfErr r (λ e. (n : ℕ) × (e ≡ Errno n))) (sym is) tt
errno_of r (Err e) is = subst (λ r. IfErr r (λ e. (n : ℕ) × (e ≡ Errno n))) (sym is) (e, refl)

-- ---- walks

-- where a walk ends is stored
pub root_is_stored : (t : Tree) (names : List (List ℕ)) (at : Result ℕ ℕ) (ino : ℕ)
    → walk_on t at names ≡ Ok ino → IsSome (get t.records ino)
root_is_stored t (name ∷ names) at ino is = root_is_stored t names (walk_step t name at) ino is
root_is_stored t [] (Err e) ino is = absurd (cc)
root_is_stored t [] (Ok i) ino is = by_test (is_directory_at (body_at t.records i)) refl is where
  by_record : (o : Option Record) → is_directory_at (option_map (λ (r : Record). r.body) o) ≡ true
      → IsSome o
  by_record None is = absurd (false≢true is)
  by_record (Some r) is = refl

  by_test : (b : Bool) → is_directory_at (body_at t.records i) ≡ b
      → cond b (Ok i) (Err ENOTDIR) ≡ Ok ino → IsSome (get t.records ino)
  by_test true plain is = subst (λ i. IsSome (get t.records i)) (let same : i ≡ ino = cc in same)
      (by_record (get t.records i) plain)
  by_test false plain is = absurd (cc)

pub walk_parts-push : {A : Type 0} (f : A → List ℕ) (rs : Records) (at : Result ℕ ℕ) (xs : List A)
    (y : A) → walk_parts rs at (map f (xs ++ y ∷ [])) ≡ part_step rs (f y)
    (walk_parts rs at (map f xs))
walk_parts-push f rs at [] y = refl
walk_parts-push f rs at (x ∷ xs) y = walk_parts-push f rs (part_step rs (f x) at) xs y

-- ---- empty parts lead nowhere else, so a walk along parts is one along names

part_end-walk_end : (t : Tree) (at : Result ℕ ℕ) → part_end t.records at ≡ walk_end t at
part_end-walk_end t (Ok i) = refl
part_end-walk_end t (Err e) = refl

empty_step : (t : Tree) (part : List ℕ) (at : Result ℕ ℕ) → (length part == 0) ≡ true
    → part_step t.records part at ≡ at
empty_step t part (Ok i) is = rw is refl
empty_step t part (Err e) is = refl

full_step : (t : Tree) (part : List ℕ) (at : Result ℕ ℕ) → (length part == 0) ≡ false
    → part_step t.records part at ≡ walk_step t part at
full_step t part (Ok i) is = rw is refl
full_step t part (Err e) is = refl

walk_on-parts : (t : Tree) (at : Result ℕ ℕ) (parts : List (List ℕ))
    → part_end t.records (walk_parts t.records at parts) ≡ walk_on t at
    (filter (λ part. not (length part == 0)) parts)
walk_on-parts t at [] = part_end-walk_end t at
walk_on-parts t at (part ∷ parts) = by_test (length part == 0) refl
    (λ at. walk_on-parts t at parts) where
      by_test : (b : Bool) → (length part == 0) ≡ b
          → ((at : Result ℕ ℕ) → part_end t.records (walk_parts t.records at parts) ≡ walk_on t at
          (filter (λ part. not (length part == 0)) parts))
          → part_end t.records (walk_parts t.records (part_step t.records part at) parts) ≡ walk_on
          t at
          (filter (λ part. not (length part == 0)) (part ∷ parts))
      by_test true is later = ap (λ at. part_end t.records (walk_parts t.records at parts))
          (empty_step t part at is) ∙ later at ∙ ap
          (λ b. walk_on t at (cond (not b) (part ∷ filter (λ part. not (length part == 0)) parts)
          (filter (λ part. not (length part == 0)) parts))) (sym is)
      by_test false is later = later (part_step t.records part at)
          ∙ ap (λ at. walk_on t at (filter (λ part. not (length part == 0)) parts))
          (full_step t part at is) ∙ ap (λ b. walk_on t at
          (cond (not b) (part ∷ filter (λ part. not (length part == 0)) parts)
          (filter (λ part. not (length part == 0)) parts))) (sym is)

pub walk_of-root_of : (t : Tree) (path : List ℕ)
    → walk_of t.records path ≡ root_of t (path_names path)
walk_of-root_of t path = walk_on-parts t (Ok TOP) (slice_split (λ b. b == 47) path)

-- ---- what stands at the end of a walk

walk_to-parts : (t : Tree) (at : Result ℕ ℕ) (parts : List (List ℕ))
    → walk_parts t.records at parts ≡ walk_to t at (filter (λ part. not (length part == 0)) parts)
walk_to-parts t at [] = refl
walk_to-parts t at (part ∷ parts) = by_test (length part == 0) refl
    (λ at. walk_to-parts t at parts) where
      by_test : (b : Bool) → (length part == 0) ≡ b
          → ((at : Result ℕ ℕ) → walk_parts t.records at parts ≡ walk_to t at
          (filter (λ part. not (length part == 0)) parts))
          → walk_parts t.records (part_step t.records part at) parts ≡ walk_to t at
          (filter (λ part. not (length part == 0)) (part ∷ parts))
      by_test true is later = ap (λ at. walk_parts t.records at parts) (empty_step t part at is)
          ∙ later at ∙ ap (λ b. walk_to t at (cond (not b)
          (part ∷ filter (λ part. not (length part == 0)) parts)
          (filter (λ part. not (length part == 0)) parts))) (sym is)
      by_test false is later = later (part_step t.records part at)
          ∙ ap (λ at. walk_to t at (filter (λ part. not (length part == 0)) parts))
          (full_step t part at is) ∙ ap (λ b. walk_to t at
          (cond (not b) (part ∷ filter (λ part. not (length part == 0)) parts)
          (filter (λ part. not (length part == 0)) parts))) (sym is)

-- an answer that is found, or none
pub found_by_ok : (t : Tree) (path : List ℕ) (ino : ℕ)
    → Ok ino ≡ as_errno (walk_parts t.records (Ok TOP) (slice_split (λ b. b == 47) path))
    → Some ino ≡ found_at t (path_names path)
found_by_ok t path ino is = sym (ap result_ok
    (sym (walk_to-parts t (Ok TOP) (slice_split (λ b. b == 47) path))
    ∙ told_ok (walk_parts t.records (Ok TOP) (slice_split (λ b. b == 47) path)) ino is))

pub found_by_err : (t : Tree) (path : List ℕ) (e : HostError)
    → Err e ≡ as_errno (walk_parts t.records (Ok TOP) (slice_split (λ b. b == 47) path))
    → None ≡ found_at t (path_names path)
found_by_err t path e is = none_told (walk_parts t.records (Ok TOP)
    (slice_split (λ b. b == 47) path)) e is ∙ ap result_ok
    (walk_to-parts t (Ok TOP) (slice_split (λ b. b == 47) path)) where
      none_told : (told : Result ℕ ℕ) (e : HostError) → Err e ≡ as_errno told
          → None ≡ result_ok told
      none_told (Ok a) e is = absurd (cc)
      none_told (Err n) e is = refl
