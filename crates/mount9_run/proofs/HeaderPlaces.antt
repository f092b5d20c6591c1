-- Where the paths of a header lead, and the names that they end by.
use Rattle.std.proofs.Common.{◌≡◌, ◌≢◌, ℕ, zero, suc, ◌+◌, ◌-◌, ◌<◌, ◌≤◌, Bool, true, false, cond}
use Rattle.std.proofs.Common.{List, [], ◌∷◌, ◌++◌, length, take, drop, IsSome, Option, Some, None}
use Rattle.std.proofs.Common.{Result, Ok, Err, refl, sym, ap, ◌∙◌, subst, arith, option_map, ◌&&◌}
use Rattle.std.proofs.Common.{◌||◌, not, get_or}
use Rattle.std.specs.Prelude.{slice_index, ◌==◌, is_none, nat_le}
use Rattle.std.specs.Result.{result_ok}
use Rattle.std.specs.FinMap.{get}
use Rattle.std.specs.List.{slice_split, list_all, onto_first}
use Rattle.std.specs.Path.{rfind_below}
use Rattle.std.specs.Str.{is_utf8}
use Rattle.std.proofs.lemmas.Bool.{false≢true}
use Rattle.std.proofs.lemmas.Bool.Decides.{nat_tests}
use Rattle.std.proofs.Math.Seq.{split_at}
use Rattle.std.proofs.lemmas.List.{get_or-drop, get_or_default, length-drop, take_rest}
use Rattle.std.proofs.lemmas.List.Splits.{slice_split_none, length-slice_split}
use Rattle.port_base.specs.Names.{name_fault}
use Rattle.port_base.specs.Paths.{is_slash, are_joined_names, is_rooted_path}
use Rattle.tree_model.specs.declared.attributes.TheConstants.{TOP}
use Rattle.tree_model.specs.Tree.{Tree, Record, is_directory_at}
use Rattle.tree_model.specs.Good.{IsGoodTarget, IsGoodTree}
use Rattle.tree_model.specs.Finding.{path_names, walk_step}
use Rattle.tree_model.specs.Opening.{walk_to, found_at, at_path}
use Rattle.tree_model.proofs.Naming.{found_is_named, named_is_stored}
use Rattle.mount9_run.specs.HeaderRecords.{is_record_path, is_target}
use Rattle.mount9_run.specs.Paths.{is_root}
use Rattle.mount9_run.specs.declared.path.TheConstants.{PATH_LIMIT}

-- ---- what a path leads to is stored

stored_step : (t : Tree) → IsGoodTree t → (name : List ℕ) (at : Result ℕ ℕ) (i : ℕ)
    → walk_step t name at ≡ Ok i → IsSome (get t.records i)
stored_step t g name (Err e) i is = absurd cc
stored_step t g name (Ok d) i is = named_is_stored t g i (found_is_named false t d name i is)

walk_is_stored : (t : Tree) → IsGoodTree t → (names : List (List ℕ)) (at : Result ℕ ℕ)
    → ((i : ℕ) → at ≡ Ok i → IsSome (get t.records i)) → (j : ℕ) → walk_to t at names ≡ Ok j
    → IsSome (get t.records j)
walk_is_stored t g [] at had j is = had j is
walk_is_stored t g (name ∷ names) at had j is =
    walk_is_stored t g names (walk_step t name at) (λ i e. stored_step t g name at i e) j is

by_record : (o : Option Record) → is_directory_at (option_map (λ (r : Record). r.body) o) ≡ true
    → IsSome o
by_record None is = absurd (false≢true is)
by_record (Some r) is = refl

ok_from : (r : Result ℕ ℕ) (j : ℕ) → result_ok r ≡ Some j → r ≡ Ok j
ok_from (Ok i) j is = let same : i ≡ j = cc in ap (λ k. Ok k) same
ok_from (Err e) j is = absurd cc

same_number : (i j : ℕ) → ◌≡◌ {A = Result ℕ ℕ} (Ok i) (Ok j) → i ≡ j
same_number i j is = cc

named_is_there : (t : Tree) → IsGoodTree t → (names : List (List ℕ)) (j : ℕ)
    → found_at t names ≡ Some j → IsSome (get t.records j)
named_is_there t g names j is =
    walk_is_stored t g names (Ok TOP) (λ i e. subst (λ k. IsSome (get t.records k))
    (same_number TOP i e) (by_record (get t.records TOP) g.top_is_directory)) j
    (ok_from (walk_to t (Ok TOP) names) j is)

by_form : (t : Tree) → IsGoodTree t → (b : Bool) (names : List (List ℕ)) (j : ℕ)
    → cond b (found_at t names) None ≡ Some j → IsSome (get t.records j)
by_form t g true names j is = named_is_there t g names j is
by_form t g false names j is = absurd cc

pub found_is_stored : (t : Tree) → IsGoodTree t → (path : List ℕ) (j : ℕ) → at_path t path ≡ Some j
    → IsSome (get t.records j)
found_is_stored t g path j is = by_form t g (is_rooted_path path) (path_names path) j is

-- ---- the name behind the last slash has no fault

record IsLast (text : List ℕ) (n i : ℕ) : Type 0 where
  below : i < n
  is : slice_index text i ≡ 47
  behind : (k : ℕ) → i < k → k < n → (slice_index text k == 47) ≡ false

module _ (text : List ℕ) (n i : ℕ) where
  -- the last byte is no slash
  one_more : (slice_index text n == 47) ≡ false → IsLast text n i → (k : ℕ) (b : Bool)
      → (k == n) ≡ b → i < k → k < suc n → (slice_index text k == 47) ≡ false
  one_more test h k true at more less = subst (λ m. (slice_index text m == 47) ≡ false)
      (let same : n ≡ k = grind (arith, nat_tests) in same) test
  one_more test h k false at more less = h.behind k more (grind (arith, nat_tests))

  last_by : (rfind_below 47 text n ≡ Some i → IsLast text n i) → (b : Bool)
      → (slice_index text n == 47) ≡ b → cond b (Some n) (rfind_below 47 text n) ≡ Some i
      → IsLast text (suc n) i
  last_by later true test found =
      let same : n ≡ i = cc in
      record {
        below = omega (arith, same);
        is = ap (slice_index text) (sym same) ∙ (grind (arith, nat_tests));
        behind = λ k more less. absurd (omega (arith, same, more, less));
      }
  last_by later false test found =
      let h = later found in
      record {
        below = (let b = h.below in omega arith);
        is = h.is;
        behind = λ k more less. one_more test h k (k == n) refl more less;
      }

last_of : (text : List ℕ) (n i : ℕ) → rfind_below 47 text n ≡ Some i → IsLast text n i
last_of text zero i is = absurd cc
last_of text (suc n) i is = last_by text n i (last_of text n i) (slice_index text n == 47) refl is

and_left : (a b : Bool) → (a && b) ≡ true → a ≡ true
and_left true b h = refl
and_left false b h = absurd (false≢true h)

and_right : (a b : Bool) → (a && b) ≡ true → b ≡ true
and_right true b h = h
and_right false b h = absurd (false≢true h)

or_right : (a b : Bool) → not a ≡ true → (a || b) ≡ true → b ≡ true
or_right true b n h = absurd (false≢true n)
or_right false b n h = h

module _ (p : ℕ → Bool) (ok : List ℕ → Bool) where
  -- the parts but for the first
  rest_by : (x : ℕ) (parts : List (List ℕ)) (b : Bool) → 0 < length parts
      → list_all ok (drop 1 (cond b ([] ∷ parts) (onto_first x parts))) ≡ true
      → list_all ok (drop 1 parts) ≡ true
  rest_by x [] b some h = absurd (omega arith)
  rest_by x (part ∷ parts) true some h = and_right (ok part) (list_all ok parts) h
  rest_by x (part ∷ parts) false some h = h

  -- where all parts but the first are fine, so are those behind a cut
  parts_behind : (xs : List ℕ) (y : ℕ) (ys : List ℕ) → p y ≡ true
      → list_all ok (drop 1 (slice_split p (xs ++ y ∷ ys))) ≡ true
      → list_all ok (slice_split p ys) ≡ true
  parts_behind [] y ys cut h = sym (ap (λ (b : Bool). list_all ok
      (drop 1 (cond b ([] ∷ slice_split p ys) (onto_first y (slice_split p ys))))) cut) ∙ h
  parts_behind (x ∷ xs) y ys cut h = parts_behind xs y ys cut
      (rest_by x (slice_split p (xs ++ y ∷ ys)) (p x)
      (omega (arith, length-slice_split p (xs ++ y ∷ ys))) h)

is_fine : List ℕ → Bool
is_fine part = is_none (name_fault part)

none_of : (o : Option ℕ) → is_none o ≡ true → o ≡ None
none_of None h = refl
none_of (Some e) h = absurd (false≢true h)

-- all parts behind the leading slash are fine
joined : (path : List ℕ) → is_record_path path ≡ true
    → list_all (λ part. is_none (name_fault part)) (drop 1 (slice_split is_slash path)) ≡ true
joined path h = by_first path (and_left (is_slash (slice_index path 0)) _ rooted)
    (or_right (length path == 1) _ (and_right (is_root path) _ h)
    (and_right (is_slash (slice_index path 0)) _ rooted)) where
      rooted : (is_slash (slice_index path 0) &&
          ((length path == 1) || are_joined_names (drop 1 path)))
          ≡ true
      rooted = and_right (nat_le (length path) PATH_LIMIT) _ (and_left (is_root path) _ h)

      by_first : (xs : List ℕ) → is_slash (slice_index xs 0) ≡ true
          → are_joined_names (drop 1 xs) ≡ true → list_all (λ part. is_none (name_fault part))
          (drop 1 (slice_split is_slash xs)) ≡ true
      by_first [] slash names = absurd (false≢true slash)
      by_first (x ∷ xs) slash names = ap (λ (b : Bool). list_all (λ part. is_none (name_fault part))
          (drop 1 (cond b ([] ∷ slice_split is_slash xs) (onto_first x (slice_split is_slash xs)))))
          slash ∙ names

behind_last : (path : List ℕ) (i : ℕ) → is_record_path path ≡ true → IsLast path (length path) i
    → name_fault (drop (suc i) path) ≡ None
behind_last path i form last =
    let cut : path ≡ take i path ++ slice_index path i ∷ drop (suc i) path =
    split_at path i 0 last.below in
    let slash : is_slash (slice_index path i) ≡ true = ap (λ b. b == 47) last.is in
    let whole = subst (λ (xs : List ℕ). list_all (λ part. is_none (name_fault part))
    (drop 1 (slice_split is_slash xs)) ≡ true) cut (joined path form) in
    let fine = parts_behind is_slash (λ part. is_none (name_fault part)) (take i path)
    (slice_index path i) (drop (suc i) path) slash whole in
    let alone : slice_split is_slash (drop (suc i) path) ≡ drop (suc i) path ∷ [] =
    slice_split_none is_slash (drop (suc i) path) (λ k d less. no_slash k d less) in
    none_of _ (and_left _ true (sym (ap (list_all (λ part. is_none (name_fault part))) alone)
    ∙ fine)) where
      no_slash : (k d : ℕ) → k < length (drop (suc i) path)
          → is_slash (get_or (drop (suc i) path) k d) ≡ false
      no_slash k d less =
          let within : suc i + k < length path =
          omega (arith, less, length-drop (suc i) path, last.below) in
          ap is_slash (get_or-drop (suc i) path k d ∙ get_or_default path (suc i + k) d 0 within)
          ∙ last.behind (suc i + k) (omega arith) within

-- the same of what the code takes behind the slash
pub name_behind : (path : List ℕ) (i : ℕ) → is_record_path path ≡ true
    → Some i ≡ rfind_below 47 path (length path)
    → name_fault (take (length path - (i + 1)) (drop (i + 1) path)) ≡ None
name_behind path i form at =
    let one : suc i ≡ i + 1 = omega arith in
    let fine : name_fault (drop (i + 1) path) ≡ None =
    subst (λ k. name_fault (drop k path) ≡ None) one
    (behind_last path i form (last_of path (length path) i (sym at))) in
    ap name_fault (take_rest path (i + 1)) ∙ fine

-- ---- targets

-- a text that passes the test is a target
pub target_in_range : (text : List ℕ) → is_target text ≡ true → IsGoodTarget text
target_in_range text h =
    let some = and_left (nat_le 1 (length text)) _ h in
    let more = and_right (nat_le 1 (length text)) _ h in
    let few = and_left (nat_le (length text) 4000) _ more in
    let last = and_right (nat_le (length text) 4000) _ more in (
      grind (arith, nat_tests),
      grind (arith, nat_tests),
      and_left (is_utf8 text) _ last,
      and_right
          (is_utf8 text) _ last,
    )
