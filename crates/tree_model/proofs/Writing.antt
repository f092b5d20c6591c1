-- Bytes that are written piece by piece are written as one.
use Rattle.std.proofs.Common.{◌≡◌, ℕ, zero, suc, ◌+◌, ◌-◌, ◌≤◌, List, [], ◌∷◌, ◌++◌, length, take}
use Rattle.std.proofs.Common.{drop, replicate}
use Rattle.std.proofs.Common.{refl, sym, ap, ◌∙◌, arith, append_assoc, append-nil, length-append}
use Rattle.std.proofs.Common.{length-take, length-drop}
use Rattle.std.proofs.lemmas.List.{take_at, drop_at, drop-drop, take-append-le, take_all}
use Rattle.std.proofs.Common.{Bool, true, false, cond, not, ◌&&◌, Option, Some, None, Result, Ok}
use Rattle.std.proofs.Common.{Err, ◌<◌}
use Rattle.std.proofs.Common.{⊎_elim, nat_le}
use Rattle.std.specs.Prelude.{◌==◌, option_map}
use Rattle.std.specs.FinMap.{get}
use Rattle.std.proofs.lemmas.Bool.{cases_eq}
use Rattle.std.proofs.lemmas.Bool.Decides.{nat_tests}
use Rattle.std.proofs.Math.Seq.{take-append-add}
use Rattle.port_base.specs.declared.errno.TheConstants.{EFBIG}
use Rattle.tree_model.specs.declared.attributes.Stamp.{Stamp}
use Rattle.tree_model.specs.Attributing.{resized, written, with_bytes, rewritten_at, with_changed}
use Rattle.tree_model.specs.Attributing.{overwritten_at, fitting, write_of, write_refused}
use Rattle.tree_model.specs.Attributing.{refused_at}
use Rattle.tree_model.specs.Making.{change, unless_refused}
use Rattle.tree_model.specs.Tree.{Tree, Record, Records, Body, body_at}
use Rattle.tree_model.specs.Tree.Body.{File, Directory, Link}
use Rattle.tree_model.proofs.Changing.{change_at, change_keeps}
use Rattle.tree_model.proofs.Maps.{same_gets}
use Rattle.tree_model.proofs.Rewriting.{length_resized}

-- what is long enough is only cut
cut_alone : (len : ℕ) (bytes : List ℕ) → len ≤ length bytes → resized len bytes ≡ take len bytes
cut_alone len bytes long =
    let none : len - length bytes ≡ 0 = omega arith in
    ap (λ k. take len bytes ++ replicate {A = ℕ} k 0) none ∙ append-nil (take len bytes)

module _ (offset : ℕ) (xs ys old : List ℕ) where
  abbrev front : List ℕ
  front = resized offset old ++ xs

  front_length : length front ≡ offset + length xs
  front_length = let both = length-append (resized offset old) xs in
      let one = length_resized offset old in omega arith

  pub written_twice : written (offset + length xs) ys (written offset xs old)
      ≡ written offset (xs ++ ys) old
  written_twice =
      let rest = drop (offset + length xs) old in
      let first : resized (offset + length xs) (front ++ rest) ≡ front =
      cut_alone (offset + length xs) (front ++ rest)
      (let all = length-append front rest in let long = front_length in omega arith)
      ∙ take_at front rest (offset + length xs) front_length in
      let last : drop (offset + length xs + length ys) (front ++ rest)
      ≡ drop (offset + length (xs ++ ys)) old =
      sym (drop-drop (length ys) (offset + length xs) (front ++ rest))
      ∙ ap (drop (length ys)) (drop_at front rest (offset + length xs) front_length)
      ∙ drop-drop (length ys) (offset + length xs) old
      ∙ ap (λ k. drop k old) (let both = length-append xs ys in omega arith) in
      (λ j. first j ++ ys ++ last j)
      ∙ ap (λ l. l ++ drop (offset + length (xs ++ ys)) old)
      (append_assoc (resized offset old) xs ys)

-- ---- records

-- one record changed twice
pub change_twice : (f h : Record → Record) (rs : Records) (i : ℕ)
    → change h (change f rs i) i ≡ change (λ r. h (f r)) rs i
change_twice f h rs i = same_gets (change h (change f rs i) i) (change (λ r. h (f r)) rs i)
    (λ q. ⊎_elim
    (λ is. at q is)
    (λ ne. change_keeps h (change f rs i) i q ne ∙ change_keeps f rs i q ne
    ∙ sym (change_keeps (λ r. h (f r)) rs i q ne))
    (cases_eq q i)) where
      twice : (o : Option Record) → option_map h (option_map f o) ≡ option_map (λ r. h (f r)) o
      twice None = refl
      twice (Some r) = refl

      at_it : get (change h (change f rs i) i) i ≡ get (change (λ r. h (f r)) rs i) i
      at_it = change_at h (change f rs i) i ∙ ap (option_map h) (change_at f rs i)
          ∙ twice (get rs i) ∙ sym (change_at (λ r. h (f r)) rs i)

      at : (q : ℕ) → q ≡ i → get (change h (change f rs i) i) q
          ≡ get (change (λ r. h (f r)) rs i) q
      at q is = ap (get (change h (change f rs i) i)) is ∙ at_it
          ∙ sym (ap (get (change (λ r. h (f r)) rs i)) is)

module _ (moment : Stamp) (offset : ℕ) (xs ys : List ℕ) where
  bytes_twice : (b : Body) → with_bytes (written (offset + length xs) ys)
      (with_bytes (written offset xs) b) ≡ with_bytes (written offset (xs ++ ys)) b
  bytes_twice (File bytes) = ap File (written_twice offset xs ys bytes)
  bytes_twice (Directory es next above) = refl
  bytes_twice (Link target) = refl

  pub rewritten_twice : (r : Record)
      → rewritten_at moment (written (offset + length xs) ys)
      (rewritten_at moment (written offset xs) r)
      ≡ rewritten_at moment (written offset (xs ++ ys)) r
  rewritten_twice r = ap (λ (b : Body). let x : Record =
      record r { body = b; mtime = moment; ctime = moment } in x) (bytes_twice r.body)

-- what a change leaves as it is
change_none : (h : Record → Record) (rs : Records) (i : ℕ) → ((r : Record) → h r ≡ r)
    → change h rs i ≡ rs
change_none h rs i same = same_gets (change h rs i) rs (λ q. ⊎_elim
    (λ is. ap (get (change h rs i)) is ∙ change_at h rs i ∙ mapped (get rs i)
    ∙ sym (ap (get rs) is))
    (λ ne. change_keeps h rs i q ne)
    (cases_eq q i)) where
      mapped : (o : Option Record) → option_map h o ≡ o
      mapped None = refl
      mapped (Some r) = ap Some (same r)

-- ---- a write, and one behind it

-- so many bytes more, or none
abbrev pub more : ℕ → Tree → Result (ℕ × Tree) ℕ → Result (ℕ × Tree) ℕ
more count u (Ok (n, v)) = Ok (count + n, v)
more count u (Err e) = Ok (count, u)

abbrev written_by : ℕ → ℕ → List ℕ → Tree → ℕ → Result (ℕ × Tree) ℕ
written_by limit place new t ino =
    unless_refused (cond (not (length new == 0) && nat_le limit place) (Some EFBIG) None)
    (length (fitting limit place new))
    (with_changed (overwritten_at t.moment place (fitting limit place new)) ino t)

of_file : (t : Tree) (ino place : ℕ) (new bytes : List ℕ)
    → body_at t.records ino ≡ Some (File bytes)
    → write_of t ino place new ≡ written_by t.limits.file place new t ino
of_file t ino place new bytes is = ap (λ (o : Option Body). unless_refused
    (refused_at (write_refused t.limits.file place new) o)
    (length (fitting t.limits.file place new))
    (with_changed (overwritten_at t.moment place (fitting t.limits.file place new)) ino t)) is

module _ (t : Tree) (ino place : ℕ) (xs ys bytes : List ℕ)
    (file : body_at t.records ino ≡ Some (File bytes)) (some : 1 ≤ length xs)
    (fits : place + length xs ≤ t.limits.file) where
  abbrev limit : ℕ
  limit = t.limits.file

  abbrev u : Tree
  u = with_changed (rewritten_at t.moment (written place xs)) ino t

  abbrev zs : List ℕ
  zs = take (limit - (place + length xs)) ys

  file_then : body_at u.records ino ≡ Some (File (written place xs bytes))
  file_then = ap (option_map (λ (r : Record). r.body))
      (change_at (rewritten_at t.moment (written place xs)) t.records ino)
      ∙ by_record (get t.records ino) file where
        by_record : (o : Option Record) → option_map (λ (r : Record). r.body) o ≡ Some (File bytes)
            → option_map (λ (r : Record). r.body)
            (option_map (rewritten_at t.moment (written place xs)) o)
            ≡ Some (File (written place xs bytes))
        by_record None is = absurd cc
        by_record (Some r) is = let same : r.body ≡ File bytes = cc in
            ap (λ (b : Body). Some (with_bytes (written place xs) b)) same

  fitting_is : fitting limit place (xs ++ ys) ≡ xs ++ zs
  fitting_is =
      let room : limit - place ≡ length xs + (limit - (place + length xs)) = omega arith in
      ap (λ n. take n (xs ++ ys)) room
      ∙ take-append-add xs ys (limit - (place + length xs))

  -- both together
  whole : write_of t ino place (xs ++ ys)
      ≡ Ok (length xs + length zs, with_changed (rewritten_at t.moment (written place (xs ++ zs))) ino t)
  whole =
      let long = length-append xs ys in
      let there : (length (xs ++ ys) == 0) ≡ false = grind (arith, nat_tests) in
      let low : nat_le limit place ≡ false = grind (arith, nat_tests) in
      let long_zs = length-append xs zs in
      let not_none : (length (xs ++ zs) == 0) ≡ false = grind (arith, nat_tests) in
      of_file t ino place (xs ++ ys) bytes file
      ∙ (λ j. unless_refused (cond (not (there j) && low j) (Some EFBIG) None)
      (length (fitting_is j))
      (with_changed (overwritten_at t.moment place (fitting_is j)) ino t))
      ∙ (λ j. Ok (
        long_zs j,
        with_changed (λ r. cond (not_none j) r
            (rewritten_at t.moment (written place (xs ++ zs)) r)) ino t,
      ))

  -- the second of them
  behind : write_of u ino (place + length xs) ys
      ≡ written_by limit (place + length xs) ys u ino
  behind = of_file u ino (place + length xs) ys (written place xs bytes) file_then

  once : (n : ℕ) → n ≡ length zs → length zs ≡ 0
      → with_changed (rewritten_at t.moment (written place (xs ++ zs))) ino t ≡ u
  once n is none = ap (λ (l : List ℕ). with_changed (rewritten_at t.moment (written place l)) ino t)
      (ap (λ (l : List ℕ). xs ++ l) (no_bytes zs none) ∙ append-nil xs) where
        no_bytes : (l : List ℕ) → length l ≡ 0 → l ≡ []
        no_bytes [] is = refl
        no_bytes (b ∷ l) is = absurd (omega (arith, is))

  abbrev wrote : Tree
  wrote = with_changed (rewritten_at t.moment (written place (xs ++ zs))) ino t

  -- nothing more, or bytes right behind
  last : (nothing : Bool) → (length zs == 0) ≡ nothing
      → with_changed (λ r. cond nothing r
      (rewritten_at t.moment (written (place + length xs) zs) r)) ino u ≡ wrote
  last true is =
      ap (λ (rs : Records). let x : Tree = record u { records = rs } in x)
      (change_none (λ r. r) u.records ino (λ r. refl))
      ∙ sym (once (length zs) refl (grind (arith, nat_tests)))
  last false is =
      ap (λ (rs : Records). let x : Tree = record t { records = rs } in x)
      (change_twice (rewritten_at t.moment (written place xs))
      (rewritten_at t.moment (written (place + length xs) zs)) t.records ino
      ∙ (λ j. change (λ r. rewritten_twice t.moment place xs zs r j) t.records ino))

  refused : nat_le limit (place + length xs) ≡ true
      → ◌≡◌ {A = Result (ℕ × Tree) ℕ} (Ok (length xs, u)) (Ok (length xs + length zs, wrote))
  refused full =
      let cut = length-take (limit - (place + length xs)) ys in
      let high : limit ≤ place + length xs = grind (arith, nat_tests) in
      let none : length zs ≡ 0 = omega arith in
      let count : length xs ≡ length xs + length zs = omega arith in
      (λ j. Ok (count j, sym (once (length zs) refl none) j))

  by_tests : (none full nothing : Bool) → (length ys == 0) ≡ none
      → nat_le limit (place + length xs) ≡ full → (length zs == 0) ≡ nothing
      → more (length xs) u (unless_refused (cond (not none && full) (Some EFBIG) None)
      (length zs) (with_changed (λ r. cond nothing r
      (rewritten_at t.moment (written (place + length xs) zs) r)) ino u))
      ≡ Ok (length xs + length zs, wrote)
  by_tests true full nothing n f z =
      ap (λ (v : Tree). let x : Result (ℕ × Tree) ℕ = Ok (length xs + length zs, v) in x)
      (last nothing z)
  by_tests false false nothing n f z =
      ap (λ (v : Tree). let x : Result (ℕ × Tree) ℕ = Ok (length xs + length zs, v) in x)
      (last nothing z)
  by_tests false true nothing n f z = refused f

  -- bytes that are written, and others behind them: as many of those as fit, also none
  pub write_more : write_of t ino place (xs ++ ys)
      ≡ more (length xs) u (write_of u ino (place + length xs) ys)
  write_more = whole ∙ sym (ap (more (length xs) u) behind
      ∙ by_tests (length ys == 0) (nat_le limit (place + length xs)) (length zs == 0)
      refl refl refl)

-- ---- a write that was told

module _ (t : Tree) (ino place : ℕ) (bytes : List ℕ)
    (file : body_at t.records ino ≡ Some (File bytes)) where
  abbrev most : ℕ
  most = t.limits.file

  abbrev amended : List ℕ → Tree
  amended new = with_changed (overwritten_at t.moment place (fitting most place new)) ino t

  -- why no byte of these is written
  abbrev fault_of : List ℕ → Option ℕ
  fault_of new = cond (not (length new == 0) && nat_le most place) (Some EFBIG) None

  -- a write that was told
  pub record Wrote (xs : List ℕ) (n : ℕ) (v : Tree) : Type 0 where
    pub free : fault_of xs ≡ None
    pub count : n ≡ length (fitting most place xs)
    pub tree : v ≡ amended xs

  pub was_written : (xs : List ℕ) (n : ℕ) (v : Tree) → write_of t ino place xs ≡ Ok (n, v)
      → Wrote xs n v
  was_written xs n v is = by_fault (fault_of xs) refl
      (sym (of_file t ino place xs bytes file) ∙ is) where
        by_fault : (o : Option ℕ) → fault_of xs ≡ o
            → unless_refused o (length (fitting most place xs)) (amended xs) ≡ Ok (n, v)
            → Wrote xs n v
        by_fault (Some e) at is = absurd cc
        by_fault None at is =
            let both : (length (fitting most place xs), amended xs) ≡ (n, v) = cc in record {
              free = at;
              count = sym (ap (λ (x : ℕ × Tree). x.0) both);
              tree = sym (ap (λ (x : ℕ × Tree). x.1) both);
            }

  -- the only fault is that a file's bytes end by the limit
  pub only_too_big : (xs : List ℕ) (e : ℕ) → write_of t ino place xs ≡ Err e
      → (e ≡ EFBIG) × (fault_of xs ≡ Some EFBIG)
  only_too_big xs e is = by_test (not (length xs == 0) && nat_le most place) refl
      (sym (of_file t ino place xs bytes file) ∙ is) where
        by_test : (b : Bool) → (not (length xs == 0) && nat_le most place) ≡ b
            → unless_refused (cond b (Some EFBIG) None) (length (fitting most place xs))
            (amended xs) ≡ Err e
            → (e ≡ EFBIG) × (fault_of xs ≡ Some EFBIG)
        by_test true at is = (
          (let same : ◌≡◌ {A = Result (ℕ × Tree) ℕ} (Err EFBIG) (Err e) = is in cc),
          ap (λ (b : Bool). let x : Option ℕ = cond b (Some EFBIG) None in x) at,
        )
        by_test false at is = absurd cc

  -- no more is written than there is
  pub at_most : (xs : List ℕ) (n : ℕ) (v : Tree) → write_of t ino place xs ≡ Ok (n, v)
      → n ≤ length xs
  at_most xs n v is =
      let w = was_written xs n v is in
      let count = w.count in
      let cut = length-take (most - place) xs in
      omega arith

  -- no bytes are written anywhere
  pub none_written : write_of t ino place [] ≡ Ok (0, t)
  none_written =
      let cut : fitting most place [] ≡ [] = none_of (most - place) in
      of_file t ino place [] bytes file
      ∙ (λ j. let x : Result (ℕ × Tree) ℕ = Ok (
        length (cut j),
        with_changed (λ r.
            cond (length (cut j) == 0) r (rewritten_at t.moment (written place (cut j)) r)) ino t,
      ) in x)
      ∙ ap (λ (rs : Records). let v : Tree = record t { records = rs } in
      let x : Result (ℕ × Tree) ℕ = Ok (0, v) in x) (change_none (λ r. r) t.records ino (λ r. refl))
    where
      none_of : (k : ℕ) → take {A = ℕ} k [] ≡ []
      none_of zero = refl
      none_of (suc k) = refl

  -- the first bytes weren't written, so neither are more
  pub none_of_more : (xs ys : List ℕ) (e : ℕ) → write_of t ino place xs ≡ Err e
      → write_of t ino place (xs ++ ys) ≡ Err e
  none_of_more xs ys e is =
      let k = only_too_big xs e is in
      of_file t ino place (xs ++ ys) bytes file
      ∙ ap (λ (o : Option ℕ). unless_refused o (length (fitting most place (xs ++ ys)))
      (amended (xs ++ ys))) (too_big (length xs == 0) (nat_le most place) refl refl k.1)
      ∙ ap Err (sym k.0) where
        too_big : (none full : Bool) → (length xs == 0) ≡ none → nat_le most place ≡ full
            → cond (not none && full) (Some EFBIG) None ≡ Some EFBIG
            → fault_of (xs ++ ys) ≡ Some EFBIG
        too_big true full n f is = absurd cc
        too_big false false n f is = absurd cc
        too_big false true n f is =
            let long = length-append xs ys in
            let some : (length (xs ++ ys) == 0) ≡ false = grind (arith, nat_tests) in
            λ j. cond (not (some j) && f j) (Some EFBIG) None

  -- the first bytes are cut, so no more are written
  pub cut_short : (xs ys : List ℕ) (n : ℕ) (v : Tree) → write_of t ino place xs ≡ Ok (n, v)
      → n < length xs → write_of t ino place (xs ++ ys) ≡ Ok (n, v)
  cut_short xs ys n v is short =
      let w = was_written xs n v is in
      let count = w.count in
      let cut = length-take (most - place) xs in
      let same : fitting most place (xs ++ ys) ≡ fitting most place xs =
      take-append-le (most - place) xs ys (omega arith) in
      of_file t ino place (xs ++ ys) bytes file
      ∙ (λ j. unless_refused (fault_same (length xs == 0) refl j)
      (length (same j)) (with_changed (overwritten_at t.moment place (same j)) ino t))
      ∙ ap (λ (o : Option ℕ). unless_refused o (length (fitting most place xs)) (amended xs)) w.free
      ∙ (λ j. let x : Result (ℕ × Tree) ℕ = Ok (sym w.count j, sym w.tree j) in x) where
        fault_same : (b : Bool) → (length xs == 0) ≡ b → fault_of (xs ++ ys) ≡ fault_of xs
        fault_same b at =
            let long = length-append xs ys in
            let one : (length (xs ++ ys) == 0) ≡ false = grind (arith, nat_tests) in
            let two : (length xs == 0) ≡ false = grind (arith, nat_tests) in
            λ j. cond (not ((one ∙ sym two) j) && nat_le most place) (Some EFBIG) None

  module _ (xs : List ℕ) (v : Tree) (is : write_of t ino place xs ≡ Ok (length xs, v))
      (some : 1 ≤ length xs) where
    pub ends_within : place + length xs ≤ most
    ends_within =
        let count = (was_written xs (length xs) v is).count in
        let cut = length-take (most - place) xs in
        omega arith

    all_fits : fitting most place xs ≡ xs
    all_fits =
        let ends = ends_within in
        take_all (most - place) xs (omega arith)

    pub whole_tree : v ≡ with_changed (rewritten_at t.moment (written place xs)) ino t
    whole_tree =
        let not_none : (length xs == 0) ≡ false = grind (arith, nat_tests) in
        (was_written xs (length xs) v is).tree
        ∙ ap (λ (l : List ℕ). with_changed (overwritten_at t.moment place l) ino t) all_fits
        ∙ ap (λ (b : Bool). with_changed (λ r. cond b r
        (rewritten_at t.moment (written place xs) r)) ino t) not_none

    -- the file as it is then
    pub whole_file : body_at v.records ino ≡ Some (File (written place xs bytes))
    whole_file = ap (λ (x : Tree). body_at x.records ino) whole_tree
        ∙ file_then t ino place xs [] bytes file some ends_within

    -- bytes that were written whole, and others behind them
    pub whole_more : (ys : List ℕ)
        → write_of t ino place (xs ++ ys) ≡ more (length xs) v (write_of v ino (place + length xs) ys)
    whole_more ys = write_more t ino place xs ys bytes file some ends_within
        ∙ ap (λ (u : Tree). more (length xs) u (write_of u ino (place + length xs) ys))
        (sym whole_tree)

  -- a write at the end makes the file longer by what was written
  pub longer : (xs : List ℕ) → length bytes ≡ place
      → length (written place xs bytes) ≡ place + length xs
  longer xs at_end =
      let front = front_length place xs [] bytes in
      let all = length-append (resized place bytes ++ xs) (drop (place + length xs) bytes) in
      let rest = length-drop (place + length xs) bytes in
      omega arith

-- ---- pieces, one behind the other

-- behind so many bytes that were written
abbrev pub behind_bytes : ℕ → Tree → Result (ℕ × Tree) ℕ → Result (ℕ × Tree) ℕ
behind_bytes zero u r = r
behind_bytes (suc w) u r = more (suc w) u r

pub behind_some : (w : ℕ) (v : Tree) (r : Result (ℕ × Tree) ℕ) → 1 ≤ w
    → behind_bytes w v r ≡ more w v r
behind_some zero v r some = absurd (omega (arith, some))
behind_some (suc w) v r some = refl

more_twice : (w k : ℕ) (t v : Tree) (r : Result (ℕ × Tree) ℕ)
    → more w t (more k v r) ≡ more (w + k) v r
more_twice w k t v (Ok (n, x)) =
    let all : w + (k + n) ≡ w + k + n = omega arith in
    ap (λ (q : ℕ). let y : Result (ℕ × Tree) ℕ = Ok (q, x) in y) all
more_twice w k t v (Err e) = refl

-- behind bytes that stand behind others
pub behind_both : (w k : ℕ) (t v : Tree) (r : Result (ℕ × Tree) ℕ) → 1 ≤ k
    → behind_bytes w t (more k v r) ≡ behind_bytes (w + k) v r
behind_both zero k t v r some =
    let all : 0 + k ≡ k = omega arith in
    sym (behind_some k v r some) ∙ ap (λ (n : ℕ). behind_bytes n v r) (sym all)
behind_both (suc w) k t v r some =
    let any : 1 ≤ suc w + k = omega arith in
    more_twice (suc w) k t v r ∙ sym (behind_some (suc w + k) v r any)
