-- Pages of a directory: an entry after a cookie is the first of those above it, the entries above
-- the last of a page are those that it left, and a page of a page's rest goes on where it ended.
use Rattle.std.proofs.Common.{◌≡◌, ◌≢◌, ℕ, zero, suc, ◌+◌, ◌-◌, ◌^◌, ◌<◌, ◌≤◌, Bool, true, false}
use Rattle.std.proofs.Common.{cond, List, [], ◌∷◌, ◌++◌, length, get_or, refl, sym, ap, ◌∙◌, subst}
use Rattle.std.proofs.Common.{Option, Some, None, Result, Ok, ⊎_elim, arith, nat_lt, IsSome}
use Rattle.std.specs.Prelude.{All, nat_le, filter, Contains, option_map}
use Rattle.std.specs.Prelude.{option_and_then, sum_by}
use Rattle.std.specs.List.{AllByRecursion, filter_map, cons_option}
use Rattle.std.proofs.lemmas.Bool.{false≢true, cases_lt}
use Rattle.std.proofs.lemmas.Bool.Decides.{nat_tests}
use Rattle.std.proofs.lemmas.List.Elements.{Contains-append_right, All-contains}
use Rattle.std.proofs.lemmas.List.Sums.{sum_by-cons}
use Rattle.std.specs.FinMap.{get}
use Rattle.port_base.specs.Names.{name_fault}
use Rattle.tree_model.specs.Tree.{Tree, Record, Records, Body, DirEntry, listed}
use Rattle.tree_model.specs.Tree.Body.{File, Directory, Link}
use Rattle.tree_model.specs.Good.{IsAt, IsGoodTree, IsGoodBody, CookiesRise}
use Rattle.tree_model.specs.Finding.{entries_of, entries_at}
use Rattle.tree_model.specs.Attributes.{attr_of}
use Rattle.tree_model.specs.Reading.{Entry, shown_entry, entry_above, entry_after_among}
use Rattle.tree_model.specs.Reading.{entry_after_of}
use Rattle.tree_model.specs.Pages.{entries_past, entries_past_of, front_within, last_cookie}
use Rattle.tree_model.specs.Pages.{page_of}
use Rattle.tree_model.specs.Pages.{CookiesAscend, IsGoodEntry}

-- ---- the entries above a cookie

abbrev past : ℕ → List DirEntry → List DirEntry
past c es = filter (λ e. nat_lt c e.cookie) es

-- a cookie is below all that rise from above it
all_past : (c from : ℕ) (es : List DirEntry) (end : ℕ) → c < from → CookiesRise from es end
    → past c es ≡ es
all_past c from [] end low rise = refl
all_past c from (e ∷ es) end low rise =
    let first = rise.0 in
    let rest = all_past c (e.cookie + 1) es end (omega arith) rise.1 in
    let test : nat_lt c e.cookie ≡ true = grind (arith, nat_tests) in
    ap (λ b. cond b (e ∷ past c es) (past c es)) test ∙ ap (λ xs. e ∷ xs) rest

none_past : (c : ℕ) (es : List DirEntry) → entry_above c es ≡ None → past c es ≡ []
none_past c [] none = refl
none_past c (e ∷ es) none = by_test (nat_lt c e.cookie) none (none_past c es) where
  by_test : (b : Bool) → cond b (Some e) (entry_above c es) ≡ None
      → (entry_above c es ≡ None → past c es ≡ []) → cond b (e ∷ past c es) (past c es) ≡ []
  by_test true is later = absurd (cc)
  by_test false is later = later is

-- the first above a cookie is the head of those above it, and the rest are above it
record IsFirstPast (c : ℕ) (es : List DirEntry) (d : DirEntry) : Type 0 where
  splits : past c es ≡ d ∷ past d.cookie es
  above : c < d.cookie
  among : Contains es d

first_past : (c from : ℕ) (es : List DirEntry) (end : ℕ) (d : DirEntry) → CookiesRise from es end
    → entry_above c es ≡ Some d → IsFirstPast c es d
first_past c from [] end d rise is = absurd (cc)
first_past c from (e ∷ es) end d rise is =
    by_test (nat_lt c e.cookie) refl is (first_past c (e.cookie + 1) es end d rise.1) where
      later : past e.cookie es ≡ es
      later = all_past e.cookie (e.cookie + 1) es end (omega arith) rise.1

      itself : past e.cookie (e ∷ es) ≡ es
      itself =
          let test : nat_lt e.cookie e.cookie ≡ false = grind (arith, nat_tests) in
          ap (λ b. cond b (e ∷ past e.cookie es) (past e.cookie es)) test ∙ later

      taken : nat_lt c e.cookie ≡ true → IsFirstPast c (e ∷ es) e
      taken test =
          let low : c < e.cookie = grind (arith, nat_tests) in
          record {
            splits = ap (λ b. cond b (e ∷ past c es) (past c es)) test
                ∙ ap (λ xs. e ∷ xs) (all_past c (e.cookie + 1) es end (omega arith) rise.1
                ∙ sym itself);
            above = low;
            among = (0, omega arith, refl);
          }

      passed : nat_lt c e.cookie ≡ false → IsFirstPast c es d → IsFirstPast c (e ∷ es) d
      passed test rest =
          let over = rest.above in
          let below : nat_lt d.cookie e.cookie ≡ false = grind (arith, nat_tests) in
          record {
            splits = ap (λ b. cond b (e ∷ past c es) (past c es)) test ∙ rest.splits
                ∙ ap (λ xs. d ∷ xs) (sym (ap (λ b. cond b (e ∷ past d.cookie es) (past d.cookie es))
                below));
            above = over;
            among = Contains-append_right (e ∷ []) es d rest.among;
          }

      by_test : (b : Bool) → nat_lt c e.cookie ≡ b → cond b (Some e) (entry_above c es) ≡ Some d
          → (entry_above c es ≡ Some d → IsFirstPast c es d) → IsFirstPast c (e ∷ es) d
      by_test true test is rest = let same : e ≡ d = cc in
          subst (λ d. IsFirstPast c (e ∷ es) d) same (taken test)
      by_test false test is rest = passed test (rest is)

-- ---- with what is told of what they name

-- what is told of an entry of a directory
record Shows (d : DirEntry) (e : Entry) : Type 0 where
  cookie : d.cookie ≡ e.cookie
  name : d.name ≡ e.name
  ino : d.ino ≡ e.attr.ino

-- what a directory of a good tree has above a cookie
record BeginsAbove (rs : Records) (es : List DirEntry) (c : ℕ) (e : Entry) : Type 0 where
  splits : entries_past rs c (Some es) ≡ e ∷ entries_past rs e.cookie (Some es)
  above : c < e.cookie
  of : (d : DirEntry) × Contains es d × Shows d e

shown : (rs : Records) (d : DirEntry) (o : Option Record) → get rs d.ino ≡ o → IsSome o
    → (e : Entry) × (shown_entry rs d ≡ Some e) × Shows d e
shown rs d None at some = absurd (false≢true some)
shown rs d (Some r) at some = (
  record { cookie = d.cookie; name = d.name; attr = attr_of d.ino r },
  ap (option_map (λ (r : Record). let e : Entry =
      record { cookie = d.cookie; name = d.name; attr = attr_of d.ino r } in e)) at,
  record { cookie = refl; name = refl; ino = refl },
)

begins_above : (rs : Records) (es : List DirEntry) (end c : ℕ) (d : DirEntry)
    → ((f : DirEntry) → Contains es f → IsSome (get rs f.ino)) → CookiesRise 1 es end
    → entry_above c es ≡ Some d
    → (e : Entry) × (shown_entry rs d ≡ Some e) × BeginsAbove rs es c e
begins_above rs es end c d stored rise is =
    let first = first_past c 1 es end d rise is in
    let e = shown rs d (get rs d.ino) refl (stored d first.among) in (
      e.0,
      e.1,
      record {
        splits = ap (filter_map (shown_entry rs)) first.splits
            ∙ ap (λ o. cons_option o (filter_map (shown_entry rs) (past d.cookie es))) e.1
            ∙ ap (λ k. e.0 ∷ filter_map (shown_entry rs) (past k es)) (e.2).cookie;
        above = subst (λ k. c < k) (e.2).cookie first.above;
        of = (d, first.among, e.2);
      },
    )

-- ---- a directory of a good tree

rise_end : (from : ℕ) (es : List DirEntry) (end : ℕ) → CookiesRise from es end → from ≤ end
rise_end from [] end rise = rise
rise_end from (e ∷ es) end rise =
    let first = rise.0 in
    let later = rise_end (e.cookie + 1) es end rise.1 in
    omega arith

-- a cookie is below the directory's next one
cookie_below : (from : ℕ) (es : List DirEntry) (end : ℕ) (d : DirEntry) → CookiesRise from es end
    → (k : ℕ) → k < length es → get_or es k d ≡ d → d.cookie < end
cookie_below from [] end d rise k low is = absurd (omega arith)
cookie_below from (e ∷ es) end d rise zero low is =
    let later = rise_end (e.cookie + 1) es end rise.1 in
    let same = ap (λ (d : DirEntry). d.cookie) is in
    omega arith
cookie_below from (e ∷ es) end d rise (suc k) low is =
    cookie_below (e.cookie + 1) es end d rise.1 k (omega arith) is

abbrev answered : Option Entry → Result (Option Entry) ℕ
answered o = Ok o

module _ (t : Tree) (g : IsGoodTree t) (dir : ℕ) where
  abbrev rs : Records
  rs = t.records

  -- where it is a directory, what its record holds
  record Holds (es : List DirEntry) : Type 0 where
    end : ℕ
    rise : CookiesRise 1 es end
    stored : (f : DirEntry) → Contains es f → IsSome (get rs f.ino)
    named : (f : DirEntry) → Contains es f → name_fault f.name ≡ None
    low : end < 2 ^ 64

  holds_in : (r : Record) → IsAt rs dir r → (b : Body) → r.body ≡ b → (es : List DirEntry)
      → entries_of b ≡ Some es → Holds es
  holds_in r at (File bytes) is es lists = absurd (cc)
  holds_in r at (Link target) is es lists = absurd (cc)
  holds_in r at (Directory fs next up) is es lists =
      let same : fs ≡ es = cc in
      let good = subst IsGoodBody is (g.records dir r at).body in
      record {
        end = next;
        rise = subst (λ es. CookiesRise 1 es next) same good.0;
        stored = λ f has. (g.entries dir r f at (subst (λ b. Contains (listed b) f) (sym is)
            (subst (λ es. Contains es f) (sym same) has))).0;
        named = λ f has. All-contains (λ e. name_fault e.name ≡ None) es f
            (subst (λ es. All (λ e. name_fault e.name ≡ None) es) same good.1) has;
        low = good.3;
      }

  holds : (es : List DirEntry) → entries_at rs dir ≡ Some es → Holds es
  holds es is = by_record (get rs dir) refl is where
    by_record : (o : Option Record) → get rs dir ≡ o
        → option_and_then entries_of (option_map (λ (r : Record). r.body) o) ≡ Some es → Holds es
    by_record None at is = absurd (cc)
    by_record (Some r) at is = holds_in r at r.body refl es is

  number_fits : (i : ℕ) → IsSome (get rs i) → i < 2 ^ 64
  number_fits i some = by_record (get rs i) refl some where
    by_record : (o : Option Record) → get rs i ≡ o → IsSome o → i < 2 ^ 64
    by_record None at some = absurd (false≢true some)
    by_record (Some r) at some =
        let below = (g.numbers i r at).1 in
        let fits = g.next in
        omega arith

  good_entry : (es : List DirEntry) → Holds es → (d : DirEntry) → Contains es d → (e : Entry)
      → Shows d e → IsGoodEntry e
  good_entry es has d among e shows = record {
    named = subst (λ n. name_fault n ≡ None) shows.name (has.named d among);
    cookie = subst (λ k. k < 2 ^ 64) shows.cookie
        (let below = cookie_below 1 es has.end d has.rise among.0 among.1 among.2 in
        let low = has.low in omega arith);
    ino = subst (λ k. k < 2 ^ 64) shows.ino (number_fits d.ino (has.stored d among));
  }

  -- what comes after a cookie, by what the directory has above it
  data Comes (c : ℕ) : Type 0 where
    none_there : entries_past_of t dir c ≡ [] → ((e : Entry) → entry_after_of t dir c ≢ Ok (Some e))
        → Comes c
    one_there : (e : Entry) → entry_after_of t dir c ≡ Ok (Some e)
        → entries_past_of t dir c ≡ e ∷ entries_past_of t dir e.cookie → c < e.cookie
        → IsGoodEntry e → Comes c

  comes : (c : ℕ) → Comes c
  comes c = by_entries (entries_at rs dir) refl where
    by_entries : (o : Option (List DirEntry)) → entries_at rs dir ≡ o → Comes c
    by_entries None is = none_there (ap (entries_past rs c) is) (λ e there.
        let none = ap (entry_after_among rs c) is in absurd (cc))
    by_entries (Some es) is = by_first (entry_above c es) refl where
      by_first : (o : Option DirEntry) → entry_above c es ≡ o → Comes c
      by_first None none = none_there
          (ap (entries_past rs c) is ∙ ap (filter_map (shown_entry rs)) (none_past c es none))
          (λ e there. let other = ap (entry_after_among rs c) is ∙
          ap (λ o. answered (option_and_then (shown_entry rs) o)) none in absurd (cc))
      by_first (Some d) some =
          let has = holds es is in
          let first = begins_above rs es has.end c d has.stored has.rise some in
          one_there first.0
          (ap (entry_after_among rs c) is ∙
          ap (λ o. answered (option_and_then (shown_entry rs) o)) some
          ∙ ap (λ o. answered o) first.1)
          (ap (entries_past rs c) is ∙ (first.2).splits
          ∙ ap (λ xs. first.0 ∷ xs) (sym (ap (entries_past rs (first.0).cookie) is)))
          (first.2).above
          (let of = (first.2).of in good_entry es has of.0 of.1 first.0 of.2)

  -- where none comes after a cookie, there are none above it
  pub none_after : (c : ℕ) → entry_after_of t dir c ≡ Ok None → entries_past_of t dir c ≡ []
  none_after c is = by_cases (comes c) where
    by_cases : Comes c → entries_past_of t dir c ≡ []
    by_cases (none_there none never) = none
    by_cases (one_there e there splits above fine) = absurd (cc)

  -- one that comes after a cookie is the first above it, and the rest are above its own
  pub first_after : (c : ℕ) (e : Entry) → entry_after_of t dir c ≡ Ok (Some e)
      → (entries_past_of t dir c ≡ e ∷ entries_past_of t dir e.cookie) × (c < e.cookie)
  first_after c e is = by_cases (comes c) where
    by_cases : Comes c
        → (entries_past_of t dir c ≡ e ∷ entries_past_of t dir e.cookie) × (c < e.cookie)
    by_cases (none_there none never) = absurd (never e is)
    by_cases (one_there f there splits above fine) =
        let same : f ≡ e = cc in
        subst (λ (e : Entry). (entries_past_of t dir c ≡ e ∷ entries_past_of t dir e.cookie)
        × (c < e.cookie)) same (splits, above)

  -- its name has no fault, and its numbers fit
  good_after : (c : ℕ) (e : Entry) → entry_after_of t dir c ≡ Ok (Some e) → IsGoodEntry e
  good_after c e is = by_cases (comes c) where
    by_cases : Comes c → IsGoodEntry e
    by_cases (none_there none never) = absurd (never e is)
    by_cases (one_there f there splits above fine) =
        let same : f ≡ e = cc in subst IsGoodEntry same fine

  pub named_after : (c : ℕ) (e : Entry) → entry_after_of t dir c ≡ Ok (Some e)
      → name_fault e.name ≡ None
  named_after c e is = (good_after c e is).named

  abbrev pub Rests : ℕ → List Entry → Entry → Type 0
  Rests c more e = (entry_after_of t dir c ≡ Ok (Some e)) × (entries_past_of t dir e.cookie ≡ more)
      × (c < e.cookie)

  -- the first above a cookie comes after it, and the others are above its own
  pub rest_after : (c : ℕ) (e : Entry) (more : List Entry) → entries_past_of t dir c ≡ e ∷ more
      → Rests c more e
  rest_after c e more is = by_cases (comes c) where
    by_cases : Comes c → Rests c more e
    by_cases (none_there none never) = absurd (cc)
    by_cases (one_there f there splits above fine) =
        let same : f ≡ e = cc in
        let others : entries_past_of t dir f.cookie ≡ more = cc in
        subst (Rests c more) same (there, others, above)

  -- a reading that goes on at the cookie of the last entry of a page begins with what it left
  pub past_last : (c : ℕ) (front rest : List Entry) → entries_past_of t dir c ≡ front ++ rest
      → entries_past_of t dir (last_cookie c front) ≡ rest
  past_last c [] rest is = is
  past_last c (e ∷ front) rest is =
      past_last e.cookie front rest (rest_after c e (front ++ rest) is).1

  -- the cookies of a listing rise strictly
  ascends : (c : ℕ) (es : List Entry) → entries_past_of t dir c ≡ es → CookiesAscend c es
  ascends c [] is = tt
  ascends c (e ∷ es) is =
      let first = rest_after c e es is in (first.2, ascends e.cookie es first.1)

  pub past_ascends : (c : ℕ) → CookiesAscend c (entries_past_of t dir c)
  past_ascends c = ascends c (entries_past_of t dir c) refl

  -- each entry of a listing is good
  all_good : (c : ℕ) (es : List Entry) → entries_past_of t dir c ≡ es
      → AllByRecursion IsGoodEntry es
  all_good c [] is = tt
  all_good c (e ∷ es) is =
      let first = rest_after c e es is in
      (good_after c e first.0, all_good e.cookie es first.1)

  pub past_good : (c : ℕ) → AllByRecursion IsGoodEntry (entries_past_of t dir c)
  past_good c = all_good c (entries_past_of t dir c) refl

-- ---- what has room

module _ {A : Type 0} (size : A → ℕ) where
  abbrev within : ℕ → List A → List A
  within room xs = front_within size room xs

  abbrev total : List A → ℕ
  total xs = sum_by size xs

  -- what holds of all holds of what is given
  pub within-all : (P : A → Type 0) (room : ℕ) (xs : List A) → AllByRecursion P xs
      → AllByRecursion P (within room xs)
  within-all P room [] all = tt
  within-all P room (x ∷ xs) all =
      by_test (nat_le (size x) room) (within-all P (room - size x) xs all.1) where
        by_test : (b : Bool) → AllByRecursion P (within (room - size x) xs)
            → AllByRecursion P (cond b (x ∷ within (room - size x) xs) [])
        by_test true later = (all.0, later)
        by_test false later = tt

  -- what is given, and what is left
  pub record SplitsWithin (room : ℕ) (xs : List A) : Type 0 where
    pub rest : List A
    pub splits : xs ≡ within room xs ++ rest
    pub fits : total (within room xs) ≤ room
    pub full : (x : A) (more : List A) → rest ≡ x ∷ more → room - total (within room xs) < size x

  pub taken : (room : ℕ) (x : A) (xs : List A) → size x ≤ room → within room (x ∷ xs) ≡ x ∷ within
      (room - size x) xs
  taken room x xs low =
      let test : nat_le (size x) room ≡ true = grind (arith, nat_tests) in
      ap (λ b. cond b (x ∷ within (room - size x) xs) []) test

  pub stopped : (room : ℕ) (x : A) (xs : List A) → room < size x → within room (x ∷ xs) ≡ []
  stopped room x xs high =
      let test : nat_le (size x) room ≡ false = grind (arith, nat_tests) in
      ap (λ b. cond b (x ∷ within (room - size x) xs) []) test

  pub splits_within : (room : ℕ) (xs : List A) → SplitsWithin room xs
  splits_within room [] = record {
    rest = [];
    splits = refl;
    fits = omega arith;
    full = λ x more is. absurd (cc);
  }
  splits_within room (x ∷ xs) = ⊎_elim none
      (λ low. more low (splits_within (room - size x) xs)) (cases_lt room (size x)) where
        none : room < size x → SplitsWithin room (x ∷ xs)
        none high =
            let is = stopped room x xs high in
            record {
              rest = x ∷ xs;
              splits = ap (λ ys. ys ++ (x ∷ xs)) (sym is);
              fits = subst (λ ys. total ys ≤ room) (sym is) (omega arith);
              full = λ y more same. let one : x ≡ y = cc in subst (λ ys. room - total ys < size y)
                  (sym is) (subst (λ y. room - 0 < size y) one (omega arith));
            }

        more : size x ≤ room → SplitsWithin (room - size x) xs → SplitsWithin room (x ∷ xs)
        more low later =
            let is = taken room x xs low in
            let sum = sum_by-cons size x (within (room - size x) xs) in
            record {
              rest = later.rest;
              splits = ap (λ ys. x ∷ ys) later.splits ∙ ap (λ ys. ys ++ later.rest) (sym is);
              fits = subst (λ ys. total ys ≤ room) (sym is)
                  (let fits = later.fits in omega (arith, sum));
              full = λ y more same. subst (λ ys. room - total ys < size y) (sym is)
                  (let full = later.full y more same in omega (arith, sum));
            }

  -- what fits whole is given whole, and what follows gets the room that is left
  pub within-append : (room : ℕ) (xs ys : List A) → total xs ≤ room
      → within room (xs ++ ys) ≡ xs ++ within (room - total xs) ys
  within-append room [] ys fits =
      ap (λ n. within n ys) (let all : room ≡ room - 0 = omega arith in all)
  within-append room (x ∷ xs) ys fits =
      let sum = sum_by-cons size x xs in
      let low : size x ≤ room = omega (arith, sum) in
      let left : (room - size x) - total xs ≡ room - total (x ∷ xs) = omega (arith, sum) in
      taken room x (xs ++ ys) low
      ∙ ap (λ zs. x ∷ zs) (within-append (room - size x) xs ys (omega (arith, sum)))
      ∙ ap (λ n. x ∷ (xs ++ within n ys)) left

  pub within-whole : (room : ℕ) (xs : List A) → total xs ≤ room → within room xs ≡ xs
  within-whole room [] fits = refl
  within-whole room (x ∷ xs) fits =
      let sum = sum_by-cons size x xs in
      taken room x xs (omega (arith, sum))
      ∙ ap (λ zs. x ∷ zs) (within-whole (room - size x) xs (omega (arith, sum)))

  -- what doesn't fit whole hides what follows
  pub within-cut : (room : ℕ) (xs ys : List A) → room < total xs
      → within room (xs ++ ys) ≡ within room xs
  within-cut room [] ys over = absurd (omega arith)
  within-cut room (x ∷ xs) ys over = ⊎_elim none
      (λ low. more low (within-cut (room - size x) xs ys)) (cases_lt room (size x)) where
        none : room < size x → within room (x ∷ (xs ++ ys)) ≡ within room (x ∷ xs)
        none high = stopped room x (xs ++ ys) high ∙ sym (stopped room x xs high)

        more : size x ≤ room → (room - size x < total xs
            → within (room - size x) (xs ++ ys) ≡ within (room - size x) xs)
            → within room (x ∷ (xs ++ ys)) ≡ within room (x ∷ xs)
        more low later =
            let sum = sum_by-cons size x xs in
            taken room x (xs ++ ys) low
            ∙ ap (λ zs. x ∷ zs) (later (omega (arith, sum)))
            ∙ sym (taken room x xs low)

-- ---- a page, entry by entry

module _ (size : Entry → ℕ) (t : Tree) (g : IsGoodTree t) (dir room c : ℕ) where
  -- each entry of a page is good
  pub page_good : AllByRecursion IsGoodEntry (page_of size room t dir c)
  page_good = within-all size IsGoodEntry room (entries_past_of t dir c) (past_good t g dir c)

  pub page_ends : entry_after_of t dir c ≡ Ok None → page_of size room t dir c ≡ []
  page_ends none = ap (front_within size room) (none_after t g dir c none)

  pub page_takes : (e : Entry) → entry_after_of t dir c ≡ Ok (Some e) → size e ≤ room
      → page_of size room t dir c ≡ e ∷ page_of size (room - size e) t dir e.cookie
  page_takes e some low = ap (front_within size room) (first_after t g dir c e some).0
      ∙ taken size room e (entries_past_of t dir e.cookie) low

  pub page_stops : (e : Entry) → entry_after_of t dir c ≡ Ok (Some e) → room < size e
      → page_of size room t dir c ≡ []
  page_stops e some high = ap (front_within size room) (first_after t g dir c e some).0
      ∙ stopped size room e (entries_past_of t dir e.cookie) high
