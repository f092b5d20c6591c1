-- What one message of a listing brings, and what it leaves to the next ones.
use Rattle.std.proofs.Common.{◌≡◌, ℕ, ◌+◌, ◌-◌, ◌<◌, ◌≤◌, true, false}
use Rattle.std.proofs.Common.{List, [], ◌∷◌, ◌++◌, length, refl, sym, ap, ◌∙◌, subst, arith, ⊎_elim}
use Rattle.std.proofs.Common.{append-nil, nat_lt}
use Rattle.std.specs.Prelude.{sum_by, drop, ◌==◌, ◌||◌}
use Rattle.std.proofs.lemmas.Bool.{cases_lt}
use Rattle.std.proofs.lemmas.Bool.Decides.{nat_tests}
use Rattle.std.proofs.lemmas.List.{length-append, nil_from_length}
use Rattle.std.proofs.Math.Seq.{drop-append_seam}
use Rattle.tree_model.specs.Tree.{Tree}
use Rattle.tree_model.specs.Good.{IsGoodTree}
use Rattle.tree_model.specs.Reading.{Entry}
use Rattle.tree_model.specs.Pages.{entries_past_of, front_within, page_of, last_cookie}
use Rattle.tree_model.proofs.Pages.{splits_within, taken, within-append, within-whole, within-cut}
use Rattle.tree_model.proofs.Pages.{past_last, rest_after, named_after}
use Rattle.fid_model.proofs.Names.{name_is_text}
use Rattle.tree_machine.specs.Listing.{entry_size}
use Rattle.tree_machine.specs.Messages.{dirent_size, is_last}

-- every name of a directory is short
abbrev pub ShortNames : Tree → ℕ → Type 0
ShortNames t dir = (c : ℕ) (e : Entry) (more : List Entry) → entries_past_of t dir c ≡ e ∷ more
    → length e.name ≤ 255

module _ (t : Tree) (good : IsGoodTree t) (dir piece : ℕ) (short : ShortNames t dir)
    (some : 4341 ≤ piece) (c room : ℕ) where
  abbrev past : List Entry
  past = entries_past_of t dir c

  -- what a message brings
  abbrev pub run : List Entry
  run = page_of dirent_size piece t dir c

  -- what is still to be listed
  abbrev pub left : List Entry
  left = page_of entry_size room t dir c

  -- what of the message has room
  abbrev pub front : List Entry
  front = front_within entry_size room run

  rest : List Entry
  rest = (splits_within dirent_size piece past).rest

  splits : past ≡ run ++ rest
  unfolding rest
  splits = (splits_within dirent_size piece past).splits

  left_is : left ≡ front_within entry_size room (run ++ rest)
  left_is = ap (front_within entry_size room) splits

  -- a message that brings nothing is the last: there is no entry
  none_past : (xs : List Entry) → past ≡ xs → run ≡ [] → xs ≡ []
  none_past [] is none = refl
  none_past (e ∷ more) is none =
      let few = short c e more is in
      let has : run ≡ e ∷ front_within dirent_size (piece - dirent_size e) more =
      ap (front_within dirent_size piece) is
      ∙ taken dirent_size piece e more (omega arith) in
      absurd (let no = sym has ∙ none in cc)

  pub came_none : run ≡ [] → left ≡ []
  came_none none = ap (front_within entry_size room) (none_past past refl none)

  last_none : (n m : ℕ) → n ≡ 0 → ((n == 0) || nat_lt m n) ≡ true
  last_none n m is = grind (arith, nat_tests)

  pub none_is_last : run ≡ [] → is_last run left ≡ true
  none_is_last none = last_none (length run) (length left) (ap length none)

  -- a message of which an entry has no room is the last
  over : length front < length run → room < sum_by entry_size run
  over less = ⊎_elim (λ high. high)
      (λ low. let same = ap length (within-whole entry_size room run low) in absurd (omega arith))
      (cases_lt room (sum_by entry_size run))

  pub came_full : length front < length run → left ≡ front
  came_full less = left_is ∙ within-cut entry_size room run rest (over less)

  last_less : (n m : ℕ) → m < n → ((n == 0) || nat_lt m n) ≡ true
  last_less n m less = grind (arith, nat_tests)

  pub full_is_last : length front < length run → is_last run left ≡ true
  full_is_last less = last_less (length run) (length left)
      (subst (λ (xs : List Entry). length xs < length run) (sym (came_full less)) less)

  -- else all that it brings is listed, and the rest is left
  module _ (all : length run ≤ length front) where
    pub whole : front ≡ run
    whole =
        let two = splits_within entry_size room run in
        let long = ap length two.splits in
        let both = length-append front two.rest in
        let none : two.rest ≡ [] = nil_from_length two.rest (omega arith) in
        sym (two.splits ∙ ap (λ (xs : List Entry). front ++ xs) none ∙ append-nil front)

    pub fits : sum_by entry_size run ≤ room
    fits = subst (λ (xs : List Entry). sum_by entry_size xs ≤ room) whole
        (splits_within entry_size room run).fits

    abbrev pub later : List Entry
    later = page_of entry_size (room - sum_by entry_size run) t dir (last_cookie c run)

    pub left_goes_on : left ≡ run ++ later
    left_goes_on = left_is ∙ within-append entry_size room run rest fits
        ∙ ap (λ (xs : List Entry). run
        ++ front_within entry_size (room - sum_by entry_size run) xs)
        (sym (past_last t good dir c run rest splits))

    pub later_is : drop (length run) left ≡ later
    later_is = ap (drop (length run)) left_goes_on ∙ drop-append_seam run later

    pub left_length : length left ≡ length run + length later
    left_length = ap length left_goes_on ∙ length-append run later

    not_last : (n m : ℕ) → 0 < n → n ≤ m → ((n == 0) || nat_lt m n) ≡ false
    not_last n m some enough = grind (arith, nat_tests)

    pub all_not_last : 0 < length run → is_last run left ≡ false
    all_not_last more = let long = left_length in
        not_last (length run) (length left) more (omega arith)

-- the names of a good tree are short
pub names_short : (t : Tree) → IsGoodTree t → (dir : ℕ) → ShortNames t dir
names_short t good dir c e more is =
    (name_is_text e.name (named_after t good dir c e (rest_after t good dir c e more is).0)).0
