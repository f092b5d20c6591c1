-- A name that is taken away from a good tree leaves a good tree.
use Rattle.std.proofs.Common.{◌≡◌, ℕ, ◌<◌, ◌≤◌, Bool, true, false, cond, not, List, [], length}
use Rattle.std.proofs.Common.{refl, sym, ap, ◌∙◌, subst, Option, Some, None, Result, Ok, Err, arith}
use Rattle.std.proofs.Common.{IsSome}
use Rattle.std.specs.Prelude.{◌==◌, option_map}
use Rattle.std.proofs.lemmas.Bool.{false≢true}
use Rattle.std.proofs.lemmas.Bool.Decides.{nat_tests}
use Rattle.std.proofs.lemmas.List.{nil_from_length}
use Rattle.std.specs.FinMap.{get, insert}
use Rattle.port_base.specs.declared.errno.TheConstants.{ENOTDIR, EISDIR, ENOTEMPTY}
use Rattle.tree_model.specs.Tree.{Tree, Record, Records, Body, DirEntry, body_at, listed}
use Rattle.tree_model.specs.Tree.{is_directory, is_directory_at, name_count, is_linked, keep}
use Rattle.tree_model.specs.Tree.Body.{File, Directory, Link}
use Rattle.tree_model.specs.Good.{IsAt, IsGoodTree}
use Rattle.tree_model.specs.Finding.{entry_named, entries_at, entries_of, ino_among, ino_or_missing}
use Rattle.tree_model.specs.Finding.{lookup_of}
use Rattle.tree_model.specs.Sound.{IsKept, IsKeptBut, AreStored}
use Rattle.tree_model.specs.Making.{change, changed}
use Rattle.tree_model.specs.Unlinking.{parted_by, links_left, one_name_less, without_entry}
use Rattle.tree_model.specs.Unlinking.{unless_directory, is_empty_at, if_empty, removed_at}
use Rattle.tree_model.proofs.Naming.{found_among-exact, found_is_named, named_is_stored}
use Rattle.tree_model.proofs.Keeping.{keep_good}
use Rattle.tree_model.proofs.Bodies.{lists_none}
use Rattle.tree_model.proofs.Parting.{good_parted}
use Rattle.tree_model.proofs.Unlinking.{IsUnlinkedIn, mid_dir, apart, same_linked, unlinked_in_good}
use Rattle.tree_model.proofs.Unlinking.{unlinked_kept, unlinked_stored}

-- an entry that a name finds in a directory
pub record IsEntryIn (rs : Records) (dir : ℕ) (name : List ℕ) (ino : ℕ) : Type 0 where
  pub d : Record
  pub e : DirEntry
  pub at : IsAt rs dir d
  pub directory : is_directory d.body ≡ true
  pub goes : entry_named name (listed d.body) ≡ Some e
  pub names : e.ino ≡ ino

pub entry_in : (rs : Records) (dir : ℕ) (name : List ℕ) (ino : ℕ)
    → ino_among false name (entries_at rs dir) ≡ Ok ino → IsEntryIn rs dir name ino
entry_in rs dir name ino = by_record (get rs dir) refl where
  by_found : (d : Record) → IsAt rs dir d → (es : List DirEntry) (next above : ℕ)
      → d.body ≡ Directory es next above → (o : Option DirEntry) → entry_named name es ≡ o
      → ino_or_missing o ≡ Ok ino → IsEntryIn rs dir name ino
  by_found d at es next above is None found f = absurd (cc)
  by_found d at es next above is (Some e) found f = record {
    d = d;
    e = e;
    at = at;
    directory = ap is_directory is;
    goes = ap (λ b. entry_named name (listed b)) is ∙ found;
    names = (let same : e.ino ≡ ino = cc in same);
  }

  by_body : (d : Record) → IsAt rs dir d → (b : Body) → d.body ≡ b
      → ino_among false name (entries_of b) ≡ Ok ino → IsEntryIn rs dir name ino
  by_body d at (File bytes) is f = absurd (cc)
  by_body d at (Directory es next above) is f =
      by_found d at es next above is (entry_named name es) refl
      (ap ino_or_missing (sym (found_among-exact name es)) ∙ f)
  by_body d at (Link target) is f = absurd (cc)

  by_record : (o : Option Record) → get rs dir ≡ o
      → ino_among false name (entries_at rs dir) ≡ Ok ino → IsEntryIn rs dir name ino
  by_record None at is = absurd (let f : ino_among false name None ≡ Ok ino = rw at at is in cc)
  by_record (Some d) at is = by_body d at d.body refl
      (let f : ino_among false name (entries_of d.body) ≡ Ok ino = rw at at is in f)

links_left-le : (b : Body) (n : ℕ) → links_left b n ≤ n
links_left-le (File bytes) n = omega arith
links_left-le (Directory es next above) n = omega arith
links_left-le (Link target) n = omega arith

nil_of : (es : List DirEntry) → (length es == 0) ≡ true → es ≡ []
nil_of es is = nil_from_length es (grind (arith, nat_tests))

module _ (t : Tree) (g : IsGoodTree t) (dir : ℕ) (name : List ℕ) (ino : ℕ)
    (is : lookup_of t dir name ≡ Ok ino) where
  abbrev found : IsEntryIn t.records dir name ino
  found = entry_in t.records dir name ino is

  lists_live : is_linked t.records dir ≡ true
  lists_live = by_test (is_linked t.records dir) refl where
    by_test : (b : Bool) → is_linked t.records dir ≡ b → b ≡ true
    by_test true live = refl
    by_test false live = absurd (let none : entry_named name (listed found.d.body) ≡ None =
        ap (entry_named name) (g.emptied dir found.d found.at live) in let some = found.goes in cc)

  named : 0 < name_count t.records ino
  named = found_is_named false t dir name ino is

  module _ (x : Record) (there : IsAt t.records ino x) (nothing : listed x.body ≡ []) where
    is_unlinked_in : IsUnlinkedIn t dir ino name found.e found.d (parted_by name t.moment found.d) x
        (one_name_less t.moment x)
    is_unlinked_in = record {
      at = found.at;
      there = there;
      directory = found.directory;
      live = lists_live;
      goes = found.goes;
      names = found.names;
      parted = refl;
      same_links = refl;
      nothing = nothing;
      same_body = refl;
      left = refl;
    }

    records_are : (without_entry t dir name ino).records ≡ insert
        (insert t.records ino (one_name_less t.moment x)) dir (parted_by name t.moment found.d)
    records_are =
        ap (λ o. change (parted_by name t.moment) (changed (one_name_less t.moment) o t.records ino)
        dir) there
        ∙ ap (λ o. changed (parted_by name t.moment) o
        (insert t.records ino (one_name_less t.moment x)) dir)
        (mid_dir t g dir ino name found.e found.d (parted_by name t.moment found.d) x
        (one_name_less t.moment x) is_unlinked_in)

    without_good_at : IsGoodTree (without_entry t dir name ino)
    without_good_at =
        let d = g.records dir found.d found.at in
        let w = g.records ino x there in
        subst (λ (rs : Records). IsGoodTree (record t { records = rs })) (sym records_are)
        (unlinked_in_good t g dir ino name found.e found.d (parted_by name t.moment found.d) x
        (one_name_less t.moment x) is_unlinked_in
        (record {
          body = good_parted found.d.body name found.e found.directory d.body found.goes;
          mode = d.mode;
          links = d.links;
          atime = d.atime;
          mtime = g.moment;
          ctime = g.moment;
        })
        (record {
          body = w.body;
          mode = w.mode;
          links =
              (let l = w.links in let less = links_left-le x.body x.links in omega arith);
          atime =
              w.atime;
          mtime = w.mtime;
          ctime = g.moment;
        }))

    -- the directory stays linked
    without_live_at : is_linked (without_entry t dir name ino).records dir ≡ true
    without_live_at =
        ap (λ (rs : Records). is_linked rs dir) records_are
        ∙ same_linked t g dir ino name found.e found.d (parted_by name t.moment found.d) x
        (one_name_less t.moment x) is_unlinked_in dir
        (apart t g dir ino name found.e found.d (parted_by name t.moment found.d) x
        (one_name_less t.moment x) is_unlinked_in)
        ∙ lists_live

    without_kept_at : (held : ℕ → Bool) → IsKept t.records held
        → IsKeptBut (without_entry t dir name ino).records held ino
    without_kept_at held k = subst (λ (rs : Records). IsKeptBut rs held ino) (sym records_are)
        (unlinked_kept t g dir ino name found.e found.d (parted_by name t.moment found.d) x
        (one_name_less t.moment x) is_unlinked_in held k)

    without_stored_at : (held : ℕ → Bool) → AreStored t.records held
        → AreStored (without_entry t dir name ino).records held
    without_stored_at held s = subst (λ (rs : Records). AreStored rs held) (sym records_are)
        (unlinked_stored t g dir ino name found.e found.d (parted_by name t.moment found.d) x
        (one_name_less t.moment x) is_unlinked_in held s)

  -- what is named is stored
  named_at : (x : Record) × IsAt t.records ino x
  named_at = by_record (get t.records ino) refl (named_is_stored t g ino named) where
    by_record : (o : Option Record) → get t.records ino ≡ o → IsSome (get t.records ino)
        → (x : Record) × IsAt t.records ino x
    by_record None at had = absurd (false≢true (subst IsSome at had))
    by_record (Some x) at had = (x, at)

  module _ (empty : is_empty_at (body_at t.records ino) ≡ true) where
    nothing_at : listed (named_at.0).body ≡ []
    nothing_at = nil_of (listed (named_at.0).body)
        (sym (ap (λ o. is_empty_at (option_map (λ (r : Record). r.body) o)) named_at.1) ∙ empty)

    pub without_good : IsGoodTree (without_entry t dir name ino)
    without_good = without_good_at named_at.0 named_at.1 nothing_at

    pub without_live : is_linked (without_entry t dir name ino).records dir ≡ true
    without_live = without_live_at named_at.0 named_at.1 nothing_at

    pub without_kept : (held : ℕ → Bool) → IsKept t.records held
        → IsKeptBut (without_entry t dir name ino).records held ino
    without_kept = without_kept_at named_at.0 named_at.1 nothing_at

    pub without_stored : (held : ℕ → Bool) → AreStored t.records held
        → AreStored (without_entry t dir name ino).records held
    without_stored = without_stored_at named_at.0 named_at.1 nothing_at

-- ---- what may go

empty_file : (o : Option Body) → is_directory_at o ≡ false → is_empty_at o ≡ true
empty_file None is = refl
empty_file (Some b) is = ap (λ es. length es == 0) (lists_none b is)

-- what is found and is no directory
pub file_only : (rs : Records) (r : Result ℕ ℕ) (ino : ℕ) → unless_directory rs r ≡ Ok ino
    → (r ≡ Ok ino) × (is_empty_at (body_at rs ino) ≡ true)
file_only rs (Err e) ino is = absurd (cc)
file_only rs (Ok i) ino is = by_test (is_directory_at (body_at rs i)) refl is where
  by_test : (b : Bool) → is_directory_at (body_at rs i) ≡ b → cond b (Err EISDIR) (Ok i) ≡ Ok ino
      → (◌≡◌ {A = Result ℕ ℕ} (Ok i) (Ok ino)) × (is_empty_at (body_at rs ino) ≡ true)
  by_test true directory is = absurd (cc)
  by_test false file is = let same : i ≡ ino =
      cc in (
        ap (λ i. Ok i) same,
        subst (λ i. is_empty_at (body_at rs i) ≡ true) same
            (empty_file (body_at rs i) file),
      )

-- what is found and is a directory without entries
pub empty_only : (rs : Records) (r : Result ℕ ℕ) (ino : ℕ) → if_empty rs r ≡ Ok ino → (r ≡ Ok ino)
    × (is_empty_at (body_at rs ino) ≡ true)
empty_only rs (Err e) ino is = absurd (cc)
empty_only rs (Ok i) ino is = by_tests (is_directory_at (body_at rs i)) (is_empty_at (body_at rs i))
    refl is where
      by_tests : (d b : Bool) → is_empty_at (body_at rs i) ≡ b
          → cond (not d) (Err ENOTDIR) (cond b (Ok i) (Err ENOTEMPTY)) ≡ Ok ino
          → (◌≡◌ {A = Result ℕ ℕ} (Ok i) (Ok ino)) × (is_empty_at (body_at rs ino) ≡ true)
      by_tests false b nothing is = absurd (cc)
      by_tests true true nothing is = let same : i ≡ ino =
          cc in (ap (λ i. Ok i) same, subst (λ i. is_empty_at (body_at rs i) ≡ true) same nothing)
      by_tests true false nothing is = absurd (cc)

-- what may go, goes
pub removed_good : (held : ℕ → Bool) (t u : Tree) → IsGoodTree t
    → (dir : ℕ) (name : List ℕ) (r : Result ℕ ℕ)
    → ((ino : ℕ) → r ≡ Ok ino → (lookup_of t dir name ≡ Ok ino)
    × (is_empty_at (body_at t.records ino) ≡ true)) → removed_at held t dir name r ≡ Ok (tt, u)
    → IsGoodTree u
removed_good held t u g dir name (Err e) known made = absurd (cc)
removed_good held t u g dir name (Ok ino) known made =
    let found = known ino refl in
    let both : ◌≡◌ {A = Unit {0} × Tree} (tt, keep held (without_entry t dir name ino)) (tt, u) =
    cc in
    subst IsGoodTree (ap (λ (p : Unit {0} × Tree). p.1) both)
    (keep_good (without_entry t dir name ino) (without_good t g dir name ino found.0 found.1)
    held)
