-- A good tree with a file more is good, and so is a new tree.
use Rattle.std.proofs.Common.{◌≡◌, ◌≢◌, ℕ, zero, ◌+◌, ◌-◌, ◌^◌, ◌<◌, ◌≤◌, Bool, true, false, cond}
use Rattle.std.proofs.Common.{not, ◌||◌, List, [], length, refl, sym, ap, ◌∙◌, subst, Option, Some}
use Rattle.std.proofs.Common.{None, Ok, ⊎_elim, arith, IsSome, IsTrue, nat_lt}
use Rattle.std.specs.Prelude.{option_map, is_some, nat_le, Contains}
use Rattle.std.proofs.lemmas.Bool.{cases_eq, false≢true}
use Rattle.std.proofs.lemmas.Bool.Decides.{nat_tests}
use Rattle.std.proofs.lemmas.Grind.{merely}
use Rattle.std.specs.Ordering.{nat_cmp}
use Rattle.std.specs.FinMap.{get, insert, empty, get-empty}
use Rattle.port_base.specs.Names.{name_fault}
use Rattle.port_base.specs.declared.errno.TheConstants.{ENOENT, EEXIST, ENOTDIR, EFBIG, ENOSPC}
use Rattle.tree_model.specs.declared.attributes.Stamp.{Stamp}
use Rattle.tree_model.specs.declared.attributes.Limits.{Limits}
use Rattle.tree_model.specs.Tree.{Tree, Record, Records, DirEntry, TOP, body_at, listed}
use Rattle.tree_model.specs.Tree.{is_directory, is_directory_at, name_count, names_in, is_linked}
use Rattle.tree_model.specs.Tree.{weight}
use Rattle.tree_model.specs.Tree.Body.{Directory}
use Rattle.tree_model.specs.Good.{IsAt, IsGoodStamp, IsGoodLimits, IsGoodRecord, IsGoodTree, Climbs}
use Rattle.tree_model.specs.Good.{links_of}
use Rattle.tree_model.specs.Sound.{IsCounted, AreStored, has_no_links}
use Rattle.tree_model.specs.Finding.{entry_named}
use Rattle.tree_model.specs.Making.{new_tree, next_cookie, changed, joined_by, is_full}
use Rattle.tree_model.specs.Making.{new_name_refused, NewFile, file_record, add_refused, with_file}
use Rattle.tree_model.specs.Making.{unless_refused}
use Rattle.tree_model.proofs.Maps.{inserted, insert_keeps}
use Rattle.tree_model.proofs.Counting.{weigh-insert, weigh-empty}
use Rattle.tree_model.proofs.Naming.{named_is_stored}
use Rattle.tree_model.proofs.Sweeping.{no_links}
use Rattle.tree_model.proofs.Bodies.{good_joined, same_some}
use Rattle.tree_model.proofs.Adding.{IsAdded, mid_dir, added_good}

-- ---- what is known where a new name is let in

by_tests : (d l n f : Bool) → cond {A = Option ℕ} (not d) (Some ENOTDIR)
    (cond (not l) (Some ENOENT) (cond n (Some EEXIST) (cond f (Some ENOSPC) None))) ≡ None
    → (d ≡ true) × (l ≡ true) × (n ≡ false) × (f ≡ false)
by_tests true true false false e = (refl, refl, refl, refl)
by_tests true true false true e = absurd (cc)
by_tests true true true f e = absurd (cc)
by_tests true false n f e = absurd (cc)
by_tests false l n f e = absurd (cc)

none_of : {X : Type 0} (o : Option X) → is_some o ≡ false → o ≡ None
none_of None e = refl
none_of (Some x) e = absurd (false≢true (sym e))

or_false : (a b : Bool) → (a || b) ≡ false → (a ≡ false) × (b ≡ false)
or_false true b e = absurd (false≢true (sym e))
or_false false b e = (refl, e)

below : (n k : ℕ) → nat_le k n ≡ false → n < k
below n k e = grind (arith, nat_tests)

at_most : (n k : ℕ) → nat_lt k n ≡ false → n ≤ k
at_most n k e = grind (arith, nat_tests)

pub record IsLetIn (rs : Records) (next dir : ℕ) (name : List ℕ) : Type 0 where
  pub d : Record
  pub at : IsAt rs dir d
  pub directory : is_directory d.body ≡ true
  pub live : is_linked rs dir ≡ true
  pub new : entry_named name (listed d.body) ≡ None
  pub number : next < 2 ^ 64 - 1
  pub room : next_cookie d.body < 2 ^ 64 - 1

pub let_in : (rs : Records) (limit next dir : ℕ) (name : List ℕ)
    → new_name_refused (is_linked rs dir) limit next name (body_at rs dir) ≡ None
    → IsLetIn rs next dir name
let_in rs limit next dir name = by_record (get rs dir) refl where
  by_record : (o : Option Record) → get rs dir ≡ o
      → new_name_refused (is_linked rs dir) limit next name (body_at rs dir) ≡ None
      → IsLetIn rs next dir name
  by_record None at e = absurd (let f : new_name_refused (is_linked rs dir) limit next name None
      ≡ None = rw at at e in cc)
  by_record (Some d) at e =
      let known = by_tests (is_directory d.body) (is_linked rs dir)
      (is_some (entry_named name (listed d.body))) (is_full limit next d.body) (rw at at e) in
      let parts = or_false (nat_le limit (length (listed d.body)) || nat_le (2 ^ 64 - 1) next)
      (nat_le (2 ^ 64 - 1) (next_cookie d.body)) known.3 in
      let firsts = or_false (nat_le limit (length (listed d.body))) (nat_le (2 ^ 64 - 1) next)
      parts.0 in
      record {
        d = d;
        at = at;
        directory = known.0;
        live = known.1;
        new =
            none_of (entry_named name (listed d.body)) known.2;
        number =
            below next (2 ^ 64 - 1) firsts.1;
        room = below (next_cookie d.body) (2 ^ 64 - 1) parts.1;
      }

-- links tell whether a directory is linked
double : (b : Bool) → not (not b) ≡ b
double true = refl
double false = refl

pub refused_by_links : {rs : Records} {next : ℕ} {held : ℕ → Bool} → IsCounted rs next held
    → (limit n dir : ℕ) (name : List ℕ)
    → new_name_refused (not (has_no_links (get rs dir))) limit n name (body_at rs dir)
    ≡ new_name_refused (is_linked rs dir) limit n name (body_at rs dir)
refused_by_links {rs = rs} s limit n dir name = by_record (get rs dir) refl where
  by_record : (o : Option Record) → get rs dir ≡ o
      → new_name_refused (not (has_no_links (get rs dir))) limit n name (body_at rs dir)
      ≡ new_name_refused (is_linked rs dir) limit n name (body_at rs dir)
  by_record None at = rw at refl
  by_record (Some r) at = ap (λ b. new_name_refused b limit n name (body_at rs dir))
      (ap not (no_links s dir r at) ∙ double (is_linked rs dir))

-- ---- a file more

refused_first : (o : Option ℕ) (limit : ℕ) (f : NewFile) → add_refused o limit f ≡ None → (o ≡ None)
    × (nat_lt limit (length f.bytes) ≡ false)
refused_first (Some e) limit f is = absurd (cc)
refused_first None limit f is = (refl, by_test (nat_lt limit (length f.bytes)) is) where
  by_test : (b : Bool) → cond b (Some EFBIG) None ≡ None → b ≡ false
  by_test true is = absurd (cc)
  by_test false is = refl

module _ (t : Tree) (g : IsGoodTree t) (born : Stamp) (dir : ℕ) (name : List ℕ) (f : NewFile)
    (w : IsLetIn t.records t.next dir name) where
  pub file_added : IsAdded t dir name w.d (joined_by name t.next w.d) (file_record born f)
  file_added = record {
    at = w.at;
    directory = w.directory;
    live = w.live;
    joined = refl;
    same_links = refl;
    lists = refl;
    shows = refl;
    under = λ es next up is. absurd (cc);
    number = w.number;
  }

  pub with_file-records : (with_file born t dir name f).records ≡ insert
      (insert t.records t.next (file_record born f)) dir (joined_by name t.next w.d)
  with_file-records = ap (λ o. changed (joined_by name t.next) o
      (insert t.records t.next (file_record born f)) dir)
      (mid_dir t g dir name w.d (joined_by name t.next w.d) (file_record born f) file_added)

  module _ (fine : name_fault name ≡ None) (mode : f.mode < 4096) (stamp : IsGoodStamp born)
      (short : length f.bytes ≤ t.limits.file) where
    pub good_file : IsGoodRecord (file_record born f)
    good_file = record {
      body = (let l = g.limits.0 in omega arith);
      mode = mode;
      links =
          omega arith;
      atime = stamp;
      mtime = stamp;
      ctime = stamp;
    }

    pub good_directory : IsGoodRecord (joined_by name t.next w.d)
    good_directory = let r = g.records dir w.d w.at in
        record {
          body = good_joined w.d.body name t.next w.directory r.body fine w.new
              w.room;
          mode =
              r.mode;
          links = r.links;
          atime = r.atime;
          mtime = r.mtime;
          ctime = r.ctime;
        }

    pub with_file_good : IsGoodTree (with_file born t dir name f)
    with_file_good = subst (λ (rs : Records). IsGoodTree
        (record t { records = rs; next = t.next + 1 })) (sym with_file-records)
        (added_good t g dir name w.d (joined_by name t.next w.d) (file_record born f) file_added
        good_directory good_file)

-- where a file is not refused, the tree with it is good
pub added_file_good : (t : Tree) → IsGoodTree t
    → (born : Stamp) (dir : ℕ) (name : List ℕ) (f : NewFile) → IsGoodStamp born
    → name_fault name ≡ None → f.mode < 4096
    → (o : Option ℕ) → add_refused (new_name_refused (is_linked t.records dir) t.limits.entries
    t.next name (body_at t.records dir)) t.limits.file f ≡ o
    → (ino : ℕ) (u : Tree) → unless_refused o t.next (with_file born t dir name f) ≡ Ok (ino, u)
    → IsGoodTree u
added_file_good t g born dir name f stamp fine mode (Some e) is ino u made = absurd (cc)
added_file_good t g born dir name f stamp fine mode None is ino u made =
    let known = refused_first (new_name_refused (is_linked t.records dir) t.limits.entries t.next
    name (body_at t.records dir)) t.limits.file f is in
    let w = let_in t.records t.limits.entries t.next dir name known.0 in
    subst IsGoodTree (ap (λ (p : ℕ × Tree). p.1)
    (let pairs : ◌≡◌ {A = ℕ × Tree} (t.next, with_file born t dir name f) (ino, u) =
    cc in pairs)) (with_file_good t g born dir name f w fine mode stamp
    (at_most (length f.bytes) t.limits.file known.1))

-- ---- a new tree

module _ (limits : Limits) (moment born : Stamp) (mode uid gid : ℕ) where
  abbrev first : Record
  first = record {
    body = Directory [] 1 TOP;
    mode = mode;
    uid = uid;
    gid = gid;
    links = 2;
    atime =
        born;
    mtime = born;
    ctime = born;
  }

  abbrev alone : Records
  alone = insert empty TOP first

  names_none : (q : ℕ) → name_count alone q ≡ 0
  names_none q =
      let step = weigh-insert (names_in q) empty TOP first in
      let none = weigh-empty {X = Record} (names_in q) in
      let nothing : weight (names_in q) (get empty TOP) ≡ 0 =
      ap (weight (names_in q)) (get-empty nat_cmp TOP) in
      omega arith

  is_first : (q : ℕ) (x : Record) → IsAt alone q x → (q ≡ TOP) × (first ≡ x)
  is_first q x is = ⊎_elim
      (λ eq. (
        eq,
        same_some first x (sym (inserted empty TOP first) ∙ sym (ap (get alone) eq)
            ∙ is),
      ))
      (λ ne. absurd (let none : get alone q ≡ None = insert_keeps empty TOP first q ne
      ∙ get-empty nat_cmp q in cc))
      (cases_eq q TOP)

  of_first : (P : ℕ → Record → Type 0) → P TOP first → (q : ℕ) (x : Record) → IsAt alone q x → P q x
  of_first P here q x is = let w = is_first q x is in subst (λ q. P q x) (sym w.0)
      (subst (P TOP) w.1 here)

  pub new_tree_good : IsGoodLimits limits → IsGoodStamp moment → IsGoodStamp born → mode < 4096
      → IsGoodTree (new_tree limits moment born mode uid gid)
  new_tree_good good_limits good_moment good_born good_mode = record {
    limits = good_limits;
    moment = good_moment;
    next = omega arith;
    top_is_directory = subst (λ o. is_directory_at (option_map (λ (r : Record). r.body) o) ≡ true)
        (sym (inserted empty TOP first)) refl;
    numbers = of_first (λ q x. (1 ≤ q) × (q < 2)) (omega arith, omega arith);
    records = of_first (λ q x. IsGoodRecord x)
        (record {
          body = (
            omega arith,
            λ k d low. absurd (omega arith),
            λ i j d less low. absurd
                (omega arith),
            omega arith,
          );
          mode = good_mode;
          links = omega arith;
          atime = good_born;
          mtime =
              good_born;
          ctime = good_born;
        });
    entries = λ q x e is c. of_first (λ q x. (e : DirEntry) → Contains (listed x.body) e
        → IsSome (get alone e.ino) × (e.ino ≢ TOP)) (λ e c. absurd (let low = c.1 in omega arith)) q
        x is e c;
    links = of_first (λ q x. x.links ≡ links_of x.body (name_count alone q) (is_linked alone q))
        refl;
    once = of_first (λ q x. IsTrue (is_directory x.body) → name_count alone q ≤ 1)
        (λ is. let none = names_none TOP in omega arith);
    above = λ q x es n up is body live ne. absurd (ne (is_first q x is).0);
    top_above = λ x es n up at is. let bodies : Directory [] 1 TOP ≡ Directory es n up =
        ap (λ (r : Record). r.body) (is_first TOP x at).1 ∙ is in cc;
    climbs = of_first (λ q x. IsTrue (is_directory x.body) → IsTrue (is_linked alone q)
        → ∥ ((n : ℕ) × Climbs alone n q) ∥₁) (λ is live. merely (zero, refl));
    emptied = of_first (λ q x. is_linked alone q ≡ false → listed x.body ≡ []) (λ loose. refl);
  }

-- ---- a good tree is counted

pub good_is_counted : (t : Tree) (held : ℕ → Bool) → IsGoodTree t → AreStored t.records held
    → IsCounted t.records t.next held
good_is_counted t held g s = record {
  top_is_directory = λ r at. subst (λ o. is_directory_at (option_map (λ (r : Record). r.body) o)
      ≡ true) at g.top_is_directory;
  numbers = λ i r at. (g.numbers i r at).1;
  links = g.links;
  emptied = g.emptied;
  named = named_is_stored t g;
  holds = s;
}
