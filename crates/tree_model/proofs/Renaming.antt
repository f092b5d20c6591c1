-- A name that moves leaves a good tree.
use Rattle.std.proofs.Common.{◌≡◌, ◌≢◌, ℕ, zero, suc, ◌-◌, ◌^◌, ◌<◌, Bool, true, false, cond, not}
use Rattle.std.proofs.Common.{◌&&◌, ◌||◌}
use Rattle.std.proofs.Common.{List, [], ◌∷◌, length, refl, sym, ap, ◌∙◌, subst, Option, Some, None}
use Rattle.std.proofs.Common.{Result, Ok, Err, ⊎_elim, arith, bytes_eq, unwrap_or, get_or}
use Rattle.std.specs.Prelude.{◌==◌, option_map, option_and_then, is_some, nat_le, AllPairs}
use Rattle.std.proofs.lemmas.Bool.{cases_eq, false≢true}
use Rattle.std.proofs.lemmas.Bool.Decides.{nat_tests}
use Rattle.std.proofs.lemmas.Slice.Eq.{bytes_eq-Decides}
use Rattle.std.specs.FinMap.{get}
use Rattle.std.specs.Result.{result_ok}
use Rattle.port_base.specs.Names.{name_fault}
use Rattle.port_base.specs.declared.errno.TheConstants.{ENOENT, ENOTDIR, EISDIR, EINVAL, ENOSPC}
use Rattle.port_base.specs.declared.errno.TheConstants.{ENOTEMPTY}
use Rattle.tree_model.specs.Tree.{Tree, Record, Records, Body, DirEntry, TOP, body_at, listed}
use Rattle.tree_model.specs.Tree.{is_directory, is_directory_at, is_linked, keep}
use Rattle.tree_model.specs.Tree.Body.{File, Directory, Link}
use Rattle.tree_model.specs.Good.{IsAt, IsGoodBody, IsGoodTree}
use Rattle.tree_model.specs.Finding.{entry_named, entries_of, found_among, ino_among}
use Rattle.tree_model.specs.Finding.{ino_or_missing, lookup_of}
use Rattle.tree_model.specs.Making.{change, with_entries, next_cookie, unless_refused}
use Rattle.tree_model.specs.Reading.{above}
use Rattle.tree_model.specs.Unlinking.{without, parted_by, one_name_less, without_entry}
use Rattle.tree_model.specs.Unlinking.{is_empty_at}
use Rattle.tree_model.specs.Renaming.{above_at, climbs_past, is_at_or_below, replace_refused}
use Rattle.tree_model.specs.Renaming.{room_refused, first_of, move_refused, with_moved}
use Rattle.tree_model.specs.Renaming.{without_replaced, same_ino, move_to, renamed_at, rename_of}
use Rattle.tree_model.proofs.Changing.{change_at, change_keeps}
use Rattle.tree_model.proofs.Bodies.{with_entries-is_directory, with_entries-listed}
use Rattle.tree_model.proofs.Bodies.{with_entries-next}
use Rattle.tree_model.proofs.Naming.{found_among-exact}
use Rattle.tree_model.proofs.Keeping.{keep_good}
use Rattle.tree_model.proofs.Leaving.{IsEntryIn, entry_in, without_good, without_live}
use Rattle.tree_model.proofs.Moves.{IsMove}
use Rattle.tree_model.proofs.Moving.{moved_good}

-- ---- lists without a name

-- another name is found as before
without-other : (name other : List ℕ) (es : List DirEntry) → name ≢ other
    → entry_named other (without name es) ≡ entry_named other es
without-other name other [] ne = refl
without-other name other (e ∷ es) ne = by_tests (bytes_eq e.name name) (bytes_eq e.name other) refl
    refl (without-other name other es ne) where
      by_tests : (b c : Bool) → bytes_eq e.name name ≡ b → bytes_eq e.name other ≡ c
          → entry_named other (without name es) ≡ entry_named other es
          → entry_named other (cond b es (e ∷ without name es)) ≡ cond c (Some e)
          (entry_named other es)
      by_tests true true here there later = absurd
          (ne (sym ((bytes_eq-Decides e.name name).0 here)
          ∙ (bytes_eq-Decides e.name other).0 there))
      by_tests true false here there later = refl
      by_tests false true here there later = ap (λ c. cond c (Some e)
          (entry_named other (without name es))) there
      by_tests false false here there later = ap (λ c. cond c (Some e)
          (entry_named other (without name es))) there ∙ later

no_entry : DirEntry
no_entry = record { cookie = 0; name = []; ino = 0 }

none_by : (name : List ℕ) (es : List DirEntry)
    → ((k : ℕ) → k < length es → (get_or es k no_entry).name ≢ name) → entry_named name es ≡ None
none_by name [] all = refl
none_by name (e ∷ es) all = by_test (bytes_eq e.name name) refl
    (none_by name es (λ k low. all (suc k) (omega arith))) where
      by_test : (b : Bool) → bytes_eq e.name name ≡ b → entry_named name es ≡ None
          → cond b (Some e) (entry_named name es) ≡ None
      by_test true is later = absurd (all 0 (omega arith) ((bytes_eq-Decides e.name name).0 is))
      by_test false is later = later

-- where names differ, a name that goes is gone
without-itself : (name : List ℕ) (es : List DirEntry)
    → AllPairs (λ (e f : DirEntry). e.name ≢ f.name) es → entry_named name (without name es) ≡ None
without-itself name [] pairs = refl
without-itself name (e ∷ es) pairs = by_test (bytes_eq e.name name) refl
    (without-itself name es
    (λ i j d less low. pairs (suc i) (suc j) d (omega arith) (omega arith))) where
      by_test : (b : Bool) → bytes_eq e.name name ≡ b → entry_named name (without name es) ≡ None
          → entry_named name (cond b es (e ∷ without name es)) ≡ None
      by_test true is later = none_by name es (λ k low same. pairs 0 (suc k) no_entry (omega arith)
          (omega arith) ((bytes_eq-Decides e.name name).0 is ∙ sym same))
      by_test false is later = ap (λ c. cond c (Some e) (entry_named name (without name es))) is
          ∙ later

pairs_of : (b : Body) → IsGoodBody b → AllPairs (λ (e f : DirEntry). e.name ≢ f.name) (listed b)
pairs_of (File bytes) good = λ i j d less low. absurd (omega arith)
pairs_of (Directory es next up) good = good.2
pairs_of (Link target) good = λ i j d less low. absurd (omega arith)

-- ---- what one record's change leaves

-- what a change of a record doesn't touch is told as before
change_told : {X : Type 0} (tell : Option Body → X) (f : Record → Record) (rs : Records) (i q : ℕ)
    → ((r : Record) → tell (Some (f r).body) ≡ tell (Some r.body))
    → tell (body_at (change f rs i) q) ≡ tell (body_at rs q)
change_told {X} tell f rs i q same = ⊎_elim
    (λ is.
    ap (λ q. tell (body_at (change f rs i) q)) is
    ∙ ap (λ o. tell (option_map (λ (r : Record). r.body) o)) (change_at f rs i)
    ∙ by_record (get rs i)
    ∙ ap (λ q. tell (body_at rs q)) (sym is))
    (λ ne. ap (λ o. tell (option_map (λ (r : Record). r.body) o)) (change_keeps f rs i q ne))
    (cases_eq q i) where
      by_record : (o : Option Record) → tell (option_map (λ (r : Record). r.body) (option_map f o))
          ≡ tell (option_map (λ (r : Record). r.body) o)
      by_record None = refl
      by_record (Some r) = same r

-- a record whose name goes keeps its body
pub change_body : (f : Record → Record) (rs : Records) (i q : ℕ)
    → ((r : Record) → (f r).body ≡ r.body) → (r : Record) → IsAt rs q r → (x : Record)
    × IsAt (change f rs i) q x × (x.body ≡ r.body)
change_body f rs i q same r at = ⊎_elim
    (λ is. (
      f r,
      ap (get (change f rs i)) is ∙ change_at f rs i
          ∙ ap (option_map f) (sym (ap (get rs) is) ∙ at),
      same r,
    ))
    (λ ne. (r, change_keeps f rs i q ne ∙ at, refl))
    (cases_eq q i)

with_entries-up : (b : Body) (es : List DirEntry) (next : ℕ)
    → above (with_entries b es next) ≡ above b
with_entries-up (File bytes) es next = refl
with_entries-up (Directory fs n up) es next = refl
with_entries-up (Link target) es next = refl

climbs_past-same : (rs rs' : Records) → ((q : ℕ) → above_at rs q ≡ above_at rs' q) → (ino k i : ℕ)
    → climbs_past rs ino k i ≡ climbs_past rs' ino k i
climbs_past-same rs rs' same ino zero i = refl
climbs_past-same rs rs' same ino (suc k) i =
    ap (λ b. cond (i == ino) false (cond (i == TOP) true b))
    (climbs_past-same rs rs' same ino k (above_at rs i) ∙ ap (climbs_past rs' ino k) (same i))

-- ---- what is known where nothing refuses

-- a directory is stored
pub stored_directory : (o : Option Record) → is_directory_at (option_map (λ (r : Record). r.body) o)
    ≡ true → (r : Record) × (o ≡ Some r) × (is_directory r.body ≡ true)
stored_directory None is = absurd (false≢true is)
stored_directory (Some r) is = (r, refl, is)

missing_entry : (o : Option DirEntry) (e : ℕ) → ino_or_missing o ≡ Err e → o ≡ None
missing_entry None e is = refl
missing_entry (Some f) e is = absurd (cc)

-- a name that isn't found in a directory isn't listed
not_listed : (b : Body) (name : List ℕ) (e : ℕ) → is_directory b ≡ true
    → ino_among false name (entries_of b) ≡ Err e → entry_named name (listed b) ≡ None
not_listed (File bytes) name e directory is = absurd (false≢true directory)
not_listed (Directory es next up) name e directory is = sym (found_among-exact name es)
    ∙ missing_entry (found_among false name es) e is
not_listed (Link target) name e directory is = absurd (false≢true directory)

-- where there is room, a cookie is left
cookie_left : (limit : ℕ) (more : Bool) (b : Body) → room_refused limit more (Some b) ≡ None
    → next_cookie b < 2 ^ 64 - 1
cookie_left limit more b = by_tests (more && nat_le limit (length (listed b)))
    (nat_le (2 ^ 64 - 1) (next_cookie b)) refl where
      by_tests : (f c : Bool) → nat_le (2 ^ 64 - 1) (next_cookie b) ≡ c
          → cond {A = Option ℕ} (f || c) (Some ENOSPC) None ≡ None → next_cookie b < 2 ^ 64 - 1
      by_tests true c is e = absurd (cc)
      by_tests false true is e = absurd (cc)
      by_tests false false is e = grind (arith, nat_tests)

module _ (t : Tree) (g : IsGoodTree t) (olddir : ℕ) (oldname : List ℕ) (newdir : ℕ)
    (newname : List ℕ) (fine : name_fault newname ≡ None) (ino : ℕ)
    (is : lookup_of t olddir oldname ≡ Ok ino)
    (directory : is_directory_at (body_at t.records newdir) ≡ true)
    (live : is_linked t.records newdir ≡ true)
    (away : is_directory_at (body_at t.records ino) ≡ true
    → climbs_past t.records ino t.next newdir ≡ true) (more : Bool)
    (room : room_refused t.limits.entries more (body_at t.records newdir) ≡ None) where
  abbrev rs : Records
  rs = t.records

  n : (r : Record) × IsAt rs newdir r × (is_directory r.body ≡ true)
  n = stored_directory (get rs newdir) directory

  old : IsEntryIn rs olddir oldname ino
  old = entry_in rs olddir oldname ino is

  room_there : next_cookie (n.0).body < 2 ^ 64 - 1
  room_there = cookie_left t.limits.entries more (n.0).body
      (sym (ap (λ o. room_refused t.limits.entries more
      (option_map (λ (r : Record). r.body) o)) n.1) ∙ room)

  -- nothing has the new name
  pub free_move : (e : ℕ) → lookup_of t newdir newname ≡ Err e
      → IsMove t olddir oldname newdir newname ino
  free_move e none = record {
    old = old;
    n = n.0;
    there = n.1;
    directory = n.2;
    live = live;
    new = not_listed (n.0).body newname e n.2
        (sym (ap (λ o. ino_among false newname
        (option_and_then entries_of (option_map (λ (r : Record). r.body) o))) n.1) ∙ none);
    fine = fine;
    room = room_there;
    steps = t.next;
    past = away;
  }

  -- what has the new name goes
  module _ (i : ℕ) (found : lookup_of t newdir newname ≡ Ok i)
      (empty : is_empty_at (body_at t.records i) ≡ true) (other : i ≢ ino) where
    abbrev left : Tree
    left = without_entry t newdir newname i

    abbrev mid : Records
    mid = change (one_name_less t.moment) rs i

    -- what the record at a number is without the entry
    at_mid : (q : ℕ) (r : Record) → IsAt rs q r → (x : Record) × IsAt mid q x × (x.body ≡ r.body)
    at_mid q r at = change_body (one_name_less t.moment) rs i q (λ r. refl) r at

    abbrev x : Record
    x = (at_mid newdir n.0 n.1).0

    x_directory : is_directory x.body ≡ true
    x_directory = ap is_directory (at_mid newdir n.0 n.1).2 ∙ n.2

    at_new : IsAt left.records newdir (parted_by newname t.moment x)
    at_new = change_at (parted_by newname t.moment) mid newdir
        ∙ ap (option_map (parted_by newname t.moment)) (at_mid newdir n.0 n.1).1

    lists_rest : (y : Record) → is_directory y.body ≡ true
        → listed (parted_by newname t.moment y).body ≡ without newname (listed y.body)
    lists_rest y plain = with_entries-listed y.body (without newname (listed y.body))
        (next_cookie y.body) plain

    old_left : IsEntryIn left.records olddir oldname ino
    old_left =
        let y = at_mid olddir old.d old.at in
        let plain = ap is_directory y.2 ∙ old.directory in
        ⊎_elim
        (λ eq. record {
          d = parted_by newname t.moment y.0;
          e = old.e;
          at = ap (get left.records) eq ∙ change_at (parted_by newname t.moment) mid newdir
              ∙ ap (option_map (parted_by newname t.moment)) (sym (ap (get mid) eq) ∙ y.1);
          directory = with_entries-is_directory (y.0).body _ _ ∙ plain;
          goes = ap (entry_named oldname) (lists_rest y.0 plain)
              ∙ without-other newname oldname (listed (y.0).body)
              (λ same. other (let both : ◌≡◌ {A = Result ℕ ℕ} (Ok i) (Ok ino) = sym found
              ∙ ap (lookup_of t newdir) same ∙ ap (λ dir. lookup_of t dir oldname) (sym eq)
              ∙ is in cc))
              ∙ ap (λ b. entry_named oldname (listed b)) y.2 ∙ old.goes;
          names = old.names;
        })
        (λ ne. record {
          d = y.0;
          e = old.e;
          at = change_keeps (parted_by newname t.moment) mid newdir olddir ne ∙ y.1;
          directory = plain;
          goes = ap (λ b. entry_named oldname (listed b)) y.2 ∙ old.goes;
          names = old.names;
        })
        (cases_eq olddir newdir)

    same_above : (q : ℕ) → above_at rs q ≡ above_at left.records q
    same_above q = sym (
        change_told (λ o. unwrap_or (option_map above o) 0) (parted_by newname t.moment) mid newdir
        q (λ r. with_entries-up r.body _ _)
        ∙ change_told (λ o. unwrap_or (option_map above o) 0) (one_name_less t.moment) rs i q
        (λ r. refl))

    same_kind : is_directory_at (body_at left.records ino) ≡ is_directory_at (body_at rs ino)
    same_kind =
        change_told is_directory_at (parted_by newname t.moment) mid newdir ino
        (λ r. with_entries-is_directory r.body _ _)
        ∙ change_told is_directory_at (one_name_less t.moment) rs i ino (λ r. refl)

    pub replacing_move : IsMove left olddir oldname newdir newname ino
    replacing_move = record {
      old = old_left;
      n = parted_by newname t.moment x;
      there = at_new;
      directory = with_entries-is_directory x.body _ _ ∙ x_directory;
      live = without_live t g newdir newname i found empty;
      new = ap (entry_named newname) (lists_rest x x_directory)
          ∙ without-itself newname (listed x.body)
          (pairs_of x.body (subst IsGoodBody (sym (at_mid newdir n.0 n.1).2)
          (g.records newdir n.0 n.1).body));
      fine = fine;
      room = subst (λ k. k < 2 ^ 64 - 1) (sym (with_entries-next x.body
          (without newname (listed x.body)) (next_cookie x.body) x_directory
          ∙ ap next_cookie (at_mid newdir n.0 n.1).2)) room_there;
      steps = t.next;
      past = λ moves. sym (climbs_past-same rs left.records same_above ino t.next newdir)
          ∙ away (sym same_kind ∙ moves);
    }

-- ---- the refusals

away_from : (d c : Bool) → (d && not c) ≡ false → d ≡ true → c ≡ true
away_from true true e is = refl
away_from true false e is = absurd (false≢true (sym e))
away_from false c e is = absurd (false≢true is)

both_none : (o p : Option ℕ) → first_of o p ≡ None → (o ≡ None) × (p ≡ None)
both_none None p e = (refl, e)
both_none (Some d) p e = absurd (cc)

pub empty_place : (m r e : Bool) → cond {A = Option ℕ} (m && not r) (Some ENOTDIR)
    (cond (not m && r) (Some EISDIR) (cond e None (Some ENOTEMPTY))) ≡ None → e ≡ true
empty_place true true true is = refl
empty_place true true false is = absurd (cc)
empty_place true false e is = absurd (cc)
empty_place false true e is = absurd (cc)
empty_place false false true is = refl
empty_place false false false is = absurd (cc)

-- what nothing refuses to move
pub record IsFree (t : Tree) (newdir ino : ℕ) (there : Option ℕ) (more : Bool) : Type 0 where
  pub away : is_directory_at (body_at t.records ino) ≡ true
      → climbs_past t.records ino t.next newdir ≡ true
  pub place : replace_refused t.records ino there ≡ None
  pub room : room_refused t.limits.entries more (body_at t.records newdir) ≡ None

pub free_of : (t : Tree) (olddir newdir ino : ℕ) (there : Option ℕ)
    → move_refused t olddir newdir ino there ≡ None
    → IsFree t newdir ino there (not (is_some there) && not (olddir == newdir))
free_of t olddir newdir ino there = by_test (is_at_or_below t ino newdir) refl where
  by_test : (b : Bool) → is_at_or_below t ino newdir ≡ b
      → cond b (Some EINVAL) (first_of (replace_refused t.records ino there)
      (room_refused t.limits.entries (not (is_some there) && not (olddir == newdir))
      (body_at t.records newdir))) ≡ None
      → IsFree t newdir ino there (not (is_some there) && not (olddir == newdir))
  by_test true below e = absurd (cc)
  by_test false below e =
      let both = both_none (replace_refused t.records ino there)
      (room_refused t.limits.entries (not (is_some there) && not (olddir == newdir))
      (body_at t.records newdir)) e in
      record {
        away = away_from (is_directory_at (body_at t.records ino))
            (climbs_past t.records ino t.next newdir) below;
        place = both.0;
        room = both.1;
      }

-- ---- the tree

-- what a move is known of, in the tree without what it replaces
module _ (t : Tree) (g : IsGoodTree t) (olddir : ℕ) (oldname : List ℕ) (newdir : ℕ)
    (newname : List ℕ) (fine : name_fault newname ≡ None) (ino : ℕ)
    (is : lookup_of t olddir oldname ≡ Ok ino)
    (directory : is_directory_at (body_at t.records newdir) ≡ true)
    (live : is_linked t.records newdir ≡ true) where
  pub move_is : (r : Result ℕ ℕ) → lookup_of t newdir newname ≡ r
      → same_ino ino (result_ok r) ≡ false → move_refused t olddir newdir ino (result_ok r) ≡ None
      → IsGoodTree (without_replaced t newdir newname (result_ok r))
      × IsMove (without_replaced t newdir newname (result_ok r)) olddir oldname newdir newname
      ino
  move_is (Err e) found other free = (
    g,
    let known = free_of t olddir newdir ino None free in
        free_move t g olddir oldname newdir newname fine ino is directory live known.away
        (not (olddir == newdir)) known.room e found,
  )
  move_is (Ok i) found other free =
      let known = free_of t olddir newdir ino (Some i) free in
      let empty = empty_place (is_directory_at (body_at t.records ino))
      (is_directory_at (body_at t.records i)) (is_empty_at (body_at t.records i)) known.place in
      let ne : i ≢ ino = λ same. false≢true (sym other
      ∙ (let is : (i == ino) ≡ true = grind (arith, nat_tests) in is)) in (
        without_good t g newdir newname i found empty,
        replacing_move t g olddir oldname newdir
            newname fine ino is directory live known.away false known.room i found empty ne,
      )

same_or_moved : (held : ℕ → Bool) (b : Bool) (o : Option ℕ) (t v u : Tree)
    → cond {A = Result (Unit {0} × Tree) ℕ} b (Ok (tt, t)) (unless_refused o tt (keep held v)) ≡ Ok
    (tt, u) → IsGoodTree t → (b ≡ false → o ≡ None → IsGoodTree v) → IsGoodTree u
same_or_moved held true o t v u is g good = let both : ◌≡◌ {A = Unit {0} × Tree} (tt, t) (tt, u) =
    cc in subst IsGoodTree (ap (λ (p : Unit {0} × Tree). p.1) both) g
same_or_moved held false (Some e) t v u is g good = absurd (cc)
same_or_moved held false None t v u is g good =
    let both : ◌≡◌ {A = Unit {0} × Tree} (tt, keep held v) (tt, u) = cc in
    subst IsGoodTree (ap (λ (p : Unit {0} × Tree). p.1) both) (keep_good v (good refl refl) held)

abbrev told_at : Tree → ℕ → List ℕ → Option ℕ
told_at t dir name = result_ok (lookup_of t dir name)

pub renamed_good : (held : ℕ → Bool) (t : Tree) → IsGoodTree t
    → (olddir : ℕ) (oldname : List ℕ) (newdir : ℕ) (newname : List ℕ) → name_fault newname ≡ None
    → (u : Tree) → rename_of held t olddir oldname newdir newname ≡ Ok (tt, u) → IsGoodTree u
renamed_good held t g olddir oldname newdir newname fine u =
    by_kinds (is_directory_at (body_at t.records olddir))
    (is_directory_at (body_at t.records newdir)) refl where
      by_link : (ino : ℕ) → lookup_of t olddir oldname ≡ Ok ino
          → is_directory_at (body_at t.records newdir) ≡ true → (b : Bool)
          → is_linked t.records newdir ≡ b
          → cond (not b) (Err ENOENT) (move_to held t olddir oldname newdir newname ino
          (told_at t newdir newname)) ≡ Ok (tt, u) → IsGoodTree u
      by_link ino is directory false live made = absurd (cc)
      by_link ino is directory true live made =
          same_or_moved held (same_ino ino (told_at t newdir newname))
          (move_refused t olddir newdir ino (told_at t newdir newname)) t
          (with_moved (without_replaced t newdir newname (told_at t newdir newname)) olddir oldname
          newdir newname ino) u made g (λ other free.
          let move = move_is t g olddir oldname newdir newname fine ino is directory live
          (lookup_of t newdir newname) refl other free in
          moved_good (without_replaced t newdir newname (told_at t newdir newname)) move.0 olddir
          oldname newdir newname ino move.1)

      by_old : is_directory_at (body_at t.records newdir) ≡ true → (r : Result ℕ ℕ)
          → lookup_of t olddir oldname ≡ r → renamed_at held t olddir oldname newdir newname r ≡ Ok
          (tt, u) → IsGoodTree u
      by_old directory (Err e) is made = absurd (cc)
      by_old directory (Ok ino) is made = by_link ino is directory (is_linked t.records newdir) refl
          made

      by_kinds : (b c : Bool) → is_directory_at (body_at t.records newdir) ≡ c
          → cond (not b || not c) (Err ENOTDIR) (renamed_at held t olddir oldname newdir newname
          (lookup_of t olddir oldname)) ≡ Ok (tt, u) → IsGoodTree u
      by_kinds false c is made = absurd (cc)
      by_kinds true false is made = absurd (cc)
      by_kinds true true is made = by_old is (lookup_of t olddir oldname) refl made
