-- A name that moves.
use Rattle.std.proofs.Common.{◌≡◌, ◌≢◌, ℕ, suc, ◌+◌, ◌-◌, ◌<◌, Bool, true, false, cond, ◌||◌, List}
use Rattle.std.proofs.Common.{[], ◌∷◌, ◌++◌, refl, sym, ap, ◌∙◌, subst, Option, Some, None, Result}
use Rattle.std.proofs.Common.{Ok, Err, IsSome, ⊎_elim, arith, bytes_eq}
use Rattle.std.specs.Prelude.{◌==◌, option_map, not, OnOk, IfErr}
use Rattle.std.proofs.lemmas.Bool.{cases_eq}
use Rattle.std.proofs.lemmas.Bool.Decides.{nat_tests}
use Rattle.std.specs.FinMap.{get}
use Rattle.port_base.specs.Names.{name_fault}
use Rattle.tree_model.specs.declared.attributes.Stamp.{Stamp}
use Rattle.tree_model.specs.declared.attributes.HostError.{HostError}
use Rattle.tree_model.specs.declared.attributes.HostError.TheVariants.{Errno, Fault, NoMemory}
use Rattle.tree_model.specs.declared.attributes.TheConstants.{TOP}
use Rattle.tree_model.specs.Tree.{Tree, Record, Records, Body, DirEntry, body_at, listed}
use Rattle.tree_model.specs.Tree.{is_directory_at, is_linked, keep}
use Rattle.tree_model.specs.Tree.Body.{File, Directory, Link}
use Rattle.tree_model.specs.Good.{IsAt, IsGoodTree}
use Rattle.tree_model.specs.Sound.{IsKept, IsKeptBut, AreStored, has_no_links}
use Rattle.tree_model.specs.Finding.{entry_named, entries_at, ino_among, lookup_of}
use Rattle.tree_model.specs.Making.{change, joined_by, with_entries, next_cookie, unless_refused}
use Rattle.std.specs.Result.{result_ok}
use Rattle.tree_model.specs.Creating.{stamped}
use Rattle.tree_model.specs.Unlinking.{without, parted_by, one_name_less, without_entry}
use Rattle.tree_model.specs.Unlinking.{is_empty_at}
use Rattle.tree_model.specs.Renaming.{above_at, climbs_past, moved_below, move_refused, with_moved}
use Rattle.tree_model.specs.Renaming.{without_replaced, same_ino, move_to}
use Rattle.tree_model.proofs.Maps.{retained, same_gets}
use Rattle.tree_model.proofs.Changing.{change_at, change_keeps, changes_commute}
use Rattle.tree_model.proofs.Bodies.{with_entries-is_directory, same_some}
use Rattle.tree_model.proofs.Files.{good_is_counted}
use Rattle.tree_model.proofs.Keeping.{keep_good, keep_kept, keep_stored}
use Rattle.tree_model.proofs.Sweeping.{kept_is_swept, no_links}
use Rattle.tree_model.proofs.Leaving.{entry_in, without_kept, without_stored}
use Rattle.tree_model.proofs.Moves.{IsMove}
use Rattle.tree_model.proofs.Moving.{moved_good, moved_kept, moved_kept_but, moved_stored}
use Rattle.tree_model.proofs.Renaming.{change_body, stored_directory, free_of, empty_place, move_is}
use Rattle.tree_host.specs.Holds.{Holds, is_held}
use Rattle.tree_host.specs.Host.{IsHeldIn, Leaves}
use Rattle.tree_host.specs.Kept.{tree_from, replaced_in, swept_of}

-- ---- climbs

one_step : (rs : Records) (ino k at : ℕ) → at ≢ ino → at ≢ TOP
    → climbs_past rs ino (suc k) at ≡ climbs_past rs ino k (above_at rs at)
one_step rs ino k at here high =
    let not_it : (at == ino) ≡ false = grind (arith, nat_tests) in
    let not_top : (at == TOP) ≡ false = grind (arith, nat_tests) in
    ap (λ b. cond b false (cond (at == TOP) true (climbs_past rs ino k (above_at rs at)))) not_it
    ∙ ap (λ b. cond b true (climbs_past rs ino k (above_at rs at))) not_top

pub climb_step : (rs : Records) (ino steps counter at up : ℕ) → counter < steps → at ≢ ino
    → at ≢ TOP → up ≡ above_at rs at
    → climbs_past rs ino (steps - (counter + 1)) up ≡ climbs_past rs ino (steps - counter) at
climb_step rs ino steps counter at up low here high is =
    let more : steps - counter ≡ suc (steps - (counter + 1)) = omega arith in
    ap (climbs_past rs ino (steps - (counter + 1))) is
    ∙ sym (ap (λ n. climbs_past rs ino n at) more
    ∙ one_step rs ino (steps - (counter + 1)) at here high)

-- ---- a new entry that is added first

without-push : (name : List ℕ) (es : List DirEntry) (x e : DirEntry) → entry_named name es ≡ Some e
    → without name (es ++ x ∷ []) ≡ without name es ++ x ∷ []
without-push name [] x e is = absurd (cc)
without-push name (f ∷ es) x e is = by_test (bytes_eq f.name name) is
    (λ is. without-push name es x e is) where
      by_test : (b : Bool) → cond b (Some f) (entry_named name es) ≡ Some e
          → (entry_named name es ≡ Some e → without name (es ++ x ∷ []) ≡ without name es ++ x ∷ [])
          → cond b (es ++ x ∷ []) (f ∷ without name (es ++ x ∷ [])) ≡ cond b es
          (f ∷ without name es)
          ++ x ∷ []
      by_test true is later = refl
      by_test false is later = ap (λ es. f ∷ es) (later is)

abbrev pub parted_body : List ℕ → Body → Body
parted_body name b = with_entries b (without name (listed b)) (next_cookie b)

abbrev pub joined_body : List ℕ → ℕ → Body → Body
joined_body name ino b = with_entries b (listed b
    ++ (record { cookie = next_cookie b; name = name; ino = ino } ∷ [])) (next_cookie b + 1)

bodies_swap : (name newname : List ℕ) (ino : ℕ) (e : DirEntry) (b : Body)
    → entry_named name (listed b) ≡ Some e → parted_body name (joined_body newname ino b)
    ≡ joined_body newname ino (parted_body name b)
bodies_swap name newname ino e (File bytes) is = refl
bodies_swap name newname ino e (Directory es next up) is =
    ap (λ es. Directory es (next + 1) up) (without-push name es
    (record { cookie = next; name = newname; ino = ino }) e is)
bodies_swap name newname ino e (Link target) is = refl

parts_joins : (name newname : List ℕ) (ino : ℕ) (moment : Stamp) (e : DirEntry) (r : Record)
    → entry_named name (listed r.body) ≡ Some e
    → parted_by name moment (joined_by newname ino r) ≡ joined_by newname ino
    (parted_by name moment r)
parts_joins name newname ino moment e r is = ap
    (λ (b : Body). let left : Record = record r { body = b; mtime = moment; ctime = moment }
    in left) (bodies_swap name newname ino e r.body is)

names_joins : (newname : List ℕ) (ino : ℕ) (moment : Stamp) (r : Record)
    → one_name_less moment (joined_by newname ino r) ≡ joined_by newname ino
    (one_name_less moment r)
names_joins newname ino moment r =
    ap (λ d. let left : Record = record r {
      body = joined_body newname ino r.body;
      links =
          cond d 0 (r.links - 1);
      ctime = moment;
    } in left) (with_entries-is_directory r.body _ _)

-- changes can be made in either order where they can at the one record that both change
pub changes_swap : (f h : Record → Record) (rs : Records) (a b : ℕ)
    → ((r : Record) → IsAt rs a r → a ≡ b → f (h r) ≡ h (f r))
    → change f (change h rs a) b ≡ change h (change f rs b) a
changes_swap f h rs a b swap = ⊎_elim
    (λ is. ap (change f (change h rs a)) (sym is) ∙ at_one is
    ∙ ap (λ b. change h (change f rs b) a) is)
    (λ ne. changes_commute f h rs a b ne)
    (cases_eq a b) where
      twice : a ≡ b → (o : Option Record) → get rs a ≡ o
          → option_map f (option_map h o) ≡ option_map h (option_map f o)
      twice is None at = refl
      twice is (Some r) at = ap (λ r. Some r) (swap r at is)

      at_one : a ≡ b → change f (change h rs a) a ≡ change h (change f rs a) a
      at_one is = same_gets _ _ (λ q. ⊎_elim
          (λ eq.
          ap (get (change f (change h rs a) a)) eq ∙ change_at f (change h rs a) a
          ∙ ap (option_map f) (change_at h rs a) ∙ twice is (get rs a) refl
          ∙ sym (ap (get (change h (change f rs a) a)) eq ∙ change_at h (change f rs a) a
          ∙ ap (option_map h) (change_at f rs a)))
          (λ nq. change_keeps f (change h rs a) a q nq ∙ change_keeps h rs a q nq
          ∙ sym (change_keeps h (change f rs a) a q nq ∙ change_keeps f rs a q nq))
          (cases_eq q a))

-- what is replaced can go before the new entry comes
pub replaced_later : (rs : Records) (moment : Stamp) (dir : ℕ) (name : List ℕ) (ino : ℕ)
    (r : Result ℕ ℕ) → ino_among false name (entries_at rs dir) ≡ r
    → replaced_in moment dir name (result_ok r) (change (joined_by name ino) rs dir) ≡ change
    (joined_by name ino) (replaced_in moment dir name (result_ok r) rs) dir
replaced_later rs moment dir name ino (Err e) is = refl
replaced_later rs moment dir name ino (Ok i) is =
    let w = entry_in rs dir name i is in
    ap (λ rs. change (parted_by name moment) rs dir)
    (changes_swap (one_name_less moment) (joined_by name ino) rs dir i
    (λ r at same. names_joins name ino moment r))
    ∙ changes_swap (parted_by name moment) (joined_by name ino)
    (change (one_name_less moment) rs i) dir dir (λ r at same.
    let x = change_body (one_name_less moment) rs i dir (λ r. refl) w.d w.at in
    parts_joins name name ino moment w.e r
    (ap (λ b. entry_named name (listed b))
    (ap (λ (r : Record). r.body) (same_some r x.0 (sym at ∙ x.1)) ∙ x.2) ∙ w.goes))

module _ (t : Tree) (olddir : ℕ) (oldname : List ℕ) (newdir : ℕ) (newname : List ℕ) (ino : ℕ) where
  abbrev joins : Records → Records
  joins rs = change (joined_by newname ino) rs newdir

  abbrev after : Result ℕ ℕ → Tree
  after r = with_moved (without_replaced t newdir newname (result_ok r)) olddir oldname newdir
      newname ino

  -- the records with the new entry first
  abbrev pub first_joined : Option ℕ → Records
  first_joined o = change (moved_below t.moment newdir)
      (change (stamped t.moment) (change (parted_by oldname t.moment)
      (replaced_in t.moment newdir newname o (joins t.records)) olddir) newdir) ino

  parted_later : (rs : Records) (e : DirEntry) (d : Record) → IsAt rs olddir d
      → entry_named oldname (listed d.body) ≡ Some e
      → change (parted_by oldname t.moment) (joins rs) olddir ≡ joins
      (change (parted_by oldname t.moment) rs olddir)
  parted_later rs e d at goes = changes_swap (parted_by oldname t.moment) (joined_by newname ino) rs
      newdir olddir (λ r there same.
      parts_joins oldname newname ino t.moment e r
      (ap (λ (r : Record). entry_named oldname (listed r.body))
      (same_some r d (sym there ∙ ap (get rs) same ∙ at)) ∙ goes))

  abbrev rest : Records → Records
  rest rs = change (moved_below t.moment newdir) (change (stamped t.moment) rs newdir) ino

  pub order_is_free : (r : Result ℕ ℕ) → lookup_of t newdir newname ≡ r
      → IsMove (without_replaced t newdir newname (result_ok r)) olddir oldname newdir newname ino
      → first_joined (result_ok r) ≡ (after r).records
  order_is_free (Err e) is move = ap rest (parted_later t.records move.old.e move.old.d move.old.at
      move.old.goes)
  order_is_free (Ok i) is move =
      ap (λ rs. rest (change (parted_by oldname t.moment) rs olddir))
      (replaced_later t.records t.moment newdir newname ino (Ok i) is)
      ∙ ap rest (parted_later (without_entry t newdir newname i).records move.old.e move.old.d
      move.old.at move.old.goes)

-- ---- what is kept

kept_all : (t : Tree) (held : ℕ → Bool) → IsKept t.records held → t.records ≡ (keep held t).records
kept_all t held k = same_gets _ _ (λ q. sym (retained t.records
    (λ q. is_linked t.records q || held q) q ∙ by_record q (get t.records q) refl)) where
      nothing : (b : Bool) → cond {A = Option Record} b None None ≡ None
      nothing true = refl
      nothing false = refl

      by_record : (q : ℕ) (o : Option Record) → get t.records q ≡ o
          → cond (is_linked t.records q || held q) (get t.records q) None ≡ get t.records q
      by_record q None at = ap (λ o. cond (is_linked t.records q || held q) o None) at
          ∙ nothing (is_linked t.records q || held q) ∙ sym at
      by_record q (Some r) at = ap (λ b. cond b (get t.records q) None)
          (k q (subst IsSome (sym at) refl))

module _ (t : Tree) (h : Holds) (g : IsGoodTree t) (s : IsHeldIn t h) (olddir : ℕ)
    (oldname : List ℕ) (newdir : ℕ) (newname : List ℕ) (fine : name_fault newname ≡ None) (ino : ℕ)
    (is : lookup_of t olddir oldname ≡ Ok ino)
    (directory : is_directory_at (body_at t.records newdir) ≡ true)
    (live : is_linked t.records newdir ≡ true)
    (other : same_ino ino (result_ok (lookup_of t newdir newname)) ≡ false)
    (free : move_refused t olddir newdir ino (result_ok (lookup_of t newdir newname)) ≡
    None) where
  abbrev moved : Tree
  moved = with_moved (without_replaced t newdir newname (result_ok (lookup_of t newdir newname)))
      olddir oldname newdir newname ino

  known : IsGoodTree (without_replaced t newdir newname (result_ok (lookup_of t newdir newname)))
      × IsMove (without_replaced t newdir newname (result_ok (lookup_of t newdir newname))) olddir
      oldname newdir newname ino
  known = move_is t g olddir oldname newdir newname fine ino is directory live
      (lookup_of t newdir newname) refl other free

  good : IsGoodTree moved
  good = moved_good (without_replaced t newdir newname (result_ok (lookup_of t newdir newname)))
      known.0 olddir oldname newdir newname ino known.1

  empty_there : (i : ℕ) → move_refused t olddir newdir ino (Some i) ≡ None
      → is_empty_at (body_at t.records i) ≡ true
  empty_there i free = empty_place (is_directory_at (body_at t.records ino))
      (is_directory_at (body_at t.records i)) (is_empty_at (body_at t.records i))
      (free_of t olddir newdir ino (Some i) free).place

  -- in the tree without what is replaced, and after the move
  left_stored : (r : Result ℕ ℕ) → lookup_of t newdir newname ≡ r
      → move_refused t olddir newdir ino (result_ok r) ≡ None
      → AreStored (without_replaced t newdir newname (result_ok r)).records (is_held h)
  left_stored (Err e) found free = s.stored
  left_stored (Ok i) found free = without_stored t g newdir newname i found (empty_there i free)
      (is_held h) s.stored

  stored : AreStored moved.records (is_held h)
  stored = moved_stored (without_replaced t newdir newname (result_ok (lookup_of t newdir newname)))
      known.0 olddir oldname newdir newname ino known.1 (is_held h)
      (left_stored (lookup_of t newdir newname) refl free)

  kept_by : (r : Result ℕ ℕ) → lookup_of t newdir newname ≡ r
      → move_refused t olddir newdir ino (result_ok r) ≡ None
      → IsGoodTree (without_replaced t newdir newname (result_ok r))
      → IsMove (without_replaced t newdir newname (result_ok r)) olddir oldname newdir newname
      ino
      → (v : Tree) → v ≡ with_moved (without_replaced t newdir newname (result_ok r)) olddir oldname
      newdir newname ino → IsGoodTree v → AreStored v.records (is_held h)
      → swept_of (is_held h) (result_ok r) v.records ≡ (keep (is_held h) v).records
  kept_by (Err e) found free left move v made v_good v_stored =
      kept_all v (is_held h) (subst (λ (v : Tree). IsKept v.records (is_held h)) (sym made)
      (moved_kept t left olddir oldname newdir newname ino move (is_held h) s.kept))
  kept_by (Ok i) found free left move v made v_good v_stored =
      sym (kept_is_swept (good_is_counted v (is_held h) v_good v_stored) i
      (subst (λ (v : Tree). IsKeptBut v.records (is_held h) i) (sym made)
      (moved_kept_but (without_entry t newdir newname i) left olddir oldname newdir newname ino move
      (is_held h) i (without_kept t g newdir newname i found (empty_there i free) (is_held h)
      s.kept))))

  module _ (rs : Records) (made : rs ≡ swept_of (is_held h) (result_ok (lookup_of t newdir newname))
      (first_joined t olddir oldname newdir newname ino
      (result_ok (lookup_of t newdir newname)))) where
    kept : rs ≡ (keep (is_held h) moved).records
    kept =
        made ∙ ap (swept_of (is_held h) (result_ok (lookup_of t newdir newname)))
        (order_is_free t olddir oldname newdir newname ino (lookup_of t newdir newname) refl
        known.1)
        ∙ kept_by (lookup_of t newdir newname) refl free known.0 known.1 moved refl good stored

    abbrev whole : Records → Tree
    whole rs = tree_from rs t.next t.limits t.moment

    moved_from : (o : Option ℕ) → keep (is_held h)
        (with_moved (without_replaced t newdir newname o) olddir oldname newdir newname ino) ≡ whole
        (keep (is_held h) (with_moved (without_replaced t newdir newname o) olddir oldname newdir
        newname ino)).records
    moved_from None = refl
    moved_from (Some i) = refl

    pub moved_tree : whole rs ≡ keep (is_held h) moved
    moved_tree = ap (λ (rs : Records). whole rs) kept
        ∙ sym (moved_from (result_ok (lookup_of t newdir newname)))

    pub moved_it_good : IsGoodTree (whole rs)
    moved_it_good = subst IsGoodTree (sym moved_tree) (keep_good moved good (is_held h))

    pub moved_it_held : IsHeldIn (whole rs) h
    moved_it_held = subst (λ (v : Tree). IsHeldIn v h) (sym moved_tree) (record {
      kept = keep_kept moved good (is_held h);
      stored = keep_stored moved good (is_held h) stored;
      positive = s.positive;
    })

-- ---- as the code has it

-- what a move leaves: a good tree, in which what is stored is linked or held
pub record IsMoved (t : Tree) (h : Holds) (olddir : ℕ) (oldname : List ℕ) (newdir : ℕ)
    (newname : List ℕ) (ino : ℕ) (there : Option ℕ) (u : Tree) : Type 0 where
  pub good : IsGoodTree u
  pub held : IsHeldIn u h
  pub tree : u ≡ keep (is_held h) (with_moved (without_replaced t newdir newname there) olddir
      oldname newdir newname ino)

module _ (t : Tree) (h : Holds) (g : IsGoodTree t) (s : IsHeldIn t h) (olddir : ℕ)
    (oldname : List ℕ) (newdir : ℕ) (newname : List ℕ) (ino : ℕ) where
  pub unlinked_as : (dir : ℕ) → is_directory_at (body_at t.records dir) ≡ true
      → has_no_links (get t.records dir) ≡ not (is_linked t.records dir)
  unlinked_as dir directory =
      let d = stored_directory (get t.records dir) directory in
      no_links (good_is_counted t (is_held h) g s.stored) dir d.0 d.1

  abbrev Moves : Option ℕ → Type 0
  Moves o = same_ino ino o ≡ false → move_refused t olddir newdir ino o ≡ None → (rs : Records)
      → rs ≡ swept_of (is_held h) o (first_joined t olddir oldname newdir newname ino o)
      → IsMoved t h olddir oldname newdir newname ino o (tree_from rs t.next t.limits t.moment)

  pub moves : name_fault newname ≡ None → lookup_of t olddir oldname ≡ Ok ino
      → is_directory_at (body_at t.records newdir) ≡ true → is_linked t.records newdir ≡ true
      → (there : Option ℕ) → there ≡ result_ok (lookup_of t newdir newname) → Moves there
  moves fine is directory live there told = subst Moves (sym told) (λ other free rs made. record {
    good = moved_it_good t h g s olddir oldname newdir newname fine ino is directory live other free
        rs made;
    held = moved_it_held t h g s olddir oldname newdir newname fine ino is directory live other free
        rs made;
    tree = moved_tree t h g s olddir oldname newdir newname fine ino is directory live other free rs
        made;
  })

module _ (held : ℕ → Bool) (t : Tree) (olddir : ℕ) (oldname : List ℕ) (newdir : ℕ)
    (newname : List ℕ) (ino : ℕ) (there o : Option ℕ) (told : there ≡ o)
    (other : same_ino ino there ≡ false) where
  abbrev to : Tree
  to = with_moved (without_replaced t newdir newname there) olddir oldname newdir newname ino

  told_by : (r : Option ℕ) → move_refused t olddir newdir ino there ≡ r
      → move_to held t olddir oldname newdir newname ino o ≡ unless_refused r tt (keep held to)
  told_by r is =
      ap (move_to held t olddir oldname newdir newname ino) (sym told)
      ∙ ap (λ b. cond {A = Result (Unit {0} × Tree) ℕ} b (Ok (tt, t))
      (unless_refused (move_refused t olddir newdir ino there) tt (keep held to))) other
      ∙ ap (λ r. unless_refused r tt (keep held to)) is

  pub told_refused : (e : ℕ) → move_refused t olddir newdir ino there ≡ Some e
      → move_to held t olddir oldname newdir newname ino o ≡ Err e
  told_refused e is = told_by (Some e) is

  pub told_moved : move_refused t olddir newdir ino there ≡ None
      → (u : Tree) (r : Result (Unit {0}) HostError) → OnOk r (u ≡ keep held to)
      → IfErr r (λ e. (e ≡ NoMemory) × (u ≡ t))
      → Leaves (move_to held t olddir oldname newdir newname ino o) t u r
  told_moved is u (Ok a) ok err = record {
    exactly = told_by None is
        ∙ ap (λ (u : Tree). Ok (tt, u)) (sym ok);
  }
  told_moved is u (Err (Errno e)) ok err = absurd (let same = err.0 in cc)
  told_moved is u (Err Fault) ok err = record { exactly = err.1 }
  told_moved is u (Err NoMemory) ok err = record { exactly = err.1 }
