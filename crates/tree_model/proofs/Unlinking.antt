-- A good tree is good without an entry whose record lists nothing and has a name less.
use Rattle.std.proofs.Common.{◌≡◌, ◌≢◌, ℕ, zero, suc, ◌+◌, ◌<◌, ◌≤◌, Bool, true, false, cond, ◌||◌}
use Rattle.std.proofs.Common.{List, [], refl, sym, ap, ◌∙◌, subst, Some, None, inl, inr, ⊎_elim}
use Rattle.std.proofs.Common.{arith, IsSome, IsTrue, nat_lt}
use Rattle.std.specs.Prelude.{◌==◌, option_map, IfSome, Contains}
use Rattle.std.proofs.Math.Logic.{∥∥₁_map}
use Rattle.std.proofs.lemmas.Bool.{cases_eq, false≢true}
use Rattle.std.proofs.lemmas.Bool.Decides.{nat_tests}
use Rattle.std.specs.FinMap.{get, insert}
use Rattle.tree_model.specs.Tree.{Tree, Record, Records, Body, DirEntry, TOP, listed, is_directory}
use Rattle.tree_model.specs.Tree.{is_directory_at, name_count, names_in, is_linked, count_names}
use Rattle.tree_model.specs.Tree.{weight}
use Rattle.tree_model.specs.Tree.Body.{File, Directory, Link}
use Rattle.tree_model.specs.Good.{IsAt, IsGoodRecord, IsGoodTree, Climbs, links_of}
use Rattle.tree_model.specs.Finding.{entry_named}
use Rattle.tree_model.specs.Sound.{IsKept, IsKeptBut, AreStored}
use Rattle.tree_model.specs.Making.{with_entries, next_cookie}
use Rattle.tree_model.specs.Unlinking.{without, links_left}
use Rattle.tree_model.proofs.TwoPlaces as two
use Rattle.tree_model.proofs.Maps.{inserted, insert_keeps}
use Rattle.tree_model.proofs.Counting.{weigh-insert}
use Rattle.tree_model.proofs.Naming.{names_in-le, top_is_unnamed}
use Rattle.tree_model.proofs.Bodies.{shows_links, with_entries-is_directory, with_entries-listed}
use Rattle.tree_model.proofs.Bodies.{with_entries-above, same_some}
use Rattle.tree_model.proofs.Parting.{without-Contains, count_names-without}

-- what changes: the directory, and the record that loses a name
pub record IsUnlinkedIn (t : Tree) (dir ino : ℕ) (name : List ℕ) (e : DirEntry)
    (d d' x x' : Record) : Type 0 where
  pub at : IsAt t.records dir d
  pub there : IsAt t.records ino x
  pub directory : is_directory d.body ≡ true
  pub live : is_linked t.records dir ≡ true
  pub goes : entry_named name (listed d.body) ≡ Some e
  pub names : e.ino ≡ ino
  pub parted : d'.body ≡ with_entries d.body (without name (listed d.body)) (next_cookie d.body)
  pub same_links : d'.links ≡ d.links
  pub nothing : listed x.body ≡ []
  pub same_body : x'.body ≡ x.body
  pub left : x'.links ≡ links_left x.body x.links

-- the links that are left are those that are shown then
links_shown : (b : Body) (n m : ℕ) (was now : Bool) → m + 1 ≡ n
    → (is_directory b ≡ true → now ≡ false) → links_left b (links_of b n was) ≡ links_of b m now
links_shown (File bytes) n m was now one loose = omega arith
links_shown (Directory es next above) n m was now one loose =
    ap (λ b. cond {A = ℕ} b 2 0) (sym (loose refl))
links_shown (Link target) n m was now one loose = omega arith

loose_by : (i n : ℕ) → i ≢ TOP → n ≡ 0 → ((i == TOP) || nat_lt 0 n) ≡ false
loose_by i n ne none = grind (arith, nat_tests)

module _ (t : Tree) (g : IsGoodTree t) (dir ino : ℕ) (name : List ℕ) (e : DirEntry)
    (d d' x x' : Record) (w : IsUnlinkedIn t dir ino name e d d' x x') where
  abbrev pub rs : Records
  rs = t.records

  abbrev pub mid : Records
  mid = insert t.records ino x'

  abbrev pub made : Records
  made = insert (insert t.records ino x') dir d'

  pub apart : dir ≢ ino
  apart is =
      let same : d ≡ x = same_some d x (sym w.at ∙ ap (get rs) is ∙ w.there) in
      let none : entry_named name (listed d.body) ≡ None =
      ap (λ (r : Record). entry_named name (listed r.body)) same
      ∙ ap (entry_named name) w.nothing in
      let some = w.goes in
      cc

  pub mid_dir : get mid dir ≡ Some d
  mid_dir = insert_keeps rs ino x' dir apart ∙ w.at

  at_dir : get made dir ≡ Some d'
  at_dir = inserted mid dir d'

  at_ino : get made ino ≡ Some x'
  at_ino = insert_keeps mid dir d' ino (λ is. apart (sym is)) ∙ inserted rs ino x'

  at_other : (q : ℕ) → q ≢ ino → q ≢ dir → get made q ≡ get rs q
  at_other q ne nd = insert_keeps mid dir d' q nd ∙ insert_keeps rs ino x' q ne

  lists_less : listed d'.body ≡ without name (listed d.body)
  lists_less = ap listed w.parted ∙ with_entries-listed d.body (without name (listed d.body))
      (next_cookie d.body) w.directory

  fewer_names : (q : ℕ) → names_in q d' + cond {A = ℕ} (e.ino == q) 1 0 ≡ names_in q d
  fewer_names q = ap (λ es. count_names q es + cond {A = ℕ} (e.ino == q) 1 0) lists_less
      ∙ count_names-without q name (listed d.body) e w.goes

  named : 0 < name_count rs ino
  named =
      let fewer = fewer_names ino in
      let is = w.names in
      let one : cond {A = ℕ} (e.ino == ino) 1 0 ≡ 1 = grind (arith, nat_tests) in
      let among = names_in-le rs dir ino d w.at in
      omega arith

  not_top : ino ≢ TOP
  not_top is = let none = top_is_unnamed t g in let some =
      subst (λ i. 0 < name_count rs i) is named in omega arith

  counts : (q : ℕ) → name_count made q + cond {A = ℕ} (e.ino == q) 1 0 ≡ name_count rs q
  counts q =
      let one = weigh-insert (names_in q) rs ino x' in
      let had = ap (weight (names_in q)) w.there in
      let same : names_in q x' ≡ names_in q x = ap (λ b. count_names q (listed b)) w.same_body in
      let two = weigh-insert (names_in q) mid dir d' in
      let was = ap (weight (names_in q)) mid_dir in
      let fewer = fewer_names q in
      omega arith

  not_named : (q : ℕ) → q ≢ ino → cond {A = ℕ} (e.ino == q) 1 0 ≡ 0
  not_named q ne = let is = w.names in grind (arith, nat_tests)

  same_count : (q : ℕ) → q ≢ ino → name_count made q ≡ name_count rs q
  same_count q ne = let c = counts q in let none = not_named q ne in omega arith

  one_name_less : name_count made ino + 1 ≡ name_count rs ino
  one_name_less = let c = counts ino in let is =
      w.names in let one : cond {A = ℕ} (e.ino == ino) 1 0 ≡ 1 =
      grind (arith, nat_tests) in omega arith

  -- of a directory no name is left
  unnamed : is_directory x'.body ≡ true → name_count made ino ≡ 0
  unnamed is = let once = g.once ino x w.there (sym (ap is_directory w.same_body) ∙ is)
      in let less = one_name_less in omega arith

  loose : is_directory x'.body ≡ true → is_linked made ino ≡ false
  loose is = loose_by ino (name_count made ino) not_top (unnamed is)

  pub same_linked : (q : ℕ) → q ≢ ino → is_linked made q ≡ is_linked rs q
  same_linked q ne = ap (λ n. (q == TOP) || nat_lt 0 n) (same_count q ne)

  by_place : (P : ℕ → Record → Type 0) → P ino x' → P dir d'
      → ((q : ℕ) (r : Record) → q ≢ ino → q ≢ dir → IsAt rs q r → P q r) → (q : ℕ) (r : Record)
      → IsAt made q r → P q r
  by_place = two.by_place rs made ino dir x' d' at_ino at_dir at_other

  stored : (q : ℕ) → IsSome (get rs q) → IsSome (get made q)
  stored = two.stored rs made ino dir x' d' at_ino at_dir at_other

  was_stored : (q : ℕ) → IsSome (get made q) → IsSome (get rs q)
  was_stored = two.was_stored rs made ino dir x' d' at_ino at_dir at_other x d w.there w.at

  same_above : (es : List DirEntry) (n up : ℕ) → d'.body ≡ Directory es n up → (gs : List DirEntry)
      × (m : ℕ) × (d.body ≡ Directory gs m up)
  same_above es n up is = with_entries-above d.body _ es _ n up (sym w.parted ∙ is)

  climbs_on : (n i : ℕ) → Climbs rs n i → Climbs made n i
  climbs_on zero i c = c
  climbs_on (suc n) i c = ⊎_elim
      (λ is. inl is)
      (λ s. ⊎_elim
      (λ eq.
      let same : d ≡ s.0 = same_some d s.0 (sym w.at ∙ sym (ap (get rs) eq) ∙ s.4) in
      inr (
        d',
        without name (listed d.body),
        next_cookie d.body,
        s.3,
        ap (get made) eq ∙ at_dir,
        w.parted ∙ ap (λ b. with_entries b (without name (listed d.body)) (next_cookie d.body))
            (ap (λ (r : Record). r.body) same ∙ s.5),
        climbs_on n s.3 s.6,
      ))
      (λ nd. ⊎_elim
      (λ eq.
      let same : x ≡ s.0 = same_some x s.0 (sym w.there ∙ sym (ap (get rs) eq) ∙ s.4) in
      inr (
        x',
        s.1,
        s.2,
        s.3,
        ap (get made) eq ∙ at_ino,
        w.same_body
            ∙ ap (λ (r : Record). r.body) same ∙ s.5,
        climbs_on n s.3 s.6,
      ))
      (λ ne. inr (s.0, s.1, s.2, s.3, at_other i ne nd ∙ s.4, s.5, climbs_on n s.3 s.6))
      (cases_eq i ino))
      (cases_eq i dir))
      c

  still_above : (q up : ℕ) → q ≢ ino → IfSome (get rs up) (λ r. 1 ≤ names_in q r)
      → IfSome (get made up) (λ r. 1 ≤ names_in q r)
  still_above q up other names = ⊎_elim
      (λ eq.
      let was : 1 ≤ names_in q d = subst (λ o. IfSome o (λ r. 1 ≤ names_in q r))
      (ap (get rs) eq ∙ w.at) names in
      let fewer = fewer_names q in
      let none = not_named q other in
      let now : 1 ≤ names_in q d' = omega arith in
      subst (λ o. IfSome o (λ r. 1 ≤ names_in q r)) (sym (ap (get made) eq ∙ at_dir)) now)
      (λ nd. ⊎_elim
      (λ eq.
      let was : 1 ≤ names_in q x = subst (λ o. IfSome o (λ r. 1 ≤ names_in q r))
      (ap (get rs) eq ∙ w.there) names in
      let now : 1 ≤ names_in q x' = subst (λ b. 1 ≤ count_names q (listed b)) (sym w.same_body) was
      in
      subst (λ o. IfSome o (λ r. 1 ≤ names_in q r)) (sym (ap (get made) eq ∙ at_ino)) now)
      (λ ne. subst (λ o. IfSome o (λ r. 1 ≤ names_in q r)) (sym (at_other up ne nd)) names)
      (cases_eq up ino))
      (cases_eq up dir)

  module _ (good_d : IsGoodRecord d') (good_x : IsGoodRecord x') where
    lists_nothing : listed x'.body ≡ []
    lists_nothing = ap listed w.same_body ∙ w.nothing

    not_live : is_directory x'.body ≡ true → is_linked made ino ≡ true → ⊥
    not_live is live = false≢true (sym (loose is) ∙ live)

    pub unlinked_in_good : IsGoodTree (record t { records = made })
    unlinked_in_good = record {
      limits = g.limits;
      moment = g.moment;
      next = g.next;
      top_is_directory = top_stays;
      numbers = by_place (λ q r. (1 ≤ q) × (q < t.next)) (g.numbers ino x w.there)
          (g.numbers dir d w.at) (λ q r ne nd was. g.numbers q r was);
      records = by_place (λ q r. IsGoodRecord r) good_x good_d (λ q r ne nd was. g.records q r was);
      entries = λ q r y is c. by_place (λ q r. (y : DirEntry) → Contains (listed r.body) y
          → IsSome (get made y.ino) × (y.ino ≢ TOP))
          (λ y c. absurd (let none = subst (λ es. Contains es y) lists_nothing c in let low =
          none.1 in omega arith))
          (λ y c. let had = g.entries dir d y w.at
          (without-Contains name (listed d.body) e y w.goes
          (subst (λ es. Contains es y) lists_less c)) in (stored y.ino had.0, had.1))
          (λ q r ne nd was y c. let had = g.entries q r y was c in (stored y.ino had.0, had.1))
          q r is y c;
      links = by_place (λ q r. r.links ≡ links_of r.body (name_count made q) (is_linked made q))
          (w.left ∙ ap (links_left x.body) (g.links ino x w.there)
          ∙ links_shown x.body (name_count rs ino) (name_count made ino) (is_linked rs ino)
          (is_linked made ino) one_name_less (λ is. loose (ap is_directory w.same_body ∙ is))
          ∙ sym (ap (λ b. links_of b (name_count made ino) (is_linked made ino)) w.same_body))
          (w.same_links ∙ g.links dir d w.at ∙ ap (links_of d.body (name_count rs dir))
          (sym (same_linked dir apart)) ∙ shows_links d.body _ _ (name_count rs dir)
          (name_count made dir) (is_linked made dir) w.directory
          ∙ ap (λ b. links_of b (name_count made dir) (is_linked made dir)) (sym w.parted))
          (λ q r ne nd was. g.links q r was ∙ ap (λ n. links_of r.body n (is_linked rs q))
          (sym (same_count q ne)) ∙ ap (links_of r.body (name_count made q))
          (sym (same_linked q ne)));
      once = by_place (λ q r. IsTrue (is_directory r.body) → name_count made q ≤ 1)
          (λ is. let none = unnamed is in omega arith)
          (λ is. let le = g.once dir d w.at w.directory in let same =
          same_count dir apart in omega arith)
          (λ q r ne nd was is. let le = g.once q r was is in let same =
          same_count q ne in omega arith);
      above = λ q r es n up at is live ne. by_place
          (λ q r. (es : List DirEntry) (n up : ℕ) → r.body ≡ Directory es n up
          → IsTrue (is_linked made q) → q ≢ TOP → IsSome (get made up)
          × IfSome (get made up) (λ r. 1 ≤ names_in q r))
          (λ es n up is live ne. absurd (not_live (ap is_directory is) live))
          (λ es n up is live ne.
          let old = same_above es n up is in
          let was = sym (same_linked dir apart) ∙ live in
          let had = g.above dir d old.0 old.1 up w.at old.2 was ne in
          (stored up had.0, still_above dir up apart had.1))
          (λ q r nn nd at es n up is live ne.
          let was = sym (same_linked q nn) ∙ live in
          let had = g.above q r es n up at is was ne in
          (stored up had.0, still_above q up nn had.1))
          q r at es n up is live ne;
      top_above = λ r es n up at is. by_place
          (λ q r. q ≡ TOP → (es : List DirEntry) (n up : ℕ) → r.body ≡ Directory es n up → up ≡ TOP)
          (λ top es n up is. absurd (not_top top))
          (λ top es n up is. let old = same_above es n up is in g.top_above d old.0 old.1 up
          (sym (ap (get rs) top) ∙ w.at) old.2)
          (λ q r nn nd at top es n up is. g.top_above r es n up (sym (ap (get rs) top) ∙ at) is)
          TOP r at refl es n up is;
      climbs = by_place (λ q r. IsTrue (is_directory r.body) → IsTrue (is_linked made q)
          → ∥ ((n : ℕ) × Climbs made n q) ∥₁)
          (λ is live. absurd (not_live is live))
          (λ is live. ∥∥₁_map (g.climbs dir d w.at w.directory w.live)
          (λ c. (c.0, climbs_on c.0 dir c.1)))
          (λ q r ne nd was is live. ∥∥₁_map (g.climbs q r was is (sym (same_linked q ne) ∙ live))
          (λ c. (c.0, climbs_on c.0 q c.1)));
      emptied = by_place (λ q r. is_linked made q ≡ false → listed r.body ≡ [])
          (λ loose. lists_nothing)
          (λ loose. absurd (false≢true (sym loose ∙ same_linked dir apart ∙ w.live)))
          (λ q r ne nd was loose. g.emptied q r was (sym (same_linked q ne) ∙ loose));
    } where
      top_stays : IsTrue (is_directory_at (option_map (λ (r : Record). r.body) (get made TOP)))
      top_stays = ⊎_elim
          (λ eq. subst (λ o. is_directory_at (option_map (λ (r : Record). r.body) o) ≡ true)
          (sym (ap (get made) eq ∙ at_dir))
          (ap is_directory w.parted ∙ with_entries-is_directory d.body _ _ ∙ w.directory))
          (λ nd. subst (λ o. is_directory_at (option_map (λ (r : Record). r.body) o) ≡ true)
          (sym (at_other TOP (λ is. not_top (sym is)) nd)) g.top_is_directory)
          (cases_eq TOP dir)

  -- every other record is linked or held as before
  pub unlinked_kept : (held : ℕ → Bool) → IsKept rs held → IsKeptBut made held ino
  unlinked_kept held k q ne had = ap (λ b. b || held q) (same_linked q ne) ∙ k q (was_stored q had)

  pub unlinked_stored : (held : ℕ → Bool) → AreStored rs held → AreStored made held
  unlinked_stored held s q h = stored q (s q h)
