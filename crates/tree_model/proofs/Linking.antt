-- A good tree with one more entry for a file or a link that is there is good.
use Rattle.std.proofs.Common.{◌≡◌, ◌≢◌, ℕ, zero, suc, ◌+◌, ◌<◌, ◌≤◌, Bool, true, false, cond, ◌||◌}
use Rattle.std.proofs.Common.{List, [], ◌∷◌, ◌++◌, length, refl, sym, ap, ◌∙◌, subst, Some, inl}
use Rattle.std.proofs.Common.{inr, ⊎_elim, arith, IsSome, IsTrue, nat_lt, get_or}
use Rattle.std.specs.Prelude.{◌==◌, option_map, IfSome, Contains}
use Rattle.std.proofs.Math.Logic.{∥∥₁_map}
use Rattle.std.proofs.lemmas.Bool.{cases_eq, false≢true}
use Rattle.std.proofs.lemmas.Bool.Decides.{nat_tests}
use Rattle.std.proofs.lemmas.List.Elements.{Contains-append_cases}
use Rattle.std.specs.FinMap.{get, insert}
use Rattle.tree_model.specs.Tree.{Tree, Record, Records, Body, DirEntry, TOP, listed, is_directory}
use Rattle.tree_model.specs.Tree.{is_directory_at, name_count, names_in, is_linked, count_names}
use Rattle.tree_model.specs.Tree.{weight}
use Rattle.tree_model.specs.Tree.Body.{File, Directory, Link}
use Rattle.tree_model.specs.Good.{IsAt, IsGoodRecord, IsGoodTree, Climbs, links_of}
use Rattle.tree_model.specs.Sound.{IsKept, AreStored}
use Rattle.tree_model.specs.Making.{with_entries, next_cookie, joined_by}
use Rattle.tree_model.proofs.TwoPlaces as two
use Rattle.tree_model.proofs.Maps.{inserted, insert_keeps}
use Rattle.tree_model.proofs.Counting.{weigh-insert}
use Rattle.tree_model.proofs.Bodies.{shows_links, with_entries-is_directory, with_entries-listed}
use Rattle.tree_model.proofs.Bodies.{with_entries-above, same_some, lists_none}
use Rattle.tree_model.proofs.Adding.{count_names-push}

-- a record that isn't a directory has as many links as entries name it
pub names_of : (b : Body) (n : ℕ) (linked : Bool) → is_directory b ≡ false → links_of b n linked ≡ n
names_of (File bytes) n linked is = refl
names_of (Directory es next above) n linked is = absurd (false≢true (sym is))
names_of (Link target) n linked is = refl

-- what changes: the directory, and the record that gets one name more
pub record IsLinkedIn (t : Tree) (dir ino : ℕ) (name : List ℕ) (d d' x x' : Record) : Type 0 where
  pub at : IsAt t.records dir d
  pub there : IsAt t.records ino x
  pub directory : is_directory d.body ≡ true
  pub live : is_linked t.records dir ≡ true
  pub joined : d'.body ≡ (joined_by name ino d).body
  pub same_links : d'.links ≡ d.links
  pub plain : is_directory x.body ≡ false
  pub same_body : x'.body ≡ x.body
  pub one_more : x'.links ≡ x.links + 1
  pub had_links : 0 < x.links

module _ (t : Tree) (g : IsGoodTree t) (dir ino : ℕ) (name : List ℕ) (d d' x x' : Record)
    (w : IsLinkedIn t dir ino name d d' x x') where
  abbrev pub rs : Records
  rs = t.records

  abbrev pub mid : Records
  mid = insert t.records ino x'

  abbrev made : Records
  made = insert (insert t.records ino x') dir d'

  pub apart : dir ≢ ino
  apart is =
      let same : d ≡ x = same_some d x (sym w.at ∙ ap (get rs) is ∙ w.there) in
      absurd (false≢true (sym w.plain ∙ ap (λ (r : Record). is_directory r.body) (sym same)
      ∙ w.directory))

  not_top : ino ≢ TOP
  not_top is = absurd (false≢true (sym (ap (λ o. is_directory_at
      (option_map (λ (r : Record). r.body) o)) (sym (ap (get rs) is) ∙ w.there) ∙ w.plain)
      ∙ g.top_is_directory))

  pub mid_dir : get mid dir ≡ Some d
  mid_dir = insert_keeps rs ino x' dir apart ∙ w.at

  at_dir : get made dir ≡ Some d'
  at_dir = inserted mid dir d'

  at_ino : get made ino ≡ Some x'
  at_ino = insert_keeps mid dir d' ino (λ is. apart (sym is)) ∙ inserted rs ino x'

  at_other : (q : ℕ) → q ≢ ino → q ≢ dir → get made q ≡ get rs q
  at_other q ne nd = insert_keeps mid dir d' q nd ∙ insert_keeps rs ino x' q ne

  abbrev entry : DirEntry
  entry = record { cookie = next_cookie d.body; name = name; ino = ino }

  lists_more : listed d'.body ≡ listed d.body ++ entry ∷ []
  lists_more = ap listed w.joined ∙ with_entries-listed d.body (listed d.body ++ entry ∷ [])
      (next_cookie d.body + 1) w.directory

  counts : (q : ℕ) → name_count made q ≡ name_count rs q + cond {A = ℕ} (ino == q) 1 0
  counts q =
      let one = weigh-insert (names_in q) rs ino x' in
      let had = ap (weight (names_in q)) w.there in
      let same : names_in q x' ≡ names_in q x = ap (λ b. count_names q (listed b)) w.same_body in
      let two = weigh-insert (names_in q) mid dir d' in
      let was = ap (weight (names_in q)) mid_dir in
      let longer : names_in q d' ≡ count_names q (listed d.body ++ entry ∷ []) =
      ap (count_names q) lists_more in
      let pushed = count_names-push q (listed d.body) entry in
      omega arith

  same_count : (q : ℕ) → q ≢ ino → name_count made q ≡ name_count rs q
  same_count q ne = let c = counts q in let none : cond {A = ℕ} (ino == q) 1 0 ≡ 0 =
      grind (arith, nat_tests) in omega arith

  one_more_name : name_count made ino ≡ name_count rs ino + 1
  one_more_name = let c = counts ino in let one : cond {A = ℕ} (ino == ino) 1 0 ≡ 1 =
      grind (arith, nat_tests) in omega arith

  was_named : 0 < name_count rs ino
  was_named = let l : x.links ≡ name_count rs ino = g.links ino x w.there
      ∙ names_of x.body (name_count rs ino) (is_linked rs ino) w.plain in let some =
      w.had_links in omega arith

  both_named : (n m : ℕ) → 0 < n → 0 < m → nat_lt 0 n ≡ nat_lt 0 m
  both_named n m p q = grind (arith, nat_tests)

  same_linked : (q : ℕ) → is_linked made q ≡ is_linked rs q
  same_linked q = ⊎_elim
      (λ eq. ap (is_linked made) eq ∙ ap (λ b. (ino == TOP) || b)
      (both_named (name_count made ino) (name_count rs ino)
      (let m = one_more_name in omega arith) was_named) ∙ sym (ap (is_linked rs) eq))
      (λ ne. ap (λ n. (q == TOP) || nat_lt 0 n) (same_count q ne))
      (cases_eq q ino)

  by_place : (P : ℕ → Record → Type 0) → P ino x' → P dir d'
      → ((q : ℕ) (r : Record) → q ≢ ino → q ≢ dir → IsAt rs q r → P q r) → (q : ℕ) (r : Record)
      → IsAt made q r → P q r
  by_place = two.by_place rs made ino dir x' d' at_ino at_dir at_other

  stored : (q : ℕ) → IsSome (get rs q) → IsSome (get made q)
  stored = two.stored rs made ino dir x' d' at_ino at_dir at_other

  was_stored : (q : ℕ) → IsSome (get made q) → IsSome (get rs q)
  was_stored = two.was_stored rs made ino dir x' d' at_ino at_dir at_other x d w.there w.at

  same_above : (es : List DirEntry) (n up : ℕ) → d'.body ≡ Directory es n up → (gs : List DirEntry)
      × (m : ℕ) × (d.body ≡ Directory gs m up)
  same_above es n up is = with_entries-above d.body _ es _ n up (sym w.joined ∙ is)

  climbs_on : (n i : ℕ) → Climbs rs n i → Climbs made n i
  climbs_on zero i c = c
  climbs_on (suc n) i c = ⊎_elim
      (λ is. inl is)
      (λ s. ⊎_elim
      (λ eq.
      let same : d ≡ s.0 = same_some d s.0 (sym w.at ∙ sym (ap (get rs) eq) ∙ s.4) in
      inr (
        d',
        listed d.body ++ entry ∷ [],
        next_cookie d.body + 1,
        s.3,
        ap (get made) eq ∙ at_dir,
        w.joined ∙ ap (λ b. with_entries b (listed d.body ++ entry ∷ []) (next_cookie d.body + 1))
            (ap (λ (r : Record). r.body) same ∙ s.5),
        climbs_on n s.3 s.6,
      ))
      (λ nd. inr (
        s.0,
        s.1,
        s.2,
        s.3,
        at_other i
            (λ is. not_link s.0 s.1 s.2 s.3 (sym (ap (get rs) is) ∙ s.4) s.5) nd
            ∙ s.4,
        s.5,
        climbs_on n s.3 s.6,
      ))
      (cases_eq i dir))
      c where
        not_link : (r : Record) (es : List DirEntry) (m up : ℕ) → IsAt rs ino r
            → r.body ≡ Directory es m up → ⊥
        not_link r es m up at is =
            let same : x ≡ r = same_some x r (sym w.there ∙ at) in
            false≢true (sym w.plain ∙ ap (λ (r : Record). is_directory r.body) same
            ∙ ap is_directory is)

  names_more : (q : ℕ) → names_in q d ≤ names_in q d'
  names_more q =
      let longer : names_in q d' ≡ count_names q (listed d.body ++ entry ∷ []) =
      ap (count_names q) lists_more in
      let pushed = count_names-push q (listed d.body) entry in
      omega arith

  still_above : (q up : ℕ) → IsSome (get rs up) → IfSome (get rs up) (λ r. 1 ≤ names_in q r)
      → IfSome (get made up) (λ r. 1 ≤ names_in q r)
  still_above q up had names = ⊎_elim
      (λ eq.
      let was : 1 ≤ names_in q d = subst (λ o. IfSome o (λ r. 1 ≤ names_in q r))
      (ap (get rs) eq ∙ w.at) names in
      let more = names_more q in
      let now : 1 ≤ names_in q d' = omega arith in
      subst (λ o. IfSome o (λ r. 1 ≤ names_in q r)) (sym (ap (get made) eq ∙ at_dir)) now)
      (λ nd. ⊎_elim
      (λ eq.
      let was : 1 ≤ names_in q x = subst (λ o. IfSome o (λ r. 1 ≤ names_in q r))
      (ap (get rs) eq ∙ w.there) names in
      let now : 1 ≤ names_in q x' = subst (λ b. 1 ≤ count_names q (listed b)) (sym w.same_body) was
      in
      subst (λ o. IfSome o (λ r. 1 ≤ names_in q r)) (sym (ap (get made) eq ∙ at_ino)) now)
      (λ ne. subst (λ o. IfSome o (λ r. 1 ≤ names_in q r)) (sym (at_other up ne nd)) names)
      (cases_eq up ino))
      (cases_eq up dir)

  module _ (good_d : IsGoodRecord d') (good_x : IsGoodRecord x') where
    lists_nothing : listed x'.body ≡ []
    lists_nothing = ap listed w.same_body ∙ lists_none x.body w.plain

    not_directory : is_directory x'.body ≡ true → ⊥
    not_directory is = false≢true (sym w.plain ∙ ap is_directory (sym w.same_body) ∙ is)

    new_entries : (e : DirEntry) → Contains (listed d'.body) e → IsSome (get made e.ino)
        × (e.ino ≢ TOP)
    new_entries e c = ⊎_elim
        (λ old. let had = g.entries dir d e w.at old in (stored e.ino had.0, had.1))
        (λ new. let same : e ≡ entry = by_last e new.0 new.1 new.2 in (
          subst (λ (e : DirEntry). IsSome (get made e.ino)) (sym same)
              (subst IsSome (sym at_ino) refl),
          λ is. not_top
              (sym (ap (λ (e : DirEntry). e.ino) same) ∙ is),
        ))
        (Contains-append_cases (listed d.body) (entry ∷ []) e
        (subst (λ es. Contains es e) lists_more c)) where
          by_last : (e : DirEntry) (k : ℕ) → k < length (entry ∷ []) → get_or (entry ∷ []) k e ≡ e
              → e ≡ entry
          by_last e zero low is = sym is
          by_last e (suc k) low is = absurd (omega arith)

    pub linked_in_good : IsGoodTree (record t { records = made })
    linked_in_good = record {
      limits = g.limits;
      moment = g.moment;
      next = g.next;
      top_is_directory = top_stays;
      numbers = by_place (λ q r. (1 ≤ q) × (q < t.next)) (g.numbers ino x w.there)
          (g.numbers dir d w.at) (λ q r ne nd was. g.numbers q r was);
      records = by_place (λ q r. IsGoodRecord r) good_x good_d (λ q r ne nd was. g.records q r was);
      entries = λ q r e is c. by_place (λ q r. (e : DirEntry) → Contains (listed r.body) e
          → IsSome (get made e.ino) × (e.ino ≢ TOP))
          (λ e c. absurd (let none = subst (λ es. Contains es e) lists_nothing c in let low =
          none.1 in omega arith))
          new_entries
          (λ q r ne nd was e c. let had = g.entries q r e was c in (stored e.ino had.0, had.1))
          q r is e c;
      links = by_place (λ q r. r.links ≡ links_of r.body (name_count made q) (is_linked made q))
          (let l : x.links ≡ name_count rs ino = g.links ino x w.there
          ∙ names_of x.body (name_count rs ino) (is_linked rs ino) w.plain in let more =
          one_more_name in let one = w.one_more in
          let now : x'.links ≡ name_count made ino = omega arith in now
          ∙ sym (ap (λ b. links_of b (name_count made ino) (is_linked made ino)) w.same_body
          ∙ names_of x.body (name_count made ino) (is_linked made ino) w.plain))
          (w.same_links ∙ g.links dir d w.at ∙ ap (links_of d.body (name_count rs dir))
          (sym (same_linked dir)) ∙ shows_links d.body _ _ (name_count rs dir)
          (name_count made dir) (is_linked made dir) w.directory
          ∙ ap (λ b. links_of b (name_count made dir) (is_linked made dir)) (sym w.joined))
          (λ q r ne nd was. g.links q r was ∙ ap (λ n. links_of r.body n (is_linked rs q))
          (sym (same_count q ne)) ∙ ap (links_of r.body (name_count made q))
          (sym (same_linked q)));
      once = by_place (λ q r. IsTrue (is_directory r.body) → name_count made q ≤ 1)
          (λ is. absurd (not_directory is))
          (λ is. let le = g.once dir d w.at w.directory in let same =
          same_count dir apart in omega arith)
          (λ q r ne nd was is. let le = g.once q r was is in let same =
          same_count q ne in omega arith);
      above = λ q r es n up at is live ne. by_place
          (λ q r. (es : List DirEntry) (n up : ℕ) → r.body ≡ Directory es n up
          → IsTrue (is_linked made q) → q ≢ TOP → IsSome (get made up)
          × IfSome (get made up) (λ r. 1 ≤ names_in q r))
          (λ es n up is live ne. absurd (not_directory (ap is_directory is)))
          (λ es n up is live ne.
          let old = same_above es n up is in
          let was = sym (same_linked dir) ∙ live in
          let had = g.above dir d old.0 old.1 up w.at old.2 was ne in
          (stored up had.0, still_above dir up had.0 had.1))
          (λ q r nn nd at es n up is live ne.
          let was = sym (same_linked q) ∙ live in
          let had = g.above q r es n up at is was ne in
          (stored up had.0, still_above q up had.0 had.1))
          q r at es n up is live ne;
      top_above = λ r es n up at is. by_place
          (λ q r. q ≡ TOP → (es : List DirEntry) (n up : ℕ) → r.body ≡ Directory es n up → up ≡ TOP)
          (λ top es n up is. absurd (not_top top))
          (λ top es n up is. let old = same_above es n up is in g.top_above d old.0 old.1 up
          (sym (ap (get rs) top) ∙ w.at) old.2)
          (λ q r nn nd at top es n up is. g.top_above r es n up (sym (ap (get rs) top) ∙ at) is)
          TOP r at refl es n up is;
      climbs = by_place (λ q r. IsTrue (is_directory r.body) → IsTrue (is_linked made q)
          → ∥ ((n : ℕ) × Climbs made n q) ∥₁)
          (λ is live. absurd (not_directory is))
          (λ is live. ∥∥₁_map (g.climbs dir d w.at w.directory w.live)
          (λ c. (c.0, climbs_on c.0 dir c.1)))
          (λ q r ne nd was is live. ∥∥₁_map (g.climbs q r was is (sym (same_linked q) ∙ live))
          (λ c. (c.0, climbs_on c.0 q c.1)));
      emptied = by_place (λ q r. is_linked made q ≡ false → listed r.body ≡ [])
          (λ loose. lists_nothing)
          (λ loose. absurd (false≢true (sym loose ∙ same_linked dir ∙ w.live)))
          (λ q r ne nd was loose. g.emptied q r was (sym (same_linked q) ∙ loose));
    } where
      top_stays : IsTrue (is_directory_at (option_map (λ (r : Record). r.body) (get made TOP)))
      top_stays = ⊎_elim
          (λ eq. subst (λ o. is_directory_at (option_map (λ (r : Record). r.body) o) ≡ true)
          (sym (ap (get made) eq ∙ at_dir))
          (ap is_directory w.joined ∙ with_entries-is_directory d.body _ _ ∙ w.directory))
          (λ nd. subst (λ o. is_directory_at (option_map (λ (r : Record). r.body) o) ≡ true)
          (sym (at_other TOP (λ is. not_top (sym is)) nd)) g.top_is_directory)
          (cases_eq TOP dir)

  pub linked_kept : (held : ℕ → Bool) → IsKept rs held → IsKept made held
  linked_kept held k q had = ap (λ b. b || held q) (same_linked q) ∙ k q (was_stored q had)

  pub linked_stored : (held : ℕ → Bool) → AreStored rs held → AreStored made held
  linked_stored held s q h = stored q (s q h)
