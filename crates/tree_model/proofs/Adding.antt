-- A good tree with a record more, and an entry for it, is good.
use Rattle.std.proofs.Common.{◌≡◌, ◌≢◌, ℕ, zero, suc, ◌+◌, ◌-◌, ◌^◌, ◌<◌, ◌≤◌, Bool, true, false}
use Rattle.std.proofs.Common.{cond, ◌||◌, List, [], ◌∷◌, ◌++◌, length, refl, sym, ap, ◌∙◌, subst}
use Rattle.std.proofs.Common.{Option, Some}
use Rattle.std.proofs.Common.{None, inl, inr, ⊎_elim, arith, IsSome, IsTrue, nat_lt, get_or}
use Rattle.std.specs.Prelude.{◌==◌, option_map, IfSome, Contains}
use Rattle.std.proofs.Math.Logic.{∥∥₁_map}
use Rattle.std.proofs.lemmas.Bool.{cases_eq, false≢true}
use Rattle.std.proofs.lemmas.Bool.Decides.{nat_tests}
use Rattle.std.proofs.lemmas.List.Elements.{Contains-append_cases}
use Rattle.std.specs.FinMap.{get, insert}
use Rattle.tree_model.specs.Tree.{Tree, Record, Records, Body, DirEntry, TOP, listed, is_directory}
use Rattle.tree_model.specs.Tree.{is_directory_at, name_count, names_in, is_linked, count_names}
use Rattle.tree_model.specs.Tree.{weight}
use Rattle.tree_model.specs.Tree.Body.{File, Directory, Link}
use Rattle.tree_model.specs.Good.{IsAt, IsGoodRecord, IsGoodTree, Climbs, links_of}
use Rattle.tree_model.specs.Sound.{IsKept, AreStored}
use Rattle.tree_model.specs.Making.{with_entries, next_cookie, joined_by}
use Rattle.tree_model.proofs.TwoPlaces as two
use Rattle.tree_model.proofs.Maps.{inserted, insert_keeps}
use Rattle.tree_model.proofs.Counting.{weigh-insert}
use Rattle.tree_model.proofs.Naming.{named_is_stored}
use Rattle.tree_model.proofs.Bodies.{shows_links, with_entries-is_directory, with_entries-listed}
use Rattle.tree_model.proofs.Bodies.{with_entries-above, same_some}

or_true : (b : Bool) → (b || true) ≡ true
or_true true = refl
or_true false = refl

pub count_names-push : (q : ℕ) (es : List DirEntry) (e : DirEntry)
    → count_names q (es ++ e ∷ []) ≡ count_names q es + cond {A = ℕ} (e.ino == q) 1 0
count_names-push q [] e = omega arith
count_names-push q (f ∷ es) e = let more = count_names-push q es e in omega arith

-- what is added: the directory and its new record, and the record that it names, where a number is
-- left after it
pub record IsAdded (t : Tree) (dir : ℕ) (name : List ℕ) (d d' f : Record) : Type 0 where
  pub at : IsAt t.records dir d
  pub directory : is_directory d.body ≡ true
  pub live : is_linked t.records dir ≡ true
  pub joined : d'.body ≡ (joined_by name t.next d).body
  pub same_links : d'.links ≡ d.links
  pub lists : listed f.body ≡ []
  pub shows : f.links ≡ links_of f.body 1 true
  pub under : (es : List DirEntry) (next up : ℕ) → f.body ≡ Directory es next up → up ≡ dir
  pub number : t.next < 2 ^ 64 - 1

module _ (t : Tree) (g : IsGoodTree t) (dir : ℕ) (name : List ℕ) (d d' f : Record)
    (w : IsAdded t dir name d d' f) where
  abbrev pub rs : Records
  rs = t.records

  abbrev pub next : ℕ
  next = t.next

  abbrev pub mid : Records
  mid = insert t.records t.next f

  abbrev made : Records
  made = insert (insert t.records t.next f) dir d'

  pub apart : dir ≢ next
  apart is = let low = (g.numbers dir d w.at).1 in absurd (omega arith)

  pub beyond : 1 < next
  beyond = by_top (get rs TOP) refl where
    by_top : (o : Option Record) → get rs TOP ≡ o → 1 < next
    by_top None at = absurd (false≢true (subst
        (λ o. is_directory_at (option_map (λ (r : Record). r.body) o) ≡ true) at
        g.top_is_directory))
    by_top (Some r) at = (g.numbers TOP r at).1

  pub free : get rs next ≡ None
  free = by_record (get rs next) refl where
    by_record : (o : Option Record) → get rs next ≡ o → get rs next ≡ None
    by_record None is = is
    by_record (Some r) is = absurd (let low = (g.numbers next r is).1 in omega arith)

  pub mid_dir : get mid dir ≡ Some d
  mid_dir = insert_keeps rs next f dir apart ∙ w.at

  at_dir : get made dir ≡ Some d'
  at_dir = inserted mid dir d'

  at_next : get made next ≡ Some f
  at_next = insert_keeps mid dir d' next (λ is. apart (sym is)) ∙ inserted rs next f

  at_other : (q : ℕ) → q ≢ next → q ≢ dir → get made q ≡ get rs q
  at_other q ne nd = insert_keeps mid dir d' q nd ∙ insert_keeps rs next f q ne

  abbrev entry : DirEntry
  entry = record { cookie = next_cookie d.body; name = name; ino = t.next }

  lists_more : listed d'.body ≡ listed d.body ++ entry ∷ []
  lists_more = ap listed w.joined ∙ with_entries-listed d.body (listed d.body ++ entry ∷ [])
      (next_cookie d.body + 1) w.directory

  counts : (q : ℕ) → name_count made q ≡ name_count rs q + cond {A = ℕ} (next == q) 1 0
  counts q =
      let one = weigh-insert (names_in q) rs next f in
      let none = ap (weight (names_in q)) free in
      let lists : names_in q f ≡ 0 = ap (count_names q) w.lists in
      let two = weigh-insert (names_in q) mid dir d' in
      let had = ap (weight (names_in q)) mid_dir in
      let longer : names_in q d' ≡ count_names q (listed d.body ++ entry ∷ []) =
      ap (count_names q) lists_more in
      let pushed = count_names-push q (listed d.body) entry in
      omega arith

  same_count : (q : ℕ) → q ≢ next → name_count made q ≡ name_count rs q
  same_count q ne = let c = counts q in let none : cond {A = ℕ} (next == q) 1 0 ≡ 0 =
      grind (arith, nat_tests) in omega arith

  same_linked : (q : ℕ) → q ≢ next → is_linked made q ≡ is_linked rs q
  same_linked q ne = ap (λ n. (q == TOP) || nat_lt 0 n) (same_count q ne)

  unnamed_before : name_count rs next ≡ 0
  unnamed_before = by_count (name_count rs next) refl where
    by_count : (n : ℕ) → name_count rs next ≡ n → name_count rs next ≡ 0
    by_count zero e = e
    by_count (suc n) e = absurd (false≢true (subst IsSome free
        (named_is_stored t g next (omega arith))))

  one_name : name_count made next ≡ 1
  one_name = let c = counts next in let n = unnamed_before in let one : cond {A = ℕ} (next == next)
      1 0 ≡ 1 = grind (arith, nat_tests) in omega arith

  live_next : is_linked made next ≡ true
  live_next = ap (λ n. (next == TOP) || nat_lt 0 n) one_name ∙ or_true (next == TOP)

  by_place : (P : ℕ → Record → Type 0) → P next f → P dir d'
      → ((q : ℕ) (r : Record) → q ≢ next → q ≢ dir → IsAt rs q r → P q r) → (q : ℕ) (r : Record)
      → IsAt made q r → P q r
  by_place = two.by_place rs made next dir f d' at_next at_dir at_other

  stored : (q : ℕ) → IsSome (get rs q) → IsSome (get made q)
  stored = two.stored rs made next dir f d' at_next at_dir at_other

  was_stored : (q : ℕ) → q ≢ next → IsSome (get made q) → IsSome (get rs q)
  was_stored = two.was_stored_but rs made next dir f d' at_next at_dir at_other d w.at

  not_new : (q : ℕ) (x : Record) → IsAt rs q x → q ≢ next
  not_new q x at is = let none : get rs q ≡ None = ap (get rs) is ∙ free in cc

  -- a directory stays under the same directory
  same_above : (es : List DirEntry) (n up : ℕ) → d'.body ≡ Directory es n up → (gs : List DirEntry)
      × (m : ℕ) × (d.body ≡ Directory gs m up)
  same_above es n up is = with_entries-above d.body _ es _ n up (sym w.joined ∙ is)

  body_of_dir : (b : Body) (es : List DirEntry) (n up : ℕ) → b ≡ Directory es n up
      → (fs : List DirEntry) (m : ℕ) → with_entries b fs m ≡ Directory fs m up
  body_of_dir b es n up is fs m = ap (λ b. with_entries b fs m) is

  climbs_on : (n i : ℕ) → Climbs rs n i → Climbs made n i
  climbs_on zero i c = c
  climbs_on (suc n) i c = ⊎_elim
      (λ is. inl is)
      (λ s. ⊎_elim
      (λ eq.
      let same : d ≡ s.0 = same_some d s.0 (sym w.at ∙ sym (ap (get rs) eq) ∙ s.4) in
      inr (
        d',
        listed d.body ++ entry ∷ [],
        next_cookie d.body + 1,
        s.3,
        ap (get made) eq ∙ at_dir,
        w.joined ∙ body_of_dir d.body s.1 s.2 s.3 (ap (λ (r : Record). r.body) same ∙ s.5)
            (listed d.body ++ entry ∷ []) (next_cookie d.body + 1),
        climbs_on n s.3 s.6,
      ))
      (λ nd. inr (
        s.0,
        s.1,
        s.2,
        s.3,
        at_other i (not_new i s.0 s.4) nd
            ∙ s.4,
        s.5,
        climbs_on n s.3 s.6,
      ))
      (cases_eq i dir))
      c

  names_more : (q : ℕ) → names_in q d ≤ names_in q d'
  names_more q =
      let longer : names_in q d' ≡ count_names q (listed d.body ++ entry ∷ []) =
      ap (count_names q) lists_more in
      let pushed = count_names-push q (listed d.body) entry in
      omega arith

  names_new : names_in next d' ≡ names_in next d + 1
  names_new =
      let longer : names_in next d' ≡ count_names next (listed d.body ++ entry ∷ []) =
      ap (count_names next) lists_more in
      let pushed = count_names-push next (listed d.body) entry in
      let one : cond {A = ℕ} (next == next) 1 0 ≡ 1 = grind (arith, nat_tests) in
      omega arith

  still_above : (q up : ℕ) → IsSome (get rs up) → IfSome (get rs up) (λ x. 1 ≤ names_in q x)
      → IfSome (get made up) (λ x. 1 ≤ names_in q x)
  still_above q up had names = ⊎_elim
      (λ eq.
      let was : 1 ≤ names_in q d = subst (λ o. IfSome o (λ x. 1 ≤ names_in q x))
      (ap (get rs) eq ∙ w.at) names in
      let more = names_more q in
      let now : 1 ≤ names_in q d' = omega arith in
      subst (λ o. IfSome o (λ x. 1 ≤ names_in q x)) (sym (ap (get made) eq ∙ at_dir)) now)
      (λ nd. subst (λ o. IfSome o (λ x. 1 ≤ names_in q x))
      (sym (at_other up (λ is. false≢true (subst IsSome (ap (get rs) is ∙ free) had)) nd))
      names)
      (cases_eq up dir)

  below_dir : IfSome (get made dir) (λ x. 1 ≤ names_in next x)
  below_dir = let more = names_new in let now : 1 ≤ names_in next d' =
      omega arith in subst (λ o. IfSome o (λ x. 1 ≤ names_in next x)) (sym at_dir) now

  module _ (good_d : IsGoodRecord d') (good_f : IsGoodRecord f) where
    new_entries : (e : DirEntry) → Contains (listed d'.body) e → IsSome (get made e.ino)
        × (e.ino ≢ TOP)
    new_entries e c = ⊎_elim
        (λ old. let had = g.entries dir d e w.at old in (stored e.ino had.0, had.1))
        (λ new. let same : e ≡ entry = by_last e new.0 new.1 new.2 in (
          subst (λ (e : DirEntry). IsSome (get made e.ino)) (sym same)
              (subst IsSome (sym at_next) refl),
          λ is. let b = beyond in let one : next ≡ TOP =
              sym (ap (λ (e : DirEntry). e.ino) same) ∙ is in absurd (omega arith),
        ))
        (Contains-append_cases (listed d.body) (entry ∷ []) e
        (subst (λ es. Contains es e) lists_more c)) where
          by_last : (e : DirEntry) (k : ℕ) → k < length (entry ∷ []) → get_or (entry ∷ []) k e ≡ e
              → e ≡ entry
          by_last e zero low is = sym is
          by_last e (suc k) low is = absurd (omega arith)

    pub added_good : IsGoodTree (record t { records = made; next = t.next + 1 })
    added_good = record {
      limits = g.limits;
      moment = g.moment;
      next = let n = w.number in omega arith;
      top_is_directory = top_stays;
      numbers = by_place (λ q x. (1 ≤ q) × (q < next + 1))
          (let b = beyond in (omega arith, omega arith))
          (let n = g.numbers dir d w.at in (n.0, let m = n.1 in omega arith))
          (λ q x ne nd was. let n = g.numbers q x was in (n.0, let m = n.1 in omega arith));
      records = by_place (λ q x. IsGoodRecord x) good_f good_d (λ q x ne nd was. g.records q x was);
      entries = λ q x e is c. by_place (λ q x. (e : DirEntry) → Contains (listed x.body) e
          → IsSome (get made e.ino) × (e.ino ≢ TOP))
          (λ e c. absurd (let none = subst (λ es. Contains es e) w.lists c in let low =
          none.1 in omega arith))
          new_entries
          (λ q x ne nd was e c. let had = g.entries q x e was c in (stored e.ino had.0, had.1))
          q x is e c;
      links = by_place (λ q x. x.links ≡ links_of x.body (name_count made q) (is_linked made q))
          (w.shows ∙ ap (λ n. links_of f.body n true) (sym one_name)
          ∙ ap (links_of f.body (name_count made next)) (sym live_next))
          (w.same_links ∙ g.links dir d w.at ∙ ap (links_of d.body (name_count rs dir))
          (sym (same_linked dir apart)) ∙ shows_links d.body _ _ (name_count rs dir)
          (name_count made dir) (is_linked made dir) w.directory
          ∙ ap (λ b. links_of b (name_count made dir) (is_linked made dir)) (sym w.joined))
          (λ q x ne nd was. g.links q x was ∙ ap (λ n. links_of x.body n (is_linked rs q))
          (sym (same_count q ne)) ∙ ap (links_of x.body (name_count made q))
          (sym (same_linked q ne)));
      once = by_place (λ q x. IsTrue (is_directory x.body) → name_count made q ≤ 1)
          (λ is. let one = one_name in omega arith)
          (λ is. let le = g.once dir d w.at w.directory in let same =
          same_count dir apart in omega arith)
          (λ q x ne nd was is. let le = g.once q x was is in let same =
          same_count q ne in omega arith);
      above = λ q x es n up at is live ne. by_place
          (λ q x. (es : List DirEntry) (n up : ℕ) → x.body ≡ Directory es n up
          → IsTrue (is_linked made q) → q ≢ TOP → IsSome (get made up)
          × IfSome (get made up) (λ x. 1 ≤ names_in q x))
          (λ es n up is live ne. subst (λ up. IsSome (get made up)
          × IfSome (get made up) (λ x. 1 ≤ names_in next x)) (sym (w.under es n up is))
          (subst IsSome (sym at_dir) refl, below_dir))
          (λ es n up is live ne.
          let old = same_above es n up is in
          let was = sym (same_linked dir apart) ∙ live in
          let had = g.above dir d old.0 old.1 up w.at old.2 was ne in
          (stored up had.0, still_above dir up had.0 had.1))
          (λ q x nn nd at es n up is live ne.
          let was = sym (same_linked q nn) ∙ live in
          let had = g.above q x es n up at is was ne in
          (stored up had.0, still_above q up had.0 had.1))
          q x at es n up is live ne;
      top_above = λ x es n up at is. by_place
          (λ q x. q ≡ TOP → (es : List DirEntry) (n up : ℕ) → x.body ≡ Directory es n up → up ≡ TOP)
          (λ top es n up is. let b = beyond in absurd (omega arith))
          (λ top es n up is. let old = same_above es n up is in g.top_above d old.0 old.1 up
          (sym (ap (get rs) top) ∙ w.at) old.2)
          (λ q x nn nd at top es n up is. g.top_above x es n up (sym (ap (get rs) top) ∙ at) is)
          TOP x at refl es n up is;
      climbs = by_place (λ q x. IsTrue (is_directory x.body) → IsTrue (is_linked made q)
          → ∥ ((n : ℕ) × Climbs made n q) ∥₁)
          (λ is live. ∥∥₁_map (g.climbs dir d w.at w.directory w.live)
          (λ c. new_climb f.body refl is c.0 c.1))
          (λ is live. ∥∥₁_map (g.climbs dir d w.at w.directory w.live)
          (λ c. (c.0, climbs_on c.0 dir c.1)))
          (λ q x ne nd was is live. ∥∥₁_map (g.climbs q x was is (sym (same_linked q ne) ∙ live))
          (λ c. (c.0, climbs_on c.0 q c.1)));
      emptied = by_place (λ q x. is_linked made q ≡ false → listed x.body ≡ [])
          (λ loose. w.lists)
          (λ loose. absurd (false≢true (sym loose ∙ same_linked dir apart ∙ w.live)))
          (λ q x ne nd was loose. g.emptied q x was (sym (same_linked q ne) ∙ loose));
    } where
      top_stays : IsTrue (is_directory_at (option_map (λ (r : Record). r.body) (get made TOP)))
      top_stays = ⊎_elim
          (λ eq. subst (λ o. is_directory_at (option_map (λ (r : Record). r.body) o) ≡ true)
          (sym (ap (get made) eq ∙ at_dir))
          (ap is_directory w.joined ∙ with_entries-is_directory d.body _ _ ∙ w.directory))
          (λ nd. subst (λ o. is_directory_at (option_map (λ (r : Record). r.body) o) ≡ true)
          (sym (at_other TOP (let b = beyond in omega arith) nd)) g.top_is_directory)
          (cases_eq TOP dir)

      new_climb : (b : Body) → f.body ≡ b → is_directory b ≡ true → (n : ℕ) → Climbs rs n dir
          → (m : ℕ) × Climbs made m next
      new_climb (File bytes) is plain n c = absurd (false≢true plain)
      new_climb (Link target) is plain n c = absurd (false≢true plain)
      new_climb (Directory es k up) is plain n c = (
        suc n,
        inr (
          f,
          es,
          k,
          up,
          at_next,
          is,
          subst (Climbs made n) (sym (w.under es k up is))
              (climbs_on n dir c),
        ),
      )

  -- the holds that were there, and any of the new record
  module _ (held held' : ℕ → Bool) (more : (q : ℕ) → q ≢ next → held' q ≡ held q) where
    pub added_kept : IsKept rs held → IsKept made held'
    added_kept k q had = ⊎_elim
        (λ eq. subst (λ q. (is_linked made q || held' q) ≡ true) (sym eq)
        (ap (λ b. b || held' next) live_next))
        (λ ne. ap (λ b. b || held' q) (same_linked q ne) ∙ ap (λ b. is_linked rs q || b) (more q ne)
        ∙ k q (was_stored q ne had))
        (cases_eq q next)

    pub added_stored : AreStored rs held → AreStored made held'
    added_stored s q h = ⊎_elim
        (λ eq. subst IsSome (sym (ap (get made) eq ∙ at_next)) refl)
        (λ ne. stored q (s q (sym (more q ne) ∙ h)))
        (cases_eq q next)
