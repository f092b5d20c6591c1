-- A good tree stays good where one record changes, but for its kind, its entries and its links.
use Rattle.std.proofs.Common.{◌≡◌, ◌≢◌, ℕ, zero, suc, ◌<◌, ◌≤◌, Bool, true, false, ◌||◌, List, []}
use Rattle.std.proofs.Common.{refl, sym, ap, ◌∙◌, subst, Some, inl, inr, ⊎_elim, arith, IsSome}
use Rattle.std.proofs.Common.{IsTrue, nat_lt}
use Rattle.std.specs.Prelude.{◌==◌, option_map, IfSome, Contains}
use Rattle.std.proofs.Math.Logic.{∥∥₁_map}
use Rattle.std.proofs.lemmas.Bool.{cases_eq}
use Rattle.std.specs.FinMap.{get, insert}
use Rattle.tree_model.specs.Tree.{Tree, Record, Records, DirEntry, TOP, listed, is_directory}
use Rattle.tree_model.specs.Tree.{is_directory_at, name_count, names_in, is_linked, count_names}
use Rattle.tree_model.specs.Tree.{weight}
use Rattle.tree_model.specs.Tree.Body.{Directory}
use Rattle.tree_model.specs.Good.{IsAt, IsGoodRecord, IsGoodTree, Climbs, links_of}
use Rattle.tree_model.specs.Sound.{IsKept, AreStored}
use Rattle.tree_model.proofs.Maps.{inserted, insert_keeps}
use Rattle.tree_model.proofs.Counting.{weigh-insert}
use Rattle.tree_model.proofs.Bodies.{same_some}

pub record IsAltered (t : Tree) (ino : ℕ) (r r' : Record) : Type 0 where
  pub at : IsAt t.records ino r
  pub good : IsGoodRecord r'
  pub same_links : r'.links ≡ r.links
  pub lists : listed r'.body ≡ listed r.body
  pub shows : (n : ℕ) (linked : Bool) → links_of r'.body n linked ≡ links_of r.body n linked
  pub directory : is_directory r'.body ≡ is_directory r.body
  pub place : (es : List DirEntry) (n up : ℕ) → r'.body ≡ Directory es n up
      → r.body ≡ Directory es n up
  pub placed : (es : List DirEntry) (n up : ℕ) → r.body ≡ Directory es n up
      → r'.body ≡ Directory es n up

module _ (t : Tree) (g : IsGoodTree t) (ino : ℕ) (r r' : Record) (w : IsAltered t ino r r') where
  abbrev pub rs : Records
  rs = t.records

  abbrev made : Records
  made = insert t.records ino r'

  at_ino : get made ino ≡ Some r'
  at_ino = inserted rs ino r'

  at_other : (q : ℕ) → q ≢ ino → get made q ≡ get rs q
  at_other q ne = insert_keeps rs ino r' q ne

  same_count : (q : ℕ) → name_count made q ≡ name_count rs q
  same_count q =
      let one = weigh-insert (names_in q) rs ino r' in
      let had = ap (weight (names_in q)) w.at in
      let same : names_in q r' ≡ names_in q r = ap (count_names q) w.lists in
      omega arith

  same_linked : (q : ℕ) → is_linked made q ≡ is_linked rs q
  same_linked q = ap (λ n. (q == TOP) || nat_lt 0 n) (same_count q)

  by_place : (P : ℕ → Record → Type 0) → P ino r'
      → ((q : ℕ) (x : Record) → q ≢ ino → IsAt rs q x → P q x) → (q : ℕ) (x : Record)
      → IsAt made q x → P q x
  by_place P here other q x is = ⊎_elim
      (λ eq. let same = same_some r' x (sym at_ino ∙ sym (ap (get made) eq) ∙ is) in subst
      (λ q. P q x) (sym eq) (subst (P ino) same here))
      (λ ne. other q x ne (sym (at_other q ne) ∙ is))
      (cases_eq q ino)

  stored : (q : ℕ) → IsSome (get rs q) → IsSome (get made q)
  stored q had = ⊎_elim
      (λ eq. subst IsSome (sym (ap (get made) eq ∙ at_ino)) refl)
      (λ ne. subst IsSome (sym (at_other q ne)) had)
      (cases_eq q ino)

  was_stored : (q : ℕ) → IsSome (get made q) → IsSome (get rs q)
  was_stored q had = ⊎_elim
      (λ eq. subst IsSome (sym (ap (get rs) eq ∙ w.at)) refl)
      (λ ne. subst IsSome (at_other q ne) had)
      (cases_eq q ino)

  climbs_on : (n i : ℕ) → Climbs rs n i → Climbs made n i
  climbs_on zero i c = c
  climbs_on (suc n) i c = ⊎_elim
      (λ is. inl is)
      (λ s. ⊎_elim
      (λ eq.
      let same : r ≡ s.0 = same_some r s.0 (sym w.at ∙ sym (ap (get rs) eq) ∙ s.4) in
      inr (
        r',
        s.1,
        s.2,
        s.3,
        ap (get made) eq
            ∙ at_ino,
        w.placed s.1 s.2 s.3 (ap (λ (r : Record). r.body) same ∙ s.5),
        climbs_on n s.3
            s.6,
      ))
      (λ ne. inr (s.0, s.1, s.2, s.3, at_other i ne ∙ s.4, s.5, climbs_on n s.3 s.6))
      (cases_eq i ino))
      c

  still_above : (q up : ℕ) → IfSome (get rs up) (λ x. 1 ≤ names_in q x)
      → IfSome (get made up) (λ x. 1 ≤ names_in q x)
  still_above q up names = ⊎_elim
      (λ eq.
      let was : 1 ≤ names_in q r = subst (λ o. IfSome o (λ x. 1 ≤ names_in q x))
      (ap (get rs) eq ∙ w.at) names in
      let now : 1 ≤ names_in q r' = subst (λ es. 1 ≤ count_names q es) (sym w.lists) was in
      subst (λ o. IfSome o (λ x. 1 ≤ names_in q x)) (sym (ap (get made) eq ∙ at_ino)) now)
      (λ ne. subst (λ o. IfSome o (λ x. 1 ≤ names_in q x)) (sym (at_other up ne)) names)
      (cases_eq up ino)

  both_above : (q up : ℕ) → IsSome (get rs up) × IfSome (get rs up) (λ x. 1 ≤ names_in q x)
      → IsSome (get made up) × IfSome (get made up) (λ x. 1 ≤ names_in q x)
  both_above q up had = (stored up had.0, still_above q up had.1)

  pub altered_good : IsGoodTree (record t { records = made })
  altered_good = record {
    limits = g.limits;
    moment = g.moment;
    next = g.next;
    top_is_directory = top_stays;
    numbers = by_place (λ q x. (1 ≤ q) × (q < t.next)) (g.numbers ino r w.at)
        (λ q x ne was. g.numbers q x was);
    records = by_place (λ q x. IsGoodRecord x) w.good (λ q x ne was. g.records q x was);
    entries = λ q x e is c. by_place (λ q x. (e : DirEntry) → Contains (listed x.body) e
        → IsSome (get made e.ino) × (e.ino ≢ TOP))
        (λ e c. let had = g.entries ino r e w.at (subst (λ es. Contains es e) w.lists c)
        in (stored e.ino had.0, had.1))
        (λ q x ne was e c. let had = g.entries q x e was c in (stored e.ino had.0, had.1))
        q x is e c;
    links = by_place (λ q x. x.links ≡ links_of x.body (name_count made q) (is_linked made q))
        (w.same_links ∙ g.links ino r w.at ∙ ap (λ n. links_of r.body n (is_linked rs ino))
        (sym (same_count ino)) ∙ ap (links_of r.body (name_count made ino))
        (sym (same_linked ino)) ∙ sym (w.shows (name_count made ino) (is_linked made ino)))
        (λ q x ne was. g.links q x was ∙ ap (λ n. links_of x.body n (is_linked rs q))
        (sym (same_count q)) ∙ ap (links_of x.body (name_count made q)) (sym (same_linked q)));
    once = by_place (λ q x. IsTrue (is_directory x.body) → name_count made q ≤ 1)
        (λ is. let le = g.once ino r w.at (sym w.directory ∙ is) in let same =
        same_count ino in omega arith)
        (λ q x ne was is. let le = g.once q x was is in let same = same_count q in omega arith);
    above = λ q x es n up at is live ne. by_place
        (λ q x. (es : List DirEntry) (n up : ℕ) → x.body ≡ Directory es n up
        → IsTrue (is_linked made q) → q ≢ TOP → IsSome (get made up)
        × IfSome (get made up) (λ x. 1 ≤ names_in q x))
        (λ es n up is live ne. both_above ino up
        (g.above ino r es n up w.at (w.place es n up is) (sym (same_linked ino) ∙ live) ne))
        (λ q x nn at es n up is live ne. both_above q up
        (g.above q x es n up at is (sym (same_linked q) ∙ live) ne))
        q x at es n up is live ne;
    top_above = λ x es n up at is. by_place (λ q x. q ≡ TOP → (es : List DirEntry) (n up : ℕ)
        → x.body ≡ Directory es n up → up ≡ TOP)
        (λ top es n up is. g.top_above r es n up (sym (ap (get rs) top) ∙ w.at)
        (w.place es n up is))
        (λ q x nn at top es n up is. g.top_above x es n up (sym (ap (get rs) top) ∙ at) is)
        TOP x at refl es n up is;
    climbs = by_place (λ q x. IsTrue (is_directory x.body) → IsTrue (is_linked made q)
        → ∥ ((n : ℕ) × Climbs made n q) ∥₁)
        (λ is live. ∥∥₁_map (g.climbs ino r w.at (sym w.directory ∙ is)
        (sym (same_linked ino) ∙ live)) (λ c. (c.0, climbs_on c.0 ino c.1)))
        (λ q x ne was is live. ∥∥₁_map (g.climbs q x was is (sym (same_linked q) ∙ live))
        (λ c. (c.0, climbs_on c.0 q c.1)));
    emptied = by_place (λ q x. is_linked made q ≡ false → listed x.body ≡ [])
        (λ loose. w.lists ∙ g.emptied ino r w.at (sym (same_linked ino) ∙ loose))
        (λ q x ne was loose. g.emptied q x was (sym (same_linked q) ∙ loose));
  } where
    top_stays : IsTrue (is_directory_at (option_map (λ (r : Record). r.body) (get made TOP)))
    top_stays = ⊎_elim
        (λ eq.
        let was : is_directory r.body ≡ true =
        subst (λ o. is_directory_at (option_map (λ (r : Record). r.body) o) ≡ true)
        (ap (get rs) eq ∙ w.at) g.top_is_directory in
        subst (λ o. is_directory_at (option_map (λ (r : Record). r.body) o) ≡ true)
        (sym (ap (get made) eq ∙ at_ino)) (w.directory ∙ was))
        (λ ne. subst (λ o. is_directory_at (option_map (λ (r : Record). r.body) o) ≡ true)
        (sym (at_other TOP ne)) g.top_is_directory)
        (cases_eq TOP ino)

  pub altered_kept : (held : ℕ → Bool) → IsKept rs held → IsKept made held
  altered_kept held k q had = ap (λ b. b || held q) (same_linked q) ∙ k q (was_stored q had)

  pub altered_stored : (held : ℕ → Bool) → AreStored rs held → AreStored made held
  altered_stored held s q h = stored q (s q h)
