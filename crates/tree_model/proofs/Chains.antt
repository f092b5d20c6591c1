-- A directory is at or below an inode exactly where a chain of entries leads down to it.
use Rattle.std.proofs.Common.{◌≡◌, ◌≢◌, ℕ, zero, suc, ◌+◌, ◌<◌, ◌≤◌, Bool, true, false, cond, not}
use Rattle.std.proofs.Common.{◌&&◌, List, refl, sym, ap, ◌∙◌, subst, Option, Some, None, ⊎_elim}
use Rattle.std.proofs.Common.{arith, IsSome, unwrap_or}
use Rattle.std.specs.Prelude.{◌==◌, option_map, Contains, IfSome}
use Rattle.std.proofs.Math.Logic.{∥∥₁_map, ∥∥₁_elim}
use Rattle.std.proofs.Props.{props}
use Rattle.std.proofs.lemmas.Bool.{cases_eq, false≢true}
use Rattle.std.proofs.lemmas.Bool.Decides.{nat_tests}
use Rattle.std.specs.FinMap.{get, remove}
use Rattle.tree_model.specs.Tree.{Tree, Record, Records, Body, DirEntry, TOP, body_at, listed}
use Rattle.tree_model.specs.Tree.{is_directory, is_directory_at, name_count, names_in, is_linked}
use Rattle.tree_model.specs.Tree.Body.{File, Directory, Link}
use Rattle.tree_model.specs.Good.{IsAt, IsGoodTree, Climbs}
use Rattle.tree_model.specs.Reading.{above, above_of}
use Rattle.tree_model.specs.Renaming.{above_at, climbs_past, is_at_or_below}
use Rattle.tree_model.specs.Chains.{HasEntryFor, Leads}
use Rattle.tree_model.proofs.Maps.{remove_keeps}
use Rattle.tree_model.proofs.Counting.{weigh-remove}
use Rattle.tree_model.proofs.Naming.{entry_that_names, names_in-le, contained_counts}
use Rattle.tree_model.proofs.Keeping.{above_is_linked}
use Rattle.tree_model.proofs.Climbing.{enough_steps}
use Rattle.tree_model.proofs.Renaming.{stored_directory}

-- entries of two records are counted both
two_name : (rs : Records) (p q i : ℕ) (r s : Record) → p ≢ q → IsAt rs p r → IsAt rs q s
    → names_in i r + names_in i s ≤ name_count rs i
two_name rs p q i r s ne at_p at_q =
    let one = weigh-remove (names_in i) rs p r at_p in
    let rest = names_in-le (remove rs p) q i s (remove_keeps rs p q (λ is. ne (sym is)) ∙ at_q) in
    omega arith

-- what lists an entry is a directory
lists_directory : (b : Body) (e : DirEntry) → Contains (listed b) e → is_directory b ≡ true
lists_directory (File bytes) e c = absurd (let low = c.1 in omega arith)
lists_directory (Directory es n up) e c = refl
lists_directory (Link target) e c = absurd (let low = c.1 in omega arith)

pub directory_body : (b : Body) → is_directory b ≡ true → (es : List DirEntry) × (n : ℕ) × (up : ℕ)
    × (b ≡ Directory es n up)
directory_body (File bytes) is = absurd (false≢true is)
directory_body (Directory es n up) is = (es, n, up, refl)
directory_body (Link target) is = absurd (false≢true is)

pub above_is : (rs : Records) (i : ℕ) (r : Record) (es : List DirEntry) (n up : ℕ) → IsAt rs i r
    → r.body ≡ Directory es n up → above_at rs i ≡ up
above_is rs i r es n up at is = ap (λ o. unwrap_or
    (option_map above (option_map (λ (r : Record). r.body) o)) 0) at ∙ ap above is

-- in a good tree the top is above itself
pub top_above_top : (t : Tree) → IsGoodTree t → above_of t TOP ≡ 1
top_above_top t g =
    let top = stored_directory (get t.records TOP) g.top_is_directory in
    let body = directory_body (top.0).body top.2 in
    above_is t.records TOP top.0 body.0 body.1 body.2 top.1 body.3
    ∙ g.top_above top.0 body.0 body.1 body.2 top.1 body.3

module _ (t : Tree) (g : IsGoodTree t) (ino : ℕ) where
  abbrev rs : Records
  rs = t.records

  abbrev past : ℕ → ℕ → Bool
  past k i = climbs_past rs ino k i

  -- a climb that isn't over in as many steps as there are numbers never is
  never_past : (i : ℕ) → past t.next i ≡ false → (k : ℕ) → past k i ≡ false
  never_past i low k = by_test (past k i) refl where
    by_test : (b : Bool) → past k i ≡ b → past k i ≡ false
    by_test true is = absurd (false≢true (sym low ∙ enough_steps t g ino k i is))
    by_test false is = is

  -- ---- from a climb that meets the inode, a chain

  -- where no climb goes past, the inode itself is met, or it goes on above
  goes_on : (i k : ℕ) → past (suc k) i ≡ false → ino ≢ i → (i ≢ TOP)
      × (past k (above_at rs i) ≡ false)
  goes_on i k low ne = by_tests (i == ino) (i == TOP) refl refl low where
    by_tests : (b c : Bool) → (i == ino) ≡ b → (i == TOP) ≡ c
        → cond b false (cond c true (past k (above_at rs i))) ≡ false → (i ≢ TOP)
        × (past k (above_at rs i) ≡ false)
    by_tests true c here top low = absurd (ne
        (let same : ino ≡ i = grind (arith, nat_tests) in same))
    by_tests false true here top low = absurd (false≢true (sym low))
    by_tests false false here top low = (
      (λ is. false≢true
          (sym top ∙ (let same : (i == TOP) ≡ true = grind (arith, nat_tests) in same))),
      low,
    )

  entry_for : (up i : ℕ) → IsSome (get rs up) → IfSome (get rs up) (λ d. 1 ≤ names_in i d)
      → HasEntryFor rs up i
  entry_for up i had names = by_record (get rs up) refl had names where
    by_record : (o : Option Record) → get rs up ≡ o → IsSome o → IfSome o (λ d. 1 ≤ names_in i d)
        → HasEntryFor rs up i
    by_record None at had names = absurd (false≢true had)
    by_record (Some d) at had names = let e =
        entry_that_names i (listed d.body) names in (d, e.0, at, e.1, e.2)

  leads_down : (n i : ℕ) → Climbs rs n i → is_linked rs i ≡ true → ((k : ℕ) → past k i ≡ false)
      → (m : ℕ) × Leads rs m ino i
  leads_down zero i c live never = ⊎_elim (λ is. (zero, is))
      (λ ne. absurd ((goes_on i zero (never (suc zero)) ne).0 c)) (cases_eq ino i)
  leads_down (suc n) i c live never = ⊎_elim
      (λ is. (zero, is))
      (λ ne. ⊎_elim
      (λ top. absurd ((goes_on i zero (never (suc zero)) ne).0 top))
      (λ s.
      let up = s.3 in
      let had = g.above i s.0 s.1 s.2 up s.4 s.5 live (goes_on i zero (never (suc zero)) ne).0 in
      let higher = above_is rs i s.0 s.1 s.2 up s.4 s.5 in
      let rest = leads_down n up s.6 (above_is_linked t g i up had.1 had.0)
      (λ k. ap (past k) (sym higher) ∙ (goes_on i k (never (suc k)) ne).1) in
      (suc rest.0, (up, rest.1, entry_for up i had.0 had.1)))
      c)
      (cases_eq ino i)

  -- ---- from a chain, a climb that meets the inode

  -- the inode is a directory, and no climb goes past it
  abbrev IsMet : ℕ → Type 0
  IsMet i = (is_directory_at (body_at rs ino) ≡ true) × ((k : ℕ) → past k i ≡ false)

  meets_itself : (i : ℕ) → ino ≡ i → (k : ℕ) → past k i ≡ false
  meets_itself i is zero = refl
  meets_itself i is (suc k) = let here : (i == ino) ≡ true =
      grind (arith, nat_tests) in ap (λ b. cond b false
      (cond (i == TOP) true (past k (above_at rs i)))) here

  -- one entry at most names a directory, and it stands in the directory above
  stands_above : (mid i : ℕ) (r x : Record) (e : DirEntry) (es : List DirEntry) (n up : ℕ)
      → IsAt rs mid r → Contains (listed r.body) e → e.ino ≡ i → IsAt rs i x
      → x.body ≡ Directory es n up
      → is_linked rs i ≡ true → i ≢ TOP → up ≡ mid
  stands_above mid i r x e es n up at lists names there is live ne =
      ⊎_elim (λ same. same) (λ apart. absurd (by_record apart (get rs up) refl had.0 had.1))
      (cases_eq up mid) where
        had : IsSome (get rs up) × IfSome (get rs up) (λ d. 1 ≤ names_in i d)
        had = g.above i x es n up there is live ne

        by_record : up ≢ mid → (o : Option Record) → get rs up ≡ o → IsSome o
            → IfSome o (λ d. 1 ≤ names_in i d) → ⊥
        by_record apart None at_up some more = absurd (false≢true some)
        by_record apart (Some d) at_up some more =
            let both = two_name rs up mid i d r apart at_up at in
            let one = subst (λ j. 0 < names_in j r) names
            (contained_counts (listed r.body) e lists.0 lists.1 lists.2) in
            let once = g.once i x there (ap is_directory is) in
            absurd (omega arith)

  lister_is_linked : (mid : ℕ) (r : Record) (e : DirEntry) → IsAt rs mid r
      → Contains (listed r.body) e → is_linked rs mid ≡ true
  lister_is_linked mid r e at lists = by_test (is_linked rs mid) refl where
    by_test : (b : Bool) → is_linked rs mid ≡ b → is_linked rs mid ≡ true
    by_test true is = is
    by_test false is = absurd (let none = subst (λ es. Contains es e) (g.emptied mid r at is) lists
        in let low = none.1 in omega arith)

  lister_is_directory : (mid i : ℕ) (w : HasEntryFor rs mid i)
      → is_directory_at (body_at rs mid) ≡ true
  lister_is_directory mid i w = ap (λ o. is_directory_at (option_map (λ (r : Record). r.body) o))
      w.2 ∙ lists_directory (w.0).body w.1 w.3

  -- what stands in a directory is met where that is
  meets_below : (mid i : ℕ) (w : HasEntryFor rs mid i) → is_linked rs i ≡ true
      → is_directory_at (body_at rs i) ≡ true → IsMet mid → IsMet i
  meets_below mid i w live directory met = (met.0, never) where
    not_top : i ≢ TOP
    not_top is = (g.entries mid w.0 w.1 w.2 w.3).1 (w.4 ∙ is)

    higher : above_at rs i ≡ mid
    higher =
        let x = stored_directory (get rs i) directory in
        let body = directory_body (x.0).body x.2 in
        above_is rs i x.0 body.0 body.1 body.2 x.1 body.3
        ∙ stands_above mid i w.0 x.0 w.1 body.0 body.1 body.2 w.2 w.3 w.4 x.1 body.3 live not_top

    never : (k : ℕ) → past k i ≡ false
    never zero = refl
    never (suc k) = by_tests (i == ino) (i == TOP) refl where
      by_tests : (b h : Bool) → (i == TOP) ≡ h
          → cond b false (cond h true (past k (above_at rs i))) ≡ false
      by_tests true h top = refl
      by_tests false true top = absurd (not_top (grind (arith, nat_tests)))
      by_tests false false top = ap (past k) higher ∙ met.1 k

  climbs_meet : (n i : ℕ) → Leads rs n ino i → is_linked rs i ≡ true
      → is_directory_at (body_at rs i) ≡ true → IsMet i
  climbs_meet zero i is live directory = (
    subst (λ k. is_directory_at (body_at rs k) ≡ true)
        (sym is) directory,
    meets_itself i is,
  )
  climbs_meet (suc n) i c live directory =
      let w = c.2 in
      meets_below c.0 i w live directory (climbs_meet n c.0 c.1
      (lister_is_linked c.0 w.0 w.1 w.2 w.3) (lister_is_directory c.0 i w))

right_of : (a b : Bool) → (a && not b) ≡ true → b ≡ false
right_of a false is = refl
right_of true true is = absurd (false≢true is)
right_of false true is = absurd (false≢true is)

both_of : (a b : Bool) → a ≡ true → b ≡ false → (a && not b) ≡ true
both_of true false x y = refl
both_of true true x y = absurd (false≢true (sym y))
both_of false b x y = absurd (false≢true x)

module _ (t : Tree) (g : IsGoodTree t) (ino dir : ℕ)
    (is : is_directory_at (body_at t.records dir) ≡ true)
    (live : is_linked t.records dir ≡ true) where
  pub below_is_led : is_at_or_below t ino dir ≡ true → ∥ ((n : ℕ) × Leads t.records n ino dir) ∥₁
  below_is_led below =
      let d = stored_directory (get t.records dir) is in
      let low = right_of (is_directory_at (body_at t.records ino))
      (climbs_past t.records ino t.next dir) below in
      ∥∥₁_map (g.climbs dir d.0 d.1 d.2 live)
      (λ c. leads_down t g ino c.0 dir c.1 live (never_past t g ino dir low))

  pub led_is_below : ∥ ((n : ℕ) × Leads t.records n ino dir) ∥₁ → is_at_or_below t ino dir ≡ true
  led_is_below led = ∥∥₁_elim led (hlevel props) (λ c.
      let met = climbs_meet t g ino c.0 dir c.1 live is in
      both_of (is_directory_at (body_at t.records ino)) (climbs_past t.records ino t.next dir) met.0
      (met.1 t.next))
