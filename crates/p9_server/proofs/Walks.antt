-- A walk, name by name.
use Rattle.std.proofs.Common.{◌≡◌, ◌≢◌, ℕ, zero, suc, ◌+◌, ◌<◌, ◌≤◌, Bool, cond, List, [], ◌∷◌}
use Rattle.std.proofs.Common.{◌++◌, length, take, drop, map, refl, sym, ap, ◌∙◌, subst, Result, Ok}
use Rattle.std.proofs.Common.{Err, arith, add-one, get_or}
use Rattle.std.proofs.lemmas.Bool.Decides.{nat_tests}
use Rattle.std.proofs.lemmas.List.{take_more, take-append-drop, length-map, length-append}
use Rattle.std.proofs.lemmas.List.{append-nil}
use Rattle.std.proofs.Math.Seq.{drop-cons, take-length}
use Rattle.std.specs.Prelude.{◌==◌}
use Rattle.tree_model.specs.Tree.{Tree}
use Rattle.tree_model.specs.Sound.{IsKept}
use Rattle.tree_model.specs.Attributes.{Qid, qid_of}
use Rattle.tree_model.specs.declared.attributes.Attr.{Attr}
use Rattle.tree_model.specs.declared.attributes.HostError.{HostError}
use Rattle.tree_model.specs.declared.attributes.HostError.TheVariants.{Errno, Fault, NoMemory}
use Rattle.tree_host.specs.Holds.{Holds, hold_count, is_held, held_less}
use Rattle.p9_wire.specs.declared.qid.Qid.{Qid as QidStruct}
use Rattle.fid_model.specs.Handling.{IsFrontOfWalk}
use Rattle.fid_model.specs.Answers.{Walked, walk_names, walked_on, step_to, qid_at, qid_told}
use Rattle.p9_server.specs.Holding.{IsMore, IsSame}
use Rattle.p9_server.specs.Walking.{Finds, Walks, own_hold}
use Rattle.p9_wire.specs.Qids.{qid_of as qid_plain}
use Rattle.p9_server.proofs.HoldCounts.{kept_more, less_counts_of}

-- ---- the definition, over names joined end to end

module _ (casefold : Bool) (t : Tree) where
  abbrev walk : List (List ℕ) → ℕ → Walked
  walk = walk_names casefold t

  abbrev Joins : List (List ℕ) → List (List ℕ) → ℕ → ℕ → Type 0
  Joins front rest start at = (walk front start).1 ≡ Ok at
      → walk (front ++ rest) start ≡ ((walk front start).0 ++ (walk rest at).0, (walk rest at).1)

  pub walk-append : (front rest : List (List ℕ)) (start at : ℕ) → Joins front rest start at
  walk-append [] rest start at is =
      let same : start ≡ at = cc in
      ap (λ (i : ℕ). walk rest i) same
  walk-append (name ∷ names) rest start at is =
      by_step (λ i. walk-append names rest i at) (step_to casefold t start name) is where
        by_step : ((i : ℕ) → Joins names rest i at) → (r : Result ℕ ℕ)
            → (walked_on t (walk names) r).1 ≡ Ok at
            → walked_on t (walk (names ++ rest)) r
            ≡ ((walked_on t (walk names) r).0 ++ (walk rest at).0, (walk rest at).1)
        by_step later (Err e) is = absurd (cc)
        by_step later (Ok i) is = ap (λ (w : Walked). (qid_at t i ∷ w.0, w.1)) (later i is)

-- ---- a walk that has come to a name

own_more : (k at i : ℕ) → own_hold (k + 1) at i ≡ cond (at == i) 1 0
own_more k at i = ap (λ (n : ℕ). own_hold n at i) (add-one k)

own_few : (k at i : ℕ) → own_hold k at i ≤ 1
own_few zero at i = omega arith
own_few (suc k) at i = grind (arith, nat_tests)

own_by : (k at i : ℕ) → k ≢ 0 → own_hold k at i ≡ cond (at == i) 1 0
own_by zero at i some = absurd (some refl)
own_by (suc k) at i some = refl

-- a walk of some names has a hold of its own, which goes
pub own_released : (h h' : Holds) (k at : ℕ) → k ≢ 0 → 0 < hold_count h at → h' ≡ held_less h at
    → (i : ℕ) → hold_count h' i + own_hold k at i ≡ hold_count h i
own_released h h' k at some held less i =
    let own = own_by k at i some in
    let down = (less_counts_of h h' at held less).counts i in
    omega arith

-- what a walk has found of the first so many names
pub record Walking (casefold : Bool) (t0 t : Tree) (h0 h : Holds) (names : List (List ℕ))
    (start at k : ℕ)
    (qids : List QidStruct) : Type 0 where
  pub tree : t ≡ t0
  pub found : map qid_plain qids ≡ (walk_names casefold t0 (take k names) start).0
  pub stands : (walk_names casefold t0 (take k names) start).1 ≡ Ok at
  pub holds : (i : ℕ) → hold_count h i ≡ hold_count h0 i + own_hold k at i
  pub count : length qids ≡ k

pub walking_none : (casefold : Bool) (t : Tree) (h : Holds) (names : List (List ℕ)) (start : ℕ)
    (qids : List QidStruct) → qids ≡ [] → Walking casefold t t h h names start start 0 qids
walking_none casefold t h names start qids none = record {
  tree = refl;
  found = ap (map qid_plain) none;
  stands = refl;
  holds = λ i. omega arith;
  count = ap length none;
}

module _ {casefold : Bool} {t0 t : Tree} {h0 h : Holds} {names : List (List ℕ)} {start at k : ℕ}
    {qids : List QidStruct} (w : Walking casefold t0 t h0 h names start at k qids) where
  held_by : (n : ℕ) → n ≡ k → 0 < hold_count h0 start → 0 < hold_count h at
  held_by zero is held =
      let none : (walk_names casefold t0 (take zero names) start).1 ≡ Ok at =
      subst (λ (j : ℕ). (walk_names casefold t0 (take j names) start).1 ≡ Ok at) (sym is)
      w.stands
      in
      let same : start ≡ at = cc in
      let here = w.holds at in
      let old : 0 < hold_count h0 at = subst (λ (i : ℕ). 0 < hold_count h0 i) same held in
      omega arith
  held_by (suc n) is held =
      let here = w.holds at in
      let own : own_hold k at at ≡ cond (at == at) 1 0 =
      ap (λ (j : ℕ). own_hold j at at) (sym is) in
      let one : cond {A = ℕ} (at == at) 1 0 ≡ 1 = grind (arith, nat_tests) in
      omega arith

  -- where it stands is held
  pub walking_held : 0 < hold_count h0 start → 0 < hold_count h at
  walking_held held = held_by k refl held

  pub walking_few : (i : ℕ) → hold_count h i ≤ hold_count h0 i + 1
  walking_few i = let here = w.holds i in let few = own_few k at i in omega arith

  -- the hold of a walk is let go, where the walk goes on
  module _ (name : List ℕ) (here : k < length names) (is : name ≡ get_or names k name) where
    now_taken : take (k + 1) names ≡ take k names ++ (name ∷ [])
    now_taken = take_more names k name here ∙ ap (λ (n : List ℕ). take k names ++ (n ∷ [])) (sym is)

    all_names : names ≡ take k names ++ (name ∷ drop (suc k) names)
    all_names = sym (take-append-drop k names)
        ∙ ap (λ (l : List (List ℕ)). take k names ++ l)
        (drop-cons names k name here ∙ ap (λ (n : List ℕ). n ∷ drop (suc k) names) (sym is))

    module _ (a : Attr) (t1 t2 : Tree) (h1 h2 : Holds)
        (finds : Finds t (step_to casefold t at name) (Ok a)) (more : IsMore h h1 a.ino)
        (gone : (i : ℕ) → hold_count h2 i + own_hold k at i ≡ hold_count h1 i) where
      step_is : step_to casefold t0 at name ≡ Ok a.ino
      step_is = ap (λ (u : Tree). step_to casefold u at name) (sym w.tree) ∙ finds.exactly.0

      qid_is : qid_at t0 a.ino ≡ qid_of a
      qid_is = ap (λ (u : Tree). qid_at u a.ino) (sym w.tree) ∙ ap qid_told finds.exactly.1

      next_holds : (i : ℕ) → hold_count h2 i ≡ hold_count h0 i + own_hold (k + 1) a.ino i
      next_holds i =
          let old = w.holds i in
          let up = more.counts i in
          let down = gone i in
          let own = own_more k a.ino i in
          omega arith

      joined : walk_names casefold t0 (take (k + 1) names) start
          ≡ ((walk_names casefold t0 (take k names) start).0 ++ (qid_at t0 a.ino ∷ []), Ok a.ino)
      joined =
          ap (λ (l : List (List ℕ)). walk_names casefold t0 l start) now_taken
          ∙ walk-append casefold t0 (take k names) (name ∷ []) start at w.stands
          ∙ ap (λ (r : Result ℕ ℕ). (
            (walk_names casefold t0 (take k names) start).0
                ++ (walked_on t0 (walk_names casefold t0 []) r).0,
            (walked_on t0 (walk_names casefold t0 []) r).1,
          )) step_is

      -- the tree stays where the hold before goes
      pub walked_kept : IsKept t0.records (is_held h0) → t1 ≡ t → IsKept t1.records (is_held h2)
      walked_kept kept same = subst (λ (u : Tree). IsKept u.records (is_held h2))
          (sym (same ∙ w.tree)) (kept_more t0 h0 h2 kept (λ i. let e = next_holds i in omega arith))

      pub walking_more : (qids' : List QidStruct) → map qid_plain qids' ≡ map qid_plain qids
          ++ (qid_of a ∷ []) → t2 ≡ t0 → Walking casefold t0 t2 h0 h2 names start a.ino (k + 1)
          qids'
      walking_more qids' is_qids tree = record {
        tree = tree;
        found = is_qids ∙ ap (λ (l : List Qid). l ++ (qid_of a ∷ [])) w.found
            ∙ ap (λ (q : Qid). (walk_names casefold t0 (take k names) start).0 ++ (q ∷ []))
            (sym qid_is) ∙ sym (ap (λ (x : Walked). x.0) joined);
        stands = ap (λ (x : Walked). x.1) joined;
        holds = next_holds;
        count =
            let new = sym (length-map qids' qid_plain) ∙ ap length is_qids
            ∙ length-append (map qid_plain qids) (qid_of a ∷ []) in
            let old = length-map qids qid_plain in
            let had = w.count in
            omega arith;
      }

    -- the walk stops at a refusal or a fault
    module _ (h1 h2 : Holds) (same : IsSame h h1)
        (gone : (i : ℕ) → hold_count h2 i + own_hold k at i ≡ hold_count h1 i) where
      pub stopped_holds : IsSame h0 h2
      stopped_holds = record {
        counts = λ i.
            let old = w.holds i in
            let now = same.counts i in
            let down = gone i in
            omega arith;
      }

      pub stopped_kept : (t1 : Tree) → IsKept t0.records (is_held h0) → t1 ≡ t
          → IsKept t1.records (is_held h2)
      stopped_kept t1 kept is_tree = subst (λ (u : Tree). IsKept u.records (is_held h2))
          (sym (is_tree ∙ w.tree)) (kept_more t0 h0 h2 kept
          (λ i. let e = stopped_holds.counts i in omega arith))

    refused_names : (e : ℕ) → step_to casefold t at name ≡ Err e
        → walk_names casefold t0 names start ≡ (
          (walk_names casefold t0 (take k names) start).0
              ++ [],
          Err e,
        )
    refused_names e told =
        ap (λ (l : List (List ℕ)). walk_names casefold t0 l start) all_names
        ∙ walk-append casefold t0 (take k names) (name ∷ drop (suc k) names) start at w.stands
        ∙ ap (λ (r : Result ℕ ℕ). (
          (walk_names casefold t0 (take k names) start).0
              ++ (walked_on t0 (walk_names casefold t0 (drop (suc k) names)) r).0,
          (walked_on t0 (walk_names casefold t0 (drop (suc k) names)) r).1,
        ))
        (ap (λ (u : Tree). step_to casefold u at name) (sym w.tree) ∙ told)

    -- the qids so far are those of the names so far
    front : IsFrontOfWalk casefold t0 names start (map qid_plain qids)
    front = (
      at,
      ap (λ (n : ℕ). walk_names casefold t0 (take n names) start)
          (length-map qids qid_plain ∙ w.count)
          ∙ (λ j. (sym w.found j, w.stands j)),
    )

    pub stopped_walks : (e : HostError) → Finds t (step_to casefold t at name) (Err e)
        → Walks casefold t0 names start (map qid_plain qids) (Err e)
    stopped_walks (Errno e) f = record {
      exactly = (
        w.found ∙ sym (append-nil _) ∙ sym (ap (λ (x : Walked). x.0) (refused_names e f.exactly)),
        ap (λ (x : Walked). x.1) (refused_names e f.exactly),
      );
    }
    stopped_walks Fault f = record {
      exactly =
          λ some. (let count = length-map qids qid_plain in let had = w.count in omega arith, front);
    }
    stopped_walks NoMemory f = record { exactly = tt }

  -- all names were walked
  pub walked_all : k ≡ length names → Walks casefold t0 names start (map qid_plain qids) (Ok at)
  walked_all all = record {
    exactly = (
      w.found
          ∙ ap (λ (l : List (List ℕ)). (walk_names casefold t0 l start).0) whole,
      ap
          (λ (l : List (List ℕ)). (walk_names casefold t0 l start).1) (sym whole) ∙ w.stands,
    );
  } where
    whole : take k names ≡ names
    whole = ap (λ (j : ℕ). take j names) all ∙ take-length names
