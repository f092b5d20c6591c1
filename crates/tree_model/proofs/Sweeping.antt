-- Sweeping one record away keeps what is linked or held.
use Rattle.std.proofs.Common.{◌≡◌, ◌≢◌, ℕ, ◌<◌, Bool, true, false, cond, not, ◌&&◌, ◌||◌, refl, sym}
use Rattle.std.proofs.Common.{ap, ◌∙◌, subst, Option, Some, None, ⊎_elim, arith, IsSome, IsTrue}
use Rattle.std.proofs.Common.{nat_lt}
use Rattle.std.specs.Prelude.{◌==◌}
use Rattle.std.proofs.lemmas.Bool.{cases_eq, false≢true}
use Rattle.std.proofs.lemmas.Bool.Decides.{nat_tests}
use Rattle.std.specs.FinMap.{get, remove, retain_keys}
use Rattle.tree_model.specs.Tree.{Record, Records, Body, is_directory, name_count, names_in}
use Rattle.tree_model.specs.Tree.{is_linked, count_names, TOP}
use Rattle.tree_model.specs.Tree.Body.{File, Directory, Link}
use Rattle.tree_model.specs.Good.{IsAt, links_of}
use Rattle.tree_model.specs.Sound.{IsCounted, IsKept, IsKeptBut, has_no_links, swept}
use Rattle.tree_model.proofs.Maps.{removed, remove_keeps, retained, same_gets}
use Rattle.tree_model.proofs.Counting.{weigh-remove}

-- a number of links is 0 where a record isn't linked
no_links_by : (b : Body) (i n : ℕ) → (i ≡ TOP → IsTrue (is_directory b))
    → (links_of b n ((i == TOP) || nat_lt 0 n) == 0) ≡ not ((i == TOP) || nat_lt 0 n)
no_links_by (File bytes) i n at_top = ⊎_elim (λ e. absurd (false≢true (at_top e)))
    (λ ne. grind (arith, nat_tests)) (cases_eq i TOP)
no_links_by (Directory es next above) i n at_top =
    elim ((i == TOP) || nat_lt 0 n) as (λ b. (cond b 2 0 == 0) ≡ not b)
    [ true ↦ refl | false ↦ refl ]
no_links_by (Link target) i n at_top = ⊎_elim (λ e. absurd (false≢true (at_top e)))
    (λ ne. grind (arith, nat_tests)) (cases_eq i TOP)

none_case : (b g : Bool) (rs : Records) (i : ℕ) → get rs i ≡ None
    → cond b None None ≡ get (cond g (remove rs i) rs) i
none_case true true rs i at = sym (removed rs i)
none_case true false rs i at = sym at
none_case false true rs i at = sym (removed rs i)
none_case false false rs i at = sym at

some_case : (lk h : Bool) (rs : Records) (i : ℕ) (r : Record) → get rs i ≡ Some r
    → cond (lk || h) (Some r) None ≡ get (cond (not lk && not h) (remove rs i) rs) i
some_case true h rs i r at = sym at
some_case false true rs i r at = sym at
some_case false false rs i r at = sym (removed rs i)

elsewhere : (g : Bool) (rs : Records) (i q : ℕ) → q ≢ i → get (cond g (remove rs i) rs) q ≡ get rs q
elsewhere true rs i q ne = remove_keeps rs i q ne
elsewhere false rs i q ne = refl

stays : (b : Bool) (o : Option Record) → (IsSome o → b ≡ true) → cond b o None ≡ o
stays true o h = refl
stays false None h = refl
stays false (Some r) h = absurd (false≢true (h refl))

not_none : {X : Type 0} (x : X) → Some x ≢ None
not_none x e = cc

not_free : (i n : ℕ) → ((i == TOP) || nat_lt 0 n) ≡ false → 0 < n → ⊥
not_free i n e h = grind (arith, nat_tests)

free_of : (lk h : Bool) → (not lk && not h) ≡ true → (lk ≡ false) × (h ≡ false)
free_of true h e = absurd (false≢true e)
free_of false true e = absurd (false≢true e)
free_of false false e = (refl, refl)

kept_of : (lk h : Bool) → (not lk && not h) ≡ false → (lk || h) ≡ true
kept_of true h e = refl
kept_of false true e = refl
kept_of false false e = absurd (false≢true (sym e))

module _ {rs : Records} {next : ℕ} {held : ℕ → Bool} (s : IsCounted rs next held) where
  pub no_links : (i : ℕ) (r : Record) → IsAt rs i r → has_no_links (get rs i) ≡ not (is_linked rs i)
  no_links i r at =
      ap has_no_links at ∙ ap (λ n. n == 0) (s.links i r at)
      ∙ no_links_by r.body i (name_count rs i)
      (λ e. s.top_is_directory r (subst (λ k. IsAt rs k r) e at))

  at_one : (i : ℕ) (o : Option Record) → get rs i ≡ o
      → cond (is_linked rs i || held i) (get rs i) None ≡ get (swept held rs i) i
  at_one i None at = ap (λ o. cond (is_linked rs i || held i) o None) at
      ∙ none_case (is_linked rs i || held i) (has_no_links (get rs i) && not (held i)) rs i at
  at_one i (Some r) at =
      ap (λ o. cond (is_linked rs i || held i) o None) at
      ∙ some_case (is_linked rs i) (held i) rs i r at
      ∙ ap (λ b. get (cond (b && not (held i)) (remove rs i) rs) i) (sym (no_links i r at))

  pub kept_is_swept : (i : ℕ) → IsKeptBut rs held i
      → retain_keys rs (λ q. is_linked rs q || held q) ≡ swept held rs i
  kept_is_swept i kept = same_gets _ _ (λ q. retained rs (λ q. is_linked rs q || held q) q ∙ ⊎_elim
      (λ e. subst (λ k. cond (is_linked rs k || held k) (get rs k) None ≡ get (swept held rs i) k)
      (sym e) (at_one i (get rs i) refl))
      (λ ne. stays (is_linked rs q || held q) (get rs q) (kept q ne)
      ∙ sym (elsewhere (has_no_links (get rs i) && not (held i)) rs i q ne))
      (cases_eq q i))

  -- a record that is neither linked nor held lists nothing, so the counts stay where it goes
  counts_stay : (i : ℕ) (r : Record) → IsAt rs i r → is_linked rs i ≡ false → (q : ℕ)
      → name_count (remove rs i) q ≡ name_count rs q
  counts_stay i r at free q =
      let none : names_in q r ≡ 0 = ap (count_names q) (s.emptied i r at free) in
      let step = weigh-remove (names_in q) rs i r at in
      omega arith

  -- with the record gone, what is named or held is still stored
  module _ (i : ℕ) (r : Record) (at : IsAt rs i r) (free : is_linked rs i ≡ false)
      (loose : held i ≡ false) where
    was_at : (q : ℕ) (d : Record) → IsAt (remove rs i) q d → IsAt rs q d
    was_at q d now = ⊎_elim (λ e. absurd (not_none d
        (sym (subst (λ k. IsAt (remove rs i) k d) e now) ∙ removed rs i)))
        (λ ne. sym (remove_keeps rs i q ne) ∙ now) (cases_eq q i)

    same_linked : (q : ℕ) → is_linked (remove rs i) q ≡ is_linked rs q
    same_linked q = ap (λ n. (q == TOP) || nat_lt 0 n) (counts_stay i r at free q)

    still : (q : ℕ) → q ≢ i → IsSome (get rs q) → IsSome (get (remove rs i) q)
    still q ne had = subst IsSome (sym (remove_keeps rs i q ne)) had

    pub counted_removed : IsCounted (remove rs i) next held
    counted_removed = record {
      top_is_directory = λ d now. s.top_is_directory d (was_at TOP d now);
      numbers = λ q d now. s.numbers q d (was_at q d now);
      links = λ q d now. s.links q d (was_at q d now)
          ∙ sym (ap (links_of d.body (name_count (remove rs i) q)) (same_linked q)
          ∙ ap (λ n. links_of d.body n (is_linked rs q)) (counts_stay i r at free q));
      emptied = λ q d now e. s.emptied q d (was_at q d now) (sym (same_linked q) ∙ e);
      named = λ q many. let was : 0 < name_count rs q =
          subst (λ n. 0 < n) (counts_stay i r at free q) many in still q
          (λ e. not_free i (name_count rs i) free (subst (λ k. 0 < name_count rs k) e was))
          (s.named q was);
      holds = λ q h. still q (λ e. false≢true (sym loose ∙ ap held (sym e) ∙ h)) (s.holds q h);
    }

  by_test : (i : ℕ) → IsKeptBut rs held i → (o : Option Record) → get rs i ≡ o → (g : Bool)
      → (has_no_links (get rs i) && not (held i)) ≡ g
      → IsCounted (cond g (remove rs i) rs) next held × IsKept (cond g (remove rs i) rs) held
  by_test i kept None at true e = absurd (false≢true
      (ap (λ o. has_no_links o && not (held i)) (sym at) ∙ e))
  by_test i kept (Some r) at true e =
      let both = free_of (is_linked rs i) (held i)
      (ap (λ b. b && not (held i)) (sym (no_links i r at)) ∙ e) in (
        counted_removed i r at both.0 both.1,
        λ q had. ⊎_elim (λ e. absurd (false≢true
            (subst IsSome (ap (get (remove rs i)) e ∙ removed rs i) had)))
            (λ ne. ap (λ b. b || held q) (same_linked i r at both.0 both.1 q)
            ∙ kept q ne (subst IsSome (remove_keeps rs i q ne) had)) (cases_eq q i),
      )
  by_test i kept None at false e = (
    s,
    λ q had. kept q
        (λ e. false≢true (subst IsSome (ap (get rs) e ∙ at) had)) had,
  )
  by_test i kept (Some r) at false e = (
    s,
    λ q had. ⊎_elim
        (λ is. subst (λ k. (is_linked rs k || held k) ≡ true) (sym is)
        (kept_of (is_linked rs i) (held i)
        (ap (λ b. b && not (held i)) (sym (no_links i r at)) ∙ e)))
        (λ ne. kept q ne had) (cases_eq q i),
  )

  -- after the sweep all is sound
  pub swept_sound : (i : ℕ) → IsKeptBut rs held i → IsCounted (swept held rs i) next held
      × IsKept (swept held rs i) held
  swept_sound i kept = by_test i kept (get rs i) refl (has_no_links (get rs i) && not (held i)) refl
