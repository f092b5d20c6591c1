-- The first entry above a cookie, where cookies rise.
use Rattle.std.proofs.Common.{◌≡◌, ℕ, zero, suc, ◌+◌, ◌≤◌, ◌<◌, true, false, List, [], ◌∷◌}
use Rattle.std.proofs.Common.{◌++◌, length, Some, None, refl, sym, ap, ◌∙◌, cond, arith, nat_lt}
use Rattle.std.proofs.Common.{get_or, subst, ⊎_elim, ◌⊎◌, inl, inr}
use Rattle.std.specs.Prelude.{nat_le, slice_get, option_copied, IfSome}
use Rattle.std.specs.Option.{MatchOption}
use Rattle.std.specs.Borrow.{Bor}
use Rattle.std.specs.declared.option.Option.{Option}
use Rattle.std.specs.List.{All, AllPairs}
use Rattle.std.specs.List.Sorted.{IsNonDecreasingBy, IsPartitionPoint}
use Rattle.std.proofs.lemmas.Bool.Decides.{nat_tests}
use Rattle.tree_model.specs.Tree.{DirEntry}
use Rattle.tree_model.specs.Good.{CookiesRise}
use Rattle.tree_model.specs.Reading.{entry_above}
use Rattle.tree_model.specs.Unlinking.{without}
use Rattle.tree_model.proofs.Bodies.{CookiesRise-push}
use Rattle.tree_model.proofs.Parting.{CookiesRise-without}
use Rattle.tree_host.specs.NamePlaces.{AreInOrder}

-- ---- in order, and rising

low_of : (es : List DirEntry) (next from : ℕ) → AreInOrder es next
    → All (λ (e : DirEntry). from ≤ e.cookie) es → from ≤ next → CookiesRise from es next
low_of [] next from order low le = le
low_of (e ∷ es) next from order low le = (
  low 0 e (omega arith),
  low_of es next (e.cookie + 1) (
    λ i j d lt within. order.0 (suc i) (suc j) d (omega arith) (omega arith),
    λ k d within. order.1 (suc k) d (omega arith),
  )
      (λ k d within. let more = order.0 0 (suc k) d (omega arith) (omega arith) in omega arith)
      (let last = order.1 0 e (omega arith) in omega arith),
)

pub rises : (es : List DirEntry) (next : ℕ) → AreInOrder es next → CookiesRise 0 es next
rises es next order = low_of es next 0 order (λ k d within. omega arith) (omega arith)

at_least : (from : ℕ) (es : List DirEntry) (end : ℕ) → CookiesRise from es end
    → All (λ (e : DirEntry). from ≤ e.cookie) es
at_least from [] end rise j d lt = absurd (omega arith)
at_least from (e ∷ es) end rise zero d lt = rise.0
at_least from (e ∷ es) end rise (suc j) d lt =
    let later = at_least (e.cookie + 1) es end rise.1 j d (omega arith) in
    let first = rise.0 in omega arith

end_of : (from : ℕ) (es : List DirEntry) (end : ℕ) → CookiesRise from es end → from ≤ end
end_of from [] end rise = rise
end_of from (e ∷ es) end rise =
    let later = end_of (e.cookie + 1) es end rise.1 in let first = rise.0 in omega arith

below_end : (from : ℕ) (es : List DirEntry) (end : ℕ) → CookiesRise from es end
    → All (λ (e : DirEntry). e.cookie < end) es
below_end from [] end rise j d lt = absurd (omega arith)
below_end from (e ∷ es) end rise zero d lt =
    let later = end_of (e.cookie + 1) es end rise.1 in omega arith
below_end from (e ∷ es) end rise (suc j) d lt =
    below_end (e.cookie + 1) es end rise.1 j d (omega arith)

apart : (from : ℕ) (es : List DirEntry) (end : ℕ) → CookiesRise from es end
    → AllPairs (λ (e f : DirEntry). e.cookie < f.cookie) es
apart from [] end rise i j d less lt = absurd (omega arith)
apart from (e ∷ es) end rise i zero d less lt = absurd (omega arith)
apart from (e ∷ es) end rise zero (suc j) d less lt =
    let later = at_least (e.cookie + 1) es end rise.1 j d (omega arith) in omega arith
apart from (e ∷ es) end rise (suc i) (suc j) d less lt =
    apart (e.cookie + 1) es end rise.1 i j d (omega arith) (omega arith)

ordered : (es : List DirEntry) (end : ℕ) → CookiesRise 0 es end → AreInOrder es end
ordered es end rise = (apart 0 es end rise, below_end 0 es end rise)

pub order_none : AreInOrder [] 1
order_none = ordered [] 1 (omega arith)

pub order_push : (es : List DirEntry) (next : ℕ) (e : DirEntry) → e.cookie ≡ next
    → AreInOrder es next → AreInOrder (es ++ e ∷ []) (next + 1)
order_push es next e is order = ordered (es ++ e ∷ []) (next + 1)
    (CookiesRise-push 0 es next e is (rises es next order))

pub order_without : (name : List ℕ) (es : List DirEntry) (next : ℕ) → AreInOrder es next
    → AreInOrder (without name es) next
order_without name es next order = ordered (without name es) next
    (CookiesRise-without name 0 es next (rises es next order))

pub never_falls : (es : List DirEntry) (next : ℕ) → AreInOrder es next
    → IsNonDecreasingBy (λ (e : DirEntry). e.cookie) es
never_falls es next order i j d le lt = ⊎_elim
    (λ (is : i ≡ j). subst (λ k. (get_or es i d).cookie ≤ (get_or es k d).cookie) is (omega arith))
    (λ (less : i < j). let apart = order.0 i j d less lt in omega arith)
    (same_or_less i j le) where
      same_or_less : (i j : ℕ) → i ≤ j → (i ≡ j) ⊎ (i < j)
      same_or_less zero zero le = inl refl
      same_or_less zero (suc j) le = inr (omega arith)
      same_or_less (suc i) zero le = absurd (omega arith)
      same_or_less (suc i) (suc j) le = ⊎_elim (λ is. inl (ap (λ n. suc n) is))
          (λ less. inr (omega arith)) (same_or_less i j (omega arith))

-- ---- the point

test_above : (a b : ℕ) → nat_le a b ≡ false → nat_lt b a ≡ true
test_above a b h = grind (arith, nat_tests)

test_below : (a b : ℕ) → nat_le a b ≡ true → nat_lt b a ≡ false
test_below a b h = grind (arith, nat_tests)

-- what stands at the point is the first above
pub first_above : (cookie : ℕ) (es : List DirEntry) (i : ℕ) → i ≤ length es
    → IsPartitionPoint (λ (e : DirEntry). nat_le e.cookie cookie ≡ true)
    (λ (e : DirEntry). nat_le e.cookie cookie ≡ false) es i → slice_get es i ≡ entry_above cookie es
first_above cookie [] zero le parted = refl
first_above cookie [] (suc i) le parted = absurd (omega arith)
first_above cookie (e ∷ es) zero le parted =
    sym (ap (λ b. cond b (Some e) (entry_above cookie es))
    (test_above e.cookie cookie (parted.1 0 e (omega arith) (omega arith))))
first_above cookie (e ∷ es) (suc i) le parted =
    first_above cookie es i (omega arith) (
      λ k d low high. parted.0 (suc k) d (omega arith) (omega arith),
      λ k d low high. parted.1 (suc k) d (omega arith) (omega arith),
    )
    ∙ sym (ap (λ b. cond b (Some e) (entry_above cookie es))
    (test_below e.cookie cookie (parted.0 0 e (omega arith) (omega arith))))

-- what a look-up at a place gives
pub past : (es : List DirEntry) (i : ℕ) → length es ≤ i → slice_get es i ≡ None
past [] i le = refl
past (e ∷ es) zero le = absurd (omega arith)
past (e ∷ es) (suc i) le = past es i (omega arith)

within : (es : List DirEntry) (i : ℕ) (d : DirEntry) → i < length es → d ≡ get_or es i d
    → Some d ≡ slice_get es i
within [] i d lt is = absurd (omega arith)
within (e ∷ es) zero d lt is = ap (λ d. Some d) is
within (e ∷ es) (suc i) d lt is = within es i d (omega arith) is

pub got : (Q : Bor DirEntry → Type 0) (o : Option (Bor DirEntry)) (es : List DirEntry) (i : ℕ)
    → IfSome o (λ x. x.now ≡ get_or es i x.now)
    → MatchOption o (length es ≤ i) (λ x. (i < length es) × Q x) → option_copied o ≡ slice_get es i
got Q None es i is place = sym (past es i place)
got Q (Some x) es i is place = within es i x.now place.0 is
