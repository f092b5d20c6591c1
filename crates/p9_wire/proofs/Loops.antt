-- Loops over values that are spelled one after another.
use Rattle.std.proofs.Common.{◌≡◌, ℕ, zero, suc, ◌+◌, ◌<◌, ◌≤◌, List, [], ◌∷◌, ◌++◌, length, get_or}
use Rattle.std.proofs.Common.{take, drop, map, Ok, Err, sym, ap, subst, ◌∙◌, arith}
use Rattle.std.proofs.lemmas.List.{take_more, map_push, flat_map_more, take-append-drop, map-append}
use Rattle.std.proofs.lemmas.List.{length-append}
use Rattle.std.proofs.lemmas.List.Concat.{flat_map-append}
use Rattle.std.specs.List.{flat_map, AllByRecursion}
use Rattle.std.specs.declared.option.Option.{Option}
use Rattle.port_base.specs.declared.sink.SinkFault.{SinkFault}
use Rattle.p9_wire.specs.Sending.{Sends}
use Rattle.p9_wire.specs.Steps.{Sends-stops, Sends-after, Sends-same}

pub AllByRecursion-push : {P : Type 0} (S : P → Type 0) (ps : List P) (p : P) → AllByRecursion S ps
    → S p → AllByRecursion S (ps ++ p ∷ [])
AllByRecursion-push S [] p a b = (b, tt)
AllByRecursion-push S (q ∷ ps) p a b = (a.0, AllByRecursion-push S ps p a.1 b)

module _ {V P : Type 0} (v : V → P) (S : P → Type 0) (s : P → List ℕ) where
  pub spells_at : (xs : List V) (i : ℕ) (d : V) → i < length xs → AllByRecursion S (map v xs)
      → S (v (get_or xs i d))
  spells_at [] i d lt a = absurd (omega (arith, lt))
  spells_at (x ∷ xs) zero d lt a = a.0
  spells_at (x ∷ xs) (suc i) d lt a = spells_at xs i d (omega (arith, lt)) a.1

  pub short_at : (xs : List V) (i n : ℕ) (d : V) → i < length xs
      → length (flat_map s (map v xs)) < n → length (s (v (get_or xs i d))) < n
  short_at [] i n d lt a = absurd (omega (arith, lt))
  short_at (x ∷ xs) zero n d lt a = omega
      (arith, a, length-append (s (v x)) (flat_map s (map v xs)))
  short_at (x ∷ xs) (suc i) n d lt a = short_at xs i n d (omega (arith, lt))
      (omega (arith, a, length-append (s (v x)) (flat_map s (map v xs))))

  pub spelled_more : (xs : List V) (i : ℕ) (d : V) → i < length xs
      → flat_map s (map v (take (i + 1) xs)) ≡ flat_map s (map v (take i xs))
      ++ s (v (get_or xs i d))
  spelled_more xs i d lt = ap (λ ys. flat_map s (map v ys)) (take_more xs i d lt)
      ∙ ap (flat_map s) (map_push v (take i xs) (get_or xs i d))
      ∙ sym (flat_map_more s [] (map v (take i xs)) (v (get_or xs i d)))

  pub spelled_parts : (xs : List V) (n : ℕ) → flat_map s (map v xs)
      ≡ flat_map s (map v (take n xs)) ++ flat_map s (map v (drop n xs))
  spelled_parts xs n = ap (λ ys. flat_map s (map v ys)) (sym (take-append-drop n xs))
      ∙ ap (flat_map s) (map-append v (take n xs) (drop n xs))
      ∙ flat_map-append s (map v (take n xs)) (map v (drop n xs))

  pub spells_more : (xs : List V) (i : ℕ) (d : V) → i < length xs
      → AllByRecursion S (map v (take i xs)) → S (v (get_or xs i d))
      → AllByRecursion S (map v (take (i + 1) xs))
  spells_more xs i d lt a b = subst (AllByRecursion S)
      (sym (ap (map v) (take_more xs i d lt) ∙ map_push v (take i xs) (get_or xs i d)))
      (AllByRecursion-push S (map v (take i xs)) (v (get_or xs i d)) a b)

  pub size_more : (xs : List V) (i n m : ℕ) (d : V) → i < length xs → n
      ≡ length (flat_map s (map v (take i xs))) → m ≡ length (s (v (get_or xs i d))) → n + m
      ≡ length (flat_map s (map v (take (i + 1) xs)))
  size_more xs i n m d lt a b = omega (
    arith,
    a,
    b,
    ap length
        (spelled_more xs i d lt),
    length-append (flat_map s (map v (take i xs)))
        (s (v (get_or xs i d))),
  )

  pub size_within : (xs : List V) (i n m : ℕ) (d : V) → i < length xs → n
      ≡ length (flat_map s (map v (take i xs))) → m ≡ length (s (v (get_or xs i d)))
      → n + m ≤ length (flat_map s (map v xs))
  size_within xs i n m d lt a b = omega (
    arith,
    size_more xs i n m d lt a b,
    ap length
        (spelled_parts xs (i + 1)),
    length-append (flat_map s (map v (take (i + 1) xs)))
        (flat_map s (map v (drop (i + 1) xs))),
  )

  module _ (xs : List V) (i : ℕ) (d : V) (lt : i < length xs) (s0 s1 s2 : Option (List ℕ))
      (r0 r1 r2 f0 f1 f2 : ℕ) where
    pub Sends-more : Sends {T = Unit {0}} (flat_map s (map v (take i xs))) s0 s1 r0 r1 f0 f1
        (Ok tt) → (x : Unit {0}) → Sends {T = Unit {0}} (s (v (get_or xs i d))) s1 s2 r1 r2 f1 f2
        (Ok x) → Sends {T = Unit {0}} (flat_map s (map v (take (i + 1) xs))) s0 s2 r0 r2 f0 f2
        (Ok tt)
    Sends-more h x k = rw (spelled_more xs i d lt)
        (Sends-after (flat_map s (map v (take i xs)))
        (s (v (get_or xs i d))) s0 s1 s2 r0 r1 r2 f0 f1 f2 tt (Ok tt) h k)

    pub Sends-ends : (e : SinkFault) → Sends {T = Unit {0}}
        (flat_map s (map v (take i xs))) s0 s1 r0 r1 f0 f1 (Ok tt)
        → Sends {T = Unit {0}} (s (v (get_or xs i d))) s1 s2 r1 r2 f1 f2 (Err e)
        → Sends {T = Unit {0}} (flat_map s (map v xs)) s0 s2 r0 r2 f0 f2 (Err e)
    Sends-ends e h k =
        let upto = Sends-after (flat_map s (map v (take i xs)))
        (s (v (get_or xs i d))) s0 s1 s2 r0 r1 r2 f0 f1 f2 tt (Err e) h k in
        let rest = flat_map s (map v (drop (i + 1) xs)) in
        let whole : flat_map s (map v xs) ≡ (flat_map s (map v (take i xs))
        ++ s (v (get_or xs i d))) ++ rest = spelled_parts xs (i + 1)
        ∙ ap (λ (l : List ℕ). l ++ rest) (spelled_more xs i d lt) in
        Sends-same _ (flat_map s (map v xs)) (sym whole) s0 s2 r0 r2 f0 f2 (Err e)
        (Sends-stops (flat_map s (map v (take i xs)) ++ s (v (get_or xs i d))) rest s0 s2 s2 r0
        r2 r2 f0 f2 f2 e upto)
