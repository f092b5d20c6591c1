-- The explanation of an overlay, part by part.
use Rattle.std.proofs.Common.{◌≡◌, ◌∙◌, ◌++◌, ◌∷◌, [], ℕ, List, length, map, ap, sym, refl}
use Rattle.std.proofs.Common.{Option, append_assoc, subst}
use Rattle.std.proofs.lemmas.List.{append-nil}
use Rattle.std.proofs.lemmas.List.Folds.{flat_map-map}
use Rattle.std.specs.Prelude.{codes}
use Rattle.std.specs.List.{flat_map}
use Rattle.libmount.specs.Builders.{Layers}
use Rattle.libmount.specs.Explanations.{count_parts, dir_part, ended, listed, overlay_explanation}
use Rattle.libmount.specs.Explanations.{upper_parts}
use Rattle.libmount.specs.Mounters.{Calls}
use Rattle.libmount.specs.Probes.{Explains, Facts, Tells, user_text}
use Rattle.libmount.proofs.FactLemmas.{tells_always, tells_answer, tells_as, tells_twice}

-- commas before the parts are commas behind those before them
shifted : (mark : List ℕ) (parts : List (List ℕ)) (last : List ℕ) →
    flat_map (λ part. mark ++ part) (parts ++ last ∷ [])
    ≡ mark ++ (flat_map (λ part. part ++ mark) parts ++ last)
shifted mark [] last = append-nil (mark ++ last)
shifted mark (part ∷ parts) last =
    ap (λ rest. (mark ++ part) ++ rest) (shifted mark parts last)
    ∙ (append_assoc mark part (mark ++ (flat_map (λ p. p ++ mark) parts ++ last))
    ∙ ap (λ rest. mark ++ rest)
    (sym (append_assoc part mark (flat_map (λ p. p ++ mark) parts ++ last))
    ∙ sym (append_assoc (part ++ mark) (flat_map (λ p. p ++ mark) parts) last)))

listed_last : (parts : List (List ℕ)) (last : List ℕ) → listed (parts ++ last ∷ [])
    ≡ flat_map ended parts ++ last
listed_last [] last = append-nil last
listed_last (part ∷ parts) last =
    ap (λ rest. part ++ rest) (shifted (codes ", ") parts last)
    ∙ (sym (append_assoc part (codes ", ") (flat_map ended parts ++ last))
    ∙ sym (append_assoc (ended part) (flat_map ended parts) last))

flat_map_both : {X : Type 0} (f : X → List ℕ) (xs ys : List X)
    → flat_map f (xs ++ ys) ≡ flat_map f xs ++ flat_map f ys
flat_map_both f [] ys = refl
flat_map_both f (x ∷ xs) ys = ap (λ rest. f x ++ rest) (flat_map_both f xs ys)
    ∙ sym (append_assoc (f x) (flat_map f xs) (flat_map f ys))

in_four : (a b c : List (List ℕ)) (last : List ℕ) →
    ((flat_map ended a ++ flat_map ended b) ++ flat_map ended c) ++ last
    ≡ listed (a ++ (b ++ (c ++ last ∷ [])))
in_four a b c last =
    rw (
      ← append_assoc b c (last ∷ []),
      ← append_assoc a (b ++ c) (last ∷ []),
      listed_last (a ++ (b ++ c)) last,
      flat_map_both ended a (b ++ c),
      flat_map_both ended b c,
      append_assoc (flat_map ended a) (flat_map ended b) (flat_map ended c),
    ) refl

-- the four texts in a row are the explanation
pub overlay_told : (o : Layers) (f : Facts) →
    ((flat_map (λ dir. ended (dir_part f dir)) o.lowerdirs
    ++ flat_map ended (upper_parts o.upper o.target f))
    ++ flat_map ended (count_parts (length o.lowerdirs) o.upper)) ++ user_text f.user
    ≡ overlay_explanation o f
unfolding overlay_explanation
overlay_told o f =
    rw (← flat_map-map ended (dir_part f) o.lowerdirs)
    (in_four (map (dir_part f) o.lowerdirs) (upper_parts o.upper o.target f)
    (count_parts (length o.lowerdirs) o.upper) (user_text f.user))

count_of : (o : Layers) (dirs : List (List ℕ)) (n : ℕ) (count : List ℕ) → dirs ≡ o.lowerdirs
    → n ≡ length dirs → count ≡ flat_map ended (count_parts n o.upper)
    → count ≡ flat_map ended (count_parts (length o.lowerdirs) o.upper)
count_of o dirs n count same long is =
    is ∙ ap (λ k. flat_map ended (count_parts k o.upper)) (long ∙ ap length same)

-- a text that grew by the four parts
pub overlay_whole : (facts second third : Option Facts) (o : Layers) (dirs : List (List ℕ)) (n : ℕ)
    (count user start a b c d : List ℕ) (w x y z : Calls) → start ≡ [] →
    dirs ≡ o.lowerdirs → n ≡ length dirs → second ≡ facts → third ≡ facts
    → Tells facts (λ f. flat_map (λ dir. ended (dir_part f dir)) dirs) start a w x
    → Tells second (λ f. flat_map ended (upper_parts o.upper o.target f)) a b x y
    → count ≡ flat_map ended (count_parts n o.upper) → c ≡ b ++ count
    → Explains third (λ f. user_text f.user) user y z → d ≡ c ++ user
    → Explains facts (overlay_explanation o) d w z
overlay_whole facts second third o dirs n count user start a b c d w x y z empty same long s t
    first upper is more told last =
    let one = tells_as facts _ (λ f. flat_map (λ dir. ended (dir_part f dir)) o.lowerdirs) [] a w x
    (λ f. ap (flat_map (λ dir. ended (dir_part f dir))) same) (subst (λ from. Tells facts
    (λ f. flat_map (λ dir. ended (dir_part f dir)) dirs) from a w x) empty first) in
    let two = tells_twice facts second _ _ [] a b w x y s one upper in
    let three = tells_twice facts facts _ (λ f. count) [] b c w y y refl two
    (tells_always facts count b c y more) in
    let four = tells_twice facts third _ _ [] c d w y z t three
    (tells_answer third _ user c d y z last told) in
    tells_as facts _ (overlay_explanation o) [] d w z
    (λ f. ap (λ k. ((flat_map (λ dir. ended (dir_part f dir)) o.lowerdirs
    ++ flat_map ended (upper_parts o.upper o.target f)) ++ k) ++ user_text f.user)
    (count_of o dirs n count same long is) ∙ overlay_told o f) four
