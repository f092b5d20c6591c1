-- Paths made of names.
use Rattle.std.proofs.Common.{◌≡◌, ◌∙◌, ◌+◌, ℕ, List, [], ◌∷◌, ◌++◌, Option, Some, None, length, drop}
use Rattle.std.proofs.Common.{append_assoc, ap, sym, refl, arith, true, false}
use Rattle.std.proofs.lemmas.Bool.{false≢true}
use Rattle.std.specs.Prelude.{is_some}
use Rattle.std.specs.Option.{option_to_list}
use Rattle.std.specs.List.{flat_map}
use Rattle.port_base.specs.Paths.{components, lead, names}
use Rattle.libmount.specs.MountTables.{moved_path, path_of}
use Rattle.fuse_mnt.specs.Tables.{behind_slash, or_top}

with_lead : (l : Option (List ℕ)) (ns : List (List ℕ)) → is_some l ≡ true
    → length ns + 1 ≡ length (option_to_list l ++ ns)
with_lead None ns is = absurd (false≢true is)
with_lead (Some part) ns is = omega arith

without_lead : (l : Option (List ℕ)) (ns : List (List ℕ)) → is_some l ≡ false
    → length ns ≡ length (option_to_list l ++ ns)
without_lead None ns is = refl
without_lead (Some part) ns is = absurd (false≢true (sym is))

pub counted_with : (path : List ℕ) (n : ℕ) → n ≡ length (names path) → is_some (lead path) ≡ true
    → n + 1 ≡ length (components path)
unfolding components
counted_with path n is has = ap (λ k. k + 1) is ∙ with_lead (lead path) (names path) has

pub counted_without : (path : List ℕ) (n : ℕ) → n ≡ length (names path)
    → is_some (lead path) ≡ false → n ≡ length (components path)
unfolding components
counted_without path n is has = is ∙ without_lead (lead path) (names path) has

flat_map_both : {X : Type 0} (f : X → List ℕ) (xs ys : List X)
    → flat_map f (xs ++ ys) ≡ flat_map f xs ++ flat_map f ys
flat_map_both f [] ys = refl
flat_map_both f (x ∷ xs) ys = ap (λ rest. f x ++ rest) (flat_map_both f xs ys)
    ∙ sym (append_assoc (f x) (flat_map f xs) (flat_map f ys))

-- names behind slashes are a path, where there are any
pub top_or_names : (parts : List (List ℕ)) → or_top (flat_map behind_slash parts) ≡ path_of parts
top_or_names [] = refl
top_or_names (part ∷ parts) = refl

pub moved_whole : (a b c d from to path rest : List ℕ) → a ≡ [] → b ≡ a ++ flat_map behind_slash
    (names to) → names rest ≡ drop (length (names from)) (names path) → c ≡ b
    ++ flat_map behind_slash (names rest) → d ≡ or_top c → d ≡ moved_path from to path
moved_whole a b c d from to path rest empty first same second last =
    last ∙ ap or_top (second ∙ ap (λ x. x ++ flat_map behind_slash (names rest))
    (first ∙ ap (λ x. x ++ flat_map behind_slash (names to)) empty)
    ∙ sym (flat_map_both behind_slash (names to) (names rest)))
    ∙ top_or_names (names to ++ names rest)
    ∙ ap (λ r. path_of (names to ++ r)) same
