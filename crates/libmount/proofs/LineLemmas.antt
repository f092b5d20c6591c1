-- The first line of a text has its number and begins where the text does.
use Rattle.std.proofs.Common.{◌≡◌, ℕ, ◌+◌, ◌<◌, List, [], ◌∷◌, length, Some, None, refl, sym, ap}
use Rattle.std.proofs.Common.{◌∙◌, arith, cond}
use Rattle.std.specs.declared.option.Option.{Option}
use Rattle.std.specs.Borrow.{Bor}
use Rattle.std.specs.Prelude.{IfSome, is_some, option_copied}
use Rattle.std.proofs.lemmas.List.Splits.{length-slice_split}
use Rattle.libmount.specs.Items.{line_feed, numbered, place_of}
use Rattle.libmount.specs.Parts.{is_mark, parts}

pub numbered-more : (before place : ℕ) (line : List ℕ) (lines : List (List ℕ)) → 0 < length lines
    → numbered before place (line ∷ lines) ≡ (before + 1, (place, line))
    ∷ numbered (before + 1) (place + (length line + 1)) lines
numbered-more before place line [] some = absurd (omega arith)
numbered-more before place line (next ∷ lines) some = refl

-- what is left begins behind the line feed
abbrev pub BeginsAfter : ℕ → List ℕ → Option (Bor (List ℕ)) → Type 0
BeginsAfter place line rest = IfSome rest (λ text. text.ref_ptr.1 ≡ place + (length line + 1))

pub numbered-first : (before place : ℕ) (line : List ℕ) (rest : Option (Bor (List ℕ)))
    → BeginsAfter place line rest
    → numbered before place (line ∷ parts line_feed (option_copied rest))
    ≡ (cond (is_some rest) (before + 1) before, (place, line))
    ∷ numbered (cond (is_some rest) (before + 1) before) (place_of rest)
    (parts line_feed (option_copied rest))
numbered-first before place line None h = refl
numbered-first before place line (Some text) h =
    numbered-more before place line (parts line_feed (Some text.now))
    (omega (arith, length-slice_split (is_mark line_feed) text.now))
    ∙ ap (λ (p : ℕ). (before + 1, (place, line))
    ∷ numbered (before + 1) p (parts line_feed (Some text.now))) (sym h)
