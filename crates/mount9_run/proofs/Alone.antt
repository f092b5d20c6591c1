-- A header by itself, from the text that was taken.
use Rattle.std.proofs.Common.{◌≡◌, ℕ, List, ◌++◌, Some, None, Result, Ok, Err, refl, ap, ◌∙◌}
use Rattle.mount9_run.specs.Reading.{lines_of}
use Rattle.mount9_run.specs.Header.{HeaderRead, header, header_by, header_of, header_alone, text_of}
use Rattle.mount9_run.specs.Header.{with_rest, without_rest}

rest_away : (rest : List ℕ) (r : Result HeaderRead ℕ) → without_rest (with_rest rest r) ≡ r
rest_away rest (Ok h) = refl
rest_away rest (Err n) = refl

pub header_alone-text : (bytes text rest : List ℕ) → bytes ≡ text ++ rest
    → ((more : List ℕ) → text_of (text ++ more) ≡ Some (text, more))
    → header_alone bytes ≡ header_of (lines_of text)
unfolding header_alone header
header_alone-text bytes text rest e found =
    ap (λ s. without_rest (header_by s)) (ap text_of e ∙ found rest)
    ∙ rest_away rest (header_of (lines_of text))

pub header_alone-none : (bytes : List ℕ) → text_of bytes ≡ None → header_alone bytes ≡ Err 0
unfolding header_alone header
header_alone-none bytes h = ap (λ s. without_rest (header_by s)) h
