-- The header that stands at the front of the input.
use Rattle.std.proofs.Common.{◌≡◌, ℕ, List, ◌++◌, IfSome, Some, None, Result, Ok, sym, ap, ◌∙◌}
use Rattle.std.proofs.Common.{subst}
use Rattle.std.specs.declared.option.Option.{Option}
use Rattle.std.specs.Io.KnownBytes.{Consumes}
use Rattle.mount9_run.specs.Header.{HeaderRead, header, header_by, header_of, with_rest, text_of}
use Rattle.mount9_run.specs.Reading.{lines_of}
use Rattle.mount9_run.specs.Statuses.{IsWholeTree}

same_header : (h k : HeaderRead) (rest more : List ℕ)
    → ◌≡◌ {A = Result (HeaderRead × List ℕ) ℕ} (Ok (h, rest)) (Ok (k, more)) → h ≡ k
same_header h k rest more is = let e : ◌≡◌ {A = HeaderRead × List ℕ} (h, rest) (k, more) =
    cc in ap (λ (p : HeaderRead × List ℕ). p.0) e

module _ (text : List ℕ) (whole : (rest : List ℕ) → text_of (text ++ rest) ≡ Some (text, rest))
    (h : HeaderRead) (read : header_of (lines_of text) ≡ Ok h) where
  at_front : (rest : List ℕ) → header (text ++ rest) ≡ Ok (h, rest)
  unfolding header
  at_front rest = ap header_by (whole rest) ∙ ap (with_rest rest) read

-- the header that was read is the one that the input has
pub headed_by : (l0 l1 : Option (List ℕ)) (text : List ℕ) → Consumes l0 l1 text
    → ((rest : List ℕ) → text_of (text ++ rest) ≡ Some (text, rest))
    → (h : HeaderRead) → header_of (lines_of text) ≡ Ok h → IsWholeTree h.tree
    → IfSome l0 (λ bytes. (k : HeaderRead) (rest : List ℕ) → header bytes ≡ Ok (k, rest)
    → IsWholeTree k.tree)
headed_by None l1 text taken whole h read w = tt
headed_by (Some bytes) None text taken whole h read w = absurd taken
headed_by (Some bytes) (Some left) text taken whole h read w = λ k rest is.
    subst (λ (x : HeaderRead). IsWholeTree x.tree)
    (same_header h k left rest (sym (at_front text whole h read left) ∙ sym (ap header taken)
    ∙ is)) w
