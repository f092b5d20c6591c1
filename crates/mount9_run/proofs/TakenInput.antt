-- How much of the input a run takes, from what its steps take.
use Rattle.std.proofs.Common.{◌≡◌, ℕ, ◌+◌, ◌≤◌, List, [], ◌++◌, length, length-append, IfSome}
use Rattle.std.proofs.Common.{Option, Some, None, Result, Ok, Err, refl, sym, ap, ◌∙◌, subst, arith}
use Rattle.std.specs.Prelude.{IsOk}
use Rattle.std.specs.Io.KnownBytes.{Consumes}
use Rattle.std.proofs.KnownBytes.{Consumes-nil, Consumes-trans}
use Rattle.std.proofs.lemmas.Bool.{false≢true}
use Rattle.mount9_run.specs.Command.{Serve, command}
use Rattle.mount9_run.specs.Header.{HeaderRead, Split, header_of, text_of}
use Rattle.mount9_run.specs.HeaderViews.{IsEndless}
use Rattle.mount9_run.specs.Reading.{lines_of}
use Rattle.mount9_run.specs.Running.{IsTold}
use Rattle.mount9_run.specs.Statuses.{exit_code}
use Rattle.mount9_run.specs.Taken.{Taken, Took, behind, command_taken, described_taken}
use Rattle.mount9_run.specs.Taken.{header_taken, taken}
use Rattle.mount9_run.specs.Taken.Taken.{everything, just}
use Rattle.mount9_run.specs.declared.run.Status.{Status}
use Rattle.mount9_run.specs.declared.run.Status.TheVariants.{Served, Stopped, Words, Header, Memory}
use Rattle.mount9_run.specs.declared.run.Status.TheVariants.{Input, Output}

-- nothing was taken
pub took_nothing : (left : Option (List ℕ)) → Took (just 0) left left
took_nothing left = ([], Consumes-nil left, refl)

-- a text was taken, and then more
took_behind : (text : List ℕ) (k : Taken) (l0 l1 l2 : Option (List ℕ)) → Consumes l0 l1 text
    → Took k l1 l2 → Took (behind (length text) k) l0 l2
took_behind text everything l0 l1 l2 c k = k
took_behind text (just n) l0 l1 l2 c (more, d, number) = (
  text ++ more,
  Consumes-trans l0 l1 l2 text more c d,
  length-append text more
      ∙ ap (λ m. length text + m) number,
)

-- without the line `end` there is no text
pub endless : (l0 l1 : Option (List ℕ)) → IfSome l0 (λ bytes. IsEndless bytes l0 l1)
    → IfSome l0 (λ bytes. text_of bytes ≡ None)
endless None l1 h = tt
endless (Some bytes) l1 h = h.none

-- ---- refused words

pub took_unread : (words : List (List ℕ)) (left : Option (List ℕ)) → command words ≡ None
    → IfSome left (λ bytes. Took (taken words bytes) left left)
took_unread words None is = tt
took_unread words (Some bytes) is = subst (λ (o : Option Serve). Took (command_taken o bytes)
    (Some bytes) (Some bytes)) (sym is) (took_nothing (Some bytes))

-- ---- the header

module _ (words : List (List ℕ)) (s : Serve) (is : command words ≡ Some s) where
  by_text : (bytes : List ℕ) (split : Split) → text_of bytes ≡ split
      → taken words bytes ≡ header_taken s bytes split
  by_text bytes split found = ap (λ (o : Option Serve). command_taken o bytes) is
      ∙ ap (header_taken s bytes) found

  -- no line `end` stands within the limit
  pub took_endless : (l0 l1 : Option (List ℕ)) → IfSome l0 (λ bytes. IsEndless bytes l0 l1)
      → IfSome l0 (λ bytes. Took (taken words bytes) l0 l1)
  took_endless None l1 h = tt
  took_endless (Some bytes) l1 h = subst (λ (n : Taken). Took n (Some bytes) l1)
      (sym (by_text bytes None h.none)) h.took

  module _ (text : List ℕ) (read : Result HeaderRead ℕ)
      (whole : (rest : List ℕ) → text_of (text ++ rest) ≡ Some (text, rest))
      (told : header_of (lines_of text) ≡ read) where
    by_header : (rest : List ℕ) → taken words (text ++ rest) ≡ behind (length text)
        (described_taken s rest read)
    by_header rest = by_text (text ++ rest) (Some (text, rest)) (whole rest)
        ∙ ap (λ (r : Result HeaderRead ℕ). behind (length text) (described_taken s rest r)) told

    -- the text of the header, and what is taken behind it
    pub took_header : (l0 l1 l2 : Option (List ℕ)) → Consumes l0 l1 text
        → IfSome l1 (λ rest. Took (described_taken s rest read) l1 l2)
        → IfSome l0 (λ bytes. Took (taken words bytes) l0 l2)
    took_header None l1 l2 c k = tt
    took_header (Some bytes) None l2 c k = absurd c
    took_header (Some bytes) (Some rest) l2 c k =
        subst (λ (n : Taken). Took n (Some bytes) l2) (sym (ap (taken words) c ∙ by_header rest))
        (took_behind text (described_taken s rest read) (Some bytes) (Some rest) l2 c k)

-- ---- answers

-- each number up to 3 goes with a whole text
pub told_by_code : (s : Status) (n : ℕ) → n ≡ exit_code s → n ≤ 3 → IsTold s
told_by_code Served n is few = tt
told_by_code Stopped n is few = tt
told_by_code Words n is few = tt
told_by_code Header n is few = tt
told_by_code Memory n is few = absurd (omega (arith, is, few))
told_by_code Input n is few = absurd (omega (arith, is, few))
told_by_code Output n is few = absurd (omega (arith, is, few))

pub ok_of : {X E : Type 0} (r : Result X E) → IsOk r → (x : X) × (r ≡ Ok x)
ok_of (Ok x) ok = (x, refl)
ok_of (Err e) ok = absurd (false≢true ok)
