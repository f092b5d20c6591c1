-- Reading a header from left to right, where a refusal tells the number of its line.
use Rattle.std.specs.Prelude.{◌≡◌, ℕ, ◌+◌, List, [], ◌∷◌, Option, Some, None, Result, Ok, Err}
use Rattle.std.specs.Prelude.{◌==◌, if◌then◌else◌, bytes_eq, Bool, true, false, option_and_then}
use Rattle.std.specs.List.{slice_split}
use Rattle.mount9_run.specs.Texts.{split_once}
use Rattle.mount9_run.specs.declared.header.error.HeaderError.{HeaderError}
use Rattle.mount9_run.specs.declared.header.error.HeaderError.TheVariants.{Line, NoMemory}

infixl 10 ◌>>=◌
abbrev pub ◌>>=◌ : {A B : Type 0} → Result A ℕ → (A → Result B ℕ) → Result B ℕ
(Ok x) >>= f = f x
(Err e) >>= f = Err e

-- the line is refused, unless the test holds
abbrev pub check : ℕ → Bool → Result (Unit {0}) ℕ
check n ok = if ok then Ok tt else Err n

-- the line is refused, unless there is a value
abbrev pub or_refused : {X : Type 0} → ℕ → Option X → Result X ℕ
or_refused n None = Err n
or_refused n (Some x) = Ok x

-- ---- fields

-- a field, which a space ends, and what follows
unfoldable pub field_at : ℕ → List ℕ → Result (List ℕ × List ℕ) ℕ
field_at n line = or_refused n (split_once 32 line)

-- what follows this word, where the line begins with it
unfoldable pub after_word : List ℕ → List ℕ → Option (List ℕ)
after_word word line = option_and_then (λ f. if bytes_eq f.0 word then Some f.1 else None)
    (split_once 32 line)

-- the same, where no other line may stand here
unfoldable pub keyword_at : List ℕ → ℕ → List ℕ → Result (List ℕ) ℕ
keyword_at word n line = or_refused n (after_word word line)

-- ---- lines

-- all parts but the last
abbrev pub whole_parts : List (List ℕ) → List (List ℕ)
whole_parts [] = []
whole_parts (x ∷ []) = []
whole_parts (x ∷ y ∷ ys) = x ∷ whole_parts (y ∷ ys)

-- the lines, each ended by a line feed
unfoldable pub lines_of : List ℕ → List (List ℕ)
lines_of text = whole_parts (slice_split (λ b. b == 10) text)

-- the number of a line, and the lines from it on
abbrev pub Place : Type 0
Place = ℕ × List (List ℕ)

abbrev pub line_at : Place → Result (List ℕ × Place) ℕ
line_at (n, []) = Err n
line_at (n, l ∷ ls) = Ok (l, (n + 1, ls))

abbrev pub gathered_by : {X : Type 0} → Result (Option X) ℕ → X × Place
    → (X → Result (X × Place) ℕ) → Result (X × Place) ℕ
gathered_by (Err n) here more = Err n
gathered_by (Ok None) here more = Ok here
gathered_by (Ok (Some x)) here more = more x

-- what lines add to x one after another, up to the first that is of another kind, and the place of
-- that one
unfoldable pub gathered : {X : Type 0} → (ℕ → X → List ℕ → Result (Option X) ℕ) → X → ℕ
    → List (List ℕ) → Result (X × Place) ℕ
gathered with_line x n [] = Err n
gathered with_line x n (l ∷ ls) =
    gathered_by (with_line n x l) (x, (n, l ∷ ls)) (λ y. gathered with_line y (n + 1) ls)

-- ---- what code returns

abbrev pub Fails : {Y : Type 0} → HeaderError → Result Y ℕ → Type 0
Fails NoMemory read = Unit {0}
Fails (Line n) read = read ≡ Err n

-- what a function returned, seen by view, is what reading gives, unless memory is wanted
abbrev pub Gives : {X Y : Type 0} → (X → Y) → Result X HeaderError → Result Y ℕ → Type 0
Gives view (Ok x) read = read ≡ Ok (view x)
Gives view (Err e) read = Fails e read

-- whether a line was of its kind, and what was gathered before and after it
abbrev pub GivesNext : {X : Type 0} → Result Bool HeaderError → X → X → Result (Option X) ℕ → Type 0
GivesNext (Ok true) old new read = read ≡ Ok (Some new)
GivesNext (Ok false) old new read = (read ≡ Ok None) × (new ≡ old)
GivesNext (Err e) old new read = Fails e read
