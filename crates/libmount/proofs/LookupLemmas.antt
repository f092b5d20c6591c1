-- The last line that has a say is the first from the end.
use Rattle.std.proofs.Common.{◌≡◌, ℕ, List, [], ◌∷◌, ◌++◌, Option, Some, None, Result, Ok, Err}
use Rattle.std.proofs.Common.{refl, sym, subst, ap, ◌∙◌, reverse}
use Rattle.std.specs.Prelude.{slice_get}
use Rattle.std.specs.List.{cons_option, filter_map}
use Rattle.std.specs.Option.{option_map}
use Rattle.std.proofs.lemmas.List.{reverse-append}
use Rattle.port_base.specs.declared.flags.MsFlags.{MsFlags}
use Rattle.port_base.specs.Flags.{bits_of}
use Rattle.libmount.specs.declared.errors.RemountError.{RemountError}
use Rattle.libmount.specs.declared.errors.RemountError.TheVariants.{Io, ParseMountInfo}
use Rattle.libmount.specs.declared.errors.RemountError.TheVariants.{UnknownMountPoint, NoMemory}
use Rattle.libmount.specs.Items.{line_feed}
use Rattle.libmount.specs.Cuts.{Placed}
use Rattle.libmount.specs.Lookup.{flags_at, or_none, verdict, verdict_by, verdicts}
use Rattle.libmount.proofs.PlaceLemmas.{verdict-anywhere}
use Rattle.libmount.specs.Parts.{parts}
use Rattle.libmount.specs.Reading.{Message}
use Rattle.libmount.specs.Rows.{Row, row}
use Rattle.libmount.specs.Views.{GivesFlags, GivesVerdict}

module _ (path : List ℕ) (line : Placed) where
  by_row : (read : Result (Option Row) Message) → row line ≡ read
      → verdict path line.1 ≡ verdict_by path read
  unfolding verdict
  by_row read h = verdict-anywhere path 0 line.0 line.1 ∙ ap (verdict_by path) h

  pub verdict-none : row line ≡ Ok None → verdict path line.1 ≡ None
  verdict-none h = by_row (Ok None) h

  pub verdict-err : (message : Message) → row line ≡ Err message
      → verdict path line.1 ≡ Some (Err message)
  verdict-err message h = by_row (Err message) h

  by_flags : (found : Option MsFlags) → GivesVerdict (Ok found)
      (option_map Ok (option_map bits_of found))
  by_flags None = refl
  by_flags (Some flags) = refl

  pub verdict-some : (r : Row) (found : Option MsFlags) → row line ≡ Ok (Some r)
      → option_map bits_of found ≡ flags_at path r → GivesVerdict (Ok found) (verdict path line.1)
  verdict-some r found h e =
      subst (GivesVerdict (Ok found)) (sym (by_row (Ok (Some r)) h))
      (subst (λ (flags : Option ℕ). GivesVerdict (Ok found) (option_map Ok flags)) e
      (by_flags found))

-- what the lines so far leave to say
abbrev pub last_say : List ℕ → Option (List ℕ) → Result (Option ℕ) Message
last_say path content = or_none (slice_get (verdicts path content) 0)

abbrev pub first_say : Option (Result ℕ Message) → List (Result ℕ Message)
    → Result (Option ℕ) Message
first_say found more = or_none (slice_get (cons_option found more) 0)

module _ (path : List ℕ) (content front : Option (List ℕ)) (line : List ℕ)
    (last : parts line_feed content ≡ parts line_feed front ++ line ∷ []) where
  by_last : last_say path content ≡ first_say (verdict path line) (verdicts path front)
  by_last =
      ap (λ (ls : List (List ℕ)). or_none (slice_get (filter_map (verdict path) ls) 0))
      (ap reverse last ∙ reverse-append (parts line_feed front) (line ∷ []))

  by_verdict : (found : Option (Result ℕ Message)) → verdict path line ≡ found
      → last_say path content ≡ first_say found (verdicts path front)
  by_verdict found h = by_last ∙ ap (λ (v : Option (Result ℕ Message)). first_say v
      (verdicts path front)) h

  pub say-found : (flags : MsFlags) → GivesVerdict (Ok (Some flags)) (verdict path line)
      → last_say path content ≡ Ok (Some (bits_of flags))
  say-found flags h = by_verdict _ h

  pub say-none : GivesVerdict (Ok None) (verdict path line)
      → last_say path content ≡ last_say path front
  say-none h = by_verdict _ h

  pub say-err : (all : Result (Option ℕ) Message) (error : RemountError)
      → all ≡ last_say path content → GivesVerdict (Err error) (verdict path line)
      → GivesFlags (Err error) all
  say-err all (ParseMountInfo message) so h = so ∙ by_verdict _ h
  say-err all NoMemory so h = tt
  say-err all (Io cause) so h = h
  say-err all (UnknownMountPoint path) so h = h
