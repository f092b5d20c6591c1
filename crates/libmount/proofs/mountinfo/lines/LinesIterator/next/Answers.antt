-- The first line goes, with its number and its place.
use Rattle.std.proofs.Common.{◌∙◌, ◌∷◌, ◌+◌, cond, ap, subst, sym, List, ℕ}
use Rattle.std.specs.declared.option.Option.{Option}
use Rattle.std.specs.Borrow.{Bor}
use Rattle.std.specs.Prelude.{is_some, option_copied}
use Rattle.libmount.specs.Items.{line_feed, numbered, place_of}
use Rattle.libmount.specs.Parts.{parts}
use Rattle.libmount.specs.Slices.{LiesInRest, StaysIn}
use Rattle.libmount.proofs.LineLemmas.{numbered-first}
use Rattle.libmount.proofs.mountinfo.lines.LinesIterator.next.Goals as goal

pub returns-clause-steps : goal.returns-clause-steps
returns-clause-steps c =
    let before = c.args.self.now.line_feeds in
    let text = c.in_ok-text.text in
    let line = c.first_part.result.0 in
    let rest = c.first_part.result.1 in
    let number = cond (is_some rest) (before + 1) before in
    record {
      gives =
          ap (λ (r : Option (Bor (List ℕ))). numbered before (place_of r)
          (parts line_feed (option_copied r))) c.in_ok-text.was
          ∙ ap (numbered before text.ref_ptr.1) c.first_part.ensures.parts
          ∙ numbered-first before text.ref_ptr.1 line.now rest c.first_part.ensures.rest_place
          ∙ ap (λ (place : ℕ). (number, (place, line.now))
          ∷ numbered number (place_of rest) (parts line_feed (option_copied rest)))
          (sym c.first_part.ensures.front_place)
          ∙ ap (λ (n : ℕ). (n, (line.ref_ptr.1, line.now))
          ∷ numbered n (place_of rest) (parts line_feed (option_copied rest)))
          (sym c.line_feeds-self.ensures);
      part = subst (λ (r : Option (Bor (List ℕ))). LiesInRest r c.first_part.result.0)
          (sym c.in_ok-text.was) c.first_part.ensures.front;
      rest = subst (λ (r : Option (Bor (List ℕ))). StaysIn r rest) (sym c.in_ok-text.was)
          c.first_part.ensures.rest;
    }
