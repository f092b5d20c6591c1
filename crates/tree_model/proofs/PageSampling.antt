-- Pages of a directory with one file, of entries that take ten bytes each.
use Rattle.std.proofs.Common.{◌≡◌, ℕ, List, [], ◌∷◌, ap, ◌∙◌, Option}
use Rattle.std.specs.Prelude.{option_map, option_and_then}
use Rattle.std.specs.List.{cons_option}
use Rattle.tree_model.specs.Tree.{Record}
use Rattle.tree_model.specs.Finding.{entries_of}
use Rattle.tree_model.specs.Attributes.{attr_of}
use Rattle.tree_model.specs.Making.{file_record}
use Rattle.tree_model.specs.Samples.{born, hello, world, sample}
use Rattle.tree_model.specs.Reading.{Entry}
use Rattle.tree_model.specs.Pages.{entries_past, entries_past_of, front_within, page_of}
use Rattle.tree_model.proofs.Sampling.{top_at, file_at}

abbrev pub first : Entry
first = record { cookie = 1; name = hello; attr = attr_of 2 (file_record born world) }

-- the entries of a record above a cookie
abbrev past_in : ℕ → Option Record → List Entry
past_in c o = entries_past sample.records c
    (option_and_then entries_of (option_map (λ (r : Record). r.body) o))

-- an entry of inode 2, by what stands there
abbrev shown : Option Record → List Entry
shown o = cons_option (option_map (λ (r : Record). let e : Entry =
    record { cookie = 1; name = hello; attr = attr_of 2 r } in e) o) []

pub past_none : entries_past_of sample 1 0 ≡ first ∷ []
past_none = ap (past_in 0) top_at ∙ ap shown file_at

pub past_first : entries_past_of sample 1 1 ≡ []
past_first = ap (past_in 1) top_at

pub past_in_file : entries_past_of sample 2 0 ≡ []
past_in_file = ap (past_in 0) file_at

-- as many of them as fit, of ten bytes each
abbrev fitting : ℕ → List Entry → List Entry
fitting room es = front_within (λ e. 10) room es

pub page_with_room : page_of (λ e. 10) 10 sample 1 0 ≡ first ∷ []
page_with_room = ap (fitting 10) past_none

pub page_without_room : page_of (λ e. 10) 9 sample 1 0 ≡ []
page_without_room = ap (fitting 9) past_none

pub page_past_first : page_of (λ e. 10) 10 sample 1 1 ≡ []
page_past_first = ap (fitting 10) past_first

pub page_of_file : page_of (λ e. 10) 10 sample 2 0 ≡ []
page_of_file = ap (fitting 10) past_in_file
