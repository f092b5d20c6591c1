-- A chain over the parts of a path tests each part.
use Rattle.std.proofs.Common.{ℕ, List, rules, tests}
use Rattle.std.proofs.lemmas.Iterator.Splits.{YieldsList-from_slice_split}
use Rattle.std.proofs.lemmas.Iterator.Search.{all_from_yields_List}
use Rattle.std.specs.Prelude.{is_none}
use Rattle.port_base.specs.Names.{name_fault}
use Rattle.port_base.proofs.paths.are_joined_names.Goals as goal

pub returns : goal.returns
returns c = all_from_yields_List (λ (part : List ℕ). is_none (name_fault part)) _ _ _
    c.all.ensures.ran (YieldsList-from_slice_split _ _ c.args.path.now c.split.ensures.rest
    c.split.ensures.done c.split.ensures.closure (λ x r q k. search (rules, tests)))
    (λ x b q k. search (rules, tests))
