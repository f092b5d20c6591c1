-- How long a listing is, and how many messages bring it.
use Rattle.std.proofs.Common.{◌≡◌, ℕ, ◌≤◌, List}
use Rattle.std.proofs.Common.{[], ◌∷◌, length, min, refl, ap, arith}
use Rattle.std.proofs.Common.{length-append}
use Rattle.std.specs.Prelude.{sum_by}
use Rattle.std.proofs.lemmas.List.Concat.{flat_map-cons}
use Rattle.std.proofs.lemmas.List.Sums.{sum_by-cons}
use Rattle.tree_model.specs.Tree.{Tree}
use Rattle.tree_model.specs.Reading.{Entry}
use Rattle.tree_model.specs.Pages.{entries_past_of}
use Rattle.tree_model.proofs.Pages.{splits_within}
use Rattle.fuse_wire.proofs.Sizes.{length-dirent_bytes}
use Rattle.fuse_wire.specs.declared.protocol.TheConstants.{MAX_READ}
use Rattle.tree_machine.specs.Listing.{entry_size, entry_bytes, file_type, listing_bytes}
use Rattle.tree_machine.specs.Listing.{listed_page}

-- a listing is as long as its entries together
pub length-listing_bytes : (es : List Entry) → length (listing_bytes es) ≡ sum_by entry_size es
length-listing_bytes [] = refl
length-listing_bytes (e ∷ es) =
    let first = length-dirent_bytes e.attr.ino e.cookie (file_type e.attr.kind) e.name in
    let split = ap length (flat_map-cons entry_bytes e es) in
    let both = length-append (entry_bytes e) (listing_bytes es) in
    let sum = sum_by-cons entry_size e es in
    let rest = length-listing_bytes es in
    omega (arith, first, split, both, sum, rest)

-- no listing is longer than one request brings
pub listing_short : (t : Tree) (dir offset size : ℕ)
    → length (listing_bytes (listed_page t dir offset size)) ≤ MAX_READ
listing_short t dir offset size =
    let fits = (splits_within entry_size (min size MAX_READ) (entries_past_of t dir offset)).fits in
    let long = length-listing_bytes (listed_page t dir offset size) in
    omega (arith, fits, long)
