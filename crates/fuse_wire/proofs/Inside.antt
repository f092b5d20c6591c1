-- An entry that has room in a front of a listing has it in the listing.
use Rattle.std.proofs.Common.{◌≡◌, ◌≤◌, ◌+◌, ℕ, List, length, Bool, true, false, refl, ap, ◌∙◌}
use Rattle.std.proofs.Common.{arith}
use Rattle.std.proofs.lemmas.List.{length-append}
use Rattle.fuse_wire.specs.Adding.{Adds}
use Rattle.fuse_wire.specs.declared.listing.ReplyDirectory.{ReplyDirectory}

module _ (entry : List ℕ) (end : ℕ) (old new : ReplyDirectory)
    (room : length old.bytes.items + length entry ≤ end) (inside : end ≤ old.size) where
  pub added_inside : (refused : Bool) → Adds entry old.size old new refused
      → Adds entry end old new refused
  added_inside true adds = let less = adds.0 in absurd (omega arith)
  added_inside false adds = (room, adds.1, adds.2)

  pub ends_inside : (refused : Bool) → Adds entry old.size old new refused
      → (new.size ≡ old.size) × (length new.bytes.items ≤ end)
  ends_inside true adds = let less = adds.0 in absurd (omega arith)
  ends_inside false adds =
      let long = ap length adds.1 ∙ length-append old.bytes.items entry in
      (adds.2, omega (arith, long))
