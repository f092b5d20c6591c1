-- The numbers, the name and the zero bytes stand one behind another.
use Rattle.std.proofs.Common.{◌≡◌, ℕ, ◌-◌, ◌≤◌, List, [], ◌∷◌, ◌++◌, length, append_assoc, ap, ◌∙◌}
use Rattle.std.proofs.Common.{arith}
use Rattle.std.specs.Prelude.{take, replicate}
use Rattle.std.proofs.lemmas.List.{take-replicate}
use Rattle.fuse_wire.specs.Listing.{type_number, padded_size, padding, dirent_bytes}
use Rattle.fuse_wire.specs.Reply.{u32s, u64s}
use Rattle.fuse_wire.proofs.listing.put_entry.Goals as goal

-- five pieces, of which the last is told in two ways
laid : (old a b name filled told : List ℕ) → filled ≡ told
    → (((old ++ a) ++ b) ++ name) ++ filled ≡ old ++ (a ++ (b ++ (name ++ told)))
laid old a b name filled told is =
    ap (λ (l : List ℕ). (((old ++ a) ++ b) ++ name) ++ l) is ∙ simp append_assoc

-- fewer than 8 zero bytes fill an entry up
zeros : (size named : ℕ) → size ≡ padded_size named
    → take (size - 24 - named) (replicate {A = ℕ} 8 0) ≡ replicate {A = ℕ} (padding named) 0
zeros size named is =
    let few : padding named ≤ 8 = omega arith in
    let same : size - 24 - named ≡ padding named = omega (arith, is) in
    ap (λ (n : ℕ). take n (replicate {A = ℕ} 8 0)) same
    ∙ take-replicate {X = ℕ} (padding named) 8 0 few

pub returns-clause-items : goal.returns-clause-items
unfolding dirent_bytes
returns-clause-items c = rw (
  c.put-2.ensures.items,
  c.put.ensures.items,
  c.put_u32s.ensures.items,
  c.number.ensures,
  c.put_u64s.ensures.items,
) (laid c.args.out.now.items (u64s (c.args.ino.0 ∷ c.args.offset ∷ []))
    (u32s (length c.args.name.now ∷ type_number c.args.kind ∷ [])) c.args.name.now _ _
    (zeros c.padded_size.result (length c.args.name.now) c.padded_size.ensures))
