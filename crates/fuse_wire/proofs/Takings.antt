-- What taking the next frame of a source takes.
use Rattle.std.proofs.Common.{◌≡◌, ℕ, ◌-◌, ◌≤◌, ◌<◌, true, false, List, ◌++◌, length, IfSome, Some}
use Rattle.std.proofs.Common.{None, Err, inr, sym, ap, ◌∙◌, subst, arith, length-append}
use Rattle.std.specs.declared.option.Option.{Option}
use Rattle.std.specs.Io.KnownBytes.{Consumes, IsAtEnd}
use Rattle.std.proofs.KnownBytes.{Consumes-trans, Consumes-whole}
use Rattle.port_base.specs.Faults.{Faulted}
use Rattle.port_base.specs.Streams.{TookFewer}
use Rattle.fuse_wire.specs.Fields.{u32_at}
use Rattle.fuse_wire.specs.Cuts.{front, is_allowed, IsFrame}
use Rattle.fuse_wire.specs.Cuts.Front.{nothing, part, odd_length}
use Rattle.fuse_wire.specs.Taking.{Stands, TookPart, Takes, Fills, PutsBehind}
use Rattle.fuse_wire.specs.declared.frames.NextError.{NextError}
use Rattle.fuse_wire.specs.declared.frames.NextError.TheVariants as next_error
use Rattle.fuse_wire.proofs.Fronts.{u32_at-append, front-nil, front-few, front-odd_length}
use Rattle.fuse_wire.proofs.Fronts.{front-part}

-- the bytes are those taken and those still to come
pub Consumes-if : (a b : Option (List ℕ)) (taken : List ℕ) (P : List ℕ → Type 0)
    → Consumes a b taken → ((more : List ℕ) → P (taken ++ more)) → IfSome a P
Consumes-if None b taken P h each = tt
Consumes-if (Some xs) None taken P h each = absurd h
Consumes-if (Some xs) (Some ys) taken P h each = subst P (sym h) (each ys)

module _ (a b : Option (List ℕ)) (taken : List ℕ) (consumed : Consumes a b taken) where
  pub stands-nothing : length taken ≡ 0 → IsAtEnd b → Stands a nothing
  stands-nothing none end = Consumes-whole a b taken (λ bs. front bs ≡ nothing) consumed end
      (front-nil taken none)

  pub stands-few : 0 < length taken → length taken < 4 → IsAtEnd b → Stands a part
  stands-few some few end = Consumes-whole a b taken (λ bs. front bs ≡ part) consumed end
      (front-few taken some few)

  pub stands-odd_length : 4 ≤ length taken → is_allowed (u32_at taken 0) ≡ false
      → Stands a odd_length
  stands-odd_length long odd =
      Consumes-if a b taken (λ bs. front bs ≡ odd_length) consumed (λ more.
      front-odd_length (taken ++ more) (omega (arith, length-append taken more))
      (ap is_allowed (u32_at-append taken more long) ∙ odd))

-- the first four bytes of a frame were taken, and tell an allowed length
module _ (a b c : Option (List ℕ)) (head : List ℕ) (len : ℕ) (four : length head ≡ 4)
    (told : len ≡ u32_at head 0) (allowed : is_allowed len ≡ true) (least : 40 ≤ len)
    (first : Consumes a b head) where
  both : (more : List ℕ) → Consumes b c more → Consumes a c (head ++ more)
  both more second = Consumes-trans a b c head more first second

  told_by : (more : List ℕ) → u32_at (head ++ more) 0 ≡ len
  told_by more = u32_at-append head more (omega arith) ∙ sym told

  pub takes-frame : (frame : List ℕ) → PutsBehind b c head frame (len - 4) → IsFrame frame
      × Consumes a c frame
  takes-frame frame h =
      let size : length (head ++ h.taken) ≡ len =
      omega (arith, length-append head h.taken, h.number) in
      subst (λ (l : List ℕ). IsFrame l × Consumes a c l) (sym h.behind) (
        record { allowed = ap is_allowed size ∙ allowed; tells = told_by h.taken ∙ sym size },
        both h.taken h.consumed,
      )

  pub takes-part : TookFewer b c (len - 4) → TookPart a c
  takes-part (more, second, few) = (
    head ++ more,
    both more second,
    inr (
      omega (arith, length-append head more),
      ap is_allowed (told_by more)
          ∙ allowed,
      omega (arith, length-append head more, told_by more),
    ),
  )

  pub stands-part : TookFewer b c (len - 4) → IsAtEnd c → Stands a part
  stands-part (more, second, few) end =
      Consumes-whole a c (head ++ more) (λ bs. front bs ≡ part) (both more second) end
      (front-part (head ++ more) (omega (arith, length-append head more))
      (ap is_allowed (told_by more) ∙ allowed)
      (omega (arith, length-append head more, told_by more)))

  pub takes-stopped : (f0 f1 f2 : ℕ) (old new : List ℕ) (e : NextError) → f1 ≡ f0
      → Fills b c f1 f2 old new (len - 4) (Err e) → Takes a c f0 f2 new (Err e)
  takes-stopped f0 f1 f2 old new next_error.Read quiet (fault, took) =
      (subst (λ (n : ℕ). Faulted n f2) quiet fault, takes-part took)
  takes-stopped f0 f1 f2 old new next_error.NoMemory quiet (same, took) =
      (same ∙ quiet, takes-part took)
