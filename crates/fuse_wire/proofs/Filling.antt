-- A buffer that is filled a piece at a time.
use Rattle.std.proofs.Common.{◌≡◌, ℕ, ◌+◌, ◌-◌, ◌≤◌, List, [], ◌++◌, sym, ap, ◌∙◌, subst}
use Rattle.std.proofs.Common.{append_assoc, append-nil, arith, length-append, refl, Err}
use Rattle.std.specs.declared.option.Option.{Option}
use Rattle.std.proofs.KnownBytes.{Consumes-nil, Consumes-trans}
use Rattle.port_base.specs.Faults.{Faulted}
use Rattle.port_base.specs.Streams.{TookFewer}
use Rattle.fuse_wire.specs.Taking.{PutsBehind, TakesPiece, Fills}
use Rattle.fuse_wire.specs.declared.frames.NextError.{NextError}
use Rattle.fuse_wire.specs.declared.frames.NextError.TheVariants as next_error

-- so far so many bytes were taken, with no fault
pub record Filling (left0 left : Option (List ℕ)) (faults0 faults : ℕ) (frame0 frame : List ℕ)
    (missing rest : ℕ) : Type 0 where
  pub within : rest ≤ missing
  pub puts : PutsBehind left0 left frame0 frame (missing - rest)
  pub quiet : faults ≡ faults0

pub Filling-none : (left : Option (List ℕ)) (faults : ℕ) (frame : List ℕ) (missing : ℕ)
    → Filling left left faults faults frame frame missing missing
Filling-none left faults frame missing = record {
  within = omega arith;
  puts = record {
    taken = [];
    consumed = Consumes-nil left;
    behind =
        sym (append-nil frame);
    number = omega arith;
  };
  quiet = refl;
}

module _ (left0 left1 left2 : Option (List ℕ)) (frame0 frame1 frame2 : List ℕ) (a b : ℕ) where
  pub PutsBehind-trans : PutsBehind left0 left1 frame0 frame1 a
      → PutsBehind left1 left2 frame1 frame2 b → PutsBehind left0 left2 frame0 frame2 (a + b)
  PutsBehind-trans first second = record {
    taken = first.taken ++ second.taken;
    consumed = Consumes-trans left0 left1 left2 first.taken second.taken first.consumed
        second.consumed;
    behind = second.behind ∙ ap (λ (l : List ℕ). l ++ second.taken) first.behind
        ∙ append_assoc frame0 first.taken second.taken;
    number = omega (arith, length-append first.taken second.taken, first.number, second.number);
  }

module _ (left0 left1 left2 : Option (List ℕ)) (faults0 faults1 faults2 : ℕ)
    (frame0 frame1 frame2 : List ℕ) (missing rest count : ℕ) where
  pub Filling-more : (n : ℕ) → Filling left0 left1 faults0 faults1 frame0 frame1 missing rest
      → faults2 ≡ faults1 → PutsBehind left1 left2 frame1 frame2 n → n ≡ count → count ≤ rest
      → Filling left0 left2 faults0 faults2 frame0 frame2 missing (rest - count)
  Filling-more n h quiet more all le =
      let number : (missing - rest) + n ≡ missing - (rest - count) = omega (arith, h.within) in
      record {
        within = omega (arith, h.within);
        puts = subst (PutsBehind left0 left2 frame0 frame2) number
            (PutsBehind-trans left0 left1 left2 frame0 frame1 frame2
            (missing - rest) n h.puts more);
        quiet = quiet ∙ h.quiet;
      }

  -- what was taken so far, and then fewer bytes than the rest
  pub TookFewer-after : (n : ℕ) → Filling left0 left1 faults0 faults1 frame0 frame1 missing rest
      → n ≤ rest → TookFewer left1 left2 n → TookFewer left0 left2 missing
  TookFewer-after n h le (taken, consumed, few) = (
    h.puts.taken ++ taken,
    Consumes-trans left0 left1 left2 h.puts.taken taken h.puts.consumed consumed,
    omega (arith, length-append h.puts.taken taken, h.puts.number, h.within),
  )

  -- a piece that could not be taken
  pub Fills-stopped : (e : NextError) → Filling left0 left1 faults0 faults1 frame0 frame1 missing
      rest → TakesPiece left1 left2 faults1 faults2 frame1 frame2 count (Err e) → count ≤ rest
      → Fills left0 left2 faults0 faults2 frame0 frame2 missing (Err e)
  Fills-stopped next_error.Read h (fault, took) le =
      (subst (λ (n : ℕ). Faulted n faults2) h.quiet fault, TookFewer-after count h le took)
  Fills-stopped next_error.NoMemory h (quiet, took) le =
      (quiet ∙ h.quiet, TookFewer-after count h le took)
