-- A text that was written in blocks was written.
use Rattle.std.proofs.Common.{◌≡◌, ℕ, ◌-◌, List, [], ◌++◌, length, take, drop, sym, ap, ◌∙◌, subst}
use Rattle.std.proofs.Common.{arith, append_assoc, append-nil, Some, None, Result, Ok, Err}
use Rattle.std.proofs.lemmas.List.{take-append-drop, take_all, append_cancel_left}
use Rattle.std.proofs.lemmas.Option.{same_Some}
use Rattle.std.proofs.Math.Seq.{take-append_seam}
use Rattle.std.specs.Prelude.{OnOk, OnErr}
use Rattle.std.specs.declared.option.Option.{Option}
use Rattle.std.specs.Io.KnownBytes.{Appends}
use Rattle.port_base.specs.Faults.{Faulted, SinkCause}
use Rattle.port_base.specs.Streams.{SentFront}
use Rattle.port_base.specs.Blocks.{sent_with, sent_before}
use Rattle.port_base.specs.declared.sink.SinkFault.{SinkFault}
use Rattle.port_base.specs.declared.sink.SinkFault.TheVariants.{Failed, NoMemory}
use Rattle.mount9_run.specs.Wrote.{Wrote, WroteBy, at_sink, joined_faults}

cancel_front : (xs ys zs : List ℕ) → xs ++ ys ≡ xs ++ zs → ys ≡ zs
cancel_front xs ys zs e = append_cancel_left xs ys zs e

-- what the sink below was sent is what it was sent before, and more
record Grown (xs ys : List ℕ) : Type 0 where
  more : List ℕ
  whole : ys ≡ xs ++ more

grown : (xs ys : List ℕ) (passed : ℕ) → take (length ys - passed) ys ≡ take (length xs - 0) xs
    → Grown xs ys
grown xs ys passed e =
    let all : take (length xs - 0) xs ≡ xs = take_all (length xs - 0) xs (omega arith) in
    record {
      more = drop (length ys - passed) ys;
      whole =
          sym (take-append-drop (length ys - passed) ys)
          ∙ ap (λ (l : List ℕ). l ++ drop (length ys - passed) ys) (e ∙ all);
    }

-- what is still to come behind the blocks that were passed on
behind : (xs more rest text : List ℕ) → (xs ++ more) ++ rest ≡ (xs ++ []) ++ text → more
    ++ rest ≡ text
behind xs more rest text e = cancel_front xs (more ++ rest) text
    (sym (append_assoc xs more rest) ∙ e ∙ ap (λ (l : List ℕ). l ++ text) (append-nil xs))

-- all that waited was written, too
all_sent : (S0 S1 S2 : Option (List ℕ)) (waiting text : List ℕ) (gone : ℕ)
    → Appends (sent_with S0 [] 0) (sent_with S1 waiting gone) text
    → Appends S1 S2 (drop gone waiting) → Appends S0 S2 text
all_sent None S1 S2 waiting text gone sent last = tt
all_sent (Some xs) None S2 waiting text gone sent last = absurd sent
all_sent (Some xs) (Some ys) None waiting text gone sent last = absurd last
all_sent (Some xs) (Some ys) (Some us) waiting text gone sent last = last ∙ sent
    ∙ ap (λ (l : List ℕ). l ++ text) (append-nil xs)

-- a front of what waited was written, too
front_sent : (S0 S1 S2 : Option (List ℕ)) (waiting text : List ℕ) (gone passed : ℕ)
    → sent_before S1 passed ≡ sent_before S0 0
    → SentFront (sent_with S0 [] 0) (sent_with S1 waiting gone) text
    → SentFront S1 S2 (drop gone waiting) → SentFront S0 S2 text
front_sent None S1 S2 waiting text gone passed base sent last = (0, tt)
front_sent (Some xs) None S2 waiting text gone passed base (n, sent) last = absurd sent
front_sent (Some xs) (Some ys) None waiting text gone passed base sent (m, last) = absurd last
front_sent (Some xs) (Some ys) (Some us) waiting text gone passed base (n, sent) (m, last) =
    let g = grown xs ys passed (same_Some _ _ base) in
    let d : List ℕ = drop gone waiting in
    let front : List ℕ = g.more ++ take m d in
    let rest : g.more ++ d ≡ take n text = behind xs g.more d (take n text)
    (ap (λ (l : List ℕ). l ++ d) (sym g.whole) ∙ sent) in
    let cut : front ++ drop m d ≡ take n text = append_assoc g.more (take m d) (drop m d)
    ∙ ap (λ (l : List ℕ). g.more ++ l) (take-append-drop m d) ∙ rest in
    let whole : text ≡ front ++ (drop m d ++ drop n text) = sym (take-append-drop n text)
    ∙ ap (λ (l : List ℕ). l ++ drop n text) (sym cut)
    ∙ append_assoc front (drop m d) (drop n text) in
    let is : take (length front) text ≡ front = ap (take (length front)) whole
    ∙ take-append_seam front (drop m d ++ drop n text) in (
      length front,
      last ∙ ap (λ (l : List ℕ). l ++ take m d) g.whole
          ∙ append_assoc xs g.more (take m d) ∙ ap (λ (l : List ℕ). xs ++ l) (sym is),
    )

-- a text that was sent is a front of itself
whole_front : (S0 S1 : Option (List ℕ)) (text : List ℕ) → Appends S0 S1 text → SentFront S0 S1 text
whole_front S0 S1 text sent = (
  length text,
  subst (Appends S0 S1)
      (sym (take_all (length text) text (omega arith))) sent,
)

joined : (S0 S1 S2 : Option (List ℕ)) (waiting text : List ℕ) (gone passed f0 f1 f2 : ℕ)
    (first last : Result (Unit {0}) SinkFault) → sent_before S1 passed ≡ sent_before S0 0
    → WroteBy (sent_with S0 [] 0) (sent_with S1 waiting gone) f0 f1 text first
    → OnOk last (Appends S1 S2 (drop gone waiting))
    → OnErr last (SentFront S1 S2 (drop gone waiting)) → SinkCause f1 f2 last
    → WroteBy S0 S2 f0 f2 text (joined_faults first last)
joined S0 S1 S2 waiting text gone passed f0 f1 f2 (Ok x) (Ok y) base h ok err cause =
    (cause ∙ h.0, all_sent S0 S1 S2 waiting text gone h.1 ok)
joined S0 S1 S2 waiting text gone passed f0 f1 f2 (Ok x) (Err Failed) base h ok err cause = (
  subst (λ n. Faulted n f2) h.0 cause,
  front_sent S0 S1 S2 waiting text gone passed base
      (whole_front _ _ text h.1) err,
)
joined S0 S1 S2 waiting text gone passed f0 f1 f2 (Ok x) (Err NoMemory) base h ok err cause =
    (cause ∙ h.0, front_sent S0 S1 S2 waiting text gone passed base (whole_front _ _ text h.1) err)
joined S0 S1 S2 waiting text gone passed f0 f1 f2 (Err Failed) (Ok y) base h ok err cause = (
  subst (λ n. Faulted f0 n) (sym cause) h.0,
  front_sent S0 S1 S2 waiting text gone passed base
      h.1 (whole_front S1 S2 (drop gone waiting) ok),
)
joined S0 S1 S2 waiting text gone passed f0 f1 f2 (Err Failed) (Err Failed) base h ok err cause = (
  (omega (arith, h.0.0, cause.0), omega (arith, h.0.1, cause.0)),
  front_sent S0 S1 S2 waiting
      text gone passed base h.1 err,
)
joined S0 S1 S2 waiting text gone passed f0 f1 f2 (Err Failed) (Err NoMemory) base h ok err cause = (
  subst (λ n. Faulted f0 n) (sym cause) h.0,
  front_sent S0 S1 S2 waiting text gone passed base
      h.1 err,
)
joined S0 S1 S2 waiting text gone passed f0 f1 f2 (Err NoMemory) (Ok y) base h ok err cause = (
  cause ∙ h.0,
  front_sent S0 S1 S2 waiting text gone passed base h.1
      (whole_front S1 S2 (drop gone waiting) ok),
)
joined S0 S1 S2 waiting text gone passed f0 f1 f2 (Err NoMemory) (Err Failed) base h ok err cause =
    (subst (λ n. Faulted n f2) h.0 cause, front_sent S0 S1 S2 waiting text gone passed base h.1 err)
joined S0 S1 S2 waiting text gone passed f0 f1 f2 (Err NoMemory) (Err NoMemory) base h ok err
    cause = (cause ∙ h.0, front_sent S0 S1 S2 waiting text gone passed base h.1 err)

-- what was written in blocks, and then to the end, was written
module _ {X Y : Type 0} (S0 S1 S2 : Option (List ℕ)) (w0 w1 text : List ℕ)
    (gone0 gone1 passed0 passed1 f0 f1 f2 : ℕ) (k0 k1 k2 : X) (g0 g1 : Y)
    (first last : Result (Unit {0}) SinkFault) where
  abbrev From : List ℕ → ℕ → ℕ → Type 0
  From w gone passed =
      Wrote {X = Y × (Option (List ℕ) × X)} (at_sink {X = Y × (Option (List ℕ) × X)}
      (sent_with S0 w gone) f0 (g0, (sent_before S0 passed, k0)))
      (at_sink {X = Y × (Option (List ℕ) × X)} (sent_with S1 w1 gone1) f1
      (g1, (sent_before S1 passed1, k1))) text first

  pub Wrote-in-blocks : w0 ≡ [] → gone0 ≡ 0 → passed0 ≡ 0 → From w0 gone0 passed0
      → OnOk last (Appends S1 S2 (drop gone1 w1)) → OnErr last (SentFront S1 S2 (drop gone1 w1))
      → SinkCause f1 f2 last → k2 ≡ k1
      → Wrote (at_sink S0 f0 k0) (at_sink S2 f2 k2) text (joined_faults first last)
  Wrote-in-blocks w g p h ok err cause same =
      let from : From [] 0 0 = subst (λ (x : List ℕ × (ℕ × ℕ)). From x.0 x.1.0 x.1.1)
      (λ j. (w j, (g j, p j))) h in
      record {
        answer = joined S0 S1 S2 w1 text gone1 passed1 f0 f1 f2 first last
            (ap (λ (q : Y × (Option (List ℕ) × X)). q.1.0) from.kept) from.answer ok err cause;
        kept = same ∙ ap (λ (q : Y × (Option (List ℕ) × X)). q.1.1) from.kept;
      }

  -- the sink below is the one that it was
  pub same_name : From w0 gone0 passed0 → g1 ≡ g0
  same_name h = ap (λ (q : Y × (Option (List ℕ) × X)). q.0) h.kept
