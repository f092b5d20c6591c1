-- What waits for a sink below is written to it, in part or whole.
use Rattle.std.proofs.Common.{◌≡◌, ℕ, ◌+◌, ◌-◌, ◌<◌, ◌≤◌, Bool, true, false, List, [], ◌++◌, length}
use Rattle.std.proofs.Common.{take, drop, refl, sym, ap, ◌∙◌, arith, append_assoc}
use Rattle.std.proofs.Common.{append-nil, length-take-le, Some, None, Result, Ok, Err}
use Rattle.std.proofs.lemmas.List.{take-append-drop, take-append-le, drop-drop, take_rest}
use Rattle.std.proofs.lemmas.List.{length-drop, length-append}
use Rattle.std.specs.Prelude.{IsNone}
use Rattle.std.specs.Option.{option_map}
use Rattle.std.specs.declared.option.Option.{Option}
use Rattle.std.specs.Io.KnownBytes.{Appends, Keeps}
use Rattle.port_base.specs.Faults.{SinkCause}
use Rattle.port_base.specs.declared.sink.SinkFault.{SinkFault}
use Rattle.port_base.specs.declared.sink.SinkFault.TheVariants.{NoMemory}
use Rattle.port_base.specs.Blocks.{sent_before, Passes}
use Rattle.port_base.proofs.Loops.{rest_of}

-- bytes that are taken from the front of what waits are sent below
moved : (front back all : List ℕ) (sent0 sent1 : Option (List ℕ)) → front ++ back ≡ all
    → Appends sent0 sent1 front
    → Keeps (option_map (λ (bytes : List ℕ). bytes ++ all) sent0)
    (option_map (λ (bytes : List ℕ). bytes ++ back) sent1)
moved front back all None sent1 whole sent = tt
moved front back all (Some xs) None whole sent = absurd sent
moved front back all (Some xs) (Some ys) whole sent = ap (λ (l : List ℕ). l ++ back) sent
    ∙ append_assoc xs front back ∙ ap (λ (l : List ℕ). xs ++ l) whole

front_of : (xs front : List ℕ) (passed count : ℕ) → length front ≡ count
    → take (length (xs ++ front) - (passed + count)) (xs ++ front) ≡ take (length xs - passed) xs
front_of xs front passed count long =
    let n : length (xs ++ front) - (passed + count) ≡ length xs - passed =
    omega (arith, length-append xs front, long) in
    ap (λ (k : ℕ). take k (xs ++ front)) n ∙ take-append-le (length xs - passed) xs front
    (omega arith)

-- what was sent before stays before
same_before : (front : List ℕ) (passed count : ℕ) (sent0 sent1 : Option (List ℕ))
    → length front ≡ count → (IsNone sent0 → IsNone sent1) → Appends sent0 sent1 front
    → sent_before sent1 (passed + count) ≡ sent_before sent0 passed
same_before front passed count None None long silent sent = refl
same_before front passed count None (Some ys) long silent sent =
    let apart : ◌≡◌ {A = Bool} true false = silent refl in absurd cc
same_before front passed count (Some xs) None long silent sent = absurd sent
same_before front passed count (Some xs) (Some ys) long silent sent =
    ap (λ (l : List ℕ). Some l) (ap (λ (l : List ℕ). take (length l - (passed + count)) l) sent
    ∙ front_of xs front passed count long)

module _ (sent0 sent1 : Option (List ℕ)) (waiting : List ℕ)
    (gone passed room0 room1 faults0 faults1 : ℕ) (within : gone ≤ length waiting)
    (silent : IsNone sent0 → IsNone sent1) where
  rest : rest_of waiting gone ≡ drop gone waiting
  rest = take_rest waiting gone

  long : length (rest_of waiting gone) ≡ length waiting - gone
  long = ap length rest ∙ length-drop gone waiting

  -- all that waits was written
  pub passed_all : Appends sent0 sent1 (rest_of waiting gone)
      → room0 ≤ room1 + length (rest_of waiting gone) → faults1 ≡ faults0
      → Passes sent0 sent1 waiting [] gone 0 passed (passed + (length waiting - gone)) room0 room1
      faults0 faults1 (Ok tt)
  passed_all sent room cause = record {
    same = moved (rest_of waiting gone) [] (drop gone waiting) sent0 sent1
        (append-nil (rest_of waiting gone) ∙ rest) sent;
    before = same_before (rest_of waiting gone) passed (length waiting - gone) sent0 sent1 long
        silent sent;
    counted = omega arith;
    room = omega (arith, room, long);
    memory = λ is. absurd cc;
    cause = cause;
  }

  pub passed_part : (count : ℕ) (fault : SinkFault) → count ≤ length (rest_of waiting gone)
      → Appends sent0 sent1 (take count (rest_of waiting gone)) → room0 ≤ room1 + count
      → (fault ≡ NoMemory → room0 < length (rest_of waiting gone))
      → SinkCause faults0 faults1 (let r : Result (Unit {0}) SinkFault = Err fault in r)
      → Passes sent0 sent1 waiting waiting gone (gone + count) passed (passed + count) room0 room1
      faults0 faults1 (Err fault)
  passed_part count fault few sent room memory cause =
      let whole : take count (rest_of waiting gone)
      ++ drop (gone + count) waiting ≡ drop gone waiting =
      ap (λ (l : List ℕ). take count l ++ drop (gone + count) waiting) rest
      ∙ ap (λ (l : List ℕ). take count (drop gone waiting) ++ l)
      (sym (drop-drop count gone waiting))
      ∙ take-append-drop count (drop gone waiting) in
      record {
        same = moved (take count (rest_of waiting gone)) (drop (gone + count) waiting)
            (drop gone waiting) sent0 sent1 whole sent;
        before = same_before (take count (rest_of waiting gone)) passed count sent0 sent1
            (length-take-le count (rest_of waiting gone) few) silent sent;
        counted = omega (arith, few, long, within);
        room = omega (arith, room, few, long, within);
        memory = λ is. omega (arith, memory (err_is fault is), long);
        cause = cause;
      } where
        err_is : (f : SinkFault) → ◌≡◌ {A = Result (Unit {0}) SinkFault} (Err f) (Err NoMemory)
            → f ≡ NoMemory
        err_is f is = cc
