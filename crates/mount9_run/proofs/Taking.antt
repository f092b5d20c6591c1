-- The loop that takes the text of a header.
use Rattle.std.proofs.Common.{◌≡◌, ℕ, ◌+◌, ◌≤◌, ◌<◌, Bool, true, false, List, [], ◌∷◌, ◌++◌, length}
use Rattle.std.proofs.Common.{drop, Some, None, IfSome, Ok, refl, sym, ap, ◌∙◌, subst, arith, cond}
use Rattle.std.proofs.Common.{append_assoc, append-nil, length-append, le-leb}
use Rattle.std.specs.Prelude.{nat_le}
use Rattle.std.specs.declared.option.Option.{Option}
use Rattle.std.specs.Io.KnownBytes.{Consumes, IsAtEnd}
use Rattle.std.proofs.KnownBytes.{Consumes-trans, Consumes-whole}
use Rattle.std.proofs.Common.{take, get_or}
use Rattle.std.proofs.lemmas.List.{nil_from_length}
use Rattle.std.proofs.lemmas.Bool.Decides.{nat_tests}
use Rattle.std.proofs.lemmas.Option.{none-some, same_Some}
use Rattle.mount9_run.specs.Header.{Split, onto, text_from, text_of, within_limit}
use Rattle.mount9_run.specs.HeaderViews.{Scans, IsEndless}

Consumes-if : (a b : Option (List ℕ)) (taken : List ℕ) (P : List ℕ → Type 0) → Consumes a b taken
    → ((more : List ℕ) → P (taken ++ more)) → IfSome a P
Consumes-if None b taken P h each = tt
Consumes-if (Some xs) None taken P h each = absurd h
Consumes-if (Some xs) (Some ys) taken P h each = subst P (sym h) (each ys)

leb-false-of : (a b : ℕ) → b < a → nat_le a b ≡ false
leb-false-of a b h = grind (arith, nat_tests)

AtEnd-back : (a b : Option (List ℕ)) (bytes : List ℕ) → length bytes ≡ 0 → Consumes a b bytes
    → IsAtEnd b → IsAtEnd a
AtEnd-back None b bytes none c end = tt
AtEnd-back (Some xs) None bytes none c end = absurd c
AtEnd-back (Some xs) (Some ys) bytes none c end = c ∙ ap (λ (l : List ℕ). bytes ++ l) end
    ∙ append-nil bytes ∙ nil_from_length bytes none

abbrev pub onto_all : List ℕ → Split → Split
onto_all bs None = None
onto_all bs (Some p) = Some (bs ++ p.0, p.1)

onto_all-onto : (bs : List ℕ) (b : ℕ) (s : Split)
    → onto_all bs (onto b s) ≡ onto_all (bs ++ b ∷ []) s
onto_all-onto bs b None = refl
onto_all-onto bs b (Some p) = ap (λ (l : List ℕ). Some (l, p.1))
    (sym (append_assoc bs (b ∷ []) p.0))

pub onto_all-nil : (s : Split) → onto_all [] s ≡ s
onto_all-nil None = refl
onto_all-nil (Some p) = refl

pub record Taking (left0 left1 : Option (List ℕ)) (in0 in1 : ℕ) (text : List ℕ) (start count : ℕ) :
    Type 0 where
  pub within : start ≤ length text
  pub number : length text ≡ count
  pub taken : Consumes left0 left1 text
  pub input : in1 ≡ in0
  pub scanned : (rest : List ℕ) → text_from [] (text ++ rest) ≡ onto_all text
      (text_from (drop start text) rest)

module _ (left0 left1 left2 : Option (List ℕ)) (in0 in1 in2 : ℕ) (text new : List ℕ)
    (start count b : ℕ) where
  abbrev Here : Type 0
  Here = Taking left0 left1 in0 in1 text start count

  again : (rest : List ℕ) → new ≡ text ++ b ∷ [] → new ++ rest ≡ text ++ b ∷ rest
  again rest e = ap (λ (l : List ℕ). l ++ rest) e ∙ append_assoc text (b ∷ []) rest

  one_more : Here → new ≡ text ++ b ∷ [] → length new ≡ count + 1
  one_more h e = ap length e ∙ length-append text (b ∷ []) ∙ omega (arith, h.number)

  took_more : Here → new ≡ text ++ b ∷ [] → Consumes left1 left2 (b ∷ []) → Consumes left0 left2 new
  took_more h e c = subst (Consumes left0 left2) (sym e)
      (Consumes-trans left0 left1 left2 text (b ∷ []) h.taken c)

  pub Taking-more : (s : ℕ) → Here → Consumes left1 left2 (b ∷ []) → in2 ≡ in1
      → Scans text start b new (Ok (Some s)) → Taking left0 left2 in0 in2 new s (count + 1)
  Taking-more s h c quiet (e, within, goes) = record {
    within = within;
    number = one_more h e;
    taken = took_more h e c;
    input = quiet ∙ h.input;
    scanned = λ rest. ap (text_from []) (again rest e) ∙ h.scanned (b ∷ rest)
        ∙ ap (onto_all text) (goes rest) ∙ onto_all-onto text b (text_from (drop s new) rest)
        ∙ ap (λ (l : List ℕ). onto_all l (text_from (drop s new) rest)) (sym e);
  }

  pub Taking-end : Here → count < 16777216 → Consumes left1 left2 (b ∷ []) → in2 ≡ in1
      → Scans text start b new (Ok None)
      → (in2 ≡ in0) × Consumes left0 left2 new
      × ((rest : List ℕ) → text_of (new ++ rest) ≡ Some (new, rest))
  unfolding text_of
  Taking-end h few c quiet (e, ends) = (
    quiet ∙ h.input,
    took_more h e c,
    λ rest.
        let found : text_from [] (new ++ rest) ≡ Some (new, rest) =
        ap (text_from []) (again rest e) ∙ h.scanned (b ∷ rest) ∙ ap (onto_all text) (ends rest)
        ∙ ap (λ (l : List ℕ). Some (l, rest)) (sym e) in
        ap within_limit found ∙ (rw (le-leb (length new) 16777216 (omega (arith, one_more h e)))
        refl),
  )

-- ---- no line `end` stands within the limit

-- all was taken, and the input is at its end
endless_whole : (text more : List ℕ) → length more ≡ 0 → length text ≤ 16777216
    → (l0 l1 l2 : Option (List ℕ)) → Consumes l0 l1 text → Consumes l1 l2 more → IsAtEnd l2
    → IfSome l0 (λ bytes. text_of bytes ≡ None) → IfSome l0 (λ bytes. IsEndless bytes l0 l2)
endless_whole text more none few None l1 l2 c d end h = tt
endless_whole text more none few (Some xs) None l2 c d end h = absurd c
endless_whole text more none few (Some xs) (Some ys) None c d end h = absurd d
endless_whole text more none few (Some xs) (Some ys) (Some zs) c d end h = record {
  none = h;
  took = (
    text ++ more,
    Consumes-trans (Some xs) (Some ys) (Some zs) text more c d,
    omega (
      arith,
      none,
      few,
      length-append text more,
      ap length c,
      length-append text ys,
      ap length d,
      length-append more zs,
      ap length end,
    ),
  );
}

-- as much was taken as a header may have
endless_full : (text : List ℕ) → length text ≡ 16777216 → (l0 l1 : Option (List ℕ))
    → Consumes l0 l1 text → IfSome l0 (λ bytes. text_of bytes ≡ None)
    → IfSome l0 (λ bytes. IsEndless bytes l0 l1)
endless_full text full None l1 c h = tt
endless_full text full (Some xs) None c h = absurd c
endless_full text full (Some xs) (Some ys) c h =
    record { none = h; took = (text, c, omega (arith, full, ap length c, length-append text ys)) }

module _ (left0 left1 : Option (List ℕ)) (in0 in1 : ℕ) (text : List ℕ) (start count : ℕ) where
  text-none : text_from [] text ≡ None → text_of text ≡ None
  unfolding text_of
  text-none h = ap within_limit h

  -- the input ends before a line `end`
  Taking-none : Taking left0 left1 in0 in1 text start count → IsAtEnd left1
      → IfSome left0 (λ bytes. text_of bytes ≡ None)
  unfolding text_from
  Taking-none h end =
      let nothing : text_from [] (text ++ []) ≡ None = h.scanned [] in
      Consumes-whole left0 left1 text (λ bytes. text_of bytes ≡ None) h.taken end
      (text-none (ap (text_from []) (sym (append-nil text)) ∙ nothing))

  pub Endless-end : (left2 : Option (List ℕ)) (more : List ℕ) → length more ≡ 0 → count < 16777216
      → Taking left0 left1 in0 in1 text start count → Consumes left1 left2 more → IsAtEnd left2
      → IfSome left0 (λ bytes. IsEndless bytes left0 left2)
  Endless-end left2 more none few h c end =
      endless_whole text more none (omega (arith, few, h.number)) left0 left1 left2 h.taken c end
      (Taking-none h (AtEnd-back left1 left2 more none c end))

onto-some : (b : ℕ) (s : Split) (p : List ℕ × List ℕ) → onto b s ≡ Some p → 0 < length p.0
onto-some b None p h = absurd (none-some p h)
onto-some b (Some q) p h = let e : length (b ∷ q.0) ≡ length p.0 =
    ap (λ (r : List ℕ × List ℕ). length r.0) (same_Some _ _ h) in omega arith

found_by : (c d : Bool) (b : ℕ) (bs : List ℕ) (s t : Split) (p : List ℕ × List ℕ)
    → cond c (cond d (Some (b ∷ [], bs)) (onto b s)) (onto b t) ≡ Some p → 0 < length p.0
found_by true true b bs s t p h = let e : length (b ∷ []) ≡ length p.0 =
    ap (λ (r : List ℕ × List ℕ). length r.0) (same_Some _ _ h) in omega arith
found_by true false b bs s t p h = onto-some b s p h
found_by false d b bs s t p h = onto-some b t p h

-- a text has a byte
text-some : (line bytes : List ℕ) (p : List ℕ × List ℕ) → text_from line bytes ≡ Some p
    → 0 < length p.0
unfolding text_from
text-some line [] p h = absurd (none-some p h)
text-some line (b ∷ bs) p h = found_by _ _ b bs _ _ p h

too_long : (text : List ℕ) (s : Split) → ((p : List ℕ × List ℕ) → s ≡ Some p → 0 < length p.0)
    → length text ≡ 16777216 → within_limit (onto_all text s) ≡ None
too_long text None f h = refl
too_long text (Some p) f h = rw (leb-false-of (length (text ++ p.0)) 16777216
    (omega (arith, length-append text p.0, f p refl))) refl

module _ (left0 left1 : Option (List ℕ)) (in0 in1 : ℕ) (text : List ℕ) (start count : ℕ) where
  Taking-limit : Taking left0 left1 in0 in1 text start count → count ≡ 16777216
      → IfSome left0 (λ bytes. text_of bytes ≡ None)
  unfolding text_of
  Taking-limit h full =
      Consumes-if left0 left1 text (λ bytes. text_of bytes ≡ None) h.taken (λ rest.
      ap within_limit (h.scanned rest) ∙ too_long text (text_from (drop start text) rest)
      (λ p e. text-some (drop start text) rest p e) (h.number ∙ full))

  pub Endless-limit : Taking left0 left1 in0 in1 text start count → count ≡ 16777216
      → IfSome left0 (λ bytes. IsEndless bytes left0 left1)
  Endless-limit h full = endless_full text (h.number ∙ full) left0 left1 h.taken
      (Taking-limit h full)

-- the one byte that was read
pub single : (buf : List ℕ) (n : ℕ) → length buf ≡ 1 → n ≤ length buf → (n ≡ 0 → ⊥)
    → take n buf ≡ get_or buf 0 0 ∷ []
single [] n one le some = absurd (omega arith)
single (x ∷ []) n one le some = let e : n ≡ 1 = omega (arith, some) in rw e refl
single (x ∷ y ∷ ys) n one le some = absurd (omega arith)
