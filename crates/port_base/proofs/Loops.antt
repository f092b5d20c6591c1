-- What the loops over a source and a sink keep.
use Rattle.std.proofs.Common.{◌≡◌, ℕ, ◌+◌, ◌-◌, ◌≤◌, List, ◌++◌, length, take, drop, sym, ap, ◌∙◌}
use Rattle.std.proofs.Common.{subst, arith, le_refl, drop_at, length-take-le}
use Rattle.std.proofs.Common.{rules}
use Rattle.std.specs.Prelude.{IsNone}
use Rattle.std.proofs.lemmas.List.{take-append-le, length-take, length-drop, take_rest, places}
use Rattle.std.proofs.lemmas.Slice.{take-put_mid_below}
use Rattle.std.specs.declared.option.Option.{Option}
use Rattle.std.specs.Io.KnownBytes.{Consumes, Appends}
use Rattle.std.proofs.KnownBytes.{Consumes-trans, Appends-trans}
use borrow.Rule.Slice.PartMut.{put_mid, post_of}
use Rattle.std.proofs.Math.Seq.{take-add}

pub record Sending (sent0 sent : Option (List ℕ)) (room0 room faults0 faults : ℕ) (bytes : List ℕ)
    (at : ℕ) : Type 0 where
  pub within : at ≤ length bytes
  pub so_far : Appends sent0 sent (take at bytes)
  pub fits : room0 ≤ room + at
  pub silent : IsNone sent0 → IsNone sent
  pub same : faults ≡ faults0

pub record Filling (left0 left : Option (List ℕ)) (faults0 faults : ℕ) (buf0 buf : List ℕ)
    (filled : ℕ) : Type 0 where
  pub len : length buf ≡ length buf0
  pub within : filled ≤ length buf
  pub so_far : Consumes left0 left (take filled buf)
  pub same : faults ≡ faults0

-- what `&xs[i..]` is
abbrev pub rest_of : List ℕ → ℕ → List ℕ
rest_of xs i = take (length xs - i) (drop i xs)

module _ (sent0 sent1 sent2 : Option (List ℕ)) (room0 room1 room2 faults0 faults1 faults2 : ℕ)
    (bytes : List ℕ) (at n : ℕ) where
  pub Sending-more : Sending sent0 sent1 room0 room1 faults0 faults1 bytes at
      → n ≤ length (rest_of bytes at) → Appends sent1 sent2 (take n (rest_of bytes at))
      → (IsNone sent1 → IsNone sent2) → room1 ≤ room2 + n → faults2 ≡ faults1
      → Sending sent0 sent2 room0 room2 faults0 faults2 bytes (at + n)
  Sending-more h le more silent room faults =
      let whole : take at bytes ++ take n (rest_of bytes at) ≡ take (at + n) bytes =
      ap (λ (l : List ℕ). take at bytes ++ take n l) (take_rest bytes at)
      ∙ sym (take-add at n bytes) in
      record {
        within = omega (
          arith,
          h.within,
          length-take (length bytes - at) (drop at bytes),
          length-drop at bytes,
          le,
        );
        so_far = subst (Appends sent0 sent2) whole
            (Appends-trans sent0 sent1 sent2 (take at bytes) (take n (rest_of bytes at)) h.so_far
            more);
        fits = omega (arith, h.fits);
        silent = λ none. silent (h.silent none);
        same = faults ∙ h.same;
      }

-- what is filled, after a read into the rest of the buffer
filled_more : (a n : ℕ) (buf ys : List ℕ) → a ≤ length buf → n ≤ length ys
    → take (a + n) (put_mid a (length buf - a) buf ys) ≡ take a buf ++ take n ys
filled_more a n buf ys within fits =
    let len : length (take a buf) ≡ a = length-take-le a buf within in
    take-add a n (put_mid a (length buf - a) buf ys)
    ∙ ap (λ (l : List ℕ). l ++ take n (drop a (put_mid a (length buf - a) buf ys)))
    (take-put_mid_below a (length buf - a) buf ys a (le_refl a) within)
    ∙ ap (λ (l : List ℕ). take a buf ++ take n l)
    (drop_at (take a buf) (ys ++ post_of a (length buf - a) buf) a len)
    ∙ ap (λ (l : List ℕ). take a buf ++ l) (take-append-le n ys (post_of a (length buf - a) buf)
    fits)

module _ (left0 left1 left2 : Option (List ℕ)) (faults0 faults1 faults2 : ℕ) (buf0 buf : List ℕ)
    (a n : ℕ) (ys : List ℕ) where
  pub Filling-more : Filling left0 left1 faults0 faults1 buf0 buf a
      → length ys ≡ length (rest_of buf a) → n ≤ length ys → Consumes left1 left2 (take n ys)
      → faults2 ≡ faults1
      → Filling left0 left2 faults0 faults2 buf0 (put_mid a (length buf - a) buf ys) (a + n)
  Filling-more h len le more faults =
      let rest_len : length (rest_of buf a) ≡ length buf - a = ap length (take_rest buf a)
      ∙ length-drop a buf in
      let same_len : length (put_mid a (length buf - a) buf ys) ≡ length buf =
      search (rules, places) in
      record {
        len = same_len ∙ h.len;
        within = omega (arith, same_len, rest_len, len, h.within);
        so_far = subst (Consumes left0 left2) (sym (filled_more a n buf ys h.within le))
            (Consumes-trans left0 left1 left2 (take a buf) (take n ys) h.so_far more);
        same = faults ∙ h.same;
      }
