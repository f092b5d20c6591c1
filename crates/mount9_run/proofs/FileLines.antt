-- A file's line, written in pieces.
use Rattle.std.proofs.Common.{◌≡◌, ℕ, ◌+◌, ◌-◌, ◌<◌, ◌≤◌, List, [], ◌∷◌, ◌++◌, length, take, drop}
use Rattle.std.proofs.Common.{min, refl, sym, ap, ◌∙◌, arith, append_assoc, Option, Some, None}
use Rattle.std.specs.Prelude.{fold, codes, option_map, unwrap_or, slice_index, ◌/◌, ◌%◌}
use Rattle.std.proofs.lemmas.List.{take-append-drop, length-take, length-drop, drop-drop, take_min}
use Rattle.std.proofs.lemmas.List.{nil_from_length}
use Rattle.std.specs.FinMap as map
use Rattle.hex.specs.Hex.{encode_with, encode_lower}
use Rattle.tree_model.specs.declared.attributes.Attr.{Attr}
use Rattle.tree_model.specs.Tree.{Tree, Record, Body}
use Rattle.tree_model.specs.Tree.Body.{File, Directory, Link}
use Rattle.tree_model.specs.Good.{IsGoodTree, IsGoodBody}
use Rattle.tree_model.specs.Reading.{bytes_of, bytes_at, part}
use Rattle.mount9_run.specs.ReportLines.{with_field, attr_fields, hex_or_dash, file_line, file_head}

pub file_line-head : (a : Attr) (bytes : List ℕ) → file_line a bytes ≡ file_head a
    ++ (hex_or_dash bytes ++ 10 ∷ [])
unfolding file_line file_head
file_line-head a bytes =
    let front = fold with_field (codes "file") (attr_fields a) in
    append_assoc front (32 ∷ hex_or_dash bytes) (10 ∷ [])
    ∙ sym (append_assoc front (32 ∷ []) (hex_or_dash bytes ++ 10 ∷ []))

-- ---- hex in pieces

encode_with-append : (t xs ys : List ℕ) → encode_with t (xs ++ ys) ≡ encode_with t xs
    ++ encode_with t ys
unfolding encode_with
encode_with-append t [] ys = refl
encode_with-append t (x ∷ xs) ys = ap (λ l. slice_index t (x / 16) ∷ slice_index t (x % 16) ∷ l)
    (encode_with-append t xs ys)

encode_lower-nil : encode_lower [] ≡ []
unfolding encode_with
encode_lower-nil = refl

drop_more : (k n : ℕ) (xs : List ℕ) → drop (k + n) xs ≡ drop n (drop k xs)
drop_more k n xs = sym (drop-drop n k xs)

module _ (bytes piece : List ℕ) (k : ℕ) (is : piece ≡ part bytes k 4096) where
  piece_len : length piece ≡ min 4096 (length bytes - k)
  piece_len = ap length is ∙ length-take 4096 (drop k bytes) ∙ ap (min 4096) (length-drop k bytes)

  piece_front : piece ≡ take (length piece) (drop k bytes)
  piece_front =
      is ∙ sym (take_min 4096 (drop k bytes))
      ∙ ap (λ n. take n (drop k bytes)) (sym (ap length is ∙ length-take 4096 (drop k bytes)))

  -- a piece, and the bytes after it
  pub encode-step : (n : ℕ) → n ≡ length piece → encode_lower (drop k bytes) ≡ encode_lower piece
      ++ encode_lower (drop (k + n) bytes)
  encode-step n e =
      ap encode_lower (sym (take-append-drop (length piece) (drop k bytes)))
      ∙ encode_with-append _ (take (length piece) (drop k bytes))
      (drop (length piece) (drop k bytes))
      ∙ ap (λ p. encode_lower p ++ encode_lower (drop (length piece) (drop k bytes)))
      (sym piece_front)
      ∙ ap (λ r. encode_lower piece ++ encode_lower r)
      (sym (drop_more k (length piece) bytes) ∙ ap (λ m. drop (k + m) bytes) (sym e))

  pub encode-end : length piece ≡ 0 → encode_lower (drop k bytes) ≡ []
  encode-end none =
      let empty : length (drop k bytes) ≡ 0 = omega (arith, piece_len, length-drop k bytes) in
      ap encode_lower (nil_from_length (drop k bytes) empty) ∙ encode_lower-nil

  -- a piece ends within the bytes
  pub piece_within : k ≤ length bytes → k + length piece ≤ length bytes
  piece_within h = omega (arith, piece_len)

  pub piece_nearer : (n : ℕ) → n ≡ length piece → (length piece ≡ 0 → ⊥) → k ≤ length bytes
      → length bytes - (k + n) < length bytes - k
  piece_nearer n e some h = omega (arith, piece_len, some)

-- ---- how long a file is

short_body : (b : Body) → IsGoodBody b → length (bytes_of b) ≤ 1073741824
short_body (File bytes) h = h
short_body (Directory es next up) h = omega arith
short_body (Link target) h = omega arith

short_at : (t : Tree) → IsGoodTree t → (ino : ℕ) (o : Option Record) → map.get t.records ino ≡ o
    → length (unwrap_or (option_map bytes_of (option_map (λ (r : Record). r.body) o)) [])
    ≤ 1073741824
short_at t good ino None at = omega arith
short_at t good ino (Some r) at = short_body r.body (good.records ino r at).body

pub bytes_at-short : (t : Tree) → IsGoodTree t → (ino : ℕ) → length (bytes_at t ino) ≤ 1073741824
bytes_at-short t good ino = short_at t good ino (map.get t.records ino) refl
