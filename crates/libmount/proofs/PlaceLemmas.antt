-- The bytes of a row's fields don't hang on where the row begins.
use Rattle.std.proofs.Common.{◌≡◌, ℕ, Bool, true, false, List, Option, Some, None, Result, Ok, Err}
use Rattle.std.proofs.Common.{refl, ap, subst, cond}
use Rattle.std.specs.Prelude.{length, ◌==◌}
use Rattle.std.specs.Option.{option_map}
use Rattle.std.specs.Str.Lines.{strip_carriage_return}
use Rattle.port_base.specs.Paths.{same_path}
use Rattle.libmount.specs.Cuts.{Placed, colon, dash, space, without_trailing_spaces}
use Rattle.libmount.specs.Escapes.{has_escape, decoded}
use Rattle.libmount.specs.Lookup.{verdict_by}
use Rattle.libmount.specs.Numbers.{number_at, number_field, number_of, or_bad_number}
use Rattle.libmount.specs.Options.{flags_of}
use Rattle.libmount.specs.Reading.{Message, ◌>>=◌, field_at, more_fields}
use Rattle.libmount.specs.Rows.{Row, Text, borrowed, fields_of, is_skipped, optional_at, owned, row}
use Rattle.libmount.specs.Rows.{row_of, text_at, text_bytes, text_of}

-- two readings with the same refusal, or with values that are alike
abbrev Alike : {X : Type 0} → (X → X → Type 0) → Result X Message → Result X Message → Type 0
Alike R (Ok x) (Ok y) = R x y
Alike R (Ok x) (Err f) = ⊥
Alike R (Err e) (Ok y) = ⊥
Alike R (Err e) (Err f) = e ≡ f

both : {X Y : Type 0} (R : X → X → Type 0) (S : Y → Y → Type 0) (r s : Result X Message)
    (f g : X → Result Y Message)
    → Alike R r s → ((x y : X) → R x y → Alike S (f x) (g y)) → Alike S (r >>= f) (s >>= g)
both R S (Ok x) (Ok y) f g h k = k x y h
both R S (Ok x) (Err e) f g h k = absurd h
both R S (Err e) (Ok y) f g h k = absurd h
both R S (Err e) (Err i) f g h k = h

-- ---- one field

abbrev SameField : Placed × Placed → Placed × Placed → Type 0
SameField x y = (x.0.1 ≡ y.0.1) × (x.1.1 ≡ y.1.1)

abbrev SameNumber : ℕ × Placed → ℕ × Placed → Type 0
SameNumber x y = x.1.1 ≡ y.1.1

abbrev SameText : Text × Placed → Text × Placed → Type 0
SameText x y = (text_bytes x.0 ≡ text_bytes y.0) × (x.1.1 ≡ y.1.1)

by_empty : (e : Bool) (x y : Placed × Placed) → SameField x y
    → Alike SameField (cond e (Err more_fields) (Ok x)) (cond e (Err more_fields) (Ok y))
by_empty true x y h = refl
by_empty false x y h = h

field-alike : (mark : List ℕ) (p q : Placed) → p.1 ≡ q.1
    → Alike SameField (field_at mark p) (field_at mark q)
unfolding field_at
field-alike mark (a, bs) (b, cs) h = subst (λ (t : List ℕ). Alike SameField (field_at mark (a, bs))
    (field_at mark (b, t))) h (by_empty (length bs == 0) _ _ (refl, refl))

abbrev number_then : Result ℕ Message → Placed → Result (ℕ × Placed) Message
number_then r p = r >>= λ n. Ok (n, p)

by_read : (r : Result ℕ Message) (p q : Placed) → p.1 ≡ q.1
    → Alike SameNumber (number_then r p) (number_then r q)
by_read (Ok n) p q h = h
by_read (Err e) p q h = refl

abbrev number_told : Placed × Placed → Result (ℕ × Placed) Message
number_told text = number_then (or_bad_number text.0.1 (number_of text.0.1)) text.1

number_told-alike : (x y : Placed × Placed) → SameField x y
    → Alike SameNumber (number_told x) (number_told y)
number_told-alike x y h =
    subst (λ (t : List ℕ). Alike SameNumber (number_told x)
    (number_then (or_bad_number t (number_of t)) y.1)) h.0
    (by_read (or_bad_number x.0.1 (number_of x.0.1)) x.1 y.1 h.1)

number-alike : (p q : Placed) → p.1 ≡ q.1 → Alike SameNumber (number_at p) (number_at q)
unfolding number_at
number-alike p q h = both SameField SameNumber (field_at space p) (field_at space q) number_told
    number_told (field-alike space p q h) number_told-alike

abbrev number_inside : Placed × Placed → Result (ℕ × Placed) Message
number_inside field = number_at field.0 >>= λ number. Ok (number.0, field.1)

number_inside-alike : (x y : Placed × Placed) → SameField x y
    → Alike SameNumber (number_inside x) (number_inside y)
number_inside-alike x y h =
    both SameNumber SameNumber (number_at x.0) (number_at y.0) (λ number. Ok (number.0, x.1))
    (λ number. Ok (number.0, y.1)) (number-alike x.0 y.0 h.0) (λ m n k. h.1)

number_field-alike : (mark : List ℕ) (p q : Placed) → p.1 ≡ q.1
    → Alike SameNumber (number_field mark p) (number_field mark q)
unfolding number_field
number_field-alike mark p q h = both SameField SameNumber (field_at mark p) (field_at mark q)
    number_inside number_inside (field-alike mark p q h) number_inside-alike

by_escape : (e : Bool) (a b : ℕ) (u bs : List ℕ)
    → text_bytes (cond e (owned u) (borrowed (a, bs))) ≡ text_bytes
    (cond e (owned u) (borrowed (b, bs)))
by_escape true a b u bs = refl
by_escape false a b u bs = refl

text_of-alike : (p q : Placed) → p.1 ≡ q.1 → text_bytes (text_of p) ≡ text_bytes (text_of q)
text_of-alike (a, bs) (b, cs) h = subst (λ (t : List ℕ). text_bytes (text_of (a, bs)) ≡ text_bytes
    (text_of (b, t))) h (by_escape (has_escape bs) a b (decoded bs) bs)

text-alike : (p q : Placed) → p.1 ≡ q.1 → Alike SameText (text_at p) (text_at q)
unfolding text_at
text-alike p q h =
    both SameField SameText (field_at space p) (field_at space q)
    (λ field. Ok (text_of field.0, field.1)) (λ field. Ok (text_of field.0, field.1))
    (field-alike space p q h) (λ x y k. (text_of-alike x.0 y.0 k.0, k.1))

abbrev trimmed : Placed → Placed
trimmed field = (field.0, without_trailing_spaces field.1)

optional-alike : (p q : Placed) → p.1 ≡ q.1 → Alike SameText (optional_at p) (optional_at q)
unfolding optional_at
optional-alike p q h =
    both SameField SameText (field_at dash p) (field_at dash q)
    (λ field. Ok (text_of (trimmed field.0), field.1))
    (λ field. Ok (text_of (trimmed field.0), field.1))
    (field-alike dash p q h) (λ x y k. (
      text_of-alike (trimmed x.0) (trimmed y.0)
          (ap without_trailing_spaces k.0),
      k.1,
    ))

-- ---- a row

abbrev Numbered : Type 0
Numbered = ℕ × Placed

abbrev Texted : Type 0
Texted = Text × Placed

abbrev SameRow : Row → Row → Type 0
SameRow r s = (text_bytes r.mount_point ≡ text_bytes s.mount_point)
    × (text_bytes r.mount_options ≡ text_bytes s.mount_options)

-- what is read after so many fields
abbrev row_end : (i p a m : Numbered) (r w o x t s u : Texted) → Result Row Message
row_end i p a m r w o x t s u = Ok (record {
  mount_id = i.0;
  parent_id = p.0;
  major = a.0;
  minor = m.0;
  root = r.0;
  mount_point = w.0;
  mount_options = o.0;
  optional_fields = x.0;
  fstype = t.0;
  mount_source = s.0;
  super_options = u.0;
})

abbrev after_source : (i p a m : Numbered) (r w o x t s : Texted) → Result Row Message
after_source i p a m r w o x t s = text_at s.1 >>= λ u. row_end i p a m r w o x t s u

abbrev after_type : (i p a m : Numbered) (r w o x t : Texted) → Result Row Message
after_type i p a m r w o x t = text_at t.1 >>= λ s. after_source i p a m r w o x t s

abbrev after_optional : (i p a m : Numbered) (r w o x : Texted) → Result Row Message
after_optional i p a m r w o x = text_at x.1 >>= λ t. after_type i p a m r w o x t

abbrev after_options : (i p a m : Numbered) (r w o : Texted) → Result Row Message
after_options i p a m r w o = optional_at o.1 >>= λ x. after_optional i p a m r w o x

abbrev after_point : (i p a m : Numbered) (r w : Texted) → Result Row Message
after_point i p a m r w = text_at w.1 >>= λ o. after_options i p a m r w o

abbrev after_root : (i p a m : Numbered) (r : Texted) → Result Row Message
after_root i p a m r = text_at r.1 >>= λ w. after_point i p a m r w

abbrev after_minor : (i p a m : Numbered) → Result Row Message
after_minor i p a m = text_at m.1 >>= λ r. after_root i p a m r

abbrev after_major : (i p a : Numbered) → Result Row Message
after_major i p a = number_field space a.1 >>= λ m. after_minor i p a m

abbrev after_parent : (i p : Numbered) → Result Row Message
after_parent i p = number_field colon p.1 >>= λ a. after_major i p a

abbrev after_id : Numbered → Result Row Message
after_id i = number_at i.1 >>= λ p. after_parent i p

module _ (i i' p p' a a' m m' : Numbered) (r r' : Texted) where
  texts-alike : (w w' o o' : Texted) → SameText w w' → SameText o o'
      → Alike SameRow (after_options i p a m r w o) (after_options i' p' a' m' r' w' o')
  texts-alike w w' o o' hw ho =
      both SameText SameRow (optional_at o.1) (optional_at o'.1) (after_optional i p a m r w o)
      (after_optional i' p' a' m' r' w' o') (optional-alike o.1 o'.1 ho.1) (λ x x' hx.
      both SameText SameRow (text_at x.1) (text_at x'.1) (after_type i p a m r w o x)
      (after_type i' p' a' m' r' w' o' x') (text-alike x.1 x'.1 hx.1) (λ t t' ht.
      both SameText SameRow (text_at t.1) (text_at t'.1) (after_source i p a m r w o x t)
      (after_source i' p' a' m' r' w' o' x' t') (text-alike t.1 t'.1 ht.1) (λ s s' hs.
      both SameText SameRow (text_at s.1) (text_at s'.1) (row_end i p a m r w o x t s)
      (row_end i' p' a' m' r' w' o' x' t' s') (text-alike s.1 s'.1 hs.1)
      (λ u u' hu. (hw.0, ho.0)))))

  root-alike : r.1.1 ≡ r'.1.1 → Alike SameRow (after_root i p a m r) (after_root i' p' a' m' r')
  root-alike h =
      both SameText SameRow (text_at r.1) (text_at r'.1) (after_point i p a m r)
      (after_point i' p' a' m' r') (text-alike r.1 r'.1 h) (λ w w' hw.
      both SameText SameRow (text_at w.1) (text_at w'.1) (after_options i p a m r w)
      (after_options i' p' a' m' r' w') (text-alike w.1 w'.1 hw.1) (λ o o' ho.
      texts-alike w w' o o' hw ho))

fields-alike : (x y : Placed) → x.1 ≡ y.1 → Alike SameRow (fields_of x) (fields_of y)
unfolding fields_of
fields-alike x y h =
    both SameNumber SameRow (number_at x) (number_at y) after_id after_id (number-alike x y h)
    (λ i i' hi.
    both SameNumber SameRow (number_at i.1) (number_at i'.1) (after_parent i) (after_parent i')
    (number-alike i.1 i'.1 hi) (λ p p' hp.
    both SameNumber SameRow (number_field colon p.1) (number_field colon p'.1) (after_major i p)
    (after_major i' p') (number_field-alike colon p.1 p'.1 hp) (λ a a' ha.
    both SameNumber SameRow (number_field space a.1) (number_field space a'.1) (after_minor i p a)
    (after_minor i' p' a') (number_field-alike space a.1 a'.1 ha) (λ m m' hm.
    both SameText SameRow (text_at m.1) (text_at m'.1) (after_root i p a m) (after_root i' p' a' m')
    (text-alike m.1 m'.1 hm) (λ r r' hr.
    root-alike i i' p p' a a' m m' r r' hr.1)))))

-- ---- a line

module _ (path : List ℕ) where
  abbrev flags_where : List ℕ → List ℕ → Option (Result ℕ Message)
  flags_where point options = option_map Ok (cond (same_path point path) (Some (flags_of options))
      None)

  by_rows : (r s : Result Row Message) → Alike SameRow r s
      → verdict_by path (r >>= λ fields. Ok (Some fields)) ≡ verdict_by path
      (s >>= λ fields. Ok (Some fields))
  by_rows (Ok r) (Ok s) h = λ j. flags_where (h.0 j) (h.1 j)
  by_rows (Ok r) (Err e) h = absurd h
  by_rows (Err e) (Ok s) h = absurd h
  by_rows (Err e) (Err f) h = ap (λ (message : Message). Some (Err message)) h

  by_skip : (skip : Bool) (r s : Result Row Message) → Alike SameRow r s
      → verdict_by path (cond skip (Ok None) (r >>= λ fields. Ok (Some fields))) ≡ verdict_by path
      (cond skip (Ok None) (s >>= λ fields. Ok (Some fields)))
  by_skip true r s h = refl
  by_skip false r s h = by_rows r s h

  pub verdict-anywhere : (a b : ℕ) (line : List ℕ)
      → verdict_by path (row (a, line)) ≡ verdict_by path (row (b, line))
  unfolding row row_of
  verdict-anywhere a b line =
      let bytes = strip_carriage_return line in
      by_skip (is_skipped bytes) (fields_of (a, bytes)) (fields_of (b, bytes))
      (fields-alike (a, bytes) (b, bytes) refl)
