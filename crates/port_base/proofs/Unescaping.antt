-- Reading escapes undoes writing them, and takes nothing else.
use Rattle.std.proofs.Common.{◌≡◌, ℕ, ◌<◌, Bool, true, false, cond, List, [], ◌∷◌, ◌++◌, Option}
use Rattle.std.proofs.Common.{Some, None, refl, sym, ap, ◌∙◌, arith, bytes_eq}
use Rattle.std.specs.Prelude.{IfSome}
use Rattle.std.proofs.lemmas.Bool.Decides.{nat_tests}
use Rattle.std.proofs.lemmas.Slice.Eq.{bytes_eq-Decides}
use Rattle.port_base.specs.Escapes.{is_escaped, octal_digit, escaped_byte, escaped, octal_value}
use Rattle.port_base.specs.Escapes.{behind, unescaped, IsUnescaped}

-- ---- what is read has the field as its escaped text

abbrev Undoes : List ℕ → Option (List ℕ) → Type 0
Undoes field o = IfSome o (λ text. escaped text ≡ field)

behind_undoes : (n : ℕ) (rest field : List ℕ) (o : Option (List ℕ)) → escaped_byte n ++ rest ≡ field
    → Undoes rest o → Undoes field (behind n o)
unfolding escaped
behind_undoes n rest field None e h = tt
behind_undoes n rest field (Some text) e h = ap (λ (l : List ℕ). escaped_byte n ++ l) h ∙ e

plain_byte : (b : ℕ) (rest : List ℕ) → is_escaped b ≡ false → escaped_byte b ++ rest ≡ b ∷ rest
plain_byte b rest is = rw is refl

last_undoes : (k : Bool) (b : ℕ) (rest : List ℕ) (o : Option (List ℕ)) → is_escaped b ≡ k
    → Undoes rest o → Undoes (b ∷ rest) (cond k None (behind b o))
last_undoes true b rest o is h = tt
last_undoes false b rest o is h = behind_undoes b rest (b ∷ rest) o (plain_byte b rest is) h

four_undo : (k : Bool) (n : ℕ) (four rest : List ℕ) (o : Option (List ℕ))
    → bytes_eq (escaped_byte n) four ≡ k → Undoes rest o
    → Undoes (four ++ rest) (cond k (behind n o) None)
four_undo true n four rest o is h = behind_undoes n rest (four ++ rest) o
    (ap (λ (l : List ℕ). l ++ rest) ((bytes_eq-Decides (escaped_byte n) four).0 is)) h
four_undo false n four rest o is h = tt

front_undoes : (k : Bool) (b x y z : ℕ) (rest : List ℕ) (o p : Option (List ℕ)) → is_escaped b ≡ k
    → Undoes rest o → Undoes (x ∷ y ∷ z ∷ rest) p
    → Undoes (b ∷ x ∷ y ∷ z ∷ rest) (cond k (cond
    (bytes_eq (escaped_byte (octal_value x y z)) (b ∷ x ∷ y ∷ z ∷ []))
    (behind (octal_value x y z) o) None) (behind b p))
front_undoes true b x y z rest o p is h g = four_undo
    (bytes_eq (escaped_byte (octal_value x y z)) (b ∷ x ∷ y ∷ z ∷ [])) (octal_value x y z)
    (b ∷ x ∷ y ∷ z ∷ []) rest o refl h
front_undoes false b x y z rest o p is h g = behind_undoes b (x ∷ y ∷ z ∷ rest)
    (b ∷ x ∷ y ∷ z ∷ rest) p (plain_byte b (x ∷ y ∷ z ∷ rest) is) g

undoes : (field : List ℕ) → Undoes field (unescaped field)
unfolding escaped unescaped
undoes [] = refl
undoes (b ∷ []) = last_undoes (is_escaped b) b [] (unescaped []) refl (undoes [])
undoes (b ∷ x ∷ []) = last_undoes (is_escaped b) b (x ∷ []) (unescaped (x ∷ [])) refl
    (undoes (x ∷ []))
undoes (b ∷ x ∷ y ∷ []) = last_undoes (is_escaped b) b (x ∷ y ∷ []) (unescaped (x ∷ y ∷ [])) refl
    (undoes (x ∷ y ∷ []))
undoes (b ∷ x ∷ y ∷ z ∷ rest) = front_undoes (is_escaped b) b x y z rest (unescaped rest)
    (unescaped (x ∷ y ∷ z ∷ rest)) refl (undoes rest) (undoes (x ∷ y ∷ z ∷ rest))

-- ---- an escaped text is read

small : (b : ℕ) → is_escaped b ≡ true → b < 512
small b is = grind (arith, nat_tests)

digits_back : (b : ℕ) → b < 512 → octal_value (octal_digit b 64) (octal_digit b 8) (octal_digit b 1)
    ≡ b
digits_back b h = omega (arith, h)

-- an escape at the front
escape_read : (b : ℕ) (rest : List ℕ) → is_escaped b ≡ true
    → unescaped (92 ∷ octal_digit b 64 ∷ octal_digit b 8 ∷ octal_digit b 1 ∷ rest) ≡ behind b
    (unescaped rest)
unfolding unescaped
escape_read b rest is =
    let four : List ℕ = 92 ∷ octal_digit b 64 ∷ octal_digit b 8 ∷ octal_digit b 1 ∷ [] in
    ap (λ n. cond (bytes_eq (escaped_byte n) four) (behind n (unescaped rest)) None)
    (digits_back b (small b is))
    ∙ ap (λ t. cond t (behind b (unescaped rest)) None)
    ((bytes_eq-Decides (escaped_byte b) four).1 (rw is refl))

plain_read : (b : ℕ) (rest : List ℕ) → is_escaped b ≡ false
    → unescaped (b ∷ rest) ≡ behind b (unescaped rest)
unfolding unescaped
plain_read b [] is = rw is refl
plain_read b (x ∷ []) is = rw is refl
plain_read b (x ∷ y ∷ []) is = rw is refl
plain_read b (x ∷ y ∷ z ∷ rest) is = rw is refl

byte_read : (k : Bool) (b : ℕ) (rest : List ℕ) → is_escaped b ≡ k
    → unescaped (cond k (92 ∷ octal_digit b 64 ∷ octal_digit b 8 ∷ octal_digit b 1 ∷ []) (b ∷ [])
    ++ rest) ≡ behind b (unescaped rest)
byte_read true b rest is = escape_read b rest is
byte_read false b rest is = plain_read b rest is

pub unescaped_escaped : (text : List ℕ) → unescaped (escaped text) ≡ Some text
unfolding escaped unescaped
unescaped_escaped [] = refl
unescaped_escaped (b ∷ text) = byte_read (is_escaped b) b (escaped text) refl
    ∙ ap (behind b) (unescaped_escaped text)

-- ---- the definition is the one reading

some_not_none : {A : Type 0} (a : A) → ◌≡◌ {A = Option A} (Some a) None → ⊥
some_not_none a e = absurd cc

by_answer : (field : List ℕ) (o : Option (List ℕ)) → unescaped field ≡ o → Undoes field o
    → IsUnescaped field o
by_answer field (Some text) is h = h
by_answer field None is h = λ text e. some_not_none text
    (sym (unescaped_escaped text) ∙ ap unescaped e ∙ is)

pub reading_is_unescaped : (field : List ℕ) → IsUnescaped field (unescaped field)
reading_is_unescaped field = by_answer field (unescaped field) refl (undoes field)

pub only_unescaped : (field : List ℕ) (o : Option (List ℕ)) → IsUnescaped field o
    → unescaped field ≡ o
only_unescaped field (Some text) is = ap unescaped (sym is) ∙ unescaped_escaped text
only_unescaped field None is = none_only (unescaped field) (undoes field) where
  none_only : (o : Option (List ℕ)) → Undoes field o → o ≡ None
  none_only None h = refl
  none_only (Some text) h = absurd (is text h)
