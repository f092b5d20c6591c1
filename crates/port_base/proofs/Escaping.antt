-- No escape begins another, so a field is the escaped text of one text at most.
use Rattle.std.proofs.Common.{◌≡◌, ◌≢◌, ℕ, ◌-◌, ◌<◌, Bool, true, false, cond, List, [], ◌∷◌, ◌++◌}
use Rattle.std.proofs.Common.{length, take, drop, None, refl, sym, ap, ◌∙◌, subst, arith}
use Rattle.std.proofs.Common.{append_assoc, append-nil}
use Rattle.std.proofs.lemmas.List.{take_all, length-drop}
use Rattle.std.proofs.lemmas.Grind.{flat_map-append}
use Rattle.std.proofs.lemmas.Bool.{false≢true}
use Rattle.std.proofs.lemmas.Bool.Decides.{nat_tests}
use Rattle.port_base.specs.Escapes.{is_escaped, octal_digit, escaped_byte, escaped, BeginsWith}
use Rattle.port_base.specs.Escapes.{IsUnescaped}

-- ---- one byte

small : (b : ℕ) → is_escaped b ≡ true → b < 512
small b is = grind (arith, nat_tests)

head_same : (a b : ℕ) (x y : List ℕ) → a ∷ x ≡ b ∷ y → (a ≡ b) × (x ≡ y)
head_same a b x y e = (cc, cc)

by_digits : (a b : ℕ) → a < 512 → b < 512 → octal_digit a 64 ≡ octal_digit b 64
    → octal_digit a 8 ≡ octal_digit b 8 → octal_digit a 1 ≡ octal_digit b 1 → a ≡ b
by_digits a b la lb h m l = omega (arith, la, lb, h, m, l)

-- a byte as it stands, where it is known whether it is escaped
abbrev spelled : Bool → ℕ → List ℕ
spelled k n = cond k (92 ∷ octal_digit n 64 ∷ octal_digit n 8 ∷ octal_digit n 1 ∷ []) (n ∷ [])

not_backslash : (b : ℕ) → is_escaped b ≡ false → 92 ≡ b → ⊥
not_backslash b is e = false≢true (sym (subst (λ n. is_escaped n ≡ false) (sym e) is))

by_kind : (j k : Bool) (a b : ℕ) (x y : List ℕ) → is_escaped a ≡ j → is_escaped b ≡ k → spelled j a
    ++ x ≡ spelled k b ++ y → (a ≡ b) × (x ≡ y)
by_kind true true a b x y p q e =
    let s0 = head_same _ _ _ _ e in
    let s1 = head_same _ _ _ _ s0.1 in
    let s2 = head_same _ _ _ _ s1.1 in
    let s3 = head_same _ _ _ _ s2.1 in
    (by_digits a b (small a p) (small b q) s1.0 s2.0 s3.0, s3.1)
by_kind true false a b x y p q e = absurd (not_backslash b q (head_same _ _ _ _ e).0)
by_kind false true a b x y p q e = absurd (not_backslash a p (sym (head_same _ _ _ _ e).0))
by_kind false false a b x y p q e = head_same _ _ _ _ e

pub first_same : (a b : ℕ) (x y : List ℕ) → escaped_byte a ++ x ≡ escaped_byte b ++ y → (a ≡ b)
    × (x ≡ y)
first_same a b x y e = by_kind (is_escaped a) (is_escaped b) a b x y refl refl e

-- ---- whole texts

none_from : {rest : List ℕ} → (t : List ℕ) × (escaped t ≡ rest) → rest ≢ [] → BeginsWith rest None
    → ⊥
unfolding escaped
none_from ([], is) some none = some (sym is)
none_from (b ∷ t, is) some none = none b (escaped t) is

nothing_left : (k : Bool) (b : ℕ) (x : List ℕ) → [] ≡ spelled k b ++ x → ⊥
nothing_left true b x e = absurd cc
nothing_left false b x e = absurd cc

-- where an escaped text begins with another, the rest is escaped too
pub rest_escaped : (front text rest : List ℕ) → escaped text ≡ escaped front ++ rest → (t : List ℕ)
    × (escaped t ≡ rest)
unfolding escaped
rest_escaped [] text rest e = (text, e)
rest_escaped (b ∷ front) [] rest e = absurd (nothing_left (is_escaped b) b (escaped front ++ rest)
    (e ∙ append_assoc (escaped_byte b) (escaped front) rest))
rest_escaped (b ∷ front) (c ∷ text) rest e =
    rest_escaped front text rest (first_same c b (escaped text) (escaped front ++ rest)
    (e ∙ append_assoc (escaped_byte b) (escaped front) rest)).1

-- a field whose rest begins with no byte is the escaped text of none
pub none_escaped : (front rest field : List ℕ) → escaped front ++ rest ≡ field → rest ≢ []
    → BeginsWith rest None → IsUnescaped field None
unfolding escaped
none_escaped front rest field is some none text e =
    none_from (rest_escaped front text rest (e ∙ sym is)) some none

-- a byte more was read
pub one_more : (front field rest out : List ℕ) (byte width : ℕ) → escaped front ++ rest ≡ field
    → rest ≡ escaped_byte byte ++ drop width rest → out ≡ front ++ byte ∷ [] → escaped out
    ++ take (length rest - width) (drop width rest) ≡ field
unfolding escaped
one_more front field rest out byte width is begins now =
    ap (λ (l : List ℕ). escaped l ++ take (length rest - width) (drop width rest)) now
    ∙ ap (λ (l : List ℕ). escaped (front ++ byte ∷ []) ++ l)
    (take_all (length rest - width) (drop width rest) (omega (arith, length-drop width rest)))
    ∙ ap (λ (l : List ℕ). l ++ drop width rest) (flat_map-append escaped_byte front (byte ∷ []))
    ∙ ap (λ (l : List ℕ). (escaped front ++ l) ++ drop width rest) (append-nil (escaped_byte byte))
    ∙ append_assoc (escaped front) (escaped_byte byte) (drop width rest)
    ∙ ap (λ (l : List ℕ). escaped front ++ l) (sym begins)
    ∙ is
