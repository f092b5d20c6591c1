-- The definitions at examples.
use Rattle.std.proofs.Common.{◌≡◌, ℕ, zero, suc, ◌<◌, lit<, List, [], ◌∷◌, ◌++◌, ◌^◌, ◌-◌, Bool}
use Rattle.std.proofs.Common.{true, false, cond, not, Option, Some, None, refl, ap}
use Rattle.std.specs.Prelude.{codes, replicate, slice_index}
use Rattle.std.specs.List.{AllByRecursion}
use Rattle.std.specs.Str.{is_utf8}
use Rattle.std.proofs.lemmas.Str.{IsUtf8-from_ascii, is_utf8-from_IsUtf8}
use Rattle.port_base.specs.Escapes.{escaped}
use Rattle.port_base.specs.Failing.{counted}
use Rattle.port_base.specs.Flags.{known_flags, without}
use Rattle.port_base.specs.Names.{name_fault}
use Rattle.port_base.specs.Paths.{components, names, path_starts_with, same_path, strip}
use Rattle.port_base.specs.Quoting.{quoted, quoted_byte}

-- ---- names

pub name_empty : name_fault [] ≡ Some 2
name_empty = refl

pub name_long : name_fault (replicate 256 97) ≡ Some 36
name_long = refl

pub name_slash : name_fault (codes "a/b") ≡ Some 22
name_slash = refl

pub name_zero : name_fault (codes "a" ++ 0 ∷ []) ≡ Some 22
name_zero = refl

pub name_dot : name_fault (codes ".") ≡ Some 22
name_dot = refl

pub name_dots : name_fault (codes "..") ≡ Some 22
name_dots = refl

-- `is_utf8` doesn't compute
ascii_at : (bs : List ℕ) → AllByRecursion (λ b. b < 128) bs → (i : ℕ) → slice_index bs i < 128
ascii_at [] h i = lit< tt
ascii_at (b ∷ bs) h zero = h.0
ascii_at (b ∷ bs) h (suc i) = ascii_at bs h.1 i

of_text : (name : List ℕ) → is_utf8 name ≡ true
    → cond {A = Option ℕ} (not (is_utf8 name)) (Some 22) None ≡ None
of_text name is = ap (λ (b : Bool). cond {A = Option ℕ} (not b) (Some 22) None) is

ascii_text : (name : List ℕ) → AllByRecursion (λ b. b < 128) name → is_utf8 name ≡ true
ascii_text name small = is_utf8-from_IsUtf8 name (IsUtf8-from_ascii name (ascii_at name small))

pub name_word : name_fault (codes "hello") ≡ None
name_word = of_text (codes "hello") (ascii_text (codes "hello")
    (lit< tt, (lit< tt, (lit< tt, (lit< tt, (lit< tt, tt))))))

pub name_three_dots : name_fault (codes "...") ≡ None
name_three_dots = of_text (codes "...") (ascii_text (codes "...")
    (lit< tt, (lit< tt, (lit< tt, tt))))

-- ---- paths

pub components_from_the_top : components (codes "/a//./b/") ≡ codes "/" ∷ codes "a" ∷ codes "b" ∷ []
unfolding components names
components_from_the_top = refl

pub components_behind_a_dot : components (codes "./a") ≡ codes "." ∷ codes "a" ∷ []
unfolding components names
components_behind_a_dot = refl

pub components_around_a_dot : components (codes "a/./b") ≡ codes "a" ∷ codes "b" ∷ []
unfolding components names
components_around_a_dot = refl

pub components_of_nothing : components [] ≡ []
unfolding components names
components_of_nothing = refl

pub same_spelled_twice : same_path (codes "//proc/./") (codes "/proc") ≡ true
unfolding components names same_path
same_spelled_twice = refl

pub same_not_from_the_top : same_path (codes "/proc") (codes "proc") ≡ false
unfolding components names same_path
same_not_from_the_top = refl

pub same_not_behind_a_dot : same_path (codes "./proc") (codes "proc") ≡ false
unfolding components names same_path
same_not_behind_a_dot = refl

pub starts_below : path_starts_with (codes "/a/b") (codes "/a/") ≡ true
unfolding components names path_starts_with
starts_below = refl

pub starts_not_inside_a_name : path_starts_with (codes "/ab") (codes "/a") ≡ false
unfolding components names path_starts_with
starts_not_inside_a_name = refl

pub stripped : strip (codes "a" ∷ codes "b" ∷ []) (codes "a" ∷ []) ≡ Some (codes "b" ∷ [])
stripped = refl

pub not_stripped : strip (codes "a" ∷ []) (codes "a" ∷ codes "b" ∷ []) ≡ None
not_stripped = refl

-- ---- quotes and escapes

pub quoted_marks : quoted (codes "a\"b\\") ≡ codes "\"a\\\"b\\\\\""
unfolding quoted quoted_byte
quoted_marks = refl

pub quoted_line_feed : quoted (10 ∷ []) ≡ codes "\"\\n\""
unfolding quoted quoted_byte
quoted_line_feed = refl

pub quoted_zero : quoted (0 ∷ []) ≡ codes "\"\\0\""
unfolding quoted quoted_byte
quoted_zero = refl

pub quoted_27 : quoted (1 ∷ 27 ∷ []) ≡ codes "\"\\u{1}\\u{1b}\""
unfolding quoted quoted_byte
quoted_27 = refl

pub quoted_127 : quoted (127 ∷ []) ≡ codes "\"\\u{7f}\""
unfolding quoted quoted_byte
quoted_127 = refl

pub quoted_255 : quoted (255 ∷ []) ≡ codes "\"\\xFF\""
unfolding quoted quoted_byte
quoted_255 = refl

pub escaped_space : escaped (codes "a b\\") ≡ codes "a\\040b\\134"
unfolding escaped
escaped_space = refl

pub escaped_breaks : escaped (9 ∷ 10 ∷ 13 ∷ []) ≡ codes "\\011\\012\\015"
unfolding escaped
escaped_breaks = refl

-- ---- flags and counts

pub flags_known : known_flags ≡ 18906367
flags_known = refl

pub flags_taken : without 7 18 ≡ 5
flags_taken = refl

pub counted_one : counted 6 ≡ 7
counted_one = refl

pub counted_at_the_end : counted (2 ^ 64 - 1) ≡ 2 ^ 64 - 1
counted_at_the_end = refl
