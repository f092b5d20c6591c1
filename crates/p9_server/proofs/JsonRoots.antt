-- A text that isn't UTF-8.
use Rattle.std.proofs.Common.{◌≡◌, refl, Bool, true, false, List, ℕ}
use Rattle.std.specs.Str.{IsUtf8, is_utf8}
use Rattle.std.proofs.lemmas.Str.{IsUtf8-from_is_utf8}

no_utf8_by : (text : List ℕ) → (IsUtf8 text → ⊥) → (b : Bool) → is_utf8 text ≡ b → b ≡ false
no_utf8_by text none true is = absurd (none (IsUtf8-from_is_utf8 text is))
no_utf8_by text none false is = refl

pub no_utf8 : (text : List ℕ) → (IsUtf8 text → ⊥) → is_utf8 text ≡ false
no_utf8 text none = no_utf8_by text none (is_utf8 text) refl
