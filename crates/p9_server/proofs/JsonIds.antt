-- Numbers of owners as keys, and pairs of them as members.
use Rattle.std.proofs.Common.{◌≡◌, ℕ, ◌<◌, ◌^◌, Bool, true, false, List, length, Some, None, Ok}
use Rattle.std.proofs.Common.{Err}
use Rattle.std.proofs.Common.{Option, refl, sym, ap, ◌∙◌, cond, ltb-true, ◌∷◌, String, Global}
use Rattle.std.proofs.Common.{arith}
use Rattle.std.specs.Prelude.{nat_lt, option_and_then, string_bytes}
use Rattle.std.specs.FinMap.{insert}
use Rattle.port_base.specs.Decimals.{CountsTo}
use Rattle.serde_json.specs.Data.{Members}
use Rattle.serde_json.specs.View.{view, members_view}
use Rattle.serde_json.proofs.Views.{members_len-members_view}
use Rattle.serde_json.specs.declared.value.Value.{Value}
use Rattle.tree_model.specs.Settings.{IdMap}
use Rattle.p9_server.specs.ConfigJsons.{id_of, below_32, u32_of, ids_from}
use Rattle.p9_server.specs.ConfigJsons.{check_members}
use Rattle.p9_server.specs.declared.config_json.ConfigJsonError.TheVariants.{UnknownKey}

not_below_by : (n : ℕ) → (n < 2 ^ 32 → ⊥) → (b : Bool) → nat_lt n (2 ^ 32) ≡ b
    → cond b (Some n) None ≡ None
not_below_by n large true is = absurd (large (ltb-true n (2 ^ 32) is))
not_below_by n large false is = refl

-- what is no number below 2^64 is no owner
pub no_id : (read : Option ℕ) → CountsTo None read → None ≡ option_and_then below_32 read
no_id None none = refl
no_id (Some n) none = sym (not_below_by n (λ lt. none n (omega arith) refl) _ refl)

abbrev Entries : Type 0
Entries = List (String Global × Value)

-- one more pair
pub next_pair : (m n : IdMap) (k : String Global) (v : Value) (text : List ℕ) (left rest : Entries)
    (total : Option IdMap) (id shown : ℕ) → left ≡ (k, v) ∷ rest → text ≡ string_bytes k
    → ids_from m (members_view left) ≡ total → Some id ≡ id_of text → Some shown ≡ u32_of (view v)
    → n ≡ insert m id shown → ids_from n (members_view rest) ≡ total
next_pair m n k v text left rest total id shown more same from number value new =
    ap (λ (l : IdMap). ids_from l (members_view rest)) new
    ∙ ap (option_and_then (λ (w : ℕ). ids_from (insert m id w) (members_view rest))) value
    ∙ ap (option_and_then (λ (i : ℕ). option_and_then
    (λ (w : ℕ). ids_from (insert m i w) (members_view rest)) (u32_of (view v))))
    (number ∙ ap id_of same)
    ∙ ap (λ (es : Entries). ids_from m (members_view es)) (sym more) ∙ from

-- more keys than fields
pub many_members : (o : Option Members) (es : Entries) (n : ℕ) → Some (members_view es) ≡ o
    → n ≡ length es → nat_lt 6 n ≡ true → check_members o ≡ Err UnknownKey
many_members o es n is count more =
    ap check_members (sym is) ∙ ap (λ (b : Bool). cond b (Err UnknownKey) (Ok tt))
    (ap (nat_lt 6) (members_len-members_view es ∙ sym count) ∙ more)

pub few_members : (o : Option Members) (es : Entries) (n : ℕ) → Some (members_view es) ≡ o
    → n ≡ length es → nat_lt 6 n ≡ false → check_members o ≡ Ok tt
few_members o es n is count few =
    ap check_members (sym is) ∙ ap (λ (b : Bool). cond b (Err UnknownKey) (Ok tt))
    (ap (nat_lt 6) (members_len-members_view es ∙ sym count) ∙ few)
