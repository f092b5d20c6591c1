-- The values that messages are made of, how they are spelled and how they are read.
use Rattle.std.proofs.Common.{◌≡◌, ℕ, ◌^◌, ◌<◌, ◌≤◌, true, List, [], ◌∷◌, ◌++◌, length, refl}
use Rattle.std.specs.Prelude.{nat_le}
use Rattle.std.specs.List.{AllByRecursion}
use Rattle.std.proofs.lemmas.Bool.{le-leb, leb-true}
use Rattle.std.specs.Int.{w16, w32, w64, from_le_bytes, to_le_bytes}
use Rattle.p9_wire.specs.declared.error.WireError.TheVariants.{InvalidInput, InvalidData}
use Rattle.p9_wire.specs.Reading.{Reads, then_read, give, bytes_at, fixed_at, Always, Lawful}
use Rattle.p9_wire.specs.Numbers.{byte_from, byte_to, code16, code32, law8, law32, law64}
use Rattle.p9_wire.specs.Texts.{is_text, read_if, any_len, any_bytes, data_len, counted_lawful}
use Rattle.p9_wire.specs.Fields.{PairSpells, pair_spelling, pair_reading, both}
use Rattle.p9_wire.specs.Items.{ItemsSpell, items_spelling, items_reading, items_lawful}

-- ---- numbers of one, two, four and eight bytes

abbrev pub IsU8 : ℕ → Type 0
IsU8 n = n < 2 ^ 8

abbrev pub IsU16 : ℕ → Type 0
IsU16 n = n < 2 ^ 16

abbrev pub IsU32 : ℕ → Type 0
IsU32 n = n < 2 ^ 32

abbrev pub IsU64 : ℕ → Type 0
IsU64 n = n < 2 ^ 64

abbrev pub le8 : ℕ → List ℕ
le8 = byte_to

abbrev pub le16 : ℕ → List ℕ
le16 = to_le_bytes w16

abbrev pub le32 : ℕ → List ℕ
le32 = to_le_bytes w32

abbrev pub le64 : ℕ → List ℕ
le64 = to_le_bytes w64

abbrev pub u8_at : Reads ℕ
u8_at = fixed_at 1 byte_from

abbrev pub u16_at : Reads ℕ
u16_at = fixed_at 2 (from_le_bytes w16)

abbrev pub u32_at : Reads ℕ
u32_at = fixed_at 4 (from_le_bytes w32)

abbrev pub u64_at : Reads ℕ
u64_at = fixed_at 8 (from_le_bytes w64)

-- ---- texts and data

-- at most 65535 bytes of UTF-8 without a zero byte
abbrev pub TextSpells : List ℕ → Type 0
TextSpells bytes = (length bytes < 2 ^ 16) × (is_text bytes ≡ true)

abbrev pub text_spelling : List ℕ → List ℕ
text_spelling bytes = le16 (length bytes) ++ bytes

abbrev pub text_at : Reads (List ℕ)
text_at = then_read u16_at (λ n. then_read (bytes_at n)
    (λ bytes. read_if (is_text bytes) InvalidInput (give bytes)))

abbrev pub DataSpells : List ℕ → Type 0
DataSpells bytes = length bytes < 2 ^ 32

abbrev pub data_spelling : List ℕ → List ℕ
data_spelling bytes = le32 (length bytes) ++ bytes

-- a decoder takes at most 33554432 bytes of data
abbrev pub IsReadableData : List ℕ → Type 0
IsReadableData bytes = length bytes ≤ 33554432

abbrev pub data_at : Reads (List ℕ)
data_at = then_read u32_at (λ n. read_if (nat_le n 33554432) InvalidData
    (then_read (bytes_at n) (λ bytes. give bytes)))

-- data of any length, as `data_at` reads it below its bound
abbrev pub any_data_at : Reads (List ℕ)
any_data_at = then_read u32_at (λ n. then_read (bytes_at n) (λ bytes. give bytes))

-- ---- qids, and many texts or qids behind their count

abbrev pub QidSpells : ℕ × (ℕ × ℕ) → Type 0
QidSpells q = IsU8 q.0 × (IsU32 q.1.0 × IsU64 q.1.1)

-- ty 1, version 4, path 8
abbrev pub qid_spelling : ℕ × (ℕ × ℕ) → List ℕ
qid_spelling q = le8 q.0 ++ (le32 q.1.0 ++ le64 q.1.1)

abbrev pub qid_at : Reads (ℕ × (ℕ × ℕ))
qid_at = pair_reading u8_at (pair_reading u32_at u64_at)

abbrev pub TextsSpell : List (List ℕ) → Type 0
TextsSpell = ItemsSpell TextSpells

abbrev pub texts_spelling : List (List ℕ) → List ℕ
texts_spelling = items_spelling text_spelling

abbrev pub texts_at : Reads (List (List ℕ))
texts_at = items_reading text_at

abbrev pub QidsSpell : List (ℕ × (ℕ × ℕ)) → Type 0
QidsSpell = ItemsSpell QidSpells

abbrev pub qids_spelling : List (ℕ × (ℕ × ℕ)) → List ℕ
qids_spelling = items_spelling qid_spelling

abbrev pub qids_at : Reads (List (ℕ × (ℕ × ℕ)))
qids_at = items_reading qid_at

-- ---- their laws

-- a law under other names of the same facts
module _ {P : Type 0} {S W R : P → Type 0} {s : P → List ℕ} {r : Reads P} (S' W' R' : P → Type 0)
    (law : Lawful S s W R r) (spells : (p : P) → S' p → S p) (spelled : (p : P) → S p → S' p)
    (sound : (p : P) → W' p → W p) (readable : (p : P) → R' p → R p)
    (read : (p : P) → R p → R' p) where
  likewise : Lawful S' s W' R' r
  likewise = record {
    takes = λ xs rest p fits e w. let t = law.takes xs rest p fits e (sound p w) in
        (t.0, spelled p t.1, read p t.2);
    again = λ p rest a b. law.again p rest (spells p a) (readable p b);
    unique = λ p q x y a b e. law.unique p q x y (spells p a) (spells q b) e;
  }

all_always : {P : Type 0} (ps : List P) → AllByRecursion Always ps
all_always [] = tt
all_always (p ∷ ps) = (tt, all_always ps)

-- two fields, where only the second can be unreadable
pub then_law : {P Q : Type 0} {SA : P → Type 0} {sa : P → List ℕ} {ra : Reads P}
    {SB RB : Q → Type 0} {sb : Q → List ℕ} {rb : Reads Q} → Lawful SA sa Always Always ra
    → Lawful SB sb Always RB rb → Lawful (PairSpells SA SB) (pair_spelling sa sb) Always
    (λ (p : P × Q). RB p.1) (pair_reading ra rb)
then_law {P} {Q} {SA} {sa} {ra} {SB} {RB} {sb} {rb} a b =
    likewise (PairSpells SA SB) Always (λ (p : P × Q). RB p.1) (both a b) (λ p h. h) (λ p h. h)
    (λ p h. (tt, tt)) (λ p h. (tt, h)) (λ p h. h.1)

-- many values that are always readable
pub items_law : {P : Type 0} {S : P → Type 0} {s : P → List ℕ} {r : Reads P}
    → Lawful S s Always Always r → Lawful (ItemsSpell S) (items_spelling s) Always Always
    (items_reading r)
items_law {P} {S} {s} {r} law =
    likewise (ItemsSpell S) Always Always (items_lawful S s Always Always r law) (λ p h. h)
    (λ p h. h) (λ p h. all_always p) (λ p h. all_always p) (λ p h. tt)

pub text_law : Lawful TextSpells text_spelling Always Always text_at
text_law = likewise TextSpells Always Always
    (counted_lawful 2 (from_le_bytes w16) (to_le_bytes w16) (2 ^ 16) code16 any_len is_text)
    (λ p h. h) (λ p h. h) (λ p h. tt) (λ p h. refl) (λ p h. tt)

pub data_law : Lawful DataSpells data_spelling Always IsReadableData data_at
data_law = likewise DataSpells Always IsReadableData
    (counted_lawful 4 (from_le_bytes w32) (to_le_bytes w32) (2 ^ 32) code32 data_len any_bytes)
    (λ p h. (h, refl)) (λ p h. h.0) (λ p h. tt) (λ p h. le-leb (length p) 33554432 h)
    (λ p h. leb-true (length p) 33554432 h)

pub any_data_law : Lawful DataSpells data_spelling Always Always any_data_at
any_data_law = likewise DataSpells Always Always
    (counted_lawful 4 (from_le_bytes w32) (to_le_bytes w32) (2 ^ 32) code32 any_len any_bytes)
    (λ p h. (h, refl)) (λ p h. h.0) (λ p h. tt) (λ p h. refl) (λ p h. tt)

pub qid_law : Lawful QidSpells qid_spelling Always Always qid_at
qid_law = then_law law8 (then_law law32 law64)

pub texts_law : Lawful TextsSpell texts_spelling Always Always texts_at
texts_law = items_law text_law

pub qids_law : Lawful QidsSpell qids_spelling Always Always qids_at
qids_law = items_law qid_law
