-- Paths with escapes at examples.
use Rattle.std.proofs.Common.{◌≡◌, ℕ, lit<, ◌<◌, zero, suc, List, [], ◌∷◌, Bool, true, cond, not}
use Rattle.std.proofs.Common.{Option, Some, None, Result, Ok, Err, refl, ap, if◌then◌else◌}
use Rattle.std.specs.Prelude.{codes, is_none, slice_index, ◌&&◌}
use Rattle.std.specs.Str.{is_utf8}
use Rattle.std.proofs.lemmas.Str.{IsUtf8-from_ascii, is_utf8-from_IsUtf8}
use Rattle.port_base.specs.Names.{name_fault}
use Rattle.mount9_run.specs.Texts.{split_once}
use Rattle.mount9_run.specs.Paths.{is_path}
use Rattle.mount9_run.specs.Reading.{◌>>=◌, check, or_refused, after_word, field_at}
use Rattle.port_base.specs.Decimals.{number_of}
use Rattle.mount9_run.specs.Numbers.{number_at, number_field, mode_field, mode_of}
use Rattle.port_base.specs.Escapes.{unescaped}
use Rattle.mount9_run.specs.HeaderLines.{present_at}
use Rattle.mount9_run.specs.HeaderRecords.{RecordLine, file_at, is_record_path, record_path_at}
use Rattle.mount9_run.specs.HeaderRecords.{bytes_of, bytes_field}
use Rattle.mount9_run.specs.HeaderRecords.Item.{file}

pub blank_example : present_at 6 [] (codes "present /a\\040b") ≡ Ok (Some (codes "/a b" ∷ []))
unfolding present_at after_word split_once unescaped is_path
blank_example = refl

pub backslash_example : present_at 6 [] (codes "present /a\\b") ≡ Err 6
unfolding present_at after_word split_once unescaped is_path
backslash_example = refl

pub other_byte_example : present_at 6 [] (codes "present /\\141") ≡ Err 6
unfolding present_at after_word split_once unescaped is_path
other_byte_example = refl

pub raw_blank_example : file_at 7 (codes "0644 0 0 - /a b") ≡ Err 7
unfolding file_at record_path_at field_at split_once mode_field mode_of number_at number_field
    number_of bytes_field bytes_of unescaped
raw_blank_example = refl

-- ---- a file with a blank in its name

-- `is_utf8` doesn't compute
ascii_at : (i : ℕ) → slice_index (codes "a b") i < 128
ascii_at zero = lit< tt
ascii_at (suc zero) = lit< tt
ascii_at (suc (suc zero)) = lit< tt
ascii_at (suc (suc (suc i))) = lit< tt

is_text : is_utf8 (codes "a b") ≡ true
is_text = is_utf8-from_IsUtf8 _ (IsUtf8-from_ascii (codes "a b") ascii_at)

no_fault : name_fault (codes "a b") ≡ None
no_fault = ap (λ (b : Bool). cond {A = Option ℕ} (not b) (Some 22) None) is_text

its_path : is_record_path (codes "/a b") ≡ true
its_path = ap (λ (o : Option ℕ). (is_none o && true) && true) no_fault

abbrev whole : Unit {0} → Result (List ℕ) ℕ
whole ok = Ok (codes "/a b")

abbrev lined : List ℕ → Result RecordLine ℕ
lined path = Ok (record {
  item = file (record { mode = 420; uid = 0; gid = 0; bytes = [] });
  path =
      path;
})

pub file_example : file_at 7 (codes "0644 0 0 - /a\\040b") ≡ Ok
    (record {
      item = file (record { mode = 420; uid = 0; gid = 0; bytes = [] });
      path =
          codes "/a b";
    })
unfolding file_at field_at split_once mode_field mode_of number_at number_field number_of
    bytes_field bytes_of unescaped record_path_at
file_example = ap (λ (b : Bool). (check 7 b >>= whole) >>= lined) its_path
