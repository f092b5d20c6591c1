-- The definitions at examples.
use Rattle.std.proofs.Common.{◌≡◌, ℕ, List, [], ◌∷◌, Some, None, Err, refl, ap, cond, is_some, true}
use Rattle.std.proofs.Common.{false}
use Rattle.std.specs.declared.option.Option.{Option}
use Rattle.std.specs.Ordering.{nat_cmp}
use Rattle.std.specs.Cmp.{nat_cmp_total}
use Rattle.std.specs.FinMap as map
use Rattle.std.specs.Prelude.{codes}
use Rattle.std.specs.Fmt.{digits}
use Rattle.port_base.specs.Escapes.{escaped}
use Rattle.tree_model.specs.declared.attributes.Kind.{Kind}
use Rattle.tree_model.specs.declared.attributes.Stamp.{Stamp}
use Rattle.mount9_run.specs.ReportLines.{entry_line, directory_line, number_line, stamp_text}
use Rattle.mount9_run.specs.ReportLines.{mode_text}
use Rattle.mount9_run.specs.Texts.{split_once}
use Rattle.mount9_run.specs.Paths.{is_path}
use Rattle.mount9_run.specs.Header.{header, text_of, text_from, header_of, start_at}
use Rattle.mount9_run.specs.HeaderLines.{stamp_at}
use Rattle.port_base.specs.Decimals.{number_of}
use Rattle.mount9_run.specs.Numbers.{number_field}
use Rattle.mount9_run.specs.Reading.{lines_of, keyword_at, after_word, field_at}
use Rattle.mount9_run.specs.Command.{with_word, with_words, command, owners_of, with_owner}
use Rattle.mount9_run.specs.Outcome.{outcome}
use Rattle.mount9_run.specs.declared.run.Status.TheVariants as status

pub command_example : command (codes "serve" ∷ codes "target=/mnt" ∷ codes "root=/" ∷ []) ≡ Some
    (record {
      target = codes "/mnt";
      root = codes "/";
      msize = 65560;
      turns = 4096;
      ids = 1024;
      uid_map = map.empty;
      gid_map = map.empty;
      casefold = false;
    })
unfolding command with_words with_word split_once is_path
command_example = refl

pub numbers_example : command (codes "serve" ∷ codes "ids=0" ∷ codes "root=/" ∷ codes "msize=4352"
    ∷ codes "target=/" ∷ codes "casefold=true" ∷ []) ≡ Some (record {
      target = codes "/";
      root = codes "/";
      msize = 4352;
      turns = 4096;
      ids = 0;
      uid_map = map.empty;
      gid_map = map.empty;
      casefold = true;
    })
unfolding command with_words with_word split_once is_path number_of
numbers_example = refl

pub msize_refused : command (codes "serve" ∷ codes "target=/" ∷ codes "root=/" ∷ codes "msize=255"
    ∷ []) ≡ None
unfolding command with_words with_word split_once is_path number_of
msize_refused = refl

pub owners_example : owners_of (codes "1000:0") ≡ Some (1000, 0)
unfolding owners_of split_once number_of
owners_example = refl

-- an owner is taken once
pub owner_example : with_owner map.empty (Some (1000, 0)) ≡ Some (map.insert map.empty 1000 0)
owner_example = ap (λ (o : Option ℕ). cond (is_some o) None (Some (map.insert map.empty 1000 0)))
    (map.get-empty nat_cmp 1000)

pub again_example : with_owner (map.insert map.empty 1000 0) (Some (1000, 5)) ≡ None
again_example = ap (λ (o : Option ℕ). cond (is_some o) None
    (Some (map.insert (map.insert map.empty 1000 0) 1000 5)))
    (map.get-insert nat_cmp_total map.empty 1000 0 1000)

pub header_example : header (codes "mount9 1\nmoment 1700000000\nend\n") ≡ Err 2
unfolding header text_of text_from header_of lines_of start_at stamp_at keyword_at after_word
    field_at split_once number_field
header_example = refl

pub endless_example : header (codes "mount9 1\nending\nend") ≡ Err 0
unfolding header text_of text_from
endless_example = refl

pub entry_example : entry_line 1 1 2 (codes "my file") ≡ codes "in 1 1 2 my\\040file\n"
unfolding entry_line escaped digits
entry_example = refl

pub stamp_example : stamp_text (record { sec = 1600000000; nsec = 5 }) ≡ codes
    "1600000000.000000005"
unfolding stamp_text digits
stamp_example = refl

pub directory_example : (kind : Kind) (born : Stamp)
    → stamp_text born ≡ codes "1600000000.000000005"
    → directory_line (record {
      ino = 1;
      kind = kind;
      mode = 493;
      uid = 0;
      gid = 0;
      links = 2;
      size =
          0;
      atime = born;
      mtime = born;
      ctime = born;
    }) 1 2
    ≡ codes "dir 1 0755 0 0 2 1600000000.000000005 1600000000.000000005 1600000000.000000005 1 2\n"
unfolding directory_line mode_text digits
directory_example kind born h = rw h refl

pub words_outcome : (bytes : List ℕ) → outcome (codes "serve" ∷ codes "target=/mnt" ∷ []) bytes
    ≡ (status.Words, codes "words\n")
unfolding command with_words with_word split_once is_path
words_outcome bytes = refl

pub header_outcome : outcome (codes "serve" ∷ codes "target=/mnt" ∷ codes "root=/" ∷ [])
    (codes "mount9 1\nmoment 1700000000\nend\n") ≡ (status.Header, codes "header 2\n")
unfolding command with_words with_word split_once is_path header text_of text_from header_of
    lines_of start_at stamp_at keyword_at after_word field_at number_field number_line digits
header_outcome = refl
