-- Each field lies in the row, since it lies in what the fields before it left.
use Rattle.libmount.proofs.SliceLemmas.{FieldLiesIn-trans, LiesIn-trans}
use Rattle.libmount.proofs.mountinfo.rows.fields_of.Goals as goal

pub returns-clause-parts : goal.returns-clause-parts
returns-clause-parts c =
    let after_id = c.in_ok-mount_id.ensures.rest in
    let after_parent = LiesIn-trans _ _ _ after_id c.in_ok-parent_id.ensures.rest in
    let after_major = LiesIn-trans _ _ _ after_parent c.in_ok-major.ensures.rest in
    let after_minor = LiesIn-trans _ _ _ after_major c.in_ok-minor.ensures.rest in
    let after_root = LiesIn-trans _ _ _ after_minor c.in_ok-root.ensures.parts.1 in
    let after_point = LiesIn-trans _ _ _ after_root c.in_ok-mount_point.ensures.parts.1 in
    let after_options = LiesIn-trans _ _ _ after_point c.in_ok-mount_options.ensures.parts.1 in
    let after_optional = LiesIn-trans _ _ _ after_options c.in_ok-optional_fields.ensures.parts.1 in
    let after_type = LiesIn-trans _ _ _ after_optional c.in_ok-fstype.ensures.parts.1 in
    let after_source = LiesIn-trans _ _ _ after_type c.in_ok-mount_source.ensures.parts.1 in
    record {
      root = FieldLiesIn-trans _ _ after_minor c.in_ok-root.root c.in_ok-root.ensures.parts.0;
      mount_point = FieldLiesIn-trans _ _ after_root c.in_ok-mount_point.mount_point
          c.in_ok-mount_point.ensures.parts.0;
      mount_options = FieldLiesIn-trans _ _ after_point c.in_ok-mount_options.mount_options
          c.in_ok-mount_options.ensures.parts.0;
      optional_fields = FieldLiesIn-trans _ _ after_options c.in_ok-optional_fields.optional_fields
          c.in_ok-optional_fields.ensures.parts.0;
      fstype = FieldLiesIn-trans _ _ after_optional c.in_ok-fstype.fstype
          c.in_ok-fstype.ensures.parts.0;
      mount_source = FieldLiesIn-trans _ _ after_type c.in_ok-mount_source.mount_source
          c.in_ok-mount_source.ensures.parts.0;
      super_options = FieldLiesIn-trans _ _ after_source c.in_ok-super_options.super_options
          c.in_ok-super_options.ensures.parts.0;
    }
