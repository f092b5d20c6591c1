-- A mount that isn't refused goes by its flags.
use Rattle.std.proofs.Common.{◌∙◌, ap, sym, refl}
use Rattle.port_base.specs.Words.{words_of}
use Rattle.libmount.specs.MountTables.{MountTable}
use Rattle.fuse_mnt.specs.contracts.table.Table.{the_view}
use Rattle.fuse_mnt.proofs.FlagLemmas.{first_is, leaves_as, mounts_by_flags, mounts_empty}
use Rattle.fuse_mnt.proofs.FlagLemmas.{mounts_forbidden, mounts_nowhere, neither_is, second_is, there_as}
use Rattle.fuse_mnt.proofs.table.Table.mount.Goals.{then-is_empty_text-via-then-is_empty_text}
use Rattle.fuse_mnt.proofs.table.Table.mount.Goals.{then-is_empty_text-via-else-is_empty_text+then-is_empty_text-2}
use Rattle.fuse_mnt.proofs.table.Table.mount.Goals as goal

pub returns-then-not-is_there-clause-leaves : goal.returns-then-not-is_there-clause-leaves
returns-then-not-is_there-clause-leaves c = record {
  exactly = (
    mounts_nowhere _ c.args.self.now
        (there_as c.args.target.now (the_view c.self.inside) c.args.self.now
        (words_of c.deref.result.now) _ _ c.self.view_is (ap words_of c.deref.ensures.value)
        c.is_there.ensures c.if-not-is_there.true),
    refl,
  );
}

pub returns-then-not-self-clause-leaves : goal.returns-then-not-self-clause-leaves
returns-then-not-self-clause-leaves c = record {
  exactly = (
    mounts_forbidden _ c.args.self.now
        (there_as c.args.target.now (the_view c.self.inside) c.args.self.now
        (words_of c.deref.result.now) _ _ c.self.view_is (ap words_of c.deref.ensures.value)
        c.is_there.ensures c.if-not-is_there.false)
        (ap (λ (t : MountTable). t.permitted) (sym c.self.view_is) ∙ c.if-not-self.true),
    refl,
  );
}

pub returns-then-is_empty_text-clause-leaves : goal.returns-then-is_empty_text-clause-leaves
returns-then-is_empty_text-clause-leaves c = record {
  exactly = (
    mounts_empty _ c.args.self.now
        (there_as c.args.target.now (the_view c.self.inside) c.args.self.now
        (words_of c.deref.result.now) _ _ c.self.view_is (ap words_of c.deref.ensures.value)
        c.is_there.ensures c.if-not-is_there.false)
        (ap (λ (t : MountTable). t.permitted) (sym c.self.view_is) ∙ c.if-not-self.false)
        (elim c.then-is_empty_text.branch [
          | then-is_empty_text-via-then-is_empty_text w ↦
              first_is _ _ (sym c.is_empty_text.ensures ∙ w.if-is_empty_text.true)
          | then-is_empty_text-via-else-is_empty_text+then-is_empty_text-2 w ↦
              second_is _ _
              (sym w.is_empty_text-else-is_empty_text.ensures ∙ w.if-is_empty_text-2.true)
        ]),
    refl,
  );
}

pub returns-clause-leaves : goal.returns-clause-leaves
returns-clause-leaves c =
    leaves_as _ _ _ _ _ (mounts_by_flags _ c.args.self.now
    (there_as c.args.target.now (the_view c.self.inside) c.args.self.now
    (words_of c.deref.result.now) _ _ c.self.view_is (ap words_of c.deref.ensures.value)
    c.is_there.ensures c.if-not-is_there.false)
    (ap (λ (t : MountTable). t.permitted) (sym c.self.view_is) ∙ c.if-not-self.false)
    (neither_is _ _ (sym c.is_empty_text.ensures ∙ c.if-is_empty_text.false)
    (sym c.is_empty_text-else-is_empty_text.ensures ∙ c.if-is_empty_text-2.false)))
    (c.mount_by_flags.ensures.leaves _ refl refl refl refl refl)
