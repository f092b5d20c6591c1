use Rattle.std.proofs.Common.{refl, sym, ap, ◌∙◌}
use Rattle.std.specs.Ordering.{nat_cmp}
use Rattle.std.specs.BTreeMap.{get, BTreeMap}
use Rattle.std.specs.FinMap as map
use Rattle.port_base.proofs.TableViews.{get_view, insert_view, on_lent}
use Rattle.port_base.proofs.table.Table.get_mut.Goals as goal

pub returns : goal.returns
returns g c =
    let es = c.self.inside.entries.entries in
    let k = c.args.key in
    let f = c.get_mut.follows in (
      (
        refl,
        λ w. on_lent c.get_mut.result (get nat_cmp c.self.inside.entries k) c.get_mut.ensures.value
            (λ had.
            insert_view es (f.lender w).entries k w ((f.holds w).3 had).0
            ∙ ap (λ m. map.insert m k w) c.self.view_is),
        ap (λ (m : BTreeMap _ _). map.from_entries {R = nat_cmp} m.entries) f.holds-at-none
            ∙ c.self.view_is,
      ),
      record {
        writes_back = tt;
        value = c.get_mut.ensures.value ∙ sym (get_view es k)
            ∙ ap (λ m. map.get m k) c.self.view_is;
      },
    )
