use Rattle.std.proofs.Common.{◌≡◌, ◌-◌, ◌+◌, suc, ◌∙◌, ap, sym, map, arith, ◌++◌, ◌∷◌, []}
use Rattle.std.proofs.lemmas.Result.{err_from_is_err_and}
use Rattle.std.proofs.lemmas.List.{map_push}
use Rattle.p9_wire.specs.Items.{Along-more, Along-stops, Along-memory, Along-done}
use Rattle.p9_wire.proofs.items.decode_items.Goals as goal

pub returns-in_err-item-clause-decodes : goal.returns-in_err-item-clause-decodes
returns-in_err-item-clause-decodes g c =
    let p = err_from_is_err_and c.from_residual.result c.from_residual.ensures.1 in
    let n = c.args.count - (c.loop.counter + 1) in
    let at : c.args.count - c.loop.counter ≡ suc n = omega arith in
    rw (p.1, p.2) (Along-stops g.T.WireFormat.reading g.T.WireFormat.view
    (λ v. map g.T.WireFormat.view v.items) c.args.count n (c.args.count - c.loop.counter)
    (map g.T.WireFormat.view c.loop.items.items) _ _ _ _ _ _ at c.in_err-item.field-0.0
    c.loop.invariant.0 c.in_err-item.ensures.decodes)

pub returns-in_err-push-clause-decodes : goal.returns-in_err-push-clause-decodes
returns-in_err-push-clause-decodes g c =
    let p = err_from_is_err_and c.from_residual-in_err-push.result
    c.from_residual-in_err-push.ensures.1 in
    let n = c.args.count - (c.loop.counter + 1) in
    let at : c.args.count - c.loop.counter ≡ suc n = omega arith in
    rw (p.1, p.2) (Along-memory g.T.WireFormat.reading
    (λ v. map g.T.WireFormat.view v.items) c.args.count n _ _ _ _ _
    (Along-more g.T.WireFormat.reading g.T.WireFormat.view c.args.count n
    (c.args.count - c.loop.counter) (map g.T.WireFormat.view c.loop.items.items) _ _ _ _ _ _
    c.in_ok-item.item at c.loop.invariant.0 c.in_ok-item.ensures.decodes))

pub loop-preserved : goal.loop-preserved
loop-preserved g c =
    let n = c.args.count - (c.loop.counter + 1) in
    let at : c.args.count - c.loop.counter ≡ suc n = omega arith in
    let front : map g.T.WireFormat.view c.loop.items.items ++ g.T.WireFormat.view c.in_ok-item.item
    ∷ [] ≡ map g.T.WireFormat.view c.push.new.self.items =
    sym (ap (map g.T.WireFormat.view) c.in_ok-push.ensures.items
    ∙ map_push g.T.WireFormat.view c.loop.items.items c.in_ok-item.item) in (
      rw (← front) (Along-more g.T.WireFormat.reading g.T.WireFormat.view c.args.count n
          (c.args.count - c.loop.counter) (map g.T.WireFormat.view c.loop.items.items) _ _ _ _ _ _
          c.in_ok-item.item at c.loop.invariant.0 c.in_ok-item.ensures.decodes),
      c.in_ok-item.ensures.kept ∙ c.loop.invariant.1,
      c.in_ok-item.ensures.lender
          ∙ c.loop.invariant.2,
    )

pub returns-clause-decodes : goal.returns-clause-decodes
returns-clause-decodes g c =
    Along-done g.T.WireFormat.reading (λ v. map g.T.WireFormat.view v.items) c.args.count
    (c.args.count - c.loop.counter) _ _ _ _ c.loop.items (omega arith) c.loop.invariant.0
