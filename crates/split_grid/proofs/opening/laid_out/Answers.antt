use Rattle.std.proofs.Common.{◌∙◌}
use Rattle.split_grid.proofs.Deals.{begins}
use Rattle.split_grid.proofs.opening.laid_out.Goals as goal

pub new-requires : goal.new-requires
new-requires g c =
    let key = c.args.key.now in
    begins g.T.Fits.fits key.tag key.ids.items _ _ c.args.values.items c.args.places
    (c.deref.ensures.value ∙ c.in_ok-words.ensures.items_if_clones_equal (λ _ h. h))
    c.in_ok-slots.ensures
    c.requires.count
    c.requires.places
    c.requires.differ
    c.requires.fit
