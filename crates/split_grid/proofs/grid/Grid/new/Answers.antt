use Rattle.std.proofs.Common.{rules, ◌≡◌, length, refl, sym, ◌∙◌}
use Rattle.split_core.specs.Ids.{OpenGrid}
use Rattle.split_grid.proofs.Deals.{places_are}
use Rattle.split_grid.proofs.grid.Grid.new.Goals as goal

pub opened-requires-clause-differ : goal.opened-requires-clause-differ
opened-requires-clause-differ g c = let open_grid : OpenGrid c.args.ids.now = search rules in c.law_ids.ensures c.args.ids.now open_grid

pub returns-then-len-places-clause-count : goal.returns-then-len-places-clause-count
returns-then-len-places-clause-count g c =
    let open_grid : OpenGrid c.args.ids.now = search rules in
    let all = places_are c.law_places.ensures (length c.args.ids.now) in
    let long : length c.args.values.items ≡ c.len.result = search rules in
    (λ _. (open_grid, λ e. c.if-len-places.true (sym long ∙ (e ∙ (sym all ∙ sym c.place_number-places.ensures)))), λ _. refl)

pub returns-in-Ok-clause-count : goal.returns-in-Ok-clause-count
returns-in-Ok-clause-count g c =
    let all = places_are c.law_places.ensures (length c.args.ids.now) in
    let long : length c.args.values.items ≡ c.len.result = search rules in
    (λ e. cc, λ h. absurd (h.1 (long ∙ (c.if-len-places.false ∙ (c.place_number-places.ensures ∙ all)))))

pub returns-in-Err-opened-clause-count : goal.returns-in-Err-opened-clause-count
returns-in-Err-opened-clause-count g c =
    let all = places_are c.law_places.ensures (length c.args.ids.now) in
    let long : length c.args.values.items ≡ c.len.result = search rules in
    (λ e. cc, λ h. absurd (h.1 (long ∙ (c.if-len-places.false ∙ (c.place_number-places.ensures ∙ all)))))

pub returns-in-Err-opened-clause-memory : goal.returns-in-Err-opened-clause-memory
returns-in-Err-opened-clause-memory g c =
    let open_grid : OpenGrid c.args.ids.now = search rules in
    let all = places_are c.law_places.ensures (length c.args.ids.now) in
    let long : length c.args.values.items ≡ c.len.result = search rules in
    λ _. (open_grid, long ∙ (c.if-len-places.false ∙ (c.place_number-places.ensures ∙ all)))
