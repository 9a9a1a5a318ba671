use Rattle.std.proofs.Common.{rules, ◌≡◌, refl, sym, ap, ◌∙◌, subst, map, length}
use Rattle.std.specs.List.{All}
use Rattle.split_grid.specs.Opening.{newcomer_in}
use Rattle.split_grid.proofs.Deals.{all_here}
use Rattle.split_grid.proofs.opening.opened.Goals as goal

pub returns : goal.returns
returns g c =
    let made = c.in_ok-table in
    let key = c.in_ok-key.key in
    let table = made.table.shared.table_id in
    let tag = made.table.shared.key.tag in
    let tagged : tag ≡ key.tag = search rules in
    let dealt = made.ensures.dealt
    ∙ (ap (λ t. map (newcomer_in table t (length key.ids.items)) key.ids.items) (sym tagged)
    ∙ ap (λ l. map (newcomer_in table tag (length l)) l) c.in_ok-key.ensures.ids) in
    record {
      tagged = tagged ∙ c.in_ok-key.ensures.tag;
      counted = refl;
      dealt = dealt;
      here = subst (All (λ n. n.table ≡ table)) (sym dealt) (all_here table tag (length c.args.ids.now) c.args.ids.now);
    }
