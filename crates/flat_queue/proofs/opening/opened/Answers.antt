-- Each pen that sleeps is that of its place, at the desk that the tag names; and the licences are those of the pens.
use Rattle.std.proofs.Common.{◌≡◌, ◌-◌, ◌<◌, ◌≤◌, ◌∙◌, ap, sym, subst, List, [], length, map, refl}
use Rattle.std.specs.List.{All}
use Rattle.std.proofs.lemmas.List.{length-map}
use Rattle.std.proofs.lemmas.Option.{slice_get_within}
use Rattle.std.proofs.lemmas.List.Elements.{All-take, All-replicate}
use Rattle.split_grid.specs.Opening.{newcomer_of as walker_of, places_of}
use Rattle.split_grid.specs.Tokens.{Walking}
use Rattle.announce_board.specs.Opening.{pen_of_place}
use Rattle.announce_board.specs.Testimonies.{Testified}
use Rattle.flat_queue.specs.Gathered.{Gathers, licences_at}
use Rattle.flat_queue.specs.declared.waiting.DeskTag.{DeskTag}
use Rattle.flat_queue.proofs.Pens.{walkers_licensed, left_over, place_for_each}
use Rattle.flat_queue.proofs.opening.opened.Goals as goal

pub new-requires : goal.new-requires
new-requires g c =
    let desk = c.args.desk in
    let tag = c.tag_of-tag.ensures in
    let waiting = c.in_ok-waiting.waiting in
    record {
      fit = λ p x there.
          let pen : x.sleeper ≡ pen_of_place desk.table desk.room p = c.in_ok-waiting.ensures.asleep p x there in
          let within : p < length waiting.items = slice_get_within waiting.items p x there in
          record {
            pen = subst (λ t. x.sleeper ≡ pen_of_place t c.tag_of-tag.result.sample.value.state.room p) (sym tag.table)
                (subst (λ r. x.sleeper ≡ pen_of_place desk.table r p) (sym tag.room) pen);
            within = subst (λ n. p < n) (c.in_ok-waiting.ensures.counted ∙ c.requires.counted ∙ sym tag.places) within;
          };
    }

pub newcomers_of-requires-clause-licences : goal.newcomers_of-requires-clause-licences
newcomers_of-requires-clause-licences g c =
    let table = c.args.desk.table in
    let made = c.in-Ok.ensures.ok in
    let one = λ (w : Walking DeskTag) (t : Testified). t ≡ licences_at w.tag.sample.value.table 1 in
    let tag : c.in-Ok.made.0.tag.sample.value.table ≡ table = ap (λ (t : DeskTag). t.sample.value.table) made.tagged ∙ c.tag_of-tag.ensures.table in
    subst (λ (ws : List (Walking DeskTag)). All (λ w. All (one w) c.in_ok-waiting.licences.items) ws) (sym made.dealt)
    (subst (λ (ls : List Testified). All (λ w. All (one w) ls) (map (walker_of c.in-Ok.made.0) c.args.ids.now)) (sym c.in_ok-waiting.ensures.licences)
    (walkers_licensed c.in-Ok.made.0 c.args.ids.now table (length c.args.pens.items) tag))

pub all_licences-requires : goal.all_licences-requires
all_licences-requires g c =
    let table = c.args.desk.table in
    let n = length c.args.pens.items in
    subst (All (λ (t : Testified). t ≡ licences_at table 1)) (sym c.in_ok-newcomers.ensures.left)
    (All-take (λ (t : Testified). t ≡ licences_at table 1) _ c.in_ok-waiting.licences.items
    (subst (All (λ (t : Testified). t ≡ licences_at table 1)) (sym c.in_ok-waiting.ensures.licences) (All-replicate (λ (t : Testified). t ≡ licences_at table 1) n (licences_at table 1) refl)))

pub invariant_of-queue : goal.invariant_of-queue
invariant_of-queue g c =
    let made = c.in-Ok.ensures.ok in
    let tag = c.tag_of-tag.ensures in
    let desk = c.args.desk in
    let comers = c.in-Ok.made.0.comers in
    let walkers : length c.in-Ok.made.1.items ≡ comers = ap length made.dealt ∙ (length-map c.args.ids.now (walker_of c.in-Ok.made.0) ∙ sym made.counted) in
    let table : c.in-Ok.made.0.tag.sample.value.table ≡ desk.table = ap (λ (t : DeskTag). t.sample.value.table) made.tagged ∙ tag.table in
    let left : length c.in_ok-newcomers.left.items ≡ desk.places - comers =
    left_over (length c.args.pens.items) (length c.in-Ok.made.1.items) (licences_at desk.table 1) c.in_ok-waiting.licences.items c.in_ok-newcomers.left.items c.in_ok-waiting.ensures.licences c.in_ok-newcomers.ensures.left
    ∙ (ap (λ n. n - length c.in-Ok.made.1.items) c.requires.counted ∙ ap (λ n. desk.places - n) walkers) in
    record {
      table = table;
      room = ap (λ (t : DeskTag). t.sample.value.state.room) made.tagged ∙ tag.room;
      places_are = ap (λ (t : DeskTag). t.places) made.tagged ∙ tag.places;
      terms_are = ap (λ (t : DeskTag). t.terms) made.tagged ∙ tag.terms;
      counted = c.requires.places ∙ ap places_of (sym made.counted);
      some = subst (λ n. 0 < n) (sym made.counted) c.requires.ids.size.some;
      few = subst (λ n. n ≤ desk.places) (sym made.counted) (subst (λ n. length c.args.ids.now ≤ n) (sym c.requires.places) (place_for_each (length c.args.ids.now) c.requires.ids.size.some));
      licensed = subst (Gathers desk.table [] (desk.places - comers)) (sym c.in_ok-spare.ensures) (subst (λ n. Gathers desk.table [] n c.all_licences.result) left c.all_licences.ensures);
    }
